-- What each case of an answer says, and of what passes between the private functions.
-- Assumes nothing: these are definitions.
use Rattle.std.specs.Prelude.{ℕ, ◌+◌, Option, None, Some}
use Rattle.octets.specs.Verdict.{Verdict, refuse, accept, and_then}
use Rattle.values.specs.declared.format_code.Shape as S
use Rattle.values.specs.declared.format_code.Shape.TheVariants.{List as ListShape, Map as MapShape, Array as ArrayShape}
use Rattle.values.specs.declared.format_code.Width.{Width}
use Rattle.values.specs.declared.format_code.Width.TheVariants.{One, Four}
use Rattle.values.specs.declared.format_code.Kind as K
use Rattle.values.specs.declared.format_code.Kind.TheVariants.{Fixed, Boolean, Variable, List, Map, Array}
use Rattle.values.specs.Value.{Reader, Shape, list, map, array, Kind, fixed, boolean, variable, compound, opening}
use Rattle.values.specs.Widths.{fixed_width}

-- what is read; nothing where it is malformed
abbrev pub well_formed : {A : Type 0} → Option A → Verdict A
well_formed (Some a) = accept a
well_formed None = refuse 6

-- the place after what stands at a place; 0 where that is malformed
abbrev pub place_after : ℕ → Verdict ℕ → ℕ
place_after at (accept n) = at + n
place_after at (refuse k) = 0

-- how many bytes sizes and counts have
abbrev pub width_of : Width → ℕ
width_of One = 1
width_of Four = 4

abbrev pub shape_of : S.Shape → Shape
shape_of ListShape = list
shape_of MapShape = map
shape_of ArrayShape = array

abbrev pub kind_said : K.Kind → Kind
kind_said (Fixed c) = fixed (fixed_width c)
kind_said Boolean = boolean
kind_said (Variable width) = variable (width_of width)
kind_said (List width) = compound list (width_of width)
kind_said (Map width) = compound map (width_of width)
kind_said (Array width) = compound array (width_of width)

abbrev pub code_said : Option K.Kind → Verdict Kind
code_said (Some k) = accept (kind_said k)
code_said None = refuse 6

-- where a compound ends that has its size, as many bytes as that says, and in these its count
unfoldable pub end_in : ℕ → Reader
end_in w s = and_then (opening list w s) (λ o. accept (w + o.0))
