-- Null, the value that stands for a missing one: Part 1 section 1.6.1.
-- Assumes nothing: these are definitions.
use Rattle.std.specs.Prelude.{ℕ, Bool, List, [], ◌∷◌}
use Rattle.octets.specs.Octets.{starts_with}

abbrev pub null : List ℕ
null = 0x40 ∷ []

abbrev pub is_null : List ℕ → Bool
is_null f = starts_with null f

-- a field that is missing is null
abbrev pub or_null : List ℕ → List ℕ
or_null [] = null
or_null (b ∷ f) = b ∷ f
