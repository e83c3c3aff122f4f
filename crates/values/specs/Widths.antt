-- The width of the format codes 40 to 9F, by their upper half: document 02, request 6, and in words Part 1 section 1.2.1.
-- Assumes nothing: these are definitions.
use Rattle.std.specs.Prelude.{ℕ, ◌-◌, ◌/◌, ◌^◌, cond, ltb, Option, None, Some}
use Rattle.values.specs.Value.{Kind, fixed, boolean, variable, compound}

-- no byte for 4, and below it there is no code; for 5 to 9, two to the power of the half less 5
unfoldable pub fixed_width : ℕ → ℕ
fixed_width c = cond (ltb (c / 16) 5) 0 (2 ^ (c / 16 - 5))

-- the codes up to 9F have a width, and no others
unfoldable pub width_at : ℕ → Option ℕ
width_at c = cond (ltb c 0xa0) (Some (fixed_width c)) None

-- the width in a kind of the table of section 1.6: a boolean is a byte. Where a size says how long the body is, there is none
unfoldable pub width_in : Kind → Option ℕ
width_in (fixed w) = Some w
width_in boolean = Some 1
width_in (variable w) = None
width_in (compound shape w) = None
