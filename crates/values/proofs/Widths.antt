-- The upper half gives every code that exists the width that the table of section 1.6 gives it: a test that antt computes over the table.
-- Assumes nothing.
use mathlib.Core.Path.{◌≡◌, refl, sym}
use mathlib.Core.Bool.{Bool, true, false, cond}
use mathlib.Core.List.{List, [], ◌∷◌, map}
use Rattle.std.specs.Prelude.{Option, Some}
use Prim.Native.Nat.{ℕ}
use native.Mathlib.Omega.{arith}
use lib.Dec.{eqb}
use borrow.Author.Tests.{eqb-true}
use Rattle.octets.specs.Verdict.{accept}
use Rattle.values.specs.Value.{Kind, boolean, codes, kind_in, kind_of}
use Rattle.values.specs.Widths.{fixed_width, width_at, width_in}

-- the widths of a table, row by row, and those of the upper halves of its codes
abbrev in_table : List (ℕ × Kind) → List (Option ℕ)
in_table ps = map (λ (p : ℕ × Kind). width_in p.1) ps

abbrev by_half : List (ℕ × Kind) → List (Option ℕ)
by_half ps = map (λ (p : ℕ × Kind). width_at p.0) ps

rows_agree : in_table codes ≡ by_half codes
unfolding codes fixed_width width_at width_in
rows_agree = refl

found : (ps : List (ℕ × Kind)) → in_table ps ≡ by_half ps → (c : ℕ) (k : Kind) → kind_in ps c ≡ accept k → width_in k ≡ width_at c
unfolding kind_in
found [] h c k e = let z : ◌≡◌ {A = ℕ} 0 1 = cc in absurd (omega arith)
found (p ∷ ps) h c k e =
    let more : in_table ps ≡ by_half ps = cc in
    go (eqb c p.0) refl e (found ps more c k)
  where
    go : (b : Bool) → eqb c p.0 ≡ b → cond b (accept p.1) (kind_in ps c) ≡ accept k → (kind_in ps c ≡ accept k → width_in k ≡ width_at c) → width_in k ≡ width_at c
    go true q t more =
        let is : p.1 ≡ k = cc in
        let same : width_in p.1 ≡ width_at p.0 = cc in
        rw (← is, eqb-true c p.0 q) same
    go false q t more = more t

-- at every code that exists, 56 too: up to 9F the width of the upper half, and from A0 on none
pub width_right : (c : ℕ) (k : Kind) → kind_of c ≡ accept k → width_in k ≡ width_at c
unfolding kind_of
width_right c k e = found codes rows_agree c k e

-- a byte for the boolean
pub boolean_width : fixed_width 0x56 ≡ 1
unfolding codes kind_in kind_of width_at width_in
boolean_width = let q : Some (fixed_width 0x56) ≡ Some 1 = sym (width_right 0x56 boolean refl) in cc
