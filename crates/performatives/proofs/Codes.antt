-- Which format code bytes start with.
-- Assumes nothing.
use mathlib.Core.Path.{◌≡◌, refl, sym, ◌∙◌, subst}
use mathlib.Core.Bool.{Bool, true, false, ◌&&◌}
use mathlib.Core.List.{List, [], ◌∷◌}
use Rattle.std.specs.Prelude.{None, Some}
use Rattle.std.specs.List.{list_any, slice_get}
use Prim.Native.Nat.{ℕ, zero, suc, ◌+◌, ◌≤◌}
use native.Mathlib.Omega.{arith}
use lib.ListN.{length}
use lib.Dec.{eqb, leb}
use borrow.Author.Tests.{eq-eqb, ne_eqb, eqb-true, eqb-false, leb-true}
use Rattle.octets.specs.Verdict.{Verdict, refuse, accept}
use Rattle.performatives.proofs.Bools.{and_first, and_second}
use Rattle.values.specs.Value.{Kind, fixed, boolean, variable, compound, codes, kind_in, kind_of, run, value_end}
use Rattle.values.proofs.Laws.{value_fixed}
use Rattle.octets.specs.Octets.{is_in, starts_with}

pub starts_none : (codes s : List ℕ) → None ≡ slice_get s 0 → false ≡ starts_with codes s
unfolding starts_with
starts_none codes [] h = refl
starts_none codes (c ∷ s) h = let z : ◌≡◌ {A = ℕ} 0 1 = cc in absurd (omega arith)

any_in : (codes : List ℕ) (c : ℕ) → list_any (λ d. eqb d c) codes ≡ is_in codes c
any_in [] c = refl
any_in (d ∷ ds) c = go (eqb d c) refl (any_in ds c)
  where
    go : (b : Bool) → eqb d c ≡ b → list_any (λ d. eqb d c) ds ≡ is_in ds c → list_any (λ d. eqb d c) (d ∷ ds) ≡ is_in (d ∷ ds) c
    go true e more = rw (e, eq-eqb c d (sym (eqb-true d c e)))
    go false e more = rw (e, ne_eqb c d (λ q. eqb-false d c e (sym q))) more

pub starts_any : (codes s : List ℕ) (c : ℕ) (b : Bool) → Some c ≡ slice_get s 0 → b ≡ list_any (λ d. eqb d c) codes → b ≡ starts_with codes s
unfolding starts_with
starts_any codes [] c b e q = let z : ◌≡◌ {A = ℕ} 0 1 = cc in absurd (omega arith)
starts_any codes (d ∷ s) c b e q = let k : c ≡ d = cc in q ∙ any_in codes c ∙ rw k

pub starts_some : (codes s : List ℕ) → starts_with codes s ≡ true → 1 ≤ length s
unfolding starts_with
starts_some codes [] h = let z : ◌≡◌ {A = ℕ} 0 1 = cc in absurd (omega arith)
starts_some codes (c ∷ s) h = omega arith

-- ---- codes of a fixed width

unfoldable pub width_below : ℕ → Verdict Kind → Bool
width_below w (accept (fixed v)) = leb v w
width_below w (accept boolean) = false
width_below w (accept (variable v)) = false
width_below w (accept (compound shape v)) = false
width_below w (refuse k) = false

-- whether each of these is a code of at most so many bytes
unfoldable pub narrow : ℕ → List ℕ → Bool
narrow w [] = true
narrow w (c ∷ cs) = width_below w (kind_of c) && narrow w cs

abbrev Narrow : ℕ → ℕ → Type 0
Narrow w c = (n : ℕ) × (kind_of c ≡ accept (fixed n)) × (n ≤ w)

below_is : (w : ℕ) (v : Verdict Kind) → width_below w v ≡ true → (n : ℕ) × (v ≡ accept (fixed n)) × (n ≤ w)
unfolding width_below
below_is w (accept (fixed n)) h = (n, refl, leb-true _ _ h)
below_is w (accept boolean) h = let z : ◌≡◌ {A = ℕ} 0 1 = cc in absurd (omega arith)
below_is w (accept (variable v)) h = let z : ◌≡◌ {A = ℕ} 0 1 = cc in absurd (omega arith)
below_is w (accept (compound shape v)) h = let z : ◌≡◌ {A = ℕ} 0 1 = cc in absurd (omega arith)
below_is w (refuse k) h = let z : ◌≡◌ {A = ℕ} 0 1 = cc in absurd (omega arith)

narrow_in : (w c : ℕ) (cs : List ℕ) → narrow w cs ≡ true → is_in cs c ≡ true → Narrow w c
unfolding narrow
narrow_in w c [] h e = let z : ◌≡◌ {A = ℕ} 0 1 = cc in absurd (omega arith)
narrow_in w c (d ∷ ds) h e = go (eqb c d) refl (narrow_in w c ds (and_second (width_below w (kind_of d)) _ h))
  where
    go : (b : Bool) → eqb c d ≡ b → (is_in ds c ≡ true → Narrow w c) → Narrow w c
    go true q rest =
        subst (λ (x : ℕ). Narrow w x) (sym (eqb-true c d q)) (below_is w (kind_of d) (and_first (width_below w (kind_of d)) _ h))
    go false q rest = rest (rw q at e)

-- a value that starts with one of them has no more bytes
pub narrow_ends : (d w : ℕ) (cs s : List ℕ) (n : ℕ) → narrow w cs ≡ true → starts_with cs s ≡ true → value_end d s ≡ accept n → n ≤ 1 + w
unfolding starts_with value_end run
narrow_ends zero w cs s n t h e = let z : ◌≡◌ {A = ℕ} 0 1 = cc in absurd (omega arith)
narrow_ends (suc d) w cs [] n t h e = let z : ◌≡◌ {A = ℕ} 0 1 = cc in absurd (omega arith)
narrow_ends (suc d) w cs (c ∷ s) n t h e =
    let b = narrow_in w c cs t h in
    let q = value_fixed d c b.0 s n b.1 e in
    omega (arith, b.2, q.0)

pub ulong_ends : (d : ℕ) (s : List ℕ) (n : ℕ) → starts_with (0x80 ∷ 0x53 ∷ 0x44 ∷ []) s ≡ true → value_end d s ≡ accept n → n ≤ 9
unfolding narrow width_below kind_of kind_in codes
ulong_ends d s n = narrow_ends d 8 (0x80 ∷ 0x53 ∷ 0x44 ∷ []) s n refl

pub uint_ends : (d : ℕ) (s : List ℕ) (n : ℕ) → starts_with (0x70 ∷ 0x52 ∷ 0x43 ∷ []) s ≡ true → value_end d s ≡ accept n → n ≤ 5
unfolding narrow width_below kind_of kind_in codes
uint_ends d s n = narrow_ends d 4 (0x70 ∷ 0x52 ∷ 0x43 ∷ []) s n refl

pub ushort_ends : (d : ℕ) (s : List ℕ) (n : ℕ) → starts_with (0x60 ∷ []) s ≡ true → value_end d s ≡ accept n → n ≤ 3
unfolding narrow width_below kind_of kind_in codes
ushort_ends d s n = narrow_ends d 2 (0x60 ∷ []) s n refl
