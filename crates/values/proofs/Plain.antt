-- Known codes, plain codes, and C0 and C1: the kind of each.
-- Assumes nothing.
use mathlib.Core.Path.{◌≡◌, refl, sym, ap, ◌∙◌}
use mathlib.Core.Bool.{true, false, cond}
use Rattle.std.specs.Prelude.{None, Some}
use Prim.Native.Nat.{ℕ, zero, suc, ◌/◌, ◌%◌, ◌<◌, ◌≤◌}
use native.Mathlib.Omega.{arith}
use lib.Dec.{eqb}
use borrow.Author.Tests.{eqb-true, ne_eqb, lt-ltb, le-ltb}
use Rattle.octets.specs.Verdict.{Verdict, refuse, accept, accepts}
use Rattle.values.specs.Value.{list, map, Kind, fixed, boolean, variable, compound, codes, kind_in, kind_of}
use Rattle.values.specs.Widths.{fixed_width, width_at, width_in}
use Rattle.values.specs.Plain.{is_known, plain_kind, is_plain}
use Rattle.values.proofs.Widths.{width_right}
use Rattle.values.proofs.Bounds.{holds_refuse, kind_holds}

apart : (n : ℕ) → Some n ≡ None → ⊥
apart n e = let z : ◌≡◌ {A = ℕ} 0 1 = cc in omega arith

-- ---- whether there is such a code

module _ (c : ℕ) where
  pub known_kind : is_known c ≡ true → (k : Kind) × (kind_of c ≡ accept k)
  unfolding is_known accepts
  known_kind t = go (kind_of c) refl t
    where
      go : (v : Verdict Kind) → kind_of c ≡ v → accepts v ≡ true → (k : Kind) × (kind_of c ≡ accept k)
      go (accept k) e h = (k, e)
      go (refuse j) e h = let z : ◌≡◌ {A = ℕ} 0 1 = cc in absurd (omega arith)

  pub unknown_kind : is_known c ≡ false → kind_of c ≡ refuse 6
  unfolding is_known accepts
  unknown_kind t = go (kind_of c) refl t
    where
      go : (v : Verdict Kind) → kind_of c ≡ v → accepts v ≡ false → kind_of c ≡ refuse 6
      go (accept k) e h = let z : ◌≡◌ {A = ℕ} 0 1 = cc in absurd (omega arith)
      go (refuse j) e h = e ∙ ap refuse (holds_refuse (λ (k : Kind). Unit {0}) (kind_of c) j (kind_holds c) e)

-- ---- a plain code

module _ (c : ℕ) (p : is_plain c ≡ true) where
  -- up to 9F the width is that of the upper half
  pub plain_fixed : c < 160 → kind_of c ≡ accept (fixed (fixed_width c))
  unfolding is_plain width_in width_at
  plain_fixed h = go (kind_of c) refl p
    where
      go : (v : Verdict Kind) → kind_of c ≡ v → plain_kind v ≡ true → kind_of c ≡ accept (fixed (fixed_width c))
      go (accept (fixed w)) e t =
          let q : Some w ≡ Some (fixed_width c) = width_right c (fixed w) e ∙ rw (lt-ltb c 160 h) in
          let k : w ≡ fixed_width c = cc in
          e ∙ rw k
      go (accept boolean) e t = let z : ◌≡◌ {A = ℕ} 0 1 = cc in absurd (omega arith)
      go (accept (variable w)) e t =
          let q : None ≡ Some (fixed_width c) = width_right c (variable w) e ∙ rw (lt-ltb c 160 h) in
          absurd (apart _ (sym q))
      go (accept (compound shape w)) e t = let z : ◌≡◌ {A = ℕ} 0 1 = cc in absurd (omega arith)
      go (refuse k) e t = let z : ◌≡◌ {A = ℕ} 0 1 = cc in absurd (omega arith)

  -- from A0 on a byte has the size
  pub plain_variable : 160 ≤ c → kind_of c ≡ accept (variable 1)
  unfolding is_plain width_in width_at
  plain_variable h = go (kind_of c) refl p
    where
      go : (v : Verdict Kind) → kind_of c ≡ v → plain_kind v ≡ true → kind_of c ≡ accept (variable 1)
      go (accept (fixed w)) e t =
          let q : Some w ≡ None = width_right c (fixed w) e ∙ rw (le-ltb c 160 h) in
          absurd (apart _ q)
      go (accept boolean) e t = let z : ◌≡◌ {A = ℕ} 0 1 = cc in absurd (omega arith)
      go (accept (variable w)) e t = let k : w ≡ 1 = eqb-true w 1 t in e ∙ rw k
      go (accept (compound shape w)) e t = let z : ◌≡◌ {A = ℕ} 0 1 = cc in absurd (omega arith)
      go (refuse k) e t = let z : ◌≡◌ {A = ℕ} 0 1 = cc in absurd (omega arith)

-- ---- C0 and C1

module _ (c : ℕ) (h : c / 2 ≡ 0x60) where
  pub small_kind : kind_of c ≡ accept (compound (cond (eqb (c % 2) 0) list map) 1)
  unfolding kind_of kind_in codes
  small_kind = go (c % 2) refl
    where
      go : (n : ℕ) → c % 2 ≡ n → kind_of c ≡ accept (compound (cond (eqb n 0) list map) 1)
      go zero q = let k : c ≡ 0xc0 = omega arith in rw k
      go (suc zero) q = let k : c ≡ 0xc1 = omega arith in rw k
      go (suc (suc n)) q = absurd (omega arith)

  pub small_list : c % 2 ≡ 0 → kind_of c ≡ accept (compound list 1)
  small_list e = small_kind ∙ rw e

  pub small_map : (c % 2 ≡ 0 → ⊥) → kind_of c ≡ accept (compound map 1)
  small_map n = small_kind ∙ rw (ne_eqb (c % 2) 0 n)
