-- The values of a list one after the other: they fill it, and what is kept of them comes about from the last one on.
-- Assumes nothing.
use mathlib.Core.Path.{◌≡◌, refl, sym, ap, ◌∙◌}
use mathlib.Core.Bool.{Bool}
use mathlib.Core.List.{List, [], ◌∷◌, ◌++◌}
use Prim.Native.Nat.{ℕ, zero, suc, ◌+◌, ◌-◌, ◌^◌, ◌<◌, ◌≤◌}
use native.Mathlib.Omega.{arith}
use mir.Syntax.{w32}
use mir.Val.{Fits}
use lib.ListN.{length, take, drop, length-drop, take-append-drop}
use lib.Seq.{length-take-le}
use Rattle.octets.specs.Verdict.{Verdict, refuse, accept, and_then}
use Rattle.octets.specs.Octets.{starts_with}
use Rattle.octets.proofs.Laws.{then_accept, then_refuse}
use Rattle.values.specs.Value.{value_end}
use Rattle.values.specs.Null.{is_null, or_null}
use Rattle.values.proofs.Laws.{value_within, value_some}
use Rattle.values.proofs.Apart.{then_was}
use Rattle.serializer.specs.Written.{joined, trimmed}
use Rattle.performatives.specs.Performative.{split}
use Rattle.session_frame.specs.declared.field.Size.{Size}
use Rattle.session_frame.specs.declared.field.Kept.{Kept}
use Rattle.session_frame.specs.Parts.{size_of, kept_of, kept_before, others_of}
use Rattle.session_frame.proofs.Trim.{kept_before_lem, kept_none, trimmed_few, trimmed_short}
use Rattle.session_frame.proofs.Steps.{rest, rest_is}

accepted : {A : Type 0} (a b : A) → ◌≡◌ {A = Verdict A} (accept a) (accept b) → a ≡ b
accepted a b e = cc

-- ---- what was split

-- the first value, and the others
pub record Splits (d k : ℕ) (s : List ℕ) (fs : List (List ℕ)) : Type 0 where
  pub size : ℕ
  pub others : List (List ℕ)
  pub ends : value_end d s ≡ accept size
  pub splits : split d k (drop size s) ≡ accept others
  pub both : fs ≡ take size s ∷ others

pub split_was : (d k : ℕ) (s : List ℕ) (fs : List (List ℕ)) → split d (suc k) s ≡ accept fs → Splits d k s fs
unfolding split
split_was d k s fs e =
    let a = then_was (value_end d s) _ fs e in
    let b = then_was (split d k (drop a.0 s)) _ fs a.2 in
    record { size = a.0; others = b.0; ends = a.1; splits = b.1; both = accepted fs (take a.0 s ∷ b.0) (sym b.2) }

pub split_none : (d : ℕ) (s : List ℕ) (fs : List (List ℕ)) → split d 0 s ≡ accept fs → (fs ≡ []) × (s ≡ [])
unfolding split
split_none d [] fs e = (accepted fs [] (sym e), refl)
split_none d (b ∷ s) fs e = let z : ◌≡◌ {A = ℕ} 0 1 = cc in absurd (omega arith)

-- they fill it
pub split_joined : (d k : ℕ) (s : List ℕ) (fs : List (List ℕ)) → split d k s ≡ accept fs → joined fs ≡ s
unfolding joined
split_joined d zero s fs e = let a = split_none d s fs e in rw (a.0, a.1)
split_joined d (suc k) s fs e =
    let a = split_was d k s fs e in
    rw a.both (ap (λ (l : List ℕ). take a.size s ++ l) (split_joined d k (drop a.size s) a.others a.splits) ∙ take-append-drop a.size s)

pub split_count : (d k : ℕ) (s : List ℕ) (fs : List (List ℕ)) → split d k s ≡ accept fs → length fs ≡ k
split_count d zero s fs e = let a = split_none d s fs e in rw a.0
split_count d (suc k) s fs e =
    let a = split_was d k s fs e in
    rw a.both (ap suc (split_count d k (drop a.size s) a.others a.splits))

-- ---- trim_values

-- what is kept of values in s
pub others_bound : (k : ℕ) (s : List ℕ) (r : Kept) → others_of k s ≡ accept r → (r.count ≤ k) × (r.len ≤ length s)
unfolding others_of kept_of
others_bound k s r e =
    let a = then_was (split 14 k s) _ r e in
    let q : r ≡ kept_of (trimmed a.0) = accepted r _ (sym a.2) in
    let c : length a.0 ≡ k = split_count 14 k s a.0 a.1 in
    let l : length (joined a.0) ≡ length s = ap length (split_joined 14 k s a.0 a.1) in
    rw q (omega (arith, trimmed_few a.0), omega (arith, trimmed_short a.0))

pub values_none : (count : ℕ) (s : List ℕ) → count ≡ 0 → length s ≡ 0 → accept (record { count = 0; len = 0 }) ≡ others_of count s
unfolding others_of split and_then
values_none count [] e h = rw e (ap accept kept_none)
values_none count (b ∷ s) e h = absurd (omega arith)

pub values_left : (count : ℕ) (s : List ℕ) → count ≡ 0 → (length s ≡ 0 → ⊥) → refuse 6 ≡ others_of count s
unfolding others_of split and_then
values_left count [] e h = absurd (h refl)
values_left count (b ∷ s) e h = rw e

-- the next step, where a value of n bytes stands first
module _ (k n : ℕ) (s : List ℕ) (v : value_end 14 s ≡ accept n) where
  others_refused : (j : ℕ) → others_of k (drop n s) ≡ refuse j → others_of (suc k) s ≡ refuse j
  unfolding others_of split
  others_refused j e = go (split 14 k (drop n s)) refl
    where
      go : (w : Verdict (List (List ℕ))) → split 14 k (drop n s) ≡ w → others_of (suc k) s ≡ refuse j
      go (refuse i) q =
          let x : others_of k (drop n s) ≡ refuse i = then_refuse (split 14 k (drop n s)) _ i q in
          let y : split 14 (suc k) s ≡ refuse i = then_accept (value_end 14 s) _ n v ∙ then_refuse (split 14 k (drop n s)) _ i q in
          then_refuse (split 14 (suc k) s) _ i y ∙ sym x ∙ e
      go (accept fs) q =
          let x : others_of k (drop n s) ≡ accept (kept_of (trimmed fs)) = then_accept (split 14 k (drop n s)) _ fs q in
          let z : ◌≡◌ {A = ℕ} 0 1 = cc in
          absurd (omega arith)

  others_accepted : (r : Kept) → others_of k (drop n s) ≡ accept r → others_of (suc k) s ≡ accept (kept_before (size_of (take n s)) r)
  unfolding others_of split
  others_accepted r e =
      let a = then_was (split 14 k (drop n s)) _ r e in
      let q : r ≡ kept_of (trimmed a.0) = accepted r _ (sym a.2) in
      let w : split 14 (suc k) s ≡ accept (take n s ∷ a.0) = then_accept (value_end 14 s) _ n v ∙ then_accept (split 14 k (drop n s)) _ a.0 a.1 in
      then_accept (split 14 (suc k) s) _ (take n s ∷ a.0) w ∙ ap accept (sym (kept_before_lem (take n s) a.0)) ∙ ap (λ (x : Kept). accept (kept_before (size_of (take n s)) x)) (sym q)

-- the first n bytes of s, of which there is one at least
first_size : (s : List ℕ) (n : ℕ) (b : Bool) → 1 ≤ n → n ≤ length s → b ≡ is_null (or_null s) → ◌≡◌ {A = Size} (record { len = n; null = b }) (size_of (take n s))
unfolding size_of starts_with
first_size [] n b h k e = absurd (omega arith)
first_size (c ∷ s) zero b h k e = absurd (omega arith)
first_size (c ∷ s) (suc n) b h k e = let l : length (take n s) ≡ n = length-take-le n s (omega arith) in rw (e, l)

pub value_in : (d : ℕ) (s : List ℕ) (n : ℕ) → accept n ≡ value_end d s → n ≤ length s
value_in d s n e = value_within d s n (sym e)

module _ (count : ℕ) (s : List ℕ) (some_left : count ≡ 0 → ⊥) where
  pub value_malformed : refuse 6 ≡ value_end 14 s → refuse 6 ≡ others_of count s
  unfolding others_of split and_then
  value_malformed e = go count some_left
    where
      go : (count : ℕ) → (count ≡ 0 → ⊥) → refuse 6 ≡ others_of count s
      go zero h = absurd (h refl)
      go (suc k) h = rw (← e)

  module _ (n : ℕ) (e : accept n ≡ value_end 14 s) where
    value_ends : value_end 14 s ≡ accept n
    value_ends = sym e

    pub others_malformed : refuse 6 ≡ others_of (count - 1) (rest s n) → refuse 6 ≡ others_of count s
    others_malformed o = go count some_left (sym o)
      where
        go : (count : ℕ) → (count ≡ 0 → ⊥) → others_of (count - 1) (rest s n) ≡ refuse 6 → refuse 6 ≡ others_of count s
        go zero h x = absurd (h refl)
        go (suc k) h x = let m : suc k - 1 ≡ k = omega arith in sym (others_refused k n s value_ends 6 (rw (m, rest_is s n) at x))

    module _ (r : Kept) (o : accept r ≡ others_of (count - 1) (rest s n)) where
      others_are : others_of (count - 1) (rest s n) ≡ accept r
      others_are = sym o

      others_in : (r.count ≤ count - 1) × (r.len ≤ length s - n)
      others_in =
          let b = others_bound (count - 1) (rest s n) r others_are in
          let l : length (rest s n) ≡ length s - n = ap length (rest_is s n) ∙ length-drop n s in
          (b.0, omega (arith, b.1))

      pub count_fits : Fits w32 count → r.count + 1 < 2 ^ 64
      count_fits f = let b = others_in in omega (arith, b.0)

      pub len_fits : length s < 2 ^ 64 → r.len + n < 2 ^ 64
      len_fits l = let b = others_in in omega (arith, b.1, value_in 14 s n e)

      pub values_kept : (b : Bool) (t : Kept) → b ≡ is_null (or_null s) → t ≡ kept_before (record { len = n; null = b }) r → accept t ≡ others_of count s
      values_kept b t x y = go count some_left others_are
        where
          go : (count : ℕ) → (count ≡ 0 → ⊥) → others_of (count - 1) (rest s n) ≡ accept r → accept t ≡ others_of count s
          go zero h z = absurd (h refl)
          go (suc k) h z = let m : suc k - 1 ≡ k = omega arith in sym (others_accepted k n s value_ends r (rw (m, rest_is s n) at z) ∙ ap accept (ap (λ (f : Size). kept_before f r) (sym (first_size s n b (value_some 14 s n value_ends) (value_in 14 s n e) x)) ∙ sym y))
