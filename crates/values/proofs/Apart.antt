-- What a reader accepted went through each of its steps, and what goes through them is accepted.
-- Assumes nothing.
use mathlib.Core.Path.{◌≡◌, refl, sym, ap, ◌∙◌}
use mathlib.Core.Bool.{true}
use mathlib.Core.List.{List}
use Prim.Native.Nat.{ℕ, ◌+◌, ◌-◌, ◌≤◌}
use native.Mathlib.Omega.{arith}
use lib.ListN.{length, take, drop}
use lib.Dec.{leb, eqb}
use borrow.Author.Tests.{leb-true, le-leb, eqb-true, eq-eqb}
use Rattle.octets.specs.Verdict.{Verdict, refuse, accept, require, and_then}
use Rattle.octets.specs.Octets.{big_endian}
use Rattle.octets.proofs.Laws.{require_on, require_was, then_accept}
use Rattle.values.specs.Value.{Reader, Shape, plus, followed_by, bytes, number_in, paired_in, opening, items, compound_end}

pub accepted : {A : Type 0} (a b : A) → ◌≡◌ {A = Verdict A} (accept a) (accept b) → a ≡ b
accepted a b e = cc

pub never : {A : Type 0} (k : ℕ) (a : A) → refuse k ≡ accept a → ⊥
never k a e = let z : ◌≡◌ {A = ℕ} 0 1 = cc in omega arith

pub then_was : {A B : Type 0} (v : Verdict A) (f : A → Verdict B) (b : B) → and_then v f ≡ accept b → (a : A) × (v ≡ accept a) × (f a ≡ accept b)
unfolding and_then
then_was (accept a) f b e = (a, refl, e)
then_was (refuse k) f b e = absurd (never k b e)

pub plus_was : (a : ℕ) (v : Verdict ℕ) (n : ℕ) → plus a v ≡ accept n → (m : ℕ) × (v ≡ accept m) × (n ≡ a + m)
unfolding plus
plus_was a v n e = let w = then_was v (λ (m : ℕ). accept (a + m)) n e in (w.0, w.1, accepted n (a + w.0) (sym w.2))

pub plus_is : (a : ℕ) (v : Verdict ℕ) (m : ℕ) → v ≡ accept m → plus a v ≡ accept (a + m)
unfolding plus
plus_is a v m e = then_accept v (λ (k : ℕ). accept (a + k)) m e

-- what two readers, one after the other, went through
pub record Both (f g : Reader) (s : List ℕ) (n : ℕ) : Type 0 where
  pub first : ℕ
  pub second : ℕ
  pub first_ends : f s ≡ accept first
  pub second_ends : g (drop first s) ≡ accept second
  pub sum : n ≡ first + second

pub both_was : (f g : Reader) (s : List ℕ) (n : ℕ) → followed_by f g s ≡ accept n → Both f g s n
unfolding followed_by
both_was f g s n e =
    let v = then_was (f s) (λ (a : ℕ). plus a (g (drop a s))) n e in
    let w = plus_was v.0 (g (drop v.0 s)) n v.2 in
    record { first = v.0; second = w.0; first_ends = v.1; second_ends = w.1; sum = w.2 }

pub both_is : (f g : Reader) (s : List ℕ) (a b : ℕ) → f s ≡ accept a → g (drop a s) ≡ accept b → followed_by f g s ≡ accept (a + b)
unfolding followed_by
both_is f g s a b p q = then_accept (f s) (λ (n : ℕ). plus n (g (drop n s))) a p ∙ plus_is a (g (drop a s)) b q

pub bytes_was : (w : ℕ) (s : List ℕ) (n : ℕ) → bytes w s ≡ accept n → (n ≡ w) × (w ≤ length s)
unfolding bytes
bytes_was w s n e =
    let r = require_was 6 (leb w (length s)) (λ _. accept w) n e in
    (accepted n w (sym r.1), leb-true _ _ r.0)

pub number_was : (w : ℕ) (s : List ℕ) (n : ℕ) → number_in w s ≡ accept n → (n ≡ big_endian (take w s)) × (w ≤ length s)
unfolding number_in
number_was w s n e =
    let r = require_was 6 (leb w (length s)) (λ _. accept (big_endian (take w s))) n e in
    (accepted n (big_endian (take w s)) (sym r.1), leb-true _ _ r.0)

pub number_is : (w : ℕ) (s : List ℕ) → w ≤ length s → number_in w s ≡ accept (big_endian (take w s))
unfolding number_in
number_is w s h = require_on 6 (leb w (length s)) (λ _. accept (big_endian (take w s))) (le-leb _ _ h)

-- what an opening of this size and count went through
pub record Opened (shape : Shape) (w : ℕ) (s : List ℕ) (size count : ℕ) : Type 0 where
  pub sized : number_in w s ≡ accept size
  pub fits : w + size ≤ length s
  pub counted : number_in w (take size (drop w s)) ≡ accept count
  pub paired : paired_in shape count ≡ true

pub opening_was : (shape : Shape) (w : ℕ) (s : List ℕ) (o : ℕ × ℕ) → opening shape w s ≡ accept o → Opened shape w s o.0 o.1
unfolding opening
opening_was shape w s o e =
    let a = then_was (number_in w s) _ o e in
    let b = require_was 6 (leb (w + a.0) (length s)) _ o a.2 in
    let c = then_was (number_in w (take a.0 (drop w s))) _ o b.1 in
    let d = require_was 6 (paired_in shape c.0) _ o c.2 in
    let q : o ≡ (a.0, c.0) = accepted o (a.0, c.0) (sym d.1) in
    rw q (record { sized = a.1; fits = leb-true _ _ b.0; counted = c.1; paired = d.0 })

pub opening_is : (shape : Shape) (w : ℕ) (s : List ℕ) (size count : ℕ) → Opened shape w s size count → opening shape w s ≡ accept (size, count)
unfolding opening and_then require
opening_is shape w s size count o = rw (o.sized, le-leb _ _ o.fits, o.counted, o.paired)

-- what a compound of n bytes went through
pub record Compounded (r : ℕ → Reader) (shape : Shape) (w : ℕ) (s : List ℕ) (n : ℕ) : Type 0 where
  pub size : ℕ
  pub count : ℕ
  pub opens : Opened shape w s size count
  pub filled : items r shape count (take (size - w) (drop (w + w) s)) ≡ accept (size - w)
  pub room : w ≤ size
  pub whole : n ≡ w + size

pub compound_was : (r : ℕ → Reader) (shape : Shape) (w : ℕ) (s : List ℕ) (n : ℕ) → compound_end r shape w s ≡ accept n → Compounded r shape w s n
unfolding compound_end
compound_was r shape w s n e =
    let a = then_was (opening shape w s) _ n e in
    let o = a.0 in
    let b = then_was (items r shape o.1 (take (o.0 - w) (drop (w + w) s))) _ n a.2 in
    let c = require_was 6 (eqb (w + b.0) o.0) _ n b.2 in
    let h : w + b.0 ≡ o.0 = eqb-true _ _ c.0 in
    let k : b.0 ≡ o.0 - w = omega arith in
    record { size = o.0; count = o.1; opens = opening_was shape w s o a.1; filled = b.1 ∙ ap accept k; room = omega arith; whole = accepted n (w + o.0) (sym c.1) }

pub compound_is : (r : ℕ → Reader) (shape : Shape) (w : ℕ) (s : List ℕ) (size count : ℕ) → Opened shape w s size count → w ≤ size → items r shape count (take (size - w) (drop (w + w) s)) ≡ accept (size - w) → compound_end r shape w s ≡ accept (w + size)
unfolding compound_end and_then
compound_is r shape w s size count o h f =
    let k : w + (size - w) ≡ size = omega arith in
    rw (opening_is shape w s size count o, f) (require_on 6 _ _ (eq-eqb _ _ k))
