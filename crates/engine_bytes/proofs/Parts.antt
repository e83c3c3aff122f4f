-- Numbers at places of bytes: what is found there after something was laid.
-- Assumes nothing.
use mathlib.Core.Path.{◌≡◌, sym, ◌∙◌, ap, ap₂}
use mathlib.Core.List.{List, ◌++◌, append_assoc}
use Prim.Native.Nat.{ℕ, ◌+◌, ◌-◌, ◌^◌, ◌≤◌, ◌<◌}
use native.Mathlib.Omega.{arith}
use lib.ListN.{length, take, drop, length-append, length-drop, take-append-drop}
use lib.Seq.{take_at, drop-drop, take-append-le, drop-append-le, drop-append-add, length-take-le}
use Rattle.octets.specs.Octets.{big_endian, bytes_of, put}
use Rattle.octets.proofs.Laws.{length_bytes_of, put_fits}
use Rattle.layout.proofs.Laws.{bytes_number}

-- ---- lists one after the other

-- behind a first list: what stands in the second
pub drop_behind : (a b : List ℕ) (n i : ℕ) → length a ≡ n → drop (n + i) (a ++ b) ≡ drop i b
drop_behind a b n i e = ap (λ k. drop (k + i) (a ++ b)) (sym e) ∙ drop-append-add a b i

-- the first list itself
pub take_front : (a b : List ℕ) (n : ℕ) → length a ≡ n → take n (a ++ b) ≡ a
take_front a b n e = take_at a b n e

-- what stands inside a first list of p
pub inside : (a b : List ℕ) (p i w : ℕ) → length a ≡ p → i + w ≤ p → take w (drop i (a ++ b)) ≡ take w (drop i a)
inside a b p i w e le =
    let inner : length (drop i a) ≡ length a - i = length-drop i a in
    ap (take w) (drop-append-le i a b (omega arith)) ∙ take-append-le w (drop i a) b (omega (arith, inner))

-- ---- what was laid at a place, where it fits

module _ (s m : List ℕ) (p : ℕ) (fits : p + length m ≤ length s) where
  front : length (take p s) ≡ p
  front = length-take-le p s (omega arith)

  both : length (take p s ++ m) ≡ p + length m
  both = length-append (take p s) m ∙ ap (λ k. k + length m) front

  -- in front of it all is as before
  pub before_put : (i w : ℕ) → i + w ≤ p → take w (drop i (put s p m)) ≡ take w (drop i s)
  before_put i w le =
      ap (λ l. take w (drop i l)) (put_fits s p m fits)
      ∙ inside (take p s ++ m) (drop (p + length m) s) (p + length m) i w both (omega arith)
      ∙ inside (take p s) m p i w front le
      ∙ sym (inside (take p s) (drop p s) p i w front le)
      ∙ ap (λ l. take w (drop i l)) (take-append-drop p s)

  -- behind it all is as before
  pub after_put : (i : ℕ) → drop (p + length m + i) (put s p m) ≡ drop (p + length m + i) s
  after_put i =
      ap (drop (p + length m + i)) (put_fits s p m fits)
      ∙ drop_behind (take p s ++ m) (drop (p + length m) s) (p + length m) i both
      ∙ drop-drop i (p + length m) s

  -- and in it stands what was laid
  pub in_put : (i w : ℕ) → i + w ≤ length m → take w (drop (p + i) (put s p m)) ≡ take w (drop i m)
  in_put i w le =
      ap (λ l. take w (drop (p + i) l)) (put_fits s p m fits)
      ∙ inside (take p s ++ m) (drop (p + length m) s) (p + length m) (p + i) w both (omega arith)
      ∙ ap (take w) (drop_behind (take p s) m p i front)

-- what stands at a place already, laid there again
pub put_again : (s m : List ℕ) (p w : ℕ) → length m ≡ w → p + w ≤ length s → take w (drop p s) ≡ m → put s p m ≡ s
put_again s m p w e fits there =
    put_fits s p m (omega arith)
    ∙ ap (λ (k : ℕ). take p s ++ m ++ drop (p + k) s) e
    ∙ append_assoc (take p s) m (drop (p + w) s)
    ∙ ap₂ (λ a b. take p s ++ (a ++ b)) (sym there) (sym (drop-drop w p s))
    ∙ ap (λ l. take p s ++ l) (take-append-drop w (drop p s))
    ∙ take-append-drop p s

-- ---- numbers

pub number_front : (w x : ℕ) (b : List ℕ) → x < 256 ^ w → big_endian (take w (bytes_of w x ++ b)) ≡ x
number_front w x b low = ap big_endian (take_front (bytes_of w x) b w (length_bytes_of w x)) ∙ bytes_number w x low
