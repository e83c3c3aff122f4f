-- Laws of places, words, numbers and bytes: what a turn of each function's loop keeps, and what its end shows.
-- Assumes nothing.
use mathlib.Core.Path.{◌≡◌, refl, sym, ap, ◌∙◌}
use mathlib.Core.Bool.{Bool, true, false, not, cond}
use mathlib.Core.List.{List, [], ◌∷◌}
use Prim.Native.Nat.{ℕ, zero, suc, ◌+◌, ◌*◌, ◌-◌, ◌/◌, ◌^◌, ◌<◌, ◌≤◌, min}
use native.Mathlib.Nat.{zero-add}
use native.Mathlib.Numerals.{add-one}
use native.Mathlib.Omega.{arith}
use lib.ListN.{length, take, drop, get_or, set, drop_of_length-le, length-take, length-drop}
use lib.Seq.{drop-cons, drop-drop, take_all, take-nil, take-length, get_or-take, paste, paste-suc}
use borrow.Author.Tests.{lt-ltb, le-ltb}
use Rattle.octets.proofs.Laws.{put_fits}
use Rattle.std.specs.Prelude.{Option, None, Some}
use Rattle.std.specs.Option.{MatchOption, unwrap_or}
use Rattle.std.specs.List.{take_while, position, position_or_len, AllWithin, HoldsAt}
use Rattle.std.proofs.lemmas.Iterator.{index_from_first}
use Rattle.std.proofs.lemmas.List.Sums.{take_while-cons}
use Rattle.std.proofs.lemmas.List.Quantifiers.{position-Some}
use Rattle.words.specs.Words.{part_in, until, place_from, is_byte, other_than, blank, unblanked, word_in, digits, digit_of, is_below, worth, decimal_from, byte_of, hex_in, hex_for, Spelled}

pub until_le : (t : ℕ → Bool) (s : List ℕ) → until t s ≤ length s
unfolding until
until_le t [] = omega arith
until_le t (c ∷ s) = go (t c) (until_le t s)
  where
    go : (b : Bool) → until t s ≤ length s → cond b 0 (suc (until t s)) ≤ suc (length s)
    go true h = omega arith
    go false h = omega arith

-- as many stand before the first that passes the test as from the front on do not
pub until_while : (t p : ℕ → Bool) (s : List ℕ) → ((c : ℕ) → p c ≡ not (t c)) → length (take_while p s) ≡ until t s
unfolding until
until_while t p [] e = refl
until_while t p (c ∷ s) e = rw (take_while-cons p c s, e c) (go (t c) (until_while t p s e))
  where
    go : (b : Bool) → length (take_while p s) ≡ until t s → length (cond (not b) (c ∷ take_while p s) []) ≡ cond b 0 (suc (until t s))
    go true h = refl
    go false h = ap suc h

-- ---- parts

module _ (from end : ℕ) (s : List ℕ) where
  pub part_turned : end < from → [] ≡ part_in from end s
  unfolding part_in
  part_turned h = let e : end - from ≡ 0 = omega arith in rw e

  pub part_past : length s < from → [] ≡ part_in from end s
  unfolding part_in
  part_past h = let l : length s ≤ from = omega arith in rw (drop_of_length-le s l, take-nil)

  pub part_rest : length s < end → take (length s - from) (drop from s) ≡ part_in from end s
  unfolding part_in
  part_rest h = rw (take_all (length s - from) (drop from s) (simp length-drop (omega arith)), take_all (end - from) (drop from s) (simp length-drop (omega arith)))

  pub part_whole : take (end - from) (drop from s) ≡ part_in from end s
  unfolding part_in
  part_whole = refl

-- ---- words

module _ (s : List ℕ) (at from next : ℕ) (p : from ≡ place_from (other_than blank) at s) (q : next ≡ place_from (is_byte blank) from s) where
  start : drop from s ≡ unblanked (drop at s)
  unfolding unblanked
  start = rw (p, drop-drop)

  after : drop next s ≡ drop (until (is_byte blank) (unblanked (drop at s))) (unblanked (drop at s))
  after = rw q (sym (drop-drop (until (is_byte blank) (drop from s)) from s) ∙ ap (λ (x : List ℕ). drop (until (is_byte blank) x) x) start)

  -- a loop that has passed i of n words; X is the word that it looks for
  module _ (n i : ℕ) (X : List ℕ) (inv : X ≡ word_in (n - i) (drop at s)) where
    pub word_next : i < n → X ≡ word_in (n - (i + 1)) (drop next s)
    unfolding word_in
    word_next h =
        let k : n - i ≡ suc (n - (i + 1)) = omega arith in
        inv ∙ rw (k, after)

    pub word_here : (r : List ℕ) → n ≤ i → r ≡ part_in from next s → r ≡ X
    unfolding word_in part_in
    word_here r h e =
        let k : n - i ≡ 0 = omega arith in
        let l : next - from ≡ until (is_byte blank) (drop from s) = omega arith in
        let x : X ≡ word_in 0 (drop at s) = rw k at inv in
        let y : take (next - from) (drop from s) ≡ word_in 0 (drop at s) = rw l (ap (λ (u : List ℕ). take (until (is_byte blank) u) u) start) in
        e ∙ y ∙ sym x

-- ---- numbers

-- what `position` finds in a list
pub first_told : (p : ℕ → Bool) (xs : List ℕ) (r : Option ℕ)
    → MatchOption r (AllWithin (λ x. p x ≡ false) xs 0 (length xs)) (λ i. (i < length xs) × HoldsAt (λ x. p x ≡ true) xs i × AllWithin (λ x. p x ≡ false) xs 0 i)
    → r ≡ position p xs
first_told p xs r m = go r m (index_from_first (position_or_len p) (λ x. p x ≡ true) (λ x. p x ≡ false) refl (λ x ys h. rw h) (λ x ys h. rw h (omega arith)) xs r m)
  where
    go : (r : Option ℕ)
        → MatchOption r (AllWithin (λ x. p x ≡ false) xs 0 (length xs)) (λ i. (i < length xs) × HoldsAt (λ x. p x ≡ true) xs i × AllWithin (λ x. p x ≡ false) xs 0 i)
        → position_or_len p xs ≡ unwrap_or r (length xs) → r ≡ position p xs
    go None m e = rw (e, le-ltb (length xs) (length xs) (omega arith))
    go (Some i) m e = rw (e, lt-ltb i (length xs) m.0)

digit_low : (b d : ℕ) → digit_of b ≡ Some d → d < 16
unfolding digit_of
digit_low b d e = (position-Some (is_byte b) digits d 0 e).0

pub worth_low : (b d : ℕ) (o : Option ℕ) → o ≡ digit_of b → d ≡ unwrap_or o 0 → (d < 16) × (d ≡ worth (digit_of b))
worth_low b d None e q = (omega arith, q ∙ rw (← e))
worth_low b d (Some x) e q = let l : x < 16 = digit_low b x (sym e) in (omega arith, q ∙ rw (← e))

-- a loop that has read i digits; X is the number that it reads
module _ (s : List ℕ) (X n i : ℕ) (inv : X ≡ decimal_from n (drop i s)) where
  pub decimal_end : length s ≤ i → n ≡ X
  unfolding decimal_from
  decimal_end h = sym (inv ∙ rw (drop_of_length-le s h))

  module _ (o : Option ℕ) (q : o ≡ digit_of (get_or s i 0)) (h : i < length s) where
    pub decimal_none : is_below 10 o ≡ false → n ≡ X
    unfolding decimal_from
    decimal_none l = sym (inv ∙ rw (drop-cons s i 0 h, ← q, l))

    module _ (d : ℕ) (e : o ≡ Some d) (low : d < 10) where
      pub decimal_full : 10 ^ 18 ≤ n → n ≡ X
      unfolding decimal_from
      decimal_full m = sym (inv ∙ rw (drop-cons s i 0 h, ← q, e, lt-ltb d 10 low, le-ltb n (10 ^ 18) m))

      pub decimal_more : n < 10 ^ 18 → X ≡ decimal_from (n * 10 + d) (drop (i + 1) s)
      unfolding decimal_from
      decimal_more m = inv ∙ rw (drop-cons s i 0 h, ← q, e, lt-ltb d 10 low, lt-ltb n (10 ^ 18) m, add-one i)

-- ---- bytes

hex_length : (w : List ℕ) → length (hex_in w) ≡ length w / 2
unfolding hex_in
hex_length [] = refl
hex_length (a ∷ []) = refl
hex_length (a ∷ b ∷ w) = let h : length (hex_in w) ≡ length w / 2 = hex_length w in omega arith

hex_at : (w : List ℕ) (i : ℕ) → i < length w / 2 → get_or (hex_in w) i 0 ≡ byte_of (get_or w (2 * i) 0) (get_or w (2 * i + 1) 0)
unfolding hex_in
hex_at [] i h = absurd (omega arith)
hex_at (a ∷ []) i h = absurd (omega arith)
hex_at (a ∷ b ∷ w) zero h = refl
hex_at (a ∷ b ∷ w) (suc i) h =
    let p : 2 * suc i ≡ suc (suc (2 * i)) = omega arith in
    let q : suc (suc (2 * i)) + 1 ≡ suc (suc (2 * i + 1)) = omega arith in
    rw (p, q) (hex_at w i (omega arith))

-- the bytes for which there is room, of which i are laid into an output where d stood
module _ (w d : List ℕ) (n : ℕ) (e : n ≡ min (length w / 2) (length d)) where
  hex_count : n ≡ length (hex_for w d)
  unfolding hex_for
  hex_count = omega (arith, length-take (length d) (hex_in w), hex_length w)

  pub laying_more : (out : List ℕ) (i b : ℕ) → out ≡ paste d 0 (hex_for w d) i → i < n → b ≡ byte_of (get_or w (2 * i) 0) (get_or w (2 * i + 1) 0) → set out i b ≡ paste d 0 (hex_for w d) (i + 1)
  unfolding hex_for
  laying_more out i b inv h q =
      let F : List ℕ = hex_for w d in
      let v : get_or F i 0 ≡ b = get_or-take (length d) (hex_in w) i 0 (omega arith) ∙ hex_at w i (omega arith) ∙ sym q in
      let m : set out (0 + i) (get_or F i 0) ≡ paste d 0 F (suc i) = rw inv (paste-suc d 0 F i 0 (omega arith) (omega (arith, hex_count))) in
      rw add-one (rw (zero-add i, v) at m)

  pub laying_done : (out : List ℕ) (i : ℕ) → out ≡ paste d 0 (hex_for w d) i → i ≤ n → n ≤ i → Spelled w n d out
  laying_done out i inv l h =
      let q : i ≡ length (hex_for w d) = omega (arith, hex_count) in
      record { count = hex_count; output = inv ∙ rw (q, take-length, put_fits d 0 (hex_for w d) (omega (arith, hex_count))) }

pub not_not : (b : Bool) → not (not b) ≡ b
not_not true = refl
not_not false = refl
