-- What each step of the functions shows, with the answers of the functions that it calls as they come. `search` finds the facts.
-- Assumes nothing.
use mathlib.Core.Path.{◌≡◌, refl, sym, ◌∙◌}
use mathlib.Core.Bool.{Bool, true, false, cond, not, ◌&&◌}
use mathlib.Core.List.{List, [], ◌∷◌}
use Rattle.std.specs.Prelude.{Option, None, Some}
use Rattle.std.specs.Bool.{MatchBool}
use Rattle.std.specs.List.{AllWithin, HoldsAt}
use Rattle.std.specs.Str.{IsAscii, IsNotAscii}
use Prim.Native.Nat.{ℕ, zero, suc, ◌-◌, ◌<◌, ◌≤◌}
use native.Mathlib.Omega.{arith}
use lib.Dec.{leb, ltb, eqb}
use lib.ListN.{length, take, drop, get_or, replicate, length-take, length-drop, length-replicate}
use lib.Seq.{take_all, drop-cons}
use borrow.Author.Tests.{le-leb, lt-leb, le-ltb, lt-ltb, ne_eqb, not-true, not-false}
use Rattle.text.specs.Ascii.{ascii}
use Rattle.text.specs.Utf8.{tail, in_range, starts, utf8}
use Rattle.text.specs.Character.{char_length, followers, followed}
use Rattle.text.proofs.Rows.{starts_in, char_first, char_in, no_character, a_character}
use Rattle.text.proofs.Laws.{utf8_empty, ascii_is_utf8}

-- ---- a range

module _ (b low high : ℕ) where
  pub range_under : b < low → false ≡ in_range (low, high) b
  unfolding in_range
  range_under h = rw (lt-leb low b h)

  pub range_from : low ≤ b → leb b high ≡ in_range (low, high) b
  unfolding in_range
  range_from h = rw (le-leb low b h)

-- ---- what follows a first octet

module _ (s : List ℕ) (n low high : ℕ) (two : 2 ≤ n) where
  pub followed_short : length s < n → None ≡ followed n low high s
  unfolding followed followers
  followed_short h = go (starts (followers n low high) (drop 1 s)) refl
    where
      go : (x : Bool) → starts (followers n low high) (drop 1 s) ≡ x → None ≡ cond x (Some n) None
      go true e =
          let f : length (followers n low high) ≤ length (drop 1 s) = starts_in _ _ e in
          absurd (omega (arith, length-drop 1 s, length-replicate (n - 2) tail))
      go false e = refl

  module _ (long : n ≤ length s) (w : Bool) (e : w ≡ in_range (low, high) (get_or s 1 0)) where
    pub followed_stops : not w ≡ true → None ≡ followed n low high s
    unfolding followed followers starts
    followed_stops f = rw (drop-cons s 1 0 (omega arith), ← e, not-true w f)

    module _ (t : Bool) (all : t ≡ starts (replicate (n - 2) tail) (drop 2 s)) (f : not w ≡ false) where
      first : followed n low high s ≡ cond t (Some n) None
      unfolding followed followers starts
      first = rw (drop-cons s 1 0 (omega arith), ← e, not-false w f, all)

      pub tails_stop : not t ≡ true → None ≡ followed n low high s
      tails_stop g = sym (first ∙ rw (not-true t g))

      pub tails_end : not t ≡ false → Some n ≡ followed n low high s
      tails_end g = sym (first ∙ rw (not-false t g))

never : (x : Bool) → false ≡ (x && false)
never true = refl
never false = refl

-- tails as a test of each octet
pub are_tails : (n : ℕ) (s : List ℕ) (r : Bool) → n ≤ length s
    → MatchBool r (AllWithin (λ b. in_range tail b ≡ true) (take n s) 0 (length (take n s))) ((k : ℕ) × (k < length (take n s)) × HoldsAt (λ b. in_range tail b ≡ false) (take n s) k)
    → r ≡ starts (replicate n tail) s
unfolding starts
are_tails zero s true h m = refl
are_tails zero s false h m = absurd (omega (arith, m.1))
are_tails (suc n) [] r h m = absurd (omega arith)
are_tails (suc n) (b ∷ s) true h m =
    let first : in_range tail b ≡ true = m 0 0 (omega arith) (omega arith) in
    rw (first, ← are_tails n s true (omega arith) (λ k d l u. m (suc k) d (omega arith) (omega arith)))
are_tails (suc n) (b ∷ s) false h m = go m.0 m.1 m.2 (λ k l q. are_tails n s false (omega arith) (k, l, q))
  where
    go : (k : ℕ) → k < suc (length (take n s)) → HoldsAt (λ b. in_range tail b ≡ false) (b ∷ take n s) k
        → ((k : ℕ) → k < length (take n s) → HoldsAt (λ b. in_range tail b ≡ false) (take n s) k → false ≡ starts (replicate n tail) s)
        → false ≡ (in_range tail b && starts (replicate n tail) s)
    go zero l q ih = let first : in_range tail b ≡ false = q 0 in rw first
    go (suc k) l q ih = rw (← ih k (omega arith) q) (never (in_range tail b))

-- ---- a loop over characters

module _ (rest : List ℕ) (o : Option ℕ) (e : o ≡ char_length rest) (n : ℕ) (h : o ≡ Some n) where
  pub char_lies : n ≤ length rest
  char_lies = char_in rest n (sym e ∙ h)

  pub char_smaller : length (take (length rest - n) (drop n rest)) < length rest
  char_smaller = simp (length-take, length-drop) (omega (arith, char_lies, char_first rest n (sym e ∙ h)))

  pub text_goes_on : (s : List ℕ) → utf8 s ≡ utf8 rest → utf8 s ≡ utf8 (take (length rest - n) (drop n rest))
  text_goes_on s inv = inv ∙ a_character rest n (sym e ∙ h) ∙ rw (take_all (length rest - n) (drop n rest) (simp length-drop (omega arith)))

module _ (s rest : List ℕ) (o : Option ℕ) (e : o ≡ char_length rest) (inv : utf8 s ≡ utf8 rest) where
  pub text_ends : (b : Bool) → o ≡ None → b ≡ eqb (length rest) 0 → b ≡ utf8 s
  text_ends b h q = (q ∙ go rest (sym h ∙ e)) ∙ sym inv
    where
      go : (rest : List ℕ) → None ≡ char_length rest → eqb (length rest) 0 ≡ utf8 rest
      go [] e = sym utf8_empty
      go (c ∷ rest) e = rw (ne_eqb (suc (length rest)) 0 (λ z. omega arith)) (no_character (c ∷ rest) e (omega arith))

-- a text that is ASCII is UTF-8
pub ascii_told : (s : List ℕ) (b : Bool) → b ≡ ascii s → b ≡ true → true ≡ utf8 s
ascii_told s b e q = sym (ascii_is_utf8 s (sym e ∙ q))

-- ---- a test of each octet

pub ascii_all : (s : List ℕ) (r : Bool) → MatchBool r (IsAscii s) (IsNotAscii s) → r ≡ ascii s
unfolding ascii
ascii_all [] true m = refl
ascii_all [] false m = absurd (omega (arith, m.1))
ascii_all (b ∷ s) true m = rw (lt-ltb b 128 (m 0), ← ascii_all s true (λ i. m (suc i)))
ascii_all (b ∷ s) false m = go m.0 m.1 (λ i l. ascii_all s false (i, l))
  where
    go : (i : ℕ) → 128 ≤ get_or (b ∷ s) i 0 → ((i : ℕ) → 128 ≤ get_or s i 0 → false ≡ ascii s) → false ≡ (ltb b 128 && ascii s)
    go zero l ih = rw (le-ltb b 128 l)
    go (suc i) l ih = rw (← ih i l) (never (ltb b 128))
