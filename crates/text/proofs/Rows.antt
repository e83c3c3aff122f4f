-- The rows of UTF-8 by their first octets: at most one row is a string's, and it decides how the string goes on.
-- Assumes nothing.
use mathlib.Core.Path.{◌≡◌, refl, sym, ap, ◌∙◌}
use mathlib.Core.Bool.{Bool, true, false, cond, ◌&&◌, ◌||◌, or-false, false≢true}
use mathlib.Core.List.{List, [], ◌∷◌, Memᴰ}
use Rattle.std.specs.Prelude.{Option, None, Some}
use Prim.Native.Nat.{ℕ, zero, suc, ◌-◌, ◌<◌, ◌≤◌}
use native.Mathlib.Omega.{arith}
use lib.ListN.{length, drop, get_or, length-drop, length-replicate}
use lib.Dec.{leb}
use borrow.Author.Tests.{le-leb, leb-true}
use Rattle.text.specs.Utf8.{Range, characters, in_range, starts, and_also, any, utf8_within, utf8}
use Rattle.text.specs.Character.{length_in, char_length, followers, followed}

-- ---- a range

in_range_lem : (r : Range) (b : ℕ) → r.0 ≤ b → b ≤ r.1 → in_range r b ≡ true
unfolding in_range
in_range_lem r b l h = rw (le-leb r.0 b l, le-leb b r.1 h)

out_range : (r : Range) (b : ℕ) → (r.0 ≤ b → b ≤ r.1 → ⊥) → in_range r b ≡ false
unfolding in_range
out_range r b h = go (leb r.0 b) refl (leb b r.1) refl
  where
    go : (x : Bool) → leb r.0 b ≡ x → (y : Bool) → leb b r.1 ≡ y → (x && y) ≡ false
    go true p true q = absurd (h (leb-true _ _ p) (leb-true _ _ q))
    go true p false q = refl
    go false p true q = refl
    go false p false q = refl

range_end : (r : Range) (b : ℕ) → in_range r b ≡ true → b ≤ r.1
unfolding in_range
range_end r b e = go (leb r.0 b) e
  where
    go : (x : Bool) → (x && leb b r.1) ≡ true → b ≤ r.1
    go true p = leb-true b r.1 p
    go false p = absurd (false≢true p)

-- ---- rows

-- no row begins with the octet b
abbrev pub NoneOf : ℕ → List (List Range) → Type 0
NoneOf b [] = Unit {0}
NoneOf b ([] ∷ rows) = ⊥
NoneOf b ((r ∷ row) ∷ rows) = (r.0 ≤ b → b ≤ r.1 → ⊥) × NoneOf b rows

-- every row has a first octet, which is m or above it, and above the first octets of the rows before it
abbrev Ascending : ℕ → List (List Range) → Type 0
Ascending m [] = Unit {0}
Ascending m ([] ∷ rows) = ⊥
Ascending m ((r ∷ row) ∷ rows) = (m ≤ r.0) × (r.0 ≤ r.1) × Ascending (suc r.1) rows

ascending : Ascending 0 characters
unfolding characters
ascending = omega arith

below : (m b : ℕ) (rows : List (List Range)) → Ascending m rows → b < m → NoneOf b rows
below m b [] a h = tt
below m b ([] ∷ rows) a h = absurd a
below m b ((r ∷ row) ∷ rows) a h = (λ l k. omega arith, below (suc r.1) b rows a.2 (omega arith))

none_in : (b : ℕ) (s : List ℕ) (rows : List (List Range)) → NoneOf b rows → length_in rows (b ∷ s) ≡ None
unfolding length_in starts
none_in b s [] n = refl
none_in b s ([] ∷ rows) n = absurd n
none_in b s ((r ∷ row) ∷ rows) n = rw (out_range r b n.0) (none_in b s rows n.1)

-- a row has an octet
row_first : (m : ℕ) (rows : List (List Range)) → Ascending m rows → (s : List ℕ) (n : ℕ) → length_in rows s ≡ Some n → 0 < n
unfolding length_in
row_first m [] a s n e = cc
row_first m ([] ∷ rows) a s n e = absurd a
row_first m ((r ∷ row) ∷ rows) a s n e = go (starts (r ∷ row) s) e (row_first (suc r.1) rows a.2 s n)
  where
    go : (x : Bool) → cond x (Some (suc (length row))) (length_in rows s) ≡ Some n → (length_in rows s ≡ Some n → 0 < n) → 0 < n
    go true p ih = let q : suc (length row) ≡ n = cc in omega arith
    go false p ih = ih p

pub char_first : (s : List ℕ) (n : ℕ) → char_length s ≡ Some n → 0 < n
unfolding char_length
char_first s n e = row_first 0 characters ascending s n e

-- f of the length of the character that a string starts with, where it starts with one
abbrev pub leads : Option ℕ → (ℕ → Bool) → Bool
leads None f = false
leads (Some k) f = f k

leads_same : (o : Option ℕ) (f g : ℕ → Bool) → ((k : ℕ) → o ≡ Some k → 0 < k) → ((j : ℕ) → f (suc j) ≡ g (suc j)) → leads o f ≡ leads o g
leads_same None f g p h = refl
leads_same (Some zero) f g p h = absurd (let q : 0 < 0 = p 0 refl in omega arith)
leads_same (Some (suc k)) f g p h = h k

-- rows whose first octets ascend: the first row that a string starts with is the only one
chosen : (f : ℕ → Bool) (b : ℕ) (s : List ℕ) (m : ℕ) (rows : List (List Range)) → Ascending m rows
    → any (λ row. and_also (starts row (b ∷ s)) (λ _. f (length row))) rows ≡ leads (length_in rows (b ∷ s)) f
unfolding any starts length_in
chosen f b s m [] a = refl
chosen f b s m ([] ∷ rows) a = absurd a
chosen f b s m ((r ∷ row) ∷ rows) a = go (in_range r b) refl (starts row s) (chosen f b s (suc r.1) rows a.2)
  where
    rest : Bool
    rest = any (λ row. and_also (starts row (b ∷ s)) (λ _. f (length row))) rows

    go : (x : Bool) → in_range r b ≡ x → (y : Bool) → rest ≡ leads (length_in rows (b ∷ s)) f
        → (and_also (x && y) (λ _. f (suc (length row))) || rest) ≡ leads (cond (x && y) (Some (suc (length row))) (length_in rows (b ∷ s))) f
    go true e true ih = rw (ih, none_in b s rows (below (suc r.1) b rows a.2 (let h : b ≤ r.1 = range_end r b e in omega arith))) (or-false _)
    go true e false ih = ih
    go false e true ih = ih
    go false e false ih = ih

step_within : (n b : ℕ) (s : List ℕ) → utf8_within (suc n) (b ∷ s) ≡ leads (char_length (b ∷ s)) (λ k. utf8_within n (drop k (b ∷ s)))
unfolding utf8_within char_length
step_within n b s = chosen (λ k. utf8_within n (drop k (b ∷ s))) b s 0 characters ascending

-- any number of characters that is not below the number of octets says the same
enough : (n m : ℕ) (s : List ℕ) → length s ≤ n → length s ≤ m → utf8_within n s ≡ utf8_within m s
unfolding utf8_within
enough zero zero s h k = refl
enough zero (suc m) [] h k = refl
enough zero (suc m) (b ∷ s) h k = absurd (omega arith)
enough (suc n) zero [] h k = refl
enough (suc n) zero (b ∷ s) h k = absurd (omega arith)
enough (suc n) (suc m) [] h k = refl
enough (suc n) (suc m) (b ∷ s) h k =
    step_within n b s
    ∙ leads_same (char_length (b ∷ s)) (λ k. utf8_within n (drop k (b ∷ s))) (λ k. utf8_within m (drop k (b ∷ s))) (char_first (b ∷ s))
    (λ j. enough n m (drop j s) (simp length-drop (omega arith)) (simp length-drop (omega arith)))
    ∙ sym (step_within m b s)

-- a string is UTF-8 just where it starts with a character and the rest is UTF-8
pub utf8_step : (b : ℕ) (s : List ℕ) → utf8 (b ∷ s) ≡ leads (char_length (b ∷ s)) (λ k. utf8 (drop k (b ∷ s)))
unfolding utf8
utf8_step b s =
    step_within (length s) b s
    ∙ leads_same (char_length (b ∷ s)) (λ k. utf8_within (length s) (drop k (b ∷ s))) (λ k. utf8 (drop k (b ∷ s))) (char_first (b ∷ s))
    (λ j. enough (length s) (length (drop j s)) (drop j s) (simp length-drop (omega arith)) (omega arith))

-- ---- a character has no more octets than its string

pub starts_in : (row : List Range) (s : List ℕ) → starts row s ≡ true → length row ≤ length s
unfolding starts
starts_in [] s e = omega arith
starts_in (r ∷ row) [] e = absurd (false≢true e)
starts_in (r ∷ row) (b ∷ s) e = go (in_range r b) e (λ p. starts_in row s p)
  where
    go : (x : Bool) → (x && starts row s) ≡ true → (starts row s ≡ true → length row ≤ length s) → suc (length row) ≤ suc (length s)
    go true p ih = let h : length row ≤ length s = ih p in omega arith
    go false p ih = absurd (false≢true p)

length_in_lem : (rows : List (List Range)) (s : List ℕ) (n : ℕ) → length_in rows s ≡ Some n → n ≤ length s
unfolding length_in
length_in_lem [] s n e = cc
length_in_lem (row ∷ rows) s n e = go (starts row s) refl e (length_in_lem rows s n)
  where
    go : (x : Bool) → starts row s ≡ x → cond x (Some (length row)) (length_in rows s) ≡ Some n → (length_in rows s ≡ Some n → n ≤ length s) → n ≤ length s
    go true p q ih = let l : length row ≤ length s = starts_in row s p in let z : length row ≡ n = cc in omega arith
    go false p q ih = ih q

pub char_in : (s : List ℕ) (n : ℕ) → char_length s ≡ Some n → n ≤ length s
unfolding char_length
char_in s n e = length_in_lem characters s n e

-- ---- the row of a first octet

from_row : (m b : ℕ) (r : Range) (row : List Range) (rows : List (List Range)) → Ascending m rows → Memᴰ (r ∷ row) rows → r.0 ≤ b → m ≤ b
from_row m b r row [] a t h = elim t [ ]
from_row m b r row ([] ∷ rows) a (Memᴰ.head e) h = absurd a
from_row m b r row ((q ∷ qs) ∷ rows) a (Memᴰ.head e) h = let z : r ≡ q = cc in omega (arith, ap (λ (x : Range). x.0) z)
from_row m b r row ([] ∷ rows) a (Memᴰ.tail t) h = absurd a
from_row m b r row ((q ∷ qs) ∷ rows) a (Memᴰ.tail t) h = let l : suc q.1 ≤ b = from_row (suc q.1) b r row rows a.2 t h in omega arith

-- an octet in the first range of a row has that row, and no other
row_in : (m b : ℕ) (s : List ℕ) (r : Range) (row : List Range) (rows : List (List Range)) → Ascending m rows → Memᴰ (r ∷ row) rows
    → r.0 ≤ b → b ≤ r.1 → length_in rows (b ∷ s) ≡ cond (starts row s) (Some (suc (length row))) None
unfolding length_in starts
row_in m b s r row [] a t l h = elim t [ ]
row_in m b s r row ([] ∷ rows) a (Memᴰ.head e) l h = absurd a
row_in m b s r row ((q ∷ qs) ∷ rows) a (Memᴰ.head e) l h =
    let z : q ≡ r = cc in
    let y : qs ≡ row = cc in
    rw (none_in b s rows (below (suc q.1) b rows a.2 (omega (arith, ap (λ (x : Range). x.1) z))), z, in_range_lem r b l h, y)
row_in m b s r row ([] ∷ rows) a (Memᴰ.tail t) l h = absurd a
row_in m b s r row ((q ∷ qs) ∷ rows) a (Memᴰ.tail t) l h =
    let k : suc q.1 ≤ b = from_row (suc q.1) b r row rows a.2 t l in
    rw (out_range q b (λ x y. omega arith)) (row_in (suc q.1) b s r row rows a.2 t l h)

-- ---- one character of a string that is not empty

pub char_none : (s : List ℕ) → length s ≡ 0 → None ≡ char_length s
unfolding char_length length_in characters starts
char_none [] h = refl
char_none (b ∷ s) h = absurd (omega arith)

-- by the row whose first range the first octet is in
pub char_row : (s : List ℕ) → 0 < length s → (r : Range) (row : List Range) → Memᴰ (r ∷ row) characters
    → r.0 ≤ get_or s 0 0 → get_or s 0 0 ≤ r.1 → char_length s ≡ cond (starts row (drop 1 s)) (Some (suc (length row))) None
unfolding char_length
char_row [] n r row t l h = absurd (omega arith)
char_row (b ∷ s) n r row t l h = row_in 0 b s r row characters ascending t l h

pub char_no_row : (s : List ℕ) → 0 < length s → NoneOf (get_or s 0 0) characters → None ≡ char_length s
unfolding char_length
char_no_row [] n h = absurd (omega arith)
char_no_row (b ∷ s) n h = sym (none_in b s characters h)

pub char_one : (s : List ℕ) → 0 < length s → get_or s 0 0 < 128 → Some 1 ≡ char_length s
unfolding characters starts
char_one s n h = sym (char_row s n (0x00, 0x7F) [] (Memᴰ.head refl) (omega arith) (omega arith))

-- a first octet from lo to hi, and what follows it
pub char_followed : (s : List ℕ) (lo hi n low high : ℕ) (v : Option ℕ) → Memᴰ ((lo, hi) ∷ followers n low high) characters
    → (0 < length s) × (2 ≤ n) × (lo ≤ get_or s 0 0) × (get_or s 0 0 ≤ hi) → v ≡ followed n low high s → v ≡ char_length s
unfolding followed followers
char_followed s lo hi n low high v t h e =
    let z : suc (suc (n - 2)) ≡ n = omega arith in
    e ∙ sym (char_row s h.0 (lo, hi) (followers n low high) t h.2 h.3 ∙ rw (length-replicate, z))

-- ---- what is left of a string after its first character

pub no_character : (s : List ℕ) → None ≡ char_length s → 0 < length s → false ≡ utf8 s
no_character [] e h = absurd (omega arith)
no_character (b ∷ s) e h = sym (utf8_step b s ∙ rw (← e))

pub a_character : (s : List ℕ) (n : ℕ) → char_length s ≡ Some n → utf8 s ≡ utf8 (drop n s)
unfolding utf8_within
a_character [] n e = let h : n ≤ 0 = char_in [] n e in let z : n ≡ 0 = omega arith in rw z
a_character (b ∷ s) n e = utf8_step b s ∙ rw e
