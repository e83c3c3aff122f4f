-- A test that antt computes over all numbers below a bound gives a law for each of them.
-- Assumes nothing.
use mathlib.Core.Path.{◌≡◌, refl, sym, ap, ◌∙◌}
use mathlib.Core.List.{List, [], ◌∷◌, map}
use Prim.Native.Nat.{ℕ, zero, suc, ◌+◌, ◌<◌}
use native.Mathlib.Nat.{add-suc, suc-add, add-zero, zero-add}
use native.Mathlib.Omega.{arith}
use lib.ListN.{length, get_or, get_or-map}

-- n numbers from i on
unfoldable pub up_from : ℕ → ℕ → List ℕ
up_from i zero = []
up_from i (suc n) = i ∷ up_from (suc i) n

at_up : (n i k : ℕ) → k < n → get_or (up_from i n) k 0 ≡ i + k
unfolding up_from
at_up zero i k h = absurd (omega arith)
at_up (suc n) i zero h = sym (add-zero i)
at_up (suc n) i (suc k) h = at_up n (suc i) k (omega arith) ∙ suc-add i k ∙ sym (add-suc i k)

up_length : {A : Type 0} (f : ℕ → A) (n i : ℕ) → length (map f (up_from i n)) ≡ n
unfolding up_from
up_length f zero i = refl
up_length f (suc n) i = ap suc (up_length f n (suc i))

default : {A : Type 0} (l : List A) (i : ℕ) (a b : A) → i < length l → get_or l i a ≡ get_or l i b
default [] i a b h = absurd (omega arith)
default (x ∷ l) zero a b h = refl
default (x ∷ l) (suc i) a b h = default l i a b (omega arith)

-- two functions with the same values below n: the test is the equation of the lists
pub same_below : {A : Type 0} (f g : ℕ → A) (n : ℕ) → map f (up_from 0 n) ≡ map g (up_from 0 n) → (k : ℕ) → k < n → f k ≡ g k
same_below f g n e k h =
    let up : get_or (up_from 0 n) k 0 ≡ k = at_up n 0 k h ∙ zero-add k in
    ap f (sym up)
    ∙ sym (get_or-map f (up_from 0 n) k 0)
    ∙ ap (λ (l : List _). get_or l k (f 0)) e
    ∙ default (map g (up_from 0 n)) k (f 0) (g 0) (let l : length (map g (up_from 0 n)) ≡ n = up_length g n 0 in omega arith)
    ∙ get_or-map g (up_from 0 n) k 0
    ∙ ap g up
