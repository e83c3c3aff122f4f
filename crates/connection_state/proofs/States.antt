-- The fourteen states: each is told by its number.
-- Assumes nothing.
use mathlib.Core.Path.{◌≡◌, refl, sym, ◌∙◌, ap, subst}
use mathlib.Core.Bool.{Bool, true, false, ◌&&◌}
use mathlib.Core.List.{List, [], ◌∷◌}
use Rattle.std.specs.Prelude.{Option, None, Some}
use Prim.Native.Nat.{ℕ, zero, suc}
use lib.Dec.{T, eqb, eqb→eq}
use lib.ListN.{get_or}
use borrow.Author.Tests.{ne_eqb}
use Rattle.connection_state.specs.States.{State, Start, HeaderReceived, HeaderSent, HeaderExchange, OpenPipe, OpenClosePipe, OpenReceived, OpenSent, ClosePipe, Opened, CloseReceived, CloseSent, Discarding, End, numbered, numbered_in, with_number, is}
pub use Rattle.connection_state.specs.States.{states}

pub numbered_state : (x : State) → get_or states (numbered x) End ≡ x
numbered_state Start = refl
numbered_state HeaderReceived = refl
numbered_state HeaderSent = refl
numbered_state HeaderExchange = refl
numbered_state OpenPipe = refl
numbered_state OpenClosePipe = refl
numbered_state OpenReceived = refl
numbered_state OpenSent = refl
numbered_state ClosePipe = refl
numbered_state Opened = refl
numbered_state CloseReceived = refl
numbered_state CloseSent = refl
numbered_state Discarding = refl
numbered_state End = refl

-- no two states have the same number
pub numbered_once : (a b : State) → numbered a ≡ numbered b → a ≡ b
numbered_once a b e = sym (numbered_state a) ∙ ap (λ n. get_or states n End) e ∙ numbered_state b

pub is_state : (a b : State) → T (is a b) → a ≡ b
is_state a b t = numbered_once a b (eqb→eq (numbered a) (numbered b) t)

-- ---- what passes at each of them passes at all

pub and_left : (a b : Bool) → T (a && b) → T a
and_left true b t = tt
and_left false b t = t

pub and_right : (a b : Bool) → T (a && b) → T b
and_right true b t = t
and_right false b t = absurd t

abbrev pub each : (State → Bool) → List State → Bool
each f [] = true
each f (x ∷ xs) = f x && each f xs

nth : (f : State → Bool) → T (f End) → (xs : List State) → T (each f xs) → (n : ℕ) → T (f (get_or xs n End))
nth f e [] t n = e
nth f e (x ∷ xs) t zero = and_left (f x) (each f xs) t
nth f e (x ∷ xs) t (suc n) = nth f e xs (and_right (f x) (each f xs) t) n

pub everywhere : (f : State → Bool) → T (f End) → T (each f states) → (x : State) → T (f x)
everywhere f e t x = subst (λ y. T (f y)) (numbered_state x) (nth f e states t (numbered x))

-- ---- the state that has a number

abbrev holds : State → Option State → Bool
holds x None = false
holds x (Some y) = is x y

held : (x : State) (o : Option State) → T (holds x o) → o ≡ Some x
held x None t = absurd t
held x (Some y) t = ap Some (sym (is_state x y t))

pub numbered_back : (x : State) → with_number (numbered x) ≡ Some x
unfolding with_number
numbered_back x = held x (numbered_in states (numbered x)) (everywhere (λ y. holds y (numbered_in states (numbered y))) tt tt x)

-- in the arm of the state's number
pub number_told : (x : State) (k : ℕ) → k ≡ numbered x → Some x ≡ with_number k
number_told x k e = sym (numbered_back x) ∙ ap with_number (sym e)

-- in the arm for all the other numbers: what holds already, and that the number is none of these states'
abbrev pub Unnumbered : Type 0 → List State → ℕ → Type 0
Unnumbered A [] k = A
Unnumbered A (x ∷ xs) k = Unnumbered (A × (k ≡ numbered x → ⊥)) xs k

pub none_numbered : (k : ℕ) → Unnumbered (Unit {0}) states k → None ≡ with_number k
unfolding with_number
none_numbered k u = (all (Unit {0}) states u).1
  where
    all : (A : Type 0) (xs : List State) → Unnumbered A xs k → A × (None ≡ numbered_in xs k)
    all A [] a = (a, refl)
    all A (x ∷ xs) a =
        let r = all (A × (k ≡ numbered x → ⊥)) xs a in
        let e : eqb (numbered x) k ≡ false = ne_eqb (numbered x) k (λ p. r.0.1 (sym p)) in
        (r.0.0, rw e r.1)
