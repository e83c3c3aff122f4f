-- The arm of a `match` on a state for all those that no other arm names.
-- Assumes nothing.
use mathlib.Core.Path.{◌≡◌, refl, ap, sym, subst, ◌∙◌}
use mathlib.Core.Bool.{Bool, true, false, not, cond}
use mathlib.Core.List.{List, [], ◌∷◌}
use Prim.Native.Nat.{ℕ}
use types.Run.{OneOf, miss}
use denote.Enum.Declared.{tag_of}
use mir.Val.{has_key}
use lib.Dec.{T}
use Rattle.connection_state.specs.States.{State, numbered, is}
use Rattle.connection_state.proofs.States.{states, is_state}
use Rattle.connection_state.specs.declared.ConnectionState.{ConnectionState}
use Rattle.connection_state.specs.declared.ConnectionState.TheVariants.{Start, HeaderReceived, HeaderSent, HeaderExchange, OpenPipe, OpenClosePipe, OpenReceived, OpenSent, ClosePipe, Opened, CloseReceived, CloseSent, Discarding, End}
use Rattle.connection_state.specs.Answers.{state_says}
use Rattle.connection_state.specs.contracts.ConnectionState.{the_type}

-- a state's place among the variants is its number
pub tag_is_number : (s : ConnectionState) → tag_of the_type s ≡ numbered (state_says s)
tag_is_number Start = refl
tag_is_number HeaderReceived = refl
tag_is_number HeaderSent = refl
tag_is_number HeaderExchange = refl
tag_is_number OpenPipe = refl
tag_is_number OpenClosePipe = refl
tag_is_number OpenReceived = refl
tag_is_number OpenSent = refl
tag_is_number ClosePipe = refl
tag_is_number Opened = refl
tag_is_number CloseReceived = refl
tag_is_number CloseSent = refl
tag_is_number Discarding = refl
tag_is_number End = refl

-- the numbers of those that fail a test
abbrev pub failing : (State → Bool) → List State → List ℕ
failing f [] = []
failing f (x ∷ xs) = cond (f x) (failing f xs) (numbered x ∷ failing f xs)

-- one that passes is not among them
passes : (f : State → Bool) (x : State) → f x ≡ true → (xs : List State) → T (not (has_key (failing f xs) (numbered x)))
passes f x e [] = tt
passes f x e (y ∷ xs) = go (f y) refl (is y x) refl (passes f x e xs)
  where
    go : (b : Bool) → f y ≡ b → (d : Bool) → is y x ≡ d → T (not (has_key (failing f xs) (numbered x))) → T (not (has_key (cond b (failing f xs) (numbered y ∷ failing f xs)) (numbered x)))
    go true p d q t = t
    go false p false q t = rw q t
    go false p true q t = absurd (subst T (sym e ∙ sym (ap f (is_state y x (subst T (sym q) tt))) ∙ p) tt)

-- in the arm for all the states that fail a test
pub fails : (f : State → Bool) (s : ConnectionState) → OneOf (failing f states) (tag_of the_type s) → false ≡ f (state_says s)
fails f s o = go (f (state_says s)) refl
  where
    go : (b : Bool) → f (state_says s) ≡ b → false ≡ b
    go false e = refl
    go true e = absurd (miss (failing f states) (numbered (state_says s)) (passes f (state_says s) e states) (subst (OneOf (failing f states)) (tag_is_number s) o))
