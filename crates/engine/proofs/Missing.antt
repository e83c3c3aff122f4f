-- Bytes of a frame are missing: what is judged of the bytes alone is what the rule of a frame that came refuses with 1.
-- Assumes nothing.
use mathlib.Core.Path.{◌≡◌, refl, sym, ◌∙◌, subst}
use mathlib.Core.Bool.{Bool, true, false, not, ◌&&◌, ◌||◌}
use mathlib.Core.List.{List, [], ◌∷◌}
use Rattle.std.specs.Prelude.{Option}
use Prim.Native.Nat.{ℕ, ◌<◌, ◌≤◌}
use native.Mathlib.Omega.{arith}
use lib.ListN.{length}
use lib.Dec.{T, leb, ltb, eqb}
use borrow.Author.Tests.{leb-true, leb-false, le-leb, lt-leb, le-ltb, lt-ltb, ne_eqb}
use Rattle.octets.specs.Verdict.{Verdict, refuse, accept, require, and_then}
use Rattle.performatives.specs.Performative.{Performative, performative}
use Rattle.performatives.proofs.Laws.{performative_six}
use Rattle.frame_decoder.specs.Frame.{Frame, size_of, frame, body_in, content, read_frame}
use Rattle.frame_encoder.specs.Frames.{Settings}
use Rattle.connection_state.specs.States.{State}
use Rattle.connection_model.specs.Connection as K
use Rattle.connection_model.specs.Connection.{Role, receive_frame, decide, frame_read}
use Rattle.connection_model.proofs.Refusing.{Refuses, takes, turns, on_require, on_then, by_number, refuses_as, unread, late_frame}
use Rattle.engine_model.specs.Engine.{lacks}
use Rattle.engine.specs.Reading.{lacks_bytes}

-- ---- as it is judged

module _ (limit : ℕ) (s : List ℕ) where
  -- by its four tests
  lacks_by : (a b c d : Bool) → leb 4 (length s) ≡ a → leb 8 (size_of s) ≡ b → leb (size_of s) limit ≡ c → leb (size_of s) (length s) ≡ d → (not a || (b && (c && not d))) ≡ lacks_bytes limit s
  unfolding lacks_bytes
  lacks_by a b c d p q r t = λ i. not (sym p i) || (sym q i && (sym r i && not (sym t i)))

  pub lacks_four : length s < 4 → true ≡ lacks_bytes limit s
  lacks_four h = lacks_by false _ _ _ (lt-leb 4 (length s) h) refl refl refl

  module _ (four : 4 ≤ length s) (size : ℕ) (z : size ≡ size_of s) where
    pub lacks_small : size < 8 → false ≡ lacks_bytes limit s
    lacks_small h = lacks_by true false _ _ (le-leb 4 (length s) four) (lt-leb 8 (size_of s) (omega arith)) refl refl

    pub lacks_large : 8 ≤ size → limit < size → false ≡ lacks_bytes limit s
    lacks_large g h = lacks_by true true false _ (le-leb 4 (length s) four) (le-leb 8 (size_of s) (omega arith)) (lt-leb (size_of s) limit (omega arith)) refl

    pub lacks_rest : (b : Bool) → 8 ≤ size → size ≤ limit → b ≡ ltb (length s) size → b ≡ lacks_bytes limit s
    lacks_rest b g h e = e ∙ go (leb (size_of s) (length s)) refl
      where
        go : (d : Bool) → leb (size_of s) (length s) ≡ d → ltb (length s) size ≡ lacks_bytes limit s
        go true q = le-ltb (length s) size (omega (arith, leb-true (size_of s) (length s) q)) ∙ lacks_by true true true true (le-leb 4 (length s) four) (le-leb 8 (size_of s) (omega arith)) (le-leb (size_of s) limit (omega arith)) q
        go false q = lt-ltb (length s) size (omega (arith, leb-false (size_of s) (length s) q)) ∙ lacks_by true true true false (le-leb 4 (length s) four) (le-leb 8 (size_of s) (omega arith)) (le-leb (size_of s) limit (omega arith)) q

-- ---- as the rule has it

abbrev is_missing : {A : Type 0} → Verdict A → Bool
is_missing (refuse k) = eqb k 1
is_missing (accept a) = false

-- a number that tells of something else
abbrev Other : ℕ → Type 0
Other k = eqb k 1 ≡ false

not_missing : {A : Type 0} {v : Verdict A} → Refuses Other v → is_missing v ≡ false
not_missing takes = refl
not_missing (turns p) = p

first_missing : {A B : Type 0} (v : Verdict A) (f : A → Verdict B) → ((a : A) → Refuses Other (f a)) → is_missing (and_then v f) ≡ is_missing v
unfolding and_then
first_missing (refuse k) f h = refl
first_missing (accept a) f h = not_missing (h a)

frame_by :
    {A : Type 0} (a b c d : Bool) (rest : Unit {0} → Verdict A) → Refuses Other (rest tt)
    → is_missing (require 1 a (λ _. require 3 b (λ _. require 4 c (λ _. require 1 d rest)))) ≡ (not a || (b && (c && not d)))
unfolding require
frame_by false b c d rest h = refl
frame_by true false c d rest h = refl
frame_by true true false d rest h = refl
frame_by true true true false rest h = refl
frame_by true true true true rest h = not_missing h

frame_missing : (limit highest : ℕ) (s : List ℕ) → is_missing (frame limit highest s) ≡ lacks_bytes limit s
unfolding frame lacks_bytes
frame_missing limit highest s =
    frame_by (leb 4 (length s)) (leb 8 (size_of s)) (leb (size_of s) limit) (leb (size_of s) (length s)) _ (on_require Other _ _ _ refl (λ t. on_require Other _ _ _ refl (λ u. takes)))

content_other : (s : List ℕ) → Refuses Other (content s)
unfolding content
content_other [] = takes
content_other (b ∷ s) = on_then Other _ (by_number (performative (b ∷ s)) (λ k e. let x : k ≡ 6 = performative_six (b ∷ s) k e in ne_eqb k 1 (λ y. omega arith))) (λ p. takes)

read_missing : (limit highest : ℕ) (s : List ℕ) → is_missing (read_frame limit highest s) ≡ lacks_bytes limit s
unfolding read_frame
read_missing limit highest s = first_missing (frame limit highest s) _ (λ f. on_then Other _ (content_other (body_in f s)) (λ c. takes)) ∙ frame_missing limit highest s

-- what comes after the frame is read is refused with 20, 24 and 25
late_other : (x : State) (k : ℕ) → T (unread x k) → Other k
late_other x k t = ne_eqb k 1 (λ e. subst (λ n. T (unread x n)) e t)

after_other : (role : Role) (S : Settings) (c : K.Connection) (h : ℕ) (r : Frame × Option Performative) → Refuses Other (frame_read role S c h r)
after_other role S c h r = refuses_as (late_other c.state) (late_frame role S c h r)

lacks_is : (v : Verdict K.Outcome) → lacks v ≡ is_missing v
lacks_is (refuse k) = refl
lacks_is (accept o) = refl

-- both are the same
pub missing_is : (role : Role) (S : Settings) (c : K.Connection) (s : List ℕ) (h : ℕ) → lacks (decide role S c (receive_frame s h)) ≡ lacks_bytes c.reading_limit s
missing_is role S c s h =
    lacks_is (decide role S c (receive_frame s h)) ∙ first_missing (read_frame c.reading_limit S.channel_max s) (frame_read role S c h) (after_other role S c h) ∙ read_missing c.reading_limit S.channel_max s
