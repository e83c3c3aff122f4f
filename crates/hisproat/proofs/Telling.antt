-- What each answer of a call comes to in numbers, and what each event amounts to, with the facts as they come.
-- Assumes nothing.
use mathlib.Core.Path.{◌≡◌, refl, sym, ◌∙◌, ap, subst}
use mathlib.Core.Bool.{Bool, true, false, not}
use mathlib.Core.List.{[], ◌∷◌}
use Rattle.std.specs.Prelude.{Some, Result, Ok, Err}
use Prim.Native.Nat.{ℕ, zero, suc}
use native.Mathlib.Omega.{arith}
use lib.Dec.{ltb}
use borrow.Author.Tests.{lt-ltb, ne_eqb}
use types.Run.{OneOf, miss}
use denote.Enum.Declared.{tag_of}
use Rattle.octets.specs.Refusal.{number_of}
use Rattle.octets.specs.declared.Refusal.{Refusal}
use Rattle.channels.specs.Numbers.{one}
use Rattle.connection.specs.View.{header_says, freed_says, tick_says}
use Rattle.connection.specs.declared.HeaderAnswer.{HeaderAnswer}
use Rattle.connection.specs.declared.HeaderAnswer.TheVariants.{Amqp, OtherProtocol}
use Rattle.connection.specs.contracts.HeaderAnswer.{the_type as header_type}
use Rattle.connection.specs.declared.TickAnswer.{TickAnswer}
use Rattle.connection.specs.declared.TickAnswer.TheVariants.{Wrote, Stop as Idle}
use Rattle.connection.specs.contracts.TickAnswer.{the_type as tick_type}
use Rattle.endpoint.specs.Answers.{came_says, answer_says, sent_says, allocate_says}
use Rattle.endpoint.specs.declared.FrameAnswer.{FrameAnswer}
use Rattle.endpoint.specs.declared.FrameAnswer.TheVariants.{NothingToDo, Opened, Closed, Forward, Began}
use Rattle.endpoint.specs.contracts.FrameAnswer.{the_type as frame_type}
use Rattle.engine.specs.declared.Running.{Running}
use Rattle.engine.specs.declared.Running.TheVariants.{Continue}
use Rattle.engine.specs.Answers.{reply_says, opening_says, sent_count, tick_count}
use Rattle.hisproat.specs.declared.answers.Inner as I
use Rattle.hisproat.specs.declared.answers.Done.{Done}
use Rattle.hisproat.specs.Answers.{flagged, inner, answer_inner, inner_of}
use Rattle.hisproat.specs.Promises.{inner_says, HeaderRuns, Amounts}

-- ---- numbers

pub set_is : (k : ℕ) → ltb 0 k ≡ flagged k
set_is zero = refl
set_is (suc k) = lt-ltb 0 (suc k) (omega arith) ∙ ap not (sym (ne_eqb (suc k) 0 (λ e. omega arith)))

-- ---- what the call inside answered

module _ (r : I.Inner) where
  pub wrote_inner : (a : Result ℕ Refusal) (n : ℕ) → a ≡ Ok n → inner_says r ≡ inner 2 0 0 0 0 0 → inner_says r ≡ inner_of (Some (sent_says a))
  wrote_inner a n e p = p ∙ ap (λ x. inner_of (Some (sent_says x))) (sym e)

  pub unwritten_inner : (a : Result ℕ Refusal) (k : Refusal) → a ≡ Err k → inner_says r ≡ inner 1 (number_of k) 0 0 0 0 → inner_says r ≡ inner_of (Some (sent_says a))
  unwritten_inner a k e p = p ∙ ap (λ x. inner_of (Some (sent_says x))) (sym e)

  module _ (a : Result HeaderAnswer Refusal) where
    pub no_header_inner : (k : Refusal) → a ≡ Err k → inner_says r ≡ inner 1 (number_of k) 0 0 0 0 → inner_says r ≡ inner_of (Some (header_says a))
    no_header_inner k e p = p ∙ ap (λ x. inner_of (Some (header_says x))) (sym e)

    module _ (h : HeaderAnswer) (e : a ≡ Ok h) where
      pub amqp_inner : OneOf (0 ∷ []) (tag_of header_type h) → inner_says r ≡ inner 4 0 0 0 0 0 → inner_says r ≡ inner_of (Some (header_says a))
      amqp_inner o p = p ∙ go h o ∙ ap (λ x. inner_of (Some (header_says x))) (sym e)
        where
          go : (x : HeaderAnswer) → OneOf (0 ∷ []) (tag_of header_type x) → inner 4 0 0 0 0 0 ≡ inner_of (Some (header_says (Ok x)))
          go (Amqp n) o = refl
          go (OtherProtocol n) o = absurd (miss (0 ∷ []) 1 tt o)

      pub other_inner : OneOf (1 ∷ []) (tag_of header_type h) → inner_says r ≡ inner 5 0 0 0 0 0 → inner_says r ≡ inner_of (Some (header_says a))
      other_inner o p = p ∙ go h o ∙ ap (λ x. inner_of (Some (header_says x))) (sym e)
        where
          go : (x : HeaderAnswer) → OneOf (1 ∷ []) (tag_of header_type x) → inner 5 0 0 0 0 0 ≡ inner_of (Some (header_says (Ok x)))
          go (Amqp n) o = absurd (miss (1 ∷ []) 0 tt o)
          go (OtherProtocol n) o = refl

  module _ (a : Result TickAnswer Refusal) where
    pub no_tick_inner : (k : Refusal) → a ≡ Err k → inner_says r ≡ inner 1 (number_of k) 0 0 0 0 → inner_says r ≡ inner_of (Some (tick_says a))
    no_tick_inner k e p = p ∙ ap (λ x. inner_of (Some (tick_says x))) (sym e)

    module _ (t : TickAnswer) (e : a ≡ Ok t) where
      pub tick_inner : OneOf (0 ∷ []) (tag_of tick_type t) → inner_says r ≡ inner 2 0 0 0 0 0 → inner_says r ≡ inner_of (Some (tick_says a))
      tick_inner o p = p ∙ go t o ∙ ap (λ x. inner_of (Some (tick_says x))) (sym e)
        where
          go : (x : TickAnswer) → OneOf (0 ∷ []) (tag_of tick_type x) → inner 2 0 0 0 0 0 ≡ inner_of (Some (tick_says (Ok x)))
          go (Wrote n) o = refl
          go Idle o = absurd (miss (0 ∷ []) 1 tt o)

      pub end_inner : OneOf (1 ∷ []) (tag_of tick_type t) → inner_says r ≡ inner 3 0 0 0 0 0 → inner_says r ≡ inner_of (Some (tick_says a))
      end_inner o p = p ∙ go t o ∙ ap (λ x. inner_of (Some (tick_says x))) (sym e)
        where
          go : (x : TickAnswer) → OneOf (1 ∷ []) (tag_of tick_type x) → inner 3 0 0 0 0 0 ≡ inner_of (Some (tick_says (Ok x)))
          go (Wrote n) o = absurd (miss (1 ∷ []) 0 tt o)
          go Idle o = refl

  pub no_channel_inner : (a : Result ℕ Refusal) (k : Refusal) → a ≡ Err k → inner_says r ≡ inner 1 (number_of k) 0 0 0 0 → inner_says r ≡ inner_of (Some (allocate_says a))
  no_channel_inner a k e p = p ∙ ap (λ x. inner_of (Some (allocate_says x))) (sym e)

  pub freed_inner : (a : Result ℕ Refusal) (h : ℕ) → a ≡ Ok h → inner_says r ≡ inner 12 0 0 h 0 0 → inner_says r ≡ inner_of (Some (freed_says a))
  freed_inner a h e p = p ∙ ap (λ x. inner_of (Some (freed_says x))) (sym e)

  pub unfreed_inner : (a : Result ℕ Refusal) (k : Refusal) → a ≡ Err k → inner_says r ≡ inner 1 (number_of k) 0 0 0 0 → inner_says r ≡ inner_of (Some (freed_says a))
  unfreed_inner a k e p = p ∙ ap (λ x. inner_of (Some (freed_says x))) (sym e)

  module _ (a : FrameAnswer) where
    pub nothing_inner : OneOf (0 ∷ []) (tag_of frame_type a) → inner_says r ≡ inner 6 0 0 0 0 0 → inner_says r ≡ answer_inner (came_says a)
    nothing_inner o p = p ∙ go a o
      where
        go : (x : FrameAnswer) → OneOf (0 ∷ []) (tag_of frame_type x) → inner 6 0 0 0 0 0 ≡ answer_inner (came_says x)
        go (NothingToDo n) o = refl
        go (Opened n idle) o = absurd (miss (0 ∷ []) 1 tt o)
        go (Closed n error) o = absurd (miss (0 ∷ []) 2 tt o)
        go (Forward n code h from len) o = absurd (miss (0 ∷ []) 3 tt o)
        go (Began n ch h from len) o = absurd (miss (0 ∷ []) 4 tt o)

    pub opened_inner : (n idle : ℕ) → a ≡ Opened n idle → inner_says r ≡ inner 7 0 0 idle 0 0 → inner_says r ≡ answer_inner (came_says a)
    opened_inner n idle e p = p ∙ ap (λ x. answer_inner (came_says x)) (sym e)

    pub closed_inner : (n : ℕ) (error : Bool) (d : ℕ) → a ≡ Closed n error → d ≡ one error → inner_says r ≡ inner 8 d 0 0 0 0 → inner_says r ≡ answer_inner (came_says a)
    closed_inner n error d e f p = p ∙ ap (λ x. inner 8 x 0 0 0 0) f ∙ ap (λ x. answer_inner (came_says x)) (sym e)

    pub forward_inner : (n code h from len : ℕ) → a ≡ Forward n code h from len → inner_says r ≡ inner 9 code 0 h from len → inner_says r ≡ answer_inner (came_says a)
    forward_inner n code h from len e p = p ∙ ap (λ x. answer_inner (came_says x)) (sym e)

    pub began_inner : (n ch h from len : ℕ) → a ≡ Began n ch h from len → inner_says r ≡ inner 10 17 ch h from len → inner_says r ≡ answer_inner (came_says a)
    began_inner n ch h from len e p = p ∙ ap (λ x. answer_inner (came_says x)) (sym e)

  pub frame_inner : (a : Result FrameAnswer Refusal) (x : FrameAnswer) → a ≡ Ok x → inner_says r ≡ answer_inner (came_says x) → inner_says r ≡ inner_of (Some (answer_says a))
  frame_inner a x e p = p ∙ ap (λ y. inner_of (Some (answer_says y))) (sym e)

  pub no_frame_inner : (a : Result FrameAnswer Refusal) (k : Refusal) → a ≡ Err k → inner_says r ≡ inner 1 (number_of k) 0 0 0 0 → inner_says r ≡ inner_of (Some (answer_says a))
  no_frame_inner a k e p = p ∙ ap (λ x. inner_of (Some (answer_says x))) (sym e)

pub channel_inner : (a : Result ℕ Refusal) (k : ℕ) → a ≡ Ok k → inner 11 0 k 0 0 0 ≡ inner_of (Some (allocate_says a))
channel_inner a k e = ap (λ x. inner_of (Some (allocate_says x))) (sym e)

-- ---- a header that came

pub runs_taken : (a : Result HeaderAnswer Refusal) (h : HeaderAnswer) → a ≡ Ok h → HeaderRuns a (Ok Continue)
runs_taken a h e = subst (λ x. HeaderRuns x (Ok Continue)) (sym e) refl

pub runs_not : (a : Result HeaderAnswer Refusal) (k : Refusal) → a ≡ Err k → HeaderRuns a (Err k)
runs_not a k e = subst (λ x. HeaderRuns x (Err k)) (sym e) refl

-- ---- what an event amounts to

abbrev done_of : Result Running Refusal → ℕ → ℕ → I.Inner → Done
done_of run consumed written i = record { running = run; consumed = consumed; written = written; inner = i }

module _ (i : I.Inner) where
  pub amounts_sent : (a : Result ℕ Refusal) (n : ℕ) → a ≡ Ok n → inner_says i ≡ inner_of (Some (sent_says a)) → Amounts (done_of (Ok Continue) 0 n i) (Some (sent_says a)) (opening_says 0 (sent_count a) (sent_says a))
  amounts_sent a n q p = record { amounts_inner = p; amounts_reply = rw q refl }

  pub amounts_unsent : (a : Result ℕ Refusal) (k : Refusal) → a ≡ Err k → inner_says i ≡ inner_of (Some (sent_says a)) → Amounts (done_of (Err k) 0 0 i) (Some (sent_says a)) (opening_says 0 (sent_count a) (sent_says a))
  amounts_unsent a k q p = record { amounts_inner = p; amounts_reply = rw q refl }

  received_says : (a : Result HeaderAnswer Refusal) (run : Result Running Refusal) → HeaderRuns a run → reply_says run 8 0 (Some (header_says a)) ≡ opening_says 8 0 (header_says a)
  received_says (Ok (Amqp n)) run h = ap (λ x. reply_says x 8 0 (Some (header_says (Ok (Amqp n))))) h
  received_says (Ok (OtherProtocol n)) run h = ap (λ x. reply_says x 8 0 (Some (header_says (Ok (OtherProtocol n))))) h
  received_says (Err k) run h = ap (λ x. reply_says x 8 0 (Some (header_says (Err k)))) h

  pub amounts_received :
      (a : Result HeaderAnswer Refusal) (run : Result Running Refusal) → HeaderRuns a run → inner_says i ≡ inner_of (Some (header_says a)) → Amounts (done_of run 8 0 i) (Some (header_says a)) (opening_says 8 0 (header_says a))
  amounts_received a run h p = record { amounts_inner = p; amounts_reply = received_says a run h }

  pub amounts_ticked :
      (a : Result TickAnswer Refusal) (run : Result Running Refusal) (n : ℕ) → n ≡ tick_count a → inner_says i ≡ inner_of (Some (tick_says a)) → Amounts (done_of run 0 n i) (Some (tick_says a)) (reply_says run 0 (tick_count a) (Some (tick_says a)))
  amounts_ticked a run n q p = record { amounts_inner = p; amounts_reply = ap (λ m. reply_says run 0 m (Some (tick_says a))) q }
