-- Calls that are lent the tables: what they do, by what was read or what the endpoint did.
-- Assumes nothing.
use mathlib.Core.Path.{◌≡◌, refl, sym, ◌∙◌, ap, subst}
use mathlib.Core.Bool.{Bool, true, false, not}
use mathlib.Core.List.{List, []}
use Rattle.std.specs.Prelude.{Option, Some, Result, Ok, Err}
use Prim.Native.Nat.{ℕ, suc, ◌≤◌, ◌<◌}
use native.Mathlib.Omega.{arith}
use lib.ListN.{length}
use Rattle.octets.specs.Verdict.{Verdict, refuse, accept, and_then}
use Rattle.octets.specs.Output.{room_for}
use Rattle.octets.specs.Refusal.{number_of}
use Rattle.octets.specs.declared.Refusal.{Refusal}
use Rattle.octets.specs.declared.Refusal.TheVariants.{OutOfBounds, NoRoom, Stopped}
use Rattle.octets.proofs.Laws.{require_on, require_off, then_refuse, room_yes, room_no}
use Rattle.performatives.specs.Answers.{performative_says}
use Rattle.performatives.specs.declared.Performative.{Performative}
use Rattle.frame_decoder.specs.Frame.{Frame, read_frame}
use Rattle.frame_decoder.specs.Answers.{frame_says, frame_answer}
use Rattle.frame_decoder.specs.declared.Frame as F
use Rattle.frame_decoder.specs.declared.Frame.TheVariants.{Empty, Body}
use Rattle.connection_state.specs.States.{is_one_of, stopped}
use Rattle.connection_state.specs.Answers.{state_says}
use Rattle.channels.specs.Places.{covers}
use Rattle.connection_model.specs.Connection as M
use Rattle.connection_model.specs.Connection.{Answer, receive_frame, send_session_frame, allocate, deallocate, says, stay, given, released, frame_read, decide}
use Rattle.endpoint.specs.declared.Endpoint.{Endpoint}
use Rattle.endpoint.specs.Answers as A
use Rattle.endpoint.specs.Answers.{places_of, answer_says, allocate_says, deallocate_says, sent_says}
use Rattle.endpoint.specs.Promises as E
use Rattle.endpoint.proofs.Basics.{same_all}
use Rattle.connection.specs.declared.Connection.{Connection}
use Rattle.connection.specs.declared.Sent.{Sent}
use Rattle.connection.specs.declared.ReceivedFrame.{ReceivedFrame}
use Rattle.connection.specs.declared.AllocatedSession.{AllocatedSession}
use Rattle.connection.specs.View.{whole, endpoint_in, role_of, settings_of, view_of}
use Rattle.connection.specs.Promises.{Does, DoesIn, ReadsIn, bare_says, said_read}
use Rattle.connection.proofs.Calls.{comes_to, does, refuses, covered_does, roomless_does, uncovered_refuses, standing, stepped, reads_does, accepted_reads}
use Rattle.connection.proofs.Reading.{answer_refused, body_comes, empty_comes, quiet_given, quiet_released, quiet_said, quiet_nothing, body_channel, NoFrameAs}

-- ---- arms

pub handed_back : (a : Option ℕ) (h : ℕ) → a ≡ Some h → accept (M.freed h) ≡ deallocate_says a
handed_back a h e = sym (ap deallocate_says e)

-- a frame's channel has a place
pub channel_low :
    (limit highest most : ℕ) (s : List ℕ) (r : Result F.Frame Refusal) (g : F.Frame) (ch size from end : ℕ) (p : Performative) → r ≡ Ok g → g ≡ Body ch size from p end → frame_says r ≡ frame_answer limit highest s → highest ≡ most → ch < suc most
channel_low limit highest most s r g ch size from end p o q e m =
    let l : ch ≤ highest = body_channel limit highest s ch size from end p (sym (ap frame_says (o ∙ ap (λ x. Ok x) q)) ∙ e) in omega arith

-- the same connection with another endpoint
abbrev pub holding : Connection → Endpoint → Connection
holding c e = record { local_state = c.local_state; endpoint = e }

-- it was refused, and the connection is as it was
abbrev pub NoChannelAs : Refusal → Connection → AllocatedSession → Type 0
NoChannelAs k c s = (s.answer ≡ Err k) × (s.connection ≡ c)

abbrev pub NotSentAs : Refusal → Connection → Sent → Type 0
NotSentAs k c s = (s.answer ≡ Err k) × (s.connection ≡ c)

module _ (c : Connection) (t : List ℕ) where
  -- ---- allocate and deallocate

  pub allocate_short :
      (h : ℕ) (b : Bool) (x : AllocatedSession) → b ≡ covers (places_of c.endpoint) t → b ≡ false → NoChannelAs OutOfBounds c x
      → (id : List ℕ) → DoesIn (allocate h) (whole c t id) (allocate_says x.answer) [] (whole x.connection t id)
  allocate_short h b x e n q id = uncovered_refuses (allocate h) (whole c t id) _ _ [] refl (sym e ∙ n) (ap allocate_says q.0) (ap (λ d. whole d t id) q.1) refl

  pub allocate_stopped :
      (h : ℕ) (b a : Bool) (x : AllocatedSession) → b ≡ covers (places_of c.endpoint) t → b ≡ true → a ≡ is_one_of stopped (state_says c.local_state) → a ≡ true → NoChannelAs Stopped c x
      → (id : List ℕ) → DoesIn (allocate h) (whole c t id) (allocate_says x.answer) [] (whole x.connection t id)
  allocate_stopped h b a x e y p u q id =
      covered_does (allocate h) (whole c t id) _ _ [] refl (sym e ∙ y)
      (refuses (allocate h) (whole c t id) _ 22 _ [] (λ z. require_off 22 _ _ (ap not (sym p ∙ u))) (ap allocate_says q.0) (ap (λ d. whole d t id) q.1) refl)

  pub allocates :
      (h : ℕ) (b a : Bool) (v r : Verdict Answer) (e : Endpoint) (t' : List ℕ) → b ≡ covers (places_of c.endpoint) t → b ≡ true → a ≡ is_one_of stopped (state_says c.local_state) → a ≡ false
      → E.Steps (λ w. given h (A.hand_out_of w)) c.endpoint t v e t' → r ≡ v
      → (id : List ℕ) → DoesIn (allocate h) (whole c t id) r [] (whole (holding c e) t' id)
  allocates h b a v r e t' k y p u s q id =
      covered_does (allocate h) (whole c t id) _ r [] refl (sym k ∙ y)
      (subst (λ d. Does (allocate h) (whole c t id) d [] (whole (holding c e) t' id)) (sym q)
      (reads_does (allocate h) (whole c t id) _ (given h (view_of (whole c t id)).hand_out) v refl (quiet_given h (view_of (whole c t id)).hand_out) (λ z. require_on 22 _ _ (ap not (sym p ∙ u)))
      (stepped (whole c t id) _ v (A.whole e t' id) (s id))))

  pub deallocate_short :
      (ch : ℕ) (b : Bool) → b ≡ covers (places_of c.endpoint) t → b ≡ false → (id : List ℕ) → DoesIn (deallocate ch) (whole c t id) (refuse 8) [] (whole c t id)
  deallocate_short ch b e n id = uncovered_refuses (deallocate ch) (whole c t id) _ _ [] refl (sym e ∙ n) refl refl refl

  pub frees_does :
      (ch : ℕ) (b : Bool) (v r : Verdict Answer) (e : Endpoint) (t' : List ℕ) → b ≡ covers (places_of c.endpoint) t → b ≡ true
      → E.Steps (λ w. released ch (A.taken_of w ch)) c.endpoint t v e t' → r ≡ v
      → (id : List ℕ) → DoesIn (deallocate ch) (whole c t id) r [] (whole (holding c e) t' id)
  frees_does ch b v r e t' k y s q id =
      covered_does (deallocate ch) (whole c t id) _ r [] refl (sym k ∙ y)
      (subst (λ d. Does (deallocate ch) (whole c t id) d [] (whole (holding c e) t' id)) (sym q)
      (reads_does (deallocate ch) (whole c t id) _ (released ch ((view_of (whole c t id)).taken ch)) v refl (quiet_released ch ((view_of (whole c t id)).taken ch)) (λ z. refl)
      (stepped (whole c t id) _ v (A.whole e t' id) (s id))))

  -- ---- a session's frame that goes out

  module _ (s out : List ℕ) where
    pub send_9 :
        (x : Sent) → length out < 16384 → NotSentAs NoRoom c x
        → (id : List ℕ) → DoesIn (send_session_frame s out) (whole c t id) (sent_says x.answer) out (whole x.connection t id)
    send_9 x l q id =
        let n : room_for 0 out ≡ false = room_no 0 out (omega arith) in
        roomless_does (send_session_frame s out) (whole c t id) _ _ out n (ap sent_says q.0)
        (refuses (send_session_frame s out) (whole c t id) _ 9 _ out (λ z. require_off 9 _ _ n) (ap sent_says q.0) (ap (λ d. whole d t id) q.1) refl)

    pub send_short :
        (b : Bool) (x : Sent) → 16384 ≤ length out → b ≡ covers (places_of c.endpoint) t → b ≡ false → NotSentAs OutOfBounds c x
        → (id : List ℕ) → DoesIn (send_session_frame s out) (whole c t id) (sent_says x.answer) out (whole x.connection t id)
    send_short b x l e n q id = uncovered_refuses (send_session_frame s out) (whole c t id) _ _ out (room_yes 0 out (omega arith)) (sym e ∙ n) (ap sent_says q.0) (ap (λ d. whole d t id) q.1) refl

    pub sends_does :
        (b : Bool) (a : Verdict Answer) (e : Endpoint) (t' out' : List ℕ) → 16384 ≤ length out → b ≡ covers (places_of c.endpoint) t → b ≡ true
        → E.Sends (λ w. decide (A.role_of w) (A.settings_of w) (A.view_as (state_says c.local_state) w) (send_session_frame s out)) c.endpoint t a e t' out out'
        → (id : List ℕ) → DoesIn (send_session_frame s out) (whole c t id) a out' (whole (holding c e) t' id)
    sends_does b a e t' out' l k y g id =
        let r = g id in
        covered_does (send_session_frame s out) (whole c t id) _ a out' (room_yes 0 out (omega arith)) (sym k ∙ y)
        (does (send_session_frame s out) (whole c t id) (whole (holding c e) t' id) (comes_to (whole c t id) (send_session_frame s out)) a out' (λ z. refl) (λ z. r.step.says z.held)
        (λ z. r.output z.held) (λ z. r.step.leaves z.held _) (λ z. r.step.sound z.held) r.step.same
        (λ j p. (ap (standing c.local_state) (r.step.refused j p), r.output_refused j p)))

  -- ---- a frame that comes

  pub frame_short :
      (s : List ℕ) (h : ℕ) (b : Bool) (x : ReceivedFrame) → b ≡ covers (places_of c.endpoint) t → b ≡ false → NoFrameAs OutOfBounds c x
      → (id : List ℕ) → DoesIn (receive_frame s h) (whole c t id) (answer_says x.answer) [] (whole x.connection t id)
  frame_short s h b x e n q id = uncovered_refuses (receive_frame s h) (whole c t id) _ _ [] refl (sym e ∙ n) (ap answer_says q.0) (ap (λ d. whole d t id) q.1) refl

  module _ (s : List ℕ) (h : ℕ) (b : Bool) (k : b ≡ covers (places_of c.endpoint) t) (y : b ≡ true) (limit highest : ℕ) (l : limit ≡ c.endpoint.reading_limit) (m : highest ≡ c.endpoint.local_open.channel_max) (r : Result F.Frame Refusal) (e : frame_says r ≡ frame_answer limit highest s) where
    read_as : (id : List ℕ) → and_then (read_frame limit highest s) (frame_read (role_of (whole c t id)) (settings_of (whole c t id)) (view_of (whole c t id)) h) ≡ comes_to (whole c t id) (receive_frame s h)
    read_as id = λ i. and_then (read_frame (l i) (m i) s) (frame_read (role_of (whole c t id)) (settings_of (whole c t id)) (view_of (whole c t id)) h)

    -- it is refused
    pub unread : (k : Refusal) (x : ReceivedFrame) → r ≡ Err k → NoFrameAs k c x → (id : List ℕ) → DoesIn (receive_frame s h) (whole c t id) (answer_says x.answer) [] (whole x.connection t id)
    unread j x p q id =
        covered_does (receive_frame s h) (whole c t id) _ _ [] refl (sym k ∙ y)
        (refuses (receive_frame s h) (whole c t id) _ (number_of j) _ [] (λ z. sym (read_as id) ∙ then_refuse _ _ (number_of j) (answer_refused limit highest s (number_of j) (sym (ap frame_says p) ∙ e))) (ap answer_says q.0) (ap (λ d. whole d t id) q.1) refl)

    module _ (g : F.Frame) (is : r ≡ Ok g) where
      by_frame : (x : F.Frame) → g ≡ x → ((ch size from : ℕ) (p : Performative) (end : ℕ) → x ≡ Body ch size from p end → ⊥) → (id : List ℕ) → Does (receive_frame s h) (whole c t id) (accept (bare_says x)) [] (whole c t id)
      by_frame (Empty ch size from) p o id =
          let w = whole c t id in
          reads_does (receive_frame s h) w w (says (M.nothing_to_do size) stay) (accept (M.nothing_to_do size)) refl (quiet_nothing size)
          (λ z. sym (read_as id) ∙ empty_comes limit highest s ch size from (role_of w) (settings_of w) (view_of w) h (sym (ap frame_says (is ∙ ap (λ u. Ok u) p)) ∙ e))
          (accepted_reads (says (M.nothing_to_do size) stay) w w _ stay (λ z. refl) (λ z. refl) (λ z. z.held) (same_all (endpoint_in w)))
      by_frame (Body ch size from p end) q o id = absurd (o ch size from p end refl)

      -- there is nothing to do
      pub bare : (a : Answer) → ((ch size from : ℕ) (p : Performative) (end : ℕ) → g ≡ Body ch size from p end → ⊥) → a ≡ bare_says g → (id : List ℕ) → DoesIn (receive_frame s h) (whole c t id) (accept a) [] (whole c t id)
      bare a o q id =
          subst (λ d. DoesIn (receive_frame s h) (whole c t id) (accept d) [] (whole c t id)) (sym q)
          (covered_does (receive_frame s h) (whole c t id) _ (accept (bare_says g)) [] refl (sym k ∙ y) (by_frame g refl o id))

      -- it has a performative
      pub bodied :
          (ch size from end : ℕ) (p : Performative) (f : Frame) (a : Verdict Answer) (d : Connection) (t' : List ℕ) → g ≡ Body ch size from p end → f ≡ record { size = size; channel = ch; from = from }
          → ReadsIn (λ w. said_read (role_of w) (settings_of w) (view_of w) f h (performative_says p).0 (performative_says p).1) c t a d t'
          → (id : List ℕ) → DoesIn (receive_frame s h) (whole c t id) a [] (whole d t' id)
      bodied ch size from end p f a d t' q g' u id =
          let w = whole c t id in
          covered_does (receive_frame s h) w _ a [] refl (sym k ∙ y)
          (reads_does (receive_frame s h) w (whole d t' id) _ a refl (quiet_said (role_of w) (settings_of w) (view_of w) f h (performative_says p).0 (performative_says p).1)
          (λ z. sym (read_as id) ∙ body_comes limit highest s ch size from end p (sym (ap frame_says (is ∙ ap (λ x. Ok x) q)) ∙ e) (role_of w) (settings_of w) (view_of w) h f g') (u id))
