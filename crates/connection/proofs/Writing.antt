-- Calls that write a frame or a header and move: the header, Open, and Close; and the tick.
-- Assumes nothing.
use mathlib.Core.Path.{◌≡◌, refl, sym, ◌∙◌, ap, subst}
use mathlib.Core.Bool.{Bool, true, false, cond}
use mathlib.Core.List.{List, []}
use Rattle.std.specs.Prelude.{Option, None, Some, Result, Ok, Err}
use Prim.Native.Nat.{ℕ, ◌≤◌, ◌<◌}
use native.Mathlib.Omega.{arith}
use lib.ListN.{length}
use Rattle.octets.specs.Verdict.{Verdict, refuse, accept, require, and_then}
use Rattle.octets.specs.Octets.{bytes_of}
use Rattle.octets.specs.Output.{room_for, laid, counted, Wrote}
use Rattle.octets.specs.Refusal.{number_of, judged}
use Rattle.octets.specs.declared.Refusal.{Refusal}
use Rattle.octets.specs.declared.Refusal.TheVariants.{OutOfBounds, NoRoom, IllegalState}
use Rattle.octets.proofs.Laws.{require_on, require_off, then_accept, then_refuse, room_yes, room_no}
use Rattle.protocol_header.specs.declared.ProtocolHeader.{ProtocolHeader}
use Rattle.protocol_header.specs.Answers.{header_of}
use Rattle.protocol_header.specs.Header.{header_bytes, version100, write_header}
use Rattle.frame_encoder.specs.Frames.{Settings, ErrorText, frame_bytes, frame_header, limited, open_body, close_ok, close_body, error_ok, write_frame, write_open, write_close, write_empty}
use Rattle.connection_state.specs.States.{State, End, is, is_one_of, along, send_header, send_open, send_close, send_close_with_error, silent}
use Rattle.connection_model.specs.Connection as M
use Rattle.connection_model.specs.Connection.{Answer, Outcome, Call, send_header_to, send_open_to, send_close_to, tick, lent, go, stay, says, stop, writes, wrote, answered, after, written, closes, ticked}
use Rattle.connection_state.specs.declared.ConnectionState.{ConnectionState}
use Rattle.connection_state.specs.Answers.{state_says, moved_says}
use Rattle.local_open.specs.declared.LocalOpen.{LocalOpen}
use Rattle.local_open.specs.Settings.{allowed, open_says}
use Rattle.endpoint.specs.Answers.{sent_says}
use Rattle.endpoint.proofs.Basics.{same_all}
use Rattle.connection.specs.declared.Connection.{Connection}
use Rattle.connection.specs.declared.Sent.{Sent}
use Rattle.connection.specs.View.{Whole, whole, endpoint_in, settings_of, view_of, Sound}
use Rattle.connection.specs.Promises.{Does, Beats, tick_of, moved_if}
use Rattle.connection.proofs.Calls.{apart, comes_to, does, refuses}

-- 9, 8, 20, and what the writer says
abbrev pub sending : Bool → Bool → Verdict State → Verdict (List ℕ) → Verdict Outcome
sending room ok to bytes = require 9 room (λ _. require 8 ok (λ _. and_then to (λ x. and_then bytes (λ b. writes b (go x)))))

pub header_sending : (w : Whole) (out : List ℕ) → comes_to w (send_header_to out) ≡ sending (room_for 0 out) true (along send_header (view_of w).state) (accept (header_bytes (version100 0)))
unfolding require and_then
header_sending w out = refl

pub open_sending :
    (w : Whole) (out : List ℕ)
    → comes_to w (send_open_to out) ≡ sending (room_for 0 out) true (along send_open (view_of w).state) (limited (view_of w).writing_limit (frame_bytes 0 (open_body (settings_of w))))
unfolding require
open_sending w out = refl

pub close_sending :
    (w : Whole) (e : Option ErrorText) (out : List ℕ)
    → comes_to w (send_close_to e out) ≡ sending (room_for 0 out) (close_ok e) (closes e (view_of w).state) (limited (view_of w).writing_limit (frame_bytes 0 (close_body e)))
close_sending w e out = refl

-- ---- what the writers say, once 9 and 8 have passed

pub header_written : (out : List ℕ) → room_for 0 out ≡ true → write_header (version100 0) out ≡ accept (header_bytes (version100 0))
unfolding write_header
header_written out r = require_on 9 _ _ r

frame_written : (ok : Bool) (limit : ℕ) (bytes out : List ℕ) → room_for 0 out ≡ true → ok ≡ true → write_frame ok limit bytes out ≡ limited limit bytes
unfolding write_frame
frame_written ok limit bytes out r o = require_on 9 _ _ r ∙ require_on 8 ok _ o

pub open_written : (S : Settings) (limit : ℕ) (out : List ℕ) → room_for 0 out ≡ true → allowed S ≡ true → write_open S limit out ≡ limited limit (frame_bytes 0 (open_body S))
unfolding write_open
open_written S limit out r o = frame_written _ limit _ out r o

pub close_written : (e : Option ErrorText) (limit : ℕ) (out : List ℕ) → room_for 0 out ≡ true → close_ok e ≡ true → write_close e limit out ≡ limited limit (frame_bytes 0 (close_body e))
unfolding write_close
close_written e limit out r o = frame_written _ limit _ out r o

-- ---- the steps of such a call

-- it was refused, and the connection is as it was
abbrev pub NotSent : Refusal → Connection → Sent → Type 0
NotSent k c s = (s.answer ≡ Err k) × (s.connection ≡ c)

-- with what is lent to it
module _ (t id : List ℕ) where
  kept : (c d : Connection) → d ≡ c → whole d t id ≡ whole c t id
  kept c d q = ap (λ u. whole u t id) q

  module _ (call : Call) (c : Connection) (ok : Bool) (to : Verdict State) (bytes : Verdict (List ℕ)) (e : comes_to (whole c t id) call ≡ sending (room_for 0 (lent call)) ok to bytes) where
    -- 9
    pub no_room : (d : Connection) (a : Verdict Answer) → a ≡ refuse 9 → d ≡ c → length (lent call) < 16384 → Does call (whole c t id) a (lent call) (whole d t id)
    no_room d a p q l = refuses call _ _ 9 a (lent call) (λ z. e ∙ require_off 9 _ _ (room_no 0 (lent call) (omega arith))) p (kept c d q) refl

    module _ (room : 16384 ≤ length (lent call)) where
      has_room_lem : room_for 0 (lent call) ≡ true
      has_room_lem = room_yes 0 (lent call) (omega arith)

      -- 8
      pub not_ok : (d : Connection) (a : Verdict Answer) → a ≡ refuse 8 → d ≡ c → ok ≡ false → Does call (whole c t id) a (lent call) (whole d t id)
      not_ok d a p q o = refuses call _ _ 8 a (lent call) (λ z. e ∙ require_on 9 _ _ has_room_lem ∙ require_off 8 _ _ o) p (kept c d q) refl

      module _ (fine : ok ≡ true) where
        -- 20
        pub illegal : (d : Connection) (a : Verdict Answer) → a ≡ refuse 20 → d ≡ c → to ≡ refuse 20 → Does call (whole c t id) a (lent call) (whole d t id)
        illegal d a p q o =
            refuses call _ _ 20 a (lent call) (λ z. e ∙ require_on 9 _ _ has_room_lem ∙ require_on 8 _ _ fine ∙ then_refuse to _ 20 o) p (kept c d q) refl

        -- the state moves if the writer wrote
        module _ (next : ConnectionState) (legal : to ≡ accept (state_says next)) (v : Verdict (List ℕ)) (same : Sound (whole c t id) → v ≡ bytes) where
          comes : Sound (whole c t id) → comes_to (whole c t id) call ≡ and_then v (λ b. writes b (go (state_says next)))
          comes z = e ∙ require_on 9 _ _ has_room_lem ∙ require_on 8 _ _ fine ∙ then_accept to _ _ legal ∙ ap (λ u. and_then u (λ b. writes b (go (state_says next)))) (sym (same z))

          by_answer : (answer : Result ℕ Refusal) (out : List ℕ) (u : Verdict (List ℕ)) → v ≡ u → Wrote u answer (lent call) out → Does call (whole c t id) (sent_says answer) out (whole (moved_if answer c next) t id)
          unfolding counted laid and_then
          by_answer (Ok n) out (refuse k) p r = apart (cc)
          by_answer (Ok n) out (accept b) p r =
              let q : n ≡ length b = cc in
              does call _ _ (writes b (go (state_says next))) (accept (wrote n)) out (λ z. comes z ∙ ap (λ u. and_then u (λ b. writes b (go (state_says next)))) p)
              (λ z. ap (λ m. accept (wrote m)) q) (λ z. r.output) (λ z. refl) (λ z. z.held) (same_all (endpoint_in (whole c t id))) (λ k f. apart (cc))
          by_answer (Err k) out (refuse j) p r =
              let q : j ≡ number_of k = cc in
              refuses call _ _ (number_of k) (refuse (number_of k)) out (λ z. comes z ∙ ap (λ u. and_then u (λ b. writes b (go (state_says next)))) p ∙ ap refuse q) refl refl r.output
          by_answer (Err k) out (accept b) p r = apart (cc)

          pub moves : (answer : Result ℕ Refusal) (out : List ℕ) (d : Connection) → Wrote v answer (lent call) out → d ≡ moved_if answer c next → Does call (whole c t id) (sent_says answer) out (whole d t id)
          moves answer out d r q = subst (λ u. Does call (whole c t id) (sent_says answer) out (whole u t id)) (sym q) (by_answer answer out v refl r)

        -- as the calls find it: a move or none, and what was answered
        pub not_legal : (m : Option ConnectionState) (s : Sent) → NotSent IllegalState c s → m ≡ None → moved_says m ≡ to → Does call (whole c t id) (sent_says s.answer) (lent call) (whole s.connection t id)
        not_legal m s r i p = illegal s.connection (sent_says s.answer) (ap sent_says r.0) r.1 (sym p ∙ ap moved_says i)

        pub sent :
            (m : Option ConnectionState) (next : ConnectionState) (v : Verdict (List ℕ)) (answer : Result ℕ Refusal) (out : List ℕ) (d : Connection) → m ≡ Some next → moved_says m ≡ to → (Sound (whole c t id) → v ≡ bytes)
            → Wrote v answer (lent call) out → d ≡ moved_if answer c next → Does call (whole c t id) (sent_says answer) out (whole d t id)
        sent m next v answer out d i p same r q = moves next (sym p ∙ ap moved_says i) v same answer out d r q

-- ---- call by call

module _ (c : Connection) (out : List ℕ) where
  pub header_9 : (s : Sent) → NotSent NoRoom c s → length out < 16384 → (t id : List ℕ) → Does (send_header_to out) (whole c t id) (sent_says s.answer) out (whole s.connection t id)
  header_9 s r l t id = no_room t id (send_header_to out) c true _ _ (header_sending (whole c t id) out) s.connection _ (ap sent_says r.0) r.1 l

  pub open_9 : (id : List ℕ) (s : Sent) → NotSent NoRoom c s → length out < 16384 → (t : List ℕ) → Does (send_open_to out) (whole c t id) (sent_says s.answer) out (whole s.connection t id)
  open_9 id s r l t = no_room t id (send_open_to out) c true _ _ (open_sending (whole c t id) out) s.connection _ (ap sent_says r.0) r.1 l

  pub close_9 : (e : Option ErrorText) (s : Sent) → NotSent NoRoom c s → length out < 16384 → (t id : List ℕ) → Does (send_close_to e out) (whole c t id) (sent_says s.answer) out (whole s.connection t id)
  close_9 e s r l t id = no_room t id (send_close_to e out) c _ _ _ (close_sending (whole c t id) e out) s.connection _ (ap sent_says r.0) r.1 l

  module _ (l : 16384 ≤ length out) where
    pub header_20 : (m : Option ConnectionState) (s : Sent) → NotSent IllegalState c s → m ≡ None → moved_says m ≡ along send_header (state_says c.local_state)
        → (t id : List ℕ) → Does (send_header_to out) (whole c t id) (sent_says s.answer) out (whole s.connection t id)
    header_20 m s r i p t id = not_legal t id (send_header_to out) c true _ _ (header_sending (whole c t id) out) l refl m s r i p

    pub header_sent_is :
        (m : Option ConnectionState) (next : ConnectionState) (h : ProtocolHeader) (answer : Result ℕ Refusal) (out' : List ℕ) (d : Connection) → m ≡ Some next → moved_says m ≡ along send_header (state_says c.local_state)
        → header_of h ≡ version100 0 → Wrote (write_header (header_of h) out) answer out out' → d ≡ moved_if answer c next
        → (t id : List ℕ) → Does (send_header_to out) (whole c t id) (sent_says answer) out' (whole d t id)
    header_sent_is m next h answer out' d i p v r q t id =
        sent t id (send_header_to out) c true _ _ (header_sending (whole c t id) out) l refl m next (write_header (header_of h) out) answer out' d i p
        (λ z. ap (λ x. write_header x out) v ∙ header_written out (room_yes 0 out (omega arith))) r q

    module _ (id : List ℕ) where
      pub open_20 : (m : Option ConnectionState) (s : Sent) → NotSent IllegalState c s → m ≡ None → moved_says m ≡ along send_open (state_says c.local_state)
          → (t : List ℕ) → Does (send_open_to out) (whole c t id) (sent_says s.answer) out (whole s.connection t id)
      open_20 m s r i p t = not_legal t id (send_open_to out) c true _ _ (open_sending (whole c t id) out) l refl m s r i p

      -- with settings beyond their limits, which no sound connection has, the writer refuses
      pub open_sent :
          (m : Option ConnectionState) (next : ConnectionState) (o : LocalOpen) (limit : ℕ) (answer : Result ℕ Refusal) (out' : List ℕ) (d : Connection) → m ≡ Some next → moved_says m ≡ along send_open (state_says c.local_state)
          → o ≡ c.endpoint.local_open → limit ≡ c.endpoint.writing_limit → Wrote (write_open (open_says id o) limit out) answer out out' → d ≡ moved_if answer c next
          → (t : List ℕ) → Does (send_open_to out) (whole c t id) (sent_says answer) out' (whole d t id)
      open_sent m next o limit answer out' d i p s w r q t =
          sent t id (send_open_to out) c true _ _ (open_sending (whole c t id) out) l refl m next (write_open (open_says id o) limit out) answer out' d i p
          (λ z. (λ j. write_open (open_says id (s j)) (w j) out) ∙ open_written (settings_of (whole c t id)) c.endpoint.writing_limit out (room_yes 0 out (omega arith)) z.fine) r q

    pub close_20 : (m : Option ConnectionState) (s : Sent) → NotSent IllegalState c s → m ≡ None → moved_says m ≡ along send_close (state_says c.local_state)
        → (t id : List ℕ) → Does (send_close_to None out) (whole c t id) (sent_says s.answer) out (whole s.connection t id)
    close_20 m s r i p t id = not_legal t id (send_close_to None out) c true _ _ (close_sending (whole c t id) None out) l refl m s r i p

    pub close_sent :
        (m : Option ConnectionState) (next : ConnectionState) (limit : ℕ) (answer : Result ℕ Refusal) (out' : List ℕ) (d : Connection) → m ≡ Some next → moved_says m ≡ along send_close (state_says c.local_state)
        → limit ≡ c.endpoint.writing_limit → Wrote (write_close None limit out) answer out out' → d ≡ moved_if answer c next
        → (t id : List ℕ) → Does (send_close_to None out) (whole c t id) (sent_says answer) out' (whole d t id)
    close_sent m next limit answer out' d i p w r q t id =
        sent t id (send_close_to None out) c true _ _ (close_sending (whole c t id) None out) l refl m next (write_close None limit out) answer out' d i p
        (λ z. ap (λ n. write_close None n out) w ∙ close_written None c.endpoint.writing_limit out (room_yes 0 out (omega arith)) refl) r q

    module _ (e : ErrorText) (b : Bool) (ok : b ≡ error_ok e) where
      pub error_8 : (s : Sent) → NotSent OutOfBounds c s → b ≡ false → (t id : List ℕ) → Does (send_close_to (Some e) out) (whole c t id) (sent_says s.answer) out (whole s.connection t id)
      error_8 s r f t id = not_ok t id (send_close_to (Some e) out) c _ _ _ (close_sending (whole c t id) (Some e) out) l s.connection _ (ap sent_says r.0) r.1 (sym ok ∙ f)

      pub error_20 : (m : Option ConnectionState) (s : Sent) → NotSent IllegalState c s → b ≡ true → m ≡ None → moved_says m ≡ along send_close_with_error (state_says c.local_state)
          → (t id : List ℕ) → Does (send_close_to (Some e) out) (whole c t id) (sent_says s.answer) out (whole s.connection t id)
      error_20 m s r g i p t id = not_legal t id (send_close_to (Some e) out) c _ _ _ (close_sending (whole c t id) (Some e) out) l (sym ok ∙ g) m s r i p

      pub error_sent :
          (m : Option ConnectionState) (next : ConnectionState) (limit : ℕ) (answer : Result ℕ Refusal) (out' : List ℕ) (d : Connection) → b ≡ true → m ≡ Some next
          → moved_says m ≡ along send_close_with_error (state_says c.local_state) → limit ≡ c.endpoint.writing_limit → Wrote (write_close (Some e) limit out) answer out out'
          → d ≡ moved_if answer c next → (t id : List ℕ) → Does (send_close_to (Some e) out) (whole c t id) (sent_says answer) out' (whole d t id)
      error_sent m next limit answer out' d g i p w r q t id =
          sent t id (send_close_to (Some e) out) c _ _ _ (close_sending (whole c t id) (Some e) out) l (sym ok ∙ g) m next (write_close (Some e) limit out) answer out' d i p
          (λ z. ap (λ n. write_close (Some e) n out) w ∙ close_written (Some e) c.endpoint.writing_limit out (room_yes 0 out (omega arith)) (sym ok ∙ g)) r q

-- ---- the tick

-- a rule that refuses leaves the output as it is
refusing : (rule : Verdict Outcome) (k : ℕ) (out : List ℕ) → answered rule ≡ refuse k → laid (written rule) out ≡ out
unfolding laid
refusing (refuse j) k out e = refl
refusing (accept o) k out e = apart (cc)

stays : (x : State) (out : List ℕ) (S : Settings) (v : M.Connection) → v ≡ after S (tick_of x out) v
unfolding require
stays x out S v = by_room (room_for 0 out)
  where
    by_silent : (b : Bool) → v ≡ after S (cond b (writes [] stay) (writes (frame_bytes 0 []) stay)) v
    by_silent true = refl
    by_silent false = refl

    by_end : (b : Bool) → v ≡ after S (cond b (says stop stay) (cond (is_one_of silent x) (writes [] stay) (writes (frame_bytes 0 []) stay))) v
    by_end true = refl
    by_end false = by_silent (is_one_of silent x)

    by_room : (b : Bool) → v ≡ after S (require 9 b (λ _. ticked x)) v
    by_room true = by_end (is End x)
    by_room false = refl

pub beats_does : (c : Connection) (out out' : List ℕ) (a : Verdict Answer) → Beats (state_says c.local_state) a out out' → (t id : List ℕ) → Does (tick out) (whole c t id) a out' (whole c t id)
beats_does c out out' a b t id =
    let x = state_says c.local_state in
    does (tick out) _ _ (tick_of x out) a out' (λ z. refl) (λ z. b.beats) (λ z. b.beats_output) (λ z. stays x out (settings_of (whole c t id)) (view_of (whole c t id))) (λ z. z.held)
    (same_all (endpoint_in (whole c t id))) (λ k p. (refl, b.beats_output ∙ refusing (tick_of x out) k out (sym b.beats ∙ p)))

-- what it does in a state
module _ (x : State) (out : List ℕ) where
  pub beats_not : length out < 16384 → Beats x (refuse 9) out out
  unfolding laid
  beats_not l =
      let r : tick_of x out ≡ refuse 9 = require_off 9 _ _ (room_no 0 out (omega arith)) in
      record { beats = sym (ap answered r); beats_output = sym (ap (λ v. laid (written v) out) r) }

  module _ (l : 16384 ≤ length out) where
    room : tick_of x out ≡ ticked x
    room = require_on 9 _ _ (room_yes 0 out (omega arith))

    pub beats_end : (b : Bool) → b ≡ is End x → b ≡ true → Beats x (accept stop) out out
    unfolding laid
    beats_end b e t =
        let r : tick_of x out ≡ says stop stay = room ∙ rw (sym e, t) in
        record { beats = sym (ap answered r); beats_output = sym (ap (λ v. laid (written v) out) r) }

    module _ (a : Bool) (e : a ≡ is End x) (t : a ≡ false) where
      pub beats_silent : (b : Bool) → b ≡ is_one_of silent x → b ≡ true → Beats x (accept (wrote 0)) out out
      unfolding laid
      beats_silent b f u =
          let r : tick_of x out ≡ writes [] stay = room ∙ rw (sym e, t, sym f, u) in
          record { beats = sym (ap answered r); beats_output = sym (ap (λ v. laid (written v) out) r) }

      module _ (b : Bool) (f : b ≡ is_one_of silent x) (u : b ≡ false) (out' : List ℕ) (w : Result ℕ Refusal) (g : Wrote (write_empty 512 out) w out out') where
        writes_it : tick_of x out ≡ writes (frame_bytes 0 []) stay
        writes_it = room ∙ rw (sym e, t, sym f, u)

        empty : write_empty 512 out ≡ accept (frame_bytes 0 [])
        unfolding write_empty write_frame limited require frame_bytes frame_header bytes_of
        empty = require_on 9 _ _ (room_yes 0 out (omega arith))

        pub beats_writes : (n : ℕ) → w ≡ Ok n → Beats x (accept (wrote n)) out out'
        unfolding counted
        beats_writes n p =
            let q : n ≡ length (frame_bytes 0 []) = (let z : judged (Ok n) ≡ counted (accept (frame_bytes 0 [])) = ap judged (sym p) ∙ g.answer ∙ ap counted empty in cc) in
            record {
              beats = ap (λ m. accept (wrote m)) q ∙ sym (ap answered writes_it);
              beats_output = g.output ∙ ap (λ v. laid v out) empty ∙ sym (ap (λ v. laid (written v) out) writes_it);
            }

        pub beats_written : (k : Refusal) → w ≡ Err k → Beats x (refuse (number_of k)) out out'
        unfolding counted
        beats_written k p =
            let z : judged (Err k) ≡ counted (accept (frame_bytes 0 [])) = ap judged (sym p) ∙ g.answer ∙ ap counted empty in
            apart (cc)
