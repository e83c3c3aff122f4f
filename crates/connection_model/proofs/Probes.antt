-- The probing calls: each is one that a caller can pass, and what it draws from a connection tells a part of the connection's account.
-- Assumes nothing.
use mathlib.Core.Path.{◌≡◌, refl, ◌∙◌, ap}
use mathlib.Core.Bool.{Bool, true, false, cond, not, ◌&&◌}
use mathlib.Core.List.{List, [], ◌∷◌}
use Rattle.std.specs.Prelude.{Option, None, Some}
use Prim.Native.Nat.{ℕ, ◌-◌, ◌≤◌, ◌<◌}
use native.Mathlib.Omega.{arith}
use lib.Dec.{leb, eqb}
use lib.ListN.{length, replicate, length-replicate}
use borrow.Author.Tests.{le-leb, eq-eqb}
use Rattle.octets.specs.Verdict.{Verdict, refuse, accept, require, and_then, accepts}
use Rattle.octets.specs.Octets.{bytes_of}
use Rattle.octets.specs.Output.{room_for}
use Rattle.octets.proofs.Laws.{require_on, then_accept, then_refuse, length_bytes_of, room_yes}
use Rattle.protocol_header.specs.Header.{amqp100, is_protocol_id, protocol_id, starts_with_all, header, has_id, is_amqp100, protocol, received}
use Rattle.frame_decoder.specs.Frame.{Frame, read_frame}
use Rattle.frame_encoder.specs.Frames.{Settings, frame_bytes, limited}
use Rattle.frame_encoder.proofs.Laws.{length_frame}
use Rattle.connection_state.specs.States.{State, OpenReceived, Opened, CloseReceived, Discarding, is, is_one_of, Move, ◌⇒◌, along, send_header, receive_header, send_open, read_open, send_close, read_close, reading, sending, stopped}
use Rattle.channels.specs.Ties.{Tie, handle_of}
use Rattle.connection_model.specs.Connection.{Role, dialler, listener, Connection, connection, send_header_to, receive_header_from, send_open_to, receive_frame, send_close_to, send_session_frame, allocate, Answer, channel, Effect, stay, go, Outcome, says, writes, pass_on, frame_read, tied_by, session_sent, given, released, decide, answered, after, next}
use Rattle.connection_model.specs.Callers.{are_bytes, is_slice, is_valid}
use Rattle.connection_model.proofs.Valid.{both, slice_is, slice_frame, slice_replicate, bytes_replicate, bytes_number}
use Rattle.connection_model.proofs.ProbeFrames.{framed, an_open, a_close, a_detach, a_transfer, transferred, open_content, close_content, detach_content, read_whole, read_length, sent_whole, transfer_session, transfer_bytes}

-- ---- the output that is lent to them

pub space : List ℕ
space = replicate 16384 0

pub space_slice : is_slice space ≡ true
unfolding space
space_slice = slice_replicate 16384 (omega arith)

pub space_room : room_for 0 space ≡ true
unfolding space
space_room = room_yes 0 (replicate 16384 0) (omega (arith, length-replicate {A = ℕ} 16384 0))

-- ---- what a refusal tells

abbrev pub refused_with : ℕ → Verdict Answer → Bool
refused_with k (refuse n) = eqb n k
refused_with k (accept a) = false

-- whether a rule refuses with k
abbrev pub refuses : ℕ → Verdict Outcome → Bool
refuses k v = refused_with k (answered v)

-- whether a table does not name a state
abbrev pub bars : List Move → State → Bool
bars moves x = not (accepts (along moves x))

bars_step : (t : Bool) (b : State) (v : Verdict State) (f : State → Verdict Outcome) → ((y : State) → refuses 20 (f y) ≡ false)
    → refuses 20 (and_then v f) ≡ not (accepts v) → refuses 20 (and_then (cond t (accept b) v) f) ≡ not (accepts (cond t (accept b) v))
unfolding and_then accepts
bars_step true b v f h e = h b
bars_step false b v f h e = e

-- a rule that goes along a table, and after that never refuses with 20
moves_told : (moves : List Move) (x : State) (f : State → Verdict Outcome) → ((y : State) → refuses 20 (f y) ≡ false) → refuses 20 (and_then (along moves x) f) ≡ bars moves x
unfolding and_then accepts
moves_told [] x f h = refl
moves_told ((a ⇒ b) ∷ moves) x f h = bars_step (is a x) b (along moves x) f h (moves_told moves x f h)

require_told : (k : ℕ) (t : Bool) (rest : Unit {0} → Verdict Outcome) → refuses k (rest tt) ≡ false → refuses k (require k t rest) ≡ not t
unfolding require
require_told k true rest h = h
require_told k false rest h = eq-eqb k k refl

discard_told : (t : Bool) (a : Answer) (v : Verdict Outcome) → refuses 20 (cond t (says a stay) v) ≡ cond t false (refuses 20 v)
discard_told true a v = refl
discard_told false a v = refl

-- a frame that is to be written is refused with 27 or not at all
abbrev writing : Bool → List ℕ → Effect → Verdict Outcome
writing fits bytes e = and_then (require 27 fits (λ _. accept bytes)) (λ bs. writes bs e)

writing_told : (fits : Bool) (bytes : List ℕ) (e : Effect) → refuses 20 (writing fits bytes e) ≡ false
unfolding require and_then
writing_told true bytes e = refl
writing_told false bytes e = refl

too_long_told : (fits : Bool) (bytes : List ℕ) (e : Effect) → refuses 27 (writing fits bytes e) ≡ not fits
unfolding require and_then
too_long_told true bytes e = refl
too_long_told false bytes e = refl

pass_told : (f : Frame) (code : ℕ) (o : Option Tie) → refuses 20 (pass_on f code o) ≡ false
pass_told f p None = refl
pass_told f p (Some h) = refl

given_told : (h : ℕ) (l : Option (List ℕ)) → refuses 22 (given h l) ≡ false
given_told h None = refl
given_told h (Some []) = refl
given_told h (Some (ch ∷ rest)) = refl

-- ---- eight calls that tell the state

abbrev pub amqp : List ℕ
amqp = 0x41 ∷ 0x4D ∷ 0x51 ∷ 0x50 ∷ 0 ∷ 1 ∷ 0 ∷ 0 ∷ []

pub amqp_received : received amqp ≡ accept amqp100
unfolding received header require and_then starts_with_all protocol_id is_protocol_id protocol is_amqp100 has_id
amqp_received = refl

pub frame_valid : (ch : ℕ) (b : List ℕ) → are_bytes b ≡ true → length b < 4294967296 → is_valid (receive_frame (frame_bytes ch b) 0) ≡ true
frame_valid ch b p h = both (is_slice (frame_bytes ch b)) true (slice_frame ch b p h) refl

module _ (role : Role) (S : Settings) (c : Connection) (low : 512 ≤ c.reading_limit) where
  pub send_header_told : refuses 20 (decide role S c (send_header_to space)) ≡ bars send_header c.state
  send_header_told = ap (refuses 20) (require_on 9 (room_for 0 space) _ space_room) ∙ moves_told send_header c.state _ (λ y. refl)

  pub receive_header_told : refuses 20 (decide role S c (receive_header_from amqp)) ≡ bars receive_header c.state
  receive_header_told = ap (refuses 20) (then_accept (received amqp) _ amqp100 amqp_received) ∙ moves_told receive_header c.state _ (λ y. refl)

  pub send_open_told : refuses 20 (decide role S c (send_open_to space)) ≡ bars send_open c.state
  unfolding limited
  send_open_told = ap (refuses 20) (require_on 9 (room_for 0 space) _ space_room) ∙ moves_told send_open c.state _ (λ y. writing_told _ _ (go y))

  pub send_close_told : refuses 20 (decide role S c (send_close_to None space)) ≡ bars send_close c.state
  unfolding limited
  send_close_told =
      ap (refuses 20) (require_on 9 (room_for 0 space) _ space_room ∙ require_on 8 true _ refl)
      ∙ moves_told send_close c.state _ (λ y. writing_told _ _ (go y))

  pub read_open_told : refuses 20 (decide role S c (receive_frame (frame_bytes 0 an_open) 0)) ≡ cond (is Discarding c.state) false (bars read_open c.state)
  read_open_told =
      ap (refuses 20) (then_accept _ _ _ (read_whole 0 an_open (omega arith) (omega arith) c.reading_limit S.channel_max _ open_content (omega arith) (omega arith)))
      ∙ discard_told (is Discarding c.state) _ _
      ∙ ap (cond (is Discarding c.state) false) (moves_told read_open c.state _ (λ y. refl))

  pub read_close_told : refuses 20 (decide role S c (receive_frame (frame_bytes 0 a_close) 0)) ≡ bars read_close c.state
  read_close_told =
      ap (refuses 20) (then_accept _ _ _ (read_whole 0 a_close (omega arith) (omega arith) c.reading_limit S.channel_max _ close_content (omega arith) (omega arith)))
      ∙ moves_told read_close c.state _ (λ y. refl)

  pub read_detach_told : refuses 20 (decide role S c (receive_frame (frame_bytes 0 a_detach) 0)) ≡ cond (is Discarding c.state) false (not (is_one_of reading c.state))
  read_detach_told =
      ap (refuses 20) (then_accept _ _ _ (read_whole 0 a_detach (omega arith) (omega arith) c.reading_limit S.channel_max _ detach_content (omega arith) (omega arith)))
      ∙ discard_told (is Discarding c.state) _ _
      ∙ ap (cond (is Discarding c.state) false) (require_told 20 (is_one_of reading c.state) _ (pass_told (framed 15 0) _ (c.ties 0)))

  pub allocate_told : refuses 22 (decide role S c (allocate 0)) ≡ not (not (is_one_of stopped c.state))
  allocate_told = require_told 22 (not (is_one_of stopped c.state)) _ (given_told 0 c.hand_out)

-- ---- the reading limit, by the first four bytes of a frame

pub number_valid : (n : ℕ) → is_valid (receive_frame (bytes_of 4 n) 0) ≡ true
number_valid n = both (is_slice (bytes_of 4 n)) true (slice_is (bytes_of 4 n) (bytes_number 4 n) (omega (arith, length_bytes_of 4 n))) refl

length_at : (t : Bool) → eqb (cond t 1 4) 4 ≡ not t
length_at true = refl
length_at false = refl

pub length_told : (role : Role) (S : Settings) (c : Connection) (n : ℕ) → 8 ≤ n → n < 4294967296 → refuses 4 (decide role S c (receive_frame (bytes_of 4 n) 0)) ≡ not (leb n c.reading_limit)
length_told role S c n low high =
    ap (refuses 4) (then_refuse (read_frame c.reading_limit S.channel_max (bytes_of 4 n)) _ _ (read_length c.reading_limit S.channel_max n low high))
    ∙ length_at (leb n c.reading_limit)

-- ---- the writing limit, by a Transfer

-- n bytes in all, with a payload of zeros
abbrev pub transfer_of : ℕ → List ℕ
transfer_of n = frame_bytes 0 (a_transfer (replicate (n - 15) 0))

transfer_length : (n : ℕ) → 15 ≤ n → length (transfer_of n) ≡ n
transfer_length n low = omega (arith, length_frame 0 (a_transfer (replicate (n - 15) 0)), length-replicate {A = ℕ} (n - 15) 0)

pub transfer_valid : (n : ℕ) → n ≤ 16384 → is_valid (send_session_frame (transfer_of n) space) ≡ true
transfer_valid n high =
    both (is_slice (transfer_of n)) (is_slice space)
    (slice_frame 0 (a_transfer (replicate (n - 15) 0)) (bytes_replicate (n - 15) 0 (omega arith)) (omega (arith, length-replicate {A = ℕ} (n - 15) 0))) space_slice

untied : (role : Role) (ch : ℕ) (h : Option ℕ) → tied_by role [] ch h ≡ accept stay
untied dialler ch h = refl
untied listener ch h = refl

and_true : (b : Bool) → b && true ≡ b
and_true true = refl
and_true false = refl

module _ (role : Role) (S : Settings) (c : Connection) (sends : is_one_of sending c.state ≡ true) (n : ℕ) (low : 15 ≤ n) (high : n ≤ 16384) where
  transfer_sent : decide role S c (send_session_frame (transfer_of n) space) ≡ writing (leb n c.writing_limit && leb n 16384) (transfer_of n) stay
  unfolding limited
  transfer_sent =
      let t : List ℕ = replicate (n - 15) 0 in
      let k : length t ≡ n - 15 = length-replicate {A = ℕ} (n - 15) 0 in
      let l : length (transfer_of n) ≡ n = transfer_length n low in
      require_on 9 (room_for 0 space) _ space_room
      ∙ then_accept _ (session_sent role c (transfer_of n)) _ (sent_whole 0 (a_transfer t) (omega arith) (omega arith) S.channel_max transferred (transfer_session S.channel_max t))
      ∙ require_on 20 (is_one_of sending c.state) _ sends
      ∙ then_accept _ _ stay (untied role 0 (c.taken 0))
      ∙ rw (transfer_bytes t (omega arith), l)

  pub transfer_told : refuses 27 (decide role S c (send_session_frame (transfer_of n) space)) ≡ not (leb n c.writing_limit)
  transfer_told = ap (refuses 27) transfer_sent ∙ too_long_told _ (transfer_of n) stay ∙ rw (le-leb n 16384 high) (ap not (and_true (leb n c.writing_limit)))

-- a connection at a state, with a hand-out list
abbrev pub at : State → Option (List ℕ) → Connection → Connection
at x l c = connection x c.reading_limit c.writing_limit c.agreed_max l c.taken c.ties

-- no session's frame is sent in OpenReceived; a Close that is read there leads to CloseReceived, where they are sent
pub close_next : (role : Role) (S : Settings) (l : Option (List ℕ)) (c : Connection) → 512 ≤ c.reading_limit → next role S (at OpenReceived l c) (receive_frame (frame_bytes 0 a_close) 0) ≡ at CloseReceived l c
unfolding and_then
close_next role S l c low =
    ap (λ v. after S v (at OpenReceived l c))
    (then_accept _ (frame_read role S (at OpenReceived l c) 0) _ (read_whole 0 a_close (omega arith) (omega arith) c.reading_limit S.channel_max _ close_content (omega arith) (omega arith)))

-- ---- the handle of a tie, by a Detach on its channel

pub detach_read : (role : Role) (S : Settings) (l : Option (List ℕ)) (c : Connection) (n : ℕ) → 512 ≤ c.reading_limit → n ≤ S.channel_max → n < 65536
    → decide role S (at Opened l c) (receive_frame (frame_bytes n a_detach) 0) ≡ pass_on (framed 15 n) 22 (c.ties n)
unfolding require
detach_read role S l c n low held few =
    then_accept _ (frame_read role S (at Opened l c) 0) _ (read_whole n a_detach (omega arith) (omega arith) c.reading_limit S.channel_max _ detach_content (omega arith) held)

pub passed_told : (f : Frame) (code : ℕ) (o u : Option Tie) → answered (pass_on f code o) ≡ answered (pass_on f code u) → handle_of o ≡ handle_of u
passed_told f p None None e = refl
passed_told f p None (Some t) e = cc
passed_told f p (Some t) None e = cc
passed_told f p (Some t) (Some u) e = let q : t.handle ≡ u.handle = cc in ap Some q

-- ---- a taken channel, by deallocating it

pub released_told : (ch : ℕ) (o u : Option ℕ) → answered (released ch o) ≡ answered (released ch u) → o ≡ u
released_told ch None None e = refl
released_told ch None (Some h) e = cc
released_told ch (Some h) None e = cc
released_told ch (Some h) (Some k) e = cc

-- ---- the hand-out list, by allocating: absent is 21, empty 23

pub head_told : (a b : ℕ) → ◌≡◌ {A = Verdict Answer} (accept (channel a)) (accept (channel b)) → a ≡ b
head_told a b e = cc

pub absent_told : (l : List ℕ) → answered (given 0 None) ≡ answered (given 0 (Some l)) → None ≡ Some l
absent_told [] e = let z : ◌≡◌ {A = ℕ} 21 23 = cc in absurd (omega arith)
absent_told (a ∷ l) e = cc
