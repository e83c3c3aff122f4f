-- Calls that lead from one connection to another: lists of them, and the moves from state to state. So every state is reached in which a connection can be without the peer's Open.
-- Assumes nothing.
use mathlib.Core.Path.{◌≡◌, refl, ◌∙◌, ap, subst}
use mathlib.Core.Bool.{Bool, true, false, cond}
use mathlib.Core.List.{List, [], ◌∷◌, ◌++◌}
use Rattle.std.specs.Prelude.{Option, None, Some}
use Prim.Native.Nat.{ℕ, ◌≤◌}
use native.Mathlib.Omega.{arith}
use lib.Dec.{T, leb, eqb}
use lib.ListN.{length, length-append}
use borrow.Author.Tests.{le-leb}
use Rattle.octets.specs.Verdict.{accept, require, and_then}
use Rattle.octets.specs.Octets.{bytes_of, starts_with}
use Rattle.octets.specs.Output.{room_for}
use Rattle.octets.proofs.Laws.{require_on, then_accept}
use Rattle.text.specs.Ascii.{ascii}
use Rattle.protocol_header.specs.Header.{amqp100, other, is_protocol_id, protocol_id, starts_with_all, header, has_id, is_amqp100, protocol, received, version100}
use Rattle.values.specs.Null.{null}
use Rattle.serializer.specs.Written.{uint, ushort, text_header, text, list_header, joined, trimmed, composite_header, composite}
use Rattle.serializer.proofs.Laws.{text_len_short, header_few}
use Rattle.frame_encoder.specs.Frames.{Settings, ErrorText, frame_header, frame_bytes, limited, idle_field, open_fields, open_body, error_ok, close_ok, description_field, error_fields, error_field, close_body}
use Rattle.frame_encoder.proofs.Laws.{length_frame}
use Rattle.session_frame.proofs.Trim.{trimmed_short}
use Rattle.connection_state.specs.States.{State, Start, HeaderReceived, HeaderSent, HeaderExchange, OpenPipe, OpenClosePipe, OpenReceived, OpenSent, ClosePipe, Opened, CloseReceived, CloseSent, Discarding, End, is_one_of, along, send_header, receive_header, receive_other_header, send_open, send_close, send_close_with_error, read_close, after_open}
use Rattle.connection_model.specs.Connection.{Role, Connection, fresh, Call, send_header_to, receive_header_from, send_open_to, receive_frame, send_close_to, go, apply, frame_read, closes, after, next, run}
use Rattle.connection_model.proofs.Valid.{both}
use Rattle.connection_model.proofs.ProbeFrames.{a_close, close_content, read_whole}
use Rattle.connection_model.proofs.Probes.{space, space_room, amqp, amqp_received}

-- ---- lists of calls

-- calls lead from a connection to another
pub record Led (role : Role) (S : Settings) (c d : Connection) : Type 0 where
  pub calls : List Call
  pub leads : run role S c calls ≡ d

run_more : (role : Role) (S : Settings) (p q : List Call) (c : Connection) → run role S c (p ++ q) ≡ run role S (run role S c p) q
run_more role S [] q c = refl
run_more role S (call ∷ p) q c = run_more role S p q (next role S c call)

-- ---- the Open that we send is shorter than every limit

uint_short : (n : ℕ) → length (uint n) ≤ 5
unfolding uint bytes_of
uint_short n = by (eqb n 0) (leb n 255)
  where
    by : (a b : Bool) → length (cond a (0x43 ∷ []) (cond b (0x52 ∷ n ∷ []) (0x70 ∷ bytes_of 4 n))) ≤ 5
    by true b = omega arith
    by false true = omega arith
    by false false = omega arith

idle_short : (o : Option ℕ) → length (idle_field o) ≤ 5
unfolding idle_field
idle_short None = omega arith
idle_short (Some n) = uint_short n

open_short : (S : Settings) → length S.container_id ≤ 255 → length (frame_bytes 0 (open_body S)) ≤ 512
unfolding composite joined open_fields ushort bytes_of
open_short S short =
    let fs : List (List ℕ) = trimmed (open_fields S) in
    let id : List ℕ = text 0xa1 S.container_id in
    let size : List ℕ = uint S.max_frame_size in
    let channel : List ℕ = ushort S.channel_max in
    let idle : List ℕ = idle_field S.idle_time_out in
    let t : length (joined fs) ≤ length (id ++ (null ++ (size ++ (channel ++ (idle ++ []))))) = trimmed_short (open_fields S) in
    omega (
      arith,
      length_frame 0 (open_body S),
      length-append (composite_header 16 (length fs) (length (joined fs))) (joined fs),
      header_few 16 (length fs) (length (joined fs)),
      length-append id (null ++ (size ++ (channel ++ (idle ++ [])))),
      length-append size (channel ++ (idle ++ [])),
      length-append idle [],
      text_len_short 0xa1 S.container_id short,
      uint_short S.max_frame_size,
      idle_short S.idle_time_out,
    )

limited_yes : (limit : ℕ) (bs : List ℕ) → length bs ≤ limit → length bs ≤ 16384 → limited limit bs ≡ accept bs
unfolding limited
limited_yes limit bs h k = require_on 27 _ _ (both _ _ (le-leb (length bs) limit h) (le-leb (length bs) 16384 k))

failure : ErrorText
failure = record { condition = []; description = None }

failure_ok : error_ok failure ≡ true
unfolding failure error_ok ascii
failure_ok = refl

close_length : length (frame_bytes 0 (close_body None)) ≡ 12
unfolding composite trimmed joined composite_header list_header error_field starts_with frame_bytes frame_header bytes_of
close_length = refl

error_length : length (frame_bytes 0 (close_body (Some failure))) ≡ 22
unfolding failure composite trimmed joined composite_header list_header error_fields description_field error_field text text_header starts_with frame_bytes frame_header bytes_of
error_length = refl

other_received : received (0x41 ∷ 0x4D ∷ 0x51 ∷ 0x50 ∷ 3 ∷ 1 ∷ 0 ∷ 0 ∷ []) ≡ accept (other (version100 3))
unfolding received header require and_then starts_with_all protocol_id is_protocol_id protocol is_amqp100 has_id
other_received = refl

-- ---- moves from state to state

module _ (role : Role) (S : Settings) where
  pub here : (c : Connection) → Led role S c c
  here c = record { calls = []; leads = refl }

  pub on : {c d e : Connection} → Led role S c d → Led role S d e → Led role S c e
  on {c} p q = record {
    calls = p.calls ++ q.calls;
    leads = run_more role S p.calls q.calls c ∙ ap (λ x. run role S x q.calls) p.leads ∙ q.leads;
  }

  pub by : (c : Connection) {d : Connection} (call : Call) → next role S c call ≡ d → Led role S c d
  by c call e = record { calls = call ∷ []; leads = e }

  -- a connection in another state
  abbrev pub at : State → Connection → Connection
  at x c = apply S (go x) c

  module _ (c : Connection) (x y : State) where
    send_header_lem : along send_header x ≡ accept y → Led role S (at x c) (at y c)
    send_header_lem e =
        by (at x c) (send_header_to space)
        (ap (λ v. after S v (at x c)) (require_on 9 (room_for 0 space) _ space_room ∙ then_accept (along send_header x) _ y e))

    receive_header_lem : along receive_header x ≡ accept y → Led role S (at x c) (at y c)
    receive_header_lem e =
        by (at x c) (receive_header_from amqp)
        (ap (λ v. after S v (at x c)) (then_accept (received amqp) _ amqp100 amqp_received ∙ then_accept (along receive_header x) _ y e))

    receive_other : along receive_other_header x ≡ accept y → Led role S (at x c) (at y c)
    receive_other e =
        by (at x c) (receive_header_from (0x41 ∷ 0x4D ∷ 0x51 ∷ 0x50 ∷ 3 ∷ 1 ∷ 0 ∷ 0 ∷ []))
        (ap (λ v. after S v (at x c)) (then_accept _ _ (other (version100 3)) other_received ∙ then_accept (along receive_other_header x) _ y e))

    pub send_open_lem : length S.container_id ≤ 255 → 512 ≤ c.writing_limit → along send_open x ≡ accept y → Led role S (at x c) (at y c)
    send_open_lem short low e =
        let l = open_short S short in
        by (at x c) (send_open_to space)
        (ap (λ v. after S v (at x c))
        (require_on 9 (room_for 0 space) _ space_room ∙ then_accept (along send_open x) _ y e
        ∙ then_accept (limited c.writing_limit (frame_bytes 0 (open_body S))) _ _ (limited_yes c.writing_limit (frame_bytes 0 (open_body S)) (omega arith) (omega arith))))

    send_close_lem : (o : Option ErrorText) → close_ok o ≡ true → length (frame_bytes 0 (close_body o)) ≤ 512 → 512 ≤ c.writing_limit → closes o x ≡ accept y → Led role S (at x c) (at y c)
    send_close_lem o fine short low e =
        by (at x c) (send_close_to o space)
        (ap (λ v. after S v (at x c))
        (require_on 9 (room_for 0 space) _ space_room ∙ require_on 8 (close_ok o) _ fine ∙ then_accept (closes o x) _ y e
        ∙ then_accept (limited c.writing_limit (frame_bytes 0 (close_body o))) _ _ (limited_yes c.writing_limit (frame_bytes 0 (close_body o)) (omega arith) (omega arith))))

    pub send_plain : 512 ≤ c.writing_limit → along send_close x ≡ accept y → Led role S (at x c) (at y c)
    send_plain = send_close_lem None refl (omega (arith, close_length))

    pub send_error : 512 ≤ c.writing_limit → along send_close_with_error x ≡ accept y → Led role S (at x c) (at y c)
    send_error = send_close_lem (Some failure) failure_ok (omega (arith, error_length))

    pub read_close_lem : 512 ≤ c.reading_limit → along read_close x ≡ accept y → Led role S (at x c) (at y c)
    read_close_lem low e =
        by (at x c) (receive_frame (frame_bytes 0 a_close) 0)
        (ap (λ v. after S v (at x c))
        (then_accept _ (frame_read role S (at x c) 0) _ (read_whole 0 a_close (omega arith) (omega arith) c.reading_limit S.channel_max _ close_content (omega arith) (omega arith))
        ∙ then_accept (along read_close x) _ y e))

  -- ---- without the peer's Open

  module _ (short : length S.container_id ≤ 255) where
    to_header_sent : Led role S fresh (at HeaderSent fresh)
    to_header_sent = send_header_lem fresh Start HeaderSent refl

    pub to_exchange : Led role S fresh (at HeaderExchange fresh)
    to_exchange = on to_header_sent (receive_header_lem fresh HeaderSent HeaderExchange refl)

    to_open_pipe : Led role S fresh (at OpenPipe fresh)
    to_open_pipe = on to_header_sent (send_open_lem fresh HeaderSent OpenPipe short (omega arith) refl)

    to_open_sent : Led role S fresh (at OpenSent fresh)
    to_open_sent = on to_exchange (send_open_lem fresh HeaderExchange OpenSent short (omega arith) refl)

    pub to_unopened : (x : State) → is_one_of after_open x ≡ false → Led role S fresh (at x fresh)
    to_unopened Start e = here fresh
    to_unopened HeaderReceived e = receive_header_lem fresh Start HeaderReceived refl
    to_unopened HeaderSent e = to_header_sent
    to_unopened HeaderExchange e = to_exchange
    to_unopened OpenPipe e = to_open_pipe
    to_unopened OpenClosePipe e = on to_open_pipe (send_plain fresh OpenPipe OpenClosePipe (omega arith) refl)
    to_unopened OpenReceived e = absurd (subst T e tt)
    to_unopened OpenSent e = to_open_sent
    to_unopened ClosePipe e = on to_open_sent (send_plain fresh OpenSent ClosePipe (omega arith) refl)
    to_unopened Opened e = absurd (subst T e tt)
    to_unopened CloseReceived e = on to_open_sent (read_close_lem fresh OpenSent CloseReceived (omega arith) refl)
    to_unopened CloseSent e = absurd (subst T e tt)
    to_unopened Discarding e = on to_open_sent (send_error fresh OpenSent Discarding (omega arith) refl)
    to_unopened End e = on to_header_sent (receive_other fresh HeaderSent End refl)
