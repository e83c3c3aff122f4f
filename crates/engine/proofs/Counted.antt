-- What a call of the connection answers tells how many bytes it wrote.
-- Assumes nothing.
use mathlib.Core.Path.{◌≡◌, refl}
use mathlib.Core.List.{List, [], ◌∷◌}
use Rattle.std.specs.Prelude.{Option, None, Some}
use Prim.Native.Nat.{ℕ}
use lib.Dec.{eqb}
use lib.ListN.{length}
use Rattle.octets.specs.Verdict.{Verdict, accept}
use Rattle.protocol_header.specs.Header.{Protocol, amqp100, other, received}
use Rattle.performatives.specs.Performative.{Performative, remote_channel}
use Rattle.frame_decoder.specs.Frame.{Frame, read_frame, session_frame}
use Rattle.frame_encoder.specs.Frames.{Settings}
use Rattle.connection_state.specs.States.{Discarding, End, is, is_one_of, silent}
use Rattle.channels.specs.Ties.{Tie}
use Rattle.connection_model.specs.Connection.{Role, dialler, listener, Connection, Call, send_header_to, receive_header_from, send_open_to, receive_frame, send_close_to, send_session_frame, allocate, deallocate, tick, Answer, wrote, stop, header, other_protocol, nothing_to_do, opened, closed, forward, began, channel, freed, Outcome, headed, tie_to, untie, pass_on, new_session, begun, session_read, performative_read, frame_read, closes, given, released, decide}
use Rattle.connection_model.proofs.Rules.{Holds, refused, holds, on_require, on_cond, on_any, accepted}

abbrev pub written_in : Answer → ℕ
written_in (wrote n) = n
written_in stop = 0
written_in (header n) = 0
written_in (other_protocol n) = 0
written_in (nothing_to_do n) = 0
written_in (opened n idle) = 0
written_in (closed n error) = 0
written_in (forward n code h from len) = 0
written_in (began n ch h from len) = 0
written_in (channel ch) = 0
written_in (freed h) = 0

abbrev pub Counted : Outcome → Type 0
Counted o = length o.bytes ≡ written_in o.answer

abbrev AllCounted : Verdict Outcome → Type 0
AllCounted v = Holds Counted v

module _ (role : Role) (S : Settings) (c : Connection) where
  on_headed : (p : Protocol) → AllCounted (headed c p)
  on_headed amqp100 = on_any _ _ _ (λ x. holds refl)
  on_headed (other h) = on_any _ _ _ (λ x. holds refl)

  module _ (f : Frame) where
    on_tie_to : (r : ℕ) (o : Option ℕ) → AllCounted (tie_to f r o)
    on_tie_to r None = refused
    on_tie_to r (Some h) = holds refl

    on_untie : (o : Option Tie) → AllCounted (untie f o)
    on_untie None = refused
    on_untie (Some h) = holds refl

    on_pass_on : (code : ℕ) (o : Option Tie) → AllCounted (pass_on f code o)
    on_pass_on code None = refused
    on_pass_on code (Some h) = holds refl

    on_new_session : (ρ : Role) (h : ℕ) (l : Option (List ℕ)) → AllCounted (new_session ρ f h l)
    on_new_session dialler h l = refused
    on_new_session listener h None = refused
    on_new_session listener h (Some []) = refused
    on_new_session listener h (Some (ch ∷ rest)) = holds refl

    on_begun : (h : ℕ) (rs : List ℕ) → AllCounted (begun role c f h rs)
    on_begun h [] = on_new_session role h c.hand_out
    on_begun h (r ∷ rs) = on_tie_to r (c.taken r)

    on_session_read : (h code : ℕ) (rs : List ℕ) → AllCounted (session_read role c f h code rs)
    on_session_read h code rs =
        on_require _ _ _ _ (λ t.
        on_cond _ (eqb code 17) _ _ (λ u. on_begun h rs)
        (on_cond _ (eqb code 23) _ _ (λ u. on_untie (c.ties f.channel)) (on_pass_on code (c.ties f.channel))))

    on_performative : (h : ℕ) (p : Performative) → AllCounted (performative_read role S c f h p)
    on_performative h p =
        on_cond _ (eqb p.code 24) _ _ (λ t. on_any _ _ _ (λ x. holds refl))
        (on_cond _ (is Discarding c.state) _ _ (λ t. holds refl)
        (on_cond _ (eqb p.code 16) _ _ (λ t. on_any _ _ _ (λ x. holds refl))
        (on_session_read h p.code (remote_channel p))))

  on_frame : (h : ℕ) (r : Frame × Option Performative) → AllCounted (frame_read role S c h r)
  on_frame h (f, None) = holds refl
  on_frame h (f, Some p) = on_performative f h p

  on_given : (h : ℕ) (l : Option (List ℕ)) → AllCounted (given h l)
  on_given h None = refused
  on_given h (Some []) = refused
  on_given h (Some (ch ∷ rest)) = holds refl

  on_released : (ch : ℕ) (o : Option ℕ) → AllCounted (released ch o)
  on_released ch None = refused
  on_released ch (Some h) = holds refl

  tells : (call : Call) → AllCounted (decide role S c call)
  tells (send_header_to out) = on_require _ _ _ _ (λ t. on_any _ _ _ (λ x. holds refl))
  tells (receive_header_from s) = on_any _ (received s) _ on_headed
  tells (send_open_to out) = on_require _ _ _ _ (λ t. on_any _ _ _ (λ x. on_any _ _ _ (λ bytes. holds refl)))
  tells (receive_frame s h) = on_any _ (read_frame c.reading_limit S.channel_max s) _ (on_frame h)
  tells (send_close_to e out) = on_require _ _ _ _ (λ t. on_require _ _ _ _ (λ u. on_any _ (closes e c.state) _ (λ x. on_any _ _ _ (λ bytes. holds refl))))
  tells (send_session_frame s out) =
      on_require _ _ _ _ (λ t. on_any _ (session_frame S.channel_max s) _ (λ r. on_require _ _ _ _ (λ u. on_any _ _ _ (λ e. on_any _ _ _ (λ bytes. holds refl)))))
  tells (allocate h) = on_require _ _ _ _ (λ t. on_given h c.hand_out)
  tells (deallocate ch) = on_released ch (c.taken ch)
  tells (tick out) = on_require _ _ _ _ (λ t. on_cond _ (is End c.state) _ _ (λ u. holds refl) (on_cond _ (is_one_of silent c.state) _ _ (λ u. holds refl) (holds refl)))

  pub counted : (call : Call) (o : Outcome) → decide role S c call ≡ accept o → length o.bytes ≡ written_in o.answer
  counted call o e = accepted (tells call) e
