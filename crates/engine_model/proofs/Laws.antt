-- A refusal changes nothing; once stopped the engine stays as it is; while it awaits the peer's Close it takes frames and the end of input alone, and it never runs again.
-- Assumes nothing.
use mathlib.Core.Path.{◌≡◌, refl, ◌∙◌, ap, subst}
use mathlib.Core.Bool.{Bool, true, false, not}
use mathlib.Core.List.{List, [], ◌∷◌}
use Rattle.std.specs.Prelude.{Option, None, Some}
use Prim.Native.Nat.{ℕ}
use lib.Dec.{T}
use Rattle.octets.specs.Verdict.{Verdict, refuse, accept, require}
use Rattle.octets.specs.Output.{laid}
use Rattle.frame_decoder.specs.Frame.{read_frame, session_frames}
use Rattle.frame_encoder.specs.Frames.{Settings}
use Rattle.connection_state.specs.States.{State}
use Rattle.connection_model.specs.Connection as M
use Rattle.connection_model.specs.Connection.{Role, Connection, decide, receive_frame}
use Rattle.connection_model.proofs.Rules.{Holds, refused, holds, on_require, on_any}
use Rattle.engine_model.specs.Engine.{Outcome, Phase, running, awaiting, stopped, Engine, is_running, is_stopped, Event, send_header, receive_header, send_open, incoming, close_order, allocate, deallocate, outgoing, tick, end_of_input, not_delivered, Result, phase_awaited, awaited, close_in, frames_in, is_close, reads, input_ends, judge, lent, written, seen, landed, next, run}

-- ---- refusals

-- a refusal leaves the engine and the lent output as they were
pub refusal_keeps :
    (role : Role) (S : Settings) (e : Engine) (event : Event) (k : ℕ) → judge role S e event ≡ refuse k → (next role S e event ≡ e) × ((seen role S e event).output ≡ lent event)
unfolding laid
refusal_keeps role S e event k p = (ap (λ v. landed v e) p, ap (λ v. laid (written v) (lent event)) p)

-- ---- events that a phase does not take

pub clash : {A : Type 0} → true ≡ false → A
clash q = absurd (subst T q tt)

-- refused before any of the input is looked at: 9, 8, 20
pub data Barred : Verdict Result → Type 0 where
  room : Barred (refuse 9)
  text : Barred (refuse 8)
  phase : Barred (refuse 20)

after_room : (b : Bool) (rest : Unit {0} → Verdict Result) → Barred (rest tt) → Barred (require 9 b rest)
unfolding require
after_room true rest h = h
after_room false rest h = room

after_text : (b : Bool) (rest : Unit {0} → Verdict Result) → Barred (rest tt) → Barred (require 8 b rest)
unfolding require
after_text true rest h = h
after_text false rest h = text

by_phase : (b : Bool) (rest : Unit {0} → Verdict Result) → b ≡ false → Barred (require 20 b rest)
unfolding require
by_phase true rest q = clash q
by_phase false rest q = phase

-- the events that an engine takes while it awaits the peer's Close
abbrev pub taken_awaiting : Event → Bool
taken_awaiting (send_header out) = false
taken_awaiting (receive_header s) = false
taken_awaiting (send_open out) = false
taken_awaiting (incoming s h w out) = true
taken_awaiting (close_order error w out) = false
taken_awaiting (allocate h) = false
taken_awaiting (deallocate ch) = false
taken_awaiting (outgoing s out) = false
taken_awaiting (tick out) = false
taken_awaiting (end_of_input out) = true
taken_awaiting (not_delivered new out) = false

module _ (role : Role) (S : Settings) where
  quiet_bars : (e : Engine) → is_running e.phase ≡ false → (event : Event) → taken_awaiting event ≡ false → Barred (judge role S e event)
  quiet_bars e q (send_header out) n = after_room _ _ (by_phase _ _ q)
  quiet_bars e q (receive_header s) n = by_phase _ _ q
  quiet_bars e q (send_open out) n = after_room _ _ (by_phase _ _ q)
  quiet_bars e q (incoming s h w out) n = clash n
  quiet_bars e q (close_order error w out) n = after_room _ _ (after_text _ _ (by_phase _ _ q))
  quiet_bars e q (allocate h) n = by_phase _ _ q
  quiet_bars e q (deallocate ch) n = by_phase _ _ q
  quiet_bars e q (outgoing s out) n = after_room _ _ (by_phase _ _ q)
  quiet_bars e q (tick out) n = after_room _ _ (by_phase _ _ q)
  quiet_bars e q (end_of_input out) n = clash n
  quiet_bars e q (not_delivered new out) n = after_room _ _ (by_phase _ _ q)

  -- while the peer's Close is awaited, every event but a frame and the end of input is refused
  pub awaiting_bars : (e : Engine) (o : Outcome) → e.phase ≡ awaiting o → (event : Event) → taken_awaiting event ≡ false → Barred (judge role S e event)
  awaiting_bars e o q event n = quiet_bars e (ap is_running q) event n

  -- once stopped, every event is
  pub stopped_bars : (e : Engine) (o : Outcome) → e.phase ≡ stopped o → (event : Event) → Barred (judge role S e event)
  stopped_bars e o q (send_header out) = quiet_bars e (ap is_running q) (send_header out) refl
  stopped_bars e o q (receive_header s) = quiet_bars e (ap is_running q) (receive_header s) refl
  stopped_bars e o q (send_open out) = quiet_bars e (ap is_running q) (send_open out) refl
  stopped_bars e o q (incoming s h w out) = after_room _ _ (by_phase _ _ (ap (λ p. not (is_stopped p)) q))
  stopped_bars e o q (close_order error w out) = quiet_bars e (ap is_running q) (close_order error w out) refl
  stopped_bars e o q (allocate h) = quiet_bars e (ap is_running q) (allocate h) refl
  stopped_bars e o q (deallocate ch) = quiet_bars e (ap is_running q) (deallocate ch) refl
  stopped_bars e o q (outgoing s out) = quiet_bars e (ap is_running q) (outgoing s out) refl
  stopped_bars e o q (tick out) = quiet_bars e (ap is_running q) (tick out) refl
  stopped_bars e o q (end_of_input out) = after_room _ _ (by_phase _ _ (ap (λ p. not (is_stopped p)) q))
  stopped_bars e o q (not_delivered new out) = quiet_bars e (ap is_running q) (not_delivered new out) refl

  barred_keeps : (e : Engine) (v : Verdict Result) → Barred v → landed v e ≡ e
  barred_keeps e v room = refl
  barred_keeps e v text = refl
  barred_keeps e v phase = refl

  -- and the engine stays as it is
  pub stopped_stays : (e : Engine) (o : Outcome) → e.phase ≡ stopped o → (events : List Event) → run role S e events ≡ e
  stopped_stays e o q [] = refl
  stopped_stays e o q (event ∷ events) = ap (λ d. run role S d events) (barred_keeps e _ (stopped_bars e o q event)) ∙ stopped_stays e o q events

-- ---- an engine that awaits or has stopped never runs again

abbrev Rests : Result → Type 0
Rests r = is_running r.lands.phase ≡ false

module _ (role : Role) (S : Settings) where
  awaited_rests : (o : Outcome) (c : Connection) (v : Verdict M.Outcome) → is_running (awaited role S o c v).phase ≡ false
  awaited_rests o c (refuse k) = refl
  awaited_rests o c (accept w) = by (close_in w.answer) (M.apply S w.effect c).state
    where
      by : (error : Option Bool) (x : State) → is_running (phase_awaited o error x) ≡ false
      by None x = refl
      by (Some error) x = refl

  reads_rests :
      (waiting : List (List ℕ)) (out : List ℕ) (close : Bool) (v : Verdict M.Outcome) (p : Phase) (c : Connection) → is_running p ≡ false
      → is_running (reads role S waiting out close v (record { phase = p; connection = c })).phase ≡ false
  reads_rests waiting out close v running c q = clash q
  reads_rests waiting out close v (awaiting o) c q = awaited_rests o c v
  reads_rests waiting out close v (stopped o) c q = refl

  ends_rests : (out : List ℕ) (c : Connection) (p : Phase) → is_running p ≡ false → is_running (input_ends role S out c p).phase ≡ false
  ends_rests out c running q = clash q
  ends_rests out c (awaiting o) q = refl
  ends_rests out c (stopped o) q = refl

  landed_rests : (e : Engine) {v : Verdict Result} → is_running e.phase ≡ false → Holds Rests v → is_running (landed v e).phase ≡ false
  landed_rests e q refused = q
  landed_rests e q (holds r) = r

  barred_rests : {v : Verdict Result} → Barred v → Holds Rests v
  barred_rests room = refused
  barred_rests text = refused
  barred_rests phase = refused

  judge_rests : (e : Engine) → is_running e.phase ≡ false → (event : Event) → Holds Rests (judge role S e event)
  judge_rests e q (send_header out) = barred_rests (quiet_bars role S e q (send_header out) refl)
  judge_rests e q (receive_header s) = barred_rests (quiet_bars role S e q (receive_header s) refl)
  judge_rests e q (send_open out) = barred_rests (quiet_bars role S e q (send_open out) refl)
  judge_rests e q (incoming s h w out) =
      on_require _ _ _ _ (λ t1. on_require _ _ _ _ (λ t2. on_require _ _ _ _ (λ t3. on_any _ (session_frames S.channel_max w) _ (λ n.
      holds (reads_rests (frames_in n w) out (is_close (read_frame e.connection.reading_limit S.channel_max s)) (decide role S e.connection (receive_frame s h)) e.phase e.connection q)))))
  judge_rests e q (close_order error w out) = barred_rests (quiet_bars role S e q (close_order error w out) refl)
  judge_rests e q (allocate h) = barred_rests (quiet_bars role S e q (allocate h) refl)
  judge_rests e q (deallocate ch) = barred_rests (quiet_bars role S e q (deallocate ch) refl)
  judge_rests e q (outgoing s out) = barred_rests (quiet_bars role S e q (outgoing s out) refl)
  judge_rests e q (tick out) = barred_rests (quiet_bars role S e q (tick out) refl)
  judge_rests e q (end_of_input out) = on_require _ _ _ _ (λ t1. on_require _ _ _ _ (λ t2. holds (ends_rests out e.connection e.phase q)))
  judge_rests e q (not_delivered new out) = barred_rests (quiet_bars role S e q (not_delivered new out) refl)

  pub never_runs_again : (e : Engine) → is_running e.phase ≡ false → (events : List Event) → is_running (run role S e events).phase ≡ false
  never_runs_again e q [] = q
  never_runs_again e q (event ∷ events) = never_runs_again (next role S e event) (landed_rests e q (judge_rests e q event)) events
