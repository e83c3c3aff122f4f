-- Engines in one phase whose connections have equal accounts are seen alike in every later list of events.
-- Assumes nothing.
use mathlib.Core.Path.{◌≡◌, refl, ap, ap₂, subst}
use mathlib.Core.Bool.{Bool, true, false, cond, not, ◌&&◌}
use mathlib.Core.List.{List, [], ◌∷◌, ◌++◌}
use Rattle.std.specs.Prelude.{Option, None, Some}
use Prim.Native.Nat.{ℕ}
use lib.Dec.{eqb}
use lib.ListN.{length}
use Rattle.octets.specs.Verdict.{Verdict, refuse, accept, require, and_then}
use Rattle.octets.specs.Output.{room_for, laid}
use Rattle.frame_decoder.specs.Frame.{read_frame, session_frame, session_frames}
use Rattle.frame_encoder.specs.Frames.{Settings}
use Rattle.connection_state.specs.States.{State, ClosePipe, Discarding, CloseReceived, End, is, is_one_of}
use Rattle.connection_model.specs.Connection as M
use Rattle.connection_model.specs.Connection.{Role, Connection, Call, send_header_to, receive_header_from, send_open_to, receive_frame, send_close_to, send_session_frame, Answer, wrote, apply, decide, after, answered}
use Rattle.connection_model.specs.Account.{account}
use Rattle.connection_model.specs.Sound.{Reached}
use Rattle.connection_model.proofs.Forward.{Alike, alike_verdict, alike_by, accounts_alike}
use Rattle.engine_model.specs.Engine.{Phase, running, awaiting, stopped, Engine, Event, send_header, receive_header, send_open, incoming, close_order, allocate, deallocate, outgoing, tick, end_of_input, not_delivered, Landing, landing, Result, Trail, further, trail, frames_in, sending, Fault, illegal, read_fault, send_fault, undelivered, failed, fail, onward, read_to, is_close, phase_read, close_in, phase_answered, answering, awaited, phase_awaited, consumed_of, reads, lacks, input_ends, settled, goes, judge, landed, replied, written, seen, next, run, seen_in, lent}
use Rattle.engine_model.specs.Engine as E

-- ---- what is alike

pub record AlikeInside (e f : Engine) : Type 0 where
  pub phase : e.phase ≡ f.phase
  pub inside : Alike e.connection f.connection

record SameTrail (t u : Trail) : Type 0 where
  last : t.last ≡ u.last
  bytes : t.bytes ≡ u.bytes
  inside : Alike t.connection u.connection

record SameLanding (l m : Landing) : Type 0 where
  phase : l.phase ≡ m.phase
  bytes : l.bytes ≡ m.bytes
  inside : Alike l.connection m.connection

data SameResult : Verdict Result → Verdict Result → Type 0 where
  both_refuse : {k : ℕ} → SameResult (refuse k) (refuse k)
  both_accept : {l m : Landing} {consumed : ℕ} {inner : Option (Verdict Answer)} → SameLanding l m
      → SameResult (accept (record { lands = l; consumed = consumed; inner = inner })) (accept (record { lands = m; consumed = consumed; inner = inner }))

same_require : (k : ℕ) (b : Bool) (f g : Unit {0} → Verdict Result) → SameResult (f tt) (g tt) → SameResult (require k b f) (require k b g)
unfolding require
same_require k true f g s = s
same_require k false f g s = both_refuse

same_then : {A : Type 0} (v : Verdict A) (f g : A → Verdict Result) → ((a : A) → SameResult (f a) (g a)) → SameResult (and_then v f) (and_then v g)
unfolding and_then
same_then (refuse k) f g s = both_refuse
same_then (accept a) f g s = s a

module _ (role : Role) (S : Settings) where
  -- a call that both take, and what each does with its outcome
  same_call :
      {c d : Connection} → Alike c d → (call : Call) (f g : M.Outcome → Verdict Result)
      → ((w : M.Outcome) → Alike (apply S w.effect c) (apply S w.effect d) → SameResult (f w) (g w))
      → SameResult (and_then (decide role S c call) f) (and_then (decide role S d call) g)
  unfolding and_then
  same_call {c} {d} a call f g s =
      subst (λ v. SameResult (and_then (decide role S c call) f) (and_then v g)) (alike_verdict role S a call) (by (decide role S c call) refl)
    where
      by : (v : Verdict M.Outcome) → decide role S c call ≡ v → SameResult (and_then v f) (and_then v g)
      by (refuse k) q = both_refuse
      by (accept w) q = s w (alike_by role S a call (accept w) q)

  -- ---- calls in a row

  same_further :
      {c d : Connection} → Alike c d → (call : Call) (rest : Answer → Connection → Trail)
      → ((a : Answer) (c' d' : Connection) → Alike c' d' → SameTrail (rest a c') (rest a d'))
      → (v : Verdict M.Outcome) → decide role S c call ≡ v → SameTrail (further S c rest v) (further S d rest v)
  same_further a call rest s (refuse k) q = record { last = refl; bytes = refl; inside = a }
  same_further a call rest s (accept w) q =
      let t = s w.answer _ _ (alike_by role S a call (accept w) q) in
      record { last = t.last; bytes = ap (λ b. w.bytes ++ b) t.bytes; inside = t.inside }

  same_trail : (calls : List Call) (last : Answer) {c d : Connection} → Alike c d → SameTrail (trail role S last c calls) (trail role S last d calls)
  same_trail [] last a = record { last = refl; bytes = refl; inside = a }
  same_trail (call ∷ calls) last {c} {d} a =
      subst (λ v. SameTrail (trail role S last c (call ∷ calls)) (further S d (λ x c'. trail role S x c' calls) v)) (alike_verdict role S a call)
      (same_further a call (λ x c'. trail role S x c' calls) (λ x c' d' s. same_trail calls x s) (decide role S c call) refl)

  -- ---- where an event lands

  same_fail : (f : Option Fault) {c d : Connection} → Alike c d → (bytes out : List ℕ) → SameLanding (fail role S f c bytes out) (fail role S f d bytes out)
  same_fail None a bytes out = record { phase = refl; bytes = refl; inside = a }
  same_fail (Some f) {c} {d} a bytes out =
      subst (λ v. SameLanding (failed S f.outcome c bytes (decide role S c the_close)) (failed S f.outcome d bytes v)) (alike_verdict role S a the_close) (by (decide role S c the_close) refl)
    where
      the_close : Call
      the_close = send_close_to (Some f.error) out

      by : (v : Verdict M.Outcome) → decide role S c the_close ≡ v → SameLanding (failed S f.outcome c bytes v) (failed S f.outcome d bytes v)
      by (refuse k) q = record { phase = ap (λ x. cond (eqb k 20) (E.unclosed f.outcome x) (stopped E.transport_error)) a.state; bytes = refl; inside = a }
      by (accept w) q = let b = alike_by role S a the_close (accept w) q in record { phase = ap (E.closed_with f.outcome) b.state; bytes = refl; inside = b }

  same_onward :
      (out : List ℕ) (rest rest' : Connection → List ℕ → Landing) → ((c d : Connection) (bytes : List ℕ) → Alike c d → SameLanding (rest c bytes) (rest' d bytes))
      → (v : Verdict Answer) (bytes : List ℕ) {c d : Connection} → Alike c d
      → SameLanding (onward role S out rest (record { last = v; connection = c; bytes = bytes })) (onward role S out rest' (record { last = v; connection = d; bytes = bytes }))
  same_onward out rest rest' s (refuse k) bytes a = same_fail (send_fault k) a bytes out
  same_onward out rest rest' s (accept x) bytes a = s _ _ bytes a

  same_along :
      (out : List ℕ) (rest rest' : Connection → List ℕ → Landing) → ((c d : Connection) (bytes : List ℕ) → Alike c d → SameLanding (rest c bytes) (rest' d bytes))
      → (t u : Trail) → SameTrail t u → SameLanding (onward role S out rest t) (onward role S out rest' u)
  same_along out rest rest' s t u r =
      subst (λ l. SameLanding (onward role S out rest t) (onward role S out rest' (record { last = l; connection = u.connection; bytes = u.bytes }))) r.last
      (subst (λ b. SameLanding (onward role S out rest t) (onward role S out rest' (record { last = t.last; connection = u.connection; bytes = b }))) r.bytes
      (same_onward out rest rest' s t.last t.bytes r.inside))

  same_read_to : (out : List ℕ) (x y : State) → x ≡ y → (v : Verdict Answer) (bytes : List ℕ) {c d : Connection} → Alike c d → SameLanding (read_to role S out x v c bytes) (read_to role S out y v d bytes)
  same_read_to out x y e (refuse k) bytes a = same_fail (read_fault role k) a bytes out
  same_read_to out x y e (accept n) bytes a = record { phase = ap₂ (phase_read (close_in n)) e a.state; bytes = refl; inside = a }

  phase_answered_lem : (v : Verdict Answer) (x y x' y' : State) → x ≡ x' → y ≡ y' → phase_answered role x v y ≡ phase_answered role x' v y'
  phase_answered_lem v x y x' y' p q = ap₂ (λ a b. phase_answered role a v b) p q

  same_answering :
      (waiting : List (List ℕ)) (out : List ℕ) (close : Bool) (v : Verdict Answer) {c d : Connection} → Alike c d
      → SameLanding (answering role S waiting out close v c) (answering role S waiting out close v d)
  same_answering waiting out true v {c} {d} a =
      same_along out (λ c' bytes. landing (phase_answered role c.state v c'.state) c' bytes) (λ d' bytes. landing (phase_answered role d.state v d'.state) d' bytes)
      (λ c' d' bytes b. record { phase = phase_answered_lem v c.state _ d.state _ a.state b.state; bytes = refl; inside = b }) _ _ (same_trail (sending waiting None out) (wrote 0) a)
  same_answering waiting out false v {c} {d} a = same_read_to out c.state d.state a.state v [] a

  same_received :
      (waiting : List (List ℕ)) (out : List ℕ) (close : Bool) (c d : Connection) (v : Verdict M.Outcome) → Alike (after S v c) (after S v d)
      → SameLanding (E.received role S waiting out close c v) (E.received role S waiting out close d v)
  same_received waiting out close c d v b =
      subst (λ x. SameLanding (E.received role S waiting out close c v) (answering role S waiting out (close && is CloseReceived x) (answered v) (after S v d))) b.state
      (same_answering waiting out (close && is CloseReceived (after S v c).state) (answered v) b)

  same_awaited : (kept : E.Outcome) {c d : Connection} → Alike c d → (v : Verdict M.Outcome) → Alike (after S v c) (after S v d) → SameLanding (awaited role S kept c v) (awaited role S kept d v)
  same_awaited kept a (refuse k) b = record { phase = refl; bytes = refl; inside = a }
  same_awaited kept a (accept w) b = record { phase = ap (phase_awaited kept (close_in w.answer)) b.state; bytes = refl; inside = b }

  same_reads :
      (waiting : List (List ℕ)) (out : List ℕ) (close : Bool) (v : Verdict M.Outcome) (p : Phase) {c d : Connection} → Alike c d → Alike (after S v c) (after S v d)
      → SameLanding (reads role S waiting out close v (record { phase = p; connection = c })) (reads role S waiting out close v (record { phase = p; connection = d }))
  same_reads waiting out close v running a b = same_received waiting out close _ _ v b
  same_reads waiting out close v (awaiting kept) a b = same_awaited kept a v b
  same_reads waiting out close v (stopped kept) a b = record { phase = refl; bytes = refl; inside = a }

  same_cut : (l m : Landing) → SameLanding l m → SameLanding (E.cut l) (E.cut m)
  same_cut l m s = record { phase = ap E.cut_short s.phase; bytes = s.bytes; inside = s.inside }

  same_either : (b : Bool) (l l' m m' : Landing) → SameLanding l m → SameLanding l' m' → SameLanding (cond b l l') (cond b m m')
  same_either true l l' m m' s t = s
  same_either false l l' m m' s t = t

  same_ends : (out : List ℕ) (p : Phase) {c d : Connection} → Alike c d → SameLanding (input_ends role S out c p) (input_ends role S out d p)
  same_ends out running {c} {d} a =
      subst (λ x. SameLanding (input_ends role S out c running) (cond (is_one_of (ClosePipe ∷ Discarding ∷ End ∷ []) x) (landing (stopped E.fine) d []) (E.cut (fail role S (Some illegal) d [] out)))) a.state
      (same_either (is_one_of (ClosePipe ∷ Discarding ∷ End ∷ []) c.state) _ _ _ _ (record { phase = refl; bytes = refl; inside = a }) (same_cut _ _ (same_fail (Some illegal) a [] out)))
  same_ends out (awaiting kept) a = record { phase = refl; bytes = refl; inside = a }
  same_ends out (stopped kept) a = record { phase = refl; bytes = refl; inside = a }

  -- ---- events

  same_goes : (out : List ℕ) (t u : Trail) → SameTrail t u → SameResult (goes role S out t) (goes role S out u)
  same_goes out t u r =
      subst (λ l. SameResult (goes role S out t) (accept (record { lands = onward role S out settles u; consumed = 0; inner = Some l }))) r.last
      (both_accept (same_along out settles settles (λ c d bytes b. record { phase = ap settled b.state; bytes = refl; inside = b }) t u r))
    where
      settles : Connection → List ℕ → Landing
      settles c bytes = landing (settled c.state) c bytes

  module _ (p : Phase) {c d : Connection} (a : Alike c d) where
    -- a frame that was judged so, within a reading limit
    abbrev incoming_by : List ℕ → List ℕ → List ℕ → Connection → Verdict M.Outcome → ℕ → Verdict Result
    incoming_by s w out x v limit =
        require 9 (room_for (length w) out) (λ _.
        require 20 (not (E.is_stopped p)) (λ _.
        require 1 (not (lacks v)) (λ _.
        and_then (session_frames S.channel_max w) (λ n.
        E.results (reads role S (frames_in n w) out (is_close (read_frame limit S.channel_max s)) v (record { phase = p; connection = x })) (consumed_of s (answered v)) (Some (answered v))))))

    same_incoming : (s : List ℕ) (h : ℕ) (w out : List ℕ) → SameResult (judge role S (record { phase = p; connection = c }) (incoming s h w out)) (judge role S (record { phase = p; connection = d }) (incoming s h w out))
    same_incoming s h w out =
        let v : Verdict M.Outcome = decide role S c (receive_frame s h) in
        subst (λ u. SameResult (incoming_by s w out c v c.reading_limit) (incoming_by s w out d u d.reading_limit)) (alike_verdict role S a (receive_frame s h))
        (subst (λ r. SameResult (incoming_by s w out c v c.reading_limit) (incoming_by s w out d v r)) a.reading
        (same_require 9 _ _ _ (same_require 20 _ _ _ (same_require 1 _ _ _ (same_then (session_frames S.channel_max w) _ _ (λ n.
        both_accept (same_reads (frames_in n w) out (is_close (read_frame c.reading_limit S.channel_max s)) v p a (alike_by role S a (receive_frame s h) v refl))))))))

    same_judge : (event : Event) → SameResult (judge role S (record { phase = p; connection = c }) event) (judge role S (record { phase = p; connection = d }) event)
    same_judge (send_header out) = same_require 9 _ _ _ (same_require 20 _ _ _ (same_call a (send_header_to out) _ _ (λ w b. both_accept (record { phase = refl; bytes = refl; inside = b }))))
    same_judge (receive_header s) = same_require 20 _ _ _ (same_call a (receive_header_from s) _ _ (λ w b. both_accept (record { phase = refl; bytes = refl; inside = b })))
    same_judge (send_open out) = same_require 9 _ _ _ (same_require 20 _ _ _ (same_call a (send_open_to out) _ _ (λ w b. both_accept (record { phase = refl; bytes = refl; inside = b }))))
    same_judge (incoming s h w out) = same_incoming s h w out
    same_judge (close_order error w out) =
        same_require 9 _ _ _ (same_require 8 _ _ _ (same_require 20 _ _ _ (same_then (session_frames S.channel_max w) _ _ (λ n.
        same_goes out _ _ (same_trail (sending (frames_in n w) error out) (wrote 0) a)))))
    same_judge (allocate h) = same_require 20 _ _ _ (same_call a (M.allocate h) _ _ (λ w b. both_accept (record { phase = ap settled b.state; bytes = refl; inside = b })))
    same_judge (deallocate ch) = same_require 20 _ _ _ (same_call a (M.deallocate ch) _ _ (λ w b. both_accept (record { phase = ap settled b.state; bytes = refl; inside = b })))
    same_judge (outgoing s out) =
        same_require 9 _ _ _ (same_require 20 _ _ _ (same_then (session_frame S.channel_max s) _ _ (λ r. same_goes out _ _ (same_trail (send_session_frame s out ∷ []) (wrote 0) a))))
    same_judge (tick out) = same_require 9 _ _ _ (same_require 20 _ _ _ (same_call a (M.tick out) _ _ (λ w b. both_accept (record { phase = ap settled b.state; bytes = refl; inside = b }))))
    same_judge (end_of_input out) = same_require 9 _ _ _ (same_require 20 _ _ _ (both_accept (same_ends out p a)))
    same_judge (not_delivered new out) = same_require 9 _ _ _ (same_require 20 _ _ _ (both_accept (same_fail (Some (undelivered role new)) a [] out)))

  judged : {e f : Engine} → AlikeInside e f → (event : Event) → SameResult (judge role S e event) (judge role S f event)
  judged {e} {f} a event =
      subst (λ p. SameResult (judge role S e event) (judge role S (record { phase = p; connection = f.connection }) event)) a.phase (same_judge e.phase a.inside event)

  -- ---- what is seen, and where it leads

  same_seen : {v w : Verdict Result} → SameResult v w → (out : List ℕ) → (replied v ≡ replied w) × (laid (written v) out ≡ laid (written w) out)
  same_seen both_refuse out = (refl, refl)
  same_seen (both_accept {consumed = consumed} {inner = inner} s) out = (
    ap₂ (λ p b. accept (record { ended = E.ended_in p; consumed = consumed; written = length b; inner = inner })) s.phase s.bytes,
    ap (λ b. laid (accept b) out) s.bytes,
  )

  same_landed : {e f : Engine} → AlikeInside e f → {v w : Verdict Result} → SameResult v w → AlikeInside (landed v e) (landed w f)
  same_landed a both_refuse = a
  same_landed a (both_accept s) = record { phase = s.phase; inside = s.inside }

  pub alike_seen : {e f : Engine} → AlikeInside e f → (event : Event) → seen role S e event ≡ seen role S f event
  alike_seen a event = let s = same_seen (judged a event) (lent event) in λ i. record { reply = s.0 i; output = s.1 i }

  pub alike_next : {e f : Engine} → AlikeInside e f → (event : Event) → AlikeInside (next role S e event) (next role S f event)
  alike_next a event = same_landed a (judged a event)

  -- in every later list of events
  pub alike_seen_in : (events : List Event) {e f : Engine} → AlikeInside e f → seen_in role S e events ≡ seen_in role S f events
  alike_seen_in [] a = refl
  alike_seen_in (event ∷ events) a = ap₂ ◌∷◌ (alike_seen a event) (alike_seen_in events (alike_next a event))

-- engines in one phase whose connections have equal accounts
pub accounts_alike_inside : {S : Settings} {e f : Engine} → Reached S e.connection → Reached S f.connection → e.phase ≡ f.phase → account e.connection ≡ account f.connection → AlikeInside e f
accounts_alike_inside i j p q = record { phase = p; inside = accounts_alike i j q }
