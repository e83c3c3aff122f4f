-- Every event leaves the engine in a phase that goes with its connection's state.
-- Assumes nothing.
use mathlib.Core.Path.{◌≡◌, refl, sym, subst}
use mathlib.Core.Bool.{Bool, true, false, cond, not, ◌&&◌, ◌||◌}
use mathlib.Core.List.{List, [], ◌∷◌}
use Rattle.std.specs.Prelude.{Option, None, Some}
use Prim.Native.Nat.{ℕ}
use native.Mathlib.Omega.{arith}
use lib.Dec.{T, ltb, eqb, eqb→eq}
use Rattle.octets.specs.Verdict.{Verdict, refuse, accept}
use Rattle.protocol_header.specs.Header.{Protocol, amqp100, other, received as headerRead}
use Rattle.frame_decoder.specs.Frame.{read_frame, session_frame, session_frames, begins_for}
use Rattle.frame_encoder.specs.Frames.{Settings, ErrorText, limited}
use Rattle.session_frame.specs.Session.{session_bytes}
use Rattle.connection_state.specs.States.{State, OpenPipe, OpenSent, Opened, CloseReceived, Discarding, End, states, is, is_one_of, along, send_header as header_sent, receive_header as headerCame, receive_other_header, send_open as openSent, send_close, send_close_with_error, reading, silent}
use Rattle.connection_model.specs.Connection as M
use Rattle.connection_model.specs.Connection.{Role, dialler, listener, Connection, Call, send_header_to, receive_header_from, send_open_to, receive_frame, send_close_to, send_session_frame, Answer, wrote, apply, decide, headed, closes, tied_by, session_sent, given, released}
use Rattle.connection_model.proofs.Rules.{Holds, refused, holds, on_require, on_cond, on_any, on_and_then, on_along, and_left, and_right, implied, everywhere}
use Rattle.connection_model.proofs.Refusing as R
use Rattle.connection_model.proofs.Refusing.{Refuses, takes, turned, refused_by, by_test, unless, unread, read_refusals}
use Rattle.engine_model.specs.Engine.{Outcome, fine, transport_error, illegal_state, not_found, not_implemented, remote_closed, remote_closed_with_error, Phase, running, awaiting, stopped, Engine, fresh, is_running, Event, send_header, receive_header, send_open, incoming, close_order, allocate, deallocate, outgoing, tick, end_of_input, not_delivered, Landing, landing, Result, settled, Trail, further, trail, frames_in, sending, Fault, illegal, read_fault, send_fault, outcome_of, undelivered, unclosed, closed_with, failed, fail, onward, close_in, closed_by, phase_read, read_to, is_close, phase_answered, answering, received, phase_awaited, awaited, reads, cut_short, cut, input_ends, judge, landed, next, run}
use Rattle.engine_model.specs.Phases.{is_told, awaits, stops_in, goes_with}
use Rattle.engine_model.proofs.Frames.{unentered, same_unentered, leads_to_lem, only_of, ReadsSo, reads_so}

abbrev Goes : Landing → Type 0
Goes l = T (goes_with l.phase l.connection.state)

-- ---- phases and states

-- an engine in End can have stopped with every outcome
over : (o : Outcome) (x : State) → T (is End x) → T (goes_with (stopped o) x)
over o x t = implied (is End x) (is_one_of (stops_in o) x) (by o) t
  where
    by : (o : Outcome) → T (cond (is End x) (is_one_of (stops_in o) x) true)
    by fine = everywhere (λ y. cond (is End y) (is_one_of (stops_in fine) y) true) tt tt x
    by transport_error = everywhere (λ y. cond (is End y) (is_one_of (stops_in transport_error) y) true) tt tt x
    by illegal_state = everywhere (λ y. cond (is End y) (is_one_of (stops_in illegal_state) y) true) tt tt x
    by not_found = everywhere (λ y. cond (is End y) (is_one_of (stops_in not_found) y) true) tt tt x
    by not_implemented = everywhere (λ y. cond (is End y) (is_one_of (stops_in not_implemented) y) true) tt tt x
    by remote_closed = everywhere (λ y. cond (is End y) (is_one_of (stops_in remote_closed) y) true) tt tt x
    by remote_closed_with_error = everywhere (λ y. cond (is End y) (is_one_of (stops_in remote_closed_with_error) y) true) tt tt x

-- a transport error can come in every state
anywhere : (x : State) → T (goes_with (stopped transport_error) x)
anywhere x = everywhere (is_one_of states) tt tt x

cond_goes : (b : Bool) (p q : Phase) (x : State) → (T b → T (goes_with p x)) → (T (not b) → T (goes_with q x)) → T (goes_with (cond b p q) x)
cond_goes true p q x f g = f tt
cond_goes false p q x f g = g tt

awaited_by_lem : (o : Outcome) (x : State) → T (is_told o) → T (awaits x) → T (goes_with (awaiting o) x)
awaited_by_lem o x t u = both (is_told o) t
  where
    both : (b : Bool) → T b → T (b && awaits x)
    both true v = u
    both false v = v

settled_goes : (x : State) → T (not (is CloseReceived x)) → T (goes_with (settled x) x)
settled_goes x n = implied (not (is CloseReceived x)) (goes_with (settled x) x) (everywhere (λ y. cond (not (is CloseReceived y)) (goes_with (settled y) y) true) tt tt x) n

end_settled : (x : State) → T (is End x) → T (goes_with (settled x) x)
end_settled x t = implied (is End x) (goes_with (settled x) x) (everywhere (λ y. cond (is End y) (goes_with (settled y) y) true) tt tt x) t

-- the states in which a Close with an error is sent
abbrev closable : State → Bool
closable x = is_one_of (OpenPipe ∷ OpenSent ∷ Opened ∷ CloseReceived ∷ []) x

unclosed_goes : (o : Outcome) (x : State) → T (is_told o) → T (not (closable x)) → T (goes_with (unclosed o x) x)
unclosed_goes o x t n =
    cond_goes (awaits x) (awaiting o) (cond (is End x) (stopped o) (stopped illegal_state)) x (awaited_by_lem o x t)
    (λ u. cond_goes (is End x) (stopped o) (stopped illegal_state) x (over o x) (λ v.
    unless (closable x) _ n (unless (awaits x) _ u (everywhere (λ y. cond (awaits y) true (cond (closable y) true (goes_with (stopped illegal_state) y))) tt tt x))))

closed_goes : (o : Outcome) (x : State) → T (is_told o) → T (is_one_of (Discarding ∷ End ∷ []) x) → T (goes_with (closed_with o x) x)
closed_goes o x t d =
    cond_goes (is End x) (stopped o) (awaiting o) x (over o x) (λ n. awaited_by_lem o x t
    (unless (is End x) (awaits x) n (implied (is_one_of (Discarding ∷ End ∷ []) x) (cond (is End x) true (awaits x))
    (everywhere (λ y. cond (is_one_of (Discarding ∷ End ∷ []) y) (cond (is End y) true (awaits y)) true) tt tt x) d)))

cut_goes : (p : Phase) (x : State) → T (goes_with p x) → T (goes_with (cut_short p) x)
cut_goes running x t = t
cut_goes (awaiting o) x t = anywhere x
cut_goes (stopped o) x t = t

-- ---- errors

-- a Close tells of it, or it is a transport error
abbrev tells_of : Option Fault → Bool
tells_of None = true
tells_of (Some f) = is_told f.outcome

either_told : (b : Bool) (f g : Option Fault) → T (tells_of f) → T (tells_of g) → T (tells_of (cond b f g))
either_told true f g p q = p
either_told false f g p q = q

read_told : (role : Role) (k : ℕ) → T (tells_of (read_fault role k))
read_told role k = either_told (eqb k 20) _ _ tt (either_told (eqb k 24) _ _ tt (either_told (eqb k 25) _ _ tt tt))

sent_told : (k : ℕ) → T (tells_of (send_fault k))
sent_told k = either_told (eqb k 20) _ _ tt (either_told (eqb k 24) _ _ tt tt)

undelivered_told : (role : Role) (new : Bool) → T (is_told (undelivered role new).outcome)
undelivered_told listener true = tt
undelivered_told listener false = tt
undelivered_told dialler new = tt

fault_cond :
    (b : Bool) (f g : Option Fault) (x : State) → (T b → T (goes_with (stopped (outcome_of f)) x)) → T (goes_with (stopped (outcome_of g)) x)
    → T (goes_with (stopped (outcome_of (cond b f g))) x)
fault_cond true f g x p q = p tt
fault_cond false f g x p q = q

-- a frame that was refused while the peer's Close is awaited: not with 20 while discarding, and not with 24 or 25
error_awaited : (role : Role) (k : ℕ) (x : State) → T (awaits x) → T (ltb k 20 || unread x k) → T (goes_with (stopped (outcome_of (read_fault role k))) x)
error_awaited role k x a r =
    fault_cond (eqb k 20) _ _ x
    (λ t. implied (not (is Discarding x)) _ (implied (awaits x) _ (everywhere (λ y. cond (awaits y) (cond (not (is Discarding y)) (goes_with (stopped illegal_state) y) true) true) tt tt x) a) (as_number 20 t))
    (fault_cond (eqb k 24) _ _ x (λ t. never (as_number 24 t)) (fault_cond (eqb k 25) _ _ x (λ t. never (as_number 25 t)) (anywhere x)))
  where
    as_number : (n : ℕ) → T (eqb k n) → T (ltb n 20 || unread x n)
    as_number n t = subst (λ m. T (ltb m 20 || unread x m)) (eqb→eq k n t) r

    never : {A : Type 0} → T (is_one_of reading x) → A
    never u = absurd (implied (is_one_of reading x) false (implied (awaits x) _ (everywhere (λ y. cond (awaits y) (cond (is_one_of reading y) false true) true) tt tt x) a) u)

-- ---- calls that do not read a frame

abbrev sends : Call → Bool
sends (send_header_to out) = true
sends (receive_header_from s) = true
sends (send_open_to out) = true
sends (receive_frame s h) = false
sends (send_close_to e out) = true
sends (send_session_frame s out) = true
sends (M.allocate h) = true
sends (M.deallocate ch) = true
sends (M.tick out) = true

module _ (role : Role) (S : Settings) (c : Connection) where
  abbrev after : M.Outcome → State
  after w = (apply S w.effect c).state

  -- CloseReceived is not entered
  abbrev Stays : M.Outcome → Type 0
  Stays w = T (unentered c.state (after w))

  on_headed : (p : Protocol) → Holds Stays (headed c p)
  on_headed amqp100 = on_and_then _ _ (on_along unentered headerCame tt c.state) (λ x t. holds t)
  on_headed (other h) = on_and_then _ _ (on_along unentered receive_other_header tt c.state) (λ x t. holds t)

  on_closes : (e : Option ErrorText) → Holds (λ x. T (unentered c.state x)) (closes e c.state)
  on_closes None = on_along unentered send_close tt c.state
  on_closes (Some e) = on_along unentered send_close_with_error tt c.state

  on_tied : (ρ : Role) (rs : List ℕ) (n : ℕ) (h : Option ℕ) → Holds (λ e. (apply S e c).state ≡ c.state) (tied_by ρ rs n h)
  on_tied dialler rs n h = holds refl
  on_tied listener [] n h = holds refl
  on_tied listener (r ∷ rs) n None = refused
  on_tied listener (r ∷ rs) n (Some h) = holds refl

  session_same : (s out : List ℕ) → Holds (λ w. after w ≡ c.state) (decide role S c (send_session_frame s out))
  session_same s out =
      on_require _ _ _ _ (λ t. on_any _ (session_frame S.channel_max s) (session_sent role c s) (λ r. on_require _ _ _ _ (λ u.
      on_and_then _ _ (on_tied role (begins_for (eqb r.1.code 17) r.1) r.0.channel (c.taken r.0.channel)) (λ e q. on_any _ (limited c.writing_limit (session_bytes s r)) _ (λ bytes. holds q)))))

  stays : {v : Verdict M.Outcome} → Holds (λ w. after w ≡ c.state) v → Holds Stays v
  stays refused = refused
  stays (holds q) = holds (subst (λ x. T (unentered c.state x)) (sym q) (same_unentered c.state))

  on_given : (h : ℕ) (l : Option (List ℕ)) → Holds Stays (given h l)
  on_given h None = refused
  on_given h (Some []) = refused
  on_given h (Some (ch ∷ rest)) = holds (same_unentered c.state)

  on_released : (ch : ℕ) (h : Option ℕ) → Holds Stays (released ch h)
  on_released ch None = refused
  on_released ch (Some h) = holds (same_unentered c.state)

  on_call : (call : Call) → T (sends call) → Holds Stays (decide role S c call)
  on_call (send_header_to out) t = on_require _ _ _ _ (λ u. on_and_then _ _ (on_along unentered header_sent tt c.state) (λ x v. holds v))
  on_call (receive_header_from s) t = on_any _ (headerRead s) _ on_headed
  on_call (send_open_to out) t = on_require _ _ _ _ (λ u. on_and_then _ _ (on_along unentered openSent tt c.state) (λ x v. on_any _ _ _ (λ bytes. holds v)))
  on_call (receive_frame s h) t = absurd t
  on_call (send_close_to e out) t = on_require _ _ _ _ (λ u. on_require _ _ _ _ (λ v. on_and_then _ _ (on_closes e) (λ x g. on_any _ _ _ (λ bytes. holds g))))
  on_call (send_session_frame s out) t = stays (session_same s out)
  on_call (M.allocate h) t = on_require _ _ _ _ (λ u. on_given h c.hand_out)
  on_call (M.deallocate ch) t = on_released ch (c.taken ch)
  on_call (M.tick out) t =
      let same = same_unentered c.state in
      on_require _ _ _ _ (λ u. on_cond _ (is End c.state) _ _ (λ v. holds same) (on_cond _ (is_one_of silent c.state) _ _ (λ v. holds same) (holds same)))

  -- a Close without an error leads from CloseReceived to End
  close_ends : (out : List ℕ) → Holds (λ w. T (cond (is CloseReceived c.state) (is End (after w)) true)) (decide role S c (send_close_to None out))
  close_ends out =
      on_require _ _ _ _ (λ t. on_require _ _ _ _ (λ u.
      on_and_then _ _ (on_along (λ x y. cond (is CloseReceived x) (is End y) true) send_close tt c.state) (λ x g. on_any _ _ _ (λ bytes. holds g))))

  -- one with an error leads to Discarding or End, and is refused with 20 where none is sent
  error_leads : (e : ErrorText) (out : List ℕ) → Holds (λ w. T (is_one_of (Discarding ∷ End ∷ []) (after w))) (decide role S c (send_close_to (Some e) out))
  error_leads e out =
      on_require _ _ _ _ (λ t. on_require _ _ _ _ (λ u.
      on_and_then _ _ (on_along (λ x y. is_one_of (Discarding ∷ End ∷ []) y) send_close_with_error tt c.state) (λ x g. on_any _ _ _ (λ bytes. holds g))))

  abbrev Illegal : ℕ → Type 0
  Illegal k = T (cond (eqb k 20) (not (closable c.state)) true)

  error_turned : (e : ErrorText) (out : List ℕ) → Refuses Illegal (decide role S c (send_close_to (Some e) out))
  unfolding limited
  error_turned e out =
      R.on_require _ _ _ _ tt (λ t. R.on_require _ _ _ _ tt (λ u.
      R.on_then _ _ (by_test _ (along send_close_with_error c.state) (everywhere (λ y. refused_by (λ k. cond (eqb k 20) (not (closable y)) true) (along send_close_with_error y)) tt tt c.state))
      (λ x. R.on_then _ _ (R.on_require _ _ _ _ tt (λ v. takes)) (λ bytes. takes))))

unentered_is : (x y : State) → T (not (is CloseReceived x)) → T (unentered x y) → T (not (is CloseReceived y))
unentered_is x y n t = by (is CloseReceived y) (is CloseReceived x) n t
  where
    by : (b d : Bool) → T (not d) → T (cond b d true) → T (not b)
    by true true m u = m
    by true false m u = u
    by false d m u = tt

-- ---- calls in a row

module _ (role : Role) (S : Settings) where
  abbrev send : List Call → Bool
  send [] = true
  send (call ∷ calls) = sends call && send calls

  -- CloseReceived is not entered
  abbrev Outside : Connection → Type 0
  Outside c = T (not (is CloseReceived c.state))

  further_outside :
      (c : Connection) (rest : Answer → Connection → Trail) {v : Verdict M.Outcome} → Outside c → Holds (Stays role S c) v → ((a : Answer) (d : Connection) → Outside d → Outside (rest a d).connection)
      → Outside (further S c rest v).connection
  further_outside c rest n refused g = n
  further_outside c rest n (holds {a = w} t) g = g w.answer (apply S w.effect c) (unentered_is c.state (apply S w.effect c).state n t)

  trail_outside : (calls : List Call) → T (send calls) → (last : Answer) (c : Connection) → Outside c → Outside (trail role S last c calls).connection
  trail_outside [] t last c n = n
  trail_outside (call ∷ calls) t last c n =
      further_outside c (λ a d. trail role S a d calls) n (on_call role S c call (and_left (sends call) (send calls) t)) (λ a d m. trail_outside calls (and_right (sends call) (send calls) t) a d m)

  sending_send : (fs : List (List ℕ)) (e : Option ErrorText) (out : List ℕ) → T (send (sending fs e out))
  sending_send [] e out = tt
  sending_send (f ∷ fs) e out = sending_send fs e out

  -- in CloseReceived, session frames and then a Close that all went out lead to End
  abbrev Ends : Trail → Type 0
  Ends t = (a : Answer) → t.last ≡ accept a → T (is End t.connection.state)

  never_accepted : {A : Type 0} (k : ℕ) (a : Answer) → refuse k ≡ accept a → A
  never_accepted k a q = let z : ◌≡◌ {A = ℕ} 0 1 = cc in absurd (omega arith)

  last_ends : (c : Connection) {v : Verdict M.Outcome} → T (is CloseReceived c.state) → Holds (λ w. T (cond (is CloseReceived c.state) (is End (apply S w.effect c).state) true)) v
      → Ends (further S c (λ a d. trail role S a d []) v)
  last_ends c t (refused {k}) a q = never_accepted k a q
  last_ends c t (holds {a = w} g) a q = implied (is CloseReceived c.state) (is End (apply S w.effect c).state) g t

  first_ends : (c : Connection) (rest : Answer → Connection → Trail) {v : Verdict M.Outcome} → T (is CloseReceived c.state) → Holds (λ w. (apply S w.effect c).state ≡ c.state) v
      → ((a : Answer) (d : Connection) → T (is CloseReceived d.state) → Ends (rest a d)) → Ends (further S c rest v)
  first_ends c rest t (refused {k}) g a q = never_accepted k a q
  first_ends c rest t (holds {a = w} same) g a q = g w.answer (apply S w.effect c) (subst (λ x. T (is CloseReceived x)) (sym same) t) a q

  trail_ends : (fs : List (List ℕ)) (out : List ℕ) (last : Answer) (c : Connection) → T (is CloseReceived c.state) → Ends (trail role S last c (sending fs None out))
  trail_ends [] out last c t = last_ends c t (close_ends role S c out)
  trail_ends (f ∷ fs) out last c t = first_ends c (λ a d. trail role S a d (sending fs None out)) t (session_same role S c f out) (λ a d u. trail_ends fs out a d u)

  -- ---- where an event lands

  failed_goes :
      (o : Outcome) (c : Connection) (bytes : List ℕ) {v : Verdict M.Outcome} → T (is_told o) → Holds (λ w. T (is_one_of (Discarding ∷ End ∷ []) (apply S w.effect c).state)) v
      → Refuses (Illegal role S c) v → Goes (failed S o c bytes v)
  failed_goes o c bytes t (refused {k}) r =
      cond_goes (eqb k 20) (unclosed o c.state) (stopped transport_error) c.state (λ u. unclosed_goes o c.state t (implied (eqb k 20) _ (turned _ r) u)) (λ u. anywhere c.state)
  failed_goes o c bytes t (holds {a = w} g) r = closed_goes o (apply S w.effect c).state t g

  fail_goes : (f : Option Fault) (c : Connection) (bytes out : List ℕ) → T (tells_of f) → Goes (fail role S f c bytes out)
  fail_goes None c bytes out t = anywhere c.state
  fail_goes (Some f) c bytes out t = failed_goes f.outcome c bytes t (error_leads role S c f.error out) (error_turned role S c f.error out)

  onward_goes :
      (out : List ℕ) (rest : Connection → List ℕ → Landing) (v : Verdict Answer) (c : Connection) (bytes : List ℕ) → ((a : Answer) → v ≡ accept a → Goes (rest c bytes))
      → Goes (onward role S out rest (record { last = v; connection = c; bytes = bytes }))
  onward_goes out rest (refuse k) c bytes g = fail_goes (send_fault k) c bytes out (sent_told k)
  onward_goes out rest (accept a) c bytes g = g a refl

  along_goes : (out : List ℕ) (rest : Connection → List ℕ → Landing) (t : Trail) → ((a : Answer) → t.last ≡ accept a → Goes (rest t.connection t.bytes)) → Goes (onward role S out rest t)
  along_goes out rest t g = onward_goes out rest t.last t.connection t.bytes g

  -- ---- a frame came

  read_to_goes :
      (out : List ℕ) (v : Verdict Answer) (c : Connection) → ((a : Answer) → v ≡ accept a → T (goes_with (phase_read (close_in a) c.state c.state) c.state))
      → Goes (read_to role S out c.state v c [])
  read_to_goes out (refuse k) c g = fail_goes (read_fault role k) c [] out (read_told role k)
  read_to_goes out (accept a) c g = g a refl

  -- answered in the state x, and then in End
  answered_goes : (v : Verdict Answer) (x y : State) → T (is End y) → T (goes_with (phase_answered role x v y) y)
  answered_goes (refuse k) x y t = over (outcome_of (read_fault role k)) y t
  answered_goes (accept a) x y t = by (close_in a)
    where
      by : (m : Option Bool) → T (goes_with (phase_read m x y) y)
      by None = end_settled y t
      by (Some error) = over (closed_by fine x error) y t

  answering_goes :
      (waiting : List (List ℕ)) (out : List ℕ) (b : Bool) (v : Verdict Answer) (c : Connection) → (T b → T (is CloseReceived c.state))
      → (T (not b) → (a : Answer) → v ≡ accept a → T (goes_with (phase_read (close_in a) c.state c.state) c.state)) → Goes (answering role S waiting out b v c)
  answering_goes waiting out true v c f g =
      along_goes out (λ d bytes. landing (phase_answered role c.state v d.state) d bytes) (trail role S (wrote 0) c (sending waiting None out))
      (λ a q. answered_goes v c.state (trail role S (wrote 0) c (sending waiting None out)).connection.state (trail_ends waiting out (wrote 0) c (f tt) a q))
  answering_goes waiting out false v c f g = read_to_goes out v c (g tt)

  -- read in the state x, which is not CloseReceived, and led to y, where no Close is answered
  read_on : (m : Option Bool) (close : Bool) (x y : State) → T (not (is CloseReceived x)) → T (leads_to_lem m x y) → T (only_of close m) → T (not (close && is CloseReceived y)) → T (goes_with (phase_read m y y) y)
  read_on None close x y n l o u = settled_goes y (unentered_is x y n (and_right (cond (awaits x) (awaits y) true) (unentered x y) l))
  read_on (Some error) close x y n l o u = over (closed_by fine y error) y (ended (awaits x) (is CloseReceived y) (is End y) l (neither close (is CloseReceived y) o u))
    where
      neither : (b d : Bool) → T b → T (not (b && d)) → T (not d)
      neither true d p q = q
      neither false d p q = absurd p

      ended : (a d e : Bool) → T (cond a e (cond d true (cond e true false))) → T (not d) → T e
      ended true d e p q = p
      ended false true e p q = absurd q
      ended false false true p q = tt
      ended false false false p q = p

  same_answer : {a b : Answer} (P : Answer → Type 0) → accept a ≡ accept b → P a → P b
  same_answer {a} {b} P e p = let q : a ≡ b = cc in subst P q p

  received_goes : (waiting : List (List ℕ)) (out : List ℕ) (close : Bool) (c : Connection) {v : Verdict M.Outcome} → Outside c → Holds (ReadsSo S c close) v → Goes (received role S waiting out close c v)
  received_goes waiting out close c n (refused {k}) =
      answering_goes waiting out (close && is CloseReceived c.state) (refuse k) c (and_right close (is CloseReceived c.state)) (λ u a q. never_accepted k a q)
  received_goes waiting out close c n (holds {a = w} r) =
      let d : Connection = apply S w.effect c in
      answering_goes waiting out (close && is CloseReceived d.state) (accept w.answer) d (and_right close (is CloseReceived d.state))
      (λ u a q. same_answer (λ b. T (goes_with (phase_read (close_in b) d.state d.state) d.state)) q
      (read_on (close_in w.answer) close c.state d.state n r.leads r.of_close u))

  -- read while the peer's Close is awaited
  awaited_on : (o : Outcome) (m : Option Bool) (x y : State) → T (is_told o) → T (awaits x) → T (leads_to_lem m x y) → T (goes_with (phase_awaited o m y) y)
  awaited_on o None x y t u l = awaited_by_lem o y t (implied (awaits x) (awaits y) (and_left (cond (awaits x) (awaits y) true) (unentered x y) l) u)
  awaited_on o (Some error) x y t u l = over (closed_by o y error) y (first (awaits x) (is End y) _ u l)
    where
      first : (a e f : Bool) → T a → T (cond a e f) → T e
      first true e f p q = q
      first false e f p q = absurd p

  awaited_goes :
      (o : Outcome) (c : Connection) (close : Bool) {v : Verdict M.Outcome} → T (is_told o && awaits c.state) → Holds (ReadsSo S c close) v → Refuses (λ k. T (ltb k 20 || unread c.state k)) v
      → Goes (awaited role S o c v)
  awaited_goes o c close t (refused {k}) f = error_awaited role k c.state (and_right (is_told o) (awaits c.state) t) (turned _ f)
  awaited_goes o c close t (holds {a = w} r) f =
      awaited_on o (close_in w.answer) c.state (apply S w.effect c).state (and_left (is_told o) (awaits c.state) t) (and_right (is_told o) (awaits c.state) t) r.leads

  reads_goes :
      (waiting : List (List ℕ)) (out : List ℕ) (close : Bool) (v : Verdict M.Outcome) (p : Phase) (c : Connection) → T (goes_with p c.state) → Holds (ReadsSo S c close) v
      → Refuses (λ k. T (ltb k 20 || unread c.state k)) v → Goes (reads role S waiting out close v (record { phase = p; connection = c }))
  reads_goes waiting out close v running c t h f = received_goes waiting out close c t h
  reads_goes waiting out close v (awaiting o) c t h f = awaited_goes o c close t h f
  reads_goes waiting out close v (stopped o) c t h f = t

  -- ---- the input ends

  lands_cond : (b : Bool) (l l' : Landing) → (T b → Goes l) → Goes l' → Goes (cond b l l')
  lands_cond true l l' f g = f tt
  lands_cond false l l' f g = g

  ends_goes : (out : List ℕ) (c : Connection) (p : Phase) → T (goes_with p c.state) → Goes (input_ends role S out c p)
  ends_goes out c running t =
      let l : Landing = fail role S (Some illegal) c [] out in
      lands_cond (is_one_of (stops_in fine) c.state) (landing (stopped fine) c []) (cut l) (λ u. u) (cut_goes l.phase l.connection.state (fail_goes (Some illegal) c [] out tt))
  ends_goes out c (awaiting o) t = anywhere c.state
  ends_goes out c (stopped o) t = t

  -- ---- events

  abbrev Good : Result → Type 0
  Good r = Goes r.lands

  module _ (e : Engine) (f : T (goes_with e.phase e.connection.state)) where
    abbrev c : Connection
    c = e.connection

    runs_outside : T (is_running e.phase) → Outside c
    runs_outside t = by e.phase t f
      where
        by : (p : Phase) → T (is_running p) → T (goes_with p c.state) → Outside c
        by running u g = g
        by (awaiting o) u g = absurd u
        by (stopped o) u g = absurd u

    -- one call, and then the phase is as it was, or settled
    called : (call : Call) → T (sends call) → T (is_running e.phase) → Holds (λ w. Outside (apply S w.effect c)) (decide role S c call)
    called call t u = again (on_call role S c call t)
      where
        again : {v : Verdict M.Outcome} → Holds (Stays role S c) v → Holds (λ w. Outside (apply S w.effect c)) v
        again refused = refused
        again (holds {a = w} g) = holds (unentered_is c.state (apply S w.effect c).state (runs_outside u) g)

    goes_good : (out : List ℕ) (calls : List Call) → T (send calls) → T (is_running e.phase) → Goes (onward role S out (λ d bytes. landing (settled d.state) d bytes) (trail role S (wrote 0) c calls))
    goes_good out calls t u =
        along_goes out (λ d bytes. landing (settled d.state) d bytes) (trail role S (wrote 0) c calls) (λ a q. settled_goes (trail role S (wrote 0) c calls).connection.state (trail_outside calls t (wrote 0) c (runs_outside u)))

    judge_goes : (event : Event) → Holds Good (judge role S e event)
    judge_goes (send_header out) = on_require _ _ _ _ (λ t. on_require _ _ _ _ (λ u. on_and_then _ _ (called (send_header_to out) tt u) (λ w g. holds g)))
    judge_goes (receive_header s) = on_require _ _ _ _ (λ u. on_and_then _ _ (called (receive_header_from s) tt u) (λ w g. holds g))
    judge_goes (send_open out) = on_require _ _ _ _ (λ t. on_require _ _ _ _ (λ u. on_and_then _ _ (called (send_open_to out) tt u) (λ w g. holds g)))
    judge_goes (incoming s h w out) =
        on_require _ _ _ _ (λ t1. on_require _ _ _ _ (λ t2. on_require _ _ _ _ (λ t3. on_any _ (session_frames S.channel_max w) _ (λ n.
        holds (reads_goes (frames_in n w) out (is_close (read_frame c.reading_limit S.channel_max s)) (decide role S c (receive_frame s h)) e.phase c f (reads_so role S c s h) (read_refusals role S c s h))))))
    judge_goes (close_order error w out) =
        on_require _ _ _ _ (λ t1. on_require _ _ _ _ (λ t2. on_require _ _ _ _ (λ u. on_any _ (session_frames S.channel_max w) _ (λ n.
        holds (goes_good out (sending (frames_in n w) error out) (sending_send (frames_in n w) error out) u)))))
    judge_goes (allocate h) = on_require _ _ _ _ (λ u. on_and_then _ _ (called (M.allocate h) tt u) (λ w g. holds (settled_goes (apply S w.effect c).state g)))
    judge_goes (deallocate ch) = on_require _ _ _ _ (λ u. on_and_then _ _ (called (M.deallocate ch) tt u) (λ w g. holds (settled_goes (apply S w.effect c).state g)))
    judge_goes (outgoing s out) =
        on_require _ _ _ _ (λ t1. on_require _ _ _ _ (λ u. on_any _ (session_frame S.channel_max s) _ (λ r. holds (goes_good out (send_session_frame s out ∷ []) tt u))))
    judge_goes (tick out) = on_require _ _ _ _ (λ t. on_require _ _ _ _ (λ u. on_and_then _ _ (called (M.tick out) tt u) (λ w g. holds (settled_goes (apply S w.effect c).state g))))
    judge_goes (end_of_input out) = on_require _ _ _ _ (λ t. on_require _ _ _ _ (λ u. holds (ends_goes out c e.phase f)))
    judge_goes (not_delivered new out) = on_require _ _ _ _ (λ t. on_require _ _ _ _ (λ u. holds (fail_goes (Some (undelivered role new)) c [] out (undelivered_told role new))))

    landed_goes : {v : Verdict Result} → Holds Good v → T (goes_with (landed v e).phase (landed v e).connection.state)
    landed_goes refused = f
    landed_goes (holds g) = g

    -- after an event
    pub next_goes : (event : Event) → T (goes_with (next role S e event).phase (next role S e event).connection.state)
    next_goes event = landed_goes (judge_goes event)

  goes_from : (e : Engine) (events : List Event) → T (goes_with e.phase e.connection.state) → T (goes_with (run role S e events).phase (run role S e events).connection.state)
  goes_from e [] f = f
  goes_from e (event ∷ events) f = goes_from (next role S e event) events (next_goes e f event)

  -- of every engine that events lead to
  pub phase_goes : (events : List Event) → T (goes_with (run role S fresh events).phase (run role S fresh events).connection.state)
  phase_goes events = goes_from fresh events tt
