-- What an event does to the connection inside, and what it writes, is what some list of the connection's own calls does and writes; so it is of every list of events.
-- Every connection that events can lead to is one that calls can lead to.
-- Assumes nothing.
use mathlib.Core.Path.{◌≡◌, refl, sym, ◌∙◌, ap, ap₂, subst}
use mathlib.Core.Bool.{Bool, true, false, cond, ◌&&◌}
use mathlib.Core.List.{List, [], ◌∷◌, ◌++◌, append_assoc, append-nil}
use Rattle.std.specs.Prelude.{Option, None, Some}
use Prim.Native.Nat.{ℕ, zero, suc, ◌<◌}
use native.Mathlib.Omega.{arith}
use lib.Dec.{T, ltb, eqb, ltb→lt}
use lib.ListN.{length, drop, length-drop}
use Rattle.octets.specs.Verdict.{Verdict, refuse, accept}
use Rattle.frame_decoder.specs.Frame.{size_of, read_frame, session_frame, session_frames}
use Rattle.frame_encoder.specs.Frames.{Settings, ErrorText}
use Rattle.connection_state.specs.States.{State, ClosePipe, Discarding, CloseReceived, End, is, is_one_of}
use Rattle.connection_model.specs.Connection as M
use Rattle.connection_model.specs.Connection.{Role, dialler, listener, Connection, Call, send_header_to, receive_header_from, send_open_to, receive_frame, send_close_to, send_session_frame, Answer, wrote, apply, decide, after, answered}
use Rattle.connection_model.specs.Callers as C
use Rattle.connection_model.specs.Callers.{are_bytes, is_slice, may_slice, may_text}
use Rattle.connection_model.specs.Sound.{Reached}
use Rattle.connection_model.proofs.Rules.{Holds, refused, holds, on_require, on_any, on_and_then}
use Rattle.connection_model.proofs.Invariant.{reached}
use Rattle.connection_model.proofs.Valid.{both, slice_is}
use Rattle.engine_model.specs.Engine.{Phase, running, awaiting, stopped, Engine, fresh, Event, send_header, receive_header, send_open, incoming, close_order, allocate, deallocate, outgoing, tick, end_of_input, not_delivered, Landing, landing, Result, Trail, further, trail, frames_in, sending, Fault, illegal, unsupported, read_fault, send_fault, undelivered, failed, fail, onward, read_to, is_close, phase_answered, answering, awaited, reads, input_ends, settled, judge, landed, next, run}
use Rattle.engine_model.specs.Engine as E
use Rattle.engine_model.specs.Callers.{is_valid, are_valid, Valid}
use Rattle.engine_model.proofs.Frames.{ReadsSo, reads_so}

-- ---- lists of calls

-- what a call writes; a refusal writes nothing
abbrev pub bytes_in : Verdict M.Outcome → List ℕ
bytes_in (refuse k) = []
bytes_in (accept o) = o.bytes

-- what calls write, one after the other
abbrev pub written_by : Role → Settings → Connection → List Call → List ℕ
written_by role S c [] = []
written_by role S c (call ∷ calls) = bytes_in (decide role S c call) ++ written_by role S (M.next role S c call) calls

-- what an event writes, and what events write, one after the other
abbrev pub bytes_by : Verdict Result → List ℕ
bytes_by (refuse k) = []
bytes_by (accept r) = r.lands.bytes

abbrev pub written_in : Role → Settings → Engine → List Event → List ℕ
written_in role S e [] = []
written_in role S e (event ∷ events) = bytes_by (judge role S e event) ++ written_in role S (next role S e event) events

-- a list of calls that a caller can pass leads from c to d and writes the bytes
pub record Made (role : Role) (S : Settings) (c d : Connection) (bytes : List ℕ) : Type 0 where
  pub calls : List Call
  pub valid : C.Valid calls
  pub leads : M.run role S c calls ≡ d
  pub writes : written_by role S c calls ≡ bytes

in_front : (l a b : Bool) → (a ≡ true → b ≡ true) → l && a ≡ true → l && b ≡ true
in_front true a b f p = f p
in_front false a b f p = p

left : (a b : Bool) → a && b ≡ true → a ≡ true
left true b p = refl
left false b p = p

right : (a b : Bool) → a && b ≡ true → b ≡ true
right true b p = p
right false b p = absurd (subst T (sym p) tt)

valid_append : (p q : List Call) → C.Valid p → C.Valid q → C.Valid (p ++ q)
valid_append [] q v w = w
valid_append (call ∷ p) q v w = in_front (C.is_valid call) (C.are_valid p) (C.are_valid (p ++ q)) (λ u. valid_append p q u w) v

module _ (role : Role) (S : Settings) where
  run_append : (p q : List Call) (c : Connection) → M.run role S c (p ++ q) ≡ M.run role S (M.run role S c p) q
  run_append [] q c = refl
  run_append (call ∷ p) q c = run_append p q (M.next role S c call)

  written_append : (p q : List Call) (c : Connection) → written_by role S c (p ++ q) ≡ written_by role S c p ++ written_by role S (M.run role S c p) q
  written_append [] q c = refl
  written_append (call ∷ p) q c =
      ap (λ bytes. bytes_in (decide role S c call) ++ bytes) (written_append p q (M.next role S c call))
      ∙ sym (append_assoc (bytes_in (decide role S c call)) (written_by role S (M.next role S c call) p) _)

  none_made : (c : Connection) → Made role S c c []
  none_made c = record { calls = []; valid = refl; leads = refl; writes = refl }

  call_made : (c : Connection) (call : Call) → C.is_valid call ≡ true → (v : Verdict M.Outcome) → decide role S c call ≡ v → Made role S c (after S v c) (bytes_in v)
  call_made c call ok v q = record {
    calls = call ∷ [];
    valid = both _ _ ok refl;
    leads = ap (λ w. after S w c) q;
    writes = append-nil (bytes_in (decide role S c call)) ∙ ap bytes_in q;
  }

  then_made : {c d f : Connection} {a b : List ℕ} → Made role S c d a → Made role S d f b → Made role S c f (a ++ b)
  then_made {c} {d} {f} {a} {b} m n = record {
    calls = m.calls ++ n.calls;
    valid = valid_append m.calls n.calls m.valid n.valid;
    leads = run_append m.calls n.calls c ∙ ap (λ x. M.run role S x n.calls) m.leads ∙ n.leads;
    writes = written_append m.calls n.calls c
        ∙ ap₂ (λ x bytes. x ++ bytes) m.writes (ap (λ x. written_by role S x n.calls) m.leads ∙ n.writes);
  }

  -- what a call accepts
  call_holds : (c : Connection) (call : Call) → C.is_valid call ≡ true → Holds (λ w. Made role S c (apply S w.effect c) w.bytes) (decide role S c call)
  call_holds c call ok = by (decide role S c call) refl
    where
      by : (v : Verdict M.Outcome) → decide role S c call ≡ v → Holds (λ w. Made role S c (apply S w.effect c) w.bytes) v
      by (refuse k) q = refused
      by (accept w) q = holds (call_made c call ok (accept w) q)

  -- ---- calls in a row

  further_made :
      (c : Connection) (call : Call) → C.is_valid call ≡ true → (rest : Answer → Connection → Trail)
      → ((a : Answer) (d : Connection) → Made role S d (rest a d).connection (rest a d).bytes)
      → (v : Verdict M.Outcome) → decide role S c call ≡ v → Made role S c (further S c rest v).connection (further S c rest v).bytes
  further_made c call ok rest m (refuse k) q = none_made c
  further_made c call ok rest m (accept w) q = then_made (call_made c call ok (accept w) q) (m w.answer (apply S w.effect c))

  trail_made :
      (calls : List Call) → C.Valid calls → (last : Answer) (c : Connection) → Made role S c (trail role S last c calls).connection (trail role S last c calls).bytes
  trail_made [] ok last c = none_made c
  trail_made (call ∷ calls) ok last c =
      further_made c call (left (C.is_valid call) (C.are_valid calls) ok) (λ a d. trail role S a d calls)
      (λ a d. trail_made calls (right (C.is_valid call) (C.are_valid calls) ok) a d) (decide role S c call) refl

-- ---- slices

bytes_drop : (n : ℕ) (s : List ℕ) → are_bytes s ≡ true → are_bytes (drop n s) ≡ true
bytes_drop zero s p = p
bytes_drop (suc n) [] p = refl
bytes_drop (suc n) (b ∷ s) p = bytes_drop n s (right (ltb b 256) (are_bytes s) p)

slice_length : (s : List ℕ) → is_slice s ≡ true → length s < 9223372036854775808
slice_length s p = ltb→lt _ _ (subst T (sym (right (are_bytes s) (ltb (length s) 9223372036854775808) p)) tt)

slice_bytes : (s : List ℕ) → is_slice s ≡ true → are_bytes s ≡ true
slice_bytes s p = left (are_bytes s) (ltb (length s) 9223372036854775808) p

slice_drop : (n : ℕ) (s : List ℕ) → is_slice s ≡ true → is_slice (drop n s) ≡ true
slice_drop n s p = slice_is (drop n s) (bytes_drop n s (slice_bytes s p)) (omega (arith, slice_length s p, length-drop n s))

-- the calls that send the frames of a slice and a Close
sending_valid :
    (n : ℕ) (s : List ℕ) (e : Option ErrorText) (out : List ℕ) → is_slice s ≡ true → may_text e ≡ true → is_slice out ≡ true → C.Valid (sending (frames_in n s) e out)
sending_valid zero s e out p q o = both _ _ (both _ _ q o) refl
sending_valid (suc n) s e out p q o =
    both _ _ (both _ _ p o) (sending_valid n (drop (size_of s) s) e out (slice_drop (size_of s) s p) q o)

-- ---- faults

abbrev may_fault : Option Fault → Bool
may_fault None = true
may_fault (Some f) = may_text (Some f.error)

cond_fault : (b : Bool) (f g : Option Fault) → may_fault f ≡ true → may_fault g ≡ true → may_fault (cond b f g) ≡ true
cond_fault true f g p q = p
cond_fault false f g p q = q

unsupported_valid : (role : Role) → may_slice (unsupported role) ≡ true
unsupported_valid dialler = refl
unsupported_valid listener = refl

read_valid : (role : Role) (k : ℕ) → may_fault (read_fault role k) ≡ true
read_valid role k = cond_fault (eqb k 20) _ _ refl (cond_fault (eqb k 24) _ _ refl (cond_fault (eqb k 25) _ _ (unsupported_valid role) refl))

send_valid : (k : ℕ) → may_fault (send_fault k) ≡ true
send_valid k = cond_fault (eqb k 20) _ _ refl (cond_fault (eqb k 24) _ _ refl refl)

undelivered_valid : (role : Role) (new : Bool) → may_fault (Some (undelivered role new)) ≡ true
undelivered_valid listener true = refl
undelivered_valid listener false = refl
undelivered_valid dialler new = refl

-- ---- a read writes nothing

silent_none : {S : Settings} {c : Connection} {close : Bool} {v : Verdict M.Outcome} → Holds (ReadsSo S c close) v → bytes_in v ≡ []
silent_none refused = refl
silent_none (holds r) = r.silent

read_made : (role : Role) (S : Settings) (c : Connection) (s : List ℕ) (h : ℕ) → C.is_valid (receive_frame s h) ≡ true → Made role S c (M.next role S c (receive_frame s h)) []
read_made role S c s h ok =
    subst (Made role S c (M.next role S c (receive_frame s h))) (silent_none (reads_so role S c s h))
    (call_made role S c (receive_frame s h) ok (decide role S c (receive_frame s h)) refl)

-- ---- where an event lands

module _ (role : Role) (S : Settings) where
  abbrev MadeTo : Connection → Landing → Type 0
  MadeTo c l = Made role S c l.connection l.bytes

  -- with an output that is a slice
  module _ (out : List ℕ) (o : is_slice out ≡ true) where
    fail_made : (b : Connection) (f : Option Fault) → may_fault f ≡ true → (c : Connection) (bytes : List ℕ) → Made role S b c bytes → MadeTo b (fail role S f c bytes out)
    fail_made b None p c bytes m = m
    fail_made b (Some f) p c bytes m = by (decide role S c (send_close_to (Some f.error) out)) refl
      where
        by : (v : Verdict M.Outcome) → decide role S c (send_close_to (Some f.error) out) ≡ v → MadeTo b (failed S f.outcome c bytes v)
        by (refuse k) q = m
        by (accept w) q = then_made role S m (call_made role S c (send_close_to (Some f.error) out) (both _ _ p o) (accept w) q)

    onward_made :
        (b : Connection) (rest : Connection → List ℕ → Landing) (v : Verdict Answer) (c : Connection) (bytes : List ℕ) → Made role S b c bytes
        → MadeTo b (rest c bytes) → MadeTo b (onward role S out rest (record { last = v; connection = c; bytes = bytes }))
    onward_made b rest (refuse k) c bytes m n = fail_made b (send_fault k) (send_valid k) c bytes m
    onward_made b rest (accept a) c bytes m n = n

    read_to_made : (b : Connection) (x : State) (v : Verdict Answer) (c : Connection) (bytes : List ℕ) → Made role S b c bytes → MadeTo b (read_to role S out x v c bytes)
    read_to_made b x (refuse k) c bytes m = fail_made b (read_fault role k) (read_valid role k) c bytes m
    read_to_made b x (accept a) c bytes m = m

    -- what follows a trail that starts where calls have led without writing
    along_made :
        (b c : Connection) → Made role S b c [] → (calls : List Call) → C.Valid calls → (rest : Connection → List ℕ → Landing)
        → ((d : Connection) (bytes : List ℕ) → Made role S b d bytes → MadeTo b (rest d bytes)) → MadeTo b (onward role S out rest (trail role S (wrote 0) c calls))
    along_made b c m calls ok rest n =
        let t : Trail = trail role S (wrote 0) c calls in
        let w : Made role S b t.connection t.bytes = then_made role S m (trail_made role S calls ok (wrote 0) c) in
        onward_made b rest t.last t.connection t.bytes w (n t.connection t.bytes w)

    answering_made :
        (waiting : List (List ℕ)) → C.Valid (sending waiting None out) → (b : Connection) (close : Bool) (v : Verdict Answer) (c : Connection) → Made role S b c []
        → MadeTo b (answering role S waiting out close v c)
    answering_made waiting ok b true v c m = along_made b c m (sending waiting None out) ok (λ c' bytes. landing (phase_answered role c.state v c'.state) c' bytes) (λ d bytes n. n)
    answering_made waiting ok b false v c m = read_to_made b c.state v c [] m

    awaited_made : (kept : E.Outcome) (v : Verdict M.Outcome) (c : Connection) → Made role S c (after S v c) [] → MadeTo c (awaited role S kept c v)
    awaited_made kept (refuse k) c m = m
    awaited_made kept (accept w) c m = m

    reads_made :
        (waiting : List (List ℕ)) → C.Valid (sending waiting None out) → (close : Bool) (v : Verdict M.Outcome) (p : Phase) (c : Connection) → Made role S c (after S v c) []
        → MadeTo c (reads role S waiting out close v (record { phase = p; connection = c }))
    reads_made waiting ok close v running c m = answering_made waiting ok c (close && is CloseReceived (after S v c).state) (answered v) (after S v c) m
    reads_made waiting ok close v (awaiting kept) c m = awaited_made kept v c m
    reads_made waiting ok close v (stopped kept) c m = none_made role S c

    cond_made : (c : Connection) (b : Bool) (l l' : Landing) → MadeTo c l → MadeTo c l' → MadeTo c (cond b l l')
    cond_made c true l l' m n = m
    cond_made c false l l' m n = n

    ends_made : (c : Connection) (p : Phase) → MadeTo c (input_ends role S out c p)
    ends_made c running =
        cond_made c (is_one_of (ClosePipe ∷ Discarding ∷ End ∷ []) c.state) _ _ (none_made role S c) (fail_made c (Some illegal) refl c [] (none_made role S c))
    ends_made c (awaiting kept) = none_made role S c
    ends_made c (stopped kept) = none_made role S c

  -- ---- events

  abbrev Lands : Engine → Result → Type 0
  Lands e r = MadeTo e.connection r.lands

  judge_made : (e : Engine) (event : Event) → is_valid event ≡ true → Holds (Lands e) (judge role S e event)
  judge_made e (send_header out) ok = on_require _ _ _ _ (λ t. on_require _ _ _ _ (λ u. on_and_then _ _ (call_holds role S e.connection (send_header_to out) ok) (λ w m. holds m)))
  judge_made e (receive_header s) ok = on_require _ _ _ _ (λ u. on_and_then _ _ (call_holds role S e.connection (receive_header_from s) ok) (λ w m. holds m))
  judge_made e (send_open out) ok = on_require _ _ _ _ (λ t. on_require _ _ _ _ (λ u. on_and_then _ _ (call_holds role S e.connection (send_open_to out) ok) (λ w m. holds m)))
  judge_made e (incoming s h w out) ok =
      let q : is_slice w && is_slice out ≡ true = right (is_slice s && C.is_handle h) (is_slice w && is_slice out) ok in
      let o : is_slice out ≡ true = right (is_slice w) (is_slice out) q in
      on_require _ _ _ _ (λ t1. on_require _ _ _ _ (λ t2. on_require _ _ _ _ (λ t3. on_any _ (session_frames S.channel_max w) _ (λ n.
      holds (reads_made out o (frames_in n w) (sending_valid n w None out (left (is_slice w) (is_slice out) q) refl o)
      (is_close (read_frame e.connection.reading_limit S.channel_max s)) (decide role S e.connection (receive_frame s h)) e.phase e.connection
      (read_made role S e.connection s h (left (is_slice s && C.is_handle h) (is_slice w && is_slice out) ok)))))))
  judge_made e (close_order error w out) ok =
      let q : is_slice w && is_slice out ≡ true = right (may_text error) (is_slice w && is_slice out) ok in
      let o : is_slice out ≡ true = right (is_slice w) (is_slice out) q in
      on_require _ _ _ _ (λ t1. on_require _ _ _ _ (λ t2. on_require _ _ _ _ (λ t3. on_any _ (session_frames S.channel_max w) _ (λ n.
      holds (along_made out o e.connection e.connection (none_made role S e.connection) (sending (frames_in n w) error out)
      (sending_valid n w error out (left (is_slice w) (is_slice out) q) (left (may_text error) (is_slice w && is_slice out) ok) o) (λ d bytes. landing (settled d.state) d bytes) (λ d bytes m. m))))))
  judge_made e (allocate h) ok = on_require _ _ _ _ (λ u. on_and_then _ _ (call_holds role S e.connection (M.allocate h) ok) (λ w m. holds m))
  judge_made e (deallocate ch) ok = on_require _ _ _ _ (λ u. on_and_then _ _ (call_holds role S e.connection (M.deallocate ch) ok) (λ w m. holds m))
  judge_made e (outgoing s out) ok =
      on_require _ _ _ _ (λ t1. on_require _ _ _ _ (λ t2. on_any _ (session_frame S.channel_max s) _ (λ r.
      holds (along_made out (right (is_slice s) (is_slice out) ok) e.connection e.connection (none_made role S e.connection) (send_session_frame s out ∷ [])
      (both _ _ ok refl) (λ d bytes. landing (settled d.state) d bytes) (λ d bytes m. m)))))
  judge_made e (tick out) ok = on_require _ _ _ _ (λ t. on_require _ _ _ _ (λ u. on_and_then _ _ (call_holds role S e.connection (M.tick out) ok) (λ w m. holds m)))
  judge_made e (end_of_input out) ok = on_require _ _ _ _ (λ t1. on_require _ _ _ _ (λ t2. holds (ends_made out ok e.connection e.phase)))
  judge_made e (not_delivered new out) ok =
      on_require _ _ _ _ (λ t1. on_require _ _ _ _ (λ t2.
      holds (fail_made out ok e.connection (Some (undelivered role new)) (undelivered_valid role new) e.connection [] (none_made role S e.connection))))

  landed_made : (e : Engine) {v : Verdict Result} → Holds (Lands e) v → Made role S e.connection (landed v e).connection (bytes_by v)
  landed_made e refused = none_made role S e.connection
  landed_made e (holds m) = m

  -- an event is a list of calls
  pub event_made : (e : Engine) (event : Event) → is_valid event ≡ true → Made role S e.connection (next role S e event).connection (bytes_by (judge role S e event))
  event_made e event ok = landed_made e (judge_made e event ok)

  -- so is a list of events
  pub events_made : (e : Engine) (events : List Event) → Valid events → Made role S e.connection (run role S e events).connection (written_in role S e events)
  events_made e [] ok = none_made role S e.connection
  events_made e (event ∷ events) ok =
      then_made role S (event_made e event (left (is_valid event) (are_valid events) ok))
      (events_made (next role S e event) events (right (is_valid event) (are_valid events) ok))

  -- what holds of every connection that calls can lead to holds of one inside an engine
  pub reached_inside : (events : List Event) → Valid events → Reached S (run role S fresh events).connection
  reached_inside events ok = let m : Made role S M.fresh (run role S fresh events).connection (written_in role S fresh events) = events_made fresh events ok in subst (Reached S) m.leads (reached role S m.calls)
