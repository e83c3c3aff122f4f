-- What the state of a connection tells of its past: whether a Close was written, whether the peer's was read, whether another protocol's header was met.
-- Assumes nothing.
use mathlib.Core.Path.{◌≡◌, refl, sym, subst}
use mathlib.Core.Logic.{◌⊎◌, inl, inr}
use mathlib.Core.Bool.{Bool, true, false, cond, not, ◌&&◌, ◌||◌}
use mathlib.Core.List.{List, [], ◌∷◌}
use Rattle.std.specs.Prelude.{Option, None, Some}
use Prim.Native.Nat.{ℕ}
use lib.Dec.{T, eqb}
use Rattle.octets.specs.Verdict.{Verdict, refuse, accept}
use Rattle.protocol_header.specs.Header.{Protocol, amqp100, other, received}
use Rattle.performatives.specs.Performative.{Performative, remote_channel}
use Rattle.frame_decoder.specs.Frame.{Frame, read_frame, session_frame, begins_for}
use Rattle.frame_encoder.specs.Frames.{Settings, ErrorText, limited}
use Rattle.session_frame.specs.Session.{session_bytes}
use Rattle.connection_state.specs.States.{State, Start, HeaderReceived, HeaderSent, HeaderExchange, OpenPipe, OpenClosePipe, OpenReceived, OpenSent, ClosePipe, Opened, CloseReceived, CloseSent, Discarding, End, is, is_one_of, Move, along, send_header, receive_header, receive_other_header, send_open, read_open, send_close, send_close_with_error, read_close, silent}
use Rattle.channels.specs.Ties.{Tie}
use Rattle.connection_model.specs.Connection.{Role, dialler, listener, Connection, fresh, Call, send_header_to, receive_header_from, send_open_to, receive_frame, send_close_to, send_session_frame, allocate, deallocate, tick, Answer, wrote, stop, header, other_protocol, nothing_to_do, opened, closed, forward, began, channel, freed, Outcome, apply, headed, tie_to, untie, pass_on, new_session, begun, performative_read, frame_read, closes, tied_by, session_sent, given, released, decide, after, next, run}
use Rattle.connection_model.proofs.Rules.{Holds, refused, holds, on_require, on_cond, on_any, on_and_then, on_along, and_left, and_right, implied, each, one_of, each_row}

-- ---- what happened in a list of calls

abbrev pub sends_close : Call → Bool
sends_close (send_header_to out) = false
sends_close (receive_header_from s) = false
sends_close (send_open_to out) = false
sends_close (receive_frame s h) = false
sends_close (send_close_to e out) = true
sends_close (send_session_frame s out) = false
sends_close (allocate h) = false
sends_close (deallocate ch) = false
sends_close (tick out) = false

abbrev pub is_closed : Answer → Bool
is_closed (wrote n) = false
is_closed stop = false
is_closed (header n) = false
is_closed (other_protocol n) = false
is_closed (nothing_to_do n) = false
is_closed (opened n idle) = false
is_closed (closed n error) = true
is_closed (forward n code h from len) = false
is_closed (began n ch h from len) = false
is_closed (channel ch) = false
is_closed (freed h) = false

abbrev pub is_other : Answer → Bool
is_other (wrote n) = false
is_other stop = false
is_other (header n) = false
is_other (other_protocol n) = true
is_other (nothing_to_do n) = false
is_other (opened n idle) = false
is_other (closed n error) = false
is_other (forward n code h from len) = false
is_other (began n ch h from len) = false
is_other (channel ch) = false
is_other (freed h) = false

-- an accepted call passes a test
abbrev pub passes : (Call → Answer → Bool) → Call → Verdict Outcome → Bool
passes test call (refuse k) = false
passes test call (accept o) = test call o.answer

-- some accepted call of a list passes it
abbrev pub happens : (Call → Answer → Bool) → Role → Settings → Connection → List Call → Bool
happens test role S c [] = false
happens test role S c (call ∷ calls) = passes test call (decide role S c call) || happens test role S (next role S c call) calls

-- a Close was written; a Close was read; another protocol's header was met
abbrev pub wrote_close : Role → Settings → Connection → List Call → Bool
wrote_close = happens (λ call a. sends_close call)

abbrev pub read_peer_close : Role → Settings → Connection → List Call → Bool
read_peer_close = happens (λ call a. is_closed a)

abbrev pub met_other : Role → Settings → Connection → List Call → Bool
met_other = happens (λ call a. is_other a)

-- ---- what a state tells of it

pub data Past : Type 0 where
  -- none of it; a Close was written alone; the peer's was read, and one written or not; both, or another protocol's header alone
  nothing written peers over : Past

abbrev pub past : State → Past
past Start = nothing
past HeaderReceived = nothing
past HeaderSent = nothing
past HeaderExchange = nothing
past OpenPipe = nothing
past OpenClosePipe = written
past OpenReceived = nothing
past OpenSent = nothing
past ClosePipe = written
past Opened = nothing
past CloseReceived = peers
past CloseSent = written
past Discarding = written
past End = over

-- with whether a Close was written, one was read, and another protocol's header was met
abbrev pub agrees : Past → Bool → Bool → Bool → Bool
agrees nothing w r o = not w && (not r && not o)
agrees written w r o = w && (not r && not o)
agrees peers w r o = r && not o
agrees over w r o = cond o (not w && not r) (w && r)

abbrev pub tells : State → Bool → Bool → Bool → Bool
tells x w r o = agrees (past x) w r o

-- ---- every move keeps it

abbrev both : (Bool → Bool) → Bool
both f = f true && f false

both_at : (f : Bool → Bool) → T (both f) → (b : Bool) → T (f b)
both_at f t true = and_left (f true) (f false) t
both_at f t false = and_right (f true) (f false) t

-- from a to b, where a Close is written, one is read, another protocol's header is met; with what there was before
abbrev step : Bool → Bool → Bool → State → State → Bool → Bool → Bool → Bool
step w r o a b w' r' o' = cond (tells a w' r' o') (tells b (w || w') (r || r') (o || o')) true

abbrev keeps : Bool → Bool → Bool → State → State → Bool
keeps w r o a b = both (λ w'. both (λ r'. both (λ o'. step w r o a b w' r' o')))

-- what was told before is told after, with what the call adds
abbrev Tells : State → State → Bool → Bool → Bool → Type 0
Tells a b w r o = (w' r' o' : Bool) → T (tells a w' r' o') → T (tells b (w || w') (r || r') (o || o'))

kept : (w r o : Bool) (a b : State) → T (keeps w r o a b) → Tells a b w r o
kept w r o a b t w' r' o' u = implied (tells a w' r' o') (tells b (w || w') (r || r') (o || o'))
    (both_at (λ z. step w r o a b w' r' z) (both_at (λ y. both (λ z. step w r o a b w' y z)) (both_at (λ x. both (λ y. both (λ z. step w r o a b x y z))) t w') r') o') u

module _ (role : Role) (S : Settings) (c : Connection) where
  -- what an outcome adds: a Close written or not, and what its answer tells
  abbrev Adds : Bool → Outcome → Type 0
  Adds w o = Tells c.state (apply S o.effect c).state w (is_closed o.answer) (is_other o.answer)

  abbrev Fine : Bool → Verdict Outcome → Type 0
  Fine w v = Holds (Adds w) v

  -- a move along a table
  moved :
      (w r o : Bool) (table : List Move) → T (each_row (keeps w r o) table) → (x : State) → Holds (λ y. Tells x y w r o) (along table x)
  moved w r o table t x = again (on_along (keeps w r o) table t x)
    where
      again : {v : Verdict State} → Holds (λ y. T (keeps w r o x y)) v → Holds (λ y. Tells x y w r o) v
      again refused = refused
      again (holds {a} u) = holds (kept w r o x a u)

  on_headed : (p : Protocol) → Fine false (headed c p)
  on_headed amqp100 = on_and_then _ _ (moved false false false receive_header tt c.state) (λ x g. holds g)
  on_headed (other h) = on_and_then _ _ (moved false false true receive_other_header tt c.state) (λ x g. holds g)

  on_tie_to : (f : Frame) (n : ℕ) (o : Option ℕ) → Fine false (tie_to f n o)
  on_tie_to f n None = refused
  on_tie_to f n (Some h) = holds (λ w r o t. t)

  on_untie : (f : Frame) (o : Option Tie) → Fine false (untie f o)
  on_untie f None = refused
  on_untie f (Some h) = holds (λ w r o t. t)

  on_pass_on : (f : Frame) (code : ℕ) (o : Option Tie) → Fine false (pass_on f code o)
  on_pass_on f code None = refused
  on_pass_on f code (Some h) = holds (λ w r o t. t)

  on_new_session : (ρ : Role) (f : Frame) (h : ℕ) (l : Option (List ℕ)) → Fine false (new_session ρ f h l)
  on_new_session dialler f h l = refused
  on_new_session listener f h None = refused
  on_new_session listener f h (Some []) = refused
  on_new_session listener f h (Some (ch ∷ rest)) = holds (λ w r o t. t)

  on_begun : (f : Frame) (h : ℕ) (rs : List ℕ) → Fine false (begun role c f h rs)
  on_begun f h [] = on_new_session role f h c.hand_out
  on_begun f h (r ∷ rs) = on_tie_to f r (c.taken r)

  on_performative : (f : Frame) (h : ℕ) (p : Performative) → Fine false (performative_read role S c f h p)
  on_performative f h p =
      on_cond _ (eqb p.code 24) _ _ (λ t. on_and_then _ _ (moved false true false read_close tt c.state) (λ x g. holds g))
      (on_cond _ (is Discarding c.state) _ _ (λ t. holds (λ w r o t. t))
      (on_cond _ (eqb p.code 16) _ _ (λ t. on_and_then _ _ (moved false false false read_open tt c.state) (λ x g. holds g))
      (on_require _ _ _ _ (λ t.
      on_cond _ (eqb p.code 17) _ _ (λ t. on_begun f h (remote_channel p))
      (on_cond _ (eqb p.code 23) _ _ (λ t. on_untie f (c.ties f.channel)) (on_pass_on f p.code (c.ties f.channel)))))))

  on_frame : (h : ℕ) (q : Frame × Option Performative) → Fine false (frame_read role S c h q)
  on_frame h (f, None) = holds (λ w r o t. t)
  on_frame h (f, Some p) = on_performative f h p

  on_closes : (e : Option ErrorText) → Holds (λ y. Tells c.state y true false false) (closes e c.state)
  on_closes None = moved true false false send_close tt c.state
  on_closes (Some e) = moved true false false send_close_with_error tt c.state

  on_tied_by : (ρ : Role) (rs : List ℕ) (n : ℕ) (o : Option ℕ) → Holds (λ e. (apply S e c).state ≡ c.state) (tied_by ρ rs n o)
  on_tied_by dialler rs n o = holds refl
  on_tied_by listener [] n o = holds refl
  on_tied_by listener (r ∷ rs) n None = refused
  on_tied_by listener (r ∷ rs) n (Some h) = holds refl

  on_sent : (s : List ℕ) (q : Frame × Performative) → Fine false (session_sent role c s q)
  on_sent s q =
      on_require _ _ _ _ (λ i.
      on_and_then _ _ (on_tied_by role (begins_for (eqb q.1.code 17) q.1) q.0.channel (c.taken q.0.channel)) (λ e same.
      on_any _ (limited c.writing_limit (session_bytes s q)) _ (λ bytes. holds (λ w r o t. subst (λ y. T (tells y w r o)) (sym same) t))))

  on_given : (h : ℕ) (l : Option (List ℕ)) → Fine false (given h l)
  on_given h None = refused
  on_given h (Some []) = refused
  on_given h (Some (ch ∷ rest)) = holds (λ w r o t. t)

  on_released : (ch : ℕ) (o : Option ℕ) → Fine false (released ch o)
  on_released ch None = refused
  on_released ch (Some h) = holds (λ w r o t. t)

  on_call : (call : Call) → Fine (sends_close call) (decide role S c call)
  on_call (send_header_to out) = on_require _ _ _ _ (λ t. on_and_then _ _ (moved false false false send_header tt c.state) (λ x g. holds g))
  on_call (receive_header_from s) = on_any _ (received s) _ on_headed
  on_call (send_open_to out) = on_require _ _ _ _ (λ t. on_and_then _ _ (moved false false false send_open tt c.state) (λ x g. on_any _ _ _ (λ bytes. holds g)))
  on_call (receive_frame s h) = on_any _ (read_frame c.reading_limit S.channel_max s) _ (on_frame h)
  on_call (send_close_to e out) = on_require _ _ _ _ (λ t. on_require _ _ _ _ (λ u. on_and_then _ _ (on_closes e) (λ x g. on_any _ _ _ (λ bytes. holds g))))
  on_call (send_session_frame s out) = on_require _ _ _ _ (λ t. on_any _ (session_frame S.channel_max s) _ (on_sent s))
  on_call (allocate h) = on_require _ _ _ _ (λ t. on_given h c.hand_out)
  on_call (deallocate ch) = on_released ch (c.taken ch)
  on_call (tick out) =
      on_require _ _ _ _ (λ t. on_cond _ (is End c.state) _ _ (λ u. holds (λ w r o t. t)) (on_cond _ (is_one_of silent c.state) _ _ (λ u. holds (λ w r o t. t)) (holds (λ w r o t. t))))

  -- a call, refused or not
  told_after :
      (call : Call) {v : Verdict Outcome} → Fine (sends_close call) v
      → Tells c.state (after S v c).state (passes (λ call a. sends_close call) call v) (passes (λ call a. is_closed a) call v) (passes (λ call a. is_other a) call v)
  told_after call refused = λ w r o t. t
  told_after call (holds g) = g

-- ---- lists of calls

or_later : (first later before : Bool) → later || (first || before) ≡ (first || later) || before
or_later true true b = refl
or_later true false b = refl
or_later false l b = refl

or_false : (b : Bool) → b || false ≡ b
or_false true = refl
or_false false = refl

same_told : (x : State) {w w' r r' o o' : Bool} → w ≡ w' → r ≡ r' → o ≡ o' → T (tells x w r o) → T (tells x w' r' o')
same_told x {w} {w'} {r} {r'} {o} {o'} p q s t = subst (λ b. T (tells x w' r' b)) s (subst (λ b. T (tells x w' b o)) q (subst (λ b. T (tells x b r o)) p t))

module _ (role : Role) (S : Settings) where
  told_run :
      (calls : List Call) (c : Connection)
      → Tells c.state (run role S c calls).state (wrote_close role S c calls) (read_peer_close role S c calls) (met_other role S c calls)
  told_run [] c w r o t = t
  told_run (call ∷ calls) c w r o t =
      same_told (run role S (next role S c call) calls).state
      (or_later (passes (λ call a. sends_close call) call (decide role S c call)) (wrote_close role S (next role S c call) calls) w)
      (or_later (passes (λ call a. is_closed a) call (decide role S c call)) (read_peer_close role S (next role S c call) calls) r)
      (or_later (passes (λ call a. is_other a) call (decide role S c call)) (met_other role S (next role S c call) calls) o)
      (told_run calls (next role S c call) _ _ _ (told_after role S c call (on_call role S c call) w r o t))

  -- of a connection that was fresh
  pub told : (calls : List Call) → T (tells (run role S fresh calls).state (wrote_close role S fresh calls) (read_peer_close role S fresh calls) (met_other role S fresh calls))
  told calls =
      same_told (run role S fresh calls).state (or_false (wrote_close role S fresh calls)) (or_false (read_peer_close role S fresh calls)) (or_false (met_other role S fresh calls))
      (told_run calls fresh false false false tt)

-- ---- and so, state by state

is_true : (b : Bool) → T b → b ≡ true
is_true true t = refl
is_true false t = absurd t

-- the states between a Close that was written and the peer's
abbrev pub closing : List State
closing = OpenClosePipe ∷ ClosePipe ∷ CloseSent ∷ Discarding ∷ []

told_written : (x : State) (w r o : Bool) → T (is_one_of closing x) → T (tells x w r o) → T w
told_written x true r o u t = tt
told_written x false r o u t = implied (tells x false r o) false (one_of (λ y. cond (tells y false r o) false true) closing tt x u) t

told_unread : (x : State) (w r o : Bool) → T (is_one_of closing x) → T (tells x w r o) → r ≡ false
told_unread x w true o u t = absurd (implied (tells x w true o) false (one_of (λ y. cond (tells y w true o) false true) closing (none_read w) x u) t)
  where
    none_read : (w : Bool) → T (each (λ y. cond (tells y w true o) false true) closing)
    none_read true = tt
    none_read false = tt
told_unread x w false o u t = refl

told_end : (w r o : Bool) → T (tells End w r o) → ((w ≡ true) × (r ≡ true)) ⊎ (o ≡ true)
told_end w r true t = inr refl
told_end w r false t = inl (is_true w (and_left w r t), is_true r (and_right w r t))

module _ (role : Role) (S : Settings) (calls : List Call) where
  -- OpenClosePipe, ClosePipe, CloseSent, Discarding: a Close was written
  pub closing_written : T (is_one_of closing (run role S fresh calls).state) → wrote_close role S fresh calls ≡ true
  closing_written u =
      is_true (wrote_close role S fresh calls)
      (told_written (run role S fresh calls).state (wrote_close role S fresh calls) (read_peer_close role S fresh calls) (met_other role S fresh calls) u (told role S calls))

  -- and none was read
  pub closing_unread : T (is_one_of closing (run role S fresh calls).state) → read_peer_close role S fresh calls ≡ false
  closing_unread u =
      told_unread (run role S fresh calls).state (wrote_close role S fresh calls) (read_peer_close role S fresh calls) (met_other role S fresh calls) u (told role S calls)

  -- CloseReceived: a Close was read
  pub received_read : (run role S fresh calls).state ≡ CloseReceived → read_peer_close role S fresh calls ≡ true
  received_read e =
      is_true (read_peer_close role S fresh calls)
      (and_left (read_peer_close role S fresh calls) (not (met_other role S fresh calls))
      (subst (λ x. T (tells x (wrote_close role S fresh calls) (read_peer_close role S fresh calls) (met_other role S fresh calls))) e (told role S calls)))

  -- End: a Close was written and one was read, or another protocol's header was met
  pub end_both :
      (run role S fresh calls).state ≡ End → ((wrote_close role S fresh calls ≡ true) × (read_peer_close role S fresh calls ≡ true)) ⊎ (met_other role S fresh calls ≡ true)
  end_both e =
      told_end (wrote_close role S fresh calls) (read_peer_close role S fresh calls) (met_other role S fresh calls)
      (subst (λ x. T (tells x (wrote_close role S fresh calls) (read_peer_close role S fresh calls) (met_other role S fresh calls))) e (told role S calls))
