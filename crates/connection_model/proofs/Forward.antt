-- Connections with equal accounts are seen alike in every list of calls: each rule goes by what the account shows, wherever calls can lead to,
-- and a lawful effect keeps it so. A refusal changes nothing.
-- Assumes nothing.
use mathlib.Core.Path.{◌≡◌, refl, sym, ◌∙◌, ap, ap₂, subst, fun_ext}
use mathlib.Core.Logic.{◌⊎◌, inl, inr, ⊎_elim}
use mathlib.Core.Bool.{Bool, true, false, cond, not, ◌||◌}
use mathlib.Core.List.{List, [], ◌∷◌}
use Rattle.std.specs.Prelude.{Option, None, Some}
use Prim.Native.Nat.{ℕ, ◌≤◌}
use native.Mathlib.Omega.{arith}
use lib.Dec.{T, leb, eqb, leb→le, eqb→eq}
use Rattle.octets.specs.Verdict.{Verdict, refuse, accept, require, and_then}
use Rattle.octets.specs.Output.{room_for, laid}
use Rattle.protocol_header.specs.Header.{Protocol, amqp100, other, received}
use Rattle.performatives.specs.Performative.{Performative, remote_channel, max_frame_size, channel_max, idle_time_out, condition}
use Rattle.frame_decoder.specs.Frame.{Frame, read_frame, session_frame, begins_for}
use Rattle.frame_encoder.specs.Frames.{Settings, ErrorText, frame_bytes, limited, open_body, close_ok, close_body}
use Rattle.session_frame.specs.Session.{session_bytes}
use Rattle.connection_state.specs.States.{State, Opened, Discarding, is, is_one_of, send_open, send_close, send_close_with_error, reading, sending, stopped}
use Rattle.channels.specs.Numbers.{Map, with, freed_first}
use Rattle.channels.specs.Ties.{Ties, tie_of, dropped}
use Rattle.connection_model.specs.Connection.{has_error, Role, Connection, fresh, connection, Call, send_header_to, receive_header_from, send_open_to, receive_frame, send_close_to, send_session_frame, allocate, deallocate, tick, Effect, stay, go, agree, take, give, tie, take_and_tie, Outcome, nothing_to_do, says, apply, headed, untie, pass_on, begun, open_read, close_read, session_read, frame_read, closes, tied_by, session_sent, given, decide, lent, Seen, answered, written, seen, after, next, run, seen_in}
use Rattle.connection_model.specs.Account.{when, limits_show, account}
use Rattle.connection_model.proofs.Rules.{Holds, refused, holds, implied, one_of, everywhere, on_along, stage, Legit, Lawful, lawful, lends_any}
use Rattle.connection_model.specs.Sound.{Reached}
use Rattle.connection_model.proofs.Invariant.{early, untied_yet, reached}

-- ---- equal parts make equal rules

require_same : {A : Type 0} (k : ℕ) (b : Bool) (f g : Unit {0} → Verdict A) → (T b → f tt ≡ g tt) → require k b f ≡ require k b g
unfolding require
require_same k true f g e = e tt
require_same k false f g e = refl

then_same : {A B : Type 0} (v : Verdict A) (f g : A → Verdict B) → ((a : A) → f a ≡ g a) → and_then v f ≡ and_then v g
then_same v f g e = ap (and_then v) (fun_ext e)

then_known : {A B : Type 0} {Q : A → Type 0} {v : Verdict A} (f g : A → Verdict B) → Holds Q v → ((a : A) → Q a → f a ≡ g a) → and_then v f ≡ and_then v g
unfolding and_then
then_known f g refused e = refl
then_known f g (holds {a} q) e = e a q

-- ---- what the rules go by

unstopped : (x : State) → T (not (is_one_of stopped x)) → stage x ≤ 3
unstopped x t = leb→le _ _ (implied (not (is_one_of stopped x)) (leb (stage x) 3) (everywhere (λ y. cond (not (is_one_of stopped y)) (leb (stage y) 3) true) tt tt x) t)

-- two connections with one state, reading limit and taken channels; with one writing limit and hand-out list, unless nothing more is written; and with one map of ties, until the peer closes
module _ (x : State) (r : ℕ) (tk : Map) (w w' : ℕ) (m m' : Option ℕ) (l l' : Option (List ℕ)) (ti ti' : Ties)
    (writing : stage x ≤ 3 → w ≡ w') (list : stage x ≤ 3 → l ≡ l') (tied : stage x ≤ 2 → ti ≡ ti') (role : Role) (S : Settings) where
  abbrev here : Connection
  here = connection x r w m l tk ti

  abbrev there : Connection
  there = connection x r w' m' l' tk ti'

  same_headed : (p : Protocol) → headed here p ≡ headed there p
  same_headed amqp100 = refl
  same_headed (other h) = refl

  same_begun : (f : Frame) (h : ℕ) (rs : List ℕ) → stage x ≤ 3 → begun role here f h rs ≡ begun role there f h rs
  same_begun f h [] u = ap (λ o. begun role (connection x r w m o tk ti) f h []) (list u)
  same_begun f h (n ∷ rs) u = refl

  same_session : (f : Frame) (h code : ℕ) (rs : List ℕ) → session_read role here f h code rs ≡ session_read role there f h code rs
  same_session f h code rs =
      require_same 20 (is_one_of reading x) _ _ (λ t.
      let u : stage x ≤ 2 = leb→le _ _ (one_of (λ y. leb (stage y) 2) reading tt x t) in
      let v : stage x ≤ 3 = omega arith in
      ap₂ (λ a n. cond (eqb code 17) a (cond (eqb code 23) (untie f (n f.channel)) (pass_on f code (n f.channel))))
      (same_begun f h rs v) (tied u))

  same_frame : (h : ℕ) (q : Frame × Option Performative) → frame_read role S here h q ≡ frame_read role S there h q
  same_frame h (f, None) = refl
  same_frame h (f, Some p) =
      ap (λ v. cond (eqb p.code 24) (close_read here f (has_error (condition 0 p))) (cond (is Discarding x) (says (nothing_to_do f.size) stay) (cond (eqb p.code 16) (open_read S here f (max_frame_size p) (channel_max p) (idle_time_out p)) v)))
      (same_session f h p.code (remote_channel p))

  -- what is written within a limit
  same_limited : (f : List ℕ → Verdict Outcome) (bytes : List ℕ) → stage x ≤ 3 → and_then (limited w bytes) f ≡ and_then (limited w' bytes) f
  same_limited f bytes u = ap (λ n. and_then (limited n bytes) f) (writing u)

  same_sent : (s : List ℕ) (q : Frame × Performative) → session_sent role here s q ≡ session_sent role there s q
  same_sent s q =
      require_same 20 (is_one_of sending x) _ _ (λ t.
      let u : stage x ≤ 3 = leb→le _ _ (one_of (λ y. leb (stage y) 3) sending tt x t) in
      then_same (tied_by role (begins_for (eqb q.1.code 17) q.1) q.0.channel (tk q.0.channel)) _ _ (λ e. same_limited _ (session_bytes s q) u))

  -- no frame is written where a table leads no further
  going : (e : Option ErrorText) → Holds (λ y. T (leb (stage x) 3)) (closes e x)
  going None = on_along (λ a b. leb (stage a) 3) send_close tt x
  going (Some e) = on_along (λ a b. leb (stage a) 3) send_close_with_error tt x

  pub same_verdict : (call : Call) → decide role S here call ≡ decide role S there call
  same_verdict (send_header_to out) = refl
  same_verdict (receive_header_from s) = then_same (received s) _ _ same_headed
  same_verdict (send_open_to out) =
      require_same 9 (room_for 0 out) _ _ (λ t.
      then_known _ _ (on_along (λ a b. leb (stage a) 3) send_open tt x) (λ y u. same_limited _ (frame_bytes 0 (open_body S)) (leb→le _ _ u)))
  same_verdict (receive_frame s h) = then_same (read_frame r S.channel_max s) _ _ (same_frame h)
  same_verdict (send_close_to e out) =
      require_same 9 (room_for 0 out) _ _ (λ t. require_same 8 (close_ok e) _ _ (λ t'.
      then_known _ _ (going e) (λ y u. same_limited _ (frame_bytes 0 (close_body e)) (leb→le _ _ u))))
  same_verdict (send_session_frame s out) = require_same 9 (room_for 0 out) _ _ (λ t. then_same (session_frame S.channel_max s) _ _ (same_sent s))
  same_verdict (allocate h) = require_same 22 (not (is_one_of stopped x)) _ _ (λ t. ap (given h) (list (unstopped x t)))
  same_verdict (deallocate ch) = refl
  same_verdict (tick out) = refl

-- ---- connections that are alike

pub record Alike (c d : Connection) : Type 0 where
  pub state : c.state ≡ d.state
  pub reading : c.reading_limit ≡ d.reading_limit
  pub taken : c.taken ≡ d.taken
  pub writing : stage c.state ≤ 3 → c.writing_limit ≡ d.writing_limit
  pub list : stage c.state ≤ 3 → c.hand_out ≡ d.hand_out
  pub tied : stage c.state ≤ 2 → c.ties ≡ d.ties

module _ (role : Role) (S : Settings) where
  pub alike_verdict : {c d : Connection} → Alike c d → (call : Call) → decide role S c call ≡ decide role S d call
  alike_verdict {c} {d} a call =
      same_verdict c.state c.reading_limit c.taken c.writing_limit d.writing_limit c.agreed_max d.agreed_max c.hand_out d.hand_out c.ties d.ties
      a.writing a.list a.tied role S call
      ∙ (λ j. decide role S (connection (a.state j) (a.reading j) d.writing_limit d.agreed_max d.hand_out (a.taken j) d.ties) call)

  alike_effect : (H : ℕ → Type 0) (e : Effect) {c d : Connection} → Legit H S c e → Alike c d → Alike (apply S e c) (apply S e d)
  alike_effect H stay l a = a
  alike_effect H (go x) l a = record {
    state = refl;
    reading = a.reading;
    taken = a.taken;
    writing = λ u. a.writing (omega arith);
    list = λ u. a.list (omega arith);
    tied = λ u. a.tied (omega arith);
  }
  alike_effect H (agree x m w) l a = record {
    state = refl;
    reading = refl;
    taken = a.taken;
    writing = λ u. refl;
    list = λ u. refl;
    tied = λ u. a.tied (omega arith);
  }
  alike_effect H (take ch rest h) l a = record {
    state = a.state;
    reading = a.reading;
    taken = ap (λ f. with f ch (Some h)) a.taken;
    writing = a.writing;
    list = λ u. refl;
    tied = a.tied;
  }
  alike_effect H (give ch) l a = record {
    state = a.state;
    reading = a.reading;
    taken = ap (λ f. with f ch None) a.taken;
    writing = a.writing;
    list = λ u. ap (freed_first ch) (a.list u);
    tied = λ u. ap (dropped ch) (a.tied u);
  }
  alike_effect H (tie n t) l a = record {
    state = a.state;
    reading = a.reading;
    taken = a.taken;
    writing = a.writing;
    list = a.list;
    tied = λ u. ap (λ f. with f n t) (a.tied u);
  }
  alike_effect H (take_and_tie ch rest h n) l a = record {
    state = a.state;
    reading = a.reading;
    taken = ap (λ f. with f ch (Some h)) a.taken;
    writing = a.writing;
    list = λ u. refl;
    tied = λ u. ap (λ f. with f n (Some (tie_of ch h))) (a.tied u);
  }

  alike_after : (H : ℕ → Type 0) {c d : Connection} {v : Verdict Outcome} → Holds (Lawful H S c) v → Alike c d → Alike (after S v c) (after S v d)
  alike_after H refused a = a
  alike_after H (holds {a = o} l) a = alike_effect H o.effect l a

  -- after the same verdict on a call
  pub alike_by : {c d : Connection} → Alike c d → (call : Call) (v : Verdict Outcome) → decide role S c call ≡ v → Alike (after S v c) (after S v d)
  alike_by {c} {d} a call v q =
      subst (λ u. Alike (after S u c) (after S u d)) q (alike_after (λ h. Unit {0}) (lawful (λ h. Unit {0}) role S c call (lends_any call)) a)

  pub alike_next : {c d : Connection} → Alike c d → (call : Call) → Alike (next role S c call) (next role S d call)
  alike_next {c} {d} a call = subst (λ v. Alike (next role S c call) (after S v d)) (alike_verdict a call) (alike_by a call (decide role S c call) refl)

  pub alike_seen : {c d : Connection} → Alike c d → (call : Call) → seen role S c call ≡ seen role S d call
  alike_seen a call = ap (λ v. let s : Seen = record { answer = answered v; output = laid (written v) (lent call) } in s) (alike_verdict a call)

  pub alike_seen_in : (calls : List Call) {c d : Connection} → Alike c d → seen_in role S c calls ≡ seen_in role S d calls
  alike_seen_in [] a = refl
  alike_seen_in (call ∷ calls) a = ap₂ ◌∷◌ (alike_seen a call) (alike_seen_in calls (alike_next a call))

-- ---- equal accounts

shown_same : {A : Type 0} (b b' : Bool) (u v : A) → b ≡ b' → when b u ≡ when b' v → T b → u ≡ v
shown_same true true u v e p t = cc
shown_same true false u v e p t = cc
shown_same false b' u v e p t = absurd t

or_split : (a b : Bool) → T (a || b) → T a ⊎ T b
or_split true b t = inl tt
or_split false b t = inr t

-- what the account hides has its first value, as long as it matters
shows_or_first : (x : State) → stage x ≤ 3 → T (limits_show x) ⊎ (stage x ≡ 0)
shows_or_first x u =
    ⊎_elim inl (λ t. ⊎_elim (λ e. inr (eqb→eq (stage x) 0 e)) (λ g. let z : ⊥ = omega (arith, leb→le 4 (stage x) g) in absurd z) (or_split (eqb (stage x) 0) (leb 4 (stage x)) t))
    (or_split (limits_show x) (eqb (stage x) 0 || leb 4 (stage x)) (everywhere (λ y. limits_show y || (eqb (stage y) 0 || leb 4 (stage y))) tt tt x))

opened_or_before : (x : State) → stage x ≤ 2 → T (is Opened x) ⊎ (stage x ≤ 1)
opened_or_before x u =
    ⊎_elim inl (λ t. ⊎_elim (λ e. inr (leb→le (stage x) 1 e)) (λ g. let z : ⊥ = omega (arith, leb→le 3 (stage x) g) in absurd z) (or_split (leb (stage x) 1) (leb 3 (stage x)) t))
    (or_split (is Opened x) (leb (stage x) 1 || leb 3 (stage x)) (everywhere (λ y. is Opened y || (leb (stage y) 1 || leb 3 (stage y))) tt tt x))

module _ {S : Settings} {c d : Connection} (i : Reached S c) (j : Reached S d) (p : account c ≡ account d) where
  same_state : c.state ≡ d.state
  same_state = ap (λ a. a.state) p

  first_too : stage c.state ≡ 0 → stage d.state ≡ 0
  first_too e = sym (ap stage same_state) ∙ e

  pub accounts_alike : Alike c d
  accounts_alike = record {
    state = same_state;
    reading = ap (λ a. a.reading_limit) p;
    taken = ap (λ a. a.taken) p;
    writing = λ u. ⊎_elim
        (shown_same (limits_show c.state) (limits_show d.state) c.writing_limit d.writing_limit (ap limits_show same_state) (ap (λ a. a.writing_limit) p))
        (λ e. ap (λ a. a.writing_limit) (early i e) ∙ sym (ap (λ a. a.writing_limit) (early j (first_too e))))
        (shows_or_first c.state u);
    list = λ u. ⊎_elim
        (shown_same (limits_show c.state) (limits_show d.state) c.hand_out d.hand_out (ap limits_show same_state) (ap (λ a. a.hand_out) p))
        (λ e. ap (λ a. a.hand_out) (early i e) ∙ sym (ap (λ a. a.hand_out) (early j (first_too e))))
        (shows_or_first c.state u);
    tied = λ u. ⊎_elim
        (shown_same (is Opened c.state) (is Opened d.state) c.ties d.ties (ap (is Opened) same_state) (ap (λ a. a.ties) p))
        (λ e. untied_yet i e ∙ sym (untied_yet j (subst (λ x. stage x ≤ 1) same_state e)))
        (opened_or_before c.state u);
  }

  -- equal accounts are seen alike in every later list of calls
  pub forward : (role : Role) (calls : List Call) → seen_in role S c calls ≡ seen_in role S d calls
  forward role calls = alike_seen_in role S calls accounts_alike

pub forward_run :
    (role : Role) (S : Settings) (p q : List Call) → account (run role S fresh p) ≡ account (run role S fresh q)
    → (calls : List Call) → seen_in role S (run role S fresh p) calls ≡ seen_in role S (run role S fresh q) calls
forward_run role S p q e = forward (reached role S p) (reached role S q) e role

-- ---- refusals

-- a refusal leaves the connection and the lent output as they were
pub refusal_keeps : (role : Role) (S : Settings) (c : Connection) (call : Call) (k : ℕ) → decide role S c call ≡ refuse k → (next role S c call ≡ c) × ((seen role S c call).output ≡ lent call)
unfolding laid
refusal_keeps role S c call k e = (ap (λ v. after S v c) e, ap (λ v. laid (written v) (lent call)) e)

answered_refuse : (v : Verdict Outcome) (k : ℕ) → answered v ≡ refuse k → v ≡ refuse k
answered_refuse (refuse j) k e = let q : j ≡ k = cc in ap refuse q
answered_refuse (accept o) k e = cc

-- the same, of a refusal that a caller sees
pub refused_keeps : (role : Role) (S : Settings) (c : Connection) (call : Call) (k : ℕ) → (seen role S c call).answer ≡ refuse k → (next role S c call ≡ c) × ((seen role S c call).output ≡ lent call)
refused_keeps role S c call k e = refusal_keeps role S c call k (answered_refuse (decide role S c call) k e)
