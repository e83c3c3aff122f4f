-- A session's frame that goes out: what each return of the functions shows, with the facts as they come.
-- Assumes nothing.
use mathlib.Core.Path.{◌≡◌, refl, sym, ap, ◌∙◌, subst}
use mathlib.Core.Bool.{Bool, true, false, cond, and-eq-true_iff}
use mathlib.Core.List.{List, [], ◌∷◌}
use Rattle.std.specs.Prelude.{Option, None, Some, Result, Ok, Err}
use Prim.Native.Nat.{ℕ, suc, ◌<◌, ◌≤◌}
use native.Mathlib.Omega.{arith}
use types.Run.{OneOf, miss}
use denote.Enum.Declared.{tag_of}
use lib.ListN.{length}
use lib.Dec.{leb, eqb}
use borrow.Author.Tests.{leb-true, eqb-true}
use Rattle.octets.specs.Verdict.{Verdict, refuse, accept, and_then}
use Rattle.octets.specs.Output.{room_for, laid, counted, Wrote}
use Rattle.octets.specs.Refusal.{number_of, judged}
use Rattle.octets.specs.declared.Refusal.{Refusal}
use Rattle.octets.specs.declared.Refusal.TheVariants.{NoRoom, IllegalState, NotFound}
use Rattle.octets.proofs.Laws.{require_on, require_off, then_accept, then_refuse, room_yes, room_no}
use Rattle.values.proofs.Apart.{then_was}
use Rattle.performatives.specs.declared.Performative as P
use Rattle.performatives.specs.declared.Performative.TheVariants.{Open, Begin, Attach, Flow, Transfer, Disposition, Detach, End, Close}
use Rattle.performatives.specs.Performative.{Performative, Said, said, values_in, values_of}
use Rattle.performatives.specs.Answers.{performative_says}
use Rattle.performatives.specs.contracts.Performative.{the_type as performative_type}
use Rattle.frame_decoder.specs.declared.Frame as F
use Rattle.frame_decoder.specs.declared.Frame.TheVariants.{Empty, Body}
use Rattle.frame_decoder.specs.Frame.{Frame, FrameSaid, within, begins_for, session_frame, session_said}
use Rattle.frame_decoder.specs.Answers.{ending_at, frame_says, session_answer}
use Rattle.frame_decoder.proofs.Laws.{session_sendable}
use Rattle.frame_encoder.specs.Frames.{limited}
use Rattle.session_frame.specs.Session.{session_bytes, write_session}
use Rattle.connection_state.specs.States.{State, is_one_of, sending}
use Rattle.connection_model.specs.Connection as M
use Rattle.connection_model.specs.Connection.{Effect, Outcome, Answer, stay, tie, wrote, writes, tied_by, session_sent, send_session_frame, decide, answered, after, written}
use Rattle.channels.specs.Ties.{Tie, tie_of}
use Rattle.channels.specs.Lists.{Changes}
use Rattle.channels.proofs.Limits.{apart}
use Rattle.endpoint.specs.declared.Role.TheVariants.{Dialler, Listener}
use Rattle.endpoint.specs.declared.Endpoint.{Endpoint}
use Rattle.endpoint.specs.declared.SessionSent.{SessionSent}
use Rattle.endpoint.specs.declared.OutgoingTie.{OutgoingTie}
use Rattle.endpoint.specs.Answers.{Whole, whole, role_says, role_of, settings_of, places_of, taken_of, view_as, sent_says, tie_says, tied_says}
use Rattle.endpoint.specs.Promises.{Sound, Send}
use Rattle.endpoint.specs.Outgoing.{Low, AsksTie, Ties, writes_with}
use Rattle.endpoint.proofs.Basics.{same_all, stays, taken_within, retied, retied_sound, retied_same}

-- ---- outgoing_tie

-- the remote-channel of a Begin; nothing of another performative
abbrev pub named : P.Performative → List ℕ
named p = cond (eqb (performative_says p).0 17) (performative_says p).1 []

unnamed : (role : M.Role) (ch : ℕ) (h : Option ℕ) → accept stay ≡ tied_by role [] ch h
unnamed M.dialler ch h = refl
unnamed M.listener ch h = refl

other_names : (p : P.Performative) → OneOf (0 ∷ 2 ∷ 3 ∷ 4 ∷ 5 ∷ 6 ∷ 7 ∷ 8 ∷ []) (tag_of performative_type p) → named p ≡ []
other_names (Open a b c) h = refl
other_names (Begin r) h = absurd (miss (0 ∷ 2 ∷ 3 ∷ 4 ∷ 5 ∷ 6 ∷ 7 ∷ 8 ∷ []) 1 tt h)
other_names Attach h = refl
other_names Flow h = refl
other_names Transfer h = refl
other_names Disposition h = refl
other_names (Detach e) h = refl
other_names (End e) h = refl
other_names (Close e) h = refl

module _ (self : Endpoint) (t : List ℕ) (channel : ℕ) (p : P.Performative) where
  asks_none : (id : List ℕ) → accept stay ≡ tied_by (role_of (whole self t id)) (named p) channel (taken_of (whole self t id) channel) → AsksTie (whole self t id) channel (named p) (Ok None)
  asks_none id q = record { asks = λ i. q; only_named = λ to z. apart (cc); of_channels = λ to z. apart (cc) }

  pub tie_dialler : self.role ≡ Dialler → (id : List ℕ) → AsksTie (whole self t id) channel (named p) (Ok None)
  tie_dialler e id = asks_none id (sym (ap (λ x. tied_by (role_says x) (named p) channel (taken_of (whole self t id) channel)) e))

  none_named : named p ≡ [] → (id : List ℕ) → AsksTie (whole self t id) channel (named p) (Ok None)
  none_named e id =
      asks_none id
      (unnamed (role_of (whole self t id)) channel (taken_of (whole self t id) channel) ∙ sym (ap (λ l. tied_by (role_of (whole self t id)) l channel (taken_of (whole self t id) channel)) e))

  pub tie_other : OneOf (0 ∷ 2 ∷ 3 ∷ 4 ∷ 5 ∷ 6 ∷ 7 ∷ 8 ∷ []) (tag_of performative_type p) → (id : List ℕ) → AsksTie (whole self t id) channel (named p) (Ok None)
  tie_other h = none_named (other_names p h)

  module _ (remote : Option ℕ) (b : p ≡ Begin remote) where
    pub tie_unnamed : remote ≡ None → (id : List ℕ) → AsksTie (whole self t id) channel (named p) (Ok None)
    tie_unnamed a = none_named (rw (b, a))

    module _ (role : self.role ≡ Listener) (r : ℕ) (is : remote ≡ Some r) (a : Option ℕ) (f : (id : List ℕ) → Sound (whole self t id) → a ≡ taken_of (whole self t id) channel) where
      names_one : named p ≡ r ∷ []
      names_one = rw (b, is)

      asked : (id : List ℕ) → Sound (whole self t id) → (o : Option ℕ) → a ≡ o → tied_by M.listener (r ∷ []) channel o ≡ tied_by (role_of (whole self t id)) (named p) channel (taken_of (whole self t id) channel)
      asked id i o q = rw (role, names_one, ← f id i, q)

      pub tie_not : a ≡ None → (id : List ℕ) → AsksTie (whole self t id) channel (named p) (Err NotFound)
      tie_not q id = record { asks = λ i. asked id i None q; only_named = λ to z. apart (cc); of_channels = λ to z. apart (cc) }

      pub tie_to_lem : (h : ℕ) → a ≡ Some h → (id : List ℕ) → AsksTie (whole self t id) channel (named p) (Ok (Some (record { incoming = r; outgoing = channel; handle = h })))
      tie_to_lem h q id = record {
        asks = λ i. asked id i (Some h) q;
        only_named = λ to z. let y : record { incoming = r; outgoing = channel; handle = h } ≡ to = cc in ([], names_one ∙ ap (λ (x : OutgoingTie). x.incoming ∷ []) y);
        of_channels = λ to z i.
            let y : record { incoming = r; outgoing = channel; handle = h } ≡ to = cc in
            subst (λ (x : OutgoingTie). x.outgoing < places_of self) y (taken_within (whole self t id) i channel h (sym (f id i) ∙ q));
      }

-- ---- make_tie

pub tied_not : (self : Endpoint) (t : List ℕ) (wanted : Option OutgoingTie) → wanted ≡ None → (id : List ℕ) → Ties (whole self t id) wanted (whole self t id)
tied_not self t wanted q id = record { ties = λ i x. rw q; ties_sound = λ i. i; ties_same = same_all (whole self t id) }

pub tied_to :
    (self : Endpoint) (t t' : List ℕ) (wanted : Option OutgoingTie) → Low self t wanted → (to : OutgoingTie) → wanted ≡ Some to → {m : ℕ} → m ≡ self.local_open.channel_max
    → Changes (suc m) to.incoming (Some (tie_of to.outgoing to.handle)) t t' → (id : List ℕ) → Ties (whole self t id) wanted (whole self t' id)
tied_to self t t' wanted l to q own c id =
    let v : Option Tie = Some (tie_of to.outgoing to.handle) in
    let low = l.low to q in
    let through = l.through_low to q id in
    record {
      ties = λ i x. retied self t t' id to.incoming v own low through c i x ∙ ap (λ y. M.apply (settings_of (whole self t id)) (tie_says y) (view_as x (whole self t id))) (sym q);
      ties_sound = retied_sound self t t' id to.incoming v own low through c;
      ties_same = retied_same self t t' id to.incoming v own low through c;
    }

-- ---- a refusal

sends_not :
    {rule : Verdict Outcome} (e : Endpoint) (t id : List ℕ) (r : SessionSent) (k : Refusal) (out : List ℕ)
    → (Sound (whole e t id) → rule ≡ refuse (number_of k)) → (r.answer ≡ Err k) × (r.endpoint ≡ e) → Send rule (whole e t id) (sent_says r.answer) (whole r.endpoint t id) out out
unfolding laid
sends_not e t id r k out p n = record {
  step = stays p (ap sent_says n.0) (ap (λ x. whole x t id) n.1);
  output = λ i. rw (p i);
  output_refused = λ j q. refl;
}

-- ---- write_tied

-- what a rule for bytes comes to, by what was answered
not_counted : (v : Verdict (List ℕ)) (k : Refusal) → judged (Err k) ≡ counted v → v ≡ refuse (number_of k)
unfolding counted
not_counted (refuse j) k e = cc
not_counted (accept bytes) k e = apart (cc)

is_counted : (v : Verdict (List ℕ)) (n : ℕ) → judged (Ok n) ≡ counted v → (bytes : List ℕ) × (v ≡ accept bytes) × (n ≡ length bytes)
unfolding counted
is_counted (refuse j) n e = apart (cc)
is_counted (accept bytes) n e = (bytes, refl, cc)

module _ (self : Endpoint) (t : List ℕ) (to : Option OutgoingTie) (v : Verdict (List ℕ)) (a : Result ℕ Refusal) (out o : List ℕ) (w : Wrote v a out o) where
  pub writes_not : (k : Refusal) → a ≡ Err k → (id : List ℕ) → Send (writes_with (tie_says to) v) (whole self t id) (sent_says a) (whole self t id) out o
  unfolding laid writes_with
  writes_not k q id =
      let e : v ≡ refuse (number_of k) = not_counted v k (sym (ap judged q) ∙ w.answer) in
      let l : o ≡ out = w.output ∙ rw e in
      let rule : writes_with (tie_says to) v ≡ refuse (number_of k) = then_refuse v _ (number_of k) e in
      let s : Send (writes_with (tie_says to) v) (whole self t id) (sent_says a) (whole self t id) out out = sends_not self t id (record { answer = a; endpoint = self }) k out (λ i. rule) (q, refl) in
      subst (λ (x : List ℕ). Send (writes_with (tie_says to) v) (whole self t id) (sent_says a) (whole self t id) out x) (sym l) s

  pub writes_yes :
      (n : ℕ) → a ≡ Ok n → (t' : List ℕ) → ((id : List ℕ) → Ties (whole self t id) to (whole self t' id))
      → (id : List ℕ) → Send (writes_with (tie_says to) v) (whole self t id) (accept (wrote n)) (whole self t' id) out o
  unfolding writes_with
  writes_yes n q t' makes-it id =
      let made = makes-it id in
      let b = is_counted v n (sym (ap judged q) ∙ w.answer) in
      let rule : writes_with (tie_says to) v ≡ writes b.0 (tie_says to) = then_accept v _ b.0 b.1 in
      record {
        step = record {
          says = λ i. ap (λ (j : ℕ). accept (wrote j)) b.2 ∙ sym (ap answered rule);
          leaves = λ i x. made.ties i x ∙ sym (ap (λ (y : Verdict Outcome). after (settings_of (whole self t id)) y (view_as x (whole self t id))) rule);
          sound = made.ties_sound;
          same = made.ties_same;
          refused = λ k z. apart (cc);
        };
        output = λ i. w.output ∙ ap (λ (y : Verdict (List ℕ)). laid y out) (b.1 ∙ sym (ap written rule));
        output_refused = λ k z. apart (cc);
      }

-- ---- a session's frame that was read

-- of a Begin the values are its remote-channel
begin_values : (x : Performative) (b : Bool) → eqb x.code 17 ≡ b → begins_for b x ≡ cond b (values_of x) []
unfolding values_of values_in
begin_values x false e = refl
begin_values x true e = rw (eqb-true x.code 17 e)

record Read (highest : ℕ) (s : List ℕ) (channel : ℕ) (p : P.Performative) : Type 0 where
  pub read : Frame × Performative
  pub is : session_frame highest s ≡ accept read
  pub on : read.0.channel ≡ channel
  pub names : begins_for (eqb read.1.code 17) read.1 ≡ named p
  pub known : within highest (named p) ≡ true

said_not : (v : Verdict (Frame × Performative)) (k : ℕ) → and_then v (λ r. accept (session_said r)) ≡ refuse k → v ≡ refuse k
unfolding and_then
said_not (refuse j) k e = cc
said_not (accept r) k e = apart (cc)

said_body : (v : Verdict (Frame × Performative)) (x : FrameSaid) → and_then v (λ r. accept (session_said r)) ≡ accept x → (r : Frame × Performative) × (v ≡ accept r) × (session_said r ≡ x)
said_body v x e = let a = then_was v _ x e in (a.0, a.1, cc)

unread : (highest : ℕ) (s : List ℕ) (f : F.Frame) → frame_says (Ok f) ≡ session_answer highest s → ((c z b : ℕ) (p : P.Performative) (n : ℕ) → f ≡ Body c z b p n → ⊥) → {A : Type 0} → A
unfolding session_answer
unread highest s (Empty c z b) e o =
    let a = said_body (session_frame highest s) _ (sym e) in
    let w : ◌≡◌ {A = Option Said} (Some (said a.0.1)) None = ap (λ (x : FrameSaid). x.content) a.2 in
    apart (cc)
unread highest s (Body c z b p n) e o = absurd (o c z b p n refl)

refused_as : (highest : ℕ) (s : List ℕ) (f : Result F.Frame Refusal) → frame_says f ≡ session_answer highest s → (k : Refusal) → f ≡ Err k → session_frame highest s ≡ refuse (number_of k)
unfolding session_answer
refused_as highest s f e k q = said_not (session_frame highest s) (number_of k) (sym e ∙ ap frame_says q)

within_known : (highest : ℕ) (x : Performative) (b : Bool) → eqb x.code 17 ≡ b → (x.code ≡ 17 → within highest (begins_for true x) ≡ true) → within highest (begins_for b x) ≡ true
within_known highest x true e h = h (eqb-true x.code 17 e)
within_known highest x false e h = refl

was_read : (highest : ℕ) (s : List ℕ) (f : Result F.Frame Refusal) → frame_says f ≡ session_answer highest s → (g : F.Frame) → f ≡ Ok g → (channel size from : ℕ) (p : P.Performative) (end : ℕ) → g ≡ Body channel size from p end → Read highest s channel p
unfolding session_answer
was_read highest s f e g is channel size from p end q =
    let a = said_body (session_frame highest s) (record { size = size; channel = channel; from = from; content = Some (ending_at end p) }) (sym e ∙ ap frame_says (is ∙ ap (λ (x : F.Frame). Ok x) q)) in
    let d : ◌≡◌ {A = Option Said} (Some (said a.0.1)) (Some (ending_at end p)) = ap (λ (y : FrameSaid). y.content) a.2 in
    let c : said a.0.1 ≡ ending_at end p = cc in
    let n : a.0.1.code ≡ (performative_says p).0 = ap (λ (y : Said). y.code) c in
    let v : values_of a.0.1 ≡ (performative_says p).1 = ap (λ (y : Said). y.values) c in
    let b : begins_for (eqb a.0.1.code 17) a.0.1 ≡ named p = begin_values a.0.1 (eqb a.0.1.code 17) refl ∙ rw (v, n) in
    record {
      read = a.0;
      is = a.1;
      on = ap (λ (y : FrameSaid). y.channel) a.2;
      names = b;
      known = sym (ap (within highest) b) ∙ within_known highest a.0.1 (eqb a.0.1.code 17) refl (session_sendable highest s a.0 a.1).begins;
    }

-- ---- send

-- the channel that a frame ties is one of those that its reading allows
pub send_low :
    (self : Endpoint) (t s : List ℕ) (highest : ℕ) → highest ≡ self.local_open.channel_max → (f : Result F.Frame Refusal) → frame_says f ≡ session_answer highest s
    → (g : F.Frame) → f ≡ Ok g → (channel size from : ℕ) (p : P.Performative) (end : ℕ) → g ≡ Body channel size from p end
    → {found : Result (Option OutgoingTie) Refusal} → ((id : List ℕ) → AsksTie (whole self t id) channel (named p) found) → (wanted : Option OutgoingTie) → found ≡ Ok wanted → Low self t wanted
send_low self t s highest m f e g is-ok channel size from p end q asked wanted is = record {
  low = λ to z.
      let r = (asked []).only_named to (is ∙ ap (λ (y : Option OutgoingTie). Ok y) z) in
      let y : within highest (to.incoming ∷ r.0) ≡ true = sym (ap (within highest) r.1) ∙ (was_read highest s f e g is-ok channel size from p end q).known in
      omega (arith, leb-true to.incoming highest ((and-eq-true_iff (leb to.incoming highest) (within highest r.0)).0 y).0);
  through_low = λ to z id i. (asked id).of_channels to (is ∙ ap (λ (y : Option OutgoingTie). Ok y) z) i;
}

-- an equal rule, where the tables are sound
sends_as :
    {rule other : Verdict Outcome} {before later : Whole} {a : Verdict Answer} {out out' : List ℕ}
    → (Sound before → rule ≡ other) → Send other before a later out out' → Send rule before a later out out'
sends_as {before = w} {out = out} p s = record {
  step = record {
    says = λ i. s.step.says i ∙ sym (ap answered (p i));
    leaves = λ i x. s.step.leaves i x ∙ sym (ap (λ r. after (settings_of w) r (view_as x w)) (p i));
    sound = s.step.sound;
    same = s.step.same;
    refused = s.step.refused;
  };
  output = λ i. s.output i ∙ sym (ap (λ r. laid (written r) out) (p i));
  output_refused = s.output_refused;
}

module _ (self : Endpoint) (t : List ℕ) (x : State) (s out : List ℕ) where
  abbrev rule : List ℕ → Verdict Outcome
  rule id = decide (role_of (whole self t id)) (settings_of (whole self t id)) (view_as x (whole self t id)) (send_session_frame s out)

  pub send_small :
      (r : SessionSent) → length out < 16384 → (r.answer ≡ Err NoRoom) × (r.endpoint ≡ self)
      → (id : List ℕ) → Send (rule id) (whole self t id) (sent_says r.answer) (whole r.endpoint t id) out out
  send_small r h n id = sends_not self t id r NoRoom out (λ i. require_off 9 _ _ (room_no 0 out (omega arith))) n

  module _ (room : 16384 ≤ length out) (highest : ℕ) (m : highest ≡ self.local_open.channel_max) (f : Result F.Frame Refusal) (e : frame_says f ≡ session_answer highest s) where
    roomy : room_for 0 out ≡ true
    roomy = room_yes 0 out (omega arith)

    frame_first : (id : List ℕ) → rule id ≡ and_then (session_frame highest s) (session_sent (role_of (whole self t id)) (view_as x (whole self t id)) s)
    frame_first id = require_on 9 _ _ roomy ∙ rw m

    pub send_unread :
        (r : SessionSent) (k : Refusal) → f ≡ Err k → (r.answer ≡ Err k) × (r.endpoint ≡ self)
        → (id : List ℕ) → Send (rule id) (whole self t id) (sent_says r.answer) (whole r.endpoint t id) out out
    send_unread r k q n id = sends_not self t id r k out (λ i. frame_first id ∙ then_refuse (session_frame highest s) _ (number_of k) (refused_as highest s f e k q)) n

    pub send_bare :
        (r : SessionSent) (g : F.Frame) → f ≡ Ok g → ((c z b : ℕ) (p : P.Performative) (n : ℕ) → g ≡ Body c z b p n → ⊥)
        → (id : List ℕ) → Send (rule id) (whole self t id) (sent_says r.answer) (whole r.endpoint t id) out out
    send_bare r g q o = unread highest s g (sym (ap frame_says q) ∙ e) o

    module _ (g : F.Frame) (is-ok : f ≡ Ok g) (channel size from : ℕ) (p : P.Performative) (end : ℕ) (q : g ≡ Body channel size from p end) (sends : Bool) (legal : sends ≡ is_one_of sending x) where
      state_next : (id : List ℕ) → rule id ≡ session_sent (role_of (whole self t id)) (view_as x (whole self t id)) s (was_read highest s f e g is-ok channel size from p end q).read
      state_next id =
          let y = was_read highest s f e g is-ok channel size from p end q in
          frame_first id ∙ then_accept (session_frame highest s) _ y.read y.is

      pub send_20 :
          (r : SessionSent) → sends ≡ false → (r.answer ≡ Err IllegalState) × (r.endpoint ≡ self)
          → (id : List ℕ) → Send (rule id) (whole self t id) (sent_says r.answer) (whole r.endpoint t id) out out
      send_20 r b n id = sends_not self t id r IllegalState out (λ i. state_next id ∙ require_off 20 _ _ (sym legal ∙ b)) n

      module _ (b : sends ≡ true) {found : Result (Option OutgoingTie) Refusal} (asked : (id : List ℕ) → AsksTie (whole self t id) channel (named p) found) where
        asked_next : (id : List ℕ) → Sound (whole self t id) → rule id ≡ and_then (tied_says found) (λ x. writes_with x (limited self.writing_limit (session_bytes s (was_read highest s f e g is-ok channel size from p end q).read)))
        unfolding writes_with
        asked_next id i =
            let r = was_read highest s f e g is-ok channel size from p end q in
            let same : tied_by (role_of (whole self t id)) (begins_for (eqb r.read.1.code 17) r.read.1) r.read.0.channel (taken_of (whole self t id) r.read.0.channel) ≡ tied_says found =
            rw (r.names, r.on) (sym ((asked id).asks i)) in
            state_next id
            ∙ require_on 20 _ _ (sym legal ∙ b)
            ∙ ap (λ (y : Verdict Effect). and_then y (λ e. and_then (limited self.writing_limit (session_bytes s r.read)) (λ bytes. writes bytes e))) same

        pub send_untied :
            (r : SessionSent) (k : Refusal) → found ≡ Err k → (r.answer ≡ Err k) × (r.endpoint ≡ self)
            → (id : List ℕ) → Send (rule id) (whole self t id) (sent_says r.answer) (whole r.endpoint t id) out out
        send_untied r k z n id = sends_not self t id r k out (λ i. asked_next id i ∙ then_refuse (tied_says found) _ (number_of k) (ap tied_says z)) n

        module _ (to : Option OutgoingTie) (is : found ≡ Ok to) where
          written_last : (id : List ℕ) → Sound (whole self t id) → rule id ≡ writes_with (tie_says to) (write_session highest s self.writing_limit out)
          unfolding write_session
          written_last id i =
              let r = was_read highest s f e g is-ok channel size from p end q in
              let bytes : write_session highest s self.writing_limit out ≡ limited self.writing_limit (session_bytes s r.read) =
              require_on 9 _ _ roomy ∙ then_accept (session_frame highest s) _ r.read r.is in
              asked_next id i
              ∙ then_accept (tied_says found) _ (tie_says to) (ap tied_says is)
              ∙ ap (writes_with (tie_says to)) (sym bytes)

          pub send_on :
              (a : Verdict Answer) (later : Endpoint) (t' o : List ℕ)
              → ((id : List ℕ) → Send (writes_with (tie_says to) (write_session highest s self.writing_limit out)) (whole self t id) a (whole later t' id) out o)
              → (id : List ℕ) → Send (rule id) (whole self t id) a (whole later t' id) out o
          send_on a later t' o w id = sends_as (written_last id) (w id)
