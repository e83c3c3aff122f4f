-- From a rule to a call: what a call does, when the definition has it come to this rule.
-- Assumes nothing.
use mathlib.Core.Path.{◌≡◌, refl, sym, ◌∙◌, ap, subst, subst₂}
use mathlib.Core.Bool.{true, false}
use mathlib.Core.List.{List, [], ◌∷◌}
use Rattle.std.specs.Prelude.{Result, Ok, Err}
use Prim.Native.Nat.{ℕ}
use native.Mathlib.Omega.{arith}
use Rattle.octets.specs.Verdict.{Verdict, refuse, accept}
use Rattle.octets.specs.Output.{laid}
use Rattle.octets.specs.declared.Refusal.{Refusal}
use Rattle.connection_model.specs.Connection.{Answer, Outcome, Call, Effect, decide, next, lent, answered, after, written, says, apply}
use Rattle.connection_model.specs.Sound.{Reached}
use Rattle.connection_model.proofs.Invariant.{reached_next}
use Rattle.channels.proofs.Kept.{covers_is}
use Rattle.connection_state.specs.declared.ConnectionState.{ConnectionState}
use Rattle.local_open.specs.Settings.{allowed}
use Rattle.endpoint.specs.Answers as A
use Rattle.endpoint.specs.Answers.{places_of}
use Rattle.endpoint.specs.Promises as E
use Rattle.endpoint.proofs.Basics.{same_all}
use Rattle.connection.specs.declared.Connection.{Connection}
use Rattle.connection.specs.View.{Whole, whole, endpoint_in, role_of, settings_of, view_of, Sound}
use Rattle.connection.specs.Promises.{Does, DoesIn, Reads, is_covered, room_of, moved_to, moved_if}

-- two numbers that are not the same
pub apart : {A : Type 0} → ◌≡◌ {A = ℕ} 0 1 → A
apart z = absurd (omega arith)

not_both : {A : Type 0} → true ≡ false → A
not_both e = apart (cc)

-- what the definition has a call come to
abbrev pub comes_to : Whole → Call → Verdict Outcome
comes_to w call = decide (role_of w) (settings_of w) (view_of w) call

-- ---- soundness

pub sound_next :
    (call : Call) (w v : Whole) → Sound w → E.Sound (endpoint_in v) → settings_of v ≡ settings_of w → view_of v ≡ next (role_of w) (settings_of w) (view_of w) call → Sound v
sound_next call w v z h e p = record {
  fine = subst (λ S. allowed S ≡ true) (sym e) z.fine;
  held = h;
  reached = subst₂ Reached (sym e) (sym p) (reached_next (role_of w) (settings_of w) (view_of w) call z.reached);
}

-- a sound one has a place for each channel
pub sound_covered : (w : Whole) → Sound w → is_covered w ≡ true
sound_covered w z = covers_is (places_of w.connection.endpoint) w.tables z.held.listed.covered

pub unsound : {A : Type 0} (w : Whole) → is_covered w ≡ false → Sound w → A
unsound w e z = not_both (sym (sound_covered w z) ∙ e)

-- ---- calls

pub does :
    (call : Call) (w v : Whole) (rule : Verdict Outcome) (a : Verdict Answer) (out : List ℕ) → (Sound w → comes_to w call ≡ rule) → (Sound w → a ≡ answered rule)
    → (Sound w → out ≡ laid (written rule) (lent call)) → (Sound w → view_of v ≡ after (settings_of w) rule (view_of w)) → (Sound w → E.Sound (endpoint_in v))
    → E.Same (endpoint_in w) (endpoint_in v) → ((k : ℕ) → a ≡ refuse k → (v ≡ w) × (out ≡ lent call)) → Does call w a out v
does call w v rule a out e p o l h s f = record {
  meets = λ z.
      let q = e z in
      let g : view_of v ≡ next (role_of w) (settings_of w) (view_of w) call = l z ∙ ap (λ u. after (settings_of w) u (view_of w)) (sym q) in
      record {
        draws = λ i. record { answer = (p z ∙ ap answered (sym q)) i; output = (o z ∙ ap (λ u. laid (written u) (lent call)) (sym q)) i };
        leaves = g;
        sound = sound_next call w v z (h z) s.same_settings g;
      };
  same = s;
  refused = f;
}

laid_not : (k : ℕ) (out : List ℕ) → out ≡ laid (refuse k) out
unfolding laid
laid_not k out = refl

pub same_as : (w v : Whole) → v ≡ w → E.Same (endpoint_in w) (endpoint_in v)
same_as w v q = subst (λ u. E.Same (endpoint_in w) (endpoint_in u)) (sym q) (same_all (endpoint_in w))

pub held_as : (w v : Whole) → v ≡ w → E.Sound (endpoint_in w) → E.Sound (endpoint_in v)
held_as w v q h = subst (λ u. E.Sound (endpoint_in u)) (sym q) h

-- a refusal leaves everything as it is
pub refuses : (call : Call) (w v : Whole) (k : ℕ) (a : Verdict Answer) (out : List ℕ) → (Sound w → comes_to w call ≡ refuse k) → a ≡ refuse k → v ≡ w → out ≡ lent call → Does call w a out v
refuses call w v k a out e p q o =
    does call w v (refuse k) a out e (λ z. p) (λ z. o ∙ laid_not k (lent call)) (λ z. ap view_of q) (λ z. held_as w v q z.held) (same_as w v q) (λ j u. (q, o))

-- ---- calls that are lent the tables

-- these are long enough
pub covered_does : (call : Call) (w v : Whole) (a : Verdict Answer) (out : List ℕ) → room_of call ≡ true → is_covered w ≡ true → Does call w a out v → DoesIn call w a out v
covered_does call w v a out m c d = record { does = d; roomless = λ n. not_both (sym m ∙ n); uncovered = λ r n. not_both (sym c ∙ n) }

-- the output is not, and is judged before them
pub roomless_does : (call : Call) (w v : Whole) (a : Verdict Answer) (out : List ℕ) → room_of call ≡ false → a ≡ refuse 9 → Does call w a out v → DoesIn call w a out v
roomless_does call w v a out m p d = record { does = d; roomless = λ n. p; uncovered = λ r n. not_both (sym r ∙ m) }

-- they are too short: 8, and nothing changes
pub uncovered_refuses : (call : Call) (w v : Whole) (a : Verdict Answer) (out : List ℕ) → room_of call ≡ true → is_covered w ≡ false → a ≡ refuse 8 → v ≡ w → out ≡ lent call → DoesIn call w a out v
uncovered_refuses call w v a out m n p q o = record {
  does = refuses call w v 8 a out (unsound w n) p q o;
  roomless = λ f. not_both (sym m ∙ f);
  uncovered = λ r u. p;
}

-- ---- what an endpoint did, of the connection

-- the connection in a state, with an endpoint and what that is lent
abbrev pub standing : ConnectionState → A.Whole → Whole
standing x w = whole (record { local_state = x; endpoint = w.endpoint }) w.tables w.id

pub stepped : (w : Whole) (rule : Verdict Outcome) (a : Verdict Answer) (v : A.Whole) → E.Step rule (endpoint_in w) a v → Reads rule w a (standing w.connection.local_state v)
stepped w rule a v s = record {
  reads_says = λ z. s.says z.held;
  reads_leaves = λ z. s.leaves z.held _;
  reads_held = λ z. s.sound z.held;
  reads_same = s.same;
  reads_refused = λ k p. ap (standing w.connection.local_state) (s.refused k p);
}

-- ---- calls that write nothing

-- a rule that has nothing written
pub record Quiet (rule : Verdict Outcome) : Type 0 where
  pub silent : [] ≡ laid (written rule) []

pub reads_does : (call : Call) (w v : Whole) (rule : Verdict Outcome) (a : Verdict Answer) → lent call ≡ [] → Quiet rule → (Sound w → comes_to w call ≡ rule) → Reads rule w a v → Does call w a [] v
reads_does call w v rule a l q e r =
    does call w v rule a [] e r.reads_says (λ z. q.silent ∙ ap (laid (written rule)) (sym l)) r.reads_leaves r.reads_held r.reads_same
    (λ k p. (r.reads_refused k p, sym l))

-- the rule refuses
pub refused_reads : (rule : Verdict Outcome) (w v : Whole) (k : ℕ) (a : Verdict Answer) → (Sound w → rule ≡ refuse k) → a ≡ refuse k → v ≡ w → Reads rule w a v
refused_reads rule w v k a e p q = record {
  reads_says = λ z. p ∙ sym (ap answered (e z));
  reads_leaves = λ z. ap view_of q ∙ sym (ap (λ u. after (settings_of w) u (view_of w)) (e z));
  reads_held = λ z. held_as w v q z.held;
  reads_same = same_as w v q;
  reads_refused = λ j u. q;
}

-- it accepts
pub accepted_reads :
    (rule : Verdict Outcome) (w v : Whole) (b : Answer) (x : Effect) → (Sound w → rule ≡ says b x) → (Sound w → view_of v ≡ apply (settings_of w) x (view_of w))
    → (Sound w → E.Sound (endpoint_in v)) → E.Same (endpoint_in w) (endpoint_in v) → Reads rule w (accept b) v
accepted_reads rule w v b x e l h s = record {
  reads_says = λ z. sym (ap answered (e z));
  reads_leaves = λ z. l z ∙ sym (ap (λ u. after (settings_of w) u (view_of w)) (e z));
  reads_held = h;
  reads_same = s;
  reads_refused = λ k u. apart (cc);
}

-- ---- a move of the state, that leaves endpoint and tables as they are

pub moved_held : (c d : Connection) (t id : List ℕ) (x : ConnectionState) → d ≡ moved_to c x → E.Sound (endpoint_in (whole c t id)) → E.Sound (endpoint_in (whole d t id))
moved_held c d t id x q h = subst (λ u. E.Sound (endpoint_in (whole u t id))) (sym q) h

pub moved_same : (c d : Connection) (t id : List ℕ) (x : ConnectionState) → d ≡ moved_to c x → E.Same (endpoint_in (whole c t id)) (endpoint_in (whole d t id))
moved_same c d t id x q = subst (λ u. E.Same (endpoint_in (whole c t id)) (endpoint_in (whole u t id))) (sym q) (same_all (endpoint_in (whole c t id)))

-- by what was written
pub moved_told : (c d : Connection) (a : Result ℕ Refusal) (n : ℕ) (x : ConnectionState) → a ≡ Ok n → d ≡ moved_to c x → d ≡ moved_if a c x
moved_told c d a n x o p = rw (o, p)

pub kept_told : (c : Connection) (a : Result ℕ Refusal) (e : Refusal) (x : ConnectionState) → a ≡ Err e → c ≡ moved_if a c x
kept_told c a e x o = rw o
