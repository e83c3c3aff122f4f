-- What every step of an endpoint is made of: a refusal, a move, and a tie that changes.
-- Assumes nothing.
use mathlib.Core.Path.{◌≡◌, refl, sym, ◌∙◌, ap, subst}
use mathlib.Core.List.{List}
use Rattle.std.specs.Prelude.{Option, Some}
use Prim.Native.Nat.{ℕ, suc, ◌<◌}
use native.Mathlib.Omega.{arith}
use Rattle.octets.specs.Verdict.{Verdict, refuse, accept}
use Rattle.connection_state.specs.States.{State}
use Rattle.connection_model.specs.Connection.{Answer, Outcome, connection, apply, tie, answered, after}
use Rattle.channels.specs.Numbers.{Map}
use Rattle.channels.specs.Channels.{agreed_says}
use Rattle.channels.specs.Ties.{Tie, Ties}
use Rattle.channels.specs.Lists.{LowTie, Changes}
use Rattle.channels.proofs.Limits.{apart}
use Rattle.channels.proofs.Kept.{hand_out_kept, taken_kept, numbers_kept}
use Rattle.channels.proofs.Laws.{taken_low}
use Rattle.endpoint.specs.declared.Endpoint.{Endpoint}
use Rattle.endpoint.specs.Answers.{Whole, whole, settings_of, places_of, taken_of, view_as}
use Rattle.endpoint.specs.Promises.{Sound, Same, Step}

abbrev pub agreed_of : Whole → Option ℕ
agreed_of w = agreed_says w.endpoint.outgoing

-- ---- what stays

pub alike :
    (x : State) {r r' w w' : ℕ} {a a' : Option ℕ} {l l' : Option (List ℕ)} {f f' : Map} {g g' : Ties}
    → r ≡ r' → w ≡ w' → a ≡ a' → l ≡ l' → f ≡ f' → g ≡ g' → connection x r w a l f g ≡ connection x r' w' a' l' f' g'
alike x p q s t u v = λ i. connection x (p i) (q i) (s i) (t i) (u i) (v i)

pub same_all : (w : Whole) → Same w w
same_all w = record { same_role = refl; same_settings = refl; same_long = refl; same_past = λ c. refl; still_counted = λ c. c }

-- ---- steps

-- the rule refuses, and the whole is handed back
pub stays :
    {rule : Verdict Outcome} {before later : Whole} {a : Verdict Answer} {k : ℕ}
    → (Sound before → rule ≡ refuse k) → a ≡ refuse k → later ≡ before → Step rule before a later
stays {before = w} p q r = record {
  says = λ i. q ∙ sym (ap answered (p i));
  leaves = λ i x. ap (view_as x) r ∙ sym (ap (λ v. after (settings_of w) v (view_as x w)) (p i));
  sound = subst (λ v. Sound w → Sound v) (sym r) (λ i. i);
  same = subst (Same w) (sym r) (same_all w);
  refused = λ k z. r;
}

-- the rule accepts an outcome with this answer, and the later whole is what its effect makes of the first
pub record Moves (rule : Verdict Outcome) (before : Whole) (a : Verdict Answer) (later : Whole) : Type 0 where
  pub outcome : Outcome
  pub accepts : rule ≡ accept outcome
  pub answers : a ≡ accept outcome.answer
  pub view : (x : State) → view_as x later ≡ apply (settings_of before) outcome.effect (view_as x before)
  pub still_sound : Sound later

-- where the outcome comes of the soundness
pub moves_as :
    {rule : Verdict Outcome} {before later : Whole} {a : Verdict Answer} {b : Answer}
    → a ≡ accept b → (Sound before → Moves rule before a later) → Same before later → Step rule before a later
moves_as {before = w} q m s = record {
  says = λ i. (m i).answers ∙ sym (ap answered (m i).accepts);
  leaves = λ i x. (m i).view x ∙ sym (ap (λ r. after (settings_of w) r (view_as x w)) (m i).accepts);
  sound = λ i. (m i).still_sound;
  same = s;
  refused = λ k z. apart (cc);
}

pub moves :
    {rule : Verdict Outcome} {before later : Whole} {a : Verdict Answer} (o : Outcome)
    → (Sound before → rule ≡ accept o) → a ≡ accept o.answer
    → (Sound before → (x : State) → view_as x later ≡ apply (settings_of before) o.effect (view_as x before))
    → (Sound before → Sound later) → Same before later → Step rule before a later
moves o p q v d s = moves_as q (λ i. record { outcome = o; accepts = p i; answers = q; view = v i; still_sound = d i }) s

-- an equal rule
pub same_rule : {rule other : Verdict Outcome} {before later : Whole} {a : Verdict Answer} → rule ≡ other → Step other before a later → Step rule before a later
same_rule p s = rw p s

-- ---- an incoming channel has another tie, or none

-- a taken channel is one of those that the peer may use
pub taken_within : (w : Whole) → Sound w → (ch h : ℕ) → taken_of w ch ≡ Some h → ch < places_of w.endpoint
taken_within w i ch h e = omega (arith, taken_low w.endpoint.outgoing w.tables i.numbers ch h e, i.most)

module _
    (e : Endpoint) (t t' id : List ℕ) {m : ℕ} (k : ℕ) (v : Option Tie) (own : m ≡ e.local_open.channel_max) (l : k < places_of e)
    (low : Sound (whole e t id) → LowTie (places_of e) v) (changed : Changes (suc m) k v t t') where
  c : Changes (places_of e) k v t t'
  c = subst (λ n. Changes (suc n) k v t t') own changed

  pub retied : Sound (whole e t id) → (x : State) → view_as x (whole e t' id) ≡ apply (settings_of (whole e t id)) (tie k v) (view_as x (whole e t id))
  retied i x =
      alike x refl refl refl (hand_out_kept (places_of e) e.outgoing t t' c.numbers) (taken_kept (places_of e) e.outgoing t t' c.numbers)
      (c.changes l (low i) i.listed).says

  pub retied_sound : Sound (whole e t id) → Sound (whole e t' id)
  retied_sound i = record {
    listed = (c.changes l (low i) i.listed).listed;
    most = i.most;
    numbers = numbers_kept (places_of e) e.outgoing t t' c.numbers i.numbers;
  }

  pub retied_same : Same (whole e t id) (whole e t' id)
  retied_same = record {
    same_role = refl;
    same_settings = refl;
    same_long = c.numbers.long;
    same_past = λ q. c.numbers.rest (places_of e) (omega arith);
    still_counted = λ q. q;
  }
