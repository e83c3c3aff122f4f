-- From a rule to an event: what an event does, when the definition has it come to this rule; and what the connection's call inside it came to.
-- Assumes nothing.
use mathlib.Core.Path.{◌≡◌, refl, sym, ◌∙◌, ap, subst}
use mathlib.Core.Bool.{Bool, true, false, not}
use mathlib.Core.List.{List}
use Prim.Native.Nat.{ℕ}
use native.Mathlib.Omega.{arith}
use lib.ListN.{length}
use Rattle.octets.specs.Verdict.{Verdict, refuse, accept}
use Rattle.octets.specs.Output.{laid}
use Rattle.connection_model.specs.Connection as K
use Rattle.connection_model.specs.Connection.{Answer, Call, decide, apply, answered}
use Rattle.endpoint.specs.Promises as E
use Rattle.connection.specs.View as View
use Rattle.connection.specs.Promises as C
use Rattle.connection.proofs.Calls.{unsound, same_as}
use Rattle.engine_model.specs.Engine.{Event, Reply, Result, judge, replied, written, lent, landed, has_room}
use Rattle.engine.specs.Answers.{Whole, connection_in, role_of, settings_of, view_of, Sound}
use Rattle.engine.specs.Promises.{Does, DoesIn}
use Rattle.engine.proofs.Counted.{written_in, counted}

-- what the definition has an event come to
abbrev pub comes_to : Whole → Event → Verdict Result
comes_to e event = judge (role_of e) (settings_of e) (view_of e) event

pub does :
    (event : Event) (e d : Whole) (rule : Verdict Result) (r : Verdict Reply) (out : List ℕ) → (Sound e → comes_to e event ≡ rule) → (Sound e → r ≡ replied rule)
    → (Sound e → out ≡ laid (written rule) (lent event)) → (Sound e → view_of d ≡ landed rule (view_of e)) → (Sound e → Sound d)
    → E.Same (View.endpoint_in (connection_in e)) (View.endpoint_in (connection_in d)) → ((k : ℕ) → r ≡ refuse k → (d ≡ e) × (out ≡ lent event)) → Does event e r out d
does event e d rule r out j p o l n s f = record {
  meets = λ z.
      let q = j z in
      record {
        draws = λ i. record { reply = (p z ∙ ap replied (sym q)) i; output = (o z ∙ ap (λ u. laid (written u) (lent event)) (sym q)) i };
        leaves = l z ∙ ap (λ u. landed u (view_of e)) (sym q);
        sound = n z;
      };
  same = s;
  refused = f;
}

laid_not : (k : ℕ) (out : List ℕ) → out ≡ laid (refuse k) out
unfolding laid
laid_not k out = refl

-- a refusal leaves everything as it is
pub refuses :
    (event : Event) (e d : Whole) (k : ℕ) (r : Verdict Reply) (out : List ℕ) → (Sound e → comes_to e event ≡ refuse k) → r ≡ refuse k → d ≡ e → out ≡ lent event
    → Does event e r out d
refuses event e d k r out j p q o =
    does event e d (refuse k) r out j (λ z. p) (λ z. o ∙ laid_not k (lent event)) (λ z. ap view_of q) (λ z. subst Sound (sym q) z)
    (same_as (connection_in e) (connection_in d) (ap connection_in q)) (λ i w. (q, o))

-- ---- events that are lent the tables

both : {A : Type 0} → true ≡ false → A
both q = let z : ◌≡◌ {A = ℕ} 0 1 = cc in absurd (omega arith)

-- what was asked of them
pub covered_by : (c : View.Whole) (b : Bool) → b ≡ C.is_covered c → not b ≡ false → C.is_covered c ≡ true
covered_by c true e n = sym e
covered_by c false e n = both n

pub uncovered_by : (c : View.Whole) (b : Bool) → b ≡ C.is_covered c → not b ≡ true → C.is_covered c ≡ false
uncovered_by c true e n = both (sym n)
uncovered_by c false e n = sym e

-- these are long enough
pub covered_does : (event : Event) (e d : Whole) (r : Verdict Reply) (out : List ℕ) → has_room event ≡ true → C.is_covered (connection_in e) ≡ true → Does event e r out d → DoesIn event e r out d
covered_does event e d r out h c p = record { does = p; roomless = λ n. both (sym h ∙ n); uncovered = λ m n. both (sym c ∙ n) }

-- the output is not, and is judged before them
pub roomless_does : (event : Event) (e d : Whole) (r : Verdict Reply) (out : List ℕ) → has_room event ≡ false → r ≡ refuse 9 → Does event e r out d → DoesIn event e r out d
roomless_does event e d r out m q p = record { does = p; roomless = λ n. q; uncovered = λ h n. both (sym h ∙ m) }

-- they are too short: 8, and nothing changes
pub uncovered_refuses :
    (event : Event) (e d : Whole) (r : Verdict Reply) (out : List ℕ) → has_room event ≡ true → C.is_covered (connection_in e) ≡ false → r ≡ refuse 8 → d ≡ e → out ≡ lent event → DoesIn event e r out d
uncovered_refuses event e d r out h n p q o = record { does = refuses event e d 8 r out (unsound (connection_in e) n) p q o; roomless = λ m. both (sym h ∙ m); uncovered = λ m u. p }

-- ---- the connection's call inside

abbrev pub rule_of : View.Whole → Call → Verdict K.Outcome
rule_of c call = decide (View.role_of c) (View.settings_of c) (View.view_of c) call

abbrev the_answer : Answer → Verdict Answer → Answer
the_answer a (refuse k) = a
the_answer a (accept b) = b

was_refused : (v : Verdict K.Outcome) (k : ℕ) → answered v ≡ refuse k → v ≡ refuse k
was_refused (refuse j) k e = ap refuse (cc)
was_refused (accept o) k e = let z : ◌≡◌ {A = ℕ} 0 1 = cc in absurd (omega arith)

-- of a sound connection: a refusal, or an outcome
pub inner_refused : (call : Call) (c d : View.Whole) (k : ℕ) (a : Verdict Answer) (out : List ℕ) → C.Does call c a out d → a ≡ refuse k → View.Sound c → rule_of c call ≡ refuse k
inner_refused call c d k a out p e z = was_refused (rule_of c call) k (sym (ap (λ s. s.answer) (p.meets z).draws) ∙ e)

-- what is known of a call that was accepted
pub record Accepted (call : Call) (c d : View.Whole) (a : Answer) (out : List ℕ) : Type 0 where
  pub outcome : K.Outcome
  pub accepts : rule_of c call ≡ accept outcome
  pub answers : outcome.answer ≡ a
  pub puts : out ≡ laid (accept outcome.bytes) (K.lent call)
  pub leads : View.view_of d ≡ apply (View.settings_of c) outcome.effect (View.view_of c)
  pub counts : length outcome.bytes ≡ written_in a
  pub stays_sound : View.Sound d

accepted_by :
    (call : Call) (c d : View.Whole) (a : Answer) (out : List ℕ) (v : Verdict K.Outcome) → rule_of c call ≡ v → answered v ≡ accept a → out ≡ laid (K.written v) (K.lent call)
    → View.view_of d ≡ K.after (View.settings_of c) v (View.view_of c) → View.Sound d → Accepted call c d a out
accepted_by call c d a out (refuse k) q e o l s = let z : ◌≡◌ {A = ℕ} 0 1 = cc in absurd (omega arith)
accepted_by call c d a out (accept w) q e o l s =
    let b : w.answer ≡ a = ap (the_answer a) e in
    record {
      outcome = w;
      accepts = q;
      answers = b;
      puts = o;
      leads = l;
      counts = counted (View.role_of c) (View.settings_of c) (View.view_of c) call w q ∙ ap written_in b;
      stays_sound = s;
    }

pub inner_accepted : (call : Call) (c d : View.Whole) (a : Answer) (x : Verdict Answer) (out : List ℕ) → C.Does call c x out d → x ≡ accept a → View.Sound c → Accepted call c d a out
inner_accepted call c d a x out p e z =
    let m = p.meets z in
    accepted_by call c d a out (rule_of c call) refl (sym (ap (λ s. s.answer) m.draws) ∙ e) (ap (λ s. s.output) m.draws) m.leaves m.sound
