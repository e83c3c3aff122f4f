-- The error path: the Close that tells the peer, and where it leaves the engine.
-- Assumes nothing.
use mathlib.Core.Path.{◌≡◌, refl, sym, ◌∙◌, ap, subst}
use mathlib.Core.Bool.{true}
use mathlib.Core.List.{List, ◌++◌}
use Rattle.std.specs.Prelude.{Option, None, Some, Result, Ok, Err}
use Prim.Native.Nat.{ℕ, suc, ◌+◌, ◌-◌, ◌≤◌}
use native.Mathlib.Omega.{arith}
use lib.ListN.{length, drop, length-append, length-drop}
use borrow.Rule.Slice.PartMut.{mid_of, put_mid, same_len_mid, put_same}
use Rattle.octets.specs.Verdict.{Verdict, refuse, accept}
use Rattle.octets.specs.Output.{room_for, laid}
use Rattle.octets.proofs.Laws.{require_on}
use Rattle.octets.specs.Refusal.{number_of}
use Rattle.octets.specs.declared.Refusal.{Refusal}
use Rattle.frame_encoder.specs.Frames.{Settings, ErrorText}
use Rattle.channels.specs.Places.{past}
use Rattle.connection_state.specs.Answers.{state_says}
use Rattle.connection_state.specs.declared.ConnectionState.{ConnectionState}
use Rattle.connection_model.specs.Connection as K
use Rattle.connection_model.specs.Connection.{Role, Answer, wrote, send_close_to, decide}
use Rattle.endpoint.specs.Answers.{sent_says}
use Rattle.endpoint.specs.Answers as A
use Rattle.endpoint.specs.Answers.{places_of}
use Rattle.endpoint.specs.Promises as E
use Rattle.connection.specs.View as View
use Rattle.connection.specs.Promises as C
use Rattle.connection.specs.declared.Connection.{Connection}
use Rattle.connection.proofs.Calls.{same_as}
use Rattle.engine_model.specs.Engine as M
use Rattle.engine.specs.declared.Outcome.{Outcome}
use Rattle.engine.specs.declared.Phase.{Phase}
use Rattle.engine.specs.Answers.{phase_says, outcome_says}
use Rattle.engine.specs.Promises.{SendsError, Lands, Keeps, Fails, not_closed}
use Rattle.engine.proofs.Output.{rest_is, laid_behind, fits}
use Rattle.engine.proofs.Does.{inner_refused, inner_accepted}

-- a Close that is lent enough room comes to the same whatever it is lent
pub close_same : (role : Role) (S : Settings) (c : K.Connection) (e : Option ErrorText) (out out' : List ℕ) → room_for 0 out ≡ true → room_for 0 out' ≡ true → decide role S c (send_close_to e out) ≡ decide role S c (send_close_to e out')
close_same role S c e out out' r r' = require_on 9 _ _ r ∙ sym (require_on 9 _ _ r')

-- ---- what stays

same_on : (a b c : A.Whole) → E.Same a b → E.Same b c → E.Same a c
same_on a b c p q =
    let n : places_of a.endpoint ≡ places_of b.endpoint = ap (λ S. suc S.channel_max) (sym p.same_settings) in
    record {
      same_role = q.same_role ∙ p.same_role;
      same_settings = q.same_settings ∙ p.same_settings;
      same_long = q.same_long ∙ p.same_long;
      same_past = λ z. ap (λ k. past k c.tables) n ∙ q.same_past (p.still_counted z) ∙ ap (λ k. past k b.tables) (sym n) ∙ p.same_past z;
      still_counted = λ z. q.still_counted (p.still_counted z);
    }

pub keeps_as : (c d : View.Whole) → d ≡ c → Keeps c d
keeps_as c d q = record { keeps_same = same_as c d q; keeps_sound = λ z. subst View.Sound (sym q) z }

pub keeps_self : (c : View.Whole) → Keeps c c
keeps_self c = keeps_as c c refl

pub keeps_on : (c d e : View.Whole) → Keeps c d → Keeps d e → Keeps c e
keeps_on c d e p q = record { keeps_same = same_on (View.endpoint_in c) (View.endpoint_in d) (View.endpoint_in e) p.keeps_same q.keeps_same; keeps_sound = λ z. q.keeps_sound (p.keeps_sound z) }

pub keeps_of : (call : K.Call) (c d : View.Whole) (a : Verdict Answer) (out : List ℕ) → C.Does call c a out d → Keeps c d
keeps_of call c d a out p = record { keeps_same = p.same; keeps_sound = λ z. (p.meets z).sound }

-- ---- a Close that was sent

module _ (c : View.Whole) (n : ℕ) (o s : List ℕ) (d : View.Whole) (oc : Outcome) (x : ConnectionState) (p : Phase) (st : state_says x ≡ (View.view_of d).state) (same : length s ≡ length (mid_of n (length o - n) o)) where
  abbrev left : List ℕ
  left = mid_of n (length o - n) o

  keeps : (f : Option M.Fault) (a : Verdict Answer) → SendsError f c a left s d → Keeps c d
  keeps None a t = keeps_as c d t.1
  keeps (Some f) a t = keeps_of (send_close_to (Some f.error) left) c d a s t

  -- it was written
  lands_closed :
      (f : M.Fault) (m w : ℕ) → C.Does (send_close_to (Some f.error) left) c (accept (wrote m)) s d → outcome_says oc ≡ f.outcome → phase_says p ≡ M.closed_with (outcome_says oc) (state_says x)
      → (n + m ≤ length o → w ≡ n + m) → View.Sound c → (bytes lent : List ℕ) → n ≡ length bytes → o ≡ laid (accept bytes) lent → room_for 0 lent ≡ true → room_for 0 (drop n o) ≡ true → n ≤ length o
      → Lands (M.fail (View.role_of c) (View.settings_of c) (Some f) (View.view_of c) bytes lent) lent (put_mid n (length o - n) o s) (record { phase = p; written = w; connection = d })
  lands_closed f m w t q ph ad z bytes lent e l r r' le =
      let a = inner_accepted (send_close_to (Some f.error) left) c d (wrote m) _ s t refl z in
      let v : decide (View.role_of c) (View.settings_of c) (View.view_of c) (send_close_to (Some f.error) lent) ≡ accept a.outcome =
      close_same (View.role_of c) (View.settings_of c) (View.view_of c) (Some f.error) lent left r (ap (room_for 0) (rest_is o n) ∙ r') ∙ a.accepts in
      let u : M.failed (View.settings_of c) f.outcome (View.view_of c) bytes (accept a.outcome) ≡ M.fail (View.role_of c) (View.settings_of c) (Some f) (View.view_of c) bytes lent =
      ap (M.failed (View.settings_of c) f.outcome (View.view_of c) bytes) (sym v) in
      let fit : length a.outcome.bytes ≤ length left = fits a.outcome.bytes left s a.puts same in
      let long : length left ≡ length o - n = ap length (rest_is o n) ∙ length-drop n o in
      let cnt : length a.outcome.bytes ≡ m = a.counts in
      let sum : w ≡ n + m = ad (omega arith) in
      let tot : length (bytes ++ a.outcome.bytes) ≡ length bytes + length a.outcome.bytes = length-append bytes a.outcome.bytes in
      subst (λ L. Lands L lent (put_mid n (length o - n) o s) (record { phase = p; written = w; connection = d })) u (record {
        lands_phase = ph ∙ (λ i. M.closed_with (q i) ((st ∙ ap (λ k. k.state) a.leads) i));
        lands_connection = a.leads;
        lands_count = omega arith;
        lands_output = laid_behind bytes a.outcome.bytes lent o s n e l a.puts;
      })

  -- it was refused
  lands_unclosed :
      (f : M.Fault) (k : ℕ) → C.Does (send_close_to (Some f.error) left) c (refuse k) s d → outcome_says oc ≡ f.outcome → phase_says p ≡ not_closed k (outcome_says oc) (state_says x) → View.Sound c
      → (bytes lent : List ℕ) → n ≡ length bytes → o ≡ laid (accept bytes) lent → room_for 0 lent ≡ true → room_for 0 (drop n o) ≡ true
      → Lands (M.fail (View.role_of c) (View.settings_of c) (Some f) (View.view_of c) bytes lent) lent (put_mid n (length o - n) o s) (record { phase = p; written = n; connection = d })
  lands_unclosed f k t q ph z bytes lent e l r r' =
      let v : decide (View.role_of c) (View.settings_of c) (View.view_of c) (send_close_to (Some f.error) lent) ≡ refuse k =
      close_same (View.role_of c) (View.settings_of c) (View.view_of c) (Some f.error) lent left r (ap (room_for 0) (rest_is o n) ∙ r') ∙ inner_refused (send_close_to (Some f.error) left) c d k _ s t refl z in
      let u : M.failed (View.settings_of c) f.outcome (View.view_of c) bytes (refuse k) ≡ M.fail (View.role_of c) (View.settings_of c) (Some f) (View.view_of c) bytes lent =
      ap (M.failed (View.settings_of c) f.outcome (View.view_of c) bytes) (sym v) in
      let g : (d ≡ c) × (s ≡ left) = t.refused k refl in
      subst (λ L. Lands L lent (put_mid n (length o - n) o s) (record { phase = p; written = n; connection = d })) u (record {
        lands_phase = ph ∙ (λ i. not_closed k (q i) ((st ∙ ap (λ y. (View.view_of y).state) g.0) i));
        lands_connection = ap View.view_of g.0;
        lands_count = e;
        lands_output = ap (put_mid n (length o - n) o) g.1 ∙ put_same n (length o - n) o ∙ l;
      })

  -- ---- both, of any error

  closed_fails :
      (f : Option M.Fault) (a : Result ℕ Refusal) (m w : ℕ) → SendsError f c (sent_says a) left s d → a ≡ Ok m → outcome_says oc ≡ M.outcome_of f → phase_says p ≡ M.closed_with (outcome_says oc) (state_says x) → n ≤ length o
      → (w ≤ length (put_mid n (length o - n) o s)) × (n + m ≤ length (put_mid n (length o - n) o s) → w ≡ n + m) → Fails f c n o (put_mid n (length o - n) o s) (record { phase = p; written = w; connection = d })
  closed_fails None a m w t q oe ph le ad = let y : accept (wrote m) ≡ refuse 27 = ap sent_says (sym q) ∙ t.0 in let z : ◌≡◌ {A = ℕ} 0 1 = cc in absurd (omega arith)
  closed_fails (Some f) a m w t q oe ph le ad =
      let t' : C.Does (send_close_to (Some f.error) left) c (accept (wrote m)) s d = subst (λ v. C.Does (send_close_to (Some f.error) left) c (sent_says v) s d) q t in
      let len : length (put_mid n (length o - n) o s) ≡ length o = same_len_mid n (length o - n) o s same in
      record {
        fails_keeps = keeps (Some f) (accept (wrote m)) t';
        fails = λ z bytes lent e l r r'. lands_closed f m w t' oe ph (λ h. ad.1 (omega arith)) z bytes lent e l r r' le;
      }

  transport : (n' : ℕ) → phase_says p ≡ not_closed n' M.transport_error (state_says x) → n' ≡ 27 → phase_says p ≡ M.stopped M.transport_error
  transport n' ph e = ph ∙ ap (λ k. not_closed k M.transport_error (state_says x)) e

  unclosed_fails :
      (f : Option M.Fault) (a : Result ℕ Refusal) (k : Refusal) → SendsError f c (sent_says a) left s d → a ≡ Err k → outcome_says oc ≡ M.outcome_of f → phase_says p ≡ not_closed (number_of k) (outcome_says oc) (state_says x)
      → Fails f c n o (put_mid n (length o - n) o s) (record { phase = p; written = n; connection = d })
  unclosed_fails None a k t q oe ph =
      let y : ◌≡◌ {A = Verdict Answer} (refuse (number_of k)) (refuse 27) = ap sent_says (sym q) ∙ t.0 in
      let k27 : number_of k ≡ 27 = cc in
      record {
        fails_keeps = keeps None (sent_says a) t;
        fails = λ z bytes lent e l r r'. record {
          lands_phase = transport (number_of k) (ph ∙ ap (λ u. not_closed (number_of k) u (state_says x)) oe) k27;
          lands_connection = ap View.view_of t.1;
          lands_count = e;
          lands_output = ap (put_mid n (length o - n) o) t.2 ∙ put_same n (length o - n) o ∙ l;
        };
      }
  unclosed_fails (Some f) a k t q oe ph =
      let t' : C.Does (send_close_to (Some f.error) left) c (refuse (number_of k)) s d = subst (λ v. C.Does (send_close_to (Some f.error) left) c (sent_says v) s d) q t in
      record { fails_keeps = keeps (Some f) (refuse (number_of k)) t'; fails = λ z bytes lent e l r r'. lands_unclosed f (number_of k) t' oe ph z bytes lent e l r r' }

-- whatever the connection is lent
module _ (c : Connection) (n : ℕ) (o s : List ℕ) (d : Connection) (oc : Outcome) (x : ConnectionState) (p : Phase) (st : x ≡ d.local_state) (same : length s ≡ length (mid_of n (length o - n) o)) where
  pub fails_closed :
      (f : Option M.Fault) (a : Result ℕ Refusal) (m w : ℕ) → ((t id : List ℕ) → SendsError f (View.whole c t id) (sent_says a) (mid_of n (length o - n) o) s (View.whole d t id)) → a ≡ Ok m → outcome_says oc ≡ M.outcome_of f
      → phase_says p ≡ M.closed_with (outcome_says oc) (state_says x) → n ≤ length o → (w ≤ length (put_mid n (length o - n) o s)) × (n + m ≤ length (put_mid n (length o - n) o s) → w ≡ n + m)
      → (t id : List ℕ) → Fails f (View.whole c t id) n o (put_mid n (length o - n) o s) (record { phase = p; written = w; connection = View.whole d t id })
  fails_closed f a m w h q oe ph le ad t id = closed_fails (View.whole c t id) n o s (View.whole d t id) oc x p (ap state_says st) same f a m w (h t id) q oe ph le ad

  pub fails_unclosed :
      (f : Option M.Fault) (a : Result ℕ Refusal) (k : Refusal) → ((t id : List ℕ) → SendsError f (View.whole c t id) (sent_says a) (mid_of n (length o - n) o) s (View.whole d t id)) → a ≡ Err k → outcome_says oc ≡ M.outcome_of f
      → phase_says p ≡ not_closed (number_of k) (outcome_says oc) (state_says x)
      → (t id : List ℕ) → Fails f (View.whole c t id) n o (put_mid n (length o - n) o s) (record { phase = p; written = n; connection = View.whole d t id })
  fails_unclosed f a k h q oe ph t id = unclosed_fails (View.whole c t id) n o s (View.whole d t id) oc x p (ap state_says st) same f a k (h t id) q oe ph
