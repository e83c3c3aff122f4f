-- Events that land somewhere: by the error path, or at the end of the input.
-- Assumes nothing.
use mathlib.Core.Path.{◌≡◌, refl, sym, ◌∙◌, ap, subst}
use mathlib.Core.Bool.{Bool, true, false, cond, not}
use mathlib.Core.List.{List, [], ◌∷◌}
use Rattle.std.specs.Prelude.{Option, None, Some, Ok, Err}
use Prim.Native.Nat.{ℕ, ◌≤◌, ◌<◌}
use native.Mathlib.Omega.{arith}
use lib.ListN.{length}
use types.Run.{OneOf, miss}
use denote.Enum.Declared.{tag_of}
use Rattle.octets.specs.Verdict.{Verdict, refuse, accept, require}
use Rattle.octets.specs.Output.{room_for, laid}
use Rattle.octets.proofs.Laws.{room_yes, room_no, require_on, require_off}
use Rattle.octets.specs.Refusal.{number_of}
use Rattle.octets.specs.declared.Refusal.{Refusal}
use Rattle.octets.specs.declared.Refusal.TheVariants.{NoRoom, IllegalState}
use Rattle.connection_state.specs.States.{is_one_of}
use Rattle.connection_state.specs.Answers.{state_says}
use Rattle.connection_state.specs.declared.ConnectionState.{ConnectionState}
use Rattle.connection_model.specs.Connection.{Answer}
use Rattle.endpoint.specs.declared.Role as E
use Rattle.endpoint.specs.declared.Role.TheVariants.{Dialler, Listener}
use Rattle.endpoint.specs.contracts.Role.{the_type as role_type}
use Rattle.endpoint.specs.Answers.{role_says}
use Rattle.connection.specs.View as View
use Rattle.connection.specs.declared.Connection.{Connection}
use Rattle.engine_model.specs.Engine as M
use Rattle.engine_model.specs.Engine.{Event, Landing, landing, results, not_delivered, end_of_input, input_ends, fail, cut, cut_short, lent, is_running, is_stopped, running, ended_in, replied, landed}
use Rattle.engine_model.specs.Phases.{stops_in}
use Rattle.engine.specs.declared.ConnectionEngine.{ConnectionEngine}
use Rattle.engine.specs.declared.error.InnerError.{InnerError}
use Rattle.engine.specs.declared.error.InnerError.TheVariants.{SessionNotFound, NotImplemented}
use Rattle.engine.specs.declared.Landed.{Landed}
use Rattle.engine.specs.declared.OnError.{OnError}
use Rattle.engine.specs.declared.Outcome.{Outcome}
use Rattle.engine.specs.declared.Outcome.TheVariants.{Fine, TransportError}
use Rattle.engine.specs.declared.Phase.{Phase}
use Rattle.engine.specs.declared.Phase.TheVariants.{Running, Awaiting, Stopped}
use Rattle.engine.specs.contracts.Phase.{the_type}
use Rattle.engine.specs.Answers.{Whole, whole, engine_of, connection_in, role_of, settings_of, view_of, Sound, phase_says, error_says, goes_on, reply, reply_says}
use Rattle.engine.specs.Promises.{Does, LandedIn, landed_in, Lands, Keeps, Fails, Ends, Handled}
use Rattle.engine.proofs.Does.{comes_to, refuses}
use Rattle.engine.proofs.Output.{laid_is}
use Rattle.engine.proofs.Failing.{keeps_self}
use Rattle.engine.proofs.Well.{goes_says, goes_taken, ending, running_yet}

-- the engine where it landed
abbrev pub engine_at : LandedIn → Whole
engine_at l = whole (engine_of l.phase l.connection.connection) l.connection.tables l.connection.id

pub lands_does :
    (event : Event) (e : Whole) (L : Landing) (consumed n : ℕ) (inner i : Option (Verdict Answer)) (out : List ℕ) (l : LandedIn) → (Sound e → comes_to e event ≡ results L consumed inner)
    → (Sound e → n ≡ consumed) → (Sound e → i ≡ inner) → (Sound e → Lands L (lent event) out l) → Keeps (connection_in e) l.connection
    → Does event e (reply_says (Ok (goes_on l.phase)) n l.written i) out (engine_at l)
lands_does event e L consumed n inner i out l j cn ci la k = record {
  meets = λ z.
      let q = j z in
      let w = la z in
      record {
        draws = λ t. record {
          reply = (goes_says l.phase n l.written i ∙ (λ u. reply (ended_in (w.lands_phase u)) (cn z u) (w.lands_count u) (ci z u)) ∙ ap replied (sym q)) t;
          output = (w.lands_output ∙ ap (λ u. laid (M.written u) (lent event)) (sym q)) t;
        };
        leaves = (λ t. record { phase = w.lands_phase t; connection = w.lands_connection t }) ∙ ap (λ u. landed u (view_of e)) (sym q);
        sound = k.keeps_sound z;
      };
  same = k.keeps_same;
  refused = λ x r. goes_taken l.phase n l.written i x r;
}

-- another engine with what this one is lent
abbrev beside : Whole → ConnectionEngine → Whole
beside e x = whole x e.tables e.id

abbrev landed_at : Whole → Landed → LandedIn
landed_at e l = landed_in l e.tables e.id

-- as it is answered
handled_does :
    (event : Event) (e : Whole) (L : Landing) (out : List ℕ) (l : Landed) (r : OnError) → (Sound e → comes_to e event ≡ results L 0 None) → (Sound e → Lands L (lent event) out (landed_at e l))
    → Keeps (connection_in e) (landed_at e l).connection → Handled l r → Does event e (reply_says r.running 0 r.written None) out (beside e r.engine)
handled_does event e L out l r j la k h =
    let s : Does event e (reply_says (Ok (goes_on l.phase)) 0 l.written None) out (engine_at (landed_at e l)) =
    lands_does event e L 0 0 None None out (landed_at e l) j (λ z. refl) (λ z. refl) la k in
    let x : reply_says r.running 0 r.written None ≡ reply_says (Ok (goes_on l.phase)) 0 l.written None = λ t. reply_says (h.handled_running t) 0 (h.handled_written t) None in
    subst (λ u. Does event e u out (beside e r.engine)) (sym x) (subst (λ u. Does event e (reply_says (Ok (goes_on l.phase)) 0 l.written None) out (beside e u)) (sym h.handled_engine) s)

-- ---- refusals

-- the answer and the engine of a refused event
abbrev NotHandled : ConnectionEngine → Refusal → OnError → Type 0
NotHandled e k r = (r.running ≡ Err k) × (r.engine ≡ e)

not_handled :
    (event : Event) (e : Whole) (k : Refusal) (r : OnError) → (Sound e → comes_to e event ≡ refuse (number_of k)) → NotHandled e.engine k r
    → Does event e (reply_says r.running 0 r.written None) (lent event) (beside e r.engine)
not_handled event e k r j w = refuses event e (beside e r.engine) (number_of k) _ _ j (ap (λ u. reply_says u 0 r.written None) w.0) (ap (beside e) w.1) refl

-- what an event without tables is answered and leaves
abbrev Handles : Event → ConnectionEngine → List ℕ → OnError → Type 0
Handles event e out r = (t id : List ℕ) → Does event (whole e t id) (reply_says r.running 0 r.written None) out (whole r.engine t id)

pub not_delivered_9 : (e : ConnectionEngine) (new : Bool) (out : List ℕ) (r : OnError) → length out < 16384 → NotHandled e NoRoom r → Handles (not_delivered new out) e out r
not_delivered_9 e new out r l w t id = not_handled (not_delivered new out) (whole e t id) NoRoom r (λ z. require_off 9 _ _ (room_no 0 out (omega arith))) w

pub input_9 : (e : ConnectionEngine) (out : List ℕ) (r : OnError) → length out < 16384 → NotHandled e NoRoom r → Handles (end_of_input out) e out r
input_9 e out r l w t id = not_handled (end_of_input out) (whole e t id) NoRoom r (λ z. require_off 9 _ _ (room_no 0 out (omega arith))) w

-- ---- not delivered

nothing_yet : (out : List ℕ) → out ≡ laid (accept []) out
nothing_yet out = sym (laid_is [] out)

module _ (e : ConnectionEngine) (b : Bool) (ends : b ≡ not (is_running (phase_says e.phase))) (new : Bool) (out : List ℕ) (room : 16384 ≤ length out) where
  pub not_delivered_20 : (r : OnError) → b ≡ true → NotHandled e IllegalState r → Handles (not_delivered new out) e out r
  not_delivered_20 r u w t id =
      not_handled (not_delivered new out) (whole e t id) IllegalState r (λ z. require_on 9 _ _ (room_yes 0 out (omega arith)) ∙ require_off 20 _ _ (ending e.phase b ends u)) w

  pub not_delivered_done :
      (role : E.Role) (error : InnerError) (out' : List ℕ) (l : Landed) (r : OnError) → b ≡ false → role ≡ e.connection.endpoint.role → error_says error ≡ Some (M.undelivered (role_says role) new)
      → ((t id : List ℕ) → Fails (error_says error) (View.whole e.connection t id) 0 out out' (landed_in l t id)) → Handled l r → Handles (not_delivered new out) e out' r
  not_delivered_done role error out' l r f ro er fa h t id =
      let w = whole e t id in
      let yes : room_for 0 out ≡ true = room_yes 0 out (omega arith) in
      let said : error_says error ≡ Some (M.undelivered (role_of w) new) = er ∙ ap (λ u. Some (M.undelivered (role_says u) new)) ro in
      handled_does (not_delivered new out) w (fail (role_of w) (settings_of w) (Some (M.undelivered (role_of w) new)) (view_of w).connection [] out) out' l r
      (λ z. require_on 9 _ _ yes ∙ require_on 20 _ _ (running_yet e.phase b ends f))
      (λ z. subst (λ u. Lands (fail (role_of w) (settings_of w) u (view_of w).connection [] out) out out' (landed_in l t id)) said ((fa t id).fails z [] out refl (nothing_yet out) yes yes))
      (fa t id).fails_keeps h

-- a new session is one of a listener's
pub undelivered_frame : (role : E.Role) (new b : Bool) → not new ≡ true → error_says SessionNotFound ≡ Some (M.undelivered (role_says role) new)
undelivered_frame Dialler new b e = refl
undelivered_frame Listener true b e = let z : ◌≡◌ {A = ℕ} 0 1 = cc in absurd (omega arith)
undelivered_frame Listener false b e = refl

pub undelivered_dialler : (role : E.Role) (new : Bool) → OneOf (0 ∷ []) (tag_of role_type role) → error_says SessionNotFound ≡ Some (M.undelivered (role_says role) new)
undelivered_dialler Dialler new o = refl
undelivered_dialler Listener new o = absurd (miss (0 ∷ []) 1 tt o)

pub undelivered_session : (role : E.Role) (new : Bool) → not new ≡ false → OneOf (1 ∷ []) (tag_of role_type role) → error_says NotImplemented ≡ Some (M.undelivered (role_says role) new)
undelivered_session Dialler new e o = absurd (miss (1 ∷ []) 0 tt o)
undelivered_session Listener true e o = refl
undelivered_session Listener false e o = let z : ◌≡◌ {A = ℕ} 0 1 = cc in absurd (omega arith)

-- ---- the input ends

pub cut_running : (p : Phase) → OneOf (0 ∷ []) (tag_of the_type p) → phase_says p ≡ cut_short (phase_says p)
cut_running Running o = refl
cut_running (Awaiting x) o = absurd (miss (0 ∷ []) 1 tt o)
cut_running (Stopped x) o = absurd (miss (0 ∷ []) 2 tt o)

pub cut_awaiting : (p : Phase) → OneOf (1 ∷ []) (tag_of the_type p) → phase_says (Stopped TransportError) ≡ cut_short (phase_says p)
cut_awaiting Running o = absurd (miss (1 ∷ []) 0 tt o)
cut_awaiting (Awaiting x) o = refl
cut_awaiting (Stopped x) o = absurd (miss (1 ∷ []) 2 tt o)

pub cut_stopped : (p : Phase) → OneOf (2 ∷ []) (tag_of the_type p) → phase_says p ≡ cut_short (phase_says p)
cut_stopped Running o = absurd (miss (2 ∷ []) 0 tt o)
cut_stopped (Awaiting x) o = absurd (miss (2 ∷ []) 1 tt o)
cut_stopped (Stopped x) o = refl

module _ (c : Connection) (out : List ℕ) (x : ConnectionState) (b : Bool) (st : x ≡ c.local_state) (may : b ≡ is_one_of (stops_in M.fine) (state_says x)) where
  -- by whether the input may end
  abbrev ended : List ℕ → List ℕ → Bool → Landing
  ended t id u =
      let w = View.whole c t id in
      cond u (landing (M.stopped M.fine) (View.view_of w) []) (cut (fail (View.role_of w) (View.settings_of w) (Some M.illegal) (View.view_of w) [] out))

  pub ends_fine : b ≡ true → (t id : List ℕ) → Ends (View.whole c t id) out out (record { phase = Stopped Fine; written = 0; connection = View.whole c t id })
  ends_fine y t id = record {
    ends_keeps = keeps_self (View.whole c t id);
    ends = λ z r. subst (λ u. Lands (ended t id u) out out (record { phase = Stopped Fine; written = 0; connection = View.whole c t id }))
        (sym y ∙ may ∙ ap (λ s. is_one_of (stops_in M.fine) (state_says s)) st)
        (record { lands_phase = refl; lands_connection = refl; lands_count = refl; lands_output = nothing_yet out });
  }

  pub ends_failing :
      (out' : List ℕ) (l : Landed) (p : Phase) → b ≡ false → ((t id : List ℕ) → Fails (Some M.illegal) (View.whole c t id) 0 out out' (landed_in l t id)) → phase_says p ≡ cut_short (phase_says l.phase)
      → (t id : List ℕ) → Ends (View.whole c t id) out out' (record { phase = p; written = l.written; connection = View.whole l.connection t id })
  ends_failing out' l p f fa q t id = record {
    ends_keeps = (fa t id).fails_keeps;
    ends = λ z r.
        let w = (fa t id).fails z [] out refl (nothing_yet out) r r in
        subst (λ u. Lands (ended t id u) out out' (record { phase = p; written = l.written; connection = View.whole l.connection t id }))
        (sym f ∙ may ∙ ap (λ s. is_one_of (stops_in M.fine) (state_says s)) st)
        (record { lands_phase = q ∙ ap cut_short w.lands_phase; lands_connection = w.lands_connection; lands_count = w.lands_count; lands_output = w.lands_output });
  }

module _ (e : ConnectionEngine) (out : List ℕ) (room : 16384 ≤ length out) where
  yes : room_for 0 out ≡ true
  yes = room_yes 0 out (omega arith)

  stopped_is : (p : Phase) → OneOf (2 ∷ []) (tag_of the_type p) → not (is_stopped (phase_says p)) ≡ false
  stopped_is Running o = absurd (miss (2 ∷ []) 0 tt o)
  stopped_is (Awaiting x) o = absurd (miss (2 ∷ []) 1 tt o)
  stopped_is (Stopped x) o = refl

  awaiting_is : (p : Phase) → OneOf (1 ∷ []) (tag_of the_type p) → (x : Outcome) × (p ≡ Awaiting x)
  awaiting_is Running o = absurd (miss (1 ∷ []) 0 tt o)
  awaiting_is (Awaiting x) o = (x, refl)
  awaiting_is (Stopped x) o = absurd (miss (1 ∷ []) 2 tt o)

  running_is : (p : Phase) → OneOf (0 ∷ []) (tag_of the_type p) → p ≡ Running
  running_is Running o = refl
  running_is (Awaiting x) o = absurd (miss (0 ∷ []) 1 tt o)
  running_is (Stopped x) o = absurd (miss (0 ∷ []) 2 tt o)

  pub input_20 : (r : OnError) → OneOf (2 ∷ []) (tag_of the_type e.phase) → NotHandled e IllegalState r → Handles (end_of_input out) e out r
  input_20 r o w t id = not_handled (end_of_input out) (whole e t id) IllegalState r (λ z. require_on 9 _ _ yes ∙ require_off 20 _ _ (stopped_is e.phase o)) w

  -- what the event comes to in a phase
  comes_in : (w : Whole) (p q : Phase) → p ≡ q → require 20 (not (is_stopped (phase_says p))) (λ _. results (input_ends (role_of w) (settings_of w) out (view_of w).connection (phase_says p)) 0 None) ≡ require 20 (not (is_stopped (phase_says q))) (λ _. results (input_ends (role_of w) (settings_of w) out (view_of w).connection (phase_says q)) 0 None)
  comes_in w p q a = ap (λ y. require 20 (not (is_stopped (phase_says y))) (λ _. results (input_ends (role_of w) (settings_of w) out (view_of w).connection (phase_says y)) 0 None)) a

  pub input_awaiting :
      (r : OnError) → OneOf (1 ∷ []) (tag_of the_type e.phase) → Handled (record { phase = Stopped TransportError; written = 0; connection = e.connection }) r → Handles (end_of_input out) e out r
  input_awaiting r o h t id =
      let w = whole e t id in
      let a = awaiting_is e.phase o in
      handled_does (end_of_input out) w (landing (M.stopped M.transport_error) (view_of w).connection []) out _ r
      (λ z. require_on 9 _ _ yes ∙ comes_in w e.phase (Awaiting a.0) a.1 ∙ require_on 20 _ _ refl)
      (λ z. record { lands_phase = refl; lands_connection = refl; lands_count = refl; lands_output = nothing_yet out })
      (keeps_self (connection_in w)) h

  pub input_running :
      (out' : List ℕ) (l : Landed) (r : OnError) → OneOf (0 ∷ []) (tag_of the_type e.phase) → ((t id : List ℕ) → Ends (View.whole e.connection t id) out out' (landed_in l t id)) → Handled l r
      → Handles (end_of_input out) e out' r
  input_running out' l r o en h t id =
      let w = whole e t id in
      handled_does (end_of_input out) w (input_ends (role_of w) (settings_of w) out (view_of w).connection running) out' l r
      (λ z. require_on 9 _ _ yes ∙ comes_in w e.phase Running (running_is e.phase o) ∙ require_on 20 _ _ refl)
      (λ z. (en t id).ends z yes) (en t id).ends_keeps h
