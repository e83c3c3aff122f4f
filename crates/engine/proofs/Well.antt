-- Events that are one call of the connection: allocate, deallocate, tick; after each the engine goes on unless the connection is over.
-- Assumes nothing.
use mathlib.Core.Path.{◌≡◌, refl, sym, ◌∙◌, ap, subst}
use mathlib.Core.Bool.{Bool, true, false, not}
use mathlib.Core.List.{List, [], ◌∷◌}
use Rattle.std.specs.Prelude.{Option, Some, Result, Ok, Err}
use Prim.Native.Nat.{ℕ, ◌≤◌, ◌<◌}
use native.Mathlib.Omega.{arith}
use lib.ListN.{length}
use Rattle.octets.specs.Verdict.{Verdict, refuse, accept, require, and_then}
use Rattle.octets.specs.Output.{room_for, laid}
use Rattle.octets.proofs.Laws.{room_yes, room_no, require_on, require_off, then_accept, then_refuse}
use Rattle.octets.specs.Refusal.{number_of}
use Rattle.octets.specs.declared.Refusal.{Refusal}
use Rattle.octets.specs.declared.Refusal.TheVariants.{OutOfBounds, NoRoom, IllegalState}
use Rattle.connection_model.specs.Connection as K
use Rattle.connection_model.specs.Connection.{Answer, Call, apply}
use Rattle.endpoint.specs.Answers.{allocate_says}
use Rattle.endpoint.specs.Promises as E
use Rattle.connection.specs.View as View
use Rattle.connection.specs.Promises as C
use Rattle.connection.specs.declared.Connection.{Connection}
use Rattle.connection.specs.View.{freed_says, tick_says}
use Rattle.connection.specs.declared.TickAnswer.{TickAnswer}
use Rattle.connection.specs.declared.TickAnswer.TheVariants.{Wrote, Stop as Idle}
use Rattle.engine_model.specs.Engine as M
use Rattle.engine_model.specs.Engine.{Event, Reply, well, lent, is_running, settled, ended_in, replied, landed, has_room}
use Rattle.engine.specs.declared.ConnectionEngine.{ConnectionEngine}
use Rattle.engine.specs.declared.Phase.{Phase}
use Rattle.engine.specs.declared.Phase.TheVariants.{Running, Awaiting, Stopped}
use Rattle.engine.specs.declared.OnAllocate.{OnAllocate}
use Rattle.engine.specs.declared.OnDeallocate.{OnDeallocate}
use Rattle.engine.specs.declared.OnHeartbeat.{OnHeartbeat}
use Rattle.engine.specs.declared.Running as R
use Rattle.engine.specs.Answers.{Whole, whole, connection_in, tick_count, settings_of, view_of, phase_says, goes_on, reply, reply_says}
use Rattle.engine.specs.Promises.{Does, DoesIn, Settles}
use Rattle.engine.proofs.Counted.{written_in}
use Rattle.engine.proofs.Does.{comes_to, refuses, covered_by, uncovered_by, covered_does, uncovered_refuses, rule_of, inner_refused, inner_accepted}

-- ---- an engine that goes on, or has ended

-- what an engine in a phase answers
pub goes_says : (p : Phase) (consumed n : ℕ) (i : Option (Verdict Answer)) → reply_says (Ok (goes_on p)) consumed n i ≡ reply (ended_in (phase_says p)) consumed n i
goes_says Running consumed n i = refl
goes_says (Awaiting o) consumed n i = refl
goes_says (Stopped o) consumed n i = refl

pub goes_taken : (p : Phase) (consumed n : ℕ) (i : Option (Verdict Answer)) (k : ℕ) → reply_says (Ok (goes_on p)) consumed n i ≡ refuse k → {A : Type 0} → A
goes_taken Running consumed n i k e = let z : ◌≡◌ {A = ℕ} 0 1 = cc in absurd (omega arith)
goes_taken (Awaiting o) consumed n i k e = let z : ◌≡◌ {A = ℕ} 0 1 = cc in absurd (omega arith)
goes_taken (Stopped o) consumed n i k e = let z : ◌≡◌ {A = ℕ} 0 1 = cc in absurd (omega arith)

pub ending : (p : Phase) (b : Bool) → b ≡ not (is_running (phase_says p)) → b ≡ true → is_running (phase_says p) ≡ false
ending Running b e t = ap not (sym e ∙ t)
ending (Awaiting o) b e t = refl
ending (Stopped o) b e t = refl

pub running_yet : (p : Phase) (b : Bool) → b ≡ not (is_running (phase_says p)) → b ≡ false → is_running (phase_says p) ≡ true
running_yet Running b e f = refl
running_yet (Awaiting o) b e f = sym f ∙ e
running_yet (Stopped o) b e f = sym f ∙ e

-- ---- one call

-- the event is the call, and then the engine settles
record Is (event : Event) (call : Call) (e : Whole) : Type 0 where
  by : comes_to e event ≡ and_then (rule_of (connection_in e) call) (well (settings_of e) (view_of e).connection)
  lends : lent event ≡ K.lent call

well_refused :
    (event : Event) (call : Call) (e e' : Whole) (d : View.Whole) (k : ℕ) (a : Verdict Answer) (r : Verdict Reply) (out : List ℕ) → Is event call e → C.Does call (connection_in e) a out d
    → a ≡ refuse k → r ≡ refuse k → e' ≡ e → Does event e r out e'
well_refused event call e e' d k a r out i p q w s =
    refuses event e e' k r out (λ z. i.by ∙ then_refuse _ _ k (inner_refused call (connection_in e) d k a out p q z)) w s ((p.refused k q).1 ∙ sym i.lends)

-- the engine has the connection that the call left
abbrev settled_in : ConnectionEngine → View.Whole → Whole
settled_in e d = whole e d.tables d.id

well_done :
    (event : Event) (call : Call) (e : Whole) (e' : ConnectionEngine) (d : View.Whole) (ans : Answer) (a : Verdict Answer) (out : List ℕ) (n : ℕ) → Is event call e
    → C.Does call (connection_in e) a out d → a ≡ accept ans → n ≡ written_in ans → Settles d.connection e' → Does event e (reply_says (Ok (goes_on e'.phase)) 0 n (Some a)) out (settled_in e' d)
well_done event call e e' d ans a out n i p q c s =
    let later : connection_in (settled_in e' d) ≡ d = ap (λ x. View.whole x d.tables d.id) s.settles_with in
    record {
      meets = λ z.
          let w = inner_accepted call (connection_in e) d ans a out p q z in
          let j : comes_to e event ≡ well (settings_of e) (view_of e).connection w.outcome = i.by ∙ then_accept _ _ w.outcome w.accepts in
          let v : View.view_of (connection_in (settled_in e' d)) ≡ apply (settings_of e) w.outcome.effect (view_of e).connection = ap View.view_of later ∙ w.leads in
          let f : phase_says e'.phase ≡ settled (apply (settings_of e) w.outcome.effect (view_of e).connection).state = s.settles ∙ ap (λ x. settled x.state) w.leads in
          record {
            draws = λ t. record {
              reply = (goes_says e'.phase 0 n (Some a)
                  ∙ (λ u. reply (ended_in (f u)) 0 ((c ∙ sym w.counts) u) (Some ((q ∙ ap accept (sym w.answers)) u)))
                  ∙ ap replied (sym j)) t;
              output = (w.puts ∙ ap (laid (accept w.outcome.bytes)) (sym i.lends) ∙ ap (λ u. laid (M.written u) (lent event)) (sym j)) t;
            };
            leaves = (λ t. record { phase = f t; connection = v t }) ∙ ap (λ u. landed u (view_of e)) (sym j);
            sound = subst View.Sound (sym later) w.stays_sound;
          };
      same = subst (λ x. E.Same (View.endpoint_in (connection_in e)) (View.endpoint_in x)) (sym later) p.same;
      refused = λ k r. goes_taken e'.phase 0 n (Some a) k r;
    }

-- ---- allocate and deallocate

-- an order that is lent the tables and no output
record Orders (event : Event) (call : Call) : Type 0 where
  judged : (w : Whole) → comes_to w event ≡ require 20 (is_running (phase_says w.engine.phase)) (λ _. and_then (rule_of (connection_in w) call) (well (settings_of w) (view_of w).connection))
  no_output : lent event ≡ []
  roomy : has_room event ≡ true
  no_lent : K.lent call ≡ []

allocates : (h : ℕ) → Orders (M.allocate h) (K.allocate h)
allocates h = record { judged = λ w. refl; no_output = refl; roomy = refl; no_lent = refl }

deallocates : (ch : ℕ) → Orders (M.deallocate ch) (K.deallocate ch)
deallocates ch = record { judged = λ w. refl; no_output = refl; roomy = refl; no_lent = refl }

module _ (e : ConnectionEngine) (t : List ℕ) (v : Bool) (cover : (id : List ℕ) → v ≡ C.is_covered (View.whole e.connection t id)) where
  order_8 : (event : Event) (call : Call) (d : ConnectionEngine) (r : Verdict Reply) → Orders event call → not v ≡ true → r ≡ refuse 8 → d ≡ e → (id : List ℕ) → DoesIn event (whole e t id) r [] (whole d t id)
  order_8 event call d r o n p q id =
      uncovered_refuses event (whole e t id) (whole d t id) r [] o.roomy (uncovered_by (View.whole e.connection t id) v (cover id) n) p (ap (λ x. whole x t id) q) (sym o.no_output)

  module _ (yes : not v ≡ false) where
    in_them : (event : Event) (d : Whole) (r : Verdict Reply) (id : List ℕ) → has_room event ≡ true → Does event (whole e t id) r [] d → DoesIn event (whole e t id) r [] d
    in_them event d r id h p = covered_does event (whole e t id) d r [] h (covered_by (View.whole e.connection t id) v (cover id) yes) p

    module _ (b : Bool) (ends : b ≡ not (is_running (phase_says e.phase))) where
      order_20 : (event : Event) (call : Call) (d : ConnectionEngine) (r : Verdict Reply) → Orders event call → b ≡ true → r ≡ refuse 20 → d ≡ e → (id : List ℕ) → DoesIn event (whole e t id) r [] (whole d t id)
      order_20 event call d r o f p q id =
          in_them event (whole d t id) r id o.roomy
          (refuses event (whole e t id) (whole d t id) 20 r [] (λ z. o.judged (whole e t id) ∙ require_off 20 _ _ (ending e.phase b ends f)) p (ap (λ x. whole x t id) q) (sym o.no_output))

      is_order : (event : Event) (call : Call) → Orders event call → b ≡ false → (id : List ℕ) → Is event call (whole e t id)
      is_order event call o f id = record { by = o.judged (whole e t id) ∙ require_on 20 _ _ (running_yet e.phase b ends f); lends = o.no_output ∙ sym o.no_lent }

      order_refused :
          (event : Event) (call : Call) (a : Verdict Answer) (x : Connection) (t' : List ℕ) (k : ℕ) (d : ConnectionEngine) (r : Verdict Reply) → Orders event call → b ≡ false
          → ((id : List ℕ) → C.DoesIn call (View.whole e.connection t id) a [] (View.whole x t' id)) → a ≡ refuse k → r ≡ refuse k → d ≡ e → (id : List ℕ) → DoesIn event (whole e t id) r [] (whole d t' id)
      order_refused event call a x t' k d r o f p q w s id =
          let g : t' ≡ t = ap (λ u. u.tables) ((p id).does.refused k q).0 in
          in_them event (whole d t' id) r id o.roomy
          (well_refused event call (whole e t id) (whole d t' id) (View.whole x t' id) k a r [] (is_order event call o f id) (p id).does q w (λ i. whole (s i) (g i) id))

      order_done :
          (event : Event) (call : Call) (ans : Answer) (x : Connection) (t' : List ℕ) (d : ConnectionEngine) (r : R.Running) → Orders event call → b ≡ false
          → ((id : List ℕ) → C.DoesIn call (View.whole e.connection t id) (accept ans) [] (View.whole x t' id)) → 0 ≡ written_in ans → Settles x d → r ≡ goes_on d.phase
          → (id : List ℕ) → DoesIn event (whole e t id) (reply_says (Ok r) 0 0 (Some (accept ans))) [] (whole d t' id)
      order_done event call ans x t' d r o f p c s q id =
          subst (λ u. DoesIn event (whole e t id) (reply_says (Ok u) 0 0 (Some (accept ans))) [] (whole d t' id)) (sym q)
          (in_them event (whole d t' id) _ id o.roomy
          (well_done event call (whole e t id) d (View.whole x t' id) ans (accept ans) [] 0 (is_order event call o f id) (p id).does refl c s))

abbrev NotAllocated : ConnectionEngine → Refusal → OnAllocate → Type 0
NotAllocated e k r = (r.running ≡ Err k) × (r.engine ≡ e)

abbrev NotDeallocated : ConnectionEngine → Refusal → OnDeallocate → Type 0
NotDeallocated e k r = (r.running ≡ Err k) × (r.engine ≡ e)

-- what the events are answered and leave
abbrev Allocates : ConnectionEngine → List ℕ → ℕ → OnAllocate → List ℕ → Type 0
Allocates e t h r t' = (id : List ℕ) → DoesIn (M.allocate h) (whole e t id) (reply_says r.running 0 0 (Some (allocate_says r.answer))) [] (whole r.engine t' id)

abbrev Deallocates : ConnectionEngine → List ℕ → ℕ → OnDeallocate → List ℕ → Type 0
Deallocates e t ch r t' = (id : List ℕ) → DoesIn (M.deallocate ch) (whole e t id) (reply_says r.running 0 0 (Some (freed_says r.answer))) [] (whole r.engine t' id)

module _ (e : ConnectionEngine) (t : List ℕ) (v : Bool) (cover : (id : List ℕ) → v ≡ C.is_covered (View.whole e.connection t id)) where
  pub allocate_8 : (h : ℕ) (r : OnAllocate) → not v ≡ true → NotAllocated e OutOfBounds r → Allocates e t h r t
  allocate_8 h r n w = order_8 e t v cover (M.allocate h) (K.allocate h) r.engine _ (allocates h) n (ap (λ u. reply_says u 0 0 (Some (allocate_says r.answer))) w.0) w.1

  pub deallocate_8 : (ch : ℕ) (r : OnDeallocate) → not v ≡ true → NotDeallocated e OutOfBounds r → Deallocates e t ch r t
  deallocate_8 ch r n w = order_8 e t v cover (M.deallocate ch) (K.deallocate ch) r.engine _ (deallocates ch) n (ap (λ u. reply_says u 0 0 (Some (freed_says r.answer))) w.0) w.1

  module _ (b : Bool) (ends : b ≡ not (is_running (phase_says e.phase))) where
    pub allocate_20 : (h : ℕ) (r : OnAllocate) → not v ≡ false → b ≡ true → NotAllocated e IllegalState r → Allocates e t h r t
    allocate_20 h r n f w = order_20 e t v cover n b ends (M.allocate h) (K.allocate h) r.engine _ (allocates h) f (ap (λ u. reply_says u 0 0 (Some (allocate_says r.answer))) w.0) w.1

    pub deallocate_20 : (ch : ℕ) (r : OnDeallocate) → not v ≡ false → b ≡ true → NotDeallocated e IllegalState r → Deallocates e t ch r t
    deallocate_20 ch r n f w = order_20 e t v cover n b ends (M.deallocate ch) (K.deallocate ch) r.engine _ (deallocates ch) f (ap (λ u. reply_says u 0 0 (Some (freed_says r.answer))) w.0) w.1

    pub allocate_refused :
        (h : ℕ) (a : Result ℕ Refusal) (x : Connection) (t' : List ℕ) (k : Refusal) (r : OnAllocate) → not v ≡ false → b ≡ false
        → ((id : List ℕ) → C.DoesIn (K.allocate h) (View.whole e.connection t id) (allocate_says a) [] (View.whole x t' id)) → a ≡ Err k → NotAllocated e k r → Allocates e t h r t'
    allocate_refused h a x t' k r n f p q w =
        order_refused e t v cover n b ends (M.allocate h) (K.allocate h) (allocate_says a) x t' (number_of k) r.engine _ (allocates h) f p (ap allocate_says q) (ap (λ u. reply_says u 0 0 (Some (allocate_says r.answer))) w.0) w.1

    pub deallocate_refused :
        (ch : ℕ) (a : Result ℕ Refusal) (x : Connection) (t' : List ℕ) (k : Refusal) (r : OnDeallocate) → not v ≡ false → b ≡ false
        → ((id : List ℕ) → C.DoesIn (K.deallocate ch) (View.whole e.connection t id) (freed_says a) [] (View.whole x t' id)) → a ≡ Err k → NotDeallocated e k r → Deallocates e t ch r t'
    deallocate_refused ch a x t' k r n f p q w =
        order_refused e t v cover n b ends (M.deallocate ch) (K.deallocate ch) (freed_says a) x t' (number_of k) r.engine _ (deallocates ch) f p (ap freed_says q) (ap (λ u. reply_says u 0 0 (Some (freed_says r.answer))) w.0) w.1

    pub allocate_done :
        (h : ℕ) (a : Result ℕ Refusal) (x : Connection) (t' : List ℕ) (d : ConnectionEngine) (r : R.Running) → not v ≡ false → b ≡ false
        → ((id : List ℕ) → C.DoesIn (K.allocate h) (View.whole e.connection t id) (allocate_says a) [] (View.whole x t' id)) → ((k : Refusal) → a ≡ Err k → ⊥) → Settles x d → r ≡ goes_on d.phase
        → (id : List ℕ) → DoesIn (M.allocate h) (whole e t id) (reply_says (Ok r) 0 0 (Some (allocate_says a))) [] (whole d t' id)
    allocate_done h (Ok ch) x t' d r n f p o s q = order_done e t v cover n b ends (M.allocate h) (K.allocate h) (K.channel ch) x t' d r (allocates h) f p refl s q
    allocate_done h (Err k) x t' d r n f p o s q = absurd (o k refl)

    pub deallocate_done :
        (ch : ℕ) (a : Result ℕ Refusal) (x : Connection) (t' : List ℕ) (d : ConnectionEngine) (r : R.Running) → not v ≡ false → b ≡ false
        → ((id : List ℕ) → C.DoesIn (K.deallocate ch) (View.whole e.connection t id) (freed_says a) [] (View.whole x t' id)) → ((k : Refusal) → a ≡ Err k → ⊥) → Settles x d → r ≡ goes_on d.phase
        → (id : List ℕ) → DoesIn (M.deallocate ch) (whole e t id) (reply_says (Ok r) 0 0 (Some (freed_says a))) [] (whole d t' id)
    deallocate_done ch (Ok h) x t' d r n f p o s q = order_done e t v cover n b ends (M.deallocate ch) (K.deallocate ch) (K.freed h) x t' d r (deallocates ch) f p refl s q
    deallocate_done ch (Err k) x t' d r n f p o s q = absurd (o k refl)

-- ---- tick

abbrev NotBeaten : ConnectionEngine → Refusal → OnHeartbeat → Type 0
NotBeaten e k r = (r.running ≡ Err k) × (r.engine ≡ e)

abbrev Beats : ConnectionEngine → List ℕ → OnHeartbeat → List ℕ → Type 0
Beats e out r out' = (t id : List ℕ) → Does (M.tick out) (whole e t id) (reply_says r.running 0 (tick_count r.answer) (Some (tick_says r.answer))) out' (whole r.engine t id)

no_reply : (e : ConnectionEngine) (k : Refusal) (r : OnHeartbeat) → NotBeaten e k r → reply_says r.running 0 (tick_count r.answer) (Some (tick_says r.answer)) ≡ refuse (number_of k)
no_reply e k r w = ap (λ u. reply_says u 0 (tick_count r.answer) (Some (tick_says r.answer))) w.0

pub tick_9 : (e : ConnectionEngine) (out : List ℕ) (r : OnHeartbeat) → length out < 16384 → NotBeaten e NoRoom r → Beats e out r out
tick_9 e out r l w t id =
    refuses (M.tick out) (whole e t id) (whole r.engine t id) 9 _ out (λ z. require_off 9 _ _ (room_no 0 out (omega arith))) (no_reply e NoRoom r w) (ap (λ x. whole x t id) w.1) refl

-- 9 comes before the phase, and is judged once
pub nine_once : {A B : Type 0} (room run : Bool) (x : Unit {0} → Verdict A) (f : A → Verdict B) → run ≡ true → require 9 room (λ _. require 20 run (λ _. and_then (require 9 room x) f)) ≡ and_then (require 9 room x) f
nine_once true run x f t = require_on 9 true _ refl ∙ require_on 20 run _ t
nine_once false run x f t = require_off 9 false _ refl ∙ sym (then_refuse _ _ 9 (require_off 9 false _ refl))

module _ (e : ConnectionEngine) (b : Bool) (ends : b ≡ not (is_running (phase_says e.phase))) where
  ticks : (out t id : List ℕ) → b ≡ false → Is (M.tick out) (K.tick out) (whole e t id)
  ticks out t id f = record { by = nine_once (room_for 0 out) _ _ _ (running_yet e.phase b ends f); lends = refl }

  pub tick_20 : (out : List ℕ) (r : OnHeartbeat) → 16384 ≤ length out → b ≡ true → NotBeaten e IllegalState r → Beats e out r out
  tick_20 out r l f w t id =
      refuses (M.tick out) (whole e t id) (whole r.engine t id) 20 _ out (λ z. require_on 9 _ _ (room_yes 0 out (omega arith)) ∙ require_off 20 _ _ (ending e.phase b ends f))
      (no_reply e IllegalState r w) (ap (λ x. whole x t id) w.1) refl

  pub tick_refused :
      (out out' : List ℕ) (a : Result TickAnswer Refusal) (x : Connection) (k : Refusal) (r : OnHeartbeat) → b ≡ false → ((t id : List ℕ) → C.Does (K.tick out) (View.whole e.connection t id) (tick_says a) out' (View.whole x t id))
      → a ≡ Err k → NotBeaten e k r → Beats e out r out'
  tick_refused out out' a x k r f p q w t id =
      well_refused (M.tick out) (K.tick out) (whole e t id) (whole r.engine t id) (View.whole x t id) (number_of k) (tick_says a) _ out' (ticks out t id f) (p t id) (ap tick_says q) (no_reply e k r w) (ap (λ y. whole y t id) w.1)

  tick_well :
      (out out' : List ℕ) (ans : Answer) (x : Connection) (d : ConnectionEngine) (r : R.Running) (n : ℕ) → b ≡ false → ((t id : List ℕ) → C.Does (K.tick out) (View.whole e.connection t id) (accept ans) out' (View.whole x t id))
      → n ≡ written_in ans → Settles x d → r ≡ goes_on d.phase → (t id : List ℕ) → Does (M.tick out) (whole e t id) (reply_says (Ok r) 0 n (Some (accept ans))) out' (whole d t id)
  tick_well out out' ans x d r n f p c s q t id =
      subst (λ u. Does (M.tick out) (whole e t id) (reply_says (Ok u) 0 n (Some (accept ans))) out' (whole d t id)) (sym q)
      (well_done (M.tick out) (K.tick out) (whole e t id) d (View.whole x t id) ans (accept ans) out' n (ticks out t id f) (p t id) refl c s)

  pub tick_done :
      (out out' : List ℕ) (a : Result TickAnswer Refusal) (x : Connection) (d : ConnectionEngine) (r : R.Running) → b ≡ false → ((t id : List ℕ) → C.Does (K.tick out) (View.whole e.connection t id) (tick_says a) out' (View.whole x t id))
      → ((k : Refusal) → a ≡ Err k → ⊥) → Settles x d → r ≡ goes_on d.phase → (t id : List ℕ) → Does (M.tick out) (whole e t id) (reply_says (Ok r) 0 (tick_count a) (Some (tick_says a))) out' (whole d t id)
  tick_done out out' (Ok (Wrote n)) x d r f p o s q = tick_well out out' (K.wrote n) x d r n f p refl s q
  tick_done out out' (Ok Idle) x d r f p o s q = tick_well out out' K.stop x d r 0 f p refl s q
  tick_done out out' (Err k) x d r f p o s q = absurd (o k refl)
