-- The calls that open a connection: they leave the phase as it is.
-- Assumes nothing.
use mathlib.Core.Path.{◌≡◌, refl, sym, ◌∙◌, ap}
use mathlib.Core.Bool.{Bool, true, false, not}
use mathlib.Core.List.{List, []}
use Rattle.std.specs.Prelude.{None, Some, Result, Ok, Err}
use Prim.Native.Nat.{ℕ, ◌≤◌, ◌<◌}
use native.Mathlib.Omega.{arith}
use lib.ListN.{length}
use Rattle.octets.specs.Verdict.{Verdict, refuse, accept, and_then}
use Rattle.octets.specs.Output.{room_for, laid}
use Rattle.octets.proofs.Laws.{room_yes, room_no, require_on, require_off, then_accept, then_refuse}
use Rattle.octets.specs.Refusal.{number_of}
use Rattle.octets.specs.declared.Refusal.{Refusal}
use Rattle.octets.specs.declared.Refusal.TheVariants.{NoRoom, IllegalState}
use Rattle.connection_model.specs.Connection as K
use Rattle.connection_model.specs.Connection.{Answer, Call, send_header_to, receive_header_from, send_open_to}
use Rattle.endpoint.specs.Answers.{sent_says}
use Rattle.connection.specs.View as View
use Rattle.connection.specs.View.{header_says}
use Rattle.connection.specs.Promises as C
use Rattle.connection.specs.declared.Connection.{Connection}
use Rattle.connection.specs.declared.HeaderAnswer.{HeaderAnswer}
use Rattle.connection.specs.declared.HeaderAnswer.TheVariants.{Amqp, OtherProtocol}
use Rattle.engine_model.specs.Engine as M
use Rattle.engine_model.specs.Engine.{Event, send_header, receive_header, send_open, opening, lent, is_running, running, replied, landed}
use Rattle.engine.specs.declared.ConnectionEngine.{ConnectionEngine}
use Rattle.engine.specs.declared.OpeningSent.{OpeningSent}
use Rattle.engine.specs.declared.Phase.{Phase}
use Rattle.engine.specs.declared.Phase.TheVariants.{Running, Awaiting, Stopped}
use Rattle.engine.specs.Answers.{Whole, whole, engine_of, connection_in, settings_of, view_of, phase_says, reply, opening_says, sent_count}
use Rattle.engine.specs.Promises.{Does}
use Rattle.engine.proofs.Counted.{written_in}
use Rattle.engine.proofs.Does.{comes_to, refuses, rule_of, inner_refused, inner_accepted}
use Rattle.engine.proofs.Well.{ending, running_yet, nine_once}

runs : (p : Phase) → is_running (phase_says p) ≡ true → phase_says p ≡ running
runs Running e = refl
runs (Awaiting o) e = let z : ◌≡◌ {A = ℕ} 0 1 = cc in absurd (omega arith)
runs (Stopped o) e = let z : ◌≡◌ {A = ℕ} 0 1 = cc in absurd (omega arith)

-- the event is the call
record Opens (event : Event) (call : Call) (consumed : ℕ) (e : Whole) : Type 0 where
  by : comes_to e event ≡ and_then (rule_of (connection_in e) call) (opening (settings_of e) (view_of e).connection consumed)
  lends : lent event ≡ K.lent call
  run : phase_says e.engine.phase ≡ running

module _ (event : Event) (call : Call) (consumed : ℕ) (e : Whole) (i : Opens event call consumed e) (d : View.Whole) (out : List ℕ) (n : ℕ) where
  abbrev later : Whole
  later = whole (engine_of e.engine.phase d.connection) d.tables d.id

  opening_done : (a : Verdict Answer) → ((ans : Answer) → a ≡ accept ans → n ≡ written_in ans) → C.Does call (connection_in e) a out d → Does event e (opening_says consumed n a) out later
  opening_done (refuse k) c p =
      let g = p.refused k refl in
      refuses event e later k (refuse k) out (λ z. i.by ∙ then_refuse _ _ k (inner_refused call (connection_in e) d k (refuse k) out p refl z)) refl
      (ap (λ x. whole (engine_of e.engine.phase x.connection) x.tables x.id) g.0) (g.1 ∙ sym i.lends)
  opening_done (accept ans) c p = record {
    meets = λ z.
        let w = inner_accepted call (connection_in e) d ans (accept ans) out p refl z in
        let j : comes_to e event ≡ opening (settings_of e) (view_of e).connection consumed w.outcome = i.by ∙ then_accept _ _ w.outcome w.accepts in
        record {
          draws = λ t. record {
            reply = ((λ u. reply None consumed ((c ans refl ∙ sym w.counts) u) (Some (accept (sym w.answers u)))) ∙ ap replied (sym j)) t;
            output = (w.puts ∙ ap (laid (accept w.outcome.bytes)) (sym i.lends) ∙ ap (λ u. laid (M.written u) (lent event)) (sym j)) t;
          };
          leaves = (λ t. record { phase = i.run t; connection = w.leads t }) ∙ ap (λ u. landed u (view_of e)) (sym j);
          sound = w.stays_sound;
        };
    same = p.same;
    refused = λ k r. let z : ◌≡◌ {A = ℕ} 0 1 = cc in absurd (omega arith);
  }

-- ---- headers and the Open

abbrev count : Verdict Answer → ℕ
count (refuse k) = 0
count (accept b) = written_in b

sent_counts : (a : Result ℕ Refusal) (ans : Answer) → sent_says a ≡ accept ans → sent_count a ≡ written_in ans
sent_counts (Ok n) ans e = ap count e
sent_counts (Err k) ans e = let z : ◌≡◌ {A = ℕ} 0 1 = cc in absurd (omega arith)

header_counts : (a : Result HeaderAnswer Refusal) (ans : Answer) → header_says a ≡ accept ans → 0 ≡ written_in ans
header_counts (Ok (Amqp n)) ans e = ap count e
header_counts (Ok (OtherProtocol n)) ans e = ap count e
header_counts (Err k) ans e = let z : ◌≡◌ {A = ℕ} 0 1 = cc in absurd (omega arith)

abbrev NotOpening : ConnectionEngine → Refusal → OpeningSent → Type 0
NotOpening e k r = (r.answer ≡ Err k) × (r.engine ≡ e)

-- what an event that sends is answered and leaves
abbrev Sends : Event → ConnectionEngine → OpeningSent → List ℕ → List ℕ → List ℕ → Type 0
Sends event e r out t id = Does event (whole e t id) (opening_says 0 (sent_count r.answer) (sent_says r.answer)) out (whole r.engine t id)

not_opening : (event : Event) (e : ConnectionEngine) (k : Refusal) (r : OpeningSent) (t id : List ℕ) → comes_to (whole e t id) event ≡ refuse (number_of k) → NotOpening e k r → Sends event e r (lent event) t id
not_opening event e k r t id j w =
    refuses event (whole e t id) (whole r.engine t id) (number_of k) _ _ (λ z. j) (ap (λ a. opening_says 0 (sent_count a) (sent_says a)) w.0) (ap (λ x. whole x t id) w.1) refl

pub header_9 : (e : ConnectionEngine) (out : List ℕ) (r : OpeningSent) → length out < 16384 → NotOpening e NoRoom r → (t id : List ℕ) → Sends (send_header out) e r out t id
header_9 e out r l w t id = not_opening (send_header out) e NoRoom r t id (require_off 9 _ _ (room_no 0 out (omega arith))) w

pub open_9 : (e : ConnectionEngine) (id out : List ℕ) (r : OpeningSent) → length out < 16384 → NotOpening e NoRoom r → (t : List ℕ) → Sends (send_open out) e r out t id
open_9 e id out r l w t = not_opening (send_open out) e NoRoom r t id (require_off 9 _ _ (room_no 0 out (omega arith))) w

module _ (e : ConnectionEngine) (b : Bool) (ends : b ≡ not (is_running (phase_says e.phase))) where
  pub header_20 : (out : List ℕ) (r : OpeningSent) → 16384 ≤ length out → b ≡ true → NotOpening e IllegalState r → (t id : List ℕ) → Sends (send_header out) e r out t id
  header_20 out r l f w t id = not_opening (send_header out) e IllegalState r t id (require_on 9 _ _ (room_yes 0 out (omega arith)) ∙ require_off 20 _ _ (ending e.phase b ends f)) w

  pub open_20 : (id out : List ℕ) (r : OpeningSent) → 16384 ≤ length out → b ≡ true → NotOpening e IllegalState r → (t : List ℕ) → Sends (send_open out) e r out t id
  open_20 id out r l f w t = not_opening (send_open out) e IllegalState r t id (require_on 9 _ _ (room_yes 0 out (omega arith)) ∙ require_off 20 _ _ (ending e.phase b ends f)) w

  pub received_20 : (s : List ℕ) → b ≡ true → (t id : List ℕ) → Does (receive_header s) (whole e t id) (opening_says 8 0 (header_says (Err IllegalState))) [] (whole e t id)
  received_20 s f t id = refuses (receive_header s) (whole e t id) (whole e t id) 20 _ _ (λ z. require_off 20 _ _ (ending e.phase b ends f)) refl refl refl

  pub header_sent_is :
      (out out' : List ℕ) (a : Result ℕ Refusal) (d : Connection) → b ≡ false → ((t id : List ℕ) → C.Does (send_header_to out) (View.whole e.connection t id) (sent_says a) out' (View.whole d t id))
      → (t id : List ℕ) → Does (send_header out) (whole e t id) (opening_says 0 (sent_count a) (sent_says a)) out' (whole (engine_of e.phase d) t id)
  header_sent_is out out' a d f p t id =
      let r = running_yet e.phase b ends f in
      opening_done (send_header out) (send_header_to out) 0 (whole e t id) (record { by = nine_once (room_for 0 out) _ _ _ r; lends = refl; run = runs e.phase r }) (View.whole d t id) out' _ (sent_says a) (sent_counts a) (p t id)

  pub open_sent :
      (id out out' : List ℕ) (a : Result ℕ Refusal) (d : Connection) → b ≡ false → ((t : List ℕ) → C.Does (send_open_to out) (View.whole e.connection t id) (sent_says a) out' (View.whole d t id))
      → (t : List ℕ) → Does (send_open out) (whole e t id) (opening_says 0 (sent_count a) (sent_says a)) out' (whole (engine_of e.phase d) t id)
  open_sent id out out' a d f p t =
      let r = running_yet e.phase b ends f in
      opening_done (send_open out) (send_open_to out) 0 (whole e t id) (record { by = nine_once (room_for 0 out) _ _ _ r; lends = refl; run = runs e.phase r }) (View.whole d t id) out' _ (sent_says a) (sent_counts a) (p t)

  pub header_received :
      (s : List ℕ) (a : Result HeaderAnswer Refusal) (d : Connection) → b ≡ false → ((t id : List ℕ) → C.Does (receive_header_from s) (View.whole e.connection t id) (header_says a) [] (View.whole d t id))
      → (t id : List ℕ) → Does (receive_header s) (whole e t id) (opening_says 8 0 (header_says a)) [] (whole (engine_of e.phase d) t id)
  header_received s a d f p t id =
      let r = running_yet e.phase b ends f in
      opening_done (receive_header s) (receive_header_from s) 8 (whole e t id) (record { by = require_on 20 _ _ r; lends = refl; run = runs e.phase r }) (View.whole d t id) [] 0 (header_says a) (header_counts a) (p t id)
