-- Session frames and then a Close: the refusals of a close order, the trail of its calls, and where the event lands.
-- Assumes nothing.
use mathlib.Core.Path.{◌≡◌, refl, sym, ◌∙◌, ap, subst}
use mathlib.Core.Bool.{Bool, true, false, not, ◌&&◌}
use mathlib.Core.List.{List, [], ◌++◌, append-nil}
use Rattle.std.specs.Prelude.{Option, None, Some, Result, Ok, Err}
use Prim.Native.Nat.{ℕ, ◌+◌, ◌*◌, ◌-◌, ◌≤◌}
use native.Mathlib.Omega.{arith}
use lib.ListN.{length, drop, length-append, length-drop}
use lib.Dec.{leb}
use borrow.Author.Tests.{leb-true}
use borrow.Rule.Slice.PartMut.{mid_of, put_mid, same_len_mid, put_same}
use Rattle.octets.specs.Verdict.{Verdict, refuse, accept, require, and_then}
use Rattle.octets.specs.Output.{room_for, laid}
use Rattle.octets.specs.Refusal.{number_of, judged}
use Rattle.octets.specs.declared.Refusal.{Refusal}
use Rattle.octets.proofs.Laws.{require_on, require_off, require_was, then_accept, then_refuse, room_yes}
use Rattle.frame_decoder.specs.Frame.{session_frames}
use denote.Ref.{Bor}
use Rattle.frame_encoder.specs.declared.ErrorText as Code
use Rattle.frame_encoder.specs.Frames.{ErrorText, error_ok, close_ok}
use Rattle.frame_encoder.specs.Answers.{error_text}
use Rattle.connection_model.specs.Connection as K
use Rattle.connection_model.specs.Connection.{Answer, Call, wrote, send_close_to, decide, apply}
use Rattle.endpoint.specs.Answers.{sent_says}
use Rattle.connection.specs.View as View
use Rattle.connection.specs.Promises as C
use Rattle.connection.specs.declared.Connection.{Connection}
use Rattle.connection.specs.declared.Sent.{Sent}
use Rattle.connection.proofs.Calls.{sound_covered}
use Rattle.engine_model.specs.Engine as M
use Rattle.engine_model.specs.Engine.{Event, close_order, is_running, sending, frames_in}
use Rattle.engine.specs.declared.ConnectionEngine.{ConnectionEngine}
use Rattle.engine.specs.declared.Landed.{Landed}
use Rattle.engine.specs.declared.OnOutgoing.{OnOutgoing}
use Rattle.engine.specs.declared.Trailed.{Trailed}
use Rattle.engine.specs.declared.Running as R
use Rattle.engine.specs.Answers.{Whole, whole, connection_in, engine_of, role_of, settings_of, view_of, Sound, phase_says, goes_on, reply, reply_says, sent_count, Bare}
use Rattle.engine.specs.Promises.{Does, DoesIn, LandedIn, landed_in, Settles, Keeps, Lands, Fails}
use Rattle.engine.specs.Sending.{waiting_trail, trailed_in, Drained, Drains, Trails, settles, outgoing_from, GoesOut, ordered, error_if}
use Rattle.engine.proofs.Output.{laid_is, rest_is, laid_behind, fits}
use Rattle.engine.proofs.Does.{comes_to, does, refuses, covered_does, rule_of, inner_refused, inner_accepted}
use Rattle.engine.proofs.Bare.{bare_on}
use Rattle.engine.proofs.Well.{goes_says, goes_taken, ending, running_yet}
use Rattle.engine.proofs.Failing.{close_same, keeps_of, keeps_as, keeps_on}
use Rattle.engine.proofs.Trailing.{then_close, ends_refused, ends_accepted}
use Rattle.engine.proofs.Draining.{trail_on, trail_stops}

-- ---- the refusals of an order

was_not : (b : Bool) → not b ≡ true → b ≡ false
was_not true e = sym e
was_not false e = refl

was : (b : Bool) → not b ≡ false → b ≡ true
was true e = refl
was false e = sym e

module _ (e : ConnectionEngine) (t : List ℕ) (fine : Bool) (w : List ℕ) (output : ℕ) (lacks : Bool) (q : lacks ≡ not (leb (16384 + 2 * length w) output)) where
  abbrev Orders : Verdict ℕ → Type 0
  Orders v = (id : List ℕ) → v ≡ ordered (whole e t id) fine w output

  pub ordered_9 : lacks ≡ true → Orders (refuse 9)
  ordered_9 l id = sym (require_off 9 _ _ (was_not _ (sym q ∙ l)))

  module _ (room : lacks ≡ false) where
    abbrev covered : List ℕ → Bool
    covered id = C.is_covered (View.whole e.connection t id)

    enough : (id : List ℕ) → ordered (whole e t id) fine w output ≡ require 8 (fine && covered id) (λ _. require 20 (is_running (phase_says e.phase)) (λ _. session_frames (settings_of (whole e t id)).channel_max w))
    enough id = require_on 9 _ _ (was _ (sym q ∙ room))

    pub ordered_8 : not fine ≡ true → Orders (refuse 8)
    ordered_8 n id = sym (enough id ∙ require_off 8 _ _ (ap (λ b. b && covered id) (was_not fine n)))

    module _ (ok : not fine ≡ false) (v : Bool) (cover : (id : List ℕ) → v ≡ C.is_covered (View.whole e.connection t id)) where
      are : (id : List ℕ) (b : Bool) → v ≡ b → (fine && covered id) ≡ b
      are id b c = (λ i. was fine ok i && (sym (cover id) ∙ c) i)

      pub ordered_uncovered : not v ≡ true → Orders (refuse 8)
      ordered_uncovered n id = sym (enough id ∙ require_off 8 _ _ (are id false (was_not v n)))

      module _ (long : not v ≡ false) (ends : Bool) (p : ends ≡ not (is_running (phase_says e.phase))) where
        pub ordered_20 : ends ≡ true → Orders (refuse 20)
        ordered_20 n id = sym (enough id ∙ require_on 8 _ _ (are id true (was v long)) ∙ require_off 20 _ _ (ending e.phase ends p n))

        pub ordered_frames : (highest : ℕ) (f : Result ℕ Refusal) → ends ≡ false → highest ≡ e.connection.endpoint.local_open.channel_max → judged f ≡ session_frames highest w → Orders (judged f)
        ordered_frames highest f n h s id =
            s
            ∙ ap (λ (m : ℕ). session_frames m w) h
            ∙ sym (enough id ∙ require_on 8 _ _ (are id true (was v long)) ∙ require_on 20 _ _ (running_yet e.phase ends p n))

-- ---- the last of what goes out

pub lands_out : (l : Landed) (k : Refusal) (r : R.Running) → r ≡ goes_on l.phase → record { running = Ok r; written = l.written; answer = Err k; engine = engine_of l.phase l.connection } ≡ outgoing_from l k
lands_out l k r e = λ i. record { running = Ok (e i); written = l.written; answer = Err k; engine = engine_of l.phase l.connection }

at_last :
    (c : View.Whole) (t : M.Trail) (lent : List ℕ) (v : Verdict Answer) → v ≡ t.last
    → M.onward (View.role_of c) (View.settings_of c) lent settles (record { last = v; connection = t.connection; bytes = t.bytes }) ≡ M.onward (View.role_of c) (View.settings_of c) lent settles t
at_last c t lent v q = ap (λ (x : Verdict Answer). M.onward (View.role_of c) (View.settings_of c) lent settles (record { last = x; connection = t.connection; bytes = t.bytes })) q

module _ (sent : Sent) (n : ℕ) (out : List ℕ) where
  -- whatever the connection is lent
  abbrev Goes : List ℕ → OnOutgoing → Type 0
  Goes out' r = (t id : List ℕ) → GoesOut sent.answer (View.whole sent.connection t id) n out out' r (whole r.engine t id)

  pub out_settles :
      (m w : ℕ) (e : ConnectionEngine) (r : R.Running) → sent.answer ≡ Ok m → Settles sent.connection e → r ≡ goes_on e.phase → (w ≤ length out) × (n + m ≤ length out → w ≡ n + m)
      → Goes out (record { running = Ok r; written = w; answer = Ok m; engine = e })
  out_settles m w e r q s g ad t id =
      let c = View.whole sent.connection t id in
      let d = View.whole e.connection t id in
      let settled-in : d ≡ c = ap (λ x. View.whole x t id) s.settles_with in
      record {
        goes_keeps = keeps_as c d settled-in;
        goes_running = ap (λ (x : R.Running). Ok x) g;
        goes_answer = sym q;
        goes = λ z tr lent room x.
            let count : n + m ≡ n + sent_count sent.answer = ap (λ (y : Result ℕ Refusal). n + sent_count y) (sym q) in
            let sum : w ≡ n + m = ad.1 (omega (arith, x.trails_inside)) in
            subst (λ (L : M.Landing). Lands L lent out (record { phase = e.phase; written = w; connection = d })) (at_last c tr lent (accept (wrote m)) (ap sent_says (sym q) ∙ x.trails_last)) (record {
              lands_phase = s.settles ∙ ap (λ (y : K.Connection). M.settled y.state) x.trails_connection;
              lands_connection = ap View.view_of settled-in ∙ x.trails_connection;
              lands_count = sum ∙ count ∙ x.trails_count;
              lands_output = x.trails_output;
            });
      }

  fails_out :
      (k : Refusal) (f : Option M.Fault) (l : Landed) (out' : List ℕ) → sent.answer ≡ Err k → f ≡ M.send_fault (number_of k) → ((t id : List ℕ) → Fails f (View.whole sent.connection t id) n out out' (landed_in l t id)) → Goes out' (outgoing_from l k)
  fails_out k f l out' q fault p t id =
      let c = View.whole sent.connection t id in
      record {
        goes_keeps = (p t id).fails_keeps;
        goes_running = refl;
        goes_answer = sym q;
        goes = λ z tr lent room x.
            let count : n ≡ length tr.bytes = omega (arith, x.trails_count, ap sent_count q) in
            subst (λ (L : M.Landing). Lands L lent out' (landed_in l t id))
            ((λ i. M.fail (View.role_of c) (View.settings_of c) (fault i) (x.trails_connection i) tr.bytes lent) ∙ at_last c tr lent (refuse (number_of k)) (ap sent_says (sym q) ∙ x.trails_last))
            ((p t id).fails z tr.bytes lent count x.trails_output room (x.trails_room k q));
      }

  pub out_fails :
      (k : Refusal) (f : Option M.Fault) (l : Landed) (out' : List ℕ) (r : OnOutgoing) → sent.answer ≡ Err k → f ≡ M.send_fault (number_of k)
      → ((t id : List ℕ) → Fails f (View.whole sent.connection t id) n out out' (landed_in l t id)) → r ≡ outgoing_from l k → Goes out' r
  out_fails k f l out' r q fault p e = subst (Goes out') (sym e) (fails_out k f l out' q fault p)

-- the event is what goes out, and lands where that leads
gone :
    (event : Event) (e : Whole) (tr : M.Trail) (out out' : List ℕ) (a : Result ℕ Refusal) (c : View.Whole) (n : ℕ) (r : OnOutgoing) (d : Whole)
    → (Sound e → comes_to e event ≡ M.goes (role_of e) (settings_of e) (M.lent event) tr) → room_for 0 (M.lent event) ≡ true → Keeps (connection_in e) c
    → (Sound e → Trails tr (M.lent event) out a n c) → GoesOut a c n out out' r d → Does event e (reply_says r.running 0 r.written (Some (sent_says r.answer))) out' d
gone event e tr out out' a c n r d j room k ts g =
    does event e d (M.goes (role_of e) (settings_of e) (M.lent event) tr) _ out' j
    (λ z. ap (λ (x : Result R.Running Refusal). reply_says x 0 r.written (Some (sent_says r.answer))) g.goes_running
    ∙ goes_says d.engine.phase 0 r.written (Some (sent_says r.answer))
    ∙ (λ i. reply (M.ended_in ((lands z).lands_phase i)) 0 ((lands z).lands_count i) (Some ((ap sent_says g.goes_answer ∙ (ts z).trails_last) i))))
    (λ z. (lands z).lands_output)
    (λ z. λ i. record { phase = (lands z).lands_phase i; connection = (lands z).lands_connection i })
    (λ z. keeps.keeps_sound z)
    keeps.keeps_same
    (λ i q. goes_taken d.engine.phase 0 r.written (Some (sent_says r.answer)) i (ap (λ (x : Result R.Running Refusal). reply_says x 0 r.written (Some (sent_says r.answer))) (sym g.goes_running) ∙ q))
  where
    keeps : Keeps (connection_in e) (connection_in d)
    keeps = keeps_on (connection_in e) c (connection_in d) k g.goes_keeps

    landing_at : LandedIn
    landing_at = record { phase = d.engine.phase; written = r.written; connection = connection_in d }

    lands : Sound e → Lands (M.onward (role_of e) (settings_of e) (M.lent event) settles tr) (M.lent event) out' landing_at
    lands z =
        subst (λ (L : M.Landing). Lands L (M.lent event) out' landing_at)
        (λ i. M.onward (k.keeps_same.same_role i) (k.keeps_same.same_settings i) (M.lent event) settles tr)
        (g.goes (k.keeps_sound z) tr (M.lent event) room (ts z))

-- an event that goes out so is not refused
pub gone_bare :
    (a : Result ℕ Refusal) (c : Connection) (n : ℕ) (out out' : List ℕ) (r : OnOutgoing) (P : Refusal → Type 0) → ((t id : List ℕ) → GoesOut a (View.whole c t id) n out out' r (whole r.engine t id)) → Bare r.running 0 r.written P
gone_bare a c n out out' r P g = bare_on r.running (goes_on r.engine.phase) 0 r.written P (g [] []).goes_running

-- ---- a close order

through : {A B : Type 0} (k : ℕ) (b : Bool) (v : Verdict A) (f : A → Verdict B) → and_then (require k b (λ _. v)) f ≡ require k b (λ _. and_then v f)
through k true v f = ap (λ x. and_then x f) (require_on k true (λ _. v) refl) ∙ sym (require_on k true (λ _. and_then v f) refl)
through k false v f = then_refuse _ f k (require_off k false (λ _. v) refl) ∙ sym (require_off k false (λ _. and_then v f) refl)

with_true : (b c : Bool) → c ≡ true → (b && c) ≡ b
with_true true c e = e
with_true false c e = refl

with_false : (b c : Bool) → c ≡ false → (b && c) ≡ false
with_false true c e = e
with_false false c e = refl

both_true : (b c : Bool) → (b && c) ≡ true → c ≡ true
both_true true c e = e
both_true false c e = let z : ◌≡◌ {A = ℕ} 0 1 = cc in absurd (omega arith)

module _ (error : Option ErrorText) (e : ConnectionEngine) (t w out : List ℕ) where
  abbrev event : Event
  event = close_order error w out

  abbrev replies : OnOutgoing → Verdict M.Reply
  replies r = reply_says r.running 0 r.written (Some (sent_says r.answer))

  -- what the event is answered and leaves
  abbrev Closes : OnOutgoing → List ℕ → List ℕ → Type 0
  Closes r out' t' = (id : List ℕ) → DoesIn event (whole e t id) (replies r) out' (whole r.engine t' id)

  module _ (id : List ℕ) where
    abbrev W : Whole
    W = whole e t id

    abbrev after_8 : Verdict ℕ
    after_8 = require 20 (is_running (phase_says e.phase)) (λ _. session_frames (settings_of W).channel_max w)

    -- the calls of an order with n frames that wait
    abbrev all_calls : ℕ → M.Trail
    all_calls n = M.trail (role_of W) (settings_of W) (wrote 0) (view_of W).connection (sending (frames_in n w) error out)

    abbrev goes_with_lem : ℕ → Verdict M.Result
    goes_with_lem n = M.goes (role_of W) (settings_of W) out (all_calls n)

    order_is : C.is_covered (connection_in W) ≡ true → comes_to W event ≡ and_then (ordered W (close_ok error) w (length out)) goes_with_lem
    unfolding room_for
    order_is c =
        sym (through 9 _ (require 8 (close_ok error && C.is_covered (connection_in W)) (λ _. after_8)) goes_with_lem
        ∙ ap (λ v. require 9 (leb (16384 + 2 * length w) (length out)) (λ _. v)) (through 8 _ after_8 goes_with_lem
        ∙ (λ i. require 8 (with_true (close_ok error) _ c i) (λ _. through 20 (is_running (phase_says e.phase)) (session_frames (settings_of W).channel_max w) goes_with_lem i))))

    -- tables that are too short, where the output has room
    order_uncovered : room_for (length w) out ≡ true → C.is_covered (connection_in W) ≡ false → ordered W (close_ok error) w (length out) ≡ refuse 8
    unfolding room_for
    order_uncovered r n = require_on 9 _ _ r ∙ require_off 8 _ _ (with_false (close_ok error) _ n)

    -- an output that is
    order_roomless : room_for (length w) out ≡ false → ordered W (close_ok error) w (length out) ≡ refuse 9
    unfolding room_for
    order_roomless r = require_off 9 _ _ r

  module _ (fine : Bool) (ok : fine ≡ close_ok error) (f : Result ℕ Refusal) (o : (id : List ℕ) → judged f ≡ ordered (whole e t id) fine w (length out)) where
    order_says : (id : List ℕ) (v : Verdict ℕ) → judged f ≡ v → ordered (whole e t id) (close_ok error) w (length out) ≡ v
    order_says id v q = sym (o id ∙ ap (λ (b : Bool). ordered (whole e t id) b w (length out)) ok) ∙ q

    pub order_refused : (k : Refusal) (r : OnOutgoing) → f ≡ Err k → (r.running ≡ Err k) × (r.engine ≡ e) → Closes r out t
    order_refused k r q p id =
        let says : replies r ≡ refuse (number_of k) = ap (λ (x : Result R.Running Refusal). reply_says x 0 r.written (Some (sent_says r.answer))) p.0 in
        record {
          does = refuses event (W id) (whole r.engine t id) (number_of k) _ out
              (λ z. order_is id (sound_covered (connection_in (W id)) z) ∙ then_refuse _ (goes_with_lem id) (number_of k) (order_says id (refuse (number_of k)) (ap judged q))) says (ap (λ x. whole x t id) p.1) refl;
          roomless = λ m. says ∙ ap refuse (number (sym (order_says id (refuse (number_of k)) (ap judged q)) ∙ order_roomless id m));
          uncovered = λ m n. says ∙ ap refuse (number (sym (order_says id (refuse (number_of k)) (ap judged q)) ∙ order_uncovered id m n));
        }
      where
        number : {j : ℕ} → ◌≡◌ {A = Verdict ℕ} (refuse (number_of k)) (refuse j) → number_of k ≡ j
        number e = cc

    -- the frames that wait
    module _ (n : ℕ) (q : f ≡ Ok n) where
      module _ (id : List ℕ) where
        is_order : ordered (W id) (close_ok error) w (length out) ≡ accept n
        is_order = order_says id (accept n) (ap judged q)

        after_9 : (leb (16384 + 2 * length w) (length out) ≡ true) × (require 8 (close_ok error && C.is_covered (connection_in (W id))) (λ _. after_8 id) ≡ accept n)
        after_9 = require_was 9 _ _ n is_order

        room : 16384 + 2 * length w ≤ length out
        room = leb-true _ _ after_9.0

        long : C.is_covered (connection_in (W id)) ≡ true
        long = both_true (close_ok error) _ (require_was 8 _ _ n after_9.1).0

        are_frames : session_frames (settings_of (W id)).channel_max w ≡ accept n
        are_frames = (require_was 20 _ _ n (require_was 8 _ _ n after_9.1).1).1

        comes : comes_to (W id) event ≡ goes_with_lem id n
        comes = order_is id long ∙ then_accept _ (goes_with_lem id) n is_order

      module _ (d : Trailed) (t₁ out₁ : List ℕ) (p : (id : List ℕ) → Drains (View.whole e.connection t id) n w out out₁ (trailed_in d t₁ id)) where
        module _ (id : List ℕ) where
          -- the connection before and after them
          abbrev first_whole : View.Whole
          first_whole = View.whole e.connection t id

          abbrev drained_whole : View.Whole
          drained_whole = View.whole d.connection t₁ id

          abbrev before : M.Trail
          before = waiting_trail first_whole n w out

          kept : Keeps first_whole drained_whole
          kept = (p id).drains_keeps

          drained : Sound (W id) → Drained before out out₁ (trailed_in d t₁ id)
          drained z = (p id).drains z (are_frames id) (room_yes (length w) out (room id))

          -- there is room for a Close
          same_long : Sound (W id) → length out₁ ≡ length out
          same_long z =
              let x = drained z in
              let l : length out₁ ≡ length before.bytes + length (drop (length before.bytes) out) = ap length (x.drained_output ∙ laid_is before.bytes out) ∙ length-append before.bytes (drop (length before.bytes) out) in
              let m : length (drop (length before.bytes) out) ≡ length out - length before.bytes = length-drop (length before.bytes) out in
              omega (arith, x.drained_count, x.drained_room)

          left_room : Sound (W id) → room_for 0 (drop d.written out₁) ≡ true
          left_room z = room_yes 0 (drop d.written out₁) (omega (arith, length-drop d.written out₁, same_long z, (drained z).drained_room))

          -- one of the frames was refused
          stopped_trails : (k : Refusal) → d.answer ≡ Err k → Sound (W id) → Trails (all_calls id n) out out₁ d.answer d.written drained_whole
          stopped_trails k a z =
              let x = drained z in
              let q : all_calls id n ≡ before = ends_refused (role_of (W id)) (settings_of (W id)) error out (frames_in n w) (wrote 0) (view_of (W id)).connection (number_of k) (sym x.drained_last ∙ ap sent_says a) in
              let none_more : sent_count d.answer ≡ 0 = ap sent_count a in
              subst (λ (T : M.Trail). Trails T out out₁ d.answer d.written drained_whole) (sym q) (record {
                trails_last = x.drained_last;
                trails_connection = x.drained_connection;
                trails_count = omega (arith, x.drained_count);
                trails_output = x.drained_output;
                trails_inside = omega (arith, (p id).drains_inside);
                trails_room = λ j s. left_room z;
              })

        pub order_stopped :
            (k : Refusal) (out' : List ℕ) (r : OnOutgoing) → d.answer ≡ Err k
            → ((u id : List ℕ) → GoesOut d.answer (View.whole d.connection u id) d.written out₁ out' r (whole r.engine u id)) → Closes r out' t₁
        order_stopped k out' r a g id =
            covered_does event (W id) (whole r.engine t₁ id) _ out' (room_yes (length w) out (omega (arith, room id))) (long id)
            (gone event (W id) (all_calls id n) out₁ out' d.answer (drained_whole id) d.written r (whole r.engine t₁ id) (λ z. comes id) (room_yes 0 out (omega (arith, room id))) (kept id) (stopped_trails id k a)
            (g t₁ id))

        -- all were sent, and then the Close
        module _ (sent : Sent) (s : List ℕ) (same : length s ≡ length (mid_of d.written (length out₁ - d.written) out₁)) where
          abbrev rest_out : List ℕ
          rest_out = mid_of d.written (length out₁ - d.written) out₁

          abbrev the_close : Call
          the_close = send_close_to error rest_out

          abbrev out₂ : List ℕ
          out₂ = put_mid d.written (length out₁ - d.written) out₁ s

          module _ (id : List ℕ) where
            abbrev closed_whole : View.Whole
            closed_whole = View.whole sent.connection t₁ id

            as_lent : Sound (W id) → (v : Verdict K.Outcome) → rule_of (drained_whole id) the_close ≡ v → decide (role_of (W id)) (settings_of (W id)) (before id).connection (send_close_to error out) ≡ v
            as_lent z v q =
                close_same (role_of (W id)) (settings_of (W id)) (before id).connection error out rest_out (room_yes 0 out (omega (arith, room id))) (ap (room_for 0) (rest_is out₁ d.written) ∙ left_room id z)
                ∙ (λ i. decide (sym (kept id).keeps_same.same_role i) (sym (kept id).keeps_same.same_settings i) (sym (drained id z).drained_connection i) the_close)
                ∙ q

            all_is : (l : ℕ) → d.answer ≡ Ok l → Sound (W id) → all_calls id n ≡ M.wrote_before (before id).bytes (then_close (role_of (W id)) (settings_of (W id)) error out (wrote l) (before id).connection)
            all_is l a z = ends_accepted (role_of (W id)) (settings_of (W id)) error out (frames_in n w) (wrote 0) (view_of (W id)).connection (wrote l) (sym (drained id z).drained_last ∙ ap sent_says a)

            abbrev Trailing : Type 0
            Trailing = Trails (all_calls id n) out out₂ sent.answer d.written closed_whole

            closed_trails : (l m : ℕ) → d.answer ≡ Ok l → sent.answer ≡ Ok m → C.Does the_close (drained_whole id) (accept (wrote m)) s closed_whole → Sound (W id) → Trailing
            closed_trails l m a b c z =
                let x = drained id z in
                let y = inner_accepted the_close (drained_whole id) closed_whole (wrote m) (accept (wrote m)) s c refl ((kept id).keeps_sound z) in
                let T : all_calls id n ≡ record { last = accept (wrote m); connection = apply (settings_of (W id)) y.outcome.effect (before id).connection; bytes = (before id).bytes ++ (y.outcome.bytes ++ []) } =
                all_is l a z
                ∙ ap (M.wrote_before (before id).bytes) (trail_on (role_of (W id)) (settings_of (W id)) (wrote l) (wrote m) (before id).connection (send_close_to error out) [] y.outcome (as_lent z (accept y.outcome) y.accepts) y.answers) in
                let nil : y.outcome.bytes ++ [] ≡ y.outcome.bytes = append-nil y.outcome.bytes in
                let sums : length ((before id).bytes ++ (y.outcome.bytes ++ [])) ≡ length (before id).bytes + length y.outcome.bytes = ap (λ (k : List ℕ). length ((before id).bytes ++ k)) nil ∙ length-append (before id).bytes y.outcome.bytes in
                let fit : length y.outcome.bytes ≤ length rest_out = fits y.outcome.bytes rest_out s y.puts same in
                let rl : length rest_out ≡ length out₁ - d.written = ap length (rest_is out₁ d.written) ∙ length-drop d.written out₁ in
                let len : length out₂ ≡ length out₁ = same_len_mid d.written (length out₁ - d.written) out₁ s same in
                let cnt : sent_count sent.answer ≡ m = ap sent_count b in
                subst (λ (T : M.Trail). Trails T out out₂ sent.answer d.written closed_whole) (sym T) (record {
                  trails_last = ap sent_says b;
                  trails_connection = y.leads ∙ (λ i. apply ((kept id).keeps_same.same_settings i) y.outcome.effect (x.drained_connection i));
                  trails_count = omega (arith, x.drained_count, y.counts);
                  trails_output = laid_behind (before id).bytes y.outcome.bytes out out₁ s d.written x.drained_count x.drained_output y.puts ∙ ap (λ (k : List ℕ). laid (accept ((before id).bytes ++ k)) out) (sym nil);
                  trails_inside = omega (arith, (p id).drains_inside, y.counts);
                  trails_room = λ k u. let v : ◌≡◌ {A = Result ℕ Refusal} (Ok m) (Err k) = sym b ∙ u in let zz : ◌≡◌ {A = ℕ} 0 1 = cc in absurd (omega arith);
                })

            unclosed_trails : (l : ℕ) (k : Refusal) → d.answer ≡ Ok l → sent.answer ≡ Err k → C.Does the_close (drained_whole id) (refuse (number_of k)) s closed_whole → Sound (W id) → Trailing
            unclosed_trails l k a b c z =
                let x = drained id z in
                let g = c.refused (number_of k) refl in
                let back : out₂ ≡ out₁ = ap (put_mid d.written (length out₁ - d.written) out₁) g.1 ∙ put_same d.written (length out₁ - d.written) out₁ in
                let T : all_calls id n ≡ record { last = refuse (number_of k); connection = (before id).connection; bytes = (before id).bytes ++ [] } =
                all_is l a z
                ∙ ap (M.wrote_before (before id).bytes) (trail_stops (role_of (W id)) (settings_of (W id)) (wrote l) (before id).connection (send_close_to error out) [] (number_of k)
                (as_lent z (refuse (number_of k)) (inner_refused the_close (drained_whole id) closed_whole (number_of k) (refuse (number_of k)) s c refl ((kept id).keeps_sound z)))) in
                let nil : (before id).bytes ++ [] ≡ (before id).bytes = append-nil (before id).bytes in
                let none_more : sent_count sent.answer ≡ 0 = ap sent_count b in
                let sums : length ((before id).bytes ++ []) ≡ length (before id).bytes = ap length nil in
                let len : length out₂ ≡ length out₁ = ap length back in
                subst (λ (T : M.Trail). Trails T out out₂ sent.answer d.written closed_whole) (sym T) (record {
                  trails_last = ap sent_says b;
                  trails_connection = ap View.view_of g.0 ∙ x.drained_connection;
                  trails_count = omega (arith, x.drained_count);
                  trails_output = back ∙ x.drained_output ∙ ap (λ (k : List ℕ). laid (accept k) out) (sym nil);
                  trails_inside = omega (arith, (p id).drains_inside);
                  trails_room = λ j u. ap (λ (o : List ℕ). room_for 0 (drop d.written o)) back ∙ left_room id z;
                })

            sent_trails : (l : ℕ) (a : Result ℕ Refusal) → d.answer ≡ Ok l → sent.answer ≡ a → C.Does the_close (drained_whole id) (sent_says sent.answer) s closed_whole → Sound (W id) → Trailing
            sent_trails l (Ok m) a b c z = closed_trails l m a b (subst (λ (v : Result ℕ Refusal). C.Does the_close (drained_whole id) (sent_says v) s closed_whole) b c) z
            sent_trails l (Err k) a b c z = unclosed_trails l k a b (subst (λ (v : Result ℕ Refusal). C.Does the_close (drained_whole id) (sent_says v) s closed_whole) b c) z

          pub order_sent :
              (l : ℕ) (out' : List ℕ) (r : OnOutgoing) → d.answer ≡ Ok l
              → ((u id : List ℕ) → C.Does the_close (View.whole d.connection u id) (sent_says sent.answer) s (View.whole sent.connection u id))
              → ((u id : List ℕ) → GoesOut sent.answer (View.whole sent.connection u id) d.written out₂ out' r (whole r.engine u id)) → Closes r out' t₁
          order_sent l out' r a c g id =
              covered_does event (W id) (whole r.engine t₁ id) _ out' (room_yes (length w) out (omega (arith, room id))) (long id)
              (gone event (W id) (all_calls id n) out₂ out' sent.answer (closed_whole id) d.written r (whole r.engine t₁ id) (λ z. comes id) (room_yes 0 out (omega (arith, room id)))
              (keeps_on (first_whole id) (drained_whole id) (closed_whole id) (kept id) (keeps_of the_close (drained_whole id) (closed_whole id) (sent_says sent.answer) s (c t₁ id)))
              (sent_trails id l sent.answer a refl (c t₁ id)) (g t₁ id))

-- ---- with an error, or with none

module _ (error : Option (Bor Code.ErrorText)) where
  is_some : (text : Bor Code.ErrorText) → error ≡ Some text → Some (error_text text.now) ≡ error_if error
  is_some text e = ap error_if (sym e)

  is_none : error ≡ None → None ≡ error_if error
  is_none e = ap error_if (sym e)

  pub fine_with : (text : Bor Code.ErrorText) (r : Bool) → error ≡ Some text → r ≡ error_ok (error_text text.now) → r ≡ close_ok (error_if error)
  fine_with text r e q = q ∙ ap close_ok (is_some text e)

  pub fine_without : error ≡ None → true ≡ close_ok (error_if error)
  fine_without e = ap close_ok (is_none e)

  module _ (c d : Connection) (a : Verdict Answer) (out out' : List ℕ) where
    abbrev Sends : Option ErrorText → Type 0
    Sends x = (t id : List ℕ) → C.Does (send_close_to x out) (View.whole c t id) a out' (View.whole d t id)

    pub last_with : (text : Bor Code.ErrorText) → error ≡ Some text → Sends (Some (error_text text.now)) → Sends (error_if error)
    last_with text e p = subst Sends (is_some text e) p

    pub last_without : error ≡ None → Sends None → Sends (error_if error)
    last_without e p = subst Sends (is_none e) p
