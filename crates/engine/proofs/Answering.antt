-- A Close of the peer is answered: the waiting frames, and then a Close.
-- Assumes nothing.
use mathlib.Core.Path.{◌≡◌, refl, sym, ◌∙◌, ap, subst}
use mathlib.Core.Bool.{true}
use mathlib.Core.List.{List, [], ◌∷◌, ◌++◌, append-nil}
use Rattle.std.specs.Prelude.{None, Result, Ok, Err}
use Prim.Native.Nat.{ℕ, ◌+◌, ◌-◌, ◌≤◌}
use native.Mathlib.Omega.{arith}
use lib.ListN.{length, drop, length-append, length-drop}
use borrow.Rule.Slice.PartMut.{mid_of, put_mid, same_len_mid, put_same}
use Rattle.octets.specs.Verdict.{Verdict, refuse, accept}
use Rattle.octets.specs.Output.{room_for, laid}
use Rattle.octets.proofs.Laws.{room_yes}
use Rattle.octets.specs.Refusal.{number_of}
use Rattle.octets.specs.declared.Refusal.{Refusal}
use Rattle.frame_decoder.specs.Frame.{session_frames}
use Rattle.connection_state.specs.Answers.{state_says}
use Rattle.connection_state.specs.declared.ConnectionState.{ConnectionState}
use Rattle.connection_model.specs.Connection as K
use Rattle.connection_model.specs.Connection.{Answer, wrote, send_close_to, decide, apply}
use Rattle.endpoint.specs.declared.Role as E
use Rattle.endpoint.specs.Answers.{sent_says, role_says}
use Rattle.connection.specs.View as View
use Rattle.connection.specs.Promises as C
use Rattle.connection.specs.declared.Connection.{Connection}
use Rattle.engine_model.specs.Engine as M
use Rattle.engine_model.specs.Engine.{send_fault, frames_in, sending}
use Rattle.engine.specs.declared.error.InnerError.{InnerError}
use Rattle.engine.specs.declared.Landed.{Landed}
use Rattle.engine.specs.declared.Trailed.{Trailed}
use Rattle.engine.specs.declared.Phase.{Phase}
use Rattle.engine.specs.Answers.{phase_says, error_says}
use Rattle.engine.specs.Promises.{LandedIn, landed_in, Lands, Keeps, Fails}
use Rattle.engine.specs.Sending.{TrailedIn, trailed_in, Drains, Drained, waiting_trail}
use Rattle.engine.specs.Reading.{Answered}
use Rattle.engine.proofs.Does.{rule_of, inner_refused, inner_accepted}
use Rattle.engine.proofs.Output.{rest_is, rest_lent, laid_behind, fits}
use Rattle.engine.proofs.Failing.{close_same, keeps_of, keeps_on}
use Rattle.engine.proofs.Outgoing.{room_fewer}
use Rattle.engine.proofs.Trailing.{ends_refused, ends_accepted}

-- of a connection with what it is lent
module _ (a : Verdict Answer) (c : View.Whole) (n : ℕ) (w lent o : List ℕ) (t : TrailedIn) (dr : Drains c n w lent o t) where
  -- what the whole comes to
  abbrev all_calls : M.Trail
  all_calls = M.trail (View.role_of c) (View.settings_of c) (wrote 0) (View.view_of c) (sending (frames_in n w) None lent)

  abbrev rest : K.Connection → List ℕ → M.Landing
  rest c' bytes = M.landing (M.phase_answered (View.role_of c) (View.view_of c).state a c'.state) c' bytes

  abbrev answers_by : M.Trail → M.Landing
  answers_by u = M.onward (View.role_of c) (View.settings_of c) lent rest u

  room_left : (d : Drained (waiting_trail c n w lent) lent o t) → room_for 0 (drop t.written o) ≡ true
  room_left d =
      let l : drop t.written o ≡ drop t.written lent = rest_lent (waiting_trail c n w lent).bytes lent o t.written d.drained_count d.drained_output in
      let k : length (drop t.written lent) ≡ length lent - t.written = length-drop t.written lent in
      let r : 16384 + t.written ≤ length lent = d.drained_room in
      ap (room_for 0) l ∙ room_yes 0 (drop t.written lent) (omega arith)

  onward_refused : (u : M.Trail) (k : ℕ) → u.last ≡ refuse k → M.fail (View.role_of c) (View.settings_of c) (send_fault k) u.connection u.bytes lent ≡ answers_by u
  onward_refused u k q = go u.last q
    where
      go : (v : Verdict Answer) → v ≡ refuse k → M.fail (View.role_of c) (View.settings_of c) (send_fault k) u.connection u.bytes lent ≡ answers_by (record { last = v; connection = u.connection; bytes = u.bytes })
      go (refuse j) e = let x : j ≡ k = cc in ap (λ i. M.fail (View.role_of c) (View.settings_of c) (send_fault i) u.connection u.bytes lent) (sym x)
      go (accept b) e = let z : ◌≡◌ {A = ℕ} 0 1 = cc in absurd (omega arith)

  -- a waiting frame was refused
  refused_answers :
      (k : Refusal) (error : InnerError) (out : List ℕ) (l : LandedIn) → t.answer ≡ Err k → error_says error ≡ send_fault (number_of k) → Fails (error_says error) t.connection t.written o out l → Answered a c n w lent out l
  refused_answers k error out l q e f =
      let kp = dr.drains_keeps in
      record {
        answered_keeps = keeps_on c t.connection l.connection kp f.fails_keeps;
        answered = λ z fr room.
            let d = dr.drains z fr room in
            let T = waiting_trail c n w lent in
            let last : T.last ≡ refuse (number_of k) = sym d.drained_last ∙ ap sent_says q in
            let L = f.fails (kp.keeps_sound z) T.bytes lent d.drained_count d.drained_output (room_fewer (length w) lent room) (room_left d) in
            subst (λ u. Lands u lent out l)
            ((λ i. M.fail (kp.keeps_same.same_role i) (kp.keeps_same.same_settings i) (e i) (d.drained_connection i) T.bytes lent)
            ∙ onward_refused T (number_of k) last
            ∙ ap answers_by (sym (ends_refused (View.role_of c) (View.settings_of c) None lent (frames_in n w) (wrote 0) (View.view_of c) (number_of k) last)))
            L;
      }

  -- ---- the frames were sent, and the Close was tried

  accepted_is : (x : Result ℕ Refusal) → ((k : Refusal) → x ≡ Err k → ⊥) → (b : Answer) × (sent_says x ≡ accept b)
  accepted_is (Ok m) h = (wrote m, refl)
  accepted_is (Err k) h = absurd (h k refl)

  module _ (sent : (k : Refusal) → t.answer ≡ Err k → ⊥) (s : List ℕ) (d : View.Whole) (closed : Result ℕ Refusal) (p : C.Does (send_close_to None (mid_of t.written (length o - t.written) o)) t.connection (sent_says closed) s d)
      (same : length s ≡ length (mid_of t.written (length o - t.written) o)) where
    abbrev left : List ℕ
    left = mid_of t.written (length o - t.written) o

    abbrev out : List ℕ
    out = put_mid t.written (length o - t.written) o s

    kept : Keeps c d
    kept = keeps_on c t.connection d dr.drains_keeps (keeps_of (send_close_to None left) t.connection d (sent_says closed) s p)

    module _ (z : View.Sound c) (fr : session_frames (View.settings_of c).channel_max w ≡ accept n) (room : room_for (length w) lent ≡ true) where
      dd : Drained (waiting_trail c n w lent) lent o t
      dd = dr.drains z fr room

      abbrev T : M.Trail
      T = waiting_trail c n w lent

      sound : View.Sound t.connection
      sound = dr.drains_keeps.keeps_sound z

      -- the Close comes to the same with the whole output lent
      rule_is : decide (View.role_of c) (View.settings_of c) T.connection (send_close_to None lent) ≡ rule_of t.connection (send_close_to None left)
      rule_is =
          (λ i. decide (sym dr.drains_keeps.keeps_same.same_role i) (sym dr.drains_keeps.keeps_same.same_settings i) (sym dd.drained_connection i) (send_close_to None lent))
          ∙ close_same (View.role_of t.connection) (View.settings_of t.connection) (View.view_of t.connection) None lent left (room_fewer (length w) lent room) (ap (room_for 0) (rest_is o t.written) ∙ room_left dd)

      abbrev closing : Verdict K.Outcome → M.Trail
      closing v = M.wrote_before T.bytes (M.further (View.settings_of c) T.connection (λ x c'. M.trail (View.role_of c) (View.settings_of c) x c' []) v)

      all_is : all_calls ≡ closing (rule_of t.connection (send_close_to None left))
      all_is =
          let b = accepted_is t.answer sent in
          ends_accepted (View.role_of c) (View.settings_of c) None lent (frames_in n w) (wrote 0) (View.view_of c) b.0 (sym dd.drained_last ∙ b.1) ∙ ap closing rule_is

      -- the Close was written
      lands_written :
          (m x : ℕ) (ph : Phase) → closed ≡ Ok m → (t.written + m ≤ length out → x ≡ t.written + m) → t.written ≤ length o
          → phase_says ph ≡ M.phase_answered (View.role_of d) (View.view_of c).state a (View.view_of d).state → Lands (answers_by all_calls) lent out (record { phase = ph; written = x; connection = d })
      lands_written m x ph q ad le pe =
          let A = inner_accepted (send_close_to None left) t.connection d (wrote m) _ s p (ap sent_says q) sound in
          let v : View.view_of d ≡ apply (View.settings_of c) A.outcome.effect T.connection = A.leads ∙ (λ i. apply (dr.drains_keeps.keeps_same.same_settings i) A.outcome.effect (dd.drained_connection i)) in
          let fit : length A.outcome.bytes ≤ length left = fits A.outcome.bytes left s A.puts same in
          let long : length left ≡ length o - t.written = ap length (rest_is o t.written) ∙ length-drop t.written o in
          let all : length out ≡ length o = same_len_mid t.written (length o - t.written) o s same in
          let cnt : length A.outcome.bytes ≡ m = A.counts in
          let sum : x ≡ t.written + m = ad (omega arith) in
          let first : t.written ≡ length T.bytes = dd.drained_count in
          let tot : length (T.bytes ++ A.outcome.bytes) ≡ length T.bytes + length A.outcome.bytes = length-append T.bytes A.outcome.bytes in
          let nil : T.bytes ++ (A.outcome.bytes ++ []) ≡ T.bytes ++ A.outcome.bytes = ap (λ y. T.bytes ++ y) (append-nil A.outcome.bytes) in
          let num : x ≡ length (T.bytes ++ A.outcome.bytes) = omega arith in
          subst (λ u. Lands (answers_by u) lent out (record { phase = ph; written = x; connection = d })) (sym (all_is ∙ ap closing A.accepts)) (record {
            lands_phase = pe ∙ (λ i. M.phase_answered (kept.keeps_same.same_role i) (View.view_of c).state a (v i).state);
            lands_connection = v;
            lands_count = num ∙ ap length (sym nil);
            lands_output = laid_behind T.bytes A.outcome.bytes lent o s t.written first dd.drained_output A.puts ∙ ap (λ y. laid (accept y) lent) (sym nil);
          })

      -- the Close was refused
      lands_refused :
          (k : Refusal) (error : InnerError) (out' : List ℕ) (l : LandedIn) → closed ≡ Err k → error_says error ≡ send_fault (number_of k) → Fails (error_says error) d t.written out out' l → Lands (answers_by all_calls) lent out' l
      lands_refused k error out' l q e f =
          let g = p.refused (number_of k) (ap sent_says q) in
          let back : out ≡ o = ap (put_mid t.written (length o - t.written) o) g.1 ∙ put_same t.written (length o - t.written) o in
          let f' : Fails (error_says error) t.connection t.written o out' l = subst (λ y. Fails (error_says error) t.connection t.written y out' l) back (subst (λ y. Fails (error_says error) y t.written out out' l) g.0 f) in
          let r : rule_of t.connection (send_close_to None left) ≡ refuse (number_of k) = inner_refused (send_close_to None left) t.connection d (number_of k) _ s p (ap sent_says q) sound in
          let L = f'.fails sound T.bytes lent dd.drained_count dd.drained_output (room_fewer (length w) lent room) (room_left dd) in
          subst (λ u. Lands u lent out' l)
          ((λ i. M.fail (dr.drains_keeps.keeps_same.same_role i) (dr.drains_keeps.keeps_same.same_settings i) (e i) (dd.drained_connection i) (sym (append-nil T.bytes) i) lent)
          ∙ ap answers_by (sym (all_is ∙ ap closing r)))
          L

    -- ---- of any connection

    unclosed_answers : (k : Refusal) (error : InnerError) (out' : List ℕ) (l : LandedIn) → closed ≡ Err k → error_says error ≡ send_fault (number_of k) → Fails (error_says error) d t.written out out' l → Answered a c n w lent out' l
    unclosed_answers k error out' l q e f = record {
      answered_keeps = keeps_on c d l.connection kept f.fails_keeps;
      answered = λ z fr room. lands_refused z fr room k error out' l q e f;
    }

    closed_answers :
        (m v : ℕ) (ph : Phase) → closed ≡ Ok m → phase_says ph ≡ M.phase_answered (View.role_of d) (View.view_of c).state a (View.view_of d).state → (v ≤ length out) × (t.written + m ≤ length out → v ≡ t.written + m)
        → Answered a c n w lent out (record { phase = ph; written = v; connection = d })
    closed_answers m v ph q pe ad = record {
      answered_keeps = kept;
      answered = λ z fr room. lands_written z fr room m v ph q ad.1 (let i : t.written ≤ length o = dr.drains_inside in i) pe;
    }

-- ---- whatever the container-id

module _ (a : Verdict Answer) (c : Connection) (t : List ℕ) (n : ℕ) (w lent o : List ℕ) (d : Trailed) (t' : List ℕ) (dr : (id : List ℕ) → Drains (View.whole c t id) n w lent o (trailed_in d t' id)) where
  abbrev Answers : List ℕ → Landed → Type 0
  Answers out l = (id : List ℕ) → Answered a (View.whole c t id) n w lent out (landed_in l t' id)

  pub answers_refused :
      (k : Refusal) (error : InnerError) (out : List ℕ) (l : Landed) → d.answer ≡ Err k → error_says error ≡ send_fault (number_of k)
      → ((u id : List ℕ) → Fails (error_says error) (View.whole d.connection u id) d.written o out (landed_in l u id)) → Answers out l
  answers_refused k error out l q e f id = refused_answers a (View.whole c t id) n w lent o (trailed_in d t' id) (dr id) k error out (landed_in l t' id) q e (f t' id)

  module _ (sent : (k : Refusal) → d.answer ≡ Err k → ⊥) (s : List ℕ) (x : Connection) (closed : Result ℕ Refusal)
      (p : (u id : List ℕ) → C.Does (send_close_to None (mid_of d.written (length o - d.written) o)) (View.whole d.connection u id) (sent_says closed) s (View.whole x u id))
      (same : length s ≡ length (mid_of d.written (length o - d.written) o)) where
    pub answers_unclosed :
        (k : Refusal) (error : InnerError) (out : List ℕ) (l : Landed) → closed ≡ Err k → error_says error ≡ send_fault (number_of k)
        → ((u id : List ℕ) → Fails (error_says error) (View.whole x u id) d.written (put_mid d.written (length o - d.written) o s) out (landed_in l u id)) → Answers out l
    answers_unclosed k error out l q e f id =
        unclosed_answers a (View.whole c t id) n w lent o (trailed_in d t' id) (dr id) sent s (View.whole x t' id) closed (p t' id) same k error out (landed_in l t' id) q e (f t' id)

    pub answers_closed :
        (y z : ConnectionState) (role : E.Role) (m v : ℕ) (ph : Phase) → closed ≡ Ok m → y ≡ c.local_state → z ≡ x.local_state → role ≡ x.endpoint.role
        → phase_says ph ≡ M.phase_answered (role_says role) (state_says y) a (state_says z)
        → (v ≤ length (put_mid d.written (length o - d.written) o s)) × (d.written + m ≤ length (put_mid d.written (length o - d.written) o s) → v ≡ d.written + m)
        → Answers (put_mid d.written (length o - d.written) o s) (record { phase = ph; written = v; connection = x })
    answers_closed y z role m v ph q sy sz ro pe ad id =
        closed_answers a (View.whole c t id) n w lent o (trailed_in d t' id) (dr id) sent s (View.whole x t' id) closed (p t' id) same m v ph q
        (pe ∙ (λ i. M.phase_answered (role_says (ro i)) (state_says (sy i)) a (state_says (sz i)))) ad
