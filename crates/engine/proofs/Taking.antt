-- A frame comes in: refused by the event itself, or taken as the phase and the answer have it.
-- Assumes nothing.
use mathlib.Core.Path.{◌≡◌, refl, sym, ◌∙◌, ap, subst}
use mathlib.Core.Bool.{Bool, true, false, not, ◌&&◌}
use mathlib.Core.List.{List, [], ◌∷◌}
use Rattle.std.specs.Prelude.{Some, Result, Ok, Err}
use Prim.Native.Nat.{ℕ, ◌+◌, ◌*◌}
use native.Mathlib.Omega.{arith}
use lib.ListN.{length}
use lib.Dec.{leb}
use Rattle.octets.specs.Verdict.{Verdict, refuse, accept, and_then}
use Rattle.octets.specs.Output.{room_for}
use Rattle.octets.specs.Refusal.{number_of, judged}
use Rattle.octets.specs.declared.Refusal.{Refusal}
use Rattle.octets.specs.declared.Refusal.TheVariants.{BytesMissing, OutOfBounds, NoRoom, IllegalState}
use Rattle.octets.proofs.Laws.{require_on, require_off, then_accept, then_refuse}
use Rattle.frame_decoder.specs.Frame.{size_of, read_frame, session_frames}
use Rattle.frame_encoder.specs.Frames.{Settings}
use Rattle.connection_state.specs.States.{State, CloseReceived, is}
use Rattle.connection_state.specs.Answers.{state_says}
use Rattle.connection_state.specs.declared.ConnectionState.{ConnectionState}
use Rattle.connection_model.specs.Connection as K
use Rattle.connection_model.specs.Connection.{Role, Answer, receive_frame, answered}
use Rattle.endpoint.specs.declared.FrameAnswer.{FrameAnswer}
use Rattle.endpoint.specs.Answers.{answer_says, role_says}
use Rattle.connection.specs.View as View
use Rattle.connection.specs.Promises as C
use Rattle.connection.specs.declared.Connection.{Connection}
use Rattle.engine_model.specs.Engine as M
use Rattle.engine_model.specs.Engine.{incoming, is_stopped, is_close, frames_in, results, lacks, consumed_of}
use Rattle.engine.specs.declared.ConnectionEngine.{ConnectionEngine}
use Rattle.engine.specs.declared.Landed.{Landed}
use Rattle.engine.specs.declared.OnIncoming.{OnIncoming}
use Rattle.engine.specs.declared.Outcome.{Outcome}
use Rattle.engine.specs.declared.Phase.{Phase}
use Rattle.engine.specs.declared.Phase.TheVariants.{Running, Awaiting, Stopped}
use Rattle.engine.specs.Answers.{Whole, whole, connection_in, role_of, settings_of, view_of, Sound, phase_says, outcome_says, goes_on, reply_says}
use Rattle.engine.specs.Promises.{Does, DoesIn, LandedIn, landed_in, Lands, LeadsTo, awaited_by, consumed_for}
use Rattle.engine.specs.Reading.{Answered, Took, Taken, answers_close, read_by, lacks_bytes}
use Rattle.engine.proofs.Does.{comes_to, refuses, covered_by, uncovered_by, covered_does, roomless_does, uncovered_refuses, rule_of}
use Rattle.engine.proofs.Output.{laid_is}
use Rattle.engine.proofs.Failing.{keeps_of, keeps_self, keeps_on}
use Rattle.engine.proofs.Landing.{engine_at, lands_does}
use Rattle.engine.proofs.Missing.{missing_is}
use Rattle.engine.proofs.Outgoing.{room_is, room_has, room_fewer}

-- ---- where a frame leads, by the phase

module _ (e : ConnectionEngine) (s : List ℕ) (a : Verdict Answer) (c : Connection) (u : List ℕ) (n : ℕ) (w lent : List ℕ) where
  -- the engine's own tables, from before the frame, decide nothing
  abbrev Takes : List ℕ → List ℕ → Landed → Type 0
  Takes out u' l = (t id : List ℕ) → Took (whole e t id) s a (View.whole c u id) n w lent out (landed_in l u' id)

  abbrev answers_in : List ℕ → List ℕ → State → Bool
  answers_in t id x = answers_close (View.view_of (connection_in (whole e t id))).reading_limit (View.settings_of (connection_in (whole e t id))).channel_max s x

  abbrev by : List ℕ → Bool → M.Phase → M.Landing
  by id f p = read_by (View.role_of (View.whole c u id)) (View.settings_of (View.whole c u id)) (frames_in n w) lent f p a (View.view_of (View.whole c u id))

  pub took_awaiting :
      (kept : Outcome) (p : Phase) → e.phase ≡ Awaiting kept → phase_says p ≡ awaited_by (role_says c.endpoint.role) (outcome_says kept) (state_says c.local_state) a
      → Takes lent u (record { phase = p; written = 0; connection = c })
  took_awaiting kept p q h t id =
      let l : LandedIn = record { phase = p; written = 0; connection = View.whole c u id } in
      record {
        took_keeps = keeps_self (View.whole c u id);
        took = λ z st fr room. subst (λ x. Lands (by id (answers_in t id (state_says c.local_state)) (phase_says x)) lent lent l) (sym q)
            (record { lands_phase = h; lands_connection = refl; lands_count = refl; lands_output = sym (laid_is [] lent) });
      }

  running_by : (p : Phase) → ((x : Outcome) → p ≡ Awaiting x → ⊥) → is_stopped (phase_says p) ≡ false → phase_says p ≡ M.running
  running_by Running o st = refl
  running_by (Awaiting x) o st = absurd (o x refl)
  running_by (Stopped x) o st = let z : ◌≡◌ {A = ℕ} 0 1 = cc in absurd (omega arith)

  module _ (o : (x : Outcome) → e.phase ≡ Awaiting x → ⊥) (x : ConnectionState) (sx : x ≡ c.local_state) (b : Bool)
      (bx : (t id : List ℕ) → b ≡ answers_close (View.view_of (connection_in (whole e t id))).reading_limit (View.settings_of (connection_in (whole e t id))).channel_max s (state_says x)) where
    flag_is : (t id : List ℕ) → b ≡ answers_in t id (state_says c.local_state)
    flag_is t id = bx t id ∙ ap (λ y. answers_in t id (state_says y)) sx

    pub took_answered : (out u' : List ℕ) (l : Landed) → b ≡ true → ((id : List ℕ) → Answered a (View.whole c u id) n w lent out (landed_in l u' id)) → Takes out u' l
    took_answered out u' l y an t id = record {
      took_keeps = (an id).answered_keeps;
      took = λ z st fr room. subst (λ L. Lands L lent out (landed_in l u' id)) (λ i. by id ((sym y ∙ flag_is t id) i) (sym (running_by e.phase o st) i)) ((an id).answered z fr room);
    }

    pub took_read : (out : List ℕ) (l : Landed) → b ≡ false → ((t id : List ℕ) → LeadsTo (state_says x) a (View.whole c t id) 0 lent out (landed_in l t id)) → Takes out u l
    took_read out l f le t id = record {
      took_keeps = (le u id).leads_keeps;
      took = λ z st fr room.
          let yes = room_fewer (length w) lent room in
          subst (λ L. Lands L lent out (landed_in l u id))
          ((λ i. M.read_to (View.role_of (View.whole c u id)) (View.settings_of (View.whole c u id)) lent (state_says (sx i)) a (View.view_of (View.whole c u id)) [])
          ∙ (λ i. by id ((sym f ∙ flag_is t id) i) (sym (running_by e.phase o st) i)))
          ((le u id).leads_to z [] lent refl (sym (laid_is [] lent)) yes yes);
    }

-- ---- the event

consumed_said : (s : List ℕ) (v : Verdict Answer) → consumed_for v (size_of s) ≡ consumed_of s v
consumed_said s (refuse k) = refl
consumed_said s (accept a) = refl

-- the definition by the answer and the connection afterwards
reads_is :
    (role : Role) (S : Settings) (fs : List (List ℕ)) (lent : List ℕ) (close : Bool) (v : Verdict K.Outcome) (c : K.Connection) (p : M.Phase) → is_stopped p ≡ false
    → read_by role S fs lent (close && is CloseReceived (K.after S v c).state) p (answered v) (K.after S v c) ≡ M.reads role S fs lent close v (record { phase = p; connection = c })
reads_is role S fs lent close v c M.running st = refl
reads_is role S fs lent close (refuse k) c (M.awaiting o) st = refl
reads_is role S fs lent close (accept w) c (M.awaiting o) st = refl
reads_is role S fs lent close v c (M.stopped o) st = let z : ◌≡◌ {A = ℕ} 0 1 = cc in absurd (omega arith)

module _ (e : ConnectionEngine) (t s : List ℕ) (h : ℕ) (w out : List ℕ) where
  abbrev event : M.Event
  event = incoming s h w out

  abbrev replies : OnIncoming → Verdict M.Reply
  replies r = reply_says r.running r.consumed r.written (Some (answer_says r.answer))

  -- what the event is answered and leaves
  abbrev Comes : OnIncoming → List ℕ → List ℕ → Type 0
  Comes r out' t' = (id : List ℕ) → DoesIn event (whole e t id) (replies r) out' (whole r.engine t' id)

  abbrev NotTaken : Refusal → OnIncoming → Type 0
  NotTaken k r = (r.running ≡ Err k) × (r.engine ≡ e)

  no_reply : (r : OnIncoming) (k : Refusal) → NotTaken k r → replies r ≡ refuse (number_of k)
  no_reply r k q = ap (λ u. reply_says u r.consumed r.written (Some (answer_says r.answer))) q.0

  refuses_so : (r : OnIncoming) (k : Refusal) (id : List ℕ) → (Sound (whole e t id) → comes_to (whole e t id) event ≡ refuse (number_of k)) → NotTaken k r → Does event (whole e t id) (replies r) out (whole r.engine t id)
  refuses_so r k id j q = refuses event (whole e t id) (whole r.engine t id) (number_of k) _ out j (no_reply r k q) (ap (λ x. whole x t id) q.1) refl

  module _ (short : Bool) (sh : short ≡ not (leb (16384 + 2 * length w) (length out))) where
    pub incoming_9 : (r : OnIncoming) → short ≡ true → NotTaken NoRoom r → Comes r out t
    incoming_9 r y q id =
        let none_left = room_is (length w) out short sh y in
        roomless_does event (whole e t id) (whole r.engine t id) _ out none_left (no_reply r NoRoom q) (refuses_so r NoRoom id (λ z. require_off 9 _ _ none_left) q)

    module _ (room : short ≡ false) (v : Bool) (cover : (id : List ℕ) → v ≡ C.is_covered (View.whole e.connection t id)) where
      has : room_for (length w) out ≡ true
      has = room_has (length w) out short sh room

      pub incoming_8 : (r : OnIncoming) → not v ≡ true → NotTaken OutOfBounds r → Comes r out t
      incoming_8 r y q id =
          uncovered_refuses event (whole e t id) (whole r.engine t id) _ out has (uncovered_by (View.whole e.connection t id) v (cover id) y) (no_reply r OutOfBounds q) (ap (λ x. whole x t id) q.1) refl

      module _ (long : not v ≡ false) (b : Bool) (st : b ≡ is_stopped (phase_says e.phase)) where
        in_them : (out' id : List ℕ) (r : Verdict M.Reply) (d : Whole) → Does event (whole e t id) r out' d → DoesIn event (whole e t id) r out' d
        in_them out' id r d p = covered_does event (whole e t id) d r out' has (covered_by (View.whole e.connection t id) v (cover id) long) p

        pub incoming_20 : (r : OnIncoming) → b ≡ true → NotTaken IllegalState r → Comes r out t
        incoming_20 r y q id = in_them out id _ _ (refuses_so r IllegalState id (λ z. require_on 9 _ _ has ∙ require_off 20 _ _ (ap not (sym st ∙ y))) q)

        module _ (goes : b ≡ false) (limit : ℕ) (li : limit ≡ e.connection.endpoint.reading_limit) (m : Bool) (ms : m ≡ lacks_bytes limit s) where
          abbrev rule : List ℕ → Verdict K.Outcome
          rule id = rule_of (connection_in (whole e t id)) (receive_frame s h)

          misses : (id : List ℕ) → m ≡ lacks (rule id)
          misses id = ms ∙ ap (λ l. lacks_bytes l s) li ∙ sym (missing_is (role_of (whole e t id)) (settings_of (whole e t id)) (view_of (whole e t id)).connection s h)

          pub incoming_1 : (r : OnIncoming) → m ≡ true → NotTaken BytesMissing r → Comes r out t
          incoming_1 r y q id = in_them out id _ _ (refuses_so r BytesMissing id (λ z. require_on 9 _ _ has ∙ require_on 20 _ _ (ap not (sym st ∙ goes)) ∙ require_off 1 _ _ (ap not (sym (misses id) ∙ y))) q)

          module _ (there : m ≡ false) (f : Result ℕ Refusal) (highest : ℕ) (hi : highest ≡ e.connection.endpoint.local_open.channel_max) (fs : judged f ≡ session_frames highest w) where
            module _ (id : List ℕ) where
              abbrev W : Whole
              W = whole e t id

              abbrev close : Bool
              close = is_close (read_frame (view_of W).connection.reading_limit (settings_of W).channel_max s)

              frames_are : session_frames (settings_of W).channel_max w ≡ judged f
              frames_are = ap (λ x. session_frames x w) (sym hi) ∙ sym fs

              abbrev tail : ℕ → Verdict M.Result
              tail n = results (M.reads (role_of W) (settings_of W) (frames_in n w) out close (rule id) (view_of W)) (consumed_of s (answered (rule id))) (Some (answered (rule id)))

              comes : comes_to W event ≡ and_then (judged f) tail
              comes = require_on 9 _ _ has ∙ require_on 20 _ _ (ap not (sym st ∙ goes)) ∙ require_on 1 _ _ (ap not (sym (misses id) ∙ there)) ∙ ap (λ x. and_then x tail) frames_are

            pub incoming_waiting : (r : OnIncoming) (k : Refusal) → f ≡ Err k → NotTaken k r → Comes r out t
            incoming_waiting r k o g id = in_them out id _ _ (refuses_so r k id (λ z. comes id ∙ then_refuse _ (tail id) (number_of k) (ap judged o)) g)

            pub incoming_done :
                (n : ℕ) (a : Result FrameAnswer Refusal) (after : Connection) (t₁ out' t₂ : List ℕ) (l : Landed) (size consumed : ℕ) (r : OnIncoming) → f ≡ Ok n
                → ((id : List ℕ) → C.DoesIn (receive_frame s h) (View.whole e.connection t id) (answer_says a) [] (View.whole after t₁ id))
                → ((u id : List ℕ) → Took (whole e u id) s (answer_says a) (View.whole after t₁ id) n w out out' (landed_in l t₂ id)) → size ≡ size_of s → consumed ≡ consumed_for (answer_says a) size
                → Taken l a consumed r → Comes r out' t₂
            incoming_done n a after t₁ out' t₂ l size consumed r q p tk sz co g id =
                let D = View.whole after t₁ id in
                let L = landed_in l t₂ id in
                let k = keeps_of (receive_frame s h) (connection_in (W id)) D (answer_says a) [] (p id).does in
                let says : Sound (W id) → answer_says a ≡ answered (rule id) = λ z. ap (λ x. x.answer) ((p id).does.meets z).draws in
                let d : Does event (W id) (reply_says (Ok (goes_on l.phase)) consumed l.written (Some (answer_says a))) out' (engine_at L) =
                lands_does event (W id) (M.reads (role_of (W id)) (settings_of (W id)) (frames_in n w) out (close id) (rule id) (view_of (W id)))
                (consumed_of s (answered (rule id))) consumed (Some (answered (rule id))) (Some (answer_says a)) out' L
                (λ z. comes id ∙ then_accept _ (tail id) n (ap judged q))
                (λ z. co ∙ ap (consumed_for (answer_says a)) sz ∙ consumed_said s (answer_says a) ∙ ap (consumed_of s) (says z))
                (λ z. ap Some (says z))
                (λ z.
                let lv = ((p id).does.meets z).leaves in
                let stn : is_stopped (phase_says e.phase) ≡ false = sym st ∙ goes in
                subst (λ x. Lands x out out' L)
                ((λ i. read_by (k.keeps_same.same_role i) (k.keeps_same.same_settings i) (frames_in n w) out (close id && is CloseReceived (lv i).state) (phase_says e.phase) (says z i) (lv i))
                ∙ reads_is (role_of (W id)) (settings_of (W id)) (frames_in n w) out (close id) (rule id) (view_of (W id)).connection (phase_says e.phase) stn)
                ((tk t id).took ((p id).does.meets z).sound stn (ap (λ x. session_frames x.channel_max w) k.keeps_same.same_settings ∙ frames_are id ∙ ap judged q) has))
                (keeps_on (connection_in (W id)) D L.connection k (tk t id).took_keeps) in
                let x : replies r ≡ reply_says (Ok (goes_on l.phase)) consumed l.written (Some (answer_says a)) = λ i. reply_says (g.taken_running i) (g.taken_consumed i) (g.taken_written i) (Some (answer_says (g.taken_answer i))) in
                in_them out' id _ _
                (subst (λ u. Does event (W id) u out' (whole r.engine t₂ id)) (sym x)
                (subst (λ u. Does event (W id) (reply_says (Ok (goes_on l.phase)) consumed l.written (Some (answer_says a))) out' (whole u t₂ id)) (sym g.taken_engine) d))
