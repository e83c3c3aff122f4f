-- A session's frame goes out: refused because of the input, refused because of the state, or written.
-- Assumes nothing.
use mathlib.Core.Path.{◌≡◌, refl, sym, ◌∙◌, ap, subst}
use mathlib.Core.Bool.{Bool, true, false, not}
use mathlib.Core.List.{List, [], ◌∷◌, append-nil}
use Rattle.std.specs.Prelude.{Option, None, Some, Result, Ok, Err}
use Prim.Native.Nat.{ℕ, ◌+◌, ◌*◌, ◌≤◌, ◌<◌}
use native.Mathlib.Omega.{arith}
use lib.ListN.{length}
use lib.Dec.{leb, eqb}
use borrow.Author.Tests.{leb-true, leb-false, le-leb}
use Rattle.octets.specs.Verdict.{Verdict, refuse, accept, and_then}
use Rattle.octets.specs.Output.{room_for, laid}
use Rattle.octets.proofs.Laws.{require_on, require_off, room_yes, room_no}
use Rattle.octets.specs.Refusal.{number_of}
use Rattle.octets.specs.declared.Refusal.{Refusal}
use Rattle.octets.specs.declared.Refusal.TheVariants.{OutOfBounds, NoRoom, IllegalState}
use Rattle.performatives.specs.Performative.{Performative}
use Rattle.frame_decoder.specs.Frame.{Frame, body_in, any_size, any_channel, session_performative, session_frame, begins_for}
use Rattle.frame_encoder.specs.Frames.{limited}
use Rattle.session_frame.specs.Session.{session_bytes}
use Rattle.connection_model.specs.Connection as K
use Rattle.connection_model.specs.Connection.{Role, dialler, listener, wrote, send_session_frame, tied_by, session_sent}
use Rattle.connection_model.proofs.Refusing.{Refuses, takes, turns, on_require, on_then, turned, refused_with_lem, Low, performative_low, frame_low}
use Rattle.endpoint.specs.Answers.{sent_says}
use Rattle.connection.specs.View as View
use Rattle.connection.specs.Promises as C
use Rattle.connection.specs.declared.Connection.{Connection}
use Rattle.engine_model.specs.Engine as M
use Rattle.engine_model.specs.Engine.{Event, Trail, trail, goes, landing, settled, fail, send_fault, outgoing, is_running, lent}
use Rattle.engine.specs.declared.ConnectionEngine.{ConnectionEngine}
use Rattle.engine.specs.declared.error.InnerError.{InnerError}
use Rattle.engine.specs.declared.Landed.{Landed}
use Rattle.engine.specs.declared.OnOutgoing.{OnOutgoing}
use Rattle.engine.specs.declared.Running as R
use Rattle.engine.specs.Answers.{Whole, whole, connection_in, role_of, settings_of, view_of, Sound, phase_says, error_says, goes_on, reply_says}
use Rattle.engine.specs.Promises.{Does, DoesIn, LandedIn, landed_in, Lands, Fails, Settles}
use Rattle.engine.specs.Sending.{outgoing_from}
use Rattle.engine.proofs.Does.{comes_to, refuses, covered_by, uncovered_by, covered_does, roomless_does, uncovered_refuses, rule_of, inner_refused, inner_accepted, Accepted}
use Rattle.engine.proofs.Output.{laid_is}
use Rattle.engine.proofs.Well.{ending, running_yet}
use Rattle.engine.proofs.Failing.{keeps_of, keeps_as, keeps_on}
use Rattle.engine.proofs.Landing.{engine_at, lands_does}

-- ---- which numbers the rule refuses with

abbrev High : ℕ → Type 0
High k = 20 ≤ k

-- the input's refusals are below 20
session_low : (highest : ℕ) (s : List ℕ) → Refuses Low (session_frame highest s)
unfolding session_frame session_performative
session_low highest s =
    on_then _ _ (frame_low any_size any_channel s) (λ f.
    on_then _ _
    (on_then _ _ (performative_low (body_in f s)) (λ p. on_require _ _ _ _ (omega arith) (λ t. on_require _ _ _ _ (omega arith) (λ u. on_require _ _ _ _ (omega arith) (λ v. takes)))))
    (λ p. takes))

tied_high : (role : Role) (rs : List ℕ) (ch : ℕ) (h : Option ℕ) → Refuses High (tied_by role rs ch h)
tied_high dialler rs ch h = takes
tied_high listener [] ch h = takes
tied_high listener (r ∷ rs) ch None = turns {k = 24} (omega arith)
tied_high listener (r ∷ rs) ch (Some h) = takes

limited_high : (limit : ℕ) (bytes : List ℕ) → Refuses High (limited limit bytes)
unfolding limited
limited_high limit bytes = on_require _ _ _ _ (omega arith) (λ t. takes)

-- and the state's are not
sent_high : (role : Role) (c : K.Connection) (s : List ℕ) (r : Frame × Performative) → Refuses High (session_sent role c s r)
sent_high role c s r =
    on_require _ _ _ _ (omega arith)
    (λ t. on_then _ _ (tied_high role (begins_for (eqb r.1.code 17) r.1) r.0.channel (c.taken r.0.channel)) (λ e. on_then _ _ (limited_high c.writing_limit (session_bytes s r)) (λ bytes. takes)))

-- as the code tells the two apart
of_input_low : (k : ℕ) → not (leb 20 k) ≡ true → k < 20
of_input_low k e = not_leb (leb 20 k) refl
  where
    not_leb : (b : Bool) → leb 20 k ≡ b → k < 20
    not_leb true q = let z : ◌≡◌ {A = ℕ} 0 1 = (let w : false ≡ true = ap not (sym q) ∙ e in cc) in absurd (omega arith)
    not_leb false q = leb-false 20 k q

of_state_high : (k : ℕ) → not (leb 20 k) ≡ false → 20 ≤ k
of_state_high k e = leb-true 20 k (go (leb 20 k) e)
  where
    go : (b : Bool) → not b ≡ false → b ≡ true
    go true q = refl
    go false q = let z : ◌≡◌ {A = ℕ} 0 1 = cc in absurd (omega arith)

-- ---- a frame that goes out

pub room_is : (lent : ℕ) (out : List ℕ) (b : Bool) → b ≡ not (leb (16384 + 2 * lent) (length out)) → b ≡ true → room_for lent out ≡ false
unfolding room_for
room_is lent out b e t = go (leb (16384 + 2 * lent) (length out)) (sym t ∙ e)
  where
    go : (x : Bool) → true ≡ not x → x ≡ false
    go true q = let z : ◌≡◌ {A = ℕ} 0 1 = cc in absurd (omega arith)
    go false q = refl

pub room_has : (lent : ℕ) (out : List ℕ) (b : Bool) → b ≡ not (leb (16384 + 2 * lent) (length out)) → b ≡ false → room_for lent out ≡ true
unfolding room_for
room_has lent out b e f = go (leb (16384 + 2 * lent) (length out)) (sym f ∙ e)
  where
    go : (x : Bool) → false ≡ not x → x ≡ true
    go true q = refl
    go false q = let z : ◌≡◌ {A = ℕ} 0 1 = cc in absurd (omega arith)

pub room_fewer : (lent : ℕ) (out : List ℕ) → room_for lent out ≡ true → room_for 0 out ≡ true
unfolding room_for
room_fewer lent out e = let l : 16384 + 2 * lent ≤ length out = leb-true (16384 + 2 * lent) (length out) e in le-leb (16384 + 2 * 0) (length out) (omega arith)

-- as it is answered
gone_does :
    (event : Event) (e : Whole) (out : List ℕ) (l : Landed) (t id : List ℕ) (k : Refusal) (r : OnOutgoing) → r ≡ outgoing_from l k
    → Does event e (reply_says (Ok (goes_on l.phase)) 0 l.written (Some (refuse (number_of k)))) out (engine_at (landed_in l t id))
    → Does event e (reply_says r.running 0 r.written (Some (sent_says r.answer))) out (whole r.engine t id)
gone_does event e out l t id k r q s = subst (λ x. Does event e (reply_says x.running 0 x.written (Some (sent_says x.answer))) out (whole x.engine t id)) (sym q) s

module _ (e : ConnectionEngine) (t s out : List ℕ) where
  abbrev replies : OnOutgoing → Verdict M.Reply
  replies x = reply_says x.running 0 x.written (Some (sent_says x.answer))

  -- what the event is answered and leaves
  abbrev Sends : OnOutgoing → List ℕ → List ℕ → Type 0
  Sends r out' t' = (id : List ℕ) → DoesIn (outgoing s out) (whole e t id) (replies r) out' (whole r.engine t' id)

  abbrev NotSent : Refusal → OnOutgoing → Type 0
  NotSent k r = (r.running ≡ Err k) × (r.engine ≡ e)

  no_reply : (r : OnOutgoing) (k : Refusal) → NotSent k r → replies r ≡ refuse (number_of k)
  no_reply r k w = ap (λ u. reply_says u 0 r.written (Some (sent_says r.answer))) w.0

  same_engine : (r : OnOutgoing) (k : Refusal) (t' id : List ℕ) → NotSent k r → t' ≡ t → whole r.engine t' id ≡ whole e t id
  same_engine r k t' id w q = λ i. whole (w.1 i) (q i) id

  refuses_so :
      (r : OnOutgoing) (k : Refusal) (out' t' id : List ℕ) → (Sound (whole e t id) → comes_to (whole e t id) (outgoing s out) ≡ refuse (number_of k)) → out' ≡ out → t' ≡ t → NotSent k r
      → Does (outgoing s out) (whole e t id) (replies r) out' (whole r.engine t' id)
  refuses_so r k out' t' id j o q w = refuses (outgoing s out) (whole e t id) (whole r.engine t' id) (number_of k) _ out' j (no_reply r k w) (same_engine r k t' id w q) o

  pub outgoing_9 : (r : OnOutgoing) → length out < 16384 → NotSent NoRoom r → Sends r out t
  outgoing_9 r l w id =
      let none_left : room_for 0 out ≡ false = room_no 0 out (omega arith) in
      roomless_does (outgoing s out) (whole e t id) (whole r.engine t id) _ out none_left (no_reply r NoRoom w) (refuses_so r NoRoom out t id (λ z. require_off 9 _ _ none_left) refl refl w)

  module _ (room : 16384 ≤ length out) (v : Bool) (cover : (id : List ℕ) → v ≡ C.is_covered (View.whole e.connection t id)) where
    has : room_for 0 out ≡ true
    has = room_yes 0 out (omega arith)

    pub outgoing_8 : (r : OnOutgoing) → not v ≡ true → NotSent OutOfBounds r → Sends r out t
    outgoing_8 r n w id =
        uncovered_refuses (outgoing s out) (whole e t id) (whole r.engine t id) _ out has (uncovered_by (View.whole e.connection t id) v (cover id) n) (no_reply r OutOfBounds w) (same_engine r OutOfBounds t id w refl) refl

    module _ (long : not v ≡ false) (b : Bool) (ends : b ≡ not (is_running (phase_says e.phase))) where
      in_them : (out' id : List ℕ) (r : Verdict M.Reply) (d : Whole) → Does (outgoing s out) (whole e t id) r out' d → DoesIn (outgoing s out) (whole e t id) r out' d
      in_them out' id r d p = covered_does (outgoing s out) (whole e t id) d r out' has (covered_by (View.whole e.connection t id) v (cover id) long) p

      pub outgoing_20 : (r : OnOutgoing) → b ≡ true → NotSent IllegalState r → Sends r out t
      outgoing_20 r f w id = in_them out id _ _ (refuses_so r IllegalState out t id (λ z. require_on 9 _ _ has ∙ require_off 20 _ _ (ending e.phase b ends f)) refl refl w)

      module _ (run : b ≡ false) where
        abbrev the_call : K.Call
        the_call = send_session_frame s out

        abbrev Answers : Result ℕ Refusal → List ℕ → Connection → List ℕ → Type 0
        Answers a out' d t' = (id : List ℕ) → C.DoesIn the_call (View.whole e.connection t id) (sent_says a) out' (View.whole d t' id)

        module _ (id : List ℕ) where
          abbrev W : Whole
          W = whole e t id

          abbrev trail_by : Verdict K.Outcome → Trail
          trail_by x = M.further (settings_of W) (view_of W).connection (λ a c'. trail (role_of W) (settings_of W) a c' []) x

          abbrev lands_by : Verdict K.Outcome → M.Landing
          lands_by x = M.onward (role_of W) (settings_of W) out (λ c bytes. landing (settled c.state) c bytes) (trail_by x)

          abbrev goes_by : Verdict K.Outcome → Verdict M.Result
          goes_by x = goes (role_of W) (settings_of W) out (trail_by x)

          -- what the event and the call inside it come to
          comes : comes_to W (outgoing s out) ≡ and_then (session_frame (settings_of W).channel_max s) (λ x. goes_by (rule_of (connection_in W) the_call))
          comes = require_on 9 _ _ has ∙ require_on 20 _ _ (running_yet e.phase b ends run)

          calls : rule_of (connection_in W) the_call ≡ and_then (session_frame (settings_of W).channel_max s) (session_sent (role_of W) (view_of W).connection s)
          calls = require_on 9 _ _ has

          input_by :
              (x : Verdict (Frame × Performative)) (k : ℕ) → Refuses Low x → and_then x (session_sent (role_of W) (view_of W).connection s) ≡ refuse k → k < 20
              → and_then x (λ y. goes_by (rule_of (connection_in W) the_call)) ≡ refuse k
          unfolding and_then
          input_by (refuse j) k h q l = ap refuse (ap number q)
            where
              number : Verdict K.Outcome → ℕ
              number (refuse i) = i
              number (accept o) = 0
          input_by (accept x) k h q l = let y : 20 ≤ k = refused_with_lem (sent_high (role_of W) (view_of W).connection s x) q in absurd (omega arith)

          past_by :
              (x : Verdict (Frame × Performative)) (u : Verdict K.Outcome) → ((k : ℕ) → u ≡ refuse k → 20 ≤ k) → Refuses Low x → and_then x (session_sent (role_of W) (view_of W).connection s) ≡ u
              → and_then x (λ y. goes_by u) ≡ goes_by u
          unfolding and_then
          past_by (refuse j) u h l q = let y : 20 ≤ j = h j (sym q) in let x : j < 20 = turned Low l in absurd (omega arith)
          past_by (accept x) u h l q = refl

          past : (u : Verdict K.Outcome) → rule_of (connection_in W) the_call ≡ u → ((k : ℕ) → u ≡ refuse k → 20 ≤ k) → comes_to W (outgoing s out) ≡ goes_by u
          past u q h =
              comes ∙ ap (λ y. and_then (session_frame (settings_of W).channel_max s) (λ x. goes_by y)) q
              ∙ past_by (session_frame (settings_of W).channel_max s) u h (session_low _ s) (sym calls ∙ q)

        -- refused because of the input
        pub outgoing_input : (r : OnOutgoing) (out' : List ℕ) (a : Result ℕ Refusal) (d : Connection) (t' : List ℕ) (k : Refusal) (own : Bool) → Answers a out' d t' → a ≡ Err k → own ≡ not (leb 20 (number_of k)) → own ≡ true → NotSent k r → Sends r out' t'
        outgoing_input r out' a d t' k own p q o y w id =
            let same = (p id).does.refused (number_of k) (ap sent_says q) in
            in_them out' id _ _
            (refuses_so r k out' t' id
            (λ z. comes id ∙ input_by id (session_frame (settings_of (W id)).channel_max s) (number_of k) (session_low _ s) (sym (calls id) ∙ inner_refused the_call (connection_in (W id)) (View.whole d t' id) (number_of k) _ out' (p id).does (ap sent_says q) z) (of_input_low (number_of k) (sym o ∙ y)))
            same.1 (ap (λ x. x.tables) same.0) w)

        -- refused because of the state
        pub outgoing_failing :
            (r : OnOutgoing) (out' out'' : List ℕ) (a : Result ℕ Refusal) (d : Connection) (t' : List ℕ) (k : Refusal) (own : Bool) (error : InnerError) (l : Landed) → Answers a out' d t' → a ≡ Err k → own ≡ not (leb 20 (number_of k)) → own ≡ false
            → error_says error ≡ send_fault (number_of k) → ((u id : List ℕ) → Fails (error_says error) (View.whole d u id) 0 out' out'' (landed_in l u id)) → r ≡ outgoing_from l k → Sends r out'' t'
        outgoing_failing r out' out'' a d t' k own error l p q o y er fa g id =
            let h : 20 ≤ number_of k = of_state_high (number_of k) (sym o ∙ y) in
            let same = (p id).does.refused (number_of k) (ap sent_says q) in
            let L = landed_in l t' id in
            let f' : Fails (send_fault (number_of k)) (connection_in (W id)) 0 out out'' L =
            subst (λ x. Fails (send_fault (number_of k)) (connection_in (W id)) 0 x out'' L) same.1
            (subst (λ x. Fails (send_fault (number_of k)) x 0 out' out'' L) same.0 (subst (λ x. Fails x (View.whole d t' id) 0 out' out'' L) er (fa t' id))) in
            in_them out'' id _ _
            (gone_does (outgoing s out) (W id) out'' l t' id k r g
            (lands_does (outgoing s out) (W id) (fail (role_of (W id)) (settings_of (W id)) (send_fault (number_of k)) (view_of (W id)).connection [] out) 0 0 (Some (refuse (number_of k))) (Some (refuse (number_of k))) out'' L
            (λ z. past id (refuse (number_of k)) (inner_refused the_call (connection_in (W id)) (View.whole d t' id) (number_of k) _ out' (p id).does (ap sent_says q) z) (λ j w. let x : number_of k ≡ j = cc in omega arith))
            (λ z. refl) (λ z. refl)
            (λ z. f'.fails z [] out refl (sym (laid_is [] out)) has has)
            f'.fails_keeps))

        -- written
        pub outgoing_done :
            (out' : List ℕ) (a : Result ℕ Refusal) (d : Connection) (t' : List ℕ) (n : ℕ) (e' : ConnectionEngine) (rr : R.Running) → Answers a out' d t' → a ≡ Ok n → Settles d e' → rr ≡ goes_on e'.phase
            → (id : List ℕ) → DoesIn (outgoing s out) (whole e t id) (reply_says (Ok rr) 0 n (Some (sent_says (Ok n)))) out' (whole e' t' id)
        outgoing_done out' a d t' n e' rr p q st g id =
            let R = rule_of (connection_in (W id)) the_call in
            let D = View.whole d t' id in
            let D' = View.whole e'.connection t' id in
            let l : LandedIn = record { phase = e'.phase; written = n; connection = D' } in
            let settled-in : D' ≡ D = ap (λ x. View.whole x t' id) st.settles_with in
            let w : Sound (W id) → Accepted the_call (connection_in (W id)) D (wrote n) out' = λ z. inner_accepted the_call (connection_in (W id)) D (wrote n) _ out' (p id).does (ap sent_says q) z in
            subst (λ x. DoesIn (outgoing s out) (W id) (reply_says (Ok x) 0 n (Some (accept (wrote n)))) out' (whole e' t' id)) (sym g)
            (in_them out' id _ _
            (lands_does (outgoing s out) (W id) (lands_by id R) 0 0 (Some (trail_by id R).last) (Some (accept (wrote n))) out' l
            (λ z. past id R refl (λ k x. let y : accept (w z).outcome ≡ refuse k = sym (w z).accepts ∙ x in let o : ◌≡◌ {A = ℕ} 0 1 = cc in absurd (omega arith)))
            (λ z. refl)
            (λ z. ap (λ x. Some (accept x)) (sym (w z).answers) ∙ ap (λ x. Some (trail_by id x).last) (sym (w z).accepts))
            (λ z. subst (λ x. Lands (lands_by id x) out out' l) (sym (w z).accepts) (record {
              lands_phase = st.settles ∙ ap (λ c. settled c.state) (w z).leads;
              lands_connection = ap View.view_of settled-in ∙ (w z).leads;
              lands_count = sym (w z).counts ∙ ap length (sym (append-nil (w z).outcome.bytes));
              lands_output = (w z).puts ∙ ap (λ x. laid (accept x) out) (sym (append-nil (w z).outcome.bytes));
            }))
            (keeps_on (connection_in (W id)) D D' (keeps_of the_call (connection_in (W id)) D (sent_says a) out' (p id).does) (keeps_as D D' settled-in))))
