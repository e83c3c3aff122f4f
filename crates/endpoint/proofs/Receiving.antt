-- What each return of the calls that allocate, deallocate and receive shows, with the facts as they come.
-- Assumes nothing.
use mathlib.Core.Path.{◌≡◌, refl, sym, ◌∙◌, ap, subst}
use mathlib.Core.Bool.{Bool, true, false, cond}
use mathlib.Core.List.{List, [], ◌∷◌}
use Rattle.std.specs.Prelude.{Option, None, Some, Result, Ok, Err}
use Prim.Native.Nat.{ℕ, suc, ◌-◌, ◌≤◌, ◌<◌}
use native.Mathlib.Omega.{arith}
use lib.Dec.{leb, eqb}
use borrow.Author.Tests.{le-leb, lt-leb, eq-eqb}
use Rattle.octets.specs.Verdict.{Verdict, refuse, accept, require}
use Rattle.octets.specs.Refusal.{number_of, judged}
use Rattle.octets.specs.declared.Refusal.{Refusal}
use Rattle.octets.specs.declared.Refusal.TheVariants.{ChannelTooHigh, IllegalState, NotFound, NotImplemented}
use Rattle.octets.proofs.Laws.{require_on, require_off}
use Rattle.performatives.specs.declared.Performative.{Performative}
use Rattle.performatives.specs.declared.Performative.TheVariants.{Begin}
use Rattle.performatives.specs.Answers.{channel_says, performative_says}
use Rattle.frame_decoder.specs.Frame.{Frame}
use Rattle.connection_state.specs.States.{State, Opened, is_one_of, reading}
use Rattle.connection_state.specs.declared.ConnectionState.{ConnectionState}
use Rattle.connection_state.specs.Answers.{state_says}
use Rattle.connection_model.specs.Connection.{Answer, Outcome, says, apply, stay, take, tie, forwarded, began, given, released, begun, new_session, tie_to, untie, pass_on, session_read}
use Rattle.channels.specs.Channels.{next_of, Allocates, Frees}
use Rattle.channels.specs.Ties.{Tie, tie_of, handle_of, dropped}
use Rattle.channels.specs.Lists.{Changes, Drops}
use Rattle.channels.specs.declared.OutgoingChannels.{OutgoingChannels}
use Rattle.channels.specs.declared.Allocation.{Allocation}
use Rattle.channels.specs.declared.Deallocation.{Deallocation}
use Rattle.channels.proofs.Limits.{apart}
use Rattle.channels.proofs.Kept.{ties_kept, listed_kept, hand_out_kept, taken_kept, numbers_kept}
use Rattle.channels.proofs.Laws.{next_starts}
use Rattle.endpoint.specs.declared.Role.{Role}
use Rattle.endpoint.specs.declared.Role.TheVariants.{Dialler, Listener}
use Rattle.endpoint.specs.declared.Endpoint.{Endpoint}
use Rattle.endpoint.specs.declared.Incoming.{Incoming}
use Rattle.endpoint.specs.declared.FrameAnswer.{FrameAnswer}
use Rattle.endpoint.specs.declared.Routed.{Routed}
use Rattle.endpoint.specs.Answers.{Whole, whole, role_says, role_of, settings_of, places_of, hand_out_of, taken_of, ties_of, view_as, frame_of, came_says, answer_says, allocate_says, deallocate_says}
use Rattle.endpoint.specs.Promises.{Sound, Same, Step, Steps, endpoint_of}
use Rattle.endpoint.proofs.Basics.{alike, same_all, stays, moves, moves_as, same_rule, taken_within, retied, retied_sound, retied_same}

-- ---- endpoints

-- an endpoint with other limits and numbers
abbrev pub holding : Endpoint → ℕ → ℕ → OutgoingChannels → Endpoint
holding e r w o = endpoint_of e.role e.local_open r w o

-- with other numbers
abbrev pub counting : Endpoint → OutgoingChannels → Endpoint
counting e o = holding e e.reading_limit e.writing_limit o

-- ---- allocate

none_given : (h : ℕ) (l : Option (List ℕ)) (k : ℕ) → refuse k ≡ next_of l → given h l ≡ refuse k
none_given h None k e = let z : 21 ≡ k = cc in ap refuse z
none_given h (Some []) k e = let z : 23 ≡ k = cc in ap refuse z
none_given h (Some (ch ∷ rest)) k e = apart (cc)

module _ (e : Endpoint) (t : List ℕ) (h : ℕ) (r : Allocation) (t' : List ℕ) (p : Allocates e.outgoing t h r t') where
  -- whatever was answered, role, settings and length stay
  taken_same : (id : List ℕ) → Same (whole e t id) (whole (counting e r.channels) t' id)
  taken_same id = record {
    same_role = refl;
    same_settings = refl;
    same_long = p.ties.long;
    same_past = λ c. p.ties.rest (places_of e) c.1;
    still_counted = λ c. (p.within c.0, omega (arith, p.same_highest, c.1));
  }

  not_taken : (id : List ℕ) (k : ℕ) → judged r.answer ≡ refuse k → whole (counting e r.channels) t' id ≡ whole e t id
  not_taken id k q = let z = p.refused k q in λ j. whole (counting e (z.0 j)) (z.1 j) id

  module _ (id : List ℕ) (i : Sound (whole e t id)) (ch : ℕ) (rest : List ℕ) (q : hand_out_of (whole e t id) ≡ Some (ch ∷ rest)) where
    taken_view : (x : State) → view_as x (whole (counting e r.channels) t' id) ≡ apply (settings_of (whole e t id)) (take ch rest h) (view_as x (whole e t id))
    taken_view x =
        let b = p.keeps i.numbers ch rest q in
        alike x refl refl b.agreed b.hand_out_is b.taken (ties_kept (places_of e) e.outgoing t t' p.ties)

    taken_sound : Sound (whole (counting e r.channels) t' id)
    taken_sound = record {
      listed = listed_kept (places_of e) e.outgoing t t' p.ties i.listed;
      most = omega (arith, p.same_highest, i.most);
      numbers = (p.keeps i.numbers ch rest q).sound;
    }

  allocated_as : (a : Result ℕ Refusal) → r.answer ≡ a → Steps (λ w. given h (hand_out_of w)) e t (allocate_says r.answer) (counting e r.channels) t'
  allocated_as (Ok ch) q id =
      moves_as (ap allocate_says q) (λ i.
      let s = next_starts (hand_out_of (whole e t id)) ch (sym (ap judged q) ∙ p.answers i.numbers) in
      record {
        outcome = _;
        accepts = ap (given h) s.list;
        answers = ap allocate_says q;
        view = taken_view id i ch s.rest s.list;
        still_sound = taken_sound id i ch s.rest s.list;
      }) (taken_same id)
  allocated_as (Err k) q id =
      stays (λ i. none_given h (hand_out_of (whole e t id)) (number_of k) (sym (ap judged q) ∙ p.answers i.numbers)) (ap allocate_says q) (not_taken id (number_of k) (ap judged q))

  pub allocated : Steps (λ w. given h (hand_out_of w)) e t (allocate_says r.answer) (counting e r.channels) t'
  allocated = allocated_as r.answer refl

-- ---- deallocate

module _ (e : Endpoint) (t : List ℕ) (ch : ℕ) {r : Deallocation} {t' : List ℕ} (p : Frees e.outgoing t ch r t') where
  pub not_deallocated : r.answer ≡ None → Steps (λ w. released ch (taken_of w ch)) e t (deallocate_says None) e t'
  not_deallocated q id =
      let z = p.refused q in
      stays (λ i. ap (released ch) (sym (p.answers i.numbers) ∙ q)) refl (λ j. whole e (z.1 j) id)

  -- the number is freed, and then the ties through it are dropped
  pub deallocated :
      {h : ℕ} → r.answer ≡ Some h → {m : ℕ} → m ≡ e.local_open.channel_max → {t'' : List ℕ} → Drops (suc m) ch t' t''
      → Steps (λ w. released ch (taken_of w ch)) e t (deallocate_says (Some h)) (counting e r.channels) t''
  deallocated {h} q {m} own {t''} drops id =
      moves_as refl (λ i.
      let s : taken_of (whole e t id) ch ≡ Some h = sym (p.answers i.numbers) ∙ q in
      let b = p.keeps i.numbers h s in
      let kept = p.ties i.numbers.within in
      let left = d.drops (listed_kept (places_of e) e.outgoing t t' kept i.listed) in
      record {
        outcome = _;
        accepts = ap (released ch) s;
        answers = refl;
        view = λ x.
            alike x refl refl b.agreed (hand_out_kept (places_of e) r.channels t' t'' d.numbers ∙ b.hand_out_is) (taken_kept (places_of e) r.channels t' t'' d.numbers ∙ b.taken)
            (left.says ∙ ap (dropped ch) (ties_kept (places_of e) e.outgoing t t' kept));
        still_sound = record {
          listed = left.listed;
          most = omega (arith, p.same_highest, i.most);
          numbers = numbers_kept (places_of e) r.channels t' t'' d.numbers b.sound;
        };
      }) (record {
        same_role = refl;
        same_settings = refl;
        same_long = d.numbers.long ∙ p.long;
        same_past = λ c. d.numbers.rest (places_of e) (omega arith) ∙ (p.ties c.0).rest (places_of e) c.1;
        still_counted = λ c. (p.within c.0, omega (arith, p.same_highest, c.1));
      })
    where
      d : Drops (places_of e) ch t' t''
      d = subst (λ n. Drops (suc n) ch t' t'') own drops

-- ---- a frame that is refused, passed on, tied or untied

-- what a lookup finds, with whatever container-id
abbrev pub Found : Endpoint → List ℕ → (Whole → Option ℕ) → Option ℕ → Type 0
Found e t f a = (id : List ℕ) → Sound (whole e t id) → a ≡ f (whole e t id)

-- the tie of a frame's channel
abbrev pub tie_at : Incoming → Whole → Option Tie
tie_at f w = ties_of w f.channel

-- what a tie comes to, by its handle
passes_not : (f : Frame) (code : ℕ) (o : Option Tie) → handle_of o ≡ None → pass_on f code o ≡ refuse 24
passes_not f code None e = refl
passes_not f code (Some t) e = apart (cc)

passes : (f : Frame) (code h : ℕ) (o : Option Tie) → handle_of o ≡ Some h → pass_on f code o ≡ says (forwarded f code h) stay
passes f code h None e = apart (cc)
passes f code h (Some t) e = let q : t.handle ≡ h = cc in ap (λ k. says (forwarded f code k) stay) q

unties_not : (f : Frame) (o : Option Tie) → handle_of o ≡ None → untie f o ≡ refuse 24
unties_not f None e = refl
unties_not f (Some t) e = apart (cc)

unties : (f : Frame) (h : ℕ) (o : Option Tie) → handle_of o ≡ Some h → untie f o ≡ says (forwarded f 23 h) (tie f.channel None)
unties f h None e = apart (cc)
unties f h (Some t) e = let q : t.handle ≡ h = cc in ap (λ k. says (forwarded f 23 k) (tie f.channel None)) q

-- what is done with a Begin
abbrev pub begun_as : Incoming → ℕ → Option ℕ → Whole → Verdict Outcome
begun_as f h remote w = begun (role_of w) (view_as Opened w) (frame_of f) h (channel_says remote)

-- an endpoint that is handed back
pub back : (e e' : Endpoint) (t id : List ℕ) → e' ≡ e → whole e' t id ≡ whole e t id
back e e' t id q = ap (λ x. whole x t id) q

module _ (e : Endpoint) (t : List ℕ) (f : Incoming) where
  module _ {a : Option ℕ} (p : Found e t (λ w. handle_of (tie_at f w)) a) where
    pub not_passed :
        (code : ℕ) (r : Routed) → a ≡ None → r.answer ≡ Err NotFound → r.endpoint ≡ e
        → Steps (λ w. pass_on (frame_of f) code (tie_at f w)) e t (answer_says r.answer) r.endpoint t
    not_passed code r q s u id =
        stays (λ i. passes_not (frame_of f) code (tie_at f (whole e t id)) (sym (p id i) ∙ q)) (ap answer_says s) (back e r.endpoint t id u)

    pub not_untied :
        (r : Routed) → a ≡ None → r.answer ≡ Err NotFound → r.endpoint ≡ e
        → Steps (λ w. untie (frame_of f) (tie_at f w)) e t (answer_says r.answer) r.endpoint t
    not_untied r q s u id =
        stays (λ i. unties_not (frame_of f) (tie_at f (whole e t id)) (sym (p id i) ∙ q)) (ap answer_says s) (back e r.endpoint t id u)

    pub passed :
        (code : ℕ) {h : ℕ} (b : FrameAnswer) → a ≡ Some h → came_says b ≡ forwarded (frame_of f) code h
        → Steps (λ w. pass_on (frame_of f) code (tie_at f w)) e t (accept (came_says b)) e t
    passed code {h} b q s id =
        moves _ (λ i. passes (frame_of f) code h (tie_at f (whole e t id)) (sym (p id i) ∙ q)) (ap (λ c. accept c) s) (λ i x. refl) (λ i. i) (same_all (whole e t id))

    pub untied :
        {h m : ℕ} (b : FrameAnswer) (t' : List ℕ)
        → m ≡ e.local_open.channel_max → f.channel < places_of e → a ≡ Some h → Changes (suc m) f.channel None t t'
        → came_says b ≡ forwarded (frame_of f) 23 h
        → Steps (λ w. untie (frame_of f) (tie_at f w)) e t (accept (came_says b)) e t'
    untied {h} b t' own l q c s id =
        moves _ (λ i. unties (frame_of f) h (tie_at f (whole e t id)) (sym (p id i) ∙ q)) (ap (λ c. accept c) s)
        (retied e t t' id f.channel None own l (λ i. tt) c) (retied_sound e t t' id f.channel None own l (λ i. tt) c) (retied_same e t t' id f.channel None own l (λ i. tt) c)

  -- a Begin, by what it names
  module _ (spare : ℕ) {remote : Option ℕ} where
    pub names_none :
        {a : Verdict Answer} {e' : Endpoint} {t' : List ℕ} → remote ≡ None → Steps (λ w. new_session (role_of w) (frame_of f) spare (hand_out_of w)) e t a e' t'
        → Steps (begun_as f spare remote) e t a e' t'
    names_none p s id = same_rule (ap (λ n. begun_as f spare n (whole e t id)) p) (s id)

    module _ {n : ℕ} (a : Option ℕ) (p : remote ≡ Some n) (q : Found e t (λ w. taken_of w n) a) where
      begun_for_lem : (id : List ℕ) → Sound (whole e t id) → begun_as f spare remote (whole e t id) ≡ tie_to (frame_of f) n a
      begun_for_lem id i = ap (λ r. begun_as f spare r (whole e t id)) p ∙ ap (tie_to (frame_of f) n) (sym (q id i))

      pub names_unknown :
          (r : Routed) → a ≡ None → r.answer ≡ Err NotFound → r.endpoint ≡ e
          → Steps (begun_as f spare remote) e t (answer_says r.answer) r.endpoint t
      names_unknown r z s u id = stays (λ i. begun_for_lem id i ∙ ap (tie_to (frame_of f) n) z) (ap answer_says s) (back e r.endpoint t id u)

      pub tied :
          {h m : ℕ} (b : FrameAnswer) (t' : List ℕ)
          → m ≡ e.local_open.channel_max → f.channel < places_of e → a ≡ Some h
          → Changes (suc m) f.channel (Some (tie_of n h)) t t' → came_says b ≡ forwarded (frame_of f) 17 h
          → Steps (begun_as f spare remote) e t (accept (came_says b)) e t'
      tied {h} b t' own l z c s id =
          moves _ (λ i. begun_for_lem id i ∙ ap (tie_to (frame_of f) n) z) (ap (λ c. accept c) s)
          (retied e t t' id f.channel v own l low c) (retied_sound e t t' id f.channel v own l low c) (retied_same e t t' id f.channel v own l low c)
        where
          v : Option Tie
          v = Some (tie_of n h)

          low : Sound (whole e t id) → n < places_of e
          low i = taken_within (whole e t id) i n h (sym (q id i) ∙ z)

-- ---- a session that the peer begins

none_begun : (f : Frame) (h : ℕ) (k : Refusal) (l : Option (List ℕ)) → refuse (number_of k) ≡ next_of l → new_session (role_says Listener) f h l ≡ refuse 25
none_begun f h k None e = refl
none_begun f h k (Some []) e = refl
none_begun f h k (Some (ch ∷ rest)) e = apart (cc)

module _ (e : Endpoint) (t : List ℕ) (f : Incoming) (spare : ℕ) where
  began_by : {x : Role} → e.role ≡ x → (l : Option (List ℕ)) (id : List ℕ) → hand_out_of (whole e t id) ≡ l → new_session (role_of (whole e t id)) (frame_of f) spare (hand_out_of (whole e t id)) ≡ new_session (role_says x) (frame_of f) spare l
  began_by p l id q = λ i. new_session (role_says (p i)) (frame_of f) spare (q i)

  pub dialled :
      (r : Routed) → e.role ≡ Dialler → r.answer ≡ Err NotImplemented → r.endpoint ≡ e
      → Steps (λ w. new_session (role_of w) (frame_of f) spare (hand_out_of w)) e t (answer_says r.answer) r.endpoint t
  dialled r p s u id = stays (λ i. began_by p (hand_out_of (whole e t id)) id refl) (ap answer_says s) (back e r.endpoint t id u)

  pub not_allocated :
      {d : Allocation} {t' : List ℕ} (r : Routed)
      → e.role ≡ Listener → Allocates e.outgoing t spare d t' → {k : Refusal} → d.answer ≡ Err k → r.answer ≡ Err NotImplemented → r.endpoint ≡ e
      → Steps (λ w. new_session (role_of w) (frame_of f) spare (hand_out_of w)) e t (answer_says r.answer) r.endpoint t'
  not_allocated {d} {t'} r p q {k} o s u id =
      let z : t' ≡ t = (q.refused (number_of k) (ap judged o)).1 in
      stays (λ i. began_by p (hand_out_of (whole e t id)) id refl ∙ none_begun (frame_of f) spare k (hand_out_of (whole e t id)) (sym (ap judged o) ∙ q.answers i.numbers)) (ap answer_says s)
      (λ j. whole (u j) (z j) id)

  pub taken_and_tied :
      {d : Allocation} {t₁ : List ℕ} {ch len m : ℕ} (t' : List ℕ)
      → m ≡ e.local_open.channel_max → f.channel < places_of e → e.role ≡ Listener → Allocates e.outgoing t spare d t₁ → d.answer ≡ Ok ch
      → Changes (suc m) f.channel (Some (tie_of ch spare)) t₁ t' → len ≡ f.size - f.from
      → Steps (λ w. new_session (role_of w) (frame_of f) spare (hand_out_of w)) e t (accept (began f.size ch spare f.from len)) (counting e d.channels) t'
  taken_and_tied {d} {t₁} {ch} t' own l p q a c n id =
      moves_as refl (λ i.
      let s = next_starts (hand_out_of (whole e t id)) ch (sym (ap judged a) ∙ q.answers i.numbers) in
      let b = taken_sound e t spare d t₁ q id i ch s.rest s.list in
      let low = through_low i s.rest s.list in
      record {
        outcome = _;
        accepts = began_by p _ id s.list;
        answers = ap (λ k. accept (began f.size ch spare f.from k)) n;
        view = λ x. retied later t₁ t' id f.channel v own l low c b x ∙ ap (apply (settings_of (whole e t id)) (tie f.channel v)) (taken_view e t spare d t₁ q id i ch s.rest s.list x);
        still_sound = retied_sound later t₁ t' id f.channel v own l low c b;
      }) (record {
        same_role = refl;
        same_settings = refl;
        same_long = c.numbers.long ∙ q.ties.long;
        same_past = λ z. c.numbers.rest (places_of e) (omega (arith, own)) ∙ q.ties.rest (places_of e) z.1;
        still_counted = (taken_same e t spare d t₁ q id).still_counted;
      })
    where
      later : Endpoint
      later = counting e d.channels

      v : Option Tie
      v = Some (tie_of ch spare)

      -- the channel is taken by then
      through_low : Sound (whole e t id) → (rest : List ℕ) → hand_out_of (whole e t id) ≡ Some (ch ∷ rest) → Sound (whole later t₁ id) → ch < places_of e
      through_low i rest h j =
          taken_within (whole later t₁ id) j ch spare
          (ap (λ g. g ch) (q.keeps i.numbers ch rest h).taken ∙ ap (λ b. cond b (Some spare) (taken_of (whole e t id) ch)) (eq-eqb ch ch refl))

-- ---- a session's frame that came

-- what is done with a performative where frames are read
abbrev pub read_as_lem : ConnectionState → Incoming → ℕ → Performative → Whole → Verdict Outcome
read_as_lem s f h p w =
    cond (eqb (performative_says p).0 17) (begun (role_of w) (view_as (state_says s) w) (frame_of f) h (performative_says p).1)
    (cond (eqb (performative_says p).0 23) (untie (frame_of f) (tie_at f w))
    (pass_on (frame_of f) (performative_says p).0 (tie_at f w)))

same_begun : (w : Whole) (s : ConnectionState) (f : Frame) (h : ℕ) (l : List ℕ) → begun (role_of w) (view_as (state_says s) w) f h l ≡ begun (role_of w) (view_as Opened w) f h l
same_begun w s f h [] = refl
same_begun w s f h (r ∷ l) = refl

-- a rule for channels up to the channel-max that the peer was told
module _ (e : Endpoint) (t : List ℕ) (ch : ℕ) (rest : List ℕ → Unit {0} → Verdict Outcome) {m : ℕ} (n : m ≡ e.local_open.channel_max) where
  pub beyond :
      (r : Routed) → m < ch → r.answer ≡ Err ChannelTooHigh → r.endpoint ≡ e
      → (id : List ℕ) → Step (require 7 (leb ch e.local_open.channel_max) (rest id)) (whole e t id) (answer_says r.answer) (whole r.endpoint t id)
  beyond r l a u id =
      stays (λ i. require_off 7 (leb ch e.local_open.channel_max) (rest id) (lt-leb ch e.local_open.channel_max (omega arith)))
      (ap answer_says a) (back e r.endpoint t id u)

  pub within :
      {a : Verdict Answer} {e' : Endpoint} {t' : List ℕ} → ch ≤ m → ((id : List ℕ) → Step (rest id tt) (whole e t id) a (whole e' t' id))
      → (id : List ℕ) → Step (require 7 (leb ch e.local_open.channel_max) (rest id)) (whole e t id) a (whole e' t' id)
  within l d id = same_rule (require_on 7 (leb ch e.local_open.channel_max) (rest id) (le-leb ch e.local_open.channel_max (omega arith))) (d id)

module _ (e : Endpoint) (t : List ℕ) (s : ConnectionState) (f : Incoming) (spare : ℕ) (p : Performative) {b : Bool} (q : b ≡ is_one_of reading (state_says s)) where
  pub not_read :
      (r : Routed) → b ≡ false → r.answer ≡ Err IllegalState → r.endpoint ≡ e
      → Steps (λ w. session_read (role_of w) (view_as (state_says s) w) (frame_of f) spare (performative_says p).0 (performative_says p).1) e t (answer_says r.answer) r.endpoint t
  not_read r z a u id = stays (λ i. require_off 20 (is_one_of reading (state_says s)) _ (sym q ∙ z)) (ap answer_says a) (back e r.endpoint t id u)

  -- the arm of a performative
  pub in_arm :
      {v : Performative} {a : Verdict Answer} {e' : Endpoint} {t' : List ℕ} → b ≡ true → p ≡ v → Steps (read_as_lem s f spare v) e t a e' t'
      → Steps (λ w. session_read (role_of w) (view_as (state_says s) w) (frame_of f) spare (performative_says p).0 (performative_says p).1) e t a e' t'
  in_arm z y d id = same_rule (require_on 20 (is_one_of reading (state_says s)) _ (sym q ∙ z) ∙ ap (λ v. read_as_lem s f spare v (whole e t id)) y) (d id)

  pub in_begin :
      {remote : Option ℕ} {a : Verdict Answer} {e' : Endpoint} {t' : List ℕ} → b ≡ true → p ≡ Begin remote → Steps (begun_as f spare remote) e t a e' t'
      → Steps (λ w. session_read (role_of w) (view_as (state_says s) w) (frame_of f) spare (performative_says p).0 (performative_says p).1) e t a e' t'
  in_begin {remote} z y d = in_arm z y (λ id. same_rule (same_begun (whole e t id) s (frame_of f) spare (channel_says remote)) (d id))
