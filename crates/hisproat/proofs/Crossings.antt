-- From what the engine promises to what a call from C comes to.
-- Assumes nothing.
use mathlib.Core.Path.{◌≡◌, refl, sym, ◌∙◌, ap, ap₂, subst}
use mathlib.Core.Bool.{Bool, true, false, not, ◌&&◌}
use mathlib.Core.List.{List, [], ◌++◌, append-nil}
use Rattle.std.specs.Prelude.{Option, None, Some}
use Prim.Native.Nat.{ℕ, suc, ◌-◌, ◌*◌, ◌≤◌, ◌<◌}
use native.Mathlib.Omega.{arith}
use lib.Dec.{T, leb}
use lib.ListN.{length, take, drop, length-drop, take-append-drop, length-take, drop_of_length-le}
use lib.Seq.{drop-drop}
use borrow.Author.Tests.{le-leb, lt-leb, not-true, not-false}
use Rattle.octets.specs.Octets.{put}
use Rattle.octets.specs.Verdict.{Verdict, refuse, accept}
use Rattle.octets.proofs.Laws.{length_put}
use Rattle.frame_encoder.specs.Frames.{Settings}
use Rattle.frame_encoder.specs.Frames.{ErrorText}
use Rattle.connection_model.specs.Connection.{Role, Answer}
use Rattle.connection_model.proofs.Rules.{true_is}
use Rattle.connection.specs.View as C
use Rattle.engine_model.specs.Engine.{Engine, Event, close_order, not_delivered, Reply, seen, next, lent, has_room}
use Rattle.engine_model.specs.Phases.{goes_with}
use Rattle.engine_model.proofs.Laws.{clash}
use Rattle.engine_model.proofs.Phases.{next_goes}
use Rattle.endpoint.specs.Promises as E
use Rattle.engine.specs.declared.ConnectionEngine.{ConnectionEngine}
use Rattle.engine.specs.Answers.{Whole, whole, connection_in, role_of, settings_of, view_of, Sound}
use Rattle.engine.specs.Promises.{Does, DoesIn}
use Rattle.engine.proofs.Output.{rest_is}
use Rattle.engine_bytes.specs.Bytes.{Fixed, at, id_at, tables_at, fixed_size, fixed_at, state_size, moving_bytes, StandFor}
use Rattle.engine_bytes.specs.Promises.{fixed_in, read_says}
use Rattle.engine_bytes.proofs.Fixed.{id_low}
use Rattle.engine_bytes.proofs.Laid.{with_long, tables_are, after_moving}
use Rattle.engine_bytes.proofs.Standing.{said, read_counted, stand_only, laid_stands}
use Rattle.hisproat.specs.declared.answers.Done.{Done}
use Rattle.hisproat.specs.Crossing.{Crossing, crossing, returned_by, answer_after, saw, fits_in, Crossed, Crosses}
use Rattle.hisproat.specs.Promises.{state_after, Amounts, Finishes, IsId}

-- ---- the room

pub short_lacks : (answer : ℕ) (b : Bool) → answer < 42 → true ≡ not (leb 42 answer && b)
short_lacks answer b h = sym (ap (λ x. not (x && b)) (lt-leb 42 answer h))

pub long_lacks : (answer : ℕ) (b r : Bool) → 42 ≤ answer → r ≡ not b → r ≡ not (leb 42 answer && b)
long_lacks answer b r h e = e ∙ sym (ap (λ x. not (x && b)) (le-leb 42 answer h))

-- an event without an output asks for the answer's room alone
module _ (event : Event) (a : List ℕ) (all : has_room event ≡ true) where
  pub too_short : length a < 42 → true ≡ not (fits_in event a)
  unfolding fits_in
  too_short h = sym (ap (λ x. not (x && has_room event)) (lt-leb 42 (length a) h))

  pub long_enough : 42 ≤ length a → false ≡ not (fits_in event a)
  unfolding fits_in
  long_enough h = sym (ap₂ (λ x y. not (x && y)) (le-leb 42 (length a) h) all)

-- ---- a state that was read

module _ (s : List ℕ) (read : Option ConnectionEngine) (reads : read_says (id_at s) read ≡ fixed_at s) (e : ConnectionEngine) (known : read ≡ Some e) where
  pub read_is : fixed_at s ≡ accept (fixed_in e (id_at s))
  read_is = sym reads ∙ ap (read_says (id_at s)) known

  pub read_long : 300 ≤ length s
  read_long = (said s e read_is).long

  -- the container-id, as it is lent
  pub id_is : (id : List ℕ) → IsId s id → id ≡ id_at s
  id_is id i = i.is_id (omega (arith, length-take (at 42 2 s) (drop 44 s), id_low s _ (said s e read_is)))

-- the tables, as they are lent and given back
abbrev pub lent_tables : List ℕ → List ℕ
lent_tables s = take (length s - 300) (drop 300 s)

abbrev pub given_back_lem : List ℕ → List ℕ → List ℕ
given_back_lem s t = take 300 s ++ (t ++ drop (length s - 300) (drop 300 s))

pub given_is : (s t : List ℕ) → given_back_lem s t ≡ take 300 s ++ t
given_is s t = ap (λ x. take 300 s ++ (t ++ x)) (drop_of_length-le (drop 300 s) {i = length s - 300} (omega (arith, length-drop 300 s))) ∙ ap (λ x. take 300 s ++ x) (append-nil t)

-- ---- nothing is changed

-- a call that returns k and leaves all as it was
module _ (event : Event) (s a : List ℕ) (k : ℕ) where
  abbrev nothing : Crossing
  nothing = crossing k s a (lent event)

  unchanged : (fits_in event a ≡ false → nothing ≡ crossing 9 s a (lent event)) → (fits_in event a ≡ true → fixed_at s ≡ refuse 8 → nothing ≡ crossing 8 s a (lent event))
      → (fits_in event a ≡ true → (role : Role) (S : Settings) (e : Engine) → StandFor s role S e → Crossed role S e event a nothing) → Crosses event s a nothing
  unchanged x y z = record { short = x; broken = y; stands = z; refused = λ n. refl; long = refl; rest = λ f e. refl }

pub crosses_short : (event : Event) (s a : List ℕ) (lacks : Bool) → lacks ≡ not (fits_in event a) → lacks ≡ true → Crosses event s a (crossing 9 s a (lent event))
crosses_short event s a lacks is t =
    let f : fits_in event a ≡ false = not-true (fits_in event a) (sym is ∙ t) in
    unchanged event s a 9 (λ t. refl) (λ t. clash (sym t ∙ f)) (λ t. clash (sym t ∙ f))

-- ---- an event

module _ (event : Event) (s a : List ℕ) (lacks : Bool) (is : lacks ≡ not (fits_in event a)) (not_so : lacks ≡ false) where
  room : fits_in event a ≡ true
  room = not-false (fits_in event a) (sym is ∙ not_so)

  -- it stands for no engine
  pub crosses_broken : (read : Option ConnectionEngine) → read_says (id_at s) read ≡ fixed_at s → read ≡ None → Crosses event s a (crossing 8 s a (lent event))
  crosses_broken read reads b =
      let broken : fixed_at s ≡ refuse 8 = sym reads ∙ ap (read_says (id_at s)) b in
      unchanged event s a 8 (λ t. clash (sym room ∙ t)) (λ t n. refl) (λ t role S e z. let q : ◌≡◌ {A = ℕ} 0 1 = never z.reads broken in absurd (omega arith))
    where
      never : {f : Fixed} → fixed_at s ≡ accept f → fixed_at s ≡ refuse 8 → ◌≡◌ {A = ℕ} 0 1
      never p q = cc

  -- an event on the engine that was read: the tables are as the engine left them, and then what it changed is laid
  module _ (e : ConnectionEngine) (read : fixed_at s ≡ accept (fixed_in e (id_at s))) (reply : Verdict Reply) (out : List ℕ) (later : ConnectionEngine) (t : List ℕ)
      (does : Does event (whole e (tables_at s) (id_at s)) reply out (whole later t (id_at s))) where
    abbrev before : Whole
    before = whole e (tables_at s) (id_at s)

    abbrev after : Whole
    after = whole later t (id_at s)

    abbrev given : List ℕ
    given = take fixed_size s ++ t

    same : E.Same (C.endpoint_in (connection_in before)) (C.endpoint_in (connection_in after))
    same = does.same

    -- a refusal gives back the tables as they were
    pub given_back : (k : ℕ) → reply ≡ refuse k → given ≡ s
    given_back k q = ap (λ w. take fixed_size s ++ w.tables) (does.refused k q).0 ∙ take-append-drop fixed_size s

    -- the phase goes with the state, as it did
    goes : (z : Sound before) → goes_with (view_of after).phase (view_of after).connection.state ≡ true
    goes z =
        ap (λ x. goes_with x.phase x.connection.state) (does.meets z).leaves
        ∙ true_is _ (next_goes (role_of before) (settings_of before) (view_of before) (subst T (sym (said s e read).phase_goes) tt) event)

    leads_as : (v : Verdict Reply) → reply ≡ v → (z : Sound before) → StandFor (state_after v given later) (role_of before) (settings_of before) (next (role_of before) (settings_of before) (view_of before) event)
    leads_as (refuse k) q z =
        let m = does.meets z in
        let l : view_of before ≡ next (role_of before) (settings_of before) (view_of before) event = ap view_of (sym (does.refused k q).0) ∙ m.leaves in
        subst (λ x. StandFor x (role_of before) (settings_of before) (next (role_of before) (settings_of before) (view_of before) event)) (sym (given_back k q))
        (subst (λ x. StandFor s (role_of before) (settings_of before) x) l
        (record { fixed = fixed_in e (id_at s); reads = read; role_is = refl; settings_is = refl; engine_is = refl; listed = z.held.listed; reached = z.reached }))
    leads_as (accept r) q z =
        let m = does.meets z in
        subst (λ x. StandFor (put given 16 (moving_bytes (fixed_in later []))) (role_of before) (settings_of before) x) m.leaves (laid_stands s e read later t same m.sound (goes z))

    long_given : length given ≡ length s
    long_given = with_long s t (said s e read).long same.same_long

    long_as : (v : Verdict Reply) → length (state_after v given later) ≡ length s
    long_as (refuse k) = long_given
    long_as (accept r) = length_put given 16 (moving_bytes (fixed_in later [])) ∙ long_given

    -- what stands after the tables
    rest_given : drop (state_size (settings_of before).channel_max) given ≡ drop (state_size (settings_of before).channel_max) s
    rest_given =
        sym (drop-drop (28 * suc (settings_of before).channel_max) fixed_size given)
        ∙ ap (drop (28 * suc (settings_of before).channel_max)) (tables_are s t (said s e read).long same.same_long)
        ∙ same.same_past (read_counted s e read)
        ∙ drop-drop (28 * suc (settings_of before).channel_max) fixed_size s

    rest_as : (v : Verdict Reply) → drop (state_size (settings_of before).channel_max) (state_after v given later) ≡ drop (state_size (settings_of before).channel_max) s
    rest_as (refuse k) = rest_given
    rest_as (accept r) = after_moving (fixed_in later []) given (28 * suc (settings_of before).channel_max) ∙ rest_given

    returned_not : (v : Verdict Reply) → (returned_by v ≡ 0 → ⊥) → (k : ℕ) × (v ≡ refuse k)
    returned_not (refuse k) n = (k, refl)
    returned_not (accept r) n = absurd (n refl)

    pub crosses_as : (k : ℕ) (s' a' : List ℕ) → k ≡ returned_by reply → a' ≡ answer_after reply a → s' ≡ state_after reply given later → Crosses event s a (crossing k s' a' out)
    crosses_as k s' a' n p q = record {
      short = λ f. clash (sym room ∙ f);
      broken = λ f b. let z : ◌≡◌ {A = ℕ} 0 1 = never read b in absurd (omega arith);
      stands = λ f role S x z.
          let o = stand_only s e read role S x z in
          record {
            shows =
                (λ i. record { returned = n i; answer = p i; output = out })
                ∙ ap (λ v. saw v a) (does.meets o.3).draws
                ∙ (λ i. saw (seen (o.0 i) (o.1 i) (o.2 i) event) a);
            leads = subst (λ l. StandFor l role S (next role S x event)) (sym q)
                (subst (λ (w : Role × Settings × Engine). StandFor (state_after reply given later) w.0 w.1 (next w.0 w.1 w.2 event)) (λ i. (o.0 i, o.1 i, o.2 i)) (leads_as reply refl o.3));
          };
      refused = λ r.
          let w = returned_not reply (λ z. r (n ∙ z)) in
          (λ i. crossing k ((q ∙ ap (λ v. state_after v given later) w.1 ∙ given_back w.0 w.1) i) ((p ∙ ap (λ v. answer_after v a) w.1) i) ((does.refused w.0 w.1).1 i));
      long = ap length q ∙ long_as reply;
      rest = λ f z.
          let g : f ≡ fixed_in e (id_at s) = inner (sym z ∙ read) in
          ap (λ h. drop (state_size h.settings.channel_max) s') g ∙ ap (drop (state_size (settings_of before).channel_max)) q ∙ rest_as reply ∙ sym (ap (λ h. drop (state_size h.settings.channel_max) s) g);
    }
      where
        never : {f : Fixed} → fixed_at s ≡ accept f → fixed_at s ≡ refuse 8 → ◌≡◌ {A = ℕ} 0 1
        never x y = cc

        inner : {f g : Fixed} → ◌≡◌ {A = Verdict Fixed} (accept f) (accept g) → f ≡ g
        inner x = cc

    pub crosses : (v : Option (Verdict Answer)) (done : Done) (k : ℕ) (s' a' : List ℕ) → Amounts done v reply → Finishes done later given a k s' a' → Crosses event s a (crossing k s' a' out)
    crosses v done k s' a' m f =
        crosses_as k s' a'
        (f.finishes_number v ∙ ap returned_by m.amounts_reply)
        (f.finishes_answer v m.amounts_inner ∙ ap (λ r. answer_after r a) m.amounts_reply)
        (f.finishes_state v ∙ ap (λ r. state_after r given later) m.amounts_reply)

  -- with the facts as they come
  module _ (read : Option ConnectionEngine) (reads : read_says (id_at s) read ≡ fixed_at s) (e : ConnectionEngine) (known : read ≡ Some e) where
    -- an event that is not lent the tables
    pub crosses_without :
        (reply : Verdict Reply) (out : List ℕ) (later : ConnectionEngine) → Does event (whole e (tables_at s) (id_at s)) reply out (whole later (tables_at s) (id_at s))
        → (v : Option (Verdict Answer)) (done : Done) (k : ℕ) (s' a' : List ℕ) → Amounts done v reply → Finishes done later s a k s' a' → Crosses event s a (crossing k s' a' out)
    crosses_without reply out later does v done k s' a' m f =
        crosses e (read_is s read reads e known) reply out later (tables_at s) does v done k s' a' m (subst (λ x. Finishes done later x a k s' a') (sym (take-append-drop fixed_size s)) f)

    -- one that is lent the container-id
    pub crosses_open :
        (id : List ℕ) → IsId s id → (reply : Verdict Reply) (out : List ℕ) (later : ConnectionEngine) → ((t : List ℕ) → Does event (whole e t id) reply out (whole later t id))
        → (v : Option (Verdict Answer)) (done : Done) (k : ℕ) (s' a' : List ℕ) → Amounts done v reply → Finishes done later s a k s' a' → Crosses event s a (crossing k s' a' out)
    crosses_open id i reply out later does v done k s' a' m f =
        crosses_without reply out later (subst (λ x. Does event (whole e (tables_at s) x) reply out (whole later (tables_at s) x)) (id_is s read reads e known id i) (does (tables_at s))) v done k s' a' m f

    -- one that is lent the tables
    pub crosses_in :
        (reply : Verdict Reply) (out : List ℕ) (later : ConnectionEngine) (t : List ℕ) → ((id : List ℕ) → DoesIn event (whole e (lent_tables s) id) reply out (whole later t id))
        → (v : Option (Verdict Answer)) (done : Done) (k : ℕ) (s' a' : List ℕ) → Amounts done v reply → Finishes done later (given_back_lem s t) a k s' a' → Crosses event s a (crossing k s' a' out)
    crosses_in reply out later t does v done k s' a' m f =
        crosses e (read_is s read reads e known) reply out later t
        (subst (λ x. Does event (whole e x (id_at s)) reply out (whole later t (id_at s))) (rest_is s 300) (does (id_at s)).does)
        v done k s' a' m (subst (λ x. Finishes done later x a k s' a') (given_is s t) f)

-- ---- a flag that is handed over as a number

pub does_close :
    (e f : ErrorText) → e ≡ f → (w o : List ℕ) (before later : List ℕ → Whole) (reply : Verdict Reply) (out : List ℕ)
    → ((id : List ℕ) → DoesIn (close_order (Some e) w o) (before id) reply out (later id)) → (id : List ℕ) → DoesIn (close_order (Some f) w o) (before id) reply out (later id)
does_close e f same w o before later reply out d = subst (λ x. (id : List ℕ) → DoesIn (close_order (Some x) w o) (before id) reply out (later id)) same d

module _ (b f : Bool) (same : b ≡ f) where
  pub does_undelivered : (o : List ℕ) (before later : Whole) (reply : Verdict Reply) (out : List ℕ) → Does (not_delivered b o) before reply out later → Does (not_delivered f o) before reply out later
  does_undelivered o before later reply out d = subst (λ x. Does (not_delivered x o) before reply out later) same d
