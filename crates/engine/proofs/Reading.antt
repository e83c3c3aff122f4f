-- A frame that came: what its refusal leads to, whether it is a Close, and what it consumes.
-- Assumes nothing.
use mathlib.Core.Path.{◌≡◌, refl, sym, ◌∙◌, ap, subst}
use mathlib.Core.Bool.{Bool, true, false, cond, ◌&&◌}
use mathlib.Core.List.{List, [], ◌∷◌}
use Rattle.std.specs.Prelude.{Option, None, Some, Result, Ok, Err}
use Prim.Native.Nat.{ℕ}
use lib.Dec.{eqb}
use borrow.Author.Tests.{ne_eqb}
use types.Run.{OneOf, miss}
use denote.Enum.Declared.{tag_of}
use Rattle.octets.specs.Verdict.{Verdict, refuse, accept, and_then}
use Rattle.octets.specs.Refusal.{number_of}
use Rattle.octets.specs.declared.Refusal.{Refusal}
use Rattle.octets.specs.declared.Refusal.TheVariants.{TooShort, OverReadingLimit, IllegalState as NotAllowed, NotFound as NotThere, NotImplemented as NotSupported}
use Rattle.octets.specs.contracts.Refusal.{the_type as refusal_type}
use Rattle.performatives.specs.Performative as P
use Rattle.performatives.specs.declared.Performative.{Performative}
use Rattle.performatives.specs.declared.Condition.{Condition}
use Rattle.performatives.specs.declared.Performative.TheVariants.{Open, Begin, Attach, Flow, Transfer, Disposition, Detach, End, Close}
use Rattle.performatives.specs.contracts.Performative.{the_type as performative_type}
use Rattle.performatives.specs.Answers.{performative_says}
use Rattle.frame_decoder.specs.Frame.{FrameSaid, read_frame, frame_said}
use Rattle.frame_decoder.specs.Frame as F
use Rattle.frame_decoder.specs.declared.Frame as D
use Rattle.frame_decoder.specs.declared.Frame.TheVariants.{Empty, Body}
use Rattle.frame_decoder.specs.Answers.{frame_says, frame_answer}
use Rattle.connection_state.specs.States as S
use Rattle.connection_state.specs.States.{is}
use Rattle.connection_state.specs.Answers.{state_says}
use Rattle.connection_state.specs.declared.ConnectionState.{ConnectionState}
use Rattle.connection_state.specs.declared.ConnectionState.TheVariants.{CloseReceived}
use Rattle.connection_state.proofs.States.{states}
use Rattle.connection_state.proofs.Laws.{failing, fails}
use Rattle.connection_state.specs.contracts.ConnectionState.{the_type as state_type}
use Rattle.endpoint.specs.declared.Role as E
use Rattle.endpoint.specs.declared.Role.TheVariants.{Dialler, Listener}
use Rattle.endpoint.specs.contracts.Role.{the_type as role_type}
use Rattle.endpoint.specs.declared.FrameAnswer.{FrameAnswer}
use Rattle.endpoint.specs.declared.FrameAnswer.TheVariants.{NothingToDo, Opened, Closed, Forward, Began}
use Rattle.endpoint.specs.contracts.FrameAnswer.{the_type as answer_type}
use Rattle.endpoint.specs.Answers.{role_says, came_says, answer_says}
use Rattle.engine_model.specs.Engine as M
use Rattle.connection_model.specs.Connection as K
use Rattle.connection.specs.View as View
use Rattle.connection.specs.declared.Connection.{Connection}
use Rattle.engine_model.specs.Engine.{read_fault, closed_by, is_close, close_in, phase_read}
use Rattle.engine.specs.declared.error.InnerError.{InnerError}
use Rattle.engine.specs.declared.error.InnerError.TheVariants.{TransportError, NotImplemented, RemoteSession}
use Rattle.engine.specs.declared.Outcome as O
use Rattle.engine.specs.declared.Outcome.TheVariants.{Fine, RemoteClosed, RemoteClosedWithError}
use Rattle.engine.specs.declared.Phase.{Phase}
use Rattle.engine.specs.declared.Phase.TheVariants.{Running, Awaiting, Stopped}
use Rattle.engine.specs.declared.Landed.{Landed}
use Rattle.engine.specs.contracts.Phase.{the_type as phase_type}
use Rattle.engine.specs.Reading.{answers_close}
use Rattle.engine.specs.Answers.{phase_says, outcome_says, error_says}
use Rattle.engine.specs.Promises.{consumed_for, awaited_by, LandedIn, landed_in, LeadsTo, Fails, Lands}
use Rattle.engine.proofs.Failing.{keeps_self}
use Rattle.engine.proofs.Refusals.{other}

-- ---- what a refusal leads to

pub read_dialler : (role : E.Role) (e : Refusal) → e ≡ NotSupported → OneOf (0 ∷ []) (tag_of role_type role) → error_says RemoteSession ≡ read_fault (role_says role) (number_of e)
read_dialler Dialler e q o = rw q
read_dialler Listener e q o = absurd (miss (0 ∷ []) 1 tt o)

pub read_listener : (role : E.Role) (e : Refusal) → e ≡ NotSupported → OneOf (1 ∷ []) (tag_of role_type role) → error_says NotImplemented ≡ read_fault (role_says role) (number_of e)
read_listener Dialler e q o = absurd (miss (1 ∷ []) 0 tt o)
read_listener Listener e q o = rw q

-- the places of those that no arm of `incoming_error` names
abbrev unnamed : List ℕ
unnamed = 0 ∷ 1 ∷ 2 ∷ 3 ∷ 4 ∷ 5 ∷ 6 ∷ 7 ∷ 8 ∷ 10 ∷ 11 ∷ 12 ∷ 15 ∷ 16 ∷ []

pub read_transport : (role : E.Role) (e : Refusal) → OneOf unnamed (tag_of refusal_type e) → error_says TransportError ≡ read_fault (role_says role) (number_of e)
read_transport role e o = rw (ne_eqb (number_of e) 20 (other NotAllowed e unnamed tt o), ne_eqb (number_of e) 24 (other NotThere e unnamed tt o), ne_eqb (number_of e) 25 (other NotSupported e unnamed tt o))

-- ---- who closed

pub closed_error : (o : O.Outcome) (x : ConnectionState) (b : Bool) → b ≡ true → outcome_says RemoteClosedWithError ≡ closed_by (outcome_says o) (state_says x) b
closed_error o x b t = ap (closed_by (outcome_says o) (state_says x)) (sym t)

pub closed_received : (o : O.Outcome) (x : ConnectionState) (b : Bool) → b ≡ false → x ≡ CloseReceived → outcome_says RemoteClosed ≡ closed_by (outcome_says o) (state_says x) b
closed_received o x b f e = ap (λ y. closed_by (outcome_says o) (state_says y) false) (sym e) ∙ ap (closed_by (outcome_says o) (state_says x)) (sym f)

pub closed_else : (o : O.Outcome) (x : ConnectionState) (b : Bool) → b ≡ false → OneOf (failing (is S.CloseReceived) states) (tag_of state_type x) → outcome_says o ≡ closed_by (outcome_says o) (state_says x) b
closed_else o x b f h = ap (λ y. cond y M.remote_closed (outcome_says o)) (fails (is S.CloseReceived) x h) ∙ ap (closed_by (outcome_says o) (state_says x)) (sym f)

-- ---- whether it is a Close

abbrev said_close : Verdict FrameSaid → Bool
said_close (refuse k) = false
said_close (accept f) = code_close f.content
  where
    code_close : Option P.Said → Bool
    code_close None = false
    code_close (Some p) = eqb p.code 24

close_said : (v : Verdict (F.Frame × Option P.Performative)) → said_close (and_then v (λ r. accept (frame_said r))) ≡ is_close v
unfolding and_then
close_said (refuse k) = refl
close_said (accept (f, None)) = refl
close_said (accept (f, Some p)) = refl

module _ (limit highest : ℕ) (s : List ℕ) (f : Result D.Frame Refusal) (e : frame_says f ≡ frame_answer limit highest s) where
  close_is : said_close (frame_says f) ≡ is_close (read_frame limit highest s)
  unfolding frame_answer
  close_is = ap said_close e ∙ close_said (read_frame limit highest s)

  pub close_unread : (k : Refusal) → f ≡ Err k → false ≡ is_close (read_frame limit highest s)
  close_unread k q = ap (λ g. said_close (frame_says g)) (sym q) ∙ close_is

  none_said : (g : D.Frame) → ((channel size from : ℕ) (p : Performative) (end : ℕ) → g ≡ Body channel size from p end → ⊥) → false ≡ said_close (frame_says (Ok g))
  none_said (Empty channel size from) o = refl
  none_said (Body channel size from p end) o = absurd (o channel size from p end refl)

  pub close_none : (g : D.Frame) → f ≡ Ok g → ((channel size from : ℕ) (p : Performative) (end : ℕ) → g ≡ Body channel size from p end → ⊥) → false ≡ is_close (read_frame limit highest s)
  close_none g q o = none_said g o ∙ ap (λ u. said_close (frame_says u)) (sym q) ∙ close_is

  close_code : (p : Performative) → OneOf (8 ∷ []) (tag_of performative_type p) → true ≡ eqb (performative_says p).0 24
  close_code (Open a b c) o = absurd (miss (8 ∷ []) 0 tt o)
  close_code (Begin a) o = absurd (miss (8 ∷ []) 1 tt o)
  close_code Attach o = absurd (miss (8 ∷ []) 2 tt o)
  close_code Flow o = absurd (miss (8 ∷ []) 3 tt o)
  close_code Transfer o = absurd (miss (8 ∷ []) 4 tt o)
  close_code Disposition o = absurd (miss (8 ∷ []) 5 tt o)
  close_code (Detach a) o = absurd (miss (8 ∷ []) 6 tt o)
  close_code (End a) o = absurd (miss (8 ∷ []) 7 tt o)
  close_code (Close a) o = refl

  other_code : (p : Performative) → ((x : Option Condition) → p ≡ Close x → ⊥) → false ≡ eqb (performative_says p).0 24
  other_code (Open a b c) o = refl
  other_code (Begin a) o = refl
  other_code Attach o = refl
  other_code Flow o = refl
  other_code Transfer o = refl
  other_code Disposition o = refl
  other_code (Detach a) o = refl
  other_code (End a) o = refl
  other_code (Close a) o = absurd (o a refl)

  pub close_body_is : (g : D.Frame) → f ≡ Ok g → (channel size from end : ℕ) (p : Performative) → g ≡ Body channel size from p end → OneOf (8 ∷ []) (tag_of performative_type p) → true ≡ is_close (read_frame limit highest s)
  close_body_is g is channel size from end p q o = close_code p o ∙ ap (λ u. said_close (frame_says u)) (sym (is ∙ ap (λ u. Ok u) q)) ∙ close_is

  pub other_body : (g : D.Frame) → f ≡ Ok g → (channel size from end : ℕ) (p : Performative) → g ≡ Body channel size from p end → ((x : Option Condition) → p ≡ Close x → ⊥) → false ≡ is_close (read_frame limit highest s)
  other_body g is channel size from end p q o = other_code p o ∙ ap (λ u. said_close (frame_says u)) (sym (is ∙ ap (λ u. Ok u) q)) ∙ close_is

-- ---- what it consumes

pub consumes_all : (a : Result FrameAnswer Refusal) (x : FrameAnswer) (size : ℕ) → a ≡ Ok x → size ≡ consumed_for (answer_says a) size
consumes_all a x size q = rw q

-- the places of all refusals but those of a length that is not to be trusted
abbrev trusted : List ℕ
trusted = 0 ∷ 1 ∷ 4 ∷ 5 ∷ 6 ∷ 7 ∷ 8 ∷ 9 ∷ 10 ∷ 11 ∷ 12 ∷ 13 ∷ 14 ∷ 15 ∷ 16 ∷ []

module _ (a : Result FrameAnswer Refusal) (size : ℕ) (k : Refusal) (q : a ≡ Err k) where
  pub consumes_none : (x : Refusal) → k ≡ x → 0 ≡ consumed_for (refuse (number_of x)) size → 0 ≡ consumed_for (answer_says a) size
  consumes_none x e p = rw (q, e) p

  pub consumes_size : OneOf trusted (tag_of refusal_type k) → size ≡ consumed_for (answer_says a) size
  consumes_size o = rw (q, ne_eqb (number_of k) 3 (other TooShort k trusted tt o), ne_eqb (number_of k) 4 (other OverReadingLimit k trusted tt o))

-- ---- phases after a read

pub phase_closed : (a : FrameAnswer) (n : ℕ) (error : Bool) (x y : ConnectionState) (o : O.Outcome) → a ≡ Closed n error → outcome_says o ≡ closed_by M.fine (state_says x) error → phase_says (Stopped o) ≡ phase_read (close_in (came_says a)) (state_says x) (state_says y)
phase_closed a n error x y o q e = ap M.stopped e ∙ ap (λ u. phase_read (close_in (came_says u)) (state_says x) (state_says y)) (sym q)

settles_by : (a : FrameAnswer) (x y : S.State) → OneOf (0 ∷ 1 ∷ 3 ∷ 4 ∷ []) (tag_of answer_type a) → M.settled y ≡ phase_read (close_in (came_says a)) x y
settles_by (NothingToDo n) x y o = refl
settles_by (Opened n idle) x y o = refl
settles_by (Closed n error) x y o = absurd (miss (0 ∷ 1 ∷ 3 ∷ 4 ∷ []) 2 tt o)
settles_by (Forward n code h from len) x y o = refl
settles_by (Began n ch h from len) x y o = refl

pub phase_over : (a : FrameAnswer) (x y : ConnectionState) (b : Bool) → OneOf (0 ∷ 1 ∷ 3 ∷ 4 ∷ []) (tag_of answer_type a) → b ≡ is S.End (state_says y) → b ≡ true → phase_says (Stopped Fine) ≡ phase_read (close_in (came_says a)) (state_says x) (state_says y)
phase_over a x y b o e t = ap (λ u. cond u (M.stopped M.fine) M.running) (sym t ∙ e) ∙ settles_by a (state_says x) (state_says y) o

pub phase_on : (a : FrameAnswer) (x y : ConnectionState) (b : Bool) → OneOf (0 ∷ 1 ∷ 3 ∷ 4 ∷ []) (tag_of answer_type a) → b ≡ is S.End (state_says y) → b ≡ false → phase_says Running ≡ phase_read (close_in (came_says a)) (state_says x) (state_says y)
phase_on a x y b o e f = ap (λ u. cond u (M.stopped M.fine) M.running) (sym f ∙ e) ∙ settles_by a (state_says x) (state_says y) o

module _ (kept : O.Outcome) (c : Connection) (a : Result FrameAnswer Refusal) where
  abbrev awaits_by : Result FrameAnswer Refusal → M.Phase
  awaits_by b = awaited_by (role_says c.endpoint.role) (outcome_says kept) (state_says c.local_state) (answer_says b)

  pub awaited_refused :
      (k : Refusal) (role : E.Role) (error : InnerError) (o : O.Outcome) → a ≡ Err k → role ≡ c.endpoint.role → error_says error ≡ read_fault (role_says role) (number_of k) → outcome_says o ≡ M.outcome_of (error_says error)
      → phase_says (Stopped o) ≡ awaits_by a
  awaited_refused k role error o q r e w = ap M.stopped (w ∙ ap M.outcome_of (e ∙ ap (λ u. read_fault (role_says u) (number_of k)) r)) ∙ ap awaits_by (sym q)

  module _ (x : FrameAnswer) (q : a ≡ Ok x) where
    pub awaited_closed :
        (n : ℕ) (error : Bool) (y : ConnectionState) (o : O.Outcome) → x ≡ Closed n error → y ≡ c.local_state → outcome_says o ≡ closed_by (outcome_says kept) (state_says y) error → phase_says (Stopped o) ≡ awaits_by a
    awaited_closed n error y o p s w = ap M.stopped (w ∙ ap (λ u. closed_by (outcome_says kept) (state_says u) error) s) ∙ ap awaits_by (sym (q ∙ ap (λ u. Ok u) p))

    pub awaited_on : OneOf (0 ∷ 1 ∷ 3 ∷ 4 ∷ []) (tag_of answer_type x) → phase_says (Awaiting kept) ≡ awaits_by a
    awaited_on h = awaits_by_lem x h ∙ ap awaits_by (sym q)
      where
        awaits_by_lem : (b : FrameAnswer) → OneOf (0 ∷ 1 ∷ 3 ∷ 4 ∷ []) (tag_of answer_type b) → phase_says (Awaiting kept) ≡ awaits_by (Ok b)
        awaits_by_lem (NothingToDo n) h = refl
        awaits_by_lem (Opened n idle) h = refl
        awaits_by_lem (Closed n error) h = absurd (miss (0 ∷ 1 ∷ 3 ∷ 4 ∷ []) 2 tt h)
        awaits_by_lem (Forward n code handle from len) h = refl
        awaits_by_lem (Began n ch handle from len) h = refl

-- ---- where a read leads

module _ (x : S.State) (c : Connection) (n : ℕ) (out : List ℕ) where
  -- whatever the connection is lent
  abbrev Leads : Result FrameAnswer Refusal → List ℕ → Landed → Type 0
  Leads a out' l = (t id : List ℕ) → LeadsTo x (answer_says a) (View.whole c t id) n out out' (landed_in l t id)

  pub leads_failing :
      (a : Result FrameAnswer Refusal) (k : Refusal) (role : E.Role) (error : InnerError) (out' : List ℕ) (l : Landed) → a ≡ Err k → role ≡ c.endpoint.role → error_says error ≡ read_fault (role_says role) (number_of k)
      → ((t id : List ℕ) → Fails (error_says error) (View.whole c t id) n out out' (landed_in l t id)) → Leads a out' l
  leads_failing a k role error out' l q r e f t id =
      let w = View.whole c t id in
      record {
        leads_keeps = (f t id).fails_keeps;
        leads_to = λ z bytes lent m o y y'.
            subst (λ u. Lands (M.read_to (View.role_of w) (View.settings_of w) lent x (answer_says u) (View.view_of w) bytes) lent out' (landed_in l t id)) (sym q)
            (subst (λ u. Lands (M.fail (View.role_of w) (View.settings_of w) u (View.view_of w) bytes lent) lent out' (landed_in l t id)) (e ∙ ap (λ u. read_fault (role_says u) (number_of k)) r) ((f t id).fails z bytes lent m o y y'));
      }

  pub leads_on :
      (a : Result FrameAnswer Refusal) (b : FrameAnswer) (y : ConnectionState) (p : Phase) → a ≡ Ok b → y ≡ c.local_state → phase_says p ≡ phase_read (close_in (came_says b)) x (state_says y)
      → Leads a out (record { phase = p; written = n; connection = c })
  leads_on a b y p o s e t id =
      let w = View.whole c t id in
      let l : LandedIn = record { phase = p; written = n; connection = w } in
      record {
        leads_keeps = keeps_self w;
        leads_to = λ z bytes lent m q r r'.
            subst (λ u. Lands (M.read_to (View.role_of w) (View.settings_of w) lent x (answer_says u) (View.view_of w) bytes) lent out l) (sym o) (record {
              lands_phase = e ∙ (λ i. phase_read (close_in (came_says b)) x (state_says (s i)));
              lands_connection = refl;
              lands_count = m;
              lands_output = q;
            });
      }

-- ---- a Close that is answered

pub answered_refused : (role : E.Role) (a : Result FrameAnswer Refusal) (x y : S.State) (k : Refusal) (error : InnerError) (o : O.Outcome) → a ≡ Err k → error_says error ≡ read_fault (role_says role) (number_of k) → outcome_says o ≡ M.outcome_of (error_says error) → phase_says (Stopped o) ≡ M.phase_answered (role_says role) x (answer_says a) y
answered_refused role a x y k error o q e w = ap M.stopped (w ∙ ap M.outcome_of e) ∙ ap (λ u. M.phase_answered (role_says role) x (answer_says u) y) (sym q)

pub answered_taken : (role : E.Role) (a : Result FrameAnswer Refusal) (b : FrameAnswer) (x y : S.State) (p : Phase) → a ≡ Ok b → phase_says p ≡ phase_read (close_in (came_says b)) x y → phase_says p ≡ M.phase_answered (role_says role) x (answer_says a) y
answered_taken role a b x y p q e = e ∙ ap (λ u. M.phase_answered (role_says role) x (answer_says u) y) (sym q)

-- ---- whether it is to be answered

pub answers_received :
    (c : Connection) (limit highest : ℕ) (s : List ℕ) (x : ConnectionState) (b : Bool) → x ≡ CloseReceived → limit ≡ c.endpoint.reading_limit → highest ≡ c.endpoint.local_open.channel_max
    → b ≡ is_close (read_frame limit highest s) → (t id : List ℕ) → b ≡ answers_close (View.view_of (View.whole c t id)).reading_limit (View.settings_of (View.whole c t id)).channel_max s (state_says x)
answers_received c limit highest s x b q l h e t id =
    e ∙ (λ i. is_close (read_frame (l i) (h i) s)) ∙ both close ∙ ap (λ u. close && is S.CloseReceived (state_says u)) (sym q)
  where
    close : Bool
    close = is_close (read_frame (View.view_of (View.whole c t id)).reading_limit (View.settings_of (View.whole c t id)).channel_max s)

    both : (v : Bool) → v ≡ (v && true)
    both true = refl
    both false = refl

pub answers_not :
    (c : Connection) (s : List ℕ) (x : ConnectionState) → OneOf (failing (is S.CloseReceived) states) (tag_of state_type x)
    → (t id : List ℕ) → false ≡ answers_close (View.view_of (View.whole c t id)).reading_limit (View.settings_of (View.whole c t id)).channel_max s (state_says x)
answers_not c s x h t id =
    neither close ∙ ap (λ u. close && u) (fails (is S.CloseReceived) x h)
  where
    close : Bool
    close = is_close (read_frame (View.view_of (View.whole c t id)).reading_limit (View.settings_of (View.whole c t id)).channel_max s)

    neither : (v : Bool) → false ≡ (v && false)
    neither true = refl
    neither false = refl

-- ---- stopped

pub stops : (p : Phase) → OneOf (2 ∷ []) (tag_of phase_type p) → true ≡ M.is_stopped (phase_says p)
stops Running o = absurd (miss (2 ∷ []) 0 tt o)
stops (Awaiting x) o = absurd (miss (2 ∷ []) 1 tt o)
stops (Stopped x) o = refl

pub stops_not : (p : Phase) → OneOf (0 ∷ 1 ∷ []) (tag_of phase_type p) → false ≡ M.is_stopped (phase_says p)
stops_not Running o = refl
stops_not (Awaiting x) o = refl
stops_not (Stopped x) o = absurd (miss (0 ∷ 1 ∷ []) 2 tt o)
