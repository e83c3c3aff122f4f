-- Calls that read: what a header or a frame that was read comes to.
-- Assumes nothing.
use mathlib.Core.Path.{◌≡◌, refl, sym, ◌∙◌, ap, ap₂, subst}
use mathlib.Core.Bool.{Bool, true, false, cond}
use mathlib.Core.List.{List, [], ◌∷◌}
use Rattle.std.specs.Prelude.{Option, None, Some, Result, Ok, Err, is_some}
use Prim.Native.Nat.{ℕ, ◌≤◌, ◌<◌, min}
use native.Mathlib.Omega.{arith}
use lib.Dec.{leb, eqb}
use borrow.Author.Tests.{eqb-true, le-leb}
use Rattle.octets.specs.Verdict.{Verdict, refuse, accept, require, and_then}
use Rattle.octets.specs.Output.{laid}
use Rattle.octets.specs.Refusal.{number_of}
use Rattle.octets.specs.declared.Refusal.{Refusal}
use Rattle.octets.specs.declared.Refusal.TheVariants.{IllegalState}
use Rattle.octets.proofs.Laws.{require_on, then_accept, then_refuse}
use Rattle.performatives.specs.Performative.{Performative, said, values_in, values_of, max_frame_size, channel_max, idle_time_out, remote_channel, condition}
use Rattle.frame_decoder.specs.Frame.{Frame, FrameSaid, read_frame, said_of, frame_said}
use Rattle.frame_decoder.specs.Answers.{frame_answer, ending_at, frame_says}
use Rattle.frame_decoder.specs.declared.Frame as F
use Rattle.frame_decoder.specs.declared.Frame.TheVariants.{Empty, Body}
use Rattle.frame_decoder.proofs.Laws.{frame_was, read_was}
use Rattle.performatives.specs.declared.Performative as P
use Rattle.performatives.specs.declared.Performative.TheVariants.{Open, Begin, Attach, Flow, Transfer, Disposition, Detach, End, Close}
use Rattle.performatives.specs.declared.Condition.{Condition}
use Rattle.performatives.specs.Answers.{performative_says, condition_says}
use Rattle.protocol_header.specs.Header.{Protocol, amqp100, other, received}
use Rattle.protocol_header.specs.Answers as H
use Rattle.protocol_header.specs.declared.HeaderRead.{HeaderRead}
use Rattle.protocol_header.specs.declared.HeaderRead.TheVariants.{Amqp, Other}
use Rattle.protocol_header.specs.declared.ProtocolHeader.{ProtocolHeader as HeaderStruct}
use Rattle.frame_encoder.specs.Frames.{Settings}
use Rattle.connection_state.specs.States.{State, Move, Discarding, is, is_one_of, along, reading, before_open, receive_header, receive_other_header, read_open, read_close}
use Rattle.connection_state.specs.declared.ConnectionState.{ConnectionState}
use Rattle.connection_state.specs.Answers.{state_says, moved_says}
use Rattle.channels.specs.Ties.{Tie}
use Rattle.connection_model.specs.Connection as M
use Rattle.connection_model.specs.Connection.{Role, Answer, Outcome, receive_header_from, headed, says, stay, nothing_to_do, has_error, open_read, close_read, begun, session_read, performative_read, frame_read, go, agree, header, other_protocol, opened, closed, clamped}
use Rattle.connection_model.proofs.Rules.{accepted, on_along, opens, and_left, true_is}
use Rattle.connection_model.proofs.Invariant.{before_open_is}
use Rattle.endpoint.specs.declared.Endpoint.{Endpoint}
use Rattle.endpoint.specs.declared.Incoming.{Incoming}
use Rattle.endpoint.specs.declared.Routed.{Routed}
use Rattle.endpoint.specs.Answers as A
use Rattle.endpoint.specs.Answers.{places_of, frame_of, answer_says}
use Rattle.endpoint.specs.Promises as E
use Rattle.endpoint.proofs.Opening.{Agrees, agrees_with}
use Rattle.endpoint.proofs.Basics.{same_all}
use Rattle.connection.specs.declared.Connection.{Connection}
use Rattle.connection.specs.declared.ReceivedHeader.{ReceivedHeader}
use Rattle.connection.specs.declared.ReceivedFrame.{ReceivedFrame}
use Rattle.connection.specs.View.{Whole, whole, endpoint_in, role_of, settings_of, view_of, Sound, header_says}
use Rattle.connection.specs.Promises.{Does, Reads, ReadsIn, ReadsBy, moved_to, bare_says, open_said, said_read}
use Rattle.connection.proofs.Calls.{refuses, Quiet, reads_does, stepped, refused_reads, accepted_reads, moved_held, moved_same}

-- ---- a performative, by what is said of it

values_16 : (p : Performative) → eqb p.code 16 ≡ true → values_of p ≡ max_frame_size p ∷ channel_max p ∷ idle_time_out p ∷ []
unfolding values_of values_in
values_16 p e = rw e

values_17 : (p : Performative) → eqb p.code 17 ≡ true → values_of p ≡ remote_channel p
unfolding values_of values_in
values_17 p e = let q : p.code ≡ 17 = eqb-true _ _ e in rw q

values_24 : (p : Performative) → eqb p.code 24 ≡ true → values_of p ≡ condition 0 p
unfolding values_of values_in
values_24 p e = let q : p.code ≡ 24 = eqb-true _ _ e in rw q

-- two choices are alike where their branches are, each where its test holds
cond_same : {A : Type 0} (b : Bool) (u v w x : A) → (b ≡ true → u ≡ v) → (b ≡ false → w ≡ x) → cond b u w ≡ cond b v x
cond_same true u v w x p q = p refl
cond_same false u v w x p q = q refl

require_same : {A : Type 0} (k : ℕ) (b : Bool) (f g : Unit {0} → Verdict A) → f tt ≡ g tt → require k b f ≡ require k b g
unfolding require
require_same k true f g p = p
require_same k false f g p = refl

module _ (role : Role) (S : Settings) (c : M.Connection) (f : Frame) (h : ℕ) (p : Performative) where
  session_said_lem : session_read role c f h p.code (remote_channel p) ≡ session_read role c f h p.code (values_of p)
  session_said_lem =
      require_same 20 (is_one_of reading c.state) _ _
      (cond_same (eqb p.code 17) _ _ _ _ (λ e. ap (begun role c f h) (sym (values_17 p e))) (λ e. refl))

  pub read_said : performative_read role S c f h p ≡ said_read role S c f h p.code (values_of p)
  read_said =
      cond_same (eqb p.code 24) _ _ _ _ (λ e. ap (λ v. close_read c f (has_error v)) (sym (values_24 p e)))
      (λ _. ap (cond (is Discarding c.state) (says (nothing_to_do f.size) stay))
      (cond_same (eqb p.code 16) _ _ _ _ (λ e. ap (open_said S c f) (sym (values_16 p e))) (λ _. session_said_lem)))

-- ---- a frame

-- what was read, by its answer
pub answer_was :
    (limit highest : ℕ) (s : List ℕ) (x : FrameSaid) → accept x ≡ frame_answer limit highest s → (r : Frame × Option Performative) × (read_frame limit highest s ≡ accept r) × (frame_said r ≡ x)
unfolding frame_answer and_then
answer_was limit highest s x e = go (read_frame limit highest s) refl e
  where
    go : (v : Verdict (Frame × Option Performative)) → read_frame limit highest s ≡ v → accept x ≡ and_then v (λ r. accept (frame_said r)) → (r : Frame × Option Performative) × (read_frame limit highest s ≡ accept r) × (frame_said r ≡ x)
    go (refuse k) p q = let z : ◌≡◌ {A = ℕ} 0 1 = cc in absurd (omega arith)
    go (accept r) p q = (r, p, let w : frame_said r ≡ x = cc in w)

pub answer_refused : (limit highest : ℕ) (s : List ℕ) (k : ℕ) → refuse k ≡ frame_answer limit highest s → read_frame limit highest s ≡ refuse k
unfolding frame_answer and_then
answer_refused limit highest s k e = go (read_frame limit highest s) refl e
  where
    go : (v : Verdict (Frame × Option Performative)) → read_frame limit highest s ≡ v → refuse k ≡ and_then v (λ r. accept (frame_said r)) → read_frame limit highest s ≡ refuse k
    go (refuse j) p q = p ∙ (let w : ◌≡◌ {A = Verdict (Frame × Option Performative)} (refuse j) (refuse k) = cc in w)
    go (accept r) p q = let z : ◌≡◌ {A = ℕ} 0 1 = cc in absurd (omega arith)

-- a frame with a performative p, that says what its answer says
module _ (limit highest : ℕ) (s : List ℕ) (ch size from end : ℕ) (p : P.Performative) (e : frame_says (Ok (Body ch size from p end)) ≡ frame_answer limit highest s) where
  was : (r : Frame × Option Performative) × (read_frame limit highest s ≡ accept r) × (frame_said r ≡ record { size = size; channel = ch; from = from; content = Some (ending_at end p) })
  was = answer_was limit highest s _ e

  -- its channel is within the highest
  pub body_channel : ch ≤ highest
  body_channel =
      let r = was.0 in
      let q : r.0.channel ≡ ch = ap (λ y. y.channel) was.2 in
      subst (λ n. n ≤ highest) q (frame_was limit highest s r.0 (read_was limit highest s r was.1).0).known

  module _ (role : Role) (S : Settings) (c : M.Connection) (h : ℕ) where
    by_said :
        (f : Frame) (o : Option Performative) → said_of o ≡ Some (ending_at end p)
        → frame_read role S c h (f, o) ≡ said_read role S c f h (performative_says p).0 (performative_says p).1
    by_said f None q = let z : ◌≡◌ {A = ℕ} 0 1 = cc in absurd (omega arith)
    by_said f (Some x) q =
        let w : said x ≡ ending_at end p = cc in
        read_said role S c f h x ∙ ap₂ (said_read role S c f h) (ap (λ y. y.code) w) (ap (λ y. y.values) w)

    pub body_comes :
        (f : Frame) → f ≡ record { size = size; channel = ch; from = from }
        → and_then (read_frame limit highest s) (frame_read role S c h) ≡ said_read role S c f h (performative_says p).0 (performative_says p).1
    body_comes f q =
        let r = was.0 in
        let g : r.0 ≡ f = (λ i. record { size = (was.2 i).size; channel = (was.2 i).channel; from = (was.2 i).from }) ∙ sym q in
        then_accept _ _ r was.1 ∙ by_said r.0 r.1 (ap (λ y. y.content) was.2)
        ∙ ap (λ g. said_read role S c g h (performative_says p).0 (performative_says p).1) g

-- an empty frame
pub empty_comes :
    (limit highest : ℕ) (s : List ℕ) (ch size from : ℕ) (role : Role) (S : Settings) (c : M.Connection) (h : ℕ) → frame_says (Ok (Empty ch size from)) ≡ frame_answer limit highest s
    → and_then (read_frame limit highest s) (frame_read role S c h) ≡ says (nothing_to_do size) stay
empty_comes limit highest s ch size from role S c h e =
    let w = answer_was limit highest s _ e in
    then_accept _ _ w.0 w.1 ∙ by_none w.0.0 w.0.1 (ap (λ y. y.size) w.2) (ap (λ y. y.content) w.2)
  where
    by_none : (f : Frame) (o : Option Performative) → f.size ≡ size → said_of o ≡ None → frame_read role S c h (f, o) ≡ says (nothing_to_do size) stay
    by_none f None p q = ap (λ n. says (nothing_to_do n) stay) p
    by_none f (Some x) p q = let z : ◌≡◌ {A = ℕ} 0 1 = cc in absurd (omega arith)

-- ---- which frame it is

pub bare_empty : (r : F.Frame) (ch size from : ℕ) → r ≡ Empty ch size from → nothing_to_do size ≡ bare_says r
bare_empty r ch size from e = sym (ap bare_says e)

pub bare_body : (r : F.Frame) (ch size from end : ℕ) (p : P.Performative) → r ≡ Body ch size from p end → nothing_to_do size ≡ bare_says r
bare_body r ch size from end p e = sym (ap bare_says e)

-- ---- which performative it is not

pub not_close : (p : P.Performative) → ((e : Option Condition) → p ≡ Close e → ⊥) → eqb (performative_says p).0 24 ≡ false
not_close (Open a b c) h = refl
not_close (Begin r) h = refl
not_close Attach h = refl
not_close Flow h = refl
not_close Transfer h = refl
not_close Disposition h = refl
not_close (Detach e) h = refl
not_close (End e) h = refl
not_close (Close e) h = absurd (h e refl)

pub not_open : (p : P.Performative) → ((a b c : ℕ) → p ≡ Open a b c → ⊥) → eqb (performative_says p).0 16 ≡ false
not_open (Open a b c) h = absurd (h a b c refl)
not_open (Begin r) h = refl
not_open Attach h = refl
not_open Flow h = refl
not_open Transfer h = refl
not_open Disposition h = refl
not_open (Detach e) h = refl
not_open (End e) h = refl
not_open (Close e) h = refl

-- ---- nothing is written

quiet_refuse : (k : ℕ) → Quiet (refuse k)
unfolding laid
quiet_refuse k = record { silent = refl }

quiet_says : (a : Answer) (e : M.Effect) → Quiet (says a e)
unfolding laid
quiet_says a e = record { silent = refl }

pub quiet_nothing : (n : ℕ) → Quiet (says (nothing_to_do n) stay)
quiet_nothing n = quiet_says (nothing_to_do n) stay

quiet_then : {A : Type 0} (v : Verdict A) (f : A → Verdict Outcome) → ((a : A) → Quiet (f a)) → Quiet (and_then v f)
unfolding and_then
quiet_then (refuse k) f q = quiet_refuse k
quiet_then (accept a) f q = q a

quiet_require : (k : ℕ) (b : Bool) (f : Unit {0} → Verdict Outcome) → Quiet (f tt) → Quiet (require k b f)
unfolding require
quiet_require k true f q = q
quiet_require k false f q = quiet_refuse k

quiet_cond : (b : Bool) (u v : Verdict Outcome) → Quiet u → Quiet v → Quiet (cond b u v)
quiet_cond true u v p q = p
quiet_cond false u v p q = q

pub quiet_headed : (c : M.Connection) (p : Protocol) → Quiet (headed c p)
quiet_headed c amqp100 = quiet_then _ _ (λ x. quiet_says _ _)
quiet_headed c (other h) = quiet_then _ _ (λ x. quiet_says _ _)

pub quiet_given : (h : ℕ) (l : Option (List ℕ)) → Quiet (M.given h l)
quiet_given h None = quiet_refuse 21
quiet_given h (Some []) = quiet_refuse 23
quiet_given h (Some (ch ∷ rest)) = quiet_says _ _

pub quiet_released : (ch : ℕ) (o : Option ℕ) → Quiet (M.released ch o)
quiet_released ch None = quiet_refuse 26
quiet_released ch (Some h) = quiet_says _ _

module _ (role : Role) (S : Settings) (c : M.Connection) (f : Frame) (h : ℕ) where
  quiet_tie : (r : ℕ) (o : Option ℕ) → Quiet (M.tie_to f r o)
  quiet_tie r None = quiet_refuse 24
  quiet_tie r (Some k) = quiet_says _ _

  quiet_untie : (o : Option Tie) → Quiet (M.untie f o)
  quiet_untie None = quiet_refuse 24
  quiet_untie (Some k) = quiet_says _ _

  quiet_pass : (code : ℕ) (o : Option Tie) → Quiet (M.pass_on f code o)
  quiet_pass code None = quiet_refuse 24
  quiet_pass code (Some k) = quiet_says _ _

  quiet_new : (ρ : Role) (l : Option (List ℕ)) → Quiet (M.new_session ρ f h l)
  quiet_new M.dialler l = quiet_refuse 25
  quiet_new M.listener None = quiet_refuse 25
  quiet_new M.listener (Some []) = quiet_refuse 25
  quiet_new M.listener (Some (ch ∷ rest)) = quiet_says _ _

  quiet_begun : (rs : List ℕ) → Quiet (begun role c f h rs)
  quiet_begun [] = quiet_new role c.hand_out
  quiet_begun (r ∷ rs) = quiet_tie r (c.taken r)

  quiet_open : (values : List ℕ) → Quiet (open_said S c f values)
  quiet_open [] = quiet_refuse 6
  quiet_open (a ∷ []) = quiet_refuse 6
  quiet_open (a ∷ b ∷ []) = quiet_refuse 6
  quiet_open (a ∷ b ∷ d ∷ rest) = quiet_then _ _ (λ x. quiet_says _ _)

  pub quiet_said : (code : ℕ) (values : List ℕ) → Quiet (said_read role S c f h code values)
  quiet_said code values =
      quiet_cond (eqb code 24) _ _ (quiet_then (along read_close c.state) _ (λ x. quiet_says _ _))
      (quiet_cond (is Discarding c.state) _ _ (quiet_says _ _)
      (quiet_cond (eqb code 16) _ _ (quiet_open values)
      (quiet_require 20 (is_one_of reading c.state) _
      (quiet_cond (eqb code 17) _ _ (quiet_begun values)
      (quiet_cond (eqb code 23) _ _ (quiet_untie (c.ties f.channel)) (quiet_pass code (c.ties f.channel)))))))

-- ---- what the private functions come to

-- it was refused, and the connection is as it was
abbrev pub NoHeaderAs : Refusal → Connection → ReceivedHeader → Type 0
NoHeaderAs k c s = (s.answer ≡ Err k) × (s.connection ≡ c)

abbrev pub NoFrameAs : Refusal → Connection → ReceivedFrame → Type 0
NoFrameAs k c s = (s.answer ≡ Err k) × (s.connection ≡ c)

-- nothing is agreed in a state that the peer's Open leads on from
unagreed : (w : Whole) (x : State) → Sound w → along read_open (view_of w).state ≡ accept x → (view_of w).agreed_max ≡ None
unagreed w x z e =
    let t = accepted (on_along opens read_open tt (view_of w).state) e in
    ap (λ c. c.agreed_max) (before_open_is z.reached (true_is (is_one_of before_open (view_of w).state) (and_left (is_one_of before_open (view_of w).state) _ t)))

module _ (c : Connection) where
  -- a move, or 20
  module _ (table : List Move) (a : Answer) (m : Option ConnectionState) (p : moved_says m ≡ along table (state_says c.local_state)) where
    moved : (next : ConnectionState) (d : Connection) → m ≡ Some next → d ≡ moved_to c next → ReadsBy (λ w. and_then (along table (view_of w).state) (λ x. says a (go x))) c (accept a) d
    moved next d i q t id =
        accepted_reads _ (whole c t id) (whole d t id) a (go (state_says next)) (λ z. then_accept _ _ _ (sym p ∙ ap moved_says i)) (λ z. ap (λ u. view_of (whole u t id)) q)
        (λ z. moved_held c d t id next q z.held) (moved_same c d t id next q)

    unmoved : (v : Verdict Answer) (d : Connection) → m ≡ None → v ≡ refuse 20 → d ≡ c → ReadsBy (λ w. and_then (along table (view_of w).state) (λ x. says a (go x))) c v d
    unmoved v d i r q t id =
        refused_reads _ (whole c t id) (whole d t id) 20 v (λ z. then_refuse _ _ 20 (sym p ∙ ap moved_says i)) r (ap (λ u. whole u t id) q)

  -- a header
  pub amqp_moved : (m : Option ConnectionState) (next : ConnectionState) (d : Connection) → m ≡ Some next → moved_says m ≡ along receive_header (state_says c.local_state) → d ≡ moved_to c next
      → ReadsBy (λ w. headed (view_of w) amqp100) c (accept (header 8)) d
  amqp_moved m next d i p q = moved receive_header (header 8) m p next d i q

  pub amqp_not : (m : Option ConnectionState) (s : ReceivedHeader) → NoHeaderAs IllegalState c s → m ≡ None → moved_says m ≡ along receive_header (state_says c.local_state)
      → ReadsBy (λ w. headed (view_of w) amqp100) c (header_says s.answer) s.connection
  amqp_not m s r i p = unmoved receive_header (header 8) m p _ _ i (ap header_says r.0) r.1

  pub other_moved : (m : Option ConnectionState) (next : ConnectionState) (d : Connection) → m ≡ Some next → moved_says m ≡ along receive_other_header (state_says c.local_state) → d ≡ moved_to c next
      → ReadsBy (λ w. and_then (along receive_other_header (view_of w).state) (λ x. says (other_protocol 8) (go x))) c (accept (other_protocol 8)) d
  other_moved m next d i p q = moved receive_other_header (other_protocol 8) m p next d i q

  pub other_not : (m : Option ConnectionState) (s : ReceivedHeader) → NoHeaderAs IllegalState c s → m ≡ None → moved_says m ≡ along receive_other_header (state_says c.local_state)
      → ReadsBy (λ w. and_then (along receive_other_header (view_of w).state) (λ x. says (other_protocol 8) (go x))) c (header_says s.answer) s.connection
  other_not m s r i p = unmoved receive_other_header (other_protocol 8) m p _ _ i (ap header_says r.0) r.1

  -- the peer's Close
  module _ (f : Frame) (b : Bool) where
    pub close_moved : (m : Option ConnectionState) (next : ConnectionState) (d : Connection) → m ≡ Some next → moved_says m ≡ along read_close (state_says c.local_state) → d ≡ moved_to c next
        → ReadsBy (λ w. close_read (view_of w) f b) c (accept (closed f.size b)) d
    close_moved m next d i p q = moved read_close (closed f.size b) m p next d i q

    pub close_not : (m : Option ConnectionState) (s : ReceivedFrame) → NoFrameAs IllegalState c s → m ≡ None → moved_says m ≡ along read_close (state_says c.local_state)
        → ReadsBy (λ w. close_read (view_of w) f b) c (answer_says s.answer) s.connection
    close_not m s r i p = unmoved read_close (closed f.size b) m p _ _ i (ap answer_says r.0) r.1

  -- the peer's Open
  module _ (f : Frame) (size most idle : ℕ) (m : Option ConnectionState) (p : moved_says m ≡ along read_open (state_says c.local_state)) where
    pub open_agreed :
        (next : ConnectionState) (e : Endpoint) → m ≡ Some next → e ≡ E.agreed_with size most c.endpoint
        → ReadsBy (λ w. open_read (settings_of w) (view_of w) f size most idle) c (accept (opened f.size idle)) (record { local_state = next; endpoint = e })
    open_agreed next e i new t id =
        let w = whole c t id in
        let g : Agrees size most (A.whole c.endpoint t id) (A.whole e t id) = subst (λ x. Agrees size most (A.whole c.endpoint t id) (A.whole x t id)) (sym new) (agrees_with c.endpoint size most t id) in
        let r : along read_open (view_of w).state ≡ accept (state_says next) = sym p ∙ ap moved_says i in
        accepted_reads _ w _ _ (agree (state_says next) (min (settings_of w).channel_max most) (clamped size)) (λ z. then_accept _ _ _ r)
        (λ z. g.agrees z.held (unagreed w _ z r) (view_of w).state (state_says next)) (λ z. g.agrees_sound z.held (unagreed w _ z r)) g.agrees_same

    pub open_not : (s : ReceivedFrame) → NoFrameAs IllegalState c s → m ≡ None → ReadsBy (λ w. open_read (settings_of w) (view_of w) f size most idle) c (answer_says s.answer) s.connection
    open_not s r i t id =
        refused_reads _ (whole c t id) _ 20 _ (λ z. then_refuse _ _ 20 (sym p ∙ ap moved_says i)) (ap answer_says r.0) (ap (λ u. whole u t id) r.1)

  -- a session's frame, on a channel that the peer may use
  pub session_routed :
      (t : List ℕ) (i : Incoming) (h code : ℕ) (rs : List ℕ) (r : Routed) (t' : List ℕ) → i.channel < places_of c.endpoint
      → E.Steps (λ w. require 7 (leb i.channel (A.settings_of w).channel_max) (λ _. session_read (A.role_of w) (A.view_as (state_says c.local_state) w) (frame_of i) h code rs)) c.endpoint t (answer_says r.answer) r.endpoint t'
      → ReadsIn (λ w. session_read (role_of w) (view_of w) (frame_of i) h code rs) c t (answer_says r.answer) (record { local_state = c.local_state; endpoint = r.endpoint }) t'
  session_routed t i h code rs r t' l s id =
      subst (λ rule. Reads rule (whole c t id) (answer_says r.answer) (whole (record { local_state = c.local_state; endpoint = r.endpoint }) t' id))
      (require_on 7 _ _ (le-leb i.channel c.endpoint.local_open.channel_max (omega arith))) (stepped (whole c t id) _ _ (A.whole r.endpoint t' id) (s id))

  -- by kind
  module _ (t : List ℕ) (f : Frame) (h : ℕ) (p : P.Performative) where
    abbrev by_kind : Whole → Verdict Outcome
    by_kind w = said_read (role_of w) (settings_of w) (view_of w) f h (performative_says p).0 (performative_says p).1

    told : (e : Option Condition) → is_some e ≡ has_error (condition_says e)
    told None = refl
    told (Some c) = refl

    pub by_close :
        (a : Verdict Answer) (d : Connection) (e : Option Condition) (b : Bool) → p ≡ Close e → b ≡ is_some e → ReadsBy (λ w. close_read (view_of w) f b) c a d → ReadsIn by_kind c t a d t
    by_close a d e b q v r id =
        let w = whole c t id in
        subst (λ k. Reads (said_read (role_of w) (settings_of w) (view_of w) f h (performative_says k).0 (performative_says k).1) w a (whole d t id)) (sym q)
        (subst (λ x. Reads (close_read (view_of w) f x) w a (whole d t id)) (v ∙ told e) (r t id))

    pub by_discarding : ((e : Option Condition) → p ≡ Close e → ⊥) → (b : Bool) → b ≡ is Discarding (state_says c.local_state) → b ≡ true → ReadsIn by_kind c t (accept (nothing_to_do f.size)) c t
    by_discarding n b e x id =
        accepted_reads (by_kind (whole c t id)) (whole c t id) (whole c t id) _ stay (λ z. rw (not_close p n, sym e, x)) (λ z. refl) (λ z. z.held) (same_all (endpoint_in (whole c t id)))

    pub by_open :
        (a : Verdict Answer) (d : Connection) (size most idle : ℕ) → p ≡ Open size most idle → (b : Bool) → b ≡ is Discarding (state_says c.local_state) → b ≡ false
        → ReadsBy (λ w. open_read (settings_of w) (view_of w) f size most idle) c a d → ReadsIn by_kind c t a d t
    by_open a d size most idle q b e y r id =
        let w = whole c t id in
        let x : is Discarding (view_of w).state ≡ false = sym e ∙ y in
        subst (λ k. Reads (said_read (role_of w) (settings_of w) (view_of w) f h (performative_says k).0 (performative_says k).1) w a (whole d t id)) (sym q)
        (subst (λ b. Reads (cond b (says (nothing_to_do f.size) stay) (open_read (settings_of w) (view_of w) f size most idle)) w a (whole d t id)) (sym x) (r t id))

    pub by_session :
        (t' : List ℕ) (a : Verdict Answer) (d : Connection) → ((e : Option Condition) → p ≡ Close e → ⊥) → (b : Bool) → b ≡ is Discarding (state_says c.local_state) → b ≡ false
        → ((a b c : ℕ) → p ≡ Open a b c → ⊥)
        → ReadsIn (λ w. session_read (role_of w) (view_of w) f h (performative_says p).0 (performative_says p).1) c t a d t' → ReadsIn by_kind c t a d t'
    by_session t' a d n b e y m r id = subst (λ u. Reads u (whole c t id) a (whole d t' id)) (sym (rw (not_close p n, sym e, y, not_open p m))) (r id)

-- ---- a header that comes

module _ (c : Connection) (s : List ℕ) (r : Result HeaderRead Refusal) (e : H.header_says r ≡ received s) where
  pub header_amqp : (g : HeaderRead) → r ≡ Ok g → (a : Verdict Answer) (d : Connection) → g ≡ Amqp → ReadsBy (λ w. headed (view_of w) amqp100) c a d → (t id : List ℕ) → Does (receive_header_from s) (whole c t id) a [] (whole d t id)
  unfolding H.header_says
  header_amqp g is a d p q t id =
      let w = whole c t id in
      reads_does (receive_header_from s) w (whole d t id) (headed (view_of w) amqp100) a refl (quiet_headed (view_of w) amqp100)
      (λ z. then_accept (received s) (headed (view_of w)) amqp100 (sym e ∙ ap H.header_says (is ∙ ap (λ u. Ok u) p))) (q t id)

  pub header_other :
      (g : HeaderRead) → r ≡ Ok g → (h : HeaderStruct) (a : Verdict Answer) (d : Connection) → g ≡ Other h → ReadsBy (λ w. and_then (along receive_other_header (view_of w).state) (λ x. says (other_protocol 8) (go x))) c a d
      → (t id : List ℕ) → Does (receive_header_from s) (whole c t id) a [] (whole d t id)
  unfolding H.header_says
  header_other g is h a d p q t id =
      let w = whole c t id in
      reads_does (receive_header_from s) w (whole d t id) (headed (view_of w) (other (H.header_of h))) a refl (quiet_headed (view_of w) (other (H.header_of h)))
      (λ z. then_accept (received s) (headed (view_of w)) (other (H.header_of h)) (sym e ∙ ap H.header_says (is ∙ ap (λ u. Ok u) p))) (q t id)

  pub header_not : (k : Refusal) (x : ReceivedHeader) → r ≡ Err k → NoHeaderAs k c x → (t id : List ℕ) → Does (receive_header_from s) (whole c t id) (header_says x.answer) [] (whole x.connection t id)
  unfolding H.header_says
  header_not k x p q t id =
      refuses (receive_header_from s) (whole c t id) _ (number_of k) _ [] (λ z. then_refuse (received s) _ (number_of k) (sym e ∙ ap H.header_says p)) (ap header_says q.0) (ap (λ d. whole d t id) q.1) refl
