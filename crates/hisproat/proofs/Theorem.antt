-- What two engines must share to behave alike for ever, of the calls that a firmware makes.
--
-- A run lends each call the state that the last one left: nobody else writes to it meanwhile, its tables among it. Take two states in which the library made an engine of the same role and settings, and bring each to where it stands by a list of calls from C, each lent the state that the last one left, refused ones included. What the firmware sees of
-- them, number, answer and output of each call, is what the definition shows (`shown_so`), and the state stands for the definition's engine (`leads_to`). If the two engines are in one phase and their connections have equal
-- accounts, all of which is computed from role, settings and calls alone, then whatever later list of calls is made on both with the same arguments, it returns the same numbers and leaves the same answers and output bytes (`alike_for_ever`).
--
-- The other half of demand 3 is not claimed of an engine. In a phase that takes no event no call tells which channels are taken, so that engines with different accounts can be alike; of a connection it is proved (crates/connection/proofs/Theorem.antt).
-- Assumes nothing.
use mathlib.Core.Path.{◌≡◌, refl, sym, ◌∙◌, ap, ap₂, subst}
use mathlib.Core.Bool.{Bool, true, false, cond, ◌&&◌}
use mathlib.Core.List.{List, [], ◌∷◌}
use Prim.Native.Nat.{ℕ}
use native.Mathlib.Omega.{arith}
use lib.Dec.{leb}
use lib.ListN.{length}
use Rattle.frame_encoder.specs.Frames.{Settings}
use Rattle.local_open.specs.Settings.{allowed}
use Rattle.connection_model.specs.Connection.{Role}
use Rattle.connection_model.specs.Account.{account}
use Rattle.engine_model.specs.Engine.{Engine, Event, fresh, seen, next, lent}
use Rattle.engine_model.proofs.Alike.{AlikeInside, alike_seen, alike_next, accounts_alike_inside}
use Rattle.engine_bytes.specs.Bytes.{state_size, StandFor}
use Rattle.hisproat.specs.Crossing.{Crossing, Shown, shown, saw, fits_in, Crosses, Made, Makes}
use Rattle.hisproat.specs.Lists.{Called, shows_on, next_in, run_in, shown_in}
use Rattle.hisproat.proofs.Runs.{SendHeader, ReceiveHeader, SendOpen, OnIncoming, OnClose, OnCloseWithError, OnAllocate, OnDeallocate, OnOutgoing, OnTick, OnEndOfInput, OnNotDelivered, Step, send_header_step, receive_header_step, send_open_step, on_incoming_step, on_close_step, on_close_with_error_step, on_allocate_step, on_deallocate_step, on_outgoing_step, on_tick_step, on_end_of_input_step, on_not_delivered_step, New, dialled, listened, Runs, done, then}

-- ---- what the contracts say

-- a step comes to what the definition has of its call, which is the contract of its function
abbrev Kept : {event : Event} {s a : List ℕ} {c : Crossing} → Step event s a c → Type 0
Kept {event} {s} {a} {c} step = Crosses event s a c

send_header_crosses : (x : SendHeader) → Kept (send_header_step x)
send_header_crosses x = x.holds

receive_header_crosses : (x : ReceiveHeader) → Kept (receive_header_step x)
receive_header_crosses x = x.holds

send_open_crosses : (x : SendOpen) → Kept (send_open_step x)
send_open_crosses x = x.holds

on_incoming_crosses : (x : OnIncoming) → Kept (on_incoming_step x)
on_incoming_crosses x = x.holds

on_close_crosses : (x : OnClose) → Kept (on_close_step x)
on_close_crosses x = x.holds

on_close_with_error_crosses : (x : OnCloseWithError) → Kept (on_close_with_error_step x)
on_close_with_error_crosses x = x.holds

on_allocate_crosses : (x : OnAllocate) → Kept (on_allocate_step x)
on_allocate_crosses x = x.holds

on_deallocate_crosses : (x : OnDeallocate) → Kept (on_deallocate_step x)
on_deallocate_crosses x = x.holds

on_outgoing_crosses : (x : OnOutgoing) → Kept (on_outgoing_step x)
on_outgoing_crosses x = x.holds

on_tick_crosses : (x : OnTick) → Kept (on_tick_step x)
on_tick_crosses x = x.holds

on_end_of_input_crosses : (x : OnEndOfInput) → Kept (on_end_of_input_step x)
on_end_of_input_crosses x = x.holds

on_not_delivered_crosses : (x : OnNotDelivered) → Kept (on_not_delivered_step x)
on_not_delivered_crosses x = x.holds

step_crosses : {event : Event} {s a : List ℕ} {c : Crossing} → Step event s a c → Crosses event s a c
step_crosses (send_header_step x) = send_header_crosses x
step_crosses (receive_header_step x) = receive_header_crosses x
step_crosses (send_open_step x) = send_open_crosses x
step_crosses (on_incoming_step x) = on_incoming_crosses x
step_crosses (on_close_step x) = on_close_crosses x
step_crosses (on_close_with_error_step x) = on_close_with_error_crosses x
step_crosses (on_allocate_step x) = on_allocate_crosses x
step_crosses (on_deallocate_step x) = on_deallocate_crosses x
step_crosses (on_outgoing_step x) = on_outgoing_crosses x
step_crosses (on_tick_step x) = on_tick_crosses x
step_crosses (on_end_of_input_step x) = on_end_of_input_crosses x
step_crosses (on_not_delivered_step x) = on_not_delivered_crosses x

-- ---- a new engine

abbrev makes : ℕ → List ℕ → Made
makes k s = record { returned = k; state = s }

-- where 0 was returned, an engine was made
made_when : (role : Role) (S : Settings) (s t : List ℕ) (k : ℕ) (b : Bool) → allowed S && leb (state_size S.channel_max) (length s) ≡ b → Makes role S s (makes k t) → k ≡ 0 → StandFor t role S fresh
made_when role S s t k true e m z = (m.makes e).1
made_when role S s t k false e m z = let y : ◌≡◌ {A = ℕ} 0 8 = sym z ∙ ap (λ (x : Made). x.returned) (m.broken e) in absurd (omega arith)

new_stands : (role : Role) (S : Settings) (s : List ℕ) → New role S s → StandFor s role S fresh
new_stands _ _ _ (dialled x z) = made_when _ _ _ _ _ _ refl x.holds z
new_stands _ _ _ (listened x z) = made_when _ _ _ _ _ _ refl x.holds z

-- ---- a call, and lists of calls

module _ (role : Role) (S : Settings) where
  shows_so : {event : Event} {s a : List ℕ} {c : Crossing} → Step event s a c → (e : Engine) → StandFor s role S e → shown c ≡ shows_on role S e (record { event = event; answer = a })
  shows_so {event} {s} {a} {c} step e z = by (fits_in event a) refl
    where
      on : Bool → Shown
      on b = cond b (saw (seen role S e event) a) (record { returned = 9; answer = a; output = lent event })

      by : (b : Bool) → fits_in event a ≡ b → shown c ≡ on (fits_in event a)
      by true t = ((step_crosses step).stands t role S e z).shows ∙ sym (ap on t)
      by false t = ap shown ((step_crosses step).short t) ∙ sym (ap on t)

  -- the state afterwards stands for the engine that the definition has
  goes_on_lem : {event : Event} {s a : List ℕ} {c : Crossing} → Step event s a c → (e : Engine) → StandFor s role S e → StandFor c.state role S (next_in role S e (record { event = event; answer = a }))
  goes_on_lem {event} {s} {a} {c} step e z = by (fits_in event a) refl
    where
      then_stands : Bool → Type 0
      then_stands b = StandFor c.state role S (cond b (next role S e event) e)

      by : (b : Bool) → fits_in event a ≡ b → then_stands (fits_in event a)
      by true t = subst then_stands (sym t) ((step_crosses step).stands t role S e z).leads
      by false t = subst then_stands (sym t) (subst (λ x. StandFor x role S e) (sym (ap (λ (x : Crossing). x.state) ((step_crosses step).short t))) z)

  pub leads_to : {calls : List Called} {s t : List ℕ} {shows : List Shown} → Runs calls s shows t → (e : Engine) → StandFor s role S e → StandFor t role S (run_in role S e calls)
  leads_to done e z = z
  leads_to (then step more) e z = leads_to more _ (goes_on_lem step e z)

  -- what is seen is what the definition shows
  pub shown_so : {calls : List Called} {s t : List ℕ} {shows : List Shown} → Runs calls s shows t → (e : Engine) → StandFor s role S e → shows ≡ shown_in role S e calls
  shown_so done e z = refl
  shown_so (then step more) e z = ap₂ ◌∷◌ (shows_so step e z) (shown_so more _ (goes_on_lem step e z))

  -- ---- engines that are alike

  same_shown : {e f : Engine} → AlikeInside e f → (call : Called) → shows_on role S e call ≡ shows_on role S f call
  same_shown {e} {f} al call = by (fits_in call.event call.answer)
    where
      by : (b : Bool)
          → cond b (saw (seen role S e call.event) call.answer) (record { returned = 9; answer = call.answer; output = lent call.event })
          ≡ cond b (saw (seen role S f call.event) call.answer) (record { returned = 9; answer = call.answer; output = lent call.event })
      by true = ap (λ v. saw v call.answer) (alike_seen role S al call.event)
      by false = refl

  same_next : {e f : Engine} → AlikeInside e f → (call : Called) → AlikeInside (next_in role S e call) (next_in role S f call)
  same_next {e} {f} al call = by (fits_in call.event call.answer)
    where
      by : (b : Bool) → AlikeInside (cond b (next role S e call.event) e) (cond b (next role S f call.event) f)
      by true = alike_next role S al call.event
      by false = al

  alike_shown : (calls : List Called) {e f : Engine} → AlikeInside e f → shown_in role S e calls ≡ shown_in role S f calls
  alike_shown [] al = refl
  alike_shown (call ∷ calls) al = ap₂ ◌∷◌ (same_shown al call) (alike_shown calls (same_next al call))

pub alike_for_ever :
    (role : Role) (S : Settings) (s t : List ℕ) → New role S s → New role S t
    → (p q : List Called) (xs ys : List Shown) (s' t' : List ℕ) → Runs p s xs s' → Runs q t ys t'
    → (run_in role S fresh p).phase ≡ (run_in role S fresh q).phase → account (run_in role S fresh p).connection ≡ account (run_in role S fresh q).connection
    → (later : List Called) (us vs : List Shown) (s'' t'' : List ℕ) → Runs later s' us s'' → Runs later t' vs t'' → us ≡ vs
alike_for_ever role S s t new-s new-t p q xs ys s' t' to-s to-t phase same later us vs s'' t'' u v =
    let a = leads_to role S to-s fresh (new_stands role S s new-s) in
    let b = leads_to role S to-t fresh (new_stands role S t new-t) in
    shown_so role S u _ a
    ∙ alike_shown role S later (accounts_alike_inside a.reached b.reached phase same)
    ∙ sym (shown_so role S v _ b)
