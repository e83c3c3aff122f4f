-- The account theorem, of the code.
--
-- Take two connections that the code's constructors made with the same role and settings, and bring each to where it stands by a list of the code's own calls, each call given the connection that the last one gave back, with the tables and the
-- container-id that belong to it, refused calls included. Then their accounts, which are computed from role, settings and calls alone, are equal exactly if, whatever later list of calls both take with the same arguments, they show the same answers
-- and output bytes, call by call. The tables of the two need not be alike in any byte.
--
-- What the code's calls are is said in Runs.antt, by nothing but the contract that the checker has of each method. The one premise, `Returns`, is that every method returns on every argument. It is what the checker has shown when it calls a
-- method proved: a contract speaks of what is answered, and that there is an answer is the other half of a proof. Settings and tables need no premise: where they are refused, there is no connection to speak of.
-- Assumes nothing.
use mathlib.Core.Path.{◌≡◌, refl, sym, ◌∙◌, ap, ap₂, subst}
use mathlib.Core.Bool.{Bool, true, false, ◌&&◌}
use mathlib.Core.Logic.{◌↔◌}
use mathlib.Core.List.{List, [], ◌∷◌}
use Prim.Native.Nat.{ℕ}
use Rattle.octets.specs.Verdict.{Verdict}
use Rattle.frame_encoder.specs.Frames.{Settings}
use Rattle.connection_model.specs.Connection as M
use Rattle.connection_model.specs.Connection.{Role, Answer, Call, Seen, seen, next, run, seen_in, fresh}
use Rattle.connection_model.specs.Account.{account}
use Rattle.connection_model.specs.Callers.{is_slice, is_valid, are_valid, Valid}
use Rattle.connection_model.proofs.Theorem.{account_theorem}
use Rattle.local_open.specs.Settings.{allowed}
use Rattle.connection.specs.View.{Whole, role_of, settings_of, view_of, Sound}
use Rattle.connection.specs.Promises.{Does, Begun}
use Rattle.connection.proofs.Calls.{apart}
use Rattle.connection.proofs.Runs.{Step, send_header_step, receive_header_step, send_open_step, send_close_step, send_close_with_error_step, tick_step, allocate_session_step, deallocate_session_step, send_session_frame_step, receive_frame_step, Slices, New, dialled, listened, Runs, done, then, Next, Returns}

-- ---- what the contracts say

-- a step does what the definition has of its call, which is the contract of its method
step_does : {call : Call} {w v : Whole} {a : Verdict Answer} {out : List ℕ} → Step call w a out v → Does call w a out v
step_does (send_header_step x t id) = x.holds t id
step_does (receive_header_step x t id) = x.holds t id
step_does (send_open_step x t) = x.holds t
step_does (send_close_step x t id) = x.holds t id
step_does (send_close_with_error_step x t id) = x.holds t id
step_does (tick_step x t id) = x.holds t id
step_does (allocate_session_step x id) = (x.holds id).does
step_does (deallocate_session_step x id) = (x.holds id).does
step_does (send_session_frame_step x id) = (x.holds id).does
step_does (receive_frame_step x id) = (x.holds id).does

-- it leaves the container-id as it is
step_id : {call : Call} {w v : Whole} {a : Verdict Answer} {out : List ℕ} → Step call w a out v → v.id ≡ w.id
step_id (send_header_step x t id) = refl
step_id (receive_header_step x t id) = refl
step_id (send_open_step x t) = refl
step_id (send_close_step x t id) = refl
step_id (send_close_with_error_step x t id) = refl
step_id (tick_step x t id) = refl
step_id (allocate_session_step x id) = refl
step_id (deallocate_session_step x id) = refl
step_id (send_session_frame_step x id) = refl
step_id (receive_frame_step x id) = refl

step_slices : {call : Call} {w v : Whole} {a : Verdict Answer} {out : List ℕ} → Step call w a out v → is_slice v.tables ≡ true → Slices w → Slices v
step_slices step t s = record { tables_slice = t; id_slice = ap is_slice (step_id step) ∙ s.id_slice }

-- a connection that stands for this one of the definition
record Stands (role : Role) (S : Settings) (x : M.Connection) (w : Whole) : Type 0 where
  stands_role : role_of w ≡ role
  stands_settings : settings_of w ≡ S
  stands_view : view_of w ≡ x
  stands_sound : Sound w

first : (a b : Bool) → a && b ≡ true → a ≡ true
first true b e = refl
first false b e = e

rest : (a b : Bool) → a && b ≡ true → b ≡ true
rest true b e = e
rest false b e = apart (cc)

stands_new : (role : Role) (S : Settings) (w : Whole) → Begun role S w → Stands role S fresh w
stands_new role S w b = record { stands_role = b.begun_role; stands_settings = b.begun_settings; stands_view = b.begun_fresh; stands_sound = b.begun_sound }

made : (role : Role) (S : Settings) (w : Whole) → New role S w → Stands role S fresh w
made _ _ _ (dialled x c e s) = stands_new _ _ _ (x.holds.made c e)
made _ _ _ (listened x c e s) = stands_new _ _ _ (x.holds.made c e)

new_slices : (role : Role) (S : Settings) (w : Whole) → New role S w → Slices w
new_slices _ _ _ (dialled x c e s) = s
new_slices _ _ _ (listened x c e s) = s

-- its settings are within their limits, since a connection that was made is sound
within : (role : Role) (S : Settings) (w : Whole) → Stands role S fresh w → allowed S ≡ true
within role S w s = sym (ap allowed s.stands_settings) ∙ s.stands_sound.fine

runs_slices : {calls : List Call} {w v : Whole} {seens : List Seen} → Runs calls w seens v → Slices w → Slices v
runs_slices done s = s
runs_slices (then step t rest) s = runs_slices rest (step_slices step t s)

module _ (role : Role) (S : Settings) where
  goes_on_lem : (x : M.Connection) {call : Call} {w v : Whole} {a : Verdict Answer} {out : List ℕ} → Does call w a out v → Stands role S x w → Stands role S (next role S x call) v
  goes_on_lem x {call} does s = record {
    stands_role = does.same.same_role ∙ s.stands_role;
    stands_settings = does.same.same_settings ∙ s.stands_settings;
    stands_view = (does.meets s.stands_sound).leaves ∙ (λ i. next (s.stands_role i) (s.stands_settings i) (s.stands_view i) call);
    stands_sound = (does.meets s.stands_sound).sound;
  }

  saw : (x : M.Connection) {call : Call} {w v : Whole} {a : Verdict Answer} {out : List ℕ} → Does call w a out v → Stands role S x w → record { answer = a; output = out } ≡ seen role S x call
  saw x {call} does s = (does.meets s.stands_sound).draws ∙ (λ i. seen (s.stands_role i) (s.stands_settings i) (s.stands_view i) call)

  runs_to : {calls : List Call} {w v : Whole} {seens : List Seen} → Runs calls w seens v → (x : M.Connection) → Stands role S x w → Stands role S (run role S x calls) v
  runs_to done x s = s
  runs_to (then {call = call} step t rest) x s = runs_to rest (next role S x call) (goes_on_lem x (step_does step) s)

  runs_see : {calls : List Call} {w v : Whole} {seens : List Seen} → Runs calls w seens v → (x : M.Connection) → Stands role S x w → seens ≡ seen_in role S x calls
  runs_see done x s = refl
  runs_see (then {call = call} step t rest) x s = ap₂ ◌∷◌ (saw x (step_does step) s) (runs_see rest (next role S x call) (goes_on_lem x (step_does step) s))

-- both take a later list to its end and show the same all the way
record Alike (w v : Whole) (later : List Call) : Type 0 where
  seens : List Seen
  left : Whole
  right : Whole
  by_left : Runs later w seens left
  by_right : Runs later v seens right

module _ (role : Role) (S : Settings) (w v : Whole) (new-w : New role S w) (new-v : New role S v)
    (p q : List Call) (xs ys : List Seen) (w' v' : Whole) (to-w : Runs p w xs w') (to-v : Runs q v ys v') where
  at_w : Stands role S (run role S fresh p) w'
  at_w = runs_to role S to-w fresh (made role S w new-w)

  ok : allowed S ≡ true
  ok = within role S w (made role S w new-w)

  at_v : Stands role S (run role S fresh q) v'
  at_v = runs_to role S to-v fresh (made role S v new-v)

  -- equal accounts: whatever later list both take, they show the same
  alike : account (run role S fresh p) ≡ account (run role S fresh q) → (later : List Call) → Valid later → (us vs : List Seen) (w'' v'' : Whole) → Runs later w' us w'' → Runs later v' vs v'' → us ≡ vs
  alike same later ok' us vs w'' v'' x y =
      runs_see role S x _ at_w ∙ (account_theorem role S ok p q).0 same later ok' ∙ sym (runs_see role S y _ at_v)

  -- the same shown on every later list: equal accounts
  told : ((later : List Call) → Valid later → Alike w' v' later) → account (run role S fresh p) ≡ account (run role S fresh q)
  told f = (account_theorem role S ok p q).1 (λ later ok'. sym (runs_see role S (f later ok').by_left _ at_w) ∙ runs_see role S (f later ok').by_right _ at_v)

-- ---- as one claim

record Ran (calls : List Call) (w : Whole) : Type 0 where
  seens : List Seen
  later : Whole
  runs : Runs calls w seens later

runs_on : Returns → (calls : List Call) → Valid calls → (w : Whole) → Slices w → Ran calls w
runs_on all [] fine w s = record { seens = []; later = w; runs = done }
runs_on all (call ∷ calls) ok w s =
    let n : Next call w = all call (first (is_valid call) (are_valid calls) ok) w s in
    let m : Ran calls n.later = runs_on all calls (rest (is_valid call) (are_valid calls) ok) n.later (step_slices n.step n.later_slice s) in
    record { seens = record { answer = n.answer; output = n.output } ∷ m.seens; later = m.later; runs = then n.step n.later_slice m.runs }

-- Two connections that the code made with the same role and settings, each brought to where it stands by a list of the code's calls: their accounts are equal exactly if, whatever later list of calls both take,
-- they show the same answers and output bytes, call by call.
pub code_account_theorem :
    Returns → (role : Role) (S : Settings) (w v : Whole) → New role S w → New role S v
    → (p q : List Call) (xs ys : List Seen) (w' v' : Whole) → Runs p w xs w' → Runs q v ys v'
    → account (run role S fresh p) ≡ account (run role S fresh q)
    ↔ ((later : List Call) → Valid later → (us vs : List Seen) (w'' v'' : Whole) → Runs later w' us w'' → Runs later v' vs v'' → us ≡ vs)
code_account_theorem all role S w v new-w new-v p q xs ys w' v' to-w to-v = (
  alike role S w v new-w new-v p q xs ys w' v' to-w to-v,
  λ f. told role S w v new-w new-v p q xs ys w' v' to-w to-v (λ later ok.
      let x : Ran later w' = runs_on all later ok w' (runs_slices to-w (new_slices role S w new-w)) in
      let y : Ran later v' = runs_on all later ok v' (runs_slices to-v (new_slices role S v new-v)) in
      let e : x.seens ≡ y.seens = f later ok x.seens y.seens x.later y.later x.runs y.runs in
      record { seens = x.seens; left = x.later; right = y.later; by_left = x.runs; by_right = subst (λ s. Runs later v' s y.later) (sym e) y.runs }),
)
