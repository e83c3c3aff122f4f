-- Phases: whether an engine goes on, where it settles, and which states a phase goes with.
-- Assumes nothing.
use mathlib.Core.Path.{◌≡◌, refl, sym, ◌∙◌, ap, subst}
use mathlib.Core.Bool.{Bool, true, false, cond, not, ◌&&◌}
use mathlib.Core.List.{List, [], ◌∷◌}
use Rattle.std.specs.Prelude.{None, Some}
use Prim.Native.Nat.{ℕ}
use types.Run.{OneOf, miss}
use denote.Enum.Declared.{tag_of}
use lib.Dec.{T}
use borrow.Author.Tests.{ne_eqb}
use Rattle.octets.specs.Refusal.{number_of}
use Rattle.octets.specs.declared.Refusal.{Refusal}
use Rattle.octets.specs.declared.Refusal.TheVariants.{IllegalState as NotAllowed}
use Rattle.octets.specs.contracts.Refusal.{the_type as refusal_type}
use Rattle.connection_state.specs.States.{State, Start, HeaderReceived, HeaderSent, HeaderExchange, OpenPipe, OpenClosePipe, OpenReceived, OpenSent, ClosePipe, Opened, CloseReceived, CloseSent, Discarding, End, is, is_one_of}
use Rattle.connection_state.proofs.States.{states, everywhere}
use Rattle.connection_state.proofs.Laws.{failing, fails}
use Rattle.connection_state.specs.contracts.ConnectionState.{the_type as state_type}
use Rattle.connection_state.specs.Answers.{state_says}
use Rattle.connection_state.specs.declared.ConnectionState.{ConnectionState}
use Rattle.connection.specs.declared.Connection.{Connection}
use Rattle.connection_model.proofs.Rules.{true_is}
use Rattle.engine_model.specs.Engine as M
use Rattle.engine_model.specs.Phases.{is_told, awaits, stops_in, goes_with}
use Rattle.engine.specs.declared.Outcome.{Outcome}
use Rattle.engine.specs.declared.Outcome.TheVariants.{Fine, TransportError, IllegalState}
use Rattle.engine.specs.declared.Phase.{Phase}
use Rattle.engine.specs.declared.Phase.TheVariants.{Running, Awaiting, Stopped}
use Rattle.engine.specs.declared.Running.TheVariants.{Continue, Stop}
use Rattle.engine.specs.contracts.Phase.{the_type}
use Rattle.engine.specs.Answers.{engine_of, phase_says, outcome_says, goes_on}
use Rattle.engine.specs.Promises.{Settles, not_closed, resumed_as}
use Rattle.engine.proofs.Refusals.{other}

pub over : (c : Connection) (x : ConnectionState) (b : Bool) → x ≡ c.local_state → b ≡ is End (state_says x) → b ≡ true → Settles c (record { phase = Stopped Fine; connection = c })
over c x b s e t = record { settles = ap (λ u. cond u (M.stopped M.fine) M.running) (sym t ∙ e ∙ ap (λ y. is End (state_says y)) s); settles_with = refl }

pub on : (c : Connection) (x : ConnectionState) (b : Bool) → x ≡ c.local_state → b ≡ is End (state_says x) → b ≡ false → Settles c (record { phase = Running; connection = c })
on c x b s e f = record { settles = ap (λ u. cond u (M.stopped M.fine) M.running) (sym f ∙ e ∙ ap (λ y. is End (state_says y)) s); settles_with = refl }

pub goes_running : (p : Phase) → OneOf (0 ∷ []) (tag_of the_type p) → Continue ≡ goes_on p
goes_running Running o = refl
goes_running (Awaiting x) o = absurd (miss (0 ∷ []) 1 tt o)
goes_running (Stopped x) o = absurd (miss (0 ∷ []) 2 tt o)

pub goes_awaiting : (p : Phase) → OneOf (1 ∷ []) (tag_of the_type p) → Continue ≡ goes_on p
goes_awaiting Running o = absurd (miss (1 ∷ []) 0 tt o)
goes_awaiting (Awaiting x) o = refl
goes_awaiting (Stopped x) o = absurd (miss (1 ∷ []) 2 tt o)

pub goes_stopped : (p : Phase) (x : Outcome) → p ≡ Stopped x → Stop x ≡ goes_on p
goes_stopped p x e = sym (ap goes_on e)

pub ends_not : (p : Phase) → OneOf (0 ∷ []) (tag_of the_type p) → false ≡ not (M.is_running (phase_says p))
ends_not Running o = refl
ends_not (Awaiting x) o = absurd (miss (0 ∷ []) 1 tt o)
ends_not (Stopped x) o = absurd (miss (0 ∷ []) 2 tt o)

pub ends : (p : Phase) → OneOf (1 ∷ 2 ∷ []) (tag_of the_type p) → true ≡ not (M.is_running (phase_says p))
ends Running o = absurd (miss (1 ∷ 2 ∷ []) 0 tt o)
ends (Awaiting x) o = refl
ends (Stopped x) o = refl

-- ---- the error path's phases

pub closed_over : (o : Outcome) (x : ConnectionState) (b : Bool) → b ≡ is End (state_says x) → b ≡ true → phase_says (Stopped o) ≡ M.closed_with (outcome_says o) (state_says x)
closed_over o x b e t = ap (λ u. cond u (M.stopped (outcome_says o)) (M.awaiting (outcome_says o))) (sym t ∙ e)

pub closed_awaits : (o : Outcome) (x : ConnectionState) (b : Bool) → b ≡ is End (state_says x) → b ≡ false → phase_says (Awaiting o) ≡ M.closed_with (outcome_says o) (state_says x)
closed_awaits o x b e f = ap (λ u. cond u (M.stopped (outcome_says o)) (M.awaiting (outcome_says o))) (sym f ∙ e)

-- the places of all refusals but the one of the state
abbrev allowed : List ℕ
allowed = 0 ∷ 1 ∷ 2 ∷ 3 ∷ 4 ∷ 5 ∷ 6 ∷ 7 ∷ 8 ∷ 10 ∷ 11 ∷ 12 ∷ 13 ∷ 14 ∷ 15 ∷ 16 ∷ []

pub unclosed_else : (e : Refusal) (o : Outcome) (x : ConnectionState) → OneOf allowed (tag_of refusal_type e) → phase_says (Stopped TransportError) ≡ not_closed (number_of e) (outcome_says o) (state_says x)
unclosed_else e o x h = ap (λ u. cond u (M.unclosed (outcome_says o) (state_says x)) (M.stopped M.transport_error)) (sym (ne_eqb (number_of e) 20 (other NotAllowed e allowed tt h)))

-- in an arm that names the state
pub unclosed_there : (k : Refusal) (o : Outcome) (p : Phase) (x y : ConnectionState) → k ≡ NotAllowed → x ≡ y → phase_says p ≡ M.unclosed (outcome_says o) (state_says y) → phase_says p ≡ not_closed (number_of k) (outcome_says o) (state_says x)
unclosed_there k o p x y e q h =
    h ∙ ap (λ z. M.unclosed (outcome_says o) (state_says z)) (sym q) ∙ ap (λ u. not_closed (number_of u) (outcome_says o) (state_says x)) (sym e)

-- in no other is a Close on its way, or was one
elsewhere : (o : M.Outcome) (x : State) → is_one_of (ClosePipe ∷ CloseSent ∷ Discarding ∷ End ∷ []) x ≡ false → M.stopped M.illegal_state ≡ M.unclosed o x
elsewhere o Start e = refl
elsewhere o HeaderReceived e = refl
elsewhere o HeaderSent e = refl
elsewhere o HeaderExchange e = refl
elsewhere o OpenPipe e = refl
elsewhere o OpenClosePipe e = refl
elsewhere o OpenReceived e = refl
elsewhere o OpenSent e = refl
elsewhere o ClosePipe e = absurd (subst T e tt)
elsewhere o Opened e = refl
elsewhere o CloseReceived e = refl
elsewhere o CloseSent e = absurd (subst T e tt)
elsewhere o Discarding e = absurd (subst T e tt)
elsewhere o End e = absurd (subst T e tt)

pub unclosed_elsewhere : (k : Refusal) (o : Outcome) (x : ConnectionState) → k ≡ NotAllowed → OneOf (failing (is_one_of (ClosePipe ∷ CloseSent ∷ Discarding ∷ End ∷ [])) states) (tag_of state_type x) → phase_says (Stopped IllegalState) ≡ not_closed (number_of k) (outcome_says o) (state_says x)
unclosed_elsewhere k o x e h =
    elsewhere (outcome_says o) (state_says x) (sym (fails (is_one_of (ClosePipe ∷ CloseSent ∷ Discarding ∷ End ∷ [])) x h))
    ∙ ap (λ u. not_closed (number_of u) (outcome_says o) (state_says x)) (sym e)

-- ---- the states that a phase goes with

-- with the outcome that the arm names
pub stops_as :
    (o u : Outcome) (x : ConnectionState) (b : Bool) → o ≡ u → b ≡ is_one_of (stops_in (outcome_says u)) (state_says x) → b ≡ is_one_of (stops_in (outcome_says o)) (state_says x)
stops_as o u x b e p = p ∙ ap (λ v. is_one_of (stops_in (outcome_says v)) (state_says x)) (sym e)

pub stops_anywhere : (o : Outcome) (x : ConnectionState) → o ≡ TransportError → true ≡ is_one_of (stops_in (outcome_says o)) (state_says x)
stops_anywhere o x e = stops_as o TransportError x true e (sym (true_is (is_one_of states (state_says x)) (everywhere (is_one_of states) tt tt (state_says x))))

pub stops_end :
    (o u : Outcome) (x : ConnectionState) (b : Bool) → o ≡ u → stops_in (outcome_says u) ≡ End ∷ [] → b ≡ is End (state_says x) → b ≡ is_one_of (stops_in (outcome_says o)) (state_says x)
stops_end o u x b e l p = stops_as o u x b e (p ∙ sym (itself (is End (state_says x))) ∙ ap (λ v. is_one_of v (state_says x)) (sym l))
  where
    itself : (d : Bool) → cond d true false ≡ d
    itself true = refl
    itself false = refl

pub goes_run : (p : Phase) (x : ConnectionState) (b : Bool) → OneOf (0 ∷ []) (tag_of the_type p) → b ≡ is CloseReceived (state_says x) → not b ≡ goes_with (phase_says p) (state_says x)
goes_run Running x b o e = ap not e
goes_run (Awaiting u) x b o e = absurd (miss (0 ∷ []) 1 tt o)
goes_run (Stopped u) x b o e = absurd (miss (0 ∷ []) 2 tt o)

module _ (p : Phase) (o : Outcome) (x : ConnectionState) (e : p ≡ Awaiting o) (t : Bool) (is-told : t ≡ is_told (outcome_says o)) where
  awaited_as : (d : Bool) → t ≡ d → goes_with (phase_says p) (state_says x) ≡ d && awaits (state_says x)
  awaited_as d q = ap (λ u. goes_with (phase_says u) (state_says x)) e ∙ ap (λ d. d && awaits (state_says x)) (sym is-told ∙ q)

  pub goes_told : t ≡ true → (b : Bool) → b ≡ awaits (state_says x) → b ≡ goes_with (phase_says p) (state_says x)
  goes_told q b a = a ∙ sym (awaited_as true q)

  pub goes_untold : t ≡ false → false ≡ goes_with (phase_says p) (state_says x)
  goes_untold q = sym (awaited_as false q)

pub goes_stopped_in : (p : Phase) (o : Outcome) (x : ConnectionState) (b : Bool) → p ≡ Stopped o → b ≡ is_one_of (stops_in (outcome_says o)) (state_says x) → b ≡ goes_with (phase_says p) (state_says x)
goes_stopped_in p o x b e q = q ∙ ap (λ u. goes_with (phase_says u) (state_says x)) (sym e)

-- ---- an engine that was kept

module _ (p : Phase) (c : Connection) (x : ConnectionState) (b : Bool) (st : x ≡ c.local_state) (goes : b ≡ goes_with (phase_says p) (state_says x)) where
  pub resumed_kept : cond b (Some (engine_of p c)) None ≡ resumed_as p c
  resumed_kept = ap (λ u. cond u (Some (engine_of p c)) None) (goes ∙ ap (λ y. goes_with (phase_says p) (state_says y)) st)
