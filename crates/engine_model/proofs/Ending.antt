-- What a phase tells of the past: the peer's Close is awaited where one was written and none was read; and an engine that stopped with the outcome fine has closed, or met another protocol.
-- Assumes nothing.
use mathlib.Core.Path.{◌≡◌, sym, ◌∙◌, ap, subst}
use mathlib.Core.Logic.{◌⊎◌, inl, inr, ⊎_elim}
use mathlib.Core.Bool.{Bool, true, false, cond}
use mathlib.Core.List.{List, [], ◌∷◌}
use lib.Dec.{T}
use Rattle.frame_encoder.specs.Frames.{Settings}
use Rattle.connection_state.specs.States.{State, ClosePipe, Discarding, End, is, is_one_of}
use Rattle.connection_state.proofs.States.{is_state}
use Rattle.connection_model.specs.Connection as M
use Rattle.connection_model.specs.Connection.{Role, Call}
use Rattle.connection_model.proofs.Rules.{and_right, implied, everywhere}
use Rattle.connection_model.proofs.Closing.{wrote_close, read_peer_close, met_other, closing, closing_written, closing_unread, end_both}
use Rattle.engine_model.specs.Engine.{Outcome, fine, awaiting, stopped, fresh, Event, run}
use Rattle.engine_model.specs.Phases.{is_told, awaits, goes_with}
use Rattle.engine_model.specs.Callers.{Valid}
use Rattle.engine_model.proofs.Phases.{phase_goes}
use Rattle.engine_model.proofs.Calls.{Made, written_in, events_made}

-- finished by both Closes or another protocol's header, or by a Close alone where the input ended before the peer's
abbrev pub ClosedBy : Role → Settings → List Call → State → Type 0
ClosedBy role S calls x =
    ((x ≡ End) × (((wrote_close role S M.fresh calls ≡ true) × (read_peer_close role S M.fresh calls ≡ true)) ⊎ (met_other role S M.fresh calls ≡ true)))
    ⊎ (T (is_one_of (ClosePipe ∷ Discarding ∷ []) x) × (wrote_close role S M.fresh calls ≡ true))

finished_one : (x : State) → T (goes_with (stopped fine) x) → T (is End x) ⊎ T (is_one_of (ClosePipe ∷ Discarding ∷ []) x)
finished_one x t = by (is ClosePipe x) (is Discarding x) (is End x) t
  where
    by : (a b d : Bool) → T (cond a true (cond b true (cond d true false))) → T d ⊎ T (cond a true (cond b true false))
    by true b d u = inr tt
    by false true d u = inr tt
    by false false d u = inl (only d u)
      where
        only : (d : Bool) → T (cond d true false) → T d
        only true v = tt
        only false v = v

awaits_closing : (o : Outcome) (x : State) → T (goes_with (awaiting o) x) → T (is_one_of closing x)
awaits_closing o x t = implied (awaits x) (is_one_of closing x) (everywhere (λ y. cond (awaits y) (is_one_of closing y) true) tt tt x) (and_right (is_told o) (awaits x) t)

pipes_closing : (x : State) → T (is_one_of (ClosePipe ∷ Discarding ∷ []) x) → T (is_one_of closing x)
pipes_closing x t =
    implied (is_one_of (ClosePipe ∷ Discarding ∷ []) x) (is_one_of closing x) (everywhere (λ y. cond (is_one_of (ClosePipe ∷ Discarding ∷ []) y) (is_one_of closing y) true) tt tt x) t

-- for every list of calls that leads to the connection inside
module _ (role : Role) (S : Settings) (events : List Event) where
  abbrev reached_state : State
  reached_state = (run role S fresh events).connection.state

  abbrev LeadsInside : List Call → Type 0
  LeadsInside calls = M.run role S M.fresh calls ≡ (run role S fresh events).connection

  -- stopped with the outcome fine
  pub fine_is_closed : (run role S fresh events).phase ≡ stopped fine → (calls : List Call) → LeadsInside calls → ClosedBy role S calls reached_state
  fine_is_closed p calls l = ⊎_elim
      (λ e. let z : reached_state ≡ End = sym (is_state End reached_state e) in inl (z, end_both role S calls (same_state ∙ z)))
      (λ u. inr (u, closing_written role S calls (subst (λ x. T (is_one_of closing x)) (sym same_state) (pipes_closing reached_state u))))
      (finished_one reached_state (subst (λ q. T (goes_with q reached_state)) p (phase_goes role S events)))
    where
      same_state : (M.run role S M.fresh calls).state ≡ reached_state
      same_state = ap (λ c. c.state) l

  -- while the peer's Close is awaited, one was written and none was read
  pub awaiting_is_closing :
      (o : Outcome) → (run role S fresh events).phase ≡ awaiting o → (calls : List Call) → LeadsInside calls
      → (wrote_close role S M.fresh calls ≡ true) × (read_peer_close role S M.fresh calls ≡ false)
  awaiting_is_closing o p calls l =
      let u : T (is_one_of closing (M.run role S M.fresh calls).state) =
      subst (λ c. T (is_one_of closing c.state)) (sym l) (awaits_closing o reached_state (subst (λ q. T (goes_with q reached_state)) p (phase_goes role S events))) in
      (closing_written role S calls u, closing_unread role S calls u)

  -- and there is such a list, of calls that a caller can pass, that writes what the events write
  pub fine_by_calls :
      Valid events → (run role S fresh events).phase ≡ stopped fine
      → (m : Made role S M.fresh (run role S fresh events).connection (written_in role S fresh events)) × ClosedBy role S m.calls reached_state
  fine_by_calls ok p = let m : Made role S M.fresh (run role S fresh events).connection (written_in role S fresh events) = events_made role S fresh events ok in (m, fine_is_closed p m.calls m.leads)
