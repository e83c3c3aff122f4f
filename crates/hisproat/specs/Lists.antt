-- Whole lists of calls from C, as the definition of the engine has them.
-- Assumes nothing: these are definitions.
use Rattle.std.specs.Prelude.{cond, List, [], ◌∷◌, ℕ}
use Rattle.frame_encoder.specs.Frames.{Settings}
use Rattle.connection_model.specs.Connection.{Role}
use Rattle.engine_model.specs.Engine.{Engine, Event, lent, seen, next}
use Rattle.hisproat.specs.Crossing.{Shown, saw, fits_in}

-- a call: its event, and the bytes that are lent for its answer
pub record Called : Type 0 where
  pub event : Event
  pub answer : List ℕ

-- what a call shows on an engine: 9 where what is lent is too short, else the event
abbrev pub shows_on : Role → Settings → Engine → Called → Shown
shows_on role S e call =
    cond (fits_in call.event call.answer) (saw (seen role S e call.event) call.answer)
    (record { returned = 9; answer = call.answer; output = lent call.event })

abbrev pub next_in : Role → Settings → Engine → Called → Engine
next_in role S e call = cond (fits_in call.event call.answer) (next role S e call.event) e

abbrev pub run_in : Role → Settings → Engine → List Called → Engine
run_in role S e [] = e
run_in role S e (call ∷ calls) = run_in role S (next_in role S e call) calls

abbrev pub shown_in : Role → Settings → Engine → List Called → List Shown
shown_in role S e [] = []
shown_in role S e (call ∷ calls) = shows_on role S e call ∷ shown_in role S (next_in role S e call) calls
