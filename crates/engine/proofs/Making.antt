-- A new engine: it runs, with a new connection.
-- Assumes nothing.
use mathlib.Core.Path.{◌≡◌, sym, ap, subst}
use mathlib.Core.List.{List}
use Rattle.std.specs.Prelude.{Result, Ok, Err}
use Prim.Native.Nat.{ℕ}
use Rattle.octets.specs.declared.Refusal.{Refusal}
use Rattle.frame_encoder.specs.Frames.{Settings}
use Rattle.connection_model.specs.Connection.{Role}
use Rattle.connection.specs.Promises as C
use Rattle.connection.specs.declared.Connection.{Connection}
use Rattle.engine.specs.declared.ConnectionEngine.{ConnectionEngine}
use Rattle.engine.specs.declared.Phase.{Phase}
use Rattle.engine.specs.declared.Phase.TheVariants.{Running}
use Rattle.engine.specs.Answers.{engine_of}
use Rattle.engine.specs.Promises.{Makes, Runs}

abbrev phase_in : Result ConnectionEngine Refusal → Phase
phase_in (Ok e) = e.phase
phase_in (Err k) = Running

pub runs_refused : (made : Result Connection Refusal) (k : Refusal) → made ≡ Err k → Runs made (Err k)
runs_refused made k q = record { runs_with = sym q; runs_first = λ e z. sym (ap phase_in z) }

pub runs_made : (made : Result Connection Refusal) (c : Connection) → made ≡ Ok c → Runs made (Ok (engine_of Running c))
runs_made made c q = record { runs_with = sym q; runs_first = λ e z. sym (ap phase_in z) }

pub makes : (role : Role) (S : Settings) (t t' : List ℕ) (made : Result Connection Refusal) (r : Result ConnectionEngine Refusal) → C.Makes role S t made t' → Runs made r → Makes role S t r t'
makes role S t t' made r p q = record { made = subst (λ m. C.Makes role S t m t') (sym q.runs_with) p; runs = q.runs_first }
