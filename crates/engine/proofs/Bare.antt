-- A refused event consumed and wrote nothing; of an event that was not refused there is nothing to show.
-- Assumes nothing.
use mathlib.Core.Path.{◌≡◌, sym, ap, subst}
use Rattle.std.specs.Prelude.{Result, Ok, Err}
use Prim.Native.Nat.{ℕ}
use Rattle.octets.specs.declared.Refusal.{Refusal}
use Rattle.engine.specs.declared.Landed.{Landed}
use Rattle.engine.specs.declared.OnOutgoing.{OnOutgoing}
use Rattle.engine.specs.declared.Running as R
use Rattle.engine.specs.Answers.{goes_on, Bare}
use Rattle.engine.specs.Sending.{outgoing_from}

-- the event was not refused
pub bare_on : (x : Result R.Running Refusal) (r : R.Running) (consumed written : ℕ) (P : Refusal → Type 0) → x ≡ Ok r → Bare x consumed written P
bare_on x r consumed written P e = subst (λ y. Bare y consumed written P) (sym e) tt

-- nor was it where the error path led here
pub bare_landed : (r : OnOutgoing) (l : Landed) (k : Refusal) (P : Refusal → Type 0) → r ≡ outgoing_from l k → Bare r.running 0 r.written P
bare_landed r l k P e = bare_on r.running (goes_on l.phase) 0 r.written P (ap (λ x. x.running) e)

-- the event was refused
pub bare_not : (x : Result R.Running Refusal) (k : Refusal) (consumed written : ℕ) (P : Refusal → Type 0) → x ≡ Err k → consumed ≡ 0 → written ≡ 0 → P k → Bare x consumed written P
bare_not x k consumed written P e c w p = subst (λ y. Bare y consumed written P) (sym e) (c, w, p)
