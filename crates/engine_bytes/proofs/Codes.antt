-- The numbers of roles, outcomes and phases: what each step of the functions that read and lay them shows, with the facts as they come.
-- Assumes nothing.
use mathlib.Core.Path.{◌≡◌, refl, sym, ◌∙◌, ap}
use mathlib.Core.Bool.{Bool, true, false, cond}
use mathlib.Core.List.{List}
use Rattle.std.specs.Prelude.{Option, None, Some}
use Prim.Native.Nat.{ℕ}
use lib.Dec.{eqb}
use borrow.Author.Tests.{eq-eqb, ne_eqb}
use Rattle.octets.specs.Octets.{put}
use Rattle.engine_model.specs.Engine.{running, awaiting, stopped}
use Rattle.engine.specs.declared.Outcome as E
use Rattle.engine.specs.declared.Phase.{Phase}
use Rattle.engine.specs.Answers.{outcome_says, phase_says}
use Rattle.engine_bytes.specs.Bytes.{role_with, outcome_with, phase_bytes, in_phase, phase_with}
use Rattle.engine_bytes.specs.Promises.{outcome_read}

-- ---- role_with and outcome_with: a number that none has

pub role_none : (k : ℕ) → (Unit {0} × (k ≡ 0 → ⊥)) × (k ≡ 1 → ⊥) → None ≡ role_with k
role_none k n = rw (ne_eqb k 0 n.0.1, ne_eqb k 1 n.1)

pub outcome_none :
    (k : ℕ) → ((((((Unit {0} × (k ≡ 0 → ⊥)) × (k ≡ 1 → ⊥)) × (k ≡ 2 → ⊥)) × (k ≡ 3 → ⊥)) × (k ≡ 4 → ⊥)) × (k ≡ 5 → ⊥)) × (k ≡ 6 → ⊥)
    → None ≡ outcome_with k
unfolding outcome_with
outcome_none k n =
    rw (ne_eqb k 0 n.0.0.0.0.0.0.1, ne_eqb k 1 n.0.0.0.0.0.1, ne_eqb k 2 n.0.0.0.0.1, ne_eqb k 3 n.0.0.0.1, ne_eqb k 4 n.0.0.1, ne_eqb k 5 n.0.1, ne_eqb k 6 n.1)

-- ---- phase_with

module _ (p o : ℕ) where
  pub phase_runs : p ≡ 0 → o ≡ 0 → Some running ≡ phase_with p o
  unfolding phase_with
  phase_runs e f = rw (eq-eqb p 0 e, eq-eqb o 0 f)

  -- a phase that runs keeps no outcome
  pub phase_keeps : p ≡ 0 → (o ≡ 0 → ⊥) → None ≡ phase_with p o
  unfolding phase_with
  phase_keeps e f = rw (eq-eqb p 0 e, ne_eqb o 0 f)

  module _ (r : Option E.Outcome) (read : outcome_read r ≡ outcome_with o) where
    pub phase_unread : (p ≡ 0 → ⊥) → r ≡ None → None ≡ phase_with p o
    unfolding phase_with
    phase_unread z u = rw (ne_eqb p 0 z, sym read, u) (either (eqb p 1) (eqb p 2))
      where
        either : (a b : Bool) → None ≡ cond a (in_phase awaiting None) (cond b (in_phase stopped None) None)
        either true b = refl
        either false true = refl
        either false false = refl

    pub phase_awaits : (x : E.Outcome) → r ≡ Some x → p ≡ 1 → Some (awaiting (outcome_says x)) ≡ phase_with p o
    unfolding phase_with
    phase_awaits x u e = rw (e, sym read, u)

    pub phase_stops : (x : E.Outcome) → r ≡ Some x → p ≡ 2 → Some (stopped (outcome_says x)) ≡ phase_with p o
    unfolding phase_with
    phase_stops x u e = rw (e, sym read, u)

  -- a number that no phase has
  pub phase_none : (p ≡ 0 → ⊥) → (p ≡ 1 → ⊥) → (p ≡ 2 → ⊥) → None ≡ phase_with p o
  unfolding phase_with
  phase_none z a s = rw (ne_eqb p 0 z, ne_eqb p 1 a, ne_eqb p 2 s)

-- ---- put_phase

-- the bytes of the phase are laid
pub phase_laid_as :
    (phase x : Phase) (d d' : List ℕ) (at : ℕ) (bytes : List ℕ) → phase ≡ x → bytes ≡ phase_bytes (phase_says x) → d' ≡ put d at bytes → d' ≡ put d at (phase_bytes (phase_says phase))
phase_laid_as phase x d d' at bytes p e q = q ∙ ap (put d at) (e ∙ ap (λ y. phase_bytes (phase_says y)) (sym p))
