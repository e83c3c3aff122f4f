-- Laws of settings: within which limits they are, and what an answer says of them.
-- Assumes nothing.
use mathlib.Core.Path.{◌≡◌, refl, sym, ap, ◌∙◌}
use mathlib.Core.Bool.{Bool, true, false}
use mathlib.Core.List.{List}
use Prim.Native.Nat.{ℕ}
use native.Mathlib.Omega.{arith}
use Rattle.std.specs.Prelude.{Result, Ok, Err}
use Rattle.octets.specs.Verdict.{Verdict, refuse, accept}
use Rattle.octets.specs.Refusal.{number_of}
use Rattle.octets.specs.declared.Refusal.{Refusal}
use Rattle.octets.specs.declared.Refusal.TheVariants.{OutOfBounds}
use Rattle.octets.proofs.Laws.{require_on, require_off}
use Rattle.octets.proofs.Refusals.{same_refusal}
use Rattle.frame_encoder.specs.Frames.{Settings}
use Rattle.frame_encoder.proofs.Laws.{Within, settings_within}
use Rattle.local_open.specs.declared.LocalOpen.{LocalOpen}
use Rattle.local_open.specs.Settings.{allowed, checked, open_says, new_says}

pub allowed_within : (S : Settings) → allowed S ≡ true → Within S.container_id S.max_frame_size S.channel_max
allowed_within S ok = settings_within S.container_id S.max_frame_size S.channel_max ok

-- ---- the answer, by the test

module _ (S : Settings) (b : Bool) (ok : b ≡ allowed S) where
  pub answered_taken : b ≡ true → accept S ≡ checked S
  answered_taken e = sym (require_on 8 _ _ (sym ok ∙ e))

  pub answered_refused : b ≡ false → refuse 8 ≡ checked S
  answered_refused e = sym (require_off 8 _ _ (sym ok ∙ e))

-- ---- what an answer says

module _ (id : List ℕ) (S : Settings) (r : Result LocalOpen Refusal) (says : new_says id r ≡ checked S) where
  taken_both : (o : LocalOpen) (b : Bool) → allowed S ≡ b → r ≡ Ok o → (b ≡ true) × (open_says id o ≡ S)
  taken_both o true e q = let a : accept (open_says id o) ≡ accept S = sym (ap (new_says id) q) ∙ says ∙ require_on 8 _ _ e in (refl, cc)
  taken_both o false e q =
      let a : accept (open_says id o) ≡ refuse 8 = sym (ap (new_says id) q) ∙ says ∙ require_off 8 _ _ e in
      let z : ◌≡◌ {A = ℕ} 0 1 = cc in
      absurd (omega arith)

  refused_both : (k : Refusal) (b : Bool) → allowed S ≡ b → r ≡ Err k → (b ≡ false) × (k ≡ OutOfBounds)
  refused_both k true e q =
      let a : refuse (number_of k) ≡ accept S = sym (ap (new_says id) q) ∙ says ∙ require_on 8 _ _ e in
      let z : ◌≡◌ {A = ℕ} 0 1 = cc in
      absurd (omega arith)
  refused_both k false e q = let a : ◌≡◌ {A = Verdict Settings} (refuse (number_of k)) (refuse 8) = sym (ap (new_says id) q) ∙ says ∙ require_off 8 _ _ e in (refl, same_refusal k OutOfBounds (cc))

  -- settings that are taken are within their limits, and kept as they are
  pub taken_allowed : (o : LocalOpen) → r ≡ Ok o → allowed S ≡ true
  taken_allowed o q = (taken_both o (allowed S) refl q).0

  pub taken_says_is : (o : LocalOpen) → r ≡ Ok o → open_says id o ≡ S
  taken_says_is o q = (taken_both o (allowed S) refl q).1

  pub taken_within : (o : LocalOpen) → r ≡ Ok o → Within id o.max_frame_size o.channel_max
  taken_within o q = allowed_within (open_says id o) (ap allowed (taken_says_is o q) ∙ taken_allowed o q)

  -- those that are refused are beyond them
  pub refused_beyond : (k : Refusal) → r ≡ Err k → allowed S ≡ false
  refused_beyond k q = (refused_both k (allowed S) refl q).0

  pub refused_eight : (k : Refusal) → r ≡ Err k → k ≡ OutOfBounds
  refused_eight k q = (refused_both k (allowed S) refl q).1
