-- What new counts and those after the peer's Open stand for, with the facts as they come.
-- Assumes nothing.
use mathlib.Core.Path.{◌≡◌, refl, sym, ap, fun_ext, subst}
use mathlib.Core.Bool.{Bool, true, false, cond}
use mathlib.Core.List.{List}
use Rattle.std.specs.Prelude.{None, Some}
use Prim.Native.Nat.{ℕ, suc, ◌-◌}
use native.Mathlib.Omega.{arith}
use borrow.Author.Tests.{le-ltb}
use Rattle.channels.specs.Places.{Covers}
use Rattle.channels.specs.Numbers.{nowhere, up_from}
use Rattle.channels.specs.declared.OutgoingChannels.{OutgoingChannels}
use Rattle.channels.specs.Channels.{counts, counts_ok, chain, agreed_says, hand_out_says, taken_says, Sound, unopened, opened_to}
use Rattle.channels.proofs.Numbers.{once_fresh}
use Rattle.channels.proofs.Limits.{apart, opened_within}

none_taken : (b : Bool) (highest head : ℕ) (s : List ℕ) → taken_says (counts b highest 0 head 0) s ≡ nowhere
unfolding taken_says
none_taken b highest head s = fun_ext (λ k. rw (le-ltb k 0 (omega arith)))

-- ---- new

pub record Fresh (r : OutgoingChannels) : Type 0 where
  pub within : counts_ok r ≡ true
  pub lowest : r.highest ≡ 0
  pub agreed : agreed_says r ≡ None
  pub hand_out_is : (s : List ℕ) → hand_out_says r s ≡ None
  pub taken : (s : List ℕ) → taken_says r s ≡ nowhere
  pub sound : (s : List ℕ) → Covers 1 s → Sound r s

pub fresh : Fresh unopened
unfolding counts_ok agreed_says hand_out_says
fresh = record {
  within = refl;
  lowest = refl;
  agreed = refl;
  hand_out_is = λ s. refl;
  taken = none_taken false 0 0;
  sound = λ s c. record { within = refl; covered = c; shared = none_taken false 0 0 s };
}

-- ---- open

module _ (self : OutgoingChannels) (highest : ℕ) where
  pub opens_again : self.opened ≡ true → self ≡ opened_to highest self
  opens_again o = sym (ap (λ b. cond b self (counts true highest 0 0 0)) o)

  pub opens_first : self.opened ≡ false → counts true highest 0 0 0 ≡ opened_to highest self
  opens_first o = sym (ap (λ b. cond b self (counts true highest 0 0 0)) o)

-- once the peer's Open has come, a second one changes nothing
pub record Opens (self : OutgoingChannels) (highest : ℕ) (r : OutgoingChannels) : Type 0 where
  pub again : self.opened ≡ true → r ≡ self
  pub highest_is : self.opened ≡ false → r.highest ≡ highest
  pub agreed : self.opened ≡ false → agreed_says r ≡ Some highest
  pub hand_out_is : self.opened ≡ false → (s : List ℕ) → hand_out_says r s ≡ Some (up_from 0 (suc highest))
  pub taken : self.opened ≡ false → (s : List ℕ) → taken_says r s ≡ nowhere
  pub within : counts_ok self ≡ true → counts_ok r ≡ true
  pub sound : self.opened ≡ false → (s : List ℕ) → Covers (suc highest) s → Sound r s

module _ (self : OutgoingChannels) (highest : ℕ) where
  again_so : self.opened ≡ true → Opens self highest self
  again_so o = record {
    again = λ q. refl;
    highest_is = λ q. apart (cc);
    agreed = λ q. apart (cc);
    hand_out_is = λ q s. apart (cc);
    taken = λ q s. apart (cc);
    within = λ i. i;
    sound = λ q s c. apart (cc);
  }

  first_so : self.opened ≡ false → Opens self highest (counts true highest 0 0 0)
  unfolding agreed_says hand_out_says chain
  first_so o = record {
    again = λ q. apart (cc);
    highest_is = λ q. refl;
    agreed = λ q. refl;
    hand_out_is = λ q s. ap (λ n. Some (up_from 0 n)) all;
    taken = λ q s. none_taken true highest 0 s;
    within = λ i. fine;
    sound = λ q s c. record { within = fine; covered = c; shared = rw (none_taken true highest 0 s, all) (once_fresh highest) };
  }
    where
      all : suc highest - 0 ≡ suc highest
      all = omega arith

      fine : counts_ok (counts true highest 0 0 0) ≡ true
      fine = opened_within (counts true highest 0 0 0) refl (record { low_freed = omega arith; low_used = omega arith; none_freed = λ q. refl; used_head = λ q. absurd (q refl) })

  pub opens : Opens self highest (opened_to highest self)
  opens = by self.opened refl
    where
      by : (b : Bool) → self.opened ≡ b → Opens self highest (opened_to highest self)
      by true o = subst (Opens self highest) (opens_again self highest o) (again_so o)
      by false o = subst (Opens self highest) (opens_first self highest o) (first_so o)
