-- No two refusals have one number, and no two results are judged alike.
-- Assumes nothing.
use mathlib.Core.Path.{◌≡◌, refl, sym, ap, ◌∙◌}
use Prim.Native.Nat.{ℕ}
use native.Mathlib.Omega.{arith}
use Rattle.std.specs.Prelude.{cond, eqb, Result, Ok, Err}
use Rattle.octets.specs.Verdict.{Verdict, refuse, accept}
use Rattle.octets.specs.Refusal.{number_of, judged}
use Rattle.octets.specs.declared.Refusal.{Refusal}
use Rattle.octets.specs.declared.Refusal.TheVariants.{BytesMissing, HeaderMalformed, TooShort, OverReadingLimit, WrongType, BodyMalformed, ChannelTooHigh, OutOfBounds, NoRoom, IllegalState, NotOpened, Stopped, NoChannelLeft, NotFound, NotImplemented, NotTaken, OverWritingLimit}

-- the refusal of a number; of another number any
numbered : ℕ → Refusal
numbered n =
    cond (eqb n 1) BytesMissing (
    cond (eqb n 2) HeaderMalformed (
    cond (eqb n 3) TooShort (
    cond (eqb n 4) OverReadingLimit (
    cond (eqb n 5) WrongType (
    cond (eqb n 6) BodyMalformed (
    cond (eqb n 7) ChannelTooHigh (
    cond (eqb n 8) OutOfBounds (
    cond (eqb n 9) NoRoom (
    cond (eqb n 20) IllegalState (
    cond (eqb n 21) NotOpened (
    cond (eqb n 22) Stopped (
    cond (eqb n 23) NoChannelLeft (
    cond (eqb n 24) NotFound (
    cond (eqb n 25) NotImplemented (
    cond (eqb n 26) NotTaken (
    OverWritingLimit))))))))))))))))

numbered_number : (r : Refusal) → numbered (number_of r) ≡ r
unfolding numbered
numbered_number BytesMissing = refl
numbered_number HeaderMalformed = refl
numbered_number TooShort = refl
numbered_number OverReadingLimit = refl
numbered_number WrongType = refl
numbered_number BodyMalformed = refl
numbered_number ChannelTooHigh = refl
numbered_number OutOfBounds = refl
numbered_number NoRoom = refl
numbered_number IllegalState = refl
numbered_number NotOpened = refl
numbered_number Stopped = refl
numbered_number NoChannelLeft = refl
numbered_number NotFound = refl
numbered_number NotImplemented = refl
numbered_number NotTaken = refl
numbered_number OverWritingLimit = refl

pub same_refusal : (a b : Refusal) → number_of a ≡ number_of b → a ≡ b
same_refusal a b e = sym (numbered_number a) ∙ ap numbered e ∙ numbered_number b

pub same_judged : {A : Type 0} (a b : Result A Refusal) → judged a ≡ judged b → a ≡ b
same_judged (Ok a) (Ok b) e = cc
same_judged (Err a) (Err b) e = ap Err (same_refusal a b (cc))
same_judged (Ok a) (Err b) e = absurd (cc)
same_judged (Err a) (Ok b) e = absurd (cc)
