-- What a refusal leads to, of something that was to go out, and which are of the input; and the size of a frame.
-- Assumes nothing.
use mathlib.Core.Path.{◌≡◌, refl, sym, ◌∙◌, ap, subst}
use mathlib.Core.Bool.{true, not}
use mathlib.Core.List.{List, [], ◌∷◌}
use Prim.Native.Nat.{ℕ, ◌<◌, ◌≤◌}
use native.Mathlib.Omega.{arith}
use lib.ListN.{length, take, length-take}
use lib.Seq.{take_all, length-take-le}
use types.Run.{OneOf, miss}
use denote.Enum.Declared.{tag_of}
use mir.Val.{has_key}
use lib.Dec.{T, leb}
use borrow.Author.Tests.{ne_eqb}
use Rattle.octets.specs.Octets.{big_endian}
use Rattle.octets.specs.Refusal.{number_of}
use Rattle.octets.specs.declared.Refusal.{Refusal}
use Rattle.octets.specs.declared.Refusal.TheVariants.{BytesMissing, HeaderMalformed, TooShort, OverReadingLimit, WrongType, BodyMalformed, ChannelTooHigh, OutOfBounds, NoRoom, IllegalState, NotOpened, Stopped, NoChannelLeft, NotFound, NotImplemented, NotTaken, OverWritingLimit}
use Rattle.octets.specs.contracts.Refusal.{the_type}
use Rattle.octets.proofs.Refusals.{same_refusal}
use Rattle.frame_decoder.specs.Frame.{size_of}
use Rattle.engine_model.specs.Engine.{send_fault}
use Rattle.engine.specs.declared.error.InnerError.TheVariants.{TransportError}
use Rattle.engine.specs.Answers.{error_says}

-- in the arm for all the others, a refusal is none of those that are named
pub other : (x e : Refusal) (places : List ℕ) → T (not (has_key places (tag_of the_type x))) → OneOf places (tag_of the_type e) → number_of e ≡ number_of x → ⊥
other x e places n o q = miss places (tag_of the_type x) n (subst (λ y. OneOf places (tag_of the_type y)) (same_refusal e x q) o)

-- the places of those that no arm of `outgoing_error` names
abbrev unnamed : List ℕ
unnamed = 0 ∷ 1 ∷ 2 ∷ 3 ∷ 4 ∷ 5 ∷ 6 ∷ 7 ∷ 8 ∷ 10 ∷ 11 ∷ 12 ∷ 14 ∷ 15 ∷ 16 ∷ []

pub leads_transport : (e : Refusal) → OneOf unnamed (tag_of the_type e) → error_says TransportError ≡ send_fault (number_of e)
leads_transport e o = rw (ne_eqb (number_of e) 20 (other IllegalState e unnamed tt o), ne_eqb (number_of e) 24 (other NotFound e unnamed tt o))

-- and of those that none of `is_of_input` names
abbrev inputs : List ℕ
inputs = 0 ∷ 1 ∷ 2 ∷ 3 ∷ 4 ∷ 5 ∷ 6 ∷ 7 ∷ 8 ∷ []

pub of_input : (e : Refusal) → OneOf inputs (tag_of the_type e) → true ≡ not (leb 20 (number_of e))
of_input BytesMissing o = refl
of_input HeaderMalformed o = refl
of_input TooShort o = refl
of_input OverReadingLimit o = refl
of_input WrongType o = refl
of_input BodyMalformed o = refl
of_input ChannelTooHigh o = refl
of_input OutOfBounds o = refl
of_input NoRoom o = refl
of_input IllegalState o = absurd (miss inputs 9 tt o)
of_input NotOpened o = absurd (miss inputs 10 tt o)
of_input Stopped o = absurd (miss inputs 11 tt o)
of_input NoChannelLeft o = absurd (miss inputs 12 tt o)
of_input NotFound o = absurd (miss inputs 13 tt o)
of_input NotImplemented o = absurd (miss inputs 14 tt o)
of_input NotTaken o = absurd (miss inputs 15 tt o)
of_input OverWritingLimit o = absurd (miss inputs 16 tt o)

-- ---- the size of a frame

pub size_short : (s : List ℕ) (x : ℕ) → length s < 4 → x ≡ big_endian (take 8 s) → x ≡ size_of s
size_short s x h e = e ∙ ap big_endian (take_all 8 s (omega arith) ∙ sym (take_all 4 s (omega arith)))

pub size_long : (s : List ℕ) (x : ℕ) → x ≡ big_endian (take 8 (take 4 s)) → x ≡ size_of s
size_long s x e = e ∙ ap big_endian (take_all 8 (take 4 s) (omega (arith, length-take 4 s)))

pub four_are : (s : List ℕ) → 4 ≤ length s → 4 ≡ length (take 4 s)
four_are s h = sym (length-take-le 4 s h)
