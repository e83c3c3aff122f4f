-- Laws of the definitions: ASCII is UTF-8, and the empty string is both.
-- Assumes nothing.
use mathlib.Core.Path.{◌≡◌, refl, ◌∙◌}
use mathlib.Core.Bool.{Bool, true, false, ◌&&◌, false≢true}
use mathlib.Core.List.{List, [], ◌∷◌}
use Prim.Native.Nat.{ℕ, ◌<◌}
use native.Mathlib.Omega.{arith}
use lib.Dec.{ltb}
use borrow.Author.Tests.{ltb-true}
use Rattle.text.specs.Ascii.{ascii}
use Rattle.text.specs.Utf8.{utf8_within, utf8}
use Rattle.text.proofs.Rows.{char_one, utf8_step}

pub utf8_empty : utf8 [] ≡ true
unfolding utf8 utf8_within
utf8_empty = refl

pub ascii_empty : ascii [] ≡ true
unfolding ascii
ascii_empty = refl

-- an octet below 128 is a character
pub one_octet : (b : ℕ) (s : List ℕ) → b < 128 → utf8 (b ∷ s) ≡ utf8 s
one_octet b s h = utf8_step b s ∙ rw (← char_one (b ∷ s) (omega arith) h)

pub ascii_is_utf8 : (s : List ℕ) → ascii s ≡ true → utf8 s ≡ true
unfolding ascii
ascii_is_utf8 [] e = utf8_empty
ascii_is_utf8 (b ∷ s) e = go (ltb b 128) refl e (λ h. ascii_is_utf8 s h)
  where
    go : (x : Bool) → ltb b 128 ≡ x → (x && ascii s) ≡ true → (ascii s ≡ true → utf8 s ≡ true) → utf8 (b ∷ s) ≡ true
    go true p e ih = one_octet b s (ltb-true b 128 p) ∙ ih e
    go false p e ih = absurd (false≢true e)
