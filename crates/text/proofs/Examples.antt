-- Examples of what is UTF-8 and what is not, by computation.
-- Assumes nothing.
use mathlib.Core.Path.{◌≡◌, refl}
use mathlib.Core.Bool.{true, false}
use mathlib.Core.List.{[], ◌∷◌}
use Rattle.text.specs.Utf8.{characters, in_range, starts, any, utf8_within, utf8}

-- an overlong form
overlong : utf8 (0xC0 ∷ 0x80 ∷ []) ≡ false
unfolding characters in_range starts any utf8_within utf8
overlong = refl

-- a surrogate
surrogate : utf8 (0xED ∷ 0xA0 ∷ 0x80 ∷ []) ≡ false
unfolding characters in_range starts any utf8_within utf8
surrogate = refl

-- a number above 10FFFF
too_large : utf8 (0xF4 ∷ 0x90 ∷ 0x80 ∷ 0x80 ∷ []) ≡ false
unfolding characters in_range starts any utf8_within utf8
too_large = refl

-- a character that lacks its last octet
cut_short_lem : utf8 (0x41 ∷ 0xE2 ∷ 0x82 ∷ []) ≡ false
unfolding characters in_range starts any utf8_within utf8
cut_short_lem = refl

-- the euro sign
euro : utf8 (0xE2 ∷ 0x82 ∷ 0xAC ∷ []) ≡ true
unfolding characters in_range starts any utf8_within utf8
euro = refl

-- RFC 3629, section 7: "A<NOT IDENTICAL TO><ALPHA>."
not_identical_to : utf8 (0x41 ∷ 0xE2 ∷ 0x89 ∷ 0xA2 ∷ 0xCE ∷ 0x91 ∷ 0x2E ∷ []) ≡ true
unfolding characters in_range starts any utf8_within utf8
not_identical_to = refl

-- RFC 3629, section 7: U+233B4 after a byte order mark
stump_of_tree : utf8 (0xEF ∷ 0xBB ∷ 0xBF ∷ 0xF0 ∷ 0xA3 ∷ 0x8E ∷ 0xB4 ∷ []) ≡ true
unfolding characters in_range starts any utf8_within utf8
stump_of_tree = refl
