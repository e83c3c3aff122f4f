-- Which format codes there are, and which of them are plain: the code, or the byte after it, tells where a value ends, and every body of that length will do.
-- Assumes nothing: these are definitions.
use Rattle.std.specs.Prelude.{ℕ, ◌+◌, ◌*◌, ◌/◌, ◌%◌, ◌^◌, ◌<◌, ◌≡◌, Bool, true, false, eqb}
use Rattle.octets.specs.Verdict.{Verdict, refuse, accept, accepts}
use Rattle.values.specs.Value.{Kind, fixed, boolean, variable, compound, kind_of}

unfoldable pub is_known : ℕ → Bool
is_known c = accepts (kind_of c)

-- a fixed width, or a size of one byte
abbrev pub plain_kind : Verdict Kind → Bool
plain_kind (accept (fixed w)) = true
plain_kind (accept boolean) = false
plain_kind (accept (variable w)) = eqb w 1
plain_kind (accept (compound shape w)) = false
plain_kind (refuse k) = false

unfoldable pub is_plain : ℕ → Bool
is_plain c = plain_kind (kind_of c)

-- the bits of a word answer a question about the 64 codes from 64 k on
pub record BitsOf (asked : ℕ → Bool) (k word : ℕ) : Type 0 where
  pub bit : (i : ℕ) → i < 64 → eqb (word / 2 ^ i % 2) 1 ≡ asked (64 * k + i)
