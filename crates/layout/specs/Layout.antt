-- A number that may be absent, as bytes: what is absent is zero.
-- Assumes nothing: these are definitions.
use Rattle.std.specs.Prelude.{Bool, cond, List, ◌∷◌, ℕ, Option, None, Some}
use Rattle.octets.specs.Octets.{bytes_of}

-- a number of w bytes that may be absent: whether it is there, and which it is
abbrev pub may : ℕ → Option ℕ → List ℕ
may w None = 0 ∷ bytes_of w 0
may w (Some n) = 1 ∷ bytes_of w n

-- a number that is there or not
abbrev pub held : Bool → ℕ → Option ℕ
held b n = cond b (Some n) None
