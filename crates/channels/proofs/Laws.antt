-- What a caller has of the numbers: a number that allocating gives is the first of the list, and a taken number is one of those agreed.
-- Assumes nothing.
use mathlib.Core.Path.{◌≡◌, ap}
use mathlib.Core.List.{List, [], ◌∷◌}
use Rattle.std.specs.Prelude.{Option, None, Some}
use Prim.Native.Nat.{ℕ}
use Rattle.octets.specs.Verdict.{accept}
use Rattle.channels.specs.Channels.{next_of}
use Rattle.channels.proofs.Limits.{apart}
pub use Rattle.channels.proofs.Sounds.{is_open, taken_low, taken_used, all_numbers}

-- a list that gives a number starts with it
pub record Starts (l : Option (List ℕ)) (ch : ℕ) : Type 0 where
  pub rest : List ℕ
  pub list : l ≡ Some (ch ∷ rest)

pub next_starts : (l : Option (List ℕ)) (ch : ℕ) → accept ch ≡ next_of l → Starts l ch
next_starts None ch e = apart (cc)
next_starts (Some []) ch e = apart (cc)
next_starts (Some (k ∷ rest)) ch e = let q : k ≡ ch = cc in record { rest = rest; list = ap (λ x. Some (x ∷ rest)) q }
