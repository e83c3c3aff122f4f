-- What a call that may write does to its lent output. A rule for such a call is a verdict on bytes: it refuses, or accepts with the bytes to be written.
-- Assumes nothing: these are definitions.
use Rattle.std.specs.Prelude.{ℕ, ◌+◌, ◌*◌, ◌≡◌, Bool, List, ◌++◌, length, drop, leb, Result}
use Rattle.octets.specs.Verdict.{Verdict, refuse, accept}
use Rattle.octets.specs.Refusal.{judged}
use Rattle.octets.specs.declared.Refusal.{Refusal}

-- refusal 9: the output must have 16,384 bytes, and two for each byte of the slice of session frames that wait
unfoldable pub room_for : ℕ → List ℕ → Bool
room_for waiting out = leb (16384 + 2 * waiting) (length out)

-- the output afterwards: the bytes and then what stood there; on a refusal what stood there
unfoldable pub laid : Verdict (List ℕ) → List ℕ → List ℕ
laid (refuse k) out = out
laid (accept bytes) out = bytes ++ drop (length bytes) out

-- the answer: how many bytes were written
unfoldable pub counted : Verdict (List ℕ) → Verdict ℕ
counted (refuse k) = refuse k
counted (accept bytes) = accept (length bytes)

-- a call answers r and leaves `after` where `before` stood, as the rule v has it
pub record Wrote (v : Verdict (List ℕ)) (r : Result ℕ Refusal) (before after : List ℕ) : Type 0 where
  pub answer : judged r ≡ counted v
  pub output : after ≡ laid v before
