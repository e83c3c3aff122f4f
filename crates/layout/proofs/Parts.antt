-- Parts that are laid one after the other.
-- Assumes nothing.
use mathlib.Core.Path.{◌≡◌}
use mathlib.Core.List.{List, ◌++◌}
use Prim.Native.Nat.{ℕ, ◌+◌, ◌≤◌}
use native.Mathlib.Omega.{arith}
use lib.ListN.{length, length-append}
use Rattle.octets.specs.Octets.{put}
use Rattle.octets.proofs.Laws.{put_more}

-- bytes of which there are n are laid at a place of d, and o came of it
pub record Laid (d : List ℕ) (at n : ℕ) (bytes o : List ℕ) : Type 0 where
  pub long : length bytes ≡ n
  pub laid : o ≡ put d at bytes

pub first : (d : List ℕ) (at n : ℕ) (bytes o : List ℕ) → length bytes ≡ n → o ≡ put d at bytes → Laid d at n bytes o
first d at n bytes o l e = record { long = l; laid = e }

pub more :
    (d : List ℕ) (at n w k : ℕ) (a b o o' : List ℕ) → Laid d at n a o → length b ≡ w → k ≡ at + n → at + n + w ≤ length d → o' ≡ put o k b
    → Laid d at (n + w) (a ++ b) o'
more d at n w k a b o o' l m q h e =
    let n' : length a ≡ n = l.long in
    record {
      long = omega (arith, length-append a b);
      laid = put_more a b d o o' at k (omega arith) (omega arith) l.laid e;
    }
