-- Laws of the calls that a caller can pass.
-- Assumes nothing.
use mathlib.Core.Path.{◌≡◌, refl}
use mathlib.Core.Bool.{Bool, true, false, ◌&&◌}
use mathlib.Core.List.{List, [], ◌∷◌, ◌++◌}
use Prim.Native.Nat.{ℕ, zero, suc, ◌+◌, ◌/◌, ◌^◌, ◌<◌}
use native.Mathlib.Nat.{mod-lt}
use native.Mathlib.Omega.{arith}
use lib.Dec.{ltb}
use lib.ListN.{length, replicate, length-replicate}
use borrow.Author.Tests.{lt-ltb}
use Rattle.octets.specs.Octets.{bytes_of}
use Rattle.frame_encoder.specs.Frames.{frame_header, frame_bytes}
use Rattle.frame_encoder.proofs.Laws.{length_frame}
use Rattle.connection_model.specs.Callers.{are_bytes, is_slice}

pub both : (a b : Bool) → a ≡ true → b ≡ true → a && b ≡ true
both a b p q = rw (p, q)

in_front : (l a b : Bool) → (a ≡ true → b ≡ true) → l && a ≡ true → l && b ≡ true
in_front true a b f p = f p
in_front false a b f p = p

pub bytes_append : (s t : List ℕ) → are_bytes s ≡ true → are_bytes t ≡ true → are_bytes (s ++ t) ≡ true
bytes_append [] t p q = q
bytes_append (b ∷ s) t p q = in_front (ltb b 256) (are_bytes s) (are_bytes (s ++ t)) (λ r. bytes_append s t r q) p

pub bytes_replicate : (n b : ℕ) → b < 256 → are_bytes (replicate n b) ≡ true
bytes_replicate zero b h = refl
bytes_replicate (suc n) b h = both _ _ (lt-ltb b 256 h) (bytes_replicate n b h)

pub bytes_number : (w x : ℕ) → are_bytes (bytes_of w x) ≡ true
unfolding bytes_of
bytes_number zero x = refl
bytes_number (suc w) x = both _ _ (lt-ltb _ 256 (mod-lt (x / 256 ^ w) (omega arith))) (bytes_number w x)

pub bytes_frame : (ch : ℕ) (body : List ℕ) → are_bytes body ≡ true → are_bytes (frame_bytes ch body) ≡ true
unfolding frame_bytes frame_header
bytes_frame ch body h =
    bytes_append (bytes_of 4 (8 + length body) ++ (2 ∷ 0 ∷ bytes_of 2 ch)) body
    (bytes_append (bytes_of 4 (8 + length body)) (2 ∷ 0 ∷ bytes_of 2 ch) (bytes_number 4 (8 + length body)) (bytes_number 2 ch)) h

pub slice_is : (s : List ℕ) → are_bytes s ≡ true → length s < 9223372036854775808 → is_slice s ≡ true
slice_is s p h = both _ _ p (lt-ltb _ _ h)

pub slice_frame : (ch : ℕ) (body : List ℕ) → are_bytes body ≡ true → length body < 4294967296 → is_slice (frame_bytes ch body) ≡ true
slice_frame ch body p h = slice_is (frame_bytes ch body) (bytes_frame ch body p) (omega (arith, length_frame ch body))

pub slice_replicate : (n : ℕ) → n < 4294967296 → is_slice (replicate n 0) ≡ true
slice_replicate n h = slice_is (replicate n 0) (bytes_replicate n 0 (omega arith)) (omega (arith, length-replicate {A = ℕ} n 0))
