-- Laws of a number as bytes, and what each step of `put_may` shows, with the facts as they come.
-- Assumes nothing.
use mathlib.Core.Path.{◌≡◌, refl, sym, ◌∙◌, ap}
use mathlib.Core.Bool.{Bool}
use mathlib.Core.List.{List, [], ◌∷◌}
use Rattle.std.specs.Prelude.{Option, None, Some}
use Rattle.std.specs.Option.{is_some, unwrap_or}
use mir.Val.{bool_byte}
use Prim.Native.Nat.{ℕ, zero, suc, ◌+◌, ◌*◌, ◌-◌, ◌/◌, ◌%◌, ◌^◌, ◌≤◌, ◌<◌}
use native.Mathlib.Nat.{div-one, div-div-eq-div-mul, div-add-mod', div-eq_of_lt, pow-suc}
use native.Mathlib.Omega.{arith}
use lib.ListN.{length}
use Rattle.octets.specs.Octets.{big_endian_from, big_endian, bytes_of, put}
use Rattle.octets.proofs.Laws.{length_bytes_of, put_over, put_more}
use Rattle.layout.specs.Layout.{may}

-- ---- numbers as bytes

bytes_from : (w x : ℕ) → big_endian_from (x / 256 ^ w) (bytes_of w x) ≡ x
unfolding big_endian_from bytes_of
bytes_from zero x = div-one x
bytes_from (suc w) x =
    let p : x / 256 ^ suc w ≡ x / 256 ^ w / 256 = ap (λ (n : ℕ). x / n) (pow-suc 256 w) ∙ sym (div-div-eq-div-mul x (256 ^ w) 256) in
    let q : x / 256 ^ suc w * 256 + x / 256 ^ w % 256 ≡ x / 256 ^ w = rw p (div-add-mod' (x / 256 ^ w) 256) in
    ap (λ (n : ℕ). big_endian_from n (bytes_of w x)) q ∙ bytes_from w x

-- a number that w bytes can hold is read back from them
pub bytes_number : (w x : ℕ) → x < 256 ^ w → big_endian (bytes_of w x) ≡ x
unfolding big_endian
bytes_number w x h = ap (λ (n : ℕ). big_endian_from n (bytes_of w x)) (sym (div-eq_of_lt h)) ∙ bytes_from w x

pub length_may : (w : ℕ) (o : Option ℕ) → length (may w o) ≡ suc w
length_may w None = ap suc (length_bytes_of w 0)
length_may w (Some n) = ap suc (length_bytes_of w n)

-- ---- put_may

module _ (d : List ℕ) (at w : ℕ) (past : at ≤ length d) where
  pub may_over : (o : Option ℕ) → length d - at ≤ w → d ≡ put d at (may w o)
  may_over o h = put_over d at (may w o) (suc w) (sym (length_may w o)) (omega arith) past

  pub may_laid :
      (x : Option ℕ) (b : Bool) (k n : ℕ) (o o' : List ℕ) → w < length d - at → b ≡ is_some x → k ≡ bool_byte b → n ≡ unwrap_or x 0
      → o ≡ put d at (bytes_of 1 k) → o' ≡ put o (at + 1) (bytes_of w n) → o' ≡ put d at (may w x)
  unfolding bytes_of
  may_laid None b k n o o' room e f g p q =
      let z : k ≡ 0 = f ∙ rw e in
      put_more (0 ∷ []) (bytes_of w 0) d o o' at (at + 1) refl (omega (arith, length_bytes_of w 0)) (rw z at p) (rw g at q)
  may_laid (Some x) b k n o o' room e f g p q =
      let z : k ≡ 1 = f ∙ rw e in
      put_more (1 ∷ []) (bytes_of w x) d o o' at (at + 1) refl (omega (arith, length_bytes_of w x)) (rw z at p) (rw g at q)
