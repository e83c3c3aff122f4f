-- What each step of the functions shows, with the facts as they come.
-- Assumes nothing.
use mathlib.Core.Path.{◌≡◌, refl, sym, ap, ◌∙◌}
use mathlib.Core.List.{List}
use Prim.Native.Nat.{ℕ, suc, ◌+◌, ◌*◌, ◌-◌, ◌/◌, ◌%◌, ◌^◌, ◌<◌, ◌≤◌}
use native.Mathlib.Nat.{mul-add, div-one, div-div-eq-div-mul, pow-suc}
use native.Mathlib.Numerals.{add-one}
use native.Mathlib.Omega.{arith}
use lib.ListN.{length, take, get_or, set, length-set}
use lib.Seq.{take_all, take-length, length-take-le, paste, paste-suc}
use lib.Pow.{pow_mono, pow-add}
use mir.Syntax.{w64}
use mir.Val.{Fits}
use Rattle.octets.specs.Octets.{big_endian, bytes_of, put}
use Rattle.octets.proofs.Laws.{be_snoc, put_fits, put_over, put_nothing, put_before, length_bytes_of}

-- ---- number

module _ (x i : ℕ) (few : i < 8) (low : x < 2 ^ (8 * i)) where
  low_56 : x < 2 ^ 56
  low_56 = let p : 2 ^ (8 * i) ≤ 2 ^ 56 = pow_mono {i = 8 * i} {j = 56} (omega arith) in omega arith

  pub times_fits : Fits w64 (x * 256)
  times_fits = omega (arith, low_56)

  pub more_fits : (b : ℕ) → b < 256 → Fits w64 (x * 256 + b)
  more_fits b byte = omega (arith, low_56)

pub more_low : (x i b : ℕ) → x < 2 ^ (8 * i) → b < 256 → x * 256 + b < 2 ^ (8 * (i + 1))
more_low x i b low byte =
    let q : 2 ^ (8 * (i + 1)) ≡ 2 ^ (8 * i) * 256 = ap (λ (k : ℕ). 2 ^ k) (mul-add 8 i 1) ∙ pow-add 2 (8 * i) 8 in
    omega arith

pub more_is : (s : List ℕ) (x i b : ℕ) → i < length s → x ≡ big_endian (take i s) → b ≡ get_or s i 0 → x * 256 + b ≡ big_endian (take (i + 1) s)
more_is s x i b h e q = rw (add-one, be_snoc s i h, ← e, q)

-- eight bytes, or all
module _ (s : List ℕ) (x i : ℕ) (e : x ≡ big_endian (take i s)) (low : x < 2 ^ (8 * i)) (in-s : i ≤ length s) where
  pub eight_done : i ≡ 8 → (x ≡ big_endian (take 8 s)) × (x < 2 ^ (8 * length (take 8 s)))
  eight_done q =
      let l : length (take 8 s) ≡ 8 = length-take-le 8 s (omega arith) in
      rw l (rw q at e, rw q at low)

  pub all_done : i ≤ 8 → length s ≤ i → (x ≡ big_endian (take 8 s)) × (x < 2 ^ (8 * length (take 8 s)))
  all_done few h =
      let q : i ≡ length s = omega arith in
      let a : take 8 s ≡ s = take_all 8 s (omega arith) in
      rw a (rw (q, take-length) at e, rw q at low)

-- ---- put_number: from the last byte on

pub number_over : (d : List ℕ) (at w x : ℕ) → length d - at < w → at ≤ length d → d ≡ put d at (bytes_of w x)
number_over d at w x h k = put_over d at (bytes_of w x) w (sym (length_bytes_of w x)) h k

-- the bytes from `left` on are laid, and y holds those before them
abbrev pub Laid : List ℕ → ℕ → ℕ → ℕ → List ℕ → ℕ → ℕ → Type 0
Laid d at w x out left y = (left ≤ w) × (length out ≡ length d) × (out ≡ put d (at + left) (bytes_of (w - left) x)) × (y ≡ x / 256 ^ (w - left))

pub laid_none : (d : List ℕ) (at w x left : ℕ) → left ≡ w → Laid d at w x d left x
unfolding bytes_of
laid_none d at w x left e =
    let z : w - w ≡ 0 = omega arith in
    rw (e, z) (omega arith, refl, sym (put_nothing d (at + w)), sym (div-one x))

laid_next : (d : List ℕ) (at w x : ℕ) (out : List ℕ) (left y : ℕ) → at + w ≤ length d → Laid d at w x out (suc left) y → Laid d at w x (set out (at + left) (y % 256)) left (y / 256)
unfolding bytes_of
laid_next d at w x out left y fits inv =
    let q : w - left ≡ suc (w - suc left) = omega arith in
    let a : at + suc left ≡ suc (at + left) = omega arith in
    let v : x / 256 ^ (w - suc left) / 256 ≡ x / 256 ^ suc (w - suc left) = div-div-eq-div-mul x (256 ^ (w - suc left)) 256 ∙ ap (λ (n : ℕ). x / n) (sym (pow-suc 256 (w - suc left))) in
    let o : set out (at + left) (y % 256) ≡ put d (at + left) (bytes_of (suc (w - suc left)) x) =
    rw (inv.2, inv.3, a) (put_before d (at + left) _ (bytes_of (w - suc left) x) (omega (arith, length_bytes_of (w - suc left) x))) in
    rw q (omega arith, length-set out (at + left) (y % 256) ∙ inv.1, o, rw inv.3 v)

-- the same, where the place is known as a number
pub laid_more : (d : List ℕ) (at w x : ℕ) (out : List ℕ) (i y : ℕ) → w ≤ length d - at → at ≤ length d → at < i → Laid d at w x out (i - at) y → Laid d at w x (set out (i - 1) (y % 256)) (i - 1 - at) (y / 256)
laid_more d at w x out i y room past h inv = go (i - 1) (i - 1 - at) (omega arith) (omega arith)
  where
    go : (place left : ℕ) → place ≡ at + left → i - at ≡ suc left → Laid d at w x (set out place (y % 256)) left (y / 256)
    go place left p e = rw p (laid_next d at w x out left y (omega arith) (rw e at inv))

-- ---- copy

pub copy_over : (d : List ℕ) (at : ℕ) (src : List ℕ) → length d - at < length src → at ≤ length d → d ≡ put d at src
copy_over d at src h k = put_over d at src (length src) refl h k

pub copy_more : (out d src : List ℕ) (at i : ℕ) → out ≡ paste d at src i → at ≤ length d → length src ≤ length d - at → i < length src → set out (at + i) (get_or src i 0) ≡ paste d at src (i + 1)
copy_more out d src at i e h k l =
    let m : at + i < length d = omega arith in
    rw (e, add-one i) (paste-suc d at src i 0 m l)

pub copy_done : (out d src : List ℕ) (at i : ℕ) → out ≡ paste d at src i → at ≤ length d → length src ≤ length d - at → i ≤ length src → length src ≤ i → out ≡ put d at src
copy_done out d src at i e h k m l =
    let q : i ≡ length src = omega arith in
    let r : at + length src ≤ length d = omega arith in
    e ∙ rw (q, take-length, put_fits d at src r)
