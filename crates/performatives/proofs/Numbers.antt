-- Numbers in fields: what each step of `number_in`, `open` and `remote_channel` shows.
-- Assumes nothing.
use mathlib.Core.Path.{◌≡◌, refl, sym, ap, ◌∙◌, subst}
use mathlib.Core.Bool.{Bool, true, false}
use mathlib.Core.List.{List, [], ◌∷◌}
use Prim.Native.Nat.{ℕ, suc, ◌+◌, ◌*◌, ◌-◌, ◌^◌, ◌<◌, ◌≤◌}
use native.Mathlib.Omega.{arith}
use mir.Syntax.{Width, w16}
use mir.Val.{Fits, bits}
use lib.ListN.{length, take, drop, get_or, length-take, length-drop}
use lib.Seq.{drop-cons, take_all}
use lib.Pow.{pow_mono}
use borrow.Author.Tests.{eq-eqb, ne_eqb}
use Rattle.octets.specs.Octets.{big_endian, is_in, starts_with}
use Rattle.values.specs.Null.{is_null, or_null}
use Rattle.values.proofs.Cases.{tail}
use Rattle.performatives.specs.Performative.{number_of, number_or, when_not}
use Rattle.performatives.specs.Inner.{next, skip, item, value_at, NumberRead, open_says}
use Rattle.performatives.proofs.Found.{skip_next, item_within, item_is}

pub there : (f : List ℕ) → is_null (or_null f) ≡ false → or_null f ≡ f
unfolding starts_with
there [] h = let z : ◌≡◌ {A = ℕ} 0 1 = cc in absurd (omega arith)
there (x ∷ f) h = refl

pub some_there : (f : List ℕ) → is_null (or_null f) ≡ false → 1 ≤ length f
unfolding starts_with
some_there [] h = let z : ◌≡◌ {A = ℕ} 0 1 = cc in absurd (omega arith)
some_there (x ∷ f) h = omega arith

number_null : (other : ℕ) (f : List ℕ) → is_null (or_null f) ≡ true → NumberRead other (or_null f) other
unfolding number_or
number_null other f n = record { is = rw n; low = λ w l h. h }

-- a field that is not null, and the number in the bytes g after its format code
module _ (f : List ℕ) (n : is_null (or_null f) ≡ false) (g : List ℕ) (d : g ≡ drop 1 f) (x : ℕ) (e : x ≡ big_endian (take 8 g)) where
  few_after : (w : ℕ) → length (or_null f) ≤ 1 + w → length g ≤ w
  few_after w l = omega (arith, length-drop 1 f, ap length d, rw (there f n) at l)

  number_is : length (or_null f) ≤ 9 → x ≡ number_of (or_null f)
  unfolding number_of
  number_is l = e ∙ rw (take_all 8 g (few_after 8 l), d, there f n)

  module _ (h : x < 2 ^ (8 * length (take 8 g))) where
    number_low : (w : ℕ) → length (or_null f) ≤ 1 + w → x < 2 ^ (8 * w)
    number_low w l =
        let m : length (take 8 g) ≤ w = omega (arith, length-take 8 g, few_after w l) in
        let p : 2 ^ (8 * length (take 8 g)) ≤ 2 ^ (8 * w) = pow_mono {i = 8 * length (take 8 g)} {j = 8 * w} (omega arith) in
        omega arith

    number_there : (other : ℕ) → length (or_null f) ≤ 9 → NumberRead other (or_null f) x
    unfolding number_or
    number_there other l = record { is = rw n (number_is l); low = λ w l _. number_low w l }

-- ---- number_in

module _ (s : List ℕ) (at end other : ℕ) where
  abbrev part : List ℕ
  part = take (end - at) (drop at s)

  pub between_none : end ≤ at → NumberRead other (or_null part) other
  unfolding starts_with
  between_none h = let k : end - at ≡ 0 = omega arith in number_null other part (rw k)

  module _ (inside : end ≤ length s) (short : length (or_null part) ≤ 9) (h : at < end) where
    pub between_there : at < length s
    between_there = omega arith

    coded : is_null (or_null part) ≡ is_in (64 ∷ []) (get_or s at 0)
    unfolding starts_with
    coded =
        let k : end - at ≡ suc (end - suc at) = omega arith in
        rw (k, drop-cons s at 0 between_there)

    pub between_null : get_or s at 0 ≡ 64 → NumberRead other (or_null part) other
    between_null e = number_null other part (coded ∙ rw (eq-eqb (get_or s at 0) 64 e))

    pub between_number : (get_or s at 0 ≡ 64 → ⊥) → (x : ℕ) → x ≡ big_endian (take 8 (take (end - (at + 1)) (drop (at + 1) s))) → x < 2 ^ (8 * length (take 8 (take (end - (at + 1)) (drop (at + 1) s)))) → NumberRead other (or_null part) x
    between_number z x e l =
        let k : end - at ≡ suc (end - (at + 1)) = omega arith in
        let j : suc at ≡ at + 1 = omega arith in
        let d : take (end - (at + 1)) (drop (at + 1) s) ≡ drop 1 part = rw (k, drop-cons s at 0 between_there, j) in
        number_there part (coded ∙ rw (ne_eqb (get_or s at 0) 64 z)) _ d x e l other short

-- ---- open

-- the field that lies between the places that were found
module _ (s : List ℕ) (i a b : ℕ) (p : a ≡ skip i s) (q : b ≡ next s a) where
  between : or_null (take (b - a) (drop a s)) ≡ value_at i s
  unfolding value_at
  between = ap or_null (item_is i s a p b q)

  pub between_given : (w : ℕ) → w ≤ 9 → length (value_at i s) ≤ w → (b ≤ length s) × (length (or_null (take (b - a) (drop a s))) ≤ 9)
  between_given w l h = (item_within i s a p b q, rw between (omega arith))

  found_number : (other r : ℕ) → NumberRead other (or_null (take (b - a) (drop a s))) r → NumberRead other (value_at i s) r
  found_number other r n = rw between at n

  -- a number that was read fits k bytes, as its field and what stands for null do
  pub between_fits : (w : Width) (k other r : ℕ) → bits w ≡ 8 * k → length (value_at i s) ≤ 1 + k → other < 2 ^ (8 * k) → NumberRead other (or_null (take (b - a) (drop a s))) r → Fits w r
  between_fits w k other r e l h n = record { fits = subst (λ (b : ℕ). r < 2 ^ b) (sym e) ((found_number other r n).low k l h) }

pub open_is : (s : List ℕ) (a b c d : ℕ) → a ≡ skip 2 s → b ≡ next s a → c ≡ next s b → d ≡ next s c → (x y z : ℕ) → NumberRead 4294967295 (or_null (take (b - a) (drop a s))) x → NumberRead 65535 (or_null (take (c - b) (drop b s))) y → NumberRead 0 (or_null (take (d - c) (drop c s))) z → ◌≡◌ {A = ℕ × List ℕ} (16, x ∷ y ∷ z ∷ []) (16, open_says (value_at 2 s) (value_at 3 s) (value_at 4 s))
open_is s a b c d p q r t x y z u v w =
    let e = skip_next s 2 a b p q in
    let f = skip_next s 3 b c e r in
    rw ((found_number s 2 a b p q _ x u).is, (found_number s 3 b c e r _ y v).is, (found_number s 4 c d f t _ z w).is)

-- ---- remote_channel

module _ (i : ℕ) (s f : List ℕ) (p : f ≡ item i s) (b : Bool) (q : b ≡ is_null (or_null f)) where
  at_field : value_at i s ≡ or_null f
  unfolding value_at
  at_field = rw p

  pub channel_null : b ≡ true → [] ≡ when_not (is_null (value_at i s)) (number_of (value_at i s) ∷ [])
  channel_null t = rw (at_field, ← q, t)

  module _ (t : b ≡ false) where
    Some : is_null (or_null f) ≡ false
    Some = sym q ∙ t

    pub channel_some : 1 ≤ length f
    channel_some = some_there f Some

    module _ (short : length (value_at i s) ≤ 3) (x : ℕ) (e : x ≡ big_endian (take 8 (take (length f - 1) (drop 1 f)))) where
      few : length (or_null f) ≤ 3
      few = rw at_field at short

      pub channel_fits : x < 2 ^ (8 * length (take 8 (take (length f - 1) (drop 1 f)))) → Fits w16 x
      channel_fits h = omega (arith, number_low f Some _ (tail f 1) x e h 2 few)

      pub channel_is : x ∷ [] ≡ when_not (is_null (value_at i s)) (number_of (value_at i s) ∷ [])
      channel_is = rw (at_field, Some, number_is f Some _ (tail f 1) x e (omega (arith, few)))
