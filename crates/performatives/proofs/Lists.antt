-- Lists at the front of bytes: what each step of `sized` and `list_at` shows.
-- Assumes nothing.
use mathlib.Core.Path.{◌≡◌, sym, ap, ◌∙◌}
use mathlib.Core.Bool.{Bool, true, false}
use mathlib.Core.List.{List, [], ◌∷◌}
use Prim.Native.Nat.{ℕ, ◌+◌, ◌*◌, ◌-◌, ◌^◌, ◌<◌, ◌≤◌}
use native.Mathlib.Omega.{arith}
use mir.Syntax.{w32}
use mir.Val.{Fits}
use lib.ListN.{length, take, drop, length-take, length-drop}
use lib.Seq.{take_all, take-take, drop-drop, length-take-le}
use lib.Pow.{pow_mono}
use borrow.Author.Tests.{le-leb, lt-leb}
use Rattle.octets.specs.Verdict.{Verdict, refuse, accept, require, and_then}
use Rattle.octets.specs.Octets.{big_endian, starts_with}
use Rattle.octets.proofs.Laws.{require_off}
use Rattle.values.proofs.Apart.{number_is}
use Rattle.values.specs.Value.{number_in, paired_in, opening}
use Rattle.performatives.specs.Performative.{Items, sized, list_at}

number_not : (w : ℕ) (t : List ℕ) → length t < w → number_in w t ≡ refuse 6
unfolding number_in
number_not w t h = require_off _ _ _ (lt-leb _ _ h)

-- the number in a part of w bytes
module _ (w : ℕ) (small : w ≤ 4) (s : List ℕ) (a x : ℕ) where
  pub part_is : x ≡ big_endian (take 8 (take ((a + w) - a) (drop a s))) → x ≡ big_endian (take w (drop a s))
  part_is e =
      let k : (a + w) - a ≡ w = omega arith in
      let l : length (take w (drop a s)) ≤ 8 = omega (arith, length-take w (drop a s)) in
      e ∙ rw (k, take_all 8 (take w (drop a s)) l)

  pub part_fits : x < 2 ^ (8 * length (take 8 (take ((a + w) - a) (drop a s)))) → Fits w32 x
  part_fits h =
      let m : length (take 8 (take ((a + w) - a) (drop a s))) ≤ 4 =
      omega (arith, length-take 8 (take ((a + w) - a) (drop a s)), length-take ((a + w) - a) (drop a s)) in
      let p : 2 ^ (8 * length (take 8 (take ((a + w) - a) (drop a s)))) ≤ 2 ^ 32 = pow_mono {i = 8 * length (take 8 (take ((a + w) - a) (drop a s)))} {j = 32} (omega arith) in
      omega arith

module _ (s : List ℕ) (w : ℕ) where
  pub sized_short : 1 ≤ w → length s < 1 + w → refuse 6 ≡ sized w s
  unfolding sized opening and_then
  sized_short p h = let l : length (drop 1 s) < w = omega (arith, length-drop 1 s) in rw (number_not w (drop 1 s) l)

  module _ (small : w ≤ 4) (long : 1 + w ≤ length s) (size : ℕ) (e : size ≡ big_endian (take 8 (take ((1 + w) - 1) (drop 1 s)))) where
    size_is : number_in w (drop 1 s) ≡ accept size
    size_is = number_is w (drop 1 s) (omega (arith, length-drop 1 s)) ∙ ap accept (sym (part_is w small s 1 size e))

    pub sized_over : length s - (1 + w) < size → refuse 6 ≡ sized w s
    unfolding sized opening and_then require
    sized_over h = let l : length (drop 1 s) < w + size = omega (arith, length-drop 1 s) in rw (size_is, lt-leb _ _ l)

    module _ (fits : size ≤ length s - (1 + w)) where
      filled : w + size ≤ length (drop 1 s)
      filled = omega (arith, length-drop 1 s)

      pub sized_countless : size < w → refuse 6 ≡ sized w s
      unfolding sized opening and_then require
      sized_countless h =
          let l : length (take size (drop w (drop 1 s))) < w = omega (arith, length-take size (drop w (drop 1 s))) in
          rw (size_is, le-leb _ _ filled, number_not w _ l)

      module _ (room : w ≤ size) (count : ℕ) (q : count ≡ big_endian (take 8 (take (((1 + w) + w) - (1 + w)) (drop (1 + w) s)))) where
        count_is : number_in w (take size (drop w (drop 1 s))) ≡ accept count
        count_is =
            let l : w ≤ length (take size (drop w (drop 1 s))) = omega (arith, length-take-le size (drop w (drop 1 s)) (omega (arith, length-drop w (drop 1 s), filled))) in
            let d : drop w (drop 1 s) ≡ drop (1 + w) s = drop-drop w 1 s in
            number_is w _ l ∙ rw (take-take w size (drop w (drop 1 s)) room, d) (ap accept (sym (part_is w small s (1 + w) count q)))

        pub sized_is : accept (record { count = count; from = (1 + w) + w; end = (1 + w) + size }) ≡ sized w s
        unfolding sized opening and_then require paired_in
        sized_is = rw (size_is, le-leb _ _ filled, count_is)

-- ---- which list it is

module _ (s : List ℕ) where
  pub list_empty : (b : Bool) → b ≡ starts_with (0x45 ∷ []) s → b ≡ true → accept (record { count = 0; from = 1; end = 1 }) ≡ list_at s
  unfolding list_at
  list_empty b e t = rw (← e, t)

  module _ (b : Bool) (e : b ≡ starts_with (0x45 ∷ []) s) (f : b ≡ false) where
    pub list_small : (d : Bool) (v : Verdict Items) → d ≡ starts_with (0xc0 ∷ []) s → d ≡ true → v ≡ sized 1 s → v ≡ list_at s
    unfolding list_at
    list_small d v q t h = rw (← e, f, ← q, t) h

    module _ (d : Bool) (q : d ≡ starts_with (0xc0 ∷ []) s) (g : d ≡ false) where
      pub list_large : (k : Bool) (v : Verdict Items) → k ≡ starts_with (0xd0 ∷ []) s → k ≡ true → v ≡ sized 4 s → v ≡ list_at s
      unfolding list_at
      list_large k v r t h = rw (← e, f, ← q, g, ← r, t) h

      pub list_none : (k : Bool) → k ≡ starts_with (0xd0 ∷ []) s → k ≡ false → refuse 6 ≡ list_at s
      unfolding list_at
      list_none k r t = rw (← e, f, ← q, g, ← r, t)
