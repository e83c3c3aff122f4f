-- Described lists: what each step of `descriptor_at` and `any_described` shows, by what a function that was called ensures of its answer.
-- Assumes nothing.
use mathlib.Core.Path.{◌≡◌, sym, ap, ◌∙◌}
use mathlib.Core.Bool.{Bool, true, false}
use mathlib.Core.List.{List, [], ◌∷◌}
use Prim.Native.Nat.{ℕ, ◌+◌, ◌-◌, ◌^◌, ◌<◌, ◌≤◌}
use native.Mathlib.Omega.{arith}
use mir.Syntax.{w64}
use mir.Val.{Fits}
use lib.ListN.{length, take, drop, length-take, length-drop}
use lib.Seq.{take_all}
use Rattle.octets.specs.Verdict.{refuse, accept, require, and_then}
use Rattle.octets.specs.Octets.{big_endian, starts_with}
use Rattle.values.specs.Value.{value_end}
use Rattle.values.proofs.Cases.{tail}
use Rattle.values.proofs.Laws.{value_within, value_some}
use Rattle.performatives.proofs.Bounds.{list_lies, descriptor_lies}
use Rattle.performatives.specs.Performative.{number_of, list_at, descriptor, described}
use Rattle.performatives.proofs.Parts.{drop_take}
use Rattle.performatives.proofs.Codes.{starts_some, ulong_ends}

module _ (s : List ℕ) (a : Bool) (p : a ≡ starts_with (0 ∷ []) s) where
  pub descriptor_not : a ≡ false → refuse 6 ≡ descriptor s
  unfolding descriptor require
  descriptor_not t = rw (← p, t)

  module _ (at : a ≡ true) where
    pub descriptor_some : 1 ≤ length s
    descriptor_some = starts_some _ s (sym p ∙ at)

    module _ (b : Bool) (q : b ≡ starts_with (0x80 ∷ 0x53 ∷ 0x44 ∷ []) (take (length s - 1) (drop 1 s))) where
      pub descriptor_other : b ≡ false → refuse 6 ≡ descriptor s
      unfolding descriptor require
      descriptor_other t = rw (← p, at, ← tail s 1, ← q, t)

      module _ (bt : b ≡ true) where
        pub descriptor_malformed : refuse 6 ≡ value_end 1 (take (length s - 1) (drop 1 s)) → refuse 6 ≡ descriptor s
        unfolding descriptor require and_then
        descriptor_malformed e = rw (← p, at, ← tail s 1, ← q, bt, ← e)

        module _ (n : ℕ) (e : accept n ≡ value_end 1 (take (length s - 1) (drop 1 s))) where
          ends : value_end 1 (take (length s - 1) (drop 1 s)) ≡ accept n
          ends = sym e

          pub ulong_some : 1 ≤ n
          ulong_some = value_some 1 _ n ends

          pub ulong_within : n ≤ length (take (length s - 1) (drop 1 s))
          ulong_within = value_within 1 _ n ends

          pub ulong_fits : length s < 2 ^ 64 → Fits w64 (1 + n)
          ulong_fits h =
              let k : length (take (length s - 1) (drop 1 s)) ≡ length s - 1 = simp (tail, length-drop) in
              omega (arith, ulong_within, descriptor_some)

          pub descriptor_is : (x : ℕ) → x ≡ big_endian (take 8 (take (n - 1) (drop 1 (take (length s - 1) (drop 1 s))))) → accept (x, 1 + n) ≡ descriptor s
          unfolding descriptor require and_then number_of
          descriptor_is x h =
              let few : n ≤ 9 = ulong_ends 1 _ n (sym q ∙ bt) ends in
              let l : length (take (n - 1) (drop 1 (drop 1 s))) ≤ 8 = omega (arith, length-take (n - 1) (drop 1 (drop 1 s))) in
              let k : x ≡ big_endian (drop 1 (take n (drop 1 s))) = (rw (tail s 1, take_all 8 _ l) at h) ∙ ap big_endian (sym (drop_take 1 n (drop 1 s))) in
              rw (← p, at, ← tail s 1, ← q, bt, ends, tail s 1) (rw k)

-- ---- a descriptor and a list

module _ (s : List ℕ) where
  pub described_not : refuse 6 ≡ descriptor s → refuse 6 ≡ described s
  unfolding described and_then
  described_not p = rw (← p)

  module _ (code at : ℕ) (p : accept (code, at) ≡ descriptor s) where
    named : descriptor s ≡ accept (code, at)
    named = sym p

    pub list_from : at ≤ length s
    list_from = (descriptor_lies s (code, at) named).inside

    pub described_malformed : refuse 6 ≡ list_at (take (length s - at) (drop at s)) → refuse 6 ≡ described s
    unfolding described and_then
    described_malformed q = rw (named, ← tail s at, ← q)

    module _ (count from end : ℕ) (q : accept (record { count = count; from = from; end = end }) ≡ list_at (take (length s - at) (drop at s))) where
      listed : list_at (drop at s) ≡ accept (record { count = count; from = from; end = end })
      listed = ap list_at (sym (tail s at)) ∙ sym q

      pub list_ends : at + end ≤ length s
      list_ends = omega (arith, (list_lies (drop at s) _ listed).inside, length-drop at s, list_from)

      pub from_fits : length s < 2 ^ 64 → Fits w64 (at + from)
      from_fits h = omega (arith, (list_lies (drop at s) _ listed).ordered, list_ends)

      pub end_fits : length s < 2 ^ 64 → Fits w64 (at + end)
      end_fits h = omega (arith, list_ends)

      pub described_is : accept (record { code = code; count = count; from = at + from; end = at + end }) ≡ described s
      unfolding described and_then
      described_is = rw (named, listed)
