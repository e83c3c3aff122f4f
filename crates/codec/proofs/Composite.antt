-- A described list that was written is read back: its descriptor, how many values it has, where they lie, and the values themselves.
-- Assumes nothing.
use mathlib.Core.Path.{◌≡◌, refl, sym, ap, ◌∙◌}
use mathlib.Core.Bool.{Bool, true, false}
use mathlib.Core.List.{List, [], ◌∷◌, ◌++◌, append_assoc, append-nil}
use Prim.Native.Nat.{ℕ, suc, ◌+◌, ◌-◌, ◌^◌, ◌<◌, ◌≤◌}
use native.Mathlib.Omega.{arith}
use lib.ListN.{length, take, drop, length-append}
use lib.Seq.{drop_at, take-append-add, take-append_seam, drop-append_seam}
use lib.Dec.{leb, eqb}
use borrow.Author.Tests.{leb-true, eqb-true}
use Rattle.octets.specs.Verdict.{accept, require, and_then}
use Rattle.octets.specs.Octets.{big_endian, big_endian_from, bytes_of, starts_with}
use Rattle.octets.proofs.Laws.{then_accept, length_bytes_of}
use Rattle.values.specs.Value.{list, codes, kind_in, kind_of, number_in, paired_in, opening, value_end}
use Rattle.values.proofs.Apart.{opening_is}
use Rattle.values.proofs.Written.{Whole, Each, number_written, fixed_whole}
use Rattle.serializer.specs.Written.{list_header, joined, composite_header, composite_of}
use Rattle.serializer.proofs.Laws.{one_byte}
use Rattle.codec.proofs.Trimmed.{none_is}
use Rattle.performatives.specs.Performative.{number_of, Items, sized, list_at, Described, descriptor, described, split, items_of}

-- ---- the values of a list

pub split_joined : (d : ℕ) (fs : List (List ℕ)) → Each (Whole d) fs → split d (length fs) (joined fs) ≡ accept fs
unfolding split joined and_then
split_joined d [] h = refl
split_joined d (f ∷ fs) h = rw (h.0 (joined fs), drop-append_seam f (joined fs), split_joined d fs h.1, take-append_seam f (joined fs))

-- ---- the beginning of a list

abbrev pub items_from : ℕ → ℕ → ℕ → Items
items_from count from size = record { count = count; from = from; end = from + size }

-- from `from` on as many bytes as the size says
abbrev pub described_as : ℕ → ℕ → ℕ → ℕ → Described
described_as code count from size = record { code = code; count = count; from = from; end = from + size }

module _ (count size : ℕ) (rest : List ℕ) (room : size ≤ length rest) where
  sized_written : (w c : ℕ) → size + w < 256 ^ w → count < 256 ^ w → sized w (c ∷ bytes_of w (size + w) ++ (bytes_of w count ++ rest)) ≡ accept (items_from count (1 + w + w) size)
  unfolding sized paired_in
  sized_written w c low few =
      let A : List ℕ = bytes_of w (size + w) in
      let B : List ℕ = bytes_of w count in
      let la : length A ≡ w = length_bytes_of w (size + w) in
      let lb : length B ≡ w = length_bytes_of w count in
      let k : size + w ≡ length B + size = omega arith in
      let counted : take (size + w) (drop w (A ++ (B ++ rest))) ≡ B ++ take size rest = rw (drop_at A (B ++ rest) w la, k) (take-append-add B rest size) in
      then_accept (opening list w (A ++ (B ++ rest))) _ (size + w, count)
      (opening_is list w (A ++ (B ++ rest)) (size + w) count
      (record { sized = number_written w (size + w) (B ++ rest) low; fits = omega (arith, length-append A (B ++ rest), length-append B rest); counted = ap (number_in w) counted ∙ number_written w count (take size rest) few; paired = refl }))
      ∙ ap (λ (n : ℕ). accept (record { count = count; from = 1 + w + w; end = n })) (omega arith)

  module _ (few : count < 256) (low : size + 4 < 256 ^ 4) where
    list_cases : (a b : Bool) → eqb count 0 ≡ a → leb size 254 ≡ b → (count ≡ 0 → size ≡ 0) → list_at (list_header count size ++ rest) ≡ accept (items_from count (length (list_header count size)) size)
    unfolding list_at list_header starts_with
    list_cases true b p q z =
        let e : count ≡ 0 = eqb-true _ _ p in
        let f : size ≡ 0 = z e in
        rw (p, e, f)
    list_cases false true p q z =
        let l : size ≤ 254 = leb-true _ _ q in
        rw (p, q) (rw (one_byte (size + 1) (omega arith), one_byte count few) at (sized_written 1 0xc0 (omega arith) (omega arith)))
    list_cases false false p q z =
        let l : length (bytes_of 4 (size + 4) ++ bytes_of 4 count) ≡ 8 = omega (arith, length-append (bytes_of 4 (size + 4)) (bytes_of 4 count), length_bytes_of 4 (size + 4), length_bytes_of 4 count) in
        rw (p, q, append_assoc (0xd0 ∷ bytes_of 4 (size + 4)) (bytes_of 4 count) rest, l) (sized_written 4 0xd0 low (omega arith))

    pub list_read : (count ≡ 0 → size ≡ 0) → list_at (list_header count size ++ rest) ≡ accept (items_from count (length (list_header count size)) size)
    list_read z = list_cases (eqb count 0) (leb size 254) refl refl z

    -- the descriptor, and where the values lie: after the header, to the end of so many bytes
    pub header_read : (code : ℕ) → (count ≡ 0 → size ≡ 0)
        → described (composite_header code count size ++ rest) ≡ accept (described_as code count (length (composite_header code count size)) size)
    unfolding described descriptor composite_header starts_with number_of big_endian big_endian_from kind_of kind_in codes require and_then
    header_read code z =
        let n : value_end 1 (0x53 ∷ code ∷ (list_header count size ++ rest)) ≡ accept 2 = fixed_whole 0 0x53 1 (code ∷ []) refl refl (list_header count size ++ rest) in
        let L : ℕ = length (list_header count size) in
        let x : 0 + code ≡ code = omega arith in
        let y : 3 + L ≡ suc (suc (suc L)) = omega arith in
        let w : 3 + (L + size) ≡ suc (suc (suc L)) + size = omega arith in
        rw (n, list_read z) (rw (x, y, w))

-- ---- a described list of these values

joined_none : (fs : List (List ℕ)) → length fs ≡ 0 → length (joined fs) ≡ 0
unfolding joined
joined_none fs e = let z : fs ≡ [] = none_is fs e in rw z

abbrev pub described_of : ℕ → List (List ℕ) → Described
described_of code fs = described_as code (length fs) (length (composite_header code (length fs) (length (joined fs)))) (length (joined fs))

module _ (code : ℕ) (fs : List (List ℕ)) (few : length fs < 256) (low : length (joined fs) + 4 < 256 ^ 4) (t : List ℕ) where
  pub described_read : described (composite_of code fs ++ t) ≡ accept (described_of code fs)
  described_read =
      rw append_assoc (header_read (length fs) (length (joined fs)) (joined fs ++ t) (omega (arith, length-append (joined fs) t)) few low code (joined_none fs))

  pub items_read : items_of (described_of code fs) (composite_of code fs ++ t) ≡ joined fs
  items_read =
      let H : List ℕ = composite_header code (length fs) (length (joined fs)) in
      let k : (length H + length (joined fs)) - length H ≡ length (joined fs) = omega arith in
      rw (k, append_assoc H (joined fs) t, drop-append_seam H (joined fs ++ t)) (take-append_seam (joined fs) t)

-- the same with nothing after it
module _ (code : ℕ) (fs : List (List ℕ)) (few : length fs < 256) (low : length (joined fs) + 4 < 256 ^ 4) where
  pub described_alone : described (composite_of code fs) ≡ accept (described_of code fs)
  described_alone = ap described (sym (append-nil (composite_of code fs))) ∙ described_read code fs few low []

  pub items_alone : items_of (described_of code fs) (composite_of code fs) ≡ joined fs
  items_alone = ap (items_of (described_of code fs)) (sym (append-nil (composite_of code fs))) ∙ items_read code fs few low []
