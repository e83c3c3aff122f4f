-- Worked examples: where some values end, by computation.
-- Assumes nothing.
use mathlib.Core.Path.{◌≡◌, refl, sym, ap, ◌∙◌}
use mathlib.Core.List.{List, [], ◌∷◌, ◌++◌, map}
use Prim.Native.Nat.{ℕ, zero, suc, ◌+◌, ◌^◌, ◌<◌}
use lib.ListN.{length, length-append}
use native.Mathlib.Nat.{mul-zero}
use native.Mathlib.Omega.{arith}
use Rattle.octets.specs.Verdict.{Verdict, refuse, accept, require, and_then}
use Rattle.octets.specs.Octets.{big_endian, big_endian_from, bytes_of}
use Rattle.octets.proofs.Laws.{length_bytes_of}
use Rattle.values.specs.Value.{array, plus, followed_by, times, codes, kind_in, kind_of, bytes, number_in, boolean_end, variable_end, paired_in, opening, items, compound_end, body, after_code, level, run, value_end}
use Rattle.values.proofs.Cases.{times_bytes, bytes_yes}
use Rattle.values.proofs.Apart.{plus_is}
use Rattle.values.proofs.Written.{compound_whole}

-- a value in so many lists, and in so many arrays of one element
in_lists : ℕ → List ℕ → List ℕ
in_lists zero s = s
in_lists (suc k) s = 0xc0 ∷ (1 + length (in_lists k s)) ∷ 1 ∷ in_lists k s

in_arrays : ℕ → List ℕ → List ℕ
in_arrays zero s = s
in_arrays (suc k) s = 0xe0 ∷ (1 + length (in_arrays k s)) ∷ 1 ∷ in_arrays k s

-- a value that so many descriptors stand before
described : ℕ → List ℕ → List ℕ
described zero s = s
described (suc k) s = 0 ∷ 0x40 ∷ described k s

examples : List (List ℕ × Verdict ℕ)
examples =
    -- null, and bytes after it
    (0x40 ∷ 1 ∷ 2 ∷ [], accept 1)
    -- true, in one byte and in two; the second byte may be 00 or 01
    ∷ (0x41 ∷ [], accept 1)
    ∷ (0x56 ∷ 1 ∷ [], accept 2)
    ∷ (0x56 ∷ 2 ∷ [], refuse 6)
    -- no bytes; an unknown code; too few bytes
    ∷ ([], refuse 6)
    ∷ (0x46 ∷ [], refuse 6)
    ∷ (0x70 ∷ 0 ∷ 0 ∷ 0 ∷ [], refuse 6)
    -- strings with a size of one byte and of four
    ∷ (0xa1 ∷ 2 ∷ 0x70 ∷ 0x31 ∷ [], accept 4)
    ∷ (0xb1 ∷ 0 ∷ 0 ∷ 0 ∷ 2 ∷ 0x70 ∷ 0x31 ∷ [], accept 7)
    ∷ (0xb1 ∷ 0 ∷ 0 ∷ 0 ∷ 3 ∷ 0x70 ∷ 0x31 ∷ [], refuse 6)
    -- an Open, as a described list
    ∷ (0 ∷ 0x53 ∷ 0x10 ∷ 0xc0 ∷ 0x0e ∷ 4 ∷ 0xa1 ∷ 2 ∷ 0x70 ∷ 0x31 ∷ 0x40 ∷ 0x70 ∷ 0 ∷ 0 ∷ 0x10 ∷ 0 ∷ 0x60 ∷ 0 ∷ 7 ∷ [], accept 19)
    -- lists whose size is one too small and one too great
    ∷ (0xc0 ∷ 2 ∷ 2 ∷ 0x40 ∷ 0x40 ∷ [], refuse 6)
    ∷ (0xc0 ∷ 3 ∷ 2 ∷ 0x40 ∷ 0x40 ∷ [], accept 5)
    ∷ (0xc0 ∷ 4 ∷ 2 ∷ 0x40 ∷ 0x40 ∷ 0x40 ∷ [], refuse 6)
    -- maps of a key and a value, and of a key alone
    ∷ (0xc1 ∷ 3 ∷ 2 ∷ 0x40 ∷ 0x40 ∷ [], accept 5)
    ∷ (0xc1 ∷ 2 ∷ 1 ∷ 0x40 ∷ [], refuse 6)
    -- arrays of no elements; the second has an unknown code
    ∷ (0xe0 ∷ 2 ∷ 0 ∷ 0x60 ∷ [], accept 4)
    ∷ (0xe0 ∷ 2 ∷ 0 ∷ 0x57 ∷ [], refuse 6)
    -- arrays of two ushorts, and of two described ubytes
    ∷ (0xe0 ∷ 6 ∷ 2 ∷ 0x60 ∷ 0 ∷ 1 ∷ 0 ∷ 2 ∷ [], accept 8)
    ∷ (0xe0 ∷ 7 ∷ 2 ∷ 0 ∷ 0x53 ∷ 9 ∷ 0x50 ∷ 1 ∷ 2 ∷ [], accept 9)
    -- a null at level 16, and at level 17, in lists, in arrays and described
    ∷ (in_lists 15 (0x40 ∷ []), accept 46)
    ∷ (in_lists 16 (0x40 ∷ []), refuse 6)
    ∷ (in_arrays 15 (0x40 ∷ []), accept 46)
    ∷ (in_arrays 16 (0x40 ∷ []), refuse 6)
    ∷ (described 15 (0x40 ∷ []), accept 31)
    ∷ (described 16 (0x40 ∷ []), refuse 6)
    -- arrays at level 16: of no elements, where no value stands at level 17; with an unknown code; of one element; of no arrays
    ∷ (in_lists 15 (0xe0 ∷ 2 ∷ 0 ∷ 0x40 ∷ []), accept 49)
    ∷ (in_lists 15 (0xe0 ∷ 2 ∷ 0 ∷ 0x57 ∷ []), refuse 6)
    ∷ (in_lists 15 (0xe0 ∷ 2 ∷ 1 ∷ 0x40 ∷ []), refuse 6)
    ∷ (in_lists 15 (0xe0 ∷ 2 ∷ 0 ∷ 0xe0 ∷ []), accept 49)
    -- an array of no elements in an array at level 15, and at level 16
    ∷ (in_lists 14 (0xe0 ∷ 5 ∷ 1 ∷ 0xe0 ∷ 2 ∷ 0 ∷ 0x40 ∷ []), accept 49)
    ∷ (in_lists 15 (0xe0 ∷ 5 ∷ 1 ∷ 0xe0 ∷ 2 ∷ 0 ∷ 0x40 ∷ []), refuse 6)
    -- arrays of no described elements at levels 14, 15 and 16: what describes stands at 16, 17 and 18
    ∷ (in_lists 13 (0xe0 ∷ 5 ∷ 0 ∷ 0 ∷ 0x53 ∷ 1 ∷ 0x40 ∷ []), accept 46)
    ∷ (in_lists 14 (0xe0 ∷ 5 ∷ 0 ∷ 0 ∷ 0x53 ∷ 1 ∷ 0x40 ∷ []), refuse 6)
    ∷ (in_lists 15 (0xe0 ∷ 5 ∷ 0 ∷ 0 ∷ 0x53 ∷ 1 ∷ 0x40 ∷ []), refuse 6)
    -- arrays of no elements that are described twice, at levels 13 and 14: the second value that describes stands at 16 and 17
    ∷ (in_lists 12 (0xe0 ∷ 8 ∷ 0 ∷ 0 ∷ 0x53 ∷ 1 ∷ 0 ∷ 0x53 ∷ 2 ∷ 0x40 ∷ []), accept 46)
    ∷ (in_lists 13 (0xe0 ∷ 8 ∷ 0 ∷ 0 ∷ 0x53 ∷ 1 ∷ 0 ∷ 0x53 ∷ 2 ∷ 0x40 ∷ []), refuse 6)
    ∷ []

as_expected : map (λ p. value_end 16 p.0) examples ≡ map (λ p. p.1) examples
unfolding in_lists in_arrays described examples require and_then big_endian big_endian_from plus followed_by times codes kind_in kind_of bytes number_in boolean_end variable_end paired_in opening items compound_end body after_code level run value_end
as_expected = refl

-- an array claims as many nulls as its count can say, in a few bytes
nulls : (count : ℕ) → count < 256 ^ 4 → (t : List ℕ) → value_end 16 (0xf0 ∷ bytes_of 4 5 ++ bytes_of 4 count ++ (0x40 ∷ []) ++ t) ≡ accept 10
unfolding paired_in items run level after_code kind_of kind_in codes body and_then
nulls count few t =
    let full : items (run 15) array count (0x40 ∷ []) ≡ accept 1 = rw (times_bytes 0 count [], mul-zero count) (plus_is 1 (bytes 0 []) 0 (sym (bytes_yes 0 [] (omega arith)))) in
    compound_whole 15 4 array count (0x40 ∷ []) refl full (omega arith) few 0xf0 refl t ∙ ap accept (omega (arith, length-append (bytes_of 4 5 ++ bytes_of 4 count) (0x40 ∷ []), length-append (bytes_of 4 5) (bytes_of 4 count), length_bytes_of 4 5, length_bytes_of 4 count))
