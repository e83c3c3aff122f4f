-- Worked examples: what some bodies say, by computation.
-- Assumes nothing.
use mathlib.Core.Path.{◌≡◌, refl}
use mathlib.Core.List.{List, [], ◌∷◌, ◌++◌, map}
use Prim.Native.Nat.{ℕ, zero, suc, ◌+◌}
use lib.ListN.{length, replicate}
use Rattle.octets.specs.Verdict.{Verdict, refuse, accept, require, and_then}
use Rattle.octets.specs.Octets.{big_endian, big_endian_from, starts_with}
use Rattle.values.specs.Value.{plus, followed_by, times, codes, kind_in, kind_of, bytes, number_in, boolean_end, variable_end, paired_in, opening, items, compound_end, body, after_code, level, run, value_end}
use Rattle.performatives.specs.Fields.{fields_in, fields_of}
use Rattle.performatives.specs.Performative.{number_of, sized, list_at, descriptor, described, split, error_shape, is_error, has_type, fits, fit, fields_by, rows_for, performative_by, performative, number_or, remote_channel, start_of, condition_at, condition, Said, values_in, values_of, performative_said}

-- 00, descriptor k, and a list of so many fields in these bytes
body_of : ℕ → ℕ → List ℕ → List ℕ
body_of k count fields = 0 ∷ 0x53 ∷ k ∷ 0xc0 ∷ (1 + length fields) ∷ count ∷ fields

abbrev says : ℕ → ℕ → List ℕ → Verdict Said
says code end values = accept (record { code = code; end = end; values = values })

-- a value in so many lists
in_lists : ℕ → List ℕ → List ℕ
in_lists zero s = s
in_lists (suc k) s = 0xc0 ∷ (1 + length (in_lists k s)) ∷ 1 ∷ in_lists k s

abbrev id : List ℕ
id = 0xa1 ∷ 1 ∷ 0x61 ∷ []

abbrev symbol : List ℕ
symbol = 0xa3 ∷ 2 ∷ 0x61 ∷ 0x62 ∷ []

examples : List (List ℕ × Verdict Said)
examples =
    -- an Open with a container-id alone; what stands after it is not looked at
    (body_of 16 1 id, says 16 9 (4294967295 ∷ 65535 ∷ 0 ∷ []))
    ∷ (body_of 16 1 id ++ (0xff ∷ []), says 16 9 (4294967295 ∷ 65535 ∷ 0 ∷ []))
    -- with the five fields that are checked, and nulls in their places
    ∷ (body_of 16 5 (id ++ id ++ (0x70 ∷ 0 ∷ 1 ∷ 0 ∷ 0 ∷ 0x60 ∷ 0 ∷ 9 ∷ 0x52 ∷ 30 ∷ [])), says 16 22 (65536 ∷ 9 ∷ 30 ∷ []))
    ∷ (body_of 16 5 (id ++ (0x40 ∷ 0x40 ∷ 0x40 ∷ 0x43 ∷ [])), says 16 13 (4294967295 ∷ 65535 ∷ 0 ∷ []))
    -- without a container-id, with null, and with a symbol in its place
    ∷ (0 ∷ 0x53 ∷ 16 ∷ 0x45 ∷ [], refuse 6)
    ∷ (body_of 16 1 (0x40 ∷ []), refuse 6)
    ∷ (body_of 16 1 symbol, refuse 6)
    -- with ten fields, and with eleven
    ∷ (body_of 16 10 (id ++ replicate 9 0x40), says 16 18 (4294967295 ∷ 65535 ∷ 0 ∷ []))
    ∷ (body_of 16 11 (id ++ replicate 10 0x40), refuse 6)
    -- a value more and a value less than the count says
    ∷ (body_of 16 1 (id ++ (0x40 ∷ [])), refuse 6)
    ∷ (body_of 16 2 id, refuse 6)
    -- a Begin with a remote-channel and without; without its next-outgoing-id; the descriptor and the list in their longest forms
    ∷ (body_of 17 4 (0x60 ∷ 1 ∷ 2 ∷ 0x43 ∷ 0x43 ∷ 0x52 ∷ 1 ∷ []), says 17 13 (258 ∷ []))
    ∷ (body_of 17 4 (0x40 ∷ 0x43 ∷ 0x43 ∷ 0x43 ∷ []), says 17 10 [])
    ∷ (body_of 17 4 (0x40 ∷ 0x40 ∷ 0x43 ∷ 0x43 ∷ []), refuse 6)
    ∷ (0 ∷ 0x80 ∷ replicate 7 0 ++ (17 ∷ 0xd0 ∷ 0 ∷ 0 ∷ 0 ∷ 8 ∷ 0 ∷ 0 ∷ 0 ∷ 4 ∷ 0x40 ∷ 0x43 ∷ 0x43 ∷ 0x43 ∷ []), says 17 23 [])
    -- a Transfer and its payload; a field at level 16, and one at level 17
    ∷ (body_of 20 1 (0x43 ∷ []) ++ (1 ∷ 2 ∷ 3 ∷ []), says 20 7 [])
    ∷ (body_of 20 1 (in_lists 15 (0x40 ∷ [])), says 20 52 [])
    ∷ (body_of 20 1 (in_lists 16 (0x40 ∷ [])), refuse 6)
    -- an End without an error; a Detach and a Close with one, whose condition has the length of a byte and of four
    ∷ (0 ∷ 0x53 ∷ 23 ∷ 0x45 ∷ [], says 23 4 [])
    ∷ (body_of 22 3 (0x43 ∷ 0x41 ∷ body_of 29 1 symbol), says 22 18 (16 ∷ 2 ∷ []))
    ∷ (body_of 24 1 (body_of 29 3 (0xb3 ∷ 0 ∷ 0 ∷ 0 ∷ 2 ∷ 0x61 ∷ 0x62 ∷ 0x40 ∷ 0x40 ∷ [])), says 24 21 (17 ∷ 2 ∷ []))
    -- an error with no fields, with four, with a string for its condition, and with another descriptor
    ∷ (body_of 24 1 (0 ∷ 0x53 ∷ 29 ∷ 0x45 ∷ []), refuse 6)
    ∷ (body_of 24 1 (body_of 29 4 (symbol ++ replicate 3 0x40)), refuse 6)
    ∷ (body_of 24 1 (body_of 29 1 id), refuse 6)
    ∷ (body_of 24 1 (body_of 30 1 symbol), refuse 6)
    -- no performative has this descriptor; a descriptor that is a symbol; no list; no bytes
    ∷ (0 ∷ 0x53 ∷ 25 ∷ 0x45 ∷ [], refuse 6)
    ∷ (0 ∷ 0xa3 ∷ 1 ∷ 0x61 ∷ 0x45 ∷ [], refuse 6)
    ∷ (0 ∷ 0x53 ∷ 23 ∷ 0x40 ∷ [], refuse 6)
    ∷ ([], refuse 6)
    ∷ []

as_expected : map (λ e. performative_said e.0) examples ≡ map (λ e. e.1) examples
unfolding examples body_of in_lists require and_then big_endian big_endian_from starts_with plus followed_by times codes kind_in kind_of bytes number_in boolean_end variable_end paired_in opening items compound_end body after_code level run value_end fields_in fields_of number_of sized list_at descriptor described split error_shape is_error has_type fits fit fields_by rows_for performative_by performative number_or remote_channel start_of condition_at condition values_in values_of performative_said
as_expected = refl
