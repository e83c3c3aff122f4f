-- The written form: descriptor 53, shortest constructors, trailing nulls dropped (document 01, "Frame and body"; Part 1 section 1.6).
-- Assumes nothing: these are definitions.
use Rattle.std.specs.Prelude.{ℕ, ◌+◌, Bool, true, false, cond, List, [], ◌∷◌, ◌++◌, length, leb, eqb}
use Rattle.octets.specs.Octets.{bytes_of}
use Rattle.values.specs.Null.{is_null}

unfoldable pub uint : ℕ → List ℕ
uint n = cond (eqb n 0) (0x43 ∷ []) (cond (leb n 255) (0x52 ∷ n ∷ []) (0x70 ∷ bytes_of 4 n))

unfoldable pub ushort : ℕ → List ℕ
ushort n = 0x60 ∷ bytes_of 2 n

-- a string (code A1) or a symbol (A3) of n bytes begins so
unfoldable pub text_header : ℕ → ℕ → List ℕ
text_header code n = cond (leb n 255) (code ∷ n ∷ []) ((code + 16) ∷ bytes_of 4 n)

unfoldable pub text : ℕ → List ℕ → List ℕ
text code bs = text_header code (length bs) ++ bs

-- a list of so many values, which take so many bytes, begins so
unfoldable pub list_header : ℕ → ℕ → List ℕ
list_header count size =
    cond (eqb count 0) (0x45 ∷ [])
    (cond (leb size 254) (0xc0 ∷ (size + 1) ∷ count ∷ []) (0xd0 ∷ bytes_of 4 (size + 4) ++ bytes_of 4 count))

unfoldable pub joined : List (List ℕ) → List ℕ
joined [] = []
joined (f ∷ fs) = f ++ joined fs

-- f in front of fields of which the trailing nulls are dropped
abbrev pub before : Bool → List ℕ → List (List ℕ) → List (List ℕ)
before true f [] = []
before false f [] = f ∷ []
before b f (g ∷ fs) = f ∷ g ∷ fs

unfoldable pub trimmed : List (List ℕ) → List (List ℕ)
trimmed [] = []
trimmed (f ∷ fs) = before (is_null f) f (trimmed fs)

-- 00, the descriptor, and the beginning of the list
unfoldable pub composite_header : ℕ → ℕ → ℕ → List ℕ
composite_header code count size = 0 ∷ 0x53 ∷ code ∷ list_header count size

abbrev pub composite_of : ℕ → List (List ℕ) → List ℕ
composite_of code fs = composite_header code (length fs) (length (joined fs)) ++ joined fs

-- a described list of these fields
unfoldable pub composite : ℕ → List (List ℕ) → List ℕ
composite code fs = composite_of code (trimmed fs)
