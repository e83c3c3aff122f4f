-- Where an AMQP value ends, by Part 1. A value is a constructor and a body. A constructor is a format code; or it is 00, a value that describes, and a
-- constructor. An array has one constructor and many bodies. So all is said of a run, which is a constructor and so many bodies of it: a value is a run of one.
-- Where a rule refuses, it refuses with 6. Assumes nothing: these are definitions.
use Rattle.std.specs.Prelude.{ℕ, zero, suc, ◌+◌, ◌-◌, ◌%◌, Bool, true, false, cond, List, [], ◌∷◌, length, take, drop, leb, eqb}
use Rattle.octets.specs.Verdict.{Verdict, refuse, accept, require, and_then}
use Rattle.octets.specs.Octets.{big_endian}

-- a rule for what stands at the front of some bytes: how many of them it takes
abbrev pub Reader : Type 0
Reader = List ℕ → Verdict ℕ

-- n bytes, and then those of v
unfoldable pub plus : ℕ → Verdict ℕ → Verdict ℕ
plus n v = and_then v (λ m. accept (n + m))

-- f, and then g on what is left
unfoldable pub followed_by : Reader → Reader → Reader
followed_by f g s = and_then (f s) (λ n. plus n (g (drop n s)))

-- f so many times
unfoldable pub times : ℕ → Reader → Reader
times zero f s = accept 0
times (suc k) f s = followed_by f (times k f) s

-- ---- format codes

pub data Shape : Type 0 where
  list : Shape
  map : Shape
  array : Shape

-- what a format code says of the body: so many bytes; a byte that is 00 or 01; a size of so many bytes, and as many bytes as it says;
-- a size and a count of so many bytes each, and as many items as the count says
pub data Kind : Type 0 where
  fixed : ℕ → Kind
  boolean : Kind
  variable : ℕ → Kind
  compound : Shape → ℕ → Kind

-- the codes of section 1.6, type by type
unfoldable pub codes : List (ℕ × Kind)
codes =
    -- null
    (0x40, fixed 0)
    -- boolean
    ∷ (0x56, boolean) ∷ (0x41, fixed 0) ∷ (0x42, fixed 0)
    -- ubyte, ushort
    ∷ (0x50, fixed 1)
    ∷ (0x60, fixed 2)
    -- uint
    ∷ (0x70, fixed 4) ∷ (0x52, fixed 1) ∷ (0x43, fixed 0)
    -- ulong
    ∷ (0x80, fixed 8) ∷ (0x53, fixed 1) ∷ (0x44, fixed 0)
    -- byte, short
    ∷ (0x51, fixed 1)
    ∷ (0x61, fixed 2)
    -- int
    ∷ (0x71, fixed 4) ∷ (0x54, fixed 1)
    -- long
    ∷ (0x81, fixed 8) ∷ (0x55, fixed 1)
    -- float, double, decimal32, decimal64, decimal128
    ∷ (0x72, fixed 4)
    ∷ (0x82, fixed 8)
    ∷ (0x74, fixed 4)
    ∷ (0x84, fixed 8)
    ∷ (0x94, fixed 16)
    -- char, timestamp, uuid
    ∷ (0x73, fixed 4)
    ∷ (0x83, fixed 8)
    ∷ (0x98, fixed 16)
    -- binary, string, symbol
    ∷ (0xa0, variable 1) ∷ (0xb0, variable 4)
    ∷ (0xa1, variable 1) ∷ (0xb1, variable 4)
    ∷ (0xa3, variable 1) ∷ (0xb3, variable 4)
    -- list, map, array
    ∷ (0x45, fixed 0) ∷ (0xc0, compound list 1) ∷ (0xd0, compound list 4)
    ∷ (0xc1, compound map 1) ∷ (0xd1, compound map 4)
    ∷ (0xe0, compound array 1) ∷ (0xf0, compound array 4)
    ∷ []

-- the kind that a list gives a code
unfoldable pub kind_in : List (ℕ × Kind) → ℕ → Verdict Kind
kind_in [] c = refuse 6
kind_in (p ∷ ps) c = cond (eqb c p.0) (accept p.1) (kind_in ps c)

unfoldable pub kind_of : ℕ → Verdict Kind
kind_of c = kind_in codes c

-- ---- bodies

-- n bytes
unfoldable pub bytes : ℕ → Reader
bytes n s = require 6 (leb n (length s)) (λ _. accept n)

-- the number in the first w bytes
unfoldable pub number_in : ℕ → List ℕ → Verdict ℕ
number_in w s = require 6 (leb w (length s)) (λ _. accept (big_endian (take w s)))

unfoldable pub boolean_end : Reader
boolean_end [] = refuse 6
boolean_end (b ∷ s) = require 6 (leb b 1) (λ _. accept 1)

unfoldable pub variable_end : ℕ → Reader
variable_end w s = and_then (number_in w s) (λ size. bytes (w + size) s)

-- a map has a value to each key
unfoldable pub paired_in : Shape → ℕ → Bool
paired_in list count = true
paired_in map count = eqb (count % 2) 0
paired_in array count = true

-- a size, as many bytes as it says, and in these a count
unfoldable pub opening : Shape → ℕ → List ℕ → Verdict (ℕ × ℕ)
opening shape w s =
    and_then (number_in w s) (λ size.
    require 6 (leb (w + size) (length s)) (λ _.
    and_then (number_in w (take size (drop w s))) (λ count.
    require 6 (paired_in shape count) (λ _. accept (size, count)))))

-- what stands in a compound; r is the rule for a run one level deeper. The items of a list, and the keys and values of a map, are values.
-- The elements of an array are a run.
unfoldable pub items : (ℕ → Reader) → Shape → ℕ → Reader
items r list count s = times count (r 1) s
items r map count s = times count (r 1) s
items r array count s = r count s

-- the size counts the bytes of the count and those of the items, no more and no fewer
unfoldable pub compound_end : (ℕ → Reader) → Shape → ℕ → Reader
compound_end r shape w s =
    and_then (opening shape w s) (λ o.
    and_then (items r shape o.1 (take (o.0 - w) (drop (w + w) s))) (λ n.
    require 6 (eqb (w + n) o.0) (λ _. accept (w + o.0))))

unfoldable pub body : (ℕ → Reader) → Kind → Reader
body r (fixed w) s = bytes w s
body r boolean s = boolean_end s
body r (variable w) s = variable_end w s
body r (compound shape w) s = compound_end r shape w s

-- ---- runs and values

-- after the byte c: where that is 00 a value, and the run that it describes; else the bodies of the code c. An unknown code is refused, also where
-- there are no bodies
unfoldable pub after_code : (ℕ → Reader) → ℕ → Bool → ℕ → Reader
after_code r count true c s = followed_by (r 1) (r count) s
after_code r count false c s = and_then (kind_of c) (λ k. times count (body r k) s)

-- a run of count bodies; r is the rule for a run one level deeper
unfoldable pub level : (ℕ → Reader) → ℕ → Reader
level r count [] = refuse 6
level r count (c ∷ s) = plus 1 (after_code r count (eqb c 0) c s)

-- the rule where no value may stand
abbrev pub no_values : ℕ → Reader
no_values count s = refuse 6

-- a run of count bodies that stands at the first of d levels. Where no level is left no value may stand, neither a body nor, deeper yet, one that describes.
-- The format code of an array of no elements is no value, and may
unfoldable pub run : ℕ → ℕ → Reader
run zero zero s = level no_values 0 s
run zero (suc k) s = refuse 6
run (suc d) count s = level (run d) count s

-- a value that stands at the first of d levels; what stands inside a list, map, array or described value is one level deeper
unfoldable pub value_end : ℕ → Reader
value_end d s = run d 1 s
