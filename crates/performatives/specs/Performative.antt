-- A performative, read from the body of a frame: Part 1 section 1.4 (composite types) and Part 2 section 2.7, as document 01 has them checked.
-- Where a rule refuses, it refuses with 6. Assumes nothing: these are definitions.
use Rattle.std.specs.Prelude.{ℕ, zero, suc, ◌+◌, ◌-◌, Bool, true, false, cond, ◌&&◌, not, List, [], ◌∷◌, length, take, drop, get_or, leb, eqb, Option, None, Some}
use Rattle.octets.specs.Verdict.{Verdict, refuse, accept, require, and_then}
use Rattle.octets.specs.Octets.{big_endian, starts_with}
use Rattle.values.specs.Value.{list, opening, value_end}
use Rattle.values.specs.Null.{null, is_null}
use Rattle.performatives.specs.Fields.{FieldType, Any, UShort, UInt, String, Error, Field, fields_of}

-- ---- a described list

-- the number of a value of type ubyte, ushort, uint or ulong: what stands after its code
unfoldable pub number_of : List ℕ → ℕ
number_of f = big_endian (drop 1 f)

-- a list at the front of bytes: how many values it says it has, and from where to where they lie
pub record Items : Type 0 where
  pub count : ℕ
  pub from : ℕ
  pub end : ℕ

-- after the code a size and a count of w bytes each
unfoldable pub sized : ℕ → List ℕ → Verdict Items
sized w s = and_then (opening list w (drop 1 s)) (λ o. accept (record { count = o.1; from = 1 + w + w; end = 1 + w + o.0 }))

unfoldable pub list_at : List ℕ → Verdict Items
list_at s =
    cond (starts_with (0x45 ∷ []) s) (accept (record { count = 0; from = 1; end = 1 }))
    (cond (starts_with (0xc0 ∷ []) s) (sized 1 s)
    (cond (starts_with (0xd0 ∷ []) s) (sized 4 s)
    (refuse 6)))

-- 00 and a ulong, which names a type: its number, and where it ends
unfoldable pub descriptor : List ℕ → Verdict (ℕ × ℕ)
descriptor s =
    require 6 (starts_with (0 ∷ []) s && starts_with (0x80 ∷ 0x53 ∷ 0x44 ∷ []) (drop 1 s)) (λ _.
    and_then (value_end 1 (drop 1 s)) (λ n.
    accept (number_of (take n (drop 1 s)), 1 + n)))

pub record Described : Type 0 where
  pub code : ℕ
  pub count : ℕ
  pub from : ℕ
  pub end : ℕ

abbrev pub described_by : ℕ × ℕ → Items → Described
described_by d l = record { code = d.0; count = l.count; from = d.1 + l.from; end = d.1 + l.end }

-- a descriptor and a list: the descriptor's number, and the list's values by their places in s
unfoldable pub described : List ℕ → Verdict Described
described s =
    and_then (descriptor s) (λ d.
    and_then (list_at (drop d.1 s)) (λ l.
    accept (described_by d l)))

-- the values of a list, one after the other, at most d levels deep; they fill it
unfoldable pub split : ℕ → ℕ → List ℕ → Verdict (List (List ℕ))
split d zero [] = accept []
split d zero (b ∷ s) = refuse 6
split d (suc k) s =
    and_then (value_end d s) (λ n.
    and_then (split d k (drop n s)) (λ fs.
    accept (take n s ∷ fs)))

abbrev pub items_of : Described → List ℕ → List ℕ
items_of d s = take (d.end - d.from) (drop d.from s)

-- ---- fields

-- descriptor 29 with one to three fields, the first a symbol
unfoldable pub error_shape : List ℕ → Verdict Described → Bool
error_shape f (refuse k) = false
error_shape f (accept d) = eqb d.code 29 && (leb 1 d.count && (leb d.count 3 && starts_with (0xa3 ∷ 0xb3 ∷ []) (items_of d f)))

unfoldable pub is_error : List ℕ → Bool
is_error f = error_shape f (described f)

-- whether a value that is not null has the type of its field
unfoldable pub has_type : FieldType → List ℕ → Bool
has_type Any f = true
has_type UShort f = starts_with (0x60 ∷ []) f
has_type UInt f = starts_with (0x70 ∷ 0x52 ∷ 0x43 ∷ []) f
has_type String f = starts_with (0xa1 ∷ 0xb1 ∷ []) f
has_type Error f = is_error f

unfoldable pub fits : FieldType → Bool → List ℕ → Bool
fits t mandatory f = cond (is_null f) (not mandatory) (has_type t f)

-- every field by its row; those that are missing are null, and there are no more than the rows
unfoldable pub fit : List Field → List (List ℕ) → Bool
fit [] [] = true
fit [] (f ∷ fs) = false
fit (r ∷ rows) [] = fits r.type r.mandatory null && fit rows []
fit (r ∷ rows) (f ∷ fs) = fits r.type r.mandatory f && fit rows fs

-- the fields in the bytes of a list, by their rows
unfoldable pub fields_by : List Field → ℕ → List ℕ → Verdict (List (List ℕ))
fields_by rows count s = and_then (split 16 count s) (λ fs. require 6 (fit rows fs) (λ _. accept fs))

-- ---- a performative

-- which it is, its fields as their bytes, where these begin, and where it ends
pub record Performative : Type 0 where
  pub code : ℕ
  pub fields : List (List ℕ)
  pub from : ℕ
  pub end : ℕ

unfoldable pub rows_for : Option (List Field) → Verdict (List Field)
rows_for None = refuse 6
rows_for (Some rows) = accept rows

-- the performative whose fields are the bytes of a described list
unfoldable pub performative_by : Described → List ℕ → Verdict Performative
performative_by d items =
    and_then (rows_for (fields_of d.code)) (λ rows.
    and_then (fields_by rows d.count items) (λ fs.
    accept (record { code = d.code; fields = fs; from = d.from; end = d.end })))

-- at the front of s; what stands after it is not looked at
unfoldable pub performative : List ℕ → Verdict Performative
performative s = and_then (described s) (λ d. performative_by d (items_of d s))

-- ---- what the fields say

abbrev pub field : ℕ → Performative → List ℕ
field i p = get_or p.fields i null

-- a number, or another in the place of null
unfoldable pub number_or : ℕ → List ℕ → ℕ
number_or n f = cond (is_null f) n (number_of f)

abbrev pub max_frame_size : Performative → ℕ
max_frame_size p = number_or 4294967295 (field 2 p)

abbrev pub channel_max : Performative → ℕ
channel_max p = number_or 65535 (field 3 p)

-- zero counts as none
abbrev pub idle_time_out : Performative → ℕ
idle_time_out p = number_or 0 (field 4 p)

abbrev pub when_not : Bool → List ℕ → List ℕ
when_not true l = []
when_not false l = l

-- a Begin's remote-channel, if it has one
unfoldable pub remote_channel : Performative → List ℕ
remote_channel p = when_not (is_null (field 0 p)) (number_of (field 0 p) ∷ [])

-- where the i-th field begins
unfoldable pub start_of : ℕ → List (List ℕ) → ℕ
start_of zero fs = 0
start_of (suc i) [] = 0
start_of (suc i) (f ∷ fs) = length f + start_of i fs

-- the bytes of a symbol or a string at the front of s: where they begin and how many there are
abbrev pub text_at : ℕ → List ℕ → List ℕ
text_at at s =
    cond (starts_with (0xa1 ∷ 0xa3 ∷ []) s) ((at + 2) ∷ big_endian (take 1 (drop 1 s)) ∷ []) ((at + 5) ∷ big_endian (take 4 (drop 1 s)) ∷ [])

-- the place of an error's condition, whose field begins at `at`
unfoldable pub condition_at : ℕ → List ℕ → Verdict Described → List ℕ
condition_at at f (refuse k) = []
condition_at at f (accept d) = text_at (at + d.from) (items_of d f)

-- the condition of the error in field i, if there is one
unfoldable pub condition : ℕ → Performative → List ℕ
condition i p = when_not (is_null (field i p)) (condition_at (p.from + start_of i p.fields) (field i p) (described (field i p)))

-- what the layers above learn of a performative: document 01's number of its kind, where it ends, and by kind
-- Open: max-frame-size, channel-max, idle-time-out; Begin: remote-channel if any; Detach, End, Close: place and length of an error's condition if any
pub record Said : Type 0 where
  pub code : ℕ
  pub end : ℕ
  pub values : List ℕ

unfoldable pub values_in : List (ℕ × (Performative → List ℕ)) → Performative → List ℕ
values_in [] p = []
values_in (row ∷ rows) p = cond (eqb p.code row.0) (row.1 p) (values_in rows p)

unfoldable pub values_of : Performative → List ℕ
values_of =
    values_in
    ((16, λ p. max_frame_size p ∷ channel_max p ∷ idle_time_out p ∷ [])
    ∷ (17, remote_channel)
    ∷ (22, condition 2)
    ∷ (23, condition 0)
    ∷ (24, condition 0)
    ∷ [])

abbrev pub said : Performative → Said
said p = record { code = p.code; end = p.end; values = values_of p }

unfoldable pub performative_said : List ℕ → Verdict Said
performative_said s = and_then (performative s) (λ p. accept (said p))
