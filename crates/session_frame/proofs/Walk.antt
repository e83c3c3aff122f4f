-- Fields one after the other, by their rows: what is kept of them, and how they are laid.
-- Assumes nothing.
use mathlib.Core.Path.{◌≡◌, refl, sym, ap, ◌∙◌}
use mathlib.Core.Bool.{Bool, true, false, cond}
use mathlib.Core.List.{List, [], ◌∷◌, ◌++◌}
use Rattle.std.specs.Prelude.{Option, None, Some}
use Prim.Native.Nat.{ℕ, zero, suc, ◌+◌, ◌*◌, ◌-◌, ◌^◌, ◌<◌, ◌≤◌}
use native.Mathlib.Omega.{arith}
use mir.Syntax.{w64}
use mir.Val.{Fits}
use lib.ListN.{length, take, drop, length-append, length-take, length-drop}
use lib.Seq.{length-take-le, take-nil}
use lib.Dec.{leb, eqb}
use borrow.Author.Tests.{leb-true, leb-false, eqb-true, eqb-false}
use Rattle.octets.specs.Verdict.{Verdict, refuse, accept, and_then}
use Rattle.octets.specs.Octets.{bytes_of, put}
use Rattle.octets.proofs.Laws.{put_put, put_nothing, length_put}
use Rattle.values.specs.Value.{value_end}
use Rattle.values.specs.Null.{is_null, or_null}
use Rattle.values.proofs.Laws.{value_within}
use Rattle.serializer.specs.Written.{uint, ushort, text, joined, trimmed, composite_header, composite}
use Rattle.serializer.proofs.Laws.{uint_len_none, uint_len_small, uint_len_large}
use Rattle.performatives.specs.Fields as D
use Rattle.performatives.specs.Fields.{Field, field_at}
use Rattle.performatives.specs.Performative.{number_of, Described, described, split, items_of}
use Rattle.performatives.specs.declared.FieldType as C
use Rattle.performatives.specs.Answers.{type_says}
use Rattle.session_frame.specs.declared.field.Size.{Size}
use Rattle.session_frame.specs.declared.field.Kept.{Kept}
use Rattle.session_frame.specs.Session.{text_of, error_fields, with_condition, error_of, shortest, default_of, written_as, written_field}
use Rattle.session_frame.specs.Parts.{end_or, first_len, first, fields_from, written_from, Sized, Checked, size_of, kept_of, kept_before, Room}
use Rattle.session_frame.proofs.Trim.{kept_before_lem, kept_none, trimmed_few, trimmed_short}
use Rattle.session_frame.proofs.Steps.{rest, rest_is}
use Rattle.session_frame.proofs.Split.{split_joined}
use Rattle.session_frame.proofs.Errors.{text_length, text_short, header_length}
use Rattle.session_frame.proofs.Below.{from_some, from_few, from_none, rows_left}

-- ---- how long a field may be

uint_length : (n : ℕ) → length (uint n) ≤ 5
uint_length n = go (eqb n 0) (leb n 255) refl refl
  where
    go : (a b : Bool) → eqb n 0 ≡ a → leb n 255 ≡ b → length (uint n) ≤ 5
    go true b p q = omega (arith, uint_len_none n (eqb-true _ _ p))
    go false true p q = omega (arith, uint_len_small n (eqb-false _ _ p) (leb-true _ _ q))
    go false false p q = omega (arith, uint_len_large n (eqb-false _ _ p) (leb-false _ _ q))

ushort_length : (n : ℕ) → length (ushort n) ≤ 5
unfolding ushort bytes_of
ushort_length n = omega arith

condition_short : (fs : List (List ℕ)) → length (joined (with_condition fs)) ≤ length (joined fs) + 5
unfolding joined
condition_short [] = omega arith
condition_short (c ∷ fs) =
    omega (arith, length-append (text 163 (text_of c)) (joined fs), length-append c (joined fs), text_length 163 (text_of c), text_short c)

composite_short : (code : ℕ) (fs : List (List ℕ)) → length (composite code fs) ≤ length (joined fs) + 12
unfolding composite
composite_short code fs =
    omega (arith, length-append (composite_header code (length (trimmed fs)) (length (joined (trimmed fs)))) (joined (trimmed fs)), header_length code (length (trimmed fs)) (length (joined (trimmed fs))), trimmed_short fs)

error_short_at : (f : List ℕ) (d : Described) (v : Verdict (List (List ℕ))) → described f ≡ accept d → split 14 d.count (items_of d f) ≡ v → length (error_of v) ≤ length f + 17
error_short_at f d (refuse k) e q = omega arith
error_short_at f d (accept fs) e q =
    let j : length (joined fs) ≡ length (items_of d f) = ap length (split_joined 14 d.count (items_of d f) fs q) in
    let l : length (items_of d f) ≤ length (drop d.from f) = omega (arith, length-take (d.end - d.from) (drop d.from f)) in
    omega (arith, composite_short 29 (with_condition fs), condition_short fs, length-drop d.from f)

error_short : (f : List ℕ) (v : Verdict Described) → described f ≡ v → length (error_of (error_fields f v)) ≤ length f + 17
unfolding error_fields and_then
error_short f (refuse k) e = omega arith
error_short f (accept d) e = error_short_at f d (split 14 d.count (items_of d f)) e refl

shortest_length : (t : D.FieldType) (f : List ℕ) → length (shortest t f) ≤ length f + 17
unfolding shortest
shortest_length D.Any f = omega arith
shortest_length D.UShort f = omega (arith, ushort_length (number_of f))
shortest_length D.UInt f = omega (arith, uint_length (number_of f))
shortest_length D.String f = omega (arith, text_length 161 (text_of f), text_short f)
shortest_length D.Error f = error_short f (described f) refl

default_length : (t : D.FieldType) (default : Option ℕ) → length (default_of t default) ≤ 5
default_length D.Any None = omega arith
default_length D.UShort None = omega arith
default_length D.UInt None = omega arith
default_length D.String None = omega arith
default_length D.Error None = omega arith
default_length D.Any (Some n) = omega arith
default_length D.UShort (Some n) = ushort_length n
default_length D.UInt (Some n) = uint_length n
default_length D.String (Some n) = omega arith
default_length D.Error (Some n) = omega arith

pub written_length : (t : D.FieldType) (default : Option ℕ) (f : List ℕ) → length (written_as t default f) ≤ length f + 17
unfolding written_as
written_length t default f = go (is_null f)
  where
    go : (b : Bool) → length (cond b (default_of t default) (shortest t f)) ≤ length f + 17
    go true = omega (arith, default_length t default)
    go false = shortest_length t f

-- ---- the first field

end_within : (s : List ℕ) (v : Verdict ℕ) → value_end 16 s ≡ v → end_or 0 v ≤ length s
end_within s (refuse k) e = omega arith
end_within s (accept n) e = value_within 16 s n e

first_within : (count : ℕ) (s : List ℕ) → first_len count s ≤ length s
unfolding first_len
first_within zero s = omega arith
first_within (suc k) s = end_within s (value_end 16 s) refl

pub first_in : (count : ℕ) (s : List ℕ) (n : ℕ) → n ≡ first_len count s → n ≤ length s
first_in count s n e = omega (arith, first_within count s)

pub first_counts : (count : ℕ) (s : List ℕ) (n : ℕ) → n ≡ first_len count s → n ≡ length (take n s)
first_counts count s n e = sym (length-take-le n s (first_in count s n e))

or_length : (f : List ℕ) → length (or_null f) ≤ length f + 1
or_length [] = omega arith
or_length (b ∷ f) = omega arith

-- ---- all fields

pub from_length : (rows : List Field) (count : ℕ) (s : List ℕ) → length (joined (written_from rows count s)) ≤ length s + 18 * length rows
unfolding written_from joined first
from_length [] count s = omega arith
from_length (r ∷ rows) count s =
    let w : List ℕ = written_field r (or_null (take (first_len count s) s)) in
    let a : length (written_field r (or_null (take (first_len count s) s))) ≤ length (or_null (take (first_len count s) s)) + 17 = written_length r.type r.default (or_null (take (first_len count s) s)) in
    let b : length (or_null (take (first_len count s) s)) ≤ first_len count s + 1 = omega (arith, or_length (take (first_len count s) s), length-take (first_len count s) s) in
    omega (arith, length-append (written_field r (or_null (take (first_len count s) s))) (joined (written_from rows (count - 1) (drop (first_len count s) s))), from_length rows (count - 1) (drop (first_len count s) s), length-drop (first_len count s) s, first_within count s)

pub from_count : (rows : List Field) (count : ℕ) (s : List ℕ) → length (written_from rows count s) ≡ length rows
unfolding written_from
from_count [] count s = refl
from_count (r ∷ rows) count s = ap suc (from_count rows (count - 1) (drop (first_len count s) s))

-- ---- a row, its field, and the fields after it

module _ (code i : ℕ) where
  past : None ≡ field_at code i → fields_from code i ≡ []
  past e = from_none code i (sym e)

  pub trim_none : (count : ℕ) (s : List ℕ) → None ≡ field_at code i → record { count = 0; len = 0 } ≡ kept_of (trimmed (written_from (fields_from code i) count s))
  unfolding written_from
  trim_none count s q = rw (past q) kept_none

  module _ (kind : C.FieldType) (m : Bool) (default : Option ℕ) (e : Some (record { type = type_says kind; mandatory = m; default = default }) ≡ field_at code i) where
    abbrev this : Field
    this = record { type = type_says kind; mandatory = m; default = default }

    is_this : field_at code i ≡ Some this
    is_this = sym e

    rows_are : fields_from code i ≡ this ∷ fields_from code (i + 1)
    rows_are = from_some code i this is_this

    pub row_fits : Fits w64 (i + 1)
    row_fits = omega (arith, from_few code i this is_this)

    pub fewer_rows : (t : ℕ) → length (fields_from code i) ≡ t → length (fields_from code (i + 1)) < t
    fewer_rows t h = omega (arith, ap length rows_are)

    module _ (count : ℕ) (s : List ℕ) where
      from_is : written_from (fields_from code i) count s ≡ written_field this (first count s) ∷ written_from (fields_from code (i + 1)) (count - 1) (drop (first_len count s) s)
      unfolding written_from
      from_is = rw rows_are

      module _ (z : Checked (fields_from code i) count s) where
        checked : Sized (type_says kind) (first count s) × Checked (fields_from code (i + 1)) (count - 1) (drop (first_len count s) s)
        unfolding Checked
        checked = rw rows_are at z

        module _ (n : ℕ) (h : n ≡ first_len count s) where
          pub head_sized : Sized (type_says kind) (or_null (take n s))
          unfolding first
          head_sized = rw h checked.0

          pub tail_checked : (k : ℕ) → k ≡ count - 1 → Checked (fields_from code (i + 1)) k (rest s n)
          tail_checked k g = rw (rest_is s n, h, g) checked.1

      module _ (n : ℕ) (h : n ≡ first_len count s) (k : ℕ) (g : k ≡ count - 1) where
        steps_are : written_from (fields_from code i) count s ≡ written_as (type_says kind) default (or_null (take n s)) ∷ written_from (fields_from code (i + 1)) k (rest s n)
        unfolding first
        steps_are = from_is ∙ rw (rest_is s n, h, g)

        module _ (f : Size) (fe : f ≡ size_of (written_as (type_says kind) default (or_null (take n s)))) (r : Kept) (re : r ≡ kept_of (trimmed (written_from (fields_from code (i + 1)) k (rest s n)))) where
          pub kept_count : r.count + 1 < 2 ^ 64
          unfolding kept_of
          kept_count =
              let ws : List (List ℕ) = written_from (fields_from code (i + 1)) k (rest s n) in
              rw re (omega (arith, trimmed_few (written_from (fields_from code (i + 1)) k (rest s n)), from_count (fields_from code (i + 1)) k (rest s n), rows_left code (i + 1)))

          pub kept_len : length s * 1 < 2 ^ 63 → r.len + f.len < 2 ^ 64
          unfolding kept_of size_of
          kept_len l =
              let a : length (or_null (take n s)) ≤ n + 1 = omega (arith, or_length (take n s), length-take n s) in
              let b : length (rest s n) ≡ length s - n = ap length (rest_is s n) ∙ length-drop n s in
              rw (re, fe) (omega (arith, trimmed_short (written_from (fields_from code (i + 1)) k (rest s n)), from_length (fields_from code (i + 1)) k (rest s n), rows_left code (i + 1), written_length (type_says kind) default (or_null (take n s)), first_in count s n h))

          pub trim_step : (t : Kept) → t ≡ kept_before f r → t ≡ kept_of (trimmed (written_from (fields_from code i) count s))
          trim_step t x = x ∙ rw (fe, re) (kept_before_lem _ _) ∙ ap (λ (l : List (List ℕ)). kept_of (trimmed l)) (sym steps_are)

      -- ---- the first `left` of them

      module _ (n : ℕ) (h : n ≡ first_len count s) (left : ℕ) (more : left ≡ 0 → ⊥) where
        abbrev written : List ℕ
        written = written_as (type_says kind) default (or_null (take n s))

        module _ (k : ℕ) (g : k ≡ count - 1) where
          abbrev others : List (List ℕ)
          others = take (left - 1) (written_from (fields_from code (i + 1)) k (rest s n))

          joined_are : joined (take left (written_from (fields_from code i) count s)) ≡ written ++ joined others
          unfolding joined
          joined_are = ap (λ (l : List (List ℕ)). joined (take left l)) (steps_are n h k g) ∙ go left more
            where
              go : (left : ℕ) → (left ≡ 0 → ⊥) → joined (take left (written ∷ written_from (fields_from code (i + 1)) k (rest s n))) ≡ written ++ joined (take (left - 1) (written_from (fields_from code (i + 1)) k (rest s n)))
              go zero x = absurd (x refl)
              go (suc j) x = let y : suc j - 1 ≡ j = omega arith in rw y

        module _ (d : List ℕ) (at : ℕ) (room : Room d at (joined (take left (written_from (fields_from code i) count s)))) where
          pub head_room : Room d at written
          head_room =
              let l : length (joined (take left (written_from (fields_from code i) count s))) ≡ length written + length (joined (others (count - 1) refl)) =
              ap length (joined_are (count - 1) refl) ∙ length-append written (joined (others (count - 1) refl)) in
              record { fits = omega (arith, room.fits); low = omega (arith, room.low) }

          module _ (o : List ℕ) (oe : o ≡ put d at written) (k : ℕ) (g : k ≡ count - 1) (next : ℕ) (ne : next ≡ at + length written) where
            whole : at + (length written + length (joined (others k g))) ≡ at + length (joined (take left (written_from (fields_from code i) count s)))
            whole = ap (λ (x : ℕ). at + x) (sym (ap length (joined_are k g) ∙ length-append written (joined (others k g))))

            pub tail_room : Room o next (joined (others k g))
            tail_room =
                let l : length o ≡ length d = ap length oe ∙ length_put d at written in
                record { fits = omega (arith, room.fits, whole); low = omega (arith, room.low, whole) }

            pub fields_laid : (o₂ : List ℕ) → o₂ ≡ put o next (joined (others k g)) → o₂ ≡ put d at (joined (take left (written_from (fields_from code i) count s)))
            fields_laid o₂ x =
                x ∙ rw (oe, ne) (put_put written (joined (others k g)) d at (omega (arith, room.fits, whole)) ∙ ap (put d at) (sym (joined_are k g)))

pub fields_none : (d : List ℕ) (at left : ℕ) (ws : List (List ℕ)) → left ≡ 0 → d ≡ put d at (joined (take left ws))
unfolding joined
fields_none d at left ws e = rw e (sym (put_nothing d at))

pub fields_past : (code i : ℕ) → None ≡ field_at code i → (d : List ℕ) (at left count : ℕ) (s : List ℕ) → d ≡ put d at (joined (take left (written_from (fields_from code i) count s)))
unfolding joined written_from
fields_past code i e d at left count s = rw (past code i e, take-nil left) (sym (put_nothing d at))
