-- The fields of a performative that was read are written as whole values of their types with the same meaning, and once written they are written as they stand.
-- Assumes nothing.
use mathlib.Core.Path.{◌≡◌, refl, sym, ap, ◌∙◌}
use mathlib.Core.Bool.{Bool, true, false, ◌&&◌, false≢true}
use mathlib.Core.List.{List, [], ◌∷◌}
use Rattle.std.specs.Prelude.{Option, None, Some}
use Prim.Native.Nat.{ℕ, suc, ◌^◌, ◌<◌, ◌≤◌}
use native.Mathlib.Omega.{arith}
use lib.ListN.{length}
use lib.Dec.{leb, ltb, eqb}
use borrow.Author.Tests.{ltb-true, leb-true}
use Rattle.octets.specs.Octets.{starts_with}
use Rattle.values.specs.Null.{null, is_null}
use Rattle.values.proofs.Written.{Whole, Each}
use Rattle.serializer.specs.Written.{uint, ushort, joined, before, trimmed}
use Rattle.performatives.specs.Fields.{FieldType, Any, UShort, UInt, String, Error, Field, performatives, fields_in, fields_of}
use Rattle.performatives.specs.Performative.{number_of, has_type, fits, fit}
use Rattle.session_frame.specs.Session.{text_of, shortest, default_of, written_as, written_field, written_fields}
use Rattle.codec.specs.Meaning.{Octets, Meaning, number, meant_as, default_meant, meant, meanings}
use Rattle.codec.proofs.Splits.{octets_front, octets_back}
use Rattle.codec.proofs.Trimmed.{and_was, missing, trimmed_few, trimmed_each, trimmed_fit, trimmed_bound}
use Rattle.codec.proofs.Values.{fits_present, null_whole, uint_whole, uint_number, uint_typed, uint_present, ushort_whole, ushort_number, ushort_typed, ushort_present, string_present}
use Rattle.codec.proofs.Shortest.{Shortened, any_shortest, ushort_shortest, uint_shortest, string_shortest, ushort_low, uint_low}
use Rattle.codec.proofs.Errors.{error_present, error_shortest}

-- ---- the rows

-- a default is a number of its type
default_fits : FieldType → Option ℕ → Bool
default_fits t None = true
default_fits Any (Some n) = false
default_fits UShort (Some n) = ltb n 65536
default_fits UInt (Some n) = ltb n 4294967296
default_fits String (Some n) = false
default_fits Error (Some n) = false

defaults_fit : List Field → Bool
defaults_fit [] = true
defaults_fit (r ∷ rows) = default_fits r.type r.default && defaults_fit rows

-- few rows, with such defaults
good : List Field → Bool
good rows = leb (length rows) 255 && defaults_fit rows

all_good : List (ℕ × List Field) → Bool
all_good [] = true
all_good (row ∷ rows) = good row.1 && all_good rows

rows_good_in : (table : List (ℕ × List Field)) (code : ℕ) (rows : List Field) → all_good table ≡ true → fields_in table code ≡ Some rows → good rows ≡ true
unfolding all_good fields_in
rows_good_in [] code rows g e = let z : ◌≡◌ {A = ℕ} 0 1 = cc in absurd (omega arith)
rows_good_in (row ∷ table) code rows g e =
    let h = and_was (good row.1) (all_good table) g in
    go (eqb code row.0) refl h.0 (rows_good_in table code rows h.1)
  where
    go : (b : Bool) → eqb code row.0 ≡ b → good row.1 ≡ true → (fields_in table code ≡ Some rows → good rows ≡ true) → good rows ≡ true
    go true p g k = let q : row.1 ≡ rows = (let x : Some row.1 ≡ Some rows = (rw p at e) in cc) in rw q at g
    go false p g k = k (rw p at e)

rows_good : (code : ℕ) (rows : List Field) → fields_of code ≡ Some rows → good rows ≡ true
unfolding fields_of all_good good defaults_fit default_fits
rows_good code rows e = rows_good_in performatives code rows refl e

-- ---- a field

abbrev pub Low : List ℕ → Type 0
Low w = is_null w ≡ false → length w < 256 ^ 4

-- w is written for f
record Again (r : Field) (f w : List ℕ) : Type 0 where
  whole : Whole 16 w
  fine : fits r.type r.mandatory w ≡ true
  same : written_field r w ≡ w
  means : meant r w ≡ meant r f

-- what is written and meant
null_first : is_null null ≡ true
unfolding starts_with
null_first = refl

written_null : (r : Field) (f : List ℕ) → is_null f ≡ true → written_field r f ≡ default_of r.type r.default
unfolding written_as
written_null r f e = rw e

meant_null : (r : Field) (f : List ℕ) → is_null f ≡ true → meant r f ≡ default_meant r.default
unfolding meant
meant_null r f e = rw e

written_value : (r : Field) (f : List ℕ) → is_null f ≡ false → written_field r f ≡ shortest r.type f
unfolding written_as
written_value r f e = rw e

meant_value : (r : Field) (f : List ℕ) → is_null f ≡ false → meant r f ≡ meant_as r.type f
unfolding meant
meant_value r f e = rw e

-- null
default_again : (t : FieldType) (m : Bool) (o : Option ℕ) (f : List ℕ) → is_null f ≡ true → fits t m f ≡ true → default_fits t o ≡ true → Again (record { type = t; mandatory = m; default = o }) f (default_of t o)
unfolding meant_as shortest default_fits
default_again t m None f e q d =
    let r : Field = record { type = t; mandatory = m; default = None } in
    record { whole = null_whole 15; fine = missing r f e q; same = written_null r null null_first; means = meant_null r null null_first ∙ sym (meant_null r f e) }
default_again Any m (Some n) f e q d = absurd (false≢true d)
default_again UShort m (Some n) f e q d =
    let r : Field = record { type = UShort; mandatory = m; default = Some n } in
    let k : number_of (ushort n) ≡ n = ushort_number n (ltb-true _ _ d) in
    record { whole = ushort_whole n 15; fine = fits_present UShort m (ushort n) (ushort_present n) (ushort_typed n); same = written_value r (ushort n) (ushort_present n) ∙ ap ushort k; means = meant_value r (ushort n) (ushort_present n) ∙ ap number k ∙ sym (meant_null r f e) }
default_again UInt m (Some n) f e q d =
    let r : Field = record { type = UInt; mandatory = m; default = Some n } in
    let k : number_of (uint n) ≡ n = uint_number n (ltb-true _ _ d) in
    record { whole = uint_whole n 15; fine = fits_present UInt m (uint n) (uint_present n) (uint_typed n); same = written_value r (uint n) (uint_present n) ∙ ap uint k; means = meant_value r (uint n) (uint_present n) ∙ ap number k ∙ sym (meant_null r f e) }
default_again String m (Some n) f e q d = absurd (false≢true d)
default_again Error m (Some n) f e q d = absurd (false≢true d)

-- any other value
shortest_present : (t : FieldType) (f : List ℕ) → is_null f ≡ false → Whole 16 f → has_type t f ≡ true → is_null (shortest t f) ≡ false
unfolding shortest
shortest_present Any f e w h = e
shortest_present UShort f e w h = ushort_present (number_of f)
shortest_present UInt f e w h = uint_present (number_of f)
shortest_present String f e w h = string_present (text_of f)
shortest_present Error f e w h = error_present f w h

shortened : (t : FieldType) (f : List ℕ) → is_null f ≡ false → Whole 16 f → has_type t f ≡ true → Octets f → length (shortest t f) < 256 ^ 4 → Shortened t f
shortened Any f e w h o low = any_shortest f e w
shortened UShort f e w h o low = ushort_shortest f (ushort_low 15 f h w o)
shortened UInt f e w h o low = uint_shortest f (uint_low 15 f h w o)
shortened String f e w h o low = string_shortest f low
shortened Error f e w h o low = error_shortest f w h low

value_again : (r : Field) (f : List ℕ) → is_null f ≡ false → Shortened r.type f → Again r f (shortest r.type f)
value_again r f e s =
    record {
      whole = s.whole;
      fine = fits_present r.type r.mandatory (shortest r.type f) s.present s.typed;
      same = written_value r (shortest r.type f) s.present ∙ s.same;
      means = meant_value r (shortest r.type f) s.present ∙ s.means ∙ sym (meant_value r f e);
    }

field_again : (r : Field) (f : List ℕ) → default_fits r.type r.default ≡ true → Whole 16 f → fits r.type r.mandatory f ≡ true → Octets f → Low (written_field r f) → Again r f (written_field r f)
unfolding fits
field_again r f d w q o low = go (is_null f) refl
  where
    go : (b : Bool) → is_null f ≡ b → Again r f (written_field r f)
    go true e = rw (written_null r f e) (default_again r.type r.mandatory r.default f e q d)
    go false e =
        let h : has_type r.type f ≡ true = rw e at q in
        let l : Low (shortest r.type f) = rw (written_value r f e) at low in
        rw (written_value r f e) (value_again r f e (shortened r.type f e w h o (l (shortest_present r.type f e w h))))

-- ---- the fields by their rows

record AllAgain (rows : List Field) (fs : List (List ℕ)) : Type 0 where
  whole : Each (Whole 16) (written_fields rows fs)
  fine : fit rows (written_fields rows fs) ≡ true
  same : written_fields rows (written_fields rows fs) ≡ written_fields rows fs
  means : meanings rows (written_fields rows fs) ≡ meanings rows fs

fields_again : (rows : List Field) (fs : List (List ℕ)) → defaults_fit rows ≡ true → Each (Whole 16) fs → fit rows fs ≡ true → Octets (joined fs) → Each Low (written_fields rows fs) → AllAgain rows fs
unfolding defaults_fit fit written_fields meanings joined
fields_again [] [] d w q o low = record { whole = tt; fine = refl; same = refl; means = refl }
fields_again [] (f ∷ fs) d w q o low = absurd (false≢true q)
fields_again (r ∷ rows) [] d w q o low =
    let dd = and_was _ _ d in
    let qq = and_was _ _ q in
    let a : Again r null (written_field r null) = field_again r null dd.0 (null_whole 15) qq.0 (omega arith, tt) low.0 in
    let b : AllAgain rows [] = fields_again rows [] dd.1 tt qq.1 tt low.1 in
    record { whole = (a.whole, b.whole); fine = rw a.fine b.fine; same = rw (a.same, b.same); means = rw (a.means, b.means) }
fields_again (r ∷ rows) (f ∷ fs) d w q o low =
    let dd = and_was _ _ d in
    let qq = and_was _ _ q in
    let a : Again r f (written_field r f) = field_again r f dd.0 w.0 qq.0 (octets_front f (joined fs) o) low.0 in
    let b : AllAgain rows fs = fields_again rows fs dd.1 w.1 qq.1 (octets_back f (joined fs) o) low.1 in
    record { whole = (a.whole, b.whole); fine = rw a.fine b.fine; same = rw (a.same, b.same); means = rw (a.means, b.means) }

-- ---- trailing nulls dropped

-- a missing field is written as null is, and means what null means
written_trimmed : (rows : List Field) (gs : List (List ℕ)) → fit rows gs ≡ true → written_fields rows (trimmed gs) ≡ written_fields rows gs
unfolding trimmed fit written_fields
written_trimmed rows [] q = refl
written_trimmed [] (g ∷ gs) q = absurd (false≢true q)
written_trimmed (r ∷ rows) (g ∷ gs) q = go (is_null g) refl (trimmed gs) (written_trimmed rows gs (and_was (fits r.type r.mandatory g) (fit rows gs) q).1)
  where
    go : (b : Bool) → is_null g ≡ b → (hs : List (List ℕ)) → written_fields rows hs ≡ written_fields rows gs → written_fields (r ∷ rows) (before b g hs) ≡ written_field r g ∷ written_fields rows gs
    go true p [] k = rw k (ap (λ (w : List ℕ). w ∷ written_fields rows gs) (written_null r null null_first ∙ sym (written_null r g p)))
    go false p [] k = rw k
    go true p (h ∷ hs) k = rw k
    go false p (h ∷ hs) k = rw k

meant_trimmed : (rows : List Field) (gs : List (List ℕ)) → fit rows gs ≡ true → meanings rows (trimmed gs) ≡ meanings rows gs
unfolding trimmed fit meanings
meant_trimmed rows [] q = refl
meant_trimmed [] (g ∷ gs) q = absurd (false≢true q)
meant_trimmed (r ∷ rows) (g ∷ gs) q = go (is_null g) refl (trimmed gs) (meant_trimmed rows gs (and_was (fits r.type r.mandatory g) (fit rows gs) q).1)
  where
    go : (b : Bool) → is_null g ≡ b → (hs : List (List ℕ)) → meanings rows hs ≡ meanings rows gs → meanings (r ∷ rows) (before b g hs) ≡ meant r g ∷ meanings rows gs
    go true p [] k = rw k (ap (λ (w : Meaning). w ∷ meanings rows gs) (meant_null r null null_first ∙ sym (meant_null r g p)))
    go false p [] k = rw k
    go true p (h ∷ hs) k = rw k
    go false p (h ∷ hs) k = rw k

written_count : (rows : List Field) (fs : List (List ℕ)) → length (written_fields rows fs) ≡ length rows
unfolding written_fields
written_count [] fs = refl
written_count (r ∷ rows) [] = ap suc (written_count rows [])
written_count (r ∷ rows) (f ∷ fs) = ap suc (written_count rows fs)

-- ---- the fields of a performative

-- gs are the fields as they are written
pub record Rewritten (rows : List Field) (fs gs : List (List ℕ)) : Type 0 where
  pub few : length gs < 256
  pub whole : Each (Whole 16) gs
  pub fine : fit rows gs ≡ true
  pub same : trimmed (written_fields rows gs) ≡ gs
  pub means : meanings rows gs ≡ meanings rows fs

pub rewritten : (code : ℕ) (rows : List Field) (fs : List (List ℕ)) → fields_of code ≡ Some rows → Each (Whole 16) fs → fit rows fs ≡ true → Octets (joined fs) → length (joined (trimmed (written_fields rows fs))) < 256 ^ 4 → Rewritten rows fs (trimmed (written_fields rows fs))
unfolding good
rewritten code rows fs e w q o low =
    let ws : List (List ℕ) = written_fields rows fs in
    let g = and_was (leb (length rows) 255) (defaults_fit rows) (rows_good code rows e) in
    let n : length rows ≤ 255 = leb-true _ _ g.0 in
    let a : AllAgain rows fs = fields_again rows fs g.1 w q o (trimmed_bound (256 ^ 4) ws low) in
    record {
      few = omega (arith, trimmed_few ws, written_count rows fs);
      whole = trimmed_each (Whole 16) ws a.whole;
      fine = trimmed_fit rows ws a.fine;
      same = ap trimmed (written_trimmed rows ws a.fine ∙ a.same);
      means = meant_trimmed rows ws a.fine ∙ a.means;
    }
