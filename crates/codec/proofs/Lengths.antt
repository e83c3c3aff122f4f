-- How long a session's frame is that is written out: at most twice as long as it was lent. No value grows in its shortest form; only defaults are added, and with them
-- the list's header may grow. The result is `session_short`.
-- Assumes nothing.
use mathlib.Core.Path.{◌≡◌, refl, sym, ap, ◌∙◌}
use mathlib.Core.Bool.{Bool, true, false, cond, not, ◌&&◌, ◌||◌, false≢true}
use mathlib.Core.Logic.{◌⊎◌, inl, inr}
use mathlib.Core.List.{List, [], ◌∷◌, ◌++◌, append-nil}
use Rattle.std.specs.Prelude.{Some}
use Prim.Native.Nat.{ℕ, zero, suc, ◌+◌, ◌*◌, ◌-◌, ◌^◌, ◌<◌, ◌≤◌}
use native.Mathlib.Omega.{arith}
use lib.ListN.{length, take, drop, length-append, length-drop}
use lib.Seq.{length-take-le}
use lib.Dec.{leb, eqb}
use borrow.Author.Tests.{leb-true, leb-false, eqb-true, eqb-false}
use Rattle.octets.specs.Verdict.{Verdict, refuse, accept, and_then}
use Rattle.octets.specs.Octets.{big_endian, big_endian_from, bytes_of, starts_with}
use Rattle.octets.proofs.Laws.{require_was, length_bytes_of}
use Rattle.values.specs.Value.{list, fixed, variable, codes, kind_in, kind_of, opening, value_end}
use Rattle.values.specs.Null.{is_null}
use Rattle.values.proofs.Apart.{accepted, never, then_was, number_was, opening_was}
use Rattle.values.proofs.Laws.{value_some, value_fixed, value_variable}
use Rattle.values.proofs.Written.{Whole, Each}
use Rattle.serializer.specs.Written.{uint, ushort, text, joined, before, trimmed, composite_header, composite}
use Rattle.serializer.proofs.Laws.{uint_len_none, uint_len_small, text_len_short, text_len_long, header_len_none, header_len_small, header_few}
use Rattle.performatives.specs.Fields.{FieldType, Any, UShort, UInt, String, Error, Field, performatives, fields_in, fields_of}
use Rattle.performatives.specs.Performative.{number_of, Items, sized, list_at, descriptor, Described, described, split, items_of, error_shape, is_error, has_type, fits, fit, fields_by, Performative, performative}
use Rattle.performatives.proofs.Codes.{starts_some}
use Rattle.performatives.proofs.Bounds.{list_some, described_lies}
use Rattle.performatives.proofs.Laws as read
use Rattle.frame_decoder.specs.Frame.{Frame, body_in, any_size, any_channel, session_frame}
use Rattle.frame_decoder.proofs.Laws.{body_length, session_was, session_frame_lem, session_sendable}
use Rattle.frame_encoder.proofs.Laws.{length_frame}
use Rattle.session_frame.specs.Session.{text_of, error_fields, error_of, shortest, default_of, written_as, written_field, written_fields, performative_written, session_bytes}
use Rattle.codec.specs.Meaning.{Octets}
use Rattle.codec.proofs.Splits.{octets_take, octets_drop, octets_front, octets_back, octets_below, split_all}
use Rattle.codec.proofs.Trimmed.{and_was, or_was, trimmed_short}
use Rattle.codec.proofs.Values.{uint_short}

-- one of two
or_cases : (a b : Bool) → (a || b) ≡ true → (a ≡ true) ⊎ (b ≡ true)
or_cases true b e = inl refl
or_cases false b e = inr e

-- a whole value with nothing after it
alone : (d : ℕ) (f : List ℕ) → Whole d f → value_end d f ≡ accept (length f)
alone d f w = rw append-nil at (w [])

-- the number in the first w octets
number_low : (w : ℕ) (s : List ℕ) → Octets s → w ≤ length s → big_endian (take w s) < 256 ^ w
number_low w s o h =
    let l : length (take w s) ≡ w = length-take-le w s h in
    rw l at (octets_below (take w s) (octets_take w s o))

-- ---- numbers

-- a code of a fixed width: so many bytes after it, and a number that they hold
fixed_is : (d c w : ℕ) (s : List ℕ) → kind_of c ≡ accept (fixed w) → Whole (suc d) (c ∷ s) → Octets s → (length s ≡ w) × (number_of (c ∷ s) < 256 ^ w)
unfolding number_of
fixed_is d c w s k h o =
    let v = value_fixed d c w s (suc (length s)) k (alone (suc d) (c ∷ s) h) in
    let l : length s ≡ w = omega (arith, v.0) in
    (l, rw l at (octets_below s o))

ushort_kept : (d : ℕ) (f : List ℕ) → has_type UShort f ≡ true → Whole (suc d) f → Octets f → length (ushort (number_of f)) ≤ length f
unfolding has_type starts_with ushort kind_of kind_in codes
ushort_kept d [] e h o = absurd (false≢true e)
ushort_kept d (c ∷ s) e h o =
    let q : c ≡ 0x60 = eqb-true _ _ (or_was (eqb c 0x60) e) in
    omega (arith, (fixed_is d c 2 s (rw q refl) h o.1).0, length_bytes_of 2 (number_of (c ∷ s)))

uint_one : (n : ℕ) → n < 256 → length (uint n) ≤ 2
uint_one n h = go (eqb n 0) refl
  where
    go : (a : Bool) → eqb n 0 ≡ a → length (uint n) ≤ 2
    go true p = omega (arith, uint_len_none n (eqb-true _ _ p))
    go false p = omega (arith, uint_len_small n (eqb-false _ _ p) (omega arith))

uint_kept : (d : ℕ) (f : List ℕ) → has_type UInt f ≡ true → Whole (suc d) f → Octets f → length (uint (number_of f)) ≤ length f
unfolding has_type starts_with kind_of kind_in codes
uint_kept d [] e h o = absurd (false≢true e)
uint_kept d (c ∷ s) e h o = go (or_cases (eqb c 0x70) _ e)
  where
    third : c ≡ 0x43 → length (uint (number_of (c ∷ s))) ≤ suc (length s)
    third q =
        let a = fixed_is d c 0 s (rw q refl) h o.1 in
        omega (arith, uint_len_none (number_of (c ∷ s)) (omega (arith, a.1)))

    second : (eqb c 0x52 ≡ true) ⊎ ((eqb c 0x43 || false) ≡ true) → length (uint (number_of (c ∷ s))) ≤ suc (length s)
    second (inl x) =
        let q : c ≡ 0x52 = eqb-true _ _ x in
        let a = fixed_is d c 1 s (rw q refl) h o.1 in
        omega (arith, a.0, uint_one (number_of (c ∷ s)) (omega (arith, a.1)))
    second (inr x) = third (eqb-true _ _ (or_was (eqb c 0x43) x))

    go : (eqb c 0x70 ≡ true) ⊎ ((eqb c 0x52 || (eqb c 0x43 || false)) ≡ true) → length (uint (number_of (c ∷ s))) ≤ suc (length s)
    go (inl x) =
        let q : c ≡ 0x70 = eqb-true _ _ x in
        omega (arith, (fixed_is d c 4 s (rw q refl) h o.1).0, uint_short (number_of (c ∷ s)))
    go (inr x) = second (or_cases (eqb c 0x52) _ x)

-- ---- strings and symbols

text_most : (k : ℕ) (t : List ℕ) → length (text k t) ≤ 5 + length t
text_most k t = go (leb (length t) 255) refl
  where
    go : (b : Bool) → leb (length t) 255 ≡ b → length (text k t) ≤ 5 + length t
    go true e = omega (arith, text_len_short k t (leb-true _ _ e))
    go false e = omega (arith, text_len_long k t (leb-false _ _ e))

module _ (k d c : ℕ) (s : List ℕ) (h : Whole (suc d) (c ∷ s)) (o : Octets s) where
  text_one : kind_of c ≡ accept (variable 1) → starts_with (0xa1 ∷ 0xa3 ∷ []) (c ∷ s) ≡ true → length (text k (text_of (c ∷ s))) ≤ suc (length s)
  unfolding text_of
  text_one a b =
      let v = value_variable d c 1 s (suc (length s)) a (alone (suc d) (c ∷ s) h) in
      let n : big_endian (take 1 s) < 256 = number_low 1 s o (omega (arith, v.1)) in
      let l : length (drop 1 s) ≡ length s - 1 = length-drop 1 s in
      rw b (omega (arith, v.0, v.1, text_len_short k (drop 1 s) (omega (arith, v.0))))

  text_four : kind_of c ≡ accept (variable 4) → starts_with (0xa1 ∷ 0xa3 ∷ []) (c ∷ s) ≡ false → length (text k (text_of (c ∷ s))) ≤ suc (length s)
  unfolding text_of
  text_four a b =
      let v = value_variable d c 4 s (suc (length s)) a (alone (suc d) (c ∷ s) h) in
      rw b (omega (arith, v.1, length-drop 4 s, text_most k (drop 4 s)))

-- code is A1 or A3, and k the one that is written
text_kept : (k d code : ℕ) (f : List ℕ) → kind_of code ≡ accept (variable 1) → kind_of (code + 16) ≡ accept (variable 4) → starts_with (0xa1 ∷ 0xa3 ∷ []) (code ∷ []) ≡ true → starts_with (0xa1 ∷ 0xa3 ∷ []) ((code + 16) ∷ []) ≡ false
    → starts_with (code ∷ (code + 16) ∷ []) f ≡ true → Whole (suc d) f → Octets f → length (text k (text_of f)) ≤ length f
unfolding starts_with
text_kept k d code [] one four is-short is-long e h o = absurd (false≢true e)
text_kept k d code (c ∷ s) one four is-short is-long e h o = go (or_cases (eqb c code) _ e)
  where
    go : (eqb c code ≡ true) ⊎ ((eqb c (code + 16) || false) ≡ true) → length (text k (text_of (c ∷ s))) ≤ suc (length s)
    go (inl x) = let q : c ≡ code = eqb-true _ _ x in text_one k d c s h o.1 (rw q one) (rw q is-short)
    go (inr x) = let q : c ≡ code + 16 = eqb-true _ _ (or_was (eqb c (code + 16)) x) in text_four k d c s h o.1 (rw q four) (rw q is-long)

string_kept : (d : ℕ) (f : List ℕ) → starts_with (0xa1 ∷ 0xb1 ∷ []) f ≡ true → Whole (suc d) f → Octets f → length (text 0xa1 (text_of f)) ≤ length f
unfolding starts_with kind_of kind_in codes
string_kept d f = text_kept 0xa1 d 0xa1 f refl refl refl refl

symbol_kept : (d : ℕ) (f : List ℕ) → starts_with (0xa3 ∷ 0xb3 ∷ []) f ≡ true → Whole (suc d) f → Octets f → length (text 0xa3 (text_of f)) ≤ length f
unfolding starts_with kind_of kind_in codes
symbol_kept d f = text_kept 0xa3 d 0xa3 f refl refl refl refl

-- ---- the header of a described list

header_least : (code count size : ℕ) → size ≤ 254 → length (composite_header code count size) ≤ 6
header_least code count size h = go (eqb count 0) refl
  where
    go : (a : Bool) → eqb count 0 ≡ a → length (composite_header code count size) ≤ 6
    go true p = omega (arith, header_len_none code count size (eqb-true _ _ p))
    go false p = omega (arith, header_len_small code count size (eqb-false _ _ p) h)

-- a size and a count of w bytes each
sized_is : (w : ℕ) (s : List ℕ) (l : Items) → Octets s → sized w s ≡ accept l → (l.from ≡ 1 + w + w) × (l.end < 1 + w + 256 ^ w)
unfolding sized
sized_is w s l o e =
    let a = then_was (opening list w (drop 1 s)) _ l e in
    let n = number_was w (drop 1 s) a.0.0 (opening_was list w (drop 1 s) a.0 a.1).sized in
    let b : big_endian (take w (drop 1 s)) < 256 ^ w = number_low w (drop 1 s) (octets_drop 1 s o) n.1 in
    let q : l ≡ record { count = a.0.1; from = 1 + w + w; end = 1 + w + a.0.0 } = accepted l _ (sym a.2) in
    rw q (refl, omega (arith, n.0))

-- where the values take no more bytes than those of the list that was read, and there are none where it had none, its header is no longer either
list_kept : (s : List ℕ) (l : Items) (code count size : ℕ) → Octets s → list_at s ≡ accept l → (l.count ≡ 0 → count ≡ 0) → size ≤ l.end - l.from → length (composite_header code count size) ≤ 3 + l.from
unfolding list_at
list_kept s l code count size o e z h = go (starts_with (0x45 ∷ []) s) (starts_with (0xc0 ∷ []) s) (starts_with (0xd0 ∷ []) s) e
  where
    go : (a b c : Bool) → cond a (accept (record { count = 0; from = 1; end = 1 })) (cond b (sized 1 s) (cond c (sized 4 s) (refuse 6))) ≡ accept l → length (composite_header code count size) ≤ 3 + l.from
    go true b c q =
        let m : l ≡ record { count = 0; from = 1; end = 1 } = accepted l _ (sym q) in
        let n : l.count ≡ 0 = ap (λ (x : Items). x.count) m in
        let f : l.from ≡ 1 = ap (λ (x : Items). x.from) m in
        omega (arith, header_len_none code count size (z n))
    go false true c q = let a = sized_is 1 s l o q in omega (arith, a.0, header_least code count size (omega (arith, a.0, a.1)))
    go false false true q = let a = sized_is 4 s l o q in omega (arith, a.0, header_few code count size)
    go false false false q = absurd (never 6 l q)

-- a list after a descriptor other than 0, which has 2 bytes at least
record Listed (s : List ℕ) (d : Described) : Type 0 where
  start : ℕ
  items : Items
  read : list_at (drop start s) ≡ accept items
  long : 3 ≤ start
  count_is : d.count ≡ items.count
  from_is : d.from ≡ start + items.from
  end_is : d.end ≡ start + items.end

-- 44 is 0
number_none : (n : ℕ) (s : List ℕ) → n ≤ 1 → number_of (take n s) ≡ 0
unfolding number_of big_endian big_endian_from
number_none zero s h = refl
number_none (suc zero) [] h = refl
number_none (suc zero) (b ∷ s) h = refl
number_none (suc (suc n)) s h = absurd (omega arith)

descriptor_long : (s : List ℕ) (d : ℕ × ℕ) → descriptor s ≡ accept d → (d.0 ≡ 0 → ⊥) → 3 ≤ d.1
unfolding descriptor
descriptor_long s d e z =
    let r = require_was 6 (starts_with (0 ∷ []) s && starts_with (0x80 ∷ 0x53 ∷ 0x44 ∷ []) (drop 1 s)) _ d e in
    let n = then_was (value_end 1 (drop 1 s)) _ d r.1 in
    let q : d ≡ (number_of (take n.0 (drop 1 s)), 1 + n.0) = accepted d _ (sym n.2) in
    go n.0 q (leb n.0 1) refl
  where
    go : (n : ℕ) → d ≡ (number_of (take n (drop 1 s)), 1 + n) → (b : Bool) → leb n 1 ≡ b → 3 ≤ d.1
    go n q true h = absurd (z (ap (λ (x : ℕ × ℕ). x.0) q ∙ number_none n (drop 1 s) (leb-true _ _ h)))
    go n q false h = let k : d.1 ≡ 1 + n = ap (λ (x : ℕ × ℕ). x.1) q in let m : 1 < n = leb-false _ _ h in omega arith

listed : (s : List ℕ) (d : Described) → described s ≡ accept d → (d.code ≡ 0 → ⊥) → Listed s d
unfolding described
listed s d e z =
    let a = then_was (descriptor s) _ d e in
    let b = then_was (list_at (drop a.0.1 s)) _ d a.2 in
    let y : d ≡ record { code = a.0.0; count = b.0.count; from = a.0.1 + b.0.from; end = a.0.1 + b.0.end } = accepted d _ (sym b.2) in
    record {
      start = a.0.1;
      items = b.0;
      read = b.1;
      long = descriptor_long s a.0 a.1 (λ q. z (ap (λ (x : Described). x.code) y ∙ q));
      count_is = ap (λ (x : Described). x.count) y;
      from_is = ap (λ (x : Described). x.from) y;
      end_is = ap (λ (x : Described). x.end) y;
    }

-- ---- errors

-- what stands first in the bytes of fields stands first in the first of them
first_starts : (cs c s : List ℕ) → 1 ≤ length c → starts_with cs (c ++ s) ≡ true → starts_with cs c ≡ true
unfolding starts_with
first_starts cs [] s h e = absurd (omega arith)
first_starts cs (b ∷ c) s h e = e

whole_some : (d : ℕ) (f : List ℕ) → Whole d f → 1 ≤ length f
whole_some d f w = value_some d f (length f) (alone d f w)

-- the error f, whose first field is a symbol
module _ (f : List ℕ) (d : Described) (o : Octets f) (e : described f ≡ accept d) (named : d.code ≡ 29) (some-count : 1 ≤ d.count) (symbol : starts_with (0xa3 ∷ 0xb3 ∷ []) (items_of d f) ≡ true) where
  items_octets : Octets (items_of d f)
  items_octets = octets_take (d.end - d.from) (drop d.from f) (octets_drop d.from f o)

  items_length : length (items_of d f) ≡ d.end - d.from
  items_length =
      let l = described_lies f d e in
      length-take-le (d.end - d.from) (drop d.from f) (omega (arith, length-drop d.from f, l.inside))

  -- written, the fields take no more bytes than before
  composite_kept : (fs : List (List ℕ)) → length (joined fs) ≤ d.end - d.from → length (composite 29 fs) ≤ length f
  unfolding composite
  composite_kept fs h =
      let l = described_lies f d e in
      let x = listed f d e (λ q. omega arith) in
      let j : length (joined (trimmed fs)) ≤ d.end - d.from = omega (arith, trimmed_short fs) in
      let k = list_kept (drop x.start f) x.items 29 (length (trimmed fs)) (length (joined (trimmed fs))) (octets_drop x.start f o) x.read (λ q. absurd (omega (arith, x.count_is))) (omega (arith, x.from_is, x.end_is)) in
      omega (arith, l.ordered, l.inside, x.from_is, x.long, length-append (composite_header 29 (length (trimmed fs)) (length (joined (trimmed fs)))) (joined (trimmed fs)))

  error_fields_kept : (v : Verdict (List (List ℕ))) → split 14 d.count (items_of d f) ≡ v → length (error_of v) ≤ length f
  unfolding joined
  error_fields_kept (refuse k) q = let l = described_lies f d e in omega (arith, starts_some _ _ symbol, items_length, l.inside)
  error_fields_kept (accept []) q = absurd (omega (arith, (split_all 14 d.count (items_of d f) [] q).count))
  error_fields_kept (accept (c ∷ fs)) q =
      let a = split_all 14 d.count (items_of d f) (c ∷ fs) q in
      let w : Whole 14 c = a.whole.0 in
      let u : Octets (c ++ joined fs) = rw a.fill items_octets in
      let y : starts_with (0xa3 ∷ 0xb3 ∷ []) (c ++ joined fs) ≡ true = rw a.fill symbol in
      let t = symbol_kept 13 c (first_starts _ c (joined fs) (whole_some 14 c w) y) w (octets_front c (joined fs) u) in
      let n : length (c ++ joined fs) ≡ d.end - d.from = ap length a.fill ∙ items_length in
      composite_kept (text 0xa3 (text_of c) ∷ fs) (omega (arith, length-append c (joined fs), length-append (text 0xa3 (text_of c)) (joined fs)))

error_kept_at : (f : List ℕ) → Octets f → (v : Verdict Described) → described f ≡ v → error_shape f v ≡ true → length (error_of (error_fields f v)) ≤ length f
unfolding error_shape error_fields and_then
error_kept_at f o (refuse k) q e = absurd (false≢true e)
error_kept_at f o (accept d) q e =
    let a = and_was (eqb d.code 29) _ e in
    let b = and_was (leb 1 d.count) _ a.1 in
    let c = and_was (leb d.count 3) _ b.1 in
    error_fields_kept f d o q (eqb-true _ _ a.0) (leb-true _ _ b.0) c.1 (split 14 d.count (items_of d f)) refl

-- ---- fields

-- A value of its field's type in its shortest form has no more bytes than it was read with.
pub shortest_kept : (t : FieldType) (f : List ℕ) → Whole 16 f → has_type t f ≡ true → Octets f → length (shortest t f) ≤ length f
unfolding shortest has_type is_error
shortest_kept Any f w h o = omega arith
shortest_kept UShort f w h o = ushort_kept 15 f h w o
shortest_kept UInt f w h o = uint_kept 15 f h w o
shortest_kept String f w h o = string_kept 15 f h w o
shortest_kept Error f w h o = error_kept_at f o (described f) refl h

-- how many bytes a default adds: it takes the place of a null, which has one
unfoldable extra : Field → ℕ
extra r = length (default_of r.type r.default) - 1

written_kept : (r : Field) (f : List ℕ) → Whole 16 f → fits r.type r.mandatory f ≡ true → Octets f → length (written_field r f) ≤ length f + extra r
unfolding written_as fits extra
written_kept r f w q o = go (is_null f) q
  where
    go : (b : Bool) → cond b (not r.mandatory) (has_type r.type f) ≡ true → length (cond b (default_of r.type r.default) (shortest r.type f)) ≤ length f + (length (default_of r.type r.default) - 1)
    go true h = omega (arith, whole_some 16 f w)
    go false h = omega (arith, shortest_kept r.type f w h o)

-- ---- the fields by their rows

-- all that is written where no field is there
unfoldable missing : List Field → ℕ
missing rows = length (joined (trimmed (written_fields rows [])))

-- whether defaults add at most n bytes, from whichever row on the fields are missing
unfoldable adds : ℕ → List Field → Bool
adds n [] = true
adds n (r ∷ rows) = leb (missing (r ∷ rows)) n && (leb (extra r) n && adds (n - extra r) rows)

before_short : (b : Bool) (f : List ℕ) (gs : List (List ℕ)) → length (joined (before b f gs)) ≤ length f + length (joined gs)
unfolding joined
before_short true f [] = omega arith
before_short false f [] = omega (arith, length-append f [])
before_short true f (g ∷ gs) = omega (arith, length-append f (g ++ joined gs))
before_short false f (g ∷ gs) = omega (arith, length-append f (g ++ joined gs))

fields_kept : (n : ℕ) (rows : List Field) (fs : List (List ℕ)) → adds n rows ≡ true → Each (Whole 16) fs → fit rows fs ≡ true → Octets (joined fs) → length (joined (trimmed (written_fields rows fs))) ≤ length (joined fs) + n
unfolding adds missing fit written_fields trimmed joined
fields_kept n [] fs a w q o = omega arith
fields_kept n (r ∷ rows) [] a w q o =
    let h : missing (r ∷ rows) ≤ n = leb-true _ _ (and_was (leb (missing (r ∷ rows)) n) _ a).0 in
    omega arith
fields_kept n (r ∷ rows) (f ∷ fs) a w q o =
    let b = and_was (leb (missing (r ∷ rows)) n) _ a in
    let c = and_was (leb (extra r) n) _ b.1 in
    let x : extra r ≤ n = leb-true _ _ c.0 in
    let p = and_was (fits r.type r.mandatory f) (fit rows fs) q in
    let g = written_kept r f w.0 p.0 (octets_front f (joined fs) o) in
    let h = fields_kept (n - extra r) rows fs c.1 w.1 p.1 (octets_back f (joined fs) o) in
    let k = before_short (is_null (written_field r f)) (written_field r f) (trimmed (written_fields rows fs)) in
    omega (arith, length-append f (joined fs))

-- ---- the table

all_add : ℕ → List (ℕ × List Field) → Bool
all_add n [] = true
all_add n (row ∷ rows) = adds n row.1 && all_add n rows

adds_in : (n : ℕ) (table : List (ℕ × List Field)) (code : ℕ) (rows : List Field) → all_add n table ≡ true → fields_in table code ≡ Some rows → adds n rows ≡ true
unfolding all_add fields_in
adds_in n [] code rows a e = let z : ◌≡◌ {A = ℕ} 0 1 = cc in absurd (omega arith)
adds_in n (row ∷ table) code rows a e = let h = and_was (adds n row.1) (all_add n table) a in go (eqb code row.0) refl h.0 (adds_in n table code rows h.1)
  where
    go : (b : Bool) → eqb code row.0 ≡ b → adds n row.1 ≡ true → (fields_in table code ≡ Some rows → adds n rows ≡ true) → adds n rows ≡ true
    go true p g k = let q : row.1 ≡ rows = (let x : Some row.1 ≡ Some rows = (rw p at e) in cc) in rw q at g
    go false p g k = k (rw p at e)

-- no performative has defaults that add more than 10 bytes
adds_ten : (code : ℕ) (rows : List Field) → fields_of code ≡ Some rows → adds 10 rows ≡ true
unfolding fields_of all_add adds missing extra written_fields written_as trimmed joined uint ushort bytes_of starts_with
adds_ten code rows e = adds_in 10 performatives code rows refl e

-- ---- the performative

-- a performative at the front of s: its fields by their rows
record Read (s : List ℕ) (p : Performative) : Type 0 where
  rows : List Field
  named : fields_of p.code ≡ Some rows
  whole : Each (Whole 16) p.fields
  fine : fit rows p.fields ≡ true
  fill : joined p.fields ≡ take (p.end - p.from) (drop p.from s)
  after : 4 ≤ p.from

read_was : (s : List ℕ) (p : Performative) → performative s ≡ accept p → Read s p
unfolding fields_by
read_was s p e =
    let m = read.performative_was s p e in
    let d : Described = m.list in
    let f = then_was (split 16 d.count (items_of d s)) _ p.fields m.has_fields in
    let g = require_was 6 (fit m.rows f.0) _ p.fields f.2 in
    let q : f.0 ≡ p.fields = accepted f.0 p.fields g.1 in
    let h = split_all 16 d.count (items_of d s) p.fields (f.1 ∙ ap accept q) in
    let x = listed s d m.is_list (λ z. omega (arith, (read.performative_code s p e).0, m.code_is)) in
    record {
      rows = m.rows;
      named = m.has_rows;
      whole = h.whole;
      fine = rw q at g.0;
      fill = h.fill ∙ ap (λ (n : ℕ). take (n - d.from) (drop d.from s)) (sym m.end_is) ∙ ap (λ (n : ℕ). take (p.end - n) (drop n s)) (sym m.from_is);
      after = omega (arith, m.from_is, x.from_is, x.long, list_some (drop x.start s) x.items x.read);
    }

module _ (s : List ℕ) (p : Performative) (o : Octets s) (e : performative s ≡ accept p) where
  joined_length : length (joined p.fields) ≡ p.end - p.from
  joined_length =
      let l = read.performative_lies s p e in
      ap length (read_was s p e).fill ∙ length-take-le (p.end - p.from) (drop p.from s) (omega (arith, length-drop p.from s, l.inside))

  -- the fields as they are written
  fields_short : length (joined (trimmed (written_fields (read_was s p e).rows p.fields))) ≤ p.end - p.from + 10
  fields_short =
      let r = read_was s p e in
      let u : Octets (joined p.fields) = rw r.fill (octets_take (p.end - p.from) (drop p.from s) (octets_drop p.from s o)) in
      omega (arith, joined_length, fields_kept 10 r.rows p.fields (adds_ten p.code r.rows r.named) r.whole r.fine u)

  -- the header has more than 6 bytes only where there are 255 at least after it
  performative_short : length (performative_written p) ≤ 8 + 2 * p.end
  unfolding performative_written composite
  performative_short =
      let r = read_was s p e in
      let gs : List (List ℕ) = trimmed (written_fields r.rows p.fields) in
      rw r.named (go gs fields_short (leb (length (joined gs)) 254) refl)
    where
      go : (gs : List (List ℕ)) → length (joined gs) ≤ p.end - p.from + 10 → (b : Bool) → leb (length (joined gs)) 254 ≡ b → length (composite_header p.code (length gs) (length (joined gs)) ++ joined gs) ≤ 8 + 2 * p.end
      go gs h true q =
          omega (arith, length-append (composite_header p.code (length gs) (length (joined gs))) (joined gs), header_least p.code (length gs) (length (joined gs)) (leb-true _ _ q), (read.performative_lies s p e).ordered, (read_was s p e).after)
      go gs h false q =
          let m : 254 < length (joined gs) = leb-false _ _ q in
          omega (arith, length-append (composite_header p.code (length gs) (length (joined gs))) (joined gs), header_few p.code (length gs) (length (joined gs)), (read.performative_lies s p e).ordered, (read_was s p e).after)

-- ---- the frame

body_octets : (f : Frame) (s : List ℕ) → Octets s → Octets (body_in f s)
unfolding body_in
body_octets f s o = octets_take (f.size - f.from) (drop f.from s) (octets_drop f.from s o)

module _ (highest : ℕ) (s : List ℕ) (r : Frame × Performative) where
  -- A session's frame, written out, is at most twice as long as it was lent.
  pub session_short : Octets s → session_frame highest s ≡ accept r → length (session_bytes s r) ≤ 2 * r.0.size
  unfolding session_bytes
  session_short o e =
      let p = (session_sendable highest s r e).reads in
      omega (
        arith,
        length_frame r.0.channel (performative_written r.1 ++ drop r.1.end (body_in r.0 s)),
        length-append (performative_written r.1) (drop r.1.end (body_in r.0 s)),
        length-drop r.1.end (body_in r.0 s),
        body_length any_size any_channel s r.0 (session_was highest s r e).0,
        (session_frame_lem highest s r e).header,
        (read.performative_lies (body_in r.0 s) r.1 p).inside,
        performative_short (body_in r.0 s) r.1 (body_octets r.0 s o) p,
      )
