-- An error that was read is written as an error of the same condition and the same other fields, and once written it is written as it stands.
-- Assumes nothing.
use mathlib.Core.Path.{◌≡◌, refl, sym, ap, ◌∙◌}
use mathlib.Core.Bool.{Bool, true, false, cond, ◌&&◌, false≢true}
use mathlib.Core.List.{List, [], ◌∷◌, ◌++◌, append-nil}
use Prim.Native.Nat.{ℕ, zero, suc, ◌+◌, ◌-◌, ◌^◌, ◌<◌, ◌≤◌}
use native.Mathlib.Omega.{arith}
use lib.ListN.{length, take, drop, length-append, length-drop}
use lib.Seq.{length-take-le, drop-drop}
use lib.Dec.{leb, eqb}
use borrow.Author.Tests.{leb-true, eqb-true}
use Rattle.octets.specs.Verdict.{Verdict, refuse, accept, require, and_then}
use Rattle.octets.specs.Octets.{bytes_of, starts_with}
use Rattle.octets.proofs.Laws.{require_was, then_accept}
use Rattle.values.specs.Value.{list, compound, codes, kind_in, kind_of, opening, items, compound_end, body, run, value_end}
use Rattle.values.specs.Null.{is_null}
use Rattle.values.proofs.Apart.{accepted, never, then_was, plus_was, both_was, opening_is, compound_was}
use Rattle.values.proofs.Laws.{value_deeper, value_of_code, value_described}
use Rattle.values.proofs.Written.{Whole, Each}
use Rattle.serializer.specs.Written.{text, list_header, joined, trimmed, composite_header, composite_of, composite}
use Rattle.performatives.specs.Fields.{Error}
use Rattle.performatives.specs.Performative.{number_of, Items, sized, list_at, descriptor, Described, described, split, items_of, error_shape, is_error, has_type}
use Rattle.session_frame.specs.Session.{text_of, error_fields, error_of, shortest}
use Rattle.codec.specs.Meaning.{error, error_meant, meant_as}
use Rattle.codec.proofs.Splits.{split_all, times_split}
use Rattle.codec.proofs.Trimmed.{and_was, or_was, trimmed_few, trimmed_present, trimmed_each, trimmed_again}
use Rattle.codec.proofs.Shortest.{Shortened, text_long, text_read}
use Rattle.codec.proofs.Composite.{described_alone, items_alone, split_joined}
use Rattle.codec.proofs.Values.{symbol_whole, symbol_first, symbol_present, composite_whole, composite_present, error_typed}

-- ---- the values of a described list that is a whole value

value_deep : (e : ℕ) (s : List ℕ) (n : ℕ) → value_end 1 s ≡ accept n → value_end (suc e) s ≡ accept n
value_deep zero s n h = h
value_deep (suc e) s n h = value_deeper (suc e) s n (value_deep e s n h)

abbrev Splits : ℕ → ℕ → List ℕ → Type 0
Splits e count s = (fs : List (List ℕ)) × (split e count s ≡ accept fs)

-- C0 and 1, or D0 and 4
sized_split : (e c w : ℕ) (s : List ℕ) (l : Items) → kind_of c ≡ accept (compound list w) → sized w (c ∷ s) ≡ accept l → value_end (suc e) (c ∷ s) ≡ accept (suc (length s)) → Splits e l.count (take (l.end - l.from) (drop l.from (c ∷ s)))
unfolding sized body items value_end
sized_split e c w s l k q v =
    let o = then_was (opening list w s) _ l q in
    let p = plus_was 1 (compound_end (run e) list w s) (suc (length s)) (sym (value_of_code e c (compound list w) s k) ∙ v) in
    let d = compound_was (run e) list w s p.0 p.1 in
    let z : o.0 ≡ (d.size, d.count) = accepted o.0 (d.size, d.count) (sym o.1 ∙ opening_is list w s d.size d.count d.opens) in
    let m : l ≡ record { count = d.count; from = 1 + w + w; end = 1 + w + d.size } = accepted l _ (sym o.2) ∙ ap (λ (x : ℕ × ℕ). record { count = x.1; from = 1 + w + w; end = 1 + w + x.0 }) z in
    let a : (1 + w + d.size) - (1 + w + w) ≡ d.size - w = omega arith in
    let b : 1 + w + w ≡ suc (w + w) = omega arith in
    let u : List ℕ = take (d.size - w) (drop (w + w) s) in
    let n : length u ≡ d.size - w = length-take-le (d.size - w) (drop (w + w) s) (omega (arith, length-drop (w + w) s, d.opens.fits, d.room)) in
    rw m (rw (a, b) (times_split e d.count u (d.filled ∙ ap accept (sym n))))

one_of : (c : ℕ) (s : List ℕ) (k : ℕ) → starts_with (k ∷ []) (c ∷ s) ≡ true → c ≡ k
unfolding starts_with
one_of c s k e = eqb-true _ _ (or_was (eqb c k) e)

list_split : (e : ℕ) (s : List ℕ) (l : Items) → list_at s ≡ accept l → value_end (suc e) s ≡ accept (length s) → Splits e l.count (take (l.end - l.from) (drop l.from s))
unfolding list_at starts_with split kind_of kind_in codes
list_split e [] l q v = absurd (never 6 l q)
list_split e (c ∷ s) l q v = go (starts_with (0x45 ∷ []) (c ∷ s)) refl (starts_with (0xc0 ∷ []) (c ∷ s)) refl (starts_with (0xd0 ∷ []) (c ∷ s)) refl
  where
    go : (a : Bool) → starts_with (0x45 ∷ []) (c ∷ s) ≡ a → (b : Bool) → starts_with (0xc0 ∷ []) (c ∷ s) ≡ b → (d : Bool) → starts_with (0xd0 ∷ []) (c ∷ s) ≡ d → Splits e l.count (take (l.end - l.from) (drop l.from (c ∷ s)))
    go true x b y d z =
        let m : l ≡ record { count = 0; from = 1; end = 1 } = accepted l _ (sym (rw x at q)) in
        rw m ([], refl)
    go false x true y d z = let k : c ≡ 0xc0 = one_of c s 0xc0 y in sized_split e c 1 s l (rw k refl) (rw (x, y) at q) v
    go false x false y true z = let k : c ≡ 0xd0 = one_of c s 0xd0 z in sized_split e c 4 s l (rw k refl) (rw (x, y, z) at q) v
    go false x false y false z = absurd (never 6 l (rw (x, y, z) at q))

-- a descriptor of n bytes and the list l, after 00
record Parts (c : ℕ) (s : List ℕ) (d : Described) : Type 0 where
  n : ℕ
  l : Items
  zero_first : c ≡ 0
  named : value_end 1 s ≡ accept n
  listed : list_at (drop n s) ≡ accept l
  count_is : d.count ≡ l.count
  from_is : d.from ≡ suc n + l.from
  end_is : d.end ≡ suc n + l.end

parts : (c : ℕ) (s : List ℕ) (d : Described) → described (c ∷ s) ≡ accept d → Parts c s d
unfolding described descriptor
parts c s d q =
    let a = then_was (descriptor (c ∷ s)) _ d q in
    let b = then_was (list_at (drop a.0.1 (c ∷ s))) _ d a.2 in
    let r = require_was 6 (starts_with (0 ∷ []) (c ∷ s) && starts_with (0x80 ∷ 0x53 ∷ 0x44 ∷ []) s) _ a.0 a.1 in
    let n = then_was (value_end 1 s) _ a.0 r.1 in
    let k : a.0.1 ≡ suc n.0 = ap (λ (x : ℕ × ℕ). x.1) (accepted a.0 (number_of (take n.0 s), 1 + n.0) (sym n.2)) ∙ omega arith in
    let y : d ≡ record { code = a.0.0; count = b.0.count; from = a.0.1 + b.0.from; end = a.0.1 + b.0.end } = accepted d _ (sym b.2) in
    record {
      n = n.0;
      l = b.0;
      zero_first = one_of c s 0 (and_was _ _ r.0).0;
      named = n.1;
      listed = ap (λ (i : ℕ). list_at (drop i (c ∷ s))) (sym k) ∙ b.1;
      count_is = ap (λ (x : Described). x.count) y;
      from_is = ap (λ (x : Described). x.from) y ∙ ap (λ (i : ℕ). i + b.0.from) k;
      end_is = ap (λ (x : Described). x.end) y ∙ ap (λ (i : ℕ). i + b.0.end) k;
    }

parts_split : (e c : ℕ) (s : List ℕ) (d : Described) → Whole (suc (suc e)) (c ∷ s) → Parts c s d → Splits e d.count (items_of d (c ∷ s))
parts_split e c s d w a =
    let n : ℕ = a.n in
    let l : Items = a.l in
    let z : c ≡ 0 = a.zero_first in
    let v : value_end (suc (suc e)) (0 ∷ s) ≡ accept (suc (length s)) = rw (z, append-nil s) at (w []) in
    let p = plus_was 1 _ (suc (length s)) (sym (value_described (suc e) s) ∙ v) in
    let t = both_was (value_end (suc e)) (value_end (suc e)) s p.0 p.1 in
    let i : t.first ≡ n = accepted t.first n (sym t.first_ends ∙ value_deep e s n a.named) in
    let m : t.second ≡ length (drop n s) = omega (arith, length-drop n s, p.2, t.sum) in
    let x : value_end (suc e) (drop n s) ≡ accept (length (drop n s)) = ap (λ (j : ℕ). value_end (suc e) (drop j s)) (sym i) ∙ t.second_ends ∙ ap accept m in
    let f : (suc n + l.end) - (suc n + l.from) ≡ l.end - l.from = omega arith in
    let g : drop (suc n + l.from) (c ∷ s) ≡ drop l.from (drop n s) = sym (drop-drop l.from (suc n) (c ∷ s)) in
    rw (a.count_is, a.from_is, a.end_is, f, g) (list_split e (drop n s) l a.listed x)

-- d is how deep the values stand
pub described_split : (d : ℕ) (f : List ℕ) (e : Described) → Whole (suc (suc d)) f → described f ≡ accept e → Splits d e.count (items_of e f)
unfolding described descriptor starts_with and_then require
described_split d [] e w q = absurd (never 6 e q)
described_split d (c ∷ s) e w q = parts_split d c s e w (parts c s e q)

-- ---- an error that was read

record Read (f : List ℕ) : Type 0 where
  condition : List ℕ
  others : List (List ℕ)
  fields : error_fields f (described f) ≡ accept (condition ∷ others)
  others_whole : Each (Whole 14) others
  others_few : length others ≤ 2

read_fields : (f : List ℕ) (k : ℕ) (s : List ℕ) (fs : List (List ℕ)) → 1 ≤ k → k ≤ 3 → split 14 k s ≡ accept fs → error_fields f (described f) ≡ split 14 k s → Read f
read_fields f k s [] Some few e q = absurd (omega (arith, (split_all 14 k s [] e).count))
read_fields f k s (c ∷ fs) Some few e q =
    let a = split_all 14 k s (c ∷ fs) e in
    record { condition = c; others = fs; fields = q ∙ e; others_whole = a.whole.1; others_few = omega (arith, a.count) }

read_cases : (f : List ℕ) → Whole 16 f → (v : Verdict Described) → described f ≡ v → error_shape f v ≡ true → Read f
unfolding error_shape error_fields
read_cases f w (refuse k) q e = absurd (false≢true e)
read_cases f w (accept d) q e =
    let a = and_was (eqb d.code 29) _ e in
    let b = and_was (leb 1 d.count) _ a.1 in
    let c = and_was (leb d.count 3) _ b.1 in
    let s = described_split 14 f d w q in
    read_fields f d.count (items_of d f) s.0 (leb-true _ _ b.0) (leb-true _ _ c.0) s.1 (then_accept (described f) _ d q)

error_read : (f : List ℕ) → Whole 16 f → has_type Error f ≡ true → Read f
unfolding has_type is_error
error_read f w e = read_cases f w (described f) refl e

-- ---- written

header_some : (code count size : ℕ) → 4 ≤ length (composite_header code count size)
unfolding composite_header list_header
header_some code count size = go (eqb count 0) (leb size 254)
  where
    go : (a b : Bool) → 4 ≤ suc (suc (suc (length (cond a (0x45 ∷ []) (cond b (0xc0 ∷ (size + 1) ∷ count ∷ []) (0xd0 ∷ bytes_of 4 (size + 4) ++ bytes_of 4 count))))))
    go true b = omega arith
    go false true = omega arith
    go false false = omega arith

-- a condition t and other fields that do not end in null
module _ (t : List ℕ) (others : List (List ℕ)) (whole : Each (Whole 14) others) (few : length others ≤ 2) (ends : trimmed others ≡ others) where
  fields : List (List ℕ)
  fields = text 0xa3 t ∷ others

  fields_again : trimmed fields ≡ fields
  unfolding fields
  fields_again = trimmed_present (text 0xa3 t) others (symbol_present t) ∙ ap (λ (fs : List (List ℕ)). text 0xa3 t ∷ fs) ends

  module _ (low : length (composite_of 29 fields) < 256 ^ 4) where
    joined_low : length (joined fields) + 4 < 256 ^ 4
    joined_low = omega (arith, length-append (composite_header 29 (length fields) (length (joined fields))) (joined fields), header_some 29 (length fields) (length (joined fields)))

    text_low : length t < 256 ^ 4
    unfolding fields joined
    text_low = omega (arith, joined_low, length-append (text 0xa3 t) (joined others), text_long 0xa3 t)

    each_whole : Each (Whole 14) fields
    unfolding fields
    each_whole = (symbol_whole t 13 text_low, whole)

    error_fields_lem : error_fields (composite_of 29 fields) (described (composite_of 29 fields)) ≡ accept fields
    unfolding error_fields and_then fields
    error_fields_lem =
        let l : length fields < 256 = omega arith in
        rw (described_alone 29 fields l joined_low, items_alone 29 fields l joined_low) (split_joined 14 fields each_whole)

    error_whole : Whole 16 (composite_of 29 fields)
    unfolding fields
    error_whole = composite_whole 14 fields each_whole (omega arith) joined_low 29

    error_typed_so : has_type Error (composite_of 29 fields) ≡ true
    unfolding fields joined
    error_typed_so = error_typed fields (omega arith) (omega arith) joined_low (symbol_first t (joined others))

    error_same : error_of (error_fields (composite_of 29 fields) (described (composite_of 29 fields))) ≡ composite_of 29 fields
    unfolding fields composite starts_with
    error_same = rw error_fields_lem (rw (text_read 0xa3 t refl refl) (ap (composite_of 29) fields_again))

    error_means : error_meant (error_fields (composite_of 29 fields) (described (composite_of 29 fields))) ≡ error t others
    unfolding fields starts_with
    error_means = rw error_fields_lem (rw (text_read 0xa3 t refl refl, ends) refl)

pub error_present : (f : List ℕ) → Whole 16 f → has_type Error f ≡ true → is_null (shortest Error f) ≡ false
unfolding shortest composite
error_present f w e =
    let a = error_read f w e in
    rw a.fields (composite_present 29 (trimmed (text 0xa3 (text_of a.condition) ∷ a.others)))

pub error_shortest : (f : List ℕ) → Whole 16 f → has_type Error f ≡ true → length (shortest Error f) < 256 ^ 4 → Shortened Error f
unfolding shortest meant_as composite fields
error_shortest f w e low =
    let a = error_read f w e in
    let t : List ℕ = text_of a.condition in
    let o : List (List ℕ) = trimmed a.others in
    let wh : Each (Whole 14) o = trimmed_each (Whole 14) a.others a.others_whole in
    let fe : length o ≤ 2 = omega (arith, a.others_few, trimmed_few a.others) in
    let en : trimmed o ≡ o = trimmed_again a.others in
    let q : shortest Error f ≡ composite_of 29 (text 0xa3 t ∷ o) = ap error_of a.fields ∙ ap (composite_of 29) (trimmed_present (text 0xa3 t) a.others (symbol_present t)) in
    let l : length (composite_of 29 (text 0xa3 t ∷ o)) < 256 ^ 4 = rw q at low in
    record {
      whole = rw q (error_whole t o wh fe en l);
      present = rw q (composite_present 29 (text 0xa3 t ∷ o));
      typed = rw q (error_typed_so t o wh fe en l);
      same = rw q (error_same t o wh fe en l);
      means = ap (meant_as Error) q ∙ error_means t o wh fe en l ∙ sym (ap error_meant a.fields);
    }
