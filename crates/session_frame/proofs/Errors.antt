-- An error: its condition as a symbol, and what is kept of the values after it.
-- Assumes nothing.
use mathlib.Core.Path.{◌≡◌, refl, sym, ap, ◌∙◌, subst}
use mathlib.Core.Bool.{Bool, true, false, cond}
use mathlib.Core.List.{List, [], ◌∷◌, ◌++◌}
use Rattle.std.specs.Prelude.{Option, None, Some}
use Prim.Native.Nat.{ℕ, zero, suc, ◌+◌, ◌-◌, ◌*◌, ◌^◌, ◌<◌, ◌≤◌}
use native.Mathlib.Omega.{arith}
use native.Mathlib.Numerals.{add-one}
use mir.Syntax.{w8, w32, w64}
use mir.Val.{Fits}
use lib.ListN.{length, take, drop, length-append, length-take, length-drop, take-append-drop}
use lib.Seq.{length-take-le, take-take, drop-drop, take-append-le, drop-append-le, take-append-add}
use lib.Dec.{leb, eqb}
use borrow.Author.Tests.{leb-true, leb-false, eqb-true, eqb-false}
use Rattle.octets.specs.Verdict.{Verdict, refuse, accept, and_then}
use Rattle.octets.specs.Octets.{starts_with, put}
use Rattle.octets.proofs.Laws.{then_accept, put_put, length_put}
use Rattle.values.specs.Value.{value_end}
use Rattle.values.specs.Null.{null, is_null}
use Rattle.values.proofs.Laws.{value_within}
use Rattle.values.proofs.Apart.{then_was}
use Rattle.serializer.specs.Written.{text, joined, before, trimmed, composite_header, composite}
use Rattle.serializer.proofs.Laws.{text_len_short, text_len_long, header_len_none, header_len_small, header_len_large}
use Rattle.performatives.specs.Fields.{Error}
use Rattle.performatives.specs.Performative.{Described, described, split}
use Rattle.session_frame.specs.declared.field.Kept.{Kept}
use Rattle.session_frame.specs.declared.error.ErrorParts.{ErrorParts}
use Rattle.session_frame.specs.Session.{text_of, error_fields, error_of, shortest}
use Rattle.session_frame.specs.Parts.{Sized, size_of, kept_of, Room, others_of, parts_joined, parts_say, Within, PartsOf}
use Rattle.session_frame.proofs.Trim.{trimmed_first}
use Rattle.session_frame.proofs.Steps.{rest, rest_is, text_some, size_is, size_null}
use Rattle.session_frame.proofs.Split.{split_joined, others_bound}
use Rattle.session_frame.proofs.Below.{described_in}

-- ---- parts

-- a part of the front lies in the whole
part_front : (n l m : ℕ) (t : List ℕ) → n + l ≤ m → m ≤ length t → take l (drop n (take m t)) ≡ take l (drop n t)
part_front n l m t h k =
    let a : length (take m t) ≡ m = length-take-le m t k in
    sym (take-append-le l (drop n (take m t)) (drop m t) (omega (arith, length-drop n (take m t))))
    ∙ ap (take l) (sym (drop-append-le n (take m t) (drop m t) (omega arith)))
    ∙ ap (λ (u : List ℕ). take l (drop n u)) (take-append-drop m t)

-- the first fields are the first bytes
joined_first : (k : ℕ) (fs : List (List ℕ)) → joined (take k fs) ≡ take (length (joined (take k fs))) (joined fs)
unfolding joined
joined_first zero fs = refl
joined_first (suc k) [] = refl
joined_first (suc k) (f ∷ fs) =
    ap (λ (l : List ℕ). f ++ l) (joined_first k fs)
    ∙ sym (take-append-add f (joined fs) (length (joined (take k fs))))
    ∙ ap (λ (n : ℕ). take n (f ++ joined fs)) (sym (length-append f (joined (take k fs))))

pub trimmed_joined : (fs : List (List ℕ)) → joined (trimmed fs) ≡ take (length (joined (trimmed fs))) (joined fs)
trimmed_joined fs =
    subst (λ (l : List (List ℕ)). joined l ≡ take (length (joined l)) (joined fs)) (sym (trimmed_first fs)) (joined_first (length (trimmed fs)) fs)

-- ---- error_parts

-- a first field that is not null
trimmed_some : (f : List ℕ) (fs : List (List ℕ)) → false ≡ is_null f → trimmed (f ∷ fs) ≡ f ∷ trimmed fs
unfolding trimmed
trimmed_some f fs h = rw (← h) (go (trimmed fs))
  where
    go : (gs : List (List ℕ)) → before false f gs ≡ f ∷ gs
    go [] = refl
    go (g ∷ gs) = refl

-- an error with a condition
error_is : (c : List ℕ) (fs : List (List ℕ)) → error_of (accept (c ∷ fs)) ≡ composite_header 29 (length (trimmed fs) + 1) (length (text 0xa3 (text_of c) ++ joined (trimmed fs))) ++ (text 0xa3 (text_of c) ++ joined (trimmed fs))
unfolding composite joined
error_is c fs =
    let h : false ≡ is_null (text 0xa3 (text_of c)) = text_some 0xa3 (text_of c) (λ e. omega arith) (λ e. omega arith) in
    rw (trimmed_some (text 0xa3 (text_of c)) fs h, add-one)

accepted : {A : Type 0} (a b : A) → ◌≡◌ {A = Verdict A} (accept a) (accept b) → a ≡ b
accepted a b e = cc

module _ (m n : ℕ) (it : List ℕ) (v : value_end 14 it ≡ accept n) where
  others_refused : others_of m (drop n it) ≡ refuse 6 → error_of (split 14 (suc m) it) ≡ null
  unfolding split others_of and_then
  others_refused e = go (split 14 m (drop n it)) refl
    where
      go : (w : Verdict (List (List ℕ))) → split 14 m (drop n it) ≡ w → error_of (split 14 (suc m) it) ≡ null
      go (refuse j) q = rw (v, q)
      go (accept fs) q =
          let x : others_of m (drop n it) ≡ accept (kept_of (trimmed fs)) = rw q in
          let z : ◌≡◌ {A = ℕ} 0 1 = cc in
          absurd (omega arith)

  -- the condition, and the values after it
  record Has (k : Kept) : Type 0 where
    others : List (List ℕ)
    others_are : split 14 m (drop n it) ≡ accept others
    all_are : split 14 (suc m) it ≡ accept (take n it ∷ others)
    kept : k ≡ kept_of (trimmed others)

  others_accepted : (k : Kept) → others_of m (drop n it) ≡ accept k → Has k
  unfolding split others_of
  others_accepted k e =
      let a = then_was (split 14 m (drop n it)) _ k e in
      record { others = a.0; others_are = a.1; all_are = then_accept (value_end 14 it) _ n v ∙ then_accept (split 14 m (drop n it)) _ a.0 a.1; kept = accepted k (kept_of (trimmed a.0)) (sym a.2) }

module _ (f : List ℕ) where
  pub parts_none : refuse 6 ≡ described f → PartsOf f None
  unfolding parts_say error_fields and_then
  parts_none e = record { written = rw (← e); within = tt }

  module _ (code count from end : ℕ) (e : accept (record { code = code; count = count; from = from; end = end }) ≡ described f) where
    abbrev listed : Described
    listed = record { code = code; count = count; from = from; end = end }

    is_listed : described f ≡ accept listed
    is_listed = sym e

    pub items_from_lem : from ≤ end
    items_from_lem = (described_in f listed is_listed).0

    pub items_end : end ≤ length f
    items_end = (described_in f listed is_listed).1

    abbrev items : List ℕ
    items = take (end - from) (drop from f)

    fields_are : error_fields f (described f) ≡ split 14 count items
    unfolding error_fields
    fields_are = then_accept (described f) _ listed is_listed ∙ refl

    module _ (z : Sized Error f) where
      counted : (1 ≤ count) × (count ≤ 3)
      unfolding Sized
      counted = z listed is_listed

      pub count_some : 1 ≤ count
      count_some = counted.0

      error_split : error_of (error_fields f (described f)) ≡ error_of (split 14 (suc (count - 1)) items)
      error_split =
          let c : count ≡ suc (count - 1) = omega (arith, counted.0) in
          ap error_of (fields_are ∙ ap (λ (k : ℕ). split 14 k items) c)

      pub parts_value : refuse 6 ≡ value_end 14 items → PartsOf f None
      unfolding parts_say split and_then
      parts_value v = record { written = sym (error_split ∙ rw (← v)); within = tt }

      module _ (n : ℕ) (v : accept n ≡ value_end 14 items) where
        ends : value_end 14 items ≡ accept n
        ends = sym v

        pub parts_others : refuse 6 ≡ others_of (count - 1) (rest items n) → PartsOf f None
        unfolding parts_say
        parts_others o =
            let y : others_of (count - 1) (drop n items) ≡ refuse 6 = ap (others_of (count - 1)) (sym (rest_is items n)) ∙ sym o in
            record { written = sym (error_split ∙ others_refused (count - 1) n items ends y); within = tt }

        module _ (k : Kept) (o : accept k ≡ others_of (count - 1) (rest items n)) where
          has : Has (count - 1) n items ends k
          has = others_accepted (count - 1) n items ends k (ap (others_of (count - 1)) (sym (rest_is items n)) ∙ sym o)

          bound : (k.count ≤ count - 1) × (k.len ≤ length (drop n items))
          bound = others_bound (count - 1) (drop n items) k (ap (others_of (count - 1)) (sym (rest_is items n)) ∙ sym o)

          sizes : (n ≤ end - from) × (n + k.len ≤ end - from)
          sizes =
              let l : length items ≡ end - from = length-take-le (end - from) (drop from f) (omega (arith, length-drop from f, items_end)) in
              let h : n ≤ length items = value_within 14 items n ends in
              let b : k.len ≤ length (drop n items) = bound.1 in
              (omega arith, omega (arith, length-drop n items))

          pub end_fits : length f < 2 ^ 64 → Fits w64 (from + n)
          end_fits h = omega (arith, sizes.0, items_from_lem, items_end)

          kept_bytes : joined (trimmed has.others) ≡ take k.len (drop (from + n) f)
          unfolding kept_of
          kept_bytes =
              let l : length (joined (trimmed has.others)) ≡ k.len = ap (λ (x : Kept). x.len) (sym has.kept) in
              let j : joined has.others ≡ drop n items = split_joined 14 (count - 1) (drop n items) has.others has.others_are in
              let m : end - from ≤ length (drop from f) = omega (arith, length-drop from f, items_end) in
              trimmed_joined has.others
              ∙ ap (λ (i : ℕ). take i (joined has.others)) l
              ∙ ap (take k.len) j
              ∙ part_front n k.len (end - from) (drop from f) sizes.1 m
              ∙ ap (take k.len) (drop-drop n from f)

          condition_bytes : take n items ≡ take ((from + n) - from) (drop from f)
          condition_bytes =
              let a : (from + n) - from ≡ n = omega arith in
              rw a (take-take n (end - from) (drop from f) sizes.0)

          pub parts_are : PartsOf f (Some (record { from = from; end = from + n; count = k.count; len = k.len }))
          unfolding parts_say parts_joined kept_of
          parts_are =
              let c : length (trimmed has.others) ≡ k.count = ap (λ (x : Kept). x.count) (sym has.kept) in
              let q : error_of (split 14 (suc (count - 1)) items) ≡ parts_say f (Some (record { from = from; end = from + n; count = k.count; len = k.len })) =
              ap error_of has.all_are ∙ error_is (take n items) has.others ∙ rw (kept_bytes, condition_bytes, c) in
              record { written = sym (error_split ∙ q); within = (omega arith, omega (arith, sizes.1, items_from_lem, items_end), omega (arith, bound.0, counted.1)) }

-- ---- error_size, put_error, put_error_parts

pub text_length : (code : ℕ) (bs : List ℕ) → length (text code bs) ≤ length bs + 5
text_length code bs = go (leb (length bs) 255) refl
  where
    go : (b : Bool) → leb (length bs) 255 ≡ b → length (text code bs) ≤ length bs + 5
    go true e = omega (arith, text_len_short code bs (leb-true _ _ e))
    go false e = omega (arith, text_len_long code bs (leb-false _ _ e))

pub text_short : (f : List ℕ) → length (text_of f) ≤ length f
unfolding text_of
text_short f = go (starts_with (0xa1 ∷ 0xa3 ∷ []) f)
  where
    go : (b : Bool) → length (cond b (drop 2 f) (drop 5 f)) ≤ length f
    go true = omega (arith, length-drop 2 f)
    go false = omega (arith, length-drop 5 f)

pub header_length : (code count size : ℕ) → length (composite_header code count size) ≤ 12
header_length code count size = go (eqb count 0) (leb size 254) refl refl
  where
    go : (a b : Bool) → eqb count 0 ≡ a → leb size 254 ≡ b → length (composite_header code count size) ≤ 12
    go true b p q = omega (arith, header_len_none code count size (eqb-true _ _ p))
    go false true p q = omega (arith, header_len_small code count size (eqb-false _ _ p) (leb-true _ _ q))
    go false false p q = omega (arith, header_len_large code count size (eqb-false _ _ p) (leb-false _ _ q))

module _ (f : List ℕ) (from end len : ℕ) where
  abbrev condition : List ℕ
  condition = text_of (take (end - from) (drop from f))

  -- what is joined is the condition as a symbol, and len bytes
  module _ (k : end + len ≤ length f) where
    others_length : length (take len (drop end f)) ≡ len
    others_length = length-take-le len (drop end f) (omega (arith, length-drop end f))

    joined_length : length (parts_joined f from end len) ≡ length (text 163 condition) + len
    unfolding parts_joined
    joined_length = length-append (text 163 condition) (take len (drop end f)) ∙ rw others_length

    joined_short : from ≤ end → length (parts_joined f from end len) ≤ length f + 5
    joined_short h =
        let a : length condition ≤ length (take (end - from) (drop from f)) = text_short (take (end - from) (drop from f)) in
        let b : length (take (end - from) (drop from f)) ≤ end - from = omega (arith, length-take (end - from) (drop from f)) in
        omega (arith, text_length 163 condition, joined_length)

    module _ (t : List ℕ) (te : t ≡ condition) (n : ℕ) (ne : n ≡ length (text 163 t)) where
      joined_sum : n + len ≡ length (parts_joined f from end len)
      joined_sum = rw (ne, te) (sym joined_length)

      pub parts_fit : from ≤ end → length f * 1 < 2 ^ 63 → Fits w64 (n + len)
      parts_fit h g = omega (arith, joined_sum, joined_short h)

-- parts_len, put_parts
module _ (f : List ℕ) (from end len : ℕ) (t : List ℕ) (te : t ≡ text_of (take (end - from) (drop from f))) (n : ℕ) (ne : n ≡ length (text 163 t)) (k : end + len ≤ length f) where
  pub parts_sum : n + len ≡ length (parts_joined f from end len)
  parts_sum = joined_sum f from end len k t te n ne

module _ (d : List ℕ) (at : ℕ) (f : List ℕ) (from end len : ℕ) (room : Room d at (parts_joined f from end len)) (k : end + len ≤ length f) (t : List ℕ) (te : t ≡ text_of (take (end - from) (drop from f))) (n : ℕ) (ne : n ≡ length (text 163 t)) where
  pub next_fits : Fits w64 (at + n)
  next_fits = omega (arith, room.low, joined_sum f from end len k t te n ne)

  pub parts_laid : (o₁ o₂ : List ℕ) → o₁ ≡ put d at (text 163 t) → o₂ ≡ put o₁ (at + n) (take ((end + len) - end) (drop end f)) → o₂ ≡ put d at (parts_joined f from end len)
  unfolding parts_joined
  parts_laid o₁ o₂ p q =
      let a : (end + len) - end ≡ len = omega arith in
      let b : length (take len (drop end f)) ≡ len = others_length f from end len k in
      let c : n + len ≡ length (parts_joined f from end len) = joined_sum f from end len k t te n ne in
      q ∙ rw (p, a, ne) (put_put (text 163 t) (take len (drop end f)) d at (omega (arith, room.fits)) ∙ rw te)

-- error_size, put_error
parts_some : (f : List ℕ) (p : ErrorParts) → false ≡ is_null (parts_say f (Some p))
unfolding parts_say composite_header starts_with
parts_some f p = refl

module _ (f : List ℕ) where
  pub error_null : PartsOf f None → record { len = 1; null = true } ≡ size_of (shortest Error f)
  unfolding shortest parts_say
  error_null p = size_null ∙ ap size_of p.written

  pub error_null_laid : (d o : List ℕ) (at : ℕ) → PartsOf f None → o ≡ put d at null → o ≡ put d at (shortest Error f)
  unfolding shortest parts_say
  error_null_laid d o at p e = e ∙ ap (put d at) p.written

  module _ (r : ErrorParts) (p : PartsOf f (Some r)) where
    abbrev said : List ℕ
    said = parts_joined f r.from r.end r.len

    pub parts_from : r.from ≤ r.end
    parts_from = p.within.0

    pub parts_end : r.end + r.len ≤ length f
    parts_end = p.within.1

    pub parts_count : Fits w64 (r.count + 1)
    parts_count = omega (arith, p.within.2)

    pub parts_few : Fits w8 (r.count + 1)
    parts_few = omega (arith, p.within.2)

    parts_written : parts_say f (Some r) ≡ shortest Error f
    unfolding shortest
    parts_written = p.written

    module _ (n : ℕ) (ne : n ≡ length said) (c : ℕ) (ce : c ≡ length (composite_header 29 (r.count + 1) n)) where
      parts_length : length (parts_say f (Some r)) ≡ c + n
      unfolding parts_say
      parts_length =
          length-append (composite_header 29 (r.count + 1) (length said)) said ∙ rw (← ne, ← ce)

      pub error_fits : length f * 1 < 2 ^ 63 → Fits w64 (c + n)
      error_fits g = omega (arith, header_length 29 (r.count + 1) n, joined_short f r.from r.end r.len p.within.1 p.within.0)

      pub error_size : record { len = c + n; null = false } ≡ size_of (shortest Error f)
      error_size = size_is _ _ _ (sym parts_length) (parts_some f r) ∙ ap size_of parts_written

      module _ (d : List ℕ) (at : ℕ) (room : Room d at (shortest Error f)) where
        bounds : (at + (c + n) ≤ length d) × (at + (c + n) < 2 ^ 32)
        bounds =
            let l : length (shortest Error f) ≡ c + n = ap length (sym parts_written) ∙ parts_length in
            (omega (arith, room.fits), omega (arith, room.low))

        pub start_fits : Fits w64 (at + c)
        start_fits = omega (arith, bounds.1)

        pub size_low : Fits w32 n
        size_low = omega (arith, bounds.1)

        module _ (o₁ : List ℕ) (x : o₁ ≡ put d at (composite_header 29 (r.count + 1) n)) where
          pub joined_room : Room o₁ (at + c) said
          joined_room =
              let l : length o₁ ≡ length d = ap length x ∙ length_put d at (composite_header 29 (r.count + 1) n) in
              record { fits = omega (arith, bounds.0); low = omega (arith, bounds.1) }

          pub error_laid : (o₂ : List ℕ) → o₂ ≡ put o₁ (at + c) said → o₂ ≡ put d at (shortest Error f)
          unfolding parts_say
          error_laid o₂ y =
              y
              ∙ rw (x, ce) (put_put (composite_header 29 (r.count + 1) n) said d at (omega (arith, bounds.0))
              ∙ ap (put d at) (rw ne parts_written))
