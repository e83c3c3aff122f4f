-- A Close that was written is read back with its error, or with none. The result is `close_read_back`.
-- Assumes nothing.
use mathlib.Core.Path.{◌≡◌, refl, ap, ◌∙◌}
use mathlib.Core.Bool.{true, false}
use mathlib.Core.List.{List, [], ◌∷◌, ◌++◌, append_assoc}
use Rattle.std.specs.Prelude.{Option, None, Some}
use Prim.Native.Nat.{ℕ, suc, ◌+◌, ◌≤◌}
use native.Mathlib.Omega.{arith}
use lib.ListN.{length, get_or, length-append, get_or-eq_default}
use lib.Seq.{take-append_seam, drop-append_seam}
use lib.Dec.{leb}
use borrow.Author.Tests.{le-leb, leb-true}
use Rattle.octets.specs.Verdict.{accept}
use Rattle.octets.specs.Octets.{big_endian, big_endian_from, starts_with}
use Rattle.text.specs.Ascii.{ascii}
use Rattle.values.specs.Null.{null}
use Rattle.values.proofs.Written.{Whole, Each}
use Rattle.serializer.specs.Written.{text_header, text, joined, trimmed, composite_header, composite_of, composite}
use Rattle.serializer.proofs.Laws.{text_len_short, header_few}
use Rattle.performatives.specs.Fields.{Error, fields_in, fields_of}
use Rattle.performatives.specs.Performative.{fits, fit, start_of, text_at, condition}
use Rattle.frame_decoder.specs.Frame.{read_frame}
use Rattle.frame_encoder.specs.Frames.{frame_bytes, ErrorText, description_ok, error_ok, description_field, error_fields, error_field, close_ok, close_body}
use Rattle.frame_encoder.proofs.Laws.{length_frame}
use Rattle.codec.specs.ReadBack.{frame_of, ReadBack, ConditionIn, CloseSays}
use Rattle.codec.proofs.Values.{fits_present, null_whole, string_whole, symbol_whole, symbol_first, symbol_present, composite_whole, composite_present, error_typed, condition_read}
use Rattle.codec.proofs.Trimmed.{and_was, trimmed_few, trimmed_short, trimmed_present, trimmed_each, trimmed_field}
use Rattle.codec.proofs.Frames.{rows_of, read_as_lem, composite_framed}

-- ---- the description

description_short : (o : Option (List ℕ)) → description_ok o ≡ true → length (description_field o) ≤ 257
unfolding description_field
description_short None e = omega arith
description_short (Some d) e =
    let l : length d ≤ 255 = leb-true _ _ (and_was (leb (length d) 255) _ e).0 in
    omega (arith, text_len_short 0xa1 d l)

description_whole : (d : ℕ) (o : Option (List ℕ)) → description_ok o ≡ true → Whole (suc d) (description_field o)
unfolding description_field
description_whole d None e = null_whole d
description_whole d (Some b) e =
    let l : length b ≤ 255 = leb-true _ _ (and_was (leb (length b) 255) _ e).0 in
    string_whole b d (omega arith)

-- ---- the error

module _ (e : ErrorText) (ok : error_ok e ≡ true) where
  record Bounds : Type 0 where
    condition_short : length e.condition ≤ 255
    description_fine : description_ok e.description ≡ true

  bounds : Bounds
  unfolding error_ok
  bounds =
      let a = and_was (leb (length e.condition) 255) _ ok in
      let b = and_was (ascii e.condition) _ a.1 in
      record { condition_short = leb-true _ _ a.0; description_fine = b.1 }

  -- the description, if there is one
  rest : List (List ℕ)
  rest = trimmed (description_field e.description ∷ [])

  fields : List (List ℕ)
  fields = text 0xa3 e.condition ∷ rest

  fields_are : trimmed (error_fields e) ≡ fields
  unfolding error_fields rest fields
  fields_are = trimmed_present (text 0xa3 e.condition) (description_field e.description ∷ []) (symbol_present e.condition)

  fields_few : length fields ≤ 2
  unfolding rest fields
  fields_few = omega (arith, trimmed_few (description_field e.description ∷ []))

  fields_some : 1 ≤ length fields
  unfolding fields
  fields_some = omega arith

  fields_short : length (joined fields) ≤ 600
  unfolding rest fields joined
  fields_short =
      let k : length (joined rest) ≤ length (description_field e.description ++ []) = trimmed_short (description_field e.description ∷ []) in
      omega (arith, length-append (text 0xa3 e.condition) (joined rest), length-append (description_field e.description) [], text_len_short 0xa3 e.condition bounds.condition_short, bounds.condition_short, description_short e.description bounds.description_fine)

  fields_whole : (d : ℕ) → Each (Whole (suc d)) fields
  unfolding rest fields
  fields_whole d = (
    symbol_whole e.condition d (omega (arith, bounds.condition_short)),
    trimmed_each (Whole (suc d)) (description_field e.description ∷ []) (description_whole d e.description bounds.description_fine, tt),
  )

  error_is : error_field (Some e) ≡ composite_of 29 fields
  unfolding error_field composite
  error_is = ap (composite_of 29) fields_are

  error_whole : Whole 16 (error_field (Some e))
  error_whole = rw error_is (composite_whole 14 fields (fields_whole 13) (omega (arith, fields_few)) (omega (arith, fields_short)) 29)

  error_fits : fits Error false (error_field (Some e)) ≡ true
  unfolding joined fields
  error_fits =
      rw error_is (fits_present Error false (composite_of 29 fields) (composite_present 29 fields)
      (error_typed fields fields_some (omega (arith, fields_few)) (omega (arith, fields_short)) (symbol_first e.condition (joined rest))))

  error_short : length (error_field (Some e)) ≤ 612
  error_short = rw error_is (omega (arith, fields_short, header_few 29 (length fields) (length (joined fields)), length-append (composite_header 29 (length fields) (length (joined fields))) (joined fields)))

-- ---- the field of a Close

close_whole : (o : Option ErrorText) → close_ok o ≡ true → Each (Whole 16) (error_field o ∷ [])
unfolding error_field
close_whole None ok = (null_whole 15, tt)
close_whole (Some e) ok = (error_whole e ok, tt)

close_fit : (o : Option ErrorText) → close_ok o ≡ true → fit (rows_of 24) (error_field o ∷ []) ≡ true
unfolding fields_of fields_in fit fits error_field starts_with
close_fit None ok = refl
close_fit (Some e) ok = rw (error_fits e ok)

close_short : (o : Option ErrorText) → close_ok o ≡ true → length (error_field o) ≤ 612
unfolding error_field
close_short None ok = omega arith
close_short (Some e) ok = error_short e ok

module _ (o : Option ErrorText) (ok : close_ok o ≡ true) where
  frame_short : length (frame_bytes 0 (close_body o)) ≤ 1000
  unfolding composite joined
  frame_short =
      let fs : List (List ℕ) = trimmed (error_field o ∷ []) in
      let k : length (joined fs) ≤ length (error_field o ++ []) = trimmed_short (error_field o ∷ []) in
      omega (arith, length-append (error_field o) [], close_short o ok, length_frame 0 (close_body o), length-append (composite_header 24 (length fs) (length (joined fs))) (joined fs), header_few 24 (length fs) (length (joined fs)))

  close_accepted : (limit highest : ℕ) (t : List ℕ) → length (frame_bytes 0 (close_body o)) ≤ limit → read_frame limit highest (frame_bytes 0 (close_body o) ++ t) ≡ accept (frame_of 0 (close_body o), Some (read_as_lem 24 (trimmed (error_field o ∷ []))))
  unfolding fields_of fields_in
  close_accepted limit highest t room =
      composite_framed limit highest 0 24 (rows_of 24) (error_field o ∷ []) t (omega arith) (omega arith) (omega (arith, frame_short)) room refl (close_whole o ok) (close_fit o ok) (omega arith)

-- ---- the condition

nested : (h g k c r : List ℕ) → h ++ ((g ++ ((k ++ c) ++ r)) ++ []) ≡ (h ++ (g ++ k)) ++ (c ++ (r ++ []))
nested h g k c r = simp append_assoc

symbol_is : (c : List ℕ) → length c ≤ 255 → text 0xa3 c ≡ (0xa3 ∷ length c ∷ []) ++ c
unfolding text text_header
symbol_is c h = rw (le-leb _ _ h)

symbol_at : (at : ℕ) (c s : List ℕ) → length c ≤ 255 → text_at at (text 0xa3 c ++ s) ≡ (at + 2) ∷ length c ∷ []
unfolding starts_with big_endian big_endian_from
symbol_at at c s h = let z : 0 + length c ≡ length c = omega arith in rw (symbol_is c h, z)

module _ (e : ErrorText) (ok : error_ok e ≡ true) where
  only : trimmed (error_field (Some e) ∷ []) ≡ composite_of 29 (fields e ok) ∷ []
  unfolding trimmed
  only = ap (λ (f : List ℕ). trimmed (f ∷ [])) (error_is e ok) ∙ trimmed_present (composite_of 29 (fields e ok)) [] (composite_present 29 (fields e ok))

  outer : List ℕ
  outer = composite_header 24 1 (length (joined (composite_of 29 (fields e ok) ∷ [])))

  inner : List ℕ
  inner = composite_header 29 (length (fields e ok)) (length (joined (fields e ok)))

  -- what stands before the condition
  front : List ℕ
  front = outer ++ (inner ++ (0xa3 ∷ length e.condition ∷ []))

  body_is : close_body (Some e) ≡ front ++ (e.condition ++ (joined (rest e ok) ++ []))
  unfolding composite front outer inner fields joined
  body_is =
      ap (composite_of 24) only
      ∙ ap (λ (c : List ℕ). outer ++ ((inner ++ (c ++ joined (rest e ok))) ++ [])) (symbol_is e.condition (bounds e ok).condition_short)
      ∙ nested outer inner (0xa3 ∷ length e.condition ∷ []) e.condition (joined (rest e ok))

  condition_found : condition 0 (read_as_lem 24 (composite_of 29 (fields e ok) ∷ [])) ≡ length front ∷ length e.condition ∷ []
  unfolding front outer inner joined fields start_of
  condition_found =
      let n : length outer + 0 + length inner + 2 ≡ length front = omega (arith, length-append outer (inner ++ (0xa3 ∷ length e.condition ∷ [])), length-append inner (0xa3 ∷ length e.condition ∷ [])) in
      condition_read 0 (read_as_lem 24 (composite_of 29 (fields e ok) ∷ [])) (fields e ok) refl (omega (arith, fields_few e ok)) (omega (arith, fields_short e ok))
      ∙ symbol_at (length outer + 0 + length inner) e.condition (joined (rest e ok)) (bounds e ok).condition_short
      ∙ ap (λ (at : ℕ). at ∷ length e.condition ∷ []) n

condition_in : (o : Option ErrorText) → close_ok o ≡ true → ConditionIn (close_body o) o (condition 0 (read_as_lem 24 (trimmed (error_field o ∷ []))))
unfolding error_field trimmed condition starts_with
condition_in None ok = refl
condition_in (Some e) ok = (
  length (front e ok),
  ap (λ (fs : List (List ℕ)). condition 0 (read_as_lem 24 fs)) (only e ok) ∙ condition_found e ok,
  rw (body_is e ok, drop-append_seam (front e ok) (e.condition ++ (joined (rest e ok) ++ []))) (take-append_seam e.condition (joined (rest e ok) ++ [])),
)

close_says : (o : Option ErrorText) → close_ok o ≡ true → CloseSays o (read_as_lem 24 (trimmed (error_field o ∷ [])))
unfolding composite
close_says o ok =
    let at : (i : ℕ) → get_or (trimmed (error_field o ∷ [])) i null ≡ get_or (error_field o ∷ []) i null = λ i. trimmed_field 16 (error_field o ∷ []) i (close_whole o ok) in
    record { code = refl; end = refl; error = at 0; others = λ i k. at i ∙ get_or-eq_default (error_field o ∷ []) null k; condition_in = condition_in o ok }

pub close_read_back : (o : Option ErrorText) → close_ok o ≡ true → (limit highest : ℕ) (t : List ℕ) → length (frame_bytes 0 (close_body o)) ≤ limit → ReadBack limit highest 0 (close_body o) t (CloseSays o)
close_read_back o ok limit highest t room = record { found = read_as_lem 24 (trimmed (error_field o ∷ [])); read = close_accepted o ok limit highest t room; says = close_says o ok }
