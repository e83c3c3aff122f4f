-- The words of the code say of each field what the list of performatives says: a test that antt computes over all descriptors and fields.
-- Assumes nothing.
use mathlib.Core.Path.{◌≡◌, refl, sym, ap, ◌∙◌}
use mathlib.Core.Bool.{Bool, true, false}
use mathlib.Core.List.{List, [], ◌∷◌, map, ◌++◌}
use Rattle.std.specs.Prelude.{Option, None}
use Prim.Native.Nat.{ℕ, ◌*◌, ◌/◌, ◌%◌, ◌^◌, ◌<◌, ◌≤◌}
use native.Mathlib.Omega.{arith}
use lib.Dec.{leb}
use lib.ListN.{drop, get_or, replicate}
use borrow.Author.Tests.{ne_eqb, le-leb, leb-true, leb-false}
use Rattle.octets.specs.Octets.{starts_with}
use Rattle.octets.proofs.Tables.{up_from, same_below}
use Rattle.performatives.specs.Fields.{Field, fields_in, fields_of, field_in, field_of, field_at}
use Rattle.performatives.specs.Performative.{fits, fit}
use Rattle.performatives.specs.Inner.{rows_in, rows_from, row_in, row_named, RowsIn}
use Rattle.performatives.proofs.Table.{row_past}
use Rattle.performatives.proofs.Rows.{none_from}

-- the word of each descriptor from 0 to 24
abbrev words : List ℕ
words =
    replicate 16 0x00ffffffffffffff ++
    (0x01ffff0000037512 ∷ 0x04ffffff00054446 ∷ 0x0000000000000000 ∷ 0x00fff00000000000 ∷ 0x00fff00000000000 ∷ 0x00ffffffff000000
    ∷ 0x00fffffffffff800 ∷ 0x00fffffffffffff8 ∷ 0x00fffffffffffff8 ∷ [])

abbrev word_of : ℕ → ℕ
word_of k = get_or words k 0

-- two functions of a descriptor and a field
same_both : {A : Type 0} (f g : ℕ → ℕ → A) (n m : ℕ) → map (λ k. map (f k) (up_from 0 m)) (up_from 0 n) ≡ map (λ k. map (g k) (up_from 0 m)) (up_from 0 n) → (k i : ℕ) → k < n → i < m → f k i ≡ g k i
same_both f g n m e k i hk hi = same_below (f k) (g k) m (same_below (λ k. map (f k) (up_from 0 m)) (λ k. map (g k) (up_from 0 m)) n e k hk) i hi

row_right : (k i : ℕ) → k < 25 → i < 14 → row_named (word_of k / 2 ^ (4 * i) % 16) ≡ field_at k i
unfolding up_from row_named row_in field_at field_of field_in fields_of fields_in
row_right = same_both (λ k i. row_named (word_of k / 2 ^ (4 * i) % 16)) field_at 25 14 refl

least_low : (k i : ℕ) → k < 25 → i < 15 → fit (rows_from k i) [] ≡ leb (word_of k / 2 ^ 56) i
unfolding up_from rows_from fit fits starts_with fields_of fields_in
least_low = same_both (λ k i. fit (rows_from k i) []) (λ k i. leb (word_of k / 2 ^ 56) i) 25 15 refl

least_right : (k i : ℕ) → k < 25 → fit (rows_from k i) [] ≡ leb (word_of k / 2 ^ 56) i
unfolding fit
least_right k i hk = go (leb 14 i) refl
  where
    gone : (i : ℕ) → 14 ≤ i → fit (rows_from k i) [] ≡ true
    gone i h = rw (none_from k i (sym (row_past k i h)))

    go : (b : Bool) → leb 14 i ≡ b → fit (rows_from k i) [] ≡ leb (word_of k / 2 ^ 56) i
    go true e =
        let h : 14 ≤ i = leb-true _ _ e in
        let few : word_of k / 2 ^ 56 ≤ 14 = leb-true _ _ (sym (least_low k 14 hk (omega arith)) ∙ gone 14 (omega arith)) in
        gone i h ∙ sym (le-leb (word_of k / 2 ^ 56) i (omega arith))
    go false e = let h : i < 14 = leb-false _ _ e in least_low k i hk (omega arith)

-- an arm of the match
pub word_is : (code k word : ℕ) → code ≡ k → k < 25 → word_of k ≡ word → RowsIn code word
word_is code k word e h w = rw (e, ← w) (record { row = λ i. row_right k i h; least = λ i. least_right k i h })

-- the last arm of the match
pub word_none : (code : ℕ) → (code ≡ 16 → ⊥) → (code ≡ 17 → ⊥) → (code ≡ 18 → ⊥) → (code ≡ 19 → ⊥) → (code ≡ 20 → ⊥) → (code ≡ 21 → ⊥) → (code ≡ 22 → ⊥) → (code ≡ 23 → ⊥) → (code ≡ 24 → ⊥) → RowsIn code 0x00ffffffffffffff
unfolding field_at rows_from fields_of fields_in
word_none code a b c d e f g h i =
    let n : fields_of code ≡ fields_of 0 = rw (ne_eqb code 16 a, ne_eqb code 17 b, ne_eqb code 18 c, ne_eqb code 19 d, ne_eqb code 20 e, ne_eqb code 21 f, ne_eqb code 22 g, ne_eqb code 23 h, ne_eqb code 24 i) in
    let w : RowsIn 0 0x00ffffffffffffff = word_is 0 0 0x00ffffffffffffff refl (omega arith) refl in
    record { row = λ j l. w.row j l ∙ ap (λ (o : Option (List Field)). field_of o j) (sym n); least = λ j. ap (λ (o : Option (List Field)). fit (drop j (rows_in o)) []) n ∙ w.least j }

-- ---- the rows by their letters

pub row_is : (letter n : ℕ) (v : Option Field) → letter ≡ n → v ≡ row_named n → v ≡ row_named letter
row_is letter n v e q = rw e q

-- the last arm of the match
pub row_else : (n : ℕ) → (n ≡ 0 → ⊥) → (n ≡ 1 → ⊥) → (n ≡ 2 → ⊥) → (n ≡ 3 → ⊥) → (n ≡ 4 → ⊥) → (n ≡ 5 → ⊥) → (n ≡ 6 → ⊥) → (n ≡ 7 → ⊥) → (n ≡ 8 → ⊥) → None ≡ row_named n
unfolding row_named row_in
row_else n h0 h1 h2 h3 h4 h5 h6 h7 h8 =
    rw (ne_eqb n 0 h0, ne_eqb n 1 h1, ne_eqb n 2 h2, ne_eqb n 3 h3, ne_eqb n 4 h4, ne_eqb n 5 h5, ne_eqb n 6 h6, ne_eqb n 7 h7, ne_eqb n 8 h8)

-- field i of a performative
pub field_is : (code i word : ℕ) (v : Option Field) → RowsIn code word → i < 14 → v ≡ row_named (word / 2 ^ (4 * i) % 16) → v ≡ field_at code i
field_is code i word v w h q = q ∙ w.row i h
