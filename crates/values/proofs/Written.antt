-- Written forms are whole values, whatever stands after them: one law for the fixed widths, one for each other kind, with the width of its sizes as a parameter.
-- Assumes nothing.
use mathlib.Core.Path.{◌≡◌, refl, sym, ap, ◌∙◌}
use mathlib.Core.Bool.{true}
use mathlib.Core.List.{List, [], ◌∷◌, ◌++◌, append_assoc, append-nil, flatten}
use Prim.Native.Nat.{ℕ, zero, suc, ◌+◌, ◌-◌, ◌*◌, ◌/◌, ◌%◌, ◌^◌, ◌<◌}
use native.Mathlib.Nat.{div-one, div-eq_of_lt, div-div-eq-div-mul, div-add-mod', pow-suc}
use native.Mathlib.Omega.{arith}
use lib.ListN.{length, take, drop, length-append}
use lib.Seq.{length-take-le, take_at, drop_at, take-append_seam, drop-append_seam}
use Rattle.octets.specs.Verdict.{accept}
use Rattle.octets.specs.Octets.{big_endian, big_endian_from, bytes_of}
use Rattle.octets.proofs.Laws.{then_accept, length_bytes_of}
use Rattle.values.specs.Value.{Shape, list, Kind, fixed, variable, compound, codes, kind_in, kind_of, followed_by, times, number_in, variable_end, paired_in, items, compound_end, body, run, value_end}
use Rattle.values.proofs.Cases.{bytes_yes}
use Rattle.values.proofs.Apart.{plus_is, both_is, number_is, compound_is}
use Rattle.values.proofs.Laws.{value_local, value_within, value_of_code, value_described}

-- s is one whole value at the first of d levels, wherever it stands
abbrev pub Whole : ℕ → List ℕ → Type 0
Whole d s = (t : List ℕ) → value_end d (s ++ t) ≡ accept (length s)

-- the bytes of a value that was read are one
pub value_whole : (d : ℕ) (s : List ℕ) (n : ℕ) → value_end d s ≡ accept n → Whole d (take n s)
value_whole d s n e t = value_local d s n e t ∙ ap accept (sym (length-take-le n s (value_within d s n e)))

-- ---- numbers

bytes_from : (w x : ℕ) → big_endian_from (x / 256 ^ w) (bytes_of w x) ≡ x
unfolding big_endian_from bytes_of
bytes_from zero x = div-one x
bytes_from (suc w) x =
    let p : x / 256 ^ suc w ≡ x / 256 ^ w / 256 = ap (λ (n : ℕ). x / n) (pow-suc 256 w) ∙ sym (div-div-eq-div-mul x (256 ^ w) 256) in
    let q : x / 256 ^ suc w * 256 + x / 256 ^ w % 256 ≡ x / 256 ^ w = rw p (div-add-mod' (x / 256 ^ w) 256) in
    ap (λ (n : ℕ). big_endian_from n (bytes_of w x)) q ∙ bytes_from w x

-- a number that w bytes can hold is read back from them
pub bytes_number : (w x : ℕ) → x < 256 ^ w → big_endian (bytes_of w x) ≡ x
unfolding big_endian
bytes_number w x h = ap (λ (n : ℕ). big_endian_from n (bytes_of w x)) (sym (div-eq_of_lt h)) ∙ bytes_from w x

pub number_written : (w x : ℕ) (t : List ℕ) → x < 256 ^ w → number_in w (bytes_of w x ++ t) ≡ accept x
number_written w x t h =
    let l : length (bytes_of w x) ≡ w = length_bytes_of w x in
    number_is w (bytes_of w x ++ t) (omega (arith, length-append (bytes_of w x) t))
    ∙ ap accept (ap big_endian (take_at (bytes_of w x) t w l) ∙ bytes_number w x h)

-- ---- a code with its body

pub code_whole : (d c : ℕ) (k : Kind) (s : List ℕ) → kind_of c ≡ accept k → ((t : List ℕ) → body (run d) k (s ++ t) ≡ accept (length s)) → Whole (suc d) (c ∷ s)
code_whole d c k s e h t = value_of_code d c k (s ++ t) e ∙ plus_is 1 _ (length s) (h t) ∙ ap accept (omega arith)

pub fixed_whole : (d c w : ℕ) (bs : List ℕ) → kind_of c ≡ accept (fixed w) → length bs ≡ w → Whole (suc d) (c ∷ bs)
unfolding body
fixed_whole d c w bs e l = code_whole d c (fixed w) bs e (λ t. rw l (sym (bytes_yes w (bs ++ t) (omega (arith, length-append bs t)))))

pub variable_whole : (d c w : ℕ) (bs : List ℕ) → kind_of c ≡ accept (variable w) → length bs < 256 ^ w → Whole (suc d) (c ∷ bytes_of w (length bs) ++ bs)
unfolding body variable_end
variable_whole d c w bs e h =
    code_whole d c (variable w) (bytes_of w (length bs) ++ bs) e (λ t.
    let a : bytes_of w (length bs) ++ bs ++ t ≡ bytes_of w (length bs) ++ (bs ++ t) = append_assoc (bytes_of w (length bs)) bs t in
    let l : length (bytes_of w (length bs) ++ bs) ≡ w + length bs = length-append (bytes_of w (length bs)) bs ∙ ap (λ (n : ℕ). n + length bs) (length_bytes_of w (length bs)) in
    then_accept (number_in w (bytes_of w (length bs) ++ bs ++ t)) _ (length bs) (ap (number_in w) a ∙ number_written w (length bs) (bs ++ t) h)
    ∙ sym (bytes_yes (w + length bs) (bytes_of w (length bs) ++ bs ++ t) (omega (arith, length-append (bytes_of w (length bs) ++ bs) t)))
    ∙ ap accept (sym l))

-- ---- compounds

-- what stands after the code of a compound: its size, its count and the bytes of its items
abbrev pub compound_bytes : ℕ → ℕ → List ℕ → List ℕ
compound_bytes w count bs = bytes_of w (w + length bs) ++ bytes_of w count ++ bs

module _ (d w : ℕ) (shape : Shape) (count : ℕ) (bs : List ℕ) (pairs : paired_in shape count ≡ true) (full : items (run d) shape count bs ≡ accept (length bs)) (low : w + length bs < 256 ^ w) (few : count < 256 ^ w) where
  compound_body : (t : List ℕ) → compound_end (run d) shape w (compound_bytes w count bs ++ t) ≡ accept (length (compound_bytes w count bs))
  compound_body t =
      let A : List ℕ = bytes_of w (w + length bs) in
      let B : List ℕ = bytes_of w count in
      let la : length A ≡ w = length_bytes_of w (w + length bs) in
      let lb : length B ≡ w = length_bytes_of w count in
      let lab : length (A ++ B) ≡ w + w = omega (arith, length-append A B) in
      let lbs : length (B ++ bs) ≡ w + length bs = omega (arith, length-append B bs) in
      let l : length (A ++ B ++ bs) ≡ w + (w + length bs) = omega (arith, length-append (A ++ B) bs) in
      let s : A ++ B ++ bs ++ t ≡ A ++ (B ++ bs ++ t) = simp append_assoc in
      let counted : take (w + length bs) (drop w (A ++ B ++ bs ++ t)) ≡ B ++ bs = rw s (ap (take (w + length bs)) (drop_at A (B ++ bs ++ t) w la) ∙ take_at (B ++ bs) t (w + length bs) lbs) in
      let k : (w + length bs) - w ≡ length bs = omega arith in
      let inner : take ((w + length bs) - w) (drop (w + w) (A ++ B ++ bs ++ t)) ≡ bs =
      rw (k, append_assoc (A ++ B) bs t) (ap (take (length bs)) (drop_at (A ++ B) (bs ++ t) (w + w) lab) ∙ take-append_seam bs t) in
      compound_is (run d) shape w (A ++ B ++ bs ++ t) (w + length bs) count
      (record { sized = ap (number_in w) s ∙ number_written w (w + length bs) (B ++ bs ++ t) low; fits = omega (arith, length-append (A ++ B ++ bs) t); counted = ap (number_in w) counted ∙ number_written w count bs few; paired = pairs })
      (omega arith) (ap (items (run d) shape count) inner ∙ full ∙ ap accept (sym k))
      ∙ ap accept (sym l)

  pub compound_whole : (c : ℕ) → kind_of c ≡ accept (compound shape w) → Whole (suc d) (c ∷ compound_bytes w count bs)
  unfolding body
  compound_whole c e = code_whole d c (compound shape w) (compound_bytes w count bs) e compound_body

-- ---- a list of values

abbrev pub Each : (List ℕ → Type 0) → List (List ℕ) → Type 0
Each P [] = Unit {0}
Each P (s ∷ ss) = P s × Each P ss

pub items_whole : (d : ℕ) (ss : List (List ℕ)) → Each (Whole d) ss → (t : List ℕ) → times (length ss) (value_end d) (flatten ss ++ t) ≡ accept (length (flatten ss))
unfolding times flatten
items_whole d [] h t = refl
items_whole d (s ∷ ss) h t =
    ap (followed_by (value_end d) (times (length ss) (value_end d))) (append_assoc s (flatten ss) t)
    ∙ both_is (value_end d) (times (length ss) (value_end d)) (s ++ (flatten ss ++ t)) (length s) (length (flatten ss)) (h.0 (flatten ss ++ t))
    (ap (times (length ss) (value_end d)) (drop-append_seam s (flatten ss ++ t)) ∙ items_whole d ss h.1 t)
    ∙ ap accept (sym (length-append s (flatten ss)))

list_items : (d : ℕ) (ss : List (List ℕ)) → Each (Whole d) ss → items (run d) list (length ss) (flatten ss) ≡ accept (length (flatten ss))
unfolding items value_end
list_items d ss each = ap (times (length ss) (run d 1)) (sym (append-nil (flatten ss))) ∙ items_whole d ss each []

-- with c and w as C0 and 1, or D0 and 4
pub list_whole : (d c w : ℕ) (ss : List (List ℕ)) → kind_of c ≡ accept (compound list w) → Each (Whole d) ss → w + length (flatten ss) < 256 ^ w → length ss < 256 ^ w → Whole (suc d) (c ∷ compound_bytes w (length ss) (flatten ss))
unfolding paired_in
list_whole d c w ss e each low few = compound_whole d w list (length ss) (flatten ss) refl (list_items d ss each) low few c e

-- 45
pub list_none : (d : ℕ) → Whole (suc d) (0x45 ∷ [])
unfolding kind_of kind_in codes
list_none d = fixed_whole d 0x45 0 [] refl refl

-- ---- a described value

pub described_whole : (d : ℕ) (a b : List ℕ) → Whole d a → Whole d b → Whole (suc d) (0 ∷ a ++ b)
described_whole d a b ha hb t =
    value_described d (a ++ b ++ t)
    ∙ plus_is 1 _ (length a + length b)
    (ap (followed_by (value_end d) (value_end d)) (append_assoc a b t)
    ∙ both_is (value_end d) (value_end d) (a ++ (b ++ t)) (length a) (length b) (ha (b ++ t)) (ap (value_end d) (drop-append_seam a (b ++ t)) ∙ hb t))
    ∙ ap accept (omega (arith, length-append a b))
