-- An error that is a whole value: its condition, the first value of its list, is whole too.
-- Assumes nothing.
use mathlib.Core.Path.{◌≡◌, refl, sym, ap, ◌∙◌, subst}
use mathlib.Core.Bool.{Bool, true, false, cond, ◌||◌, ◌&&◌}
use mathlib.Core.List.{List, [], ◌∷◌}
use Prim.Native.Nat.{ℕ, zero, suc, ◌+◌, ◌-◌, ◌≤◌}
use native.Mathlib.Nat.{suc-add, zero-add}
use native.Mathlib.Omega.{arith}
use lib.ListN.{length, take, drop}
use lib.Seq.{drop-drop}
use lib.Dec.{eqb, leb}
use borrow.Author.Tests.{eqb-true, leb-true}
use Rattle.octets.specs.Verdict.{refuse, accept}
use Rattle.octets.specs.Octets.{big_endian, starts_with}
use Rattle.octets.proofs.Laws.{require_was}
use Rattle.values.specs.Value.{list, compound, codes, kind_in, kind_of, followed_by, times, items, compound_end, body, opening, level, run, value_end}
use Rattle.values.proofs.Apart.{accepted, then_was, plus_was, both_was, opening_is, compound_was}
use Rattle.values.proofs.Laws.{value_deeper, value_of_code, value_variable, value_described}
use Rattle.performatives.specs.Performative.{Items, sized, list_at, descriptor, Described, described_by, described, items_of, error_shape, is_error}
use Rattle.performatives.specs.Inner.{text_from}
use Rattle.performatives.proofs.Bools.{and_first, and_second}

-- ---- the first value of a list

first_of : (d count : ℕ) (t : List ℕ) (n : ℕ) → 1 ≤ count → times count (run d 1) t ≡ accept n → (m : ℕ) × (value_end d t ≡ accept m)
unfolding times value_end
first_of d zero t n h e = absurd (omega arith)
first_of d (suc count) t n h e = let b = both_was (run d 1) (times count (run d 1)) t n e in (b.first, b.first_ends)

sized_first : (d w c : ℕ) (t : List ℕ) (l : Items) (n : ℕ) → kind_of c ≡ accept (compound list w) → sized w (c ∷ t) ≡ accept l → 1 ≤ l.count → value_end (suc d) (c ∷ t) ≡ accept n → (m : ℕ) × (value_end d (take (l.end - l.from) (drop l.from (c ∷ t))) ≡ accept m)
unfolding sized body items
sized_first d w c t l n kind e h r =
    let p = plus_was 1 (compound_end (run d) list w t) n (sym (value_of_code d c (compound list w) t kind) ∙ r) in
    let k = compound_was (run d) list w t p.0 p.1 in
    let a = then_was (opening list w t) _ l e in
    let o : (k.size, k.count) ≡ a.0 = accepted _ a.0 (sym (opening_is list w t k.size k.count k.opens) ∙ a.1) in
    let q : l ≡ record { count = k.count; from = 1 + w + w; end = 1 + w + k.size } = sym (accepted _ l a.2) ∙ ap (λ (o : ℕ × ℕ). record { count = o.1; from = 1 + w + w; end = 1 + w + o.0 }) (sym o) in
    let f = first_of d k.count _ _ (subst (λ (x : Items). 1 ≤ x.count) q h) k.filled in
    let x : (1 + w + k.size) - (1 + w + w) ≡ k.size - w = omega arith in
    let y : 1 + w + w ≡ suc (w + w) = omega arith in
    subst (λ (x : Items). (m : ℕ) × (value_end d (take (x.end - x.from) (drop x.from (c ∷ t))) ≡ accept m)) (sym q) (rw (x, y) f)

coded : (x c : ℕ) (t : List ℕ) → starts_with (c ∷ []) (x ∷ t) ≡ true → x ≡ c
unfolding starts_with
coded x c t h = go (eqb x c) refl h
  where
    go : (b : Bool) → eqb x c ≡ b → b || false ≡ true → x ≡ c
    go true e q = eqb-true x c e
    go false e q = let z : ◌≡◌ {A = ℕ} 0 1 = cc in absurd (omega arith)

list_first : (d : ℕ) (u : List ℕ) (l : Items) (n : ℕ) → list_at u ≡ accept l → 1 ≤ l.count → value_end (suc d) u ≡ accept n → (m : ℕ) × (value_end d (take (l.end - l.from) (drop l.from u)) ≡ accept m)
unfolding list_at starts_with kind_of kind_in codes
list_first d [] l n e h r = let z : ◌≡◌ {A = ℕ} 0 1 = cc in absurd (omega arith)
list_first d (x ∷ t) l n e h r = go (starts_with (0x45 ∷ []) (x ∷ t)) (starts_with (0xc0 ∷ []) (x ∷ t)) (starts_with (0xd0 ∷ []) (x ∷ t)) refl refl e
  where
    go : (a b c : Bool) → starts_with (0xc0 ∷ []) (x ∷ t) ≡ b → starts_with (0xd0 ∷ []) (x ∷ t) ≡ c → cond a (accept (record { count = 0; from = 1; end = 1 })) (cond b (sized 1 (x ∷ t)) (cond c (sized 4 (x ∷ t)) (refuse 6))) ≡ accept l → (m : ℕ) × (value_end d (take (l.end - l.from) (drop l.from (x ∷ t))) ≡ accept m)
    go true b c p q e =
        let k : l ≡ record { count = 0; from = 1; end = 1 } = sym (accepted _ l e) in
        absurd (omega (arith, rw k at h))
    go false true c p q e =
        let k : x ≡ 0xc0 = coded x 0xc0 t p in
        rw k (sized_first d 1 0xc0 t l n refl (rw k at e) h (rw k at r))
    go false false true p q e =
        let k : x ≡ 0xd0 = coded x 0xd0 t q in
        rw k (sized_first d 4 0xd0 t l n refl (rw k at e) h (rw k at r))
    go false false false p q e = let z : ◌≡◌ {A = ℕ} 0 1 = cc in absurd (omega arith)

-- ---- the first value of a described list

deeper : (k d : ℕ) (s : List ℕ) (n : ℕ) → value_end d s ≡ accept n → value_end (k + d) s ≡ accept n
deeper zero d s n e = rw zero-add e
deeper (suc k) d s n e = rw suc-add (value_deeper (k + d) s n (deeper k d s n e))

described_first : (x : ℕ) (t : List ℕ) (n : ℕ) → value_end 16 (x ∷ t) ≡ accept n → (c : ℕ × ℕ) → descriptor (x ∷ t) ≡ accept c → (l : Items) → list_at (drop c.1 (x ∷ t)) ≡ accept l → 1 ≤ l.count → (m : ℕ) × (value_end 14 (take (l.end - l.from) (drop l.from (drop c.1 (x ∷ t)))) ≡ accept m)
unfolding descriptor
described_first x t n e c p l q h =
    let a = require_was 6 (starts_with (0 ∷ []) (x ∷ t) && starts_with (0x80 ∷ 0x53 ∷ 0x44 ∷ []) t) _ c p in
    let v = then_was (value_end 1 t) _ c a.1 in
    let z : x ≡ 0 = coded x 0 t (and_first (starts_with (0 ∷ []) (x ∷ t)) _ a.0) in
    let g = plus_was 1 (followed_by (value_end 15) (value_end 15) t) n (sym (value_described 15 t) ∙ rw z at e) in
    let b = both_was (value_end 15) (value_end 15) t g.0 g.1 in
    let m : v.0 ≡ b.first = accepted v.0 b.first (sym (deeper 14 1 t v.0 v.1) ∙ b.first_ends) in
    let u : c.1 ≡ 1 + v.0 = ap (λ (d : ℕ × ℕ). d.1) (sym (accepted _ c v.2)) in
    let k : c.1 ≡ suc b.first = omega arith in
    let y : drop c.1 (x ∷ t) ≡ drop b.first t = ap (λ (j : ℕ). drop j (x ∷ t)) k in
    rw y (list_first 14 (drop b.first t) l b.second (rw y at q) h b.second_ends)

-- the list's place in what is described
listed : (f : List ℕ) (d : ℕ × ℕ) (l : Items) → items_of (described_by d l) f ≡ take (l.end - l.from) (drop l.from (drop d.1 f))
listed f d l =
    let x : (d.1 + l.end) - (d.1 + l.from) ≡ l.end - l.from = omega arith in
    rw (x, drop-drop l.from d.1 f)

-- ---- a symbol

-- a text is whole: the bytes before it, and as many as they count
abbrev pub Whole_text : List ℕ → Type 0
Whole_text s = text_from s + big_endian (take (text_from s - 1) (drop 1 s)) ≤ length s

symbol_text : (d : ℕ) (s : List ℕ) (m : ℕ) → starts_with (0xa3 ∷ 0xb3 ∷ []) s ≡ true → value_end (suc d) s ≡ accept m → Whole_text s
unfolding starts_with kind_of kind_in codes
symbol_text d [] m h e = let z : ◌≡◌ {A = ℕ} 0 1 = cc in absurd (omega arith)
symbol_text d (x ∷ t) m h e = go (eqb x 0xa3) (eqb x 0xb3) refl refl
  where
    go : (a b : Bool) → eqb x 0xa3 ≡ a → eqb x 0xb3 ≡ b → Whole_text (x ∷ t)
    go true b p q =
        let k : x ≡ 0xa3 = eqb-true x 0xa3 p in
        let v = value_variable d 0xa3 1 t m refl (rw k at e) in
        rw k (omega (arith, v.1))
    go false true p q =
        let k : x ≡ 0xb3 = eqb-true x 0xb3 q in
        let v = value_variable d 0xb3 4 t m refl (rw k at e) in
        rw k (omega (arith, v.1))
    go false false p q =
        let f : false ≡ true = rw (p, q) at h in
        let z : ◌≡◌ {A = ℕ} 0 1 = cc in
        absurd (omega arith)

-- the condition of an error that is a whole value
pub error_text_lem : (f : List ℕ) (n : ℕ) (d : Described) → value_end 16 f ≡ accept n → described f ≡ accept d → is_error f ≡ true → Whole_text (items_of d f)
unfolding described is_error error_shape value_end run level
error_text_lem [] n d e q h = let z : ◌≡◌ {A = ℕ} 0 1 = cc in absurd (omega arith)
error_text_lem (x ∷ t) n d e q h =
    let a = then_was (descriptor (x ∷ t)) _ d q in
    let b = then_was (list_at (drop a.0.1 (x ∷ t))) _ d a.2 in
    let r : d ≡ described_by a.0 b.0 = sym (accepted _ d b.2) in
    let k = and_second (eqb d.code 29) _ (rw q at h) in
    let Some : 1 ≤ d.count = leb-true _ _ (and_first (leb 1 d.count) _ k) in
    let symbol = and_second (leb d.count 3) _ (and_second (leb 1 d.count) _ k) in
    let f = described_first x t n e a.0 a.1 b.0 b.1 (subst (λ (y : Described). 1 ≤ y.count) r Some) in
    let i : items_of d (x ∷ t) ≡ take (b.0.end - b.0.from) (drop b.0.from (drop a.0.1 (x ∷ t))) = ap (λ (y : Described). items_of y (x ∷ t)) r ∙ listed (x ∷ t) a.0 b.0 in
    rw i (symbol_text 13 _ f.0 (rw i at symbol) f.1)
