-- What is read at the front of bytes is read again where other bytes stand behind it: `take e s ++ t` in the place of s, where it ends at e at the latest.
-- Assumes nothing.
use mathlib.Core.Path.{◌≡◌, refl, sym, ap, ◌∙◌, subst}
use mathlib.Core.Bool.{Bool, true, false, cond, ◌&&◌}
use mathlib.Core.List.{List, [], ◌∷◌, ◌++◌, append_assoc}
use Prim.Native.Nat.{ℕ, zero, suc, ◌+◌, ◌-◌, ◌≤◌}
use native.Mathlib.Omega.{arith}
use lib.ListN.{length, take, drop, length-append, length-drop}
use lib.Seq.{length-take-le, take-take, take-append-le, drop-append-le, take-add}
use Rattle.octets.specs.Verdict.{refuse, accept, and_then}
use Rattle.octets.specs.Octets.{big_endian, starts_with}
use Rattle.octets.proofs.Laws.{require_on, require_was}
use Rattle.values.specs.Value.{list, opening, number_in, value_end}
use Rattle.values.proofs.Apart.{accepted, then_was, number_was, number_is, opening_was, opening_is}
use Rattle.values.proofs.Laws.{value_within, value_some, value_local}
use Rattle.performatives.specs.Performative.{Items, number_of, sized, list_at, descriptor, Described, described, described_by}
use Rattle.performatives.proofs.Parts.{drop_take}
use Rattle.performatives.proofs.Bounds.{list_lies, list_some}

-- ---- parts

module _ (e : ℕ) (s t : List ℕ) (l : e ≤ length s) where
  longer : e ≤ length (take e s ++ t)
  longer = omega (arith, length-append (take e s) t, length-take-le e s l)

  take_front : (n : ℕ) → n ≤ e → take n (take e s ++ t) ≡ take n s
  take_front n h = take-append-le n (take e s) t (omega (arith, length-take-le e s l)) ∙ take-take n e s h

  drop_front : (a : ℕ) → a ≤ e → drop a (take e s ++ t) ≡ take (e - a) (drop a s) ++ t
  drop_front a h = drop-append-le a (take e s) t (omega (arith, length-take-le e s l)) ∙ ap (λ (u : List ℕ). u ++ t) (drop_take a e s)

module _ (e : ℕ) (s t : List ℕ) (l : e ≤ length s) where
  pub part_front : (a n : ℕ) → a + n ≤ e → take n (drop a (take e s ++ t)) ≡ take n (drop a s)
  part_front a n h = rw (drop_front e s t l a (omega arith)) (take_front (e - a) (drop a s) t (omega (arith, length-drop a s)) n (omega arith))

-- ---- codes, values and numbers

starts_front : (codes s t : List ℕ) (e : ℕ) → 1 ≤ e → 1 ≤ length s → starts_with codes (take e s ++ t) ≡ starts_with codes s
unfolding starts_with
starts_front codes [] t e h l = absurd (omega arith)
starts_front codes (c ∷ s) t zero h l = absurd (omega arith)
starts_front codes (c ∷ s) t (suc e) h l = refl

value_front : (d e : ℕ) (s t : List ℕ) (n : ℕ) → value_end d s ≡ accept n → n ≤ e → value_end d (take e s ++ t) ≡ accept n
value_front d e s t n v h =
    let q : e ≡ n + (e - n) = omega arith in
    let x : take e s ++ t ≡ take n s ++ (take (e - n) (drop n s) ++ t) = ap (λ (k : ℕ). take k s ++ t) q ∙ ap (λ (u : List ℕ). u ++ t) (take-add n (e - n) s) ∙ append_assoc (take n s) (take (e - n) (drop n s)) t in
    rw x (value_local d s n v (take (e - n) (drop n s) ++ t))

number_front : (w e : ℕ) (s t : List ℕ) (n : ℕ) → number_in w s ≡ accept n → w ≤ e → e ≤ length s → number_in w (take e s ++ t) ≡ accept n
number_front w e s t n v h l =
    let a = number_was w s n v in
    number_is w (take e s ++ t) (omega (arith, longer e s t l)) ∙ ap accept (ap big_endian (take_front e s t l w h) ∙ sym a.0)

opening_front : (w e : ℕ) (s t : List ℕ) (o : ℕ × ℕ) → opening list w s ≡ accept o → w + o.0 ≤ e → e ≤ length s → opening list w (take e s ++ t) ≡ accept o
opening_front w e s t o v h l =
    let a = opening_was list w s o v in
    opening_is list w (take e s ++ t) o.0 o.1
    (record {
      sized = number_front w e s t o.0 a.sized (omega arith) l;
      fits = omega (arith, longer e s t l);
      counted = ap (number_in w) (part_front e s t l w o.0 h) ∙ a.counted;
      paired = a.paired;
    })

-- ---- lists

sized_front : (w e : ℕ) (s t : List ℕ) (x : Items) → sized w s ≡ accept x → x.end ≤ e → e ≤ length s → sized w (take e s ++ t) ≡ accept x
unfolding sized and_then
sized_front w e s t x v h l =
    let a = then_was (opening list w (drop 1 s)) _ x v in
    let q : record { count = a.0.1; from = 1 + w + w; end = 1 + w + a.0.0 } ≡ x = accepted _ x a.2 in
    let k : 1 + w + a.0.0 ≤ e = subst (λ (y : Items). y.end ≤ e) (sym q) h in
    let f = opening_front w (e - 1) (drop 1 s) t a.0 a.1 (omega arith) (omega (arith, length-drop 1 s)) in
    rw (drop_front e s t l 1 (omega arith), f) (ap accept q)

list_front : (e : ℕ) (s t : List ℕ) (x : Items) → list_at s ≡ accept x → 1 ≤ length s → 1 ≤ e → x.end ≤ e → e ≤ length s → list_at (take e s ++ t) ≡ accept x
unfolding list_at
list_front e s t x v Some h k l =
    rw (starts_front (0x45 ∷ []) s t e h Some, starts_front (0xc0 ∷ []) s t e h Some, starts_front (0xd0 ∷ []) s t e h Some)
    (go (starts_with (0x45 ∷ []) s) (starts_with (0xc0 ∷ []) s) (starts_with (0xd0 ∷ []) s) v)
  where
    go : (a b c : Bool) → cond a (accept (record { count = 0; from = 1; end = 1 })) (cond b (sized 1 s) (cond c (sized 4 s) (refuse 6))) ≡ accept x → cond a (accept (record { count = 0; from = 1; end = 1 })) (cond b (sized 1 (take e s ++ t)) (cond c (sized 4 (take e s ++ t)) (refuse 6))) ≡ accept x
    go true b c q = q
    go false true c q = sized_front 1 e s t x q k l
    go false false true q = sized_front 4 e s t x q k l
    go false false false q = q

-- ---- a descriptor and a list

descriptor_front : (e : ℕ) (s t : List ℕ) (d : ℕ × ℕ) → descriptor s ≡ accept d → d.1 ≤ e → e ≤ length s → descriptor (take e s ++ t) ≡ accept d
unfolding descriptor and_then
descriptor_front e s t d v h l =
    let a = require_was 6 (starts_with (0 ∷ []) s && starts_with (0x80 ∷ 0x53 ∷ 0x44 ∷ []) (drop 1 s)) _ d v in
    let b = then_was (value_end 1 (drop 1 s)) _ d a.1 in
    let q : (number_of (take b.0 (drop 1 s)), 1 + b.0) ≡ d = accepted _ d b.2 in
    let k : 1 + b.0 ≤ e = subst (λ (y : ℕ × ℕ). y.1 ≤ e) (sym q) h in
    let m = value_some 1 (drop 1 s) b.0 b.1 in
    let n = value_within 1 (drop 1 s) b.0 b.1 in
    let x : starts_with (0 ∷ []) (take e s ++ t) ≡ starts_with (0 ∷ []) s = starts_front (0 ∷ []) s t e (omega arith) (omega arith) in
    let y : starts_with (0x80 ∷ 0x53 ∷ 0x44 ∷ []) (take (e - 1) (drop 1 s) ++ t) ≡ starts_with (0x80 ∷ 0x53 ∷ 0x44 ∷ []) (drop 1 s) = starts_front (0x80 ∷ 0x53 ∷ 0x44 ∷ []) (drop 1 s) t (e - 1) (omega arith) (omega arith) in
    let f = value_front 1 (e - 1) (drop 1 s) t b.0 b.1 (omega arith) in
    let g = take_front (e - 1) (drop 1 s) t (omega (arith, length-drop 1 s)) b.0 (omega arith) in
    rw (drop_front e s t l 1 (omega arith), x, y) (require_on 6 _ _ a.0 ∙ rw (f, g) (ap accept q))

pub described_front : (e : ℕ) (s t : List ℕ) (d : Described) → described s ≡ accept d → d.end ≤ e → e ≤ length s → described (take e s ++ t) ≡ accept d
unfolding described and_then
described_front e s t d v h l =
    let a = then_was (descriptor s) _ d v in
    let b = then_was (list_at (drop a.0.1 s)) _ d a.2 in
    let q : described_by a.0 b.0 ≡ d = accepted _ d b.2 in
    let k : a.0.1 + b.0.end ≤ e = subst (λ (y : Described). y.end ≤ e) (sym q) h in
    let o = list_lies (drop a.0.1 s) b.0 b.1 in
    let i = list_some (drop a.0.1 s) b.0 b.1 in
    let f = descriptor_front e s t a.0 a.1 (omega arith) l in
    let g = list_front (e - a.0.1) (drop a.0.1 s) t b.0 b.1 (omega (arith, o.ordered, o.inside)) (omega (arith, o.ordered)) (omega arith) (omega (arith, length-drop a.0.1 s)) in
    rw (f, drop_front e s t l a.0.1 (omega arith), g) (ap accept q)
