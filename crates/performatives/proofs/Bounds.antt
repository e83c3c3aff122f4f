-- Where what is read lies, and with what it is refused.
-- Assumes nothing.
use mathlib.Core.Path.{◌≡◌, refl, sym, ◌∙◌}
use mathlib.Core.Bool.{Bool, true, false, cond, ◌&&◌}
use mathlib.Core.List.{List, [], ◌∷◌}
use Rattle.std.specs.Prelude.{Option, None, Some}
use Prim.Native.Nat.{ℕ, zero, suc, ◌+◌, ◌≤◌}
use native.Mathlib.Omega.{arith}
use lib.ListN.{length, take, drop, length-drop}
use Rattle.octets.specs.Verdict.{Verdict, refuse, accept, require, and_then}
use Rattle.octets.specs.Octets.{starts_with}
use Rattle.octets.proofs.Laws.{require_was}
use Rattle.values.specs.Value.{list, opening, value_end}
use Rattle.values.proofs.Bounds.{Opens, holds_accept, holds_refuse, opening_holds}
use Rattle.values.proofs.Apart.{accepted, then_was}
use Rattle.values.proofs.Laws.{value_within, value_some, value_six}
use Rattle.performatives.specs.Fields.{Field, fields_of}
use Rattle.performatives.specs.Performative.{Items, number_of, sized, list_at, descriptor, Described, described, described_by, items_of, split, fit, fields_by, rows_for, performative_by, performative}
use Rattle.performatives.proofs.Bools.{and_first}
use Rattle.performatives.proofs.Codes.{starts_some}

-- ---- where the values of a list lie

pub record Lies (s : List ℕ) (from end : ℕ) : Type 0 where
  pub ordered : from ≤ end
  pub inside : end ≤ length s

sized_lies : (w : ℕ) (s : List ℕ) (l : Items) → 1 ≤ w → sized w s ≡ accept l → Lies s l.from l.end
unfolding sized
sized_lies w s l p e =
    let a = then_was (opening list w (drop 1 s)) _ l e in
    let h = holds_accept (Opens w (length (drop 1 s))) (opening list w (drop 1 s)) a.0 (opening_holds list w (drop 1 s)) a.1 in
    let q : l ≡ record { count = a.0.1; from = 1 + w + w; end = 1 + w + a.0.0 } = sym (accepted _ l a.2) in
    rw q (record { ordered = omega (arith, h.0); inside = omega (arith, h.0, h.1, length-drop 1 s) })

pub list_lies : (s : List ℕ) (l : Items) → list_at s ≡ accept l → Lies s l.from l.end
unfolding list_at
list_lies s l = go (starts_with (0x45 ∷ []) s) (starts_with (0xc0 ∷ []) s) (starts_with (0xd0 ∷ []) s) refl
  where
    go : (a b c : Bool) → starts_with (0x45 ∷ []) s ≡ a → cond a (accept (record { count = 0; from = 1; end = 1 })) (cond b (sized 1 s) (cond c (sized 4 s) (refuse 6))) ≡ accept l → Lies s l.from l.end
    go true b c h e =
        let q : l ≡ record { count = 0; from = 1; end = 1 } = sym (accepted _ l e) in
        rw q (record { ordered = omega arith; inside = starts_some _ s h })
    go false true c h e = sized_lies 1 s l (omega arith) e
    go false false true h e = sized_lies 4 s l (omega arith) e
    go false false false h e = let z : ◌≡◌ {A = ℕ} 0 1 = cc in absurd (omega arith)

sized_some : (w : ℕ) (s : List ℕ) (l : Items) → sized w s ≡ accept l → 1 ≤ l.from
unfolding sized
sized_some w s l e =
    let a = then_was (opening list w (drop 1 s)) _ l e in
    let q : l ≡ record { count = a.0.1; from = 1 + w + w; end = 1 + w + a.0.0 } = sym (accepted _ l a.2) in
    rw q (omega arith)

-- after a format code
pub list_some : (s : List ℕ) (l : Items) → list_at s ≡ accept l → 1 ≤ l.from
unfolding list_at
list_some s l = go (starts_with (0x45 ∷ []) s) (starts_with (0xc0 ∷ []) s) (starts_with (0xd0 ∷ []) s)
  where
    go : (a b c : Bool) → cond a (accept (record { count = 0; from = 1; end = 1 })) (cond b (sized 1 s) (cond c (sized 4 s) (refuse 6))) ≡ accept l → 1 ≤ l.from
    go true b c e = let q : l ≡ record { count = 0; from = 1; end = 1 } = sym (accepted _ l e) in rw q (omega arith)
    go false true c e = sized_some 1 s l e
    go false false true e = sized_some 4 s l e
    go false false false e = let z : ◌≡◌ {A = ℕ} 0 1 = cc in absurd (omega arith)

pub descriptor_lies : (s : List ℕ) (d : ℕ × ℕ) → descriptor s ≡ accept d → Lies s 2 d.1
unfolding descriptor
descriptor_lies s d e =
    let a = require_was 6 (starts_with (0 ∷ []) s && starts_with (0x80 ∷ 0x53 ∷ 0x44 ∷ []) (drop 1 s)) _ d e in
    let b = then_was (value_end 1 (drop 1 s)) _ d a.1 in
    let l = starts_some (0 ∷ []) s (and_first (starts_with (0 ∷ []) s) _ a.0) in
    let q : d ≡ (number_of (take b.0 (drop 1 s)), 1 + b.0) = sym (accepted _ d b.2) in
    let n = value_within 1 (drop 1 s) b.0 b.1 in
    let m = value_some 1 (drop 1 s) b.0 b.1 in
    rw q (record { ordered = omega arith; inside = omega (arith, length-drop 1 s) })

pub described_lies : (s : List ℕ) (d : Described) → described s ≡ accept d → Lies s d.from d.end
unfolding described
described_lies s d e =
    let a = then_was (descriptor s) _ d e in
    let b = then_was (list_at (drop a.0.1 s)) _ d a.2 in
    let x = descriptor_lies s a.0 a.1 in
    let y = list_lies (drop a.0.1 s) b.0 b.1 in
    let q : d ≡ described_by a.0 b.0 = sym (accepted _ d b.2) in
    rw q (record { ordered = omega (arith, y.ordered); inside = omega (arith, x.inside, y.inside, length-drop a.0.1 s) })

-- ---- a refusal is 6

abbrev pub Six : {A : Type 0} → Verdict A → Type 0
Six v = (k : ℕ) → v ≡ refuse k → k ≡ 6

pub six_refuse : {A : Type 0} → Six {A = A} (refuse 6)
six_refuse k e = cc

pub six_accept : {A : Type 0} (a : A) → Six (accept a)
six_accept a k e = let z : ◌≡◌ {A = ℕ} 0 1 = cc in absurd (omega arith)

pub six_then : {A B : Type 0} (v : Verdict A) (f : A → Verdict B) → Six v → ((a : A) → Six (f a)) → Six (and_then v f)
unfolding and_then
six_then (refuse j) f h g k e = let q : j ≡ k = cc in sym q ∙ h j refl
six_then (accept a) f h g k e = g a k e

pub six_require : {A : Type 0} (b : Bool) (f : Unit {0} → Verdict A) → Six (f tt) → Six (require 6 b f)
unfolding require
six_require true f h k e = h k e
six_require false f h k e = cc

pub six_cond : {A : Type 0} (b : Bool) (u v : Verdict A) → Six u → Six v → Six (cond b u v)
six_cond true u v h g = h
six_cond false u v h g = g

sized_six : (w : ℕ) (s : List ℕ) → Six (sized w s)
unfolding sized
sized_six w s =
    six_then (opening list w (drop 1 s)) _
    (λ k e. holds_refuse (Opens w (length (drop 1 s))) (opening list w (drop 1 s)) k (opening_holds list w (drop 1 s)) e)
    (λ o. six_accept _)

list_six : (s : List ℕ) → Six (list_at s)
unfolding list_at
list_six s =
    six_cond (starts_with (0x45 ∷ []) s) _ _ (six_accept _)
    (six_cond (starts_with (0xc0 ∷ []) s) _ _ (sized_six 1 s)
    (six_cond (starts_with (0xd0 ∷ []) s) _ _ (sized_six 4 s) six_refuse))

pub described_six : (s : List ℕ) → Six (described s)
unfolding described descriptor
described_six s =
    six_then (descriptor s) _
    (six_require (starts_with (0 ∷ []) s && starts_with (0x80 ∷ 0x53 ∷ 0x44 ∷ []) (drop 1 s)) _
    (six_then (value_end 1 (drop 1 s)) _ (value_six 1 (drop 1 s)) (λ n. six_accept _)))
    (λ d. six_then (list_at (drop d.1 s)) _ (list_six (drop d.1 s)) (λ l. six_accept _))

split_six : (k : ℕ) (s : List ℕ) → Six (split 16 k s)
unfolding split
split_six zero [] = six_accept _
split_six zero (b ∷ s) = six_refuse
split_six (suc k) s =
    six_then (value_end 16 s) _ (value_six 16 s) (λ n. six_then (split 16 k (drop n s)) _ (split_six k (drop n s)) (λ fs. six_accept _))

pub fields_six : (rows : List Field) (count : ℕ) (s : List ℕ) → Six (fields_by rows count s)
unfolding fields_by
fields_six rows count s = six_then (split 16 count s) _ (split_six count s) (λ fs. six_require (fit rows fs) _ (six_accept fs))

rows_six : (o : Option (List Field)) → Six (rows_for o)
unfolding rows_for
rows_six None = six_refuse
rows_six (Some rows) = six_accept rows

pub performative_six : (s : List ℕ) → Six (performative s)
unfolding performative performative_by
performative_six s =
    six_then (described s) _ (described_six s) (λ d.
    six_then (rows_for (fields_of d.code)) _ (rows_six (fields_of d.code)) (λ rows.
    six_then (fields_by rows d.count (items_of d s)) _ (fields_six rows d.count (items_of d s)) (λ fs. six_accept _)))
