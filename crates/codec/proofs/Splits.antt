-- The values of a list that was read: each is a whole value, they fill the list, and there are as many as it says. Octets are octets in every part.
-- Assumes nothing.
use mathlib.Core.Path.{◌≡◌, refl, sym, ap, ◌∙◌}
use mathlib.Core.List.{List, [], ◌∷◌, ◌++◌}
use Prim.Native.Nat.{ℕ, zero, suc, ◌+◌, ◌*◌, ◌^◌, ◌<◌}
use native.Mathlib.Nat.{pow-suc, mul_comm, mul_assoc}
use native.Mathlib.Omega.{arith}
use lib.ListN.{length, take, drop, get_or, length-drop, take-append-drop}
use Rattle.octets.specs.Verdict.{accept}
use Rattle.octets.specs.Octets.{big_endian, big_endian_from}
use Rattle.octets.proofs.Laws.{then_accept}
use Rattle.values.specs.Value.{times, value_end}
use Rattle.values.proofs.Apart.{accepted, never, then_was, both_was}
use Rattle.values.proofs.Written.{Whole, Each, value_whole}
use Rattle.serializer.specs.Written.{joined}
use Rattle.performatives.specs.Performative.{split}
use Rattle.codec.specs.Meaning.{Octets}

-- ---- octets

pub octets_take : (n : ℕ) (s : List ℕ) → Octets s → Octets (take n s)
octets_take zero [] h = h
octets_take zero (b ∷ s) h = tt
octets_take (suc n) [] h = h
octets_take (suc n) (b ∷ s) h = (h.0, octets_take n s h.1)

pub octets_drop : (n : ℕ) (s : List ℕ) → Octets s → Octets (drop n s)
octets_drop zero [] h = h
octets_drop zero (b ∷ s) h = h
octets_drop (suc n) [] h = h
octets_drop (suc n) (b ∷ s) h = octets_drop n s h.1

pub octets_front : (s t : List ℕ) → Octets (s ++ t) → Octets s
octets_front [] t h = tt
octets_front (b ∷ s) t h = (h.0, octets_front s t h.1)

pub octets_back : (s t : List ℕ) → Octets (s ++ t) → Octets t
octets_back [] t h = h
octets_back (b ∷ s) t h = octets_back s t h.1

-- as a slice has them
pub octets_are : (s : List ℕ) → ((i : ℕ) → get_or s i 0 < 256) → Octets s
octets_are [] h = tt
octets_are (b ∷ s) h = (omega (arith, h 0), octets_are s (λ i. h (suc i)))

below_from : (n : ℕ) (s : List ℕ) (m : ℕ) → Octets s → n < m → big_endian_from n s < m * 256 ^ length s
unfolding big_endian_from
below_from n [] m h l = omega arith
below_from n (b ∷ s) m h l =
    let k : big_endian_from (n * 256 + b) s < m * 256 * 256 ^ length s = below_from (n * 256 + b) s (m * 256) h.1 (omega (arith, h.0)) in
    rw (pow-suc 256 (length s), mul_comm (256 ^ length s) 256, ← mul_assoc m 256 (256 ^ length s)) k

-- as many octets hold no greater number
pub octets_below : (s : List ℕ) → Octets s → big_endian s < 256 ^ length s
unfolding big_endian
octets_below s h = omega (arith, below_from 0 s 1 h (omega arith))

-- ---- what was split

pub record Split (d k : ℕ) (s : List ℕ) (fs : List (List ℕ)) : Type 0 where
  pub whole : Each (Whole d) fs
  pub fill : joined fs ≡ s
  pub count : length fs ≡ k

pub split_all : (d k : ℕ) (s : List ℕ) (fs : List (List ℕ)) → split d k s ≡ accept fs → Split d k s fs
unfolding split joined
split_all d zero [] fs e = let q : fs ≡ [] = accepted fs [] (sym e) in rw q (record { whole = tt; fill = refl; count = refl })
split_all d zero (b ∷ s) fs e = absurd (never 6 fs e)
split_all d (suc k) s fs e =
    let a = then_was (value_end d s) _ fs e in
    let b = then_was (split d k (drop a.0 s)) _ fs a.2 in
    let q : fs ≡ take a.0 s ∷ b.0 = accepted fs (take a.0 s ∷ b.0) (sym b.2) in
    let h : Split d k (drop a.0 s) b.0 = split_all d k (drop a.0 s) b.0 b.1 in
    rw q (record { whole = (value_whole d s a.0 a.1, h.whole); fill = rw h.fill (take-append-drop a.0 s); count = ap suc h.count })

-- values that fill a list can be split
pub times_split : (d k : ℕ) (s : List ℕ) → times k (value_end d) s ≡ accept (length s) → (fs : List (List ℕ)) × (split d k s ≡ accept fs)
unfolding times split
times_split d zero [] e = ([], refl)
times_split d zero (b ∷ s) e = absurd (omega (arith, accepted 0 (suc (length s)) e))
times_split d (suc k) s e =
    let b = both_was (value_end d) (times k (value_end d)) s (length s) e in
    let l : length (drop b.first s) ≡ b.second = omega (arith, length-drop b.first s, b.sum) in
    let h = times_split d k (drop b.first s) (b.second_ends ∙ ap accept (sym l)) in
    (take b.first s ∷ h.0, then_accept (value_end d s) _ b.first b.first_ends ∙ then_accept (split d k (drop b.first s)) _ h.0 h.1)
