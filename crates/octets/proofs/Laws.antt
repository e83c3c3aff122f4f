-- Laws of verdicts, of numbers as bytes, and of bytes laid into a buffer.
-- Assumes nothing.
use mathlib.Core.Path.{◌≡◌, refl, sym, ap, ◌∙◌}
use mathlib.Core.Bool.{Bool, true, false}
use mathlib.Core.List.{List, [], ◌∷◌, ◌++◌, append_assoc}
use Prim.Native.Nat.{ℕ, zero, suc, ◌+◌, ◌*◌, ◌-◌, ◌<◌, ◌≤◌}
use native.Mathlib.Nat.{add-suc, suc-add, add-zero, zero-add}
use native.Mathlib.Omega.{arith}
use lib.ListN.{length, take, drop, get_or, set, length-append}
use lib.Seq.{drop_at, take-append-le, take-take, set_split, length-take-le, sets, length-sets, sets-eq}
use lib.Dec.{leb}
use borrow.Author.Tests.{le-leb, lt-leb, leb-true, leb-false}
use Rattle.octets.specs.Verdict.{Verdict, refuse, accept, require, and_then}
use Rattle.octets.specs.Octets.{big_endian_from, big_endian, bytes_of, put}
use Rattle.std.specs.Prelude.{Ok, Err}
use Rattle.octets.specs.Refusal.{number_of}
use Rattle.octets.specs.declared.Refusal.{Refusal}
use Rattle.octets.specs.Output.{room_for, laid, counted, Wrote}

-- ---- verdicts

pub require_on : {A : Type 0} (k : ℕ) (b : Bool) (rest : Unit {0} → Verdict A) → b ≡ true → require k b rest ≡ rest tt
unfolding require
require_on k b rest e = rw e

pub require_off : {A : Type 0} (k : ℕ) (b : Bool) (rest : Unit {0} → Verdict A) → b ≡ false → require k b rest ≡ refuse k
unfolding require
require_off k b rest e = rw e

pub then_accept : {A B : Type 0} (v : Verdict A) (f : A → Verdict B) (a : A) → v ≡ accept a → and_then v f ≡ f a
unfolding and_then
then_accept v f a e = rw e

pub then_refuse : {A B : Type 0} (v : Verdict A) (f : A → Verdict B) (k : ℕ) → v ≡ refuse k → and_then v f ≡ refuse k
unfolding and_then
then_refuse v f k e = rw e

-- what an accepted rule went through
pub require_was : {A : Type 0} (k : ℕ) (b : Bool) (rest : Unit {0} → Verdict A) (a : A) → require k b rest ≡ accept a → (b ≡ true) × (rest tt ≡ accept a)
unfolding require
require_was k true rest a e = (refl, e)
require_was k false rest a e = let z : ◌≡◌ {A = ℕ} 0 1 = cc in absurd (omega arith)

-- ---- numbers as bytes

pub be_from_snoc : (n : ℕ) (s : List ℕ) (w : ℕ) → w < length s → big_endian_from n (take (suc w) s) ≡ big_endian_from n (take w s) * 256 + get_or s w 0
unfolding big_endian_from
be_from_snoc n [] w h = absurd (omega arith)
be_from_snoc n (b ∷ s) zero h = refl
be_from_snoc n (b ∷ s) (suc w) h = be_from_snoc (n * 256 + b) s w (omega arith)

-- a byte more is the last one
pub be_snoc : (s : List ℕ) (w : ℕ) → w < length s → big_endian (take (suc w) s) ≡ big_endian (take w s) * 256 + get_or s w 0
unfolding big_endian
be_snoc s w h = be_from_snoc 0 s w h

pub be_none : (s : List ℕ) → 0 ≡ big_endian (take 0 s)
unfolding big_endian big_endian_from
be_none s = refl

pub length_bytes_of : (w x : ℕ) → length (bytes_of w x) ≡ w
unfolding bytes_of
length_bytes_of zero x = refl
length_bytes_of (suc w) x = ap suc (length_bytes_of w x)

-- ---- a buffer

pub put_fits : (d : List ℕ) (at : ℕ) (vs : List ℕ) → at + length vs ≤ length d → put d at vs ≡ take at d ++ vs ++ drop (at + length vs) d
unfolding put
put_fits d at vs h = rw (le-leb _ _ h)

pub put_not : (d : List ℕ) (at : ℕ) (vs : List ℕ) → length d < at + length vs → put d at vs ≡ d
unfolding put
put_not d at vs h = rw (lt-leb _ _ h)

-- what does not fit leaves the buffer as it was
module _ (d : List ℕ) (at : ℕ) (vs : List ℕ) where
  pub put_past : length d < at → d ≡ put d at vs
  put_past h = sym (put_not d at vs (omega arith))

  pub put_over : (n : ℕ) → n ≡ length vs → length d - at < n → at ≤ length d → d ≡ put d at vs
  put_over n e h k = sym (put_not d at vs (omega arith))

sets_put : (vs d : List ℕ) (at : ℕ) → at + length vs ≤ length d → sets d at vs ≡ put d at vs
sets_put vs d at h = sets-eq vs d at h ∙ sym (put_fits d at vs h)

length_put_at : (d : List ℕ) (at : ℕ) (vs : List ℕ) (b : Bool) → leb (at + length vs) (length d) ≡ b → length (put d at vs) ≡ length d
length_put_at d at vs true e = ap length (sym (sets_put vs d at (leb-true _ _ e))) ∙ length-sets d at vs
length_put_at d at vs false e = ap length (put_not d at vs (leb-false _ _ e))

pub length_put : (d : List ℕ) (at : ℕ) (vs : List ℕ) → length (put d at vs) ≡ length d
length_put d at vs = length_put_at d at vs (leb (at + length vs) (length d)) refl

sets_sets : (a b d : List ℕ) (at : ℕ) → sets (sets d at a) (at + length a) b ≡ sets d at (a ++ b)
sets_sets [] b d at = ap (λ (k : ℕ). sets d k b) (add-zero at)
sets_sets (x ∷ a) b d at =
    ap (λ (k : ℕ). sets (sets (set d at x) (suc at) a) k b) (add-suc at (length a) ∙ sym (suc-add at (length a)))
    ∙ sets_sets a b (set d at x) (suc at)

-- one write after the other
pub put_put : (a b d : List ℕ) (at : ℕ) → at + length a + length b ≤ length d → put (put d at a) (at + length a) b ≡ put d at (a ++ b)
put_put a b d at h =
    let ha : at + length a ≤ length d = omega arith in
    let hb : at + length a + length b ≤ length (put d at a) = omega (arith, length_put d at a) in
    let hc : at + length (a ++ b) ≤ length d = omega (arith, length-append a b) in
    sym (sets_put b (put d at a) (at + length a) hb)
    ∙ ap (λ (l : List ℕ). sets l (at + length a) b) (sym (sets_put a d at ha))
    ∙ sets_sets a b d at
    ∙ sets_put (a ++ b) d at hc

-- the same, where the place is known as a number
pub put_more : (a b d o o' : List ℕ) (at k : ℕ) → k ≡ at + length a → k + length b ≤ length d → o ≡ put d at a → o' ≡ put o k b → o' ≡ put d at (a ++ b)
put_more a b d o o' at k e h p q = q ∙ rw (p, e) (put_put a b d at (omega arith))

-- the same from the front on, where the place is known as a number
pub put_next : (a b d : List ℕ) (k : ℕ) → length a ≡ k → k + length b ≤ length d → put (put d 0 a) k b ≡ put d 0 (a ++ b)
put_next a b d k e h =
    ap (λ (n : ℕ). put (put d 0 a) n b) (sym (zero-add (length a) ∙ e)) ∙ put_put a b d 0 (omega arith)

-- nothing is laid
pub put_nothing : (d : List ℕ) (at : ℕ) → put d at [] ≡ d
put_nothing d at = go (leb (at + 0) (length d)) refl
  where
    go : (b : Bool) → leb (at + 0) (length d) ≡ b → put d at [] ≡ d
    go true e = let h : at + 0 ≤ length d = leb-true _ _ e in sym (sets_put [] d at h)
    go false e = put_not d at [] (leb-false _ _ e)

-- a byte before what was laid
pub put_before : (d : List ℕ) (at b : ℕ) (vs : List ℕ) → suc at + length vs ≤ length d → set (put d (suc at) vs) at b ≡ put d at (b ∷ vs)
put_before d at b vs h =
    let l : at < length (put d (suc at) vs) = omega (arith, length_put d (suc at) vs) in
    let k : length (take (suc at) d) ≡ suc at = length-take-le (suc at) d (omega arith) in
    let q : at + suc (length vs) ≡ suc at + length vs = omega arith in
    let e : put d (suc at) vs ≡ take (suc at) d ++ (vs ++ drop (suc at + length vs) d) = put_fits d (suc at) vs h ∙ append_assoc (take (suc at) d) vs (drop (suc at + length vs) d) in
    let f : take at (put d (suc at) vs) ≡ take at d =
    ap (take at) e ∙ take-append-le at (take (suc at) d) _ (omega arith) ∙ take-take at (suc at) d (omega arith) in
    let g : drop (suc at) (put d (suc at) vs) ≡ vs ++ drop (suc at + length vs) d = ap (drop (suc at)) e ∙ drop_at (take (suc at) d) _ (suc at) k in
    set_split (put d (suc at) vs) at b l
    ∙ ap (λ (x : List ℕ). x ++ b ∷ drop (suc at) (put d (suc at) vs)) f
    ∙ ap (λ (x : List ℕ). take at d ++ b ∷ x) g
    ∙ ap (λ (n : ℕ). take at d ++ (b ∷ vs ++ drop n d)) (sym q)
    ∙ sym (put_fits d at (b ∷ vs) (omega arith) ∙ append_assoc (take at d) (b ∷ vs) (drop (at + suc (length vs)) d))

-- ---- the lent output

-- what is laid at the front
pub put_front : (d vs : List ℕ) → length vs ≤ length d → put d 0 vs ≡ vs ++ drop (length vs) d
put_front d vs h = put_fits d 0 vs (omega arith) ∙ ap (λ (n : ℕ). vs ++ drop n d) (zero-add (length vs))

pub wrote_no : (v : Verdict (List ℕ)) (r : Refusal) (d : List ℕ) → v ≡ refuse (number_of r) → Wrote v (Err r) d d
unfolding counted laid
wrote_no v r d e = record { answer = rw e; output = rw e }

pub wrote_yes : (v : Verdict (List ℕ)) (bytes : List ℕ) (n : ℕ) (d o : List ℕ) → v ≡ accept bytes → n ≡ length bytes → n ≤ length d → o ≡ put d 0 bytes → Wrote v (Ok n) d o
unfolding counted laid
wrote_yes v bytes n d o e l h q = record { answer = rw (e, l); output = rw e (q ∙ put_front d bytes (omega arith)) }

pub room_yes : (lent : ℕ) (out : List ℕ) → 16384 + 2 * lent ≤ length out → room_for lent out ≡ true
unfolding room_for
room_yes lent out h = le-leb _ _ h

pub room_no : (lent : ℕ) (out : List ℕ) → length out < 16384 + 2 * lent → room_for lent out ≡ false
unfolding room_for
room_no lent out h = lt-leb _ _ h
