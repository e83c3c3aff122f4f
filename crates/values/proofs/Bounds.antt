-- Where the readers end: within the bytes that they are given. All refusals are 6.
-- Assumes nothing.
use mathlib.Core.Path.{◌≡◌, refl, subst}
use mathlib.Core.Bool.{Bool, true, false, cond}
use mathlib.Core.List.{List, [], ◌∷◌}
use Prim.Native.Nat.{ℕ, zero, suc, ◌+◌, ◌-◌, ◌≤◌}
use native.Mathlib.Omega.{arith}
use lib.ListN.{length, take, drop, length-take, length-drop}
use lib.Dec.{leb, eqb}
use borrow.Author.Tests.{leb-true}
use Rattle.octets.specs.Verdict.{Verdict, refuse, accept, require, and_then}
use Rattle.values.specs.Value.{Reader, Shape, list, map, array, Kind, fixed, boolean, variable, compound, kind_in, kind_of, codes, plus, followed_by, times, bytes, number_in, boolean_end, variable_end, paired_in, opening, items, compound_end, body, after_code, level, no_values, run}

-- ---- what is accepted, and that all refusals are 6

abbrev pub Holds : {A : Type 0} → (A → Type 0) → Verdict A → Type 0
Holds P (accept a) = P a
Holds P (refuse k) = k ≡ 6

pub holds_accept : {A : Type 0} (P : A → Type 0) (v : Verdict A) (a : A) → Holds P v → v ≡ accept a → P a
holds_accept P v a h e = subst (λ (x : Verdict _). Holds P x) e h

pub holds_refuse : {A : Type 0} (P : A → Type 0) (v : Verdict A) (k : ℕ) → Holds P v → v ≡ refuse k → k ≡ 6
holds_refuse P v k h e = subst (λ (x : Verdict _). Holds P x) e h

holds_then : {A B : Type 0} (P : A → Type 0) (Q : B → Type 0) (v : Verdict A) (f : A → Verdict B) → Holds P v → ((a : A) → P a → Holds Q (f a)) → Holds Q (and_then v f)
unfolding and_then
holds_then P Q (accept a) f h g = g a h
holds_then P Q (refuse k) f h g = h

holds_require : {A : Type 0} (P : A → Type 0) (b : Bool) (f : Unit {0} → Verdict A) → (b ≡ true → Holds P (f tt)) → Holds P (require 6 b f)
unfolding require
holds_require P true f h = h refl
holds_require P false f h = refl

-- ---- bounds

abbrev pub Within : ℕ → Verdict ℕ → Type 0
Within n v = Holds (λ (m : ℕ). m ≤ n) v

within_plus : (a : ℕ) (v : Verdict ℕ) (m n : ℕ) → Within m v → a + m ≤ n → Within n (plus a v)
unfolding plus
within_plus a v m n h l = holds_then (λ (x : ℕ). x ≤ m) (λ (x : ℕ). x ≤ n) v _ h (λ x g. omega arith)

within_followed_by : (f g : Reader) (s : List ℕ) → Within (length s) (f s) → ((t : List ℕ) → Within (length t) (g t)) → Within (length s) (followed_by f g s)
unfolding followed_by
within_followed_by f g s hf hg =
    holds_then (λ (x : ℕ). x ≤ length s) (λ (x : ℕ). x ≤ length s) (f s) _ hf
    (λ n h. within_plus n (g (drop n s)) (length (drop n s)) (length s) (hg (drop n s)) (omega (arith, length-drop n s)))

within_times : (f : Reader) → ((s : List ℕ) → Within (length s) (f s)) → (k : ℕ) (s : List ℕ) → Within (length s) (times k f s)
unfolding times
within_times f h zero s = omega arith
within_times f h (suc k) s = within_followed_by f (times k f) s (h s) (within_times f h k)

within_bytes : (n : ℕ) (s : List ℕ) → Within (length s) (bytes n s)
unfolding bytes
within_bytes n s = holds_require (λ (m : ℕ). m ≤ length s) _ _ (λ e. leb-true _ _ e)

number_holds : (w : ℕ) (s : List ℕ) → Holds (λ (n : ℕ). w ≤ length s) (number_in w s)
unfolding number_in
number_holds w s = holds_require (λ (n : ℕ). w ≤ length s) _ _ (λ e. leb-true _ _ e)

kind_in_holds : (l : List (ℕ × Kind)) (c : ℕ) → Holds (λ (k : Kind). Unit {0}) (kind_in l c)
unfolding kind_in
kind_in_holds [] c = refl
kind_in_holds (p ∷ ps) c = go (eqb c p.0) (kind_in_holds ps c)
  where
    go : (b : Bool) → Holds (λ (k : Kind). Unit {0}) (kind_in ps c) → Holds (λ (k : Kind). Unit {0}) (cond b (accept p.1) (kind_in ps c))
    go true h = tt
    go false h = h

pub kind_holds : (c : ℕ) → Holds (λ (k : Kind). Unit {0}) (kind_of c)
unfolding kind_of
kind_holds c = kind_in_holds codes c

-- where the items of a compound lie
abbrev pub Opens : ℕ → ℕ → ℕ × ℕ → Type 0
Opens w l o = (w ≤ o.0) × (w + o.0 ≤ l)

pub opening_holds : (shape : Shape) (w : ℕ) (s : List ℕ) → Holds (Opens w (length s)) (opening shape w s)
unfolding opening
opening_holds shape w s =
    holds_then (λ (size : ℕ). w ≤ length s) (Opens w (length s)) (number_in w s) _ (number_holds w s) (λ size _.
    holds_require (Opens w (length s)) (leb (w + size) (length s)) _ (λ fits.
    let l : w + size ≤ length s = leb-true _ _ fits in
    holds_then (λ (count : ℕ). w ≤ length (take size (drop w s))) (Opens w (length s)) (number_in w (take size (drop w s))) _ (number_holds w _) (λ count k.
    holds_require (Opens w (length s)) (paired_in shape count) _ (λ _.
    (omega (arith, length-take size (drop w s)), l)))))

within_compound : (r : ℕ → Reader) (shape : Shape) (w : ℕ) (s : List ℕ) → ((count : ℕ) (t : List ℕ) → Within (length t) (items r shape count t)) → Within (length s) (compound_end r shape w s)
unfolding compound_end
within_compound r shape w s h =
    holds_then (Opens w (length s)) (λ (n : ℕ). n ≤ length s) (opening shape w s) _ (opening_holds shape w s) (λ o p.
    let t : List ℕ = take (o.0 - w) (drop (w + w) s) in
    holds_then (λ (n : ℕ). n ≤ length t) (λ (n : ℕ). n ≤ length s) (items r shape o.1 t) _ (h o.1 t) (λ n _.
    holds_require (λ (m : ℕ). m ≤ length s) (eqb (w + n) o.0) _ (λ _. p.1)))

module _ (r : ℕ → Reader) (h : (n : ℕ) (s : List ℕ) → Within (length s) (r n s)) where
  within_items : (shape : Shape) (count : ℕ) (s : List ℕ) → Within (length s) (items r shape count s)
  unfolding items
  within_items list count s = within_times (r 1) (h 1) count s
  within_items map count s = within_times (r 1) (h 1) count s
  within_items array count s = h count s

  within_boolean : (s : List ℕ) → Within (length s) (boolean_end s)
  unfolding boolean_end
  within_boolean [] = refl
  within_boolean (b ∷ s) = holds_require (λ (n : ℕ). n ≤ suc (length s)) (leb b 1) _ (λ _. omega arith)

  pub within_body : (k : Kind) (s : List ℕ) → Within (length s) (body r k s)
  unfolding body variable_end
  within_body (fixed w) s = within_bytes w s
  within_body boolean s = within_boolean s
  within_body (variable w) s = holds_then (λ (n : ℕ). w ≤ length s) (λ (n : ℕ). n ≤ length s) (number_in w s) _ (number_holds w s) (λ n _. within_bytes (w + n) s)
  within_body (compound shape w) s = within_compound r shape w s (within_items shape)

  within_after : (count : ℕ) (b : Bool) (c : ℕ) (s : List ℕ) → Within (length s) (after_code r count b c s)
  unfolding after_code
  within_after count true c s = within_followed_by (r 1) (r count) s (h 1 s) (h count)
  within_after count false c s = holds_then (λ (k : Kind). Unit {0}) (λ (n : ℕ). n ≤ length s) (kind_of c) _ (kind_holds c) (λ k _. within_times (body r k) (within_body k) count s)

  within_level : (count : ℕ) (s : List ℕ) → Within (length s) (level r count s)
  unfolding level
  within_level count [] = refl
  within_level count (c ∷ s) = within_plus 1 (after_code r count (eqb c 0) c s) (length s) (suc (length s)) (within_after count (eqb c 0) c s) (omega arith)

pub within_run : (d count : ℕ) (s : List ℕ) → Within (length s) (run d count s)
unfolding run
within_run zero zero s = within_level no_values (λ count t. refl) 0 s
within_run zero (suc k) s = refl
within_run (suc d) count s = within_level (run d) (within_run d) count s
