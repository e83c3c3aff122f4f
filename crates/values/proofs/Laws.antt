-- Laws of runs and values, for the crates above: what a reader accepts does not depend on what stands after it, lies within the bytes, and is accepted with a level
-- more; what it refuses it refuses with 6.
-- Assumes nothing.
use mathlib.Core.Path.{◌≡◌, refl, sym, ap, ◌∙◌, subst}
use mathlib.Core.Bool.{Bool, true, false}
use mathlib.Core.List.{List, [], ◌∷◌, ◌++◌, append_assoc}
use Prim.Native.Nat.{ℕ, zero, suc, ◌+◌, ◌-◌, ◌≤◌}
use native.Mathlib.Nat.{add-zero}
use native.Mathlib.Omega.{arith}
use lib.ListN.{length, take, drop, length-append, length-drop, take-append-drop}
use lib.Seq.{length-take-le, take-add, take-append-le, drop-append-le, drop_at}
use lib.Dec.{leb, eqb}
use borrow.Author.Tests.{ne_eqb}
use Rattle.octets.specs.Verdict.{Verdict, refuse, accept, and_then}
use Rattle.octets.specs.Octets.{big_endian}
use Rattle.octets.proofs.Laws.{require_was, then_accept}
use Rattle.values.specs.Value.{Reader, Shape, list, map, array, Kind, fixed, boolean, variable, compound, codes, kind_in, kind_of, plus, followed_by, times, bytes, number_in, boolean_end, variable_end, items, compound_end, body, after_code, level, no_values, run, value_end}
use Rattle.values.proofs.Cases.{bytes_yes}
use Rattle.values.proofs.Apart.{never, accepted, then_was, plus_was, plus_is, both_was, both_is, bytes_was, number_was, number_is, compound_was, compound_is}
use Rattle.values.proofs.Bounds.{Within, holds_accept, holds_refuse, within_body, within_run}

-- ---- a reader does not look past the end that it finds

abbrev Local : Reader → Type 0
Local f = (s : List ℕ) (n : ℕ) → f s ≡ accept n → (t : List ℕ) → f (take n s ++ t) ≡ accept n

-- a part that lies in front of the seam
part_front : (a b : ℕ) (p t : List ℕ) → a + b ≤ length p → take b (drop a (p ++ t)) ≡ take b (drop a p)
part_front a b p t h = rw (drop-append-le a p t (omega arith)) (take-append-le b (drop a p) t (omega (arith, length-drop a p)))

part_same : (a b n : ℕ) (s t : List ℕ) → a + b ≤ n → n ≤ length s → take b (drop a (take n s ++ t)) ≡ take b (drop a s)
part_same a b n s t h l =
    let k : a + b ≤ length (take n s) = omega (arith, length-take-le n s l) in
    part_front a b (take n s) t k
    ∙ sym (part_front a b (take n s) (drop n s) k)
    ∙ ap (λ (u : List ℕ). take b (drop a u)) (take-append-drop n s)

long_enough : (n : ℕ) (s t : List ℕ) → n ≤ length s → n ≤ length (take n s ++ t)
long_enough n s t h = omega (arith, length-append (take n s) t, length-take-le n s h)

local_bytes : (w : ℕ) → Local (bytes w)
local_bytes w s n e t =
    let b = bytes_was w s n e in
    let q : n ≡ w = b.0 in
    rw q (sym (bytes_yes w (take w s ++ t) (long_enough w s t b.1)))

local_number : (w n : ℕ) (s t : List ℕ) → w ≤ n → n ≤ length s → number_in w (take n s ++ t) ≡ number_in w s
local_number w n s t h l =
    number_is w (take n s ++ t) (omega (arith, long_enough n s t l))
    ∙ ap (λ (u : List ℕ). accept (big_endian u)) (part_same 0 w n s t (omega arith) l)
    ∙ sym (number_is w s (omega arith))

local_boolean : Local boolean_end
unfolding boolean_end
local_boolean [] n e t = absurd (never 6 n e)
local_boolean (b ∷ s) n e t =
    let q : n ≡ 1 = accepted n 1 (sym (require_was 6 (leb b 1) (λ _. accept 1) n e).1) in
    rw q (rw q at e)

local_variable : (w : ℕ) → Local (variable_end w)
unfolding variable_end
local_variable w s n e t =
    let a = then_was (number_in w s) _ n e in
    let b = bytes_was (w + a.0) s n a.2 in
    let l : n ≤ length s = omega (arith, b.0, b.1) in
    then_accept (number_in w (take n s ++ t)) _ a.0 (local_number w n s t (omega (arith, b.0)) l ∙ a.1) ∙ local_bytes (w + a.0) s n a.2 t

local_compound : (r : ℕ → Reader) (shape : Shape) (w : ℕ) → Local (compound_end r shape w)
local_compound r shape w s n e t =
    let c = compound_was r shape w s n e in
    let l : n ≤ length s = omega (arith, c.whole, c.opens.fits) in
    let front : number_in w (take n s ++ t) ≡ number_in w s = local_number w n s t (omega (arith, c.whole)) l in
    let inner : take c.size (drop w (take n s ++ t)) ≡ take c.size (drop w s) = part_same w c.size n s t (omega (arith, c.whole)) l in
    let part : take (c.size - w) (drop (w + w) (take n s ++ t)) ≡ take (c.size - w) (drop (w + w) s) = part_same (w + w) (c.size - w) n s t (omega (arith, c.whole, c.room)) l in
    compound_is r shape w (take n s ++ t) c.size c.count
    (record { sized = front ∙ c.opens.sized; fits = omega (arith, c.whole, long_enough n s t l); counted = ap (number_in w) inner ∙ c.opens.counted; paired = c.opens.paired })
    c.room (ap (items r shape c.count) part ∙ c.filled)
    ∙ ap accept (sym c.whole)

local_body : (r : ℕ → Reader) (k : Kind) → Local (body r k)
unfolding body
local_body r (fixed w) = local_bytes w
local_body r boolean = local_boolean
local_body r (variable w) = local_variable w
local_body r (compound shape w) = local_compound r shape w

module _ (f g : Reader) (bound : (s : List ℕ) → Within (length s) (f s)) (hf : Local f) (hg : Local g) where
  local_both_at : (s : List ℕ) (a b : ℕ) → f s ≡ accept a → g (drop a s) ≡ accept b → (t : List ℕ) → followed_by f g (take (a + b) s ++ t) ≡ accept (a + b)
  local_both_at s a b p q t =
      let l : a ≤ length s = holds_accept (λ (m : ℕ). m ≤ length s) (f s) a (bound s) p in
      let u : List ℕ = take b (drop a s) ++ t in
      let e : take (a + b) s ++ t ≡ take a s ++ u = rw take-add (append_assoc (take a s) (take b (drop a s)) t) in
      let d : drop a (take a s ++ u) ≡ u = drop_at (take a s) u a (length-take-le a s l) in
      ap (followed_by f g) e ∙ both_is f g (take a s ++ u) a b (hf s a p u) (ap g d ∙ hg (drop a s) b q t)

  local_both : Local (followed_by f g)
  local_both s n e t =
      let b = both_was f g s n e in
      subst (λ (m : ℕ). followed_by f g (take m s ++ t) ≡ accept m) (sym b.sum) (local_both_at s b.first b.second b.first_ends b.second_ends t)

local_times : (f : Reader) → ((s : List ℕ) → Within (length s) (f s)) → Local f → (k : ℕ) → Local (times k f)
unfolding times
local_times f bound h zero s n e t = e
local_times f bound h (suc k) s n e t = local_both f (times k f) bound h (local_times f bound h k) s n e t

module _ (r : ℕ → Reader) (bound : (n : ℕ) (s : List ℕ) → Within (length s) (r n s)) (h : (n : ℕ) → Local (r n)) where
  local_after : (count : ℕ) (b : Bool) (c : ℕ) → Local (after_code r count b c)
  unfolding after_code
  local_after count true c s n e t = local_both (r 1) (r count) (bound 1) (h 1) (h count) s n e t
  local_after count false c s n e t =
      let a = then_was (kind_of c) _ n e in
      then_accept (kind_of c) _ a.0 a.1 ∙ local_times (body r a.0) (within_body r bound a.0) (local_body r a.0) count s n a.2 t

  local_level : (count : ℕ) → Local (level r count)
  unfolding level
  local_level count [] n e t = absurd (never 6 n e)
  local_level count (c ∷ s) n e t =
      let p = plus_was 1 (after_code r count (eqb c 0) c s) n e in
      let q : n ≡ suc p.0 = omega (arith, p.2) in
      subst (λ (m : ℕ). level r count (take m (c ∷ s) ++ t) ≡ accept m) (sym q)
      (plus_is 1 _ p.0 (local_after count (eqb c 0) c s p.0 p.1 t) ∙ ap accept (omega arith))

pub run_local : (d count : ℕ) (s : List ℕ) (n : ℕ) → run d count s ≡ accept n → (t : List ℕ) → run d count (take n s ++ t) ≡ accept n
unfolding run
run_local zero zero s n e t = local_level no_values (λ count u. refl) (λ count u m q v. absurd (never 6 m q)) 0 s n e t
run_local zero (suc k) s n e t = absurd (never 6 n e)
run_local (suc d) count s n e t = local_level (run d) (within_run d) (run_local d) count s n e t

pub value_local : (d : ℕ) (s : List ℕ) (n : ℕ) → value_end d s ≡ accept n → (t : List ℕ) → value_end d (take n s ++ t) ≡ accept n
unfolding value_end
value_local d s n e t = run_local d 1 s n e t

-- ---- bounds

pub run_within : (d count : ℕ) (s : List ℕ) (n : ℕ) → run d count s ≡ accept n → n ≤ length s
run_within d count s n e = holds_accept (λ (m : ℕ). m ≤ length s) (run d count s) n (within_run d count s) e

level_some : (r : ℕ → Reader) (count : ℕ) (s : List ℕ) (n : ℕ) → level r count s ≡ accept n → 1 ≤ n
unfolding level
level_some r count [] n e = absurd (never 6 n e)
level_some r count (c ∷ s) n e = let p = plus_was 1 (after_code r count (eqb c 0) c s) n e in omega (arith, p.2)

pub run_some : (d count : ℕ) (s : List ℕ) (n : ℕ) → run d count s ≡ accept n → 1 ≤ n
unfolding run
run_some zero zero s n e = level_some no_values 0 s n e
run_some zero (suc k) s n e = absurd (never 6 n e)
run_some (suc d) count s n e = level_some (run d) count s n e

pub run_six : (d count : ℕ) (s : List ℕ) (k : ℕ) → run d count s ≡ refuse k → k ≡ 6
run_six d count s k e = holds_refuse (λ (m : ℕ). m ≤ length s) (run d count s) k (within_run d count s) e

pub value_within : (d : ℕ) (s : List ℕ) (n : ℕ) → value_end d s ≡ accept n → n ≤ length s
unfolding value_end
value_within d s n e = run_within d 1 s n e

pub value_some : (d : ℕ) (s : List ℕ) (n : ℕ) → value_end d s ≡ accept n → 1 ≤ n
unfolding value_end
value_some d s n e = run_some d 1 s n e

pub value_six : (d : ℕ) (s : List ℕ) (k : ℕ) → value_end d s ≡ refuse k → k ≡ 6
unfolding value_end
value_six d s k e = run_six d 1 s k e

-- ---- what is accepted is accepted with a level more

abbrev More : Reader → Reader → Type 0
More f g = (s : List ℕ) (n : ℕ) → f s ≡ accept n → g s ≡ accept n

more_both : (f f' g g' : Reader) → More f f' → More g g' → More (followed_by f g) (followed_by f' g')
more_both f f' g g' hf hg s n e =
    let b = both_was f g s n e in
    both_is f' g' s b.first b.second (hf s b.first b.first_ends) (hg (drop b.first s) b.second b.second_ends) ∙ ap accept (sym b.sum)

more_times : (f f' : Reader) → More f f' → (k : ℕ) → More (times k f) (times k f')
unfolding times
more_times f f' h zero s n e = e
more_times f f' h (suc k) s n e = more_both f f' (times k f) (times k f') h (more_times f f' h k) s n e

module _ (r r' : ℕ → Reader) (h : (n : ℕ) → More (r n) (r' n)) where
  more_items : (shape : Shape) (count : ℕ) → More (items r shape count) (items r' shape count)
  unfolding items
  more_items list count = more_times (r 1) (r' 1) (h 1) count
  more_items map count = more_times (r 1) (r' 1) (h 1) count
  more_items array count = h count

  more_body : (k : Kind) → More (body r k) (body r' k)
  unfolding body
  more_body (fixed w) s n e = e
  more_body boolean s n e = e
  more_body (variable w) s n e = e
  more_body (compound shape w) s n e =
      let c = compound_was r shape w s n e in
      compound_is r' shape w s c.size c.count c.opens c.room (more_items shape c.count _ _ c.filled) ∙ ap accept (sym c.whole)

  more_after : (count : ℕ) (b : Bool) (c : ℕ) → More (after_code r count b c) (after_code r' count b c)
  unfolding after_code
  more_after count true c s n e = more_both (r 1) (r' 1) (r count) (r' count) (h 1) (h count) s n e
  more_after count false c s n e =
      let a = then_was (kind_of c) _ n e in
      then_accept (kind_of c) _ a.0 a.1 ∙ more_times (body r a.0) (body r' a.0) (more_body a.0) count s n a.2

  more_level : (count : ℕ) → More (level r count) (level r' count)
  unfolding level
  more_level count [] n e = e
  more_level count (c ∷ s) n e =
      let p = plus_was 1 (after_code r count (eqb c 0) c s) n e in
      plus_is 1 _ p.0 (more_after count (eqb c 0) c s p.0 p.1) ∙ ap accept (sym p.2)

pub run_deeper : (d count : ℕ) (s : List ℕ) (n : ℕ) → run d count s ≡ accept n → run (suc d) count s ≡ accept n
unfolding run
run_deeper zero zero s n e = more_level no_values (run 0) (λ count t m q. absurd (never 6 m q)) 0 s n e
run_deeper zero (suc k) s n e = absurd (never 6 n e)
run_deeper (suc d) count s n e = more_level (run d) (run (suc d)) (run_deeper d) count s n e

pub value_deeper : (d : ℕ) (s : List ℕ) (n : ℕ) → value_end d s ≡ accept n → value_end (suc d) s ≡ accept n
unfolding value_end
value_deeper d s n e = run_deeper d 1 s n e

-- ---- a value by its first byte

pub code_not_zero : (c : ℕ) (k : Kind) → kind_of c ≡ accept k → c ≡ 0 → ⊥
unfolding kind_of kind_in codes
code_not_zero c k e q = never 6 k (rw q at e)

once_at : (f : Reader) (s : List ℕ) (v : Verdict ℕ) → f s ≡ v → times 1 f s ≡ v
unfolding times followed_by and_then plus
once_at f s (accept n) e = rw e (ap accept (add-zero n))
once_at f s (refuse k) e = rw e

-- a value of a code is the code and one body of the code's kind
pub value_of_code : (d c : ℕ) (k : Kind) (s : List ℕ) → kind_of c ≡ accept k → value_end (suc d) (c ∷ s) ≡ plus 1 (body (run d) k s)
unfolding value_end run level after_code
value_of_code d c k s e = rw (ne_eqb c 0 (code_not_zero c k e)) (ap (plus 1) (then_accept (kind_of c) _ k e ∙ once_at (body (run d) k) s _ refl))

-- so its kind says where it ends
pub value_fixed : (d c w : ℕ) (s : List ℕ) (n : ℕ) → kind_of c ≡ accept (fixed w) → value_end (suc d) (c ∷ s) ≡ accept n → (n ≡ 1 + w) × (w ≤ length s)
unfolding body
value_fixed d c w s n k e =
    let p = plus_was 1 (bytes w s) n (sym (value_of_code d c (fixed w) s k) ∙ e) in
    let b = bytes_was w s p.0 p.1 in
    (omega (arith, p.2, b.0), b.1)

pub value_variable : (d c w : ℕ) (s : List ℕ) (n : ℕ) → kind_of c ≡ accept (variable w) → value_end (suc d) (c ∷ s) ≡ accept n → (n ≡ 1 + w + big_endian (take w s)) × (w + big_endian (take w s) ≤ length s)
unfolding body variable_end
value_variable d c w s n k e =
    let p = plus_was 1 (variable_end w s) n (sym (value_of_code d c (variable w) s k) ∙ e) in
    let a = then_was (number_in w s) _ p.0 p.1 in
    let m = number_was w s a.0 a.1 in
    let b = bytes_was (w + a.0) s p.0 a.2 in
    (omega (arith, p.2, b.0, m.0), omega (arith, b.1, m.0))

-- a described value is 00 and two values a level deeper
pub value_described : (d : ℕ) (s : List ℕ) → value_end (suc d) (0 ∷ s) ≡ plus 1 (followed_by (value_end d) (value_end d) s)
unfolding value_end run level after_code
value_described d s = refl
