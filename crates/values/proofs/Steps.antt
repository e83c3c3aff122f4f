-- What each step of the functions shows, with the answers of the functions that it calls as they come: e is such an answer, with what its function
-- ensures. `search` finds the facts.
-- Assumes nothing.
use mathlib.Core.Path.{◌≡◌, refl, sym, ap, ◌∙◌}
use mathlib.Core.Bool.{Bool, true, false, cond}
use mathlib.Core.List.{List, ◌∷◌}
use Prim.Native.Nat.{ℕ, zero, suc, ◌+◌, ◌*◌, ◌-◌, ◌<◌, ◌≤◌}
use native.Mathlib.Nat.{zero-add, add-zero, sub-zero}
use native.Mathlib.Numerals.{sub-one}
use native.Mathlib.Omega.{arith}
use Rattle.std.specs.Prelude.{Option, None, Some}
use lib.Dec.{leb, eqb}
use lib.ListN.{length, take, drop, get_or, length-drop}
use lib.Seq.{drop-cons, drop-drop, get_or-drop}
use borrow.Author.Tests.{eqb-true, eqb-false, lt-leb, eq-eqb, ne_eqb}
use Rattle.octets.specs.Verdict.{Verdict, refuse, accept, and_then}
use Rattle.octets.specs.Octets.{big_endian, big_endian_from}
use Rattle.octets.proofs.Laws.{require_off}
use Rattle.values.specs.Value.{Reader, Shape, list, map, array, Kind, fixed, boolean, variable, compound, codes, kind_in, kind_of, followed_by, times, bytes, number_in, boolean_end, variable_end, items, compound_end, body, after_code, level, run, value_end}
use Rattle.values.specs.Widths.{fixed_width}
use Rattle.values.specs.Plain.{is_known, plain_kind, is_plain}
use Rattle.values.specs.declared.format_code.Shape as S
use Rattle.values.specs.declared.format_code.Shape.TheVariants.{List as ListShape, Map as MapShape, Array as ArrayShape}
use Rattle.values.specs.declared.format_code.Width.{Width}
use Rattle.values.specs.declared.format_code.Width.TheVariants.{One}
use Rattle.values.specs.declared.format_code.Kind as K
use Rattle.values.specs.declared.format_code.Kind.TheVariants.{Fixed, Boolean, Variable, List as Lists, Map, Array}
use Rattle.values.specs.Answers.{well_formed, place_after, width_of, shape_of, kind_said, code_said}
use Rattle.values.proofs.Widths.{boolean_width}
use Rattle.values.proofs.Cases.{bytes_yes, bytes_no, boolean_none, boolean_yes, boolean_no, times_bytes, run_none, run_bodies, run_undescribed, run_unknown, run_none_of}
use Rattle.values.proofs.Turns.{place_plus, left, turn_first}
use Rattle.values.proofs.Apart.{number_is}
use Rattle.values.proofs.Laws.{code_not_zero, value_of_code}
use Rattle.values.proofs.Places.{place_of, place_none, drop_past, run_off, run_on, run_in, place_off, place_on, place_in}
use Rattle.values.proofs.Plain.{known_kind, unknown_kind, plain_fixed, plain_variable}

-- ---- sizes and counts

module _ (s : List ℕ) (at : ℕ) (width : Width) (h : at + width_of width ≤ length s) where
  module _ (t : width ≡ One) where
    narrow_in : at < length s
    narrow_in = let k : at + 1 ≤ length s = rw t at h in omega arith

    pub narrow_is : (x : ℕ) → x ≡ get_or s at 0 → x ≡ big_endian (take (width_of width) (drop at s))
    unfolding big_endian big_endian_from
    narrow_is x e = e ∙ rw (t, drop-cons s at 0 narrow_in) (sym (zero-add (get_or s at 0)))

-- ---- bodies without values in them

front : (s : List ℕ) (at : ℕ) → get_or (drop at s) 0 0 ≡ get_or s at 0
front s at = get_or-drop at s 0 0 ∙ ap (λ (n : ℕ). get_or s n 0) (add-zero at)

module _ (s : List ℕ) (at n : ℕ) where
  pub bytes_off : at ≤ length s → length s < at + n → 0 ≡ place_after at (bytes n (drop at s))
  bytes_off h k = rw (← bytes_no n (drop at s) (omega (arith, length-drop at s)))

  pub bytes_on : at + n ≤ length s → at + n ≡ place_after at (bytes n (drop at s))
  bytes_on h = rw (← bytes_yes n (drop at s) (omega (arith, length-drop at s)))

module _ (s : List ℕ) (at w : ℕ) (e : w ≡ fixed_width 0x56) where
  pub boolean_cut : length s - at < w → 0 ≡ place_after at (boolean_end (drop at s))
  boolean_cut h = rw (← boolean_none (drop at s) w e (omega (arith, length-drop at s)))

  module _ (h : at ≤ length s) (k : w ≤ length s - at) where
    there : w ≤ length (drop at s)
    there = omega (arith, length-drop at s)

    pub boolean_off : 1 < get_or s at 0 → 0 ≡ place_after at (boolean_end (drop at s))
    boolean_off g = rw (← boolean_no (drop at s) w e there (rw (front s at) g))

    pub boolean_on : get_or s at 0 ≤ 1 → at + w ≡ place_after at (boolean_end (drop at s))
    boolean_on g = rw (← boolean_yes (drop at s) w e there (rw (front s at) g))

    pub boolean_in : at < length s
    boolean_in = omega (arith, boolean_width)

module _ (s : List ℕ) (at : ℕ) (width : Width) (w : ℕ) (e : w ≡ width_of width) where
  pub variable_cut : length s - at < w → 0 ≡ place_after at (variable_end (width_of width) (drop at s))
  unfolding variable_end number_in and_then
  variable_cut h = rw (require_off 6 (leb (width_of width) (length (drop at s))) (λ _. accept (big_endian (take (width_of width) (drop at s)))) (lt-leb (width_of width) (length (drop at s)) (omega (arith, length-drop at s))))

  module _ (k : w ≤ length s - at) (h : at ≤ length s) where
    pub variable_is : (n r : ℕ) → n ≡ big_endian (take (width_of width) (drop at s)) → r ≡ place_after at (bytes (w + n) (drop at s)) → r ≡ place_after at (variable_end (width_of width) (drop at s))
    unfolding variable_end and_then
    variable_is n r q g = g ∙ rw (number_is (width_of width) (drop at s) (omega (arith, length-drop at s)), ← q, e)

-- ---- values

pub plain_yes : (b : Bool) (c : ℕ) → b ≡ is_plain c → b ≡ true → is_plain c ≡ true
plain_yes b c p t = sym p ∙ t

-- a code that stands at a place, and the bytes after it
module _ (s : List ℕ) (at : ℕ) (h : at < length s) where
  abbrev code : ℕ
  code = get_or s at 0

  opens : drop at s ≡ code ∷ drop (at + 1) s
  opens = let q : suc at ≡ at + 1 = omega arith in drop-cons s at 0 h ∙ rw q

  -- the value of a code is one body of its kind
  known : (d : ℕ) (k : Kind) → (d ≡ 0 → ⊥) → kind_of code ≡ accept k → place_after at (value_end d (drop at s)) ≡ place_after (at + 1) (body (run (d - 1)) k (drop (at + 1) s))
  known zero k z e = absurd (z refl)
  known (suc d) k z e = rw (opens, value_of_code d code k (drop (at + 1) s) e, place_plus, sub-one (suc d))

  -- ---- plain_end

  module _ (p : is_plain code ≡ true) (r : ℕ) where
    pub plain_short : (w : ℕ) → code < 160 → w ≡ fixed_width code → r ≡ place_after (at + 1) (bytes w (drop (at + 1) s)) → r ≡ place_after at (value_end 1 (drop at s))
    unfolding body
    plain_short w l e q = q ∙ rw e (sym (known 1 (fixed (fixed_width code)) (λ z. omega arith) (plain_fixed code p l)))

    pub plain_sized : 160 ≤ code → r ≡ place_after (at + 1) (variable_end 1 (drop (at + 1) s)) → r ≡ place_after at (value_end 1 (drop at s))
    unfolding body
    plain_sized l q = q ∙ sym (known 1 (variable 1) (λ z. omega arith) (plain_variable code p l))

  -- and a run of it so many bodies
  runs : (d count : ℕ) (k : Kind) → (d ≡ 0 → ⊥) → kind_of code ≡ accept k → place_after at (run d count (drop at s)) ≡ place_after (at + 1) (times count (body (run (d - 1)) k) (drop (at + 1) s))
  unfolding run level after_code and_then
  runs zero count k z e = absurd (z refl)
  runs (suc d) count k z e = rw (opens, ne_eqb code 0 (code_not_zero code k e), e, place_plus, sub-one (suc d))

  describes : (d count : ℕ) → (d ≡ 0 → ⊥) → code ≡ 0 → place_after at (run d count (drop at s)) ≡ place_after (at + 1) (followed_by (run (d - 1) 1) (run (d - 1) count) (drop (at + 1) s))
  unfolding run level after_code
  describes zero count z e = absurd (z refl)
  describes (suc d) count z e = rw (opens, eq-eqb code 0 e, place_plus, sub-one (suc d))

  -- ---- plains_end

  module _ (p : is_plain code ≡ true) (count r : ℕ) where
    one : ◌≡◌ {A = ℕ} 1 0 → ⊥
    one e = omega arith

    pub plains_short : (w : ℕ) → code < 160 → w ≡ fixed_width code → r ≡ place_after (at + 1) (bytes (count * w) (drop (at + 1) s)) → r ≡ place_after at (run 1 count (drop at s))
    unfolding body
    plains_short w l e q = q ∙ rw e (ap (place_after (at + 1)) (sym (times_bytes (fixed_width code) count (drop (at + 1) s))) ∙ sym (runs 1 count (fixed (fixed_width code)) one (plain_fixed code p l)))

    pub plains_sized : 160 ≤ code → r ≡ place_after (at + 1) (times count (variable_end 1) (drop (at + 1) s)) → r ≡ place_after at (run 1 count (drop at s))
    unfolding body
    plains_sized l q = q ∙ sym (runs 1 count (variable 1) one (plain_variable code p l))

    -- on every level alike
    pub plains_deep : (d : ℕ) → (d ≡ 0 → ⊥) → r ≡ place_after at (run 1 count (drop at s)) → r ≡ place_after at (run d count (drop at s))
    unfolding body is_plain
    plains_deep d z q = q ∙ go (kind_of code) refl p
      where
        go : (v : Verdict Kind) → kind_of code ≡ v → plain_kind v ≡ true → place_after at (run 1 count (drop at s)) ≡ place_after at (run d count (drop at s))
        go (accept (fixed w)) e t = runs 1 count (fixed w) one e ∙ sym (runs d count (fixed w) z e)
        go (accept boolean) e t = let z : ◌≡◌ {A = ℕ} 0 1 = cc in absurd (omega arith)
        go (accept (variable w)) e t = runs 1 count (variable w) one e ∙ sym (runs d count (variable w) z e)
        go (accept (compound shape w)) e t = let z : ◌≡◌ {A = ℕ} 0 1 = cc in absurd (omega arith)
        go (refuse k) e t = let z : ◌≡◌ {A = ℕ} 0 1 = cc in absurd (omega arith)

  pub plain_deep : is_plain code ≡ true → (r d : ℕ) → (d ≡ 0 → ⊥) → r ≡ place_after at (value_end 1 (drop at s)) → r ≡ place_after at (value_end d (drop at s))
  unfolding value_end
  plain_deep p r d z q = plains_deep p 1 r d z q

  -- ---- other_end

  deep : (d : ℕ) → 0 < d → d ≡ 0 → ⊥
  deep d z e = omega arith

  module _ (c : ℕ) (i : c ≡ code) where
    pub not_described : (c ≡ 0 → ⊥) → code ≡ 0 → ⊥
    not_described n e = n (i ∙ e)

    module _ (d r : ℕ) (z : 0 < d) where
      pub value_described : c ≡ 0 → r ≡ place_after (at + 1) (followed_by (run (d - 1) 1) (run (d - 1) 1) (drop (at + 1) s)) → r ≡ place_after at (value_end d (drop at s))
      unfolding value_end
      value_described e q = q ∙ sym (describes d 1 (deep d z) (sym i ∙ e))

      pub value_boolean : c ≡ 0x56 → r ≡ place_after (at + 1) (boolean_end (drop (at + 1) s)) → r ≡ place_after at (value_end d (drop at s))
      unfolding body kind_of kind_in codes
      value_boolean e q = q ∙ sym (known d boolean (deep d z) (ap kind_of (sym i ∙ e)))

      compounded : (shape : Shape) → kind_of code ≡ accept (compound shape 1) → r ≡ place_after (at + 1) (compound_end (run (d - 1)) shape 1 (drop (at + 1) s)) → r ≡ place_after at (value_end d (drop at s))
      unfolding body
      compounded shape k q = q ∙ sym (known d (compound shape 1) (deep d z) k)

      pub value_small : (shape : S.Shape) → kind_of c ≡ accept (compound (shape_of shape) 1) → r ≡ place_after (at + 1) (compound_end (run (d - 1)) (shape_of shape) 1 (drop (at + 1) s)) → r ≡ place_after at (value_end d (drop at s))
      value_small shape k q = compounded (shape_of shape) (ap kind_of (sym i) ∙ k) q

      pub value_array : c ≡ 0xe0 → r ≡ place_after (at + 1) (compound_end (run (d - 1)) array 1 (drop (at + 1) s)) → r ≡ place_after at (value_end d (drop at s))
      unfolding kind_of kind_in codes
      value_array e q = compounded array (ap kind_of (sym i ∙ e)) q

  -- ---- code_end

  module _ (d count r : ℕ) (z : 0 < d) where
    compounds : (shape : Shape) → kind_of code ≡ accept (compound shape 1) → r ≡ place_after (at + 1) (times count (compound_end (run (d - 1)) shape 1) (drop (at + 1) s)) → r ≡ place_after at (run d count (drop at s))
    unfolding body
    compounds shape k q = q ∙ sym (runs d count (compound shape 1) (deep d z) k)

    pub run_small : (shape : S.Shape) → kind_of code ≡ accept (compound (shape_of shape) 1) → r ≡ place_after (at + 1) (times count (compound_end (run (d - 1)) (shape_of shape) 1) (drop (at + 1) s)) → r ≡ place_after at (run d count (drop at s))
    run_small shape k q = compounds (shape_of shape) k q

    pub run_array : code ≡ 0xe0 → r ≡ place_after (at + 1) (times count (compound_end (run (d - 1)) array 1) (drop (at + 1) s)) → r ≡ place_after at (run d count (drop at s))
    unfolding kind_of kind_in codes
    run_array e q = compounds array (ap kind_of e) q

    module _ (k : Option K.Kind) (o : code_said k ≡ kind_of code) where
      pub code_unknown : (code ≡ 0 → ⊥) → k ≡ None → 0 ≡ place_after at (run d count (drop at s))
      code_unknown n u = place_none at 6 _ (sym (run_unknown d count (drop at s) (λ q. omega (arith, length-drop at s)) (λ q. n (sym (front s at) ∙ q)) (ap kind_of (front s at) ∙ sym o ∙ ap code_said u)))

      module _ (kind : K.Kind) (u : k ≡ Some kind) where
        is : kind_of code ≡ accept (kind_said kind)
        is = sym o ∙ ap code_said u

        bodies : r ≡ place_after (at + 1) (times count (body (run (d - 1)) (kind_said kind)) (drop (at + 1) s)) → r ≡ place_after at (run d count (drop at s))
        bodies q = q ∙ sym (runs d count (kind_said kind) (deep d z) is)

        pub bodies_fixed : (c w : ℕ) → kind ≡ Fixed c → w ≡ fixed_width c → r ≡ place_after (at + 1) (bytes (count * w) (drop (at + 1) s)) → r ≡ place_after at (run d count (drop at s))
        unfolding body
        bodies_fixed c w e f q = bodies (q ∙ rw (e, ← f) (ap (place_after (at + 1)) (sym (times_bytes w count (drop (at + 1) s)))))

        pub bodies_boolean : kind ≡ Boolean → r ≡ place_after (at + 1) (times count boolean_end (drop (at + 1) s)) → r ≡ place_after at (run d count (drop at s))
        unfolding body
        bodies_boolean e q = bodies (q ∙ rw e)

        pub bodies_variable : (width : Width) → kind ≡ Variable width → r ≡ place_after (at + 1) (times count (variable_end (width_of width)) (drop (at + 1) s)) → r ≡ place_after at (run d count (drop at s))
        unfolding body
        bodies_variable width e q = bodies (q ∙ rw e)

        module _ (width : Width) where
          pub bodies_list : kind ≡ Lists width → r ≡ place_after (at + 1) (times count (compound_end (run (d - 1)) list (width_of width)) (drop (at + 1) s)) → r ≡ place_after at (run d count (drop at s))
          unfolding body
          bodies_list e q = bodies (q ∙ rw e)

          pub bodies_map : kind ≡ Map width → r ≡ place_after (at + 1) (times count (compound_end (run (d - 1)) map (width_of width)) (drop (at + 1) s)) → r ≡ place_after at (run d count (drop at s))
          unfolding body
          bodies_map e q = bodies (q ∙ rw e)

          pub bodies_array : kind ≡ Array width → r ≡ place_after (at + 1) (times count (compound_end (run (d - 1)) array (width_of width)) (drop (at + 1) s)) → r ≡ place_after at (run d count (drop at s))
          unfolding body
          bodies_array e q = bodies (q ∙ rw e)

  -- ---- run_end

  module _ (d count : ℕ) where
    filled : length (drop at s) ≡ 0 → ⊥
    filled q = omega (arith, length-drop at s)

    pub run_shallow : code ≡ 0 → d ≡ 0 → 0 ≡ place_after at (run d count (drop at s))
    run_shallow e z = rw z (place_none at 6 _ (sym (run_undescribed count (drop at s) filled (front s at ∙ e))))

    pub run_describes : (r : ℕ) → code ≡ 0 → (d ≡ 0 → ⊥) → r ≡ place_after (at + 1) (followed_by (run (d - 1) 1) (run (d - 1) count) (drop (at + 1) s)) → r ≡ place_after at (run d count (drop at s))
    run_describes r e z q = q ∙ sym (describes d count z e)

    module _ (b : Bool) (k : b ≡ is_known code) (e : count ≡ 0) where
      pub none_known : b ≡ true → at + 1 ≡ place_after at (run d count (drop at s))
      none_known t =
          let x = known_kind code (sym k ∙ t) in
          rw e (place_of at 1 _ (run_none_of d (drop at s) filled x.0 (ap kind_of (front s at) ∙ x.1)))

      pub none_unknown : (code ≡ 0 → ⊥) → b ≡ false → 0 ≡ place_after at (run d count (drop at s))
      none_unknown n t = place_none at 6 _ (sym (run_unknown d count (drop at s) filled (λ q. n (sym (front s at) ∙ q)) (ap kind_of (front s at) ∙ unknown_kind code (sym k ∙ t))))

    pub run_deep : (count ≡ 0 → ⊥) → d ≡ 0 → 0 ≡ place_after at (run d count (drop at s))
    run_deep n z = rw z (place_none at 6 _ (sym (run_bodies count (drop at s) n)))

pub run_one : (s : List ℕ) (at d count r : ℕ) → count ≡ 1 → r ≡ place_after at (value_end d (drop at s)) → r ≡ place_after at (run d count (drop at s))
unfolding value_end
run_one s at d count r e q = rw e q

pub one_value : (s : List ℕ) (at d r : ℕ) → r ≡ place_after at (run d 1 (drop at s)) → r ≡ place_after at (value_end d (drop at s))
unfolding value_end
one_value s at d r q = q

pub value_shallow : (s : List ℕ) (at d : ℕ) → d ≡ 0 → 0 ≡ place_after at (value_end d (drop at s))
unfolding value_end run
value_shallow s at d z = rw z

pub run_past : (s : List ℕ) (at d count : ℕ) → length s ≤ at → 0 ≡ place_after at (run d count (drop at s))
run_past s at d count h = place_none at 6 _ (sym (run_none d count (drop at s) (ap length (drop_past s at h))))

-- ---- described_end

pub described_shallow : (s : List ℕ) (at d : ℕ) (g : Reader) → d ≡ 0 → 0 ≡ place_after at (followed_by (run d 1) g (drop at s))
unfolding followed_by and_then
described_shallow s at d g z = rw (z, ← run_bodies 1 (drop at s) (λ e. omega arith))

module _ (s : List ℕ) (at d next : ℕ) (p : next ≡ place_after at (value_end d (drop at s))) where
  pub described_off : (g : Reader) → next ≡ 0 → 0 ≡ place_after at (followed_by (run d 1) g (drop at s))
  unfolding value_end followed_by and_then
  described_off g z = rw (run_off d 1 at s next p z)

  pub described_on : (count r : ℕ) → (next ≡ 0 → ⊥) → r ≡ place_after next (run d count (drop next s)) → r ≡ place_after at (followed_by (run d 1) (run d count) (drop at s))
  unfolding value_end followed_by and_then
  described_on count r z q =
      let e : at + (next - at) ≡ next = omega (arith, run_in d 1 at s next p z) in
      q ∙ rw (run_on d 1 at s next p z, place_plus, drop-drop, e)

  pub next_in_is : (next ≡ 0 → ⊥) → next ≤ length s
  next_in_is z = (place_in d at s next p z).1

-- ---- items_end

pub items_array : (s : List ℕ) (at d count r : ℕ) (shape : S.Shape) → shape ≡ ArrayShape → r ≡ place_after at (run d count (drop at s)) → r ≡ place_after at (items (run d) (shape_of shape) count (drop at s))
unfolding items
items_array s at d count r shape e q = rw e q

-- a list's or a map's are values, one after the other
pub items_each : (s : List ℕ) (at d count : ℕ) (shape : S.Shape) → (shape ≡ ArrayShape → ⊥) → place_after at (items (run d) (shape_of shape) count (drop at s)) ≡ left (run d 1) s count 0 at
unfolding items
items_each s at d count ListShape n = turn_first (run d 1) s count at
items_each s at d count MapShape n = turn_first (run d 1) s count at
items_each s at d count ArrayShape n = absurd (n refl)

pub as_run : (s : List ℕ) (end d next : ℕ) → next ≡ place_after end (value_end d (drop end s)) → next ≡ place_after end (run d 1 (drop end s))
unfolding value_end
as_run s end d next e = e

-- ---- value_end

module _ (s : List ℕ) (d end : ℕ) (v : Option ℕ) (e : end ≡ place_after 0 (value_end d (drop 0 s))) (q : well_formed v ≡ cond (eqb end 0) (refuse 6) (accept end)) where
  pub value_is : well_formed v ≡ value_end d s
  value_is = q ∙ go (eqb end 0) refl
    where
      go : (b : Bool) → eqb end 0 ≡ b → cond b (refuse 6) (accept end) ≡ value_end d s
      go true t = sym (place_off d 0 s end e (eqb-true end 0 t))
      go false t = rw (sub-zero end) at (sym (place_on d 0 s end e (eqb-false end 0 t)))

pub value_plain : (s : List ℕ) (d end : ℕ) (v : Option ℕ) (b : Bool) → (length s ≡ 0 → ⊥) → b ≡ is_plain (get_or s 0 0) → b ≡ true → (d ≡ 0 → ⊥) → end ≡ place_after 0 (value_end 1 (drop 0 s)) → well_formed v ≡ cond (eqb end 0) (refuse 6) (accept end) → well_formed v ≡ value_end d s
value_plain s d end v b h p t z e q = value_is s d end v (plain_deep s 0 (omega (arith, h)) (sym p ∙ t) end d z e) q

pub value_empty : (d : ℕ) (s : List ℕ) → length s ≡ 0 → refuse 6 ≡ value_end d s
unfolding value_end
value_empty d s h = run_none d 1 s h

pub value_nowhere : (d : ℕ) (s : List ℕ) → d ≡ 0 → refuse 6 ≡ value_end d s
unfolding value_end run
value_nowhere d s z = rw z

pub value_none : (end : ℕ) → end ≡ 0 → refuse 6 ≡ cond (eqb end 0) (refuse 6) (accept end)
value_none end z = rw (eq-eqb end 0 z)

pub value_some : (end : ℕ) → (end ≡ 0 → ⊥) → accept end ≡ cond (eqb end 0) (refuse 6) (accept end)
value_some end z = rw (ne_eqb end 0 z)
