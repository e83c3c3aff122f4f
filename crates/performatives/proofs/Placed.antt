-- The place of an error's condition: what each step of `text`, `error_condition` and `condition_in` shows.
-- Assumes nothing.
use mathlib.Core.Path.{◌≡◌, refl, sym, ap, ◌∙◌, subst}
use mathlib.Core.Bool.{Bool, true, false}
use mathlib.Core.List.{List, [], ◌∷◌, append-nil}
use Prim.Native.Nat.{ℕ, ◌+◌, ◌-◌, ◌^◌, ◌<◌, ◌≤◌}
use native.Mathlib.Omega.{arith}
use mir.Syntax.{w64}
use mir.Val.{Fits}
use lib.ListN.{length, take, drop, length-take, length-drop}
use lib.Seq.{length-take-le}
use Rattle.octets.specs.Verdict.{Verdict, refuse, accept}
use Rattle.octets.specs.Octets.{big_endian, starts_with}
use Rattle.values.specs.Value.{value_end}
use Rattle.values.specs.Null.{is_null, or_null}
use Rattle.values.proofs.Laws.{value_within, value_local}
use Rattle.values.proofs.Missing.{null_missing}
use Rattle.performatives.specs.Fields.{Error}
use Rattle.performatives.specs.Performative.{described, is_error, has_type, fits, when_not, text_at, condition_at}
use Rattle.performatives.specs.Inner.{after_or, next, skip, item, value_at, text_from}
use Rattle.performatives.proofs.Lists.{part_is}
use Rattle.performatives.proofs.Bounds.{described_lies}
use Rattle.performatives.proofs.Conditions.{error_text_lem}
use Rattle.performatives.proofs.Found.{skip_within, skip_next, item_is, item_past}
use Rattle.performatives.proofs.Numbers.{there, some_there}

-- ---- text

module _ (s : List ℕ) (at : ℕ) (b : Bool) (p : b ≡ starts_with (0xa1 ∷ 0xa3 ∷ []) s) (h : text_from s ≤ length s) where
  module _ (t : b ≡ true) where
    pub short_some : 2 ≤ length s
    short_some = rw (← p, t) at h

    pub short_fits : at + length s < 2 ^ 64 → Fits w64 (at + 2)
    short_fits g = omega (arith, short_some)

    pub short_is : (x : ℕ) → x ≡ big_endian (take 8 (take 1 (drop 1 s))) → (at + 2) ∷ x ∷ [] ≡ text_at at s
    short_is x e = rw (← p, t, part_is 1 (omega arith) s 1 x e)

  module _ (t : b ≡ false) where
    pub long_some : 5 ≤ length s
    long_some = rw (← p, t) at h

    pub long_fits : at + length s < 2 ^ 64 → Fits w64 (at + 5)
    long_fits g = omega (arith, long_some)

    pub long_is : (x : ℕ) → x ≡ big_endian (take 8 (take 4 (drop 1 s))) → (at + 5) ∷ x ∷ [] ≡ text_at at s
    long_is x e = rw (← p, t, part_is 4 (omega arith) s 1 x e)

-- ---- error_condition

module _ (f : List ℕ) (at : ℕ) where
  pub condition_none : refuse 6 ≡ described f → [] ≡ condition_at at f (described f)
  unfolding condition_at
  condition_none p = rw (← p)

  module _ (code count from end : ℕ) (p : accept (record { code = code; count = count; from = from; end = end }) ≡ described f) where
    is : described f ≡ accept (record { code = code; count = count; from = from; end = end })
    is = sym p

    pub place_fits : at + length f < 2 ^ 64 → Fits w64 (at + from)
    place_fits h = omega (arith, (described_lies f _ is).ordered, (described_lies f _ is).inside)

    pub text_given : (is_error f ≡ true) × (value_end 16 f ≡ accept (length f)) × (at + length f < 2 ^ 64) → (text_from (take (end - from) (drop from f)) ≤ length (take (end - from) (drop from f))) × ((at + from) + length (take (end - from) (drop from f)) < 2 ^ 64)
    text_given g =
        let w = error_text_lem f (length f) _ g.1 is g.0 in
        (omega arith, omega (arith, g.2, (described_lies f _ is).ordered, (described_lies f _ is).inside, length-take (end - from) (drop from f), length-drop from f))

    pub condition_some : (r : List ℕ) → r ≡ text_at (at + from) (take (end - from) (drop from f)) → r ≡ condition_at at f (described f)
    unfolding condition_at
    condition_some r e = rw is e

-- ---- condition_in

-- a value that was found is whole, and lies in s
module _ (i : ℕ) (s : List ℕ) where
  -- its bytes, by where it ends
  abbrev part : Verdict ℕ → List ℕ
  part v = take (after_or (skip i s) v - skip i s) (drop (skip i s) s)

  pub item_lies : skip i s + length (item i s) ≤ length s
  unfolding item
  item_lies =
      omega (arith, skip_within i s, length-take (next s (skip i s) - skip i s) (drop (skip i s) s), length-drop (skip i s) s)

  pub item_whole : 1 ≤ length (item i s) → value_end 16 (item i s) ≡ accept (length (item i s))
  unfolding item next
  item_whole = go (value_end 16 (drop (skip i s) s)) refl
    where
      go : (v : Verdict ℕ) → value_end 16 (drop (skip i s) s) ≡ v → 1 ≤ length (part v) → value_end 16 (part v) ≡ accept (length (part v))
      go (refuse k) e h = absurd (omega (arith, length-take (skip i s - skip i s) (drop (skip i s) s)))
      go (accept n) e h =
          let d : (skip i s + n) - skip i s ≡ n = omega arith in
          let l = length-take-le n (drop (skip i s) s) (value_within 16 _ n e) in
          rw (d, l) (ap (value_end 16) (sym (append-nil (take n (drop (skip i s) s)))) ∙ value_local 16 _ n e [])

-- field i is the last that there may be, and `count` values fill s, of which the last begins at `last`
module _ (i count last from : ℕ) (s : List ℕ) (g : (fits Error false (value_at i s) ≡ true) × (from + length s < 2 ^ 64) × (last ≡ skip (count - 1) s) × (skip count s ≡ length s) × (count ≤ i + 1)) where
  abbrev f : List ℕ
  f = take (length s - last) (drop last s)

  abbrev Says : List ℕ → Type 0
  Says r = r ≡ when_not (is_null (value_at i s)) (condition_at (from + skip i s) (value_at i s) (described (value_at i s)))

  null_field : (h : List ℕ) → h ≡ item i s → true ≡ is_null (or_null h) → Says []
  unfolding value_at
  null_field h p q = rw (← p, ← q)

  pub error_missing : count ≤ i → Says []
  error_missing h = null_field [] (item_past i count s g.3 h) (null_missing [] refl)

  module _ (h : i < count) where
    last_at : last ≡ skip i s
    last_at = let e : count - 1 ≡ i = omega (arith, g.4) in g.2 ∙ rw e

    pub last_within : last ≤ length s
    last_within = omega (arith, last_at, skip_within i s)

    is_item : f ≡ item i s
    is_item =
        let e : count ≡ i + 1 = omega (arith, g.4) in
        let n : skip count s ≡ next s last = rw e (sym (skip_next s i last (next s last) last_at refl)) in
        item_is i s last last_at (length s) (sym g.3 ∙ n)

    module _ (b : Bool) (q : b ≡ is_null (or_null f)) where
      pub no_error : b ≡ true → Says []
      no_error t = null_field f is_item (sym t ∙ q)

      pub error_fits : Fits w64 (from + last)
      error_fits = omega (arith, g.1, last_within)

      module _ (t : b ≡ false) where
        same : value_at i s ≡ f
        unfolding value_at
        same = rw (← is_item) (there f (sym q ∙ t))

        Some : is_null f ≡ false
        Some = ap is_null (sym (there f (sym q ∙ t))) ∙ sym q ∙ t

        pub error_given : (is_error f ≡ true) × (value_end 16 f ≡ accept (length f)) × ((from + last) + length f < 2 ^ 64)
        unfolding fits has_type
        error_given =
            let w : value_end 16 f ≡ accept (length f) = subst (λ (x : List ℕ). 1 ≤ length x → value_end 16 x ≡ accept (length x)) (sym is_item) (item_whole i s) (some_there f (sym q ∙ t)) in
            (rw (same, Some) at g.0, w, omega (arith, g.1, ap length is_item, item_lies i s, last_at))

        pub error_there : (r : List ℕ) → r ≡ condition_at (from + last) f (described f) → Says r
        error_there r c = rw (same, Some, ← last_at) c
