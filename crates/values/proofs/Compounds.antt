-- Compounds: what each step of `sized_end` and `compound_end` shows, with the answers of the functions that they call as they come.
-- Assumes nothing.
use mathlib.Core.Path.{◌≡◌, refl, sym, ap, ◌∙◌}
use mathlib.Core.Bool.{Bool, true, false}
use mathlib.Core.List.{List, [], ◌∷◌}
use Prim.Native.Nat.{ℕ, zero, suc, ◌+◌, ◌-◌, ◌<◌, ◌≤◌}
use native.Mathlib.Nat.{sub-zero}
use native.Mathlib.Omega.{arith}
use lib.Dec.{leb}
use lib.ListN.{length, take, drop, length-take, length-drop}
use lib.Seq.{drop-drop, take-take, length-take-le}
use borrow.Author.Tests.{leb-true, leb-false}
use Rattle.octets.specs.Verdict.{Verdict, refuse, accept, and_then}
use Rattle.octets.specs.Octets.{big_endian}
use Rattle.values.specs.Value.{Reader, Shape, list, bytes, paired_in, opening, items, compound_end, run}
use Rattle.values.specs.declared.format_code.Shape as S
use Rattle.values.specs.declared.format_code.Width.{Width}
use Rattle.values.specs.declared.format_code.Width.TheVariants.{One, Four}
use Rattle.values.specs.Answers.{place_after, width_of, shape_of, end_in}
use Rattle.values.proofs.Cases.{bytes_yes, bytes_no}
use Rattle.values.proofs.Apart.{number_was, number_is, Opened, opening_was, opening_is, Compounded, compound_was, compound_is}

-- ---- sized_end

-- what has no size, or whose size has no room for a count, does not open
unopened : (at w : ℕ) (t : List ℕ) → ((size count : ℕ) → Opened list w t size count → ⊥) → 0 ≡ place_after at (end_in w t)
unfolding end_in and_then
unopened at w t never = go (opening list w t) refl
  where
    go : (v : Verdict (ℕ × ℕ)) → opening list w t ≡ v → 0 ≡ place_after at (and_then v (λ o. accept (w + o.0)))
    go (accept o) e = absurd (never o.0 o.1 (opening_was list w t o e))
    go (refuse k) e = refl

room : (shape : Shape) (w size count : ℕ) (t : List ℕ) → Opened shape w t size count → (w ≤ size) × (w + size ≤ length t) × (size ≡ big_endian (take w t)) × (count ≡ big_endian (take w (drop w t)))
room shape w size count t o =
    let a = number_was w t size o.sized in
    let b = number_was w (take size (drop w t)) count o.counted in
    let l : w ≤ size = omega (arith, b.1, length-take size (drop w t)) in
    (l, o.fits, a.0, b.0 ∙ rw (take-take w size (drop w t) l))

module _ (s : List ℕ) (at w : ℕ) (width : Width) (e : w ≡ width_of width) where
  pub sized_cut : length s - at < w + w → 0 ≡ place_after at (end_in (width_of width) (drop at s))
  sized_cut h = rw (← e) (unopened at w (drop at s) (λ size count o. omega (arith, room list w size count (drop at s) o, length-drop at s)))

  module _ (size : ℕ) (q : size ≡ big_endian (take (width_of width) (drop at s))) where
    pub sized_small : size < w → 0 ≡ place_after at (end_in (width_of width) (drop at s))
    sized_small h = rw (← e) (unopened at w (drop at s) (λ n count o. omega (arith, room list w n count (drop at s) o, rw (← e) at q)))

    pub sized_is : (r : ℕ) → w + w ≤ length s - at → at ≤ length s → w ≤ size → r ≡ place_after at (bytes (w + size) (drop at s)) → r ≡ place_after at (end_in (width_of width) (drop at s))
    unfolding end_in and_then paired_in
    sized_is r l h k g = g ∙ go (leb (w + size) (length (drop at s))) refl
      where
        q' : size ≡ big_endian (take w (drop at s))
        q' = rw (← e) at q

        go : (b : Bool) → leb (w + size) (length (drop at s)) ≡ b → place_after at (bytes (w + size) (drop at s)) ≡ place_after at (end_in (width_of width) (drop at s))
        go true t =
            let m : w + size ≤ length (drop at s) = leb-true _ _ t in
            let c : w ≤ length (take size (drop w (drop at s))) = omega (arith, length-take size (drop w (drop at s)), length-drop w (drop at s)) in
            let o : Opened list w (drop at s) size (big_endian (take w (take size (drop w (drop at s))))) = record { sized = number_is w (drop at s) (omega arith) ∙ ap accept (sym q'); fits = m; counted = number_is w (take size (drop w (drop at s))) c; paired = refl } in
            rw (← bytes_yes (w + size) (drop at s) m, ← e, opening_is list w (drop at s) size _ o)
        go false t =
            let m : length (drop at s) < w + size = leb-false _ _ t in
            rw (← bytes_no (w + size) (drop at s) m, ← e) (unopened at w (drop at s) (λ n count o. omega (arith, room list w n count (drop at s) o, q')))

-- ---- compound_end

drop_part : (a b : ℕ) (s : List ℕ) → drop a (take b s) ≡ take (b - a) (drop a s)
drop_part zero b s = rw (sub-zero b)
drop_part (suc a) zero s = let z : zero - suc a ≡ 0 = omega arith in rw z
drop_part (suc a) (suc b) [] = let l : take (suc b - suc a) (drop (suc a) []) ≡ [] = take_past (suc b - suc a) in sym l
  where
    take_past : (n : ℕ) → take {A = ℕ} n [] ≡ []
    take_past zero = refl
    take_past (suc n) = refl
drop_part (suc a) (suc b) (x ∷ s) = let e : suc b - suc a ≡ b - a = omega arith in drop_part a b s ∙ rw e

-- what is not opened, or not filled, is no compound
no_compound : (at : ℕ) (r : ℕ → Reader) (shape : Shape) (w : ℕ) (t : List ℕ) → ((n : ℕ) → Compounded r shape w t n → ⊥) → 0 ≡ place_after at (compound_end r shape w t)
no_compound at r shape w t never = go (compound_end r shape w t) refl
  where
    go : (v : Verdict ℕ) → compound_end r shape w t ≡ v → 0 ≡ place_after at (compound_end r shape w t)
    go (accept n) e = absurd (never n (compound_was r shape w t n e))
    go (refuse k) e = rw e

as_list : (shape : Shape) (w size count : ℕ) (t : List ℕ) → Opened shape w t size count → Opened list w t size count
unfolding paired_in
as_list shape w size count t o = record { sized = o.sized; fits = o.fits; counted = o.counted; paired = refl }

width_some : (width : Width) → 0 < width_of width
width_some One = omega arith
width_some Four = omega arith

pub compound_off : (s : List ℕ) (at end : ℕ) (width : Width) (d : ℕ) (shape : S.Shape) → end ≡ place_after at (end_in (width_of width) (drop at s)) → end ≡ 0 → 0 ≡ place_after at (compound_end (run d) (shape_of shape) (width_of width) (drop at s))
unfolding end_in and_then
compound_off s at end width d shape p z =
    no_compound at (run d) (shape_of shape) (width_of width) (drop at s) (λ n c.
    let q : end ≡ at + (width_of width + c.size) = p ∙ rw (opening_is list (width_of width) (drop at s) c.size c.count (as_list (shape_of shape) (width_of width) c.size c.count (drop at s) c.opens)) in
    omega (arith, width_some width))

pub part_count : (s : List ℕ) (end : ℕ) → end ≤ length s → end ≡ length (take end s)
part_count s end h = sym (length-take-le end s h)

module _ (s : List ℕ) (at end w : ℕ) (width : Width) (e : w ≡ width_of width) (p : end ≡ place_after at (end_in (width_of width) (drop at s))) where
  Some : 0 < w
  Some = rw e (width_some width)

  p' : end ≡ place_after at (end_in w (drop at s))
  p' = rw (← e) at p

  module _ (z : end ≡ 0 → ⊥) where
    -- the size and the count of what is opened
    opened : (size : ℕ) × (count : ℕ) × Opened list w (drop at s) size count × (end ≡ at + (w + size))
    unfolding end_in and_then
    opened = go (opening list w (drop at s)) refl p'
      where
        go : (v : Verdict (ℕ × ℕ)) → opening list w (drop at s) ≡ v → end ≡ place_after at (and_then v (λ o. accept (w + o.0))) → (size : ℕ) × (count : ℕ) × Opened list w (drop at s) size count × (end ≡ at + (w + size))
        go (accept o) q g = (o.0, o.1, opening_was list w (drop at s) o q, g)
        go (refuse k) q g = absurd (z g)

    lies : (at + w + w ≤ end) × (end ≤ length s)
    lies =
        let o = opened in
        let l = room list w o.0 o.1 (drop at s) o.2 in
        (omega (arith, l, o.3), omega (arith, l, o.3, length-drop at s, Some))

    pub count_in : at + w + width_of width ≤ length s
    count_in = omega (arith, lies)

    pub from_some : 0 < at + w + w
    from_some = omega (arith, Some)

    pub from_in : at + w + w ≤ length (take end s)
    from_in = omega (arith, lies, length-take end s)

    module _ (count : ℕ) (q : count ≡ big_endian (take (width_of width) (drop (at + w) s))) where
      counts : opened.1 ≡ count
      counts =
          let o = opened in
          (room list w o.0 o.1 (drop at s) o.2).3 ∙ sym (q ∙ rw (← e, drop-drop))

      -- a compound here has this size and this count
      same : (d : ℕ) (shape : Shape) (n : ℕ) (c : Compounded (run d) shape w (drop at s) n) → (c.size ≡ opened.0) × (c.count ≡ count)
      same d shape n c =
          let o = opened in
          let a = room list w o.0 o.1 (drop at s) o.2 in
          let b = room shape w c.size c.count (drop at s) c.opens in
          (b.2 ∙ sym a.2, b.3 ∙ sym a.3 ∙ counts)

      module _ (d : ℕ) (shape : S.Shape) where
        pub compound_odd : (b : Bool) → b ≡ paired_in (shape_of shape) count → b ≡ false → 0 ≡ place_after at (compound_end (run d) (shape_of shape) (width_of width) (drop at s))
        compound_odd b v t =
            rw (← e) (no_compound at (run d) (shape_of shape) w (drop at s) (λ n c.
            let y : true ≡ false = sym c.opens.paired ∙ rw (same d (shape_of shape) n c).1 (sym v ∙ t) in
            let x : ◌≡◌ {A = ℕ} 0 1 = cc in
            omega arith))

        module _ (last : ℕ) (f : last ≡ place_after (at + w + w) (items (run d) (shape_of shape) count (drop (at + w + w) (take end s)))) where
          inner : drop (at + w + w) (take end s) ≡ take (opened.0 - w) (drop (w + w) (drop at s))
          inner =
              let o = opened in
              let k : end - (at + w + w) ≡ o.0 - w = omega (arith, o.3) in
              let j : at + (w + w) ≡ at + w + w = omega arith in
              drop_part (at + w + w) end s ∙ rw (k, drop-drop, j)

          pub compound_filled : (b : Bool) → b ≡ paired_in (shape_of shape) count → b ≡ true → last ≡ end → end ≡ place_after at (compound_end (run d) (shape_of shape) (width_of width) (drop at s))
          compound_filled b v t g = go (items (run d) (shape_of shape) count (drop (at + w + w) (take end s))) refl (sym g ∙ f)
            where
              o : (size : ℕ) × (count : ℕ) × Opened list w (drop at s) size count × (end ≡ at + (w + size))
              o = opened

              fits : w ≤ o.0
              fits = (room list w o.0 o.1 (drop at s) o.2).0

              go : (x : Verdict ℕ) → items (run d) (shape_of shape) count (drop (at + w + w) (take end s)) ≡ x → end ≡ place_after (at + w + w) x → end ≡ place_after at (compound_end (run d) (shape_of shape) (width_of width) (drop at s))
              go (accept m) q h =
                  let k : m ≡ o.0 - w = omega (arith, o.3, fits) in
                  let i : items (run d) (shape_of shape) count (take (o.0 - w) (drop (w + w) (drop at s))) ≡ accept (o.0 - w) = ap (items (run d) (shape_of shape) count) (sym inner) ∙ q ∙ ap accept k in
                  let c : Opened (shape_of shape) w (drop at s) o.0 count = record { sized = o.2.sized; fits = o.2.fits; counted = o.2.counted ∙ ap accept counts; paired = sym v ∙ t } in
                  o.3 ∙ rw (← e, compound_is (run d) (shape_of shape) w (drop at s) o.0 count c fits i)
              go (refuse k) q h = absurd (z h)

          pub compound_else : (last ≡ end → ⊥) → 0 ≡ place_after at (compound_end (run d) (shape_of shape) (width_of width) (drop at s))
          compound_else g =
              rw (← e) (no_compound at (run d) (shape_of shape) w (drop at s) (λ n c.
              let o = opened in
              let y = same d (shape_of shape) n c in
              let i : items (run d) (shape_of shape) count (drop (at + w + w) (take end s)) ≡ accept (o.0 - w) = rw (inner, ← y.1, ← y.0) c.filled in
              let h : last ≡ (at + w + w) + (o.0 - w) = f ∙ rw i in
              g (omega (arith, h, o.3, c.room, y.0))))
