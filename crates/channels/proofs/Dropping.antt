-- Dropping the ties of a channel: the loop along its list, which ends in all tables, and what it leaves.
-- Assumes nothing.
use mathlib.Core.Path.{◌≡◌, refl, sym, ◌∙◌, ap, subst, fun_ext}
use mathlib.Core.Bool.{Bool, true, false, cond}
use mathlib.Core.List.{List, [], ◌∷◌}
use Rattle.std.specs.Prelude.{Option, None, Some}
use Prim.Native.Nat.{ℕ, zero, suc, ◌+◌, ◌-◌, ◌≤◌, ◌<◌}
use native.Mathlib.Omega.{arith}
use native.Mathlib.Decide.{dec_le, ℕ_discrete}
use lib.Dec.{eqb}
use lib.ListN.{length}
use borrow.Author.Tests.{eq-eqb, ne_eqb}
use Rattle.channels.specs.Places.{Covers, field, write, past}
use Rattle.channels.specs.Numbers.{one, count}
use Rattle.channels.specs.Ties.{Tie, tie_of, through, dropped}
use Rattle.channels.specs.Lists.{Lists, Linked, ties_says, Listed, TiedAs, Drops}
use Rattle.channels.specs.Links.{Unmarked, DropsFrom}
use Rattle.channels.proofs.Fields.{length_write, field_same, field_beside, field_apart, past_write}
use Rattle.channels.proofs.Kept.{numbers_same, covers_kept}
use Rattle.channels.proofs.Lists.{count_same, count_other, with_list, with_same, with_other, same_right}
use Rattle.channels.proofs.Marks.{says_none, says_some, says_same, Marked, agrees, once}
use Rattle.channels.proofs.Tying.{Wide, listed_marks, is_place, place_low, place_covered, no_place}

-- ---- how many of the first n channels have a mark: each turn of the loop makes it less, in all tables

abbrev pub marked : ℕ → List ℕ → ℕ → ℕ
marked zero s x = 0
marked (suc n) s x = one (eqb (field s n 3) x) + marked n s x

module _ (s : List ℕ) (k x : ℕ) (c : Covers (suc k) s) (z : x ≡ 0 → ⊥) (m : field s k 3 ≡ x) where
  marked_past : (n : ℕ) → n ≤ k → marked n (write s k 3 0) x ≡ marked n s x
  marked_past zero l = refl
  marked_past (suc n) l =
      let e : field (write s k 3 0) n 3 ≡ field s n 3 = field_apart s k 3 0 n 3 (omega arith) (omega arith) (λ q. omega arith) in
      omega (arith, marked_past n (omega arith), ap (λ y. one (eqb y x)) e)

  marked_less : (n : ℕ) → k < n → marked n (write s k 3 0) x < marked n s x
  marked_less zero l = absurd (omega arith)
  marked_less (suc n) l = elim (ℕ_discrete k n) [
    | yes q ↦
        let e : field (write s k 3 0) n 3 ≡ 0 = ap (λ y. field (write s k 3 0) y 3) (sym q) ∙ field_same s k 3 0 c (omega arith) in
        let a : one (eqb (field (write s k 3 0) n 3) x) ≡ 0 = ap (λ y. one (eqb y x)) e ∙ ap one (ne_eqb 0 x (λ p. z (sym p))) in
        let b : one (eqb (field s n 3) x) ≡ 1 = ap (λ y. one (eqb (field s y 3) x)) (sym q) ∙ ap one (eq-eqb (field s k 3) x m) in
        omega (arith, marked_past n (omega arith))
    | no q ↦
        let e : field (write s k 3 0) n 3 ≡ field s n 3 = field_apart s k 3 0 n 3 (omega arith) (omega arith) q in
        omega (arith, marked_less n (omega arith), ap (λ y. one (eqb y x)) e)
  ]

pub drop_less :
    (top : ℕ) (a b : List ℕ) (k ch x : ℕ) → Covers (suc top) a → k ≤ top → x ≡ field a k 3 → x ≡ ch + 1 → b ≡ write a k 3 0
    → marked (suc top) b (ch + 1) < marked (suc top) a (ch + 1)
drop_less top a b k ch x w l p q e = rw e (marked_less a k (ch + 1) (omega arith) (λ z. omega arith) (sym p ∙ q) (suc top) (omega arith))

-- ---- the loop

-- some channels of the list l have no marks any more, and those from e on are still to come
pub record Halfway (s s' : List ℕ) (e : ℕ) (l : List ℕ) : Type 0 where
  pub gone : List ℕ
  pub left : List ℕ
  pub back : ℕ
  pub linked : Linked s back e left
  pub all : (k : ℕ) → count k gone + count k left ≡ count k l
  pub unmarked : (k : ℕ) → 1 ≤ count k gone → field s' k 3 ≡ 0
  pub marked_still : (k : ℕ) → count k gone ≡ 0 → field s' k 3 ≡ field s k 3

pub record Dropping (n first : ℕ) (s s' : List ℕ) (e : ℕ) : Type 0 where
  pub long : length s' ≡ length s
  pub kept : (k f : ℕ) → f < 7 → (3 ≡ f → ⊥) → field s' k f ≡ field s k f
  pub rest : (m : ℕ) → n ≤ m → past m s' ≡ past m s
  pub half : (l : List ℕ) (p : ℕ) → Linked s p first l → Halfway s s' e l

pub drop_starts : (n : ℕ) (s : List ℕ) (first : ℕ) → Dropping n first s s first
drop_starts n s first = record {
  long = refl;
  kept = λ k f l z. refl;
  rest = λ m l. refl;
  half = λ l p y. record {
    gone = [];
    left = l;
    back = p;
    linked = y;
    all = λ k. omega arith;
    unmarked = λ k h. absurd (omega arith);
    marked_still = λ k h. refl;
  };
}

module _ (n ch first : ℕ) (s a : List ℕ) (e : ℕ) (i : Dropping n first s a e) where
  -- the channel that comes next, in a list that is linked as it should be
  pub record Next (l : List ℕ) : Type 0 where
    pub h : Halfway s a e l
    pub others : List ℕ
    pub is : h.left ≡ (e - 1) ∷ others
    pub then : Linked s (suc (e - 1)) (field s (e - 1) 5) others

  next_of : 0 < e → (l : List ℕ) (p : ℕ) → Linked s p first l → Next l
  next_of m l p y = go (i.half l p y) (i.half l p y).left refl
    where
      go : (h : Halfway s a e l) (left : List ℕ) → h.left ≡ left → Next l
      go h [] q = let z : Linked s h.back e [] = subst (λ (x : List ℕ). Linked s h.back e x) q h.linked in absurd (omega arith)
      go h (k ∷ others) q =
          let z : Linked s h.back e (k ∷ others) = subst (λ (x : List ℕ). Linked s h.back e x) q h.linked in
          let w : k ≡ e - 1 = omega (arith, z.0) in
          record { h = h; others = others; is = q ∙ ap (λ x. x ∷ others) w; then = rw (← w) z.2 }

  module _ (l : List ℕ) (p : ℕ) (y : Linked s p first l) (few : (k : ℕ) → count k l ≤ 1) (m : 0 < e) where
    abbrev nx : Next l
    nx = next_of m l p y

    one_next : 1 ≤ count (e - 1) l
    one_next = omega (arith, nx.h.all (e - 1), ap (count (e - 1)) nx.is, count_same (e - 1) nx.others)

    not_gone : count (e - 1) nx.h.gone ≡ 0
    not_gone = omega (arith, few (e - 1), nx.h.all (e - 1), ap (count (e - 1)) nx.is, count_same (e - 1) nx.others)

  -- it is one of the first n and has its mark, so the loop does not stop before the end
  pub drop_beyond : 0 < e → n ≤ e - 1 → DropsFrom n ch first s a
  drop_beyond m b = record {
    long = i.long;
    kept = i.kept;
    rest = i.rest;
    unmarks = λ l p y few mk. absurd (omega (arith, (mk (e - 1) (one_next l p y few m)).1));
  }

  pub drop_foreign : 0 < e → (x : ℕ) → x ≡ field a (e - 1) 3 → (x ≡ ch + 1 → ⊥) → DropsFrom n ch first s a
  drop_foreign m x q z = record {
    long = i.long;
    kept = i.kept;
    rest = i.rest;
    unmarks = λ l p y few mk.
        absurd (z (q ∙ (nx l p y few m).h.marked_still (e - 1) (not_gone l p y few m) ∙ (mk (e - 1) (one_next l p y few m)).0));
  }

  pub drop_ends : e ≤ 0 → DropsFrom n ch first s a
  drop_ends m = record {
    long = i.long;
    kept = i.kept;
    rest = i.rest;
    unmarks = λ l p y few mk. done l (i.half l p y) (i.half l p y).left refl;
  }
    where
      done : (l : List ℕ) (h : Halfway s a e l) (left : List ℕ) → h.left ≡ left → Unmarked l s a
      done l h [] q = record {
        gone = λ k x. h.unmarked k (omega (arith, h.all k, ap (count k) q));
        left = λ k x. h.marked_still k (omega (arith, h.all k, ap (count k) q));
      }
      done l h (k ∷ others) q = let z : Linked s h.back e (k ∷ others) = subst (λ (x : List ℕ). Linked s h.back e x) q h.linked in absurd (omega (arith, z.0))

  pub drop_next : 0 < e → e - 1 < n → Covers n a → (b : List ℕ) → b ≡ write a (e - 1) 3 0 → (e' : ℕ) → e' ≡ field a (e - 1) 5 → Dropping n first s b e'
  drop_next m low w b q e' r = rw (q, r) (record {
    long = length_write a (e - 1) 3 0 ∙ i.long;
    kept = λ k f l z. field_beside a (e - 1) 3 0 k f (omega arith) l z ∙ i.kept k f l z;
    rest = λ k l. past_write a (e - 1) 3 0 k (omega arith) (omega arith) ∙ i.rest k l;
    half = λ l p y.
        let x = next_of m l p y in
        record {
          gone = (e - 1) ∷ x.h.gone;
          left = x.others;
          back = suc (e - 1);
          linked = rw (i.kept (e - 1) 5 (omega arith) (λ z. omega arith)) x.then;
          all = λ k. omega (arith, x.h.all k, ap (count k) x.is);
          unmarked = λ k h. elim (ℕ_discrete (e - 1) k) [
            | yes z ↦ rw (← z) (field_same a (e - 1) 3 0 (omega arith) (omega arith))
            | no z ↦ field_apart a (e - 1) 3 0 k 3 (omega arith) (omega arith) z ∙ x.h.unmarked k (omega (arith, count_other (e - 1) k x.h.gone z))
          ];
          marked_still = λ k h. elim (ℕ_discrete (e - 1) k) [
            | yes z ↦ absurd (omega (arith, ap one (eq-eqb (e - 1) k z)))
            | no z ↦ field_apart a (e - 1) 3 0 k 3 (omega arith) (omega arith) z ∙ x.h.marked_still k (omega (arith, count_other (e - 1) k x.h.gone z))
          ];
        };
  })

-- ---- drop_through

-- the start of the list is cleared, and then the list's marks
module _ (n : ℕ) (s : List ℕ) (ch : ℕ) (low : ch < n) (cov : Covers n s) (a s' : List ℕ) (q : a ≡ write s ch 2 0) (d : DropsFrom n ch (field s ch 2) a s') where
  cleared : (k g : ℕ) → g < 7 → (2 ≡ g → ⊥) → field a k g ≡ field s k g
  cleared k g l z = ap (λ y. field y k g) q ∙ field_beside s ch 2 0 k g (omega arith) l z

  later : (k g : ℕ) → g < 7 → (2 ≡ g → ⊥) → (3 ≡ g → ⊥) → field s' k g ≡ field s k g
  later k g l y z = d.kept k g l z ∙ cleared k g l y

  first_gone : field s' ch 2 ≡ 0
  first_gone = d.kept ch 2 (omega arith) (λ z. omega arith) ∙ ap (λ y. field y ch 2) q ∙ field_same s ch 2 0 (omega arith) (omega arith)

  first_other : (c : ℕ) → (ch ≡ c → ⊥) → field s' c 2 ≡ field s c 2
  first_other c z = d.kept c 2 (omega arith) (λ y. omega arith) ∙ ap (λ y. field y c 2) q ∙ field_apart s ch 2 0 c 2 (omega arith) (omega arith) z

  all_long : length s' ≡ length s
  all_long = d.long ∙ ap length q ∙ length_write s ch 2 0

  module _ (i : Listed n s) where
    mk : Marked n s i.lists
    mk = listed_marks n s i

    abbrev list : List ℕ
    list = i.lists ch

    abbrev others : Lists
    others = with_list i.lists ch []

    unmarks : Unmarked list a s'
    unmarks =
        d.unmarks list 0
        (same_right s a 0 (field s ch 2) list (λ k y. (cleared k 5 (omega arith) (λ z. omega arith), cleared k 6 (omega arith) (λ z. omega arith))) (mk.linked ch low))
        (once n s i.lists mk ch)
        (λ k y. (cleared k 3 (omega arith) (λ z. omega arith) ∙ mk.mark ch k y, mk.low ch k y))

    mark_other : (k : ℕ) → count k list ≡ 0 → field s' k 3 ≡ field s k 3
    mark_other k y = unmarks.left k y ∙ cleared k 3 (omega arith) (λ z. omega arith)

    says_at : (k : ℕ) → ties_says n s' k ≡ dropped ch (ties_says n s) k
    says_at k = elim (dec_le 1 (count k list)) [
      | yes y ↦
          let l : k < n = mk.low ch k y in
          let r : ties_says n s k ≡ Some (tie_of ch (field s k 4)) = says_some n s k l ch (field s k 4) (mk.mark ch k y) refl in
          says_none n s' k l (unmarks.gone k y) ∙ sym (rw (r, eq-eqb ch ch refl))
      | no y ↦
          let u : count k list ≡ 0 = omega arith in
          says_same n s s' k (mark_other k u) (later k 4 (omega arith) (λ z. omega arith) (λ z. omega arith))
          ∙ keep (ties_says n s k) (through ch (ties_says n s k)) refl (omega (arith, i.agree.each ch k))
    ]
      where
        keep : (v : Option Tie) (b : Bool) → through ch v ≡ b → one (through ch v) ≡ 0 → v ≡ cond (through ch v) None v
        keep v true p z = absurd (omega (arith, ap one p))
        keep v false p z = rw p

    -- what still has a mark was not in the list
    still_marked : (c k : ℕ) → field s' k 3 ≡ c + 1 → count k list ≡ 0
    still_marked c k p = elim (dec_le 1 (count k list)) [
      | yes y ↦ absurd (omega (arith, unmarks.gone k y))
      | no y ↦ omega arith
    ]

    -- what is in another list is not in this one
    foreign : (c k : ℕ) → (ch ≡ c → ⊥) → 1 ≤ count k (i.lists c) → count k list ≡ 0
    foreign c k z y = elim (dec_le 1 (count k list)) [
      | yes x ↦ absurd (z (omega (arith, mk.mark ch k x, mk.mark c k y)))
      | no x ↦ omega arith
    ]

    in_other : (c k : ℕ) → 1 ≤ count k (others c) → (ch ≡ c → ⊥) × (1 ≤ count k (i.lists c))
    in_other c k y = elim (ℕ_discrete ch c) [
      | yes z ↦ absurd (omega (arith, ap (λ b. count k (cond b [] (i.lists c))) (eq-eqb ch c z)))
      | no z ↦ (z, omega (arith, ap (count k) (with_other i.lists ch [] c z)))
    ]

    marked_others : Marked n s' others
    marked_others = record {
      linked = λ c l. elim (ℕ_discrete ch c) [
        | yes z ↦ rw (← z, with_same i.lists ch []) first_gone
        | no z ↦
            rw (with_other i.lists ch [] c z, first_other c z)
            (same_right s s' 0 (field s c 2) (i.lists c) (λ k v. (later k 5 (omega arith) (λ u. omega arith) (λ u. omega arith), later k 6 (omega arith) (λ u. omega arith) (λ u. omega arith))) (mk.linked c l))
      ];
      counted = λ c k l p.
          let u = still_marked c k p in
          let m : field s k 3 ≡ c + 1 = sym (mark_other k u) ∙ p in
          elim (ℕ_discrete ch c) [
            | yes z ↦ absurd (omega (arith, mk.counted c k l m, ap (λ y. count k (i.lists y)) z))
            | no z ↦ ap (count k) (with_other i.lists ch [] c z) ∙ mk.counted c k l m
          ];
      low = λ c k y. mk.low c k (in_other c k y).1;
      mark = λ c k y. mark_other k (foreign c k (in_other c k y).0 (in_other c k y).1) ∙ mk.mark c k (in_other c k y).1;
      owned = λ c k l p. mk.owned c k l (sym (mark_other k (still_marked c k p)) ∙ p);
    }

    dropped_tied : TiedAs n (dropped ch (ties_says n s)) s'
    dropped_tied = record {
      says = fun_ext says_at;
      listed = record { covered = covers_kept n s s' all_long i.covered; lists = others; agree = agrees n s' others marked_others };
    }

  drops : Drops n ch s s'
  drops = record {
    drops = dropped_tied;
    numbers = record {
      long = all_long;
      same = λ k g m l. later k g (omega arith) (λ z. omega arith) (λ z. omega arith);
      rest = λ m l. d.rest m l ∙ ap (past m) q ∙ past_write s ch 2 0 m (omega arith) (omega arith);
    };
  }

-- nothing is tied through a channel that is not one of the first n
none_through : (n : ℕ) (s : List ℕ) (ch : ℕ) → Listed n s → n ≤ ch → ties_says n s ≡ dropped ch (ties_says n s)
none_through n s ch i l = fun_ext (λ k. at k (ties_says n s k) refl)
  where
    at : (k : ℕ) (o : Option Tie) → ties_says n s k ≡ o → o ≡ cond (through ch o) None o
    at k None e = refl
    at k (Some t) e = rw (ne_eqb t.outgoing ch (λ z. omega (arith, i.agree.low k t e)))

module _ (s : List ℕ) (highest outgoing : ℕ) (b : Bool) (t : b ≡ is_place s highest outgoing) where
  pub drops_short : b ≡ false → Drops (suc highest) outgoing s s
  drops_short f = record {
    drops = λ i. elim (dec_le (suc highest) outgoing) [
      | yes l ↦ record { says = none_through (suc highest) s outgoing i l; listed = i }
      | no l ↦ no_place s highest outgoing b t f (omega arith) i.covered
    ];
    numbers = numbers_same (suc highest) s;
  }

  -- what drop_from asks for
  pub drop_covered : b ≡ true → (top : ℕ) → Wide top highest → (k f x : ℕ) (a : List ℕ) → a ≡ write s k f x → Covers (suc top) a
  drop_covered f top e k g x a q = omega (arith, e.0, place_covered s highest outgoing b t f, ap length q, length_write s k g x)

  pub drops_all :
      b ≡ true → (ch : ℕ) → Wide ch outgoing → (first : ℕ) → first ≡ field s ch 2 → (a : List ℕ) → a ≡ write s ch 2 0
      → (top : ℕ) → Wide top highest → (s' : List ℕ) → DropsFrom (suc top) ch first a s' → Drops (suc highest) outgoing s s'
  drops_all f ch e first p a q top x s' d =
      drops (suc highest) s outgoing (omega (arith, place_low s highest outgoing b t f)) (place_covered s highest outgoing b t f) a s' (rw (← e.0) q)
      (subst (λ m. DropsFrom (suc m) outgoing (field s outgoing 2) a s') x.0 (rw (← e.0, ← p) d))
