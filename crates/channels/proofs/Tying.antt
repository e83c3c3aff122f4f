-- What each return of the functions that clear, find, make and end ties shows, with the facts as they come.
-- Assumes nothing.
use mathlib.Core.Path.{◌≡◌, refl, sym, ◌∙◌, ap, fun_ext}
use mathlib.Core.Bool.{Bool, true, false, ◌&&◌}
use mathlib.Core.List.{List, []}
use Rattle.std.specs.Prelude.{Option, None, Some}
use Prim.Native.Nat.{ℕ, suc, ◌+◌, ◌-◌, ◌≤◌, ◌<◌}
use native.Mathlib.Omega.{arith}
use native.Mathlib.Decide.{dec_le, ℕ_discrete}
use lib.Dec.{leb}
use lib.ListN.{length}
use borrow.Author.Tests.{eq-eqb, ne_eqb, le-leb, lt-leb, leb-true}
use Rattle.channels.specs.Places.{Covers, covers, field, write, put}
use Rattle.channels.specs.Numbers.{MapTo, with, one}
use Rattle.channels.specs.Ties.{tie_of, handle_of, through}
use Rattle.channels.specs.Lists.{ties_says, Listed, TiedAs, Clears, Changes, FindsTied}
use Rattle.channels.specs.Links.{lead_to, come_from, bypassed, taken_out, unbound, bound, pushed}
use Rattle.channels.proofs.Kept.{KeepsNumbers, numbers_same, covers_is, covers_true, covers_kept}
use Rattle.channels.proofs.Fields.{has_place, has_false, length_write, field_same, field_beside, field_apart, past_write}
use Rattle.channels.proofs.Limits.{apart, both}
use Rattle.channels.proofs.Steps.{with_map}
use Rattle.channels.proofs.Marks.{says_past, says_none, says_some, says_same, Marked, marks, agrees}
use Rattle.channels.proofs.Links.{lead_first, lead_next, come_one, out_long, out_same, out_numbers, out_mark, out_mark_other, push_long, push_numbers, push_other, push_mark, push_handle}
use Rattle.channels.proofs.Agreeing.{fewer, out_agrees, longer, push_agrees}

-- a channel number as one of 32 bits
abbrev pub Wide : ℕ → ℕ → Type 0
Wide w k = (w ≡ k) × (w < 65536)

pub listed_marks : (n : ℕ) (s : List ℕ) (i : Listed n s) → Marked n s i.lists
listed_marks n s i = marks n s i.lists i.agree

-- ---- is_place

-- whether a channel is one of the first, and there is a place for each of these
abbrev pub is_place : List ℕ → ℕ → ℕ → Bool
is_place s highest channel = leb channel highest && covers (suc highest) s

module _ (s : List ℕ) (highest channel : ℕ) (b : Bool) (e : b ≡ is_place s highest channel) where
  pub place_low : b ≡ true → channel ≤ highest
  place_low t = leb-true channel highest (both (leb channel highest) (covers (suc highest) s) (sym e ∙ t)).0

  pub place_covered : b ≡ true → Covers (suc highest) s
  place_covered t = covers_true (suc highest) s (both (leb channel highest) (covers (suc highest) s) (sym e ∙ t)).1

  pub place_room : b ≡ true → (w : ℕ) → Wide w channel → Covers (suc w) s
  place_room t w x = omega (arith, place_low t, place_covered t)

  pub no_place : {A : Type 0} → b ≡ false → channel < suc highest → Covers (suc highest) s → A
  no_place f l c =
      let p : is_place s highest channel ≡ true = rw (le-leb channel highest (omega arith), covers_is (suc highest) s c) in
      apart (cc)

-- the function's two returns
pub place_above : (s : List ℕ) (highest channel : ℕ) → highest < channel → false ≡ is_place s highest channel
place_above s highest channel l = rw (lt-leb channel highest l)

pub place_within : (s : List ℕ) (highest channel : ℕ) → channel ≤ highest → (b : Bool) → b ≡ covers (suc highest) s → b ≡ is_place s highest channel
place_within s highest channel l b e = rw (le-leb channel highest l) e

-- ---- lead_to, come_from

module _ (n : ℕ) (s : List ℕ) (ch p next : ℕ) (s' : List ℕ) where
  pub leads_first : p ≡ 0 → s' ≡ put n s ch 2 next → s' ≡ lead_to n s ch p next
  leads_first e q = q ∙ lead_first n s ch p next e

  pub leads_next : (p ≡ 0 → ⊥) → s' ≡ put n s (p - 1) 5 next → s' ≡ lead_to n s ch p next
  leads_next e q = q ∙ lead_next n s ch p next e

pub comes_one : (n : ℕ) (s : List ℕ) (next p : ℕ) (s' : List ℕ) → (next ≡ 0 → ⊥) → s' ≡ put n s (next - 1) 6 p → s' ≡ come_from n s next p
comes_one n s next p s' e q = q ∙ come_one n s next p e

-- ---- bypass, take_out, bind, push: a step after the other

pub bypasses : (n : ℕ) (s : List ℕ) (ch p next : ℕ) (a s' : List ℕ) → a ≡ lead_to n s ch p next → s' ≡ come_from n a next p → s' ≡ bypassed n s ch p next
unfolding bypassed
bypasses n s ch p next a s' x y = y ∙ ap (λ t. come_from n t next p) x

pub takes_out :
    (n : ℕ) (s : List ℕ) (k ch next p : ℕ) (a s' : List ℕ) → next ≡ field s k 5 → p ≡ field s k 6 → a ≡ bypassed n s ch p next → s' ≡ write a k 3 0
    → s' ≡ taken_out n s k ch
unfolding taken_out
takes_out n s k ch next p a s' e f x y = y ∙ ap (λ t. write t k 3 0) (x ∙ (λ i. bypassed n s ch (f i) (e i)))

pub binds :
    (s : List ℕ) (k ch h next : ℕ) (a b c s' : List ℕ) → a ≡ write s k 3 (ch + 1) → b ≡ write a k 4 h → c ≡ write b k 5 next → s' ≡ write c k 6 0
    → s' ≡ bound s k ch h next
unfolding bound
binds s k ch h next a b c s' x y z w = w ∙ ap (λ t. write t k 6 0) (z ∙ ap (λ t. write t k 5 next) (y ∙ ap (λ t. write t k 4 h) x))

pub pushes :
    (n : ℕ) (s : List ℕ) (k ch h first : ℕ) (a b s' : List ℕ) → first ≡ field s ch 2 → a ≡ come_from n s first (k + 1) → b ≡ bound a k ch h first → s' ≡ write b ch 2 (k + 1)
    → s' ≡ pushed n s k ch h
unfolding pushed
pushes n s k ch h first a b s' e x y z =
    z ∙ ap (λ t. write t ch 2 (k + 1)) (y ∙ (λ i. bound (x i) k ch h first) ∙ (λ i. bound (come_from n s (e i) (k + 1)) k ch h (e i)))

-- ---- unbind

module _ (n : ℕ) (s : List ℕ) (k : ℕ) where
  module _ (x : ℕ) (p : x ≡ field s k 3) where
    pub unbinds_none : x ≡ 0 → s ≡ unbound n s k
    unfolding unbound
    unbinds_none e = rw (eq-eqb (field s k 3) 0 (sym p ∙ e))

    pub unbinds_one : (x ≡ 0 → ⊥) → (s' : List ℕ) → s' ≡ taken_out n s k (x - 1) → s' ≡ unbound n s k
    unfolding unbound
    unbinds_one e s' q = q ∙ rw (ne_eqb (field s k 3) 0 (λ z. e (p ∙ z)), p)

  unbound_either : (P : List ℕ → Type 0) → (field s k 3 ≡ 0 → P s) → ((ch : ℕ) → field s k 3 ≡ ch + 1 → P (taken_out n s k ch)) → P (unbound n s k)
  unbound_either P a b = elim (ℕ_discrete (field s k 3) 0) [
    | yes e ↦ rw (← unbinds_none (field s k 3) refl e) (a e)
    | no e ↦ rw (← unbinds_one (field s k 3) refl e (taken_out n s k (field s k 3 - 1)) refl) (b (field s k 3 - 1) (omega arith))
  ]

  module _ (low : k < n) where
    unbound_numbers : KeepsNumbers n s (unbound n s k)
    unbound_numbers = unbound_either (KeepsNumbers n s) (λ e. numbers_same n s) (λ ch e. out_numbers n s k ch low)

    unbound_mark : Covers n s → field (unbound n s k) k 3 ≡ 0
    unbound_mark c = unbound_either (λ t. field t k 3 ≡ 0) (λ e. e) (λ ch e. out_mark n s k ch c low)

    -- k has no tie, and the lists agree
    unbound_tied : Listed n s → TiedAs n (with (ties_says n s) k None) (unbound n s k)
    unbound_tied i =
        unbound_either (TiedAs n (with (ties_says n s) k None))
        (λ e. record { says = with_map (ties_says n s) (ties_says n s) k None (says_none n s k low e) (λ m q. refl); listed = i })
        (λ ch e. record {
          says =
              with_map (ties_says n s) (ties_says n (taken_out n s k ch)) k None
              (says_none n (taken_out n s k ch) k low (out_mark n s k ch i.covered low))
              (λ j d. says_same n s (taken_out n s k ch) j (out_mark_other n s k ch j d) (out_same n s k ch j 4 (omega arith) (λ y. omega arith) (λ y. omega arith) (λ y. omega arith) (λ y. omega arith)));
          listed = record {
            covered = covers_kept n s (taken_out n s k ch) (out_long n s k ch) i.covered;
            lists = fewer n s i.lists i.covered (listed_marks n s i) k ch low e;
            agree =
                agrees n (taken_out n s k ch) (fewer n s i.lists i.covered (listed_marks n s i) k ch low e)
                (out_agrees n s i.lists i.covered (listed_marks n s i) k ch low e);
          };
        })

-- ---- push

-- a channel that is not tied gets a tie, and the lists agree
pushed_tied :
    (n : ℕ) (s : List ℕ) (k ch h : ℕ) → k < n → ch < n → field s k 3 ≡ 0 → Listed n s
    → TiedAs n (with (ties_says n s) k (Some (tie_of ch h))) (pushed n s k ch h)
pushed_tied n s k ch h low c e i = record {
  says =
      with_map (ties_says n s) (ties_says n (pushed n s k ch h)) k (Some (tie_of ch h))
      (says_some n (pushed n s k ch h) k low ch h (push_mark n s k ch h i.covered low) (push_handle n s k ch h i.covered low))
      (λ j d. says_same n s (pushed n s k ch h) j (push_other n s k ch h j 3 (omega arith) (omega arith) d) (push_other n s k ch h j 4 (omega arith) (omega arith) d));
  listed = record {
    covered = covers_kept n s (pushed n s k ch h) (push_long n s k ch h) i.covered;
    lists = longer n s i.lists i.covered (listed_marks n s i) k ch h low e c;
    agree =
        agrees n (pushed n s k ch h) (longer n s i.lists i.covered (listed_marks n s i) k ch h low e c)
        (push_agrees n s i.lists i.covered (listed_marks n s i) k ch h low e c);
  };
}

with_twice : {A : Type 0} (f : MapTo A) (k : ℕ) (u v : Option A) → with (with f k u) k v ≡ with f k v
with_twice f k u v = fun_ext (λ n. elim (ℕ_discrete k n) [
  | yes q ↦ rw (eq-eqb k n q)
  | no q ↦ rw (ne_eqb k n q)
])

-- ---- tie, untie

-- what unbind asks for, where there is a place
module _ (s : List ℕ) (highest channel : ℕ) (b : Bool) (t : b ≡ is_place s highest channel) (f : b ≡ true) (top : ℕ) (e : Wide top highest) where
  pub top_covered : Covers (suc top) s
  top_covered = omega (arith, place_covered s highest channel b t f)

  module _ (w : ℕ) (x : Wide w channel) where
    pub top_over : w ≤ top
    top_over = omega (arith, place_low s highest channel b t f)

    -- and what push asks for after it
    pub still_covered : (a : List ℕ) → a ≡ unbound (suc top) s w → Covers (suc top) a
    still_covered a p = omega (arith, top_covered, ap length p, (unbound_numbers (suc top) s w (omega (arith, top_over))).long)

module _ (s : List ℕ) (highest channel outgoing handle : ℕ) where
  pub tied_over : highest < outgoing → Changes (suc highest) channel (Some (tie_of outgoing handle)) s s
  tied_over l = record { changes = λ a c i. absurd (omega arith); numbers = numbers_same (suc highest) s }

  pub tied_short : (b : Bool) → b ≡ is_place s highest channel → b ≡ false → Changes (suc highest) channel (Some (tie_of outgoing handle)) s s
  tied_short b t f = record { changes = λ a c i. no_place s highest channel b t f a i.covered; numbers = numbers_same (suc highest) s }

  pub tied :
      outgoing ≤ highest → (b : Bool) → b ≡ is_place s highest channel → b ≡ true
      → (top w v : ℕ) → Wide top highest → Wide w channel → Wide v outgoing
      → (a s' : List ℕ) → a ≡ unbound (suc top) s w → s' ≡ pushed (suc top) a w v handle → Changes (suc highest) channel (Some (tie_of outgoing handle)) s s'
  tied l b t f top w v e x y a s' p q = rw (q, p, e.0, x.0, y.0) (record {
    changes = λ c d i.
        let u = unbound_tied n s channel low i in
        let r = pushed_tied n first channel outgoing handle low (omega arith) (unbound_mark n s channel low i.covered) u.listed in
        record {
          says = r.says ∙ ap (λ g. with g channel (Some (tie_of outgoing handle))) u.says ∙ with_twice (ties_says n s) channel None (Some (tie_of outgoing handle));
          listed = r.listed;
        };
    numbers = record {
      long = then.long ∙ before.long;
      same = λ k g m o. then.same k g m o ∙ before.same k g m o;
      rest = λ m o. then.rest m o ∙ before.rest m o;
    };
  })
    where
      n : ℕ
      n = suc highest

      low : channel < n
      low = omega (arith, place_low s highest channel b t f)

      first : List ℕ
      first = unbound n s channel

      before : KeepsNumbers n s first
      before = unbound_numbers n s channel low

      then : KeepsNumbers n first (pushed n first channel outgoing handle)
      then = push_numbers n first channel outgoing handle low (omega arith)

module _ (s : List ℕ) (highest channel : ℕ) (b : Bool) (t : b ≡ is_place s highest channel) where
  pub untied_short : b ≡ false → Changes (suc highest) channel None s s
  untied_short f = record { changes = λ a c i. no_place s highest channel b t f a i.covered; numbers = numbers_same (suc highest) s }

  pub untied : b ≡ true → (top w : ℕ) → Wide top highest → Wide w channel → (s' : List ℕ) → s' ≡ unbound (suc top) s w → Changes (suc highest) channel None s s'
  untied f top w e x s' p = rw (p, e.0, x.0) (record {
    changes = λ a c i. unbound_tied (suc highest) s channel a i;
    numbers = unbound_numbers (suc highest) s channel (omega (arith, place_low s highest channel b t f));
  })

-- ---- get

module _ (highest : ℕ) (s : List ℕ) (channel : ℕ) where
  pub found_above : (w : ℕ) → Wide w channel → (top : ℕ) → Wide top highest → top < w → FindsTied (suc highest) s channel None
  found_above w e top u l = λ c. sym (ap handle_of (says_past (suc highest) s channel (omega arith)))

  module _ (w : ℕ) (e : Wide w channel) (top : ℕ) (u : Wide top highest) (l : w ≤ top) where
    pub found_short : (b : Bool) → b ≡ has_place s w → b ≡ false → FindsTied (suc highest) s channel None
    found_short b t f = λ c. absurd (has_false s w b t f (omega (arith, e.0)))

    module _ (x : ℕ) (p : x ≡ field s w 3) where
      pub found_none : x ≡ 0 → FindsTied (suc highest) s channel None
      found_none z = λ c. sym (ap handle_of (says_none (suc highest) s channel (omega arith) (ap (λ k. field s k 3) (sym e.0) ∙ sym p ∙ z)))

      pub found : (x ≡ 0 → ⊥) → (h : ℕ) → h ≡ field s w 4 → FindsTied (suc highest) s channel (Some h)
      found z h q = λ c.
          let m : field s channel 3 ≡ x - 1 + 1 = omega (arith, ap (λ k. field s k 3) e.0) in
          sym (ap handle_of (says_some (suc highest) s channel (omega arith) (x - 1) h m (ap (λ k. field s k 4) (sym e.0) ∙ sym q)))

-- ---- clear

-- the first k of n channels are not tied, and nothing is tied through them
pub record ClearedTo (n k : ℕ) (s s' : List ℕ) : Type 0 where
  pub cleared : (j : ℕ) → j < k → (field s' j 2 ≡ 0) × (field s' j 3 ≡ 0)
  pub numbers : KeepsNumbers n s s'

pub cleared_none : (n : ℕ) (s : List ℕ) → ClearedTo n 0 s s
cleared_none n s = record { cleared = λ j l. absurd (omega arith); numbers = numbers_same n s }

pub cleared_more : (n : ℕ) (s a b c : List ℕ) (k : ℕ) → k < n → Covers n s → ClearedTo n k s a → b ≡ write a k 2 0 → c ≡ write b k 3 0 → ClearedTo n (k + 1) s c
cleared_more n s a b c k l cov i p q = rw (q, p) (record {
  cleared = λ j m. elim (ℕ_discrete k j) [
    | yes e ↦ rw (← e) (
      field_beside first k 3 0 k 2 (omega arith) (omega arith) (λ z. omega arith) ∙ field_same a k 2 0 (omega (arith, i.numbers.long)) (omega arith),
      field_same first k 3 0 (omega (arith, length_write a k 2 0, i.numbers.long)) (omega arith),
    )
    | no e ↦ (
      field_apart first k 3 0 j 2 (omega arith) (omega arith) e ∙ field_apart a k 2 0 j 2 (omega arith) (omega arith) e ∙ (i.cleared j (omega arith)).0,
      field_apart first k 3 0 j 3 (omega arith) (omega arith) e ∙ field_apart a k 2 0 j 3 (omega arith) (omega arith) e ∙ (i.cleared j (omega arith)).1,
    )
  ];
  numbers = record {
    long = length_write first k 3 0 ∙ length_write a k 2 0 ∙ i.numbers.long;
    same = λ j f m r.
        field_beside first k 3 0 j f (omega arith) (omega arith) (λ z. omega arith)
        ∙ field_beside a k 2 0 j f (omega arith) (omega arith) (λ z. omega arith)
        ∙ i.numbers.same j f m r;
    rest = λ m r. past_write first k 3 0 m (omega arith) (omega arith) ∙ past_write a k 2 0 m (omega arith) (omega arith) ∙ i.numbers.rest m r;
  };
})
  where
    first : List ℕ
    first = write a k 2 0

pub cleared_short : (n : ℕ) (s : List ℕ) (b : Bool) → b ≡ covers n s → b ≡ false → Clears n s s
cleared_short n s b t f = record { clears = λ c. let q = covers_is n s c in apart (cc); numbers = numbers_same n s }

pub cleared_all : (n : ℕ) (s s' : List ℕ) (k : ℕ) → n ≤ k → ClearedTo n k s s' → Clears n s s'
cleared_all n s s' k l i = record {
  clears = λ c. record {
    says = fun_ext none_tied;
    listed = record {
      covered = covers_kept n s s' i.numbers.long c;
      lists = λ ch. [];
      agree = record {
        linked = λ ch m. (i.cleared ch (omega arith)).0;
        each = λ ch j. sym (ap (λ o. one (through ch o)) (none_tied j));
        low = λ j t e. let q = none_tied j in apart (cc);
      };
    };
  };
  numbers = i.numbers;
}
  where
    none_tied : (j : ℕ) → ties_says n s' j ≡ None
    none_tied j = elim (dec_le n j) [
      | yes m ↦ says_past n s' j m
      | no m ↦ says_none n s' j (omega arith) (i.cleared j (omega arith)).1
    ]
