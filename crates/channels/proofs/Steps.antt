-- What each return of the functions on outgoing channel numbers shows, with the facts as they come.
-- Assumes nothing.
use mathlib.Core.Path.{◌≡◌, refl, sym, ◌∙◌, ap, fun_ext}
use mathlib.Core.Bool.{Bool, true, false, cond}
use mathlib.Core.List.{List, [], ◌∷◌, ◌++◌}
use Rattle.std.specs.Prelude.{Option, None, Some, Ok, Err}
use Prim.Native.Nat.{ℕ, suc, ◌+◌, ◌-◌, ◌≤◌, ◌<◌}
use native.Mathlib.Omega.{arith}
use native.Mathlib.Decide.{dec_le, ℕ_discrete}
use lib.Dec.{ltb}
use borrow.Author.Tests.{eq-eqb, ne_eqb, lt-ltb, le-ltb, le-leb, lt-leb}
use Rattle.channels.specs.Places.{Covers, field}
use Rattle.channels.specs.Numbers.{MapTo, Map, with, up_from, freed_first, is_taken, count, Shared, taken_below}
use Rattle.channels.specs.declared.OutgoingChannels.{OutgoingChannels}
use Rattle.octets.specs.declared.Refusal.TheVariants.{NotOpened, NoChannelLeft}
use Rattle.channels.specs.declared.Allocation.{Allocation}
use Rattle.channels.specs.declared.Deallocation.{Deallocation}
use Rattle.channels.specs.Channels.{next_of, counts, counts_ok, chain, agreed_says, hand_out_says, taken_says, Sound, Becomes, Allocates, Frees, Finds}
use Rattle.channels.proofs.Numbers.{shared_take, shared_give}
use Rattle.channels.proofs.Counting.{taken_below_lem, taken_not_free}
use Rattle.channels.proofs.Kept.{covers_kept, ties_same}
use Rattle.channels.proofs.Fields.{has_place, has_true, has_false, field_same, field_apart}
pub use Rattle.channels.proofs.Limits.{apart}
use Rattle.channels.proofs.Limits.{opened_limits, closed_limits, opened_within, used_low}
use Rattle.channels.proofs.Chains.{taken_by, freed_before, taken_long, taken_apart, taken_ties, taken_link, taken_handle, freed_long, freed_ties, chain_none, chain_pop, chain_same, count_append, up_pop}
use Rattle.channels.proofs.Sounds.{next_free, after_head, says_taken, says_free, says_past, says_same, list_of, once, taken_low, all_numbers, follows, head_low, head_alone, head_used, after_used}

-- ---- what taking and freeing share

-- a map that differs at one number
pub with_map : {A : Type 0} (f g : MapTo A) (k : ℕ) (v : Option A) → g k ≡ v → ((n : ℕ) → (k ≡ n → ⊥) → g n ≡ f n) → g ≡ with f k v
with_map f g k v e h = fun_ext (λ n. elim (ℕ_discrete k n) [
  | yes q ↦ rw (eq-eqb k n q) (ap g (sym q) ∙ e)
  | no q ↦ rw (ne_eqb k n q) (h n q)
])

same_agreed : (t t' : OutgoingChannels) → t'.opened ≡ t.opened → t'.highest ≡ t.highest → agreed_says t' ≡ agreed_says t
unfolding agreed_says
same_agreed t t' a b = rw (a, b)

shared_as : {a b : Option ℕ} {l m : Option (List ℕ)} {f g : Map} → a ≡ b → l ≡ m → f ≡ g → Shared b m g → Shared a l f
shared_as p q r s = rw (p, q, r) s

becomes :
    (self : OutgoingChannels) (s : List ℕ) → Sound self s
    → (t : OutgoingChannels) (s' : List ℕ) → t.opened ≡ self.opened → t.highest ≡ self.highest → counts_ok t ≡ true → Covers (suc self.highest) s'
    → (l : Option (List ℕ)) (f : Map) → hand_out_says t s' ≡ l → taken_says t s' ≡ f → Shared (agreed_says self) l f
    → Becomes self t s' l f
becomes self s i t s' a b w c l f p q r = record {
  agreed = agreed;
  hand_out_is = p;
  taken = q;
  sound = record { within = w; covered = omega arith; shared = shared_as agreed p q r };
}
  where
    agreed : agreed_says t ≡ agreed_says self
    agreed = same_agreed self t a b

-- ---- allocate

module _ (self : OutgoingChannels) (s : List ℕ) (handle : ℕ) where
  -- every number is taken, or the tables are no longer what they were
  no_channel : (r : Allocation) → r ≡ record { answer = Err NoChannelLeft; channels = self } → (Sound self s → hand_out_says self s ≡ Some []) → Allocates self s handle r s
  no_channel r e l = rw e (record {
    answers = λ i. sym (ap next_of (l i));
    keeps = λ i ch rest q. let z : Some [] ≡ Some (ch ∷ rest) = sym (l i) ∙ q in apart (cc);
    refused = λ k q. (refl, refl);
    may = tt;
    within = λ i. i;
    same_highest = refl;
    ties = ties_same self s;
  })

  pub not_opened : self.opened ≡ false → Allocates self s handle (record { answer = Err NotOpened; channels = self }) s
  unfolding hand_out_says
  not_opened e = record {
    answers = λ i. rw e;
    keeps = λ i ch rest q. let z : None ≡ Some (ch ∷ rest) = (rw e at q) in apart (cc);
    refused = λ k q. (refl, refl);
    may = tt;
    within = λ i. i;
    same_highest = refl;
    ties = ties_same self s;
  }

  -- the number that leads the list is taken
  hands_out :
      (k : ℕ) (rest : List ℕ) (t : OutgoingChannels) → k ≤ self.highest
      → t.opened ≡ self.opened → t.highest ≡ self.highest → (counts_ok self ≡ true → counts_ok t ≡ true)
      → (Sound self s → hand_out_says self s ≡ Some (k ∷ rest))
      → (Sound self s → hand_out_says t (taken_by s k handle) ≡ Some rest)
      → (Sound self s → taken_says t (taken_by s k handle) ≡ with (taken_says self s) k (Some handle))
      → Allocates self s handle (record { answer = Ok k; channels = t }) (taken_by s k handle)
  hands_out k rest t l a b w leads list map = record {
    answers = λ i. sym (ap next_of (leads i));
    keeps = λ i ch others q.
        let z : Some (k ∷ rest) ≡ Some (ch ∷ others) = sym (leads i) ∙ q in
        let e : k ≡ ch = cc in
        let f : rest ≡ others = cc in
        rw (← e, ← f)
        (becomes self s i t (taken_by s k handle) a b (w i.within) (covers_kept (suc self.highest) s (taken_by s k handle) (taken_long s k handle) i.covered) (Some rest) (
        with (taken_says self s) k (Some handle)) (list i) (map i) (shared_take (agreed_says self) (hand_out_says self s) (taken_says self s) k rest handle (leads i) i.shared));
    refused = λ j q. apart (cc);
    may = tt;
    within = w;
    same_highest = b;
    ties = taken_ties s k handle self l;
  }

  -- ---- a number that was never handed out

  module _ (o : self.opened ≡ true) (z : self.freed ≡ 0) where
    new_list : hand_out_says self s ≡ Some (up_from self.used (suc self.highest - self.used))
    new_list = list_of self s o ∙ ap (λ l. Some (l ++ up_from self.used (suc self.highest - self.used))) (chain_none s self.head self.freed z)

    module _ (w : ℕ) (e : w ≡ self.highest) where
      pub new_full : w < self.used → (r : Allocation) → r ≡ record { answer = Err NoChannelLeft; channels = self } → Allocates self s handle r s
      new_full l r q = no_channel r q (λ i. let n : suc self.highest - self.used ≡ 0 = omega arith in new_list ∙ ap (λ x. Some (up_from self.used x)) n)

      module _ (l : self.used ≤ w) (b : Bool) (p : b ≡ has_place s self.used) where
        pub new_short : b ≡ false → (r : Allocation) → r ≡ record { answer = Err NoChannelLeft; channels = self } → Allocates self s handle r s
        new_short f r q = no_channel r q (λ i. absurd (has_false s self.used b p f (omega (arith, i.covered))))

        pub new_taken :
            b ≡ true → (s'' : List ℕ) → s'' ≡ taken_by s self.used handle
            → Allocates self s handle (record { answer = Ok self.used; channels = counts self.opened self.highest (self.used + 1) self.head self.freed }) s''
        new_taken f s'' x = rw x (hands_out self.used rest t' (omega arith) refl refl within (λ i. leads) (λ i. list) (λ i. map))
          where
            c : Covers (suc self.used) s
            c = has_true s self.used b p f

            t' : OutgoingChannels
            t' = counts self.opened self.highest (self.used + 1) self.head self.freed

            s' : List ℕ
            s' = taken_by s self.used handle

            rest : List ℕ
            rest = up_from (self.used + 1) (suc self.highest - self.used - 1)

            within : counts_ok self ≡ true → counts_ok t' ≡ true
            within i =
                let d = opened_limits self o i in
                opened_within t' o (record { low_freed = omega (arith, d.low_freed); low_used = omega arith; none_freed = d.none_freed; used_head = λ n. absurd (n z) })

            leads : hand_out_says self s ≡ Some (self.used ∷ rest)
            leads = new_list ∙ ap Some (up_pop self.used (suc self.highest - self.used) (λ n. omega arith))

            list : hand_out_says t' s' ≡ Some rest
            list =
                let n : suc self.highest - (self.used + 1) ≡ suc self.highest - self.used - 1 = omega arith in
                list_of t' s' o
                ∙ ap (λ x. Some (x ++ up_from (self.used + 1) (suc self.highest - (self.used + 1)))) (chain_none s' self.head self.freed z)
                ∙ ap (λ x. Some (up_from (self.used + 1) x)) n

            same_bound : (n : ℕ) → (self.used ≡ n → ⊥) → ltb n (self.used + 1) ≡ ltb n self.used
            same_bound n h = elim (dec_le self.used n) [
              | yes m ↦ le-ltb n (self.used + 1) (omega arith) ∙ sym (le-ltb n self.used m)
              | no m ↦ lt-ltb n (self.used + 1) (omega arith) ∙ sym (lt-ltb n self.used (omega arith))
            ]

            map : taken_says t' s' ≡ with (taken_says self s) self.used (Some handle)
            map =
                with_map (taken_says self s) (taken_says t' s') self.used (Some handle)
                (says_taken t' s' self.used handle (omega arith) (taken_link s self.used handle c) (taken_handle s self.used handle c))
                (λ n h. says_same self s n t' s' (same_bound n h) (taken_apart s self.used handle n 0 (omega arith) h) (taken_apart s self.used handle n 1 (omega arith) h))

  -- ---- a number that was freed

  module _ (o : self.opened ≡ true) (n : self.freed ≡ 0 → ⊥) (w : ℕ) (e : w ≡ self.highest) where
    pub freed_full : w < self.head → (r : Allocation) → r ≡ record { answer = Err NoChannelLeft; channels = self } → Allocates self s handle r s
    freed_full l r q = no_channel r q (λ i. absurd (omega (arith, head_low self s i o n)))

    module _ (l : self.head ≤ w) (b : Bool) (p : b ≡ has_place s self.head) where
      pub freed_short : b ≡ false → (r : Allocation) → r ≡ record { answer = Err NoChannelLeft; channels = self } → Allocates self s handle r s
      freed_short f r q = no_channel r q (λ i. absurd (has_false s self.head b p f (omega (arith, i.covered))))

      module _ (f : b ≡ true) (next : ℕ) (d : next ≡ after_head self s) where
        pub freed_astray : self.used ≤ next → (r : Allocation) → r ≡ record { answer = Err NoChannelLeft; channels = self } → Allocates self s handle r s
        freed_astray m r q = no_channel r q (λ i. absurd (omega (arith, after_used self s i o n)))

        pub freed_taken :
            next < self.used → (s'' : List ℕ) → s'' ≡ taken_by s self.head handle
            → Allocates self s handle (record { answer = Ok self.head; channels = counts self.opened self.highest self.used next (self.freed - 1) }) s''
        freed_taken m s'' x = rw x (hands_out k rest t' (omega arith) refl refl within leads list map)
          where
            k : ℕ
            k = self.head

            c : Covers (suc k) s
            c = has_true s k b p f

            t' : OutgoingChannels
            t' = counts self.opened self.highest self.used next (self.freed - 1)

            s' : List ℕ
            s' = taken_by s k handle

            new : List ℕ
            new = up_from self.used (suc self.highest - self.used)

            rest : List ℕ
            rest = chain s (after_head self s) (self.freed - 1) ++ new

            within : counts_ok self ≡ true → counts_ok t' ≡ true
            within i =
                let a = opened_limits self o i in
                opened_within t' o (record {
                  low_freed = omega (arith, a.low_freed);
                  low_used = a.low_used;
                  none_freed = λ q. d ∙ ap (λ u. cond u 0 (field s self.head 0)) (le-leb self.freed 1 (omega arith));
                  used_head = λ q. m;
                })

            leads : Sound self s → hand_out_says self s ≡ Some (k ∷ rest)
            leads i = list_of self s o ∙ ap (λ l. Some (l ++ new)) (follows self s i o n)

            list : Sound self s → hand_out_says t' s' ≡ Some rest
            list i =
                list_of t' s' o
                ∙ ap (λ x. Some (chain s' x (self.freed - 1) ++ new)) d
                ∙ ap (λ x. Some (x ++ new)) (chain_same s s' k (after_head self s) (self.freed - 1) (λ j h. taken_apart s k handle j 0 (omega arith) h) (head_alone self s i o n))

            map : Sound self s → taken_says t' s' ≡ with (taken_says self s) k (Some handle)
            map i =
                with_map (taken_says self s) (taken_says t' s') k (Some handle)
                (says_taken t' s' k handle (head_used self s i o n) (taken_link s k handle c) (taken_handle s k handle c))
                (λ j h. says_same self s j t' s' refl (taken_apart s k handle j 0 (omega arith) h) (taken_apart s k handle j 1 (omega arith) h))

-- the freed number after the first one
module _ (self : OutgoingChannels) (s : List ℕ) where
  pub after_none : self.freed ≤ 1 → 0 ≡ after_head self s
  after_none l = rw (le-leb self.freed 1 l)

  pub after_one : 1 < self.freed → (x : ℕ) → x ≡ field s self.head 0 → x ≡ after_head self s
  after_one l x e = rw (lt-leb self.freed 1 l) e

-- ---- handle_at

module _ (self : OutgoingChannels) (s : List ℕ) (channel w : ℕ) (e : w ≡ channel) where
  pub found_past : self.used ≤ w → Finds self s channel None
  found_past l = record { finds = λ i. sym (says_past self s channel (omega arith)); unused = λ m. refl }

  -- a number that was handed out has a place
  pub found_short : w < self.used → (b : Bool) → b ≡ has_place s w → b ≡ false → Finds self s channel None
  found_short l b p f = record { finds = λ i. absurd (has_false s w b p f (omega (arith, i.covered, used_low self i.within))); unused = λ m. refl }

  module _ (l : w < self.used) (x : ℕ) (p : x ≡ field s w 0) where
    pub found_free : (x ≡ 65536 → ⊥) → Finds self s channel None
    found_free q = record { finds = λ i. sym (says_free self s channel (omega arith) (λ a. q (p ∙ ap (λ k. field s k 0) e ∙ a))); unused = λ m. refl }

    pub found_taken : x ≡ 65536 → (h : ℕ) → h ≡ field s w 1 → Finds self s channel (Some h)
    found_taken q h d = record {
      finds = λ i. sym (says_taken self s channel h (omega arith) (ap (λ k. field s k 0) (sym e) ∙ sym p ∙ q) (ap (λ k. field s k 1) (sym e) ∙ sym d));
      unused = λ m. absurd (omega arith);
    }

-- ---- deallocate

module _ (self : OutgoingChannels) where
  pub no_next : self.freed ≡ 0 → 0 ≡ next_free self
  no_next e = rw (eq-eqb self.freed 0 e)

  pub first_next : (self.freed ≡ 0 → ⊥) → self.head ≡ next_free self
  first_next e = rw (ne_eqb self.freed 0 e)

-- the next free number is one of those up to the agreed channel-max, so it is not the link of a taken number
next_low : (self : OutgoingChannels) (s : List ℕ) → Sound self s → self.opened ≡ true → self.highest < 65536 → next_free self ≡ 65536 → ⊥
next_low self s i o m e = elim (ℕ_discrete self.freed 0) [
  | yes z ↦ omega (arith, no_next self z)
  | no z ↦ omega (arith, first_next self z, head_low self s i o z)
]

chain_next : (self : OutgoingChannels) (s : List ℕ) → chain s (next_free self) self.freed ≡ chain s self.head self.freed
chain_next self s = elim (ℕ_discrete self.freed 0) [
  | yes z ↦ chain_none s (next_free self) self.freed z ∙ sym (chain_none s self.head self.freed z)
  | no z ↦ ap (λ x. chain s x self.freed) (sym (first_next self z))
]

module _ (self : OutgoingChannels) (s : List ℕ) (channel : ℕ) where
  -- nothing is freed
  keeps_all : (r : Deallocation) → r ≡ record { answer = None; channels = self } → (Sound self s → None ≡ taken_says self s channel) → Frees self s channel r s
  keeps_all r e n = rw e (record {
    answers = n;
    keeps = λ i h q. let z : None ≡ Some h = n i ∙ q in apart (cc);
    refused = λ q. (refl, refl);
    within = λ i. i;
    same_highest = refl;
    long = refl;
    ties = λ i. ties_same self s;
  })

  pub freed_none : (a : Option ℕ) → Finds self s channel a → a ≡ None → (r : Deallocation) → r ≡ record { answer = None; channels = self } → Frees self s channel r s
  freed_none a p q r e = keeps_all r e (λ i. sym q ∙ p.finds i)

  module _ (a : Option ℕ) (p : Finds self s channel a) (h : ℕ) (q : a ≡ Some h) where
    taken_is : Sound self s → taken_says self s channel ≡ Some h
    taken_is i = sym (p.finds i) ∙ q

    one_more : Sound self s → self.freed < self.used
    one_more i =
        let t : is_taken (taken_says self s channel) ≡ 1 = ap is_taken (taken_is i) in
        omega (
          arith,
          all_numbers self s i (suc self.highest) (omega arith),
          taken_below_lem (suc self.highest) channel (taken_says self s) (omega (arith, taken_low self s i channel h (taken_is i))),
        )

    -- a number that has a handle was handed out
    was_used : channel < self.used
    was_used = elim (dec_le self.used channel) [
      | yes l ↦ let z = p.unused l in apart (cc)
      | no l ↦ omega arith
    ]

    pub freed_over : self.used ≤ self.freed → (r : Deallocation) → r ≡ record { answer = None; channels = self } → Frees self s channel r s
    freed_over l r e = keeps_all r e (λ i. absurd (omega (arith, one_more i)))

    module _ (l : self.freed < self.used) (w : ℕ) (e : w ≡ channel) (b : Bool) (t : b ≡ has_place s w) where
      pub freed_uncovered : b ≡ false → (r : Deallocation) → r ≡ record { answer = None; channels = self } → Frees self s channel r s
      freed_uncovered f r d = keeps_all r d (λ i. absurd (has_false s w b t f (omega (arith, i.covered, taken_low self s i channel h (taken_is i)))))

      pub freed :
          b ≡ true → self.highest < 65536 → (next : ℕ) → next ≡ next_free self
          → (s'' : List ℕ) → s'' ≡ freed_before s w next
          → Frees self s channel (record { answer = Some h; channels = counts self.opened self.highest self.used w (self.freed + 1) }) s''
      freed f m next d s'' x = rw (x, e, d) (record {
        answers = λ i. sym (taken_is i);
        keeps = λ i k x.
            becomes self s i t' s' refl refl (within i.within) (covers_kept (suc self.highest) s s' (freed_long s channel (next_free self)) i.covered) (freed_first channel (hand_out_says self s)) (
            with (taken_says self s) channel None) (list i) (map i) (shared_give (agreed_says self) (hand_out_says self s) (taken_says self s) channel k x i.shared);
        refused = λ x. apart (cc);
        within = within;
        same_highest = refl;
        long = freed_long s channel (next_free self);
        ties = λ i. freed_ties s channel (next_free self) self (omega (arith, was_used, used_low self i));
      })
        where
          c : Covers (suc channel) s
          c = omega (arith, has_true s w b t f)

          t' : OutgoingChannels
          t' = counts self.opened self.highest self.used channel (self.freed + 1)

          s' : List ℕ
          s' = freed_before s channel (next_free self)

          new : List ℕ
          new = up_from self.used (suc self.highest - self.used)

          -- where a number was handed out, the peer's Open has come
          opened : counts_ok self ≡ true → self.opened ≡ true
          opened i = go self.opened refl
            where
              go : (b : Bool) → self.opened ≡ b → self.opened ≡ true
              go true o = o
              go false o = absurd (omega (arith, was_used, (closed_limits self o i).no_used))

          within : counts_ok self ≡ true → counts_ok t' ≡ true
          within i =
              let d = opened_limits self (opened i) i in
              opened_within t' (opened i) (record { low_freed = omega arith; low_used = d.low_used; none_freed = λ q. absurd (omega arith); used_head = λ q. was_used })

          link : field s' channel 0 ≡ next_free self
          link = field_same s channel 0 (next_free self) c (omega arith)

          other : (j f : ℕ) → f < 7 → (channel ≡ j → ⊥) → field s' j f ≡ field s j f
          other j f l n = field_apart s channel 0 (next_free self) j f (omega arith) l n

          map : Sound self s → taken_says t' s' ≡ with (taken_says self s) channel None
          map i =
              with_map (taken_says self s) (taken_says t' s') channel None
              (says_free t' s' channel was_used (λ x. next_low self s i (opened i.within) m (sym link ∙ x)))
              (λ j n. says_same self s j t' s' refl (other j 0 (omega arith) n) (other j 1 (omega arith) n))

          not_free : Sound self s → count channel (chain s self.head self.freed) ≡ 0
          not_free i =
              omega (
                arith,
                taken_not_free self.highest (chain s self.head self.freed ++ new) (taken_says self s) (once self s i (opened i.within)) channel h (taken_is i),
                count_append channel (chain s self.head self.freed) new,
              )

          chain_is : Sound self s → chain s' channel (self.freed + 1) ≡ channel ∷ chain s self.head self.freed
          chain_is i =
              let n : self.freed + 1 - 1 ≡ self.freed = omega arith in
              chain_pop s' channel (self.freed + 1) (λ z. omega arith)
              ∙ ap (λ x. channel ∷ chain s' (field s' channel 0) x) n
              ∙ ap (λ x. channel ∷ chain s' x self.freed) link
              ∙ ap (λ l. channel ∷ l) (
              chain_same s s' channel (next_free self) self.freed (λ j. other j 0 (omega arith)) (ap (count channel) (chain_next self s) ∙ not_free i)
              ∙ chain_next self s
              )

          list : Sound self s → hand_out_says t' s' ≡ freed_first channel (hand_out_says self s)
          list i =
              list_of t' s' (opened i.within)
              ∙ ap (λ x. Some (x ++ new)) (chain_is i)
              ∙ sym (ap (freed_first channel) (list_of self s (opened i.within)))

-- ---- taken_count

module _ (self : OutgoingChannels) where
  pub counted_over : self.used < self.freed → 0 ≡ self.used - self.freed
  counted_over l = omega arith

  -- how many of the numbers below n are taken, whatever n is beyond the agreed channel-max
  pub counted : (s : List ℕ) → Sound self s → (n : ℕ) → suc self.highest ≤ n → self.used - self.freed ≡ taken_below n (taken_says self s)
  counted s i n m = omega (arith, all_numbers self s i n m)
