-- Numbers at places of bytes, as the readers find them, and what they stand for.
-- Assumes nothing.
use mathlib.Core.Path.{◌≡◌, refl, sym, ◌∙◌, ap, subst}
use mathlib.Core.Bool.{Bool, true, false, cond}
use mathlib.Core.List.{List}
use Rattle.std.specs.Prelude.{Option, None, Some, Result}
use Prim.Native.Nat.{ℕ, ◌+◌, ◌-◌, ◌*◌, ◌^◌, ◌≤◌, ◌<◌}
use native.Mathlib.Omega.{arith}
use native.Mathlib.Decide.{dec_le}
use lib.Dec.{eqb}
use lib.ListN.{length, take, drop, get_or, length-drop, length-take}
use lib.Seq.{length-take-le, take_all, drop-cons}
use borrow.Author.Tests.{ne_eqb}
use Rattle.octets.specs.Octets.{big_endian, big_endian_from}
use Rattle.octets.specs.Verdict.{refuse, accept, require}
use Rattle.octets.proofs.Laws.{require_off, then_accept, then_refuse}
use Rattle.layout.specs.Layout.{held}
use Rattle.frame_encoder.specs.Frames.{Settings}
use Rattle.frame_encoder.proofs.Laws.{settings_within}
use Rattle.channels.specs.declared.OutgoingChannels.{OutgoingChannels}
use Rattle.channels.specs.Channels.{counts, counts_ok, resumed_as}
use Rattle.octets.specs.declared.Refusal.{Refusal}
use Rattle.local_open.specs.declared.LocalOpen.{LocalOpen}
use Rattle.local_open.specs.Settings.{allowed, checked, new_says}
use Rattle.engine_bytes.specs.Bytes.{at, id_at, or_broken, flag_with, settings_at, numbers_at}

-- the number that was read of w bytes from a place on
module _ (s : List ℕ) (i w x : ℕ) (few : w ≤ 8) (fits : i + w ≤ length s)
    (is : (x ≡ big_endian (take 8 (take (i + w - i) (drop i s)))) × (x < 2 ^ (8 * length (take 8 (take (i + w - i) (drop i s)))))) where
  span : i + w - i ≡ w
  span = omega arith

  long : length (take w (drop i s)) ≡ w
  long = length-take-le w (drop i s) (omega (arith, length-drop i s))

  all : take 8 (take (i + w - i) (drop i s)) ≡ take w (drop i s)
  all = ap (λ (n : ℕ). take 8 (take n (drop i s))) span ∙ take_all 8 (take w (drop i s)) (omega (arith, long))

  pub number_low : x < 2 ^ (8 * w)
  number_low = subst (λ (n : ℕ). x < 2 ^ (8 * n)) (ap length all ∙ long) is.1

  pub number_is : x ≡ at i w s
  number_is = is.0 ∙ ap big_endian all

-- ---- bytes, and what they stand for

pub byte_at : (s : List ℕ) (i : ℕ) → i < length s → get_or s i 0 ≡ at i 1 s
unfolding big_endian big_endian_from
byte_at s i low = omega arith ∙ sym (ap (λ l. big_endian (take 1 l)) (drop-cons s i 0 low))

-- a flag is 0 or 1
flag_beyond : (n : ℕ) → 1 < n → flag_with n ≡ None
flag_beyond n h = rw (ne_eqb n 0 (λ e. absurd (omega arith)), ne_eqb n 1 (λ e. absurd (omega arith)))

flag_within : (n : ℕ) → n ≤ 1 → flag_with n ≡ Some (eqb n 1)
flag_within n h = elim (dec_le n 0) [
  | yes l ↦ let e : n ≡ 0 = omega arith in rw e
  | no l ↦ let e : n ≡ 1 = omega arith in rw e
]

-- ---- read_counts

module _ (s : List ℕ) (long : 300 ≤ length s) where
  agreed_at : get_or s 19 0 ≡ at 19 1 s
  agreed_at = byte_at s 19 (omega arith)

  pub counts_not : 1 < get_or s 19 0 → or_broken None ≡ numbers_at s
  unfolding numbers_at
  counts_not h = sym (then_refuse _ _ 8 (ap or_broken (ap flag_with (sym agreed_at) ∙ flag_beyond _ h)))

  counts_by : (k : OutgoingChannels) (r : Option OutgoingChannels) → r ≡ resumed_as k → or_broken r ≡ require 8 (counts_ok k) (λ _. accept k)
  unfolding require
  counts_by k r p = ap or_broken p ∙ by (counts_ok k)
    where
      by : (b : Bool) → or_broken (cond b (Some k) None) ≡ require 8 b (λ _. accept k)
      by true = refl
      by false = refl

  pub counts_read : (highest used head freed : ℕ) (r : Option OutgoingChannels) → get_or s 19 0 ≤ 1 → r ≡ resumed_as (counts (eqb (get_or s 19 0) 1) highest used head freed)
      → highest ≡ at 40 2 s → used ≡ at 28 4 s → head ≡ at 32 4 s → freed ≡ at 36 4 s → or_broken r ≡ numbers_at s
  unfolding numbers_at
  counts_read highest used head freed r h p a b c d =
      let e : counts (eqb (get_or s 19 0) 1) highest used head freed ≡ counts (eqb (get_or s 19 0) 1) (at 40 2 s) (at 28 4 s) (at 32 4 s) (at 36 4 s) = λ i. counts (eqb (get_or s 19 0) 1) (a i) (b i) (c i) (d i) in
      counts_by _ r p
      ∙ ap (λ k. require 8 (counts_ok k) (λ _. accept k)) e
      ∙ sym (then_accept _ _ _ (ap or_broken (ap flag_with (sym agreed_at) ∙ flag_within _ h)))

  -- ---- read_open

  there_at : get_or s 5 0 ≡ at 5 1 s
  there_at = byte_at s 5 (omega arith)

  pub open_flag : 1 < get_or s 5 0 → refuse 8 ≡ settings_at s
  unfolding settings_at
  open_flag h = sym (then_refuse _ _ 8 (ap or_broken (ap flag_with (sym there_at) ∙ flag_beyond _ h)))

  module _ (h : get_or s 5 0 ≤ 1) (n : ℕ) (n-is : n ≡ at 42 2 s) where
    abbrev S : Settings
    S = record { container_id = id_at s; max_frame_size = at 8 4 s; channel_max = at 6 2 s; idle_time_out = held (eqb (get_or s 5 0) 1) (at 12 4 s) }

    said_as : settings_at s ≡ checked S
    unfolding settings_at
    said_as = then_accept _ _ _ (ap or_broken (ap flag_with (sym there_at) ∙ flag_within _ h))

    -- an id that is too long is beyond its limit, wherever the bytes end
    pub open_long : 255 < n → refuse 8 ≡ settings_at s
    open_long over = sym (said_as ∙ require_off 8 _ _ (not_allowed (allowed S) refl))
      where
        not_allowed : (b : Bool) → allowed S ≡ b → allowed S ≡ false
        not_allowed false e = e
        not_allowed true e =
            let w : length (id_at s) ≤ 255 = (settings_within _ _ _ e).id_short in
            absurd (omega (arith, length-take (at 42 2 s) (drop 44 s), length-drop 44 s))

    pub open_read_lem : (r : Result LocalOpen Refusal) (id : List ℕ) (size highest millis : ℕ) (idle : Option ℕ) → id ≡ take (44 + n - 44) (drop 44 s)
        → new_says id r ≡ checked (record { container_id = id; max_frame_size = size; channel_max = highest; idle_time_out = idle }) → size ≡ at 8 4 s → highest ≡ at 6 2 s → idle ≡ held (eqb (get_or s 5 0) 1) millis → millis ≡ at 12 4 s
        → new_says (id_at s) r ≡ settings_at s
    open_read_lem r id size highest millis idle i p a b o m =
        let c : idle ≡ held (eqb (get_or s 5 0) 1) (at 12 4 s) = o ∙ ap (held (eqb (get_or s 5 0) 1)) m in
        let k : 44 + n - 44 ≡ at 42 2 s = omega arith in
        let j : id ≡ id_at s = i ∙ ap (λ (m : ℕ). take m (drop 44 s)) k in
        ap (λ x. new_says x r) (sym j) ∙ p
        ∙ (λ t. checked (record { container_id = j t; max_frame_size = a t; channel_max = b t; idle_time_out = c t }))
        ∙ sym said_as
