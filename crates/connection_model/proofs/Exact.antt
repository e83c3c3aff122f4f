-- What holds of every connection is exact: it holds of a connection if, and only if, some list of calls leads to it, in either role.
-- Assumes nothing.
use mathlib.Core.Path.{◌≡◌, refl, sym, ◌∙◌, ap, subst, fun_ext}
use mathlib.Core.Logic.{◌↔◌}
use mathlib.Core.Bool.{Bool, true, false, cond, not}
use mathlib.Core.List.{List, [], ◌∷◌, ◌++◌}
use Rattle.std.specs.Prelude.{Option, None, Some}
use Prim.Native.Nat.{ℕ, zero, suc, ◌+◌, ◌^◌, ◌≤◌, ◌<◌, min}
use native.Mathlib.Omega.{arith}
use native.Mathlib.Decide.{ℕ_discrete, dec_le}
use lib.Dec.{T, ltb, leb, eqb}
use lib.ListN.{length}
use borrow.Author.Tests.{lt-ltb, le-ltb, le-leb, lt-leb, eq-eqb, ne_eqb}
use Rattle.octets.specs.Verdict.{accept, require, and_then}
use Rattle.octets.specs.Octets.{big_endian_from, big_endian, bytes_of, starts_with}
use Rattle.octets.proofs.Laws.{require_on, then_accept}
use Rattle.values.specs.Value.{plus, followed_by, times, codes, kind_in, kind_of, bytes, number_in, variable_end, body, after_code, level, run as run_of, value_end, opening, paired_in}
use Rattle.values.proofs.Written.{bytes_number}
use Rattle.performatives.specs.Fields.{fields_in, fields_of}
use Rattle.performatives.specs.Performative.{number_of, sized, descriptor, list_at, described, split, has_type, fits, fit, fields_by, Performative, rows_for, performative_by, performative, number_or, max_frame_size, channel_max, remote_channel}
use Rattle.frame_decoder.specs.Frame.{content}
use Rattle.frame_encoder.specs.Frames.{Settings, settings_ok, frame_bytes}
use Rattle.frame_encoder.proofs.Laws.{settings_within}
use Rattle.connection_state.specs.States.{State, Start, HeaderReceived, HeaderSent, HeaderExchange, OpenPipe, OpenClosePipe, OpenReceived, OpenSent, ClosePipe, Opened, CloseReceived, CloseSent, Discarding, End, is, is_one_of, stopped, before_open}
use Rattle.channels.specs.Numbers.{MapTo, Map, nowhere, with, up_from, one, is_taken, count, EachOnce, Shared}
use Rattle.channels.specs.Ties.{Tie, tie_of, Ties}
use Rattle.channels.proofs.Numbers.{one_small, once_taken}
use Rattle.connection_model.specs.Connection.{Role, Connection, connection, fresh, receive_frame, allocate, deallocate, clamped, tie_to, begun, frame_read, released, after}
use Rattle.connection_model.specs.Sound.{TiedWithin, TiedThrough, Reached}
use Rattle.connection_model.proofs.Invariant.{either_way, reached}
use Rattle.connection_model.proofs.ProbeFrames.{framed, read, read_whole}
use Rattle.connection_model.proofs.Led.{Led, here, on, by, at, send_open_lem, send_plain, send_error, read_close_lem, to_exchange, to_unopened}

-- ---- the peer's Open

-- with an empty container-id, a max-frame-size and a channel-max
open_with : ℕ → ℕ → List ℕ
open_with w m = 0 ∷ 0x53 ∷ 0x10 ∷ 0xc0 ∷ 12 ∷ 4 ∷ 0xa1 ∷ 0 ∷ 0x40 ∷ 0x70 ∷ bytes_of 4 w ++ (0x60 ∷ bytes_of 2 m)

opened_with : ℕ → ℕ → Performative
opened_with w m = read 16 ((0xa1 ∷ 0 ∷ []) ∷ (0x40 ∷ []) ∷ (0x70 ∷ bytes_of 4 w) ∷ (0x60 ∷ bytes_of 2 m) ∷ []) 6 17

open_content : (w m : ℕ) → content (open_with w m) ≡ accept (Some (opened_with w m))
unfolding open_with opened_with bytes_of content performative performative_by fields_by described descriptor require and_then starts_with value_end run_of level after_code kind_of kind_in codes times followed_by plus body bytes number_of big_endian big_endian_from list_at sized opening number_in paired_in fields_of fields_in rows_for split variable_end fit fits has_type
open_content w m = refl

open_length : (w m : ℕ) → length (open_with w m) ≡ 17
unfolding open_with bytes_of
open_length w m = refl

open_size : (w m : ℕ) → w < 256 ^ 4 → max_frame_size (opened_with w m) ≡ w
unfolding opened_with number_or starts_with number_of
open_size w m h = bytes_number 4 w h

open_channels : (w m : ℕ) → m < 256 ^ 2 → channel_max (opened_with w m) ≡ m
unfolding opened_with number_or starts_with number_of
open_channels w m h = bytes_number 2 m h

-- a Begin that names the channel r
begin_for : ℕ → List ℕ
begin_for r = 0 ∷ 0x53 ∷ 0x11 ∷ 0xc0 ∷ 7 ∷ 4 ∷ 0x60 ∷ bytes_of 2 r ++ (0x43 ∷ 0x43 ∷ 0x43 ∷ [])

begun_for : ℕ → Performative
begun_for r = read 17 ((0x60 ∷ bytes_of 2 r) ∷ (0x43 ∷ []) ∷ (0x43 ∷ []) ∷ (0x43 ∷ []) ∷ []) 6 12

begin_content : (r : ℕ) → content (begin_for r) ≡ accept (Some (begun_for r))
unfolding begin_for begun_for bytes_of content performative performative_by fields_by described descriptor require and_then starts_with value_end run_of level after_code kind_of kind_in codes times followed_by plus body bytes number_of big_endian big_endian_from list_at sized opening number_in paired_in fields_of fields_in rows_for split variable_end fit fits has_type
begin_content r = refl

begin_length : (r : ℕ) → length (begin_for r) ≡ 12
unfolding begin_for bytes_of
begin_length r = refl

begin_channel : (r : ℕ) → r < 256 ^ 2 → remote_channel (begun_for r) ≡ r ∷ []
unfolding begun_for remote_channel starts_with number_of
begin_channel r h = ap (λ n. n ∷ []) (bytes_number 2 r h)

-- ---- maps

or_zero : Option ℕ → ℕ
or_zero None = 0
or_zero (Some h) = h

-- a map below k, and the same with a handle for each number
abbrev cut : {A : Type 0} → MapTo A → ℕ → MapTo A
cut f k n = cond (ltb n k) (f n) None

abbrev filled : Map → ℕ → Map
filled f k = cut (λ n. Some (or_zero (f n))) k

cut_none : {A : Type 0} (f : MapTo A) → nowhere ≡ cut f 0
cut_none f = fun_ext (λ n. rw (le-ltb n 0 (omega arith)))

-- one number more
cut_more : {A : Type 0} (f : MapTo A) (k : ℕ) → with (cut f k) k (f k) ≡ cut f (suc k)
cut_more f k = fun_ext (λ n. elim (ℕ_discrete k n) [
  | yes e ↦ rw (eq-eqb k n e, lt-ltb n (suc k) (omega arith)) (ap f e)
  | no e ↦ elim (dec_le k n) [
    | yes l ↦ rw (ne_eqb k n e, le-ltb n k l, le-ltb n (suc k) (omega arith))
    | no l ↦ rw (ne_eqb k n e, lt-ltb n k (omega arith), lt-ltb n (suc k) (omega arith))
  ]
])

-- a number that has nothing
cut_same : {A : Type 0} (f : MapTo A) (k : ℕ) → f k ≡ None → cut f k ≡ cut f (suc k)
cut_same f k e = fun_ext (λ n. elim (ℕ_discrete k n) [
  | yes q ↦ rw (le-ltb n k (omega arith), lt-ltb n (suc k) (omega arith)) (sym (sym (ap f q) ∙ e))
  | no q ↦ elim (dec_le k n) [
    | yes l ↦ rw (le-ltb n k l, le-ltb n (suc k) (omega arith))
    | no l ↦ rw (lt-ltb n k (omega arith), lt-ltb n (suc k) (omega arith))
  ]
])

-- all that a map has is below k
cut_all : {A : Type 0} (f : MapTo A) (k : ℕ) → ((n : ℕ) (a : A) → f n ≡ Some a → n < k) → cut f k ≡ f
cut_all {A} f k below = fun_ext (λ n. at n (f n) refl)
  where
    at : (n : ℕ) (o : Option A) → f n ≡ o → cut f k n ≡ f n
    at n None e = elim (dec_le k n) [
      | yes l ↦ rw (le-ltb n k l) (sym e)
      | no l ↦ rw (lt-ltb n k (omega arith))
    ]
    at n (Some a) e = rw (lt-ltb n k (below n a e))

-- the numbers of a list are freed
freed : List ℕ → Map → Map
freed [] f = f
freed (x ∷ l) f = with (freed l f) x None

freed_out : (l : List ℕ) (f : Map) (n : ℕ) → count n l ≡ 0 → freed l f n ≡ f n
unfolding freed
freed_out [] f n e = refl
freed_out (x ∷ l) f n e = at (eqb x n) e (freed_out l f n)
  where
    at : (b : Bool) → one b + count n l ≡ 0 → (count n l ≡ 0 → freed l f n ≡ f n) → cond b None (freed l f n) ≡ f n
    at true q h = absurd (omega arith)
    at false q h = h (omega arith)

freed_in : (l : List ℕ) (f : Map) (n : ℕ) → 1 ≤ count n l → freed l f n ≡ None
unfolding freed
freed_in [] f n h = absurd (omega arith)
freed_in (x ∷ l) f n h = at (eqb x n) h (freed_in l f n)
  where
    at : (b : Bool) → 1 ≤ one b + count n l → (1 ≤ count n l → freed l f n ≡ None) → cond b None (freed l f n) ≡ None
    at true q k = refl
    at false q k = k (omega arith)

taken_some : (o : Option ℕ) → is_taken o ≡ 1 → (h : ℕ) × (o ≡ Some h)
taken_some None e = absurd (omega arith)
taken_some (Some h) e = (h, refl)

taken_none : (o : Option ℕ) → is_taken o ≡ 0 → o ≡ None
taken_none None e = refl
taken_none (Some h) e = absurd (omega arith)

handle_back : (o : Option ℕ) → is_taken o ≡ 1 → Some (or_zero o) ≡ o
unfolding or_zero
handle_back None e = absurd (omega arith)
handle_back (Some h) e = refl

-- ---- with it

module _ (role : Role) (S : Settings) where
  abbrev holding : State → ℕ → ℕ → List ℕ → Map → Ties → Connection
  holding x w m l tk ti = connection x S.max_frame_size w (Some m) (Some l) tk ti

  -- while nothing is tied
  module _ (x : State) (w m : ℕ) where
    taking : is_one_of stopped x ≡ false → (ch : ℕ) (l : List ℕ) (tk : Map) (h : ℕ) → Led role S (holding x w m (ch ∷ l) tk nowhere) (holding x w m l (with tk ch (Some h)) nowhere)
    taking going ch l tk h =
        by role S (holding x w m (ch ∷ l) tk nowhere) (allocate h) (ap (λ v. after S v (holding x w m (ch ∷ l) tk nowhere)) (require_on 22 (not (is_one_of stopped x)) _ (ap not going)))

    freeing : (ch : ℕ) (l : List ℕ) (tk : Map) (h : ℕ) → tk ch ≡ Some h → Led role S (holding x w m l tk nowhere) (holding x w m (ch ∷ l) (with tk ch None) nowhere)
    freeing ch l tk h e = by role S (holding x w m l tk nowhere) (deallocate ch) (ap (λ o. after S (released ch o) (holding x w m l tk nowhere)) e)

    -- every number from k on is taken
    filling : is_one_of stopped x ≡ false → (f : Map) (n k j : ℕ) → k + n ≡ j → Led role S (holding x w m (up_from k n) (filled f k) nowhere) (holding x w m [] (filled f j) nowhere)
    filling going f zero k j e = let q : k ≡ j = omega arith in subst (λ i. Led role S (holding x w m [] (filled f k) nowhere) (holding x w m [] (filled f i) nowhere)) q (here role S _)
    filling going f (suc n) k j e =
        on role S (taking going k (up_from (suc k) n) (filled f k) (or_zero (f k)))
        (subst (λ t. Led role S (holding x w m (up_from (suc k) n) t nowhere) (holding x w m [] (filled f j) nowhere)) (sym (cut_more (λ i. Some (or_zero (f i))) k)) (filling going f n (suc k) j (omega arith)))

    -- those of a list are freed, the last first
    giving : (f : Map) (l : List ℕ) → ((n : ℕ) → count n l ≤ 1) → ((n : ℕ) → 1 ≤ count n l → is_taken (f n) ≡ 1) → Led role S (holding x w m [] f nowhere) (holding x w m l (freed l f) nowhere)
    unfolding freed
    giving f [] once held = here role S _
    giving f (ch ∷ l) once held =
        let own : one (eqb ch ch) ≡ 1 = ap one (eq-eqb ch ch refl) in
        let absent : count ch l ≡ 0 = omega (arith, once ch) in
        let t = taken_some (f ch) (held ch (omega arith)) in
        on role S
        (giving f l (λ n. omega (arith, once n)) (λ n h. held n (omega arith)))
        (freeing ch l (freed l f) t.0 (freed_out l f ch absent ∙ t.1))

    -- all numbers are taken and those of the list freed
    sharing : is_one_of stopped x ≡ false → (l : List ℕ) (tk : Map) → EachOnce m l tk → Led role S (holding x w m (up_from 0 (suc m)) nowhere nowhere) (holding x w m l tk nowhere)
    sharing going l tk i =
        on role S
        (subst (λ t. Led role S (holding x w m (up_from 0 (suc m)) t nowhere) (holding x w m [] (filled tk (suc m)) nowhere)) (sym (cut_none (λ n. Some (or_zero (tk n))))) (filling going tk (suc m) 0 (suc m) (omega arith)))
        (subst (λ t. Led role S (holding x w m [] (filled tk (suc m)) nowhere) (holding x w m l t nowhere)) (fun_ext is_taken_lem)
        (giving (filled tk (suc m)) l (λ n. omega (arith, i n, one_small (leb n m))) all_filled))
      where
        all_filled : (n : ℕ) → 1 ≤ count n l → is_taken (filled tk (suc m) n) ≡ 1
        all_filled n h = elim (dec_le n m) [
          | yes k ↦ rw (lt-ltb n (suc m) (omega arith))
          | no k ↦ let z : one (leb n m) ≡ 0 = ap one (lt-leb n m (omega arith)) in absurd (omega (arith, i n))
        ]

        is_taken_lem : (n : ℕ) → freed l (filled tk (suc m)) n ≡ tk n
        is_taken_lem n = elim (dec_le 1 (count n l)) [
          | yes h ↦ freed_in l (filled tk (suc m)) n h ∙ sym (taken_none (tk n) (omega (arith, i n, one_small (leb n m))))
          | no h ↦
              let out : freed l (filled tk (suc m)) n ≡ filled tk (suc m) n = freed_out l (filled tk (suc m)) n (omega arith) in
              elim (dec_le n m) [
                | yes k ↦
                    let y : one (leb n m) ≡ 1 = ap one (le-leb n m k) in
                    out ∙ rw (lt-ltb n (suc m) (omega arith)) (handle_back (tk n) (omega (arith, i n)))
                | no k ↦
                    let y : one (leb n m) ≡ 0 = ap one (lt-leb n m (omega arith)) in
                    out ∙ rw (le-ltb n (suc m) (omega arith)) (sym (taken_none (tk n) (omega (arith, i n))))
              ]
        ]

  -- a Begin on a channel ties it through the channel that it names
  tying : (w m : ℕ) (l : List ℕ) (tk : Map) (ti : Ties) (n r h : ℕ) → 512 ≤ S.max_frame_size → n ≤ S.channel_max → n < 65536 → r < 65536 → tk r ≡ Some h
      → Led role S (holding Opened w m l tk ti) (holding Opened w m l tk (with ti n (Some (tie_of r h))))
  unfolding and_then require begun_for
  tying w m l tk ti n r h size le low few e =
      let c = holding Opened w m l tk ti in
      let f = framed (8 + length (begin_for r)) n in
      by role S c (receive_frame (frame_bytes n (begin_for r)) 0)
      (ap (λ v. after S v c)
      (then_accept _ (frame_read role S c 0) _ (read_whole n (begin_for r) (omega (arith, begin_length r)) low S.max_frame_size S.channel_max _ (begin_content r) (omega (arith, begin_length r)) le))
      ∙ ap (λ rs. after S (begun role c f 0 rs) c) (begin_channel r few)
      ∙ ap (λ o. after S (tie_to f r o) c) e)

  -- the ties of the channels below k, one after the other
  tying_all : (w m : ℕ) (l : List ℕ) (tk : Map) (ti : Ties) → 512 ≤ S.max_frame_size → S.channel_max < 65536 → ((n h : ℕ) → tk n ≡ Some h → n < 65536) → TiedThrough tk ti
      → (k : ℕ) → k ≤ suc S.channel_max → Led role S (holding Opened w m l tk nowhere) (holding Opened w m l tk (cut ti k))
  tying_all w m l tk ti size few low through zero le =
      subst (λ t. Led role S (holding Opened w m l tk nowhere) (holding Opened w m l tk t)) (cut_none ti) (here role S _)
  tying_all w m l tk ti size few low through (suc k) le = on role S (tying_all w m l tk ti size few low through k (omega arith)) (at (ti k) refl)
    where
      at : (o : Option Tie) → ti k ≡ o → Led role S (holding Opened w m l tk (cut ti k)) (holding Opened w m l tk (cut ti (suc k)))
      at None e = subst (λ t. Led role S (holding Opened w m l tk (cut ti k)) (holding Opened w m l tk t)) (cut_same ti k e) (here role S _)
      at (Some t) e =
          let held = through k t e in
          subst (λ u. Led role S (holding Opened w m l tk (cut ti k)) (holding Opened w m l tk u)) (ap (with (cut ti k) k) (sym e) ∙ cut_more ti k)
          (tying w m l tk (cut ti k) k t.outgoing t.handle size (omega arith) (omega arith) (low t.outgoing t.handle held) held)

  module _ (short : length S.container_id ≤ 255) (size : 512 ≤ S.max_frame_size) (few : S.channel_max < 65536) (w m : ℕ) (low : 512 ≤ w) (high : w ≤ 16384) (most : m ≤ S.channel_max) where
    to_received : Led role S fresh (holding OpenReceived w m (up_from 0 (suc m)) nowhere nowhere)
    unfolding and_then opened_with
    to_received =
        let c = at role S HeaderExchange fresh in
        let p = opened_with w m in
        let own : clamped (max_frame_size p) ≡ w = omega (arith, open_size w m (omega arith)) in
        let agreed : min S.channel_max (channel_max p) ≡ m = omega (arith, open_channels w m (omega arith)) in
        on role S (to_exchange role S short)
        (by role S c (receive_frame (frame_bytes 0 (open_with w m)) 0)
        (ap (λ v. after S v c)
        (then_accept _ (frame_read role S c 0) _ (read_whole 0 (open_with w m) (omega (arith, open_length w m)) (omega arith) 512 S.channel_max _ (open_content w m) (omega (arith, open_length w m)) (omega arith)))
        ∙ (λ i. holding OpenReceived (own i) (agreed i) (up_from 0 (suc (agreed i))) nowhere nowhere)))

    -- both Opens, and then the numbers and the ties
    to_opened_lem : (l : List ℕ) (tk : Map) (ti : Ties) → EachOnce m l tk → TiedWithin S.channel_max ti → TiedThrough tk ti → Led role S fresh (holding Opened w m l tk ti)
    to_opened_lem l tk ti i tied through =
        on role S to_received
        (on role S (send_open_lem role S (holding OpenReceived w m (up_from 0 (suc m)) nowhere nowhere) OpenReceived Opened short low refl)
        (on role S (sharing Opened w m refl l tk i)
        (subst (λ t. Led role S (holding Opened w m l tk nowhere) (holding Opened w m l tk t)) (cut_all ti (suc S.channel_max) (λ n t e. omega (arith, tied n t e)))
        (tying_all w m l tk ti size few (λ n h e. omega (arith, once_taken m l tk n h i e)) through (suc S.channel_max) (omega arith)))))

    to_agreed : (x : State) → is_one_of before_open x ≡ false → (l : List ℕ) (tk : Map) (ti : Ties) → EachOnce m l tk → TiedWithin S.channel_max ti → TiedThrough tk ti → (is OpenReceived x ≡ true → ti ≡ nowhere)
        → Led role S fresh (holding x w m l tk ti)
    to_agreed Start e l tk ti i tied through untied = absurd (subst T e tt)
    to_agreed HeaderReceived e l tk ti i tied through untied = absurd (subst T e tt)
    to_agreed HeaderSent e l tk ti i tied through untied = absurd (subst T e tt)
    to_agreed HeaderExchange e l tk ti i tied through untied = absurd (subst T e tt)
    to_agreed OpenPipe e l tk ti i tied through untied = absurd (subst T e tt)
    to_agreed OpenClosePipe e l tk ti i tied through untied = absurd (subst T e tt)
    to_agreed OpenReceived e l tk ti i tied through untied =
        subst (λ t. Led role S fresh (holding OpenReceived w m l tk t)) (sym (untied refl)) (on role S to_received (sharing OpenReceived w m refl l tk i))
    to_agreed OpenSent e l tk ti i tied through untied = absurd (subst T e tt)
    to_agreed ClosePipe e l tk ti i tied through untied = absurd (subst T e tt)
    to_agreed Opened e l tk ti i tied through untied = to_opened_lem l tk ti i tied through
    to_agreed CloseReceived e l tk ti i tied through untied = on role S (to_opened_lem l tk ti i tied through) (read_close_lem role S (holding Opened w m l tk ti) Opened CloseReceived size refl)
    to_agreed CloseSent e l tk ti i tied through untied = on role S (to_opened_lem l tk ti i tied through) (send_plain role S (holding Opened w m l tk ti) Opened CloseSent low refl)
    to_agreed Discarding e l tk ti i tied through untied = on role S (to_opened_lem l tk ti i tied through) (send_error role S (holding Opened w m l tk ti) Opened Discarding low refl)
    to_agreed End e l tk ti i tied through untied =
        on role S (to_opened_lem l tk ti i tied through)
        (on role S (send_plain role S (holding Opened w m l tk ti) Opened CloseSent low refl) (read_close_lem role S (holding Opened w m l tk ti) CloseSent End size refl))

-- ---- all of them

listed : (m : ℕ) (o : Option (List ℕ)) (tk : Map) → Shared (Some m) o tk → (l : List ℕ) × (o ≡ Some l) × EachOnce m l tk
listed m None tk i = absurd i
listed m (Some l) tk i = (l, refl, i)

module _ (role : Role) (S : Settings) (ok : settings_ok S.container_id S.max_frame_size S.channel_max ≡ true) where
  pub every_reached : (c : Connection) → Reached S c → Led role S fresh c
  every_reached c r =
      let w = settings_within S.container_id S.max_frame_size S.channel_max ok in
      let short = w.id_short in
      let few : S.channel_max < 65536 = omega (arith, w.channel_high) in
      either_way r
      (λ u. subst (Led role S fresh) (sym u.at_first) (to_unopened role S short c.state u.stands))
      (λ m q a.
      let l = listed m c.hand_out c.taken a.shared in
      subst (Led role S fresh) (λ i. connection c.state (sym a.reading_own i) c.writing_limit (sym q i) (sym l.1 i) c.taken c.ties)
      (to_agreed role S short w.size_low few c.writing_limit m a.writing_low a.writing_high a.most c.state a.stands l.0 c.taken c.ties l.2 a.tied a.through a.untied))

  -- it holds of a connection exactly if some list of calls leads to it
  pub exact : (c : Connection) → Reached S c ↔ Led role S fresh c
  exact c = (every_reached c, λ l. subst (Reached S) l.leads (reached role S l.calls))
