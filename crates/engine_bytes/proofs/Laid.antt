-- What the fixed part says after something was laid: what calls can change, another state of the tables, or all of a new engine's.
-- Assumes nothing.
use mathlib.Core.Path.{◌≡◌, refl, sym, ◌∙◌, ap, ap₂, subst}
use mathlib.Core.Bool.{Bool, true, false}
use mathlib.Core.List.{List, [], ◌∷◌, ◌++◌}
use Rattle.std.specs.Prelude.{Some}
use Prim.Native.Nat.{ℕ, suc, ◌+◌, ◌*◌, ◌^◌, ◌≤◌, ◌<◌}
use native.Mathlib.Omega.{arith}
use native.Mathlib.Decide.{dec_le}
use lib.Dec.{leb}
use lib.ListN.{length, take, drop, length-append, length-drop, take-append-drop}
use lib.Seq.{length-take-le, drop_at, drop-drop, take-length}
use Rattle.octets.specs.Octets.{big_endian, big_endian_from, bytes_of, put}
use Rattle.octets.specs.Verdict.{accept, require, and_then}
use Rattle.octets.proofs.Laws.{require_on, then_accept, length_bytes_of, length_put, put_not}
use Rattle.layout.specs.Layout.{held}
use Rattle.layout.proofs.Laws.{bytes_number}
use Rattle.connection_state.specs.States.{State, Start, HeaderReceived, HeaderSent, HeaderExchange, OpenPipe, OpenClosePipe, OpenReceived, OpenSent, ClosePipe, Opened, CloseReceived, CloseSent, Discarding, End, numbered, with_number}
use Rattle.connection_state.proofs.States.{numbered_back}
use Rattle.connection_model.specs.Connection.{Role, dialler, listener}
use Rattle.channels.specs.Numbers.{one}
use Rattle.channels.specs.Places.{covers}
use Rattle.channels.specs.Channels.{counts, counts_ok, agreed_says}
use Rattle.channels.specs.declared.OutgoingChannels.{OutgoingChannels}
use Rattle.local_open.specs.Settings.{checked}
use Rattle.endpoint.specs.Promises.{limits_ok}
use Rattle.engine_model.specs.Engine.{Outcome, fine, transport_error, illegal_state, not_found, not_implemented, remote_closed, remote_closed_with_error, Phase, running, awaiting, stopped}
use Rattle.engine_model.specs.Phases.{goes_with}
use Rattle.engine_bytes.specs.Bytes.{Fixed, at, id_at, tables_at, fixed_size, or_broken, role_number, role_with, outcome_number, outcome_with, phase_bytes, in_phase, phase_with, flag_with, settings_at, numbers_at, number_bytes, moving_bytes}
use Rattle.engine_bytes.proofs.Parts.{inside, before_put, after_put, in_put, number_front}
use Rattle.engine_bytes.proofs.Fixed.{Says, id_low}

-- ---- numbers and what they stand for

abbrev first : Phase → ℕ
first running = 0
first (awaiting o) = 1
first (stopped o) = 2

abbrev second : Phase → ℕ
second running = 0
second (awaiting o) = outcome_number o
second (stopped o) = outcome_number o

outcome_back : (o : Outcome) → outcome_with (outcome_number o) ≡ Some o
unfolding outcome_with
outcome_back fine = refl
outcome_back transport_error = refl
outcome_back illegal_state = refl
outcome_back not_found = refl
outcome_back not_implemented = refl
outcome_back remote_closed = refl
outcome_back remote_closed_with_error = refl

phase_back : (p : Phase) → phase_with (first p) (second p) ≡ Some p
unfolding phase_with
phase_back running = refl
phase_back (awaiting o) = ap (in_phase awaiting) (outcome_back o)
phase_back (stopped o) = ap (in_phase stopped) (outcome_back o)

phase_long : (p : Phase) → length (phase_bytes p) ≡ 2
phase_long running = refl
phase_long (awaiting o) = refl
phase_long (stopped o) = refl

one_number : (b : ℕ) → big_endian (b ∷ []) ≡ b
unfolding big_endian big_endian_from
one_number b = omega arith

phase_first : (p : Phase) (l : List ℕ) → big_endian (take 1 (phase_bytes p ++ l)) ≡ first p
phase_first running l = one_number 0
phase_first (awaiting o) l = one_number 1
phase_first (stopped o) l = one_number 2

phase_second : (p : Phase) (l : List ℕ) → big_endian (take 1 (drop 1 (phase_bytes p ++ l))) ≡ second p
phase_second running l = one_number 0
phase_second (awaiting o) l = one_number (outcome_number o)
phase_second (stopped o) l = one_number (outcome_number o)

pub role_back : (r : Role) → role_with (role_number r) ≡ Some r
role_back dialler = refl
role_back listener = refl

pub role_low : (r : Role) → role_number r < 256
role_low dialler = omega arith
role_low listener = omega arith

flag_back : (b : Bool) → flag_with (one b) ≡ Some b
flag_back true = refl
flag_back false = refl

flag_low : (b : Bool) → one b < 256
flag_low true = omega arith
flag_low false = omega arith

-- ---- parts one after the other

pub step : (m a b : List ℕ) (k n : ℕ) → drop k m ≡ a ++ b → length a ≡ n → drop (k + n) m ≡ b
step m a b k n e l = sym (drop-drop n k m) ∙ ap (drop n) e ∙ drop_at a b n l

pub number_in_lem : (m b : List ℕ) (k w x : ℕ) → drop k m ≡ bytes_of w x ++ b → x < 256 ^ w → big_endian (take w (drop k m)) ≡ x
number_in_lem m b k w x e low = ap (λ l. big_endian (take w l)) e ∙ number_front w x b low

pub number_last : (m : List ℕ) (k w x : ℕ) → drop k m ≡ bytes_of w x → x < 256 ^ w → big_endian (take w (drop k m)) ≡ x
number_last m k w x e low = ap (λ l. big_endian (take w l)) e ∙ ap (λ n. big_endian (take n (bytes_of w x))) (sym (length_bytes_of w x)) ∙ ap big_endian (take-length (bytes_of w x)) ∙ bytes_number w x low

-- ---- what calls can change

-- numbers that have room where they stand
pub record Roomy (f : Fixed) : Type 0 where
  pub reading_low : f.reading_limit < 256 ^ 4
  pub writing_low : f.writing_limit < 256 ^ 4
  pub used_low : f.numbers.used < 256 ^ 4
  pub head_low : f.numbers.head < 256 ^ 4
  pub freed_low : f.numbers.freed < 256 ^ 4
  pub highest_low : f.numbers.highest < 256 ^ 2

state_low : (x : State) → numbered x < 256
state_low Start = omega arith
state_low HeaderReceived = omega arith
state_low HeaderSent = omega arith
state_low HeaderExchange = omega arith
state_low OpenPipe = omega arith
state_low OpenClosePipe = omega arith
state_low OpenReceived = omega arith
state_low OpenSent = omega arith
state_low ClosePipe = omega arith
state_low Opened = omega arith
state_low CloseReceived = omega arith
state_low CloseSent = omega arith
state_low Discarding = omega arith
state_low End = omega arith

module _ (f : Fixed) where
  abbrev m : List ℕ
  m = moving_bytes f

  abbrev n : OutgoingChannels
  n = f.numbers

  d2 : drop 2 m ≡ bytes_of 1 (numbered f.state) ++ (bytes_of 1 (one n.opened) ++ (bytes_of 4 f.reading_limit ++ (bytes_of 4 f.writing_limit ++ number_bytes n)))
  unfolding moving_bytes
  d2 = step m (phase_bytes f.phase) _ 0 2 refl (phase_long f.phase)

  d3 : drop 3 m ≡ bytes_of 1 (one n.opened) ++ (bytes_of 4 f.reading_limit ++ (bytes_of 4 f.writing_limit ++ number_bytes n))
  d3 = step m (bytes_of 1 (numbered f.state)) _ 2 1 d2 (length_bytes_of 1 (numbered f.state))

  d4 : drop 4 m ≡ bytes_of 4 f.reading_limit ++ (bytes_of 4 f.writing_limit ++ number_bytes n)
  d4 = step m (bytes_of 1 (one n.opened)) _ 3 1 d3 (length_bytes_of 1 (one n.opened))

  d8 : drop 8 m ≡ bytes_of 4 f.writing_limit ++ number_bytes n
  d8 = step m (bytes_of 4 f.reading_limit) _ 4 4 d4 (length_bytes_of 4 f.reading_limit)

  d12 : drop 12 m ≡ bytes_of 4 n.used ++ (bytes_of 4 n.head ++ (bytes_of 4 n.freed ++ bytes_of 2 n.highest))
  d12 = step m (bytes_of 4 f.writing_limit) _ 8 4 d8 (length_bytes_of 4 f.writing_limit)

  d16 : drop 16 m ≡ bytes_of 4 n.head ++ (bytes_of 4 n.freed ++ bytes_of 2 n.highest)
  d16 = step m (bytes_of 4 n.used) _ 12 4 d12 (length_bytes_of 4 n.used)

  d20 : drop 20 m ≡ bytes_of 4 n.freed ++ bytes_of 2 n.highest
  d20 = step m (bytes_of 4 n.head) _ 16 4 d16 (length_bytes_of 4 n.head)

  d24 : drop 24 m ≡ bytes_of 2 n.highest
  d24 = step m (bytes_of 4 n.freed) _ 20 4 d20 (length_bytes_of 4 n.freed)

  pub moving_long : length m ≡ 26
  moving_long = omega (arith, length-drop 24 m, ap length d24, length_bytes_of 2 n.highest)

  -- what stands behind the fixed part is as before, whether or not it fits
  pub after_moving : (s : List ℕ) (k : ℕ) → drop (fixed_size + k) (put s 16 m) ≡ drop (fixed_size + k) s
  after_moving s k = elim (dec_le (16 + length m) (length s)) [
    | yes fits ↦
        let i : 16 + length m + (258 + k) ≡ 300 + k = omega (arith, moving_long) in
        subst (λ (j : ℕ). drop j (put s 16 m) ≡ drop j s) i (after_put s m 16 fits (258 + k))
    | no over ↦ ap (drop (fixed_size + k)) (put_not s 16 m (omega arith))
  ]

  -- laid into bytes where there is room for it
  module _ (r : Roomy f) (s : List ℕ) (long : fixed_size ≤ length s) where
    abbrev s' : List ℕ
    s' = put s 16 m

    fits : 16 + length m ≤ length s
    fits = omega (arith, moving_long)

    found : (k w : ℕ) → k + w ≤ 26 → big_endian (take w (drop (16 + k) s')) ≡ big_endian (take w (drop k m))
    found k w le = ap big_endian (in_put s m 16 fits k w (omega (arith, moving_long)))

    pub phase_laid : phase_with (at 16 1 s') (at 17 1 s') ≡ Some f.phase
    unfolding moving_bytes
    phase_laid = ap₂ phase_with (found 0 1 (omega arith) ∙ phase_first f.phase _) (found 1 1 (omega arith) ∙ phase_second f.phase _) ∙ phase_back f.phase

    pub state_laid : with_number (at 18 1 s') ≡ Some f.state
    state_laid = ap with_number (found 2 1 (omega arith) ∙ number_in_lem m _ 2 1 _ d2 (state_low f.state)) ∙ numbered_back f.state

    pub reading_laid : at 20 4 s' ≡ f.reading_limit
    reading_laid = found 4 4 (omega arith) ∙ number_in_lem m _ 4 4 _ d4 r.reading_low

    pub writing_laid : at 24 4 s' ≡ f.writing_limit
    writing_laid = found 8 4 (omega arith) ∙ number_in_lem m _ 8 4 _ d8 r.writing_low

    pub numbers_laid : counts_ok n ≡ true → numbers_at s' ≡ accept n
    unfolding numbers_at
    numbers_laid ok =
        let o : flag_with (at 19 1 s') ≡ Some n.opened = ap flag_with (found 3 1 (omega arith) ∙ number_in_lem m _ 3 1 _ d3 (flag_low n.opened)) ∙ flag_back n.opened in
        let u : at 28 4 s' ≡ n.used = found 12 4 (omega arith) ∙ number_in_lem m _ 12 4 _ d12 r.used_low in
        let h : at 32 4 s' ≡ n.head = found 16 4 (omega arith) ∙ number_in_lem m _ 16 4 _ d16 r.head_low in
        let g : at 36 4 s' ≡ n.freed = found 20 4 (omega arith) ∙ number_in_lem m _ 20 4 _ d20 r.freed_low in
        let t : at 40 2 s' ≡ n.highest = found 24 2 (omega arith) ∙ number_last m 24 2 _ d24 r.highest_low in
        let c : counts n.opened (at 40 2 s') (at 28 4 s') (at 32 4 s') (at 36 4 s') ≡ n = λ i. counts n.opened (t i) (u i) (h i) (g i) in
        then_accept _ _ _ (ap or_broken o) ∙ require_on 8 _ _ (ap counts_ok c ∙ ok) ∙ ap accept c

    -- what no call changes is as before
    same_before : (i w : ℕ) → i + w ≤ 16 → at i w s' ≡ at i w s
    same_before i w le = ap big_endian (before_put s m 16 fits i w le)

    same_after : (i : ℕ) → drop (42 + i) s' ≡ drop (42 + i) s
    same_after i = subst (λ (k : ℕ). drop (16 + k + i) s' ≡ drop (16 + k + i) s) moving_long (after_put s m 16 fits i)

    pub tables_same : tables_at s' ≡ tables_at s
    tables_same = same_after 258

    pub id_same : id_at s' ≡ id_at s
    id_same = ap₂ (λ (k : ℕ) l. take k l) (ap (λ l. big_endian (take 2 l)) (same_after 0)) (same_after 2)

    pub settings_same : settings_at s' ≡ settings_at s
    unfolding settings_at
    settings_same = λ i.
        and_then (or_broken (flag_with (same_before 5 1 (omega arith) i))) (λ idle.
        checked (record {
          container_id = id_same i;
          max_frame_size = same_before 8 4 (omega arith) i;
          channel_max = same_before 6 2 (omega arith) i;
          idle_time_out = held idle (same_before 12 4 (omega arith) i);
        }))

    -- bytes that say a fixed part say another with the same role and settings, once what calls can change of it was laid
    pub says_moved : (g : Fixed) → Says s g → f.role ≡ g.role → f.settings ≡ g.settings → counts_ok n ≡ true
        → limits_ok f.settings f.state f.reading_limit f.writing_limit (agreed_says n) ≡ true → goes_with f.phase f.state ≡ true → Says s' f
    says_moved g p same_role same_settings ok limits goes = record {
      long = omega (arith, length_put s 16 m);
      named = same_before 0 4 (omega arith) ∙ p.named;
      role_said = ap role_with (same_before 4 1 (omega arith)) ∙ p.role_said ∙ ap Some (sym same_role);
      phase_said = phase_laid;
      state_said = state_laid;
      settings_said = settings_same ∙ p.settings_said ∙ ap accept (sym same_settings);
      numbers_said = numbers_laid ok;
      reading_said = reading_laid;
      writing_said = writing_laid;
      limits_fine = limits;
      tables_cover = ap₂ (λ S t. covers (suc S.channel_max) t) same_settings tables_same ∙ p.tables_cover;
      phase_goes = goes;
    }

-- ---- other tables of the same length

module _ (s t : List ℕ) (long : fixed_size ≤ length s) (same : length t ≡ length (tables_at s)) where
  abbrev with_tables : List ℕ
  with_tables = take fixed_size s ++ t

  three_hundred : length (take fixed_size s) ≡ fixed_size
  three_hundred = length-take-le fixed_size s long

  part_same : (i w : ℕ) → i + w ≤ 300 → take w (drop i with_tables) ≡ take w (drop i s)
  part_same i w le =
      inside (take fixed_size s) t fixed_size i w three_hundred le ∙ sym (inside (take fixed_size s) (tables_at s) fixed_size i w three_hundred le)
      ∙ ap (λ l. take w (drop i l)) (take-append-drop fixed_size s)

  at_same : (i w : ℕ) → i + w ≤ 300 → at i w with_tables ≡ at i w s
  at_same i w le = ap big_endian (part_same i w le)

  pub tables_are : tables_at with_tables ≡ t
  tables_are = drop_at (take fixed_size s) t fixed_size three_hundred

  pub with_long : length with_tables ≡ length s
  with_long = omega (arith, length-append (take fixed_size s) t, three_hundred, length-drop fixed_size s)

  pub id_are : at 42 2 s ≤ 255 → id_at with_tables ≡ id_at s
  id_are low = ap (λ (k : ℕ). take k (drop 44 with_tables)) (at_same 42 2 (omega arith)) ∙ part_same 44 (at 42 2 s) (omega arith)

  pub says_tables : (f : Fixed) → Says s f → Says with_tables f
  unfolding settings_at numbers_at covers
  says_tables f p = record {
    long = omega (arith, with_long, p.long);
    named = at_same 0 4 (omega arith) ∙ p.named;
    role_said = ap role_with (at_same 4 1 (omega arith)) ∙ p.role_said;
    phase_said = ap₂ phase_with (at_same 16 1 (omega arith)) (at_same 17 1 (omega arith)) ∙ p.phase_said;
    state_said = ap with_number (at_same 18 1 (omega arith)) ∙ p.state_said;
    settings_said =
        (λ i.
        and_then (or_broken (flag_with (at_same 5 1 (omega arith) i))) (λ idle.
        checked (record {
          container_id = id_are (id_low s f p) i;
          max_frame_size = at_same 8 4 (omega arith) i;
          channel_max = at_same 6 2 (omega arith) i;
          idle_time_out = held idle (at_same 12 4 (omega arith) i);
        }))) ∙ p.settings_said;
    numbers_said =
        (λ i.
        and_then (or_broken (flag_with (at_same 19 1 (omega arith) i))) (λ agreed.
        require 8 (counts_ok (counts agreed (at_same 40 2 (omega arith) i) (at_same 28 4 (omega arith) i) (at_same 32 4 (omega arith) i) (at_same 36 4 (omega arith) i))) (λ _.
        accept (counts agreed (at_same 40 2 (omega arith) i) (at_same 28 4 (omega arith) i) (at_same 32 4 (omega arith) i) (at_same 36 4 (omega arith) i))))) ∙ p.numbers_said;
    reading_said = at_same 20 4 (omega arith) ∙ p.reading_said;
    writing_said = at_same 24 4 (omega arith) ∙ p.writing_said;
    limits_fine = p.limits_fine;
    tables_cover = ap (λ l. leb (28 * suc f.settings.channel_max) (length l)) tables_are ∙ ap (leb (28 * suc f.settings.channel_max)) same ∙ p.tables_cover;
    phase_goes = p.phase_goes;
  }
