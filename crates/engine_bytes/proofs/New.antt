-- What the fixed part of a new engine says.
-- Assumes nothing.
use mathlib.Core.Path.{◌≡◌, refl, ◌∙◌, ap, subst}
use mathlib.Core.Bool.{Bool, true, false}
use mathlib.Core.List.{List, ◌++◌}
use Rattle.std.specs.Prelude.{Option, None, Some}
use Prim.Native.Nat.{ℕ, suc, ◌+◌, ◌-◌, ◌^◌, ◌≤◌, ◌<◌}
use native.Mathlib.Omega.{arith}
use lib.ListN.{length, take, drop, length-append, length-drop}
use lib.Seq.{take-length}
use Rattle.octets.specs.Octets.{big_endian, bytes_of, put}
use Rattle.octets.specs.Verdict.{accept}
use Rattle.octets.proofs.Laws.{require_on, then_accept, length_bytes_of, length_put}
use Rattle.layout.specs.Layout.{held}
use Rattle.frame_encoder.specs.Frames.{Settings}
use Rattle.connection_state.specs.States.{with_number}
use Rattle.channels.specs.Places.{covers}
use Rattle.channels.specs.Channels.{counts_ok, agreed_says}
use Rattle.local_open.specs.Settings.{allowed, checked}
use Rattle.endpoint.specs.Promises.{limits_ok}
use Rattle.engine_model.specs.Phases.{goes_with}
use Rattle.engine_bytes.specs.Bytes.{Fixed, at, version, id_at, tables_at, fixed_size, or_broken, role_number, role_with, phase_with, flag_with, settings_at, numbers_at, moving_bytes, setting_bytes, fixed_bytes, is_there, idle_number}
use Rattle.engine_bytes.proofs.Parts.{inside, take_front, after_put, in_put, put_again}
use Rattle.engine_bytes.proofs.Fixed.{Says}
use Rattle.engine_bytes.proofs.Laid.{Roomy, step, number_in_lem, number_last, role_back, role_low, moving_long, phase_laid, state_laid, reading_laid, writing_laid, numbers_laid}

-- settings that have room where they stand
pub record SettingsRoomy (S : Settings) : Type 0 where
  pub highest_low : S.channel_max < 256 ^ 2
  pub size_low : S.max_frame_size < 256 ^ 4
  pub idle_low : idle_number S.idle_time_out < 256 ^ 4
  pub id_short : length S.container_id ≤ 255

abbrev there : Option ℕ → Bool
there None = false
there (Some n) = true

there_back : (o : Option ℕ) → flag_with (is_there o) ≡ Some (there o)
there_back None = refl
there_back (Some n) = refl

there_low : (o : Option ℕ) → is_there o < 256
there_low None = omega arith
there_low (Some n) = omega arith

held_back : (o : Option ℕ) → held (there o) (idle_number o) ≡ o
held_back None = refl
held_back (Some n) = refl

module _ (f : Fixed) (r : Roomy f) (q : SettingsRoomy f.settings) where
  abbrev S : Settings
  S = f.settings

  abbrev a : List ℕ
  a = setting_bytes f

  abbrev behind : List ℕ
  behind = moving_bytes f ++ (bytes_of 2 (length S.container_id) ++ S.container_id)

  abbrev m : List ℕ
  m = fixed_bytes f

  d4 : drop 4 a ≡ bytes_of 1 (role_number f.role) ++ (bytes_of 1 (is_there S.idle_time_out) ++ (bytes_of 2 S.channel_max ++ (bytes_of 4 S.max_frame_size ++ bytes_of 4 (idle_number S.idle_time_out))))
  unfolding setting_bytes
  d4 = step a version _ 0 4 refl refl

  d5 : drop 5 a ≡ bytes_of 1 (is_there S.idle_time_out) ++ (bytes_of 2 S.channel_max ++ (bytes_of 4 S.max_frame_size ++ bytes_of 4 (idle_number S.idle_time_out)))
  d5 = step a (bytes_of 1 (role_number f.role)) _ 4 1 d4 (length_bytes_of 1 (role_number f.role))

  d6 : drop 6 a ≡ bytes_of 2 S.channel_max ++ (bytes_of 4 S.max_frame_size ++ bytes_of 4 (idle_number S.idle_time_out))
  d6 = step a (bytes_of 1 (is_there S.idle_time_out)) _ 5 1 d5 (length_bytes_of 1 (is_there S.idle_time_out))

  d8 : drop 8 a ≡ bytes_of 4 S.max_frame_size ++ bytes_of 4 (idle_number S.idle_time_out)
  d8 = step a (bytes_of 2 S.channel_max) _ 6 2 d6 (length_bytes_of 2 S.channel_max)

  d12 : drop 12 a ≡ bytes_of 4 (idle_number S.idle_time_out)
  d12 = step a (bytes_of 4 S.max_frame_size) _ 8 4 d8 (length_bytes_of 4 S.max_frame_size)

  setting_long : length a ≡ 16
  setting_long = omega (arith, length-drop 12 a, ap length d12, length_bytes_of 4 (idle_number S.idle_time_out))

  all : m ≡ a ++ behind
  unfolding fixed_bytes
  all = refl

  d16 : drop 16 m ≡ behind
  d16 = step m a behind 0 16 all setting_long

  d42 : drop 42 m ≡ bytes_of 2 (length S.container_id) ++ S.container_id
  d42 = step m (moving_bytes f) _ 16 26 d16 (moving_long f)

  d44 : drop 44 m ≡ S.container_id
  d44 = step m (bytes_of 2 (length S.container_id)) S.container_id 42 2 d42 (length_bytes_of 2 (length S.container_id))

  pub new_long : length m ≡ 44 + length S.container_id
  new_long = omega (arith, length-drop 44 m, ap length d44, length-drop 42 m, ap length d42, length-append (bytes_of 2 (length S.container_id)) S.container_id, length_bytes_of 2 (length S.container_id))

  module _ (s : List ℕ) (long : fixed_size ≤ length s) where
    abbrev s' : List ℕ
    s' = put s 0 m

    fits : 0 + length m ≤ length s
    fits = omega (arith, new_long, q.id_short)

    long' : fixed_size ≤ length s'
    long' = omega (arith, length_put s 0 m)

    zero_front : (k : ℕ) → k ≡ 0 + k
    zero_front k = omega arith

    -- in the first 16 bytes
    found : (k w : ℕ) → k + w ≤ 16 → big_endian (take w (drop k s')) ≡ big_endian (take w (drop k a))
    found k w le = ap big_endian (ap (λ (j : ℕ). take w (drop j s')) (zero_front k) ∙ in_put s m 0 fits k w (omega (arith, new_long)) ∙ ap (λ l. take w (drop k l)) all ∙ inside a behind 16 k w setting_long le)

    -- what calls can change stands there, and would stand there if it were laid again
    moving_in : take 26 (drop 16 s') ≡ moving_bytes f
    moving_in = in_put s m 0 fits 16 26 (omega (arith, new_long)) ∙ ap (take 26) d16 ∙ take_front (moving_bytes f) _ 26 (moving_long f)

    again : put s' 16 (moving_bytes f) ≡ s'
    again = put_again s' (moving_bytes f) 16 26 (moving_long f) (omega (arith, long')) moving_in

    id_in : id_at s' ≡ S.container_id
    id_in =
        let n : at 42 2 s' ≡ length S.container_id = ap big_endian (in_put s m 0 fits 42 2 (omega (arith, new_long))) ∙ number_in_lem m _ 42 2 _ d42 (omega (arith, q.id_short)) in
        ap (λ k. take k (drop 44 s')) n
        ∙ in_put s m 0 fits 44 (length S.container_id) (omega (arith, new_long))
        ∙ ap (take (length S.container_id)) d44 ∙ take-length S.container_id

    settings_in : allowed S ≡ true → settings_at s' ≡ accept S
    unfolding settings_at
    settings_in ok =
        let i : flag_with (at 5 1 s') ≡ Some (there S.idle_time_out) = ap flag_with (found 5 1 (omega arith) ∙ number_in_lem a _ 5 1 _ d5 (there_low S.idle_time_out)) ∙ there_back S.idle_time_out in
        let h : at 6 2 s' ≡ S.channel_max = found 6 2 (omega arith) ∙ number_in_lem a _ 6 2 _ d6 q.highest_low in
        let z : at 8 4 s' ≡ S.max_frame_size = found 8 4 (omega arith) ∙ number_in_lem a _ 8 4 _ d8 q.size_low in
        let t : at 12 4 s' ≡ idle_number S.idle_time_out = found 12 4 (omega arith) ∙ number_last a 12 4 _ d12 q.idle_low in
        let e : record { container_id = id_at s'; max_frame_size = at 8 4 s'; channel_max = at 6 2 s'; idle_time_out = held (there S.idle_time_out) (at 12 4 s') } ≡ S =
        (λ k. record { container_id = id_in k; max_frame_size = z k; channel_max = h k; idle_time_out = held (there S.idle_time_out) (t k) })
        ∙ (λ k. record { container_id = S.container_id; max_frame_size = S.max_frame_size; channel_max = S.channel_max; idle_time_out = held_back S.idle_time_out k }) in
        then_accept _ _ _ (ap or_broken i) ∙ ap checked e ∙ require_on 8 _ _ ok

    pub tables_new : tables_at s' ≡ tables_at s
    tables_new =
        let k : 0 + length m + (256 - length S.container_id) ≡ 300 = omega (arith, new_long, q.id_short) in
        subst (λ (j : ℕ). drop j s' ≡ drop j s) k (after_put s m 0 fits (256 - length S.container_id))

    named_in : big_endian (take 4 (drop 0 a)) ≡ big_endian version
    unfolding setting_bytes
    named_in = refl

    -- bytes say a fixed part that was laid whole
    pub says_new : allowed S ≡ true → counts_ok f.numbers ≡ true → limits_ok S f.state f.reading_limit f.writing_limit (agreed_says f.numbers) ≡ true
        → covers (suc S.channel_max) (tables_at s) ≡ true → goes_with f.phase f.state ≡ true → Says s' f
    says_new ok counted limits cover goes = record {
      long = long';
      named = found 0 4 (omega arith) ∙ named_in;
      role_said = ap role_with (found 4 1 (omega arith) ∙ number_in_lem a _ 4 1 _ d4 (role_low f.role)) ∙ role_back f.role;
      phase_said = subst (λ l. phase_with (at 16 1 l) (at 17 1 l) ≡ Some f.phase) again (phase_laid f r s' long');
      state_said = subst (λ l. with_number (at 18 1 l) ≡ Some f.state) again (state_laid f r s' long');
      settings_said = settings_in ok;
      numbers_said = subst (λ l. numbers_at l ≡ accept f.numbers) again (numbers_laid f r s' long' counted);
      reading_said = subst (λ l. at 20 4 l ≡ f.reading_limit) again (reading_laid f r s' long');
      writing_said = subst (λ l. at 24 4 l ≡ f.writing_limit) again (writing_laid f r s' long');
      limits_fine = limits;
      tables_cover = ap (covers (suc S.channel_max)) tables_new ∙ cover;
      phase_goes = goes;
    }
