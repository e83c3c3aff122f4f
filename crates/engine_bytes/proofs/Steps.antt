-- What each return of `from_bytes` shows, with the facts as they come.
-- Assumes nothing.
use mathlib.Core.Path.{◌≡◌, refl, sym, ◌∙◌, ap, ap₂}
use mathlib.Core.Bool.{Bool, true, false, cond, not}
use mathlib.Core.List.{List, []}
use Rattle.std.specs.Prelude.{Option, None, Some, Result, Ok, Err}
use Prim.Native.Nat.{ℕ, suc, ◌-◌, ◌≤◌, ◌<◌}
use native.Mathlib.Omega.{arith}
use lib.Dec.{eqb, leb}
use lib.ListN.{length, take, drop, get_or}
use borrow.Author.Tests.{lt-leb, le-leb, eq-eqb, ne_eqb, not-true, not-false}
use Rattle.octets.specs.Octets.{big_endian, big_endian_from}
use Rattle.octets.specs.Verdict.{Verdict, refuse, accept, require, and_then}
use Rattle.octets.proofs.Laws.{require_on, require_off, then_accept, then_refuse}
use Rattle.frame_encoder.specs.Frames.{Settings}
use Rattle.connection_state.specs.declared.ConnectionState.{ConnectionState}
use Rattle.connection_state.specs.Answers.{state_says, numbered_says}
use Rattle.connection_state.specs.States.{with_number}
use Rattle.channels.specs.declared.OutgoingChannels.{OutgoingChannels}
use Rattle.layout.specs.Layout.{held}
use Rattle.channels.specs.Channels.{agreed_says}
use Rattle.channels.specs.Places.{covers}
use Rattle.local_open.specs.declared.LocalOpen.{LocalOpen}
use Rattle.octets.specs.Refusal.{number_of}
use Rattle.octets.specs.declared.Refusal.{Refusal}
use Rattle.local_open.specs.Settings.{allowed, open_says, new_says}
use Rattle.endpoint.specs.declared.Role.{Role}
use Rattle.endpoint.specs.Answers.{role_says}
use Rattle.endpoint.specs.Promises.{endpoint_of, resumed_as, limits_ok}
use Rattle.endpoint.proofs.Limits.{limits_any}
use Rattle.connection.specs.declared.Connection.{Connection}
use Rattle.connection.specs.Promises.{resumed_in}
use Rattle.engine_model.specs.Phases.{goes_with}
use Rattle.engine.specs.declared.Phase.{Phase}
use Rattle.engine.specs.Answers.{phase_says, engine_of}
use Rattle.engine.specs.Promises as Engine
use Rattle.engine.proofs.Output.{rest_is}
use Rattle.engine.specs.declared.ConnectionEngine.{ConnectionEngine}
use Rattle.engine_bytes.specs.Bytes.{Fixed, at, version, id_at, tables_at, or_broken, role_with, phase_with, flag_with, settings_at, numbers_at, rest_at, fixed_at}
use Rattle.engine_bytes.specs.Promises.{read_says, role_read, phase_read}
use Rattle.engine_bytes.proofs.Reading.{byte_at}

-- ---- every refusal is 8

record Eight {A : Type 0} (v : Verdict A) : Type 0 where
  eight : (k : ℕ) → v ≡ refuse k → k ≡ 8

eight_accept : {A : Type 0} (a : A) → Eight (accept a)
eight_accept a = record { eight = λ k e. let z : ◌≡◌ {A = ℕ} 0 1 = cc in absurd (omega arith) }

eight_refuse : {A : Type 0} → Eight {A = A} (refuse 8)
eight_refuse = record { eight = λ k e. cc }

eight_require : {A : Type 0} (b : Bool) (rest : Unit {0} → Verdict A) → Eight (rest tt) → Eight (require 8 b rest)
unfolding require
eight_require true rest h = h
eight_require false rest h = eight_refuse

eight_then : {A B : Type 0} (v : Verdict A) (f : A → Verdict B) → Eight v → ((a : A) → Eight (f a)) → Eight (and_then v f)
unfolding and_then
eight_then (refuse j) f h g = record { eight = λ k e. let z : j ≡ k = cc in h.eight k (ap refuse z) }
eight_then (accept a) f h g = g a

eight_or : {A : Type 0} (o : Option A) → Eight (or_broken o)
eight_or None = eight_refuse
eight_or (Some a) = eight_accept a

settings_eight : (s : List ℕ) → Eight (settings_at s)
unfolding settings_at
settings_eight s =
    eight_then (or_broken (flag_with (at 5 1 s))) _ (eight_or (flag_with (at 5 1 s))) (λ idle.
    let S : Settings = record { container_id = id_at s; max_frame_size = at 8 4 s; channel_max = at 6 2 s; idle_time_out = held idle (at 12 4 s) } in
    eight_require (allowed S) (λ _. accept S) (eight_accept S))

-- where there is nothing to read
pub read_none : (id : List ℕ) (r : Option ConnectionEngine) (v : Verdict Fixed) → r ≡ None → refuse 8 ≡ v → read_says id r ≡ v
read_none id r v e h = ap (read_says id) e ∙ h

-- ---- read_rest

module _ (s : List ℕ) (role : Role) (phase : Phase) (state : ConnectionState) where
  abbrev rest : Verdict Fixed
  rest = rest_at (role_says role) (phase_says phase) (state_says state) s

  module _ (op : Result LocalOpen Refusal) (op-is : new_says (id_at s) op ≡ settings_at s) where
    pub rest_no_open : (k : Refusal) → op ≡ Err k → refuse 8 ≡ rest
    unfolding rest_at
    rest_no_open k u =
        let e : settings_at s ≡ refuse (number_of k) = sym op-is ∙ ap (new_says (id_at s)) u in
        sym (then_refuse _ _ 8 (e ∙ ap refuse ((settings_eight s).eight (number_of k) e)))

    module _ (local : LocalOpen) (op-known : op ≡ Ok local) (co : Option OutgoingChannels) (co-is : or_broken co ≡ numbers_at s) where
      settings_read : settings_at s ≡ accept (open_says (id_at s) local)
      settings_read = sym op-is ∙ ap (new_says (id_at s)) op-known

      pub rest_no_counts : co ≡ None → refuse 8 ≡ rest
      unfolding rest_at
      rest_no_counts u = sym (then_accept _ _ _ settings_read ∙ then_refuse _ _ 8 (sym co-is ∙ ap or_broken u))

      module _ (outgoing : OutgoingChannels) (co-known : co ≡ Some outgoing) (highest : ℕ) (highest_is : highest ≡ local.channel_max) (b : Bool) (b-is : b ≡ covers (suc highest) (take (length s - 300) (drop 300 s))) where
        numbers_read : numbers_at s ≡ accept outgoing
        numbers_read = sym co-is ∙ ap or_broken co-known

        covered_is : covers (suc local.channel_max) (tables_at s) ≡ b
        covered_is = sym (b-is ∙ (λ i. covers (suc (highest_is i)) (rest_is s 300 i)))

        pub rest_uncovered : not b ≡ true → refuse 8 ≡ rest
        unfolding rest_at
        rest_uncovered u = sym (then_accept _ _ _ settings_read ∙ then_accept _ _ _ numbers_read ∙ require_off 8 _ _ (covered_is ∙ not-true b u))

        module _ (long : not b ≡ false) (reading writing : ℕ) (reading-is : reading ≡ at 20 4 s) (writing-is : writing ≡ at 24 4 s)
            (re : Option Connection) (re-is : re ≡ resumed_in state (resumed_as (state_says state) (endpoint_of role local reading writing outgoing))) where
          abbrev limits : List ℕ → Bool
          limits id = limits_ok (open_says id local) (state_says state) reading writing (agreed_says outgoing)

          same_limits : limits_ok (open_says (id_at s) local) (state_says state) (at 20 4 s) (at 24 4 s) (agreed_says outgoing) ≡ limits []
          same_limits =
              sym (limits_any [] (id_at s) local _ _ _ _ ∙ (λ i. limits_ok (open_says (id_at s) local) (state_says state) (reading-is i) (writing-is i) (agreed_says outgoing)))

          abbrev kept : Connection
          kept = record { local_state = state; endpoint = endpoint_of role local reading writing outgoing }

          kept_by : (b : Bool) → limits [] ≡ b → re ≡ resumed_in state (cond b (Some (endpoint_of role local reading writing outgoing)) None)
          kept_by b q = re-is ∙ ap (λ x. resumed_in state (cond x (Some (endpoint_of role local reading writing outgoing)) None)) q

          abbrev told : Fixed
          told = record { role = role_says role; settings = open_says (id_at s) local; phase = phase_says phase; state = state_says state; reading_limit = at 20 4 s; writing_limit = at 24 4 s; numbers = outgoing }

          rest_by : rest ≡ require 8 (limits []) (λ _. require 8 (goes_with (phase_says phase) (state_says state)) (λ _. accept told))
          unfolding rest_at
          rest_by =
              then_accept _ _ _ settings_read ∙ then_accept _ _ _ numbers_read ∙ require_on 8 _ _ (covered_is ∙ not-false b long)
              ∙ ap (λ x. require 8 x (λ _. require 8 (goes_with (phase_says phase) (state_says state)) (λ _. accept told))) same_limits

          pub rest_not_kept : re ≡ None → refuse 8 ≡ rest
          rest_not_kept u = by (limits []) refl
            where
              by : (b : Bool) → limits [] ≡ b → refuse 8 ≡ rest
              by true q = let z : ◌≡◌ {A = ℕ} 0 1 = never (sym u ∙ kept_by true q) in absurd (omega arith)
                where
                  never : ◌≡◌ {A = Option Connection} None (Some kept) → ◌≡◌ {A = ℕ} 0 1
                  never x = cc
              by false q = sym (rest_by ∙ require_off 8 _ _ q)

          kept_told : read_says (id_at s) (Some (engine_of phase kept)) ≡ accept told
          kept_told = λ i. accept (record {
            role = role_says role;
            settings = open_says (id_at s) local;
            phase = phase_says phase;
            state = state_says state;
            reading_limit = reading-is i;
            writing_limit = writing-is i;
            numbers = outgoing;
          })

          goes_told : (d : Bool) → read_says (id_at s) (cond d (Some (engine_of phase kept)) None) ≡ require 8 d (λ _. accept told)
          unfolding require
          goes_told true = kept_told
          goes_told false = refl

          pub rest_kept : (c : Connection) → re ≡ Some c → (e : Option ConnectionEngine) → e ≡ Engine.resumed_as phase c → read_says (id_at s) e ≡ rest
          rest_kept c u e made = by (limits []) refl
            where
              same : ◌≡◌ {A = Option Connection} (Some c) (Some kept) → c ≡ kept
              same x = cc

              never : ◌≡◌ {A = Option Connection} (Some c) None → ◌≡◌ {A = ℕ} 0 1
              never x = cc

              by : (b : Bool) → limits [] ≡ b → read_says (id_at s) e ≡ rest
              by true q =
                  ap (read_says (id_at s)) (made ∙ ap (Engine.resumed_as phase) (same (sym u ∙ kept_by true q)))
                  ∙ goes_told (goes_with (phase_says phase) (state_says state))
                  ∙ sym (rest_by ∙ require_on 8 _ _ q)
              by false q = let z : ◌≡◌ {A = ℕ} 0 1 = never (sym u ∙ kept_by false q) in absurd (omega arith)

-- ---- from_bytes

module _ (s : List ℕ) where
  pub read_short : length s < 300 → refuse 8 ≡ fixed_at s
  unfolding fixed_at
  read_short h = sym (require_off 8 _ _ (lt-leb 300 (length s) h))

  module _ (long : 300 ≤ length s) (v : ℕ) (v-is : v ≡ at 0 4 s) where
    long_enough : leb 300 (length s) ≡ true
    long_enough = le-leb 300 (length s) long

    pub read_other : (v ≡ 0x48535032 → ⊥) → refuse 8 ≡ fixed_at s
    unfolding fixed_at big_endian big_endian_from
    read_other h = sym (require_on 8 _ _ long_enough ∙ require_off 8 _ _ (ne_eqb _ _ (λ e. h (v-is ∙ e))))

    module _ (named : v ≡ 0x48535032) (ro : Option Role) (ro-is : role_read ro ≡ role_with (get_or s 4 0)) where
      name_right : eqb (at 0 4 s) (big_endian version) ≡ true
      unfolding big_endian big_endian_from
      name_right = eq-eqb _ _ (sym v-is ∙ named)

      role_at : role_with (at 4 1 s) ≡ role_read ro
      role_at = ap role_with (sym (byte_at s 4 (omega arith))) ∙ sym ro-is

      pub read_no_role : ro ≡ None → refuse 8 ≡ fixed_at s
      unfolding fixed_at
      read_no_role u = sym (require_on 8 _ _ long_enough ∙ require_on 8 _ _ name_right ∙ then_refuse _ _ 8 (ap or_broken (role_at ∙ ap role_read u)))

      module _ (role : Role) (ro-known : ro ≡ Some role) (ph : Option Phase) (ph-is : phase_read ph ≡ phase_with (get_or s 16 0) (get_or s 17 0)) where
        role_read_lem : or_broken (role_with (at 4 1 s)) ≡ accept (role_says role)
        role_read_lem = ap or_broken (role_at ∙ ap role_read ro-known)

        phase_at : phase_with (at 16 1 s) (at 17 1 s) ≡ phase_read ph
        phase_at = ap₂ phase_with (sym (byte_at s 16 (omega arith))) (sym (byte_at s 17 (omega arith))) ∙ sym ph-is

        pub read_no_phase : ph ≡ None → refuse 8 ≡ fixed_at s
        unfolding fixed_at
        read_no_phase u = sym (require_on 8 _ _ long_enough ∙ require_on 8 _ _ name_right ∙ then_accept _ _ _ role_read_lem ∙ then_refuse _ _ 8 (ap or_broken (phase_at ∙ ap phase_read u)))

        module _ (phase : Phase) (ph-known : ph ≡ Some phase) (st : Option ConnectionState) (st-is : numbered_says st ≡ with_number (get_or s 18 0)) where
          phase_read_lem : or_broken (phase_with (at 16 1 s) (at 17 1 s)) ≡ accept (phase_says phase)
          phase_read_lem = ap or_broken (phase_at ∙ ap phase_read ph-known)

          state_at : with_number (at 18 1 s) ≡ numbered_says st
          state_at = ap with_number (sym (byte_at s 18 (omega arith))) ∙ sym st-is

          pub read_no_state : st ≡ None → refuse 8 ≡ fixed_at s
          unfolding fixed_at
          read_no_state u =
              sym (require_on 8 _ _ long_enough ∙ require_on 8 _ _ name_right ∙ then_accept _ _ _ role_read_lem ∙ then_accept _ _ _ phase_read_lem
              ∙ then_refuse _ _ 8 (ap or_broken (state_at ∙ ap numbered_says u)))

          pub read_all : (state : ConnectionState) → st ≡ Some state → (r : Option ConnectionEngine) → read_says (id_at s) r ≡ rest_at (role_says role) (phase_says phase) (state_says state) s → read_says (id_at s) r ≡ fixed_at s
          unfolding fixed_at
          read_all state st-known r e =
              e ∙ sym (require_on 8 _ _ long_enough ∙ require_on 8 _ _ name_right ∙ then_accept _ _ _ role_read_lem ∙ then_accept _ _ _ phase_read_lem
              ∙ then_accept _ _ _ (ap or_broken (state_at ∙ ap numbered_says st-known)))
