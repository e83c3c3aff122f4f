-- The fixed part of a state: what it is for bytes to say it, and what they say after something was laid.
-- Assumes nothing.
use mathlib.Core.Path.{◌≡◌, refl, sym, ◌∙◌, ap, subst}
use mathlib.Core.Bool.{Bool, true}
use mathlib.Core.List.{List}
use Rattle.std.specs.Prelude.{Option, None, Some}
use Prim.Native.Nat.{ℕ, suc, ◌≤◌}
use native.Mathlib.Omega.{arith}
use lib.ListN.{length, drop, length-take, length-drop}
use borrow.Author.Tests.{le-leb, leb-true, eq-eqb, eqb-true}
use Rattle.values.proofs.Apart.{then_was}
use Rattle.octets.specs.Octets.{big_endian}
use Rattle.octets.specs.Verdict.{accept}
use Rattle.octets.proofs.Laws.{require_on, then_accept, require_was}
use Rattle.layout.specs.Layout.{held}
use Rattle.frame_encoder.specs.Frames.{Settings}
use Rattle.frame_encoder.proofs.Laws.{settings_within}
use Rattle.connection_state.specs.States.{State, with_number}
use Rattle.connection_model.specs.Connection.{Role}
use Rattle.channels.specs.Places.{covers}
use Rattle.channels.specs.Channels.{counts, counts_ok, agreed_says}
use Rattle.channels.specs.declared.OutgoingChannels.{OutgoingChannels}
use Rattle.local_open.specs.Settings.{allowed, checked}
use Rattle.endpoint.specs.Promises.{limits_ok}
use Rattle.engine_model.specs.Engine.{Phase}
use Rattle.engine_model.specs.Phases.{goes_with}
use Rattle.engine_bytes.specs.Bytes.{Fixed, at, version, id_at, tables_at, fixed_size, or_broken, role_with, phase_with, settings_at, numbers_at, rest_at, fixed_at}

-- ---- what the parts say

-- bytes that say a fixed part
pub record Says (s : List ℕ) (f : Fixed) : Type 0 where
  pub long : fixed_size ≤ length s
  pub named : at 0 4 s ≡ big_endian version
  pub role_said : role_with (at 4 1 s) ≡ Some f.role
  pub phase_said : phase_with (at 16 1 s) (at 17 1 s) ≡ Some f.phase
  pub state_said : with_number (at 18 1 s) ≡ Some f.state
  pub settings_said : settings_at s ≡ accept f.settings
  pub numbers_said : numbers_at s ≡ accept f.numbers
  pub reading_said : at 20 4 s ≡ f.reading_limit
  pub writing_said : at 24 4 s ≡ f.writing_limit
  pub limits_fine : limits_ok f.settings f.state f.reading_limit f.writing_limit (agreed_says f.numbers) ≡ true
  pub tables_cover : covers (suc f.settings.channel_max) (tables_at s) ≡ true
  pub phase_goes : goes_with f.phase f.state ≡ true

abbrev settings_of : Bool → List ℕ → Settings
settings_of idle s = record { container_id = id_at s; max_frame_size = at 8 4 s; channel_max = at 6 2 s; idle_time_out = held idle (at 12 4 s) }

or_some : {A : Type 0} (o : Option A) (a : A) → o ≡ Some a → or_broken o ≡ accept a
or_some o a e = ap or_broken e

or_was : {A : Type 0} (o : Option A) (a : A) → or_broken o ≡ accept a → o ≡ Some a
or_was None a e = let z : ◌≡◌ {A = ℕ} 0 1 = cc in absurd (omega arith)
or_was (Some b) a e = let z : b ≡ a = cc in ap Some z

pub says_fixed : (s : List ℕ) (f : Fixed) → Says s f → fixed_at s ≡ accept f
unfolding fixed_at rest_at
says_fixed s f p =
    require_on 8 _ _ (le-leb 300 (length s) p.long)
    ∙ require_on 8 _ _ (eq-eqb _ _ p.named)
    ∙ then_accept _ _ _ (or_some _ _ p.role_said)
    ∙ then_accept _ _ _ (or_some _ _ p.phase_said)
    ∙ then_accept _ _ _ (or_some _ _ p.state_said)
    ∙ then_accept _ _ _ p.settings_said
    ∙ then_accept _ _ _ p.numbers_said
    ∙ require_on 8 _ _ p.tables_cover
    ∙ require_on 8 _ _ (rw (p.reading_said, p.writing_said) p.limits_fine)
    ∙ require_on 8 _ _ p.phase_goes
    ∙ (λ i. accept (record { role = f.role; settings = f.settings; phase = f.phase; state = f.state; reading_limit = p.reading_said i; writing_limit = p.writing_said i; numbers = f.numbers }))

-- what was accepted, step by step
fixed_part : (s : List ℕ) (role : Role) (phase : Phase) (x : State) (S : Settings) (n : OutgoingChannels) (f : Fixed)
    → fixed_size ≤ length s → at 0 4 s ≡ big_endian version → role_with (at 4 1 s) ≡ Some role → phase_with (at 16 1 s) (at 17 1 s) ≡ Some phase
    → with_number (at 18 1 s) ≡ Some x → settings_at s ≡ accept S → numbers_at s ≡ accept n
    → limits_ok S x (at 20 4 s) (at 24 4 s) (agreed_says n) ≡ true → covers (suc S.channel_max) (tables_at s) ≡ true → goes_with phase x ≡ true
    → accept (record { role = role; settings = S; phase = phase; state = x; reading_limit = at 20 4 s; writing_limit = at 24 4 s; numbers = n }) ≡ accept f → Says s f
fixed_part s role phase x S n f long named r p q t u l c g e =
    let z : record { role = role; settings = S; phase = phase; state = x; reading_limit = at 20 4 s; writing_limit = at 24 4 s; numbers = n } ≡ f = cc in
    subst (Says s) z (record {
      long = long;
      named = named;
      role_said = r;
      phase_said = p;
      state_said = q;
      settings_said = t;
      numbers_said = u;
      reading_said = refl;
      writing_said = refl;
      limits_fine = l;
      tables_cover = c;
      phase_goes = g;
    })

pub fixed_says : (s : List ℕ) (f : Fixed) → fixed_at s ≡ accept f → Says s f
unfolding fixed_at rest_at
fixed_says s f e =
    let long = require_was 8 _ _ f e in
    let named = require_was 8 _ _ f long.1 in
    let role = then_was _ _ f named.1 in
    let phase = then_was _ _ f role.2 in
    let x = then_was _ _ f phase.2 in
    let S = then_was _ _ f x.2 in
    let n = then_was _ _ f S.2 in
    let cover = require_was 8 _ _ f n.2 in
    let limits = require_was 8 _ _ f cover.1 in
    let goes = require_was 8 _ _ f limits.1 in
    fixed_part s role.0 phase.0 x.0 S.0 n.0 f
    (leb-true 300 (length s) long.0) (eqb-true _ _ named.0) (or_was _ _ role.1) (or_was _ _ phase.1) (or_was _ _ x.1) S.1 n.1
    limits.0 cover.0 goes.0 goes.1

-- ---- the container-id

checked_was : (S T : Settings) → checked S ≡ accept T → (allowed S ≡ true) × (S ≡ T)
checked_was S T e =
    let w = require_was 8 (allowed S) (λ _. accept S) T e in
    let z : S ≡ T = cc in
    (w.0, z)

module _ (s : List ℕ) (f : Fixed) (p : Says s f) where
  settings_are : (idle : Bool) × (allowed (settings_of idle s) ≡ true) × (settings_of idle s ≡ f.settings)
  unfolding settings_at
  settings_are =
      let w = then_was _ _ f.settings p.settings_said in
      let c = checked_was _ f.settings w.2 in
      (w.0, c.0, c.1)

  pub said_allowed : allowed f.settings ≡ true
  said_allowed = ap allowed (sym settings_are.2) ∙ settings_are.1

  pub id_low : at 42 2 s ≤ 255
  id_low =
      let w : length (id_at s) ≤ 255 = (settings_within _ _ _ settings_are.1).id_short in
      omega (arith, length-take (at 42 2 s) (drop 44 s), length-drop 44 s, p.long)

  pub said_counts : counts_ok f.numbers ≡ true
  unfolding numbers_at
  said_counts =
      let w = then_was _ _ f.numbers p.numbers_said in
      let c = require_was 8 _ _ f.numbers w.2 in
      let z : counts w.0 (at 40 2 s) (at 28 4 s) (at 32 4 s) (at 36 4 s) ≡ f.numbers = cc in
      ap counts_ok (sym z) ∙ c.0
