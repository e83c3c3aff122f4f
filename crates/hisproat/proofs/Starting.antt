-- A new engine: what it is started with, and how it is laid.
-- Assumes nothing.
use mathlib.Core.Path.{◌≡◌, refl, sym, ◌∙◌, ap, ap₂, subst}
use mathlib.Core.Bool.{Bool, true, false, ◌&&◌}
use mathlib.Core.List.{List, ◌++◌}
use Rattle.std.specs.Prelude.{Option, Result, Ok, Err}
use Prim.Native.Nat.{ℕ, suc, ◌+◌, ◌-◌, ◌*◌, ◌^◌, ◌≤◌, ◌<◌}
use native.Mathlib.Omega.{arith}
use lib.Dec.{leb}
use lib.ListN.{length, take, drop, length-drop, length-take, take-append-drop}
use lib.Seq.{drop-drop}
use borrow.Author.Tests.{le-leb, lt-leb, leb-true, leb-false}
use Rattle.octets.specs.Octets.{big_endian, put}
use Rattle.octets.specs.Verdict.{refuse, accept, require}
use Rattle.octets.specs.Refusal.{number_of}
use Rattle.octets.specs.declared.Refusal.{Refusal}
use Rattle.octets.proofs.Laws.{require_on, require_off, length_put}
use Rattle.layout.specs.Layout.{held}
use Rattle.frame_encoder.specs.Frames.{Settings}
use Rattle.frame_encoder.proofs.Laws.{Within, settings_within}
use Rattle.channels.specs.Places.{covers}
use Rattle.channels.specs.Lists.{Listed}
use Rattle.local_open.specs.Settings.{allowed}
use Rattle.connection_model.specs.Connection.{Role}
use Rattle.connection_model.specs.Sound.{Reached}
use Rattle.engine_model.specs.Engine.{Engine, fresh}
use Rattle.engine_model.specs.Phases.{goes_with}
use Rattle.engine_model.proofs.Laws.{clash}
use Rattle.connection.specs.Promises as C
use Rattle.connection.specs.View as View
use Rattle.endpoint.proofs.Limits.{reached_limits}
use Rattle.engine.specs.declared.ConnectionEngine.{ConnectionEngine}
use Rattle.engine.specs.Answers.{whole, settings_of, view_of, phase_says, Sound}
use Rattle.engine.specs.Promises.{new_in}
use Rattle.engine.specs.Promises as E
use Rattle.engine.proofs.Output.{rest_is}
use Rattle.engine_bytes.specs.Bytes.{Fixed, at, fixed_size, fixed_at, state_size, tables_at, fixed_bytes, idle_number, StandFor, engine_in}
use Rattle.engine_bytes.specs.Promises.{fixed_in}
use Rattle.engine_bytes.proofs.Fixed.{says_fixed}
use Rattle.engine_bytes.proofs.Laid.{Roomy, tables_are, with_long}
use Rattle.engine_bytes.proofs.Reading.{number_is}
use Rattle.engine_bytes.proofs.New.{SettingsRoomy, says_new, tables_new}
use Rattle.engine_bytes.proofs.Standing.{sound_roomy}
use Rattle.hisproat.specs.Crossing.{Makes}
use Rattle.hisproat.specs.Promises.{Starts, IsId}
use Rattle.hisproat.proofs.Crossings.{lent_tables, given_back_lem, given_is}

-- ---- the container-id of a state

module _ (s r : List ℕ) (n : ℕ) (long : 300 ≤ length s) (read : (n ≡ big_endian (take 8 (take 2 (drop 42 s)))) × (n < 2 ^ (8 * length (take 8 (take 2 (drop 42 s)))))) where
  length_is : n ≡ at 42 2 s
  length_is = number_is s 42 2 n (omega arith) (omega arith) read

  pub id_over : 255 < n → IsId s r
  id_over h = record { is_id = λ low. let z : at 42 2 s ≡ n = sym length_is in absurd (omega (arith, length-take (at 42 2 s) (drop 44 s), length-drop 44 s)) }

  pub id_within : n ≤ 255 → r ≡ take (44 + n - 44) (drop 44 s) → IsId s r
  id_within h e = record { is_id = λ low. let k : 44 + n - 44 ≡ n = omega arith in e ∙ ap (λ (j : ℕ). take j (drop 44 s)) (k ∙ length_is) }

-- ---- laid or refused

not_both : {A : Type 0} (e : ConnectionEngine) (n : Refusal) → ◌≡◌ {A = Result ConnectionEngine Refusal} (Ok e) (Err n) → A
not_both e n q = let z : ◌≡◌ {A = ℕ} 0 1 = cc in absurd (omega arith)

module _ (new : Result ConnectionEngine Refusal) (id s s' : List ℕ) where
  pub starts_made : (e : ConnectionEngine) → new ≡ Ok e → s' ≡ put s 0 (fixed_bytes (fixed_in e id)) → Starts new id s 0 s'
  starts_made e q p = record {
    starts = λ f r. let z : e ≡ f = cc in (refl, p ∙ ap (λ x. put s 0 (fixed_bytes (fixed_in x id))) z);
    starts_not = λ n r. not_both e n (sym q ∙ r);
  }

  pub starts_refused : (k : Refusal) → new ≡ Err k → Starts new id s (number_of k) s
  starts_refused k q = record {
    starts = λ e r. not_both e k (sym r ∙ q);
    starts_not = λ n r. let z : k ≡ n = cc in (ap number_of z, refl);
  }

-- ---- a state that is too short for any

pub makes_short : (role : Role) (S : Settings) (s : List ℕ) → length s < 300 → Makes role S s (record { returned = 8; state = s })
makes_short role S s h = record {
  broken = λ q. refl;
  makes = λ q. clash (sym q ∙ ap (λ b. allowed S && b) (lt-leb (state_size S.channel_max) (length s) (omega arith)) ∙ none_with (allowed S));
  long = refl;
  rest = refl;
}
  where
    none_with : (b : Bool) → b && false ≡ false
    none_with true = refl
    none_with false = refl

-- ---- one that has room

module _ (role : Role) (S : Settings) (s : List ℕ) (long : 300 ≤ length s) (idle_low : idle_number S.idle_time_out < 256 ^ 4) (new : Result ConnectionEngine Refusal) (t : List ℕ) (m : E.Makes role S (lent_tables s) new t)
    (k : ℕ) (s' : List ℕ) (starts : Starts new S.container_id (given_back_lem s t) k s') where
  abbrev id : List ℕ
  id = S.container_id

  abbrev given : List ℕ
  given = take fixed_size s ++ t

  abbrev n : ℕ
  n = suc S.channel_max

  lent_is : lent_tables s ≡ tables_at s
  lent_is = rest_is s 300

  same_long : length t ≡ length (tables_at s)
  same_long = m.made.made_long ∙ ap length lent_is

  given_long : length given ≡ length s
  given_long = with_long s t long same_long

  same_cover : covers n (lent_tables s) ≡ leb (state_size S.channel_max) (length s)
  unfolding covers
  same_cover = by (leb (state_size S.channel_max) (length s)) refl
    where
      by : (b : Bool) → leb (state_size S.channel_max) (length s) ≡ b → leb (28 * n) (length (lent_tables s)) ≡ leb (state_size S.channel_max) (length s)
      by true q = le-leb (28 * n) (length (lent_tables s)) (omega (arith, ap length lent_is, length-drop 300 s, leb-true (state_size S.channel_max) (length s) q)) ∙ sym q
      by false q = lt-leb (28 * n) (length (lent_tables s)) (omega (arith, ap length lent_is, length-drop 300 s, leb-false (state_size S.channel_max) (length s) q, long)) ∙ sym q

  checks : C.made_says (new_in new) ≡ require 8 (allowed S && leb (state_size S.channel_max) (length s)) (λ _. accept tt)
  checks = m.made.checks ∙ ap (λ b. require 8 (allowed S && b) (λ _. accept tt)) same_cover

  -- the engine that was made
  made_one : (r : Result ConnectionEngine Refusal) → C.made_says (new_in r) ≡ accept tt → (e : ConnectionEngine) × (r ≡ Ok e)
  made_one (Ok e) q = (e, refl)
  made_one (Err j) q = let z : ◌≡◌ {A = ℕ} 0 1 = cc in absurd (omega arith)

  -- or the refusal
  made_none : (r : Result ConnectionEngine Refusal) → C.made_says (new_in r) ≡ refuse 8 → (j : Refusal) × ((r ≡ Err j) × (number_of j ≡ 8))
  made_none (Ok e) q = let z : ◌≡◌ {A = ℕ} 0 1 = cc in absurd (omega arith)
  made_none (Err j) q = let z : number_of j ≡ 8 = cc in (j, (refl, z))

  unchanged : (j : Refusal) → new ≡ Err j → s' ≡ s
  unchanged j q = (starts.starts_not j q).1 ∙ given_is s t ∙ ap (λ x. take 300 s ++ x) (m.made.refused j (ap new_in q) ∙ lent_is) ∙ take-append-drop 300 s

  module _ (e : ConnectionEngine) (is : new ≡ Ok e) where
    begun : C.Begun role S (View.whole e.connection t id)
    begun = m.made.made e.connection (ap new_in is)

    abbrev f : Fixed
    f = fixed_in e id

    z : Sound (whole e t id)
    z = begun.begun_sound

    roomy : Roomy f
    roomy = sound_roomy e t id z

    within : Within id e.connection.endpoint.local_open.max_frame_size e.connection.endpoint.local_open.channel_max
    within = settings_within _ _ _ z.fine

    settings_roomy : SettingsRoomy f.settings
    settings_roomy = record {
      highest_low = omega (arith, within.channel_high);
      size_low = omega (arith, within.size_high);
      idle_low = subst (λ (x : Settings). idle_number x.idle_time_out < 256 ^ 4) (sym begun.begun_settings) idle_low;
      id_short = within.id_short;
    }

    laid : s' ≡ put given 0 (fixed_bytes f)
    laid = (starts.starts e is).1 ∙ ap (λ x. put x 0 (fixed_bytes f)) (given_is s t)

    given_room : fixed_size ≤ length given
    given_room = omega (arith, given_long)

    covered : covers (suc f.settings.channel_max) (tables_at given) ≡ true
    unfolding covers
    covered = ap (λ l. leb (28 * suc f.settings.channel_max) (length l)) (tables_are s t long same_long) ∙ le-leb _ _ z.held.listed.covered

    tables_made : tables_at s' ≡ t
    tables_made = ap tables_at laid ∙ tables_new f roomy settings_roomy given given_room ∙ tables_are s t long same_long

    stands : StandFor s' role S fresh
    stands =
        let v : view_of (whole e t id) ≡ fresh = (λ i. record { phase = phase_says (m.runs e is i); connection = begun.begun_fresh i }) in
        let p : fixed_at s' ≡ accept f =
        ap fixed_at laid ∙ says_fixed _ f (says_new f roomy settings_roomy given given_room z.fine z.held.numbers.within
        (reached_limits (settings_of (whole e t id)) (view_of (whole e t id)).connection z.reached) covered
        (ap (λ x. goes_with x.phase x.connection.state) v)) in
        record {
          fixed = f;
          reads = p;
          role_is = begun.begun_role;
          settings_is = begun.begun_settings;
          engine_is = ap (engine_in f) tables_made ∙ v;
          listed = subst (Listed (suc f.settings.channel_max)) (sym tables_made) z.held.listed;
          reached = subst (λ (w : Settings × Engine). Reached w.0 w.1.connection) (λ i. (begun.begun_settings i, v i)) z.reached;
        }

    rest_made : drop (state_size S.channel_max) s' ≡ drop (state_size S.channel_max) s
    rest_made =
        ap (drop (state_size S.channel_max)) laid
        ∙ sym (drop-drop (28 * n) fixed_size (put given 0 (fixed_bytes f)))
        ∙ ap (drop (28 * n)) (tables_new f roomy settings_roomy given given_room ∙ tables_are s t long same_long)
        ∙ m.made.made_past
        ∙ ap (drop (28 * n)) lent_is
        ∙ drop-drop (28 * n) fixed_size s

    long_made : length s' ≡ length s
    long_made = ap length laid ∙ length_put given 0 (fixed_bytes f) ∙ given_long

  long_as : (r : Result ConnectionEngine Refusal) → new ≡ r → length s' ≡ length s
  long_as (Ok e) q = long_made e q
  long_as (Err j) q = ap length (unchanged j q)

  rest_as : (r : Result ConnectionEngine Refusal) → new ≡ r → drop (state_size S.channel_max) s' ≡ drop (state_size S.channel_max) s
  rest_as (Ok e) q = rest_made e q
  rest_as (Err j) q = ap (drop (state_size S.channel_max)) (unchanged j q)

  made_so : Makes role S s (record { returned = k; state = s' })
  made_so = record {
    broken = λ q.
        let r = made_none new (checks ∙ require_off 8 _ _ q) in
        ap₂ (λ j x. record { returned = j; state = x }) ((starts.starts_not r.0 r.1.0).0 ∙ r.1.1) (unchanged r.0 r.1.0);
    makes = λ q.
        let o = made_one new (checks ∙ require_on 8 _ _ q) in
        ((starts.starts o.0 o.1).0, stands o.0 o.1);
    long = long_as new refl;
    rest = rest_as new refl;
  }

held_low : (b : Bool) (n : ℕ) → n < 4294967296 → idle_number (held b n) < 256 ^ 4
held_low true n h = omega arith
held_low false n h = omega arith

-- with the settings as they are handed over
pub makes :
    (role : Role) (id : List ℕ) (size highest : ℕ) (there : Bool) (millis : ℕ) (s : List ℕ) → 300 ≤ length s → millis < 4294967296 → (idle : Option ℕ) → idle ≡ held there millis → (new : Result ConnectionEngine Refusal) (t : List ℕ)
    → E.Makes role (record { container_id = id; max_frame_size = size; channel_max = highest; idle_time_out = idle }) (lent_tables s) new t → (k : ℕ) (s' : List ℕ) → Starts new id (given_back_lem s t) k s'
    → Makes role (record { container_id = id; max_frame_size = size; channel_max = highest; idle_time_out = held there millis }) s (record { returned = k; state = s' })
makes role id size highest there millis s long low idle e new t m k s' starts =
    made_so role (record { container_id = id; max_frame_size = size; channel_max = highest; idle_time_out = held there millis }) s long (held_low there millis low) new t
    (subst (λ x. E.Makes role (record { container_id = id; max_frame_size = size; channel_max = highest; idle_time_out = x }) (lent_tables s) new t) e m) k s' starts
