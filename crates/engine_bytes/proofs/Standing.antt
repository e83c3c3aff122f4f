-- The bytes of a state and the engine that was read from them: what the one stands for, and how its soundness and what calls lead to go over to the other.
-- Assumes nothing.
use mathlib.Core.Path.{◌≡◌, refl, sym, ◌∙◌, ap, subst}
use mathlib.Core.Bool.{Bool, true, false}
use mathlib.Core.List.{List, [], ◌++◌}
use Rattle.std.specs.Prelude.{Option, None, Some}
use Prim.Native.Nat.{ℕ, suc, ◌≤◌}
use native.Mathlib.Omega.{arith}
use lib.ListN.{length, take}
use Rattle.octets.specs.Octets.{put}
use Rattle.octets.specs.Verdict.{Verdict, accept}
use Rattle.frame_encoder.specs.Frames.{Settings}
use Rattle.frame_encoder.proofs.Laws.{Within, settings_within}
use Rattle.connection_state.specs.Answers.{state_says}
use Rattle.connection_model.specs.Connection.{Role}
use Rattle.connection_model.specs.Sound.{Reached}
use Rattle.channels.specs.Channels.{agreed_says}
use Rattle.channels.specs.Lists.{Listed}
use Rattle.channels.specs.declared.OutgoingChannels.{OutgoingChannels}
use Rattle.channels.proofs.Limits.{opened_limits, opened_head, closed_limits, used_low}
use Rattle.endpoint.specs.Answers.{places_of}
use Rattle.endpoint.specs.Promises as E
use Rattle.endpoint.proofs.Limits.{limits_counted, reached_limits}
use Rattle.connection.specs.View as C
use Rattle.connection.proofs.Making.{counted_sound}
use Rattle.engine_model.specs.Engine.{Engine}
use Rattle.engine_model.specs.Phases.{goes_with}
use Rattle.engine.specs.declared.ConnectionEngine.{ConnectionEngine}
use Rattle.engine.specs.Answers.{Whole, whole, connection_in, role_of, settings_of, view_of, phase_says, Sound}
use Rattle.engine_bytes.specs.Bytes.{Fixed, id_at, tables_at, fixed_size, fixed_at, engine_in, moving_bytes, StandFor}
use Rattle.engine_bytes.specs.Promises.{fixed_in}
use Rattle.engine_bytes.proofs.Fixed.{Says, says_fixed, fixed_says, said_allowed, said_counts}
use Rattle.engine_bytes.proofs.Laid.{Roomy, says_moved, says_tables, tables_are, tables_same}

-- ---- an engine that was read

module _ (s : List ℕ) (e : ConnectionEngine) (read : fixed_at s ≡ accept (fixed_in e (id_at s))) where
  abbrev pub read_whole_lem : Whole
  read_whole_lem = whole e (tables_at s) (id_at s)

  pub said : Says s (fixed_in e (id_at s))
  said = fixed_says s (fixed_in e (id_at s)) read

  pub read_counted : E.Counted e.connection.endpoint
  read_counted = limits_counted e.connection.endpoint (id_at s) (state_says e.connection.local_state) (said_counts s _ said) said.limits_fine

  read_sound : Listed (places_of e.connection.endpoint) (tables_at s) → Reached (settings_of read_whole_lem) (view_of read_whole_lem).connection → Sound read_whole_lem
  read_sound l r = counted_sound (connection_in read_whole_lem) (said_allowed s _ said) l read_counted r

  -- bytes stand for one engine at most: the one that is read from them
  pub stand_only : (role : Role) (S : Settings) (x : Engine) → StandFor s role S x → (role_of read_whole_lem ≡ role) × (settings_of read_whole_lem ≡ S) × (view_of read_whole_lem ≡ x) × Sound read_whole_lem
  stand_only role S x z =
      let same : z.fixed ≡ fixed_in e (id_at s) = inside (sym z.reads ∙ read) in
      let a : role_of read_whole_lem ≡ role = ap (λ f. f.role) (sym same) ∙ z.role_is in
      let b : settings_of read_whole_lem ≡ S = ap (λ f. f.settings) (sym same) ∙ z.settings_is in
      let c : view_of read_whole_lem ≡ x = ap (λ f. engine_in f (tables_at s)) (sym same) ∙ z.engine_is in
      (a, b, c, read_sound (subst (λ f. Listed (suc f.settings.channel_max) (tables_at s)) same z.listed) (subst (λ T. Reached T (view_of read_whole_lem).connection) (sym b) (subst (λ y. Reached S y.connection) (sym c) z.reached)))
    where
      inside : {f g : Fixed} → ◌≡◌ {A = Verdict Fixed} (accept f) (accept g) → f ≡ g
      inside q = cc

-- ---- numbers of a sound engine have room where they stand

module _ (e : ConnectionEngine) (t id : List ℕ) (z : Sound (whole e t id)) where
  abbrev n : OutgoingChannels
  n = e.connection.endpoint.outgoing

  within : Within id e.connection.endpoint.local_open.max_frame_size e.connection.endpoint.local_open.channel_max
  within = settings_within _ _ _ z.fine

  highest_within : n.highest ≤ 65535
  highest_within = omega (arith, within.channel_high, z.held.most)

  limits_low : (o : Option ℕ) → agreed_says n ≡ o → (e.connection.endpoint.reading_limit ≤ 16384) × (e.connection.endpoint.writing_limit ≤ 16384)
  limits_low None q =
      let f = (z.reached.unopened q).at_first in
      (omega (arith, ap (λ c. c.reading_limit) f), omega (arith, ap (λ c. c.writing_limit) f))
  limits_low (Some m) q =
      let a = z.reached.agreed m q in
      (omega (arith, a.reading_own, within.size_high), a.writing_high)

  head_within : (b : Bool) → n.opened ≡ b → n.head ≤ 65535
  head_within true o = omega (arith, opened_head n (opened_limits n o z.held.numbers.within), highest_within)
  head_within false o = omega (arith, (closed_limits n o z.held.numbers.within).no_head)

  freed_within : (b : Bool) → n.opened ≡ b → n.freed ≤ 65536
  freed_within true o = omega (arith, (opened_limits n o z.held.numbers.within).low_freed, used_low n z.held.numbers.within, highest_within)
  freed_within false o = omega (arith, (closed_limits n o z.held.numbers.within).no_freed)

  pub sound_roomy : Roomy (fixed_in e id)
  sound_roomy = record {
    reading_low = omega (arith, (limits_low _ refl).0);
    writing_low = omega (arith, (limits_low _ refl).1);
    used_low = omega (arith, used_low n z.held.numbers.within, highest_within);
    head_low = omega (arith, head_within _ refl);
    freed_low = omega (arith, freed_within _ refl);
    highest_low = omega (arith, highest_within);
  }

-- ---- after an event

-- what calls can change says nothing of the container-id
moving_any : (e : ConnectionEngine) (id : List ℕ) → moving_bytes (fixed_in e []) ≡ moving_bytes (fixed_in e id)
unfolding moving_bytes
moving_any e id = refl

module _ (s : List ℕ) (e : ConnectionEngine) (read : fixed_at s ≡ accept (fixed_in e (id_at s))) (later : ConnectionEngine) (t : List ℕ)
    (same : E.Same (C.endpoint_in (connection_in (whole e (tables_at s) (id_at s)))) (C.endpoint_in (connection_in (whole later t (id_at s))))) where
  abbrev given : List ℕ
  given = take fixed_size s ++ t

  long : fixed_size ≤ length s
  long = (said s e read).long

  given_says : Says given (fixed_in e (id_at s))
  given_says = says_tables s t long same.same_long (fixed_in e (id_at s)) (said s e read)

  -- the state once what the event changed is laid
  abbrev pub laid_state : List ℕ
  laid_state = put given 16 (moving_bytes (fixed_in later []))

  module _ (z : Sound (whole later t (id_at s))) (goes : goes_with (phase_says later.phase) (state_says later.connection.local_state) ≡ true) where
    roomy : Roomy (fixed_in later (id_at s))
    roomy = sound_roomy later t (id_at s) z

    long_given : fixed_size ≤ length given
    long_given = given_says.long

    laid_says : Says (put given 16 (moving_bytes (fixed_in later (id_at s)))) (fixed_in later (id_at s))
    laid_says =
        says_moved (fixed_in later (id_at s)) roomy given long_given (fixed_in e (id_at s)) given_says same.same_role same.same_settings
        z.held.numbers.within (reached_limits (settings_of (whole later t (id_at s))) (view_of (whole later t (id_at s))).connection z.reached) goes

    tables_later : tables_at (put given 16 (moving_bytes (fixed_in later (id_at s)))) ≡ t
    tables_later = tables_same (fixed_in later (id_at s)) roomy given long_given ∙ tables_are s t long same.same_long

    pub laid_stands : StandFor laid_state (role_of (whole e (tables_at s) (id_at s))) (settings_of (whole e (tables_at s) (id_at s))) (view_of (whole later t (id_at s)))
    laid_stands = subst
        (λ m. StandFor (put given 16 m) (role_of (whole e (tables_at s) (id_at s))) (settings_of (whole e (tables_at s) (id_at s))) (view_of (whole later t (id_at s))))
        (sym (moving_any later (id_at s))) (record {
          fixed = fixed_in later (id_at s);
          reads = says_fixed _ _ laid_says;
          role_is = same.same_role;
          settings_is = same.same_settings;
          engine_is = ap (engine_in (fixed_in later (id_at s))) tables_later;
          listed = subst (Listed (places_of later.connection.endpoint)) (sym tables_later) z.held.listed;
          reached = subst (λ S. Reached S (view_of (whole later t (id_at s))).connection) same.same_settings z.reached;
        })
