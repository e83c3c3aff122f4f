-- Which numbers a rule refuses with; and those of a frame that came.
-- Assumes nothing.
use mathlib.Core.Path.{◌≡◌, refl, subst}
use mathlib.Core.Bool.{Bool, true, false, cond, not, ◌&&◌, ◌||◌}
use mathlib.Core.List.{List, [], ◌∷◌}
use Rattle.std.specs.Prelude.{Option, None, Some}
use Prim.Native.Nat.{ℕ, ◌<◌}
use native.Mathlib.Omega.{arith}
use lib.Dec.{T, ltb, eqb, lt→ltb}
use Rattle.octets.specs.Verdict.{Verdict, refuse, accept, require, and_then}
use Rattle.performatives.specs.Performative.{Performative, performative, remote_channel}
use Rattle.performatives.proofs.Laws.{performative_six}
use Rattle.frame_decoder.specs.Frame.{Frame, frame, body_in, content, read_frame}
use Rattle.frame_encoder.specs.Frames.{Settings}
use Rattle.connection_state.specs.States.{State, Discarding, is, is_one_of, along, reading, read_open, read_close}
use Rattle.connection_state.proofs.States.{everywhere}
use Rattle.channels.specs.Ties.{Tie}
use Rattle.connection_model.specs.Connection.{Role, dialler, listener, Connection, receive_frame, tie_to, untie, pass_on, new_session, begun, session_read, performative_read, frame_read, decide}

-- a verdict accepts, or refuses with a number that passes
pub data Refuses (P : ℕ → Type 0) {A : Type 0} : Verdict A → Type 0 where
  takes : {a : A} → Refuses P (accept a)
  turns : {k : ℕ} → P k → Refuses P (refuse k)

module _ (P : ℕ → Type 0) {A : Type 0} where
  pub on_require : (k : ℕ) (b : Bool) (rest : Unit {0} → Verdict A) → P k → (T b → Refuses P (rest tt)) → Refuses P (require k b rest)
  unfolding require
  on_require k true rest p h = h tt
  on_require k false rest p h = turns p

  pub on_then : {B : Type 0} {v : Verdict B} (f : B → Verdict A) → Refuses P v → ((b : B) → Refuses P (f b)) → Refuses P (and_then v f)
  unfolding and_then
  on_then f takes g = g _
  on_then f (turns p) g = turns p

  pub on_cond : (b : Bool) {v w : Verdict A} → Refuses P v → (T (not b) → Refuses P w) → Refuses P (cond b v w)
  on_cond true h g = h
  on_cond false h g = g tt

  pub turned : {k : ℕ} → Refuses P {A = A} (refuse k) → P k
  turned (turns p) = p

pub refused_with_lem : {P : ℕ → Type 0} {A : Type 0} {v : Verdict A} {k : ℕ} → Refuses P v → v ≡ refuse k → P k
refused_with_lem {P} {A} {v} {k} h e = turned P (subst (Refuses P) e h)

pub by_number : {A : Type 0} {P : ℕ → Type 0} (v : Verdict A) → ((k : ℕ) → v ≡ refuse k → P k) → Refuses P v
by_number (refuse k) f = turns (f k refl)
by_number (accept a) f = takes

-- a number that passes one test passes another
pub refuses_as : {A : Type 0} {P Q : ℕ → Type 0} {v : Verdict A} → ((k : ℕ) → P k → Q k) → Refuses P v → Refuses Q v
refuses_as f takes = takes
refuses_as f (turns {k} p) = turns (f k p)

-- ---- the input's refusals are below 20

abbrev pub Low : ℕ → Type 0
Low k = k < 20

pub performative_low : (s : List ℕ) → Refuses Low (performative s)
performative_low s = by_number (performative s) (λ k e. let x : k ≡ 6 = performative_six s k e in omega arith)

pub frame_low : (limit highest : ℕ) (s : List ℕ) → Refuses Low (frame limit highest s)
unfolding frame
frame_low limit highest s =
    on_require _ _ _ _ (omega arith) (λ t1. on_require _ _ _ _ (omega arith) (λ t2. on_require _ _ _ _ (omega arith) (λ t3. on_require _ _ _ _ (omega arith) (λ t4.
    on_require _ _ _ _ (omega arith) (λ t5. on_require _ _ _ _ (omega arith) (λ t6. takes))))))

content_low : (s : List ℕ) → Refuses Low (content s)
unfolding content
content_low [] = takes
content_low (b ∷ s) = on_then _ _ (performative_low (b ∷ s)) (λ p. takes)

read_low : (limit highest : ℕ) (s : List ℕ) → Refuses Low (read_frame limit highest s)
unfolding read_frame
read_low limit highest s = on_then _ _ (frame_low limit highest s) (λ f. on_then _ _ (content_low (body_in f s)) (λ p. takes))

-- ---- those of the state, of a frame that was read

-- 20, but not while discarding; 24 and 25 only where sessions' frames are read
abbrev pub unread : State → ℕ → Bool
unread x k = cond (eqb k 20) (not (is Discarding x)) ((eqb k 24 || eqb k 25) && is_one_of reading x)

-- a test that passes where a verdict accepts, and at the number that it refuses with
abbrev pub refused_by : {A : Type 0} → (ℕ → Bool) → Verdict A → Bool
refused_by f (refuse k) = f k
refused_by f (accept a) = true

pub by_test : {A : Type 0} (f : ℕ → Bool) (v : Verdict A) → T (refused_by f v) → Refuses (λ k. T (f k)) v
by_test f (refuse k) t = turns t
by_test f (accept a) t = takes

pub unless : (b d : Bool) → T (not b) → T (cond b true d) → T d
unless true d n t = absurd n
unless false d n t = t

module _ (role : Role) (S : Settings) (c : Connection) where
  abbrev pub Late : ℕ → Type 0
  Late k = T (unread c.state k)

  -- where sessions' frames are read
  module _ (f : Frame) (t : T (is_one_of reading c.state)) where
    late_tie : (r : ℕ) (o : Option ℕ) → Refuses Late (tie_to f r o)
    late_tie r None = turns t
    late_tie r (Some h) = takes

    late_untie : (o : Option Tie) → Refuses Late (untie f o)
    late_untie None = turns t
    late_untie (Some u) = takes

    late_pass : (code : ℕ) (o : Option Tie) → Refuses Late (pass_on f code o)
    late_pass code None = turns t
    late_pass code (Some u) = takes

    late_new : (ρ : Role) (h : ℕ) (l : Option (List ℕ)) → Refuses Late (new_session ρ f h l)
    late_new dialler h l = turns t
    late_new listener h None = turns t
    late_new listener h (Some []) = turns t
    late_new listener h (Some (ch ∷ rest)) = takes

    late_begun : (h : ℕ) (rs : List ℕ) → Refuses Late (begun role c f h rs)
    late_begun h [] = late_new role h c.hand_out
    late_begun h (r ∷ rs) = late_tie r (c.taken r)

  late_session : (f : Frame) (h code : ℕ) (rs : List ℕ) → T (not (is Discarding c.state)) → Refuses Late (session_read role c f h code rs)
  late_session f h code rs n =
      on_require _ _ _ _ n (λ t.
      on_cond _ (eqb code 17) (late_begun f t h rs) (λ u. on_cond _ (eqb code 23) (late_untie f t (c.ties f.channel)) (λ v. late_pass f t code (c.ties f.channel))))

  late_performative : (f : Frame) (h : ℕ) (p : Performative) → Refuses Late (performative_read role S c f h p)
  late_performative f h p =
      on_cond _ (eqb p.code 24)
      (on_then _ _ (by_test (unread c.state) (along read_close c.state) (everywhere (λ y. refused_by (unread y) (along read_close y)) tt tt c.state)) (λ x. takes))
      (λ t. on_cond _ (is Discarding c.state) takes
      (λ n. on_cond _ (eqb p.code 16)
      (on_then _ _ (by_test (unread c.state) (along read_open c.state)
      (unless (is Discarding c.state) _ n (everywhere (λ y. cond (is Discarding y) true (refused_by (unread y) (along read_open y))) tt tt c.state))) (λ x. takes))
      (λ u. late_session f h p.code (remote_channel p) n)))

  pub late_frame : (h : ℕ) (r : Frame × Option Performative) → Refuses Late (frame_read role S c h r)
  late_frame h (f, None) = takes
  late_frame h (f, Some p) = late_performative f h p

  low_or : (k : ℕ) (b : Bool) → k < 20 → T (ltb k 20 || b)
  low_or k b l = by (ltb k 20) (lt→ltb k 20 l)
    where
      by : (d : Bool) → T d → T (d || b)
      by true t = tt
      by false t = absurd t

  late_or : (d b : Bool) → T b → T (d || b)
  late_or true b t = tt
  late_or false b t = t

  -- the input's, or the state's
  pub read_refusals : (s : List ℕ) (h : ℕ) → Refuses (λ k. T (ltb k 20 || unread c.state k)) (decide role S c (receive_frame s h))
  read_refusals s h =
      on_then _ _ (refuses_as (λ k l. low_or k _ l) (read_low c.reading_limit S.channel_max s)) (λ r. refuses_as (λ k t. late_or (ltb k 20) _ t) (late_frame h r))
