-- Session frames that go out one after the other, and then a Close.
-- Assumes nothing.
use mathlib.Core.Path.{◌≡◌, refl, sym, ◌∙◌, ap}
use mathlib.Core.List.{List, [], ◌∷◌}
use Rattle.std.specs.Prelude.{Option}
use Prim.Native.Nat.{ℕ}
use native.Mathlib.Omega.{arith}
use Rattle.octets.specs.Verdict.{Verdict, refuse, accept}
use Rattle.frame_encoder.specs.Frames.{Settings, ErrorText}
use Rattle.connection_model.specs.Connection as K
use Rattle.connection_model.specs.Connection.{Role, Answer, send_close_to, send_session_frame, decide, apply}
use Rattle.engine_model.specs.Engine as M
use Rattle.engine_model.specs.Engine.{sending}
use Rattle.engine.specs.Sending.{sends_of}
use Rattle.engine.proofs.Draining.{wrote_wrote}

never : (k : ℕ) (a : Answer) → ◌≡◌ {A = Verdict Answer} (refuse k) (accept a) → ⊥
never k a e = let z : ◌≡◌ {A = ℕ} 0 1 = cc in omega arith

taken : (a b : Answer) → ◌≡◌ {A = Verdict Answer} (accept a) (accept b) → a ≡ b
taken a b e = cc

module _ (role : Role) (S : Settings) (error : Option ErrorText) (out : List ℕ) where
  abbrev pub frames : Answer → K.Connection → List (List ℕ) → M.Trail
  frames a c fs = M.trail role S a c (sends_of fs out)

  abbrev pub then_close : Answer → K.Connection → M.Trail
  then_close a c = M.trail role S a c (send_close_to error out ∷ [])

  -- a frame that is refused is the last
  pub ends_refused : (fs : List (List ℕ)) (a : Answer) (c : K.Connection) (k : ℕ) → (frames a c fs).last ≡ refuse k → M.trail role S a c (sending fs error out) ≡ frames a c fs
  ends_refused [] a c k q = absurd (never k a (sym q))
  ends_refused (f ∷ fs) a c k q = go (λ x d. ends_refused fs x d k) (decide role S c (send_session_frame f out)) q
    where
      go :
          ((x : Answer) (d : K.Connection) → (frames x d fs).last ≡ refuse k → M.trail role S x d (sending fs error out) ≡ frames x d fs)
          → (v : Verdict K.Outcome) → (M.further S c (λ a c'. frames a c' fs) v).last ≡ refuse k → M.further S c (λ a c'. M.trail role S a c' (sending fs error out)) v ≡ M.further S c (λ a c'. frames a c' fs) v
      go ih (refuse j) r = refl
      go ih (accept o) r = ap (M.wrote_before o.bytes) (ih o.answer (apply S o.effect c) r)

  -- where none is refused, the Close comes behind them
  pub ends_accepted : (fs : List (List ℕ)) (a : Answer) (c : K.Connection) (b : Answer) → (frames a c fs).last ≡ accept b → M.trail role S a c (sending fs error out) ≡ M.wrote_before (frames a c fs).bytes (then_close b (frames a c fs).connection)
  ends_accepted [] a c b q = ap (λ (x : Answer). then_close x c) (taken a b q)
  ends_accepted (f ∷ fs) a c b q = go (λ x d. ends_accepted fs x d b) (decide role S c (send_session_frame f out)) q
    where
      go :
          ((x : Answer) (d : K.Connection) → (frames x d fs).last ≡ accept b → M.trail role S x d (sending fs error out) ≡ M.wrote_before (frames x d fs).bytes (then_close b (frames x d fs).connection))
          → (v : Verdict K.Outcome) → (M.further S c (λ a c'. frames a c' fs) v).last ≡ accept b
          → M.further S c (λ a c'. M.trail role S a c' (sending fs error out)) v ≡ M.wrote_before (M.further S c (λ a c'. frames a c' fs) v).bytes (then_close b (M.further S c (λ a c'. frames a c' fs) v).connection)
      go ih (refuse j) r = absurd (never j b r)
      go ih (accept o) r =
          ap (M.wrote_before o.bytes) (ih o.answer (apply S o.effect c) r)
          ∙ wrote_wrote o.bytes (frames o.answer (apply S o.effect c) fs).bytes (then_close b (frames o.answer (apply S o.effect c) fs).connection)
