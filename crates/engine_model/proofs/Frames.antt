-- A frame that is read writes nothing. One that is no Close leaves the peer's Close awaited where it was, and does not lead to CloseReceived; a Close leads there or to End, and to End where it was awaited.
-- Assumes nothing.
use mathlib.Core.Path.{◌≡◌, refl}
use mathlib.Core.Bool.{Bool, true, cond, ◌&&◌}
use mathlib.Core.List.{List, [], ◌∷◌}
use Rattle.std.specs.Prelude.{Option, None, Some}
use Prim.Native.Nat.{ℕ}
use lib.Dec.{T, eqb}
use Rattle.octets.specs.Verdict.{Verdict, refuse, accept, and_then}
use Rattle.performatives.specs.Performative.{Performative, remote_channel}
use Rattle.frame_decoder.specs.Frame.{Frame, read_frame}
use Rattle.frame_encoder.specs.Frames.{Settings}
use Rattle.connection_state.specs.States.{State, CloseReceived, Discarding, End, is, is_one_of, read_open, read_close}
use Rattle.channels.specs.Ties.{Tie}
use Rattle.connection_model.specs.Connection as M
use Rattle.connection_model.specs.Connection.{Role, dialler, listener, Connection, receive_frame, tie_to, untie, pass_on, new_session, begun, performative_read, frame_read, apply, decide}
use Rattle.connection_model.proofs.Rules.{Holds, refused, holds, on_require, on_cond, on_and_then, on_along, everywhere}
use Rattle.engine_model.specs.Engine.{close_in, is_close}
use Rattle.engine_model.specs.Phases.{awaits}

-- CloseReceived is not entered
abbrev pub unentered : State → State → Bool
unentered x y = cond (is CloseReceived y) (is CloseReceived x) true

pub same_unentered : (x : State) → T (unentered x x)
same_unentered x = everywhere (λ y. unentered y y) tt tt x

abbrev pub leads_to_lem : Option Bool → State → State → Bool
leads_to_lem None x y = cond (awaits x) (awaits y) true && unentered x y
leads_to_lem (Some error) x y = cond (awaits x) (is End y) (is_one_of (CloseReceived ∷ End ∷ []) y)

-- an answer tells of a Close only where the frame is one
abbrev pub only_of : Bool → Option Bool → Bool
only_of close None = true
only_of close (Some error) = close

pub record ReadsSo (S : Settings) (c : Connection) (close : Bool) (w : M.Outcome) : Type 0 where
  pub silent : w.bytes ≡ []
  pub leads : T (leads_to_lem (close_in w.answer) c.state (apply S w.effect c).state)
  pub of_close : T (only_of close (close_in w.answer))

-- where the state stays as it is
same : (x : State) → T (leads_to_lem None x x)
same x = everywhere (λ y. leads_to_lem None y y) tt tt x

module _ (role : Role) (S : Settings) (c : Connection) (close : Bool) where
  abbrev So : Verdict M.Outcome → Type 0
  So v = Holds (ReadsSo S c close) v

  on_tie : (f : Frame) (r : ℕ) (o : Option ℕ) → So (tie_to f r o)
  on_tie f r None = refused
  on_tie f r (Some h) = holds (record { silent = refl; leads = same c.state; of_close = tt })

  on_untie : (f : Frame) (o : Option Tie) → So (untie f o)
  on_untie f None = refused
  on_untie f (Some t) = holds (record { silent = refl; leads = same c.state; of_close = tt })

  on_pass : (f : Frame) (code : ℕ) (o : Option Tie) → So (pass_on f code o)
  on_pass f code None = refused
  on_pass f code (Some t) = holds (record { silent = refl; leads = same c.state; of_close = tt })

  on_new : (ρ : Role) (f : Frame) (h : ℕ) (l : Option (List ℕ)) → So (new_session ρ f h l)
  on_new dialler f h l = refused
  on_new listener f h None = refused
  on_new listener f h (Some []) = refused
  on_new listener f h (Some (ch ∷ rest)) = holds (record { silent = refl; leads = same c.state; of_close = tt })

  on_begun : (f : Frame) (h : ℕ) (rs : List ℕ) → So (begun role c f h rs)
  on_begun f h [] = on_new role f h c.hand_out
  on_begun f h (r ∷ rs) = on_tie f r (c.taken r)

module _ (role : Role) (S : Settings) (c : Connection) where
  on_performative : (f : Frame) (h : ℕ) (p : Performative) → So role S c (eqb p.code 24) (performative_read role S c f h p)
  on_performative f h p =
      on_cond _ (eqb p.code 24) _ _
      (λ t. on_and_then _ _ (on_along (leads_to_lem (Some true)) read_close tt c.state) (λ y u. holds (record { silent = refl; leads = u; of_close = t })))
      (on_cond _ (is Discarding c.state) _ _ (λ t. holds (record { silent = refl; leads = same c.state; of_close = tt }))
      (on_cond _ (eqb p.code 16) _ _
      (λ t. on_and_then _ _ (on_along (leads_to_lem None) read_open tt c.state) (λ y u. holds (record { silent = refl; leads = u; of_close = tt })))
      (on_require _ _ _ _ (λ t.
      on_cond _ (eqb p.code 17) _ _ (λ t. on_begun role S c _ f h (remote_channel p))
      (on_cond _ (eqb p.code 23) _ _ (λ t. on_untie role S c _ f (c.ties f.channel)) (on_pass role S c _ f p.code (c.ties f.channel)))))))

  on_frame : (h : ℕ) (v : Verdict (Frame × Option Performative)) → So role S c (is_close v) (and_then v (frame_read role S c h))
  unfolding and_then
  on_frame h (refuse k) = refused
  on_frame h (accept (f, None)) = holds (record { silent = refl; leads = same c.state; of_close = tt })
  on_frame h (accept (f, Some p)) = on_performative f h p

  pub reads_so : (s : List ℕ) (h : ℕ) → Holds (ReadsSo S c (is_close (read_frame c.reading_limit S.channel_max s))) (decide role S c (receive_frame s h))
  reads_so s h = on_frame h (read_frame c.reading_limit S.channel_max s)
