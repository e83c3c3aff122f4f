-- A frame that is read: how many bytes are consumed, and which part of the caller's bytes goes on to a session.
-- Assumes nothing.
use mathlib.Core.Path.{◌≡◌, refl, sym, ◌∙◌, ap, ap₂, subst}
use mathlib.Core.List.{List, [], ◌∷◌}
use Rattle.std.specs.Prelude.{Option, None, Some}
use Prim.Native.Nat.{ℕ, ◌-◌, ◌≤◌}
use lib.Dec.{eqb}
use lib.ListN.{take, drop}
use Rattle.octets.specs.Verdict.{Verdict, accept}
use Rattle.values.proofs.Apart.{then_was}
use Rattle.performatives.specs.Performative.{Performative, remote_channel}
use Rattle.frame_decoder.specs.Frame.{Frame, size_of, body_in, body_of, any_size, any_channel, read_frame}
use Rattle.frame_decoder.proofs.Laws.{frame_was, read_was, body_is}
use Rattle.frame_encoder.specs.Frames.{Settings}
use Rattle.connection_state.specs.States.{Discarding, is, is_one_of, along, reading, read_open, read_close}
use Rattle.channels.specs.Ties.{Tie}
use Rattle.connection_model.specs.Connection.{Role, dialler, listener, Connection, receive_frame, Answer, wrote, stop, header, other_protocol, nothing_to_do, opened, closed, forward, began, channel, freed, Outcome, tie_to, untie, pass_on, new_session, begun, session_read, frame_read, decide}
use Rattle.connection_model.proofs.Rules.{Holds, refused, holds, on_require, on_cond, on_any, accepted}

-- the frame's length is consumed, and a body that goes on is the frame's
abbrev pub Placed : Frame → Answer → Type 0
Placed f (wrote n) = ⊥
Placed f stop = ⊥
Placed f (header n) = ⊥
Placed f (other_protocol n) = ⊥
Placed f (nothing_to_do n) = n ≡ f.size
Placed f (opened n idle) = n ≡ f.size
Placed f (closed n error) = n ≡ f.size
Placed f (forward n code h from len) = (n ≡ f.size) × (from ≡ f.from) × (len ≡ f.size - f.from)
Placed f (began n ch h from len) = (n ≡ f.size) × (from ≡ f.from) × (len ≡ f.size - f.from)
Placed f (channel ch) = ⊥
Placed f (freed h) = ⊥

module _ (role : Role) (S : Settings) (c : Connection) (f : Frame) (h : ℕ) where
  abbrev Right : Verdict Outcome → Type 0
  Right v = Holds (λ o. Placed f o.answer) v

  its_own : (f.size ≡ f.size) × (f.from ≡ f.from) × (f.size - f.from ≡ f.size - f.from)
  its_own = (refl, refl, refl)

  on_tie : (r : ℕ) (o : Option ℕ) → Right (tie_to f r o)
  on_tie r None = refused
  on_tie r (Some k) = holds its_own

  on_untie : (o : Option Tie) → Right (untie f o)
  on_untie None = refused
  on_untie (Some k) = holds its_own

  on_pass : (code : ℕ) (o : Option Tie) → Right (pass_on f code o)
  on_pass code None = refused
  on_pass code (Some k) = holds its_own

  on_new : (ρ : Role) (l : Option (List ℕ)) → Right (new_session ρ f h l)
  on_new dialler l = refused
  on_new listener None = refused
  on_new listener (Some []) = refused
  on_new listener (Some (ch ∷ rest)) = holds its_own

  on_begun : (rs : List ℕ) → Right (begun role c f h rs)
  on_begun [] = on_new role c.hand_out
  on_begun (r ∷ rs) = on_tie r (c.taken r)

  on_session : (code : ℕ) (rs : List ℕ) → Right (session_read role c f h code rs)
  on_session code rs =
      on_require _ 20 (is_one_of reading c.state) _ (λ t.
      on_cond _ (eqb code 17) _ _ (λ u. on_begun rs)
      (on_cond _ (eqb code 23) _ _ (λ u. on_untie (c.ties f.channel)) (on_pass code (c.ties f.channel))))

  on_frame : (o : Option Performative) → Right (frame_read role S c h (f, o))
  on_frame None = holds refl
  on_frame (Some p) =
      on_cond _ (eqb p.code 24) _ _ (λ t. on_any _ (along read_close c.state) _ (λ x. holds refl))
      (on_cond _ (is Discarding c.state) _ _ (λ t. holds refl)
      (on_cond _ (eqb p.code 16) _ _ (λ t. on_any _ (along read_open c.state) _ (λ x. holds refl))
      (on_session p.code (remote_channel p))))

-- a frame that was read, and its answer
pub record Consumed (s : List ℕ) (a : Answer) : Type 0 where
  pub frame_is : Frame
  pub size_is : frame_is.size ≡ size_of s
  pub body_part : body_in frame_is s ≡ body_of s
  pub placed : Placed frame_is a

module _ (role : Role) (S : Settings) (c : Connection) (s : List ℕ) (h : ℕ) (l : c.reading_limit ≤ any_size) (m : S.channel_max ≤ any_channel) where
  pub consumed : (o : Outcome) → decide role S c (receive_frame s h) ≡ accept o → Consumed s o.answer
  consumed o e =
      let w = then_was (read_frame c.reading_limit S.channel_max s) (frame_read role S c h) o e in
      let r = w.0 in
      let q = (read_was c.reading_limit S.channel_max s r w.1).0 in
      record {
        frame_is = r.0;
        size_is = ap (λ x. x.size) (frame_was c.reading_limit S.channel_max s r.0 q).fields;
        body_part = sym (body_is c.reading_limit S.channel_max s r.0 q l m);
        placed = accepted (on_frame role S c r.0 h r.1) w.2;
      }

  -- the part of the caller's bytes that goes on is the one that `body` hands back
  pub forwarded_part : (o : Outcome) (n code k from len : ℕ) → decide role S c (receive_frame s h) ≡ accept o → o.answer ≡ forward n code k from len → (n ≡ size_of s) × (take len (drop from s) ≡ body_of s)
  unfolding body_in
  forwarded_part o n code k from len e a =
      let x = consumed o e in
      let p : Placed x.frame_is (forward n code k from len) = subst (Placed x.frame_is) a x.placed in
      (p.0 ∙ x.size_is, ap₂ (λ j i. take j (drop i s)) p.2 p.1 ∙ x.body_part)
