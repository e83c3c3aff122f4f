-- The account theorem, of the definition of a connection.
--
-- Take any settings that a connection can be made with, a role, and two connections that were each brought from fresh by a list of calls, p and q, whatever these calls were,
-- refused ones included. Then their accounts are equal exactly if no later list of calls tells the two apart: every list of calls that a caller can pass,
-- refused ones included and with the same arguments for both, draws the same answers and leaves the same lent output bytes, call by call.
--
-- From left to right: who knows that two accounts agree, knows that the two connections will behave alike for ever. From right to left: nothing in an account
-- is superfluous, since each part of it can be told by some later calls. The accounts are computed from settings, role and calls alone.
-- Assumes nothing.
use mathlib.Core.Path.{◌≡◌}
use mathlib.Core.Logic.{◌↔◌}
use mathlib.Core.Bool.{true}
use mathlib.Core.List.{List}
use native.Mathlib.Omega.{arith}
use Rattle.frame_encoder.specs.Frames.{Settings, settings_ok}
use Rattle.frame_encoder.proofs.Laws.{settings_within}
use Rattle.connection_model.specs.Connection.{Role, Connection, fresh, Call, run, seen_in}
use Rattle.connection_model.specs.Account.{account}
use Rattle.connection_model.specs.Callers.{Valid}
use Rattle.connection_model.specs.Sound.{Reached}
use Rattle.connection_model.proofs.Invariant.{reached, reading_within, writing_within, tied_within, tied_through, taken_within}
use Rattle.connection_model.proofs.Forward.{forward_run}
use Rattle.connection_model.proofs.Apart.{Reachable, apart}

reachable : (S : Settings) → settings_ok S.container_id S.max_frame_size S.channel_max ≡ true → (c : Connection) → Reached S c → Reachable S c
reachable S ok c r =
    let w = settings_within S.container_id S.max_frame_size S.channel_max ok in
    let l = reading_within r w.size_low w.size_high in
    record {
      reading_low = l.0;
      reading_high = l.1;
      writing_low = (writing_within r).0;
      writing_high = (writing_within r).1;
      taken_in = λ n h e. let t = taken_within r n h e in omega (arith, t.2, t.3);
      ties_in = tied_within r;
      ties_through = tied_through r;
    }

pub account_theorem :
    (role : Role) (S : Settings) → settings_ok S.container_id S.max_frame_size S.channel_max ≡ true → (p q : List Call)
    → account (run role S fresh p) ≡ account (run role S fresh q)
    ↔ ((later : List Call) → Valid later → seen_in role S (run role S fresh p) later ≡ seen_in role S (run role S fresh q) later)
account_theorem role S ok p q = (
  λ same later _. forward_run role S p q same later,
  apart role S ok (run role S fresh p) (run role S fresh q) (reachable S ok _ (reached role S p)) (reachable S ok _ (reached role S q)),
)
