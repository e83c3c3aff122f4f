-- `write`: the room, the frame, and its body.
-- Assumes nothing.
use mathlib.Core.Path.{ap, ◌∙◌}
use native.Mathlib.Omega.{arith}
use borrow.Author.Rules.{rules}
use Rattle.std.proofs.lemmas.Result.{err_from_is_err_and}
use Rattle.std.specs.Prelude.{Ok}
use Rattle.session_frame.proofs.Writing.{write_small, write_refused, write_empty_lem, body_accepted, write_sent}
use Rattle.session_frame.proofs.write.Goals as goal

pub returns-then-out-lt16384 : goal.returns-then-out-lt16384
returns-then-out-lt16384 c = search (write_small, rules)

pub returns-in_err-session_frame : goal.returns-in_err-session_frame
returns-in_err-session_frame c =
    let p = err_from_is_err_and c.from_residual.result c.from_residual.ensures.1 in
    rw (p.1, p.2) (write_refused _ _ _ _ (omega arith) _ c.session_frame.ensures _ c.in_err-session_frame.was)

pub write_body-requires : goal.write_body-requires
write_body-requires c =
    (body_accepted _ _ c.args.limit c.args.out.now (omega arith) _ c.session_frame.ensures _ _ _ _ _ (c.in_ok-session_frame.was ∙ ap Ok c.in-Body.is) _ c.body.ensures, omega arith)

pub returns-in-Empty : goal.returns-in-Empty
returns-in-Empty c =
    write_empty_lem _ _ _ _ (omega arith) _ c.session_frame.ensures _ _ _ (c.in_ok-session_frame.was ∙ ap Ok c.in-Empty.is)

pub returns-in-Body : goal.returns-in-Body
returns-in-Body c =
    write_sent _ _ _ _ (omega arith) _ c.session_frame.ensures _ _ _ _ _ (c.in_ok-session_frame.was ∙ ap Ok c.in-Body.is) _ c.body.ensures _ _ c.write_body.ensures
