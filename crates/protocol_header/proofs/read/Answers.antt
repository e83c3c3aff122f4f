-- `protocol_header::read` meets its contract: a law for each of the five returns, from the tests and callees on the way.
use native.Mathlib.Omega.{arith}
use borrow.Author.Rules.{rules}
use borrow.Author.Tests.{not-true, not-false}
use Rattle.protocol_header.proofs.Steps.{read_missing, read_no_prefix, read_no_id, read_amqp, read_other}
use Rattle.protocol_header.proofs.read.Goals as goal

ruleset steps = (read_no_prefix, read_no_id, read_amqp, read_other, not-true, not-false, rules)

pub returns-then-s-lt8 : goal.returns-then-s-lt8
returns-then-s-lt8 c = read_missing _ (omega arith)

pub returns-then-not-starts_with : goal.returns-then-not-starts_with
returns-then-not-starts_with c = search steps

pub returns-in_default : goal.returns-in_default
returns-in_default c = search steps

pub returns-then-is_amqp100 : goal.returns-then-is_amqp100
returns-then-is_amqp100 c = search steps

pub returns : goal.returns
returns c = search steps
