-- `protocol_header::ProtocolHeader::is_amqp100` meets its contract: a law for each of the five returns.
use borrow.Author.Tests.{not-true, not-false}
use borrow.Author.Rules.{rules}
use Rattle.protocol_header.proofs.Steps.{other_id, other_major, other_minor, other_revision, all_equal}
use Rattle.protocol_header.proofs.ProtocolHeader.is_amqp100.Goals as goal

ruleset steps = (other_id, other_major, other_minor, other_revision, all_equal, not-true, not-false, rules)

pub returns-then-not-is_amqp : goal.returns-then-not-is_amqp
returns-then-not-is_amqp c = search steps

pub returns-then-self-ne-MAJOR : goal.returns-then-self-ne-MAJOR
returns-then-self-ne-MAJOR c = search steps

pub returns-then-self-ne-MINOR : goal.returns-then-self-ne-MINOR
returns-then-self-ne-MINOR c = search steps

pub returns-then-self-ne-REVISION : goal.returns-then-self-ne-REVISION
returns-then-self-ne-REVISION c = search steps

pub returns : goal.returns
returns c = search steps
