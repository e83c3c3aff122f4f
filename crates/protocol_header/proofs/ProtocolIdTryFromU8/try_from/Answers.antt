-- `try_from` of a byte to a `protocol_header::ProtocolId` meets its contract: one law for the three known numbers, one for all others.
use borrow.Author.Rules.{rules}
use Rattle.protocol_header.proofs.Steps.{known_id, unknown_id}
use Rattle.protocol_header.proofs.ProtocolIdTryFromU8.try_from.Goals as goal

ruleset steps = (known_id, unknown_id, rules)

pub returns-in-0 : goal.returns-in-0
returns-in-0 c = search steps

pub returns-in-2 : goal.returns-in-2
returns-in-2 c = search steps

pub returns-in-3 : goal.returns-in-3
returns-in-3 c = search steps

pub returns-in_default : goal.returns-in_default
returns-in_default c = search steps
