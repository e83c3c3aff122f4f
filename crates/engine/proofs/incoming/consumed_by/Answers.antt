-- `consumed_by`: a law for each return.
-- Assumes nothing.
use borrow.Author.Rules.{rules}
use mathlib.Core.Path.{refl}
use Rattle.engine.proofs.Reading.{consumes_all, consumes_none, consumes_size}
use Rattle.engine.proofs.incoming.consumed_by.Goals as goal

pub returns-in_default : goal.returns-in_default
returns-in_default c = search (consumes_all, rules)

pub returns-in-TooShort : goal.returns-in-TooShort
returns-in-TooShort c = consumes_none _ _ _ c.in-Err.is _ c.in-TooShort.is refl

pub returns-in-OverReadingLimit : goal.returns-in-OverReadingLimit
returns-in-OverReadingLimit c = consumes_none _ _ _ c.in-Err.is _ c.in-OverReadingLimit.is refl

pub returns-in_default-refusal : goal.returns-in_default-refusal
returns-in_default-refusal c = search (consumes_size, rules)
