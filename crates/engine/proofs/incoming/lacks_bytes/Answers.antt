-- `lacks_bytes`: a law for each return.
-- Assumes nothing.
use borrow.Author.Rules.{rules}
use Rattle.engine.proofs.Missing.{lacks_four, lacks_small, lacks_large, lacks_rest}
use Rattle.engine.proofs.incoming.lacks_bytes.Goals as goal

pub returns-then-s-lt4 : goal.returns-then-s-lt4
returns-then-s-lt4 c = search (lacks_four, rules)

pub returns-then-size-lt8 : goal.returns-then-size-lt8
returns-then-size-lt8 c = search (lacks_small, rules)

pub returns-then-limit-size : goal.returns-then-limit-size
returns-then-limit-size c = search (lacks_large, rules)

pub returns : goal.returns
returns c = search (lacks_rest, rules)
