-- `list_at`: by the format code.
-- Assumes nothing.
use borrow.Author.Rules.{rules}
use Rattle.performatives.proofs.Lists.{list_empty, list_small, list_large, list_none}
use Rattle.performatives.proofs.composite.list_at.Goals as goal

ruleset steps = (list_empty, list_small, list_large, list_none, rules)

pub starts_with-requires : goal.starts_with-requires
starts_with-requires c = search steps

pub returns-then-starts_with : goal.returns-then-starts_with
returns-then-starts_with c = search steps

pub starts_with-requires-2 : goal.starts_with-requires-2
starts_with-requires-2 c = search steps

pub sized-requires : goal.sized-requires
sized-requires c = search steps

pub returns-then-starts_with-2 : goal.returns-then-starts_with-2
returns-then-starts_with-2 c = search steps

pub starts_with-requires-3 : goal.starts_with-requires-3
starts_with-requires-3 c = search steps

pub sized-requires-then-starts_with-3 : goal.sized-requires-then-starts_with-3
sized-requires-then-starts_with-3 c = search steps

pub returns-then-starts_with-3 : goal.returns-then-starts_with-3
returns-then-starts_with-3 c = search steps

pub returns : goal.returns
returns c = search steps
