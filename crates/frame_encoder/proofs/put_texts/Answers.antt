-- `put_texts`: one text, or two.
-- Assumes nothing.
use borrow.Author.Rules.{rules}
use Rattle.frame_encoder.proofs.Steps.{texts_laid_one, texts_laid_two}
use Rattle.frame_encoder.proofs.put_texts.Goals as goal

ruleset steps = (texts_laid_one, texts_laid_two, rules)

pub returns-in-Some : goal.returns-in-Some
returns-in-Some c = search steps

pub returns-in_default : goal.returns-in_default
returns-in_default c = search steps
