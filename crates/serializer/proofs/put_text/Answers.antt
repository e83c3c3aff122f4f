-- `put_text`: the header and then the bytes; nothing where they do not fit.
-- Assumes nothing.
use borrow.Author.Rules.{rules}
use Rattle.octets.proofs.Laws.{put_past}
use Rattle.serializer.proofs.Laws.{text_over, put_text_short, put_text_long, code_low}
use Rattle.serializer.proofs.put_text.Goals as goal

ruleset steps = (text_over, put_text_short, put_text_long, code_low, put_past, rules)

pub text_len-n-requires : goal.text_len-n-requires
text_len-n-requires c = search steps

pub returns-then-out-at : goal.returns-then-out-at
returns-then-out-at c = search steps

pub overflow_sub-out : goal.overflow_sub-out
overflow_sub-out c = search steps

pub returns-then-out-at-2 : goal.returns-then-out-at-2
returns-then-out-at-2 c = search steps

pub code-requires : goal.code-requires
code-requires c = search steps

pub overflow_mul-code : goal.overflow_mul-code
overflow_mul-code c = search steps

pub overflow_add-code : goal.overflow_add-code
overflow_add-code c = search steps

pub put_number-requires : goal.put_number-requires
put_number-requires c = search steps

pub overflow_add-at : goal.overflow_add-at
overflow_add-at c = search steps

pub copy-requires : goal.copy-requires
copy-requires c = search steps

pub shape_of-out-then-bs-le255 : goal.shape_of-out-then-bs-le255
shape_of-out-then-bs-le255 c = search steps

pub returns-then-bs-le255 : goal.returns-then-bs-le255
returns-then-bs-le255 c = search steps

pub code-requires-2 : goal.code-requires-2
code-requires-2 c = search steps

pub overflow_add-code-2 : goal.overflow_add-code-2
overflow_add-code-2 c = search steps

pub put_number-requires-2 : goal.put_number-requires-2
put_number-requires-2 c = search steps

pub overflow_add-at-2 : goal.overflow_add-at-2
overflow_add-at-2 c = search steps

pub put_number-requires-3 : goal.put_number-requires-3
put_number-requires-3 c = search steps

pub overflow_add-at-3 : goal.overflow_add-at-3
overflow_add-at-3 c = search steps

pub copy-requires-2 : goal.copy-requires-2
copy-requires-2 c = search steps

pub shape_of-out : goal.shape_of-out
shape_of-out c = search steps

pub returns : goal.returns
returns c = search steps
