-- `text::char_length` meets its contract: each arm of the match reads the row of the table that its first octet has, and the last arm has none.
use borrow.Author.Rules.{rules}
use native.Mathlib.Omega.{arith}
use mathlib.Core.List.Memᴰ
use Rattle.text.specs.Utf8.{characters}
use Rattle.text.specs.Character.{followers}
use Rattle.text.proofs.Rows.{char_none, char_one, char_no_row, char_followed}
use Rattle.text.proofs.char_length.Goals as goal

-- a row is one of the table
ruleset rows = (Memᴰ.head, Memᴰ.tail)

pub returns-then-s-eq0 : goal.returns-then-s-eq0
returns-then-s-eq0 c = search char_none

pub returns-in-224 : goal.returns-in-224
unfolding characters followers
returns-in-224 c = char_followed _ 0xE0 0xE0 3 0xA0 0xBF _ (search rows depth 12) (omega arith) (search rules)

pub returns-in-237 : goal.returns-in-237
unfolding characters followers
returns-in-237 c = char_followed _ 0xED 0xED 3 0x80 0x9F _ (search rows depth 12) (omega arith) (search rules)

pub returns-in-240 : goal.returns-in-240
unfolding characters followers
returns-in-240 c = char_followed _ 0xF0 0xF0 4 0x90 0xBF _ (search rows depth 12) (omega arith) (search rules)

pub returns-in-244 : goal.returns-in-244
unfolding characters followers
returns-in-244 c = char_followed _ 0xF4 0xF4 4 0x80 0x8F _ (search rows depth 12) (omega arith) (search rules)

pub returns-in-0-to-127 : goal.returns-in-0-to-127
returns-in-0-to-127 c = char_one _ (omega arith) (omega arith)

pub returns-in-194-to-223 : goal.returns-in-194-to-223
unfolding characters followers
returns-in-194-to-223 c = char_followed _ 0xC2 0xDF 2 0x80 0xBF _ (search rows depth 12) (omega arith) (search rules)

pub returns-in-225-to-236 : goal.returns-in-225-to-236
unfolding characters followers
returns-in-225-to-236 c = char_followed _ 0xE1 0xEC 3 0x80 0xBF _ (search rows depth 12) (omega arith) (search rules)

pub returns-in-238-to-239 : goal.returns-in-238-to-239
unfolding characters followers
returns-in-238-to-239 c = char_followed _ 0xEE 0xEF 3 0x80 0xBF _ (search rows depth 12) (omega arith) (search rules)

pub returns-in-241-to-243 : goal.returns-in-241-to-243
unfolding characters followers
returns-in-241-to-243 c = char_followed _ 0xF1 0xF3 4 0x80 0xBF _ (search rows depth 12) (omega arith) (search rules)

pub returns-in_default : goal.returns-in_default
unfolding characters
returns-in_default c = char_no_row _ (omega arith) (omega arith)

pub returns-in_default-2 : goal.returns-in_default-2
unfolding characters
returns-in_default-2 c = char_no_row _ (omega arith) (omega arith)
