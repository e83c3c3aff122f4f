-- `default_size`: by the default and the type.
-- Assumes nothing.
use Rattle.session_frame.proofs.Steps.{default_size_null, default_size_any, default_size_string, default_size_error, default_size_ushort, default_size_uint}
use borrow.Author.Rules.{rules}
use Rattle.session_frame.proofs.field.default_size.Goals as goal

ruleset steps = (default_size_null, default_size_any, default_size_string, default_size_error, default_size_ushort, default_size_uint, rules)

pub returns-in_default : goal.returns-in_default
returns-in_default c = search steps

pub uint_len-requires : goal.uint_len-requires
uint_len-requires c = search steps

pub returns-in-Any : goal.returns-in-Any
returns-in-Any c = search steps

pub returns-in-UShort : goal.returns-in-UShort
returns-in-UShort c = search steps

pub returns-in-UInt : goal.returns-in-UInt
returns-in-UInt c = search steps

pub returns-in-String : goal.returns-in-String
returns-in-String c = search steps

pub returns-in-Error : goal.returns-in-Error
returns-in-Error c = search steps
