-- `put_default`: by the default and the type.
-- Assumes nothing.
use Rattle.session_frame.proofs.Steps.{put_default_null, put_default_any, put_default_string, put_default_error, put_default_ushort, put_default_uint}
use borrow.Author.Rules.{rules}
use Rattle.session_frame.proofs.field.put_default.Goals as goal

ruleset steps = (put_default_null, put_default_any, put_default_string, put_default_error, put_default_ushort, put_default_uint, rules)

pub put_null-requires : goal.put_null-requires
put_null-requires c = search steps

pub shape_of-out-in_default : goal.shape_of-out-in_default
shape_of-out-in_default c = search steps

pub returns-in_default : goal.returns-in_default
returns-in_default c = search steps

pub put_null-requires-in-Any : goal.put_null-requires-in-Any
put_null-requires-in-Any c = search steps

pub overflow_cast-n : goal.overflow_cast-n
overflow_cast-n c = search steps

pub put_ushort-requires : goal.put_ushort-requires
put_ushort-requires c = search steps

pub put_uint-requires : goal.put_uint-requires
put_uint-requires c = search steps

pub put_null-requires-in-String : goal.put_null-requires-in-String
put_null-requires-in-String c = search steps

pub put_null-requires-in-Error : goal.put_null-requires-in-Error
put_null-requires-in-Error c = search steps

pub shape_of-out-in-Any : goal.shape_of-out-in-Any
shape_of-out-in-Any c = search steps

pub returns-in-Any : goal.returns-in-Any
returns-in-Any c = search steps

pub shape_of-out-in-UShort : goal.shape_of-out-in-UShort
shape_of-out-in-UShort c = search steps

pub returns-in-UShort : goal.returns-in-UShort
returns-in-UShort c = search steps

pub shape_of-out-in-UInt : goal.shape_of-out-in-UInt
shape_of-out-in-UInt c = search steps

pub returns-in-UInt : goal.returns-in-UInt
returns-in-UInt c = search steps

pub shape_of-out-in-String : goal.shape_of-out-in-String
shape_of-out-in-String c = search steps

pub returns-in-String : goal.returns-in-String
returns-in-String c = search steps

pub shape_of-out-in-Error : goal.shape_of-out-in-Error
shape_of-out-in-Error c = search steps

pub returns-in-Error : goal.returns-in-Error
returns-in-Error c = search steps
