-- `put_shortest`: by the type of the field.
-- Assumes nothing.
use Rattle.session_frame.proofs.Types.{error_sized, uint_low, ushort_low, uint_laid, ushort_laid, any_laid, string_laid, error_room, error_laid}
use borrow.Author.Rules.{rules}
use Rattle.session_frame.proofs.field.put_shortest.Goals as goal

ruleset steps = (error_sized, uint_low, ushort_low, uint_laid, ushort_laid, any_laid, string_laid, error_room, error_laid, rules)

pub enum_told-1 : goal.enum_told-1
enum_told-1 c = search steps

pub copy-requires : goal.copy-requires
copy-requires c = search steps

pub enum_told-in-UShort : goal.enum_told-in-UShort
enum_told-in-UShort c = search steps

pub number_of-requires : goal.number_of-requires
number_of-requires c = search steps

pub overflow_cast-number_of : goal.overflow_cast-number_of
overflow_cast-number_of c = search steps

pub put_ushort-requires : goal.put_ushort-requires
put_ushort-requires c = search steps

pub enum_told-in-UInt : goal.enum_told-in-UInt
enum_told-in-UInt c = search steps

pub number_of-requires-in-UInt : goal.number_of-requires-in-UInt
number_of-requires-in-UInt c = search steps

pub overflow_cast-number_of-in-UInt : goal.overflow_cast-number_of-in-UInt
overflow_cast-number_of-in-UInt c = search steps

pub put_uint-requires : goal.put_uint-requires
put_uint-requires c = search steps

pub enum_told-in-String : goal.enum_told-in-String
enum_told-in-String c = search steps

pub text_of-requires : goal.text_of-requires
text_of-requires c = search steps

pub put_text-requires : goal.put_text-requires
put_text-requires c = search steps

pub enum_told-in-Error : goal.enum_told-in-Error
enum_told-in-Error c = search steps

pub put_error-requires : goal.put_error-requires
put_error-requires c = search steps

pub shape_of-out-in-Any : goal.shape_of-out-in-Any
shape_of-out-in-Any c = search steps

pub returns-in-Any : goal.returns-in-Any
returns-in-Any c = search steps

pub shape_of-out-in-UShort : goal.shape_of-out-in-UShort
shape_of-out-in-UShort c = search steps

pub returns-in-UShort : goal.returns-in-UShort
returns-in-UShort c = search steps

pub shape_of-out-in-UInt : goal.shape_of-out-in-UInt
shape_of-out-in-UInt c = search steps

pub returns-in-UInt : goal.returns-in-UInt
returns-in-UInt c = search steps

pub shape_of-out-in-String : goal.shape_of-out-in-String
shape_of-out-in-String c = search steps

pub returns-in-String : goal.returns-in-String
returns-in-String c = search steps

pub shape_of-out-in-Error : goal.shape_of-out-in-Error
shape_of-out-in-Error c = search steps

pub returns-in-Error : goal.returns-in-Error
returns-in-Error c = search steps
