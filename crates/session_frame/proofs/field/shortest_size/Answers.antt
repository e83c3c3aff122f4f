-- `shortest_size`: by the type of the field.
-- Assumes nothing.
use Rattle.session_frame.proofs.Types.{error_sized, any_size_is, ushort_size, error_size_is, string_size, uint_low, uint_size}
use borrow.Author.Rules.{rules}
use Rattle.session_frame.proofs.field.shortest_size.Goals as goal

ruleset steps = (error_sized, any_size_is, ushort_size, error_size_is, string_size, uint_low, uint_size, rules)

pub enum_told-1 : goal.enum_told-1
enum_told-1 c = search steps

pub enum_told-in-UShort : goal.enum_told-in-UShort
enum_told-in-UShort c = search steps

pub enum_told-in-UInt : goal.enum_told-in-UInt
enum_told-in-UInt c = search steps

pub number_of-requires : goal.number_of-requires
number_of-requires c = search steps

pub overflow_cast-number_of : goal.overflow_cast-number_of
overflow_cast-number_of c = search steps

pub uint_len-requires : goal.uint_len-requires
uint_len-requires c = search steps

pub enum_told-in-String : goal.enum_told-in-String
enum_told-in-String c = search steps

pub text_of-requires : goal.text_of-requires
text_of-requires c = search steps

pub text_len-requires : goal.text_len-requires
text_len-requires c = search steps

pub enum_told-in-Error : goal.enum_told-in-Error
enum_told-in-Error c = search steps

pub error_size-requires : goal.error_size-requires
error_size-requires c = search steps

pub returns-in-Any : goal.returns-in-Any
returns-in-Any c = search steps

pub returns-in-UShort : goal.returns-in-UShort
returns-in-UShort c = search steps

pub returns-in-UInt : goal.returns-in-UInt
returns-in-UInt c = search steps

pub returns-in-String : goal.returns-in-String
returns-in-String c = search steps

pub returns-in-Error : goal.returns-in-Error
returns-in-Error c = search steps
