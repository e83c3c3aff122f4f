-- `fits`: null, or by the type of the field.
-- Assumes nothing.
use borrow.Author.Rules.{rules}
use Rattle.performatives.specs.Performative.{has_type}
use Rattle.performatives.proofs.Typed.{fits_null, fits_typed}
use Rattle.performatives.proofs.fields.fits.Goals as goal

ruleset steps = (fits_null, fits_typed, rules)

pub starts_with-requires : goal.starts_with-requires
starts_with-requires c = search steps

pub returns-then-starts_with : goal.returns-then-starts_with
returns-then-starts_with c = search steps

pub enum_told-1 : goal.enum_told-1
enum_told-1 c = search steps

pub enum_told-in-UShort : goal.enum_told-in-UShort
enum_told-in-UShort c = search steps

pub starts_with-requires-in-UShort : goal.starts_with-requires-in-UShort
starts_with-requires-in-UShort c = search steps

pub enum_told-in-UInt : goal.enum_told-in-UInt
enum_told-in-UInt c = search steps

pub starts_with-requires-in-UInt : goal.starts_with-requires-in-UInt
starts_with-requires-in-UInt c = search steps

pub enum_told-in-String : goal.enum_told-in-String
enum_told-in-String c = search steps

pub starts_with-requires-in-String : goal.starts_with-requires-in-String
starts_with-requires-in-String c = search steps

pub enum_told-in-Error : goal.enum_told-in-Error
enum_told-in-Error c = search steps

pub is_error-requires : goal.is_error-requires
is_error-requires c = search steps

pub returns-in-Any : goal.returns-in-Any
unfolding has_type
returns-in-Any c = search steps

pub returns-in-UShort : goal.returns-in-UShort
unfolding has_type
returns-in-UShort c = search steps

pub returns-in-UInt : goal.returns-in-UInt
unfolding has_type
returns-in-UInt c = search steps

pub returns-in-String : goal.returns-in-String
unfolding has_type
returns-in-String c = search steps

pub returns-in-Error : goal.returns-in-Error
unfolding has_type
returns-in-Error c = search steps
