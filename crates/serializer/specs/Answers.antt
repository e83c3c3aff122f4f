-- What the code's enum of texts stands for.
-- Assumes nothing: these are definitions.
use Rattle.std.specs.Prelude.{ℕ}
use Rattle.serializer.specs.declared.Text.{Text}
use Rattle.serializer.specs.declared.Text.TheVariants.{String, Symbol}

abbrev pub code_of : Text → ℕ
code_of String = 0xa1
code_of Symbol = 0xa3
