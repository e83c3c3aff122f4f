-- ASCII: every octet is below 128. Assumes nothing: these are definitions.
use Rattle.std.specs.Prelude.{ℕ, Bool, true, ◌&&◌, List, [], ◌∷◌, ltb}

unfoldable pub ascii : List ℕ → Bool
ascii [] = true
ascii (b ∷ s) = ltb b 128 && ascii s
