-- Texts as bytes: the conditions of Part 2 section 2.8.15, and the descriptions that the Rust gives its errors, letter for letter.
-- Assumes nothing: these are definitions.
use Rattle.std.specs.Prelude.{ℕ, zero, suc, List, [], ◌∷◌}
use Prim.Native.Char.{code}
use Prim.Native.String.{String, len, char_at}

-- the characters of an ASCII text from the i-th on, so many of them
abbrev pub characters_from : ℕ → ℕ → String → List ℕ
characters_from i zero s = []
characters_from i (suc n) s = code (char_at s i) ∷ characters_from (suc i) n s

abbrev pub characters : String → List ℕ
characters s = characters_from 0 (len s) s

abbrev pub illegal_state_condition : List ℕ
illegal_state_condition = characters "amqp:illegal-state"

abbrev pub not_found_condition : List ℕ
not_found_condition = characters "amqp:not-found"

abbrev pub not_implemented_condition : List ℕ
not_implemented_condition = characters "amqp:not-implemented"

-- a frame could not be delivered to its session
abbrev pub no_session : List ℕ
no_session = characters "Session is not found"

-- a listener's Begin goes out on a channel that is not taken
abbrev pub no_outgoing_channel : List ℕ
no_outgoing_channel = characters "Outgoing channel is not found"

-- a dialler reads a Begin that begins a session
abbrev pub no_remote_session : List ℕ
no_remote_session = characters "Remotely initiazted session is not supported yet"
