-- What a C caller is told of a frame: the number that is returned, 0 or a refusal, and the lent answer afterwards.
-- Assumes nothing: these are definitions.
use Rattle.std.specs.Prelude.{ℕ, cond, List, ◌++◌, leb, length, Option, None, Some}
use Rattle.octets.specs.Octets.{bytes_of, put}
use Rattle.octets.specs.Verdict.{Verdict, refuse, accept}
use Rattle.performatives.specs.Performative.{Said}
use Rattle.frame_decoder.specs.Frame.{FrameSaid}
use Rattle.frame_decoder.specs.Answers.{frame_answer}

-- 27 bytes, big-endian:
--     1  the performative's code       8  where the body starts
--     2  the channel                   8  where the performative ends, counted from there
--                                      8  how many bytes the frame has
unfoldable pub frame_bytes : ℕ → ℕ → ℕ → ℕ → ℕ → List ℕ
frame_bytes code channel from end size = bytes_of 1 code ++ (bytes_of 2 channel ++ (bytes_of 8 from ++ (bytes_of 8 end ++ bytes_of 8 size)))

-- an empty frame has no performative: its code is 0, and so is its end
abbrev pub code_of : Option Said → ℕ
code_of None = 0
code_of (Some p) = p.code

abbrev pub end_of : Option Said → ℕ
end_of None = 0
end_of (Some p) = p.end

pub record Told : Type 0 where
  pub returned : ℕ
  pub answer : List ℕ

abbrev pub tells : Verdict FrameSaid → List ℕ → Told
tells (refuse k) a = record { returned = k; answer = a }
tells (accept f) a = record { returned = 0; answer = put a 0 (frame_bytes (code_of f.content) f.channel f.from (end_of f.content) f.size) }

-- an answer of less than 27 bytes is 9; then the frame is judged
unfoldable pub told : ℕ → ℕ → List ℕ → List ℕ → Told
told limit highest s a = cond (leb 27 (length a)) (tells (frame_answer limit highest s) a) (record { returned = 9; answer = a })
