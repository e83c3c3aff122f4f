-- Frames read: Part 2 section 2.3, with the limits and the order of refusals of document 01.
-- Assumes nothing: these are definitions.
use Rattle.std.specs.Prelude.{ℕ, zero, suc, ◌-◌, Bool, true, false, ◌&&◌, ◌||◌, List, [], ◌∷◌, length, take, drop, get_or, leb, eqb, Option, None, Some}
use Rattle.octets.specs.Verdict.{Verdict, refuse, accept, require, and_then}
use Rattle.octets.specs.Octets.{big_endian}
use Rattle.performatives.specs.Performative.{Performative, performative, remote_channel, Said, said}

-- a frame at the front of bytes: how many it takes, its channel, and where its body starts
pub record Frame : Type 0 where
  pub size : ℕ
  pub channel : ℕ
  pub from : ℕ

abbrev pub size_of : List ℕ → ℕ
size_of s = big_endian (take 4 s)

abbrev pub channel_of : List ℕ → ℕ
channel_of s = big_endian (take 2 (drop 6 s))

-- with the most bytes that a frame may have, and the highest channel; bytes after the frame are not looked at
unfoldable pub frame : ℕ → ℕ → List ℕ → Verdict Frame
frame limit highest s =
    require 1 (leb 4 (length s)) (λ _.
    require 3 (leb 8 (size_of s)) (λ _.
    require 4 (leb (size_of s) limit) (λ _.
    require 1 (leb (size_of s) (length s)) (λ _.
    require 5 (eqb (get_or s 4 0) 2 && eqb (get_or s 5 0) 0) (λ _.
    require 7 (leb (channel_of s) highest) (λ _.
    accept (record { size = size_of s; channel = channel_of s; from = 8 })))))))

unfoldable pub body_in : Frame → List ℕ → List ℕ
body_in f s = take (f.size - f.from) (drop f.from s)

-- the part of s that is its frame's body; nothing where s does not start with a frame
unfoldable pub body_by : Verdict Frame → List ℕ → List ℕ
body_by (refuse k) s = []
body_by (accept f) s = body_in f s

-- limits that exclude nothing
abbrev pub any_size : ℕ
any_size = 4294967295

abbrev pub any_channel : ℕ
any_channel = 65535

unfoldable pub body_of : List ℕ → List ℕ
body_of s = body_by (frame any_size any_channel s) s

-- ---- a frame that came

-- what the layers above learn: the frame, and of its performative what is said of it; an empty frame has none
pub record FrameSaid : Type 0 where
  pub size : ℕ
  pub channel : ℕ
  pub from : ℕ
  pub content : Option Said

abbrev pub holding : Frame → Option Said → FrameSaid
holding f c = record { size = f.size; channel = f.channel; from = f.from; content = c }

unfoldable pub content : List ℕ → Verdict (Option Performative)
content [] = accept None
content (b ∷ s) = and_then (performative (b ∷ s)) (λ p. accept (Some p))

abbrev pub said_of : Option Performative → Option Said
said_of None = None
said_of (Some p) = Some (said p)

-- 1, 3, 4, 1, 5, 7, 6
unfoldable pub read_frame : ℕ → ℕ → List ℕ → Verdict (Frame × Option Performative)
read_frame limit highest s =
    and_then (frame limit highest s) (λ f.
    and_then (content (body_in f s)) (λ c.
    accept (f, c)))

abbrev pub frame_said : Frame × Option Performative → FrameSaid
frame_said r = holding r.0 (said_of r.1)

-- ---- a session's frame that is to be sent

abbrev pub is_session : ℕ → Bool
is_session code = leb 17 code && leb code 23

abbrev pub within : ℕ → List ℕ → Bool
within highest [] = true
within highest (n ∷ ns) = leb n highest && within highest ns

-- the remote-channel of a Begin
abbrev pub begins_for : Bool → Performative → List ℕ
begins_for true p = remote_channel p
begins_for false p = []

unfoldable pub session_performative : ℕ → List ℕ → Verdict Performative
session_performative highest s =
    and_then (performative s) (λ p.
    require 6 (is_session p.code) (λ _.
    require 6 (eqb p.code 20 || eqb p.end (length s)) (λ _.
    require 7 (within highest (begins_for (eqb p.code 17) p)) (λ _.
    accept p))))

-- 1, 3, 1, 5, 6, 7: only a Transfer has bytes after its performative, and only a Begin's remote-channel is held to the highest channel
unfoldable pub session_frame : ℕ → List ℕ → Verdict (Frame × Performative)
session_frame highest s =
    and_then (frame any_size any_channel s) (λ f.
    and_then (session_performative highest (body_in f s)) (λ p.
    accept (f, p)))

abbrev pub session_said : Frame × Performative → FrameSaid
session_said r = holding r.0 (Some (said r.1))

abbrev pub unless_done : List ℕ → (Unit {0} → Verdict ℕ) → Verdict ℕ
unless_done [] more = accept 0
unless_done (b ∷ s) more = more tt

-- whole frames, one after the other, up to the end: how many there are. The first that is refused decides. `most` is as many as there can be
unfoldable pub frames_up_to : ℕ → ℕ → List ℕ → Verdict ℕ
frames_up_to zero highest s = accept 0
frames_up_to (suc most) highest s =
    unless_done s (λ _.
    and_then (session_frame highest s) (λ r.
    and_then (frames_up_to most highest (drop r.0.size s)) (λ n.
    accept (suc n))))

-- a frame has a byte at least
unfoldable pub session_frames : ℕ → List ℕ → Verdict ℕ
session_frames highest s = frames_up_to (length s) highest s
