-- The starred wall cases of document 01, and for a freed channel that of document 02 (wish 7), of calls on a dialler's connection: what they answer and the state that they leave, or what
-- they write into the lent output.
-- proofs/Wall.antt computes them.
-- Assumes nothing: these are definitions.
use Rattle.std.specs.Prelude.{◌≡◌, List, [], ◌∷◌, ◌++◌, ℕ, replicate, drop, None}
use Rattle.octets.specs.Verdict.{Verdict, refuse, accept}
use Rattle.frame_encoder.specs.Frames.{Settings}
use Rattle.connection_state.specs.States.{State, HeaderSent, HeaderExchange, Opened, End}
use Rattle.connection_model.specs.Connection.{dialler, Connection, fresh, Call, send_header_to, receive_header_from, send_open_to, receive_frame, send_close_to, allocate, deallocate, Answer, wrote, header, other_protocol, nothing_to_do, forward, channel, freed, Seen, seen, run, seen_in}

-- ---- what is sent and read

-- container p1, max-frame-size 4096, channel-max 7, no idle-time-out
abbrev pub p1 : Settings
p1 = record { container_id = 0x70 ∷ 0x31 ∷ []; max_frame_size = 4096; channel_max = 7; idle_time_out = None }

-- the lent output before a call
unfoldable pub out : List ℕ
out = replicate 16384 0xEE

-- 414D5150 with an id, version 1.0.0
unfoldable pub amqp : ℕ → List ℕ
amqp id = 0x41 ∷ 0x4D ∷ 0x51 ∷ 0x50 ∷ id ∷ 0x01 ∷ 0x00 ∷ 0x00 ∷ []

-- eight bytes of a frame on channel 0, with the two lower bytes of its length
unfoldable pub first_eight : ℕ → ℕ → List ℕ
first_eight high low = 0x00 ∷ 0x00 ∷ high ∷ low ∷ 0x02 ∷ 0x00 ∷ 0x00 ∷ 0x00 ∷ []

-- the peer's Open: container-id h, channel-max 3
unfoldable pub peer_open : List ℕ
peer_open = 0x00 ∷ 0x00 ∷ 0x00 ∷ 0x16 ∷ 0x02 ∷ 0x00 ∷ 0x00 ∷ 0x00 ∷ 0x00 ∷ 0x53 ∷ 0x10 ∷ 0xC0 ∷ 0x09 ∷ 0x04 ∷ 0xA1 ∷ 0x01 ∷ 0x68 ∷ 0x40 ∷ 0x40 ∷ 0x60 ∷ 0x00 ∷ 0x03 ∷ []

-- a Begin on channel 5 for the outgoing channel 2, and an Attach on channel 5
unfoldable pub begin : List ℕ
begin = 0x00 ∷ 0x00 ∷ 0x00 ∷ 0x14 ∷ 0x02 ∷ 0x00 ∷ 0x00 ∷ 0x05 ∷ 0x00 ∷ 0x53 ∷ 0x11 ∷ 0xC0 ∷ 0x07 ∷ 0x04 ∷ 0x60 ∷ 0x00 ∷ 0x02 ∷ 0x43 ∷ 0x43 ∷ 0x43 ∷ []

unfoldable pub attach : List ℕ
attach = 0x00 ∷ 0x00 ∷ 0x00 ∷ 0x0C ∷ 0x02 ∷ 0x00 ∷ 0x00 ∷ 0x05 ∷ 0x00 ∷ 0x53 ∷ 0x12 ∷ 0x45 ∷ []

-- ---- connections

abbrev pub header_sent : Connection
header_sent = run dialler p1 fresh (send_header_to out ∷ [])

-- the reading limit is 512 until the peer's Open
abbrev pub header_exchanged : Connection
header_exchanged = run dialler p1 header_sent (receive_header_from (amqp 0x00) ∷ [])

abbrev pub both_open : Connection
both_open = run dialler p1 header_exchanged (send_open_to out ∷ receive_frame peer_open 0 ∷ [])

-- 0 to 3, by the handles 10 to 13
abbrev pub four_taken : Connection
four_taken = run dialler p1 both_open (allocate 10 ∷ allocate 11 ∷ allocate 12 ∷ allocate 13 ∷ [])

-- ---- what calls come to

pub record Drawn : Type 0 where
  pub answers : List (Verdict Answer)
  pub state : State

abbrev pub answers_of : List Seen → List (Verdict Answer)
answers_of [] = []
answers_of (s ∷ ss) = s.answer ∷ answers_of ss

abbrev pub drawn : Connection → List Call → Drawn
drawn c calls = record { answers = answers_of (seen_in dialler p1 c calls); state = (run dialler p1 c calls).state }

infix 5 ◌leaving◌
abbrev pub ◌leaving◌ : List (Verdict Answer) → State → Drawn
answers leaving x = record { answers = answers; state = x }

-- n bytes are written at the front of the output, and behind them it is as it was
abbrev pub writing : ℕ → List ℕ → Seen
writing n bytes = record { answer = accept (wrote n); output = bytes ++ drop n out }

-- ---- the cases

abbrev pub Wall : Type 0
Wall =
    -- HeaderSent, 414D5150 00010000: HeaderExchange
    (drawn header_sent (receive_header_from (amqp 0x00) ∷ []) ≡ ((accept (header 8) ∷ []) leaving HeaderExchange))
    -- with id 03: "other protocol", End
    × (drawn header_sent (receive_header_from (amqp 0x03) ∷ []) ≡ ((accept (other_protocol 8) ∷ []) leaving End))
    -- with id 01: 2, still HeaderSent
    × (drawn header_sent (receive_header_from (amqp 0x01) ∷ []) ≡ ((refuse 2 ∷ []) leaving HeaderSent))
    -- 00000008 02000000: nothing to do
    × (drawn header_exchanged (receive_frame (first_eight 0x00 0x08) 0 ∷ []) ≡ ((accept (nothing_to_do 8) ∷ []) leaving HeaderExchange))
    -- length 7: 3
    × (drawn header_exchanged (receive_frame (first_eight 0x00 0x07) 0 ∷ []) ≡ ((refuse 3 ∷ []) leaving HeaderExchange))
    -- limit 512: length 512 wants more bytes (1)
    × (drawn header_exchanged (receive_frame (first_eight 0x02 0x00) 0 ∷ []) ≡ ((refuse 1 ∷ []) leaving HeaderExchange))
    -- 513 gives 4
    × (drawn header_exchanged (receive_frame (first_eight 0x02 0x01) 0 ∷ []) ≡ ((refuse 4 ∷ []) leaving HeaderExchange))
    -- container p1, 4096, channel-max 7, no idle: 0000001B 02000000 005310 C00E04 A1027031 40 7000001000 600007
    × (seen dialler p1 header_exchanged (send_open_to out)
    ≡ writing 27
    (0x00 ∷ 0x00 ∷ 0x00 ∷ 0x1B ∷ 0x02 ∷ 0x00 ∷ 0x00 ∷ 0x00 ∷ 0x00 ∷ 0x53 ∷ 0x10 ∷ 0xC0 ∷ 0x0E ∷ 0x04 ∷ 0xA1 ∷ 0x02 ∷ 0x70 ∷ 0x31 ∷ 0x40
    ∷ 0x70 ∷ 0x00 ∷ 0x00 ∷ 0x10 ∷ 0x00 ∷ 0x60 ∷ 0x00 ∷ 0x07 ∷ []))
    -- local 7, peer 3: 0, 1, 2, 3, then 23
    × (drawn both_open (allocate 10 ∷ allocate 11 ∷ allocate 12 ∷ allocate 13 ∷ allocate 14 ∷ [])
    ≡ ((accept (channel 0) ∷ accept (channel 1) ∷ accept (channel 2) ∷ accept (channel 3) ∷ refuse 23 ∷ []) leaving Opened))
    -- free 1, then 3: next 3, then 1
    × (drawn four_taken (deallocate 1 ∷ deallocate 3 ∷ allocate 15 ∷ allocate 16 ∷ [])
    ≡ ((accept (freed 11) ∷ accept (freed 13) ∷ accept (channel 3) ∷ accept (channel 1) ∷ []) leaving Opened))
    -- Begin on 5 for r = 2, free 2: Attach on 5 gives 24; Begin for 2 gives 24
    × (drawn four_taken (receive_frame begin 0 ∷ deallocate 2 ∷ receive_frame attach 0 ∷ receive_frame begin 0 ∷ [])
    ≡ ((accept (forward 20 17 12 8 12) ∷ accept (freed 12) ∷ refuse 24 ∷ refuse 24 ∷ []) leaving Opened))
    -- Close without error: 0000000C 02000000 005318 45
    × (seen dialler p1 both_open (send_close_to None out)
    ≡ writing 12 (0x00 ∷ 0x00 ∷ 0x00 ∷ 0x0C ∷ 0x02 ∷ 0x00 ∷ 0x00 ∷ 0x00 ∷ 0x00 ∷ 0x53 ∷ 0x18 ∷ 0x45 ∷ []))
