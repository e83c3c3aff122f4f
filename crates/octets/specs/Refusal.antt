-- Why a call refuses, and the number of each refusal.
-- Assumes nothing: these are definitions.
use Rattle.std.specs.Prelude.{ℕ, Result, Ok, Err}
use Rattle.octets.specs.Verdict.{Verdict, refuse, accept}
use Rattle.octets.specs.declared.Refusal.{Refusal}
use Rattle.octets.specs.declared.Refusal.TheVariants.{BytesMissing, HeaderMalformed, TooShort, OverReadingLimit, WrongType, BodyMalformed, ChannelTooHigh, OutOfBounds, NoRoom, IllegalState, NotOpened, Stopped, NoChannelLeft, NotFound, NotImplemented, NotTaken, OverWritingLimit}

abbrev pub number_of : Refusal → ℕ
-- bytes are missing
number_of BytesMissing = 1
-- a protocol header is malformed
number_of HeaderMalformed = 2
-- a frame's length is under 8
number_of TooShort = 3
-- a frame is over the reading limit
number_of OverReadingLimit = 4
-- a frame's type is not 0, or its doff not 2
number_of WrongType = 5
-- a frame's body is malformed
number_of BodyMalformed = 6
-- a channel is above the channel-max
number_of ChannelTooHigh = 7
-- a setting or an error's text is beyond its limit, tables are too short for the channel-max, or a state is no engine's
number_of OutOfBounds = 8
-- a lent output or answer is too small
number_of NoRoom = 9
-- the state does not allow the call
number_of IllegalState = 20
-- the connection is not opened
number_of NotOpened = 21
-- the connection has stopped
number_of Stopped = 22
-- no channel is left
number_of NoChannelLeft = 23
-- what was asked for is not there
number_of NotFound = 24
-- the call is not implemented
number_of NotImplemented = 25
-- a channel is not taken
number_of NotTaken = 26
-- a frame is over the writing limit
number_of OverWritingLimit = 27

-- a result as a verdict: what was found, or the refusal's number
abbrev pub judged : {A : Type 0} → Result A Refusal → Verdict A
judged (Ok a) = accept a
judged (Err e) = refuse (number_of e)
