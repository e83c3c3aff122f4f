-- The states of a connection and the moves between them: Part 2 section 2.4.6, as document 01 has them under "The connection's calls".
-- Assumes nothing: these are definitions.
use Rattle.std.specs.Prelude.{Bool, true, false, cond, List, [], ◌∷◌, ℕ, eqb, Option, None, Some}
use Rattle.octets.specs.Verdict.{Verdict, refuse, accept}

pub data State : Type 0 where
  Start HeaderReceived HeaderSent HeaderExchange OpenPipe OpenClosePipe OpenReceived OpenSent ClosePipe Opened CloseReceived CloseSent Discarding End : State

abbrev pub numbered : State → ℕ
numbered Start = 0
numbered HeaderReceived = 1
numbered HeaderSent = 2
numbered HeaderExchange = 3
numbered OpenPipe = 4
numbered OpenClosePipe = 5
numbered OpenReceived = 6
numbered OpenSent = 7
numbered ClosePipe = 8
numbered Opened = 9
numbered CloseReceived = 10
numbered CloseSent = 11
numbered Discarding = 12
numbered End = 13

abbrev pub states : List State
states =
    Start ∷ HeaderReceived ∷ HeaderSent ∷ HeaderExchange ∷ OpenPipe ∷ OpenClosePipe ∷ OpenReceived
    ∷ OpenSent ∷ ClosePipe ∷ Opened ∷ CloseReceived ∷ CloseSent ∷ Discarding ∷ End ∷ []

-- the first of these that has the number
abbrev pub numbered_in : List State → ℕ → Option State
numbered_in [] k = None
numbered_in (x ∷ xs) k = cond (eqb (numbered x) k) (Some x) (numbered_in xs k)

-- the state that has the number
unfoldable pub with_number : ℕ → Option State
with_number k = numbered_in states k

abbrev pub is : State → State → Bool
is a b = eqb (numbered a) (numbered b)

abbrev pub is_one_of : List State → State → Bool
is_one_of [] x = false
is_one_of (a ∷ as') x = cond (is a x) true (is_one_of as' x)

-- a row of a table: from a state to another
infix 20 ◌⇒◌
pub data Move : Type 0 where
  ◌⇒◌ : State → State → Move

-- where a table leads; a state that it does not name is 20
abbrev pub along : List Move → State → Verdict State
along [] x = refuse 20
along ((a ⇒ b) ∷ moves) x = cond (is a x) (accept b) (along moves x)

abbrev pub send_header : List Move
send_header = (Start ⇒ HeaderSent) ∷ (HeaderReceived ⇒ HeaderExchange) ∷ []

abbrev pub receive_header : List Move
receive_header = (Start ⇒ HeaderReceived) ∷ (HeaderSent ⇒ HeaderExchange) ∷ []

abbrev pub receive_other_header : List Move
receive_other_header = (Start ⇒ End) ∷ (HeaderSent ⇒ End) ∷ []

abbrev pub send_open : List Move
send_open = (HeaderExchange ⇒ OpenSent) ∷ (OpenReceived ⇒ Opened) ∷ (HeaderSent ⇒ OpenPipe) ∷ []

abbrev pub read_open : List Move
read_open = (HeaderExchange ⇒ OpenReceived) ∷ (OpenSent ⇒ Opened) ∷ (ClosePipe ⇒ CloseSent) ∷ []

abbrev pub send_close : List Move
send_close = (Opened ⇒ CloseSent) ∷ (OpenSent ⇒ ClosePipe) ∷ (OpenPipe ⇒ OpenClosePipe) ∷ (CloseReceived ⇒ End) ∷ []

abbrev pub send_close_with_error : List Move
send_close_with_error = (Opened ⇒ Discarding) ∷ (OpenSent ⇒ Discarding) ∷ (OpenPipe ⇒ Discarding) ∷ (CloseReceived ⇒ End) ∷ []

abbrev pub read_close : List Move
read_close =
    (Opened ⇒ CloseReceived) ∷ (OpenPipe ⇒ CloseReceived) ∷ (OpenClosePipe ⇒ CloseReceived) ∷ (OpenReceived ⇒ CloseReceived)
    ∷ (OpenSent ⇒ CloseReceived) ∷ (CloseSent ⇒ End) ∷ (Discarding ⇒ End) ∷ []

-- sessions' frames are read, and sent, in these
abbrev pub reading : List State
reading = Opened ∷ []

abbrev pub sending : List State
sending = Opened ∷ CloseReceived ∷ []

-- a connection is in these only before the peer's Open, and only after it
abbrev pub before_open : List State
before_open = Start ∷ HeaderReceived ∷ HeaderSent ∷ HeaderExchange ∷ OpenPipe ∷ OpenClosePipe ∷ OpenSent ∷ ClosePipe ∷ []

abbrev pub after_open : List State
after_open = OpenReceived ∷ Opened ∷ CloseSent ∷ []

-- no channel is given in these: 22
abbrev pub stopped : List State
stopped = CloseSent ∷ Discarding ∷ End ∷ []

-- a tick writes nothing in these
abbrev pub silent : List State
silent = Start ∷ CloseSent ∷ []
