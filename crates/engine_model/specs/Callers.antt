-- Which events a caller can pass: slices of bytes that memory can hold, handles of 32 bits, channel numbers of 16.
-- Assumes nothing: these are definitions.
use Rattle.std.specs.Prelude.{◌≡◌, Bool, true, ◌&&◌, List, [], ◌∷◌}
use Rattle.connection_model.specs.Callers.{is_slice, is_handle, is_channel, may_text}
use Rattle.engine_model.specs.Engine.{Event, send_header, receive_header, send_open, incoming, close_order, allocate, deallocate, outgoing, tick, end_of_input, not_delivered}

-- lent output, too, is a slice of bytes
abbrev pub is_valid : Event → Bool
is_valid (send_header out) = is_slice out
is_valid (receive_header s) = is_slice s
is_valid (send_open out) = is_slice out
is_valid (incoming s h w out) = (is_slice s && is_handle h) && (is_slice w && is_slice out)
is_valid (close_order error w out) = may_text error && (is_slice w && is_slice out)
is_valid (allocate h) = is_handle h
is_valid (deallocate ch) = is_channel ch
is_valid (outgoing s out) = is_slice s && is_slice out
is_valid (tick out) = is_slice out
is_valid (end_of_input out) = is_slice out
is_valid (not_delivered new out) = is_slice out

abbrev pub are_valid : List Event → Bool
are_valid [] = true
are_valid (event ∷ events) = is_valid event && are_valid events

-- a list of events that a caller can pass
abbrev pub Valid : List Event → Type 0
Valid events = are_valid events ≡ true
