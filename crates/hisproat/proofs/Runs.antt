-- Runs of the library for C: what a firmware can see that makes an engine in lent bytes and hands these from call to call, with nobody else writing to them.
--
-- As in crates/connection/proofs/Runs.antt, a step's only evidence is the contract of its own function, as the checker has it from the source.
-- Assumes nothing: these are definitions.
use mathlib.Core.Path.{◌≡◌}
use mathlib.Core.List.{List, [], ◌∷◌}
use Rattle.std.specs.Prelude.{None, Some}
use Prim.Native.Nat.{ℕ}
use Rattle.frame_encoder.specs.Frames.{Settings}
use Rattle.connection_model.specs.Connection as M
use Rattle.connection_model.specs.Connection.{Role}
use Rattle.connection.proofs.Runs.{Returned}
use Rattle.engine_model.specs.Engine.{Event, send_header, receive_header, send_open, incoming, close_order, allocate, deallocate, outgoing, tick, end_of_input, not_delivered}
use Rattle.hisproat.specs.Answers.{flagged, settings_of, error_of}
use Rattle.hisproat.specs.Crossing.{Crossing, crossing, Shown, shown}
use Rattle.hisproat.specs.Lists.{Called}
use Rattle.hisproat.proofs.hisproat_send_header.Reads as SendHeaderReads
use Rattle.hisproat.proofs.hisproat_send_header.Kinds as SendHeaderKinds
use Rattle.hisproat.proofs.hisproat_receive_header.Reads as ReceiveHeaderReads
use Rattle.hisproat.proofs.hisproat_receive_header.Kinds as ReceiveHeaderKinds
use Rattle.hisproat.proofs.hisproat_send_open.Reads as SendOpenReads
use Rattle.hisproat.proofs.hisproat_send_open.Kinds as SendOpenKinds
use Rattle.hisproat.proofs.hisproat_on_incoming.Reads as OnIncomingReads
use Rattle.hisproat.proofs.hisproat_on_incoming.Kinds as OnIncomingKinds
use Rattle.hisproat.proofs.hisproat_on_close.Reads as OnCloseReads
use Rattle.hisproat.proofs.hisproat_on_close.Kinds as OnCloseKinds
use Rattle.hisproat.proofs.hisproat_on_close_with_error.Reads as OnCloseWithErrorReads
use Rattle.hisproat.proofs.hisproat_on_close_with_error.Kinds as OnCloseWithErrorKinds
use Rattle.hisproat.proofs.hisproat_on_allocate.Reads as OnAllocateReads
use Rattle.hisproat.proofs.hisproat_on_allocate.Kinds as OnAllocateKinds
use Rattle.hisproat.proofs.hisproat_on_deallocate.Reads as OnDeallocateReads
use Rattle.hisproat.proofs.hisproat_on_deallocate.Kinds as OnDeallocateKinds
use Rattle.hisproat.proofs.hisproat_on_outgoing.Reads as OnOutgoingReads
use Rattle.hisproat.proofs.hisproat_on_outgoing.Kinds as OnOutgoingKinds
use Rattle.hisproat.proofs.hisproat_on_tick.Reads as OnTickReads
use Rattle.hisproat.proofs.hisproat_on_tick.Kinds as OnTickKinds
use Rattle.hisproat.proofs.hisproat_on_end_of_input.Reads as OnEndOfInputReads
use Rattle.hisproat.proofs.hisproat_on_end_of_input.Kinds as OnEndOfInputKinds
use Rattle.hisproat.proofs.hisproat_on_not_delivered.Reads as OnNotDeliveredReads
use Rattle.hisproat.proofs.hisproat_on_not_delivered.Kinds as OnNotDeliveredKinds
use Rattle.hisproat.proofs.hisproat_dialler.Reads as DiallerReads
use Rattle.hisproat.proofs.hisproat_dialler.Kinds as DiallerKinds
use Rattle.hisproat.proofs.hisproat_listener.Reads as ListenerReads
use Rattle.hisproat.proofs.hisproat_listener.Kinds as ListenerKinds

abbrev pub SendHeader : Type 0
SendHeader = Returned 3 SendHeaderKinds.ps SendHeaderKinds.r SendHeaderReads.Learnt

abbrev pub ReceiveHeader : Type 0
ReceiveHeader = Returned 3 ReceiveHeaderKinds.ps ReceiveHeaderKinds.r ReceiveHeaderReads.Learnt

abbrev pub SendOpen : Type 0
SendOpen = Returned 3 SendOpenKinds.ps SendOpenKinds.r SendOpenReads.Learnt

abbrev pub OnIncoming : Type 0
OnIncoming = Returned 5 OnIncomingKinds.ps OnIncomingKinds.r OnIncomingReads.Learnt

abbrev pub OnClose : Type 0
OnClose = Returned 4 OnCloseKinds.ps OnCloseKinds.r OnCloseReads.Learnt

abbrev pub OnCloseWithError : Type 0
OnCloseWithError = Returned 6 OnCloseWithErrorKinds.ps OnCloseWithErrorKinds.r OnCloseWithErrorReads.Learnt

abbrev pub OnAllocate : Type 0
OnAllocate = Returned 2 OnAllocateKinds.ps OnAllocateKinds.r OnAllocateReads.Learnt

abbrev pub OnDeallocate : Type 0
OnDeallocate = Returned 2 OnDeallocateKinds.ps OnDeallocateKinds.r OnDeallocateReads.Learnt

abbrev pub OnOutgoing : Type 0
OnOutgoing = Returned 4 OnOutgoingKinds.ps OnOutgoingKinds.r OnOutgoingReads.Learnt

abbrev pub OnTick : Type 0
OnTick = Returned 3 OnTickKinds.ps OnTickKinds.r OnTickReads.Learnt

abbrev pub OnEndOfInput : Type 0
OnEndOfInput = Returned 3 OnEndOfInputKinds.ps OnEndOfInputKinds.r OnEndOfInputReads.Learnt

abbrev pub OnNotDelivered : Type 0
OnNotDelivered = Returned 3 OnNotDeliveredKinds.ps OnNotDeliveredKinds.r OnNotDeliveredReads.Learnt

abbrev pub Dialler : Type 0
Dialler = Returned 2 DiallerKinds.ps DiallerKinds.r DiallerReads.Learnt

abbrev pub Listener : Type 0
Listener = Returned 2 ListenerKinds.ps ListenerKinds.r ListenerReads.Learnt

-- one call: its event, the state and the answer that are lent, and what came of it
pub data Step : Event → List ℕ → List ℕ → Crossing → Type 0 where
  send_header_step : (x : SendHeader) → Step (send_header x.args.1.0.now) x.args.0.now x.args.1.1.0.now (crossing x.result x.exits.0.now x.exits.1.1.0.now x.exits.1.0.now)
  receive_header_step : (x : ReceiveHeader) → Step (receive_header x.args.1.0.now) x.args.0.now x.args.1.1.0.now (crossing x.result x.exits.0.now x.exits.1.1.0.now [])
  send_open_step : (x : SendOpen) → Step (send_open x.args.1.0.now) x.args.0.now x.args.1.1.0.now (crossing x.result x.exits.0.now x.exits.1.1.0.now x.exits.1.0.now)
  on_incoming_step : (x : OnIncoming) → Step (incoming x.args.1.0.now x.args.1.1.0 x.args.1.1.1.0.now x.args.1.1.1.1.0.now) x.args.0.now x.args.1.1.1.1.1.0.now (crossing x.result x.exits.0.now x.exits.1.1.1.1.1.0.now x.exits.1.1.1.1.0.now)
  on_close_step : (x : OnClose) → Step (close_order None x.args.1.0.now x.args.1.1.0.now) x.args.0.now x.args.1.1.1.0.now (crossing x.result x.exits.0.now x.exits.1.1.1.0.now x.exits.1.1.0.now)
  on_close_with_error_step : (x : OnCloseWithError) → Step (close_order (Some (error_of x.args.1.0.now x.args.1.1.0 x.args.1.1.1.0.now)) x.args.1.1.1.1.0.now x.args.1.1.1.1.1.0.now) x.args.0.now x.args.1.1.1.1.1.1.0.now (crossing x.result x.exits.0.now x.exits.1.1.1.1.1.1.0.now x.exits.1.1.1.1.1.0.now)
  on_allocate_step : (x : OnAllocate) → Step (allocate x.args.1.0) x.args.0.now x.args.1.1.0.now (crossing x.result x.exits.0.now x.exits.1.1.0.now [])
  on_deallocate_step : (x : OnDeallocate) → Step (deallocate x.args.1.0) x.args.0.now x.args.1.1.0.now (crossing x.result x.exits.0.now x.exits.1.1.0.now [])
  on_outgoing_step : (x : OnOutgoing) → Step (outgoing x.args.1.0.now x.args.1.1.0.now) x.args.0.now x.args.1.1.1.0.now (crossing x.result x.exits.0.now x.exits.1.1.1.0.now x.exits.1.1.0.now)
  on_tick_step : (x : OnTick) → Step (tick x.args.1.0.now) x.args.0.now x.args.1.1.0.now (crossing x.result x.exits.0.now x.exits.1.1.0.now x.exits.1.0.now)
  on_end_of_input_step : (x : OnEndOfInput) → Step (end_of_input x.args.1.0.now) x.args.0.now x.args.1.1.0.now (crossing x.result x.exits.0.now x.exits.1.1.0.now x.exits.1.0.now)
  on_not_delivered_step : (x : OnNotDelivered) → Step (not_delivered (flagged x.args.1.0) x.args.1.1.0.now) x.args.0.now x.args.1.1.1.0.now (crossing x.result x.exits.0.now x.exits.1.1.1.0.now x.exits.1.1.0.now)

-- a state in which a new engine was made
pub data New : Role → Settings → List ℕ → Type 0 where
  dialled : (x : Dialler) → x.result ≡ 0
      → New M.dialler (settings_of x.args.1.0.now x.args.1.1.0 x.args.1.1.1.0 x.args.1.1.1.1.0 x.args.1.1.1.1.1.0) x.exits.0.now
  listened : (x : Listener) → x.result ≡ 0
      → New M.listener (settings_of x.args.1.0.now x.args.1.1.0 x.args.1.1.1.0 x.args.1.1.1.1.0 x.args.1.1.1.1.1.0) x.exits.0.now

-- a list of calls, each lent the state that the last one left
pub data Runs : List Called → List ℕ → List Shown → List ℕ → Type 0 where
  done : {s : List ℕ} → Runs [] s [] s
  then : {event : Event} {s a t : List ℕ} {c : Crossing} {calls : List Called} {shows : List Shown}
      → Step event s a c → Runs calls c.state shows t → Runs (record { event = event; answer = a } ∷ calls) s (shown c ∷ shows) t
