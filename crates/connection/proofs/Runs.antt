-- Runs of the code: what a caller can see who makes connections with the constructors and hands them from method to method, with the tables and the container-id that belong to each.
--
-- `NAMEReads.Learnt` is the contract of a method, as the checker has it from the source: what a caller learns of the arguments, the result and the last values of what was lent. A step's only evidence is that the contract of its own
-- method holds; nothing else is said here of what a method answers.
--
-- What goes from step to step is a connection with its tables and its container-id. A call that is lent the tables finds them as the last such call left them, and one that is not leaves them: nobody else writes the tables meanwhile. That they
-- are long enough need not be said, since a constructor refuses tables that are too short with 8, and no call changes their length. What is lent are slices of bytes that memory can hold.
-- Assumes nothing: these are definitions.
use mathlib.Core.Path.{◌≡◌}
use mathlib.Core.Bool.{true}
use mathlib.Core.List.{List, [], ◌∷◌}
use Rattle.std.specs.Prelude.{None, Some, Ok}
use Prim.Native.Nat.{ℕ}
use contract.Lifetimes.{Lfts}
use denote.Triple.Clauses.{AtExit}
use borrow.Fn.Kinds.{ParamKind, ResultKind, Dens, res_t, ended_of, Out}
use Rattle.octets.specs.Verdict.{Verdict}
use Rattle.frame_encoder.specs.Frames.{Settings}
use Rattle.frame_encoder.specs.Answers.{settings_say, error_text}
use Rattle.connection_model.specs.Connection as M
use Rattle.connection_model.specs.Connection.{Role, Answer, Call, Seen}
use Rattle.connection_model.specs.Callers.{is_slice, is_valid}
use Rattle.endpoint.specs.Answers.{answer_says, sent_says, allocate_says}
use Rattle.connection.specs.declared.Connection.{Connection}
use Rattle.connection.specs.View.{Whole, whole, header_says, tick_says, freed_says}
use Rattle.connection.proofs.Connection.send_header.Reads as SendHeaderReads
use Rattle.connection.proofs.Connection.send_header.Kinds as SendHeaderKinds
use Rattle.connection.proofs.Connection.receive_header.Reads as ReceiveHeaderReads
use Rattle.connection.proofs.Connection.receive_header.Kinds as ReceiveHeaderKinds
use Rattle.connection.proofs.Connection.send_open.Reads as SendOpenReads
use Rattle.connection.proofs.Connection.send_open.Kinds as SendOpenKinds
use Rattle.connection.proofs.Connection.send_close.Reads as SendCloseReads
use Rattle.connection.proofs.Connection.send_close.Kinds as SendCloseKinds
use Rattle.connection.proofs.Connection.send_close_with_error.Reads as SendCloseWithErrorReads
use Rattle.connection.proofs.Connection.send_close_with_error.Kinds as SendCloseWithErrorKinds
use Rattle.connection.proofs.Connection.tick.Reads as TickReads
use Rattle.connection.proofs.Connection.tick.Kinds as TickKinds
use Rattle.connection.proofs.Connection.allocate_session.Reads as AllocateReads
use Rattle.connection.proofs.Connection.allocate_session.Kinds as AllocateKinds
use Rattle.connection.proofs.Connection.deallocate_session.Reads as DeallocateReads
use Rattle.connection.proofs.Connection.deallocate_session.Kinds as DeallocateKinds
use Rattle.connection.proofs.Connection.send_session_frame.Reads as SendSessionFrameReads
use Rattle.connection.proofs.Connection.send_session_frame.Kinds as SendSessionFrameKinds
use Rattle.connection.proofs.Connection.receive_frame.Reads as ReceiveFrameReads
use Rattle.connection.proofs.Connection.receive_frame.Kinds as ReceiveFrameKinds
use Rattle.connection.proofs.Connection.dialler.Reads as DiallerReads
use Rattle.connection.proofs.Connection.dialler.Kinds as DiallerKinds
use Rattle.connection.proofs.Connection.listener.Reads as ListenerReads
use Rattle.connection.proofs.Connection.listener.Kinds as ListenerKinds

-- a method was called with these arguments, and gave this result and these last values: its own contract holds of them
pub record Returned (n : ℕ) (ps : List (ParamKind n)) (k : ResultKind n) (contract : Out n ps k) : Type 0 where
  pub lifetimes : Lfts n
  pub args : Dens lifetimes ps
  pub result : (res_t k lifetimes).Denot
  pub exits : AtExit (ended_of n ps k) lifetimes
  pub holds : contract lifetimes args result exits

-- a method was called, of which its contract holds
abbrev pub SendHeader : Type 0
SendHeader = Returned 1 SendHeaderKinds.ps SendHeaderKinds.r SendHeaderReads.Learnt

abbrev pub ReceiveHeader : Type 0
ReceiveHeader = Returned 1 ReceiveHeaderKinds.ps ReceiveHeaderKinds.r ReceiveHeaderReads.Learnt

abbrev pub SendOpen : Type 0
SendOpen = Returned 2 SendOpenKinds.ps SendOpenKinds.r SendOpenReads.Learnt

abbrev pub SendClose : Type 0
SendClose = Returned 1 SendCloseKinds.ps SendCloseKinds.r SendCloseReads.Learnt

abbrev pub SendCloseWithError : Type 0
SendCloseWithError = Returned 3 SendCloseWithErrorKinds.ps SendCloseWithErrorKinds.r SendCloseWithErrorReads.Learnt

abbrev pub Tick : Type 0
Tick = Returned 1 TickKinds.ps TickKinds.r TickReads.Learnt

abbrev pub Allocate : Type 0
Allocate = Returned 1 AllocateKinds.ps AllocateKinds.r AllocateReads.Learnt

abbrev pub Deallocate : Type 0
Deallocate = Returned 1 DeallocateKinds.ps DeallocateKinds.r DeallocateReads.Learnt

abbrev pub SendSessionFrame : Type 0
SendSessionFrame = Returned 3 SendSessionFrameKinds.ps SendSessionFrameKinds.r SendSessionFrameReads.Learnt

abbrev pub ReceiveFrame : Type 0
ReceiveFrame = Returned 2 ReceiveFrameKinds.ps ReceiveFrameKinds.r ReceiveFrameReads.Learnt

abbrev pub Dialler : Type 0
Dialler = Returned 3 DiallerKinds.ps DiallerKinds.r DiallerReads.Learnt

abbrev pub Listener : Type 0
Listener = Returned 3 ListenerKinds.ps ListenerKinds.r ListenerReads.Learnt

-- one call of the code: a method was called, and this is what its caller sees. Where it was lent no tables, or no container-id, these are whatever they are
pub data Step : Call → Whole → Verdict Answer → List ℕ → Whole → Type 0 where
  send_header_step : (x : SendHeader) (t id : List ℕ)
      → Step (M.send_header_to x.args.1.0.now) (whole x.args.0 t id) (sent_says x.result.answer) x.exits.1.0.now (whole x.result.connection t id)
  receive_header_step : (x : ReceiveHeader) (t id : List ℕ)
      → Step (M.receive_header_from x.args.1.0.now) (whole x.args.0 t id) (header_says x.result.answer) [] (whole x.result.connection t id)
  send_open_step : (x : SendOpen) (t : List ℕ)
      → Step (M.send_open_to x.args.1.1.0.now) (whole x.args.0 t x.args.1.0.now) (sent_says x.result.answer) x.exits.1.1.0.now (whole x.result.connection t x.args.1.0.now)
  send_close_step : (x : SendClose) (t id : List ℕ)
      → Step (M.send_close_to None x.args.1.0.now) (whole x.args.0 t id) (sent_says x.result.answer) x.exits.1.0.now (whole x.result.connection t id)
  send_close_with_error_step : (x : SendCloseWithError) (t id : List ℕ)
      → Step (M.send_close_to (Some (error_text x.args.1.0.now)) x.args.1.1.0.now) (whole x.args.0 t id) (sent_says x.result.answer) x.exits.1.1.0.now (whole x.result.connection t id)
  tick_step : (x : Tick) (t id : List ℕ)
      → Step (M.tick x.args.1.0.now) (whole x.args.0 t id) (tick_says x.result.answer) x.exits.1.0.now (whole x.result.connection t id)
  allocate_session_step : (x : Allocate) (id : List ℕ)
      → Step (M.allocate x.args.1.1.0) (whole x.args.0 x.args.1.0.now id) (allocate_says x.result.answer) [] (whole x.result.connection x.exits.1.0.now id)
  deallocate_session_step : (x : Deallocate) (id : List ℕ)
      → Step (M.deallocate x.args.1.1.0) (whole x.args.0 x.args.1.0.now id) (freed_says x.result.answer) [] (whole x.result.connection x.exits.1.0.now id)
  send_session_frame_step : (x : SendSessionFrame) (id : List ℕ)
      → Step (M.send_session_frame x.args.1.1.0.now x.args.1.1.1.0.now) (whole x.args.0 x.args.1.0.now id) (sent_says x.result.answer) x.exits.1.1.1.0.now (whole x.result.connection x.exits.1.0.now id)
  receive_frame_step : (x : ReceiveFrame) (id : List ℕ)
      → Step (M.receive_frame x.args.1.1.0.now x.args.1.1.1.0) (whole x.args.0 x.args.1.0.now id) (answer_says x.result.answer) [] (whole x.result.connection x.exits.1.0.now id)

-- tables and container-id are slices of bytes that memory can hold
pub record Slices (w : Whole) : Type 0 where
  pub tables_slice : is_slice w.tables ≡ true
  pub id_slice : is_slice w.id ≡ true

-- a connection that a constructor made, with the tables as the constructor left them
pub data New : Role → Settings → Whole → Type 0 where
  dialled : (x : Dialler) (c : Connection) → x.result ≡ Ok c → Slices (whole c x.exits.1.0.now x.args.0.now.container_id.now)
      → New M.dialler (settings_say x.args.0.now) (whole c x.exits.1.0.now x.args.0.now.container_id.now)
  listened : (x : Listener) (c : Connection) → x.result ≡ Ok c → Slices (whole c x.exits.1.0.now x.args.0.now.container_id.now)
      → New M.listener (settings_say x.args.0.now) (whole c x.exits.1.0.now x.args.0.now.container_id.now)

-- a list of calls, each given the connection that the last one gave back, with its tables and its container-id
pub data Runs : List Call → Whole → List Seen → Whole → Type 0 where
  done : {w : Whole} → Runs [] w [] w
  then : {call : Call} {calls : List Call} {w v u : Whole} {a : Verdict Answer} {out : List ℕ} {seens : List Seen}
      → Step call w a out v → is_slice v.tables ≡ true → Runs calls v seens u → Runs (call ∷ calls) w (record { answer = a; output = out } ∷ seens) u

-- ---- that every method returns on every argument, which is what it is for it to be proved

pub record Next (call : Call) (w : Whole) : Type 0 where
  pub answer : Verdict Answer
  pub output : List ℕ
  pub later : Whole
  pub step : Step call w answer output later
  -- the tables are a slice again
  pub later_slice : is_slice later.tables ≡ true

abbrev pub Returns : Type 0
Returns = (call : Call) → is_valid call ≡ true → (w : Whole) → Slices w → Next call w
