-- `send_error`: one Close for each error.
-- Assumes nothing.
use mathlib.Core.Path.{refl}
use native.Mathlib.Omega.{arith}
use borrow.Author.Rules.{rules}
use Rattle.engine.proofs.Errors.{told_nothing, told}
use Rattle.engine.proofs.error.send_error.Goals as goal

pub returns-in-TransportError : goal.returns-in-TransportError
returns-in-TransportError c = search (told_nothing, rules)

pub returns-in-IllegalState : goal.returns-in-IllegalState
returns-in-IllegalState c = told _ _ _ _ _ 1 c.args.error _ c.in-IllegalState.in-IllegalState-own.keys2 (omega arith) refl c.send_close_with_error.ensures

pub returns-in-NotFound : goal.returns-in-NotFound
returns-in-NotFound c = told _ _ _ _ _ 2 c.args.error _ c.in-NotFound.in-NotFound-own.keys3 (omega arith) refl c.send_close_with_error-in-NotFound.ensures

pub returns-in-SessionNotFound : goal.returns-in-SessionNotFound
returns-in-SessionNotFound c = told _ _ _ _ _ 3 c.args.error _ c.in-SessionNotFound.in-SessionNotFound-own.keys4 (omega arith) refl c.send_close_with_error-in-SessionNotFound.ensures

pub returns-in-OutgoingChannelNotFound : goal.returns-in-OutgoingChannelNotFound
returns-in-OutgoingChannelNotFound c = told _ _ _ _ _ 4 c.args.error _ c.in-OutgoingChannelNotFound.in-OutgoingChannelNotFound-own.keys5 (omega arith) refl c.send_close_with_error-in-OutgoingChannelNotFound.ensures

pub returns-in-NotImplemented : goal.returns-in-NotImplemented
returns-in-NotImplemented c = told _ _ _ _ _ 5 c.args.error _ c.in-NotImplemented.in-NotImplemented-own.keys6 (omega arith) refl c.send_close_with_error-in-NotImplemented.ensures

pub returns-in-RemoteSession : goal.returns-in-RemoteSession
returns-in-RemoteSession c = told _ _ _ _ _ 6 c.args.error _ c.in-RemoteSession.in-RemoteSession-own.keys7 (omega arith) refl c.send_close_with_error-in-RemoteSession.ensures
