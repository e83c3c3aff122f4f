-- Errors inside an event: what the peer is told of each, and which outcome it leads to.
-- Assumes nothing.
use mathlib.Core.Path.{◌≡◌, refl, sym, ◌∙◌, ap, subst}
use mathlib.Core.Bool.{true, false, not}
use mathlib.Core.List.{List, [], ◌∷◌}
use Rattle.std.specs.Prelude.{Option, None, Some}
use Prim.Native.Nat.{ℕ, ◌+◌, ◌*◌, ◌-◌, ◌/◌, ◌≤◌, ◌<◌}
use native.Mathlib.Omega.{arith}
use lib.ListN.{get_or}
use lib.Dec.{leb}
use borrow.Author.Tests.{le-leb, lt-leb}
use types.Run.{OneOf, miss}
use denote.Enum.Declared.{tag_of}
use Rattle.octets.specs.Verdict.{Verdict, refuse}
use Rattle.frame_encoder.specs.Frames.{ErrorText}
use Rattle.connection_model.specs.Connection.{Answer, send_close_to}
use Rattle.connection.specs.View as View
use Rattle.connection.specs.Promises as C
use Rattle.connection.specs.declared.Connection.{Connection}
use Rattle.engine_model.specs.Engine.{illegal}
use Rattle.engine_model.specs.Texts.{not_found_condition, not_implemented_condition, no_session, no_outgoing_channel, no_remote_session}
use Rattle.engine.specs.declared.error.InnerError.{InnerError}
use Rattle.engine.specs.declared.error.InnerError.TheVariants.{TransportError, IllegalState, NotFound, SessionNotFound, OutgoingChannelNotFound, NotImplemented, RemoteSession}
use Rattle.engine.specs.contracts.error.InnerError.{the_type}
use Rattle.engine.specs.Answers.{error_says}
use Rattle.engine.specs.Promises.{SendsError}

abbrev text : List ℕ → Option (List ℕ) → ErrorText
text condition description = record { condition = condition; description = description }

-- by the error's place
abbrev texts : List ErrorText
texts =
    illegal.error ∷ illegal.error ∷ text not_found_condition None ∷ text not_found_condition (Some no_session) ∷ text not_found_condition (Some no_outgoing_channel)
    ∷ text not_implemented_condition None ∷ text not_implemented_condition (Some no_remote_session) ∷ []

abbrev pub text_at : ℕ → ErrorText
text_at i = get_or texts i illegal.error

module _ (c : Connection) (out : List ℕ) where
  pub told_nothing : (error : InnerError) → OneOf (0 ∷ []) (tag_of the_type error) → (t id : List ℕ) → SendsError (error_says error) (View.whole c t id) (refuse 27) out out (View.whole c t id)
  told_nothing TransportError o t id = (refl, refl, refl)
  told_nothing IllegalState o t id = absurd (miss (0 ∷ []) 1 tt o)
  told_nothing NotFound o t id = absurd (miss (0 ∷ []) 2 tt o)
  told_nothing SessionNotFound o t id = absurd (miss (0 ∷ []) 3 tt o)
  told_nothing OutgoingChannelNotFound o t id = absurd (miss (0 ∷ []) 4 tt o)
  told_nothing NotImplemented o t id = absurd (miss (0 ∷ []) 5 tt o)
  told_nothing RemoteSession o t id = absurd (miss (0 ∷ []) 6 tt o)

  module _ (a : Verdict Answer) (out' : List ℕ) (d : Connection) where
    abbrev Sends : ErrorText → Type 0
    Sends e = (t id : List ℕ) → C.Does (send_close_to (Some e) out) (View.whole c t id) a out' (View.whole d t id)

    told_at : (error : InnerError) → 1 ≤ tag_of the_type error → Sends (text_at (tag_of the_type error)) → (t id : List ℕ) → SendsError (error_says error) (View.whole c t id) a out out' (View.whole d t id)
    told_at TransportError l p t id = let z : 1 ≤ 0 = l in absurd (omega arith)
    told_at IllegalState l p t id = p t id
    told_at NotFound l p t id = p t id
    told_at SessionNotFound l p t id = p t id
    told_at OutgoingChannelNotFound l p t id = p t id
    told_at NotImplemented l p t id = p t id
    told_at RemoteSession l p t id = p t id

    pub told : (i : ℕ) (error : InnerError) (e : ErrorText) → OneOf (i ∷ []) (tag_of the_type error) → 1 ≤ i → text_at i ≡ e → Sends e → (t id : List ℕ) → SendsError (error_says error) (View.whole c t id) a out out' (View.whole d t id)
    told i error e o l q p = told_at error (subst (λ n. 1 ≤ n) (sym o) l) (subst Sends (sym (ap text_at o ∙ q)) p)

-- ---- room

pub no_room : (output lent : ℕ) → output < 16384 → true ≡ not (leb (16384 + 2 * lent) output)
no_room output lent l = ap not (sym (lt-leb (16384 + 2 * lent) output (omega arith)))

pub little_room : (output lent : ℕ) → 16384 ≤ output → (output - 16384) / 2 < lent → true ≡ not (leb (16384 + 2 * lent) output)
little_room output lent l m = ap not (sym (lt-leb (16384 + 2 * lent) output (omega arith)))

pub room_enough : (output lent : ℕ) → 16384 ≤ output → lent ≤ (output - 16384) / 2 → false ≡ not (leb (16384 + 2 * lent) output)
room_enough output lent l m = ap not (sym (le-leb (16384 + 2 * lent) output (omega arith)))
