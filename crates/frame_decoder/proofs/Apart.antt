-- What the answers say tells every two answers apart: from what is said the answer is found again. Results: `same_frame`, `same_frames`.
-- Assumes nothing.
use mathlib.Core.Path.{◌≡◌, refl, sym, ap, ◌∙◌}
use mathlib.Core.Bool.{cond}
use mathlib.Core.List.{List, [], ◌∷◌}
use Rattle.std.specs.Prelude.{Option, None, Some, Result, Ok, Err}
use Prim.Native.Nat.{ℕ}
use lib.ListN.{get_or}
use lib.Dec.{eqb}
use Rattle.octets.specs.Refusal.{judged}
use Rattle.octets.specs.declared.Refusal.{Refusal}
use Rattle.octets.proofs.Refusals.{same_refusal, same_judged}
use Rattle.performatives.specs.declared.Performative.{Performative}
use Rattle.performatives.specs.declared.Performative.TheVariants.{Open, Begin, Attach, Flow, Transfer, Disposition, Detach, End, Close}
use Rattle.performatives.specs.declared.Condition.{Condition}
use Rattle.performatives.specs.Performative.{Said}
use Rattle.frame_decoder.specs.declared.Frame.{Frame}
use Rattle.frame_decoder.specs.declared.Frame.TheVariants.{Empty, Body}
use Rattle.frame_decoder.specs.Frame.{FrameSaid}
use Rattle.frame_decoder.specs.Answers.{ending_at, shown, frame_says}

abbrev opening : List ℕ → Performative
opening l = Open (get_or l 0 0) (get_or l 1 0) (get_or l 2 0)

abbrev remote : List ℕ → Option ℕ
remote [] = None
remote (n ∷ l) = Some n

abbrev condition : List ℕ → Option Condition
condition [] = None
condition (a ∷ l) = Some (record { from = a; len = get_or l 0 0 })

abbrev heard : Said → Performative
heard d =
    cond (eqb d.code 16) (opening d.values)
    (cond (eqb d.code 17) (Begin (remote d.values))
    (cond (eqb d.code 18) Attach
    (cond (eqb d.code 19) Flow
    (cond (eqb d.code 20) Transfer
    (cond (eqb d.code 21) Disposition
    (cond (eqb d.code 22) (Detach (condition d.values))
    (cond (eqb d.code 23) (End (condition d.values))
    (Close (condition d.values)))))))))

heard_is : (end : ℕ) (p : Performative) → heard (ending_at end p) ≡ p
heard_is end (Open a b c) = refl
heard_is end (Begin None) = refl
heard_is end (Begin (Some n)) = refl
heard_is end Attach = refl
heard_is end Flow = refl
heard_is end Transfer = refl
heard_is end Disposition = refl
heard_is end (Detach None) = refl
heard_is end (Detach (Some c)) = refl
heard_is end (End None) = refl
heard_is end (End (Some c)) = refl
heard_is end (Close None) = refl
heard_is end (Close (Some c)) = refl

abbrev holds : FrameSaid → Option Said → Frame
holds x None = Empty x.channel x.size x.from
holds x (Some d) = Body x.channel x.size x.from (heard d) d.end

abbrev held : FrameSaid → Frame
held x = holds x x.content

held_is : (f : Frame) → held (shown f) ≡ f
held_is (Empty channel size from) = refl
held_is (Body channel size from p end) = ap (λ (q : Performative). Body channel size from q end) (heard_is end p)

same_shown : (f g : Frame) → shown f ≡ shown g → f ≡ g
same_shown f g e = sym (held_is f) ∙ ap held e ∙ held_is g

pub same_frame : (f g : Result Frame Refusal) → frame_says f ≡ frame_says g → f ≡ g
same_frame (Ok f) (Ok g) e = ap Ok (same_shown f g (cc))
same_frame (Err k) (Err l) e = ap Err (same_refusal k l (cc))
same_frame (Ok f) (Err l) e = absurd (cc)
same_frame (Err k) (Ok g) e = absurd (cc)

pub same_frames : (f g : Result ℕ Refusal) → judged f ≡ judged g → f ≡ g
same_frames f g e = same_judged f g e
