-- What is written behind what stands there already.
-- Assumes nothing.
use mathlib.Core.Path.{◌≡◌, refl, sym, ◌∙◌, ap}
use mathlib.Core.List.{List, [], ◌++◌, append_assoc, append-nil}
use Prim.Native.Nat.{ℕ, ◌+◌, ◌-◌, ◌≤◌}
use native.Mathlib.Omega.{arith}
use lib.ListN.{length, take, drop, length-append, length-drop}
use lib.Seq.{take_all, drop-append_seam, take-append_seam, drop-drop, drop-length}
use Rattle.octets.specs.Verdict.{accept}
use Rattle.octets.specs.Output.{laid}

pub laid_is : (b lent : List ℕ) → laid (accept b) lent ≡ b ++ drop (length b) lent
unfolding laid
laid_is b lent = refl

-- the rest of an output, as it is handed down
pub rest_is : (o : List ℕ) (n : ℕ) → take (length o - n) (drop n o) ≡ drop n o
rest_is o n = take_all (length o - n) (drop n o) (let l : length (drop n o) ≡ length o - n = length-drop n o in omega arith)

none_after : (o : List ℕ) (n : ℕ) → drop (length o - n) (drop n o) ≡ []
none_after o n = ap (λ k. drop k (drop n o)) (sym (length-drop n o)) ∙ drop-length (drop n o)

-- of an output in front of which b stands, the rest is that of what was lent
pub rest_lent : (b lent o : List ℕ) (n : ℕ) → n ≡ length b → o ≡ laid (accept b) lent → drop n o ≡ drop n lent
rest_lent b lent o n e p = ap (λ k. drop k o) e ∙ ap (drop (length b)) (p ∙ laid_is b lent) ∙ drop-append_seam b (drop (length b) lent) ∙ ap (λ k. drop k lent) (sym e)

-- w behind b
pub laid_behind :
    (b w lent o s : List ℕ) (n : ℕ) → n ≡ length b → o ≡ laid (accept b) lent → s ≡ laid (accept w) (take (length o - n) (drop n o))
    → take n o ++ (s ++ drop (length o - n) (drop n o)) ≡ laid (accept (b ++ w)) lent
laid_behind b w lent o s n e p q =
    let front : take n o ≡ b = ap (λ k. take k o) e ∙ ap (take (length b)) (p ∙ laid_is b lent) ∙ take-append_seam b (drop (length b) lent) in
    let back : s ≡ w ++ drop (length w) (drop n lent) = q ∙ ap (laid (accept w)) (rest_is o n ∙ rest_lent b lent o n e p) ∙ laid_is w (drop n lent) in
    let tail : drop (length w) (drop n lent) ≡ drop (length (b ++ w)) lent = drop-drop (length w) n lent ∙ ap (λ k. drop k lent) (ap (λ k. k + length w) e ∙ sym (length-append b w)) in
    ap (λ x. x ++ (s ++ drop (length o - n) (drop n o))) front
    ∙ ap (λ x. b ++ (s ++ x)) (none_after o n)
    ∙ ap (λ x. b ++ x) (append-nil s ∙ back ∙ ap (λ x. w ++ x) tail)
    ∙ sym (append_assoc b w (drop (length (b ++ w)) lent))
    ∙ sym (laid_is (b ++ w) lent)

-- what a call wrote fits
pub fits : (w o s : List ℕ) → s ≡ laid (accept w) o → length s ≡ length o → length w ≤ length o
fits w o s q e =
    let l : length s ≡ length w + length (drop (length w) o) = ap length (q ∙ laid_is w o) ∙ length-append w (drop (length w) o) in
    let d : length (drop (length w) o) ≡ length o - length w = length-drop (length w) o in
    omega arith
