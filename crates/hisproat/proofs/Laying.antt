-- How numbers are laid into the lent answer, one after the other, with the facts as they come.
-- Assumes nothing.
use mathlib.Core.Path.{◌≡◌, refl, sym, ◌∙◌, ap, ap₂}
use mathlib.Core.List.{List, [], ◌∷◌, ◌++◌, append_assoc}
use Rattle.std.specs.Prelude.{Option, Some, Ok, Err}
use Prim.Native.Nat.{ℕ, ◌≤◌, ◌<◌}
use native.Mathlib.Omega.{arith}
use lib.ListN.{length, length-append}
use types.Run.{OneOf, miss}
use denote.Enum.Declared.{tag_of}
use Rattle.octets.specs.Octets.{bytes_of, put}
use Rattle.octets.specs.Verdict.{Verdict}
use Rattle.octets.specs.Refusal.{number_of}
use Rattle.octets.specs.declared.Refusal.{Refusal}
use Rattle.octets.proofs.Laws.{length_bytes_of, put_not}
use Rattle.layout.proofs.Parts.{first, more}
use Rattle.connection_model.specs.Connection.{Answer}
use Rattle.engine.specs.declared.ConnectionEngine.{ConnectionEngine}
use Rattle.engine.specs.declared.Outcome.{Outcome}
use Rattle.engine.specs.declared.Outcome.TheVariants.{Fine, TransportError, IllegalState, NotFound, NotImplemented, RemoteClosed, RemoteClosedWithError}
use Rattle.engine.specs.declared.Running.{Running}
use Rattle.engine.specs.declared.Running.TheVariants.{Continue, Stop}
use Rattle.engine.specs.contracts.Running.{the_type as running_type}
use Rattle.engine.specs.Answers.{outcome_says, reply_says}
use Rattle.engine_bytes.specs.Bytes.{outcome_number}
use Rattle.hisproat.specs.declared.answers.Done.{Done}
use Rattle.hisproat.specs.Answers.{Inner, inner, inner_of, inner_bytes, ended_bytes, reply_bytes}
use Rattle.hisproat.specs.Crossing.{answer_after}
use Rattle.hisproat.specs.Promises.{inner_says, Lays, Finishes}

-- ---- what the call inside answered

pub length_inner : (i : Inner) → length (inner_bytes i) ≡ 24
unfolding inner_bytes
length_inner i = simp (length-append, length_bytes_of)

pub inner_short : (d : List ℕ) (i : Inner) → length d < 26 → d ≡ put d 2 (inner_bytes i)
inner_short d i h = sym (put_not d 2 (inner_bytes i) (omega (arith, length_inner i)))

pub inner_laid :
    (d o p q r s t : List ℕ) (kind told detail ch number from len : ℕ) → told ≡ kind → 26 ≤ length d → o ≡ put d 2 (bytes_of 1 told) → p ≡ put o 3 (bytes_of 1 detail)
    → q ≡ put p 4 (bytes_of 2 ch) → r ≡ put q 6 (bytes_of 4 number) → s ≡ put r 10 (bytes_of 8 from) → t ≡ put s 18 (bytes_of 8 len)
    → t ≡ put d 2 (inner_bytes (inner kind detail ch number from len))
unfolding inner_bytes
inner_laid d o p q r s t kind told detail ch number from len k h e1 e2 e3 e4 e5 e6 =
    let l1 = first d 2 1 (bytes_of 1 kind) o (length_bytes_of 1 kind) (e1 ∙ ap (λ n. put d 2 (bytes_of 1 n)) k) in
    let l2 = more d 2 1 1 3 _ (bytes_of 1 detail) o p l1 (length_bytes_of 1 detail) refl (omega arith) e2 in
    let l3 = more d 2 2 2 4 _ (bytes_of 2 ch) p q l2 (length_bytes_of 2 ch) refl (omega arith) e3 in
    let l4 = more d 2 4 4 6 _ (bytes_of 4 number) q r l3 (length_bytes_of 4 number) refl (omega arith) e4 in
    let l5 = more d 2 8 8 10 _ (bytes_of 8 from) r s l4 (length_bytes_of 8 from) refl (omega arith) e5 in
    let l6 = more d 2 16 8 18 _ (bytes_of 8 len) s t l5 (length_bytes_of 8 len) refl (omega arith) e6 in
    simp append_assoc at l6.laid

-- ---- the whole answer

-- whether it stopped, how it ended, what the call inside answered, and two counts
abbrev pub laid_out : ℕ → ℕ → Inner → ℕ → ℕ → List ℕ
laid_out stopped outcome i consumed written = bytes_of 1 stopped ++ (bytes_of 1 outcome ++ (inner_bytes i ++ (bytes_of 8 consumed ++ bytes_of 8 written)))

pub length_laid : (stopped outcome : ℕ) (i : Inner) (consumed written : ℕ) → length (laid_out stopped outcome i consumed written) ≡ 42
length_laid stopped outcome i consumed written = simp (length-append, length_bytes_of, length_inner)

pub answer_short : (d : List ℕ) (stopped outcome : ℕ) (i : Inner) (consumed written : ℕ) → length d < 42 → d ≡ put d 0 (laid_out stopped outcome i consumed written)
answer_short d stopped outcome i consumed written h = sym (put_not d 0 (laid_out stopped outcome i consumed written) (omega (arith, length_laid stopped outcome i consumed written)))

pub answer_laid :
    (d o p q r s : List ℕ) (stopped outcome : ℕ) (i : Inner) (consumed written : ℕ) → 42 ≤ length d → o ≡ put d 0 (bytes_of 1 stopped) → p ≡ put o 1 (bytes_of 1 outcome)
    → q ≡ put p 2 (inner_bytes i) → r ≡ put q 26 (bytes_of 8 consumed) → s ≡ put r 34 (bytes_of 8 written) → s ≡ put d 0 (laid_out stopped outcome i consumed written)
answer_laid d o p q r s stopped outcome i consumed written h e1 e2 e3 e4 e5 =
    let l1 = first d 0 1 (bytes_of 1 stopped) o (length_bytes_of 1 stopped) e1 in
    let l2 = more d 0 1 1 1 _ (bytes_of 1 outcome) o p l1 (length_bytes_of 1 outcome) refl (omega arith) e2 in
    let l3 = more d 0 2 24 2 _ (inner_bytes i) p q l2 (length_inner i) refl (omega arith) e3 in
    let l4 = more d 0 26 8 26 _ (bytes_of 8 consumed) q r l3 (length_bytes_of 8 consumed) refl (omega arith) e4 in
    let l5 = more d 0 34 8 34 _ (bytes_of 8 written) r s l4 (length_bytes_of 8 written) refl (omega arith) e5 in
    simp append_assoc at l5.laid

-- ---- an event's end

module _ (d : Done) (x : ConnectionEngine) (s a s' a' : List ℕ) where
  pub finish_refused : (k : Refusal) → d.running ≡ Err k → Finishes d x s a (number_of k) s a
  finish_refused k e = record {
    finishes_number = λ v. rw e refl;
    finishes_answer = λ v p. rw e refl;
    finishes_state = λ v. rw e refl;
    finishes_not = λ n. (refl, refl);
  }

  runs : (r : Running) → OneOf (0 ∷ []) (tag_of running_type r) → r ≡ Continue
  runs Continue o = refl
  runs (Stop x) o = absurd (miss (0 ∷ []) 1 tt o)

  goes_on_lem :
      (v : Option (Verdict Answer)) → inner_says d.inner ≡ inner_of v → a' ≡ put a 0 (laid_out 0 0 (inner_says d.inner) d.consumed d.written)
      → a' ≡ answer_after (reply_says (Ok Continue) d.consumed d.written v) a
  unfolding reply_bytes bytes_of
  goes_on_lem v p l = l ∙ ap (λ i. put a 0 (laid_out 0 0 i d.consumed d.written)) p

  pub finish_continue : (r : Running) → d.running ≡ Ok r → OneOf (0 ∷ []) (tag_of running_type r) → Lays 0 0 d x s a s' a' → Finishes d x s a 0 s' a'
  finish_continue r q o l =
      let e = q ∙ ap (λ y. Ok y) (runs r o) in
      record {
        finishes_number = λ v. rw e refl;
        finishes_answer = λ v p. rw e (goes_on_lem v p l.lays_answer);
        finishes_state = λ v. rw e l.lays_state;
        finishes_not = λ n. absurd (n refl);
      }

  ended_laid : (o : Outcome) → bytes_of 1 1 ++ bytes_of 1 (outcome_number (outcome_says o)) ≡ ended_bytes (Some (outcome_says o))
  unfolding bytes_of
  ended_laid Fine = refl
  ended_laid TransportError = refl
  ended_laid IllegalState = refl
  ended_laid NotFound = refl
  ended_laid NotImplemented = refl
  ended_laid RemoteClosed = refl
  ended_laid RemoteClosedWithError = refl

  stops :
      (o : Outcome) (v : Option (Verdict Answer)) → inner_says d.inner ≡ inner_of v → a' ≡ put a 0 (laid_out 1 (outcome_number (outcome_says o)) (inner_says d.inner) d.consumed d.written)
      → a' ≡ answer_after (reply_says (Ok (Stop o)) d.consumed d.written v) a
  unfolding reply_bytes
  stops o v p l =
      l
      ∙ ap (put a 0) (sym (append_assoc (bytes_of 1 1) (bytes_of 1 (outcome_number (outcome_says o))) (inner_bytes (inner_says d.inner) ++ (bytes_of 8 d.consumed ++ bytes_of 8 d.written))))
      ∙ ap₂ (λ y i. put a 0 (y ++ (inner_bytes i ++ (bytes_of 8 d.consumed ++ bytes_of 8 d.written)))) (ended_laid o) p

  pub finish_stop : (r : Running) → d.running ≡ Ok r → (o : Outcome) (n : ℕ) → r ≡ Stop o → n ≡ outcome_number (outcome_says o) → Lays 1 n d x s a s' a' → Finishes d x s a 0 s' a'
  finish_stop r p o n g q l =
      let e = p ∙ ap (λ y. Ok y) g in
      let m : a' ≡ put a 0 (laid_out 1 (outcome_number (outcome_says o)) (inner_says d.inner) d.consumed d.written) =
      l.lays_answer ∙ ap (λ y. put a 0 (laid_out 1 y (inner_says d.inner) d.consumed d.written)) q in
      record {
        finishes_number = λ v. rw e refl;
        finishes_answer = λ v p. rw e (stops o v p m);
        finishes_state = λ v. rw e l.lays_state;
        finishes_not = λ n. absurd (n refl);
      }
