-- Laws of protocol headers. Results: `read_written` (what was written is read), `write_read` (what was read is written as it stood), `eight_decide` (what stands after the
-- eighth byte is not looked at), `same_id` and `same_answer` (no two answers say the same).
-- Assumes nothing.
use mathlib.Core.Path.{◌≡◌, refl, ap, ◌∙◌}
use mathlib.Core.Bool.{Bool, true, false, ◌&&◌, false≢true, and-eq-true_iff}
use mathlib.Core.List.{List, [], ◌∷◌, ◌++◌}
use Rattle.std.specs.Prelude.{Result, Ok, Err}
use Prim.Native.Nat.{ℕ, zero, suc, ◌<◌, ◌≤◌}
use native.Mathlib.Omega.{arith}
use lib.ListN.{length, get_or, take, length-append, get_or-append}
use lib.Seq.{length-take-le, get_or-take, drop-cons, take-add}
use lib.Dec.{eqb}
use borrow.Author.Tests.{le-leb, leb-true, eqb-true}
use Rattle.octets.specs.Verdict.{Verdict, accept, require, and_then}
use Rattle.octets.specs.Output.{room_for, laid}
use Rattle.octets.specs.declared.Refusal.{Refusal}
use Rattle.octets.proofs.Laws.{require_was}
use Rattle.octets.proofs.Refusals.{same_refusal}
use Rattle.std.specs.Prelude.{Result, Ok, Err}
use Rattle.protocol_header.specs.declared.ProtocolHeader.{ProtocolHeader as HeaderStruct}
use Rattle.protocol_header.specs.declared.ProtocolId.{ProtocolId}
use Rattle.protocol_header.specs.declared.ProtocolId.TheVariants.{Amqp, Tls, Sasl}
use Rattle.protocol_header.specs.declared.UnknownProtocolId.{UnknownProtocolId}
use Rattle.protocol_header.specs.declared.HeaderRead.{HeaderRead}
use Rattle.protocol_header.specs.declared.HeaderRead.TheVariants.{Amqp as Amqp100, Other}
use Rattle.protocol_header.specs.Header.{ProtocolHeader, prefix, is_protocol_id, protocol_id, starts_with_all, header, header_bytes, write_header}
use Rattle.protocol_header.specs.Answers.{id_number, header_of, id_says, header_says}

apart : {A : Type 0} → ◌≡◌ {A = ℕ} 0 1 → A
apart z = absurd (omega arith)

-- ---- what was written is read

pub read_bytes : (h : ProtocolHeader) (t : List ℕ) → is_protocol_id h.id ≡ true → header (header_bytes h ++ t) ≡ accept h
unfolding header header_bytes starts_with_all protocol_id require and_then
read_bytes h t e = rw (le-leb 8 (length (header_bytes h ++ t)) (omega arith), e)

pub number_is_id : (id : ProtocolId) → is_protocol_id (id_number id) ≡ true
unfolding is_protocol_id
number_is_id Amqp = refl
number_is_id Tls = refl
number_is_id Sasl = refl

-- every header that can be made, with any bytes after it
pub read_back : (h : HeaderStruct) (t : List ℕ) → header (header_bytes (header_of h) ++ t) ≡ accept (header_of h)
read_back h t = read_bytes (header_of h) t (number_is_id h.id)

-- the output afterwards, read
pub read_written : (h : HeaderStruct) (out : List ℕ) → room_for 0 out ≡ true → header (laid (write_header (header_of h) out) out) ≡ accept (header_of h)
unfolding write_header laid require
read_written h out e = rw e (read_back h _)

-- ---- the first eight bytes decide

starts_take : (p s t : List ℕ) (n : ℕ) → length p ≤ n → n ≤ length s → starts_with_all p (take n s ++ t) ≡ starts_with_all p s
unfolding starts_with_all
starts_take [] s t n h l = refl
starts_take (b ∷ p) [] t n h l = absurd (omega arith)
starts_take (b ∷ p) (x ∷ s) t zero h l = absurd (omega arith)
starts_take (b ∷ p) (x ∷ s) t (suc n) h l = ap (λ (q : Bool). eqb x b && q) (starts_take p s t n (omega arith) (omega arith))

byte_take : (s t : List ℕ) (n k : ℕ) → k < n → n ≤ length s → get_or (take n s ++ t) k 0 ≡ get_or s k 0
byte_take s t n k h l = get_or-append (take n s) t 0 k (omega (arith, length-take-le n s l)) ∙ get_or-take n s k 0 h

pub eight_decide : (s t : List ℕ) → 8 ≤ length s → header (take 8 s ++ t) ≡ header s
unfolding header
eight_decide s t l =
    let m : 8 ≤ length (take 8 s ++ t) = omega (arith, length-append (take 8 s) t, length-take-le 8 s l) in
    rw (
      le-leb _ _ m,
      le-leb _ _ l,
      starts_take prefix s t 8 (omega arith) l,
      byte_take s t 8 4 (omega arith) l,
      byte_take s t 8 5 (omega arith) l,
      byte_take s t 8 6 (omega arith) l,
      byte_take s t 8 7 (omega arith) l,
    )

-- ---- what was read is written

and_was : (a b : Bool) → a && b ≡ true → (a ≡ true) × (b ≡ true)
and_was a b e = (and-eq-true_iff a b).0 e

starts_was : (p s : List ℕ) → starts_with_all p s ≡ true → take (length p) s ≡ p
unfolding starts_with_all
starts_was [] s e = refl
starts_was (b ∷ p) [] e = absurd (false≢true e)
starts_was (b ∷ p) (x ∷ s) e = let q : (eqb x b ≡ true) × (starts_with_all p s ≡ true) = and_was _ _ e in rw (eqb-true x b q.0, starts_was p s q.1)

take_eight : (s : List ℕ) → 8 ≤ length s → take 8 s ≡ take 4 s ++ get_or s 4 0 ∷ get_or s 5 0 ∷ get_or s 6 0 ∷ get_or s 7 0 ∷ []
take_eight s l =
    take-add 4 4 s
    ∙ rw (drop-cons s 4 0 (omega arith), drop-cons s 5 0 (omega arith), drop-cons s 6 0 (omega arith), drop-cons s 7 0 (omega arith))

-- what an accepted header went through
pub record WellFormed (s : List ℕ) (h : ProtocolHeader) : Type 0 where
  pub whole : 8 ≤ length s
  pub starts : take 4 s ≡ prefix
  pub known : is_protocol_id h.id ≡ true
  pub fields : h ≡ record { id = get_or s 4 0; major = get_or s 5 0; minor = get_or s 6 0; revision = get_or s 7 0 }

id_was : (n : ℕ) (b : Bool) (f : ℕ → Verdict ProtocolHeader) (h : ProtocolHeader) → and_then (require 2 b (λ _. accept n)) f ≡ accept h → (b ≡ true) × (f n ≡ accept h)
unfolding require and_then
id_was n true f h e = (refl, e)
id_was n false f h e = apart (cc)

pub header_was : (s : List ℕ) (h : ProtocolHeader) → header s ≡ accept h → WellFormed s h
unfolding header protocol_id
header_was s h e =
    let a = require_was _ _ _ _ e in
    let b = require_was _ _ _ _ a.1 in
    let d = id_was _ _ _ _ b.1 in
    let q : h ≡ record { id = get_or s 4 0; major = get_or s 5 0; minor = get_or s 6 0; revision = get_or s 7 0 } = cc in
    record {
      whole = leb-true _ _ a.0;
      starts = starts_was prefix s b.0;
      known = rw q d.0;
      fields = q;
    }

pub write_read : (s : List ℕ) (h : ProtocolHeader) → header s ≡ accept h → header_bytes h ≡ take 8 s
unfolding header_bytes
write_read s h e = let w = header_was s h e in rw (take_eight s w.whole, w.starts, w.fields)

-- ---- the definitions tell every two values apart

pub same_number : (a b : ProtocolId) → id_number a ≡ id_number b → a ≡ b
same_number Amqp Amqp e = refl
same_number Tls Tls e = refl
same_number Sasl Sasl e = refl
same_number Amqp Tls e = absurd (omega arith)
same_number Amqp Sasl e = absurd (omega arith)
same_number Tls Amqp e = absurd (omega arith)
same_number Tls Sasl e = absurd (omega arith)
same_number Sasl Amqp e = absurd (omega arith)
same_number Sasl Tls e = absurd (omega arith)

pub same_id : (a b : Result ProtocolId UnknownProtocolId) → id_says a ≡ id_says b → a ≡ b
unfolding id_says
same_id (Ok i) (Ok j) e = ap Ok (same_number i j (cc))
same_id (Err a) (Err b) e = refl
same_id (Ok i) (Err b) e = apart (cc)
same_id (Err a) (Ok j) e = apart (cc)

made_same : {i j : ProtocolId} {a b x y m n : ℕ} → i ≡ j → a ≡ b → x ≡ y → m ≡ n → ◌≡◌ {A = HeaderStruct} (record { id = i; major = a; minor = x; revision = m }) (record { id = j; major = b; minor = y; revision = n })
made_same p q r t = cc

pub same_header : (a b : HeaderStruct) → header_of a ≡ header_of b → a ≡ b
same_header a b e =
    made_same
    (same_number a.id b.id (ap (λ (h : ProtocolHeader). h.id) e))
    (ap (λ (h : ProtocolHeader). h.major) e)
    (ap (λ (h : ProtocolHeader). h.minor) e)
    (ap (λ (h : ProtocolHeader). h.revision) e)

pub same_answer : (a b : Result HeaderRead Refusal) → header_says a ≡ header_says b → a ≡ b
unfolding header_says
same_answer (Ok Amqp100) (Ok Amqp100) e = refl
same_answer (Ok (Other h)) (Ok (Other x)) e = ap (λ (y : HeaderStruct). Ok (Other y)) (same_header h x (cc))
same_answer (Err k) (Err l) e = ap Err (same_refusal k l (cc))
same_answer (Ok Amqp100) (Ok (Other x)) e = apart (cc)
same_answer (Ok (Other h)) (Ok Amqp100) e = apart (cc)
same_answer (Ok Amqp100) (Err l) e = apart (cc)
same_answer (Ok (Other h)) (Err l) e = apart (cc)
same_answer (Err k) (Ok Amqp100) e = apart (cc)
same_answer (Err k) (Ok (Other x)) e = apart (cc)
