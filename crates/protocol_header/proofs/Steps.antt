-- What each return of the functions shows, with the facts as they come.
-- Assumes nothing.
use mathlib.Core.Path.{◌≡◌, refl, ap, sym, ◌∙◌}
use mathlib.Core.Bool.{Bool, true, false, ◌&&◌}
use mathlib.Core.List.{List, [], ◌∷◌}
use Rattle.std.specs.Prelude.{Result, Ok, Err}
use Prim.Native.Nat.{ℕ, ◌<◌, ◌≤◌}
use native.Mathlib.Omega.{arith}
use lib.ListN.{length, get_or}
use lib.Dec.{eqb}
use native.Mathlib.Decide.{ℕ_discrete}
use Rattle.std.specs.List.{starts_with}
use borrow.Author.Tests.{le-leb, lt-leb, eq-eqb, ne_eqb}
use Rattle.octets.specs.declared.Refusal.TheVariants.{BytesMissing, HeaderMalformed, NoRoom}
use Rattle.octets.specs.Verdict.{accept, require, and_then}
use Rattle.octets.specs.Octets.{put}
use Rattle.octets.specs.Output.{room_for, laid, counted, Wrote}
use Rattle.octets.proofs.Laws.{put_fits}
use Rattle.protocol_header.specs.declared.ProtocolHeader.{ProtocolHeader as HeaderStruct}
use Rattle.protocol_header.specs.declared.ProtocolId.{ProtocolId}
use Rattle.protocol_header.specs.declared.ProtocolId.TheVariants.{Amqp as AmqpId, Tls, Sasl}
use Rattle.protocol_header.specs.declared.UnknownProtocolId.{UnknownProtocolId}
use Rattle.protocol_header.specs.declared.HeaderRead.TheVariants.{Amqp, Other}
use Rattle.protocol_header.specs.Header.{ProtocolHeader, prefix, is_protocol_id, protocol_id, starts_with_all, header, has_id, is_amqp100, protocol, received, header_bytes, write_header}
use Rattle.protocol_header.specs.Answers.{id_number, header_of, id_says, header_says}

-- ---- the protocol id of a byte

pub known_id : (n : ℕ) (id : ProtocolId) → n ≡ id_number id → id_says (Ok id) ≡ protocol_id n
unfolding id_says protocol_id require is_protocol_id
known_id n AmqpId e = rw e
known_id n Tls e = rw e
known_id n Sasl e = rw e

pub unknown_id : (n : ℕ) → (n ≡ 0 → ⊥) → (n ≡ 2 → ⊥) → (n ≡ 3 → ⊥) → {e : UnknownProtocolId} → id_says (Err e) ≡ protocol_id n
unfolding id_says protocol_id require is_protocol_id
unknown_id n a b c = rw (ne_eqb _ _ a, ne_eqb _ _ b, ne_eqb _ _ c)

-- ---- has_id

pub has_id_lem : (h : ProtocolHeader) (n k : ℕ) → k ≡ h.id → eqb k n ≡ has_id n h
unfolding has_id
has_id_lem h n k e = rw e

-- ---- is_amqp100

module _ (h : ProtocolHeader) (b : Bool) (e : b ≡ has_id 0 h) where
  pub other_id : b ≡ false → false ≡ is_amqp100 h
  unfolding is_amqp100
  other_id n = rw (← e, n)

  module _ (y : b ≡ true) where
    pub other_major : (h.major ≡ 1 → ⊥) → false ≡ is_amqp100 h
    unfolding is_amqp100
    other_major n = rw (← e, y, ne_eqb _ _ n)

    module _ (major : h.major ≡ 1) where
      pub other_minor : (h.minor ≡ 0 → ⊥) → false ≡ is_amqp100 h
      unfolding is_amqp100
      other_minor n = rw (← e, y, eq-eqb _ _ major, ne_eqb _ _ n)

      module _ (minor : h.minor ≡ 0) where
        pub other_revision : (h.revision ≡ 0 → ⊥) → false ≡ is_amqp100 h
        unfolding is_amqp100
        other_revision n = rw (← e, y, eq-eqb _ _ major, eq-eqb _ _ minor, ne_eqb _ _ n)

        pub all_equal : h.revision ≡ 0 → true ≡ is_amqp100 h
        unfolding is_amqp100
        all_equal revision = rw (← e, y, eq-eqb _ _ major, eq-eqb _ _ minor, eq-eqb _ _ revision)

-- ---- bytes

pub bytes_are : (h : HeaderStruct) (n : ℕ) → n ≡ id_number h.id → 65 ∷ 77 ∷ 81 ∷ 80 ∷ n ∷ h.major ∷ h.minor ∷ h.revision ∷ [] ≡ header_bytes (header_of h)
unfolding header_bytes
bytes_are h n e = rw e

-- ---- the bytes that s starts with, as the library says it

either_way : (a b : ℕ) → eqb a b ≡ eqb b a
either_way a b = elim (ℕ_discrete a b) [
  | yes q ↦ eq-eqb a b q ∙ sym (eq-eqb b a (sym q))
  | no n ↦ ne_eqb a b n ∙ sym (ne_eqb b a (λ e. n (sym e)))
]

starts_is : (p s : List ℕ) → starts_with eqb s p ≡ starts_with_all p s
unfolding starts_with_all
starts_is [] [] = refl
starts_is [] (x ∷ s) = refl
starts_is (b ∷ p) [] = refl
starts_is (b ∷ p) (x ∷ s) = rw (either_way b x) (ap (λ (q : Bool). eqb x b && q) (starts_is p s))

-- ---- read

module _ (s : List ℕ) where
  pub read_missing : length s < 8 → header_says (Err BytesMissing) ≡ received s
  unfolding header_says received header and_then require
  read_missing h = rw (lt-leb _ _ h)

  module _ (h : 8 ≤ length s) (b : Bool) (told : b ≡ starts_with eqb s prefix) where
    starts : b ≡ starts_with_all prefix s
    starts = told ∙ starts_is prefix s

    pub read_no_prefix : b ≡ false → header_says (Err HeaderMalformed) ≡ received s
    unfolding header_says received header and_then require
    read_no_prefix n = rw (le-leb _ _ h, ← starts, n)

    module _ (y : b ≡ true) (r : Result ProtocolId UnknownProtocolId) (q : id_says r ≡ protocol_id (get_or s 4 0)) where
      pub read_no_id : (u : UnknownProtocolId) → r ≡ Err u → header_says (Err HeaderMalformed) ≡ received s
      unfolding header_says received header and_then require id_says
      read_no_id _ u = rw (le-leb _ _ h, ← starts, y, ← q, u)

      module _ (id : ProtocolId) (k : r ≡ Ok id) (x : HeaderStruct) (m : header_of x ≡ record { id = id_number id; major = get_or s 5 0; minor = get_or s 6 0; revision = get_or s 7 0 }) (t : Bool) (w : t ≡ is_amqp100 (header_of x)) where
        read_is : received s ≡ accept (protocol (header_of x))
        unfolding received header and_then require id_says
        read_is = rw (le-leb _ _ h, ← starts, y, ← q, k, m)

        pub read_amqp : t ≡ true → header_says (Ok Amqp) ≡ received s
        unfolding header_says protocol
        read_amqp z = sym (read_is ∙ rw (← w, z))

        pub read_other : t ≡ false → header_says (Ok (Other x)) ≡ received s
        unfolding header_says protocol
        read_other z = sym (read_is ∙ rw (← w, z))

-- ---- write

pub write_refused : (h : ProtocolHeader) (out : List ℕ) → length out < 16384 → Wrote (write_header h out) (Err NoRoom) out out
unfolding write_header room_for require counted laid
write_refused h out l = record { answer = rw (lt-leb _ _ l); output = rw (lt-leb _ _ l) }

pub write_bytes : (h : ProtocolHeader) (out bytes after : List ℕ) → 16384 ≤ length out → bytes ≡ header_bytes h → after ≡ put out 0 bytes → Wrote (write_header h out) (Ok 8) out after
unfolding write_header room_for require counted laid header_bytes
write_bytes h out bytes after l e q = record {
  answer = rw (le-leb _ _ l);
  output = rw (le-leb _ _ l) (q ∙ rw e (put_fits out 0 (header_bytes h) (omega arith)));
}
