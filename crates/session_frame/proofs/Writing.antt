-- The body of a session's frame, written out; and the order of refusals.
-- Assumes nothing.
use mathlib.Core.Path.{◌≡◌, refl, sym, ap, ◌∙◌, subst}
use mathlib.Core.Bool.{true}
use mathlib.Core.List.{List, ◌++◌}
use Rattle.std.specs.Prelude.{None, Some, Result, Ok, Err}
use Prim.Native.Nat.{ℕ, ◌+◌, ◌*◌, ◌-◌, ◌^◌, ◌<◌, ◌≤◌}
use native.Mathlib.Omega.{arith}
use mir.Syntax.{w8, w64}
use mir.Val.{Fits}
use lib.ListN.{length, take, drop, length-take}
use borrow.Author.Tests.{le-leb, lt-leb}
use Rattle.octets.specs.Verdict.{Verdict, refuse, accept, require, and_then, accepts}
use Rattle.octets.specs.Octets.{put}
use Rattle.octets.specs.Output.{room_for, Wrote}
use Rattle.octets.specs.Refusal.{number_of}
use Rattle.octets.specs.declared.Refusal.{Refusal}
use Rattle.octets.specs.declared.Refusal.TheVariants.{BodyMalformed, NoRoom, OverWritingLimit}
use Rattle.octets.proofs.Laws.{require_on, require_off, then_accept, then_refuse, room_yes, room_no, wrote_no, wrote_yes}
use Rattle.serializer.specs.Written.{trimmed, composite_header}
use Rattle.performatives.specs.Performative.{Described, described, Performative, performative, said}
use Rattle.frame_encoder.specs.Frames.{frame_bytes, limited}
use Rattle.performatives.specs.declared.Performative as P
use Rattle.frame_decoder.specs.declared.Frame as F
use Rattle.frame_decoder.specs.declared.Frame.TheVariants.{Empty, Body}
use Rattle.frame_decoder.specs.Frame.{Frame, FrameSaid, body_in, body_of, any_size, any_channel, session_frame, session_said}
use Rattle.frame_decoder.specs.Answers.{frame_says, session_answer}
use Rattle.frame_decoder.proofs.Laws.{session_was, sendable_was, body_is as frame_body}
use Rattle.session_frame.specs.declared.field.Kept.{Kept}
use Rattle.session_frame.specs.declared.Plan.{Plan}
use Rattle.session_frame.specs.Session.{performative_written, session_bytes, write_session}
use Rattle.session_frame.specs.Parts.{fields_from, written_from, Checked, kept_of, plan_bytes, Planned, write_body}
use Rattle.session_frame.proofs.Trim.{trimmed_short}
use Rattle.session_frame.proofs.Errors.{header_length, items_from_lem, items_end}
use Rattle.session_frame.proofs.Walk.{from_length}
use Rattle.session_frame.proofs.Frames.{bytes_length}
use Rattle.session_frame.proofs.Reading.{Reads, performative_was, code_low, fields_checked, performative_is}
use Rattle.session_frame.proofs.Below.{rows_left}

-- ---- write_body

limited_over : (limit : ℕ) (bytes : List ℕ) → limit < length bytes → limited limit bytes ≡ refuse 27
unfolding limited require
limited_over limit bytes h = rw (lt-leb _ _ h)

limited_most : (limit : ℕ) (bytes : List ℕ) → length bytes ≤ limit → 16384 < length bytes → limited limit bytes ≡ refuse 27
unfolding limited require
limited_most limit bytes h k = rw (le-leb _ _ h, lt-leb _ _ k)

limited_in : (limit : ℕ) (bytes : List ℕ) → length bytes ≤ limit → length bytes ≤ 16384 → limited limit bytes ≡ accept bytes
unfolding limited require
limited_in limit bytes h k = rw (le-leb _ _ h, le-leb _ _ k)

accepts_was : {A : Type 0} (v : Verdict A) → accepts v ≡ true → (a : A) × (v ≡ accept a)
unfolding accepts
accepts_was (refuse k) e = let z : ◌≡◌ {A = ℕ} 0 1 = cc in absurd (omega arith)
accepts_was (accept a) e = (a, refl)

module _ (body : List ℕ) where
  pub body_none : (channel limit : ℕ) (d : List ℕ) → refuse 6 ≡ described body → Wrote (write_body channel body limit) (Err BodyMalformed) d d
  unfolding write_body performative
  body_none channel limit d e =
      let x : performative body ≡ refuse 6 = then_refuse (described body) _ 6 (sym e) in
      wrote_no (write_body channel body limit) BodyMalformed d (then_refuse (performative body) _ 6 x)

  module _ (code count from end : ℕ) (e : accept (record { code = code; count = count; from = from; end = end }) ≡ described body) (a : accepts (performative body) ≡ true) where
    abbrev listed : Described
    listed = record { code = code; count = count; from = from; end = end }

    abbrev fields : List (List ℕ)
    fields = written_from (fields_from code 0) count (take (end - from) (drop from body))

    the_performative : Performative
    the_performative = (accepts_was (performative body) a).0

    accepted : performative body ≡ accept the_performative
    unfolding the_performative
    accepted = (accepts_was (performative body) a).1

    reads : Reads body listed the_performative
    reads = performative_was body listed the_performative (sym e) accepted

    pub body_checked : Checked (fields_from code 0) count (take (end - from) (drop from body))
    body_checked = fields_checked body listed the_performative reads

    pub code_fits : Fits w8 code
    code_fits = record { fits = code_low code reads.rows reads.known }

    module _ (k : Kept) (ke : k ≡ kept_of (trimmed fields)) where
      abbrev plan : Plan
      plan = record { code = code; count = count; from = from; end = end; kept = k.count; len = k.len }

      pub is_planned : Planned plan body
      unfolding kept_of
      is_planned = record {
        code = code_low code reads.rows reads.known;
        from = items_from_lem body code count from end e;
        end = items_end body code count from end e;
        checked = body_checked;
        kept = ap (λ (x : Kept). x.count) ke;
        len = ap (λ (x : Kept). x.len) ke;
      }

      len_short : k.len ≤ (end - from) + 252
      unfolding kept_of
      len_short =
          let l : length (take (end - from) (drop from body)) ≤ end - from = omega (arith, length-take (end - from) (drop from body)) in
          rw ke (omega (arith, trimmed_short fields, from_length (fields_from code 0) count (take (end - from) (drop from body)), rows_left code 0))

      module _ (h : ℕ) (he : h ≡ length (composite_header code k.count k.len)) where
        low : h ≤ 12
        low = omega (arith, header_length code k.count k.len)

        order : (from ≤ end) × (end ≤ length body)
        order = (items_from_lem body code count from end e, items_end body code count from end e)

        pub head_fits : Fits w64 (8 + h)
        head_fits = omega (arith, low)

        pub sum_fits : length body * 1 < 2 ^ 63 → Fits w64 ((8 + h) + k.len)
        sum_fits l = omega (arith, low, len_short, order.0, order.1)

        pub size_fits : length body * 1 < 2 ^ 63 → Fits w64 (((8 + h) + k.len) + (length body - end))
        size_fits l = omega (arith, low, len_short, order.0, order.1)

        pub size_is : (channel : ℕ) → ((8 + h) + k.len) + (length body - end) ≡ length (plan_bytes channel plan body)
        size_is channel = omega (arith, bytes_length plan body is_planned channel)

        body_is : (channel limit : ℕ) → write_body channel body limit ≡ limited limit (plan_bytes channel plan body)
        unfolding write_body plan_bytes
        body_is channel limit =
            then_accept (performative body) _ the_performative accepted
            ∙ rw (performative_is body listed the_performative reads, reads.end)

        module _ (channel limit : ℕ) (d : List ℕ) where
          pub body_over : limit < ((8 + h) + k.len) + (length body - end) → Wrote (write_body channel body limit) (Err OverWritingLimit) d d
          body_over l =
              wrote_no (write_body channel body limit) OverWritingLimit d
              (body_is channel limit ∙ limited_over limit (plan_bytes channel plan body) (omega (arith, size_is channel)))

          module _ (low-enough : ((8 + h) + k.len) + (length body - end) ≤ limit) where
            pub body_most : 16384 < ((8 + h) + k.len) + (length body - end) → Wrote (write_body channel body limit) (Err OverWritingLimit) d d
            body_most l =
                wrote_no (write_body channel body limit) OverWritingLimit d
                (body_is channel limit ∙ limited_most limit (plan_bytes channel plan body) (omega (arith, size_is channel)) (omega (arith, size_is channel)))

            pub body_written : (o : List ℕ) → ((8 + h) + k.len) + (length body - end) ≤ 16384 → 16384 ≤ length d → o ≡ put d 0 (plan_bytes channel plan body) → Wrote (write_body channel body limit) (Ok (((8 + h) + k.len) + (length body - end))) d o
            body_written o l m x =
                wrote_yes (write_body channel body limit) (plan_bytes channel plan body) _ d o
                (body_is channel limit ∙ limited_in limit (plan_bytes channel plan body) (omega (arith, size_is channel)) (omega (arith, size_is channel)))
                (size_is channel) (omega arith) x

-- ---- write

module _ (highest : ℕ) (s : List ℕ) (limit : ℕ) (out : List ℕ) where
  pub write_small : length out < 16384 → Wrote (write_session highest s limit out) (Err NoRoom) out out
  unfolding write_session
  write_small h = wrote_no (write_session highest s limit out) NoRoom out (require_off 9 _ _ (room_no 0 out (omega arith)))

  module _ (room : 16384 ≤ length out) (v : Result F.Frame Refusal) (e : frame_says v ≡ session_answer highest s) where
    roomy : room_for 0 out ≡ true
    roomy = room_yes 0 out (omega arith)

    -- what the answer stands for
    answer_refused : (k : ℕ) (w : Verdict (Frame × Performative)) → refuse k ≡ and_then w (λ (r : Frame × Performative). accept (session_said r)) → w ≡ refuse k
    unfolding and_then
    answer_refused k (refuse j) q = cc
    answer_refused k (accept r) q = let z : ◌≡◌ {A = ℕ} 0 1 = cc in absurd (omega arith)

    answer_accepted : (a : FrameSaid) (w : Verdict (Frame × Performative)) → accept a ≡ and_then w (λ (r : Frame × Performative). accept (session_said r)) → (r : Frame × Performative) × (w ≡ accept r) × (a ≡ session_said r)
    unfolding and_then
    answer_accepted a (refuse j) q = let z : ◌≡◌ {A = ℕ} 0 1 = cc in absurd (omega arith)
    answer_accepted a (accept r) q = (r, refl, cc)

    pub write_refused : (k : Refusal) → v ≡ Err k → Wrote (write_session highest s limit out) (Err k) out out
    unfolding write_session session_answer
    write_refused k q =
        let x : session_frame highest s ≡ refuse (number_of k) = answer_refused (number_of k) (session_frame highest s) (ap frame_says (sym q) ∙ e) in
        wrote_no (write_session highest s limit out) k out (require_on 9 _ _ roomy ∙ then_refuse (session_frame highest s) _ (number_of k) x)

    pub write_empty_lem : (channel size from : ℕ) → v ≡ Ok (Empty channel size from) → Wrote (write_session highest s limit out) (Err BodyMalformed) out out
    unfolding session_answer
    write_empty_lem channel size from q =
        let a = answer_accepted _ (session_frame highest s) (ap frame_says (sym q) ∙ e) in
        let c : None ≡ Some (said a.0.1) = ap (λ (x : FrameSaid). x.content) a.2 in
        let z : ◌≡◌ {A = ℕ} 0 1 = cc in
        absurd (omega arith)

    module _ (channel size from : ℕ) (p : P.Performative) (end : ℕ) (q : v ≡ Ok (Body channel size from p end)) where
      record Sent : Type 0 where
        read : Frame × Performative
        is : session_frame highest s ≡ accept read
        on : read.0.channel ≡ channel
        body : body_of s ≡ body_in read.0 s
        holds : performative (body_in read.0 s) ≡ accept read.1

      sent : Sent
      unfolding session_answer
      sent =
          let a = answer_accepted _ (session_frame highest s) (ap frame_says (sym q) ∙ e) in
          let w = session_was highest s a.0 a.1 in
          record {
            read = a.0;
            is = a.1;
            on = ap (λ (x : FrameSaid). x.channel) (sym a.2);
            body = frame_body any_size any_channel s a.0.0 w.0 (omega arith) (omega arith);
            holds = (sendable_was highest (body_in a.0.0 s) a.0.1 w.1).reads;
          }

      module _ (b : List ℕ) (be : b ≡ body_of s) where
        pub body_accepted : accepts (performative b) ≡ true
        unfolding accepts
        body_accepted = rw (be, sent.body, sent.holds)

        session_body_lem : write_session highest s limit out ≡ write_body channel b limit
        unfolding write_session session_bytes write_body
        session_body_lem =
            let t = sent in
            let x : write_body channel (body_in t.read.0 s) limit ≡ limited limit (frame_bytes channel (performative_written t.read.1 ++ drop t.read.1.end (body_in t.read.0 s))) =
            then_accept (performative (body_in t.read.0 s)) _ t.read.1 t.holds in
            require_on 9 _ _ roomy
            ∙ then_accept (session_frame highest s) _ t.read t.is
            ∙ rw t.on (sym x)
            ∙ ap (λ (l : List ℕ). write_body channel l limit) (sym (be ∙ t.body))

        pub write_sent : (x : Result ℕ Refusal) (o : List ℕ) → Wrote (write_body channel b limit) x out o → Wrote (write_session highest s limit out) x out o
        write_sent x o w = subst (λ (y : Verdict (List ℕ)). Wrote y x out o) (sym session_body_lem) w
