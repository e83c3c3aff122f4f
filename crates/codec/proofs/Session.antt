-- A session's frame that was written out is read back: same channel, same performative, same meaning of every field, same payload; and writing it again changes nothing.
-- The results are `session_read_back` and `session_passes`.
-- Assumes nothing.
use mathlib.Core.Path.{◌≡◌, refl, sym, ap, ◌∙◌, subst}
use mathlib.Core.Bool.{Bool, true, false, ◌&&◌, ◌||◌}
use mathlib.Core.List.{List, [], ◌∷◌, ◌++◌, append-nil}
use Rattle.std.specs.Prelude.{Option, None, Some}
use Prim.Native.Nat.{ℕ, ◌+◌, ◌-◌, ◌^◌, ◌<◌, ◌≤◌}
use native.Mathlib.Omega.{arith}
use lib.ListN.{length, drop, get_or, length-append}
use lib.Seq.{drop-length, drop-append_seam}
use lib.Dec.{leb, eqb}
use borrow.Author.Tests.{leb-true, eqb-true, eq-eqb}
use Rattle.octets.specs.Verdict.{accept, require, and_then}
use Rattle.octets.specs.Output.{room_for}
use Rattle.octets.proofs.Laws.{require_was}
use Rattle.values.specs.Null.{null, is_null}
use Rattle.values.proofs.Apart.{accepted, never, then_was}
use Rattle.values.proofs.Written.{Whole, Each}
use Rattle.serializer.specs.Written.{joined, trimmed, composite_header, composite_of, composite}
use Rattle.performatives.specs.Fields.{UShort, Field, may, fields_in, fields_of}
use Rattle.performatives.specs.Performative.{Described, described, items_of, split, fit, Performative, rows_for, fields_by, performative_by, performative, field, remote_channel}
use Rattle.frame_decoder.specs.Frame.{Frame, channel_of, frame, body_in, any_size, any_channel, is_session, within, begins_for, session_performative, session_frame, content}
use Rattle.frame_encoder.specs.Frames.{frame_bytes, limited}
use Rattle.frame_encoder.proofs.Laws.{length_frame}
use Rattle.session_frame.specs.Session.{written_fields, performative_written, session_bytes, write_session}
use Rattle.codec.specs.ReadBack.{frame_of, Passes}
use Rattle.codec.specs.Meaning.{Octets, Meaning, absent, number, text, error, value, meant_as, meant, meanings, payload_of, SessionReadBack}
use Rattle.codec.proofs.Splits.{octets_take, octets_drop, split_all}
use Rattle.codec.proofs.Trimmed.{and_was}
use Rattle.codec.proofs.Frames.{given, rows_of, read_as_lem, performative_read_lem, frame_read_is, body_read, framed_read}
use Rattle.codec.proofs.Passed.{passes}
use Rattle.codec.proofs.Rewritten.{Rewritten, rewritten}

-- ---- what was read

-- a performative at the front of s
record Read (s : List ℕ) (p : Performative) : Type 0 where
  rows : List Field
  named : fields_of p.code ≡ Some rows
  whole : Each (Whole 16) p.fields
  fine : fit rows p.fields ≡ true
  octets : Octets s → Octets (joined p.fields)

rows_were : (o : Option (List Field)) (rows : List Field) → rows_for o ≡ accept rows → o ≡ Some rows
unfolding rows_for
rows_were None rows e = absurd (never 6 rows e)
rows_were (Some r) rows e = ap Some (accepted r rows e)

performative_was : (s : List ℕ) (p : Performative) → performative s ≡ accept p → Read s p
unfolding performative performative_by fields_by
performative_was s p e =
    let a = then_was (described s) _ p e in
    let d : Described = a.0 in
    let b = then_was (rows_for (fields_of d.code)) _ p a.2 in
    let c = then_was (fields_by b.0 d.count (items_of d s)) _ p b.2 in
    let f = then_was (split 16 d.count (items_of d s)) _ c.0 c.1 in
    let g = require_was 6 (fit b.0 f.0) _ c.0 f.2 in
    let h = split_all 16 d.count (items_of d s) f.0 f.1 in
    let x : f.0 ≡ c.0 = accepted f.0 c.0 g.1 in
    let y : p ≡ record { code = d.code; fields = f.0; from = d.from; end = d.end } = accepted p _ (sym c.2) ∙ ap (λ (fs : List (List ℕ)). record { code = d.code; fields = fs; from = d.from; end = d.end }) (sym x) in
    subst (λ (q : Performative). Read s q) (sym y)
    (record {
      rows = b.0;
      named = rows_were (fields_of d.code) b.0 b.1;
      whole = h.whole;
      fine = g.0;
      octets = λ o. rw h.fill (octets_take (d.end - d.from) (drop d.from s) (octets_drop d.from s o));
    })

-- a session's performative in the body s
record Sent (highest : ℕ) (s : List ℕ) (p : Performative) : Type 0 where
  read : Read s p
  session : is_session p.code ≡ true
  ends : (eqb p.code 20 || eqb p.end (length s)) ≡ true
  begins : within highest (begins_for (eqb p.code 17) p) ≡ true

sent_was : (highest : ℕ) (s : List ℕ) (p : Performative) → session_performative highest s ≡ accept p → Sent highest s p
unfolding session_performative
sent_was highest s p e =
    let a = then_was (performative s) _ p e in
    let b = require_was 6 (is_session a.0.code) _ p a.2 in
    let c = require_was 6 (eqb a.0.code 20 || eqb a.0.end (length s)) _ p b.1 in
    let d = require_was 7 (within highest (begins_for (eqb a.0.code 17) a.0)) _ p c.1 in
    subst (λ (q : Performative). Sent highest s q) (accepted a.0 p d.1) (record { read = performative_was s a.0 a.1; session = b.0; ends = c.0; begins = d.0 })

channel_was : (limit highest : ℕ) (s : List ℕ) (f : Frame) → frame limit highest s ≡ accept f → (f.channel ≡ channel_of s) × (channel_of s ≤ highest)
unfolding frame
channel_was limit highest s f e =
    let a = require_was 1 _ _ f e in
    let b = require_was 3 _ _ f a.1 in
    let c = require_was 4 _ _ f b.1 in
    let d = require_was 1 _ _ f c.1 in
    let g = require_was 5 _ _ f d.1 in
    let h = require_was 7 (leb (channel_of s) highest) _ f g.1 in
    (ap (λ (y : Frame). y.channel) (sym (accepted _ f h.1)), leb-true _ _ h.0)

-- ---- a Begin's remote-channel

abbrev channel_meant : Meaning → List ℕ
channel_meant absent = []
channel_meant (number n) = n ∷ []
channel_meant (text t) = []
channel_meant (error c fs) = []
channel_meant (value f) = []

first_meant : (r : Field) (rows : List Field) (fs : List (List ℕ)) → get_or (meanings (r ∷ rows) fs) 0 absent ≡ meant r (get_or fs 0 null)
unfolding meanings
first_meant r rows [] = refl
first_meant r rows (f ∷ fs) = refl

channel_meant_lem : (p : Performative) → remote_channel p ≡ channel_meant (meant (may UShort) (field 0 p))
unfolding remote_channel meant meant_as
channel_meant_lem p = go (is_null (field 0 p)) refl
  where
    go : (b : Bool) → is_null (field 0 p) ≡ b → remote_channel p ≡ channel_meant (meant (may UShort) (field 0 p))
    go true e = rw e
    go false e = rw e

begin_same : (rows : List Field) (p q : Performative) → fields_of 17 ≡ Some rows → meanings rows q.fields ≡ meanings rows p.fields → remote_channel q ≡ remote_channel p
unfolding fields_of fields_in
begin_same rows p q e m =
    let n : meanings (rows_of 17) q.fields ≡ meanings (rows_of 17) p.fields = subst (λ (rs : List Field). meanings rs q.fields ≡ meanings rs p.fields) (sym (ap given e)) m in
    channel_meant_lem q
    ∙ ap channel_meant (sym (first_meant (may UShort) _ q.fields) ∙ ap (λ (ms : List Meaning). get_or ms 0 absent) n ∙ first_meant (may UShort) _ p.fields)
    ∙ sym (channel_meant_lem p)

begins_same : (rows : List Field) (p q : Performative) → fields_of p.code ≡ Some rows → q.code ≡ p.code → meanings rows q.fields ≡ meanings rows p.fields → begins_for (eqb q.code 17) q ≡ begins_for (eqb p.code 17) p
begins_same rows p q e c m = ap (λ (n : ℕ). begins_for (eqb n 17) q) c ∙ go (eqb p.code 17) refl
  where
    go : (b : Bool) → eqb p.code 17 ≡ b → begins_for b q ≡ begins_for b p
    go true x = let z : p.code ≡ 17 = eqb-true _ _ x in begin_same rows p q (rw z at e) m
    go false x = refl

-- ---- written and read again

module _ (highest : ℕ) (s : List ℕ) (f : Frame) (p : Performative) (o : Octets s) (channel : f.channel ≤ any_channel) (sent : Sent highest (body_in f s) p) (low : length (session_bytes s (f, p)) < 256 ^ 4) where
  rows : List Field
  rows = sent.read.rows

  gs : List (List ℕ)
  gs = trimmed (written_fields rows p.fields)

  payload : List ℕ
  payload = payload_of s (f, p)

  written_is : performative_written p ≡ composite_of p.code gs
  unfolding performative_written composite rows gs
  written_is = rw sent.read.named

  body : List ℕ
  body = composite_of p.code gs ++ payload

  bytes_are : session_bytes s (f, p) ≡ frame_bytes f.channel body
  unfolding session_bytes body payload
  bytes_are = rw written_is

  body_octets : Octets (body_in f s)
  unfolding body_in
  body_octets = octets_take (f.size - f.from) (drop f.from s) (octets_drop f.from s o)

  frame_low : length (frame_bytes f.channel body) < 256 ^ 4
  frame_low = rw bytes_are at low

  fields_low : length (joined gs) + 4 < 256 ^ 4
  unfolding body
  fields_low =
      omega (arith, frame_low, length_frame f.channel body, length-append (composite_of p.code gs) payload, length-append (composite_header p.code (length gs) (length (joined gs))) (joined gs))

  fields_rewritten : Rewritten rows p.fields gs
  unfolding rows gs
  fields_rewritten = rewritten p.code rows p.fields sent.read.named sent.read.whole sent.read.fine (sent.read.octets body_octets) (omega (arith, fields_low))

  again : Performative
  again = read_as_lem p.code gs

  again_read : performative body ≡ accept again
  unfolding body again rows
  again_read = performative_read_lem p.code rows gs sent.read.named fields_rewritten.whole fields_rewritten.fine fields_rewritten.few fields_low payload

  -- only a Transfer has a payload
  ends_again : (eqb p.code 20 || eqb (length (composite_of p.code gs)) (length body)) ≡ true
  unfolding body payload
  ends_again = go (eqb p.code 20) refl sent.ends
    where
      go : (b : Bool) → eqb p.code 20 ≡ b → (b || eqb p.end (length (body_in f s))) ≡ true → (b || eqb (length (composite_of p.code gs)) (length body)) ≡ true
      go true x e = refl
      go false x e =
          let n : p.end ≡ length (body_in f s) = eqb-true _ _ e in
          let z : payload ≡ [] = ap (λ (k : ℕ). drop k (body_in f s)) n ∙ drop-length (body_in f s) in
          eq-eqb _ _ (sym (ap (λ (t : List ℕ). length (composite_of p.code gs ++ t)) z ∙ ap length (append-nil (composite_of p.code gs))))

  begins_again : within highest (begins_for (eqb p.code 17) again) ≡ true
  unfolding rows again
  begins_again = ap (within highest) (begins_same rows p again sent.read.named refl fields_rewritten.means) ∙ sent.begins

  sent_again : session_performative highest body ≡ accept again
  unfolding session_performative and_then require again
  sent_again = rw (again_read, sent.session, ends_again, begins_again)

  -- a peer with this limit and this highest channel reads it too
  peer_passes : (limit peer : ℕ) → f.channel ≤ peer → length (session_bytes s (f, p)) ≤ limit → Passes limit peer (session_bytes s (f, p))
  unfolding content composite_header and_then body again
  peer_passes limit peer h room =
      let n : length (frame_bytes f.channel body) ≤ limit = rw bytes_are at room in
      passes limit peer (frame_bytes f.channel body) (session_bytes s (f, p)) (frame_of f.channel body, Some again) bytes_are n
      (framed_read limit peer f.channel body [] (omega arith) h frame_low n (Some again) (rw again_read))

  module _ (after : List ℕ) where
    frame_again : frame any_size any_channel (frame_bytes f.channel body ++ after) ≡ accept (frame_of f.channel body)
    frame_again = frame_read_is any_size any_channel f.channel body after (omega arith) channel frame_low (omega (arith, frame_low))

    body_again : body_in (frame_of f.channel body) (frame_bytes f.channel body ++ after) ≡ body
    body_again = body_read any_size any_channel f.channel body after (omega arith) channel frame_low (omega (arith, frame_low))

    session_again : session_frame highest (frame_bytes f.channel body ++ after) ≡ accept (frame_of f.channel body, again)
    unfolding session_frame and_then
    session_again = rw (frame_again, body_again, sent_again)

    payload_again : payload_of (frame_bytes f.channel body ++ after) (frame_of f.channel body, again) ≡ payload
    unfolding body again
    payload_again = rw body_again (drop-append_seam (composite_of p.code gs) payload)

    same_written : performative_written again ≡ composite_of p.code gs
    unfolding performative_written composite again rows
    same_written = rw (sent.read.named, fields_rewritten.same)

    bytes_again : session_bytes (frame_bytes f.channel body ++ after) (frame_of f.channel body, again) ≡ frame_bytes f.channel body
    unfolding session_bytes body
    bytes_again = ap (λ (t : List ℕ). frame_bytes f.channel (performative_written again ++ t)) payload_again ∙ ap (λ (w : List ℕ). frame_bytes f.channel (w ++ payload)) same_written

    read_back : SessionReadBack highest s (f, p) after
    unfolding again rows payload
    read_back =
        record {
          again = (frame_of f.channel body, again);
          read = rw bytes_are session_again;
          size = rw bytes_are refl;
          channel = refl;
          code = refl;
          fields = rw sent.read.named fields_rewritten.means;
          payload = rw bytes_are payload_again;
          bytes = rw bytes_are bytes_again;
        }

-- what session_frame accepted went through
record Accepted (highest : ℕ) (s : List ℕ) (r : Frame × Performative) : Type 0 where
  channel : r.0.channel ≡ channel_of s
  low : channel_of s ≤ any_channel
  sent : Sent highest (body_in r.0 s) r.1

accepted_was : (highest : ℕ) (s : List ℕ) (r : Frame × Performative) → session_frame highest s ≡ accept r → Accepted highest s r
unfolding session_frame
accepted_was highest s r e =
    let a = then_was (frame any_size any_channel s) _ r e in
    let b = then_was (session_performative highest (body_in a.0 s)) _ r a.2 in
    let c = channel_was any_size any_channel s a.0 a.1 in
    subst (λ (x : Frame × Performative). Accepted highest s x) (accepted (a.0, b.0) r b.2) (record { channel = c.0; low = c.1; sent = sent_was highest (body_in a.0 s) b.0 b.1 })

pub session_read_back : (highest : ℕ) (s : List ℕ) (r : Frame × Performative) → Octets s → session_frame highest s ≡ accept r → length (session_bytes s r) < 2 ^ 32 → (after : List ℕ) → SessionReadBack highest s r after
session_read_back highest s r o e low after =
    let a = accepted_was highest s r e in
    read_back highest s r.0 r.1 o (omega (arith, a.channel, a.low)) a.sent low after

-- it is within its limit, and passes a reader with that limit whose highest channel is not below its own
pub session_passes : (highest peer limit : ℕ) (s out bytes : List ℕ) → Octets s → write_session highest s limit out ≡ accept bytes → channel_of s ≤ peer → Passes limit peer bytes
unfolding write_session limited
session_passes highest peer limit s out bytes o e h =
    let a = require_was 9 (room_for 0 out) _ bytes e in
    let b = then_was (session_frame highest s) _ bytes a.1 in
    let r : Frame × Performative = b.0 in
    let c = require_was 27 (leb (length (session_bytes s r)) limit && leb (length (session_bytes s r)) 16384) _ bytes b.2 in
    let d = and_was (leb (length (session_bytes s r)) limit) (leb (length (session_bytes s r)) 16384) c.0 in
    let n : length (session_bytes s r) ≤ limit = leb-true _ _ d.0 in
    let m : length (session_bytes s r) ≤ 16384 = leb-true _ _ d.1 in
    let x : Accepted highest s r = accepted_was highest s r b.1 in
    subst (λ (w : List ℕ). Passes limit peer w) (accepted (session_bytes s r) bytes c.1)
    (peer_passes highest s r.0 r.1 o (omega (arith, x.channel, x.low)) x.sent (omega arith) limit peer (omega (arith, x.channel)) n)
