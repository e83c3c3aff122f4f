-- Laws of frames: what an accepted frame went through, and that only its own bytes decide. Results: `read_more` (an answer other than 1 stays as more bytes come),
-- `read_only` and `session_only` (what stands after a frame is not looked at).
-- Assumes nothing.
use mathlib.Core.Path.{◌≡◌, refl, sym, ap, ◌∙◌}
use mathlib.Core.Bool.{Bool, true, false, ◌||◌, and-eq-true_iff}
use mathlib.Core.List.{List, [], ◌∷◌, ◌++◌}
use Rattle.std.specs.Prelude.{Option}
use Prim.Native.Nat.{ℕ, zero, suc, ◌+◌, ◌-◌, ◌<◌, ◌≤◌}
use native.Mathlib.Omega.{arith}
use lib.ListN.{length, take, drop, get_or, length-append, length-drop}
use lib.Seq.{length-take-le, take-take, take-append-le, take_at, take-add, drop_at, get_or-take}
use lib.Dec.{leb, eqb}
use borrow.Author.Tests.{le-leb, leb-true, eq-eqb, ne_eqb, eqb-true}
use Rattle.octets.specs.Verdict.{Verdict, refuse, accept, require, and_then}
use Rattle.octets.specs.Octets.{big_endian}
use Rattle.octets.proofs.Laws.{require_off, require_was, then_accept, then_refuse}
use Rattle.values.proofs.Apart.{then_was}
use Rattle.performatives.specs.Performative.{Performative, performative, remote_channel}
use Rattle.frame_decoder.specs.Frame.{Frame, size_of, channel_of, frame, body_in, body_by, any_size, any_channel, body_of, content, read_frame, within, begins_for, session_performative, session_frame, frames_up_to, session_frames}

apart : {A : Type 0} → ◌≡◌ {A = ℕ} 0 1 → A
apart z = absurd (omega arith)

-- ---- an accepted frame

pub record Whole (limit highest : ℕ) (s : List ℕ) (f : Frame) : Type 0 where
  pub header : 8 ≤ f.size
  pub limited : f.size ≤ limit
  pub here : f.size ≤ length s
  pub doff : get_or s 4 0 ≡ 2
  pub kind : get_or s 5 0 ≡ 0
  pub known : f.channel ≤ highest
  pub fields : f ≡ record { size = size_of s; channel = channel_of s; from = 8 }

pub frame_was : (limit highest : ℕ) (s : List ℕ) (f : Frame) → frame limit highest s ≡ accept f → Whole limit highest s f
unfolding frame
frame_was limit highest s f e =
    let a = require_was _ _ _ _ e in
    let b = require_was _ _ _ _ a.1 in
    let c = require_was _ _ _ _ b.1 in
    let d = require_was _ _ _ _ c.1 in
    let g = require_was _ _ _ _ d.1 in
    let h = require_was _ _ _ _ g.1 in
    let p = (and-eq-true_iff (eqb (get_or s 4 0) 2) (eqb (get_or s 5 0) 0)).0 g.0 in
    let q : f ≡ record { size = size_of s; channel = channel_of s; from = 8 } = cc in
    record {
      header = rw q (leb-true _ _ b.0);
      limited = rw q (leb-true _ _ c.0);
      here = rw q (leb-true _ _ d.0);
      doff = eqb-true _ _ p.0;
      kind = eqb-true _ _ p.1;
      known = rw q (leb-true _ _ h.0);
      fields = q;
    }

pub frame_is : (limit highest : ℕ) (s : List ℕ) (f : Frame) → Whole limit highest s f → frame limit highest s ≡ accept f
unfolding frame require
frame_is limit highest s f w =
    let z : f.size ≡ size_of s = ap (λ (x : Frame). x.size) w.fields in
    let k : f.channel ≡ channel_of s = ap (λ (x : Frame). x.channel) w.fields in
    rw (
      le-leb 4 (length s) (omega (arith, w.header, w.here)),
      le-leb 8 (size_of s) (omega (arith, w.header)),
      le-leb (size_of s) limit (omega (arith, w.limited)),
      le-leb (size_of s) (length s) (omega (arith, w.here)),
      w.doff,
      w.kind,
      le-leb (channel_of s) highest (omega (arith, w.known)),
    )
    (ap accept (sym w.fields))

-- ---- the same first n bytes

module _ (n : ℕ) (s t : List ℕ) (e : take n s ≡ take n t) where
  same_front : (k : ℕ) → k ≤ n → take k s ≡ take k t
  same_front k h = sym (take-take k n s h) ∙ ap (take k) e ∙ take-take k n t h

  same_byte : (k : ℕ) → k < n → get_or s k 0 ≡ get_or t k 0
  same_byte k h = sym (get_or-take n s k 0 h) ∙ ap (λ (l : List ℕ). get_or l k 0) e ∙ get_or-take n t k 0 h

  same_part : (a k : ℕ) → a + k ≤ n → n ≤ length s → n ≤ length t → take k (drop a s) ≡ take k (drop a t)
  same_part a k h l m = sym (part s l) ∙ ap (drop a) (same_front (a + k) h) ∙ part t m
    where
      part : (x : List ℕ) → n ≤ length x → drop a (take (a + k) x) ≡ take k (drop a x)
      part x l = rw take-add (drop_at (take a x) (take k (drop a x)) a (length-take-le a x (omega arith)))

-- a frame within the first n bytes
module _ (limit highest n : ℕ) (s t : List ℕ) (e : take n s ≡ take n t) (h : 8 ≤ n) (z : size_of s ≤ n) (l : n ≤ length s) (m : n ≤ length t) where
  pub frame_agrees : frame limit highest s ≡ frame limit highest t
  unfolding frame
  frame_agrees =
      let u : size_of s ≡ size_of t = ap big_endian (same_front n s t e 4 (omega arith)) in
      let v : channel_of s ≡ channel_of t = ap big_endian (same_part n s t e 6 2 (omega arith) l m) in
      rw (
        le-leb 4 (length s) (omega arith),
        le-leb 4 (length t) (omega arith),
        le-leb (size_of s) (length s) (omega arith),
        u,
        v,
        le-leb (size_of t) (length t) (omega arith),
        same_byte n s t e 4 (omega arith),
        same_byte n s t e 5 (omega arith),
      )

-- an answer other than 1 stays as more bytes come
module _ (limit highest : ℕ) (s t : List ℕ) where
  longer : length s ≤ length (s ++ t)
  longer = omega (arith, length-append s t)

  module _ (h : 4 ≤ length s) where
    same_size : size_of s ≡ size_of (s ++ t)
    same_size = ap big_endian (sym (take-append-le 4 s t h))

    small : (b : Bool) → leb 8 (size_of s) ≡ b → b ≡ false → frame limit highest s ≡ frame limit highest (s ++ t)
    unfolding frame require
    small b e q = rw (le-leb 4 (length s) h, le-leb 4 (length (s ++ t)) (omega (arith, longer)), ← same_size, e, q)

    over : leb 8 (size_of s) ≡ true → leb (size_of s) limit ≡ false → frame limit highest s ≡ frame limit highest (s ++ t)
    unfolding frame require
    over e q = rw (le-leb 4 (length s) h, le-leb 4 (length (s ++ t)) (omega (arith, longer)), ← same_size, e, q)

    missing : leb 8 (size_of s) ≡ true → leb (size_of s) limit ≡ true → leb (size_of s) (length s) ≡ false → frame limit highest s ≡ refuse 1
    unfolding frame require
    missing e q r = rw (le-leb 4 (length s) h, e, q, r)

    go : (a b c : Bool) → leb 8 (size_of s) ≡ a → leb (size_of s) limit ≡ b → leb (size_of s) (length s) ≡ c → (frame limit highest s ≡ refuse 1 → ⊥) → frame limit highest s ≡ frame limit highest (s ++ t)
    go false b c p q r n = small false p refl
    go true false c p q r n = over p q
    go true true false p q r n = absurd (n (missing p q r))
    go true true true p q r n =
        let l : size_of s ≤ length s = leb-true _ _ r in
        frame_agrees limit highest (size_of s) s (s ++ t) (sym (take-append-le (size_of s) s t l)) (leb-true _ _ p) (omega arith) l (omega (arith, longer))

  short : leb 4 (length s) ≡ false → frame limit highest s ≡ refuse 1
  unfolding frame
  short e = require_off _ _ _ e

  pub frame_more : (frame limit highest s ≡ refuse 1 → ⊥) → frame limit highest s ≡ frame limit highest (s ++ t)
  frame_more n = start (leb 4 (length s)) refl
    where
      start : (b : Bool) → leb 4 (length s) ≡ b → frame limit highest s ≡ frame limit highest (s ++ t)
      start false e = absurd (n (short e))
      start true e = go (leb-true _ _ e) _ _ _ refl refl refl n

-- ---- a frame and what a reader makes of its body

module _ {A : Type 0} (g : List ℕ → Verdict A) where
  abbrev held : Frame → List ℕ → Verdict (Frame × A)
  held f s = and_then (g (body_in f s)) (λ c. accept (f, c))

  abbrev whole : ℕ → ℕ → List ℕ → Verdict (Frame × A)
  whole limit highest s = and_then (frame limit highest s) (λ f. held f s)

  pub whole_was : (limit highest : ℕ) (s : List ℕ) (r : Frame × A) → whole limit highest s ≡ accept r → (frame limit highest s ≡ accept r.0) × (g (body_in r.0 s) ≡ accept r.1)
  whole_was limit highest s r e =
      let a = then_was (frame limit highest s) _ r e in
      let b = then_was (g (body_in a.0 s)) _ r a.2 in
      let q : (a.0, b.0) ≡ r = cc in
      (a.1 ∙ ap (λ (x : Frame × A). accept x.0) q, ap (λ (x : Frame × A). g (body_in x.0 s)) (sym q) ∙ b.1 ∙ ap (λ (x : Frame × A). accept x.1) q)

  same_body : (limit highest : ℕ) (s t : List ℕ) (n : ℕ) (f : Frame) → frame limit highest s ≡ accept f → take n s ≡ take n t → f.size ≤ n → n ≤ length s → n ≤ length t → held f s ≡ held f t
  unfolding body_in
  same_body limit highest s t n f e q z l m =
      let w = frame_was limit highest s f e in
      let o : f.from ≡ 8 = ap (λ (x : Frame). x.from) w.fields in
      ap (λ (b : List ℕ). and_then (g b) (λ c. accept (f, c))) (rw o (same_part n s t q 8 (f.size - 8) (omega (arith, w.header)) l m))

  module _ (limit highest : ℕ) (s t : List ℕ) where
    -- the answer of one is that of the other, and so are the bodies
    both : (u v : Verdict Frame) → frame limit highest s ≡ u → frame limit highest t ≡ v → u ≡ v → ((f : Frame) → frame limit highest s ≡ accept f → held f s ≡ held f t) → whole limit highest s ≡ whole limit highest t
    unfolding and_then
    both (refuse j) (refuse k) p q e h = rw (p, q) (cc)
    both (accept f) (accept x) p q e h =
        let y : f ≡ x = cc in
        rw (p, q) (h f p ∙ ap (λ (z : Frame). held z t) y)
    both (refuse j) (accept x) p q e h = apart (cc)
    both (accept f) (refuse k) p q e h = apart (cc)

    pub whole_agrees : (n : ℕ) → take n s ≡ take n t → 8 ≤ n → size_of s ≤ n → n ≤ length s → n ≤ length t → whole limit highest s ≡ whole limit highest t
    whole_agrees n e h z l m =
        both _ _ refl refl (frame_agrees limit highest n s t e h z l m) (λ f q.
        let w = frame_was limit highest s f q in
        let p : f.size ≡ size_of s = ap (λ (x : Frame). x.size) w.fields in
        same_body limit highest s t n f q e (omega arith) l m)

  module _ (limit highest : ℕ) (s : List ℕ) where
    not_missing : (whole limit highest s ≡ refuse 1 → ⊥) → frame limit highest s ≡ refuse 1 → ⊥
    not_missing n e = n (then_refuse (frame limit highest s) _ 1 e)

    pub whole_more : (whole limit highest s ≡ refuse 1 → ⊥) → (t : List ℕ) → whole limit highest s ≡ whole limit highest (s ++ t)
    whole_more n t =
        both limit highest s (s ++ t) _ _ refl refl (frame_more limit highest s t (not_missing n)) (λ f q.
        let w = frame_was limit highest s f q in
        same_body limit highest s (s ++ t) f.size f q (sym (take-append-le f.size s t w.here)) (omega arith) w.here (omega (arith, w.here, length-append s t)))

    pub whole_only : (r : Frame × A) → whole limit highest s ≡ accept r → (t : List ℕ) → whole limit highest (take r.0.size s ++ t) ≡ accept r
    whole_only r e t =
        let w = frame_was limit highest s r.0 (whole_was limit highest s r e).0 in
        let n = r.0.size in
        let k : length (take n s) ≡ n = length-take-le n s w.here in
        let p : size_of s ≡ n = sym (ap (λ (x : Frame). x.size) w.fields) in
        sym (whole_agrees limit highest s (take n s ++ t) n (sym (take_at (take n s) t n k)) w.header (omega arith) w.here (omega (arith, length-append (take n s) t)))
        ∙ e

-- ---- limits and bodies

-- what passes under some limits passes under higher ones
pub frame_wider : (limit limit₂ highest highest₂ : ℕ) (s : List ℕ) (f : Frame) → limit ≤ limit₂ → highest ≤ highest₂ → frame limit highest s ≡ accept f → frame limit₂ highest₂ s ≡ accept f
frame_wider limit limit₂ highest highest₂ s f m h e =
    let w = frame_was limit highest s f e in
    frame_is limit₂ highest₂ s f (record {
      header = w.header;
      limited = omega (arith, w.limited);
      here = w.here;
      doff = w.doff;
      kind = w.kind;
      known = omega (arith, w.known);
      fields = w.fields;
    })

module _ (limit highest : ℕ) (s : List ℕ) (f : Frame) (e : frame limit highest s ≡ accept f) where
  -- the body of a frame that was accepted under any limits
  pub body_is : limit ≤ any_size → highest ≤ any_channel → body_of s ≡ body_in f s
  unfolding body_of body_by
  body_is m h = rw (frame_wider limit any_size highest any_channel s f m h e)

  pub body_length : length (body_in f s) ≡ f.size - 8
  unfolding body_in
  body_length =
      let w = frame_was limit highest s f e in
      let o : f.from ≡ 8 = ap (λ (x : Frame). x.from) w.fields in
      rw o (length-take-le (f.size - 8) (drop 8 s) (omega (arith, w.here, length-drop 8 s)))

-- ---- a frame that came

module _ (limit highest : ℕ) (s : List ℕ) where
  pub read_was : (r : Frame × Option Performative) → read_frame limit highest s ≡ accept r → (frame limit highest s ≡ accept r.0) × (content (body_in r.0 s) ≡ accept r.1)
  unfolding read_frame
  read_was r e = whole_was content limit highest s r e

  -- an answer other than 1 stays as more bytes come
  pub read_more : (read_frame limit highest s ≡ refuse 1 → ⊥) → (t : List ℕ) → read_frame limit highest s ≡ read_frame limit highest (s ++ t)
  unfolding read_frame
  read_more n t = whole_more content limit highest s n t

  -- what stands after the frame is not looked at
  pub read_only : (r : Frame × Option Performative) → read_frame limit highest s ≡ accept r → (t : List ℕ) → read_frame limit highest (take r.0.size s ++ t) ≡ accept r
  unfolding read_frame
  read_only r e t = whole_only content limit highest s r e t

-- ---- a session's frame that is to be sent

pub record Sendable (highest : ℕ) (s : List ℕ) (p : Performative) : Type 0 where
  pub reads : performative s ≡ accept p
  pub first : 17 ≤ p.code
  pub last : p.code ≤ 23
  pub ends : (p.code ≡ 20 → ⊥) → p.end ≡ length s
  pub begins : p.code ≡ 17 → within highest (remote_channel p) ≡ true

sendable_ends : (code end n : ℕ) → eqb code 20 || eqb end n ≡ true → (code ≡ 20 → ⊥) → end ≡ n
sendable_ends code end n e h = eqb-true end n (rw (ne_eqb code 20 h) at e)

sendable_begins : (highest : ℕ) (p : Performative) → within highest (begins_for (eqb p.code 17) p) ≡ true → p.code ≡ 17 → within highest (remote_channel p) ≡ true
sendable_begins highest p e h = rw (eq-eqb p.code 17 h) at e

pub sendable_was : (highest : ℕ) (s : List ℕ) (p : Performative) → session_performative highest s ≡ accept p → Sendable highest s p
unfolding session_performative
sendable_was highest s p e =
    let a = then_was (performative s) _ p e in
    let b = require_was _ _ _ _ a.2 in
    let c = require_was _ _ _ _ b.1 in
    let d = require_was _ _ _ _ c.1 in
    let q : a.0 ≡ p = cc in
    let i = (and-eq-true_iff (leb 17 a.0.code) (leb a.0.code 23)).0 b.0 in
    let r : Sendable highest s a.0 = record {
      reads = a.1;
      first = leb-true _ _ i.0;
      last = leb-true _ _ i.1;
      ends = sendable_ends a.0.code a.0.end (length s) c.0;
      begins = sendable_begins highest a.0 d.0;
    } in
    rw q at r

module _ (highest : ℕ) (s : List ℕ) where
  pub session_was : (r : Frame × Performative) → session_frame highest s ≡ accept r → (frame any_size any_channel s ≡ accept r.0) × (session_performative highest (body_in r.0 s) ≡ accept r.1)
  unfolding session_frame
  session_was r e = whole_was (session_performative highest) any_size any_channel s r e

  pub session_only : (r : Frame × Performative) → session_frame highest s ≡ accept r → (t : List ℕ) → session_frame highest (take r.0.size s ++ t) ≡ accept r
  unfolding session_frame
  session_only r e t = whole_only (session_performative highest) any_size any_channel s r e t

  module _ (r : Frame × Performative) (e : session_frame highest s ≡ accept r) where
    pub session_frame_lem : Whole any_size any_channel s r.0
    session_frame_lem = frame_was any_size any_channel s r.0 (session_was r e).0

    pub session_sendable : Sendable highest (body_in r.0 s) r.1
    session_sendable = sendable_was highest (body_in r.0 s) r.1 (session_was r e).1

-- ---- frames one after the other

frames_none : (most highest : ℕ) (s : List ℕ) → length s ≡ 0 → frames_up_to most highest s ≡ accept 0
unfolding frames_up_to
frames_none zero highest s h = refl
frames_none (suc most) highest [] h = refl
frames_none (suc most) highest (b ∷ s) h = absurd (omega arith)

module _ (highest : ℕ) where
  frames_refused : (most : ℕ) (s : List ℕ) (k : ℕ) → (length s ≡ 0 → ⊥) → session_frame highest s ≡ refuse k → frames_up_to (suc most) highest s ≡ refuse k
  unfolding frames_up_to
  frames_refused most [] k h e = absurd (h refl)
  frames_refused most (b ∷ s) k h e = then_refuse (session_frame highest (b ∷ s)) _ k e

  frames_first : (most : ℕ) (s : List ℕ) (r : Frame × Performative) → (length s ≡ 0 → ⊥) → session_frame highest s ≡ accept r → frames_up_to (suc most) highest s ≡ and_then (frames_up_to most highest (drop r.0.size s)) (λ n. accept (suc n))
  unfolding frames_up_to
  frames_first most [] r h e = absurd (h refl)
  frames_first most (b ∷ s) r h e = then_accept (session_frame highest (b ∷ s)) _ r e

  module _ (j k : ℕ) (s : List ℕ) (h : length s ≤ suc j) (l : length s ≤ suc k) (n : length s ≡ 0 → ⊥) where
    one_turn : ((t : List ℕ) → length t ≤ j → length t ≤ k → frames_up_to j highest t ≡ frames_up_to k highest t) → (v : Verdict (Frame × Performative)) → session_frame highest s ≡ v → frames_up_to (suc j) highest s ≡ frames_up_to (suc k) highest s
    one_turn ih (refuse i) e = frames_refused j s i n e ∙ sym (frames_refused k s i n e)
    one_turn ih (accept r) e =
        let w = session_frame_lem highest s r e in
        let d : length (drop r.0.size s) ≡ length s - r.0.size = length-drop r.0.size s in
        frames_first j s r n e
        ∙ ap (λ (v : Verdict ℕ). and_then v (λ m. accept (suc m))) (ih (drop r.0.size s) (omega (arith, w.header)) (omega (arith, w.header)))
        ∙ sym (frames_first k s r n e)

  -- as many as there can be are enough
  enough : (j k : ℕ) (s : List ℕ) → length s ≤ j → length s ≤ k → frames_up_to j highest s ≡ frames_up_to k highest s
  enough zero k s h l = let z : length s ≡ 0 = omega arith in frames_none zero highest s z ∙ sym (frames_none k highest s z)
  enough (suc j) zero s h l = let z : length s ≡ 0 = omega arith in frames_none (suc j) highest s z ∙ sym (frames_none zero highest s z)
  enough (suc j) (suc k) [] h l = frames_none (suc j) highest [] refl ∙ sym (frames_none (suc k) highest [] refl)
  enough (suc j) (suc k) (b ∷ s) h l = one_turn j k (b ∷ s) h l (λ e. omega arith) (enough j k) (session_frame highest (b ∷ s)) refl

  module _ (s : List ℕ) where
    pub sessions_none : length s ≡ 0 → session_frames highest s ≡ accept 0
    unfolding session_frames
    sessions_none h = frames_none (length s) highest s h

    module _ (h : length s ≡ 0 → ⊥) where
      one_more : frames_up_to (length s) highest s ≡ frames_up_to (suc (length s)) highest s
      one_more = enough (length s) (suc (length s)) s (omega arith) (omega arith)

      pub sessions_refused : (k : ℕ) → session_frame highest s ≡ refuse k → session_frames highest s ≡ refuse k
      unfolding session_frames
      sessions_refused k e = one_more ∙ frames_refused (length s) s k h e

      pub sessions_first : (r : Frame × Performative) → session_frame highest s ≡ accept r → session_frames highest s ≡ and_then (session_frames highest (drop r.0.size s)) (λ n. accept (suc n))
      unfolding session_frames
      sessions_first r e =
          one_more
          ∙ frames_first (length s) s r h e
          ∙ ap (λ (v : Verdict ℕ). and_then v (λ n. accept (suc n))) (enough (length s) (length (drop r.0.size s)) (drop r.0.size s) (omega (arith, length-drop r.0.size s)) (omega arith))
