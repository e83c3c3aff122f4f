-- What each step of the functions shows, with the facts as they come.
-- Assumes nothing.
use mathlib.Core.Path.{◌≡◌, refl, sym, ap, ◌∙◌}
use mathlib.Core.Bool.{Bool, true, false, ◌&&◌, ◌||◌, cond}
use mathlib.Core.List.{List, [], ◌∷◌}
use Rattle.std.specs.Prelude.{Option, None, Some, Result, Ok, Err}
use Prim.Native.Nat.{ℕ, suc, ◌+◌, ◌*◌, ◌-◌, ◌^◌, ◌<◌, ◌≤◌}
use native.Mathlib.Omega.{arith}
use lib.ListN.{length, take, drop, get_or, length-take, length-drop}
use lib.Seq.{take_all, length-take-le, drop-drop}
use lib.Pow.{pow_mono}
use types.Run.{OneOf, miss}
use lib.Dec.{leb, eqb}
use mir.Syntax.{w16, w64}
use mir.Val.{Fits}
use denote.Enum.Declared.{tag_of}
use borrow.Author.Tests.{le-leb, lt-leb, ne_eqb, eqb-true}
use Rattle.octets.specs.Verdict.{Verdict, refuse, accept, require, and_then}
use Rattle.octets.specs.Refusal.{number_of}
use Rattle.octets.specs.declared.Refusal.{Refusal}
use Rattle.octets.specs.Octets.{big_endian}
use Rattle.octets.proofs.Laws.{then_accept, then_refuse}
use Rattle.values.proofs.Apart.{then_was}
use Rattle.performatives.specs.declared.Performative as P
use Rattle.performatives.specs.declared.Performative.TheVariants.{Open, Begin, Attach, Flow, Transfer, Disposition, Detach, End, Close}
use Rattle.performatives.specs.Performative.{Performative, performative, Said, said, values_in, values_of, performative_said}
use Rattle.performatives.specs.Answers.{performative_says}
use Rattle.performatives.specs.contracts.Performative.{the_type}
use Rattle.frame_decoder.specs.declared.Header.{Header}
use Rattle.frame_decoder.specs.declared.Frame as F
use Rattle.frame_decoder.specs.Frame.{Frame, size_of, channel_of, frame, body_in, body_by, any_size, any_channel, body_of, FrameSaid, holding, content, said_of, read_frame, is_session, within, begins_for, session_performative, session_frame, session_said, session_frames}
use Rattle.frame_decoder.specs.Answers.{ending_at, header_says, may_send, begins_within, shown, frame_says, frame_answer, session_answer, session_body}
use Rattle.frame_decoder.proofs.Laws.{frame_was, body_length, session_frame_lem, sessions_none, sessions_refused, sessions_first}

apart : {A : Type 0} → ◌≡◌ {A = ℕ} 0 1 → A
apart z = absurd (omega arith)

-- ---- read_header

-- so many bytes of s from a on, as `number` reads them
pub number_in_lem : (s : List ℕ) (a k x : ℕ) → k ≤ 8 → x ≡ big_endian (take 8 (take k (drop a s))) → x ≡ big_endian (take k (drop a s))
number_in_lem s a k x h e =
    e ∙ ap big_endian (take_all 8 (take k (drop a s)) (omega (arith, length-take k (drop a s))))

module _ (limit highest : ℕ) (s : List ℕ) where
  pub header_missing : length s < 4 → refuse 1 ≡ frame limit highest s
  unfolding frame require
  header_missing h = rw (lt-leb _ _ h)

  module _ (h : 4 ≤ length s) (x : ℕ) (e : x ≡ big_endian (take 8 (take 4 s))) where
    size_is : size_of s ≡ x
    size_is = sym (number_in_lem s 0 4 x (omega arith) e)

    pub header_small : x < 8 → refuse 3 ≡ frame limit highest s
    unfolding frame require
    header_small n = rw (le-leb _ _ h, size_is, lt-leb _ _ n)

    module _ (a : 8 ≤ x) where
      pub header_over : limit < x → refuse 4 ≡ frame limit highest s
      unfolding frame require
      header_over n = rw (le-leb _ _ h, size_is, le-leb _ _ a, lt-leb _ _ n)

      module _ (b : x ≤ limit) where
        pub header_short : length s < x → refuse 1 ≡ frame limit highest s
        unfolding frame require
        header_short n = rw (le-leb _ _ h, size_is, le-leb _ _ a, le-leb _ _ b, lt-leb _ _ n)

        module _ (c : x ≤ length s) where
          pub header_doff : (get_or s 4 0 ≡ 2 → ⊥) → refuse 5 ≡ frame limit highest s
          unfolding frame require
          header_doff n = rw (le-leb _ _ h, size_is, le-leb _ _ a, le-leb _ _ b, le-leb _ _ c, ne_eqb _ _ n)

          module _ (d : get_or s 4 0 ≡ 2) where
            pub header_type : (get_or s 5 0 ≡ 0 → ⊥) → refuse 5 ≡ frame limit highest s
            unfolding frame require
            header_type n = rw (le-leb _ _ h, size_is, le-leb _ _ a, le-leb _ _ b, le-leb _ _ c, d, ne_eqb _ _ n)

            module _ (t : get_or s 5 0 ≡ 0) (y : ℕ) (f : y ≡ big_endian (take 8 (take 2 (drop 6 s)))) where
              channel_is : channel_of s ≡ y
              channel_is = sym (number_in_lem s 6 2 y (omega arith) f)

              pub header_channel : highest < y → refuse 7 ≡ frame limit highest s
              unfolding frame require
              header_channel n = rw (le-leb _ _ h, size_is, le-leb _ _ a, le-leb _ _ b, le-leb _ _ c, d, t, channel_is, lt-leb _ _ n)

              pub header_whole : y ≤ highest → accept (record { size = x; channel = y; from = 8 }) ≡ frame limit highest s
              unfolding frame require
              header_whole n = rw (le-leb _ _ h, size_is, le-leb _ _ a, le-leb _ _ b, le-leb _ _ c, d, t, channel_is, le-leb _ _ n)

pub four_are : (s : List ℕ) → 4 ≤ length s → 4 ≡ length (take 4 s)
four_are s h = sym (length-take-le 4 s h)

pub channel_fits : (s : List ℕ) (y : ℕ) → y < 2 ^ (8 * length (take 8 (take 2 s))) → Fits w16 y
channel_fits s y h =
    let n : length (take 8 (take 2 s)) ≤ 2 = omega (arith, length-take 8 (take 2 s), length-take 2 s) in
    let p : 2 ^ (8 * length (take 8 (take 2 s))) ≤ 2 ^ 16 = pow_mono {i = 8 * length (take 8 (take 2 s))} {j = 16} (omega arith) in
    omega arith

-- ---- an opened header: h is what `read_header` answered

module _ (limit highest : ℕ) (s : List ℕ) (h : Result Header Refusal) (e : header_says h ≡ frame limit highest s) where
  pub opened : (x : Header) → h ≡ Ok x → frame limit highest s ≡ accept (record { size = x.size; channel = x.channel; from = 8 })
  opened x q = sym e ∙ rw q

  pub unopened : (k : Refusal) → h ≡ Err k → frame limit highest s ≡ refuse (number_of k)
  unopened k q = sym e ∙ rw q

  module _ (x : Header) (q : h ≡ Ok x) where
    pub part_from : 8 ≤ x.size
    part_from = (frame_was limit highest s _ (opened x q)).header

    pub part_end : x.size ≤ length s
    part_end = (frame_was limit highest s _ (opened x q)).here

-- ---- body

module _ (s : List ℕ) (h : Result Header Refusal) (e : header_says h ≡ frame any_size any_channel s) where
  pub body_none : (k : Refusal) → h ≡ Err k → [] ≡ body_of s
  unfolding body_of body_by
  body_none k q = rw (unopened any_size any_channel s h e k q)

  pub body_some : (x : Header) → h ≡ Ok x → take (x.size - 8) (drop 8 s) ≡ body_of s
  unfolding body_of body_by body_in
  body_some x q = rw (opened any_size any_channel s h e x q)

-- ---- a body that was read, by what `performatives::read` ensures of its answer

said_refused : (v : Verdict Performative) (k : ℕ) → and_then v (λ p. accept (said p)) ≡ refuse k → v ≡ refuse k
unfolding and_then
said_refused (refuse j) k e = cc
said_refused (accept p) k e = apart (cc)

module _ (s : List ℕ) where
  malformed : refuse 6 ≡ performative_said s → performative s ≡ refuse 6
  unfolding performative_said
  malformed e = said_refused (performative s) 6 (sym e)

  module _ (p : P.Performative) (end : ℕ) (e : accept (ending_at end p) ≡ performative_said s) where
    is_said : (x : Performative) × (performative s ≡ accept x) × (said x ≡ ending_at end p)
    unfolding performative_said
    is_said =
        let a = then_was (performative s) (λ x. accept (said x)) (ending_at end p) (sym e) in
        (a.0, a.1, cc)

-- ---- read

content_some : (s : List ℕ) → (length s ≡ 0 → ⊥) → content s ≡ and_then (performative s) (λ p. accept (Some p))
unfolding content
content_some [] n = absurd (n refl)
content_some (b ∷ s) n = refl

content_none : (s : List ℕ) → length s ≡ 0 → content s ≡ accept None
unfolding content
content_none [] e = refl
content_none (b ∷ s) e = absurd (omega arith)

module _ (limit highest : ℕ) (s : List ℕ) where
  -- the answer of a frame f with content c
  answered : (f : Frame) (c : Option Performative) → frame limit highest s ≡ accept f → content (body_in f s) ≡ accept c → frame_answer limit highest s ≡ accept (holding f (said_of c))
  unfolding frame_answer read_frame and_then
  answered f c e q = rw (e, q)

  refused : (f : Frame) (k : ℕ) → frame limit highest s ≡ accept f → content (body_in f s) ≡ refuse k → frame_answer limit highest s ≡ refuse k
  unfolding frame_answer read_frame and_then
  refused f k e q = rw (e, q)

  module _ (h : Result Header Refusal) (e : header_says h ≡ frame limit highest s) where
    pub read_refused : (k : Refusal) → h ≡ Err k → refuse (number_of k) ≡ frame_answer limit highest s
    unfolding frame_answer read_frame and_then
    read_refused k q = rw (unopened limit highest s h e k q)

    module _ (x : Header) (q : h ≡ Ok x) where
      is_frame_lem : frame limit highest s ≡ accept (record { size = x.size; channel = x.channel; from = 8 })
      is_frame_lem = opened limit highest s h e x q

      pub read_empty : x.size ≡ 8 → accept (record { size = x.size; channel = x.channel; from = 8; content = None }) ≡ frame_answer limit highest s
      read_empty z = sym (answered _ None is_frame_lem (content_none _ (omega (arith, body_length limit highest s _ is_frame_lem))))

      module _ (n : x.size ≡ 8 → ⊥) where
        some_body : length (take (x.size - 8) (drop 8 s)) ≡ 0 → ⊥
        unfolding body_in
        some_body z = n (omega (arith, body_length limit highest s _ is_frame_lem, part_from limit highest s h e x q))

        pub read_malformed : refuse 6 ≡ performative_said (take (x.size - 8) (drop 8 s)) → refuse 6 ≡ frame_answer limit highest s
        unfolding body_in and_then
        read_malformed m = sym (refused _ 6 is_frame_lem (content_some _ some_body ∙ rw (malformed _ m)))

        pub read_body : (p : P.Performative) (end : ℕ) → accept (ending_at end p) ≡ performative_said (take (x.size - 8) (drop 8 s)) → accept (record { size = x.size; channel = x.channel; from = 8; content = Some (ending_at end p) }) ≡ frame_answer limit highest s
        unfolding body_in and_then
        read_body p end m =
            let y = is_said _ p end m in
            sym (answered _ (Some y.0) is_frame_lem (content_some _ some_body ∙ rw y.1) ∙ rw y.2)

-- ---- begins_within

pub begins_not : (highest : ℕ) (p : P.Performative) → OneOf (0 ∷ 2 ∷ 3 ∷ 4 ∷ 5 ∷ 6 ∷ 7 ∷ 8 ∷ []) (tag_of the_type p) → true ≡ begins_within highest p
unfolding begins_within
begins_not highest (Open a b c) h = refl
begins_not highest (Begin r) h = absurd (miss (0 ∷ 2 ∷ 3 ∷ 4 ∷ 5 ∷ 6 ∷ 7 ∷ 8 ∷ []) 1 tt h)
begins_not highest Attach h = refl
begins_not highest Flow h = refl
begins_not highest Transfer h = refl
begins_not highest Disposition h = refl
begins_not highest (Detach e) h = refl
begins_not highest (End e) h = refl
begins_not highest (Close e) h = refl

module _ (highest : ℕ) (p : P.Performative) (r : Option ℕ) (e : p ≡ Begin r) where
  pub begins_none : r ≡ None → true ≡ begins_within highest p
  unfolding begins_within
  begins_none q = rw (e, q)

  pub begins_at : (n : ℕ) → r ≡ Some n → leb n highest ≡ begins_within highest p
  unfolding begins_within
  begins_at n q = rw (e, q) (alone (leb n highest))
    where
      alone : (b : Bool) → b ≡ b && true
      alone true = refl
      alone false = refl

-- ---- session_body

both_tests : {A : Type 0} (k : ℕ) (a b : Bool) (rest : Unit {0} → Verdict A) → require k a (λ _. require k b rest) ≡ require k (a && b) rest
unfolding require
both_tests k true b rest = refl
both_tests k false b rest = refl

-- of a Begin the values are its remote-channel
begin_values : (x : Performative) (b : Bool) → eqb x.code 17 ≡ b → begins_for b x ≡ cond b (values_of x) []
unfolding values_of values_in
begin_values x false e = refl
begin_values x true e = rw (eqb-true x.code 17 e)

module _ (highest : ℕ) (s : List ℕ) (x : Performative) (e : performative s ≡ accept x) (p : P.Performative) (end : ℕ) (q : said x ≡ ending_at end p) where
  same_may : is_session x.code && (eqb x.code 20 || eqb x.end (length s)) ≡ may_send p (eqb end (length s))
  unfolding may_send
  same_may =
      let c : x.code ≡ (performative_says p).0 = ap (λ (d : Said). d.code) q in
      let z : x.end ≡ end = ap (λ (d : Said). d.end) q in
      rw (c, z)

  same_begins : within highest (begins_for (eqb x.code 17) x) ≡ begins_within highest p
  unfolding begins_within
  same_begins =
      let c : x.code ≡ (performative_says p).0 = ap (λ (d : Said). d.code) q in
      let v : values_of x ≡ (performative_says p).1 = ap (λ (d : Said). d.values) q in
      let w : begins_for (eqb x.code 17) x ≡ cond (eqb (performative_says p).0 17) (performative_says p).1 [] = begin_values x (eqb x.code 17) refl ∙ rw (v, c) in
      ap (within highest) w

  judged : session_performative highest s ≡ require 6 (may_send p (eqb end (length s))) (λ _. require 7 (begins_within highest p) (λ _. accept x))
  unfolding session_performative
  judged =
      then_accept (performative s) _ x e
      ∙ both_tests 6 (is_session x.code) (eqb x.code 20 || eqb x.end (length s)) _
      ∙ ap (λ (a : Bool). require 6 a (λ _. require 7 (within highest (begins_for (eqb x.code 17) x)) (λ _. accept x))) same_may
      ∙ ap (λ (a : Bool). require 6 (may_send p (eqb end (length s))) (λ _. require 7 a (λ _. accept x))) same_begins

module _ (highest channel size : ℕ) (s : List ℕ) where
  sent : (x : Performative) → session_performative highest s ≡ accept x → session_body highest channel size s ≡ accept (record { size = size; channel = channel; from = 8; content = Some (said x) })
  unfolding session_body
  sent x e = then_accept (session_performative highest s) _ x e

  not_sent : (k : ℕ) → session_performative highest s ≡ refuse k → session_body highest channel size s ≡ refuse k
  unfolding session_body
  not_sent k e = then_refuse (session_performative highest s) _ k e

  pub session_malformed : refuse 6 ≡ performative_said s → refuse 6 ≡ session_body highest channel size s
  unfolding session_performative
  session_malformed r = sym (not_sent 6 (then_refuse (performative s) _ 6 (malformed s r)))

  module _ (p : P.Performative) (end : ℕ) (r : accept (ending_at end p) ≡ performative_said s) where
    found : Performative
    found = (is_said s p end r).0

    session_judged : session_performative highest s ≡ require 6 (may_send p (eqb end (length s))) (λ _. require 7 (begins_within highest p) (λ _. accept found))
    unfolding found
    session_judged = let i = is_said s p end r in judged highest s i.0 i.1 p end i.2

    module _ (may : Bool) (y : may ≡ may_send p (eqb end (length s))) where
      pub session_not : may ≡ false → refuse 6 ≡ session_body highest channel size s
      unfolding require
      session_not n = sym (not_sent 6 (session_judged ∙ rw (← y, n)))

      module _ (o : may ≡ true) (within : Bool) (g : within ≡ begins_within highest p) where
        pub session_above : within ≡ false → refuse 7 ≡ session_body highest channel size s
        unfolding require
        session_above n = sym (not_sent 7 (session_judged ∙ rw (← y, o, ← g, n)))

        pub session_body_lem : within ≡ true → accept (record { size = size; channel = channel; from = 8; content = Some (ending_at end p) }) ≡ session_body highest channel size s
        unfolding require found
        session_body_lem n = sym (sent found (session_judged ∙ rw (← y, o, ← g, n)) ∙ rw (is_said s p end r).2)

-- ---- session_frame

module _ (highest : ℕ) (s : List ℕ) (h : Result Header Refusal) (e : header_says h ≡ frame any_size any_channel s) where
  pub session_refused : (k : Refusal) → h ≡ Err k → refuse (number_of k) ≡ session_answer highest s
  unfolding session_answer session_frame and_then
  session_refused k q = rw (unopened any_size any_channel s h e k q)

  pub session_is : (x : Header) → h ≡ Ok x → (v : Verdict FrameSaid) → v ≡ session_body highest x.channel x.size (take (x.size - 8) (drop 8 s)) → v ≡ session_answer highest s
  unfolding session_answer session_frame session_body and_then body_in
  session_is x q v r = r ∙ rw (opened any_size any_channel s h e x q) (sym (flat (session_performative highest (take (x.size - 8) (drop 8 s)))))
    where
      flat : (v : Verdict Performative) → and_then (and_then v (λ p. accept (record { size = x.size; channel = x.channel; from = 8 }, p))) (λ r. accept (session_said r)) ≡ and_then v (λ p. accept (record { size = x.size; channel = x.channel; from = 8; content = Some (said p) }))
      flat (refuse k) = refl
      flat (accept p) = refl

-- ---- session_frames

-- so many frames, and then those of v
abbrev pub after : ℕ → Verdict ℕ → Verdict ℕ
after n v = and_then v (λ m. accept (n + m))

after_none : (v : Verdict ℕ) → v ≡ after 0 v
unfolding and_then
after_none (refuse k) = refl
after_none (accept n) = ap accept (omega arith)

after_one : (n : ℕ) (v : Verdict ℕ) → after n (and_then v (λ m. accept (suc m))) ≡ after (n + 1) v
unfolding and_then
after_one n (refuse k) = refl
after_one n (accept m) = ap accept (omega arith)

-- count frames stand before `at`
abbrev pub Counted : ℕ → List ℕ → ℕ → ℕ → Type 0
Counted highest s at count = (at ≤ length s) × (count ≤ at) × (session_frames highest s ≡ after count (session_frames highest (drop at s)))

pub counted_none : (highest : ℕ) (s : List ℕ) → Counted highest s 0 0
counted_none highest s = (omega arith, omega arith, after_none (session_frames highest s))

pub counted_all : (highest : ℕ) (s : List ℕ) (at count : ℕ) → Counted highest s at count → length s ≤ at → accept count ≡ session_frames highest s
unfolding and_then
counted_all highest s at count i h =
    sym (i.2 ∙ rw (sessions_none highest (drop at s) (omega (arith, length-drop at s))) (ap accept (omega arith)))

-- what `session_frame` answers
said_body : (v : Verdict (Frame × Performative)) (x : FrameSaid) → and_then v (λ r. accept (session_said r)) ≡ accept x → (r : Frame × Performative) × (v ≡ accept r) × (session_said r ≡ x)
said_body v x e = let a = then_was v _ x e in (a.0, a.1, cc)

said_not : (v : Verdict (Frame × Performative)) (k : ℕ) → and_then v (λ r. accept (session_said r)) ≡ refuse k → v ≡ refuse k
unfolding and_then
said_not (refuse j) k e = cc
said_not (accept r) k e = apart (cc)

-- a part to the end
tail : (s : List ℕ) (a : ℕ) → take (length s - a) (drop a s) ≡ drop a s
tail s a = take_all (length s - a) (drop a s) (omega (arith, length-drop a s))

module _ (highest : ℕ) (s : List ℕ) (at count : ℕ) (i : Counted highest s at count) (h : at < length s) (f : Result F.Frame Refusal) (e : frame_says f ≡ session_answer highest (take (length s - at) (drop at s))) where
  some_left : length (drop at s) ≡ 0 → ⊥
  some_left z = omega (arith, length-drop at s)

  rest_answers : frame_says f ≡ session_answer highest (drop at s)
  rest_answers = e ∙ ap (session_answer highest) (tail s at)

  pub frames_stop : (k : Refusal) → f ≡ Err k → refuse (number_of k) ≡ session_frames highest s
  unfolding and_then session_answer
  frames_stop k q =
      let stopped : session_frame highest (drop at s) ≡ refuse (number_of k) = said_not _ _ (sym rest_answers ∙ rw q) in
      sym (i.2 ∙ rw (sessions_refused highest (drop at s) some_left (number_of k) stopped))

  module _ (g : F.Frame) (q : f ≡ Ok g) (size : ℕ) (z : size ≡ (shown g).size) where
    first_is : (r : Frame × Performative) × (session_frame highest (drop at s) ≡ accept r) × (r.0.size ≡ size)
    unfolding session_answer
    first_is =
        let a = said_body (session_frame highest (drop at s)) (shown g) (sym rest_answers ∙ rw q) in
        (a.0, a.1, ap (λ (x : FrameSaid). x.size) a.2 ∙ sym z)

    size_least : 8 ≤ size
    size_least = let r = first_is in omega (arith, (session_frame_lem highest (drop at s) r.0 r.1).header, r.2)

    size_most : at + size ≤ length s
    size_most = let r = first_is in omega (arith, (session_frame_lem highest (drop at s) r.0 r.1).here, r.2, length-drop at s)

    pub at_fits : length s < 2 ^ 64 → Fits w64 (at + size)
    at_fits l = omega (arith, size_most)

    pub count_fits : length s < 2 ^ 64 → Fits w64 (count + 1)
    count_fits l = omega arith

    pub frames_less : length s - (at + size) < length s - at
    frames_less = omega (arith, size_least)

    pub frames_on : Counted highest s (at + size) (count + 1)
    frames_on =
        let r = first_is in
        let d : drop r.0.0.size (drop at s) ≡ drop (at + size) s = rw r.2 (drop-drop size at s) in (
          size_most,
          omega (arith, size_least),
          i.2 ∙ ap (after count) (sessions_first highest (drop at s) some_left r.0 r.1) ∙ after_one count _ ∙ ap (λ (l : List ℕ). after (count + 1) (session_frames highest l)) d,
        )
