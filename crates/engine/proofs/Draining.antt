-- Session frames that are sent one after the other: what each comes to does not depend on which part of the output it is lent, as long as there is room; and there is, since a frame that is written is at
-- most twice as long as it was lent.
-- Assumes nothing.
use mathlib.Core.Path.{◌≡◌, refl, sym, ◌∙◌, ap, subst}
use mathlib.Core.Bool.{true}
use mathlib.Core.List.{List, [], ◌∷◌, ◌++◌, append_assoc, append-nil}
use Rattle.std.specs.Prelude.{Result, Ok, Err}
use Prim.Native.Nat.{ℕ, suc, ◌+◌, ◌*◌, ◌-◌, ◌≤◌, ◌<◌}
use native.Mathlib.Omega.{arith}
use lib.ListN.{length, take, drop, get_or, length-append, length-drop}
use lib.Seq.{drop-drop}
use lib.Dec.{eqb}
use mir.Syntax.{w8}
use mir.Val.{Fits}
use borrow.Author.Tests.{leb-true}
use borrow.Rule.Slice.PartMut.{mid_of, put_mid, same_len_mid, put_same}
use Rattle.octets.specs.Verdict.{Verdict, refuse, accept}
use Rattle.octets.specs.Output.{room_for, laid}
use Rattle.octets.specs.Refusal.{number_of}
use Rattle.octets.specs.declared.Refusal.{Refusal}
use Rattle.octets.proofs.Laws.{require_on, then_accept, room_yes}
use Rattle.values.proofs.Apart.{never, then_was}
use Rattle.performatives.specs.Performative.{Performative}
use Rattle.frame_decoder.specs.Frame.{Frame, size_of, session_frame, session_frames, begins_for}
use Rattle.frame_decoder.proofs.Laws.{session_frame_lem, sessions_none, sessions_refused, sessions_first}
use Rattle.frame_encoder.specs.Frames.{Settings, limited}
use Rattle.session_frame.specs.Session.{session_bytes}
use Rattle.codec.specs.Meaning.{Octets}
use Rattle.codec.proofs.Splits.{octets_are, octets_drop}
use Rattle.codec.proofs.Lengths.{session_short}
use Rattle.connection_model.specs.Connection as K
use Rattle.connection_model.specs.Connection.{Role, Answer, Call, wrote, send_session_frame, session_sent, tied_by, decide, apply}
use Rattle.connection_model.proofs.Rules.{Holds, holds, on_require, on_any, on_and_then, accepted}
use Rattle.endpoint.specs.Answers.{sent_says}
use Rattle.connection.specs.View as View
use Rattle.connection.specs.Promises as C
use Rattle.connection.specs.declared.Connection.{Connection}
use Rattle.engine_model.specs.Engine as M
use Rattle.engine.specs.declared.Trailed.{Trailed}
use Rattle.engine.specs.Promises.{Keeps}
use Rattle.engine.specs.Sending.{sends_of, waiting_trail, TrailedIn, trailed_in, Drained, Drains}
use Rattle.engine.proofs.Output.{laid_is, rest_is, laid_behind, fits}
use Rattle.engine.proofs.Does.{rule_of, inner_refused, inner_accepted}
use Rattle.engine.proofs.Failing.{keeps_self, keeps_on, keeps_of}

-- ---- the first of several frames

record First (highest : ℕ) (s : List ℕ) (n : ℕ) : Type 0 where
  frame : Frame × Performative
  reads : session_frame highest s ≡ accept frame
  sized : frame.0.size ≡ size_of s
  here : size_of s ≤ length s
  rest : session_frames highest (drop (size_of s) s) ≡ accept n

first : (highest : ℕ) (s : List ℕ) (n : ℕ) → session_frames highest s ≡ accept (suc n) → First highest s n
first highest s n e = go (session_frame highest s) refl
  where
    some_left : length s ≡ 0 → ⊥
    some_left z = let q : ◌≡◌ {A = Verdict ℕ} (accept 0) (accept (suc n)) = sym (sessions_none highest s z) ∙ e in let y : 0 ≡ suc n = cc in omega arith

    go : (v : Verdict (Frame × Performative)) → session_frame highest s ≡ v → First highest s n
    go (refuse k) q = absurd (never k (suc n) (sym (sessions_refused highest s some_left k q) ∙ e))
    go (accept r) q =
        let w = session_frame_lem highest s r q in
        let z : r.0.size ≡ size_of s = ap (λ (f : Frame). f.size) w.fields in
        let t = then_was (session_frames highest (drop r.0.size s)) (λ m. accept (suc m)) (suc n) (sym (sessions_first highest s some_left r q) ∙ e) in
        let y : ◌≡◌ {A = Verdict ℕ} (accept (suc t.0)) (accept (suc n)) = t.2 in
        let m : t.0 ≡ n = cc in
        record {
          frame = r;
          reads = q;
          sized = z;
          here = omega (arith, w.here);
          rest = ap (λ (k : ℕ). session_frames highest (drop k s)) (sym z) ∙ t.1 ∙ ap accept m;
        }

-- ---- what sending it comes to

module _ (role : Role) (S : Settings) (c : K.Connection) (s : List ℕ) where
  session_same : (out out' : List ℕ) → room_for 0 out ≡ true → room_for 0 out' ≡ true → decide role S c (send_session_frame s out) ≡ decide role S c (send_session_frame s out')
  session_same out out' r r' = require_on 9 _ _ r ∙ sym (require_on 9 _ _ r')

  limited_is : (limit : ℕ) (bytes : List ℕ) → Holds (λ b. b ≡ bytes) (limited limit bytes)
  unfolding limited
  limited_is limit bytes = on_require _ _ _ _ (λ t. holds refl)

  abbrev Short : K.Outcome → Type 0
  Short o = length o.bytes ≤ 2 * size_of s

  sent_short : (r : Frame × Performative) → length (session_bytes s r) ≤ 2 * size_of s → Holds Short (session_sent role c s r)
  sent_short r l =
      on_require _ _ _ _ (λ t.
      on_any _ (tied_by role (begins_for (eqb r.1.code 17) r.1) r.0.channel (c.taken r.0.channel)) _ (λ e.
      on_and_then _ _ (limited_is c.writing_limit (session_bytes s r)) (λ bytes q. holds {a = record { answer = wrote (length bytes); effect = e; bytes = bytes }} (subst (λ b. length b ≤ 2 * size_of s) (sym q) l))))

  frame_short : (out : List ℕ) (o : K.Outcome) (n : ℕ) → Octets s → First S.channel_max s n → decide role S c (send_session_frame s out) ≡ accept o → length o.bytes ≤ 2 * size_of s
  frame_short out o n oct f e =
      let l : length (session_bytes s f.frame) ≤ 2 * size_of s = subst (λ k. length (session_bytes s f.frame) ≤ 2 * k) f.sized (session_short S.channel_max s f.frame oct f.reads) in
      accepted {P = Short} (on_require _ 9 (room_for 0 out) _ (λ t. subst (Holds Short) (sym (then_accept (session_frame S.channel_max s) (session_sent role c s) f.frame f.reads)) (sent_short f.frame l))) e

-- ---- trails

pub wrote_wrote : (a b : List ℕ) (t : M.Trail) → M.wrote_before a (M.wrote_before b t) ≡ M.wrote_before (a ++ b) t
wrote_wrote a b t = λ i. record { last = t.last; connection = t.connection; bytes = sym (append_assoc a b t.bytes) i }

pub trail_on :
    (role : Role) (S : Settings) (a b : Answer) (c : K.Connection) (call : Call) (calls : List Call) (o : K.Outcome) → decide role S c call ≡ accept o → o.answer ≡ b
    → M.trail role S a c (call ∷ calls) ≡ M.wrote_before o.bytes (M.trail role S b (apply S o.effect c) calls)
trail_on role S a b c call calls o e q =
    ap (M.further S c (λ a c'. M.trail role S a c' calls)) e ∙ ap (λ x. M.wrote_before o.bytes (M.trail role S x (apply S o.effect c) calls)) q

pub trail_stops :
    (role : Role) (S : Settings) (a : Answer) (c : K.Connection) (call : Call) (calls : List Call) (k : ℕ) → decide role S c call ≡ refuse k
    → M.trail role S a c (call ∷ calls) ≡ record { last = refuse k; connection = c; bytes = [] }
trail_stops role S a c call calls k e = ap (M.further S c (λ a c'. M.trail role S a c' calls)) e

-- ---- the loop

abbrev limit_of : View.Whole → ℕ
limit_of c = (View.settings_of c).channel_max

-- c is the connection at first, and d the one that frames before `at` led to; what is left to send is the rest of the trail
pub record OnWay (c : View.Whole) (n : ℕ) (w lent out : List ℕ) (d : View.Whole) (at left written last : ℕ) : Type 0 where
  pub bytes : List ℕ
  pub way_count : written ≡ length bytes
  pub way_output : out ≡ laid (accept bytes) lent
  pub way_short : written ≤ 2 * at
  pub way_left : session_frames (View.settings_of c).channel_max (drop at w) ≡ accept left
  pub way_trail :
      waiting_trail c n w lent
      ≡ M.wrote_before bytes (M.trail (View.role_of c) (View.settings_of c) (wrote last) (View.view_of d) (sends_of (M.frames_in left (drop at w)) lent))

-- the connection and the tables at first, and by now
pub record Going (c : Connection) (t : List ℕ) (n : ℕ) (w lent out : List ℕ) (d : Connection) (u : List ℕ) (at left written last : ℕ) : Type 0 where
  pub going_tables : length u ≡ length t
  pub going_length : length out ≡ length lent
  pub going_at : at ≤ length w
  pub going_written : written ≤ length out
  pub going_keeps : (id : List ℕ) → Keeps (View.whole c t id) (View.whole d u id)
  pub going :
      (id : List ℕ) → View.Sound (View.whole c t id) → session_frames (View.settings_of (View.whole c t id)).channel_max w ≡ accept n → room_for (length w) lent ≡ true
      → OnWay (View.whole c t id) n w lent out (View.whole d u id) at left written last

going_first : (c : Connection) (t : List ℕ) (n : ℕ) (w lent : List ℕ) → Going c t n w lent lent c t 0 n 0 0
going_first c t n w lent = record {
  going_tables = refl;
  going_length = refl;
  going_at = omega arith;
  going_written = omega arith;
  going_keeps = λ id. keeps_self (View.whole c t id);
  going = λ id z f r. record {
    bytes = [];
    way_count = refl;
    way_output = sym (laid_is [] lent);
    way_short = omega arith;
    way_left = f;
    way_trail = refl;
  };
}

pub going_start : (c : Connection) (t : List ℕ) (n : ℕ) (w lent : List ℕ) (left : ℕ) → left ≡ n → Going c t n w lent lent c t 0 left 0 0
going_start c t n w lent left e = rw e (going_first c t n w lent)

room_was : (n : ℕ) (out : List ℕ) → room_for n out ≡ true → 16384 + 2 * n ≤ length out
unfolding room_for
room_was n out e = leb-true _ _ e

-- where the sending stops
abbrev stops_at : Result ℕ Refusal → ℕ → View.Whole → TrailedIn
stops_at a written d = record { answer = a; written = written; connection = d }

pub drained_all :
    (c : Connection) (t : List ℕ) (n : ℕ) (w lent out : List ℕ) (d : Connection) (u : List ℕ) (at left written last : ℕ) → Going c t n w lent out d u at left written last → left ≤ 0
    → (id : List ℕ) → Drains (View.whole c t id) n w lent out (stops_at (Ok last) written (View.whole d u id))
drained_all c t n w lent out d u at left written last g h id =
    let was = View.whole c t id in
    let is = View.whole d u id in
    record {
      drains_keeps = g.going_keeps id;
      drains_inside = g.going_written;
      drains = λ z f r.
          let o = g.going id z f r in
          let zero_left : left ≡ 0 = omega arith in
          let q : waiting_trail was n w lent ≡ record { last = accept (wrote last); connection = View.view_of is; bytes = o.bytes ++ [] } =
          o.way_trail ∙ ap (λ (k : ℕ). M.wrote_before o.bytes (M.trail (View.role_of was) (View.settings_of was) (wrote last) (View.view_of is) (sends_of (M.frames_in k (drop at w)) lent))) zero_left in
          let b : o.bytes ++ [] ≡ o.bytes = append-nil o.bytes in
          let m = room_was (length w) lent r in
          subst (λ T. Drained T lent out (stops_at (Ok last) written is)) (sym q) (record {
            drained_last = refl;
            drained_connection = refl;
            drained_count = o.way_count ∙ ap length (sym b);
            drained_output = o.way_output ∙ ap (λ x. laid (accept x) lent) (sym b);
            drained_room = omega (arith, o.way_short, g.going_at);
          });
    }

-- no more is written than there is
pub inside_drained :
    (c : Connection) (t : List ℕ) (n : ℕ) (w lent out : List ℕ) (r : Trailed) (u : List ℕ) → ((id : List ℕ) → Drains (View.whole c t id) n w lent out (trailed_in r u id)) → r.written ≤ length out
inside_drained c t n w lent out r u p = (p []).drains_inside

module _ (c : Connection) (t : List ℕ) (n : ℕ) (w lent out : List ℕ) (d : Connection) (u : List ℕ) (at left written last : ℕ) (g : Going c t n w lent out d u at left written last) (more : 0 < left) (s : List ℕ)
    (d' : Connection) (u' : List ℕ) where
  abbrev rest_out : List ℕ
  rest_out = mid_of written (length out - written) out

  abbrev part : List ℕ
  part = take (length w - at) (drop at w)

  abbrev the_call : Call
  the_call = send_session_frame part rest_out

  abbrev later_out : List ℕ
  later_out = put_mid written (length out - written) out s

  abbrev Answers : Result ℕ Refusal → Type 0
  Answers a = (id : List ℕ) → C.DoesIn the_call (View.whole d u id) (sent_says a) s (View.whole d' u' id)

  is_suc : left ≡ suc (left - 1)
  is_suc = omega arith

  module _ (id : List ℕ) where
    abbrev first_whole : View.Whole
    first_whole = View.whole c t id

    abbrev this_whole : View.Whole
    this_whole = View.whole d u id

    abbrev next_whole : View.Whole
    next_whole = View.whole d' u' id

    abbrev role : Role
    role = View.role_of first_whole

    abbrev settings : Settings
    settings = View.settings_of first_whole

    kept : Keeps first_whole this_whole
    kept = g.going_keeps id

    -- what the call comes to, it comes to where it is lent the whole output
    as_lent :
        View.Sound first_whole → session_frames (limit_of first_whole) w ≡ accept n → room_for (length w) lent ≡ true → (v : Verdict K.Outcome) → rule_of this_whole the_call ≡ v
        → decide role settings (View.view_of this_whole) (send_session_frame (drop at w) lent) ≡ v
    as_lent z f r v e =
        let o = g.going id z f r in
        let m = room_was (length w) lent r in
        let rl : length rest_out ≡ length out - written = ap length (rest_is out written) ∙ length-drop written out in
        let here : room_for 0 lent ≡ true = room_yes 0 lent (omega arith) in
        let there : room_for 0 rest_out ≡ true = room_yes 0 rest_out (omega (arith, o.way_short, g.going_at, g.going_length)) in
        session_same role settings (View.view_of this_whole) (drop at w) lent rest_out here there
        ∙ (λ i. decide (sym kept.keeps_same.same_role i) (sym kept.keeps_same.same_settings i) (View.view_of this_whole) (send_session_frame (sym (rest_is w at) i) rest_out))
        ∙ e

    abbrev later : List Call
    later = sends_of (M.frames_in (left - 1) (drop (size_of (drop at w)) (drop at w))) lent

    -- what is left, with its first call
    trail_first :
        (T : M.Trail) (b : List ℕ) → T ≡ M.wrote_before b (M.trail role settings (wrote last) (View.view_of this_whole) (sends_of (M.frames_in left (drop at w)) lent))
        → T ≡ M.wrote_before b (M.trail role settings (wrote last) (View.view_of this_whole) (send_session_frame (drop at w) lent ∷ later))
    trail_first T b e = e ∙ ap (λ (k : ℕ). M.wrote_before b (M.trail role settings (wrote last) (View.view_of this_whole) (sends_of (M.frames_in k (drop at w)) lent))) is_suc

  module _ (same : length s ≡ length rest_out) where
    drained_stopped : (k : Refusal) (id : List ℕ) → C.Does the_call (this_whole id) (refuse (number_of k)) s (next_whole id) → Drains (first_whole id) n w lent later_out (stops_at (Err k) written (next_whole id))
    drained_stopped k id p =
        let e = p.refused (number_of k) refl in
        let back : later_out ≡ out = ap (put_mid written (length out - written) out) e.1 ∙ put_same written (length out - written) out in
        record {
          drains_keeps = keeps_on (first_whole id) (this_whole id) (next_whole id) (kept id) (keeps_of the_call (this_whole id) (next_whole id) (refuse (number_of k)) s p);
          drains_inside = subst (λ x. written ≤ length x) (sym back) g.going_written;
          drains = λ z f r.
              let o = g.going id z f r in
              let m = room_was (length w) lent r in
              let q = as_lent id z f r (refuse (number_of k)) (inner_refused the_call (this_whole id) (next_whole id) (number_of k) (refuse (number_of k)) s p refl ((kept id).keeps_sound z)) in
              let x : waiting_trail (first_whole id) n w lent ≡ record { last = refuse (number_of k); connection = View.view_of (this_whole id); bytes = o.bytes ++ [] } =
              trail_first id _ o.bytes o.way_trail
              ∙ ap (M.wrote_before o.bytes) (trail_stops (role id) (settings id) (wrote last) (View.view_of (this_whole id)) (send_session_frame (drop at w) lent) (later id) (number_of k) q) in
              let b : o.bytes ++ [] ≡ o.bytes = append-nil o.bytes in
              subst (λ T. Drained T lent later_out (stops_at (Err k) written (next_whole id))) (sym x) (record {
                drained_last = refl;
                drained_connection = ap View.view_of e.0;
                drained_count = o.way_count ∙ ap length (sym b);
                drained_output = back ∙ o.way_output ∙ ap (λ y. laid (accept y) lent) (sym b);
                drained_room = omega (arith, o.way_short, g.going_at);
              });
        }

    pub drained_stop : (a : Result ℕ Refusal) (k : Refusal) → Answers a → a ≡ Err k → (id : List ℕ) → Drains (first_whole id) n w lent later_out (stops_at a written (next_whole id))
    drained_stop a k p e id =
        subst (λ (v : Result ℕ Refusal). Drains (first_whole id) n w lent later_out (stops_at v written (next_whole id))) (sym e)
        (drained_stopped k id (subst (λ (v : Result ℕ Refusal). C.Does the_call (this_whole id) (sent_says v) s (next_whole id)) e (p id).does))

    module _ (m size at' written' : ℕ) (oct : (i : ℕ) → Fits w8 (get_or w i 0)) (sz : size ≡ size_of part) (moved : (at' ≤ length w) × (at + size ≤ length w → at' ≡ at + size))
        (grown : (written' ≤ length later_out) × (written + m ≤ length later_out → written' ≡ written + m)) where
      way_on :
          (id : List ℕ) → C.Does the_call (this_whole id) (accept (wrote m)) s (next_whole id) → View.Sound (first_whole id) → session_frames (limit_of (first_whole id)) w ≡ accept n
          → room_for (length w) lent ≡ true → OnWay (first_whole id) n w lent later_out (next_whole id) at' (left - 1) written' m
      way_on id p z f r =
          let o = g.going id z f r in
          let a = inner_accepted the_call (this_whole id) (next_whole id) (wrote m) (accept (wrote m)) s p refl ((kept id).keeps_sound z) in
          let q = as_lent id z f r (accept a.outcome) a.accepts in
          let F = first (limit_of (first_whole id)) (drop at w) (left - 1) (o.way_left ∙ ap accept is_suc) in
          let short = frame_short (role id) (settings id) (View.view_of (this_whole id)) (drop at w) lent a.outcome (left - 1) (octets_drop at w (octets_are w (λ i. omega (arith, oct i)))) F q in
          let cnt : length a.outcome.bytes ≡ m = a.counts in
          let fit : length a.outcome.bytes ≤ length rest_out = fits a.outcome.bytes rest_out s a.puts same in
          let rl : length rest_out ≡ length out - written = ap length (rest_is out written) ∙ length-drop written out in
          let dl : length (drop at w) ≡ length w - at = length-drop at w in
          let len : length later_out ≡ length out = same_len_mid written (length out - written) out s same in
          let size_is : size ≡ size_of (drop at w) = sz ∙ ap size_of (rest_is w at) in
          let there : at' ≡ at + size = moved.1 (omega (arith, F.here, g.going_at)) in
          let sum : written' ≡ written + m = grown.1 (omega (arith, g.going_written)) in
          let tot : length (o.bytes ++ a.outcome.bytes) ≡ length o.bytes + length a.outcome.bytes = length-append o.bytes a.outcome.bytes in
          let dd : drop (size_of (drop at w)) (drop at w) ≡ drop at' w = drop-drop (size_of (drop at w)) at w ∙ ap (λ k. drop k w) (ap (λ k. at + k) (sym size_is) ∙ sym there) in
          let led : apply (settings id) a.outcome.effect (View.view_of (this_whole id)) ≡ View.view_of (next_whole id) = ap (λ S. apply S a.outcome.effect (View.view_of (this_whole id))) (sym (kept id).keeps_same.same_settings) ∙ sym a.leads in
          record {
            bytes = o.bytes ++ a.outcome.bytes;
            way_count = omega (arith, o.way_count);
            way_output = laid_behind o.bytes a.outcome.bytes lent out s written o.way_count o.way_output a.puts;
            way_short = omega (arith, o.way_short);
            way_left = ap (session_frames (limit_of (first_whole id))) (sym dd) ∙ F.rest;
            way_trail =
                trail_first id _ o.bytes o.way_trail
                ∙ ap (M.wrote_before o.bytes) (trail_on (role id) (settings id) (wrote last) (wrote m) (View.view_of (this_whole id)) (send_session_frame (drop at w) lent) (later id) a.outcome q a.answers)
                ∙ wrote_wrote o.bytes a.outcome.bytes (M.trail (role id) (settings id) (wrote m) (apply (settings id) a.outcome.effect (View.view_of (this_whole id))) (later id))
                ∙ (λ i. M.wrote_before (o.bytes ++ a.outcome.bytes) (M.trail (role id) (settings id) (wrote m) (led i) (sends_of (M.frames_in (left - 1) (dd i)) lent)));
          }

      pub going_on : (a : Result ℕ Refusal) → Answers a → a ≡ Ok m → Going c t n w lent later_out d' u' at' (left - 1) written' m
      going_on a p e =
          let p' : (id : List ℕ) → C.Does the_call (this_whole id) (accept (wrote m)) s (next_whole id) = λ id. subst (λ v. C.Does the_call (this_whole id) (sent_says v) s (next_whole id)) e (p id).does in
          let len : length later_out ≡ length out = same_len_mid written (length out - written) out s same in
          record {
            going_tables = (p []).does.same.same_long ∙ g.going_tables;
            going_length = len ∙ g.going_length;
            going_at = moved.0;
            going_written = grown.0;
            going_keeps = λ id. keeps_on (first_whole id) (this_whole id) (next_whole id) (kept id) (keeps_of the_call (this_whole id) (next_whole id) (accept (wrote m)) s (p' id));
            going = λ id. way_on id (p' id);
          }
