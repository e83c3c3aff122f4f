-- A property of what a rule accepts, carried through the parts of a rule; and what every rule knows of the effect that it asks for.
-- What the codec answers to given bytes is a variable here: of a read frame and of a session's frame only the bounds on their channels are used.
-- Assumes nothing.
use mathlib.Core.Path.{◌≡◌, refl, subst}
use mathlib.Core.Bool.{Bool, true, false, cond, not, ◌&&◌}
use mathlib.Core.List.{List, [], ◌∷◌}
use Rattle.std.specs.Prelude.{Option, None, Some}
use Prim.Native.Nat.{ℕ, ◌≤◌}
use native.Mathlib.Omega.{arith}
use lib.Dec.{T, leb, eqb, leb→le}
use Rattle.octets.specs.Verdict.{Verdict, refuse, accept, require, and_then}
use Rattle.protocol_header.specs.Header.{Protocol, amqp100, other, received}
use Rattle.performatives.specs.Performative.{Performative, performative, remote_channel}
use Rattle.frame_decoder.specs.Frame.{Frame, frame, content, body_in, read_frame, within, begins_for, any_size, any_channel, session_performative, session_frame}
use Rattle.frame_encoder.specs.Frames.{Settings, ErrorText, limited}
use Rattle.session_frame.specs.Session.{session_bytes}
use Rattle.connection_state.specs.States.{State, Start, HeaderReceived, HeaderSent, HeaderExchange, OpenPipe, OpenClosePipe, OpenReceived, OpenSent, ClosePipe, Opened, CloseReceived, CloseSent, Discarding, End, is, is_one_of, Move, ◌⇒◌, along, send_header, receive_header, receive_other_header, send_open, read_open, send_close, send_close_with_error, read_close, reading, sending, before_open, after_open, silent}
use Rattle.connection_state.proofs.States.{is_state}
pub use Rattle.connection_state.proofs.States.{and_left, and_right, each, everywhere}
use Rattle.channels.specs.Ties.{Tie, tie_of}
use Rattle.connection_model.specs.Connection.{Role, dialler, listener, Connection, Call, send_header_to, receive_header_from, send_open_to, receive_frame, send_close_to, send_session_frame, allocate, deallocate, tick, Effect, stay, go, agree, take, give, tie, take_and_tie, Outcome, headed, tie_to, untie, pass_on, new_session, begun, open_read, session_read, performative_read, frame_read, closes, tied_by, session_sent, given, released, decide}

-- ---- the parts of a rule

-- a verdict refuses, or accepts something with the property
pub data Holds {A : Type 0} (P : A → Type 0) : Verdict A → Type 0 where
  refused : {k : ℕ} → Holds P (refuse k)
  holds : {a : A} → P a → Holds P (accept a)

module _ {A : Type 0} (P : A → Type 0) where
  pub on_require : (k : ℕ) (b : Bool) (rest : Unit {0} → Verdict A) → (T b → Holds P (rest tt)) → Holds P (require k b rest)
  unfolding require
  on_require k true rest h = h tt
  on_require k false rest h = refused

  pub on_cond : (b : Bool) (v w : Verdict A) → (T b → Holds P v) → Holds P w → Holds P (cond b v w)
  on_cond true v w p q = p tt
  on_cond false v w p q = q

  pub on_and_then : {B : Type 0} {Q : B → Type 0} (f : B → Verdict A) {v : Verdict B} → Holds Q v → ((b : B) → Q b → Holds P (f b)) → Holds P (and_then v f)
  unfolding and_then
  on_and_then f refused g = refused
  on_and_then f (holds q) g = g _ q

  -- where nothing is known of what was found
  pub on_any : {B : Type 0} (v : Verdict B) (f : B → Verdict A) → ((b : B) → Holds P (f b)) → Holds P (and_then v f)
  unfolding and_then
  on_any (refuse k) f g = refused
  on_any (accept b) f g = g b

  held : {a : A} → Holds P (accept a) → P a
  held (holds p) = p

pub accepted : {A : Type 0} {P : A → Type 0} {v : Verdict A} {a : A} → Holds P v → v ≡ accept a → P a
accepted {P} {v} {a} h e = held P (subst (Holds P) e h)

pub require_passed : {A : Type 0} (k : ℕ) (b : Bool) (rest : Unit {0} → Verdict A) → T b → require k b rest ≡ rest tt
unfolding require
require_passed k true rest t = refl
require_passed k false rest t = absurd t

-- ---- tests

-- b passes wherever a does
pub implied : (a b : Bool) → T (cond a b true) → T a → T b
implied true b t u = t
implied false b t u = absurd u

either : {A : Type 0} (b d : Bool) → T (cond b true d) → (T b → A) → (T d → A) → A
either true d t p q = p tt
either false d t p q = q t

-- ---- states

-- a test that passes at each row of a table
abbrev pub each_row : (State → State → Bool) → List Move → Bool
each_row f [] = true
each_row f ((a ⇒ b) ∷ moves) = f a b && each_row f moves

pub one_of : (f : State → Bool) (xs : List State) → T (each f xs) → (x : State) → T (is_one_of xs x) → T (f x)
one_of f [] t x u = absurd u
one_of f (a ∷ xs) t x u =
    either (is a x) (is_one_of xs x) u
    (λ v. subst (λ y. T (f y)) (is_state a x v) (and_left (f a) (each f xs) t))
    (λ v. one_of f xs (and_right (f a) (each f xs) t) x v)

pub on_along : (f : State → State → Bool) (table : List Move) → T (each_row f table) → (x : State) → Holds (λ y. T (f x y)) (along table x)
on_along f [] t x = refused
on_along f ((a ⇒ b) ∷ moves) t x =
    on_cond _ (is a x) _ _
    (λ u. holds (subst (λ y. T (f y b)) (is_state a x u) (and_left (f a b) (each_row f moves) t)))
    (on_along f moves (and_right (f a b) (each_row f moves) t) x)

-- how far a connection is: 0 before the peer's Open or Close, 1 with the peer's Open alone, 2 with both Opens, 3 with the peer's Close, 4 where nothing but a tick is written any more
abbrev pub stage : State → ℕ
stage Start = 0
stage HeaderReceived = 0
stage HeaderSent = 0
stage HeaderExchange = 0
stage OpenPipe = 0
stage OpenClosePipe = 0
stage OpenReceived = 1
stage OpenSent = 0
stage ClosePipe = 0
stage Opened = 2
stage CloseReceived = 3
stage CloseSent = 4
stage Discarding = 4
stage End = 4

-- but for the peer's Open, no move leads to an earlier stage, from before it to after it or back, or to OpenReceived
abbrev pub onward : State → State → Bool
onward a b =
    leb (stage a) (stage b)
    && (cond (is_one_of after_open b) (is_one_of after_open a) true && (cond (is_one_of before_open b) (is_one_of before_open a) true && not (is OpenReceived b)))

-- the peer's Open comes once
abbrev pub opens : State → State → Bool
opens a b = is_one_of before_open a && (leb (stage a) (stage b) && not (is_one_of before_open b))

pub true_is : (b : Bool) → T b → b ≡ true
true_is true t = refl
true_is false t = absurd t

pub false_is : (b : Bool) → T (not b) → b ≡ false
false_is true t = absurd t
false_is false t = refl

-- a fails where b does
fails_too : (a b : Bool) → T (cond a b true) → b ≡ false → a ≡ false
fails_too true b t e = absurd (subst T e t)
fails_too false b t e = refl

pub record MayGo (from to : State) : Type 0 where
  pub later : stage from ≤ stage to
  pub not_after : is_one_of after_open from ≡ false → is_one_of after_open to ≡ false
  pub not_before : is_one_of before_open from ≡ false → is_one_of before_open to ≡ false
  pub not_received : is OpenReceived to ≡ false

goes : (a b : State) → T (onward a b) → MayGo a b
goes a b t =
    let after = cond (is_one_of after_open b) (is_one_of after_open a) true in
    let before = cond (is_one_of before_open b) (is_one_of before_open a) true in
    let received = not (is OpenReceived b) in
    let u = and_right (leb (stage a) (stage b)) (after && (before && received)) t in
    let v = and_right after (before && received) u in
    record {
      later = leb→le (stage a) (stage b) (and_left (leb (stage a) (stage b)) (after && (before && received)) t);
      not_after = fails_too (is_one_of after_open b) (is_one_of after_open a) (and_left after (before && received) u);
      not_before = fails_too (is_one_of before_open b) (is_one_of before_open a) (and_left before received v);
      not_received = false_is (is OpenReceived b) (and_right before received v);
    }

-- ---- channels of frames

-- a frame that is read has a channel of at most the highest
pub frame_channel : (limit highest : ℕ) (s : List ℕ) → Holds (λ f. f.channel ≤ highest) (frame limit highest s)
unfolding frame
frame_channel limit highest s =
    on_require _ _ _ _ (λ t1. on_require _ _ _ _ (λ t2. on_require _ _ _ _ (λ t3. on_require _ _ _ _ (λ t4. on_require _ _ _ _ (λ t5.
    on_require _ _ _ _ (λ t6. holds (leb→le _ _ t6)))))))

pub read_channel : (limit highest : ℕ) (s : List ℕ) → Holds (λ r. r.0.channel ≤ highest) (read_frame limit highest s)
unfolding read_frame
read_channel limit highest s = on_and_then _ _ (frame_channel limit highest s) (λ f le. on_any _ (content (body_in f s)) _ (λ p. holds le))

-- a session's frame that is sent names no remote-channel above the highest
abbrev pub NamesWithin : ℕ → Performative → Type 0
NamesWithin highest p = T (within highest (begins_for (eqb p.code 17) p))

pub session_names : (highest : ℕ) (s : List ℕ) → Holds (NamesWithin highest) (session_performative highest s)
unfolding session_performative
session_names highest s =
    on_any _ (performative s) _ (λ p. on_require _ _ _ _ (λ t1. on_require _ _ _ _ (λ t2. on_require _ _ _ _ (λ t3. holds t3))))

pub sent_names : (highest : ℕ) (s : List ℕ) → Holds (λ r. NamesWithin highest r.1) (session_frame highest s)
unfolding session_frame
sent_names highest s = on_any _ (frame any_size any_channel s) _ (λ f. on_and_then _ _ (session_names highest (body_in f s)) (λ p t. holds t))

-- ---- what a rule knows of the effect that it asks for

-- the handle that a call lends has the property
abbrev pub Lends : (ℕ → Type 0) → Call → Type 0
Lends H (send_header_to out) = Unit {0}
Lends H (receive_header_from s) = Unit {0}
Lends H (send_open_to out) = Unit {0}
Lends H (receive_frame s h) = H h
Lends H (send_close_to e out) = Unit {0}
Lends H (send_session_frame s out) = Unit {0}
Lends H (allocate h) = H h
Lends H (deallocate ch) = Unit {0}
Lends H (tick out) = Unit {0}

pub lends_any : (call : Call) → Lends (λ h. Unit {0}) call
lends_any (send_header_to out) = tt
lends_any (receive_header_from s) = tt
lends_any (send_open_to out) = tt
lends_any (receive_frame s h) = tt
lends_any (send_close_to e out) = tt
lends_any (send_session_frame s out) = tt
lends_any (allocate h) = tt
lends_any (deallocate ch) = tt
lends_any (tick out) = tt

-- a tie names a taken channel with its handle, and what is untied was tied
abbrev pub Holder : Connection → ℕ → Option Tie → Type 0
Holder c n None = (t : Tie) × (c.ties n ≡ Some t)
Holder c n (Some t) = c.taken t.outgoing ≡ Some t.handle

pub record MayAgree (S : Settings) (from to : State) (m w : ℕ) : Type 0 where
  pub first : is_one_of before_open from ≡ true
  pub later : stage from ≤ stage to
  pub opened : is_one_of before_open to ≡ false
  pub most : m ≤ S.channel_max
  pub low : 512 ≤ w
  pub high : w ≤ 16384

pub record MayTie (S : Settings) (c : Connection) (n : ℕ) (o : Option Tie) : Type 0 where
  pub open_yet : 2 ≤ stage c.state
  pub most : n ≤ S.channel_max
  pub holder : Holder c n o

pub record MayTake (H : ℕ → Type 0) (c : Connection) (ch : ℕ) (rest : List ℕ) (h : ℕ) : Type 0 where
  pub next : c.hand_out ≡ Some (ch ∷ rest)
  pub lent : H h

abbrev pub Legit : (ℕ → Type 0) → Settings → Connection → Effect → Type 0
Legit H S c stay = Unit {0}
Legit H S c (go x) = MayGo c.state x
Legit H S c (agree x m w) = MayAgree S c.state x m w
Legit H S c (take ch rest h) = MayTake H c ch rest h
Legit H S c (give ch) = (h : ℕ) × (c.taken ch ≡ Some h)
Legit H S c (tie n o) = MayTie S c n o
Legit H S c (take_and_tie ch rest h n) = MayTake H c ch rest h × (2 ≤ stage c.state) × (n ≤ S.channel_max)

abbrev pub Lawful : (ℕ → Type 0) → Settings → Connection → Outcome → Type 0
Lawful H S c o = Legit H S c o.effect

module _ (H : ℕ → Type 0) (role : Role) (S : Settings) (c : Connection) where
  abbrev Fine : Verdict Outcome → Type 0
  Fine v = Holds (Lawful H S c) v

  -- a move along a table
  moved : (table : List Move) → T (each_row onward table) → (f : State → Verdict Outcome) → ((x : State) → MayGo c.state x → Fine (f x)) → Fine (and_then (along table c.state) f)
  moved table t f g = on_and_then _ _ (on_along onward table t c.state) (λ x u. g x (goes c.state x u))

  on_headed : (p : Protocol) → Fine (headed c p)
  on_headed amqp100 = moved receive_header tt _ (λ x g. holds g)
  on_headed (other h) = moved receive_other_header tt _ (λ x g. holds g)

  -- a frame that was read
  module _ (f : Frame) (le : f.channel ≤ S.channel_max) where
    on_tie_to : 2 ≤ stage c.state → (r : ℕ) (o : Option ℕ) → c.taken r ≡ o → Fine (tie_to f r o)
    on_tie_to u r None e = refused
    on_tie_to u r (Some h) e = let l : MayTie S c f.channel (Some (tie_of r h)) = record { open_yet = u; most = le; holder = e } in holds l

    on_untie : 2 ≤ stage c.state → (o : Option Tie) → c.ties f.channel ≡ o → Fine (untie f o)
    on_untie u None e = refused
    on_untie u (Some t) e = let l : MayTie S c f.channel None = record { open_yet = u; most = le; holder = (t, e) } in holds l

    on_pass_on : (code : ℕ) (o : Option Tie) → Fine (pass_on f code o)
    on_pass_on code None = refused
    on_pass_on code (Some t) = holds tt

    on_new_session : (ρ : Role) → 2 ≤ stage c.state → (h : ℕ) → H h → (l : Option (List ℕ)) → c.hand_out ≡ l → Fine (new_session ρ f h l)
    on_new_session dialler u h k l e = refused
    on_new_session listener u h k None e = refused
    on_new_session listener u h k (Some []) e = refused
    on_new_session listener u h k (Some (ch ∷ rest)) e = let l : MayTake H c ch rest h = record { next = e; lent = k } in let m : Legit H S c (take_and_tie ch rest h f.channel) = (l, u, le) in holds m

    on_begun : 2 ≤ stage c.state → (h : ℕ) → H h → (rs : List ℕ) → Fine (begun role c f h rs)
    on_begun u h k [] = on_new_session role u h k c.hand_out refl
    on_begun u h k (r ∷ rs) = on_tie_to u r (c.taken r) refl

    on_open_read : (size most idle : ℕ) → Fine (open_read S c f size most idle)
    on_open_read size most idle =
        on_and_then _ _ (on_along opens read_open tt c.state) (λ x t. holds (record {
          first = true_is (is_one_of before_open c.state) (and_left (is_one_of before_open c.state) _ t);
          later = leb→le _ _ (and_left (leb (stage c.state) (stage x)) _ (and_right (is_one_of before_open c.state) _ t));
          opened = false_is (is_one_of before_open x) (and_right (leb (stage c.state) (stage x)) _ (and_right (is_one_of before_open c.state) _ t));
          most = omega arith;
          low = omega arith;
          high = omega arith;
        }))

    on_session_read : (h : ℕ) → H h → (code : ℕ) (rs : List ℕ) → Fine (session_read role c f h code rs)
    on_session_read h k code rs =
        on_require _ _ _ _ (λ t.
        let u : 2 ≤ stage c.state = leb→le _ _ (one_of (λ x. leb 2 (stage x)) reading tt c.state t) in
        on_cond _ (eqb code 17) _ _ (λ t. on_begun u h k rs)
        (on_cond _ (eqb code 23) _ _ (λ t. on_untie u (c.ties f.channel) refl) (on_pass_on code (c.ties f.channel))))

    on_performative : (h : ℕ) → H h → (p : Performative) → Fine (performative_read role S c f h p)
    on_performative h k p =
        on_cond _ (eqb p.code 24) _ _ (λ t. moved read_close tt _ (λ x g. holds g))
        (on_cond _ (is Discarding c.state) _ _ (λ t. holds tt)
        (on_cond _ (eqb p.code 16) _ _ (λ t. on_open_read _ _ _)
        (on_session_read h k p.code (remote_channel p))))

  on_frame : (h : ℕ) → H h → (r : Frame × Option Performative) → r.0.channel ≤ S.channel_max → Fine (frame_read role S c h r)
  on_frame h k (f, None) le = holds tt
  on_frame h k (f, Some p) le = on_performative f le h k p

  on_closes : (e : Option ErrorText) → Holds (λ x. T (onward c.state x)) (closes e c.state)
  on_closes None = on_along onward send_close tt c.state
  on_closes (Some e) = on_along onward send_close_with_error tt c.state

  -- a session's frame that is sent
  on_tied_by : (ρ : Role) (rs : List ℕ) → T (within S.channel_max rs) → 2 ≤ stage c.state → (n : ℕ) (o : Option ℕ) → c.taken n ≡ o → Holds (Legit H S c) (tied_by ρ rs n o)
  on_tied_by dialler rs t u n o e = holds tt
  on_tied_by listener [] t u n o e = holds tt
  on_tied_by listener (r ∷ rs) t u n None e = refused
  on_tied_by listener (r ∷ rs) t u n (Some h) e =
      let l : MayTie S c r (Some (tie_of n h)) = record { open_yet = u; most = leb→le _ _ (and_left (leb r S.channel_max) (within S.channel_max rs) t); holder = e } in
      holds l

  on_sent : (s : List ℕ) (r : Frame × Performative) → NamesWithin S.channel_max r.1 → Fine (session_sent role c s r)
  on_sent s r t =
      on_require _ _ _ _ (λ i.
      let u : 2 ≤ stage c.state = leb→le _ _ (one_of (λ x. leb 2 (stage x)) sending tt c.state i) in
      on_and_then _ _ (on_tied_by role (begins_for (eqb r.1.code 17) r.1) t u r.0.channel (c.taken r.0.channel) refl) (λ e l.
      on_any _ (limited c.writing_limit (session_bytes s r)) _ (λ bytes. holds l)))

  on_given : (h : ℕ) → H h → (l : Option (List ℕ)) → c.hand_out ≡ l → Fine (given h l)
  on_given h k None e = refused
  on_given h k (Some []) e = refused
  on_given h k (Some (ch ∷ rest)) e = let l : MayTake H c ch rest h = record { next = e; lent = k } in holds l

  on_released : (ch : ℕ) (o : Option ℕ) → c.taken ch ≡ o → Fine (released ch o)
  on_released ch None e = refused
  on_released ch (Some h) e = let l : Legit H S c (give ch) = (h, e) in holds l

  -- every call's effect is lawful
  pub lawful : (call : Call) → Lends H call → Holds (Lawful H S c) (decide role S c call)
  lawful (send_header_to out) k = on_require _ _ _ _ (λ t. moved send_header tt _ (λ x g. holds g))
  lawful (receive_header_from s) k = on_any _ (received s) _ on_headed
  lawful (send_open_to out) k = on_require _ _ _ _ (λ t. moved send_open tt _ (λ x g. on_any _ _ _ (λ bytes. holds g)))
  lawful (receive_frame s h) k = on_and_then _ _ (read_channel c.reading_limit S.channel_max s) (on_frame h k)
  lawful (send_close_to e out) k =
      on_require _ _ _ _ (λ t. on_require _ _ _ _ (λ u. on_and_then _ _ (on_closes e) (λ x g. on_any _ _ _ (λ bytes. holds (goes c.state x g)))))
  lawful (send_session_frame s out) k = on_require _ _ _ _ (λ t. on_and_then _ _ (sent_names S.channel_max s) (on_sent s))
  lawful (allocate h) k = on_require _ _ _ _ (λ t. on_given h k c.hand_out refl)
  lawful (deallocate ch) k = on_released ch (c.taken ch) refl
  lawful (tick out) k = on_require _ _ _ _ (λ t. on_cond _ (is End c.state) _ _ (λ u. holds tt) (on_cond _ (is_one_of silent c.state) _ _ (λ u. holds tt) (holds tt)))
