-- What holds of every connection that calls can lead to, by induction over the list of calls: each lawful effect keeps it.
-- Assumes nothing.
use mathlib.Core.Path.{◌≡◌, refl, sym, ◌∙◌, ap, subst}
use mathlib.Core.Bool.{Bool, true, false, cond, ◌||◌}
use mathlib.Core.List.{List, [], ◌∷◌}
use Rattle.std.specs.Prelude.{Option, None, Some}
use Prim.Native.Nat.{ℕ, suc, ◌≤◌}
use native.Mathlib.Omega.{arith}
use lib.Dec.{T, leb, eqb, eqb→eq}
use borrow.Author.Tests.{eq-eqb, ne_eqb, le-leb}
use Rattle.octets.specs.Verdict.{Verdict}
use Rattle.frame_encoder.specs.Frames.{Settings}
use Rattle.connection_state.specs.States.{State, OpenReceived, is, is_one_of, before_open, after_open}
use Rattle.connection_state.proofs.States.{is_state}
use Rattle.channels.specs.Numbers.{MapTo, Map, nowhere, with, up_from, one, is_taken, EachOnce, Shared}
use Rattle.channels.specs.Ties.{Tie, tie_of, Ties, through, dropped}
use Rattle.connection_model.specs.Connection.{Role, Connection, fresh, Call, Effect, stay, go, agree, take, give, tie, take_and_tie, Outcome, connection, apply, after, next, run}
use Rattle.connection_model.specs.Sound.{Unopened, TiedWithin, TiedThrough, Agreed, Reached}
use Rattle.connection_model.proofs.Rules.{Holds, refused, holds, implied, everywhere, stage, true_is, Lends, Holder, MayTie, MayTake, Legit, Lawful, lawful, lends_any}
use Rattle.channels.proofs.Numbers.{one_small, once_fresh, once_taken, shared_take, shared_give}

-- ---- the two cases

nothing_some : {A B : Type 0} (o : Option A) (a : A) → o ≡ None → o ≡ Some a → B
nothing_some o a p q = let z : ◌≡◌ {A = ℕ} 0 1 = cc in absurd (omega arith)

some_same : {A : Type 0} (P : A → Type 0) (a b : A) → Some a ≡ Some b → P a → P b
some_same P a b e p = let q : a ≡ b = cc in subst P q p

not_held : {A B : Type 0} (f : MapTo A) (n : ℕ) (a : A) → f ≡ nowhere → f n ≡ Some a → B
not_held f n a e = nothing_some (f n) a (ap (λ g. g n) e)

clash : {B : Type 0} (b : Bool) → b ≡ true → b ≡ false → B
clash b p q = absurd (subst T (sym p ∙ q) tt)

module _ {S : Settings} {c : Connection} (i : Reached S c) where
  -- without the peer's Open, or with it
  pub either_way : {P : Type 0} → (Unopened S c → P) → ((m : ℕ) → c.agreed_max ≡ Some m → Agreed S m c → P) → P
  either_way {P} f g = go c.agreed_max refl
    where
      go : (o : Option ℕ) → c.agreed_max ≡ o → P
      go None e = f (i.unopened e)
      go (Some m) e = g m e (i.agreed m e)

  -- before the peer's Open
  pub before_open_is : is_one_of before_open c.state ≡ true → c ≡ apply S (go c.state) fresh
  before_open_is e = either_way (λ u. u.at_first) (λ m q a. clash (is_one_of before_open c.state) e a.stands)

-- ---- maps and ties

-- of a map with another value at k, what held of the map and holds of the value
with_holds :
    {A : Type 0} {P : ℕ → A → Type 0} (f : MapTo A) (k : ℕ) (v : Option A) → ((a : A) → v ≡ Some a → P k a) → ((n : ℕ) (a : A) → f n ≡ Some a → P n a)
    → (n : ℕ) (a : A) → with f k v n ≡ Some a → P n a
with_holds {P} f k v p i n a e = at (eqb k n) refl e
  where
    at : (b : Bool) → eqb k n ≡ b → cond b v (f n) ≡ Some a → P n a
    at true q u = subst (λ m. P m a) (eqb→eq k n (subst T (sym q) tt)) (p a u)
    at false q u = i n a u

elsewhere : {A : Type 0} (f : MapTo A) (k : ℕ) (v : Option A) (n : ℕ) → eqb k n ≡ false → with f k v n ≡ f n
elsewhere f k v n e = ap (λ b. cond b v (f n)) e

-- a tie that is left when those through a channel are dropped was there, and was made through another
left : (ch : ℕ) (o : Option Tie) (t : Tie) → cond (through ch o) None o ≡ Some t → (o ≡ Some t) × (eqb ch t.outgoing ≡ false)
left ch None t e = nothing_some None t refl e
left ch (Some u) t e = go (eqb u.outgoing ch) refl e
  where
    go : (b : Bool) → eqb u.outgoing ch ≡ b → cond b None (Some u) ≡ Some t → (Some u ≡ Some t) × (eqb ch t.outgoing ≡ false)
    go true q p = nothing_some None t refl p
    go false q p =
        (p, some_same (λ v. eqb ch v.outgoing ≡ false) u t p (ne_eqb ch u.outgoing (λ s. clash (eqb u.outgoing ch) (eq-eqb u.outgoing ch (sym s)) q)))

-- a number that is handed out is not taken
next_free_lem : (m : ℕ) (l : Option (List ℕ)) (tk : Map) (ch : ℕ) (rest : List ℕ) → l ≡ Some (ch ∷ rest) → Shared (Some m) l tk → (h : ℕ) → tk ch ≡ Some h → ⊥
next_free_lem m l tk ch rest e i h q =
    let j : EachOnce m (ch ∷ rest) tk = subst (λ o. Shared (Some m) o tk) e i in
    omega (arith, j ch, ap one (eq-eqb ch ch refl), one_small (leb ch m), ap is_taken q)

-- ties are through taken channels when one more is taken
taken_through :
    (m : ℕ) (l : Option (List ℕ)) (tk : Map) (ti : Ties) (ch : ℕ) (rest : List ℕ) (h : ℕ) → l ≡ Some (ch ∷ rest) → Shared (Some m) l tk → TiedThrough tk ti
    → TiedThrough (with tk ch (Some h)) ti
taken_through m l tk ti ch rest h e i j n t q = go (eqb ch t.outgoing) refl
  where
    go : (b : Bool) → eqb ch t.outgoing ≡ b → with tk ch (Some h) t.outgoing ≡ Some t.handle
    go true p = absurd (next_free_lem m l tk ch rest e i t.handle (ap tk (eqb→eq ch t.outgoing (subst T (sym p) tt)) ∙ j n t q))
    go false p = elsewhere tk ch (Some h) t.outgoing p ∙ j n t q

-- and when one is freed and those through it are dropped
freed_through : (tk : Map) (ti : Ties) (ch : ℕ) → TiedThrough tk ti → TiedThrough (with tk ch None) (dropped ch ti)
freed_through tk ti ch j n t q = let p = left ch (ti n) t q in elsewhere tk ch None t.outgoing p.1 ∙ j n t p.0

-- a new tie is through a taken channel
held_by : (c : Connection) (n : ℕ) (o : Option Tie) → Holder c n o → (t : Tie) → o ≡ Some t → c.taken t.outgoing ≡ Some t.handle
held_by c n None k t e = nothing_some None t refl e
held_by c n (Some u) k t e = some_same (λ v. c.taken v.outgoing ≡ Some v.handle) u t e k

past_received : {B : Type 0} (x : State) → 2 ≤ stage x → is OpenReceived x ≡ true → B
past_received x u e = let q : OpenReceived ≡ x = is_state OpenReceived x (subst T (sym e) tt) in let z : ⊥ = omega (arith, ap stage q) in absurd z

-- ---- each lawful effect keeps it

-- with other numbers free and taken, and other ties
other_channels :
    (S : Settings) (m : ℕ) (c : Connection) → Agreed S m c → (l : Option (List ℕ)) (tk : Map) (ti : Ties) → Shared (Some m) l tk → TiedWithin S.channel_max ti → TiedThrough tk ti
    → (is OpenReceived c.state ≡ true → ti ≡ nowhere) → Agreed S m (connection c.state c.reading_limit c.writing_limit c.agreed_max l tk ti)
other_channels S m c a l tk ti s w t u = record {
  stands = a.stands;
  most = a.most;
  reading_own = a.reading_own;
  writing_low = a.writing_low;
  writing_high = a.writing_high;
  shared = s;
  tied = w;
  through = t;
  untied = u;
}

module _ (H : ℕ → Type 0) (S : Settings) where
  keeps_take : (ch : ℕ) (rest : List ℕ) (h : ℕ) (c : Connection) → MayTake H c ch rest h → Reached S c → Reached S (apply S (take ch rest h) c)
  keeps_take ch rest h c l i = record {
    unopened = λ q. nothing_some _ _ (ap (λ d. d.hand_out) (i.unopened q).at_first) l.next;
    agreed = λ m q.
        let a = i.agreed m q in
        other_channels S m c a _ _ _ (shared_take (Some m) c.hand_out c.taken ch rest h l.next a.shared) a.tied
        (taken_through m c.hand_out c.taken c.ties ch rest h l.next a.shared a.through) a.untied;
  }

  keeps_tie : (n : ℕ) (o : Option Tie) (c : Connection) → MayTie S c n o → Reached S c → Reached S (apply S (tie n o) c)
  keeps_tie n o c l i = record {
    unopened = λ q. holderless o (i.unopened q).at_first l.holder;
    agreed = λ m q.
        let a = i.agreed m q in
        other_channels S m c a _ _ _ a.shared
        (with_holds {P = λ k t. k ≤ S.channel_max} c.ties n o (λ t e. l.most) a.tied)
        (with_holds {P = λ k t. c.taken t.outgoing ≡ Some t.handle} c.ties n o (held_by c n o l.holder) a.through)
        (past_received c.state l.open_yet);
  }
    where
      holderless : {B : Type 0} (v : Option Tie) → c ≡ apply S (go c.state) fresh → Holder c n v → B
      holderless None f k = not_held c.ties n k.0 (ap (λ d. d.ties) f) k.1
      holderless (Some t) f k = not_held c.taken t.outgoing t.handle (ap (λ d. d.taken) f) k

  pub keeps : (e : Effect) (c : Connection) → Legit H S c e → Reached S c → Reached S (apply S e c)
  keeps stay c l i = i
  keeps (go x) c l i = record {
    unopened = λ q. let u = i.unopened q in record { stands = l.not_after u.stands; at_first = ap (apply S (go x)) u.at_first };
    agreed = λ m q.
        let a = i.agreed m q in
        record {
          stands = l.not_before a.stands;
          most = a.most;
          reading_own = a.reading_own;
          writing_low = a.writing_low;
          writing_high = a.writing_high;
          shared = a.shared;
          tied = a.tied;
          through = a.through;
          untied = λ e. clash (is OpenReceived x) e l.not_received;
        };
  }
  keeps (agree x m w) c l i =
      let f = before_open_is i l.first in
      let no_tie : c.ties ≡ nowhere = ap (λ d. d.ties) f in
      record {
        unopened = λ q. nothing_some (Some m) m q refl;
        agreed = λ k q. some_same (λ j. Agreed S j (apply S (agree x m w) c)) m k q (record {
          stands = l.opened;
          most = l.most;
          reading_own = refl;
          writing_low = l.low;
          writing_high = l.high;
          shared = subst (EachOnce m (up_from 0 (suc m))) (sym (ap (λ d. d.taken) f)) (once_fresh m);
          tied = λ n t. not_held c.ties n t no_tie;
          through = λ n t. not_held c.ties n t no_tie;
          untied = λ e. no_tie;
        });
      }
  keeps (take ch rest h) c l i = keeps_take ch rest h c l i
  keeps (give ch) c l i = record {
    unopened = λ q. not_held c.taken ch l.0 (ap (λ d. d.taken) (i.unopened q).at_first) l.1;
    agreed = λ m q.
        let a = i.agreed m q in
        other_channels S m c a _ _ _ (shared_give (Some m) c.hand_out c.taken ch l.0 l.1 a.shared) (λ n t e. a.tied n t (left ch (c.ties n) t e).0)
        (freed_through c.taken c.ties ch a.through) (λ e. ap (dropped ch) (a.untied e));
  }
  keeps (tie n o) c l i = keeps_tie n o c l i
  keeps (take_and_tie ch rest h n) c l i =
      let held : with c.taken ch (Some h) ch ≡ Some h = rw (eq-eqb ch ch refl) in
      keeps_tie n (Some (tie_of ch h)) (apply S (take ch rest h) c) (record { open_yet = l.1; most = l.2; holder = held }) (keeps_take ch rest h c l.0 i)

  after_keeps : (c : Connection) {v : Verdict Outcome} → Holds (Lawful H S c) v → Reached S c → Reached S (after S v c)
  after_keeps c refused i = i
  after_keeps c (holds {a} l) i = keeps a.effect c l i

-- ---- every connection that calls can lead to

pub reached_fresh : (S : Settings) → Reached S fresh
reached_fresh S = record { unopened = λ q. record { stands = refl; at_first = refl }; agreed = λ m q. nothing_some None m refl q }

module _ (role : Role) (S : Settings) where
  pub reached_next : (c : Connection) (call : Call) → Reached S c → Reached S (next role S c call)
  reached_next c call i = after_keeps (λ h. Unit {0}) S c (lawful (λ h. Unit {0}) role S c call (lends_any call)) i

  pub reached_run : (calls : List Call) (c : Connection) → Reached S c → Reached S (run role S c calls)
  reached_run [] c i = i
  reached_run (call ∷ calls) c i = reached_run calls (next role S c call) (reached_next c call i)

  pub reached : (calls : List Call) → Reached S (run role S fresh calls)
  reached calls = reached_run calls fresh (reached_fresh S)

-- ---- what no calls lead to

-- OpenReceived, Opened or CloseSent with nothing agreed
pub unagreed_nowhere : (S : Settings) (x : State) → is_one_of after_open x ≡ true → Reached S (apply S (go x) fresh) → ⊥
unagreed_nowhere S x e i = clash (is_one_of after_open x) e (i.unopened refl).stands

-- ---- what is so in either case

module _ {S : Settings} {c : Connection} (i : Reached S c) where
  -- with a max-frame-size in range
  pub reading_within : 512 ≤ S.max_frame_size → S.max_frame_size ≤ 16384 → (512 ≤ c.reading_limit) × (c.reading_limit ≤ 16384)
  reading_within low high =
      either_way i
      (λ u. let e : c.reading_limit ≡ 512 = ap (λ d. d.reading_limit) u.at_first in (omega arith, omega arith))
      (λ m q a. let e = a.reading_own in (omega arith, omega arith))

  pub writing_within : (512 ≤ c.writing_limit) × (c.writing_limit ≤ 16384)
  writing_within =
      either_way i
      (λ u. let e : c.writing_limit ≡ 512 = ap (λ d. d.writing_limit) u.at_first in (omega arith, omega arith))
      (λ m q a. (a.writing_low, a.writing_high))

  -- a tied channel is at most the local channel-max
  pub tied_within : TiedWithin S.channel_max c.ties
  tied_within = either_way i (λ u n t. not_held c.ties n t (ap (λ d. d.ties) u.at_first)) (λ m q a. a.tied)

  -- a tie names a taken channel, with its handle
  pub tied_through : TiedThrough c.taken c.ties
  tied_through = either_way i (λ u n t. not_held c.ties n t (ap (λ d. d.ties) u.at_first)) (λ m q a. a.through)

  pub shares : Shared c.agreed_max c.hand_out c.taken
  shares = either_way i (λ u. subst (λ d. Shared d.agreed_max d.hand_out d.taken) (sym u.at_first) refl) (λ m q a. subst (λ o. Shared o c.hand_out c.taken) (sym q) a.shared)

  -- no ties before both Opens
  pub untied_yet : stage c.state ≤ 1 → c.ties ≡ nowhere
  untied_yet u = either_way i (λ f. ap (λ d. d.ties) f.at_first) (λ m q a. a.untied (received c.state u a.stands))
    where
      received : (x : State) → stage x ≤ 1 → is_one_of before_open x ≡ false → is OpenReceived x ≡ true
      received x v e =
          let t : T (cond (leb (stage x) 1) (is_one_of before_open x || is OpenReceived x) true) =
          everywhere (λ y. cond (leb (stage y) 1) (is_one_of before_open y || is OpenReceived y) true) tt tt x in
          let o : T (is_one_of before_open x || is OpenReceived x) = implied (leb (stage x) 1) _ t (subst T (sym (le-leb (stage x) 1 v)) tt) in
          true_is (is OpenReceived x) (subst (λ b. T (b || is OpenReceived x)) e o)

  pub early : stage c.state ≡ 0 → c ≡ apply S (go c.state) fresh
  early e =
      let t : T (cond (eqb (stage c.state) 0) (is_one_of before_open c.state) true) =
      everywhere (λ y. cond (eqb (stage y) 0) (is_one_of before_open y) true) tt tt c.state in
      before_open_is i (true_is (is_one_of before_open c.state) (implied (eqb (stage c.state) 0) _ t (subst T (sym (eq-eqb (stage c.state) 0 e)) tt)))

-- ---- channels that are taken

shared_once : (a : Option ℕ) (o : Option (List ℕ)) (tk : Map) → Shared a o tk → (m : ℕ) (l : List ℕ) → a ≡ Some m → o ≡ Some l → EachOnce m l tk
shared_once a o tk i m l e q = subst (λ b. Shared b (Some l) tk) e (subst (λ b. Shared a b tk) q i)

module _ {S : Settings} {c : Connection} (i : Reached S c) where
  -- taken numbers and the hand-out list together are 0 to the agreed channel-max, each once
  pub each_once : (m : ℕ) (l : List ℕ) → c.agreed_max ≡ Some m → c.hand_out ≡ Some l → EachOnce m l c.taken
  each_once = shared_once c.agreed_max c.hand_out c.taken (shares i)

  -- a taken channel is at most the agreed channel-max, which is at most the local one
  pub taken_within : (n h : ℕ) → c.taken n ≡ Some h → (m : ℕ) × (c.agreed_max ≡ Some m) × (n ≤ m) × (m ≤ S.channel_max)
  taken_within n h e = either_way i (λ u. not_held c.taken n h (ap (λ d. d.taken) u.at_first) e) (λ m q a. (m, q, low m c.hand_out a.shared, a.most))
    where
      low : (m : ℕ) (l : Option (List ℕ)) → Shared (Some m) l c.taken → n ≤ m
      low m None s = absurd s
      low m (Some l) s = once_taken m l c.taken n h s e

  -- nothing is taken while there is no hand-out list
  pub none_taken_yet : c.hand_out ≡ None → c.taken ≡ nowhere
  none_taken_yet e = either_way i (λ u. ap (λ d. d.taken) u.at_first) (λ m q a. absurd (subst (λ o. Shared (Some m) o c.taken) e a.shared))

-- ---- handles

-- what holds of every handle that is lent holds of every handle that is held
pub record Lent (H : ℕ → Type 0) (taken : Map) (ties : Ties) : Type 0 where
  pub taken_lent : (n h : ℕ) → taken n ≡ Some h → H h
  pub tied_lent : (n : ℕ) (t : Tie) → ties n ≡ Some t → H t.handle

abbrev pub AllLend : (ℕ → Type 0) → List Call → Type 0
AllLend H [] = Unit {0}
AllLend H (call ∷ calls) = Lends H call × AllLend H calls

module _ (H : ℕ → Type 0) (S : Settings) where
  lent_keeps : (e : Effect) (c : Connection) → Legit H S c e → Lent H c.taken c.ties → Lent H (apply S e c).taken (apply S e c).ties
  lent_keeps stay c l i = i
  lent_keeps (go x) c l i = i
  lent_keeps (agree x m w) c l i = i
  lent_keeps (take ch rest h) c l i = record {
    taken_lent = with_holds {P = λ n k. H k} c.taken ch (Some h) (λ k e. some_same H h k e l.lent) i.taken_lent;
    tied_lent = i.tied_lent;
  }
  lent_keeps (give ch) c l i = record {
    taken_lent = with_holds {P = λ n k. H k} c.taken ch None (λ k e. nothing_some None k refl e) i.taken_lent;
    tied_lent = λ n t e. i.tied_lent n t (left ch (c.ties n) t e).0;
  }
  lent_keeps (tie n o) c l i = record {
    taken_lent = i.taken_lent;
    tied_lent = with_holds {P = λ k t. H t.handle} c.ties n o (λ t e. i.taken_lent t.outgoing t.handle (held_by c n o l.holder t e)) i.tied_lent;
  }
  lent_keeps (take_and_tie ch rest h n) c l i = record {
    taken_lent = with_holds {P = λ n k. H k} c.taken ch (Some h) (λ k e. some_same H h k e l.0.lent) i.taken_lent;
    tied_lent = with_holds {P = λ k t. H t.handle} c.ties n (Some (tie_of ch h)) (λ t e. some_same (λ u. H u.handle) (tie_of ch h) t e l.0.lent) i.tied_lent;
  }

  lent_after : (c : Connection) {v : Verdict Outcome} → Holds (Lawful H S c) v → Lent H c.taken c.ties → Lent H (after S v c).taken (after S v c).ties
  lent_after c refused i = i
  lent_after c (holds {a} l) i = lent_keeps a.effect c l i

  pub lent_run : (role : Role) (calls : List Call) (c : Connection) → AllLend H calls → Lent H c.taken c.ties → Lent H (run role S c calls).taken (run role S c calls).ties
  lent_run role [] c k i = i
  lent_run role (call ∷ calls) c k i = lent_run role calls (next role S c call) k.1 (lent_after c (lawful H role S c call k.0) i)

  pub handles_lent : (role : Role) (calls : List Call) → AllLend H calls → Lent H (run role S fresh calls).taken (run role S fresh calls).ties
  handles_lent role calls k = lent_run role calls fresh k (record { taken_lent = λ n h e. nothing_some None h refl e; tied_lent = λ n t e. nothing_some None t refl e })
