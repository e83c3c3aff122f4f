-- Connections that draw the same from every list of calls have the same account: a few short lists of calls tell its parts. The state is told by eight single
-- calls, a limit by a frame of its length, the taken channels by deallocating, the hand-out list by allocating, the handle of a tie by a Detach on its channel,
-- and the outgoing channel of a tie by a Detach after this channel was deallocated.
-- Assumes nothing.
use mathlib.Core.Path.{◌≡◌, refl, sym, ◌∙◌, ap, ap₂, subst, fun_ext}
use mathlib.Core.Bool.{Bool, true, false, cond, not}
use mathlib.Core.List.{List, [], ◌∷◌}
use Rattle.std.specs.Prelude.{Option, None, Some}
use Prim.Native.Nat.{ℕ, ◌+◌, ◌*◌, ◌≤◌, ◌<◌}
use native.Mathlib.Omega.{arith}
use lib.Dec.{leb, eqb}
use borrow.Author.Tests.{le-leb, eq-eqb, eqb-true, leb-true, leb-false, lt-ltb, not-false}
use Rattle.octets.specs.Verdict.{Verdict, refuse, require, accepts}
use Rattle.octets.specs.Octets.{bytes_of}
use Rattle.frame_encoder.specs.Frames.{Settings, frame_bytes, settings_ok}
use Rattle.frame_encoder.proofs.Laws.{settings_within}
use Rattle.connection_state.specs.States.{State, Start, HeaderReceived, HeaderSent, HeaderExchange, OpenPipe, OpenClosePipe, OpenReceived, OpenSent, ClosePipe, Opened, CloseReceived, CloseSent, Discarding, End, states, is, is_one_of, send_header, receive_header, send_open, read_open, send_close, read_close, reading, sending, stopped}
use Rattle.connection_state.proofs.States.{is_state, everywhere}
use Rattle.channels.specs.Numbers.{Map, with, freed_first}
use Rattle.channels.specs.Ties.{Tie, Ties, handle_of, through, dropped}
use Rattle.connection_model.specs.Connection.{Role, Connection, connection, released, after, Call, send_header_to, receive_header_from, send_open_to, receive_frame, send_close_to, send_session_frame, allocate, deallocate, Answer, given, decide, answered, Seen, next, seen_in}
use Rattle.connection_model.specs.Account.{when, limits_show, account}
use Rattle.connection_model.specs.Callers.{is_valid, are_valid, Valid}
use Rattle.connection_model.proofs.Valid.{both}
use Rattle.connection_model.proofs.ProbeFrames.{framed, an_open, a_close, a_detach}
use Rattle.connection_model.proofs.Probes.{space, space_slice, refused_with, refuses, bars, amqp, frame_valid, send_header_told, receive_header_told, send_open_told, send_close_told, read_open_told, read_close_told, read_detach_told, allocate_told, number_valid, length_told, transfer_of, transfer_valid, transfer_told, at, close_next, detach_read, passed_told, released_told, head_told, absent_told}

-- ---- premises

-- what holds of every connection that calls lead to, over the fields that it speaks of
pub record InReach (highest reading_limit writing_limit : ℕ) (taken : Map) (ties : Ties) : Type 0 where
  pub reading_low : 512 ≤ reading_limit
  pub reading_high : reading_limit ≤ 16384
  pub writing_low : 512 ≤ writing_limit
  pub writing_high : writing_limit ≤ 16384
  pub taken_in : (n h : ℕ) → taken n ≡ Some h → n ≤ highest
  pub ties_in : (n : ℕ) (t : Tie) → ties n ≡ Some t → n ≤ highest
  pub ties_through : (n : ℕ) (t : Tie) → ties n ≡ Some t → taken t.outgoing ≡ Some t.handle

abbrev pub Reachable : Settings → Connection → Type 0
Reachable S c = InReach S.channel_max c.reading_limit c.writing_limit c.taken c.ties

-- no list of calls that a caller can pass tells them apart
abbrev pub Same : Role → Settings → Connection → Connection → Type 0
Same role S c d = (calls : List Call) → Valid calls → seen_in role S c calls ≡ seen_in role S d calls

-- ---- a single call, and what comes after it

first : List Seen → Verdict Answer
first [] = refuse 0
first (s ∷ ss) = s.answer

others : List Seen → List Seen
others [] = []
others (s ∷ ss) = ss

module _ (role : Role) (S : Settings) (c d : Connection) (same : Same role S c d) (call : Call) (ok : is_valid call ≡ true) where
  one : answered (decide role S c call) ≡ answered (decide role S d call)
  unfolding first
  one = ap first (same (call ∷ []) (both (is_valid call) true ok refl))

  later : Same role S (next role S c call) (next role S d call)
  unfolding others
  later calls oks = ap others (same (call ∷ calls) (both (is_valid call) (are_valid calls) ok oks))

  refuse_both : (k : ℕ) → refuses k (decide role S c call) ≡ refuses k (decide role S d call)
  refuse_both k = ap (refused_with k) one

-- ---- the state

-- how a state answers the eight
abbrev signs : State → List Bool
signs x =
    bars send_header x
    ∷ bars receive_header x
    ∷ bars send_open x
    ∷ bars send_close x
    ∷ cond (is Discarding x) false (bars read_open x)
    ∷ bars read_close x
    ∷ cond (is Discarding x) false (not (is_one_of reading x))
    ∷ not (not (is_one_of stopped x))
    ∷ []

abbrev number : List Bool → ℕ
number [] = 0
number (true ∷ bs) = 1 + 2 * number bs
number (false ∷ bs) = 2 * number bs

-- the state that answers so
find : ℕ → List State → State
find n [] = End
find n (x ∷ xs) = cond (eqb n (number (signs x))) x (find n xs)

-- no two states answer the eight alike
found : (x : State) → find (number (signs x)) states ≡ x
unfolding find accepts
found x = is_state (find (number (signs x)) states) x (everywhere (λ y. is (find (number (signs y)) states) y) tt tt x)

-- ---- a limit, by what it lets pass

limit_le : (a b : ℕ) → not (leb a a) ≡ not (leb a b) → a ≤ b
limit_le a b e = leb-true a b (not-false (leb a b) (sym e ∙ ap not (le-leb a a (omega arith))))

limits : (a b : ℕ) → 512 ≤ a → a ≤ 16384 → 512 ≤ b → b ≤ 16384 → ((n : ℕ) → 512 ≤ n → n ≤ 16384 → not (leb n a) ≡ not (leb n b)) → a ≡ b
limits a b la ha lb hb told =
    let p : a ≤ b = limit_le a b (told a la ha) in
    let q : b ≤ a = limit_le b a (sym (told b lb hb)) in
    omega arith

-- ---- maps that end at m: they have nothing above it, and are equal if they are so up to it

ends_at : {A : Type 0} (m n : ℕ) (o : Option A) → m < n → ((a : A) → o ≡ Some a → n ≤ m) → o ≡ None
ends_at m n None lt ends = refl
ends_at m n (Some a) lt ends = let le : n ≤ m = ends a refl in absurd (omega arith)

same_maps : {A : Type 0} (m : ℕ) (f g : ℕ → Option A) → ((n : ℕ) (a : A) → f n ≡ Some a → n ≤ m) → ((n : ℕ) (a : A) → g n ≡ Some a → n ≤ m) → ((n : ℕ) → n ≤ m → f n ≡ g n) → f ≡ g
same_maps m f g ends-f ends-g same = fun_ext (λ n. at n (leb n m) refl)
  where
    at : (n : ℕ) (t : Bool) → leb n m ≡ t → f n ≡ g n
    at n true e = same n (leb-true n m e)
    at n false e = let lt : m < n = leb-false n m e in ends_at m n (f n) lt (ends-f n) ∙ sym (ends_at m n (g n) lt (ends-g n))

-- ---- what shows in every state

module _ (role : Role) (S : Settings) (c d : Connection) (i : Reachable S c) (j : Reachable S d) (same : Same role S c d) where
  sign_both : (k : ℕ) (call : Call) → is_valid call ≡ true → (sign : State → Bool)
      → ((e : Connection) → 512 ≤ e.reading_limit → refuses k (decide role S e call) ≡ sign e.state) → sign c.state ≡ sign d.state
  sign_both k call ok sign told = sym (told c i.reading_low) ∙ refuse_both role S c d same call ok k ∙ told d j.reading_low

  signs_both : signs c.state ≡ signs d.state
  signs_both = λ z.
      sign_both 20 (send_header_to space) space_slice _ (send_header_told role S) z
      ∷ sign_both 20 (receive_header_from amqp) refl _ (receive_header_told role S) z
      ∷ sign_both 20 (send_open_to space) space_slice _ (send_open_told role S) z
      ∷ sign_both 20 (send_close_to None space) space_slice _ (send_close_told role S) z
      ∷ sign_both 20 (receive_frame (frame_bytes 0 an_open) 0) (frame_valid 0 an_open refl (omega arith)) _ (read_open_told role S) z
      ∷ sign_both 20 (receive_frame (frame_bytes 0 a_close) 0) (frame_valid 0 a_close refl (omega arith)) _ (read_close_told role S) z
      ∷ sign_both 20 (receive_frame (frame_bytes 0 a_detach) 0) (frame_valid 0 a_detach refl (omega arith)) _ (read_detach_told role S) z
      ∷ sign_both 22 (allocate 0) refl _ (allocate_told role S) z
      ∷ []

  state_both : c.state ≡ d.state
  state_both = sym (found c.state) ∙ ap (λ l. find (number l) states) signs_both ∙ found d.state

  reading_both : c.reading_limit ≡ d.reading_limit
  reading_both =
      limits c.reading_limit d.reading_limit i.reading_low i.reading_high j.reading_low j.reading_high
      (λ n low high. sym (length_told role S c n (omega arith) (omega arith))
      ∙ refuse_both role S c d same (receive_frame (bytes_of 4 n) 0) (number_valid n) 4 ∙ length_told role S d n (omega arith) (omega arith))

  taken_both : S.channel_max < 65536 → c.taken ≡ d.taken
  taken_both few =
      same_maps S.channel_max c.taken d.taken i.taken_in j.taken_in
      (λ n le. released_told n (c.taken n) (d.taken n) (one role S c d same (deallocate n) (lt-ltb n 65536 (omega arith))))

-- ---- where the limits show

data Shows : State → Type 0 where
  in_received : Shows OpenReceived
  in_opened_lem : Shows Opened
  in_closing : Shows CloseReceived

module _ (role : Role) (S : Settings) (c d : Connection) (i : Reachable S c) (j : Reachable S d) (l m : Option (List ℕ)) where
  abbrev SameAt : State → Type 0
  SameAt x = Same role S (at x l c) (at x m d)

  closed_both : SameAt OpenReceived → SameAt CloseReceived
  closed_both same =
      subst (λ e. Same role S e (at CloseReceived m d)) (close_next role S l c i.reading_low)
      (subst (Same role S (next role S (at OpenReceived l c) (receive_frame (frame_bytes 0 a_close) 0))) (close_next role S m d j.reading_low)
      (later role S (at OpenReceived l c) (at OpenReceived m d) same (receive_frame (frame_bytes 0 a_close) 0) (frame_valid 0 a_close refl (omega arith))))

  transfer_both : (x : State) → is_one_of sending x ≡ true → SameAt x → c.writing_limit ≡ d.writing_limit
  transfer_both x sends same =
      limits c.writing_limit d.writing_limit i.writing_low i.writing_high j.writing_low j.writing_high
      (λ n low high. sym (transfer_told role S (at x l c) sends n (omega arith) high)
      ∙ refuse_both role S (at x l c) (at x m d) same (send_session_frame (transfer_of n) space) (transfer_valid n high) 27
      ∙ transfer_told role S (at x m d) sends n (omega arith) high)

  writing_both : (x : State) → Shows x → SameAt x → c.writing_limit ≡ d.writing_limit
  writing_both x in_received same = transfer_both CloseReceived refl (closed_both same)
  writing_both x in_opened_lem same = transfer_both Opened refl same
  writing_both x in_closing same = transfer_both CloseReceived refl same

-- ---- ties

-- a channel is freed, and the ties through it are dropped
abbrev freeing : ℕ → Connection → Connection
freeing ch c = connection c.state c.reading_limit c.writing_limit c.agreed_max c.hand_out (with c.taken ch None) (dropped ch c.ties)

-- what a Detach tells of a tie after a channel was freed: nothing if it was made through this channel, and else its handle
gone : (o : Option Tie) (t : Tie) → o ≡ Some t → handle_of (cond (through t.outgoing o) None o) ≡ None
gone o t e = ap (λ v. handle_of (cond (through t.outgoing v) None v)) e ∙ ap (λ b. handle_of (cond b None (Some t))) (eq-eqb t.outgoing t.outgoing refl)

kept : (ch : ℕ) (o : Option Tie) (u : Tie) → o ≡ Some u → eqb u.outgoing ch ≡ false → handle_of (cond (through ch o) None o) ≡ Some u.handle
kept ch o u e p = ap (λ v. handle_of (cond (through ch v) None v)) e ∙ ap (λ b. handle_of (cond b None (Some u))) p

tie_same : (t u : Tie) → t.outgoing ≡ u.outgoing → t.handle ≡ u.handle → Some t ≡ Some u
tie_same t u p q = λ z. Some (record { outgoing = p z; handle = q z })

module _ (role : Role) (S : Settings) (few : S.channel_max < 65536) where
  handle_both : (n : ℕ) → n ≤ S.channel_max → (l m : Option (List ℕ)) (c d : Connection) → 512 ≤ c.reading_limit → 512 ≤ d.reading_limit
      → Same role S (at Opened l c) (at Opened m d) → handle_of (c.ties n) ≡ handle_of (d.ties n)
  handle_both n le l m c d low low' same =
      passed_told (framed 15 n) 22 (c.ties n) (d.ties n)
      (ap answered (sym (detach_read role S l c n low le (omega arith)))
      ∙ one role S (at Opened l c) (at Opened m d) same (receive_frame (frame_bytes n a_detach) 0) (frame_valid n a_detach refl (omega arith))
      ∙ ap answered (detach_read role S m d n low' le (omega arith)))

  freed_next : (ch h : ℕ) (l : Option (List ℕ)) (c : Connection) → c.taken ch ≡ Some h → next role S (at Opened l c) (deallocate ch) ≡ at Opened (freed_first ch l) (freeing ch c)
  freed_next ch h l c e = ap (λ o. after S (released ch o) (at Opened l c)) e

  freed_both : (ch h : ℕ) (l m : Option (List ℕ)) (c d : Connection) → ch ≤ S.channel_max → c.taken ch ≡ Some h → d.taken ch ≡ Some h
      → Same role S (at Opened l c) (at Opened m d) → Same role S (at Opened (freed_first ch l) (freeing ch c)) (at Opened (freed_first ch m) (freeing ch d))
  freed_both ch h l m c d le e q same =
      subst (λ x. Same role S x (at Opened (freed_first ch m) (freeing ch d))) (freed_next ch h l c e)
      (subst (Same role S (next role S (at Opened l c) (deallocate ch))) (freed_next ch h m d q)
      (later role S (at Opened l c) (at Opened m d) same (deallocate ch) (lt-ltb ch 65536 (omega arith))))

  module _ (c d : Connection) (i : Reachable S c) (j : Reachable S d) (l m : Option (List ℕ)) (same : Same role S (at Opened l c) (at Opened m d)) (tk : c.taken ≡ d.taken) where
    -- the outgoing channel of the first tie is freed, which leaves only a tie through another channel
    outgoing_both : (n : ℕ) → n ≤ S.channel_max → (t u : Tie) → c.ties n ≡ Some t → d.ties n ≡ Some u → (b : Bool) → eqb u.outgoing t.outgoing ≡ b → t.outgoing ≡ u.outgoing
    outgoing_both n le t u e q true p = sym (eqb-true u.outgoing t.outgoing p)
    outgoing_both n le t u e q false p =
        let ch = t.outgoing in
        let k : c.taken ch ≡ Some t.handle = i.ties_through n t e in
        let told : handle_of (dropped ch c.ties n) ≡ handle_of (dropped ch d.ties n) =
        handle_both n le (freed_first ch l) (freed_first ch m) (freeing ch c) (freeing ch d) i.reading_low j.reading_low
        (freed_both ch t.handle l m c d (i.taken_in ch t.handle k) k (sym (ap (λ f. f ch) tk) ∙ k) same) in
        let z : None ≡ Some u.handle = sym (gone (c.ties n) t e) ∙ told ∙ kept ch (d.ties n) u q p in
        cc

    tie_both : (n : ℕ) → n ≤ S.channel_max → (o v : Option Tie) → c.ties n ≡ o → d.ties n ≡ v → handle_of o ≡ handle_of v → o ≡ v
    tie_both n le None None e q p = refl
    tie_both n le None (Some u) e q p = cc
    tie_both n le (Some t) None e q p = cc
    tie_both n le (Some t) (Some u) e q p =
        let h : t.handle ≡ u.handle = cc in
        tie_same t u (outgoing_both n le t u e q (eqb u.outgoing t.outgoing) refl) h

    ties_both : c.ties ≡ d.ties
    ties_both =
        same_maps S.channel_max c.ties d.ties i.ties_in j.ties_in
        (λ n le. tie_both n le (c.ties n) (d.ties n) refl refl (handle_both n le l m c d i.reading_low j.reading_low same))

-- ---- the hand-out list

-- a channel more is taken
abbrev taking : ℕ → Connection → Connection
taking ch c = connection c.state c.reading_limit c.writing_limit c.agreed_max c.hand_out (with c.taken ch (Some 0)) c.ties

module _ (role : Role) (S : Settings) where
  allocate_both : (x : State) → Shows x → (l m : Option (List ℕ)) (c d : Connection) → Same role S (at x l c) (at x m d) → answered (given 0 l) ≡ answered (given 0 m)
  unfolding require
  allocate_both x in_received l m c d same = one role S _ _ same (allocate 0) refl
  allocate_both x in_opened_lem l m c d same = one role S _ _ same (allocate 0) refl
  allocate_both x in_closing l m c d same = one role S _ _ same (allocate 0) refl

  allocated_both : (x : State) → Shows x → (a b : ℕ) (l m : List ℕ) (c d : Connection)
      → Same role S (at x (Some (a ∷ l)) c) (at x (Some (b ∷ m)) d) → Same role S (at x (Some l) (taking a c)) (at x (Some m) (taking b d))
  unfolding require
  allocated_both x in_received a b l m c d same = later role S _ _ same (allocate 0) refl
  allocated_both x in_opened_lem a b l m c d same = later role S _ _ same (allocate 0) refl
  allocated_both x in_closing a b l m c d same = later role S _ _ same (allocate 0) refl

  list_both : (x : State) → Shows x → (l m : List ℕ) (c d : Connection) → Same role S (at x (Some l) c) (at x (Some m) d) → l ≡ m
  list_both x g [] [] c d same = refl
  list_both x g [] (b ∷ m) c d same = let p : answered (given 0 (Some [])) ≡ answered (given 0 (Some (b ∷ m))) = allocate_both x g (Some []) (Some (b ∷ m)) c d same in cc
  list_both x g (a ∷ l) [] c d same = let p : answered (given 0 (Some (a ∷ l))) ≡ answered (given 0 (Some [])) = allocate_both x g (Some (a ∷ l)) (Some []) c d same in cc
  list_both x g (a ∷ l) (b ∷ m) c d same =
      ap₂ ◌∷◌ (head_told a b (allocate_both x g (Some (a ∷ l)) (Some (b ∷ m)) c d same)) (list_both x g l m (taking a c) (taking b d) (allocated_both x g a b l m c d same))

  hand_out_both : (x : State) → Shows x → (l m : Option (List ℕ)) (c d : Connection) → Same role S (at x l c) (at x m d) → l ≡ m
  hand_out_both x g None None c d same = refl
  hand_out_both x g None (Some m) c d same = absent_told m (allocate_both x g None (Some m) c d same)
  hand_out_both x g (Some l) None c d same = sym (absent_told l (sym (allocate_both x g (Some l) None c d same)))
  hand_out_both x g (Some l) (Some m) c d same = ap Some (list_both x g l m c d same)

-- ---- the account

-- what shows at a state is equal if it is where the state shows it
shown : {A : Type 0} (x : State) (a b : A) → (Shows x → a ≡ b) → when (limits_show x) a ≡ when (limits_show x) b
shown Start a b p = refl
shown HeaderReceived a b p = refl
shown HeaderSent a b p = refl
shown HeaderExchange a b p = refl
shown OpenPipe a b p = refl
shown OpenClosePipe a b p = refl
shown OpenReceived a b p = ap Some (p in_received)
shown OpenSent a b p = refl
shown ClosePipe a b p = refl
shown Opened a b p = ap Some (p in_opened_lem)
shown CloseReceived a b p = ap Some (p in_closing)
shown CloseSent a b p = refl
shown Discarding a b p = refl
shown End a b p = refl

shown_ties : (x : State) (l m : Option (List ℕ)) (c d : Connection) → (x ≡ Opened → c.ties ≡ d.ties) → (account (at x l c)).ties ≡ (account (at x m d)).ties
shown_ties Start l m c d p = refl
shown_ties HeaderReceived l m c d p = refl
shown_ties HeaderSent l m c d p = refl
shown_ties HeaderExchange l m c d p = refl
shown_ties OpenPipe l m c d p = refl
shown_ties OpenClosePipe l m c d p = refl
shown_ties OpenReceived l m c d p = refl
shown_ties OpenSent l m c d p = refl
shown_ties ClosePipe l m c d p = refl
shown_ties Opened l m c d p = ap Some (p refl)
shown_ties CloseReceived l m c d p = refl
shown_ties CloseSent l m c d p = refl
shown_ties Discarding l m c d p = refl
shown_ties End l m c d p = refl

module _ (role : Role) (S : Settings) (ok : settings_ok S.container_id S.max_frame_size S.channel_max ≡ true) (c d : Connection) (i : Reachable S c) (j : Reachable S d) where
  few : S.channel_max < 65536
  few = omega (arith, (settings_within S.container_id S.max_frame_size S.channel_max ok).channel_high)

  apart_at : (x : State) → Same role S (at x c.hand_out c) (at x d.hand_out d) → account (at x c.hand_out c) ≡ account (at x d.hand_out d)
  apart_at x same = λ z. record {
    state = x;
    reading_limit = reading_both role S (at x c.hand_out c) (at x d.hand_out d) i j same z;
    taken = taken_both role S (at x c.hand_out c) (at x d.hand_out d) i j same few z;
    writing_limit = shown x c.writing_limit d.writing_limit (λ g. writing_both role S c d i j c.hand_out d.hand_out x g same) z;
    hand_out = shown x c.hand_out d.hand_out (λ g. hand_out_both role S x g c.hand_out d.hand_out c d same) z;
    ties =
        shown_ties x c.hand_out d.hand_out c d
        (λ e. ties_both role S few c d i j c.hand_out d.hand_out
        (subst (λ y. Same role S (at y c.hand_out c) (at y d.hand_out d)) e same)
        (taken_both role S (at x c.hand_out c) (at x d.hand_out d) i j same few)) z;
  }

  -- Two connections that calls lead to, of one role and with the same settings in range: if every list of calls that a caller can pass draws the same from
  -- both, every answer and every byte of lent output, then their accounts are equal.
  pub apart : Same role S c d → account c ≡ account d
  apart same =
      let at-state : Same role S c d → account c ≡ account d =
      subst (λ y. Same role S c (at y d.hand_out d) → account c ≡ account (at y d.hand_out d)) (state_both role S c d i j same) (apart_at c.state) in
      at-state same
