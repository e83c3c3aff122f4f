-- What is told of an engine, and how it is laid into the lent answer.
-- Assumes nothing.
use mathlib.Core.Path.{◌≡◌, refl, sym, ◌∙◌, ap, ap₂, subst}
use mathlib.Core.Bool.{true, false}
use mathlib.Core.List.{List, [], ◌∷◌, ◌++◌, append_assoc}
use Rattle.std.specs.Prelude.{Option, None, Some, Result, Ok, Err}
use Prim.Native.Nat.{ℕ, suc, ◌≤◌, ◌<◌}
use native.Mathlib.Omega.{arith}
use lib.ListN.{length, length-append}
use borrow.Author.Tests.{le-leb, lt-leb}
use types.Run.{OneOf, miss}
use denote.Enum.Declared.{tag_of}
use Rattle.octets.specs.Octets.{bytes_of, put}
use Rattle.octets.specs.Verdict.{Verdict, refuse, accept}
use Rattle.octets.specs.Refusal.{number_of, judged}
use Rattle.octets.specs.declared.Refusal.{Refusal}
use Rattle.octets.proofs.Laws.{length_bytes_of, put_not}
use Rattle.layout.specs.Layout.{may}
use Rattle.layout.proofs.Laws.{length_may}
use Rattle.layout.proofs.Parts.{first, more}
use Rattle.frame_encoder.specs.Frames.{Settings}
use Rattle.channels.specs.Numbers.{taken_below}
use Rattle.channels.specs.Ties.{handle_of}
use Rattle.connection_state.specs.declared.ConnectionState.{ConnectionState}
use Rattle.connection_state.specs.Answers.{state_says}
use Rattle.connection_state.specs.States.{numbered}
use Rattle.connection_model.specs.Connection.{Role}
use Rattle.endpoint.specs.declared.Role as E
use Rattle.endpoint.specs.Answers.{role_says}
use Rattle.connection.specs.declared.Connection.{Connection}
use Rattle.connection.specs.Promises.{Counts, Looks}
use Rattle.connection.specs.View as View
use Rattle.engine_model.specs.Engine as M
use Rattle.engine_model.specs.Engine.{Engine}
use Rattle.engine_model.proofs.Laws.{clash}
use Rattle.engine.specs.declared.ConnectionEngine.{ConnectionEngine}
use Rattle.engine.specs.declared.Phase.{Phase}
use Rattle.engine.specs.Answers.{Whole, whole, connection_in, phase_says, role_of, settings_of, view_of, Sound}
use Rattle.engine.proofs.Output.{rest_is}
use Rattle.engine_bytes.specs.Bytes.{Fixed, role_number, phase_bytes, id_at, tables_at, fixed_at}
use Rattle.engine_bytes.specs.Promises.{read_says}
use Rattle.engine_bytes.proofs.Standing.{stand_only}
use Rattle.hisproat.specs.Answers.{status_bytes, taken_bytes, tied_bytes}
use Rattle.hisproat.specs.Crossing.{told, Reports}
use Rattle.hisproat.specs.Promises.{PutsHandle, PutsStatus}
use Rattle.hisproat.proofs.Crossings.{read_is, lent_tables}

-- ---- a number that may be absent

-- what is looked up was found, or not, or refused
module _ (a a' : List ℕ) where
  both : {A : Type 0} (h : Option ℕ) (n : ℕ) → ◌≡◌ {A = Verdict (Option ℕ)} (accept h) (refuse n) → A
  both h n q = let z : ◌≡◌ {A = ℕ} 0 1 = cc in absurd (omega arith)

  puts_found : (v : Verdict (Option ℕ)) (h : Option ℕ) → v ≡ accept h → a' ≡ put a 0 (may 4 h) → PutsHandle v a 0 a'
  puts_found v h q p = record {
    puts_handle = λ g r. let z : h ≡ g = inner (sym q ∙ r) in (refl, p ∙ ap (λ x. put a 0 (may 4 x)) z);
    puts_not = λ n r. both h n (sym q ∙ r);
  }
    where
      inner : {g : Option ℕ} → ◌≡◌ {A = Verdict (Option ℕ)} (accept h) (accept g) → h ≡ g
      inner x = cc

  module _ (x : Result (Option ℕ) Refusal) where
    pub puts_there : (g : Option ℕ) → x ≡ Ok g → (h k : ℕ) → g ≡ Some h → k ≡ h → a' ≡ put a 0 (may 4 (Some k)) → PutsHandle (judged x) a 0 a'
    puts_there g q h k e r p = puts_found (judged x) (Some h) (ap judged (q ∙ ap (λ y. Ok y) e)) (p ∙ ap (λ y. put a 0 (may 4 (Some y))) r)

    pub puts_nothing : (g : Option ℕ) → x ≡ Ok g → g ≡ None → a' ≡ put a 0 (may 4 None) → PutsHandle (judged x) a 0 a'
    puts_nothing g q e p = puts_found (judged x) None (ap judged (q ∙ ap (λ y. Ok y) e)) p

    pub puts_refused : (k : Refusal) → x ≡ Err k → PutsHandle (judged x) a (number_of k) a
    puts_refused k e = record {
      puts_handle = λ h r. both h (number_of k) (sym r ∙ ap judged e);
      puts_not = λ n r. let z : number_of k ≡ n = inner (sym (ap judged e) ∙ r) in (z, refl);
    }
      where
        inner : {j n : ℕ} → ◌≡◌ {A = Verdict (Option ℕ)} (refuse j) (refuse n) → j ≡ n
        inner x = cc

-- ---- any reader

pub reports_short : (n : ℕ) (bytes : Role → Settings → Engine → List ℕ) (s a : List ℕ) → length a < n → Reports n bytes s a (told 9 a)
reports_short n bytes s a h = record {
  short = λ t. refl;
  broken = λ t. clash (sym t ∙ lt-leb n (length a) h);
  stands = λ t. clash (sym t ∙ lt-leb n (length a) h);
  refused = λ r. refl;
}

module _ (n : ℕ) (bytes : Role → Settings → Engine → List ℕ) (s a : List ℕ) (room : n ≤ length a) (read : Option ConnectionEngine) (reads : read_says (id_at s) read ≡ fixed_at s) where
  never : {f : Fixed} → fixed_at s ≡ accept f → fixed_at s ≡ refuse 8 → ◌≡◌ {A = ℕ} 0 1
  never p q = cc

  pub reports_broken : read ≡ None → Reports n bytes s a (told 8 a)
  reports_broken b = record {
    short = λ t. clash (sym (le-leb n (length a) room) ∙ t);
    broken = λ t n. refl;
    stands = λ t role S e z. let q : ◌≡◌ {A = ℕ} 0 1 = never z.reads (sym reads ∙ ap (read_says (id_at s)) b) in absurd (omega arith);
    refused = λ r. refl;
  }

  module _ (e : ConnectionEngine) (known : read ≡ Some e) where
    pub reports : (k : ℕ) (a' : List ℕ) → (Sound (whole e (tables_at s) (id_at s)) → (k ≡ 0) × (a' ≡ put a 0 (bytes (role_of (whole e (tables_at s) (id_at s))) (settings_of (whole e (tables_at s) (id_at s))) (view_of (whole e (tables_at s) (id_at s))))))
        → ((k ≡ 0 → ⊥) → a' ≡ a) → Reports n bytes s a (told k a')
    reports k a' p q = record {
      short = λ t. clash (sym (le-leb n (length a) room) ∙ t);
      broken = λ t b. let z : ◌≡◌ {A = ℕ} 0 1 = never (read_is s read reads e known) b in absurd (omega arith);
      stands = λ t role S x z.
          let o = stand_only s e (read_is s read reads e known) role S x z in
          let w = p o.3 in
          ap₂ told w.0 (w.1 ∙ (λ i. put a 0 (bytes (o.0 i) (o.1 i) (o.2 i))));
      refused = q;
    }

    -- a handle that was looked up
    pub reports_handle : (found : Whole → Option ℕ) → ((w : Whole) → bytes (role_of w) (settings_of w) (view_of w) ≡ may 4 (found w))
        → (v : Verdict (Option ℕ)) → Looks (connection_in (whole e (tables_at s) (id_at s))) (found (whole e (tables_at s) (id_at s))) v
        → (k : ℕ) (a' : List ℕ) → PutsHandle v a k a' → Reports n bytes s a (told k a')
    reports_handle found is v l k a' p = reports k a'
        (λ z. let w = p.puts_handle _ (l.looks z) in (w.0, w.1 ∙ ap (put a 0) (sym (is (whole e (tables_at s) (id_at s))))))
        (unless v refl)
      where
        unless : (x : Verdict (Option ℕ)) → v ≡ x → (k ≡ 0 → ⊥) → a' ≡ a
        unless (accept h) q r = absurd (r (p.puts_handle h q).0)
        unless (refuse j) q r = (p.puts_not j q).1

-- ---- handles

module _ (ch : ℕ) (s a : List ℕ) (room : 5 ≤ length a) (read : Option ConnectionEngine) (reads : read_says (id_at s) read ≡ fixed_at s) (e : ConnectionEngine) (known : read ≡ Some e) (c : Connection) (same : c ≡ e.connection)
    (v : Verdict (Option ℕ)) (k : ℕ) (a' : List ℕ) (p : PutsHandle v a k a') where
  pub taken_told : ((id : List ℕ) → Looks (View.whole c (lent_tables s) id) ((View.view_of (View.whole c (lent_tables s) id)).taken ch) v) → Reports 5 (taken_bytes ch) s a (told k a')
  unfolding taken_bytes
  taken_told l =
      reports_handle 5 (taken_bytes ch) s a room read reads e known (λ w. (view_of w).connection.taken ch) (λ w. refl) v
      (subst (λ (w : Connection × List ℕ). Looks (View.whole w.0 w.1 (id_at s)) ((View.view_of (View.whole w.0 w.1 (id_at s))).taken ch) v) (λ i. (same i, rest_is s 300 i)) (l (id_at s))) k a' p

  pub tied_told : ((id : List ℕ) → Looks (View.whole c (lent_tables s) id) (handle_of ((View.view_of (View.whole c (lent_tables s) id)).ties ch)) v) → Reports 5 (tied_bytes ch) s a (told k a')
  unfolding tied_bytes
  tied_told l =
      reports_handle 5 (tied_bytes ch) s a room read reads e known (λ w. handle_of ((view_of w).connection.ties ch)) (λ w. refl) v
      (subst (λ (w : Connection × List ℕ). Looks (View.whole w.0 w.1 (id_at s)) (handle_of ((View.view_of (View.whole w.0 w.1 (id_at s))).ties ch)) v) (λ i. (same i, rest_is s 300 i)) (l (id_at s))) k a' p

-- ---- status

length_phase : (p : M.Phase) → length (phase_bytes p) ≡ 2
length_phase M.running = refl
length_phase (M.awaiting o) = refl
length_phase (M.stopped o) = refl

-- part by part
abbrev status_parts : ℕ → M.Phase → ℕ → ℕ → ℕ → Option ℕ → ℕ → List ℕ
status_parts role p x reading writing agreed n = bytes_of 1 role ++ (phase_bytes p ++ (bytes_of 1 x ++ (bytes_of 4 reading ++ (bytes_of 4 writing ++ (may 2 agreed ++ bytes_of 4 n)))))

abbrev status_of : Role → Settings → Engine → List ℕ
status_of role S e =
    status_parts (role_number role) e.phase (numbered e.connection.state) e.connection.reading_limit e.connection.writing_limit e.connection.agreed_max
    (taken_below (suc S.channel_max) e.connection.taken)

status_parts_lem : (role : Role) (S : Settings) (e : Engine) → status_of role S e ≡ status_bytes role S e
unfolding status_bytes
status_parts_lem role S e = refl

length_parts : (role : ℕ) (p : M.Phase) (x reading writing : ℕ) (a : Option ℕ) (n : ℕ) → length (status_parts role p x reading writing a n) ≡ 19
length_parts role p x reading writing a n = simp (length-append, length_bytes_of, length_phase, length_may)

pub length_status : (role : Role) (S : Settings) (e : Engine) → length (status_bytes role S e) ≡ 19
length_status role S e = ap length (sym (status_parts_lem role S e)) ∙ length_parts _ e.phase _ _ _ e.connection.agreed_max _

pub status_short : (w : Whole) (a : List ℕ) → length a < 19 → PutsStatus w a a
status_short w a h = record {
  puts = λ z. sym (put_not a 0 (status_bytes (role_of w) (settings_of w) (view_of w)) (omega (arith, length_status (role_of w) (settings_of w) (view_of w))));
}

parts_laid :
    (a o p q r t u b : List ℕ) (role : ℕ) (ph : M.Phase) (x reading writing : ℕ) (g : Option ℕ) (n : ℕ) → 19 ≤ length a
    → o ≡ put a 0 (bytes_of 1 role) → p ≡ put o 1 (phase_bytes ph) → q ≡ put p 3 (bytes_of 1 x) → r ≡ put q 4 (bytes_of 4 reading)
    → t ≡ put r 8 (bytes_of 4 writing) → u ≡ put t 12 (may 2 g) → b ≡ put u 15 (bytes_of 4 n) → b ≡ put a 0 (status_parts role ph x reading writing g n)
parts_laid a o p q r t u b role ph x reading writing g n h e1 e2 e3 e4 e5 e6 e7 =
    let l1 = first a 0 1 (bytes_of 1 role) o (length_bytes_of 1 role) e1 in
    let l2 = more a 0 1 2 1 _ (phase_bytes ph) o p l1 (length_phase ph) refl (omega arith) e2 in
    let l3 = more a 0 3 1 3 _ (bytes_of 1 x) p q l2 (length_bytes_of 1 x) refl (omega arith) e3 in
    let l4 = more a 0 4 4 4 _ (bytes_of 4 reading) q r l3 (length_bytes_of 4 reading) refl (omega arith) e4 in
    let l5 = more a 0 8 4 8 _ (bytes_of 4 writing) r t l4 (length_bytes_of 4 writing) refl (omega arith) e5 in
    let l6 = more a 0 12 3 12 _ (may 2 g) t u l5 (length_may 2 g) refl (omega arith) e6 in
    let l7 = more a 0 15 4 15 _ (bytes_of 4 n) u b l6 (length_bytes_of 4 n) refl (omega arith) e7 in
    simp append_assoc at l7.laid

-- with the numbers as they are told
pub status_laid :
    (e : ConnectionEngine) (a : List ℕ) → 19 ≤ length a → (c : Connection) → c ≡ e.connection → (x : ConnectionState) → x ≡ c.local_state
    → (role : E.Role) → role ≡ c.endpoint.role → (k : ℕ) → k ≡ role_number (role_says role) → (o : List ℕ) → o ≡ put a 0 (bytes_of 1 k)
    → (ph : Phase) → ph ≡ e.phase → (p : List ℕ) → p ≡ put o 1 (phase_bytes (phase_says ph))
    → (j : ℕ) → j ≡ numbered (state_says x) → (q : List ℕ) → q ≡ put p 3 (bytes_of 1 j)
    → (reading : ℕ) → reading ≡ c.endpoint.reading_limit → (r : List ℕ) → r ≡ put q 4 (bytes_of 4 reading)
    → (writing : ℕ) → writing ≡ c.endpoint.writing_limit → (t : List ℕ) → t ≡ put r 8 (bytes_of 4 writing)
    → (g : Option ℕ) → ((t id : List ℕ) → g ≡ (View.view_of (View.whole c t id)).agreed_max) → (u : List ℕ) → u ≡ put t 12 (may 2 g)
    → (n : ℕ) → ((t id : List ℕ) → Counts (View.whole c t id) n) → (b : List ℕ) → b ≡ put u 15 (bytes_of 4 n)
    → (tables id : List ℕ) → PutsStatus (whole e tables id) a b
status_laid e a h c same x x-is role role_is k k-is o e1 ph ph-is p e2 j j-is q e3 reading reading-is r e4 writing writing-is t e5 g g-is u e6 n n-is b e7 tables id = record {
  puts = λ z.
      let w = whole e tables id in
      let v : View.Whole = View.whole c tables id in
      let on : v ≡ connection_in w = ap (λ d. View.whole d tables id) same in
      parts_laid a o p q r t u b (role_number (role_of w)) (view_of w).phase (numbered (view_of w).connection.state) (view_of w).connection.reading_limit (view_of w).connection.writing_limit
      (view_of w).connection.agreed_max (taken_below (suc (settings_of w).channel_max) (view_of w).connection.taken) h
      (e1 ∙ ap (λ m. put a 0 (bytes_of 1 m)) (k-is ∙ ap (λ y. role_number (role_says y)) (role_is ∙ ap (λ (d : Connection). d.endpoint.role) same)))
      (e2 ∙ ap (λ m. put o 1 (phase_bytes (phase_says m))) ph-is)
      (e3 ∙ ap (λ m. put p 3 (bytes_of 1 m)) (j-is ∙ ap (λ y. numbered (state_says y)) (x-is ∙ ap (λ (d : Connection). d.local_state) same)))
      (e4 ∙ ap (λ m. put q 4 (bytes_of 4 m)) (reading-is ∙ ap (λ (d : Connection). d.endpoint.reading_limit) same))
      (e5 ∙ ap (λ m. put r 8 (bytes_of 4 m)) (writing-is ∙ ap (λ (d : Connection). d.endpoint.writing_limit) same))
      (e6 ∙ ap (λ m. put t 12 (may 2 m)) (g-is tables id ∙ ap (λ y. (View.view_of y).agreed_max) on))
      (e7 ∙ ap (λ m. put u 15 (bytes_of 4 m)) ((n-is tables id).counts (subst View.Sound (sym on) z) ∙ ap (λ y. taken_below (suc (View.settings_of y).channel_max) (View.view_of y).taken) on))
      ∙ ap (put a 0) (status_parts_lem (role_of w) (settings_of w) (view_of w));
}

pub status_told :
    (s a : List ℕ) → 19 ≤ length a → (read : Option ConnectionEngine) → read_says (id_at s) read ≡ fixed_at s → (e : ConnectionEngine) → read ≡ Some e → (a' : List ℕ)
    → ((t id : List ℕ) → PutsStatus (whole e t id) a a') → Reports 19 status_bytes s a (told 0 a')
status_told s a room read reads e known a' p = reports 19 status_bytes s a room read reads e known 0 a' (λ z. (refl, (p (tables_at s) (id_at s)).puts z)) (λ n. absurd (n refl))
