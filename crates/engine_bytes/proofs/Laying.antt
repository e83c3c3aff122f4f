-- How the fixed part of an engine is laid, one part after the other, with the facts as they come.
-- Assumes nothing.
use mathlib.Core.Path.{◌≡◌, refl, sym, ◌∙◌, ap}
use mathlib.Core.Bool.{Bool}
use mathlib.Core.List.{List, [], ◌++◌, append_assoc}
use Rattle.std.specs.Prelude.{Option}
use Prim.Native.Nat.{ℕ, ◌+◌, ◌-◌, ◌≤◌, ◌<◌}
use native.Mathlib.Omega.{arith}
use lib.ListN.{length, length-append}
use Rattle.octets.specs.Octets.{bytes_of, put}
use Rattle.octets.proofs.Laws.{length_bytes_of, put_not}
use Rattle.layout.proofs.Parts.{Laid, first, more}
use Rattle.connection_state.specs.declared.ConnectionState.{ConnectionState}
use Rattle.connection_state.specs.States.{numbered}
use Rattle.connection_state.specs.Answers.{state_says}
use Rattle.channels.specs.Numbers.{one}
use Rattle.channels.specs.declared.OutgoingChannels.{OutgoingChannels}
use Rattle.local_open.specs.declared.LocalOpen.{LocalOpen}
use Rattle.endpoint.specs.declared.Role.{Role}
use Rattle.endpoint.specs.Answers.{role_says}
use Rattle.connection.specs.declared.Connection.{Connection}
use Rattle.engine.specs.declared.ConnectionEngine.{ConnectionEngine}
use Rattle.engine.specs.declared.Phase.{Phase}
use Rattle.engine.specs.Answers.{phase_says}
use Rattle.engine_bytes.specs.Bytes.{Fixed, version, role_number, is_there, idle_number, phase_bytes, number_bytes, moving_bytes, setting_bytes, fixed_bytes}
use Rattle.engine_bytes.specs.Promises.{fixed_in}
use Rattle.engine_bytes.proofs.Laid.{moving_long}

-- ---- numbers one after the other, each as what it is known to be

module _ (d : List ℕ) (at w x y : ℕ) (is : x ≡ y) where
  number_first : (o : List ℕ) → o ≡ put d at (bytes_of w x) → Laid d at w (bytes_of w y) o
  number_first o e = first d at w (bytes_of w y) o (length_bytes_of w y) (e ∙ ap (λ z. put d at (bytes_of w z)) is)

  number_more : (n k : ℕ) (a o o' : List ℕ) → Laid d at n a o → k ≡ at + n → at + n + w ≤ length d → o' ≡ put o k (bytes_of w x) → Laid d at (n + w) (a ++ bytes_of w y) o'
  number_more n k a o o' l q h e = more d at n w k a (bytes_of w y) o o' l (length_bytes_of w y) q h (e ∙ ap (λ z. put o k (bytes_of w z)) is)

-- ---- put_counts

numbers_long : (n : OutgoingChannels) → length (number_bytes n) ≡ 14
numbers_long n = simp (length-append, length_bytes_of)

pub counts_short : (n : OutgoingChannels) (d : List ℕ) → length d < 42 → d ≡ put d 28 (number_bytes n)
counts_short n d h = sym (put_not d 28 (number_bytes n) (omega (arith, numbers_long n)))

pub counts_laid :
    (n : OutgoingChannels) (d : List ℕ) → 42 ≤ length d → (used : ℕ) → used ≡ n.used → (a : List ℕ) → a ≡ put d 28 (bytes_of 4 used) → (head : ℕ) → head ≡ n.head
    → (b : List ℕ) → b ≡ put a 32 (bytes_of 4 head) → (freed : ℕ) → freed ≡ n.freed → (c : List ℕ) → c ≡ put b 36 (bytes_of 4 freed) → (highest : ℕ)
    → highest ≡ n.highest → (o : List ℕ) → o ≡ put c 40 (bytes_of 2 highest) → o ≡ put d 28 (number_bytes n)
counts_laid n d h used u a e1 head v b e2 freed w c e3 highest x o e4 =
    let l1 = number_first d 28 4 used n.used u a e1 in
    let l2 = number_more d 28 4 head n.head v 4 32 _ a b l1 refl (omega arith) e2 in
    let l3 = number_more d 28 4 freed n.freed w 8 36 _ b c l2 refl (omega arith) e3 in
    let l4 = number_more d 28 2 highest n.highest x 12 40 _ c o l3 refl (omega arith) e4 in
    simp append_assoc at l4.laid

-- ---- write

phase_two : (f : Fixed) → length (phase_bytes f.phase) ≡ 2
unfolding moving_bytes
phase_two f = omega (arith, simp (length-append, length_bytes_of) at (moving_long f))

module _ (e : ConnectionEngine) (d : List ℕ) where
  pub moving_short : length d < 42 → d ≡ put d 16 (moving_bytes (fixed_in e []))
  moving_short h = sym (put_not d 16 (moving_bytes (fixed_in e [])) (omega (arith, moving_long (fixed_in e []))))

  pub moving_laid :
      42 ≤ length d → (k : Connection) → k ≡ e.connection → (s : ConnectionState) → s ≡ k.local_state → (n : OutgoingChannels) → n ≡ k.endpoint.outgoing
      → (p : Phase) → p ≡ e.phase → (a : List ℕ) → a ≡ put d 16 (phase_bytes (phase_says p)) → (number : ℕ) → number ≡ numbered (state_says s)
      → (b : List ℕ) → b ≡ put a 18 (bytes_of 1 number) → (opened : Bool) → opened ≡ n.opened → (flag : ℕ) → flag ≡ one opened
      → (f : List ℕ) → f ≡ put b 19 (bytes_of 1 flag) → (reading : ℕ) → reading ≡ k.endpoint.reading_limit → (g : List ℕ) → g ≡ put f 20 (bytes_of 4 reading)
      → (writing : ℕ) → writing ≡ k.endpoint.writing_limit → (j : List ℕ) → j ≡ put g 24 (bytes_of 4 writing) → (o : List ℕ) → o ≡ put j 28 (number_bytes n)
      → o ≡ put d 16 (moving_bytes (fixed_in e []))
  unfolding moving_bytes
  moving_laid h k k-is s s-is n n-is p p-is a e1 number number_is b e2 opened opened-is flag flag_is f e3 reading reading-is g e4 writing writing-is j e5 o e6 =
      let n-in : n ≡ e.connection.endpoint.outgoing = n-is ∙ ap (λ c. c.endpoint.outgoing) k-is in
      let l1 = first d 16 2 (phase_bytes (phase_says e.phase)) a (phase_two (fixed_in e [])) (e1 ∙ ap (λ q. put d 16 (phase_bytes (phase_says q))) p-is) in
      let l2 = number_more d 16 1 number _ (number_is ∙ ap (λ x. numbered (state_says x)) (s-is ∙ ap (λ c. c.local_state) k-is)) 2 18 _ a b l1 refl (omega arith) e2 in
      let l3 = number_more d 16 1 flag _ (flag_is ∙ ap one (opened-is ∙ ap (λ c. c.opened) n-in)) 3 19 _ b f l2 refl (omega arith) e3 in
      let l4 = number_more d 16 4 reading _ (reading-is ∙ ap (λ c. c.endpoint.reading_limit) k-is) 4 20 _ f g l3 refl (omega arith) e4 in
      let l5 = number_more d 16 4 writing _ (writing-is ∙ ap (λ c. c.endpoint.writing_limit) k-is) 8 24 _ g j l4 refl (omega arith) e5 in
      let l6 = more d 16 12 14 28 _ (number_bytes e.connection.endpoint.outgoing) j o l5 (numbers_long e.connection.endpoint.outgoing) refl (omega arith) (e6 ∙ ap (λ c. put j 28 (number_bytes c)) n-in) in
      simp append_assoc at l6.laid

-- ---- put_settings

setting_long : (f : Fixed) → length (setting_bytes f) ≡ 16
unfolding setting_bytes
setting_long f = simp (length-append, length_bytes_of)

version_bytes : bytes_of 4 0x48535032 ≡ version
unfolding bytes_of
version_bytes = refl

module _ (e : ConnectionEngine) (d : List ℕ) where
  pub settings_short : length d < 16 → d ≡ put d 0 (setting_bytes (fixed_in e []))
  settings_short h = sym (put_not d 0 (setting_bytes (fixed_in e [])) (omega (arith, setting_long (fixed_in e []))))

  pub settings_laid :
      16 ≤ length d → (k : Connection) → k ≡ e.connection → (s : LocalOpen) → s ≡ k.endpoint.local_open → (idle : Option ℕ) → idle ≡ s.idle_time_out
      → (a : List ℕ) → a ≡ put d 0 (bytes_of 4 0x48535032) → (role : Role) → role ≡ k.endpoint.role → (number : ℕ) → number ≡ role_number (role_says role)
      → (b : List ℕ) → b ≡ put a 4 (bytes_of 1 number) → (there : Bool) → one there ≡ is_there idle → (flag : ℕ) → flag ≡ one there
      → (f : List ℕ) → f ≡ put b 5 (bytes_of 1 flag) → (highest : ℕ) → highest ≡ s.channel_max → (g : List ℕ) → g ≡ put f 6 (bytes_of 2 highest)
      → (size : ℕ) → size ≡ s.max_frame_size → (j : List ℕ) → j ≡ put g 8 (bytes_of 4 size) → (millis : ℕ) → millis ≡ idle_number idle
      → (o : List ℕ) → o ≡ put j 12 (bytes_of 4 millis) → o ≡ put d 0 (setting_bytes (fixed_in e []))
  unfolding setting_bytes
  settings_laid h k k-is s s-is idle idle_is a e1 role role_is number number_is b e2 there there-is flag flag_is f e3 highest highest_is g e4 size size_is j e5 millis millis-is o e6 =
      let s-in : s ≡ e.connection.endpoint.local_open = s-is ∙ ap (λ c. c.endpoint.local_open) k-is in
      let idle-in : idle ≡ e.connection.endpoint.local_open.idle_time_out = idle_is ∙ ap (λ c. c.idle_time_out) s-in in
      let l1 = first d 0 4 version a refl (e1 ∙ ap (put d 0) version_bytes) in
      let l2 = number_more d 0 1 number _ (number_is ∙ ap (λ r. role_number (role_says r)) (role_is ∙ ap (λ c. c.endpoint.role) k-is)) 4 4 _ a b l1 refl (omega arith) e2 in
      let l3 = number_more d 0 1 flag _ (flag_is ∙ there-is ∙ ap is_there idle-in) 5 5 _ b f l2 refl (omega arith) e3 in
      let l4 = number_more d 0 2 highest _ (highest_is ∙ ap (λ c. c.channel_max) s-in) 6 6 _ f g l3 refl (omega arith) e4 in
      let l5 = number_more d 0 4 size _ (size_is ∙ ap (λ c. c.max_frame_size) s-in) 8 8 _ g j l4 refl (omega arith) e5 in
      let l6 = number_more d 0 4 millis _ (millis-is ∙ ap idle_number idle-in) 12 12 _ j o l5 refl (omega arith) e6 in
      simp append_assoc at l6.laid

-- ---- write_new

-- what stands before the container-id says nothing of it
settings_any : (e : ConnectionEngine) (id : List ℕ) → setting_bytes (fixed_in e []) ≡ setting_bytes (fixed_in e id)
unfolding setting_bytes
settings_any e id = refl

moving_any : (e : ConnectionEngine) (id : List ℕ) → moving_bytes (fixed_in e []) ≡ moving_bytes (fixed_in e id)
unfolding moving_bytes
moving_any e id = refl

fixed_long : (f : Fixed) → length (fixed_bytes f) ≡ 44 + length f.settings.container_id
unfolding fixed_bytes
fixed_long f = simp (length-append, length_bytes_of) (omega (arith, setting_long f, moving_long f))

module _ (e : ConnectionEngine) (id d : List ℕ) where
  pub fixed_short : length d < 44 → d ≡ put d 0 (fixed_bytes (fixed_in e id))
  fixed_short h = sym (put_not d 0 (fixed_bytes (fixed_in e id)) (omega (arith, fixed_long (fixed_in e id))))

  pub fixed_over : 44 ≤ length d → length d - 44 < length id → d ≡ put d 0 (fixed_bytes (fixed_in e id))
  fixed_over h k = sym (put_not d 0 (fixed_bytes (fixed_in e id)) (omega (arith, fixed_long (fixed_in e id))))

  pub fixed_laid :
      44 ≤ length d → length id ≤ length d - 44 → (a : List ℕ) → a ≡ put d 0 (setting_bytes (fixed_in e [])) → (b : List ℕ) → b ≡ put a 16 (moving_bytes (fixed_in e []))
      → (c : List ℕ) → c ≡ put b 42 (bytes_of 2 (length id)) → (o : List ℕ) → o ≡ put c 44 id → o ≡ put d 0 (fixed_bytes (fixed_in e id))
  unfolding fixed_bytes
  fixed_laid h k a e1 b e2 c e3 o e4 =
      let l1 = first d 0 16 (setting_bytes (fixed_in e id)) a (setting_long (fixed_in e id)) (e1 ∙ ap (put d 0) (settings_any e id)) in
      let l2 = more d 0 16 26 16 _ (moving_bytes (fixed_in e id)) a b l1 (moving_long (fixed_in e id)) refl (omega arith) (e2 ∙ ap (put a 16) (moving_any e id)) in
      let l3 = more d 0 42 2 42 _ (bytes_of 2 (length id)) b c l2 (length_bytes_of 2 (length id)) refl (omega arith) e3 in
      let l4 = more d 0 44 (length id) 44 _ id c o l3 refl refl (omega arith) e4 in
      simp append_assoc at l4.laid
