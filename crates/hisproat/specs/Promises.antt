-- What passes between the private functions. No exported promise speaks of these.
-- Assumes nothing: these are definitions.
use Rattle.std.specs.Prelude.{◌≡◌, List, [], ◌++◌, ℕ, ◌≤◌, length, Option, Result, Ok, Err}
use Rattle.octets.specs.Octets.{bytes_of, put}
use Rattle.octets.specs.Verdict.{Verdict, refuse, accept}
use Rattle.octets.specs.Refusal.{number_of}
use Rattle.octets.specs.declared.Refusal.{Refusal}
use Rattle.connection_model.specs.Connection.{Answer}
use Rattle.connection.specs.declared.HeaderAnswer.{HeaderAnswer}
use Rattle.engine_model.specs.Engine.{Reply}
use Rattle.engine.specs.declared.ConnectionEngine.{ConnectionEngine}
use Rattle.engine.specs.declared.Running.{Running}
use Rattle.engine.specs.declared.Running.TheVariants.{Continue}
use Rattle.engine.specs.Answers.{Whole, role_of, settings_of, view_of, Sound, reply_says}
use Rattle.layout.specs.Layout.{may}
use Rattle.engine_bytes.specs.Bytes.{moving_bytes, fixed_bytes, id_at}
use Rattle.engine_bytes.specs.Promises.{fixed_in}
use Rattle.hisproat.specs.declared.kind.Kind.{Kind}
use Rattle.hisproat.specs.declared.kind.Kind.TheVariants.{NoCall, Refused, Wrote, End, Header, OtherProtocol, NothingToDo, Opened, Closed, Forward, Began, Channel, Freed}
use Rattle.hisproat.specs.declared.answers.Inner as I
use Rattle.hisproat.specs.declared.answers.Done.{Done}
use Rattle.hisproat.specs.Answers.{Inner, inner, inner_of, inner_bytes, status_bytes}
use Rattle.hisproat.specs.Crossing.{returned_by, answer_after}

-- the number of each kind of answer
abbrev pub kind_number : Kind → ℕ
kind_number NoCall = 0
kind_number Refused = 1
kind_number Wrote = 2
kind_number End = 3
kind_number Header = 4
kind_number OtherProtocol = 5
kind_number NothingToDo = 6
kind_number Opened = 7
kind_number Closed = 8
kind_number Forward = 9
kind_number Began = 10
kind_number Channel = 11
kind_number Freed = 12

abbrev pub inner_says : I.Inner → Inner
inner_says i = inner (kind_number i.kind) i.detail i.channel i.number i.from i.len

-- a header that came is refused or not
abbrev pub HeaderRuns : Result HeaderAnswer Refusal → Result Running Refusal → Type 0
HeaderRuns (Ok h) r = r ≡ Ok Continue
HeaderRuns (Err e) r = r ≡ Err e

-- what came of an event amounts to a reply, with what the call inside answered
pub record Amounts (d : Done) (v : Option (Verdict Answer)) (reply : Verdict Reply) : Type 0 where
  pub amounts_inner : inner_says d.inner ≡ inner_of v
  pub amounts_reply : reply_says d.running d.consumed d.written v ≡ reply

-- the state after a reply: what calls can change is laid, unless it is a refusal
abbrev pub state_after : Verdict Reply → List ℕ → ConnectionEngine → List ℕ
state_after (refuse k) s e = s
state_after (accept r) s e = put s 16 (moving_bytes (fixed_in e []))

pub record Lays (stopped outcome : ℕ) (d : Done) (e : ConnectionEngine) (s a s' a' : List ℕ) : Type 0 where
  pub lays_answer : a' ≡ put a 0 (bytes_of 1 stopped ++ (bytes_of 1 outcome ++ (inner_bytes (inner_says d.inner) ++ (bytes_of 8 d.consumed ++ bytes_of 8 d.written))))
  pub lays_state : s' ≡ put s 16 (moving_bytes (fixed_in e []))

-- whatever the call inside answered in these numbers: what is returned, and the answer and the state afterwards
pub record Finishes (d : Done) (e : ConnectionEngine) (s a : List ℕ) (k : ℕ) (s' a' : List ℕ) : Type 0 where
  pub finishes_number : (v : Option (Verdict Answer)) → k ≡ returned_by (reply_says d.running d.consumed d.written v)
  pub finishes_answer : (v : Option (Verdict Answer)) → inner_says d.inner ≡ inner_of v → a' ≡ answer_after (reply_says d.running d.consumed d.written v) a
  pub finishes_state : (v : Option (Verdict Answer)) → s' ≡ state_after (reply_says d.running d.consumed d.written v) s e
  pub finishes_not : (k ≡ 0 → ⊥) → (s' ≡ s) × (a' ≡ a)

-- ---- a new engine, and what is told of one

-- what a new engine comes to: its fixed part is laid, or its refusal returned
pub record Starts (new : Result ConnectionEngine Refusal) (id s : List ℕ) (k : ℕ) (s' : List ℕ) : Type 0 where
  pub starts : (e : ConnectionEngine) → new ≡ Ok e → (k ≡ 0) × (s' ≡ put s 0 (fixed_bytes (fixed_in e id)))
  pub starts_not : (e : Refusal) → new ≡ Err e → (k ≡ number_of e) × (s' ≡ s)

-- the container-id of a state, where it is not longer than it may be
pub record IsId (s r : List ℕ) : Type 0 where
  pub is_id : length (id_at s) ≤ 255 → r ≡ id_at s

-- a handle that was looked up is laid, or the refusal returned
pub record PutsHandle (found : Verdict (Option ℕ)) (a : List ℕ) (k : ℕ) (a' : List ℕ) : Type 0 where
  pub puts_handle : (h : Option ℕ) → found ≡ accept h → (k ≡ 0) × (a' ≡ put a 0 (may 4 h))
  pub puts_not : (n : ℕ) → found ≡ refuse n → (k ≡ n) × (a' ≡ a)

pub record PutsStatus (w : Whole) (a a' : List ℕ) : Type 0 where
  pub puts : Sound w → a' ≡ put a 0 (status_bytes (role_of w) (settings_of w) (view_of w))
