-- What a call from C comes to: the number that it returns, 0 or a refusal, and all lent bytes afterwards.
-- Assumes nothing: these are definitions.
use Rattle.std.specs.Prelude.{◌≡◌, Bool, true, false, ◌&&◌, List, ℕ, leb, length, drop}
use Rattle.octets.specs.Octets.{put}
use Rattle.octets.specs.Verdict.{Verdict, refuse, accept}
use Rattle.frame_encoder.specs.Frames.{Settings}
use Rattle.local_open.specs.Settings.{allowed}
use Rattle.connection_model.specs.Connection.{Role}
use Rattle.engine_model.specs.Engine.{Engine, Event, Reply, Seen, seen, next, lent, has_room, fresh}
use Rattle.engine_bytes.specs.Bytes.{Fixed, fixed_at, state_size, StandFor}
use Rattle.hisproat.specs.Answers.{reply_bytes}

pub record Crossing : Type 0 where
  pub returned : ℕ
  pub state : List ℕ
  pub answer : List ℕ
  pub output : List ℕ

abbrev pub crossing : ℕ → List ℕ → List ℕ → List ℕ → Crossing
crossing k s a out = record { returned = k; state = s; answer = a; output = out }

-- what a caller sees of a call: the number that it returns, and the answer and the output afterwards
pub record Shown : Type 0 where
  pub returned : ℕ
  pub answer : List ℕ
  pub output : List ℕ

abbrev pub shown : Crossing → Shown
shown c = record { returned = c.returned; answer = c.answer; output = c.output }

abbrev pub returned_by : Verdict Reply → ℕ
returned_by (refuse k) = k
returned_by (accept r) = 0

abbrev pub answer_after : Verdict Reply → List ℕ → List ℕ
answer_after (refuse k) a = a
answer_after (accept r) a = put a 0 (reply_bytes r)

abbrev pub saw : Seen → List ℕ → Shown
saw v a = record { returned = returned_by v.reply; answer = answer_after v.reply a; output = v.output }

-- what is lent is long enough, whatever the state: 42 bytes for the answer, and for the output what the event asks for
unfoldable pub fits_in : Event → List ℕ → Bool
fits_in event a = leb 42 (length a) && has_room event

-- an event was done on an engine as its definition has it, and the state stands for what the engine is then
pub record Crossed (role : Role) (S : Settings) (e : Engine) (event : Event) (a : List ℕ) (c : Crossing) : Type 0 where
  pub shows : shown c ≡ saw (seen role S e event) a
  pub leads : StandFor c.state role S (next role S e event)

-- first 9, where what is lent is too short; then 8, where the fixed part stands for no engine; nothing changes then. Else, where calls alone led to the state, the event is done on the engine that it stands for.
-- Whatever stands in the tables, what is returned other than 0 has changed no lent byte, and what stands after the tables is as it was.
pub record Crosses (event : Event) (s a : List ℕ) (c : Crossing) : Type 0 where
  pub short : fits_in event a ≡ false → c ≡ crossing 9 s a (lent event)
  pub broken : fits_in event a ≡ true → fixed_at s ≡ refuse 8 → c ≡ crossing 8 s a (lent event)
  pub stands : fits_in event a ≡ true → (role : Role) (S : Settings) (e : Engine) → StandFor s role S e → Crossed role S e event a c
  pub refused : (c.returned ≡ 0 → ⊥) → c ≡ crossing c.returned s a (lent event)
  pub long : length c.state ≡ length s
  pub rest : (f : Fixed) → fixed_at s ≡ accept f → drop (state_size f.settings.channel_max) c.state ≡ drop (state_size f.settings.channel_max) s

-- ---- a new engine

pub record Made : Type 0 where
  pub returned : ℕ
  pub state : List ℕ

-- 8 for settings beyond their limits and for a state that is too short for them; nothing changes then. Else the state stands for a fresh engine, whatever stood in it
pub record Makes (role : Role) (S : Settings) (s : List ℕ) (m : Made) : Type 0 where
  pub broken : allowed S && leb (state_size S.channel_max) (length s) ≡ false → m ≡ record { returned = 8; state = s }
  pub makes : allowed S && leb (state_size S.channel_max) (length s) ≡ true → (m.returned ≡ 0) × StandFor m.state role S fresh
  pub long : length m.state ≡ length s
  pub rest : drop (state_size S.channel_max) m.state ≡ drop (state_size S.channel_max) s

-- ---- readers

pub record Told : Type 0 where
  pub returned : ℕ
  pub answer : List ℕ

abbrev pub told : ℕ → List ℕ → Told
told k a = record { returned = k; answer = a }

-- first 9, where the answer has less than n bytes; then 8, where the fixed part stands for no engine. Else they tell of the engine that the state stands for
pub record Reports (n : ℕ) (bytes : Role → Settings → Engine → List ℕ) (s a : List ℕ) (t : Told) : Type 0 where
  pub short : leb n (length a) ≡ false → t ≡ told 9 a
  pub broken : leb n (length a) ≡ true → fixed_at s ≡ refuse 8 → t ≡ told 8 a
  pub stands : leb n (length a) ≡ true → (role : Role) (S : Settings) (e : Engine) → StandFor s role S e → t ≡ told 0 (put a 0 (bytes role S e))
  pub refused : (t.returned ≡ 0 → ⊥) → t.answer ≡ a
