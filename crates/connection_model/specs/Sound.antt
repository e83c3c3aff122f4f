-- What holds of every connection that calls can lead to, and of no other (proofs/Exact.antt): where it stands, its limits and its channels, without the peer's Open and with it.
-- Assumes nothing: these are definitions.
use Rattle.std.specs.Prelude.{◌≡◌, true, false, ℕ, ◌≤◌, None, Some}
use Rattle.frame_encoder.specs.Frames.{Settings}
use Rattle.connection_state.specs.States.{OpenReceived, is, is_one_of, before_open, after_open}
use Rattle.channels.specs.Numbers.{Map, nowhere, Shared}
use Rattle.channels.specs.Ties.{Tie, Ties}
use Rattle.connection_model.specs.Connection.{Connection, fresh, go, apply}

-- without the peer's Open nothing is agreed, and everything but the state is as it was at first
pub record Unopened (S : Settings) (c : Connection) : Type 0 where
  pub stands : is_one_of after_open c.state ≡ false
  pub at_first : c ≡ apply S (go c.state) fresh

abbrev pub TiedWithin : ℕ → Ties → Type 0
TiedWithin m ties = (n : ℕ) (t : Tie) → ties n ≡ Some t → n ≤ m

-- each tie names a taken channel, with its handle
abbrev pub TiedThrough : Map → Ties → Type 0
TiedThrough taken ties = (n : ℕ) (t : Tie) → ties n ≡ Some t → taken t.outgoing ≡ Some t.handle

-- with it, m is the agreed channel-max
pub record Agreed (S : Settings) (m : ℕ) (c : Connection) : Type 0 where
  pub stands : is_one_of before_open c.state ≡ false
  pub most : m ≤ S.channel_max
  pub reading_own : c.reading_limit ≡ S.max_frame_size
  pub writing_low : 512 ≤ c.writing_limit
  pub writing_high : c.writing_limit ≤ 16384
  pub shared : Shared (Some m) c.hand_out c.taken
  pub tied : TiedWithin S.channel_max c.ties
  pub through : TiedThrough c.taken c.ties
  -- ties come after both Opens
  pub untied : is OpenReceived c.state ≡ true → c.ties ≡ nowhere

pub record Reached (S : Settings) (c : Connection) : Type 0 where
  pub unopened : c.agreed_max ≡ None → Unopened S c
  pub agreed : (m : ℕ) → c.agreed_max ≡ Some m → Agreed S m c
