-- `text::followed` meets its contract: a law for each return, by what the octets after the second are.
-- Assumes nothing.
use Prim.Native.Nat.{◌-◌}
use native.Mathlib.Omega.{arith}
use lib.ListN.{take, drop, replicate, length-drop}
use mathlib.Core.Path.{◌≡◌}
use mathlib.Core.Bool.{true, false}
use borrow.Author.Rules.{rules}
use Rattle.std.proofs.lemmas.Iterator.{cases_from_all, YieldsList-from_slice}
use Rattle.text.specs.Utf8.{tail, in_range, starts}
use Rattle.text.proofs.Steps.{followed_short, followed_stops, are_tails, tails_stop, tails_end}
use Rattle.text.proofs.followed.Goals as goal
use Rattle.text.proofs.followed.Goals.{After-all}

ruleset steps = (followed_short, followed_stops, tails_stop, tails_end, rules)

pub returns-then-s-n : goal.returns-then-s-n
returns-then-s-n c = search steps

pub returns-then-not-within : goal.returns-then-not-within
returns-then-not-within c = search steps

told : (c : After-all) → c.all.result ≡ starts (replicate (c.args.n - 2) tail) (drop 2 c.args.s.now)
told c =
    are_tails (c.args.n - 2) (drop 2 c.args.s.now) c.all.result (simp length-drop (omega arith))
    (cases_from_all _ _ _ (λ b. in_range tail b ≡ true) (λ b. in_range tail b ≡ false) c.all.ensures.ran (YieldsList-from_slice (take (c.args.n - 2) (drop 2 c.args.s.now)) cc) (λ x q k. search rules) (λ x q k. search rules))

pub returns-then-not-all : goal.returns-then-not-all
returns-then-not-all c = let t = told (goal.at.returns-then-not-all c).After-all in search steps

pub returns : goal.returns
returns c = let t = told (goal.at.returns c).After-all in search steps
