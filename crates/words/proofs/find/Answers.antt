-- `find`: the bytes that are passed over are those before the place.
-- Assumes nothing.
use mathlib.Core.Path.{◌≡◌, refl, ap, ◌∙◌}
use mathlib.Core.Bool.{not}
use Prim.Native.Nat.{ℕ, ◌+◌}
use lib.Dec.{eqb}
use lib.ListN.{length, drop}
use borrow.Author.Rules.{rules}
use Rattle.std.specs.List.{take_while}
use Rattle.std.proofs.lemmas.Iterator.{YieldsList-from_slice}
use Rattle.std.proofs.lemmas.Iterator.Adapters.{YieldsList-from_skip}
use Rattle.std.proofs.lemmas.Iterator.Search.{YieldsList-from_take_while}
use Rattle.std.proofs.lemmas.Iterator.Consumers.{count_from_yields_List}
use Rattle.words.specs.Words.{is_byte}
use Rattle.words.proofs.Laws.{until_while}
use Rattle.words.proofs.find.Goals as goal

pub returns : goal.returns
returns c =
    let e : c.count.result ≡ length (take_while (λ x. not (eqb x c.args.b)) (drop c.args.from c.args.s.now)) =
    count_from_yields_List _ _ c.count.ensures.ran
    (YieldsList-from_take_while _ (λ x. not (eqb x c.args.b)) (YieldsList-from_skip c.args.from (YieldsList-from_slice c.args.s.now (cc)) (cc)) c.take_while.ensures.closure c.take_while.ensures.done (λ x r q k. search rules)) in
    ap (λ (k : ℕ). c.args.from + k) (e ∙ until_while (is_byte c.args.b) (λ x. not (eqb x c.args.b)) (drop c.args.from c.args.s.now) (λ x. refl))
