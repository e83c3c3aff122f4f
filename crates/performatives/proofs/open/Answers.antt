-- `open`: the three numbers, each within its type.
-- Assumes nothing.
use mathlib.Core.Path.{refl}
use native.Mathlib.Omega.{arith}
use mir.Syntax.{w16, w32}
use borrow.Author.Rules.{rules}
use Rattle.performatives.proofs.Found.{skip_next}
use Rattle.performatives.proofs.Numbers.{between_given, between_fits, open_is}
use Rattle.performatives.proofs.open.Goals as goal

ruleset steps = (open_is, rules)

pub skip-a-requires : goal.skip-a-requires
skip-a-requires c = search steps

pub next-b-requires : goal.next-b-requires
next-b-requires c = search steps

pub next-c-requires : goal.next-c-requires
next-c-requires c = search steps

pub next-d-requires : goal.next-d-requires
next-d-requires c = search steps

pub number_in-max_frame_size-requires : goal.number_in-max_frame_size-requires
number_in-max_frame_size-requires c =
    between_given _ 2 _ _ c.skip-a.ensures c.next-b.ensures 5 (omega arith) (search rules)

pub overflow_cast-max_frame_size : goal.overflow_cast-max_frame_size
overflow_cast-max_frame_size c =
    between_fits _ 2 _ _ c.skip-a.ensures c.next-b.ensures w32 4 _ _ refl (search rules) (omega arith) c.number_in-max_frame_size.ensures

pub number_in-channel_max-requires : goal.number_in-channel_max-requires
number_in-channel_max-requires c =
    between_given _ 3 _ _ (skip_next _ 2 _ _ c.skip-a.ensures c.next-b.ensures) c.next-c.ensures 3 (omega arith) (search rules)

pub overflow_cast-channel_max : goal.overflow_cast-channel_max
overflow_cast-channel_max c =
    between_fits _ 3 _ _ (skip_next _ 2 _ _ c.skip-a.ensures c.next-b.ensures) c.next-c.ensures w16 2 _ _ refl (search rules) (omega arith) c.number_in-channel_max.ensures

pub number_in-idle_time_out-requires : goal.number_in-idle_time_out-requires
number_in-idle_time_out-requires c =
    between_given _ 4 _ _ (skip_next _ 3 _ _ (skip_next _ 2 _ _ c.skip-a.ensures c.next-b.ensures) c.next-c.ensures) c.next-d.ensures 5 (omega arith) (search rules)

pub overflow_cast-idle_time_out : goal.overflow_cast-idle_time_out
overflow_cast-idle_time_out c =
    between_fits _ 4 _ _ (skip_next _ 3 _ _ (skip_next _ 2 _ _ c.skip-a.ensures c.next-b.ensures) c.next-c.ensures) c.next-d.ensures w32 4 _ _ refl (search rules) (omega arith) c.number_in-idle_time_out.ensures

pub returns : goal.returns
returns c = search steps
