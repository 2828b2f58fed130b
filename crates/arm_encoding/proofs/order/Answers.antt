-- `arm_encoding::order` meets its contract: each key of the match is the block of one row; the blocks of its group that no key names hold none.
-- Rests on the definitions that its contract cites; assumes nothing.
use mathlib.Core.Path.{refl, sym}
use mathlib.Core.List.{[], ◌∷◌}
use native.Mathlib.Omega.{arith}
use lib.Dec.{lit<}
use Rattle.arm_word.specs.RangeLaws.{plain}
use Rattle.arm_encoding.specs.Encoding.{table}
use Rattle.arm_encoding.specs.EncodingTable.{row_hit, ranges, listed, blocks_clear, rest_miss}
use Rattle.arm_encoding.proofs.order.Goals as goal

pub returns-in-218 : goal.returns-in-218
unfolding table
returns-in-218 c = rw c.near.ensures (sym (row_hit 29 _ (lit< tt) (omega arith) (omega arith)))

pub returns-in-219 : goal.returns-in-219
unfolding table
returns-in-219 c = rw c.near-in-219.ensures (sym (row_hit 30 _ (lit< tt) (omega arith) (omega arith)))

pub returns-in-223 : goal.returns-in-223
unfolding table
returns-in-223 c = rw c.low.ensures (sym (row_hit 31 _ (lit< tt) (omega arith) (omega arith)))

pub returns-in_default : goal.returns-in_default
unfolding table ranges plain listed blocks_clear
returns-in_default c = sym (rest_miss (223 ∷ 219 ∷ 218 ∷ []) 256 8 27 _ (lit< tt) (lit< tt) refl c.requires c.in_default.in_default-own.rest)
