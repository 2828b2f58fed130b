-- `arm_encoding::pointer` meets its contract: each key of the match is the block of one row; the blocks of its group that no key names hold none.
-- Rests on the definitions that its contract cites; assumes nothing.
use mathlib.Core.Path.{refl, sym}
use mathlib.Core.List.{[], ◌∷◌}
use native.Mathlib.Omega.{arith}
use lib.Dec.{lit<}
use Rattle.arm_word.specs.RangeLaws.{plain}
use Rattle.arm_encoding.specs.Encoding.{table}
use Rattle.arm_encoding.specs.EncodingTable.{row_hit, ranges, listed, blocks_clear, rest_miss}
use Rattle.arm_encoding.proofs.pointer.Goals as goal

pub returns-in-352 : goal.returns-in-352
unfolding table
returns-in-352 c = rw c.low.ensures (sym (row_hit 25 _ (lit< tt) (omega arith) (omega arith)))

pub returns-in-353 : goal.returns-in-353
unfolding table
returns-in-353 c = rw c.low-in-353.ensures (sym (row_hit 26 _ (lit< tt) (omega arith) (omega arith)))

pub returns-in_default : goal.returns-in_default
unfolding table ranges plain listed blocks_clear
returns-in_default c = sym (rest_miss (353 ∷ 352 ∷ []) 128 16 22 _ (lit< tt) (lit< tt) refl c.requires c.in_default.in_default-own.rest)
