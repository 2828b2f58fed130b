-- `arm_encoding::loaded` meets its contract: each key of the match is the block of one row; the blocks of its group that no key names hold none.
-- Rests on the definitions that its contract cites; assumes nothing.
use mathlib.Core.Path.{refl, sym}
use mathlib.Core.List.{[], ◌∷◌}
use native.Mathlib.Omega.{arith}
use lib.Dec.{lit<}
use Rattle.arm_word.specs.RangeLaws.{plain}
use Rattle.arm_encoding.specs.Encoding.{table}
use Rattle.arm_encoding.specs.EncodingTable.{row_hit, ranges, listed, blocks_clear, rest_miss}
use Rattle.arm_encoding.proofs.loaded.Goals as goal

pub returns-in-44 : goal.returns-in-44
unfolding table
returns-in-44 c = rw (c.field.ensures, c.field-in-44.ensures, c.low.ensures) (sym (row_hit 18 _ (lit< tt) (omega arith) (omega arith)))

pub returns-in_default : goal.returns-in_default
unfolding table ranges plain listed blocks_clear
returns-in_default c = sym (rest_miss (44 ∷ []) 512 4 11 _ (lit< tt) (lit< tt) refl c.requires c.in_default.in_default-own.rest)
