-- `arm_encoding::logical` meets its contract: each key of the match is the block of one row; the blocks of its group that no key names hold none.
-- Rests on the definitions that its contract cites; assumes nothing.
use mathlib.Core.Path.{refl, sym}
use mathlib.Core.List.{[], ◌∷◌}
use native.Mathlib.Omega.{arith}
use lib.Dec.{lit<}
use Rattle.arm_word.specs.RangeLaws.{plain}
use Rattle.arm_encoding.specs.Encoding.{table}
use Rattle.arm_encoding.specs.EncodingTable.{row_hit, ranges, listed, blocks_clear, rest_miss}
use Rattle.arm_encoding.proofs.logical.Goals as goal

pub returns-in-256 : goal.returns-in-256
unfolding table
returns-in-256 c = rw (c.field.ensures, c.low.ensures) (sym (row_hit 8 _ (lit< tt) (omega arith) (omega arith)))

pub returns-in-257 : goal.returns-in-257
unfolding table
returns-in-257 c = rw (c.field-in-257.ensures, c.low-in-257.ensures) (sym (row_hit 9 _ (lit< tt) (omega arith) (omega arith)))

pub returns-in-258 : goal.returns-in-258
unfolding table
returns-in-258 c = rw (c.field-in-258.ensures, c.low-in-258.ensures) (sym (row_hit 10 _ (lit< tt) (omega arith) (omega arith)))

pub returns-in-259 : goal.returns-in-259
unfolding table
returns-in-259 c = rw (c.field-in-259.ensures, c.low-in-259.ensures) (sym (row_hit 11 _ (lit< tt) (omega arith) (omega arith)))

pub returns-in-265 : goal.returns-in-265
unfolding table
returns-in-265 c = rw (c.field-in-265.ensures, c.low-in-265.ensures) (sym (row_hit 12 _ (lit< tt) (omega arith) (omega arith)))

pub returns-in-268 : goal.returns-in-268
unfolding table
returns-in-268 c = rw (c.field-in-268.ensures, c.low-in-268.ensures) (sym (row_hit 13 _ (lit< tt) (omega arith) (omega arith)))

pub returns-in-269 : goal.returns-in-269
unfolding table
returns-in-269 c = rw (c.field-in-269.ensures, c.low-in-269.ensures) (sym (row_hit 14 _ (lit< tt) (omega arith) (omega arith)))

pub returns-in-271 : goal.returns-in-271
unfolding table
returns-in-271 c = rw (c.field-in-271.ensures, c.low-in-271.ensures) (sym (row_hit 15 _ (lit< tt) (omega arith) (omega arith)))

pub returns-in_default : goal.returns-in_default
unfolding table ranges plain listed blocks_clear
returns-in_default c =
    sym (rest_miss (271 ∷ 269 ∷ 268 ∷ 265 ∷ 259 ∷ 258 ∷ 257 ∷ 256 ∷ []) 64 32 8 _ (lit< tt) (lit< tt) refl
    c.requires c.in_default.in_default-own.rest)
