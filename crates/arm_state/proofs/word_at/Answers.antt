-- `arm_state::word_at` meets its contract: four bytes of code, or the data word of the slot.
-- Rests on the definitions that its contract cites; assumes nothing.
use borrow.Author.Tests.{le-leb, lt-leb}
use mathlib.Core.Path.{sym, ap, ◌∙◌}
use native.Mathlib.Omega.{arith}
use Rattle.std.specs.Prelude.{Some}
use Rattle.arm_state.specs.Lookup.{word_at, data_word}
use Rattle.arm_state.specs.Lookup.{slot_lt}
use borrow.Author.Rules.{rules}
use Rattle.arm_state.proofs.word_at.Goals as goal

pub returns-then-i-code : goal.returns-then-i-code
unfolding word_at
returns-then-i-code c = rw (le-leb _ _ c.if-i-code.true) (ap Some (c.from_le_bytes.ensures ∙ omega arith))

pub returns-in_err-j : goal.returns-in_err-j
unfolding word_at
returns-in_err-j c =
    let x = c.args in
    rw (lt-leb _ _ c.if-i-code.false, c.from_residual.ensures) (ap (data_word x.memory.now) (sym c.in_err-j.was ∙ c.slot_of.ensures))

pub offset_bounds-memory-j : goal.offset_bounds-memory-j
offset_bounds-memory-j c = let l = slot_lt _ _ _ (sym c.slot_of.ensures ∙ c.in_ok-j.was) in search rules

pub bounds-memory-j : goal.bounds-memory-j
bounds-memory-j c = slot_lt _ _ _ (sym c.slot_of.ensures ∙ c.in_ok-j.was)

pub returns : goal.returns
unfolding word_at
returns c = rw (lt-leb _ _ c.if-i-code.false) (ap (data_word c.args.memory.now) (sym c.in_ok-j.was ∙ c.slot_of.ensures))
