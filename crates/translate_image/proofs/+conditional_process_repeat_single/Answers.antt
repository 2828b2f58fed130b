-- `translate_image::process`, `single`, `conditional` and `repeat` meet their contracts. Measure: 3r + 2 for a process in row r, 3r + 1 for one that is no sequence, 3r for an if or a while, since
-- those are called with the row itself. `RowCode` says what a row's code is, `Onward` how a list is written, `Jumps` how an if and a while are.
-- Assumes nothing.
use Rattle.std.proofs.Common.{◌∙◌, arith}
use Rattle.translate_rules.specs.ImageCode.{choice_code, repeat_code}
use Rattle.translate_emit_instructions.specs.Write.{first, rest, nothing}
use Rattle.translate_emit_blocks.specs.Jumps.{then_room, then_ahead, else_room, else_ahead, choice_wrote, body_room, body_ahead, back_room, repeat_wrote}
use Rattle.translate_image_values.specs.RowCode.{named, skip_code, stop_code, conditional_names, conditional_code, loop_names, loop_code}
use Rattle.translate_image.specs.Onward.{left, right, left_asks, turn}
use Rattle.translate_image.proofs.+conditional_process_repeat_single.Goals as goal

-- ── an if ──
pub conditional-expression-requires : goal.conditional-expression-requires
conditional-expression-requires t c = (
  named c.requires.0 (conditional_names c.requires.0 c.row_at-choice.ensures).0,
  first _ (rw (conditional_code c.requires.0 c.row_at-choice.ensures) at c.requires.1),
)

pub conditional-take_condition-requires : goal.conditional-take_condition-requires
unfolding choice_code
conditional-take_condition-requires t c =
    first _ (rest c.expression.ensures.wrote (rw (conditional_code c.requires.0 c.row_at-choice.ensures) at c.requires.1))

pub conditional-overflow_add-out : goal.conditional-overflow_add-out
conditional-overflow_add-out t c =
    omega (
      arith,
      (then_room _ _ _ (rw (conditional_code c.requires.0 c.row_at-choice.ensures) at c.requires.1) c.expression.ensures.wrote c.take_condition.ensures.wrote).near,
    )

pub conditional-process-requires : goal.conditional-process-requires
conditional-process-requires t c =
    let n = (conditional_names c.requires.0 c.row_at-choice.ensures).1 in (
      omega (arith, n.earlier, c.requires.0),
      (
        named c.requires.0 n,
        then_room _ _ _ (rw (conditional_code c.requires.0 c.row_at-choice.ensures) at c.requires.1) c.expression.ensures.wrote c.take_condition.ensures.wrote,
      ),
    )

pub conditional-overflow_add-out-2 : goal.conditional-overflow_add-out-2
conditional-overflow_add-out-2 t c =
    omega (
      arith,
      (then_ahead _ _ _ (rw (conditional_code c.requires.0 c.row_at-choice.ensures) at c.requires.1) c.expression.ensures.wrote c.take_condition.ensures.wrote
          c.process.ensures.wrote).reach,
    )

pub conditional-jump_over-requires : goal.conditional-jump_over-requires
conditional-jump_over-requires t c =
    then_ahead _ _ _ (rw (conditional_code c.requires.0 c.row_at-choice.ensures) at c.requires.1) c.expression.ensures.wrote c.take_condition.ensures.wrote
    c.process.ensures.wrote

pub conditional-process-requires-2 : goal.conditional-process-requires-2
conditional-process-requires-2 t c =
    let n = (conditional_names c.requires.0 c.row_at-choice.ensures).2 in (
      omega (arith, n.earlier, c.requires.0),
      (
        named c.requires.0 n,
        else_room _ _ _ (rw (conditional_code c.requires.0 c.row_at-choice.ensures) at c.requires.1) c.expression.ensures.wrote c.take_condition.ensures.wrote
            c.process.ensures.wrote c.jump_over.ensures,
      ),
    )

pub conditional-jump_over-requires-2 : goal.conditional-jump_over-requires-2
conditional-jump_over-requires-2 t c =
    else_ahead _ _ _ (rw (conditional_code c.requires.0 c.row_at-choice.ensures) at c.requires.1) c.expression.ensures.wrote c.take_condition.ensures.wrote
    c.process.ensures.wrote c.jump_over.ensures c.process-2.ensures.wrote

pub conditional-returns : goal.conditional-returns
conditional-returns t c = record {
  same = c.process-2.ensures.same ∙ (c.process.ensures.same ∙ (c.take_condition.ensures.same ∙ c.expression.ensures.same));
  wrote =
      rw (conditional_code c.requires.0 c.row_at-choice.ensures)
      (choice_wrote _ _ _ (rw (conditional_code c.requires.0 c.row_at-choice.ensures) at c.requires.1) c.expression.ensures.wrote c.take_condition.ensures.wrote
      c.process.ensures.wrote c.jump_over.ensures c.process-2.ensures.wrote c.jump_over-2.ensures);
}

-- ── a list ──
pub process-process-requires : goal.process-process-requires
process-process-requires t c =
    let o = c.loop-w.invariant.1 in (omega (arith, (left o c.loop-w-test.true).earlier, o.least, c.requires.0), left_asks o c.loop-w-test.true)

pub process-loop-w-smaller : goal.process-loop-w-smaller
process-loop-w-smaller t c = (right c.loop-w.invariant.1 c.loop-w-test.true).earlier

pub process-loop-w-preserved : goal.process-loop-w-preserved
process-loop-w-preserved t c = (
  c.process.ensures.same ∙ c.loop-w.invariant.0,
  turn c.loop-w.invariant.1 c.loop-w-test.true c.row_at-w-in-loop-w.ensures c.process.ensures.wrote,
)

pub process-returns : goal.process-returns
process-returns t c = record { same = c.single.ensures.same ∙ c.loop-w.invariant.0; wrote = c.loop-w.invariant.1.ends _ _ c.single.ensures.wrote }

-- ── a while ──
pub repeat-expression-requires : goal.repeat-expression-requires
repeat-expression-requires t c = (
  named c.requires.0 (loop_names c.requires.0 c.row_at-repeated.ensures).0,
  first _ (rw (loop_code c.requires.0 c.row_at-repeated.ensures) at c.requires.1),
)

pub repeat-take_condition-requires : goal.repeat-take_condition-requires
unfolding repeat_code
repeat-take_condition-requires t c = first _ (rest c.expression.ensures.wrote (rw (loop_code c.requires.0 c.row_at-repeated.ensures) at c.requires.1))

pub repeat-overflow_add-out : goal.repeat-overflow_add-out
repeat-overflow_add-out t c =
    omega (arith, (body_room _ _ (rw (loop_code c.requires.0 c.row_at-repeated.ensures) at c.requires.1) c.expression.ensures.wrote c.take_condition.ensures.wrote).near)

pub repeat-process-requires : goal.repeat-process-requires
repeat-process-requires t c =
    let n = (loop_names c.requires.0 c.row_at-repeated.ensures).1 in (
      omega (arith, n.earlier, c.requires.0),
      (
        named c.requires.0 n,
        body_room _ _ (rw (loop_code c.requires.0 c.row_at-repeated.ensures) at c.requires.1) c.expression.ensures.wrote c.take_condition.ensures.wrote,
      ),
    )

pub repeat-overflow_add-out-2 : goal.repeat-overflow_add-out-2
repeat-overflow_add-out-2 t c =
    omega (
      arith,
      (body_ahead _ _ (rw (loop_code c.requires.0 c.row_at-repeated.ensures) at c.requires.1) c.expression.ensures.wrote c.take_condition.ensures.wrote
          c.process.ensures.wrote).reach,
    )

pub repeat-jump_over-requires : goal.repeat-jump_over-requires
repeat-jump_over-requires t c =
    body_ahead _ _ (rw (loop_code c.requires.0 c.row_at-repeated.ensures) at c.requires.1) c.expression.ensures.wrote c.take_condition.ensures.wrote
    c.process.ensures.wrote

pub repeat-jump_back-requires : goal.repeat-jump_back-requires
repeat-jump_back-requires t c =
    back_room _ _ (rw (loop_code c.requires.0 c.row_at-repeated.ensures) at c.requires.1) c.expression.ensures.wrote c.take_condition.ensures.wrote
    c.process.ensures.wrote c.jump_over.ensures

pub repeat-returns : goal.repeat-returns
repeat-returns t c = record {
  same = c.jump_back.ensures.same ∙ (c.process.ensures.same ∙ (c.take_condition.ensures.same ∙ c.expression.ensures.same));
  wrote =
      rw (loop_code c.requires.0 c.row_at-repeated.ensures)
      (repeat_wrote _ _ (rw (loop_code c.requires.0 c.row_at-repeated.ensures) at c.requires.1) c.expression.ensures.wrote c.take_condition.ensures.wrote
      c.process.ensures.wrote c.jump_over.ensures c.jump_back.ensures.wrote);
}

-- ── skip and stop ──
pub single-returns-in-8 : goal.single-returns-in-8
single-returns-in-8 t c = rw (skip_code c.requires.0.0 c.row_at.ensures c.in-8.is) nothing

pub single-put-requires : goal.single-put-requires
single-put-requires t c = rw (stop_code c.requires.0.0 c.row_at.ensures c.in-9.is) at c.requires.1

pub single-returns-in-9 : goal.single-returns-in-9
single-returns-in-9 t c = rw (stop_code c.requires.0.0 c.row_at.ensures c.in-9.is) c.put.ensures
