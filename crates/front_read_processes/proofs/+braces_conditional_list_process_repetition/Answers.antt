-- `process` and the readers in its cycle of calls meet their contracts, by the laws of specs/ProcessReaders and specs/Lists.
-- The measure is three times the unread tokens, and 1 for braces, conditional and repetition, 2 for process, 3 for list: process calls the first three, and list calls process, at the same token.
-- The invariant of list: whatever the rest of the list reads as, the whole reads as that after the processes that wait in pending.
use Rattle.std.proofs.Common.{◌+◌, sym, ◌∙◌, Ok, Err}
use native.Mathlib.Omega.{arith}
use Rattle.x_spelling.specs.Kinds as kind
use Rattle.x_grammar.specs.Unread.{inside}
use Rattle.front_read_expressions.specs.Reads.{done, bad}
use Rattle.front_read_expressions.proofs.Passed.{passed}
use Rattle.front_read_processes.specs.Lists.{kept_all, kept_then, resumes_start, resumes_bad, resumes_stop, resumes_last, resumes_more}
use Rattle.front_read_processes.specs.ProcessReaders.{close_if, close_then, close_while, process_skip, process_stop, process_empty, process_none, process_comments}
use Rattle.front_read_processes.specs.ProcessReaders.{process_braces, while_bad, process_while, if_bad, then_bad, process_if}
use Rattle.front_read_processes.proofs.+braces_conditional_list_process_repetition.Goals as goal

pub braces-returns-then-kind_at-eq-CLOSE_BRACE : goal.braces-returns-then-kind_at-eq-CLOSE_BRACE
braces-returns-then-kind_at-eq-CLOSE_BRACE t c = (
  process_empty _ _ c.args.i c.args.n c.args.table.now _ c.requires.1 (sym c.kind_at.ensures ∙ c.if-kind_at-eq-CLOSE_BRACE.true) c.put.ensures,
  kept_all _ _,
)

pub braces-returns-in_err-processes : goal.braces-returns-in_err-processes
braces-returns-in_err-processes t c = (
  rw (passed _ _ c.from_residual.ensures.1)
      (process_braces _ _ c.args.i c.args.n c.args.table.now (Err _) c.list.new.table c.requires.1 (λ e. c.if-kind_at-eq-CLOSE_BRACE.false (c.kind_at.ensures ∙ e))
      c.in_err-processes.ensures.0),
  c.in_err-processes.ensures.1,
)

pub braces-returns : goal.braces-returns
braces-returns t c = (
  rw c.deepen.ensures
      (process_braces _ _ c.args.i c.args.n c.args.table.now (Ok _) c.list.new.table c.requires.1 (λ e. c.if-kind_at-eq-CLOSE_BRACE.false (c.kind_at.ensures ∙ e))
      c.in_ok-processes.ensures.0),
  c.in_ok-processes.ensures.1,
)

pub conditional-returns-in_err-e : goal.conditional-returns-in_err-e
conditional-returns-in_err-e t c = (
  rw (passed _ _ c.from_residual.ensures.1)
      (if_bad _ _ c.args.i c.args.n c.args.table.now c.requires.1 _ c.expression.new.table
      (close_if _ _ (c.args.i + 1) c.args.n c.args.table.now (Err _) c.expression.new.table c.in_err-e.ensures)),
  kept_all _ _,
)

pub conditional-returns-in_err-condition : goal.conditional-returns-in_err-condition
conditional-returns-in_err-condition t c =
    let h = close_if _ _ (c.args.i + 1) c.args.n c.args.table.now (Ok _) c.expression.new.table c.in_ok-e.ensures in (
      rw (passed _ _ c.from_residual-in_err-condition.ensures.1)
          (if_bad _ _ c.args.i c.args.n c.args.table.now c.requires.1 _ c.expression.new.table (rw (← c.in_err-condition.ensures) at h)),
      kept_all _ _,
    )

pub conditional-returns-in_err-p : goal.conditional-returns-in_err-p
conditional-returns-in_err-p t c =
    let h = close_if _ _ (c.args.i + 1) c.args.n c.args.table.now (Ok _) c.expression.new.table c.in_ok-e.ensures in
    let g = rw (← c.in_ok-condition.ensures) at h in (
      rw (passed _ _ c.from_residual-in_err-p.ensures.1)
          (then_bad _ _ c.args.i c.args.n c.args.table.now c.requires.1 _ _ g _ c.process.new.table
          (close_then _ _ c.in_ok-condition.condition.next c.in_ok-condition.condition.rows c.expression.new.table (Err _) c.process.new.table g.1.tree c.in_err-p.ensures.0)),
      c.in_err-p.ensures.1,
    )

pub conditional-returns-in_err-then : goal.conditional-returns-in_err-then
conditional-returns-in_err-then t c =
    let h = close_if _ _ (c.args.i + 1) c.args.n c.args.table.now (Ok _) c.expression.new.table c.in_ok-e.ensures in
    let g = rw (← c.in_ok-condition.ensures) at h in
    let k = close_then _ _ c.in_ok-condition.condition.next c.in_ok-condition.condition.rows c.expression.new.table (Ok _) c.process.new.table g.1.tree c.in_ok-p.ensures.0 in (
      rw (passed _ _ c.from_residual-in_err-then.ensures.1)
          (then_bad _ _ c.args.i c.args.n c.args.table.now c.requires.1 _ _ g _ c.process.new.table (rw (← c.in_err-then.ensures) at k)),
      c.in_ok-p.ensures.1,
    )

pub conditional-returns-in_err-other : goal.conditional-returns-in_err-other
conditional-returns-in_err-other t c =
    let h = close_if _ _ (c.args.i + 1) c.args.n c.args.table.now (Ok _) c.expression.new.table c.in_ok-e.ensures in
    let g = rw (← c.in_ok-condition.ensures) at h in
    let k = close_then _ _ c.in_ok-condition.condition.next c.in_ok-condition.condition.rows c.expression.new.table (Ok _) c.process.new.table g.1.tree c.in_ok-p.ensures.0 in
    let w = rw (← c.in_ok-then.ensures) at k in (
      rw (passed _ _ c.from_residual-in_err-other.ensures.1)
          (process_if _ _ c.args.i c.args.n c.args.table.now c.requires.1 _ _ g _ _ w (Err _) c.process-2.new.table c.in_err-other.ensures.0),
      kept_then _ _ _ c.args.top c.args.top (omega arith) c.in_ok-p.ensures.1 c.in_err-other.ensures.1,
    )

pub conditional-returns : goal.conditional-returns
conditional-returns t c =
    let h = close_if _ _ (c.args.i + 1) c.args.n c.args.table.now (Ok _) c.expression.new.table c.in_ok-e.ensures in
    let g = rw (← c.in_ok-condition.ensures) at h in
    let k = close_then _ _ c.in_ok-condition.condition.next c.in_ok-condition.condition.rows c.expression.new.table (Ok _) c.process.new.table g.1.tree c.in_ok-p.ensures.0 in
    let w = rw (← c.in_ok-then.ensures) at k in (
      rw (c.deepen.ensures, c.add_row_of_two-whole.ensures.0, c.add_row_of_two-whole.ensures.1, c.max.ensures)
          (process_if _ _ c.args.i c.args.n c.args.table.now c.requires.1 _ _ g _ _ w (Ok _) _ c.in_ok-other.ensures.0),
      kept_then _ _ _ c.args.top c.args.top (omega arith) c.in_ok-p.ensures.1 c.in_ok-other.ensures.1,
    )

pub repetition-returns-in_err-e : goal.repetition-returns-in_err-e
repetition-returns-in_err-e t c = (
  rw (passed _ _ c.from_residual.ensures.1)
      (while_bad _ _ c.args.i c.args.n c.args.table.now c.requires.1 _ c.expression.new.table
      (close_while _ _ (c.args.i + 1) c.args.n c.args.table.now (Err _) c.expression.new.table c.in_err-e.ensures)),
  kept_all _ _,
)

pub repetition-returns-in_err-condition : goal.repetition-returns-in_err-condition
repetition-returns-in_err-condition t c =
    let h = close_while _ _ (c.args.i + 1) c.args.n c.args.table.now (Ok _) c.expression.new.table c.in_ok-e.ensures in (
      rw (passed _ _ c.from_residual-in_err-condition.ensures.1)
          (while_bad _ _ c.args.i c.args.n c.args.table.now c.requires.1 _ c.expression.new.table (rw (← c.in_err-condition.ensures) at h)),
      kept_all _ _,
    )

pub repetition-returns-in_err-repeated : goal.repetition-returns-in_err-repeated
repetition-returns-in_err-repeated t c =
    let h = close_while _ _ (c.args.i + 1) c.args.n c.args.table.now (Ok _) c.expression.new.table c.in_ok-e.ensures in
    let g = rw (← c.in_ok-condition.ensures) at h in (
      rw (passed _ _ c.from_residual-in_err-repeated.ensures.1)
          (process_while _ _ c.args.i c.args.n c.args.table.now c.requires.1 _ _ g (Err _) c.process.new.table c.in_err-repeated.ensures.0),
      c.in_err-repeated.ensures.1,
    )

pub repetition-returns : goal.repetition-returns
repetition-returns t c =
    let h = close_while _ _ (c.args.i + 1) c.args.n c.args.table.now (Ok _) c.expression.new.table c.in_ok-e.ensures in
    let g = rw (← c.in_ok-condition.ensures) at h in (
      rw (c.deepen.ensures, c.add_row-whole.ensures.0, c.add_row-whole.ensures.1)
          (process_while _ _ c.args.i c.args.n c.args.table.now c.requires.1 _ _ g (Ok _) _ c.in_ok-repeated.ensures.0),
      c.in_ok-repeated.ensures.1,
    )

pub process-returns-in-16 : goal.process-returns-in-16
process-returns-in-16 t c =
    let j = c.past_comments-j in (
      process_comments _ _ c.args.i j.result c.args.n c.args.table.now (done (j.result + 1) (c.args.n + 1) 1 0) c.put.new.table j.ensures.0
          (process_skip _ _ j.result c.args.n c.args.table.now _ (sym c.kind_at.ensures ∙ c.in-16.is) c.put.ensures),
      kept_all _ _,
    )

pub process-returns-in-17 : goal.process-returns-in-17
process-returns-in-17 t c =
    let j = c.past_comments-j in (
      process_comments _ _ c.args.i j.result c.args.n c.args.table.now (done (j.result + 1) (c.args.n + 1) 1 0) c.put-in-17.new.table j.ensures.0
          (process_stop _ _ j.result c.args.n c.args.table.now _ (sym c.kind_at.ensures ∙ c.in-17.is) c.put-in-17.ensures),
      kept_all _ _,
    )

pub process-returns-in-2 : goal.process-returns-in-2
process-returns-in-2 t c =
    let j = c.past_comments-j in (
      process_comments _ _ c.args.i j.result c.args.n c.args.table.now _ c.assignment.new.table j.ensures.0
          (c.assignment.ensures),
      kept_all _ _,
    )

pub process-returns-in-8 : goal.process-returns-in-8
process-returns-in-8 t c =
    let j = c.past_comments-j in (
      process_comments _ _ c.args.i j.result c.args.n c.args.table.now _ c.braces.new.table j.ensures.0
          (c.braces.ensures.0),
      c.braces.ensures.1,
    )

pub process-returns-in-18 : goal.process-returns-in-18
process-returns-in-18 t c =
    let j = c.past_comments-j in (
      process_comments _ _ c.args.i j.result c.args.n c.args.table.now _ c.conditional.new.table j.ensures.0
          (c.conditional.ensures.0),
      c.conditional.ensures.1,
    )

pub process-returns-in-21 : goal.process-returns-in-21
process-returns-in-21 t c =
    let j = c.past_comments-j in (
      process_comments _ _ c.args.i j.result c.args.n c.args.table.now _ c.repetition.new.table j.ensures.0
          (c.repetition.ensures.0),
      c.repetition.ensures.1,
    )

pub process-returns-in_default : goal.process-returns-in_default
process-returns-in_default t c =
    let j = c.past_comments-j in let g = j.ensures.0 in (
      process_comments _ _ c.args.i j.result c.args.n c.args.table.now (bad j.result) c.args.table.now g
          (process_none _ _ j.result c.args.n c.args.table.now g.short c.args.table.now (λ e. omega arith) (λ e. omega arith) (λ e. omega arith) (λ e. omega arith) (λ e. omega arith)
          (λ e. omega arith) j.ensures.1),
      kept_all _ _,
    )

pub list-loop-part-init : goal.list-loop-part-init
list-loop-part-init t c = let f = c.requires.0 in let o = c.requires.1 in (omega arith, f.short, omega arith, omega arith, kept_all _ _, resumes_start _ _ _ _ _ _ _)

pub list-returns-in_err-part : goal.list-returns-in_err-part
list-returns-in_err-part t c =
    let v = c.loop-part in let z = v.invariant in (
      rw (passed _ _ c.from_residual.ensures.1)
          (resumes_bad _ _ c.args.i c.args.n c.args.table.now _ _ _ _ c.args.top v.count _ _ z.5 _ c.process.new.table c.in_err-part.ensures.0),
      kept_then _ _ _ c.args.top (c.args.top + v.count) (omega arith) z.4 c.in_err-part.ensures.1,
    )

pub list-returns-in-9 : goal.list-returns-in-9
list-returns-in-9 t c =
    let v = c.loop-part in let z = v.invariant in (
      rw (c.join.ensures, c.max-depth.ensures, c.max-deepest.ensures)
          (resumes_last _ _ c.args.i c.args.n c.args.table.now _ _ _ _ c.args.top v.count _ _ z.5 _ c.process.new.table c.in_ok-part.ensures.0 _ c.in_ok-part.ensures.1
          (sym c.kind_at.ensures ∙ c.in-9.is)),
      kept_then _ _ _ c.args.top (c.args.top + v.count) (omega arith) z.4 c.in_ok-part.ensures.1,
    )

pub list-returns-in_default : goal.list-returns-in_default
list-returns-in_default t c =
    let v = c.loop-part in let z = v.invariant in (
      resumes_stop _ _ c.args.i c.args.n c.args.table.now _ _ _ _ c.args.top v.count _ _ z.5 _ c.process.new.table c.in_ok-part.ensures.0 (λ e. omega arith) (λ e. omega arith),
      kept_then _ _ _ c.args.top (c.args.top + v.count) (omega arith) z.4 c.in_ok-part.ensures.1,
    )

pub list-loop-part-preserved : goal.list-loop-part-preserved
list-loop-part-preserved t c =
    let f = c.requires.0 in let v = c.loop-part in let z = v.invariant in let h = c.in_ok-part.ensures in let w = h.0.0 in
    let e = sym c.kind_at.ensures ∙ c.in-10.is in
    let l = inside c.args.tokens.kinds.now c.in_ok-part.part.next kind.semicolon e (omega arith) in (
      omega arith,
      omega arith,
      omega arith,
      omega arith,
      kept_then _ _ _ c.args.top (c.args.top + v.count) (omega arith) (kept_then _ _ _ c.args.top (c.args.top + v.count) (omega arith) z.4 h.1) c.push.ensures.1,
      rw (c.max-depth.ensures, c.max-deepest.ensures)
          (resumes_more _ _ c.args.i c.args.n c.args.table.now _ _ _ _ c.args.top v.count _ _ z.5 _ c.process.new.table h.0 _
          (kept_then _ _ _ (c.args.top + v.count) (c.args.top + v.count) (omega arith) h.1 c.push.ensures.1) c.push.ensures.0 e),
    )
