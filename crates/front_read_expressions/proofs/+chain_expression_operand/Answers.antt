-- `expression`, `chain` and `operand` meet their contracts, by the laws of specs/Parts. Each call's claim holds for every context, which is what the next law needs.
-- Where `?` passes an error on, the law of the whole part says so of the same error.
use Rattle.std.proofs.Common.{◌≡◌, sym, ◌∙◌, true, Ok, Err}
use borrow.Author.Tests.{eqb-true}
use Rattle.arm_word.specs.ChoiceLaws.{both}
use Rattle.x_grammar.specs.Grammar.{is_monadic, is_diadic}
use Rattle.front_read_expressions.specs.Parts.{monadic_big, diadic_big, operand_number, operand_variable, operand_none, operand_brackets, operand_element}
use Rattle.front_read_expressions.specs.Parts.{expression_monadic, expression_bad, expression_single, expression_diadic, chain_last, chain_more}
use Rattle.front_read_expressions.proofs.Passed.{passed}
use native.Mathlib.Omega.{arith}
use Rattle.front_read_expressions.proofs.+chain_expression_operand.Goals as goal

pub chain-returns-then-not-goes_on : goal.chain-returns-then-not-goes_on
chain-returns-then-not-goes_on t c =
    let f = c.requires.0 in let g = c.requires.1 in
    chain_last _ _ c.args.i c.args.n c.args.table.now _ _ c.in_ok-first.ensures c.args.o (omega arith) (rw (← c.kind_at.ensures) (sym c.goes_on.ensures ∙ c.if-not-goes_on.true))

pub chain-returns-in_err-rest : goal.chain-returns-in_err-rest
chain-returns-in_err-rest t c =
    let f = c.requires.0 in let g = c.requires.1 in
    let e = both _ _ (sym c.goes_on.ensures ∙ c.if-not-goes_on.false) in
    rw (passed _ _ c.from_residual-in_err-rest.ensures.1)
    (chain_more _ _ c.args.i c.args.n c.args.table.now _ _ c.in_ok-first.ensures c.args.o (sym c.kind_at.ensures ∙ eqb-true _ _ e.1) (omega arith) e.0 (Err _) c.chain.new.table c.in_err-rest.ensures)

pub chain-returns : goal.chain-returns
chain-returns t c =
    let f = c.requires.0 in let g = c.requires.1 in
    let e = both _ _ (sym c.goes_on.ensures ∙ c.if-not-goes_on.false) in
    rw (c.deepen.ensures, c.add_row_of_two-joined.ensures.0, c.add_row_of_two-joined.ensures.1, c.from.ensures)
    (chain_more _ _ c.args.i c.args.n c.args.table.now _ _ c.in_ok-first.ensures c.args.o (sym c.kind_at.ensures ∙ eqb-true _ _ e.1) (omega arith) e.0 (Ok _) _ c.in_ok-rest.ensures)

pub expression-returns-in_err-under : goal.expression-returns-in_err-under
expression-returns-in_err-under t c =
    let z : is_monadic c.kind_at-k.result ≡ true = sym c.is_monadic.ensures ∙ c.if-is_monadic.true in
    rw (passed _ _ c.from_residual.ensures.1)
    (expression_monadic _ _ c.args.i c.args.n c.args.table.now c.kind_at-k.result (Err _) c.operand.new.table (sym c.kind_at-k.ensures) (monadic_big c.kind_at-k.result z) z c.in_err-under.ensures)

pub expression-returns-then-is_monadic : goal.expression-returns-then-is_monadic
expression-returns-then-is_monadic t c =
    let z : is_monadic c.kind_at-k.result ≡ true = sym c.is_monadic.ensures ∙ c.if-is_monadic.true in
    rw (c.deepen.ensures, c.add_row-whole.ensures.0, c.add_row-whole.ensures.1, c.monadic_number.ensures)
    (expression_monadic _ _ c.args.i c.args.n c.args.table.now c.kind_at-k.result (Ok _) _ (sym c.kind_at-k.ensures) (monadic_big c.kind_at-k.result z) z c.in_ok-under.ensures)

pub expression-returns-in_err-first : goal.expression-returns-in_err-first
expression-returns-in_err-first t c =
    rw (passed _ _ c.from_residual-in_err-first.ensures.1)
    (expression_bad _ _ c.args.i c.args.n c.args.table.now _ c.operand-2.new.table (rw (← c.kind_at-k.ensures) (sym c.is_monadic.ensures ∙ c.if-is_monadic.false)) c.in_err-first.ensures)

pub expression-returns-then-not-is_diadic : goal.expression-returns-then-not-is_diadic
expression-returns-then-not-is_diadic t c =
    expression_single _ _ c.args.i c.args.n c.args.table.now _ _ c.in_ok-first.ensures (rw (← c.kind_at-k.ensures) (sym c.is_monadic.ensures ∙ c.if-is_monadic.false))
    (rw (← c.kind_at-o.ensures) (sym c.is_diadic.ensures ∙ c.if-not-is_diadic.true))

pub expression-returns-in_err-rest : goal.expression-returns-in_err-rest
expression-returns-in_err-rest t c =
    let z : is_diadic c.kind_at-o.result ≡ true = sym c.is_diadic.ensures ∙ c.if-not-is_diadic.false in let b = diadic_big c.kind_at-o.result z in
    rw (passed _ _ c.from_residual-in_err-rest.ensures.1)
    (expression_diadic _ _ c.args.i c.args.n c.args.table.now _ _ c.in_ok-first.ensures c.kind_at-o.result (sym c.kind_at-o.ensures) (omega arith)
    (rw (← c.kind_at-k.ensures) (sym c.is_monadic.ensures ∙ c.if-is_monadic.false)) z (Err _) c.chain.new.table c.in_err-rest.ensures)

pub expression-returns : goal.expression-returns
expression-returns t c =
    let z : is_diadic c.kind_at-o.result ≡ true = sym c.is_diadic.ensures ∙ c.if-not-is_diadic.false in let b = diadic_big c.kind_at-o.result z in
    rw (c.deepen-2.ensures, c.add_row_of_two-whole.ensures.0, c.add_row_of_two-whole.ensures.1, c.from.ensures)
    (expression_diadic _ _ c.args.i c.args.n c.args.table.now _ _ c.in_ok-first.ensures c.kind_at-o.result (sym c.kind_at-o.ensures) (omega arith)
    (rw (← c.kind_at-k.ensures) (sym c.is_monadic.ensures ∙ c.if-is_monadic.false)) z (Ok _) _ c.in_ok-rest.ensures)

pub operand-returns-then-k-eq-NUMBER : goal.operand-returns-then-k-eq-NUMBER
operand-returns-then-k-eq-NUMBER t c =
    let f = c.requires in let e = sym c.kind_at-k.ensures ∙ c.if-k-eq-NUMBER.true in
    operand_number _ _ c.args.i c.args.n c.args.table.now _ e c.put.ensures

pub operand-returns-in_err-e : goal.operand-returns-in_err-e
operand-returns-in_err-e t c =
    let e = sym c.kind_at-k.ensures ∙ c.if-k-eq-NAME.true in let g = sym c.kind_at.ensures ∙ c.if-kind_at-eq-OPEN_SUBSCRIPT.true in
    rw (passed _ _ c.from_residual.ensures.1) (operand_element _ _ c.args.i c.args.n c.args.table.now (Err _) c.expression.new.table e g c.in_err-e.ensures)

pub operand-returns-then-kind_at-eq-OPEN_SUBSCRIPT : goal.operand-returns-then-kind_at-eq-OPEN_SUBSCRIPT
operand-returns-then-kind_at-eq-OPEN_SUBSCRIPT t c =
    let e = sym c.kind_at-k.ensures ∙ c.if-k-eq-NAME.true in let g = sym c.kind_at.ensures ∙ c.if-kind_at-eq-OPEN_SUBSCRIPT.true in
    rw (c.deepen.ensures, c.add_row-element.ensures.0, c.add_row-element.ensures.1, c.close-subscript.ensures)
    (operand_element _ _ c.args.i c.args.n c.args.table.now (Ok _) _ e g c.in_ok-e.ensures)

pub operand-returns-then-k-eq-NAME : goal.operand-returns-then-k-eq-NAME
operand-returns-then-k-eq-NAME t c =
    let f = c.requires in let e = sym c.kind_at-k.ensures ∙ c.if-k-eq-NAME.true in
    operand_variable _ _ c.args.i c.args.n c.args.table.now _ e (λ x. c.if-kind_at-eq-OPEN_SUBSCRIPT.false (c.kind_at.ensures ∙ x)) c.put-then-k-eq-NAME.ensures

pub operand-returns-in_err-inner : goal.operand-returns-in_err-inner
operand-returns-in_err-inner t c =
    rw (passed _ _ c.from_residual-in_err-inner.ensures.1)
    (operand_brackets _ _ c.args.i c.args.n c.args.table.now (Err _) c.expression-then-k-eq-OPEN_BRACKET.new.table (sym c.kind_at-k.ensures ∙ c.if-k-eq-OPEN_BRACKET.true) c.in_err-inner.ensures)

pub operand-returns-then-k-eq-OPEN_BRACKET : goal.operand-returns-then-k-eq-OPEN_BRACKET
operand-returns-then-k-eq-OPEN_BRACKET t c =
    rw (c.deepen-then-k-eq-OPEN_BRACKET.ensures, c.close-bracketed.ensures)
    (operand_brackets _ _ c.args.i c.args.n c.args.table.now (Ok _) _ (sym c.kind_at-k.ensures ∙ c.if-k-eq-OPEN_BRACKET.true) c.in_ok-inner.ensures)

pub operand-returns : goal.operand-returns
operand-returns t c =
    let f = c.requires in let k = c.kind_at-k.ensures in
    operand_none _ _ c.args.i c.args.n c.args.table.now f.short c.args.table.now
    (λ e. c.if-k-eq-NUMBER.false (k ∙ e)) (λ e. c.if-k-eq-NAME.false (k ∙ e)) (λ e. c.if-k-eq-OPEN_BRACKET.false (k ∙ e))
