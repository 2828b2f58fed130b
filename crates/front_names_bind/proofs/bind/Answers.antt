-- `front_names_bind::bind` meets its contract. The invariant: what is left of the specifications, by `Going`; the counts are within their limits.
use Rattle.front_names_judge.specs.Judge.{width, width_small}
use native.Mathlib.Omega.{arith}
use mathlib.Core.Path.{sym, ap, subst, ◌∙◌}
use mathlib.Core.List.{List}
use Prim.Native.Nat.{ℕ, ◌+◌, ◌<◌, ◌≤◌}
use Rattle.std.specs.Prelude.{Result, Err}
use Rattle.std.proofs.lemmas.Result.{err_from_is_err_and}
use lib.ListN.{replicate, length-replicate}
use Rattle.x_tokens.specs.declared.refusal.Refusal.{Refusal}
use Rattle.front_names_table.specs.Held.{held}
use Rattle.front_names_bind.specs.declared.Declared.{Declared}
use Rattle.front_names_bind.specs.Going.{scope_of, Fills, Going, going_start, going_comment, going_refused, going_on, going_end, entered_room}
use Rattle.front_names_bind.proofs.bind.Goals as goal

pub loop-i-init : goal.loop-i-init
loop-i-init c =
    let a = c.args in let t = a.tokens in let sizes : List ℕ = replicate 256 0 in (
      omega arith,
      omega arith,
      omega arith,
      (sizes, omega (arith, length-replicate {A = ℕ} 256 0), λ ds b h st. going_start a.source.now t.kinds.now t.places.now t.values.now ds b a.table.now _ h),
    )

pub loop-i-preserved-then-k-eq-COMMENT : goal.loop-i-preserved-then-k-eq-COMMENT
loop-i-preserved-then-k-eq-COMMENT c =
    let a = c.args in let t = a.tokens in let l = c.loop-i in let v = l.invariant in
    let old = held l.names v.3.0 in (
      v.0,
      v.1,
      v.2,
      (
        v.3.0,
        v.3.1,
        λ ds b h st. going_comment a.source.now t.kinds.now t.places.now t.values.now ds b a.table.now old l.table l.i l.names.count l.so_far.rows l.so_far.words (v.3.2 ds b h st)
            (subst (λ (n : ℕ). l.i < n) st c.loop-i-test.true) (sym c.kind_at-k.ensures ∙ c.if-k-eq-COMMENT.true),
      ),
    )

pub returns-in_err-so_far : goal.returns-in_err-so_far
returns-in_err-so_far c =
    let a = c.args in let t = a.tokens in let l = c.loop-i in let v = l.invariant in let old = held l.names v.3.0 in
    let e = c.in_err-so_far.ensures v.3.0 v.3.1 in let x = err_from_is_err_and c.from_residual.result c.from_residual.ensures.1 in (
      e.0,
      λ ds b h st.
          subst (λ (r : Result Declared Refusal). Fills a.source.now t.kinds.now t.places.now t.values.now ds a.table.now c.declare.new.table
          (held c.declare.new.names e.0) c.declare.new.names.count r) (sym (x.1 ∙ ap Err x.2))
          (going_refused a.source.now t.kinds.now t.places.now t.values.now ds b a.table.now old l.table l.i l.names.count l.so_far.rows l.so_far.words (v.3.2 ds b h st)
          (subst (λ (n : ℕ). l.i < n) st c.loop-i-test.true) (λ z. c.if-k-eq-COMMENT.false (c.kind_at-k.ensures ∙ z)) _ e.2),
    )

pub overflow_add-i-else-k-eq-COMMENT : goal.overflow_add-i-else-k-eq-COMMENT
overflow_add-i-else-k-eq-COMMENT c = let w = width_small c.kind_at-k.result in omega (arith, w.1, c.width-i.ensures)

pub loop-i-smaller : goal.loop-i-smaller
loop-i-smaller c = let w = width_small c.kind_at-k.result in omega (arith, w.0, c.width-i.ensures, c.loop-i-test.true)

pub loop-i-preserved : goal.loop-i-preserved
loop-i-preserved c =
    let a = c.args in let t = a.tokens in let l = c.loop-i in let v = l.invariant in
    let old = held l.names v.3.0 in let s = scope_of a.source.now old l.names.count l.so_far.rows l.so_far.words in
    let d = c.in_ok-so_far.so_far in let e = c.in_ok-so_far.ensures v.3.0 v.3.1 in let new = held c.declare.new.names e.0 in
    let r = entered_room a.source.now t.kinds.now t.places.now t.values.now s l.i old new l.table c.declare.new.table c.declare.new.names.count d.rows d.words e.2 v.0 in (
      r.0,
      r.1,
      r.2,
      (
        e.0,
        e.1,
        λ ds b h st. subst (λ (w : ℕ). Going a.source.now t.kinds.now t.places.now t.values.now ds b a.table.now new c.declare.new.table (l.i + w) c.declare.new.names.count d.rows d.words)
            (sym (c.width-i.ensures ∙ ap width c.kind_at-k.ensures))
            (going_on a.source.now t.kinds.now t.places.now t.values.now ds b a.table.now old l.table l.i l.names.count l.so_far.rows l.so_far.words (v.3.2 ds b h st)
            (subst (λ (n : ℕ). l.i < n) st c.loop-i-test.true) (λ z. c.if-k-eq-COMMENT.false (c.kind_at-k.ensures ∙ z))
            new c.declare.new.table c.declare.new.names.count d.rows d.words e.2),
      ),
    )

pub returns : goal.returns
returns c =
    let a = c.args in let t = a.tokens in let l = c.loop-i in let v = l.invariant in (
      v.3.0,
      λ ds b h st. going_end a.source.now t.kinds.now t.places.now t.values.now ds b a.table.now (held l.names v.3.0) l.table l.i l.names.count l.so_far.rows l.so_far.words
          (v.3.2 ds b h st) (subst (λ (n : ℕ). n ≤ l.i) st c.loop-i-test.false),
    )
