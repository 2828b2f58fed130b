-- `front_names_bind::declare` meets its contract. Each way through the code makes the same choices as the definition.
-- Assumes nothing.
use native.Mathlib.Omega.{arith}
use mathlib.Core.Path.{◌≡◌, refl, sym, ap, subst, ◌∙◌}
use Prim.Native.Nat.{ℕ}
use Rattle.std.specs.Prelude.{Result, Ok, Err}
use Rattle.std.specs.Result.{result_unwrap_or}
use Rattle.std.proofs.lemmas.Result.{err_from_is_err_and}
use lib.ListN.{set, length-set}
use Rattle.x_tokens.specs.declared.refusal.Reason.{Reason}
use Rattle.x_tokens.specs.declared.refusal.Refusal.{Refusal}
use Rattle.front_names_table.specs.View.{meant}
use Rattle.front_names_table.specs.Held.{held}
use Rattle.front_names_judge.specs.Judge.{read_as, item_of}
use Rattle.front_names_bind.specs.declared.Declared.{Declared}
use Rattle.front_names_bind.specs.Going.{scope_of, room, judged_as, put_as, Enters}
use Rattle.front_names_bind.proofs.declare.Goals as goal

unwrapped : (r : Result ℕ Reason) → result_unwrap_or r 0 ≡ (read_as r).word
unwrapped (Ok w) = refl
unwrapped (Err e) = refl

pub enter-requires : goal.enter-requires
enter-requires c =
    let a = c.args in let k = read_as c.constant_at-c.result in
    let r = room c.kind_at-k.result (meant c.stands_for-m.result) k.status k.word a.names.now.count a.so_far.words a.so_far.rows
    c.number-p.result c.number-q.result (sym c.in_ok-judge.ensures) in
    rw (c.item_of-e.ensures, c.unwrap_or.ensures, unwrapped c.constant_at-c.result) (r.0, (c.requires.1.0, (r.1, r.2)))

pub returns-in_err-judge : goal.returns-in_err-judge
returns-in_err-judge c =
    let a = c.args in let t = a.tokens in let e = err_from_is_err_and c.from_residual.result c.from_residual.ensures.1 in
    λ sizes l. let old = held a.names.now sizes in
    let s = scope_of a.source.now old a.names.now.count a.so_far.rows a.so_far.words in (
      sizes,
      l,
      subst (λ (r : Result Declared Refusal). Enters a.source.now t.kinds.now t.places.now t.values.now s a.i old old a.table.now a.table.now a.names.now.count r) (sym (e.1 ∙ ap Err e.2))
          (judged_as a.source.now t.kinds.now t.places.now t.values.now s a.i
          c.kind_at-k.result c.stands_for-m.result (read_as c.constant_at-c.result) c.number-p.result c.number-n.result c.number-q.result c.kind_at-k.ensures
          c.number-p.ensures c.number-n.ensures (c.stands_for-m.ensures sizes) (c.constant_at-c.ensures sizes a.so_far.rows a.so_far.words) c.number-q.ensures
          {A = Unit {0}} (Err c.in_err-judge.field-0.0) c.in_err-judge.ensures),
    )

pub returns : goal.returns
returns c =
    let a = c.args in let t = a.tokens in let item = c.item_of-e in let k = read_as c.constant_at-c.result in
    let r = room c.kind_at-k.result (meant c.stands_for-m.result) k.status k.word a.names.now.count a.so_far.words a.so_far.rows
    c.number-p.result c.number-q.result (sym c.in_ok-judge.ensures) in
    λ sizes l. let old = held a.names.now sizes in
    let s = scope_of a.source.now old a.names.now.count a.so_far.rows a.so_far.words in
    let f = judged_as a.source.now t.kinds.now t.places.now t.values.now s a.i
    c.kind_at-k.result c.stands_for-m.result k c.number-p.result c.number-n.result c.number-q.result c.kind_at-k.ensures
    c.number-p.ensures c.number-n.ensures (c.stands_for-m.ensures sizes) (c.constant_at-c.ensures sizes a.so_far.rows a.so_far.words) c.number-q.ensures
    {A = Unit {0}} (Ok c.in_ok-judge.field-0) c.in_ok-judge.ensures in (
      set sizes a.names.now.count item.result.size,
      omega (arith, length-set sizes a.names.now.count item.result.size),
      put_as a.source.now t.kinds.now t.places.now t.values.now s a.i
          c.kind_at-k.result c.stands_for-m.result k c.number-p.result c.number-n.result c.number-q.result c.kind_at-k.ensures
          c.number-p.ensures c.number-n.ensures (c.stands_for-m.ensures sizes) (c.constant_at-c.ensures sizes a.so_far.rows a.so_far.words) c.number-q.ensures
          item.result old _ a.table.now _ _ _ _
          (item.ensures ∙ ap (λ (w : ℕ). item_of c.kind_at-k.result w a.so_far.rows a.so_far.words) (c.unwrap_or.ensures ∙ unwrapped c.constant_at-c.result)) refl f
          (c.enter.ensures sizes (omega (arith, r.0))),
    )
