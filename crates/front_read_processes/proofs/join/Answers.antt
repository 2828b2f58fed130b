-- The joints that are left after one more row are those of the whole, by the definition of `joints`.
use native.Mathlib.Omega.{arith}
use Rattle.std.proofs.Common.{◌≡◌, sym, ap, ◌∙◌, List, ℕ, ◌+◌, ◌-◌, ◌*◌, get_or}
use lib.Seq.{sets}
use Rattle.x_grammar.specs.RawRows.{row as row_of}
use Rattle.x_program.specs.Layout.{row_words}
use Rattle.x_program.specs.Layout as layout
use Rattle.front_read_processes.specs.Lists.{joints, joints_none, joints_more}
use Rattle.front_read_processes.proofs.join.Goals as goal

pub loop-c-preserved : goal.loop-c-preserved
loop-c-preserved c =
    let a = c.args in
    let l = c.loop-c in
    let k = l.c - 1 in
    let e : c.put.new.table ≡ sets l.table (row_words * l.next) (row_of layout.sequence (get_or a.pending.now (a.top + k) 0) (l.next - 1) 0) =
    c.put.ensures ∙ ap (λ (x : ℕ). sets l.table (row_words * l.next) (row_of layout.sequence x (l.next - 1) 0)) c.from.ensures in (
      omega arith,
      omega arith,
      ap (λ (t : List ℕ). joints t (l.next + 1) a.pending.now a.top k) e ∙ sym (joints_more l.table l.next a.pending.now a.top l.c k (omega arith)) ∙ l.invariant.2,
    )

pub returns : goal.returns
returns c = sym (joints_none _ _ _ _ _ (omega arith)) ∙ c.loop-c.invariant.2
