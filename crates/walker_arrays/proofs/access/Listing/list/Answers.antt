-- `walker_arrays::access::Listing::list` meets its contract: before those that are shown, by `list_skips`; else by `list_writes`.
-- Assumes nothing.
use Rattle.std.proofs.Common.{refl, ◌∙◌}
use Rattle.walker_arrays.specs.WorkingArrays.{made, list_skips, list_writes}
use Rattle.walker_arrays.proofs.access.Listing.list.Goals.{then-self, else-self}
use Rattle.walker_arrays.proofs.access.Listing.list.Goals as goal

pub returns-clause-listed : goal.returns-clause-listed
returns-clause-listed c =
    λ before l known small. let x = c.args in
    let s = x.self.now in
    elim c.if-self.branch [
      | then-self w ↦
          list_writes s.first before x.accesses.now s.total l (made x.a) known small _ refl c.if-self.accesses _ x.a.offset x.a.old x.a.new
          (w.accesses-is ∙ w.write_entry.ensures) w.if-self.true refl refl refl refl
      | else-self w ↦ rw w.accesses-is (list_skips s.first before x.accesses.now s.total l (made x.a) known small _ refl w.if-self.false)
    ]
