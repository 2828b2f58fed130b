-- `front_names_table::add` meets its contract. Each way through the code makes the same choices as the definition.
-- Assumes nothing.
use Rattle.front_names_table.specs.View.{view_more}
use Rattle.front_names_table.proofs.add.Goals as goal

pub returns : goal.returns
returns c =
    λ source sizes size h. view_more source _ c.args.k c.args.p c.args.n c.args.row c.args.sort c.args.word size
    (record { places = c.requires.0; lengths = c.requires.1.0; rows = c.requires.1.1.0; sorts = c.requires.1.1.1.0; words = c.requires.1.1.1.1; sizes = h })
