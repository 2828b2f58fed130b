-- `translate_image_values::assign` meets its contract: the row's code is the value's and the assignment's, written one after another.
-- Assumes nothing.
use Rattle.translate_emit_instructions.specs.Write.{first, left, and}
use Rattle.translate_image_values.specs.RowCode.{named, offset_small, assign_names, assign_code}
use Rattle.translate_image_values.proofs.assign.Goals as goal

pub expression-requires : goal.expression-requires
expression-requires c = (
  named c.requires.0 (assign_names c.requires.0 c.row_at-assigned.ensures).1,
  first _ (rw (assign_code c.requires.0 c.row_at-assigned.ensures c.row_at-variable.ensures) at c.requires.1),
)

pub assign_variable-requires : goal.assign_variable-requires
assign_variable-requires c = (
  offset_small c.requires.0 c.row_at-variable.ensures (assign_names c.requires.0 c.row_at-assigned.ensures).0,
  left c.expression.ensures (rw (assign_code c.requires.0 c.row_at-assigned.ensures c.row_at-variable.ensures) at c.requires.1),
)

pub returns : goal.returns
returns c = rw (assign_code c.requires.0 c.row_at-assigned.ensures c.row_at-variable.ensures) (and c.expression.ensures c.assign_variable.ensures)
