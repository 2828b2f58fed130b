-- `translate_image_values::assign_element` meets its contract: subscript, check, value, store, written one after another.
-- Assumes nothing.
use Rattle.translate_emit_instructions.specs.Write.{first, left, and}
use Rattle.translate_image_values.specs.RowCode.{named, offset_small, assign_element_names, assign_element_code}
use Rattle.translate_image_values.proofs.assign_element.Goals as goal

pub expression-requires : goal.expression-requires
expression-requires c = (
  named c.requires.0 (assign_element_names c.requires.0 c.row_at-assigned.ensures).1,
  first _ (rw (assign_element_code c.requires.0 c.row_at-assigned.ensures c.row_at-array.ensures) at c.requires.1),
)

pub check_subscript-requires : goal.check_subscript-requires
check_subscript-requires c =
    first _ (left c.expression.ensures (rw (assign_element_code c.requires.0 c.row_at-assigned.ensures c.row_at-array.ensures) at c.requires.1))

pub expression-requires-2 : goal.expression-requires-2
expression-requires-2 c = (
  named c.requires.0 (assign_element_names c.requires.0 c.row_at-assigned.ensures).2,
  first _
      (left c.check_subscript.ensures (left c.expression.ensures (rw (assign_element_code c.requires.0 c.row_at-assigned.ensures c.row_at-array.ensures) at c.requires.1))),
)

pub store_element-requires : goal.store_element-requires
store_element-requires c = (
  offset_small c.requires.0 c.row_at-array.ensures (assign_element_names c.requires.0 c.row_at-assigned.ensures).0,
  left c.expression-2.ensures
      (left c.check_subscript.ensures (left c.expression.ensures (rw (assign_element_code c.requires.0 c.row_at-assigned.ensures c.row_at-array.ensures) at c.requires.1))),
)

pub returns : goal.returns
returns c =
    rw (assign_element_code c.requires.0 c.row_at-assigned.ensures c.row_at-array.ensures)
    (and c.expression.ensures (and c.check_subscript.ensures (and c.expression-2.ensures c.store_element.ensures)))
