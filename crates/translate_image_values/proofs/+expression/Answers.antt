-- `translate_image_values::expression` meets its contract. A row names only earlier rows, so the measure is its number. For each kind a law of `RowCode` says what its code is; the parts are
-- written one after another.
-- Assumes nothing.
use Rattle.std.proofs.Common.{◌≡◌, arith}
use Rattle.x_program.specs.Layout as layout
use Rattle.translate_emit_instructions.specs.Write.{first, left, and}
use Rattle.translate_image_values.specs.RowCode.{named, offset_small, kind_from, kind_to, constant_code, variable_names, variable_code, element_names, element_code}
use Rattle.translate_image_values.specs.RowCode.{monadic_names, monadic_code, diadic_names, diadic_code}
use Rattle.translate_image_values.proofs.+expression.Goals as goal

-- ── number ──
pub push_constant-requires : goal.push_constant-requires
push_constant-requires t c = rw (constant_code c.requires.0 c.row_at-w.ensures c.in-3.is) at c.requires.1

pub returns-in-3 : goal.returns-in-3
returns-in-3 t c = rw (constant_code c.requires.0 c.row_at-w.ensures c.in-3.is) c.push_constant.ensures

-- ── variable ──
pub push_variable-requires : goal.push_variable-requires
push_variable-requires t c = (
  offset_small c.requires.0 c.row_at-v.ensures (variable_names c.requires.0 c.row_at-w.ensures c.in-4.is),
  rw (variable_code c.requires.0 c.row_at-w.ensures c.row_at-v.ensures c.in-4.is) at c.requires.1,
)

pub returns-in-4 : goal.returns-in-4
returns-in-4 t c = rw (variable_code c.requires.0 c.row_at-w.ensures c.row_at-v.ensures c.in-4.is) c.push_variable.ensures

-- ── element ──
pub expression-requires : goal.expression-requires
expression-requires t c =
    let n = (element_names c.requires.0 c.row_at-w.ensures c.in-5.is).1 in (
      omega (arith, n.earlier),
      (named c.requires.0 n, first _ (rw (element_code c.requires.0 c.row_at-w.ensures c.row_at-v-in-5.ensures c.in-5.is) at c.requires.1)),
    )

pub check_subscript-requires : goal.check_subscript-requires
check_subscript-requires t c =
    first _ (left c.expression.ensures (rw (element_code c.requires.0 c.row_at-w.ensures c.row_at-v-in-5.ensures c.in-5.is) at c.requires.1))

pub load_element-requires : goal.load_element-requires
load_element-requires t c = (
  offset_small c.requires.0 c.row_at-v-in-5.ensures (element_names c.requires.0 c.row_at-w.ensures c.in-5.is).0,
  left c.check_subscript.ensures
      (left c.expression.ensures (rw (element_code c.requires.0 c.row_at-w.ensures c.row_at-v-in-5.ensures c.in-5.is) at c.requires.1)),
)

pub returns-in-5 : goal.returns-in-5
returns-in-5 t c =
    rw (element_code c.requires.0 c.row_at-w.ensures c.row_at-v-in-5.ensures c.in-5.is)
    (and c.expression.ensures (and c.check_subscript.ensures c.load_element.ensures))

-- ── monadic ──
pub expression-requires-in-6 : goal.expression-requires-in-6
expression-requires-in-6 t c =
    let n = monadic_names c.requires.0 c.row_at-w.ensures c.in-6.is in (
      omega (arith, n.earlier),
      (named c.requires.0 n, first _ (rw (monadic_code c.requires.0 c.row_at-w.ensures c.in-6.is) at c.requires.1)),
    )

pub monadic-requires : goal.monadic-requires
monadic-requires t c = left c.expression-in-6.ensures (rw (monadic_code c.requires.0 c.row_at-w.ensures c.in-6.is) at c.requires.1)

pub returns-in-6 : goal.returns-in-6
returns-in-6 t c = rw (monadic_code c.requires.0 c.row_at-w.ensures c.in-6.is) (and c.expression-in-6.ensures c.monadic.ensures)

-- ── past the other kinds only the diadic one is left ──
pub expression-requires-in_default : goal.expression-requires-in_default
expression-requires-in_default t c =
    let k : c.row_at-w.result.kind ≡ layout.diadic = omega (arith, kind_from c.requires.0 c.row_at-w.ensures, kind_to c.requires.0 c.row_at-w.ensures) in
    let n = (diadic_names c.requires.0 c.row_at-w.ensures k).0 in (
      omega (arith, n.earlier),
      (named c.requires.0 n, first _ (rw (diadic_code c.requires.0 c.row_at-w.ensures k) at c.requires.1)),
    )

pub expression-requires-in_default-2 : goal.expression-requires-in_default-2
expression-requires-in_default-2 t c =
    let k : c.row_at-w.result.kind ≡ layout.diadic = omega (arith, kind_from c.requires.0 c.row_at-w.ensures, kind_to c.requires.0 c.row_at-w.ensures) in
    let n = (diadic_names c.requires.0 c.row_at-w.ensures k).1 in (
      omega (arith, n.earlier),
      (named c.requires.0 n, first _ (left c.expression-in_default.ensures (rw (diadic_code c.requires.0 c.row_at-w.ensures k) at c.requires.1))),
    )

pub diadic-requires : goal.diadic-requires
diadic-requires t c =
    let k : c.row_at-w.result.kind ≡ layout.diadic = omega (arith, kind_from c.requires.0 c.row_at-w.ensures, kind_to c.requires.0 c.row_at-w.ensures) in
    left c.expression-in_default-2.ensures (left c.expression-in_default.ensures (rw (diadic_code c.requires.0 c.row_at-w.ensures k) at c.requires.1))

pub returns-in_default : goal.returns-in_default
returns-in_default t c =
    let k : c.row_at-w.result.kind ≡ layout.diadic = omega (arith, kind_from c.requires.0 c.row_at-w.ensures, kind_to c.requires.0 c.row_at-w.ensures) in
    rw (diadic_code c.requires.0 c.row_at-w.ensures k) (and c.expression-in_default.ensures (and c.expression-in_default-2.ensures c.diadic.ensures))
