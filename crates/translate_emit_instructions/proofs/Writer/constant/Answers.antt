-- `translate_emit_instructions::Writer::constant` meets its contract, by the loader's three cases; that the span's byte and count fit their fields is `span_byte` and `trailing_lt`.
-- Assumes nothing.
use native.Mathlib.Omega.{arith}
use mathlib.Core.Path.{◌≡◌, ap, ◌∙◌}
use Rattle.std.specs.Prelude.{ℕ, ◌/◌, ◌%◌, ◌<◌, [], ◌∷◌}
use Rattle.std.specs.Int.{w32, to_be_bytes}
use Rattle.translate_rules.specs.CodeLaws.{constant_span, constant_long}
use Rattle.translate_rules.specs.Bits.{span_byte}
use Rattle.translate_emit_instructions.proofs.Writer.constant.Goals as goal

-- a word's four bytes, the highest first
higher_first : (w : ℕ) → w < 4294967296 → to_be_bytes w32 w ≡ w / 16777216 ∷ w / 65536 % 256 ∷ w / 256 % 256 ∷ w % 256 ∷ []
higher_first w l = ap (λ (x : ℕ). x ∷ w / 65536 % 256 ∷ w / 256 % 256 ∷ w % 256 ∷ []) (omega arith)

pub overflow_cast-w-then-w-below-ge24 : goal.overflow_cast-w-then-w-below-ge24
overflow_cast-w-then-w-below-ge24 c = record { fits = span_byte c.args.w (omega arith) (omega arith) c.if-w-below-ge24.true }

pub put_all-requires : goal.put_all-requires
put_all-requires c = rw (constant_span _ _ (omega arith) c.if-w-below-ge24.true) at c.requires

pub returns-then-w-below-ge24 : goal.returns-then-w-below-ge24
returns-then-w-below-ge24 c = rw (constant_span _ _ (omega arith) c.if-w-below-ge24.true) c.put_all.ensures

pub put_all-requires-2 : goal.put_all-requires-2
put_all-requires-2 c =
    rw (c.to_be_bytes.ensures ∙ higher_first c.args.w (omega arith))
    (rw (constant_long _ _ (omega arith) c.if-w-below-ge24.false) at c.requires)

pub returns : goal.returns
returns c =
    rw (constant_long _ _ (omega arith) c.if-w-below-ge24.false)
    (rw (c.to_be_bytes.ensures ∙ higher_first c.args.w (omega arith)) at c.put_all-2.ensures)
