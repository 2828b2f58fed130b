-- `translate_emit_instructions::Writer::put_all` meets its contract: past those that are written there is room for the next one (`left`, `first`), and with it one more is written (`and`).
-- Assumes nothing.
use Rattle.std.proofs.Common.{◌≡◌, ◌++◌, List, [], ◌∷◌, ℕ, suc, ◌+◌, ◌<◌, length, take, drop, get_or, ap, subst, sym, ◌∙◌, arith, add-one, take-suc, drop-cons}
use Rattle.std.proofs.lemmas.List.{take-append-drop}
use Rattle.arm_encoding.specs.declared.Instr.{Instr}
use Rattle.translate_emit_instructions.specs.declared.Writer.{Writer}
use Rattle.translate_emit_instructions.specs.Write.{Fits, Writes, first, nothing, left, and}
use Rattle.translate_emit_instructions.proofs.Writer.put_all.Goals as goal

module _ (xs : List Instr) (k : ℕ) (d : Instr) (h : k < length xs) {w w₁ : Writer} (x : Writes w (take k xs) w₁) where
  around : xs ≡ take k xs ++ (get_or xs k d ∷ drop (suc k) xs)
  around = sym (take-append-drop k xs) ∙ ap (λ (ys : List Instr). take k xs ++ ys) (drop-cons xs k d h)

  next_fits : Fits w xs → Fits w₁ (get_or xs k d ∷ [])
  next_fits r = first (drop (suc k) xs) (left x (subst (Fits w) around r))

  one_more : {w₂ : Writer} → Writes w₁ (get_or xs k d ∷ []) w₂ → Writes w (take (k + 1) xs) w₂
  one_more y = rw (add-one, take-suc xs k d h) (and x y)

pub loop-i-init : goal.loop-i-init
loop-i-init c = nothing

pub put-requires : goal.put-requires
put-requires c = next_fits c.args.instructions.now c.loop-i.i-index _ (omega arith) c.loop-i.invariant c.requires

pub loop-i-preserved : goal.loop-i-preserved
loop-i-preserved c = one_more c.args.instructions.now c.loop-i.i-index _ (omega arith) c.loop-i.invariant c.put.ensures
