-- `arm_state::Core::load` meets its contract: what `align` and `word_at` found selects the definition's case; each answer is a chain of their equations.
-- Rests on the definitions that its contract cites; assumes nothing.
use Rattle.std.specs.Prelude.{ℕ, Option}
use Rattle.arm_state.specs.Lookup.{loads_found, load_found}
use Rattle.arm_state.specs.MachineCore.{whole}
use Rattle.arm_state.specs.Effects.{done, after}
use Rattle.arm_state.specs.declared.Stepped.{Stepped}
use mathlib.Core.Path.{sym, ap, ◌∙◌}
use Rattle.arm_state.specs.Effects.{load, load_at}
use Rattle.arm_state.proofs.Core.load.Goals as goal

pub returns-in_default : goal.returns-in_default
unfolding load
returns-in_default c =
    let align = c.align in let x = c.args in
    ap (λ (s : Stepped). after s x.memory.now) c.fault.ensures
    ∙ ap (λ (a : Option ℕ). (load_at x.code.now x.memory.now (whole x.self) x.d a).after) (sym c.in_default.is ∙ align.ensures)

pub returns-in_default-word_at : goal.returns-in_default-word_at
unfolding load
returns-in_default-word_at c =
    let word_at = c.word_at in let align = c.align in let x = c.args in
    ap (λ (s : Stepped). after s x.memory.now) (c.fault-in_default-word_at.ensures ∙ ap (loads_found _ _) (sym c.in_default-word_at.is ∙ word_at.ensures)) ∙ load_found _ _ _ _ _
    ∙ ap (λ (a : Option ℕ). (load_at x.code.now x.memory.now (whole x.self) x.d a).after) (sym c.in-Some.is ∙ align.ensures)

pub returns : goal.returns
unfolding load
returns c =
    let word_at = c.word_at in
    let align = c.align in
    let x = c.args in
    ap (λ (s : Stepped). after s x.memory.now) (ap done c.takes.ensures ∙ ap (loads_found _ _) (sym c.in-Some-word_at.is ∙ word_at.ensures))
    ∙ load_found _ _ _ _ _ ∙ ap (λ (a : Option ℕ). (load_at x.code.now x.memory.now (whole x.self) x.d a).after) (sym c.in-Some.is ∙ align.ensures)
