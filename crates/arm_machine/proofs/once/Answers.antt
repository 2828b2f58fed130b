-- `arm_machine::once` meets its contract: what `fetch` and `decode` answered selects the definition's case.
-- Rests on the definitions that its contract cites; assumes nothing.
use mathlib.Core.Path.{sym, ap, ◌∙◌}
use Rattle.arm_state.specs.declared.Stepped.{Stepped}
use Rattle.arm_machine.specs.Step.{once_of, decoded, fetched}
use Rattle.arm_state.specs.MachineCore.{whole}
use Rattle.arm_state.specs.Effects.{after}
use Rattle.std.specs.Prelude.{ℕ, Option}
use Rattle.arm_encoding.specs.declared.Instr.{Instr}
use Rattle.arm_machine.proofs.once.Goals as goal

pub returns-in_default : goal.returns-in_default
unfolding once_of
returns-in_default c =
    let fetch = c.fetch in let x = c.args in
    ap (λ (s : Stepped). after s x.memory.now) c.fault.ensures
    ∙ ap (λ (f : Option (ℕ × ℕ)). (fetched x.code.now x.memory.now (whole x.core) f).after) (sym c.in_default.is ∙ fetch.ensures)

pub returns-in_default-decode : goal.returns-in_default-decode
unfolding once_of
returns-in_default-decode c =
    let decode = c.decode in let fetch = c.fetch in let x = c.args in
    ap (λ (s : Stepped). after s x.memory.now) c.unlisted.ensures
    ∙ ap (λ (d : Option Instr). (decoded x.code.now x.memory.now (whole x.core) c.in-Some.h c.in-Some.k d).after) (sym c.in_default-decode.is ∙ decode.ensures)
    ∙ ap (λ (f : Option (ℕ × ℕ)). (fetched x.code.now x.memory.now (whole x.core) f).after) (sym c.in-Some.is ∙ fetch.ensures)

pub returns : goal.returns
unfolding once_of
returns c =
    let decode = c.decode in
    let fetch = c.fetch in
    let x = c.args in c.execute.ensures
    ∙ ap (λ (d : Option Instr). (decoded x.code.now x.memory.now (whole x.core) c.in-Some.h c.in-Some.k d).after) (sym c.in-Some-decode.is ∙ decode.ensures)
    ∙ ap (λ (f : Option (ℕ × ℕ)). (fetched x.code.now x.memory.now (whole x.core) f).after) (sym c.in-Some.is ∙ fetch.ensures)
