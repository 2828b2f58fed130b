-- `text_disassembly::line` meets its contract: what stands in the line was added part by part, by what the decoded halfwords are.
-- Assumes nothing.
use Rattle.std.specs.Prelude.{Option}
use Rattle.arm_encoding.specs.declared.Instr.{Instr}
use mathlib.Core.Path.{◌≡◌, sym, ap, ◌∙◌}
use mathlib.Core.List.{List, [], ◌++◌, append_assoc}
use Prim.Native.Nat.{ℕ}
use Rattle.arm_word.specs.Ascii.{ascii}
use Rattle.text_lines.specs.Text.{written, fitted}
use Rattle.text_lines.specs.LineLaws.{joined}
use Rattle.text_mnemonic.specs.Mnemonic.{instruction}
use Rattle.text_disassembly.specs.Disassembly as spec
use Rattle.text_disassembly.specs.Disassembly.{line}
use Rattle.text_disassembly.specs.LineReading.{line_fits}
use Rattle.text_disassembly.proofs.line.Goals as goal

decoded : (at first h : ℕ) {d e : Option Instr} →
    d ≡ e →
    fitted (spec.located at first ++ (spec.after at first h d ++ ascii "\n")) ≡ fitted (spec.located at first ++ (spec.after at first h e ++ ascii "\n"))
decoded at first h = ap (λ (k : Option Instr). fitted (spec.located at first ++ (spec.after at first h k ++ ascii "\n")))

pub returns-in-None : goal.returns-in-None
unfolding line
returns-in-None c =
    let x = c.args in
    joined [] (spec.located x.at x.first) (ascii "\n") _ _ c.located-head.ensures c.put.ensures
    ∙ decoded x.at x.first x.second (sym c.in-None.is ∙ c.decode.ensures)
    ∙ line_fits x.at x.first x.second

pub returns-in-Some : goal.returns-in-Some
unfolding line
returns-in-Some c =
    let x = c.args in
    let head = written c.located-head.result in
    let halves = written c.whole-halves.result in
    let spaced = written c.put-in-Some.result in
    let start = spec.located x.at x.first in
    let more = spec.second x.first x.second in
    let i = c.in-Some.i in
    let shown = instruction x.at i in
    let s1 = joined spaced shown (ascii "\n") _ _ c.instruction.ensures c.put-in-Some-2.ensures in
    let s2 = joined halves (ascii " ") (shown ++ ascii "\n") spaced _ c.put-in-Some.ensures s1 in
    let s3 = joined head more (ascii " " ++ (shown ++ ascii "\n")) halves _ c.whole-halves.ensures s2 in
    joined [] start (more ++ (ascii " " ++ (shown ++ ascii "\n"))) head _ c.located-head.ensures s3
    ∙ ap (λ (r : List ℕ). fitted (start ++ r)) (sym (append_assoc more (ascii " " ++ shown) (ascii "\n")))
    ∙ decoded x.at x.first x.second (sym c.in-Some.is ∙ c.decode.ensures)
    ∙ line_fits x.at x.first x.second
