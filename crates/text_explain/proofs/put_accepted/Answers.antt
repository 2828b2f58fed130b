-- `text_explain::put_accepted` meets its contract: three texts, one after another.
-- Assumes nothing.
use mathlib.Core.Path.{ap, ◌∙◌}
use mathlib.Core.List.{List, ◌++◌}
use Prim.Native.Nat.{ℕ}
use Rattle.text_lines.specs.Text.{written}
use Rattle.text_buffer.specs.Buffer.{placed}
use Rattle.text_buffer.specs.BufferLaws.{then}
use Rattle.text_names.specs.Names.{names_of}
use Rattle.text_explain.specs.Explain as spec
use Rattle.text_explain.proofs.put_accepted.Goals as goal

pub returns : goal.returns
returns c =
    let x = c.args in
    let names = names_of x.source.now in
    c.lines.ensures ∙ then c.append_line-sized.new.out _ _ _ spec.names_head names c.append-headed.ensures ∙ then _ _ _ _ (written c.sizes.result) (spec.names_head ++ names) c.append_line-sized.ensures
    ∙ ap (λ (l : List ℕ). placed x.out.now 0 (l ++ (spec.names_head ++ names))) c.sizes.ensures
