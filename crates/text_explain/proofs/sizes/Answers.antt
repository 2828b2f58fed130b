-- `text_explain::sizes` meets its contract: five texts were added to an empty line, and they fit.
-- Assumes nothing.
use mathlib.Core.Path.{ap, ◌∙◌}
use mathlib.Core.List.{List, ◌++◌}
use Prim.Native.Nat.{ℕ}
use Rattle.arm_word.specs.Ascii.{ascii}
use Rattle.text_lines.specs.Text.{written, fitted, entry}
use Rattle.text_lines.specs.LineLaws.{joined}
use Rattle.arm_state.specs.State.{needed}
use Rattle.text_explain.specs.Explain as spec
use Rattle.text_explain.specs.ExplainLaws.{sizes_fit}
use Rattle.text_explain.proofs.sizes.Goals as goal

pub returns : goal.returns
unfolding spec.sizes
returns c =
    let t = c.args.t in
    let w0 = written c.empty.result in
    let w1 = written c.put_all.result in
    let w2 = written c.entry.result in
    let w3 = written c.entry-2.result in
    let w4 = written c.entry-3.result in
    let e2 = entry (ascii "tokens: ") t.tokens in
    let e3 = entry (ascii "data words: ") t.data in
    let e4 = entry (ascii "needed words: ") (needed t.data t.depth) in
    let e5 = entry (ascii "image bytes: ") t.code in
    let s4 = joined w3 e4 e5 w4 _ c.entry-3.ensures c.entry-4.ensures in
    let s3 = joined w2 e3 (e4 ++ e5) w3 _ c.entry-2.ensures s4 in
    let s2 = joined w1 e2 (e3 ++ (e4 ++ e5)) w2 _ c.entry.ensures s3 in
    let s1 = joined w0 (ascii "accepted\n") (e2 ++ (e3 ++ (e4 ++ e5))) w1 _ c.put_all.ensures s2 in
    s1 ∙ ap (λ (l : List ℕ). fitted (l ++ spec.sizes t)) c.empty.ensures ∙ sizes_fit t
