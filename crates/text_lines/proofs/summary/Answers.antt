-- `text_lines::summary` meets its contract: seven entries were added to an empty line, and they fit.
-- Assumes nothing.
use mathlib.Core.Path.{◌∙◌, ap}
use mathlib.Core.List.{List, ◌++◌}
use Prim.Native.Nat.{ℕ}
use Rattle.text_lines.specs.Text as spec
use Rattle.text_lines.specs.Text.{fitted, summary}
use Rattle.arm_word.specs.Ascii.{ascii}
use Rattle.text_lines.specs.LineLaws.{joined, summary_fits}
use Rattle.text_lines.proofs.summary.Goals as goal

pub returns : goal.returns
unfolding summary
returns c =
    let n = c.args.n in
    let e1 = spec.entry (ascii "status=") n.status in
    let e2 = spec.entry (ascii "place=") n.place in
    let e3 = spec.entry (ascii "tokens=") n.tokens in
    let e4 = spec.entry (ascii "rows=") n.rows in
    let e5 = spec.entry (ascii "data=") n.data in
    let e6 = spec.entry (ascii "depth=") n.depth in
    let e7 = spec.entry (ascii "code=") n.code in
    let s6 = joined _ e6 e7 _ _ c.entry-6.ensures c.entry-7.ensures in
    let s5 = joined _ e5 (e6 ++ e7) _ _ c.entry-5.ensures s6 in
    let s4 = joined _ e4 (e5 ++ (e6 ++ e7)) _ _ c.entry-4.ensures s5 in
    let s3 = joined _ e3 (e4 ++ (e5 ++ (e6 ++ e7))) _ _ c.entry-3.ensures s4 in
    let s2 = joined _ e2 (e3 ++ (e4 ++ (e5 ++ (e6 ++ e7)))) _ _ c.entry-2.ensures s3 in
    joined _ e1 (e2 ++ (e3 ++ (e4 ++ (e5 ++ (e6 ++ e7))))) _ _ c.entry.ensures s2
    ∙ ap (λ (l : List ℕ). fitted (l ++ summary n.status n.place n.tokens n.rows n.data n.depth n.code)) c.empty.ensures
    ∙ summary_fits n.status n.place n.tokens n.rows n.data n.depth n.code
