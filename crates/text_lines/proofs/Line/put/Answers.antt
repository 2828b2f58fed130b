-- `text_lines::Line::put` meets its contract: the byte is stored behind the others where there is room, else nothing changes.
-- Assumes nothing.
use mathlib.Core.Path.{◌≡◌}
use mathlib.Core.List.{[], ◌∷◌}
use lib.ListN.{length}
use borrow.Author.Rules.{rules}
use Rattle.text_lines.specs.LineLaws.{put_fits, put_full}
use Rattle.text_lines.proofs.Line.put.Goals as goal

pub returns-then-self-lt128 : goal.returns-then-self-lt128
returns-then-self-lt128 c =
    let x = c.args in
    let e : length x.self.bytes ≡ 128 = search rules in
    put_fits x.self.bytes x.self.length x.b e c.if-self-lt128.true

pub returns-else-self-lt128 : goal.returns-else-self-lt128
returns-else-self-lt128 c =
    let x = c.args in
    let e : length x.self.bytes ≡ 128 = search rules in
    put_full x.self.bytes x.self.length (x.b ∷ []) e c.if-self-lt128.false
