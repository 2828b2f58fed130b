-- `text_lines::Line::put_all` meets its contract: byte by byte.
use Prim.Native.Nat.{ℕ, ◌<◌}
use mathlib.Core.Path.{◌≡◌, sym, ap, ◌∙◌}
use mathlib.Core.List.{List, [], ◌∷◌, ◌++◌}
use native.Mathlib.Omega.{arith}
use native.Mathlib.Numerals.{add-one}
use lib.ListN.{length, take, get_or}
use lib.Seq.{take-suc}
use borrow.Author.Rules.{rules}
use Rattle.text_lines.specs.Text.{written, fitted}
use Rattle.text_lines.specs.LineLaws.{joined, put_none}
use Rattle.text_lines.proofs.Line.put_all.Goals as goal

pub loop-b-init : goal.loop-b-init
loop-b-init c =
    let x = c.args in
    let e : length x.self.bytes ≡ 128 = search rules in
    put_none x.self.bytes x.self.length e

pub loop-b-preserved : goal.loop-b-preserved
loop-b-preserved c =
    let l = written c.args.self in
    let s = c.args.s.now in
    let i = c.loop-b.b-index in
    let h : i < length s = omega arith in
    joined l (take i s) (get_or s i 0 ∷ []) _ _ c.loop-b.invariant c.put-line.ensures
    ∙ ap (λ (r : List ℕ). fitted (l ++ r)) (rw add-one (sym (take-suc s i 0 h)))
