-- `text_lines::Line::hexadecimal` meets its contract: four bytes were added, one by one.
-- Assumes nothing.
use mathlib.Core.Path.{◌≡◌}
use mathlib.Core.List.{[], ◌∷◌, ◌++◌}
use Rattle.text_lines.specs.Text.{written, fitted}
use Rattle.text_lines.specs.LineLaws.{joined}
use Rattle.text_lines.proofs.Line.hexadecimal.Goals as goal

pub returns : goal.returns
returns c =
    let digit3 = c.digit-3 in let put2 = c.put-two in let digit2 = c.digit-2 in
    let put = c.put-one in let digit = c.digit in
    let l = c.args.self in
    let d1 = digit.result in
    let d2 = digit2.result in
    let d3 = digit3.result in
    let d4 = c.digit-4.result in
    let two = joined (written l) (d1 ∷ []) (d2 ∷ []) _ _ put.ensures put2.ensures in
    let three = joined (written l) (d1 ∷ d2 ∷ []) (d3 ∷ []) _ _ two c.put-three.ensures in
    let four : written c.put.result ≡ fitted (written l ++ (d1 ∷ d2 ∷ d3 ∷ d4 ∷ [])) =
    joined (written l) (d1 ∷ d2 ∷ d3 ∷ []) (d4 ∷ []) _ _ three c.put.ensures in
    rw (← digit.ensures, ← digit2.ensures, ← digit3.ensures, ← c.digit-4.ensures) four
