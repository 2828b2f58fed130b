-- How the lent buffers are filled from the rows and the image of an accepted program. Laws; assumes nothing.
use Rattle.std.specs.Prelude.{◌≡◌, refl, List, ◌++◌, ℕ, ◌+◌, ◌-◌, ◌*◌, ◌≤◌, ◌<◌, length, take, drop, replicate}
use Rattle.std.proofs.Common.{sym, ap, ◌∙◌, arith, length-append, length-drop, get_or-take, length-take-le, ext_get_or, take_at}
use Rattle.x_program.specs.Layout.{row_words}
use Rattle.x_program.specs.Tree.{Program, data_words}
use Rattle.x_program.specs.ProgramDepth.{deepest}
use Rattle.x_program.specs.Rows.{table_of, row_count}
use Rattle.x_program.specs.TableReadBack.{Holds, some_rows_process}
use Rattle.x_program.specs.Core.{core_process}
use Rattle.x_program.specs.Sound.{Sound}
use Rattle.x_verdict.specs.Front.{Outcome, accepted, front}
use Rattle.x_verdict.proofs.Refused.{accepted_sound}
use Rattle.front_analysis.specs.Analysed.{Found}
use Rattle.translate_source.specs.Translate.{Translated, left, translated, translation, filled}
use Rattle.translate_rules.specs.ImageCode.{image}
use Rattle.translate_source.specs.TranslationRoom.{Fits, accepted_fits}

-- the first words of a table that holds rows are the rows
held : (t xs : List ℕ) (n : ℕ) → length xs ≡ n → n ≤ length t → Holds t 0 xs → take n t ≡ xs
held t xs n e l h =
    let k = length-take-le n t l in
    ext_get_or 0 (take n t) xs (k ∙ sym e) (λ i b. let b' : i < n = omega (arith, k) in let z : row_words * 0 + i ≡ i = omega arith in get_or-take n t i 0 b' ∙ (rw z at (h.at i (omega (arith, e)))))

-- rows copied, and the rest zeroed
pub filled_table : (rows table xs : List ℕ) (n : ℕ) → length xs ≡ n → n ≤ length rows → n ≤ length table → Holds rows 0 xs
    → take n (take n rows ++ drop n table) ++ replicate (length (take n rows ++ drop n table) - n) 0 ≡ filled (length table) xs
filled_table rows table xs n e r t h =
    let k = length-take-le n rows r in
    let l : length (take n rows ++ drop n table) ≡ length table = length-append (take n rows) (drop n table) ∙ omega (arith, k, length-drop n table) in
    rw (l, take_at (take n rows) (drop n table) n k, held rows xs n e r h, e) refl

-- an accepted program and its rows, with room for them and for its image
pub record Parts (rows : List ℕ) (table code tokens count words depth : ℕ) (q : Program) : Type 0 where
  pub sound : Sound q
  pub fits : Fits table code tokens q
  pub holds : Holds rows 0 (table_of q)
  pub rows_are : count ≡ row_count q
  pub words_are : words ≡ data_words q.declarations
  pub depth_is : depth ≡ deepest q.body

-- what the front end found are such parts
pub found_parts : (source rows : List ℕ) (table code tokens count words depth : ℕ) (f : Found (front source table code) rows tokens count words depth)
    → Parts rows table code tokens count words depth f.tree
found_parts source rows table code tokens count words depth f = record {
  sound = accepted_sound source table code tokens f.tree f.outcome;
  fits = accepted_fits source table code tokens f.tree f.outcome;
  holds = f.table;
  rows_are = f.rows_are;
  words_are = f.words_are;
  depth_is = f.depth_is;
}

pub some_row : (q : Program) → 0 < row_count q
unfolding row_count
some_row q = omega (arith, some_rows_process (core_process q.body))

-- an accepted program's answer and buffers, part by part
pub accepted_left : (table code : List ℕ) (tokens count words depth end : ℕ) (q : Program) (t' c' : List ℕ) → count ≡ row_count q → words ≡ data_words q.declarations → depth ≡ deepest q.body
    → end ≡ length (image q) → t' ≡ filled (length table) (table_of q) → c' ≡ filled (length code) (image q)
    → left (record { status = 0; place = 0; tokens = tokens; rows = count; «data» = words; depth = depth; code = end }) t' c' ≡ translated table code (accepted tokens q)
accepted_left table code tokens count words depth end q t' c' r w d e f g =
    λ j. left (record { status = 0; place = 0; tokens = tokens; rows = r j; «data» = w j; depth = d j; code = e j }) (f j) (g j)

pub come_to : (source table code : List ℕ) (o : Outcome) (x : Translated) → front source (length table) (length code) ≡ o → x ≡ translated table code o → x ≡ translation source table code
unfolding translation
come_to source table code o x e h = h ∙ ap (translated table code) (sym e)
