-- The length of a tree's rows, and rows written after rows. Laws; rests on RawRows.
use Rattle.std.specs.Prelude.{◌≡◌, refl, List, [], ◌∷◌, ◌++◌, ℕ, suc, ◌+◌, ◌*◌, length}
use Rattle.std.proofs.Common.{ap, ◌∙◌, arith, length-append}
use Rattle.std.proofs.lemmas.List.Edits.{sets}
use Rattle.x_grammar.specs.Grammar.{Expression, single, monadic, diadic, Chain, last, more, Operand, constant, variable, element, bracketed, Process, skip, stop, assign, assign_element}
use Rattle.x_grammar.specs.Grammar.{empty, braces, conditional, while, after_comment, Processes, only, followed}
use Rattle.x_grammar.specs.RawRows.{count_expression, count_chain, count_operand, count_process, count_processes, rows_expression, rows_chain, rows_operand, rows_process, rows_processes}
use Rattle.x_program.specs.Layout.{row_words}

sets_append : (xs l : List ℕ) (i : ℕ) (ys : List ℕ) → sets (sets l i xs) (i + length xs) ys ≡ sets l i (xs ++ ys)
sets_append [] l i ys = ap (λ (n : ℕ). sets l n ys) (omega arith)
sets_append (x ∷ xs) l i ys = ap (λ (n : ℕ). sets (sets l i (x ∷ xs)) n ys) (omega arith) ∙ sets_append xs _ (suc i) ys

-- c rows xs at row n, and then rows ys
pub sets_rows : (xs l : List ℕ) (n c m : ℕ) (ys : List ℕ) → length xs ≡ row_words * c → n + c ≡ m → sets (sets l (row_words * n) xs) (row_words * m) ys ≡ sets l (row_words * n) (xs ++ ys)
sets_rows xs l n c m ys e h = ap (λ (k : ℕ). sets (sets l (row_words * n) xs) k ys) (omega arith) ∙ sets_append xs l (row_words * n) ys

mutual
  unfolding count_expression rows_expression

  pub length_expression : (e : Expression) (n : ℕ) → length (rows_expression e n) ≡ row_words * count_expression e
  length_expression (single a) n = length_operand a n
  length_expression (monadic o a) n = let x = length_operand a n in simp length-append (omega arith)
  length_expression (diadic o a c) n = let x = length_operand a n in let y = length_chain c o (n + count_operand a) in simp length-append (omega arith)

  pub length_chain : (c : Chain) (o n : ℕ) → length (rows_chain c o n) ≡ row_words * count_chain c
  length_chain (last a) o n = length_operand a n
  length_chain (more a c) o n = let x = length_operand a n in let y = length_chain c o (n + count_operand a) in simp length-append (omega arith)

  pub length_operand : (a : Operand) (n : ℕ) → length (rows_operand a n) ≡ row_words * count_operand a
  length_operand (constant v) n = refl
  length_operand (variable x) n = refl
  length_operand (element x e) n = let y = length_expression e n in simp length-append (omega arith)
  length_operand (bracketed e) n = length_expression e n

mutual
  unfolding count_process rows_process

  pub length_process : (p : Process) (n : ℕ) → length (rows_process p n) ≡ row_words * count_process p
  length_process skip n = refl
  length_process stop n = refl
  length_process (assign x e) n = let y = length_expression e n in simp length-append (omega arith)
  length_process (assign_element x s e) n = let y = length_expression s n in let z = length_expression e (n + count_expression s) in simp length-append (omega arith)
  length_process empty n = refl
  length_process (braces ps) n = length_processes ps n
  length_process (conditional e p q) n =
      let x = length_expression e n in let y = length_process p (n + count_expression e) in let z = length_process q (n + count_expression e + count_process p) in
      simp length-append (omega arith)
  length_process (while e p) n = let x = length_expression e n in let y = length_process p (n + count_expression e) in simp length-append (omega arith)
  length_process (after_comment p) n = length_process p n

  pub length_processes : (ps : Processes) (n : ℕ) → length (rows_processes ps n) ≡ row_words * count_processes ps
  length_processes (only p) n = length_process p n
  length_processes (followed p ps) n = let x = length_process p n in let y = length_processes ps (n + count_process p) in simp length-append (omega arith)
