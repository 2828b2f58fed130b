-- An accepted program's table and image fit the room that its tokens ask for. Laws; assumes nothing.
use Rattle.std.specs.Prelude.{◌≡◌, refl, ℕ, suc, ◌+◌, ◌*◌, ◌≤◌, length}
use Rattle.std.proofs.Common.{sym, ap, ◌∙◌, arith}
use mathlib.Core.List.{List, [], ◌∷◌}
use Rattle.x_spelling.specs.Kinds as kind
use Rattle.x_tokens.specs.TokenList.{Entry}
use Rattle.x_grammar.specs.Grammar.{Token, mark, Expression, single, monadic, diadic, Chain, last, more, Operand, element, bracketed, Process, skip, stop, assign, assign_element, empty, braces}
use Rattle.x_grammar.specs.Grammar.{conditional, while, after_comment, Processes, only, followed, Program, program, text_expression, text_chain, text_operand, text_process, text_processes}
use Rattle.x_grammar.specs.Grammar.{text_program}
use Rattle.x_grammar.specs.Grammar as grammar
use Rattle.x_program.specs.Tree as tree
use Rattle.x_grammar.specs.RawRowCount.{few_P, few_Ss}
use Rattle.x_program.specs.Layout.{row_words, code_room}
use Rattle.x_program.specs.Rows.{row_count}
use Rattle.x_verdict.specs.Symbols.{symbols, text_of, place_of}
use Rattle.x_verdict.specs.Front.{accepted, front}
use Rattle.x_verdict.specs.VerdictExact.{accepted_is_X}
use Rattle.x_verdict.specs.Count.{few_tokens}
use Rattle.translate_rules.proofs.ImageRoom.{image_room}
use Rattle.translate_rules.specs.ImageCode.{image}
use Rattle.x_names.specs.Complaints.{of_specifications, complaints}
use Rattle.x_names.proofs.AcceptedNames.{none_right}
use Rattle.x_names.proofs.ResolvedRows.{count_P}
use Rattle.x_names.specs.Scope.{Meaning, unknown, variable, array, constant, Scope, empty_scope, meaning_of, declare_all}
use Rattle.x_names.proofs.Specified.{count_declared}
use Rattle.x_names.specs.Resolve as resolve
use Rattle.x_names.specs.Resolve.{value, element_of, assigned, element_assigned}
use Rattle.translate_rules.specs.TokenCount.{tokens_of, process_tokens, list_tokens}

-- a resolved part has no more tokens, as the rules count them, than its text
value_tokens : (m : Meaning) → tokens_of (value m) ≡ 1
value_tokens unknown = refl
value_tokens (variable v) = refl
value_tokens (array a) = refl
value_tokens (constant w) = refl

element_tokens : (m : Meaning) (e : tree.Expression) → tokens_of (element_of m e) ≤ tokens_of e + 3
element_tokens unknown e = omega arith
element_tokens (variable v) e = omega arith
element_tokens (array a) e = omega arith
element_tokens (constant w) e = omega arith

assigned_tokens : (m : Meaning) (e : tree.Expression) → process_tokens (assigned m e) ≤ tokens_of e + 2
assigned_tokens unknown e = omega arith
assigned_tokens (variable v) e = omega arith
assigned_tokens (array a) e = omega arith
assigned_tokens (constant w) e = omega arith

stored_tokens : (m : Meaning) (i e : tree.Expression) → process_tokens (element_assigned m i e) ≤ tokens_of i + tokens_of e + 4
stored_tokens unknown i e = omega arith
stored_tokens (variable v) i e = omega arith
stored_tokens (array a) i e = omega arith
stored_tokens (constant w) i e = omega arith

module _ (text : ℕ → List ℕ) (s : Scope) where
  mutual
    tokens_E : (e : Expression) (w : List Token) → tokens_of (resolve.expression text e s) + length w ≤ length (text_expression e w)
    tokens_E (single a) w = tokens_O a w
    tokens_E (monadic o a) w = omega (arith, tokens_O a w)
    tokens_E (diadic o a c) w = omega (arith, tokens_O a (mark o ∷ text_chain c o w), tokens_C c o w)

    tokens_C : (c : Chain) (o : ℕ) (w : List Token) → tokens_of (resolve.chain text c o s) + length w ≤ length (text_chain c o w)
    tokens_C (last a) o w = tokens_O a w
    tokens_C (more a c) o w = omega (arith, tokens_O a (mark o ∷ text_chain c o w), tokens_C c o w)

    tokens_O : (a : Operand) (w : List Token) → tokens_of (resolve.operand text a s) + length w ≤ length (text_operand a w)
    tokens_O (grammar.constant v) w = omega arith
    tokens_O (grammar.variable n) w = omega (arith, value_tokens (meaning_of text s n))
    tokens_O (element n e) w = omega (arith, element_tokens (meaning_of text s n) (resolve.expression text e s), tokens_E e (mark kind.close_subscript ∷ w))
    tokens_O (bracketed e) w = omega (arith, tokens_E e (mark kind.close_bracket ∷ w))

  mutual
    tokens_P : (p : Process) (w : List Token) → process_tokens (resolve.process text p s) + length w ≤ length (text_process p w)
    tokens_P skip w = omega arith
    tokens_P stop w = omega arith
    tokens_P (assign n e) w = omega (arith, assigned_tokens (meaning_of text s n) (resolve.expression text e s), tokens_E e w)
    tokens_P (assign_element n i e) w =
        omega (
          arith,
          stored_tokens (meaning_of text s n) (resolve.expression text i s) (resolve.expression text e s),
          tokens_E i (mark kind.close_subscript ∷ mark kind.becomes ∷ text_expression e w),
          tokens_E e w,
        )
    tokens_P empty w = omega arith
    tokens_P (braces ps) w = omega (arith, tokens_L ps (mark kind.close_brace ∷ w))
    tokens_P (conditional e p q) w =
        omega (arith, tokens_E e (mark kind.then ∷ text_process p (mark kind.else ∷ text_process q w)), tokens_P p (mark kind.else ∷ text_process q w), tokens_P q w)
    tokens_P (while e p) w = omega (arith, tokens_E e (mark kind.do_word ∷ text_process p w), tokens_P p w)
    tokens_P (after_comment p) w = omega (arith, tokens_P p w)

    tokens_L : (ps : Processes) (w : List Token) → list_tokens (resolve.processes text ps s) + length w ≤ length (text_processes ps w)
    tokens_L (only p) w = omega (arith, tokens_P p w)
    tokens_L (followed p ps) w = omega (arith, tokens_P p (mark kind.semicolon ∷ text_processes ps w), tokens_L ps w)

module _ (text : ℕ → List ℕ) where
  -- no more rows than tokens, and the image's own tokens are among them
  pub rows_and_tokens : (place : ℕ → ℕ) (p : Program) → complaints text place p ≡ []
      → (row_count (resolve.resolve text p) ≤ length (text_program p)) × (process_tokens (resolve.resolve text p).body ≤ length (text_program p))
  unfolding row_count
  rows_and_tokens place (program ds p) h =
      let s = declare_all text ds empty_scope in
      let c = count_P text place s p (none_right (of_specifications text place ds empty_scope) _ h) in
      let n = count_declared text ds empty_scope in
      (omega (arith, few_P p [], few_Ss ds (text_process p [])), omega (arith, tokens_P text s p [], few_Ss ds (text_process p [])))

-- an accepted source's table and image fit the lent buffers, and the image the machine's code
pub record Fits (table code : ℕ) (n : ℕ) (q : tree.Program) : Type 0 where
  pub rows : row_count q ≤ n
  pub tokens : process_tokens q.body ≤ n
  pub few : n ≤ 1024
  pub in_table : row_words * row_count q ≤ table
  pub in_code : length (image q) ≤ code
  pub small : length (image q) ≤ code_room 1024

length_symbols : (ts : List Entry) (i : ℕ) → length (symbols ts i) ≡ length ts
unfolding symbols
length_symbols [] i = refl
length_symbols (t ∷ ts) i = ap suc (length_symbols ts (suc i))

pub accepted_fits : (source : List ℕ) (table code n : ℕ) (q : tree.Program) → front source table code ≡ accepted n q → Fits table code n q
accepted_fits source table code n q h =
    let a = accepted_is_X source table code n q h in
    let x = a.is_X in
    let b = rows_and_tokens (text_of source a.ts) (place_of a.ts) a.tree x.nameable in
    let l : length (text_program a.tree) ≡ n = ap length (sym x.grammatical) ∙ length_symbols a.ts 0 ∙ sym a.count in
    let t : length a.ts ≤ 1024 = few_tokens source a.ts x.tokens in
    let r : row_count q ≤ n = rw a.program (omega (arith, b.0)) in
    let k : process_tokens q.body ≤ n = rw a.program (omega (arith, b.1)) in
    record {
      rows = r;
      tokens = k;
      few = omega (arith, a.count);
      in_table = omega (arith, a.room.rows, a.count);
      in_code = omega (arith, image_room q, a.room.image, a.count);
      small = omega (arith, image_room q, a.count);
    }
