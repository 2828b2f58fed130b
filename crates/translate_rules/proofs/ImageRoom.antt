-- The image fits its room, 48 x tokens + 256 bytes: at most four bytes an instruction, at most twelve instructions a token. Laws; they rest on ImageCode and TokenCount.
use Rattle.std.specs.Prelude.{Bool, true, false, List, [], ◌∷◌, ◌++◌, ℕ, ◌*◌, ◌≤◌, length, eqb, ltb}
use Rattle.std.proofs.Common.{arith, length-append}
use Rattle.arm_word.specs.Choice.{pick}
use Rattle.x_program.specs.Layout.{code_room}
use Rattle.arm_encoding.specs.Encoding.{encode_of}
use Rattle.arm_encoding.specs.EncodingBytes.{halfword_bytes, encoded_bytes}
use Rattle.arm_encoding.specs.declared.Instr.{Instr}
use Rattle.arm_encoding.specs.declared.Instr.TheVariants.{Svc}
use Rattle.x_program.specs.Tree as tree
use Rattle.x_program.specs.Tree.{Monadic, negate, Diadic, plus, minus, times, bitwise_and, bitwise_or, bitwise_xor, right, left, equal, unequal, less, at_most, greater, at_least}
use Rattle.x_program.specs.Core.{core, core_process, core_list}
use Rattle.translate_rules.specs.InstructionBytes.{bytes_of, bytes, size}
use Rattle.translate_rules.specs.Constant.{spans_byte, load_constant}
use Rattle.translate_rules.specs.Blocks.{push_constant, push_variable, check_subscript, load_element, work_monadic_code, less_than, far_shift, diadic_instructions, work_diadic_code}
use Rattle.translate_rules.specs.Blocks.{assign_variable}
use Rattle.translate_rules.specs.Blocks.{store_element, take_condition}
use Rattle.translate_rules.specs.ImageCode.{expression_code, choice_code, repeat_code, process_code, image_code, image}
use Rattle.translate_rules.specs.CodeLaws.{list_code}
use Rattle.translate_rules.specs.TokenCount.{tokens_of, process_tokens, list_tokens}

at_most_four : (a b : Bool) (x y : ℕ) → length (pick a [] (pick b (halfword_bytes x) (halfword_bytes x ++ halfword_bytes y))) ≤ 4
at_most_four true b x y = omega arith
at_most_four false true x y = omega arith
at_most_four false false x y = omega arith

pub size_limit : (is : List Instr) → size is ≤ 4 * length is
unfolding size bytes bytes_of encoded_bytes
size_limit [] = omega arith
size_limit (i ∷ is) =
    omega (arith, size_limit is, length-append (bytes_of i) (bytes is), at_most_four (eqb (encode_of i).count 0) (eqb (encode_of i).count 1) (encode_of i).first (encode_of i).second)

-- ── instructions of a block ──

longest : (n : ℕ) (b : Bool) (xs ys : List Instr) → length xs ≤ n → length ys ≤ n → length (pick b xs ys) ≤ n
longest n true xs ys h g = h
longest n false xs ys h g = g

constant_length : (d w : ℕ) → length (load_constant d w) ≤ 7
unfolding load_constant
constant_length d w = longest 7 (ltb w 256) _ _ (omega arith) (longest 7 (spans_byte w) _ _ (omega arith) (omega arith))

diadic_length : (o : Diadic) → length (diadic_instructions o) ≤ 8
unfolding less_than far_shift
diadic_length plus = omega arith
diadic_length minus = omega arith
diadic_length times = omega arith
diadic_length bitwise_and = omega arith
diadic_length bitwise_or = omega arith
diadic_length bitwise_xor = omega arith
diadic_length right = omega arith
diadic_length left = omega arith
diadic_length equal = omega arith
diadic_length unequal = omega arith
diadic_length less = omega arith
diadic_length at_most = omega arith
diadic_length greater = omega arith
diadic_length at_least = omega arith

-- what each block takes, at most
record Lengths (n o : ℕ) (m : Monadic) (d : Diadic) : Type 0 where
  of_constant : length (push_constant n) ≤ 9
  of_variable : length (push_variable o) ≤ 10
  of_check : length (check_subscript n) ≤ 15
  of_load : length (load_element o) ≤ 12
  of_monadic : length (work_monadic_code m) ≤ 3
  of_diadic : length (work_diadic_code d) ≤ 12
  of_assign : length (assign_variable o) ≤ 10
  of_store : length (store_element o) ≤ 13

lengths : (n o : ℕ) (m : Monadic) (d : Diadic) → Lengths n o m d
unfolding push_constant push_variable check_subscript load_element work_monadic_code work_diadic_code assign_variable store_element
lengths n o m d =
    let x = constant_length 0 n in
    let y = constant_length 1 (4 * o) in
    let z = constant_length 1 n in
    let u = constant_length 2 (4 * o) in
    let v = diadic_length d in
    record {
      of_constant = simp length-append (omega arith);
      of_variable = simp length-append (omega arith);
      of_check = simp length-append (omega arith);
      of_load = simp length-append (omega arith);
      of_monadic = omega arith;
      of_diadic = simp length-append (omega arith);
      of_assign = simp length-append (omega arith);
      of_store = simp length-append (omega arith);
    }

-- ── instructions of a tree ──

pub expression_room : (e : tree.Expression) → length (expression_code (core e)) ≤ 12 * tokens_of e
unfolding expression_code
expression_room (tree.constant w) = omega (arith, lengths w 0 negate plus)
expression_room (tree.variable v) = omega (arith, lengths 0 v.offset negate plus)
expression_room (tree.element a e) = simp length-append (omega (arith, lengths a.length a.offset negate plus, expression_room e))
expression_room (tree.monadic o e) = simp length-append (omega (arith, lengths 0 0 o plus, expression_room e))
expression_room (tree.diadic o e f) = simp length-append (omega (arith, lengths 0 0 negate o, expression_room e, expression_room f))
expression_room (tree.bracket e) = omega (arith, expression_room e)

mutual
  unfolding process_code choice_code repeat_code take_condition

  pub process_room : (p : tree.Process) → length (process_code (core_process p)) ≤ 12 * process_tokens p
  process_room tree.skip = omega arith
  process_room tree.stop = omega arith
  process_room (tree.assign v e) = simp length-append (omega (arith, lengths 0 v.offset negate plus, expression_room e))
  process_room (tree.assign_element a s e) =
      simp length-append (omega (arith, lengths a.length a.offset negate plus, expression_room s, expression_room e))
  process_room (tree.braces ps) = omega (arith, list_room ps)
  process_room (tree.conditional e p q) = simp length-append (omega (arith, expression_room e, process_room p, process_room q))
  process_room (tree.loop e p) = simp length-append (omega (arith, expression_room e, process_room p))

  list_room : (ps : tree.Processes) → length (process_code (core_list ps)) ≤ 12 * list_tokens ps
  list_room tree.none = omega arith
  list_room (tree.also p ps) = rw (list_code p ps) (simp length-append (omega (arith, process_room p, list_room ps)))

-- The image: "inside 48 x tokens + 256 bytes"
pub image_room : (p : tree.Program) → length (image p) ≤ code_room (process_tokens p.body)
unfolding image image_code size
image_room p =
    let c = process_code (core_process p.body) in
    omega (arith, size_limit (c ++ Svc 0 ∷ []), process_room p.body, length-append c (Svc 0 ∷ []))
