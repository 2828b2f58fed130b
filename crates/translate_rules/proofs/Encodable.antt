-- Every instruction of an image can be encoded: no field out of range, no 35. Laws; they rest on ImageCode, Bits and what name resolution gives.
use Rattle.std.specs.Prelude.{◌≡◌, refl, List, [], ◌∷◌, ◌++◌, ℕ, ◌+◌, ◌*◌, ◌-◌, ◌/◌, ◌%◌, ◌^◌, ◌≤◌, ◌<◌, length, ltb}
use Rattle.std.proofs.Common.{ap, arith, lit<, lt-ltb, le-ltb, ltb-true, ltb-false, leb-true}
use Rattle.std.specs.Int.Count.{count_trailing_zeros, count_leading_zeros}
use Rattle.arm_word.specs.Choice.{pick}
use Rattle.arm_word.specs.ChoiceLaws.{by_test}
use Rattle.arm_encoding.specs.Encoding.{Encoded, Form, put, put_long, swap32, narrow, encode_of, MOVI, ADDI, SHLI}
use Rattle.arm_encoding.specs.Fields.{put_one}
use Rattle.arm_encoding.specs.declared.Instr.{Instr}
use Rattle.arm_encoding.specs.declared.Instr.TheVariants.{Shli, Movi, Addi, Svc}
use Rattle.x_program.specs.Tree as tree
use Rattle.x_program.specs.Tree.{Monadic, negate, invert, Diadic, plus, minus, times, bitwise_and, bitwise_or, bitwise_xor, right, left, equal, unequal, less, at_most, greater, at_least, Declaration}
use Rattle.x_program.specs.Tree.{data_words, Program}
use Rattle.x_program.specs.Core.{core, core_process, core_list}
use Rattle.x_program.specs.Resolved.{Resolved, ResolvedProcess, ResolvedAll}
use Rattle.translate_rules.specs.InstructionBytes.{size}
use Rattle.translate_rules.specs.Constant.{byte_constant, span_constant, long_constant, spans_byte, load_constant}
use Rattle.translate_rules.specs.Blocks.{push_constant, push_variable, check_subscript, load_element, work_monadic_code, less_than, far_shift, diadic_instructions, work_diadic_code}
use Rattle.translate_rules.specs.Blocks.{assign_variable}
use Rattle.translate_rules.specs.Blocks.{store_element, take_condition, jump_over, jump_back}
use Rattle.translate_rules.specs.ImageCode.{expression_code, choice_code, repeat_code, process_code, image_code, image}
use Rattle.translate_rules.specs.CodeLaws.{size_append, list_code}
use Rattle.translate_rules.specs.Bits.{trailing_lt, span_byte}
use Rattle.translate_rules.specs.Encodable.{Encodable}

pub encodable_append : (xs ys : List Instr) → Encodable xs → Encodable ys → Encodable (xs ++ ys)
encodable_append [] ys a b = b
encodable_append (x ∷ xs) ys a b = (a.0, encodable_append xs ys a.1 b)

-- ── fields in range ──

put_fits : (f : Form) (a b c : ℕ) → a < f.high → b < f.middle → c < f.low → (put f a b c).status ≡ 0
put_fits f a b c ha hb hc = ap (λ (e : Encoded). e.status) (put_one f a b c ha hb hc)

movi_fits : (d u : ℕ) → d < 8 → u < 256 → (encode_of (Movi d u)).status ≡ 0
unfolding encode_of
movi_fits d u hd hu = put_fits MOVI 0 d u (lit< tt) hd hu

addi_fits : (d u : ℕ) → d < 8 → u < 256 → (encode_of (Addi d u)).status ≡ 0
unfolding encode_of
addi_fits d u hd hu = put_fits ADDI 0 d u (lit< tt) hd hu

shli_fits : (n d : ℕ) → n < 32 → d < 8 → (encode_of (Shli n d d)).status ≡ 0
unfolding encode_of
shli_fits n d hn hd = put_fits SHLI n d d hn hd hd

-- "BL reaches -2,097,152 to 2,097,151"
over_fits : (n : ℕ) → n ≤ 131072 → (encode_of (jump_over n)).status ≡ 0
unfolding encode_of jump_over put_long narrow
over_fits n h = rw (lt-ltb (n / 2) 2097152 (omega arith), lt-ltb (n / 2) 4194304 (omega arith))

back_fits : (n : ℕ) → 2 ≤ n → n ≤ 131072 → (encode_of (jump_back n)).status ≡ 0
unfolding encode_of jump_back put_long narrow
back_fits n l h =
    rw (le-ltb (4294967296 - n / 2) 2097152 (omega arith), le-ltb (4294967296 - n / 2) 4292870144 (omega arith), lt-ltb (4294967296 - n / 2 - 4290772992) 4194304 (omega arith))

-- ── blocks ──

pub constant_encodable : (d w : ℕ) → d < 8 → w < 4294967296 → Encodable (load_constant d w)
unfolding load_constant
constant_encodable d w hd hw =
    by_test (λ t. Encodable (pick t (byte_constant d w) (pick (spans_byte w) (span_constant d w) (long_constant d w)))) (ltb w 256)
    (λ e. (movi_fits d w hd (ltb-true w 256 e), tt))
    (λ e. let h = ltb-false w 256 e in
    by_test (λ t. Encodable (pick t (span_constant d w) (long_constant d w))) (spans_byte w)
    (λ f. let s = leb-true 24 (count_leading_zeros 32 w + count_trailing_zeros 32 w) f in
    (movi_fits d (w / 2 ^ count_trailing_zeros 32 w) hd (span_byte w (omega arith) hw s), (shli_fits (count_trailing_zeros 32 w) d (trailing_lt 32 w (omega arith) hw) hd, tt)))
    (λ f.
    let s = shli_fits 8 d (lit< tt) hd in (
      movi_fits d (w / 16777216) hd (omega arith),
      (s, (addi_fits d (w / 65536 % 256) hd (omega arith), (s, (addi_fits d (w / 256 % 256) hd (omega arith), (s, (addi_fits d (w % 256) hd (omega arith), tt)))))),
    )))

diadic_encodable : (o : Diadic) → Encodable (diadic_instructions o)
unfolding encode_of put swap32 narrow less_than far_shift
diadic_encodable plus = (refl, tt)
diadic_encodable minus = (refl, tt)
diadic_encodable times = (refl, tt)
diadic_encodable bitwise_and = (refl, tt)
diadic_encodable bitwise_or = (refl, tt)
diadic_encodable bitwise_xor = (refl, tt)
diadic_encodable right = (refl, (refl, (refl, (refl, (refl, tt)))))
diadic_encodable left = (refl, (refl, (refl, (refl, (refl, tt)))))
diadic_encodable equal = (refl, (refl, (refl, (refl, tt))))
diadic_encodable unequal = (refl, (refl, (refl, (refl, tt))))
diadic_encodable less = (refl, (refl, (refl, (refl, (refl, (refl, (refl, tt)))))))
diadic_encodable at_most = (refl, (refl, (refl, (refl, (refl, (refl, (refl, (refl, tt))))))))
diadic_encodable greater = (refl, (refl, (refl, (refl, (refl, (refl, (refl, tt)))))))
diadic_encodable at_least = (refl, (refl, (refl, (refl, (refl, (refl, (refl, (refl, tt))))))))

monadic_encodable : (o : Monadic) → Encodable (work_monadic_code o)
unfolding encode_of put work_monadic_code
monadic_encodable negate = (refl, (refl, (refl, tt)))
monadic_encodable invert = (refl, (refl, (refl, tt)))

-- the blocks around a constant, an offset or a length
module _ (n : ℕ) (small : n ≤ 8192) where
  check_encodable : Encodable (check_subscript n)
  unfolding encode_of put swap32 narrow check_subscript
  check_encodable =
      (refl, (refl, (refl, (refl, encodable_append (load_constant 1 n) _ (constant_encodable 1 n (lit< tt) (omega arith)) (refl, (refl, (refl, (refl, tt))))))))

  variable_encodable : Encodable (push_variable n)
  unfolding encode_of put push_variable
  variable_encodable = (refl, encodable_append (load_constant 1 (4 * n)) _ (constant_encodable 1 (4 * n) (lit< tt) (omega arith)) (refl, (refl, tt)))

  load_encodable : Encodable (load_element n)
  unfolding encode_of put load_element
  load_encodable = (refl, (refl, encodable_append (load_constant 1 (4 * n)) _ (constant_encodable 1 (4 * n) (lit< tt) (omega arith)) (refl, (refl, (refl, tt)))))

  assign_encodable : Encodable (assign_variable n)
  unfolding encode_of put assign_variable
  assign_encodable = (refl, (refl, encodable_append (load_constant 1 (4 * n)) _ (constant_encodable 1 (4 * n) (lit< tt) (omega arith)) (refl, tt)))

  store_encodable : Encodable (store_element n)
  unfolding encode_of put store_element
  store_encodable =
      (refl, (refl, (refl, (refl, encodable_append (load_constant 2 (4 * n)) _ (constant_encodable 2 (4 * n) (lit< tt) (omega arith)) (refl, (refl, tt))))))

-- ── trees ──

-- parts of a list take no more than the list
size_cons : (i : Instr) (is : List Instr) → size is ≤ size (i ∷ is)
size_cons i is = omega (arith, size_append (i ∷ []) is)

-- two parts, each behind a jump
jumps_size : (xs p q : List Instr) (j k : Instr) → size p + size q ≤ size (xs ++ j ∷ (p ++ k ∷ q))
jumps_size xs p q j k =
    omega (arith, size_append xs (j ∷ (p ++ k ∷ q)), size_cons j (p ++ k ∷ q), size_append p (k ∷ q), size_cons k q)

choice_size : (p q : List Instr) → size p + size q ≤ size (choice_code p q)
unfolding choice_code
choice_size p q = jumps_size take_condition p q _ _

repeat_size : (e p : List Instr) → size p + size [] ≤ size (repeat_code e p)
unfolding repeat_code
repeat_size e p = jumps_size take_condition p [] _ _

choice_encodable : (p q : List Instr) → size p + size q ≤ 65536 → Encodable p → Encodable q → Encodable (choice_code p q)
unfolding encode_of put narrow choice_code take_condition
choice_encodable p q h a b =
    (refl, (refl, (refl, (refl, (over_fits _ (omega arith), encodable_append p _ a (over_fits _ (omega arith), b))))))

repeat_encodable : (e p : List Instr) → size e + size p ≤ 65536 → Encodable p → Encodable (repeat_code e p)
unfolding encode_of put narrow repeat_code take_condition
repeat_encodable e p h a =
    (refl, (refl, (refl, (refl, (over_fits _ (omega arith), encodable_append p _ a (back_fits _ (omega arith) (omega arith), tt))))))

module _ (ds : List Declaration) (small : data_words ds ≤ 8192) where
  pub expression_encodable : (e : tree.Expression) → Resolved ds e → Encodable (expression_code (core e))
  unfolding encode_of put expression_code push_constant work_diadic_code
  expression_encodable (tree.constant w) h = (refl, encodable_append (load_constant 0 w) _ (constant_encodable 0 w (lit< tt) h) (refl, tt))
  expression_encodable (tree.variable v) h = variable_encodable v.offset (omega (arith, h.inside))
  expression_encodable (tree.element a e) h =
      encodable_append (expression_code (core e)) _ (expression_encodable e h.1)
      (encodable_append (check_subscript a.length) _ (check_encodable a.length h.0.few) (load_encodable a.offset (omega (arith, h.0.inside))))
  expression_encodable (tree.monadic o e) h = encodable_append (expression_code (core e)) _ (expression_encodable e h) (monadic_encodable o)
  expression_encodable (tree.diadic o e f) h =
      encodable_append (expression_code (core e)) _ (expression_encodable e h.0) (encodable_append (expression_code (core f)) _ (expression_encodable f h.1)
      (refl, (refl, (refl, encodable_append (diadic_instructions o) _ (diadic_encodable o) (refl, tt)))))
  expression_encodable (tree.bracket e) h = expression_encodable e h

  mutual
    unfolding encode_of put process_code

    pub process_encodable : (p : tree.Process) → ResolvedProcess ds p → size (process_code (core_process p)) ≤ 65536 → Encodable (process_code (core_process p))
    process_encodable tree.skip h b = tt
    process_encodable tree.stop h b = (refl, tt)
    process_encodable (tree.assign v e) h b =
        encodable_append (expression_code (core e)) _ (expression_encodable e h.1) (assign_encodable v.offset (omega (arith, h.0.inside)))
    process_encodable (tree.assign_element a s e) h b =
        encodable_append (expression_code (core s)) _ (expression_encodable s h.1)
        (encodable_append (check_subscript a.length) _ (check_encodable a.length h.0.few)
        (encodable_append (expression_code (core e)) _ (expression_encodable e h.2) (store_encodable a.offset (omega (arith, h.0.inside)))))
    process_encodable (tree.braces ps) h b = list_encodable ps h b
    process_encodable (tree.conditional e p q) h b =
        let x = process_code (core_process p) in
        let y = process_code (core_process q) in
        let s = size_append (expression_code (core e)) (choice_code x y) in
        let z = choice_size x y in
        encodable_append (expression_code (core e)) _ (expression_encodable e h.0)
        (choice_encodable x y (omega arith) (process_encodable p h.1 (omega arith)) (process_encodable q h.2 (omega arith)))
    process_encodable (tree.loop e p) h b =
        let x = process_code (core_process p) in
        let c = expression_code (core e) in
        let s = size_append c (repeat_code c x) in
        let z = repeat_size c x in
        encodable_append c _ (expression_encodable e h.0) (repeat_encodable c x (omega arith) (process_encodable p h.1 (omega arith)))

    list_encodable : (ps : tree.Processes) → ResolvedAll ds ps → size (process_code (core_list ps)) ≤ 65536 → Encodable (process_code (core_list ps))
    list_encodable tree.none h b = tt
    list_encodable (tree.also p ps) h b =
        let x = process_code (core_process p) in
        let y = process_code (core_list ps) in
        let s = size_append x y in
        let l = ap size (list_code p ps) in
        rw (list_code p ps) (encodable_append x y (process_encodable p h.0 (omega arith)) (list_encodable ps h.1 (omega arith)))

-- an image of at most 65,536 bytes
pub image_encodable : (p : Program) → data_words p.declarations ≤ 8192 → ResolvedProcess p.declarations p.body → length (image p) ≤ 65536
    → Encodable (image_code (core_process p.body))
unfolding encode_of put image image_code size
image_encodable p small h b =
    let c = process_code (core_process p.body) in
    let s = size_append c (Svc 0 ∷ []) in
    encodable_append c _ (process_encodable p.declarations small p.body h (omega arith)) (refl, tt)
