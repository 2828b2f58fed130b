-- The syntax table from the raw rows: each row with its name resolved is the row of the resolved program. The law; assumes nothing.
use Rattle.std.proofs.Math.Path.{◌≡◌, refl, sym, ap}
use Rattle.std.proofs.Common.{ap₂, ◌∙◌, arith, leb-true}
use Rattle.std.specs.Prelude.{Bool, length, eqb, leb}
use Rattle.std.proofs.Math.Bool.{true, false}
use mathlib.Core.List.{List, [], ◌++◌, append_assoc}
use Prim.Native.Nat.{ℕ, zero, suc, ◌+◌, ◌-◌, ◌*◌, ◌≤◌}
use Rattle.arm_word.specs.Choice.{pick}
use Rattle.arm_word.specs.ChoiceLaws.{both}
use Rattle.x_spelling.specs.Kinds as kind
use Rattle.x_grammar.specs.Grammar.{Expression, single, monadic, diadic, Chain, last, more, Operand, element, bracketed, Process, skip, stop, assign, assign_element, empty, braces, conditional}
use Rattle.x_grammar.specs.Grammar.{while, after_comment, Processes, only, followed, is_diadic, WellFormedExpression, WellFormedChain, WellFormedOperand, WellFormedProcess}
use Rattle.x_grammar.specs.Grammar.{WellFormedProcesses}
use Rattle.x_grammar.specs.Grammar as grammar
use Rattle.x_grammar.specs.RawRows as raw
use Rattle.x_grammar.specs.RawRowLaws.{length_expression, length_chain, length_operand, length_process, length_processes}
use Rattle.x_program.specs.Layout.{row_words}
use Rattle.x_program.specs.Layout as layout
use Rattle.x_program.specs.Tree as tree
use Rattle.x_program.specs.Core.{core, core_process, core_list, joined}
use Rattle.x_program.specs.Rows.{monadic_number, diadic_number, row, count, rows, count_process, rows_process}
use Rattle.x_program.specs.Table.{diadic_of}
use Rattle.x_names.specs.Scope.{Meaning, unknown, variable, array, constant, Scope, meaning_of}
use Rattle.x_names.specs.Complaints.{as_value, as_target, as_array, at, of_expression, of_chain, of_operand, of_process, of_processes}
use Rattle.x_names.specs.Resolve as resolve
use Rattle.x_names.specs.Resolve.{monadic_operator, diadic_operator, value, element_of, assigned, element_assigned}
use Rattle.x_names.proofs.AcceptedNames.{none_left, none_right, none_at}
use Rattle.x_names.specs.ResolvedRows.{declared_row, value_row, names_one, resolve_row, resolve_rows, resolve_append}

-- an operator's number in the raw rows is its number in the syntax table
monadic_same : (o : ℕ) → raw.monadic_number o ≡ monadic_number (monadic_operator o)
monadic_same o = by (eqb o kind.minus)
  where
    by : (b : Bool) → pick b 1 2 ≡ monadic_number (pick b tree.negate tree.invert)
    by true = refl
    by false = refl

diadic_back : (n : ℕ) → 1 ≤ n → n ≤ 14 → diadic_number (diadic_of n) ≡ n
diadic_back zero l u = absurd (omega arith)
diadic_back (suc zero) l u = refl
diadic_back (suc (suc zero)) l u = refl
diadic_back (suc (suc (suc zero))) l u = refl
diadic_back (suc (suc (suc (suc zero)))) l u = refl
diadic_back (suc (suc (suc (suc (suc zero))))) l u = refl
diadic_back (suc (suc (suc (suc (suc (suc zero)))))) l u = refl
diadic_back (suc (suc (suc (suc (suc (suc (suc zero))))))) l u = refl
diadic_back (suc (suc (suc (suc (suc (suc (suc (suc zero)))))))) l u = refl
diadic_back (suc (suc (suc (suc (suc (suc (suc (suc (suc zero))))))))) l u = refl
diadic_back (suc (suc (suc (suc (suc (suc (suc (suc (suc (suc zero)))))))))) l u = refl
diadic_back (suc (suc (suc (suc (suc (suc (suc (suc (suc (suc (suc zero))))))))))) l u = refl
diadic_back (suc (suc (suc (suc (suc (suc (suc (suc (suc (suc (suc (suc zero)))))))))))) l u = refl
diadic_back (suc (suc (suc (suc (suc (suc (suc (suc (suc (suc (suc (suc (suc zero))))))))))))) l u = refl
diadic_back (suc (suc (suc (suc (suc (suc (suc (suc (suc (suc (suc (suc (suc (suc zero)))))))))))))) l u = refl
diadic_back (suc (suc (suc (suc (suc (suc (suc (suc (suc (suc (suc (suc (suc (suc (suc n))))))))))))))) l u = absurd (omega arith)

diadic_same : (o : ℕ) → is_diadic o ≡ true → raw.diadic_number o ≡ diadic_number (diadic_operator o)
diadic_same o h =
    let w = both (leb kind.plus o) (leb o kind.at_least) h in
    let a = leb-true kind.plus o w.0 in
    let b = leb-true o kind.at_least w.1 in
    sym (diadic_back (o - kind.operator_base) (omega arith) (omega arith))

-- ── the law ──
module _ (text : ℕ → List ℕ) (place : ℕ → ℕ) (s : Scope) where
  -- one row resolved
  one : (k a b c : ℕ) → resolve_rows text s (row k a b c) ≡ resolve_row text s k a b c
  unfolding resolve_rows
  one k a b c = by (eqb k layout.variable) (meaning_of text s a)
    where
      by : (x : Bool) (m : Meaning) → pick x (value_row m) (row k (pick (names_one k) (declared_row m) a) b c) ++ [] ≡ pick x (value_row m) (row k (pick (names_one k) (declared_row m) a) b c)
      by true unknown = refl
      by true (variable v) = refl
      by true (array v) = refl
      by true (constant w) = refl
      by false m = refl

  -- rows, and one more row, that is resolved to r
  ended : (n : ℕ) (xs ys r : List ℕ) (k a b c : ℕ) → length xs ≡ row_words * n → resolve_rows text s xs ≡ ys → resolve_row text s k a b c ≡ r → resolve_rows text s (xs ++ row k a b c) ≡ ys ++ r
  ended n xs ys r k a b c l h e = resolve_append text s n xs (row k a b c) l ∙ ap₂ ◌++◌ h (one k a b c ∙ e)

  -- two parts, and one more row
  ended₂ : (n m : ℕ) (xs xs' ys ys' r : List ℕ) (k a b c : ℕ) → length xs ≡ row_words * n → length xs' ≡ row_words * m → resolve_rows text s xs ≡ ys → resolve_rows text s xs' ≡ ys'
      → resolve_row text s k a b c ≡ r
      → resolve_rows text s (xs ++ xs' ++ row k a b c) ≡ ys ++ (ys' ++ r)
  ended₂ n m xs xs' ys ys' r k a b c l l' h h' e =
      ap (resolve_rows text s) (append_assoc xs xs' (row k a b c)) ∙ resolve_append text s n xs (xs' ++ row k a b c) l ∙ ap₂ ◌++◌ h (ended m xs' ys' r k a b c l' h' e)

  value_rows : (x : ℕ) (n : ℕ) (m : Meaning) → as_value m ≡ [] → value_row m ≡ rows (core (value m)) n
  unfolding rows
  value_rows x n unknown h = let z : ◌≡◌ {A = ℕ} 0 1 = cc in absurd (omega arith)
  value_rows x n (variable v) h = refl
  value_rows x n (array a) h = let z : ◌≡◌ {A = ℕ} 0 1 = cc in absurd (omega arith)
  value_rows x n (constant w) h = refl

  value_count : (m : Meaning) → 1 ≡ count (core (value m))
  unfolding count
  value_count unknown = refl
  value_count (variable v) = refl
  value_count (array a) = refl
  value_count (constant w) = refl

  element_count : (m : Meaning) (e : tree.Expression) → as_array m ≡ [] → count (core e) + 1 ≡ count (core (element_of m e))
  unfolding count
  element_count unknown e h = let z : ◌≡◌ {A = ℕ} 0 1 = cc in absurd (omega arith)
  element_count (variable v) e h = let z : ◌≡◌ {A = ℕ} 0 1 = cc in absurd (omega arith)
  element_count (array a) e h = refl
  element_count (constant w) e h = let z : ◌≡◌ {A = ℕ} 0 1 = cc in absurd (omega arith)

  element_rows : (n : ℕ) (m : Meaning) (e : tree.Expression) → as_array m ≡ [] → rows (core e) n ++ row layout.element (declared_row m) (n + count (core e) - 1) 0 ≡ rows (core (element_of m e)) n
  unfolding rows
  element_rows n unknown e h = let z : ◌≡◌ {A = ℕ} 0 1 = cc in absurd (omega arith)
  element_rows n (variable v) e h = let z : ◌≡◌ {A = ℕ} 0 1 = cc in absurd (omega arith)
  element_rows n (array a) e h = refl
  element_rows n (constant w) e h = let z : ◌≡◌ {A = ℕ} 0 1 = cc in absurd (omega arith)

  mutual
    unfolding raw.count_expression count

    pub count_E : (e : Expression) → of_expression text place e s ≡ [] → raw.count_expression e ≡ count (core (resolve.expression text e s))
    count_E (single a) h = count_O a h
    count_E (monadic o a) h = ap (λ (n : ℕ). n + 1) (count_O a h)
    count_E (diadic o a c) h = ap₂ (λ (n m : ℕ). n + m + 1) (count_O a (none_left _ (of_chain text place c s) h)) (count_C c o (none_right (of_operand text place a s) _ h))

    pub count_C : (c : Chain) (o : ℕ) → of_chain text place c s ≡ [] → raw.count_chain c ≡ count (core (resolve.chain text c o s))
    count_C (last a) o h = count_O a h
    count_C (more a c) o h = ap₂ (λ (n m : ℕ). n + m + 1) (count_O a (none_left _ (of_chain text place c s) h)) (count_C c o (none_right (of_operand text place a s) _ h))

    pub count_O : (a : Operand) → of_operand text place a s ≡ [] → raw.count_operand a ≡ count (core (resolve.operand text a s))
    count_O (grammar.constant v) h = refl
    count_O (grammar.variable x) h = value_count (meaning_of text s x)
    count_O (element x e) h =
        ap (λ (n : ℕ). n + 1) (count_E e (none_right (at text place x (as_array (meaning_of text s x))) _ h))
        ∙ element_count (meaning_of text s x) (resolve.expression text e s) (none_at text place x _ (none_left _ (of_expression text place e s) h))
    count_O (bracketed e) h = count_E e h

  -- two operands joined by an operator
  joined_rows : (o n c d : ℕ) (xs ys : List ℕ) (e f : tree.Expression) → is_diadic o ≡ true → length xs ≡ row_words * c → length ys ≡ row_words * d → c ≡ count (core e) → d ≡ count (core f)
      → resolve_rows text s xs ≡ rows (core e) n → resolve_rows text s ys ≡ rows (core f) (n + c)
      → resolve_rows text s (raw.joined o xs ys (n + c) (n + c + d)) ≡ rows (core (tree.diadic (diadic_operator o) e f)) n
  unfolding rows
  joined_rows o n c d xs ys e f w lx ly p q hx hy =
      ended₂ c d xs ys (rows (core e) n) (rows (core f) (n + c)) (row layout.diadic (diadic_number (diadic_operator o)) (n + c - 1) (n + c + d - 1)) layout.diadic (raw.diadic_number o)
      (n + c - 1) (n + c + d - 1) lx ly hx hy
      (ap (λ (k : ℕ). row layout.diadic k (n + c - 1) (n + c + d - 1)) (diadic_same o w))
      ∙ rw (p, q) refl

  mutual
    unfolding raw.rows_expression rows

    pub rows_E : (e : Expression) (n : ℕ) → WellFormedExpression e → of_expression text place e s ≡ [] → resolve_rows text s (raw.rows_expression e n) ≡ rows (core (resolve.expression text e s)) n
    rows_E (single a) n w h = rows_O a n w h
    rows_E (monadic o a) n w h =
        ended (raw.count_operand a) (raw.rows_operand a n) (rows (core (resolve.operand text a s)) n)
        (row layout.monadic (monadic_number (monadic_operator o)) (n + count (core (resolve.operand text a s)) - 1) 0) layout.monadic (raw.monadic_number o) (n + raw.count_operand a - 1) 0
        (length_operand a n) (rows_O a n w.1 h) (ap₂ (λ (k m : ℕ). row layout.monadic k (n + m - 1) 0) (monadic_same o) (count_O a h))
    rows_E (diadic o a c) n w h =
        let ha = none_left _ (of_chain text place c s) h in
        let hc = none_right (of_operand text place a s) _ h in
        joined_rows o n (raw.count_operand a) (raw.count_chain c) (raw.rows_operand a n) (raw.rows_chain c o (n + raw.count_operand a)) (resolve.operand text a s) (resolve.chain text c o s) w.0
        (length_operand a n) (length_chain c o (n + raw.count_operand a)) (count_O a ha) (count_C c o hc) (rows_O a n w.1 ha) (rows_C c o (n + raw.count_operand a) w.0 w.2 hc)

    pub rows_C : (c : Chain) (o n : ℕ) → is_diadic o ≡ true → WellFormedChain c o → of_chain text place c s ≡ []
        → resolve_rows text s (raw.rows_chain c o n) ≡ rows (core (resolve.chain text c o s)) n
    rows_C (last a) o n d w h = rows_O a n w h
    rows_C (more a c) o n d w h =
        let ha = none_left _ (of_chain text place c s) h in
        let hc = none_right (of_operand text place a s) _ h in
        joined_rows o n (raw.count_operand a) (raw.count_chain c) (raw.rows_operand a n) (raw.rows_chain c o (n + raw.count_operand a)) (resolve.operand text a s) (resolve.chain text c o s) d
        (length_operand a n) (length_chain c o (n + raw.count_operand a)) (count_O a ha) (count_C c o hc) (rows_O a n w.1 ha) (rows_C c o (n + raw.count_operand a) d w.2 hc)

    pub rows_O : (a : Operand) (n : ℕ) → WellFormedOperand a → of_operand text place a s ≡ [] → resolve_rows text s (raw.rows_operand a n) ≡ rows (core (resolve.operand text a s)) n
    rows_O (grammar.constant v) n w h = one layout.number v 0 0
    rows_O (grammar.variable x) n w h = one layout.variable x 0 0 ∙ value_rows x n (meaning_of text s x) (none_at text place x _ h)
    rows_O (element x e) n w h =
        let he = none_right (at text place x (as_array (meaning_of text s x))) _ h in
        ended (raw.count_expression e) (raw.rows_expression e n) (rows (core (resolve.expression text e s)) n)
        (row layout.element (declared_row (meaning_of text s x)) (n + count (core (resolve.expression text e s)) - 1) 0) layout.element x (n + raw.count_expression e - 1) 0
        (length_expression e n) (rows_E e n w he) (ap (λ (m : ℕ). row layout.element (declared_row (meaning_of text s x)) (n + m - 1) 0) (count_E e he))
        ∙ element_rows n (meaning_of text s x) (resolve.expression text e s) (none_at text place x _ (none_left _ (of_expression text place e s) h))
    rows_O (bracketed e) n w h = rows_E e n w h

  -- ── processes ──

  assigned_count : (m : Meaning) (e : tree.Expression) → as_target m ≡ [] → count (core e) + 1 ≡ count_process (core_process (assigned m e))
  unfolding count_process
  assigned_count unknown e h = let z : ◌≡◌ {A = ℕ} 0 1 = cc in absurd (omega arith)
  assigned_count (variable v) e h = refl
  assigned_count (array a) e h = let z : ◌≡◌ {A = ℕ} 0 1 = cc in absurd (omega arith)
  assigned_count (constant w) e h = let z : ◌≡◌ {A = ℕ} 0 1 = cc in absurd (omega arith)

  assigned_rows : (n : ℕ) (m : Meaning) (e : tree.Expression) → as_target m ≡ []
      → rows (core e) n ++ row layout.assign (declared_row m) (n + count (core e) - 1) 0 ≡ rows_process (core_process (assigned m e)) n
  unfolding rows_process
  assigned_rows n unknown e h = let z : ◌≡◌ {A = ℕ} 0 1 = cc in absurd (omega arith)
  assigned_rows n (variable v) e h = refl
  assigned_rows n (array a) e h = let z : ◌≡◌ {A = ℕ} 0 1 = cc in absurd (omega arith)
  assigned_rows n (constant w) e h = let z : ◌≡◌ {A = ℕ} 0 1 = cc in absurd (omega arith)

  stored_count : (m : Meaning) (i e : tree.Expression) → as_array m ≡ [] → count (core i) + count (core e) + 1 ≡ count_process (core_process (element_assigned m i e))
  unfolding count_process
  stored_count unknown i e h = let z : ◌≡◌ {A = ℕ} 0 1 = cc in absurd (omega arith)
  stored_count (variable v) i e h = let z : ◌≡◌ {A = ℕ} 0 1 = cc in absurd (omega arith)
  stored_count (array a) i e h = refl
  stored_count (constant w) i e h = let z : ◌≡◌ {A = ℕ} 0 1 = cc in absurd (omega arith)

  stored_rows : (n : ℕ) (m : Meaning) (i e : tree.Expression) → as_array m ≡ []
      → rows (core i) n ++ (rows (core e) (n + count (core i)) ++ row layout.assign_element (declared_row m) (n + count (core i) - 1) (n + count (core i) + count (core e) - 1))
      ≡ rows_process (core_process (element_assigned m i e)) n
  unfolding rows_process
  stored_rows n unknown i e h = let z : ◌≡◌ {A = ℕ} 0 1 = cc in absurd (omega arith)
  stored_rows n (variable v) i e h = let z : ◌≡◌ {A = ℕ} 0 1 = cc in absurd (omega arith)
  stored_rows n (array a) i e h = refl
  stored_rows n (constant w) i e h = let z : ◌≡◌ {A = ℕ} 0 1 = cc in absurd (omega arith)

  -- a list with a process before it is two in sequence
  followed_core : (p : Process) (ps : Processes)
      → core_list (resolve.processes text (followed p ps) s) ≡ Rattle.x_program.specs.Core.sequence (core_process (resolve.process text p s)) (core_list (resolve.processes text ps s))
  followed_core p (only q) = refl
  followed_core p (followed q ps) = refl

  mutual
    unfolding raw.count_process count_process

    pub count_P : (p : Process) → of_process text place p s ≡ [] → raw.count_process p ≡ count_process (core_process (resolve.process text p s))
    count_P skip h = refl
    count_P stop h = refl
    count_P (assign x e) h =
        ap (λ (n : ℕ). n + 1) (count_E e (none_right (at text place x (as_target (meaning_of text s x))) _ h))
        ∙ assigned_count (meaning_of text s x) (resolve.expression text e s) (none_at text place x _ (none_left _ (of_expression text place e s) h))
    count_P (assign_element x i e) h =
        let k = none_right (at text place x (as_array (meaning_of text s x))) _ h in
        ap₂ (λ (n m : ℕ). n + m + 1) (count_E i (none_left _ (of_expression text place e s) k)) (count_E e (none_right (of_expression text place i s) _ k))
        ∙ stored_count (meaning_of text s x) (resolve.expression text i s) (resolve.expression text e s)
        (none_at text place x _ (none_left _ (of_expression text place i s ++ of_expression text place e s) h))
    count_P empty h = refl
    count_P (braces ps) h = count_L ps h
    count_P (conditional e p q) h =
        let k = none_right (of_expression text place e s) _ h in
        rw (
          count_E e (none_left _ (of_process text place p s ++ of_process text place q s) h),
          count_P p (none_left _ (of_process text place q s) k),
          count_P q (none_right (of_process text place p s) _ k),
        )
    count_P (while e p) h = ap₂ (λ (n m : ℕ). n + m + 1) (count_E e (none_left _ (of_process text place p s) h)) (count_P p (none_right (of_expression text place e s) _ h))
    count_P (after_comment p) h = count_P p h

    pub count_L : (ps : Processes) → of_processes text place ps s ≡ [] → raw.count_processes ps ≡ count_process (core_list (resolve.processes text ps s))
    count_L (only p) h = count_P p h
    count_L (followed p ps) h =
        ap₂ (λ (n m : ℕ). n + m + 1) (count_P p (none_left _ (of_processes text place ps s) h)) (count_L ps (none_right (of_process text place p s) _ h)) ∙ ap count_process (sym (followed_core p ps))

  mutual
    unfolding raw.rows_process rows_process

    pub rows_P : (p : Process) (n : ℕ) → WellFormedProcess p → of_process text place p s ≡ [] → resolve_rows text s (raw.rows_process p n) ≡ rows_process (core_process (resolve.process text p s)) n
    rows_P skip n w h = one layout.skip 0 0 0
    rows_P stop n w h = one layout.stop 0 0 0
    rows_P (assign x e) n w h =
        let he = none_right (at text place x (as_target (meaning_of text s x))) _ h in
        ended (raw.count_expression e) (raw.rows_expression e n) (rows (core (resolve.expression text e s)) n)
        (row layout.assign (declared_row (meaning_of text s x)) (n + count (core (resolve.expression text e s)) - 1) 0) layout.assign x (n + raw.count_expression e - 1) 0
        (length_expression e n) (rows_E e n w he) (ap (λ (m : ℕ). row layout.assign (declared_row (meaning_of text s x)) (n + m - 1) 0) (count_E e he))
        ∙ assigned_rows n (meaning_of text s x) (resolve.expression text e s) (none_at text place x _ (none_left _ (of_expression text place e s) h))
    rows_P (assign_element x i e) n w h =
        let k = none_right (at text place x (as_array (meaning_of text s x))) _ h in
        let hi = none_left _ (of_expression text place e s) k in
        let he = none_right (of_expression text place i s) _ k in
        let c = raw.count_expression i in
        let d = raw.count_expression e in
        let ei = resolve.expression text i s in
        let ee = resolve.expression text e s in
        let r = declared_row (meaning_of text s x) in
        ended₂ c d (raw.rows_expression i n) (raw.rows_expression e (n + c)) (rows (core ei) n) (rows (core ee) (n + c)) (row layout.assign_element r (n + c - 1) (n + c + d - 1))
        layout.assign_element x (n + c - 1) (n + c + d - 1)
        (length_expression i n) (length_expression e (n + c)) (rows_E i n w.0 hi) (rows_E e (n + c) w.1 he) refl
        ∙ rw (count_E i hi, count_E e he) (stored_rows n (meaning_of text s x) ei ee (none_at text place x _ (none_left _ (of_expression text place i s ++ of_expression text place e s) h)))
    rows_P empty n w h = one layout.skip 0 0 0
    rows_P (braces ps) n w h = rows_L ps n w h
    rows_P (conditional e p q) n w h =
        let k = none_right (of_expression text place e s) _ h in
        let he = none_left _ (of_process text place p s ++ of_process text place q s) h in
        let hp = none_left _ (of_process text place q s) k in
        let hq = none_right (of_process text place p s) _ k in
        let c = raw.count_expression e in
        let a = raw.count_process p in
        let b = raw.count_process q in
        let last = row layout.if (n + c - 1) (n + c + a - 1) (n + c + a + b - 1) in
        let xs = raw.rows_expression e n in
        let ys = raw.rows_process p (n + c) in
        let zs = raw.rows_process q (n + c + a) in
        ap (resolve_rows text s) (append_assoc (xs ++ ys) zs last ∙ append_assoc xs ys (zs ++ last))
        ∙ resolve_append text s c xs (ys ++ (zs ++ last)) (length_expression e n)
        ∙ ap₂ ◌++◌ (rows_E e n w.0 he)
        (resolve_append text s a ys (zs ++ last) (length_process p (n + c))
        ∙ ap₂ ◌++◌ (rows_P p (n + c) w.1 hp)
        (ended b zs (rows_process (core_process (resolve.process text q s)) (n + c + a)) last layout.if (n + c - 1) (n + c + a - 1) (n + c + a + b - 1) (length_process q (n + c + a))
        (rows_P q (n + c + a) w.2 hq) refl))
        ∙ rw (count_E e he, count_P p hp, count_P q hq) refl
    rows_P (while e p) n w h =
        let he = none_left _ (of_process text place p s) h in
        let hp = none_right (of_expression text place e s) _ h in
        let c = raw.count_expression e in
        let a = raw.count_process p in
        ended₂ c a (raw.rows_expression e n) (raw.rows_process p (n + c)) (rows (core (resolve.expression text e s)) n) (rows_process (core_process (resolve.process text p s)) (n + c))
        (row layout.while (n + c - 1) (n + c + a - 1) 0) layout.while (n + c - 1) (n + c + a - 1) 0
        (length_expression e n) (length_process p (n + c)) (rows_E e n w.0 he) (rows_P p (n + c) w.1 hp) refl
        ∙ rw (count_E e he, count_P p hp) refl
    rows_P (after_comment p) n w h = rows_P p n w h

    pub rows_L : (ps : Processes) (n : ℕ) → WellFormedProcesses ps → of_processes text place ps s ≡ []
        → resolve_rows text s (raw.rows_processes ps n) ≡ rows_process (core_list (resolve.processes text ps s)) n
    rows_L (only p) n w h = rows_P p n w h
    rows_L (followed p ps) n w h =
        let hp = none_left _ (of_processes text place ps s) h in
        let hs = none_right (of_process text place p s) _ h in
        let a = raw.count_process p in
        let b = raw.count_processes ps in
        ended₂ a b (raw.rows_process p n) (raw.rows_processes ps (n + a)) (rows_process (core_process (resolve.process text p s)) n)
        (rows_process (core_list (resolve.processes text ps s)) (n + a)) (row layout.sequence (n + a - 1) (n + a + b - 1) 0) layout.sequence (n + a - 1) (n + a + b - 1) 0
        (length_process p n) (length_processes ps (n + a)) (rows_P p n w.0 hp) (rows_L ps (n + a) w.1 hs) refl
        ∙ rw (count_P p hp, count_L ps hs) (ap (λ (x : Rattle.x_program.specs.Core.Process). rows_process x n) (sym (followed_core p ps)))
