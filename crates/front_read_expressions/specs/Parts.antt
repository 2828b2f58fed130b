-- What a reader's answer and table say, from what its calls' say. Laws; rests on Reads, the automaton's moves and the unread tokens.
use Rattle.std.specs.Prelude.{◌≡◌, refl, Bool, true, false, List, ◌∷◌, ◌++◌, ℕ, ◌+◌, ◌-◌, ◌*◌, ◌<◌, ◌≤◌, eqb, leb, length, get_or, Ok, Err}
use Rattle.std.proofs.Common.{ap, ◌∙◌, ⊎_elim, length-append, eqb-true, leb-true}
use native.Mathlib.Omega.{arith}
use Rattle.std.proofs.lemmas.List.Edits.{sets}
use Rattle.std.proofs.lemmas.Bool.{eqb-false}
use Rattle.arm_word.specs.Choice.{pick}
use Rattle.arm_word.specs.ChoiceLaws.{by_test, both, either}
use Rattle.x_spelling.specs.Kinds as kind
use Rattle.x_grammar.specs.Grammar.{Token, mark, single, monadic, diadic, last, more, constant, variable, element, bracketed, is_monadic, is_diadic, is_associative}
use Rattle.x_grammar.specs.Automaton.{ExpressionContext, in_brackets, in_subscript, OperandContext, first, under, next, after, link, State, need_expression, need_operand, have_operand, is}
use Rattle.x_grammar.specs.Automaton.{refused, run}
use Rattle.x_grammar.specs.TokenArrays.{unread}
use Rattle.x_grammar.specs.RawRows.{row, monadic_number, diadic_number, count_expression, count_chain, count_operand, rows_expression, rows_chain, rows_operand}
use Rattle.x_grammar.specs.RawRowLaws.{sets_rows, length_expression, length_chain, length_operand}
use Rattle.x_grammar.specs.AutomatonMoves.{head_is, run_number, run_name, run_brackets, run_brackets_end, run_brackets_stop, run_subscript, run_subscript_end, run_subscript_stop, run_variable}
use Rattle.x_grammar.specs.AutomatonMoves.{run_expression, run_monadic, run_under, run_single, run_diadic, run_last, run_link}
use Rattle.x_grammar.specs.Unread.{inside, unread_number, unread_name, unread_mark, unread_joins, unread_negates, unread_not, unread_goes_on, no_operand}
use Rattle.x_program.specs.Layout.{row_words}
use Rattle.x_program.specs.Layout as layout
use Rattle.front_read_expressions.specs.Reads.{Read, done, bad, Form, Moved, Reads, operand_form, expression_form, chain_form, closed, deepened, counted_row, tabled, row_of_last, row_of_two, Within}
use Rattle.front_read_expressions.specs.Reads.{Ready, Shallow}
use Rattle.front_read_expressions.specs.declared.Extent.{Extent}
use Rattle.front_read_expressions.specs.declared.Ungrammatical.{Ungrammatical}

-- what a reader came to can be closed, deepened, and followed by a row
pub within_of : (kinds : List ℕ) (i n : ℕ) (r : Read) → Moved kinds i n r → Within kinds r
within_of kinds i n (Ok p) h = h.short
within_of kinds i n (Err x) h = tt

pub ready_of : (kinds : List ℕ) (i n : ℕ) (r : Read) → Moved kinds i n r → n < i → length kinds ≤ 1024 → Ready r
ready_of kinds i n (Ok p) h l s = (omega arith, omega arith)
ready_of kinds i n (Err x) h l s = tt

pub shallow_of : (kinds : List ℕ) (i n : ℕ) (r : Read) → Moved kinds i n r → length kinds ≤ 1024 → Shallow r
shallow_of kinds i n (Ok p) h s = (omega arith, omega arith)
shallow_of kinds i n (Err x) h s = tt

pub shallow_after : (kinds : List ℕ) (i n : ℕ) (r s : Read) → Moved kinds i n r → length kinds ≤ 1024 → s ≡ counted_row r → Shallow s
shallow_after kinds i n (Ok p) s h l e = rw e (shallow_of kinds i n (Ok p) h l)
shallow_after kinds i n (Err x) s h l e = rw e tt

pub monadic_big : (o : ℕ) → is_monadic o ≡ true → 2 < o
monadic_big o h = ⊎_elim (λ e. let z = eqb-true o kind.minus e in omega arith) (λ e. let z = eqb-true o kind.not e in omega arith) (either (eqb o kind.minus) (eqb o kind.not) h)

pub diadic_big : (o : ℕ) → is_diadic o ≡ true → (kind.operator_base < o) × (o ≤ kind.at_least)
diadic_big o h =
    let j = both (leb kind.plus o) (leb o kind.at_least) h in
    let x = leb-true kind.plus o j.0 in
    let y = leb-true o kind.at_least j.1 in
    (omega arith, omega arith)

pub moved_closed : (kinds : List ℕ) (i n k : ℕ) (r : Read) → 0 < k → Moved kinds i n r → Moved kinds i n (closed kinds k r)
moved_closed kinds i n k (Ok p) z h =
    by_test (λ (b : Bool). Moved kinds i n (pick b (done (p.next + 1) p.rows p.depth p.deepest) (bad p.next))) (eqb (get_or kinds p.next 0) k)
    (λ e. let l = inside kinds p.next k (eqb-true (get_or kinds p.next 0) k e) z in record { short = omega arith; grew = h.grew; few = omega arith; shallow = omega arith; low = omega arith })
    (λ e. h.short)
moved_closed kinds i n k (Err x) z h = h

-- rows after rows, and the row that ends them
pub table_one : (t t' xs ρ : List ℕ) (n c m : ℕ) → length xs ≡ row_words * c → n + c ≡ m → t' ≡ sets t (row_words * n) xs → sets t' (row_words * m) ρ ≡ sets t (row_words * n) (xs ++ ρ)
table_one t t' xs ρ n c m l e h = rw h (sets_rows xs t n c m ρ l e)

pub table_two : (t t' t'' xs ys ρ : List ℕ) (n a m b l : ℕ) → length xs ≡ row_words * a → length ys ≡ row_words * b → n + a ≡ m → m + b ≡ l → t' ≡ sets t (row_words * n) xs
    → t'' ≡ sets t' (row_words * m) ys → sets t'' (row_words * l) ρ ≡ sets t (row_words * n) (xs ++ ys ++ ρ)
table_two t t' t'' xs ys ρ n a m b l p q e f x y = table_one t t'' (xs ++ ys) ρ n (a + b) l (simp length-append (omega arith)) (omega arith) (y ∙ table_one t t' xs ys n a m p e x)

pub table_three : (t t' t'' t''' xs ys zs ρ : List ℕ) (n a m b l c k : ℕ) → length xs ≡ row_words * a → length ys ≡ row_words * b → length zs ≡ row_words * c → n + a ≡ m → m + b ≡ l
    → l + c ≡ k → t' ≡ sets t (row_words * n) xs → t'' ≡ sets t' (row_words * m) ys → t''' ≡ sets t'' (row_words * l) zs
    → sets t''' (row_words * k) ρ ≡ sets t (row_words * n) (xs ++ ys ++ zs ++ ρ)
table_three t t' t'' t''' xs ys zs ρ n a m b l c k p q r e f g x y z =
    table_one t t''' (xs ++ ys ++ zs) ρ n (a + b + c) k (simp length-append (omega arith)) (omega arith) (z ∙ table_two t t' t'' xs ys zs n a m b l p q e f x y)

-- a part and the token that closes it
abbrev pub closing : (F : Form) (C : Type 0) → (C → F.Context) → (F.Tree → C → State) → Form
closing F C c have = record { Tree = F.Tree; count = F.count; rows = F.rows; depth = F.depth; deepest = F.deepest; Context = C; need = λ k. F.need (c k); have = have }

module _ (kinds values : List ℕ) (i n : ℕ) (t : List ℕ) where
  module _ (F : Form) (C : Type 0) (c : C → F.Context) (have : F.Tree → C → State) (m : ℕ) (big : 2 < m)
      (on : (w : List Token) (e : F.Tree) (k : C) → run (mark m ∷ w) (F.have e (c k)) ≡ run w (have e k))
      (off : (w : List Token) (e : F.Tree) (k : C) → head_is (is m) w ≡ false → run w (F.have e (c k)) ≡ refused w) where
    pub close_part : (r : Read) (t' : List ℕ) → Reads F kinds values i n t r t' → Reads (closing F C c have) kinds values i n t (closed kinds m r) t'
    close_part (Ok p) t' h =
        by_test (λ (b : Bool). Reads (closing F C c have) kinds values i n t (pick b (done (p.next + 1) p.rows p.depth p.deepest) (bad p.next)) t') (eqb (get_or kinds p.next 0) m)
        (λ q. let f = eqb-true (get_or kinds p.next 0) m q in
        let z = inside kinds p.next m f (omega arith) in
        let w = h.0 in (
          record { short = omega arith; grew = w.grew; few = omega arith; shallow = omega arith; low = omega arith },
          record {
            tree = h.1.tree;
            counted = h.1.counted;
            table = h.1.table;
            depths = h.1.depths;
            deepests = h.1.deepests;
            comes = λ k. h.1.comes (c k) ∙ rw (unread_mark kinds values p.next m f big) (on _ h.1.tree k);
          },
        ))
        (λ q. (h.0.short, λ k. h.1.comes (c k) ∙ off _ h.1.tree k (unread_not kinds values p.next m big (eqb-false (get_or kinds p.next 0) m q))))
    close_part (Err x) t' h = (h.0, λ k. h.1 (c k))

  -- operands
  pub operand_number : (t' : List ℕ) → get_or kinds i 0 ≡ kind.number → t' ≡ sets t (row_words * n) (row layout.number (get_or values i 0) 0 0)
      → Reads operand_form kinds values i n t (done (i + 1) (n + 1) 0 1) t'
  unfolding count_operand rows_operand
  operand_number t' e h =
      let l = inside kinds i kind.number e (omega arith) in (
        record { short = omega arith; grew = omega arith; few = omega arith; shallow = omega arith; low = omega arith },
        record { tree = constant (get_or values i 0); counted = refl; table = h; depths = refl; deepests = refl; comes = λ k. rw (unread_number kinds values i e) (run_number _ k _) },
      )

  pub operand_variable : (t' : List ℕ) → get_or kinds i 0 ≡ kind.name → ¬ (get_or kinds (i + 1) 0 ≡ kind.open_subscript) → t' ≡ sets t (row_words * n) (row layout.variable i 0 0)
      → Reads operand_form kinds values i n t (done (i + 1) (n + 1) 0 1) t'
  unfolding count_operand rows_operand
  operand_variable t' e z h =
      let l = inside kinds i kind.name e (omega arith) in (
        record { short = omega arith; grew = omega arith; few = omega arith; shallow = omega arith; low = omega arith },
        record {
          tree = variable i;
          counted = refl;
          table = h;
          depths = refl;
          deepests = refl;
          comes = λ k. rw (unread_name kinds values i e) (run_name _ k i ∙ run_variable _ k i (unread_not kinds values (i + 1) kind.open_subscript (omega arith) z));
        },
      )

  pub operand_none : i ≤ length kinds → (t' : List ℕ) → ¬ (get_or kinds i 0 ≡ kind.number) → ¬ (get_or kinds i 0 ≡ kind.name) → ¬ (get_or kinds i 0 ≡ kind.open_bracket)
      → Reads operand_form kinds values i n t (bad i) t'
  operand_none l t' a b c = (l, λ k. no_operand kinds values i k a b c)

  into_brackets : get_or kinds i 0 ≡ kind.open_bracket → (k : OperandContext) → run (unread kinds values i) (need_operand k) ≡ run (unread kinds values (i + 1)) (need_expression (in_brackets k))
  into_brackets e k = rw (unread_mark kinds values i kind.open_bracket e (omega arith)) (run_brackets _ k)

  brackets_by : (q : Read) (t' : List ℕ) → get_or kinds i 0 ≡ kind.open_bracket
      → Reads (closing expression_form OperandContext in_brackets (λ e k. have_operand (bracketed e) k)) kinds values (i + 1) n t q t'
      → Reads operand_form kinds values i n t (deepened q 0 0 0 1) t'
  unfolding count_operand rows_operand
  brackets_by (Ok p) t' e h =
      let w = h.0 in
      let x = h.1.depths in
      let y = h.1.deepests in (
        record { short = w.short; grew = w.grew; few = omega arith; shallow = omega arith; low = omega arith },
        record { tree = bracketed h.1.tree; counted = h.1.counted; table = h.1.table; depths = omega arith; deepests = omega arith; comes = λ k. into_brackets e k ∙ h.1.comes k },
      )
  brackets_by (Err x) t' e h = (h.0, λ k. into_brackets e k ∙ h.1 k)

  into_subscript : get_or kinds i 0 ≡ kind.name → get_or kinds (i + 1) 0 ≡ kind.open_subscript → (k : OperandContext)
      → run (unread kinds values i) (need_operand k) ≡ run (unread kinds values (i + 2)) (need_expression (in_subscript i k))
  into_subscript e f k = rw (unread_name kinds values i e)
      (run_name _ k i ∙ rw (unread_mark kinds values (i + 1) kind.open_subscript f (omega arith))
      (run_subscript _ k i ∙ ap (λ (x : ℕ). run (unread kinds values x) (need_expression (in_subscript i k))) (omega arith)))

  element_by : (q : Read) (t' : List ℕ) → get_or kinds i 0 ≡ kind.name → get_or kinds (i + 1) 0 ≡ kind.open_subscript
      → Reads (closing expression_form OperandContext (in_subscript i) (λ e k. have_operand (element i e) k)) kinds values (i + 2) n t q t'
      → Reads operand_form kinds values i n t (deepened (counted_row q) 0 0 0 1) (tabled t' q (row_of_last layout.element i))
  unfolding count_operand rows_operand
  element_by (Ok p) t' e f h =
      let w = h.0 in
      let c = h.1.counted in
      let x = h.1.depths in
      let y = h.1.deepests in (
        record { short = w.short; grew = omega arith; few = omega arith; shallow = omega arith; low = omega arith },
        record {
          tree = element i h.1.tree;
          counted = omega arith;
          table = rw c (table_one t t' (rows_expression h.1.tree n) _ n (count_expression h.1.tree) p.rows (length_expression h.1.tree n) c h.1.table);
          depths = omega arith;
          deepests = omega arith;
          comes = λ k. into_subscript e f k ∙ h.1.comes k;
        },
      )
  element_by (Err x) t' e f h = (h.0, λ k. into_subscript e f k ∙ h.1 k)

module _ (kinds values : List ℕ) (i n : ℕ) (t : List ℕ) (r : Read) (t' : List ℕ) where
  pub operand_brackets : get_or kinds i 0 ≡ kind.open_bracket → Reads expression_form kinds values (i + 1) n t r t'
      → Reads operand_form kinds values i n t (deepened (closed kinds kind.close_bracket r) 0 0 0 1) t'
  operand_brackets e h = brackets_by kinds values i n t (closed kinds kind.close_bracket r) t' e
      (close_part kinds values (i + 1) n t expression_form OperandContext in_brackets (λ e k. have_operand (bracketed e) k) kind.close_bracket (omega arith)
      (λ w e k. run_brackets_end w k e) (λ w e k z. run_brackets_stop w k e z) r t' h)

  pub operand_element : get_or kinds i 0 ≡ kind.name → get_or kinds (i + 1) 0 ≡ kind.open_subscript → Reads expression_form kinds values (i + 2) n t r t'
      → Reads operand_form kinds values i n t (deepened (counted_row (closed kinds kind.close_subscript r)) 0 0 0 1)
      (tabled t' (closed kinds kind.close_subscript r) (row_of_last layout.element i))
  operand_element e f h = element_by kinds values i n t (closed kinds kind.close_subscript r) t' e f
      (close_part kinds values (i + 2) n t expression_form OperandContext (in_subscript i) (λ e k. have_operand (element i e) k) kind.close_subscript (omega arith)
      (λ w e k. run_subscript_end w k i e) (λ w e k z. run_subscript_stop w k i e z) r t' h)

-- expressions and chains
module _ (kinds values : List ℕ) (i n : ℕ) (t : List ℕ) where
  to_operand : is_monadic (get_or kinds i 0) ≡ false → (k : ExpressionContext) → run (unread kinds values i) (need_expression k) ≡ run (unread kinds values i) (need_operand (first k))
  to_operand z k = run_expression _ k (unread_negates kinds values i ∙ z)

  into_monadic : (o : ℕ) → get_or kinds i 0 ≡ o → 2 < o → is_monadic o ≡ true → (k : ExpressionContext)
      → run (unread kinds values i) (need_expression k) ≡ run (unread kinds values (i + 1)) (need_operand (under o k))
  into_monadic o e big z k = rw (unread_mark kinds values i o e big) (run_monadic _ k o z)

  pub expression_monadic : (o : ℕ) (r : Read) (t' : List ℕ) → get_or kinds i 0 ≡ o → 2 < o → is_monadic o ≡ true → Reads operand_form kinds values (i + 1) n t r t'
      → Reads expression_form kinds values i n t (deepened (counted_row r) 0 0 0 1) (tabled t' r (row_of_last layout.monadic (monadic_number o)))
  unfolding count_expression rows_expression
  expression_monadic o (Ok p) t' e big z h =
      let w = h.0 in
      let c = h.1.counted in
      let x = h.1.depths in
      let y = h.1.deepests in (
        record { short = w.short; grew = omega arith; few = omega arith; shallow = omega arith; low = omega arith },
        record {
          tree = monadic o h.1.tree;
          counted = omega arith;
          table = rw c (table_one t t' (rows_operand h.1.tree n) _ n (count_operand h.1.tree) p.rows (length_operand h.1.tree n) c h.1.table);
          depths = omega arith;
          deepests = omega arith;
          comes = λ k. into_monadic o e big z k ∙ h.1.comes (under o k) ∙ run_under _ k o _;
        },
      )
  expression_monadic o (Err x) t' e big z h = (h.0, λ k. into_monadic o e big z k ∙ h.1 (under o k))

  pub expression_bad : (x : Ungrammatical) (t' : List ℕ) → is_monadic (get_or kinds i 0) ≡ false → Reads operand_form kinds values i n t (Err x) t'
      → Reads expression_form kinds values i n t (Err x) t'
  expression_bad x t' z h = (h.0, λ k. to_operand z k ∙ h.1 (first k))

  pub chain_bad : (o : ℕ) (x : Ungrammatical) (t' : List ℕ) → Reads operand_form kinds values i n t (Err x) t' → Reads (chain_form o) kinds values i n t (Err x) t'
  chain_bad o x t' h = (h.0, λ k. h.1 (next o k))

  -- an operand, its rows up to m, and the token at j after it
  module _ (p : Extent) (t' : List ℕ) (h : Reads operand_form kinds values i n t (Ok p) t') where
    pub expression_single : is_monadic (get_or kinds i 0) ≡ false → is_diadic (get_or kinds p.next 0) ≡ false → Reads expression_form kinds values i n t (Ok p) t'
    unfolding count_expression rows_expression
    expression_single z y = (
      h.0,
      record {
        tree = single h.1.tree;
        counted = h.1.counted;
        table = h.1.table;
        depths = h.1.depths;
        deepests = h.1.deepests;
        comes = λ k. to_operand z k ∙ h.1.comes (first k) ∙ run_single _ k h.1.tree (unread_joins kinds values p.next ∙ y);
      },
    )

    pub chain_last : (o : ℕ) → 2 < o → pick (is_associative o) (eqb (get_or kinds p.next 0) o) false ≡ false → Reads (chain_form o) kinds values i n t (Ok p) t'
    unfolding count_chain rows_chain
    chain_last o big z = (
      h.0,
      record {
        tree = last h.1.tree;
        counted = h.1.counted;
        table = h.1.table;
        depths = h.1.depths;
        deepests = h.1.deepests;
        comes = λ k. h.1.comes (next o k) ∙ run_last _ k o h.1.tree (unread_goes_on kinds values p.next o big ∙ z);
      },
    )

    -- an operator o at p.next, and the operands after it
    module _ (o : ℕ) (e : get_or kinds p.next 0 ≡ o) (big : 2 < o) where
      pub expression_diadic : is_monadic (get_or kinds i 0) ≡ false → is_diadic o ≡ true → (r : Read) (t'' : List ℕ) → Reads (chain_form o) kinds values (p.next + 1) p.rows t' r t''
          → Reads expression_form kinds values i n t (deepened (counted_row r) 0 p.deepest 0 1) (tabled t'' r (row_of_two layout.diadic (diadic_number o) (p.rows - 1)))
      unfolding count_expression rows_expression
      expression_diadic y z (Ok q) t'' g =
          let w = h.0 in
          let u = g.0 in
          let c = h.1.counted in
          let c' = g.1.counted in
          let x1 = h.1.deepests in
          let x2 = g.1.deepests in
          let x3 = g.1.depths in (
            record { short = u.short; grew = omega arith; few = omega arith; shallow = omega arith; low = omega arith },
            record {
              tree = diadic o h.1.tree g.1.tree;
              counted = omega arith;
              table = rw (c, c')
                  (table_two t t' t'' (rows_operand h.1.tree n) (rows_chain g.1.tree o p.rows) _ n (count_operand h.1.tree) p.rows (count_chain g.1.tree) q.rows (length_operand h.1.tree n)
                  (length_chain g.1.tree o p.rows) c c' h.1.table g.1.table);
              depths = omega arith;
              deepests = omega arith;
              comes = λ K. to_operand y K ∙ h.1.comes (first K) ∙ rw (unread_mark kinds values p.next o e big) (run_diadic _ K o _ z ∙ g.1.comes (after h.1.tree K));
            },
          )
      expression_diadic y z (Err x) t'' g = (g.0, λ K. to_operand y K ∙ h.1.comes (first K) ∙ rw (unread_mark kinds values p.next o e big) (run_diadic _ K o _ z ∙ g.1 (after h.1.tree K)))

      pub chain_more : is_associative o ≡ true → (r : Read) (t'' : List ℕ) → Reads (chain_form o) kinds values (p.next + 1) p.rows t' r t''
          → Reads (chain_form o) kinds values i n t (deepened (counted_row r) 0 p.deepest 0 1) (tabled t'' r (row_of_two layout.diadic (diadic_number o) (p.rows - 1)))
      unfolding count_chain rows_chain
      chain_more z (Ok q) t'' g =
          let w = h.0 in
          let u = g.0 in
          let c = h.1.counted in
          let c' = g.1.counted in
          let x1 = h.1.deepests in
          let x2 = g.1.deepests in
          let x3 = g.1.depths in (
            record { short = u.short; grew = omega arith; few = omega arith; shallow = omega arith; low = omega arith },
            record {
              tree = more h.1.tree g.1.tree;
              counted = omega arith;
              table = rw (c, c')
                  (table_two t t' t'' (rows_operand h.1.tree n) (rows_chain g.1.tree o p.rows) _ n (count_operand h.1.tree) p.rows (count_chain g.1.tree) q.rows (length_operand h.1.tree n)
                  (length_chain g.1.tree o p.rows) c c' h.1.table g.1.table);
              depths = omega arith;
              deepests = omega arith;
              comes = λ K. h.1.comes (next o K) ∙ rw (unread_mark kinds values p.next o e big) (run_link _ K o _ z ∙ g.1.comes (link h.1.tree K));
            },
          )
      chain_more z (Err x) t'' g = (g.0, λ K. h.1.comes (next o K) ∙ rw (unread_mark kinds values p.next o e big) (run_link _ K o _ z ∙ g.1 (link h.1.tree K)))
