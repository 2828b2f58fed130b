-- What the answer of a reader of processes says, from what its calls' say. Laws; rests on the laws of the expressions' readers.
use Rattle.std.specs.Prelude.{◌≡◌, refl, List, ℕ, zero, suc, ◌+◌, ◌-◌, ◌*◌, ◌<◌, ◌≤◌, max, Bool, ltb, length, get_or, Ok, Err}
use Rattle.std.proofs.Math.Path.{ap}
use Rattle.std.proofs.Common.{subst, ◌∙◌, ltb-true, ltb-false}
use native.Mathlib.Omega.{arith}
use Rattle.std.proofs.lemmas.List.Edits.{sets}
use Rattle.arm_word.specs.ChoiceLaws.{by_test}
use Rattle.x_spelling.specs.Kinds as kind
use Rattle.x_grammar.specs.Grammar.{Expression, skip, stop, assign, assign_element, empty, braces, conditional, while, after_comment, only, followed}
use Rattle.x_grammar.specs.Automaton.{ProcessContext, in_braces, in_then, in_else, in_body, in_comment, opened, also, in_assign, in_target, in_assign_element, in_if, in_while, need_process}
use Rattle.x_grammar.specs.Automaton.{target_element, have_process, need_expression, run}
use Rattle.x_grammar.specs.TokenArrays.{unread}
use Rattle.x_grammar.specs.RawRows.{row, count_expression, count_process, count_processes, rows_expression, rows_process, rows_processes}
use Rattle.x_grammar.specs.RawRowLaws.{length_expression, length_process, length_processes}
use Rattle.x_grammar.specs.AutomatonMoves.{run_skip, run_stop, run_comment, run_target, run_becomes, run_target_subscript, run_target_end, run_element_becomes, run_open, run_empty, run_if, run_then}
use Rattle.x_grammar.specs.AutomatonMoves.{run_else, run_while, run_do, run_assigned, run_element_assigned, run_opened, run_conditional, run_repeated, run_commented, run_target_stop}
use Rattle.x_grammar.specs.AutomatonMoves.{run_target_end_stop}
use Rattle.x_grammar.specs.AutomatonMoves.{run_element_stop, run_then_stop, run_else_stop, run_do_stop, run_close, run_semicolon, run_list_stop}
use Rattle.x_grammar.specs.Unread.{inside, unread_name, unread_mark, unread_not, no_process}
use Rattle.x_program.specs.Layout.{row_words}
use Rattle.x_program.specs.Layout as layout
use Rattle.front_read_expressions.specs.Reads.{Read, done, bad, Form, Reads, expression_form, closed, deepened, counted_row, tabled, row_of_last, row_of_two}
use Rattle.front_read_expressions.specs.Parts.{table_one, table_two, table_three, closing, close_part}
use Rattle.front_read_expressions.specs.declared.Extent.{Extent}
use Rattle.front_read_expressions.specs.declared.Ungrammatical.{Ungrammatical}
use Rattle.front_read_processes.specs.Forms.{process_form, list_form, Comments}

-- a part, with the token that closes it
abbrev pub subscript_form : ℕ → Form
subscript_form x = closing expression_form ProcessContext (in_target x) (λ s k. target_element x s k)

abbrev pub target_form : ℕ → Form
target_form x = closing (subscript_form x) ProcessContext (λ k. k) (λ s k. need_expression (in_assign_element x s k))

abbrev pub if_form : Form
if_form = closing expression_form ProcessContext in_if (λ e k. need_process (in_then e k))

abbrev pub then_form : Expression → Form
then_form e = closing process_form ProcessContext (in_then e) (λ p k. need_process (in_else e p k))

abbrev pub while_form : Form
while_form = closing expression_form ProcessContext in_while (λ e k. need_process (in_body e k))

module _ (kinds values : List ℕ) (i n : ℕ) (t : List ℕ) (r : Read) (t' : List ℕ) where
  pub close_target : (x : ℕ) → Reads expression_form kinds values i n t r t' → Reads (target_form x) kinds values i n t (closed kinds kind.becomes (closed kinds kind.close_subscript r)) t'
  close_target x h =
      close_part kinds values i n t (subscript_form x) ProcessContext (λ k. k) (λ s k. need_expression (in_assign_element x s k)) kind.becomes (omega arith)
      (λ w s k. run_element_becomes w k x s) (λ w s k z. run_element_stop k w x s z) (closed kinds kind.close_subscript r) t'
      (close_part kinds values i n t expression_form ProcessContext (in_target x) (λ s k. target_element x s k) kind.close_subscript (omega arith) (λ w s k. run_target_end w k x s)
      (λ w s k z. run_target_end_stop k w x s z) r t' h)

  pub close_if : Reads expression_form kinds values i n t r t' → Reads if_form kinds values i n t (closed kinds kind.then r) t'
  close_if h = close_part kinds values i n t expression_form ProcessContext in_if (λ e k. need_process (in_then e k)) kind.then (omega arith) (λ w e k. run_then w k e)
      (λ w e k z. run_then_stop k w e z) r t' h

  pub close_then : (e : Expression) → Reads process_form kinds values i n t r t' → Reads (then_form e) kinds values i n t (closed kinds kind.else r) t'
  close_then e h = close_part kinds values i n t process_form ProcessContext (in_then e) (λ p k. need_process (in_else e p k)) kind.else (omega arith) (λ w p k. run_else w k e p)
      (λ w p k z. run_else_stop k w e p z) r t' h

  pub close_while : Reads expression_form kinds values i n t r t' → Reads while_form kinds values i n t (closed kinds kind.do_word r) t'
  close_while h = close_part kinds values i n t expression_form ProcessContext in_while (λ e k. need_process (in_body e k)) kind.do_word (omega arith) (λ w e k. run_do w k e)
      (λ w e k z. run_do_stop k w e z) r t' h

module _ (kinds values : List ℕ) (i n : ℕ) (t : List ℕ) where
  -- one token, or two
  pub process_skip : (t' : List ℕ) → get_or kinds i 0 ≡ kind.skip → t' ≡ sets t (row_words * n) (row layout.skip 0 0 0) → Reads process_form kinds values i n t (done (i + 1) (n + 1) 1 0) t'
  unfolding count_process rows_process
  process_skip t' e h =
      let l = inside kinds i kind.skip e (omega arith) in (
        record { short = omega arith; grew = omega arith; few = omega arith; shallow = omega arith; low = omega arith },
        record { tree = skip; counted = refl; table = h; depths = refl; deepests = refl; comes = λ k. rw (unread_mark kinds values i kind.skip e (omega arith)) (run_skip _ k) },
      )

  pub process_stop : (t' : List ℕ) → get_or kinds i 0 ≡ kind.stop → t' ≡ sets t (row_words * n) (row layout.stop 0 0 0) → Reads process_form kinds values i n t (done (i + 1) (n + 1) 1 0) t'
  unfolding count_process rows_process
  process_stop t' e h =
      let l = inside kinds i kind.stop e (omega arith) in (
        record { short = omega arith; grew = omega arith; few = omega arith; shallow = omega arith; low = omega arith },
        record { tree = stop; counted = refl; table = h; depths = refl; deepests = refl; comes = λ k. rw (unread_mark kinds values i kind.stop e (omega arith)) (run_stop _ k) },
      )

  pub process_empty : (t' : List ℕ) → get_or kinds i 0 ≡ kind.open_brace → get_or kinds (i + 1) 0 ≡ kind.close_brace → t' ≡ sets t (row_words * n) (row layout.skip 0 0 0)
      → Reads process_form kinds values i n t (done (i + 2) (n + 1) 1 0) t'
  unfolding count_process rows_process
  process_empty t' e f h =
      let l = inside kinds (i + 1) kind.close_brace f (omega arith) in (
        record { short = omega arith; grew = omega arith; few = omega arith; shallow = omega arith; low = omega arith },
        record {
          tree = empty;
          counted = refl;
          table = h;
          depths = refl;
          deepests = refl;
          comes = λ k. rw (unread_mark kinds values i kind.open_brace e (omega arith))
              (run_open _ k
              ∙ rw (unread_mark kinds values (i + 1) kind.close_brace f (omega arith)) (run_empty _ k ∙ ap (λ (x : ℕ). run (unread kinds values x) (have_process empty k)) (omega arith)));
        },
      )

  pub process_none : i ≤ length kinds → (t' : List ℕ) → ¬ (get_or kinds i 0 ≡ kind.skip) → ¬ (get_or kinds i 0 ≡ kind.stop) → ¬ (get_or kinds i 0 ≡ kind.name)
      → ¬ (get_or kinds i 0 ≡ kind.open_brace) → ¬ (get_or kinds i 0 ≡ kind.if) → ¬ (get_or kinds i 0 ≡ kind.while) → ¬ (get_or kinds i 0 ≡ kind.comment)
      → Reads process_form kinds values i n t (bad i) t'
  process_none l t' a b c d e f g = (l, λ k. no_process kinds values i k a b c d e f g)

  -- a comment adds nothing
  into_comment : get_or kinds i 0 ≡ kind.comment → (k : ProcessContext) → run (unread kinds values i) (need_process k) ≡ run (unread kinds values (i + 1)) (need_process (in_comment k))
  into_comment e k = rw (unread_mark kinds values i kind.comment e (omega arith)) (run_comment _ k)

  pub process_comment : (r : Read) (t' : List ℕ) → get_or kinds i 0 ≡ kind.comment → Reads process_form kinds values (i + 1) n t r t' → Reads process_form kinds values i n t r t'
  unfolding count_process rows_process
  process_comment (Ok p) t' e h =
      let w = h.0 in (
        record { short = w.short; grew = w.grew; few = omega arith; shallow = omega arith; low = omega arith },
        record {
          tree = after_comment h.1.tree;
          counted = h.1.counted;
          table = h.1.table;
          depths = h.1.depths;
          deepests = h.1.deepests;
          comes = λ k. into_comment e k ∙ h.1.comes (in_comment k) ∙ run_commented k _ _;
        },
      )
  process_comment (Err x) t' e h = (h.0, λ k. into_comment e k ∙ h.1 (in_comment k))

  -- assignments
  into_assign : get_or kinds i 0 ≡ kind.name → get_or kinds (i + 1) 0 ≡ kind.becomes → (k : ProcessContext)
      → run (unread kinds values i) (need_process k) ≡ run (unread kinds values (i + 2)) (need_expression (in_assign i k))
  into_assign e f k = rw (unread_name kinds values i e)
      (run_target _ k i ∙ rw (unread_mark kinds values (i + 1) kind.becomes f (omega arith))
      (run_becomes _ k i ∙ ap (λ (x : ℕ). run (unread kinds values x) (need_expression (in_assign i k))) (omega arith)))

  pub process_assign : (r : Read) (t' : List ℕ) → get_or kinds i 0 ≡ kind.name → get_or kinds (i + 1) 0 ≡ kind.becomes → Reads expression_form kinds values (i + 2) n t r t'
      → Reads process_form kinds values i n t (deepened (counted_row r) 0 0 1 0) (tabled t' r (row_of_last layout.assign i))
  unfolding count_process rows_process
  process_assign (Ok p) t' e f h =
      let w = h.0 in
      let c = h.1.counted in
      let x = h.1.depths in
      let y = h.1.deepests in (
        record { short = w.short; grew = omega arith; few = omega arith; shallow = omega arith; low = omega arith },
        record {
          tree = assign i h.1.tree;
          counted = omega arith;
          table = rw c (table_one t t' (rows_expression h.1.tree n) _ n (count_expression h.1.tree) p.rows (length_expression h.1.tree n) c h.1.table);
          depths = omega arith;
          deepests = omega arith;
          comes = λ k. into_assign e f k ∙ h.1.comes (in_assign i k) ∙ run_assigned k _ i _;
        },
      )
  process_assign (Err x) t' e f h = (h.0, λ k. into_assign e f k ∙ h.1 (in_assign i k))

  pub process_assign_stop : (t' : List ℕ) → get_or kinds i 0 ≡ kind.name → ¬ (get_or kinds (i + 1) 0 ≡ kind.becomes) → ¬ (get_or kinds (i + 1) 0 ≡ kind.open_subscript)
      → Reads process_form kinds values i n t (bad (i + 1)) t'
  process_assign_stop t' e z y =
      let l = inside kinds i kind.name e (omega arith) in (
        omega arith,
        λ k. rw (unread_name kinds values i e)
            (run_target _ k i ∙ run_target_stop k _ i (unread_not kinds values (i + 1) kind.becomes (omega arith) z) (unread_not kinds values (i + 1) kind.open_subscript (omega arith) y)),
      )

  module _ (e : get_or kinds i 0 ≡ kind.name) (f : get_or kinds (i + 1) 0 ≡ kind.open_subscript) where
    into_target : (k : ProcessContext) → run (unread kinds values i) (need_process k) ≡ run (unread kinds values (i + 2)) (need_expression (in_target i k))
    into_target k = rw (unread_name kinds values i e)
        (run_target _ k i ∙ rw (unread_mark kinds values (i + 1) kind.open_subscript f (omega arith))
        (run_target_subscript _ k i ∙ ap (λ (x : ℕ). run (unread kinds values x) (need_expression (in_target i k))) (omega arith)))

    pub element_bad : (x : Ungrammatical) (t' : List ℕ) → Reads (target_form i) kinds values (i + 2) n t (Err x) t' → Reads process_form kinds values i n t (Err x) t'
    element_bad x t' h = (h.0, λ k. into_target k ∙ h.1 k)

    pub process_assign_element : (p : Extent) (t' : List ℕ) → Reads (target_form i) kinds values (i + 2) n t (Ok p) t' → (r : Read) (t'' : List ℕ)
        → Reads expression_form kinds values p.next p.rows t' r t''
        → Reads process_form kinds values i n t (deepened (counted_row r) 0 (p.deepest + 1) 1 0) (tabled t'' r (row_of_two layout.assign_element i (p.rows - 1)))
    unfolding count_process rows_process
    process_assign_element p t' h (Ok q) t'' g =
        let w = h.0 in
        let u = g.0 in
        let c = h.1.counted in
        let c' = g.1.counted in
        let x1 = h.1.deepests in
        let x2 = g.1.deepests in
        let x3 = g.1.depths in (
          record { short = u.short; grew = omega arith; few = omega arith; shallow = omega arith; low = omega arith },
          record {
            tree = assign_element i h.1.tree g.1.tree;
            counted = omega arith;
            table = rw (c, c')
                (table_two t t' t'' (rows_expression h.1.tree n) (rows_expression g.1.tree p.rows) _ n (count_expression h.1.tree) p.rows (count_expression g.1.tree) q.rows
                (length_expression h.1.tree n) (length_expression g.1.tree p.rows) c c' h.1.table g.1.table);
            depths = omega arith;
            deepests = omega arith;
            comes = λ K. into_target K ∙ h.1.comes K ∙ g.1.comes (in_assign_element i h.1.tree K) ∙ run_element_assigned K _ i _ _;
          },
        )
    process_assign_element p t' h (Err x) t'' g = (g.0, λ K. into_target K ∙ h.1.comes K ∙ g.1 (in_assign_element i h.1.tree K))

  -- braces
  into_braces : get_or kinds i 0 ≡ kind.open_brace → ¬ (get_or kinds (i + 1) 0 ≡ kind.close_brace) → (k : ProcessContext)
      → run (unread kinds values i) (need_process k) ≡ run (unread kinds values (i + 1)) (need_process (in_braces (opened k)))
  into_braces e z k = rw (unread_mark kinds values i kind.open_brace e (omega arith)) (run_open _ k ∙ run_opened k _ (unread_not kinds values (i + 1) kind.close_brace (omega arith) z))

  pub process_braces : (r : Read) (t' : List ℕ) → get_or kinds i 0 ≡ kind.open_brace → ¬ (get_or kinds (i + 1) 0 ≡ kind.close_brace) → Reads list_form kinds values (i + 1) n t r t'
      → Reads process_form kinds values i n t (deepened r 0 0 1 0) t'
  unfolding count_process rows_process
  process_braces (Ok p) t' e z h =
      let w = h.0 in
      let x = h.1.depths in
      let y = h.1.deepests in (
        record { short = w.short; grew = w.grew; few = omega arith; shallow = omega arith; low = omega arith },
        record
            { tree = braces h.1.tree; counted = h.1.counted; table = h.1.table; depths = omega arith; deepests = omega arith; comes = λ k. into_braces e z k ∙ h.1.comes (opened k) },
      )
  process_braces (Err x) t' e z h = (h.0, λ k. into_braces e z k ∙ h.1 (opened k))

  pub list_bad : (x : Ungrammatical) (t' : List ℕ) → Reads process_form kinds values i n t (Err x) t' → Reads list_form kinds values i n t (Err x) t'
  list_bad x t' h = (h.0, λ k. h.1 (in_braces k))

  module _ (p : Extent) (t' : List ℕ) (h : Reads process_form kinds values i n t (Ok p) t') where
    pub list_last : get_or kinds p.next 0 ≡ kind.close_brace → Reads list_form kinds values i n t (done (p.next + 1) p.rows p.depth p.deepest) t'
    unfolding count_processes rows_processes
    list_last e =
        let w = h.0 in
        let l = inside kinds p.next kind.close_brace e (omega arith) in (
          record { short = omega arith; grew = w.grew; few = omega arith; shallow = omega arith; low = omega arith },
          record {
            tree = only h.1.tree;
            counted = h.1.counted;
            table = h.1.table;
            depths = h.1.depths;
            deepests = h.1.deepests;
            comes = λ k. h.1.comes (in_braces k) ∙ rw (unread_mark kinds values p.next kind.close_brace e (omega arith)) (run_close _ k _);
          },
        )

    pub list_stop : ¬ (get_or kinds p.next 0 ≡ kind.semicolon) → ¬ (get_or kinds p.next 0 ≡ kind.close_brace) → Reads list_form kinds values i n t (bad p.next) t'
    list_stop a b = (
      h.0.short,
      λ k.
          h.1.comes (in_braces k) ∙ run_list_stop h.1.tree k _ (unread_not kinds values p.next kind.semicolon (omega arith) a) (unread_not kinds values p.next kind.close_brace (omega arith) b),
    )

    pub list_more : (r : Read) (t'' : List ℕ) → get_or kinds p.next 0 ≡ kind.semicolon → Reads list_form kinds values (p.next + 1) p.rows t' r t''
        → Reads list_form kinds values i n t (deepened (counted_row r) p.depth p.deepest 0 0) (tabled t'' r (row_of_last layout.sequence (p.rows - 1)))
    unfolding count_processes rows_processes
    list_more (Ok q) t'' e g =
        let w = h.0 in
        let u = g.0 in
        let c = h.1.counted in
        let c' = g.1.counted in
        let x1 = h.1.deepests in
        let x2 = g.1.deepests in
        let x3 = h.1.depths in
        let x4 = g.1.depths in (
          record { short = u.short; grew = omega arith; few = omega arith; shallow = omega arith; low = omega arith },
          record {
            tree = followed h.1.tree g.1.tree;
            counted = omega arith;
            table = rw (c, c')
                (table_two t t' t'' (rows_process h.1.tree n) (rows_processes g.1.tree p.rows) _ n (count_process h.1.tree) p.rows (count_processes g.1.tree) q.rows (length_process h.1.tree n)
                (length_processes g.1.tree p.rows) c c' h.1.table g.1.table);
            depths = omega arith;
            deepests = omega arith;
            comes = λ K. h.1.comes (in_braces K) ∙ rw (unread_mark kinds values p.next kind.semicolon e (omega arith)) (run_semicolon _ K _ ∙ g.1.comes (also h.1.tree K));
          },
        )
    list_more (Err x) t'' e g = (g.0, λ K. h.1.comes (in_braces K) ∙ rw (unread_mark kinds values p.next kind.semicolon e (omega arith)) (run_semicolon _ K _ ∙ g.1 (also h.1.tree K)))

  -- while
  module _ (is_while : get_or kinds i 0 ≡ kind.while) where
    into_while : (k : ProcessContext) → run (unread kinds values i) (need_process k) ≡ run (unread kinds values (i + 1)) (need_expression (in_while k))
    into_while k = rw (unread_mark kinds values i kind.while is_while (omega arith)) (run_while _ k)

    pub while_bad : (x : Ungrammatical) (t' : List ℕ) → Reads while_form kinds values (i + 1) n t (Err x) t' → Reads process_form kinds values i n t (Err x) t'
    while_bad x t' h = (h.0, λ k. into_while k ∙ h.1 k)

    pub process_while : (p : Extent) (t' : List ℕ) → Reads while_form kinds values (i + 1) n t (Ok p) t' → (r : Read) (t'' : List ℕ)
        → Reads process_form kinds values p.next p.rows t' r t''
        → Reads process_form kinds values i n t (deepened (counted_row r) 0 p.deepest 1 0) (tabled t'' r (row_of_last layout.while (p.rows - 1)))
    unfolding count_process rows_process
    process_while p t' h (Ok q) t'' g =
        let w = h.0 in
        let u = g.0 in
        let c = h.1.counted in
        let c' = g.1.counted in
        let x1 = h.1.deepests in
        let x2 = g.1.deepests in
        let x3 = g.1.depths in (
          record { short = u.short; grew = omega arith; few = omega arith; shallow = omega arith; low = omega arith },
          record {
            tree = while h.1.tree g.1.tree;
            counted = omega arith;
            table = rw (c, c')
                (table_two t t' t'' (rows_expression h.1.tree n) (rows_process g.1.tree p.rows) _ n (count_expression h.1.tree) p.rows (count_process g.1.tree) q.rows
                (length_expression h.1.tree n) (length_process g.1.tree p.rows) c c' h.1.table g.1.table);
            depths = omega arith;
            deepests = omega arith;
            comes = λ K. into_while K ∙ h.1.comes K ∙ g.1.comes (in_body h.1.tree K) ∙ run_repeated K _ _ _;
          },
        )
    process_while p t' h (Err x) t'' g = (g.0, λ K. into_while K ∙ h.1.comes K ∙ g.1 (in_body h.1.tree K))

  -- if
  module _ (is_if : get_or kinds i 0 ≡ kind.if) where
    into_if : (k : ProcessContext) → run (unread kinds values i) (need_process k) ≡ run (unread kinds values (i + 1)) (need_expression (in_if k))
    into_if k = rw (unread_mark kinds values i kind.if is_if (omega arith)) (run_if _ k)

    pub if_bad : (x : Ungrammatical) (t' : List ℕ) → Reads if_form kinds values (i + 1) n t (Err x) t' → Reads process_form kinds values i n t (Err x) t'
    if_bad x t' h = (h.0, λ k. into_if k ∙ h.1 k)

    module _ (p : Extent) (t₁ : List ℕ) (h : Reads if_form kinds values (i + 1) n t (Ok p) t₁) where
      pub then_bad : (x : Ungrammatical) (t₂ : List ℕ) → Reads (then_form h.1.tree) kinds values p.next p.rows t₁ (Err x) t₂ → Reads process_form kinds values i n t (Err x) t₂
      then_bad x t₂ g = (g.0, λ k. into_if k ∙ h.1.comes k ∙ g.1 k)

      pub process_if : (q : Extent) (t₂ : List ℕ) → Reads (then_form h.1.tree) kinds values p.next p.rows t₁ (Ok q) t₂ → (r : Read) (t₃ : List ℕ)
          → Reads process_form kinds values q.next q.rows t₂ r t₃
          → Reads process_form kinds values i n t (deepened (counted_row r) q.depth (max p.deepest q.deepest) 1 0) (tabled t₃ r (row_of_two layout.if (p.rows - 1) (q.rows - 1)))
      unfolding count_process rows_process
      process_if q t₂ g (Ok s) t₃ z =
          let w = h.0 in
          let u = g.0 in
          let v = z.0 in
          let c1 = h.1.counted in
          let c2 = g.1.counted in
          let c3 = z.1.counted in
          let x1 = h.1.deepests in
          let x2 = g.1.deepests in
          let x3 = z.1.deepests in
          let y2 = g.1.depths in
          let y3 = z.1.depths in (
            record { short = v.short; grew = omega arith; few = omega arith; shallow = omega arith; low = omega arith },
            record {
              tree = conditional h.1.tree g.1.tree z.1.tree;
              counted = omega arith;
              table = rw (c1, c2, c3)
                  (table_three t t₁ t₂ t₃ (rows_expression h.1.tree n) (rows_process g.1.tree p.rows) (rows_process z.1.tree q.rows) _ n (count_expression h.1.tree) p.rows
                  (count_process g.1.tree) q.rows (count_process z.1.tree) s.rows (length_expression h.1.tree n) (length_process g.1.tree p.rows) (length_process z.1.tree q.rows) c1 c2 c3
                  h.1.table g.1.table z.1.table);
              depths = omega arith;
              deepests = omega arith;
              comes = λ K. into_if K ∙ h.1.comes K ∙ g.1.comes K ∙ z.1.comes (in_else h.1.tree g.1.tree K) ∙ run_conditional K _ _ _ _;
            },
          )
      process_if q t₂ g (Err x) t₃ z = (z.0, λ K. into_if K ∙ h.1.comes K ∙ g.1.comes K ∙ z.1 (in_else h.1.tree g.1.tree K))

-- any number of comments adds nothing
pub comments_none : (kinds : List ℕ) (i : ℕ) → i ≤ length kinds → Comments kinds i i
comments_none kinds i l = record { from = omega arith; short = l; all = λ x a b. absurd (omega arith) }

pub comments_more : (kinds : List ℕ) (i j : ℕ) → Comments kinds i j → get_or kinds j 0 ≡ kind.comment → Comments kinds i (j + 1)
comments_more kinds i j g e =
    let f = g.from in
    let l = inside kinds j kind.comment e (omega arith) in
    record {
      from = omega arith;
      short = omega arith;
      all = λ x a b. by_test (λ (q : Bool). get_or kinds x 0 ≡ kind.comment) (ltb x j) (λ q. g.all x a (ltb-true x j q))
          (λ q. let z = ltb-false x j q in subst (λ (y : ℕ). get_or kinds y 0 ≡ kind.comment) (let w : j ≡ x = omega arith in w) e);
    }

comments_before : (c : ℕ) (kinds values : List ℕ) (i j n : ℕ) (t : List ℕ) (r : Read) (t' : List ℕ) → i + c ≡ j → ((x : ℕ) → i ≤ x → x < j → get_or kinds x 0 ≡ kind.comment)
    → Reads process_form kinds values j n t r t' → Reads process_form kinds values i n t r t'
comments_before zero kinds values i j n t r t' e all h = subst (λ (x : ℕ). Reads process_form kinds values x n t r t') (omega arith) h
comments_before (suc c) kinds values i j n t r t' e all h =
    process_comment kinds values i n t r t' (all i (omega arith) (omega arith)) (comments_before c kinds values (i + 1) j n t r t' (omega arith) (λ x l m. all x (omega arith) m) h)

pub process_comments : (kinds values : List ℕ) (i j n : ℕ) (t : List ℕ) (r : Read) (t' : List ℕ) → Comments kinds i j → Reads process_form kinds values j n t r t'
    → Reads process_form kinds values i n t r t'
process_comments kinds values i j n t r t' g h = let l = g.from in comments_before (j - i) kinds values i j n t r t' (omega arith) g.all h
