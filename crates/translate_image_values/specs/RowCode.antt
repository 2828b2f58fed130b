-- What a row of each kind says of its code and of the rows that it names, in the words that were read from it. Laws; assume nothing.
use Rattle.std.specs.Prelude.{◌≡◌, List, [], ◌∷◌, ◌++◌, ℕ, ◌+◌, ◌*◌, ◌≤◌, ◌<◌, length}
use Rattle.std.proofs.Math.Path.{refl, ap}
use Rattle.std.proofs.Common.{sym, ◌∙◌, arith}
use Rattle.x_program.specs.Layout.{row_words}
use Rattle.x_program.specs.Layout as layout
use Rattle.arm_encoding.specs.declared.Instr.{Instr}
use Rattle.arm_encoding.specs.declared.Instr.TheVariants.{Svc}
use Rattle.x_program.specs.Table.{word, monadic_of, diadic_of, expression_at, process_at}
use Rattle.x_program.specs.TableLaws.{at_constant, at_variable, at_element, at_monadic, at_diadic, at_skip, at_stop, at_assign, at_assign_element, at_sequence, at_conditional, at_loop}
use Rattle.translate_rules.specs.Blocks.{push_constant, push_variable, check_subscript, load_element, work_monadic_code, work_diadic_code, assign_variable, store_element}
use Rattle.translate_rules.specs.ImageCode.{expression_code, process_code, choice_code, repeat_code}
use Rattle.x_program.specs.declared.table.Row.{Row}
use Rattle.translate_image_values.specs.Well.{row_in, Declared, Earlier, Expression, Process, Names, Well}

-- the code of the expression in row r, of the process
abbrev pub expression_in : List ℕ → ℕ → List Instr
expression_in t r = expression_code (expression_at t r)

abbrev pub process_in : List ℕ → ℕ → List Instr
process_in t r = process_code (process_at t r)

module _ {low high : ℕ} {t : List ℕ} {r : ℕ} (h : Well low high t r) where
  -- a named row can be read on from, a declaration's can be read
  pub named : {l m s : ℕ} → Earlier l m t r s → Well l m t s
  named q = record { inside = omega (arith, h.inside, q.earlier); from = q.from; to = q.to; names = λ k b. h.names k (omega (arith, q.earlier)) }

  pub declared : {d : ℕ} → Declared t r d → row_words * d + row_words ≤ length t
  declared q = omega (arith, h.inside, q.earlier)

  pub offset_small : {d : ℕ} {v : Row} → v ≡ row_in t d → Declared t r d → v.a ≤ 8192
  offset_small e q = rw e q.offset

  -- a row of one kind
  pub only : {k : ℕ} → word t r 0 ≡ k → Well k k t r
  only e = record { inside = h.inside; from = omega (arith, e); to = omega (arith, e); names = h.names }

  names : Names t r
  names = h.names r (omega arith)

  module _ {w : Row} (e : w ≡ row_in t r) where
    -- its kind is the one that was read
    pub kind_from : low ≤ w.kind
    kind_from = rw e h.from

    pub kind_to : w.kind ≤ high
    kind_to = rw e h.to

    pub kind_is : {k : ℕ} → w.kind ≡ k → word t r 0 ≡ k
    kind_is q = ap (λ (x : Row). x.kind) (sym e) ∙ q

    -- ── expressions ──
    pub constant_code : w.kind ≡ layout.number → expression_in t r ≡ push_constant w.a
    unfolding expression_code
    constant_code q = ap expression_code (at_constant t r (kind_is q)) ∙ rw e refl

    pub variable_names : w.kind ≡ layout.variable → Declared t r w.a
    unfolding Names
    variable_names q = rw e (rw (kind_is q) at names)

    pub variable_code : {v : Row} → v ≡ row_in t w.a → w.kind ≡ layout.variable → expression_in t r ≡ push_variable v.a
    unfolding expression_code
    variable_code d q = ap expression_code (at_variable t r (kind_is q)) ∙ rw (d, e) refl

    pub element_names : w.kind ≡ layout.element → Declared t r w.a × Expression t r w.b
    unfolding Names
    element_names q = rw e (rw (kind_is q) at names)

    pub element_code : {v : Row} → v ≡ row_in t w.a → w.kind ≡ layout.element → expression_in t r ≡ expression_in t w.b ++ (check_subscript v.b ++ load_element v.a)
    unfolding expression_code
    element_code d q =
        let n : word t r 2 < r = rw e at (element_names q).1.earlier in
        ap expression_code (at_element t r (kind_is q) n) ∙ rw (d, e) refl

    pub monadic_names : w.kind ≡ layout.monadic → Expression t r w.b
    unfolding Names
    monadic_names q = rw e (rw (kind_is q) at names)

    pub monadic_code : w.kind ≡ layout.monadic → expression_in t r ≡ expression_in t w.b ++ work_monadic_code (monadic_of w.a)
    unfolding expression_code
    monadic_code q =
        let n : word t r 2 < r = rw e at (monadic_names q).earlier in
        ap expression_code (at_monadic t r (kind_is q) n) ∙ rw e refl

    pub diadic_names : w.kind ≡ layout.diadic → Expression t r w.b × Expression t r w.c
    unfolding Names
    diadic_names q = rw e (rw (kind_is q) at names)

    pub diadic_code : w.kind ≡ layout.diadic → expression_in t r ≡ expression_in t w.b ++ (expression_in t w.c ++ work_diadic_code (diadic_of w.a))
    unfolding expression_code
    diadic_code q =
        let n : word t r 2 < r = rw e at (diadic_names q).0.earlier in
        let m : word t r 3 < r = rw e at (diadic_names q).1.earlier in
        ap expression_code (at_diadic t r (kind_is q) n m) ∙ rw e refl

    -- ── processes ──
    pub skip_code : w.kind ≡ layout.skip → process_in t r ≡ []
    unfolding process_code
    skip_code q = ap process_code (at_skip t r (kind_is q))

    pub stop_code : w.kind ≡ layout.stop → process_in t r ≡ Svc 1 ∷ []
    unfolding process_code
    stop_code q = ap process_code (at_stop t r (kind_is q))

    pub sequence_names : w.kind ≡ layout.sequence → Process t r w.a × Process t r w.b
    unfolding Names
    sequence_names q = rw e (rw (kind_is q) at names)

    pub sequence_code : w.kind ≡ layout.sequence → process_in t r ≡ process_in t w.a ++ process_in t w.b
    unfolding process_code
    sequence_code q =
        let n : word t r 1 < r = rw e at (sequence_names q).0.earlier in
        let m : word t r 2 < r = rw e at (sequence_names q).1.earlier in
        ap process_code (at_sequence t r (kind_is q) n m) ∙ rw e refl

-- a row of one kind has that kind
single : {k : ℕ} {t : List ℕ} {r : ℕ} → Well k k t r → word t r 0 ≡ k
single h = omega (arith, h.from, h.to)

-- ── assign ──
module _ {t : List ℕ} {r : ℕ} {w : Row} (h : Well layout.assign layout.assign t r) (e : w ≡ row_in t r) where
  pub assign_names : Declared t r w.a × Expression t r w.b
  unfolding Names
  assign_names = rw e (rw (single h) at (names h))

  pub assign_code : {v : Row} → v ≡ row_in t w.a → process_in t r ≡ expression_in t w.b ++ assign_variable v.a
  unfolding process_code
  assign_code d = ap process_code (at_assign t r (single h)) ∙ rw (d, e) refl

-- ── assign element ──
module _ {t : List ℕ} {r : ℕ} {w : Row} (h : Well layout.assign_element layout.assign_element t r) (e : w ≡ row_in t r) where
  pub assign_element_names : Declared t r w.a × Expression t r w.b × Expression t r w.c
  unfolding Names
  assign_element_names = rw e (rw (single h) at (names h))

  pub assign_element_code : {v : Row} → v ≡ row_in t w.a
      → process_in t r ≡ expression_in t w.b ++ (check_subscript v.b ++ (expression_in t w.c ++ store_element v.a))
  unfolding process_code
  assign_element_code d = ap process_code (at_assign_element t r (single h)) ∙ rw (d, e) refl

-- ── if ──
module _ {t : List ℕ} {r : ℕ} {w : Row} (h : Well layout.if layout.if t r) (e : w ≡ row_in t r) where
  pub conditional_names : Expression t r w.a × Process t r w.b × Process t r w.c
  unfolding Names
  conditional_names = rw e (rw (single h) at (names h))

  pub conditional_code : process_in t r ≡ expression_in t w.a ++ choice_code (process_in t w.b) (process_in t w.c)
  unfolding process_code
  conditional_code =
      let n : word t r 2 < r = rw e at conditional_names.1.earlier in
      let m : word t r 3 < r = rw e at conditional_names.2.earlier in
      ap process_code (at_conditional t r (single h) n m) ∙ rw e refl

-- ── while ──
module _ {t : List ℕ} {r : ℕ} {w : Row} (h : Well layout.while layout.while t r) (e : w ≡ row_in t r) where
  pub loop_names : Expression t r w.a × Process t r w.b
  unfolding Names
  loop_names = rw e (rw (single h) at (names h))

  pub loop_code : process_in t r ≡ expression_in t w.a ++ repeat_code (expression_in t w.a) (process_in t w.b)
  unfolding process_code
  loop_code =
      let n : word t r 2 < r = rw e at loop_names.1.earlier in
      ap process_code (at_loop t r (single h) n) ∙ rw e refl
