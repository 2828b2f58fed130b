-- The reading of a whole program, from what the readers of its parts say. Laws; rests on Answer, SpecificationReaders and the readers of processes.
use Rattle.std.specs.Prelude.{◌≡◌, length, Ok, Err}
use Rattle.std.proofs.Math.Path.{refl}
use Rattle.std.proofs.Common.{sym, ap, subst, ◌∙◌, arith}
use mathlib.Core.List.{List, [], ◌∷◌}
use Prim.Native.Nat.{ℕ, zero, suc, ◌+◌, ◌-◌, ◌<◌, ◌≤◌}
use Rattle.x_spelling.specs.Kinds as kind
use Rattle.x_grammar.specs.Grammar.{Token, mark, Process, after_comment, Constant, literal, named, Specification, var, array, val, commented, program, text_process, text_constant}
use Rattle.x_grammar.specs.Grammar.{text_specification}
use Rattle.x_grammar.specs.Automaton.{top, in_comments, in_order, at_front, need_process, have_process, accepted, refused, run, reads}
use Rattle.x_grammar.specs.TokenArrays.{unread}
use Rattle.x_grammar.specs.RawRows.{declared_rows, count_process, rows_process}
use Rattle.x_grammar.specs.TreeDepth.{depth_process, deepest_process}
use Rattle.x_grammar.specs.SpecificationMoves.{after_comments, run_in_comments, run_done, run_left}
use Rattle.x_grammar.specs.AutomatonSound.{before_front, comments, in_comments_text, in_comments_fine, front_text, Says, says}
use Rattle.x_grammar.specs.Unread.{unread_cons, unread_end, length_unread}
use Rattle.front_read_expressions.specs.Reads.{Reads}
use Rattle.front_read_expressions.specs.declared.Extent.{Extent}
use Rattle.front_read_expressions.specs.declared.Ungrammatical.{Ungrammatical}
use Rattle.front_read_processes.specs.Forms.{process_form}
use Rattle.front_read_program.specs.Answer.{refused_at, answer, Written}
use Rattle.front_read_program.specs.SpecificationReaders.{Stops, Arrives, Fronts}

-- comments add no rows and no depth, and a token each
module _ where
  count_comments : (c : ℕ) (p : Process) → count_process (after_comments c p) ≡ count_process p
  unfolding count_process
  count_comments zero p = refl
  count_comments (suc c) p = count_comments c (after_comment p)

  rows_comments : (c : ℕ) (p : Process) (n : ℕ) → rows_process (after_comments c p) n ≡ rows_process p n
  unfolding rows_process
  rows_comments zero p n = refl
  rows_comments (suc c) p n = rows_comments c (after_comment p) n

  depth_comments : (c : ℕ) (p : Process) → depth_process (after_comments c p) ≡ depth_process p
  depth_comments zero p = refl
  depth_comments (suc c) p = depth_comments c (after_comment p)

  deepest_comments : (c : ℕ) (p : Process) → deepest_process (after_comments c p) ≡ deepest_process p
  deepest_comments zero p = refl
  deepest_comments (suc c) p = deepest_comments c (after_comment p)

-- the specifications' rows do not depend on their order
declared_in_order : (b ss : List Specification) → declared_rows (in_order b ss) ≡ declared_rows b + declared_rows ss
declared_in_order [] ss = omega arith
declared_in_order (s ∷ b) ss = let h = declared_in_order b (s ∷ ss) in omega arith

-- the tokens before a process are as many, whatever follows
length_constant : (c : Constant) (w : List Token) → length (text_constant c w) ≡ suc (length w)
length_constant (literal v) w = refl
length_constant (named n) w = refl

length_specification : (s : Specification) (w v : List Token) → length (text_specification s w) + length v ≡ length (text_specification s v) + length w
length_specification (var n) w v = omega arith
length_specification (array n c) w v = let x = length_constant c (mark kind.close_subscript ∷ w) in let y = length_constant c (mark kind.close_subscript ∷ v) in omega arith
length_specification (val n c) w v = let x = length_constant c w in let y = length_constant c v in omega arith
length_specification (commented s) w v = let x = length_specification s w v in omega arith

length_front : (b : List Specification) (w v : List Token) → length (before_front b w) + length v ≡ length (before_front b v) + length w
length_front [] w v = omega arith
length_front (s ∷ b) w v =
    let x = length_front b (text_specification s (mark kind.semicolon ∷ w)) (text_specification s (mark kind.semicolon ∷ v)) in
    let y = length_specification s (mark kind.semicolon ∷ w) (mark kind.semicolon ∷ v) in
    omega arith

length_comments : (c : ℕ) (w : List Token) → length (comments c w) ≡ c + length w
length_comments zero w = omega arith
length_comments (suc c) w = let x = length_comments c (mark kind.comment ∷ w) in omega arith

-- where the process starts
start_of : (b : List Specification) (c : ℕ) (w : List Token) (p : Process) → run w (need_process (in_comments c (top b))) ≡ accepted (program (in_order b []) p)
    → length (text_process p []) ≡ c + length w
start_of b c w p h =
    let e = (subst (Says w (need_process (in_comments c (top b)))) h (says w (need_process (in_comments c (top b))) (in_comments_fine c b))).0 in
    let x : length (before_front b (comments c w)) ≡ length (before_front b (text_process p [])) = ap length (in_comments_text c b w ∙ e ∙ sym (front_text b [] (text_process p []))) in
    let y = length_front b (comments c w) (text_process p []) in
    let z = length_comments c w in
    omega arith

reads_run : (w : List Token) → reads w ≡ run w (at_front [] 0)
unfolding reads
reads_run w = refl

module _ (kinds values : List ℕ) where
  -- a refusal
  pub program_refused : (x : ℕ) (t t' : List ℕ) → x ≤ length kinds → reads (unread kinds values 0) ≡ refused (unread kinds values x)
      → (refused_at x ≡ answer (length kinds) (reads (unread kinds values 0))) × Written (reads (unread kinds values 0)) t t'
  program_refused x t t' l h = rw h (ap refused_at (let z = length_unread kinds values x in omega arith), tt)

  pub program_front : (x : ℕ) (t t' : List ℕ) → Stops kinds values 0 x → (refused_at x ≡ answer (length kinds) (reads (unread kinds values 0))) × Written (reads (unread kinds values 0)) t t'
  unfolding reads
  program_front x t t' h = program_refused x t t' h.inside (h.stops [] 0)

  module _ (s i n : ℕ) (f : Fronts kinds values 0 0 0 s i n) (t : List ℕ) where
    pub program_bad : (x : Ungrammatical) (t' : List ℕ) → Reads process_form kinds values i n t (Err x) t'
        → (refused_at x.token ≡ answer (length kinds) (reads (unread kinds values 0))) × Written (reads (unread kinds values 0)) t t'
    unfolding reads
    program_bad x t' h = let a = f.arrives [] 0 refl in program_refused x.token t t' h.0 (a.comes ∙ h.1 (in_comments a.comments (top a.specifications)))

    module _ (p : Extent) (t' : List ℕ) (h : Reads process_form kinds values i n t (Ok p) t') where
      comes_to : (a : Arrives kinds values 0 0 s i n [] 0)
          → reads (unread kinds values 0) ≡ run (unread kinds values p.next) (have_process (after_comments a.comments h.1.tree) (top a.specifications))
      unfolding reads
      comes_to a = a.comes ∙ h.1.comes (in_comments a.comments (top a.specifications)) ∙ run_in_comments a.comments _ (top a.specifications) h.1.tree

      pub program_left : p.next < length kinds → (refused_at p.next ≡ answer (length kinds) (reads (unread kinds values 0))) × Written (reads (unread kinds values 0)) t t'
      program_left l = let a = f.arrives [] 0 refl in program_refused p.next t t' h.0.short (comes_to a ∙ rw (unread_cons kinds values p.next l) (run_left _ _ a.specifications _))

      pub program_done : length kinds ≤ p.next
          → (Ok (record { start = s; rows = p.rows; depth = p.depth; deepest = p.deepest }) ≡ answer (length kinds) (reads (unread kinds values 0)))
          × Written (reads (unread kinds values 0)) t t'
      program_done l =
          let a = f.arrives [] 0 refl in
          let b = a.specifications in
          let c = a.comments in
          let q = h.1.tree in
          let e : reads (unread kinds values 0) ≡ accepted (program (in_order b []) (after_comments c q)) = comes_to a ∙ rw (unread_end kinds values p.next l) (run_done b (after_comments c q)) in
          let o = declared_in_order b [] in
          let x = a.declared in
          let y = a.placed in
          let g = f.short in
          let k = h.1.counted in
          let z = start_of b c (unread kinds values i) (after_comments c q) (sym a.comes ∙ sym (reads_run (unread kinds values 0)) ∙ e) in
          let u = length_unread kinds values i in
          let v = count_comments c q in
          let first : declared_rows (in_order b []) ≡ n = omega arith in
          let start : s ≡ length kinds - length (text_process (after_comments c q) []) = omega arith in
          let count : p.rows ≡ declared_rows (in_order b []) + count_process (after_comments c q) = omega arith in
          rw e (
            rw (start, count, h.1.depths, h.1.deepests, ← depth_comments c q, ← deepest_comments c q),
            rw (first, rows_comments c q n) h.1.table,
          )
