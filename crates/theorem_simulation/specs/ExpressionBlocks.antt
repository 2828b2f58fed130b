-- The block lemmas of expressions: constants, variables, operators, subscripts checked, elements loaded. Lemmas; they rest on Block and Working.
use Rattle.std.specs.Prelude.{◌≡◌, List, [], ◌∷◌, ◌++◌, set}
use Rattle.std.proofs.Math.Path.{refl}
use Rattle.std.proofs.Math.Bool.{true, false}
use Rattle.std.proofs.Math.Option.{Option, none, some}
use Prim.Native.Nat.{ℕ, suc, ◌+◌, ◌*◌, ◌-◌, ◌/◌, ◌%◌, ◌≤◌, ◌<◌}
use native.Mathlib.Omega.{arith}
use Rattle.std.proofs.Math.Decide.{dec_lt}
use Rattle.std.proofs.Math.ListN.{get_or}
use Rattle.std.proofs.Common.{lt-ltb, le-ltb}
use Rattle.arm_word.specs.Word.{modulus, add, shift_left, shift_right}
use Rattle.arm_word.specs.CarryLaws.{difference_word}
use Rattle.arm_word.specs.Access.{Access, loaded}
use Rattle.x_program.specs.Tree.{Monadic, negate, invert, Diadic, Variable, Array, Expression, constant, variable, element, monadic, diadic, bracket}
use Rattle.x_program.specs.Core.{core}
use Rattle.x_meaning.specs.Operators.{work_monadic, work_diadic}
use Rattle.x_meaning.specs.SourceRun.{Item, evaluate, work₁, work₂, check, load, going, state}
use Rattle.translate_rules.specs.Constant.{load_constant}
use Rattle.translate_rules.specs.Blocks.{push_constant, push_variable, check_subscript, load_element, monadic_instruction, work_monadic_code, diadic_instructions, work_diadic_code}
use Rattle.translate_rules.specs.ImageCode.{expression_code}
use Rattle.theorem_simulation.specs.Abstract.{difference, registers, Control, tests, machine, performs, width}
use Rattle.theorem_simulation.specs.Straight.{At, nil, ◌▸◌, advance, head_at, tail_at, first_at, rest_at, advance_append, here, more, go, join, address, load_stack, store_stack, raise_stack}
use Rattle.theorem_simulation.specs.Straight.{lower_stack, load_data, equal_taken, equal_passed, unequal_taken, unequal_passed, constant_0, constant_1}
use Rattle.theorem_simulation.specs.Working.{Makes, diadic_run, diadic_fits, monadic_fits}
use Rattle.theorem_simulation.specs.Relation.{Setting, data_of, array_of, Limits, there, Memory, Good, pushed, popped}
use Rattle.theorem_simulation.specs.Block.{Claim, relate, good, apart, facts}

module _ {E : Setting} (ok : Limits E) (d : List ℕ) (t : List Access) (c : List Item) (pc a b g r3 k : ℕ) (ct : Control) (mem : List (Option ℕ)) where
  -- the state of the machine when a thing to do begins
  abbrev Here : Item → List ℕ → Type 0
  Here x p = Claim E d t c pc a b g r3 k ct mem x p

  -- ── pushes ──

  of_constant : (p : List ℕ) (w : ℕ) → At E.code pc (push_constant w) → Here (evaluate (constant w)) p
  unfolding expression_code push_constant
  of_constant p w (f ▸ at) cn fi mr =
      let k' : ℕ = k - 1 in
      let fa = facts ok mr in
      let e : suc k' ≡ k = omega (arith, fi.1) in
      let lo : data_of E ≤ k' = omega (arith, fi.1) in
      let s = state d t (evaluate (constant w) ∷ c) p going in
      let q : Good E s (address k) mem t = good ok k 0 refl mr.same mr.low (omega arith) in
      let q' : Good E s (address k') mem t = good ok k' 0 refl mr.same lo (omega arith) in
      let at' = rest_at (load_constant 0 w) _ at in
      record {
        n = _;
        z = _;
        path = more q (lower_stack k f k' (omega arith) (omega arith))
            (constant_0 w (first_at (load_constant 0 w) _ at) fi.0 q'
            (more q' (store_stack k' (head_at at') k' (omega arith) (omega arith) (omega arith) (apart ok k' lo)) here));
        related = relate ok k' (rw advance_append at cn, fi.2 w fi.0) (pushed w fi.0 lo e mr);
        falls = λ x. omega arith;
      }

  of_variable : (p : List ℕ) (v : Variable) → At E.code pc (push_variable v.offset) → Here (evaluate (variable v)) p
  unfolding expression_code push_variable
  of_variable p v (f ▸ at) cn fi mr =
      let o = v.offset in
      let k' : ℕ = k - 1 in
      let fa = facts ok mr in
      let e : suc k' ≡ k = omega (arith, fi.1) in
      let lo : data_of E ≤ k' = omega (arith, fi.1) in
      let s = state d t (evaluate (variable v) ∷ c) p going in
      let q : Good E s (address k) mem t = good ok k 0 refl mr.same mr.low (omega arith) in
      let q' : Good E s (address k') mem t = good ok k' 0 refl mr.same lo (omega arith) in
      let h : o < data_of E = fi.0.inside in
      let x : get_or d o 0 < modulus = mr.words o (get_or d o 0) (mr.same o h) in
      let at' = rest_at (load_constant 1 (4 * o)) _ at in
      record {
        n = _;
        z = _;
        path = more q (lower_stack k f k' (omega arith) (omega arith))
            (constant_1 (4 * o) (first_at (load_constant 1 (4 * o)) _ at) (omega arith) q'
            (more q' (load_data (head_at at') o (get_or d o 0) false refl refl (omega arith) (omega arith) fi.0.apart (mr.same o h))
            (more q' (store_stack k' (head_at (tail_at at')) k' (omega arith) (omega arith) (omega arith) (apart ok k' lo)) here)));
        related = relate ok k' (rw advance_append at cn, fi.2 (get_or d o 0) x) (pushed (get_or d o 0) x lo e mr);
        falls = λ x. omega arith;
      }

  -- ── expressions that unfold ──

  of_element : (p : List ℕ) (x : Array) (e : Expression) → At E.code pc (expression_code (core (element x e))) → Here (evaluate (element x e)) p
  unfolding expression_code
  of_element p x e at cn fi mr =
      let at₁ = rest_at (expression_code (core e)) _ at in
      record {
        n = _;
        z = _;
        path = here;
        related = relate ok k (
          (
            pc,
            there,
            first_at (expression_code (core e)) _ at,
            (_, there, first_at (check_subscript x.length) _ at₁, (_, there, rest_at (check_subscript x.length) _ at₁, simp advance_append at cn)),
          ),
          (
            fi.0.1,
            omega (arith, fi.1),
            λ w h. (fi.0.0.few, λ l. (record { inside = omega (arith, fi.0.0.inside); own = fi.0.0.own w l }, fi.2)),
          ),
        )
            mr;
        falls = λ x. omega arith;
      }

  of_diadic : (p : List ℕ) (o : Diadic) (x y : Expression) → At E.code pc (expression_code (core (diadic o x y))) → Here (evaluate (diadic o x y)) p
  unfolding expression_code
  of_diadic p o x y at cn fi mr =
      let at₁ = rest_at (expression_code (core x)) _ at in
      record {
        n = _;
        z = _;
        path = here;
        related = relate ok k (
          (
            pc,
            there,
            first_at (expression_code (core x)) _ at,
            (_, there, first_at (expression_code (core y)) _ at₁, (_, there, rest_at (expression_code (core y)) _ at₁, simp advance_append at cn)),
          ),
          (fi.0.0, omega (arith, fi.1), λ w h. (fi.0.1, omega (arith, fi.1), λ v i. fi.2)),
        )
            mr;
        falls = λ x. omega arith;
      }

  of_monadic : (p : List ℕ) (o : Monadic) (x : Expression) → At E.code pc (expression_code (core (monadic o x))) → Here (evaluate (monadic o x)) p
  unfolding expression_code
  of_monadic p o x at cn fi mr =
      record {
        n = _;
        z = _;
        path = here;
        related = relate ok k (
          (pc, there, first_at (expression_code (core x)) _ at, (_, there, rest_at (expression_code (core x)) _ at, rw advance_append at cn)),
          (fi.0, omega (arith, fi.1), λ w h. fi.2),
        )
            mr;
        falls = λ x. omega arith;
      }

  of_bracket : (p : List ℕ) (x : Expression) → At E.code pc (expression_code (core x)) → Here (evaluate (bracket x)) p
  of_bracket p x at cn fi mr =
      record { n = _; z = _; path = here; related = relate ok k ((pc, there, at, cn), (fi.0, omega (arith, fi.1), fi.2)) mr; falls = λ x. omega arith }

  pub of_expression : (x : Expression) (p : List ℕ) → At E.code pc (expression_code (core x)) → Here (evaluate x) p
  unfolding expression_code
  of_expression (constant w) p at = of_constant p w at
  of_expression (variable v) p at = of_variable p v at
  of_expression (element x e) p at = of_element p x e at
  of_expression (monadic o x) p at = of_monadic p o x at
  of_expression (diadic o x y) p at = of_diadic p o x y at
  of_expression (bracket x) p at = of_bracket p x at

  -- ── workings ──

  pub of_work₁ : (o : Monadic) (x : ℕ) (p : List ℕ) → At E.code pc (work_monadic_code o) → Here (work₁ o) (x ∷ p)
  unfolding work_monadic_code
  of_work₁ o x p (f₁ ▸ f₂ ▸ f₃ ▸ nil) cn fi mr =
      let fa = facts ok mr in
      let s = state d t (work₁ o ∷ c) (x ∷ p) going in
      let q : Good E s (address k) mem t = good ok k 0 refl mr.same mr.low (omega arith) in
      let v : x < modulus = mr.words k x mr.stacked.0 in
      let w : work_monadic o x < modulus = monadic_fits o v in
      record {
        n = _;
        z = _;
        path = more q (load_stack k f₁ k x (omega arith) (omega arith) (omega arith) (apart ok k mr.low) mr.stacked.0)
            (more q (go f₂ (working o))
            (more q (store_stack k f₃ k (omega arith) (omega arith) (omega arith) (apart ok k mr.low)) here));
        related = relate ok k (cn, fi (work_monadic o x) w) (pushed (work_monadic o x) w mr.low refl (popped mr));
        falls = λ x. omega arith;
      }
    where
      working : (o : Monadic) → performs (array_of E) (monadic_instruction o) (machine (pc + 2) (registers x b g r3) (address k) ct mem t)
          ≡ some (machine (pc + 2 + width (monadic_instruction o)) (registers (work_monadic o x) b g r3) (address k) (tests (work_monadic o x) ct) mem t)
      working negate = rw (difference_word 0 x (mr.words k x mr.stacked.0))
      working invert = refl

  pub of_work₂ : (o : Diadic) (x y : ℕ) (p : List ℕ) → At E.code pc (work_diadic_code o) → Here (work₂ o) (y ∷ x ∷ p)
  unfolding work_diadic_code
  of_work₂ o x y p (f₁ ▸ f₂ ▸ f₃ ▸ at) cn fi mr =
      let fa = facts ok mr in
      let s = state d t (work₂ o ∷ c) (y ∷ x ∷ p) going in
      let lo : data_of E ≤ suc k = omega arith in
      let q : Good E s (address k) mem t = good ok k 0 refl mr.same mr.low (omega arith) in
      let q' : Good E s (address (suc k)) mem t = good ok (suc k) 0 refl mr.same lo (omega arith) in
      let hy : y < modulus = mr.words k y mr.stacked.0 in
      let hx : x < modulus = mr.words (suc k) x mr.stacked.1.0 in
      let w : work_diadic o x y < modulus = diadic_fits o hx hy in
      let op : Makes (array_of E) E.code (Good E s) (address (suc k)) mem t (diadic_instructions o) (work_diadic o x y) (pc + 2 + 2 + 2) x y g r3 ct
      = diadic_run ok.short_code q' o hx hy (first_at (diadic_instructions o) _ at) in
      let mr' : Memory E d (work_diadic o x y ∷ p) (suc k) (set mem (suc k) (some op.a)) = rw op.value (pushed (work_diadic o x y) w lo refl (popped (popped mr))) in
      record {
        n = _;
        z = _;
        path = more q (load_stack k f₁ k y (omega arith) (omega arith) (omega arith) (apart ok k mr.low) mr.stacked.0)
            (more q (raise_stack k f₂ (suc k) (omega arith) (omega arith))
            (more q' (load_stack (suc k) f₃ (suc k) x (omega arith) (omega arith) (omega arith) (apart ok (suc k) lo) mr.stacked.1.0)
            (join op.path
            (more q' (store_stack (suc k) (head_at (rest_at (diadic_instructions o) _ at)) (suc k) (omega arith) (omega arith) (omega arith) (apart ok (suc k) lo)) here))));
        related = relate ok (suc k) (rw advance_append at cn, fi (work_diadic o x y) w) mr';
        falls = λ x. omega arith;
      }

  -- ── elements ──

  pub of_load : (x : Array) (i : ℕ) (p : List ℕ) → At E.code pc (load_element x.offset) → Here (load x) (i ∷ p)
  unfolding load_element shift_left
  of_load x i p (f₁ ▸ f₂ ▸ at) cn fi mr =
      let fa = facts ok mr in
      let o = x.offset in
      let s = state d t (load x ∷ c) (i ∷ p) going in
      let h : o + i < data_of E = fi.0.inside in
      let v = get_or d (o + i) 0 in
      let e : get_or mem (o + i) none ≡ some v = mr.same (o + i) h in
      let w : v < modulus = mr.words (o + i) v e in
      let q : Good E s (address k) mem t = good ok k 0 refl mr.same mr.low (omega arith) in
      let q' : Good E s (address k) mem (t ++ loaded (o + i) v ∷ []) = good ok k 1 refl mr.same mr.low (omega arith) in
      let ad : add (i * 4 % modulus) (4 * o) ≡ 4 * (o + i) = omega arith in
      let at' = rest_at (load_constant 1 (4 * o)) _ at in
      record {
        n = _;
        z = _;
        path = more q (load_stack k f₁ k i (omega arith) (omega arith) (omega arith) (apart ok k mr.low) mr.stacked.0)
            (more q (go f₂ refl)
            (constant_1 (4 * o) (first_at (load_constant 1 (4 * o)) _ at) (omega arith) q
            (more q (go (head_at at') refl)
            (more q (load_data (head_at (tail_at at')) (o + i) v true refl ad (omega arith) (omega arith) fi.0.own e)
            (more q' (store_stack k (head_at (tail_at (tail_at at'))) k (omega arith) (omega arith) (omega arith) (apart ok k mr.low)) here)))));
        related = relate ok k (rw advance_append at cn, fi.1 v w) (pushed v w mr.low refl (popped mr));
        falls = λ x. omega arith;
      }

  -- the check: three ways
  check_passes : (x : Array) (i : ℕ) (p : List ℕ) → At E.code pc (check_subscript x.length) → i < x.length → Here (check x) (i ∷ p)
  unfolding check_subscript shift_right
  check_passes x i p (f₁ ▸ f₂ ▸ f₃ ▸ f₄ ▸ at) h cn fi mr =
      let fa = facts ok mr in
      let n = x.length in
      let s = state d t (check x ∷ c) (i ∷ p) going in
      let l : n ≤ 8192 = fi.0 in
      let q : Good E s (address k) mem t = good ok k 0 refl mr.same mr.low (omega arith) in
      let at' = rest_at (load_constant 1 n) _ at in
      let s₁ : i / 16384 ≡ 0 = omega arith in
      let s₂ : 0 < difference i n / 2147483648 = omega arith in
      let pk = advance (load_constant 1 n) (pc + 2 + 2 + 2 + 2) in
      record {
        n = _;
        z = _;
        path = more q (load_stack k f₁ k i (omega arith) (omega arith) (omega arith) (apart ok k mr.low) mr.stacked.0)
            (more q (go f₂ refl)
            (more q (equal_taken ok.short_code f₃ (pc + 2 + 2 + 2 + 2) (omega arith) s₁ (omega arith))
            (constant_1 n (first_at (load_constant 1 n) _ at) (omega arith) q
            (more q (go (head_at at') refl)
            (more q (go (head_at (tail_at at')) refl)
            (more q (unequal_taken ok.short_code (head_at (tail_at (tail_at at'))) (pk + 2 + 2 + 2 + 2) (omega arith) s₂ (omega arith)) here))))));
        related = rw (lt-ltb i n h) (relate ok k (rw advance_append at cn, fi.1 h) mr);
        falls = λ x. omega arith;
      }

  check_far : (x : Array) (i : ℕ) (p : List ℕ) → At E.code pc (check_subscript x.length) → 16384 ≤ i → Here (check x) (i ∷ p)
  unfolding check_subscript shift_right
  check_far x i p (f₁ ▸ f₂ ▸ f₃ ▸ f₄ ▸ at) h cn fi mr =
      let fa = facts ok mr in
      let n = x.length in
      let s = state d t (check x ∷ c) (i ∷ p) going in
      let l : n ≤ 8192 = fi.0 in
      let q : Good E s (address k) mem t = good ok k 0 refl mr.same mr.low (omega arith) in
      let s₁ : 0 < i / 16384 = omega arith in
      record {
        n = _;
        z = _;
        path = more q (load_stack k f₁ k i (omega arith) (omega arith) (omega arith) (apart ok k mr.low) mr.stacked.0)
            (more q (go f₂ refl) (more q (equal_passed ok.short_code f₃ s₁) here));
        related = rw (le-ltb i n (omega arith)) (relate ok k f₄ mr);
        falls = λ x. omega arith;
      }

  check_near : (x : Array) (i : ℕ) (p : List ℕ) → At E.code pc (check_subscript x.length) → i < 16384 → x.length ≤ i → Here (check x) (i ∷ p)
  unfolding check_subscript shift_right
  check_near x i p (f₁ ▸ f₂ ▸ f₃ ▸ f₄ ▸ at) h₁ h cn fi mr =
      let fa = facts ok mr in
      let n = x.length in
      let s = state d t (check x ∷ c) (i ∷ p) going in
      let l : n ≤ 8192 = fi.0 in
      let q : Good E s (address k) mem t = good ok k 0 refl mr.same mr.low (omega arith) in
      let at' = rest_at (load_constant 1 n) _ at in
      let s₁ : i / 16384 ≡ 0 = omega arith in
      let s₂ : difference i n / 2147483648 ≡ 0 = omega arith in
      record {
        n = _;
        z = _;
        path = more q (load_stack k f₁ k i (omega arith) (omega arith) (omega arith) (apart ok k mr.low) mr.stacked.0)
            (more q (go f₂ refl)
            (more q (equal_taken ok.short_code f₃ (pc + 2 + 2 + 2 + 2) (omega arith) s₁ (omega arith))
            (constant_1 n (first_at (load_constant 1 n) _ at) (omega arith) q
            (more q (go (head_at at') refl)
            (more q (go (head_at (tail_at at')) refl)
            (more q (unequal_passed ok.short_code (head_at (tail_at (tail_at at'))) s₂) here))))));
        related = rw (le-ltb i n h) (relate ok k (head_at (tail_at (tail_at (tail_at at')))) mr);
        falls = λ x. omega arith;
      }

  pub of_check : (x : Array) (i : ℕ) (p : List ℕ) → At E.code pc (check_subscript x.length) → Here (check x) (i ∷ p)
  of_check x i p at = by (dec_lt i x.length) (dec_lt i 16384)
    where
      by : Dec (i < x.length) → Dec (i < 16384) → Here (check x) (i ∷ p)
      by (yes h) l = check_passes x i p at h
      by (no h) (yes l) = check_near x i p at l (omega arith)
      by (no h) (no l) = check_far x i p at (omega arith)
