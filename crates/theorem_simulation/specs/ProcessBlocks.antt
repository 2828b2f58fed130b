-- The block lemmas of processes: assignments, choices, loops, and processes that unfold. Lemmas; they rest on Block and Places.
use Rattle.std.specs.Prelude.{◌≡◌, List, [], ◌∷◌, ◌++◌, get_or, length}
use Rattle.std.proofs.Math.Path.{refl, sym}
use Rattle.std.proofs.Common.{◌∙◌, eq-eqb, ne_eqb}
use Rattle.std.proofs.Math.Bool.{true, false}
use Rattle.std.proofs.Math.Option.{Option}
use Prim.Native.Nat.{ℕ, suc, ◌+◌, ◌*◌, ◌-◌, ◌/◌, ◌%◌, ◌≤◌, ◌<◌}
use native.Mathlib.Omega.{arith}
use Rattle.std.proofs.Math.Decide.{dec_lt}
use Rattle.arm_word.specs.Word.{modulus, add, shift_left}
use Rattle.arm_word.specs.Access.{Access}
use Rattle.arm_encoding.specs.declared.Instr.TheVariants.{Bne, Bl}
use Rattle.x_program.specs.Tree.{Variable, Array, Expression, Process, skip, stop, assign, assign_element, braces, conditional, loop, Processes, also}
use Rattle.x_program.specs.ProgramDepth.{deepest_of}
use Rattle.x_program.specs.Core.{core, core_process, core_list}
use Rattle.x_program.specs.Resolved.{ResolvedAll}
use Rattle.x_meaning.specs.SourceRun.{Item, execute, set_variable, store, choose, repeat, in_order, going, state}
use Rattle.translate_rules.specs.Constant.{load_constant}
use Rattle.translate_rules.specs.InstructionBytes.{size}
use Rattle.translate_rules.specs.Blocks.{check_subscript, assign_variable, store_element, take_condition, jump_over, jump_back}
use Rattle.translate_rules.specs.ImageCode.{expression_code, choice_code, repeat_code, process_code}
use Rattle.translate_rules.specs.CodeLaws.{list_code}
use Rattle.theorem_simulation.specs.Abstract.{registers, Control, tests, machine, target}
use Rattle.theorem_simulation.specs.Straight.{Holds, At, nil, ◌▸◌, advance, head_at, tail_at, first_at, rest_at, advance_append, Goes, Path, here, more, go, address, load_stack, raise_stack}
use Rattle.theorem_simulation.specs.Straight.{store_data, unequal_taken, unequal_passed, constant_1, constant_2}
use Rattle.theorem_simulation.specs.Places.{advance_size, size_even, size_inside, over_lands, back_lands}
use Rattle.theorem_simulation.specs.Relation.{Setting, data_of, array_of, Limits, Fits, there, hop, ItemAt, Continues, Memory, Good, popped, written}
use Rattle.theorem_simulation.specs.Block.{Claim, in_order_size, relate, good, apart, facts}

-- a jump on the way to what is to do
pub hop_to : (code : List ℕ) (pc : ℕ) {q k : ℕ} (c : List Item) → Holds code pc (Bl k) → target pc k ≡ q → Continues code c q → Continues code c pc
hop_to code pc [] f e n = (n.0, hop f (rw e n.1), n.2)
hop_to code pc (x ∷ c) f e n = (n.0, hop f (rw e n.1), n.2, n.3)

module _ {E : Setting} (ok : Limits E) (d : List ℕ) (t : List Access) (c : List Item) (pc a b g r3 k : ℕ) (ct : Control) (mem : List (Option ℕ)) where
  -- the state of the machine when a thing to do begins
  abbrev Here : Item → List ℕ → Type 0
  Here x p = Claim E d t c pc a b g r3 k ct mem x p

  -- ── assignments ──

  pub of_set : (v : Variable) (w : ℕ) (p : List ℕ) → At E.code pc (assign_variable v.offset) → Here (set_variable v) (w ∷ p)
  unfolding assign_variable
  of_set v w p (f₁ ▸ f₂ ▸ at) cn fi mr =
      let fa = facts ok mr in
      let o = v.offset in
      let s = state d t (set_variable v ∷ c) (w ∷ p) going in
      let lo : data_of E ≤ suc k = omega arith in
      let h : o < data_of E = fi.0.inside in
      let x : w < modulus = mr.words k w mr.stacked.0 in
      let q : Good E s (address k) mem t = good ok k 0 refl mr.same mr.low (omega arith) in
      let q' : Good E s (address (suc k)) mem t = good ok (suc k) 0 refl mr.same lo (omega arith) in
      let at' = rest_at (load_constant 1 (4 * o)) _ at in
      record {
        n = _;
        z = _;
        path = more q (load_stack k f₁ k w (omega arith) (omega arith) (omega arith) (apart ok k mr.low) mr.stacked.0)
            (more q (raise_stack k f₂ (suc k) (omega arith) (omega arith))
            (constant_1 (4 * o) (first_at (load_constant 1 (4 * o)) _ at) (omega arith) q'
            (more q' (store_data (head_at at') o (get_or d o 0) false refl refl (omega arith) (omega arith) fi.0.apart (mr.same o h)) here)));
        related = relate ok (suc k) (rw advance_append at cn, fi.1) (written o w x h (popped mr));
        falls = λ x. omega arith;
      }

  pub of_store : (y : Array) (i w : ℕ) (p : List ℕ) → At E.code pc (store_element y.offset) → Here (store y) (w ∷ i ∷ p)
  unfolding store_element shift_left
  of_store y i w p (f₁ ▸ f₂ ▸ f₃ ▸ f₄ ▸ at) cn fi mr =
      let fa = facts ok mr in
      let o = y.offset in
      let s = state d t (store y ∷ c) (w ∷ i ∷ p) going in
      let lo : data_of E ≤ suc (suc k) = omega arith in
      let h : o + i < data_of E = fi.0.inside in
      let x : w < modulus = mr.words k w mr.stacked.0 in
      let q : Good E s (address k) mem t = good ok k 0 refl mr.same mr.low (omega arith) in
      let q' : Good E s (address (suc (suc k))) mem t = good ok (suc (suc k)) 0 refl mr.same lo (omega arith) in
      let ad : add (i * 4 % modulus) (4 * o) ≡ 4 * (o + i) = omega arith in
      let at' = rest_at (load_constant 2 (4 * o)) _ at in
      record {
        n = _;
        z = _;
        path = more q (load_stack k f₁ k w (omega arith) (omega arith) (omega arith) (apart ok k mr.low) mr.stacked.0)
            (more q (load_stack k f₂ (suc k) i (omega arith) (omega arith) (omega arith) (apart ok (suc k) (omega arith)) mr.stacked.1.0)
            (more q (raise_stack k f₃ (suc (suc k)) (omega arith) (omega arith))
            (more q' (go f₄ refl)
            (constant_2 (4 * o) (first_at (load_constant 2 (4 * o)) _ at) (omega arith) q'
            (more q' (go (head_at at') refl)
            (more q' (store_data (head_at (tail_at at')) (o + i) (get_or d (o + i) 0) true refl ad (omega arith) (omega arith) fi.0.own (mr.same (o + i) h)) here))))));
        related = relate ok (suc (suc k)) (rw advance_append at cn, fi.1) (written (o + i) w x h (popped (popped mr)));
        falls = λ x. omega arith;
      }

  -- ── choices ──

  -- the condition comes off the stack; if it holds, the jump after the four instructions is stepped over
  module _ (x : Item) (w : ℕ) (p : List ℕ) (mr : Memory E d (w ∷ p) k mem) where
    abbrev Takes : ℕ → Type 0
    Takes pc₁ = Path (array_of E) E.code (Good E (state d t (x ∷ c) (w ∷ p) going)) (machine pc₁ (registers (add w 0) b g r3) (address (suc k)) (tests (add w 0) ct) mem t) 4
        (machine pc (registers a b g r3) (address k) ct mem t)

    -- three instructions, then the branch
    takes : (pc₁ : ℕ) → At E.code pc take_condition
        → (Holds E.code (pc + 2 + 2 + 2) (Bne 1)
        → Goes (array_of E) E.code (machine (pc + 2 + 2 + 2) (registers (add w 0) b g r3) (address (suc k)) (tests (add w 0) ct) mem t)
        (machine pc₁ (registers (add w 0) b g r3) (address (suc k)) (tests (add w 0) ct) mem t))
        → Takes pc₁
    unfolding take_condition
    takes pc₁ (f₁ ▸ f₂ ▸ f₃ ▸ f₄ ▸ nil) branch =
        let fa = facts ok mr in
        let s = state d t (x ∷ c) (w ∷ p) going in
        let q : Good E s (address k) mem t = good ok k 0 refl mr.same mr.low (omega arith) in
        let q' : Good E s (address (suc k)) mem t = good ok (suc k) 0 refl mr.same (omega arith) (omega arith) in
        more q (load_stack k f₁ k w (omega arith) (omega arith) (omega arith) (apart ok k mr.low) mr.stacked.0)
        (more q (raise_stack k f₂ (suc k) (omega arith) (omega arith))
        (more q' (go f₃ refl)
        (more q' (branch f₄) here)))

    holds : At E.code pc take_condition → 0 < w → Takes (pc + 2 + 2 + 2 + 2 + 4)
    holds at h =
        let v : w < modulus = mr.words k w mr.stacked.0 in
        takes (pc + 2 + 2 + 2 + 2 + 4) at (λ f. unequal_taken ok.short_code f (pc + 2 + 2 + 2 + 2 + 4) (omega arith) (omega arith) (omega arith))

    fails : At E.code pc take_condition → w ≡ 0 → Takes (pc + 2 + 2 + 2 + 2)
    fails at h = takes (pc + 2 + 2 + 2 + 2) at (λ f. unequal_passed ok.short_code f (omega arith))

  choose_then : (x y : Process) (w : ℕ) (p : List ℕ) → At E.code pc (choice_code (process_code (core_process x)) (process_code (core_process y))) → 0 < w → Here (choose x y) (w ∷ p)
  unfolding choice_code take_condition jump_over
  choose_then x y w p code h cn fi mr =
      let at = tail_at (rest_at take_condition _ code) in
      let cx = process_code (core_process x) in
      let cy = process_code (core_process y) in
      let pc₁ = pc + 2 + 2 + 2 + 2 + 4 in
      let at' = rest_at cx _ at in
      let f₆ = head_at at' in
      let aty = tail_at at' in
      let j : target (advance cx pc₁) (size cy / 2) ≡ advance cy (advance cx pc₁ + 4)
      = over_lands (advance cx pc₁) (size cy) (omega (arith, f₆.inside, ok.short_code)) (omega (arith, size_inside f₆.inside aty, ok.short_code)) (size_even aty) ∙ sym (advance_size aty) in
      let cn₁ : Continues E.code c (advance cy (advance cx pc₁ + 4)) = simp advance_append at cn in
      record {
        n = _;
        z = _;
        path = holds (choose x y) w p mr (first_at take_condition _ code) h;
        related = rw (ne_eqb w 0 (omega arith))
            (relate ok (suc k) ((pc₁, there, first_at cx _ at, hop_to E.code _ c f₆ j cn₁), (fi.0, fi.2)) (popped mr));
        falls = λ x. omega arith;
      }

  choose_else : (x y : Process) (w : ℕ) (p : List ℕ) → At E.code pc (choice_code (process_code (core_process x)) (process_code (core_process y))) → w ≡ 0 → Here (choose x y) (w ∷ p)
  unfolding choice_code take_condition jump_over
  choose_else x y w p code h cn fi mr =
      let f₅ = head_at (rest_at take_condition _ code) in
      let at = tail_at (rest_at take_condition _ code) in
      let cx = process_code (core_process x) in
      let cy = process_code (core_process y) in
      let pc₁ = pc + 2 + 2 + 2 + 2 + 4 in
      let at' = rest_at cx _ at in
      let atx = first_at cx _ at in
      let cn₁ : Continues E.code c (advance cy (advance cx pc₁ + 4)) = simp advance_append at cn in
      let j : target (pc + 2 + 2 + 2 + 2) ((size cx + 4) / 2) ≡ advance cx pc₁ + 4
      = over_lands (pc + 2 + 2 + 2 + 2) (size cx + 4) (omega (arith, f₅.inside, ok.short_code)) (omega (arith, size_inside f₅.inside atx, ok.short_code))
      (omega (arith, size_even atx)) ∙ omega (arith, advance_size atx) in
      record {
        n = _;
        z = _;
        path = fails (choose x y) w p mr (first_at take_condition _ code) h;
        related = rw (eq-eqb w 0 h) (relate ok (suc k) ((advance cx pc₁ + 4, hop f₅ (rw j there), tail_at at', cn₁), (fi.1, fi.2)) (popped mr));
        falls = λ x. omega arith;
      }

  pub of_choose : (x y : Process) (w : ℕ) (p : List ℕ) → At E.code pc (choice_code (process_code (core_process x)) (process_code (core_process y))) → Here (choose x y) (w ∷ p)
  of_choose x y w p at = by (dec_lt 0 w)
    where
      by : Dec (0 < w) → Here (choose x y) (w ∷ p)
      by (yes h) = choose_then x y w p at h
      by (no h) = choose_else x y w p at (omega arith)

  -- ── loops ──

  repeat_body : (e : Expression) (x : Process) (w : ℕ) (p : List ℕ) (q₀ : ℕ) → At E.code q₀ (process_code (core_process (loop e x))) → pc ≡ advance (expression_code (core e)) q₀
      → At E.code pc (repeat_code (expression_code (core e)) (process_code (core_process x))) → 0 < w → Here (repeat e x) (w ∷ p)
  unfolding process_code repeat_code take_condition jump_over jump_back
  repeat_body e x w p q₀ at₀ eq code h cn fi mr =
      let at = tail_at (rest_at take_condition _ code) in
      let ce = expression_code (core e) in
      let cx = process_code (core_process x) in
      let pc₁ = pc + 2 + 2 + 2 + 2 + 4 in
      let at' = rest_at cx _ at in
      let f₆ = head_at at' in
      let atx = first_at cx _ at in
      let ate = first_at ce _ at₀ in
      let se = eq ∙ advance_size ate in
      let sx = advance_size atx in
      let j : target (advance cx pc₁) (4294967296 - (size ce + size cx + 16) / 2) ≡ q₀
      = back_lands (advance cx pc₁) (size ce + size cx + 16) q₀ (omega (arith, f₆.inside, ok.short_code)) (omega (arith, size_even ate, size_even atx)) (omega arith) (omega arith) in
      let cn₁ : Continues E.code c (advance (ce ++ repeat_code ce cx) q₀) = rw (advance_append ce (repeat_code ce cx) q₀, ← eq) cn in
      record {
        n = _;
        z = _;
        path = holds (repeat e x) w p mr (first_at take_condition _ code) h;
        related = rw (ne_eqb w 0 (omega arith))
            (relate ok (suc k) (
              (pc₁, there, atx, (q₀, hop f₆ (rw j there), at₀, cn₁)),
              (record { resolved = fi.0.resolved.1; shallow = omega (arith, fi.0.shallow) }, (fi.0, fi.1)),
            )
            (popped mr));
        falls = λ x. omega arith;
      }

  repeat_out : (e : Expression) (x : Process) (w : ℕ) (p : List ℕ) → At E.code pc (repeat_code (expression_code (core e)) (process_code (core_process x))) → w ≡ 0 → Here (repeat e x) (w ∷ p)
  unfolding repeat_code take_condition jump_over jump_back
  repeat_out e x w p code h cn fi mr =
      let f₅ = head_at (rest_at take_condition _ code) in
      let at = tail_at (rest_at take_condition _ code) in
      let cx = process_code (core_process x) in
      let pc₁ = pc + 2 + 2 + 2 + 2 + 4 in
      let atx = first_at cx _ at in
      let cn₁ : Continues E.code c (advance cx pc₁ + 4) = simp advance_append at cn in
      let j : target (pc + 2 + 2 + 2 + 2) ((size cx + 4) / 2) ≡ advance cx pc₁ + 4
      = over_lands (pc + 2 + 2 + 2 + 2) (size cx + 4) (omega (arith, f₅.inside, ok.short_code)) (omega (arith, size_inside f₅.inside atx, ok.short_code))
      (omega (arith, size_even atx)) ∙ omega (arith, advance_size atx) in
      record {
        n = _;
        z = _;
        path = fails (repeat e x) w p mr (first_at take_condition _ code) h;
        related = rw (eq-eqb w 0 h) (relate ok (suc k) (hop_to E.code _ c f₅ j cn₁, fi.1) (popped mr));
        falls = λ x. omega arith;
      }

  pub of_repeat : (e : Expression) (x : Process) (w : ℕ) (p : List ℕ) → ItemAt E.code (repeat e x) pc → Here (repeat e x) (w ∷ p)
  unfolding process_code
  of_repeat e x w p (q₀, at₀, eq) = by (dec_lt 0 w)
    where
      at : At E.code pc (repeat_code (expression_code (core e)) (process_code (core_process x)))
      at = rw eq (rest_at (expression_code (core e)) _ at₀)

      by : Dec (0 < w) → Here (repeat e x) (w ∷ p)
      by (yes h) = repeat_body e x w p q₀ at₀ eq at h
      by (no h) = repeat_out e x w p at (omega arith)

  -- ── processes that unfold ──

  -- braces: their processes stand in the code in order
  list_continues : (ps : Processes) (q : ℕ) → At E.code q (process_code (core_list ps)) → Continues E.code c (advance (process_code (core_list ps)) q) → Continues E.code (in_order ps c) q
  unfolding process_code
  list_continues Processes.none q at cn = cn
  list_continues (also x ps) q at cn =
      let cx = process_code (core_process x) in
      let at' = rw (list_code x ps) at at in
      (q, there, first_at cx _ at', list_continues ps (advance cx q) (rest_at cx _ at') (rw (list_code x ps, advance_append) at cn))

  list_fits : (ps : Processes) (p : List ℕ) → ResolvedAll E.declarations ps → length p + deepest_of ps < E.stack → Fits E c p → Fits E (in_order ps c) p
  list_fits Processes.none p r b f = f
  list_fits (also x ps) p r b f = (record { resolved = r.0; shallow = omega arith }, list_fits ps p r.1 (omega arith) f)

  pub of_process : (x : Process) (p : List ℕ) → At E.code pc (process_code (core_process x)) → Here (execute x) p
  unfolding process_code
  of_process skip p at cn fi mr = record { n = _; z = _; path = here; related = relate ok k (cn, fi.1) mr; falls = λ x. omega arith }
  of_process stop p (f ▸ at) cn fi mr = record { n = _; z = _; path = here; related = relate ok k f mr; falls = λ x. omega arith }
  of_process (assign v e) p at cn fi mr =
      let ce = expression_code (core e) in
      record {
        n = _;
        z = _;
        path = here;
        related = relate ok k (
          (pc, there, first_at ce _ at, (_, there, rest_at ce _ at, rw advance_append at cn)),
          (fi.0.resolved.1, omega (arith, fi.0.shallow), λ w h. (fi.0.resolved.0, fi.1)),
        )
            mr;
        falls = λ x. omega arith;
      }
  of_process (assign_element y u e) p at cn fi mr =
      let cs = expression_code (core u) in
      let ce = expression_code (core e) in
      let ck = check_subscript y.length in
      let at₁ = rest_at cs _ at in
      let at₂ = rest_at ck _ at₁ in
      let dy = fi.0.resolved.0 in
      record {
        n = _;
        z = _;
        path = here;
        related = relate ok k (
          (pc, there, first_at cs _ at, (_, there, first_at ck _ at₁, (_, there, first_at ce _ at₂, (_, there, rest_at ce _ at₂, simp advance_append at cn)))),
          (
            fi.0.resolved.1,
            omega (arith, fi.0.shallow),
            λ w h. (dy.few, λ l. (fi.0.resolved.2, omega (arith, fi.0.shallow), λ v i. (record { inside = omega (arith, dy.inside); own = dy.own w l }, fi.1))),
          ),
        )
            mr;
        falls = λ x. omega arith;
      }
  of_process (braces ps) p at cn fi mr =
      record {
        n = _;
        z = _;
        path = here;
        related = relate ok k (list_continues ps pc at cn, list_fits ps p fi.0.resolved fi.0.shallow fi.1) mr;
        falls = λ x. omega (arith, in_order_size ps c);
      }
  of_process (conditional e x y) p at cn fi mr =
      let ce = expression_code (core e) in
      record {
        n = _;
        z = _;
        path = here;
        related = relate ok k (
          (pc, there, first_at ce _ at, (_, there, rest_at ce _ at, rw advance_append at cn)),
          (
            fi.0.resolved.0,
            omega (arith, fi.0.shallow),
            λ w h. (
              record { resolved = fi.0.resolved.1; shallow = omega (arith, fi.0.shallow) },
              record { resolved = fi.0.resolved.2; shallow = omega (arith, fi.0.shallow) },
              fi.1,
            ),
          ),
        )
            mr;
        falls = λ x. omega arith;
      }
  of_process (loop e x) p at cn fi mr =
      let ce = expression_code (core e) in
      record {
        n = _;
        z = _;
        path = here;
        related = relate ok k (
          (pc, there, first_at ce _ at, (_, there, (pc, at, refl), rw advance_append at cn)),
          (fi.0.resolved.0, omega (arith, fi.0.shallow), λ w h. (fi.0, fi.1)),
        )
            mr;
        falls = λ x. omega arith;
      }
