-- Demand 1's refusals and demands 3, 4 and 5 at the C boundary, proved: an exported call does to the words of a state what the call does to the state. Rests on DemandsProof and on numbers' laws; assumes nothing.
use Rattle.std.specs.Prelude.{◌≡◌, refl, Bool, false, ℕ, ltb, eqb}
use Rattle.std.proofs.Common.{sym, subst, ◌∙◌, arith, ltb-false}
use Rattle.std.proofs.Math.Path.{ap}
use mathlib.Core.List.{List, [], ◌∷◌}
use Rattle.std.proofs.Math.ListN.{length}
use Rattle.std.proofs.lemmas.Bool.{eqb-false}
use Rattle.x_program.specs.Tree.{Program}
use Rattle.x_program.specs.Rows.{table_of}
use Rattle.x_meaning.specs.TableRun.{walk_of}
use Rattle.x_verdict.specs.Deserved.{FirstDeserved}
use Rattle.translate_rules.specs.ImageCode.{image}
use Rattle.arm_state.specs.State.{base, fresh_of}
use Rattle.arm_state.specs.declared.Machine.{Machine}
use Rattle.arm_word.specs.ChoiceLaws.{by_test}
use Rattle.arm_word.specs.Access.{Access}
use Rattle.arm_machine.specs.Step.{step_of}
use Rattle.arm_machine.specs.StepLaws.{step_kept}
use Rattle.arm_machine.specs.MachineRun.{svc_count, run_of}
use Rattle.arm_machine.specs.RunStill.{run_still}
use Rattle.arm_machine.specs.Iterations.{run_length, run_registers}
use Rattle.arm_machine.specs.declared.Started.{Started}
use Rattle.gutilamboy_numbers.specs.Numbers.{words_of_state}
use Rattle.gutilamboy_numbers.specs.NumberLaws.{state_back}
use Rattle.gutilamboy.specs.Calls.{left, of_start, stepped_words, ran_words, handed, run_call, translate_left, translate_call}
use Rattle.theorem_simulation.specs.Demand3.{Each, D, N, Lent, Call, step, run, Called, call, calls, started, Answered, EndsBy, Demand3}
use Rattle.theorem_simulation.specs.Iterated.{most, call_is_run}
use Rattle.theorem_simulation.specs.Demand4.{Alike, Both}
use Rattle.gutilamboy_walker.specs.WalkCall.{walk_call}
use Rattle.walker_run.specs.Handed.{left_by_walk}
use Rattle.theorem_demands.proofs.DemandsProof.{table_at_front, demands}
use Rattle.theorem_demands.specs.ExportedDemand.{exported, exported_calls, first_words, InOrder, EndsSo, AtBoundary, SameLeft, leaves, Exported}

-- ── what an exported call leaves, by what the call hands back ──

-- a run's answer has its count
abbrev count_words : Call → Called → List ℕ
count_words step a = []
count_words (run n) a = a.count ∷ []

abbrev answer_words : Call → Called → List ℕ
answer_words k a = a.status ∷ a.number ∷ count_words k a

-- where nothing completed, the words that came are those of the state after, which is the state before
handed_is : (m m' : Machine) (b : Bool) → (b ≡ false → m' ≡ m) → handed b m' (words_of_state m) ≡ words_of_state m'
handed_is m m' b f = by_test (λ t. (t ≡ false → m' ≡ m) → handed t m' (words_of_state m) ≡ words_of_state m') b (λ _ _. refl) (λ _ f. ap words_of_state (sym (f refl))) f

exported_is : (code : List ℕ) (k : Call) (w : List ℕ) (m : Machine) → length m.regs ≡ 8
    → let a = call code k w m in exported code k w (words_of_state m) ≡ left (answer_words k a) (words_of_state a.machine) a.words
exported_is code step w m r =
    let a = (step_of code w m).after in
    rw (state_back m r) (ap (λ (s : List ℕ). left (stepped_words a.state) s a.words)
    (handed_is m a.state.machine (eqb a.state.status 0) (λ e. (step_kept code w m (omega (arith, eqb-false a.state.status 0 e))).0)))
exported_is code (run n) w m r =
    let a = run_of n code w m in
    rw (state_back m r) (ap (λ (s : List ℕ). left (ran_words a.state) s a.words)
    (handed_is m a.state.machine (ltb (svc_count a.state.status) a.state.count) (λ e. run_still n code w m (ltb-false (svc_count a.state.status) a.state.count e))))

call_registers : (code : List ℕ) (k : Call) (w : List ℕ) (m : Machine) → length (call code k w m).machine.regs ≡ length m.regs
call_registers code k w m = ap (λ (a : Called). length a.machine.regs) (call_is_run code k w m) ∙ run_registers (most k) code w m

call_length : (code : List ℕ) (k : Call) (w : List ℕ) (m : Machine) → length (call code k w m).words ≡ length w
call_length code k w m = ap (λ (a : Called). length a.words) (call_is_run code k w m) ∙ run_length (most k) code w m

-- ── demand 3 ──

module _ (p : Program) (memory : List ℕ) (lent : Lent p memory) (d : Demand3 p memory) where
  -- a list of exported calls from a state's words, beside the same calls from the state
  each_left : (ks : List Call) (w : List ℕ) (m : Machine) → length m.regs ≡ 8 → length w ≡ length memory → Each (Answered p memory) (calls (image p) ks w m)
      → Each (InOrder p memory) (exported_calls (image p) ks w (words_of_state m))
  unfolding calls exported_calls
  each_left [] w m r l a = tt
  each_left (k ∷ ks) w m r l a =
      rw (exported_is (image p) k w m r) (
        record {
          answered = a.0.not_refused;
          state_words = refl;
          sp_low = a.0.kept.sp_low;
          sp_high = a.0.kept.sp_high;
          all_words = call_length (image p) k w m ∙ l;
          untouched = a.0.kept.untouched;
          ended = a.0.ended;
        },
        each_left ks _ _ (call_registers (image p) k w m ∙ r) (call_length (image p) k w m ∙ l) a.1,
      )

  started_is : started p memory ≡ fresh_of (D p) (N p)
  started_is = ap (λ (s : Started). s.machine) d.starts

  fresh_words : words_of_state (fresh_of (D p) (N p)) ≡ first_words p
  unfolding fresh_of
  fresh_words = ap (λ (sp : ℕ). 0 ∷ 0 ∷ 0 ∷ 0 ∷ 0 ∷ 0 ∷ 0 ∷ base ∷ sp ∷ 0 ∷ 0 ∷ 0 ∷ []) (omega (arith, lent.enough, lent.few))

  pub started_words : words_of_state (started p memory) ≡ first_words p
  started_words = ap words_of_state started_is ∙ fresh_words

  pub eight : length (started p memory).regs ≡ 8
  unfolding fresh_of
  eight = ap (λ (m : Machine). length m.regs) started_is

  run_ends : (limit n : ℕ) (words : List ℕ) (trace : List Access) → EndsBy p n words trace (call (image p) (run limit) memory (started p memory))
      → EndsSo p n words (run_call limit (image p) memory (first_words p))
  run_ends limit n words trace e =
      subst (λ (s : List ℕ). EndsSo p n words (run_call limit (image p) memory s)) started_words
      (rw (state_back (started p memory) eight) (record { by_svc = e.by_svc; number = e.number; same_words = e.same_words }))

  pub at_boundary : AtBoundary p memory
  at_boundary = record {
    starts = ap of_start d.starts ∙ ap (λ (s : List ℕ). record { status = 0; state = s }) fresh_words;
    each = λ ks. subst (λ (s : List ℕ). Each (InOrder p memory) (exported_calls (image p) ks memory s)) started_words (each_left ks memory (started p memory) eight refl (d.answered ks));
    ends = λ j n e. let l = d.ends j n e in (l.0, λ limit h. run_ends limit n _ _ (l.1 limit h));
  }

-- ── demand 4 ──

module _ (p : Program) where
  same_answer : (k : Call) (a b : Called) → Alike p a b → answer_words k a ≡ answer_words k b
  same_answer step a b s = rw (s.status, s.number)
  same_answer (run n) a b s = rw (s.status, s.number, s.count)

  -- two lists of exported calls from two states' words, beside the same calls from the states
  both_left : (ks : List Call) (w v : List ℕ) (m n : Machine) → length m.regs ≡ 8 → length n.regs ≡ 8 → Both (Alike p) (calls (image p) ks w m) (calls (image p) ks v n)
      → Both (SameLeft p) (exported_calls (image p) ks w (words_of_state m)) (exported_calls (image p) ks v (words_of_state n))
  unfolding calls exported_calls
  both_left [] w v m n r q s = tt
  both_left (k ∷ ks) w v m n r q s =
      rw (exported_is (image p) k w m r, exported_is (image p) k v n q) (
        record { answer = same_answer k _ _ s.0; words = s.0.words },
        both_left ks _ _ _ _ (call_registers (image p) k w m ∙ r) (call_registers (image p) k v n ∙ q) s.1,
      )

-- ── demand 1 ──

refusal_left : (source table code : List ℕ) (n p : ℕ) → FirstDeserved source (length table) (length code) n p
    → translate_call source table code ≡ translate_left (n ∷ p ∷ 0 ∷ 0 ∷ 0 ∷ 0 ∷ 0 ∷ []) table code
refusal_left source table code n p f =
    let r = demands.one.refuses source table code n p f in
    λ j. translate_left (r.status j ∷ r.place j ∷ r.no_tokens j ∷ r.no_rows j ∷ r.no_data j ∷ r.no_depth j ∷ r.no_code j ∷ []) (r.table_kept j) (r.code_kept j)

-- ── demand 5 ──

walk_left : (limit first : ℕ) (t memory buffer : List ℕ) → walk_call limit first t memory buffer ≡ leaves first buffer (walk_of limit t memory)
unfolding left_by_walk
walk_left limit first t memory buffer = refl

-- THE corollary
pub exported_demands : Exported
exported_demands = record {
  one = refusal_left;
  three = λ source table code p memory t l. at_boundary p memory l (demands.three source table code p memory t l);
  four = λ source table code p memory other t l m a ks.
      let d = demands.three source table code p memory t l in
      let e = demands.three source table code p other t m in
      subst (λ (s : List ℕ). Both (SameLeft p) (exported_calls (image p) ks memory s) (exported_calls (image p) ks other (first_words p))) (started_words p memory l d)
      (subst (λ (s : List ℕ). Both (SameLeft p) (exported_calls (image p) ks memory (words_of_state (started p memory))) (exported_calls (image p) ks other s)) (started_words p other m e)
      (both_left p ks memory other (started p memory) (started p other) (eight p memory l d) (eight p other m e) (demands.four source table code p memory other t l m a ks)));
  five = λ source table code p t memory limit first buffer.
      ap (λ (rows : List ℕ). walk_call limit first rows memory buffer) (table_at_front source table code p t) ∙ walk_left limit first (table_of p) memory buffer;
}
