-- Demand 4 read clause by clause for a single run, and its premises met by two memories that differ in all but the declared word. Instances.
use Rattle.std.specs.Prelude.{◌≡◌, refl, List, [], ◌∷◌, ℕ, take, replicate}
use Rattle.std.proofs.Common.{arith, lit≤}
use Rattle.x_program.specs.Tree.{Program, data_words}
use Rattle.translate_rules.specs.ImageCode.{image}
use Rattle.arm_machine.specs.MachineRun.{RunAfter, run_of}
use Rattle.theorem_simulation.specs.Demand3.{D, Lent, run, tried, call, calls, trace_of, started}
use Rattle.theorem_simulation.proofs.Demand3Example.{five, lent_words, five_image, five_sound, five_lent}
use Rattle.theorem_simulation.specs.Demand4.{Agree, Alike, Demand4}
use Rattle.theorem_simulation.proofs.Demand4Proof.{demand4}

-- ── a single run: the request's own words, by the run's definition ──

module _ (p : Program) (memory other : List ℕ) (d : Demand4 p memory other) (limit : ℕ) where
  abbrev here : RunAfter
  here = run_of limit (image p) memory (started p memory)

  abbrev there : RunAfter
  there = run_of limit (image p) other (started p other)

  single_run : Alike p (call (image p) (run limit) memory (started p memory)) (call (image p) (run limit) other (started p other))
  unfolding calls
  single_run = (d (run limit ∷ [])).0

  same_end : (here.state.status ≡ there.state.status) × (here.state.number ≡ there.state.number)
  same_end = (single_run.status, single_run.number)

  same_count : here.state.count ≡ there.state.count
  same_count = single_run.count

  same_accesses : trace_of p (tried limit (image p) memory (started p memory)) ≡ trace_of p (tried limit (image p) other (started p other))
  same_accesses = single_run.trace

  same_words : take (D p) here.words ≡ take (D p) there.words
  same_words = single_run.words

-- ── var x; x := 2 + 3, over 14 words and over 13, of which only x's is the same ──

other_words : List ℕ
other_words = 7 ∷ replicate 12 0xFFFFFFFE

other_lent : Lent five other_words
unfolding five other_words data_words
other_lent = record { words = omega arith; enough = lit≤ tt; few = lit≤ tt }

same_x : Agree five lent_words other_words
unfolding five lent_words other_words data_words
same_x = refl

five_alike : Demand4 five lent_words other_words
five_alike = demand4 five five_sound (rw five_image (lit≤ tt)) lent_words other_words five_lent other_lent same_x
