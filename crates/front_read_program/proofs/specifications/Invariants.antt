-- The invariant: whatever the front reads as from here, it reads as from the first token.
use Rattle.std.proofs.Common.{List, ℕ, ◌-◌, ◌≤◌, length, Result}
use Rattle.front_read_expressions.specs.declared.Ungrammatical.{Ungrammatical}
use Rattle.front_read_program.specs.SpecificationReaders.{ReadsFront}
use Rattle.front_read_program.specs.declared.Front.{Front}
use Rattle.front_read_program.proofs.specifications.Given as goal

abbrev pub invariant-loop-front : goal.invariant-loop-front
invariant-loop-front l = (l.front.process ≤ length l.kinds) × (l.front.rows ≤ l.front.process)
    × ((values : List ℕ) (r : Result Front Ungrammatical) → ReadsFront l.kinds values l.front.process l.front.rows l.front.start r → ReadsFront l.kinds values 0 0 0 r)

abbrev pub decreases-loop-front : goal.decreases-loop-front
decreases-loop-front l = length l.kinds - l.front.process
