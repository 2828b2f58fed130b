-- Anything that follows the abstract machine simulates the source: the machine over lent words (Concrete), or two of them side by side (Demand4Proof). Lemmas; they rest on MoveBlocks and Generic.
use Rattle.std.specs.Prelude.{◌≡◌, ◌⊎◌, ℕ}
use Rattle.std.proofs.Common.{inl, inr, ⊎_elim}
use Rattle.x_meaning.specs.SourceRun.{State, move}
use Rattle.theorem_simulation.specs.Generic.{times, Run, here, more, Steps, Rests, sees, reaches}
use Rattle.theorem_simulation.specs.Abstract.{Abstract, sp_of, memory_of, trace_of}
use Rattle.theorem_simulation.specs.Straight.{Goes, Path}
use Rattle.theorem_simulation.specs.Straight as straight
use Rattle.theorem_simulation.specs.Relation.{Setting, array_of, Limits, Related, Good}
use Rattle.theorem_simulation.specs.Block.{Block, state_size}
use Rattle.theorem_simulation.specs.MoveBlocks.{Stands, simulates}

-- x and a state of the source, by way of an abstract state that x follows
pub record Simulated (E : Setting) {M : Type 0} (Follows : Abstract → M → Type 0) (s : State) (x : M) : Type 0 where
  pub abstract_state : Abstract
  pub related : Related E s abstract_state
  pub follows : Follows abstract_state x

-- what it is to follow; Seen is to hold before every step
pub record Follower (E : Setting) {M : Type 0} (step : M → M) (Follows : Abstract → M → Type 0) (Seen : State → M → Type 0) : Type 0 where
  -- a step goes along with an instruction of the abstract machine
  pub goes : (s : State) (m m₁ : Abstract) (x : M) → Follows m x → Good E s (sp_of m) (memory_of m) (trace_of m) → Goes (array_of E) E.code m m₁ → Seen s x × Follows m₁ (step x)
  -- where the abstract machine stands at an SVC, nothing changes any more
  pub rests : (s : State) (m : Abstract) (x : M) → Follows m x → Stands E s m → (step x ≡ x) × Seen s x
  -- what is seen of the source's next state is seen of this one
  pub back : (s : State) (x : M) → Seen (move s) x → Seen s x

module _ (E : Setting) (ok : Limits E) {M : Type 0} (step : M → M) (Follows : Abstract → M → Type 0) (Seen : State → M → Type 0) (f : Follower E step Follows Seen) where
  -- a path of the abstract machine, as steps
  record Ran (s : State) (z : Abstract) (n : ℕ) (x : M) : Type 0 where
    last : M
    run : Run step (Seen s) last n x
    follows : Follows z last

  path_run : (s : State) {z : Abstract} {n : ℕ} {m : Abstract} → Path (array_of E) E.code (Good E s) z n m → (x : M) → Follows m x → Ran s z n x
  path_run s straight.here x h = record { last = x; run = here; follows = h }
  path_run s (straight.more {m = m} {m₁ = m₁} q g p) x h =
      let c = f.goes s m m₁ x h q g in
      let r = path_run s p (step x) c.1 in
      record { last = r.last; run = more c.0 r.run; follows = r.follows }

  abbrev Moves : State → M → Type 0
  Moves s x = Steps move step state_size (Simulated E Follows) Seen s x ⊎ Rests move step state_size (Simulated E Follows) Seen s x

  -- every move
  simulates_by : (s : State) (x : M) → Simulated E Follows s x → Moves s x
  simulates_by s x r = ⊎_elim block stands (simulates ok r.related)
    where
      block : Block E s r.abstract_state → Moves s x
      block b =
          let c = path_run s b.path x r.follows in
          inl (record { n = b.n; z = c.last; run = c.run; related = record { abstract_state = b.z; related = b.related; follows = c.follows }; falls = b.falls })

      stands : Stands E s r.abstract_state → Moves s x
      stands b = let h = f.rests s r.abstract_state x r.follows b in inr (record { moves_no_more = b.stays; steps_no_more = h.0; seen = h.1 })

  -- after every number of steps
  pub always : (i : ℕ) (s : State) (x : M) → Simulated E Follows s x → Seen s (times step i x)
  always = sees move step state_size (Simulated E Follows) Seen f.back simulates_by

  -- for every number of moves
  pub arrives : (j : ℕ) (s : State) (x : M) → Simulated E Follows s x → (n : ℕ) × Simulated E Follows (times move j s) (times step n x)
  arrives = reaches move step state_size (Simulated E Follows) Seen f.back simulates_by
