-- Request 2026-01, a plain walker beside the image: the walk of an accepted source's table is the source's run, row by row, and ends as the image does. Definitions and the statement.
-- Demand5Proof has the proof. It rests on demand 3's definitions, and on those of the source's run and the table's.
--
-- Wrong programs, and the clause that rules each out:
-- * always refusing, or refusing a table that translate wrote: `taken`.
-- * doing nothing, or ending at once: `reaches`, `ends`; ending where the source doesn't, or in another way, or with other words: `ended`.
-- * working out an element before the test that guards it, or skipping one that X reads: `sees`, `reaches`, of every number of rows begun and every number of moves.
-- * an access too few or too many, or in another order: `sees`, `ended`, `ends`.
-- * agreeing with the source's run but not with what the scanner does: `as_image`, `image_as`.
-- * a made-up count of steps: `within_limit`, `at_limit`; that a step is one row begun, by definition (`walk_from`), of which the walker's code is an equation.
-- * using the words past the data: `untouched`.
use Rattle.std.specs.Prelude.{◌≡◌, true, List, ℕ, ◌≤◌, ◌<◌, take, drop}
use Rattle.arm_word.specs.Access.{Access}
use Rattle.x_program.specs.Tree.{Program}
use Rattle.x_program.specs.Rows.{table_of}
use Rattle.x_meaning.specs.SourceRun.{moves, begin, ends_with}
use Rattle.x_meaning.specs.TableRun.{Walk, walk_of}
use Rattle.translate_rules.specs.ImageCode.{image}
use Rattle.theorem_simulation.specs.Demand3.{D, run, Called, call, started, EndsBy}

-- the walk of a program's table over lent words
abbrev pub walk : Program → List ℕ → ℕ → Walk
walk p memory limit = walk_of limit (table_of p) memory

-- the image's run over the same words
abbrev pub image_run : Program → List ℕ → ℕ → Called
image_run p memory limit = call (image p) (run limit) memory (started p memory)

-- "given enough steps": from some limit on
abbrev pub Eventually : (ℕ → Type 0) → Type 0
Eventually P = (l : ℕ) × ((limit : ℕ) → l ≤ limit → P limit)

-- a walk that ended by n with these D words and this access list
pub record WalksTo (p : Program) (n : ℕ) (words : List ℕ) (trace : List Access) (w : Walk) : Type 0 where
  pub by_end : w.status ≡ 1
  pub number : w.number ≡ n
  pub same_words : take (D p) w.words ≡ words
  pub same_trace : w.trace ≡ trace

-- one that ended, only if the source's run ends so, with the same D words and the same access list
pub record EndsAsSource (p : Program) (memory : List ℕ) (w : Walk) : Type 0 where
  pub j : ℕ
  pub ends : ends_with (moves j (begin p memory)).end w.number ≡ true
  pub same_words : take (D p) w.words ≡ (moves j (begin p memory)).words
  pub same_trace : w.trace ≡ (moves j (begin p memory)).trace

pub record Demand5 (p : Program) (memory : List ℕ) : Type 0 where
  -- neither 36 nor 33: the limit is reached (0), or the run ends (1)
  pub taken : (limit : ℕ) → (walk p memory limit).status < 2
  -- "a run stops and says so when it would begin a row past its limit"
  pub within_limit : (limit : ℕ) → (walk p memory limit).steps ≤ limit
  pub at_limit : (limit : ℕ) → (walk p memory limit).status ≡ 0 → (walk p memory limit).steps ≡ limit
  -- the words past the data are those that were lent
  pub untouched : (limit : ℕ) → drop (D p) (walk p memory limit).words ≡ drop (D p) memory
  -- after every number of rows begun, some number of moves gives the same access list
  pub sees : (limit : ℕ) → (j : ℕ) × ((walk p memory limit).trace ≡ (moves j (begin p memory)).trace)
  -- for every number of moves, some number of rows begun gives the access list of as many moves or more: what follows a row is done at once, a load and a store among it
  pub reaches : (j : ℕ) → (limit k : ℕ) × (j ≤ k) × ((walk p memory limit).trace ≡ (moves k (begin p memory)).trace)
  -- an end, if and only if the source's run ends so
  pub ended : (limit : ℕ) → (walk p memory limit).status ≡ 1 → EndsAsSource p memory (walk p memory limit)
  pub ends : (j n : ℕ) → let s = moves j (begin p memory) in ends_with s.end n ≡ true → Eventually (λ limit. WalksTo p n s.words s.trace (walk p memory limit))
  -- "it ends, given enough steps, exactly if and as the image does, with the same D words and the same list of array accesses"
  pub as_image : (n : ℕ) (words : List ℕ) (trace : List Access) → Eventually (λ limit. EndsBy p n words trace (image_run p memory limit))
      → Eventually (λ limit. WalksTo p n words trace (walk p memory limit))
  pub image_as : (n : ℕ) (words : List ℕ) (trace : List Access) → Eventually (λ limit. WalksTo p n words trace (walk p memory limit))
      → Eventually (λ limit. EndsBy p n words trace (image_run p memory limit))
