-- What an instruction can come to: five outcomes, from which the laws of a step follow. Definitions; rests on Effects.
use Rattle.std.specs.Prelude.{◌≡◌, List, [], ◌∷◌, ℕ, ◌<◌, length, get_or, set}
use Rattle.arm_word.specs.Access.{loaded, stored}
use Rattle.arm_state.specs.Effects.{after, Effect, done, ended, goes, stops}
use Rattle.arm_state.specs.declared.Machine.{Machine}

-- from words w and state m: a new state alone; a word loaded, and one stored, with a new state; an SVC; a fault or refusal, by its number
pub data Outcome (w : List ℕ) (m : Machine) : Effect → Type 0 where
  completed : (m' : Machine) → length m'.regs ≡ length m.regs → Outcome w m (goes w m')
  loaded_word : (m' : Machine) (k : ℕ) → length m'.regs ≡ length m.regs → k < length w → Outcome w m (record { after = after (done m') w; access = loaded k (get_or w k 0) ∷ [] })
  stored_word : (m' : Machine) (k v : ℕ) → length m'.regs ≡ length m.regs → k < length w
      → Outcome w m (record { after = after (done m') (set w k v); access = stored k (get_or w k 0) v ∷ [] })
  ended_by : (u : ℕ) → Outcome w m (stops w (ended m u))
  faulted : (f n : ℕ) → 1 < f → Outcome w m (stops w (record { machine = m; status = f; number = n }))
