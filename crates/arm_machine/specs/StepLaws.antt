-- The laws of a step: a fault and an SVC keep everything, at most one word of data changes, and it is the one listed. Rests on Step and on arm_state's outcomes.
use Rattle.std.specs.Prelude.{◌≡◌, refl, false, ◌⊎◌, List, [], ◌∷◌, ℕ, ◌<◌, Option, Some, None, length, get_or, set, ltb, eqb}
use Rattle.std.proofs.Common.{sym, inl, inr, arith, length-set, get_or-set_same, get_or-set_other, lit<, eqb-true}
use Rattle.std.proofs.lemmas.List.{set-get_or}
use Rattle.std.proofs.lemmas.Bool.{eqb-false}
use Rattle.arm_word.specs.Choice.{pick}
use Rattle.arm_word.specs.ChoiceLaws.{by_test}
use Rattle.arm_word.specs.Access.{Access, stored}
use Rattle.arm_encoding.specs.Encoding.{decode_of}
use Rattle.arm_encoding.specs.declared.Instr.{Instr}
use Rattle.arm_classes.specs.Classes.{classify_of}
use Rattle.arm_state.specs.Effects.{Effect, done, fault, stops}
use Rattle.arm_state.specs.Outcome.{Outcome, completed, loaded_word, stored_word, ended_by, faulted}
use Rattle.arm_state.proofs.OutcomeLaws.{execute_outcome}
use Rattle.arm_state.specs.declared.Machine.{Machine}
use Rattle.arm_machine.specs.Step.{fetch_of, unlisted, decoded, fetched, once_of, refusal_of, step_of, code_limit, memory_limit}

-- ── a step has one of the outcomes of an instruction ──

pub once_outcome : (c w : List ℕ) (m : Machine) → Outcome w m (once_of c w m)
unfolding once_of
once_outcome c w m = got (fetch_of c m.pc)
  where
    outside : (s : Option ℕ) → Outcome w m (stops w (unlisted m s))
    outside None = faulted 22 0 (lit< tt)
    outside (Some class) = faulted 26 class (lit< tt)

    known : (h k : ℕ) (d : Option Instr) → Outcome w m (decoded c w m h k d)
    known h k (Some i) = execute_outcome c w m i
    known h k None = outside (classify_of h k)

    got : (f : Option (ℕ × ℕ)) → Outcome w m (fetched c w m f)
    got (Some at) = known at.0 at.1 (decode_of at.0 at.1)
    got None = faulted 21 0 (lit< tt)

-- a refusal is 0, 31 or 32
pub refusal_large : (c w : List ℕ) → eqb (refusal_of c w) 0 ≡ false → 1 < refusal_of c w
unfolding refusal_of
refusal_large c w =
    by_test (λ t. eqb (pick t 31 (pick (ltb memory_limit (length w)) 32 0)) 0 ≡ false → 1 < pick t 31 (pick (ltb memory_limit (length w)) 32 0)) (ltb code_limit (length c))
    (λ _ _. lit< tt)
    (λ _. by_test (λ t. eqb (pick t 32 0) 0 ≡ false → 1 < pick t 32 0) (ltb memory_limit (length w)) (λ _ _. lit< tt) (λ _ e. absurd (eqb-false 0 0 e refl)))

pub step_outcome : (c w : List ℕ) (m : Machine) → Outcome w m (step_of c w m)
unfolding step_of
step_outcome c w m =
    by_test (λ t. Outcome w m (pick t (once_of c w m) (stops w (fault m (refusal_of c w))))) (eqb (refusal_of c w) 0)
    (λ _. once_outcome c w m)
    (λ e. faulted (refusal_of c w) 0 (refusal_large c w e))

-- ── "An instruction that faults changes no register and no word"; "SVC keeps pc"; refusals hand back their state ──

-- every status but 0 keeps the state, the words, and lists no access
kept : {w : List ℕ} {m : Machine} {e : Effect} → Outcome w m e → 0 < e.after.state.status → (e.after.state.machine ≡ m) × (e.after.words ≡ w) × (e.access ≡ [])
kept (completed m' r) h = absurd (omega arith)
kept (loaded_word m' k r l) h = absurd (omega arith)
kept (stored_word m' k v r l) h = absurd (omega arith)
kept (ended_by u) h = (refl, refl, refl)
kept (faulted f n l) h = (refl, refl, refl)

pub step_kept : (c w : List ℕ) (m : Machine) → 0 < (step_of c w m).after.state.status → ((step_of c w m).after.state.machine ≡ m) × ((step_of c w m).after.words ≡ w) × ((step_of c w m).access ≡ [])
step_kept c w m = kept (step_outcome c w m)

pub once_kept : (c w : List ℕ) (m : Machine) → 0 < (once_of c w m).after.state.status → (once_of c w m).after.state.machine ≡ m
once_kept c w m h = (kept (once_outcome c w m) h).0

-- a completed instruction's answer is its state
pub once_done : (c w : List ℕ) (m : Machine) → (once_of c w m).after.state.status ≡ 0 → (once_of c w m).after.state ≡ done (once_of c w m).after.state.machine
once_done c w m = go (once_outcome c w m)
  where
    go : {e : Effect} → Outcome w m e → e.after.state.status ≡ 0 → e.after.state ≡ done e.after.state.machine
    go (completed m' r) z = refl
    go (loaded_word m' k r l) z = refl
    go (stored_word m' k v r l) z = refl
    go (ended_by u) z = absurd (omega arith)
    go (faulted f n l) z = absurd (omega arith)

-- ── the registers ──

registers_kept : {w : List ℕ} {m : Machine} {e : Effect} → Outcome w m e → length e.after.state.machine.regs ≡ length m.regs
registers_kept (completed m' r) = r
registers_kept (loaded_word m' k r l) = r
registers_kept (stored_word m' k v r l) = r
registers_kept (ended_by u) = refl
registers_kept (faulted f n l) = refl

-- an instruction leaves as many registers as there were
pub once_registers : (c w : List ℕ) (m : Machine) → length (once_of c w m).after.state.machine.regs ≡ length m.regs
once_registers c w m = registers_kept (once_outcome c w m)

-- ── the words of data ──

length_kept : {w : List ℕ} {m : Machine} {e : Effect} → Outcome w m e → length e.after.words ≡ length w
length_kept (completed m' r) = refl
length_kept (loaded_word m' k r l) = refl
length_kept {w} (stored_word m' k v r l) = length-set w k v
length_kept (ended_by u) = refl
length_kept (faulted f n l) = refl

pub once_length : (c w : List ℕ) (m : Machine) → length (once_of c w m).after.words ≡ length w
once_length c w m = length_kept (once_outcome c w m)

-- the words with each listed word set to its new value; a load's is its old one
unfoldable pub written : List Access → List ℕ → List ℕ
written [] w = w
written (a ∷ more) w = written more (set w a.offset a.new)

-- each word listed is lent, and had its old value
abbrev pub Listed : List ℕ → List Access → Type 0
Listed w [] = Unit {0}
Listed w (a ∷ more) = (a.offset < length w) × (a.old ≡ get_or w a.offset 0) × Listed w more

-- what a step writes is what it lists: at most one word, which is in data
pub record Touches (w : List ℕ) (e : Effect) : Type 0 where
  pub words : e.after.words ≡ written e.access w
  pub few : length e.access < 2
  pub listed : Listed w e.access

touches : {w : List ℕ} {m : Machine} {e : Effect} → Outcome w m e → Touches w e
unfolding written
touches (completed m' r) = record { words = refl; few = lit< tt; listed = tt }
touches {w} (loaded_word m' k r l) = record { words = sym (set-get_or w k 0); few = lit< tt; listed = (l, refl, tt) }
touches (stored_word m' k v r l) = record { words = refl; few = lit< tt; listed = (l, refl, tt) }
touches (ended_by u) = record { words = refl; few = lit< tt; listed = tt }
touches (faulted f n l) = record { words = refl; few = lit< tt; listed = tt }

pub step_touches : (c w : List ℕ) (m : Machine) → Touches w (step_of c w m)
step_touches c w m = touches (step_outcome c w m)

-- word by word: it stays, or the step listed a store of it
one_word : {w : List ℕ} {m : Machine} {e : Effect} → Outcome w m e → (k : ℕ)
    → (get_or e.after.words k 0 ≡ get_or w k 0) ⊎ ((k < length w) × (e.access ≡ stored k (get_or w k 0) (get_or e.after.words k 0) ∷ []))
one_word (completed m' r) k = inl refl
one_word (loaded_word m' j r l) k = inl refl
one_word {w} (stored_word m' j v r l) k =
    by_test (λ _. (get_or (set w j v) k 0 ≡ get_or w k 0) ⊎ ((k < length w) × (stored j (get_or w j 0) v ∷ [] ≡ stored k (get_or w k 0) (get_or (set w j v) k 0) ∷ []))) (eqb k j)
    (λ e. let k≡ = eqb-true k j e in inr (rw k≡ l, rw (k≡, get_or-set_same w j v 0 l)))
    (λ e. inl (get_or-set_other w j k v 0 (eqb-false k j e)))
one_word (ended_by u) k = inl refl
one_word (faulted f n l) k = inl refl

pub step_one_word : (c w : List ℕ) (m : Machine) (k : ℕ)
    → (get_or (step_of c w m).after.words k 0 ≡ get_or w k 0) ⊎ ((k < length w) × ((step_of c w m).access ≡ stored k (get_or w k 0) (get_or (step_of c w m).after.words k 0) ∷ []))
step_one_word c w m = one_word (step_outcome c w m)
