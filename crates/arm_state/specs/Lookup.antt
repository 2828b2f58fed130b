-- The word at an address as a load looks it up, and the slots of data. Definitions and laws; rests on Effects.
use Rattle.std.specs.Prelude.{◌≡◌, refl, List, ℕ, ◌+◌, ◌-◌, ◌/◌, ◌<◌, length, get_or, ltb, leb, Option, Some, None}
use Rattle.std.proofs.Common.{arith, ltb-true}
use Rattle.arm_word.specs.Choice.{pick}
use Rattle.arm_word.specs.ChoiceLaws.{by_test}
use Rattle.arm_state.specs.State.{base, takes}
use Rattle.arm_state.specs.Effects.{after, goes, done, fault, slot_of, code_word, load_slot, load_at}
use Rattle.arm_state.specs.declared.Machine.{Machine}
use Rattle.arm_state.specs.declared.Stepped.{Stepped}

abbrev pub data_word : List ℕ → Option ℕ → Option ℕ
data_word w (Some k) = Some (get_or w k 0)
data_word w None = None

-- "Loads read code or data"
unfoldable pub word_at : List ℕ → List ℕ → ℕ → Option ℕ
word_at c w a = pick (leb (a + 4) (length c)) (Some (code_word c a)) (data_word w (slot_of a (length w)))

abbrev pub loads_found : Machine → ℕ → Option ℕ → Stepped
loads_found m d (Some v) = done (takes m d v)
loads_found m d None = fault m 24

-- a load is what it found
pub load_found : (c w : List ℕ) (m : Machine) (d a : ℕ) → after (loads_found m d (word_at c w a)) w ≡ (load_at c w m d (Some a)).after
unfolding word_at
load_found c w m d a =
    by_test (λ t. after (loads_found m d (pick t (Some (code_word c a)) (data_word w (slot_of a (length w))))) w
    ≡ (pick t (goes w (takes m d (code_word c a))) (load_slot w m d (slot_of a (length w)))).after) (leb (a + 4) (length c))
    (λ _. refl)
    (λ _. in_data (slot_of a (length w)))
  where
    in_data : (s : Option ℕ) → after (loads_found m d (data_word w s)) w ≡ (load_slot w m d s).after
    in_data (Some k) = refl
    in_data None = refl

-- the slot of an address is below the number of words
pub slot_lt : (a n i : ℕ) → slot_of a n ≡ Some i → i < n
unfolding slot_of
slot_lt a n i =
    by_test (λ t. pick t (pick (ltb ((a - base) / 4) n) (Some ((a - base) / 4)) None) None ≡ Some i → i < n) (leb base a)
    (λ e. by_test (λ t. pick t (Some ((a - base) / 4)) None ≡ Some i → i < n) (ltb ((a - base) / 4) n)
    (λ f g. let h : (a - base) / 4 ≡ i = cc in let k = ltb-true ((a - base) / 4) n f in rw (← h) k)
    (λ f g. absurd (let z : ◌≡◌ {A = ℕ} 0 1 = cc in omega arith)))
    (λ e g. absurd (let z : ◌≡◌ {A = ℕ} 0 1 = cc in omega arith))
