-- The fields of a core against the list of its words: a register by tests is a register by number, and a list of known length is its elements. Laws; rests on MachineCore.
use Rattle.std.specs.Prelude.{◌≡◌, refl, List, [], ◌∷◌, ℕ, zero, suc, ◌+◌, ◌<◌, ◌≤◌, eqb, Bool, true, false, length, get_or, set, drop}
use Rattle.std.proofs.Common.{sym, ap, ◌∙◌, arith, lit<, ne_eqb, drop-cons}
use Rattle.std.proofs.Math.ListN.{get_or-eq_default}
use Rattle.std.proofs.Math.Seq.{drop-length, set_out}
use Rattle.arm_word.specs.Choice.{pick}
use Rattle.arm_state.specs.State.{next, jump, branch}
use Rattle.arm_state.specs.Effects.{after}
use Rattle.arm_state.specs.declared.Machine.{Machine}
use Rattle.arm_state.specs.declared.Stepped.{Stepped}

-- a number above 7 is none of 0 to 7
above : (r k : ℕ) → k < 8 → eqb (suc (suc (suc (suc (suc (suc (suc (suc r)))))))) k ≡ false
above r k l = ne_eqb _ k (λ e. omega arith)

module _ (a b c d e f g h : ℕ) where
  -- r0 to r7
  abbrev words : List ℕ
  words = a ∷ b ∷ c ∷ d ∷ e ∷ f ∷ g ∷ h ∷ []

  pub read_by_tests : (r : ℕ) →
      pick (eqb r 0) a (pick (eqb r 1) b (pick (eqb r 2) c (pick (eqb r 3) d (pick (eqb r 4) e (pick (eqb r 5) f (pick (eqb r 6) g (pick (eqb r 7) h 0))))))) ≡ get_or words r 0
  read_by_tests zero = refl
  read_by_tests (suc zero) = refl
  read_by_tests (suc (suc zero)) = refl
  read_by_tests (suc (suc (suc zero))) = refl
  read_by_tests (suc (suc (suc (suc zero)))) = refl
  read_by_tests (suc (suc (suc (suc (suc zero))))) = refl
  read_by_tests (suc (suc (suc (suc (suc (suc zero)))))) = refl
  read_by_tests (suc (suc (suc (suc (suc (suc (suc zero))))))) = refl
  read_by_tests (suc (suc (suc (suc (suc (suc (suc (suc r)))))))) =
      rw (above r 0 (lit< tt), above r 1 (lit< tt), above r 2 (lit< tt), above r 3 (lit< tt), above r 4 (lit< tt), above r 5 (lit< tt), above r 6 (lit< tt), above r 7 (lit< tt))
      (let o : length words ≤ suc (suc (suc (suc (suc (suc (suc (suc r))))))) = omega arith in sym (get_or-eq_default words 0 o))

  pub set_by_tests : (r v : ℕ) →
      pick (eqb r 0) v a ∷ pick (eqb r 1) v b ∷ pick (eqb r 2) v c ∷ pick (eqb r 3) v d ∷ pick (eqb r 4) v e ∷ pick (eqb r 5) v f ∷ pick (eqb r 6) v g ∷ pick (eqb r 7) v h ∷ []
      ≡ set words r v
  set_by_tests zero v = refl
  set_by_tests (suc zero) v = refl
  set_by_tests (suc (suc zero)) v = refl
  set_by_tests (suc (suc (suc zero))) v = refl
  set_by_tests (suc (suc (suc (suc zero)))) v = refl
  set_by_tests (suc (suc (suc (suc (suc zero))))) v = refl
  set_by_tests (suc (suc (suc (suc (suc (suc zero)))))) v = refl
  set_by_tests (suc (suc (suc (suc (suc (suc (suc zero))))))) v = refl
  set_by_tests (suc (suc (suc (suc (suc (suc (suc (suc r)))))))) v =
      rw (above r 0 (lit< tt), above r 1 (lit< tt), above r 2 (lit< tt), above r 3 (lit< tt), above r 4 (lit< tt), above r 5 (lit< tt), above r 6 (lit< tt), above r 7 (lit< tt))
      (sym (set_out words (suc (suc (suc (suc (suc (suc (suc (suc r)))))))) v (omega arith)))

-- n elements of a list from the i-th on
unfoldable pub elements : ℕ → ℕ → List ℕ → List ℕ
elements zero i s = []
elements (suc n) i s = get_or s i 0 ∷ elements n (suc i) s

pub elements_are : (n i : ℕ) (s : List ℕ) → length s ≡ i + n → drop i s ≡ elements n i s
unfolding elements
elements_are zero i s e = let z : i ≡ length s = omega arith in rw z (drop-length s)
elements_are (suc n) i s e = drop-cons s i 0 (omega arith) ∙ ap (λ (l : List ℕ). get_or s i 0 ∷ l) (elements_are n (suc i) s (omega arith))

-- ── what an arm of `execute` answers, against its clause ──

pub told : {s t : Stepped} {w : List ℕ} → s ≡ t → after s w ≡ after t w
told {w = w} e = ap (λ (s : Stepped). after s w) e

-- a branch that is taken, and one that isn't
pub jumps : (m : Machine) (b : Bool) (k : ℕ) → b ≡ true → jump m k ≡ branch m b k
unfolding branch
jumps m b k e = rw e

pub stays : (m : Machine) (b : Bool) (k : ℕ) → b ≡ false → next m ≡ branch m b k
unfolding branch
stays m b k e = rw e
