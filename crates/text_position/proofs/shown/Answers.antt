-- `text_position::shown` meets its contract, arm by arm. Assumes nothing.
use Rattle.std.proofs.Common.{◌≡◌, refl, arith, ℕ, ltb, rules, ◌⊎◌, inl, inr, ⊎_elim, ne_eqb, lt-ltb, le-ltb}
use Rattle.arm_word.specs.Choice.{pick}
use Rattle.arm_word.specs.ChoiceLaws.{pick_t, pick_f}
use Rattle.text_position.specs.Position as spec
use Rattle.text_position.proofs.shown.Goals as goal

pub returns-in-9 : goal.returns-in-9
unfolding spec.shown
returns-in-9 c = ⊎_elim (λ e. rw e refl) (λ e. rw e refl) c.in-9.is

-- neither tab nor CR
other : (z b : ℕ) → (b ≡ 9 → ⊥) → (b ≡ 13 → ⊥) → z ≡ pick (ltb b 32) 63 (pick (ltb 126 b) 63 b) → z ≡ spec.shown b
unfolding spec.shown
other z b t r e = pick_f z 32 _ _ (ne_eqb b 9 t) (pick_f z 32 _ _ (ne_eqb b 13 r) e)

pub returns-in-32-to-126 : goal.returns-in-32-to-126
returns-in-32-to-126 c =
    let b = c.args.b in
    other b b (λ e. omega arith) (λ e. omega arith) (pick_f b 63 _ _ (le-ltb b 32 (omega arith)) (pick_f b 63 _ _ (le-ltb 126 b (omega arith)) refl))

pub returns-in_default : goal.returns-in_default
returns-in_default c =
    let b = c.args.b in
    let k : (b ≡ 9) ⊎ (b ≡ 13) → ⊥ = search rules in
    other 63 b (λ e. k (inl e)) (λ e. k (inr e)) (pick_t 63 63 _ _ (lt-ltb b 32 (omega arith)) refl)

pub returns-in_default-2 : goal.returns-in_default-2
returns-in_default-2 c =
    let b = c.args.b in
    other 63 b (λ e. omega arith) (λ e. omega arith) (pick_f 63 63 _ _ (le-ltb b 32 (omega arith)) (pick_t 63 63 _ _ (lt-ltb 126 b (omega arith)) refl))
