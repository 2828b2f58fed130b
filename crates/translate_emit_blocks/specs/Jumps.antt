-- A jump over a part, written into the gap that was left for it once the part's end is known; so an if and a while are written. Definitions and laws; assume nothing.
use Rattle.std.specs.Prelude.{◌≡◌, refl, ℕ, ◌+◌, ◌-◌, ◌≤◌, ◌<◌, length}
use mathlib.Core.List.{List, [], ◌∷◌, ◌++◌, append-nil}
use Rattle.std.proofs.Common.{arith}
use Rattle.arm_encoding.specs.declared.Instr.{Instr}
use Rattle.translate_rules.specs.InstructionBytes.{size}
use Rattle.translate_rules.specs.Blocks.{take_condition, jump_over, jump_back}
use Rattle.translate_rules.specs.ImageCode.{choice_code, repeat_code}
use Rattle.translate_rules.specs.CodeLaws.{size_append}
use Rattle.translate_rules.specs.Sizes.{condition_size, jump_size}
use Rattle.translate_emit_instructions.specs.Write.{Room, Wrote, rest, then, kept, none, fill_gap}

-- a jump's four bytes at i stand in the buffer l and in the machine's code, and it reaches the place `to`
pub record Ahead (l : List ℕ) (i to : ℕ) : Type 0 where
  pub apart : i + 4 ≤ to
  pub inside : i + 4 ≤ length l
  pub near : i + 4 ≤ 65536
  pub reach : to < 4194304

-- a jump over the part P and n bytes of the rest
module _ {l : List ℕ} {i d : ℕ} (n : ℕ) (P R : List Instr) (over : d ≡ size P + n) (few : n ≤ 4) (h : Room l i (jump_over d ∷ (P ++ R))) where
  whole : size (jump_over d ∷ (P ++ R)) ≡ size (jump_over d ∷ []) + (size P + size R)
  whole = omega (arith, size_append (jump_over d ∷ []) (P ++ R), size_append P R)

  gap : size (jump_over d ∷ []) ≡ 4
  gap = jump_size d (omega (arith, h.near, whole))

  pub part_room : Room l (i + 4) P
  part_room = record { fits = omega (arith, h.fits, whole, gap); near = omega (arith, h.near, whole, gap) }

  module _ {l₁ : List ℕ} {k to : ℕ} (w : Wrote l (i + 4) P l₁ k) (there : to ≡ k + n) where
    pub part_ahead : Ahead l₁ i to
    part_ahead = record {
      apart = omega (arith, w.end_at);
      inside = omega (arith, h.fits, whole, gap, kept w);
      near = omega (arith, h.near, whole, gap);
      reach = omega (arith, w.end_at, h.near, whole, gap);
    }

    pub part_wrote : {l₂ : List ℕ} {m : ℕ} → Wrote l₁ i (jump_over (to - (i + 4)) ∷ []) l₂ m → Wrote l i (jump_over d ∷ P) l₂ k
    part_wrote j =
        let e : to - (i + 4) ≡ d = omega (arith, w.end_at) in
        fill_gap {i = i} {xs = []} none gap w (rw e at j)

-- ── an if: its condition's code E, then the code P of one part and Q of the other ──
module _ {l l₁ l₂ : List ℕ} {i a₁ a₂ : ℕ} (E P Q : List Instr) (h : Room l i (E ++ choice_code P Q)) (wE : Wrote l i E l₁ a₁) (wT : Wrote l₁ a₁ take_condition l₂ a₂) where
  then_gap : Room l₂ a₂ (jump_over (size P + 4) ∷ (P ++ jump_over (size Q) ∷ Q))
  unfolding choice_code
  then_gap = rest wT (rest wE h)

  pub then_room : Room l₂ (a₂ + 4) P
  then_room = part_room 4 P _ refl (omega arith) then_gap

  module _ {l₃ : List ℕ} {a₃ : ℕ} (wP : Wrote l₂ (a₂ + 4) P l₃ a₃) where
    pub then_ahead : Ahead l₃ a₂ (a₃ + 4)
    then_ahead = part_ahead 4 P _ refl (omega arith) then_gap wP refl

    module _ {l₄ : List ℕ} {m : ℕ} (wJ : Wrote l₃ a₂ (jump_over (a₃ + 4 - (a₂ + 4)) ∷ []) l₄ m) where
      then_wrote : Wrote l₂ a₂ (jump_over (size P + 4) ∷ P) l₄ a₃
      then_wrote = part_wrote 4 P _ refl (omega arith) then_gap wP refl wJ

      else_gap : Room l₄ a₃ (jump_over (size Q) ∷ (Q ++ []))
      else_gap = rw (append-nil Q) (rest then_wrote then_gap)

      pub else_room : Room l₄ (a₃ + 4) Q
      else_room = part_room 0 Q [] (omega arith) (omega arith) else_gap

      module _ {l₅ : List ℕ} {a₄ : ℕ} (wQ : Wrote l₄ (a₃ + 4) Q l₅ a₄) where
        pub else_ahead : Ahead l₅ a₃ a₄
        else_ahead = part_ahead 0 Q [] (omega arith) (omega arith) else_gap wQ (omega arith)

        pub choice_wrote : {l₆ : List ℕ} {n : ℕ} → Wrote l₅ a₃ (jump_over (a₄ - (a₃ + 4)) ∷ []) l₆ n → Wrote l i (E ++ choice_code P Q) l₆ a₄
        unfolding choice_code
        choice_wrote j = then wE (then wT (then then_wrote (part_wrote 0 Q [] (omega arith) (omega arith) else_gap wQ (omega arith) j)))

-- ── a while: its condition's code E, then the body's code P ──
module _ {l l₁ l₂ : List ℕ} {i a₁ a₂ : ℕ} (E P : List Instr) (h : Room l i (E ++ repeat_code E P)) (wE : Wrote l i E l₁ a₁) (wT : Wrote l₁ a₁ take_condition l₂ a₂) where
  body_gap : Room l₂ a₂ (jump_over (size P + 4) ∷ (P ++ jump_back (size E + size P + 16) ∷ []))
  unfolding repeat_code
  body_gap = rest wT (rest wE h)

  pub body_room : Room l₂ (a₂ + 4) P
  body_room = part_room 4 P _ refl (omega arith) body_gap

  module _ {l₃ : List ℕ} {a₃ : ℕ} (wP : Wrote l₂ (a₂ + 4) P l₃ a₃) where
    pub body_ahead : Ahead l₃ a₂ (a₃ + 4)
    body_ahead = part_ahead 4 P _ refl (omega arith) body_gap wP refl

    -- from after the jump back to the condition's start
    distance : size E + size P + 16 ≡ a₃ + 4 - i
    distance = omega (arith, wE.end_at, wT.end_at, wP.end_at, condition_size)

    module _ {l₄ : List ℕ} {m : ℕ} (wJ : Wrote l₃ a₂ (jump_over (a₃ + 4 - (a₂ + 4)) ∷ []) l₄ m) where
      body_wrote : Wrote l₂ a₂ (jump_over (size P + 4) ∷ P) l₄ a₃
      body_wrote = part_wrote 4 P _ refl (omega arith) body_gap wP refl wJ

      pub back_room : (i ≤ a₃) × Room l₄ a₃ (jump_back (a₃ + 4 - i) ∷ [])
      back_room = (omega (arith, wE.end_at, wT.end_at, wP.end_at), rw distance at (rest body_wrote body_gap))

      pub repeat_wrote : {l₅ : List ℕ} {n : ℕ} → Wrote l₄ a₃ (jump_back (a₃ + 4 - i) ∷ []) l₅ n → Wrote l i (E ++ repeat_code E P) l₅ n
      unfolding repeat_code
      repeat_wrote j = then wE (then wT (then body_wrote (rw (← distance) at j)))
