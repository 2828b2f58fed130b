-- Instructions written to a buffer one after another: what a writing function asks and what it promises. Definitions and laws; assume nothing.
-- A sequence of writes is proved by `first` and `rest` (there is room for each), and by `then` (together they wrote the whole).
use Rattle.std.specs.Prelude.{◌≡◌, refl, List, [], ◌∷◌, ◌++◌, ℕ, suc, ◌+◌, ◌≤◌, ◌<◌, length, set}
use Rattle.std.proofs.Common.{sym, ◌∙◌, arith}
use Rattle.std.proofs.Math.Path.{ap}
use Rattle.std.proofs.lemmas.List.Edits.{sets}
use Rattle.std.proofs.Math.Seq.{length-sets}
use Rattle.std.proofs.lemmas.List.{set_comm}
use Rattle.arm_encoding.specs.declared.Instr.{Instr}
use Rattle.translate_emit_instructions.specs.declared.Writer.{Writer}
use Rattle.translate_rules.specs.InstructionBytes.{bytes, size}
use Rattle.translate_rules.specs.CodeLaws.{bytes_append, size_append}

-- room for the instructions in the buffer l from i on, and in the machine's code: "Code is bytes at addresses 0 up, at most 65,536"
pub record Room (l : List ℕ) (i : ℕ) (xs : List Instr) : Type 0 where
  pub fits : i + size xs ≤ length l
  pub near : i + size xs ≤ 65536

-- the buffer l' is l with the instructions' bytes from i up to j
pub record Wrote (l : List ℕ) (i : ℕ) (xs : List Instr) (l' : List ℕ) (j : ℕ) : Type 0 where
  pub bytes_at : l' ≡ sets l i (bytes xs)
  pub end_at : j ≡ i + size xs

module _ {l : List ℕ} {i : ℕ} {xs : List Instr} (ys : List Instr) where
  pub first : Room l i (xs ++ ys) → Room l i xs
  first h = record { fits = omega (arith, h.fits, size_append xs ys); near = omega (arith, h.near, size_append xs ys) }

sets_append : (xs l : List ℕ) (i : ℕ) (ys : List ℕ) → sets (sets l i xs) (i + length xs) ys ≡ sets l i (xs ++ ys)
sets_append [] l i ys = ap (λ (n : ℕ). sets l n ys) (omega arith)
sets_append (x ∷ xs) l i ys = ap (λ (n : ℕ). sets (sets l i (x ∷ xs)) n ys) (omega arith) ∙ sets_append xs _ (suc i) ys

module _ {l l₁ : List ℕ} {i j : ℕ} {xs : List Instr} where
  pub kept : Wrote l i xs l₁ j → length l₁ ≡ length l
  kept w = ap length w.bytes_at ∙ length-sets l i (bytes xs)

  pub rest : {ys : List Instr} → Wrote l i xs l₁ j → Room l i (xs ++ ys) → Room l₁ j ys
  rest {ys} w h = record { fits = omega (arith, h.fits, size_append xs ys, kept w, w.end_at); near = omega (arith, h.near, size_append xs ys, w.end_at) }

  pub then : {ys : List Instr} {l₂ : List ℕ} {k : ℕ} → Wrote l i xs l₁ j → Wrote l₁ j ys l₂ k → Wrote l i (xs ++ ys) l₂ k
  unfolding size
  then {ys} w v = record {
    bytes_at = v.bytes_at ∙ rw (w.bytes_at, w.end_at) (sets_append (bytes xs) l i (bytes ys) ∙ ap (sets l i) (sym (bytes_append xs ys)));
    end_at = omega (arith, w.end_at, v.end_at, size_append xs ys);
  }

-- no instruction
pub none : {l : List ℕ} {i : ℕ} → Wrote l i [] l i
unfolding size bytes
none = record { bytes_at = refl; end_at = omega arith }

set_sets : (ys l : List ℕ) (i a j : ℕ) → i < j → set (sets l j ys) i a ≡ sets (set l i a) j ys
set_sets [] l i a j h = refl
set_sets (y ∷ ys) l i a j h = set_sets ys (set l j y) i a (suc j) (omega arith) ∙ ap (λ (m : List ℕ). sets m (suc j) ys) (set_comm l j i y a (λ (e : j ≡ i). omega arith))

sets_comm : (xs l : List ℕ) (a b : ℕ) (ys : List ℕ) → a + length xs ≤ b → sets (sets l b ys) a xs ≡ sets (sets l a xs) b ys
sets_comm [] l a b ys h = refl
sets_comm (x ∷ xs) l a b ys h = ap (λ (m : List ℕ). sets m (suc a) xs) (set_sets ys l a x b (omega arith)) ∙ sets_comm xs (set l a x) (suc a) b ys (omega arith)

-- a gap of n bytes left for an instruction g, filled after what follows it was written
module _ {l l₁ l₂ l₃ : List ℕ} {i j k m n : ℕ} {xs ys : List Instr} {g : Instr} where
  pub fill_gap : Wrote l i xs l₁ j → size (g ∷ []) ≡ n → Wrote l₁ (j + n) ys l₂ k → Wrote l₂ j (g ∷ []) l₃ m → Wrote l i (xs ++ g ∷ ys) l₃ k
  unfolding size
  fill_gap w s v u =
      then w (then {xs = g ∷ []} (record { bytes_at = refl; end_at = omega (arith, s) })
      (record {
        bytes_at = u.bytes_at ∙ rw v.bytes_at (sets_comm (bytes (g ∷ [])) l₁ j (j + n) (bytes ys) (omega (arith, s)));
        end_at = v.end_at;
      }))

-- ── a writer: its buffer, which stays the one that it was lent, and its place ──

-- room where the writer stands
abbrev pub Fits : Writer → List Instr → Type 0
Fits w xs = Room w.code.now w.at xs

-- the writer has written the instructions
pub record Writes (w : Writer) (xs : List Instr) (w' : Writer) : Type 0 where
  pub same : w'.code.ghost_name ≡ w.code.ghost_name
  pub wrote : Wrote w.code.now w.at xs w'.code.now w'.at

pub nothing : {w : Writer} → Writes w [] w
nothing = record { same = refl; wrote = none }

module _ {w w₁ : Writer} {xs : List Instr} (x : Writes w xs w₁) where
  pub left : {ys : List Instr} → Fits w (xs ++ ys) → Fits w₁ ys
  left h = rest x.wrote h

  pub and : {ys : List Instr} {w₂ : Writer} → Writes w₁ ys w₂ → Writes w (xs ++ ys) w₂
  and y = record { same = y.same ∙ x.same; wrote = then x.wrote y.wrote }
