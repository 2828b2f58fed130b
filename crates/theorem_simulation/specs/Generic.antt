-- From "each move is a block of steps" to "after every number of steps" and "for every number of moves". It knows neither language nor machine. Assumes nothing.
-- No step needs a move of its own, and a move may take no step as long as a size falls; so either side may run on without the other being stuck.
use Rattle.std.specs.Prelude.{◌≡◌, refl, ◌⊎◌, ℕ, zero, suc, ◌+◌, ◌≤◌, ◌<◌}
use Rattle.std.proofs.Common.{ap, ◌∙◌, inl, inr, arith}
use Rattle.std.proofs.Math.Decide.{dec_lt}

-- n times, the first of them first
abbrev pub times : {A : Type 0} → (A → A) → ℕ → A → A
times f zero x = x
times f (suc n) x = times f n (f x)

pub times_stays : {A : Type 0} (f : A → A) (n : ℕ) (x : A) → f x ≡ x → times f n x ≡ x
times_stays f zero x e = refl
times_stays f (suc n) x e = ap (times f n) e ∙ times_stays f n x e

-- what stays is the last
pub times_still : {A : Type 0} (f : A → A) (l n : ℕ) (x : A) → n ≤ l → f (times f n x) ≡ times f n x → times f l x ≡ times f n x
times_still f l zero x h e = times_stays f l x e
times_still f zero (suc n) x h e = absurd (omega arith)
times_still f (suc l) (suc n) x h e = times_still f l n (f x) (omega arith) e

-- n steps to z, with Q before each
pub data Run {M : Type 0} (step : M → M) (Q : M → Type 0) (z : M) : ℕ → M → Type 0 where
  here : Run step Q z zero z
  more : {n : ℕ} {m : M} → Q m → Run step Q z n (step m) → Run step Q z (suc n) m

module _ {S M : Type 0} (move : S → S) (step : M → M) (size : S → ℕ) (Related Seen : S → M → Type 0) where
  -- a move, as steps
  pub record Steps (s : S) (m : M) : Type 0 where
    pub n : ℕ
    pub z : M
    pub run : Run step (Seen s) z n m
    pub related : Related (move s) z
    pub falls : n ≡ 0 → size (move s) < size s

  -- neither side changes any more
  pub record Rests (s : S) (m : M) : Type 0 where
    pub moves_no_more : move s ≡ s
    pub steps_no_more : step m ≡ m
    pub seen : Seen s m

  -- i steps after the start of a run of n to z: inside, or past its end
  data Spot (s : S) (z : M) (n i : ℕ) (x : M) : Type 0 where
    inside : Seen s x → Spot s z n i x
    past : (j : ℕ) → i ≡ n + j → x ≡ times step j z → Spot s z n i x

  up : {s : S} {z x : M} {n i : ℕ} → Spot s z n i x → Spot s z (suc n) (suc i) x
  up (inside q) = inside q
  up (past j e h) = past j (omega arith) h

  walk : {s : S} {z : M} {n : ℕ} {m : M} → Run step (Seen s) z n m → (i : ℕ) → Spot s z n i (times step i m)
  walk here i = past i (omega arith) refl
  walk (more q r) zero = inside q
  walk (more q r) (suc i) = up (walk r i)

  run_end : {s : S} {z : M} {n : ℕ} {m : M} → Run step (Seen s) z n m → (j : ℕ) → times step (n + j) m ≡ times step j z
  run_end {z = z} here j = let e : 0 + j ≡ j = omega arith in ap (λ (n : ℕ). times step n z) e
  run_end (more {n = n} {m = m} q r) j = let e : suc n + j ≡ suc (n + j) = omega arith in ap (λ (n : ℕ). times step n m) e ∙ run_end r j

  module _ (back : (s : S) (m : M) → Seen (move s) m → Seen s m) (simulates : (s : S) (m : M) → Related s m → Steps s m ⊎ Rests s m) where
    abbrev Sees : ℕ → Type 0
    Sees i = (s : S) (m : M) → Related s m → Seen s (times step i m)

    -- one block, then what follows it
    through : (f i : ℕ) (s : S) (m : M) → ((j : ℕ) → j < f → Sees j) → i < suc f
        → ((z : M) → size (move s) < size s → Related (move s) z → Seen (move s) (times step i z))
        → Steps s m ⊎ Rests s m → Seen s (times step i m)
    through f i s m ih h same (inr e) = rw (times_stays step i m e.steps_no_more) e.seen
    through f i s m ih h same (inl b) = go (walk b.run i)
      where
        on : (j : ℕ) → i ≡ b.n + j → Dec (0 < b.n) → Seen (move s) (times step j b.z)
        on j e (yes p) = ih j (omega arith) (move s) b.z b.related
        on j e (no p) = let x : i ≡ j = omega arith in rw (← x) (same b.z (b.falls (omega arith)) b.related)

        go : Spot s b.z b.n i (times step i m) → Seen s (times step i m)
        go (inside q) = q
        go (past j e x) = rw x (back s _ (on j e (dec_lt 0 b.n)))

    by_size : (f : ℕ) → ((j : ℕ) → j < f → Sees j) → (b i : ℕ) → i < suc f → (s : S) (m : M) → size s < b → Related s m → Seen s (times step i m)
    by_size f ih zero i h s m hb r = absurd (omega arith)
    by_size f ih (suc b) i h s m hb r = through f i s m ih h (λ z lt r'. by_size f ih b i h (move s) z (omega arith) r') (simulates s m r)

    by_steps : (f i : ℕ) → i < f → Sees i
    by_steps zero i h s m r = absurd (omega arith)
    by_steps (suc f) i h s m r = by_size f (by_steps f) (suc (size s)) i h s m (omega arith) r

    -- after every number of steps
    pub sees : (i : ℕ) → Sees i
    sees i = by_steps (suc i) i (omega arith)

    -- for every number of moves
    pub reaches : (j : ℕ) (s : S) (m : M) → Related s m → (n : ℕ) × Related (times move j s) (times step n m)
    reaches zero s m r = (0, r)
    reaches (suc j) s m r = go (simulates s m r) (reaches j)
      where
        go : Steps s m ⊎ Rests s m → ((s : S) (m : M) → Related s m → (n : ℕ) × Related (times move j s) (times step n m))
            → (n : ℕ) × Related (times move j (move s)) (times step n m)
        go (inl b) ih = let x = ih (move s) b.z b.related in (b.n + x.0, rw (run_end b.run x.0) x.1)
        go (inr e) ih = rw e.moves_no_more (ih s m r)
