-- Straight runs of the abstract machine: code that stands at a place, paths, one lemma a kind of instruction, the constant. Definitions and lemmas; they rest on Abstract.
use Rattle.std.specs.Prelude.{◌≡◌, Bool, List, [], ◌∷◌, ◌++◌, ℕ, zero, suc, ◌+◌, ◌*◌, ◌-◌, ◌%◌, ◌/◌, ◌^◌, ◌≤◌, ◌<◌, get_or, set, length}
use Rattle.std.proofs.Math.Path.{refl}
use Rattle.std.proofs.Math.Bool.{true, false}
use Rattle.std.proofs.Math.Option.{Option, none, some}
use native.Mathlib.Omega.{arith}
use Rattle.std.proofs.Common.{zero-add, suc-add, get_or-set_same}
use Rattle.std.proofs.Math.Decide.{dec_lt}
use Rattle.std.proofs.Math.Seq.{set-set}
use Rattle.std.specs.Int.Count.{count_trailing_zeros, count_leading_zeros}
use borrow.Author.Tests.{lt-ltb, le-leb, eq-eqb, ne_eqb}
use Rattle.arm_word.specs.Word.{add, sub, shift_left}
use Rattle.arm_word.specs.Access.{Access, loaded, stored}
use Rattle.arm_encoding.specs.Encoding.{encode_of}
use Rattle.arm_encoding.specs.declared.Instr.{Instr}
use Rattle.arm_encoding.specs.declared.Instr.TheVariants.{Shli, Addi, Strspi, Ldrspi, Str, Ldr, Incsp, Decsp, Beq, Bne}
use Rattle.arm_state.specs.State.{base}
use Rattle.arm_state.specs.Effects.{execute_of}
use Rattle.arm_state.specs.declared.Machine.{Machine}
use Rattle.arm_machine.specs.Step.{once_of}
use Rattle.translate_rules.specs.Constant.{byte_constant, span_constant, long_constant, load_constant}
use Rattle.translate_rules.specs.CodeLaws.{constant_byte, constant_span, constant_long}
use Rattle.translate_rules.specs.Bits.{trailing_exact, trailing_lt}
use Rattle.theorem_simulation.specs.Abstract.{get, Control, tests, Abstract, machine, pc_of, sp_of, memory_of, trace_of, word_at, old_word, note, target, performs, width}

infixr 30 ◌▸◌
-- at pc a step of the machine executes i
pub record Holds (code : List ℕ) (pc : ℕ) (i : Instr) : Type 0 where
  pub encodable : (encode_of i).status ≡ 0
  pub inside : pc + width i ≤ length code
  pub runs : (w : List ℕ) (m : Machine) → m.pc ≡ pc → once_of code w m ≡ execute_of code w m i

-- the instructions stand at pc, one after another
pub data At (code : List ℕ) : ℕ → List Instr → Type 0 where
  nil : {pc : ℕ} → At code pc []
  ◌▸◌ : {pc : ℕ} {i : Instr} {is : List Instr} → Holds code pc i → At code (pc + width i) is → At code pc (i ∷ is)

-- the place after them
abbrev pub advance : List Instr → ℕ → ℕ
advance [] pc = pc
advance (i ∷ is) pc = advance is (pc + width i)

pub head_at : {code : List ℕ} {pc : ℕ} {i : Instr} {is : List Instr} → At code pc (i ∷ is) → Holds code pc i
head_at (f ▸ a) = f

pub tail_at : {code : List ℕ} {pc : ℕ} {i : Instr} {is : List Instr} → At code pc (i ∷ is) → At code (pc + width i) is
tail_at (f ▸ a) = a

pub first_at : {code : List ℕ} {pc : ℕ} (xs ys : List Instr) → At code pc (xs ++ ys) → At code pc xs
first_at [] ys a = nil
first_at {code = code} {pc = pc} (x ∷ xs) ys (f ▸ a) = f ▸ first_at {code = code} {pc = pc + width x} xs ys a

pub rest_at : {code : List ℕ} {pc : ℕ} (xs ys : List Instr) → At code pc (xs ++ ys) → At code (advance xs pc) ys
rest_at [] ys a = a
rest_at {code = code} {pc = pc} (x ∷ xs) ys (f ▸ a) = rest_at {code = code} {pc = pc + width x} xs ys a

pub advance_append : (xs ys : List Instr) (pc : ℕ) → advance (xs ++ ys) pc ≡ advance ys (advance xs pc)
advance_append [] ys pc = refl
advance_append (x ∷ xs) ys pc = advance_append xs ys (pc + width x)

-- ── paths ──

-- an instruction that stands at pc takes the first state to the second
pub record Goes (array : ℕ → Bool) (code : List ℕ) (m m₁ : Abstract) : Type 0 where
  pub instruction : Instr
  pub holds : Holds code (pc_of m) instruction
  pub does : performs array instruction m ≡ some m₁

-- a run: each instruction is done, and what Q says of sp, memory and trace holds before each
pub data Path (array : ℕ → Bool) (code : List ℕ) (Q : ℕ → List (Option ℕ) → List Access → Type 0) (z : Abstract) : ℕ → Abstract → Type 0 where
  here : Path array code Q z zero z
  more : {n : ℕ} {m m₁ : Abstract} → Q (sp_of m) (memory_of m) (trace_of m) → Goes array code m m₁ → Path array code Q z n m₁ → Path array code Q z (suc n) m

pub join : {array : ℕ → Bool} {code : List ℕ} {Q : ℕ → List (Option ℕ) → List Access → Type 0} {y z : Abstract} {n k : ℕ} {m : Abstract}
    → Path array code Q z n m → Path array code Q y k z → Path array code Q y (n + k) m
join {k = k} here p = rw zero-add p
join (more q w p) p' = rw suc-add (more q w (join p p'))

-- one lemma for all instructions: the rest is to compute `performs`
pub go : {array : ℕ → Bool} {code : List ℕ} {i : Instr} {m m₁ : Abstract} → Holds code (pc_of m) i → performs array i m ≡ some m₁ → Goes array code m m₁
go f e = record { instruction = _; holds = f; does = e }

-- ── addresses ──

-- the address of a data word
unfoldable pub address : ℕ → ℕ
address k = base + 4 * k

pub address_word : {n k a : ℕ} → k < n → a ≡ address k → word_at n a ≡ some k
unfolding word_at address
address_word {n} {k} {a} h e =
    let p : a % 4 ≡ 0 = omega arith in
    let q : (a - base) / 4 ≡ k = omega arith in
    rw (eq-eqb (a % 4) 0 p, le-leb base a (omega arith), lt-ltb ((a - base) / 4) n (omega arith), q)

-- ── one lemma a kind of instruction ──

module _ {array : ℕ → Bool} {code : List ℕ} {pc : ℕ} {r : List ℕ} {ct : Control} {mem : List (Option ℕ)} {l : List Access} {n : ℕ} where
  pub load_stack : {d : ℕ} (k : ℕ) → Holds code pc (Ldrspi d n) → (j v : ℕ) → k + n ≡ j → j < length mem → length mem ≤ 16384 → array j ≡ false → get_or mem j none ≡ some v
      → Goes array code (machine pc r (address k) ct mem l) (machine (pc + 2) (set r d v) (address k) ct mem l)
  unfolding address
  load_stack {d} k f j v e h b q s =
      let a : word_at (length mem) (add (address k) (4 * n)) ≡ some j = address_word h (omega arith) in
      go f (rw (a, s, q))

  pub store_stack : {d : ℕ} (k : ℕ) → Holds code pc (Strspi d n) → (j : ℕ) → k + n ≡ j → j < length mem → length mem ≤ 16384 → array j ≡ false
      → Goes array code (machine pc r (address k) ct mem l) (machine (pc + 2) r (address k) ct (set mem j (some (get r d))) l)
  unfolding address
  store_stack {d} k f j e h b q =
      let a : word_at (length mem) (add (address k) (4 * n)) ≡ some j = address_word h (omega arith) in
      go f (rw (a, q))

  pub raise_stack : (k : ℕ) → Holds code pc (Incsp n) → (j : ℕ) → k + n ≡ j → j ≤ 16384
      → Goes array code (machine pc r (address k) ct mem l) (machine (pc + 2) r (address j) ct mem l)
  unfolding address
  raise_stack k f j e b =
      let a : add (address k) (4 * n) ≡ address j = omega arith in
      go f (rw a)

  pub lower_stack : (k : ℕ) → Holds code pc (Decsp n) → (j : ℕ) → j + n ≡ k → k ≤ 16384
      → Goes array code (machine pc r (address k) ct mem l) (machine (pc + 2) r (address j) ct mem l)
  unfolding address
  lower_stack k f j e b =
      let a : sub (address k) (4 * n) ≡ address j = omega arith in
      go f (rw a)

module _ {array : ℕ → Bool} {code : List ℕ} {pc : ℕ} {r : List ℕ} {sp : ℕ} {ct : Control} {mem : List (Option ℕ)} {l : List Access} {d b i : ℕ} where
  pub load_data : Holds code pc (Ldr i b d) → (j v : ℕ) (t : Bool) → get r b ≡ base → get r i ≡ 4 * j → j < length mem → length mem ≤ 16384 → array j ≡ t → get_or mem j none ≡ some v
      → Goes array code (machine pc r sp ct mem l) (machine (pc + 2) (set r d v) sp ct mem (note t l (loaded j v)))
  unfolding address
  load_data f j v t e e' h bd q s =
      let a : word_at (length mem) (add (get r b) (get r i)) ≡ some j = address_word h (omega arith) in
      go f (rw (a, s, q))

  pub store_data : Holds code pc (Str i b d) → (j v : ℕ) (t : Bool) → get r b ≡ base → get r i ≡ 4 * j → j < length mem → length mem ≤ 16384 → array j ≡ t → get_or mem j none ≡ some v
      → Goes array code (machine pc r sp ct mem l) (machine (pc + 2) r sp ct (set mem j (some (get r d))) (note t l (stored j v (get r d))))
  unfolding address
  store_data f j v t e e' h bd q s =
      let a : word_at (length mem) (add (get r b) (get r i)) ≡ some j = address_word h (omega arith) in
      go f (rw (a, s, q) (old t))
    where
      old : (t : Bool) → old_word t (some v) (λ u. some (machine (pc + 2) r sp ct (set mem j (some (get r d))) (note t l (stored j u (get r d)))))
          ≡ some (machine (pc + 2) r sp ct (set mem j (some (get r d))) (note t l (stored j v (get r d))))
      old true = refl
      old false = refl

-- branches: `fits` is the code's length
module _ {array : ℕ → Bool} {code : List ℕ} {pc : ℕ} {r : List ℕ} {sp : ℕ} {ct : Control} {mem : List (Option ℕ)} {l : List Access} {n : ℕ} (fits : length code ≤ 65536) where
  pub equal_taken : Holds code pc (Beq n) → (j : ℕ) → n < 128 → ct.tested ≡ 0 → pc + 4 + 2 * n ≡ j → Goes array code (machine pc r sp ct mem l) (machine j r sp ct mem l)
  equal_taken f j b e h =
      let x : target pc n ≡ j = omega (arith, f.inside) in
      go f (rw (eq-eqb ct.tested 0 e, x))

  pub equal_passed : Holds code pc (Beq n) → 0 < ct.tested → Goes array code (machine pc r sp ct mem l) (machine (pc + 2) r sp ct mem l)
  equal_passed f h = go f (rw (ne_eqb ct.tested 0 (omega arith)))

  pub unequal_taken : Holds code pc (Bne n) → (j : ℕ) → n < 128 → 0 < ct.tested → pc + 4 + 2 * n ≡ j → Goes array code (machine pc r sp ct mem l) (machine j r sp ct mem l)
  unequal_taken f j b e h =
      let x : target pc n ≡ j = omega (arith, f.inside) in
      go f (rw (ne_eqb ct.tested 0 (omega arith), x))

  pub unequal_passed : Holds code pc (Bne n) → ct.tested ≡ 0 → Goes array code (machine pc r sp ct mem l) (machine (pc + 2) r sp ct mem l)
  unequal_passed f e = go f (rw (eq-eqb ct.tested 0 e))

-- ── the constant ──

-- as many instructions more
abbrev pub and_then : List Instr → ℕ → ℕ
and_then [] n = n
and_then (i ∷ is) n = suc (and_then is n)

module _ {array : ℕ → Bool} {code : List ℕ} {sp : ℕ} {mem : List (Option ℕ)} {l : List Access} (d : ℕ) (r : List ℕ) (b : d < length r) where
  shift_byte : {pc : ℕ} {ct : Control} (x : ℕ) → Holds code pc (Shli 8 d d) → x < 16777216
      → Goes array code (machine pc (set r d x) sp ct mem l) (machine (pc + 2) (set r d (x * 256)) sp (tests (x * 256) ct) mem l)
  unfolding shift_left
  shift_byte x f h =
      let e : x * 256 % 4294967296 ≡ x * 256 = omega arith in
      go f (rw (get_or-set_same r d x 0, set-set r d x, e))

  add_byte : {pc u : ℕ} {ct : Control} (x : ℕ) → Holds code pc (Addi d u) → (y : ℕ) → x + u ≡ y → y < 4294967296
      → Goes array code (machine pc (set r d x) sp ct mem l) (machine (pc + 2) (set r d y) sp (tests y ct) mem l)
  add_byte {u = u} x f y h b' =
      let e : (x + u) % 4294967296 ≡ y = omega arith in
      go f (rw (get_or-set_same r d x 0, set-set r d x, e))

  shift_span : {pc : ℕ} {ct : Control} (w : ℕ) → Holds code pc (Shli (count_trailing_zeros 32 w) d d) → 0 < w → w < 4294967296
      → Goes array code (machine pc (set r d (w / 2 ^ count_trailing_zeros 32 w)) sp ct mem l) (machine (pc + 2) (set r d w) sp (tests w ct) mem l)
  unfolding shift_left
  shift_span w f p h =
      let t = count_trailing_zeros 32 w in
      let e : w % 4294967296 ≡ w = omega arith in
      go f (rw (get_or-set_same r d (w / 2 ^ t) 0, set-set r d (w / 2 ^ t), lt-ltb t 32 (trailing_lt 32 w p h), trailing_exact 32 w, e))

-- a run of these instructions leaves w in register d
abbrev pub Loads : (ℕ → Bool) → List ℕ → (ℕ → List (Option ℕ) → List Access → Type 0) → Abstract → ℕ → List ℕ → ℕ → List (Option ℕ) → List Access → ℕ → ℕ → ℕ → List Instr → Type 0
Loads array code Q z n r sp mem l d w pc is =
    (ct : Control) → At code pc is → Path array code Q z n (machine (advance is pc) (set r d w) sp (tests w ct) mem l) → Path array code Q z (and_then is n) (machine pc r sp ct mem l)

module _ (array : ℕ → Bool) (code : List ℕ) (Q : ℕ → List (Option ℕ) → List Access → Type 0) (z : Abstract) (n : ℕ) (r : List ℕ) (sp : ℕ) (mem : List (Option ℕ)) (l : List Access)
    (q : Q sp mem l) (d : ℕ) (b : d < length r) (w pc : ℕ) (h : w < 4294967296) where
  load_byte : Loads array code Q z n r sp mem l d w pc (byte_constant d w)
  load_byte ct (f ▸ nil) p = more q (go f refl) p

  load_span : 0 < w → Loads array code Q z n r sp mem l d w pc (span_constant d w)
  load_span k ct (f₁ ▸ f₂ ▸ nil) p = more q (go f₁ refl) (more q (shift_span d r b w f₂ k h) p)

  load_long : Loads array code Q z n r sp mem l d w pc (long_constant d w)
  load_long ct (f₁ ▸ f₂ ▸ f₃ ▸ f₄ ▸ f₅ ▸ f₆ ▸ f₇ ▸ nil) p =
      more q (go f₁ refl)
      (more q (shift_byte d r b (w / 16777216) f₂ (omega arith))
      (more q (add_byte d r b (w / 16777216 * 256) f₃ (w / 65536) (omega arith) (omega arith))
      (more q (shift_byte d r b (w / 65536) f₄ (omega arith))
      (more q (add_byte d r b (w / 65536 * 256) f₅ (w / 256) (omega arith) (omega arith))
      (more q (shift_byte d r b (w / 256) f₆ (omega arith))
      (more q (add_byte d r b (w / 256 * 256) f₇ w (omega arith) h) p))))))

  load_any : Loads array code Q z n r sp mem l d w pc (load_constant d w)
  load_any ct at p = by (dec_lt w 256) (dec_lt (count_leading_zeros 32 w + count_trailing_zeros 32 w) 24)
    where
      by : Dec (w < 256) → Dec (count_leading_zeros 32 w + count_trailing_zeros 32 w < 24) → Path array code Q z (and_then (load_constant d w) n) (machine pc r sp ct mem l)
      by (yes k) s = let e = constant_byte d w k in rw e (load_byte ct (rw e at at) (rw e at p))
      by (no k) (no s) = let e = constant_span d w (omega arith) (omega arith) in rw e (load_span (omega arith) ct (rw e at at) (rw e at p))
      by (no k) (yes s) = let e = constant_long d w (omega arith) s in rw e (load_long ct (rw e at at) (rw e at p))

loads_constant : {array : ℕ → Bool} {code : List ℕ} {Q : ℕ → List (Option ℕ) → List Access → Type 0} {z : Abstract} {n pc : ℕ} {r : List ℕ} {sp : ℕ} {ct : Control} {mem : List (Option ℕ)}
    {l : List Access} (d w : ℕ) → d < length r
    → At code pc (load_constant d w) → w < 4294967296 → Q sp mem l → Path array code Q z n (machine (advance (load_constant d w) pc) (set r d w) sp (tests w ct) mem l)
    → Path array code Q z (and_then (load_constant d w) n) (machine pc r sp ct mem l)
loads_constant {array} {code} {Q} {z} {n} {pc} {r} {sp} {ct} {mem} {l} d w b at h q p = load_any array code Q z n r sp mem l q d b w pc h ct at p

-- the constant in r0, r1, r2: the registers stand as a list whose places compute
pub constant_0 : {array : ℕ → Bool} {code : List ℕ} {Q : ℕ → List (Option ℕ) → List Access → Type 0} {z : Abstract} {n pc x : ℕ} {r : List ℕ} {sp : ℕ} {ct : Control} {mem : List (Option ℕ)}
    {l : List Access} (w : ℕ)
    → At code pc (load_constant 0 w) → w < 4294967296 → Q sp mem l → Path array code Q z n (machine (advance (load_constant 0 w) pc) (w ∷ r) sp (tests w ct) mem l)
    → Path array code Q z (and_then (load_constant 0 w) n) (machine pc (x ∷ r) sp ct mem l)
constant_0 w at h q p = loads_constant 0 w (omega arith) at h q p

pub constant_1 : {array : ℕ → Bool} {code : List ℕ} {Q : ℕ → List (Option ℕ) → List Access → Type 0} {z : Abstract} {n pc x y : ℕ} {r : List ℕ} {sp : ℕ} {ct : Control} {mem : List (Option ℕ)}
    {l : List Access} (w : ℕ)
    → At code pc (load_constant 1 w) → w < 4294967296 → Q sp mem l → Path array code Q z n (machine (advance (load_constant 1 w) pc) (x ∷ w ∷ r) sp (tests w ct) mem l)
    → Path array code Q z (and_then (load_constant 1 w) n) (machine pc (x ∷ y ∷ r) sp ct mem l)
constant_1 w at h q p = loads_constant 1 w (omega arith) at h q p

pub constant_2 : {array : ℕ → Bool} {code : List ℕ} {Q : ℕ → List (Option ℕ) → List Access → Type 0} {z : Abstract} {n pc x y v : ℕ} {r : List ℕ} {sp : ℕ} {ct : Control}
    {mem : List (Option ℕ)} {l : List Access} (w : ℕ)
    → At code pc (load_constant 2 w) → w < 4294967296 → Q sp mem l → Path array code Q z n (machine (advance (load_constant 2 w) pc) (x ∷ y ∷ w ∷ r) sp (tests w ct) mem l)
    → Path array code Q z (and_then (load_constant 2 w) n) (machine pc (x ∷ y ∷ v ∷ r) sp ct mem l)
constant_2 w at h q p = loads_constant 2 w (omega arith) at h q p
