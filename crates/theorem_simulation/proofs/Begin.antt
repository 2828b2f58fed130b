-- The start: the image stands at 0, and the fresh machine with any lent words simulates the source's first state. Lemmas; they rest on Concrete, Demand3 and rules' Encodable.
use Rattle.std.specs.Prelude.{◌≡◌, ℕ, zero, suc, ◌+◌, ◌*◌, ◌%◌, ◌<◌, ◌≤◌, get_or, length, replicate}
use Rattle.std.proofs.Math.Path.{refl, sym, ap}
use Rattle.std.proofs.Common.{◌∙◌, length-take-le}
use Rattle.std.proofs.Math.Option.{Option, none, some}
use mathlib.Core.List.{List, [], ◌∷◌, ◌++◌, append_assoc, map}
use native.Mathlib.Omega.{arith}
use Rattle.std.proofs.Math.ListN.{take, length-append}
use Rattle.std.proofs.lemmas.List.{length-replicate, length-map}
use Rattle.std.proofs.Math.Seq.{get_or-take}
use Rattle.arm_word.specs.Word.{add}
use Rattle.arm_encoding.specs.declared.Instr.{Instr}
use Rattle.x_program.specs.Tree.{Program}
use Rattle.x_program.specs.Core.{core_process}
use Rattle.x_meaning.specs.SourceRun.{going, execute, begin}
use Rattle.translate_rules.specs.InstructionBytes.{bytes_of, bytes}
use Rattle.translate_rules.specs.ImageCode.{process_code, image_code, image}
use Rattle.translate_rules.specs.Encodable.{Encodable}
use Rattle.translate_rules.proofs.Encodable.{image_encodable}
use Rattle.arm_state.specs.State.{base, needed, no_flags, fresh_of}
use Rattle.arm_machine.specs.Placed.{once_in}
use Rattle.x_program.specs.Sound.{Sound}
use Rattle.x_program.specs.SoundTree.{sound_resolved}
use Rattle.theorem_simulation.specs.Abstract.{registers, Control, Abstract, machine, width}
use Rattle.theorem_simulation.specs.Straight.{At, nil, ◌▸◌, Holds, head_at, first_at, rest_at, address}
use Rattle.theorem_simulation.specs.Places.{width_bytes, width_even}
use Rattle.theorem_simulation.specs.Relation.{Setting, Limits, there, Related}
use Rattle.theorem_simulation.specs.Following.{Simulated}
use Rattle.theorem_simulation.specs.Concrete.{Point, Matches}
use Rattle.theorem_simulation.specs.Demand3.{Each, D, N, Lent}

-- ── code stands where its bytes were put ──

module _ (code : List ℕ) where
  placed : (before : List ℕ) (is : List Instr) (pc : ℕ) → Encodable is → length before ≡ pc → pc % 2 ≡ 0 → code ≡ before ++ bytes is → At code pc is
  unfolding bytes bytes_of
  placed before [] pc h e even c = nil
  placed before (i ∷ is) pc h e even c =
      let w = width_bytes i h.0 in
      let v = width_even i h.0 in
      let l = length-append before (bytes_of i) in
      let here : Holds code pc i = record {
        encodable = h.0;
        inside = rw c (simp length-append (omega arith));
        runs = λ u m x. rw c (once_in before (bytes is) u m i h.0 (rw e even) (x ∙ sym e));
      } in
      here ▸ placed (before ++ bytes_of i) is (pc + width i) h.1 (omega arith) (omega arith) (c ∙ sym (append_assoc before (bytes_of i) (bytes is)))

-- ── the memory of the abstract machine at first: the declared words are known, the stack's are not ──

abbrev blank : List ℕ → ℕ → List (Option ℕ)
blank d n = map some d ++ replicate n none

blank_length : (d : List ℕ) (n : ℕ) → length (blank d n) ≡ length d + n
blank_length d n = length-append (map some d) (replicate n none) ∙ rw (length-map, length-replicate)

blank_same : (d : List ℕ) (n i : ℕ) → i < length d → get_or (blank d n) i none ≡ some (get_or d i 0)
blank_same [] n i h = absurd (omega arith)
blank_same (x ∷ d) n zero h = refl
blank_same (x ∷ d) n (suc i) h = blank_same d n i (omega arith)

unknown : (n i : ℕ) {v : ℕ} → ◌≡◌ {A = Option ℕ} (get_or (replicate n none) i none) (some v) → ⊥
unknown zero i e = let z : ◌≡◌ {A = ℕ} 0 1 = cc (e) in omega arith
unknown (suc n) zero e = let z : ◌≡◌ {A = ℕ} 0 1 = cc (e) in omega arith
unknown (suc n) (suc i) e = unknown n i e

blank_known : (d : List ℕ) (n i v : ℕ) → get_or (blank d n) i none ≡ some v → (i < length d) × (get_or d i 0 ≡ v)
blank_known [] n i v e = absurd (unknown n i e)
blank_known (x ∷ d) n zero v e = (omega arith, cc (e))
blank_known (x ∷ d) n (suc i) v e = let k = blank_known d n i v e in (omega (arith, k.0), k.1)

each_word : (l : List ℕ) → Each (λ w. w < 4294967296) l → (i : ℕ) → get_or l i 0 < 4294967296
each_word [] h i = omega arith
each_word (x ∷ l) h zero = h.0
each_word (x ∷ l) h (suc i) = each_word l h.1 i

-- ── the first states ──

-- the source's own numbers, the image as code
abbrev pub setting : Program → Setting
setting p = record { declarations = p.declarations; code = image p; stack = 2 * N p + 8 }

-- the fresh machine, the lent words, no access yet
abbrev pub first_point : Program → List ℕ → Point
first_point p memory = record { state = fresh_of (D p) (N p); words = memory; trace = [] }

-- no result yet, and Z is clear
abbrev first_control : Control
first_control = record { tested = 1; link = 0 }

-- the abstract machine at first, by the declared words: all that it knows of memory
abbrev pub abstract_of : Program → List ℕ → Abstract
abstract_of p d = machine 0 (registers 0 0 0 0) (address (D p + (2 * N p + 8))) first_control (blank d (2 * N p + 8)) []

module _ (p : Program) (sound : Sound p) (short : length (image p) ≤ 65536) (memory : List ℕ) (lent : Lent p memory) where
  pub limits : Limits (setting p)
  limits = record { few_data = sound.small; short_code = short; few_words = omega (arith, lent.enough, lent.few) }

  stands_at_0 : At (image p) 0 (image_code (core_process p.body))
  unfolding image
  stands_at_0 = placed (image p) [] (image_code (core_process p.body)) 0 (image_encodable p sound.small (sound_resolved p sound) (short)) refl refl refl

  abbrev first_memory : List (Option ℕ)
  first_memory = blank (take (D p) memory) (2 * N p + 8)

  declared : length (take (D p) memory) ≡ D p
  declared = length-take-le (D p) memory (omega (arith, lent.enough))

  pub first_related : Related (setting p) (begin p memory) (abstract_of p (take (D p) memory))
  unfolding image_code
  first_related = record {
    d = take (D p) memory;
    t = [];
    c = execute p.body ∷ [];
    p = [];
    e = going;
    pc = 0;
    r0 = 0;
    r1 = 0;
    r2 = 0;
    r3 = 0;
    k = D p + (2 * N p + 8);
    control = first_control;
    mem = first_memory;
    source = refl;
    target = refl;
    place = (
      (0, there, first_at (process_code (core_process p.body)) _ stands_at_0, (_, there, head_at (rest_at (process_code (core_process p.body)) _ stands_at_0))),
      (record { resolved = sound_resolved p sound; shallow = omega arith }, tt),
    );
    memory = record {
      all = blank_length (take (D p) memory) (2 * N p + 8) ∙ rw declared;
      declared = declared;
      same = λ i h. blank_same (take (D p) memory) (2 * N p + 8) i (omega (arith, declared));
      stacked = tt;
      top = omega arith;
      low = omega arith;
      words = λ i v e.
          let k = blank_known (take (D p) memory) (2 * N p + 8) i v e in
          rw (← k.1, get_or-take (D p) memory i 0 (omega (arith, k.0, declared))) (each_word memory lent.words i);
    };
  }

  pub first_matches : Matches (setting p) memory (abstract_of p (take (D p) memory)) (first_point p memory)
  unfolding fresh_of address
  first_matches = record {
    flags = no_flags;
    is = ap (λ (sp : ℕ). record { regs = registers 0 0 0 0; sp = sp; lr = 0; pc = 0; flags = no_flags }) sp_is;
    trace = refl;
    agrees = record {
      same = λ i v e.
          let k = blank_known (take (D p) memory) (2 * N p + 8) i v e in
          sym (get_or-take (D p) memory i 0 (omega (arith, k.0, declared))) ∙ k.1;
      enough = omega (arith, blank_length (take (D p) memory) (2 * N p + 8), declared, lent.enough);
      all = refl;
      untouched = λ i h. refl;
    };
    whole = blank_length (take (D p) memory) (2 * N p + 8) ∙ rw declared;
  }
    where
      sp_is : add base (4 * needed (D p) (N p)) ≡ address (D p + (2 * N p + 8))
      sp_is = omega (arith, lent.enough, lent.few)

  pub first_simulated : Simulated (setting p) (Matches (setting p) memory) (begin p memory) (first_point p memory)
  first_simulated = record { abstract_state = abstract_of p (take (D p) memory); related = first_related; follows = first_matches }
