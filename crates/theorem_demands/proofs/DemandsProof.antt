-- The five demands proved from the layers' theorems. Assumes nothing.
use Rattle.std.specs.Prelude.{◌≡◌, false, List, ℕ, ◌-◌, ◌*◌, ◌≤◌, ◌<◌, length, take, eqb}
use Rattle.std.proofs.Math.Path.{refl, ap, subst}
use Rattle.std.proofs.Common.{sym, ◌∙◌, arith, take_at, ne_eqb}
use Rattle.x_program.specs.Tree.{Program}
use Rattle.x_program.specs.Layout.{row_words}
use Rattle.x_program.specs.Rows.{table_of, row_count}
use Rattle.x_program.specs.TableReadBack.{length_table}
use Rattle.x_program.specs.Sound.{Sound}
use Rattle.x_verdict.specs.Deserved.{Deserves, FirstDeserved}
use Rattle.x_verdict.specs.Front.{Outcome, refused, accepted, front}
use Rattle.x_verdict.specs.VerdictExact as exact
use Rattle.x_verdict.specs.VerdictExact.{accepts_X}
use Rattle.x_verdict.proofs.Refused.{accepted_sound, refusal}
use Rattle.x_verdict.proofs.RefusalOrder.{refused_is_first, first_is_refused, accepted_is_spared, spared_is_accepted}
use Rattle.translate_rules.specs.ImageCode.{image}
use Rattle.arm_encoding.specs.EncodingLaws.{decode_encode, encode_decode}
use Rattle.arm_machine.specs.StepLaws.{step_kept}
use Rattle.translate_source.specs.Translate.{Translated, left, zeros, answered, kept_or_filled, translated, translation}
use Rattle.translate_source.specs.TranslationRoom.{Fits, accepted_fits}
use Rattle.theorem_simulation.specs.Demand3.{Lent, Demand3}
use Rattle.theorem_simulation.proofs.Demand3Proof as simulation
use Rattle.theorem_simulation.specs.Demand4.{Agree, Demand4}
use Rattle.theorem_simulation.proofs.Demand4Proof as alike
use Rattle.theorem_walker.specs.Demand5.{Demand5}
use Rattle.theorem_walker.proofs.Demand5Proof as walker
use Rattle.theorem_demands.specs.Demands.{Refused, update, Demand1, Translates, XAs, Demand2, Demands}

-- ── demand 1 ──
module _ (source table code : List ℕ) where
  abbrev found : Outcome
  found = front source (length table) (length code)

  refuses : (n p : ℕ) → FirstDeserved source (length table) (length code) n p → Refused source table code n p (translation source table code)
  unfolding translation
  refuses n p f =
      let e = first_is_refused source (length table) (length code) n p f in
      subst (λ (o : Outcome). Refused source table code n p (translated table code o)) (sym e)
      (record {
        status = refl;
        place = refl;
        numbered = refusal source (length table) (length code) n p e;
        table_kept = refl;
        code_kept = refl;
        no_tokens = refl;
        no_rows = refl;
        no_data = refl;
        no_depth = refl;
        no_code = refl;
      })

  refused_first : 0 < (translation source table code).answer.status
      → FirstDeserved source (length table) (length code) (translation source table code).answer.status (translation source table code).answer.place
  unfolding translation
  refused_first h = by found refl h
    where
      by : (o : Outcome) → found ≡ o → 0 < (answered o).status → FirstDeserved source (length table) (length code) (answered o).status (answered o).place
      by (refused n p) e h = refused_is_first source (length table) (length code) n p e
      by (accepted n p) e h = absurd (omega arith)

  spared_accepted : ((n p : ℕ) → Deserves source (length table) (length code) n p → ⊥) → (translation source table code).answer.status ≡ 0
  unfolding translation
  spared_accepted s = let a = spared_is_accepted source (length table) (length code) s in ap (λ (o : Outcome). (answered o).status) a.2

  accepted_spared : (translation source table code).answer.status ≡ 0 → (n p : ℕ) → Deserves source (length table) (length code) n p → ⊥
  unfolding translation
  accepted_spared h = by found refl h
    where
      by : (o : Outcome) → found ≡ o → (answered o).status ≡ 0 → (n p : ℕ) → Deserves source (length table) (length code) n p → ⊥
      by (refused n p) e z = absurd (omega (arith, z, (refusal source (length table) (length code) n p e).low))
      by (accepted n p) e z = accepted_is_spared source (length table) (length code) n p e

goes_on : (rule : Translated) (source : List ℕ) → 0 < (translation source rule.table rule.code).answer.status → update rule source ≡ rule
goes_on rule source h =
    let n = (translation source rule.table rule.code).answer.status in
    let bad : eqb n 0 ≡ false = ne_eqb n 0 (λ e. omega (arith, e)) in
    let kept = refuses source rule.table rule.code _ _ (refused_first source rule.table rule.code h) in
    rw bad (λ j. left rule.answer (kept.table_kept j) (kept.code_kept j))

demand1 : Demand1
demand1 = record {
  refuses = refuses;
  refused_first = refused_first;
  accepts = spared_accepted;
  accepted_spared = accepted_spared;
  goes_on = goes_on;
  faulted = λ code words m h. let k = step_kept code words m h in record { machine = k.0; memory = k.1 };
}

-- ── demand 2 ──

-- what the front end accepts is translated
pub front_translates : (source table code : List ℕ) (n : ℕ) (p : Program) → front source (length table) (length code) ≡ accepted n p → Translates source table code p
unfolding translation
front_translates source table code n p e =
    let a = exact.accepted_is_X source (length table) (length code) n p e in
    record {
      is_X = record { ts = a.ts; tree = a.tree; is_X = a.is_X; room = a.room; resolved = a.program };
      status = ap (λ (o : Outcome). (answered o).status) e;
      place = ap (λ (o : Outcome). (answered o).place) e;
      tokens = ap (λ (o : Outcome). (answered o).tokens) e ∙ a.count;
      rows = ap (λ (o : Outcome). (answered o).rows) e;
      data_words = ap (λ (o : Outcome). (answered o).«data») e;
      depth = ap (λ (o : Outcome). (answered o).depth) e;
      code_bytes = ap (λ (o : Outcome). (answered o).code) e;
      table_filled = ap (kept_or_filled table table_of) e;
      code_filled = ap (kept_or_filled code image) e;
    }

-- "the image as code": the first bytes of the code buffer, as many as the answer says
pub image_at_front : (source table code : List ℕ) (p : Program) → Translates source table code p
    → take (translation source table code).answer.code (translation source table code).code ≡ image p
image_at_front source table code p t = rw (t.code_bytes, t.code_filled) (take_at (image p) (zeros (length code - length (image p))) (length (image p)) refl)

-- the table that a bench walks: the first words of the table buffer, four for each row of the answer
pub table_at_front : (source table code : List ℕ) (p : Program) → Translates source table code p
    → take (row_words * (translation source table code).answer.rows) (translation source table code).table ≡ table_of p
table_at_front source table code p t = rw (t.rows, t.table_filled) (take_at (table_of p) (zeros (length table - length (table_of p))) (row_words * row_count p) (length_table p))

-- what is X is accepted by the front end
front_accepts : (source : List ℕ) (table code : ℕ) (p : Program) (x : XAs source table code p) → front source table code ≡ accepted (length x.ts) p
front_accepts source table code p x = accepts_X source x.ts x.tree table code x.is_X x.room ∙ ap (accepted (length x.ts)) (sym x.resolved)

accepted_is_X : (source table code : List ℕ) → (translation source table code).answer.status ≡ 0 → (p : Program) × Translates source table code p
unfolding translation
accepted_is_X source table code h = by (front source (length table) (length code)) refl h
  where
    by : (o : Outcome) → front source (length table) (length code) ≡ o → (answered o).status ≡ 0 → (p : Program) × Translates source table code p
    by (refused n at) e z = absurd (omega (arith, z, (refusal source (length table) (length code) n at e).low))
    by (accepted n p) e z = (p, front_translates source table code n p e)

demand2 : Demand2
demand2 = record {
  accepted_is_X = accepted_is_X;
  X_is_accepted = λ source table code p x. front_translates source table code (length x.ts) p (front_accepts source (length table) (length code) p x);
  decoded = decode_encode;
  encoded = encode_decode;
}

-- ── demands 3, 4 and 5 ──

-- an accepted program is sound, its image is no longer than code may be, and it has no more rows than a table may
module _ (source table code : List ℕ) (p : Program) (t : Translates source table code p) where
  as_accepted : front source (length table) (length code) ≡ accepted (length t.is_X.ts) p
  as_accepted = front_accepts source (length table) (length code) p t.is_X

  sound : Sound p
  sound = accepted_sound source (length table) (length code) (length t.is_X.ts) p as_accepted

  fits : Fits (length table) (length code) (length t.is_X.ts) p
  fits = accepted_fits source (length table) (length code) (length t.is_X.ts) p as_accepted

  short : length (image p) ≤ 65536
  short = omega (arith, fits.small)

  demand3 : (memory : List ℕ) → Lent p memory → Demand3 p memory
  demand3 memory l = simulation.demand3 p sound short memory l

  demand4 : (memory other : List ℕ) → Lent p memory → Lent p other → Agree p memory other → Demand4 p memory other
  demand4 memory other l m a = alike.demand4 p sound short memory other l m a

  demand5 : (memory : List ℕ) → Lent p memory → Demand5 p memory
  demand5 memory l = walker.demand5 p sound (omega (arith, fits.rows, fits.few)) short memory l

-- THE THEOREM
pub demands : Demands
demands = record {
  one = demand1;
  two = demand2;
  three = λ source table code p memory t. demand3 source table code p t memory;
  four = λ source table code p memory other t. demand4 source table code p t memory other;
  five = λ source table code p memory t. demand5 source table code p t memory;
}
