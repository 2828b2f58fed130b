-- The names that are declared so far, as a list of their tokens and one of their words. Definitions and laws; assumes nothing.
use Rattle.std.specs.Prelude.{◌≡◌, refl, ℕ, zero, suc, ◌≤◌, List, map, length, take, get_or, set, eqb}
use Rattle.std.proofs.Common.{sym, ap, ◌∙◌, subst, arith, length-take-le, get_or-take}
use Rattle.std.proofs.lemmas.List.{take-map, map-set}
use Rattle.arm_word.specs.Choice.{pick}
use Rattle.x_spelling.specs.Kinds as kind
use Rattle.text_names.specs.declared.Declared.{Declared}
use Rattle.front_names_table.specs.View.{text_at}
use Rattle.text_names.specs.Walk.{found, constant_found, Walking}

abbrev pub tokens_of : List Declared → List ℕ
tokens_of names = map (λ (d : Declared). d.token) names

abbrev pub words_of : List Declared → List ℕ
words_of names = map (λ (d : Declared). d.word) names

module _ (source kinds places values : List ℕ) where
  found_front : (declared words n : List ℕ) (m k : ℕ) → k ≤ m → found source places values (take m declared) (take m words) k n ≡ found source places values declared words k n
  unfolding found
  found_front declared words n m zero h = refl
  found_front declared words n m (suc k) h =
      rw (get_or-take m declared k 0 (omega arith), get_or-take m words k 0 (omega arith), found_front declared words n m k (omega arith)) refl

  found_first : (names : List Declared) (k : ℕ) (n : List ℕ) → k ≤ length names
      → found source places values (tokens_of (take k names)) (words_of (take k names)) (length (take k names)) n ≡ found source places values (tokens_of names) (words_of names) k n
  found_first names k n h =
      (λ j. found source places values (sym (take-map (λ (d : Declared). d.token) k names) j) (sym (take-map (λ (d : Declared). d.word) k names) j) (length-take-le k names h j) n)
      ∙ found_front (tokens_of names) (words_of names) n k k (omega arith)

  -- a constant's word among the first k names
  pub constant_first : (names : List Declared) (k j : ℕ) → k ≤ length names
      → constant_found source kinds places values (tokens_of (take k names)) (words_of (take k names)) (length (take k names)) j
      ≡ constant_found source kinds places values (tokens_of names) (words_of names) k j
  constant_first names k j h = ap (λ (w : ℕ). pick (eqb (get_or kinds j 0) kind.number) (get_or values j 0) w) (found_first names k (text_at source places values j) h)

  -- one name more
  pub remembered : (names : List Declared) (k t w : ℕ) {out₀ out : List ℕ} {at end i count used : ℕ}
      → Walking source kinds places values out₀ at (set (tokens_of names) k t) (set (words_of names) k w) out end i count used
      → Walking source kinds places values out₀ at (tokens_of (set names k (record { token = t; word = w }))) (words_of (set names k (record { token = t; word = w }))) out end i count used
  remembered names k t w {out₀ = out₀} {out = out} {at = at} {end = end} {i = i} {count = count} {used = used} g =
      let d : Declared = record { token = t; word = w } in
      subst (λ (ts : List ℕ). Walking source kinds places values out₀ at ts (words_of (set names k d)) out end i count used) (sym (map-set (λ (x : Declared). x.token) names k d))
      (subst (λ (ws : List ℕ). Walking source kinds places values out₀ at (set (tokens_of names) k t) ws out end i count used) (sym (map-set (λ (x : Declared). x.word) names k d)) g)
