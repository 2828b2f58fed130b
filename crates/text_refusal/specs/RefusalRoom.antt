-- How long a reason is. Laws; assumes nothing.
use Rattle.std.specs.Prelude.{◌≡◌, refl, Bool, true, false, List, ℕ, ◌≤◌, eqb, leb, length}
use Rattle.std.proofs.Common.{arith, leb-true, take_all, length-append}
use Rattle.arm_word.specs.Choice.{pick}
use Rattle.x_spelling.specs.Kinds as kind
use Rattle.x_tokens.specs.TokenList as token
use Rattle.x_grammar.specs.Grammar.{is_diadic}
use Rattle.text_lines.specs.Text.{fitted}
use Rattle.text_refusal.specs.declared.Near.{Near}
use Rattle.text_refusal.specs.Refusal.{no_token, starts, early_sentence, late_sentence, end_hint, equal_hint, operator_hint, name_hint, token_hint}
use Rattle.text_refusal.specs.Refusal.{hint, met_sentence, grammar_text, sentence, near, reason_of, reason_limit}

-- a text of at most k bytes
record Within (k : ℕ) (l : List ℕ) : Type 0 where
  is : length l ≤ k

-- one that is written out
text : (k : ℕ) (l : List ℕ) → leb (length l) k ≡ true → Within k l
text k l e = record { is = leb-true (length l) k e }

-- of two such texts the one that is chosen is one
either : (k : ℕ) (b : Bool) (x y : List ℕ) → Within k x → Within k y → Within k (pick b x y)
either k true x y p q = p
either k false x y p q = q

short_early : (n : ℕ) → Within 124 (early_sentence n)
unfolding early_sentence
short_early n =
    either 124 (eqb n 1) _ _ (text _ _ refl) (either 124 (eqb n 2) _ _ (text _ _ refl)
    (either 124 (eqb n 3) _ _ (text _ _ refl) (either 124 (eqb n 4) _ _ (text _ _ refl) (either 124 (eqb n 5) _ _ (text _ _ refl) (text _ _ refl)))))

short_late : (n : ℕ) → Within 124 (late_sentence n)
unfolding late_sentence
short_late n =
    either 124 (eqb n 8) _ _ (text _ _ refl) (either 124 (eqb n 9) _ _ (text _ _ refl)
    (either 124 (eqb n 10) _ _ (text _ _ refl) (either 124 (eqb n 11) _ _ (text _ _ refl)
    (either 124 (eqb n 12) _ _ (text _ _ refl) (either 124 (eqb n 13) _ _ (text _ _ refl) (text _ _ refl))))))

short_end : (p : ℕ) → Within 100 (end_hint p)
unfolding end_hint
short_end p =
    either 100 (eqb p no_token) _ _ (text _ _ refl) (either 100 (eqb p kind.semicolon) _ _ (text _ _ refl) (text _ _ refl))

short_equal : (b p : ℕ) → Within 100 (equal_hint b p)
unfolding equal_hint
short_equal b p =
    either 100 (eqb p kind.name) _ _ (either 100 (starts b) _ _ (text _ _ refl) (text _ _ refl)) (text _ _ refl)

short_operator : (n : Near) → Within 100 (operator_hint n)
unfolding operator_hint
short_operator n =
    either 100 (is_diadic n.previous) _ _ (text _ _ refl) (either 100 (eqb n.met kind.equal) _ _ (short_equal n.before n.previous) (text _ _ refl))

short_name : (p : ℕ) → Within 100 (name_hint p)
unfolding name_hint
short_name p =
    either 100 (eqb p kind.name) _ _ (text _ _ refl) (text _ _ refl)

short_token : (p m : ℕ) → Within 100 (token_hint p m)
unfolding token_hint
short_token p m =
    either 100 (eqb m kind.semicolon) _ _ (text _ _ refl) (either 100 (eqb m kind.close_brace) _ _ (text _ _ refl)
    (either 100 (eqb m kind.comma) _ _ (text _ _ refl) (either 100 (eqb m kind.comment) _ _ (text _ _ refl) (either 100 (eqb m kind.name) _ _ (short_name p) (text _ _ refl)))))

short_hint : (n : Near) → Within 100 (hint n)
unfolding hint
short_hint n =
    either 100 (eqb n.met no_token) _ _ (short_end n.previous) (either 100 (is_diadic n.met) _ _ (short_operator n) (short_token n.previous n.met))

short_met : (m : ℕ) → Within 60 (met_sentence m)
short_met m =
    either 60 (eqb m no_token) _ _ (text _ _ refl) (text _ _ refl)

-- so each is a line whole
whole : (k : ℕ) (l : List ℕ) → k ≤ 128 → Within k l → fitted l ≡ l
whole k l h w = take_all 128 l (omega (arith, h, w.is))

pub sentence_whole : (n : ℕ) → fitted (sentence n) ≡ sentence n
sentence_whole n = whole 124 (sentence n) (omega arith) (either 124 (leb n 7) (early_sentence n) (late_sentence n) (short_early n) (short_late n))

pub met_whole : (m : ℕ) → fitted (met_sentence m) ≡ met_sentence m
met_whole m = whole 60 (met_sentence m) (omega arith) (short_met m)

pub hint_whole : (n : Near) → fitted (hint n) ≡ hint n
hint_whole n = whole 100 (hint n) (omega arith) (short_hint n)

pub reason_fits : (source : List ℕ) (n place : ℕ) → length (reason_of source n place) ≤ reason_limit
unfolding reason_of
reason_fits source n place =
    let m = near (token.outcome source) place in
    let whole : Within reason_limit (grammar_text m) = record { is = omega (arith, length-append (met_sentence m.met) (hint m), (short_met m.met).is, (short_hint m).is) } in
    let early : Within reason_limit (early_sentence n) = record { is = omega (arith, (short_early n).is) } in
    let late : Within reason_limit (late_sentence n) = record { is = omega (arith, (short_late n).is) } in
    (either reason_limit (eqb n 6) (grammar_text m) (sentence n) whole (either reason_limit (leb n 7) (early_sentence n) (late_sentence n) early late)).is
