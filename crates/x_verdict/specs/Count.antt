-- A source has at most 1,024 tokens. A law; assumes nothing.
use Rattle.std.specs.Prelude.{◌≡◌, refl, Bool, true, false, List, [], ◌∷◌, ℕ, zero, suc, ◌+◌, ◌-◌, ◌≤◌, leb, length}
use Rattle.std.proofs.Common.{subst, arith, leb-false}
use Rattle.arm_word.specs.Choice.{pick}
use Rattle.x_tokens.specs.Refusals as refusal
use Rattle.x_tokens.specs.Lexemes.{lexeme}
use Rattle.x_tokens.specs.TokenList.{Entry, Outcome, read, refused, also, taken, scan, outcome}
use Rattle.x_tokens.specs.declared.Lexeme.{Lexeme}
use Rattle.x_tokens.specs.declared.Lexeme.TheVariants.{Separator, Token, Broken}

-- what stands after c tokens has room left for those
abbrev Few : ℕ → Outcome → Type 0
Few c (read ts) = c + length ts ≤ 1024
Few c (refused n p) = Unit {0}

few_also : (t : Entry) (c : ℕ) (o : Outcome) → Few (c + 1) o → Few c (also t o)
few_also t c (read ts) h = omega arith
few_also t c (refused n p) h = tt

few_taken : (l : Lexeme) (p c : ℕ) (rest : ℕ → ℕ → Outcome) → c ≤ 1024 → ((n d : ℕ) → d ≤ 1024 → Few d (rest n d)) → Few c (taken l p c rest)
few_taken Separator p c rest h f = f 0 c h
few_taken (Broken n) p c rest h f = tt
few_taken (Token k n v) p c rest h f = by (leb 1024 c) refl
  where
    by : (b : Bool) → leb 1024 c ≡ b → Few c (pick b (refused refusal.many_tokens p) (also (record { kind = k; place = p; value = v }) (rest (n - 1) (c + 1))))
    by true e = tt
    by false e = few_also (record { kind = k; place = p; value = v }) c (rest (n - 1) (c + 1)) (f (n - 1) (c + 1) (omega (arith, leb-false 1024 c e)))

few_scan : (bs : List ℕ) (skip p c : ℕ) → c ≤ 1024 → Few c (scan bs skip p c)
unfolding scan
few_scan [] skip p c h = omega arith
few_scan (b ∷ bs) (suc skip) p c h = few_scan bs skip (p + 1) c h
few_scan (b ∷ bs) zero p c h = few_taken (lexeme (b ∷ bs)) p c (λ n d. scan bs n (p + 1) d) h (λ n d g. few_scan bs n (p + 1) d g)

few_outcome : (source : List ℕ) → Few 0 (outcome source)
unfolding outcome
few_outcome source = by (leb (length source) 16384)
  where
    by : (b : Bool) → Few 0 (pick b (scan source 0 0 0) (refused refusal.long_source 0))
    by true = few_scan source 0 0 0 (omega arith)
    by false = tt

pub few_tokens : (source : List ℕ) (ts : List Entry) → outcome source ≡ read ts → length ts ≤ 1024
few_tokens source ts e =
    let h : Few 0 (read ts) = subst (Few 0) e (few_outcome source) in
    omega (arith, h)
