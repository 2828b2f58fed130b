-- The tokens from a place on, by the kind that stands there. Laws; rests on TokenArrays and on the automaton's moves.
use Rattle.std.specs.Prelude.{◌≡◌, refl, Bool, true, false, List, [], ◌∷◌, eqb, ltb, get_or}
use Rattle.std.proofs.Common.{sym, ap, subst, ◌∙◌, add-one, ltb-true, ltb-false, eqb-true, ne_eqb}
use Prim.Native.Nat.{ℕ, zero, suc, ◌+◌, ◌-◌, ◌<◌, ◌≤◌}
use native.Mathlib.Omega.{arith}
use Rattle.std.proofs.Math.ListN.{length, get_or-eq_default}
use Rattle.std.proofs.lemmas.Bool.{eqb-false}
use Rattle.arm_word.specs.Choice.{pick}
use Rattle.arm_word.specs.ChoiceLaws.{pick_false, by_test}
use Rattle.x_spelling.specs.Kinds as kind
use Rattle.x_grammar.specs.Grammar.{Token, number, name, mark, is_monadic, is_diadic, is_associative}
use Rattle.x_grammar.specs.Automaton.{is, kind_of, goes_on, OperandContext, need_operand, ProcessContext, need_process, run, refused}
use Rattle.x_grammar.specs.TokenArrays.{token_of, tokens, unread}
use Rattle.x_grammar.specs.SpecificationMoves.{is_name, is_constant}
use Rattle.x_grammar.specs.AutomatonMoves.{head_is, joins, negates, run_operand_stop, run_operand_end, run_process_stop, run_process_number, run_process_end}

module _ (kinds values : List ℕ) where
  pub unread_cons : (i : ℕ) → i < length kinds → unread kinds values i ≡ token_of i (get_or kinds i 0) (get_or values i 0) ∷ unread kinds values (i + 1)
  unfolding unread tokens
  unread_cons i h = let e : length kinds - i ≡ suc (length kinds - suc i) = omega arith in rw (add-one, e)

  pub unread_end : (i : ℕ) → length kinds ≤ i → unread kinds values i ≡ []
  unfolding unread tokens
  unread_end i h = let e : length kinds - i ≡ 0 = omega arith in rw e

  -- a test of the next token is a test of its kind, 0 where there is none
  by_kind : (f : Token → Bool) (g : ℕ → Bool) → ((i k v : ℕ) → f (token_of i k v) ≡ g k) → g 0 ≡ false → (i : ℕ) (b : Bool) → ltb i (length kinds) ≡ b
      → head_is f (unread kinds values i) ≡ g (get_or kinds i 0)
  by_kind f g p q i true h = rw (unread_cons i (ltb-true i (length kinds) h)) (p i (get_or kinds i 0) (get_or values i 0))
  by_kind f g p q i false h = rw (unread_end i (ltb-false i (length kinds) h), get_or-eq_default kinds 0 (ltb-false i (length kinds) h)) (sym q)

-- a kind stands only inside the array
pub inside : (kinds : List ℕ) (i k : ℕ) → get_or kinds i 0 ≡ k → 0 < k → i < length kinds
inside kinds i k e p = by_test (λ (b : Bool). i < length kinds) (ltb i (length kinds)) (λ h. ltb-true i (length kinds) h)
    (λ h. let z = get_or-eq_default kinds 0 (ltb-false i (length kinds) h) in absurd (omega arith))

pub token_case : (P : ℕ → Token → Type 0) (i k v : ℕ) → P 1 (number v) → P 2 (name i) → (¬ (k ≡ 1) → ¬ (k ≡ 2) → P k (mark k)) → P k (token_of i k v)
token_case P i k v a b c = go (eqb k 1) (eqb k 2) refl refl
  where
    go : (x y : Bool) → eqb k 1 ≡ x → eqb k 2 ≡ y → P k (pick x (number v) (pick y (name i) (mark k)))
    go true y p q = subst (λ (j : ℕ). P j (number v)) (sym (eqb-true k 1 p)) a
    go false true p q = subst (λ (j : ℕ). P j (name i)) (sym (eqb-true k 2 q)) b
    go false false p q = c (eqb-false k 1 p) (eqb-false k 2 q)

at_diadic : (i k v : ℕ) → is_diadic (kind_of (token_of i k v)) ≡ is_diadic k
at_diadic i k v = token_case (λ k t. is_diadic (kind_of t) ≡ is_diadic k) i k v refl refl (λ a b. refl)

at_monadic : (i k v : ℕ) → is_monadic (kind_of (token_of i k v)) ≡ is_monadic k
at_monadic i k v = token_case (λ k t. is_monadic (kind_of t) ≡ is_monadic k) i k v refl refl (λ a b. refl)

pub at_is : (m i k v : ℕ) → 2 < m → is m (token_of i k v) ≡ eqb k m
at_is m i k v h = token_case (λ k t. is m t ≡ eqb k m) i k v (sym (ne_eqb 1 m (omega arith))) (sym (ne_eqb 2 m (omega arith))) (λ a b. refl)

at_name : (i k v : ℕ) → is_name (token_of i k v) ≡ eqb k 2
at_name i k v = token_case (λ k t. is_name t ≡ eqb k 2) i k v refl refl (λ a b. sym (ne_eqb k 2 b))

at_constant : (i k v : ℕ) → is_constant (token_of i k v) ≡ pick (eqb k 1) true (eqb k 2)
at_constant i k v = token_case (λ k t. is_constant t ≡ pick (eqb k 1) true (eqb k 2)) i k v refl refl (λ a b. rw (ne_eqb k 1 a, ne_eqb k 2 b))

at_mark : (i k v : ℕ) → 2 < k → token_of i k v ≡ mark k
at_mark i k v h = rw (ne_eqb k 1 (omega arith), ne_eqb k 2 (omega arith))

module _ (kinds values : List ℕ) (i : ℕ) where
  pub unread_number : get_or kinds i 0 ≡ kind.number → unread kinds values i ≡ number (get_or values i 0) ∷ unread kinds values (i + 1)
  unread_number e = unread_cons kinds values i (inside kinds i 1 e (omega arith)) ∙ rw e

  pub unread_name : get_or kinds i 0 ≡ kind.name → unread kinds values i ≡ name i ∷ unread kinds values (i + 1)
  unread_name e = unread_cons kinds values i (inside kinds i 2 e (omega arith)) ∙ rw e

  pub unread_mark : (m : ℕ) → get_or kinds i 0 ≡ m → 2 < m → unread kinds values i ≡ mark m ∷ unread kinds values (i + 1)
  unread_mark m e h = unread_cons kinds values i (inside kinds i m e (omega arith)) ∙ rw (e, at_mark i m (get_or values i 0) h)

  pub unread_joins : joins (unread kinds values i) ≡ is_diadic (get_or kinds i 0)
  unread_joins = by_kind kinds values (λ t. is_diadic (kind_of t)) is_diadic at_diadic refl i (ltb i (length kinds)) refl

  pub unread_negates : negates (unread kinds values i) ≡ is_monadic (get_or kinds i 0)
  unread_negates = by_kind kinds values (λ t. is_monadic (kind_of t)) is_monadic at_monadic refl i (ltb i (length kinds)) refl

  unread_is : (m : ℕ) → 2 < m → head_is (is m) (unread kinds values i) ≡ eqb (get_or kinds i 0) m
  unread_is m h = by_kind kinds values (is m) (λ k. eqb k m) (λ i k v. at_is m i k v h) (ne_eqb 0 m (omega arith)) i (ltb i (length kinds)) refl

  -- another kind stands there, or none
  pub unread_not : (m : ℕ) → 2 < m → ¬ (get_or kinds i 0 ≡ m) → head_is (is m) (unread kinds values i) ≡ false
  unread_not m h z = unread_is m h ∙ ne_eqb _ m z

  pub unread_no_name : ¬ (get_or kinds i 0 ≡ kind.name) → head_is is_name (unread kinds values i) ≡ false
  unread_no_name z = by_kind kinds values is_name (λ k. eqb k 2) at_name refl i (ltb i (length kinds)) refl ∙ ne_eqb _ 2 z

  pub unread_no_constant : ¬ (get_or kinds i 0 ≡ kind.number) → ¬ (get_or kinds i 0 ≡ kind.name) → head_is is_constant (unread kinds values i) ≡ false
  unread_no_constant y z =
      by_kind kinds values is_constant (λ k. pick (eqb k 1) true (eqb k 2)) at_constant refl i (ltb i (length kinds)) refl ∙ rw (ne_eqb (get_or kinds i 0) 1 y, ne_eqb (get_or kinds i 0) 2 z)

  pub unread_goes_on : (o : ℕ) → 2 < o → head_is (goes_on o) (unread kinds values i) ≡ pick (is_associative o) (eqb (get_or kinds i 0) o) false
  unread_goes_on o h =
      by_kind kinds values (goes_on o) (λ k. pick (is_associative o) (eqb k o) false) (λ i k v. rw (at_is o i k v h)) (rw (ne_eqb 0 o (omega arith)) (pick_false (is_associative o))) i
      (ltb i (length kinds)) refl

  -- what starts no operand and no process
  pub no_operand : (k : OperandContext) → ¬ (get_or kinds i 0 ≡ kind.number) → ¬ (get_or kinds i 0 ≡ kind.name) → ¬ (get_or kinds i 0 ≡ kind.open_bracket)
      → run (unread kinds values i) (need_operand k) ≡ refused (unread kinds values i)
  no_operand k a b c =
      by_test (λ (x : Bool). run (unread kinds values i) (need_operand k) ≡ refused (unread kinds values i)) (ltb i (length kinds))
      (λ h. rw (unread_cons kinds values i (ltb-true i (length kinds) h), ne_eqb (get_or kinds i 0) 1 a, ne_eqb (get_or kinds i 0) 2 b)
      (run_operand_stop _ k _ (ne_eqb (get_or kinds i 0) kind.open_bracket c)))
      (λ h. rw (unread_end kinds values i (ltb-false i (length kinds) h)) (run_operand_end k))

  pub no_process : (K : ProcessContext) → ¬ (get_or kinds i 0 ≡ kind.skip) → ¬ (get_or kinds i 0 ≡ kind.stop) → ¬ (get_or kinds i 0 ≡ kind.name) → ¬ (get_or kinds i 0 ≡ kind.open_brace)
      → ¬ (get_or kinds i 0 ≡ kind.if) → ¬ (get_or kinds i 0 ≡ kind.while) → ¬ (get_or kinds i 0 ≡ kind.comment)
      → run (unread kinds values i) (need_process K) ≡ refused (unread kinds values i)
  no_process K s t n b c w m =
      by_test (λ (x : Bool). run (unread kinds values i) (need_process K) ≡ refused (unread kinds values i)) (ltb i (length kinds))
      (λ h. rw (unread_cons kinds values i (ltb-true i (length kinds) h), ne_eqb (get_or kinds i 0) 2 n) (by (eqb (get_or kinds i 0) 1) refl _))
      (λ h. rw (unread_end kinds values i (ltb-false i (length kinds) h)) (run_process_end K))
    where
      by : (x : Bool) → eqb (get_or kinds i 0) 1 ≡ x → (l : List Token)
          → run (pick x (number (get_or values i 0)) (mark (get_or kinds i 0)) ∷ l) (need_process K) ≡ refused (pick x (number (get_or values i 0)) (mark (get_or kinds i 0)) ∷ l)
      by true e l = run_process_number l K (get_or values i 0)
      by false e l = run_process_stop l K (get_or kinds i 0) (ne_eqb (get_or kinds i 0) kind.skip s) (ne_eqb (get_or kinds i 0) kind.stop t) (ne_eqb (get_or kinds i 0) kind.open_brace b)
          (ne_eqb (get_or kinds i 0) kind.if c) (ne_eqb (get_or kinds i 0) kind.while w) (ne_eqb (get_or kinds i 0) kind.comment m)

length_tokens : (kinds values : List ℕ) (i m : ℕ) → length (tokens kinds values i m) ≡ m
unfolding tokens
length_tokens kinds values i zero = refl
length_tokens kinds values i (suc m) = ap suc (length_tokens kinds values (suc i) m)

pub length_unread : (kinds values : List ℕ) (i : ℕ) → length (unread kinds values i) ≡ length kinds - i
unfolding unread
length_unread kinds values i = length_tokens kinds values i (length kinds - i)
