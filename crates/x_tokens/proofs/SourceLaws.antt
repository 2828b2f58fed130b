-- Every outcome is sound: each token of a source lies in it, kinds and values go together, places ascend; what a refusal's number and place can be. Laws; rests on TokenList and LexemeLaws.
use Rattle.std.specs.Prelude.{◌≡◌, Bool, true, false, List, [], ◌∷◌, ℕ, zero, suc, ◌+◌, ◌-◌, ◌<◌, ◌≤◌, eqb, leb, ltb, length}
use Rattle.std.proofs.Common.{subst, arith, ne_eqb, eqb-true, leb-true, ltb-true}
use Rattle.arm_word.specs.Choice.{pick}
use Rattle.arm_word.specs.ChoiceLaws.{by_test, both}
use Rattle.x_spelling.specs.Kinds as kinds
use Rattle.x_tokens.specs.Refusals as refusal
use Rattle.x_tokens.specs.Lexemes.{lexeme}
use Rattle.x_tokens.specs.TokenList.{Entry, Outcome, read, refused, also, taken, scan, outcome}
use Rattle.x_tokens.specs.LexemeLaws.{known, matched, Fits, Good, lexeme_good}
use Rattle.x_tokens.specs.declared.Lexeme.{Lexeme}
use Rattle.x_tokens.specs.declared.Lexeme.TheVariants.{Separator, Token, Broken}
use Rattle.x_tokens.specs.SourceLaws.{Lies, Placed, Sound, none, some}

known_of : (n k v : ℕ) → matched n k v ≡ true → known k ≡ true
known_of n k v =
    by_test (λ (b : Bool). pick b (ltb v 4294967296) (pick (eqb k 2) (eqb v n) (pick (known k) (eqb v 0) false)) ≡ true → known k ≡ true) (eqb k 1)
    (λ e _. rw (eqb-true k 1 e))
    (λ _. by_test (λ (b : Bool). pick b (eqb v n) (pick (known k) (eqb v 0) false) ≡ true → known k ≡ true) (eqb k 2) (λ e _. rw (eqb-true k 2 e)) (λ _ m. (both (known k) (eqb v 0) m).0))

number_of : (n v : ℕ) → matched n kinds.number v ≡ true → v < 4294967296
number_of n v m = ltb-true v 4294967296 m

name_of : (n v : ℕ) → matched n kinds.name v ≡ true → v ≡ n
name_of n v m = eqb-true v n m

other_of : (n k v : ℕ) → ¬ (k ≡ kinds.number) → ¬ (k ≡ kinds.name) → matched n k v ≡ true → v ≡ 0
other_of n k v a b m = eqb-true v 0 (both (known k) (eqb v 0) (rw (ne_eqb k 1 a, ne_eqb k 2 b) at m)).1

lies : (size p k n v : ℕ) → p < size → Fits (size - p) k n v → Lies size (record { kind = k; place = p; value = v })
lies size p k n v h f = record {
  inside = h;
  known = known_of n k v f.matching;
  number = λ e. number_of n v (subst (λ (x : ℕ). matched n x v ≡ true) e f.matching);
  name = λ e. (let q = name_of n v (subst (λ (x : ℕ). matched n x v ≡ true) e f.matching) in let w = f.short e in let o = f.some in let i = f.inside in (omega arith, omega arith, omega arith));
  other = λ a b. other_of n k v a b f.matching;
}

earlier : {size p q : ℕ} {ts : List Entry} → p ≤ q → Placed size q ts → Placed size p ts
earlier h none = none
earlier {p} h (some t i l r) = let k : p ≤ t.place = omega arith in some t k l r

sound_earlier : (size p q : ℕ) (o : Outcome) → p ≤ q → Sound size q o → Sound size p o
sound_earlier size p q (read ts) h s = earlier h s
sound_earlier size p q (refused n r) h s = s

sound_also : (size : ℕ) (t : Entry) (o : Outcome) → Lies size t → Sound size (t.place + 1) o → Sound size t.place (also t o)
sound_also size t (read ts) l s = let k : t.place ≤ t.place = omega arith in some t k l s
sound_also size t (refused n q) l s = s

sound_taken : (size p c : ℕ) (l : Lexeme) (rest : ℕ → ℕ → Outcome) → size ≤ 16384 → p < size → Good (size - p) l → ((n d : ℕ) → Sound size (p + 1) (rest n d)) → Sound size p (taken l p c rest)
sound_taken size p c Separator rest m h g r = sound_earlier size p (p + 1) (rest 0 c) (omega arith) (r 0 c)
sound_taken size p c (Broken reason) rest m h g r = (omega arith, omega arith, omega arith, omega arith)
sound_taken size p c (Token k n v) rest m h g r =
    by_test (λ (b : Bool). Sound size p (pick b (refused refusal.many_tokens p) (also (record { kind = k; place = p; value = v }) (rest (n - 1) (c + 1))))) (leb 1024 c)
    (λ _. (omega arith, omega arith, omega arith, omega arith)) (λ _. sound_also size (record { kind = k; place = p; value = v }) (rest (n - 1) (c + 1)) (lies size p k n v h g) (r (n - 1) (c + 1)))

sound_scan : (size : ℕ) → size ≤ 16384 → (bs : List ℕ) (k p c : ℕ) → p + length bs ≡ size → Sound size p (scan bs k p c)
unfolding scan
sound_scan size m [] k p c h = none
sound_scan size m (b ∷ bs) (suc k) p c h = sound_earlier size p (p + 1) (scan bs k (p + 1) c) (omega arith) (sound_scan size m bs k (p + 1) c (omega arith))
sound_scan size m (b ∷ bs) zero p c h =
    let e : length (b ∷ bs) ≡ size - p = omega arith in
    sound_taken size p c (lexeme (b ∷ bs)) (λ n d. scan bs n (p + 1) d) m (omega arith) (rw e at (lexeme_good b bs)) (λ n d. sound_scan size m bs n (p + 1) d (omega arith))

-- every outcome is sound: the tokens lie in the source at ascending places, a refusal's number is 1 to 5 and its place in the source, at most 16,384
pub outcome_sound : (s : List ℕ) → Sound (length s) 0 (outcome s)
unfolding outcome
outcome_sound s = by_test (λ (b : Bool). Sound (length s) 0 (pick b (scan s 0 0 0) (refused refusal.long_source 0))) (leb (length s) 16384)
    (λ e. sound_scan (length s) (leb-true (length s) 16384 e) s 0 0 0 (omega arith)) (λ _. (omega arith, omega arith, omega arith, omega arith))
