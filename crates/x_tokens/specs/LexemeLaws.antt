-- What every lexeme has: its bytes stand in the source, its kind and value go together. The claim, and its proof.
-- Rests on Lexemes and Runs.
use Rattle.std.specs.Prelude.{◌≡◌, refl, Bool, true, false, List, [], ◌∷◌, ℕ, suc, ◌+◌, ◌-◌, ◌*◌, ◌<◌, ◌≤◌, eqb, leb, ltb, length, get_or, take}
use Rattle.std.proofs.Common.{ap, ◌∙◌, arith, length-take-le, ⊎_elim, lt-ltb, eq-eqb, eqb-true, leb-true, ltb-true, ltb-false}
use Rattle.std.proofs.Math.ListN.{get_or-eq_default}
use Rattle.std.proofs.lemmas.Bool.{eqb-false}
use Rattle.arm_word.specs.Choice.{pick}
use Rattle.arm_word.specs.ChoiceLaws.{by_test, both, either}
use Rattle.x_spelling.specs.Kinds as kinds
use Rattle.x_spelling.specs.Characters.{one_of, character, within, letter, digit, digit_value, name_character, literal_character, span, numeral, separator}
use Rattle.x_spelling.specs.Words.{reserved, word}
use Rattle.x_spelling.specs.ReservedWordLaws.{every, word_has}
use Rattle.x_tokens.specs.Lexemes.{at, spelled, named, number, escape_value, closed, hexadecimal_escape, escape, byte_literal, comment, single, double, symbol, lexeme}
use Rattle.x_spelling.specs.Runs.{span_length}
use Rattle.x_tokens.specs.declared.refusal.Reason.TheVariants.{BrokenToken, LargeNumber, LongName}
use Rattle.x_spelling.specs.declared.Class.TheVariants.{Name, Comment, Digit}
use Rattle.x_spelling.specs.declared.Word.{Word}
use Rattle.x_tokens.specs.Refusals as refusal
use Rattle.x_tokens.specs.declared.Lexeme.{Lexeme}
use Rattle.x_tokens.specs.declared.Lexeme.TheVariants.{Separator, Token, Broken}

-- a kind of Kinds
abbrev pub known : ℕ → Bool
known k = pick (within 1 28 k) true (within 31 44 k)

-- a kind and a value that go together, of a token of n bytes: a number has a word, a name its length, any other 0
abbrev pub matched : ℕ → ℕ → ℕ → Bool
matched n k v = pick (eqb k kinds.number) (ltb v 4294967296) (pick (eqb k kinds.name) (eqb v n) (pick (known k) (eqb v 0) false))

-- what stands at the front of `left` bytes
pub record Fits (left kind n value : ℕ) : Type 0 where
  pub some : 1 ≤ n
  pub inside : n ≤ left
  pub matching : matched n kind value ≡ true
  pub short : kind ≡ kinds.name → n ≤ 32

abbrev pub Good : ℕ → Lexeme → Type 0
Good left Separator = Unit {0}
Good left (Token k n v) = Fits left k n v
Good left (Broken r) = (2 ≤ refusal.number r) × (refusal.number r ≤ 4)

-- a choice has what both of its answers have
holds {ℓ} : {A : Type 0} (P : A → Type ℓ) (b : Bool) (x y : A) → (b ≡ true → P x) → (b ≡ false → P y) → P (pick b x y)
holds P true x y f g = f refl
holds P false x y f g = g refl

broken : (left : ℕ) → Good left (Broken BrokenToken)
broken left = (omega arith, omega arith)

inside : (s : List ℕ) (i k : ℕ) → get_or s i 0 ≡ k → 0 < k → i < length s
inside s i k e p =
    by_test (λ _. i < length s) (ltb i (length s)) (λ h. ltb-true i (length s) h)
    (λ h. let z = get_or-eq_default s 0 (ltb-false i (length s) h) in omega arith)

-- words

word_matched : (w : List ℕ) → matched (length w) (word w).kind (word w).value ≡ true
unfolding reserved every
word_matched w = word_has (λ (t : Word). matched (length w) t.kind t.value) w reserved refl (eq-eqb (length w) (length w) refl)

-- symbols

-- no symbol, or one that its kind says all of
plain : ℕ → ℕ → Bool
plain n k = pick (eqb k 0) true (matched n k 0)

plain_pick : (n : ℕ) (b : Bool) (x y : ℕ) → plain n x ≡ true → plain n y ≡ true → plain n (pick b x y) ≡ true
plain_pick n true x y p q = p
plain_pick n false x y p q = q

single_plain : (n b : ℕ) → plain n (single b) ≡ true
unfolding single plain
single_plain n b = search plain_pick depth 30

double_plain : (n b c : ℕ) → plain n (double b c) ≡ true
unfolding double plain
double_plain n b c = search plain_pick depth 30

plain_matched : (n k : ℕ) → plain n k ≡ true → eqb k 0 ≡ false → matched n k 0 ≡ true
unfolding plain
plain_matched n k p e = rw e at p

both_ways {ℓ} : {A : Type ℓ} (b : Bool) (x : A) → pick b x x ≡ x
both_ways true x = refl
both_ways false x = refl

double_none : (b : ℕ) → double b 0 ≡ 0
unfolding double
double_none b = simp both_ways

symbol_good : (b c left : ℕ) → 1 ≤ left → (¬ (c ≡ 0) → 2 ≤ left) → Good left (symbol b c)
unfolding symbol
symbol_good b c left one two =
    holds (Good left) (eqb (double b c) 0) (pick (eqb (single b) 0) (Broken BrokenToken) (Token (single b) 1 0)) (Token (double b c) 2 0)
    (λ e. holds (Good left) (eqb (single b) 0) (Broken BrokenToken) (Token (single b) 1 0) (λ f. broken left)
    (λ f. record { some = omega arith; inside = one; matching = plain_matched 1 (single b) (single_plain 1 b) f; short = λ _. omega arith }))
    (λ e. record {
      some = omega arith;
      inside = two (λ z. eqb-false (double b c) 0 e (ap (double b) z ∙ double_none b));
      matching = plain_matched 2 (double b c) (double_plain 2 b c) e;
      short = λ _. omega arith;
    })

-- comments and numbers

comment_good : (bs : List ℕ) → Good (suc (length bs)) (comment bs)
unfolding comment
comment_good bs =
    holds (Good (suc (length bs))) (eqb (at bs (span Comment bs)) 124) (Token kinds.comment (span Comment bs + 2) 0) (Broken BrokenToken)
    (λ e. let h = inside bs (span Comment bs) 124 (eqb-true _ 124 e) (omega arith) in
    record { some = omega arith; inside = omega arith; matching = refl; short = λ n. omega arith })
    (λ e. broken (suc (length bs)))

number_token : (left n v : ℕ) → 1 ≤ n → n ≤ left → v < 4294967296 → Fits left kinds.number n v
number_token left n v one h b = record { some = one; inside = h; matching = lt-ltb v 4294967296 b; short = λ e. omega arith }

number_good : (base limit before left : ℕ) (bs : List ℕ) → limit < 4294967296 → before + length bs ≤ left → Good left (number base limit before bs)
unfolding number
number_good base limit before left bs h room =
    let n = span (Digit base) bs in
    let v = numeral base bs 0 in
    let l = span_length (Digit base) bs in
    holds (Good left) (eqb n 0) (Broken BrokenToken) (pick (leb v limit) (Token kinds.number (before + n) v) (Broken LargeNumber)) (λ e. broken left)
    (λ e. let d = eqb-false n 0 e in
    holds (Good left) (leb v limit) (Token kinds.number (before + n) v) (Broken LargeNumber)
    (λ f. let m = leb-true v limit f in number_token left (before + n) v (omega arith) (omega arith) (omega arith)) (λ f. (omega arith, omega arith)))

-- byte literals

all_below : ℕ → List ℕ → Bool
all_below m [] = true
all_below m (x ∷ xs) = pick (ltb x m) (all_below m xs) false

one_of_below : (m : ℕ) (xs : List ℕ) (b : ℕ) → all_below m xs ≡ true → one_of xs b ≡ true → b < m
unfolding all_below one_of
one_of_below m [] b a e = let z : ◌≡◌ {A = ℕ} 0 1 = cc in absurd (omega arith)
one_of_below m (x ∷ xs) b a e =
    let (p, q) = both (ltb x m) (all_below m xs) a in
    let h = ltb-true x m p in
    ⊎_elim (λ f. let g = eqb-true x b f in omega arith) (λ f. one_of_below m xs b q f) (either (eqb x b) (one_of xs b) e)

letter_below : (b : ℕ) → letter b ≡ true → b < 256
letter_below b e =
    ⊎_elim (λ f. let h = leb-true b 122 (both (leb 97 b) (leb b 122) f).1 in omega arith) (λ f. let h = leb-true b 90 (both (leb 65 b) (leb b 90) f).1 in omega arith)
    (either (within 97 122 b) (within 65 90 b) e)

digit_below : (b : ℕ) → digit 10 b ≡ true → b < 256
unfolding digit_value
digit_below b e =
    holds (λ (n : ℕ). n < 10 → b < 256) (within 48 57 b) (b - 48) (pick (within 97 102 b) (b - 87) (pick (within 65 70 b) (b - 55) 16)) (λ f h. omega arith)
    (λ f. holds (λ (n : ℕ). n < 10 → b < 256) (within 97 102 b) (b - 87) (pick (within 65 70 b) (b - 55) 16) (λ g h. omega arith)
    (λ g. holds (λ (n : ℕ). n < 10 → b < 256) (within 65 70 b) (b - 55) 16 (λ k h. omega arith) (λ k h. omega arith)))
    (ltb-true _ 10 e)

character_below : (b : ℕ) → literal_character b ≡ true → b < 256
unfolding literal_character character all_below
character_below b e =
    go (one_of (42 ∷ 39 ∷ 34 ∷ []) b) e
  where
    inner : character b ≡ true → b < 256
    inner e = ⊎_elim (λ f. letter_below b f) (λ f. ⊎_elim (λ g. digit_below b g) (λ g. one_of_below 256 _ b refl g) (either _ _ f)) (either (letter b) _ e)

    go : (t : Bool) → pick t false (character b) ≡ true → b < 256
    go true e = let z : ◌≡◌ {A = ℕ} 0 1 = cc in absurd (omega arith)
    go false e = inner e

below_pick : (m : ℕ) (b : Bool) (x y : ℕ) → ltb x m ≡ true → ltb y m ≡ true → ltb (pick b x y) m ≡ true
below_pick m true x y p q = p
below_pick m false x y p q = q

escape_below : (b : ℕ) → ltb (escape_value b) 256 ≡ true
unfolding escape_value
escape_below b = search below_pick depth 30

closed_good : (bs : List ℕ) (n v : ℕ) → v < 4294967296 → Good (length bs) (closed bs n v)
unfolding closed
closed_good bs n v h =
    holds (Good (length bs)) (eqb (at bs n) 39) (Token kinds.number (n + 1) v) (Broken BrokenToken)
    (λ e. let i = inside bs n 39 (eqb-true _ 39 e) (omega arith) in number_token (length bs) (n + 1) v (omega arith) (omega arith) h) (λ e. broken (length bs))

hexadecimal_good : (bs : List ℕ) → Good (length bs) (hexadecimal_escape bs)
unfolding hexadecimal_escape
hexadecimal_good bs =
    let h = digit_value (at bs 3) in
    let l = digit_value (at bs 4) in
    holds (Good (length bs)) (ltb h 16) (pick (ltb l 16) (closed bs 5 (h * 16 + l)) (Broken BrokenToken)) (Broken BrokenToken)
    (λ e. holds (Good (length bs)) (ltb l 16) (closed bs 5 (h * 16 + l)) (Broken BrokenToken)
    (λ f. let p = ltb-true h 16 e in let q = ltb-true l 16 f in closed_good bs 5 (h * 16 + l) (omega arith)) (λ f. broken (length bs)))
    (λ e. broken (length bs))

escape_good : (bs : List ℕ) → Good (length bs) (escape bs)
unfolding escape
escape_good bs =
    let v = escape_value (at bs 2) in
    holds (Good (length bs)) (eqb (at bs 2) 35) (hexadecimal_escape bs) (pick (eqb v 0) (Broken BrokenToken) (closed bs 3 v)) (λ e. hexadecimal_good bs)
    (λ e. holds (Good (length bs)) (eqb v 0) (Broken BrokenToken) (closed bs 3 v) (λ f. broken (length bs))
    (λ f. let b = ltb-true v 256 (escape_below (at bs 2)) in closed_good bs 3 v (omega arith)))

byte_literal_good : (bs : List ℕ) → Good (length bs) (byte_literal bs)
unfolding byte_literal
byte_literal_good bs =
    holds (Good (length bs)) (eqb (at bs 1) 42) (escape bs) (pick (literal_character (at bs 1)) (closed bs 2 (at bs 1)) (Broken BrokenToken)) (λ e. escape_good bs)
    (λ e. holds (Good (length bs)) (literal_character (at bs 1)) (closed bs 2 (at bs 1)) (Broken BrokenToken)
    (λ f. let b = character_below (at bs 1) f in closed_good bs 2 (at bs 1) (omega arith)) (λ f. broken (length bs)))

-- names

some_name : (b : ℕ) (bs : List ℕ) → letter b ≡ true → 1 ≤ span Name (b ∷ bs)
unfolding span name_character
some_name b bs h = rw h (omega arith)

named_good : (b : ℕ) (bs : List ℕ) → letter b ≡ true → Good (suc (length bs)) (named (b ∷ bs))
unfolding named
named_good b bs h =
    let n = span Name (b ∷ bs) in
    let w = take n (b ∷ bs) in
    let l = span_length Name (b ∷ bs) in
    let one = some_name b bs h in
    let e : length w ≡ n = length-take-le n (b ∷ bs) l in
    holds (Good (suc (length bs))) (leb n 32) (spelled n (word w)) (Broken LongName)
    (λ f. let m = leb-true n 32 f in record { some = one; inside = l; matching = rw e at (word_matched w); short = λ _. m }) (λ f. (omega arith, omega arith))

-- what stands at the front of any bytes
pub lexeme_good : (b : ℕ) (bs : List ℕ) → Good (length (b ∷ bs)) (lexeme (b ∷ bs))
unfolding lexeme
lexeme_good b bs =
    let P = Good (suc (length bs)) in
    holds P (separator b) _ _ (λ e. tt)
    (λ e. holds P (letter b) _ _ (λ f. named_good b bs f)
    (λ f. holds P (digit 10 b) _ _ (λ g. number_good 10 2147483647 0 (suc (length bs)) (b ∷ bs) (omega arith) (omega arith))
    (λ g. holds P (eqb b 35) _ _ (λ h. number_good 16 4294967295 1 (suc (length bs)) bs (omega arith) (omega arith))
    (λ h. holds P (eqb b 39) _ _ (λ i. byte_literal_good (b ∷ bs))
    (λ i. holds P (eqb b 124) _ _ (λ j. comment_good bs)
    (λ j. symbol_good b (at bs 0) (suc (length bs)) (omega arith) (λ z. let q = inside bs 0 (at bs 0) refl (omega arith) in omega arith)))))))
