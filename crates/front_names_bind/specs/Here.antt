-- The specification at a token, from the text of the specifications that are left. Laws; assumes nothing.
-- Rests on Judge and the grammar's tokens.
use Rattle.std.specs.Prelude.{◌≡◌, refl, Bool, List, [], ◌∷◌, ℕ, suc, ◌+◌, ◌-◌, ◌<◌, ◌≤◌, eqb, ltb, length, get_or}
use Rattle.std.proofs.Common.{sym, ap, ◌∙◌, arith, eq-eqb, ne_eqb, eqb-true, ltb-true, ltb-false}
use Rattle.arm_word.specs.Choice.{pick}
use Rattle.arm_word.specs.ChoiceLaws.{by_test}
use Rattle.x_spelling.specs.Kinds as kind
use Rattle.x_grammar.specs.Grammar.{Token, number, name, mark, Constant, literal, named, Specification, var, array, val, commented, text_constant, text_specification, text_specifications}
use Rattle.x_grammar.specs.TokenArrays.{token_of, unread}
use Rattle.x_grammar.specs.Unread.{unread_cons, unread_end, length_unread}
use Rattle.front_names_judge.specs.Judge.{constant_at, specification_at, width}

never {ℓ} : {A : Type ℓ} → ◌≡◌ {A = ℕ} 0 1 → A
never z = absurd (omega arith)

head_same : {A : Type 0} (x y : A) (xs ys : List A) → x ∷ xs ≡ y ∷ ys → x ≡ y
head_same x y xs ys e = cc

tail_same : {A : Type 0} (x y : A) (xs ys : List A) → x ∷ xs ≡ y ∷ ys → xs ≡ ys
tail_same x y xs ys e = cc

-- a token's kind, by what the grammar sees
module _ (i k v : ℕ) where
  mark_kind : (m : ℕ) → token_of i k v ≡ mark m → k ≡ m
  mark_kind m =
      by_test (λ (b : Bool). pick b (number v) (pick (eqb k 2) (name i) (mark k)) ≡ mark m → k ≡ m) (eqb k 1) (λ _ e. never (cc))
      (λ _. by_test (λ (b : Bool). pick b (name i) (mark k) ≡ mark m → k ≡ m) (eqb k 2) (λ _ e. never (cc)) (λ _ e. cc))

  name_kind : (n : ℕ) → token_of i k v ≡ name n → (k ≡ 2) × (n ≡ i)
  name_kind n =
      by_test (λ (b : Bool). pick b (number v) (pick (eqb k 2) (name i) (mark k)) ≡ name n → (k ≡ 2) × (n ≡ i)) (eqb k 1) (λ _ e. never (cc))
      (λ _. by_test (λ (b : Bool). pick b (name i) (mark k) ≡ name n → (k ≡ 2) × (n ≡ i)) (eqb k 2) (λ f e. (eqb-true k 2 f, (cc))) (λ _ e. never (cc)))

  number_kind : (w : ℕ) → token_of i k v ≡ number w → (k ≡ 1) × (w ≡ v)
  number_kind w =
      by_test (λ (b : Bool). pick b (number v) (pick (eqb k 2) (name i) (mark k)) ≡ number w → (k ≡ 1) × (w ≡ v)) (eqb k 1) (λ f e. (eqb-true k 1 f, (cc)))
      (λ _. by_test (λ (b : Bool). pick b (name i) (mark k) ≡ number w → (k ≡ 1) × (w ≡ v)) (eqb k 2) (λ _ e. never (cc)) (λ _ e. never (cc)))

module _ (kinds values : List ℕ) where
  -- the token at i and those after it
  peel : (i : ℕ) (t : Token) (w : List Token) → unread kinds values i ≡ t ∷ w → (token_of i (get_or kinds i 0) (get_or values i 0) ≡ t) × (unread kinds values (i + 1) ≡ w)
  peel i t w h =
      by_test (λ _. (token_of i (get_or kinds i 0) (get_or values i 0) ≡ t) × (unread kinds values (i + 1) ≡ w)) (ltb i (length kinds))
      (λ e. let c = sym (unread_cons kinds values i (ltb-true i (length kinds) e)) ∙ h in (head_same _ _ _ _ c, tail_same _ _ _ _ c))
      (λ e. let c = sym (unread_end kinds values i (ltb-false i (length kinds) e)) ∙ h in never (cc))

  marked : (i m : ℕ) (w : List Token) → unread kinds values i ≡ mark m ∷ w → (get_or kinds i 0 ≡ m) × (unread kinds values (i + 1) ≡ w)
  marked i m w h = let x = peel i (mark m) w h in (mark_kind i (get_or kinds i 0) (get_or values i 0) m x.0, x.1)

  named_here : (i n : ℕ) (w : List Token) → unread kinds values i ≡ name n ∷ w → (n ≡ i) × (unread kinds values (i + 1) ≡ w)
  named_here i n w h = let x = peel i (name n) w h in ((name_kind i (get_or kinds i 0) (get_or values i 0) n x.0).1, x.1)

  constant_here : (c : Constant) (j : ℕ) (w : List Token) → unread kinds values j ≡ text_constant c w → (constant_at kinds values j ≡ c) × (unread kinds values (j + 1) ≡ w)
  constant_here (literal v) j w h =
      let x = peel j (number v) w h in
      let y = number_kind j (get_or kinds j 0) (get_or values j 0) v x.0 in
      (rw (eq-eqb (get_or kinds j 0) 1 y.0) (ap literal (sym y.1)), x.1)
  constant_here (named n) j w h =
      let x = peel j (name n) w h in
      let y = name_kind j (get_or kinds j 0) (get_or values j 0) n x.0 in
      (rw (ne_eqb (get_or kinds j 0) 1 (omega arith)) (ap named (sym y.1)), x.1)

  -- the specification that stands at i, and what stands after its `;`
  pub specification_here : (d : Specification) (ds : List Specification) (w : List Token) (i : ℕ) → unread kinds values i ≡ text_specifications (d ∷ ds) w → ¬ (get_or kinds i 0 ≡ kind.comment)
      → (specification_at kinds values i ≡ d) × (unread kinds values (i + width (get_or kinds i 0)) ≡ text_specifications ds w)
  specification_here (var n) ds w i h z =
      let a = marked i kind.var _ h in
      let b = named_here (i + 1) n _ a.1 in
      let c = marked (i + 1 + 1) kind.semicolon _ b.1 in
      let q : i + 1 + 1 + 1 ≡ i + 3 = omega arith in
      rw a.0 (ap var (sym b.0), rw q at c.1)
  specification_here (array n x) ds w i h z =
      let a = marked i kind.array _ h in
      let b = named_here (i + 1) n _ a.1 in
      let c = marked (i + 1 + 1) kind.open_subscript _ b.1 in
      let p : i + 1 + 1 + 1 ≡ i + 3 = omega arith in
      let d = constant_here x (i + 3) _ (rw p at c.1) in
      let e = marked (i + 3 + 1) kind.close_subscript _ d.1 in
      let f = marked (i + 3 + 1 + 1) kind.semicolon _ e.1 in
      let q : i + 3 + 1 + 1 + 1 ≡ i + 6 = omega arith in
      rw a.0 (rw d.0 (ap (λ (m : ℕ). array m x) (sym b.0)), rw q at f.1)
  specification_here (val n x) ds w i h z =
      let a = marked i kind.val _ h in
      let b = named_here (i + 1) n _ a.1 in
      let c = marked (i + 1 + 1) kind.equal _ b.1 in
      let p : i + 1 + 1 + 1 ≡ i + 3 = omega arith in
      let d = constant_here x (i + 3) _ (rw p at c.1) in
      let f = marked (i + 3 + 1) kind.semicolon _ d.1 in
      let q : i + 3 + 1 + 1 ≡ i + 5 = omega arith in
      rw a.0 (rw d.0 (ap (λ (m : ℕ). val m x) (sym b.0)), rw q at f.1)
  specification_here (commented d) ds w i h z = absurd (z (marked i kind.comment _ h).0)

  -- a comment before one
  pub comment_here : (d : Specification) (ds : List Specification) (w : List Token) (i : ℕ) → unread kinds values i ≡ text_specifications (d ∷ ds) w → get_or kinds i 0 ≡ kind.comment
      → (e : Specification) × (d ≡ commented e) × (unread kinds values (i + 1) ≡ text_specifications (e ∷ ds) w)
  comment_here (var n) ds w i h z = let a = (marked i kind.var _ h).0 in absurd (omega arith)
  comment_here (array n x) ds w i h z = let a = (marked i kind.array _ h).0 in absurd (omega arith)
  comment_here (val n x) ds w i h z = let a = (marked i kind.val _ h).0 in absurd (omega arith)
  comment_here (commented d) ds w i h z = (d, refl, (marked i kind.comment _ h).1)

-- a specification has tokens
length_constant : (c : Constant) (w : List Token) → length (text_constant c w) ≡ suc (length w)
length_constant (literal v) w = refl
length_constant (named n) w = refl

length_one : (d : Specification) (w : List Token) → length w < length (text_specification d w)
length_one (var n) w = omega arith
length_one (array n c) w = let x = length_constant c (mark kind.close_subscript ∷ w) in omega arith
length_one (val n c) w = let x = length_constant c w in omega arith
length_one (commented d) w = let x = length_one d w in omega arith

length_all : (ds : List Specification) (w : List Token) → length w ≤ length (text_specifications ds w)
length_all [] w = omega arith
length_all (d ∷ ds) w = let x = length_one d (mark kind.semicolon ∷ text_specifications ds w) in let y = length_all ds w in omega arith

-- before the process a specification is left, from it on none
pub none_left : (kinds values : List ℕ) (ds : List Specification) (w : List Token) (i : ℕ) → unread kinds values i ≡ text_specifications ds w → length kinds - length w ≤ i → ds ≡ []
none_left kinds values [] w i h l = refl
none_left kinds values (d ∷ ds) w i h l =
    let x = length_one d (mark kind.semicolon ∷ text_specifications ds w) in
    let y = length_all ds w in
    let z = sym (length_unread kinds values i) ∙ ap length h in
    absurd (omega arith)

pub some_left : (kinds values : List ℕ) (w : List Token) (i : ℕ) → unread kinds values i ≡ w → i < length kinds - length w → ⊥
some_left kinds values w i h l = let z = sym (length_unread kinds values i) ∙ ap length h in omega arith
