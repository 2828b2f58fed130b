-- The complaints of a process, found row by row in its raw rows: in another order, with the same least. A definition and its law; assumes nothing.
use Rattle.std.specs.Prelude.{◌≡◌, Bool, true, false, length, eqb, ltb, leb}
use Rattle.std.proofs.Math.Path.{refl, sym, ap}
use Rattle.std.proofs.Common.{ap₂, ◌∙◌, arith, length-append, ltb-true, ltb-false, eqb-true, leb-true, leb-false, lt-ltb, le-ltb, eq-eqb, le-leb}
use mathlib.Core.List.{List, [], ◌∷◌, ◌++◌, append_assoc}
use Prim.Native.Nat.{ℕ, zero, suc, ◌+◌, ◌-◌, ◌*◌}
use Rattle.std.proofs.lemmas.Bool.{eqb-false}
use Rattle.arm_word.specs.Choice.{pick}
use Rattle.x_grammar.specs.Grammar.{Expression, single, monadic, diadic, Chain, last, more, Operand, element, bracketed, Process, skip, stop, assign, assign_element, empty, braces, conditional}
use Rattle.x_grammar.specs.Grammar.{while, after_comment, Processes, only, followed}
use Rattle.x_grammar.specs.Grammar as grammar
use Rattle.x_grammar.specs.RawRows as raw
use Rattle.x_grammar.specs.RawRowLaws.{length_expression, length_chain, length_operand, length_process, length_processes}
use Rattle.x_program.specs.Layout.{row_words}
use Rattle.x_program.specs.Layout as layout
use Rattle.x_program.specs.Rows.{row}
use Rattle.x_names.specs.Scope.{Meaning, Scope, meaning_of}
use Rattle.x_names.specs.FirstComplaint.{Before, is_earlier}
use Rattle.x_names.specs.Complaints.{Complaint, as_value, as_target, as_array, at, of_expression, of_chain, of_operand, of_process, of_processes, earlier, Verdict, fine, refused, lesser, least}

-- ── the least of two lists ──

abbrev pub lesser_of : Verdict → Verdict → Verdict
lesser_of fine v = v
lesser_of (refused a) v = lesser a v

-- the order of complaints as one number is not at hand: the laws go by its cases
earlier_total : (a b : Complaint) → earlier a b ≡ false → earlier b a ≡ true
earlier_total a b h = by (ltb a.place b.place) refl (eqb a.place b.place) refl h
  where
    by : (x : Bool) → ltb a.place b.place ≡ x → (y : Bool) → eqb a.place b.place ≡ y → pick x true (pick y (leb a.number b.number) false) ≡ false → earlier b a ≡ true
    by true e y f h = let z : ◌≡◌ {A = ℕ} 0 1 = cc in absurd (omega arith)
    by false e true f h =
        let p = eqb-true a.place b.place f in
        let q = leb-false a.number b.number h in
        rw (le-ltb b.place a.place (omega arith), eq-eqb b.place a.place (sym p), le-leb b.number a.number (omega arith))
    by false e false f h =
        let p = ltb-false a.place b.place e in
        let q = eqb-false a.place b.place f in
        rw (lt-ltb b.place a.place (omega arith))

precedes : (a b : Complaint) → earlier a b ≡ true → Before a b
precedes a b h = by (ltb a.place b.place) refl (eqb a.place b.place) refl h
  where
    by : (x : Bool) → ltb a.place b.place ≡ x → (y : Bool) → eqb a.place b.place ≡ y → pick x true (pick y (leb a.number b.number) false) ≡ true → Before a b
    by true e y f h = let p = ltb-true a.place b.place e in record { place = omega arith; number = λ q. absurd (omega arith) }
    by false e true f h = let p = eqb-true a.place b.place f in record { place = omega arith; number = λ q. leb-true a.number b.number h }
    by false e false f h = let z : ◌≡◌ {A = ℕ} 0 1 = cc in absurd (omega arith)

earlier_trans : (a b c : Complaint) → earlier a b ≡ true → earlier b c ≡ true → earlier a c ≡ true
earlier_trans a b c h k =
    let p = precedes a b h in
    let q = precedes b c k in
    is_earlier a c (record { place = omega (arith, p.place, q.place); number = λ e. omega (arith, p.number (omega (arith, p.place, q.place)), q.number (omega (arith, p.place, q.place))) })

same_complaint : (a b : Complaint) → earlier a b ≡ true → earlier b a ≡ true → a ≡ b
same_complaint a b h k =
    let p = precedes a b h in
    let q = precedes b a k in
    let e : a.place ≡ b.place = omega (arith, p.place, q.place) in
    let f : a.number ≡ b.number = omega (arith, p.number e, q.number (sym e)) in
    λ i. record { number = f i; place = e i }

-- of two complaints the lesser, either way round
lesser_comm : (a b : Complaint) → pick (earlier a b) (refused a) (refused b) ≡ pick (earlier b a) (refused b) (refused a)
lesser_comm a b = by (earlier a b) refl (earlier b a) refl
  where
    by : (x : Bool) → earlier a b ≡ x → (y : Bool) → earlier b a ≡ y → pick x (refused a) (refused b) ≡ pick y (refused b) (refused a)
    by true e true f = ap refused (same_complaint a b e f)
    by true e false f = refl
    by false e true f = refl
    by false e false f = let g = earlier_total a b e in let z : ◌≡◌ {A = ℕ} 0 1 = cc in absurd (omega arith)

pub lesser_of_comm : (u v : Verdict) → lesser_of u v ≡ lesser_of v u
lesser_of_comm fine fine = refl
lesser_of_comm fine (refused b) = refl
lesser_of_comm (refused a) fine = refl
lesser_of_comm (refused a) (refused b) = lesser_comm a b

lesser_assoc₃ : (a b c : Complaint) → lesser_of (pick (earlier a b) (refused a) (refused b)) (refused c) ≡ lesser a (pick (earlier b c) (refused b) (refused c))
lesser_assoc₃ a b c = by (earlier a b) refl (earlier b c) refl (earlier a c) refl
  where
    by : (x : Bool) → earlier a b ≡ x → (y : Bool) → earlier b c ≡ y → (w : Bool) → earlier a c ≡ w → lesser_of (pick x (refused a) (refused b)) (refused c) ≡ lesser a (pick y (refused b) (refused c))
    by true e true f true g = rw (e, g)
    by true e true f false g = let h = earlier_trans a b c e f in let z : ◌≡◌ {A = ℕ} 0 1 = cc in absurd (omega arith)
    by true e false f w g = refl
    by false e true f w g = rw (e, f)
    by false e false f true g =
        let h = earlier_trans b a c (earlier_total a b e) g in
        let z : ◌≡◌ {A = ℕ} 0 1 = cc in absurd (omega arith)
    by false e false f false g = rw (f, g)

pub lesser_of_assoc : (u v w : Verdict) → lesser_of (lesser_of u v) w ≡ lesser_of u (lesser_of v w)
lesser_of_assoc fine v w = refl
lesser_of_assoc (refused a) fine w = refl
lesser_of_assoc (refused a) (refused b) fine = lesser_of_comm (pick (earlier a b) (refused a) (refused b)) fine
lesser_of_assoc (refused a) (refused b) (refused c) = lesser_assoc₃ a b c

pub least_append : (xs ys : List Complaint) → least (xs ++ ys) ≡ lesser_of (least xs) (least ys)
unfolding least
least_append [] ys = refl
least_append (x ∷ xs) ys = ap (lesser x) (least_append xs ys) ∙ sym (lesser_of_assoc (refused x) (least xs) (least ys))

pub least_swap : (xs ys : List Complaint) → least (xs ++ ys) ≡ least (ys ++ xs)
least_swap xs ys = least_append xs ys ∙ lesser_of_comm (least xs) (least ys) ∙ sym (least_append ys xs)

-- ── rows ──

-- what the name of a raw row deserves, by the row's kind
abbrev pub numbers_of : ℕ → Meaning → List ℕ
numbers_of k m = pick (eqb k layout.variable) (as_value m) (pick (eqb k layout.assign) (as_target m) (pick (eqb k layout.element) (as_array m) (pick (eqb k layout.assign_element) (as_array m) [])))

module _ (text : ℕ → List ℕ) (place : ℕ → ℕ) (s : Scope) where
  abbrev pub row_complaint : ℕ → ℕ → List Complaint
  row_complaint k a = at text place a (numbers_of k (meaning_of text s a))

  unfoldable pub row_complaints : List ℕ → List Complaint
  row_complaints [] = []
  row_complaints (k ∷ []) = []
  row_complaints (k ∷ a ∷ []) = []
  row_complaints (k ∷ a ∷ b ∷ []) = []
  row_complaints (k ∷ a ∷ b ∷ c ∷ t) = row_complaint k a ++ row_complaints t

  pub complaints_append : (n : ℕ) (xs ys : List ℕ) → length xs ≡ row_words * n → row_complaints (xs ++ ys) ≡ row_complaints xs ++ row_complaints ys
  unfolding row_complaints
  complaints_append zero [] ys h = refl
  complaints_append zero (k ∷ xs) ys h = absurd (omega arith)
  complaints_append (suc n) [] ys h = absurd (omega arith)
  complaints_append (suc n) (k ∷ []) ys h = absurd (omega arith)
  complaints_append (suc n) (k ∷ a ∷ []) ys h = absurd (omega arith)
  complaints_append (suc n) (k ∷ a ∷ b ∷ []) ys h = absurd (omega arith)
  complaints_append (suc n) (k ∷ a ∷ b ∷ c ∷ xs) ys h =
      ap (λ (t : List Complaint). row_complaint k a ++ t) (complaints_append n xs ys (omega arith)) ∙ sym (append_assoc (row_complaint k a) (row_complaints xs) (row_complaints ys))

  append_none : (xs : List Complaint) → xs ++ [] ≡ xs
  append_none [] = refl
  append_none (x ∷ xs) = ap (λ (t : List Complaint). x ∷ t) (append_none xs)

  one_row : (k a b c : ℕ) → row_complaints (row k a b c) ≡ row_complaint k a
  unfolding row_complaints
  one_row k a b c = append_none (row_complaint k a)

  -- a list of rows has the least of a list of complaints
  record Same (xs : List ℕ) (cs : List Complaint) : Type 0 where
    is : least (row_complaints xs) ≡ least cs

  -- parts in turn
  same_append : (n : ℕ) (xs ys : List ℕ) (cs ds : List Complaint) → length xs ≡ row_words * n → Same xs cs → Same ys ds → Same (xs ++ ys) (cs ++ ds)
  same_append n xs ys cs ds l p q = record
      { is = ap least (complaints_append n xs ys l) ∙ least_append (row_complaints xs) (row_complaints ys) ∙ ap₂ lesser_of p.is q.is ∙ sym (least_append cs ds) }

  -- a part's own row comes last, its name first
  same_last : (n k a b c : ℕ) (xs : List ℕ) (cs : List Complaint) → length xs ≡ row_words * n → Same xs cs → Same (xs ++ row k a b c) (row_complaint k a ++ cs)
  same_last n k a b c xs cs l p =
      let q = same_append n xs (row k a b c) cs (row_complaint k a) l p (record { is = ap least (one_row k a b c) }) in
      record { is = q.is ∙ least_swap cs (row_complaint k a) }

  -- and a row without a name changes nothing
  same_plain : (n k a b c : ℕ) (xs : List ℕ) (cs : List Complaint) → length xs ≡ row_words * n → row_complaint k a ≡ [] → Same xs cs → Same (xs ++ row k a b c) cs
  same_plain n k a b c xs cs l e p = let q = same_last n k a b c xs cs l p in record { is = q.is ∙ ap (λ (t : List Complaint). least (t ++ cs)) e }

  -- two operands and the row that joins them
  same_joined : (o c d m l : ℕ) (xs ys : List ℕ) (cs ds : List Complaint) → length xs ≡ row_words * c → length ys ≡ row_words * d → Same xs cs → Same ys ds → Same (raw.joined o xs ys m l) (cs ++ ds)
  same_joined o c d m l xs ys cs ds lx ly p q =
      same_plain (c + d) layout.diadic _ _ _ (xs ++ ys) (cs ++ ds) (length-append xs ys ∙ omega arith) refl (same_append c xs ys cs ds lx p q)

  mutual
    unfolding raw.rows_expression

    same_E : (e : Expression) (n : ℕ) → Same (raw.rows_expression e n) (of_expression text place e s)
    same_E (single a) n = same_O a n
    same_E (monadic o a) n = same_plain (raw.count_operand a) layout.monadic _ _ _ (raw.rows_operand a n) _ (length_operand a n) refl (same_O a n)
    same_E (diadic o a c) n = same_joined o (raw.count_operand a) (raw.count_chain c) _ _ (raw.rows_operand a n) (raw.rows_chain c o (n + raw.count_operand a)) _ _ (length_operand a n)
        (length_chain c o (n + raw.count_operand a)) (same_O a n) (same_C c o (n + raw.count_operand a))

    same_C : (c : Chain) (o n : ℕ) → Same (raw.rows_chain c o n) (of_chain text place c s)
    same_C (last a) o n = same_O a n
    same_C (more a c) o n = same_joined o (raw.count_operand a) (raw.count_chain c) _ _ (raw.rows_operand a n) (raw.rows_chain c o (n + raw.count_operand a)) _ _ (length_operand a n)
        (length_chain c o (n + raw.count_operand a)) (same_O a n) (same_C c o (n + raw.count_operand a))

    same_O : (a : Operand) (n : ℕ) → Same (raw.rows_operand a n) (of_operand text place a s)
    same_O (grammar.constant v) n = record { is = ap least (one_row layout.number v 0 0) }
    same_O (grammar.variable x) n = record { is = ap least (one_row layout.variable x 0 0) }
    same_O (element x e) n = same_last (raw.count_expression e) layout.element x _ _ (raw.rows_expression e n) _ (length_expression e n) (same_E e n)
    same_O (bracketed e) n = same_E e n

  mutual
    unfolding raw.rows_process

    same_P : (p : Process) (n : ℕ) → Same (raw.rows_process p n) (of_process text place p s)
    same_P skip n = record { is = ap least (one_row layout.skip 0 0 0) }
    same_P stop n = record { is = ap least (one_row layout.stop 0 0 0) }
    same_P (assign x e) n = same_last (raw.count_expression e) layout.assign x _ _ (raw.rows_expression e n) _ (length_expression e n) (same_E e n)
    same_P (assign_element x i e) n =
        let c = raw.count_expression i in
        let d = raw.count_expression e in
        same_last (c + d) layout.assign_element x _ _ (raw.rows_expression i n ++ raw.rows_expression e (n + c)) (of_expression text place i s ++ of_expression text place e s)
        (length-append (raw.rows_expression i n) (raw.rows_expression e (n + c)) ∙ omega (arith, length_expression i n, length_expression e (n + c)))
        (same_append c (raw.rows_expression i n) (raw.rows_expression e (n + c)) (of_expression text place i s) (of_expression text place e s) (length_expression i n) (same_E i n) (same_E e (n + c)))
    same_P empty n = record { is = ap least (one_row layout.skip 0 0 0) }
    same_P (braces ps) n = same_L ps n
    same_P (conditional e p q) n =
        let c = raw.count_expression e in
        let a = raw.count_process p in
        let b = raw.count_process q in
        let xs = raw.rows_expression e n in
        let ys = raw.rows_process p (n + c) in
        let zs = raw.rows_process q (n + c + a) in
        let lx = length_expression e n in
        let ly = length_process p (n + c) in
        let lz = length_process q (n + c + a) in
        let xy = length-append xs ys in
        let two = same_append (c + a) (xs ++ ys) zs (of_expression text place e s ++ of_process text place p s) (of_process text place q s) (omega arith)
        (same_append c xs ys (of_expression text place e s) (of_process text place p s) lx (same_E e n) (same_P p (n + c))) (same_P q (n + c + a)) in
        let whole = same_plain (c + a + b) layout.if (n + c - 1) (n + c + a - 1) (n + c + a + b - 1) (xs ++ ys ++ zs) _ (omega (arith, length-append (xs ++ ys) zs)) refl two in
        record { is = whole.is ∙ ap least (append_assoc (of_expression text place e s) (of_process text place p s) (of_process text place q s)) }
    same_P (while e p) n =
        let c = raw.count_expression e in
        let a = raw.count_process p in
        same_plain (c + a) layout.while _ _ _ (raw.rows_expression e n ++ raw.rows_process p (n + c)) (of_expression text place e s ++ of_process text place p s)
        (length-append (raw.rows_expression e n) (raw.rows_process p (n + c)) ∙ omega (arith, length_expression e n, length_process p (n + c))) refl
        (same_append c (raw.rows_expression e n) (raw.rows_process p (n + c)) (of_expression text place e s) (of_process text place p s) (length_expression e n) (same_E e n) (same_P p (n + c)))
    same_P (after_comment p) n = same_P p n

    same_L : (ps : Processes) (n : ℕ) → Same (raw.rows_processes ps n) (of_processes text place ps s)
    same_L (only p) n = same_P p n
    same_L (followed p ps) n =
        let a = raw.count_process p in
        let b = raw.count_processes ps in
        same_plain (a + b) layout.sequence _ _ _ (raw.rows_process p n ++ raw.rows_processes ps (n + a)) (of_process text place p s ++ of_processes text place ps s)
        (length-append (raw.rows_process p n) (raw.rows_processes ps (n + a)) ∙ omega (arith, length_process p n, length_processes ps (n + a))) refl
        (same_append a (raw.rows_process p n) (raw.rows_processes ps (n + a)) (of_process text place p s) (of_processes text place ps s) (length_process p n) (same_P p n) (same_L ps (n + a)))

  -- THE THEOREM
  pub same_least : (p : Process) (n : ℕ) → least (row_complaints (raw.rows_process p n)) ≡ least (of_process text place p s)
  same_least p n = (same_P p n).is
