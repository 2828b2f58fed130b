-- A program's complaints stand in order, as its names do in the source; so the least is the first. Laws; assumes nothing.
use Rattle.std.specs.Prelude.{◌≡◌, refl, Bool, true, false, List, [], ◌∷◌, ◌++◌, ℕ, suc, ◌≤◌, ◌<◌}
use Rattle.std.proofs.Common.{ap, ◌∙◌, append_assoc, append-nil, arith}
use Rattle.arm_word.specs.Choice.{pick}
use Rattle.x_tokens.specs.Refusals as refusal
use Rattle.x_grammar.specs.Grammar.{Token, number, name, mark, Constant, literal, named, Specification, val, commented, Expression, single, monadic, diadic, Chain, last, more, Operand, element}
use Rattle.x_grammar.specs.Grammar.{bracketed, Process, skip, stop, assign, assign_element, empty, braces, conditional, while, after_comment, Processes, only, followed, Program, program}
use Rattle.x_grammar.specs.Grammar.{text_expression, text_chain, text_operand, text_process, text_processes, text_constant, text_specification, text_specifications, text_program}
use Rattle.x_grammar.specs.Grammar as grammar
use Rattle.x_names.specs.Scope.{Meaning, unknown, variable, array, constant, Scope, empty_scope, meaning_of, constant_word, declare, declare_all}
use Rattle.x_names.specs.Complaints.{Complaint, as_value, as_target, as_array, as_constant, is_known, when, bad_length, too_many, at, of_constant, has_word, twice, of_array, of_specification}
use Rattle.x_names.specs.Complaints.{of_specifications, of_expression, of_chain, of_operand, of_process, of_processes, complaints, least}
use Rattle.x_names.specs.FirstComplaint.{first, BeforeAll, Ordered, least_first}

-- ── the names of a text, and of each part, in order ──

abbrev pub names_of : List Token → List ℕ
names_of [] = []
names_of (number v ∷ ts) = names_of ts
names_of (name n ∷ ts) = n ∷ names_of ts
names_of (mark k ∷ ts) = names_of ts

-- the names of a part, followed by w
abbrev mutual
  names_E : Expression → List ℕ → List ℕ
  names_E (single a) w = names_O a w
  names_E (monadic o a) w = names_O a w
  names_E (diadic o a c) w = names_O a (names_C c w)

  names_C : Chain → List ℕ → List ℕ
  names_C (last a) w = names_O a w
  names_C (more a c) w = names_O a (names_C c w)

  names_O : Operand → List ℕ → List ℕ
  names_O (grammar.constant v) w = w
  names_O (grammar.variable n) w = n ∷ w
  names_O (element n e) w = n ∷ names_E e w
  names_O (bracketed e) w = names_E e w

abbrev mutual
  names_P : Process → List ℕ → List ℕ
  names_P skip w = w
  names_P stop w = w
  names_P (assign n e) w = n ∷ names_E e w
  names_P (assign_element n i e) w = n ∷ names_E i (names_E e w)
  names_P empty w = w
  names_P (braces ps) w = names_L ps w
  names_P (conditional e p q) w = names_E e (names_P p (names_P q w))
  names_P (while e p) w = names_E e (names_P p w)
  names_P (after_comment p) w = names_P p w

  names_L : Processes → List ℕ → List ℕ
  names_L (only p) w = names_P p w
  names_L (followed p ps) w = names_P p (names_L ps w)

abbrev names_K : Constant → List ℕ → List ℕ
names_K (literal v) w = w
names_K (named n) w = n ∷ w

abbrev names_S : Specification → List ℕ → List ℕ
names_S (grammar.var n) w = n ∷ w
names_S (grammar.array n c) w = n ∷ names_K c w
names_S (val n c) w = n ∷ names_K c w
names_S (commented d) w = names_S d w

abbrev names_Ss : List Specification → List ℕ → List ℕ
names_Ss [] w = w
names_Ss (d ∷ ds) w = names_S d (names_Ss ds w)

mutual
  text_E : (e : Expression) (w : List Token) → names_of (text_expression e w) ≡ names_E e (names_of w)
  text_E (single a) w = text_O a w
  text_E (monadic o a) w = text_O a w
  text_E (diadic o a c) w = text_O a _ ∙ ap (names_O a) (text_C c o w)

  text_C : (c : Chain) (o : ℕ) (w : List Token) → names_of (text_chain c o w) ≡ names_C c (names_of w)
  text_C (last a) o w = text_O a w
  text_C (more a c) o w = text_O a _ ∙ ap (names_O a) (text_C c o w)

  text_O : (a : Operand) (w : List Token) → names_of (text_operand a w) ≡ names_O a (names_of w)
  text_O (grammar.constant v) w = refl
  text_O (grammar.variable n) w = refl
  text_O (element n e) w = ap (λ (l : List ℕ). n ∷ l) (text_E e _)
  text_O (bracketed e) w = text_E e _

mutual
  text_P : (p : Process) (w : List Token) → names_of (text_process p w) ≡ names_P p (names_of w)
  text_P skip w = refl
  text_P stop w = refl
  text_P (assign n e) w = ap (λ (l : List ℕ). n ∷ l) (text_E e w)
  text_P (assign_element n i e) w = ap (λ (l : List ℕ). n ∷ l) (text_E i _ ∙ ap (names_E i) (text_E e w))
  text_P empty w = refl
  text_P (braces ps) w = text_L ps _
  text_P (conditional e p q) w = text_E e _ ∙ ap (names_E e) (text_P p _ ∙ ap (names_P p) (text_P q w))
  text_P (while e p) w = text_E e _ ∙ ap (names_E e) (text_P p w)
  text_P (after_comment p) w = text_P p w

  text_L : (ps : Processes) (w : List Token) → names_of (text_processes ps w) ≡ names_L ps (names_of w)
  text_L (only p) w = text_P p w
  text_L (followed p ps) w = text_P p _ ∙ ap (names_P p) (text_L ps w)

text_K : (c : Constant) (w : List Token) → names_of (text_constant c w) ≡ names_K c (names_of w)
text_K (literal v) w = refl
text_K (named n) w = refl

text_S : (d : Specification) (w : List Token) → names_of (text_specification d w) ≡ names_S d (names_of w)
text_S (grammar.var n) w = refl
text_S (grammar.array n c) w = ap (λ (l : List ℕ). n ∷ l) (text_K c _)
text_S (val n c) w = ap (λ (l : List ℕ). n ∷ l) (text_K c w)
text_S (commented d) w = text_S d w

text_Ss : (ds : List Specification) (w : List Token) → names_of (text_specifications ds w) ≡ names_Ss ds (names_of w)
text_Ss [] w = refl
text_Ss (d ∷ ds) w = text_S d _ ∙ ap (names_S d) (text_Ss ds w)

-- ── numbers in order at one place ──

abbrev Rising : List ℕ → Type 0
Rising [] = Unit {0}
Rising (k ∷ []) = Unit {0}
Rising (k ∷ j ∷ ks) = (k ≤ j) × Rising (j ∷ ks)

rising_two : (a b : Bool) (i j : ℕ) → i ≤ j → Rising (when a i ++ when b j)
rising_two true true i j h = (h, tt)
rising_two true false i j h = tt
rising_two false true i j h = tt
rising_two false false i j h = tt

rising_array : (a b c : Bool) → Rising (when a refusal.declared_twice ++ (when b refusal.bad_length ++ when c refusal.too_much))
rising_array true true true = (omega arith, (omega arith, tt))
rising_array true true false = (omega arith, tt)
rising_array true false true = (omega arith, tt)
rising_array true false false = tt
rising_array false true true = (omega arith, tt)
rising_array false true false = tt
rising_array false false true = tt
rising_array false false false = tt

-- ── complaints in order ──
module _ (text : ℕ → List ℕ) (place : ℕ → ℕ) where
  -- a name before all others of a list; a list of names in the order of their places
  abbrev pub Ahead : ℕ → List ℕ → Type 0
  Ahead n [] = Unit {0}
  Ahead n (m ∷ ms) = (place n < place m) × Ahead n ms

  abbrev pub Ascending : List ℕ → Type 0
  Ascending [] = Unit {0}
  Ascending (n ∷ ns) = Ahead n ns × Ascending ns

  -- every complaint stands at a place that is not before a bound
  abbrev NotBefore : ℕ → List Complaint → Type 0
  NotBefore b [] = Unit {0}
  NotBefore b (c ∷ cs) = (b ≤ c.place) × NotBefore b cs

  -- every name of a list stands there or later
  abbrev Past : ℕ → List ℕ → Type 0
  Past b [] = Unit {0}
  Past b (n ∷ ns) = (b ≤ place n) × Past b ns

  -- complaints that the names of a list deserve: they are in order, and none stands before a bound that all these names keep
  record InOrder (ns : List ℕ) (cs : List Complaint) : Type 0 where
    ordered : Ordered cs
    bounded : (b : ℕ) → Past b ns → NotBefore b cs

  past_ahead : (n : ℕ) (ns : List ℕ) → Ahead n ns → Past (suc (place n)) ns
  past_ahead n [] h = tt
  past_ahead n (m ∷ ms) h = (h.0, past_ahead n ms h.1)

  before_all : (a : Complaint) (cs : List Complaint) → NotBefore (suc a.place) cs → BeforeAll a cs
  before_all a [] h = tt
  before_all a (c ∷ cs) h = (record { place = omega (arith, h.0); number = λ e. absurd (omega (arith, h.0)) }, before_all a cs h.1)

  bound_at : (b n : ℕ) (ks : List ℕ) (cs : List Complaint) → b ≤ place n → NotBefore b cs → NotBefore b (at text place n ks ++ cs)
  bound_at b n [] cs l h = h
  bound_at b n (k ∷ ks) cs l h = (l, bound_at b n ks cs l h)

  -- the complaints at one name, before later ones
  before_at : (n k : ℕ) (ks : List ℕ) (cs : List Complaint) → Rising (k ∷ ks) → NotBefore (suc (place n)) cs → BeforeAll (record { number = k; place = place n }) (at text place n ks ++ cs)
  before_at n k [] cs r h = before_all (record { number = k; place = place n }) cs h
  before_at n k (j ∷ ks) cs r h = (record { place = omega arith; number = λ e. r.0 }, before_at n k ks cs (skip_one k j ks r) h)
    where
      skip_one : (k j : ℕ) (ks : List ℕ) → Rising (k ∷ j ∷ ks) → Rising (k ∷ ks)
      skip_one k j [] r = tt
      skip_one k j (i ∷ ks) r = (omega (arith, r.0, r.1.0), r.1.1)

  ordered_at : (n : ℕ) (ks : List ℕ) (cs : List Complaint) → Rising ks → NotBefore (suc (place n)) cs → Ordered cs → Ordered (at text place n ks ++ cs)
  ordered_at n [] cs r h o = o
  ordered_at n (k ∷ []) cs r h o = (before_at n k [] cs r h, o)
  ordered_at n (k ∷ j ∷ ks) cs r h o = (before_at n k (j ∷ ks) cs r h, ordered_at n (j ∷ ks) cs r.1 h o)

  at_name : (n : ℕ) (ks ns : List ℕ) (cs : List Complaint) → Rising ks → Ahead n ns → InOrder ns cs → InOrder (n ∷ ns) (at text place n ks ++ cs)
  at_name n ks ns cs r a h = record {
    ordered = ordered_at n ks cs r (h.bounded (suc (place n)) (past_ahead n ns a)) h.ordered;
    bounded = λ b p. bound_at b n ks cs p.0 (h.bounded b p.1);
  }

  rising_value : (m : Meaning) → Rising (as_value m)
  rising_value unknown = tt
  rising_value (variable v) = tt
  rising_value (array a) = tt
  rising_value (constant w) = tt

  rising_target : (m : Meaning) → Rising (as_target m)
  rising_target unknown = tt
  rising_target (variable v) = tt
  rising_target (array a) = tt
  rising_target (constant w) = tt

  rising_element : (m : Meaning) → Rising (as_array m)
  rising_element unknown = tt
  rising_element (variable v) = tt
  rising_element (array a) = tt
  rising_element (constant w) = tt

  rising_constant : (m : Meaning) → Rising (as_constant m)
  rising_constant unknown = tt
  rising_constant (variable v) = tt
  rising_constant (array a) = tt
  rising_constant (constant w) = tt

  mutual
    asc_E : (e : Expression) (w : List ℕ) → Ascending (names_E e w) → Ascending w
    asc_E (single a) w h = asc_O a w h
    asc_E (monadic o a) w h = asc_O a w h
    asc_E (diadic o a c) w h = asc_C c w (asc_O a _ h)

    asc_C : (c : Chain) (w : List ℕ) → Ascending (names_C c w) → Ascending w
    asc_C (last a) w h = asc_O a w h
    asc_C (more a c) w h = asc_C c w (asc_O a _ h)

    asc_O : (a : Operand) (w : List ℕ) → Ascending (names_O a w) → Ascending w
    asc_O (grammar.constant v) w h = h
    asc_O (grammar.variable n) w h = h.1
    asc_O (element n e) w h = asc_E e w h.1
    asc_O (bracketed e) w h = asc_E e w h

  mutual
    asc_P : (p : Process) (w : List ℕ) → Ascending (names_P p w) → Ascending w
    asc_P skip w h = h
    asc_P stop w h = h
    asc_P (assign n e) w h = asc_E e w h.1
    asc_P (assign_element n i e) w h = asc_E e w (asc_E i _ h.1)
    asc_P empty w h = h
    asc_P (braces ps) w h = asc_L ps w h
    asc_P (conditional e p q) w h = asc_P q w (asc_P p _ (asc_E e _ h))
    asc_P (while e p) w h = asc_P p w (asc_E e _ h)
    asc_P (after_comment p) w h = asc_P p w h

    asc_L : (ps : Processes) (w : List ℕ) → Ascending (names_L ps w) → Ascending w
    asc_L (only p) w h = asc_P p w h
    asc_L (followed p ps) w h = asc_L ps w (asc_P p _ h)

  asc_K : (c : Constant) (w : List ℕ) → Ascending (names_K c w) → Ascending w
  asc_K (literal v) w h = h
  asc_K (named n) w h = h.1

  asc_S : (d : Specification) (w : List ℕ) → Ascending (names_S d w) → Ascending w
  asc_S (grammar.var n) w h = h.1
  asc_S (grammar.array n c) w h = asc_K c w h.1
  asc_S (val n c) w h = asc_K c w h.1
  asc_S (commented d) w h = asc_S d w h

  module _ (s : Scope) where
    mutual
      order_E : (e : Expression) (w : List ℕ) (cs : List Complaint) → Ascending (names_E e w) → InOrder w cs → InOrder (names_E e w) (of_expression text place e s ++ cs)
      order_E (single a) w cs h o = order_O a w cs h o
      order_E (monadic o a) w cs h q = order_O a w cs h q
      order_E (diadic o a c) w cs h q = rw (append_assoc (of_operand text place a s) (of_chain text place c s) cs) (order_O a _ _ h (order_C c w cs (asc_O a _ h) q))

      order_C : (c : Chain) (w : List ℕ) (cs : List Complaint) → Ascending (names_C c w) → InOrder w cs → InOrder (names_C c w) (of_chain text place c s ++ cs)
      order_C (last a) w cs h o = order_O a w cs h o
      order_C (more a c) w cs h q = rw (append_assoc (of_operand text place a s) (of_chain text place c s) cs) (order_O a _ _ h (order_C c w cs (asc_O a _ h) q))

      order_O : (a : Operand) (w : List ℕ) (cs : List Complaint) → Ascending (names_O a w) → InOrder w cs → InOrder (names_O a w) (of_operand text place a s ++ cs)
      order_O (grammar.constant v) w cs h o = o
      order_O (grammar.variable n) w cs h o = at_name n (as_value (meaning_of text s n)) w cs (rising_value (meaning_of text s n)) h.0 o
      order_O (element n e) w cs h o =
          rw (append_assoc (at text place n (as_array (meaning_of text s n))) (of_expression text place e s) cs)
          (at_name n (as_array (meaning_of text s n)) (names_E e w) _ (rising_element (meaning_of text s n)) h.0 (order_E e w cs h.1 o))
      order_O (bracketed e) w cs h o = order_E e w cs h o

    mutual
      order_P : (p : Process) (w : List ℕ) (cs : List Complaint) → Ascending (names_P p w) → InOrder w cs → InOrder (names_P p w) (of_process text place p s ++ cs)
      order_P skip w cs h o = o
      order_P stop w cs h o = o
      order_P (assign n e) w cs h o =
          rw (append_assoc (at text place n (as_target (meaning_of text s n))) (of_expression text place e s) cs)
          (at_name n (as_target (meaning_of text s n)) (names_E e w) _ (rising_target (meaning_of text s n)) h.0 (order_E e w cs h.1 o))
      order_P (assign_element n i e) w cs h o =
          rw (
            append_assoc (at text place n (as_array (meaning_of text s n))) (of_expression text place i s ++ of_expression text place e s) cs,
            append_assoc (of_expression text place i s) (of_expression text place e s) cs,
          )
          (at_name n (as_array (meaning_of text s n)) _ _ (rising_element (meaning_of text s n)) h.0 (order_E i _ _ h.1 (order_E e w cs (asc_E i _ h.1) o)))
      order_P empty w cs h o = o
      order_P (braces ps) w cs h o = order_L ps w cs h o
      order_P (conditional e p q) w cs h o =
          rw (append_assoc (of_expression text place e s) (of_process text place p s ++ of_process text place q s) cs, append_assoc (of_process text place p s) (of_process text place q s) cs)
          (order_E e _ _ h (order_P p _ _ (asc_E e _ h) (order_P q w cs (asc_P p _ (asc_E e _ h)) o)))
      order_P (while e p) w cs h o = rw (append_assoc (of_expression text place e s) (of_process text place p s) cs) (order_E e _ _ h (order_P p w cs (asc_E e _ h) o))
      order_P (after_comment p) w cs h o = order_P p w cs h o

      order_L : (ps : Processes) (w : List ℕ) (cs : List Complaint) → Ascending (names_L ps w) → InOrder w cs → InOrder (names_L ps w) (of_processes text place ps s ++ cs)
      order_L (only p) w cs h o = order_P p w cs h o
      order_L (followed p ps) w cs h o = rw (append_assoc (of_process text place p s) (of_processes text place ps s) cs) (order_P p _ _ h (order_L ps w cs (asc_P p _ h) o))

    order_K : (c : Constant) (w : List ℕ) (cs : List Complaint) → Ascending (names_K c w) → InOrder w cs → InOrder (names_K c w) (of_constant text place s c ++ cs)
    order_K (literal v) w cs h o = o
    order_K (named n) w cs h o = at_name n (as_constant (meaning_of text s n)) w cs (rising_constant (meaning_of text s n)) h.0 o

    rising_of_array : (n : ℕ) (c : Constant) → Rising (of_array text place s n c)
    rising_of_array n c = by (has_word text place s c)
      where
        by : (b : Bool)
            → Rising (twice text place s n ++ pick b (when (bad_length (constant_word text s c)) refusal.bad_length ++ when (too_many s (constant_word text s c)) refusal.too_much)
            (when (too_many s 0) refusal.too_much))
        by true = rising_array (is_known (meaning_of text s n)) (bad_length (constant_word text s c)) (too_many s (constant_word text s c))
        by false = rising_two (is_known (meaning_of text s n)) (too_many s 0) refusal.declared_twice refusal.too_much (omega arith)

  order_S : (d : Specification) (s : Scope) (w : List ℕ) (cs : List Complaint) → Ascending (names_S d w) → InOrder w cs → InOrder (names_S d w) (of_specification text place d s ++ cs)
  order_S (grammar.var n) s w cs h o = at_name n (twice text place s n ++ when (too_many s 1) refusal.too_much) w cs
      (rising_two (is_known (meaning_of text s n)) (too_many s 1) refusal.declared_twice refusal.too_much (omega arith)) h.0 o
  order_S (grammar.array n c) s w cs h o =
      rw (append_assoc (at text place n (of_array text place s n c)) (of_constant text place s c) cs)
      (at_name n (of_array text place s n c) _ _ (rising_of_array s n c) h.0 (order_K s c w cs h.1 o))
  order_S (val n c) s w cs h o =
      rw (append_assoc (at text place n (twice text place s n ++ when (too_many s 0) refusal.too_much)) (of_constant text place s c) cs)
      (at_name n (twice text place s n ++ when (too_many s 0) refusal.too_much) _ _
      (rising_two (is_known (meaning_of text s n)) (too_many s 0) refusal.declared_twice refusal.too_much (omega arith)) h.0 (order_K s c w cs h.1 o))
  order_S (commented d) s w cs h o = order_S d s w cs h o

  order_Ss : (ds : List Specification) (s : Scope) (w : List ℕ) (cs : List Complaint) → Ascending (names_Ss ds w) → InOrder w cs → InOrder (names_Ss ds w) (of_specifications text place ds s ++ cs)
  order_Ss [] s w cs h o = o
  order_Ss (d ∷ ds) s w cs h o =
      rw (append_assoc (of_specification text place d s) (of_specifications text place ds (declare text d s)) cs)
      (order_S d s _ _ h (order_Ss ds (declare text d s) w cs (asc_S d _ h) o))

  asc_Ss : (ds : List Specification) (w : List ℕ) → Ascending (names_Ss ds w) → Ascending w
  asc_Ss [] w h = h
  asc_Ss (d ∷ ds) w h = asc_Ss ds w (asc_S d _ h)

  -- THE THEOREM: where the names of the text stand in the order of their places, the least complaint is the first
  pub least_is_first : (p : Program) → Ascending (names_of (text_program p)) → least (complaints text place p) ≡ first (complaints text place p)
  least_is_first (program ds p) h =
      let s = declare_all text ds empty_scope in
      let k : Ascending (names_Ss ds (names_P p [])) = rw (text_Ss ds (text_process p []), text_P p []) at h in
      let none : InOrder [] [] = record { ordered = tt; bounded = λ b q. tt } in
      let o = order_P s p [] [] (asc_Ss ds _ k) none in
      let q = order_Ss ds empty_scope (names_P p []) (of_process text place p s ++ []) k o in
      least_first (complaints text place (program ds p)) (rw (append-nil (of_process text place p s)) at q.ordered)
