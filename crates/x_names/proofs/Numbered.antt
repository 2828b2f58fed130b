-- Every complaint has a number from 8 to 12 and stands where its name does. Laws; assume nothing.
use Rattle.std.specs.Prelude.{Bool, true, false, ℕ, ◌≤◌}
use mathlib.Core.List.{List, [], ◌∷◌, ◌++◌}
use Rattle.std.proofs.Common.{arith}
use Rattle.arm_word.specs.Choice.{pick}
use Rattle.x_tokens.specs.Refusals as refusal
use Rattle.x_grammar.specs.Grammar.{Constant, literal, named, Specification, var, val, commented, Expression, single, monadic, diadic, Chain, last, more, Operand, element, bracketed, Process, skip}
use Rattle.x_grammar.specs.Grammar.{stop, assign, assign_element, empty, braces, conditional, while, after_comment, Processes, only, followed, Program, program}
use Rattle.x_grammar.specs.Grammar as grammar
use Rattle.x_names.specs.Scope.{Meaning, unknown, variable, array, constant, Scope, empty_scope, meaning_of, constant_word, declare, declare_all}
use Rattle.x_names.specs.Complaints.{Complaint, as_value, as_target, as_array, as_constant, is_known, when, bad_length, too_many, at, of_constant, has_word, twice, of_array, of_specification}
use Rattle.x_names.specs.Complaints.{of_specifications, of_expression, of_chain, of_operand, of_process, of_processes, complaints, earlier, Verdict, fine, refused, lesser, least}
use Rattle.x_names.specs.Numbered.{Within, Judged}

-- ── numbers ──
abbrev Numbered : List ℕ → Type 0
Numbered [] = Unit {0}
Numbered (k ∷ ks) = (refusal.not_declared ≤ k) × (k ≤ refusal.too_much) × Numbered ks

numbered_append : (a b : List ℕ) → Numbered a → Numbered b → Numbered (a ++ b)
numbered_append [] b p q = q
numbered_append (k ∷ a) b p q = (p.0, p.1, numbered_append a b p.2 q)

numbered_when : (b : Bool) (k : ℕ) → refusal.not_declared ≤ k → k ≤ refusal.too_much → Numbered (when b k)
numbered_when true k l h = (l, h, tt)
numbered_when false k l h = tt

numbered_pick : (b : Bool) (x y : List ℕ) → Numbered x → Numbered y → Numbered (pick b x y)
numbered_pick true x y p q = p
numbered_pick false x y p q = q

eight : Numbered (refusal.not_declared ∷ [])
eight = (omega arith, omega arith, tt)

ten : Numbered (refusal.wrong_kind ∷ [])
ten = (omega arith, omega arith, tt)

value_numbered : (m : Meaning) → Numbered (as_value m)
value_numbered unknown = eight
value_numbered (variable v) = tt
value_numbered (array a) = ten
value_numbered (constant w) = tt

target_numbered : (m : Meaning) → Numbered (as_target m)
target_numbered unknown = eight
target_numbered (variable v) = tt
target_numbered (array a) = ten
target_numbered (constant w) = ten

array_numbered : (m : Meaning) → Numbered (as_array m)
array_numbered unknown = eight
array_numbered (variable v) = ten
array_numbered (array a) = tt
array_numbered (constant w) = ten

constant_numbered : (m : Meaning) → Numbered (as_constant m)
constant_numbered unknown = eight
constant_numbered (variable v) = ten
constant_numbered (array a) = ten
constant_numbered (constant w) = tt

module _ (text : ℕ → List ℕ) (place : ℕ → ℕ) (end : ℕ) (places : (n : ℕ) → place n ≤ end) where
  abbrev All : List Complaint → Type 0
  All [] = Unit {0}
  All (c ∷ cs) = Within end c × All cs

  join : (a b : List Complaint) → All a → All b → All (a ++ b)
  join [] b p q = q
  join (c ∷ a) b p q = (p.0, join a b p.1 q)

  at_all : (n : ℕ) (ks : List ℕ) → Numbered ks → All (at text place n ks)
  at_all n [] h = tt
  at_all n (k ∷ ks) h = (record { low = h.0; high = h.1; inside = places n }, at_all n ks h.2)

  use_all : (f : Meaning → List ℕ) → ((m : Meaning) → Numbered (f m)) → (n : ℕ) (s : Scope) → All (at text place n (f (meaning_of text s n)))
  use_all f h n s = at_all n (f (meaning_of text s n)) (h (meaning_of text s n))

  constant_all : (s : Scope) (c : Constant) → All (of_constant text place s c)
  constant_all s (literal w) = tt
  constant_all s (named n) = use_all as_constant constant_numbered n s

  twice_numbered : (s : Scope) (n : ℕ) → Numbered (twice text place s n)
  twice_numbered s n = numbered_when (is_known (meaning_of text s n)) refusal.declared_twice (omega arith) (omega arith)

  full_numbered : (s : Scope) (n w : ℕ) → Numbered (twice text place s n ++ when (too_many s w) refusal.too_much)
  full_numbered s n w = numbered_append (twice text place s n) _ (twice_numbered s n) (numbered_when (too_many s w) refusal.too_much (omega arith) (omega arith))

  of_array_numbered : (s : Scope) (n : ℕ) (c : Constant) → Numbered (of_array text place s n c)
  of_array_numbered s n c =
      numbered_append (twice text place s n) _ (twice_numbered s n)
      (numbered_pick (has_word text place s c) _ _
      (numbered_append (when (bad_length (constant_word text s c)) refusal.bad_length) _
      (numbered_when (bad_length (constant_word text s c)) refusal.bad_length (omega arith) (omega arith))
      (numbered_when (too_many s (constant_word text s c)) refusal.too_much (omega arith) (omega arith)))
      (numbered_when (too_many s 0) refusal.too_much (omega arith) (omega arith)))

  specification_all : (d : Specification) (s : Scope) → All (of_specification text place d s)
  specification_all (var n) s = at_all n (twice text place s n ++ when (too_many s 1) refusal.too_much) (full_numbered s n 1)
  specification_all (grammar.array n c) s = join (at text place n (of_array text place s n c)) _ (at_all n (of_array text place s n c) (of_array_numbered s n c)) (constant_all s c)
  specification_all (val n c) s = join (at text place n (twice text place s n ++ when (too_many s 0) refusal.too_much)) _
      (at_all n (twice text place s n ++ when (too_many s 0) refusal.too_much) (full_numbered s n 0)) (constant_all s c)
  specification_all (commented d) s = specification_all d s

  specifications_all : (ds : List Specification) (s : Scope) → All (of_specifications text place ds s)
  specifications_all [] s = tt
  specifications_all (d ∷ ds) s = join (of_specification text place d s) _ (specification_all d s) (specifications_all ds (declare text d s))

  mutual
    expression_all : (e : Expression) (s : Scope) → All (of_expression text place e s)
    expression_all (single a) s = operand_all a s
    expression_all (monadic o a) s = operand_all a s
    expression_all (diadic o a c) s = join (of_operand text place a s) _ (operand_all a s) (chain_all c s)

    chain_all : (c : Chain) (s : Scope) → All (of_chain text place c s)
    chain_all (last a) s = operand_all a s
    chain_all (more a c) s = join (of_operand text place a s) _ (operand_all a s) (chain_all c s)

    operand_all : (a : Operand) (s : Scope) → All (of_operand text place a s)
    operand_all (grammar.constant w) s = tt
    operand_all (grammar.variable n) s = use_all as_value value_numbered n s
    operand_all (element n e) s = join (at text place n (as_array (meaning_of text s n))) _ (use_all as_array array_numbered n s) (expression_all e s)
    operand_all (bracketed e) s = expression_all e s

  mutual
    process_all : (p : Process) (s : Scope) → All (of_process text place p s)
    process_all skip s = tt
    process_all stop s = tt
    process_all (assign n e) s = join (at text place n (as_target (meaning_of text s n))) _ (use_all as_target target_numbered n s) (expression_all e s)
    process_all (assign_element n i e) s =
        join (at text place n (as_array (meaning_of text s n))) _ (use_all as_array array_numbered n s) (join (of_expression text place i s) _ (expression_all i s) (expression_all e s))
    process_all empty s = tt
    process_all (braces ps) s = processes_all ps s
    process_all (conditional e p q) s = join (of_expression text place e s) _ (expression_all e s) (join (of_process text place p s) _ (process_all p s) (process_all q s))
    process_all (while e p) s = join (of_expression text place e s) _ (expression_all e s) (process_all p s)
    process_all (after_comment p) s = process_all p s

    processes_all : (ps : Processes) (s : Scope) → All (of_processes text place ps s)
    processes_all (only p) s = process_all p s
    processes_all (followed p ps) s = join (of_process text place p s) _ (process_all p s) (processes_all ps s)

  -- ── the least of them ──
  either_one : (b : Bool) (a c : Complaint) → Within end a → Within end c → Judged end (pick b (refused a) (refused c))
  either_one true a c p q = p
  either_one false a c p q = q

  lesser_judged : (a : Complaint) (v : Verdict) → Within end a → Judged end v → Judged end (lesser a v)
  lesser_judged a fine p q = p
  lesser_judged a (refused c) p q = either_one (earlier a c) a c p q

  least_judged : (cs : List Complaint) → All cs → Judged end (least cs)
  unfolding least
  least_judged [] h = tt
  least_judged (c ∷ cs) h = lesser_judged c (least cs) h.0 (least_judged cs h.1)

  pub judged_within : (p : Program) → Judged end (least (complaints text place p))
  judged_within (program ds p) = least_judged _ (join (of_specifications text place ds empty_scope) _ (specifications_all ds empty_scope) (process_all p (declare_all text ds empty_scope)))
