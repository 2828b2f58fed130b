-- The refusals 8 to 12: all complaints that a program deserves, and the least of them. Definitions; rests on the scope.
-- `text t` is the bytes of token t, `place t` its first byte in the source.
use Rattle.std.specs.Prelude.{Bool, true, false, List, [], ◌∷◌, ◌++◌, ℕ, ◌+◌, eqb, ltb, leb}
use Rattle.arm_word.specs.Choice.{pick}
use Rattle.x_tokens.specs.Refusals as refusal
use Rattle.x_grammar.specs.Grammar.{Constant, literal, named, Specification, var, val, commented, Expression, single, monadic, diadic, Chain, last, more, Operand, element, bracketed, Process, skip}
use Rattle.x_grammar.specs.Grammar.{stop, assign, assign_element, empty, braces, conditional, while, after_comment, Processes, only, followed, Program, program}
use Rattle.x_grammar.specs.Grammar as grammar
use Rattle.x_names.specs.Scope.{Meaning, unknown, variable, array, constant, Scope, empty_scope, meaning_of, constant_word, declare, declare_all}

-- a refusal's number and place
pub record Complaint : Type 0 where
  pub number : ℕ
  pub place : ℕ

-- what a name stands for, by sort: which of the refusals 8 and 10 a use of it deserves, if any
-- "8 name not declared before"; "10 wrong kind: array without subscript, val assigned, subscript on a var or val, non-val in a constant"
abbrev pub as_value : Meaning → List ℕ
as_value unknown = refusal.not_declared ∷ []
as_value (variable v) = []
as_value (array a) = refusal.wrong_kind ∷ []
as_value (constant w) = []

abbrev pub as_target : Meaning → List ℕ
as_target unknown = refusal.not_declared ∷ []
as_target (variable v) = []
as_target (array a) = refusal.wrong_kind ∷ []
as_target (constant w) = refusal.wrong_kind ∷ []

abbrev pub as_array : Meaning → List ℕ
as_array unknown = refusal.not_declared ∷ []
as_array (variable v) = refusal.wrong_kind ∷ []
as_array (array a) = []
as_array (constant w) = refusal.wrong_kind ∷ []

abbrev pub as_constant : Meaning → List ℕ
as_constant unknown = refusal.not_declared ∷ []
as_constant (variable v) = refusal.wrong_kind ∷ []
as_constant (array a) = refusal.wrong_kind ∷ []
as_constant (constant w) = []

abbrev pub is_known : Meaning → Bool
is_known unknown = false
is_known (variable v) = true
is_known (array a) = true
is_known (constant w) = true

abbrev pub when : Bool → ℕ → List ℕ
when b n = pick b (n ∷ []) []

-- "11 array length, read unsigned, not 1 to 8,192"
abbrev pub bad_length : ℕ → Bool
bad_length n = pick (ltb 0 n) (ltb 8192 n) true

-- "12 more than 256 names, or data above 8,192 words: the name that passes it"
abbrev pub too_many : Scope → ℕ → Bool
too_many s words = pick (ltb 255 s.names) true (ltb 8192 (s.words + words))

module _ (text : ℕ → List ℕ) (place : ℕ → ℕ) where
  abbrev pub at : ℕ → List ℕ → List Complaint
  at n [] = []
  at n (k ∷ ks) = record { number = k; place = place n } ∷ at n ks

  -- a constant deserves nothing, or its name does
  abbrev pub of_constant : Scope → Constant → List Complaint
  of_constant s (literal w) = []
  of_constant s (named n) = at n (as_constant (meaning_of text s n))

  -- whether the constant's word is known
  abbrev pub has_word : Scope → Constant → Bool
  has_word s (literal w) = true
  has_word s (named n) = is_constant (meaning_of text s n)
    where
      is_constant : Meaning → Bool
      is_constant unknown = false
      is_constant (variable v) = false
      is_constant (array a) = false
      is_constant (constant w) = true

  -- "9 name declared twice: the second"
  abbrev pub twice : Scope → ℕ → List ℕ
  twice s n = when (is_known (meaning_of text s n)) refusal.declared_twice

  -- what an array's name deserves: 11, and 12 by its words, where its length is known
  abbrev pub of_array : Scope → ℕ → Constant → List ℕ
  of_array s n c =
      twice s n
      ++ pick (has_word s c) (when (bad_length (constant_word text s c)) refusal.bad_length ++ when (too_many s (constant_word text s c)) refusal.too_much) (when (too_many s 0) refusal.too_much)

  abbrev pub of_specification : Specification → Scope → List Complaint
  of_specification (var n) s = at n (twice s n ++ when (too_many s 1) refusal.too_much)
  of_specification (grammar.array n c) s = at n (of_array s n c) ++ of_constant s c
  of_specification (val n c) s = at n (twice s n ++ when (too_many s 0) refusal.too_much) ++ of_constant s c
  of_specification (commented d) s = of_specification d s

  abbrev pub of_specifications : List Specification → Scope → List Complaint
  of_specifications [] s = []
  of_specifications (d ∷ ds) s = of_specification d s ++ of_specifications ds (declare text d s)

  abbrev mutual
    pub of_expression : Expression → Scope → List Complaint
    of_expression (single a) s = of_operand a s
    of_expression (monadic o a) s = of_operand a s
    of_expression (diadic o a c) s = of_operand a s ++ of_chain c s

    pub of_chain : Chain → Scope → List Complaint
    of_chain (last a) s = of_operand a s
    of_chain (more a c) s = of_operand a s ++ of_chain c s

    pub of_operand : Operand → Scope → List Complaint
    of_operand (grammar.constant w) s = []
    of_operand (grammar.variable n) s = at n (as_value (meaning_of text s n))
    of_operand (element n e) s = at n (as_array (meaning_of text s n)) ++ of_expression e s
    of_operand (bracketed e) s = of_expression e s

  abbrev mutual
    pub of_process : Process → Scope → List Complaint
    of_process skip s = []
    of_process stop s = []
    of_process (assign n e) s = at n (as_target (meaning_of text s n)) ++ of_expression e s
    of_process (assign_element n i e) s = at n (as_array (meaning_of text s n)) ++ (of_expression i s ++ of_expression e s)
    of_process empty s = []
    of_process (braces ps) s = of_processes ps s
    of_process (conditional e p q) s = of_expression e s ++ (of_process p s ++ of_process q s)
    of_process (while e p) s = of_expression e s ++ of_process p s
    of_process (after_comment p) s = of_process p s

    pub of_processes : Processes → Scope → List Complaint
    of_processes (only p) s = of_process p s
    of_processes (followed p ps) s = of_process p s ++ of_processes ps s

  -- all complaints that a program deserves
  abbrev pub complaints : Program → List Complaint
  complaints (program ds p) = of_specifications ds empty_scope ++ of_process p (declare_all text ds empty_scope)

-- ── the least: "8 to 12 by place, smaller number first" ──

abbrev pub earlier : Complaint → Complaint → Bool
earlier a b = pick (ltb a.place b.place) true (pick (eqb a.place b.place) (leb a.number b.number) false)

-- none, or one
pub data Verdict : Type 0 where
  fine : Verdict
  refused : Complaint → Verdict

abbrev pub lesser : Complaint → Verdict → Verdict
lesser a fine = refused a
lesser a (refused b) = pick (earlier a b) (refused a) (refused b)

unfoldable pub least : List Complaint → Verdict
least [] = fine
least (c ∷ cs) = lesser c (least cs)
