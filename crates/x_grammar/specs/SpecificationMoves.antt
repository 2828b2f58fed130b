-- The automaton's moves through the specifications, as equations on `run`, and the end of the reading. Laws; rests on the automaton.
use Rattle.std.proofs.Math.Path.{◌≡◌, refl}
use Rattle.std.proofs.Common.{◌∙◌, arith}
use Rattle.std.specs.Prelude.{Bool, true, false, ℕ, zero, suc}
use mathlib.Core.List.{List, [], ◌∷◌}
use Rattle.x_spelling.specs.Kinds as kind
use Rattle.x_grammar.specs.Grammar.{Token, number, name, mark, Process, after_comment, Constant, Specification, var, array, program}
use Rattle.x_grammar.specs.Automaton.{ProcessContext, top, comments_before, in_comments, in_order, var_read, array_read, array_named, array_opened, array_sized, val_read, val_named}
use Rattle.x_grammar.specs.Automaton.{val_equated, whole, State, at_front, specifying, need_process, have_process, is, accepted, refused, run}
use Rattle.x_grammar.specs.AutomatonMoves.{head_is, run_commented}

module _ (b : List Specification) (n : ℕ) where
  pub run_front_comment : (w : List Token) → run (mark kind.comment ∷ w) (at_front b n) ≡ run w (at_front b (suc n))
  unfolding run
  run_front_comment w = refl

  pub run_var : (w : List Token) → run (mark kind.var ∷ w) (at_front b n) ≡ run w (specifying b n var_read)
  unfolding run
  run_var w = refl

  pub run_array : (w : List Token) → run (mark kind.array ∷ w) (at_front b n) ≡ run w (specifying b n array_read)
  unfolding run
  run_array w = refl

  pub run_val : (w : List Token) → run (mark kind.val ∷ w) (at_front b n) ≡ run w (specifying b n val_read)
  unfolding run
  run_val w = refl

  -- no specification: the process
  pub run_front : (w : List Token) → head_is (is kind.comment) w ≡ false → head_is (is kind.var) w ≡ false → head_is (is kind.array) w ≡ false → head_is (is kind.val) w ≡ false
      → run w (at_front b n) ≡ run w (need_process (in_comments n (top b)))
  unfolding run
  run_front [] e f g h = refl
  run_front (t ∷ w) e f g h = rw (e, f, g, h)

  pub run_var_name : (w : List Token) (x : ℕ) → run (name x ∷ w) (specifying b n var_read) ≡ run w (specifying b n (whole (var x)))
  unfolding run
  run_var_name w x = refl

  pub run_array_name : (w : List Token) (x : ℕ) → run (name x ∷ w) (specifying b n array_read) ≡ run w (specifying b n (array_named x))
  unfolding run
  run_array_name w x = refl

  pub run_val_name : (w : List Token) (x : ℕ) → run (name x ∷ w) (specifying b n val_read) ≡ run w (specifying b n (val_named x))
  unfolding run
  run_val_name w x = refl

  pub run_array_open : (w : List Token) (x : ℕ) → run (mark kind.open_subscript ∷ w) (specifying b n (array_named x)) ≡ run w (specifying b n (array_opened x))
  unfolding run
  run_array_open w x = refl

  pub run_array_close : (w : List Token) (x : ℕ) (c : Constant) → run (mark kind.close_subscript ∷ w) (specifying b n (array_sized x c)) ≡ run w (specifying b n (whole (array x c)))
  unfolding run
  run_array_close w x c = refl

  pub run_val_equal : (w : List Token) (x : ℕ) → run (mark kind.equal ∷ w) (specifying b n (val_named x)) ≡ run w (specifying b n (val_equated x))
  unfolding run
  run_val_equal w x = refl

  pub run_specified : (w : List Token) (s : Specification) → run (mark kind.semicolon ∷ w) (specifying b n (whole s)) ≡ run w (at_front (comments_before n s ∷ b) 0)
  unfolding run
  run_specified w s = refl

-- where the run stops inside a specification
abbrev pub is_name : Token → Bool
is_name (number v) = false
is_name (name n) = true
is_name (mark m) = false

abbrev pub is_constant : Token → Bool
is_constant (number v) = true
is_constant (name n) = true
is_constant (mark m) = false

-- a state that goes on with a name, or with a constant, only
abbrev pub Names : State → Type 0
Names s = (w : List Token) → head_is is_name w ≡ false → run w s ≡ refused w

abbrev pub Constants : State → Type 0
Constants s = (w : List Token) → head_is is_constant w ≡ false → run w s ≡ refused w

-- or with a mark of kind k only
abbrev pub Marks : ℕ → State → Type 0
Marks k s = (w : List Token) → head_is (is k) w ≡ false → run w s ≡ refused w

module _ (b : List Specification) (n : ℕ) where
  pub var_stop : Names (specifying b n var_read)
  unfolding run
  var_stop [] h = refl
  var_stop (number v ∷ w) h = refl
  var_stop (name x ∷ w) h = absurd (let z : ◌≡◌ {A = ℕ} 0 1 = cc in omega arith)
  var_stop (mark m ∷ w) h = refl

  pub array_stop : Names (specifying b n array_read)
  unfolding run
  array_stop [] h = refl
  array_stop (number v ∷ w) h = refl
  array_stop (name x ∷ w) h = absurd (let z : ◌≡◌ {A = ℕ} 0 1 = cc in omega arith)
  array_stop (mark m ∷ w) h = refl

  pub val_stop : Names (specifying b n val_read)
  unfolding run
  val_stop [] h = refl
  val_stop (number v ∷ w) h = refl
  val_stop (name x ∷ w) h = absurd (let z : ◌≡◌ {A = ℕ} 0 1 = cc in omega arith)
  val_stop (mark m ∷ w) h = refl

  pub array_constant_stop : (x : ℕ) → Constants (specifying b n (array_opened x))
  unfolding run
  array_constant_stop x [] h = refl
  array_constant_stop x (number v ∷ w) h = absurd (let z : ◌≡◌ {A = ℕ} 0 1 = cc in omega arith)
  array_constant_stop x (name y ∷ w) h = absurd (let z : ◌≡◌ {A = ℕ} 0 1 = cc in omega arith)
  array_constant_stop x (mark m ∷ w) h = refl

  pub val_constant_stop : (x : ℕ) → Constants (specifying b n (val_equated x))
  unfolding run
  val_constant_stop x [] h = refl
  val_constant_stop x (number v ∷ w) h = absurd (let z : ◌≡◌ {A = ℕ} 0 1 = cc in omega arith)
  val_constant_stop x (name y ∷ w) h = absurd (let z : ◌≡◌ {A = ℕ} 0 1 = cc in omega arith)
  val_constant_stop x (mark m ∷ w) h = refl

  pub array_open_stop : (x : ℕ) → Marks kind.open_subscript (specifying b n (array_named x))
  unfolding run
  array_open_stop x [] h = refl
  array_open_stop x (t ∷ w) h = rw h

  pub array_close_stop : (x : ℕ) (c : Constant) → Marks kind.close_subscript (specifying b n (array_sized x c))
  unfolding run
  array_close_stop x c [] h = refl
  array_close_stop x c (t ∷ w) h = rw h

  pub val_equal_stop : (x : ℕ) → Marks kind.equal (specifying b n (val_named x))
  unfolding run
  val_equal_stop x [] h = refl
  val_equal_stop x (t ∷ w) h = rw h

  pub semicolon_stop : (s : Specification) → Marks kind.semicolon (specifying b n (whole s))
  unfolding run
  semicolon_stop s [] h = refl
  semicolon_stop s (t ∷ w) h = rw h

-- a process after n comments
abbrev pub after_comments : ℕ → Process → Process
after_comments zero p = p
after_comments (suc n) p = after_comments n (after_comment p)

pub run_in_comments : (n : ℕ) (w : List Token) (k : ProcessContext) (p : Process) → run w (have_process p (in_comments n k)) ≡ run w (have_process (after_comments n p) k)
run_in_comments zero w k p = refl
run_in_comments (suc n) w k p = run_commented (in_comments n k) w p ∙ run_in_comments n w k (after_comment p)

-- the end of a program
pub run_done : (b : List Specification) (p : Process) → run [] (have_process p (top b)) ≡ accepted (program (in_order b []) p)
unfolding run
run_done b p = refl

pub run_left : (t : Token) (w : List Token) (b : List Specification) (p : Process) → run (t ∷ w) (have_process p (top b)) ≡ refused (t ∷ w)
unfolding run
run_left t w b p = refl
