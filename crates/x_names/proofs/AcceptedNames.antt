-- A program without a complaint resolves to a sound one: every variable and array in its tree is one of its declarations, within the limits. Laws; assumes nothing.
use Rattle.std.specs.Prelude.{◌≡◌, refl, Bool, true, false, ℕ, ◌+◌, ◌≤◌, ◌<◌, length, ltb}
use Rattle.std.proofs.Math.Path.{sym, ap}
use Rattle.std.proofs.Common.{◌∙◌, arith, ltb-true, ltb-false}
use mathlib.Core.List.{List, [], ◌∷◌, ◌++◌, append_assoc, append-nil}
use Rattle.std.proofs.Math.ListN.{length-append}
use Rattle.arm_word.specs.Choice.{pick}
use Rattle.x_tokens.specs.Refusals as refusal
use Rattle.x_grammar.specs.Grammar.{Token, number, name, mark, Constant, literal, named, Specification, val, commented, Expression, single, monadic, diadic, Chain, last, more, Operand, element}
use Rattle.x_grammar.specs.Grammar.{bracketed, Process, skip, stop, assign, assign_element, empty, braces, conditional, while, after_comment, Processes, only, followed, Program, program}
use Rattle.x_grammar.specs.Grammar.{text_expression, text_chain, text_operand, text_process, text_processes, text_constant, text_specification, text_specifications, text_program}
use Rattle.x_grammar.specs.Grammar as grammar
use Rattle.x_program.specs.Tree as tree
use Rattle.x_program.specs.Tree.{Declaration, data_words, words_of}
use Rattle.x_program.specs.Core as core
use Rattle.x_program.specs.Core.{core_process, core_list, joined}
use Rattle.x_program.specs.ProgramDepth.{deepest}
use Rattle.x_program.specs.Sound.{Declares, here, later, Lengths, SoundExpression, SoundProcess, Sound}
use Rattle.x_names.specs.Scope.{Meaning, unknown, variable, array, constant, Entry, Scope, empty_scope, same, lookup, word_of, meaning_of, constant_word, declare, declare_all}
use Rattle.x_names.specs.Complaints.{as_value, as_target, as_array, as_constant, is_known, when, bad_length, too_many, at, of_constant, has_word, of_array, of_specification}
use Rattle.x_names.specs.Complaints.{of_specifications, of_expression, of_chain, of_operand, of_process, of_processes, complaints}
use Rattle.x_names.specs.Resolve as resolve
use Rattle.x_names.specs.Resolve.{value, element_of, assigned, element_assigned, declared, declarations}
use Rattle.x_names.specs.AcceptedNames.{Words, WordsE, WordsC, WordsO, WordsP, WordsL, WordsK, WordsS, WordsSs}

mutual
  words_E : (e : Expression) (w : List Token) → Words (text_expression e w) → WordsE e × Words w
  words_E (single a) w h = words_O a w h
  words_E (monadic o a) w h = words_O a w h
  words_E (diadic o a c) w h = let x = words_O a _ h in let y = words_C c o w x.1 in ((x.0, y.0), y.1)

  words_C : (c : Chain) (o : ℕ) (w : List Token) → Words (text_chain c o w) → WordsC c × Words w
  words_C (last a) o w h = words_O a w h
  words_C (more a c) o w h = let x = words_O a _ h in let y = words_C c o w x.1 in ((x.0, y.0), y.1)

  words_O : (a : Operand) (w : List Token) → Words (text_operand a w) → WordsO a × Words w
  words_O (grammar.constant v) w h = h
  words_O (grammar.variable n) w h = (tt, h)
  words_O (element n e) w h = words_E e _ h
  words_O (bracketed e) w h = words_E e _ h

mutual
  words_P : (p : Process) (w : List Token) → Words (text_process p w) → WordsP p × Words w
  words_P skip w h = (tt, h)
  words_P stop w h = (tt, h)
  words_P (assign n e) w h = words_E e w h
  words_P (assign_element n i e) w h = let x = words_E i _ h in let y = words_E e w x.1 in ((x.0, y.0), y.1)
  words_P empty w h = (tt, h)
  words_P (braces ps) w h = words_L ps _ h
  words_P (conditional e p q) w h =
      let x = words_E e _ h in let y = words_P p _ x.1 in let z = words_P q w y.1 in ((x.0, y.0, z.0), z.1)
  words_P (while e p) w h = let x = words_E e _ h in let y = words_P p w x.1 in ((x.0, y.0), y.1)
  words_P (after_comment p) w h = words_P p w h

  words_L : (ps : Processes) (w : List Token) → Words (text_processes ps w) → WordsL ps × Words w
  words_L (only p) w h = words_P p w h
  words_L (followed p ps) w h = let x = words_P p _ h in let y = words_L ps w x.1 in ((x.0, y.0), y.1)

words_K : (c : Constant) (w : List Token) → Words (text_constant c w) → WordsK c × Words w
words_K (literal v) w h = h
words_K (named n) w h = (tt, h)

words_S : (d : Specification) (w : List Token) → Words (text_specification d w) → WordsS d × Words w
words_S (grammar.var n) w h = (tt, h)
words_S (grammar.array n c) w h = words_K c _ h
words_S (val n c) w h = words_K c w h
words_S (commented d) w h = words_S d w h

words_Ss : (ds : List Specification) (w : List Token) → Words (text_specifications ds w) → WordsSs ds × Words w
words_Ss [] w h = (tt, h)
words_Ss (d ∷ ds) w h = let x = words_S d _ h in let y = words_Ss ds w x.1 in ((x.0, y.0), y.1)

-- ── no complaint ──

pub none_left : {A : Type 0} (xs ys : List A) → xs ++ ys ≡ [] → xs ≡ []
none_left [] ys h = refl
none_left (x ∷ xs) ys h = let z : ◌≡◌ {A = ℕ} 0 1 = cc in absurd (omega arith)

pub none_right : {A : Type 0} (xs ys : List A) → xs ++ ys ≡ [] → ys ≡ []
none_right [] ys h = h
none_right (x ∷ xs) ys h = let z : ◌≡◌ {A = ℕ} 0 1 = cc in absurd (omega arith)

none_when : (b : Bool) (n : ℕ) → when b n ≡ [] → b ≡ false
none_when true n h = let z : ◌≡◌ {A = ℕ} 0 1 = cc in absurd (omega arith)
none_when false n h = refl

-- ── scopes ──

-- what a name may stand for: a declaration so far, or a word
abbrev Stands : List Declaration → Meaning → Type 0
Stands ds unknown = Unit {0}
Stands ds (variable v) = Declares ds v.row v.offset tree.var
Stands ds (array a) = Declares ds a.row a.offset (tree.array a.length)
Stands ds (constant w) = w < 4294967296

abbrev AllStand : List Declaration → List Entry → Type 0
AllStand ds [] = Unit {0}
AllStand ds (e ∷ es) = Stands ds e.meaning × AllStand ds es

-- a scope after the declarations ds
record Fits (ds : List Declaration) (s : Scope) : Type 0 where
  rows : s.rows ≡ length ds
  words : s.words ≡ data_words ds
  small : data_words ds ≤ 8192
  few : length ds ≤ s.names
  names : s.names ≤ 256
  lengths : Lengths ds
  stand : AllStand ds s.entries

data_append : (ds es : List Declaration) → data_words (ds ++ es) ≡ data_words ds + data_words es
unfolding data_words
data_append [] es = omega arith
data_append (d ∷ ds) es = omega (arith, data_append ds es)

lengths_append : (ds es : List Declaration) → Lengths ds → Lengths es → Lengths (ds ++ es)
lengths_append [] es h k = k
lengths_append (tree.var ∷ ds) es h k = lengths_append ds es h k
lengths_append (tree.array n ∷ ds) es h k = (h.0, h.1, lengths_append ds es h.2 k)

declares_front : {ds : List Declaration} {r o : ℕ} {d : Declaration} (es : List Declaration) → Declares ds r o d → Declares (ds ++ es) r o d
declares_front es here = here
declares_front es (later h) = later (declares_front es h)

declares_last : (ds : List Declaration) (d : Declaration) (r o : ℕ) → r ≡ length ds → o ≡ data_words ds → Declares (ds ++ d ∷ []) r o d
unfolding data_words
declares_last [] d r o e f = rw (e, f) here
declares_last (x ∷ ds) d r o e f = rw (e, f) (later (declares_last ds d (length ds) (data_words ds) refl refl))

stands_front : (ds es : List Declaration) (m : Meaning) → Stands ds m → Stands (ds ++ es) m
stands_front ds es unknown h = tt
stands_front ds es (variable v) h = declares_front es h
stands_front ds es (array a) h = declares_front es h
stands_front ds es (constant w) h = h

all_front : (ds es : List Declaration) (xs : List Entry) → AllStand ds xs → AllStand (ds ++ es) xs
all_front ds es [] h = tt
all_front ds es (x ∷ xs) h = (stands_front ds es x.meaning h.0, all_front ds es xs h.1)

stands_lookup : (ds : List Declaration) (xs : List Entry) (n : List ℕ) → AllStand ds xs → Stands ds (lookup xs n)
unfolding lookup
stands_lookup ds [] n h = tt
stands_lookup ds (x ∷ xs) n h = by (same x.name n) h.0 (stands_lookup ds xs n h.1)
  where
    by : (b : Bool) → Stands ds x.meaning → Stands ds (lookup xs n) → Stands ds (pick b x.meaning (lookup xs n))
    by true p q = p
    by false p q = q

word_small : (ds : List Declaration) (m : Meaning) → Stands ds m → word_of m < 4294967296
word_small ds unknown h = omega arith
word_small ds (variable v) h = omega arith
word_small ds (array a) h = omega arith
word_small ds (constant w) h = h

room : (s : Scope) (n : ℕ) → too_many s n ≡ false → (s.names ≤ 255) × (s.words + n ≤ 8192)
room s n h = by (ltb 255 s.names) refl h
  where
    by : (b : Bool) → ltb 255 s.names ≡ b → pick b true (ltb 8192 (s.words + n)) ≡ false → (s.names ≤ 255) × (s.words + n ≤ 8192)
    by true e h = let z : ◌≡◌ {A = ℕ} 0 1 = cc in absurd (omega arith)
    by false e h = (ltb-false 255 s.names e, ltb-false 8192 (s.words + n) h)

good_length : (n : ℕ) → bad_length n ≡ false → (0 < n) × (n ≤ 8192)
good_length n h = by (ltb 0 n) refl h
  where
    by : (b : Bool) → ltb 0 n ≡ b → pick b (ltb 8192 n) true ≡ false → (0 < n) × (n ≤ 8192)
    by true e h = (ltb-true 0 n e, ltb-false 8192 n h)
    by false e h = let z : ◌≡◌ {A = ℕ} 0 1 = cc in absurd (omega arith)

module _ (text : ℕ → List ℕ) (place : ℕ → ℕ) where
  pub none_at : (n : ℕ) (ks : List ℕ) → at text place n ks ≡ [] → ks ≡ []
  none_at n [] h = refl
  none_at n (k ∷ ks) h = let z : ◌≡◌ {A = ℕ} 0 1 = cc in absurd (omega arith)

  stands_here : (ds : List Declaration) (s : Scope) (n : ℕ) → Fits ds s → Stands ds (meaning_of text s n)
  stands_here ds s n f = stands_lookup ds s.entries (text n) f.stand

  constant_small : (ds : List Declaration) (s : Scope) (c : Constant) → Fits ds s → WordsK c → constant_word text s c < 4294967296
  constant_small ds s (literal w) f h = h
  constant_small ds s (named n) f h = word_small ds (meaning_of text s n) (stands_here ds s n f)

  -- a constant without a complaint has a word
  has_one : (s : Scope) (c : Constant) → of_constant text place s c ≡ [] → has_word text place s c ≡ true
  has_one s (literal w) h = refl
  has_one s (named n) h = by (meaning_of text s n) refl (none_at n _ h)
    where
      by : (m : Meaning) → meaning_of text s n ≡ m → as_constant m ≡ [] → has_word text place s (named n) ≡ true
      by unknown e h = let z : ◌≡◌ {A = ℕ} 0 1 = cc (h) in absurd (omega arith)
      by (variable v) e h = let z : ◌≡◌ {A = ℕ} 0 1 = cc (h) in absurd (omega arith)
      by (array a) e h = let z : ◌≡◌ {A = ℕ} 0 1 = cc (h) in absurd (omega arith)
      by (constant w) e h = rw e

  -- ── specifications ──

  -- one more declaration d, of a name that stands for m, in a scope with room
  fits_more : (ds : List Declaration) (s : Scope) (n : List ℕ) (d : Declaration) (m : Meaning) → Fits ds s → s.names ≤ 255 → s.words + words_of d ≤ 8192 → Lengths (d ∷ [])
      → Stands (ds ++ d ∷ []) m
      → Fits (ds ++ d ∷ []) (record { entries = record { name = n; meaning = m } ∷ s.entries; rows = s.rows + 1; names = s.names + 1; words = s.words + words_of d })
  unfolding data_words
  fits_more ds s n d m f a b l h = record {
    rows = ap (λ (k : ℕ). k + 1) f.rows ∙ sym (length-append ds (d ∷ []));
    words = ap (λ (k : ℕ). k + words_of d) f.words ∙ sym (data_append ds (d ∷ []) ∙ omega arith);
    small = omega (arith, data_append ds (d ∷ []), f.words);
    few = omega (arith, length-append ds (d ∷ []), f.few);
    names = omega arith;
    lengths = lengths_append ds (d ∷ []) f.lengths l;
    stand = (h, all_front ds (d ∷ []) s.entries f.stand);
  }

  -- one more name that declares no word
  fits_val : (ds : List Declaration) (s : Scope) (n : List ℕ) (w : ℕ) → Fits ds s → s.names ≤ 255 → w < 4294967296
      → Fits ds (record { entries = record { name = n; meaning = constant w } ∷ s.entries; rows = s.rows + 0; names = s.names + 1; words = s.words + 0 })
  fits_val ds s n w f a h = record
      { rows = omega (arith, f.rows); words = omega (arith, f.words); small = f.small; few = omega (arith, f.few); names = omega arith; lengths = f.lengths; stand = (h, f.stand) }

  -- the declarations of one specification
  abbrev own : Specification → Scope → List Declaration
  own d s = declared text d s []

  declared_front : (d : Specification) (s : Scope) (es : List Declaration) → declared text d s es ≡ own d s ++ es
  declared_front (grammar.var n) s es = refl
  declared_front (grammar.array n c) s es = refl
  declared_front (val n c) s es = refl
  declared_front (commented d) s es = declared_front d s es

  fits_declare : (d : Specification) (ds : List Declaration) (s : Scope) → Fits ds s → WordsS d → of_specification text place d s ≡ [] → Fits (ds ++ own d s) (declare text d s)
  fits_declare (grammar.var n) ds s f w h =
      let x = none_at n _ h in
      let r = room s 1 (none_when (too_many s 1) refusal.too_much (none_right (when (is_known (meaning_of text s n)) refusal.declared_twice) _ x)) in
      fits_more ds s (text n) tree.var (variable (record { row = s.rows; offset = s.words })) f r.0 r.1 tt (declares_last ds tree.var s.rows s.words f.rows f.words)
  fits_declare (grammar.array n c) ds s f w h =
      let k = constant_word text s c in
      let x = none_at n _ (none_left _ (of_constant text place s c) h) in
      let t = has_one s c (none_right (at text place n (of_array text place s n c)) _ h) in
      let y : when (bad_length k) refusal.bad_length ++ when (too_many s k) refusal.too_much ≡ [] = rw t at (none_right (when (is_known (meaning_of text s n)) refusal.declared_twice) _ x) in
      let l = good_length k (none_when (bad_length k) refusal.bad_length (none_left _ (when (too_many s k) refusal.too_much) y)) in
      let r = room s k (none_when (too_many s k) refusal.too_much (none_right (when (bad_length k) refusal.bad_length) _ y)) in
      fits_more ds s (text n) (tree.array k) (array (record { row = s.rows; offset = s.words; length = k })) f r.0 r.1 (l.0, l.1, tt)
      (declares_last ds (tree.array k) s.rows s.words f.rows f.words)
  fits_declare (val n c) ds s f w h =
      let x = none_at n _ (none_left _ (of_constant text place s c) h) in
      let r = room s 0 (none_when (too_many s 0) refusal.too_much (none_right (when (is_known (meaning_of text s n)) refusal.declared_twice) _ x)) in
      rw (append-nil ds) (fits_val ds s (text n) (constant_word text s c) f r.0 (constant_small ds s c f w))
  fits_declare (commented d) ds s f w h = fits_declare d ds s f w h

  fits_all : (xs : List Specification) (ds : List Declaration) (s : Scope) → Fits ds s → WordsSs xs → of_specifications text place xs s ≡ []
      → Fits (ds ++ declarations text xs s) (declare_all text xs s)
  fits_all [] ds s f w h = rw (append-nil ds) f
  fits_all (x ∷ xs) ds s f w h =
      let g = fits_declare x ds s f w.0 (none_left (of_specification text place x s) _ h) in
      let k = fits_all xs (ds ++ own x s) (declare text x s) g w.1 (none_right (of_specification text place x s) _ h) in
      rw (declared_front x s (declarations text xs (declare text x s)), ← append_assoc ds (own x s) (declarations text xs (declare text x s))) k

  -- ── the body ──
  module _ (ds : List Declaration) (s : Scope) (f : Fits ds s) where
    sound_value : (m : Meaning) → Stands ds m → as_value m ≡ [] → SoundExpression ds (core.core (value m))
    sound_value unknown h e = let z : ◌≡◌ {A = ℕ} 0 1 = cc in absurd (omega arith)
    sound_value (variable v) h e = h
    sound_value (array a) h e = let z : ◌≡◌ {A = ℕ} 0 1 = cc in absurd (omega arith)
    sound_value (constant w) h e = h

    sound_element : (m : Meaning) (x : tree.Expression) → Stands ds m → as_array m ≡ [] → SoundExpression ds (core.core x) → SoundExpression ds (core.core (element_of m x))
    sound_element unknown x h e k = let z : ◌≡◌ {A = ℕ} 0 1 = cc in absurd (omega arith)
    sound_element (variable v) x h e k = let z : ◌≡◌ {A = ℕ} 0 1 = cc in absurd (omega arith)
    sound_element (array a) x h e k = (h, k)
    sound_element (constant w) x h e k = let z : ◌≡◌ {A = ℕ} 0 1 = cc in absurd (omega arith)

    sound_assigned : (m : Meaning) (x : tree.Expression) → Stands ds m → as_target m ≡ [] → SoundExpression ds (core.core x) → SoundProcess ds (core_process (assigned m x))
    sound_assigned unknown x h e k = let z : ◌≡◌ {A = ℕ} 0 1 = cc in absurd (omega arith)
    sound_assigned (variable v) x h e k = (h, k)
    sound_assigned (array a) x h e k = let z : ◌≡◌ {A = ℕ} 0 1 = cc in absurd (omega arith)
    sound_assigned (constant w) x h e k = let z : ◌≡◌ {A = ℕ} 0 1 = cc in absurd (omega arith)

    sound_element_assigned : (m : Meaning) (i x : tree.Expression) → Stands ds m → as_array m ≡ [] → SoundExpression ds (core.core i) → SoundExpression ds (core.core x)
        → SoundProcess ds (core_process (element_assigned m i x))
    sound_element_assigned unknown i x h e k l = let z : ◌≡◌ {A = ℕ} 0 1 = cc in absurd (omega arith)
    sound_element_assigned (variable v) i x h e k l = let z : ◌≡◌ {A = ℕ} 0 1 = cc in absurd (omega arith)
    sound_element_assigned (array a) i x h e k l = (h, k, l)
    sound_element_assigned (constant w) i x h e k l = let z : ◌≡◌ {A = ℕ} 0 1 = cc in absurd (omega arith)

    here_stands : (n : ℕ) → Stands ds (meaning_of text s n)
    here_stands n = stands_here ds s n f

    mutual
      sound_E : (e : Expression) → WordsE e → of_expression text place e s ≡ [] → SoundExpression ds (core.core (resolve.expression text e s))
      sound_E (single a) w h = sound_O a w h
      sound_E (monadic o a) w h = sound_O a w h
      sound_E (diadic o a c) w h = (sound_O a w.0 (none_left _ (of_chain text place c s) h), sound_C c o w.1 (none_right (of_operand text place a s) _ h))

      sound_C : (c : Chain) (o : ℕ) → WordsC c → of_chain text place c s ≡ [] → SoundExpression ds (core.core (resolve.chain text c o s))
      sound_C (last a) o w h = sound_O a w h
      sound_C (more a c) o w h = (sound_O a w.0 (none_left _ (of_chain text place c s) h), sound_C c o w.1 (none_right (of_operand text place a s) _ h))

      sound_O : (a : Operand) → WordsO a → of_operand text place a s ≡ [] → SoundExpression ds (core.core (resolve.operand text a s))
      sound_O (grammar.constant v) w h = w
      sound_O (grammar.variable n) w h = sound_value (meaning_of text s n) (here_stands n) (none_at n _ h)
      sound_O (element n e) w h =
          sound_element (meaning_of text s n) (resolve.expression text e s) (here_stands n) (none_at n _ (none_left _ (of_expression text place e s) h))
          (sound_E e w (none_right (at text place n (as_array (meaning_of text s n))) _ h))
      sound_O (bracketed e) w h = sound_E e w h

    sound_joined : (p : core.Process) (ps : tree.Processes) → SoundProcess ds p → SoundProcess ds (core_list ps) → SoundProcess ds (joined p ps (core_list ps))
    sound_joined p tree.none h k = h
    sound_joined p (tree.also q qs) h k = (h, k)

    mutual
      sound_P : (p : Process) → WordsP p → of_process text place p s ≡ [] → SoundProcess ds (core_process (resolve.process text p s))
      sound_P skip w h = tt
      sound_P stop w h = tt
      sound_P (assign n e) w h =
          sound_assigned (meaning_of text s n) (resolve.expression text e s) (here_stands n) (none_at n _ (none_left _ (of_expression text place e s) h))
          (sound_E e w (none_right (at text place n (as_target (meaning_of text s n))) _ h))
      sound_P (assign_element n i e) w h =
          let x = none_right (at text place n (as_array (meaning_of text s n))) _ h in
          sound_element_assigned (meaning_of text s n) (resolve.expression text i s) (resolve.expression text e s) (here_stands n)
          (none_at n _ (none_left _ (of_expression text place i s ++ of_expression text place e s) h))
          (sound_E i w.0 (none_left _ (of_expression text place e s) x)) (sound_E e w.1 (none_right (of_expression text place i s) _ x))
      sound_P empty w h = tt
      sound_P (braces ps) w h = sound_L ps w h
      sound_P (conditional e p q) w h =
          let x = none_right (of_expression text place e s) _ h in (
            sound_E e w.0 (none_left _ (of_process text place p s ++ of_process text place q s) h),
            sound_P p w.1 (none_left _ (of_process text place q s) x),
            sound_P q w.2 (none_right (of_process text place p s) _ x),
          )
      sound_P (while e p) w h = (sound_E e w.0 (none_left _ (of_process text place p s) h), sound_P p w.1 (none_right (of_expression text place e s) _ h))
      sound_P (after_comment p) w h = sound_P p w h

      sound_L : (ps : Processes) → WordsL ps → of_processes text place ps s ≡ [] → SoundProcess ds (core_list (resolve.processes text ps s))
      sound_L (only p) w h = sound_P p w h
      sound_L (followed p ps) w h =
          sound_joined (core_process (resolve.process text p s)) (resolve.processes text ps s) (sound_P p w.0 (none_left _ (of_processes text place ps s) h))
          (sound_L ps w.1 (none_right (of_process text place p s) _ h))

  -- THE THEOREM: tokens whose constants are words, no complaint, N at most 32
  pub sound : (p : Program) → Words (text_program p) → complaints text place p ≡ [] → deepest (resolve.resolve text p).body ≤ 32 → Sound (resolve.resolve text p)
  unfolding data_words
  sound (program ds p) w h n =
      let x = words_Ss ds (text_process p []) w in
      let y = words_P p [] x.1 in
      let start : Fits [] empty_scope = record { rows = refl; words = refl; small = omega arith; few = omega arith; names = omega arith; lengths = tt; stand = tt } in
      let f = fits_all ds [] empty_scope start x.0 (none_left _ (of_process text place p (declare_all text ds empty_scope)) h) in
      record {
        lengths = f.lengths;
        small = f.small;
        names = omega (arith, f.few, f.names);
        shallow = n;
        body = sound_P (declarations text ds empty_scope) (declare_all text ds empty_scope) f p y.0 (none_right (of_specifications text place ds empty_scope) _ h);
      }
