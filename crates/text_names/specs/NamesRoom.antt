-- How long the table of names is: names have 32 bytes at most, and a source 1,024 tokens. Laws; assumes nothing.
use Rattle.std.specs.Prelude.{◌≡◌, refl, Bool, true, false, List, [], ◌∷◌, ◌++◌, eqb, length, drop}
use Rattle.std.proofs.Common.{ap, subst, length-append, length-take, eqb-true}
use Prim.Native.Nat.{ℕ, suc, ◌+◌, ◌-◌, ◌*◌, ◌<◌, ◌≤◌}
use native.Mathlib.Omega.{arith}
use Rattle.std.proofs.lemmas.List.{length-replicate}
use Rattle.arm_word.specs.Choice.{pick}
use Rattle.x_spelling.specs.Kinds as kind
use Rattle.x_tokens.specs.TokenList as token
use Rattle.x_tokens.specs.TokenList.{Entry}
use Rattle.x_tokens.specs.SourceLaws as source_laws
use Rattle.x_tokens.specs.SourceLaws.{Placed}
use Rattle.x_tokens.proofs.SourceLaws.{outcome_sound}
use Rattle.x_grammar.specs.Grammar.{Token, number, name, mark, Constant, literal, named, Specification, var, array, val, commented, text_process}
use Rattle.x_grammar.specs.Grammar.{text_constant, text_specification, text_specifications}
use Rattle.x_grammar.specs.Grammar as grammar
use Rattle.x_grammar.specs.TokenArrays.{token_of}
use Rattle.x_grammar.specs.Automaton as automaton
use Rattle.x_grammar.specs.Automaton.{reads}
use Rattle.x_grammar.specs.GrammarExact.{accepted_text}
use Rattle.x_names.specs.Scope.{Scope, empty_scope, constant_word, declare, declare_all}
use Rattle.x_verdict.specs.Symbols.{entry_at, text_of, symbols}
use Rattle.x_verdict.specs.Count.{few_tokens}
use Rattle.arm_word.specs.Ascii.{ascii}
use Rattle.text_lines.specs.Text.{decimal}
use Rattle.text_lines.specs.LineLaws.{length_digits}
use Rattle.text_names.specs.Names.{columns, data_head, val_head, val_tail, name_lines, program_scope, token_scope, names_of, names_limit}
use Rattle.text_names.specs.Lines.{length_signed}

-- ── a line ──

length_head : (sort : List ℕ) (first words : ℕ) → length sort ≤ 5 → length (data_head sort first words) ≤ 27
length_head sort first words h =
    simp length-append
    (omega (arith, length_digits 9 first, length_digits 9 words, length-replicate {A = ℕ} (columns - length (decimal first)) 32, length-replicate {A = ℕ} (columns - length (decimal words)) 32))

-- a line that a specification adds to those before it
abbrev Adds : List ℕ → List ℕ → Type 0
Adds old new = length new ≤ length old + 68

data_line : (old sort n : List ℕ) (first words : ℕ) → length sort ≤ 5 → length n ≤ 32 → Adds old (old ++ (data_head sort first words ++ (n ++ (10 ∷ []))))
data_line old sort n first words h l =
    let head = data_head sort first words in
    omega (arith, length-append old (head ++ (n ++ (10 ∷ []))), length-append head (n ++ (10 ∷ [])), length-append n (10 ∷ []), length_head sort first words h)

val_line : (old n : List ℕ) (w : ℕ) → length n ≤ 32 → Adds old (old ++ (val_head ++ (n ++ val_tail w)))
val_line old n w l = simp length-append (omega (arith, length_signed w))

-- ── the names of a list of tokens ──

module _ (text : ℕ → List ℕ) where
  -- every name among the tokens is short
  abbrev Short : List Token → Type 0
  Short [] = Unit {0}
  Short (number v ∷ w) = Short w
  Short (name n ∷ w) = (length (text n) ≤ 32) × Short w
  Short (mark k ∷ w) = Short w

  after_constant : (c : Constant) (w : List Token) → Short (text_constant c w) → Short w
  after_constant (literal v) w h = h
  after_constant (named n) w h = h.1

  constant_longer : (c : Constant) (w : List Token) → length w < length (text_constant c w)
  constant_longer (literal v) w = omega arith
  constant_longer (named n) w = omega arith

  -- a specification adds a line, and has tokens
  one_line : (d : Specification) (s : Scope) (w : List Token) → Short (text_specification d w)
      → Adds (name_lines s.entries) (name_lines (declare text d s).entries) × Short w × (length w < length (text_specification d w))
  unfolding name_lines
  one_line (var n) s w h = (data_line (name_lines s.entries) (ascii "var  ") (text n) s.words 1 (omega arith) h.0, h.1, omega arith)
  one_line (array n c) s w h = (
    data_line (name_lines s.entries) (ascii "array") (text n) s.words (constant_word text s c) (omega arith) h.0,
    after_constant c (mark kind.close_subscript ∷ w) h.1,
    omega
        (arith, constant_longer c (mark kind.close_subscript ∷ w)),
  )
  one_line (val n c) s w h = (val_line (name_lines s.entries) (text n) (constant_word text s c) h.0, after_constant c w h.1, omega (arith, constant_longer c w))
  one_line (commented d) s w h = let x = one_line d s w h in (x.0, x.1, omega (arith, x.2))

  all_lines : (ds : List Specification) (s : Scope) (w : List Token) → Short (text_specifications ds w)
      → length (name_lines (declare_all text ds s).entries) ≤ length (name_lines s.entries) + 68 * length (text_specifications ds w)
  all_lines [] s w h = omega arith
  all_lines (d ∷ ds) s w h =
      let x = one_line d s (mark kind.semicolon ∷ text_specifications ds w) h in
      omega (arith, x.0, x.2, all_lines ds (declare text d s) w x.1)

-- ── the names of a source ──

-- the tokens of a list, numbered from i, where the same are looked up in all
module _ (source : List ℕ) (all : List Entry) where
  short_one : (i : ℕ) (e : Entry) (w : List Token) → entry_at all i ≡ e → (e.kind ≡ kind.name → e.value ≤ 32) → Short (text_of source all) w
      → Short (text_of source all) (token_of i e.kind e.value ∷ w)
  short_one i e w is h rest = by (eqb e.kind kind.number) (eqb e.kind kind.name) refl
    where
      by : (a b : Bool) → eqb e.kind kind.name ≡ b → Short (text_of source all) (pick a (number e.value) (pick b (name i) (mark e.kind)) ∷ w)
      by true b f = rest
      by false true f =
          let v : (entry_at all i).value ≤ 32 = rw is (h (eqb-true e.kind kind.name f)) in
          (omega (arith, length-take (entry_at all i).value (drop (entry_at all i).place source)), rest)
      by false false f = rest

  short_all : (size p i : ℕ) (ts : List Entry) → Placed size p ts → ((k : ℕ) → entry_at all (i + k) ≡ entry_at ts k) → Short (text_of source all) (symbols ts i)
  unfolding symbols entry_at
  short_all size p i ts source_laws.none h = tt
  short_all size p i _ (source_laws.some t {ts = ts} l f q) h =
      let z : i + 0 ≡ i = omega arith in
      short_one i t (symbols ts (suc i)) (rw z at (h 0)) (λ n. (f.name n).1)
      (short_all size (t.place + 1) (suc i) ts q (λ k. let y : suc i + k ≡ i + suc k = omega arith in rw y (h (suc k))))

length_symbols : (ts : List Entry) (i : ℕ) → length (symbols ts i) ≡ length ts
unfolding symbols
length_symbols [] i = refl
length_symbols (t ∷ ts) i = ap suc (length_symbols ts (suc i))

read_fits : (source : List ℕ) (ts : List Entry) (r : automaton.Reading) → token.outcome source ≡ token.read ts → reads (symbols ts 0) ≡ r
    → length (name_lines (program_scope (text_of source ts) r).entries) ≤ names_limit
unfolding name_lines
read_fits source ts (automaton.refused u) e f = omega arith
read_fits source ts (automaton.accepted (grammar.program ds b)) e f =
    let placed : Placed (length source) 0 ts = subst (source_laws.Sound (length source) 0) e (outcome_sound source) in
    let is = (accepted_text (symbols ts 0) (grammar.program ds b) f).0 in
    let short : Short (text_of source ts) (symbols ts 0) = short_all source ts (length source) 0 0 ts placed (λ k. let z : 0 + k ≡ k = omega arith in rw z) in
    let all = all_lines (text_of source ts) ds empty_scope (text_process b []) (subst (Short (text_of source ts)) is short) in
    omega (arith, all, ap length is, length_symbols ts 0, few_tokens source ts e)

pub names_fit : (source : List ℕ) → length (names_of source) ≤ names_limit
unfolding names_of
names_fit source = by (token.outcome source) refl
  where
    by : (o : token.Outcome) → token.outcome source ≡ o → length (name_lines (token_scope source o).entries) ≤ names_limit
    by (token.read ts) e = read_fits source ts (reads (symbols ts 0)) e refl
    by (token.refused n p) e = unfold name_lines in omega arith
