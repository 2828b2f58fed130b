-- The token arrays of an accepted source hold a program, whose scope is the source's. Laws; assumes nothing.
use Rattle.std.specs.Prelude.{◌≡◌, length, take}
use Rattle.std.proofs.Common.{sym, ◌∙◌, arith, length-take-le}
use Rattle.std.proofs.Math.Path.{ap}
use mathlib.Core.List.{List}
use Prim.Native.Nat.{ℕ, ◌≤◌}
use Rattle.x_tokens.specs.TokenList as token
use Rattle.x_tokens.specs.TokenList.{Entry, entries}
use Rattle.x_grammar.specs.Grammar as grammar
use Rattle.x_grammar.specs.Automaton as automaton
use Rattle.x_grammar.specs.Automaton.{reads}
use Rattle.x_grammar.specs.TokenArrays.{unread}
use Rattle.x_grammar.specs.GrammarExact.{accepts}
use Rattle.x_program.specs.Tree.{Program, data_words}
use Rattle.x_names.specs.Scope.{Scope, empty_scope}
use Rattle.x_names.specs.Resolve.{resolve}
use Rattle.x_names.proofs.Specified.{words_declared}
use Rattle.x_verdict.specs.Symbols.{text_of, symbols}
use Rattle.x_verdict.specs.Front.{accepted, front}
use Rattle.x_verdict.specs.VerdictExact.{accepted_is_X}
use Rattle.x_verdict.proofs.Refused.{accepted_sound}
use Rattle.front_names_table.specs.View.{text_at}
use Rattle.front_analysis.specs.Arrays.{symbols_all, text_all, entries_take}
use Rattle.text_names.specs.Names.{program_scope, token_scope, name_lines, names_of}
use Rattle.text_names.specs.Walk.{Reads, scope}

-- a source that is accepted, for buffers of some sizes
pub record IsAccepted (source : List ℕ) : Type 0 where
  pub table : ℕ
  pub code : ℕ
  pub count : ℕ
  pub tree : Program
  pub is : front source table code ≡ accepted count tree

-- an accepted source's tokens are read
pub not_refused : (source : List ℕ) (n p : ℕ) → IsAccepted source → token.outcome source ≡ token.refused n p → ⊥
not_refused source n p a e =
    let x = (accepted_is_X source a.table a.code a.count a.tree a.is).is_X.tokens in
    let z : ◌≡◌ {A = ℕ} 0 1 = cc in
    omega arith

-- the first n of the arrays are the tokens of an accepted source
pub record TokensOf (source ks ps vs : List ℕ) (n : ℕ) : Type 0 where
  pub few : n ≤ 1024
  pub are : token.outcome source ≡ token.read (entries ks ps vs 0 n)
  pub accepted : IsAccepted source

-- the first n of the arrays are the program's tokens
pub record First (source ks ps vs : List ℕ) (n : ℕ) : Type 0 where
  pub in_kinds : n ≤ length ks
  pub in_places : n ≤ length ps
  pub in_values : n ≤ length vs
  pub read : Reads source (take n ks) (take n ps) (take n vs)
  pub lines : name_lines (scope source (take n ks) (take n ps) (take n vs)).entries ≡ names_of source

-- the words that an accepted program's specifications declare
small_data : (text : ℕ → List ℕ) (p : grammar.Program) → data_words (resolve text p).declarations ≤ 8192 → (program_scope text (automaton.accepted p)).words ≤ 8192
small_data text (grammar.program ds b) h = omega (arith, h, words_declared text ds empty_scope)

module _ (source ks ps vs : List ℕ) (n : ℕ) (lk : length ks ≡ 1024) (lp : length ps ≡ 1024) (lv : length vs ≡ 1024) (t : TokensOf source ks ps vs n) where
  few : n ≤ 1024
  few = t.few

  e : token.outcome source ≡ token.read (entries ks ps vs 0 n)
  e = t.are

  abbrev a : IsAccepted source
  a = t.accepted

  abbrev tk : List ℕ
  tk = take n ks

  abbrev tp : List ℕ
  tp = take n ps

  abbrev tv : List ℕ
  tv = take n vs

  nk : length tk ≡ n
  nk = length-take-le n ks (omega (arith, lk, few))

  np : length tp ≡ n
  np = length-take-le n ps (omega (arith, lp, few))

  nv : length tv ≡ n
  nv = length-take-le n vs (omega (arith, lv, few))

  all : entries tk tp tv 0 n ≡ entries ks ps vs 0 n
  all = entries_take n ks ps vs n 0 (omega arith)

  tokens_are : symbols (entries ks ps vs 0 n) 0 ≡ unread tk tv 0
  tokens_are = ap (λ (ts : List Entry). symbols ts 0) (sym all) ∙ symbols_all tk tp tv n nk np nv

  text_is : text_of source (entries ks ps vs 0 n) ≡ text_at source tp tv
  text_is = ap (text_of source) (sym all) ∙ text_all tk tp tv n nk np nv source

  scope_is : scope source tk tp tv ≡ token_scope source (token.outcome source)
  scope_is = (λ j. program_scope (sym text_is j) (reads (sym tokens_are j))) ∙ ap (token_scope source) (sym e)

  pub first_tokens : First source ks ps vs n
  unfolding names_of
  first_tokens =
      let x = accepted_is_X source a.table a.code a.count a.tree a.is in
      let ts : x.ts ≡ entries ks ps vs 0 n = let f = x.is_X.tokens in let g = e in cc in
      let p = x.tree in
      let read : reads (unread tk tv 0) ≡ automaton.accepted p =
      ap reads (sym tokens_are ∙ ap (λ (l : List Entry). symbols l 0) (sym ts) ∙ x.is_X.grammatical) ∙ accepts p x.is_X.proper
      in
      let sound = (accepted_sound source a.table a.code a.count a.tree a.is).small in
      let q : a.tree ≡ resolve (text_at source tp tv) p = x.program ∙ ap (λ (l : List Entry). resolve (text_of source l) p) ts ∙ ap (λ (t : ℕ → List ℕ). resolve t p) text_is in
      let words : data_words (resolve (text_at source tp tv) p).declarations ≤ 8192 = rw q at sound in
      record {
        in_kinds = omega (arith, lk, few);
        in_places = omega (arith, lp, few);
        in_values = omega (arith, lv, few);
        read = record { few = omega (arith, nk, few); small = rw read (small_data (text_at source tp tv) p words); tree = p; is = read };
        lines = ap (λ (s : Scope). name_lines s.entries) scope_is;
      }
