-- What a refusal says: its number is 1 to 14 and its place in the source; 8 to 12 are the least complaint. Laws; assumes nothing.
use Rattle.std.specs.Prelude.{◌≡◌, refl, Bool, true, false, List, [], ◌∷◌, ℕ, zero, suc, ◌+◌, ◌<◌, ◌≤◌, max, eqb, ltb, leb, length}
use Rattle.std.proofs.Common.{ap, subst, arith, eqb-true, ltb-false}
use Rattle.arm_word.specs.Choice.{pick}
use Rattle.arm_word.specs.ChoiceLaws.{by_test}
use Rattle.x_spelling.specs.Kinds as kind
use Rattle.x_tokens.specs.Refusals as refusals
use Rattle.x_tokens.specs.TokenList as token
use Rattle.x_tokens.specs.TokenList.{Entry}
use Rattle.x_tokens.specs.SourceLaws as source_laws
use Rattle.x_tokens.specs.SourceLaws.{Placed}
use Rattle.x_tokens.proofs.SourceLaws.{outcome_sound}
use Rattle.x_grammar.specs.Grammar as grammar
use Rattle.x_grammar.specs.Grammar.{Token, number, name, mark, text_program}
use Rattle.x_grammar.specs.TokenArrays.{token_of}
use Rattle.x_grammar.specs.Automaton as automaton
use Rattle.x_grammar.specs.Automaton.{reads}
use Rattle.x_program.specs.Tree.{Program}
use Rattle.x_program.specs.Sound.{Sound}
use Rattle.x_grammar.specs.TreeDepth.{depth, deepest, depth_limit, too_deep}
use Rattle.x_program.specs.Layout.{table_room, code_room}
use Rattle.x_names.specs.Complaints as names
use Rattle.x_names.specs.Complaints.{complaints, Verdict, fine, least}
use Rattle.x_names.specs.Resolve.{resolve}
use Rattle.x_names.specs.Numbered.{Judged}
use Rattle.x_names.proofs.Numbered.{judged_within}
use Rattle.x_names.specs.FirstComplaint.{first}
use Rattle.x_names.specs.ComplaintOrder.{names_of, Ahead, Ascending, least_is_first}
use Rattle.x_names.specs.AcceptedNames.{Words}
use Rattle.x_names.proofs.AcceptedNames.{sound}
use Rattle.x_names.proofs.Depths.{same_deepest}
use Rattle.x_verdict.specs.Symbols.{entry_at, place_of, text_of, symbols, unread_place}
use Rattle.x_verdict.specs.Deserved.{Numbered}
use Rattle.x_verdict.specs.Front.{Outcome, refused, accepted, judged, named, parsed, tokened, front}
use Rattle.x_verdict.specs.VerdictExact.{accepted_is_X}

-- the tokens of a source stand in it, one after another
placed : (source : List ℕ) (ts : List Entry) → token.outcome source ≡ token.read ts → Placed (length source) 0 ts
placed source ts e = subst (source_laws.Sound (length source) 0) e (outcome_sound source)

-- ── constants are words ──

token_words : (i k v : ℕ) (w : List Token) → (k ≡ kind.number → v < 4294967296) → Words w → Words (token_of i k v ∷ w)
token_words i k v w h r = by (eqb k kind.number) refl (eqb k kind.name)
  where
    by : (a : Bool) → eqb k kind.number ≡ a → (b : Bool) → Words (pick a (number v) (pick b (name i) (mark k)) ∷ w)
    by true e b = (h (eqb-true k kind.number e), r)
    by false e true = r
    by false e false = r

symbol_words : (size p : ℕ) (ts : List Entry) (i : ℕ) → Placed size p ts → Words (symbols ts i)
unfolding symbols
symbol_words size p ts i source_laws.none = tt
symbol_words size p _ i (source_laws.some t {ts = ts} l h q) = token_words i t.kind t.value (symbols ts (suc i)) h.number (symbol_words size (t.place + 1) ts (suc i) q)

-- what is accepted is a sound program
pub accepted_sound : (source : List ℕ) (table code n : ℕ) (q : Program) → front source table code ≡ accepted n q → Sound q
accepted_sound source table code n q h =
    let a = accepted_is_X source table code n q h in
    let x = a.is_X in
    let w : Words (text_program a.tree) = rw x.grammatical at (symbol_words (length source) 0 a.ts 0 (placed source a.ts x.tokens)) in
    let d = same_deepest (text_of source a.ts) (place_of a.ts) a.tree x.nameable in
    rw a.program (sound (text_of source a.ts) (place_of a.ts) a.tree w x.nameable (omega (arith, ltb-false depth_limit (max (depth a.tree) (deepest a.tree)) x.shallow)))

-- ── the least complaint is the first ──

-- tokens from the k-th of all on: their places, looked up in all
module _ (place : ℕ → ℕ) where
  -- every token of a list, numbered from i, stands where it is looked up
  abbrev Found : ℕ → List Entry → Type 0
  Found i [] = Unit {0}
  Found i (t ∷ ts) = (place i ≡ t.place) × Found (suc i) ts

  -- a token's name, if it is one, before those that follow
  ahead_one : (n i k v : ℕ) (w : List Token) → place n < place i → Ahead (λ t. []) place n (names_of w) → Ahead (λ t. []) place n (names_of (token_of i k v ∷ w))
  ahead_one n i k v w h rest = by (eqb k kind.number) (eqb k kind.name)
    where
      by : (a c : Bool) → Ahead (λ t. []) place n (names_of (pick a (number v) (pick c (name i) (mark k)) ∷ w))
      by true c = rest
      by false true = (h, rest)
      by false false = rest

  ascends_one : (i k v : ℕ) (w : List Token) → Ahead (λ t. []) place i (names_of w) → Ascending (λ t. []) place (names_of w) → Ascending (λ t. []) place (names_of (token_of i k v ∷ w))
  ascends_one i k v w h rest = by (eqb k kind.number) (eqb k kind.name)
    where
      by : (a c : Bool) → Ascending (λ t. []) place (names_of (pick a (number v) (pick c (name i) (mark k)) ∷ w))
      by true c = rest
      by false true = (h, rest)
      by false false = rest

  ahead : (size n i p : ℕ) (ts : List Entry) → place n < p → Placed size p ts → Found i ts → Ahead (λ t. []) place n (names_of (symbols ts i))
  unfolding symbols
  ahead size n i p ts l source_laws.none f = tt
  ahead size n i p _ l (source_laws.some t {ts = ts} b h q) f =
      ahead_one n i t.kind t.value (symbols ts (suc i)) (omega (arith, f.0)) (ahead size n (suc i) (t.place + 1) ts (omega arith) q f.1)

  ascends : (size i p : ℕ) (ts : List Entry) → Placed size p ts → Found i ts → Ascending (λ t. []) place (names_of (symbols ts i))
  unfolding symbols
  ascends size i p ts source_laws.none f = tt
  ascends size i p _ (source_laws.some t {ts = ts} b h q) f =
      ascends_one i t.kind t.value (symbols ts (suc i)) (ahead size i (suc i) (t.place + 1) ts (omega (arith, f.0)) q f.1) (ascends size (suc i) (t.place + 1) ts q f.1)

-- looked up in a list, its own tokens stand where they stand
found_from : (all ts : List Entry) (i : ℕ) → ((k : ℕ) → entry_at all (i + k) ≡ entry_at ts k) → Found (place_of all) i ts
unfolding entry_at
found_from all [] i h = tt
found_from all (t ∷ ts) i h =
    let z : i + 0 ≡ i = omega arith in
    (ap (λ (e : Entry). e.place) (rw z at (h 0)), found_from all ts (suc i) (λ k. let y : suc i + k ≡ i + suc k = omega arith in rw y (h (suc k))))

found : (ts : List Entry) → Found (place_of ts) 0 ts
found ts = found_from ts ts 0 (λ k. let z : 0 + k ≡ k = omega arith in rw z)

-- where the front end asks the names, the least complaint is the first in the text
pub least_first_in_text : (source : List ℕ) (ts : List Entry) (p : grammar.Program) → token.outcome source ≡ token.read ts → symbols ts 0 ≡ text_program p
    → least (complaints (text_of source ts) (place_of ts) p) ≡ first (complaints (text_of source ts) (place_of ts) p)
least_first_in_text source ts p e g =
    least_is_first (text_of source ts) (place_of ts) p (rw g at (ascends (place_of ts) (length source) 0 0 ts (placed source ts e) (found ts)))

-- ── every refusal has a number from 1 to 14, and a place in the source ──

abbrev Answered : List ℕ → Outcome → Type 0
Answered source (refused n at) = Numbered source n at
Answered source (accepted n p) = Unit {0}

pub places_inside : (size p : ℕ) (ts : List Entry) (k : ℕ) → Placed size p ts → place_of ts k ≤ size
unfolding entry_at
places_inside size p ts k source_laws.none = omega arith
places_inside size p _ zero (source_laws.some t l h q) = omega (arith, h.inside)
places_inside size p _ (suc k) (source_laws.some t {ts = ts} l h q) = places_inside size (t.place + 1) ts k q

unread_inside : (size p : ℕ) (ts : List Entry) (u : ℕ) → Placed size p ts → unread_place ts u size ≤ size
unfolding unread_place
unread_inside size p ts u source_laws.none = omega arith
unread_inside size p _ u (source_laws.some t {ts = ts} l h q) =
    by_test (λ (b : Bool). pick b t.place (unread_place ts u size) ≤ size) (leb (length (t ∷ ts)) u) (λ e. omega (arith, h.inside)) (λ e. unread_inside size (t.place + 1) ts u q)

judged_numbered : (source : List ℕ) (v : Verdict) (n : ℕ) (q : Program) → Judged (length source) v → Answered source (judged v n q)
judged_numbered source fine n q h = tt
judged_numbered source (names.refused c) n q h = record { low = omega (arith, h.low); high = omega (arith, h.high); inside = h.inside }

named_numbered : (source : List ℕ) (ts : List Entry) (p : grammar.Program) → Placed (length source) 0 ts → Answered source (named source ts p)
unfolding named
named_numbered source ts p h =
    by_test (λ (b : Bool).
    Answered source (pick b (refused refusals.deep_program 0) (judged (least (complaints (text_of source ts) (place_of ts) p)) (length ts) (resolve (text_of source ts) p))))
    (too_deep p)
    (λ e. record { low = omega arith; high = omega arith; inside = omega arith })
    (λ e. judged_numbered source (least (complaints (text_of source ts) (place_of ts) p)) (length ts) _
    (judged_within (text_of source ts) (place_of ts) (length source) (λ k. places_inside (length source) 0 ts k h) p))

parsed_numbered : (source : List ℕ) (ts : List Entry) (r : automaton.Reading) → Placed (length source) 0 ts → Answered source (parsed source ts r)
parsed_numbered source ts (automaton.accepted p) h = named_numbered source ts p h
parsed_numbered source ts (automaton.refused u) h = record { low = omega arith; high = omega arith; inside = unread_inside (length source) 0 ts (length u) h }

tokened_numbered : (source : List ℕ) (table code : ℕ) (o : token.Outcome) → source_laws.Sound (length source) 0 o → Answered source (tokened source table code o)
tokened_numbered source table code (token.refused n p) h = record { low = h.0; high = omega (arith, h.1); inside = h.2 }
tokened_numbered source table code (token.read ts) h =
    by_test (λ (b : Bool). Answered source
    (pick b (refused refusals.short_table 0) (pick (ltb code (code_room (length ts))) (refused refusals.short_code 0) (parsed source ts (reads (symbols ts 0))))))
    (ltb table (table_room (length ts)))
    (λ e. record { low = omega arith; high = omega arith; inside = omega arith })
    (λ e.
    by_test (λ (b : Bool). Answered source (pick b (refused refusals.short_code 0) (parsed source ts (reads (symbols ts 0))))) (ltb code (code_room (length ts)))
    (λ e. record { low = omega arith; high = omega arith; inside = omega arith }) (λ e. parsed_numbered source ts (reads (symbols ts 0)) h))

pub refusal : (source : List ℕ) (table code n at : ℕ) → front source table code ≡ refused n at → Numbered source n at
unfolding front
refusal source table code n at e = subst (Answered source) e (tokened_numbered source table code (token.outcome source) (outcome_sound source))
