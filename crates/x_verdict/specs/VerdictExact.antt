-- With room a source is accepted exactly if it is X, and what is accepted is a sound program. Laws; assumes nothing.
use Rattle.std.specs.Prelude.{◌≡◌, refl, Bool, true, false, List, ℕ, ltb, length}
use Rattle.std.proofs.Common.{ap, ◌∙◌, arith, ltb-false, le-ltb}
use Rattle.arm_word.specs.Choice.{pick}
use Rattle.x_tokens.specs.Refusals as refusal
use Rattle.x_tokens.specs.TokenList as token
use Rattle.x_tokens.specs.TokenList.{Entry}
use Rattle.x_grammar.specs.Grammar as grammar
use Rattle.x_grammar.specs.Automaton as automaton
use Rattle.x_grammar.specs.Automaton.{reads}
use Rattle.x_grammar.specs.GrammarExact.{accepts, accepted_text}
use Rattle.x_grammar.specs.TreeDepth.{too_deep}
use Rattle.x_program.specs.Layout.{table_room, code_room}
use Rattle.x_program.specs.Tree.{Program}
use Rattle.x_names.specs.Complaints as names
use Rattle.x_names.specs.Complaints.{complaints, least}
use Rattle.x_names.specs.Least.{least_none}
use Rattle.x_names.specs.Resolve.{resolve}
use Rattle.x_verdict.specs.Symbols.{place_of, text_of, symbols}
use Rattle.x_verdict.specs.IsX.{IsX, Room}
use Rattle.x_verdict.specs.Front.{refused, accepted, judged, named, parsed, tokened, front}

-- X is accepted
pub accepts_X : (source : List ℕ) (ts : List Entry) (p : grammar.Program) (table code : ℕ) → IsX source ts p → Room (length ts) table code
    → front source table code ≡ accepted (length ts) (resolve (text_of source ts) p)
unfolding front named least
accepts_X source ts p table code x r =
    ap (tokened source table code) x.tokens
    ∙ rw (le-ltb table (table_room (length ts)) r.rows, le-ltb code (code_room (length ts)) r.image)
    (ap (parsed source ts) (ap reads x.grammatical ∙ accepts p x.proper)
    ∙ rw (x.shallow, x.nameable))

-- what was accepted
pub record Accepted (source : List ℕ) (table code n : ℕ) (q : Program) : Type 0 where
  pub ts : List Entry
  pub tree : grammar.Program
  pub is_X : IsX source ts tree
  pub room : Room (length ts) table code
  pub count : n ≡ length ts
  pub program : q ≡ resolve (text_of source ts) tree

not_accepted : {A : Type 0} (k l n : ℕ) (q : Program) → refused k l ≡ accepted n q → A
not_accepted k l n q h = let z : ◌≡◌ {A = ℕ} 0 1 = cc in absurd (omega arith)

-- accepted is X
pub accepted_is_X : (source : List ℕ) (table code n : ℕ) (q : Program) → front source table code ≡ accepted n q → Accepted source table code n q
unfolding front named
accepted_is_X source table code n q h = by_tokens (token.outcome source) refl h
  where
    by_verdict : (ts : List Entry) (p : grammar.Program) → token.outcome source ≡ token.read ts → Room (length ts) table code → reads (symbols ts 0) ≡ automaton.accepted p → too_deep p ≡ false
        → (v : names.Verdict) → least (complaints (text_of source ts) (place_of ts) p) ≡ v → judged v (length ts) (resolve (text_of source ts) p) ≡ accepted n q → Accepted source table code n q
    by_verdict ts p e r g d (names.refused c) k h = not_accepted _ _ n q h
    by_verdict ts p e r g d names.fine k h =
        let t = accepted_text (symbols ts 0) p g in
        record {
          ts = ts;
          tree = p;
          room = r;
          is_X = record { tokens = e; proper = t.1; grammatical = t.0; shallow = d; nameable = least_none _ k };
          count = cc;
          program = cc;
        }

    by_depth : (ts : List Entry) (p : grammar.Program) → token.outcome source ≡ token.read ts → Room (length ts) table code → reads (symbols ts 0) ≡ automaton.accepted p
        → (b : Bool) → too_deep p ≡ b
        → pick b (refused refusal.deep_program 0) (judged (least (complaints (text_of source ts) (place_of ts) p)) (length ts) (resolve (text_of source ts) p)) ≡ accepted n q
        → Accepted source table code n q
    by_depth ts p e r g true d h = not_accepted _ _ n q h
    by_depth ts p e r g false d h = by_verdict ts p e r g d (least (complaints (text_of source ts) (place_of ts) p)) refl h

    by_reading : (ts : List Entry) → token.outcome source ≡ token.read ts → Room (length ts) table code → (v : automaton.Reading) → reads (symbols ts 0) ≡ v
        → parsed source ts v ≡ accepted n q → Accepted source table code n q
    by_reading ts e r (automaton.accepted p) g h = by_depth ts p e r g (too_deep p) refl h
    by_reading ts e r (automaton.refused u) g h = not_accepted _ _ n q h

    by_room : (ts : List Entry) → token.outcome source ≡ token.read ts → (a : Bool) → ltb table (table_room (length ts)) ≡ a → (b : Bool) → ltb code (code_room (length ts)) ≡ b
        → pick a (refused refusal.short_table 0) (pick b (refused refusal.short_code 0) (parsed source ts (reads (symbols ts 0)))) ≡ accepted n q → Accepted source table code n q
    by_room ts e true f b g h = not_accepted _ _ n q h
    by_room ts e false f true g h = not_accepted _ _ n q h
    by_room ts e false f false g h =
        by_reading ts e (record { rows = ltb-false table (table_room (length ts)) f; image = ltb-false code (code_room (length ts)) g }) (reads (symbols ts 0)) refl h

    by_tokens : (o : token.Outcome) → token.outcome source ≡ o → tokened source table code o ≡ accepted n q → Accepted source table code n q
    by_tokens (token.refused k l) e h = not_accepted _ _ n q h
    by_tokens (token.read ts) e h = by_room ts e (ltb table (table_room (length ts))) refl (ltb code (code_room (length ts))) refl h
