-- What the reader's answer says of a source's tokens: 6, 7, or a program whose names come next. Laws; assumes nothing.
use Rattle.std.specs.Prelude.{◌≡◌, Bool, List, ℕ, ◌+◌, ◌-◌, ◌*◌, ◌≤◌, ◌<◌, max, ltb, length, get_or, Result, Ok, Err}
use Rattle.std.proofs.Math.Path.{refl, ap}
use Rattle.std.proofs.Common.{sym, subst, ◌∙◌, arith, lt-ltb, le-ltb, ltb-true, ltb-false}
use Rattle.std.proofs.lemmas.List.{get_or_default, get_or_past}
use Rattle.std.proofs.lemmas.List.Edits.{sets}
use Rattle.std.proofs.Math.Seq.{length-sets}
use Rattle.arm_word.specs.Choice.{pick}
use Rattle.arm_word.specs.ChoiceLaws.{by_test}
use Rattle.x_tokens.specs.Refusals as refusal
use Rattle.x_tokens.specs.TokenList as token
use Rattle.x_tokens.specs.TokenList.{Entry, entries}
use Rattle.x_grammar.specs.Grammar.{Program, program}
use Rattle.x_grammar.specs.TokenArrays.{unread}
use Rattle.x_grammar.specs.Unread.{length_unread}
use Rattle.x_grammar.specs.Automaton as automaton
use Rattle.x_grammar.specs.Automaton.{Reading, reads}
use Rattle.x_grammar.specs.GrammarExact.{accepted_text}
use Rattle.x_grammar.specs.TreeDepth as grammar_depth
use Rattle.x_grammar.specs.RawRows as raw
use Rattle.x_grammar.specs.RawRowLaws.{length_process}
use Rattle.x_program.specs.TableReadBack.{Holds}
use Rattle.x_names.specs.Complaints.{complaints, least}
use Rattle.x_names.specs.FirstComplaint.{first}
use Rattle.x_names.specs.Resolve as resolve
use Rattle.x_verdict.specs.Front as front
use Rattle.x_verdict.specs.Symbols.{symbols, text_of}
use Rattle.x_verdict.specs.Front.{judged, named, parsed}
use Rattle.x_verdict.proofs.Refused.{least_first_in_text}
use Rattle.front_read_program.specs.Answer.{answer, refused_at as read_refused, Written, process_start}
use Rattle.front_read_program.specs.declared.Parsed as program_parsed
use Rattle.front_read_expressions.specs.declared.Ungrammatical.{Ungrammatical}
use Rattle.front_recognizer.specs.Recognized.{Says, refused_at as recognizer_refused}
use Rattle.front_names_table.specs.View.{place_at}
use Rattle.front_analysis.specs.Arrays.{symbols_all, unread_all, length_entries, place_all, text_all}
use Rattle.x_grammar.specs.RawRowCount.{few_rows}
use Rattle.x_program.specs.Layout.{row_words}
use Rattle.front_analysis.specs.Named.{holds_set, Ready, named_as}

-- equal answers have equal values
same_token : (x y : Ungrammatical) → ◌≡◌ {A = Result program_parsed.Parsed Ungrammatical} (Err x) (Err y) → x.token ≡ y.token
same_token x y e = let z : x ≡ y = cc in ap (λ (x : Ungrammatical). x.token) z

same_program : (x y : program_parsed.Parsed) → ◌≡◌ {A = Result program_parsed.Parsed Ungrammatical} (Ok x) (Ok y) → y ≡ x
same_program x y e = cc

-- an entry, or what stands behind the end
pub place_or : (ps : List ℕ) (i d : ℕ) → get_or ps i d ≡ pick (ltb i (length ps)) (get_or ps i 0) d
place_or ps i d =
    by_test (λ (b : Bool). get_or ps i d ≡ pick b (get_or ps i 0) d) (ltb i (length ps))
    (λ t. get_or_default ps i d 0 (ltb-true i (length ps) t)) (λ f. get_or_past ps i d (ltb-false i (length ps) f))

module _ (source ks ps vs : List ℕ) (lp : length ps ≡ length ks) (lv : length vs ≡ length ks) where
  abbrev ts : List Entry
  ts = entries ks ps vs 0 (length ks)

  abbrev R : Reading
  R = reads (unread ks vs 0)

  -- what the tokens come to
  abbrev come : front.Outcome
  come = parsed source ts (reads (symbols ts 0))

  as_read : come ≡ parsed source ts R
  as_read = ap (λ (w : List Rattle.x_grammar.specs.Grammar.Token). parsed source ts (reads w)) (symbols_all ks ps vs (length ks) refl lp lv)

  -- 6 at token i
  pub refused_at : (i place : ℕ) → answer (length ks) R ≡ read_refused i → place ≡ pick (ltb i (length ps)) (get_or ps i 0) (length source) → come ≡ front.refused refusal.ungrammatical place
  refused_at i place e h = as_read ∙ by R e
    where
      by : (r : Reading) → answer (length ks) r ≡ read_refused i → parsed source ts r ≡ front.refused refusal.ungrammatical place
      by (automaton.accepted p) e = let z : ◌≡◌ {A = ℕ} 0 1 = cc in absurd (omega arith)
      by (automaton.refused u) e =
          let z : length ks - length u ≡ i = same_token _ _ e in
          ap (front.refused 6) (unread_all ks ps vs (length ks) refl lp lv (length u) (length source) ∙ ap (λ (k : ℕ). pick (ltb k (length ps)) (get_or ps k 0) (length source)) z ∙ sym h)

  -- the recognizer's answers
  pub recognized_bad : (i place : ℕ) → Says (length ks) R (recognizer_refused i) → place ≡ pick (ltb i (length ps)) (get_or ps i 0) (length source) → come ≡ front.refused refusal.ungrammatical place
  recognized_bad i place h e =
      let z : length ks - length h.0 ≡ i = omega (arith, h.2) in
      refused_at i place (ap (answer (length ks)) h.1 ∙ ap read_refused z) e

  pub deep_program : (p : Program) → R ≡ automaton.accepted p → grammar_depth.depth_limit < max (grammar_depth.depth p) (grammar_depth.deepest p) → come ≡ front.refused refusal.deep_program 0
  unfolding named
  deep_program p q h = as_read ∙ ap (parsed source ts) q ∙ rw (lt-ltb grammar_depth.depth_limit (max (grammar_depth.depth p) (grammar_depth.deepest p)) h)

  -- a program was read, with its rows
  pub record Came (start rows depth deepest : ℕ) (t t' : List ℕ) : Type 0 where
    pub tree : Program
    pub reading : R ≡ automaton.accepted tree
    pub start_is : start ≡ process_start (length ks) tree
    pub rows_are : rows ≡ raw.row_count tree
    pub depth_is : depth ≡ grammar_depth.depth tree
    pub deepest_is : deepest ≡ grammar_depth.deepest tree
    pub table : t' ≡ sets t (row_words * raw.first_row tree) (raw.rows tree)

  pub came : (start rows depth deepest : ℕ) (t t' : List ℕ) → answer (length ks) R ≡ Ok (record { start = start; rows = rows; depth = depth; deepest = deepest })
      → Written R t t' → Came start rows depth deepest t t'
  came start rows depth deepest t t' e h = by R refl e h
    where
      by : (r : Reading) → R ≡ r → answer (length ks) r ≡ Ok (record { start = start; rows = rows; depth = depth; deepest = deepest }) → Written r t t' → Came start rows depth deepest t t'
      by (automaton.refused u) q e h = let z : ◌≡◌ {A = ℕ} 0 1 = cc in absurd (omega arith)
      by (automaton.accepted p) q e h =
          let s = same_program _ _ e in
          record {
            tree = p;
            reading = q;
            start_is = ap (λ (x : program_parsed.Parsed). x.start) s;
            rows_are = ap (λ (x : program_parsed.Parsed). x.rows) s;
            depth_is = ap (λ (x : program_parsed.Parsed). x.depth) s;
            deepest_is = ap (λ (x : program_parsed.Parsed). x.deepest) s;
            table = h;
          }

  module _ (start rows depth deepest : ℕ) (t t' : List ℕ) (c : Came start rows depth deepest t t') where
    abbrev p : Program
    p = c.tree

    as_named : come ≡ named source ts p
    as_named = as_read ∙ ap (parsed source ts) c.reading

    -- 7
    pub too_deep : grammar_depth.depth_limit < max depth deepest → come ≡ front.refused refusal.deep_program 0
    too_deep h = deep_program p c.reading (rw (← c.depth_is, ← c.deepest_is) h)

    pub small : length ks ≤ 1024 → (start ≤ 1024) × (rows ≤ 1024)
    small l =
        let x = accepted_text (unread ks vs 0) p c.reading in
        let s : start ≤ length ks = rw c.start_is (by p) in
        (omega arith, omega (arith, few_rows p, ap length x.0, length_unread ks vs 0, c.rows_are))
      where
        by : (p : Program) → process_start (length ks) p ≤ length ks
        by (program ss b) = omega arith

    -- the names come next
    pub as_names : max depth deepest ≤ grammar_depth.depth_limit → come ≡ named_as source ks ps vs p
    unfolding named
    as_names h =
        as_named ∙ rw (le-ltb grammar_depth.depth_limit (max (grammar_depth.depth p) (grammar_depth.deepest p)) (rw (← c.depth_is, ← c.deepest_is) h))
        (λ j. judged (least (complaints (text_all ks ps vs (length ks) refl lp lv source j) (place_all ks ps vs (length ks) refl lp lv j) p)) (length_entries ks ps vs (length ks) 0 j)
        (resolve.resolve (text_all ks ps vs (length ks) refl lp lv source j) p))

    pub ready : token.outcome source ≡ token.read ts → length t ≡ 4096 → length ks ≤ 1024 → Ready source ks ps vs p start rows deepest t'
    ready o l n =
        let x = accepted_text (unread ks vs 0) p c.reading in
        let few = small n in
        record {
          here = x.0;
          proper = x.1;
          ordered = subst (λ (w : ℕ → List ℕ). least (complaints w (place_at ps) p) ≡ first (complaints w (place_at ps) p)) (text_all ks ps vs (length ks) refl lp lv source)
              (subst (λ (w : ℕ → ℕ). least (complaints (text_of source ts) w p) ≡ first (complaints (text_of source ts) w p)) (place_all ks ps vs (length ks) refl lp lv)
              (least_first_in_text source ts p o (symbols_all ks ps vs (length ks) refl lp lv ∙ x.0)));
          start_is = c.start_is;
          rows_are = c.rows_are;
          few = few.1;
          depth_is = c.deepest_is;
          room = ap length c.table ∙ length-sets t (row_words * raw.first_row p) (raw.rows p) ∙ l;
          table = subst (λ (w : List ℕ). Holds w (raw.first_row p) (raw.rows p)) (sym c.table) (holds_set t (raw.rows p) (raw.first_row p) (fits p (omega (arith, c.rows_are, few.1))));
        }
      where
        fits : (p : Program) → raw.row_count p ≤ 1024 → row_words * raw.first_row p + length (raw.rows p) ≤ length t
        fits (program ss b) h = omega (arith, length_process b (raw.declared_rows ss), l)
