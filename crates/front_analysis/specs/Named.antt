-- The names of a program that the grammar accepts: the specifications first, then the raw rows. Laws; assumes nothing.
use Rattle.std.specs.Prelude.{◌≡◌, ℕ, ◌+◌, ◌-◌, ◌*◌, ◌≤◌, length, take, drop, Option, None, Some, Result, Ok}
use Rattle.std.proofs.Math.Path.{sym, ap}
use Rattle.std.proofs.Common.{◌∙◌, length-take-le, get_or-append-add}
use mathlib.Core.List.{List, [], ◌++◌}
use native.Mathlib.Omega.{arith}
use Rattle.std.proofs.Math.ListN.{length-append, get_or-append}
use Rattle.std.proofs.Math.Seq.{sets}
use Rattle.std.proofs.lemmas.List.Edits.{sets-eq}
use Rattle.x_grammar.specs.Grammar.{Specification, Process, Program, program, text_process, text_specifications, text_program, WellFormed}
use Rattle.x_grammar.specs.TokenArrays.{unread}
use Rattle.x_grammar.specs.RawRows as raw
use Rattle.x_grammar.specs.RawRowLaws.{length_process, sets_rows}
use Rattle.x_grammar.specs.TreeDepth as grammar_depth
use Rattle.x_program.specs.Layout.{row_words}
use Rattle.x_program.specs.Core.{core_process}
use Rattle.x_program.specs.Rows.{declared_rows, rows_process, table_of, row_count}
use Rattle.x_program.specs.TableReadBack.{Holds, length_declared, length_rows_process}
use Rattle.x_names.specs.Scope.{Scope, empty_scope, declare_all}
use Rattle.x_names.specs.Complaints.{Complaint, Verdict, fine, refused, of_specifications, of_process, complaints, least}
use Rattle.x_names.specs.FirstComplaint.{first}
use Rattle.x_names.specs.Resolve as resolve
use Rattle.x_names.specs.Resolve.{declarations}
use Rattle.x_names.specs.RowComplaints.{row_complaints, same_least}
use Rattle.x_names.specs.ResolvedRows.{resolve_rows}
use Rattle.x_names.proofs.ResolvedRows.{count_P, rows_P}
use Rattle.x_names.proofs.Depths.{same_deepest}
use Rattle.x_verdict.specs.Front as front
use Rattle.x_verdict.specs.Front.{judged}
use Rattle.x_names.specs.Least.{least_none}
use Rattle.front_names_table.specs.View.{Table, view, text_at, place_at}
use Rattle.front_names_judge.specs.Judge.{or_else, first_append}
use Rattle.front_names_bind.specs.Going.{Filled, Fills}
use Rattle.x_tokens.specs.Refusals.{number}
use Rattle.x_tokens.specs.declared.refusal.Refusal.{Refusal}
use Rattle.front_names_bind.specs.declared.Declared.{Declared}
use Rattle.front_read_program.specs.Answer.{process_start}
use Rattle.front_names_resolve.specs.ResolvingWalk.{Walked, walked, walk, walk_entries, walk_rows, scope_of, verdict, getD_sets_past}
use Rattle.x_names.proofs.Specified.{count_declared, words_declared}
use Rattle.front_analysis.specs.Analysed.{Found}

-- what is written is held
pub holds_set : (t xs : List ℕ) (n : ℕ) → row_words * n + length xs ≤ length t → Holds (sets t (row_words * n) xs) n xs
holds_set t xs n l = record {
  at = λ k h.
      let e = length-take-le (row_words * n) t (omega arith) in
      let z : row_words * n + k ≡ length (take (row_words * n) t) + k = omega (arith, e) in
      rw (sets-eq xs t (row_words * n) l, z)
      (get_or-append (take (row_words * n) t ++ xs) (drop (row_words * n + length xs) t) 0 (length (take (row_words * n) t) + k)
      (rw (length-append (take (row_words * n) t) xs) (omega arith)) ∙ get_or-append-add (take (row_words * n) t) xs k 0);
}

holds_after : (t xs ds : List ℕ) (n : ℕ) → length ds ≤ row_words * n → Holds t n xs → Holds (sets t 0 ds) n xs
holds_after t xs ds n l h = record { at = λ k b. getD_sets_past ds t 0 (row_words * n + k) (omega arith) ∙ h.at k b }

module _ (source kinds places values : List ℕ) where
  abbrev text : ℕ → List ℕ
  text = text_at source places values

  abbrev place : ℕ → ℕ
  place = place_at places

  -- a program that the tokens are, with its raw rows in the table
  pub record Ready (p : Program) (start rows depth : ℕ) (t : List ℕ) : Type 0 where
    pub here : unread kinds values 0 ≡ text_program p
    pub proper : WellFormed p
    pub ordered : least (complaints text place p) ≡ first (complaints text place p)
    pub start_is : start ≡ process_start (length kinds) p
    pub rows_are : rows ≡ raw.row_count p
    pub few : rows ≤ 1024
    pub depth_is : depth ≡ grammar_depth.deepest p
    pub room : length t ≡ 4096
    pub table : Holds t (raw.first_row p) (raw.rows p)

  -- what the names come to
  abbrev pub named_as : Program → front.Outcome
  named_as p = judged (least (complaints text place p)) (length kinds) (resolve.resolve text p)

  module _ (ss : List Specification) (b : Process) (start rows depth : ℕ) (t : List ℕ) (ready : Ready (program ss b) start rows depth t) where
    abbrev p : Program
    p = program ss b

    abbrev S : Scope
    S = declare_all text ss empty_scope

    -- a specification has the first complaint
    pub first_refused : (c : Complaint) → first (of_specifications text place ss empty_scope) ≡ refused c → named_as p ≡ front.refused c.number c.place
    first_refused c e =
        ap (λ (v : Verdict). judged v (length kinds) (resolve.resolve text p))
        (ready.ordered ∙ first_append (of_specifications text place ss empty_scope) (of_process text place b S) ∙ ap (λ (v : Verdict). or_else v (first (of_process text place b S))) e)

    module _ (t₁ : List ℕ) (names : Table) (count made words : ℕ) (filled : Filled source kinds places values ss t t₁ names count made words)
        (t₂ : List ℕ) (f : Option Refusal) (walks : walked t₂ (verdict f) ≡ walk text place (scope_of (view source names count)) (rows - made) t₁ made fine) where
      abbrev D : List ℕ
      D = declared_rows (declarations text ss empty_scope) 0

      abbrev xs : List ℕ
      xs = raw.rows p

      made_is : made ≡ raw.declared_rows ss
      made_is = omega (arith, filled.sized, length_declared (declarations text ss empty_scope) 0, count_declared text ss empty_scope)

      quiet : complaints text place p ≡ of_process text place b S
      quiet = ap (λ (cs : List Complaint). cs ++ of_process text place b S) filled.quiet

      all_walked : walked t₂ (verdict f) ≡ walked (sets t₁ (row_words * raw.declared_rows ss) (resolve_rows text S xs)) (least (row_complaints text place S xs))
      all_walked =
          let n : rows - made ≡ raw.count_process b = omega (arith, ready.rows_are, made_is) in
          let h : Holds t₁ (raw.declared_rows ss) xs = rw filled.table (holds_after t xs D (raw.declared_rows ss) (omega (arith, filled.sized, made_is)) ready.table) in
          walks
          ∙ (λ j. walk text place (scope_of (sym filled.scope j).entries) (n j) t₁ (made_is j) fine)
          ∙ walk_entries text place S (raw.count_process b) t₁ (raw.declared_rows ss) fine
          ∙ walk_rows text place S (raw.count_process b) (raw.declared_rows ss) t₁ xs fine (length_process b (raw.declared_rows ss)) h

      found_least : verdict f ≡ least (complaints text place p)
      found_least = ap (λ (w : Walked). w.found) all_walked ∙ same_least text place S b (raw.declared_rows ss) ∙ ap least (sym quiet)

      -- a row has the least complaint
      pub row_refused : (r : Refusal) → f ≡ Some r → named_as p ≡ front.refused (number r.reason) r.place
      row_refused r e = ap (λ (v : Verdict). judged v (length kinds) (resolve.resolve text p)) (sym found_least ∙ ap verdict e)

      -- there is none
      pub row_accepted : f ≡ None → Found (named_as p) t₂ (length kinds) rows words depth
      unfolding row_count table_of
      row_accepted h =
          let e : least (complaints text place p) ≡ fine = sym found_least ∙ ap verdict h in
          let none = least_none (complaints text place p) e in
          let here : of_process text place b S ≡ [] = sym quiet ∙ none in
          let m = raw.declared_rows ss in
          let c = count_declared text ss empty_scope in
          let k = count_P text place S b here in
          let r : resolve_rows text S xs ≡ rows_process (core_process (resolve.process text b S)) (length (declarations text ss empty_scope)) =
          rows_P text place S b m ready.proper here ∙ ap (rows_process (core_process (resolve.process text b S))) (sym c)
          in
          let s : t₂ ≡ sets t (row_words * 0) (D ++ rows_process (core_process (resolve.process text b S)) (length (declarations text ss empty_scope))) =
          ap (λ (w : Walked). w.table) all_walked ∙ ap (λ (l : List ℕ). sets l (row_words * m) (resolve_rows text S xs)) filled.table
          ∙ sets_rows D t 0 m m (resolve_rows text S xs) (filled.sized ∙ ap (λ (n : ℕ). row_words * n) made_is) (omega arith) ∙ ap (λ (l : List ℕ). sets t (row_words * 0) (D ++ l)) r
          in
          record {
            tree = resolve.resolve text p;
            outcome = ap (λ (v : Verdict). judged v (length kinds) (resolve.resolve text p)) e;
            rows_are = omega (arith, ready.rows_are, c, k);
            words_are = sym (ap (λ (s : Scope). s.words) filled.scope) ∙ words_declared text ss empty_scope ∙ omega arith;
            depth_is = ready.depth_is ∙ same_deepest text place p none;
            table = rw s (holds_set t (D ++ rows_process (core_process (resolve.process text b S)) (length (declarations text ss empty_scope))) 0
                (simp length-append (omega (
                  arith,
                  ready.room,
                  ready.few,
                  ready.rows_are,
                  filled.sized,
                  made_is,
                  length_rows_process (core_process (resolve.process text b S)) (length (declarations text ss empty_scope)),
                  k,
                ))));
          }

  -- what `bind` ensures of its answer
  abbrev pub Bound : ℕ → List ℕ → List ℕ → Table → ℕ → Result Declared Refusal → Type 0
  Bound start t t₁ names count r =
      (ds : List Specification) (b : Process) → unread kinds values 0 ≡ text_specifications ds (text_process b []) → start ≡ length kinds - length (text_process b [])
      → Fills source kinds places values ds t t₁ names count r

  module _ (p : Program) (start rows depth : ℕ) (t : List ℕ) (ready : Ready p start rows depth t) where
    pub names_refused : (n q : ℕ)
        → ((ds : List Specification) (b : Process) → unread kinds values 0 ≡ text_specifications ds (text_process b []) → start ≡ length kinds - length (text_process b [])
        → first (of_specifications text place ds empty_scope) ≡ refused (record { number = n; place = q }))
        → named_as p ≡ front.refused n q
    names_refused n q h = by p ready
      where
        by : (p : Program) → Ready p start rows depth t → named_as p ≡ front.refused n q
        by (program ss b) ready = first_refused ss b start rows depth t ready (record { number = n; place = q }) (h ss b ready.here ready.start_is)

    module _ (t₁ : List ℕ) (names : Table) (count : ℕ) (d : Declared) (h : Bound start t t₁ names count (Ok d)) (t₂ : List ℕ) (f : Option Refusal)
        (walks : walked t₂ (verdict f) ≡ walk text place (scope_of (view source names count)) (rows - d.rows) t₁ d.rows fine) where
      pub names_accepted : f ≡ None → Found (named_as p) t₂ (length kinds) rows d.words depth
      names_accepted e = by p ready
        where
          by : (p : Program) → Ready p start rows depth t → Found (named_as p) t₂ (length kinds) rows d.words depth
          by (program ss b) ready = row_accepted ss b start rows depth t ready t₁ names count d.rows d.words (h ss b ready.here ready.start_is) t₂ f walks e

      pub names_row_refused : (r : Refusal) → f ≡ Some r → named_as p ≡ front.refused (number r.reason) r.place
      names_row_refused r e = by p ready
        where
          by : (p : Program) → Ready p start rows depth t → named_as p ≡ front.refused (number r.reason) r.place
          by (program ss b) ready = row_refused ss b start rows depth t ready t₁ names count d.rows d.words (h ss b ready.here ready.start_is) t₂ f walks r e
