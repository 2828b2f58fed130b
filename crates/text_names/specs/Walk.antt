-- The walk over the specifications' tokens: what is declared so far, and what is left. Claims and laws; assumes nothing.
-- Rests on the names' lines, the scope and the text of specifications.
use Rattle.std.specs.Prelude.{◌≡◌, Bool, eqb, ltb, length, get_or, set}
use Rattle.std.proofs.Math.Path.{refl, sym, ap}
use Rattle.std.proofs.Common.{subst, ◌∙◌, add-one, eqb-true, ltb-true, ltb-false}
use Rattle.std.proofs.Math.Bool.{true, false}
use mathlib.Core.List.{List, [], ◌∷◌, ◌++◌}
use Prim.Native.Nat.{ℕ, zero, suc, ◌+◌, ◌-◌, ◌<◌, ◌≤◌}
use native.Mathlib.Omega.{arith}
use Rattle.std.proofs.Math.ListN.{get_or-eq_default}
use Rattle.std.proofs.Math.Seq.{get_or-set_same, get_or-set_other}
use Rattle.arm_word.specs.Choice.{pick}
use Rattle.arm_word.specs.ChoiceLaws.{by_test}
use Rattle.x_spelling.specs.Kinds as kind
use Rattle.x_grammar.specs.Grammar.{Token, number, name, mark, Constant, Specification, Process, after_comment, commented, text_process, text_specification, text_specifications}
use Rattle.x_grammar.specs.Grammar as grammar
use Rattle.x_grammar.specs.TokenArrays.{token_of, unread}
use Rattle.x_grammar.specs.Unread.{unread_cons, unread_end}
use Rattle.x_grammar.specs.Automaton as automaton
use Rattle.x_grammar.specs.Automaton.{reads}
use Rattle.x_grammar.specs.GrammarExact.{accepted_text}
use Rattle.x_names.specs.Scope.{Meaning, variable, array, constant, Entry, Scope, same, lookup, word_of, empty_scope, constant_word, declare, declare_all}
use Rattle.front_names_table.specs.View.{text_at}
use Rattle.front_names_judge.specs.Judge.{constant_at, specification_at, width}
use Rattle.front_names_bind.specs.Here.{specification_here, comment_here}
use Rattle.arm_word.specs.Ascii.{ascii}
use Rattle.text_buffer.specs.Buffer as buffer
use Rattle.text_buffer.specs.Buffer.{placed}
use Rattle.text_buffer.specs.BufferLaws.{none, then}
use Rattle.text_names.specs.Names.{data_head, val_head, val_tail, meaning_line, name_lines, program_scope}

-- ── one specification, by its kind ──

-- how many words it declares, its word if it is a val, and its line: `used` words are declared before it, w is its constant's word
abbrev pub item_words : ℕ → ℕ → ℕ
item_words k w = pick (eqb k kind.var) 1 (pick (eqb k kind.array) w 0)

abbrev pub item_value : ℕ → ℕ → ℕ
item_value k w = pick (eqb k kind.var) 0 (pick (eqb k kind.array) 0 w)

abbrev pub item_line : ℕ → ℕ → ℕ → List ℕ → List ℕ
item_line k used w n =
    pick (eqb k kind.var) (data_head (ascii "var  ") used 1 ++ (n ++ (10 ∷ [])))
    (pick (eqb k kind.array) (data_head (ascii "array") used w ++ (n ++ (10 ∷ []))) (val_head ++ (n ++ val_tail w)))

abbrev item_meaning : ℕ → ℕ → ℕ → ℕ → Meaning
item_meaning k row used w =
    pick (eqb k kind.var) (variable (record { row = row; offset = used }))
    (pick (eqb k kind.array) (array (record { row = row; offset = used; length = w })) (constant w))

line_of_item : (k row used w : ℕ) (n : List ℕ) → meaning_line (item_meaning k row used w) n ≡ item_line k used w n
line_of_item k row used w n = by (eqb k kind.var) (eqb k kind.array)
  where
    by : (a b : Bool) → meaning_line (pick a (variable (record { row = row; offset = used })) (pick b (array (record { row = row; offset = used; length = w })) (constant w))) n
        ≡ pick a (data_head (ascii "var  ") used 1 ++ (n ++ (10 ∷ []))) (pick b (data_head (ascii "array") used w ++ (n ++ (10 ∷ []))) (val_head ++ (n ++ val_tail w)))
    by true b = refl
    by false true = refl
    by false false = refl

value_of_item : (k row used w : ℕ) → word_of (item_meaning k row used w) ≡ item_value k w
value_of_item k row used w = by (eqb k kind.var) (eqb k kind.array)
  where
    by : (a b : Bool) → word_of (pick a (variable (record { row = row; offset = used })) (pick b (array (record { row = row; offset = used; length = w })) (constant w))) ≡ pick a 0 (pick b 0 w)
    by true b = refl
    by false true = refl
    by false false = refl

-- ── the vals so far ──

module _ (source places values : List ℕ) where
  -- the word of the latest of so many names that is called n, by the arrays of their tokens and words; 0 if none is
  unfoldable pub found : List ℕ → List ℕ → ℕ → List ℕ → ℕ
  found declared words zero n = 0
  found declared words (suc k) n = pick (same (text_at source places values (get_or declared k 0)) n) (get_or words k 0) (found declared words k n)

  pub found_here : (declared words n : List ℕ) (k : ℕ) → 0 < k → same (text_at source places values (get_or declared (k - 1) 0)) n ≡ true → found declared words k n ≡ get_or words (k - 1) 0
  unfolding found
  found_here declared words n zero h e = absurd (omega arith)
  found_here declared words n (suc k) h e = let q : suc k - 1 ≡ k = omega arith in rw q (rw (rw q at e))

  pub found_next : (declared words n : List ℕ) (k : ℕ) → 0 < k → same (text_at source places values (get_or declared (k - 1) 0)) n ≡ false → found declared words k n ≡ found declared words (k - 1) n
  unfolding found
  found_next declared words n zero h e = absurd (omega arith)
  found_next declared words n (suc k) h e = let q : suc k - 1 ≡ k = omega arith in rw q (rw (rw q at e))

  pub found_none : (declared words n : List ℕ) (k : ℕ) → k ≤ 0 → found declared words k n ≡ 0
  unfolding found
  found_none declared words n zero h = refl
  found_none declared words n (suc k) h = absurd (omega arith)

  found_kept : (declared words n : List ℕ) (m t w k : ℕ) → k ≤ m → found (set declared m t) (set words m w) k n ≡ found declared words k n
  unfolding found
  found_kept declared words n m t w zero h = refl
  found_kept declared words n m t w (suc k) h =
      rw (get_or-set_other declared m k t 0 (omega arith), get_or-set_other words m k w 0 (omega arith), found_kept declared words n m t w k (omega arith)) refl

  found_more : (declared words n : List ℕ) (k t w : ℕ) → k < length declared → k < length words
      → found (set declared k t) (set words k w) (suc k) n ≡ pick (same (text_at source places values t) n) w (found declared words k n)
  unfolding found
  found_more declared words n k t w d l = rw (get_or-set_same declared k t 0 d, get_or-set_same words k w 0 l, found_kept declared words n k t w k (omega arith)) refl

  -- the same for the name at token t
  abbrev pub val_found : List ℕ → List ℕ → ℕ → ℕ → ℕ
  val_found declared words count t = found declared words count (text_at source places values t)

-- ── the kind of the next token ──

abbrev kind_of : Token → ℕ
kind_of (number v) = kind.number
kind_of (name n) = kind.name
kind_of (mark k) = k

abbrev head_kind : List Token → ℕ
head_kind [] = 0
head_kind (t ∷ ts) = kind_of t

token_kind : (i k v : ℕ) → kind_of (token_of i k v) ≡ k
token_kind i k v = by (eqb k kind.number) (eqb k kind.name) refl refl
  where
    by : (a b : Bool) → eqb k kind.number ≡ a → eqb k kind.name ≡ b → kind_of (pick a (number v) (pick b (name i) (mark k))) ≡ k
    by true b e f = sym (eqb-true k kind.number e)
    by false true e f = sym (eqb-true k kind.name f)
    by false false e f = refl

next_kind : (kinds values : List ℕ) (i : ℕ) → head_kind (unread kinds values i) ≡ get_or kinds i 0
next_kind kinds values i =
    by_test (λ (b : Bool). head_kind (unread kinds values i) ≡ get_or kinds i 0) (ltb i (length kinds))
    (λ t. ap head_kind (unread_cons kinds values i (ltb-true i (length kinds) t)) ∙ token_kind i (get_or kinds i 0) (get_or values i 0))
    (λ t. let h = ltb-false i (length kinds) t in ap head_kind (unread_end kinds values i h) ∙ sym (get_or-eq_default kinds 0 h))

-- what follows a mark
after_mark : (kinds values : List ℕ) (i m : ℕ) (w : List Token) → unread kinds values i ≡ mark m ∷ w → unread kinds values (i + 1) ≡ w
after_mark kinds values i m w h =
    by_test (λ (b : Bool). unread kinds values (i + 1) ≡ w) (ltb i (length kinds))
    (λ t. tail_same _ (mark m) _ w (sym (unread_cons kinds values i (ltb-true i (length kinds) t)) ∙ h))
    (λ t. let c = sym (unread_end kinds values i (ltb-false i (length kinds) t)) ∙ h in let z : ◌≡◌ {A = ℕ} 0 1 = cc in absurd (omega arith))
  where
    tail_same : (x y : Token) (xs ys : List Token) → x ∷ xs ≡ y ∷ ys → xs ≡ ys
    tail_same x y xs ys e = cc

-- a process starts with no specification's kind, and with a comment only if it is one after a comment
process_kind : (b : Process) (w : List Token) → ¬ ((kind.var ≤ head_kind (text_process b w)) × (head_kind (text_process b w) ≤ kind.val))
process_kind grammar.skip w h = omega (arith, h.0, h.1)
process_kind grammar.stop w h = omega (arith, h.0, h.1)
process_kind (grammar.assign n e) w h = omega (arith, h.0, h.1)
process_kind (grammar.assign_element n s e) w h = omega (arith, h.0, h.1)
process_kind grammar.empty w h = omega (arith, h.0, h.1)
process_kind (grammar.braces ps) w h = omega (arith, h.0, h.1)
process_kind (grammar.conditional e p q) w h = omega (arith, h.0, h.1)
process_kind (grammar.while e p) w h = omega (arith, h.0, h.1)
process_kind (after_comment p) w h = omega (arith, h.0, h.1)

process_comment : (b : Process) → head_kind (text_process b []) ≡ kind.comment → (p : Process) × (b ≡ after_comment p)
process_comment grammar.skip h = absurd (omega (arith, h))
process_comment grammar.stop h = absurd (omega (arith, h))
process_comment (grammar.assign n e) h = absurd (omega (arith, h))
process_comment (grammar.assign_element n s e) h = absurd (omega (arith, h))
process_comment grammar.empty h = absurd (omega (arith, h))
process_comment (grammar.braces ps) h = absurd (omega (arith, h))
process_comment (grammar.conditional e p q) h = absurd (omega (arith, h))
process_comment (grammar.while e p) h = absurd (omega (arith, h))
process_comment (after_comment p) h = (p, refl)

-- a specification starts with a comment or with its kind
specification_kind : (d : Specification) (w : List Token) → ¬ (head_kind (text_specification d w) ≡ kind.comment)
    → (kind.var ≤ head_kind (text_specification d w)) × (head_kind (text_specification d w) ≤ kind.val)
specification_kind (grammar.var n) w h = (omega arith, omega arith)
specification_kind (grammar.array n c) w h = (omega arith, omega arith)
specification_kind (grammar.val n c) w h = (omega arith, omega arith)
specification_kind (commented d) w h = absurd (h refl)

-- ── the walk ──

-- declared words only grow
grows_one : (text : ℕ → List ℕ) (d : Specification) (s : Scope) → s.words ≤ (declare text d s).words
grows_one text (grammar.var n) s = omega arith
grows_one text (grammar.array n c) s = omega arith
grows_one text (grammar.val n c) s = omega arith
grows_one text (commented d) s = grows_one text d s

grows : (text : ℕ → List ℕ) (ds : List Specification) (s : Scope) → s.words ≤ (declare_all text ds s).words
grows text [] s = omega arith
grows text (d ∷ ds) s = omega (arith, grows_one text d s, grows text ds (declare text d s))

module _ (source kinds places values : List ℕ) where
  abbrev text : ℕ → List ℕ
  text = text_at source places values

  -- the scope that the tokens' specifications make
  abbrev pub scope : Scope
  scope = program_scope text (reads (unread kinds values 0))

  -- and its lines
  abbrev pub lines : List ℕ
  lines = name_lines scope.entries

  -- the tokens are a program whose data is small
  pub record Reads : Type 0 where
    pub few : length kinds ≤ 1024
    pub small : scope.words ≤ 8192
    pub tree : grammar.Program
    pub is : reads (unread kinds values 0) ≡ automaton.accepted tree

  -- the word of the constant at token j
  abbrev pub constant_found : List ℕ → List ℕ → ℕ → ℕ → ℕ
  constant_found declared words count j = pick (eqb (get_or kinds j 0) kind.number) (get_or values j 0) (found source places values declared words count (text j))

  -- before token i: what is left, the scope so far, its lines in the buffer, its words and vals
  pub record Walking (out₀ : List ℕ) (at : ℕ) (declared words out : List ℕ) (end i count used : ℕ) : Type 0 where
    pub rest : List Specification
    pub body : Process
    pub s : Scope
    pub here : unread kinds values i ≡ text_specifications rest (text_process body [])
    pub whole : declare_all text rest s ≡ scope
    pub put : buffer.left out end ≡ placed out₀ at (name_lines s.entries)
    pub used_is : used ≡ s.words
    pub vals : (n : List ℕ) → word_of (lookup s.entries n) ≡ found source places values declared words count n

  pub walk_start : (out declared words : List ℕ) (at : ℕ) → Reads → Walking out at declared words out at 0 0 0
  unfolding name_lines lookup found
  walk_start out declared words at r = by r.tree r.is
    where
      by : (p : grammar.Program) → reads (unread kinds values 0) ≡ automaton.accepted p → Walking out at declared words out at 0 0 0
      by (grammar.program ds b) e = record {
        rest = ds;
        body = b;
        s = empty_scope;
        here = (accepted_text (unread kinds values 0) (grammar.program ds b) e).0;
        whole = sym (ap (program_scope text) e);
        put = none out at;
        used_is = refl;
        vals = λ n. refl;
      }

  module _ (out₀ : List ℕ) (at : ℕ) (declared words out : List ℕ) (end i count used : ℕ) (g : Walking out₀ at declared words out end i count used) where
    head_is : head_kind (text_specifications g.rest (text_process g.body [])) ≡ get_or kinds i 0
    head_is = sym (ap head_kind g.here) ∙ next_kind kinds values i

    -- nothing is left where no comment and no specification stands
    pub walk_end : ¬ (get_or kinds i 0 ≡ kind.comment) → ¬ ((kind.var ≤ get_or kinds i 0) × (get_or kinds i 0 ≤ kind.val)) → buffer.left out end ≡ placed out₀ at (name_lines scope.entries)
    walk_end z other = by g.rest g.whole head_is
      where
        by : (rest : List Specification) → declare_all text rest g.s ≡ scope → head_kind (text_specifications rest (text_process g.body [])) ≡ get_or kinds i 0
            → buffer.left out end ≡ placed out₀ at (name_lines scope.entries)
        by [] w h = g.put ∙ ap (λ (x : Scope). placed out₀ at (name_lines x.entries)) w
        by (d ∷ rest) w h =
            let q = specification_kind d (mark kind.semicolon ∷ text_specifications rest (text_process g.body [])) (λ e. z (sym h ∙ e)) in
            absurd (other (omega (arith, h, q.0), omega (arith, h, q.1)))

    -- past a comment
    pub walk_comment : get_or kinds i 0 ≡ kind.comment → Walking out₀ at declared words out end (i + 1) count used
    walk_comment z = by g.rest g.whole g.here
      where
        -- with what is left then
        to : (rest : List Specification) (b : Process) → declare_all text rest g.s ≡ scope → unread kinds values (i + 1) ≡ text_specifications rest (text_process b [])
            → Walking out₀ at declared words out end (i + 1) count used
        to rest b w h = record { rest = rest; body = b; s = g.s; here = h; whole = w; put = g.put; used_is = g.used_is; vals = g.vals }

        by : (rest : List Specification) → declare_all text rest g.s ≡ scope → unread kinds values i ≡ text_specifications rest (text_process g.body [])
            → Walking out₀ at declared words out end (i + 1) count used
        by [] w h =
            let (p, e) = process_comment g.body (sym (ap head_kind h) ∙ next_kind kinds values i ∙ z) in
            to [] p w (after_mark kinds values i kind.comment (text_process p []) (h ∙ ap (λ (b : Process). text_process b []) e))
        by (d ∷ rest) w h =
            let (d', e, h') = comment_here kinds values d rest (text_process g.body []) i h z in
            to (d' ∷ rest) g.body (sym (ap (λ (x : Specification). declare_all text (x ∷ rest) g.s) e) ∙ w) h'

    -- a specification is left where one stands
    module _ (low : kind.var ≤ get_or kinds i 0) (high : get_or kinds i 0 ≤ kind.val) where
      first_left : (rest : List Specification) × (declare_all text (specification_at kinds values i ∷ rest) g.s ≡ scope) ×
          (unread kinds values (i + width (get_or kinds i 0)) ≡ text_specifications rest (text_process g.body []))
      first_left = by g.rest g.whole g.here
        where
          by : (rest : List Specification) → declare_all text rest g.s ≡ scope → unread kinds values i ≡ text_specifications rest (text_process g.body [])
              → (rest : List Specification) × (declare_all text (specification_at kinds values i ∷ rest) g.s ≡ scope) ×
              (unread kinds values (i + width (get_or kinds i 0)) ≡ text_specifications rest (text_process g.body []))
          by [] w h =
              let e = sym (ap head_kind h) ∙ next_kind kinds values i in
              absurd (process_kind g.body [] (omega (arith, e), omega (arith, e)))
          by (d ∷ rest) w h =
              let x = specification_here kinds values d rest (text_process g.body []) i h (λ z. omega arith) in
              (rest, ap (λ (y : Specification). declare_all text (y ∷ rest) g.s) x.0 ∙ w, x.1)

      abbrev k : ℕ
      k = get_or kinds i 0

      module _ (w : ℕ) (w_is : w ≡ constant_found declared words count (i + 3)) where
        word_is : constant_word text g.s (constant_at kinds values (i + 3)) ≡ w
        word_is = by (eqb (get_or kinds (i + 3) 0) kind.number) ∙ sym w_is
          where
            by : (b : Bool) → constant_word text g.s (pick b (grammar.literal (get_or values (i + 3) 0)) (grammar.named (i + 3)))
                ≡ pick b (get_or values (i + 3) 0) (found source places values declared words count (text (i + 3)))
            by true = refl
            by false = g.vals (text (i + 3))

        entry : Entry
        entry = record { name = text (i + 1); meaning = item_meaning k g.s.rows g.s.words w }

        entries_are : (declare text (specification_at kinds values i) g.s).entries ≡ entry ∷ g.s.entries
        unfolding entry
        entries_are = by (eqb k kind.var) (eqb k kind.array)
          where
            s' : Scope
            s' = g.s

            c : Constant
            c = constant_at kinds values (i + 3)

            by : (a b : Bool) → (declare text (pick a (grammar.var (i + 1)) (pick b (grammar.array (i + 1) c) (grammar.val (i + 1) c))) s').entries
                ≡ record {
                  name = text (i + 1);
                  meaning = pick a (variable (record { row = s'.rows; offset = s'.words }))
                      (pick b (array (record { row = s'.rows; offset = s'.words; length = w })) (constant w));
                } ∷ s'.entries
            by true b = refl
            by false true = ap (λ (x : ℕ). record { name = text (i + 1); meaning = array (record { row = s'.rows; offset = s'.words; length = x }) } ∷ s'.entries) word_is
            by false false = ap (λ (x : ℕ). record { name = text (i + 1); meaning = constant x } ∷ s'.entries) word_is

        words_are : (declare text (specification_at kinds values i) g.s).words ≡ g.s.words + item_words k w
        words_are = by (eqb k kind.var) (eqb k kind.array)
          where
            c : Constant
            c = constant_at kinds values (i + 3)

            by : (a b : Bool) → (declare text (pick a (grammar.var (i + 1)) (pick b (grammar.array (i + 1) c) (grammar.val (i + 1) c))) g.s).words ≡ g.s.words + pick a 1 (pick b w 0)
            by true b = refl
            by false true = ap (λ (x : ℕ). g.s.words + x) word_is
            by false false = refl

        -- its words fit with those before it
        pub walk_room : used + item_words k w ≤ scope.words
        walk_room =
            let (rest, d, h) = first_left in
            omega (arith, g.used_is, words_are, grows text rest (declare text (specification_at kinds values i) g.s), ap (λ (x : Scope). x.words) d)

        -- past the specification, with its line put and its word kept
        pub walk_item : (out' : List ℕ) (end' : ℕ) → count < length declared → count < length words → buffer.left out' end' ≡ placed out end (item_line k used w (text (i + 1)))
            → Walking out₀ at (set declared count (i + 1)) (set words count (item_value k w)) out' end' (i + width k) (count + 1) (used + item_words k w)
        unfolding name_lines lookup entry
        walk_item out' end' ld lw e =
            let (rest, d, h) = first_left in
            let s' = declare text (specification_at kinds values i) g.s in
            let line : item_line k used w (text (i + 1)) ≡ meaning_line entry.meaning entry.name = ap (λ (n : ℕ). item_line k n w (text (i + 1))) g.used_is ∙ sym
            (line_of_item k g.s.rows g.s.words w (text (i + 1))) in
            record {
              rest = rest;
              body = g.body;
              s = s';
              here = h;
              whole = d;
              put =
                  e ∙ ap (placed out end) line ∙ then out₀ out at end (name_lines g.s.entries) (meaning_line entry.meaning entry.name) g.put
                  ∙ ap (λ (es : List Entry). placed out₀ at (name_lines es)) (sym entries_are);
              used_is = ap (λ (n : ℕ). n + item_words k w) g.used_is ∙ sym words_are;
              vals = λ n.
                  ap (λ (es : List Entry). word_of (lookup es n)) entries_are
                  ∙ by_name n (same (text (i + 1)) n)
                  ∙ sym (found_more source places values declared words n count (i + 1) (item_value k w) ld lw)
                  ∙ ap (λ (m : ℕ). found source places values (set declared count (i + 1)) (set words count (item_value k w)) m n) (sym (add-one count));
            }
          where
            by_name : (n : List ℕ) (b : Bool) → word_of (pick b (item_meaning k g.s.rows g.s.words w) (lookup g.s.entries n)) ≡ pick b (item_value k w)
                (found source places values declared words count n)
            by_name n true = value_of_item k g.s.rows g.s.words w
            by_name n false = g.vals n

    -- the same in the words that the code reads: kind, constant, bytes, value, words and width
    module _ (k w v n z : ℕ) (t : List ℕ) (k_is : k ≡ get_or kinds i 0) (low : kind.var ≤ k) (high : k ≤ kind.val) (w_is : w ≡ constant_found declared words count (i + 3))
        (n_is : n ≡ item_words k w) where
      pub next_room : scope.words ≤ 8192 → used + n ≤ 8192
      next_room h = omega (arith, n_is, ap (λ (x : ℕ). item_words x w) k_is, walk_room (omega (arith, k_is)) (omega (arith, k_is)) w w_is)

      pub walk_next : (out' : List ℕ) (end' : ℕ) → count < length declared → count < length words → v ≡ item_value k w → z ≡ width k → t ≡ text (i + 1)
          → buffer.left out' end' ≡ placed out end (item_line k used w t)
          → Walking out₀ at (set declared count (i + 1)) (set words count v) out' end' (i + z) (count + 1) (used + n)
      walk_next out' end' ld lw v_is z_is t_is e =
          let l : buffer.left out' end' ≡ placed out end (item_line (get_or kinds i 0) used w (text (i + 1))) = e ∙ (λ j. placed out end (item_line (k_is j) used w (t_is j))) in
          let g' = walk_item (omega (arith, k_is)) (omega (arith, k_is)) w w_is out' end' ld lw l in
          let v' : item_value (get_or kinds i 0) w ≡ v = ap (λ (x : ℕ). item_value x w) (sym k_is) ∙ sym v_is in
          let z' : width (get_or kinds i 0) ≡ z = ap width (sym k_is) ∙ sym z_is in
          let n' : item_words (get_or kinds i 0) w ≡ n = ap (λ (x : ℕ). item_words x w) (sym k_is) ∙ sym n_is in
          subst (λ (x : ℕ). Walking out₀ at (set declared count (i + 1)) (set words count x) out' end' (i + z) (count + 1) (used + n)) v'
          (subst (λ (x : ℕ). Walking out₀ at (set declared count (i + 1)) (set words count (item_value (get_or kinds i 0) w)) out' end' (i + x) (count + 1) (used + n)) z'
          (subst (λ (x : ℕ). Walking out₀ at (set declared count (i + 1)) (set words count (item_value (get_or kinds i 0) w)) out' end' (i + width (get_or kinds i 0)) (count + 1) (used + x)) n' g'))
