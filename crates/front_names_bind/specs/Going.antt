-- The walk over the specifications: what is left to declare, from what the arrays hold. Claims and laws; assumes nothing.
-- Rests on Judge, Here and the name table's view.
use Rattle.std.specs.Prelude.{◌≡◌, Bool, true, false, ℕ, ◌+◌, ◌-◌, ◌*◌, ◌<◌, ◌≤◌, eqb, ltb, get_or, Result, Ok, Err}
use Rattle.std.proofs.Math.Path.{refl, ap}
use Rattle.std.proofs.Common.{sym, ap₂, ◌∙◌, arith, length-append, ltb-false}
use mathlib.Core.List.{List, [], ◌∷◌, ◌++◌, append_assoc, append-nil}
use Rattle.std.proofs.Math.ListN.{length}
use Rattle.std.proofs.lemmas.List.Edits.{sets}
use Rattle.arm_word.specs.Choice.{pick}
use Rattle.arm_word.specs.ChoiceLaws.{by_test}
use Rattle.x_spelling.specs.Kinds as kind
use Rattle.x_tokens.specs.Refusals as refusal
use Rattle.x_grammar.specs.Grammar.{Specification, commented, Process, text_process, text_specifications}
use Rattle.x_grammar.specs.TokenArrays.{unread}
use Rattle.x_program.specs.Layout.{row_words}
use Rattle.x_program.specs.Rows.{declared_rows}
use Rattle.x_names.specs.Scope.{Meaning, Entry, Scope, lookup, empty_scope, meaning_of, declare, declare_all}
use Rattle.x_names.specs.Complaints.{Complaint, Verdict, fine, refused, is_known, when, bad_length, of_specification, of_specifications}
use Rattle.x_names.proofs.AcceptedNames.{none_right}
use Rattle.x_names.specs.FirstComplaint.{first}
use Rattle.x_names.specs.Resolve.{declarations}
use Rattle.front_read_expressions.specs.Parts.{table_one}
use Rattle.front_names_table.specs.Sorts as name_sort
use Rattle.front_names_table.specs.View.{Table, view, bare, meant, by_sort, text_at, place_at}
use Rattle.front_names_table.specs.View as views
use Rattle.front_names_table.specs.Held.{held}
use Rattle.front_names_judge.specs.Judge.{Constant, verdict_of, or_else, first_append, listed, over, constant_read, constant_at, complaints_by, complaints_bare, item_of, item_row, specification_at, width}
use Rattle.front_names_judge.specs.Judge.{specified_complaints}
use Rattle.front_names_judge.specs.Judge.{specified_scope, specified_rows}
use Rattle.front_names_bind.specs.Here.{specification_here, comment_here, none_left, some_left}
use Rattle.front_names_table.specs.declared.Meaning as found
use Rattle.x_tokens.specs.declared.refusal.Refusal.{Refusal}
use Rattle.front_names_table.specs.declared.Names.{Names}
use Rattle.front_names_table.specs.declared.Sort.TheVariants.{Var, Array, Val}
use Rattle.front_names_judge.specs.declared.Item.{Item}
use Rattle.front_names_bind.specs.declared.Declared.{Declared}

-- the scope that the name table holds
abbrev pub scope_of : List ℕ → Table → ℕ → ℕ → ℕ → Scope
scope_of source names count rows words = record { entries = view source names count; rows = rows; names = count; words = words }

-- a specification without a complaint has room
room_over : (names words more : ℕ) → over names words more ≡ false → (names ≤ 255) × (words + more ≤ 8192)
room_over names words more = by_test (λ (b : Bool). pick b true (ltb 8192 (words + more)) ≡ false → (names ≤ 255) × (words + more ≤ 8192)) (ltb 255 names)
    (λ _ e. let z : ◌≡◌ {A = ℕ} 0 1 = cc in absurd (omega arith)) (λ f e. (ltb-false 255 names f, ltb-false 8192 (words + more) e))

quiet : (xs ys : List Complaint) → first (xs ++ ys) ≡ fine → (first xs ≡ fine) × (first ys ≡ fine)
quiet [] ys e = (refl, e)
quiet (x ∷ xs) ys e = let z : ◌≡◌ {A = ℕ} 0 1 = cc in absurd (omega arith)

listed_none : (p : ℕ) (ks : List ℕ) → first (listed p ks) ≡ fine → ks ≡ []
listed_none p [] e = refl
listed_none p (k ∷ ks) e = let z : ◌≡◌ {A = ℕ} 0 1 = cc in absurd (omega arith)

not_when : (b : Bool) (n : ℕ) → when b n ≡ [] → b ≡ false
not_when true n e = let z : ◌≡◌ {A = ℕ} 0 1 = cc in absurd (omega arith)
not_when false n e = refl

pub room : (k : ℕ) (m : Meaning) (status word names words rows p q : ℕ) → first (complaints_by k m status word names words p q) ≡ fine
    → (names ≤ 255) × (words + (item_of k word rows words).words ≤ 8192) × ((item_of k word rows words).rows ≤ 1)
unfolding complaints_by item_of
room k m status word names words rows p q = by (eqb k kind.var) (eqb k kind.array) (eqb status 0)
  where
    known : List ℕ
    known = when (is_known m) refusal.declared_twice

    full : ℕ → List ℕ
    full more = when (over names words more) refusal.too_much

    array_numbers : Bool → List ℕ
    array_numbers c = known ++ pick c (when (bad_length word) refusal.bad_length ++ full word) (full 0)

    rest : Bool → List Complaint
    rest c = listed q (pick c [] (status ∷ []))

    it : Bool → Bool → Item
    it a b =
        pick a (record { sort = Var; row = rows; word = words; size = 1; rows = 1; words = 1 })
        (pick b (record { sort = Array; row = rows; word = words; size = word; rows = 1; words = word })
        (record { sort = Val; row = 0; word = word; size = 0; rows = 0; words = 0 }))

    has : (more : ℕ) → known ++ full more ≡ [] → (names ≤ 255) × (words + more ≤ 8192)
    has more e = room_over names words more (not_when (over names words more) refusal.too_much (none_right known (full more) e))

    by : (a b c : Bool) → first (pick a (listed p (known ++ full 1)) (pick b (listed p (array_numbers c) ++ rest c) (listed p (known ++ full 0) ++ rest c))) ≡ fine
        → (names ≤ 255) × (words + (it a b).words ≤ 8192) × ((it a b).rows ≤ 1)
    by true b c e = let r = has 1 (listed_none p (known ++ full 1) e) in (r.0, r.1, omega arith)
    by false true true e =
        let x = listed_none p (array_numbers true) (quiet (listed p (array_numbers true)) (rest true) e).0 in
        let y = none_right (when (bad_length word) refusal.bad_length) (full word) (none_right known (when (bad_length word) refusal.bad_length ++ full word) x) in
        let r = room_over names words word (not_when (over names words word) refusal.too_much y) in
        (r.0, r.1, omega arith)
    by false true false e = let x = listed_none q (status ∷ []) (quiet (listed p (array_numbers false)) (rest false) e).1 in let z : ◌≡◌ {A = ℕ} 0 1 = cc in absurd (omega arith)
    by false false c e = let r = has 0 (listed_none p (known ++ full 0) (quiet (listed p (known ++ full 0)) (rest c) e).0) in (r.0, r.1, omega arith)

first_fine : (cs : List Complaint) → first cs ≡ fine → cs ≡ []
first_fine [] e = refl
first_fine (c ∷ cs) e = let z : ◌≡◌ {A = ℕ} 0 1 = cc in absurd (omega arith)

item_sized : (k word rows words : ℕ) → length (item_row (item_of k word rows words)) ≡ row_words * (item_of k word rows words).rows
unfolding item_of
item_sized k word rows words = by (eqb k kind.var) (eqb k kind.array)
  where
    it : Bool → Bool → Item
    it a b =
        pick a (record { sort = Var; row = rows; word = words; size = 1; rows = 1; words = 1 })
        (pick b (record { sort = Array; row = rows; word = words; size = word; rows = 1; words = word })
        (record { sort = Val; row = 0; word = word; size = 0; rows = 0; words = 0 }))

    by : (a b : Bool) → length (item_row (it a b)) ≡ row_words * (it a b).rows
    by true b = refl
    by false true = refl
    by false false = refl

-- a name of n bytes at p with its item, into the name table and, with its row, into the syntax table
pub record Put (e : Item) (p n names made used : ℕ) (old new : Table) (t t' : List ℕ) (count' rows' words' : ℕ) : Type 0 where
  pub count : count' ≡ names + 1
  pub rows : rows' ≡ made + e.rows
  pub words : words' ≡ used + e.words
  pub name : (source : List ℕ) → view source new (names + 1) ≡ record { name = views.text source p n; meaning = by_sort (name_sort.number e.sort) e.row e.word e.size } ∷ view source old names
  pub table : t' ≡ sets t (row_words * made) (item_row e)

-- in the code's words, with the names' sizes before and after
abbrev pub Puts : Item → ℕ → ℕ → Declared → Names 256 → Names 256 → List ℕ → List ℕ → List ℕ → List ℕ → Declared → Type 0
Puts e p n d old new sizes sizes' t t' d' = Put e p n old.count d.rows d.words (held old sizes) (held new sizes') t t' new.count d'.rows d'.words

-- what `declare` answers, with the arrays that it leaves
module _ (source kinds places values : List ℕ) where
  abbrev text : ℕ → List ℕ
  text = text_at source places values

  abbrev place : ℕ → ℕ
  place = place_at places

  -- the complaints of the specification at i, in the words that the code reads
  abbrev pub read_complaints : Scope → ℕ → List Complaint
  read_complaints s i =
      complaints_by (get_or kinds i 0) (meaning_of text s (i + 1)) (constant_read text s (constant_at kinds values (i + 3))).status (constant_read text s (constant_at kinds values (i + 3))).word
      s.names s.words (place (i + 1)) (place (i + 3))

  abbrev pub read_item : Scope → ℕ → Item
  read_item s i = item_of (get_or kinds i 0) (constant_read text s (constant_at kinds values (i + 3))).word s.rows s.words

  pub record Entered (s : Scope) (i : ℕ) (names names' : Table) (t t' : List ℕ) (count' rows' words' : ℕ) : Type 0 where
    pub quiet : first (read_complaints s i) ≡ fine
    pub count : count' ≡ s.names + 1
    pub rows : rows' ≡ s.rows + (read_item s i).rows
    pub words : words' ≡ s.words + (read_item s i).words
    pub name : view source names' (s.names + 1)
        ≡ record { name = text (i + 1); meaning = by_sort (name_sort.number (read_item s i).sort) (read_item s i).row (read_item s i).word (read_item s i).size } ∷ s.entries
    pub table : t' ≡ sets t (row_words * s.rows) (item_row (read_item s i))

  abbrev pub Enters : Scope → ℕ → Table → Table → List ℕ → List ℕ → ℕ → Result Declared Refusal → Type 0
  Enters s i names names' t t' count' (Err r) = first (read_complaints s i) ≡ refused (record { number = refusal.number r.reason; place = r.place })
  Enters s i names names' t t' count' (Ok d) = Entered s i names names' t t' count' d.rows d.words

  -- whatever the sizes of the arrays so far, which the code doesn't keep
  abbrev pub EntersAny : ℕ → Declared → Names 256 → Names 256 → List ℕ → List ℕ → Result Declared Refusal → Type 0
  EntersAny i d old new t t' r =
      (sizes : List ℕ) → 256 ≤ length sizes
      → (sizes' : List ℕ) × (256 ≤ length sizes') × Enters (scope_of source (held old sizes) old.count d.rows d.words) i (held old sizes) (held new sizes') t t' new.count r

  -- the code's words are those that stand in the arrays
  module _ (s : Scope) (i : ℕ) (k : ℕ) (m : found.Meaning) (c : Constant) (p n q : ℕ) (ek : k ≡ get_or kinds i 0) (ep : p ≡ place (i + 1)) (en : n ≡ get_or values (i + 1) 0)
      (em : meant m ≡ bare (lookup s.entries (views.text source p n))) (ec : c ≡ constant_read text s (constant_at kinds values (i + 3))) (eq : q ≡ place (i + 3)) where
    pub judged_as : {A : Type 0} (v : Result A Refusal) → verdict_of v ≡ first (complaints_by k (meant m) c.status c.word s.names s.words p q) → first (read_complaints s i) ≡ verdict_of v
    judged_as v h =
        let em' : meant m ≡ bare (meaning_of text s (i + 1)) = em ∙ ap₂ (λ (a b : ℕ). bare (lookup s.entries (views.text source a b))) ep en in
        sym (h ∙ (λ j. first (complaints_by (ek j) (em' j) (ec j).status (ec j).word s.names s.words (ep j) (eq j))) ∙ ap first (complaints_bare _ _ _ _ _ _ _ _))

    pub put_as : (e : Item) (names names' : Table) (t t' : List ℕ) (count rows words : ℕ) → e ≡ item_of k c.word s.rows s.words → s.entries ≡ view source names s.names
        → first (read_complaints s i) ≡ fine
        → Put e p n s.names s.rows s.words names names' t t' count rows words → Entered s i names names' t t' count rows words
    put_as e names names' t t' count rows words he hs f h =
        let e' : e ≡ read_item s i = he ∙ (λ j. item_of (ek j) (ec j).word s.rows s.words) in
        record {
          quiet = f;
          count = h.count;
          rows = h.rows ∙ ap (λ (x : Item). s.rows + x.rows) e';
          words = h.words ∙ ap (λ (x : Item). s.words + x.words) e';
          name = h.name source ∙ (λ j. record { name = views.text source (ep j) (en j); meaning = by_sort (name_sort.number (e' j).sort) (e' j).row (e' j).word (e' j).size } ∷ sym hs j);
          table = h.table ∙ ap (λ (x : Item). sets t (row_words * s.rows) (item_row x)) e';
        }

  pub entered_room : (s : Scope) (i : ℕ) (names names' : Table) (t t' : List ℕ) (count rows words : ℕ) → Entered s i names names' t t' count rows words → s.rows ≤ s.names
      → (rows ≤ count) × (count ≤ 256) × (words ≤ 8192)
  entered_room s i names names' t t' count rows words h l =
      let c = constant_read text s (constant_at kinds values (i + 3)) in
      let r = room (get_or kinds i 0) (meaning_of text s (i + 1)) c.status c.word s.names s.words s.rows (place (i + 1)) (place (i + 3)) h.quiet in
      (omega (arith, h.rows, h.count, r.2), omega (arith, h.count, r.0), omega (arith, h.words, r.1))

  -- what is left of the specifications ds at token i, the names so far being in the table and their rows, `done`, in the syntax table
  pub record Going (ds : List Specification) (b : Process) (t₀ : List ℕ) (names : Table) (t : List ℕ) (i count rows words : ℕ) : Type 0 where
    pub left : List Specification
    pub here : unread kinds values i ≡ text_specifications left (text_process b [])
    pub complaints : of_specifications text place ds empty_scope ≡ of_specifications text place left (scope_of source names count rows words)
    pub scope : declare_all text ds empty_scope ≡ declare_all text left (scope_of source names count rows words)
    pub done : List ℕ
    pub sized : length done ≡ row_words * rows
    pub written : t ≡ sets t₀ 0 done
    pub declared : declared_rows (declarations text ds empty_scope) 0 ≡ done ++ declared_rows (declarations text left (scope_of source names count rows words)) words

  -- the specifications are read to their end, or one has the first complaint
  pub record Filled (ds : List Specification) (t t' : List ℕ) (names : Table) (count rows words : ℕ) : Type 0 where
    pub quiet : of_specifications text place ds empty_scope ≡ []
    pub scope : declare_all text ds empty_scope ≡ scope_of source names count rows words
    pub table : t' ≡ sets t 0 (declared_rows (declarations text ds empty_scope) 0)
    pub sized : length (declared_rows (declarations text ds empty_scope) 0) ≡ row_words * rows

  abbrev pub Fills : List Specification → List ℕ → List ℕ → Table → ℕ → Result Declared Refusal → Type 0
  Fills ds t t' names count (Err r) = first (of_specifications text place ds empty_scope) ≡ refused (record { number = refusal.number r.reason; place = r.place })
  Fills ds t t' names count (Ok d) = Filled ds t t' names count d.rows d.words

  module _ (ds : List Specification) (b : Process) (t₀ : List ℕ) where
    pub going_start : (names : Table) → unread kinds values 0 ≡ text_specifications ds (text_process b []) → Going ds b t₀ names t₀ 0 0 0 0
    unfolding view
    going_start names h = record { left = ds; here = h; complaints = refl; scope = refl; done = []; sized = refl; written = refl; declared = refl }

    module _ (names : Table) (t : List ℕ) (i count rows words : ℕ) (g : Going ds b t₀ names t i count rows words) (before : i < length kinds - length (text_process b [])) where
      -- some specification is left
      some_here : (d : Specification) × (rest : List Specification) × (g.left ≡ d ∷ rest)
      some_here = by g.left refl
        where
          by : (l : List Specification) → g.left ≡ l → (d : Specification) × (rest : List Specification) × (g.left ≡ d ∷ rest)
          by [] e = absurd (some_left kinds values (text_process b []) i (g.here ∙ ap (λ (l : List Specification). text_specifications l (text_process b [])) e) before)
          by (d ∷ rest) e = (d, rest, e)

      abbrev s : Scope
      s = scope_of source names count rows words

      pub going_comment : get_or kinds i 0 ≡ kind.comment → Going ds b t₀ names t (i + 1) count rows words
      going_comment z =
          let (d, rest, e) = some_here in
          let (d', f, h) = comment_here kinds values d rest (text_process b []) i (g.here ∙ ap (λ (l : List Specification). text_specifications l (text_process b [])) e) z in
          let l : g.left ≡ commented d' ∷ rest = e ∙ ap (λ (x : Specification). x ∷ rest) f in
          record {
            left = d' ∷ rest;
            here = h;
            complaints = g.complaints ∙ ap (λ (x : List Specification). of_specifications text place x s) l;
            scope = g.scope ∙ ap (λ (x : List Specification). declare_all text x s) l;
            done = g.done;
            sized = g.sized;
            written = g.written;
            declared = g.declared ∙ ap (λ (x : List Specification). g.done ++ declared_rows (declarations text x s) words) l;
          }

      module _ (z : ¬ (get_or kinds i 0 ≡ kind.comment)) where
        -- the specification at i is the first that is left
        first_left : (rest : List Specification) × (g.left ≡ specification_at kinds values i ∷ rest)
            × (unread kinds values (i + width (get_or kinds i 0)) ≡ text_specifications rest (text_process b []))
        first_left =
            let (d, rest, e) = some_here in
            let h = specification_here kinds values d rest (text_process b []) i (g.here ∙ ap (λ (l : List Specification). text_specifications l (text_process b [])) e) z in
            (rest, e ∙ ap (λ (x : Specification). x ∷ rest) (sym h.0), h.1)

        pub going_refused : (c : Complaint) → first (read_complaints s i) ≡ refused c → first (of_specifications text place ds empty_scope) ≡ refused c
        going_refused c e =
            let (rest, l, h) = first_left in
            ap first (g.complaints ∙ ap (λ (x : List Specification). of_specifications text place x s) l)
            ∙ first_append (of_specification text place (specification_at kinds values i) s) (of_specifications text place rest (declare text (specification_at kinds values i) s))
            ∙ ap (λ (v : Verdict). or_else v (first (of_specifications text place rest (declare text (specification_at kinds values i) s))))
            (ap first (specified_complaints text place s kinds values i) ∙ e)

        pub going_on : (names' : Table) (t' : List ℕ) (count' rows' words' : ℕ) → Entered s i names names' t t' count' rows' words'
            → Going ds b t₀ names' t' (i + width (get_or kinds i 0)) count' rows' words'
        going_on names' t' count' rows' words' n =
            let (rest, l, h) = first_left in
            let d = specification_at kinds values i in
            let e = read_item s i in
            let entered : List Entry = record { name = text (i + 1); meaning = by_sort (name_sort.number e.sort) e.row e.word e.size } ∷ view source names count in
            let v : entered ≡ view source names' count' = sym n.name ∙ ap (view source names') (sym n.count) in
            let r = sym n.rows in let c = sym n.count in let w = sym n.words in
            let s' : declare text d s ≡ scope_of source names' count' rows' words' =
            specified_scope text place s kinds values i ∙ (λ j. record { entries = v j; rows = r j; names = c j; words = w j }) in
            let q : of_specification text place d s ≡ [] = first_fine (of_specification text place d s) (ap first (specified_complaints text place s kinds values i) ∙ n.quiet) in
            let z = item_sized (get_or kinds i 0) (constant_read text s (constant_at kinds values (i + 3))).word rows words in
            record {
              left = rest;
              here = h;
              complaints =
                  g.complaints ∙ ap (λ (x : List Specification). of_specifications text place x s) l ∙ ap (λ (cs : List Complaint). cs ++ of_specifications text place rest (declare text d s)) q
                  ∙ ap (of_specifications text place rest) s';
              scope = g.scope ∙ ap (λ (x : List Specification). declare_all text x s) l ∙ ap (declare_all text rest) s';
              done = g.done ++ item_row (read_item s i);
              sized = length-append g.done (item_row e) ∙ omega (arith, g.sized, n.rows);
              written = n.table ∙ table_one t₀ t g.done (item_row e) 0 rows rows g.sized (omega arith) g.written;
              declared =
                  g.declared ∙ ap (λ (x : List Specification). g.done ++ declared_rows (declarations text x s) words) l
                  ∙ ap (λ (x : List ℕ). g.done ++ x) (specified_rows text place s kinds values i (declarations text rest (declare text d s)))
                  ∙ sym (append_assoc g.done (item_row e) (declared_rows (declarations text rest (declare text d s)) (words + e.words)))
                  ∙ (λ j. (g.done ++ item_row e) ++ declared_rows (declarations text rest (s' j)) (w j));
            }

    pub going_end : (names : Table) (t : List ℕ) (i count rows words : ℕ) → Going ds b t₀ names t i count rows words → length kinds - length (text_process b []) ≤ i
        → Filled ds t₀ t names count rows words
    unfolding declared_rows
    going_end names t i count rows words g h =
        let e = none_left kinds values g.left (text_process b []) i g.here h in
        let d : declared_rows (declarations text ds empty_scope) 0 ≡ g.done =
        g.declared ∙ ap (λ (x : List Specification). g.done ++ declared_rows (declarations text x (scope_of source names count rows words)) words) e ∙ append-nil g.done in
        record {
          quiet = g.complaints ∙ ap (λ (x : List Specification). of_specifications text place x (scope_of source names count rows words)) e;
          scope = g.scope ∙ ap (λ (x : List Specification). declare_all text x (scope_of source names count rows words)) e;
          table = g.written ∙ ap (sets t₀ 0) (sym d);
          sized = ap length d ∙ g.sized;
        }
