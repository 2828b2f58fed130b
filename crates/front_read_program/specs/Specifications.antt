-- What the readers of specifications answer, from the kinds of the tokens. Laws; rests on the automaton's moves through the specifications.
use Rattle.std.specs.Prelude.{◌≡◌, refl, Bool, List, ◌∷◌, ◌⊎◌, ℕ, zero, suc, ◌+◌, ◌^◌, ◌<◌, ◌≤◌, eqb, length, get_or, Result, Ok, Err}
use Rattle.std.proofs.Common.{ap, ◌∙◌, inl, inr, arith, eqb-true}
use Rattle.std.proofs.lemmas.Bool.{eqb-false}
use Rattle.arm_word.specs.Choice.{pick}
use Rattle.arm_word.specs.ChoiceLaws.{by_test}
use Rattle.x_spelling.specs.Kinds as kind
use Rattle.x_grammar.specs.Grammar.{Token, name, mark, Constant, literal, named, Specification, var, array, val, commented, text_constant}
use Rattle.x_grammar.specs.Automaton.{var_read, array_read, array_named, array_opened, array_sized, val_read, val_named, val_equated, whole, State, at_front, specifying, comments_before, refused, run}
use Rattle.x_grammar.specs.TokenArrays.{unread}
use Rattle.x_grammar.specs.RawRows.{declared_by}
use Rattle.x_grammar.specs.SpecificationMoves.{Names, Constants, Marks, run_front_comment, run_var, run_array, run_val, run_front, run_var_name, run_array_name, run_val_name}
use Rattle.x_grammar.specs.SpecificationMoves.{run_array_open, run_array_close}
use Rattle.x_grammar.specs.SpecificationMoves.{run_val_equal, run_specified, var_stop, array_stop, val_stop, array_constant_stop, val_constant_stop, array_open_stop, array_close_stop, val_equal_stop}
use Rattle.x_grammar.specs.SpecificationMoves.{semicolon_stop}
use Rattle.x_grammar.specs.AutomatonComplete.{all_constant_array, all_constant_val}
use Rattle.x_grammar.specs.Unread.{inside, unread_number, unread_name, unread_mark, unread_not, unread_no_name, unread_no_constant}
use Rattle.front_read_program.specs.SpecificationReaders.{Specifies, Stops, ReadsSpecification, ended, ReadsFront}
use Rattle.front_read_expressions.specs.declared.Ungrammatical.{Ungrammatical}
use Rattle.front_read_program.specs.declared.Front.{Front}

-- the state that a token of some class leads to
module _ (kinds values : List ℕ) (k : ℕ) where
  by_mark : (s s' : State) (m : ℕ) → get_or kinds k 0 ≡ m → 2 < m → ((w : List Token) → run (mark m ∷ w) s ≡ run w s') → run (unread kinds values k) s ≡ run (unread kinds values (k + 1)) s'
  by_mark s s' m e big h = rw (unread_mark kinds values k m e big) (h _)

  by_name : (s : State) (s' : ℕ → State) → get_or kinds k 0 ≡ kind.name → ((w : List Token) (x : ℕ) → run (name x ∷ w) s ≡ run w (s' x))
      → run (unread kinds values k) s ≡ run (unread kinds values (k + 1)) (s' k)
  by_name s s' e h = rw (unread_name kinds values k e) (h _ k)

  -- the constant there
  constant_at : Constant
  constant_at = pick (eqb (get_or kinds k 0) 1) (literal (get_or values k 0)) (named k)

  by_constant : (s : State) (s' : Constant → State) → (get_or kinds k 0 ≡ kind.number) ⊎ (get_or kinds k 0 ≡ kind.name)
      → ((c : Constant) (w : List Token) → run (text_constant c w) s ≡ run w (s' c)) → run (unread kinds values k) s ≡ run (unread kinds values (k + 1)) (s' constant_at)
  unfolding constant_at
  by_constant s s' (inl e) h = rw (unread_number kinds values k e, e) (h (literal (get_or values k 0)) _)
  by_constant s s' (inr e) h = rw (unread_name kinds values k e, e) (h (named k) _)

  -- or where it stops
  no_mark : (s : State) (m : ℕ) → 2 < m → ¬ (get_or kinds k 0 ≡ m) → Marks m s → run (unread kinds values k) s ≡ refused (unread kinds values k)
  no_mark s m big z h = h _ (unread_not kinds values k m big z)

  no_name : (s : State) → ¬ (get_or kinds k 0 ≡ kind.name) → Names s → run (unread kinds values k) s ≡ refused (unread kinds values k)
  no_name s z h = h _ (unread_no_name kinds values k z)

  no_constant : (s : State) → ¬ (get_or kinds k 0 ≡ kind.number) → ¬ (get_or kinds k 0 ≡ kind.name) → Constants s → run (unread kinds values k) s ≡ refused (unread kinds values k)
  no_constant s y z h = h _ (unread_no_constant kinds values k y z)

pub one_or_two : (k : ℕ) → 1 ≤ k → k ≤ 2 → (k ≡ 1) ⊎ (k ≡ 2)
one_or_two k l h = by_test (λ (b : Bool). (k ≡ 1) ⊎ (k ≡ 2)) (eqb k 1) (λ e. inl (eqb-true k 1 e)) (λ e. let z = eqb-false k 1 e in inr (omega arith))

-- a place at most 1,024 after a token of the array fits in 64 bits
pub few_on : (kinds : List ℕ) (i k d : ℕ) → get_or kinds i 0 ≡ k → 0 < k → length kinds ≤ 1024 → d ≤ 1024 → i + d < 2 ^ 64
few_on kinds i k d e p h l = let z = inside kinds i k e p in omega arith

-- a whole specification that was read up to j, and its `;`
pub ended_part : (kinds values : List ℕ) (i j d : ℕ) (s : Specification) → i + d < j → j ≤ length kinds → declared_by s ≡ d
    → ((b : List Specification) (c : ℕ) → run (unread kinds values i) (at_front b c) ≡ run (unread kinds values j) (specifying b c (whole s)))
    → ReadsSpecification kinds values i (ended kinds j d)
ended_part kinds values i j d s far short e h =
    by_test (λ (b : Bool). ReadsSpecification kinds values i (pick b (Ok (record { next = j + 1; rows = d })) (Err (record { token = j })))) (eqb (get_or kinds j 0) kind.semicolon)
    (λ q. let f = eqb-true (get_or kinds j 0) kind.semicolon q in
    let l = inside kinds j kind.semicolon f (omega arith) in
    record {
      tree = s;
      short = omega arith;
      far = omega arith;
      declares = e;
      comes = λ b c. h b c ∙ by_mark kinds values j (specifying b c (whole s)) _ kind.semicolon f (omega arith) (λ w. run_specified b c w s);
    })
    (λ q. record {
      inside = short;
      stops = λ b c. h b c ∙ no_mark kinds values j (specifying b c (whole s)) kind.semicolon (omega arith) (eqb-false (get_or kinds j 0) kind.semicolon q) (semicolon_stop b c s);
    })

-- the place after one that is n tokens on
next_place : (kinds values : List ℕ) (i n m : ℕ) (s : State) → i + n + 1 ≡ m → run (unread kinds values (i + n + 1)) s ≡ run (unread kinds values m) s
next_place kinds values i n m s e = ap (λ (x : ℕ). run (unread kinds values x) s) e

module _ (kinds values : List ℕ) (i : ℕ) where
  -- var n
  module _ (is_var : get_or kinds i 0 ≡ kind.var) where
    at_var : (b : List Specification) (c : ℕ) → run (unread kinds values i) (at_front b c) ≡ run (unread kinds values (i + 1)) (specifying b c var_read)
    at_var b c = by_mark kinds values i (at_front b c) _ kind.var is_var (omega arith) (run_var b c)

    pub var_no_name : ¬ (get_or kinds (i + 1) 0 ≡ kind.name) → Stops kinds values i (i + 1)
    var_no_name z = let l = inside kinds i kind.var is_var (omega arith) in
        record { inside = omega arith; stops = λ b c. at_var b c ∙ no_name kinds values (i + 1) (specifying b c var_read) z (var_stop b c) }

    pub var_read_to : get_or kinds (i + 1) 0 ≡ kind.name → ReadsSpecification kinds values i (ended kinds (i + 2) 1)
    var_read_to e =
        let l = inside kinds (i + 1) kind.name e (omega arith) in
        ended_part kinds values i (i + 2) 1 (var (i + 1)) (omega arith) (omega arith) refl
        (λ b c. at_var b c ∙ by_name kinds values (i + 1) (specifying b c var_read) (λ x. specifying b c (whole (var x))) e (run_var_name b c) ∙ next_place kinds values i 1 (i + 2) _ (omega arith))

  -- array n [ c ]
  module _ (is_array : get_or kinds i 0 ≡ kind.array) where
    at_array : (b : List Specification) (c : ℕ) → run (unread kinds values i) (at_front b c) ≡ run (unread kinds values (i + 1)) (specifying b c array_read)
    at_array b c = by_mark kinds values i (at_front b c) _ kind.array is_array (omega arith) (run_array b c)

    pub array_no_name : ¬ (get_or kinds (i + 1) 0 ≡ kind.name) → Stops kinds values i (i + 1)
    array_no_name z = let l = inside kinds i kind.array is_array (omega arith) in
        record { inside = omega arith; stops = λ b c. at_array b c ∙ no_name kinds values (i + 1) (specifying b c array_read) z (array_stop b c) }

    module _ (is_name : get_or kinds (i + 1) 0 ≡ kind.name) where
      at_array_name : (b : List Specification) (c : ℕ) → run (unread kinds values i) (at_front b c) ≡ run (unread kinds values (i + 2)) (specifying b c (array_named (i + 1)))
      at_array_name b c = at_array b c ∙ by_name kinds values (i + 1) (specifying b c array_read) (λ x. specifying b c (array_named x)) is_name (run_array_name b c)
          ∙ next_place kinds values i 1 (i + 2) _ (omega arith)

      pub array_no_open : ¬ (get_or kinds (i + 2) 0 ≡ kind.open_subscript) → Stops kinds values i (i + 2)
      array_no_open z = let l = inside kinds (i + 1) kind.name is_name (omega arith) in
          record {
            inside = omega arith;
            stops = λ b c. at_array_name b c ∙ no_mark kinds values (i + 2) (specifying b c (array_named (i + 1))) kind.open_subscript (omega arith) z (array_open_stop b c (i + 1));
          }

      module _ (is_open : get_or kinds (i + 2) 0 ≡ kind.open_subscript) where
        at_array_open : (b : List Specification) (c : ℕ) → run (unread kinds values i) (at_front b c) ≡ run (unread kinds values (i + 3)) (specifying b c (array_opened (i + 1)))
        at_array_open b c =
            at_array_name b c ∙ by_mark kinds values (i + 2) (specifying b c (array_named (i + 1))) _ kind.open_subscript is_open (omega arith) (λ w. run_array_open b c w (i + 1))
            ∙ next_place kinds values i 2 (i + 3) _ (omega arith)

        pub array_no_constant : ¬ (get_or kinds (i + 3) 0 ≡ kind.number) → ¬ (get_or kinds (i + 3) 0 ≡ kind.name) → Stops kinds values i (i + 3)
        array_no_constant y z = let l = inside kinds (i + 2) kind.open_subscript is_open (omega arith) in
            record { inside = omega arith; stops = λ b c. at_array_open b c ∙ no_constant kinds values (i + 3) (specifying b c (array_opened (i + 1))) y z (array_constant_stop b c (i + 1)) }

        module _ (is_constant : (get_or kinds (i + 3) 0 ≡ kind.number) ⊎ (get_or kinds (i + 3) 0 ≡ kind.name)) (l : i + 3 < length kinds) where
          at_array_constant : (b : List Specification) (c : ℕ)
              → run (unread kinds values i) (at_front b c) ≡ run (unread kinds values (i + 4)) (specifying b c (array_sized (i + 1) (constant_at kinds values (i + 3))))
          at_array_constant b c = at_array_open b c
              ∙ by_constant kinds values (i + 3) (specifying b c (array_opened (i + 1))) (λ x. specifying b c (array_sized (i + 1) x)) is_constant (λ x w. all_constant_array x b c (i + 1) w)
              ∙ next_place kinds values i 3 (i + 4) _ (omega arith)

          pub array_no_close : ¬ (get_or kinds (i + 4) 0 ≡ kind.close_subscript) → Stops kinds values i (i + 4)
          array_no_close z = record {
            inside = omega arith;
            stops =
                λ b c. at_array_constant b c ∙ no_mark kinds values (i + 4) (specifying b c (array_sized (i + 1) (constant_at kinds values (i + 3)))) kind.close_subscript (omega arith) z
                (array_close_stop b c (i + 1) _);
          }

          pub array_read_to : get_or kinds (i + 4) 0 ≡ kind.close_subscript → ReadsSpecification kinds values i (ended kinds (i + 5) 1)
          array_read_to e =
              let l2 = inside kinds (i + 4) kind.close_subscript e (omega arith) in
              ended_part kinds values i (i + 5) 1 (array (i + 1) (constant_at kinds values (i + 3))) (omega arith) (omega arith) refl
              (λ b c. at_array_constant b c ∙ by_mark kinds values (i + 4) (specifying b c (array_sized (i + 1) (constant_at kinds values (i + 3)))) _ kind.close_subscript e (omega arith)
              (λ w. run_array_close b c w (i + 1) _) ∙ next_place kinds values i 4 (i + 5) _ (omega arith))

  -- val n = c
  module _ (is_val : get_or kinds i 0 ≡ kind.val) where
    at_val : (b : List Specification) (c : ℕ) → run (unread kinds values i) (at_front b c) ≡ run (unread kinds values (i + 1)) (specifying b c val_read)
    at_val b c = by_mark kinds values i (at_front b c) _ kind.val is_val (omega arith) (run_val b c)

    pub val_no_name : ¬ (get_or kinds (i + 1) 0 ≡ kind.name) → Stops kinds values i (i + 1)
    val_no_name z = let l = inside kinds i kind.val is_val (omega arith) in
        record { inside = omega arith; stops = λ b c. at_val b c ∙ no_name kinds values (i + 1) (specifying b c val_read) z (val_stop b c) }

    module _ (is_name : get_or kinds (i + 1) 0 ≡ kind.name) where
      at_val_name : (b : List Specification) (c : ℕ) → run (unread kinds values i) (at_front b c) ≡ run (unread kinds values (i + 2)) (specifying b c (val_named (i + 1)))
      at_val_name b c = at_val b c ∙ by_name kinds values (i + 1) (specifying b c val_read) (λ x. specifying b c (val_named x)) is_name (run_val_name b c)
          ∙ next_place kinds values i 1 (i + 2) _ (omega arith)

      pub val_no_equal : ¬ (get_or kinds (i + 2) 0 ≡ kind.equal) → Stops kinds values i (i + 2)
      val_no_equal z = let l = inside kinds (i + 1) kind.name is_name (omega arith) in
          record
          { inside = omega arith; stops = λ b c. at_val_name b c ∙ no_mark kinds values (i + 2) (specifying b c (val_named (i + 1))) kind.equal (omega arith) z (val_equal_stop b c (i + 1)) }

      module _ (is_equal : get_or kinds (i + 2) 0 ≡ kind.equal) where
        at_val_equal : (b : List Specification) (c : ℕ) → run (unread kinds values i) (at_front b c) ≡ run (unread kinds values (i + 3)) (specifying b c (val_equated (i + 1)))
        at_val_equal b c = at_val_name b c ∙ by_mark kinds values (i + 2) (specifying b c (val_named (i + 1))) _ kind.equal is_equal (omega arith) (λ w. run_val_equal b c w (i + 1))
            ∙ next_place kinds values i 2 (i + 3) _ (omega arith)

        pub val_no_constant : ¬ (get_or kinds (i + 3) 0 ≡ kind.number) → ¬ (get_or kinds (i + 3) 0 ≡ kind.name) → Stops kinds values i (i + 3)
        val_no_constant y z = let l = inside kinds (i + 2) kind.equal is_equal (omega arith) in
            record { inside = omega arith; stops = λ b c. at_val_equal b c ∙ no_constant kinds values (i + 3) (specifying b c (val_equated (i + 1))) y z (val_constant_stop b c (i + 1)) }

        pub val_read_to : (get_or kinds (i + 3) 0 ≡ kind.number) ⊎ (get_or kinds (i + 3) 0 ≡ kind.name) → i + 3 < length kinds → ReadsSpecification kinds values i (ended kinds (i + 4) 0)
        val_read_to e l =
            ended_part kinds values i (i + 4) 0 (val (i + 1) (constant_at kinds values (i + 3))) (omega arith) (omega arith) refl
            (λ b c.
            at_val_equal b c ∙ by_constant kinds values (i + 3) (specifying b c (val_equated (i + 1))) (λ x. specifying b c (whole (val (i + 1) x))) e (λ x w. all_constant_val x b c (i + 1) w)
            ∙ next_place kinds values i 3 (i + 4) _ (omega arith))

-- The front: comments and specifications, up to the process
declared_commented : (c : ℕ) (s : Specification) → declared_by (comments_before c s) ≡ declared_by s
declared_commented zero s = refl
declared_commented (suc c) s = declared_commented c (commented s)

module _ (kinds values : List ℕ) (i n start : ℕ) where
  pub front_process : i ≤ length kinds → ¬ (get_or kinds i 0 ≡ kind.comment) → ¬ (get_or kinds i 0 ≡ kind.var) → ¬ (get_or kinds i 0 ≡ kind.array) → ¬ (get_or kinds i 0 ≡ kind.val)
      → ReadsFront kinds values i n start (Ok (record { start = start; process = i; rows = n }))
  front_process l w x y z = record {
    short = l;
    few = omega arith;
    arrives = λ b c e. record {
      specifications = b;
      comments = c;
      comes = run_front b c _ (unread_not kinds values i kind.comment (omega arith) w) (unread_not kinds values i kind.var (omega arith) x)
          (unread_not kinds values i kind.array (omega arith) y) (unread_not kinds values i kind.val (omega arith) z);
      declared = refl;
      placed = e;
    };
  }

  at_comment : get_or kinds i 0 ≡ kind.comment → (b : List Specification) (c : ℕ) → run (unread kinds values i) (at_front b c) ≡ run (unread kinds values (i + 1)) (at_front b (suc c))
  at_comment e b c = by_mark kinds values i (at_front b c) _ kind.comment e (omega arith) (run_front_comment b c)

  pub front_comment : (r : Result Front Ungrammatical) → get_or kinds i 0 ≡ kind.comment → ReadsFront kinds values (i + 1) n start r → ReadsFront kinds values i n start r
  front_comment (Ok f) e h =
      record {
        short = h.short;
        few = let w = h.few in omega arith;
        arrives = λ b c q. let a = h.arrives b (suc c) (omega arith) in
            record { specifications = a.specifications; comments = a.comments; comes = at_comment e b c ∙ a.comes; declared = a.declared; placed = a.placed };
      }
  front_comment (Err x) e h = record { inside = h.inside; stops = λ b c. at_comment e b c ∙ h.stops b (suc c) }

  pub front_specification : (j d : ℕ) → Specifies kinds values i j d → (r : Result Front Ungrammatical) → ReadsFront kinds values j (n + d) j r → ReadsFront kinds values i n start r
  front_specification j d g (Ok f) h =
      record {
        short = h.short;
        few = let w = h.few in let u = g.far in omega arith;
        arrives = λ b c q. let a = h.arrives (comments_before c g.tree ∷ b) 0 (omega arith) in
            let x = a.declared in
            let y = declared_commented c g.tree in
            let z = g.declares in
            record { specifications = a.specifications; comments = a.comments; comes = g.comes b c ∙ a.comes; declared = omega arith; placed = a.placed };
      }
  front_specification j d g (Err x) h = record { inside = h.inside; stops = λ b c. g.comes b c ∙ h.stops (comments_before c g.tree ∷ b) 0 }
