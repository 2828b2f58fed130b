-- Every move of the source is some rows begun: none, one, or two where a list's own row stands before the row of its first process. Lemmas; they rest on RowRelation and theorem_simulation's Generic.
use Rattle.std.specs.Prelude.{◌≡◌, Bool, ◌⊎◌, List, [], ◌∷◌, ℕ, suc, ◌+◌, ◌<◌, get_or, eqb, ltb}
use Rattle.std.proofs.Math.Path.{refl}
use Rattle.std.proofs.Math.Bool.{true, false}
use Rattle.std.proofs.Common.{inl, inr, arith}
use Rattle.arm_word.specs.Choice.{pick}
use Rattle.arm_word.specs.Access.{Access}
use Rattle.x_program.specs.Tree.{Expression, constant, variable, element, monadic, diadic, bracket, Process, skip, stop, assign, assign_element, braces, conditional, loop, Processes, none, also}
use Rattle.x_program.specs.Core.{core, core_process, core_list}
use Rattle.x_program.specs.Table.{word}
use Rattle.x_meaning.specs.SourceRun as source
use Rattle.x_meaning.specs.SourceRun.{End, going, finish, stopped, bad_subscript, state, top, rest, in_order, move}
use Rattle.x_meaning.specs.TableRun as rows
use Rattle.x_meaning.specs.TableRun.{next, ended, settle, begun, turn}
use Rattle.theorem_simulation.specs.Generic.{here, more, Steps, Rests}
use Rattle.theorem_simulation.specs.Block.{expression_size, process_size, list_size}
use Rattle.theorem_walker.specs.RowTrees.{Value, Does}
use Rattle.theorem_walker.specs.RowRelation.{Follows, done, evaluate, work₁, work₂, check, load, execute, set_variable, store, choose, repeat, Related, between, over, Seen, seen_next, seen_end}

-- ── what falls at each move that begins no row ──

-- the sizes of trees are those of the image's simulation; what needs no row of its own counts too
abbrev item_size : source.Item → ℕ
item_size (source.evaluate e) = expression_size e
item_size (source.work₁ o) = 1
item_size (source.work₂ o) = 1
item_size (source.check a) = 1
item_size (source.load a) = 1
item_size (source.execute p) = process_size p
item_size (source.set_variable v) = 1
item_size (source.store a) = 1
item_size (source.choose p q) = suc (process_size p + process_size q)
item_size (source.repeat e p) = suc (process_size p + process_size (loop e p))

-- of all that is to do, and 0 after an end
abbrev continuation_size : List source.Item → ℕ
continuation_size [] = 0
continuation_size (x ∷ c) = item_size x + continuation_size c

abbrev size_by : End → List source.Item → ℕ
size_by going c = suc (continuation_size c)
size_by finish c = 0
size_by stopped c = 0
size_by bad_subscript c = 0

abbrev pub state_size : source.State → ℕ
state_size s = size_by s.end s.continuation

-- a list's size is that of its processes
in_order_size : (ps : Processes) (c : List source.Item) → continuation_size (in_order ps c) ≡ list_size ps + continuation_size c
in_order_size none c = omega arith
in_order_size (also p ps) c = omega (arith, in_order_size ps c)

module _ (t : List ℕ) where
  -- a move, as rows begun
  abbrev Turns : source.State → rows.State → Type 0
  Turns = Steps move (turn t) state_size (Related t) Seen

  -- ── none, one, one more ──

  -- the source alone goes on
  no_turn : {s : source.State} {m : rows.State} → Related t (move s) m → state_size (move s) < state_size s → Turns s m
  no_turn {m = m} r h = record { n = 0; z = m; run = here; related = r; falls = λ _. h }

  -- a row is begun before the move
  more_turns : {s : source.State} {m z : rows.State} → Seen s m → turn t m ≡ z → Turns s z → Turns s m
  more_turns v e b = record {
    n = suc b.n;
    z = b.z;
    run = more {n = b.n} v (rw e b.run);
    related = b.related;
    falls = λ h. absurd (omega arith);
  }

  -- a row is begun with the move
  one_turn : {s : source.State} {m z : rows.State} → Seen s m → turn t m ≡ z → Related t (move s) z → Turns s m
  one_turn {z = z} v e r = record { n = 1; z = z; run = more {n = 0} v (rw e here); related = r; falls = λ h. absurd (omega arith) }

  -- ── a row begun, by the tree that it stands for ──

  module _ {r : ℕ} {c : List source.Item} {l : List rows.Item} (d : List ℕ) (a : List Access) (s : List ℕ) where
    -- its parts are to do, in the same order
    begins : {i : source.Item} {x : List source.Item} (y : List rows.Item) → turn t (next d a r l s) ≡ settle t y d a s → Follows t x y → move (state d a (i ∷ c) s going) ≡ state d a x s going
        → Turns (state d a (i ∷ c) s going) (next d a r l s)
    begins y e f h = one_turn {z = settle t y d a s} seen_next e (rw h (between f))

    -- one clause a kind; brackets have no row
    of_expression : (e : Expression) → Value t r (core e) → Follows t c l → Turns (state d a (source.evaluate e ∷ c) s going) (next d a r l s)
    unfolding settle begun
    of_expression (constant w) v f = one_turn {z = settle t l d a (w ∷ s)} seen_next (rw (v.0, v.1)) (between f)
    of_expression (variable x) v f = one_turn {z = settle t l d a (get_or d x.offset 0 ∷ s)} seen_next (rw (v.0, v.1)) (between f)
    of_expression (element x e) v f = begins (rows.begin (word t r 2) ∷ rows.check r ∷ rows.load r ∷ l) (rw v.0) (evaluate v.3 (check v.2 (load v.1 f))) refl
    of_expression (monadic o e) v f = begins (rows.begin (word t r 2) ∷ rows.work₁ r ∷ l) (rw v.0) (evaluate v.2 (work₁ v.1 f)) refl
    of_expression (diadic o e g) v f = begins (rows.begin (word t r 2) ∷ rows.begin (word t r 3) ∷ rows.work₂ r ∷ l) (rw v.0) (evaluate v.2 (evaluate v.3 (work₂ v.1 f))) refl
    of_expression (bracket e) v f = no_turn (between (evaluate v f)) (omega arith)

    -- braces have none but that of their list, and `{ }` is skip
    of_process : (p : Process) → Does t r (core_process p) → Follows t c l → Turns (state d a (source.execute p ∷ c) s going) (next d a r l s)
    unfolding settle begun
    of_process skip v f = begins l (rw v) f refl
    of_process stop v f = one_turn {z = ended d a stopped} seen_next (rw v) (over stopped refl)
    of_process (assign x e) v f = begins (rows.begin (word t r 2) ∷ rows.set_variable r ∷ l) (rw v.0) (evaluate v.2 (set_variable v.1 f)) refl
    of_process (assign_element x i e) v f =
        begins (rows.begin (word t r 2) ∷ rows.check r ∷ rows.begin (word t r 3) ∷ rows.store r ∷ l) (rw v.0) (evaluate v.3 (check v.2 (evaluate v.4 (store v.1 f)))) refl
    of_process (braces none) v f = begins l (rw v) f refl
    of_process (braces (also p ps)) v f = no_turn (between (execute ps refl v f)) (omega (arith, in_order_size ps c))
    of_process (conditional e p q) v f = begins (rows.begin (word t r 1) ∷ rows.choose r ∷ l) (rw v.0) (evaluate v.1 (choose v.2 v.3 f)) refl
    of_process (loop e p) v f = begins (rows.begin (word t r 1) ∷ rows.repeat r ∷ l) (rw v.0) (evaluate v.1 (repeat v f)) refl

  -- a process with the rest of its list: the list's row is begun first
  module _ {r : ℕ} {x c : List source.Item} {l : List rows.Item} (d : List ℕ) (a : List Access) (s : List ℕ) (p : Process) where
    of_list : (ps : Processes) → x ≡ in_order ps c → Does t r (core_list (also p ps)) → Follows t c l → Turns (state d a (source.execute p ∷ x) s going) (next d a r l s)
    unfolding begun
    of_list none e v f = of_process d a s p v (rw e f)
    of_list (also q qs) e v f =
        more_turns {z = next d a (word t r 1) (rows.begin (word t r 2) ∷ l) s} seen_next (rw v.0) (of_process {l = rows.begin (word t r 2) ∷ l} d a s p v.1 (rw e (execute qs refl v.2 f)))

  -- ── what is done at once behind a row: the source catches up ──

  module _ {c : List source.Item} {l : List rows.Item} (d : List ℕ) (a : List Access) (s : List ℕ) (f : Follows t c l) where
    -- a check that fails is an end
    by_check : (b : Bool)
        → Related t (state d a c s (pick b going bad_subscript)) (pick b (settle t l d a s) (ended d a bad_subscript))
        × (size_by (pick b going bad_subscript) c < 2 + continuation_size c)
    by_check true = (between f, omega arith)
    by_check false = (over bad_subscript refl, omega arith)

    module _ (p : Process) where
      -- the part that an if chooses, and the body of a while with the while again, or what comes after it
      by_choose : (q : Process) (r : ℕ) → Does t (word t r 2) (core_process p) → Does t (word t r 3) (core_process q) → (b : Bool)
          → Related t (state d a (pick b (source.execute q) (source.execute p) ∷ c) s going) (next d a (pick b (word t r 3) (word t r 2)) l s)
          × (item_size (pick b (source.execute q) (source.execute p)) < suc (process_size p + process_size q))
      unfolding settle
      by_choose q r v w true = (between (execute none refl w f), omega arith)
      by_choose q r v w false = (between (execute none refl v f), omega arith)

      by_repeat : (e : Expression) (r : ℕ) → Does t r (core_process (loop e p)) → (b : Bool)
          → Related t (state d a (pick b c (source.execute p ∷ source.execute (loop e p) ∷ c)) s going) (pick b (settle t l d a s) (next d a (word t r 2) (rows.begin r ∷ l) s))
          × (continuation_size (pick b c (source.execute p ∷ source.execute (loop e p) ∷ c)) < suc (process_size p + process_size (loop e p) + continuation_size c))
      unfolding settle
      by_repeat e r v true = (between f, omega arith)
      by_repeat e r v false = (between (execute none refl v.2 (execute none refl v f)), omega arith)

  -- one clause a thing to do
  block : {c : List source.Item} {l : List rows.Item} → Follows t c l → (d : List ℕ) (a : List Access) (s : List ℕ) → Turns (state d a c s going) (settle t l d a s)
  unfolding settle
  block done d a s = no_turn (over finish refl) (omega arith)
  block (evaluate {e = e} v f) d a s = of_expression d a s e v f
  block (work₁ e f) d a s = rw e (no_turn (between f) (omega arith))
  block (work₂ e f) d a s = rw e (no_turn (between f) (omega arith))
  block (check {a = x} e f) d a s = let r = by_check d a s f (ltb (top s) x.length) in rw e (no_turn r.0 (omega arith))
  block (load e f) d a s = rw e (no_turn (between f) (omega arith))
  block (execute {p = p} ps e v f) d a s = of_list d a s p ps e v f
  block (set_variable e f) d a s = rw e (no_turn (between f) (omega arith))
  block (store e f) d a s = rw e (no_turn (between f) (omega arith))
  block (choose {p = p} {q = q} {r = i} v w f) d a s = let r = by_choose d a (rest s) f p q i v w (eqb (top s) 0) in no_turn r.0 (omega arith)
  block (repeat {e = e} {p = p} {r = i} v f) d a s = let r = by_repeat d a (rest s) f p e i v (eqb (top s) 0) in no_turn r.0 (omega arith)

  -- ── every move ──
  pub simulates : (s : source.State) (m : rows.State) → Related t s m → Turns s m ⊎ Rests move (turn t) state_size (Related t) Seen s m
  simulates s m (between {d = d} {a = a} {s = p} f) = inl (block f d a p)
  simulates s m (over going h) = absurd (let z : ◌≡◌ {A = ℕ} 0 1 = cc in omega arith)
  simulates s m (over finish h) = inr (record { moves_no_more = refl; steps_no_more = refl; seen = seen_end finish })
  simulates s m (over stopped h) = inr (record { moves_no_more = refl; steps_no_more = refl; seen = seen_end stopped })
  simulates s m (over bad_subscript h) = inr (record { moves_no_more = refl; steps_no_more = refl; seen = seen_end bad_subscript })
