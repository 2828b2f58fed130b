-- What a state of the source's run and a point of the table's run have to do with each other. Definitions, and what is seen of related ones. They rest on RowTrees.
-- A row that is begun is followed at once by all that is to do before the next; so the source may be some moves behind, and is never ahead.
use Rattle.std.specs.Prelude.{◌≡◌, refl, Bool, true, false, List, [], ◌∷◌, ℕ, suc, ltb, eqb}
use Rattle.arm_word.specs.Choice.{pick}
use Rattle.arm_word.specs.Access.{Access}
use Rattle.x_program.specs.Tree.{Monadic, Diadic, Variable, Array, Expression, Process, loop, Processes, also}
use Rattle.x_program.specs.Core.{core, core_process, core_list}
use Rattle.x_program.specs.Table.{word, monadic_of, diadic_of}
use Rattle.x_meaning.specs.SourceRun as source
use Rattle.x_meaning.specs.SourceRun.{End, going, finish, bad_subscript, state, top, rest, in_order, move, moves}
use Rattle.x_meaning.specs.TableRun as rows
use Rattle.x_meaning.specs.TableRun.{next, ended, offset_of, length_of, settle, is_going}
use Rattle.theorem_walker.specs.RowTrees.{Value, Does}

-- ── what is to do: a tree, and the row that stands for it ──

pub data Follows (t : List ℕ) : List source.Item → List rows.Item → Type 0 where
  done : Follows t [] []
  evaluate : {e : Expression} {r : ℕ} {c : List source.Item} {l : List rows.Item} → Value t r (core e) → Follows t c l → Follows t (source.evaluate e ∷ c) (rows.begin r ∷ l)
  work₁ : {o : Monadic} {r : ℕ} {c : List source.Item} {l : List rows.Item} → monadic_of (word t r 1) ≡ o → Follows t c l → Follows t (source.work₁ o ∷ c) (rows.work₁ r ∷ l)
  work₂ : {o : Diadic} {r : ℕ} {c : List source.Item} {l : List rows.Item} → diadic_of (word t r 1) ≡ o → Follows t c l → Follows t (source.work₂ o ∷ c) (rows.work₂ r ∷ l)
  check : {a : Array} {r : ℕ} {c : List source.Item} {l : List rows.Item} → length_of t r ≡ a.length → Follows t c l → Follows t (source.check a ∷ c) (rows.check r ∷ l)
  load : {a : Array} {r : ℕ} {c : List source.Item} {l : List rows.Item} → offset_of t r ≡ a.offset → Follows t c l → Follows t (source.load a ∷ c) (rows.load r ∷ l)
  -- one row for a process and those of its braces that are left: a list is grouped to the right
  execute : {p : Process} (ps : Processes) {r : ℕ} {x c : List source.Item} {l : List rows.Item} → x ≡ in_order ps c → Does t r (core_list (also p ps)) → Follows t c l
      → Follows t (source.execute p ∷ x) (rows.begin r ∷ l)
  set_variable : {v : Variable} {r : ℕ} {c : List source.Item} {l : List rows.Item} → offset_of t r ≡ v.offset → Follows t c l → Follows t (source.set_variable v ∷ c) (rows.set_variable r ∷ l)
  store : {a : Array} {r : ℕ} {c : List source.Item} {l : List rows.Item} → offset_of t r ≡ a.offset → Follows t c l → Follows t (source.store a ∷ c) (rows.store r ∷ l)
  choose : {p q : Process} {r : ℕ} {c : List source.Item} {l : List rows.Item} → Does t (word t r 2) (core_process p) → Does t (word t r 3) (core_process q) → Follows t c l
      → Follows t (source.choose p q ∷ c) (rows.choose r ∷ l)
  repeat : {e : Expression} {p : Process} {r : ℕ} {c : List source.Item} {l : List rows.Item} → Does t r (core_process (loop e p)) → Follows t c l
      → Follows t (source.repeat e p ∷ c) (rows.repeat r ∷ l)

-- ── the relation ──

-- between two rows, or after an end
pub data Related (t : List ℕ) : source.State → rows.State → Type 0 where
  between : {d : List ℕ} {a : List Access} {c : List source.Item} {s : List ℕ} {l : List rows.Item} → Follows t c l → Related t (state d a c s going) (settle t l d a s)
  over : {d : List ℕ} {a : List Access} {c : List source.Item} {s : List ℕ} (e : End) → is_going e ≡ false → Related t (state d a c s e) (ended d a e)

-- ── what is seen of the source ──

-- some number of moves gives the same words, access list and end
pub record Seen (s : source.State) (m : rows.State) : Type 0 where
  pub j : ℕ
  pub words : m.words ≡ (moves j s).words
  pub trace : m.trace ≡ (moves j s).trace
  pub end : m.end ≡ (moves j s).end

-- what is seen of the source's next state is seen of this one
pub back : (s : source.State) (m : rows.State) → Seen (move s) m → Seen s m
back s m v = record { j = suc v.j; words = v.words; trace = v.trace; end = v.end }

-- nothing has changed, where a row is next
pub seen_next : {d : List ℕ} {a : List Access} {c : List source.Item} {s s' : List ℕ} {r : ℕ} {l : List rows.Item} → Seen (state d a c s going) (next d a r l s')
seen_next = record { j = 0; words = refl; trace = refl; end = refl }

pub seen_end : {d : List ℕ} {a : List Access} {c : List source.Item} {s : List ℕ} (e : End) → Seen (state d a c s e) (ended d a e)
seen_end e = record { j = 0; words = refl; trace = refl; end = refl }

-- a check, and a while's choice, by their tests
seen_check : {d : List ℕ} {a : List Access} {c : List source.Item} {s : List ℕ} {m : rows.State} (b : Bool) → Seen (state d a c s going) m
    → Seen (state d a c s (pick b going bad_subscript)) (pick b m (ended d a bad_subscript))
seen_check true v = v
seen_check false v = seen_end bad_subscript

seen_choice : {d : List ℕ} {a : List Access} {c x : List source.Item} {s : List ℕ} {m n : rows.State} (b : Bool) → Seen (state d a c s going) m → Seen (state d a x s going) n
    → Seen (state d a (pick b c x) s going) (pick b m n)
seen_choice true v w = v
seen_choice false v w = w

-- what is to do between two rows are moves of the source
settled : {t : List ℕ} {c : List source.Item} {l : List rows.Item} → Follows t c l → (d : List ℕ) (a : List Access) (s : List ℕ) → Seen (state d a c s going) (settle t l d a s)
unfolding settle
settled done d a s = back _ _ (seen_end finish)
settled (evaluate v f) d a s = seen_next
settled (work₁ e f) d a s = rw e (back _ _ (settled f d a _))
settled (work₂ e f) d a s = rw e (back _ _ (settled f d a _))
settled (check {a = x} e f) d a s = rw e (back _ _ (seen_check (ltb (top s) x.length) (settled f d a s)))
settled (load e f) d a s = rw e (back _ _ (settled f d _ _))
settled (execute ps e v f) d a s = seen_next
settled (set_variable e f) d a s = rw e (back _ _ (settled f _ a _))
settled (store e f) d a s = rw e (back _ _ (settled f _ _ _))
settled (choose v w f) d a s = seen_next
settled (repeat v f) d a s = back _ _ (seen_choice (eqb (top s) 0) (settled f d a (rest s)) seen_next)

pub seen : {t : List ℕ} {s : source.State} {m : rows.State} → Related t s m → Seen s m
seen (between {d = d} {a = a} {s = s} f) = settled f d a s
seen (over e h) = seen_end e
