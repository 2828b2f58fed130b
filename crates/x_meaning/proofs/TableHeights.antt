-- How much a valid table's run has to do at a time, and which words it touches: the to-do list and the pile stay short, and every access lies in the data. Laws; rests on TableRun.
-- A row's parts are earlier rows, so an open row leaves at most three things to do, and each of them at most one word on the pile.
use Rattle.std.specs.Prelude.{◌≡◌, Bool, ◌⊎◌, ℕ, suc, ◌+◌, ◌*◌, ◌≤◌, ◌<◌, length, eqb}
use Rattle.std.proofs.Math.Path.{refl}
use Rattle.std.proofs.Common.{subst, inl, arith, ltb-true}
use Rattle.std.proofs.Math.Logic.{inr}
use mathlib.Core.List.{List, [], ◌∷◌, ◌++◌}
use Rattle.std.proofs.Math.Dec.{ltb}
use Rattle.arm_word.specs.Choice.{pick}
use Rattle.arm_word.specs.ChoiceLaws.{by_test}
use Rattle.arm_word.specs.Access.{Access}
use Rattle.x_program.specs.Layout as layout
use Rattle.x_program.specs.Table.{word}
use Rattle.x_program.specs.ValidTable.{shape, process_shape, data_before, rows_in, data_in}
use Rattle.x_program.specs.FittingRows.{Earlier, Fitting, Valid}
use Rattle.x_program.proofs.ValidTableLaws.{data_grows, row_words_fit, value_kinds, process_kinds}
use Rattle.x_meaning.specs.SourceRun.{End, going, finish, stopped, bad_subscript, top, rest}
use Rattle.x_meaning.specs.TableRun.{Item, begin, work₁, work₂, check, load, set_variable, store, choose, repeat, State, next, ended, offset_of, length_of, settle, begun, turn_by, turn, first}
use Rattle.x_meaning.specs.TableHeights.{Below}

below_more : (n : ℕ) (l : List Access) (a : Access) → Below n l → a.offset < n → Below n (l ++ a ∷ [])
below_more n [] a b h = (h, tt)
below_more n (x ∷ l) a b h = (b.0, below_more n l a b.1 h)

module _ (t : List ℕ) (v : Valid t) where
  -- ── what is to do can be done ──

  -- row r with k things to do after it and s words on the pile
  pub record Low (r k s : ℕ) : Type 0 where
    pub inside : r < rows_in t
    pub few : k + 3 * suc r ≤ 3 * rows_in t
    pub short : s ≤ k

  pub record Kind (low high r : ℕ) : Type 0 where
    pub from : low ≤ word t r 0
    pub to : word t r 0 ≤ high

  -- from this pile: whatever words are worked out, each thing finds its own row low enough, and its access in the data
  abbrev pub Fits : List Item → List ℕ → Type 0
  Fits [] s = Unit {0}
  Fits (begin r ∷ c) s =
      Low r (length c) (length s) × ((Kind layout.number layout.diadic r × ((w : ℕ) → Fits c (w ∷ s))) ⊎ (Kind layout.skip layout.while r × Fits c s))
  Fits (work₁ r ∷ c) s = (w : ℕ) → Fits c (w ∷ rest s)
  Fits (work₂ r ∷ c) s = (w : ℕ) → Fits c (w ∷ rest (rest s))
  Fits (check r ∷ c) s = top s < length_of t r → Fits c s
  Fits (load r ∷ c) s = (offset_of t r + top s < data_in t) × ((w : ℕ) → Fits c (w ∷ rest s))
  Fits (set_variable r ∷ c) s = (offset_of t r < data_in t) × Fits c (rest s)
  Fits (store r ∷ c) s = (offset_of t r + top (rest s) < data_in t) × Fits c (rest (rest s))
  Fits (choose r ∷ c) s = Low r (length c) (length (rest s)) × (word t r 0 ≡ layout.if) × Fits c (rest s)
  Fits (repeat r ∷ c) s = Low r (length c) (length (rest s)) × (word t r 0 ≡ layout.while) × Fits c (rest s)

  -- a point of the run: while it goes on, its next row and what is to do after it; its accesses
  abbrev Stands : End → State → Type 0
  Stands going x = Fits (begin x.next ∷ x.continuation) x.stack
  Stands finish x = Unit {0}
  Stands stopped x = Unit {0}
  Stands bad_subscript x = Unit {0}

  pub record Sits (x : State) : Type 0 where
    pub stands : Stands x.end x
    pub below : Below (data_in t) x.trace

  -- ── rows ──

  -- a row of kind k that is in the table
  fitting : (r k : ℕ) → r < rows_in t → word t r 0 ≡ k → Fitting t r k
  fitting r k h e = row_words_fit t r k (v.fitting r h) e

  -- a part is lower than its row
  lower : {r k s p j n low high : ℕ} → Low r k s → Earlier low high t r p → j ≤ k + 3 → n ≤ j → Low p j n
  lower l e h m = record { inside = omega (arith, l.inside, e.earlier); few = omega (arith, l.few, e.earlier); short = m }

  -- the words that an earlier row declares are in the data
  array_inside : {r d : ℕ} → r < rows_in t → Earlier layout.array layout.array t r d → (i : ℕ) → i < word t d 2 → word t d 1 + i < data_in t
  unfolding data_before
  array_inside {r} {d} h e i b =
      let k : word t d 0 ≡ layout.array = omega (arith, e.from, e.to) in
      let f = fitting d layout.array (omega (arith, e.earlier)) k in
      let g : data_before t d + word t d 2 ≤ data_in t = rw k at (data_grows t (suc d) (rows_in t) (omega (arith, e.earlier))) in
      unfold shape in omega (arith, f.0, g)

  variable_inside : {r d : ℕ} → r < rows_in t → Earlier layout.var layout.var t r d → word t d 1 < data_in t
  unfolding data_before
  variable_inside {r} {d} h e =
      let k : word t d 0 ≡ layout.var = omega (arith, e.from, e.to) in
      let f = fitting d layout.var (omega (arith, e.earlier)) k in
      let g : data_before t d + word t d 2 ≤ data_in t = rw k at (data_grows t (suc d) (rows_in t) (omega (arith, e.earlier))) in
      unfold shape in omega (arith, f.0, f.1, g)

  -- a part of row r that is next, with at most three things more to do
  value_next : {r k n p : ℕ} (c : List Item) (s : List ℕ) → Low r k n → Earlier layout.number layout.diadic t r p → length c ≤ k + 3 → length s ≤ length c
      → ((w : ℕ) → Fits c (w ∷ s)) → Fits (begin p ∷ c) s
  value_next c s l e h m f = (lower l e h m, inl (record { from = e.from; to = e.to }, f))

  process_next : {r k n p : ℕ} (c : List Item) (s : List ℕ) → Low r k n → Earlier layout.skip layout.while t r p → length c ≤ k + 3 → length s ≤ length c
      → Fits c s → Fits (begin p ∷ c) s
  process_next c s l e h m f = (lower l e h m, inr (record { from = e.from; to = e.to }, f))

  -- ── what is done between two rows ──
  settle_sits : (c : List Item) (d : List ℕ) (l : List Access) (s : List ℕ) → Fits c s → Below (data_in t) l → Sits (settle t c d l s)
  unfolding settle
  settle_sits [] d l s f b = record { stands = tt; below = b }
  settle_sits (begin r ∷ c) d l s f b = record { stands = f; below = b }
  settle_sits (work₁ r ∷ c) d l s f b = settle_sits c d l _ (f _) b
  settle_sits (work₂ r ∷ c) d l s f b = settle_sits c d l _ (f _) b
  settle_sits (check r ∷ c) d l s f b =
      by_test (λ (z : Bool). ltb (top s) (length_of t r) ≡ z → Sits (pick z (settle t c d l s) (ended d l bad_subscript))) (ltb (top s) (length_of t r))
      (λ _ e. settle_sits c d l s (f (ltb-true (top s) (length_of t r) e)) b)
      (λ _ e. record { stands = tt; below = b })
      refl
  settle_sits (load r ∷ c) d l s f b = settle_sits c d _ _ (f.1 _) (below_more (data_in t) l _ b f.0)
  settle_sits (set_variable r ∷ c) d l s f b = settle_sits c _ l _ f.1 b
  settle_sits (store r ∷ c) d l s f b = settle_sits c _ _ _ f.1 (below_more (data_in t) l _ b f.0)
  settle_sits (choose r ∷ c) d l s f b =
      let n = fitting r layout.if f.0.inside f.1 in
      let low = f.0 in
      unfold shape process_shape in record {
        stands = by_test (λ (z : Bool). Fits (begin (pick z (word t r 3) (word t r 2)) ∷ c) (rest s)) (eqb (top s) 0)
            (λ _. process_next c (rest s) low n.2 (omega arith) low.short f.2)
            (λ _. process_next c (rest s) low n.1 (omega arith) low.short f.2);
        below = b;
      }
  settle_sits (repeat r ∷ c) d l s f b =
      let n = fitting r layout.while f.0.inside f.1 in
      let low = f.0 in
      by_test (λ (z : Bool). Sits (pick z (settle t c d l (rest s)) (next d l (word t r 2) (begin r ∷ c) (rest s)))) (eqb (top s) 0)
      (λ _. settle_sits c d l (rest s) f.2 b)
      (λ _. unfold shape process_shape in
      record { stands = process_next (begin r ∷ c) (rest s) low n.1 (omega arith) (omega (arith, low.short)) (low, inr (record { from = omega (arith, f.1); to = omega (arith, f.1) }, f.2)); below = b })

  -- ── a row is begun ──
  module _ (r : ℕ) (d : List ℕ) (l : List Access) (c : List Item) (s : List ℕ) (low : Low r (length c) (length s)) (b : Below (data_in t) l) where
    fits : (k : ℕ) → word t r 0 ≡ k → Fitting t r k
    fits k e = fitting r k low.inside e

    -- a value's row leaves one word more
    value_sits : Kind layout.number layout.diadic r → ((w : ℕ) → Fits c (w ∷ s)) → Sits (begun t r d l c s)
    unfolding begun shape
    value_sits k f =
        value_kinds (word t r 0) k.from k.to
        (λ e. rw e (settle_sits c d l _ (f _) b))
        (λ e. rw e (settle_sits c d l _ (f _) b))
        (λ e.
        let n = fits layout.element e in
        rw e (record { stands = value_next (check r ∷ load r ∷ c) s low n.1 (omega arith) (omega (arith, low.short)) (λ i h. (array_inside low.inside n.0 i h, f)); below = b }))
        (λ e. let n = fits layout.monadic e in rw e (record { stands = value_next (work₁ r ∷ c) s low n.1 (omega arith) (omega (arith, low.short)) (λ _. f); below = b }))
        (λ e.
        let n = fits layout.diadic e in
        rw e (record {
          stands = value_next (begin (word t r 3) ∷ work₂ r ∷ c) s low n.1 (omega arith) (omega (arith, low.short))
              (λ x. value_next (work₂ r ∷ c) (x ∷ s) low n.2 (omega arith) (omega (arith, low.short)) (λ _. f));
          below = b;
        }))

    -- a process's row none
    process_sits : Kind layout.skip layout.while r → Fits c s → Sits (begun t r d l c s)
    unfolding begun shape process_shape
    process_sits k f =
        process_kinds (word t r 0) k.from k.to
        (λ e. rw e (settle_sits c d l s f b))
        (λ e. rw e (record { stands = tt; below = b }))
        (λ e.
        let n = fits layout.assign e in
        rw e (record { stands = value_next (set_variable r ∷ c) s low n.1 (omega arith) (omega (arith, low.short)) (λ _. (variable_inside low.inside n.0, f)); below = b }))
        (λ e.
        let n = fits layout.assign_element e in
        rw e (record {
          stands = value_next (check r ∷ begin (word t r 3) ∷ store r ∷ c) s low n.1 (omega arith) (omega (arith, low.short))
              (λ i h. value_next (store r ∷ c) (i ∷ s) low n.2 (omega arith) (omega (arith, low.short)) (λ _. (array_inside low.inside n.0 i h, f)));
          below = b;
        }))
        (λ e.
        let n = fits layout.sequence e in
        rw e (record {
          stands = process_next (begin (word t r 2) ∷ c) s low n.0 (omega arith) (omega (arith, low.short))
              (process_next c s low n.1 (omega arith) low.short f);
          below = b;
        }))
        (λ e. let n = fits layout.if e in rw e (record { stands = value_next (choose r ∷ c) s low n.0 (omega arith) (omega (arith, low.short)) (λ _. (low, e, f)); below = b }))
        (λ e. let n = fits layout.while e in rw e (record { stands = value_next (repeat r ∷ c) s low n.0 (omega arith) (omega (arith, low.short)) (λ _. (low, e, f)); below = b }))

  -- ── the whole run ──

  -- while it goes on
  pub going_fits : {x : State} → Sits x → x.end ≡ going → Fits (begin x.next ∷ x.continuation) x.stack
  going_fits {x} q e = subst (λ (z : End). Stands z x) e q.stands

  turn_by_sits : (e : End) (x : State) → x.end ≡ e → Sits x → Sits (turn_by t e x)
  turn_by_sits going x h q = by f.1
    where
      f : Fits (begin x.next ∷ x.continuation) x.stack
      f = going_fits q h

      by : ((Kind layout.number layout.diadic x.next × ((w : ℕ) → Fits x.continuation (w ∷ x.stack))) ⊎ (Kind layout.skip layout.while x.next × Fits x.continuation x.stack))
          → Sits (begun t x.next x.words x.trace x.continuation x.stack)
      by (inl g) = value_sits x.next x.words x.trace x.continuation x.stack f.0 q.below g.0 g.1
      by (inr g) = process_sits x.next x.words x.trace x.continuation x.stack f.0 q.below g.0 g.1
  turn_by_sits finish x h q = q
  turn_by_sits stopped x h q = q
  turn_by_sits bad_subscript x h q = q

  -- a row more
  pub turn_sits : (x : State) → Sits x → Sits (turn t x)
  turn_sits x q = turn_by_sits x.end x refl q

  -- the last row
  pub first_sits : (d : List ℕ) → Sits (first t d)
  first_sits d = record {
    stands = (record { inside = omega (arith, v.some); few = omega (arith, v.some); short = omega arith }, inr (record { from = v.from; to = v.to }, tt));
    below = tt;
  }

  -- there is room for three things more to do, and for one word more
  pub list_room : {x : State} → Sits x → x.end ≡ going → length x.continuation + 3 ≤ 3072
  list_room q e = omega (arith, (going_fits q e).0.few, v.few)

  pub pile_room : {x : State} → Sits x → x.end ≡ going → length x.stack < 3072
  pile_room q e = omega (arith, (going_fits q e).0.few, (going_fits q e).0.short, v.few)
