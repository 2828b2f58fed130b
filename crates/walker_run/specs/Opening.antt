-- What the walker does where a row is begun is what the table's run does. Definitions and laws; rests on WorkingArrays.
use Rattle.std.specs.Prelude.{◌≡◌, ℕ, ◌+◌, ◌≤◌, ◌<◌, length, get_or, eqb}
use Rattle.std.proofs.Math.Path.{ap}
use Rattle.std.proofs.Common.{◌∙◌}
use mathlib.Core.List.{List, ◌∷◌}
use borrow.Author.Tests.{ne_eqb}
use Rattle.arm_word.specs.Choice.{pick}
use Rattle.arm_word.specs.Access.{Access}
use Rattle.x_program.specs.Layout as layout
use Rattle.x_program.specs.Table.{word, row_in}
use Rattle.x_program.specs.declared.table.Row.{Row}
use Rattle.x_meaning.specs.SourceRun as source
use Rattle.x_meaning.specs.TableRun.{Item, begin, work₁, work₂, check, load, set_variable, store, choose, repeat, State, next, ended, settle, begun, turn}
use Rattle.walker_arrays.specs.WorkingArrays.{to_do, comes_to, worked, Small, Listed, Shows}
use Rattle.walker_arrays.specs.declared.item.Item.{Item as ToDo}
use Rattle.walker_arrays.specs.declared.item.Item.TheVariants as to
use Rattle.walker_arrays.specs.declared.mode.Mode.{Mode}
use Rattle.walker_arrays.specs.declared.mode.Mode.TheVariants.{Settling, AtRow, Stopped}
use Rattle.walker_arrays.specs.declared.Work.{Work}

-- ── `begun` by the words that were read from the row ──

-- a row that is no value's
unfoldable pub process_begun : List ℕ → ℕ → Row → List ℕ → List Access → List Item → List ℕ → State
process_begun t r w d l c s =
    pick (eqb w.kind layout.skip) (settle t c d l s)
    (pick (eqb w.kind layout.stop) (ended d l source.stopped)
    (pick (eqb w.kind layout.assign) (next d l w.b (set_variable r ∷ c) s)
    (pick (eqb w.kind layout.assign_element) (next d l w.b (check r ∷ begin w.c ∷ store r ∷ c) s)
    (pick (eqb w.kind layout.sequence) (next d l w.a (begin w.b ∷ c) s)
    (pick (eqb w.kind layout.if) (next d l w.a (choose r ∷ c) s)
    (next d l w.a (repeat r ∷ c) s))))))

-- any row
unfoldable pub begun_by : List ℕ → ℕ → Row → List ℕ → List Access → List Item → List ℕ → State
begun_by t r w d l c s =
    pick (eqb w.kind layout.number) (settle t c d l (w.a ∷ s))
    (pick (eqb w.kind layout.variable) (settle t c d l (get_or d (word t w.a 1) 0 ∷ s))
    (pick (eqb w.kind layout.element) (next d l w.b (check r ∷ load r ∷ c) s)
    (pick (eqb w.kind layout.monadic) (next d l w.b (work₁ r ∷ c) s)
    (pick (eqb w.kind layout.diadic) (next d l w.b (begin w.c ∷ work₂ r ∷ c) s)
    (process_begun t r w d l c s)))))

pub read : (t : List ℕ) (r : ℕ) {w : Row} (d : List ℕ) (l : List Access) (c : List Item) (s : List ℕ) → w ≡ row_in t r → begun_by t r w d l c s ≡ begun t r d l c s
unfolding begun begun_by process_begun
read t r d l c s e = rw e

-- ── where a row is begun ──

abbrev pub Begun : Type 0
Begun = List ℕ → ℕ → Row → List ℕ → List Access → List Item → List ℕ → State

-- by what `f` makes of row r, whose words are those of w, the walker is to come to y; there is room for three things more to do and a word more on the pile
pub record Begins (f : Begun) (t : List ℕ) (first : ℕ) (old : List ℕ) (w : Row) (r : ℕ) (k : Work) (words buffer : List ℕ) (y : State) : Type 0 where
  pub trace : List Access
  pub point : f t r w words trace (to_do k.items) k.pile ≡ y
  pub from : k.listing.first ≡ first
  pub listed : Small trace → Listed first old buffer k.listing.total trace
  pub high : length k.items + 3 ≤ 3072
  pub deep : length k.pile < 3072

-- at a row
pub begins : {t : List ℕ} {first : ℕ} {old : List ℕ} {w : Row} {r : ℕ} {k : Work} {words buffer : List ℕ} {x : State} → Shows t first old (AtRow r) k words buffer x
    → w ≡ row_in t r → length k.items + 3 ≤ 3072 → length k.pile < 3072 → Begins begun_by t first old w r k words buffer (turn t x)
begins {t} {r = r} {k = k} {words = words} s g h d = record {
  trace = s.trace;
  point = read t r words s.trace (to_do k.items) k.pile g ∙ ap (turn t) s.point;
  from = s.from;
  listed = s.listed;
  high = h;
  deep = d;
}

module _ {t : List ℕ} {first : ℕ} {old : List ℕ} {w : Row} {r : ℕ} {k : Work} {words buffer : List ℕ} {y : State} (b : Begins begun_by t first old w r k words buffer y) where
  -- the mode, and what is to do and on the pile
  shows : {m : Mode} {items : List ToDo} {pile : List ℕ} → comes_to t m items pile words b.trace ≡ y → Shows t first old m (worked items pile k.listing) words buffer y
  shows e = record { trace = b.trace; point = e; from = b.from; listed = b.listed }

  -- ── a value's row ──

  pub opens_number : {pile : List ℕ} → w.kind ≡ layout.number → pile ≡ w.a ∷ k.pile → Shows t first old Settling (worked k.items pile k.listing) words buffer y
  unfolding begun_by
  opens_number e p = shows (ap (settle t (to_do k.items) words b.trace) p ∙ (rw e at b.point))

  pub opens_variable : {v : ℕ} {pile : List ℕ} → w.kind ≡ layout.variable → v ≡ get_or words (word t w.a 1) 0 → pile ≡ v ∷ k.pile
      → Shows t first old Settling (worked k.items pile k.listing) words buffer y
  unfolding begun_by
  opens_variable e g p = shows (ap (settle t (to_do k.items) words b.trace) (p ∙ ap (λ (z : ℕ). z ∷ k.pile) g) ∙ (rw e at b.point))

  -- a part is next, with more to do after it
  parts : {n : ℕ} {items more : List ToDo} → items ≡ more → next words b.trace n (to_do more) k.pile ≡ y → Shows t first old (AtRow n) (worked items k.pile k.listing) words buffer y
  parts {n} p e = shows (ap (λ (d : List ToDo). next words b.trace n (to_do d) k.pile) p ∙ e)

  pub opens_element : {items : List ToDo} → w.kind ≡ layout.element → items ≡ to.Check r ∷ to.Load r ∷ k.items
      → Shows t first old (AtRow w.b) (worked items k.pile k.listing) words buffer y
  unfolding begun_by
  opens_element e p = parts p (rw e at b.point)

  pub opens_monadic : {items : List ToDo} → w.kind ≡ layout.monadic → items ≡ to.WorkMonadic r ∷ k.items
      → Shows t first old (AtRow w.b) (worked items k.pile k.listing) words buffer y
  unfolding begun_by
  opens_monadic e p = parts p (rw e at b.point)

  pub opens_diadic : {items : List ToDo} → w.kind ≡ layout.diadic → items ≡ to.Begin w.c ∷ to.WorkDiadic r ∷ k.items
      → Shows t first old (AtRow w.b) (worked items k.pile k.listing) words buffer y
  unfolding begun_by
  opens_diadic e p = parts p (rw e at b.point)

  -- none of these
  pub opens_process : {m : Mode} {items : List ToDo} → ¬ (w.kind ≡ layout.number) → ¬ (w.kind ≡ layout.variable) → ¬ (w.kind ≡ layout.element) → ¬ (w.kind ≡ layout.monadic)
      → ¬ (w.kind ≡ layout.diadic)
      → ((pile words : List ℕ) (l : List Access) → length k.items + 3 ≤ 3072 → comes_to t m items pile words l ≡ process_begun t r w words l (to_do k.items) pile)
      → Shows t first old m (worked items k.pile k.listing) words buffer y
  unfolding begun_by
  opens_process n v e m d h =
      let p = rw (
        ne_eqb w.kind layout.number n,
        ne_eqb w.kind layout.variable v,
        ne_eqb w.kind layout.element e,
        ne_eqb w.kind layout.monadic m,
        ne_eqb w.kind layout.diadic d,
      ) at b.point in
      shows (h k.pile words b.trace b.high ∙ p)

-- ── a process's ──

module _ (t : List ℕ) (r : ℕ) (w : Row) (pile words : List ℕ) (l : List Access) (items : List ToDo) where
  pub opens_skip : w.kind ≡ layout.skip → comes_to t Settling items pile words l ≡ process_begun t r w words l (to_do items) pile
  unfolding process_begun
  opens_skip e = rw e

  pub opens_stop : w.kind ≡ layout.stop → comes_to t Stopped items pile words l ≡ process_begun t r w words l (to_do items) pile
  unfolding process_begun
  opens_stop e = rw e

  pub opens_assign : {after : List ToDo} → w.kind ≡ layout.assign → after ≡ to.Set r ∷ items → comes_to t (AtRow w.b) after pile words l ≡ process_begun t r w words l (to_do items) pile
  unfolding process_begun
  opens_assign e p = rw (p, e)

  pub opens_assign_element : {after : List ToDo} → w.kind ≡ layout.assign_element → after ≡ to.Check r ∷ to.Begin w.c ∷ to.Store r ∷ items
      → comes_to t (AtRow w.b) after pile words l ≡ process_begun t r w words l (to_do items) pile
  unfolding process_begun
  opens_assign_element e p = rw (p, e)

  pub opens_sequence : {after : List ToDo} → w.kind ≡ layout.sequence → after ≡ to.Begin w.b ∷ items → comes_to t (AtRow w.a) after pile words l ≡ process_begun t r w words l (to_do items) pile
  unfolding process_begun
  opens_sequence e p = rw (p, e)

  pub opens_if : {after : List ToDo} → w.kind ≡ layout.if → after ≡ to.Choose r ∷ items → comes_to t (AtRow w.a) after pile words l ≡ process_begun t r w words l (to_do items) pile
  unfolding process_begun
  opens_if e p = rw (p, e)

  -- none of these
  pub opens_while : {after : List ToDo} → ¬ (w.kind ≡ layout.skip) → ¬ (w.kind ≡ layout.stop) → ¬ (w.kind ≡ layout.assign) → ¬ (w.kind ≡ layout.assign_element)
      → ¬ (w.kind ≡ layout.sequence) → ¬ (w.kind ≡ layout.if) → after ≡ to.Repeat r ∷ items → comes_to t (AtRow w.a) after pile words l ≡ process_begun t r w words l (to_do items) pile
  unfolding process_begun
  opens_while k s a e q i p = rw (
    p,
    ne_eqb w.kind layout.skip k,
    ne_eqb w.kind layout.stop s,
    ne_eqb w.kind layout.assign a,
    ne_eqb w.kind layout.assign_element e,
    ne_eqb w.kind layout.sequence q,
    ne_eqb w.kind layout.if i,
  )

-- kind by kind
pub ruleset processes = (opens_skip, opens_stop, opens_assign, opens_assign_element, opens_sequence, opens_if, opens_while)
