-- What the walker does with each thing to do is what the table's run does with it. Laws; rests on WorkingArrays.
use Rattle.std.specs.Prelude.{◌≡◌, Bool, ℕ, suc, ◌+◌, ◌≤◌, ◌<◌, length, set, eqb, ltb, Option, Some, None}
use Rattle.std.proofs.Math.Path.{refl, ap, ap₂}
use Rattle.std.proofs.Common.{sym, ◌∙◌, arith, eq-eqb, le-ltb, ne_eqb}
use mathlib.Core.List.{List, [], ◌∷◌, ◌++◌}
use Rattle.std.proofs.Math.ListN.{get_or}
use Rattle.std.proofs.Math.Bool.{true, false}
use Rattle.arm_word.specs.Choice.{pick}
use Rattle.arm_word.specs.Access.{Access, loaded, stored}
use Rattle.x_program.specs.Table.{word, monadic_of, diadic_of}
use Rattle.x_meaning.specs.Operators.{work_monadic, work_diadic}
use Rattle.x_meaning.specs.SourceRun.{top, rest}
use Rattle.x_meaning.specs.TableRun as run
use Rattle.x_meaning.specs.TableRun.{State, next, offset_of, length_of, settle}
use Rattle.walker_arrays.specs.Stacks as stack
use Rattle.walker_arrays.specs.WorkingArrays.{item, to_do, comes_to, worked, Small, Listed, Shows, Faces}
use Rattle.walker_arrays.specs.declared.access.Listing.{Listing}
use Rattle.walker_arrays.specs.declared.item.Item.{Item}
use Rattle.walker_arrays.specs.declared.item.Item.TheVariants.{Begin}
use Rattle.walker_arrays.specs.declared.mode.Mode.{Mode}
use Rattle.walker_arrays.specs.declared.mode.Mode.TheVariants.{Settling, AtRow, Finished, Stopped, BadSubscript}
use Rattle.walker_arrays.specs.declared.Work.{Work}

module _ {t : List ℕ} {first : ℕ} {old : List ℕ} {w : Work} {words buffer : List ℕ} {x : State} where
  -- on, at a mode, with another pile and the same accesses
  goes_on : {i : run.Item} {m : Mode} {items : List Item} {pile words' : List ℕ} (f : Faces t first old i w words buffer x)
      → comes_to t m items pile words' f.trace ≡ x → Shows t first old m (worked items pile w.listing) words' buffer x
  goes_on f e = record { trace = f.trace; point = e; from = f.from; listed = f.listed }

  -- a word in the place of the topmost n
  pub works₁ : {r : ℕ} {pile : List ℕ} → Faces t first old (run.work₁ r) w words buffer x
      → pile ≡ work_monadic (monadic_of (word t r 1)) (top w.pile) ∷ rest w.pile → Shows t first old Settling (worked w.items pile w.listing) words buffer x
  unfolding settle
  works₁ f e = goes_on f (ap (settle t (to_do w.items) words f.trace) e ∙ f.point)

  pub works₂ : {r : ℕ} {pile : List ℕ} → Faces t first old (run.work₂ r) w words buffer x
      → pile ≡ work_diadic (diadic_of (word t r 1)) (top (rest w.pile)) (top w.pile) ∷ rest (rest w.pile) → Shows t first old Settling (worked w.items pile w.listing) words buffer x
  unfolding settle
  works₂ f e = goes_on f (ap (settle t (to_do w.items) words f.trace) e ∙ f.point)

  -- a subscript, by its test
  pub checks : {r : ℕ} {m : Mode} → Faces t first old (run.check r) w words buffer x → m ≡ pick (ltb (top w.pile) (length_of t r)) Settling BadSubscript
      → Shows t first old m w words buffer x
  unfolding settle
  checks {r} f e = goes_on f (ap (λ (m : Mode). comes_to t m w.items w.pile words f.trace) e ∙ by (ltb (top w.pile) (length_of t r)) ∙ f.point)
    where
      by : (b : Bool)
          → comes_to t (pick b Settling BadSubscript) w.items w.pile words f.trace
          ≡ pick b (settle t (to_do w.items) words f.trace w.pile) (comes_to t BadSubscript w.items w.pile words f.trace)
      by true = refl
      by false = refl

  -- one that is not below the length
  pub fails : {r : ℕ} → Faces t first old (run.check r) w words buffer x → length_of t r ≤ top w.pile → Shows t first old BadSubscript w words buffer x
  fails {r} f h = checks f (rw (le-ltb (top w.pile) (length_of t r) h) refl)

  pub loads : {r k v : ℕ} {pile buffer' : List ℕ} {g : Listing} → Faces t first old (run.load r) w words buffer x
      → k ≡ offset_of t r + top w.pile → v ≡ get_or words k 0 → g.first ≡ w.listing.first
      → ((l : List Access) → (Small l → Listed w.listing.first old buffer w.listing.total l) → Small (l ++ loaded k v ∷ []) → Listed w.listing.first old buffer' g.total (l ++ loaded k v ∷ []))
      → pile ≡ v ∷ rest w.pile → Shows t first old Settling (worked w.items pile g) words buffer' x
  unfolding settle
  loads {r} {k} {v} f e q h more p =
      let j = offset_of t r + top w.pile in
      let u : v ≡ get_or words j 0 = q ∙ ap (λ (n : ℕ). get_or words n 0) e in
      record {
        trace = f.trace ++ loaded k v ∷ [];
        point = (λ i. settle t (to_do w.items) words (f.trace ++ loaded (e i) (u i) ∷ []) ((p ∙ ap (λ (n : ℕ). n ∷ rest w.pile) u) i)) ∙ f.point;
        from = h ∙ f.from;
        listed = λ small. rw f.from at (more f.trace (λ s. rw f.from (f.listed s)) small);
      }

  pub sets : {r : ℕ} {words' pile : List ℕ} → Faces t first old (run.set_variable r) w words buffer x
      → words' ≡ set words (offset_of t r) (top w.pile) → pile ≡ rest w.pile → Shows t first old Settling (worked w.items pile w.listing) words' buffer x
  unfolding settle
  sets f q p = goes_on f ((λ i. settle t (to_do w.items) (q i) f.trace (p i)) ∙ f.point)

  pub stores : {r k v o : ℕ} {words' pile buffer' : List ℕ} {g : Listing} → Faces t first old (run.store r) w words buffer x
      → k ≡ offset_of t r + top (rest w.pile) → v ≡ top w.pile → o ≡ get_or words k 0 → g.first ≡ w.listing.first
      → ((l : List Access) → (Small l → Listed w.listing.first old buffer w.listing.total l) → Small (l ++ stored k o v ∷ []) → Listed w.listing.first old buffer' g.total (l ++ stored k o v ∷ []))
      → words' ≡ set words k v → pile ≡ rest (rest w.pile) → Shows t first old Settling (worked w.items pile g) words' buffer' x
  unfolding settle
  stores {r} {k} {v} {o} f e u q h more m p =
      let j = offset_of t r + top (rest w.pile) in
      let n : o ≡ get_or words j 0 = q ∙ ap (λ (i : ℕ). get_or words i 0) e in
      record {
        trace = f.trace ++ stored k o v ∷ [];
        point = (λ i. settle t (to_do w.items) ((m ∙ ap₂ (set words) e u) i) (f.trace ++ stored (e i) (n i) (u i) ∷ []) (p i)) ∙ f.point;
        from = h ∙ f.from;
        listed = λ small. rw f.from at (more f.trace (λ s. rw f.from (f.listed s)) small);
      }

  -- ── to a row ──

  pub begins : {r : ℕ} → Faces t first old (run.begin r) w words buffer x → Shows t first old (AtRow r) w words buffer x
  unfolding settle
  begins f = goes_on f f.point

  -- an if's part, by its test
  pub chooses : {r : ℕ} {m : Mode} {pile : List ℕ} → Faces t first old (run.choose r) w words buffer x
      → m ≡ AtRow (pick (eqb (top w.pile) 0) (word t r 3) (word t r 2)) → pile ≡ rest w.pile → Shows t first old m (worked w.items pile w.listing) words buffer x
  unfolding settle
  chooses f e p = goes_on f ((λ i. comes_to t (e i) w.items (p i) words f.trace) ∙ f.point)

  -- and its two outcomes
  pub chooses_else : {r n : ℕ} {pile : List ℕ} → Faces t first old (run.choose r) w words buffer x → n ≡ word t r 3 → pile ≡ rest w.pile → top w.pile ≡ 0
      → Shows t first old (AtRow n) (worked w.items pile w.listing) words buffer x
  chooses_else f e p z = chooses f (rw (eq-eqb (top w.pile) 0 z) (ap AtRow e)) p

  pub chooses_then : {r n : ℕ} {pile : List ℕ} → Faces t first old (run.choose r) w words buffer x → n ≡ word t r 2 → pile ≡ rest w.pile → ¬ (top w.pile ≡ 0)
      → Shows t first old (AtRow n) (worked w.items pile w.listing) words buffer x
  chooses_then f e p z = chooses f (rw (ne_eqb (top w.pile) 0 z) (ap AtRow e)) p

  pub repeats_no_more : {r : ℕ} {pile : List ℕ} → Faces t first old (run.repeat r) w words buffer x → top w.pile ≡ 0 → pile ≡ rest w.pile
      → Shows t first old Settling (worked w.items pile w.listing) words buffer x
  unfolding settle
  repeats_no_more f z p = goes_on f (ap (settle t (to_do w.items) words f.trace) p ∙ (rw (eq-eqb (top w.pile) 0 z) at f.point))

  pub repeats : {r n : ℕ} {items : List Item} {pile : List ℕ} → Faces t first old (run.repeat r) w words buffer x → n ≡ word t r 2
      → ¬ (top w.pile ≡ 0) → pile ≡ rest w.pile → items ≡ Begin r ∷ w.items → Shows t first old (AtRow n) (worked items pile w.listing) words buffer x
  unfolding settle
  repeats f e z p d = goes_on f ((λ i. next words f.trace (e i) (to_do (d i)) (p i)) ∙ (rw (ne_eqb (top w.pile) 0 z) at f.point))

  -- ── which thing it is ──

  -- nothing is left to do
  pub finishes : {o : Option Item} {items : List Item} → Shows t first old Settling w words buffer x → o ≡ stack.first w.items → o ≡ None
      → Shows t first old Finished (worked items w.pile w.listing) words buffer x
  unfolding settle
  finishes s e q = record { trace = s.trace; point = (rw (none_left w.items (sym e ∙ q)) at s.point); from = s.from; listed = s.listed }
    where
      none_left : (l : List Item) → stack.first l ≡ None → l ≡ []
      none_left [] e = refl
      none_left (i ∷ l) e = cc

  -- the first thing to do is taken off the list
  pub faces : {i j : Item} {o : Option Item} {items : List Item} → Shows t first old Settling w words buffer x
      → o ≡ stack.first w.items → o ≡ Some j → j ≡ i → items ≡ stack.others w.items → Faces t first old (item i) (worked items w.pile w.listing) words buffer x
  faces {i} {items = items} s e q h p = record { trace = s.trace; point = (rw (taken w.items (sym e ∙ q ∙ ap Some h) p) at s.point); from = s.from; listed = s.listed }
    where
      taken : (l : List Item) → stack.first l ≡ Some i → items ≡ stack.others l → l ≡ i ∷ items
      taken [] e p = cc
      taken (j ∷ l) e p = cc

-- a number that isn't n is past it
pub past : (k n : ℕ) → n ≤ k → ¬ (k ≡ n) → suc n ≤ k
past k n h e = omega arith

pub exactly : (k n : ℕ) → k < suc n → n ≤ k → k ≡ n
exactly k n l h = omega arith

-- what falls between two rows
abbrev pub unsettled : Mode → Work → ℕ
unsettled Settling w = suc (length w.items)
unsettled (AtRow r) w = 0
unsettled Finished w = 0
unsettled Stopped w = 0
unsettled BadSubscript w = 0

pub falls : (m : Mode) (w z : Work) → (m ≡ Settling → length z.items < length w.items) → unsettled m z < unsettled Settling w
falls Settling w z h = omega (arith, h refl)
falls (AtRow r) w z h = omega arith
falls Finished w z h = omega arith
falls Stopped w z h = omega arith
falls BadSubscript w z h = omega arith
