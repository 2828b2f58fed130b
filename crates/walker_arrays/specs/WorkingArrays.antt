-- What the walker works with as a point of the table's run. Definitions and laws; rests on the table's run and on what a walk hands back.
use Rattle.std.specs.Prelude.{◌≡◌, ℕ, ◌+◌, ◌-◌, ◌%◌, ◌^◌, ◌<◌, ◌≤◌, List, [], ◌∷◌, ◌++◌, length, map}
use Rattle.std.proofs.Common.{◌∙◌, arith, length-append}
use Rattle.arm_word.specs.Access as access
use Rattle.arm_word.specs.Access.{Access}
use Rattle.x_meaning.specs.SourceRun as source
use Rattle.x_meaning.specs.TableRun as run
use Rattle.x_meaning.specs.TableRun.{State, next, ended, settle}
use Rattle.x_meaning.specs.TableHeights.{Below}
use Rattle.walker_arrays.specs.AccessEntries.{op_of, handed}
use Rattle.walker_arrays.specs.AccessEntryLaws.{entered, skipped, listed}
use Rattle.walker_arrays.specs.declared.access.Access.{Access as Made}
use Rattle.walker_arrays.specs.declared.access.Kind.{Kind}
use Rattle.walker_arrays.specs.declared.access.Kind.TheVariants.{Load as Loading, Store as Storing}
use Rattle.walker_arrays.specs.declared.access.Listing.{Listing}
use Rattle.walker_arrays.specs.declared.item.Item.{Item}
use Rattle.walker_arrays.specs.declared.item.Item.TheVariants.{Begin, WorkMonadic, WorkDiadic, Check, Load, Set, Store, Choose, Repeat}
use Rattle.walker_arrays.specs.declared.mode.Mode.{Mode}
use Rattle.walker_arrays.specs.declared.mode.Mode.TheVariants.{Settling, AtRow, Finished, Stopped, BadSubscript}
use Rattle.walker_arrays.specs.declared.Work.{Work}

-- ── the things to do ──

-- a thing to do, as the table's run has it
abbrev pub item : Item → run.Item
item (Begin r) = run.begin r
item (WorkMonadic r) = run.work₁ r
item (WorkDiadic r) = run.work₂ r
item (Check r) = run.check r
item (Load r) = run.load r
item (Set r) = run.set_variable r
item (Store r) = run.store r
item (Choose r) = run.choose r
item (Repeat r) = run.repeat r

abbrev pub to_do : List Item → List run.Item
to_do items = map item items

-- ── the point that they come to ──

-- what is left to do between two rows is still to be done
abbrev pub comes_to : List ℕ → Mode → List Item → List ℕ → List ℕ → List Access → State
comes_to t Settling items pile d l = settle t (to_do items) d l pile
comes_to t (AtRow r) items pile d l = next d l r (to_do items) pile
comes_to t Finished items pile d l = ended d l source.finish
comes_to t Stopped items pile d l = ended d l source.stopped
comes_to t BadSubscript items pile d l = ended d l source.bad_subscript

-- ── accesses ──

-- an access that was made, as the access list has it
abbrev pub kind_of : Kind → access.Kind
kind_of Loading = access.load
kind_of Storing = access.store

abbrev pub made : Made → Access
made a = record { kind = kind_of a.kind; offset = a.offset; old = a.old; new = a.new }

-- numbers of accesses have 64 bits, offsets 32
pub record Small (l : List Access) : Type 0 where
  pub few : length l < 18446744073709551616
  pub near : Below 4294967296 l

-- the buffer, which held `old`, and the total show the access list
pub record Listed (first : ℕ) (old buffer : List ℕ) (total : ℕ) (l : List Access) : Type 0 where
  pub entries : buffer ≡ handed first old l
  pub counted : total ≡ length l

-- ── all of it ──

abbrev pub worked : List Item → List ℕ → Listing → Work
worked items pile listing = record { items = items; pile = pile; listing = listing }

-- what the walker has come to, the buffer being `old` at first; an access list that is too long for its numbers is not looked at: no walk has one
pub record Shows (t : List ℕ) (first : ℕ) (old : List ℕ) (m : Mode) (w : Work) (words buffer : List ℕ) (x : State) : Type 0 where
  pub trace : List Access
  pub point : comes_to t m w.items w.pile words trace ≡ x
  pub from : w.listing.first ≡ first
  pub listed : Small trace → Listed first old buffer w.listing.total trace

-- the same where one thing to do was taken off the list
pub record Faces (t : List ℕ) (first : ℕ) (old : List ℕ) (i : run.Item) (w : Work) (words buffer : List ℕ) (x : State) : Type 0 where
  pub trace : List Access
  pub point : settle t (i ∷ to_do w.items) words trace w.pile ≡ x
  pub from : w.listing.first ≡ first
  pub listed : Small trace → Listed first old buffer w.listing.total trace

-- ── laws of the accesses ──

below_parts : (n : ℕ) (l : List Access) (a : Access) → Below n (l ++ a ∷ []) → Below n l × (a.offset < n)
below_parts n [] a b = (tt, b.0)
below_parts n (x ∷ l) a b = let p = below_parts n l a b.1 in ((b.0, p.0), p.1)

module _ (first : ℕ) (old buffer : List ℕ) (total : ℕ) (l : List Access) (a : Access) (before : Small l → Listed first old buffer total l) (small : Small (l ++ a ∷ [])) (r : ℕ)
    (more : r ≡ (total + 1) % 2 ^ 64) where
  one_more : length (l ++ a ∷ []) ≡ length l + 1
  one_more = length-append l (a ∷ [])

  near : Below 4294967296 l × (a.offset < 4294967296)
  near = below_parts 4294967296 l a small.near

  then : Listed first old buffer total l
  then = before (record { few = omega (arith, small.few, one_more); near = near.0 })

  total_is : r ≡ length (l ++ a ∷ [])
  total_is = omega (arith, more, then.counted, one_more, small.few)

  pub list_skips : total < first → Listed first old buffer r (l ++ a ∷ [])
  list_skips h = record { entries = skipped first old l a then.entries then.counted h; counted = total_is }

  pub list_writes : (after : List ℕ) (op k o w : ℕ) → after ≡ entered buffer (total - first) (op ∷ k % 4294967296 ∷ o ∷ w ∷ []) → first ≤ total
      → op ≡ op_of a.kind → k ≡ a.offset → o ≡ a.old → w ≡ a.new → Listed first old after r (l ++ a ∷ [])
  list_writes after op k o w e h p q u v =
      let m : k % 4294967296 ≡ a.offset = omega (arith, q, near.1) in
      record {
        entries = e ∙ (λ j. entered buffer (total - first) (p j ∷ m j ∷ u j ∷ v j ∷ [])) ∙ listed first old l a then.entries then.counted h;
        counted = total_is;
      }
