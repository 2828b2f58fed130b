-- The loop over the rows: what the walker has come to before each. Definitions and laws; rests on WorkingArrays and on the laws of the table's run.
use Rattle.std.specs.Prelude.{◌≡◌, false, List, [], ◌∷◌, ◌++◌, length, take, Some, None}
use Rattle.std.proofs.Math.Path.{refl, ap}
use Rattle.std.proofs.Common.{sym, ◌∙◌}
use Prim.Native.Nat.{ℕ, zero, suc, ◌+◌, ◌-◌, ◌≤◌, ◌<◌}
use native.Mathlib.Omega.{arith}
use Rattle.std.proofs.Math.ListN.{drop}
use Rattle.std.proofs.Math.Seq.{take-nil, drop-nil}
use borrow.Author.Tests.{lt-ltb, le-ltb}
use Rattle.arm_word.specs.Choice.{pick}
use Rattle.arm_word.specs.Access.{Access}
use Rattle.x_program.specs.ValidTable.{rows_in, data_in}
use Rattle.x_program.specs.FittingRows.{Valid}
use Rattle.x_program.proofs.ValidTableLaws.{valid_table}
use Rattle.x_meaning.specs.SourceRun.{End, going}
use Rattle.x_meaning.specs.TableRun.{State, next, turn, first, walked, is_going, walk_from, walk_of}
use Rattle.x_meaning.specs.TableHeights.{Below}
use Rattle.x_meaning.proofs.TableHeights.{Sits, turn_sits, first_sits, list_room, pile_room}
use Rattle.x_meaning.specs.TableCounts.{due}
use Rattle.x_meaning.proofs.TableCounts.{turn_due}
use Rattle.walker_check.specs.TableCheck.{checked}
use Rattle.walker_check.specs.TableCheckLaws.{checked_refused, checked_valid}
use Rattle.walker_arrays.specs.AccessEntries.{entries, handed}
use Rattle.walker_run.specs.Handed.{WalkLeft, left, left_of, left_by_walk}
use Rattle.walker_arrays.specs.WorkingArrays.{to_do, worked, Small, Listed, Shows}
use Rattle.walker_arrays.specs.declared.item.Item.{Item}
use Rattle.walker_arrays.specs.declared.mode.Mode.{Mode}
use Rattle.walker_arrays.specs.declared.mode.Mode.TheVariants.{Settling, AtRow, Finished, Stopped, BadSubscript}
use Rattle.walker_arrays.specs.declared.Work.{Work}
use Rattle.walker_run.specs.declared.Refusal.{Refusal}
use Rattle.walker_run.specs.declared.Refusal.TheVariants.{ShortMemory, BadTable}
use Rattle.walker_run.specs.declared.Walked.{Walked}

-- the requests' numbers
abbrev pub refusal_number : Refusal → ℕ
refusal_number ShortMemory = 33
refusal_number BadTable = 36

-- "SVC 0 is finish, SVC 1 stop, SVC 2 bad subscript"
abbrev pub end_number : Mode → ℕ
end_number Finished = 0
end_number Stopped = 1
end_number BadSubscript = 2
-- no ends
end_number Settling = 2
end_number (AtRow r) = 2

abbrev pub status : Mode → ℕ
status (AtRow r) = 0
status Settling = 1
status Finished = 1
status Stopped = 1
status BadSubscript = 1

abbrev pub number : Mode → ℕ
number (AtRow r) = 0
number Settling = end_number Settling
number Finished = end_number Finished
number Stopped = end_number Stopped
number BadSubscript = end_number BadSubscript

-- the answer, by what the walk is at
abbrev pub answer_by : Mode → ℕ → ℕ → Walked
answer_by m steps accesses = record { status = status m; number = number m; steps = steps; accesses = accesses }

-- ── the modes ──

to_do_length : (l : List Item) → length (to_do l) ≡ length l
to_do_length [] = refl
to_do_length (i ∷ l) = ap suc (to_do_length l)

-- an answer that tells of a point
tells : (k : ℕ) {f : ℕ} {old buffer words : List ℕ} {l : List Access} {x y : State} {status number total : ℕ} → Listed f old buffer total l → y ≡ x → l ≡ y.trace → words ≡ y.words
    → status ≡ (walked k y).status → number ≡ (walked k y).number
    → left (record { status = status; number = number; steps = k; accesses = total }) words buffer ≡ left_of f old (walked k x)
tells k {f} {old} l e q m p n =
    (λ j. left (record { status = p j; number = n j; steps = k; accesses = (l.counted ∙ ap length q) j }) (m j) ((l.entries ∙ ap (handed f old) q) j))
    ∙ ap (λ (z : State). left_of f old (walked k z)) e

module _ {t : List ℕ} {f : ℕ} {old : List ℕ} {w : Work} {words buffer : List ℕ} {x : State} where
  pub is_at_row : {r : ℕ} → Shows t f old (AtRow r) w words buffer x → x.end ≡ going
  is_at_row s = ap (λ (y : State). y.end) (sym s.point)

  -- what is to do and what is on the pile are as long as they are high
  pub list_height : {r : ℕ} → Shows t f old (AtRow r) w words buffer x → length x.continuation ≡ length w.items
  list_height s = ap (λ (y : State). length y.continuation) (sym s.point) ∙ to_do_length w.items

  pub pile_depth : {r : ℕ} → Shows t f old (AtRow r) w words buffer x → length x.stack ≡ length w.pile
  pile_depth s = ap (λ (y : State). length y.stack) (sym s.point)

  -- no row is left out
  pub trace_is : (m : Mode) (s : Shows t f old m w words buffer x) → ¬ (m ≡ Settling) → s.trace ≡ x.trace
  trace_is Settling s h = absurd (h refl)
  trace_is (AtRow r) s h = ap (λ (y : State). y.trace) s.point
  trace_is Finished s h = ap (λ (y : State). y.trace) s.point
  trace_is Stopped s h = ap (λ (y : State). y.trace) s.point
  trace_is BadSubscript s h = ap (λ (y : State). y.trace) s.point

  pub is_at_end : (m : Mode) → Shows t f old m w words buffer x → ¬ (m ≡ Settling) → ((r : ℕ) → ¬ (m ≡ AtRow r)) → is_going x.end ≡ false
  is_at_end Settling s h z = absurd (h refl)
  is_at_end (AtRow r) s h z = absurd (z r refl)
  is_at_end Finished s h z = ap (λ (y : State). is_going y.end) (sym s.point)
  is_at_end Stopped s h z = ap (λ (y : State). is_going y.end) (sym s.point)
  is_at_end BadSubscript s h z = ap (λ (y : State). is_going y.end) (sym s.point)

  -- the answer is the walk's
  module _ (k : ℕ) where
    pub answered : (m : Mode) (s : Shows t f old m w words buffer x) → ¬ (m ≡ Settling) → Small s.trace → left (answer_by m k w.listing.total) words buffer ≡ left_of f old (walked k x)
    answered Settling s h small = absurd (h refl)
    answered (AtRow r) s h small = tells k (s.listed small) s.point refl refl refl refl
    answered Finished s h small = tells k (s.listed small) s.point refl refl refl refl
    answered Stopped s h small = tells k (s.listed small) s.point refl refl refl refl
    answered BadSubscript s h small = tells k (s.listed small) s.point refl refl refl refl

-- ── the loop ──

below_wider : (m n : ℕ) (l : List Access) → m ≤ n → Below m l → Below n l
below_wider m n [] h b = tt
below_wider m n (a ∷ l) h b = (omega (arith, b.0), below_wider m n l h b.1)

-- after k rows, of at most `limit`: where the walker is, and what is left of the walk
pub record Walking (t : List ℕ) (v : Valid t) (f : ℕ) (old : List ℕ) (limit : ℕ) (words₀ : List ℕ) (m : Mode) (w : Work) (words buffer : List ℕ) (k : ℕ) : Type 0 where
  pub point : State
  pub shows : Shows t f old m w words buffer point
  pub sits : Sits t v point
  pub few : due point ≤ k
  pub same : walk_from limit 0 t (first t words₀) ≡ walk_from (limit - k) k t point

handed_none : (f : ℕ) (old : List ℕ) → handed f old [] ≡ old
unfolding entries
handed_none f old = rw (drop-nil {A = Access} f, take-nil {A = Access}) refl

-- at first the last row is next, and nothing else is to do
pub walking : {t : List ℕ} {f : ℕ} {old words : List ℕ} {items : List Item} {pile : List ℕ} (limit n : ℕ) (v : Valid t) → n ≡ rows_in t - 1 → items ≡ [] → pile ≡ []
    → Walking t v f old limit words (AtRow n) (worked items pile (record { first = f; total = 0 })) words old 0
walking {t} {f} {old} {words} limit n v e i p = record {
  point = first t words;
  shows = record {
    trace = [];
    point = λ j. next words [] (e j) (to_do (i j)) (p j);
    from = refl;
    listed = λ _. record { entries = sym (handed_none f old); counted = refl };
  };
  sits = first_sits t v words;
  few = omega arith;
  same = let z : limit - 0 ≡ limit = omega arith in rw z refl;
}

module _ {t : List ℕ} {v : Valid t} {f : ℕ} {old : List ℕ} {limit : ℕ} {words₀ : List ℕ} {m : Mode} {w : Work} {words buffer : List ℕ} {k : ℕ}
    (g : Walking t v f old limit words₀ m w words buffer k) where
  -- there is room for a row
  pub has_list_room : {r : ℕ} → m ≡ AtRow r → length w.items + 3 ≤ 3072
  has_list_room e = let s = rw e at g.shows in omega (arith, list_room t v g.sits (is_at_row s), list_height s)

  pub has_pile_room : {r : ℕ} → m ≡ AtRow r → length w.pile < 3072
  has_pile_room e = let s = rw e at g.shows in omega (arith, pile_room t v g.sits (is_at_row s), pile_depth s)

  -- a row more
  pub walks_on : {r : ℕ} {n : Mode} {z : Work} {words' buffer' : List ℕ} → k < limit → m ≡ AtRow r → Shows t f old n z words' buffer' (turn t g.point)
      → Walking t v f old limit words₀ n z words' buffer' (k + 1)
  unfolding walk_from
  walks_on h e s = record {
    point = turn t g.point;
    shows = s;
    sits = turn_sits t v g.point g.sits;
    few = omega (arith, turn_due t g.point, g.few);
    same =
        let n : limit - k ≡ suc (limit - (k + 1)) = omega arith in
        let a : g.point.end ≡ going = is_at_row (rw e at g.shows) in
        g.same ∙ ap (λ (j : ℕ). walk_from j k t g.point) n ∙ ap (λ (x : End). pick (is_going x) (walk_from (limit - (k + 1)) (k + 1) t (turn t g.point)) (walked k g.point)) a;
  }

  -- its numbers are small
  small : k < 18446744073709551616 → ¬ (m ≡ Settling) → Small g.shows.trace
  small h e =
      rw (trace_is m g.shows e)
      (record { few = omega (arith, g.few); near = below_wider (data_in t) 4294967296 g.point.trace (omega (arith, v.small)) g.sits.below })

  -- it ends
  ended_walk : (n : ℕ) → is_going g.point.end ≡ false → walk_from n k t g.point ≡ walked k g.point
  unfolding walk_from
  ended_walk zero e = refl
  ended_walk (suc n) e = rw e refl

  pub walk_ends : k ≤ limit → limit < 18446744073709551616 → ¬ (m ≡ Settling) → ((r : ℕ) → ¬ (m ≡ AtRow r))
      → left (answer_by m k w.listing.total) words buffer ≡ left_of f old (walk_from limit 0 t (first t words₀))
  walk_ends h b e z = answered k m g.shows e (small (omega arith) e) ∙ ap (left_of f old) (sym (g.same ∙ ended_walk (limit - k) (is_at_end m g.shows e z)))

  -- or the limit is reached
  pub walk_stops : k ≡ limit → limit < 18446744073709551616 → ¬ (m ≡ Settling)
      → left (answer_by m limit w.listing.total) words buffer ≡ left_of f old (walk_from limit 0 t (first t words₀))
  unfolding walk_from
  walk_stops h b e =
      let n : limit - k ≡ 0 = omega arith in
      ap (λ (j : ℕ). left (answer_by m j w.listing.total) words buffer) (sym h) ∙ answered k m g.shows e (small (omega arith) e)
      ∙ ap (left_of f old) (sym (g.same ∙ ap (λ (j : ℕ). walk_from j k t g.point) n))

-- ── the whole walk ──

module _ (limit f : ℕ) (t memory old : List ℕ) where
  -- "Both leave the memory untouched and 0 steps"
  pub bad_table : checked t ≡ None → left (record { status = 36; number = 0; steps = 0; accesses = 0 }) memory old ≡ left_by_walk limit f t memory old
  unfolding left_by_walk walk_of
  bad_table e = rw (checked_refused t e) (ap (left (record { status = 36; number = 0; steps = 0; accesses = 0 }) memory) (sym (handed_none f old)))

  module _ (n : ℕ) (e : checked t ≡ Some n) where
    pub short_memory : length memory < n → left (record { status = 33; number = 0; steps = 0; accesses = 0 }) memory old ≡ left_by_walk limit f t memory old
    unfolding left_by_walk walk_of
    short_memory h =
        let k = checked_valid t n e in
        rw (k.0, lt-ltb (length memory) (data_in t) (omega (arith, k.1))) (ap (left (record { status = 33; number = 0; steps = 0; accesses = 0 }) memory) (sym (handed_none f old)))

    pub taken : Valid t
    taken = valid_table t (checked_valid t n e).0

    -- over the words that the table declares
    pub walked_over : {r : Walked} {words buffer : List ℕ} → n ≤ length memory → left r words buffer ≡ left_of f old (walk_from limit 0 t (first t (take n memory)))
        → left r (words ++ drop n memory) buffer ≡ left_by_walk limit f t memory old
    unfolding left_by_walk walk_of
    walked_over h p =
        let k = checked_valid t n e in
        rw (k.0, le-ltb (length memory) (data_in t) (omega (arith, k.1)), ← k.1) (ap (λ (l : WalkLeft). left l.answer (l.memory ++ drop n memory) l.accesses) p)
