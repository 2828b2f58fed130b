-- Request 2026-01: the walk of a sound program's table is the source's run (RowMoves, and theorem_simulation's Generic), and ends as the image does (`demand3`).
-- A theorem for each clause of Demand5, then `demand5`.
use Rattle.std.specs.Prelude.{◌≡◌, true, List, [], ◌∷◌, ℕ, ◌+◌, ◌-◌, ◌≤◌, ◌<◌, max, length, take, drop}
use Rattle.std.proofs.Math.Path.{refl, sym}
use Rattle.std.proofs.Common.{ap, ◌∙◌, arith, length-take-le, take_at, drop_at}
use borrow.Author.Tests.{le-ltb}
use Rattle.arm_word.specs.Access.{Access}
use Rattle.x_program.specs.Tree.{Program, none}
use Rattle.x_program.specs.Rows.{table_of, row_count}
use Rattle.x_program.specs.Sound.{Sound}
use Rattle.x_program.specs.ValidTable.{rows_in}
use Rattle.x_program.proofs.ValidTableLaws.{valid_table}
use Rattle.x_program.proofs.SoundTable.{table_tree, table_data, sound_valid}
use Rattle.x_meaning.specs.SourceRun.{State, move, moves, begin, ends_with}
use Rattle.x_meaning.specs.TableRun as rows
use Rattle.x_meaning.specs.TableRun.{settle, turn, first, walked, walk_from, over, walk_of}
use Rattle.x_meaning.proofs.TableCounts.{steps_within}
use Rattle.translate_rules.specs.ImageCode.{image}
use Rattle.theorem_simulation.specs.Generic as generic
use Rattle.theorem_simulation.specs.Generic.{times, times_still}
use Rattle.theorem_simulation.specs.Demand3.{D, Lent, run, calls, EndsBy, Demand3}
use Rattle.theorem_simulation.proofs.Demand3Proof.{moves_times, demand3}
use Rattle.theorem_walker.specs.Demand5.{walk, image_run, Eventually, WalksTo, EndsAsSource, Demand5}
use Rattle.theorem_walker.specs.RowTrees.{process_row}
use Rattle.theorem_walker.specs.RowRelation.{done, execute, Related, between, Seen, back, seen}
use Rattle.theorem_walker.specs.RowMoves.{state_size, simulates}
use Rattle.theorem_walker.specs.Walks.{status_few, ends_so, tells, turn_over, walk_turns, steps_used, moves_more, moves_over, length_moves}

module _ (p : Program) (sound : Sound p) (few : row_count p ≤ 1024) (memory : List ℕ) (lent : Lent p memory) where
  -- the table, the first point of its run, and that after n rows begun
  abbrev t : List ℕ
  t = table_of p

  abbrev start : rows.State
  start = first t (take (D p) memory)

  abbrev after : ℕ → rows.State
  after n = times (turn t) n start

  -- ── the source's run and the table's ──

  -- the program's row stands for its body
  begins : Related t (begin p memory) start
  unfolding settle
  begins =
      let v = valid_table t (sound_valid p sound few) in
      let l : rows_in t - 1 < rows_in t = omega (arith, v.some) in
      between (execute none refl (rw (table_tree p sound) at (process_row t (rows_in t) v.fitting (rows_in t - 1) l v.from v.to)) done)

  -- after every number of rows begun, and for every number of moves
  seen_after : (n : ℕ) → Seen (begin p memory) (after n)
  seen_after n = generic.sees move (turn t) state_size (Related t) Seen back (simulates t) n (begin p memory) start begins

  reached : (j : ℕ) → (n : ℕ) × Related t (moves j (begin p memory)) (after n)
  reached j = let r = generic.reaches move (turn t) state_size (Related t) Seen back (simulates t) j (begin p memory) start begins in (r.0, rw moves_times at r.1)

  -- ── the walk ──

  -- it is not refused
  walk_from_start : (limit : ℕ) → walk p memory limit ≡ over (drop (D p) memory) (walk_from limit 0 t start)
  unfolding walk_of
  walk_from_start limit = rw (sound_valid p sound few, table_data p sound, le-ltb (length memory) (D p) (omega (arith, lent.enough)))

  -- it tells of the point after as many rows as its limit allows
  walk_tells : (limit : ℕ) → walk p memory limit ≡ over (drop (D p) memory) (walked (walk_from limit 0 t start).steps (after limit))
  walk_tells limit = walk_from_start limit ∙ ap (over (drop (D p) memory)) (walk_turns t limit 0 start)

  -- D words are kept, and handed back first
  declared : (n : ℕ) → length (after n).words ≡ D p
  declared n = let v = seen_after n in ap length v.words ∙ length_moves v.j (begin p memory) ∙ length-take-le (D p) memory (omega (arith, lent.enough))

  data_words_of : (limit : ℕ) → take (D p) (walk p memory limit).words ≡ (after limit).words
  data_words_of limit = rw (walk_tells limit) (take_at (after limit).words (drop (D p) memory) (D p) (declared limit))

  -- ── the statement's clauses ──

  pub taken : (limit : ℕ) → (walk p memory limit).status < 2
  taken limit = rw (walk_tells limit) (status_few (after limit).end)

  pub within_limit : (limit : ℕ) → (walk p memory limit).steps ≤ limit
  within_limit limit = rw (walk_from_start limit) (omega (arith, steps_within t limit 0 start))

  pub at_limit : (limit : ℕ) → (walk p memory limit).status ≡ 0 → (walk p memory limit).steps ≡ limit
  at_limit limit e = rw (walk_from_start limit) (omega (arith, steps_used t limit 0 start (rw (walk_from_start limit) at e)))

  pub untouched : (limit : ℕ) → drop (D p) (walk p memory limit).words ≡ drop (D p) memory
  untouched limit = rw (walk_tells limit) (drop_at (after limit).words (drop (D p) memory) (D p) (declared limit))

  pub sees : (limit : ℕ) → (j : ℕ) × ((walk p memory limit).trace ≡ (moves j (begin p memory)).trace)
  sees limit = let v = seen_after limit in (v.j, rw (walk_tells limit) v.trace)

  -- that many moves or more: what is done behind a row is done at once, so a list in the midst of it is passed over (Demand5Example's `copy`)
  pub reaches : (j : ℕ) → (limit k : ℕ) × (j ≤ k) × ((walk p memory limit).trace ≡ (moves k (begin p memory)).trace)
  reaches j =
      let x = reached j in
      let v = seen x.1 in
      (x.0, j + v.j, omega arith, rw (walk_tells x.0) (v.trace ∙ ap (λ (s : State). s.trace) (moves_more j v.j (begin p memory))))

  pub ended : (limit : ℕ) → (walk p memory limit).status ≡ 1 → EndsAsSource p memory (walk p memory limit)
  ended limit h =
      let v = seen_after limit in
      record {
        j = v.j;
        ends = rw (walk_tells limit, ← v.end) (ends_so (after limit).end (rw (walk_tells limit) at h));
        same_words = data_words_of limit ∙ v.words;
        same_trace = rw (walk_tells limit) v.trace;
      }

  pub ends : (j n : ℕ) → let s = moves j (begin p memory) in ends_with s.end n ≡ true → Eventually (λ limit. WalksTo p n s.words s.trace (walk p memory limit))
  ends j n h =
      let s = moves j (begin p memory) in
      let x = reached j in
      let y = after x.0 in
      let v = seen x.1 in
      let k = tells s.end n h in
      let same : moves v.j s ≡ s = moves_over v.j s k.no_more in
      let end : y.end ≡ s.end = v.end ∙ ap (λ (s : State). s.end) same in
      let still : (limit : ℕ) → x.0 ≤ limit → after limit ≡ y = λ limit b. times_still (turn t) limit x.0 start b (turn_over t y (rw end k.no_more)) in (
        x.0,
        λ limit b. record {
          by_end = rw (walk_tells limit, still limit b, end) k.status;
          number = rw (walk_tells limit, still limit b, end) k.number;
          same_words = data_words_of limit ∙ rw (still limit b) (v.words ∙ ap (λ (s : State). s.words) same);
          same_trace = rw (walk_tells limit, still limit b) (v.trace ∙ ap (λ (s : State). s.trace) same);
        },
      )

  -- ── the image: by demand 3 it ends as the source does, and so as the walk ──

  module _ (short : length (image p) ≤ 65536) where
    -- the image's half
    image_as_source : Demand3 p memory
    image_as_source = demand3 p sound short memory lent

    -- of two limits at which the image ended, the larger serves both: its words and its list are the source's
    pub as_image : (n : ℕ) (words : List ℕ) (trace : List Access) → Eventually (λ limit. EndsBy p n words trace (image_run p memory limit))
        → Eventually (λ limit. WalksTo p n words trace (walk p memory limit))
    unfolding calls
    as_image n words trace (l, f) =
        let e = f l (omega arith) in
        let x = (image_as_source.answered (run l ∷ [])).0.ended e.by_svc in
        let h = rw e.number at x.ends in
        let i = image_as_source.ends x.j n h in
        let a = f (max l i.0) (omega arith) in
        let b = i.1 (max l i.0) (omega arith) in
        let w = ends x.j n h in
        (w.0, λ limit k. rw (sym a.same_words ∙ b.same_words, sym a.same_trace ∙ b.same_trace) (w.1 limit k))

    pub image_as : (n : ℕ) (words : List ℕ) (trace : List Access) → Eventually (λ limit. WalksTo p n words trace (walk p memory limit))
        → Eventually (λ limit. EndsBy p n words trace (image_run p memory limit))
    image_as n words trace (l, f) =
        let e = f l (omega arith) in
        let x = ended l e.by_end in
        let i = image_as_source.ends x.j n (rw e.number at x.ends) in
        (i.0, λ limit k. rw (sym e.same_words ∙ x.same_words, sym e.same_trace ∙ x.same_trace) (i.1 limit k))

-- THE theorem
pub demand5 : (p : Program) → Sound p → row_count p ≤ 1024 → length (image p) ≤ 65536 → (memory : List ℕ) → Lent p memory → Demand5 p memory
demand5 p sound few short memory lent = record {
  taken = taken p sound few memory lent;
  within_limit = within_limit p sound few memory lent;
  at_limit = at_limit p sound few memory lent;
  untouched = untouched p sound few memory lent;
  sees = sees p sound few memory lent;
  reaches = reaches p sound few memory lent;
  ended = ended p sound few memory lent;
  ends = ends p sound few memory lent;
  as_image = as_image p sound few memory lent short;
  image_as = image_as p sound few memory lent short;
}
