-- The premises can be met, and the definitions compute: document 01's `var x; x := 2 + 3`, clause by clause, and a copy within an array, whose load and store follow one row. Instances.
use Rattle.std.specs.Prelude.{◌≡◌, refl, true, List, [], ◌∷◌, map, ℕ, ◌≤◌, ◌<◌, take, drop}
use Rattle.std.proofs.Common.{arith, lit<, lit≤}
use Rattle.arm_word.specs.Access.{loaded, stored}
use Rattle.x_program.specs.Tree.{Program, Array, array, data_words, constant, element, assign_element}
use Rattle.x_program.specs.Rows.{count, rows, count_process, rows_process, declared_rows, table_of, row_count}
use Rattle.x_program.specs.Sound.{Sound, here}
use Rattle.x_program.specs.ValidTable.{shape, process_shape, data_before, rows_fit, valid}
use Rattle.x_meaning.specs.SourceRun.{moves, begin, ends_with}
use Rattle.x_meaning.specs.TableRun.{settle, begun, walk_from, walk_of}
use Rattle.theorem_simulation.specs.Demand3.{Lent, EndsBy}
use Rattle.theorem_simulation.proofs.Demand3Example.{five, lent_words, five_image, five_sound, five_lent}
use Rattle.theorem_walker.specs.Demand5.{walk, image_run, Eventually, WalksTo}
use Rattle.theorem_walker.proofs.Demand5Proof as proof

-- ── var x; x := 2 + 3, over 14 words ──

five_few : row_count five ≤ 1024
unfolding five row_count count_process count
five_few = lit≤ tt

-- four rows are begun: at limit 3 the run says so, at 4 it ends by 0 with 5 in x and all other words as they were
five_walks : map (walk five lent_words) (3 ∷ 4 ∷ [])
    ≡ record { status = 0; number = 0; steps = 3; words = 7 ∷ 1 ∷ 2 ∷ 3 ∷ 4 ∷ 5 ∷ 6 ∷ 7 ∷ 8 ∷ 9 ∷ 10 ∷ 11 ∷ 0xFFFFFFFF ∷ 99 ∷ []; trace = [] }
    ∷ record { status = 1; number = 0; steps = 4; words = 5 ∷ 1 ∷ 2 ∷ 3 ∷ 4 ∷ 5 ∷ 6 ∷ 7 ∷ 8 ∷ 9 ∷ 10 ∷ 11 ∷ 0xFFFFFFFF ∷ 99 ∷ []; trace = [] } ∷ []
unfolding five lent_words table_of declared_rows rows rows_process count count_process shape process_shape data_before rows_fit valid settle begun walk_from walk_of
five_walks = refl

-- ── the clauses as they read for this program, each with its number: one that said less, or more, would not fit here ──

-- neither 36 nor 33
five_taken : (limit : ℕ) → (walk five lent_words limit).status < 2
five_taken = proof.taken five five_sound five_few lent_words five_lent

five_within : (walk five lent_words 3).steps ≤ 3
five_within = proof.within_limit five five_sound five_few lent_words five_lent 3

five_at_limit : (walk five lent_words 3).status ≡ 0 → (walk five lent_words 3).steps ≡ 3
five_at_limit = proof.at_limit five five_sound five_few lent_words five_lent 3

-- the 13 words behind x
five_untouched : (limit : ℕ) → drop 1 (walk five lent_words limit).words ≡ 1 ∷ 2 ∷ 3 ∷ 4 ∷ 5 ∷ 6 ∷ 7 ∷ 8 ∷ 9 ∷ 10 ∷ 11 ∷ 0xFFFFFFFF ∷ 99 ∷ []
unfolding five lent_words data_words
five_untouched = proof.untouched five five_sound five_few lent_words five_lent

five_sees : (limit : ℕ) → (j : ℕ) × ((walk five lent_words limit).trace ≡ (moves j (begin five lent_words)).trace)
five_sees = proof.sees five five_sound five_few lent_words five_lent

five_ended : (walk five lent_words 4).status ≡ 1
    → (j : ℕ) × (ends_with (moves j (begin five lent_words)).end (walk five lent_words 4).number ≡ true)
    × (take 1 (walk five lent_words 4).words ≡ (moves j (begin five lent_words)).words) × ((walk five lent_words 4).trace ≡ (moves j (begin five lent_words)).trace)
unfolding five data_words
five_ended h = let x = proof.ended five five_sound five_few lent_words five_lent 4 h in (x.j, x.ends, x.same_words, x.same_trace)

-- the source's run has ended after seven moves
five_ends : Eventually (λ limit. WalksTo five 0 (5 ∷ []) [] (walk five lent_words limit))
unfolding five lent_words data_words
five_ends = proof.ends five five_sound five_few lent_words five_lent 7 0 refl

-- so the image ends by SVC 0 with 5 in x; and if it does, so does the walk
five_image_as : Eventually (λ limit. EndsBy five 0 (5 ∷ []) [] (image_run five lent_words limit))
five_image_as = proof.image_as five five_sound five_few lent_words five_lent (rw five_image (lit≤ tt)) 0 (5 ∷ []) [] five_ends

five_as_image : Eventually (λ limit. WalksTo five 0 (5 ∷ []) [] (walk five lent_words limit))
five_as_image = proof.as_image five five_sound five_few lent_words five_lent (rw five_image (lit≤ tt)) 0 (5 ∷ []) [] five_image_as

-- ── array a[2]; a[1] := a[0]: no row is begun between the load and the store ──

pair : Array
pair = record { row = 0; offset = 0; length = 2 }

copy : Program
copy = record { declarations = array 2 ∷ []; body = assign_element pair (constant 1) (element pair (constant 0)) }

-- 14 needed words
copy_words : List ℕ
copy_words = 8 ∷ 9 ∷ 0 ∷ 0 ∷ 0 ∷ 0 ∷ 0 ∷ 0 ∷ 0 ∷ 0 ∷ 0 ∷ 0 ∷ 0 ∷ 0 ∷ []

copy_sound : Sound copy
unfolding copy pair data_words
copy_sound = record { lengths = (lit< tt, lit≤ tt, tt); small = lit≤ tt; names = lit≤ tt; shallow = lit≤ tt; body = (here, lit< tt, (here, lit< tt)) }

copy_lent : Lent copy copy_words
unfolding copy copy_words data_words
copy_lent = record { words = omega arith; enough = lit≤ tt; few = lit≤ tt }

copy_few : row_count copy ≤ 1024
unfolding copy pair row_count count_process count
copy_few = lit≤ tt

-- the source's seventh move is the load, its eighth the store
copy_moves : map (λ j. (moves j (begin copy copy_words)).trace) (6 ∷ 7 ∷ 8 ∷ []) ≡ [] ∷ (loaded 0 8 ∷ []) ∷ (loaded 0 8 ∷ stored 1 9 8 ∷ []) ∷ []
unfolding copy pair copy_words data_words
copy_moves = refl

-- the walk makes both behind its fourth row: no limit shows the first alone, and a later list is reached
copy_walks : map (λ limit. (walk copy copy_words limit).trace) (3 ∷ 4 ∷ []) ≡ [] ∷ (loaded 0 8 ∷ stored 1 9 8 ∷ []) ∷ []
unfolding copy pair copy_words table_of declared_rows rows rows_process count count_process shape process_shape data_before rows_fit valid settle begun walk_from walk_of
copy_walks = refl

copy_reaches : (limit k : ℕ) × (7 ≤ k) × ((walk copy copy_words limit).trace ≡ (moves k (begin copy copy_words)).trace)
copy_reaches = proof.reaches copy copy_sound copy_few copy_words copy_lent 7
