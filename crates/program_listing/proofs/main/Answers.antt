-- `program_listing::main` meets its contract: the array has room for every listing. By a law on its length, since it is too long to be counted out.
-- Assumes nothing.
use Rattle.std.proofs.Common.{sym, ℕ, le_of_eq}
use Rattle.std.proofs.lemmas.List.{length-replicate}
use Rattle.program_listing.proofs.main.Goals as goal

pub slice_bounds-answer-end-2 : goal.slice_bounds-answer-end-2
slice_bounds-answer-end-2 c = sym (length-replicate {A = ℕ} _ 0)

pub answer-requires : goal.answer-requires
answer-requires c = le_of_eq (sym (length-replicate {A = ℕ} _ 0))
