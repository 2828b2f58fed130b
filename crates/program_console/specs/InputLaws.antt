-- What is known of the bytes that were read. Laws; assumes nothing.
use Rattle.std.specs.Prelude.{◌≡◌, List, ℕ}
use Rattle.std.proofs.Common.{subst}
use Rattle.std.specs.Counts.{IsPrefixLen}
use Rattle.std.specs.declared.result.Result.{Result}
use Rattle.std.specs.declared.result.Result.TheVariants.{Ok}
use Rattle.program_console.specs.Input.{Within}

pub counted : {E : Type 0} (r : Result ℕ E) (n : ℕ) (buffer : List ℕ) → r ≡ Ok n → Within r buffer → IsPrefixLen n buffer
counted {E} r n buffer = subst (λ (x : Result ℕ E). Within x buffer)
