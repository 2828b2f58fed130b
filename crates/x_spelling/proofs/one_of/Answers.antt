-- `x_spelling::one_of` meets its contract: what `contains` answers is membership.
use mathlib.Core.Path.{◌∙◌}
use Rattle.x_spelling.specs.Runs.{one_of_any}
use Rattle.x_spelling.proofs.one_of.Goals as goal

pub returns : goal.returns
returns c = c.contains.ensures.value ∙ one_of_any c.args.set.now c.args.b
