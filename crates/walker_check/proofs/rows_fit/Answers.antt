-- `walker_check::rows_fit` meets its contract: at first no row has been passed.
-- Assumes nothing.
use Rattle.walker_check.specs.TableCheckLaws.{none_counted}
use Rattle.walker_check.proofs.rows_fit.Goals as goal

pub loop-r-init : goal.loop-r-init
loop-r-init c = none_counted _
