-- The machine's access list. Definitions.
use Rattle.std.specs.Prelude.{ℕ, Bool, List, [], ◌∷◌}
use Rattle.arm_word.specs.Choice.{pick}
use Rattle.arm_word.specs.Access.{Access}

-- What a program means: "On the machine, the loads and stores inside an array's words are listed the same way. Variables, code and stack are not listed": `array k` says whether data word k
-- is an array's
unfoldable pub listed : (ℕ → Bool) → List Access → List Access
listed array [] = []
listed array (a ∷ more) = pick (array a.offset) (a ∷ listed array more) (listed array more)
