-- `arm_classes::class_of` meets its contract: each arm of the match is a line.
-- Rests on the definitions that its contract cites; assumes nothing.
use mathlib.Core.Path.{sym}
use native.Mathlib.Omega.{arith}
use lib.Dec.{lit<}
use Rattle.arm_classes.specs.Classes.{lines}
use Rattle.arm_classes.specs.ClassRows.{in_line, past_lines}
use Rattle.arm_classes.proofs.class_of.Goals as goal

pub returns-in-0-to-16383 : goal.returns-in-0-to-16383
unfolding lines
returns-in-0-to-16383 c = sym (in_line 0 _ (lit< tt) (omega arith) (omega arith))

pub returns-in-16384-to-17407 : goal.returns-in-16384-to-17407
unfolding lines
returns-in-16384-to-17407 c = sym (in_line 1 _ (lit< tt) (omega arith) (omega arith))

pub returns-in-17408-to-18431 : goal.returns-in-17408-to-18431
unfolding lines
returns-in-17408-to-18431 c = sym (in_line 2 _ (lit< tt) (omega arith) (omega arith))

pub returns-in-18432-to-20479 : goal.returns-in-18432-to-20479
unfolding lines
returns-in-18432-to-20479 c = sym (in_line 3 _ (lit< tt) (omega arith) (omega arith))

pub returns-in-20480-to-40959 : goal.returns-in-20480-to-40959
unfolding lines
returns-in-20480-to-40959 c = sym (in_line 4 _ (lit< tt) (omega arith) (omega arith))

pub returns-in-40960-to-43007 : goal.returns-in-40960-to-43007
unfolding lines
returns-in-40960-to-43007 c = sym (in_line 5 _ (lit< tt) (omega arith) (omega arith))

pub returns-in-43008-to-45055 : goal.returns-in-43008-to-45055
unfolding lines
returns-in-43008-to-45055 c = sym (in_line 6 _ (lit< tt) (omega arith) (omega arith))

pub returns-in-45056-to-49151 : goal.returns-in-45056-to-49151
unfolding lines
returns-in-45056-to-49151 c = sym (in_line 7 _ (lit< tt) (omega arith) (omega arith))

pub returns-in-49152-to-51199 : goal.returns-in-49152-to-51199
unfolding lines
returns-in-49152-to-51199 c = sym (in_line 8 _ (lit< tt) (omega arith) (omega arith))

pub returns-in-51200-to-53247 : goal.returns-in-51200-to-53247
unfolding lines
returns-in-51200-to-53247 c = sym (in_line 9 _ (lit< tt) (omega arith) (omega arith))

pub returns-in-53248-to-57343 : goal.returns-in-53248-to-57343
unfolding lines
returns-in-53248-to-57343 c = sym (in_line 10 _ (lit< tt) (omega arith) (omega arith))

pub returns-in-57344-to-59391 : goal.returns-in-57344-to-59391
unfolding lines
returns-in-57344-to-59391 c = sym (in_line 11 _ (lit< tt) (omega arith) (omega arith))

pub returns-in_default : goal.returns-in_default
returns-in_default c = sym (past_lines _ (omega arith))
