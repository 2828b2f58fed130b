-- What a call hands back, by whether an instruction completed. Laws; rests on Calls.
use Rattle.std.specs.Prelude.{◌≡◌, Bool, true, false, List, ℕ}
use Rattle.arm_state.specs.declared.Machine.{Machine}
use Rattle.gutilamboy_numbers.specs.Numbers.{words_of_state}
use Rattle.gutilamboy.specs.Calls.{handed}

pub kept : (m : Machine) (state : List ℕ) {b : Bool} → b ≡ false → state ≡ handed b m state
kept m state e = rw e

pub given : (m : Machine) (state : List ℕ) {b : Bool} → b ≡ true → words_of_state m ≡ handed b m state
given m state e = rw e
