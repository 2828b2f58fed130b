-- What ends a run before its limit, in document 01's numbers. Definitions.
use Rattle.std.specs.Prelude.{ℕ}
use Rattle.arm_state.specs.declared.Fault.{Fault}
use Rattle.arm_state.specs.declared.Fault.TheVariants.{Fetch, Undefined, Misaligned, Outside, Unsupported}
use Rattle.arm_state.specs.declared.Stop.{Stop}
use Rattle.arm_state.specs.declared.Stop.TheVariants.{Svc, Fault as Faulted}

-- Faults: "21 pc odd or a byte outside code", "22 not in this list", "23 address not a multiple of 4", "24 a byte outside memory";
-- request 2026-05: "26 ... for all else that we don't take"
abbrev pub fault_number : Fault → ℕ
fault_number Fetch = 21
fault_number Undefined = 22
fault_number Misaligned = 23
fault_number Outside = 24
fault_number (Unsupported class) = 26

-- 26 comes "with the class as a number"; 0 with any other
abbrev pub class_of : Fault → ℕ
class_of Fetch = 0
class_of Undefined = 0
class_of Misaligned = 0
class_of Outside = 0
class_of (Unsupported class) = class

-- "SVC of any number ends the run" with 1
abbrev pub status_of : Stop → ℕ
status_of (Svc u) = 1
status_of (Faulted f) = fault_number f

abbrev pub number_of : Stop → ℕ
number_of (Svc u) = u
number_of (Faulted f) = class_of f
