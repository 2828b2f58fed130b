-- The state as a run holds it, r0 to r7 as fields. Definitions; rests on State and Effects.
use Rattle.std.specs.Prelude.{ℕ, List, [], ◌∷◌, Result, Ok, Err}
use Rattle.arm_state.specs.Effects.{After, after, done}
use Rattle.arm_state.specs.Stops.{fault_number, class_of, status_of, number_of}
use Rattle.arm_state.specs.declared.Core.{Core}
use Rattle.arm_state.specs.declared.Fault.{Fault}
use Rattle.arm_state.specs.declared.Machine.{Machine}
use Rattle.arm_state.specs.declared.Stepped.{Stepped}
use Rattle.arm_state.specs.declared.Stopped.{Stopped}

-- the same state as callers hold it
abbrev pub whole : Core → Machine
whole c = record {
  regs = c.r0 ∷ c.r1 ∷ c.r2 ∷ c.r3 ∷ c.r4 ∷ c.r5 ∷ c.r6 ∷ c.r7 ∷ [];
  sp = c.sp;
  lr = c.lr;
  pc = c.pc;
  flags = c.flags;
}

-- a fault by its kind: `fault` with its number, of one that isn't supported `unsupported` with its class
abbrev pub faulted : Machine → Fault → Stepped
faulted m f = record { machine = m; status = fault_number f; number = class_of f }

-- an instruction that stopped, with the state of before
abbrev pub stopped : Stopped → Stepped
stopped s = record { machine = whole s.core; status = status_of s.stop; number = number_of s.stop }

-- what an instruction did: the state after it, or what stopped it
abbrev pub stepped : Result Core Stopped → Stepped
stepped (Ok c) = done (whole c)
stepped (Err s) = stopped s

-- with the words of data after it
abbrev pub turned : Result Core Stopped → List ℕ → After
turned t w = after (stepped t) w
