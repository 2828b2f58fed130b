-- A sound program's tree is resolved: its variables and arrays are words that were declared so. Laws; assumes nothing.
use Rattle.std.specs.Prelude.{◌≡◌, List, ◌+◌}
use Rattle.std.proofs.Common.{arith}
use Rattle.x_program.specs.Tree.{Variable, Array, Declaration, Program, Expression, constant, variable, element, monadic, diadic, bracket, Process, skip, stop, assign, assign_element, braces}
use Rattle.x_program.specs.Tree.{conditional, loop, Processes, none, also}
use Rattle.x_program.specs.Core.{core, core_process, core_list, joined}
use Rattle.x_program.specs.Sound.{IsVariable, IsArray, Lengths, SoundExpression, SoundProcess, Sound, declared_inside, declared_array, length_of}
use Rattle.x_program.specs.Resolved.{DeclaredVariable, DeclaredArray, Resolved, ResolvedProcess, ResolvedAll}

module _ (ds : List Declaration) (lengths : Lengths ds) where
  is_variable : (v : Variable) → IsVariable ds v → DeclaredVariable ds v
  is_variable v h =
      let e : v.offset + 0 ≡ v.offset = omega arith in
      record { inside = omega (arith, declared_inside h); apart = rw e at (declared_array 0 (omega arith) h) }

  is_array : (a : Array) → IsArray ds a → DeclaredArray ds a
  is_array a h =
      let l = length_of lengths h in
      record { some = l.0; few = l.1; inside = declared_inside h; own = λ i b. declared_array i b h }

  sound_expression : (e : Expression) → SoundExpression ds (core e) → Resolved ds e
  sound_expression (constant w) h = h
  sound_expression (variable v) h = is_variable v h
  sound_expression (element a e) h = (is_array a h.0, sound_expression e h.1)
  sound_expression (monadic o e) h = sound_expression e h
  sound_expression (diadic o e f) h = (sound_expression e h.0, sound_expression f h.1)
  sound_expression (bracket e) h = sound_expression e h

  -- the parts of a list
  first_part : (p : Process) (ps : Processes) → SoundProcess ds (joined (core_process p) ps (core_list ps)) → SoundProcess ds (core_process p)
  first_part p none h = h
  first_part p (also q qs) h = h.0

  other_parts : (p : Process) (ps : Processes) → SoundProcess ds (joined (core_process p) ps (core_list ps)) → SoundProcess ds (core_list ps)
  other_parts p none h = tt
  other_parts p (also q qs) h = h.1

  mutual
    sound_process : (p : Process) → SoundProcess ds (core_process p) → ResolvedProcess ds p
    sound_process skip h = tt
    sound_process stop h = tt
    sound_process (assign v e) h = (is_variable v h.0, sound_expression e h.1)
    sound_process (assign_element a s e) h = (is_array a h.0, sound_expression s h.1, sound_expression e h.2)
    sound_process (braces ps) h = sound_processes ps h
    sound_process (conditional e p q) h = (sound_expression e h.0, sound_process p h.1, sound_process q h.2)
    sound_process (loop e p) h = (sound_expression e h.0, sound_process p h.1)

    sound_processes : (ps : Processes) → SoundProcess ds (core_list ps) → ResolvedAll ds ps
    sound_processes none h = tt
    sound_processes (also p ps) h = (sound_process p (first_part p ps h), sound_processes ps (other_parts p ps h))

pub sound_resolved : (p : Program) → Sound p → ResolvedProcess p.declarations p.body
sound_resolved p s = sound_process p.declarations s.lengths p.body s.body
