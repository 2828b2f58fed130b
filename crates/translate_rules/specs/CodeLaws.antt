-- Laws of the rules' definitions: bytes of instructions one after another, the constant by its three cases, the code of a list of processes.
-- Rests on InstructionBytes, Constant, ImageCode.
use Rattle.std.specs.Prelude.{◌≡◌, refl, List, [], ◌∷◌, ◌++◌, ℕ, ◌+◌, ◌≤◌, ◌<◌, length}
use Rattle.std.proofs.Common.{sym, ap, ◌∙◌, append_assoc, append-nil, length-append}
use borrow.Author.Tests.{lt-ltb, le-ltb, le-leb, lt-leb}
use Rattle.std.specs.Int.Count.{count_trailing_zeros, count_leading_zeros}
use Rattle.arm_encoding.specs.declared.Instr.{Instr}
use Rattle.x_program.specs.Tree as tree
use Rattle.x_program.specs.Core.{core_process, core_list}
use Rattle.translate_rules.specs.InstructionBytes.{bytes_of, bytes, size}
use Rattle.translate_rules.specs.Constant.{byte_constant, span_constant, long_constant, load_constant}
use Rattle.translate_rules.specs.ImageCode.{process_code}

pub bytes_append : (xs ys : List Instr) → bytes (xs ++ ys) ≡ bytes xs ++ bytes ys
unfolding bytes
bytes_append [] ys = refl
bytes_append (x ∷ xs) ys = ap (λ (l : List ℕ). bytes_of x ++ l) (bytes_append xs ys) ∙ sym (append_assoc (bytes_of x) (bytes xs) (bytes ys))

pub size_append : (xs ys : List Instr) → size (xs ++ ys) ≡ size xs + size ys
unfolding size
size_append xs ys = ap length (bytes_append xs ys) ∙ length-append (bytes xs) (bytes ys)

module _ (d w : ℕ) where
  pub constant_byte : w < 256 → load_constant d w ≡ byte_constant d w
  unfolding load_constant
  constant_byte h = rw (lt-ltb w 256 h)

  pub constant_span : 256 ≤ w → 24 ≤ count_leading_zeros 32 w + count_trailing_zeros 32 w → load_constant d w ≡ span_constant d w
  unfolding load_constant
  constant_span h s = rw (le-ltb w 256 h, le-leb 24 _ s)

  pub constant_long : 256 ≤ w → count_leading_zeros 32 w + count_trailing_zeros 32 w < 24 → load_constant d w ≡ long_constant d w
  unfolding load_constant
  constant_long h s = rw (le-ltb w 256 h, lt-leb 24 _ s)

-- a list's code is its processes' code, one after another
pub list_code : (p : tree.Process) (ps : tree.Processes) → process_code (core_list (tree.also p ps)) ≡ process_code (core_process p) ++ process_code (core_list ps)
unfolding process_code
list_code p tree.none = sym (append-nil (process_code (core_process p)))
list_code p (tree.also q qs) = refl
