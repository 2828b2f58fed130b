-- The size of what stands before a part: the test of a condition, and a jump over the part, whatever the distance. Laws; they rest on InstructionBytes and Blocks.
use Rattle.std.specs.Prelude.{◌≡◌, refl, [], ◌∷◌, ℕ, ◌/◌, ◌<◌}
use Rattle.std.proofs.Common.{arith, lt-ltb}
use Rattle.arm_encoding.specs.Encoding.{encode_of, put, put_long, narrow}
use Rattle.arm_encoding.specs.EncodingBytes.{encoded_bytes}
use Rattle.translate_rules.specs.InstructionBytes.{bytes_of, bytes, size}
use Rattle.translate_rules.specs.Blocks.{take_condition, jump_over}

pub condition_size : size take_condition ≡ 8
unfolding size bytes bytes_of encoded_bytes take_condition encode_of put narrow
condition_size = refl

narrow_small : (d : ℕ) → d < 2097152 → narrow 2097152 d ≡ d
unfolding narrow
narrow_small d h = rw (lt-ltb d 2097152 h)

-- "BL reaches -2,097,152 to 2,097,151": a jump on by fewer than 4,194,304 bytes
pub jump_size : (n : ℕ) → n < 4194304 → size (jump_over n ∷ []) ≡ 4
unfolding size bytes bytes_of encoded_bytes jump_over encode_of put_long
jump_size n h = rw (narrow_small (n / 2) (omega arith)) (rw (lt-ltb (n / 2) 4194304 (omega arith)) refl)
