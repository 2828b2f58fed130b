-- The bytes of an encoding: how many there are, and what its halfwords are. Laws; rests on EncodingBytes and EncodingLaws.
use Rattle.std.specs.Prelude.{◌≡◌, ◌*◌, ◌<◌, length, ltb}
use Rattle.std.proofs.Common.{ap, arith, lit<}
use Rattle.arm_word.specs.Choice.{pick}
use Rattle.arm_word.specs.ChoiceLaws.{by_test}
use Rattle.arm_encoding.specs.declared.Instr.{Instr}
use Rattle.arm_encoding.specs.Encoding.{Encoded, one, two, whole, encode_of}
use Rattle.arm_encoding.specs.EncodingBytes.{encoded_bytes}
use Rattle.arm_encoding.specs.Fields.{packed_lt, put_cases}
use Rattle.arm_encoding.specs.EncodingTable.{at}
use Rattle.arm_encoding.specs.EncodingLaws.{View, short, long, view, long_cases, sound_at, decode_encode, encode_decode, second_fits}

pub first_fits : (i : Instr) → (encode_of i).first < 65536
first_fits i = go (view i)
  where
    go : View i → (encode_of i).first < 65536
    go (short k a b c hk e m) =
        let f = (at k).shape in
        let top = (sound_at k hk).below in
        rw e (put_cases f a b c (λ r. r.first < 65536) (λ ha hb hc. omega (arith, packed_lt 0 f.high f.middle f.low a b c ha hb hc)) (lit< tt))
    go (long f e m) = rw e (long_cases (λ r. r.first < 65536) f (λ h. omega arith) (lit< tt))

-- an encoding that wasn't refused is its one halfword below F000, or its two
pub encode_whole : (i : Instr) → (encode_of i).status ≡ 0 → encode_of i ≡ whole (encode_of i).first (encode_of i).second
encode_whole i ok = encode_decode (encode_of i).first (encode_of i).second i (second_fits i) (decode_encode i ok)

-- as many bytes as the halfwords have
pub length_bytes : (i : Instr) → (encode_of i).status ≡ 0 → length (encoded_bytes (encode_of i)) ≡ 2 * (encode_of i).count
unfolding encoded_bytes
length_bytes i ok =
    let e = encode_of i in
    by_test (λ t. e ≡ pick t (one e.first) (two e.first e.second) → length (encoded_bytes e) ≡ 2 * e.count) (ltb e.first 0xF000)
    (λ _ q. let n : e.count ≡ 1 = ap (λ (x : Encoded). x.count) q in rw n)
    (λ _ q. let n : e.count ≡ 2 = ap (λ (x : Encoded). x.count) q in rw n)
    (encode_whole i ok)
