-- Code that holds an instruction's bytes at pc executes it: what a translation's proof asks of a step. Laws; rests on Step and on the encoding's laws.
use Rattle.std.specs.Prelude.{◌≡◌, List, ◌∷◌, ◌++◌, ℕ, ◌+◌, ◌*◌, ◌/◌, ◌%◌, ◌≤◌, Some, length, get_or, ltb}
use Rattle.std.proofs.Common.{sym, ◌∙◌, add-zero, add_assoc, arith, length-append, get_or-append-add}
use Rattle.std.proofs.Math.Path.{ap}
use borrow.Author.Tests.{lt-ltb, le-leb, eq-eqb}
use Rattle.arm_word.specs.Choice.{pick}
use Rattle.arm_word.specs.ChoiceLaws.{by_test}
use Rattle.arm_encoding.specs.Encoding.{Encoded, one, two, encode_of}
use Rattle.arm_encoding.specs.EncodingLaws.{decode_encode, known_below}
use Rattle.arm_encoding.specs.EncodingBytes.{encoded_bytes}
use Rattle.arm_encoding.specs.EncodingByteLaws.{encode_whole, length_bytes}
use Rattle.arm_encoding.specs.declared.Instr.{Instr}
use Rattle.arm_state.specs.Effects.{execute_of}
use Rattle.arm_state.specs.declared.Machine.{Machine}
use Rattle.arm_machine.specs.Step.{half_at, with_second, fetch_of, fetched, decoded, once_of}

-- ── by the halfwords that the code holds ──

module _ (c : List ℕ) (pc : ℕ) (i : Instr) (ok : (encode_of i).status ≡ 0) (even : pc % 2 ≡ 0) (room : pc + 2 * (encode_of i).count ≤ length c)
    (first : half_at c pc ≡ (encode_of i).first) (second : (encode_of i).count ≡ 2 → half_at c (pc + 2) ≡ (encode_of i).second) where
  fetch_is : fetch_of c pc ≡ Some ((encode_of i).first, (encode_of i).second)
  unfolding fetch_of with_second
  fetch_is =
      let h = (encode_of i).first in
      let s = (encode_of i).second in
      by_test (λ t. encode_of i ≡ pick t (one h) (two h s) → fetch_of c pc ≡ Some (h, s)) (ltb h 0xF000)
      (λ e q.
      let n : (encode_of i).count ≡ 1 = ap (λ (x : Encoded). x.count) q in
      let z : s ≡ 0 = ap (λ (x : Encoded). x.second) q in
      rw (eq-eqb (pc % 2) 0 even, le-leb (pc + 2) (length c) (omega arith), first, e) (ap (λ (x : ℕ). Some (h, x)) (sym z)))
      (λ e q.
      let n : (encode_of i).count ≡ 2 = ap (λ (x : Encoded). x.count) q in
      rw (eq-eqb (pc % 2) 0 even, le-leb (pc + 2) (length c) (omega arith), first, e, lt-ltb h 0xF800 (known_below h s i (decode_encode i ok)), le-leb (pc + 4) (length c) (omega arith))
      (ap (λ (x : ℕ). Some (h, x)) (second n)))
      (encode_whole i ok)

  pub once_at : (w : List ℕ) (m : Machine) → m.pc ≡ pc → once_of c w m ≡ execute_of c w m i
  unfolding once_of
  once_at w m e = ap (λ (a : ℕ). fetched c w m (fetch_of c a)) e ∙ ap (fetched c w m) fetch_is ∙ ap (decoded c w m (encode_of i).first (encode_of i).second) (decode_encode i ok)

-- ── by the bytes that the code was put together from ──

half_in : (before after : List ℕ) (h : ℕ) → half_at (before ++ (h % 256 ∷ h / 256 ∷ after)) (length before) ≡ h
half_in before after h =
    let l = h % 256 ∷ h / 256 ∷ after in
    let a : get_or (before ++ l) (length before) 0 ≡ h % 256 = ap (λ (n : ℕ). get_or (before ++ l) n 0) (sym (add-zero (length before))) ∙ get_or-append-add before l 0 0 in
    let b : get_or (before ++ l) (length before + 1) 0 ≡ h / 256 = get_or-append-add before l 1 0 in
    omega arith

second_in : (before after : List ℕ) (h s : ℕ) → half_at (before ++ (h % 256 ∷ h / 256 ∷ s % 256 ∷ s / 256 ∷ after)) (length before + 2) ≡ s
second_in before after h s =
    let l = h % 256 ∷ h / 256 ∷ s % 256 ∷ s / 256 ∷ after in
    let a : get_or (before ++ l) (length before + 2) 0 ≡ s % 256 = get_or-append-add before l 2 0 in
    let b : get_or (before ++ l) (length before + 2 + 1) 0 ≡ s / 256 = ap (λ (n : ℕ). get_or (before ++ l) n 0) (add_assoc (length before) 2 1) ∙ get_or-append-add before l 3 0 in
    omega arith

-- the bytes of an encoding that wasn't refused, with what follows them
bytes_one : (e : Encoded) (after : List ℕ) → e.count ≡ 1 → encoded_bytes e ++ after ≡ e.first % 256 ∷ e.first / 256 ∷ after
unfolding encoded_bytes
bytes_one e after n = rw n

bytes_two : (e : Encoded) (after : List ℕ) → e.count ≡ 2 → encoded_bytes e ++ after ≡ e.first % 256 ∷ e.first / 256 ∷ e.second % 256 ∷ e.second / 256 ∷ after
unfolding encoded_bytes
bytes_two e after n = rw n

pub once_in : (before after w : List ℕ) (m : Machine) (i : Instr) → (encode_of i).status ≡ 0 → length before % 2 ≡ 0 → m.pc ≡ length before
    → once_of (before ++ (encoded_bytes (encode_of i) ++ after)) w m ≡ execute_of (before ++ (encoded_bytes (encode_of i) ++ after)) w m i
once_in before after w m i ok even at =
    let e = encode_of i in
    let c = before ++ (encoded_bytes e ++ after) in
    let room : length before + 2 * e.count ≤ length c = simp (length-append) (omega (arith, length_bytes i ok)) in
    by_test (λ t. e ≡ pick t (one e.first) (two e.first e.second) → once_of c w m ≡ execute_of c w m i) (ltb e.first 0xF000)
    (λ _ q.
    let n : e.count ≡ 1 = ap (λ (x : Encoded). x.count) q in
    once_at c (length before) i ok even room (rw (bytes_one e after n) (half_in before after e.first)) (λ n'. absurd (omega arith)) w m at)
    (λ _ q.
    let n : e.count ≡ 2 = ap (λ (x : Encoded). x.count) q in
    once_at c (length before) i ok even room (rw (bytes_two e after n) (half_in before _ e.first)) (λ _. rw (bytes_two e after n) (second_in before after e.first e.second)) w m at)
    (encode_whole i ok)
