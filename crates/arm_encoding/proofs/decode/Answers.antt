-- `arm_encoding::decode` meets its contract: each key of the match is the group of one row, or of several that a function of its own tells apart; the groups that no key names hold none.
-- Rests on the definitions that its contract cites; assumes nothing.
use mathlib.Core.Path.{◌≡◌, refl, sym, ◌∙◌}
use mathlib.Core.List.{List, [], ◌∷◌}
use Prim.Native.Nat.{ℕ, ◌+◌, ◌/◌, ◌≤◌, ◌<◌}
use native.Mathlib.Omega.{arith}
use lib.Dec.{ltb, lit<}
use borrow.Author.Tests.{lt-ltb, le-ltb, ltb-true, ltb-false}
use Rattle.arm_word.specs.ChoiceLaws.{by_test}
use Rattle.arm_word.specs.RangeLaws.{plain}
use Rattle.arm_encoding.specs.Encoding.{table, decode_of}
use Rattle.arm_encoding.specs.EncodingTable.{NoneOf, row_hit, ranges, listed, blocks_clear, block_miss}
use Rattle.std.specs.Prelude.{None}
use Rattle.arm_encoding.proofs.decode.Goals as goal

abbrev groups : List ℕ
groups = 30 ∷ 28 ∷ 27 ∷ 26 ∷ 22 ∷ 21 ∷ 20 ∷ 19 ∷ 18 ∷ 13 ∷ 12 ∷ 11 ∷ 10 ∷ 9 ∷ 8 ∷ 7 ∷ 6 ∷ 4 ∷ 3 ∷ 2 ∷ 1 ∷ 0 ∷ []

unlisted : (h k : ℕ) → NoneOf groups (h / 2048) → None ≡ decode_of h k
unfolding decode_of table ranges plain listed blocks_clear
unlisted h k =
    by_test (λ _. NoneOf groups (h / 2048) → None ≡ decode_of h k) (ltb h 0xF000)
    (λ e.
    let b = ltb-true h 0xF000 e in
    let l : 0 ≤ h / 2048 = omega arith in
    let u : h / 2048 < 0 + 30 = omega arith in
    λ r. rw (lt-ltb h 0xF000 b) (sym (block_miss groups 2048 0 30 h (lit< tt) refl l u r)))
    (λ e r. rw (le-ltb h 0xF000 (ltb-false h 0xF000 e), le-ltb h 0xF800 (last h (ltb-false h 0xF000 e) r.1)))
  where
    last : (n : ℕ) → 0xF000 ≤ n → (n / 2048 ≡ 30 → ⊥) → 0xF800 ≤ n
    last n l d = omega arith

pub returns-in-0 : goal.returns-in-0
unfolding decode_of table
returns-in-0 c =
    rw (
      c.field.ensures,
      c.field-in-0.ensures,
      c.low.ensures,
      lt-ltb c.args.h 0xF000
          (omega arith),
    ) (sym (row_hit 0 _ (lit< tt) (omega arith) (omega arith)))

pub returns-in-1 : goal.returns-in-1
unfolding decode_of table
returns-in-1 c =
    rw (
      c.swap32.ensures,
      c.field-in-1.ensures,
      c.field-in-1-2.ensures,
      c.low-in-1.ensures,
      lt-ltb c.args.h 0xF000
          (omega arith),
    ) (sym (row_hit 1 _ (lit< tt) (omega arith) (omega arith)))

pub returns-in-2 : goal.returns-in-2
unfolding decode_of table
returns-in-2 c =
    rw (
      c.swap32-in-2.ensures,
      c.field-in-2.ensures,
      c.field-in-2-2.ensures,
      c.low-in-2.ensures,
      lt-ltb c.args.h 0xF000
          (omega arith),
    ) (sym (row_hit 2 _ (lit< tt) (omega arith) (omega arith)))

pub returns-in-3 : goal.returns-in-3
unfolding decode_of
returns-in-3 c = c.arithmetic.ensures ∙ rw (lt-ltb c.args.h 0xF000 (omega arith))

pub returns-in-4 : goal.returns-in-4
unfolding decode_of table
returns-in-4 c =
    rw (c.field-in-4.ensures, c.low-in-4.ensures, lt-ltb c.args.h 0xF000 (omega arith))
    (sym (row_hit 5 _ (lit< tt) (omega arith) (omega arith)))

pub returns-in-6 : goal.returns-in-6
unfolding decode_of table
returns-in-6 c =
    rw (c.field-in-6.ensures, c.low-in-6.ensures, lt-ltb c.args.h 0xF000 (omega arith))
    (sym (row_hit 6 _ (lit< tt) (omega arith) (omega arith)))

pub returns-in-7 : goal.returns-in-7
unfolding decode_of table
returns-in-7 c =
    rw (c.field-in-7.ensures, c.low-in-7.ensures, lt-ltb c.args.h 0xF000 (omega arith))
    (sym (row_hit 7 _ (lit< tt) (omega arith) (omega arith)))

pub returns-in-8 : goal.returns-in-8
unfolding decode_of
returns-in-8 c = c.logical.ensures ∙ rw (lt-ltb c.args.h 0xF000 (omega arith))

pub returns-in-9 : goal.returns-in-9
unfolding decode_of table
returns-in-9 c =
    rw (c.field-in-9.ensures, c.low-in-9.ensures, lt-ltb c.args.h 0xF000 (omega arith))
    (sym (row_hit 16 _ (lit< tt) (omega arith) (omega arith)))

pub returns-in-10 : goal.returns-in-10
unfolding decode_of
returns-in-10 c = c.stored.ensures ∙ rw (lt-ltb c.args.h 0xF000 (omega arith))

pub returns-in-11 : goal.returns-in-11
unfolding decode_of
returns-in-11 c = c.loaded.ensures ∙ rw (lt-ltb c.args.h 0xF000 (omega arith))

pub returns-in-12 : goal.returns-in-12
unfolding decode_of table
returns-in-12 c =
    rw (
      c.field-in-12.ensures,
      c.field-in-12-2.ensures,
      c.low-in-12.ensures,
      lt-ltb c.args.h 0xF000
          (omega arith),
    ) (sym (row_hit 19 _ (lit< tt) (omega arith) (omega arith)))

pub returns-in-13 : goal.returns-in-13
unfolding decode_of table
returns-in-13 c =
    rw (
      c.field-in-13.ensures,
      c.field-in-13-2.ensures,
      c.low-in-13.ensures,
      lt-ltb c.args.h 0xF000
          (omega arith),
    ) (sym (row_hit 20 _ (lit< tt) (omega arith) (omega arith)))

pub returns-in-18 : goal.returns-in-18
unfolding decode_of table
returns-in-18 c =
    rw (c.field-in-18.ensures, c.low-in-18.ensures, lt-ltb c.args.h 0xF000 (omega arith))
    (sym (row_hit 21 _ (lit< tt) (omega arith) (omega arith)))

pub returns-in-19 : goal.returns-in-19
unfolding decode_of table
returns-in-19 c =
    rw (c.field-in-19.ensures, c.low-in-19.ensures, lt-ltb c.args.h 0xF000 (omega arith))
    (sym (row_hit 22 _ (lit< tt) (omega arith) (omega arith)))

pub returns-in-20 : goal.returns-in-20
unfolding decode_of table
returns-in-20 c =
    rw (c.field-in-20.ensures, c.low-in-20.ensures, lt-ltb c.args.h 0xF000 (omega arith))
    (sym (row_hit 23 _ (lit< tt) (omega arith) (omega arith)))

pub returns-in-21 : goal.returns-in-21
unfolding decode_of table
returns-in-21 c =
    rw (c.field-in-21.ensures, c.low-in-21.ensures, lt-ltb c.args.h 0xF000 (omega arith))
    (sym (row_hit 24 _ (lit< tt) (omega arith) (omega arith)))

pub returns-in-22 : goal.returns-in-22
unfolding decode_of
returns-in-22 c = c.pointer.ensures ∙ rw (lt-ltb c.args.h 0xF000 (omega arith))

pub returns-in-26 : goal.returns-in-26
unfolding decode_of
returns-in-26 c = c.equality.ensures ∙ rw (lt-ltb c.args.h 0xF000 (omega arith))

pub returns-in-27 : goal.returns-in-27
unfolding decode_of
returns-in-27 c = c.order.ensures ∙ rw (lt-ltb c.args.h 0xF000 (omega arith))

pub returns-in-28 : goal.returns-in-28
unfolding decode_of table
returns-in-28 c = rw (c.widen.ensures, lt-ltb c.args.h 0xF000 (omega arith)) (sym (row_hit 32 _ (lit< tt) (omega arith) (omega arith)))

pub returns-in_default : goal.returns-in_default
returns-in_default c = unlisted _ _ c.in_default.in_default-own.rest
