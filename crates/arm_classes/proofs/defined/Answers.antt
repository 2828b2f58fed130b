-- `arm_classes::defined` meets its contract: each arm of the match is a row of which something is defined; what no arm names is halfwords of the list, and rows of which nothing is.
-- Rests on the definitions that its contract cites; assumes nothing.
use mathlib.Core.Path.{refl, sym, ◌∙◌}
use native.Mathlib.Omega.{arith}
use lib.Dec.{lit<}
use Rattle.arm_word.specs.RangeLaws.{plain}
use Rattle.arm_classes.specs.Classes.{rows}
use Rattle.arm_classes.specs.ClassRows.{in_row, in_none}
use Rattle.arm_classes.proofs.defined.Goals as goal

pub returns-in-17792-to-17911 : goal.returns-in-17792-to-17911
unfolding rows
returns-in-17792-to-17911 c = sym (in_row 10 _ _ (lit< tt) (omega arith) (omega arith))

pub returns-in-18176-to-18295 : goal.returns-in-18176-to-18295
unfolding rows
returns-in-18176-to-18295 c = sym (in_row 13 _ _ (lit< tt) (omega arith) (omega arith))

pub returns-in-18304-to-18423 : goal.returns-in-18304-to-18423
unfolding rows
returns-in-18304-to-18423 c = sym (in_row 15 _ _ (lit< tt) (omega arith) (omega arith))

pub returns-in-46688-to-46719 : goal.returns-in-46688-to-46719
unfolding rows
returns-in-46688-to-46719 c = sym (in_row 26 _ _ (lit< tt) (omega arith) (omega arith))

pub returns-in-48896-to-49151 : goal.returns-in-48896-to-49151
unfolding rows
returns-in-48896-to-49151 c = sym (in_row 34 _ _ (lit< tt) (omega arith) (omega arith))

pub returns-in-49152-to-51199 : goal.returns-in-49152-to-51199
unfolding rows
returns-in-49152-to-51199 c = sym (in_row 35 _ _ (lit< tt) (omega arith) (omega arith))

pub returns-in-51200-to-53247 : goal.returns-in-51200-to-53247
unfolding rows
returns-in-51200-to-53247 c = sym (in_row 36 _ _ (lit< tt) (omega arith) (omega arith))

pub returns-in-61440-to-63487 : goal.returns-in-61440-to-63487
unfolding rows
returns-in-61440-to-63487 c = c.pair_defined.ensures ∙ sym (in_row 41 _ _ (lit< tt) (omega arith) (omega arith))

pub returns-in-53760-to-55807 : goal.returns-in-53760-to-55807
unfolding rows
returns-in-53760-to-55807 c = sym (in_row 37 _ _ (lit< tt) (omega arith) (omega arith))

pub returns-in-53760-to-55807-2 : goal.returns-in-53760-to-55807-2
unfolding rows
returns-in-53760-to-55807-2 c = sym (in_row 38 _ _ (lit< tt) (omega arith) (omega arith))

pub returns-in-47616-to-47743 : goal.returns-in-47616-to-47743
unfolding rows
returns-in-47616-to-47743 c = sym (in_row 28 _ _ (lit< tt) (omega arith) (omega arith))

pub returns-in-47616-to-47743-2 : goal.returns-in-47616-to-47743-2
unfolding rows
returns-in-47616-to-47743-2 c = sym (in_row 30 _ _ (lit< tt) (omega arith) (omega arith))

pub returns-in-47616-to-47743-3 : goal.returns-in-47616-to-47743-3
unfolding rows
returns-in-47616-to-47743-3 c = sym (in_row 33 _ _ (lit< tt) (omega arith) (omega arith))

pub returns-in-45568-to-45823 : goal.returns-in-45568-to-45823
unfolding rows
returns-in-45568-to-45823 c = sym (in_row 21 _ _ (lit< tt) (omega arith) (omega arith))

pub returns-in-45568-to-45823-2 : goal.returns-in-45568-to-45823-2
unfolding rows
returns-in-45568-to-45823-2 c = sym (in_row 24 _ _ (lit< tt) (omega arith) (omega arith))

pub returns-in-20992-to-22527 : goal.returns-in-20992-to-22527
unfolding rows
returns-in-20992-to-22527 c = sym (in_row 17 _ _ (lit< tt) (omega arith) (omega arith))

pub returns-in-20992-to-22527-2 : goal.returns-in-20992-to-22527-2
unfolding rows
returns-in-20992-to-22527-2 c = sym (in_row 18 _ _ (lit< tt) (omega arith) (omega arith))

pub returns-in-20992-to-22527-3 : goal.returns-in-20992-to-22527-3
unfolding rows
returns-in-20992-to-22527-3 c = sym (in_row 19 _ _ (lit< tt) (omega arith) (omega arith))

pub returns-in-17408-to-17662 : goal.returns-in-17408-to-17662
unfolding rows
returns-in-17408-to-17662 c = sym (in_row 5 _ _ (lit< tt) (omega arith) (omega arith))

pub returns-in-17408-to-17662-2 : goal.returns-in-17408-to-17662-2
unfolding rows
returns-in-17408-to-17662-2 c = sym (in_row 8 _ _ (lit< tt) (omega arith) (omega arith))

pub returns-in-17408-to-17662-3 : goal.returns-in-17408-to-17662-3
unfolding rows
returns-in-17408-to-17662-3 c = sym (in_row 12 _ _ (lit< tt) (omega arith) (omega arith))

pub returns-in-16640-to-16959 : goal.returns-in-16640-to-16959
unfolding rows
returns-in-16640-to-16959 c = sym (in_row 2 _ _ (lit< tt) (omega arith) (omega arith))

pub returns-in-16640-to-16959-2 : goal.returns-in-16640-to-16959-2
unfolding rows
returns-in-16640-to-16959-2 c = sym (in_row 3 _ _ (lit< tt) (omega arith) (omega arith))

pub returns-in-16640-to-16959-3 : goal.returns-in-16640-to-16959-3
unfolding rows
returns-in-16640-to-16959-3 c = sym (in_row 4 _ _ (lit< tt) (omega arith) (omega arith))

pub returns-in-7168-to-8191 : goal.returns-in-7168-to-8191
unfolding rows
returns-in-7168-to-8191 c = sym (in_row 0 _ _ (lit< tt) (omega arith) (omega arith))

pub returns-in-7168-to-8191-2 : goal.returns-in-7168-to-8191-2
unfolding rows
returns-in-7168-to-8191-2 c = sym (in_row 1 _ _ (lit< tt) (omega arith) (omega arith))

pub returns-in_default : goal.returns-in_default
unfolding rows plain
returns-in_default c = sym (in_none 0x0000 0x1BFF _ _ refl (omega arith) (omega arith))

pub returns-in_default-2 : goal.returns-in_default-2
unfolding rows plain
returns-in_default-2 c = sym (in_none 0x2000 0x27FF _ _ refl (omega arith) (omega arith))

pub returns-in_default-3 : goal.returns-in_default-3
unfolding rows plain
returns-in_default-3 c = sym (in_none 0x3000 0x40FF _ _ refl (omega arith) (omega arith))

pub returns-in_default-4 : goal.returns-in_default-4
unfolding rows plain
returns-in_default-4 c = sym (in_none 0x4240 0x427F _ _ refl (omega arith) (omega arith))

pub returns-in_default-5 : goal.returns-in_default-5
unfolding rows plain
returns-in_default-5 c = sym (in_none 0x4300 0x437F _ _ refl (omega arith) (omega arith))

pub returns-in_default-6 : goal.returns-in_default-6
unfolding rows plain
returns-in_default-6 c = sym (in_none 0x43C0 0x43FF _ _ refl (omega arith) (omega arith))

pub returns-in_default-7 : goal.returns-in_default-7
unfolding rows plain
returns-in_default-7 c = sym (in_none 0x44FF 0x453F _ _ refl (omega arith) (omega arith))

pub returns-in_default-8 : goal.returns-in_default-8
unfolding rows plain
returns-in_default-8 c = sym (in_none 0x4578 0x457F _ _ refl (omega arith) (omega arith))

pub returns-in_default-9 : goal.returns-in_default-9
unfolding rows plain
returns-in_default-9 c = sym (in_none 0x45F8 0x45FF _ _ refl (omega arith) (omega arith))

pub returns-in_default-10 : goal.returns-in_default-10
unfolding rows plain
returns-in_default-10 c = sym (in_none 0x4778 0x477F _ _ refl (omega arith) (omega arith))

pub returns-in_default-11 : goal.returns-in_default-11
unfolding rows plain
returns-in_default-11 c = sym (in_none 0x47F8 0x51FF _ _ refl (omega arith) (omega arith))

pub returns-in_default-12 : goal.returns-in_default-12
unfolding rows plain
returns-in_default-12 c = sym (in_none 0x5800 0x59FF _ _ refl (omega arith) (omega arith))

pub returns-in_default-13 : goal.returns-in_default-13
unfolding rows plain
returns-in_default-13 c = sym (in_none 0x6000 0x6FFF _ _ refl (omega arith) (omega arith))

pub returns-in_default-14 : goal.returns-in_default-14
unfolding rows plain
returns-in_default-14 c = sym (in_none 0x9000 0xB1FF _ _ refl (omega arith) (omega arith))

pub returns-in_default-15 : goal.returns-in_default-15
unfolding rows plain
returns-in_default-15 c = sym (in_none 0xB300 0xB400 _ _ refl (omega arith) (omega arith))

pub returns-in_default-16 : goal.returns-in_default-16
unfolding rows plain
returns-in_default-16 c = sym (in_none 0xB600 0xB65F _ _ refl (omega arith) (omega arith))

pub returns-in_default-17 : goal.returns-in_default-17
unfolding rows plain
returns-in_default-17 c = sym (in_none 0xB680 0xB9FF _ _ refl (omega arith) (omega arith))

pub returns-in_default-18 : goal.returns-in_default-18
unfolding rows plain
returns-in_default-18 c = sym (in_none 0xBA80 0xBABF _ _ refl (omega arith) (omega arith))

pub returns-in_default-19 : goal.returns-in_default-19
unfolding rows plain
returns-in_default-19 c = sym (in_none 0xBB00 0xBC00 _ _ refl (omega arith) (omega arith))

pub returns-in_default-20 : goal.returns-in_default-20
unfolding rows plain
returns-in_default-20 c = sym (in_none 0xD000 0xD1FF _ _ refl (omega arith) (omega arith))

pub returns-in_default-21 : goal.returns-in_default-21
unfolding rows plain
returns-in_default-21 c = sym (in_none 0xDA00 0xDBFF _ _ refl (omega arith) (omega arith))

pub returns-in_default-22 : goal.returns-in_default-22
unfolding rows plain
returns-in_default-22 c = sym (in_none 0xDE00 0xEFFF _ _ refl (omega arith) (omega arith))

pub returns-in_default-23 : goal.returns-in_default-23
unfolding rows plain
returns-in_default-23 c = sym (in_none 0xF800 0xFFFF _ _ refl (omega arith) (omega arith))
