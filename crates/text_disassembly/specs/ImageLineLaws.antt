-- The lines of a whole image: one after another by the size of each, how long they are, and that they give back its halfwords.
-- Laws; rests on ImageLines and HalfwordsBack. Assumes nothing.
use Rattle.std.proofs.Math.Path.{◌≡◌}
use Rattle.std.specs.Prelude.{refl, Bool, ℕ, zero, suc, ◌+◌, ◌*◌, ◌≤◌, ◌<◌, ltb, eqb, get_or, drop, Option, Some, None}
use Rattle.std.proofs.Common.{ap, ◌∙◌, length-drop, drop_of_length-le, get_or-drop, drop-drop}
use Rattle.std.proofs.Math.Bool.{true, false}
use mathlib.Core.List.{List, [], ◌∷◌, ◌++◌, flatten}
use native.Mathlib.Omega.{arith}
use borrow.Author.Tests.{le-ltb, lt-ltb, ltb-true, ltb-false}
use Rattle.std.proofs.Math.ListN.{length, length-append}
use Rattle.arm_word.specs.Choice.{pick}
use Rattle.arm_word.specs.ChoiceLaws.{by_test}
use Rattle.arm_encoding.specs.declared.Instr.{Instr}
use Rattle.arm_encoding.specs.Encoding.{decode_of}
use Rattle.arm_machine.specs.Step.{half_at}
use Rattle.text_disassembly.specs.Disassembly.{after, line, bytes, size}
use Rattle.text_disassembly.specs.ImageLines.{halfwords, more_shown, lines, text_from}
use Rattle.text_disassembly.specs.HalfwordsBack.{two_in, halfwords_in, read_back}
use Rattle.text_disassembly.specs.LineReading.{line_short, by_size, first_back, second_back}

-- ── a line after another ──

-- the halfword at the front, 0 where there is none
first_halfword : (bs : List ℕ) → get_or (halfwords bs) 0 0 ≡ half_at bs 0
unfolding halfwords
first_halfword [] = refl
first_halfword (a ∷ []) = refl
first_halfword (a ∷ b ∷ bs) = refl

-- what the line before has shown is stepped over
stepped : (at : ℕ) (bs : List ℕ) → lines (at + 2) 1 (halfwords bs) ≡ lines (at + 4) 0 (halfwords (drop 2 bs))
unfolding halfwords lines
stepped at [] = refl
stepped at (a ∷ []) = refl
stepped at (a ∷ b ∷ bs) = ap (λ (n : ℕ). lines n 0 (halfwords bs)) (omega arith)

onward : (at a b : ℕ) (bs : List ℕ) (first h : ℕ) → lines (at + 2) (more_shown first h) (halfwords bs) ≡ lines (at + size first h) 0 (halfwords (drop (size first h) (a ∷ b ∷ bs)))
onward at a b bs first h =
    by_size (λ (n : ℕ). lines (at + 2) (pick (eqb n 4) 1 0) (halfwords bs) ≡ lines (at + n) 0 (halfwords (drop n (a ∷ b ∷ bs)))) first h refl (stepped at bs)

-- the first line, and the text of what lies behind its bytes
line_then : (at : ℕ) (bs : List ℕ) →
    0 < length bs →
    text_from at bs
    ≡ line at (half_at bs 0) (half_at bs 2) ++ text_from (at + size (half_at bs 0) (half_at bs 2)) (drop (size (half_at bs 0) (half_at bs 2)) bs)
unfolding text_from flatten lines halfwords
line_then at [] n = absurd (omega arith)
line_then at (a ∷ []) n =
    let f = half_at (a ∷ []) 0 in
    ap (λ (r : List ℕ). line at f 0 ++ r) (by_size (λ (k : ℕ). [] ≡ text_from (at + k) (drop k (a ∷ []))) f 0 refl refl)
line_then at (a ∷ b ∷ bs) n =
    let f = half_at (a ∷ b ∷ bs) 0 in
    ap (λ (s : ℕ). line at f s ++ flatten (lines (at + 2) (more_shown f s) (halfwords bs))) (first_halfword bs)
    ∙ ap (λ (ls : List (List ℕ)). line at f (half_at bs 0) ++ flatten ls) (onward at a b bs f (half_at bs 0))

half_drop : (l : List ℕ) (at k n : ℕ) → at + k ≡ n → half_at (drop at l) k ≡ half_at l n
half_drop l at k n e =
    let f : at + (k + 1) ≡ n + 1 = omega arith in
    rw (get_or-drop at l k 0, get_or-drop at l (k + 1) 0, e, f)

-- the line at an address of an image, and the text from the address behind it on
pub text_at : (image : List ℕ) (at : ℕ) →
    at < length image →
    text_from at (drop at image)
    ≡ line at (half_at image at) (half_at image (at + 2))
    ++ text_from (at + size (half_at image at) (half_at image (at + 2))) (drop (at + size (half_at image at) (half_at image (at + 2))) image)
text_at image at h =
    let p = half_drop image at 0 at (omega arith) in
    let q = half_drop image at 2 (at + 2) refl in
    let n = size (half_at image at) (half_at image (at + 2)) in
    line_then at (drop at image) (omega (arith, length-drop at image))
    ∙ (λ j. line at (p j) (q j) ++ text_from (at + size (p j) (q j)) (drop (size (p j) (q j)) (drop at image)))
    ∙ ap (λ (bs : List ℕ). line at (half_at image at) (half_at image (at + 2)) ++ text_from (at + n) bs) (drop-drop n at image)

-- nothing is left past the end
pub text_end : (image : List ℕ) (at : ℕ) → length image ≤ at → text_from at (drop at image) ≡ []
unfolding text_from flatten lines halfwords
text_end image at h = ap (text_from at) (drop_of_length-le image h)

-- ── how long the lines are ──

lines_short : (hs : List ℕ) (at skip : ℕ) → length (flatten (lines at skip hs)) ≤ 58 * length hs
unfolding flatten lines
lines_short [] at skip = omega arith
lines_short (h ∷ hs) at zero = simp length-append (omega (arith, line_short at h (get_or hs 0 0), lines_short hs (at + 2) (more_shown h (get_or hs 0 0))))
lines_short (h ∷ hs) at (suc skip) = omega (arith, lines_short hs (at + 2) skip)

length_halfwords : (bs : List ℕ) → 2 * length (halfwords bs) ≤ length bs + 1
unfolding halfwords
length_halfwords [] = omega arith
length_halfwords (a ∷ []) = omega arith
length_halfwords (a ∷ b ∷ bs) = omega (arith, length_halfwords bs)

-- 58 bytes a halfword at most
pub text_short : (bs : List ℕ) (at n : ℕ) → length bs ≤ 2 * n → length (text_from at bs) ≤ 58 * n
unfolding text_from
text_short bs at n h = omega (arith, lines_short (halfwords bs) at 0, length_halfwords bs)

-- ── one line ──

-- a line shows one halfword, or a BL's two, of which the second is no small number
data Shown (at first h : ℕ) : Type 0 where
  one : halfwords_in (line at first h) ≡ first ∷ [] → more_shown first h ≡ 0 → Shown at first h
  two : halfwords_in (line at first h) ≡ first ∷ h ∷ [] → more_shown first h ≡ 1 → 0xF800 ≤ h → Shown at first h

module _ (at first h : ℕ) (l : first < 65536) (k : h < 65536) where
  length_line : length (line at first h) ≡ 10 + length (after at first h (decode_of first h))
  unfolding line
  length_line = simp length-append (omega arith)

  single : two_in (line at first h) ≡ false → size first h ≡ 2 → Shown at first h
  single t s = one (rw t (ap (λ (x : ℕ). x ∷ []) (first_back at first h l))) (rw s)

  low_size : (d : Option Instr) → first < 0xF000 → bytes first d ≡ 2
  low_size None b = refl
  low_size (Some i) b = rw (lt-ltb first 0xF000 b)

  low : first < 0xF000 → Shown at first h
  unfolding size
  low b = single (rw (first_back at first h l, lt-ltb first 0xF000 b)) (low_size (decode_of first h) b)

  -- F000 and more is BL, with F800 and more behind it
  large : (i : Instr) → decode_of first h ≡ Some i → 0xF000 ≤ first → 0xF800 ≤ h
  unfolding decode_of
  large i e b =
      by_test (λ (x : Bool). 0xF800 ≤ h) (ltb h 0xF800)
      (λ y. absurd (known_not (ltb first 0xF800) (rw (le-ltb first 0xF000 b, y) at e)))
      (λ y. ltb-false h 0xF800 y)
    where
      known_not : (x : Bool) → pick x None None ≡ Some i → ⊥
      known_not true e = let z : ◌≡◌ {A = ℕ} 0 1 = cc in omega arith
      known_not false e = let z : ◌≡◌ {A = ℕ} 0 1 = cc in omega arith

  high : 0xF000 ≤ first → (d : Option Instr) → decode_of first h ≡ d → Shown at first h
  unfolding size
  high b None e = single (rw (first_back at first h l, le-ltb first 0xF000 b, length_line, e)) (rw e)
  high b (Some i) e =
      let n : 10 < length (line at first h) = rw (length_line, e) (simp length-append (omega arith)) in
      let back = second_back at first h i e b k in
      two (rw (first_back at first h l, le-ltb first 0xF000 b, lt-ltb 10 (length (line at first h)) n) (ap (λ (x : ℕ). first ∷ x ∷ []) back))
      (rw (e, le-ltb first 0xF000 b)) (large i e b)

  shown : Shown at first h
  shown = by_test (λ (x : Bool). Shown at first h) (ltb first 0xF000) (λ y. low (ltb-true first 0xF000 y)) (λ y. high (ltb-false first 0xF000 y) (decode_of first h) refl)

-- ── all lines ──

-- halfwords from the front on, and those behind the first
record Back (hs : List ℕ) : Type 0 where
  all : (at : ℕ) → read_back (lines at 0 hs) ≡ hs
  behind : (at : ℕ) → read_back (lines at 1 hs) ≡ drop 1 hs

turn : (h : ℕ) (hs : List ℕ) → h < 65536 → ((j : ℕ) → get_or hs j 0 < 65536) → Back hs → (at : ℕ) → Shown at h (get_or hs 0 0) → read_back (lines at 0 (h ∷ hs)) ≡ h ∷ hs
unfolding lines read_back
turn h hs l small b at (one e s) =
    ap (λ (r : List ℕ). r ++ read_back (lines (at + 2) (more_shown h (get_or hs 0 0)) hs)) e
    ∙ ap (λ (n : ℕ). h ∷ read_back (lines (at + 2) n hs)) s
    ∙ ap (λ (r : List ℕ). h ∷ r) (b.all (at + 2))
turn h [] l small b at (two e s g) = absurd (omega (arith, g))
turn h (x ∷ hs) l small b at (two e s g) =
    ap (λ (r : List ℕ). r ++ read_back (lines (at + 2) (more_shown h x) (x ∷ hs))) e
    ∙ ap (λ (n : ℕ). h ∷ x ∷ read_back (lines (at + 2) n (x ∷ hs))) s
    ∙ ap (λ (r : List ℕ). h ∷ x ∷ r) (b.behind (at + 2))

back : (hs : List ℕ) → ((j : ℕ) → get_or hs j 0 < 65536) → Back hs
unfolding lines read_back
back [] small = record { all = λ at. refl; behind = λ at. refl }
back (h ∷ hs) small =
    let b = back hs (λ j. small (suc j)) in
    record { all = λ at. turn h hs (small 0) (λ j. small (suc j)) b at (shown at h (get_or hs 0 0) (small 0) (small 1)); behind = λ at. b.all (at + 2) }

-- the lines of an image give back its halfwords, whatever these are
pub lines_back : (hs : List ℕ) → ((j : ℕ) → get_or hs j 0 < 65536) → read_back (lines 0 0 hs) ≡ hs
lines_back hs small = (back hs small).all 0
