-- A first halfword finds its row and its line: what the code's arms are compared with. Laws; rests on Classes and on the laws of ranges.
use Rattle.std.specs.Prelude.{◌≡◌, refl, Bool, true, false, ℕ, ◌≤◌, ◌<◌, length, get_or}
use Rattle.std.proofs.Common.{ap, arith}
use Rattle.arm_word.specs.Ranges.{Range, range}
use Rattle.arm_word.specs.RangeLaws.{after, ordered, hit, plain, miss}
use Rattle.arm_classes.specs.Classes.{lines, class_of, Part, none, all, only, but, paired, rows, defines, defined}

-- ── rows ──

-- row k
abbrev pub row : ℕ → Range Part
row k = get_or rows k (range 0 0 none)

rows_ordered : (ordered rows ≡ true) × (length rows ≡ 43)
unfolding rows ordered after
rows_ordered = (refl, refl)

pub in_row : (k h s : ℕ) → k < 43 → (row k).first ≤ h → h ≤ (row k).last → defined h s ≡ defines (row k).value h s
in_row k h s p l u = ap (λ (x : Part). defines x h s) (hit none rows (range 0 0 none) k h rows_ordered.0 (rw rows_ordered.1 p) l u)

abbrev pub is_none : Part → Bool
is_none none = true
is_none all = false
is_none (only m r) = false
is_none (but m r) = false
is_none paired = false

none_only : (x : Part) → is_none x ≡ true → x ≡ none
none_only none e = refl
none_only all e = absurd (let z : ◌≡◌ {A = ℕ} 0 1 = cc in omega arith)
none_only (only m r) e = absurd (let z : ◌≡◌ {A = ℕ} 0 1 = cc in omega arith)
none_only (but m r) e = absurd (let z : ◌≡◌ {A = ℕ} 0 1 = cc in omega arith)
none_only paired e = absurd (let z : ◌≡◌ {A = ℕ} 0 1 = cc in omega arith)

-- from lo to hi stand rows of which nothing is defined, and halfwords of the list
abbrev pub nothing : ℕ → ℕ → Bool
nothing lo hi = plain is_none lo hi rows

pub in_none : (lo hi h s : ℕ) → nothing lo hi ≡ true → lo ≤ h → h ≤ hi → defined h s ≡ false
in_none lo hi h s o l u = ap (λ (x : Part). defines x h s) (miss none is_none none_only rows lo hi h o l u)

-- ── lines ──

-- line k, from 0
abbrev pub line : ℕ → Range ℕ
line k = get_or lines k (range 0 0 0)

lines_ordered : (ordered lines ≡ true) × (length lines ≡ 12)
unfolding lines ordered after
lines_ordered = (refl, refl)

pub in_line : (k h : ℕ) → k < 12 → (line k).first ≤ h → h ≤ (line k).last → class_of h ≡ (line k).value
in_line k h p l u = hit 13 lines (range 0 0 0) k h lines_ordered.0 (rw lines_ordered.1 p) l u

-- behind the last line
pub past_lines : (h : ℕ) → 0xE800 ≤ h → class_of h ≡ 13
unfolding lines plain
past_lines h l = miss 13 (λ _. false) (λ a e. absurd (let z : ◌≡◌ {A = ℕ} 0 1 = cc in omega arith)) lines 0xE800 h h refl l (omega arith)
