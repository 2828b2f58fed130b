-- Laws of the table: its forms stand in order and apart, so a halfword of a form finds its row, and one between two forms finds none. Rests on Encoding and on the laws of ranges.
use Rattle.std.specs.Prelude.{◌≡◌, refl, Bool, true, false, ◌&&◌, List, [], ◌∷◌, ℕ, zero, suc, ◌+◌, ◌-◌, ◌*◌, ◌/◌, ◌%◌, ◌≤◌, ◌<◌, Option, Some, None, length, get_or, ltb, leb, eqb}
use Rattle.std.proofs.Common.{sym, ap, ◌∙◌, ⊎_elim, div-add-mod', mod-lt, arith, lt-ltb, le-ltb, le-leb, ltb-true, ltb-false, eqb-true}
use Rattle.std.proofs.Math.Nat.{div-div-eq-div-mul}
use Rattle.std.proofs.lemmas.Bool.{lt-leb, eqb-false}
use Rattle.arm_word.specs.Choice.{pick}
use Rattle.arm_word.specs.ChoiceLaws.{by_test, pick_and, both, either}
use Rattle.arm_word.specs.Ranges.{from_to, Range, range, look}
use Rattle.arm_word.specs.RangeLaws.{after, ordered, hit, plain, miss, holding, held_by_none}
use Rattle.arm_encoding.specs.declared.Instr.{Instr}
use Rattle.arm_encoding.specs.declared.Instr.TheVariants.{Shli}
use Rattle.arm_encoding.specs.Encoding.{Form, Row, row, form, end, cut, within, find, table}

-- ── the table as ranges ──

-- a row's halfwords, and the instruction of each
abbrev range_of : Row → Range (ℕ → Option Instr)
range_of r = range r.shape.base (end r.shape - 1) (λ h. Some (cut r h))

unfoldable pub ranges : List Row → List (Range (ℕ → Option Instr))
ranges [] = []
ranges (r ∷ rows) = range_of r ∷ ranges rows

-- every form ends above 0
unfoldable some : List Row → Bool
some [] = true
some (r ∷ rows) = pick (ltb 0 (end r.shape)) (some rows) false

same_within : (f : Form) (h : ℕ) → 0 < end f → within f h ≡ from_to f.base (end f - 1) h
same_within f h p =
    pick_and (leb f.base h) (ltb h (end f))
    ∙ ap (λ (t : Bool). leb f.base h && t)
    (by_test (λ _. ltb h (end f) ≡ leb h (end f - 1)) (ltb h (end f))
    (λ e. let l = ltb-true h (end f) e in rw (lt-ltb h (end f) l, le-leb h (end f - 1) (omega arith)))
    (λ e. let l = ltb-false h (end f) e in rw (le-ltb h (end f) l, lt-leb h (end f - 1) (omega arith))))

find_look : (t : List Row) (h : ℕ) → some t ≡ true → find t h ≡ look (λ _. None) (ranges t) h h
unfolding find look ranges some
find_look [] h o = refl
find_look (r ∷ rows) h o =
    let w = both (ltb 0 (end r.shape)) (some rows) o in
    rw (same_within r.shape h (ltb-true 0 (end r.shape) w.0))
    (by_test (λ b. pick b (Some (cut r h)) (find rows h) ≡ pick b (λ x. Some (cut r x)) (look (λ _. None) (ranges rows) h) h) (from_to r.shape.base (end r.shape - 1) h)
    (λ _. refl)
    (λ _. find_look rows h w.1))

find_ranges : (h : ℕ) → find table h ≡ look (λ _. None) (ranges table) h h
unfolding table some
find_ranges h = find_look table h refl

-- what is no instruction is in no row, and what is in none is no instruction
unknown_held : (t : List Row) (h : ℕ) → look (λ _. None) (ranges t) h h ≡ None → holding (ranges t) h ≡ 0
unfolding look ranges holding
unknown_held [] h = λ _. refl
unknown_held (r ∷ rows) h =
    by_test (λ b. pick b (λ x. Some (cut r x)) (look (λ _. None) (ranges rows) h) h ≡ None → pick b 1 0 + holding (ranges rows) h ≡ 0)
    (from_to r.shape.base (end r.shape - 1) h)
    (λ _ e. absurd (let z : ◌≡◌ {A = ℕ} 0 1 = cc in omega arith))
    (λ _ e. omega (arith, unknown_held rows h e))

pub unknown_in_none : (h : ℕ) → find table h ≡ None → holding (ranges table) h ≡ 0
unknown_in_none h e = unknown_held table h (sym (find_ranges h) ∙ e)

pub in_none_unknown : (h : ℕ) → holding (ranges table) h ≡ 0 → find table h ≡ None
in_none_unknown h e = find_ranges h ∙ ap (λ (f : ℕ → Option Instr). f h) (held_by_none (λ _. None) (ranges table) h e)

ranges_at : (t : List Row) (d : Row) (k : ℕ) → get_or (ranges t) k (range_of d) ≡ range_of (get_or t k d)
unfolding ranges
ranges_at [] d k = refl
ranges_at (r ∷ rows) d zero = refl
ranges_at (r ∷ rows) d (suc k) = ranges_at rows d k

-- what stands for a row past the last
abbrev none : Row
none = row (form 0 1 1 1) Shli

-- row k of the table
abbrev pub at : ℕ → Row
at k = get_or table k none

in_order : ordered (ranges table) ≡ true
unfolding table ranges ordered after
in_order = refl

row_count : length (ranges table) ≡ 33
unfolding table ranges
row_count = refl

pub row_hit : (k h : ℕ) → k < 33 → (at k).shape.base ≤ h → h < end (at k).shape → find table h ≡ Some (cut (at k) h)
row_hit k h p l u =
    let e = ranges_at table none k in
    find_ranges h
    ∙ ap (λ (f : ℕ → Option Instr). f h) (hit (λ _. None) (ranges table) (range_of none) k h in_order (rw row_count p) (rw e l) (rw e (omega arith)))
    ∙ ap (λ (r : Range (ℕ → Option Instr)). r.value h) e

-- no row has a halfword from lo to hi
abbrev pub clear : ℕ → ℕ → Bool
clear lo hi = plain (λ _. false) lo hi (ranges table)

pub row_miss : (lo hi h : ℕ) → clear lo hi ≡ true → lo ≤ h → h ≤ hi → find table h ≡ None
row_miss lo hi h o l u =
    find_ranges h ∙ ap (λ (f : ℕ → Option Instr). f h) (miss (λ _. None) (λ _. false) (λ a e. absurd (let z : ◌≡◌ {A = ℕ} 0 1 = cc in omega arith)) (ranges table) lo hi h o l u)

-- ── blocks: the halfwords of one length that share a quotient, which a decoder's arms go by ──

-- x is none of these, the last first: what the rest of a `match` is told
abbrev pub NoneOf : List ℕ → ℕ → Type 0
NoneOf [] x = Unit {0}
NoneOf (k ∷ ks) x = NoneOf ks x × (x ≡ k → ⊥)

unfoldable pub listed : List ℕ → ℕ → Bool
listed [] x = false
listed (k ∷ ks) x = pick (eqb x k) true (listed ks x)

not_listed : (ks : List ℕ) (x : ℕ) → NoneOf ks x → listed ks x ≡ true → ⊥
unfolding listed
not_listed [] x r e = absurd (let z : ◌≡◌ {A = ℕ} 0 1 = cc in omega arith)
not_listed (k ∷ ks) x r e = ⊎_elim (λ t. r.1 (eqb-true x k t)) (λ t. not_listed ks x r.0 t) (either (eqb x k) (listed ks x) e)

-- of the n blocks of length s from block a on, those whose number isn't listed hold no form's halfword
unfoldable pub blocks_clear : List ℕ → ℕ → ℕ → ℕ → Bool
blocks_clear ks s a zero = true
blocks_clear ks s a (suc n) = pick (pick (listed ks a) true (clear (a * s) (a * s + s - 1))) (blocks_clear ks s (a + 1) n) false

pub block_miss : (ks : List ℕ) (s a n h : ℕ) → 0 < s → blocks_clear ks s a n ≡ true → a ≤ h / s → h / s < a + n → NoneOf ks (h / s) → find table h ≡ None
unfolding blocks_clear
block_miss ks s a n h p o l u r =
    let e = div-add-mod' h s in
    let m = mod-lt h p in
    at_block n a (h / s) o l u (omega arith) (omega arith) r
  where
    at_block : (n a q : ℕ) → blocks_clear ks s a n ≡ true → a ≤ q → q < a + n → q * s ≤ h → h < q * s + s → NoneOf ks q → find table h ≡ None
    at_block zero a q o l u f g r = absurd (omega arith)
    at_block (suc n) a q o l u f g r =
        let w = both (pick (listed ks a) true (clear (a * s) (a * s + s - 1))) (blocks_clear ks s (a + 1) n) o in
        by_test (λ _. find table h ≡ None) (eqb q a)
        (λ t.
        let q≡ = eqb-true q a t in
        ⊎_elim (λ x. absurd (not_listed ks a (rw q≡ at r) x)) (λ x. row_miss (a * s) (a * s + s - 1) h x (rw q≡ at f) (omega (arith, rw q≡ at g)))
        (either (listed ks a) (clear (a * s) (a * s + s - 1)) w.0))
        (λ t. let d = eqb-false q a t in at_block n (a + 1) q w.1 (omega arith) (omega arith) f g r)

-- the blocks of one group: the halfwords of a length of m blocks that share a quotient
pub rest_miss : (ks : List ℕ) (s m g h : ℕ) → 0 < s → 0 < m → blocks_clear ks s (g * m) m ≡ true → h / (s * m) ≡ g → NoneOf ks (h / s) → find table h ≡ None
rest_miss ks s m g h p q o e r =
    let d : h / s / m ≡ g = div-div-eq-div-mul h s m ∙ e in
    let x = div-add-mod' (h / s) m in
    let y = mod-lt (h / s) q in
    let z : h / s ≡ g * m + h / s % m = rw (← d) (sym x) in
    block_miss ks s (g * m) m h p o (omega arith) (omega arith) r
