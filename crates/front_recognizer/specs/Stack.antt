-- The stack in the working table: a frame is a row. Definitions and laws; assume nothing.
use Rattle.std.specs.Prelude.{◌≡◌, refl, Bool, true, false, List, [], ◌∷◌, ℕ, zero, suc, ◌+◌, ◌-◌, ◌*◌, ◌<◌, ◌≤◌, eqb, length, get_or, set, None, Some}
use Rattle.std.proofs.Common.{ap, ◌∙◌, arith, add-one, length-set, get_or-set_same, get_or-set_other, ne_eqb, le-leb}
use Rattle.std.proofs.lemmas.List.Edits.{sets}
use Rattle.std.proofs.Math.Seq.{length-sets}
use Rattle.std.proofs.lemmas.Bool.{lt-leb}
use Rattle.x_spelling.specs.Kinds as kind
use Rattle.x_grammar.specs.RawRows.{row}
use Rattle.x_program.specs.Layout.{row_words}
use Rattle.front_recognizer.specs.declared.Frame.{Frame}
use Rattle.front_recognizer.specs.declared.Action.{Action}
use Rattle.front_recognizer.specs.declared.Control.{Control}
use Rattle.front_recognizer.specs.Marks.{mark_number, mark_of, mark_back}
use Rattle.front_recognizer.specs.Pushdown.{frame, Configuration, at, frames, pop, act, popped, links, in_chain, chain_operator}

-- the configuration that the control and the table are
abbrev pub viewed : List ℕ → Control → Configuration
viewed t c = at c.mode c.operator c.level (frames t c.height)

-- row n as a frame
abbrev pub frame_at : List ℕ → ℕ → Frame
frame_at t n = frame (mark_of (get_or t (row_words * n) 0)) (get_or t (row_words * n + 1) 0) (get_or t (row_words * n + 2) 0)

pub frames_none : (t : List ℕ) (h : ℕ) → h ≡ 0 → frames t h ≡ []
unfolding frames
frames_none t h e = rw e

pub frames_some : (t : List ℕ) (h n : ℕ) → h ≡ n + 1 → frames t h ≡ frame_at t n ∷ frames t n
unfolding frames
frames_some t h n e = rw (e, add-one)

-- an operator that chains
pub links_plus : (o k : ℕ) → o ≡ in_chain kind.plus → links o k ≡ eqb k kind.plus
links_plus o k e = rw e

pub links_other : (o k : ℕ) → in_chain kind.times ≤ o → o ≤ in_chain kind.xor → links o k ≡ eqb k (chain_operator o)
links_other o k a b = rw (ne_eqb (chain_operator o) kind.plus (omega arith), le-leb kind.times (chain_operator o) (omega arith), le-leb (chain_operator o) kind.xor (omega arith))

pub links_small : (o k : ℕ) → ¬ (o ≡ in_chain kind.plus) → o < in_chain kind.times → links o k ≡ false
links_small o k a b = rw (ne_eqb (chain_operator o) kind.plus (omega (arith, a)), lt-leb kind.times (chain_operator o) (omega arith))

pub links_large : (o k : ℕ) → in_chain kind.xor < o → links o k ≡ false
links_large o k b = rw (ne_eqb (chain_operator o) kind.plus (omega arith), le-leb kind.times (chain_operator o) (omega arith), lt-leb (chain_operator o) kind.xor (omega arith))

-- ── a frame is pushed ──
before : (vs l : List ℕ) (i j : ℕ) → j < i → get_or (sets l i vs) j 0 ≡ get_or l j 0
before [] l i j h = refl
before (v ∷ vs) l i j h = before vs (set l i v) (suc i) j (omega arith) ∙ get_or-set_other l i j v 0 (λ e. omega arith)

frames_kept : (t vs : List ℕ) (n h : ℕ) → h ≤ n → frames (sets t (row_words * n) vs) h ≡ frames t h
unfolding frames
frames_kept t vs n zero l = refl
frames_kept t vs n (suc h) l = rw (
  before vs t (row_words * n) (row_words * h) (omega arith),
  before vs t (row_words * n) (row_words * h + 1) (omega arith),
  before vs t (row_words * n) (row_words * h + 2) (omega arith),
  frames_kept t vs n h (omega arith),
)

module _ (t : List ℕ) (n a b c d : ℕ) (room : row_words * n + row_words ≤ length t) where
  at_mark : get_or (sets t (row_words * n) (row a b c d)) (row_words * n) 0 ≡ a
  at_mark = before (b ∷ c ∷ d ∷ []) (set t (row_words * n) a) (suc (row_words * n)) (row_words * n) (omega arith) ∙ get_or-set_same t (row_words * n) a 0 (omega arith)

  at_operator : get_or (sets t (row_words * n) (row a b c d)) (row_words * n + 1) 0 ≡ b
  at_operator =
      ap (λ (j : ℕ). get_or (sets t (row_words * n) (row a b c d)) j 0) (omega arith)
      ∙ before (c ∷ d ∷ []) (set (set t (row_words * n) a) (suc (row_words * n)) b) (suc (suc (row_words * n))) (suc (row_words * n)) (omega arith)
      ∙ get_or-set_same (set t (row_words * n) a) (suc (row_words * n)) b 0 (omega (arith, length-set t (row_words * n) a))

  at_level : get_or (sets t (row_words * n) (row a b c d)) (row_words * n + 2) 0 ≡ c
  at_level =
      ap (λ (j : ℕ). get_or (sets t (row_words * n) (row a b c d)) j 0) (omega arith)
      ∙ before (d ∷ []) (set (set (set t (row_words * n) a) (suc (row_words * n)) b) (suc (suc (row_words * n))) c) (suc (suc (suc (row_words * n)))) (suc (suc (row_words * n)))
      (omega arith)
      ∙ get_or-set_same (set (set t (row_words * n) a) (suc (row_words * n)) b) (suc (suc (row_words * n))) c 0
      (omega (arith, length-set t (row_words * n) a, length-set (set t (row_words * n) a) (suc (row_words * n)) b))

  frames_pushed : frames (sets t (row_words * n) (row a b c d)) (n + 1) ≡ frame (mark_of a) b c ∷ frames t n
  frames_pushed = frames_some (sets t (row_words * n) (row a b c d)) (n + 1) n refl ∙ rw (at_mark, at_operator, at_level, frames_kept t (row a b c d) n n (omega arith))

frames_popped : (t : List ℕ) (h : ℕ) (b : Bool) → frames t (popped h b) ≡ pop b (frames t h)
unfolding frames
frames_popped t h false = refl
frames_popped t zero true = refl
frames_popped t (suc h) true = let z : suc h - 1 ≡ h = omega arith in rw z

popped_low : (h : ℕ) (b : Bool) → popped h b ≤ h
popped_low h true = omega arith
popped_low h false = omega arith

-- the stack after an action that pushes nothing, and after one that pushes
pub act_kept : (t : List ℕ) (h : ℕ) (a : Action) → a.pushed ≡ None → at a.mode a.operator a.level (frames t (popped h a.pops)) ≡ act a (frames t h)
act_kept t h a e = rw (e, frames_popped t h a.pops)

pub act_pushed : (t t' : List ℕ) (h n : ℕ) (a : Action) (f : Frame) → a.pushed ≡ Some f → n ≡ popped h a.pops → length t ≡ 4096 → h < 1024
    → t' ≡ sets t (row_words * n) (row (mark_number f.mark) f.operator f.level 0) → at a.mode a.operator a.level (frames t' (n + 1)) ≡ act a (frames t h)
act_pushed t t' h n a f z e l b s = rw (s, frames_pushed t n (mark_number f.mark) f.operator f.level 0 (omega (arith, popped_low h a.pops)), mark_back f.mark, z, e, frames_popped t h a.pops)

pub popped_fits : (h n : ℕ) (b : Bool) → n ≡ popped h b → h < 1024 → n ≤ h
popped_fits h n b e l = omega (arith, popped_low h b)

pub long_pushed : (t t' : List ℕ) (n a b c d : ℕ) → length t ≡ 4096 → t' ≡ sets t (row_words * n) (row a b c d) → length t' ≡ 4096
long_pushed t t' n a b c d l e = rw e (length-sets t (row_words * n) (row a b c d) ∙ l)

pub length_frames : (t : List ℕ) (h : ℕ) → length (frames t h) ≡ h
unfolding frames
length_frames t zero = refl
length_frames t (suc h) = ap suc (length_frames t h)
