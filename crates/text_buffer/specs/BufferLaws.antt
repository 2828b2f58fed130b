-- Texts put one after another are one text, and what a text at the front comes to. Laws; assumes nothing.
use Rattle.std.specs.Prelude.{◌≡◌, refl, List, [], ◌∷◌, ◌++◌, ℕ, suc, ◌+◌, ◌-◌, ◌≤◌, ◌<◌, min, ltb, length, take, drop, set}
use Rattle.std.proofs.Common.{sym, ap, ◌∙◌, arith, append_assoc, ltb-true, ltb-false, length-append, length-set, length-take, take_all, take_at, drop_of_length-le}
use Rattle.std.proofs.lemmas.List.{take-append-drop}
use Rattle.std.proofs.lemmas.List.Edits.{sets, sets-eq}
use Rattle.std.proofs.Math.Seq.{length-sets, set_out, drop-nil}
use Rattle.arm_word.specs.ChoiceLaws.{by_test}
use Rattle.text_buffer.specs.Buffer.{Placed, left, placed, overwritten}

-- the same bytes and the same place
same : (out out' : List ℕ) (end end' : ℕ) → out ≡ out' → end ≡ end' → left out end ≡ left out' end'
same out out' end end' e f = λ j. left (e j) (f j)

-- ── byte by byte ──

-- no text
pub none : (out : List ℕ) (at : ℕ) → left out at ≡ placed out at []
none out at = same out out at _ refl (omega arith)

past : (text out : List ℕ) (at : ℕ) → length out ≤ at → sets out at text ≡ out
past [] out at h = refl
past (b ∷ text) out at h = ap (λ (l : List ℕ). sets l (suc at) text) (set_out out at b h) ∙ past text out (suc at) (omega arith)

-- no room
pub full : (out : List ℕ) (at : ℕ) (text : List ℕ) → length out ≤ at → left out at ≡ placed out at text
full out at text h = same out _ at _ (sym (past text out at h)) (omega arith)

-- one byte, and the others behind it
pub more : (out : List ℕ) (at b : ℕ) (text : List ℕ) → at < length out → placed (set out at b) (suc at) text ≡ placed out at (b ∷ text)
more out at b text h = same _ _ _ _ refl (omega (arith, length-set out at b))

-- the buffer keeps its length
pub kept : (out out' : List ℕ) (at end : ℕ) (text : List ℕ) → left out' end ≡ placed out at text → length out' ≡ length out
kept out out' at end text e = ap (λ (p : Placed). length p.bytes) e ∙ length-sets out at text

-- ── text by text ──

-- a text behind what was put before
behind : Placed → List ℕ → Placed
behind p text = placed p.bytes p.end text

joined : (xs out : List ℕ) (at : ℕ) (ys : List ℕ) → behind (placed out at xs) ys ≡ placed out at (xs ++ ys)
unfolding behind
joined [] out at ys = ap (λ (p : Placed). behind p ys) (sym (none out at))
joined (x ∷ xs) out at ys =
    by_test (λ _. behind (placed out at (x ∷ xs)) ys ≡ placed out at (x ∷ xs ++ ys)) (ltb at (length out))
    (λ e.
    let h = ltb-true at (length out) e in
    ap (λ (p : Placed). behind p ys) (sym (more out at x xs h)) ∙ joined xs (set out at x) (suc at) ys ∙ more out at x (xs ++ ys) h)
    (λ e.
    let h = ltb-false at (length out) e in
    ap (λ (p : Placed). behind p ys) (sym (full out at (x ∷ xs) h)) ∙ sym (full out at ys h) ∙ full out at (x ∷ xs ++ ys) h)

pub then : (out out' : List ℕ) (at end : ℕ) (xs ys : List ℕ) → left out' end ≡ placed out at xs → placed out' end ys ≡ placed out at (xs ++ ys)
unfolding behind
then out out' at end xs ys e = ap (λ (p : Placed). behind p ys) e ∙ joined xs out at ys

-- as much of the text as there is room for, in one copy
pub copied : (out : List ℕ) (at : ℕ) (text : List ℕ) (n : ℕ) → at ≤ length out → n ≡ min (length text) (length out - at)
    → left (take at out ++ (take n text ++ drop (at + n) out)) (at + n) ≡ placed out at text
copied out at text n h e =
    let xs = take n text in
    let ys = drop n text in
    let l : length xs ≡ n = omega (arith, length-take n text, e) in
    let out' = take at out ++ (xs ++ drop (at + n) out) in
    let put : sets out at xs ≡ out' =
    sets-eq xs out at (omega (arith, l, e))
    ∙ append_assoc (take at out) xs (drop (at + length xs) out)
    ∙ ap (λ (k : ℕ). take at out ++ (xs ++ drop (at + k) out)) l in
    let front : left out' (at + n) ≡ placed out at xs = same _ _ _ _ (sym put) (omega (arith, l, e)) in
    let rest : left out' (at + n) ≡ placed out' (at + n) ys =
    by_test (λ _. left out' (at + n) ≡ placed out' (at + n) ys) (ltb n (length text))
    (λ t. let b = ltb-true n (length text) t in full out' (at + n) ys (omega (arith, e, ap length put, length-sets out at xs)))
    (λ t. let b = ltb-false n (length text) t in none out' (at + n) ∙ ap (placed out' (at + n)) (sym (drop_of_length-le text b))) in
    rest ∙ then out out' at (at + n) xs ys front ∙ ap (placed out at) (take-append-drop n text)

-- ── a text at the front ──

beside : (text out : List ℕ) (b at : ℕ) → sets (b ∷ out) (suc at) text ≡ b ∷ sets out at text
beside [] out b at = refl
beside (x ∷ text) out b at = beside text (set out at x) b (suc at)

at_front : (out text : List ℕ) → sets out 0 text ≡ overwritten out text
at_front [] text = past text [] 0 (omega arith) ∙ sym (drop-nil (length text))
at_front (b ∷ out) [] = refl
at_front (b ∷ out) (x ∷ text) = beside text out x 0 ∙ ap (λ (l : List ℕ). x ∷ l) (at_front out text)

pub front : (out out' : List ℕ) (end : ℕ) (text : List ℕ) → left out' end ≡ placed out 0 text → (end ≡ min (length text) (length out)) × (out' ≡ overwritten out text)
front out out' end text e = (ap (λ (p : Placed). p.end) e ∙ omega arith, ap (λ (p : Placed). p.bytes) e ∙ at_front out text)

-- ── a text in a buffer that has room for it ──

-- the buffer's first n bytes are the text
pub record Held (bytes : List ℕ) (n : ℕ) (text : List ℕ) : Type 0 where
  pub within : n ≤ length bytes
  pub counted : n ≡ length (take n bytes)
  pub whole : take n bytes ≡ text

pub held : (out out' : List ℕ) (n : ℕ) (text : List ℕ) → length text ≤ length out → (n ≡ min (length text) (length out)) × (out' ≡ overwritten out text) → Held out' n text
held out out' n text h w =
    let c : n ≡ length text = w.0 ∙ omega arith in
    let old = drop (length text) out in
    let b : out' ≡ text ++ old = w.1 ∙ ap (λ (l : List ℕ). l ++ old) (take_all (length out) text h) in
    let all : take n out' ≡ text = rw (b, c) (take_at text old (length text) refl) in
    record {
      within = omega (arith, c, ap length b, length-append text old);
      counted = c ∙ ap length (sym all);
      whole = all;
    }
