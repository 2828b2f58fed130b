-- `outcome` against the split of a source: where nothing among 2 to 5 is deserved it reads the tokens, else it refuses by what stands first. Laws; rests on Split, TokenList and LexemeLaws.
use Rattle.std.specs.Prelude.{Bool, List, [], ◌∷◌, ℕ, zero, suc, ◌+◌, ◌-◌, ◌≤◌, ◌<◌, eqb, leb, length}
use Rattle.std.proofs.Common.{arith, eqb-true, leb-true, leb-false}
use Rattle.arm_word.specs.Choice.{pick}
use Rattle.arm_word.specs.ChoiceLaws.{by_test}
use Rattle.x_tokens.specs.Refusals as refusal
use Rattle.x_tokens.specs.Refusals.{number}
use Rattle.x_tokens.specs.Lexemes.{lexeme}
use Rattle.x_tokens.specs.LexemeLaws.{Good, lexeme_good}
use Rattle.x_tokens.specs.TokenList.{Entry, Outcome, read, refused, also, taken, scan}
use Rattle.x_tokens.specs.Split as parts
use Rattle.x_tokens.specs.Split.{Split, whole, broken, next, Unlimited, unlimited, marked, split_from, split, AllTokens, Flaw, no_token, here, later, Starts, broken_there, there, after}
use Rattle.x_tokens.specs.declared.Lexeme.{Lexeme}
use Rattle.x_tokens.specs.declared.Lexeme.TheVariants.{Separator, Token, Broken}
use Rattle.x_tokens.specs.SplitLaws.{Deserves, NotBefore, Agrees, by_token, by_count}

-- ── what is split stands at its place or later ──

abbrev Past : ℕ → Split → Type 0
Past p whole = Unit {0}
Past p (broken q) = p ≤ q
Past p (next t k s) = (p ≤ t.place) × Past p s

past_earlier : (p q : ℕ) (s : Split) → p ≤ q → Past q s → Past p s
past_earlier p q whole h a = tt
past_earlier p q (broken r) h a = omega arith
past_earlier p q (next t k s) h a = (omega (arith, a.0), past_earlier p q s h a.1)

past_marked : (l : Lexeme) (u : Unlimited) (p : ℕ) (rest : ℕ → Split) → ((n : ℕ) → Past (p + 1) (rest n)) → Past p (marked l u p rest)
past_marked Separator u p rest h = past_earlier p (p + 1) (rest 0) (omega arith) (h 0)
past_marked (Token k n v) u p rest h = (omega arith, past_earlier p (p + 1) (rest (n - 1)) (omega arith) (h (n - 1)))
past_marked (Broken r) u p rest h =
    by_test (λ (b : Bool). Past p (pick b (broken p) (next (record { kind = u.kind; place = p; value = u.value }) (number r) (rest (u.size - 1))))) (eqb (number r) 2)
    (λ _. omega arith) (λ _. (omega arith, past_earlier p (p + 1) (rest (u.size - 1)) (omega arith) (h (u.size - 1))))

past_split : (bs : List ℕ) (skip p : ℕ) → Past p (split_from bs skip p)
unfolding split_from
past_split [] skip p = tt
past_split (b ∷ bs) (suc skip) p = past_earlier p (p + 1) (split_from bs skip (p + 1)) (omega arith) (past_split bs skip (p + 1))
past_split (b ∷ bs) zero p = past_marked (lexeme (b ∷ bs)) (unlimited (b ∷ bs)) p (λ n. split_from bs n (p + 1)) (λ n. past_split bs n (p + 1))

-- ── a token passes no limit but 3 or 4 ──

abbrev Small : Split → Type 0
Small whole = Unit {0}
Small (broken q) = Unit {0}
Small (next t k s) = (k ≤ 4) × Small s

small_marked : (left : ℕ) (l : Lexeme) (u : Unlimited) (p : ℕ) (rest : ℕ → Split) → Good left l → ((n : ℕ) → Small (rest n)) → Small (marked l u p rest)
small_marked left Separator u p rest g h = h 0
small_marked left (Token k n v) u p rest g h = (omega arith, h (n - 1))
small_marked left (Broken r) u p rest g h =
    by_test (λ (b : Bool). Small (pick b (broken p) (next (record { kind = u.kind; place = p; value = u.value }) (number r) (rest (u.size - 1))))) (eqb (number r) 2) (λ _. tt) (λ _. (g.1, h (u.size - 1)))

small_split : (bs : List ℕ) (skip p : ℕ) → Small (split_from bs skip p)
unfolding split_from
small_split [] skip p = tt
small_split (b ∷ bs) (suc skip) p = small_split bs skip (p + 1)
small_split (b ∷ bs) zero p = small_marked (length (b ∷ bs)) (lexeme (b ∷ bs)) (unlimited (b ∷ bs)) p (λ n. split_from bs n (p + 1)) (lexeme_good b bs) (λ n. small_split bs n (p + 1))

small_flaw : {s : Split} {n p : ℕ} → Small s → Flaw s n p → n ≤ 4
small_flaw h no_token = omega arith
small_flaw h here = h.0
small_flaw h (later f) = small_flaw h.1 f

pub flaw_most : {n p : ℕ} (source : List ℕ) → Flaw (split source) n p → n ≤ 4
unfolding split
flaw_most source f = small_flaw (small_split source 0 0) f

flaw_past : {s : Split} {n q : ℕ} (p : ℕ) → Past p s → Flaw s n q → p ≤ q
flaw_past p a no_token = a
flaw_past p a here = a.0
flaw_past p a (later f) = flaw_past p a.1 f

start_past : {s : Split} {i q : ℕ} (p : ℕ) → Past p s → Starts s i q → p ≤ q
start_past p a broken_there = a
start_past p a there = a.0
start_past p a (after f) = start_past p a.1 f

-- the same refusal behind a token that passes no limit
behind : {c : ℕ} {t : Entry} {s : Split} {n p : ℕ} → Deserves (c + 1) s n p → Deserves c (next t 0 s) n p
behind (by_token f h) = by_token (later f) h
behind {c} (by_count {i = i} f e) = by_count (after f) (omega (arith, e))

within : {c : ℕ} {t : Entry} {s : Split} {n p : ℕ} → c < 1024 → Deserves c (next t 0 s) n p → Deserves (c + 1) s n p
within l (by_token here h) = absurd (omega arith)
within l (by_token (later f) h) = by_token f h
within l (by_count there e) = absurd (omega arith)
within l (by_count (after {i = i} f) e) = by_count f (omega (arith, e))

agree_also : (c : ℕ) (t : Entry) (s : Split) (o : Outcome) → c < 1024 → Agrees (c + 1) s o → Agrees c (next t 0 s) (also t o)
agree_also c t s (read ts) l a = (parts.also a.0, λ n p d. a.1 n p (within l d))
agree_also c t s (refused n p) l a = (behind a.0, λ m q d. a.1 m q (within l d))

-- a token that stands first, with a refusal at its place: what is deserved later stands behind it
first : {c : ℕ} {t : Entry} {k : ℕ} {s : Split} (n : ℕ) → Past (t.place + 1) s → (2 ≤ k → n ≤ k) → n ≤ 5 → (m q : ℕ) → Deserves c (next t k s) m q → NotBefore n t.place m q
first n a h l m q (by_token here g) = record { place = omega arith; number = λ _. h g }
first {t = t} n a h l m q (by_token (later f) g) = let b = flaw_past (t.place + 1) a f in record { place = omega arith; number = λ e. absurd (omega arith) }
first n a h l m q (by_count there g) = record { place = omega arith; number = λ _. l }
first {t = t} n a h l m q (by_count (after f) g) = let b = start_past (t.place + 1) a f in record { place = omega arith; number = λ e. absurd (omega arith) }

no_more : {c p : ℕ} (m q : ℕ) → Deserves c (broken p) m q → NotBefore 2 p m q
no_more m q (by_token no_token g) = record { place = omega arith; number = λ _. omega arith }
no_more m q (by_count broken_there g) = record { place = omega arith; number = λ _. omega arith }

module _ (left p c : ℕ) (u : Unlimited) (next_outcome : ℕ → ℕ → Outcome) (next_split : ℕ → Split) (few : c ≤ 1024) (past : (n : ℕ) → Past (p + 1) (next_split n))
    (agree : (n d : ℕ) → d ≤ 1024 → Agrees d (next_split n) (next_outcome n d)) where
  agree_taken : (l : Lexeme) → Good left l → Agrees c (marked l u p next_split) (taken l p c next_outcome)
  agree_taken Separator g = agree 0 c few
  agree_taken (Token k n v) g =
      let t : Entry = record { kind = k; place = p; value = v } in
      let s = next_split (n - 1) in
      by_test (λ (b : Bool). Agrees c (next t 0 s) (pick b (refused refusal.many_tokens p) (also t (next_outcome (n - 1) (c + 1))))) (leb 1024 c)
      (λ e. let l = leb-true 1024 c e in (by_count there (omega arith), first 5 (past (n - 1)) (λ z. absurd (omega arith)) (omega arith)))
      (λ e. let l : c < 1024 = leb-false 1024 c e in agree_also c t s (next_outcome (n - 1) (c + 1)) l (agree (n - 1) (c + 1) (omega arith)))
  agree_taken (Broken r) g =
      let n = number r in
      let t : Entry = record { kind = u.kind; place = p; value = u.value } in
      by_test (λ (b : Bool). Agrees c (pick b (broken p) (next t n (next_split (u.size - 1)))) (refused n p)) (eqb n 2)
      (λ e. rw (eqb-true n 2 e) (by_token no_token (omega arith), no_more))
      (λ e. (by_token here g.0, first n (past (u.size - 1)) (λ _. omega arith) (omega (arith, g.1))))

no_flaw : {n p : ℕ} → Flaw whole n p → ⊥
no_flaw f = elim f [ ]

no_start : {i p : ℕ} → Starts whole i p → ⊥
no_start f = elim f [ ]

nothing : {c n p : ℕ} → Deserves c whole n p → ⊥
nothing (by_token f h) = no_flaw f
nothing (by_count f h) = no_start f

agree_scan : (bs : List ℕ) (skip p c : ℕ) → c ≤ 1024 → Agrees c (split_from bs skip p) (scan bs skip p c)
unfolding split_from scan
agree_scan [] skip p c h = (parts.none, λ n q d. nothing d)
agree_scan (b ∷ bs) (suc skip) p c h = agree_scan bs skip (p + 1) c h
agree_scan (b ∷ bs) zero p c h =
    agree_taken (length (b ∷ bs)) p c (unlimited (b ∷ bs)) (λ n d. scan bs n (p + 1) d) (λ n. split_from bs n (p + 1)) h (λ n. past_split bs n (p + 1))
    (λ n d. agree_scan bs n (p + 1) d) (lexeme (b ∷ bs)) (lexeme_good b bs)

-- a source of at most 16,384 bytes: its tokens, and nothing among 2 to 5 is deserved, or the first that is
pub agree_split : (source : List ℕ) → Agrees 0 (split source) (scan source 0 0 0)
unfolding split
agree_split source = agree_scan source 0 0 0 (omega arith)
