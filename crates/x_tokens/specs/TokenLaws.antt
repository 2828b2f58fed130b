-- The token list, token by token: the loop's steps; and what later passes rest on: each token lies in the source, places ascend. Laws.
-- Rests on TokenList and LexemeLaws.
use Rattle.std.specs.Prelude.{◌≡◌, refl, length, drop, set}
use Rattle.std.proofs.Common.{sym, ap, subst, ◌∙◌, add-one, drop_of_length-le, length-drop, drop-drop, le-leb}
use mathlib.Core.List.{List, [], ◌∷◌, ◌++◌}
use Prim.Native.Nat.{ℕ, zero, suc, ◌+◌, ◌-◌, ◌<◌, ◌≤◌}
use native.Mathlib.Omega.{arith}
use Rattle.std.proofs.Math.ListN.{get_or}
use Rattle.std.proofs.Math.Seq.{drop-nil, get_or-set_same, get_or-set_other}
use Rattle.std.specs.Prelude.{false, eqb}
use Rattle.std.proofs.lemmas.Bool.{lt-leb}
use Rattle.x_tokens.specs.Lexemes.{lexeme}
use Rattle.x_tokens.specs.TokenList.{Entry, Outcome, read, refused, also, taken, scan, outcome, entries}
use Rattle.x_spelling.specs.Runs.{drop_one}
use Rattle.x_tokens.specs.Refusals as refusal
use Rattle.x_tokens.specs.LexemeLaws.{Fits, Good, lexeme_good}
use Rattle.x_tokens.specs.declared.Lexeme.{Lexeme}
use Rattle.x_tokens.specs.declared.refusal.Reason.{Reason}
use Rattle.x_tokens.specs.declared.refusal.Reason.TheVariants.{LongSource, BrokenToken, LargeNumber, LongName, ManyTokens, Ungrammatical, DeepProgram}
use Rattle.x_tokens.specs.declared.refusal.Reason.TheVariants.{NotDeclared, DeclaredTwice, WrongKind, BadLength, TooMuch, ShortTable, ShortCode}
use Rattle.x_tokens.specs.declared.Lexeme.TheVariants.{Separator, Token, Broken}

-- tokens before what is to come
unfoldable pub before : List Entry → Outcome → Outcome
before [] r = r
before (t ∷ ts) r = also t (before ts r)

before_snoc : (ts : List Entry) (t : Entry) (r : Outcome) → before (ts ++ t ∷ []) r ≡ before ts (also t r)
unfolding before
before_snoc [] t r = refl
before_snoc (x ∷ ts) t r = ap (also x) (before_snoc ts t r)

pub before_read : (ts : List Entry) → before ts (read []) ≡ read ts
unfolding before
before_read [] = refl
before_read (x ∷ ts) = rw (before_read ts)

pub before_refused : (ts : List Entry) (n p : ℕ) → before ts (refused n p) ≡ refused n p
unfolding before
before_refused [] n p = refl
before_refused (x ∷ ts) n p = rw (before_refused ts n p)

scan_skip : (bs : List ℕ) (k p c : ℕ) → scan bs k p c ≡ scan (drop k bs) 0 (p + k) c
unfolding scan
scan_skip [] k p c = rw (drop-nil k)
scan_skip (b ∷ bs) zero p c = ap (λ (q : ℕ). scan (b ∷ bs) 0 q c) (omega arith)
scan_skip (b ∷ bs) (suc k) p c = scan_skip bs k (p + 1) c ∙ ap (λ (q : ℕ). scan (drop k bs) 0 q c) (omega arith)

pub scan_end : (s : List ℕ) (i c : ℕ) → length s ≤ i → scan (drop i s) 0 i c ≡ read []
unfolding scan
scan_end s i c h = rw (drop_of_length-le s h)

module _ (s : List ℕ) (i c : ℕ) (h : i < length s) where
  scan_step : (l : Lexeme) → l ≡ lexeme (drop i s) → scan (drop i s) 0 i c ≡ taken l i c (λ n d. scan (drop (i + 1) s) n (i + 1) d)
  unfolding scan
  scan_step l e = rw (e, drop_one s i h)

  pub step_separator : (l : Lexeme) → l ≡ lexeme (drop i s) → l ≡ Separator → scan (drop i s) 0 i c ≡ scan (drop (i + 1) s) 0 (i + 1) c
  step_separator l e q = scan_step Separator (sym q ∙ e)

  pub step_broken : (l : Lexeme) (r : Reason) → l ≡ lexeme (drop i s) → l ≡ Broken r → scan (drop i s) 0 i c ≡ refused (refusal.number r) i
  step_broken l r e q = scan_step (Broken r) (sym q ∙ e)

  module _ (l : Lexeme) (k n v : ℕ) (e : l ≡ lexeme (drop i s)) (q : l ≡ Token k n v) where
    pub step_full : 1024 ≤ c → scan (drop i s) 0 i c ≡ refused refusal.many_tokens i
    step_full f = scan_step (Token k n v) (sym q ∙ e) ∙ rw (le-leb 1024 c f)

    -- the token's bytes stand in the source
    pub step_fits : Fits (length s - i) k n v
    step_fits =
        let g = lexeme_good (get_or s i 0) (drop (i + 1) s) in
        let m : length (get_or s i 0 ∷ drop (i + 1) s) ≡ length s - i = ap length (sym (drop_one s i h)) ∙ simp length-drop in
        subst (Good (length s - i)) (sym (ap lexeme (drop_one s i h)) ∙ sym e ∙ q) (rw m at g)

    pub step_token : c < 1024 → scan (drop i s) 0 i c ≡ also (record { kind = k; place = i; value = v }) (scan (drop (i + n) s) 0 (i + n) (c + 1))
    step_token f =
        let one = step_fits.some in
        let a : i + 1 + (n - 1) ≡ i + n = omega arith in
        scan_step (Token k n v) (sym q ∙ e) ∙ rw (lt-leb 1024 c f, scan_skip (drop (i + 1) s) (n - 1) (i + 1) (c + 1), drop-drop (n - 1) (i + 1) s, a)

-- the token arrays with entry n written
module _ (ks ps vs : List ℕ) (n k p v : ℕ) (a : n < length ks) (b : n < length ps) (d : n < length vs) where
  entries_more : (m i : ℕ) → i + m ≡ n → entries (set ks n k) (set ps n p) (set vs n v) i (suc m) ≡ entries ks ps vs i m ++ (record { kind = k; place = p; value = v } ∷ [])
  unfolding entries
  entries_more zero i h =
      let q : i ≡ n = omega arith in
      rw (q, get_or-set_same ks n k 0 a, get_or-set_same ps n p 0 b, get_or-set_same vs n v 0 d)
  entries_more (suc m) i h =
      rw (get_or-set_other ks n i k 0 (omega arith), get_or-set_other ps n i p 0 (omega arith), get_or-set_other vs n i v 0 (omega arith))
      (ap (λ (l : List Entry). record { kind = get_or ks i 0; place = get_or ps i 0; value = get_or vs i 0 } ∷ l) (entries_more m (suc i) (omega arith)))

  -- a token more in the arrays is a token more before what is to come
  pub before_more : (r : Outcome) → before (entries ks ps vs 0 n) (also (record { kind = k; place = p; value = v }) r) ≡ before (entries (set ks n k) (set ps n p) (set vs n v) 0 (n + 1)) r
  before_more r = rw (add-one n, entries_more n 0 (omega arith), before_snoc)

pub before_none : (ks ps vs : List ℕ) (r : Outcome) → r ≡ before (entries ks ps vs 0 0) r
unfolding before entries
before_none ks ps vs r = refl

pub outcome_short : (s : List ℕ) → length s ≤ 16384 → outcome s ≡ scan s 0 0 0
unfolding outcome
outcome_short s h = rw (le-leb (length s) 16384 h)

pub outcome_long : (s : List ℕ) → 16384 < length s → outcome s ≡ refused refusal.long_source 0
unfolding outcome
outcome_long s h = rw (lt-leb (length s) 16384 h)

-- none is 0, which says that a source is accepted
pub not_zero : (r : Reason) → eqb (refusal.number r) 0 ≡ false
not_zero LongSource = refl
not_zero BrokenToken = refl
not_zero LargeNumber = refl
not_zero LongName = refl
not_zero ManyTokens = refl
not_zero Ungrammatical = refl
not_zero DeepProgram = refl
not_zero NotDeclared = refl
not_zero DeclaredTwice = refl
not_zero WrongKind = refl
not_zero BadLength = refl
not_zero TooMuch = refl
not_zero ShortTable = refl
not_zero ShortCode = refl
