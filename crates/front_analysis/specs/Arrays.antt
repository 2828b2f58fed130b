-- The token arrays as the tokens that the grammar and the names see. Laws; assumes nothing.
use Rattle.std.specs.Prelude.{◌≡◌, Bool, ltb, leb, length, take, drop}
use Rattle.std.proofs.Math.Path.{refl, ap}
use Rattle.std.proofs.Common.{sym, ◌∙◌}
use mathlib.Core.List.{List, ◌∷◌}
use Prim.Native.Nat.{ℕ, zero, suc, ◌+◌, ◌-◌, ◌≤◌, ◌<◌}
use native.Mathlib.Omega.{arith}
use Rattle.std.proofs.Math.ListN.{get_or, get_or-eq_default}
use Rattle.std.proofs.Math.Seq.{get_or-take}
use borrow.Author.Tests.{leb-true, leb-false, ltb-true, ltb-false, lt-ltb, le-ltb}
use Rattle.arm_word.specs.Choice.{pick}
use Rattle.arm_word.specs.ChoiceLaws.{by_test}
use Rattle.x_tokens.specs.Refusals as refusal
use Rattle.x_tokens.specs.TokenList.{Entry, read, refused, scan, outcome, entries}
use Rattle.x_grammar.specs.Grammar.{Token}
use Rattle.x_grammar.specs.TokenArrays.{token_of, tokens, unread}
use Rattle.x_verdict.specs.Symbols.{entry_at, place_of, text_of, symbols, unread_place}
use Rattle.front_names_table.specs.View.{text_at, place_at}

-- a source that is read is short
pub short_source : (s : List ℕ) (ts : List Entry) → outcome s ≡ read ts → length s ≤ 16384
unfolding outcome
short_source s ts = by_test (λ (b : Bool). pick b (scan s 0 0 0) (refused refusal.long_source 0) ≡ read ts → length s ≤ 16384) (leb (length s) 16384)
    (λ t e. leb-true (length s) 16384 t) (λ f e. let z : ◌≡◌ {A = ℕ} 0 1 = cc in absurd (omega arith))

module _ (ks ps vs : List ℕ) where
  abbrev at : ℕ → Entry
  at i = record { kind = get_or ks i 0; place = get_or ps i 0; value = get_or vs i 0 }

  symbols_from : (m i : ℕ) → symbols (entries ks ps vs i m) i ≡ tokens ks vs i m
  unfolding symbols entries tokens
  symbols_from zero i = refl
  symbols_from (suc m) i = ap (λ (ts : List Token). token_of i (get_or ks i 0) (get_or vs i 0) ∷ ts) (symbols_from m (suc i))

  pub length_entries : (m i : ℕ) → length (entries ks ps vs i m) ≡ m
  unfolding entries
  length_entries zero i = refl
  length_entries (suc m) i = ap suc (length_entries m (suc i))

  inside : (m i t : ℕ) → t < m → entry_at (entries ks ps vs i m) t ≡ at (i + t)
  unfolding entries entry_at
  inside zero i t h = absurd (omega arith)
  inside (suc m) i zero h = ap at (omega arith)
  inside (suc m) i (suc t) h = inside m (suc i) t (omega arith) ∙ ap at (omega arith)

  outside : (m i t : ℕ) → m ≤ t → entry_at (entries ks ps vs i m) t ≡ record { kind = 0; place = 0; value = 0 }
  unfolding entries entry_at
  outside zero i t h = refl
  outside (suc m) i zero h = absurd (omega arith)
  outside (suc m) i (suc t) h = outside m (suc i) t (omega arith)

  -- the token that u tokens stand unread from is the one with number m - u
  unread_from : (m i u end : ℕ) → unread_place (entries ks ps vs i m) u end ≡ pick (ltb (i + (m - u)) (i + m)) (get_or ps (i + (m - u)) 0) end
  unfolding entries unread_place
  unread_from zero i u end = rw (le-ltb (i + (0 - u)) (i + 0) (omega arith))
  unread_from (suc m) i u end =
      rw (length_entries m (suc i))
      (by_test (λ (b : Bool). pick b (get_or ps i 0) (unread_place (entries ks ps vs (suc i) m) u end) ≡ pick (ltb (i + (suc m - u)) (i + suc m)) (get_or ps (i + (suc m - u)) 0) end) (leb (suc m) u)
      (λ t. let l = leb-true (suc m) u t in let z : i + (suc m - u) ≡ i = omega arith in rw (z, lt-ltb i (i + suc m) (omega arith)))
      (λ f. let l = leb-false (suc m) u f in let z : i + (suc m - u) ≡ suc i + (m - u) = omega arith in let y : i + suc m ≡ suc i + m = omega arith in rw (z, y) (unread_from m (suc i) u end)))

  module _ (n : ℕ) (lk : length ks ≡ n) (lp : length ps ≡ n) (lv : length vs ≡ n) where
    abbrev pub all : List Entry
    all = entries ks ps vs 0 n

    pub symbols_all : symbols all 0 ≡ unread ks vs 0
    unfolding unread
    symbols_all = symbols_from n 0 ∙ ap (tokens ks vs 0) (omega (arith, lk))

    pub unread_all : (u end : ℕ) → unread_place all u end ≡ pick (ltb (n - u) (length ps)) (get_or ps (n - u) 0) end
    unread_all u end = let z : 0 + (n - u) ≡ n - u = omega arith in let y : 0 + n ≡ length ps = omega (arith, lp) in rw (z, y) at (unread_from n 0 u end)

    place_each : (t : ℕ) → place_of all t ≡ get_or ps t 0
    place_each t = by_test (λ (b : Bool). place_of all t ≡ get_or ps t 0) (ltb t n)
        (λ h. ap (λ (e : Entry). e.place) (inside n 0 t (ltb-true t n h) ∙ ap at (omega arith)))
        (λ h. let l = ltb-false t n h in ap (λ (e : Entry). e.place) (outside n 0 t l) ∙ sym (get_or-eq_default ps 0 {n = t} (omega arith)))

    value_each : (t : ℕ) → (entry_at all t).value ≡ get_or vs t 0
    value_each t = by_test (λ (b : Bool). (entry_at all t).value ≡ get_or vs t 0) (ltb t n)
        (λ h. ap (λ (e : Entry). e.value) (inside n 0 t (ltb-true t n h) ∙ ap at (omega arith)))
        (λ h. let l = ltb-false t n h in ap (λ (e : Entry). e.value) (outside n 0 t l) ∙ sym (get_or-eq_default vs 0 {n = t} (omega arith)))

    pub place_all : place_of all ≡ place_at ps
    place_all j t = place_each t j

    pub text_all : (source : List ℕ) → text_of source all ≡ text_at source ps vs
    text_all source j t = take (value_each t j) (drop (place_each t j) source)

-- the first n cells are enough
module _ (n : ℕ) (ks ps vs : List ℕ) where
  pub entries_take : (m i : ℕ) → i + m ≤ n → entries (take n ks) (take n ps) (take n vs) i m ≡ entries ks ps vs i m
  unfolding entries
  entries_take zero i h = refl
  entries_take (suc m) i h =
      rw (get_or-take n ks i 0 (omega arith), get_or-take n ps i 0 (omega arith), get_or-take n vs i 0 (omega arith))
      (ap (λ (ts : List Entry). record { kind = get_or ks i 0; place = get_or ps i 0; value = get_or vs i 0 } ∷ ts) (entries_take m (suc i) (omega arith)))
