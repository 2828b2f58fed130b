-- A source is refused by number and place exactly if that is deserved and nothing deserved goes before it, and accepted exactly if nothing is deserved. Laws.
-- What is deserved is sorted by rank (`By`); at each rank the front end finds the first of it, or that there is none, and goes on to the next rank. Assumes nothing.
use Rattle.std.specs.Prelude.{◌≡◌, Bool, true, false, ℕ, zero, suc, ◌≤◌, ◌<◌, eqb, ltb, length}
use Rattle.std.proofs.Math.Path.{refl}
use Rattle.std.proofs.Common.{sym, ap, subst, ◌∙◌, arith}
use mathlib.Core.List.Memᴰ
use mathlib.Core.List.{List, Memᴰ}
use Rattle.std.proofs.Math.Dec.{leb}
use borrow.Author.Tests.{eq-eqb, ne_eqb, le-ltb, eqb-true, eqb-false, ltb-true, ltb-false, leb-true, leb-false, lt-leb, le-leb}
use Rattle.arm_word.specs.Choice.{pick}
use Rattle.arm_word.specs.ChoiceLaws.{by_test}
use Rattle.x_tokens.specs.Refusals as refusal
use Rattle.x_tokens.specs.TokenList as token
use Rattle.x_tokens.specs.TokenList.{Entry}
use Rattle.x_tokens.specs.Split.{split, Flaw, Starts}
use Rattle.x_tokens.specs.TokenLaws.{outcome_short, outcome_long}
use Rattle.x_tokens.specs.SplitLaws as lexical
use Rattle.x_tokens.specs.SplitLaws.{NotBefore, by_token, by_count, Agrees, one_list}
use Rattle.x_tokens.proofs.SplitLaws.{flaw_most, agree_split}
use Rattle.x_tokens.specs.SourceLaws as source_laws
use Rattle.x_tokens.specs.SourceLaws.{Placed}
use Rattle.x_tokens.proofs.SourceLaws.{outcome_sound}
use Rattle.x_grammar.specs.Grammar.{Token, Program, IsProgram}
use Rattle.x_grammar.specs.Automaton as automaton
use Rattle.x_grammar.specs.Automaton.{reads}
use Rattle.x_grammar.specs.FirstBad.{First}
use Rattle.x_grammar.specs.GrammarExact.{accepts, accepted_text, refused_first, first_no_program, one_first}
use Rattle.x_grammar.specs.TreeDepth.{too_deep}
use Rattle.x_program.specs.Layout.{table_room, code_room}
use Rattle.x_program.specs.Tree as tree
use Rattle.x_names.specs.Complaints as names
use Rattle.x_names.specs.Complaints.{Complaint, complaints, least}
use Rattle.x_names.specs.Least.{least_none, least_one}
use Rattle.x_names.specs.Numbered.{Within, Judged}
use Rattle.x_names.proofs.Numbered.{judged_within}
use Rattle.x_names.specs.Resolve.{resolve}
use Rattle.x_verdict.specs.Symbols.{place_of, text_of, symbols, unread_place}
use Rattle.x_verdict.specs.Deserved.{HasTokens, HasTree, Ungrammatical, Misnamed, Deserves, long_source, broken_token, large_number, long_name, many_tokens, short_table, short_code}
use Rattle.x_verdict.specs.Deserved.{ungrammatical, deep_program, not_declared, declared_twice, wrong_kind, bad_length, too_much, rank, goes_before, FirstDeserved}
use Rattle.x_verdict.specs.Front.{Outcome, refused, accepted, judged, named, parsed, tokened, front}
use Rattle.x_verdict.proofs.Refused.{places_inside}

-- ── the ranking ──

-- a higher rank goes before nothing of a lower one
higher : (n p m q : ℕ) → rank n < rank m → goes_before m q n p ≡ false
higher n p m q h = rw (ne_eqb (rank m) (rank n) (omega arith), le-ltb (rank m) (rank n) (omega arith))

-- within a rank place and number decide
not_before : (n p m q : ℕ) → rank m ≡ rank n → NotBefore n p m q → goes_before m q n p ≡ false
not_before n p m q e b =
    rw (eq-eqb (rank m) (rank n) e)
    (by_test (λ (t : Bool). pick t (ltb m n) (ltb q p) ≡ false) (eqb q p)
    (λ f. le-ltb m n (b.number (sym (eqb-true q p f))))
    (λ f. le-ltb q p b.place))

-- a number n that P holds of: Q holds where n is k, or where it isn't
at_number : (P Q : ℕ → Type 0) (n k : ℕ) → P n → (P k → Q k) → ((n ≡ k → ⊥) → Q n) → Q n
at_number P Q n k h f g = by_test (λ _. Q n) (eqb n k) (λ e. let z = eqb-true n k e in subst Q (sym z) (f (subst P z h))) (λ e. g (eqb-false n k e))

-- ── what is deserved, by rank ──
module _ (source : List ℕ) (table code : ℕ) where
  -- m at q is deserved, for the reason that its rank has
  abbrev By : ℕ → ℕ → ℕ → Type 0
  By zero m q = (m ≡ refusal.long_source) × (q ≡ 0) × (16384 < length source)
  By (suc zero) m q = lexical.Deserves 0 (split source) m q
  By (suc (suc zero)) m q = (m ≡ refusal.short_table) × (q ≡ 0) × ((ts : List Entry) × HasTokens source ts × (table < table_room (length ts)))
  By (suc (suc (suc zero))) m q = (m ≡ refusal.short_code) × (q ≡ 0) × ((ts : List Entry) × HasTokens source ts × (code < code_room (length ts)))
  By (suc (suc (suc (suc zero)))) m q = (m ≡ refusal.ungrammatical) × Ungrammatical source q
  By (suc (suc (suc (suc (suc zero))))) m q = (m ≡ refusal.deep_program) × (q ≡ 0) × ((ts : List Entry) × (p : Program) × HasTree source ts p × (too_deep p ≡ true))
  By (suc (suc (suc (suc (suc (suc r)))))) m q = Misnamed source m q

  sorted : (m q : ℕ) → Deserves source table code m q → By (rank m) m q
  sorted m q (long_source h) = (refl, refl, h)
  sorted m q (broken_token f) = by_token f (omega arith)
  sorted m q (large_number f) = by_token f (omega arith)
  sorted m q (long_name f) = by_token f (omega arith)
  sorted m q (many_tokens s) = by_count s (omega arith)
  sorted m q (short_table {ts = ts} t h) = (refl, refl, (ts, t, h))
  sorted m q (short_code {ts = ts} t h) = (refl, refl, (ts, t, h))
  sorted m q (ungrammatical u) = (refl, u)
  sorted m q (deep_program {ts = ts} {tree = p} t h) = (refl, refl, (ts, p, t, h))
  sorted m q (not_declared c) = c
  sorted m q (declared_twice c) = c
  sorted m q (wrong_kind c) = c
  sorted m q (bad_length c) = c
  sorted m q (too_much c) = c

  -- nothing is deserved at the ranks below k
  abbrev Spared : ℕ → Type 0
  Spared k = (r : ℕ) → r < k → (m q : ℕ) → By r m q → ⊥

  spared_more : (k : ℕ) → Spared k → ((m q : ℕ) → By k m q → ⊥) → Spared (suc k)
  spared_more k s h r l m q b =
      by_test (λ _. ⊥) (eqb r k)
      (λ e. h m q (subst (λ (i : ℕ). By i m q) (eqb-true r k e) b))
      (λ e. s r (omega (arith, eqb-false r k e)) m q b)

  -- n at p comes first where nothing of a lower rank is deserved, and it does in its own rank
  settled : (n p k : ℕ) → rank n ≡ k → Spared k → ((m q : ℕ) → By k m q → NotBefore n p m q) → Deserves source table code n p → FirstDeserved source table code n p
  settled n p k e s f d = record { deserved = d; first = λ m q c. compared m q c (ltb (rank m) k) refl }
    where
      compared : (m q : ℕ) → Deserves source table code m q → (t : Bool) → ltb (rank m) k ≡ t → goes_before m q n p ≡ false
      compared m q c true l = absurd (s (rank m) (ltb-true (rank m) k l) m q (sorted m q c))
      compared m q c false l =
          by_test (λ _. goes_before m q n p ≡ false) (eqb (rank m) k)
          (λ z. let z' = eqb-true (rank m) k z in not_before n p m q (z' ∙ sym e) (f m q (subst (λ (i : ℕ). By i m q) z' (sorted m q c))))
          (λ z. higher n p m q (omega (arith, e, ltb-false (rank m) k l, eqb-false (rank m) k z)))

  -- a number that stands alone in its rank, at place 0
  alone : (n m q : ℕ) → m ≡ n → q ≡ 0 → NotBefore n 0 m q
  alone n m q e f = record { place = omega arith; number = λ _. omega arith }

  -- what the front end's answer has to be
  abbrev pub Right : Outcome → Type 0
  Right (refused n p) = FirstDeserved source table code n p
  Right (accepted k q) = (m p : ℕ) → Deserves source table code m p → ⊥

  pick_below : (b : Bool) (x y k : ℕ) → x < k → y < k → pick b x y < k
  pick_below true x y k g h = g
  pick_below false x y k g h = h

  rank_most : (n : ℕ) → rank n < 7
  rank_most n =
      pick_below (eqb n refusal.long_source) 0 _ 7 (omega arith) (pick_below (leb n refusal.many_tokens) 1 _ 7 (omega arith) (pick_below (eqb n refusal.short_table) 2 _ 7 (omega arith)
      (pick_below (eqb n refusal.short_code) 3 _ 7 (omega arith)
      (pick_below (eqb n refusal.ungrammatical) 4 _ 7 (omega arith) (pick_below (eqb n refusal.deep_program) 5 6 7 (omega arith) (omega arith))))))

  all_spared : Spared 7 → (m q : ℕ) → Deserves source table code m q → ⊥
  all_spared s m q d = s (rank m) (rank_most m) m q (sorted m q d)

  -- ── 8 to 12 ──

  names_rank : (n : ℕ) → refusal.not_declared ≤ n → n ≤ refusal.too_much → rank n ≡ 6
  names_rank n l h = rw (
    ne_eqb n refusal.long_source (omega arith),
    lt-leb n refusal.many_tokens (omega arith),
    ne_eqb n refusal.short_table (omega arith),
    ne_eqb n refusal.short_code (omega arith),
    ne_eqb n refusal.ungrammatical (omega arith),
    ne_eqb n refusal.deep_program (omega arith),
  )

  names_deserve : (n p : ℕ) → refusal.not_declared ≤ n → n ≤ refusal.too_much → Misnamed source n p → Deserves source table code n p
  names_deserve n p l h c =
      one refusal.not_declared not_declared
      (λ a. one refusal.declared_twice declared_twice
      (λ b. one refusal.wrong_kind wrong_kind
      (λ d. one refusal.bad_length bad_length
      (λ e. one refusal.too_much too_much
      (λ f. absurd (omega arith))))))
    where
      one : (k : ℕ) → (Misnamed source k p → Deserves source table code k p) → ((n ≡ k → ⊥) → Deserves source table code n p) → Deserves source table code n p
      one k = at_number (λ i. Misnamed source i p) (λ i. Deserves source table code i p) n k c

  module _ (ts : List Entry) (t : HasTokens source ts) where
    -- the token that no program continues with, among these tokens
    first_here : {q : ℕ} (u : Ungrammatical source q) → First (symbols ts 0) u.unread
    first_here u = subst (λ (l : List Entry). First (symbols l 0) u.unread) (one_list u.tokens t) u.first_bad

    -- the source has no other tokens, and no other tree
    one_program : (p q : Program) (us : List Entry) → HasTree source ts p → HasTree source us q → q ≡ p
    one_program p q us g h =
        let e : symbols us 0 ≡ symbols ts 0 = ap (λ (l : List Entry). symbols l 0) (one_list h.tokens t) in
        let z : automaton.accepted q ≡ automaton.accepted p = sym (accepts q h.proper) ∙ ap reads (sym h.grammatical ∙ e ∙ g.grammatical) ∙ accepts p g.proper in
        cc

    module _ (p : Program) (g : HasTree source ts p) where
      abbrev cs : List Complaint
      cs = complaints (text_of source ts) (place_of ts) p

      -- what its names deserve is among these
      these : (m q : ℕ) → Misnamed source m q → Memᴰ (record { number = m; place = q }) cs
      these m q c =
          subst (λ (l : List Entry). Memᴰ (record { number = m; place = q }) (complaints (text_of source l) (place_of l) p)) (one_list c.has.tokens t)
          (subst (λ (x : Program). Memᴰ (record { number = m; place = q }) (complaints (text_of source c.ts) (place_of c.ts) x)) (one_program p c.tree c.ts g c.has) c.among)

      right_judged : Spared 6 → Placed (length source) 0 ts → (v : names.Verdict) → least cs ≡ v → Right (judged v (length ts) (resolve (text_of source ts) p))
      right_judged s l names.fine e = λ m q d. all_spared (spared_more 6 s (λ n r c. Memᴰ.not-nil (subst (Memᴰ (record { number = n; place = r })) (least_none cs e) (these n r c)))) m q d
      right_judged s l (names.refused c) e =
          let w : Within (length source) c = subst (Judged (length source)) e (judged_within (text_of source ts) (place_of ts) (length source) (λ k. places_inside (length source) 0 ts k l) p) in
          let f = least_one cs c e in
          settled c.number c.place 6 (names_rank c.number w.low w.high) s
          (λ m q d. let b = f.first (record { number = m; place = q }) (these m q d) in record { place = b.place; number = b.number })
          (names_deserve c.number c.place w.low w.high (record { ts = ts; tree = p; has = g; among = f.among }))

      -- ── 7 ──

      is_program : IsProgram (symbols ts 0)
      unfolding IsProgram
      is_program = (p, g.proper, g.grammatical)

      -- a program has no token that no program continues with
      not_six : Spared 4 → Spared 5
      not_six s = spared_more 4 s (λ m q b. let u = b.1 in first_no_program (symbols ts 0) u.unread (first_here u) is_program)

      not_both : (x : Program) (us : List Entry) → HasTree source us x → too_deep x ≡ true → too_deep p ≡ false → ⊥
      not_both x us h d e = let z : true ≡ false = sym d ∙ ap too_deep (one_program p x us g h) ∙ e in let y : ◌≡◌ {A = ℕ} 0 1 = cc in omega arith

      right_named : Spared 4 → Placed (length source) 0 ts → Right (named source ts p)
      unfolding named
      right_named s l =
          by_test (λ (b : Bool). too_deep p ≡ b → Right (pick b (refused refusal.deep_program 0) (judged (least cs) (length ts) (resolve (text_of source ts) p)))) (too_deep p)
          (λ _ e. settled refusal.deep_program 0 5 refl (not_six s) (λ m q b. alone refusal.deep_program m q b.0 b.1) (deep_program g e))
          (λ _ e. right_judged (spared_more 5 (not_six s) (λ m q b. not_both b.2.1 b.2.0 b.2.2 b.2.3 e)) l (least cs) refl)
          refl

    -- ── 6, 14, 13 ──

    right_parsed : Spared 4 → Placed (length source) 0 ts → (r : automaton.Reading) → reads (symbols ts 0) ≡ r → Right (parsed source ts r)
    right_parsed s l (automaton.accepted p) e = let x = accepted_text (symbols ts 0) p e in right_named p (record { tokens = t; proper = x.1; grammatical = x.0 }) s l
    right_parsed s l (automaton.refused u) e =
        let f = refused_first (symbols ts 0) u e in
        let place = unread_place ts (length u) (length source) in
        settled refusal.ungrammatical place 4 refl s (λ m q b. same_place place m q b.0 (here u f q b.1))
        (ungrammatical (record { ts = ts; unread = u; tokens = t; first_bad = f; place = refl }))
      where
        same_place : (p m q : ℕ) → m ≡ refusal.ungrammatical → q ≡ p → NotBefore refusal.ungrammatical p m q
        same_place p m q a b = record { place = omega arith; number = λ _. omega arith }

        here : (u : List Token) → First (symbols ts 0) u → (q : ℕ) → Ungrammatical source q → q ≡ unread_place ts (length u) (length source)
        here u f q x =
            x.place
            ∙ ap (λ (l : List Entry). unread_place l (length x.unread) (length source)) (one_list x.tokens t)
            ∙ ap (λ (w : List Token). unread_place ts (length w) (length source)) (one_first (symbols ts 0) x.unread u (first_here x) f)

    right_read : Spared 2 → Placed (length source) 0 ts → Right (tokened source table code (token.read ts))
    right_read s l =
        by_test
        (λ (a : Bool). Right (pick a (refused refusal.short_table 0) (pick (ltb code (code_room (length ts))) (refused refusal.short_code 0) (parsed source ts (reads (symbols ts 0))))))
        (ltb table (table_room (length ts)))
        (λ e. settled refusal.short_table 0 2 refl s (λ m q b. alone refusal.short_table m q b.0 b.1) (short_table t (ltb-true table (table_room (length ts)) e)))
        (λ e.
        by_test (λ (a : Bool). Right (pick a (refused refusal.short_code 0) (parsed source ts (reads (symbols ts 0))))) (ltb code (code_room (length ts)))
        (λ f. settled refusal.short_code 0 3 refl (room e) (λ m q b. alone refusal.short_code m q b.0 b.1) (short_code t (ltb-true code (code_room (length ts)) f)))
        (λ f. right_parsed (both_room e f) l (reads (symbols ts 0)) refl))
      where
        room : ltb table (table_room (length ts)) ≡ false → Spared 3
        room e =
            spared_more 2 s
            (λ m q b. let x = b.2 in let y : table < table_room (length ts) = rw (one_list x.1 t) at x.2 in omega (arith, ltb-false table (table_room (length ts)) e))

        both_room : ltb table (table_room (length ts)) ≡ false → ltb code (code_room (length ts)) ≡ false → Spared 4
        both_room e f =
            spared_more 3 (room e)
            (λ m q b. let x = b.2 in let y : code < code_room (length ts) = rw (one_list x.1 t) at x.2 in omega (arith, ltb-false code (code_room (length ts)) f))

  -- ── 2 to 5, and 1 ──

  none_spared : Spared 0
  none_spared r l = absurd (omega arith)

  lexical_rank : (n : ℕ) → refusal.broken_token ≤ n → n ≤ refusal.many_tokens → rank n ≡ 1
  lexical_rank n l h = rw (ne_eqb n refusal.long_source (omega arith), le-leb n refusal.many_tokens (omega arith))

  lexical_deserve : (n p : ℕ) → lexical.Deserves 0 (split source) n p → Deserves source table code n p
  lexical_deserve n p (by_token f l) =
      let h = flaw_most source f in
      one refusal.broken_token broken_token (λ a. one refusal.large_number large_number (λ b. one refusal.long_name long_name (λ d. absurd (omega arith))))
    where
      one : (k : ℕ) → (Flaw (split source) k p → Deserves source table code k p) → ((n ≡ k → ⊥) → Deserves source table code n p) → Deserves source table code n p
      one k = at_number (λ i. Flaw (split source) i p) (λ i. Deserves source table code i p) n k f
  lexical_deserve n p (by_count {i = i} s e) = many_tokens (subst (λ (k : ℕ). Starts (split source) k p) (omega (arith, e)) s)

  lexical_range : (n p : ℕ) → lexical.Deserves 0 (split source) n p → (refusal.broken_token ≤ n) × (n ≤ refusal.many_tokens)
  lexical_range n p (by_token f l) = (l, omega (arith, flaw_most source f))
  lexical_range n p (by_count s e) = (omega arith, omega arith)

  right_scanned : Spared 1 → (o : token.Outcome) → source_laws.Sound (length source) 0 o → Agrees 0 (split source) o → Right (tokened source table code o)
  right_scanned s (token.read ts) l a = right_read ts a.0 (spared_more 1 s a.1) l
  right_scanned s (token.refused n p) l a =
      let r = lexical_range n p a.0 in
      settled n p 1 (lexical_rank n r.0 r.1) s a.1 (lexical_deserve n p a.0)

  -- the front end answers as it has to
  pub right : Right (front source table code)
  unfolding front
  right =
      by_test (λ (b : Bool). leb (length source) 16384 ≡ b → Right (tokened source table code (token.outcome source))) (leb (length source) 16384)
      (λ _ e. let h = leb-true (length source) 16384 e in
      let sound = rw (outcome_short source h) at (outcome_sound source) in
      rw (outcome_short source h) (right_scanned (spared_more 0 none_spared (λ m q b. omega (arith, b.2))) (token.scan source 0 0 0) sound (agree_split source)))
      (λ _ e. let h = leb-false (length source) 16384 e in
      rw (outcome_long source h) (settled refusal.long_source 0 0 refl none_spared (λ m q b. alone refusal.long_source m q b.0 b.1) (long_source h)))
      refl

-- ── exactly ──

-- two that come first are the same
one_comes_first : (n p m q : ℕ) → goes_before m q n p ≡ false → goes_before n p m q ≡ false → (n ≡ m) × (p ≡ q)
one_comes_first n p m q a b =
    by_test (λ _. (n ≡ m) × (p ≡ q)) (eqb (rank m) (rank n))
    (λ e.
    let z = eqb-true (rank m) (rank n) e in
    let a' = rw (eq-eqb (rank m) (rank n) z) at a in
    let b' = rw (eq-eqb (rank n) (rank m) (sym z)) at b in
    by_test (λ _. (n ≡ m) × (p ≡ q)) (eqb q p)
    (λ f.
    let y = eqb-true q p f in
    let u : n ≤ m = ltb-false m n (rw (eq-eqb q p y) at a') in
    let v : m ≤ n = ltb-false n m (rw (eq-eqb p q (sym y)) at b') in
    (omega arith, sym y))
    (λ f.
    let y = eqb-false q p f in
    let u : p ≤ q = ltb-false q p (rw (ne_eqb q p y) at a') in
    let v : q ≤ p = ltb-false p q (rw (ne_eqb p q (λ w. y (sym w))) at b') in
    absurd (y (omega arith))))
    (λ e.
    let z = eqb-false (rank m) (rank n) e in
    let u : rank n ≤ rank m = ltb-false (rank m) (rank n) (rw (ne_eqb (rank m) (rank n) z) at a) in
    let v : rank m ≤ rank n = ltb-false (rank n) (rank m) (rw (ne_eqb (rank n) (rank m) (λ w. z (sym w))) at b) in
    absurd (z (omega arith)))

module _ (source : List ℕ) (table code : ℕ) where
  -- refused by n at p, exactly if that is deserved and nothing deserved goes before it
  pub refused_is_first : (n p : ℕ) → front source table code ≡ refused n p → FirstDeserved source table code n p
  refused_is_first n p e = subst (Right source table code) e (right source table code)

  pub first_is_refused : (n p : ℕ) → FirstDeserved source table code n p → front source table code ≡ refused n p
  first_is_refused n p f = by (front source table code) (right source table code)
    where
      by : (o : Outcome) → Right source table code o → o ≡ refused n p
      by (accepted k q) r = absurd (r n p f.deserved)
      by (refused m q) r = let z = one_comes_first m q n p (r.first n p f.deserved) (f.first m q r.deserved) in ap (λ (k : ℕ). refused k q) z.0 ∙ ap (refused n) z.1

  -- accepted, exactly if nothing is deserved
  pub accepted_is_spared : (k : ℕ) (q : tree.Program) → front source table code ≡ accepted k q → (n p : ℕ) → Deserves source table code n p → ⊥
  accepted_is_spared k q e = subst (Right source table code) e (right source table code)

  pub spared_is_accepted : ((n p : ℕ) → Deserves source table code n p → ⊥) → (k : ℕ) × (q : tree.Program) × (front source table code ≡ accepted k q)
  spared_is_accepted s = by (front source table code) refl (right source table code)
    where
      by : (o : Outcome) → front source table code ≡ o → Right source table code o → (k : ℕ) × (q : tree.Program) × (front source table code ≡ accepted k q)
      by (accepted k q) e r = (k, q, e)
      by (refused n p) e r = absurd (s n p r.deserved)
