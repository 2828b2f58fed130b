-- The table of an accepted program can be walked, and what the walk writes is the program's image. Laws; assume nothing.
use Rattle.std.specs.Prelude.{◌≡◌, refl, Bool, List, [], ◌∷◌, ◌++◌, ℕ, ◌+◌, ◌-◌, ◌*◌, ◌≤◌, ◌<◌, take, drop, replicate}
use Rattle.std.proofs.Math.Path.{ap}
use Rattle.std.proofs.Common.{◌∙◌, take_at}
use native.Mathlib.Omega.{arith}
use Rattle.std.proofs.Math.ListN.{length}
use Rattle.std.proofs.lemmas.List.Edits.{sets, sets-eq}
use Rattle.std.proofs.Math.Seq.{length-sets}
use Rattle.std.proofs.Math.Dec.{ltb}
use borrow.Author.Tests.{ltb-true, ltb-false}
use Rattle.arm_word.specs.ChoiceLaws.{by_test}
use Rattle.x_program.specs.Layout.{row_words}
use Rattle.x_program.specs.Layout as layout
use Rattle.x_program.specs.Tree.{Declaration, var, array, words_of, data_words, Program}
use Rattle.x_program.specs.Core.{constant, variable, element, monadic, diadic, skip, stop, assign, assign_element, sequence, conditional, loop, core_process}
use Rattle.x_program.specs.Core as core
use Rattle.x_program.specs.Rows.{monadic_number, diadic_number, row, row_of, declared_rows, count, rows, count_process, rows_process, table_of, row_count}
use Rattle.x_program.specs.Table.{word, process_at}
use Rattle.x_program.specs.Sound.{Declares, SoundExpression, SoundProcess, Sound, declared_row, declared_inside}
use Rattle.x_program.specs.TableReadBack.{Holds, front, behind, length_rows, some_rows, length_rows_process, some_rows_process, length_declared, length_row_of, declared_word}
use Rattle.x_program.proofs.TableReadBack.{read_back}
use Rattle.translate_rules.specs.InstructionBytes.{bytes, size}
use Rattle.translate_rules.specs.ImageCode.{image_code, image}
use Rattle.translate_emit_instructions.specs.Write.{Room, Wrote}
use Rattle.translate_image_values.specs.Well.{Declared, Earlier, Names, WellProcess}

-- ── rows n to m name what they should, and the kind of row m is from `low` to `high` ──
pub record Written (low high : ℕ) (t : List ℕ) (n m : ℕ) : Type 0 where
  pub names : (s : ℕ) → n ≤ s → s ≤ m → Names t s
  pub from : low ≤ word t m 0
  pub to : word t m 0 ≤ high

module _ {t : List ℕ} where
  -- one row
  own : {low high k m : ℕ} → word t m 0 ≡ k → low ≤ k → k ≤ high → Names t m → Written low high t m m
  own {m = m} e l h q = record { names = λ s a b. let z : s ≡ m = omega arith in rw z q; from = omega (arith, e); to = omega (arith, e) }

  -- rows after others
  after : {l h low high n p m q : ℕ} → Written l h t n p → m ≡ p + 1 → Written low high t m q → Written low high t n q
  after {p = p} x e y = record {
    names = λ s a b.
        by_test (λ (c : Bool). ltb p s ≡ c → Names t s) (ltb p s)
        (λ _ z. y.names s (omega (arith, ltb-true p s z)) b)
        (λ _ z. x.names s a (omega (arith, ltb-false p s z)))
        refl;
    from = y.from;
    to = y.to;
  }

  -- the last of them, named by a later row
  part : {low high n p m s : ℕ} → Written low high t n p → p < m → s ≡ p → Earlier low high t m s
  part x l e = rw e (record { earlier = l; from = x.from; to = x.to })

-- ── declarations ──
declaration_names : (t : List ℕ) (d : Declaration) (n k : ℕ) → Holds t n (row_of d k) → Names t n
unfolding Names
declaration_names t var n k h = let e : word t n 0 ≡ layout.var = h.at 0 (omega arith) in rw e tt
declaration_names t (array m) n k h = let e : word t n 0 ≡ layout.array = h.at 0 (omega arith) in rw e tt

declared_names : (t : List ℕ) (ds : List Declaration) (n k s : ℕ) → Holds t n (declared_rows ds k) → n ≤ s → s < n + length ds → Names t s
unfolding declared_rows
declared_names t [] n k s h a b = absurd (omega arith)
declared_names t (d ∷ ds) n k s h a b =
    by_test (λ (c : Bool). ltb n s ≡ c → Names t s) (ltb n s)
    (λ _ z. declared_names t ds (n + 1) (k + words_of d) s (behind (row_of d k) (declared_rows ds (k + words_of d)) 1 (length_row_of d k) h) (omega (arith, ltb-true n s z)) (omega arith))
    (λ _ z. let e : s ≡ n = omega (arith, ltb-false n s z) in rw e (declaration_names t d n k (front (row_of d k) (declared_rows ds (k + words_of d)) h)))
    refl

module _ (t : List ℕ) (ds : List Declaration) (holds : Holds t 0 (declared_rows ds 0)) (small : data_words ds ≤ 8192) where
  declared_at : {m r o d : ℕ} {x : Declaration} → length ds ≤ m → Declares ds r o x → d ≡ r → Declared t m d
  declared_at {r = r} l q e =
      let a : 0 + r ≡ r = omega arith in
      let w = (declared_word t 0 0 holds q).0 in
      rw e (record { earlier = omega (arith, declared_row q); offset = omega (arith, declared_inside q, rw a at w) })

  -- ── expressions ──
  expression_written : (e : core.Expression) (n : ℕ) → length ds ≤ n → SoundExpression ds e → Holds t n (rows e n) → Written layout.number layout.diadic t n (n + count e - 1)
  unfolding rows count Names
  expression_written (constant w) n l s h =
      let r : n + 1 - 1 ≡ n = omega arith in
      let k : word t n 0 ≡ layout.number = h.at 0 (omega arith) in
      rw r (own k (omega arith) (omega arith) (rw k tt))
  expression_written (variable v) n l s h =
      let r : n + 1 - 1 ≡ n = omega arith in
      let k : word t n 0 ≡ layout.variable = h.at 0 (omega arith) in
      rw r (own k (omega arith) (omega arith) (rw k (declared_at l s (h.at 1 (omega arith)))))
  expression_written (element a e) n l s h =
      let m = n + count e in
      let last = row layout.element a.row (m - 1) 0 in
      let r : n + (count e + 1) - 1 ≡ m = omega arith in
      let z = some_rows e in
      let g = behind (rows e n) last (count e) (length_rows e n) h in
      let x = expression_written e n l s.1 (front (rows e n) last h) in
      let k : word t m 0 ≡ layout.element = g.at 0 (omega arith) in
      rw r (after x (omega arith) (own k (omega arith) (omega arith)
      (rw k (declared_at (omega arith) s.0 (g.at 1 (omega arith)), part x (omega arith) (g.at 2 (omega arith))))))
  expression_written (monadic o e) n l s h =
      let m = n + count e in
      let last = row layout.monadic (monadic_number o) (m - 1) 0 in
      let r : n + (count e + 1) - 1 ≡ m = omega arith in
      let z = some_rows e in
      let g = behind (rows e n) last (count e) (length_rows e n) h in
      let x = expression_written e n l s (front (rows e n) last h) in
      let k : word t m 0 ≡ layout.monadic = g.at 0 (omega arith) in
      rw r (after x (omega arith) (own k (omega arith) (omega arith) (rw k (part x (omega arith) (g.at 2 (omega arith))))))
  expression_written (diadic o e f) n l s h =
      let m = n + count e + count f in
      let last = row layout.diadic (diadic_number o) (n + count e - 1) (m - 1) in
      let r : n + (count e + count f + 1) - 1 ≡ m = omega arith in
      let y = some_rows e in
      let z = some_rows f in
      let i = behind (rows e n) (rows f (n + count e) ++ last) (count e) (length_rows e n) h in
      let g = behind (rows f (n + count e)) last (count f) (length_rows f (n + count e)) i in
      let x = expression_written e n l s.0 (front (rows e n) (rows f (n + count e) ++ last) h) in
      let x' = expression_written f (n + count e) (omega arith) s.1 (front (rows f (n + count e)) last i) in
      let k : word t m 0 ≡ layout.diadic = g.at 0 (omega arith) in
      rw r (after x (omega arith) (after x' (omega arith) (own k (omega arith) (omega arith)
      (rw k (part x (omega arith) (g.at 2 (omega arith)), part x' (omega arith) (g.at 3 (omega arith)))))))

  -- ── processes ──
  process_written : (p : core.Process) (n : ℕ) → length ds ≤ n → SoundProcess ds p → Holds t n (rows_process p n) → Written layout.skip layout.while t n (n + count_process p - 1)
  unfolding rows_process count_process Names
  process_written skip n l s h =
      let r : n + 1 - 1 ≡ n = omega arith in
      let k : word t n 0 ≡ layout.skip = h.at 0 (omega arith) in
      rw r (own k (omega arith) (omega arith) (rw k tt))
  process_written stop n l s h =
      let r : n + 1 - 1 ≡ n = omega arith in
      let k : word t n 0 ≡ layout.stop = h.at 0 (omega arith) in
      rw r (own k (omega arith) (omega arith) (rw k tt))
  process_written (assign v e) n l s h =
      let m = n + count e in
      let last = row layout.assign v.row (m - 1) 0 in
      let r : n + (count e + 1) - 1 ≡ m = omega arith in
      let z = some_rows e in
      let g = behind (rows e n) last (count e) (length_rows e n) h in
      let x = expression_written e n l s.1 (front (rows e n) last h) in
      let k : word t m 0 ≡ layout.assign = g.at 0 (omega arith) in
      rw r (after x (omega arith) (own k (omega arith) (omega arith)
      (rw k (declared_at (omega arith) s.0 (g.at 1 (omega arith)), part x (omega arith) (g.at 2 (omega arith))))))
  process_written (assign_element a i e) n l s h =
      let m = n + count i + count e in
      let last = row layout.assign_element a.row (n + count i - 1) (m - 1) in
      let r : n + (count i + count e + 1) - 1 ≡ m = omega arith in
      let y = some_rows i in
      let z = some_rows e in
      let f = behind (rows i n) (rows e (n + count i) ++ last) (count i) (length_rows i n) h in
      let g = behind (rows e (n + count i)) last (count e) (length_rows e (n + count i)) f in
      let x = expression_written i n l s.1 (front (rows i n) (rows e (n + count i) ++ last) h) in
      let x' = expression_written e (n + count i) (omega arith) s.2 (front (rows e (n + count i)) last f) in
      let k : word t m 0 ≡ layout.assign_element = g.at 0 (omega arith) in
      rw r (after x (omega arith) (after x' (omega arith) (own k (omega arith) (omega arith)
      (rw k (declared_at (omega arith) s.0 (g.at 1 (omega arith)), part x (omega arith) (g.at 2 (omega arith)), part x' (omega arith) (g.at 3 (omega arith)))))))
  process_written (sequence p q) n l s h =
      let a = count_process p in
      let b = count_process q in
      let m = n + a + b in
      let last = row layout.sequence (n + a - 1) (m - 1) 0 in
      let r : n + (a + b + 1) - 1 ≡ m = omega arith in
      let y = some_rows_process p in
      let z = some_rows_process q in
      let f = behind (rows_process p n) (rows_process q (n + a) ++ last) a (length_rows_process p n) h in
      let g = behind (rows_process q (n + a)) last b (length_rows_process q (n + a)) f in
      let x = process_written p n l s.0 (front (rows_process p n) (rows_process q (n + a) ++ last) h) in
      let x' = process_written q (n + a) (omega arith) s.1 (front (rows_process q (n + a)) last f) in
      let k : word t m 0 ≡ layout.sequence = g.at 0 (omega arith) in
      rw r (after x (omega arith) (after x' (omega arith) (own k (omega arith) (omega arith)
      (rw k (part x (omega arith) (g.at 1 (omega arith)), part x' (omega arith) (g.at 2 (omega arith)))))))
  process_written (conditional e p q) n l s h =
      let c = count e in
      let a = count_process p in
      let b = count_process q in
      let m = n + c + a + b in
      let last = row layout.if (n + c - 1) (n + c + a - 1) (m - 1) in
      let r : n + (c + a + b + 1) - 1 ≡ m = omega arith in
      let w = some_rows e in
      let y = some_rows_process p in
      let z = some_rows_process q in
      let f = behind (rows e n) (rows_process p (n + c) ++ (rows_process q (n + c + a) ++ last)) c (length_rows e n) h in
      let i = behind (rows_process p (n + c)) (rows_process q (n + c + a) ++ last) a (length_rows_process p (n + c)) f in
      let g = behind (rows_process q (n + c + a)) last b (length_rows_process q (n + c + a)) i in
      let x = expression_written e n l s.0 (front (rows e n) (rows_process p (n + c) ++ (rows_process q (n + c + a) ++ last)) h) in
      let x' = process_written p (n + c) (omega arith) s.1 (front (rows_process p (n + c)) (rows_process q (n + c + a) ++ last) f) in
      let x'' = process_written q (n + c + a) (omega arith) s.2 (front (rows_process q (n + c + a)) last i) in
      let k : word t m 0 ≡ layout.if = g.at 0 (omega arith) in
      rw r (after x (omega arith) (after x' (omega arith) (after x'' (omega arith) (own k (omega arith) (omega arith)
      (rw k (part x (omega arith) (g.at 1 (omega arith)), part x' (omega arith) (g.at 2 (omega arith)), part x'' (omega arith) (g.at 3 (omega arith))))))))
  process_written (loop e p) n l s h =
      let c = count e in
      let a = count_process p in
      let m = n + c + a in
      let last = row layout.while (n + c - 1) (m - 1) 0 in
      let r : n + (c + a + 1) - 1 ≡ m = omega arith in
      let y = some_rows e in
      let z = some_rows_process p in
      let f = behind (rows e n) (rows_process p (n + c) ++ last) c (length_rows e n) h in
      let g = behind (rows_process p (n + c)) last a (length_rows_process p (n + c)) f in
      let x = expression_written e n l s.0 (front (rows e n) (rows_process p (n + c) ++ last) h) in
      let x' = process_written p (n + c) (omega arith) s.1 (front (rows_process p (n + c)) last f) in
      let k : word t m 0 ≡ layout.while = g.at 0 (omega arith) in
      rw r (after x (omega arith) (after x' (omega arith) (own k (omega arith) (omega arith)
      (rw k (part x (omega arith) (g.at 1 (omega arith)), part x' (omega arith) (g.at 2 (omega arith)))))))

-- ── the theorems: of an accepted program and a table that holds its rows ──
module _ (p : Program) (t : List ℕ) (s : Sound p) (h : Holds t 0 (table_of p)) where
  -- it can be walked
  pub well_table : row_words * row_count p ≤ length t → WellProcess t (row_count p - 1)
  unfolding table_of row_count
  well_table l =
      let ds = p.declarations in
      let q = core_process p.body in
      let f = front (declared_rows ds 0) (rows_process q (length ds)) h in
      let g = behind (declared_rows ds 0) (rows_process q (length ds)) (length ds) (length_declared ds 0) h in
      let e : 0 + length ds ≡ length ds = omega arith in
      let x = process_written t ds f s.small q (length ds) (omega arith) s.body (rw e at g) in
      let z = some_rows_process q in
      record {
        inside = omega arith;
        from = x.from;
        to = x.to;
        names = λ k b.
            by_test (λ (c : Bool). ltb k (length ds) ≡ c → Names t k) (ltb k (length ds))
            (λ _ y. declared_names t ds 0 0 k f (omega arith) (omega (arith, ltb-true k (length ds) y)))
            (λ _ y. x.names k (omega (arith, ltb-false k (length ds) y)) b)
            refl;
      }

  -- what the walk writes are the image's bytes
  pub image_bytes : bytes (image_code (process_at t (row_count p - 1))) ≡ image p
  unfolding image
  image_bytes = ap (λ (q : core.Process). bytes (image_code q)) (read_back p t s h)

  image_size : size (image_code (process_at t (row_count p - 1))) ≡ length (image p)
  unfolding size
  image_size = ap length image_bytes

  -- so a buffer that the image fits has room for it
  pub image_room : {l : List ℕ} → length (image p) ≤ length l → length (image p) ≤ 65536 → Room l 0 (image_code (process_at t (row_count p - 1)))
  image_room a b = record { fits = omega (arith, image_size); near = omega (arith, image_size) }

  -- and then holds it
  pub image_written : {l l' : List ℕ} {j : ℕ} → Wrote l 0 (image_code (process_at t (row_count p - 1))) l' j → (l' ≡ sets l 0 (image p)) × (j ≡ length (image p))
  image_written {l} w = (w.bytes_at ∙ ap (sets l 0) image_bytes, omega (arith, w.end_at, image_size))

  -- and zeros after it, once the rest is cleared
  pub image_filled : {l l' : List ℕ} {j : ℕ} → length (image p) ≤ length l → Wrote l 0 (image_code (process_at t (row_count p - 1))) l' j
      → take j l' ++ replicate (length l' - j) 0 ≡ image p ++ replicate (length l - length (image p)) 0
  image_filled {l} a w =
      let x = image_written w in
      let b = sets-eq (image p) l 0 (omega arith) in
      rw (x.1, x.0, length-sets l 0 (image p)) (rw b (rw (take_at (image p) (drop (0 + length (image p)) l) (length (image p)) refl) refl))
