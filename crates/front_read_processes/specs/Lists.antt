-- A list of processes that is read in turns: the last row of each process waits in an array for the joint that follows the whole list. Definitions and laws.
-- Rests on the laws of one process of a list.
use Rattle.std.specs.Prelude.{◌≡◌, refl, List, get_or, Ok, Err}
use Rattle.std.proofs.Common.{sym, ap, ◌∙◌}
use Rattle.std.proofs.Math.Path.{subst}
use Prim.Native.Nat.{ℕ, zero, suc, ◌+◌, ◌-◌, ◌*◌, ◌<◌, ◌≤◌, max}
use native.Mathlib.Omega.{arith}
use Rattle.std.proofs.lemmas.List.Edits.{sets}
use Rattle.x_spelling.specs.Kinds as kind
use Rattle.x_grammar.specs.RawRows.{row}
use Rattle.x_program.specs.Layout.{row_words}
use Rattle.x_program.specs.Layout as layout
use Rattle.front_read_expressions.specs.Reads.{Read, done, bad, Reads}
use Rattle.front_read_expressions.specs.declared.Extent.{Extent}
use Rattle.front_read_expressions.specs.declared.Ungrammatical.{Ungrammatical}
use Rattle.front_read_processes.specs.Forms.{process_form, list_form}
use Rattle.front_read_processes.specs.ProcessReaders.{list_bad, list_last, list_stop, list_more}

-- the places below top are as they were
pub record Kept (pending pending' : List ℕ) (top : ℕ) : Type 0 where
  pub same : (x : ℕ) → x < top → get_or pending' x 0 ≡ get_or pending x 0

pub kept_all : (pending : List ℕ) (top : ℕ) → Kept pending pending top
kept_all pending top = record { same = λ x l. refl }

pub kept_then : (a b c : List ℕ) (top below : ℕ) → top ≤ below → Kept a b top → Kept b c below → Kept a c top
kept_then a b c top below e h g = record { same = λ x l. g.same x (omega arith) ∙ h.same x l }

-- the joints of the c processes whose last rows wait from top on, the last first: the first joint is row m, and each joins a process to the row before
unfoldable pub joints : List ℕ → ℕ → List ℕ → ℕ → ℕ → List ℕ
joints t m pending top zero = t
joints t m pending top (suc c) = joints (sets t (row_words * m) (row layout.sequence (get_or pending (top + c) 0) (m - 1) 0)) (m + 1) pending top c

pub joints_kept : (c : ℕ) (t : List ℕ) (m : ℕ) (pending pending' : List ℕ) (top : ℕ) → Kept pending pending' (top + c) → joints t m pending' top c ≡ joints t m pending top c
unfolding joints
joints_kept zero t m pending pending' top h = refl
joints_kept (suc c) t m pending pending' top h =
    ap (λ (a : ℕ). joints (sets t (row_words * m) (row layout.sequence a (m - 1) 0)) (m + 1) pending' top c) (h.same (top + c) (omega arith))
    ∙ joints_kept c _ (m + 1) pending pending' top (record { same = λ x l. h.same x (omega arith) })

pub joints_none : (t : List ℕ) (m : ℕ) (pending : List ℕ) (top c : ℕ) → c ≡ 0 → joints t m pending top c ≡ t
unfolding joints
joints_none t m pending top c e = rw e refl

pub joints_more : (t : List ℕ) (m : ℕ) (pending : List ℕ) (top c c' : ℕ) → c ≡ c' + 1
    → joints t m pending top c ≡ joints (sets t (row_words * m) (row layout.sequence (get_or pending (top + c') 0) (m - 1) 0)) (m + 1) pending top c'
unfolding joints
joints_more t m pending top c c' e = ap (λ (a : ℕ). joints t m pending top a) (let e2 : c ≡ suc c' = omega arith in e2)

-- the whole list, from what the rest of it reads as: c joints more, and depths p and d before it
abbrev pub joined : ℕ → ℕ → ℕ → Read → Read
joined c p d (Ok a) = done a.next (a.rows + c) (max p a.depth) (max d a.deepest)
joined c p d (Err x) = Err x

abbrev pub jointed : List ℕ → Read → List ℕ → ℕ → ℕ → List ℕ
jointed t (Ok p) pending top c = joints t p.rows pending top c
jointed t (Err x) pending top c = t

-- a list that began at token i and row n is read up to token at and row place: from what the rest reads as, what the whole does
pub record Resumes (kinds values : List ℕ) (i n : ℕ) (t : List ℕ) (at place : ℕ) (t' pending : List ℕ) (top c p d : ℕ) : Type 0 where
  pub whole : (r : Read) (t'' : List ℕ) → Reads list_form kinds values at place t' r t'' → Reads list_form kinds values i n t (joined c p d r) (jointed t'' r pending top c)

done_same : (j : ℕ) {m m' p p' d d' : ℕ} → m ≡ m' → p ≡ p' → d ≡ d' → done j m p d ≡ done j m' p' d'
done_same j {m} {m'} {p} {p'} {d} {d'} a b c = ap (λ (x : ℕ). done j x p d) a ∙ ap (λ (x : ℕ). done j m' x d) b ∙ ap (λ (x : ℕ). done j m' p' x) c

module _ (kinds values : List ℕ) (i n : ℕ) (t : List ℕ) where
  begun : (pending : List ℕ) (top : ℕ) (r : Read) (t'' : List ℕ) → Reads list_form kinds values i n t r t'' → Reads list_form kinds values i n t (joined 0 0 0 r) (jointed t'' r pending top 0)
  unfolding joints
  begun pending top (Ok p) t'' h =
      let a : p.rows ≡ p.rows + 0 = omega arith in
      let b : p.depth ≡ max 0 p.depth = omega arith in
      let c : p.deepest ≡ max 0 p.deepest = omega arith in
      subst (λ (z : Read). Reads list_form kinds values i n t z t'') (done_same p.next a b c) h
  begun pending top (Err x) t'' h = h

  pub resumes_start : (pending : List ℕ) (top : ℕ) → Resumes kinds values i n t i n t pending top 0 0 0
  resumes_start pending top = record { whole = begun pending top }

  module _ (at place : ℕ) (t' pending : List ℕ) (top c p d : ℕ) (g : Resumes kinds values i n t at place t' pending top c p d) where
    pub resumes_bad : (x : Ungrammatical) (t'' : List ℕ) → Reads process_form kinds values at place t' (Err x) t'' → Reads list_form kinds values i n t (Err x) t''
    resumes_bad x t'' h = g.whole (Err x) t'' (list_bad kinds values at place t' x t'' h)

    module _ (a : Extent) (t'' : List ℕ) (h : Reads process_form kinds values at place t' (Ok a) t'') where
      pub resumes_stop : ¬ (get_or kinds a.next 0 ≡ kind.semicolon) → ¬ (get_or kinds a.next 0 ≡ kind.close_brace) → Reads list_form kinds values i n t (bad a.next) t''
      resumes_stop y z = g.whole (bad a.next) t'' (list_stop kinds values at place t' a t'' h y z)

      pub resumes_last : (pending' : List ℕ) → Kept pending pending' (top + c) → get_or kinds a.next 0 ≡ kind.close_brace
          → Reads list_form kinds values i n t (done (a.next + 1) (a.rows + c) (max p a.depth) (max d a.deepest)) (joints t'' a.rows pending' top c)
      resumes_last pending' k e = rw (joints_kept c t'' a.rows pending pending' top k) (g.whole (done (a.next + 1) a.rows a.depth a.deepest) t'' (list_last kinds values at place t' a t'' h e))

      -- one more process and its semicolon
      more : (pending' : List ℕ) → Kept pending pending' (top + c) → get_or pending' (top + c) 0 ≡ a.rows - 1 → get_or kinds a.next 0 ≡ kind.semicolon → (r : Read) (u : List ℕ)
          → Reads list_form kinds values (a.next + 1) a.rows t'' r u → Reads list_form kinds values i n t (joined (c + 1) (max p a.depth) (max d a.deepest) r) (jointed u r pending' top (c + 1))
      more pending' k f e (Ok b) u q =
          let o = g.whole (done b.next (b.rows + 1) (max a.depth b.depth + 0) (max a.deepest b.deepest + 0)) (sets u (row_words * b.rows) (row layout.sequence (a.rows - 1) (b.rows - 1) 0))
          (list_more kinds values at place t' a t'' h (Ok b) u e q) in
          let e1 : b.rows + 1 + c ≡ b.rows + (c + 1) = omega arith in
          let e2 : max p (max a.depth b.depth + 0) ≡ max (max p a.depth) b.depth = omega arith in
          let e3 : max d (max a.deepest b.deepest + 0) ≡ max (max d a.deepest) b.deepest = omega arith in
          let w : joints (sets u (row_words * b.rows) (row layout.sequence (a.rows - 1) (b.rows - 1) 0)) (b.rows + 1) pending top c ≡ joints u b.rows pending' top (c + 1) =
          sym (joints_more u b.rows pending' top (c + 1) c refl ∙ ap (λ (v : ℕ). joints (sets u (row_words * b.rows) (row layout.sequence v (b.rows - 1) 0)) (b.rows + 1) pending' top c) f
          ∙ joints_kept c (sets u (row_words * b.rows) (row layout.sequence (a.rows - 1) (b.rows - 1) 0)) (b.rows + 1) pending pending' top k) in
          subst (λ (z : Read). Reads list_form kinds values i n t z (joints u b.rows pending' top (c + 1))) (done_same b.next e1 e2 e3)
          (subst (λ (z : List ℕ). Reads list_form kinds values i n t (done b.next (b.rows + 1 + c) (max p (max a.depth b.depth + 0)) (max d (max a.deepest b.deepest + 0))) z) w o)
      more pending' k f e (Err x) u q = g.whole (Err x) u (list_more kinds values at place t' a t'' h (Err x) u e q)

      pub resumes_more : (pending' : List ℕ) → Kept pending pending' (top + c) → get_or pending' (top + c) 0 ≡ a.rows - 1 → get_or kinds a.next 0 ≡ kind.semicolon
          → Resumes kinds values i n t (a.next + 1) a.rows t'' pending' top (c + 1) (max p a.depth) (max d a.deepest)
      resumes_more pending' k f e = record { whole = more pending' k f e }
