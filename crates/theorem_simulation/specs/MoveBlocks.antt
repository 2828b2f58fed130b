-- Every move of the source is a block of the abstract machine, or the source has ended and so has the machine. Lemmas; they rest on ExpressionBlocks and ProcessBlocks.
use Rattle.std.specs.Prelude.{◌≡◌, refl, true, ◌⊎◌, List, [], ◌∷◌, ℕ, suc, ◌<◌, get_or, length}
use Rattle.std.proofs.Math.Option.{Option, none, some}
use Rattle.std.proofs.Common.{inl, inr, arith}
use Rattle.arm_word.specs.Word.{add}
use Rattle.arm_word.specs.Access.{Access}
use Rattle.arm_encoding.specs.declared.Instr.TheVariants.{Svc}
use Rattle.x_meaning.specs.SourceRun.{Item, evaluate, work₁, work₂, check, load, execute, set_variable, store, choose, repeat, End, going, finish, stopped, bad_subscript, State, state}
use Rattle.x_meaning.specs.SourceRun.{move, ends_with}
use Rattle.theorem_simulation.specs.Abstract.{registers, Control, links, Abstract, machine, pc_of, sp_of, memory_of, trace_of}
use Rattle.theorem_simulation.specs.Straight.{Holds, here, more, go, address}
use Rattle.theorem_simulation.specs.Relation.{Setting, data_of, Limits, Jumps, there, hop, ItemAt, Place, Memory, Related, Good}
use Rattle.theorem_simulation.specs.Block.{Block, Claim, relate, good}
use Rattle.theorem_simulation.specs.ExpressionBlocks.{of_expression, of_work₁, of_work₂, of_check, of_load}
use Rattle.theorem_simulation.specs.ProcessBlocks.{of_process, of_set, of_store, of_choose, of_repeat}

module _ {E : Setting} (ok : Limits E) (d : List ℕ) (t : List Access) (c : List Item) (pc a b g r3 k : ℕ) (ct : Control) (mem : List (Option ℕ)) where
  -- any thing to do
  of_item : (x : Item) (p : List ℕ) → ItemAt E.code x pc → Claim E d t c pc a b g r3 k ct mem x p
  of_item (evaluate e) p at cn fi mr = of_expression ok d t c pc a b g r3 k ct mem e p at cn fi mr
  of_item (work₁ o) [] at cn fi mr = absurd fi
  of_item (work₁ o) (x ∷ p) at cn fi mr = of_work₁ ok d t c pc a b g r3 k ct mem o x p at cn fi mr
  of_item (work₂ o) [] at cn fi mr = absurd fi
  of_item (work₂ o) (y ∷ []) at cn fi mr = absurd fi
  of_item (work₂ o) (y ∷ x ∷ p) at cn fi mr = of_work₂ ok d t c pc a b g r3 k ct mem o x y p at cn fi mr
  of_item (check v) [] at cn fi mr = absurd fi
  of_item (check v) (i ∷ p) at cn fi mr = of_check ok d t c pc a b g r3 k ct mem v i p at cn fi mr
  of_item (load v) [] at cn fi mr = absurd fi
  of_item (load v) (i ∷ p) at cn fi mr = of_load ok d t c pc a b g r3 k ct mem v i p at cn fi mr
  of_item (execute x) p at cn fi mr = of_process ok d t c pc a b g r3 k ct mem x p at cn fi mr
  of_item (set_variable v) [] at cn fi mr = absurd fi
  of_item (set_variable v) (w ∷ p) at cn fi mr = of_set ok d t c pc a b g r3 k ct mem v w p at cn fi mr
  of_item (store v) [] at cn fi mr = absurd fi
  of_item (store v) (w ∷ []) at cn fi mr = absurd fi
  of_item (store v) (w ∷ i ∷ p) at cn fi mr = of_store ok d t c pc a b g r3 k ct mem v i w p at cn fi mr
  of_item (choose x y) [] at cn fi mr = absurd fi
  of_item (choose x y) (w ∷ p) at cn fi mr = of_choose ok d t c pc a b g r3 k ct mem x y w p at cn fi mr
  of_item (repeat e x) [] at cn fi mr = absurd fi
  of_item (repeat e x) (w ∷ p) at cn fi mr = of_repeat ok d t c pc a b g r3 k ct mem e x w p at cn fi mr

-- the source has ended, and the machine stands at the SVC that says so, with the same words
pub record Stands (E : Setting) (s : State) (m : Abstract) : Type 0 where
  pub number : ℕ
  pub at : Holds E.code (pc_of m) (Svc number)
  pub ends : ends_with s.end number ≡ true
  pub stays : move s ≡ s
  pub declared : length s.words ≡ data_of E
  pub same : (i : ℕ) → i < data_of E → get_or (memory_of m) i none ≡ some (get_or s.words i 0)
  pub good : Good E s (sp_of m) (memory_of m) (trace_of m)

module _ {E : Setting} (ok : Limits E) where
  -- jumps on the way to a thing to do; each leaves its own link
  jumped : {q pc a b g r3 sp : ℕ} {d : List ℕ} {t : List Access} {c : List Item} {p : List ℕ} {mem : List (Option ℕ)} → Jumps E.code q pc → Good E (state d t c p going) sp mem t
      → ((ct : Control) → Block E (state d t c p going) (machine q (registers a b g r3) sp ct mem t))
      → (ct : Control) → Block E (state d t c p going) (machine pc (registers a b g r3) sp ct mem t)
  jumped there w b ct = b ct
  jumped (hop {pc = pc} f j) w b ct =
      let b' = jumped j w b (links (add pc 5) ct) in
      record { n = suc b'.n; z = b'.z; path = more w (go f refl) b'.path; related = b'.related; falls = λ x. omega arith }

  module _ (d : List ℕ) (t : List Access) (pc a b g r3 k : ℕ) (ct : Control) (mem : List (Option ℕ)) where
    goes_on : (c : List Item) (p : List ℕ) → Place E going c p pc → Memory E d p k mem → Block E (state d t c p going) (machine pc (registers a b g r3) (address k) ct mem t)
    goes_on [] p ((q, j, f), fi) mr =
        jumped j (good ok k 0 refl mr.same mr.low (omega (arith, mr.top))) (λ ct. record { n = _; z = _; path = here; related = relate ok k f mr; falls = λ x. omega arith }) ct
    goes_on (x ∷ c) p ((q, j, at, cn), fi) mr =
        jumped j (good ok k 0 refl mr.same mr.low (omega (arith, mr.top))) (λ ct. of_item ok d t c q a b g r3 k ct mem x p at cn fi mr) ct

    stands : (c : List Item) (p : List ℕ) (e : End) (n : ℕ) → Holds E.code pc (Svc n) → ends_with e n ≡ true → move (state d t c p e) ≡ state d t c p e → Memory E d p k mem
        → Stands E (state d t c p e) (machine pc (registers a b g r3) (address k) ct mem t)
    stands c p e n f h st mr =
        record { number = n; at = f; ends = h; stays = st; declared = mr.declared; same = mr.same; good = good ok k 0 refl mr.same mr.low (omega (arith, mr.top)) }

    by_end : (c : List Item) (p : List ℕ) (e : End) → Place E e c p pc → Memory E d p k mem
        → Block E (state d t c p e) (machine pc (registers a b g r3) (address k) ct mem t) ⊎ Stands E (state d t c p e) (machine pc (registers a b g r3) (address k) ct mem t)
    by_end c p going pl mr = inl (goes_on c p pl mr)
    by_end c p finish pl mr = inr (stands c p finish 0 pl refl refl mr)
    by_end c p stopped pl mr = inr (stands c p stopped 1 pl refl refl mr)
    by_end c p bad_subscript pl mr = inr (stands c p bad_subscript 2 pl refl refl mr)

  -- one move
  pub simulates : {s : State} {m : Abstract} → Related E s m → Block E s m ⊎ Stands E s m
  simulates r = rw (r.source, r.target) (by_end r.d r.t r.pc r.r0 r.r1 r.r2 r.r3 r.k r.control r.mem r.c r.p r.e r.place r.memory)

  -- where the source has ended, so has the machine
  pub related_ends : {s : State} {m : Abstract} (n : ℕ) → Related E s m → ends_with s.end n ≡ true → Stands E s m
  related_ends {s} {m} n r h = rw (r.source, r.target) (by r.c r.p r.e r.place r.memory (rw r.source at h))
    where
      by : (c : List Item) (p : List ℕ) (e : End) → Place E e c p r.pc → Memory E r.d p r.k r.mem → ends_with e n ≡ true
          → Stands E (state r.d r.t c p e) (machine r.pc (registers r.r0 r.r1 r.r2 r.r3) (address r.k) r.control r.mem r.t)
      by c p going pl mr h = let z : ◌≡◌ {A = ℕ} 0 1 = cc (h) in absurd (omega arith)
      by c p finish pl mr h = stands r.d r.t r.pc r.r0 r.r1 r.r2 r.r3 r.k r.control r.mem c p finish 0 pl refl refl mr
      by c p stopped pl mr h = stands r.d r.t r.pc r.r0 r.r1 r.r2 r.r3 r.k r.control r.mem c p stopped 1 pl refl refl mr
      by c p bad_subscript pl mr h = stands r.d r.t r.pc r.r0 r.r1 r.r2 r.r3 r.k r.control r.mem c p bad_subscript 2 pl refl refl mr

  pub related_trace : {s : State} {m : Abstract} → Related E s m → trace_of m ≡ s.trace
  related_trace r = rw (r.source, r.target)
