-- Demands 2 and 3, proved: for every sound program and any lent words. The theorem is `demand3`; it rests on Begin, Concrete and Following.
-- The instructions that a list of calls tries are a chain of points, each one step after the one before; at every point of it the simulation sees what the statement says.
use Rattle.std.specs.Prelude.{◌≡◌, true, ◌⊎◌, List, [], ◌∷◌, ◌++◌, get_or, length, take, drop}
use Rattle.std.proofs.Math.Path.{refl, ap}
use Rattle.std.proofs.Common.{sym, subst, ◌∙◌, inl, inr, ⊎_elim, append_assoc, append-nil, arith, length-drop, get_or-take, get_or-drop, length-take-le, ext_get_or}
use Prim.Native.Nat.{ℕ, zero, suc, ◌+◌, ◌≤◌, ◌<◌}
use borrow.Author.Tests.{eq-eqb, ne_eqb, le-ltb, le-leb}
use Rattle.arm_word.specs.Access.{Access}
use Rattle.x_program.specs.Tree.{Program}
use Rattle.x_meaning.specs.SourceRun.{State, move, moves, begin, ends_with}
use Rattle.translate_rules.specs.ImageCode.{image}
use Rattle.arm_state.specs.State.{fresh_of}
use Rattle.arm_state.specs.Effects.{Effect}
use Rattle.arm_state.specs.declared.Machine.{Machine}
use Rattle.arm_machine.specs.Step.{refusal_of, step_of}
use Rattle.arm_machine.specs.MachineRun.{RunAfter, run_after, ran, run_from, run_of}
use Rattle.arm_machine.specs.Start.{start_refusal, start_of}
use Rattle.arm_machine.specs.declared.Started.{Started}
use Rattle.x_program.specs.Sound.{Sound}
use Rattle.theorem_simulation.specs.Demand3.{Each, D, N, needs, Lent, Call, run, tried, Called, call, calls, all_tried, trace_of, started, called, Kept, Ended, Orderly}
use Rattle.theorem_simulation.specs.Demand3.{Answered, EndsBy, Demand3}
use Rattle.theorem_simulation.specs.Iterated.{most, call_is_run}
use Rattle.theorem_simulation.specs.Generic.{times, times_stays, times_still}
use Rattle.theorem_simulation.specs.Straight.{address}
use Rattle.theorem_simulation.specs.Relation.{Setting, data_of}
use Rattle.theorem_simulation.specs.Following.{Simulated, Follower, always, arrives}
use Rattle.theorem_simulation.specs.Concrete.{Point, effect_at, step_point, svc_stays, Halts, Does, Seen, Matches, follower, ended_point, simulated_trace}
use Rattle.theorem_simulation.proofs.Begin.{setting, first_point, limits, first_simulated}

-- the source's moves, as the generic part counts them
pub moves_times : (j : ℕ) (s : State) → times move j s ≡ moves j s
moves_times zero s = refl
moves_times (suc j) s = moves_times j (move s)

-- effects one after another, from one point to another
data Chain (E : Setting) : Point → List Effect → Point → Type 0 where
  none : {x : Point} → Chain E x [] x
  also : {x y : Point} {es : List Effect} → Chain E (step_point E x) es y → Chain E x (effect_at E x ∷ es) y

chain_append : {E : Setting} {x y z : Point} {es fs : List Effect} → Chain E x es y → Chain E y fs z → Chain E x (es ++ fs) z
chain_append none d = d
chain_append (also c) d = also (chain_append c d)

module _ (p : Program) (sound : Sound p) (short : length (image p) ≤ 65536) (memory : List ℕ) (lent : Lent p memory) where
  abbrev E : Setting
  E = setting p

  -- at x and ever after the simulation sees what it should
  abbrev pub Sees : Point → Type 0
  Sees x = (i : ℕ) → Seen E memory (begin p memory) (times (step_point E) i x)

  later : (x : Point) → Sees x → Sees (step_point E x)
  later x v i = v (suc i)

  further : (n : ℕ) (x : Point) → Sees x → Sees (times (step_point E) n x)
  further zero x v = v
  further (suc n) x v = further n (step_point E x) (later x v)

  needs_is : data_of E + E.stack ≡ needs p
  needs_is = omega arith

  -- ── one instruction ──

  not_refused : (w : List ℕ) → length w ≡ length memory → refusal_of (image p) w ≡ 0
  unfolding refusal_of
  not_refused w e = rw (le-ltb 65536 (length (image p)) (short), le-ltb 16384 (length w) (omega (arith, lent.few)))

  step_is : (x : Point) → Sees x → step_of (image p) x.words x.state ≡ effect_at E x
  unfolding step_of
  step_is x v = rw (eq-eqb (refusal_of (image p) x.words) 0 (not_refused x.words (v 0).all))

  status_of : (x : Point) → Sees x → ((effect_at E x).after.state.status ≡ 0) ⊎ ((effect_at E x).after.state.status ≡ 1)
  status_of x v = ⊎_elim (λ c. inl c.status) (λ h. inr (ap (λ (e : Effect). e.after.state.status) h.2.effect)) (v 0).does

  -- a list of words, told from the needed words on
  same_rest : (w : List ℕ) → length w ≡ length memory → ((i : ℕ) → data_of E + E.stack ≤ i → get_or w i 0 ≡ get_or memory i 0) → drop (needs p) w ≡ drop (needs p) memory
  same_rest w e h =
      ext_get_or 0 (drop (needs p) w) (drop (needs p) memory) (length-drop (needs p) w ∙ rw e (sym (length-drop (needs p) memory)))
      (λ i b. get_or-drop (needs p) w i 0 ∙ h (needs p + i) (omega arith) ∙ sym (get_or-drop (needs p) memory i 0))

  same_data : (w d : List ℕ) → length w ≡ length memory → length d ≡ D p → ((i : ℕ) → i < D p → get_or w i 0 ≡ get_or d i 0) → take (D p) w ≡ d
  same_data w d e l h =
      let t : length (take (D p) w) ≡ D p = length-take-le (D p) w (omega (arith, lent.enough)) in
      ext_get_or 0 (take (D p) w) d (t ∙ sym l) (λ i b. let b' : i < D p = omega arith in get_or-take (D p) w i 0 b' ∙ h i b')

  kept : (x : Point) → Sees x → Kept p memory x.words x.state
  unfolding address
  kept x v = record { sp_low = (v 0).sp_low; sp_high = omega (arith, (v 0).sp_high); untouched = same_rest x.words (v 0).all (v 0).untouched }

  ended_here : (x : Point) → Sees x → (effect_at E x).after.state.status ≡ 1 → Ended p memory (effect_at E x).after.words (effect_at E x).after.state.number
  ended_here x v e = ⊎_elim (λ c. absurd (omega (arith, c.status))) (λ h. by h.0 h.1 h.2) (v 0).does
    where
      by : (j n : ℕ) → Halts E (moves j (begin p memory)) n x → Ended p memory (effect_at E x).after.words (effect_at E x).after.state.number
      by j n h = rw h.effect (record { j = j; ends = h.ends; same_words = same_data x.words _ (v 0).all h.declared h.same })

  orderly : (x : Point) → Sees x → Orderly p memory (effect_at E x)
  orderly x v =
      record {
        no_fault = ⊎_elim (λ e. omega arith) (λ e. omega arith) (status_of x v);
        kept = kept (step_point E x) (later x v);
        within = ⊎_elim (λ c. rw needs_is at c.within) (λ h. rw h.2.effect tt) (v 0).does;
        ended = ended_here x v;
      }

  -- ── chains ──

  chain_orderly : {x y : Point} {es : List Effect} → Chain E x es y → Sees x → Each (Orderly p memory) es
  chain_orderly none v = tt
  chain_orderly (also {x = x} c) v = (orderly x v, chain_orderly c (later x v))

  -- after each instruction of a chain the trace is that of a point
  chain_trace : {x y : Point} {es : List Effect} → Chain E x es y → (i : ℕ) → (n : ℕ) × (x.trace ++ trace_of p (take i es) ≡ (times (step_point E) n x).trace)
  chain_trace {x} none zero = (0, append-nil x.trace)
  chain_trace {x} none (suc i) = (0, append-nil x.trace)
  chain_trace {x} (also c) zero = (0, append-nil x.trace)
  chain_trace {x} (also c) (suc i) = let r = chain_trace c i in (suc r.0, sym (append_assoc x.trace _ _) ∙ r.1)

  -- and after all of it that of its last point
  chain_whole : {x y : Point} {es : List Effect} → Chain E x es y → x.trace ++ trace_of p es ≡ y.trace
  chain_whole {x} none = append-nil x.trace
  chain_whole {x} (also c) = sym (append_assoc x.trace _ _) ∙ chain_whole c

  -- ── a run ──

  module _ (x : Point) (v : Sees x) (n : ℕ) where
    tried_more : (effect_at E x).after.state.status ≡ 0 → tried (suc n) (image p) x.words x.state ≡ effect_at E x ∷ tried n (image p) (step_point E x).words (step_point E x).state
    unfolding tried
    tried_more e = rw (step_is x v, eq-eqb _ 0 e)

    tried_last : (effect_at E x).after.state.status ≡ 1 → tried (suc n) (image p) x.words x.state ≡ effect_at E x ∷ []
    unfolding tried
    tried_last e = rw (step_is x v, ne_eqb (effect_at E x).after.state.status 0 (omega arith))

    pub run_more : (k : ℕ) → (effect_at E x).after.state.status ≡ 0 → run_from (suc n) k (image p) x.words x.state ≡ run_from n (k + 1) (image p) (step_point E x).words (step_point E x).state
    unfolding run_from
    run_more k e = rw e

    pub run_last : (k : ℕ) → (effect_at E x).after.state.status ≡ 1
        → run_from (suc n) k (image p) x.words x.state ≡ run_after (ran (effect_at E x).after.state (k + 1)) (effect_at E x).after.words
    unfolding run_from
    run_last k e = let s = (effect_at E x).after.state.status in rw (ne_eqb s 0 (omega arith), le-leb s 1 (omega arith))

  tried_none : (w : List ℕ) (m : Machine) → tried 0 (image p) w m ≡ []
  unfolding tried
  tried_none w m = refl

  -- a run r from x comes to y, by these instructions
  record Runs (x y : Point) (k : ℕ) (es : List Effect) (r : RunAfter) : Type 0 where
    chain : Chain E x es y
    words : r.words ≡ y.words
    state : r.state.machine ≡ y.state
    status : r.state.status < 2
    count : r.state.count ≡ k + length es
    ended : r.state.status ≡ 1 → Ended p memory r.words r.state.number

  -- a run of at most n instructions comes to the point n steps on, as a point at an SVC stays
  runs : (n k : ℕ) (x : Point) → Sees x → Runs x (times (step_point E) n x) k (tried n (image p) x.words x.state) (run_from n k (image p) x.words x.state)
  unfolding run_from
  runs zero k x v = rw tried_none (record { chain = none; words = refl; state = refl; status = omega arith; count = omega arith; ended = λ e. absurd (omega (arith, e)) })
  runs (suc n) k x v = by (v 0).does (runs n (k + 1) (step_point E x) (later x v))
    where
      by : Does E (begin p memory) x
          → let x' = step_point E x in Runs x' (times (step_point E) n x') (k + 1) (tried n (image p) x'.words x'.state) (run_from n (k + 1) (image p) x'.words x'.state)
          → Runs x (times (step_point E) n x') k (tried (suc n) (image p) x.words x.state) (run_from (suc n) k (image p) x.words x.state)
      by (inl c) r =
          rw (tried_more x v n c.status, run_more x v n k c.status)
          (record { chain = also r.chain; words = r.words; state = r.state; status = r.status; count = r.count ∙ omega arith; ended = r.ended })
      by (inr h) r =
          let e : (effect_at E x).after.state.status ≡ 1 = ap (λ (e : Effect). e.after.state.status) h.2.effect in
          let rest = times_stays (step_point E) n (step_point E x) (ap (step_point E) (svc_stays E h.1 x h.2.effect)) in
          rw (tried_last x v n e, run_last x v n k e, rest)
          (record { chain = also none; words = refl; state = refl; status = omega arith; count = omega arith; ended = ended_here x v })

  pub run_is : (n : ℕ) (x : Point) → Sees x → run_of n (image p) x.words x.state ≡ run_from n 0 (image p) x.words x.state
  unfolding run_of
  run_is n x v = rw (eq-eqb (refusal_of (image p) x.words) 0 (not_refused x.words (v 0).all))

  -- ── lists of calls ──

  -- what a list of calls comes to
  record Lists (x : Point) (made : List Called) : Type 0 where
    last : Point
    chain : Chain E x (all_tried made) last
    answered : Each (Answered p memory) made

  -- the words and the state that a run hands back are those of the point that it comes to
  pub landed : (n : ℕ) (x : Point) → Sees x → let a = call (image p) (run n) x.words x.state in let y = times (step_point E) n x in (a.words ≡ y.words) × (a.machine ≡ y.state)
  landed n x v = let r = runs n 0 x v in rw (run_is n x v) (r.words, r.state)

  -- a list of calls from a point: a run, then the others from the point that it comes to
  pub calls_at : (k : Call) (ks : List Call) (x : Point) → Sees x → let y = times (step_point E) (most k) x in
      calls (image p) (k ∷ ks) x.words x.state ≡ call (image p) (run (most k)) x.words x.state ∷ calls (image p) ks y.words y.state
  calls_at k ks x v =
      let l = landed (most k) x v in
      unfold calls in ap (λ (a : Called). a ∷ calls (image p) ks a.words a.machine) (call_is_run (image p) k x.words x.state) ∙ rw (l.0, l.1)

  run_answered : (n : ℕ) (x : Point) → Sees x → Answered p memory (call (image p) (run n) x.words x.state)
  run_answered n x v =
      let r = runs n 0 x v in
      let e = run_is n x v in
      record { not_refused = rw e r.status; counted = rw e (r.count ∙ omega arith); kept = rw (e, r.words, r.state) (kept _ (further n x v)); ended = rw e r.ended }

  lists : (ks : List Call) (x : Point) → Sees x → Lists x (calls (image p) ks x.words x.state)
  lists [] x v = unfold calls in record { last = x; chain = none; answered = tt }
  lists (k ∷ ks) x v =
      let n = most k in
      let l = lists ks (times (step_point E) n x) (further n x v) in
      rw (calls_at k ks x v) (record { last = l.last; chain = chain_append (runs n 0 x v).chain l.chain; answered = (run_answered n x v, l.answered) })

  -- ── traces ──

  -- the trace of n instructions is that of the point they come to
  pub tried_trace : (n : ℕ) (x : Point) → Sees x → x.trace ++ trace_of p (tried n (image p) x.words x.state) ≡ (times (step_point E) n x).trace
  tried_trace n x v = chain_whole (runs n 0 x v).chain

  -- ── ends ──

  -- a run that ended by SVC c
  record BySvc (c : ℕ) (r : RunAfter) : Type 0 where
    status : r.state.status ≡ 1
    number : r.state.number ≡ c

  run_halts : (x : Point) → Sees x → (s : State) (c : ℕ) → Halts E s c x → (l k : ℕ) → BySvc c (run_from (suc l) k (image p) x.words x.state)
  run_halts x v s c h l k = rw (run_last x v l k (ap (λ (e : Effect). e.after.state.status) h.effect), h.effect) (record { status = refl; number = refl })

  -- where n steps come to an SVC, every run with a limit above n ends by it
  run_svc : (n : ℕ) (x : Point) → Sees x → (s : State) (c : ℕ) → Halts E s c (times (step_point E) n x) → (limit k : ℕ) → n < limit → BySvc c (run_from limit k (image p) x.words x.state)
  run_svc n x v s c h zero k b = absurd (omega arith)
  run_svc zero x v s c h (suc l) k b = run_halts x v s c h l k
  run_svc (suc n) x v s c h (suc l) k b = by (v 0).does (run_svc n (step_point E x) (later x v) s c h l (k + 1) (omega arith))
    where
      by : Does E (begin p memory) x → BySvc c (run_from l (k + 1) (image p) (step_point E x).words (step_point E x).state)
          → BySvc c (run_from (suc l) k (image p) x.words x.state)
      by (inl g) ih = rw (run_more x v l k g.status) ih
      by (inr g) ih = run_halts x v s c (subst (Halts E s c) (times_stays (step_point E) (suc n) x (svc_stays E g.1 x g.2.effect)) h) l k

  -- so such a run hands back that point's words, and its accesses are all of the source's
  run_ends : (n : ℕ) (x : Point) → Sees x → x.trace ≡ [] → (s : State) (c : ℕ) → Halts E s c (times (step_point E) n x) → (times (step_point E) n x).trace ≡ s.trace → (limit : ℕ) → n < limit
      → EndsBy p c s.words s.trace (call (image p) (run limit) x.words x.state)
  run_ends n x v z s c h t limit b =
      let y = times (step_point E) n x in
      let q = times_still (step_point E) limit n x (omega arith) (svc_stays E c y h.effect) in
      let svc = run_svc n x v s c h limit 0 b in
      record {
        by_svc = rw (run_is limit x v) svc.status;
        number = rw (run_is limit x v) svc.number;
        same_words = rw ((landed limit x v).0, q) (same_data y.words s.words (further n x v 0).all h.declared h.same);
        same_trace = ap (λ (l : List Access). l ++ trace_of p (tried limit (image p) x.words x.state)) (sym z) ∙ tried_trace limit x v ∙ ap (λ (y : Point). y.trace) q ∙ t;
      }

  -- ── from the start ──

  start_is : start_of (image p) memory (D p) (N p) ≡ record { status = 0; machine = fresh_of (D p) (N p) }
  unfolding start_of start_refusal
  start_is =
      rw (eq-eqb (refusal_of (image p) memory) 0 (not_refused memory refl), le-ltb 8192 (D p) sound.small, le-ltb 32 (N p) sound.shallow, le-ltb (length memory) (needs p) lent.enough)

  pub started_is : started p memory ≡ fresh_of (D p) (N p)
  started_is = ap (λ (s : Started). s.machine) start_is

  abbrev Simulates : State → Point → Type 0
  Simulates = Simulated E (Matches E memory)

  follows : Follower E (step_point E) (Matches E memory) (Seen E memory)
  follows = follower E (limits p sound short memory lent) memory

  pub seen : Sees (first_point p memory)
  seen i = always E (limits p sound short memory lent) (step_point E) (Matches E memory) (Seen E memory) follows i (begin p memory) (first_point p memory) (first_simulated p sound short memory lent)

  reached : (j : ℕ) → (n : ℕ) × Simulates (moves j (begin p memory)) (times (step_point E) n (first_point p memory))
  reached j =
      let ok = limits p sound short memory lent in
      let r = arrives E ok (step_point E) (Matches E memory) (Seen E memory) follows j (begin p memory) (first_point p memory) (first_simulated p sound short memory lent) in
      (r.0, rw moves_times at r.1)

  all_lists : (ks : List Call) → Lists (first_point p memory) (called p memory ks)
  all_lists ks = subst (λ (m : Machine). Lists (first_point p memory) (calls (image p) ks memory m)) (sym started_is) (lists ks (first_point p memory) seen)

  -- THE theorem: demand 3, with demand 2's ends
  pub demand3 : Demand3 p memory
  demand3 = record {
    starts = start_is;
    answered = λ ks. (all_lists ks).answered;
    each = λ ks. chain_orderly (all_lists ks).chain seen;
    sees = λ ks i. by_sight ks i (chain_trace (all_lists ks).chain i);
    reaches = λ j. by_reach j (reached j);
    ends = λ j n e. by_end j n e (reached j);
  }
    where
      by_sight : (ks : List Call) (i : ℕ) → (n : ℕ) × ([] ++ trace_of p (take i (all_tried (called p memory ks))) ≡ (times (step_point E) n (first_point p memory)).trace)
          → (j : ℕ) × (trace_of p (take i (all_tried (called p memory ks))) ≡ (moves j (begin p memory)).trace)
      by_sight ks i (n, e) = let s = seen n in (s.j, e ∙ s.list)

      by_reach : (j : ℕ) → (n : ℕ) × Simulates (moves j (begin p memory)) (times (step_point E) n (first_point p memory))
          → (n : ℕ) × (trace_of p (tried n (image p) memory (started p memory)) ≡ (moves j (begin p memory)).trace)
      by_reach j (n, r) = (
        n,
        ap (λ (m : Machine). trace_of p (tried n (image p) memory m)) started_is
            ∙ tried_trace n (first_point p memory) seen
            ∙ simulated_trace E (limits p sound short memory lent) memory (moves j (begin p memory)) _ r,
      )

      by_end : (j n : ℕ) → let s = moves j (begin p memory) in ends_with s.end n ≡ true → (i : ℕ) × Simulates s (times (step_point E) i (first_point p memory))
          → (l : ℕ) × ((limit : ℕ) → l ≤ limit → EndsBy p n s.words s.trace (call (image p) (run limit) memory (started p memory)))
      by_end j n e (i, r) =
          let s = moves j (begin p memory) in
          let y = times (step_point E) i (first_point p memory) in
          let ok = limits p sound short memory lent in
          let h = ended_point E ok memory s y n r e in (
            suc i,
            λ limit b.
                subst (λ (m : Machine). EndsBy p n s.words s.trace (call (image p) (run limit) memory m)) (sym started_is)
                (run_ends i (first_point p memory) seen refl s n h (simulated_trace E ok memory s y r) limit b),
          )
