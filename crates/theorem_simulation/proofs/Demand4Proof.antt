-- Request 2026-12, proved: for every sound program and any two lent memories that agree in the declared words. The theorem is `demand4`; it rests on Concrete, Following, Begin and Demand3Proof.
-- Both machines match one state of the abstract machine, which knows no stack word until it is written: what it does at all, both do alike. So no instruction of the rules is looked at here.
use Rattle.std.specs.Prelude.{◌≡◌, ◌⊎◌, List, [], ◌∷◌, ◌++◌, ℕ, zero, suc, ◌+◌, ◌≤◌, ◌<◌, get_or, length, take}
use Rattle.std.proofs.Math.Path.{refl}
use Rattle.std.proofs.Common.{sym, ap, subst, ◌∙◌, inl, inr, arith, get_or-take, length-take-le, ext_get_or}
use Rattle.std.proofs.Math.Option.{none, some}
use Rattle.arm_word.specs.Access.{Access}
use Rattle.x_program.specs.Tree.{Program}
use Rattle.x_program.specs.Sound.{Sound}
use Rattle.x_meaning.specs.SourceRun.{State, begin}
use Rattle.translate_rules.specs.ImageCode.{image}
use Rattle.arm_state.specs.Effects.{Effect}
use Rattle.arm_state.specs.declared.Machine.{Machine}
use Rattle.arm_machine.specs.MachineRun.{RunAfter, run_from}
use Rattle.theorem_simulation.specs.Demand3.{D, Lent, Call, run, tried, call, calls, trace_of, started}
use Rattle.theorem_simulation.specs.Iterated.{most}
use Rattle.theorem_simulation.specs.Demand4.{Agree, Alike, Both, Demand4}
use Rattle.theorem_simulation.specs.Generic.{times}
use Rattle.theorem_simulation.specs.Abstract.{Abstract, memory_of}
use Rattle.theorem_simulation.specs.Relation.{Setting, data_of, Limits}
use Rattle.theorem_simulation.specs.Following.{Follower, always}
use Rattle.theorem_simulation.specs.Concrete.{Point, step_point, Completes, SvcAt, svc_stays, Matches, carried, stopped}
use Rattle.theorem_simulation.proofs.Begin.{setting, first_point, limits, abstract_of, first_related, first_matches}
use Rattle.theorem_simulation.proofs.Demand3Proof as one

-- what follows a list is told by the whole
append_cancel : {A : Type 0} (xs : List A) {ys zs : List A} → xs ++ ys ≡ xs ++ zs → ys ≡ zs
append_cancel [] e = e
append_cancel (x ∷ xs) e = append_cancel xs (cc (e))

-- ── two machines side by side ──

record Pair : Type 0 where
  left : Point
  right : Point

module _ (E : Setting) (ok : Limits E) (first other : List ℕ) where
  abbrev step_pair : Pair → Pair
  step_pair x = record { left = step_point E x.left; right = step_point E x.right }

  -- both match one state of the abstract machine
  record Match (m : Abstract) (x : Pair) : Type 0 where
    lefts : Matches E first m x.left
    rights : Matches E other m x.right

  -- what is seen of a pair: it matches a state that knows the declared words, and both complete or both are at one SVC
  record Twins (s : State) (x : Pair) : Type 0 where
    m : Abstract
    match : Match m x
    known : (i : ℕ) → i < data_of E → (v : ℕ) × (get_or (memory_of m) i none ≡ some v)
    does : (Completes E x.left × Completes E x.right) ⊎ ((n : ℕ) × SvcAt E n x.left × SvcAt E n x.right)

  -- the two together follow the abstract machine
  follower : Follower E step_pair Match Twins
  follower = record {
    goes = λ s m m₁ x mt q g.
        let a = carried E ok first m m₁ x.left mt.lefts g in
        let b = carried E ok other m m₁ x.right mt.rights g in
        (record { m = m; match = mt; known = λ i h. (_, q.words i h); does = inl (a.completes, b.completes) }, record { lefts = a.matches; rights = b.matches });
    rests = λ s m x mt b.
        let a = (stopped E ok first s m x.left mt.lefts b).effect in
        let c = (stopped E ok other s m x.right mt.rights b).effect in (
          λ j. record { left = svc_stays E b.number x.left a j; right = svc_stays E b.number x.right c j },
          record { m = m; match = mt; known = λ i h. (_, b.same i h); does = inr (b.number, a, c) },
        );
    back = λ s x t. record { m = t.m; match = t.match; known = t.known; does = t.does };
  }

-- ── two lists of calls ──

module _ (p : Program) (sound : Sound p) (short : length (image p) ≤ 65536) (memory other : List ℕ) (lent : Lent p memory) (lent' : Lent p other) (agree : Agree p memory other) where
  abbrev E : Setting
  E = setting p

  ok : Limits E
  ok = limits p sound short memory lent

  abbrev pair : Pair → Pair
  pair = step_pair E ok memory other

  abbrev AlikeAt : Pair → Type 0
  AlikeAt x = Twins E ok memory other (begin p memory) x

  -- at x and ever after: each side as demand 3's proof has it, and both alike
  record Sees (x : Pair) : Type 0 where
    lefts : one.Sees p sound short memory lent x.left
    rights : one.Sees p sound short other lent' x.right
    twins : (i : ℕ) → AlikeAt (times pair i x)

  later : (x : Pair) → Sees x → Sees (pair x)
  later x v = record { lefts = λ i. v.lefts (suc i); rights = λ i. v.rights (suc i); twins = λ i. v.twins (suc i) }

  -- n steps of both
  abbrev ahead : ℕ → Pair → Pair
  ahead n x = record { left = times (step_point E) n x.left; right = times (step_point E) n x.right }

  further : (n : ℕ) (x : Pair) → Sees x → Sees (ahead n x)
  further zero x v = v
  further (suc n) x v = further n (pair x) (later x v)

  same_words : (x : Pair) → AlikeAt x → Agree p x.left.words x.right.words
  same_words x t =
      let mt = t.match in
      let a : length (take (D p) x.left.words) ≡ D p = length-take-le (D p) x.left.words (omega (arith, mt.lefts.agrees.all, lent.enough)) in
      let b : length (take (D p) x.right.words) ≡ D p = length-take-le (D p) x.right.words (omega (arith, mt.rights.agrees.all, lent'.enough)) in
      ext_get_or 0 (take (D p) x.left.words) (take (D p) x.right.words) (a ∙ sym b) (λ i h. at i (omega (arith, a)))
    where
      at : (i : ℕ) → i < D p → get_or (take (D p) x.left.words) i 0 ≡ get_or (take (D p) x.right.words) i 0
      at i h =
          let k = t.known i h in
          let a = t.match.lefts.agrees.same i k.0 k.1 in
          let b = t.match.rights.agrees.same i k.0 k.1 in
          get_or-take (D p) x.left.words i 0 h ∙ a ∙ sym b ∙ sym (get_or-take (D p) x.right.words i 0 h)

  same_trace : (x : Pair) → AlikeAt x → x.left.trace ≡ x.right.trace
  same_trace x t = t.match.lefts.trace ∙ sym t.match.rights.trace

  -- the accesses of n instructions
  same_tried : (n : ℕ) (x : Pair) → Sees x → trace_of p (tried n (image p) x.left.words x.left.state) ≡ trace_of p (tried n (image p) x.right.words x.right.state)
  same_tried n x v =
      let a = one.tried_trace p sound short memory lent n x.left v.lefts in
      let b = one.tried_trace p sound short other lent' n x.right v.rights in
      let e = same_trace (ahead n x) ((further n x v).twins 0) in
      let made = trace_of p (tried n (image p) x.right.words x.right.state) in
      append_cancel x.left.trace (a ∙ e ∙ sym b ∙ ap (λ (l : List Access). l ++ made) (sym (same_trace x (v.twins 0))))

  -- how two runs end
  record SameEnd (a b : RunAfter) : Type 0 where
    status : a.state.status ≡ b.state.status
    number : a.state.number ≡ b.state.number
    count : a.state.count ≡ b.state.count

  abbrev Same : ℕ → ℕ → Pair → Type 0
  Same n k x = SameEnd (run_from n k (image p) x.left.words x.left.state) (run_from n k (image p) x.right.words x.right.state)

  same_end : (n k : ℕ) (x : Pair) → Sees x → Same n k x
  same_end zero k x v = unfold run_from in record { status = refl; number = refl; count = refl }
  same_end (suc n) k x v = by (v.twins 0).does (same_end n (k + 1) (pair x) (later x v))
    where
      by : (Completes E x.left × Completes E x.right) ⊎ ((c : ℕ) × SvcAt E c x.left × SvcAt E c x.right) → Same n (k + 1) (pair x) → Same (suc n) k x
      by (inl (a, b)) ih = rw (one.run_more p sound short memory lent x.left v.lefts n k a.status, one.run_more p sound short other lent' x.right v.rights n k b.status) ih
      by (inr (c, a, b)) ih =
          let e = one.run_last p sound short memory lent x.left v.lefts n k (ap (λ (e : Effect). e.after.state.status) a) in
          let f = one.run_last p sound short other lent' x.right v.rights n k (ap (λ (e : Effect). e.after.state.status) b) in
          rw (e, f, a, b) (record { status = refl; number = refl; count = refl })

  alike : (n : ℕ) (x : Pair) → Sees x → Alike p (call (image p) (run n) x.left.words x.left.state) (call (image p) (run n) x.right.words x.right.state)
  alike n x v =
      let a = one.run_is p sound short memory lent n x.left v.lefts in
      let b = one.run_is p sound short other lent' n x.right v.rights in
      let s = same_end n 0 x v in
      let l = (one.landed p sound short memory lent n x.left v.lefts).0 in
      let r = (one.landed p sound short other lent' n x.right v.rights).0 in
      record {
        status = rw (a, b) s.status;
        number = rw (a, b) s.number;
        count = rw (a, b) s.count;
        trace = same_tried n x v;
        words = rw (l, r) (same_words (ahead n x) ((further n x v).twins 0));
      }

  lists : (ks : List Call) (x : Pair) → Sees x → Both (Alike p) (calls (image p) ks x.left.words x.left.state) (calls (image p) ks x.right.words x.right.state)
  lists [] x v = unfold calls in tt
  lists (k ∷ ks) x v =
      let n = most k in
      rw (one.calls_at p sound short memory lent k ks x.left v.lefts, one.calls_at p sound short other lent' k ks x.right v.rights)
      (alike n x v, lists ks (ahead n x) (further n x v))

  -- ── from the start ──

  abbrev start : Pair
  start = record { left = first_point p memory; right = first_point p other }

  -- the other memory matches the abstract machine of the first: it has the same declared words
  matched : Match E ok memory other (abstract_of p (take (D p) memory)) start
  matched = record {
    lefts = first_matches p sound short memory lent;
    rights = subst (λ (d : List ℕ). Matches E other (abstract_of p d) (first_point p other)) (sym agree) (first_matches p sound short other lent');
  }

  sees_start : Sees start
  sees_start = record {
    lefts = one.seen p sound short memory lent;
    rights = one.seen p sound short other lent';
    twins = λ i.
        always E ok pair (Match E ok memory other) (Twins E ok memory other) (follower E ok memory other) i (begin p memory) start
        (record { abstract_state = abstract_of p (take (D p) memory); related = first_related p sound short memory lent; follows = matched });
  }

  -- THE theorem
  pub demand4 : Demand4 p memory other
  demand4 ks =
      let a = one.started_is p sound short memory lent in
      let b = one.started_is p sound short other lent' in
      subst (λ (m : Machine). Both (Alike p) (calls (image p) ks memory m) (calls (image p) ks other (started p other))) (sym a)
      (subst (λ (m : Machine). Both (Alike p) (calls (image p) ks memory (first_point p memory).state) (calls (image p) ks other m)) (sym b) (lists ks start sees_start))
