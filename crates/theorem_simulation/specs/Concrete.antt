-- The machine's own points, and that it follows the abstract machine (`follower`), so that it simulates the source. Definitions and lemmas; they rest on Bridge and Following.
use Rattle.std.specs.Prelude.{◌≡◌, true, ◌⊎◌, List, ◌++◌, ℕ, suc, ◌+◌, ◌≤◌, ◌<◌, get_or, length}
use Rattle.std.proofs.Common.{sym, ap, subst, ◌∙◌, inl, inr, ⊎_elim, append-nil, arith, eqb-true}
use Rattle.arm_word.specs.Access.{Access}
use Rattle.x_meaning.specs.SourceRun.{End, going, finish, bad_subscript, State, move, moves, ends_with}
use Rattle.arm_state.specs.Effects.{After, after, Effect, done, ended, stops, execute_of}
use Rattle.arm_state.specs.declared.Flags.{Flags}
use Rattle.arm_state.specs.declared.Machine.{Machine}
use Rattle.arm_machine.specs.Step.{once_of}
use Rattle.arm_machine.specs.Trace.{listed}
use Rattle.theorem_simulation.specs.Abstract.{Abstract, machine, sp_of, memory_of, trace_of}
use Rattle.theorem_simulation.specs.Straight.{Goes, address}
use Rattle.theorem_simulation.specs.Relation.{Setting, data_of, array_of, Limits, Good}
use Rattle.theorem_simulation.specs.MoveBlocks.{Stands, related_ends, related_trace}
use Rattle.theorem_simulation.specs.Following.{Simulated, Follower}
use Rattle.theorem_simulation.specs.Bridge.{concrete, Agrees, Within, execute_follows}

-- the machine's state, its words, and the trace so far
pub record Point : Type 0 where
  pub state : Machine
  pub words : List ℕ
  pub trace : List Access

module _ (E : Setting) where
  abbrev pub effect_at : Point → Effect
  effect_at x = once_of E.code x.words x.state

  -- one instruction tried
  abbrev pub step_point : Point → Point
  step_point x = record { state = (effect_at x).after.state.machine; words = (effect_at x).after.words; trace = x.trace ++ listed (array_of E) (effect_at x).access }

-- the instruction there completes
pub record Completes (E : Setting) (x : Point) : Type 0 where
  pub status : (effect_at E x).after.state.status ≡ 0
  pub within : Within (data_of E + E.stack) (effect_at E x).access

-- or it is an SVC n,
abbrev pub SvcAt : Setting → ℕ → Point → Type 0
SvcAt E n x = effect_at E x ≡ stops x.words (ended x.state n)

-- where nothing changes any more,
pub svc_stays : (E : Setting) (n : ℕ) (x : Point) → SvcAt E n x → step_point E x ≡ x
unfolding listed
svc_stays E n x e = rw e (ap (λ (t : List Access). record { state = x.state; words = x.words; trace = t }) (append-nil x.trace))

-- and which the source's end asks for
pub record Halts (E : Setting) (s : State) (n : ℕ) (x : Point) : Type 0 where
  pub effect : SvcAt E n x
  pub ends : ends_with s.end n ≡ true
  pub declared : length s.words ≡ data_of E
  pub same : (i : ℕ) → i < data_of E → get_or x.words i 0 ≡ get_or s.words i 0

-- s being the source's state at some point before
abbrev pub Does : Setting → State → Point → Type 0
Does E s x = Completes E x ⊎ ((j n : ℕ) × Halts E (moves j s) n x)

-- what is seen at a point of the machine, s being the source's state at some point before; `first` are the lent words
pub record Seen (E : Setting) (first : List ℕ) (s : State) (x : Point) : Type 0 where
  pub j : ℕ
  pub list : x.trace ≡ (moves j s).trace
  pub sp_low : address (data_of E) ≤ x.state.sp
  pub sp_high : x.state.sp ≤ address (data_of E + E.stack)
  pub all : length x.words ≡ length first
  pub untouched : (i : ℕ) → data_of E + E.stack ≤ i → get_or x.words i 0 ≡ get_or first i 0
  pub does : Does E s x

-- a point of the machine stands for a state of the abstract machine
pub record Matches (E : Setting) (first : List ℕ) (m : Abstract) (x : Point) : Type 0 where
  pub flags : Flags
  pub is : x.state ≡ concrete m flags
  pub trace : x.trace ≡ trace_of m
  pub agrees : Agrees first (memory_of m) x.words
  pub whole : length (memory_of m) ≡ data_of E + E.stack

-- an end has one number
one_number : (e : End) (a b : ℕ) → ends_with e a ≡ true → ends_with e b ≡ true → a ≡ b
one_number going a b x y = let z : ◌≡◌ {A = ℕ} 0 1 = cc (x) in absurd (omega arith)
one_number finish a b x y = eqb-true a 0 x ∙ sym (eqb-true b 0 y)
one_number End.stopped a b x y = eqb-true a 1 x ∙ sym (eqb-true b 1 y)
one_number bad_subscript a b x y = eqb-true a 2 x ∙ sym (eqb-true b 2 y)

seen_back : (E : Setting) (first : List ℕ) (s : State) (x : Point) → Seen E first (move s) x → Seen E first s x
seen_back E first s x v = record {
  j = suc v.j;
  list = v.list;
  sp_low = v.sp_low;
  sp_high = v.sp_high;
  all = v.all;
  untouched = v.untouched;
  does = ⊎_elim inl (λ h. inr (suc h.0, h.1, h.2)) v.does;
}

module _ (E : Setting) (ok : Limits E) (first : List ℕ) where
  -- what an instruction of the abstract machine is on the machine
  pub record Carried (m₁ : Abstract) (x : Point) : Type 0 where
    pub completes : Completes E x
    pub matches : Matches E first m₁ (step_point E x)

  pub carried : (m m₁ : Abstract) (x : Point) → Matches E first m x → Goes (array_of E) E.code m m₁ → Carried m₁ x
  carried (machine pc r sp ct mem l) m₁ x mt g =
      let i = g.instruction in
      let f = execute_follows (array_of E) first E.code ok.short_code pc r sp ct mem l m₁ x.words mt.flags mt.agrees (omega (arith, g.holds.inside, ok.short_code)) i g.does in
      let at : effect_at E x ≡ execute_of E.code x.words (concrete (machine pc r sp ct mem l) mt.flags) i
      = g.holds.runs x.words x.state (ap (λ (m : Machine). m.pc) mt.is) ∙ ap (λ (m : Machine). execute_of E.code x.words m i) mt.is in
      let is : (effect_at E x).after ≡ after (done (concrete m₁ f.flags)) f.words = ap (λ (e : Effect). e.after) at ∙ f.is in
      record {
        completes = record { status = ap (λ (a : After). a.state.status) is; within = rw (at, ← mt.whole) f.within };
        matches = record {
          flags = f.flags;
          is = ap (λ (a : After). a.state.machine) is;
          trace = rw (mt.trace, at) f.trace;
          agrees = rw (ap (λ (a : After). a.words) is) f.agrees;
          whole = f.size ∙ mt.whole;
        };
      }

  -- demand 3's facts of an abstract state, carried over
  seen_of : (s : State) (m : Abstract) (x : Point) → Matches E first m x → Good E s (sp_of m) (memory_of m) (trace_of m) → Does E s x → Seen E first s x
  seen_of s (machine pc r sp ct mem l) x mt q d =
      let e : x.state.sp ≡ sp = ap (λ (m : Machine). m.sp) mt.is in
      record {
        j = q.j;
        list = mt.trace ∙ q.list;
        sp_low = rw e q.sp_low;
        sp_high = rw e q.sp_high;
        all = mt.agrees.all;
        untouched = λ i h. mt.agrees.untouched i (omega (arith, mt.whole));
        does = d;
      }

  -- where the abstract machine stands at an SVC, so does the machine
  pub stopped : (s : State) (m : Abstract) (x : Point) → Matches E first m x → (b : Stands E s m) → Halts E s b.number x
  unfolding execute_of
  stopped s (machine pc r sp ct mem l) x mt b = record {
    effect = b.at.runs x.words x.state (ap (λ (m : Machine). m.pc) mt.is);
    ends = b.ends;
    declared = b.declared;
    same = λ i h. mt.agrees.same i (get_or s.words i 0) (b.same i h);
  }

  -- the machine over the lent words follows the abstract machine
  pub follower : Follower E (step_point E) (Matches E first) (Seen E first)
  follower = record {
    goes = λ s m m₁ x mt q g. let c = carried m m₁ x mt g in (seen_of s m x mt q (inl c.completes), c.matches);
    rests = λ s m x mt b. let h = stopped s m x mt b in (svc_stays E b.number x h.effect, seen_of s m x mt b.good (inr (0, b.number, h)));
    back = seen_back E first;
  }

  -- a source that has ended, and the machine at its SVC
  pub ended_point : (s : State) (x : Point) (n : ℕ) → Simulated E (Matches E first) s x → ends_with s.end n ≡ true → Halts E s n x
  ended_point s x n r h =
      let b = related_ends ok n r.related h in
      subst (λ (n : ℕ). Halts E s n x) (one_number s.end b.number n b.ends h) (stopped s r.abstract_state x r.follows b)

  pub simulated_trace : (s : State) (x : Point) → Simulated E (Matches E first) s x → x.trace ≡ s.trace
  simulated_trace s x r = r.follows.trace ∙ related_trace ok r.related
