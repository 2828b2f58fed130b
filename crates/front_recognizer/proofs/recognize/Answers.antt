-- `front_recognizer::recognize` meets its contract. The invariant (`Stands`): the automaton's state at token i is the configuration of control and table, and the tree so far nests within 32, or
use mathlib.Core.Path.{◌≡◌, subst}
use Prim.Native.Nat.{ℕ}
use lib.ListN.{length}
use native.Mathlib.Omega.{arith}
use Rattle.front_recognizer.specs.Pushdown.{frames, ends_at}
use Rattle.front_recognizer.specs.Stack.{length_frames}
use Rattle.front_recognizer.specs.Recognized.{Says, ended, stands_first, stands_last}
use Rattle.front_recognizer.proofs.Standing.{stands_bad, stands_next}
use Rattle.x_grammar.specs.Automaton.{reads}
use Rattle.x_grammar.specs.TokenArrays.{unread}
use Rattle.front_recognizer.proofs.recognize.Goals as goal

pub loop-i-init : goal.loop-i-init
unfolding frames
loop-i-init c = (omega arith, λ values. stands_first _ values)

pub returns-in-Refused : goal.returns-in-Refused
returns-in-Refused c =
    let v = c.loop-i in
    λ values. rw c.refused_at.ensures (stands_bad _ values v.i (omega arith) _ _ v.deep (v.invariant.1 values) c.advance-c.ensures.0 c.in-Refused.is)

pub loop-i-preserved : goal.loop-i-preserved
loop-i-preserved c =
    let v = c.loop-i in let a = c.advance-c.ensures in (
      omega (arith, a.1, v.invariant.0),
      λ values. rw c.deep_by-deep.ensures (stands_next _ values v.i (omega arith) _ _ v.deep (v.invariant.1 values) a.0 c.in_default.not-Refused),
    )

pub returns : goal.returns
returns c =
    let v = c.loop-i in let e : v.i ≡ length c.args.kinds.now = omega arith in λ values.
    let h = subst (λ (h : ℕ). Says (length c.args.kinds.now) (reads (unread c.args.kinds.now values 0)) (ended (ends_at v.c.mode h) v.deep v.i))
    (length_frames v.table v.c.height) (stands_last _ values v.i _ v.deep (v.invariant.1 values) (omega arith) (omega arith)) in
    rw (c.at_end.ensures, c.complete.ensures) (rw e at h)
