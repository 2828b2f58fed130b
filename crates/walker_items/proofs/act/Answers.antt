-- `walker_items::act` meets its contract, thing by thing.
-- Assumes nothing.
use native.Mathlib.Omega.{arith}
use Rattle.walker_items.specs.Doing.{works₁, works₂, checks, sets, begins, chooses, finishes, faces}
use Rattle.walker_items.proofs.act.Goals as goal

pub returns-in_default-clause-shown : goal.returns-in_default-clause-shown
returns-in_default-clause-shown c = λ first old x s. finishes s c.pop.ensures.value c.in_default.is

pub returns-in-Begin-clause-shown : goal.returns-in-Begin-clause-shown
returns-in-Begin-clause-shown c =
    λ first old x s.
    let f = faces s c.pop.ensures.value c.in-Some.is c.in-Begin.is c.pop.ensures.rest in
    begins f

pub returns-in-WorkMonadic-clause-shown : goal.returns-in-WorkMonadic-clause-shown
returns-in-WorkMonadic-clause-shown c =
    λ first old x s.
    let f = faces s c.pop.ensures.value c.in-Some.is c.in-WorkMonadic.is c.pop.ensures.rest in
    rw c.work_monadic.ensures.next (works₁ f c.work_monadic.ensures.pile)

pub returns-in-WorkDiadic-clause-shown : goal.returns-in-WorkDiadic-clause-shown
returns-in-WorkDiadic-clause-shown c =
    λ first old x s.
    let f = faces s c.pop.ensures.value c.in-Some.is c.in-WorkDiadic.is c.pop.ensures.rest in
    rw c.work_diadic.ensures.next (works₂ f c.work_diadic.ensures.pile)

pub returns-in-Check-clause-shown : goal.returns-in-Check-clause-shown
returns-in-Check-clause-shown c =
    λ first old x s.
    let f = faces s c.pop.ensures.value c.in-Some.is c.in-Check.is c.pop.ensures.rest in
    checks f c.check_subscript.ensures

pub returns-in-Load-clause-shown : goal.returns-in-Load-clause-shown
returns-in-Load-clause-shown c =
    λ first old x s.
    let f = faces s c.pop.ensures.value c.in-Some.is c.in-Load.is c.pop.ensures.rest in
    c.load.ensures.shown first old x f

pub returns-in-Set-clause-shown : goal.returns-in-Set-clause-shown
returns-in-Set-clause-shown c =
    λ first old x s.
    let f = faces s c.pop.ensures.value c.in-Some.is c.in-Set.is c.pop.ensures.rest in
    rw c.set_variable.ensures.next (sets f c.set_variable.ensures.words c.set_variable.ensures.pile)

pub returns-in-Store-clause-shown : goal.returns-in-Store-clause-shown
returns-in-Store-clause-shown c =
    λ first old x s.
    let f = faces s c.pop.ensures.value c.in-Some.is c.in-Store.is c.pop.ensures.rest in
    c.store.ensures.shown first old x f

pub returns-in-Choose-clause-shown : goal.returns-in-Choose-clause-shown
returns-in-Choose-clause-shown c =
    λ first old x s.
    let f = faces s c.pop.ensures.value c.in-Some.is c.in-Choose.is c.pop.ensures.rest in
    chooses f c.choose.ensures.next c.choose.ensures.pile

pub returns-in-Repeat-clause-shown : goal.returns-in-Repeat-clause-shown
returns-in-Repeat-clause-shown c =
    λ first old x s.
    let f = faces s c.pop.ensures.value c.in-Some.is c.in-Repeat.is c.pop.ensures.rest in
    c.repeat.ensures.shown first old _ _ x (c.pop.ensures.room (omega arith)) f
