-- Resolving names keeps depths: N of the tree is N of the resolved program. Laws; assumes nothing.
use Rattle.std.specs.Prelude.{◌≡◌, refl, List, [], ◌++◌, ℕ, suc, max}
use Rattle.std.proofs.Common.{ap, ap₂, ◌∙◌, arith}
use Rattle.x_grammar.specs.Grammar.{Expression, single, monadic, diadic, Chain, last, more, Operand, element, bracketed, Process, skip, stop, assign, assign_element, empty, braces, conditional}
use Rattle.x_grammar.specs.Grammar.{while, after_comment, Processes, only, followed, Program, program}
use Rattle.x_grammar.specs.Grammar as grammar
use Rattle.x_grammar.specs.TreeDepth as raw
use Rattle.x_program.specs.Tree as tree
use Rattle.x_program.specs.ProgramDepth.{depth, deepest, deepest_of}
use Rattle.x_names.specs.Scope.{Meaning, unknown, variable, array, constant, Scope, empty_scope, meaning_of, declare_all}
use Rattle.x_names.specs.Complaints.{as_target, as_array, at, of_specifications, of_expression, of_chain, of_operand, of_process, of_processes, complaints}
use Rattle.x_names.specs.Resolve as resolve
use Rattle.x_names.specs.Resolve.{value, element_of, assigned, element_assigned}
use Rattle.x_names.proofs.AcceptedNames.{none_left, none_right, none_at}

value_depth : (m : Meaning) → 1 ≡ depth (value m)
value_depth unknown = refl
value_depth (variable v) = refl
value_depth (array a) = refl
value_depth (constant w) = refl

element_depth : (m : Meaning) (e : tree.Expression) → as_array m ≡ [] → suc (depth e) ≡ depth (element_of m e)
element_depth unknown e h = let z : ◌≡◌ {A = ℕ} 0 1 = cc in absurd (omega arith)
element_depth (variable v) e h = let z : ◌≡◌ {A = ℕ} 0 1 = cc in absurd (omega arith)
element_depth (array a) e h = refl
element_depth (constant w) e h = let z : ◌≡◌ {A = ℕ} 0 1 = cc in absurd (omega arith)

assigned_depth : (m : Meaning) (e : tree.Expression) → as_target m ≡ [] → depth e ≡ deepest (assigned m e)
assigned_depth unknown e h = let z : ◌≡◌ {A = ℕ} 0 1 = cc in absurd (omega arith)
assigned_depth (variable v) e h = refl
assigned_depth (array a) e h = let z : ◌≡◌ {A = ℕ} 0 1 = cc in absurd (omega arith)
assigned_depth (constant w) e h = let z : ◌≡◌ {A = ℕ} 0 1 = cc in absurd (omega arith)

stored_depth : (m : Meaning) (i e : tree.Expression) → as_array m ≡ [] → max (suc (depth i)) (depth e) ≡ deepest (element_assigned m i e)
stored_depth unknown i e h = let z : ◌≡◌ {A = ℕ} 0 1 = cc in absurd (omega arith)
stored_depth (variable v) i e h = let z : ◌≡◌ {A = ℕ} 0 1 = cc in absurd (omega arith)
stored_depth (array a) i e h = refl
stored_depth (constant w) i e h = let z : ◌≡◌ {A = ℕ} 0 1 = cc in absurd (omega arith)

module _ (text : ℕ → List ℕ) (place : ℕ → ℕ) (s : Scope) where
  mutual
    depth_E : (e : Expression) → of_expression text place e s ≡ [] → raw.depth_expression e ≡ depth (resolve.expression text e s)
    depth_E (single a) h = depth_O a h
    depth_E (monadic o a) h = ap suc (depth_O a h)
    depth_E (diadic o a c) h = ap₂ (λ (n m : ℕ). suc (max n m)) (depth_O a (none_left _ (of_chain text place c s) h)) (depth_C c o (none_right (of_operand text place a s) _ h))

    depth_C : (c : Chain) (o : ℕ) → of_chain text place c s ≡ [] → raw.depth_chain c ≡ depth (resolve.chain text c o s)
    depth_C (last a) o h = depth_O a h
    depth_C (more a c) o h = ap₂ (λ (n m : ℕ). suc (max n m)) (depth_O a (none_left _ (of_chain text place c s) h)) (depth_C c o (none_right (of_operand text place a s) _ h))

    depth_O : (a : Operand) → of_operand text place a s ≡ [] → raw.depth_operand a ≡ depth (resolve.operand text a s)
    depth_O (grammar.constant v) h = refl
    depth_O (grammar.variable x) h = value_depth (meaning_of text s x)
    depth_O (element x e) h =
        ap suc (depth_E e (none_right (at text place x (as_array (meaning_of text s x))) _ h))
        ∙ element_depth (meaning_of text s x) (resolve.expression text e s) (none_at text place x _ (none_left _ (of_expression text place e s) h))
    depth_O (bracketed e) h = ap suc (depth_E e h)

  mutual
    deepest_P : (p : Process) → of_process text place p s ≡ [] → raw.deepest_process p ≡ deepest (resolve.process text p s)
    deepest_P skip h = refl
    deepest_P stop h = refl
    deepest_P (assign x e) h =
        depth_E e (none_right (at text place x (as_target (meaning_of text s x))) _ h)
        ∙ assigned_depth (meaning_of text s x) (resolve.expression text e s) (none_at text place x _ (none_left _ (of_expression text place e s) h))
    deepest_P (assign_element x i e) h =
        let k = none_right (at text place x (as_array (meaning_of text s x))) _ h in
        ap₂ (λ (n m : ℕ). max (suc n) m) (depth_E i (none_left _ (of_expression text place e s) k)) (depth_E e (none_right (of_expression text place i s) _ k))
        ∙ stored_depth (meaning_of text s x) (resolve.expression text i s) (resolve.expression text e s)
        (none_at text place x _ (none_left _ (of_expression text place i s ++ of_expression text place e s) h))
    deepest_P empty h = refl
    deepest_P (braces ps) h = deepest_L ps h
    deepest_P (conditional e p q) h =
        let k = none_right (of_expression text place e s) _ h in
        let a = depth_E e (none_left _ (of_process text place p s ++ of_process text place q s) h) in
        let b = deepest_P p (none_left _ (of_process text place q s) k) in
        let c = deepest_P q (none_right (of_process text place p s) _ k) in
        omega arith
    deepest_P (while e p) h = ap₂ max (depth_E e (none_left _ (of_process text place p s) h)) (deepest_P p (none_right (of_expression text place e s) _ h))
    deepest_P (after_comment p) h = deepest_P p h

    deepest_L : (ps : Processes) → of_processes text place ps s ≡ [] → raw.deepest_processes ps ≡ deepest_of (resolve.processes text ps s)
    deepest_L (only p) h = let a = deepest_P p h in omega arith
    deepest_L (followed p ps) h = ap₂ max (deepest_P p (none_left _ (of_processes text place ps s) h)) (deepest_L ps (none_right (of_process text place p s) _ h))

pub same_deepest : (text : ℕ → List ℕ) (place : ℕ → ℕ) (p : Program) → complaints text place p ≡ [] → raw.deepest p ≡ deepest (resolve.resolve text p).body
same_deepest text place (program ds p) h = deepest_P text place (declare_all text ds empty_scope) p (none_right (of_specifications text place ds empty_scope) _ h)
