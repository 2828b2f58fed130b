-- The least complaint is the first one found from left to right, since a program's names stand in the order of their places. Laws; assumes nothing.
use Rattle.std.specs.Prelude.{◌≡◌, refl, true, false, List, [], ◌∷◌, ◌≤◌, eqb, ltb, leb}
use Rattle.std.proofs.Common.{arith}
use borrow.Author.Tests.{eq-eqb, le-leb}
use Rattle.arm_word.specs.Choice.{pick}
use Rattle.arm_word.specs.ChoiceLaws.{by_test}
use Rattle.x_names.specs.Complaints.{Complaint, earlier, Verdict, fine, refused, least}

-- the first of a list
abbrev pub first : List Complaint → Verdict
first [] = fine
first (c ∷ cs) = refused c

-- a complaint that goes before another
pub record Before (a b : Complaint) : Type 0 where
  pub place : a.place ≤ b.place
  pub number : a.place ≡ b.place → a.number ≤ b.number

abbrev pub BeforeAll : Complaint → List Complaint → Type 0
BeforeAll a [] = Unit {0}
BeforeAll a (c ∷ cs) = Before a c × BeforeAll a cs

-- a list in order
abbrev pub Ordered : List Complaint → Type 0
Ordered [] = Unit {0}
Ordered (c ∷ cs) = BeforeAll c cs × Ordered cs

pub is_earlier : (a b : Complaint) → Before a b → earlier a b ≡ true
is_earlier a b h =
    by_test (λ t. pick t true (pick (eqb a.place b.place) (leb a.number b.number) false) ≡ true) (ltb a.place b.place)
    (λ e. refl)
    (λ e. let q : a.place ≡ b.place = omega (arith, h.place, borrow.Author.Tests.ltb-false a.place b.place e) in
    rw (eq-eqb a.place b.place q, le-leb a.number b.number (h.number q)))

-- the least of an ordered list is its first
pub least_first : (cs : List Complaint) → Ordered cs → least cs ≡ first cs
unfolding least
least_first [] o = refl
least_first (c ∷ []) o = refl
least_first (c ∷ d ∷ cs) o = rw (least_first (d ∷ cs) o.1) (rw (is_earlier c d o.0.0))
