-- The least of a list of complaints is among them, and none goes before it. Laws; rests on Complaints and FirstComplaint.
use Rattle.std.specs.Prelude.{◌≡◌, refl, Bool, true, false, eqb, ltb, leb}
use Rattle.std.proofs.Common.{sym, subst, arith, eqb-true, ltb-true, ltb-false, leb-true, leb-false}
use mathlib.Core.List.Memᴰ
use mathlib.Core.List.{List, [], ◌∷◌, Memᴰ}
use Rattle.std.proofs.lemmas.Bool.{eqb-false}
use Rattle.arm_word.specs.Choice.{pick}
use Rattle.arm_word.specs.ChoiceLaws.{by_test}
use Rattle.x_names.specs.Complaints.{Complaint, earlier, Verdict, fine, refused, lesser, least}
use Rattle.x_names.specs.FirstComplaint.{Before}

before_itself : (a : Complaint) → Before a a
before_itself a = record { place = omega arith; number = λ _. omega arith }

before_trans : (a b c : Complaint) → Before a b → Before b c → Before a c
before_trans a b c x y = record { place = omega (arith, x.place, y.place); number = λ e. omega (arith, x.number (omega (arith, x.place, y.place)), y.number (omega (arith, x.place, y.place))) }

-- `earlier` tells which of two goes before the other
earlier_tells : (a b : Complaint) (t : Bool) → earlier a b ≡ t → pick t (Before a b) (Before b a)
earlier_tells a b t =
    by_test (λ (x : Bool). pick x true (pick (eqb a.place b.place) (leb a.number b.number) false) ≡ t → pick t (Before a b) (Before b a)) (ltb a.place b.place)
    (λ e q. subst (λ (x : Bool). pick x (Before a b) (Before b a)) q (let l = ltb-true a.place b.place e in record { place = omega arith; number = λ z. absurd (omega arith) }))
    (λ e. let l = ltb-false a.place b.place e in
    by_test (λ (x : Bool). pick x (leb a.number b.number) false ≡ t → pick t (Before a b) (Before b a)) (eqb a.place b.place)
    (λ f. let z = eqb-true a.place b.place f in
    by_test (λ (x : Bool). x ≡ t → pick t (Before a b) (Before b a)) (leb a.number b.number)
    (λ g q. subst (λ (x : Bool). pick x (Before a b) (Before b a)) q (let h = leb-true a.number b.number g in record { place = omega arith; number = λ _. omega arith }))
    (λ g q. subst (λ (x : Bool). pick x (Before a b) (Before b a)) q (let h = leb-false a.number b.number g in record { place = omega arith; number = λ _. omega arith })))
    (λ f q. subst (λ (x : Bool). pick x (Before a b) (Before b a)) q (let z = eqb-false a.place b.place f in record { place = omega arith; number = λ y. absurd (z (sym y)) })))

-- c is one of them, and goes before all
pub record Least (c : Complaint) (cs : List Complaint) : Type 0 where
  pub among : Memᴰ c cs
  pub first : (d : Complaint) → Memᴰ d cs → Before c d

abbrev Told : List Complaint → Verdict → Type 0
Told cs fine = cs ≡ []
Told cs (refused c) = Least c cs

before_cons : (c a : Complaint) (cs : List Complaint) → Before c a → ((d : Complaint) → Memᴰ d cs → Before c d) → (d : Complaint) → Memᴰ d (a ∷ cs) → Before c d
before_cons c a cs b f d (Memᴰ.head e) = subst (Before c) (sym e) b
before_cons c a cs b f d (Memᴰ.tail m) = f d m

tell_cons : (a : Complaint) (cs : List Complaint) (v : Verdict) → Told cs v → Told (a ∷ cs) (lesser a v)
tell_cons a cs fine e = record { among = Memᴰ.head refl; first = before_cons a a cs (before_itself a) (λ d m. absurd (Memᴰ.not-nil (subst (Memᴰ d) e m))) }
tell_cons a cs (refused c) l = by (earlier a c) (earlier_tells a c (earlier a c) refl)
  where
    by : (t : Bool) → pick t (Before a c) (Before c a) → Told (a ∷ cs) (pick t (refused a) (refused c))
    by true b = record { among = Memᴰ.head refl; first = before_cons a a cs (before_itself a) (λ d m. before_trans a c d b (l.first d m)) }
    by false b = record { among = Memᴰ.tail l.among; first = before_cons c a cs b l.first }

tell : (cs : List Complaint) → Told cs (least cs)
unfolding least
tell [] = refl
tell (c ∷ cs) = tell_cons c cs (least cs) (tell cs)

-- no complaint, or the least of them
pub least_none : (cs : List Complaint) → least cs ≡ fine → cs ≡ []
least_none cs e = subst (Told cs) e (tell cs)

pub least_one : (cs : List Complaint) (c : Complaint) → least cs ≡ refused c → Least c cs
least_one cs c e = subst (Told cs) e (tell cs)
