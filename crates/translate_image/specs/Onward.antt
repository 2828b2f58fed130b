-- A list is written a part at a time: what is so once the parts before row s are written. Definition and laws; assume nothing.
use Rattle.std.specs.Prelude.{◌≡◌, List, ◌++◌, ℕ, suc, ◌≤◌}
use Rattle.std.proofs.Common.{ap, ◌∙◌, arith}
use Rattle.x_program.specs.Layout as layout
use Rattle.translate_emit_instructions.specs.Write.{Room, Wrote, first, rest, then}
use Rattle.x_program.specs.declared.table.Row.{Row}
use Rattle.translate_image_values.specs.Well.{row_in, Earlier, WellProcess, WellSingle}
use Rattle.translate_image_values.specs.RowCode.{process_in, named, sequence_names, sequence_code}

-- Of the process in row r, to be written to l from i on, what is left is row s, to be written to l' from j on; w is what row s says.
pub record Onward (t : List ℕ) (r : ℕ) (l : List ℕ) (i : ℕ) (s : ℕ) (w : Row) (l' : List ℕ) (j : ℕ) : Type 0 where
  pub said : w ≡ row_in t s
  pub least : s ≤ r
  pub well : WellProcess t s
  pub room : Room l' j (process_in t s)
  pub ends : (m : List ℕ) (k : ℕ) → Wrote l' j (process_in t s) m k → Wrote l i (process_in t r) m k

pub onward : {t : List ℕ} {r : ℕ} {l : List ℕ} {i : ℕ} {w : Row} → w ≡ row_in t r → WellProcess t r → Room l i (process_in t r) → Onward t r l i r w l i
onward e h q = record { said = e; least = omega arith; well = h; room = q; ends = λ m k v. v }

module _ {t : List ℕ} {r : ℕ} {l : List ℕ} {i s : ℕ} {w : Row} {l' : List ℕ} {j : ℕ} (o : Onward t r l i s w l' j) where
  -- the last part
  pub last : (w.kind ≡ layout.sequence → ⊥) → WellSingle t s
  last n = (o.well, λ e. n (ap (λ (x : Row). x.kind) o.said ∙ e))

  module _ (q : w.kind ≡ layout.sequence) where
    -- a sequence's two parts stand before it
    pub left : Earlier layout.skip layout.while t s w.a
    left = (sequence_names o.well o.said q).0

    pub right : Earlier layout.skip layout.while t s w.b
    right = (sequence_names o.well o.said q).1

    room_both : Room l' j (process_in t w.a ++ process_in t w.b)
    room_both = rw (sequence_code o.well o.said q) at o.room

    -- its left part can be written, and once that is done its right part is left
    pub left_asks : WellProcess t w.a × Room l' j (process_in t w.a)
    left_asks = (named o.well left, first _ room_both)

    pub turn : {v : Row} {m : List ℕ} {k : ℕ} → v ≡ row_in t w.b → Wrote l' j (process_in t w.a) m k → Onward t r l i w.b v m k
    turn e p = record {
      said = e;
      least = omega (arith, right.earlier, o.least);
      well = named o.well right;
      room = rest p room_both;
      ends = λ m' k' v. o.ends m' k' (rw (sequence_code o.well o.said q) (then p v));
    }

past : {k n : ℕ} → n ≤ k → (k ≡ n → ⊥) → suc n ≤ k
past h q = omega (arith, h, q)

both : {k n : ℕ} → n ≤ k → k ≤ n → k ≡ n
both h q = omega (arith, h, q)

-- past the other kinds only the while is left
pub only_loop : {k : ℕ} → layout.skip ≤ k → k ≤ layout.while → (k ≡ layout.skip → ⊥) → (k ≡ layout.stop → ⊥) → (k ≡ layout.assign → ⊥) → (k ≡ layout.assign_element → ⊥)
    → (k ≡ layout.sequence → ⊥) → (k ≡ layout.if → ⊥) → k ≡ layout.while
only_loop f t a b c d e g = both (past (past (past (past (past (past f a) b) c) d) e) g) t
