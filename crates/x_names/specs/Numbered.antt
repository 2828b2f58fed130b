-- A complaint's number is from 8 to 12, and its place inside. Definitions.
use Rattle.std.specs.Prelude.{ℕ, ◌≤◌}
use Rattle.x_tokens.specs.Refusals as refusal
use Rattle.x_names.specs.Complaints.{Complaint}
use Rattle.x_names.specs.Complaints.{Verdict, fine, refused}

-- ── complaints ──
-- number 8 to 12, place at most `end`
pub record Within (end : ℕ) (c : Complaint) : Type 0 where
  pub low : refusal.not_declared ≤ c.number
  pub high : c.number ≤ refusal.too_much
  pub inside : c.place ≤ end

abbrev pub Judged : ℕ → Verdict → Type 0
Judged end fine = Unit {0}
Judged end (refused c) = Within end c
