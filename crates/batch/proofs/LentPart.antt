-- A pool's array has 64 records, of which only the first are lent: what is done within them is the same seen from both. Assumes nothing.
use Rattle.std.specs.Prelude.{◌≡◌, refl, List, ◌++◌, ℕ, zero, suc, ◌≤◌, length, take, drop, replicate}
use Rattle.std.proofs.Common.{arith, length-append, length-drop, get_or-take}
use Rattle.std.proofs.lemmas.List.{length-replicate}
use Rattle.arrival.specs.declared.Worker.{Worker}
use Rattle.calendar.specs.rules.Ranges.{blank}
use Rattle.starts.specs.LeastTicket.{least_ticket}

pub least_taken : (n : ℕ) (t : List Worker) (k : ℕ) → k ≤ n → least_ticket (take n t) k ≡ least_ticket t k
unfolding least_ticket
least_taken n t zero h = refl
least_taken n t (suc k) h = rw (least_taken n t k (omega arith), get_or-take n t k blank (omega arith))

module _ {A : Type 0} (x : A) where
  pub over_length : (t : List A) (k : ℕ) → k ≤ length t → length (replicate k x ++ drop k t) ≡ length t
  over_length t k h = simp (length-append, length-replicate, length-drop) (omega arith)
