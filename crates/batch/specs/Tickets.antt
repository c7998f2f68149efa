-- The tickets of the calls in progress, as a list beside the workers' records, and the least of them. Assumes nothing.
--     ticket_of, tickets_of                     a record's ticket, 2^32 where no call is in progress; the list
--     least                                   the lesser of two, and its bound
--     least_of                                 the least of the first n, one by one
--     low_for                                  the least where an action asks for it; it is that of the records
use Rattle.std.specs.Prelude.{List, [], ◌∷◌, cond, ℕ, zero, suc, ltb, get_or}
use Rattle.arrival.specs.declared.Worker.{Worker}
use Rattle.arrival.specs.declared.Action.{Action}
use Rattle.arrival.specs.declared.Action.TheVariants.{Enqueue, Dequeue, Step}
use Rattle.starts.specs.LeastTicket.{lower}

abbrev pub ticket_of : Worker → ℕ
ticket_of w = lower 4294967296 w

unfoldable pub tickets_of : List Worker → List ℕ
tickets_of [] = []
tickets_of (w ∷ t) = ticket_of w ∷ tickets_of t

abbrev pub least : ℕ → ℕ → ℕ
least low x = cond (ltb x low) x low

-- the least of the first n; 2^32 of none
unfoldable pub least_of : List ℕ → ℕ → ℕ
least_of ts zero = 4294967296
least_of ts (suc n) = least (least_of ts n) (get_or ts n 0)

-- where the action asks for it
abbrev pub low_for : Action → List ℕ → ℕ → ℕ
low_for (Enqueue i x) ts n = least_of ts n
low_for (Dequeue i) ts n = 0
low_for (Step i) ts n = 0
