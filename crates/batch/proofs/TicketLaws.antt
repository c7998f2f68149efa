-- The tickets of the calls in progress, as a list beside the workers' records, and the least of them. Assumes nothing.
--     least_at_most                           the lesser of two, and its bound
--     least_of_none, least_of_more             the least of the first n, one by one
--     tickets_set, stored_ticket              a record stored, its ticket stored
--     least_is                                the least of the list is the least ticket in progress
--     low_is                                   the least where an action asks for it; it is that of the records
--     tickets_more, tickets_all               a loop that stores ticket after ticket; at its end
--     least_folded, least_within               the least by a fold over the tickets, and its bound
use Rattle.std.specs.Prelude.{◌≡◌, refl, List, [], ◌∷◌, ◌++◌, Bool, true, false, cond, ◌&&◌, ℕ, zero, suc, ◌+◌, ◌<◌, ◌≤◌, ltb, length, get_or, set, take, drop}
use Rattle.std.proofs.Common.{sym, ap, ◌∙◌, append-nil, arith, add-one, take_all, ltb-true, ltb-false, le-ltb}
use Rattle.std.specs.List.{fold}
use Rattle.std.proofs.lemmas.List.Sums.{fold-append}
use Rattle.std.proofs.Math.Seq.{drop-length, take-suc}
use Rattle.laws.specs.Storing.{store_next}
use Rattle.arrival.specs.declared.Shape.{Shape}
use Rattle.arrival.specs.declared.Worker.{Worker}
use Rattle.arrival.specs.declared.Action.{Action}
use Rattle.arrival.specs.declared.Action.TheVariants.{Enqueue, Dequeue, Step}
use Rattle.calendar.specs.rules.Ranges.{worker}
use Rattle.calendar.specs.rules.Reclaim.{in_progress}
use Rattle.starts.specs.LeastTicket.{least_ticket, least_bound}
use Rattle.operation.specs.LocalAct.{LowFor}
use Rattle.batch.specs.Tickets.{ticket_of, tickets_of, least, least_of, low_for}

pub least_at_most : (low x bound : ℕ) → low ≤ bound → least low x ≤ bound
least_at_most low x bound h = go (ltb x low) refl
  where
    go : (b : Bool) → ltb x low ≡ b → cond b x low ≤ bound
    go true e = omega (arith, ltb-true x low e)
    go false e = h

pub least_of_none : (ts : List ℕ) → least_of ts 0 ≡ 4294967296
unfolding least_of
least_of_none ts = refl

pub least_of_more : (ts : List ℕ) (n low r : ℕ) → low ≡ least_of ts n → r ≡ least low (get_or ts n 0) → r ≡ least_of ts (n + 1)
unfolding least_of
least_of_more ts n low r so_far e = e ∙ rw (add-one, so_far)

tickets_length : (t : List Worker) → length (tickets_of t) ≡ length t
unfolding tickets_of
tickets_length [] = refl
tickets_length (w ∷ t) = ap suc (tickets_length t)

tickets_at : (t : List Worker) (n : ℕ) → n < length t → get_or (tickets_of t) n 0 ≡ ticket_of (worker t n)
unfolding tickets_of
tickets_at [] n h = absurd (omega arith)
tickets_at (w ∷ t) zero h = refl
tickets_at (w ∷ t) (suc n) h = tickets_at t n (omega arith)

pub tickets_set : (t : List Worker) (i : ℕ) (w : Worker) → tickets_of (set t i w) ≡ set (tickets_of t) i (ticket_of w)
unfolding tickets_of
tickets_set [] i w = refl
tickets_set (v ∷ t) zero w = refl
tickets_set (v ∷ t) (suc i) w = ap (λ (ts : List ℕ). ticket_of v ∷ ts) (tickets_set t i w)

-- beside the record w, stored at i, its ticket x
pub stored_ticket : (t : List Worker) (i : ℕ) (w : Worker) {ts : List ℕ} → ts ≡ tickets_of t → (x : ℕ) → x ≡ ticket_of w → set ts i x ≡ tickets_of (set t i w)
stored_ticket t i w {ts} is x e = ap (set ts i) e ∙ ap (λ (us : List ℕ). set us i (ticket_of w)) is ∙ sym (tickets_set t i w)

-- with 2^32 in place of no ticket the test of a call in progress is not needed
one_more : (busy : Bool) (ticket low : ℕ) → low ≤ 4294967296
    → least low (cond (busy && ltb ticket 4294967296) ticket 4294967296) ≡ cond (busy && ltb ticket low) ticket low
one_more false ticket low h = rw (le-ltb 4294967296 low h)
one_more true ticket low h = go (ltb ticket 4294967296) refl
  where
    go : (b : Bool) → ltb ticket 4294967296 ≡ b → least low (cond b ticket 4294967296) ≡ cond (ltb ticket low) ticket low
    go true e = refl
    go false e = let f = ltb-false ticket 4294967296 e in rw (le-ltb 4294967296 low h, le-ltb ticket low (omega arith))

pub least_is : (t : List Worker) (n : ℕ) → n ≤ length t → least_of (tickets_of t) n ≡ least_ticket t n
unfolding least_of least_ticket
least_is t zero h = refl
least_is t (suc n) h =
    let w = worker t n in
    rw (least_is t n (omega arith), tickets_at t n (omega arith)) (one_more (in_progress w) w.ticket (least_ticket t n) (least_bound t n))

pub low_is : (sh : Shape) (t : List Worker) (ts : List ℕ) (a : Action) (low : ℕ) → ts ≡ tickets_of t → sh.workers ≤ length t → low ≡ low_for a ts sh.workers
    → LowFor sh t a low
low_is sh t ts (Enqueue i x) low e h is = is ∙ ap (λ (us : List ℕ). least_of us sh.workers) e ∙ least_is t sh.workers h
low_is sh t ts (Dequeue i) low e h is = tt
low_is sh t ts (Step i) low e h is = tt

-- a loop that stores ticket after ticket
pub tickets_more : (t : List Worker) (k : ℕ) (ts : List ℕ) → k < length t → k < length ts
    → set (take k (tickets_of t) ++ drop k ts) k (ticket_of (worker t k)) ≡ take (k + 1) (tickets_of t) ++ drop (k + 1) ts
tickets_more t k ts h l =
    let g : k < length (tickets_of t) = rw (tickets_length t) h in
    ap (set (take k (tickets_of t) ++ drop k ts) k) (sym (tickets_at t k h)) ∙ rw add-one (store_next 0 k (tickets_of t) ts g l)

pub tickets_all : (t : List Worker) (k : ℕ) (ts : List ℕ) → length t ≡ k → length ts ≡ k → take k (tickets_of t) ++ drop k ts ≡ tickets_of t
tickets_all t k ts e f = rw (take_all k (tickets_of t) (omega (arith, tickets_length t)), ← f, drop-length ts) (append-nil (tickets_of t))

-- the least by a fold over the first n, and its bound
pub least_folded : (ts : List ℕ) (n : ℕ) → n ≤ length ts → fold least 4294967296 (take n ts) ≡ least_of ts n
least_folded ts zero h = sym (least_of_none ts)
least_folded ts (suc n) h =
    ap (fold least 4294967296) (take-suc ts n 0 (omega arith))
    ∙ fold-append least 4294967296 (take n ts) (get_or ts n 0 ∷ [])
    ∙ least_of_more ts n (fold least 4294967296 (take n ts)) _ (least_folded ts n (omega arith)) refl
    ∙ ap (least_of ts) (add-one n)

pub least_within : (ts : List ℕ) (n : ℕ) → least_of ts n ≤ 4294967296
unfolding least_of
least_within ts zero = omega arith
least_within ts (suc n) = least_at_most (least_of ts n) (get_or ts n 0) 4294967296 (least_within ts n)
