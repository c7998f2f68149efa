-- What refuses has a number, which is not 0; and what a take start leaves, by the refusal that its code found. Assumes nothing.
use Rattle.std.specs.Prelude.{◌≡◌, ◌≢◌, List, ℕ, eqb}
use Rattle.std.proofs.Common.{ap, ◌∙◌, arith, eq-eqb, ne_eqb}
use Rattle.arrival.specs.declared.Shape.{Shape}
use Rattle.arrival.specs.declared.Worker.{Worker}
use Rattle.arrival.specs.declared.refusals.Refusal.{Refusal}
use Rattle.arrival.specs.declared.refusals.Refusal.TheVariants.{BadShape, TooShort, OutOfRange, NoWorker, BadArrival, Busy, Idle, Exhausted, NoNode, AllIdle}
use Rattle.arrival.specs.Refusals.{number}
use Rattle.laws.specs.FirstOf.{first_of}
use Rattle.calendar.specs.rules.Layout.{started}
use Rattle.calendar.specs.rules.Refusals.{no_ticket, dequeue_own}
use Rattle.calendar.specs.rules.Starts.{dequeue_start}
use Rattle.words.specs.Done.{done, refused}
use Rattle.starts.specs.LocalStart.{local_dequeue}

pub some : (refusal : Refusal) → number refusal ≢ 0
some BadShape e = omega arith
some TooShort e = omega arith
some OutOfRange e = omega arith
some NoWorker e = omega arith
some BadArrival e = omega arith
some Busy e = omega arith
some Idle e = omega arith
some Exhausted e = omega arith
some NoNode e = omega arith
some AllIdle e = omega arith

-- by what the code has read: word 1 is x, the refusal k
module _ (sh : Shape) (s : List ℕ) (w : Worker) (x k : ℕ) (word : x ≡ started sh s) (own : k ≡ first_of (dequeue_own w (eqb x 4294967295))) where
  tested : k ≡ first_of (dequeue_own w (no_ticket sh s))
  tested = own ∙ ap (λ y. first_of (dequeue_own w (eqb y 4294967295))) word

  pub take_refused : k ≢ 0 → refused s w k ≡ local_dequeue sh s w
  unfolding local_dequeue
  take_refused h = rw (← tested, ne_eqb k 0 h)

  pub take_begun : k ≡ 0 → done sh s (dequeue_start sh s w) ≡ local_dequeue sh s w
  unfolding local_dequeue
  take_begun z = rw (← tested, eq-eqb k 0 z)
