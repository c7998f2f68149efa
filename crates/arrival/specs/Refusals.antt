-- The refusals by their numbers. Assumes nothing.
--     number                 a refusal's
--     refusal_of             what refuses, by its number, or 0
use Rattle.std.specs.Prelude.{ℕ, Result, Ok, Err}
use Rattle.arrival.specs.declared.refusals.Refusal.{Refusal}
use Rattle.arrival.specs.declared.refusals.Refusal.TheVariants.{BadShape, TooShort, OutOfRange, NoWorker, BadArrival, Busy, Idle, Exhausted, NoNode, AllIdle}

abbrev pub number : Refusal → ℕ
number BadShape = 1
number TooShort = 2
number OutOfRange = 3
number NoWorker = 4
number BadArrival = 5
number Busy = 9
number Idle = 10
number Exhausted = 11
number NoNode = 12
number AllIdle = 16

abbrev pub refusal_of : {A : Type 0} → Result A Refusal → ℕ
refusal_of (Ok a) = 0
refusal_of (Err refusal) = number refusal
