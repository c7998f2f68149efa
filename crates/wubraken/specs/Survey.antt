-- A look over the workers' records: whether all are in range, and the least ticket in progress of those before the first that is not. Assumes nothing.
use Rattle.std.specs.Prelude.{◌≡◌, List, cond, ltb, length, is_ok, Result, Ok, Err}
use Rattle.std.proofs.Math.Bool.{true}
use Prim.Native.Nat.{ℕ, zero, suc, ◌≤◌}
use Rattle.arrival.specs.declared.Shape.{Shape}
use Rattle.arrival.specs.declared.Worker.{Worker}
use Rattle.arrival.specs.declared.Request.{Request}
use Rattle.arrival.specs.Requests.{looks_at_all}
use Rattle.calendar.specs.rules.Ranges.{shape_in_range, record_in_range, worker}
use Rattle.starts.specs.LeastTicket.{lower}

-- the least ticket, as an error where a record is out of range
abbrev pub Survey : Type 0
Survey = Result ℕ ℕ

-- it, either way
abbrev pub low_of : Survey → ℕ
low_of (Ok low) = low
low_of (Err low) = low

-- nothing looked at yet
unfoldable pub unseen : Survey
unseen = Ok 4294967296

-- one record more, if none before it was out of range
unfoldable pub seen : Shape → Survey → Worker → Survey
seen sh (Ok low) w = cond (record_in_range sh w) (Ok (lower low w)) (Err low)
seen sh (Err low) w = Err low

-- the first n records
unfoldable pub survey_of : Shape → List Worker → ℕ → Survey
survey_of sh t zero = unseen
survey_of sh t (suc n) = seen sh (survey_of sh t n) (worker t n)

-- how many of n records are the workers': all if there are fewer; none in a shape outside its limits
abbrev pub surveyed : Shape → ℕ → ℕ
surveyed sh n = cond (shape_in_range sh) (cond (ltb n sh.workers) n sh.workers) 0

-- how many of them a request looks at: all, or none
abbrev pub looked_at : Shape → Request → ℕ → ℕ
looked_at sh q n = cond (looks_at_all q) (surveyed sh n) 0

abbrev pub survey : Shape → Request → List Worker → Survey
survey sh q t = survey_of sh t (looked_at sh q (length t))

-- What the look tells of the record w of the request's worker.
pub record Surveyed (sh : Shape) (q : Request) (a : Survey) (w : Worker) : Type 0 where
  pub shape : shape_in_range sh ≡ true
  pub ranged : looks_at_all q ≡ true → is_ok a ≡ true → record_in_range sh w ≡ true
  pub low : low_of a ≤ 4294967296
