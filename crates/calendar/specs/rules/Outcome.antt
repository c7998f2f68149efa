-- What a start or turn gives: what it writes to the store, the worker's record and the response. Assumes nothing.
use Rattle.std.specs.Prelude.{List, ℕ}
use Rattle.arrival.specs.declared.Worker.{Worker}
use Rattle.arrival.specs.declared.Response.{Response}
use Rattle.arrival.specs.declared.Response.TheVariants.{On}
use Rattle.calendar.specs.rules.Layout.{Write}

pub record Outcome : Type 0 where
  pub writes : List Write
  pub worker : Worker
  pub response : Response

-- a record with one field changed
abbrev pub with_stage : ℕ → Worker → Worker
with_stage x w =
    record { stage = x; kind = w.kind; own = w.own; bucket = w.bucket; left = w.left; right = w.right; seen = w.seen; current = w.current; ticket = w.ticket }

abbrev pub with_own : ℕ → Worker → Worker
with_own x w =
    record { stage = w.stage; kind = w.kind; own = x; bucket = w.bucket; left = w.left; right = w.right; seen = w.seen; current = w.current; ticket = w.ticket }

abbrev pub with_bucket : ℕ → Worker → Worker
with_bucket x w =
    record { stage = w.stage; kind = w.kind; own = w.own; bucket = x; left = w.left; right = w.right; seen = w.seen; current = w.current; ticket = w.ticket }

abbrev pub with_left : ℕ → Worker → Worker
with_left x w =
    record { stage = w.stage; kind = w.kind; own = w.own; bucket = w.bucket; left = x; right = w.right; seen = w.seen; current = w.current; ticket = w.ticket }

abbrev pub with_right : ℕ → Worker → Worker
with_right x w =
    record { stage = w.stage; kind = w.kind; own = w.own; bucket = w.bucket; left = w.left; right = x; seen = w.seen; current = w.current; ticket = w.ticket }

abbrev pub with_seen : ℕ → Worker → Worker
with_seen x w =
    record { stage = w.stage; kind = w.kind; own = w.own; bucket = w.bucket; left = w.left; right = w.right; seen = x; current = w.current; ticket = w.ticket }

abbrev pub with_current : ℕ → Worker → Worker
with_current x w =
    record { stage = w.stage; kind = w.kind; own = w.own; bucket = w.bucket; left = w.left; right = w.right; seen = w.seen; current = x; ticket = w.ticket }

-- The call goes on at stage k.
abbrev pub on : List Write → ℕ → Worker → Outcome
on ws k w = record { writes = ws; worker = with_stage k w; response = On }

-- The call is answered: stage 0.
abbrev pub answer : List Write → Worker → Response → Outcome
answer ws w r = record { writes = ws; worker = with_stage 0 w; response = r }
