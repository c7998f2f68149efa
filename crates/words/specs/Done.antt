-- What a start or turn leaves of the store, the worker's record and the response: by a rule's outcome, and by a refusal. Assumes nothing.
use Rattle.std.specs.Prelude.{cond, List, ℕ, eqb, Result, Ok, Err}
use Rattle.arrival.specs.declared.Shape.{Shape}
use Rattle.arrival.specs.declared.Worker.{Worker}
use Rattle.arrival.specs.Refusals.{number}
use Rattle.arrival.specs.declared.refusals.Refusal.{Refusal}
use Rattle.arrival.specs.declared.Response.{Response}
use Rattle.arrival.specs.declared.Response.TheVariants.{Refused}
use Rattle.calendar.specs.rules.Layout.{write_all}
use Rattle.calendar.specs.rules.Outcome.{Outcome}
use Rattle.words.specs.declared.replies.Reply.{Reply}
use Rattle.words.specs.declared.store.Store.{Store}

pub record Done : Type 0 where
  pub store : List ℕ
  pub worker : Worker
  pub response : Response

-- the outcome's writes on store s
abbrev pub done : Shape → List ℕ → Outcome → Done
done sh s o = record { store = write_all sh s o.writes; worker = o.worker; response = o.response }

-- the store s with what the code hands back
abbrev pub gives : List ℕ → Reply → Done
gives s r = record { store = s; worker = r.worker; response = r.response }

abbrev pub refuses : Worker → ℕ → Reply
refuses w k = record { worker = w; response = Refused k }

-- of a start or turn of record w, or of its refusal
abbrev pub reply_of : Worker → Result Reply Refusal → Reply
reply_of w (Ok reply) = reply
reply_of w (Err refusal) = refuses w (number refusal)

-- the same of a laid store: what is left in it, and what a rule leaves by it
abbrev pub left : Store → Reply → Done
left store r = gives store.words.now r

abbrev pub by : (Shape → List ℕ → Worker → Outcome) → Store → Worker → Done
by rule store w = done store.shape store.words.now (rule store.shape store.words.now w)

-- refused by number k
abbrev pub refused : List ℕ → Worker → ℕ → Done
refused s w k = record { store = s; worker = w; response = Refused k }

-- refused by number k, or k is 0
abbrev pub unless_refused : ℕ → List ℕ → Worker → Done → Done
unless_refused k s w d = cond (eqb k 0) d (refused s w k)
