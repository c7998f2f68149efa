-- What the by-value functions leave, and that it is what the operations of the pool are defined to give.
--     Told, leaves, told             memory and answer after a call: of what the code left, and of an operation's result
--     gave                           memory and response; what is done on one record, put back in the table
--     memory_of, gave_by, SameLent     of what is lent: its memory, that with a response or a refusal, and that it is the same
--     ActsAs, AnswersAs              the claims of a function that does what is requested, and of one that answers it
--     near_by                         whether the records that a request looks at are in range
--     act_on                          refused by 1 to 4, or done; by what the gate said
--     records_opened                  how many records an opening clears, by the number that refuses it
-- Assumes nothing.
use Rattle.std.specs.Prelude.{◌≡◌, List, ℕ, eqb, is_ok}
use Rattle.std.proofs.Math.Bool.{Bool, cond}
use Rattle.arrival.specs.declared.Shape.{Shape}
use Rattle.arrival.specs.declared.Worker.{Worker}
use Rattle.arrival.specs.declared.Response.{Response}
use Rattle.arrival.specs.declared.Request.{Request}
use Rattle.arrival.specs.Responses.{Said, said}
use Rattle.arrival.specs.Requests.{actor, action_of, turns_of, is_whole, looks_at_all}
use Rattle.calendar.specs.rules.Ranges.{record_in_range}
use Rattle.calendar.specs.rules.Operations.{Memory, Result}
use Rattle.calendar.specs.rules.HostHistory.{requested}
use Rattle.words.specs.Done.{Done, unless_refused}
use Rattle.operation.specs.LocalAct.{local_act}
use Rattle.operation.specs.LocalTurns.{local_turns}
use Rattle.wubraken.specs.declared.lent.Lent.{Lent}
use Rattle.wubraken.specs.declared.answers.Answer.{Answer}
use Rattle.wubraken.specs.Answers.{Outcome, responded, answer_of, said_by}
use Rattle.wubraken.specs.Survey.{Survey, low_of}
use Rattle.wubraken.specs.LentGate.{gate_on}

-- ── what a call leaves ──
abbrev pub lent : List ℕ → List Worker → Memory
lent s t = record { store = s; table = t }

-- the memory, the answer, and the number and values that it says
pub record Told : Type 0 where
  pub memory : Memory
  pub answer : Answer
  pub said : Said

abbrev pub leaves : List ℕ → List Worker → Answer → Told
leaves s t a = record { memory = lent s t; answer = a; said = said_by a }

abbrev pub told : Result → Told
told r = record { memory = r.memory; answer = answer_of r.response; said = said r.response }

-- the memory and the response
abbrev pub gave : List ℕ → List Worker → Response → Result
gave s t r = record { memory = lent s t; response = r }

-- of what is lent
abbrev pub memory_of : Lent → Memory
memory_of l = lent l.store.now l.table.now

abbrev pub gave_by : Lent → Outcome → Result
gave_by l r = gave l.store.now l.table.now (responded r)

abbrev pub SameLent : Lent → Lent → Type 0
SameLent a b = (b.shape ≡ a.shape) × (b.store.ghost_name ≡ a.store.ghost_name) × (b.table.ghost_name ≡ a.table.ghost_name)

-- ── a request on a record ──
-- what a function that does what is requested claims of its response and of the last store and table; and one that answers it
abbrev pub ActsAs : Shape → Request → List ℕ → List Worker → Response → List ℕ → List Worker → Type 0
ActsAs sh q s t r s' t' = gave s' t' r ≡ requested sh (lent s t) q

abbrev pub AnswersAs : Shape → Request → List ℕ → List Worker → Answer → List ℕ → List Worker → Type 0
AnswersAs sh q s t a s' t' = leaves s' t' a ≡ told (requested sh (lent s t) q)

-- the records that the request looks at are in range; w is its worker's
abbrev pub near_by : Shape → Request → Survey → Worker → Bool
near_by sh q seen w = cond (looks_at_all q) (is_ok seen) (record_in_range sh w)

-- refused by 1 to 4, or done, with n records lent
unfoldable pub act_on : Shape → Request → ℕ → Survey → List ℕ → Worker → Done
act_on sh q n seen s w =
    unless_refused (gate_on (is_whole q) sh s (actor (action_of q)) n (near_by sh q seen w)) s w
    (local_turns sh (turns_of q) (local_act sh (low_of seen) s (action_of q) w))

-- ── opening ──
-- how many records it clears, by the number k that refuses it, or 0
abbrev pub records_opened : Shape → ℕ → ℕ
records_opened sh k = cond (eqb k 0) sh.workers 0
