-- What dealing hands back: to the host in numbers, and between functions as a run that has ended.
--     dealt_of                         of a run that has ended, in numbers
--     leaves_deal                      memory and what a run has, as a `Deal`
--     Handed, hands, handed           the same in numbers: of what the code left, and of a `Deal`
-- Assumes nothing.
use Rattle.std.specs.Prelude.{List, ℕ}
use Rattle.wubraken.specs.Answers.{answer_of}
use Rattle.wubraken.specs.Results.{lent, Told, leaves, told}
use Rattle.arrival.specs.declared.Worker.{Worker}
use Rattle.dealer.specs.declared.answers.Dealt.{Dealt}
use Rattle.dealer.specs.declared.runs.Ended.{Ended}
use Rattle.dealer.specs.Dealing.{Deal}

abbrev pub dealt_of : Ended → Dealt
dealt_of r = record { dealer = r.last; turns = r.made; answer = answer_of r.response }

-- store and table, and what the run has
abbrev pub leaves_deal : List ℕ → List Worker → Ended → Deal
leaves_deal s t r = record { memory = lent s t; dealer = r.last; turns = r.made; response = r.response }

-- memory and answer, with the number and the values that it says; the dealer and the turns
pub record Handed : Type 0 where
  pub told : Told
  pub dealer : ℕ
  pub turns : ℕ

abbrev pub hands : List ℕ → List Worker → Dealt → Handed
hands s t r = record { told = leaves s t r.answer; dealer = r.dealer; turns = r.turns }

abbrev pub handed : Deal → Handed
handed d = record { told = told (record { memory = d.memory; response = d.response }); dealer = d.dealer; turns = d.turns }
