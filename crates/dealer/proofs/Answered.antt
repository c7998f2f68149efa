-- What dealing hands back: to the host in numbers, and between functions as a run that has ended.
--     handed_is                       the first gives the second
-- Assumes nothing.
use Rattle.std.specs.Prelude.{◌≡◌, List, ℕ}
use Rattle.std.proofs.Common.{ap, ◌∙◌}
use Rattle.wubraken.specs.Answers.{answer_of}
use Rattle.wubraken.proofs.AnswerLaws.{answer_said}
use Rattle.wubraken.specs.Results.{lent}
use Rattle.arrival.specs.declared.Worker.{Worker}
use Rattle.dealer.specs.declared.answers.Dealt.{Dealt}
use Rattle.dealer.specs.declared.runs.Ended.{Ended}
use Rattle.dealer.specs.Dealing.{Deal}
use Rattle.dealer.specs.Answered.{dealt_of, leaves_deal, hands, handed}

pub handed_is : (s : List ℕ) (t : List Worker) (r : Ended) (a : Dealt) (d : Deal) → leaves_deal s t r ≡ d → a ≡ dealt_of r
    → hands s t a ≡ handed d
handed_is s t r a d leaves-is answers =
    (λ k. hands s t (answers k))
    ∙ (λ k. record {
      told = record { memory = lent s t; answer = answer_of r.response; said = answer_said r.response k };
      dealer = r.last;
      turns = r.made;
    })
    ∙ ap handed leaves-is
