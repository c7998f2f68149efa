-- The number is stored behind the word.
use Rattle.std.proofs.Common.{ap, ◌∙◌, List, ◌∷◌, [], ◌++◌, ℕ, ◌+◌, length, arith}
use Rattle.std.proofs.lemmas.List.Edits.{sets}
use Rattle.laws.specs.Storing.{behind}
use Rattle.turn_file.specs.Decimal.{decimal}
use Rattle.turn_file.proofs.LineLaws.{number_size}
use Rattle.turn_file.proofs.Buffer.{cut, stored}
use Rattle.turn_file.proofs.lines.number_line.Goals as goal

pub returns-then-saturating_sub-first : goal.returns-then-saturating_sub-first
returns-then-saturating_sub-first c =
    let a = c.args in
    cut a.out.now a.at (a.word.now ++ (decimal a.x ++ (10 ∷ []))) (omega (arith, number_size a.word.now a.x))

pub returns : goal.returns
returns c =
    let a = c.args in
    let s = a.out.now in
    let word = a.word.now in
    let number : List ℕ = decimal a.x ++ (10 ∷ []) in
    let size = number_size word a.x in
    let done = stored s a.at (word ++ number) (omega arith) in
    let put = c.put_number.ensures in (
      put.0 ∙ omega arith ∙ done.0,
      put.1
          ∙ ap (λ t. sets t (a.at + length word) number) c.put_word.ensures
          ∙ behind word number s a.at
          ∙ done.1,
    )
