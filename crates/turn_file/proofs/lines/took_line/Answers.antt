-- The word and the four numbers are stored one behind the other: the runs are joined from the last.
use Rattle.std.proofs.Common.{ap, ◌∙◌, ◌∷◌, [], ◌++◌, ◌+◌, arith}
use Rattle.std.proofs.lemmas.List.Edits.{sets}
use Rattle.laws.specs.Storing.{behind, joined}
use Rattle.turn_file.specs.Decimal.{decimal}
use Rattle.turn_file.specs.Lines.{values, took_line}
use Rattle.turn_file.proofs.LineLaws.{took_size}
use Rattle.turn_file.proofs.Buffer.{cut, stored}
use Rattle.turn_file.proofs.lines.took_line.Goals as goal

pub returns-then-saturating_sub-time_count : goal.returns-then-saturating_sub-time_count
returns-then-saturating_sub-time_count c =
    let a = c.args in
    cut a.out.now a.at (took_line a.time a.path a.order a.energy) (omega (arith, took_size a.time a.path a.order a.energy))

pub returns : goal.returns
returns c =
    let a = c.args in
    let s = a.out.now in
    let word = c.put_word in
    let put1 = c.put_number-path_at in
    let put2 = c.put_number-order_at in
    let put3 = c.put_number-energy_at in
    let put4 = c.put_number in
    let size = took_size a.time a.path a.order a.energy in
    let done = stored s a.at (took_line a.time a.path a.order a.energy) (omega arith) in
    let line4 = decimal a.energy ++ values [] in
    let line3 = decimal a.order ++ values (a.energy ∷ []) in
    let line2 = decimal a.path ++ values (a.order ∷ a.energy ∷ []) in
    let line1 = decimal a.time ++ values (a.path ∷ a.order ∷ a.energy ∷ []) in
    let from3 = joined (decimal a.order) line4 put2.new.out put2.result 32 _ c.digit_count-order_count.ensures.0 put3.ensures.0 put3.ensures.1 put4.ensures.1 in
    let from2 = joined (decimal a.path) line3 put1.new.out put1.result 32 _ c.digit_count-path_count.ensures.0 put2.ensures.0 put2.ensures.1 from3 in
    let from1 = joined (decimal a.time) line2 word.new.out (a.at + 5) 32 _ c.digit_count-time_count.ensures.0 put1.ensures.0 put1.ensures.1 from2 in (
      omega (arith, done.0, put1.ensures.0, put2.ensures.0, put3.ensures.0, put4.ensures.0),
      from1
          ∙ ap (λ t. sets t (a.at + 5) line1) word.ensures
          ∙ behind (116 ∷ 111 ∷ 111 ∷ 107 ∷ 32 ∷ []) line1 s a.at
          ∙ done.1,
    )
