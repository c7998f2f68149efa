-- A line that is a word is one run of stores.
use Rattle.std.proofs.Common.{◌∙◌, arith}
use Rattle.turn_file.proofs.Buffer.{cut, stored}
use Rattle.turn_file.proofs.lines.word_line.Goals as goal

pub returns-then-saturating_sub-size : goal.returns-then-saturating_sub-size
returns-then-saturating_sub-size c = cut c.args.out.now c.args.at c.args.word.now (omega arith)

pub returns : goal.returns
returns c =
    let done = stored c.args.out.now c.args.at c.args.word.now (omega arith) in
    (done.0, c.put_word.ensures ∙ done.1)
