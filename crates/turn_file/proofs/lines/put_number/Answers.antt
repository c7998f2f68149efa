use Rattle.std.proofs.Common.{◌≡◌, refl, sym, ap, ◌∙◌, ◌+◌, ◌/◌, ◌%◌, length, set, arith}
use Rattle.std.proofs.lemmas.List.Edits.{sets}
use Rattle.laws.specs.Storing.{last_first}
use Rattle.turn_file.specs.Decimal.{decimal}
use Rattle.turn_file.proofs.Decimal.{decimal_one, decimal_more, length_more, decimal_least}
use Rattle.turn_file.proofs.lines.put_number.Goals as goal

pub overflow_sub-place : goal.overflow_sub-place
overflow_sub-place c = omega (arith, decimal_least c.loop-rest.rest)

pub loop-rest-preserved : goal.loop-rest-preserved
loop-rest-preserved c =
    let l = c.loop-rest in
    let at = c.args.at in
    let shorter : length (decimal l.rest) ≡ length (decimal (l.rest / 10)) + 1 = length_more l.rest c.loop-rest-test.true in
    record {
      place = omega arith;
      within = omega arith;
      stored = ap (λ k. sets (set l.out k (48 + l.rest % 10)) at (decimal (l.rest / 10))) (omega arith)
          ∙ sym (last_first (decimal (l.rest / 10)) l.out at (48 + l.rest % 10))
          ∙ ap (sets l.out at) (sym (decimal_more l.rest c.loop-rest-test.true))
          ∙ l.invariant.stored;
    }

pub returns : goal.returns
returns c =
    let l = c.loop-rest in
    let a = c.args in (
      refl,
      sym (ap (sets l.out a.at) (decimal_one l.rest c.loop-rest-test.false))
          ∙ l.invariant.stored
          ∙ ap (λ k. sets (set a.out.now (a.at + k) a.behind) a.at (decimal a.x)) c.requires.0
          ∙ sym (last_first (decimal a.x) a.out.now a.at a.behind),
    )
