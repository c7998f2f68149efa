-- By what the first bytes are.
use Rattle.std.proofs.Common.{rules, ◌≡◌, ◌∙◌, ◌<◌, ◌≤◌, ◌-◌, length, take, drop, arith, Err}
use Rattle.turn_file.specs.declared.Unreadable.TheVariants.{CutRecord}
use Rattle.turn_file.specs.Records.{OP, PU, TA, TU, size_of}
use Rattle.turn_file.specs.Reading.{fields_at, record_at}
use Rattle.turn_file.proofs.Leftover.{one_left, unknown_left, cut_left, whole_left}
use Rattle.turn_file.proofs.read_record.Goals as goal
use Rattle.turn_file.proofs.read_record.Goals.{in-OP+in_ok-front-in-OP, in-PU+in_ok-front-in-PU, in-TA+in_ok-front-in-TA, in-TU+in_ok-front-in-TU}

pub returns-then-bytes-at : goal.returns-then-bytes-at
unfolding record_at
returns-then-bytes-at c = search rules

pub returns-in_err-front : goal.returns-in_err-front
returns-in_err-front c =
    let why : c.from_residual.result ≡ Err CutRecord = search rules in
    why ∙ one_left c.args.bytes.now c.args.at (omega arith) (omega (arith, c.in_err-front.ensures))

-- the letters are a mark, and the fields behind it are cut
pub returns-in_err-front-in-OP : goal.returns-in_err-front-in-OP
unfolding size_of
returns-in_err-front-in-OP c =
    let why : c.from_residual-in_err-front-in-OP.result ≡ Err CutRecord = search rules in
    why ∙ cut_left c.args.bytes.now c.args.at (omega arith) OP (omega arith) (omega (arith, c.in_ok-front.ensures)) (search rules)
    (omega (arith, c.in_err-front-in-OP.ensures))

pub returns-in_err-front-in-PU : goal.returns-in_err-front-in-PU
unfolding size_of
returns-in_err-front-in-PU c =
    let why : c.from_residual-in_err-front-in-PU.result ≡ Err CutRecord = search rules in
    why ∙ cut_left c.args.bytes.now c.args.at (omega arith) PU (omega arith) (omega (arith, c.in_ok-front.ensures)) (search rules)
    (omega (arith, c.in_err-front-in-PU.ensures))

pub returns-in_err-front-in-TA : goal.returns-in_err-front-in-TA
unfolding size_of
returns-in_err-front-in-TA c =
    let why : c.from_residual-in_err-front-in-TA.result ≡ Err CutRecord = search rules in
    why ∙ cut_left c.args.bytes.now c.args.at (omega arith) TA (omega arith) (omega (arith, c.in_ok-front.ensures)) (search rules)
    (omega (arith, c.in_err-front-in-TA.ensures))

pub returns-in_err-front-in-TU : goal.returns-in_err-front-in-TU
unfolding size_of
returns-in_err-front-in-TU c =
    let why : c.from_residual-in_err-front-in-TU.result ≡ Err CutRecord = search rules in
    why ∙ cut_left c.args.bytes.now c.args.at (omega arith) TU (omega arith) (omega (arith, c.in_ok-front.ensures)) (search rules)
    (omega (arith, c.in_err-front-in-TU.ensures))

-- they are none
pub returns-in_default : goal.returns-in_default
unfolding size_of
returns-in_default c = unknown_left c.args.bytes.now c.args.at (omega arith) (omega (arith, c.in_ok-front.ensures)) (search rules)

pub returns-in_default-2 : goal.returns-in_default-2
unfolding size_of
returns-in_default-2 c = unknown_left c.args.bytes.now c.args.at (omega arith) (omega (arith, c.in_ok-front.ensures)) (search rules)

pub returns-in_default-3 : goal.returns-in_default-3
unfolding size_of
returns-in_default-3 c = unknown_left c.args.bytes.now c.args.at (omega arith) (omega (arith, c.in_ok-front.ensures)) (search rules)

pub returns-in_default-4 : goal.returns-in_default-4
unfolding size_of
returns-in_default-4 c = unknown_left c.args.bytes.now c.args.at (omega arith) (omega (arith, c.in_ok-front.ensures)) (search rules)

-- every byte of a record is there
pub returns : goal.returns
unfolding size_of fields_at
returns c =
    let s = c.args.bytes.now in
    let at = c.args.at in
    let some : at < length s = omega arith in
    let two : 2 ≤ length (take (length s - at) (drop at s)) = omega (arith, c.in_ok-front.ensures) in
    elim c.match-branch-offset0.branch [
      | in-OP+in_ok-front-in-OP w ↦ rw w.record-is
          ((search rules) ∙ whole_left s at some OP (omega arith) two (search rules) (omega (arith, w.in_ok-front-in-OP.ensures)))
      | in-PU+in_ok-front-in-PU w ↦ rw w.record-is
          ((search rules) ∙ whole_left s at some PU (omega arith) two (search rules) (omega (arith, w.in_ok-front-in-PU.ensures)))
      | in-TA+in_ok-front-in-TA w ↦ rw w.record-is
          ((search rules) ∙ whole_left s at some TA (omega arith) two (search rules) (omega (arith, w.in_ok-front-in-TA.ensures)))
      | in-TU+in_ok-front-in-TU w ↦ rw w.record-is
          ((search rules) ∙ whole_left s at some TU (omega arith) two (search rules) (omega (arith, w.in_ok-front-in-TU.ensures)))
    ]
