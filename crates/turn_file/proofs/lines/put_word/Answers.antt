-- What is copied over a part is stored there.
use Rattle.std.proofs.Common.{◌∙◌, sym, refl, length, append_assoc, ◌+◌, ◌-◌, take, drop, arith}
use Rattle.std.proofs.lemmas.Slice.{put_mid-paste}
use Rattle.std.proofs.lemmas.List.Edits.{paste_all, sets-eq}
use Rattle.turn_file.proofs.lines.put_word.Goals as goal

pub returns : goal.returns
returns c =
    let a = c.args in
    let n = length a.word.now in
    put_mid-paste a.at (a.at + n - a.at) a.out.now _ a.word.now n c.copy_from_slice.ensures.after (omega arith) refl
    ∙ paste_all a.out.now a.at a.word.now n refl
    ∙ sym (append_assoc (take a.at a.out.now) a.word.now (drop (a.at + n) a.out.now))
    ∙ sym (sets-eq a.word.now a.out.now a.at c.requires)
