-- `turns::deal_lent`: the run that has just begun is sound, and wants the whole of it. Assumes nothing.
--     begins    with what the look over the records finds, it is the run that begins
use Rattle.std.proofs.Common.{◌≡◌, sym, ap, subst, ◌∙◌, ℕ, List, length, is_ok}
use Rattle.arrival.specs.declared.Request.{Request}
use Rattle.arrival.specs.declared.Worker.{Worker}
use Rattle.wubraken.specs.Survey.{Survey, survey}
use Rattle.dealer.specs.declared.asks.Ask.{Ask}
use Rattle.dealer.specs.Dealing.{turn_of}
use Rattle.dealer.specs.Looks.{is_whole}
use Rattle.dealer.specs.Runs.{Run, begun}
use Rattle.dealer.specs.DealLoop.{ok_of}
use Rattle.dealer.specs.Tour.{Sound, wanted}
use Rattle.dealer.proofs.Tour.{sound_start, wanted_start}
use Rattle.dealer.proofs.turns.deal_lent.Goals as goal

begins : (a : Ask) (s : List ℕ) (t : List Worker) (look : Request) (seen : Survey) (x : Run) → look ≡ turn_of (is_whole a.look) 0
    → seen ≡ survey a.shape look t → x ≡ begun a s (length t) (is_ok seen) → x ≡ begun a s (length t) (ok_of (is_whole a.look) a.shape t)
begins a s t look seen x e f g =
    g ∙ (λ j. begun a s (length t) (is_ok (f j))) ∙ (λ j. begun a s (length t) (is_ok (survey a.shape (e j) t)))

pub deal_turns-requires : goal.deal_turns-requires
deal_turns-requires c =
    let a = c.args in
    subst (λ (x : Run). Sound x a.store.now a.table.now)
    (sym (begins a.ask a.store.now a.table.now _ _ _ c.request.ensures c.survey_table-seen.ensures c.begin-start.ensures))
    (sound_start a.ask a.store.now a.table.now)

pub returns : goal.returns
returns c =
    let a = c.args in
    c.deal_turns.ensures
    ∙ ap (λ (x : Run). wanted x a.store.now a.table.now)
    (begins a.ask a.store.now a.table.now _ _ _ c.request.ensures c.survey_table-seen.ensures c.begin-start.ensures)
    ∙ wanted_start a.ask a.store.now a.table.now
