-- Each arm of the loop is a round of the definition, by its lemma in proofs/OpeningRounds, proofs/ActHeld and proofs/OneRecord, each end by proofs/Stopping.
use Rattle.std.proofs.Common.{refl, sym, ap, ◌∙◌, inl, inr, ℕ, set}
use Rattle.std.proofs.lemmas.List.{set-get_or}
use Rattle.calendar.specs.rules.Ranges.{blank, worker}
use Rattle.calendar.specs.rules.Operations.{actor}
use Rattle.turn_file.specs.declared.Record.{Record}
use Rattle.turn_file.specs.declared.Record.TheVariants.{Open, Act}
use Rattle.turn_file.specs.Reading.{whole}
use Rattle.batch.specs.declared.known.Known.{Known}
use Rattle.batch.specs.ActHeld.{place_of}
use Rattle.batch.specs.OneRecord.{holding}
use Rattle.batch.proofs.TicketLaws.{stored_ticket}
use Rattle.batch.proofs.TicketKept.{action_on, kept_ticket}
use Rattle.batch.proofs.RoundArms.{kept, round_of_lem, known, nearer}
use Rattle.batch.proofs.OpeningRounds.{held_opening}
use Rattle.batch.proofs.ActHeld.{admits, held_known}
use Rattle.batch.proofs.OneRecord.{with_table, goes_on}
use Rattle.batch.proofs.Stopping.{stopped}
use Rattle.batch.proofs.run_batch.Goals as goal
use Rattle.batch.proofs.run_batch.Goals.{then-not-keeps_ticket, else-not-keeps_ticket}
use Rattle.batch.proofs.run_batch.Goals.{then-not-has_room, else-not-has_room+in-Ok-None, else-not-has_room+in-Err}

pub loop-tickets-smaller-in-Open : goal.loop-tickets-smaller-in-Open
loop-tickets-smaller-in-Open c = nearer _ _ _ (rw c.in-Ok-Some.field-0-is at c.in-Ok-Some.ensures) _ _ refl

pub loop-tickets-preserved-in-Open : goal.loop-tickets-preserved-in-Open
loop-tickets-preserved-in-Open c =
    let inv = c.loop-tickets.invariant in
    let fits = sym c.has_room.ensures ∙ c.if-not-has_room.false in
    let next = c.in-Ok-Some.next in
    let read = known _ _ _ (rw c.in-Ok-Some.field-0-is at c.in-Ok-Some.ensures) (Open c.in-Open.shape) next (ap (λ (r : Record). whole r next) c.in-Open.is) in
    let opened = c.open-opened.ensures in
    let (R, tickets, records) = held_opening inv.round fits _ _ _ _ _ read opened.refused _ opened.opened c.write_opening-to.ensures inv.tickets _
    opened.known _ opened.beside in
    record { round = R; tickets = tickets; records = records ∙ inv.records }

pub act-requires-clause-admitted : goal.act-requires-clause-admitted
unfolding blank
act-requires-clause-admitted c = admits c.loop-tickets.invariant.round c.in-Act.action _ c.place_of-i.ensures.0 _ (actor c.in-Act.action) refl refl

pub loop-tickets-smaller-after-not-keeps_ticket : goal.loop-tickets-smaller-after-not-keeps_ticket
loop-tickets-smaller-after-not-keeps_ticket c = nearer _ _ _ (rw c.in-Ok-Some.field-0-is at c.in-Ok-Some.ensures) _ _ refl

-- answered On it has the ticket that it had
pub loop-tickets-preserved-after-not-keeps_ticket : goal.loop-tickets-preserved-after-not-keeps_ticket
unfolding blank
loop-tickets-preserved-after-not-keeps_ticket c =
    let inv = c.loop-tickets.invariant in
    let fits = sym c.has_room.ensures ∙ c.if-not-has_room.false in
    let a = c.in-Act.action in
    let next = c.in-Ok-Some.next in
    let read = known _ _ _ (rw c.in-Ok-Some.field-0-is at c.in-Ok-Some.ensures) (Act a) next (ap (λ (r : Record). whole r next) c.in-Act.is) in
    let done = c.in-Ok.ensures in
    let place = c.place_of-i.ensures.0 in
    record {
      round = held_known inv.round a _ place _ (actor a) refl refl fits _ read _ inv.tickets _ c.in-Ok.reply _ _ c.write_line-to.ensures
          done.gives _ done.known;
      tickets = elim c.if-not-keeps_ticket.branch [
        | then-not-keeps_ticket w ↦ rw w.tickets-is (stored_ticket _ _ _ inv.tickets _ w.lower_ticket.ensures)
        | else-not-keeps_ticket w ↦
            let on = c.keeps_ticket.ensures w.if-not-keeps_ticket.false in
            rw w.tickets-is
            (kept_ticket _ _ _ inv.tickets (action_on _ _ _ a _ _ (admits inv.round a _ place _ (actor a) refl refl) _ c.in-Ok.reply done.gives on))
      ];
      records = ap (λ (n : Known). n.records) done.known ∙ inv.records;
    }

pub loop-tickets-smaller : goal.loop-tickets-smaller
loop-tickets-smaller c = nearer _ _ _ (rw c.in-Ok-Some.field-0-is at c.in-Ok-Some.ensures) _ _ refl

-- refused: the record at its place is as it was
pub loop-tickets-preserved : goal.loop-tickets-preserved
unfolding blank
loop-tickets-preserved c =
    let inv = c.loop-tickets.invariant in
    let fits = sym c.has_room.ensures ∙ c.if-not-has_room.false in
    let t = c.loop-tickets.table in
    let a = c.in-Act.action in
    let i = place_of a in
    let next = c.in-Ok-Some.next in
    let read = known _ _ _ (rw c.in-Ok-Some.field-0-is at c.in-Ok-Some.ensures) (Act a) next (ap (λ (r : Record). whole r next) c.in-Act.is) in
    let D = with_table (holding c.act.new.self t) _ _
    (c.in-Err-act.ensures.does t (kept inv.round) (ap (worker t) c.place_of-i.ensures.0) inv.tickets) t
    (sym (ap (λ (j : ℕ). set t i (worker t j)) c.place_of-i.ensures.0 ∙ set-get_or t i blank)) in
    record {
      round = round_of_lem _ _ _ _ _ _ _ _ _ (goes_on inv.round.going fits _ next read D (rw c.number.ensures at c.write_refusal-to.ensures))
          D.sound.0 D.sound.1 D.sound.3;
      tickets = inv.tickets;
      records = D.records ∙ inv.records;
    }

pub returns : goal.returns
returns c =
    let inv = c.loop-tickets.invariant in
    let room = c.has_room.ensures in
    elim c.if-not-has_room.branch [
      | then-not-has_room w ↦
          let (same, sound, records, held) = stopped inv.round {A = Unit {0}} {B = ⊥} {C = ⊥} (inl tt)
          (λ x. (sym room ∙ w.if-not-has_room.true, w.stop-is))
          (λ x. absurd x)
          (λ x. absurd x)
          refl in
          (same, sound, records ∙ inv.records, held)
      | else-not-has_room+in-Ok-None w ↦
          let (same, sound, records, held) = stopped inv.round {A = ⊥} {B = Unit {0}} {C = ⊥} (inr (inl tt))
          (λ x. absurd x)
          (λ x. (sym room ∙ w.if-not-has_room.false, rw w.in-Ok-None.field-0-is at w.in-Ok-None.ensures, w.stop-is))
          (λ x. absurd x)
          refl in
          (same, sound, records ∙ inv.records, held)
      | else-not-has_room+in-Err w ↦
          let (same, sound, records, held) = stopped inv.round {A = ⊥} {B = ⊥} {C = Unit {0}} (inr (inr tt))
          (λ x. absurd x)
          (λ x. absurd x)
          (λ x. (w.in-Err.why, sym room ∙ w.if-not-has_room.false, w.in-Err.ensures, w.stop-is))
          refl in
          (same, sound, records ∙ inv.records, held)
    ]
