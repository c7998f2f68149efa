-- `starts::begin_enqueue` is a put start. Assumes nothing.
use Rattle.calendar.specs.rules.Starts.{enqueue_start}
use Rattle.starts.proofs.begin_enqueue.Goals as goal

pub returns-clause-begun : goal.returns-clause-begun
unfolding enqueue_start
returns-clause-begun c =
    rw (
      c.fill_node.ensures.filled,
      c.bucket_of.ensures,
      c.item_of-x.ensures,
      c.set_word.ensures.written,
      c.fill_node.ensures.kept.1,
      c.set_word.ensures.kept.1,
      c.next_ticket-ticket.ensures.kept.1,
      c.next_ticket-ticket.ensures.counted,
      c.next_ticket-ticket.ensures.next,
    )
