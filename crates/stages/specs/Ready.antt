-- What a stage may count on: the layout, that 2 + word 1 is a word, and the ranges of its record. Assumes nothing.
use Rattle.std.specs.Prelude.{◌≡◌, refl, true, false, List, ℕ, ◌+◌, ◌<◌, length}
use Rattle.std.proofs.Common.{◌∙◌, lit<}
use Rattle.arrival.specs.declared.Shape.{Shape}
use Rattle.arrival.specs.declared.Worker.{Worker}
use Rattle.calendar.specs.rules.Layout.{Place, cell, field, read, write, write_all, address, item_at, successor, unmarked, unlinked_at, started}
use Rattle.calendar.specs.facts.Places.{valid, same}
use Rattle.calendar.proofs.facts.Places.{read_write}
use Rattle.calendar.specs.facts.RangeFacts.{RecordRanges}
use Rattle.calendar.specs.rules.SearchSteps.{unlink}
use Rattle.words.specs.Laid.{Laid, laid_write, cell_in, field_in}

pub record Ready (sh : Shape) (s : List ℕ) (w : Worker) : Type 0 where
  pub laid : Laid sh s
  pub started : started sh s < 4294967296
  pub worker : RecordRanges sh w

-- What the end of a search needs: a node.
pub record Holds (sh : Shape) (s : List ℕ) (n : ℕ) : Type 0 where
  pub laid : Laid sh s
  pub node : n < sh.nodes

pub holds : (sh : Shape) (s : List ℕ) (w : Worker) → Ready sh s w → Holds sh s w.own
holds sh s w r = record { laid = r.laid; node = r.worker.own }

-- A write to a cell, or to a node's standing, leaves the arrival in every node as it was;
module _ (sh : Shape) (s : List ℕ) (p : Place) (v n : ℕ) (ok : valid p ≡ true) (inside : address sh p < length s) where
  apart : (f : ℕ) → valid (field f n) ≡ true → same p (field f n) ≡ false → read sh (write sh s p v) (field f n) ≡ read sh s (field f n)
  apart f k e = rw (read_write sh s p (field f n) v ok k inside, e)

  item_kept : same p (field 1 n) ≡ false → same p (field 2 n) ≡ false → same p (field 3 n) ≡ false → same p (field 4 n) ≡ false → same p (field 5 n) ≡ false
      → item_at sh (write sh s p v) n ≡ item_at sh s n
  item_kept a b c d e = λ i. record {
    time = apart 1 refl a i;
    path = apart 3 refl c i;
    order = apart 4 refl d i;
    distance = apart 5 refl e i;
    ticket = apart 2 refl b i;
  }

-- so does an unlinking.
module _ (sh : Shape) (s : List ℕ) (w : Worker) (l : Laid sh s) (left : w.left < sh.buckets + sh.nodes) (right : w.right < sh.nodes) where
  pub item_unlinked : (n : ℕ) → item_at sh (write_all sh s (unlink sh s w)) n ≡ item_at sh s n
  item_unlinked n =
      let s' = write sh s (cell w.left) (unmarked (successor w.seen)) in
      item_kept sh s' (field 7 w.right) (unlinked_at (started sh s)) n refl
      (field_in sh s' 7 w.right (laid_write sh s _ _ l) (lit< tt) right) refl refl refl refl refl
      ∙ item_kept sh s (cell w.left) (unmarked (successor w.seen)) n refl (cell_in sh s w.left l left) refl refl refl refl refl

  pub holds_unlinked : (n : ℕ) → Holds sh s n → Holds sh (write_all sh s (unlink sh s w)) n
  holds_unlinked n h = record { laid = laid_write sh _ _ _ (laid_write sh s _ _ l); node = h.node }
