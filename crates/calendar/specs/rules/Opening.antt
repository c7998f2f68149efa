-- Opening: the store and the table that it leaves. Assumes nothing.
use Rattle.std.specs.Prelude.{List, ◌++◌, cond, ◌&&◌, ℕ, ◌+◌, ◌-◌, eqb, leb, ltb, drop, replicate}
use Rattle.arrival.specs.declared.Shape.{Shape}
use Rattle.arrival.specs.declared.Worker.{Worker}
use Rattle.laws.specs.Lists.{words_from}
use Rattle.calendar.specs.rules.Layout.{layout, unmarked}
use Rattle.calendar.specs.rules.Ranges.{blank}

-- word 0 and 1 are 0, word 2 is nodes − 1, heads are end, all node words 0
abbrev pub open_word : Shape → ℕ → ℕ
open_word sh i = cond (eqb i 2) (sh.nodes - 1) (cond (leb 3 i && ltb i (3 + sh.buckets)) (unmarked sh.nodes) 0)

-- the layout's words, one by one (laws/Lists: `words_from`); what lies beyond stays
unfoldable pub open_store : Shape → List ℕ → List ℕ
open_store sh s = words_from (open_word sh) 0 (layout sh) ++ drop (layout sh) s

-- all worker fields 0; records beyond the workers stay
unfoldable pub open_table : Shape → List Worker → List Worker
open_table sh t = replicate sh.workers blank ++ drop sh.workers t
