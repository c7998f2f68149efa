-- What every write to a store keeps: its shape, and that it is the same lent memory. Assumes nothing.
use Rattle.std.specs.Prelude.{◌≡◌}
use Rattle.words.specs.declared.store.Store.{Store}

abbrev pub Kept : Store → Store → Type 0
Kept a b = (b.words.ghost_name ≡ a.words.ghost_name) × (b.shape ≡ a.shape)
