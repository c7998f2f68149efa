-- Of a store that has the layout's words, whatever lies behind them is not read.
--     same     each word of the layout is the same on a longer store
-- Assumes nothing.
use Rattle.std.specs.Prelude.{◌≡◌, length}
use Rattle.std.proofs.Common.{arith}
use mathlib.Core.List.{List, ◌++◌}
use Prim.Native.Nat.{ℕ, ◌<◌, ◌≤◌}
use Rattle.std.proofs.Math.ListN.{get_or-append}
use Rattle.arrival.specs.declared.Shape.{Shape}
use Rattle.calendar.specs.rules.Layout.{Place, address, layout, read}

module _ (sh : Shape) (s v : List ℕ) (long : layout sh ≤ length s) where
  pub same : (p : Place) → address sh p < layout sh → read sh (s ++ v) p ≡ read sh s p
  unfolding read
  same p h = get_or-append s v 0 (address sh p) (omega arith)
