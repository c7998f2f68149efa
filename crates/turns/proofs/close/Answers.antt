-- Where there is no last line, none is written.
use Rattle.std.proofs.Common.{◌≡◌, ◌⊎◌, inl, inr, ap, []}
use Rattle.turns.specs.declared.Next.{Next}
use Rattle.turns.specs.declared.Next.TheVariants.{More, Read, End}
use Rattle.turns.specs.TurnsRun.{last_line}
use Rattle.turns.proofs.LastLines.{unclosed}
use Rattle.turns.proofs.close.Goals as goal

none : (next : Next) → (next ≡ More) ⊎ ((next ≡ Read) ⊎ (next ≡ End)) → last_line next ≡ []
none next (inl e) = ap last_line e
none next (inr (inl e)) = ap last_line e
none next (inr (inr e)) = ap last_line e

pub returns-in-More : goal.returns-in-More
returns-in-More c = unclosed _ _ c.args.next (none c.args.next c.in-More.is)
