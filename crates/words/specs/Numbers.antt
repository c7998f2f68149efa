-- The numbers of the first words and of a node's. Assumes nothing.
use Rattle.std.specs.Prelude.{ℕ}
use Rattle.words.specs.declared.word.Word.{Word}
use Rattle.words.specs.declared.word.Word.TheVariants.{Current, Started, LastNode}
use Rattle.words.specs.declared.field.Field.{Field}
use Rattle.words.specs.declared.field.Field.TheVariants.{Link, Time, Ticket, Path, Order, Distance, Epoch, Standing}

abbrev pub word_number : Word → ℕ
word_number Current = 0
word_number Started = 1
word_number LastNode = 2

abbrev pub field_number : Field → ℕ
field_number Link = 0
field_number Time = 1
field_number Ticket = 2
field_number Path = 3
field_number Order = 4
field_number Distance = 5
field_number Epoch = 6
field_number Standing = 7
