-- `starts::opening::open_store` writes the layout's words from the front. Assumes nothing.
use Rattle.std.proofs.Common.{◌≡◌, refl, arith}
use Rattle.calendar.specs.rules.Layout.{layout}
use Rattle.calendar.specs.rules.Opening.{open_word, open_store}
use Rattle.laws.specs.Storing.{words_none, words_more}
use Rattle.starts.proofs.opening.open_store.Goals as goal

pub loop-i-init : goal.loop-i-init
loop-i-init c = ((refl, refl), words_none _ _)

pub loop-i-preserved : goal.loop-i-preserved
loop-i-preserved c = (
  c.loop-i.invariant.0,
  cc (
    c.loop-i.invariant.1,
    c.open_word.ensures,
    words_more (open_word c.args.store.now.shape) c.loop-i.i c.args.store.now.words.now
        (omega (arith, c.loop-i-test.true, c.layout_words-i-end.ensures, c.args.store.now.laid.fits)),
  ),
)

pub returns-clause-opened : goal.returns-clause-opened
unfolding open_store
returns-clause-opened c =
    let e : c.loop-i.i ≡ layout c.args.store.now.shape = omega (arith, c.layout_words-i-end.ensures) in cc (e, c.loop-i.invariant.1)
