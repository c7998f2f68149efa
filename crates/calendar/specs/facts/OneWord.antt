-- One shared word a turn: the word that each stage reads or changes, that a turn depends on no other shared word, and that it
-- writes to no other.
--     current_word_lem, head_word, left_word, right_link     the words that calls share
--     shared_words, shared_word                            the one that the turn of each stage reads or changes
--     SameSeen                                           two stores that agree on it; a turn does the same on both
--     bookkeeping_at, OneWord, AllTo                      what a turn may write: its shared word and bookkeeping
-- Assumes nothing.
use Rattle.std.specs.Prelude.{◌≡◌, ◌≢◌, ◌⊎◌, get_or}
use mathlib.Core.List.{List, [], ◌∷◌, Memᴰ}
use Rattle.std.proofs.Math.Bool.{cond}
use Prim.Native.Nat.{ℕ, ◌≤◌}
use Rattle.std.proofs.Math.Dec.{eqb}
use Rattle.arrival.specs.declared.Shape.{Shape}
use Rattle.arrival.specs.declared.Worker.{Worker}
use Rattle.arrival.specs.Keys.{key_of}
use Rattle.calendar.specs.rules.Layout.{Place, word, cell, field, Write, ◌≔◌, read, started, link_cell, item_at, epoch_at}

-- ── the word ──
-- current, the head of the worker's bucket, its left word, right's link
abbrev pub current_word_lem : Place
current_word_lem = word 0

abbrev pub head_word : Worker → Place
head_word w = cell w.bucket

abbrev pub left_word : Worker → Place
left_word w = cell w.left

abbrev pub right_link : Shape → Worker → Place
right_link sh w = cell (link_cell sh w.right)

-- by stage; at 0 there is no turn
abbrev pub shared_words : Shape → Worker → List Place
shared_words sh w =
    current_word_lem
    -- 1 to 3
    ∷ head_word w ∷ right_link sh w ∷ left_word w
    -- 4 to 7
    ∷ current_word_lem ∷ left_word w ∷ current_word_lem ∷ current_word_lem
    -- 8 to 13
    ∷ current_word_lem ∷ head_word w ∷ right_link sh w ∷ right_link sh w ∷ current_word_lem ∷ current_word_lem
    ∷ []

abbrev pub shared_word : Shape → Worker → Place
shared_word sh w = get_or (shared_words sh w) w.stage current_word_lem

-- What a turn may look at in two stores, and finds the same: its shared word; the bookkeeping of 3, word 1; of nodes that the
-- call stands on (StoodOn) the keys of own node and right at 2, and right's epoch at 10; and the arrival that a take answers,
-- in its own node.
pub record SameSeen (sh : Shape) (w : Worker) (s s' : List ℕ) : Type 0 where
  pub shared : read sh s' (shared_word sh w) ≡ read sh s (shared_word sh w)
  pub calls : w.stage ≡ 3 → started sh s' ≡ started sh s
  pub own : w.stage ≡ 2 → key_of (item_at sh s' w.own) ≡ key_of (item_at sh s w.own)
  pub right : w.stage ≡ 2 → key_of (item_at sh s' w.right) ≡ key_of (item_at sh s w.right)
  pub answer : 1 ≤ w.stage → w.stage ≤ 3 → w.kind ≢ 0 → item_at sh s' w.own ≡ item_at sh s w.own
  pub epoch : w.stage ≡ 10 → epoch_at sh s' w.right ≡ epoch_at sh s w.right

-- ── where a turn writes ──
-- The host's bookkeeping by stage: at 3 the standing of the node that is unlinked, at 4 epoch and link of a put's own node,
-- which nobody else stands on.
abbrev pub bookkeeping_at : ℕ → Shape → Worker → List Place
bookkeeping_at k sh w = cond (eqb k 3) (field 7 w.right ∷ []) (cond (eqb k 4) (field 6 w.own ∷ cell (link_cell sh w.own) ∷ []) [])

abbrev pub OneWord : Shape → Worker → Place → Type 0
OneWord sh w p = (p ≡ shared_word sh w) ⊎ Memᴰ p (bookkeeping_at w.stage sh w)

abbrev pub AllTo : (Place → Type 0) → List Write → Type 0
AllTo P [] = Unit {0}
AllTo P ((p ≔ v) ∷ ws) = P p × AllTo P ws
