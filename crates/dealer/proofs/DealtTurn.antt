-- One dealt turn, on any memory.
--     able_size, able_tests     so where lengths stay; so by the tests
--     turn_actor                a dealt turn is a turn of the worker that it is dealt to
--     dealt_served              without a refusal the next is served
--     deal_passed               without a refusal somebody has a call in progress
--     dealt_unless_3            where somebody has, and 1, 2 and 4 do not apply, only 3 is left
--     able_moved                they do not apply after a request or a dealt turn either
-- Assumes nothing.
use Rattle.std.specs.Prelude.{◌≡◌, refl, Bool, true, false, cond, ◌≢◌, ℕ, ◌<◌, eqb}
use Rattle.std.proofs.Common.{arith}
use borrow.Author.Tests.{eqb-true, leb-false, lt-leb}
use Rattle.arrival.specs.declared.Shape.{Shape}
use Rattle.arrival.specs.declared.Response.TheVariants.{Refused}
use Rattle.laws.specs.Tests.{by_test}
use Rattle.laws.specs.FirstOf.{first_of, first_none}
use Rattle.calendar.specs.rules.Refusals.{too_short, memory_tests}
use Rattle.calendar.specs.rules.Operations.{Memory, actor}
use Rattle.calendar.specs.rules.HostHistory.{requested, action_of}
use Rattle.calendar.specs.facts.Untouched.{SameSize}
use Rattle.dealer.specs.Dealing.{Deal, next_served, all_idle, deal_out, deal_tests, deal_refusal, turn_of, serving, dealt}
use Rattle.dealer.specs.DealtHistory.{Move, asks, deals, moved}
use Rattle.dealer.proofs.Served.{served_busy}
use Rattle.dealer.proofs.RequestLaws.{request_same_size}
use Rattle.dealer.specs.DealtTurn.{Able}

pub able_size : (sh : Shape) (m n : Memory) (last next : ℕ) → Able sh m last → SameSize m n → next < sh.workers → Able sh n next
able_size sh m n last next A S l = record { shape = A.shape; long = rw (S.store, S.table) A.long; exists = l }

pub able_tests : (sh : Shape) (m : Memory) (last : ℕ) (out : Bool) → first_of (memory_tests sh (too_short sh m.store m.table) out last) ≡ 0
    → Able sh m last
able_tests sh m last out e =
    let (one, (two, (three, (four, rest)))) = first_none (memory_tests sh (too_short sh m.store m.table) out last) refl e in
    record { shape = one; long = two; exists = leb-false sh.workers last four }

pub turn_actor : (whole : Bool) (i : ℕ) → actor (action_of (turn_of whole i)) ≡ i
turn_actor true i = refl
turn_actor false i = refl

-- ── served ──
pub dealt_served : (whole : Bool) (sh : Shape) (m : Memory) (last : ℕ) → deal_refusal whole sh m last ≡ 0
    → let j = next_served sh m.table last in dealt whole sh m last ≡ serving j (requested sh m (turn_of whole j))
unfolding dealt
dealt_served whole sh m last e = rw e

pub deal_passed : (whole : Bool) (sh : Shape) (m : Memory) (last : ℕ) → deal_refusal whole sh m last ≡ 0 → all_idle sh m.table last ≡ false
unfolding deal_refusal
deal_passed whole sh m last e =
    let (one, (two, (three, (four, (sixteen, rest))))) = first_none (deal_tests whole sh m last) refl e in sixteen

module _ (whole : Bool) (sh : Shape) (m : Memory) (last : ℕ) (A : Able sh m last) where
  only_3 : all_idle sh m.table last ≡ false → deal_refusal whole sh m last ≡ cond (deal_out whole sh m last) 3 0
  unfolding deal_refusal
  only_3 some = rw (A.shape, A.long, lt-leb sh.workers last A.exists, some)

  answers_3 : deal_refusal whole sh m last ≡ 3 → (dealt whole sh m last).response ≡ Refused 3
  unfolding dealt
  answers_3 e = rw e

  pub dealt_unless_3 : all_idle sh m.table last ≡ false → (dealt whole sh m last).response ≢ Refused 3 → deal_refusal whole sh m last ≡ 0
  dealt_unless_3 some not-3 = go (deal_out whole sh m last) (only_3 some)
    where
      go : (out : Bool) → deal_refusal whole sh m last ≡ cond out 3 0 → deal_refusal whole sh m last ≡ 0
      go true e = absurd (not-3 (answers_3 e))
      go false e = e

  able_dealt : Able sh (dealt whole sh m last).memory (dealt whole sh m last).dealer
  unfolding dealt
  able_dealt =
      by_test (λ (r : Deal). Able sh r.memory r.dealer) (eqb (deal_refusal whole sh m last) 0)
      (λ e. let j = next_served sh m.table last in
      able_size sh m (requested sh m (turn_of whole j)).memory last j A (request_same_size sh m (turn_of whole j))
      (served_busy sh m.table last (omega (arith, A.exists)) (deal_passed whole sh m last (eqb-true _ 0 e))).0)
      (λ e. A)

pub able_moved : (sh : Shape) (m : Memory) (last : ℕ) (x : Move) → Able sh m last → Able sh (moved sh m last x).memory (moved sh m last x).dealer
able_moved sh m last (asks q) A = able_size sh m (requested sh m q).memory last last A (request_same_size sh m q) A.exists
able_moved sh m last (deals whole) A = able_dealt whole sh m last A
