-- What no operation changes: a refused one changes nothing; words beyond the layout, records beyond the workers and the
-- records of other workers stay; lengths stay.
--     refused                                           an operation that answers a refusal leaves the memory as it was, whatever refuses it
--     rule_said, outcome_said                           what its own tests let pass answers no refusal; so what is accepted does not
--     act_refused_untouched, open_refused_untouched     what is refused changes nothing
--     by_refusal                                        what holds of the memory as it was, and after the operation, holds whatever refuses it
--     perform_size, perform_beyond                      a worker's outcome keeps both, where it writes in the layout
--     act_same_size                                     starts and turns keep the first
--     rule_inside, outcome_inside                       an action that its own tests let pass, or that is accepted, writes in the layout
--     act_same_beyond                                   starts and turns keep the second
--     others_untouched                                  other workers' records stay
--     open_same_size, open_same_beyond                  the opening keeps both
--     run_same_size, run_same_beyond                    so does a history
-- Assumes nothing.
use Rattle.std.specs.Prelude.{◌≡◌, refl, List, [], ◌∷◌, Bool, true, false, cond, ◌≢◌, ℕ, suc, ◌<◌, eqb, drop, replicate}
use Rattle.std.proofs.Common.{ap, ◌∙◌, arith, length-set, length-append, length-drop, drop-set-lt, drop_at, get_or-set_other, eqb-true}
use Rattle.std.proofs.lemmas.List.{length-replicate}
use Rattle.arrival.specs.declared.Shape.{Shape}
use Rattle.arrival.specs.declared.Action.{Action}
use Rattle.arrival.specs.declared.Action.TheVariants.{Enqueue, Dequeue, Step}
use Rattle.arrival.specs.declared.Response.{Response}
use Rattle.arrival.specs.declared.Response.TheVariants.{Opened, Refused}
use Rattle.arrival.specs.Responses.{said}
use Rattle.laws.specs.Lists.{words_from, length_words}
use Rattle.calendar.specs.rules.Layout.{Write, ◌≔◌, write, write_all, layout, address, last_node}
use Rattle.calendar.specs.rules.Ranges.{blank, worker}
use Rattle.calendar.specs.rules.Opening.{open_word, open_store, open_table}
use Rattle.calendar.specs.rules.Reclaim.{first_free}
use Rattle.calendar.specs.rules.Outcome.{Outcome}
use Rattle.calendar.specs.rules.Starts.{enqueue_start, dequeue_start}
use Rattle.calendar.specs.rules.Refusals.{open_refusal}
use Rattle.laws.specs.FirstOf.{first_of}
use Rattle.calendar.specs.rules.Operations.{Memory, Result, unless, perform, open_pool, actor, refusal, outcome, act, run}
use Rattle.calendar.proofs.facts.FirstFree.{first_free_node}
use Rattle.calendar.specs.facts.RangeFacts.{RecordRanges}
use Rattle.calendar.proofs.facts.Accepted.{open_accepted, enqueue_passed, step_passed}
use Rattle.calendar.specs.facts.RefusalParts.{own_of}
use Rattle.calendar.proofs.facts.RefusalParts.{act_accepted, act_passes}
use Rattle.calendar.specs.facts.Views.{AllInside}
use Rattle.calendar.proofs.facts.Changes.{step_is}
use Rattle.calendar.proofs.facts.Inside.{enqueue_inside, dequeue_inside, change_inside, change_said, length_write_all}
use Rattle.calendar.specs.facts.Untouched.{SameSize, SameBeyond}

-- ── a refused operation ──
-- A refusal as response: the memory is as it was.
pub refused : (k n : ℕ) (m : Memory) (r : Result) → (k ≡ 0 → (said r.response).number ≡ 0)
    → (unless k m r).response ≡ Refused (suc n) → (unless k m r).memory ≡ m
refused k n m r ok e = go (eqb k 0) refl e
  where
    go : (t : Bool) → eqb k 0 ≡ t → (cond t r (record { memory = m; response = Refused k })).response ≡ Refused (suc n)
        → (cond t r (record { memory = m; response = Refused k })).memory ≡ m
    go true q e = absurd (omega (arith, ok (eqb-true k 0 q), ap (λ (x : Response). (said x).number) e))
    go false q e = refl

pub rule_said : (sh : Shape) (m : Memory) (a : Action) → RecordRanges sh (worker m.table (actor a)) → first_of (own_of sh m a) ≡ 0
    → (said (outcome sh m a).response).number ≡ 0
unfolding enqueue_start dequeue_start
rule_said sh m (Enqueue i a) r e = refl
rule_said sh m (Dequeue i) r e = refl
rule_said sh m (Step i) r e =
    change_said sh m.store (step_is sh m.store (worker m.table i) (step_passed sh m.store (worker m.table i) e).0 r.stage)

pub outcome_said : (sh : Shape) (m : Memory) (a : Action) → refusal sh m a ≡ 0 → (said (outcome sh m a).response).number ≡ 0
outcome_said sh m a e =
    let A = act_accepted sh m a e in
    rule_said sh m a (A.table (actor a) A.exists) (act_passes sh m a e)

pub act_refused_untouched : (sh : Shape) (m : Memory) (a : Action) (n : ℕ) → (act sh m a).response ≡ Refused (suc n) → (act sh m a).memory ≡ m
unfolding act
act_refused_untouched sh m a n e = refused (refusal sh m a) n m (perform sh m (actor a) (outcome sh m a)) (outcome_said sh m a) e

pub open_refused_untouched : (sh : Shape) (m : Memory) (n : ℕ) → (open_pool sh m).response ≡ Refused (suc n) → (open_pool sh m).memory ≡ m
unfolding open_pool
open_refused_untouched sh m n e =
    refused (open_refusal sh m.store m.table) n m
    (record { memory = record { store = open_store sh m.store; table = open_table sh m.table }; response = Opened }) (λ q. refl) e

-- an operation that keeps both unless it is refused keeps both
pub by_refusal : (P : Memory → Type 0) (k : ℕ) (m : Memory) (r : Result) → P m → (k ≡ 0 → P r.memory) → P (unless k m r).memory
by_refusal P k m r same h = go (eqb k 0) refl
  where
    go : (t : Bool) → eqb k 0 ≡ t → P (cond t r (record { memory = m; response = Refused k })).memory
    go true e = h (eqb-true k 0 e)
    go false e = same

write_all_beyond : (sh : Shape) (s : List ℕ) (ws : List Write) → AllInside sh ws → drop (layout sh) (write_all sh s ws) ≡ drop (layout sh) s
unfolding write
write_all_beyond sh s [] h = refl
write_all_beyond sh s ((p ≔ v) ∷ ws) h = write_all_beyond sh (write sh s p v) ws h.2 ∙ drop-set-lt (layout sh) s (address sh p) v h.1

pub perform_size : (sh : Shape) (m : Memory) (i : ℕ) (o : Outcome) → SameSize m (perform sh m i o).memory
perform_size sh m i o = record { store = length_write_all sh m.store o.writes; table = length-set m.table i o.worker }

pub perform_beyond : (sh : Shape) (m : Memory) (i : ℕ) (o : Outcome) → i < sh.workers → AllInside sh o.writes → SameBeyond sh m (perform sh m i o).memory
perform_beyond sh m i o l h = record { store = write_all_beyond sh m.store o.writes h; table = drop-set-lt sh.workers m.table i o.worker l }

pub act_same_size : (sh : Shape) (m : Memory) (a : Action) → SameSize m (act sh m a).memory
unfolding act
act_same_size sh m a =
    by_refusal (SameSize m) (refusal sh m a) m (perform sh m (actor a) (outcome sh m a)) (record { store = refl; table = refl })
    (λ e. perform_size sh m (actor a) (outcome sh m a))

-- what an action writes lies in the layout, where word 2, its worker's record and its own tests are as they should be
pub rule_inside : (sh : Shape) (m : Memory) (a : Action) → last_node sh m.store < sh.nodes → RecordRanges sh (worker m.table (actor a))
    → first_of (own_of sh m a) ≡ 0 → AllInside sh (outcome sh m a).writes
rule_inside sh m (Enqueue i a) last r e =
    enqueue_inside sh m.store (first_free sh m.store m.table) a (worker m.table i)
    (first_free_node sh m.store m.table last (enqueue_passed sh m.store m.table i a e).node)
rule_inside sh m (Dequeue i) last r e = dequeue_inside sh m.store (worker m.table i)
rule_inside sh m (Step i) last r e =
    change_inside sh m.store (worker m.table i) r
    (step_is sh m.store (worker m.table i) (step_passed sh m.store (worker m.table i) e).0 r.stage)

-- an accepted action acts for a worker of the shape, and writes inside the layout
pub outcome_inside : (sh : Shape) (m : Memory) (a : Action) → refusal sh m a ≡ 0 → (actor a < sh.workers) × AllInside sh (outcome sh m a).writes
outcome_inside sh m a e =
    let A = act_accepted sh m a e in
    (A.exists, rule_inside sh m a A.store.last (A.table (actor a) A.exists) (act_passes sh m a e))

pub act_same_beyond : (sh : Shape) (m : Memory) (a : Action) → SameBeyond sh m (act sh m a).memory
unfolding act
act_same_beyond sh m a =
    by_refusal (SameBeyond sh m) (refusal sh m a) m (perform sh m (actor a) (outcome sh m a)) (record { store = refl; table = refl })
    (λ e. let (l, h) = outcome_inside sh m a e in perform_beyond sh m (actor a) (outcome sh m a) l h)

-- ── the records of other workers ──
pub others_untouched : (sh : Shape) (m : Memory) (a : Action) (j : ℕ) → j ≢ actor a → worker (act sh m a).memory.table j ≡ worker m.table j
unfolding act
others_untouched sh m a j h =
    by_refusal (λ n. worker n.table j ≡ worker m.table j) (refusal sh m a) m (perform sh m (actor a) (outcome sh m a)) refl
    (λ e. get_or-set_other m.table (actor a) j (outcome sh m a).worker blank h)

-- ── the opening ──
pub open_same_size : (sh : Shape) (m : Memory) → SameSize m (open_pool sh m).memory
unfolding open_pool open_store open_table
open_same_size sh m =
    by_refusal (SameSize m) (open_refusal sh m.store m.table) m _ (record { store = refl; table = refl })
    (λ e. let A = open_accepted sh m.store m.table e in
    record {
      store = length-append (words_from (open_word sh) 0 (layout sh)) (drop (layout sh) m.store)
          ∙ omega (arith, length_words (open_word sh) 0 (layout sh), length-drop (layout sh) m.store, A.store);
      table = length-append (replicate sh.workers blank) (drop sh.workers m.table)
          ∙ omega (arith, length-replicate sh.workers blank, length-drop sh.workers m.table, A.table);
    })

pub open_same_beyond : (sh : Shape) (m : Memory) → SameBeyond sh m (open_pool sh m).memory
unfolding open_pool open_store open_table
open_same_beyond sh m =
    by_refusal (SameBeyond sh m) (open_refusal sh m.store m.table) m _ (record { store = refl; table = refl })
    (λ e. record {
      store = drop_at (words_from (open_word sh) 0 (layout sh)) (drop (layout sh) m.store) (layout sh) (length_words (open_word sh) 0 (layout sh));
      table = drop_at (replicate sh.workers blank) (drop sh.workers m.table) sh.workers (length-replicate sh.workers blank);
    })

-- ── along a history ──
pub run_same_size : (sh : Shape) (m : Memory) (h : List Action) → SameSize m (run sh m h)
unfolding run
run_same_size sh m [] = record { store = refl; table = refl }
run_same_size sh m (a ∷ h) =
    let x = act_same_size sh m a in
    let y = run_same_size sh (act sh m a).memory h in
    record { store = y.store ∙ x.store; table = y.table ∙ x.table }

pub run_same_beyond : (sh : Shape) (m : Memory) (h : List Action) → SameBeyond sh m (run sh m h)
unfolding run
run_same_beyond sh m [] = record { store = refl; table = refl }
run_same_beyond sh m (a ∷ h) =
    let x = act_same_beyond sh m a in
    let y = run_same_beyond sh (act sh m a).memory h in
    record { store = y.store ∙ x.store; table = y.table ∙ x.table }
