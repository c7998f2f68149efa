-- The sum of stored and taken holds after every history from an opening.
--     Balanced, Summed     the sum in the words of the invariant; with what is reached
--     summed               after every history
--     sum_balances         in the words of the statement
-- Assumes nothing.
use Rattle.std.specs.Prelude.{◌≡◌, Bool}
use Rattle.std.proofs.Math.Path.{refl, ap, subst⁻¹}
use Rattle.std.proofs.Common.{sym, ◌∙◌}
use Rattle.std.proofs.Math.Bool.{true, false, cond}
use Rattle.std.proofs.Math.Option.{some, some-injective}
use mathlib.Core.List.{List, [], ◌∷◌}
use Prim.Native.Nat.{ℕ, zero, suc, ◌+◌, ◌-◌, ◌%◌, ◌≤◌, ◌<◌}
use native.Mathlib.Omega.{arith}
use borrow.Author.Tests.{eqb-true, eqb-false}
use Rattle.arrival.specs.declared.Shape.{Shape}
use Rattle.arrival.specs.declared.Worker.{Worker}
use Rattle.arrival.specs.declared.Action.{Action}
use Rattle.arrival.specs.declared.Action.TheVariants.{Enqueue, Dequeue, Step}
use Rattle.arrival.specs.declared.Response.{Response}
use Rattle.arrival.specs.declared.Response.TheVariants.{Opened, Begun, On, Stored, Took, Empty, Refused}
use Rattle.laws.specs.Counting.{count, tally}
use Rattle.laws.proofs.Counting.{tally_none, tally_with}
use Rattle.calendar.specs.rules.Layout.{link, is_marked, item_at, write_all}
use Rattle.calendar.specs.rules.Ranges.{blank, worker}
use Rattle.calendar.specs.rules.Reclaim.{first_free}
use Rattle.calendar.specs.rules.Opening.{open_store, open_table}
use Rattle.calendar.specs.rules.Outcome.{Outcome}
use Rattle.calendar.specs.rules.Starts.{enqueue_start, dequeue_start}
use Rattle.calendar.specs.rules.Operations.{Memory, perform, open_pool, actor, refusal, outcome, act, run}
use Rattle.calendar.specs.rules.Ledger.{Ledger, new, marks, hears, sees, succeeds_11, notes, reads, ledger}
use Rattle.calendar.specs.rules.Snapshot.{bucket_list, unmarked_in, unmarked_to, has_linked, has_marked, workers_with}
use Rattle.calendar.specs.facts.Views.{View, view, updates, AllInside}
use Rattle.calendar.proofs.facts.Views.{view_write_all}
use Rattle.calendar.proofs.facts.FirstFree.{first_free_node}
use Rattle.calendar.proofs.facts.FreshPool.{open_worker}
use Rattle.calendar.proofs.facts.Accepted.{enqueue_accepted, dequeue_accepted, step_accepted}
use Rattle.calendar.proofs.facts.Changes.{Change, step_is}
use Rattle.calendar.proofs.facts.Inside.{enqueue_inside, dequeue_inside, change_inside}
use Rattle.calendar.proofs.facts.Acting.{by_act}
use Rattle.lists.specs.LinkInvariant.{Chains}
use Rattle.lists.specs.AllCalls.{with_record}
use Rattle.lists.specs.TurnsKeepLists.{chains_after}
use Rattle.lists.specs.FromOpening.{Reached, table_set, reached_enqueue, reached_dequeue, reached_step}
use Rattle.lists.specs.NodeReuse.{opened, open_reaches}
use Rattle.lists.specs.Walks.{walk_meets}
use Rattle.lists.specs.UnmarkedCounts.{unmarked_count, total}
use Rattle.lists.specs.Worth.{linked_bit, marked_bit, linked_low, linked_high, marked_put, marked_high, marked_idle, stored_in, took_in, Worth, worth}

abbrev pub Balanced : Shape → View → Chains → (ℕ → Worker) → Ledger → Type 0
Balanced sh v ch T L = L.stored + tally linked_bit T sh.workers ≡ L.took + tally marked_bit T sh.workers + total sh v.cells ch sh.buckets

-- ── what the ledger counts ──
hears_stored : (i : ℕ) (r : Response) (L : Ledger) → (hears i r L).stored ≡ stored_in r + L.stored
hears_stored i Opened L = omega arith
hears_stored i (Begun c) L = omega arith
hears_stored i On L = omega arith
hears_stored i (Stored c) L = omega arith
hears_stored i (Took time path order distance energy) L = omega arith
hears_stored i Empty L = omega arith
hears_stored i (Refused k) L = omega arith

hears_took : (i : ℕ) (r : Response) (L : Ledger) → (hears i r L).took ≡ took_in r + L.took
hears_took i Opened L = omega arith
hears_took i (Begun c) L = omega arith
hears_took i On L = omega arith
hears_took i (Stored c) L = omega arith
hears_took i (Took time path order distance energy) L = omega arith
hears_took i Empty L = omega arith
hears_took i (Refused k) L = omega arith

sees_counts : (sh : Shape) (m : Memory) (i : ℕ) (L : Ledger) → ((sees sh m i L).stored ≡ L.stored) × ((sees sh m i L).took ≡ L.took)
sees_counts sh m i L = go (succeeds_11 sh m.store (worker m.table i))
  where
    go : (b : Bool) → ((cond b (marks i (item_at sh m.store (worker m.table i).right) L) L).stored ≡ L.stored)
        × ((cond b (marks i (item_at sh m.store (worker m.table i).right) L) L).took ≡ L.took)
    go true = (refl, refl)
    go false = (refl, refl)

pub record Summed (sh : Shape) (m : Memory) (L : Ledger) : Type 0 where
  pub chains : Chains
  pub reached : Reached sh m chains
  pub balanced : Balanced sh (view sh m.store) chains (worker m.table) L

-- a start moves nothing
start_worth : (w : Worker) (o : Outcome) (t c : ℕ) → w.stage ≡ 0 → o.response ≡ Begun c → linked_bit o.worker ≡ 0 → marked_bit o.worker ≡ 0
    → Worth w t t o
start_worth w o t c idle e p q =
    omega (arith, ap stored_in e, ap took_in e, p, q, linked_low w (omega arith), marked_idle w idle)

module _ (sh : Shape) where
  -- one record changes, and the unmarked nodes with it
  performed : (m : Memory) (i : ℕ) (o : Outcome) (ch ch' : Chains) (L L' : Ledger) → Reached sh m ch → i < sh.workers → AllInside sh o.writes
      → Balanced sh (view sh m.store) ch (worker m.table) L
      → L'.stored ≡ stored_in o.response + L.stored → L'.took ≡ took_in o.response + L.took
      → Worth (worker m.table i) (total sh (view sh m.store).cells ch sh.buckets)
      (total sh (updates o.writes (view sh m.store)).cells ch' sh.buckets) o
      → Balanced sh (view sh (perform sh m i o).memory.store) ch' (worker (perform sh m i o).memory.table) L'
  performed m i o ch ch' L L' K l ins B st tk w =
      let v = view_write_all sh m.store o.writes K.lent.store ins in
      let t = table_set m.table i o.worker (omega (arith, K.lent.table)) in
      subst⁻¹ (λ T. Balanced sh (view sh (write_all sh m.store o.writes)) ch' T L') t
      (subst⁻¹ (λ x. Balanced sh x ch' (with_record (worker m.table) i o.worker) L') v
      (omega (
        arith,
        B,
        st,
        tk,
        w,
        tally_with linked_bit (worker m.table) i o.worker sh.workers l,
        tally_with marked_bit (worker m.table) i o.worker sh.workers l,
      )))

  summed_act : (m : Memory) (L : Ledger) (a : Action) → Summed sh m L → Summed sh (act sh m a).memory (reads sh m a L)
  unfolding enqueue_start dequeue_start
  summed_act m L a S = by_act sh (Summed sh) m L a S (accepted a)
    where
      t : ℕ
      t = total sh (view sh m.store).cells S.chains sh.buckets

      accepted : (a : Action) → refusal sh m a ≡ 0 → Summed sh (perform sh m (actor a) (outcome sh m a)).memory (notes sh m a (outcome sh m a).response L)
      accepted (Enqueue i x) e =
          let A = enqueue_accepted sh m.store m.table i x e in
          let o = outcome sh m (Enqueue i x) in
          record {
            chains = S.chains;
            reached = reached_enqueue sh m S.chains i x S.reached A;
            balanced = performed m i o S.chains S.chains L (notes sh m (Enqueue i x) o.response L) S.reached A.usable.exists
                (enqueue_inside sh m.store (first_free sh m.store m.table) x (worker m.table i)
                (first_free_node sh m.store m.table S.reached.store.last A.node)) S.balanced (omega arith) (omega arith)
                (start_worth (worker m.table i) o t _ A.idle refl (linked_low o.worker (omega arith)) (marked_put o.worker refl));
          }
      accepted (Dequeue i) e =
          let A = dequeue_accepted sh m.store m.table i e in
          let o = outcome sh m (Dequeue i) in
          record {
            chains = S.chains;
            reached = reached_dequeue sh m S.chains i S.reached A;
            balanced =
                performed m i o S.chains S.chains L (notes sh m (Dequeue i) o.response L) S.reached A.usable.exists
                (dequeue_inside sh m.store (worker m.table i)) S.balanced (omega arith) (omega arith)
                (start_worth (worker m.table i) o t _ A.idle refl (linked_high o.worker (omega arith)) (marked_high o.worker (omega arith)));
          }
      accepted (Step i) e =
          let A = step_accepted sh m.store m.table i e in
          let o = outcome sh m (Step i) in
          let K = S.reached in
          let l = A.usable.exists in
          let r = K.table i l in
          let c : Change sh m.store (worker m.table i) o = step_is sh m.store (worker m.table i) A.busy r.stage in
          let (p, q) = sees_counts sh m i L in
          record {
            chains = chains_after sh m.store (worker m.table) i l A.busy S.chains K.inv c;
            reached = reached_step sh m S.chains i K A c;
            balanced =
                performed m i o S.chains (chains_after sh m.store (worker m.table) i l A.busy S.chains K.inv c) L
                (hears i o.response (sees sh m i L)) K l (change_inside sh m.store (worker m.table i) r c) S.balanced
                (hears_stored i o.response (sees sh m i L) ∙ ap (λ n. stored_in o.response + n) p) (hears_took i o.response (sees sh m i L)
                ∙ ap (λ n. took_in o.response + n) q)
                (worth sh m.store (worker m.table) i l A.busy S.chains K.inv r c);
          }

  summed_run : (m : Memory) (L : Ledger) (h : List Action) → Summed sh m L → Summed sh (run sh m h) (ledger sh m h L)
  unfolding run ledger
  summed_run m L [] S = S
  summed_run m L (a ∷ h) S = summed_run (act sh m a).memory (reads sh m a L) h (summed_act m L a S)

  -- ── the opening: all is 0 ──
  total_none : (c : ℕ → ℕ) (n : ℕ) → total sh c (λ b. []) n ≡ 0
  total_none c n = tally_none (unmarked_count sh c) (λ b. []) n (λ j l. refl)

  summed_open : (m : Memory) → (open_pool sh m).response ≡ Opened → Summed sh (open_pool sh m).memory new
  unfolding blank
  summed_open m e =
      let (z, q) = opened sh m e in
      record {
        chains = λ b. [];
        reached = open_reaches sh m e;
        balanced = subst⁻¹ (λ (n : Memory). Balanced sh (view sh n.store) (λ b. []) (worker n.table) new) q
            (omega (
              arith,
              tally_none linked_bit (worker (open_table sh m.table)) sh.workers (λ j h. linked_low (worker (open_table sh m.table) j) (idle j h).0),
              tally_none marked_bit (worker (open_table sh m.table)) sh.workers (λ j h. marked_idle (worker (open_table sh m.table) j) (idle j h).1),
              total_none (view sh (open_store sh m.store)).cells sh.buckets,
            ));
      }
    where
      idle : (j : ℕ) → j < sh.workers → ((worker (open_table sh m.table) j).stage ≤ 5) × ((worker (open_table sh m.table) j).stage ≡ 0)
      idle j h = let z = ap (λ (w : Worker). w.stage) (open_worker sh m.table j h) in (omega (arith, z), z)

  pub summed : (m : Memory) → (open_pool sh m).response ≡ Opened → (h : List Action)
      → Summed sh (run sh (open_pool sh m).memory h) (ledger sh (open_pool sh m).memory h new)
  summed m e h = summed_run (open_pool sh m).memory new h (summed_open m e)

  -- ── in the words of the statement ──
  workers_are : (t : List Worker) (f : Worker → Bool) (n : ℕ) → count n (λ i. f (worker t i)) ≡ tally (λ w. cond (f w) 1 0) (worker t) n
  unfolding count
  workers_are t f n = refl

  unmarked_is : (s : List ℕ) (ns : List ℕ) → unmarked_in sh s ns ≡ unmarked_count sh (view sh s).cells ns
  unfolding unmarked_in
  unmarked_is s [] = refl
  unmarked_is s (n ∷ ns) = omega (arith, bit (link sh s n), unmarked_is s ns)
    where
      bit : (x : ℕ) → cond (is_marked x) 0 1 ≡ 1 - (x % 2)
      bit x = go (is_marked x) refl
        where
          go : (b : Bool) → is_marked x ≡ b → cond b 0 1 ≡ 1 - (x % 2)
          go true e = omega (arith, eqb-true (x % 2) 1 e)
          go false e = omega (arith, eqb-false (x % 2) 1 e)

  unmarked_are : (s : List ℕ) (lists : ℕ → List ℕ) (ch : Chains) (b : ℕ) → ((q : ℕ) → q < b → lists q ≡ ch q)
      → unmarked_to sh s lists b ≡ total sh (view sh s).cells ch b
  unfolding unmarked_to
  unmarked_are s lists ch zero h = refl
  unmarked_are s lists ch (suc b) h =
      omega (
        arith,
        unmarked_is s (lists b),
        ap (unmarked_count sh (view sh s).cells) (h b (omega arith)),
        unmarked_are s lists ch b (λ q l. h q (omega arith)),
      )

  -- STORED + PUTS AT 6 AND 7 = ARRIVALS ANSWERED + TAKES AT 1 TO 3 + UNMARKED NODES IN THE LISTS
  pub sum_balances : (m : Memory) → (open_pool sh m).response ≡ Opened → (h : List Action) → let n = run sh (open_pool sh m).memory h in
      let L = ledger sh (open_pool sh m).memory h new in
      (lists : ℕ → List ℕ) → ((b : ℕ) → b < sh.buckets → bucket_list sh n.store b ≡ some (lists b))
      → L.stored + workers_with sh n.table has_linked ≡ L.took + workers_with sh n.table has_marked + unmarked_to sh n.store lists sh.buckets
  sum_balances m e h lists listed =
      let S = summed m e h in
      let n = run sh (open_pool sh m).memory h in
      omega (
        arith,
        S.balanced,
        workers_are n.table has_linked sh.workers,
        workers_are n.table has_marked sh.workers,
        unmarked_are n.store lists S.chains sh.buckets (λ b l. some-injective _ _ (sym (listed b l)
            ∙ walk_meets sh n.store S.chains _ S.reached.inv.lists b l)),
      )
