-- From the joint invariant to the linearization: the order's calls without its scans.
--     tickets        the calls of an order
--     linearized     they are a linearization
-- Assumes nothing.
use Rattle.std.specs.Prelude.{◌≡◌, refl, Bool, true, false, ◌⊎◌, ℕ, ◌≤◌}
use Rattle.std.proofs.Common.{sym, ◌∙◌, ap, subst, inl, inr, arith}
use Rattle.std.proofs.Math.Option.{none, some, none-ne-some, some-injective}
use mathlib.Core.List.Memᴰ.{head as here}
use mathlib.Core.List.Memᴰ.{tail as there}
use mathlib.Core.List.{List, [], ◌∷◌, map, Memᴰ as Mem}
use Rattle.std.proofs.Math.Decide.{ℕ_discrete}
use Rattle.arrival.specs.declared.Shape.{Shape}
use Rattle.arrival.specs.Keys.{lower}
use Rattle.arrival.proofs.Keys.{lower_total}
use Rattle.arrival.specs.Queue as queue
use Rattle.laws.specs.Lists.{Once}
use Rattle.calendar.specs.rules.Ranges.{worker}
use Rattle.calendar.specs.rules.Operations.{Memory}
use Rattle.calendar.specs.rules.Ledger.{Ledger}
use Rattle.calendar.specs.rules.Linearizability.{Finished, EndedBefore, RespectsTime, mark_ticket, Agree, MarkedAhead, Linearization}
use Rattle.calendar.specs.facts.Views.{View, view}
use Rattle.order.specs.Entries.{Element, Entry, enqueue, dequeue, empty, scan, Order, ◌≺◌, ticket}
use Rattle.order.specs.RealTime.{End, running, ended, NotBefore, ticket_of_lem, end_of, Timely}
use Rattle.order.specs.Calls.{Call, Distinct}
use Rattle.interleavings.specs.ItemKeys.{keys}
use Rattle.interleavings.specs.Joint.{Ghost, Logged}
use Rattle.interleavings.specs.Agreement.{item_asked, ended_at, Same, Agrees}
use Rattle.interleavings.specs.Sequential.{asks, answers, plain}
use Rattle.interleavings.specs.AlongHistory.{Followed}
use Rattle.interleavings.specs.CallEntries.{one_entry, asked_put, asked_take, end_known, entry_marked, empty_ended}

-- a call without an end runs
not_ended : (d : End) → ended_at d ≡ none → d ≡ running
not_ended running e = refl
not_ended (ended s) e = absurd (none-ne-some _ (sym e))

module _ (sh : Shape) (wd : 1 ≤ sh.width) where
  abbrev pub tickets : Order (keys sh wd) → List ℕ
  tickets [] = []
  tickets (enqueue x ∷ L) = ticket x ∷ tickets L
  tickets (dequeue z c ∷ L) = c ∷ tickets L
  tickets (empty c ∷ L) = c ∷ tickets L
  tickets (scan v ∷ L) = tickets L

  tickets_in : (L : Order (keys sh wd)) (e : Entry (keys sh wd)) → Call e → Mem e L → Mem (ticket_of_lem e) (tickets L)
  tickets_in [] e c m = elim m [ ]
  tickets_in (enqueue x ∷ L) e c (here p) = here (ap ticket_of_lem p)
  tickets_in (dequeue z d ∷ L) e c (here p) = here (ap ticket_of_lem p)
  tickets_in (empty d ∷ L) e c (here p) = here (ap ticket_of_lem p)
  tickets_in (scan v ∷ L) e c (here p) = absurd (subst Call p c)
  tickets_in (enqueue x ∷ L) e c (there p) = there (tickets_in L e c p)
  tickets_in (dequeue z d ∷ L) e c (there p) = there (tickets_in L e c p)
  tickets_in (empty d ∷ L) e c (there p) = there (tickets_in L e c p)
  tickets_in (scan v ∷ L) e c (there p) = tickets_in L e c p

  tickets_out : (L : Order (keys sh wd)) (n : ℕ) → Mem n (tickets L) → (e : Entry (keys sh wd)) × Mem e L × Call e × (ticket_of_lem e ≡ n)
  tickets_out [] n p = elim p [ ]
  tickets_out (enqueue x ∷ L) n (here p) = (enqueue x, here refl, tt, sym p)
  tickets_out (enqueue x ∷ L) n (there p) = let (e, m, c, t) = tickets_out L n p in (e, there m, c, t)
  tickets_out (dequeue z d ∷ L) n (here p) = (dequeue z d, here refl, tt, sym p)
  tickets_out (dequeue z d ∷ L) n (there p) = let (e, m, c, t) = tickets_out L n p in (e, there m, c, t)
  tickets_out (empty d ∷ L) n (here p) = (empty d, here refl, tt, sym p)
  tickets_out (empty d ∷ L) n (there p) = let (e, m, c, t) = tickets_out L n p in (e, there m, c, t)
  tickets_out (scan v ∷ L) n p = let (e, m, c, t) = tickets_out L n p in (e, there m, c, t)

  -- each call once
  once : (L : Order (keys sh wd)) → Distinct L → Once (tickets L)
  once [] D = tt
  once (enqueue x ∷ L) D = (λ d m q. let (e, k, c, t) = tickets_out L d m in D.0 e k tt c (q ∙ sym t), once L D.1)
  once (dequeue z n ∷ L) D = (λ d m q. let (e, k, c, t) = tickets_out L d m in D.0 e k tt c (q ∙ sym t), once L D.1)
  once (empty n ∷ L) D = (λ d m q. let (e, k, c, t) = tickets_out L d m in D.0 e k tt c (q ∙ sym t), once L D.1)
  once (scan v ∷ L) D = once L D.1

  module _ (v : View) (T : ℕ → _) (g : Ghost (keys sh wd)) (M : Ledger) (A : Agrees sh wd v T g M) where
    -- no call stands before one that had ended when it started
    not_before : (n d : ℕ) → NotBefore n (g.hist.end d) → EndedBefore M d n → ⊥
    not_before n d h (s, e, l) = go (g.hist.end d) h (sym (A.finish d) ∙ e)
      where
        go : (x : End) → NotBefore n x → ended_at x ≡ some s → ⊥
        go running h q = absurd (let z : ◌≡◌ {A = ℕ} 0 1 = cc in omega arith)
        go (ended t) h q = let z : t ≡ s = cc in omega arith

    end_is : (e : Entry (keys sh wd)) → Call e → end_of g.hist e ≡ g.hist.end (ticket_of_lem e)
    end_is (enqueue x) c = refl
    end_is (dequeue z n) c = refl
    end_is (empty n) c = refl
    end_is (scan w) c = absurd c

    later : (n : ℕ) (L : Order (keys sh wd)) → ((f : Entry (keys sh wd)) → Mem f L → NotBefore n (end_of g.hist f)) → (y : ℕ) → Mem y (tickets L)
        → EndedBefore M y n → ⊥
    later n L h y m q =
        let (e, k, c, t) = tickets_out L y m in
        not_before n y (subst (λ d. NotBefore n (g.hist.end d)) t (subst (λ x. NotBefore n x) (end_is e c) (h e k))) q

    real_time : (L : Order (keys sh wd)) → Timely g.hist L → RespectsTime M (tickets L)
    real_time [] t = tt
    real_time (enqueue x ∷ L) t = (later (ticket x) L t.0, real_time L t.1)
    real_time (dequeue z n ∷ L) t = (later n L t.0, real_time L t.1)
    real_time (empty n ∷ L) t = (later n L t.0, real_time L t.1)
    real_time (scan w ∷ L) t = real_time L t.1

    -- the calls are those that were asked
    asked_are : (L : Order (keys sh wd)) → ((e : Entry (keys sh wd)) → Mem e L → Logged {K = keys sh wd} g.what e)
        → map M.asked (tickets L) ≡ asks sh wd L
    asked_are [] h = refl
    asked_are (enqueue x ∷ L) h =
        λ i. asked_put (M.asked (ticket x)) x.it (sym (A.what (ticket x)) ∙ h (enqueue x) (here refl)) i ∷ asked_are L (λ e k. h e (there k)) i
    asked_are (dequeue z n ∷ L) h = λ i. asked_take (M.asked n) (sym (A.what n) ∙ h (dequeue z n) (here refl)) i ∷ asked_are L (λ e k. h e (there k)) i
    asked_are (empty n ∷ L) h = λ i. asked_take (M.asked n) (sym (A.what n) ∙ h (empty n) (here refl)) i ∷ asked_are L (λ e k. h e (there k)) i
    asked_are (scan w ∷ L) h = asked_are L (λ e k. h e (there k))

    -- the answer of a finished call is its entry's
    module _ (W : Order (keys sh wd)) (D : Distinct W)
        (finished : (c s : ℕ) → g.hist.end c ≡ ended s → Mem (g.said c) W × Call (g.said c) × (ticket_of_lem (g.said c) ≡ c)) where
      said_is : (e : Entry (keys sh wd)) → Call e → Mem e W → Finished M (ticket_of_lem e)
          → Same sh wd e (M.response (ticket_of_lem e)) (M.marked (ticket_of_lem e))
      said_is e c m (s, q) =
          let h = end_known (g.hist.end (ticket_of_lem e)) s (sym (A.finish (ticket_of_lem e)) ∙ q) in
          let (k, b, t) = finished (ticket_of_lem e) s h in
          subst (λ f. Same sh wd f (M.response (ticket_of_lem e)) (M.marked (ticket_of_lem e))) (one_entry W (g.said (ticket_of_lem e)) e D k m b c t)
          (A.said (ticket_of_lem e) s h)

      agree : (L : Order (keys sh wd)) → ((e : Entry (keys sh wd)) → Mem e L → Mem e W) → Agree M (tickets L) (answers sh wd L)
      agree [] h = tt
      agree (enqueue x ∷ L) h = (
        λ f. let (r, k) = said_is (enqueue x) tt (h (enqueue x) (here refl)) f in λ i. record { response = sym r i; ticket = ap mark_ticket (sym k) i },
        agree L (λ e m. h e (there m)),
      )
      agree (dequeue z n ∷ L) h = (
        λ f. let (r, k) = said_is (dequeue z n) tt (h (dequeue z n) (here refl)) f in λ i. record { response = sym r i; ticket = ap mark_ticket (sym k) i },
        agree L (λ e m. h e (there m)),
      )
      agree (empty n ∷ L) h = (
        λ f. let (r, k) = said_is (empty n) tt (h (empty n) (here refl)) f in λ i. record { response = sym r i; ticket = ap mark_ticket (sym k) i },
        agree L (λ e m. h e (there m)),
      )
      agree (scan w ∷ L) h = agree L (λ e m. h e (there m))

  -- an unfinished take has marked what its entry says
  module _ (m : Memory) (M : Ledger) (F : Followed sh wd m M) where
    ahead : (L : Order (keys sh wd)) → ((e : Entry (keys sh wd)) → Mem e L → Mem e F.ghost.order) → MarkedAhead M (tickets L) (answers sh wd L)
    ahead [] h = tt
    ahead (enqueue x ∷ L) h = (
      λ a r. let put = F.ord.whole.entries (enqueue x) (h (enqueue x) (here refl)) in
          absurd (none-ne-some _ (sym (F.agrees.what (ticket x) ∙ ap item_asked a) ∙ put)),
      ahead L (λ e k. h e (there k)),
    )
    ahead (dequeue z n ∷ L) h = (
      λ a r. (z.it, entry_marked sh wd m M F n z.it (h (dequeue z n) (here refl)), refl),
      ahead L (λ e k. h e (there k)),
    )
    ahead (empty n ∷ L) h = (
      λ a r. absurd (empty_ended sh wd m M F n (h (empty n) (here refl)) (not_ended (F.ghost.hist.end n) (sym (F.agrees.finish n) ∙ r))),
      ahead L (λ e k. h e (there k)),
    )
    ahead (scan w ∷ L) h = ahead L (λ e k. h e (there k))

  -- THE LINEARIZATION
  pub linearized : (m : Memory) (M : Ledger) → Followed sh wd m M → Linearization M
  linearized m M F =
      let v = view sh m.store in
      let T = worker m.table in
      let g = F.ghost in
      let O = F.ord.whole in
      let A = F.agrees in
      record {
        order = tickets g.order;
        calls = λ c k. let (e, j, b, t) = tickets_out g.order c k in
            (subst (λ n. 1 ≤ n) t (O.proper e j b), subst (λ n. n ≤ M.started) t (rw (← A.started) (O.bound e j)));
        once = once g.order O.distinct;
        finished = λ c (s, q). let (k, b, t) = O.finished c s (end_known (g.hist.end c) s (sym (A.finish c) ∙ q)) in
            subst (λ n. Mem n (tickets g.order)) t (tickets_in g.order (g.said c) b k);
        real_time = real_time v T g M A g.order O.orderly.timely;
        agrees = subst (λ rs. Agree M (tickets g.order) rs) replied (agree v T g M A g.order O.distinct O.finished g.order (λ e k. k));
        marked_ahead = subst (λ rs. MarkedAhead M (tickets g.order) rs) replied (ahead m M F g.order (λ e k. k));
      }
    where
      log : (x : Element (keys sh wd)) → Mem (enqueue x) F.ghost.order → F.ghost.what (ticket x) ≡ some x.it
      log x k = F.ord.whole.entries (enqueue x) k

      one : (y z : Element (keys sh wd)) → Mem (enqueue y) F.ghost.order → Mem (enqueue z) F.ghost.order → ticket y ≡ ticket z → y ≡ z
      one y z i j e = λ k. record { it = some-injective _ _ (sym (log y i) ∙ ap F.ghost.what e ∙ log z j) k }

      apart : (y z : Element (keys sh wd)) → Mem y [] ⊎ Mem (enqueue y) F.ghost.order → Mem z [] ⊎ Mem (enqueue z) F.ghost.order
          → ((y ≡ z) ⊎ ((y ≺ z) ⊎ (z ≺ y))) × (ticket y ≡ ticket z → y ≡ z)
      apart y z (inl j) b = elim j [ ]
      apart y z (inr i) (inl j) = elim j [ ]
      apart y z (inr i) (inr j) = (go (ℕ_discrete (ticket y) (ticket z)) (lower y.it z.it) refl, one y z i j)
        where
          go : Dec (ticket y ≡ ticket z) → (t : Bool) → lower y.it z.it ≡ t → (y ≡ z) ⊎ ((y ≺ z) ⊎ (z ≺ y))
          go (yes e) t f = inl (one y z i j e)
          go (no n) true f = inr (inl f)
          go (no n) false f = inr (inr (lower_total y.it z.it f n))

      replied : answers sh wd F.ghost.order ≡ queue.replies [] (map M.asked (tickets F.ghost.order))
      replied =
          sym (plain sh wd [] F.ghost.order apart F.ord.whole.orderly.legal)
          ∙ ap (queue.replies [])
          (sym (asked_are (view sh m.store) (worker m.table) F.ghost M F.agrees F.ghost.order F.ord.whole.entries))
