-- The proof's own account of a history and the onlooker's ledger agree, start by start and turn by turn.
--     item_asked, ended_at, Same, MarkOf, Status    what the two accounts say of a call
--     Agrees                                      they agree
--     agrees_start                                past a start
--     after, same_mark, agrees_on, agrees_end     past a turn: in general; that ends nothing; that ends its call
--     agrees_step                                 past every turn
-- Assumes nothing.
use Rattle.std.specs.Prelude.{◌≡◌, refl, Bool, true, false, cond, ◌&&◌, ◌≢◌, ◌⊎◌, List, ℕ, ◌+◌, ◌≤◌, ◌<◌, eqb}
use Rattle.std.proofs.Common.{sym, ap, ◌∙◌, subst, inl, inr, arith, eqb-true, eq-eqb}
use Rattle.std.proofs.Math.Path.{subst⁻¹}
use Rattle.std.proofs.Math.Option.{Option, none, some}
use Rattle.std.proofs.lemmas.Bool.{eqb-false}
use Rattle.arrival.specs.declared.Shape.{Shape}
use Rattle.arrival.specs.declared.Item.{Item}
use Rattle.arrival.specs.declared.Worker.{Worker}
use Rattle.arrival.specs.declared.Response.{Response}
use Rattle.arrival.specs.declared.Response.TheVariants.{Opened, Begun, On, Stored, Took, Empty, Refused}
use Rattle.arrival.specs.Queue as queue
use Rattle.laws.specs.Tests.{by_size, upd_same, upd_other, upd_cases}
use Rattle.calendar.specs.rules.Layout.{item_at}
use Rattle.calendar.specs.rules.Ranges.{worker}
use Rattle.calendar.specs.rules.Outcome.{Outcome}
use Rattle.calendar.specs.rules.Operations.{Memory}
use Rattle.calendar.specs.rules.DequeueSteps.{link_holds}
use Rattle.calendar.specs.rules.Ledger.{Ledger, begins, ends, marks, hears, sees}
use Rattle.calendar.specs.facts.Views.{View, view, updates, item_in}
use Rattle.order.specs.Entries.{Entry, enqueue, dequeue, empty, scan, ticket}
use Rattle.order.specs.RealTime.{End, running, ended}
use Rattle.lists.specs.AllCalls.{Live, with_record}
use Rattle.interleavings.specs.ItemKeys.{keys}
use Rattle.interleavings.specs.Joint.{Ghost}
use Rattle.interleavings.specs.StartsKeepOrder.{logs}
use Rattle.interleavings.specs.TurnsKeepOrder.{Still, Closes, Tells}
use Rattle.interleavings.specs.Effects.{SameRole, Marks, Answered, Effect}

-- what a call puts, if it is a put
abbrev pub item_asked : queue.Call → Option Item
item_asked (queue.enqueue x) = some x
item_asked queue.dequeue = none

abbrev pub ended_at : End → Option ℕ
ended_at running = none
ended_at (ended s) = some s

-- the answer of an entry: the response, and the item marked
abbrev pub Same : (sh : Shape) (wd : 1 ≤ sh.width) → Entry (keys sh wd) → Response → Option Item → Type 0
Same sh wd (enqueue x) r k = (r ≡ Stored (ticket x)) × (k ≡ none)
Same sh wd (dequeue z c) r k = (r ≡ queue.taken z.it) × (k ≡ some z.it)
Same sh wd (empty c) r k = (r ≡ Empty) × (k ≡ none)
Same sh wd (scan v) r k = ⊥

-- what the ledger has as marked by a call in progress: a take at 1 to 3 marked what is in its own node, others nothing
abbrev pub MarkOf : View → Worker → Option Item → Type 0
MarkOf v w k = record {
  holding : w.kind ≡ 1 → 1 ≤ w.stage → w.stage ≤ 3 → k ≡ some (item_in v w.own);
  clear : (w.kind ≡ 0) ⊎ (8 ≤ w.stage) → k ≡ none;
}

-- call c is in progress at some worker, or has ended
abbrev pub Status : ℕ → (ℕ → Worker) → (ℕ → End) → ℕ → Type 0
Status W T end c = Live W T c ⊎ ((s : ℕ) × (end c ≡ ended s))

abbrev pub Agrees : (sh : Shape) (wd : 1 ≤ sh.width) → View → (ℕ → Worker) → Ghost (keys sh wd) → Ledger → Type 0
Agrees sh wd v T g L = record {
  started : v.started ≡ L.started;
  what : (c : ℕ) → g.what c ≡ item_asked (L.asked c);
  finish : (c : ℕ) → L.ended c ≡ ended_at (g.hist.end c);
  said : (c s : ℕ) → g.hist.end c ≡ ended s → Same sh wd (g.said c) (L.response c) (L.marked c);
  calls : (j : ℕ) → j < sh.workers → (T j).stage ≢ 0 → L.call_of j ≡ (T j).ticket;
  marks : (j : ℕ) → j < sh.workers → (T j).stage ≢ 0 → MarkOf v (T j) (L.marked (T j).ticket);
  status : (c : ℕ) → 1 ≤ c → c ≤ v.started → Status sh.workers T g.hist.end c;
  fresh : (c : ℕ) → (c ≡ 0) ⊎ (v.started < c) → L.marked c ≡ none;
}

module _ (sh : Shape) (wd : 1 ≤ sh.width) (v : View) (T : ℕ → Worker) (g : Ghost (keys sh wd)) (L : Ledger) (A : Agrees sh wd v T g L) (i : ℕ)
    (l : i < sh.workers) where
  -- ── a start: worker i was idle, no call has the new ticket, other calls' items stay ──
  pub agrees_start : (v' : View) (w : Worker) (call : queue.Call) (d : Option Item) → item_asked call ≡ d → (T i).stage ≡ 0 → w.stage ≢ 0
      → w.ticket ≡ v.started + 1 → v'.started ≡ v.started + 1
      → (w.kind ≡ 1 → 1 ≤ w.stage → w.stage ≤ 3 → ⊥)
      → ((j : ℕ) → j < sh.workers → (T j).stage ≢ 0 → ((T j).ticket ≤ v.started) × ((T j).kind ≡ 1 → 1 ≤ (T j).stage → (T j).stage ≤ 3
      → item_in v' (T j).own ≡ item_in v (T j).own))
      → Agrees sh wd v' (with_record T i w) (logs g (v.started + 1) d) (begins i call L)
  agrees_start v' w call d e idle begins new up not-holding others = record {
    started = up ∙ ap (λ n. n + 1) A.started;
    what = λ c. asked c;
    finish = A.finish;
    said = A.said;
    calls = λ j. calls j;
    marks = upd_cases (λ j u. j < sh.workers → u.stage ≢ 0 → MarkOf v' u (L.marked u.ticket)) T i w
        (λ h b. record { holding = λ z p q. absurd (not-holding z p q); clear = λ z. A.fresh w.ticket (inr (omega arith)) })
        (λ j u h b. let m = A.marks j h b in record { holding = λ z p q. m.holding z p q ∙ ap some (sym ((others j h b).1 z p q)); clear = m.clear });
    status = λ c lo hi. by_size v.started c (λ h. begun c (omega arith)) (λ h. moved c (A.status c lo h));
    fresh = λ c h. A.fresh c (new_or_0 c h);
  }
    where
      new_or_0 : (c : ℕ) → (c ≡ 0) ⊎ (v'.started < c) → (c ≡ 0) ⊎ (v.started < c)
      new_or_0 c (inl z) = inl z
      new_or_0 c (inr h) = inr (omega arith)

      begun : (c : ℕ) → c ≡ v.started + 1 → Status sh.workers (with_record T i w) g.hist.end c
      begun c q =
          let same : with_record T i w i ≡ w = upd_same i i w (T i) refl in
          inl (i, l, subst (λ (u : Worker). u.stage ≢ 0) (sym same) begins, ap (λ (u : Worker). u.ticket) same ∙ new ∙ sym q)

      asked : (c : ℕ) → cond (eqb (v.started + 1) c) d (g.what c) ≡ item_asked (cond (eqb (L.started + 1) c) call (L.asked c))
      asked c = rw (← A.started) (go (eqb (v.started + 1) c))
        where
          go : (b : Bool) → cond b d (g.what c) ≡ item_asked (cond b call (L.asked c))
          go true = sym e
          go false = A.what c

      calls : (j : ℕ) → j < sh.workers → (with_record T i w j).stage ≢ 0 → cond (eqb i j) (L.started + 1) (L.call_of j) ≡ (with_record T i w j).ticket
      calls j h b = go (eqb i j) refl b
        where
          go : (t : Bool) → eqb i j ≡ t → (cond t w (T j)).stage ≢ 0 → cond t (L.started + 1) (L.call_of j) ≡ (cond t w (T j)).ticket
          go true q b = ap (λ n. n + 1) (sym A.started) ∙ sym new
          go false q b = A.calls j h b

      moved : (c : ℕ) → Status sh.workers T g.hist.end c → Status sh.workers (with_record T i w) g.hist.end c
      moved c (inr x) = inr x
      moved c (inl (j, h, b, q)) = inl (j, h, subst (λ u. u.stage ≢ 0) (sym (same j b)) b, ap (λ (u : Worker). u.ticket) (same j b) ∙ q)
        where
          same : (j : ℕ) → (T j).stage ≢ 0 → with_record T i w j ≡ T j
          same j b = upd_other i j w (T j) (λ q. b (ap (λ n. (T n).stage) (sym q) ∙ idle))

  -- ── a turn of worker i, whose call has the ticket c ──
  module _ (busy : (T i).stage ≢ 0) (positive : 1 ≤ (T i).ticket) (small : (T i).ticket ≤ v.started)
      (apart : (j : ℕ) → j < sh.workers → j ≢ i → (T j).stage ≢ 0 → (T j).ticket ≢ (T i).ticket) (runs : g.hist.end (T i).ticket ≡ running)
      (s : List ℕ) (v-is : v ≡ view sh s) (o : Outcome) (E : Effect sh s (T i) o) (g' : Ghost (keys sh wd))
      (same_start : (updates o.writes (view sh s)).started ≡ (view sh s).started) where
    abbrev v' : View
    v' = updates o.writes (view sh s)

    abbrev w' : Worker
    w' = o.worker

    items : (n : ℕ) → item_in (updates o.writes (view sh s)) n ≡ item_in v n
    items n = E.items n ∙ ap (λ (x : View). item_in x n) (sym v-is)

    start : (updates o.writes (view sh s)).started ≡ v.started
    start = same_start ∙ ap (λ (x : View). x.started) (sym v-is)

    -- the agreement after the turn, from what the turn did to the two accounts
    pub after : (L' : Ledger) → L'.started ≡ L.started → L'.asked ≡ L.asked → L'.call_of ≡ L.call_of → g'.what ≡ g.what
        → ((c : ℕ) → L'.ended c ≡ ended_at (g'.hist.end c))
        → ((c t : ℕ) → g'.hist.end c ≡ ended t → Same sh wd (g'.said c) (L'.response c) (L'.marked c))
        → ((c : ℕ) → c ≢ (T i).ticket → L'.marked c ≡ L.marked c)
        → (o.worker.stage ≢ 0 → MarkOf (updates o.writes (view sh s)) o.worker (L'.marked o.worker.ticket))
        → (o.worker.stage ≢ 0) ⊎ ((t : ℕ) × (g'.hist.end (T i).ticket ≡ ended t)) → ((c t : ℕ) → g.hist.end c ≡ ended t → g'.hist.end c ≡ ended t)
        → Agrees sh wd (updates o.writes (view sh s)) (with_record T i o.worker) g' L'
    after L' e-started e-asked e-call e-what finish said other mine goes kept = record {
      started = start ∙ A.started ∙ sym e-started;
      what = λ c. ap (λ (f : ℕ → Option Item). f c) e-what ∙ A.what c ∙ ap (λ (f : ℕ → queue.Call). item_asked (f c)) (sym e-asked);
      finish = finish;
      said = said;
      calls =
          upd_cases (λ j u. j < sh.workers → u.stage ≢ 0 → L'.call_of j ≡ u.ticket) T i w'
          (λ h b. ap (λ (f : ℕ → ℕ). f i) e-call ∙ A.calls i l busy ∙ sym E.ticket) (λ j u h b. ap (λ (f : ℕ → ℕ). f j) e-call
          ∙ A.calls j h b);
      marks = upd_cases (λ j u. j < sh.workers → u.stage ≢ 0 → MarkOf v' u (L'.marked u.ticket)) T i w' (λ h b. mine b)
          (λ j u h b. let m = A.marks j h b in let q = other (T j).ticket (apart j h u b) in
          record { holding = λ z x y. q ∙ m.holding z x y ∙ ap some (sym (items (T j).own)); clear = λ z. q ∙ m.clear z });
      status = λ c lo hi. status c lo (omega (arith, start)) (eqb (T i).ticket c) refl;
      fresh = λ c h. fresh c h;
    }
      where
        still_there : (d : ℕ) → d ≢ (T i).ticket → Status sh.workers T g.hist.end d
            → Status sh.workers (with_record T i o.worker) g'.hist.end d
        still_there d u (inr (t, e)) = inr (t, kept d t e)
        still_there d u (inl (j, h, b, q)) =
            let same : with_record T i o.worker j ≡ T j = upd_other i j o.worker (T j) (λ e. u (sym q ∙ ap (λ n. (T n).ticket) (sym e))) in
            inl (j, h, subst (λ (y : Worker). y.stage ≢ 0) (sym same) b, ap (λ (y : Worker). y.ticket) same ∙ q)

        here_now : with_record T i o.worker i ≡ o.worker
        here_now = upd_same i i o.worker (T i) refl

        own : (d : ℕ) → (T i).ticket ≡ d → (o.worker.stage ≢ 0) ⊎ ((t : ℕ) × (g'.hist.end (T i).ticket ≡ ended t))
            → Status sh.workers (with_record T i o.worker) g'.hist.end d
        own d q (inl b) = inl (i, l, subst (λ (y : Worker). y.stage ≢ 0) (sym here_now) b, ap (λ (y : Worker). y.ticket) here_now ∙ E.ticket ∙ q)
        own d q (inr (t, e)) = inr (t, subst (λ n. g'.hist.end n ≡ ended t) q e)

        status : (c : ℕ) → 1 ≤ c → c ≤ v.started → (b : Bool) → eqb (T i).ticket c ≡ b
            → Status sh.workers (with_record T i o.worker) g'.hist.end c
        status c lo hi true q = own c (eqb-true (T i).ticket c q) goes
        status c lo hi false q = still_there c (λ z. eqb-false (T i).ticket c q (sym z)) (A.status c lo hi)

        fresh : (c : ℕ) → (c ≡ 0) ⊎ ((updates o.writes (view sh s)).started < c) → L'.marked c ≡ none
        fresh c (inl z) = other c (λ q. omega arith) ∙ A.fresh c (inl z)
        fresh c (inr h) = other c (λ q. omega (arith, start)) ∙ A.fresh c (inr (omega (arith, start)))

    -- a record of the same role has the same mark
    pub same_mark : SameRole (T i) o.worker → MarkOf (updates o.writes (view sh s)) o.worker (L.marked o.worker.ticket)
    same_mark r = record {
      holding = λ z p q. let (a, b) = r.search (sym r.kind ∙ z) p q in
          ap L.marked E.ticket ∙ (A.marks i l busy).holding (sym r.kind ∙ z) a b ∙ ap (λ n. some (item_in v n)) (sym r.own) ∙ ap some
          (sym (items w'.own));
      clear = λ z. ap L.marked E.ticket ∙ (A.marks i l busy).clear (role z);
    }
      where
        role : (o.worker.kind ≡ 0) ⊎ (8 ≤ o.worker.stage) → ((T i).kind ≡ 0) ⊎ (8 ≤ (T i).stage)
        role (inl z) = inl (sym r.kind ∙ z)
        role (inr z) = inr (r.walk z)

    still : {c t : ℕ} → g'.hist.end ≡ g.hist.end → g.hist.end c ≡ ended t → g'.hist.end c ≡ ended t
    still {c} e q = ap (λ (f : ℕ → End). f c) e ∙ q

    -- nothing ended
    pub agrees_on : (L' : Ledger) → L'.started ≡ L.started → L'.asked ≡ L.asked → L'.call_of ≡ L.call_of → L'.ended ≡ L.ended → L'.response ≡ L.response
        → o.response ≡ On → Still g g' → ((c : ℕ) → c ≢ (T i).ticket → L'.marked c ≡ L.marked c)
        → MarkOf (updates o.writes (view sh s)) o.worker (L'.marked o.worker.ticket)
        → Agrees sh wd (updates o.writes (view sh s)) (with_record T i o.worker) g' L'
    agrees_on L' e1 e2 e3 e4 e5 on (e, w, sd) other mine =
        after L' e1 e2 e3 w (λ c. ap (λ (f : ℕ → Option ℕ). f c) e4 ∙ A.finish c ∙ ap (λ (f : ℕ → End). ended_at (f c)) (sym e))
        (λ c t h. said c t (ap (λ (f : ℕ → End). f c) (sym e) ∙ h)) other (λ b. mine) (inl (E.goes_on on)) (λ c t q. still e q)
      where
        -- a call that had ended is not this one
        not_this : (c t : ℕ) → g.hist.end c ≡ ended t → c ≢ (T i).ticket
        not_this c t h q = absurd (let z : running ≡ ended t = sym runs ∙ ap g.hist.end (sym q) ∙ h in let y : ◌≡◌ {A = ℕ} 0 1 = cc in omega arith)

        said : (c t : ℕ) → g.hist.end c ≡ ended t → Same sh wd (g'.said c) (L'.response c) (L'.marked c)
        said c t h =
            subst (λ (f : ℕ → Entry (keys sh wd)). Same sh wd (f c) (L'.response c) (L'.marked c)) (sym sd)
            (subst (λ (f : ℕ → Response). Same sh wd (g.said c) (f c) (L'.marked c)) (sym e5)
            (subst (λ k. Same sh wd (g.said c) (L.response c) k) (sym (other c (not_this c t h))) (A.said c t h)))

    -- the call ended with the entry ent
    pub agrees_end : (ent : Entry (keys sh wd)) (r : Response) (more-stored more-taken : ℕ)
        → Closes g g' (updates o.writes (view sh s)).started (T i).ticket ent → Same sh wd ent r (L.marked (T i).ticket)
        → SameRole (T i) o.worker → Agrees sh wd (updates o.writes (view sh s)) (with_record T i o.worker) g' (ends i r more-stored more-taken L)
    agrees_end ent r n₁ n₂ (e, w, sd) fine role =
        after (ends i r n₁ n₂ L) refl refl refl w
        (λ c. rw (A.calls i l busy) (finish c (eqb (T i).ticket c)) ∙ ap (λ (f : ℕ → End). ended_at (f c)) (sym e))
        (λ c t h. rw (A.calls i l busy) (subst (λ (f : ℕ → Entry (keys sh wd)). Same sh wd (f c) (cond (eqb (T i).ticket c) r (L.response c))
        (L.marked c)) (sym sd) (said c t (eqb (T i).ticket c) refl (ap (λ (f : ℕ → End). f c) (sym e) ∙ h))))
        (λ c u. refl) (λ b. same_mark role) (inr (
          v'.started,
          ap (λ (f : ℕ → End). f (T i).ticket) e ∙ upd_same (T i).ticket (T i).ticket (ended v'.started) (g.hist.end (T i).ticket) refl,
        ))
        (λ c t h. ap (λ (f : ℕ → End). f c) e ∙ kept c t h (eqb (T i).ticket c) refl)
      where
        finish : (c : ℕ) (b : Bool) → cond b (some L.started) (L.ended c) ≡ ended_at (cond b (ended (updates o.writes (view sh s)).started)
            (g.hist.end c))
        finish c true = ap some (sym (start ∙ A.started))
        finish c false = A.finish c

        said : (c t : ℕ) (b : Bool) → eqb (T i).ticket c ≡ b → cond b (ended (updates o.writes (view sh s)).started) (g.hist.end c) ≡ ended t
            → Same sh wd (cond b ent (g.said c)) (cond b r (L.response c)) (L.marked c)
        said c t true q h = subst (λ n. Same sh wd ent r (L.marked n)) (eqb-true (T i).ticket c q) fine
        said c t false q h = A.said c t h

        kept : (c t : ℕ) → g.hist.end c ≡ ended t → (b : Bool) → eqb (T i).ticket c ≡ b
            → cond b (ended (updates o.writes (view sh s)).started) (g.hist.end c) ≡ ended t
        kept c t h true q =
            absurd (let z : running ≡ ended t = sym runs ∙ ap g.hist.end (eqb-true (T i).ticket c q) ∙ h in let y : ◌≡◌ {A = ℕ} 0 1 = cc in omega arith)
        kept c t h false q = h

-- what sees says, by the test
not_seen : (sh : Shape) (m : Memory) (i : ℕ) (L : Ledger) → ((worker m.table i).stage ≡ 11 → link_holds sh m.store (worker m.table i) ≡ false)
    → sees sh m i L ≡ L
not_seen sh m i L h = go (eqb (worker m.table i).stage 11) refl
  where
    go : (b : Bool) → eqb (worker m.table i).stage 11 ≡ b
        → cond (b && link_holds sh m.store (worker m.table i)) (marks i (item_at sh m.store (worker m.table i).right) L) L ≡ L
    go true e = rw (h (eqb-true (worker m.table i).stage 11 e))
    go false e = refl

seen : (sh : Shape) (m : Memory) (i : ℕ) (L : Ledger) → (worker m.table i).stage ≡ 11 → link_holds sh m.store (worker m.table i) ≡ true
    → sees sh m i L ≡ marks i (item_at sh m.store (worker m.table i).right) L
seen sh m i L e h = rw (eq-eqb (worker m.table i).stage 11 e, h)

-- A TURN KEEPS THE AGREEMENT
pub agrees_step : (sh : Shape) (wd : 1 ≤ sh.width) (m : Memory) (g : Ghost (keys sh wd)) (L : Ledger) → let T = worker m.table in
    let v = view sh m.store in
    Agrees sh wd v T g L → (i : ℕ) → i < sh.workers → (T i).stage ≢ 0 → 1 ≤ (T i).ticket → (T i).ticket ≤ v.started
    → ((j : ℕ) → j < sh.workers → j ≢ i → (T j).stage ≢ 0 → (T j).ticket ≢ (T i).ticket) → g.hist.end (T i).ticket ≡ running
    → (T i).kind ≤ 1 → (4 ≤ (T i).stage → (T i).stage ≤ 7 → (T i).kind ≡ 0) → (8 ≤ (T i).stage → (T i).kind ≡ 1)
    → (o : Outcome) → Effect sh m.store (T i) o → (g' : Ghost (keys sh wd)) → (updates o.writes v).started ≡ v.started
    → Tells sh wd g g' (updates o.writes v).started (T i).ticket (item_in (updates o.writes v) (T i).own) o.response
    → Agrees sh wd (updates o.writes v) (with_record T i o.worker) g' (hears i o.response (sees sh m i L))
agrees_step sh wd m g L A i l busy positive small apart runs kind puts takes o E g' z tells = role E.role
  where
    T : ℕ → Worker
    T = worker m.table

    v : View
    v = view sh m.store

    -- the same role: by the response
    by_response : SameRole (worker m.table i) o.worker → (r : Response) → o.response ≡ r → Answered (worker m.table i) r
        → Tells sh wd g g' (updates o.writes (view sh m.store)).started (worker m.table i).ticket
        (item_in (updates o.writes (view sh m.store)) (worker m.table i).own) r
        → Agrees sh wd (updates o.writes (view sh m.store)) (with_record (worker m.table) i o.worker) g' (hears i r L)
    by_response same Opened e a t = absurd a
    by_response same (Begun k) e a t = absurd a
    by_response same On e a t =
        agrees_on sh wd v T g L A i l busy positive small apart runs m.store refl o E g' z L refl refl refl refl refl e t (λ c u. refl)
        (same_mark sh wd v T g L A i l busy positive small apart runs m.store refl o E g' z same)
    by_response same (Stored k) e (a, b) (q, d, closes) =
        agrees_end sh wd v T g L A i l busy positive small apart runs m.store refl o E g' z _ (Stored k) 1 0 closes
        (ap Stored (q ∙ sym d), (A.marks i l busy).clear (inl (puts (omega arith) b))) same
    by_response same (Took time path order distance energy) e (n, a, b) (q, closes) =
        agrees_end sh wd v T g L A i l busy positive small apart runs m.store refl o E g' z _ (Took time path order distance energy) 0 1 closes
        (q, (A.marks i l busy).holding (omega arith) a b ∙ ap some (sym (E.items (T i).own))) same
    by_response same Empty e a closes =
        agrees_end sh wd v T g L A i l busy positive small apart runs m.store refl o E g' z _ Empty 0 0 closes
        (refl, (A.marks i l busy).clear (inr (omega arith))) same
    by_response same (Refused k) e a t = absurd a

    -- a mark: the call goes on
    by_mark : Marks sh m.store (worker m.table i) o.worker → (r : Response) → o.response ≡ r → Answered (worker m.table i) r
        → Tells sh wd g g' (updates o.writes (view sh m.store)).started (worker m.table i).ticket
        (item_in (updates o.writes (view sh m.store)) (worker m.table i).own) r
        → Agrees sh wd (updates o.writes (view sh m.store)) (with_record (worker m.table) i o.worker) g'
        (hears i r (marks i (item_at sh m.store (worker m.table i).right) L))
    by_mark K Opened e a t = absurd a
    by_mark K (Begun k) e a t = absurd a
    by_mark K On e a t =
        let x : Item = item_at sh m.store (T i).right in
        agrees_on sh wd v T g L A i l busy positive small apart runs m.store refl o E g' z (marks i x L) refl refl refl refl refl e t
        (λ c u. upd_other (L.call_of i) c (some x) (L.marked c) (λ q. u (sym q ∙ A.calls i l busy)))
        (record {
          holding = λ y p q. upd_same (L.call_of i) o.worker.ticket (some x) (L.marked o.worker.ticket) (A.calls i l busy ∙ sym E.ticket)
              ∙ ap (λ n. some (item_in v n)) (sym K.own)
              ∙ ap some (sym (E.items o.worker.own));
          clear = λ y. absurd (neither y);
        })
      where
        neither : (o.worker.kind ≡ 0) ⊎ (8 ≤ o.worker.stage) → ⊥
        neither (inl y) = omega (arith, K.kind, takes (omega (arith, K.eleven)))
        neither (inr y) = omega (arith, K.stage)
    by_mark K (Stored k) e (a, b) t = absurd (omega (arith, K.eleven))
    by_mark K (Took time path order distance energy) e (n, a, b) t = absurd (omega (arith, K.eleven))
    by_mark K Empty e a t = absurd (omega (arith, K.eleven))
    by_mark K (Refused k) e a t = absurd a

    role : (SameRole (worker m.table i) o.worker × ((worker m.table i).stage ≡ 11 → link_holds sh m.store (worker m.table i) ≡ false))
        ⊎ Marks sh m.store (worker m.table i) o.worker
        → Agrees sh wd (updates o.writes (view sh m.store)) (with_record (worker m.table) i o.worker) g' (hears i o.response (sees sh m i L))
    role (inl (same, off)) =
        subst⁻¹ (λ (y : Ledger). Agrees sh wd (updates o.writes v) (with_record T i o.worker) g' (hears i o.response y)) (not_seen sh m i L off)
        (by_response same o.response refl E.answer tells)
    role (inr K) =
        subst⁻¹ (λ (y : Ledger). Agrees sh wd (updates o.writes v) (with_record T i o.worker) g' (hears i o.response y))
        (seen sh m i L K.eleven K.holds) (by_mark K o.response refl E.answer tells)
