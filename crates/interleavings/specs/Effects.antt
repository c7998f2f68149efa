-- What a turn does to what an onlooker sees: items and tickets stay, a call goes on or ends, a take comes to hold an item only
-- at 11. One match over the changes.
--     SameRole, Marks     a record that keeps its role; a take that has marked
--     Answered            by which stage and kind a call is answered
--     Effect, effect      what a turn does, and that every turn does
-- Assumes nothing.
use Rattle.std.specs.Prelude.{◌≡◌, refl, true, false, ◌≢◌, ◌⊎◌, List, [], ℕ, ◌≤◌}
use Rattle.std.proofs.Common.{sym, ◌∙◌, subst, inl, inr, arith}
use Rattle.arrival.specs.declared.Shape.{Shape}
use Rattle.arrival.specs.declared.Worker.{Worker}
use Rattle.arrival.specs.declared.Response.{Response}
use Rattle.arrival.specs.declared.Response.TheVariants.{Opened, Begun, On, Stored, Took, Empty, Refused}
use Rattle.calendar.specs.rules.Layout.{Write}
use Rattle.calendar.specs.rules.Outcome.{Outcome}
use Rattle.calendar.specs.rules.DequeueSteps.{link_holds}
use Rattle.calendar.specs.facts.Views.{view, updates, item_in}
use Rattle.calendar.proofs.facts.Changes.{Found, put_found, take_ends, Settled, at_end, still_on, Walked, out, out_last, meets, Change, head_read, mark_seen}
use Rattle.calendar.proofs.facts.Changes.{passed, stopped, unlinked, again_3, prepared, linked, again_5, stored_6, on_7, stored_7, back_6, current_read}
use Rattle.calendar.proofs.facts.Changes.{first_read, mark_passed, newer, on_11, marked, back_10, advanced, back_12, emptied, back_13}

-- the record keeps kind and own node, and comes neither into the search of a take nor into a walk from outside
abbrev pub SameRole : Worker → Worker → Type 0
SameRole w w' = record {
  kind : w'.kind ≡ w.kind;
  own : w'.own ≡ w.own;
  search : w.kind ≡ 1 → 1 ≤ w'.stage → w'.stage ≤ 3 → (1 ≤ w.stage) × (w.stage ≤ 3);
  walk : 8 ≤ w'.stage → 8 ≤ w.stage;
}

-- a take has marked right, and it is its own node now
abbrev pub Marks : Shape → List ℕ → Worker → Worker → Type 0
Marks sh s w w' = record {
  eleven : w.stage ≡ 11;
  holds : link_holds sh s w ≡ true;
  kind : w'.kind ≡ w.kind;
  own : w'.own ≡ w.right;
  stage : w'.stage ≡ 1;
}

-- by which stage and kind a call is answered
abbrev pub Answered : Worker → Response → Type 0
Answered w Opened = ⊥
Answered w (Begun k) = ⊥
Answered w On = Unit {0}
Answered w (Stored k) = (6 ≤ w.stage) × (w.stage ≤ 7)
Answered w (Took time path order distance energy) = (w.kind ≢ 0) × (1 ≤ w.stage) × (w.stage ≤ 3)
Answered w Empty = w.stage ≡ 13
Answered w (Refused k) = ⊥

pub record Effect (sh : Shape) (s : List ℕ) (w : Worker) (o : Outcome) : Type 0 where
  pub ticket : o.worker.ticket ≡ w.ticket
  pub items : (n : ℕ) → item_in (updates o.writes (view sh s)) n ≡ item_in (view sh s) n
  pub goes_on : o.response ≡ On → o.worker.stage ≢ 0
  pub answer : Answered w o.response
  pub role : (SameRole w o.worker × (w.stage ≡ 11 → link_holds sh s w ≡ false)) ⊎ Marks sh s w o.worker

-- a search or walk that is settled: over a record v that keeps what w has
record Sub (w : Worker) (ws : List Write) (o : Outcome) : Type 0 where
  ticket : o.worker.ticket ≡ w.ticket
  kind : o.worker.kind ≡ w.kind
  own : o.worker.own ≡ w.own
  writes : o.writes ≡ ws
  goes_on : o.response ≡ On → o.worker.stage ≢ 0

module _ (sh : Shape) (s : List ℕ) where
  found_sub : {ws : List Write} {v : Worker} {o : Outcome} → Found sh s ws v o → Sub v ws o
  found_sub (put_found e) = record { ticket = refl; kind = refl; own = refl; writes = refl; goes_on = λ q z. omega arith }
  found_sub (take_ends e) =
      record { ticket = refl; kind = refl; own = refl; writes = refl; goes_on = λ q. absurd (let z : ◌≡◌ {A = ℕ} 0 1 = cc in omega arith) }

  found_stage : {ws : List Write} {v : Worker} {o : Outcome} → Found sh s ws v o → o.worker.stage ≤ 4
  found_stage (put_found e) = omega arith
  found_stage (take_ends e) = omega arith

  -- a search is answered only by a take
  found_answer : {ws : List Write} {v : Worker} {o : Outcome} (w : Worker) → v.kind ≡ w.kind → 1 ≤ w.stage → w.stage ≤ 3 → Found sh s ws v o
      → Answered w o.response
  found_answer w k a b (put_found e) = tt
  found_answer w k a b (take_ends n) = (λ z. n (k ∙ z), a, b)

  settled_answer : {ws : List Write} {v : Worker} {o : Outcome} (w : Worker) → v.kind ≡ w.kind → 1 ≤ w.stage → w.stage ≤ 3 → Settled sh s ws v o
      → Answered w o.response
  settled_answer w k a b (at_end q f) = found_answer w k a b f
  settled_answer w k a b (still_on q) = tt

  walked_answer : {v : Worker} {o : Outcome} (w : Worker) → Walked sh s v o → Answered w o.response
  walked_answer w (out e f) = tt
  walked_answer w (out_last e f) = tt
  walked_answer w (meets e) = tt

  settled_sub : {ws : List Write} {v : Worker} {o : Outcome} → Settled sh s ws v o → Sub v ws o
  settled_sub (at_end q f) = found_sub f
  settled_sub (still_on q) = record { ticket = refl; kind = refl; own = refl; writes = refl; goes_on = λ q z. omega arith }

  settled_stage : {ws : List Write} {v : Worker} {o : Outcome} → Settled sh s ws v o → o.worker.stage ≤ 4
  settled_stage (at_end q f) = found_stage f
  settled_stage (still_on q) = omega arith

  walked_sub : {v : Worker} {o : Outcome} → Walked sh s v o → Sub v [] o
  walked_sub (out e f) = record { ticket = refl; kind = refl; own = refl; writes = refl; goes_on = λ q z. omega arith }
  walked_sub (out_last e f) = record { ticket = refl; kind = refl; own = refl; writes = refl; goes_on = λ q z. omega arith }
  walked_sub (meets e) = record { ticket = refl; kind = refl; own = refl; writes = refl; goes_on = λ q z. omega arith }

  walked_stage : {v : Worker} {o : Outcome} → Walked sh s v o → 10 ≤ o.worker.stage
  walked_stage (out e f) = omega arith
  walked_stage (out_last e f) = omega arith
  walked_stage (meets e) = omega arith

  unwritten : {ws : List Write} (n : ℕ) → ws ≡ [] → item_in (updates ws (view sh s)) n ≡ item_in (view sh s) n
  unwritten n e = subst (λ x. item_in (updates x (view sh s)) n ≡ item_in (view sh s) n) (sym e) refl

  module _ (w : Worker) where
    -- a stage of the search that stays in the search, or ends
    search_effect : {ws : List Write} {v : Worker} {o : Outcome} → Sub v ws o → v.ticket ≡ w.ticket → v.kind ≡ w.kind → v.own ≡ w.own
        → ((n : ℕ) → item_in (updates ws (view sh s)) n ≡ item_in (view sh s) n)
        → 1 ≤ w.stage → w.stage ≤ 3 → o.worker.stage ≤ 4 → Answered w o.response → Effect sh s w o
    search_effect {o} S t k e items a b c ans = record {
      ticket = S.ticket ∙ t;
      items = λ n. subst (λ x. item_in (updates x (view sh s)) n ≡ item_in (view sh s) n) (sym S.writes) (items n);
      goes_on = S.goes_on;
      answer = ans;
      role = inl (record { kind = S.kind ∙ k; own = S.own ∙ e; search = λ z p q. (a, b); walk = λ p. absurd (omega arith) }, λ q. absurd (omega arith));
    }

    walk_effect : {v : Worker} {o : Outcome} → Sub v [] o → v.ticket ≡ w.ticket → v.kind ≡ w.kind → v.own ≡ w.own → 9 ≤ w.stage → w.stage ≤ 10
        → 10 ≤ o.worker.stage → Answered w o.response → Effect sh s w o
    walk_effect S t k e a b c ans = record {
      ticket = S.ticket ∙ t;
      items = λ n. unwritten n S.writes;
      goes_on = S.goes_on;
      answer = ans;
      role = inl (record { kind = S.kind ∙ k; own = S.own ∙ e; search = λ z p q. absurd (omega arith); walk = λ p. omega arith }, λ q. absurd (omega arith));
    }

    -- a call that goes on, or is answered, outside a take's search; its writes leave every item by computation
    plain : (o : Outcome) → o.worker.ticket ≡ w.ticket → o.worker.kind ≡ w.kind → o.worker.own ≡ w.own
        → ((n : ℕ) → item_in (updates o.writes (view sh s)) n ≡ item_in (view sh s) n)
        → (o.response ≡ On → o.worker.stage ≢ 0) → (w.kind ≡ 1 → 1 ≤ o.worker.stage → o.worker.stage ≤ 3 → (1 ≤ w.stage) × (w.stage ≤ 3))
        → (8 ≤ o.worker.stage → 8 ≤ w.stage) → (w.stage ≡ 11 → link_holds sh s w ≡ false) → Answered w o.response → Effect sh s w o
    plain o t k e items g search walk h ans =
        record { ticket = t; items = items; goes_on = g; answer = ans; role = inl (record { kind = k; own = e; search = search; walk = walk }, h) }

    not_on : {r : Response} {n : ℕ} → (r ≡ On → ◌≡◌ {A = ℕ} 0 1) → r ≡ On → n ≢ 0
    not_on h e = absurd (let z : ◌≡◌ {A = ℕ} 0 1 = h e in omega arith)

    module _ (puts : 4 ≤ w.stage → w.stage ≤ 7 → w.kind ≡ 0) where
      pub effect : {o : Outcome} → Change sh s w o → Effect sh s w o
      effect (head_read q set) =
          search_effect (settled_sub set) refl refl refl (λ n. refl) (omega arith) (omega arith) (settled_stage set)
          (settled_answer w refl (omega arith) (omega arith) set)
      effect (mark_seen q t) =
          plain _ refl refl refl (λ n. refl) (λ e z. omega arith) (λ z p r. (omega arith, omega arith)) (λ p. absurd (omega arith))
          (λ e. absurd (omega arith)) tt
      effect (passed q t lt set) =
          search_effect (settled_sub set) refl refl refl (λ n. refl) (omega arith) (omega arith) (settled_stage set)
          (settled_answer w refl (omega arith) (omega arith) set)
      effect (stopped q t lt f) =
          search_effect (found_sub f) refl refl refl (λ n. refl) (omega arith) (omega arith) (found_stage f) (found_answer w refl (omega arith) (omega arith) f)
      effect (unlinked q t set) =
          search_effect (settled_sub set) refl refl refl (λ n. refl) (omega arith) (omega arith) (settled_stage set)
          (settled_answer w refl (omega arith) (omega arith) set)
      effect (again_3 q t) =
          plain _ refl refl refl (λ n. refl) (λ e z. omega arith) (λ z p r. (omega arith, omega arith)) (λ p. absurd (omega arith))
          (λ e. absurd (omega arith)) tt
      effect (prepared q) =
          plain _ refl refl refl (λ n. refl) (λ e z. omega arith) (λ z p r. absurd (omega arith)) (λ p. absurd (omega arith)) (λ e. absurd (omega arith)) tt
      effect (linked q t) =
          plain _ refl refl refl (λ n. refl) (λ e z. omega arith) (λ z p r. absurd (omega arith)) (λ p. absurd (omega arith)) (λ e. absurd (omega arith)) tt
      effect (again_5 q t) =
          plain _ refl refl refl (λ n. refl) (λ e z. omega arith) (λ z p r. absurd (omega (arith, puts (omega arith) (omega arith))))
          (λ p. absurd (omega arith)) (λ e. absurd (omega arith)) tt
      effect (stored_6 q t) =
          plain _ refl refl refl (λ n. refl) (not_on (λ e. cc)) (λ z p r. absurd (omega arith)) (λ p. absurd (omega arith)) (λ e. absurd (omega arith))
          (omega arith, omega arith)
      effect (on_7 q t) =
          plain _ refl refl refl (λ n. refl) (λ e z. omega arith) (λ z p r. absurd (omega arith)) (λ p. absurd (omega arith)) (λ e. absurd (omega arith)) tt
      effect (stored_7 q t) =
          plain _ refl refl refl (λ n. refl) (not_on (λ e. cc)) (λ z p r. absurd (omega arith)) (λ p. absurd (omega arith)) (λ e. absurd (omega arith))
          (omega arith, omega arith)
      effect (back_6 q t) =
          plain _ refl refl refl (λ n. refl) (λ e z. omega arith) (λ z p r. absurd (omega arith)) (λ p. absurd (omega arith)) (λ e. absurd (omega arith)) tt
      effect (current_read q) =
          plain _ refl refl refl (λ n. refl) (λ e z. omega arith) (λ z p r. absurd (omega arith)) (λ p. omega arith) (λ e. absurd (omega arith)) tt
      effect (first_read q wk) = walk_effect (walked_sub wk) refl refl refl (omega arith) (omega arith) (walked_stage wk) (walked_answer w wk)
      effect (mark_passed q t wk) = walk_effect (walked_sub wk) refl refl refl (omega arith) (omega arith) (walked_stage wk) (walked_answer w wk)
      effect (newer q t n) =
          plain _ refl refl refl (λ n. refl) (λ e z. omega arith) (λ z p r. absurd (omega arith)) (λ p. omega arith) (λ e. absurd (omega arith)) tt
      effect (on_11 q t n) =
          plain _ refl refl refl (λ n. refl) (λ e z. omega arith) (λ z p r. absurd (omega arith)) (λ p. omega arith) (λ e. absurd (omega arith)) tt
      effect (marked q t) =
          record {
            ticket = refl;
            items = λ n. refl;
            goes_on = λ e z. omega arith;
            answer = tt;
            role = inr (record { eleven = q; holds = t; kind = refl; own = refl; stage = refl });
          }
      effect (back_10 q t) = plain _ refl refl refl (λ n. refl) (λ e z. omega arith) (λ z p r. absurd (omega arith)) (λ p. omega arith) (λ e. t) tt
      effect (advanced q t) =
          plain _ refl refl refl (λ n. refl) (λ e z. omega arith) (λ z p r. absurd (omega arith)) (λ p. omega arith) (λ e. absurd (omega arith)) tt
      effect (back_12 q t) =
          plain _ refl refl refl (λ n. refl) (λ e z. omega arith) (λ z p r. absurd (omega arith)) (λ p. omega arith) (λ e. absurd (omega arith)) tt
      effect (emptied q t) =
          plain _ refl refl refl (λ n. refl) (not_on (λ e. cc)) (λ z p r. absurd (omega arith)) (λ p. absurd (omega arith)) (λ e. absurd (omega arith)) q
      effect (back_13 q t) =
          plain _ refl refl refl (λ n. refl) (λ e z. omega arith) (λ z p r. absurd (omega arith)) (λ p. omega arith) (λ e. absurd (omega arith)) tt
