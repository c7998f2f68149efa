-- What a finished call met, by the linearization: what the queue held when its turn came.
--     time_apart, time_behind      real time, of the front of an order and what stands behind it
--     MarkedByAnother              another take has marked an arrival
--     one_put, marked_is           a ticket tells an arrival from others
--     Met, met                     what the queue held; what had been put before is there, or another take has marked it
--     marks_takes, met_taken       what has marked an arrival is a take, and took the lowest;
--     met_empty                    empty means that there was none
-- Assumes nothing.
use Rattle.std.specs.Prelude.{◌≡◌, refl, ◌≢◌, ◌⊎◌, ℕ}
use Rattle.std.proofs.Common.{sym, ap, ◌∙◌, subst, inl, inr, arith}
use Rattle.std.proofs.Math.Option.{Option, none, some}
use mathlib.Core.List.Memᴰ
use mathlib.Core.List.Memᴰ.{head as here}
use mathlib.Core.List.{List, [], ◌∷◌, ◌++◌, Memᴰ as Mem}
use Rattle.arrival.specs.declared.Shape.{Shape}
use Rattle.arrival.specs.declared.Item.{Item}
use Rattle.arrival.specs.declared.Response.TheVariants.{Stored, Empty}
use Rattle.arrival.specs.Queue.{Call, enqueue, dequeue, Reply, Items, lowest, dequeued, reply}
use Rattle.arrival.proofs.QueueLaws.{lowest_in}
use Rattle.laws.specs.Lists.{Once, once_apart, mem_split}
use Rattle.calendar.specs.rules.Operations.{Memory}
use Rattle.calendar.specs.rules.Ledger.{Ledger}
use Rattle.calendar.specs.rules.Linearizability.{Finished, EndedBefore, RespectsTime, mark_ticket, pool_reply, Correct}
use Rattle.taken_list.specs.Promises.{PutBefore}
use Rattle.taken_list.proofs.LedgerLaws.{Lawful}
use Rattle.taken_list.proofs.Along.{remaining, Fits, fits, fits_front, fits_behind, Put, Marked, remaining_put, in_or_marked}

-- ── real time ──
time_apart : (L : Ledger) (o p : List ℕ) (a b : ℕ) → RespectsTime L (o ++ p) → Mem a o → Mem b p → EndedBefore L b a → ⊥
time_apart L [] p a b t i j = absurd (Memᴰ.not-nil i)
time_apart L (c ∷ o) p a b t i j = go (Memᴰ.cases_cons i) (λ k. time_apart L o p a b t.1 k j)
  where
    go : (a ≡ c) ⊎ Mem a o → (Mem a o → EndedBefore L b a → ⊥) → EndedBefore L b a → ⊥
    go (inl e) rec q = t.0 b (Memᴰ.append_right o j) (subst (λ n. EndedBefore L b n) e q)
    go (inr k) rec q = rec k q

pub time_behind : (L : Ledger) (o p : List ℕ) → RespectsTime L (o ++ p) → RespectsTime L p
time_behind L [] p t = t
time_behind L (c ∷ o) p t = time_behind L o p t.1

-- another take than d has marked x, and did not start after d's end
abbrev pub MarkedByAnother : Ledger → ℕ → Item → Type 0
MarkedByAnother L d x = (e : ℕ) × (e ≢ d) × (L.marked e ≡ some x) × (EndedBefore L d e → ⊥)

module _ (sh : Shape) (m : Memory) (L : Ledger) (C : Correct sh m L) (G : Lawful sh L) where
  -- two arrivals of one ticket are one
  pub one_put : (x y : Item) → L.asked x.ticket ≡ enqueue x → L.asked y.ticket ≡ enqueue y → x.ticket ≡ y.ticket → x ≡ y
  one_put x y a b t = let e : enqueue x ≡ enqueue y = sym a ∙ ap L.asked t ∙ b in cc

  pub marked_is : (e : ℕ) (x : Item) → L.asked x.ticket ≡ enqueue x → mark_ticket (L.marked e) ≡ x.ticket → L.marked e ≡ some x
  marked_is e x a t = go (L.marked e) refl t
    where
      go : (o : Option Item) → L.marked e ≡ o → mark_ticket o ≡ x.ticket → o ≡ some x
      go none k t = absurd (omega (arith, (G.put x.ticket x a).1))
      go (some w) k t = ap some (one_put w x (C.marked_put e w k) a t)

  -- what call d met
  pub record Met (d : ℕ) : Type 0 where
    pub items : Items
    pub replied : reply items (L.asked d) ≡ pool_reply L d
    pub were_put : (x : Item) → Mem x items → L.asked x.ticket ≡ enqueue x
    pub there_or_marked : (x : Item) → PutBefore L x d → Mem x items ⊎ MarkedByAnother L d x

  pub met : (d : ℕ) → Finished L d → Met d
  met d f = at (mem_split d C.linearization.order (C.linearization.finished d f))
    where
      at : (front : List ℕ) × (rest : List ℕ) × (C.linearization.order ≡ front ++ (d ∷ rest)) → Met d
      at (front, rest, e) = record {
        items = remaining L [] front;
        replied = (fits_behind L [] front (d ∷ rest) F).0.0 f;
        were_put = λ x i. put x (remaining_put L [] front x i);
        there_or_marked = λ x (a, (s, q, l)). place x a (s, q, omega arith) (Memᴰ.append_cases front
            (subst (λ (o : List ℕ). Mem x.ticket o) e (C.linearization.finished x.ticket (s, q))));
      }
        where
          F : Fits L [] (front ++ (d ∷ rest))
          F = subst (λ (o : List ℕ). Fits L [] o) e (fits L [] C.linearization.order C.linearization.agrees C.linearization.marked_ahead)

          T : RespectsTime L (front ++ (d ∷ rest))
          T = subst (λ (o : List ℕ). RespectsTime L o) e C.linearization.real_time

          O : Once (front ++ (d ∷ rest))
          O = subst (λ (o : List ℕ). Once o) e C.linearization.once

          put : (x : Item) → Mem x [] ⊎ Put L front x → L.asked x.ticket ≡ enqueue x
          put x (inl i) = absurd (Memᴰ.not-nil i)
          put x (inr (c, i, a)) = ap L.asked (G.put c x a).0 ∙ a

          marked : (x : Item) → L.asked x.ticket ≡ enqueue x → Mem x (remaining L [] front) ⊎ Marked L front x.ticket
              → Mem x (remaining L [] front) ⊎ MarkedByAnother L d x
          marked x a (inl i) = inl i
          marked x a (inr (c, i, q, t)) =
              inr (c, once_apart front (d ∷ rest) c d O i (here refl), marked_is c x a t, time_apart L front (d ∷ rest) c d T i (here refl))

          -- a put that had ended before d started stands in front of it
          place : (x : Item) → L.asked x.ticket ≡ enqueue x → EndedBefore L x.ticket d → Mem x.ticket front ⊎ Mem x.ticket (d ∷ rest)
              → Mem x (remaining L [] front) ⊎ MarkedByAnother L d x
          place x a before (inl i) = marked x a (in_or_marked L [] front x (fits_front L [] front (d ∷ rest) F) (inr (x.ticket, i, a)))
          place x a (s, q, l) (inr i) = absurd (behind (Memᴰ.cases_cons i))
            where
              behind : (x.ticket ≡ d) ⊎ Mem x.ticket rest → ⊥
              behind (inl z) = omega (arith, (G.ended x.ticket s q).0)
              behind (inr j) = (time_behind L front (d ∷ rest) T).0 x.ticket j (s, q, omega arith)

  -- what has marked y is a take
  pub marks_takes : (d : ℕ) (y : Item) → Met d → L.marked d ≡ some y → L.asked d ≡ dequeue
  marks_takes d y M k = by_call (L.asked d) refl
    where
      by_call : (c : Call) → L.asked d ≡ c → c ≡ dequeue
      by_call (enqueue z) e =
          let t : 0 ≡ y.ticket = sym (ap (λ (u : Call). (reply M.items u).ticket) e) ∙ ap (λ (r : Reply). r.ticket) M.replied ∙ ap mark_ticket k in
          absurd (omega (arith, (G.put y.ticket y (C.marked_put d y k)).1))
      by_call dequeue e = refl

  -- and took the lowest
  pub met_taken : (d : ℕ) (y : Item) (M : Met d) → L.marked d ≡ some y → lowest M.items ≡ some y
  met_taken d y M k =
      by_lowest (lowest M.items) refl
      (sym (ap (λ (u : Call). (reply M.items u).ticket) (marks_takes d y M k)) ∙ ap (λ (r : Reply). r.ticket) M.replied ∙ ap mark_ticket k)
    where
      put : L.asked y.ticket ≡ enqueue y
      put = C.marked_put d y k

      by_lowest : (o : Option Item) → lowest M.items ≡ o → (dequeued o).ticket ≡ y.ticket → o ≡ some y
      by_lowest none e t = absurd (omega (arith, (G.put y.ticket y put).1))
      by_lowest (some z) e t = ap some (one_put z y (M.were_put z (lowest_in M.items z e)) put t)

  -- one that answered empty met nothing
  pub met_empty : (d : ℕ) (M : Met d) → L.response d ≡ Empty → lowest M.items ≡ none
  met_empty d M r = by_call (L.asked d) refl
    where
      said : (reply M.items (L.asked d)).response ≡ Empty
      said = ap (λ (u : Reply). u.response) M.replied ∙ r

      by_lowest : (o : Option Item) → (dequeued o).response ≡ Empty → o ≡ none
      by_lowest none e = refl
      by_lowest (some z) e = absurd (let q : ◌≡◌ {A = ℕ} 0 1 = cc in omega arith)

      by_call : (c : Call) → L.asked d ≡ c → lowest M.items ≡ none
      by_call (enqueue z) e =
          let t : Stored z.ticket ≡ Empty = sym (ap (λ (u : Call). (reply M.items u).response) e) ∙ said in
          absurd (let q : ◌≡◌ {A = ℕ} 0 1 = cc in omega arith)
      by_call dequeue e = by_lowest (lowest M.items) (sym (ap (λ (u : Call). (reply M.items u).response) e) ∙ said)
