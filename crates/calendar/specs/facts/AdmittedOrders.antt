-- All orders of a ledger's calls that may be a linearization, listed by a search: an order is built from the front, and a call
-- comes next only if no call that is left had ended before it started, the sequential queue answers as the pool did, and gives
-- an unfinished take what it has marked. The order of every linearization is in the list; where the list is empty, there is none.
--     is_finished, ended_before, same_reply     tests on calls
--     marks_that                              an unfinished call has marked what it is given
--     may_end, may_be_next                      what is left may be left out; a call may come next
--     orders_of, admitted                     the orders found; of a ledger
-- Assumes nothing.
use Rattle.std.specs.Prelude.{Bool, true, false, cond, not, ◌&&◌, ◌||◌, eqb, ltb}
use mathlib.Core.List.{List, [], ◌∷◌, ◌++◌, map}
use Rattle.std.proofs.Math.Option.{Option, none, some}
use Prim.Native.Nat.{ℕ, zero, suc}
use Rattle.arrival.specs.declared.Item.{Item}
use Rattle.arrival.specs.declared.Response.{Response}
use Rattle.arrival.specs.declared.Response.TheVariants.{Opened, Begun, On, Stored, Took, Empty, Refused}
use Rattle.arrival.specs.Queue.{Call, enqueue, dequeue, Reply, Items, dequeued, reply, after}
use Rattle.laws.specs.Lists.{without, up_to}
use Rattle.laws.specs.Lists.{same_numbers, all, gathered}
use Rattle.calendar.specs.rules.Ledger.{Ledger}
use Rattle.calendar.specs.rules.Linearizability.{pool_reply}

-- ── tests ──
abbrev pub is_finished : Option ℕ → Bool
is_finished none = false
is_finished (some s) = true

-- of a call that ended so: it had ended before x started
abbrev pub ended_before : Option ℕ → ℕ → Bool
ended_before none x = false
ended_before (some s) x = ltb s x

-- a response as numbers: its kind, and what it carries
abbrev pub numbers : Response → List ℕ
numbers Opened = 0 ∷ []
numbers (Begun c) = 1 ∷ c ∷ []
numbers On = 2 ∷ []
numbers (Stored c) = 3 ∷ c ∷ []
numbers (Took time path order distance energy) = 4 ∷ time ∷ path ∷ order ∷ distance ∷ energy ∷ []
numbers Empty = 5 ∷ []
numbers (Refused k) = 6 ∷ k ∷ []

abbrev pub same_reply : Reply → Reply → Bool
same_reply r q = eqb r.ticket q.ticket && same_numbers (numbers r.response) (numbers q.response)

abbrev pub marks_that : Call → Option Item → Reply → Bool
marks_that (enqueue x) k r = true
marks_that dequeue none r = false
marks_that dequeue (some x) r = same_reply r (dequeued (some x))

-- ── the search ──
-- what is left need not be there: none of it has finished
abbrev pub may_end : Ledger → List ℕ → Bool
may_end L rest = all (λ c. not (is_finished (L.ended c))) rest

-- c comes next, the queue holding S
abbrev pub may_be_next : Ledger → Items → List ℕ → ℕ → Bool
may_be_next L S rest c =
    all (λ y. not (ended_before (L.ended y) c)) (without c rest)
    && (not (is_finished (L.ended c)) || same_reply (reply S (L.asked c)) (pool_reply L c))
    && (is_finished (L.ended c) || marks_that (L.asked c) (L.marked c) (reply S (L.asked c)))

abbrev pub ended : Bool → List (List ℕ)
ended t = cond t ([] ∷ []) []

abbrev pub next : Bool → ℕ → List (List ℕ) → List (List ℕ)
next t c os = cond t (map (λ (o : List ℕ). c ∷ o) os) []

-- at most n calls more, out of the rest
unfoldable pub orders_of : Ledger → ℕ → Items → List ℕ → List (List ℕ)
orders_of L zero S rest = ended (may_end L rest)
orders_of L (suc n) S rest = ended (may_end L rest) ++ gathered
    (λ c. next (may_be_next L S rest c) c (orders_of L n (after S (L.asked c)) (without c rest))) rest

abbrev pub admitted : Ledger → List (List ℕ)
admitted L = orders_of L L.started [] (up_to L.started)
