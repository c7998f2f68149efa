-- Guards of the statement of demand 3: ledgers that no correct pool leaves have no linearization, and beside each a ledger that
-- has at most one. Assumes nothing.
use Rattle.std.specs.Prelude.{◌≡◌, refl, ℕ}
use Rattle.std.proofs.Common.{subst}
use mathlib.Core.List.Memᴰ
use mathlib.Core.List.{List, [], ◌∷◌, Memᴰ}
use Rattle.arrival.specs.declared.Item.{Item}
use Rattle.arrival.specs.declared.Response.TheVariants.{Stored, Empty}
use Rattle.arrival.specs.Keys.{lower}
use Rattle.arrival.specs.Energy.{energy_of}
use Rattle.arrival.specs.Queue.{enqueue, dequeue, taken}
use Rattle.laws.specs.Lists.{below}
use Rattle.calendar.specs.rules.Ledger.{Ledger, new, begins, ends, marks}
use Rattle.calendar.specs.rules.Linearizability.{Linearization}
use Rattle.calendar.specs.facts.AdmittedOrders.{orders_of, admitted}
use Rattle.calendar.proofs.facts.AdmittedOrders.{linearization_admitted}

-- ── from the list of orders to linearizations ──
pub none_there : (L : Ledger) → admitted L ≡ [] → Linearization L → ⊥
none_there L e X = Memᴰ.not-nil (subst (λ (os : List (List ℕ)). Memᴰ X.order os) e (linearization_admitted L X))

pub forced : (L : Ledger) (o : List ℕ) → admitted L ≡ o ∷ [] → (X : Linearization L) → X.order ≡ o
forced L o e X = Memᴰ.eq_of_singleton (subst (λ (os : List (List ℕ)). Memᴰ X.order os) e (linearization_admitted L X))

-- ── ledgers, written call by call ──
-- an arrival by time and ticket
pub item : ℕ → ℕ → Item
item time ticket = record { time = time; path = 7; order = 1; distance = 3; ticket = ticket }

-- one of time 10, by reflection order and ticket
pub of_order : ℕ → ℕ → Item
of_order order ticket = record { time = 10; path = 7; order = order; distance = 3; ticket = ticket }

-- worker i's put, whole; its take begins, and ends with x or empty
pub stores : ℕ → Item → Ledger → Ledger
stores i x L = ends i (Stored x.ticket) 1 0 (begins i (enqueue x) L)

pub asks : ℕ → Ledger → Ledger
asks i L = begins i dequeue L

pub takes : ℕ → Item → Ledger → Ledger
takes i x L = ends i (taken x) 0 1 (marks i x L)

pub finds_none : ℕ → Ledger → Ledger
finds_none i L = ends i Empty 0 0 L

-- 10 and 20 are stored; the taker of worker 0 has read current and pauses; 12 and then 15 are stored; others take 10 and 12; the
-- paused taker takes x.
pub paused : Item → Ledger
paused x =
    takes 0 x
    (takes 1 (item 12 4) (asks 1
    (takes 1 (item 10 1) (asks 1
    (stores 1 (item 15 5)
    (stores 1 (item 12 4)
    (asks 0
    (stores 1 (item 20 2)
    (stores 1 (item 10 1) new)))))))))

-- two arrivals are stored, a and then b; one after the other x and y are taken
pub pair : Item → Item → Item → Item → Ledger
pair a b x y = takes 0 y (asks 0 (takes 0 x (asks 0 (stores 0 b (stores 0 a new)))))

-- an arrival is stored, and a take that starts later finds none
pub emptied : Ledger
emptied = finds_none 1 (asks 1 (stores 0 (item 10 1) new))

-- an arrival is taken before its put has ended
pub unfinished : Ledger
unfinished = takes 1 (item 10 1) (asks 1 (begins 0 (enqueue (item 10 1)) new))

-- an arrival is stored, a take begins and has marked what f says, and another take that starts then finds none
pub taking : (Ledger → Ledger) → Ledger
taking f = finds_none 1 (asks 1 (f (asks 0 (stores 1 (item 10 1) new))))

-- ── what they admit ──
-- PASSING OVER 15 AND TAKING 20: no order
pub passed_over : Linearization (paused (item 20 2)) → ⊥
unfolding paused item stores asks takes orders_of below lower energy_of
passed_over = none_there (paused (item 20 2)) refl

-- taking 15: one order
pub not_passed_over : (X : Linearization (paused (item 15 5))) → X.order ≡ 1 ∷ 2 ∷ 4 ∷ 5 ∷ 6 ∷ 7 ∷ 3 ∷ []
unfolding paused item stores asks takes orders_of below lower energy_of
not_passed_over = forced (paused (item 15 5)) _ refl

-- the later of two equal arrivals first: no order, though all answers read the same
pub later_twin_first : Linearization (pair (item 10 1) (item 10 2) (item 10 2) (item 10 1)) → ⊥
unfolding pair item stores asks takes orders_of below lower energy_of
later_twin_first = none_there (pair (item 10 1) (item 10 2) (item 10 2) (item 10 1)) refl

pub earlier_twin_first : (X : Linearization (pair (item 10 1) (item 10 2) (item 10 1) (item 10 2))) → X.order ≡ 1 ∷ 2 ∷ 3 ∷ 4 ∷ []
unfolding pair item stores asks takes orders_of below lower energy_of
earlier_twin_first = forced (pair (item 10 1) (item 10 2) (item 10 1) (item 10 2)) _ refl

-- a first reflection before the direct sound of its time, since it was put earlier: no order
pub reflection_first : Linearization (pair (of_order 1 1) (of_order 0 2) (of_order 1 1) (of_order 0 2)) → ⊥
unfolding pair of_order stores asks takes orders_of below lower energy_of
reflection_first = none_there (pair (of_order 1 1) (of_order 0 2) (of_order 1 1) (of_order 0 2)) refl

-- the direct sound before it: one order
pub direct_sound_first : (X : Linearization (pair (of_order 1 1) (of_order 0 2) (of_order 0 2) (of_order 1 1))) → X.order ≡ 1 ∷ 2 ∷ 3 ∷ 4 ∷ []
unfolding pair of_order stores asks takes orders_of below lower energy_of
direct_sound_first = forced (pair (of_order 1 1) (of_order 0 2) (of_order 0 2) (of_order 1 1)) _ refl

-- empty after something was stored: no order
pub not_empty : Linearization emptied → ⊥
unfolding emptied item stores asks finds_none orders_of below lower energy_of
not_empty = none_there emptied refl

-- the unfinished put has to be added
pub put_added : (X : Linearization unfinished) → X.order ≡ 1 ∷ 2 ∷ []
unfolding unfinished item asks takes orders_of below lower energy_of
put_added = forced unfinished _ refl

-- an unfinished take that has marked nothing takes nothing: no order
pub nothing_in_hand : Linearization (taking (λ L. L)) → ⊥
unfolding taking item stores asks finds_none orders_of below lower energy_of
nothing_in_hand = none_there (taking (λ L. L)) refl

-- one that has marked the arrival has it in hand
pub in_hand_lem : (X : Linearization (taking (marks 0 (item 10 1)))) → X.order ≡ 1 ∷ 2 ∷ 3 ∷ []
unfolding taking item stores asks finds_none orders_of below lower energy_of
in_hand_lem = forced (taking (marks 0 (item 10 1))) _ refl
