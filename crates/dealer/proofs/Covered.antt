-- Dealt turns are turns: what a host does with a pool and a dealer is one kind of interleaving.
--     dealt_refused                     a turn that is not dealt leaves memory and dealer
--     served_memory, served_answer      a turn that is dealt is a turn of whom the dealer then remembers
--     covered                           memory and answers are those of the requests that are made, on any memory
--     as_many                            as many moves as requests are not refused by the dealer; a_response_each, each request has a response
--     all_used                          the answers to those moves are all the pool's responses, and no others
--     moves_same_size                   so lengths stay; moves_same_beyond, what lies beyond stays too
--     dealer_demand_3                   and demand 3 holds with a dealer
-- Assumes nothing.
use Rattle.std.specs.Prelude.{◌≡◌, refl, List, [], ◌∷◌, map, Bool, true, false, cond, ◌≢◌, ℕ, zero, suc, eqb, length}
use Rattle.std.proofs.Common.{sym, ap, subst, ◌∙◌, arith, eqb-true, ne_eqb}
use Rattle.std.proofs.lemmas.Bool.{eqb-false}
use Rattle.arrival.specs.declared.Shape.{Shape}
use Rattle.arrival.specs.declared.Request.{Request}
use Rattle.arrival.specs.declared.Request.TheVariants.{Whole, Narrow}
use Rattle.arrival.specs.declared.Response.{Response}
use Rattle.arrival.specs.declared.Response.TheVariants.{Refused}
use Rattle.laws.specs.Tests.{never}
use Rattle.calendar.specs.rules.Operations.{Memory, open_pool, act, run, responses}
use Rattle.calendar.specs.rules.HostHistory.{requested, host_run, host_answers, action_of, HostDemand3}
use Rattle.calendar.specs.facts.Untouched.{SameSize, SameBeyond}
use Rattle.calendar.proofs.facts.HostRun.{host_same_size, host_same_beyond}
use Rattle.interleavings.specs.HostDemand3.{host_demand_3}
use Rattle.dealer.specs.Dealing.{Deal, deal_refusal, turn_of, turned_away, dealt}
use Rattle.dealer.specs.DealtHistory.{Move, asks, deals, memory_after, answers_to, requests_in, refused_in, filled, all_whole}
use Rattle.dealer.specs.DealtHistory.{DealerCovered, DealerDemand3}
use Rattle.dealer.proofs.DealtTurn.{dealt_served}
use Rattle.dealer.specs.Covered.{zeros_in, pooled}

-- ── one dealt turn ──
pub dealt_refused : (whole : Bool) (sh : Shape) (m : Memory) (last : ℕ) → deal_refusal whole sh m last ≢ 0
    → dealt whole sh m last ≡ turned_away (deal_refusal whole sh m last) m last
unfolding dealt
dealt_refused whole sh m last h = rw (ne_eqb (deal_refusal whole sh m last) 0 h)

pub served_memory : (whole : Bool) (sh : Shape) (m : Memory) (last : ℕ) → deal_refusal whole sh m last ≡ 0
    → (dealt whole sh m last).memory ≡ (requested sh m (turn_of whole (dealt whole sh m last).dealer)).memory
served_memory whole sh m last e = rw (dealt_served whole sh m last e)

pub served_answer : (whole : Bool) (sh : Shape) (m : Memory) (last : ℕ) → deal_refusal whole sh m last ≡ 0
    → (dealt whole sh m last).response ≡ (requested sh m (turn_of whole (dealt whole sh m last).dealer)).response
served_answer whole sh m last e = rw (dealt_served whole sh m last e)

-- ── the memory ──
memory_same : (sh : Shape) (xs : List Move) (m : Memory) (last : ℕ) → memory_after sh m last xs ≡ host_run sh m (requests_in sh m last xs)
unfolding memory_after host_run requests_in
memory_same sh [] m last = refl
memory_same sh (asks q ∷ xs) m last = memory_same sh xs (requested sh m q).memory last
memory_same sh (deals whole ∷ xs) m last =
    go (eqb (deal_refusal whole sh m last) 0) refl (memory_same sh xs (dealt whole sh m last).memory (dealt whole sh m last).dealer)
  where
    go : (t : Bool) → eqb (deal_refusal whole sh m last) 0 ≡ t
        → let r = dealt whole sh m last in let rest = requests_in sh r.memory r.dealer xs in
        memory_after sh r.memory r.dealer xs ≡ host_run sh r.memory rest
        → memory_after sh r.memory r.dealer xs ≡ host_run sh m (cond t (turn_of whole r.dealer ∷ rest) rest)
    go true e h =
        let r = dealt whole sh m last in
        h ∙ ap (λ n. host_run sh n (requests_in sh r.memory r.dealer xs)) (served_memory whole sh m last (eqb-true _ 0 e))
    go false e h =
        let r = dealt whole sh m last in
        h ∙ ap (λ (d : Deal). host_run sh d.memory (requests_in sh r.memory r.dealer xs)) (dealt_refused whole sh m last (eqb-false _ 0 e))

-- ── the answers ──
-- the next is the pool's, or the dealer's
filled_pool : (k : ℕ) (ks : List ℕ) (x : Response) (rs : List Response) → k ≡ 0 → filled (k ∷ ks) (x ∷ rs) ≡ x ∷ filled ks rs
filled_pool k ks x rs e = ap (λ j. filled (j ∷ ks) (x ∷ rs)) e

filled_dealer : (k : ℕ) (ks : List ℕ) (rs : List Response) → k ≢ 0 → filled (k ∷ ks) rs ≡ Refused k ∷ filled ks rs
filled_dealer zero ks rs h = absurd (h refl)
filled_dealer (suc k) ks rs h = refl

answers_same : (sh : Shape) (xs : List Move) (m : Memory) (last : ℕ)
    → answers_to sh m last xs ≡ filled (refused_in sh m last xs) (host_answers sh m (requests_in sh m last xs))
unfolding answers_to host_answers requests_in refused_in
answers_same sh [] m last = refl
answers_same sh (asks q ∷ xs) m last = ap (λ rs. (requested sh m q).response ∷ rs) (answers_same sh xs (requested sh m q).memory last)
answers_same sh (deals whole ∷ xs) m last =
    go (eqb (deal_refusal whole sh m last) 0) refl (answers_same sh xs (dealt whole sh m last).memory (dealt whole sh m last).dealer)
  where
    go : (t : Bool) → eqb (deal_refusal whole sh m last) 0 ≡ t
        → let r = dealt whole sh m last in
        let rest = requests_in sh r.memory r.dealer xs in
        let ks = refused_in sh r.memory r.dealer xs in
        answers_to sh r.memory r.dealer xs ≡ filled ks (host_answers sh r.memory rest)
        → r.response ∷ answers_to sh r.memory r.dealer xs
        ≡ filled (deal_refusal whole sh m last ∷ ks) (host_answers sh m (cond t (turn_of whole r.dealer ∷ rest) rest))
    go true e h =
        let r = dealt whole sh m last in
        let rest = requests_in sh r.memory r.dealer xs in
        let ks = refused_in sh r.memory r.dealer xs in
        let z = eqb-true (deal_refusal whole sh m last) 0 e in
        let q = turn_of whole r.dealer in
        ap (λ rs. r.response ∷ rs) (h ∙ ap (λ n. filled ks (host_answers sh n rest)) (served_memory whole sh m last z))
        ∙ ap (λ x. x ∷ filled ks (host_answers sh (requested sh m q).memory rest)) (served_answer whole sh m last z)
        ∙ sym (filled_pool (deal_refusal whole sh m last) ks (requested sh m q).response (host_answers sh (requested sh m q).memory rest) z)
    go false e h =
        let r = dealt whole sh m last in
        let rest = requests_in sh r.memory r.dealer xs in
        let ks = refused_in sh r.memory r.dealer xs in
        let n = eqb-false (deal_refusal whole sh m last) 0 e in
        ap (λ rs. r.response ∷ rs) h
        ∙ ap (λ (d : Deal). d.response ∷ filled ks (host_answers sh d.memory rest)) (dealt_refused whole sh m last n)
        ∙ sym (filled_dealer (deal_refusal whole sh m last) ks (host_answers sh m rest) n)

-- ── whole looks ──
abbrev are_whole : List Request → Bool
are_whole [] = true
are_whole (Whole a ∷ qs) = are_whole qs
are_whole (Narrow a n ∷ qs) = false

whole_requests : (sh : Shape) (xs : List Move) (m : Memory) (last : ℕ) → all_whole xs ≡ true → are_whole (requests_in sh m last xs) ≡ true
unfolding requests_in
whole_requests sh [] m last e = refl
whole_requests sh (asks (Whole a) ∷ xs) m last e = whole_requests sh xs (act sh m a).memory last e
whole_requests sh (asks (Narrow a n) ∷ xs) m last e = never e
whole_requests sh (deals false ∷ xs) m last e = never e
whole_requests sh (deals true ∷ xs) m last e =
    go (eqb (deal_refusal true sh m last) 0) (whole_requests sh xs (dealt true sh m last).memory (dealt true sh m last).dealer e)
  where
    go : (t : Bool)
        → let r = dealt true sh m last in let rest = requests_in sh r.memory r.dealer xs in
        are_whole rest ≡ true → are_whole (cond t (turn_of true r.dealer ∷ rest) rest) ≡ true
    go true h = h
    go false h = h

whole_run : (sh : Shape) (qs : List Request) (m : Memory) → are_whole qs ≡ true
    → (host_run sh m qs ≡ run sh m (map action_of qs)) × (host_answers sh m qs ≡ responses sh m (map action_of qs))
unfolding host_run host_answers run responses
whole_run sh [] m e = (refl, refl)
whole_run sh (Whole a ∷ qs) m e =
    let (memory, answers) = whole_run sh qs (act sh m a).memory e in (memory, ap (λ rs. (act sh m a).response ∷ rs) answers)
whole_run sh (Narrow a n ∷ qs) m e = never e

-- DEALT TURNS ARE TURNS
pub covered : (sh : Shape) (m : Memory) (last : ℕ) (xs : List Move) → DealerCovered sh m last xs
covered sh m last xs = record {
  memory = memory_same sh xs m last;
  answers = answers_same sh xs m last;
  as_turns = λ e.
      let (memory, answers) = whole_run sh (requests_in sh m last xs) m (whole_requests sh xs m last e) in
      (memory_same sh xs m last ∙ memory, answers_same sh xs m last ∙ ap (filled (refused_in sh m last xs)) answers);
}

zeros_more : (k : ℕ) (ks : List ℕ) (q : Request) (qs : List Request) → zeros_in ks ≡ length qs → zeros_in (k ∷ ks) ≡ length (cond (eqb k 0) (q ∷ qs) qs)
zeros_more zero ks q qs e = ap suc e
zeros_more (suc k) ks q qs e = rw (ne_eqb (suc k) 0 (λ z. omega arith)) e

pub as_many : (sh : Shape) (xs : List Move) (m : Memory) (last : ℕ) → zeros_in (refused_in sh m last xs) ≡ length (requests_in sh m last xs)
unfolding requests_in refused_in
as_many sh [] m last = refl
as_many sh (asks q ∷ xs) m last = ap suc (as_many sh xs (requested sh m q).memory last)
as_many sh (deals whole ∷ xs) m last =
    let r = dealt whole sh m last in
    zeros_more (deal_refusal whole sh m last) (refused_in sh r.memory r.dealer xs) (turn_of whole r.dealer) (requests_in sh r.memory r.dealer xs)
    (as_many sh xs r.memory r.dealer)

pub a_response_each : (sh : Shape) (qs : List Request) (m : Memory) → length (host_answers sh m qs) ≡ length qs
unfolding host_answers
a_response_each sh [] m = refl
a_response_each sh (q ∷ qs) m = ap suc (a_response_each sh qs (requested sh m q).memory)

pooled_filled : (ks : List ℕ) (rs : List Response) → zeros_in ks ≡ length rs → pooled ks (filled ks rs) ≡ rs
pooled_filled [] [] e = refl
pooled_filled [] (r ∷ rs) e = absurd (omega arith)
pooled_filled (zero ∷ ks) [] e = absurd (omega arith)
pooled_filled (zero ∷ ks) (r ∷ rs) e = ap (λ xs. r ∷ xs) (pooled_filled ks rs (omega arith))
pooled_filled (suc k ∷ ks) rs e = pooled_filled ks rs e

pub all_used : (sh : Shape) (xs : List Move) (m : Memory) (last : ℕ)
    → pooled (refused_in sh m last xs) (answers_to sh m last xs) ≡ host_answers sh m (requests_in sh m last xs)
all_used sh xs m last =
    let qs = requests_in sh m last xs in
    ap (pooled (refused_in sh m last xs)) (answers_same sh xs m last)
    ∙ pooled_filled (refused_in sh m last xs) (host_answers sh m qs) (as_many sh xs m last ∙ sym (a_response_each sh qs m))

-- ── lengths, and what lies beyond ──
pub moves_same_size : (sh : Shape) (m : Memory) (last : ℕ) (xs : List Move) → SameSize m (memory_after sh m last xs)
moves_same_size sh m last xs = subst (SameSize m) (sym (memory_same sh xs m last)) (host_same_size sh m (requests_in sh m last xs))

pub moves_same_beyond : (sh : Shape) (m : Memory) (last : ℕ) (xs : List Move) → SameBeyond sh m (memory_after sh m last xs)
moves_same_beyond sh m last xs = subst (SameBeyond sh m) (sym (memory_same sh xs m last)) (host_same_beyond sh m (requests_in sh m last xs))

-- DEMAND 3 WITH A DEALER
pub dealer_demand_3 : DealerDemand3
unfolding DealerDemand3 HostDemand3
dealer_demand_3 sh m e last xs =
    let p = (open_pool sh m).memory in
    record { covered = covered sh p last xs; correct = host_demand_3 sh m e (requests_in sh p last xs) }
