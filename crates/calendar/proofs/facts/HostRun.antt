-- A host's requests are their starts and turns one by one, where the memory stays in range whatever is done.
--     run_append, responses_append, length_responses     a history in two parts; a response to each start and turn
--     stays_after                                        in range after every history; so it stays
--     narrow_run_same, narrow_responses_same             narrow starts and turns do the same
--     replied                                            one request
--     host_memory, host_answers_lem                          a list of requests
--     made_single                                        without turns behind them they are their starts and turns, on any memory
--     host_single                                        and answered as those are
--     host_same_size, host_same_beyond                   on any memory lengths stay, and what lies beyond
-- Assumes nothing.
use Rattle.std.specs.Prelude.{◌≡◌, refl, List, [], ◌∷◌, ◌++◌, map, true, ℕ, suc, ◌-◌, eqb, length, get_or, drop}
use Rattle.std.proofs.Common.{sym, ap, subst, ◌∙◌, append_assoc, arith, length-append, drop_at, eqb-true}
use Rattle.std.proofs.Math.Seq.{get_or-append_seam}
use Rattle.arrival.specs.declared.Shape.{Shape}
use Rattle.arrival.specs.declared.Action.{Action}
use Rattle.arrival.specs.declared.Request.{Request}
use Rattle.arrival.specs.declared.Request.TheVariants.{Whole, Narrow}
use Rattle.arrival.specs.declared.Response.{Response}
use Rattle.arrival.specs.declared.Response.TheVariants.{Opened}
use Rattle.laws.specs.Tests.{parts}
use Rattle.calendar.specs.rules.Ranges.{store_in_range, table_in_range}
use Rattle.calendar.specs.rules.Operations.{Memory, Result, act, run, responses}
use Rattle.calendar.specs.rules.NarrowCalls.{turns_after, narrow_act, narrow_call, narrow_made, narrow_run, narrow_responses}
use Rattle.calendar.specs.rules.HostHistory.{requested, host_run, host_answers, made_by, one_by_one, counts, last_of_each, single}
use Rattle.calendar.specs.rules.HostHistory.{action_of}
use Rattle.calendar.specs.facts.Untouched.{SameSize, SameBeyond}
use Rattle.calendar.proofs.facts.Untouched.{act_same_size, act_same_beyond}
use Rattle.calendar.proofs.facts.Narrow.{narrow_same}
use Rattle.calendar.proofs.facts.NarrowTurns.{one_by_one_lem, narrow_call_same_size, narrow_call_same_beyond}
use Rattle.calendar.specs.facts.HostRun.{StaysInRange, Replied}

-- ── a history in two parts ──
pub run_append : (sh : Shape) (m : Memory) (h k : List Action) → run sh m (h ++ k) ≡ run sh (run sh m h) k
unfolding run
run_append sh m [] k = refl
run_append sh m (a ∷ h) k = run_append sh (act sh m a).memory h k

pub responses_append : (sh : Shape) (m : Memory) (h k : List Action) → responses sh m (h ++ k) ≡ responses sh m h ++ responses sh (run sh m h) k
unfolding run responses
responses_append sh m [] k = refl
responses_append sh m (a ∷ h) k = ap (λ rs. (act sh m a).response ∷ rs) (responses_append sh (act sh m a).memory h k)

pub length_responses : (sh : Shape) (m : Memory) (h : List Action) → length (responses sh m h) ≡ length h
unfolding responses
length_responses sh m [] = refl
length_responses sh m (a ∷ h) = ap suc (length_responses sh (act sh m a).memory h)

pub stays_after : (sh : Shape) (m : Memory) (h : List Action) → StaysInRange sh m → StaysInRange sh (run sh m h)
stays_after sh m h S k =
    subst (λ (n : Memory). (store_in_range sh n.store ≡ true) × (table_in_range sh n.table ≡ true)) (run_append sh m h k) (S (h ++ k))

stays_next : (sh : Shape) (m : Memory) (a : Action) → StaysInRange sh m → StaysInRange sh (act sh m a).memory
unfolding run
stays_next sh m a S h = S (a ∷ h)

same_now : (sh : Shape) (m : Memory) (a : Action) → StaysInRange sh m → narrow_act sh m a ≡ act sh m a
unfolding run
same_now sh m a S = let (p, q) = S [] in narrow_same sh m a p q

pub narrow_run_same : (sh : Shape) (m : Memory) (h : List Action) → StaysInRange sh m → narrow_run sh m h ≡ run sh m h
unfolding run narrow_run
narrow_run_same sh m [] S = refl
narrow_run_same sh m (a ∷ h) S =
    ap (λ (r : Result). narrow_run sh r.memory h) (same_now sh m a S) ∙ narrow_run_same sh (act sh m a).memory h (stays_next sh m a S)

pub narrow_responses_same : (sh : Shape) (m : Memory) (h : List Action) → StaysInRange sh m → narrow_responses sh m h ≡ responses sh m h
unfolding responses narrow_responses
narrow_responses_same sh m [] S = refl
narrow_responses_same sh m (a ∷ h) S =
    ap (λ (r : Result). r.response ∷ narrow_responses sh r.memory h) (same_now sh m a S)
    ∙ ap (λ rs. (act sh m a).response ∷ rs) (narrow_responses_same sh (act sh m a).memory h (stays_next sh m a S))

pub replied : (sh : Shape) (m : Memory) (q : Request) → StaysInRange sh m → Replied sh m q
unfolding run responses
replied sh m (Whole a) S = record { memory = refl; before = []; responses = refl }
replied sh m (Narrow a n) S =
    let R = one_by_one_lem sh m a n in
    record {
      memory = R.memory ∙ narrow_run_same sh m (narrow_made sh m a n) S;
      before = R.before;
      responses = sym (narrow_responses_same sh m (narrow_made sh m a n) S) ∙ R.responses;
    }

-- ── a list of requests ──
stays_requested : (sh : Shape) (m : Memory) (q : Request) → StaysInRange sh m → StaysInRange sh (requested sh m q).memory
stays_requested sh m q S = subst (λ n. StaysInRange sh n) (sym (replied sh m q S).memory) (stays_after sh m (made_by sh m q) S)

pub host_memory : (sh : Shape) (m : Memory) (qs : List Request) → StaysInRange sh m → host_run sh m qs ≡ run sh m (one_by_one sh m qs)
unfolding host_run one_by_one run
host_memory sh m [] S = refl
host_memory sh m (q ∷ qs) S =
    let n = (requested sh m q).memory in
    host_memory sh n qs (stays_requested sh m q S)
    ∙ ap (λ k. run sh k (one_by_one sh n qs)) (replied sh m q S).memory
    ∙ sym (run_append sh m (made_by sh m q) (one_by_one sh n qs))

-- responses in two parts: the last of the first part, and what lies behind it
parted : (rs front rest before : List Response) (r : Response) (k : ℕ) → rs ≡ front ++ rest → length front ≡ k → front ≡ before ++ r ∷ []
    → (get_or rs (k - 1) Opened ≡ r) × (drop k rs ≡ rest)
parted rs front rest before r k split long e =
    let place : k - 1 ≡ length before = omega (arith, sym long ∙ ap length e ∙ length-append before (r ∷ [])) in (
      rw (place, split, e, append_assoc before (r ∷ []) rest) (get_or-append_seam before r rest Opened),
      ap (drop k) split ∙ drop_at front rest k long,
    )

pub host_answers_lem : (sh : Shape) (m : Memory) (qs : List Request) → StaysInRange sh m
    → host_answers sh m qs ≡ last_of_each (counts sh m qs) (responses sh m (one_by_one sh m qs))
unfolding host_answers one_by_one counts
host_answers_lem sh m [] S = refl
host_answers_lem sh m (q ∷ qs) S =
    let R = replied sh m q S in
    let made = made_by sh m q in
    let n = (requested sh m q).memory in
    let later = one_by_one sh n qs in
    let split = responses_append sh m made later ∙ ap (λ k. responses sh m made ++ responses sh k later) (sym R.memory) in
    let (first, behind) = parted (responses sh m (made ++ later)) (responses sh m made) (responses sh n later) R.before (requested sh m q).response
    (length made) split (length_responses sh m made) R.responses in
    ap (λ r. r ∷ host_answers sh n qs) (sym first)
    ∙ ap (λ rs. get_or (responses sh m (made ++ later)) (length made - 1) Opened ∷ rs)
    (host_answers_lem sh n qs (stays_requested sh m q S) ∙ ap (last_of_each (counts sh n qs)) (sym behind))

-- ── without turns behind ──
made_alone : (sh : Shape) (m : Memory) (a : Action) (n : ℕ) → n ≡ 0 → narrow_made sh m a n ≡ a ∷ []
unfolding narrow_made
made_alone sh m a n e = rw e

pub made_single : (sh : Shape) (m : Memory) (qs : List Request) → single qs ≡ true → one_by_one sh m qs ≡ map action_of qs
unfolding one_by_one
made_single sh m [] e = refl
made_single sh m (Whole a ∷ qs) e = ap (λ h. a ∷ h) (made_single sh (act sh m a).memory qs e)
made_single sh m (Narrow a n ∷ qs) e =
    let (none, rest) = parts (eqb n 0) (single qs) e in
    ap (λ h. h ++ one_by_one sh (narrow_call sh m a n).memory qs) (made_alone sh m a n (eqb-true n 0 none))
    ∙ ap (λ h. a ∷ h) (made_single sh (narrow_call sh m a n).memory qs rest)

call_alone : (sh : Shape) (m : Memory) (a : Action) (n : ℕ) → n ≡ 0 → StaysInRange sh m → narrow_call sh m a n ≡ act sh m a
unfolding narrow_call turns_after
call_alone sh m a n e S = rw e (same_now sh m a S)

answers_single : (sh : Shape) (m : Memory) (qs : List Request) → StaysInRange sh m → single qs ≡ true
    → host_answers sh m qs ≡ responses sh m (map action_of qs)
unfolding host_answers responses
answers_single sh m [] S e = refl
answers_single sh m (Whole a ∷ qs) S e = ap (λ rs. (act sh m a).response ∷ rs) (answers_single sh (act sh m a).memory qs (stays_next sh m a S) e)
answers_single sh m (Narrow a n ∷ qs) S e =
    let (none, rest) = parts (eqb n 0) (single qs) e in
    ap (λ (r : Result). r.response ∷ host_answers sh r.memory qs) (call_alone sh m a n (eqb-true n 0 none) S)
    ∙ ap (λ rs. (act sh m a).response ∷ rs) (answers_single sh (act sh m a).memory qs (stays_next sh m a S) rest)

pub host_single : (sh : Shape) (m : Memory) (qs : List Request) → StaysInRange sh m → single qs ≡ true
    → (host_run sh m qs ≡ run sh m (map action_of qs)) × (host_answers sh m qs ≡ responses sh m (map action_of qs))
host_single sh m qs S e = (host_memory sh m qs S ∙ ap (run sh m) (made_single sh m qs e), answers_single sh m qs S e)

-- ── on any memory ──
requested_same_size : (sh : Shape) (m : Memory) (q : Request) → SameSize m (requested sh m q).memory
requested_same_size sh m (Whole a) = act_same_size sh m a
requested_same_size sh m (Narrow a n) = narrow_call_same_size sh m a n

requested_same_beyond : (sh : Shape) (m : Memory) (q : Request) → SameBeyond sh m (requested sh m q).memory
requested_same_beyond sh m (Whole a) = act_same_beyond sh m a
requested_same_beyond sh m (Narrow a n) = narrow_call_same_beyond sh m a n

pub host_same_size : (sh : Shape) (m : Memory) (qs : List Request) → SameSize m (host_run sh m qs)
unfolding host_run
host_same_size sh m [] = record { store = refl; table = refl }
host_same_size sh m (q ∷ qs) =
    let x = requested_same_size sh m q in
    let y = host_same_size sh (requested sh m q).memory qs in
    record { store = y.store ∙ x.store; table = y.table ∙ x.table }

pub host_same_beyond : (sh : Shape) (m : Memory) (qs : List Request) → SameBeyond sh m (host_run sh m qs)
unfolding host_run
host_same_beyond sh m [] = record { store = refl; table = refl }
host_same_beyond sh m (q ∷ qs) =
    let x = requested_same_beyond sh m q in
    let y = host_same_beyond sh (requested sh m q).memory qs in
    record { store = y.store ∙ x.store; table = y.table ∙ x.table }
