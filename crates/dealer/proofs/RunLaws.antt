-- A run of dealt turns as the code has it, by value: how it begins, and what a look at one candidate makes of it.
--     ends_moved .. goes_moved        the arms of `moved_on`
--     refused_begun, goes_begun       the arms of `begun`
--     idle_visited .. served_visited  the arms of `visited`
-- Assumes nothing.
use Rattle.std.specs.Prelude.{◌≡◌, List, Bool, true, false, not, ◌||◌, ◌≢◌, ℕ, ◌+◌, eqb, length}
use Rattle.std.specs.declared.ops.ControlFlow.TheVariants.{Continue, Break}
use Rattle.std.proofs.Math.Path.{sym, ap}
use Rattle.std.proofs.Common.{◌∙◌}
use borrow.Author.Tests.{eq-eqb, ne_eqb}
use Rattle.arrival.specs.declared.Worker.{Worker}
use Rattle.arrival.specs.declared.Response.{Response}
use Rattle.arrival.specs.declared.Response.TheVariants.{Refused}
use Rattle.calendar.specs.rules.Ranges.{record_in_range}
use Rattle.calendar.specs.rules.NarrowCalls.{goes_on}
use Rattle.words.specs.Done.{gives}
use Rattle.words.specs.declared.replies.Reply.{Reply}
use Rattle.admission.specs.Gate.{gate_of}
use Rattle.stages.specs.LocalStep.{local_step}
use Rattle.dealer.specs.declared.asks.Ask.{Ask}
use Rattle.dealer.specs.declared.runs.Going.{Going}
use Rattle.dealer.specs.declared.runs.Ended.{Ended}
use Rattle.dealer.specs.Dealable.{leaks_of}
use Rattle.dealer.specs.Looks.{is_whole, flag_of}
use Rattle.dealer.specs.Runs.{Run, stopped_by, started_at, unbegun, begun, passed_by, moved_on, served, visited}

-- ── the arms of `moved_on` ──
module _ (r : Going) (leak : Bool) (x : Response) (next : Going) (is : next ≡ started_at r.ask r.at (r.made + 1)) (g : Bool) (g-is : g ≡ goes_on x) where
  same_test : (eqb next.made r.ask.turns || not g) ≡ (eqb (r.made + 1) r.ask.turns || not (goes_on x))
  same_test = (λ k. eqb (is k).made r.ask.turns || not (g-is k))

  pub ends_moved : (eqb next.made r.ask.turns || not g) ≡ true → (y : Ended) → y ≡ stopped_by x next → Break y ≡ moved_on r leak x
  unfolding moved_on
  ends_moved e y y-is = ap Break (y-is ∙ ap (stopped_by x) is) ∙ rw (sym same_test ∙ e)

  module _ (more : (eqb next.made r.ask.turns || not g) ≡ false) where
    pub leaks_moved : leak ≡ true → (y : Ended) → y ≡ stopped_by (Refused 3) next → Break y ≡ moved_on r leak x
    unfolding moved_on
    leaks_moved e y y-is = ap Break (y-is ∙ ap (stopped_by (Refused 3)) is) ∙ rw (sym same_test ∙ more, e)

    pub goes_moved : leak ≡ false → Continue next ≡ moved_on r leak x
    unfolding moved_on
    goes_moved e = ap Continue is ∙ rw (sym same_test ∙ more, e)

-- ── the arms of `begun` ──
module _ (a : Ask) (s : List ℕ) (n : ℕ) (ok : Bool) (some : a.turns ≢ 0) (flag : Bool) (flag_is : flag ≡ flag_of (is_whole a.look) a.shape s n ok)
    (k : ℕ) (k-is : k ≡ gate_of a.shape (length s) n a.dealer flag) where
  whole_gate : gate_of a.shape (length s) n a.dealer (flag_of (is_whole a.look) a.shape s n ok) ≡ k
  whole_gate = ap (gate_of a.shape (length s) n a.dealer) (sym flag_is) ∙ sym k-is

  pub refused_begun : k ≢ 0 → (y : Ended) → y ≡ unbegun (Refused k) a.dealer → Break y ≡ begun a s n ok
  unfolding begun
  refused_begun e y y-is = ap Break y-is ∙ rw (ne_eqb a.turns 0 some, whole_gate, ne_eqb k 0 e)

  pub goes_begun : k ≡ 0 → (y : Going) → y ≡ started_at a a.dealer 0 → Continue y ≡ begun a s n ok
  unfolding begun
  goes_begun e y y-is = ap Continue y-is ∙ rw (ne_eqb a.turns 0 some, whole_gate, eq-eqb k 0 e)

-- ── the arms of `visited` ──
module _ (r : Going) (s : List ℕ) (w : Worker) where
  pub idle_visited : w.stage ≡ 0 → (y : Run) → y ≡ passed_by r → record { run = y; worker = w; store = s } ≡ visited r s w
  unfolding visited
  idle_visited e y is = ap (λ (x : Run). record { run = x; worker = w; store = s }) is ∙ rw (eq-eqb w.stage 0 e)

  module _ (some : w.stage ≢ 0) (may : Bool) (may-is : may ≡ (is_whole r.ask.look || record_in_range r.ask.shape w)) where
    pub refused_visited : may ≡ false → (y : Ended) → y ≡ stopped_by (Refused 3) r
        → record { run = Break y; worker = w; store = s } ≡ visited r s w
    unfolding visited
    refused_visited e y is = ap (λ (x : Ended). record { run = Break x; worker = w; store = s }) is ∙ rw (ne_eqb w.stage 0 some, sym may-is ∙ e)

    pub served_visited : may ≡ true → (leak : Bool) → leak ≡ leaks_of (is_whole r.ask.look) r.ask.shape s w → (s' : List ℕ) (reply : Reply)
        → gives s' reply ≡ local_step r.ask.shape s w
        → (y : Run) → y ≡ moved_on r leak reply.response → record { run = y; worker = reply.worker; store = s' } ≡ visited r s w
    unfolding visited
    served_visited e leak leak-is s' reply did y is =
        ap (λ (x : Run). record { run = x; worker = reply.worker; store = s' }) (is ∙ ap (λ (b : Bool). moved_on r b reply.response) leak-is)
        ∙ ap (served r s w) did
        ∙ rw (ne_eqb w.stage 0 some, sym may-is ∙ e)
