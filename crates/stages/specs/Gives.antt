-- What a stage's code hands back, as what a rule leaves. Assumes nothing.
use Rattle.std.specs.Prelude.{◌≡◌, refl, Bool, cond, ℕ, eqb}
use Rattle.std.proofs.Math.Path.{ap}
use Rattle.std.proofs.Math.Bool.{true, false}
use mathlib.Core.List.{List, []}
use Rattle.arrival.specs.declared.Shape.{Shape}
use Rattle.arrival.specs.declared.Worker.{Worker}
use Rattle.arrival.specs.declared.Response.{Response}
use Rattle.arrival.specs.declared.Response.TheVariants.{On}
use Rattle.arrival.specs.Queue.{taken}
use Rattle.calendar.specs.rules.Layout.{Write, write_all, item_at}
use Rattle.calendar.specs.rules.Outcome.{Outcome, on, answer, with_stage}
use Rattle.calendar.specs.rules.SearchSteps.{found, settle}
use Rattle.calendar.specs.rules.DequeueSteps.{walk, more_buckets}
use Rattle.calendar.specs.rules.Steps.{Rule}
use Rattle.words.specs.Done.{Done, done, gives}
use Rattle.words.specs.declared.replies.Reply.{Reply}
use Rattle.words.specs.declared.store.View.{View}

-- of a store that is only looked at: what is in it with what the code hands back, and what a rule leaves by it
abbrev pub shown : View → Reply → Done
shown view r = gives view.words.now r

abbrev pub shown_by : Rule → View → Worker → Done
shown_by rule view w = done view.shape view.words.now (rule view.shape view.words.now w)

-- the code's share of an outcome: its record and response
abbrev pub share : Outcome → Reply
share o = record { worker = o.worker; response = o.response }

-- goes on at stage k; answers
abbrev pub goes_on : ℕ → Worker → Reply
goes_on k w = record { worker = with_stage k w; response = On }

abbrev pub answers : Worker → Response → Reply
answers w a = record { worker = with_stage 0 w; response = a }

-- a take's walk writes nothing
pub walk_gives : (sh : Shape) (s : List ℕ) (w : Worker) → gives s (share (walk sh w)) ≡ done sh s (walk sh w)
unfolding walk
walk_gives sh s w = go (eqb w.right sh.nodes) (more_buckets sh w)
  where
    go : (a b : Bool) → gives s (share (cond a (cond b (on [] 12 w) (on [] 13 w)) (on [] 10 w))) ≡ done sh s (cond a (cond b (on [] 12 w) (on [] 13 w))
        (on [] 10 w))
    go true true = refl
    go true false = refl
    go false b = refl

-- The search's end after writes ws that leave own's arrival: what it reads then is what it read before them.
module _ (sh : Shape) (s s' : List ℕ) (ws : List Write) (w : Worker) (after : s' ≡ write_all sh s ws) (kept : item_at sh s' w.own ≡ item_at sh s w.own) where
  pub settle_after : done sh s' (settle sh s' [] w) ≡ done sh s (settle sh s ws w)
  unfolding settle found
  settle_after = go (eqb w.right sh.nodes) (eqb w.kind 0)
    where
      go : (a b : Bool)
          → done sh s' (cond a (cond b (on [] 4 w) (answer [] w (taken (item_at sh s' w.own)))) (on [] 2 w))
          ≡ done sh s (cond a (cond b (on ws 4 w) (answer ws w (taken (item_at sh s w.own)))) (on ws 2 w))
      go true true = ap (λ (t : List ℕ). record { store = t; worker = with_stage 4 w; response = On }) after
      go true false = λ i. record { store = after i; worker = with_stage 0 w; response = taken (kept i) }
      go false b = ap (λ (t : List ℕ). record { store = t; worker = with_stage 2 w; response = On }) after
