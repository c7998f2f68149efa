-- The loop follows the rounds, and its places lie within their buffers.
use Rattle.std.proofs.Common.{◌≡◌, ◌⊎◌, refl, subst, inl, inr, ◌+◌, arith}
use Rattle.std.proofs.Math.Path.{subst⁻¹}
use Rattle.turn_file.specs.declared.Unreadable.{Unreadable}
use Rattle.turns.specs.declared.Next.{Next}
use Rattle.turns.specs.declared.Next.TheVariants.{End, Last}
use Rattle.turns.specs.TurnsRun.{lent, Held, at_first}
use Rattle.turns.specs.BetweenRounds.{leaves}
use Rattle.turns.proofs.BetweenRounds.{further_on, in_hand_length}
use Rattle.turns.specs.RunFollows.{all_rounds, Followed, Ends}
use Rattle.turns.proofs.RunFollows.{at_start, working, reading, closed, finished, spent, interrupted, first_held, after_round, after_read}
use Rattle.turns.proofs.run.Goals as goal
use Rattle.turns.proofs.run.Goals.{in-More, in-Read}

-- so it is at the start
pub loop-round-init : goal.loop-round-init
loop-round-init g c =
    let a = c.args in
    let pool = c.fresh_pool-pool in
    let d = pool.ensures in
    record {
      sound = d.0;
      at = omega arith;
      have = omega arith;
      store = refl;
      input = refl;
      out = refl;
      followed = subst (λ (h : Held). Followed (at_first lent a.out.now) h all_rounds)
          (first_held pool.result a.store.now a.input.now a.out.now d.1 d.2 d.3 c.requires.0) (at_start (at_first lent a.out.now));
    }

-- the output is closed
pub returns-in_err-write_out : goal.returns-in_err-write_out
returns-in_err-write_out g c =
    let start = at_first lent c.args.out.now in
    interrupted start _ c.from_residual.result c.from_residual.ensures.0
    (closed start _ _ c.loop-round.invariant.followed _ c.one_round-r.ensures.0 _ refl)

pub overflow_add-at : goal.overflow_add-at
overflow_add-at g c = omega (arith, in_hand_length c.loop-round.at c.loop-round.have c.loop-round.input, c.one_round-r.ensures.2.at)

pub keep_rest-kept-requires : goal.keep_rest-kept-requires
keep_rest-kept-requires g c =
    let l = c.loop-round in
    let i = l.invariant in
    let size = in_hand_length l.at l.have l.input i.at i.have in
    (omega (arith, size, c.one_round-r.ensures.2.at), i.have)

pub read_more-have-requires : goal.read_more-have-requires
read_more-have-requires g c =
    let l = c.loop-round in
    let i = l.invariant in
    let size = in_hand_length l.at l.have l.input i.at i.have in
    omega (arith, size, c.one_round-r.ensures.2.few c.in-Read.is, c.keep_rest-kept.ensures.0, c.keep_rest-kept.ensures.1, i.input, c.requires.1)

-- it goes on with the bytes in hand, or after a read
pub loop-round-preserved : goal.loop-round-preserved
loop-round-preserved g c =
    let l = c.loop-round in
    let i = l.invariant in
    let r = c.one_round-r in
    let e = r.ensures in
    let size = in_hand_length l.at l.have l.input i.at i.have in
    let start = at_first lent c.args.out.now in
    elim c.match-r.branch [
      | in-More w ↦ record {
        sound = e.1;
        at = omega (arith, size, e.2.at, w.at-is, w.have-is);
        have = omega (arith, i.have, w.have-is);
        store = omega arith;
        input = omega arith;
        out = omega (arith, e.3, i.out);
        followed = rw (w.ended-is, w.at-is, w.have-is, w.input-is)
            (after_round start r.result.pool l.at r.result.at l.have l.input r.new.out r.new.store l.ended _
            (working start _ _ i.followed (leaves r.result _ r.new.out r.new.store) e.0 _ (omega arith) w.in-More.is));
      }
      | in-Read w ↦
          let kept = w.keep_rest-kept.ensures in
          let read = w.read_more-have.ensures in
          record {
            sound = e.1;
            at = omega (arith, w.at-is);
            have = omega (arith, read.1, read.2, w.have-is);
            store = omega arith;
            input = omega arith;
            out = omega (arith, e.3, i.out);
            followed = rw (w.ended-is, w.at-is, w.have-is, w.input-is)
                (after_read start (leaves r.result _ r.new.out r.new.store) r.result.pool (l.at + r.result.at) l.have _ _ l.input _ _ r.new.store
                (omega (arith, size, e.2.at)) i.have kept.0 kept.2 read.3 read.0 (omega (arith, read.1, read.2)) _
                refl (further_on l.at r.result.at l.have l.input)
                (reading start _ _ i.followed _ e.0 _ (omega arith) w.in-Read.is));
          }
    ]

-- the file has ended, in two ways
over : (m : Next) → (m ≡ End) ⊎ ((why : Unreadable) × (m ≡ Last why)) → Ends m
over m (inl e) = subst⁻¹ Ends e tt
over m (inr (why, e)) = subst⁻¹ Ends e tt

pub returns-in-End : goal.returns-in-End
returns-in-End g c =
    finished c.args.out.now c.requires.2 _ _ c.loop-round.invariant.followed _ c.one_round-r.ensures.0 (over _ c.in-End.is) _ refl

-- the rounds are spent
pub returns : goal.returns
returns g c = spent (at_first lent c.args.out.now) _ _ c.loop-round.invariant.followed (omega arith) _ refl
