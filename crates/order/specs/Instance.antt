-- The laws can be met: an instance on numbers, a legal order, an illegal one, and a taking whose facts all hold.
--     weak, K₀, a     numbers as keys and elements
-- Assumes nothing.
use Rattle.std.specs.Prelude.{◌≡◌, refl, ◌⊎◌, ℕ, ◌≤◌, ◌<◌}
use Rattle.std.proofs.Common.{ap, inl, inr, arith}
use Rattle.std.proofs.Math.Logic.{ite, if_pos, if_neg}
use mathlib.Core.List.Memᴰ.{head as here}
use mathlib.Core.List.Memᴰ.{tail as there}
use mathlib.Core.List.{[], ◌∷◌, Memᴰ as Mem}
use Rattle.std.proofs.Math.Decide.{ℕ_discrete, dec_lt}
use Rattle.order.specs.Entries.{Keys, Element, Entry, enqueue, dequeue, scan, Order, ◌≺◌, ticket, without, mem_without, without_mem, run, Legal}
use Rattle.order.specs.RealTime.{running, ended, Hist, Settled, NotBefore, end_of}
use Rattle.order.specs.Scans.{Walker, Sight}
use Rattle.order.specs.OrderAfterMark.{Inv, Taking, taken}

pub weak : (x y z : ℕ) → x < z → (x < y) ⊎ (y < z)
weak x y z h = go (dec_lt x y)
  where
    go : Dec (x < y) → (x < y) ⊎ (y < z)
    go (yes l) = inl l
    go (no n) = inr (omega arith)

abbrev pub K₀ : Keys
K₀ =
    record {
      X = ℕ;
      ◌<ₖ◌ = ◌<◌;
      irreflₖ = λ h. omega arith;
      transₖ = λ g h. omega arith;
      weakₖ = λ {x} {z} y h. weak x y z h;
      same?ₖ = ℕ_discrete;
      below?ₖ = dec_lt;
      ticketₖ = λ x. x;
      bucketₖ = λ x. 0;
      bucket_upₖ = λ h. omega arith;
    }

abbrev pub a : ℕ → Element K₀
a n = record { it = n }

apart : (m n : ℕ) → ¬ (m ≡ n) → ¬ (a m ≡ a n)
apart m n h e = h (ap (λ (x : Element K₀). x.it) e)

legal : Legal [] (enqueue (a 3) ∷ enqueue (a 1) ∷ dequeue (a 1) 4 ∷ dequeue (a 3) 5 ∷ [])
legal = (tt, (tt, ((here refl, low), ((mem_without (a 1 ∷ a 3 ∷ []) (a 1) (apart 3 1 (omega arith)) (there (here refl)), low₂), tt))))
  where
    low : ¬ ((q : Element K₀) × Mem q (a 1 ∷ a 3 ∷ []) × (q ≺ a 1))
    low (q, here e, h) = let g : q.it ≡ 1 = ap (λ (x : Element K₀). x.it) e in omega arith
    low (q, there (here e), h) = let g : q.it ≡ 3 = ap (λ (x : Element K₀). x.it) e in omega arith
    low (q, there (there m), h) = elim m [ ]

    low₂ : ¬ ((q : Element K₀) × Mem q (without (a 1 ∷ a 3 ∷ []) (a 1)) × (q ≺ a 3))
    low₂ (q, m, h) = pick (without_mem (a 1 ∷ a 3 ∷ []) (a 1) m)
      where
        pick : Mem q (a 1 ∷ a 3 ∷ []) × ¬ (q ≡ a 1) → ⊥
        pick (here e, n) = n e
        pick (there (here e), n) = let g : q.it ≡ 3 = ap (λ (x : Element K₀). x.it) e in omega arith
        pick (there (there m), n) = elim m [ ]

illegal : ¬ Legal [] (enqueue (a 3) ∷ enqueue (a 1) ∷ dequeue (a 3) 4 ∷ [])
illegal l = l.1.1.0.1 (a 1, here refl, omega arith)

-- enqueue 5 is over at 6; call 4 scans and dequeues 5
abbrev H₀ : Hist
H₀ = record { end = λ n. ite (ℕ_discrete n 5) (ended 6) running; late = λ n. 0 }

abbrev W₀ : ℕ → Walker K₀
W₀ v = record { call = 4; floor = 0; epoch = 0; Ahead = λ z. 5 ≤ z.it }

abbrev L₀ : Order K₀
L₀ = enqueue (a 5) ∷ scan 1 ∷ []

end_5 : H₀.end 5 ≡ ended 6
end_5 = if_pos (ℕ_discrete 5 5) refl (ended 6) running

end_4 : H₀.end 4 ≡ running
end_4 = if_neg (ℕ_discrete 4 5) (λ e. omega arith) (ended 6) running

inv : Inv H₀ W₀ [] L₀
inv =
    record {
      legal = (tt, (tt, tt));
      aged = (aged, (λ q m. tt, tt));
      done = done;
      timely = (λ f m. early f m, (λ f m. elim m [ ], tt));
      marks = (tt, (sight, tt));
    }
  where
    it : (q : Element K₀) → Mem q (a 5 ∷ []) → q ≡ a 5
    it q (here e) = e
    it q (there m) = elim m [ ]

    aged : (q : Element K₀) → Mem q (a 5 ∷ []) → (q ≡ a 5) ⊎ Settled (H₀.end (ticket q)) (H₀.end 5)
    aged q m = inl (it q m)

    done : (q : Element K₀) → Mem q (a 5 ∷ []) → Settled (H₀.end (ticket q)) running
    done q m = rw (it q m, end_5) tt

    early : (f : Entry K₀) → Mem f (scan 1 ∷ []) → NotBefore 5 (end_of H₀ f)
    early f (here e) = rw e tt
    early f (there m) = elim m [ ]

    sight : Sight H₀ (W₀ 1) (a 5 ∷ []) []
    sight =
        record {
          kept = λ q m. m;
          above = λ q m. omega arith;
          ahead = λ q m e. rw (it q m) (omega arith);
          young = λ f m. elim m [ ];
          fresh = λ q t m. elim m [ ];
        }

it₀ : (q : Element K₀) → Mem q (a 5 ∷ []) → q ≡ a 5
it₀ q (here e) = e
it₀ q (there m) = elim m [ ]

taking : Taking H₀ W₀ [] L₀ 1 (a 5)
taking =
    record {
      scanning = there (here refl);
      open_call = end_4;
      kept_or_open = inl (here refl);
      bucket_here = refl;
      first = λ z h g. omega arith;
      epochs = λ q s m e l. omega arith;
      total = λ q m u n. absurd (u (it₀ q m));
      others = λ v q m g h e. omega arith;
    }

after : (M : Order K₀) × Inv H₀ W₀ [] M × (run [] M ≡ without (run [] L₀) (a 5))
after = taken H₀ W₀ [] L₀ 1 (a 5) inv taking
