-- Dealt turns are turns: what a host does with a pool and a dealer is one kind of interleaving.
--     zeros_in                           as many moves as requests are not refused by the dealer; a_response_each, each request has a response
--     pooled                            the answers to those moves are all the pool's responses, and no others
-- Assumes nothing.
use Rattle.std.specs.Prelude.{List, [], ◌∷◌, ℕ, zero, suc}
use Rattle.arrival.specs.declared.Response.{Response}

-- ── none of the pool's responses is left over ──
-- how many of the numbers are 0
abbrev pub zeros_in : List ℕ → ℕ
zeros_in [] = 0
zeros_in (zero ∷ ks) = suc (zeros_in ks)
zeros_in (suc k ∷ ks) = zeros_in ks

-- the answers to the moves that were not refused by the dealer
abbrev pub pooled : List ℕ → List Response → List Response
pooled [] rs = []
pooled (k ∷ ks) [] = []
pooled (zero ∷ ks) (r ∷ rs) = r ∷ pooled ks rs
pooled (suc k ∷ ks) (r ∷ rs) = pooled ks rs
