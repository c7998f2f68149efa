-- Buckets by hand: at the borders of the last one, far behind it, with one bucket and with the most there can be. Assumes nothing.
use Rattle.std.specs.Prelude.{◌≡◌, refl, ℕ}
use Rattle.arrival.specs.declared.Shape.{Shape}
use Rattle.arrival.specs.Keys.{bucket_of}

-- so many buckets, so wide
of : ℕ → ℕ → Shape
of buckets width = record { workers = 2; nodes = 4; buckets = buckets; width = width }

two_of_ten :
    (bucket_of (of 2 10) 0 ≡ 0)
    × (bucket_of (of 2 10) 9 ≡ 0)
    × (bucket_of (of 2 10) 10 ≡ 1)
    × (bucket_of (of 2 10) 19 ≡ 1)
    × (bucket_of (of 2 10) 20 ≡ 1)
    × (bucket_of (of 2 10) 4294967295 ≡ 1)
unfolding bucket_of of
two_of_ten = (refl, refl, refl, refl, refl, refl)

only_one : (bucket_of (of 1 10) 9 ≡ 0) × (bucket_of (of 1 10) 10 ≡ 0) × (bucket_of (of 1 10) 4294967295 ≡ 0)
unfolding bucket_of of
only_one = (refl, refl, refl)

most :
    (bucket_of (of 256 65535) 16711424 ≡ 254)
    × (bucket_of (of 256 65535) 16711425 ≡ 255)
    × (bucket_of (of 256 65535) 16776959 ≡ 255)
    × (bucket_of (of 256 65535) 16776960 ≡ 255)
    × (bucket_of (of 256 65535) 4294967295 ≡ 255)
unfolding bucket_of of
most = (refl, refl, refl, refl, refl)
