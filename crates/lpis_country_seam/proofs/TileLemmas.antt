-- The tiles that a parcel's box meets.
use Rattle.std.proofs.Common.{◌≡◌, ℕ, zero, suc, Bool, true, false, ◌||◌, List, [], ◌∷◌, refl, sym, true≢false}
use Rattle.std.specs.List.{list_any}
use Rattle.lpis_points.specs.declared.boxes.Box4.{Box4}
use Rattle.lpis_release.specs.declared.parcel.Parcel.{Parcel}
use Rattle.lpis_country.specs.Tiling.{reaches}
use Rattle.lpis_country_seam.specs.Faults.{reaches_later, reaches_own}

or-left : (a b : Bool) → a ≡ true → (a || b) ≡ true
or-left true b e = refl
or-left false b e = absurd (true≢false (sym e))

or-right : (a b : Bool) → b ≡ true → (a || b) ≡ true
or-right true b e = refl
or-right false b e = e

-- the tile of a number is the first of those from it on
pub own-later : (k : Parcel) (tiles : List Box4) (n : ℕ) → reaches_own tiles n k ≡ true → reaches_later tiles n k ≡ true
own-later k [] n e = absurd (true≢false (sym e))
own-later k (t ∷ ts) zero e = or-left (reaches k t) (list_any (reaches k) ts) e
own-later k (t ∷ ts) (suc n) e = own-later k ts n e

-- a tile from the number after it on is one from it on
pub next-later : (k : Parcel) (tiles : List Box4) (n : ℕ) → reaches_later tiles (suc n) k ≡ true → reaches_later tiles n k ≡ true
next-later k [] zero e = e
next-later k [] (suc n) e = e
next-later k (t ∷ ts) zero e = or-right (reaches k t) (list_any (reaches k) ts) e
next-later k (t ∷ ts) (suc n) e = next-later k ts n e
