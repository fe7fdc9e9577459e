-- Where strips begin.
use Rattle.std.specs.Prelude.{◌<◌, ◌≤◌, ℕ, ℤ, ◌≤ℤ◌, ◌<ℤ◌, List, get_or, length}

-- the numbers never fall
abbrev pub AreRising : List ℤ → Type 0
AreRising xs = (k m : ℕ) (d : ℤ) → k ≤ m → m < length xs → get_or xs k d ≤ℤ get_or xs m d

-- so many strips begin at an x or left of it
pub record IsStripIn (starts : List ℤ) (x : ℤ) (strip : ℕ) : Type 0 where
  pub within : strip ≤ length starts
  pub left : (k : ℕ) (d : ℤ) → k < strip → get_or starts k d ≤ℤ x
  pub right : (k : ℕ) (d : ℤ) → strip ≤ k → k < length starts → x <ℤ get_or starts k d
