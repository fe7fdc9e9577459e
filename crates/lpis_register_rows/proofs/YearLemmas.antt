-- The years and the rows of a lawful history ascend.
use Rattle.std.proofs.Common.{◌≡◌, ◌<◌, ◌≤◌, ◌+◌, ◌⊎◌, inl, inr, refl, sym, subst, arith, ℕ, suc, ℤ, pos, List, [], ◌∷◌, length}
use Rattle.lpis_register_rows.proofs.Common.{AllByRecursion, Entry, Row, IsLawful, entry_at, Line, lines_from, successor_text, lineage_lines, years_of}
use Rattle.lpis_register_rows.proofs.AscendingLemmas.{Ascends, all-map, all-append, ascends-append, number_below, below-alone}

-- what holds at each position holds of each release
pub all-entries : (P : Entry → Type 0) (h : List Entry) → ((i : ℕ) → i < length h → P (entry_at h i)) → AllByRecursion P h
all-entries P [] f = tt
all-entries P (x ∷ h) f = (f 0 (omega arith), all-entries P h (λ i lt. f (suc i) (omega arith)))

years-above : (y : ℕ) (h : List Entry) → ((i : ℕ) → i < length h → y < (entry_at h i).year) → AllByRecursion (number_below (pos y)) (years_of h)
years-above y [] f = tt
years-above y (x ∷ h) f = (f 0 (omega arith), years-above y h (λ i lt. f (suc i) (omega arith)))

years-rising : (h : List Entry) → ((i j : ℕ) → i < j → j < length h → (entry_at h i).year < (entry_at h j).year) → Ascends number_below (years_of h)
years-rising [] f = tt
years-rising (x ∷ h) f = (years-above x.year h (λ i lt. f 0 (suc i) (omega arith) (omega arith)), years-rising h (λ i j lt le. f (suc i) (suc j) (omega arith) (omega arith)))

-- the years of a lawful history ascend
pub years-ascend : (h : List Entry) → IsLawful h → Ascends number_below (years_of h)
years-ascend h law = years-rising h law.years_rise

-- rows by year, and in it by position
abbrev pub line_below : Line → Line → Type 0
line_below a b = number_below a.year b.year ⊎ ((a.year ≡ b.year) × number_below a.position b.position)

-- no two rows of lineage are each below the other
pub line-alone : (a b : Line) → line_below a b → line_below b a → ⊥
line-alone a b (inl r) (inl s) = below-alone a.year b.year r s
line-alone a b (inl r) (inr (e, s)) = let t : number_below a.year a.year = subst (number_below a.year) e r in below-alone a.year a.year t t
line-alone a b (inr (e, r)) (inl s) = let t : number_below b.year b.year = subst (number_below b.year) e s in below-alone b.year b.year t t
line-alone a b (inr (e, r)) (inr (f, s)) = below-alone a.position b.position r s

-- a row of a year, from a position on
abbrev From : ℤ → ℕ → Line → Type 0
From y n l = (l.year ≡ y) × ((p : ℕ) × (l.position ≡ pos p) × (n ≤ p))

lines-from : (y : ℤ) (m n : ℕ) (rs : List Row) → m ≤ n → AllByRecursion (From y m) (lines_from y n rs)
lines-from y m n [] le = tt
lines-from y m n (r ∷ rs) le = ((refl, (n, refl, le)), lines-from y m (n + 1) rs (omega arith))

lines-of-year : (y : ℤ) (n : ℕ) (rs : List Row) → AllByRecursion (λ l. l.year ≡ y) (lines_from y n rs)
lines-of-year y n rs = all-map (From y 0) (λ l. l.year ≡ y) (lines_from y n rs) (λ l f. f.0) (lines-from y 0 n rs (omega arith))

from-ascends : (y : ℤ) (n : ℕ) (rs : List Row) → Ascends line_below (lines_from y n rs)
from-ascends y n [] = tt
from-ascends y n (r ∷ rs) = (
  all-map (From y (n + 1)) (line_below (record { year = y; position = pos n; old = r.old; new = successor_text r.new }))
      (lines_from y (n + 1) rs) (λ l f. inr (sym f.0, after n l f.1)) (lines-from y (n + 1) (n + 1) rs (omega arith)),
  from-ascends y (n + 1) rs,
) where
  after : (n : ℕ) (l : Line) → (p : ℕ) × (l.position ≡ pos p) × (n + 1 ≤ p) → number_below (pos n) l.position
  after n l (p, e, le) = subst (number_below (pos n)) (sym e) (let r : n < p = omega arith in r)

lines-above : (y : ℤ) (h : List Entry) → AllByRecursion (number_below y) (years_of h) → AllByRecursion (λ l. number_below y l.year) (lineage_lines h)
lines-above y [] a = tt
lines-above y (x ∷ h) a = all-append (λ l. number_below y l.year) (lines_from (pos x.year) 0 x.rows) (lineage_lines h)
    (all-map (λ l. l.year ≡ pos x.year) (λ l. number_below y l.year) (lines_from (pos x.year) 0 x.rows)
    (λ l e. subst (number_below y) (sym e) a.0) (lines-of-year (pos x.year) 0 x.rows)) (lines-above y h a.1)

-- where the years of a history ascend, its rows of lineage do, by year and in it by position
pub lines-ascend : (h : List Entry) → Ascends number_below (years_of h) → Ascends line_below (lineage_lines h)
lines-ascend [] a = tt
lines-ascend (x ∷ h) a =
    ascends-append line_below (lines_from (pos x.year) 0 x.rows) (lineage_lines h) (from-ascends (pos x.year) 0 x.rows) (lines-ascend h a.1) (
    all-map (λ l. l.year ≡ pos x.year) (λ l. AllByRecursion (line_below l) (lineage_lines h)) (lines_from (pos x.year) 0 x.rows)
    (λ l e. all-map (λ m. number_below (pos x.year) m.year) (line_below l) (lineage_lines h) (λ m b. inl (subst (λ (z : ℤ). number_below z m.year) (sym e) b)) (lines-above (pos x.year) h a.0))
    (lines-of-year (pos x.year) 0 x.rows))
