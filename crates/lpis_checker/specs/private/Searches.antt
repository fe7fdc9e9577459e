-- What searches for the first site that fails answer.
use Rattle.std.specs.Prelude.{◌≡◌, ℕ, ◌<◌, Option, MatchOption}
use Rattle.lpis_release.specs.Release.{Contents}
use Rattle.lpis_cert.specs.declared.cert.Cert.{Cert}
use Rattle.lpis_pairs.specs.NearPairs.{IsBelow}
use Rattle.lpis_checker.specs.declared.condition.PieceCondition.TheVariants as piece
use Rattle.lpis_checker.specs.declared.condition.ParcelCondition.TheVariants as parcel
use Rattle.lpis_checker.specs.declared.condition.LineCondition.TheVariants as line
use Rattle.lpis_checker.specs.declared.condition.Site.{Site}
use Rattle.lpis_checker.specs.declared.condition.Site.TheVariants as site
use Rattle.lpis_checker.specs.GoodCertificate.{ConditionHolds, IsInOrder, OfLine}
use Rattle.lpis_checker.specs.FirstFault.{condition_of, IsFault, location_of}
use Rattle.lpis_checker.specs.declared.fault.CheckFault.{CheckFault}
use Rattle.lpis_checker.specs.declared.fault.CheckFault.TheVariants.{Memory, At}

-- the first place at which something does not hold, or none where it holds at each
abbrev pub FindsPlace : (ℕ → Type 0) → Option ℕ → Type 0
FindsPlace P o = MatchOption o ((m : ℕ) → P m) (λ k. (P k → ⊥) × ((m : ℕ) → m < k → P m))

-- the first near pair that no line names, or none where each is named
abbrev pub FindsPair : Contents → Cert → Option (ℕ × ℕ) → Type 0
FindsPair r c o = MatchOption o ((i j : ℕ) → ConditionHolds r c (site.Pair i j))
    (λ p. (ConditionHolds r c (site.Pair p.0 p.1) → ⊥)
    × ((i j : ℕ) → IsBelow i j p.0 p.1 → ConditionHolds r c (site.Pair i j)))

-- each pair line is in order
abbrev pub AreLinesInOrder : Cert → Type 0
AreLinesInOrder c = (k : ℕ) → OfLine c k (IsInOrder c k)

-- the search that looks at a site, in their order
abbrev pub search_of : Site → ℕ
search_of (site.Piece piece.Names k) = 0
search_of (site.Parcel parcel.Names k) = 1
search_of (site.Order k) = 2
search_of (site.Piece piece.Triangles k) = 3
search_of (site.Piece piece.CounterClockwise k) = 4
search_of (site.Piece piece.Flats k) = 5
search_of (site.Parcel parcel.Flats k) = 6
search_of (site.Piece piece.Corners k) = 7
search_of (site.Parcel parcel.Corners k) = 8
search_of (site.Piece piece.Edges k) = 9
search_of (site.Parcel parcel.Edges k) = 10
search_of (site.Pair i j) = 11
search_of (site.Line line.NotApart k) = 12
search_of (site.Line line.Separating k) = 13

-- how many there are, and how many of parts
abbrev pub all_searches : ℕ
all_searches = 14

abbrev pub part_searches : ℕ
part_searches = 11

-- at the sites of the first n searches the conditions hold
pub record HoldUntil (r : Contents) (c : Cert) (n : ℕ) : Type 0 where
  pub holds : (at : Site) → search_of at < n → ConditionHolds r c at

-- the first n searches find the fault, or none where the conditions hold at their sites
abbrev pub FindsUntil : Contents → Cert → ℕ → Option Site → Type 0
FindsUntil r c n o = MatchOption o (HoldUntil r c n) (λ at. (search_of at < n) × IsFault r c at)

-- what is reported of it
abbrev pub IsFaultAt : Contents → Cert → Site → CheckFault → Type 0
IsFaultAt r c at Memory = ⊥
IsFaultAt r c at (At code place) = (code ≡ condition_of at) × (place ≡ location_of r c at)
