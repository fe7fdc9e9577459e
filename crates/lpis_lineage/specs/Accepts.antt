-- What accepting a release means.
use Rattle.std.specs.Prelude.{◌≡◌, ◌<◌, ◌≤◌, ◌⊎◌, ◌++◌, ◌∷◌, [], ℕ, List, Some, Result, Ok, Err}
use Rattle.lpis_lineage.specs.declared.row.Row.{Row}
use Rattle.lpis_lineage.specs.declared.row.Entry.{Entry}
use Rattle.lpis_lineage.specs.declared.fault.LineageFault.{LineageFault}
use Rattle.lpis_lineage.specs.declared.fault.LineageFault.TheVariants.{Memory as WantsMemory}
use Rattle.lpis_lineage.specs.declared.fault.AddFault.{AddFault}
use Rattle.lpis_lineage.specs.declared.fault.AddFault.TheVariants.{Memory, Year, Lineage}
use Rattle.lpis_tables.specs.Ids.{has_id}
use Rattle.lpis_lineage.specs.Lineage.{last_year}
use Rattle.lpis_lineage.specs.Lawful.{IsLawful, RowsFit}
use Rattle.lpis_lineage.specs.Faults.{faults, first}

-- a release with this set of identifiers and these rows
pub record IsReleaseEntry (live : List (List ℕ)) (rows : List Row) (e : Entry) : Type 0 where
  pub ids : (q : List ℕ) → has_id e.live q ≡ has_id live q
  pub rows_are : e.rows ≡ rows

-- with this release at its end, in whatever later year, the history is lawful and its rows fit
abbrev pub MayFollow : List Entry → List (List ℕ) → List Row → Type 0
MayFollow h live rows = (e : Entry) → IsReleaseEntry live rows e → last_year h < e.year
    → IsLawful (h ++ e ∷ []) × RowsFit (h ++ e ∷ [])

-- in no later year it is
abbrev pub NeverFollows : List Entry → List (List ℕ) → List Row → Type 0
NeverFollows h live rows = (e : Entry) → IsReleaseEntry live rows e → IsLawful (h ++ e ∷ [])
    → RowsFit (h ++ e ∷ []) → ⊥

-- Ok exactly where the release may follow
abbrev pub Decides : {A : Type 0} → List Entry → List (List ℕ) → List Row → Result A LineageFault
    → Type 0
Decides h live rows (Ok a) = MayFollow h live rows
Decides h live rows (Err e) = (e ≡ WantsMemory) ⊎ NeverFollows h live rows

-- the history with the release at its end
abbrev pub Adds : List Entry → List Entry → ℕ → List (List ℕ) → List Row → Type 0
Adds old new year live rows = (e : Entry) × (new ≡ old ++ e ∷ []) × (e.year ≡ year)
    × IsReleaseEntry live rows e

-- why `add` refuses this release: its year is not above the last one; else the first fault of its
-- lineage. Out of memory is set aside
abbrev pub IsAddFault : List Entry → ℕ → List (List ℕ) → List Row → AddFault → Type 0
IsAddFault h year live rows Memory = Unit {0}
IsAddFault h year live rows (Year last) = (year ≤ last_year h) × (last ≡ last_year h)
IsAddFault h year live rows (Lineage fault) = (last_year h < year)
    × (first (faults h live rows) ≡ Some fault)

-- what `add` answers
abbrev pub AddRefuses : {A : Type 0} → List Entry → ℕ → List (List ℕ) → List Row → Result A AddFault
    → Type 0
AddRefuses h year live rows (Ok a) = (last_year h < year) × (faults h live rows ≡ [])
AddRefuses h year live rows (Err fault) = IsAddFault h year live rows fault
