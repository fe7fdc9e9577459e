-- The faults of a release's lineage, in the order in which the first is reported.
use Rattle.std.specs.Prelude.{◌&&◌, ◌||◌, Bool, false, not, cond, ℕ, List, [], ◌∷◌, ◌++◌, ◌≡◌, ◌⊎◌}
use Rattle.std.specs.Prelude.{Result, Ok, Err, Option, None, Some, is_some, ◌+◌}
use Rattle.std.specs.List.{list_any}
use Rattle.lpis_lineage.specs.declared.row.Row.{Row}
use Rattle.lpis_lineage.specs.declared.row.Entry.{Entry}
use Rattle.lpis_lineage.specs.declared.fault.LineageCode.TheVariants as code
use Rattle.lpis_lineage.specs.declared.fault.LineageFault.{LineageFault}
use Rattle.lpis_lineage.specs.declared.fault.LineageFault.TheVariants.{Memory, OfRow, NoRow}
use Rattle.lpis_lineage.specs.declared.fault.LineageFault.TheVariants.{UsedBefore}
use Rattle.lpis_tables.specs.Ids.{has_id, same_id}
use Rattle.lpis_lineage.specs.Lineage.{is_row_of, same_row, last_live}
use Rattle.lpis_lineage.specs.declared.kind.Kind.{Kind}
use Rattle.lpis_lineage.specs.ExactGroups.{is_outside}
use Rattle.lpis_lineage.specs.Kinds.{kind}
use Rattle.lpis_lineage.specs.Spans.{last_held}

-- a fault where the test is true, before the others
abbrev pub fault_before : Bool → LineageFault → List LineageFault → List LineageFault
fault_before b fault others = cond b (fault ∷ others) others

-- the successor, where there is one, is not in the release
abbrev pub is_missing : List (List ℕ) → Option (List ℕ) → Bool
is_missing live None = false
is_missing live (Some s) = not (has_id live s)

-- one row is an ending of the identifier to which the other gives a successor
abbrev pub clashes : Row → Row → Bool
clashes r q = same_id r.old q.old
    && ((is_some r.new && not (is_some q.new)) || (not (is_some r.new) && is_some q.new))

-- the faults of one row with this number, before others; the rows `before` stand above it
abbrev pub faults_of_row : List (List ℕ) → List (List ℕ) → List Row → ℕ → Row → List LineageFault
    → List LineageFault
faults_of_row last live before k r others =
    fault_before (not (has_id last r.old)) (OfRow code.OldNotLive k) (
    fault_before (has_id live r.old) (OfRow code.OldStillLive k) (
    fault_before (is_missing live r.new) (OfRow code.SuccessorMissing k) (
    fault_before (list_any (same_row r) before) (OfRow code.DoubledRow k) (
    fault_before (list_any (clashes r) before) (OfRow code.EndingBesideSuccessor k) others))))

-- the faults of the rows, of which the first has this number; the rows `before` stand above them
abbrev pub lineage_row_faults : List (List ℕ) → List (List ℕ) → List Row → ℕ → List Row
    → List LineageFault
lineage_row_faults last live before k [] = []
lineage_row_faults last live before k (r ∷ rs) = faults_of_row last live before k r
    (lineage_row_faults last live (before ++ r ∷ []) (k + 1) rs)

-- the identifiers that are dropped and have no row
abbrev pub dropped_faults : List (List ℕ) → List Row → List (List ℕ) → List LineageFault
dropped_faults live rows [] = []
dropped_faults live rows (id ∷ ids) =
    fault_before (not (has_id live id) && not (list_any (is_row_of id) rows))
    (NoRow id) (dropped_faults live rows ids)

-- where it was held, and is not live in the last release, that is a fault
abbrev pub used_fault_before : Option ℕ → Bool → List ℕ → List LineageFault → List LineageFault
used_fault_before None live id others = others
used_fault_before (Some year) live id others = fault_before (not live) (UsedBefore id year) others

abbrev pub used_faults : List Entry → List (List ℕ) → List (List ℕ) → List LineageFault
used_faults h last [] = []
used_faults h last (id ∷ ids) = used_fault_before (last_held h id) (has_id last id) id
    (used_faults h last ids)

-- the marked rows that belong to no exact split and no exact merge, of which the first has this
-- number
abbrev pub marked_row_faults : (List ℕ → Option Kind) → List Row → ℕ → List Row → List LineageFault
marked_row_faults kind_of all k [] = []
marked_row_faults kind_of all k (r ∷ rs) = fault_before (is_outside kind_of all r) (OfRow code.MarkedOutside k)
    (marked_row_faults kind_of all (k + 1) rs)

-- the faults of the rows, then of dropped identifiers, then of used ones
abbrev pub faults_but_marks : List Entry → List (List ℕ) → List Row → List LineageFault
faults_but_marks h live rows = lineage_row_faults (last_live h) live [] 1 rows
    ++ (dropped_faults live rows (last_live h) ++ used_faults h (last_live h) live)

-- all faults, in the order: those, then those of marks
abbrev pub faults : List Entry → List (List ℕ) → List Row → List LineageFault
faults h live rows = faults_but_marks h live rows
    ++ marked_row_faults (kind (last_live h) live rows) rows 1 rows

-- the first of some faults
abbrev pub first : List LineageFault → Option LineageFault
first [] = None
first (f ∷ fs) = Some f

-- an answer is the first of these faults, Ok exactly where there is none, or out of memory
abbrev pub ReportsFirstOf : {A : Type 0} → List LineageFault → Result A LineageFault → Type 0
ReportsFirstOf fs (Ok a) = fs ≡ []
ReportsFirstOf fs (Err e) = (e ≡ Memory) ⊎ (first fs ≡ Some e)
