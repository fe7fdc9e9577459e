-- The indices of items, and what the joins' steps answer.
use Rattle.std.specs.Prelude.{◌+◌, ◌∷◌, ◌++◌, ◌==◌, Bool, true, false, ℕ, zero, suc, List, []}
use Rattle.std.specs.Prelude.{option_to_list, Err, if◌then◌else◌, filter, map, slice_get}
use Rattle.lpis_tables.specs.declared.fault.Table.TheVariants as table
use Rattle.lpis_tables.specs.declared.fault.TableCode.TheVariants.{ParcelWithoutPieces}
use Rattle.lpis_tables.specs.declared.fault.TableFault.{TableFault}
use Rattle.lpis_tables.specs.Faults.{fault_if, unless_faulty}
use Rattle.lpis_tables.specs.Table.{Answers, fault_at}
use Rattle.lpis_release.specs.declared.groups.Join.{Join}

-- the indices of the items that pass a test, the first item at index i
abbrev pub indices_where : {A : Type 0} → (A → Bool) → ℕ → List A → List ℕ
indices_where test i [] = []
indices_where test i (x ∷ xs) = if test x then i ∷ indices_where test (i + 1) xs else indices_where
    test (i + 1) xs

-- the items at indices
abbrev pub at_indices : {A : Type 0} → List A → List ℕ → List A
at_indices xs [] = []
at_indices xs (i ∷ is) = option_to_list (slice_get xs i) ++ at_indices xs is

-- a join is of the parcel k
abbrev pub is_of_parcel : ℕ → Join → Bool
is_of_parcel k j = j.parcel == k

-- the pieces of joins
abbrev pub joined_pieces : List Join → List ℕ
joined_pieces joins = map (λ (j : Join). j.piece) joins

-- the pieces of the parcel k
abbrev pub group_at : List Join → ℕ → List ℕ
group_at joins k = joined_pieces (filter (is_of_parcel k) joins)

-- the fault is the first of these, or memory ran out
abbrev pub Refuses : List TableFault → TableFault → Type 0
Refuses faults fault = Answers {A = Unit {0}} (Err fault) (unless_faulty faults tt)

abbrev pub is_nil : List ℕ → Bool
is_nil [] = true
is_nil (x ∷ xs) = false

-- which of so many parcels from k on have no piece, row by row
abbrev pub empty_faults : List Join → ℕ → ℕ → List TableFault
empty_faults joins k zero = []
empty_faults joins k (suc n) =
    fault_if (is_nil (group_at joins k)) (fault_at ParcelWithoutPieces table.Parcels (k + 1))
    ++ empty_faults joins (k + 1) n
