-- What stands for a run that gave no answer.
use Rattle.std.specs.Prelude.{◌≡◌, ◌≤◌, ◌⊎◌, ◌∷◌, [], ℕ, List, ◌++◌, IfSome, codes, length}
use Rattle.std.specs.String.{string_bytes}
use Rattle.lpis_run.specs.declared.failure.Name.{Name}
use Rattle.lpis_run.specs.declared.failure.Name.TheVariants.{Area, Parcels, Covers, Classes}
use Rattle.lpis_run.specs.declared.failure.Name.TheVariants.{Lineage, Cert, Country, Points}
use Rattle.lpis_run.specs.declared.failure.Name.TheVariants.{Out}
use Rattle.lpis_run.specs.declared.failure.Failure.{Failure}
use Rattle.lpis_run.specs.declared.failure.Failure.TheVariants.{Memory, Read, ReadOf}
use Rattle.lpis_run.specs.declared.failure.Failure.TheVariants.{Store, StoreMemory, Write}
use Rattle.lpis_run.specs.Refusals.{region_end}
use Rattle.lpis_run.specs.Streams.{Known, most_bytes}

-- an input or an output by its name
abbrev pub name_text : Name → List ℕ
name_text Area = codes "area"
name_text Parcels = codes "parcels"
name_text Covers = codes "covers"
name_text Classes = codes "classes"
name_text Lineage = codes "lineage"
name_text Cert = codes "cert"
name_text Country = codes "country"
name_text Points = codes "points"
name_text Out = codes "out"

-- the line of a failure, with the region whose file was not read
abbrev pub failure_text : Failure → List ℕ
failure_text Memory = codes "failed memory\n"
failure_text (Read name) = codes "failed read " ++ name_text name ++ codes "\n"
failure_text (ReadOf name region) =
    codes "failed read " ++ name_text name ++ region_end (string_bytes region)
failure_text (Write name) = codes "failed write " ++ name_text name ++ codes "\n"
failure_text Store = codes "failed store\n"
failure_text StoreMemory = codes "failed store\n"

-- an input was not read, or memory ran out
abbrev pub IsUnread : Name → Failure → Type 0
IsUnread name failure = (failure ≡ Memory) ⊎ (failure ≡ Read name)

-- so it is of one of these inputs, which are read in this order, each by its name; those before it
-- are within the limit, as far as they are known
abbrev pub AreUnread : List (Name × Known) → Failure → Type 0
AreUnread [] failure = ⊥
AreUnread (input ∷ inputs) failure = IsUnread input.0 failure
    ⊎ (IfSome input.1 (λ bytes. length bytes ≤ most_bytes) × AreUnread inputs failure)

-- of readers in this order: where the failure names one, those behind it are as they were, and no
-- byte was asked of them
abbrev pub AreUntouched : {R : Type 0} → List (Name × R) → List (Name × R) → Failure → Type 0
AreUntouched [] [] failure = Unit {0}
AreUntouched (reader ∷ old) (other ∷ new) failure =
    (failure ≡ Read reader.0 → new ≡ old) × AreUntouched old new failure
AreUntouched _ _ failure = ⊥
