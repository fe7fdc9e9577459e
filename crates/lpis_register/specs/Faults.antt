-- Which faults a call may answer.
use Rattle.std.specs.Prelude.{◌≡◌, ◌≢◌, ◌<◌, ◌⊎◌, Result, Ok, Err}
use Rattle.lpis_checker.specs.declared.exact.ExactFault.TheVariants as exact
use Rattle.lpis_lineage_exact.specs.Asking.{IsShown, IsUnkept, IsUnshown}
use Rattle.lpis_lineage.specs.declared.fault.AddFault.TheVariants as add
use Rattle.lpis_lineage.specs.Accepts.{IsAddFault}
use Rattle.lpis_lineage.specs.Lineage.{last_year}
use Rattle.lpis_register.specs.Holdings.{Candidate, Holdings, candidate_ids}
use Rattle.lpis_register.specs.declared.fault.PublishFault.{PublishFault}
use Rattle.lpis_register.specs.declared.fault.PublishFault.TheVariants.{Memory, Year, Lineage}
use Rattle.lpis_register.specs.declared.fault.PublishFault.TheVariants.{NotKept, Exact, Store}
use Rattle.lpis_register.specs.declared.fault.PublishFault.TheVariants.{StoreMemory, Unknown}
use Rattle.lpis_register.specs.declared.fault.PublishFault.TheVariants.{Unlawful}

-- why publishing a candidate is refused: as adding its identifiers and rows to the history is; else
-- for the first old shape that an exact group needs and that is not kept; else for the first block
-- that does not show what it is to. Out of memory and the database's failures are set aside
abbrev pub IsRefused : Candidate → Holdings → PublishFault → Type 0
IsRefused c before Memory = Unit {0}
IsRefused c before (Year last) =
    IsAddFault before.history c.year (candidate_ids c) c.rows (add.Year last)
IsRefused c before (Lineage fault) =
    IsAddFault before.history c.year (candidate_ids c) c.rows (add.Lineage fault)
IsRefused c before (NotKept id) =
    (last_year before.history < c.year) × IsUnkept before.history before.shapes c.parcels c.rows id
IsRefused c before (Exact fault) = (last_year before.history < c.year) × (fault ≢ exact.Memory)
    × IsUnshown before.history before.shapes c.parcels c.blocks c.rows fault
IsRefused c before Store = Unit {0}
IsRefused c before StoreMemory = Unit {0}
IsRefused c before Unknown = ⊥
IsRefused c before Unlawful = ⊥

-- what publishing it answers: Ok exactly where its year is above the last one, its lineage has no
-- fault, all old shapes are kept and the blocks show what the exact groups ask for
abbrev pub PublishRefuses : {A : Type 0} → Candidate → Holdings → Result A PublishFault → Type 0
PublishRefuses c before (Ok a) = (last_year before.history < c.year)
    × IsShown before.history before.shapes c.parcels c.blocks c.rows
PublishRefuses c before (Err fault) = IsRefused c before fault

-- what an opening answers in place of a register
abbrev pub IsOpeningFault : PublishFault → Type 0
IsOpeningFault Memory = Unit {0}
IsOpeningFault Store = Unit {0}
IsOpeningFault Unlawful = Unit {0}
IsOpeningFault _ = ⊥

-- a failure of an opening or a reading: memory ran out, or the database failed
abbrev pub IsFailure : PublishFault → Type 0
IsFailure Memory = Unit {0}
IsFailure Store = Unit {0}
IsFailure _ = ⊥

-- the database failed, or memory ran out, while a release was written or read back
abbrev pub IsStoreFault : PublishFault → Type 0
IsStoreFault fault = (fault ≡ Store) ⊎ (fault ≡ StoreMemory)

-- what the refusals above say nothing of: memory ran out, or the database failed
abbrev pub IsSetAside : PublishFault → Type 0
IsSetAside Memory = Unit {0}
IsSetAside Store = Unit {0}
IsSetAside StoreMemory = Unit {0}
IsSetAside _ = ⊥
