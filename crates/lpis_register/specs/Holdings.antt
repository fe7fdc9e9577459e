-- What a register holds, and a release that is handed to it.
use Rattle.std.specs.Prelude.{ℕ, List}
use Rattle.sqlite.specs.Held.{Held}
use Rattle.lpis_cert.specs.declared.part.ExactBlock.{ExactBlock}
use Rattle.lpis_lineage.specs.declared.row.Row.{Row}
use Rattle.lpis_lineage.specs.declared.row.Entry.{Entry}
use Rattle.lpis_release.specs.declared.parcel.Parcel.{Parcel}
use Rattle.lpis_release.specs.Release.{parcel_ids}
use Rattle.lpis_register_rows.specs.Shapes.{Shape}

-- what a register holds: the history of its releases, and the shapes of the last one's parcels
pub record Holdings : Type 0 where
  pub history : List Entry
  pub shapes : List Shape

abbrev pub holdings : List Entry → List Shape → Holdings
holdings history shapes = record { history = history; shapes = shapes }

-- a register: its database, and what it holds
pub record RegisterState (S : Type 0) : Type 0 where
  pub conn : Held S
  pub held : Holdings

-- a release that is to be published: its year, its parcels, the blocks of its certificate, and its
-- rows of lineage
pub record Candidate : Type 0 where
  pub year : ℕ
  pub parcels : List Parcel
  pub blocks : List ExactBlock
  pub rows : List Row

abbrev pub candidate : ℕ → List Parcel → List ExactBlock → List Row → Candidate
candidate year parcels blocks rows =
    record { year = year; parcels = parcels; blocks = blocks; rows = rows }

-- the identifiers of its parcels
abbrev pub candidate_ids : Candidate → List (List ℕ)
candidate_ids c = parcel_ids c.parcels
