-- What an opening finds, what the engine runs in it, and what it leaves.
use Rattle.std.specs.Prelude.{◌≡◌, ◌⊎◌, false, List, IsTrue}
use Rattle.sqlite.specs.Effect.{Database}
use Rattle.sqlite.specs.Held.{Held, state}
use Rattle.sqlite.specs.Tree.{Trees}
use Rattle.sqlite.specs.State.{HasCleanDisk, Survives}
use Rattle.sqlite_trees.specs.declared.store.Store.{Ghosts}
use Rattle.lpis_lineage.specs.declared.row.Entry.{Entry}
use Rattle.lpis_register_rows.specs.Content.{StoredSpan}
use Rattle.lpis_register_rows.specs.Histories.{AreSpansOf}
use Rattle.lpis_register_rows.specs.Shapes.{Shape}
use Rattle.lpis_register_rows.specs.declared.version.Version.{Version}
use Rattle.lpis_register_rows.specs.declared.version.Version.TheVariants.{First, Third}
use Rattle.lpis_register_sql.specs.Hiding.{hides_table}
use Rattle.lpis_register_sql.specs.Making.{settling_statements}
use Rattle.lpis_register_sql.specs.Presence.{AreThere, is_any}
use Rattle.lpis_register_sql.specs.Quiet.{StaysSettled}
use Rattle.lpis_register_sql.specs.Showing.{StaysSame}
use Rattle.lpis_register_sql.specs.Stopping.{RanAlone}
use Rattle.lpis_register_sql.specs.declared.found.Found.{Found}
use Rattle.lpis_register.specs.Faults.{IsOpeningFault}
use Rattle.lpis_register.specs.Running.{RanTo}
use Rattle.lpis_register.specs.Saying.{HasWhole, IsSaid, IsWhole, LeavesSaid, SaysNone}
use Rattle.lpis_register.specs.Saying.{SaysRegister, SaysTables, StaysWhole}
use Rattle.lpis_register.specs.declared.fault.PublishFault.{PublishFault}
use Rattle.lpis_register.specs.declared.fault.PublishFault.TheVariants.{Unlawful}

-- what makes tables of version 3 of those that are there, of this version: those that are found,
-- and of version 1 the spans of the history
pub record Settling {S : Type 0} (version : Version) (h : List Entry) (conn : Held S) : Type 0 where
  pub found : Found
  pub there : AreThere conn.schema found
  pub spans : List StoredSpan
  pub are : version ≡ First → AreSpansOf spans h

-- all tables of version 3 are there, and say this as such
abbrev pub IsSettledSo : Database → List Entry → List Shape → Type 0
IsSettledSo db h shapes = (found : Found) × AreThere db.schema found × IsWhole found
    × SaysTables found db Third h shapes

-- the tables that are there say this in this version; where none is there, that is version 3
abbrev pub AreOfVersion : Database → Version → List Entry → List Shape → Type 0
AreOfVersion db version h shapes = (found : Found) × AreThere db.schema found
    × (((is_any found ≡ false) × (version ≡ Third)) ⊎ SaysTables found db version h shapes)

module _ {S : Type 0} (store : Ghosts S) where
  -- the engine ran the statements that make them, and no others, and committed that
  abbrev pub RanSettling : Version → List Entry → Held S → Held S → Type 0
  RanSettling version h old new = (by : Settling version h old)
      × RanAlone store (settling_statements version by.found by.spans) old new

  -- these trees are those at the end of these statements, and no others
  abbrev pub RanSettlingTo : Version → List Entry → Held S → Trees → Type 0
  RanSettlingTo version h old trees = (by : Settling version h old)
      × RanTo store (settling_statements version by.found by.spans) old trees

  -- once the tables were read, which changed nothing
  abbrev pub AfterReading : Held S → (Held S → Type 0) → Type 0
  AfterReading old Then = (read : Held S) × StaysSame (state store old) (state store read)
      × (read.step_limit ≡ old.step_limit) × Then read

  -- all tables of version 3 were there and said this, and nothing is changed; or the engine ran
  -- these statements once the tables were read, which were of this version
  abbrev pub RanToOpen : List Entry → List Shape → Held S → Held S → Type 0
  RanToOpen h shapes old new = (IsSettledSo (state store old).now h shapes
      × ((state store new).now ≡ (state store old).now))
      ⊎ AfterReading old (λ read. (version : Version)
      × AreOfVersion (state store old).now version h shapes × RanSettling version h read new)

  -- what an opening commits, if anything: tables that say what those said that were there, as these
  -- statements made them
  pub record LeavesOpened (old : Held S) (trees : Trees) : Type 0 where
    pub history : List Entry
    pub shapes : List Shape
    pub said : SaysRegister (state store old).now history shapes
    pub leaves : LeavesSaid history shapes trees
    pub ran : AfterReading old (λ read. (version : Version)
        × AreOfVersion (state store old).now version history shapes
        × RanSettlingTo version history read trees)

  -- an opening that made this history and these shapes of a database
  pub record IsOpened (old new : Held S) (h : List Entry) (shapes : List Shape) : Type 0 where
    -- they are what the tables say that were there, whatever these are, and in whatever order
    pub said : HasCleanDisk (state store new) → SaysRegister (state store old).now h shapes
    -- and the tables say it afterwards
    pub says : HasCleanDisk (state store new) → IsSaid (state store new) h shapes
    -- where all of version 3 were there and said this as such, nothing is changed, whatever stands
    -- beside
    pub stays : HasCleanDisk (state store new)
        → StaysWhole (state store old).now (state store new).now h shapes
    -- each of version 3 is there then
    pub whole : HasCleanDisk (state store new) → HasWhole (state store new).now
    pub ran : HasCleanDisk (state store new) → RanToOpen h shapes old new
    -- no table of the register is there unseen
    pub seen : hides_table old.schema ≡ false
    pub crash : Survives (state store old) (state store new) (LeavesOpened old)

  -- an opening that failed: unless the database is shut, it is as it was, whatever it holds
  pub record IsUnopened (old new : Held S) (fault : PublishFault) : Type 0 where
    pub same : HasCleanDisk (state store new) → IsTrue (state store new).is_open
        → StaysSettled (state store old) (state store new)
    -- rows are refused where the tables that are there say nothing, whatever these are; then
    -- nothing is changed, and no table of the register is there unseen
    pub refused : fault ≡ Unlawful → HasCleanDisk (state store new)
        → SaysNone (state store old).now × StaysSame (state store old) (state store new)
    pub seen : fault ≡ Unlawful → hides_table old.schema ≡ false
    pub untouched : fault ≡ Unlawful → Survives (state store old) (state store new) (λ _. ⊥)
    pub crash : Survives (state store old) (state store new) (LeavesOpened old)
    pub kind : IsOpeningFault fault
