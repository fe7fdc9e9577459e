-- What the tables that a database has say, in whatever order they stand, and whatever stands
-- beside.
use Rattle.std.specs.Prelude.{◌≡◌, ◌⊎◌, [], false, true, List}
use Rattle.sqlite.specs.Effect.{Database, IsDatabase}
use Rattle.sqlite.specs.Schema.{Schema}
use Rattle.sqlite.specs.State.{State}
use Rattle.sqlite.specs.Tree.{Trees}
use Rattle.lpis_lineage.specs.declared.row.Entry.{Entry}
use Rattle.lpis_lineage.specs.Lineage.{last_live}
use Rattle.lpis_register_rows.specs.Content.{Content, StoredText}
use Rattle.lpis_register_rows.specs.Histories.{TablesHave}
use Rattle.lpis_register_rows.specs.Shapes.{AreLive, Shape, ShapesAre, TextsStand}
use Rattle.lpis_register_rows.specs.declared.version.Version.{Version}
use Rattle.lpis_register_rows.specs.declared.version.Version.TheVariants.{First, Second, Third}
use Rattle.lpis_register_sql.specs.Presence.{AreThere, is_any}
use Rattle.lpis_register_sql.specs.Quiet.{IsSettled}
use Rattle.lpis_register_sql.specs.Showing.{ShowsRows, ShowsTexts}
use Rattle.lpis_register_sql.specs.declared.found.Found.{Found}

-- ---- shapes: only version 3 keeps any

-- the texts that are shown are those of these shapes, which are of live parcels
abbrev pub SaysShapes : Version → Found → Database → List Entry → List Shape → Type 0
SaysShapes First found db h shapes = shapes ≡ []
SaysShapes Second found db h shapes = shapes ≡ []
SaysShapes Third found db h shapes = (texts : List StoredText) × ShowsTexts found db texts
    × ShapesAre texts shapes × AreLive (last_live h) shapes

-- the texts that are shown are those of no shapes of live parcels
abbrev pub SaysNoShapes : Version → Found → Database → List Entry → Type 0
SaysNoShapes First found db h = ⊥
SaysNoShapes Second found db h = ⊥
SaysNoShapes Third found db h = (texts : List StoredText) × ShowsTexts found db texts
    × (TextsStand texts (last_live h) → ⊥)

-- ---- the tables that are found

-- they show rows that say this history, as this version has it, and keep these shapes
pub record SaysTables (found : Found) (db : Database) (version : Version) (h : List Entry)
    (shapes : List Shape) : Type 0 where
  pub content : Content
  pub shown : ShowsRows found db content
  pub says : TablesHave version content h
  pub keeps : SaysShapes version found db h shapes

-- they show rows that say no history; or one whose shapes the texts are not
pub record SaysNoTables (found : Found) (db : Database) : Type 0 where
  pub content : Content
  pub shown : ShowsRows found db content
  pub none : ((version : Version) (h : List Entry) → TablesHave version content h → ⊥)
      ⊎ ((version : Version) × (h : List Entry) × TablesHave version content h
      × SaysNoShapes version found db h)

-- ---- the database

-- the tables that it has show rows that say this history
abbrev pub SaysHistory : Database → List Entry → Type 0
SaysHistory db h = (found : Found) × AreThere db.schema found × (content : Content)
    × ShowsRows found db content × (version : Version) × TablesHave version content h

-- the tables that it has show rows that say no history
abbrev pub SaysNoHistory : Database → Type 0
SaysNoHistory db = (found : Found) × AreThere db.schema found × (content : Content)
    × ShowsRows found db content
    × ((version : Version) (h : List Entry) → TablesHave version content h → ⊥)

-- it has none of the register's tables, and this is the empty history, with no shape; or those that
-- it has say this
abbrev pub SaysRegister : Database → List Entry → List Shape → Type 0
SaysRegister db h shapes = (found : Found) × AreThere db.schema found
    × (((is_any found ≡ false) × (h ≡ []) × (shapes ≡ []))
    ⊎ ((is_any found ≡ true) × (version : Version) × SaysTables found db version h shapes))

-- each table of version 3 is found
pub record IsWhole (found : Found) : Type 0 where
  pub format : found.format ≡ true
  pub years : found.years ≡ true
  pub spans : found.spans ≡ true
  pub lines : found.lines ≡ true
  pub texts : found.texts ≡ true
  pub marks : found.marks ≡ true

-- each table of version 3 is there
abbrev pub HasWhole : Database → Type 0
HasWhole db = (found : Found) × AreThere db.schema found × IsWhole found

-- where it has each of these, and they say this as version 3, it is shown still
abbrev pub StaysWhole : Database → Database → List Entry → List Shape → Type 0
StaysWhole db now h shapes = (found : Found) × AreThere db.schema found × (IsWhole found
    → (version : Version) × SaysTables found db version h shapes × (version ≡ Third → now ≡ db))

-- it has some, and those that it has say none
abbrev pub SaysNone : Database → Type 0
SaysNone db = (found : Found) × AreThere db.schema found × (is_any found ≡ true)
    × SaysNoTables found db

-- no transaction is open, and the tables say this
pub record IsSaid (st : State) (h : List Entry) (shapes : List Shape) : Type 0 where
  pub settled : IsSettled st
  pub says : SaysRegister st.now h shapes

-- a crash leaves trees that are those of a database, and it says this
abbrev pub LeavesSaid : List Entry → List Shape → Trees → Type 0
LeavesSaid h shapes trees = (schema : Schema)
    × IsDatabase (record { schema = schema; trees = trees })
    × SaysRegister (record { schema = schema; trees = trees }) h shapes
