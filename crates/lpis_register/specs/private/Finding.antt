-- What a call answers that reads the tables which were found.
use Rattle.std.specs.Prelude.{◌≡◌, ◌⊎◌, Bool, IsTrue, List, MatchResult, Result, IfErr}
use Rattle.sqlite.specs.Effect.{Database}
use Rattle.sqlite.specs.State.{HasCleanDisk, IsUnchanged, State}
use Rattle.lpis_lineage.specs.declared.row.Entry.{Entry}
use Rattle.lpis_register_rows.specs.Content.{Content}
use Rattle.lpis_register_rows.specs.Histories.{IsSameHistory, TablesHave}
use Rattle.lpis_register_rows.specs.Shapes.{Shape}
use Rattle.lpis_register_rows.specs.declared.version.Version.{Version}
use Rattle.lpis_register_sql.specs.declared.found.Found.{Found}
use Rattle.lpis_register_sql.specs.Showing.{Shows, ShowsRows, StaysSame}
use Rattle.lpis_register_sql.specs.Unread.{IsUnread}
use Rattle.lpis_register.specs.Saying.{SaysNoTables, SaysTables}
use Rattle.lpis_register.specs.declared.fault.PublishFault.{PublishFault}
use Rattle.lpis_register.specs.declared.fault.PublishFault.TheVariants.{Store, Unlawful}

-- with an answer nothing is changed, or a table that was found is not read; where the database
-- failed, one is not
abbrev pub TellsFound : {X : Type 0} → Found → State → State → Result X PublishFault → Type 0
TellsFound found old new r = HasCleanDisk new → IsTrue old.is_open
    → MatchResult r (λ _. IsUnchanged old new ⊎ IsUnread found old new)
    (λ fault. fault ≡ Store → IsUnread found old new)

-- what the tables that were found show is answered, and they are refused for what they show; both
-- change nothing
pub record SeesFound {X : Type 0} (Says : Database → X → Type 0) (SaysNo : Database → Type 0)
    (old new : State) (r : Result X PublishFault) : Type 0 where
  pub shows : Shows Says old new r
  pub refuses : HasCleanDisk new → IfErr r (λ e. e ≡ Unlawful → SaysNo old.now × StaysSame old new)

-- rows that say a history, or none
abbrev pub SeesHistory : Found → Database → List Entry × Version → Type 0
SeesHistory found db it =
    (rows : Content) × ShowsRows found db rows × TablesHave it.1 rows it.0

abbrev pub SeesNoHistory : Found → Database → Type 0
SeesNoHistory found db = (rows : Content) × ShowsRows found db rows
    × ((version : Version) (h : List Entry) → TablesHave version rows h → ⊥)

-- whether what is said is this: where it is so the two are equal, and it is so where the histories
-- are the same
pub record IsTold (k h : List Entry) (others shapes : List Shape) (is : Bool) : Type 0 where
  pub equal : IsTrue is → (k ≡ h) × (others ≡ shapes)
  pub alike : IsSameHistory k h → others ≡ shapes → IsTrue is

-- whether the tables say this history and keep these shapes, or why they say none
abbrev pub SeesTold : Found → List Entry → List Shape → State → State → Result Bool PublishFault
    → Type 0
SeesTold found h shapes = SeesFound (λ db is. (version : Version) × (k : List Entry)
    × (others : List Shape) × SaysTables found db version k others × IsTold k h others shapes is)
    (SaysNoTables found)
