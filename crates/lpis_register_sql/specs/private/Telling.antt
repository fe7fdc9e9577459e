-- What the reading of one table tells.
use Rattle.std.specs.Prelude.{◌≡◌, ◌⊎◌, IsTrue, List, MatchResult, Ok, Result, ℕ}
use Rattle.sqlite.specs.Given.{IsPlain}
use Rattle.sqlite.specs.Listing.{understood}
use Rattle.sqlite.specs.Schema.{Schema}
use Rattle.sqlite.specs.State.{HasCleanDisk, IsUnchanged, State}
use Rattle.sqlite.specs.declared.error.Error.{Error}
use Rattle.sqlite.specs.declared.error.Error.TheVariants.{SqliteFailure}
use Rattle.sqlite.specs.declared.error.ErrorCode.TheVariants.{OutOfMemory}
use Rattle.sqlite_disk.specs.Disk.{MoreFaults}
use Rattle.sqlite_resolve.specs.declared.compiled.Compiled.{Compiled}
use Rattle.lpis_register_sql.specs.StoredTables.{ColumnKind}
use Rattle.lpis_register_sql.specs.Unread.{IsUnanswered}

-- it answers and changes nothing, or there is a cause
abbrev pub TellsRows : {X : Type 0} → List ℕ → List ColumnKind → State → State → Result X Error
    → Type 0
TellsRows sql kinds old new r = HasCleanDisk new → IsTrue old.is_open
    → MatchResult r (λ _. IsUnchanged old new ⊎ IsUnanswered old sql kinds)
    (λ e. (e ≡ SqliteFailure OutOfMemory)
    ⊎ (MoreFaults old.faults new.faults ⊎ IsUnanswered old sql kinds))

-- where the text is understood over this schema, it is a plain query
abbrev pub IsPlainWhere : Schema → List ℕ → Type 0
IsPlainWhere schema sql = (c : Compiled) → understood schema sql ≡ Ok c → IsPlain (Ok c)
