-- What a reading of the tables tells, and how readings join.
use Rattle.std.proofs.Common.{◌≡◌, ◌≢◌, ◌⊎◌, arith, inl, inr, List, Result, Ok, Err, IfErr, IsTrue}
use Rattle.lpis_register.proofs.Common.{State, Trees, HasCleanDisk, Survives, Entry, PublishFault, Version}
use Rattle.sqlite.proofs.Callers.{unchanged_then}
use Rattle.sqlite.specs.State.{IsUnchanged}
use Rattle.sqlite.specs.declared.error.Error.{Error}
use Rattle.sqlite.specs.declared.error.Error.TheVariants.{SqliteFailure}
use Rattle.sqlite.specs.declared.error.ErrorCode.TheVariants.{OutOfMemory}
use Rattle.lpis_register_sql.proofs.Shared.{unread_before, unread_still}
use Rattle.lpis_register_sql.specs.Presence.{AreThere}
use Rattle.lpis_register_sql.specs.Quiet.{LeavesAll}
use Rattle.lpis_register_sql.specs.Unread.{IsUnread, Tells}
use Rattle.lpis_register_sql.specs.declared.found.Found.{Found}
use Rattle.lpis_register.proofs.FailingLemmas.{unread_cause}
use Rattle.lpis_register.specs.Faults.{IsOpeningFault}
use Rattle.lpis_register.specs.HistoryAnswers.{ReadsHistory}
use Rattle.lpis_register.specs.declared.fault.PublishFault.TheVariants.{Memory, Store}
use Rattle.lpis_register.specs.private.Finding.{SeesFound, SeesHistory, SeesNoHistory, TellsFound}

-- ---- the history, read again

module _ (old new : State) (found : Found) (is : AreThere old.now.schema found) where
  pub read_again : (k : List Entry) (version : Version) → SeesFound (SeesHistory found) (SeesNoHistory found) old new (Ok (k, version))
      → LeavesAll {X = List Entry × Version} {E = PublishFault} old new (Ok (k, version))
      → ReadsHistory old new (Ok k)
  read_again k version sees reads = record {
    said = λ clean. let rows = (sees.shows.ok clean).0 in (found, is, rows.0, rows.1, version, rows.2);
    refused = λ clean. tt;
    same = λ clean up. reads.kept clean;
    crash = reads.survives;
    kinds = tt;
  }

  pub not_read : (e : PublishFault) → SeesFound (SeesHistory found) (SeesNoHistory found) old new (Err e) → LeavesAll {X = List Entry × Version} old new (Err e) → IsOpeningFault e
      → ReadsHistory old new (Err e)
  not_read e sees reads kind = record {
    said = λ clean. tt;
    refused = λ clean unlawful. let no = (sees.refuses clean unlawful).0 in (found, is, no.0, no.1, no.2);
    same = reads.same;
    crash = reads.survives;
    kinds = kind;
  }

-- ---- what a reading tells

-- rows that were read are of something, or fail otherwise than as the database
pub told_read : {X Y : Type 0} (found : Found) (old new : State) (x : X) (r : Result Y PublishFault) → Tells found old new (Ok x) → IfErr r (λ e. e ≢ Store) → TellsFound found old new r
told_read found old new x (Ok y) told never = told
told_read found old new x (Err e) told never = λ clean up is. absurd (never is)

-- rows that were not read
pub told_unread : (found : Found) (old new : State) (e : Error) (fault : PublishFault) → (e ≡ SqliteFailure OutOfMemory → fault ≡ Memory)
    → (HasCleanDisk new → IsTrue old.is_open → (e ≡ SqliteFailure OutOfMemory) ⊎ IsUnread found old new) → HasCleanDisk new → IsTrue old.is_open → fault ≡ Store → IsUnread found old new
told_unread found old new e fault memory told clean up is = unread_cause found old new e fault memory is (told clean up)

-- one reading after the other
module _ {P Q : Trees → Type 0} (found : Found) (a b c : State) (one : Survives a b P) (two : Survives b c Q)
    (first : HasCleanDisk b → IsTrue a.is_open → IsUnchanged a b ⊎ IsUnread found a b) where
  -- which answers
  pub told_then : (HasCleanDisk c → IsTrue b.is_open → IsUnchanged b c ⊎ IsUnread found b c) → HasCleanDisk c → IsTrue a.is_open → IsUnchanged a c ⊎ IsUnread found a c
  told_then more clean up = elim (first (omega (arith, clean, two.clean)) up) [
    | inr unread ↦ inr (unread_still found a b c two.counts unread)
    | inl same ↦ elim (more clean same.0.is_open) [
      | inl still ↦ inl (unchanged_then a b c same still)
      | inr unread ↦ inr (unread_before found a b c same one.limit one.counts unread)
    ]
  ]

  -- or fails
  pub told_then_not : (fault : PublishFault) → (HasCleanDisk c → IsTrue b.is_open → fault ≡ Store → IsUnread found b c) → HasCleanDisk c → IsTrue a.is_open → fault ≡ Store → IsUnread found a c
  told_then_not fault more clean up is = elim (first (omega (arith, clean, two.clean)) up) [
    | inr unread ↦ unread_still found a b c two.counts unread
    | inl same ↦ unread_before found a b c same one.limit one.counts (more clean same.0.is_open is)
  ]

  -- so whatever it comes to
  pub told_last : {Y : Type 0} (r : Result Y PublishFault) → TellsFound found b c r → TellsFound found a c r
  told_last (Ok y) more = told_then more
  told_last (Err fault) more = told_then_not fault more
