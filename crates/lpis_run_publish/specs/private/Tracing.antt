-- What answering several words keeps.
use Rattle.std.specs.Prelude.{◌≡◌, ◌++◌, false, ℕ, List, Option, None, Some}
use Rattle.lpis_lineage.specs.declared.row.Entry.{Entry}
use Rattle.lpis_run.specs.CheckAnswer.{Answer}
use Rattle.lpis_run_publish.specs.TraceAnswer.{AreTraceAnswers, status_of_both}
use Rattle.lpis_tables.specs.Ids.{is_id}

-- the identifier that a word is, or none
abbrev pub IsReadAs : List ℕ → Option (List ℕ) → Type 0
IsReadAs word None = is_id word ≡ false
IsReadAs word (Some id) = id ≡ word

-- with the answers to those of the words that are left, this is the answer to all
abbrev pub GoesOn : List Entry → (all left : List (List ℕ)) → Answer → Type 0
GoesOn h all left a = (rest : Answer) → AreTraceAnswers left h rest
    → AreTraceAnswers all h (a.0 ++ rest.0, status_of_both a.1 rest.1)
