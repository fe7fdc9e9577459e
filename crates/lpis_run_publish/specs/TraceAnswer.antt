-- The answer to words that are followed through a history: text and status.
use Rattle.std.specs.Prelude.{◌≡◌, ◌⊎◌, ◌++◌, ◌∷◌, ◌==◌, [], false, ℕ, List, codes, if◌then◌else◌}
use Rattle.std.specs.List.{flat_map}
use Rattle.lpis_tables.specs.Ids.{is_id}
use Rattle.lpis_lineage.specs.declared.row.Entry.{Entry}
use Rattle.lpis_register.specs.HistoryAnswers.{IsTrace, IsUnknown}
use Rattle.lpis_register.specs.declared.fault.PublishFault.TheVariants as publish
use Rattle.lpis_run.specs.CheckAnswer.{Answer}
use Rattle.lpis_run_publish.specs.LineageLines.{publish_refusal_text}
use Rattle.lpis_run.specs.Status.{done, refused}

-- an identifier on a line of its own
abbrev pub id_line : List ℕ → List ℕ
id_line id = id ++ codes "\n"

-- the line of a word that is no identifier, or one that no release holds; or each live descendant
-- on a line of its own
abbrev pub IsTraceAnswer : List ℕ → List Entry → Answer → Type 0
IsTraceAnswer word h a =
    (((is_id word ≡ false) ⊎ IsUnknown h word)
    × (a ≡ (publish_refusal_text publish.Unknown, refused)))
    ⊎ ((ids : List (List ℕ)) × IsTrace h word ids × (a ≡ (flat_map id_line ids, done)))

-- the line before the answer to a word that is one of several
abbrev pub trace_line : List ℕ → List ℕ
trace_line word = codes "trace " ++ word ++ codes "\n"

-- of two statuses: done where both are, else the first that is not
abbrev pub status_of_both : ℕ → ℕ → ℕ
status_of_both first next = if first == done then next else first

-- the answers to words, in their order, each after the line of its word: done where each of them is
abbrev pub AreTraceAnswers : List (List ℕ) → List Entry → Answer → Type 0
AreTraceAnswers [] h a = a ≡ ([], done)
AreTraceAnswers (word ∷ words) h a = (first next : Answer) × IsTraceAnswer word h first
    × AreTraceAnswers words h next
    × (a ≡ (trace_line word ++ first.0 ++ next.0, status_of_both first.1 next.1))

-- one word's answer alone, or those of several
abbrev pub IsWholeTrace : List (List ℕ) → List Entry → Answer → Type 0
IsWholeTrace (word ∷ []) h a = IsTraceAnswer word h a
IsWholeTrace words h a = AreTraceAnswers words h a
