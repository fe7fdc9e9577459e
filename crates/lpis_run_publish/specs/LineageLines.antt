-- The lines of a publication: what became of identifiers, the year, and the refusals of the
-- register.
use Rattle.std.specs.Prelude.{ℕ, Bool, true, false, List, [], ◌++◌, ◌&&◌, codes}
use Rattle.std.specs.Prelude.{Option, Some, None}
use Rattle.std.specs.Fmt.{decimal}
use Rattle.std.specs.List.{flat_map, list_any}
use Rattle.lpis_checker.specs.declared.exact.ExactFault.{ExactFault}
use Rattle.lpis_checker.specs.declared.exact.ExactFault.TheVariants as exact
use Rattle.lpis_checker.specs.ExactBlocks.{exact_code_text}
use Rattle.lpis_lineage.specs.declared.fault.LineageCode.TheVariants as lineage_code
use Rattle.lpis_lineage.specs.declared.fault.LineageFault.{LineageFault}
use Rattle.lpis_lineage.specs.declared.fault.LineageFault.TheVariants as lineage
use Rattle.lpis_lineage.specs.declared.kind.Kind.{Kind}
use Rattle.lpis_lineage.specs.declared.kind.Kind.TheVariants.{Kept, Split, Merged, Replaced}
use Rattle.lpis_lineage.specs.declared.kind.Kind.TheVariants.{Redrawn, Ended}
use Rattle.lpis_lineage.specs.declared.row.Row.{Row}
use Rattle.lpis_lineage.specs.Changes.{dropped}
use Rattle.lpis_lineage.specs.Codes.{lineage_code_text}
use Rattle.lpis_lineage.specs.ExactGroups.{is_in_exact}
use Rattle.lpis_lineage.specs.Kinds.{kind}
use Rattle.lpis_lineage.specs.Lineage.{is_row_of}
use Rattle.lpis_register.specs.declared.fault.PublishFault.{PublishFault}
use Rattle.lpis_register.specs.declared.fault.PublishFault.TheVariants as publish
use Rattle.lpis_register.specs.declared.fault.PublishCode.TheVariants as code
use Rattle.lpis_register.specs.Codes.{publish_code_text}

-- ---- what became of dropped identifiers
abbrev pub kind_text : Kind → List ℕ
kind_text Kept = codes "kept"
kind_text Split = codes "split"
kind_text Merged = codes "merged"
kind_text Replaced = codes "replaced"
kind_text Redrawn = codes "redrawn"
kind_text Ended = codes "ended"

-- the same, where there is a kind
abbrev pub fate_text : Option Kind → List ℕ
fate_text None = []
fate_text (Some k) = kind_text k

-- some row of the identifier belongs to an exact split or to an exact merge
abbrev pub is_left_exactly : (List ℕ → Option Kind) → List Row → List ℕ → Bool
is_left_exactly kind_of rows id =
    list_any (λ row. is_row_of id row && is_in_exact kind_of rows row) rows

-- the end of the line of an identifier that is left exactly
abbrev pub exact_suffix : Bool → List ℕ
exact_suffix false = []
exact_suffix true = codes " exact"

-- the line of an identifier that has this kind, and is left exactly where the test is true
abbrev pub lineage_line : (List ℕ → Option Kind) → (List ℕ → Bool) → List ℕ → List ℕ
lineage_line kind_of is_exact id = codes "lineage " ++ id ++ codes " " ++ fate_text (kind_of id)
    ++ exact_suffix (is_exact id) ++ codes "\n"

-- from the identifiers of the last release to those that are live now, by these rows: the line of
-- each identifier that is dropped, in the order of the last release's, which in a history ascend by
-- bytes
abbrev pub dropped_lines : (last live : List (List ℕ)) → List Row → List ℕ
dropped_lines last live rows =
    flat_map (lineage_line (kind last live rows) (is_left_exactly (kind last live rows) rows))
    (dropped last live)

abbrev pub published_line : ℕ → List ℕ
published_line year = codes "published " ++ decimal year ++ codes "\n"

-- ---- refusals of the register
-- of a lineage: the code, and the row, or the identifier and, where it was used before, the last
-- year in which it was live; out of memory is no fault of a lineage
abbrev pub lineage_fault_text : LineageFault → List ℕ
lineage_fault_text lineage.Memory = []
lineage_fault_text (lineage.OfRow c row) =
    codes "lineage " ++ lineage_code_text c ++ codes " row " ++ decimal row
lineage_fault_text (lineage.NoRow id) =
    codes "lineage " ++ lineage_code_text lineage_code.NoRow ++ codes " " ++ id
lineage_fault_text (lineage.UsedBefore id year) =
    codes "lineage " ++ lineage_code_text lineage_code.UsedBefore ++ codes " " ++ id ++ codes " "
    ++ decimal year

-- of the blocks of a certificate: the code and the identifier; out of memory is no fault of theirs
abbrev pub exact_refusal_text : ExactFault → List ℕ
exact_refusal_text exact.Memory = []
exact_refusal_text (exact.At condition id) =
    codes "refused " ++ publish_code_text code.NotExact ++ codes " exact "
    ++ exact_code_text condition ++ codes " " ++ id ++ codes "\n"

-- of the register: the code, and the last year, the lineage's fault, the identifier whose shape is
-- not kept, or the fault of the blocks; out of memory and a failed store are no refusals, and have
-- no line
abbrev pub publish_refusal_text : PublishFault → List ℕ
publish_refusal_text publish.Memory = []
publish_refusal_text (publish.Year last) =
    codes "refused " ++ publish_code_text code.YearNotAbove ++ codes " last " ++ decimal last
    ++ codes "\n"
publish_refusal_text (publish.Lineage fault) =
    codes "refused " ++ publish_code_text code.BadLineage ++ codes " "
    ++ lineage_fault_text fault ++ codes "\n"
publish_refusal_text (publish.NotKept id) =
    codes "refused " ++ publish_code_text code.BadLineage ++ codes " lineage 77 " ++ id
    ++ codes "\n"
publish_refusal_text (publish.Exact fault) = exact_refusal_text fault
publish_refusal_text publish.Store = []
publish_refusal_text publish.StoreMemory = []
publish_refusal_text publish.Unknown = codes "refused "
    ++ publish_code_text code.UnknownIdentifier ++ codes "\n"
publish_refusal_text publish.Unlawful = codes "refused "
    ++ publish_code_text code.UnlawfulRows ++ codes "\n"
