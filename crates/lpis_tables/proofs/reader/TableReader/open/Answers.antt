use Rattle.std.proofs.Common.{◌∙◌, sym, ap}
use Rattle.lpis_tables.proofs.Common.{err_from_is_err_and, fields_of, texts, under_header}
use Rattle.lpis_tables.proofs.ReadingLemmas.{column-fault, header-found, table-marked, table-unmarked}
use Rattle.lpis_tables.proofs.reader.TableReader.open.Goals as goal

pub returns-then-starts_with_mark : goal.returns-then-starts_with_mark
returns-then-starts_with_mark c =
    rw c.fault.ensures (table-marked c.args.table (texts c.args.columns.now) (texts c.args.further.now) c.args.bytes.now
    c.without_mark-text.result.now c.without_mark-text.ensures (sym c.starts_with_mark.ensures
    ∙ c.if-starts_with_mark.true))

pub returns-in_err-places-in-Some : goal.returns-in_err-places-in-Some
returns-in_err-places-in-Some c =
    let said = table-unmarked c.args.table (texts c.args.columns.now) (texts c.args.further.now) c.args.bytes.now c.without_mark-text.result.now
    c.without_mark-text.ensures (sym c.starts_with_mark.ensures ∙ c.if-starts_with_mark.false) in
    let all = rw c.in-Some.is at c.in_ok-records.ensures.none in
    let p = err_from_is_err_and c.from_residual-in_err-places-in-Some.result c.from_residual-in_err-places-in-Some.ensures.1 in
    rw (p.1, p.2, said) (column-fault c.args.table (texts c.args.columns.now) (texts c.args.further.now) (fields_of c.open.new.header)
    c.in-Some.records.records _ c.in_err-places-in-Some.field-0.0 all c.in_err-places-in-Some.ensures.err)

pub returns-in-Some : goal.returns-in-Some
returns-in-Some c =
    let said = table-unmarked c.args.table (texts c.args.columns.now) (texts c.args.further.now) c.args.bytes.now c.without_mark-text.result.now
    c.without_mark-text.ensures (sym c.starts_with_mark.ensures ∙ c.if-starts_with_mark.false) in
    let all = rw c.in-Some.is at c.in_ok-records.ensures.none in
    let width = rw c.in-Some.is at c.in_ok-records.ensures.width in
    said ∙ header-found c.args.table (texts c.args.columns.now) (texts c.args.further.now) (fields_of c.open.new.header) c.in-Some.records.records
    _ c.in_ok-places-in-Some.places.items c.in-Some.records.width all c.in_ok-places-in-Some.ensures.ok width

pub returns : goal.returns
returns c =
    let said = table-unmarked c.args.table (texts c.args.columns.now) (texts c.args.further.now) c.args.bytes.now c.without_mark-text.result.now
    c.without_mark-text.ensures (sym c.starts_with_mark.ensures ∙ c.if-starts_with_mark.false) in
    let none = rw c.in-None.is at c.in_ok-records.ensures.none in
    rw c.fault-in-None.ensures (said ∙ ap (under_header c.args.table (texts c.args.columns.now) (texts c.args.further.now)) none)
