use Rattle.std.proofs.Common.{◌∙◌, sym, inl}
use Rattle.lpis_tables.proofs.Common.{fields_of}
use Rattle.lpis_tables.proofs.ReaderLemmas.{read-ended, read-found, read-uneven}
use Rattle.lpis_tables.proofs.records.next_step.Goals as goal

pub returns-in-Ok-false : goal.returns-in-Ok-false
returns-in-Ok-false c =
    let read = (rw (c.in-Ok-false.is, c.in-Ok-false.field-0-test) at c.read_byte_record.ensures.reads) c.requires.trim c.requires.ready in
    read-ended c.args.reader.now c.read_byte_record.new.self (fields_of c.read_byte_record.new.row) c.requires read

pub returns-in-Ok-true : goal.returns-in-Ok-true
returns-in-Ok-true c =
    let e = c.read_byte_record.ensures in
    let read = (rw (c.in-Ok-true.is, c.in-Ok-true.field-0-test) at e.reads) c.requires.trim c.requires.ready in
    let flex = rw c.in-Ok-true.is at e.flexible in
    let first = (rw c.in-Ok-true.is at e.ready) c.requires.trim in
    read-found c.args.reader.now c.read_byte_record.new.self (fields_of c.read_byte_record.new.row) c.requires read flex (inl first)

pub returns-in-UnequalLengths : goal.returns-in-UnequalLengths
returns-in-UnequalLengths c =
    let kind = sym c.kind.ensures ∙ c.in-UnequalLengths.is in
    let why = rw kind at ((rw c.in-Err.is at c.read_byte_record.ensures.why) c.requires.ready) in
    read-uneven c.args.reader.now c.read_byte_record.new.self why.3 c.in-UnequalLengths.expected_len c.in-UnequalLengths.len c.requires why.1 why.2 why.4 why.5
