use Rattle.std.proofs.Common.{rules, ℤ, sym, ap, ◌∙◌}
use Rattle.lpis_country.specs.private.Begun.{west_of, east_of, south_of, north_of}
use Rattle.lpis_country.specs.private.Lines.{line_read}
use Rattle.lpis_country.proofs.NumberLemmas.{handed_on_as_is}
use Rattle.lpis_country.proofs.DraftLemmas.{cut_by_x, cut_by_y, region_more}
use Rattle.lpis_country.proofs.draft.Draft.with_line.Goals as goal

pub returns-in_ok-cut-in-X-clause-begun : goal.returns-in_ok-cut-in-X-clause-begun
returns-in_ok-cut-in-X-clause-begun c = λ said fits begun.
    let e = c.in_ok-cut-in-X.ensures in
    let same = handed_on_as_is c.in-X.x (rw c.in-X.is at fits) in
    cut_by_x said c.args.line c.in-X.x c.args.self c.in_ok-cut-in-X.field-0 c.in-Some.room c.west.result c.east.result c.pop.new.self c.in-X.is fits begun
    c.in-Some.ensures e.names e.tiles e.rooms (c.west.ensures ∙ ap (λ (z : ℤ). west_of c.in-Some.room z) same)
    (c.east.ensures ∙ ap (λ (z : ℤ). east_of c.in-Some.room z) same)

pub returns-in_ok-cut-in-Y-clause-begun : goal.returns-in_ok-cut-in-Y-clause-begun
returns-in_ok-cut-in-Y-clause-begun c = λ said fits begun.
    let e = c.in_ok-cut-in-Y.ensures in
    let same = handed_on_as_is c.in-Y.y (rw c.in-Y.is at fits) in
    cut_by_y said c.args.line c.in-Y.y c.args.self c.in_ok-cut-in-Y.field-0 c.in-Some.room c.south.result c.north.result c.pop.new.self c.in-Y.is fits begun
    c.in-Some.ensures e.names e.tiles e.rooms (c.south.ensures ∙ ap (λ (z : ℤ). south_of c.in-Some.room z) same)
    (c.north.ensures ∙ ap (λ (z : ℤ). north_of c.in-Some.room z) same)

pub returns-in_ok-region-in-Region-clause-begun : goal.returns-in_ok-region-in-Region-clause-begun
returns-in_ok-region-in-Region-clause-begun c = λ said fits begun.
    let e = c.in_ok-region-in-Region.ensures in
    region_more said c.args.line c.in-Region.name.now c.args.self c.in_ok-region-in-Region.field-0 c.in-Some.room c.pop.new.self (ap line_read c.in-Region.is) fits begun c.in-Some.ensures
    (sym c.has.ensures ∙ c.if-has.false) (search rules) e.names e.tiles e.rooms
