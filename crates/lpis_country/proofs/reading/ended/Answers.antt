use Rattle.std.proofs.Common.{◌∙◌, sym}
use Rattle.lpis_country.specs.private.Drafts.{owing_of}
use Rattle.lpis_country.proofs.ReadingLemmas.{nothing_is_left, makes_plan, end_faults}
use Rattle.lpis_country.proofs.reading.ended.Goals as goal

pub new-requires : goal.new-requires
new-requires c =
    let e = nothing_is_left c.args.draft.rooms c.args.rest.now (sym c.is_done.ensures ∙ c.if-is_done.true) in
    makes_plan c.requires.begun.0 c.args.draft _ c.requires.begun.1 e.0 c.into_list.ensures

pub returns-else-is_done-clause-err : goal.returns-else-is_done-clause-err
returns-else-is_done-clause-err c = end_faults c.args.line (owing_of c.args.draft) c.args.rest.now c.requires.last (sym c.is_done.ensures ∙ c.if-is_done.false)
