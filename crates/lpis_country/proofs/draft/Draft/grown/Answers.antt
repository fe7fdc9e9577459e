use Rattle.std.proofs.Common.{◌≡◌, Option, Some, IfOk, option_map, sym, subst}
use Rattle.lpis_country.specs.Faults.{Owing, tree_line}
use Rattle.lpis_country.specs.private.Drafts.{owing_of}
use Rattle.lpis_country.specs.private.Lines.{line_read}
use Rattle.lpis_country.proofs.DraftLemmas.{owing_none, owing_some, begun_more}
use Rattle.lpis_country.proofs.draft.Draft.grown.Goals as goal

pub returns-in-None-clause-owing : goal.returns-in-None-clause-owing
returns-in-None-clause-owing c = sym (owing_none (owing_of c.args.self) c.args.line.now (sym (rw c.in-None.is at c.in_ok-line_of.ensures)))

pub returns-in-Some-clause-owing : goal.returns-in-Some-clause-owing
returns-in-Some-clause-owing c =
    let is : tree_line c.args.line.now ≡ Some (line_read c.in-Some.said) = sym (rw c.in-Some.is at c.in_ok-line_of.ensures) in
    subst (λ (x : Option Owing). IfOk c.with_line.result (λ o. option_map owing_of o ≡ x))
    (sym (owing_some (owing_of c.args.self) c.args.line.now (line_read c.in-Some.said) is)) c.with_line.ensures.owing

pub returns-in-Some-clause-begun : goal.returns-in-Some-clause-begun
returns-in-Some-clause-begun c =
    let is : tree_line c.args.line.now ≡ Some (line_read c.in-Some.said) = sym (rw c.in-Some.is at c.in_ok-line_of.ensures) in
    begun_more c.with_line.result c.args.self c.args.line.now (line_read c.in-Some.said) is c.with_line.ensures.begun
