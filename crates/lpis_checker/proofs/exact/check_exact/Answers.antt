use Rattle.std.proofs.Common.{List, subst}
use Rattle.lpis_cert.specs.declared.part.ExactBlock.{ExactBlock}
use Rattle.lpis_checker.specs.ExactBlocks.{ShowExact}
use Rattle.lpis_checker.specs.private.ExactSearches.{ExactBelow}
use Rattle.lpis_checker.proofs.ExactLemmas.{all_shown, shown_turns}
use Rattle.lpis_checker.proofs.exact.check_exact.Goals as goal

pub returns-in-None-clause-shows : goal.returns-in-None-clause-shows
returns-in-None-clause-shows c =
    let below : ExactBelow c.as_slice-blocks.result.now c.args.parts.now 4 = rw c.in-None.is at c.in_ok-found.ensures in
    subst (λ (bs : List ExactBlock). ShowExact bs c.args.parts.now) c.as_slice-blocks.ensures (all_shown c.as_slice-blocks.result.now c.args.parts.now below)

pub returns-in-None-clause-turns : goal.returns-in-None-clause-turns
returns-in-None-clause-turns c =
    let below : ExactBelow c.as_slice-blocks.result.now c.args.parts.now 4 = rw c.in-None.is at c.in_ok-found.ensures in
    shown_turns c.as_slice-blocks.result.now c.args.parts.now (all_shown c.as_slice-blocks.result.now c.args.parts.now below)
