use Rattle.lpis_checker.proofs.TurnedLemmas.{all_turned, turned_before}
use Rattle.lpis_checker.proofs.first_fault.failing_line.Goals as goal

pub first_line-requires : goal.first_line-requires
first_line-requires c =
    all_turned c.args.release.now c.args.cert.now c.args.triangles.now _ c.requires.numbered (turned_before c.args.condition) c.requires.below
