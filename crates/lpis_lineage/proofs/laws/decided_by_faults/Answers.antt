use Rattle.lpis_lineage.proofs.AcceptingLemmas.{may-follow, never-follows}
use Rattle.lpis_lineage.proofs.laws.decided_by_faults.Goals as goal

pub returns-clause-follows : goal.returns-clause-follows
returns-clause-follows c = λ h live rows law fit none. may-follow h live rows law fit none

pub returns-clause-refused : goal.returns-clause-refused
returns-clause-refused c = λ h live rows fault law fit t. never-follows h live rows fault t
