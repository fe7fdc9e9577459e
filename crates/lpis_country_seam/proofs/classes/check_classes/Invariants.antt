use Rattle.std.proofs.Common.{◌≡◌, ◌+◌, drop}
use Rattle.lpis_country_seam.specs.Faults.{seam_class_faults}
use Rattle.lpis_country_seam.proofs.classes.check_classes.Given as goal

abbrev pub invariant-loop-k : goal.invariant-loop-k
invariant-loop-k l = seam_class_faults 1 l.own l.all ≡ seam_class_faults (l.k + 1) (drop l.k l.own) l.rest
