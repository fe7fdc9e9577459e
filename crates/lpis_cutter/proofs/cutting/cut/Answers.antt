use Rattle.lpis_cutter.proofs.UnsoundLemmas.{told_unsound, told_no_certificate}
use Rattle.lpis_cutter.proofs.cutting.cut.Goals as goal

pub returns-clause-unsound : goal.returns-clause-unsound
returns-clause-unsound c = told_unsound c.args.release.now c.cut_release.result c.cut_release.ensures

pub returns-clause-no_certificate : goal.returns-clause-no_certificate
returns-clause-no_certificate c =
    told_no_certificate c.args.release.now c.cut_release.result c.a_good_certificate_shows_a_sound_map.ensures c.parcels.ensures.distinct c.cut_release.ensures
