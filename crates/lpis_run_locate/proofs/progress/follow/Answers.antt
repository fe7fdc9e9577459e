use Rattle.std.proofs.Common.{ap₂, List, ℕ}
use Rattle.lpis_country_seam.specs.Faults.{seam_faults}
use Rattle.lpis_run_country.proofs.Shared.{first_of}
use Rattle.lpis_run_locate.specs.private.Searching.{setting_at}
use Rattle.lpis_run_locate.proofs.progress.follow.Goals as goal

pub search_in-requires-clause-searched : goal.search_in-requires-clause-searched
search_in-requires-clause-searched c = let r = c.requires.ready in (r.table, r.before, r.at.sought)

pub returns-in_ok-search_in-in-Ok-clause-follows : goal.returns-in_ok-search_in-in-Ok-clause-follows
returns-in_ok-search_in-in-Ok-clause-follows c = λ texts table before at.
    let s = setting_at texts c.args.names.now c.args.progress.now in (
      c.in-Ok.ensures.reports s.tiles s.classes before at.seam,
      record {
        seam = c.in-Ok.ensures.goes_on s.tiles s.classes before at.seam;
        sought = c.in_ok-search_in-in-Ok.ensures table before at.sought;
      },
    )

pub returns-in_ok-refuse_seam-in-Err-clause-refused : goal.returns-in_ok-refuse_seam-in-Err-clause-refused
returns-in_ok-refuse_seam-in-Err-clause-refused c = λ texts table before at.
    let s = setting_at texts c.args.names.now c.args.progress.now in (
      c.in-Err.fault,
      first_of (seam_faults s.tiles s.classes before c.args.release.now) c.in-Err.fault (c.in-Err.ensures.reports s.tiles s.classes before at.seam) c.in_ok-refuse_seam-in-Err.ensures.refusal,
      ap₂ (λ (t : List ℕ) (n : ℕ). (t, n)) c.in_ok-refuse_seam-in-Err.ensures.line.0 c.in_ok-refuse_seam-in-Err.ensures.line.1,
    )
