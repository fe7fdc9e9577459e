use Rattle.std.proofs.Common.{arith, sym, subst}
use Rattle.lpis_register_sql.specs.Showing.{ShowsRows}
use Rattle.lpis_register_sql.proofs.SeeingLemmas.{none_ok, none_seen, see, seen, unseen}
use Rattle.lpis_register_sql.proofs.QuietLemmas.{answered}
use Rattle.lpis_register_sql.proofs.UnreadLemmas.{load, load_fails, none_loaded}
use Rattle.lpis_register_sql.proofs.loading.load_found.Goals as goal

pub returns-in_err-formats : goal.returns-in_err-formats
returns-in_err-formats g c =
    let it = load_fails (none_loaded {found = c.args.found.now}) _ c.from_residual.result c.from_residual.ensures.1 c.in_err-formats.ensures.reads c.in_err-formats.ensures.tells in
    record {
      autocommit = c.in_err-formats.ensures.autocommit;
      reads = it.0;
      tells = it.1;
      shows = unseen _ c.from_residual.result c.from_residual.ensures.1;
      was_open = λ there clean. none_ok _ _ c.from_residual.result c.from_residual.ensures.1;
    }

pub returns-in_err-years : goal.returns-in_err-years
returns-in_err-years g c =
    let formats = load (none_loaded {found = c.args.found.now}) c.in_ok-formats.ensures.reads c.in_ok-formats.ensures.tells in
    let it = load_fails formats _ c.from_residual-in_err-years.result c.from_residual-in_err-years.ensures.1 c.in_err-years.ensures.reads c.in_err-years.ensures.tells in
    record {
      autocommit = c.in_err-years.ensures.autocommit;
      reads = it.0;
      tells = it.1;
      shows = unseen _ c.from_residual-in_err-years.result c.from_residual-in_err-years.ensures.1;
      was_open = λ there clean. none_ok _ _ c.from_residual-in_err-years.result c.from_residual-in_err-years.ensures.1;
    }

pub returns-in_err-spans : goal.returns-in_err-spans
returns-in_err-spans g c =
    let formats = load (none_loaded {found = c.args.found.now}) c.in_ok-formats.ensures.reads c.in_ok-formats.ensures.tells in
    let years = load formats c.in_ok-years.ensures.reads c.in_ok-years.ensures.tells in
    let it = load_fails years _ c.from_residual-in_err-spans.result c.from_residual-in_err-spans.ensures.1 c.in_err-spans.ensures.reads c.in_err-spans.ensures.tells in
    record {
      autocommit = c.in_err-spans.ensures.autocommit;
      reads = it.0;
      tells = it.1;
      shows = unseen _ c.from_residual-in_err-spans.result c.from_residual-in_err-spans.ensures.1;
      was_open = λ there clean. none_ok _ _ c.from_residual-in_err-spans.result c.from_residual-in_err-spans.ensures.1;
    }

pub returns-in_err-lines : goal.returns-in_err-lines
returns-in_err-lines g c =
    let formats = load (none_loaded {found = c.args.found.now}) c.in_ok-formats.ensures.reads c.in_ok-formats.ensures.tells in
    let years = load formats c.in_ok-years.ensures.reads c.in_ok-years.ensures.tells in
    let spans = load years c.in_ok-spans.ensures.reads c.in_ok-spans.ensures.tells in
    let it = load_fails spans _ c.from_residual-in_err-lines.result c.from_residual-in_err-lines.ensures.1 c.in_err-lines.ensures.reads c.in_err-lines.ensures.tells in
    record {
      autocommit = c.in_err-lines.ensures.autocommit;
      reads = it.0;
      tells = it.1;
      shows = unseen _ c.from_residual-in_err-lines.result c.from_residual-in_err-lines.ensures.1;
      was_open = λ there clean. none_ok _ _ c.from_residual-in_err-lines.result c.from_residual-in_err-lines.ensures.1;
    }

pub returns-in_err-lives : goal.returns-in_err-lives
returns-in_err-lives g c =
    let formats = load (none_loaded {found = c.args.found.now}) c.in_ok-formats.ensures.reads c.in_ok-formats.ensures.tells in
    let years = load formats c.in_ok-years.ensures.reads c.in_ok-years.ensures.tells in
    let spans = load years c.in_ok-spans.ensures.reads c.in_ok-spans.ensures.tells in
    let lines = load spans c.in_ok-lines.ensures.reads c.in_ok-lines.ensures.tells in
    let it = load_fails lines _ c.from_residual-in_err-lives.result c.from_residual-in_err-lives.ensures.1 c.in_err-lives.ensures.reads c.in_err-lives.ensures.tells in
    record {
      autocommit = c.in_err-lives.ensures.autocommit;
      reads = it.0;
      tells = it.1;
      shows = unseen _ c.from_residual-in_err-lives.result c.from_residual-in_err-lives.ensures.1;
      was_open = λ there clean. none_ok _ _ c.from_residual-in_err-lives.result c.from_residual-in_err-lives.ensures.1;
    }

pub returns-in_err-marks : goal.returns-in_err-marks
returns-in_err-marks g c =
    let formats = load (none_loaded {found = c.args.found.now}) c.in_ok-formats.ensures.reads c.in_ok-formats.ensures.tells in
    let years = load formats c.in_ok-years.ensures.reads c.in_ok-years.ensures.tells in
    let spans = load years c.in_ok-spans.ensures.reads c.in_ok-spans.ensures.tells in
    let lines = load spans c.in_ok-lines.ensures.reads c.in_ok-lines.ensures.tells in
    let lives = load lines c.in_ok-lives.ensures.reads c.in_ok-lives.ensures.tells in
    let it = load_fails lives _ c.from_residual-in_err-marks.result c.from_residual-in_err-marks.ensures.1 c.in_err-marks.ensures.reads c.in_err-marks.ensures.tells in
    record {
      autocommit = c.in_err-marks.ensures.autocommit;
      reads = it.0;
      tells = it.1;
      shows = unseen _ c.from_residual-in_err-marks.result c.from_residual-in_err-marks.ensures.1;
      was_open = λ there clean. none_ok _ _ c.from_residual-in_err-marks.result c.from_residual-in_err-marks.ensures.1;
    }

pub returns : goal.returns
returns g c =
    let formats = load (none_loaded {found = c.args.found.now}) c.in_ok-formats.ensures.reads c.in_ok-formats.ensures.tells in
    let years = load formats c.in_ok-years.ensures.reads c.in_ok-years.ensures.tells in
    let spans = load years c.in_ok-spans.ensures.reads c.in_ok-spans.ensures.tells in
    let lines = load spans c.in_ok-lines.ensures.reads c.in_ok-lines.ensures.tells in
    let lives = load lines c.in_ok-lives.ensures.reads c.in_ok-lives.ensures.tells in
    let marks = load lives c.in_ok-marks.ensures.reads c.in_ok-marks.ensures.tells in
    let formats_seen = see none_seen (λ late. omega (arith, late, c.in_ok-formats.ensures.reads.survives.clean)) c.in_ok-formats.ensures.shows in
    let years_seen = see formats_seen (λ late. omega (arith, late, c.in_ok-years.ensures.reads.survives.clean)) c.in_ok-years.ensures.shows in
    let spans_seen = see years_seen (λ late. omega (arith, late, c.in_ok-spans.ensures.reads.survives.clean)) c.in_ok-spans.ensures.shows in
    let lines_seen = see spans_seen (λ late. omega (arith, late, c.in_ok-lines.ensures.reads.survives.clean)) c.in_ok-lines.ensures.shows in
    let lives_seen = see lines_seen (λ late. omega (arith, late, c.in_ok-lives.ensures.reads.survives.clean)) c.in_ok-lives.ensures.shows in
    let marks_seen = see lives_seen (λ late. omega (arith, late, c.in_ok-marks.ensures.reads.survives.clean)) c.in_ok-marks.ensures.shows in
    record {
      autocommit = c.in_ok-marks.ensures.autocommit;
      reads = answered marks.told;
      tells = marks.heard;
      shows = seen marks_seen (λ db all. subst (ShowsRows c.args.found.now db) (sym c.new.ensures) (record {
        formats_are = all.0.0.0.0.0.1;
        years_are = all.0.0.0.0.1;
        spans_are = all.0.0.0.1;
        lines_are = all.0.0.1;
        live_are = all.0.1;
        marks_are = all.1;
      }));
      was_open = λ there clean. c.in_ok-formats.ensures.was_open there (omega (
        arith,
        clean,
        c.in_ok-years.ensures.reads.survives.clean,
        c.in_ok-spans.ensures.reads.survives.clean,
        c.in_ok-lines.ensures.reads.survives.clean,
        c.in_ok-lives.ensures.reads.survives.clean,
        c.in_ok-marks.ensures.reads.survives.clean,
      ));
    }
