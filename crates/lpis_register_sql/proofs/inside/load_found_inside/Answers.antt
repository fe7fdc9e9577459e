use Rattle.lpis_register_sql.proofs.InsideLemmas.{none_read, read_fails, read_more}
use Rattle.lpis_register_sql.proofs.StepLemmas.{quiet_on}
use Rattle.lpis_register_sql.proofs.inside.load_found_inside.Goals as goal

pub returns-in_err-years-clause-tells : goal.returns-in_err-years-clause-tells
returns-in_err-years-clause-tells g c =
    let formats = read_more (none_read {found = c.args.found.now}) c.in_ok-formats.ensures.quiet c.in_ok-formats.ensures.tells c.in_ok-formats.ensures.shows in
    read_fails formats c.in_err-years.ensures.quiet _ c.from_residual-in_err-years.result c.from_residual-in_err-years.ensures.1 c.in_err-years.ensures.tells

pub returns-in_err-spans-clause-tells : goal.returns-in_err-spans-clause-tells
returns-in_err-spans-clause-tells g c =
    let formats = read_more (none_read {found = c.args.found.now}) c.in_ok-formats.ensures.quiet c.in_ok-formats.ensures.tells c.in_ok-formats.ensures.shows in
    let years = read_more formats c.in_ok-years.ensures.quiet c.in_ok-years.ensures.tells c.in_ok-years.ensures.shows in
    read_fails years c.in_err-spans.ensures.quiet _ c.from_residual-in_err-spans.result c.from_residual-in_err-spans.ensures.1 c.in_err-spans.ensures.tells

pub returns-in_err-lines-clause-tells : goal.returns-in_err-lines-clause-tells
returns-in_err-lines-clause-tells g c =
    let formats = read_more (none_read {found = c.args.found.now}) c.in_ok-formats.ensures.quiet c.in_ok-formats.ensures.tells c.in_ok-formats.ensures.shows in
    let years = read_more formats c.in_ok-years.ensures.quiet c.in_ok-years.ensures.tells c.in_ok-years.ensures.shows in
    let spans = read_more years c.in_ok-spans.ensures.quiet c.in_ok-spans.ensures.tells c.in_ok-spans.ensures.shows in
    read_fails spans c.in_err-lines.ensures.quiet _ c.from_residual-in_err-lines.result c.from_residual-in_err-lines.ensures.1 c.in_err-lines.ensures.tells

pub returns-in_err-lives-clause-tells : goal.returns-in_err-lives-clause-tells
returns-in_err-lives-clause-tells g c =
    let formats = read_more (none_read {found = c.args.found.now}) c.in_ok-formats.ensures.quiet c.in_ok-formats.ensures.tells c.in_ok-formats.ensures.shows in
    let years = read_more formats c.in_ok-years.ensures.quiet c.in_ok-years.ensures.tells c.in_ok-years.ensures.shows in
    let spans = read_more years c.in_ok-spans.ensures.quiet c.in_ok-spans.ensures.tells c.in_ok-spans.ensures.shows in
    let lines = read_more spans c.in_ok-lines.ensures.quiet c.in_ok-lines.ensures.tells c.in_ok-lines.ensures.shows in
    read_fails lines c.in_err-lives.ensures.quiet _ c.from_residual-in_err-lives.result c.from_residual-in_err-lives.ensures.1 c.in_err-lives.ensures.tells

pub returns-in_err-marks-clause-tells : goal.returns-in_err-marks-clause-tells
returns-in_err-marks-clause-tells g c =
    let formats = read_more (none_read {found = c.args.found.now}) c.in_ok-formats.ensures.quiet c.in_ok-formats.ensures.tells c.in_ok-formats.ensures.shows in
    let years = read_more formats c.in_ok-years.ensures.quiet c.in_ok-years.ensures.tells c.in_ok-years.ensures.shows in
    let spans = read_more years c.in_ok-spans.ensures.quiet c.in_ok-spans.ensures.tells c.in_ok-spans.ensures.shows in
    let lines = read_more spans c.in_ok-lines.ensures.quiet c.in_ok-lines.ensures.tells c.in_ok-lines.ensures.shows in
    let lives = read_more lines c.in_ok-lives.ensures.quiet c.in_ok-lives.ensures.tells c.in_ok-lives.ensures.shows in
    read_fails lives c.in_err-marks.ensures.quiet _ c.from_residual-in_err-marks.result c.from_residual-in_err-marks.ensures.1 c.in_err-marks.ensures.tells

pub returns-in_err-marks-clause-quiet : goal.returns-in_err-marks-clause-quiet
returns-in_err-marks-clause-quiet g c =
    let formats = read_more (none_read {found = c.args.found.now}) c.in_ok-formats.ensures.quiet c.in_ok-formats.ensures.tells c.in_ok-formats.ensures.shows in
    let years = read_more formats c.in_ok-years.ensures.quiet c.in_ok-years.ensures.tells c.in_ok-years.ensures.shows in
    let spans = read_more years c.in_ok-spans.ensures.quiet c.in_ok-spans.ensures.tells c.in_ok-spans.ensures.shows in
    let lines = read_more spans c.in_ok-lines.ensures.quiet c.in_ok-lines.ensures.tells c.in_ok-lines.ensures.shows in
    let lives = read_more lines c.in_ok-lives.ensures.quiet c.in_ok-lives.ensures.tells c.in_ok-lives.ensures.shows in
    quiet_on _ _ _ lives.quiet c.in_err-marks.ensures.quiet

pub returns-clause-quiet : goal.returns-clause-quiet
returns-clause-quiet g c =
    let formats = read_more (none_read {found = c.args.found.now}) c.in_ok-formats.ensures.quiet c.in_ok-formats.ensures.tells c.in_ok-formats.ensures.shows in
    let years = read_more formats c.in_ok-years.ensures.quiet c.in_ok-years.ensures.tells c.in_ok-years.ensures.shows in
    let spans = read_more years c.in_ok-spans.ensures.quiet c.in_ok-spans.ensures.tells c.in_ok-spans.ensures.shows in
    let lines = read_more spans c.in_ok-lines.ensures.quiet c.in_ok-lines.ensures.tells c.in_ok-lines.ensures.shows in
    let lives = read_more lines c.in_ok-lives.ensures.quiet c.in_ok-lives.ensures.tells c.in_ok-lives.ensures.shows in
    let marks = read_more lives c.in_ok-marks.ensures.quiet c.in_ok-marks.ensures.tells c.in_ok-marks.ensures.shows in
    marks.quiet
