use Rattle.std.proofs.Common.{◌∙◌}
use Rattle.clap.specs.Words.{found_of, rows_of, subcommand_rows_of}
use Rattle.lpis_command_line.proofs.RequestLemmas.{requests-are, name_from_rows}
use Rattle.lpis_command_line.proofs.request.request_of.Goals as goal

pub returns : goal.returns
returns c =
    requests-are c.request_named.result (subcommand_rows_of c.args.matches.now) c.in_ok-name.name.now (rows_of (found_of c.in_ok-name.inner.now))
    (c.in_ok-name.ensures.name ∙ name_from_rows c.args.matches.now) c.in_ok-name.ensures.rows c.request_named.ensures
