use Rattle.clap.specs.Words.{found_of, rows_of}
use Rattle.lpis_command_line.proofs.AskedLemmas.{in-register}
use Rattle.lpis_command_line.proofs.commands.request_named.Goals as goal

pub returns-in_default : goal.returns-in_default
returns-in_default c =
    let it = c.in_default in
    in-register (rows_of (found_of c.args.matches.now)) c.args.name.now it.not-area it.not-cut it.not-check it.not-country it.not-locate it.not-text c.in_register.result c.in_register.ensures
