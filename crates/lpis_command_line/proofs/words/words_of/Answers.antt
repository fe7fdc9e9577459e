use Rattle.lpis_command_line.proofs.RequestLemmas.{words-found}
use Rattle.lpis_command_line.proofs.words.words_of.Goals as goal

pub returns : goal.returns
returns c = words-found c.args.matches.now c.args.id.now c.get_strs.result c.get_strs.ensures
