use Rattle.lpis_command_line.proofs.RequestLemmas.{option-found}
use Rattle.lpis_command_line.proofs.words.word_of.Goals as goal

pub returns : goal.returns
returns c = option-found c.args.matches.now c.args.id.now c.get_str.result c.get_str.ensures
