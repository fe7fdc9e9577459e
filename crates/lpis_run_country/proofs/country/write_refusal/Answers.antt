use Rattle.lpis_run_country.proofs.BegunLemmas.{unbegun_run}
use Rattle.lpis_run_country.proofs.country.write_refusal.Goals as goal

pub returns : goal.returns
returns g c = λ texts detail x unbegun.
    unbegun_run texts detail x (c.args.answer.now.text.items, c.args.answer.now.status) (g.W.Write.contents c.args.out.now) (g.W.Write.contents c.write_to.new.out) c.write_to.result unbegun
    c.write_to.ensures.status c.write_to.ensures.text c.write_to.ensures.failure
