use Rattle.lpis_command_line.proofs.words.release_of.Goals as goal

pub returns-in_err-tables : goal.returns-in_err-tables
returns-in_err-tables c = rw c.from_residual.ensures (λ f h. c.in_err-tables.ensures f.tables h.0)
