use Rattle.lpis_command_line.proofs.words.submission_of.Goals as goal

pub returns-in_err-folder : goal.returns-in_err-folder
returns-in_err-folder c = rw c.from_residual.ensures (λ s h. c.in_err-folder.ensures s.folder h.0)
