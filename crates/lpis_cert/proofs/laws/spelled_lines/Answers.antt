use Rattle.lpis_cert.proofs.LineLemmas.{read_again, read_takes}
use Rattle.lpis_cert.proofs.laws.spelled_lines.Goals as goal

pub returns : goal.returns
returns c = record { again = read_again; takes = λ v e line l h. (read_takes v e line l h).text }
