use Rattle.std.proofs.Common.{◌∙◌, ap, refl, List, ℕ, Bor}
use Rattle.lpis_tables.proofs.ReadingLemmas.{or-empty}
use Rattle.lpis_tables.proofs.reader.TableReader.field.Goals as goal

pub returns : goal.returns
returns c = ap (λ (x : Bor (List ℕ)). x.now) c.unwrap_or.ensures ∙ or-empty c.optional_field.result _ _ refl c.optional_field.ensures
