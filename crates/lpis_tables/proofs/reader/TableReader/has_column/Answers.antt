use Rattle.std.proofs.Common.{◌∙◌, ap, get_or, sym, is_some, List, None, Option, ℕ}
use Rattle.lpis_tables.proofs.Common.{Reading}
use Rattle.lpis_tables.specs.Table.{has_column}
use Rattle.lpis_tables.proofs.ReadingLemmas.{column-at}
use Rattle.lpis_tables.proofs.reader.TableReader.has_column.Goals as goal

pub returns : goal.returns
returns c =
    c.is_some.ensures ∙ ap (λ (o : Option ℕ). is_some o) (c.place_at.ensures ∙ ap (λ (ps : List (Option ℕ)). get_or ps c.args.k None) c.deref.ensures.value)
    ∙ sym (column-at c.self.inside.places.items c.args.k) ∙ ap (λ (r : Reading). has_column r.has c.args.k) c.self.view_is
