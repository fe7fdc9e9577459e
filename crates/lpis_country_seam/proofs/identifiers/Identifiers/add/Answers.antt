use Rattle.std.proofs.Common.{◌∙◌, ℕ, List, true, cond, ap}
use Rattle.lpis_tables.specs.Ids.{has_id, same_id}
use Rattle.std.proofs.Common.{is_eq, nat_cmp}
use Rattle.std.specs.List.{list_any}
use Rattle.std.specs.Cmp.Lexicographic.{slice_cmp}
use Rattle.lpis_country_seam.proofs.IdLemmas.{add-by-order}
use Rattle.lpis_country_seam.proofs.identifiers.Identifiers.add.Goals as goal

pub returns : goal.returns
returns c = λ q. add-by-order c.self.inside.ids.keys c.insert.new.self.keys c.args.id.now q (c.in_ok-insert.ensures.updates.0 q
    ∙ ap (λ (id : List ℕ). cond (is_eq (slice_cmp nat_cmp id q)) true (list_any (λ k. is_eq (slice_cmp nat_cmp q k)) c.self.inside.ids.keys)) c.in_ok-copy.ensures)
    ∙ ap (λ (l : List (List ℕ)). cond (same_id c.args.id.now q) true (has_id l q)) c.self.view_is
