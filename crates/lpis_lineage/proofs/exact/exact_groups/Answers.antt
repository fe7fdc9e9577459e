use Rattle.std.proofs.Common.{◌≡◌, ◌∙◌, All, List, ℕ, true, false, ap, subst, sym, filter, map}
use Rattle.lpis_lineage.proofs.Common.{list_any, names_successor}
use Rattle.lpis_lineage.specs.Changes.{kind_at}
use Rattle.lpis_lineage.specs.private.Gathered.{as_group, is_exact_of}
use Rattle.lpis_lineage.proofs.GroupLemmas.{all-named, groups-exact}
use Rattle.lpis_lineage.proofs.exact.exact_groups.Goals as goal

pub groups_of-requires-2-clause-named : goal.groups_of-requires-2-clause-named
groups_of-requires-2-clause-named c = λ t. subst (λ (ids : List (List ℕ)). All (λ (id : List ℕ). list_any (names_successor id) c.args.change.now.rows ≡ true) ids)
    (sym c.as_slice.ensures.value) (all-named c.in_ok-named_successors.named_successors.items c.args.change.now.rows c.in_ok-named_successors.ensures.are)

pub returns : goal.returns
returns c = λ last live is.
    let h = c.args.change.now in
    groups-exact last live h c.in_ok-named_successors.named_successors.items c.in_ok-groups.groups.items c.in_ok-merges.merges.items _ is
    c.dropped.ensures.ascending c.in_ok-named_successors.ensures.ascend c.in_ok-named_successors.ensures.are
    (c.in_ok-groups.ensures.names ∙ ap (λ (ids : List (List ℕ)). map (as_group false) (filter (is_exact_of false (kind_at h) h.rows) ids)) c.dropped.ensures.list)
    (c.in_ok-merges.ensures.names ∙ ap (λ (ids : List (List ℕ)). map (as_group true) (filter (is_exact_of true (kind_at h) h.rows) ids)) c.as_slice.ensures.value)
    c.in_ok-groups.ensures.others c.in_ok-merges.ensures.others c.in_ok-append.ensures.items
