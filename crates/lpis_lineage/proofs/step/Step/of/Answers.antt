use Rattle.std.proofs.Common.{◌≡◌, ◌∙◌, refl, sym, ap, subst, true, ℕ, List, not, filter}
use Rattle.std.proofs.lemmas.List.Elements.{recursion_from_All}
use Rattle.lpis_tables.specs.Ids.{is_id}
use Rattle.lpis_lineage.proofs.Common.{has_id}
use Rattle.lpis_lineage.specs.Changes.{IsChange}
use Rattle.lpis_lineage.proofs.StepLemmas.{fresh-lacking, has-all}
use Rattle.lpis_lineage.proofs.step.Step.of.Goals as goal

pub returns : goal.returns
returns c =
    let h = c.args.history.now in
    let live = c.args.live in
    let rows = c.args.rows.now in
    let last = c.last_live-last.ensures in
    record {
      faultless = c.requires.clean;
      live_are = λ q. refl;
      change_is = subst (λ (l : List (List ℕ)). IsChange l live rows c.in_ok-change.change) last c.in_ok-change.ensures;
      fresh_are = record {
        are = λ q.
            ap (λ (l : List (List ℕ)). has_id l q) (c.in_ok-fresh.ensures.list ∙ ap (λ (l : List (List ℕ)). filter (λ id. not (has_id l id)) live) last)
            ∙ fresh-lacking h live rows c.requires.clean q;
        ascend = c.in_ok-fresh.ensures.ascending;
        ids = λ q among. has-all (λ id. is_id id ≡ true) c.in_ok-fresh.fresh.items q (recursion_from_All (λ id. is_id id ≡ true) c.in_ok-fresh.fresh.items c.in_ok-fresh.ensures.ids) among;
      };
    }
