use Rattle.std.proofs.Common.{◌≤◌, ◌∙◌, ap, length, List, Option, ℕ, subst, sym}
use Rattle.lpis_lineage.specs.Tracings.{most_asked}
use Rattle.std.proofs.lemmas.Slice.Zip.{AllZip-long}
use Rattle.lpis_run_publish.proofs.trace.add_answers.Goals as goal

pub follow-requires : goal.follow-requires
follow-requires g c =
    subst (λ (n : ℕ). n ≤ most_asked) (sym (ap (λ (os : List (Option (List ℕ))). length os) c.as_slice-asked.ensures.value
    ∙ AllZip-long _ c.args.words.now c.in_ok-ids.ids.items c.in_ok-ids.ensures)) c.requires

pub add_each-requires-clause-few : goal.add_each-requires-clause-few
add_each-requires-clause-few g c =
    subst (λ (n : ℕ). n ≤ most_asked) (sym (ap (λ (os : List (Option (List ℕ))). length os) c.as_slice-asked.ensures.value
    ∙ AllZip-long _ c.args.words.now c.in_ok-ids.ids.items c.in_ok-ids.ensures)) c.requires
