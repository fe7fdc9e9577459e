use Rattle.std.proofs.Common.{◌∙◌, ap, subst, List, ℕ, Bor, map}
use Rattle.std.proofs.lemmas.Result.{IfOk-weaker}
use Rattle.clap.specs.Words.{App, is_simple, is_simple_and_free, fault_of, FailsBy, subcommand_of}
use Rattle.lpis_command_line.proofs.RequestLemmas.{line-free, line-simple}
use Rattle.lpis_command_line.proofs.request.matches_of.Goals as goal

pub returns-clause-matches : goal.returns-clause-matches
returns-clause-matches c =
    let line_is = c.in_ok-line.ensures.0 in
    IfOk-weaker c.try_get_matches_from_mut.result _ _
    (λ m h. (h.2 (ap is_simple line_is ∙ line-simple)).1 ∙ ap (λ (a : App). subcommand_of a (map (λ (s : Bor (List ℕ)). s.now) c.args.words.now)) line_is)
    c.try_get_matches_from_mut.ensures.ok

pub returns-clause-kinds : goal.returns-clause-kinds
returns-clause-kinds c =
    let line_is = c.in_ok-line.ensures.0 in
    let told = c.try_get_matches_from_mut.ensures.kinds (ap is_simple_and_free line_is ∙ line-free) in
    subst (λ (a : App). FailsBy (fault_of a (map (λ (s : Bor (List ℕ)). s.now) c.args.words.now)) c.try_get_matches_from_mut.result) line_is told
