use Rattle.std.proofs.Common.{◌∙◌, sym}
use Rattle.lpis_register_rows.proofs.Common.{err_from_is_err_and}
use Rattle.lpis_register_rows.proofs.VersionLemmas.{told_formats, told_once}
use Rattle.lpis_register_rows.proofs.history.history_of.Goals as goal

pub returns-in_default-clause-unlawful : goal.returns-in_default-clause-unlawful
returns-in_default-clause-unlawful c = λ _ version h t. c.in_default.ensures.none version (c.formats.ensures ∙ told_formats version c.args.rows h t)

pub returns-in_err-history-clause-unlawful : goal.returns-in_err-history-clause-unlawful
returns-in_err-history-clause-unlawful c =
    let p = err_from_is_err_and c.from_residual.result c.from_residual.ensures.1 in
    rw (p.1, p.2) (λ e version h t. c.in_err-history.ensures.unlawful e h (rw (c.take_spans-spans.ensures.left, c.take_spans-spans.ensures.taken)
    (told_once c.in-Some.version version c.args.rows h (sym c.formats.ensures ∙ c.in-Some.ensures.some) t)))
