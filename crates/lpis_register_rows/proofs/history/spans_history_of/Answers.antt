use Rattle.std.proofs.Common.{◌∙◌, ◌≤◌, ℕ, refl, sym}
use Rattle.std.proofs.Common.{map}
use Rattle.lpis_register_rows.proofs.Common.{Content, IsPermutation-sym, recursion_from_All, err_from_is_err_and, last_of_years, span_in}
use Rattle.lpis_register_rows.proofs.KnownLemmas.{no-both}
use Rattle.lpis_register_rows.proofs.NamedLemmas.{spans-ascend, spans-once}
use Rattle.lpis_register_rows.proofs.RefusingLemmas.{spans-told, told-few, told-ids, told-right, told-said, told-sorted-years, told-years}
use Rattle.lpis_register_rows.proofs.SayingLemmas.{rows-say-history}
use Rattle.lpis_register_rows.proofs.history.spans_history_of.Goals as goal

pub returns-clause-ok : goal.returns-clause-ok
returns-clause-ok c =
    let h = c.in_ok-history.history in
    let read : Content = record c.args.rows.now { spans = map span_in c.in_ok-spans.spans.items } in
    spans-told read c.args.spans.items h (IsPermutation-sym c.args.spans.items _ c.in_ok-spans.ensures.same)
    (rows-say-history c.args.version c.args.marks.now read h c.in_ok-years.years.items c.in_ok-spans.spans.items c.in_ok-lines.lines.items c.releases.ensures.lawful c.releases.ensures.fits
    (recursion_from_All (λ (y : ℕ). y ≤ last_of_years) c.in_ok-years.years.items c.in_ok-years.ensures.small)
    (sym c.formats.ensures ∙ c.has_version.ensures.0 c.if-not-has_version.false)
    (rw c.years.ensures at c.in_ok-years.ensures.same)
    refl c.in_ok-spans.ensures.ids
    (spans-once c.in_ok-spans.spans.items (rw c.as_slice.ensures.value at (c.ascend.ensures.0 c.if-not-ascend.false)))
    (rw c.lines.ensures at c.in_ok-lines.ensures.same)
    (rw c.as_slice-2.ensures.value at c.in_ok-history.ensures.years)
    (rw c.as_slice-3.ensures.value at c.in_ok-history.ensures.sets)
    c.in_ok-lines.ensures.marks
    (rw c.as_slice-4.ensures.value at c.in_ok-history.ensures.lines)
    (rw c.as_slice-5.ensures.value at (c.are_told.ensures.0 c.if-not-are_told.false)))

pub returns-then-not-has_version-clause-unlawful : goal.returns-then-not-has_version-clause-unlawful
returns-then-not-has_version-clause-unlawful c = λ _ h t. no-both c.has_version.result (c.has_version.ensures.1 (c.formats.ensures ∙ t.formats_are)) c.if-not-has_version.true

pub returns-in_err-years-clause-unlawful : goal.returns-in_err-years-clause-unlawful
returns-in_err-years-clause-unlawful c =
    let p = err_from_is_err_and c.from_residual.result c.from_residual.ensures.1 in
    rw (p.1, p.2) (λ e h t. c.in_err-years.ensures.refused e (rw c.years.ensures (told-years h c.args.rows.now.years t.kept t.years_are)))

pub returns-in_err-spans-clause-unlawful : goal.returns-in_err-spans-clause-unlawful
returns-in_err-spans-clause-unlawful c =
    let p = err_from_is_err_and c.from_residual-in_err-spans.result c.from_residual-in_err-spans.ensures.1 in
    rw (p.1, p.2)
    (λ e h t. c.in_err-spans.ensures.refused e (told-ids h c.args.spans.items t.kept t.spans_are))

pub returns-in_err-lines-clause-unlawful : goal.returns-in_err-lines-clause-unlawful
returns-in_err-lines-clause-unlawful c =
    let p = err_from_is_err_and c.from_residual-in_err-lines.result c.from_residual-in_err-lines.ensures.1 in
    rw (p.1, p.2) (λ e h t. c.in_err-lines.ensures.refused e h t.kept (rw c.lines.ensures t.lines_are) t.marks_are)

pub returns-then-not-ascend-clause-unlawful : goal.returns-then-not-ascend-clause-unlawful
returns-then-not-ascend-clause-unlawful c = λ _ h t.
    let u = spans-told (record c.args.rows.now { spans = c.args.spans.items }) (map span_in c.in_ok-spans.spans.items) h c.in_ok-spans.ensures.same t in
    no-both c.ascend.result (c.ascend.ensures.1 (rw c.as_slice.ensures.value
    (spans-ascend c.in_ok-spans.spans.items c.in_ok-spans.ensures.sorted (told-few h c.in_ok-spans.spans.items _ refl u.spans_are)))) c.if-not-ascend.true

pub returns-in_err-history-clause-unlawful : goal.returns-in_err-history-clause-unlawful
returns-in_err-history-clause-unlawful c =
    let p = err_from_is_err_and c.from_residual-in_err-history.result c.from_residual-in_err-history.ensures.1 in
    rw (p.1, p.2) (λ e h t.
    let u = spans-told (record c.args.rows.now { spans = c.args.spans.items }) (map span_in c.in_ok-spans.spans.items) h c.in_ok-spans.ensures.same t in
    let said = told-said (record c.args.rows.now { spans = map span_in c.in_ok-spans.spans.items }) h c.in_ok-spans.spans.items c.in_ok-lines.lines.items u refl
    (c.in_ok-lines.ensures.told h t.kept (rw c.lines.ensures t.lines_are) t.marks_are) in
    let years = told-sorted-years h c.args.rows.now.years c.in_ok-years.years.items t.kept c.in_ok-years.ensures.sorted
    (rw c.years.ensures at c.in_ok-years.ensures.same) t.years_are in
    c.in_err-history.ensures.refused e h (rw (c.as_slice-3.ensures.value, c.as_slice-4.ensures.value) said)
    (rw c.as_slice-2.ensures.value years))

pub returns-then-not-are_told-clause-unlawful : goal.returns-then-not-are_told-clause-unlawful
returns-then-not-are_told-clause-unlawful c = λ _ h t.
    let u = spans-told (record c.args.rows.now { spans = c.args.spans.items }) (map span_in c.in_ok-spans.spans.items) h c.in_ok-spans.ensures.same t in
    let said = told-said (record c.args.rows.now { spans = map span_in c.in_ok-spans.spans.items }) h c.in_ok-spans.spans.items c.in_ok-lines.lines.items u refl
    (c.in_ok-lines.ensures.told h t.kept (rw c.lines.ensures t.lines_are) t.marks_are) in
    let years = told-sorted-years h c.args.rows.now.years c.in_ok-years.years.items t.kept c.in_ok-years.ensures.sorted
    (rw c.years.ensures at c.in_ok-years.ensures.same) t.years_are in
    let same = c.in_ok-history.ensures.same h (rw (c.as_slice-3.ensures.value, c.as_slice-4.ensures.value) said)
    (rw c.as_slice-2.ensures.value years) in
    no-both c.are_told.result (c.are_told.ensures.1 (rw c.as_slice-5.ensures.value
    (told-right c.in_ok-history.history h c.in_ok-spans.spans.items _ refl u.spans_are same))) c.if-not-are_told.true
