use Rattle.std.proofs.Common.{◌≡◌, ◌∙◌, ap, arith, length, map, subst, sym, List, IsPermutation}
use Rattle.lpis_register_rows.proofs.Common.{err_from_is_err_and, KnownLine, line_in, marks_in, walked}
use Rattle.lpis_register_rows.proofs.MarkLemmas.{all-used, not-used, told-known, walked-length, walked-lines, written-whole}
use Rattle.lpis_register_rows.proofs.RefusingLemmas.{readable-lines}
use Rattle.lpis_register_rows.proofs.marks.marked_lines.Goals as goal

pub returns-in_err-known-clause-refused : goal.returns-in_err-known-clause-refused
returns-in_err-known-clause-refused c =
    let p = err_from_is_err_and c.from_residual.result c.from_residual.ensures.1 in
    rw (p.1, p.2) (λ e h kept lines marks. c.in_err-known.ensures.refused e (readable-lines h c.args.lines.now kept lines))

pub returns-then-used-len-clause-refused : goal.returns-then-used-len-clause-refused
returns-then-used-len-clause-refused c = λ _ h kept lines marks.
    let known = c.in_ok-known.known.items in
    let sorted = c.in_ok-marks.marks.items in
    let told = told-known h c.args.lines.now c.args.marks.now sorted known kept c.in_ok-known.ensures.sorted c.in_ok-known.ensures.same c.in_ok-known.ensures.texts lines
    c.in_ok-marks.ensures.sorted c.in_ok-marks.ensures.same marks in
    not-used sorted known c.mark_lines-used.result
    (rw (c.as_slice.ensures.value, c.as_mut_slice.ensures.value) at c.mark_lines-used.ensures.used)
    (let v = ap length c.as_slice.ensures.value in let l = c.as_slice.ensures.len in let e = c.len.ensures in let t = c.if-used-len.true in omega (arith, v, l, e, t)) told.1

pub returns-clause-same : goal.returns-clause-same
returns-clause-same c =
    let known = c.in_ok-known.known.items in
    let sorted = c.in_ok-marks.marks.items in
    let now : c.mark_lines-used.new.lines ≡ walked sorted known = rw (c.as_slice.ensures.value, c.as_mut_slice.ensures.value) at c.mark_lines-used.ensures.lines in
    let whole = written-whole c.in_ok-known.known.len c.mark_lines-used.new.lines known
    (let v = ap length c.as_mut_slice.ensures.value in let l = c.as_mut_slice.ensures.len in let w = walked-length sorted known in let n = ap length now in omega (arith, v, l, w, n)) in
    rw whole (subst (IsPermutation c.args.lines.now) (sym (ap (λ (ks : List KnownLine). map line_in ks) now ∙ walked-lines sorted known)) c.in_ok-known.ensures.same)

pub returns-clause-marks : goal.returns-clause-marks
returns-clause-marks c =
    let known = c.in_ok-known.known.items in
    let sorted = c.in_ok-marks.marks.items in
    let now : c.mark_lines-used.new.lines ≡ walked sorted known = rw (c.as_slice.ensures.value, c.as_mut_slice.ensures.value) at c.mark_lines-used.ensures.lines in
    let whole = written-whole c.in_ok-known.known.len c.mark_lines-used.new.lines known
    (let v = ap length c.as_mut_slice.ensures.value in let l = c.as_mut_slice.ensures.len in let w = walked-length sorted known in let n = ap length now in omega (arith, v, l, w, n)) in
    rw whole (subst (IsPermutation c.args.marks.now) (sym (ap marks_in now ∙ all-used sorted known c.mark_lines-used.result
    (rw (c.as_slice.ensures.value, c.as_mut_slice.ensures.value) at c.mark_lines-used.ensures.used)
    (let v = ap length c.as_slice.ensures.value in let l = c.as_slice.ensures.len in let e = c.len.ensures in let t = c.if-used-len.false in omega (arith, v, l, e, t)))) c.in_ok-marks.ensures.same)

pub returns-clause-told : goal.returns-clause-told
returns-clause-told c = λ h kept lines marks.
    let known = c.in_ok-known.known.items in
    let sorted = c.in_ok-marks.marks.items in
    let now : c.mark_lines-used.new.lines ≡ walked sorted known = rw (c.as_slice.ensures.value, c.as_mut_slice.ensures.value) at c.mark_lines-used.ensures.lines in
    let whole = written-whole c.in_ok-known.known.len c.mark_lines-used.new.lines known
    (let v = ap length c.as_mut_slice.ensures.value in let l = c.as_mut_slice.ensures.len in let w = walked-length sorted known in let n = ap length now in omega (arith, v, l, w, n)) in
    let told = told-known h c.args.lines.now c.args.marks.now sorted known kept c.in_ok-known.ensures.sorted c.in_ok-known.ensures.same c.in_ok-known.ensures.texts lines
    c.in_ok-marks.ensures.sorted c.in_ok-marks.ensures.same marks in
    sym told.0 ∙ sym now ∙ sym whole
