use Rattle.std.proofs.Common.{◌∙◌, ◌++◌, List, ℕ, sym, ap, arith, option_to_list}
use Rattle.lpis_tables.proofs.Common.{fields_of, one_place}
use Rattle.lpis_tables.proofs.ColumnLemmas.{no-field, index-end, index-first, index-twice, step-named, step-other}
use Rattle.lpis_tables.proofs.reader.column_place.Goals.{in-Some+then-eq_ignore_ascii_case+else-is_some, in-Some+else-eq_ignore_ascii_case, in_default}
use Rattle.lpis_tables.proofs.reader.column_place.Goals as goal

pub returns-then-is_some : goal.returns-then-is_some
returns-then-is_some c =
    let at = rw c.in-Some.is at c.get.ensures.value in
    let step = step-named c.args.name.now c.loop-i.i (fields_of c.args.header.now) c.in-Some.field.now
    c.eq_ignore_ascii_case.result at c.eq_ignore_ascii_case.ensures.test c.if-eq_ignore_ascii_case.true in
    sym (index-twice c.args.needed c.loop-i.found c.loop-i.i _ (sym c.is_some.ensures ∙ c.if-is_some.true))
    ∙ sym (ap (λ (ps : List ℕ). one_place c.args.needed (option_to_list c.loop-i.found ++ ps)) step) ∙ c.loop-i.invariant

pub loop-i-preserved : goal.loop-i-preserved
loop-i-preserved c = elim c.match-get.branch [
  | in-Some+then-eq_ignore_ascii_case+else-is_some w ↦
      let at = rw w.in-Some.is at c.get.ensures.value in
      let step = step-named c.args.name.now c.loop-i.i (fields_of c.args.header.now) w.in-Some.field.now
      w.eq_ignore_ascii_case.result at w.eq_ignore_ascii_case.ensures.test w.if-eq_ignore_ascii_case.true in
      rw w.found-is (ap (one_place c.args.needed) (index-first c.loop-i.found c.loop-i.i _ (sym w.is_some.ensures ∙ w.if-is_some.false))
      ∙ sym (ap (λ (ps : List ℕ). one_place c.args.needed (option_to_list c.loop-i.found ++ ps)) step) ∙ c.loop-i.invariant)
  | in-Some+else-eq_ignore_ascii_case w ↦
      let at = rw w.in-Some.is at c.get.ensures.value in
      let step = step-other c.args.name.now c.loop-i.i (fields_of c.args.header.now) w.in-Some.field.now
      w.eq_ignore_ascii_case.result at w.eq_ignore_ascii_case.ensures.test w.if-eq_ignore_ascii_case.false in
      rw w.found-is (sym (ap (λ (ps : List ℕ). one_place c.args.needed (option_to_list c.loop-i.found ++ ps)) step) ∙ c.loop-i.invariant)
  | in_default w ↦ let past = no-field (fields_of c.args.header.now) c.loop-i.i (rw w.in_default.is at c.get.ensures.value) in absurd (omega (arith, past))
]

pub returns : goal.returns
returns c = index-end c.args.needed c.args.name.now c.loop-i.i c.loop-i.found (fields_of c.args.header.now) _ (omega arith) c.place_found.ensures ∙ c.loop-i.invariant
