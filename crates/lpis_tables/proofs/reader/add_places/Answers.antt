use Rattle.std.proofs.Common.{◌≡◌, ◌∙◌, sym, ap, refl, List, Option, ℕ, rules, true, drop, ◌+◌, is_ok}
use Rattle.lpis_tables.proofs.Common.{after_places, fields_of, places_of, texts}
use Rattle.lpis_tables.proofs.ColumnLemmas.{after-bad, places-bad, places-end, places-more}
use Rattle.lpis_tables.proofs.reader.add_places.Goals as goal

pub returns-in-Err : goal.returns-in-Err
returns-in-Err c =
    let said = sym c.loop-name.invariant ∙ places-bad c.args.needed c.args.names.now c.loop-name.name-index _
    (fields_of c.args.header.now) c.loop-name.places.items c.in-Err.code c.loop-name-test.true
    (sym c.column_place.ensures ∙ c.in-Err.is) in
    record { ok = tt; err = rw c.fault.ensures (after-bad _ _ _ said, refl) }

pub loop-name-preserved : goal.loop-name-preserved
loop-name-preserved c =
    let good : is_ok c.push.result ≡ true = search rules in
    let items = rw good at c.push.ensures.items in
    let found = sym c.column_place.ensures ∙ c.in-Ok.is in
    ap
    (λ (x : List (Option ℕ)). after_places x
    (places_of c.args.needed (fields_of c.args.header.now) (texts (drop (c.loop-name.name-index + 1) c.args.names.now)))) items
    ∙ places-more c.args.needed c.args.names.now c.loop-name.name-index _ (fields_of c.args.header.now) c.loop-name.places.items
    c.in-Ok.place c.loop-name-test.true found ∙ c.loop-name.invariant

pub returns : goal.returns
returns c = record {
  ok = sym c.loop-name.invariant ∙ places-end c.args.needed c.args.names.now c.loop-name.name-index (fields_of c.args.header.now) c.loop-name.places.items c.loop-name-test.false;
  err = tt;
}
