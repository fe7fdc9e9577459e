use Rattle.std.proofs.Common.{◌≡◌, drop}
use Rattle.lpis_tables.proofs.Common.{after_places, fields_of, places_of, texts}
use Rattle.lpis_tables.proofs.reader.add_places.Given as goal

abbrev pub invariant-loop-name : goal.invariant-loop-name
invariant-loop-name l = after_places l.places.items (places_of l.needed (fields_of l.header) (texts (drop l.name-index l.names)))
    ≡ after_places l.fn.places.items (places_of l.needed (fields_of l.header) (texts l.names))
