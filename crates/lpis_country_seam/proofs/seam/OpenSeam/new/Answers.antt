use Rattle.std.proofs.Common.{ℕ, List, true, refl, ap}
use Rattle.lpis_tables.specs.Ids.{has_id}
use Rattle.lpis_country_seam.proofs.SeamLemmas.{none-joined}
use Rattle.lpis_country_seam.proofs.seam.OpenSeam.new.Goals as goal

pub returns : goal.returns
returns c = record {
  tiles_are = refl;
  classes_are = refl;
  number = refl;
  ids_are = λ id. ap (λ (ids : List (List ℕ)). has_id ids id) c.new.ensures;
  rows_are = record { is_kept = λ k. true; are = c.new-2.ensures; awaited = λ k a. refl };
  joined = none-joined c.args.tiles.items c.args.classes.items;
}
