use Rattle.lpis_country_seam.proofs.IdLemmas.{Adding}
use Rattle.lpis_country_seam.proofs.keeping.add_ids.Given as goal

abbrev pub invariant-loop-parcel : goal.invariant-loop-parcel
invariant-loop-parcel l = Adding l.initial.ids l.ids l.parcels l.parcel-index
