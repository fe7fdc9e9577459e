use Rattle.std.proofs.Common.{refl}
use Rattle.lpis_run_country.proofs.TotalsLemmas.{area_fits, totals_plus, weighted_fits}
use Rattle.lpis_run_country.proofs.totals.Totals.plus.Goals as goal

pub plus-requires-clause-area : goal.plus-requires-clause-area
plus-requires-clause-area c = area_fits _ _ c.args.self.parcels c.args.others.parcels c.requires.first.area c.requires.second.area c.requires.few

pub plus-requires-clause-weighted : goal.plus-requires-clause-weighted
plus-requires-clause-weighted c = weighted_fits _ _ c.args.self.parcels c.args.others.parcels c.requires.first.weighted c.requires.second.weighted c.requires.few

pub returns : goal.returns
returns c = λ r ks ls a b. totals_plus r ks ls c.args.self c.args.others _ refl refl a b (c.plus.ensures r ks ls a.areas b.areas)
