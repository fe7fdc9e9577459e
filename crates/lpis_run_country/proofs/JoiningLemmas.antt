-- The end of a run whose regions all passed, and what is handed over of their country.
use Rattle.std.proofs.Common.{◌≡◌, ◌∙◌, [], sym, ap, subst, inl, ℕ, List, Option, Err, Ok, String, Vec, length, map, true}
use Rattle.std.proofs.lemmas.List.{length-map}
use Rattle.std.specs.String.{string_bytes}
use Rattle.std.specs.declared.alloc.Global.{Global}
use Rattle.lpis_release.specs.declared.parcel.Parcel.{Parcel}
use Rattle.lpis_run.specs.declared.failure.Failure.{Failure}
use Rattle.lpis_run.specs.declared.failure.Failure.TheVariants.{Memory}
use Rattle.lpis_country.specs.Country.{country_of}
use Rattle.lpis_country_seam.specs.Joined.{HasEnded}
use Rattle.lpis_country_seam.specs.Laws.{JoinedCountryIsSound, JoinedCountryIsUnion}
use Rattle.lpis_country_seam.specs.Open.{IsSeamOf}
use Rattle.lpis_run_country.specs.declared.gathering.Gathered.{Gathered}
use Rattle.lpis_run_country.specs.declared.gathering.Gathered.TheVariants.{Nothing, Parcels}
use Rattle.lpis_run_country.specs.declared.joining.JoinedCountry.{JoinedCountry}
use Rattle.lpis_run_country.specs.declared.joining.Joining.TheVariants.{Joined}
use Rattle.lpis_run_country.specs.declared.progress.Progress.{Progress}
use Rattle.lpis_run_country.specs.Beginning.{IsPlanned}
use Rattle.lpis_run_country.specs.CountryAnswer.{Setting}
use Rattle.lpis_run_country.specs.RegionsOutcome.{IsCountryJoined, JoinsRegions, RegionsStop}
use Rattle.lpis_run_country.specs.private.Progressing.{HasGathered, HasPassedAll, gathered_in, gathers}
use Rattle.lpis_run_country.specs.private.Totals.{last_lines}
use Rattle.lpis_run_country.proofs.PassedLemmas.{passed_sound}
use Rattle.lpis_run_country.proofs.RunLemmas.{all_join, all_left, all_number, last_are}

-- ---- the country
-- where parcels are wanted, those that were gathered are these
gathered-are : (ks : List Parcel) (g : Gathered) → gathers g ≡ true → HasGathered ks g → gathered_in g ≡ ks
gathered-are ks Nothing wanted h = cc
gathered-are ks (Parcels gathered) wanted h = h

-- the seam has ended
pub ended : (s : Setting) (p : Progress) (old now : Option (List ℕ)) → IsPlanned s.names s.tiles → HasPassedAll s p old now → gathers p.gathered ≡ true → HasEnded p.seam (gathered_in p.gathered)
ended s p old now planned h wanted = record {
  tiling = planned.tiling;
  classes = s.classes;
  regions = h.regions;
  seam = subst (λ tiles. IsSeamOf tiles s.classes h.regions p.seam) planned.tiles_of h.at.seam;
  all = sym (all_number s p old now h) ∙ planned.as_many ∙ ap length planned.tiles_of;
  sound = passed_sound s s.names h.regions h.lines h.have_passed;
  are = gathered-are (country_of s.classes h.regions).parcels p.gathered wanted h.at.gathered;
}

-- what is handed over is the country of all regions
country-joined : (s : Setting) (p : Progress) (old now : Option (List ℕ)) (names : Vec (String Global) Global) (j : JoinedCountry) (h : HasPassedAll s p old now) → gathers p.gathered ≡ true
    → map string_bytes names.items ≡ s.names → j.names ≡ names → j.parcels ≡ gathered_in p.gathered → j.text.items ≡ last_lines (length names.items) p.totals → IsCountryJoined s h.regions j
country-joined s p old now names j h wanted are same parcels text = record {
  names_are = ap (λ (v : Vec (String Global) Global). map string_bytes v.items) same ∙ are;
  parcels_are = parcels ∙ gathered-are (country_of s.classes h.regions).parcels p.gathered wanted h.at.gathered;
  text_is = text ∙ last_are s h.regions p (length names.items) h.at (sym (length-map names.items string_bytes) ∙ ap length are ∙ all_number s p old now h);
}

-- ---- the run
-- all regions join
pub joins_all : (s : Setting) (p : Progress) (old now : Option (List ℕ)) (names : Vec (String Global) Global) (j : JoinedCountry) → JoinedCountryIsSound → JoinedCountryIsUnion
    → IsPlanned s.names s.tiles → HasPassedAll s p old now → gathers p.gathered ≡ true → map string_bytes names.items ≡ s.names → j.names ≡ names → j.parcels ≡ gathered_in p.gathered
    → j.text.items ≡ last_lines (length names.items) p.totals → JoinsRegions s old now (Ok (Joined j))
joins_all s p old now names j law unites planned h wanted are same parcels text = record {
  joins = (h.regions, h.lines, all_join s p old now law unites planned h, h.written, country-joined s p old now names j h wanted are same parcels text);
  failure = tt;
}

-- out of memory then the run breaks off
pub joins_not : (s : Setting) (p : Progress) (old now : Option (List ℕ)) (f : Failure) → HasPassedAll s p old now → f ≡ Memory → JoinsRegions s old now (Err f)
joins_not s p old now f h none = record { joins = tt; failure = inl (h.lines, (h.regions, [], all_left s h.regions h.lines h.have_passed, none), h.written) }

-- so it does before
pub joins_broken : (s : Setting) (old now : Option (List ℕ)) (f : Failure) → RegionsStop s old now f → JoinsRegions s old now (Err f)
joins_broken s old now f h = record { joins = tt; failure = h }
