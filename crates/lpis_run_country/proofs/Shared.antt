-- The lemmas that the crates above cite, passed on from one place. Declares nothing.
pub use Rattle.lpis_run_country.proofs.BegunLemmas.{country_names_none, read_of_names_none, regions_name_none, setting_begun, unbegun_no}
pub use Rattle.lpis_run_country.proofs.PassedLemmas.{passed_length, passed_more, passed_regions, passed_sound, reached_by}
pub use Rattle.lpis_run_country.proofs.RunLemmas.{all_left, check_refused, err_is, first_of}
