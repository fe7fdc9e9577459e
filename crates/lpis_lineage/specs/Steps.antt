-- What a release changes in the history that it may follow, with all that adding it takes.
use Rattle.std.specs.Prelude.{◌≡◌, ◌&&◌, [], true, not, is_some, ℕ, List}
use Rattle.lpis_tables.specs.Ids.{has_id, is_id}
use Rattle.lpis_lineage.specs.declared.row.Row.{Row}
use Rattle.lpis_lineage.specs.declared.row.Entry.{Entry}
use Rattle.lpis_lineage.specs.Changes.{Changes, IsChange}
use Rattle.lpis_lineage.specs.Faults.{faults}
use Rattle.lpis_lineage.specs.Lineage.{last_live}
use Rattle.lpis_lineage.specs.Order.{IsAscending}
use Rattle.lpis_lineage.specs.Spans.{span_of}

-- the identifiers of a release that no release of the history holds
pub record AreFresh (h : List Entry) (live fresh : List (List ℕ)) : Type 0 where
  pub are : (q : List ℕ) → has_id fresh q ≡ (has_id live q && not (is_some (span_of h q)))
  pub ascend : IsAscending fresh
  pub ids : (q : List ℕ) → has_id fresh q ≡ true → is_id q ≡ true

-- a release with these identifiers and rows may follow the history, with this set of them, this
-- change and these fresh identifiers
pub record IsStep (h : List Entry) (live : List (List ℕ)) (rows : List Row)
    (set : List (List ℕ)) (change : Changes) (fresh : List (List ℕ)) : Type 0 where
  pub faultless : faults h live rows ≡ []
  pub live_are : (q : List ℕ) → has_id set q ≡ has_id live q
  pub change_is : IsChange (last_live h) live rows change
  pub fresh_are : AreFresh h live fresh
