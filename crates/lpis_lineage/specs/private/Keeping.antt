-- What a history keeps beside its releases.
use Rattle.std.specs.Prelude.{◌≡◌, ◌&&◌, Bool, ℕ, List, [], Option, None, Some, cond}
use Rattle.std.specs.Prelude.{is_some, nat_eq, not}
use Rattle.lpis_tables.specs.Ids.{has_id}
use Rattle.lpis_lineage.specs.declared.row.Row.{Row}
use Rattle.lpis_lineage.specs.declared.row.Entry.{Entry}
use Rattle.lpis_lineage.specs.declared.span.Span.{Span}
use Rattle.lpis_lineage.specs.Faults.{faults}
use Rattle.lpis_lineage.specs.Lawful.{IsLawful, RowsFit}
use Rattle.lpis_lineage.specs.Lineage.{last_live}
use Rattle.lpis_lineage.specs.Spans.{span_of}

pub record IsHistory (h : List Entry) (spans : List ℕ → Option Span) : Type 0 where
  pub lawful : IsLawful h
  pub fits : RowsFit h
  pub spans_are : (id : List ℕ) → spans id ≡ span_of h id

-- a release without a fault after a history, the identifiers that it drops, and those that no
-- release of the history holds
pub record IsNext (h : List Entry) (live : List (List ℕ)) (rows : List Row)
    (gone fresh : List (List ℕ)) : Type 0 where
  pub faultless : faults h live rows ≡ []
  pub gone_are : (q : List ℕ) → has_id gone q ≡ (has_id (last_live h) q && not (has_id live q))
  pub fresh_are : (q : List ℕ) → has_id fresh q ≡ (has_id live q && not (is_some (span_of h q)))

-- a span that begins in a year, where the test is true
abbrev pub begun : Bool → ℕ → Option Span → Option Span
begun b year old = cond b (Some (record { first = year; last = 0 })) old

-- a span that ends with a year, where the test is true
abbrev pub ended_in : Bool → ℕ → Option Span → Option Span
ended_in b year None = None
ended_in b year (Some s) = Some (record { first = s.first; last = cond b year s.last })

-- no span where it begins in a year and the test is true
abbrev pub forgotten : Bool → ℕ → Option Span → Option Span
forgotten b year None = None
forgotten b year (Some s) = cond (b && nat_eq s.first year) None (Some s)
