-- Spans: from which year to which year an identifier is live.
use Rattle.std.specs.Prelude.{◌&&◌, ◌||◌, ◌∷◌, Bool, cond, nat_le, nat_eq, ℕ, List, [], Option}
use Rattle.std.specs.Prelude.{None, Some}
use Rattle.std.specs.Option.{option_or}
use Rattle.lpis_tables.specs.Ids.{has_id}
use Rattle.lpis_lineage.specs.declared.row.Entry.{Entry}
use Rattle.lpis_lineage.specs.declared.span.Span.{Span}
use Rattle.lpis_lineage.specs.Lineage.{last_live}

-- the year of the first release that holds an identifier
abbrev pub first_held : List Entry → List ℕ → Option ℕ
first_held [] id = None
first_held (e ∷ h) id = cond (has_id e.live id) (Some e.year) (first_held h id)

-- the year of the last release that holds it
abbrev pub last_held : List Entry → List ℕ → Option ℕ
last_held [] id = None
last_held (e ∷ h) id = option_or (last_held h id) (cond (has_id e.live id) (Some e.year) None)

abbrev pub span_between : Option ℕ → Option ℕ → Bool → Option Span
span_between None until live = None
span_between (Some since) None live = None
span_between (Some since) (Some until) live =
    Some (record { first = since; last = cond live 0 until })

-- its span: the first and the last year in which it is live, the last being 0 while it is live in
-- the last release; none where no release holds it
abbrev pub span_of : List Entry → List ℕ → Option Span
span_of h id = span_between (first_held h id) (last_held h id) (has_id (last_live h) id)

-- a span holds a year
abbrev pub in_span : Span → ℕ → Bool
in_span s year = nat_le s.first year && (nat_eq s.last 0 || nat_le year s.last)

-- the identifiers whose span holds the year, in their order
abbrev pub live_in : List (List ℕ × Span) → ℕ → List (List ℕ)
live_in [] year = []
live_in (p ∷ ps) year = cond (in_span p.1 year) (p.0 ∷ live_in ps year) (live_in ps year)
