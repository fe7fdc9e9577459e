-- Histories that are the same, release by release.
use Rattle.std.specs.Prelude.{◌≡◌, ℕ, List, [], ◌∷◌}
use Rattle.lpis_tables.specs.Ids.{has_id}
use Rattle.lpis_lineage.specs.declared.row.Entry.{Entry}

-- two releases have the same year, identifiers and rows
pub record IsAlike (e d : Entry) : Type 0 where
  pub year : e.year ≡ d.year
  pub live : (q : List ℕ) → has_id e.live q ≡ has_id d.live q
  pub rows : e.rows ≡ d.rows

-- so have these, one by one
abbrev pub AreAlike : List Entry → List Entry → Type 0
AreAlike [] [] = Unit {0}
AreAlike [] (d ∷ k) = ⊥
AreAlike (e ∷ h) [] = ⊥
AreAlike (e ∷ h) (d ∷ k) = IsAlike e d × AreAlike h k
