-- What a release keeps beside its rows.
use Rattle.std.specs.Prelude.{◌≡◌, ◌≤◌, ℕ, List, [], Some, length, map, slice_get}
use Rattle.std.specs.List.{IsDistinct}
use Rattle.lpis_tables.specs.declared.class.Class.{Class}
use Rattle.lpis_tables.specs.declared.piece.Piece.{Piece}
use Rattle.lpis_tables.specs.Ids.{same_id}
use Rattle.lpis_tables.specs.Table.{most_rows}
use Rattle.lpis_release.specs.declared.groups.Join.{Join}
use Rattle.lpis_release.specs.declared.parcel.Parcel.{Parcel}
use Rattle.lpis_release.specs.Weighted.{class_named}
use Rattle.lpis_release.specs.private.Groups.{group_at, indices_where}
use Rattle.lpis_release.specs.Release.{Contents, join_faults, names_parcel, parcel_ids, piece_ids}

-- each parcel has the indices of its pieces, and each piece that of its class
pub record AreJoins (parcels : List Parcel) (pieces : List Piece) (classes : List Class)
    (joins : List Join) (class_indices : List ℕ) : Type 0 where
  pub groups_are : (k : ℕ) (id : List ℕ) → slice_get (parcel_ids parcels) k ≡ Some id
      → group_at joins k ≡ indices_where (names_parcel id) 0 pieces
  pub classes_are : map (slice_get classes) class_indices ≡ map
      (λ (p : Piece). class_named classes p.class) pieces

-- what a release keeps: the joins hold, these are their indices, and the pieces are few, no two
-- of one identifier
pub record IsJoinedRelease (c : Contents) (joins : List Join)
    (class_indices : List ℕ) : Type 0 where
  pub joined : join_faults c ≡ []
  pub distinct : IsDistinct same_id (piece_ids c.pieces)
  pub few : length c.pieces ≤ most_rows
  pub indexed : AreJoins c.parcels c.pieces c.classes joins class_indices
