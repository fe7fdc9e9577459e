-- The release of three texts, or its first fault.
use Rattle.std.specs.Prelude.{◌+◌, ◌∷◌, ◌++◌, Bool, not, ℕ, List, [], map, filter, Result}
use Rattle.std.specs.Prelude.{Option}
use Rattle.std.specs.List.{find, list_any}
use Rattle.lpis_tables.specs.declared.class.Class.{Class}
use Rattle.lpis_tables.specs.declared.piece.Piece.{Piece}
use Rattle.lpis_tables.specs.declared.fault.Table.TheVariants as table
use Rattle.lpis_tables.specs.declared.fault.TableCode.TheVariants.{UnknownParcel, UnknownClass}
use Rattle.lpis_tables.specs.declared.fault.TableCode.TheVariants.{ParcelWithoutPieces}
use Rattle.lpis_tables.specs.declared.fault.TableFault.{TableFault}
use Rattle.lpis_tables.specs.Classes.{classes_table}
use Rattle.lpis_tables.specs.Covers.{covers_table}
use Rattle.lpis_tables.specs.Faults.{fault_if, rows_of, unless_faulty}
use Rattle.lpis_tables.specs.Ids.{has_id, same_id}
use Rattle.lpis_tables.specs.Table.{and_then, fault_at}
use Rattle.lpis_release.specs.declared.parcel.Parcel.{Parcel}
use Rattle.lpis_release.specs.Parcels.{parcels_table}

-- the rows of a release's tables, each in its order
pub record Contents : Type 0 where
  pub parcels : List Parcel
  pub pieces : List Piece
  pub classes : List Class

abbrev pub parcel_ids : List Parcel → List (List ℕ)
parcel_ids parcels = map (λ (p : Parcel). p.id) parcels

abbrev pub piece_ids : List Piece → List (List ℕ)
piece_ids pieces = map (λ (p : Piece). p.id) pieces

abbrev pub class_codes : List Class → List (List ℕ)
class_codes classes = map (λ (k : Class). k.code) classes

-- the piece in this row of the covers table is of a parcel, and then of a class, that is not there
abbrev pub unknown_faults : List Parcel → List Class → ℕ → Piece → List TableFault
unknown_faults parcels classes n piece =
    fault_if (not (has_id (parcel_ids parcels) piece.parcel))
    (fault_at UnknownParcel table.Covers n)
    ++ fault_if (not (has_id (class_codes classes) piece.class))
    (fault_at UnknownClass table.Covers n)

-- the same of pieces, row by row from this one on
abbrev pub reference_faults : List Parcel → List Class → ℕ → List Piece → List TableFault
reference_faults parcels classes n [] = []
reference_faults parcels classes n (p ∷ ps) = unknown_faults parcels classes n p
    ++ reference_faults parcels classes (n + 1) ps

-- a piece names the parcel of this identifier
abbrev pub names_parcel : List ℕ → Piece → Bool
names_parcel id piece = same_id id piece.parcel

-- parcels that no piece names, row by row from this one on
abbrev pub unnamed_parcel_faults : List Piece → ℕ → List Parcel → List TableFault
unnamed_parcel_faults pieces n [] = []
unnamed_parcel_faults pieces n (p ∷ ps) =
    fault_if (not (list_any (names_parcel p.id) pieces))
    (fault_at ParcelWithoutPieces table.Parcels n)
    ++ unnamed_parcel_faults pieces (n + 1) ps

-- the faults of the joins: those of each piece in order, then those of each parcel
abbrev pub join_faults : Contents → List TableFault
join_faults c = reference_faults c.parcels c.classes 1 c.pieces
    ++ unnamed_parcel_faults c.pieces 1 c.parcels

abbrev pub joined_release : Contents → Result Contents TableFault
joined_release c = unless_faulty (join_faults c) c

-- the release of three texts, or its first fault: in the parcels, covers, classes, then the joins
abbrev pub release_of : List ℕ → List ℕ → List ℕ → Result Contents TableFault
release_of parcels covers classes =
    and_then (rows_of parcels_table parcels)
    (λ ps. and_then (rows_of covers_table covers)
    (λ cs. and_then (rows_of classes_table classes)
    (λ ks. joined_release (record { parcels = ps; pieces = cs; classes = ks }))))

-- the pieces of a parcel, in the order of their table
abbrev pub pieces_named : Contents → List ℕ → List Piece
pieces_named c id = filter (names_parcel id) c.pieces

-- the parcel of an identifier, where there is one
abbrev pub parcel_named : Contents → List ℕ → Option Parcel
parcel_named c id = find (λ p. same_id id p.id) c.parcels
