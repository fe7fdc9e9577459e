-- What marked rows ask for: of a history, the shapes that are kept of its last release, the parcels
-- of a release and its rows.
use Rattle.std.specs.Prelude.{◌≡◌, ◌∷◌, [], Bool, not, cond, is_some, ℕ, List, Option, Some}
use Rattle.std.specs.Prelude.{filter, flat_map}
use Rattle.std.specs.List.{AllZip}
use Rattle.lpis_rings.specs.declared.polygon.Member.{Member}
use Rattle.lpis_cert.specs.declared.part.ExactBlock.{ExactBlock}
use Rattle.lpis_lineage.specs.declared.exact.Group.{Group}
use Rattle.lpis_lineage.specs.declared.kind.Kind.{Kind}
use Rattle.lpis_lineage.specs.declared.row.Entry.{Entry}
use Rattle.lpis_lineage.specs.declared.row.Row.{Row}
use Rattle.lpis_lineage.specs.Changes.{Changes, IsChange}
use Rattle.lpis_lineage.specs.ExactGroups.{AreExactGroups, group_name}
use Rattle.lpis_lineage.specs.Faults.{faults}
use Rattle.lpis_lineage.specs.Kinds.{kind}
use Rattle.lpis_lineage.specs.Lineage.{last_live}
use Rattle.lpis_release.specs.declared.parcel.Parcel.{Parcel}
use Rattle.lpis_release.specs.Release.{Contents, parcel_ids}
use Rattle.lpis_register_rows.specs.Shapes.{Shape}
use Rattle.lpis_checker.specs.declared.exact.ExactFault.{ExactFault}
use Rattle.lpis_checker.specs.declared.exact.ExactPart.{ExactPart}
use Rattle.lpis_checker.specs.ExactBlocks.{ReportsExact, ShowExact, part_name}
use Rattle.lpis_checker.specs.SoundMap.{IsSoundMap}
use Rattle.lpis_lineage_exact.specs.ExactLineage.{IsExactLineage}
use Rattle.lpis_lineage_exact.specs.Shapes.{shape_named, shapes_in}

-- what became of the identifiers of the last release
abbrev pub kinds_from : List Entry → List Parcel → List Row → List ℕ → Option Kind
kinds_from h parcels rows = kind (last_live h) (parcel_ids parcels) rows

-- parcels may follow the history by these rows, which change this
pub record IsChangeTo (h : List Entry) (parcels : List Parcel) (rows : List Row) (c : Changes)
    : Type 0 where
  pub none : faults h (parcel_ids parcels) rows ≡ []
  pub change : IsChange (last_live h) (parcel_ids parcels) rows c

-- the lineage has no fault, and these are its exact groups
pub record IsMarked (h : List Entry) (parcels : List Parcel) (rows : List Row) (gs : List Group)
    : Type 0 where
  pub none : faults h (parcel_ids parcels) rows ≡ []
  pub groups : AreExactGroups (kinds_from h parcels rows) rows gs

-- ---- kept shapes
-- the old identifiers of a group: the one that is split, or the predecessors of a merge
abbrev pub old_ids : Group → List (List ℕ)
old_ids g = cond g.merge g.others (g.id ∷ [])

-- of these identifiers those whose shapes are not kept
abbrev pub lacking : List Shape → List (List ℕ) → List (List ℕ)
lacking kept ids = filter (λ id. not (is_some (shape_named kept id))) ids

-- the old identifiers whose shapes are not kept, in the order of the groups
abbrev pub unkept : List Shape → List Group → List (List ℕ)
unkept kept gs = lacking kept (flat_map old_ids gs)

-- ---- parts
-- a split's old shape is kept and its successors are new; a merge's successor is new and its
-- predecessors are kept
abbrev pub whole_shape : Bool → (kept new : List ℕ → Option (List Member)) → List ℕ
    → Option (List Member)
whole_shape merge kept new id = cond merge (new id) (kept id)

abbrev pub part_shape : Bool → (kept new : List ℕ → Option (List Member)) → List ℕ
    → Option (List Member)
part_shape merge kept new id = cond merge (kept id) (new id)

-- the identifier has this shape
abbrev pub HasShape : (List ℕ → Option (List Member)) → List ℕ → List Member → Type 0
HasShape shape_named id shape = shape_named id ≡ Some shape

-- the part that a group asks for: its whole, and what is to make it up
pub record IsWanted (kept new : List ℕ → Option (List Member)) (g : Group) (x : ExactPart) : Type 0
  where
    pub name : part_name x ≡ group_name g
    pub whole : HasShape (whole_shape g.merge kept new) g.id x.whole
    pub parts : AllZip (HasShape (part_shape g.merge kept new)) g.others x.parts

-- ---- what is asked, and what is answered
-- these are the exact groups, all their old shapes are kept, and these are the parts that they ask
-- for, in their order
pub record AsksFor (h : List Entry) (kept : List Shape) (parcels : List Parcel) (rows : List Row)
    (gs : List Group) (xs : List ExactPart) : Type 0 where
  pub marked : IsMarked h parcels rows gs
  pub all_kept : unkept kept gs ≡ []
  pub parts : AllZip (IsWanted (shape_named kept) (shape_named (shapes_in parcels))) gs xs

-- the first old identifier, in the order of the groups, whose shape is not kept
pub record IsUnkept (h : List Entry) (kept : List Shape) (parcels : List Parcel) (rows : List Row)
    (id : List ℕ) : Type 0 where
  pub gs : List Group
  pub marked : IsMarked h parcels rows gs
  pub rest : List (List ℕ)
  pub is_first : unkept kept gs ≡ id ∷ rest

-- the blocks show what the exact groups ask for
pub record IsShown (h : List Entry) (kept : List Shape) (parcels : List Parcel)
    (blocks : List ExactBlock) (rows : List Row) : Type 0 where
  pub gs : List Group
  pub xs : List ExactPart
  pub asks : AsksFor h kept parcels rows gs xs
  pub shown : ShowExact blocks xs

-- they do not, by this fault
pub record IsUnshown (h : List Entry) (kept : List Shape) (parcels : List Parcel)
    (blocks : List ExactBlock) (rows : List Row) (fault : ExactFault) : Type 0 where
  pub gs : List Group
  pub xs : List ExactPart
  pub asks : AsksFor h kept parcels rows gs xs
  pub reports : ReportsExact blocks xs fault

-- ---- the law: what is shown of a sound map has exact lineage
abbrev pub ShownIsExact : Type 0
ShownIsExact =
    (h : List Entry) (kept : List Shape) (r : Contents) (blocks : List ExactBlock)
    (rows : List Row) → IsSoundMap r → IsShown h kept r.parcels blocks rows → IsExactLineage
    (kinds_from h r.parcels rows) rows (shape_named kept) (shape_named (shapes_in r.parcels))
