-- Shapes of parcels, and the texts that keep them.
use Rattle.std.specs.Prelude.{◌≡◌, ◌∷◌, ◌++◌, if◌then◌else◌, [], true, ℕ, List, map}
use Rattle.std.specs.Prelude.{IsPermutation}
use Rattle.std.specs.Cmp.Lexicographic.{slice_cmp}
use Rattle.std.specs.List.{AllByRecursion, AllZip}
use Rattle.std.specs.Ordering.{match_ordering, nat_cmp}
use Rattle.lpis_release.specs.Equality.{same_polygon}
use Rattle.lpis_tables.specs.Ids.{has_id, is_id}
use Rattle.lpis_rings.specs.declared.polygon.Member.{Member}
use Rattle.lpis_wkt.specs.Text.{PolygonText}
use Rattle.lpis_wkt_writer.specs.Text.{polygon_text}
use Rattle.lpis_lineage.specs.Order.{IsAscending}
use Rattle.lpis_release.specs.declared.parcel.Parcel.{Parcel}
use Rattle.lpis_register_rows.specs.Content.{StoredText, TextEdit, Deletes, Replaces, Inserts}

-- the identifier of a parcel, and its polygon
abbrev pub Shape : Type 0
Shape = List ℕ × List Member

abbrev pub shape_ids : List Shape → List (List ℕ)
shape_ids shapes = map (λ (shape : Shape). shape.0) shapes

-- the text is that of the shape: it bears its identifier, and spells its polygon
abbrev pub IsTextOfShape : StoredText → Shape → Type 0
IsTextOfShape text shape = (text.id ≡ shape.0) × PolygonText text.wkt shape.1

-- the text that is written for a shape
abbrev pub written_text : Shape → StoredText
written_text shape = record { id = shape.0; wkt = polygon_text shape.1 }

-- the text that is written for a shape spells it, as that of every `Polygon` does
abbrev pub IsSpelled : Shape → Type 0
IsSpelled shape = IsTextOfShape (written_text shape) shape

-- the texts are those of these shapes, which ascend by identifier, each once
pub record ShapesAre (texts : List StoredText) (shapes : List Shape) : Type 0 where
  pub ascend : IsAscending (shape_ids shapes)
  -- the shapes in the order of the texts
  pub order : List Shape
  pub spelled : AllZip IsTextOfShape texts order
  pub same : IsPermutation order shapes

-- the shape is of a live parcel: its identifier is among these, and well formed
abbrev pub IsLive : List (List ℕ) → Shape → Type 0
IsLive live shape = (is_id shape.0 ≡ true) × (has_id live shape.0 ≡ true)

abbrev pub AreLive : List (List ℕ) → List Shape → Type 0
AreLive live shapes = AllByRecursion (IsLive live) shapes

-- the texts may be kept beside a history whose last release holds these identifiers
abbrev pub TextsStand : List StoredText → List (List ℕ) → Type 0
TextsStand texts live = (shapes : List Shape) × ShapesAre texts shapes × AreLive live shapes

abbrev pub parcel_shape : Parcel → Shape
parcel_shape parcel = (parcel.id, parcel.polygon)

-- the shapes of a release: its parcels' identifiers and polygons, which ascend by identifier
pub record AreShapesOf (parcels : List Parcel) (shapes : List Shape) : Type 0 where
  pub ascend : IsAscending (shape_ids shapes)
  pub same : IsPermutation (map parcel_shape parcels) shapes

-- ---- what becomes of the texts when the shapes of a release follow kept ones, both ascending by
-- identifier

-- nothing of one that is kept with the same members, point by point; with others it is replaced
abbrev pub edits_of : Shape → Shape → List TextEdit
edits_of kept shape = if same_polygon kept.1 shape.1 then [] else Replaces (written_text shape) ∷ []

-- what becomes of the text of the first kept shape, and of the others as this function has it: it
-- is deleted where the shapes go on with a greater identifier
abbrev pub edits_beside : Shape → (List Shape → List TextEdit) → List Shape → List TextEdit
edits_beside kept others [] = Deletes kept.0 ∷ others []
edits_beside kept others (shape ∷ shapes) = match_ordering (slice_cmp nat_cmp kept.0 shape.0)
    (Deletes kept.0 ∷ others (shape ∷ shapes)) (edits_of kept shape ++ others shapes)
    (Inserts (written_text shape) ∷ edits_beside kept others shapes)

abbrev pub text_edits : List Shape → List Shape → List TextEdit
text_edits [] shapes = map (λ shape. Inserts (written_text shape)) shapes
text_edits (first ∷ kept) shapes = edits_beside first (text_edits kept) shapes
