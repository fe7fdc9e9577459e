-- A database says one history, and keeps one list of shapes.
use Rattle.std.proofs.Common.{◌≡◌, ◌∙◌, refl, sym, ap, [], ◌∷◌, ℕ, ℤ, pos, List, length}
use Rattle.std.proofs.lemmas.List.Sorted.{IsPermutation-refl}
use Rattle.lpis_tables.specs.Ids.{has_id}
use Rattle.lpis_lineage.specs.Lineage.{holds}
use Rattle.lpis_lineage.specs.Lineage.{last_live}
use Rattle.lpis_register.proofs.Common.{Entry, Content, TablesHave, Shape, Version}
use Rattle.lpis_register.proofs.Common.{First, Third}
use Rattle.lpis_register_rows.specs.declared.version.Version.TheVariants.{Second}
use Rattle.lpis_register_rows.specs.Histories.{IsSameContent, IsSameHistory, only_format}
use Rattle.lpis_register_rows.specs.Content.{Format}
use Rattle.lpis_register_rows.specs.Shapes.{AreLive}

-- ---- the same histories have the same last identifiers

same_last : (h k : List Entry) → IsSameHistory h k → (q : List ℕ) → has_id (last_live k) q ≡ has_id (last_live h) q
same_last [] [] same q = refl
same_last [] (e ∷ k) same q = absurd (let n = same.lengths in cc)
same_last (e ∷ h) [] same q = absurd (let n = same.lengths in cc)
same_last (e ∷ h) (d ∷ k) same q =
    let n : length k ≡ length h = (let l = same.lengths in cc) in
    ap (λ i. holds (d ∷ k) i q) n ∙ sym (same.sets (length h) q)

all_live : (live more : List (List ℕ)) (shapes : List Shape) → ((q : List ℕ) → has_id more q ≡ has_id live q) → AreLive live shapes → AreLive more shapes
all_live live more [] same all = tt
all_live live more (s ∷ shapes) same all = ((all.0.0, same s.0 ∙ all.0.1), all_live live more shapes same all.1)

-- shapes of live parcels of one are such of the other
pub same_live : (h k : List Entry) → IsSameHistory h k → (shapes : List Shape) → AreLive (last_live h) shapes → AreLive (last_live k) shapes
same_live h k same shapes all = all_live (last_live h) (last_live k) shapes (same_last h k same) all

-- ---- the row of the version tells which it is

-- the same rows in one version report one history only
abbrev pub One : Type 0
One = (version : Version) (c : Content) (h k : List Entry) → TablesHave version c h → TablesHave version c k → IsSameHistory h k

abbrev version_in : List Format → ℤ
version_in [] = pos 0
version_in (f ∷ fs) = f.version

not_1_2 : (fs : List Format) → fs ≡ only_format 1 → fs ≡ only_format 2 → ⊥
not_1_2 fs a b = let same : pos 1 ≡ pos 2 = ap version_in (sym a ∙ b) in cc

not_1_3 : (fs : List Format) → fs ≡ only_format 1 → fs ≡ only_format 3 → ⊥
not_1_3 fs a b = let same : pos 1 ≡ pos 3 = ap version_in (sym a ∙ b) in cc

not_2_3 : (fs : List Format) → fs ≡ only_format 2 → fs ≡ only_format 3 → ⊥
not_2_3 fs a b = let same : pos 2 ≡ pos 3 = ap version_in (sym a ∙ b) in cc

-- and so the version, and the history
pub one_said : One → (c : Content) (h k : List Entry) (version other : Version) → TablesHave version c h → TablesHave other c k → (version ≡ other) × IsSameHistory h k
one_said one c h k First First a b = (refl, one First c h k a b)
one_said one c h k Second Second a b = (refl, one Second c h k a b)
one_said one c h k Third Third a b = (refl, one Third c h k a b)
one_said one c h k First Second a b = absurd (not_1_2 c.formats a.formats_are b.formats_are)
one_said one c h k First Third a b = absurd (not_1_3 c.formats a.formats_are b.formats_are)
one_said one c h k Second First a b = absurd (not_1_2 c.formats b.formats_are a.formats_are)
one_said one c h k Second Third a b = absurd (not_2_3 c.formats a.formats_are b.formats_are)
one_said one c h k Third First a b = absurd (not_1_3 c.formats b.formats_are a.formats_are)
one_said one c h k Third Second a b = absurd (not_2_3 c.formats b.formats_are a.formats_are)

-- rows are the same as themselves
pub same_itself : (c : Content) → IsSameContent c c
same_itself c = record {
  formats = IsPermutation-refl c.formats;
  years = IsPermutation-refl c.years;
  spans = IsPermutation-refl c.spans;
  lines = IsPermutation-refl c.lines;
  live = IsPermutation-refl c.live;
  texts = IsPermutation-refl c.texts;
  marks = IsPermutation-refl c.marks;
}
