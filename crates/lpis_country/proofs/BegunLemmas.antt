-- A plan of which some lines were read, and one line more.
use Rattle.std.proofs.Common.{◌≡◌, ℕ, suc, ◌<◌, ◌≤◌, true, false, ℤ, List, [], ◌∷◌, ◌++◌, length, refl, sym, ap, subst, ◌∙◌, arith, append_assoc, length-append}
use Rattle.std.proofs.lemmas.List.{append-nil}
use Rattle.std.proofs.lemmas.Map.Keys.{IsDistinct-push}
use Rattle.std.specs.Cmp.Lexicographic.{nat_list_eq_equiv}
use Rattle.std.specs.List.{AllByRecursion, IsDistinct, flat_map, list_any}
use Rattle.std.specs.Str.{bytes_eq}
use Rattle.lpis_points.specs.declared.boxes.Box4.{Box4}
use Rattle.lpis_points.specs.Range.{IsInRange}
use Rattle.lpis_country.specs.Tiling.{rectangles, frame}
use Rattle.lpis_country.specs.Limits.{most_regions}
use Rattle.lpis_country.specs.Tree.{Tree, folder, by_x, by_y, folders}
use Rattle.lpis_country.specs.CountryText.{TreeLine, x_line, y_line, region_line, tree_lines, TreeLineFits, is_region_name}
use Rattle.lpis_country.specs.Plans.{PlanParts, IsPlanOf}
use Rattle.lpis_country.specs.private.Begun.{names_listed, tiles_in, IsCompletedBy, IsPlanBegun, west_of, east_of, south_of, north_of}
use Rattle.lpis_country.proofs.TreeLemmas.{names_listed-append, folders_said}

fits_more : (ls : List TreeLine) (l : TreeLine) → AllByRecursion TreeLineFits ls → TreeLineFits l → AllByRecursion TreeLineFits (ls ++ l ∷ [])
fits_more [] l h f = (f, tt)
fits_more (k ∷ ls) l h f = (h.0, fits_more ls l h.1 f)

-- a first part, then what is in front of the second, regrouped
regrouped : {A : Type 0} (said : List A) (l : A) (a b c : List A) → said ++ ((l ∷ (a ++ b)) ++ c) ≡ (said ++ l ∷ []) ++ (a ++ (b ++ c))
regrouped said l a b c = ap (λ (m : List _). said ++ (l ∷ m)) (append_assoc a b c) ∙ sym (append_assoc said (l ∷ []) (a ++ (b ++ c)))

shared : {A : Type 0} (said a b c : List A) → said ++ ((a ++ b) ++ c) ≡ said ++ (a ++ (b ++ c))
shared said a b c = ap (λ (m : List _). said ++ m) (append_assoc a b c)

-- before the first line after the head
pub begun_first : IsPlanBegun [] [] [] (frame ∷ [])
unfolding IsDistinct
begun_first = record { fits = tt; names_are = refl; distinct = tt; few = omega arith; completed = whole }
  where
    whole : (ts : List Tree) → length ts ≡ 1 → (t : Tree) × IsCompletedBy [] [] (frame ∷ []) ts t
    whole [] e = absurd (omega arith)
    whole (t ∷ []) e = (t, record { lines_are = sym (append-nil (tree_lines t)); tiles_are = sym (append-nil (rectangles t frame)) })
    whole (t ∷ u ∷ ts) e = absurd (omega arith)

-- a cut: its line, and how it cuts the tree and the rectangle
record IsCutBy (l : TreeLine) (cut : Tree → Tree → Tree) (b first second : Box4) : Type 0 where
  fits : TreeLineFits l
  no_name : names_listed (l ∷ []) ≡ []
  lines : (s t : Tree) → tree_lines (cut s t) ≡ l ∷ (tree_lines s ++ tree_lines t)
  tiles : (s t : Tree) → rectangles (cut s t) b ≡ rectangles s first ++ rectangles t second

begun_cut : (said : List TreeLine) (names : List (List ℕ)) (tiles bs : List Box4) (l : TreeLine) (by : Tree → Tree → Tree) (b first second : Box4) → IsCutBy l by b first second
    → IsPlanBegun said names tiles (b ∷ bs) → IsPlanBegun (said ++ l ∷ []) names tiles (first ∷ second ∷ bs)
begun_cut said names tiles bs l by b first second is h = record {
  fits = fits_more said l h.fits is.fits;
  names_are = h.names_are ∙ sym (names_listed-append said (l ∷ []) ∙ ap (λ (ns : List (List ℕ)). names_listed said ++ ns) is.no_name ∙ append-nil (names_listed said));
  distinct = h.distinct;
  few = h.few;
  completed = cut;
}
  where
    cut : (ts : List Tree) → length ts ≡ suc (suc (length bs)) → (t : Tree) × IsCompletedBy (said ++ l ∷ []) tiles (first ∷ second ∷ bs) ts t
    cut [] e = absurd (omega arith)
    cut (s ∷ []) e = absurd (omega arith)
    cut (s ∷ t ∷ us) e =
        let whole = h.completed (by s t ∷ us) (omega arith) in (
          whole.0,
          record {
            lines_are = whole.1.lines_are ∙ ap (λ (ls : List TreeLine). said ++ (ls ++ flat_map tree_lines us)) (is.lines s t)
                ∙ regrouped said l (tree_lines s) (tree_lines t) (flat_map tree_lines us);
            tiles_are = whole.1.tiles_are ∙ ap (λ (rs : List Box4). tiles ++ (rs ++ tiles_in bs us)) (is.tiles s t)
                ∙ shared tiles (rectangles s first) (rectangles t second) (tiles_in bs us);
          },
        )

-- a cut by a line of one x
pub begun_x : (said : List TreeLine) (names : List (List ℕ)) (tiles : List Box4) (b : Box4) (bs : List Box4) (c : ℤ) → IsInRange c → IsPlanBegun said names tiles (b ∷ bs)
    → IsPlanBegun (said ++ x_line c ∷ []) names tiles (west_of b c ∷ east_of b c ∷ bs)
begun_x said names tiles b bs c range h =
    begun_cut said names tiles bs (x_line c) (by_x c) b (west_of b c) (east_of b c) (record { fits = range; no_name = refl; lines = λ s t. refl; tiles = λ s t. refl }) h

-- a cut by a line of one y
pub begun_y : (said : List TreeLine) (names : List (List ℕ)) (tiles : List Box4) (b : Box4) (bs : List Box4) (c : ℤ) → IsInRange c → IsPlanBegun said names tiles (b ∷ bs)
    → IsPlanBegun (said ++ y_line c ∷ []) names tiles (south_of b c ∷ north_of b c ∷ bs)
begun_y said names tiles b bs c range h =
    begun_cut said names tiles bs (y_line c) (by_y c) b (south_of b c) (north_of b c) (record { fits = range; no_name = refl; lines = λ s t. refl; tiles = λ s t. refl }) h

-- a region
pub begun_region : (said : List TreeLine) (names : List (List ℕ)) (tiles : List Box4) (b : Box4) (bs : List Box4) (name : List ℕ) → is_region_name name ≡ true → list_any (bytes_eq name) names ≡ false
    → length names < most_regions → IsPlanBegun said names tiles (b ∷ bs) → IsPlanBegun (said ++ region_line name ∷ []) (names ++ name ∷ []) (tiles ++ b ∷ []) bs
begun_region said names tiles b bs name named new room h = record {
  fits = fits_more said (region_line name) h.fits named;
  names_are = ap (λ (ns : List (List ℕ)). ns ++ name ∷ []) h.names_are ∙ sym (names_listed-append said (region_line name ∷ []));
  distinct = IsDistinct-push nat_list_eq_equiv names name h.distinct new;
  few = omega (arith, length-append names (name ∷ []));
  completed = λ ts e.
      let whole = h.completed (folder name ∷ ts) (omega arith) in (
        whole.0,
        record {
          lines_are = whole.1.lines_are ∙ sym (append_assoc said (region_line name ∷ []) (flat_map tree_lines ts));
          tiles_are = whole.1.tiles_are ∙ sym (append_assoc tiles (b ∷ []) (tiles_in bs ts));
        },
      );
}

abbrev parts_of : List (List ℕ) → List Box4 → PlanParts
parts_of ns bs = record { names = ns; tiles = bs }

-- nothing is owed
pub begun_end : (said : List TreeLine) (names : List (List ℕ)) (tiles : List Box4) → IsPlanBegun said names tiles [] → (t : Tree) × (tree_lines t ≡ said) × IsPlanOf t (parts_of names tiles)
begun_end said names tiles h =
    let whole = h.completed [] refl in
    let lines : tree_lines whole.0 ≡ said = whole.1.lines_are ∙ append-nil said in
    let same : names ≡ folders whole.0 = h.names_are ∙ ap names_listed (sym lines) ∙ sym (folders_said whole.0) in (
      whole.0,
      lines,
      record {
        fits = record {
          lines = subst (λ (ls : List TreeLine). AllByRecursion TreeLineFits ls) (sym lines) h.fits;
          distinct = subst (λ (ns : List (List ℕ)). IsDistinct bytes_eq ns) same h.distinct;
          few = subst (λ (ns : List (List ℕ)). length ns ≤ most_regions) same h.few;
        };
        names = same;
        tiles = sym (whole.1.tiles_are ∙ append-nil tiles);
      },
    )
