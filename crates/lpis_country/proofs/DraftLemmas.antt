-- What the code keeps, step by step.
use Rattle.std.proofs.Common.{◌≡◌, ℕ, zero, suc, ◌<◌, Bool, true, false, cond, ◌||◌, ℤ, List, [], ◌∷◌, ◌++◌, length, Option, Some, None, Result, Ok, Err, IfOk, IfSome}
use Rattle.std.proofs.Common.{refl, sym, ◌∙◌}
use Rattle.std.proofs.lemmas.List.Folds.{list_any-append}
use Rattle.std.specs.Cmp.Lexicographic.{nat_list_eq_equiv}
use Rattle.std.specs.List.{list_any}
use Rattle.std.specs.Str.{bytes_eq}
use Rattle.lpis_points.specs.declared.boxes.Box4.{Box4}
use Rattle.lpis_country.specs.Tiling.{frame}
use Rattle.lpis_country.specs.Limits.{most_regions}
use Rattle.lpis_country.specs.declared.draft.Draft.{Draft}
use Rattle.lpis_country.specs.declared.line.Line.{Line}
use Rattle.lpis_country.specs.declared.line.Line.TheVariants.{X, Y}
use Rattle.lpis_country.specs.CountryText.{TreeLine, region_line, TreeLineFits}
use Rattle.lpis_country.specs.Faults.{Owing, owing_after, where_owed}
unfoldable use Rattle.lpis_country.specs.Faults.{tree_line, owing_with}
use Rattle.lpis_country.specs.private.Begun.{IsPlanBegun, west_of, east_of, south_of, north_of}
use Rattle.lpis_country.specs.private.Drafts.{IsDraftOf, IsDraftWith}
use Rattle.lpis_country.specs.private.Lines.{line_read}
use Rattle.lpis_country.proofs.LineLemmas.{line_takes}
use Rattle.lpis_country.proofs.BegunLemmas.{begun_first, begun_x, begun_y, begun_region}

-- ---- names

-- after a name is added, a name is known exactly where it is that one or was known before
pub known_with : (q name : List ℕ) (list : List (List ℕ)) (before after : Bool) → before ≡ list_any (bytes_eq q) list → after ≡ cond (bytes_eq name q) true before
    → after ≡ list_any (bytes_eq q) (list ++ name ∷ [])
known_with q name list before after known now =
    now ∙ joined (bytes_eq name q) (bytes_eq q name) before (list_any (bytes_eq q) list) (nat_list_eq_equiv.symm name q) known ∙ sym (list_any-append (bytes_eq q) list (name ∷ []))
  where
    joined : (a b c d : Bool) → a ≡ b → c ≡ d → cond a true c ≡ (d || (b || false))
    joined true b c true e f = refl
    joined true true c false e f = refl
    joined true false c false e f = absurd cc
    joined false true c d e f = absurd cc
    joined false false true true e f = refl
    joined false false false false e f = refl
    joined false false true false e f = absurd cc
    joined false false false true e f = absurd cc

-- ---- one line more

-- a plan of no lines is begun with no names, no tiles and the frame as its one room
pub begun_new : (names : List (List ℕ)) (tiles rooms : List Box4) (b : Box4) → names ≡ [] → tiles ≡ [] → b ≡ frame → rooms ≡ b ∷ [] → IsPlanBegun [] names tiles rooms
begun_new names tiles rooms b n t f r = rw (n, t, r, f) begun_first

-- a draft whose next room is cut by a line of one x, into west and east, has read that line
pub cut_by_x : (said : List TreeLine) (line : Line) (x : ℤ) (old new : Draft) (b w e : Box4) (rest : List Box4) → line ≡ X x → TreeLineFits (line_read line) → IsDraftOf said old
    → old.rooms ≡ b ∷ rest → new.names ≡ old.names → new.tiles.items ≡ old.tiles.items → new.rooms ≡ w ∷ e ∷ rest → w ≡ west_of b x → e ≡ east_of b x
    → IsDraftOf (said ++ line_read line ∷ []) new
cut_by_x said line x old new b w e rest is fits begun room names tiles rooms west east =
    rw (is, names, tiles, rooms, west, east) (begun_x said old.names old.tiles.items b rest x (rw is at fits) (rw room at begun))

-- a draft whose next room is cut by a line of one y, into south and north, has read that line
pub cut_by_y : (said : List TreeLine) (line : Line) (y : ℤ) (old new : Draft) (b s n : Box4) (rest : List Box4) → line ≡ Y y → TreeLineFits (line_read line) → IsDraftOf said old
    → old.rooms ≡ b ∷ rest → new.names ≡ old.names → new.tiles.items ≡ old.tiles.items → new.rooms ≡ s ∷ n ∷ rest → s ≡ south_of b y → n ≡ north_of b y
    → IsDraftOf (said ++ line_read line ∷ []) new
cut_by_y said line y old new b s n rest is fits begun room names tiles rooms south north =
    rw (is, names, tiles, rooms, south, north) (begun_y said old.names old.tiles.items b rest y (rw is at fits) (rw room at begun))

-- a draft whose next room became the tile of a region, of a new name and not one too many, has read its line
pub region_more : (said : List TreeLine) (line : Line) (name : List ℕ) (old new : Draft) (b : Box4) (rest : List Box4)
    → line_read line ≡ region_line name → TreeLineFits (line_read line) → IsDraftOf said old
    → old.rooms ≡ b ∷ rest → list_any (bytes_eq name) old.names ≡ false → length old.names < most_regions → new.names ≡ old.names ++ name ∷ []
    → new.tiles.items ≡ old.tiles.items ++ b ∷ [] → new.rooms ≡ rest → IsDraftOf (said ++ line_read line ∷ []) new
region_more said line name old new b rest is fits begun room other few names tiles rooms =
    rw (is, names, tiles, rooms) (begun_region said old.names old.tiles.items b rest name (rw is at fits) other few (rw room at begun))

-- ---- from what a line says to its bytes

-- a text that is no line of a tree can't stand, whatever is owed
pub owing_none : (o : Owing) (w : List ℕ) → tree_line w ≡ None → owing_with o w ≡ None
unfolding owing_with
owing_none o w e = rw e (by o.owed)
  where
    by : (k : ℕ) → where_owed k None ≡ None
    by zero = refl
    by (suc k) = refl

-- a line of a tree leaves owed what a line of its kind does, where a part was owed, and can't stand elsewhere
pub owing_some : (o : Owing) (w : List ℕ) (l : TreeLine) → tree_line w ≡ Some l → owing_with o w ≡ where_owed o.owed (owing_after o l)
unfolding owing_with
owing_some o w l e = rw e refl

-- a draft that has read what a line says has read the bytes of the line
pub begun_more : {E : Type 0} (r : Result (Option Draft) E) (old : Draft) (w : List ℕ) (l : TreeLine) → tree_line w ≡ Some l
    → IfOk r (λ o. IfSome o (λ d. (said : List TreeLine) → TreeLineFits l → IsDraftOf said old → IsDraftOf (said ++ l ∷ []) d)) → IfOk r (λ o. IfSome o (λ d. IsDraftWith old w d))
begun_more (Err e) old w l is h = tt
begun_more (Ok None) old w l is h = tt
begun_more (Ok (Some d)) old w l is h = λ said begun. let t = line_takes w l is in (l, t.0, h said t.1 begun)
