-- Byte order marks and columns, a step at a time.
use Rattle.std.proofs.Common.{◌≡◌, ◌+◌, ◌-◌, ◌<◌, ◌≤◌, ℕ, zero, suc, List, [], ◌∷◌, ◌++◌, length, map, take, drop, get_or, Option, Some, None, Result, Ok, Err, true, false, refl, ap, arith, ◌∙◌, Bool}
use Rattle.std.proofs.Common.{add-one, Bor, IsTrue, ◌↔◌, append_assoc, unwrap_or, option_map, option_to_list, is_some}
use Rattle.lpis_tables.proofs.Common.{strip_bom, after_places, field_at_place, flat, has_mark, one_place, picked, places_of, texts}
use Rattle.std.specs.Str.{str_eq_ignore_ascii_case}
use Rattle.std.specs.Char.{to_ascii_lowercase}
use Rattle.csv.specs.Records.{field_at}
use Rattle.std.proofs.lemmas.Bool.Decides.{same_from_decides}
use Rattle.std.proofs.lemmas.Slice.Eq.{bytes_eq-Decides}
use Rattle.std.proofs.Math.Seq.{drop-cons}
use Rattle.std.proofs.lemmas.List.{append-nil, take_all, drop_all}
use Rattle.lpis_tables.specs.declared.fault.TableCode.{TableCode}
use Rattle.lpis_tables.specs.declared.fault.TableCode.TheVariants.{DoubledColumn}
use Rattle.lpis_tables.specs.Table.{and_then, indices_of_name, place_of}

-- of a text that starts with a byte order mark, all bytes but the first three are the text without its mark
pub with-mark : (xs : List ℕ) → has_mark xs ≡ true → take (length xs - 3) (drop 3 xs) ≡ strip_bom xs
unfolding strip_bom
with-mark (a ∷ b ∷ c ∷ rest) h =
    let len : length (a ∷ b ∷ c ∷ rest) - 3 ≡ length rest = omega arith in
    rw (h, len) (take_all (length rest) rest (omega arith))
with-mark _ h = cc h

-- a text that starts with no byte order mark is left as it is where a mark is taken off
pub without-mark : (xs : List ℕ) → has_mark xs ≡ false → xs ≡ strip_bom xs
unfolding strip_bom
without-mark (a ∷ b ∷ c ∷ rest) h = rw h refl
without-mark _ _ = refl

-- the fields from an index on
drop-field : (fs : List (List ℕ)) (i : ℕ) (f : List ℕ) → Some f ≡ field_at fs i → drop i fs ≡ f ∷ drop (i + 1) fs
unfolding field_at
drop-field (g ∷ gs) (suc i) f e = let n : suc i + 1 ≡ suc (i + 1) = omega arith in rw n (drop-field gs i f e)
drop-field _ _ f e = cc e

-- where no field stands at an index, there are no more fields than the index
pub no-field : (fs : List (List ℕ)) (i : ℕ) → ◌≡◌ {A = Option (List ℕ)} None (field_at fs i) → length fs ≤ i
unfolding field_at
no-field [] i e = omega arith
no-field (g ∷ gs) zero e = cc e
no-field (g ∷ gs) (suc i) e = let m = no-field gs i e in omega (arith, m)

-- the field at an index, empty where there is none
pub field-or : (fs : List (List ℕ)) (i : ℕ) (o : Option (Bor (List ℕ))) (d : Bor (List ℕ)) → d.now ≡ [] → option_map (λ (s : Bor (List ℕ)). s.now) o ≡ field_at fs i
    → (unwrap_or o d).now ≡ get_or fs i []
unfolding field_at
field-or [] i None d z e = z
field-or (g ∷ gs) zero (Some x) d z e = cc e
field-or (g ∷ gs) (suc i) o d z e = field-or gs i o d z e
field-or _ _ _ d z e = cc e

-- a test of two names says what the definition does
same-name : (f name : List ℕ) (test : Bool) → IsTrue test ↔ (map to_ascii_lowercase f ≡ map to_ascii_lowercase name) → str_eq_ignore_ascii_case f name ≡ test
same-name f name true says = same_from_decides _ true (bytes_eq-Decides _ _) ((λ e. says.0 refl), (λ p. refl))
same-name f name false says = same_from_decides _ false (bytes_eq-Decides _ _) ((λ e. cc e), (λ p. cc (says.1 p)))

-- the indices of a name, one field further
pub step-named : (name : List ℕ) (i : ℕ) (fs : List (List ℕ)) (f : List ℕ) (test : Bool)
    → Some f ≡ field_at fs i → IsTrue test ↔ (map to_ascii_lowercase f ≡ map to_ascii_lowercase name) → test ≡ true
    → indices_of_name name i (drop i fs) ≡ i ∷ indices_of_name name (i + 1) (drop (i + 1) fs)
unfolding indices_of_name
step-named name i fs f test at says t = rw (drop-field fs i f at, same-name f name test says ∙ t) refl

-- where the field at an index has another name, the indices of the name are those from the next index on
pub step-other : (name : List ℕ) (i : ℕ) (fs : List (List ℕ)) (f : List ℕ) (test : Bool)
    → Some f ≡ field_at fs i → IsTrue test ↔ (map to_ascii_lowercase f ≡ map to_ascii_lowercase name) → test ≡ false
    → indices_of_name name i (drop i fs) ≡ indices_of_name name (i + 1) (drop (i + 1) fs)
unfolding indices_of_name
step-other name i fs f test at says t = rw (drop-field fs i f at, same-name f name test says ∙ t) refl

-- a second field of the name
pub index-twice : (needed : Bool) (found : Option ℕ) (i : ℕ) (more : List ℕ) → is_some found ≡ true → one_place needed (option_to_list found ++ i ∷ more) ≡ Err DoubledColumn
index-twice needed None i more e = cc e
index-twice needed (Some p) i more e = refl

-- where none was found before, the index of a field of the name stands first, as the one found
pub index-first : (found : Option ℕ) (i : ℕ) (more : List ℕ) → is_some found ≡ false → option_to_list (Some i) ++ more ≡ option_to_list found ++ i ∷ more
index-first None i more e = refl
index-first (Some p) i more e = cc e

-- past the last field, the place of a column is that of the field found so far
pub index-end : (needed : Bool) (name : List ℕ) (i : ℕ) (found : Option ℕ) (fs : List (List ℕ)) (r : Result (Option ℕ) TableCode) → length fs ≤ i
    → r ≡ one_place needed (option_to_list found) → r ≡ one_place needed (option_to_list found ++ indices_of_name name i (drop i fs))
unfolding indices_of_name
index-end needed name i found fs r h e = rw (drop_all i fs h, append-nil (option_to_list found)) e

-- the places found so far, and the rest of them
texts-drop : (names : List (Bor (List ℕ))) (i : ℕ) (d : Bor (List ℕ)) → i < length names → texts (drop i names) ≡ (get_or names i d).now ∷ texts (drop (i + 1) names)
texts-drop names i d h = rw (add-one, drop-cons names i d) refl

after-step : (front : List (Option ℕ)) (p : Option ℕ) (more : Result (List (Option ℕ)) TableCode)
    → after_places (front ++ (p ∷ [])) more ≡ after_places front (and_then more (λ places. Ok (p ∷ places)))
after-step front p (Ok ps) = ap Ok (append_assoc front (p ∷ []) ps)
after-step front p (Err e) = refl

-- with the place of the next column behind those found so far, the places of all columns are the same
pub places-more : (needed : Bool) (names : List (Bor (List ℕ))) (i : ℕ) (d : Bor (List ℕ)) (header : List (List ℕ)) (front : List (Option ℕ)) (p : Option ℕ) → i < length names
    → place_of needed header (get_or names i d).now ≡ Ok p
    → after_places (front ++ (p ∷ [])) (places_of needed header (texts (drop (i + 1) names))) ≡ after_places front (places_of needed header (texts (drop i names)))
unfolding places_of
places-more needed names i d header front p h e = rw (texts-drop names i d h, e) (after-step front p _)

-- the fault of the next column is the fault of all columns from there on
pub places-bad : (needed : Bool) (names : List (Bor (List ℕ))) (i : ℕ) (d : Bor (List ℕ)) (header : List (List ℕ)) (front : List (Option ℕ)) (e : TableCode) → i < length names
    → place_of needed header (get_or names i d).now ≡ Err e
    → after_places front (places_of needed header (texts (drop i names))) ≡ Err e
unfolding places_of
places-bad needed names i d header front e h is = rw (texts-drop names i d h, is) refl

-- past the last column, the places are those found so far
pub places-end : (needed : Bool) (names : List (Bor (List ℕ))) (i : ℕ) (header : List (List ℕ)) (front : List (Option ℕ)) → length names ≤ i
    → after_places front (places_of needed header (texts (drop i names))) ≡ Ok front
unfolding places_of
places-end needed names i header front h = rw (drop_all i names h, append-nil front) refl

-- what is said of all places, whatever stands before them
pub after-bad : (front : List (Option ℕ)) (said : Result (List (Option ℕ)) TableCode) (e : TableCode) → after_places front said ≡ Err e → said ≡ Err e
after-bad front (Ok ps) e h = cc h
after-bad front (Err f) e h = cc h

-- one more field picked
pub picked-more : (front : List (List ℕ)) (places : List (Option ℕ)) (i : ℕ) (d : Option ℕ) (fields : List (List ℕ)) → i < length places
    → (front ++ (unwrap_or (field_at_place fields (get_or places i d)) [] ∷ [])) ++ flat (picked (drop (i + 1) places) fields) ≡ front ++ flat (picked (drop i places) fields)
picked-more front places i d fields h = rw (add-one, drop-cons places i d, append_assoc) refl
