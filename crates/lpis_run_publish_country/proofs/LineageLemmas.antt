-- How the lineage tables of a country are read, one after the other.
use Rattle.std.proofs.Common.{◌≡◌, ◌<◌, ◌≤◌, ◌∙◌, ◌++◌, ◌∷◌, ◌+◌, [], refl, sym, ap, ap₂, subst, ℕ, List, Option, Result, Ok, Err, drop, get_or, length, map, take, arith}
use Rattle.std.proofs.lemmas.Grind.{flat_map-append}
use Rattle.std.proofs.lemmas.List.{append-nil, drop_more, length-map, map-append, take-append-drop, take_all, take_more}
use Rattle.std.specs.List.{AllZip}
use Rattle.lpis_lineage.specs.declared.row.Row.{Row}
use Rattle.lpis_lineage.specs.LineageTable.{lineage_table}
use Rattle.lpis_tables.specs.declared.fault.TableFault.{TableFault}
use Rattle.lpis_tables.specs.Faults.{rows_of}
use Rattle.lpis_run.proofs.Shared.{refused-more}
use Rattle.lpis_run.specs.CheckAnswer.{Answer, IsTableAnswer}
use Rattle.lpis_run.specs.Refusals.{line_in_region}
use Rattle.lpis_run.specs.Stops.{IsInRegion, IsRefusedAs}
use Rattle.lpis_run.specs.Streams.{IsRead}
use Rattle.lpis_run.specs.declared.stop.Stop.{Stop}
use Rattle.lpis_run.specs.declared.stop.Stop.TheVariants.{Memory, Refused}
use Rattle.lpis_run.specs.declared.failure.Failure.{Failure}
use Rattle.lpis_run_publish_country.specs.CountryLineage.{IsTableOf, IsTableRefused, IsUnreadTable, rows_in}
use Rattle.lpis_run_publish_country.specs.declared.lineage.CountryLineage.{CountryLineage}
use Rattle.lpis_run_publish_country.specs.declared.unprepared.Unprepared.{Unprepared}
use Rattle.lpis_run_publish_country.specs.declared.unprepared.Unprepared.TheVariants.{Failed, Refused as Answered}
use Rattle.lpis_run_publish_country.specs.private.Preparing.{AddsTable, AreRowsOf, AreTablesRefused, AreTablesUnread, HasTables, IsTableAdded, IsTableRefusal}
use Rattle.lpis_run_publish_country.specs.private.Unprepared.{IsUnprepared}

-- ---- lists read side by side
one-more : {A B : Type 0} (R : A → B → Type 0) (xs : List A) (ys : List B) (x : A) (y : B) → R x y → AllZip R xs ys → AllZip R (xs ++ x ∷ []) (ys ++ y ∷ [])
one-more R [] [] x y r z = (r, tt)
one-more R (a ∷ xs) (b ∷ ys) x y r z = (z.0, one-more R xs ys x y r z.1)
one-more R [] (b ∷ ys) x y r z = absurd z
one-more R (a ∷ xs) [] x y r z = absurd z

split-here : (names : List (List ℕ)) (n : ℕ) (name : List ℕ) → n < length names → name ≡ get_or names n [] → names ≡ take n names ++ name ∷ drop (n + 1) names
split-here names n name lt is = sym (take-append-drop n names)
    ∙ ap (λ (l : List (List ℕ)). take n names ++ l) (drop_more names n [] lt ∙ ap (λ (x : List ℕ). x ∷ drop (n + 1) names) (sym is))

-- over a list that stayed as it was the next index and its name are those of the whole
pub next_name : {A : Type 0} (bytes : A → List ℕ) (xs ys : List A) (n : ℕ) → xs ≡ ys → n < length ys → (n < length (map bytes ys)) × (get_or (map bytes xs) n [] ≡ get_or (map bytes ys) n [])
next_name {A = A} bytes xs ys n same lt = (omega (arith, length-map ys bytes, lt), ap (λ (l : List A). get_or (map bytes l) n []) same)

-- ---- the tables
-- before the first table
pub no_table : (told : List ℕ → Option (List ℕ)) (names : List (List ℕ)) (l : CountryLineage) → HasTables l [] → AreRowsOf told (take 0 names) l
no_table told names l has = ([], tt, has)

tables-grow : (tables : List (List Row)) (rows : List Row) (old new : CountryLineage) → HasTables old tables → AddsTable old new rows → HasTables new (tables ++ rows ∷ [])
tables-grow tables rows old new has adds = record {
  rows_are = adds.rows_are ∙ ap (λ (l : List Row). l ++ rows) has.rows_are
      ∙ sym (flat_map-append (λ (l : List Row). l) tables (rows ∷ []) ∙ ap (λ (l : List Row). rows_in tables ++ l) (append-nil rows));
  counts_are = adds.counts_are ∙ ap (λ (l : List ℕ). l ++ length rows ∷ []) has.counts_are ∙ sym (map-append (λ (l : List Row). length l) tables (rows ∷ []));
}

-- a table more
pub goes_on : (told : List ℕ → Option (List ℕ)) (names : List (List ℕ)) (n : ℕ) (name : List ℕ) (old new : CountryLineage) → n < length names → name ≡ get_or names n []
    → AreRowsOf told (take n names) old → IsTableAdded told name old new → AreRowsOf told (take (n + 1) names) new
goes_on told names n name old new lt is (tables, zip, has) (rows, of, adds) = (
  tables ++ rows ∷ [],
  subst (λ (l : List (List ℕ)). AllZip (IsTableOf told) l (tables ++ rows ∷ [])) (ap (λ (x : List ℕ). take n names ++ x ∷ []) is ∙ sym (take_more names n [] lt))
      (one-more (IsTableOf told) (take n names) tables name rows of zip),
  tables-grow tables rows old new has adds,
)

-- the line of the first fault of a table, with its region
faulty-table : (name table : List ℕ) (said : Result (List Row) TableFault) (a : Answer) → rows_of lineage_table table ≡ said → IsTableAnswer (λ rows b. ⊥) said a
    → IsTableRefusal name table (line_in_region a.0 name, a.1)
faulty-table name table (Ok rows) a said never = absurd never
faulty-table name table (Err fault) a said is = (fault, said, ap (λ (b : Answer). (line_in_region b.0 name, b.1)) is)

-- the line of a table's fault, with the region behind it, refuses the table
pub refused_with : (name table : List ℕ) (stop told : Stop) → IsRefusedAs (IsTableAnswer (λ rows c. ⊥) (rows_of lineage_table table)) stop → IsInRegion stop name told
    → IsRefusedAs (IsTableRefusal name table) told
refused_with name table stop Memory may is = tt
refused_with name table Memory (Refused b) may is = absurd is
refused_with name table (Refused a) (Refused b) may is =
    subst (IsTableRefusal name table) (sym (ap₂ (λ (t : List ℕ) (k : ℕ). (t, k)) is.0 is.1)) (faulty-table name table (rows_of lineage_table table) (a.text.items, a.status) refl may)

-- what its bytes say refuses the table of a folder
refused-in : (told : List ℕ → Option (List ℕ)) (name table : List ℕ) → IsRead table (told name) → (a : Answer) → IsTableRefusal name table a → IsTableRefused told name a
refused-in told name table read a (fault, faulty, text) = (table, read, fault, faulty, text)

-- so does what they say of the same folder, or memory ran out
pub table_refused : (told : List ℕ → Option (List ℕ)) (name other table : List ℕ) (stop : Stop) → other ≡ name → IsRead table (told name) → IsRefusedAs (IsTableRefusal other table) stop
    → IsRefusedAs (IsTableRefused told name) stop
table_refused told name other table stop is read may =
    refused-more (IsTableRefusal name table) (IsTableRefused told name) stop (refused-in told name table read) (subst (λ (k : List ℕ). IsRefusedAs (IsTableRefusal k table) stop) is may)

-- the next table is refused
is-refused : (told : List ℕ → Option (List ℕ)) (names : List (List ℕ)) (n : ℕ) (name : List ℕ) (old : CountryLineage) (a : Answer) → n < length names → name ≡ get_or names n []
    → AreRowsOf told (take n names) old → IsTableRefused told name a → AreTablesRefused told names a
is-refused told names n name old a lt is (tables, zip, has) refused =
    record { passed = take n names; name = name; left = drop (n + 1) names; all = split-here names n name lt is; tables = tables; of_passed = zip; is = refused }

-- or it is not read
is-unread : (told : List ℕ → Option (List ℕ)) (names : List (List ℕ)) (n : ℕ) (name : List ℕ) (old : CountryLineage) (f : Failure) → n < length names → name ≡ get_or names n []
    → AreRowsOf told (take n names) old → IsUnreadTable name f → AreTablesUnread told names f
is-unread told names n name old f lt is (tables, zip, has) unread =
    record { passed = take n names; name = name; left = drop (n + 1) names; all = split-here names n name lt is; tables = tables; of_passed = zip; is = unread }

-- where the next table gives no rows, neither do they all
pub is_unprepared : (told : List ℕ → Option (List ℕ)) (names : List (List ℕ)) (n : ℕ) (name : List ℕ) (old : CountryLineage) (e : Unprepared) → n < length names → name ≡ get_or names n []
    → AreRowsOf told (take n names) old → IsUnprepared (IsUnreadTable name) (IsTableRefused told name) e → IsUnprepared (AreTablesUnread told names) (AreTablesRefused told names) e
is_unprepared told names n name old (Failed f) lt is are unread = is-unread told names n name old f lt is are unread
is_unprepared told names n name old (Answered a) lt is are refused = is-refused told names n name old (a.text.items, a.status) lt is are refused

-- where as many tables were read as there are folders, they are those of all folders
pub all_read : (told : List ℕ → Option (List ℕ)) (names : List (List ℕ)) (n : ℕ) (l : CountryLineage) → length names ≤ n → AreRowsOf told (take n names) l → AreRowsOf told names l
all_read told names n l past h = subst (λ (ks : List (List ℕ)). AreRowsOf told ks l) (take_all n names past) h
