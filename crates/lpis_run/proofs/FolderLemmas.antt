-- Files that are read one after the other, of which one may be left out.
use Rattle.std.proofs.Common.{◌≡◌, ◌≢◌, ◌≤◌, ◌∙◌, ◌++◌, ◌∷◌, [], ap, sym, inl, inr, length, refl, is_some, ℕ, List, Option, None, Some, IfSome, arith}
use Rattle.lpis_run.specs.Failures.{AreUnread, AreUntouched, IsUnread}
use Rattle.lpis_run.specs.CheckAnswer.{AreRead, AreTablesRead, Inputs}
use Rattle.lpis_run.specs.Folders.{cert_named, folder_named, tables_named}
use Rattle.lpis_run.specs.Streams.{IsRead, IsReadIfAny, Known, most_bytes}
use Rattle.lpis_run.specs.declared.failure.Failure.{Failure}
use Rattle.lpis_run.specs.declared.failure.Failure.TheVariants.{Memory, Read}
use Rattle.lpis_run.specs.declared.failure.Name.{Name}
use Rattle.lpis_run.specs.declared.failure.Name.TheVariants.{Cert, Classes, Covers, Parcels}
use Rattle.lpis_run.specs.declared.folder.Folder.{Folder}
use Rattle.lpis_run.specs.declared.folder.Tables.{Tables}

-- ---- what was not read
-- one of these inputs was not read, and others are behind them
pub unread_first : (files more : List (Name × Known)) (f : Failure) → AreUnread files f → AreUnread (files ++ more) f
unread_first [] more f never = absurd never
unread_first (file ∷ files) more f (inl unread) = inl unread
unread_first (file ∷ files) more f (inr (within, unread)) = inr (within, unread_first files more f unread)

-- these are within the limit, as far as they are known
abbrev pub AreWithin : List (Name × Known) → Type 0
AreWithin [] = Unit {0}
AreWithin (file ∷ files) = IfSome file.1 (λ bytes. length bytes ≤ most_bytes) × AreWithin files

-- one behind them was not read
pub unread_behind : (files more : List (Name × Known)) (f : Failure) → AreWithin files → AreUnread more f → AreUnread (files ++ more) f
unread_behind [] more f within unread = unread
unread_behind (file ∷ files) more f within unread = inr (within.0, unread_behind files more f within.1 unread)

-- what was read is within the limit
pub read_within : (input : List ℕ) (told : Known) → IsRead input told → IfSome told (λ bytes. length bytes ≤ most_bytes)
read_within input None read = tt
read_within input (Some bytes) read = omega (arith, read.0, ap length read.1)

-- ---- the readers behind it
module _ {R : Type 0} where
  -- as they were
  pub untouched_same : (files : List (Name × R)) (f : Failure) → AreUntouched files files f
  untouched_same [] f = tt
  untouched_same (file ∷ files) f = (λ is. refl, untouched_same files f)

  -- so are others behind them
  pub untouched_first : (old new more : List (Name × R)) (f : Failure) → AreUntouched old new f → AreUntouched (old ++ more) (new ++ more) f
  untouched_first [] [] more f h = untouched_same more f
  untouched_first [] (y ∷ ys) more f h = absurd h
  untouched_first (x ∷ xs) [] more f h = absurd h
  untouched_first (x ∷ xs) (y ∷ ys) more f h = (λ is. ap (λ (files : List (Name × R)). files ++ more) (h.0 is), untouched_first xs ys more f h.1)

  -- the failure names none of these
  abbrev pub NamesNoneOf : List (Name × R) → Failure → Type 0
  NamesNoneOf [] f = Unit {0}
  NamesNoneOf (file ∷ files) f = (f ≡ Read file.0 → ⊥) × NamesNoneOf files f

  -- which were read before
  pub untouched_behind : (old new more after : List (Name × R)) (f : Failure) → length old ≡ length new → NamesNoneOf old f → AreUntouched more after f → AreUntouched (old ++ more) (new ++ after) f
  untouched_behind [] [] more after f same none h = h
  untouched_behind [] (y ∷ ys) more after f same none h = absurd (omega (arith, same))
  untouched_behind (x ∷ xs) [] more after f same none h = absurd (omega (arith, same))
  untouched_behind (x ∷ xs) (y ∷ ys) more after f same none h = (λ is. absurd (none.0 is), untouched_behind xs ys more after f (omega (arith, same)) none.1 h)

  -- nothing is behind the certificate
  pub cert_last : (old new : Option R) (f : Failure) → is_some new ≡ is_some old → AreUntouched (cert_named old) (cert_named new) f
  cert_last None None f same = tt
  cert_last None (Some b) f same = absurd (cc same)
  cert_last (Some a) None f same = absurd (cc same)
  cert_last (Some a) (Some b) f same = (λ is. refl, tt)

-- ---- the files of a release
-- where the certificate was not read, the tables were
pub cert_names_none : {R : Type 0} (told : Option Known) (t : Tables R) (f : Failure) → AreUnread (cert_named told) f → NamesNoneOf (tables_named t) f
cert_names_none None t f never = absurd never
cert_names_none (Some told) t f (inl (inl memory)) = (λ is. cc (memory, is), (λ is. cc (memory, is), (λ is. cc (memory, is), tt)))
cert_names_none (Some told) t f (inl (inr read)) = (λ is. cc (read, is), (λ is. cc (read, is), (λ is. cc (read, is), tt)))
cert_names_none (Some told) t f (inr (within, never)) = absurd never

-- tables that were read are within the limit
pub tables_within : (x : Tables (List ℕ)) (given : Tables Known) → AreTablesRead x given → AreWithin (tables_named given)
tables_within x given read =
    (read_within x.parcels given.parcels read.0, (read_within x.covers given.covers read.1, (read_within x.classes given.classes read.2, tt)))

cert_within : (x : Option (List ℕ)) (given : Option Known) → IsReadIfAny x given → AreWithin (cert_named given)
cert_within None None read = tt
cert_within None (Some told) read = absurd read
cert_within (Some text) None read = absurd read
cert_within (Some text) (Some told) read = (read_within text told read, tt)

all_within : (files more : List (Name × Known)) → AreWithin files → AreWithin more → AreWithin (files ++ more)
all_within [] more within also = also
all_within (file ∷ files) more within also = (within.0, all_within files more within.1 also)

-- so it is of the tables and the certificate
pub folder_within : (x : Inputs) (given : Folder Known) → AreRead x given → AreWithin (folder_named given)
folder_within x given read =
    all_within (tables_named given.tables) (cert_named given.cert) (tables_within x.tables given.tables read.0) (cert_within x.cert given.cert read.1)

-- their readers are as many as before
pub folder_as_many : {R : Type 0} (old new : Folder R) → is_some new.cert ≡ is_some old.cert → length (folder_named old) ≡ length (folder_named new)
folder_as_many {R = R} old new same = as-many old.cert new.cert same
  where
    as-many : (before after : Option R) → is_some after ≡ is_some before → length (tables_named old.tables ++ cert_named before) ≡ length (tables_named new.tables ++ cert_named after)
    as-many None None e = refl
    as-many None (Some b) e = absurd (cc e)
    as-many (Some a) None e = absurd (cc e)
    as-many (Some a) (Some b) e = refl

-- a file behind them was not read, and they were
pub folder_names_none : {R : Type 0} (folder : Folder R) (name : Name) (f : Failure) → IsUnread name f → (Read name ≢ Read Parcels) × (Read name ≢ Read Covers) × (Read name ≢ Read Classes)
    × (Read name ≢ Read Cert) → NamesNoneOf (folder_named folder) f
folder_names_none {R = R} folder name f unread others = at folder.cert
  where
    none-of : (other : Name) → (Read name ≢ Read other) → f ≡ Read other → ⊥
    none-of other apart is = elim unread [ inl memory ↦ cc (memory, is) | inr read ↦ apart (sym read ∙ is) ]

    at : (cert : Option R) → NamesNoneOf (tables_named folder.tables ++ cert_named cert) f
    at None = (none-of Parcels others.0, (none-of Covers others.1, (none-of Classes others.2, tt)))
    at (Some c) = (none-of Parcels others.0, (none-of Covers others.1, (none-of Classes others.2, (none-of Cert others.3, tt))))

-- ---- reading them
module _ {R : Type 0} (old : Folder R) where
  -- a table was not read
  pub tables_untouched : (tables : Tables R) (f : Failure) → AreUntouched (tables_named old.tables) (tables_named tables) f
      → AreUntouched (folder_named old) (folder_named (record { tables = tables; cert = old.cert })) f
  tables_untouched tables f h = untouched_first (tables_named old.tables) (tables_named tables) (cert_named old.cert) f h

  -- the certificate was not
  pub cert_untouched : (tables : Tables R) (cert : Option R) (told : Option Known) (f : Failure) → is_some cert ≡ is_some old.cert → AreUnread (cert_named told) f
      → AreUntouched (folder_named old) (folder_named (record { tables = tables; cert = cert })) f
  cert_untouched tables cert told f same unread =
      untouched_behind (tables_named old.tables) (tables_named tables) (cert_named old.cert) (cert_named cert) f refl (cert_names_none told old.tables f unread) (cert_last old.cert cert f same)

  -- a file behind them was not
  pub behind_untouched : (new : Folder R) (name : Name) (a b : R) (f : Failure) → is_some new.cert ≡ is_some old.cert → IsUnread name f
      → (Read name ≢ Read Parcels) × (Read name ≢ Read Covers) × (Read name ≢ Read Classes) × (Read name ≢ Read Cert)
      → AreUntouched (folder_named old ++ (name, a) ∷ []) (folder_named new ++ (name, b) ∷ []) f
  behind_untouched new name a b f same unread others =
      untouched_behind (folder_named old) (folder_named new) ((name, a) ∷ []) ((name, b) ∷ []) f (folder_as_many old new same) (folder_names_none old name f unread others) (λ is. refl, tt)

-- a table was not read, and so not all of them
pub tables_unread : (given : Folder Known) (f : Failure) → AreUnread (tables_named given.tables) f → AreUnread (folder_named given) f
tables_unread given f h = unread_first (tables_named given.tables) (cert_named given.cert) f h

-- nor the certificate
pub cert_unread : (given : Folder Known) (x : Tables (List ℕ)) (f : Failure) → AreTablesRead x given.tables → AreUnread (cert_named given.cert) f → AreUnread (folder_named given) f
cert_unread given x f read h = unread_behind (tables_named given.tables) (cert_named given.cert) f (tables_within x given.tables read) h

-- nor a file behind them
pub behind_unread : (given : Folder Known) (x : Inputs) (name : Name) (told : Known) (f : Failure) → AreRead x given → IsUnread name f → AreUnread (folder_named given ++ (name, told) ∷ []) f
behind_unread given x name told f read h = unread_behind (folder_named given) ((name, told) ∷ []) f (folder_within x given read) (inl h)
