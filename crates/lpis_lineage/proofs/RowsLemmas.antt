-- Rows of the table of lineage.
use Rattle.std.proofs.Common.{◌≡◌, ◌==◌, ◌++◌, ◌∷◌, [], arith, Bool, false, true, ℕ, List, length, Option, None, Some, Result, Ok, Err, refl, unwrap_or}
use Rattle.lpis_lineage.proofs.Common.{Row, nat_tests}
use Rattle.lpis_tables.specs.declared.fault.Table.TheVariants.{Lineage}
use Rattle.lpis_tables.specs.declared.fault.TableFault.{TableFault}
use Rattle.lpis_tables.specs.declared.fault.TableFault.TheVariants.{Memory, At}
use Rattle.lpis_tables.specs.Faults.{id_faults, unless_faulty}
use Rattle.lpis_tables.specs.Table.{Answers, Fields, field_of}
use Rattle.lpis_tables.proofs.Shared.{column-fault, column-passed, fault-retold}
use Rattle.lpis_lineage.specs.LineageTable.{AnswersRows, lineage_faults, mark_field_faults, mark_of_text, row_of, successor_faults, successor_of}

-- an empty field has no successor
pub successor-none : (n : ℕ) (field : List ℕ) → (length field == 0) ≡ true → unless_faulty (successor_faults n field) (successor_of field) ≡ Ok None
successor-none n [] empty = refl
successor-none n (b ∷ bytes) empty = absurd (grind (arith, nat_tests))

-- the successor of a field that is not empty is its identifier
pub successor-some : (n : ℕ) (field id : List ℕ) → (length field == 0) ≡ false → unless_faulty (id_faults Lineage n field) field ≡ Ok id
    → unless_faulty (successor_faults n field) (successor_of field) ≡ Ok (Some id)
successor-some n [] id filled h = cc filled
successor-some n (b ∷ bytes) id filled h = by (id_faults Lineage n (b ∷ bytes)) h where
  by : (fs : List TableFault) → unless_faulty fs (b ∷ bytes) ≡ Ok id → unless_faulty fs (Some (b ∷ bytes)) ≡ Ok (Some id)
  by [] e = cc e
  by (f ∷ fs) e = cc e

-- and its fault that of the identifier
pub successor-fault : (n : ℕ) (field : List ℕ) (f : TableFault) → (length field == 0) ≡ false → Answers {A = List ℕ} (Err f) (unless_faulty (id_faults Lineage n field) field)
    → Answers {A = Option (List ℕ)} (Err f) (unless_faulty (successor_faults n field) (successor_of field))
successor-fault n [] f filled h = cc filled
successor-fault n (b ∷ bytes) f filled h = fault-retold (id_faults Lineage n (b ∷ bytes)) (b ∷ bytes) (Some (b ∷ bytes)) f h

-- what three columns without faults say
three-told : {A B C D : Type 0} (make : A → B → C → D) (fs gs hs : List TableFault) (a x : A) (b y : B) (c z : C)
    → unless_faulty fs a ≡ Ok x → unless_faulty gs b ≡ Ok y → unless_faulty hs c ≡ Ok z
    → unless_faulty (fs ++ (gs ++ hs)) (make a b c) ≡ Ok (make x y z)
three-told make [] [] [] a x b y c z e f g =
    let e' : a ≡ x = cc e in
    let f' : b ≡ y = cc f in
    let g' : c ≡ z = cc g in
    rw (e', f', g') refl
three-told make [] [] (h ∷ hs) a x b y c z e f g = cc g
three-told make [] (h ∷ gs) hs a x b y c z e f g = cc f
three-told make (h ∷ fs) gs hs a x b y c z e f g = cc e

abbrev make-row : List ℕ → Option (List ℕ) → Bool → Row
make-row old new exact = record { old = old; new = new; exact = exact }

-- a row of its three columns
pub row-told : (n : ℕ) (row : Fields) (old : List ℕ) (new : Option (List ℕ)) (exact : Bool)
    → unless_faulty (id_faults Lineage n (field_of row 0)) (field_of row 0) ≡ Ok old → unless_faulty (successor_faults n (field_of row 1))
    (successor_of (field_of row 1)) ≡ Ok new → unless_faulty (mark_field_faults n (mark_of_text (field_of row 2))) (unwrap_or (mark_of_text (field_of row 2)) false) ≡ Ok exact
    → unless_faulty (lineage_faults n row) (row_of row) ≡ Ok (record { old = old; new = new; exact = exact })
row-told n row old new exact e f g =
    three-told make-row (id_faults Lineage n (field_of row 0)) (successor_faults n (field_of row 1)) (mark_field_faults n (mark_of_text (field_of row 2)))
    (field_of row 0) old (successor_of (field_of row 1)) new (unwrap_or (mark_of_text (field_of row 2)) false) exact e f g

-- where the old identifier is read, a fault of the successor is that of the row
pub row-fault-new : (n : ℕ) (row : Fields) (old : List ℕ) (f : TableFault) → unless_faulty (id_faults Lineage n (field_of row 0))
    (field_of row 0) ≡ Ok old → Answers {A = Option (List ℕ)} (Err f)
    (unless_faulty (successor_faults n (field_of row 1)) (successor_of (field_of row 1)))
    → Answers {A = Row} (Err f) (unless_faulty (lineage_faults n row) (row_of row))
row-fault-new n row old f e h = column-passed {A = List ℕ} {B = Row} (id_faults Lineage n (field_of row 0))
    (successor_faults n (field_of row 1) ++ mark_field_faults n (mark_of_text (field_of row 2))) (field_of row 0) old (Err f) (row_of row) e
    (column-fault (successor_faults n (field_of row 1)) (mark_field_faults n (mark_of_text (field_of row 2))) (successor_of (field_of row 1)) (row_of row) f h)

-- where the old identifier and the successor are read, a fault of the mark is that of the row
pub row-fault-mark : (n : ℕ) (row : Fields) (old : List ℕ) (new : Option (List ℕ)) (f : TableFault)
    → unless_faulty (id_faults Lineage n (field_of row 0)) (field_of row 0) ≡ Ok old
    → unless_faulty (successor_faults n (field_of row 1)) (successor_of (field_of row 1)) ≡ Ok new
    → Answers {A = Bool} (Err f) (unless_faulty (mark_field_faults n (mark_of_text (field_of row 2))) (unwrap_or (mark_of_text (field_of row 2)) false))
    → Answers {A = Row} (Err f) (unless_faulty (lineage_faults n row) (row_of row))
row-fault-mark n row old new f e g h = column-passed {A = List ℕ} {B = Row} (id_faults Lineage n (field_of row 0))
    (successor_faults n (field_of row 1) ++ mark_field_faults n (mark_of_text (field_of row 2))) (field_of row 0) old (Err f) (row_of row) e
    (column-passed {A = Option (List ℕ)} {B = Row} (successor_faults n (field_of row 1)) (mark_field_faults n (mark_of_text (field_of row 2)))
    (successor_of (field_of row 1)) new (Err f) (row_of row) g
    (fault-retold (mark_field_faults n (mark_of_text (field_of row 2))) (unwrap_or (mark_of_text (field_of row 2)) false) (row_of row) f h))

-- the rows as a `Vec`
pub rows-answered : (f : TableFault) (said : Result (List Row) TableFault) → Answers {A = List Row} (Err f) said → AnswersRows (Err f) said
rows-answered Memory said h = tt
rows-answered (At code table row wkt) said h = h
