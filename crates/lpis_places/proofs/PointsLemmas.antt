-- Reading the points of a table, a row at a time.
use Rattle.std.proofs.Common.{◌≡◌, ◌≤◌, ◌+◌, ◌++◌, ◌∷◌, [], List, length, Result, Ok, Err, true, false, refl, sym, ap, ◌∙◌, arith, append_assoc}
use Rattle.std.proofs.lemmas.List.{append-nil, length-append}
use Rattle.lpis_tables.specs.declared.fault.TableFault.{TableFault}
use Rattle.lpis_tables.specs.declared.fault.TableFault.TheVariants as table
use Rattle.lpis_tables.specs.Table.{Advances, Reading, most_rows}
use Rattle.lpis_places.specs.declared.fault.PointsFault.{PointsFault}
use Rattle.lpis_places.specs.declared.fault.PointsFault.TheVariants.{Memory, Table, Number}
use Rattle.lpis_places.specs.Codes.{of_table}
use Rattle.lpis_places.specs.Points.{Given, Reports, before, point_in_row, points_from, points_left}

-- points before those that are left
abbrev onto : List Given → Result (List Given) PointsFault → Result (List Given) PointsFault
onto ps (Ok qs) = Ok (ps ++ qs)
onto ps (Err fault) = Err fault

-- a reader of the table t has read these points
pub record IsReadTo (t : Reading) (points : List Given) (r : Reading) : Type 0 where
  pub count : r.number ≡ length points
  pub few : r.number ≤ most_rows
  pub rest : points_left 1 t ≡ onto points (points_left (r.number + 1) r)

onto-nothing : (x : Result (List Given) PointsFault) → x ≡ onto [] x
onto-nothing (Ok qs) = refl
onto-nothing (Err fault) = refl

onto-before : (ps : List Given) (p : Given) (x : Result (List Given) PointsFault) → onto ps (before (Ok p) x) ≡ onto (ps ++ p ∷ []) x
onto-before ps p (Ok qs) = ap Ok (sym (append_assoc ps (p ∷ []) qs))
onto-before ps p (Err fault) = refl

-- no point yet
pub read-start : (t : Reading) → t.number ≡ 0 → IsReadTo t [] t
read-start t none =
    let first : t.number + 1 ≡ 1 = omega arith in
    record { count = none; few = omega (arith, none); rest = rw first (onto-nothing (points_left 1 t)) }

-- one point more
pub read-step : (t old new : Reading) (points : List Given) (p : Given) → IsReadTo t points old → Advances old new (Ok true) → point_in_row new.number new.row ≡ Ok p
    → IsReadTo t (points ++ p ∷ []) new
unfolding points_from
read-step t old new points p h a e =
    let n : old.number + 1 ≡ new.number = sym a.2 in
    let left : points_left (old.number + 1) old ≡ before (Ok p) (points_left (new.number + 1) new) = rw (n, a.0, ← a.1, e) refl in
    record {
      count = rw (length-append points (p ∷ [])) (omega (arith, h.count, a.2));
      few = a.4;
      rest = h.rest ∙ ap (onto points) left ∙ onto-before points p (points_left (new.number + 1) new);
    }

-- the end of the rows
pub read-end : (t old new : Reading) (points : List Given) → IsReadTo t points old → Advances old new (Ok false) → points_left 1 t ≡ Ok points
unfolding points_from
read-end t old new points h a =
    let left : points_left (old.number + 1) old ≡ Ok [] = rw (a.0, a.1) refl in
    h.rest ∙ ap (onto points) left ∙ ap Ok (append-nil points)

-- the fault that stops the rows
pub read-stop : (t old new : Reading) (points : List Given) (f : TableFault) → IsReadTo t points old → Advances old new (Err f)
    → Reports {A = List Given} (points_left 1 t) (Err (of_table f))
unfolding points_from
read-stop t old new points table.Memory h a = tt
read-stop t old new points (table.At code name row wkt) h a =
    let left : points_left (old.number + 1) old ≡ Err (Table code row) = rw (a.0.0, a.0.1) refl in
    h.rest ∙ ap (onto points) left

refused : (t old new : Reading) (points : List Given) (f : PointsFault) → IsReadTo t points old → Advances old new (Ok true)
    → point_in_row new.number new.row ≡ Err f → points_left 1 t ≡ Err f
unfolding points_from
refused t old new points f h a e =
    let n : old.number + 1 ≡ new.number = sym a.2 in
    let left : points_left (old.number + 1) old ≡ Err f = rw (n, a.0, e) refl in
    h.rest ∙ ap (onto points) left

-- the fault of a row
pub read-fault : (t old new : Reading) (points : List Given) (f : PointsFault) → IsReadTo t points old → Advances old new (Ok true)
    → Reports {A = Given} (point_in_row new.number new.row) (Err f) → Reports {A = List Given} (points_left 1 t) (Err f)
read-fault t old new points Memory h a e = tt
read-fault t old new points (Table code row) h a e = refused t old new points (Table code row) h a e
read-fault t old new points (Number row axis code) h a e = refused t old new points (Number row axis code) h a e
