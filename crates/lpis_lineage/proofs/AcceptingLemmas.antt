-- A release is accepted exactly where it has no fault.
use Rattle.std.proofs.Common.{◌≡◌, ◌∙◌, ◌++◌, ◌∷◌, ◌⊎◌, inl, inr, sym, ap, subst, ℕ, List, [], false, Option, Some, Result, Ok, Err}
use Rattle.lpis_lineage.proofs.Common.{list_any, Row, Entry, LineageFault, has_id, IsLawful, RowsFit, Follows, faults, faults_but_marks, first, kind, last_live, marked_row_faults}
use Rattle.lpis_lineage.specs.declared.fault.LineageFault.TheVariants.{Memory}
use Rattle.lpis_lineage.specs.declared.kind.Kind.{Kind}
use Rattle.lpis_lineage.specs.ExactGroups.{is_outside}
use Rattle.lpis_lineage.proofs.KindStepLemmas.{kind-live}
use Rattle.lpis_lineage.specs.Faults.{ReportsFirstOf}
use Rattle.lpis_lineage.specs.Accepts.{IsReleaseEntry, MayFollow, NeverFollows, Decides}
use Rattle.lpis_lineage.proofs.ExtensionLemmas.{lawful-more, fits-more, follows-back}
use Rattle.lpis_lineage.proofs.CleanLemmas.{follows-from-clean, clean-from-follows}

-- the kinds from one list of identifiers, to sets with the same members
kinds-alike : (last a b : List (List ℕ)) (rows : List Row) → ((q : List ℕ) → has_id a q ≡ has_id b q) → kind last a rows ≡ kind last b rows
kinds-alike last a b rows alike = λ i id. kind-live last a b rows id alike i

follows-rows : (h : List Entry) (live ids : List (List ℕ)) (rows : List Row) → ((q : List ℕ) → has_id live q ≡ has_id ids q) → Follows h ids rows → Follows h live rows
follows-rows h live ids rows alike f = record {
  not_used = λ id i hi l. f.not_used id i hi (sym (alike id) ∙ l);
  answered = λ id was gone. f.answered id was (sym (alike id) ∙ gone);
  named = λ id n. alike id ∙ f.named id n;
  once = f.once;
  dropped = λ id o. ((f.dropped id o).0, alike id ∙ (f.dropped id o).1);
  marked = subst (λ (kind_of : List ℕ → Option Kind). list_any (is_outside kind_of rows) rows ≡ false)
      (sym (kinds-alike (last_live h) live ids rows alike)) f.marked;
}

-- where identifiers and rows follow a history, so does the release made of them
pub to-release : (h : List Entry) (live : List (List ℕ)) (rows : List Row) (e : Entry) → IsReleaseEntry live rows e → Follows h live rows → Follows h e.live e.rows
to-release h live rows e is f = let P : List Row → Type 0 = λ rs. Follows h e.live rs in subst P (sym is.rows_are) (follows-rows h e.live live rows is.ids f)

from-release : (h : List Entry) (live : List (List ℕ)) (rows : List Row) (e : Entry) → IsReleaseEntry live rows e → Follows h e.live e.rows → Follows h live rows
from-release h live rows e is f = follows-rows h live e.live rows (λ q. sym (is.ids q)) (let P : List Row → Type 0 = λ rs. Follows h e.live rs in subst P is.rows_are f)

-- a set with the same members has no fault either
pub clean-live : (h : List Entry) (a b : List (List ℕ)) (rows : List Row) → ((q : List ℕ) → has_id a q ≡ has_id b q) → faults h b rows ≡ [] → faults h a rows ≡ []
clean-live h a b rows alike none = clean-from-follows h a rows (follows-rows h a b rows alike (follows-from-clean h b rows none))

-- a fault before those of marks
first-before : (xs ys : List LineageFault) (e : LineageFault) → first xs ≡ Some e → first (xs ++ ys) ≡ Some e
first-before [] ys e t = cc t
first-before (x ∷ xs) ys e t = t

-- the first fault but for those of marks, if not out of memory, is the first of all faults
pub before-marks : (h : List Entry) (live : List (List ℕ)) (rows : List Row) (e : LineageFault) → (e ≡ Memory) ⊎ (first (faults_but_marks h live rows) ≡ Some e)
    → (e ≡ Memory) ⊎ (first (faults h live rows) ≡ Some e)
before-marks h live rows e (inl m) = inl m
before-marks h live rows e (inr t) = inr (first-before (faults_but_marks h live rows) _ e t)

-- where there is none before, the faults are those of marks
pub marks-alone : (h : List Entry) (live set : List (List ℕ)) (rows : List Row) → ((q : List ℕ) → has_id set q ≡ has_id live q) → faults_but_marks h live rows ≡ []
    → marked_row_faults (kind (last_live h) set rows) rows 1 rows ≡ faults h live rows
marks-alone h live set rows alike none =
    ap (λ (kind_of : List ℕ → Option Kind). marked_row_faults kind_of rows 1 rows) (kinds-alike (last_live h) set live rows alike)
    ∙ sym (ap (λ (fs : List LineageFault). fs ++ marked_row_faults (kind (last_live h) live rows) rows 1 rows) none)

-- after a lawful history whose rows fit, a release without a fault may follow in whatever later year
pub may-follow : (h : List Entry) (live : List (List ℕ)) (rows : List Row) → IsLawful h → RowsFit h → faults h live rows ≡ [] → MayFollow h live rows
may-follow h live rows law fit none e is later =
    let f = to-release h live rows e is (follows-from-clean h live rows none) in
    (lawful-more h e law later f, fits-more h e fit f)

-- no history with a faulty release at its end is lawful with rows that fit, whatever the year
pub never-follows : (h : List Entry) (live : List (List ℕ)) (rows : List Row) (fault : LineageFault) → first (faults h live rows) ≡ Some fault → NeverFollows h live rows
never-follows h live rows fault told e is law fit = let none = clean-from-follows h live rows (from-release h live rows e is (follows-back h e law fit)) in let t = ap first none in cc

-- where an error is the first fault, if not out of memory, the release never follows
pub refused-by : (h : List Entry) (live : List (List ℕ)) (rows : List Row) (e : LineageFault) → (e ≡ Memory) ⊎ (first (faults h live rows) ≡ Some e) → (e ≡ Memory) ⊎ NeverFollows h live rows
refused-by h live rows e (inl m) = inl m
refused-by h live rows e (inr t) = inr (never-follows h live rows e t)

-- after a lawful history whose rows fit, an answer that reports the first fault decides on the release
pub decides : {A : Type 0} (h : List Entry) (live : List (List ℕ)) (rows : List Row) (r : Result A LineageFault)
    → IsLawful h → RowsFit h → ReportsFirstOf (faults h live rows) r → Decides h live rows r
decides h live rows (Ok a) law fit t = may-follow h live rows law fit t
decides h live rows (Err f) law fit (inl m) = inl m
decides h live rows (Err f) law fit (inr t) = inr (never-follows h live rows f t)
