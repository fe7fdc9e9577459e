use Rattle.std.proofs.Common.{◌≡◌, ◌<◌, ◌≤◌, ℕ, Bool, true, false, IsTrue, ◌↔◌, List, length, Some, sym, ap, ◌∙◌, refl, arith, slice_get}
use Rattle.lpis_checker.proofs.Common.{slice_get_within, same_Some, PairLine}
use Rattle.std.proofs.lemmas.Option.{slice_get_read}
use Rattle.lpis_checker.specs.private.Naming.{NamesAt}
use Rattle.lpis_checker.proofs.near_pairs.names_at.Goals as goal

there : (lines : List PairLine) (at i j : ℕ) (l : PairLine) (b : Bool) → slice_get lines at ≡ Some l → (IsTrue b ↔ ((l.i ≡ i) × (l.j ≡ j))) → IsTrue b ↔ NamesAt lines at i j
there lines at i j l b e h = (
  λ t. (l, e, (h.0 t).0, (h.0 t).1),
  λ x. let same : x.0 ≡ l = same_Some x.0 l (sym x.1 ∙ e) in h.1 (sym (ap (λ (q : PairLine). q.i) same) ∙ x.2, sym (ap (λ (q : PairLine). q.j) same) ∙ x.3),
)

absent : (lines : List PairLine) (at i j : ℕ) → length lines ≤ at → IsTrue false ↔ NamesAt lines at i j
absent lines at i j h = (λ t. absurd (never t), λ x. absurd (beyond (slice_get_within lines at x.0 x.1)))
  where
    never : false ≡ true → ⊥
    never t = cc

    beyond : at < length lines → ⊥
    beyond l = omega arith

pub returns-in-Some : goal.returns-in-Some
returns-in-Some c =
    let within : c.args.index < length c.args.lines.now = (rw c.in-Some.is at c.get.ensures.lookup).3.0 in
    let found : slice_get c.args.lines.now c.args.index ≡ Some c.in-Some.line.now = slice_get_read c.args.lines.now
    (length c.args.lines.now) c.args.index c.in-Some.line.now refl within c.in-Some.ensures.lookup.1 in
    there c.args.lines.now c.args.index c.args.i c.args.j c.in-Some.line.now c.names_pair.result found c.names_pair.ensures

pub returns-in-None : goal.returns-in-None
returns-in-None c = absent c.args.lines.now c.args.index c.args.i c.args.j c.in-None.ensures.lookup.3
