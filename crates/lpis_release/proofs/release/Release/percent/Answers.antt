use Rattle.std.proofs.Common.{◌≡◌, List, Some, None, subst, refl, slice_get}
use Rattle.lpis_release.proofs.Common.{slice_get_read, Class}
use Rattle.std.proofs.lemmas.Option.{slice_get_past}
use Rattle.lpis_release.proofs.IndexLemmas.{percent-of-index}
use Rattle.lpis_release.proofs.release.Release.percent.Goals as goal

pub returns-in-Some-clause-value : goal.returns-in-Some-clause-value
returns-in-Some-clause-value c = λ piece at.
    let lookup = (rw c.in-Some.is at c.get.ensures.lookup).3 in
    let found = slice_get_read c.as_slice.result.now _ c.index-class.result.now c.in-Some.class.now refl lookup.0 c.in-Some.ensures.lookup.1 in
    let there = subst (λ (ks : List Class). slice_get ks c.index-class.result.now ≡ Some c.in-Some.class.now) c.as_slice.ensures.rows found in
    percent-of-index _ c.args.self.now c.self.inside.joins.classes.items c.args.index c.index-class.result.now piece
    (Some c.in-Some.class.now) c.self.view_is c.self.invariant.indexed.classes_are at c.index-class.ensures there

pub returns-in-None-clause-value : goal.returns-in-None-clause-value
returns-in-None-clause-value c = λ piece at.
    let past = c.in-None.ensures.lookup.3 in
    let none = slice_get_past c.as_slice.result.now c.index-class.result.now past in
    let there = subst (λ (ks : List Class). slice_get ks c.index-class.result.now ≡ None) c.as_slice.ensures.rows none in
    percent-of-index _ c.args.self.now c.self.inside.joins.classes.items c.args.index c.index-class.result.now piece None
    c.self.view_is c.self.invariant.indexed.classes_are at c.index-class.ensures there
