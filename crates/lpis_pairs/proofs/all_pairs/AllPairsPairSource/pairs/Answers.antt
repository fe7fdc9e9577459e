use Rattle.std.proofs.Common.{ℕ, ◌+◌, List, inl, inr, subst, sym}
use Rattle.lpis_pairs.proofs.RowLemmas.{NearUpTo, no_pairs_yet, begin_row, passed_by, near_pair_pushed, end_row, all_near_listed}
use Rattle.lpis_pairs.proofs.all_pairs.AllPairsPairSource.pairs.Goals as goal

pub loop-i-init : goal.loop-i-init
loop-i-init c = no_pairs_yet c.args.triangles.now c.new-pairs.result.items c.new-pairs.ensures.items

pub loop-j-init : goal.loop-j-init
loop-j-init c = begin_row c.args.triangles.now c.loop-i.pairs.items c.loop-i.i c.loop-i.invariant

pub loop-j-preserved : goal.loop-j-preserved
loop-j-preserved c =
    let ts = c.args.triangles.now in
    let i = c.loop-i.i in
    let j = c.loop-j.j in
    let before = c.loop-j.pairs.items in
    elim c.in_ok-push_if_near.ensures [
      | inl h ↦ subst (λ (ps : List (ℕ × ℕ)). NearUpTo ts ps i (j + 1)) (sym h.1) (near_pair_pushed ts before i j c.loop-j.invariant h.0)
      | inr h ↦ subst (λ (ps : List (ℕ × ℕ)). NearUpTo ts ps i (j + 1)) (sym h.1) (passed_by ts before i j c.loop-j.invariant h.0)
    ]

pub loop-i-preserved : goal.loop-i-preserved
loop-i-preserved c = end_row c.args.triangles.now c.loop-j.pairs.items c.loop-i.i c.loop-j.j c.loop-j-test.false c.loop-j.invariant

pub returns : goal.returns
returns c = all_near_listed c.args.triangles.now c.loop-i.pairs.items c.loop-i.i c.loop-i-test.false c.loop-i.invariant
