use Rattle.lpis_cert.proofs.blocks.cert_of.Goals as goal

pub invariant_of-result-clause-triangles_few : goal.invariant_of-result-clause-triangles_few
invariant_of-result-clause-triangles_few c = let ps = c.new.ensures in rw ps c.requires.triangles_few

pub invariant_of-result-clause-flats_few : goal.invariant_of-result-clause-flats_few
invariant_of-result-clause-flats_few c = let ps = c.new.ensures in let qs = c.new-2.ensures in let es = c.new-3.ensures in rw (ps, qs, es) c.requires.flats_few

pub invariant_of-result-clause-pairs_few : goal.invariant_of-result-clause-pairs_few
invariant_of-result-clause-pairs_few c = let rs = c.new-4.ensures in rw rs c.requires.pairs_few
