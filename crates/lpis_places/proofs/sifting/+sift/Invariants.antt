use Rattle.lpis_places.proofs.sifting.+sift.Given as goal

abbrev pub decreases-sift : goal.decreases-sift
decreases-sift l = l.halvings
