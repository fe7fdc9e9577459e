-- The steps of writing a release.
use Rattle.std.proofs.Common.{◌≡◌, ◌++◌, ◌∙◌, List, [], ap, sym}
use Rattle.std.proofs.lemmas.List.{append-nil, append_assoc}

-- what is left of a list when some of it is done
pub done_more : {Y : Type 0} (done more rest left all : List Y) → done ++ rest ≡ all → rest ≡ more ++ left → (done ++ more) ++ left ≡ all
done_more done more rest left all is step = append_assoc done more left ∙ ap (λ l. done ++ l) (sym step) ∙ is

-- where nothing is left all is done
pub nothing_left : {Y : Type 0} (done rest all : List Y) → done ++ rest ≡ all → rest ≡ [] → done ≡ all
nothing_left done rest all is none = sym (append-nil done) ∙ ap (λ l. done ++ l) (sym none) ∙ is
