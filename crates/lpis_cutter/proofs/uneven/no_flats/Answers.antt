use Rattle.std.proofs.Common.{◌≡◌, ◌∙◌, ℕ, List, Some, get_or, sym, ap, slice_get}
use Rattle.std.proofs.lemmas.Option.{get_or_from_slice_get}
use Rattle.lpis_release.specs.declared.parcel.Parcel.{Parcel}
use Rattle.lpis_cutter.proofs.uneven.no_flats.Goals as goal

-- the parcel that stands at a place has the identifier that was read there
same_id : (own xs : List Parcel) (i : ℕ) (x d : Parcel) (id : List ℕ) → own ≡ xs → slice_get xs i ≡ Some x → id ≡ (get_or own i d).id → x.id ≡ id
same_id own xs i x d id e at is = sym (is ∙ ap (λ (zs : List Parcel). (get_or zs i d).id) e ∙ ap (λ (z : Parcel). z.id) (get_or_from_slice_get xs i x d at))

pub returns : goal.returns
returns c = record {
  index = c.args.index;
  x = c.requires.uneven.0;
  at = c.requires.uneven.1;
  named =
      same_id c.parcels.result.now c.args.release.now.parcels c.args.index c.requires.uneven.0 c.index-parcels-index.result
      c.in_ok-parcel.parcel c.parcels.ensures.parcels c.requires.uneven.1 c.in_ok-parcel.ensures;
  before = c.requires.before;
  uneven = c.requires.uneven.2;
}
