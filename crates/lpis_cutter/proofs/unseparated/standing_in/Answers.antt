use Rattle.std.proofs.Common.{◌≡◌, ◌<◌, ℕ, List, Some, length, get_or, refl, subst, slice_get}
use Rattle.std.proofs.lemmas.Option.{slice_get_read}
use Rattle.lpis_cutter.proofs.unseparated.standing_in.Goals as goal

-- what was read at a place stands there
there : {A : Type 0} (xs ys : List A) (i : ℕ) (x : A) → xs ≡ ys → i < length xs → x ≡ get_or xs i x → slice_get ys i ≡ Some x
there {A} xs ys i x e within is = subst (λ (zs : List A). slice_get zs i ≡ Some x) e (slice_get_read xs (length xs) i x refl within is)

pub returns : goal.returns
returns c =
    let a = c.in_ok-part.ensures.lookup in
    let b = c.in_ok-triangle.ensures.lookup in (
      c.in_ok-part.part.now,
      there c.args.parts.now c.args.parts.now c.args.index c.in_ok-part.part.now refl a.3.0 a.1,
      refl,
      there c.as_slice.result.now c.in_ok-part.part.now.triangles c.args.place c.in_ok-triangle.triangle.now c.as_slice.ensures b.3.0 b.1,
    )
