use Rattle.std.specs.Prelude.{if◌then◌else◌}
use Rattle.std.proofs.Common.{◌≡◌, ◌∙◌, ◌++◌, ◌∷◌, [], List, ℕ, Bool, true, false, not, sym, ap, ap₂, refl, map}
use Rattle.std.proofs.lemmas.List.{map_push}
use Rattle.lpis_points.specs.declared.boxes.Box4.{Box4}
use Rattle.lpis_country_seam.specs.declared.kept.KeptRow.{KeptRow}
use Rattle.lpis_country_seam.specs.private.Kept.{row_box}
use Rattle.lpis_country_seam.proofs.kept.KeptRows.with.Goals.{then-branch+in_ok-push+in_ok-push-2, else-branch}
use Rattle.lpis_country_seam.proofs.kept.KeptRows.with.Goals as goal

-- a new identifier goes last
goes-last : (known : Bool) (ids : List (List ℕ)) (id : List ℕ) → not known ≡ true → (if known then ids else ids ++ id ∷ []) ≡ ids ++ id ∷ []
goes-last false ids id h = refl
goes-last true ids id h = cc

-- one that is there changes nothing
is-there : (known : Bool) (ids : List (List ℕ)) (id : List ℕ) → not known ≡ false → (if known then ids else ids ++ id ∷ []) ≡ ids
is-there true ids id h = refl
is-there false ids id h = cc

pub invariant_of-result : goal.invariant_of-result
invariant_of-result c =
    let name : KeptRow → List ℕ = λ o. o.parcel.id in
    elim c.if-branch.branch [
      | then-branch+in_ok-push+in_ok-push-2 w ↦ (
        c.in_ok-insert.ensures.keys ∙ goes-last _ c.self.inside.keys.keys c.in_ok-copy.field-0 (sym c.in_ok-insert.ensures.added ∙ w.if-branch.true)
            ∙ ap₂ (λ (ids : List (List ℕ)) (id : List ℕ). ids ++ id ∷ []) c.self.invariant.0 c.in_ok-copy.ensures ∙ sym (map_push name c.self.inside.rows.items c.args.row)
            ∙ ap (map name) (sym w.in_ok-push-2.ensures.items) ∙ ap (λ v. map name v.items) (sym w.rows-is),
        ap (λ v. v.items) w.boxes-is ∙ w.in_ok-push.ensures.items
            ∙ ap₂ (λ (bs : List Box4) (b : Box4). bs ++ b ∷ []) c.self.invariant.1 w.box_of_polygon.ensures ∙ sym (map_push row_box c.self.inside.rows.items c.args.row)
            ∙ ap (map row_box) (sym w.in_ok-push-2.ensures.items) ∙ ap (λ v. map row_box v.items) (sym w.rows-is),
      )
      | else-branch w ↦ (
        c.in_ok-insert.ensures.keys ∙ is-there _ c.self.inside.keys.keys c.in_ok-copy.field-0 (sym c.in_ok-insert.ensures.added ∙ w.if-branch.false)
            ∙ c.self.invariant.0 ∙ ap (λ v. map name v.items) (sym w.rows-is),
        ap (λ v. v.items) w.boxes-is ∙ c.self.invariant.1 ∙ ap (λ v. map row_box v.items) (sym w.rows-is),
      )
    ]
