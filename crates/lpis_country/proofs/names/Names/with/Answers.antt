use Rattle.std.proofs.Common.{◌≡◌, ℕ, List, [], ◌∷◌, ◌++◌, map, sym, ap, ◌∙◌, true, String, Global}
use Rattle.std.proofs.lemmas.List.{map-append}
use Rattle.std.proofs.lemmas.Map.Text.{btree_set_updates_text}
use Rattle.std.specs.BTreeSet.{contains_text}
use Rattle.std.specs.List.{list_any}
use Rattle.std.specs.Str.{bytes_eq}
use Rattle.std.specs.String.{string_bytes}
use Rattle.lpis_country.proofs.DraftLemmas.{known_with}
use Rattle.lpis_country.proofs.names.Names.with.Goals as goal

pub invariant_of-self : goal.invariant_of-self
invariant_of-self c = λ q.
    let key : string_bytes c.in_ok-from_str-2.field-0 ≡ c.args.name.now = c.in_ok-from_str-2.ensures.ok in
    let now = btree_set_updates_text (string_bytes c.in_ok-from_str-2.field-0) c.self.inside.set c.insert.new.self true c.in_ok-insert.ensures.updates q in
    let list : c.push.new.self.items ≡ c.self.inside.list.items ++ c.in_ok-from_str.field-0 ∷ [] = c.in_ok-push.ensures.items in
    let name : string_bytes c.in_ok-from_str.field-0 ≡ c.args.name.now = c.in_ok-from_str.ensures.ok in
    let more : map string_bytes c.push.new.self.items ≡ map string_bytes c.self.inside.list.items ++ c.args.name.now ∷ [] =
    ap (λ (xs : List (String Global)). map string_bytes xs) list ∙ map-append string_bytes c.self.inside.list.items (c.in_ok-from_str.field-0 ∷ [])
    ∙ ap (λ (w : List ℕ). map string_bytes c.self.inside.list.items ++ w ∷ []) name in
    known_with q c.args.name.now (map string_bytes c.self.inside.list.items) (contains_text c.self.inside.set q) (contains_text c.insert.new.self q) (c.self.invariant q) (rw key at now)
    ∙ ap (λ (ns : List (List ℕ)). list_any (bytes_eq q) ns) (sym more)
