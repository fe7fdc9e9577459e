-- The walks of a polygon make up its edges.
use Rattle.std.proofs.Common.{◌≡◌, List, [], ◌∷◌, ◌++◌, map, append_assoc, ap, ap₂, sym, refl, ◌∙◌, flat_map}
use Rattle.lpis_rings.proofs.Common.{Point, Member, shell_edges, hole_edges, edges_of}
use Rattle.lpis_rings.specs.private.RingWalks.{joined_walks, walks_of}

joined-append : (vs ws : List (List (Point × Point))) → joined_walks (vs ++ ws) ≡ joined_walks vs ++ joined_walks ws
joined-append [] ws = refl
joined-append (v ∷ vs) ws = ap (λ (es : List (Point × Point)). v ++ es) (joined-append vs ws) ∙ sym (append_assoc v (joined_walks vs) (joined_walks ws))

joined-holes : (holes : List (List Point)) → joined_walks (map hole_edges holes) ≡ flat_map hole_edges holes
joined-holes [] = refl
joined-holes (h ∷ hs) = ap (λ (es : List (Point × Point)). hole_edges h ++ es) (joined-holes hs)

-- the walks of a polygon, one after another, are its edges
pub joined-walks : (members : List Member) → joined_walks (walks_of members) ≡ edges_of members
joined-walks [] = refl
joined-walks (m ∷ ms) =
    ap (λ (es : List (Point × Point)). shell_edges m.shell ++ es) (joined-append (map hole_edges m.holes) (walks_of ms)
    ∙ ap₂ (λ (es fs : List (Point × Point)). es ++ fs) (joined-holes m.holes) (joined-walks ms))
    ∙ sym (append_assoc (shell_edges m.shell) (flat_map hole_edges m.holes) (edges_of ms))
