use Rattle.std.proofs.Common.{◌≡◌, ◌∷◌, suc, List, All, sym, subst, Any}
use Rattle.lpis_cutter.proofs.Common.{rational_of, Piece, IsInPiece}
use Rattle.std.proofs.lemmas.List.Elements.{All-cons}
use Rattle.lpis_edge_sums.proofs.Shared.{untrue, any_found, found_any}
use Rattle.lpis_cutter.proofs.telling.is_covered.Goals as goal

any_later : {A : Type 0} (P : A → Type 0) (x : A) (xs : List A) → Any P xs → Any P (x ∷ xs)
any_later P x xs a = let f = any_found P xs a in
    found_any P (x ∷ xs) (record { index = suc f.index; item = f.item; at = f.at; has = f.has })

pub loop-piece-preserved : goal.loop-piece-preserved
loop-piece-preserved c =
    let p = rational_of c.args.p.now in
    let x = c.in-Some.piece.now in
    let rest : List Piece = c.next.new.self in
    let walked : c.loop-piece.piece-iterator ≡ x ∷ rest = c.in-Some.ensures.steps in (
      λ none. c.loop-piece.invariant.0
          (subst (λ (ys : List Piece). All (λ (y : Piece). IsInPiece (rational_of c.args.p.now) y → ⊥) ys) (sym walked)
          (All-cons (λ (y : Piece). IsInPiece (rational_of c.args.p.now) y → ⊥) x rest
          (untrue c.contains.result c.contains.ensures c.if-contains.false) none)),
      λ some. c.loop-piece.invariant.1 (subst (λ (ys : List Piece). Any (IsInPiece (rational_of c.args.p.now)) ys) (sym walked) (any_later (IsInPiece (rational_of c.args.p.now)) x rest some)),
    )
