-- The text of a polygon is a text of the grammar that spells it.
use Rattle.std.proofs.Common.{◌≡◌, ℕ, ◌+◌, ◌<◌, List, [], ◌∷◌, ◌++◌, length, refl, sym, ap, subst, ◌∙◌, arith, append_assoc, append-nil, codes, inl, inr, true, get_or}
use Rattle.std.specs.List.{All, list_all}
use Rattle.std.proofs.lemmas.Bool.{and_parts}
use Rattle.std.proofs.lemmas.List.{map-append}
use Rattle.std.proofs.lemmas.List.Elements.{All-head, All-tail, All-cons, All-weaker}
use Rattle.lpis_points.specs.declared.point.Point.{Point}
use Rattle.lpis_rings.specs.Polygon.{IsPolygon}
use Rattle.lpis_rings.specs.Ring.{IsRing}
use Rattle.lpis_rings.specs.declared.polygon.Member.{Member}
use Rattle.lpis_wkt.specs.Grammar.{BodyText, Commas, Parens, PointText, Reads, RingText}
use Rattle.lpis_wkt.specs.Text.{PolygonText}
use Rattle.lpis_wkt.specs.Tokens.{Close, Comma, End, Open, Token, Word, kinds, tokens, tokens_from}
use Rattle.lpis_wkt.proofs.Shared.{AllWord, Stops, is_word}
use Rattle.lpis_wkt_writer.specs.Text.{HaveRings, HasRings, in_parens, member_text, number_text, polygon_point_text, ring_text, polygon_text, with_commas}
use Rattle.lpis_wkt_writer.proofs.ReadingLemmas.{coordinate_is_spelled}
use Rattle.lpis_wkt_writer.proofs.WordLemmas.{Spells, word_is_one_token}

joined : (a b : List ℕ) (ts us : List Token) → Spells a ts → Spells b us → ((rest : List ℕ) → Stops (b ++ rest)) → Spells (a ++ b) (ts ++ us)
joined a b ts us f g stop = λ at rest stops.
    let first = f at (b ++ rest) (stop rest) in
    let second = g first.0 rest stops in (
      second.0,
      ap (λ (bytes : List ℕ). kinds (tokens_from at bytes)) (append_assoc a b rest) ∙ first.1
          ∙ ap (λ (more : List Token). ts ++ more) second.1 ∙ sym (append_assoc ts us (kinds (tokens_from second.0 rest))),
    )

opened : (text : List ℕ) (ts : List Token) → Spells text ts → Spells (40 ∷ text) (Open ∷ ts)
opened text ts f = λ at rest stops. let more = f (at + 1) rest stops in (more.0, ap (λ (l : List Token). Open ∷ l) more.1)

after_comma : (text : List ℕ) (ts : List Token) → Spells text ts → Spells (44 ∷ text) (Comma ∷ ts)
after_comma text ts f = λ at rest stops. let more = f (at + 1) rest stops in (more.0, ap (λ (l : List Token). Comma ∷ l) more.1)

after_space : (text : List ℕ) (ts : List Token) → Spells text ts → Spells (32 ∷ text) ts
after_space text ts f = λ at rest stops. f (at + 1) rest stops

closing : Spells (41 ∷ []) (Close ∷ [])
closing = λ at rest stops. (at + 1, refl)

-- the text of a thing has tokens that spell it
abbrev Spelled : {A : Type 0} → (A → List Token → Type 0) → (A → List ℕ) → A → Type 0
Spelled P text a = (ts : List Token) × P a ts × Spells (text a) ts

point : (p : Point) → Spelled PointText polygon_point_text p
point p =
    let x = coordinate_is_spelled p.x p.x_in_range in
    let y = coordinate_is_spelled p.y p.y_in_range in (
      Word (number_text p.x) ∷ Word (number_text p.y) ∷ [],
      (number_text p.x, number_text p.y, refl, x.number, y.number),
      joined (number_text p.x) (32 ∷ number_text p.y) (Word (number_text p.x) ∷ []) (Word (number_text p.y) ∷ [])
          (word_is_one_token (number_text p.x) x.word x.some)
          (after_space (number_text p.y) (Word (number_text p.y) ∷ []) (word_is_one_token (number_text p.y) y.word y.some)) (λ rest. refl),
    )

commas : {A : Type 0} (P : A → List Token → Type 0) (text : A → List ℕ) (things : List A) → 0 < length things → All (Spelled P text) things → Spelled (Commas P) (with_commas text) things
commas P text [] some h = absurd (omega arith)
commas P text (a ∷ []) some h =
    let one = All-head (Spelled P text) a [] h in
    (one.0, one.1, subst (λ (l : List ℕ). Spells l one.0) (sym (append-nil (text a))) one.2)
commas P text (a ∷ b ∷ more) some h =
    let one = All-head (Spelled P text) a (b ∷ more) h in
    let others = commas P text (b ∷ more) (omega arith) (All-tail (Spelled P text) a (b ∷ more) h) in (
      one.0 ++ Comma ∷ others.0,
      (one.0, others.0, one.1, refl, others.1),
      joined (text a) (44 ∷ with_commas text (b ∷ more)) one.0 (Comma ∷ others.0) one.2
          (after_comma (with_commas text (b ∷ more)) others.0 others.2) (λ rest. refl),
    )

parens : {A : Type 0} (P : A → List Token → Type 0) (text : A → List ℕ) (a : A) → Spelled P text a → Spelled (Parens P) (λ a. in_parens (text a)) a
parens P text a inner = (
  Open ∷ inner.0 ++ Close ∷ [],
  (inner.0, inner.1, refl),
  opened (text a ++ 41 ∷ []) (inner.0 ++ Close ∷ [])
      (joined (text a) (41 ∷ []) inner.0 (Close ∷ []) inner.2 closing (λ rest. refl)),
)

all_points : (ps : List Point) → All (Spelled PointText polygon_point_text) ps
all_points ps = λ k d lt. point (get_or ps k d)

ring : (ps : List Point) → IsRing ps → Spelled RingText ring_text ps
ring ps h =
    let four = h.four in
    let inner = parens (Commas PointText) (with_commas polygon_point_text) ps (commas PointText polygon_point_text ps (omega arith) (all_points ps)) in
    (inner.0, (inner.1, h), inner.2)

member : (m : Member) → HasRings m → Spelled BodyText member_text m
member m h =
    let rings : All IsRing (m.shell ∷ m.holes) = All-cons IsRing m.shell m.holes h.0 h.1 in
    parens (Commas RingText) (with_commas ring_text) (m.shell ∷ m.holes)
    (commas RingText ring_text (m.shell ∷ m.holes) (omega arith) (All-weaker IsRing (Spelled RingText ring_text) ring (m.shell ∷ m.holes) rings))

-- the tokens of a whole text
whole : (keyword text : List ℕ) (ts : List Token) → AllWord keyword → 0 < length keyword → Spells text ts → ((rest : List ℕ) → Stops (text ++ rest))
    → kinds (tokens (keyword ++ text)) ≡ Word keyword ∷ ts ++ End ∷ []
whole keyword text ts all some f stop =
    let bytes : List ℕ = keyword ++ text in
    let r = joined keyword text (Word keyword ∷ []) ts (word_is_one_token keyword all some) f stop 0 [] tt in
    map-append (λ (t : ℕ × Token). t.1) (tokens_from 0 bytes) ((length bytes, End) ∷ [])
    ∙ ap (λ (l : List Token). l ++ End ∷ []) (ap (λ (l : List ℕ). kinds (tokens_from 0 l)) (sym (append-nil bytes)) ∙ r.1 ∙ append-nil (Word keyword ∷ ts))

letters : (w : List ℕ) → list_all is_word w ≡ true → AllWord w
letters [] h = tt
letters (b ∷ w) h = let both = and_parts (is_word b) (list_all is_word w) h in (both.0, letters w both.1)

reads : (members : List Member) → 0 < length members → HaveRings members → Reads (kinds (tokens (polygon_text members))) members
unfolding polygon_text
reads [] some h = absurd (omega arith)
reads (m ∷ []) some h =
    let body = member m (All-head HasRings m [] h) in
    (codes "POLYGON", body.0, whole (codes "POLYGON") (member_text m) body.0 (letters (codes "POLYGON") refl) (omega arith) body.2 (λ rest. refl), inl (refl, (m, refl, body.1)))
reads (m ∷ n ∷ more) some h =
    let all = All-weaker HasRings (Spelled BodyText member_text) member (m ∷ n ∷ more) h in
    let body = parens (Commas BodyText) (with_commas member_text) (m ∷ n ∷ more) (commas BodyText member_text (m ∷ n ∷ more) (omega arith) all) in
    let text = in_parens (with_commas member_text (m ∷ n ∷ more)) in
    (codes "MULTIPOLYGON", body.0, whole (codes "MULTIPOLYGON") text body.0 (letters (codes "MULTIPOLYGON") refl) (omega arith) body.2 (λ rest. refl), inr (refl, body.1))

-- the text of a polygon whose lists of points are rings spells the polygon
pub polygon_is_spelled : (members : List Member) → IsPolygon members → HaveRings members → PolygonText (polygon_text members) members
unfolding PolygonText
polygon_is_spelled members is h = (reads members is.some h, is.few)
