-- What one line says, or its fault.
use Rattle.std.specs.Prelude.{ℕ, zero, suc, ◌+◌, ◌*◌, Bool, true, false, cond, ◌&&◌, ◌==◌, List, []}
use Rattle.std.specs.Prelude.{◌∷◌, length, ℤ, pos, neg_ℤ, Option, Some, None, Result, Ok, Err}
use Rattle.std.specs.Prelude.{codes, nat_le, is_some}
use Rattle.std.specs.List.{slice_split, list_any}
use Rattle.std.specs.Char.{is_ascii_digit, digit_value}
use Rattle.std.specs.Str.{bytes_eq}
use Rattle.lpis_tables.specs.Ids.{is_id}
use Rattle.lpis_cert.specs.declared.kind.Stage.TheVariants as stage
use Rattle.lpis_cert.specs.declared.fault.CertCode.{CertCode}
use Rattle.lpis_cert.specs.declared.fault.CertCode.TheVariants as code
use Rattle.lpis_cert.specs.declared.kind.Kind.{Kind}
use Rattle.lpis_cert.specs.declared.kind.Kind.TheVariants.{Piece, Triangle, Flat, Parcel, Exact}
use Rattle.lpis_cert.specs.declared.kind.Kind.TheVariants.{Pairs, Pair, End}
use Rattle.lpis_cert.specs.declared.kind.Expected.{Expected}
use Rattle.lpis_cert.specs.declared.kind.Expected.TheVariants.{One, Block}
use Rattle.lpis_cert.specs.declared.version.Version.{Version}
use Rattle.lpis_cert.specs.Limits.{greatest_count, last_edge}
use Rattle.lpis_cert.specs.Versions.{greatest_in_version, factor, has_exact}
use Rattle.lpis_cert.specs.CertText.{Corners, Separator, CertLine, PieceLine, TriangleLine}
use Rattle.lpis_cert.specs.CertText.{FlatLine}
use Rattle.lpis_cert.specs.CertText.{ParcelLine, ExactLine, PairsLine, PairLine, EndLine}

infixl 10 ◌>>=◌
abbrev pub ◌>>=◌ : {A B E : Type 0} → Result A E → (A → Result B E) → Result B E
(Ok x) >>= f = f x
(Err e) >>= f = Err e

infixl 10 ◌>>?◌
abbrev pub ◌>>?◌ : {A B : Type 0} → Option A → (A → Option B) → Option B
(Some x) >>? f = f x
None >>? f = None

-- ---- numbers

-- the number that digits go on with, where it is at most the limit
abbrev pub digits_on : ℕ → ℕ → List ℕ → Option ℕ
digits_on limit n [] = Some n
digits_on limit n (d ∷ ds) = cond (is_ascii_digit d && nat_le (n * 10 + digit_value d) limit)
    (digits_on limit (n * 10 + digit_value d) ds) None

-- `0`, or digits that don't begin with 0
unfoldable pub cert_number : ℕ → List ℕ → Option ℕ
cert_number limit [] = None
cert_number limit (d ∷ ds) = cond (d == 48) (cond (length ds == 0) (Some 0) None)
    (digits_on limit 0 (d ∷ ds))

abbrev pub below_zero : Version → ℕ → Option ℤ
below_zero v zero = None
below_zero v (suc n) = Some (neg_ℤ (pos (suc n * factor v)))

abbrev pub minus : Version → Option ℕ → Option ℤ
minus v None = None
minus v (Some n) = below_zero v n

abbrev pub plus : Version → Option ℕ → Option ℤ
plus v None = None
plus v (Some n) = Some (pos (n * factor v))

-- the same in a version's unit, or `-` and digits that don't begin with 0: in millimetres
unfoldable pub cert_coordinate : Version → List ℕ → Option ℤ
cert_coordinate v [] = None
cert_coordinate v (d ∷ ds) = cond (d == 45) (minus v (cert_number (greatest_in_version v) ds))
    (plus v (cert_number (greatest_in_version v) (d ∷ ds)))

-- ---- words

abbrev pub is_gap : ℕ → Bool
is_gap b = b == 32

abbrev pub words : List ℕ → List (List ℕ)
words line = slice_split is_gap line

unfoldable pub kind_of : List ℕ → Option Kind
kind_of w =
    cond (bytes_eq w (codes "t")) (Some Triangle)
    (cond (bytes_eq w (codes "f")) (Some Flat)
    (cond (bytes_eq w (codes "s")) (Some Pair)
    (cond (bytes_eq w (codes "piece")) (Some Piece)
    (cond (bytes_eq w (codes "parcel")) (Some Parcel)
    (cond (bytes_eq w (codes "exact")) (Some Exact)
    (cond (bytes_eq w (codes "pairs")) (Some Pairs)
    (cond (bytes_eq w (codes "end")) (Some End) None)))))))

-- the first words of a version: `exact` is none of version 1
abbrev pub is_known : Version → Kind → Bool
is_known v Exact = has_exact v
is_known v _ = true

-- how many words a line of this kind has
abbrev pub word_count : Kind → ℕ
word_count Piece = 4
word_count Triangle = 7
word_count Flat = 7
word_count Parcel = 3
word_count Exact = 4
word_count Pairs = 2
word_count Pair = 4
word_count End = 1

-- the first word after the kind
abbrev pub first_is_id : List (List ℕ) → Bool
first_is_id [] = false
first_is_id (w ∷ ws) = is_id w

-- whether a word is `merge`, where it is that or `split`
abbrev pub merge_of : List ℕ → Option Bool
merge_of w = cond (bytes_eq w (codes "split")) (Some false)
    (cond (bytes_eq w (codes "merge")) (Some true) None)

-- `split` or `merge`, and then an identifier
abbrev pub first_is_split_or_merge : List (List ℕ) → Bool
first_is_split_or_merge [] = false
first_is_split_or_merge (w ∷ ws) = is_some (merge_of w) && first_is_id ws

-- an identifier where the kind wants one
abbrev pub has_its_id : Kind → List (List ℕ) → Bool
has_its_id Piece ws = first_is_id ws
has_its_id Parcel ws = first_is_id ws
has_its_id Exact ws = first_is_split_or_merge ws
has_its_id Triangle ws = true
has_its_id Flat ws = true
has_its_id Pairs ws = true
has_its_id Pair ws = true
has_its_id End ws = true

abbrev pub is_empty : List ℕ → Bool
is_empty [] = true
is_empty (b ∷ bs) = false

-- a line's kind and its further words, where its form is right
unfoldable pub form : Version → List (List ℕ) → Option (Kind × List (List ℕ))
form v [] = None
form v (w ∷ ws) = cond (list_any is_empty (w ∷ ws)) None
    (kind_of w >>? λ k. cond (is_known v k && ((length ws + 1 == word_count k) && has_its_id k ws))
    (Some (k, ws)) None)

-- ---- the kinds that can stand

abbrev pub same_kind : Kind → Kind → Bool
same_kind Piece Piece = true
same_kind Triangle Triangle = true
same_kind Flat Flat = true
same_kind Parcel Parcel = true
same_kind Exact Exact = true
same_kind Pairs Pairs = true
same_kind Pair Pair = true
same_kind End End = true
same_kind _ _ = false

-- one kind alone; or what begins a block: pieces stand before parcels, parcels before exact blocks,
-- and the pairs after all three
abbrev pub can_stand : Expected → Kind → Bool
can_stand (One k) given = same_kind k given
can_stand (Block stage.Pieces) Piece = true
can_stand (Block stage.Parcels) Piece = false
can_stand (Block stage.Exacts) Piece = false
can_stand (Block stage.Pieces) Parcel = true
can_stand (Block stage.Parcels) Parcel = true
can_stand (Block stage.Exacts) Parcel = false
can_stand (Block s) Exact = true
can_stand (Block s) Pairs = true
can_stand (Block s) Triangle = false
can_stand (Block s) Flat = false
can_stand (Block s) Pair = false
can_stand (Block s) End = false

-- ---- the values of a line

abbrev pub natural : List ℕ → Option ℕ
natural w = cert_number greatest_count w

-- what the first word says, and the further words
abbrev pub front : {A : Type 0} → (List ℕ → Option A) → List (List ℕ) → Option (A × List (List ℕ))
front read [] = None
front read (w ∷ ws) = read w >>? λ x. Some (x, ws)

-- with no word after it
abbrev pub last : {A : Type 0} → A → List (List ℕ) → Option A
last x [] = Some x
last x (w ∷ ws) = None

unfoldable pub point : Version → List (List ℕ) → Option ((ℤ × ℤ) × List (List ℕ))
point v ws = front (cert_coordinate v) ws >>? λ x. front (cert_coordinate v) x.1 >>? λ y. Some
    ((x.0, y.0), y.1)

unfoldable pub corners : Version → List (List ℕ) → Option Corners
corners v ws = point v ws >>? λ a. point v a.1 >>? λ b. point v b.1 >>? λ c.
    last (record { x1 = a.0.0; y1 = a.0.1; x2 = b.0.0; y2 = b.0.1; x3 = c.0.0; y3 = c.0.1 }) c.1

unfoldable pub separator : List (List ℕ) → Option Separator
separator ws =
    front natural ws >>? λ i. front natural i.1 >>? λ j. front (cert_number last_edge) j.1 >>?
    λ k.
    last (record { i = i.0; j = j.0; k = k.0 }) k.1

unfoldable pub piece_line : List (List ℕ) → Option CertLine
piece_line ws = front (λ w. Some w) ws >>? λ id. front natural id.1 >>? λ t. front natural t.1 >>?
    λ f. last (PieceLine id.0 t.0 f.0) f.1

unfoldable pub parcel_block_line : List (List ℕ) → Option CertLine
parcel_block_line ws = front (λ w. Some w) ws >>? λ id. front natural id.1 >>? λ f. last
    (ParcelLine id.0 f.0) f.1

unfoldable pub exact_line : List (List ℕ) → Option CertLine
exact_line ws = front merge_of ws >>? λ m. front (λ w. Some w) m.1 >>? λ id. front natural id.1 >>?
    λ f. last (ExactLine m.0 id.0 f.0) f.1

unfoldable pub pairs_line : List (List ℕ) → Option CertLine
pairs_line ws = front natural ws >>? λ n. last (PairsLine n.0) n.1

unfoldable pub values : Version → Kind → List (List ℕ) → Option CertLine
values v Piece ws = piece_line ws
values v Triangle ws = corners v ws >>? λ c. Some (TriangleLine c)
values v Flat ws = corners v ws >>? λ c. Some (FlatLine c)
values v Parcel ws = parcel_block_line ws
values v Exact ws = exact_line ws
values v Pairs ws = pairs_line ws
values v Pair ws = separator ws >>? λ p. Some (PairLine p)
values v End ws = last EndLine ws

-- ---- a line, with its faults in their order

abbrev pub with_form : Expected → Option (Kind × List (List ℕ)) → Result (Kind × List (List ℕ))
    CertCode
with_form e None = Err code.LineForm
with_form e (Some p) = cond (can_stand e p.0) (Ok p) (Err code.BadPlace)

abbrev pub or_number : Option CertLine → Result CertLine CertCode
or_number None = Err code.Number
or_number (Some l) = Ok l

-- form, then whether its kind can stand
unfoldable pub kind_placed : Version → Expected → List ℕ → Result (Kind × List (List ℕ)) CertCode
kind_placed v e line = with_form e (form v (words line))

-- then the numbers
unfoldable pub read_line : Version → Expected → List ℕ → Result CertLine CertCode
read_line v e line = kind_placed v e line >>= λ p. or_number (values v p.0 p.1)
