-- A history with one release more, put together from rows.
use Rattle.std.proofs.Common.{◌≡◌, ◌∙◌, ◌<◌, inl, inr, refl, sym, ap, ap₂, subst, arith, ℕ, pos, List, [], ◌∷◌, ◌++◌, Bool, length, map, ◌&&◌, ◌||◌}
use Rattle.lpis_register_rows.proofs.Common.{list_any, has_id, same_id, Entry, Row, entry_at, holds}
use Rattle.lpis_register_rows.proofs.Common.{before-at-after, KnownLine, KnownSpan, StoredSpan, known_from, known_of}
use Rattle.lpis_register_rows.proofs.Common.{years_of, covers, SetsAre, span_in}
use Rattle.lpis_register_rows.proofs.KnownLemmas.{AreLive}
use Rattle.lpis_register_rows.proofs.PublishingLemmas.{years-of-append}
use Rattle.std.proofs.lemmas.List.{append-nil, append_assoc}
use Rattle.lpis_lineage.specs.Accepts.{Adds}
use Rattle.lpis_lineage.proofs.Shared.{entry-before, entry-here, longer}

-- adding a release adds its year after the others of the history
pub year-added : (h k : List Entry) (y : ℕ) (live : List (List ℕ)) (rows : List Row) → Adds h k y live rows → years_of k ≡ years_of h ++ pos y ∷ []
year-added h k y live rows (e, k-is, year-is, is) = ap years_of k-is ∙ years-of-append h e ∙ ap (λ (n : ℕ). years_of h ++ pos n ∷ []) year-is

known-more : (h : List Entry) (e : Entry) → known_of (h ++ e ∷ []) ≡ known_of h ++ known_from (pos e.year) 0 e.rows
known-more [] e = append-nil (known_from (pos e.year) 0 e.rows)
known-more (x ∷ h) e = ap (λ (l : List KnownLine). known_from (pos x.year) 0 x.rows ++ l) (known-more h e)
    ∙ sym (append_assoc (known_from (pos x.year) 0 x.rows) (known_of h) (known_from (pos e.year) 0 e.rows))

-- adding a release adds its rows, by position from 0, after the other lines of the history
pub lines-added : (h k : List Entry) (y : ℕ) (live : List (List ℕ)) (rows : List Row) (before after : List KnownLine)
    → Adds h k y live rows → known_of h ≡ before → after ≡ before ++ known_from (pos y) 0 rows → known_of k ≡ after
lines-added h k y live rows before after (e, k-is, year-is, is) b a =
    ap known_of k-is ∙ known-more h e ∙ ap₂ (λ (n : ℕ) (rs : List Row). known_of h ++ known_from (pos n) 0 rs) year-is is.rows_are
    ∙ ap (λ (l : List KnownLine). l ++ known_from (pos y) 0 rows) b ∙ sym a

-- a test passes among the images of a list exactly where some element's image passes it
pub any-map : {A B : Type 0} (p : B → Bool) (f : A → B) (xs : List A) → list_any p (map f xs) ≡ list_any (λ x. p (f x)) xs
any-map p f [] = refl
any-map p f (x ∷ xs) = ap (λ (b : Bool). p (f x) || b) (any-map p f xs)

-- if each release holds the identifiers whose span covers its year, they all do with one added that does too
pub sets-added : (h k : List Entry) (y : ℕ) (live : List (List ℕ)) (rows : List Row) (spans : List KnownSpan)
    → Adds h k y live rows → AreLive live y spans → SetsAre (map span_in spans) h → SetsAre (map span_in spans) k
sets-added h k y live rows spans (e, k-is, year-is, is) alive sets = subst (SetsAre (map span_in spans)) (sym k-is) more where
  here : (i : ℕ) → entry_at (h ++ e ∷ []) i ≡ e → (id : List ℕ) → holds (h ++ e ∷ []) i id ≡ list_any (λ s. same_id id s.id && covers s (entry_at (h ++ e ∷ []) i).year) (map span_in spans)
  here i at id =
      ap (λ (x : Entry). has_id x.live id) at ∙ is.ids id ∙ alive id ∙ sym (any-map (λ (s : StoredSpan). same_id id s.id && covers s y) span_in spans)
      ∙ ap (λ (n : ℕ). list_any (λ s. same_id id s.id && covers s n) (map span_in spans)) (sym (ap (λ (x : Entry). x.year) at ∙ year-is))

  before : (i : ℕ) → i < length h → (id : List ℕ) → holds (h ++ e ∷ []) i id ≡ list_any (λ s. same_id id s.id && covers s (entry_at (h ++ e ∷ []) i).year) (map span_in spans)
  before i lt id =
      let at = entry-before h e i lt in
      ap (λ (x : Entry). has_id x.live id) at ∙ sets i lt id ∙ ap (λ (x : Entry). list_any (λ s. same_id id s.id && covers s x.year) (map span_in spans)) (sym at)

  more : SetsAre (map span_in spans) (h ++ e ∷ [])
  more i lt id = let n = longer h e in
      elim (before-at-after i (length h)) as (λ _. holds (h ++ e ∷ []) i id ≡ list_any (λ s. same_id id s.id && covers s (entry_at (h ++ e ∷ []) i).year) (map span_in spans)) [
        | inl a ↦ before i a id
        | inr b ↦ elim b as (λ _. holds (h ++ e ∷ []) i id ≡ list_any (λ s. same_id id s.id && covers s (entry_at (h ++ e ∷ []) i).year) (map span_in spans)) [
          | inl eq ↦ here i (ap (λ (k : ℕ). entry_at (h ++ e ∷ []) k) eq ∙ entry-here h e) id
          | inr c ↦ absurd (omega (arith, n))
        ]
      ]
