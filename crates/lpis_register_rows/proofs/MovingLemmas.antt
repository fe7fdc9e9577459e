-- Rows in another order; moving from version 1 to 3; tables with no release.
use Rattle.std.proofs.Common.{◌≡◌, ◌∙◌, ◌↔◌, refl, sym, ap, subst, arith, ℕ, pos, zero, suc, List, [], ◌∷◌, length, IsPermutation, Contains}
use Rattle.lpis_register_rows.proofs.Common.{IsPermutation-sym, Entry, Content, Live, Mark, AreLiveOf, HasHistoryByLive, HasHistoryBySpans, only_format}
use Rattle.std.proofs.lemmas.List.Sorted.{IsPermutation-refl, Contains-permutation, length_permutation}
use Rattle.lpis_register_rows.specs.Content.{Format, without_texts}
use Rattle.lpis_register_rows.specs.Histories.{IsSameContent, TablesHave}
use Rattle.lpis_register_rows.specs.declared.version.Version.{Version}
use Rattle.lpis_register_rows.specs.declared.version.Version.TheVariants.{First, Second, Third}
use Rattle.lpis_register_rows.proofs.SpanRowLemmas.{spans-moved}
use Rattle.lpis_register_rows.proofs.AscendingLemmas.{both-orders}

-- the same rows in another order, of those that say a history in version 2
record IsSameHistoryRows (c d : Content) : Type 0 where
  pub formats : IsPermutation c.formats d.formats
  pub years : IsPermutation c.years d.years
  pub spans : IsPermutation c.spans d.spans
  pub lines : IsPermutation c.lines d.lines

-- one row stays one row
one-format : (fs gs : List Format) (version : ℕ) → IsPermutation fs gs → fs ≡ only_format version → gs ≡ only_format version
one-format fs gs version m e = by gs (length_permutation fs gs m ∙ ap length e) (λ f there. Contains-permutation gs fs f (IsPermutation-sym fs gs m) there) where
  same : (f : Format) → Contains (only_format version) f → f ≡ record { one = pos 1; version = pos version }
  same f (zero, lt, at) = sym at
  same f (suc i, lt, at) = absurd (omega arith)

  by : (ls : List Format) → length ls ≡ 1 → ((f : Format) → Contains ls f → Contains fs f) → ls ≡ only_format version
  by (f ∷ []) n c = ap (λ (x : Format). x ∷ []) (same f (subst (λ (l : List Format). Contains l f) e (c f (0, omega arith, refl))))
  by _ n c = absurd (omega (arith, n))

reordered-tells : (version : ℕ) (xs ys : List Mark) (c d : Content) (h : List Entry) → IsSameHistoryRows c d → IsPermutation xs ys → HasHistoryBySpans version xs c h → HasHistoryBySpans version ys d h
reordered-tells version xs ys c d h m ms t = record {
  kept = t.kept;
  formats_are = one-format c.formats d.formats version m.formats t.formats_are;
  years_are = both-orders c.years d.years _ m.years t.years_are;
  spans_are = spans-moved c.spans d.spans h m.spans t.spans_are;
  lines_are = both-orders c.lines d.lines _ m.lines t.lines_are;
  marks_are = both-orders xs ys _ ms t.marks_are;
}

live-moved : (xs ys : List Live) (h : List Entry) → IsPermutation xs ys → AreLiveOf xs h → AreLiveOf ys h
live-moved xs ys h m t = record {
  right = λ l there. t.right l (Contains-permutation ys xs l (IsPermutation-sym xs ys m) there);
  whole = λ id i held. Contains-permutation xs ys _ m (t.whole id i held);
}

reordered-tells-live : (c d : Content) (h : List Entry) → IsSameHistoryRows c d → IsPermutation c.live d.live → HasHistoryByLive c h → HasHistoryByLive d h
reordered-tells-live c d h m live t = record {
  kept = t.kept;
  formats_are = one-format c.formats d.formats 1 m.formats t.formats_are;
  years_are = both-orders c.years d.years _ m.years t.years_are;
  live_are = live-moved c.live d.live h live t.live_are;
  lines_are = both-orders c.lines d.lines _ m.lines t.lines_are;
  unmarked = t.unmarked;
}

reordered : (version : Version) (c d : Content) (h : List Entry) → IsSameHistoryRows c d → IsPermutation c.live d.live → IsPermutation c.marks d.marks → TablesHave version c h → TablesHave version d h
reordered First c d h m live marks t = reordered-tells-live c d h m live t
reordered Second c d h m live marks t = reordered-tells 2 [] [] c d h m (IsPermutation-refl []) t
reordered Third c d h m live marks t = reordered-tells 3 c.marks d.marks c d h m marks t

back : (c d : Content) → IsSameHistoryRows c d → IsSameHistoryRows d c
back c d m = record {
  formats = IsPermutation-sym c.formats d.formats m.formats;
  years = IsPermutation-sym c.years d.years m.years;
  spans = IsPermutation-sym c.spans d.spans m.spans;
  lines = IsPermutation-sym c.lines d.lines m.lines;
}

-- in each version, tables state the same histories without their texts, in whatever order of rows
pub textless-says : (version : Version) (c d : Content) (h : List Entry) → IsSameContent (without_texts c) d → TablesHave version c h ↔ TablesHave version d h
textless-says version c d h m = (
  λ t. reordered version c d h rows m.live m.marks t,
  λ t. reordered version d c h (back c d rows) (IsPermutation-sym c.live d.live m.live) (IsPermutation-sym c.marks d.marks m.marks) t,
) where
  rows : IsSameHistoryRows c d
  rows = record { formats = m.formats; years = m.years; spans = m.spans; lines = m.lines }

-- ---- moving
