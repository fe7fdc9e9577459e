-- What regions that passed have.
use Rattle.std.proofs.Common.{◌≡◌, ◌∙◌, ◌++◌, ◌∷◌, ◌+◌, ◌<◌, [], refl, sym, ap, subst, ℕ, List, All, drop, get_or, length, take}
use Rattle.std.proofs.lemmas.List.{drop_more, length-append, take-append-drop, take_more}
use Rattle.std.proofs.lemmas.List.Elements.{All-append, All-cons, All-nil}
use Rattle.lpis_release.specs.Release.{Contents}
use Rattle.lpis_checker.specs.SoundMap.{IsSoundMap}
use Rattle.lpis_country.specs.Country.{country_of}
use Rattle.lpis_run_country.specs.CountryAnswer.{HavePassed, IsReachedBy, IsRefusedRegion, IsRegionsAnswer, Next, None, Passes, Setting}
use Rattle.lpis_run_country.specs.CountryLines.{region_report}
use Rattle.lpis_run_country.specs.Regions.{AreRegionsOf, IsRegionOf, Texts}

-- one region more
regions-more : (texts : List ℕ → Texts) (names : List (List ℕ)) (rs : List Contents) (name : List ℕ) (r : Contents) → AreRegionsOf texts names rs → IsRegionOf (texts name) r
    → AreRegionsOf texts (names ++ name ∷ []) (rs ++ r ∷ [])
regions-more texts [] [] name r a h = (h, tt)
regions-more texts [] (x ∷ rs) name r a h = absurd a
regions-more texts (n ∷ names) [] name r a h = absurd a
regions-more texts (n ∷ names) (x ∷ rs) name r a h = (a.0, regions-more texts names rs name r a.1 h)

-- each is that of its folder
pub passed_regions : (s : Setting) (names : List (List ℕ)) (rs : List Contents) (text : List ℕ) → HavePassed s names rs text → AreRegionsOf s.texts names rs
passed_regions s _ _ _ None = tt
passed_regions s _ _ _ (Next names before text name r h p) = regions-more s.texts names before name r (passed_regions s names before text h) (p.inputs, p.told, p.said)

-- and a sound map
pub passed_sound : (s : Setting) (names : List (List ℕ)) (rs : List Contents) (text : List ℕ) → HavePassed s names rs text → All IsSoundMap rs
passed_sound s _ _ _ None = All-nil IsSoundMap
passed_sound s _ _ _ (Next names before text name r h p) =
    All-append IsSoundMap before (r ∷ []) (passed_sound s names before text h) (All-cons IsSoundMap r [] p.said.sound (All-nil IsSoundMap))

-- the regions of the first n folders, and that of the next one
pub passed_more : (s : Setting) (n : ℕ) (before : List Contents) (text name : List ℕ) (r : Contents) → n < length s.names → name ≡ get_or s.names n [] → HavePassed s (take n s.names) before text
    → Passes s before name r → HavePassed s (take (n + 1) s.names) (before ++ r ∷ []) (text ++ region_report s.detail (country_of s.classes before) name r)
passed_more s n before text name r lt is h p =
    let names = ap (λ (x : List ℕ). take n s.names ++ x ∷ []) is ∙ sym (take_more s.names n [] lt) in
    subst (λ (ks : List (List ℕ)). HavePassed s ks (before ++ r ∷ []) (text ++ region_report s.detail (country_of s.classes before) name r)) names (Next (take n s.names) before text name r h p)

-- what the first n folders leave
pub reached_by : (s : Setting) (n : ℕ) (before : List Contents) (text : List ℕ) → HavePassed s (take n s.names) before text → IsReachedBy s before text (drop n s.names)
reached_by s n before text h = record { passed = take n s.names; all = sym (take-append-drop n s.names); have_passed = h }

-- the next region is refused
pub refused_next : (s : Setting) (n : ℕ) (before : List Contents) (lines name text : List ℕ) (status : ℕ) → n < length s.names → name ≡ get_or s.names n []
    → HavePassed s (take n s.names) before lines → IsRefusedRegion s before name (text, status) → IsRegionsAnswer s (lines ++ text, status)
refused_next s n before lines name text status lt is h refusal = record {
  text = lines;
  end = (text, status);
  behind = record {
    regions = before;
    left = name ∷ drop (n + 1) s.names;
    reached = subst (IsReachedBy s before lines) (drop_more s.names n [] lt ∙ ap (λ (x : List ℕ). x ∷ drop (n + 1) s.names) (sym is)) (reached_by s n before lines h);
    follows = refusal;
  };
  is = refl;
}

-- there are as many as folders
pub passed_length : (s : Setting) (names : List (List ℕ)) (rs : List Contents) (text : List ℕ) → HavePassed s names rs text → length names ≡ length rs
passed_length s _ _ _ None = refl
passed_length s _ _ _ (Next names before text name r h p) =
    length-append names (name ∷ []) ∙ ap (λ (k : ℕ). k + 1) (passed_length s names before text h) ∙ sym (length-append before (r ∷ []))
