-- How a run over regions goes on, and ends.
use Rattle.std.proofs.Common.{◌≡◌, ◌≢◌, ◌<◌, ◌≤◌, ◌⊎◌, ◌∙◌, ◌++◌, ◌∷◌, ◌+◌, ◌*◌, [], refl, sym, ap, ap₂, subst, arith, inl, inr, IfErr, IfOk, IsErrAnd}
use Rattle.std.proofs.Common.{OnOk, ℕ, List, All, Option, None, Some, Result, Ok, Err, String, Vec, drop, get_or, length, map, take}
use Rattle.std.proofs.Math.Seq.{take-append-add}
use Rattle.std.proofs.lemmas.List.{append-nil, drop_more, length-append}
use Rattle.std.proofs.lemmas.List.Elements.{All-head, All-tail}
use Rattle.std.specs.Io.KnownBytes.{Appends, Keeps}
use Rattle.std.specs.String.{string_bytes}
use Rattle.std.specs.declared.alloc.Global.{Global}
use Rattle.lpis_points.specs.declared.boxes.Box4.{Box4}
use Rattle.lpis_tables.specs.declared.class.Class.{Class}
use Rattle.lpis_run.proofs.Shared.{appends-more, breaks_off_more, refused-more, some_unread, stopped-in-region}
use Rattle.lpis_release.specs.Release.{Contents}
use Rattle.lpis_run.specs.declared.failure.Failure.{Failure}
use Rattle.lpis_run.specs.declared.failure.Failure.TheVariants.{Memory, Read, ReadOf, Write, Store, StoreMemory}
use Rattle.lpis_run.specs.declared.failure.Name.{Name}
use Rattle.lpis_run.specs.declared.failure.Name.TheVariants.{Cert, Classes, Covers, Out, Parcels}
use Rattle.lpis_run.specs.CheckAnswer.{Answer, Inputs, IsProvedOf, IsRefusal}
use Rattle.lpis_run.specs.Refusals.{line_in_region}
use Rattle.lpis_run.specs.declared.answer.Answer.{Answer as Printed}
use Rattle.lpis_run.specs.Folders.{folder_named}
use Rattle.lpis_run.specs.Status.{done}
use Rattle.lpis_run.specs.Stops.{IsInRegion, IsRefusedAs}
use Rattle.lpis_run.specs.Streams.{Begins}
use Rattle.lpis_run.specs.declared.stop.Stop.{Stop}
use Rattle.lpis_run.specs.declared.stop.Stop.TheVariants.{Refused}
use Rattle.lpis_release.specs.declared.parcel.Parcel.{Parcel}
use Rattle.lpis_country.specs.Country.{country_of, new_parcels}
use Rattle.lpis_country.proofs.Shared.{country_is_region, country_snoc}
use Rattle.lpis_run.specs.declared.detail.Detail.{Detail}
use Rattle.lpis_country_seam.specs.Faults.{IsFirstSeamFault}
use Rattle.lpis_country_seam.specs.Laws.{JoinedCountryIsSound, JoinedCountryIsUnion}
use Rattle.lpis_country_seam.specs.Open.{AreJoined, IsSeamOf}
use Rattle.lpis_country_seam.specs.declared.fault.SeamFault.{SeamFault}
use Rattle.lpis_country_seam.specs.declared.fault.SeamFault.TheVariants.{Memory as NoMemory}
use Rattle.lpis_run_country.specs.declared.progress.Progress.{Progress}
use Rattle.lpis_run_country.specs.declared.totals.Totals.{Totals}
use Rattle.lpis_run_country.specs.Beginning.{BegunParts, IsPlanned, setting_in}
use Rattle.lpis_run_country.specs.CountryAnswer.{HavePassed, IsMisfit, None as NonePassed, IsReachedBy, IsRefusedRegion, Setting}
use Rattle.lpis_run_country.specs.CountryFailures.{IsStoppedBefore, IsUnreadFolder}
use Rattle.lpis_run_country.specs.CountryLines.{country_lines, region_report}
use Rattle.lpis_run_country.specs.Regions.{IsFolderRead, Texts}
use Rattle.lpis_run_country.specs.RegionsOutcome.{IsRegionsRefusal, JoinsAll, RegionsEnd, RegionsStop}
use Rattle.lpis_run_country.specs.CountryFailures.{StopsRegions}
use Rattle.lpis_run_country.specs.private.Progressing.{AnswersRegions, RunsRegions}
use Rattle.lpis_run_country.specs.private.Progressing.{FollowsAs, HasGathered, HasPassedAll, IsAt, IsBrokenOff, IsFailureOf, IsFinished, IsHere, IsReady, IsStart, IsUnfinished}
use Rattle.lpis_run_country.specs.private.Progressing.{IsVerdict, IsVerdictText, IsWritten, RegionsPass, setting_at}
use Rattle.lpis_run_country.specs.private.Totals.{AreTotalsOf, IsPrintable, last_lines}
use Rattle.lpis_run_country.proofs.PassedLemmas.{passed_length, passed_more, passed_sound, reached_by, refused_next}
use Rattle.lpis_run_country.proofs.TotalsLemmas.{bounded_of, few_new, last_lines_are, printable, totals_grow}

-- ---- writers
-- a beginning of what follows a text
begins-more : (old now new : Option (List ℕ)) (a b : List ℕ) → Appends old now a → Begins now new b → Begins old new (a ++ b)
begins-more old now new a b h (n, k) = (length a + n, subst (Appends old new) (sym (take-append-add a b n)) (appends-more old now new a (take n b) h k))

keeps-nothing : (old new : Option (List ℕ)) → Keeps old new → Appends old new []
keeps-nothing None new h = tt
keeps-nothing (Some xs) None h = h
keeps-nothing (Some xs) (Some ys) h = h ∙ sym (append-nil xs)

-- nothing more
appends-kept : (old now new : Option (List ℕ)) (a : List ℕ) → Appends old now a → Keeps now new → Appends old new a
appends-kept old now new a h k = subst (Appends old new) (append-nil a) (appends-more old now new a [] h (keeps-nothing now new k))

-- ---- the start
room : (n m p : ℕ) → p ≤ 200000 * n → n < m → m ≤ 10000 → p + 200000 ≤ 200000 * 10000
room n m p a b c = omega arith

next-there : (next before n tiles names items : ℕ) → next ≡ before → before ≡ n → items ≡ tiles → names ≡ tiles → n < names → next < items
next-there next before n tiles names items a b c d lt = omega arith

-- the next region can be read
pub ready : (s : Setting) (p q : Progress) (n : ℕ) (old new : Option (List ℕ)) → IsStart s p → IsHere s q n old new → n < length s.names → IsReady q
ready s p q n old new start here lt = record {
  next = next-there _ _ _ _ _ _ here.at.seam.number here.number (ap length here.at.seam.tiles_are) start.planned.as_many lt;
  setting = s;
  before = here.before;
  at = here.at;
  room = room n (length s.names) q.totals.parcels (subst (λ (k : ℕ). q.totals.parcels ≤ 200000 * k) here.number here.at.few) lt start.planned.few;
}

-- before the first region
appends-nothing : (old : Option (List ℕ)) → Appends old old []
appends-nothing None = tt
appends-nothing (Some xs) = sym (append-nil xs)

-- at the start no region has passed, and nothing has been written
pub begun_here : (s : Setting) (p : Progress) (old : Option (List ℕ)) → IsStart s p → IsHere s p 0 old old
begun_here s p old start = record { before = []; text = []; have_passed = NonePassed; written = appends-nothing old; at = start.at; number = refl }

-- a run over the regions of what was begun can start
pub starts : (texts : List ℕ → Texts) (detail : Detail) (b : BegunParts) (names : List (String Global)) (tiles : List Box4) (classes : List Class) (p : Progress) → map string_bytes names ≡ b.names
    → tiles ≡ b.tiles → IsPlanned b.names b.tiles → IsSeamOf tiles classes [] p.seam → ((r : Contents) → AreTotalsOf r [] p.totals) → HasGathered [] p.gathered
    → IsStart (setting_at texts detail names p) p
starts texts detail b names tiles classes p names_are tiles_are planned seam totals gathered = record {
  at = record {
    seam = subst (λ ts. IsSeamOf ts p.seam.classes.items [] p.seam) (sym seam.tiles_are) (subst (λ ks. IsSeamOf tiles ks [] p.seam) (sym seam.classes_are) seam);
    totals = totals (record { parcels = []; pieces = []; classes = p.seam.classes.items });
    few = let none = (totals (record { parcels = []; pieces = []; classes = p.seam.classes.items })).parcels in omega (arith, none);
    gathered = gathered;
  };
  planned = subst (λ ks. IsPlanned ks p.seam.tiles.items) (sym names_are) (subst (IsPlanned b.names) (sym (seam.tiles_are ∙ tiles_are)) planned);
}

-- ---- the setting
-- it stays the same as regions pass
pub setting_stays : (texts : List ℕ → Texts) (detail : Detail) (xs ys : List (String Global)) (p q : Progress) (before : List Contents) → xs ≡ ys → IsAt (setting_at texts detail ys p) before q
    → setting_at texts detail xs q ≡ setting_at texts detail ys p
setting_stays texts detail xs ys p q before same at =
    ap (λ ks. setting_at texts detail ks q) same
    ∙ ap₂ (λ (ts : List Box4) (ks : List Class). setting_in texts detail (record { names = map string_bytes ys; tiles = ts; classes = ks })) at.seam.tiles_are at.seam.classes_are

-- it begins as that of what was begun
pub setting_begins : (texts : List ℕ → Texts) (detail : Detail) (b : BegunParts) (names : List (String Global)) (tiles : List Box4) (classes : List Class) (p : Progress)
    → map string_bytes names ≡ b.names → tiles ≡ b.tiles → classes ≡ b.classes → IsSeamOf tiles classes [] p.seam → setting_at texts detail names p ≡ setting_in texts detail b
setting_begins texts detail b names tiles classes p names_are tiles_are classes_are seam =
    ap (λ (ns : List (List ℕ)). setting_in texts detail (record { names = ns; tiles = p.seam.tiles.items; classes = p.seam.classes.items })) names_are
    ∙ ap₂ (λ (ts : List Box4) (ks : List Class). setting_in texts detail (record { names = b.names; tiles = ts; classes = ks })) (seam.tiles_are ∙ tiles_are) (seam.classes_are ∙ classes_are)

-- ---- the verdict
-- on a region that is a sound map
pub judged : (r : Result (Vec ℕ Global) Stop) (s : Setting) (before : List Contents) (name : List ℕ) (x : Inputs) (region : Contents) (p : Progress) → IsFolderRead x (s.texts name)
    → IsProvedOf x region → FollowsAs s before name region p r → IsVerdict s before name p r
judged (Ok text) s before name x region p told said (fits, is, at) = (region, record { inputs = x; told = told; said = said; fits = fits }, is, at)
judged (Err stop) s before name x region p told said h =
    refused-more (IsMisfit s before name region) (IsRefusedRegion s before name) stop
    (λ a misfit. (x, told, inr (region, said, misfit))) h

-- on inputs that `check` refuses
pub check_refused : (s : Setting) (before : List Contents) (name : List ℕ) (x : Inputs) (stop in_it : Stop) → IsFolderRead x (s.texts name) → IsRefusedAs (IsRefusal x) stop
    → IsInRegion stop name in_it → IsRefusedAs (IsRefusedRegion s before name) in_it
check_refused s before name x stop in_it told refusal of =
    refused-more (λ a. (b : Answer) × IsRefusal x b × (a ≡ (line_in_region b.0 name, b.1))) (IsRefusedRegion s before name) in_it (λ a refused. (x, told, inl refused))
    (stopped-in-region (IsRefusal x) name stop in_it refusal of)

-- the first fault, which is none of memory
pub first_of : (faults : List SeamFault) (fault : SeamFault) → (fault ≡ NoMemory) ⊎ IsFirstSeamFault faults fault → (fault ≡ NoMemory → ⊥) → IsFirstSeamFault faults fault
first_of faults fault (inl e) is_none = absurd (is_none e)
first_of faults fault (inr first) is_none = first

-- a refusal that was written
pub refused_written : (s : Setting) (before : List Contents) (name : List ℕ) (p : Progress) (v : Result (Vec ℕ Global) Stop) (stop : Stop) (a : Printed) (status : ℕ) (old new : Option (List ℕ))
    → v ≡ Err stop → stop ≡ Refused a → status ≡ a.status → Appends old new a.text.items → IsVerdict s before name p v
    → (text : List ℕ) × IsRefusedRegion s before name (text, status) × Appends old new text
refused_written s before name p v stop a status old new is refused same written verdict =
    let told : IsRefusedAs (IsRefusedRegion s before name) stop = subst (IsVerdict s before name p) is verdict in
    let refusal : IsRefusedRegion s before name (a.text.items, a.status) = subst (IsRefusedAs (IsRefusedRegion s before name)) refused told in
    (a.text.items, subst (λ (n : ℕ). IsRefusedRegion s before name (a.text.items, n)) (sym same) refusal, written)

-- ---- going on
-- a region more
pub goes_on : (s : Setting) (p q : Progress) (n : ℕ) (old now new : Option (List ℕ)) (here : IsHere s p n old now) → n < length s.names
    → IsWritten s here.before (get_or s.names n []) q now new None → IsHere s q (n + 1) old new
goes_on s p q n old now new here lt (r, passes, written, at) =
    let name = get_or s.names n [] in
    record {
      before = here.before ++ r ∷ [];
      text = here.text ++ region_report s.detail (country_of s.classes here.before) name r;
      have_passed = passed_more s n here.before here.text name r lt refl here.have_passed passes;
      written = appends-more old now new here.text (region_report s.detail (country_of s.classes here.before) name r) here.written written;
      at = at;
      number = length-append here.before (r ∷ []) ∙ ap (λ (k : ℕ). k + 1) here.number;
    }

-- a region that is refused is no yes
refused-no : (s : Setting) (before : List Contents) (name text : List ℕ) (status : ℕ) → IsRefusedRegion s before name (text, status) → status ≢ done
refused-no s before name text status (x, told, inl (b, refusal, is)) = λ e. refusal.1 (sym (ap (λ (a : Answer). a.1) is) ∙ e)
refused-no s before name text status (x, told, inr (r, said, (fault, first, is))) = one-is-not-done status (ap (λ (a : Answer). a.1) is)
  where
    one-is-not-done : (n : ℕ) → n ≡ 1 → n ≡ 0 → ⊥
    one-is-not-done n one zero = omega arith

-- the next region is refused
pub is_refused : (s : Setting) (p q : Progress) (n status : ℕ) (old now new : Option (List ℕ)) (here : IsHere s p n old now) → n < length s.names
    → IsWritten s here.before (get_or s.names n []) q now new (Some status) → RegionsPass s q old new (Some status)
is_refused s p q n status old now new here lt (text, refusal, written) = (
  (
    here.text ++ text,
    refused_next s n here.before here.text (get_or s.names n []) text status lt refl here.have_passed refusal,
    appends-more old now new here.text text here.written written,
  ),
  refused-no s here.before (get_or s.names n []) text status refusal,
)

-- ---- one region more
last-of : {A : Type 0} (P : A → Type 0) (xs : List A) (x : A) → All P (xs ++ x ∷ []) → P x
last-of P [] x h = All-head P x [] h
last-of P (y ∷ xs) x h = last-of P xs x (All-tail P y (xs ++ x ∷ []) h)

counted : (q p l w n m : ℕ) → q ≡ l → l ≡ p + w → p ≤ 200000 * n → w ≤ 200000 → m ≡ n + 1 → q ≤ 200000 * m
counted q p l w n m a b c d e = omega arith

-- a progress with a region more in its seam, its new parcels in its totals and with what was gathered, is that of the regions with this one
pub goes_at : (s : Setting) (before : List Contents) (r : Contents) (p q : Progress) (t : Totals) → IsAt s before p → IsSeamOf s.tiles s.classes (before ++ r ∷ []) q.seam → length r.parcels ≤ 200000
    → AreTotalsOf r (new_parcels (country_of s.classes before) r) t
    → ((x : Contents) (ks ls : List Parcel) → AreTotalsOf x ks p.totals → AreTotalsOf x ls t → AreTotalsOf x (ks ++ ls) q.totals)
    → HasGathered ((country_of s.classes before).parcels ++ new_parcels (country_of s.classes before) r) q.gathered → IsAt s (before ++ r ∷ []) q
goes_at s before r p q t at seam few news plus gathered =
    let u = country_of s.classes before in
    let same : r.classes ≡ s.classes = last-of (λ (x : Contents). x.classes ≡ s.classes) before r seam.joined.classes_are in
    let totals = totals_grow s.classes before r p.totals t q.totals at.seam.joined.regions_are same at.totals news plus in
    let grown = ap (λ (c : Contents). length c.parcels) (country_snoc s.classes before r) ∙ length-append u.parcels (new_parcels u r) in
    record {
      seam = seam;
      totals = totals;
      few = counted q.totals.parcels (length u.parcels) _ (length (new_parcels u r)) (length before) _ totals.parcels grown (subst (λ (n : ℕ). n ≤ 200000 * length before) at.totals.parcels at.few)
          (few_new u r 200000 few) (length-append before (r ∷ []));
      gathered = subst (λ (c : Contents). HasGathered c.parcels q.gathered) (sym (country_snoc s.classes before r)) gathered;
    }

-- ---- breaking off
-- where a folder is not read, memory ran out, or a file was not read
pub unread_is : (t : Texts) (failure : Failure) → IsUnreadFolder t failure → (failure ≡ Memory) ⊎ ((file : Name) × (failure ≡ Read file))
unread_is t failure (inl (inl e)) = inl e
unread_is t failure (inl (inr (inl (may, e)))) = inr (Parcels, e)
unread_is t failure (inl (inr (inr (inl (may, e))))) = inr (Covers, e)
unread_is t failure (inl (inr (inr (inr (inl (may, e)))))) = inr (Classes, e)
unread_is t failure (inl (inr (inr (inr (inr (may, e)))))) = inr (Cert, e)
unread_is t failure (inr (f, opened, unread)) = some_unread (folder_named f) failure unread

-- another failure is none of these
no_other : (failure : Failure) → (failure ≡ Memory) ⊎ ((file : Name) × (failure ≡ Read file)) → (failure ≡ Memory → ⊥) → ((file : Name) → failure ≡ Read file → ⊥) → ⊥
no_other failure (inl e) m r = m e
no_other failure (inr (file, e)) m r = r file e

-- the folder was not read, or memory ran out
pub is_stopped : (texts : List ℕ → Texts) (failure : Failure) (name : List ℕ) (left : List (List ℕ)) (f : Failure) → IsUnreadFolder (texts name) failure → IsFailureOf failure name f
    → IsStoppedBefore texts (name ∷ left) f
is_stopped texts Memory name left f u h = inl h
is_stopped texts (Read file) name left f u h = inr (file, u, h)
is_stopped texts (ReadOf file region) name left f u h = absurd (no_other (ReadOf file region) (unread_is (texts name) (ReadOf file region) u) (λ e. cc) (λ r e. cc))
is_stopped texts (Write file) name left f u h = absurd (no_other (Write file) (unread_is (texts name) (Write file) u) (λ e. cc) (λ r e. cc))
is_stopped texts Store name left f u h = absurd (no_other Store (unread_is (texts name) Store u) (λ e. cc) (λ r e. cc))
is_stopped texts StoreMemory name left f u h = absurd (no_other StoreMemory (unread_is (texts name) StoreMemory u) (λ e. cc) (λ r e. cc))

-- memory may run out before any folder
pub memory_stops : (texts : List ℕ → Texts) (left : List (List ℕ)) → IsStoppedBefore texts left Memory
memory_stops texts [] = refl
memory_stops texts (name ∷ left) = inl refl

-- a beginning of the verdict on the next region was written
begun-verdict : (s : Setting) (n : ℕ) (before : List Contents) (lines name text : List ℕ) → n < length s.names → name ≡ get_or s.names n [] → HavePassed s (take n s.names) before lines
    → IsVerdictText s before name text
    → ((g : Failure) × StopsRegions s (lines ++ text) g) ⊎ ((status : ℕ) × IsRegionsRefusal s (lines ++ text, status))
begun-verdict s n before lines name text lt is h (inl (r, passes, same)) =
    let reached = reached_by s (n + 1) (before ++ r ∷ []) (lines ++ region_report s.detail (country_of s.classes before) name r) (passed_more s n before lines name r lt is h passes) in
    let reached_text = subst (λ (x : List ℕ). IsReachedBy s (before ++ r ∷ []) (lines ++ x) (drop (n + 1) s.names)) (sym same) reached in
    inl (Memory, (before ++ r ∷ [], drop (n + 1) s.names, reached_text, memory_stops s.texts (drop (n + 1) s.names)))
begun-verdict s n before lines name text lt is h (inr (status, refusal)) =
    inr (status, (refused_next s n before lines name text status lt is h refusal, refused-no s before name text status refusal))

-- where the next folder is not read, or the output fails within the verdict on it, the run breaks off
pub breaks_off : (s : Setting) (p : Progress) (n : ℕ) (old now new : Option (List ℕ)) (f : Failure) (here : IsHere s p n old now) → n < length s.names
    → IsBrokenOff s here.before (get_or s.names n []) now new f → RegionsStop s old new f
breaks_off s p n old now new f here lt (failure, inl (unread, keeps), of) =
    let name = get_or s.names n [] in
    inl (
      here.text,
      (
        here.before,
        name ∷ drop (n + 1) s.names,
        subst (IsReachedBy s here.before here.text) (drop_more s.names n [] lt) (reached_by s n here.before here.text here.have_passed),
        is_stopped s.texts failure name (drop (n + 1) s.names) f unread of,
      ),
      appends-kept old now new here.text here.written keeps,
    )
breaks_off s p n old now new f here lt (failure, inr (write, (text, verdict, begins)), of) =
    let name = get_or s.names n [] in
    inr (
      subst (λ (x : Failure). IsFailureOf x name f) write of,
      (here.text ++ text, begun-verdict s n here.before here.text name text lt refl here.have_passed verdict, begins-more old now new here.text text here.written begins),
    )

-- a refusal is an answer that is no yes
refusal-answers : (s : Setting) (a : Answer) → IsRegionsRefusal s a → AnswersRegions s a
refusal-answers s a (answer, other) = record { answer = answer; all = λ e. absurd (other e) }

-- a run that stops before its last region breaks off
pub stopped_run : (s : Setting) (old new : Option (List ℕ)) (f : Failure) → RegionsStop s old new f → RunsRegions s old new (Err f)
stopped_run s old new f h = record {
  answer = tt;
  failure = inr (breaks_off_more (StopsRegions s) (StopsRegions s) (IsRegionsRefusal s) (AnswersRegions s) old new f (λ lines g stopped. stopped) (refusal-answers s) h);
}

-- a run ends with the first region that is refused
pub refused_run : (s : Setting) (old new : Option (List ℕ)) (status : ℕ) → RegionsEnd s old new status → status ≢ done → RunsRegions s old new (Ok status)
refused_run s old new status (text, answer, written) other = record { answer = (text, refusal-answers s (text, status) (answer, other), written); failure = tt }

-- ---- the end
-- the country's lines are of what passed
pub last_are : (s : Setting) (regions : List Contents) (p : Progress) (n : ℕ) → IsAt s regions p → n ≡ length regions
    → last_lines n p.totals ≡ country_lines (length regions) (country_of s.classes regions)
last_are s regions p n at e =
    last_lines_are n (length regions) (country_of s.classes regions) p.totals (country_is_region s.classes regions at.seam.joined.regions_are) at.totals e

-- where lines were written and the status is that of a yes, the run is finished
pub finishes : (lines : List ℕ) (r : Result ℕ Failure) (old new : Option (List ℕ)) (text : List ℕ) (status : ℕ) → text ≡ lines → status ≡ done → IfOk r (λ (n : ℕ). n ≡ status)
    → OnOk r (Appends old new text) → IfOk r (IsFinished lines old new)
finishes lines (Ok n) old new text status is ends same written = record { done_is = same ∙ ends; written = subst (Appends old new) is written }
finishes lines (Err f) old new text status is ends same written = tt

-- where the output failed within them, the run is not finished
pub finishes_not : (lines : List ℕ) (r : Result ℕ Failure) (old new : Option (List ℕ)) (text : List ℕ) → text ≡ lines → IfErr r (λ (f : Failure). (f ≡ Write Out) × Begins old new text)
    → IfErr r (IsUnfinished lines old new)
finishes_not lines (Ok n) old new text is h = tt
finishes_not lines (Err f) old new text is h = inr (h.0, subst (Begins old new) is h.1)

-- where as many regions passed as there are folders, those of all folders passed
pub has_passed_all : (s : Setting) (p : Progress) (n : ℕ) (old now : Option (List ℕ)) → IsHere s p n old now → n ≡ length s.names → HasPassedAll s p old now
has_passed_all s p n old now here e = record {
  regions = here.before;
  lines = here.text;
  have_passed = subst (λ (ks : List (List ℕ)). HavePassed s ks here.before here.text) (ap (λ (k : ℕ). take k s.names) e ∙ take-all s.names) here.have_passed;
  at = here.at;
  written = here.written;
}
  where
    take-all : (xs : List (List ℕ)) → take (length xs) xs ≡ xs
    take-all [] = refl
    take-all (x ∷ xs) = ap (λ (ys : List (List ℕ)). x ∷ ys) (take-all xs)

-- they leave no folder
pub all_left : (s : Setting) (regions : List Contents) (lines : List ℕ) → HavePassed s s.names regions lines → IsReachedBy s regions lines []
all_left s regions lines h = record { passed = s.names; all = sym (append-nil s.names); have_passed = h }

-- there are as many as folders
pub all_number : (s : Setting) (p : Progress) (old now : Option (List ℕ)) (h : HasPassedAll s p old now) → length s.names ≡ length h.regions
all_number s p old now h = passed_length s s.names h.regions h.lines h.have_passed

-- their country is their union, and a sound map
pub all_join : (s : Setting) (p : Progress) (old now : Option (List ℕ)) → JoinedCountryIsSound → JoinedCountryIsUnion → IsPlanned s.names s.tiles → (h : HasPassedAll s p old now)
    → JoinsAll s h.regions h.lines
all_join s p old now law unites planned h = record {
  have_passed = h.have_passed;
  joined = h.at.seam.joined;
  union = unites s.tiles s.classes h.regions h.at.seam.joined;
  sound = law planned.tiling s.classes h.regions (subst (λ tiles. AreJoined tiles s.classes h.regions) planned.tiles_of h.at.seam.joined)
      (passed_sound s s.names h.regions h.lines h.have_passed) (sym (all_number s p old now h) ∙ planned.as_many ∙ ap length planned.tiles_of);
}

-- what their country has can be printed
pub all_printable : (s : Setting) (regions : List Contents) (p : Progress) (n : ℕ) → IsAt s regions p → n ≡ length regions → n ≤ 10000 → IsPrintable p.totals
all_printable s regions p n at e few =
    let u = country_of s.classes regions in
    printable p.totals (bounded_of u u.parcels p.totals at.totals) (few-parcels p.totals.parcels (length regions) n at.few e few)
  where
    few-parcels : (k i m : ℕ) → k ≤ 200000 * i → m ≡ i → m ≤ 10000 → k ≤ 200000 * 10000
    few-parcels k i m a b c = omega arith

-- the answer to them
whole-answer : (s : Setting) (p : Progress) (old now : Option (List ℕ)) (h : HasPassedAll s p old now) → JoinsAll s h.regions h.lines
    → AnswersRegions s (h.lines ++ country_lines (length h.regions) (country_of s.classes h.regions), done)
whole-answer s p old now h join = record {
  answer = record {
    text = h.lines;
    end = (country_lines (length h.regions) (country_of s.classes h.regions), done);
    behind = record { regions = h.regions; left = []; reached = all_left s h.regions h.lines h.have_passed; follows = refl };
    is = refl;
  };
  all = λ e. (h.regions, h.lines, join);
}

-- after them the run ends with a yes, or breaks off
pub whole_run : (s : Setting) (p : Progress) (old now new : Option (List ℕ)) (r : Result ℕ Failure) (end : List ℕ) (h : HasPassedAll s p old now) → JoinsAll s h.regions h.lines
    → end ≡ country_lines (length h.regions) (country_of s.classes h.regions) → IfOk r (IsFinished end now new) → IfErr r (IsUnfinished end now new) → RunsRegions s old new r
whole_run s p old now new (Ok status) end h join is fin unfinished =
    let lines = country_lines (length h.regions) (country_of s.classes h.regions) in
    record {
      answer = (
        h.lines ++ lines,
        subst (λ (k : ℕ). AnswersRegions s (h.lines ++ lines, k)) (sym fin.done_is) (whole-answer s p old now h join),
        appends-more old now new h.lines lines h.written (subst (Appends now new) is fin.written),
      );
      failure = tt;
    }
whole_run s p old now new (Err f) end h join is fin (inl (memory, keeps)) = record {
  answer = tt;
  failure = inr (inl (h.lines, (h.regions, [], all_left s h.regions h.lines h.have_passed, memory), appends-kept old now new h.lines h.written keeps));
}
whole_run s p old now new (Err f) end h join is fin (inr (write, begins)) =
    let lines = country_lines (length h.regions) (country_of s.classes h.regions) in
    record {
      answer = tt;
      failure = inr (inr (
        write,
        (h.lines ++ lines, inr (done, whole-answer s p old now h join), begins-more old now new h.lines lines h.written (subst (Begins now new) is begins)),
      ));
    }

-- an error that is known
pub err_is : {A E : Type 0} (r : Result A E) (P Q : E → Type 0) → IsErrAnd r P → ((e : E) → P e → Q e) → IfErr r Q
err_is (Ok x) P Q h f = tt
err_is (Err e) P Q h f = f e h
