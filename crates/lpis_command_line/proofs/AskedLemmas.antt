-- What words ask for, where what they need is not there.
use Rattle.std.proofs.Common.{◌≡◌, ◌≢◌, ◌∙◌, refl, sym, true, false, true≢false, List, ℕ, Option, Some, None, Bor, codes}
use Rattle.std.specs.Str.{bytes_eq}
use Rattle.std.proofs.lemmas.Slice.Eq.{bytes_eq-Decides}
use Rattle.clap.specs.Words.{Row, Text, first_of}
use Rattle.lpis_run.specs.declared.folder.Folder.{Folder}
use Rattle.lpis_run.specs.declared.folder.Submission.{Submission}
use Rattle.lpis_run.specs.declared.folder.Tables.{Tables}
use Rattle.lpis_run.specs.declared.detail.Detail.{Detail}
use Rattle.lpis_run.specs.declared.detail.Detail.TheVariants as detail
use Rattle.lpis_run.specs.declared.failure.Name.TheVariants as named
use Rattle.lpis_command_line.specs.Commands.{IsJobNamed, IsRequestNamed}
use Rattle.lpis_command_line.specs.Files.{AreTablesIn, IsCountryIn, IsFile}
use Rattle.lpis_command_line.specs.Words.{ArePointsLast, Finds, HasWord, IsDetail, IsRelease, IsSubmission, IsYear}
use Rattle.lpis_command_line.specs.declared.commands.Job.{Job}
use Rattle.lpis_command_line.specs.declared.commands.Job.TheVariants.{Exact, ExactCountry, Publish, PublishCountry, Trace}
use Rattle.lpis_command_line.specs.declared.commands.Request.{Request}
use Rattle.lpis_command_line.specs.declared.commands.Request.TheVariants.{Area, Check, Country, Cut, InRegister, Locate, LocateCountry}
use Rattle.lpis_command_line.specs.declared.files.CountryFolder.{CountryFolder}
use Rattle.lpis_command_line.specs.declared.files.NamedFile.{NamedFile}
use Rattle.lpis_command_line.specs.private.Found.{IsInRegister}

-- two words that differ are two names
differ : (a b : Text) → bytes_eq a b ≡ false → a ≢ b
differ a b apart same = true≢false (sym ((bytes_eq-Decides a b).1 same) ∙ apart)

-- no job has another name
pub no-job : (rows : List Row) (name : Text) → name ≢ codes "exact" → name ≢ codes "exact-country" → name ≢ codes "publish" → name ≢ codes "publish-country" → name ≢ codes "trace"
    → (j : Job) → IsJobNamed j name rows → ⊥
no-job rows name a b c d e (Exact submission out) h = a h.0
no-job rows name a b c d e (ExactCountry country file) h = b h.0
no-job rows name a b c d e (Publish year submission) h = c h.0
no-job rows name a b c d e (PublishCountry year country exact detail) h = d h.0
no-job rows name a b c d e (Trace ids) h = e h.0

-- ---- the commands
-- no other request is `area`
pub no-area : (rows : List Row) → ((t : NamedFile) → HasWord (codes "file") (λ path. IsFile named.Area path t) rows → ⊥) → (r : Request) → IsRequestNamed r (codes "area") rows → ⊥
no-area rows none (Area table) h = none table h.1
no-area rows none (InRegister db job) h = no-job rows (codes "area") (differ _ _ refl) (differ _ _ refl) (differ _ _ refl) (differ _ _ refl) (differ _ _ refl) job h.1
no-area rows none other h = differ _ _ refl h.0

-- no other request is `cut`
pub no-cut : (rows : List Row) → ((t : Tables NamedFile) (cert : Text) → HasWord (codes "dir") (λ dir. AreTablesIn dir t) rows → first_of (codes "cert") rows ≡ Some cert → ⊥)
    → (r : Request) → IsRequestNamed r (codes "cut") rows → ⊥
no-cut rows none (Cut tables cert) h = none tables cert.now h.1 h.2
no-cut rows none (InRegister db job) h = no-job rows (codes "cut") (differ _ _ refl) (differ _ _ refl) (differ _ _ refl) (differ _ _ refl) (differ _ _ refl) job h.1
no-cut rows none other h = differ _ _ refl h.0

-- no other request is `check`
pub no-check : (rows : List Row) → ((f : Folder NamedFile) → IsRelease f rows → ⊥) → (r : Request) → IsRequestNamed r (codes "check") rows → ⊥
no-check rows none (Check release) h = none release h.1
no-check rows none (InRegister db job) h = no-job rows (codes "check") (differ _ _ refl) (differ _ _ refl) (differ _ _ refl) (differ _ _ refl) (differ _ _ refl) job h.1
no-check rows none other h = differ _ _ refl h.0

-- no other request is `country`
pub no-country : (rows : List Row) → ((c : CountryFolder) (d : Detail) → HasWord (codes "dir") (λ dir. IsCountryIn dir c) rows → IsDetail d rows → ⊥)
    → (r : Request) → IsRequestNamed r (codes "country") rows → ⊥
no-country rows none (Country c d) h = none c d h.1 h.2
no-country rows none (InRegister db job) h = no-job rows (codes "country") (differ _ _ refl) (differ _ _ refl) (differ _ _ refl) (differ _ _ refl) (differ _ _ refl) job h.1
no-country rows none other h = differ _ _ refl h.0

-- no other request is `locate`
pub no-locate : (rows : List Row) → ((f : Folder NamedFile) (p : NamedFile) → HasWord (codes "dir") (λ dir. AreTablesIn dir f.tables) rows → ArePointsLast f.cert p rows → ⊥)
    → (r : Request) → IsRequestNamed r (codes "locate") rows → ⊥
no-locate rows none (Locate f p) h = none f p h.1 h.2
no-locate rows none (InRegister db job) h = no-job rows (codes "locate") (differ _ _ refl) (differ _ _ refl) (differ _ _ refl) (differ _ _ refl) (differ _ _ refl) job h.1
no-locate rows none other h = differ _ _ refl h.0

-- no other request is `locate-country`
pub no-locate-country : (rows : List Row)
    → ((c : CountryFolder) (p : NamedFile) → HasWord (codes "dir") (λ dir. IsCountryIn dir c) rows → HasWord (codes "points") (λ path. IsFile named.Points path p) rows → ⊥)
    → (r : Request) → IsRequestNamed r (codes "locate-country") rows → ⊥
no-locate-country rows none (LocateCountry c p) h = none c p h.1 h.2
no-locate-country rows none (InRegister db job) h = no-job rows (codes "locate-country") (differ _ _ refl) (differ _ _ refl) (differ _ _ refl) (differ _ _ refl) (differ _ _ refl) job h.1
no-locate-country rows none other h = differ _ _ refl h.0

-- ---- the jobs
-- no other job is `exact`
pub no-exact : (rows : List Row) → ((s : Submission NamedFile) (out : Text) → IsSubmission s rows → first_of (codes "out") rows ≡ Some out → ⊥) → (j : Job) → IsJobNamed j (codes "exact") rows → ⊥
no-exact rows none (Exact s out) h = none s out.now h.1 h.2
no-exact rows none other h = differ _ _ refl h.0

-- no other job is `exact-country`
pub no-exact-country : (rows : List Row) → ((c : CountryFolder) (file : Text) → HasWord (codes "dir") (λ dir. IsCountryIn dir c) rows → first_of (codes "file") rows ≡ Some file → ⊥)
    → (j : Job) → IsJobNamed j (codes "exact-country") rows → ⊥
no-exact-country rows none (ExactCountry c file) h = none c file.now h.1 h.2
no-exact-country rows none other h = differ _ _ refl h.0

-- no other job is `publish`
pub no-publish : (rows : List Row) → ((year : ℕ) (s : Submission NamedFile) → IsYear year rows → IsSubmission s rows → ⊥) → (j : Job) → IsJobNamed j (codes "publish") rows → ⊥
no-publish rows none (Publish year s) h = none year s h.1 h.2
no-publish rows none other h = differ _ _ refl h.0

-- no other job is `publish-country`
pub no-publish-country : (rows : List Row) → ((year : ℕ) (c : CountryFolder) (d : Detail) → IsYear year rows → HasWord (codes "dir") (λ dir. IsCountryIn dir c) rows → IsDetail d rows → ⊥)
    → (j : Job) → IsJobNamed j (codes "publish-country") rows → ⊥
no-publish-country rows none (PublishCountry year c exact d) h = none year c d h.1 h.2 h.4
no-publish-country rows none other h = differ _ _ refl h.0

-- no other job is `trace`
pub no-trace : (rows : List Row) → ((ids : Bor (List (Bor Text))) → IsJobNamed (Trace ids) (codes "trace") rows → ⊥) → (j : Job) → IsJobNamed j (codes "trace") rows → ⊥
no-trace rows none (Trace ids) h = none ids h
no-trace rows none other h = differ _ _ refl h.0

-- a request of another name than those of files alone is a job in a register
pub in-register : (rows : List Row) (name : Text) → name ≢ codes "area" → name ≢ codes "cut" → name ≢ codes "check" → name ≢ codes "country" → name ≢ codes "locate" → name ≢ codes "locate-country"
    → (r : Option Request) → Finds (λ q. IsInRegister q name rows) r → Finds (λ q. IsRequestNamed q name rows) r
in-register rows name a b c d e f (Some (InRegister db job)) h = h
in-register rows name a b c d e f (Some other) h = absurd h
in-register rows name a b c d e f None h = only
  where
    only : (q : Request) → IsRequestNamed q name rows → ⊥
    only (Area table) p = a p.0
    only (Cut tables cert) p = b p.0
    only (Check release) p = c p.0
    only (Country country detail) p = d p.0
    only (Locate release points) p = e p.0
    only (LocateCountry country points) p = f p.0
    only (InRegister db job) p = h (InRegister db job) p
