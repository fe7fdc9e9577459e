-- The commands: their arguments, and what the words of a command line ask for.
use Rattle.std.specs.Prelude.{◌≡◌, ◌∷◌, [], List, Option, Some, None, codes, fold, map, true}
use Rattle.clap.specs.Words.{App, Row, Rule, Text, all_of, first_of, new_app, new_rule}
use Rattle.clap.specs.Words.{with_rule, with_subcommand}
use Rattle.clap.specs.declared.builder.ArgAction.TheVariants.{Append, Set, SetTrue}
use Rattle.clap.specs.declared.builder.value_parser.ValueParser.TheVariants.{Unsigned}
use Rattle.lpis_run.specs.declared.failure.Name.TheVariants as named
use Rattle.lpis_command_line.specs.Files.{AreTablesIn, IsCountryIn, IsFile}
use Rattle.lpis_command_line.specs.Words.{ArePointsLast, HasWord, IsCert, IsDetail}
use Rattle.lpis_command_line.specs.Words.{IsRelease, IsSubmission, IsYear}
use Rattle.lpis_command_line.specs.declared.commands.Job.{Job}
use Rattle.lpis_command_line.specs.declared.commands.Job.TheVariants.{Exact, ExactCountry}
use Rattle.lpis_command_line.specs.declared.commands.Job.TheVariants.{Publish, PublishCountry}
use Rattle.lpis_command_line.specs.declared.commands.Job.TheVariants.{Trace}
use Rattle.lpis_command_line.specs.declared.commands.Request.{Request}
use Rattle.lpis_command_line.specs.declared.commands.Request.TheVariants.{Area, Cut, Check}
use Rattle.lpis_command_line.specs.declared.commands.Request.TheVariants.{Country, InRegister}
use Rattle.lpis_command_line.specs.declared.commands.Request.TheVariants.{Locate, LocateCountry}

-- a required argument of one word
abbrev pub word_rule : Text → Rule
word_rule id = record (new_rule id) { required = true; action = Some Set }

-- so is one that may be left out
abbrev pub word_rule_if_any : Text → Rule
word_rule_if_any id = record (new_rule id) { action = Some Set }

-- a command by its name and its arguments, in their order
abbrev pub command : Text → List Rule → App
command name rules = fold with_rule (new_app name) rules

-- the commands. A year is a number from 1 to 9999
abbrev pub commands : List App
commands =
    let dir = word_rule (codes "dir") in
    let cert = word_rule (codes "cert") in
    let cert_if_any = word_rule_if_any (codes "cert") in
    let db = word_rule (codes "db") in
    let year = record (word_rule (codes "year")) { parser = Some (Unsigned 1 9999) } in
    let ids = record (new_rule (codes "id")) { required = true; action = Some Append } in
    let parcels = record (new_rule (codes "parcels"))
    { long = Some (codes "parcels"); action = Some SetTrue } in
    let exact = record (new_rule (codes "exact"))
    { long = Some (codes "exact"); action = Some Set; value_names = 1 } in
    command (codes "area") (word_rule (codes "file") ∷ [])
    ∷ command (codes "cut") (dir ∷ cert ∷ [])
    ∷ command (codes "check") (dir ∷ cert_if_any ∷ [])
    ∷ command (codes "country") (dir ∷ parcels ∷ [])
    ∷ command (codes "locate")
    (dir ∷ word_rule (codes "cert-or-points") ∷ word_rule_if_any (codes "points") ∷ [])
    ∷ command (codes "locate-country") (dir ∷ word_rule (codes "points") ∷ [])
    ∷ command (codes "exact") (db ∷ dir ∷ cert ∷ word_rule (codes "out") ∷ [])
    ∷ command (codes "exact-country") (db ∷ dir ∷ word_rule (codes "file") ∷ [])
    ∷ command (codes "publish") (db ∷ year ∷ dir ∷ cert_if_any ∷ [])
    ∷ command (codes "publish-country") (db ∷ year ∷ dir ∷ exact ∷ parcels ∷ [])
    ∷ command (codes "trace") (db ∷ ids ∷ []) ∷ []

-- the program, which has a version and wants a command
abbrev pub program_app : App
program_app =
    let a = new_app (codes "lpis") in
    record a { top = record a.top { subcommand_required = true; has_version = true } }

-- the program with its commands
abbrev pub command_line_app : App
command_line_app = fold (λ whole one. with_subcommand whole one.top) program_app commands

-- the job has this name, and its files and words are those of its arguments
abbrev pub IsJobNamed : Job → Text → List Row → Type 0
IsJobNamed (Exact submission out) name rows = (name ≡ codes "exact")
    × IsSubmission submission rows × (first_of (codes "out") rows ≡ Some out.now)
IsJobNamed (ExactCountry country file) name rows = (name ≡ codes "exact-country")
    × HasWord (codes "dir") (λ dir. IsCountryIn dir country) rows
    × (first_of (codes "file") rows ≡ Some file.now)
IsJobNamed (Publish year submission) name rows =
    (name ≡ codes "publish") × IsYear year rows × IsSubmission submission rows
IsJobNamed (PublishCountry year country exact detail) name rows = (name ≡ codes "publish-country")
    × IsYear year rows × HasWord (codes "dir") (λ dir. IsCountryIn dir country) rows
    × IsCert (codes "exact") exact rows × IsDetail detail rows
IsJobNamed (Trace ids) name rows =
    (name ≡ codes "trace") × (all_of (codes "id") rows ≡ Some (map (λ w. w.now) ids.now))

-- the command has this name, and its files and words are those of its arguments
abbrev pub IsRequestNamed : Request → Text → List Row → Type 0
IsRequestNamed (Area table) name rows =
    (name ≡ codes "area") × HasWord (codes "file") (λ path. IsFile named.Area path table) rows
IsRequestNamed (Cut tables cert) name rows = (name ≡ codes "cut")
    × HasWord (codes "dir") (λ dir. AreTablesIn dir tables) rows
    × (first_of (codes "cert") rows ≡ Some cert.now)
IsRequestNamed (Check release) name rows = (name ≡ codes "check") × IsRelease release rows
IsRequestNamed (Country country detail) name rows = (name ≡ codes "country")
    × HasWord (codes "dir") (λ dir. IsCountryIn dir country) rows × IsDetail detail rows
IsRequestNamed (Locate release points) name rows = (name ≡ codes "locate")
    × HasWord (codes "dir") (λ dir. AreTablesIn dir release.tables) rows
    × ArePointsLast release.cert points rows
IsRequestNamed (LocateCountry country points) name rows = (name ≡ codes "locate-country")
    × HasWord (codes "dir") (λ dir. IsCountryIn dir country) rows
    × HasWord (codes "points") (λ path. IsFile named.Points path points) rows
IsRequestNamed (InRegister db job) name rows =
    (first_of (codes "db") rows ≡ Some db.now) × IsJobNamed job name rows

-- the request is the command that the words name, with its words
abbrev pub IsRequest : Request → Option (Text × List Row) → Type 0
IsRequest r None = ⊥
IsRequest r (Some p) = IsRequestNamed r p.0 p.1
