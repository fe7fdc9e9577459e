-- What the matches of the command line say of a request.
use Rattle.std.proofs.Common.{◌≡◌, ◌∙◌, sym, refl, true, List, ℕ, Option, Some, None, Bor, map, option_map}
use Rattle.clap.specs.Words.{Row, Text, found_of, is_simple, is_simple_and_free, matched_of, raw_values, rows_of, subcommand_name_of, subcommand_rows_of}
use Rattle.clap.specs.declared.parser.matches.ArgMatches.{ArgMatches}
use Rattle.clap.specs.declared.parser.matches.ArgMatches.TheViews.{out-ArgMatches}
use Rattle.clap.specs.Matches.{first_value}
use Rattle.clap.proofs.WalkLemmas.{first_value-rows, raw_values-rows}
use Rattle.lpis_command_line.specs.Commands.{IsRequest, IsRequestNamed, command_line_app}
use Rattle.lpis_command_line.specs.Words.{Finds}
use Rattle.lpis_command_line.specs.declared.commands.Request.{Request}
use Rattle.lpis_command_line.specs.private.Found.{AreWords, IsWord}
use Rattle.clap.proofs.OnLiterals.{clap_on_literals}

-- the program's command line is simple: `clap`'s words state which matches it has
pub line-simple : is_simple command_line_app ≡ true
unfolding clap_on_literals
line-simple = refl

-- the program's command line is simple, and none of its arguments has a rule on another
pub line-free : is_simple_and_free command_line_app ≡ true
unfolding clap_on_literals
line-free = refl

-- the word of an option, by the rows
pub option-found : (m : ArgMatches) (id : Text) (o : Option (Bor (List ℕ))) → option_map (λ (s : Bor (List ℕ)). s.now) o ≡ first_value (found_of m) id
    → IsWord id o (rows_of (found_of m))
option-found m id o e = sym (first_value-rows (found_of m) id) ∙ sym e

-- all words of an argument, by the rows
pub words-found : (m : ArgMatches) (id : Text) (o : Option (Bor (List (Bor Text))))
    → option_map (λ (s : Bor (List (Bor Text))). map (λ (v : Bor Text). v.now) s.now) o ≡ option_map raw_values (matched_of (found_of m) id)
    → AreWords id o (rows_of (found_of m))
words-found m id o e = sym (raw_values-rows (found_of m) id) ∙ sym e

-- a request by its name and rows is one by what was found of both
pub requests-are : (r : Option Request) (o : Option (Text × List Row)) (name : Text) (rows : List Row) → Some name ≡ option_map (λ p. p.0) o → Some rows ≡ option_map (λ p. p.1) o
    → Finds (λ c. IsRequestNamed c name rows) r → Finds (λ c. IsRequest c o) r
requests-are r None name rows n h found = cc n
requests-are r (Some p) name rows n h found =
    let same : name ≡ p.0 = cc n in
    let at : rows ≡ p.1 = cc h in
    (rw (same, at) at found)

two : {A B C : Type 0} (f : A → B) (g : A → C) (o : Option A) → option_map f o ≡ option_map (λ (p : B × C). p.0) (option_map (λ (a : A). (f a, g a)) o)
two f g None = refl
two f g (Some a) = refl

-- the name of the subcommand, by its rows
pub name_from_rows : (m : ArgMatches) → subcommand_name_of m ≡ option_map (λ (p : Text × List Row). p.0) (subcommand_rows_of m)
name_from_rows m = two _ _ (out-ArgMatches m).subcommand
