-- What a command of `clap` stands for, and what a line of the table of commands asks of `clap`.
use Rattle.std.specs.Prelude.{◌≡◌, Some, false, fold, true}
use Rattle.clap.specs.Words.{App, Rule, Text, app_of, new_app, new_rule, with_rule, with_subcommand}
use Rattle.clap.specs.declared.builder.ArgAction.TheVariants.{Append, Set, SetTrue}
use Rattle.clap.specs.declared.builder.value_parser.ValueParser.TheVariants.{Unsigned}
use Rattle.clap.specs.declared.builder.command.Command.{Command}
use Rattle.clap.specs.declared.builder.command.Command.TheViews.{out-Command}
use Rattle.lpis_command_line.specs.Commands.{word_rule, word_rule_if_any}
use Rattle.lpis_command_line.specs.declared.arguments.Argument.{Argument}
use Rattle.lpis_command_line.specs.declared.arguments.Line.{Line}
use Rattle.lpis_command_line.specs.declared.arguments.Takes.{Takes}
use Rattle.lpis_command_line.specs.declared.arguments.Takes.TheVariants as takes

-- a command of `clap` that is this one, with nothing global
abbrev pub IsCommandOf : App → Command → Type 0
IsCommandOf a c = (app_of c ≡ a) × ((out-Command c).has_globals ≡ false)

-- a required argument of one word or more
abbrev pub words_rule : Text → Rule
words_rule id = record (new_rule id) { required = true; action = Some Append }

-- a required argument that is a number from 1 to 9999
abbrev pub year_rule : Text → Rule
year_rule id = record (word_rule id) { parser = Some (Unsigned 1 9999) }

-- an option without a word, `--` before its name
abbrev pub flag_rule : Text → Rule
flag_rule id = record (new_rule id) { long = Some id; action = Some SetTrue }

-- an option with a word, `--` before its name
abbrev pub option_rule : Text → Rule
option_rule id = record (new_rule id) { long = Some id; action = Some Set; value_names = 1 }

-- the rule of an argument
abbrev pub rule_taking : Takes → Text → Rule
rule_taking takes.Word id = word_rule id
rule_taking takes.WordIfAny id = word_rule_if_any id
rule_taking takes.Words id = words_rule id
rule_taking takes.Year id = year_rule id
rule_taking takes.Nothing id = flag_rule id
rule_taking takes.File id = option_rule id

abbrev pub rule_of_argument : Argument → Rule
rule_of_argument a = rule_taking a.takes a.id.now

-- a command with an argument more
abbrev pub with_argument : App → Argument → App
with_argument one a = with_rule one (rule_of_argument a)

-- a line of the table
abbrev pub line_app : Line → App
line_app l = fold with_argument (new_app l.name.now) l.arguments.now

-- a program with a command more
abbrev pub with_command : App → App → App
with_command whole one = with_subcommand whole one.top

-- a program with a command of the table more
abbrev pub with_line : App → Line → App
with_line whole l = with_command whole (line_app l)
