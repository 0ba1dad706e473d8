-- What `clap` is given, and the rows that it answers with. Source: this project; clap's documentation.
use Rattle.std.specs.Prelude.{true, false, List, [], ◌∷◌, map, codes, Some, None}
use Rattle.clap.specs.Walk.{Row, Rule}
use Rattle.clap.specs.Simple.{App, Shape, new_rule, new_shape}
use Rattle.clap.specs.declared.builder.action.ArgAction.TheVariants.{Set}
use Rattle.clap.specs.declared.builder.value_parser.Reading.TheVariants as reading
use Rattle.clap.specs.declared.builder.value_parser.ValueParser.TheVariants as vp
use Rattle.clap.specs.declared.parser.matches.ValueSource.TheVariants.{CommandLine}
use Rattle.program_words.specs.Words.{Word, commands}

-- `Arg::new(name).long(name)`
abbrev pub long_rule : Word → Rule
long_rule name = record (new_rule name) { long = Some name }

-- what building makes of it
abbrev pub value_rule : Word → Rule
value_rule name = record (long_rule name) {
  action = Some Set;
  range = Some (record { start_inclusive = 1; end_inclusive = 1 });
  parser = Some vp.String;
}

-- what is found of an option with its value
abbrev pub option_row : Word × Word → Row
option_row p = record {
  id = p.0;
  values = p.1 ∷ [];
  count = None;
  source = Some CommandLine;
  reading = reading.AsWritten;
}

-- a command of the program as its builders make it
abbrev pub new_leaf : Word → List Word → Shape
new_leaf name known = record (new_shape name) { rules = map long_rule known }

-- the program as its builders make it
abbrev pub program : App
program = record {
  top = record (new_shape (codes "vkreplay")) { no_binary_name = true; disable_help_flag = true; disable_help_subcommand = true; is_leaf = false };
  subs = map (λ p. new_leaf p.0 p.1) commands;
}

-- one command by itself
abbrev pub alone : Word → List Word → App
alone name known = record { top = new_leaf name known; subs = [] }
