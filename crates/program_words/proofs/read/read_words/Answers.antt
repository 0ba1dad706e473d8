use Rattle.std.proofs.Common.{◌≡◌, ◌∙◌, ap, sym, refl, Option, Some, None, true≢false, option_map, List, map}
use Rattle.std.specs.Prelude.{is_some, option_and_then}
use Rattle.std.specs.Borrow.{Bor}
use Rattle.clap.specs.Walk.{Row, rows_of}
use Rattle.clap.specs.Words.{found_of}
use Rattle.clap.specs.declared.parser.matches.ArgMatches.{ArgMatches}
use Rattle.program_words.specs.Program.{option_row}
use Rattle.program_words.specs.Content.{words_of}
use Rattle.program_words.specs.Asked.{Asked, asked_of}
use Rattle.program_words.specs.Words.{GivenOptions, Word, understood}
use Rattle.program_words.proofs.read.read_words.Goals as goal

abbrev rows_in : Bor Word × Bor ArgMatches → List Row
rows_in p = rows_of (found_of p.1.now)

abbrev second : Word × List Row → List Row
second p = p.1

abbrev by_pair : Word × GivenOptions → Option Asked
by_pair p = asked_of p.0 p.1

pub returns-in_default-clause-words : goal.returns-in_default-clause-words
returns-in_default-clause-words c e = go (understood (words_of c.args.words.now)) refl
  where
    go : (o : Option (Word × GivenOptions)) → understood (words_of c.args.words.now) ≡ o → option_and_then by_pair (understood (words_of c.args.words.now)) ≡ None
    go None is = ap (option_and_then by_pair) is
    go (Some p) is =
        let found = c.in_ok-found.ensures.ok p is in
        let none : None ≡ Some (map option_row p.1) = ap (option_map rows_in) (sym c.in_default.is) ∙ c.subcommand.ensures.rows ∙ ap (option_map second) found in
        absurd (true≢false (sym (ap is_some none)))
