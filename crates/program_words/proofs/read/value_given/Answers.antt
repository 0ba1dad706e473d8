use Rattle.std.proofs.Common.{◌∙◌, ap}
use Rattle.clap.specs.Words.{first_of, found_of}
use Rattle.clap.proofs.WalkLemmas.{first_value-rows}
use Rattle.program_words.proofs.Options.{first_is}
use Rattle.program_words.proofs.read.value_given.Goals as goal

pub returns : goal.returns
returns c given rows =
    let name = c.args.name.now in
    c.get_str.ensures ∙ first_value-rows (found_of c.args.options.now) name ∙ ap (first_of name) rows ∙ first_is name given
