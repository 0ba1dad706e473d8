use Rattle.std.proofs.Common.{◌∙◌, ap}
use Rattle.clap.specs.Words.{is_simple, subcommand_of, takes}
use Rattle.program_words.specs.Content.{words_of}
use Rattle.program_words.proofs.Clap.{read_taken}
use Rattle.program_words.proofs.read.matches.Goals as goal

pub returns-in-Ok-try_get_matches_from-clause-ok : goal.returns-in-Ok-try_get_matches_from-clause-ok
returns-in-Ok-try_get_matches_from-clause-ok c p is =
    let words = words_of c.args.words.now in
    let taken = read_taken words p.0 p.1 is in
    (c.in-Ok-try_get_matches_from.ensures.matches (ap is_simple c.in-Ok.ensures)).1 ∙ ap (λ a. subcommand_of a words) c.in-Ok.ensures ∙ taken.entered

pub returns : goal.returns
returns c = record {
  ok = λ p is. tt;
  err = λ p is.
      let words = words_of c.args.words.now in
      let taken = read_taken words p.0 p.1 is in
      let memory = c.in-Err.ensures.passes (ap (λ a. takes a words) c.in-Ok.ensures ∙ taken.taken) in
      absurd (c.in_default-kind.not-OutOfMemory (c.kind.ensures ∙ memory));
}
