use Rattle.std.specs.Prelude.{◌≡◌, take, false}
use Rattle.clap.specs.Words.{app_of}
use Rattle.clap.specs.declared.builder.command.Command.TheViews.{out-Command}
use Rattle.program_words.specs.Content.{known_of}
use Rattle.program_words.specs.Program.{alone}
use Rattle.program_words.proofs.read.command_of.Given as goal

abbrev pub invariant-loop-name : goal.invariant-loop-name
invariant-loop-name l = (app_of l.command ≡ alone l.fn.name (known_of (take l.name-index l.fn.options))) × ((out-Command l.command).has_globals ≡ false)
