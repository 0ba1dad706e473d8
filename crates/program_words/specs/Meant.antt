-- What a request of the code means. Source: this project.
use Rattle.program_words.specs.Asked.{Asked, ChainAsked, GenAsked, RunAsked, SoakAsked, AsksChain, AsksGen, AsksRun, AsksSoak}
use Rattle.program_words.specs.declared.read.ChainWords.{ChainWords}
use Rattle.program_words.specs.declared.read.GenWords.{GenWords}
use Rattle.program_words.specs.declared.read.RunWords.{RunWords}
use Rattle.program_words.specs.declared.read.SoakWords.{SoakWords}
use Rattle.program_words.specs.declared.read.Request.{Request}
use Rattle.program_words.specs.declared.read.Request.TheVariants.{Run, Chain, Gen, Soak}

-- the settings of a replay
abbrev pub run_meant : RunWords → RunAsked
run_meant words = record { root = words.root.now; policy = words.policy; exe = words.exe.now }

-- the settings of a chain that is shown
abbrev pub chain_meant : ChainWords → ChainAsked
chain_meant words = record { root = words.root.now; exe = words.exe.now; layers = words.layers.now }

-- the settings of a trace that is generated
abbrev pub gen_meant : GenWords → GenAsked
gen_meant words = record { number = words.number; calls = words.calls }

-- the settings of a replay of a generated trace
abbrev pub soak_meant : SoakWords → SoakAsked
soak_meant words = record { run = run_meant words.run; made = gen_meant words.made }

-- what a request asks for
abbrev pub meant : Request → Asked
meant (Run words) = AsksRun (run_meant words)
meant (Chain words) = AsksChain (chain_meant words)
meant (Gen words) = AsksGen (gen_meant words)
meant (Soak words) = AsksSoak (soak_meant words)
