use Rattle.std.proofs.Common.{◌≡◌, ℕ, List, subst, arith}
use Rattle.std.specs.Prelude.{map, string_bytes}
use Rattle.env_filters.specs.Entries.{layer_names_of}
use Rattle.chain_build.specs.Chain.{chain_of}
use Rattle.chain_build.specs.Setup.{setup_content}
use Rattle.replay_base.specs.Changes.{Change, changed}
use Rattle.replay_model.specs.Setup.{is_too_long}
use Rattle.report_text.specs.Setups.{outcome_of}
use Rattle.program_words.specs.Meant.{chain_meant}
use Rattle.replay_tool.specs.Showing.{Writes, chain_run, lines_with, tree_seen}
use Rattle.replay_tool.proofs.Writing.{shows_setup}
use Rattle.replay_tool.proofs.chain.show_chain.Goals as goal

pub returns-in-Ok-split_layer_names : goal.returns-in-Ok-split_layer_names
returns-in-Ok-split_layer_names g c =
    let setup = setup_content c.in-Ok.setup in
    let seen = tree_seen (g.T.Tree.files c.args.tree.now) (g.T.Tree.faults c.args.tree.now) (g.T.Tree.faults c.read_setup.new.tree) in
    let sink : Change = changed (g.K.Sink.held c.args.out.now) (g.K.Sink.held c.show_setup.new.out) (g.K.Sink.faults c.args.out.now) (g.K.Sink.faults c.show_setup.new.out) in
    let names : map string_bytes c.deref.result.now ≡ layer_names_of c.args.words.layers.now = grind arith in
    shows_setup (chain_run (chain_meant c.args.words) c.args.env.now seen) sink c.show_setup.result (record {
      setup = setup;
      told = λ files told. record { within = c.in-Ok.ensures.within files told; is = c.in-Ok.ensures.setup files told };
      stood = c.in-Ok.ensures.cause.stood;
      writes = subst (λ (ns : List (List ℕ)). Writes (lines_with setup (outcome_of (chain_of setup ns))) (is_too_long (outcome_of (chain_of setup ns))) sink c.show_setup.result) names c.show_setup.ensures;
    })
