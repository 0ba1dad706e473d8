use Rattle.std.proofs.Common.{◌≡◌, length, rules, sym, ◌∙◌}
use Rattle.std.proofs.lemmas.List.{length-map}
use Rattle.layer_search.specs.Contents.{found_driver}
use Rattle.chain_build.specs.Setup.{setup_content}
use Rattle.report_text.specs.Setups.{trace_setup}
use Rattle.chain_session.proofs.started.Started.new.Goals as goal

pub returns : goal.returns
returns g c =
    let many : c.len.result ≡ length c.args.setup.now.drivers.list.items = search rules in
    c.nothing.ensures.shows (trace_setup (setup_content c.args.setup.now)) (many ∙ sym (length-map c.args.setup.now.drivers.list.items found_driver))
