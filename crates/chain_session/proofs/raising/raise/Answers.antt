use Rattle.std.proofs.Common.{◌≡◌, true, false}
use Rattle.replay_model.specs.Past.{is_skipped}
use Rattle.chain_model.specs.Traces.{starts_chain}
use Rattle.dispatch_chain.proofs.Stepping.{on_ok}
use Rattle.chain_session.specs.Opened.{opened_of}
use Rattle.chain_session.proofs.Rising.{started_raised, started_rise}
use Rattle.chain_session.proofs.raising.raise.Goals as goal

pub raise_sent-requires-clause-rise : goal.raise_sent-requires-clause-rise
raise_sent-requires-clause-rise g c =
    let goes : is_skipped (opened_of c.args.call.now) ≡ false = cc in
    let starts : starts_chain (opened_of c.args.call.now) ≡ true = cc in
    started_rise c.args.states.now.kept c.start.new.states.kept c.args.terminator.now c.args.call.now c.args.made.now c.in_ok-held.held c.requires.may goes starts c.in_ok-held.ensures.states c.in_ok-held.ensures.held

pub returns-in_ok-held-clause-chain : goal.returns-in_ok-held-clause-chain
returns-in_ok-held-clause-chain g c =
    let goes : is_skipped (opened_of c.args.call.now) ≡ false = cc in
    let starts : starts_chain (opened_of c.args.call.now) ≡ true = cc in
    on_ok c.raise_sent.result
    (λ sent forms h. started_raised c.args.states.now.kept c.start.new.states.kept c.raise_sent.new.states.kept c.args.terminator.now c.raise_sent.new.terminator c.args.names.now.kept.handed c.raise_sent.new.names.kept.handed c.args.call.now forms c.args.made.now c.in_ok-held.held goes starts
    c.in_ok-held.ensures.states c.in_ok-held.ensures.held sent)
    c.raise_sent.ensures.chain
