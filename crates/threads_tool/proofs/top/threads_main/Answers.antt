use Rattle.std.proofs.Common.{◌≡◌, ◌∙◌, ap, sym}
use Rattle.std.specs.Prelude.{Some}
use Rattle.std.specs.Option.{option_map}
use Rattle.program_words.specs.Asked.{AsksRun, words_ask}
use Rattle.program_words.specs.Content.{words_of}
use Rattle.program_words.specs.Meant.{run_meant}
use Rattle.replay_base.specs.Changes.{changed}
use Rattle.replay_tool.specs.Showing.{tree_seen}
use Rattle.threads_tool.specs.Outcome.{ThreadsRun, threads_ask}
use Rattle.threads_tool.specs.Ending.{Answer}
use Rattle.threads_tool.proofs.Answering.{answer_by}
use Rattle.threads_tool.proofs.Ending.{answered}
use Rattle.threads_tool.proofs.top.threads_main.Goals as goal

pub returns-in-Ok-replay_words-clause-promises : goal.returns-in-Ok-replay_words-clause-promises
returns-in-Ok-replay_words-clause-promises g c =
    let run : ThreadsRun = record {
      words = words_of c.args.words.now;
      env = c.args.env.now;
      tree = tree_seen (g.T.Tree.files c.args.tree.now) (g.T.Tree.faults c.args.tree.now) (g.T.Tree.faults c.perform-done.new.tree);
      streams = changed (g.S.Source.left c.args.streams.now) (g.S.Source.left c.perform-done.new.streams) (g.S.Source.faults c.args.streams.now) (g.S.Source.faults c.perform-done.new.streams);
      sink = changed (g.K.Sink.held c.args.out.now) (g.K.Sink.held c.perform-done.new.out) (g.K.Sink.faults c.args.out.now) (g.K.Sink.faults c.perform-done.new.out);
      errs = changed (g.L.Sink.held c.args.errs.now) (g.L.Sink.held c.answer_of.new.errs) (g.L.Sink.faults c.args.errs.now) (g.L.Sink.faults c.answer_of.new.errs);
    } in
    let asked = run_meant c.in-Ok-replay_words.asked in
    let is : threads_ask (words_of c.args.words.now) ≡ Some (AsksRun asked) = ap words_ask (sym (ap words_of c.deref.ensures.value ∙ c.in-Ok.ensures)) ∙ c.in-Ok-replay_words.ensures in
    let session = option_map (λ session. option_map (λ x. x.value.kept) session.started) c.answer_of.result.session in
    answered g.D.SharedDriver.log run (λ r. option_map (λ x. x.value.kept) r.0.started) (λ r. r.1.items) asked c.perform-done.result c.answer_of.result.status session c.answer_of.result.seats.items is
    c.perform-done.ensures.all c.perform-done.ensures.stops c.answer_of.ensures.done c.answer_of.ensures.stopped

pub returns-in-Ok-replay_words-clause-policy : goal.returns-in-Ok-replay_words-clause-policy
returns-in-Ok-replay_words-clause-policy g c =
    let asked = run_meant c.in-Ok-replay_words.asked in
    let is : threads_ask (words_of c.args.words.now) ≡ Some (AsksRun asked) = ap words_ask (sym (ap words_of c.deref.ensures.value ∙ c.in-Ok.ensures)) ∙ c.in-Ok-replay_words.ensures in
    let a : Answer g.row.D-Seat.Denot = record {
      status = c.answer_of.result.status;
      session = option_map (λ session. option_map (λ x. x.value.kept) session.started) c.answer_of.result.session;
      seats = c.answer_of.result.seats.items;
      errs = changed (g.L.Sink.held c.args.errs.now) (g.L.Sink.held c.answer_of.new.errs) (g.L.Sink.faults c.args.errs.now) (g.L.Sink.faults c.answer_of.new.errs);
    } in
    answer_by g.D.SharedDriver.answers_by (λ r. option_map (λ x. x.value.kept) r.0.started) (λ r. r.1.items) asked _ c.perform-done.result a is c.perform-done.ensures.policy c.answer_of.ensures.done c.answer_of.ensures.stopped
