use Rattle.std.proofs.Common.{◌+◌, ap, refl}
use Rattle.replay_base.specs.Reader.{state_of}
use Rattle.replay_base.proofs.ReaderLemmas.{takes_line}
use Rattle.replay_base.proofs.reader.LineReader.take_line.Goals as goal

pub returns-else-count-eq0-clause-text : goal.returns-else-count-eq0-clause-text
returns-else-count-eq0-clause-text g c = λ text.
    let old = c.args.self.now in
    takes_line (state_of g.S.Source.left g.S.Source.faults old) _ old.buffer.items _ old.from old.to c.args.end.length _ c.args.end.ended c.requires.end old.within refl refl refl (ap (λ n. c.args.end.length + n) c.from.ensures) c.if-count-eq0.false refl c.saturating_add-self.ensures c.requires.unfinished refl refl
