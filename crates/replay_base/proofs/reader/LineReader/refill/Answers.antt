use Rattle.std.proofs.Common.{◌≡◌, ◌+◌, length, ap, take, ◌∙◌}
use Rattle.std.proofs.lemmas.List.{with_items_is}
use Rattle.replay_base.specs.Bytes.{before}
use Rattle.replay_base.specs.Reader.{kept_of, part}
use Rattle.replay_base.proofs.ReaderLemmas.{rest_behind}
use Rattle.replay_base.proofs.reader.LineReader.refill.Goals as goal

pub returns-clause-rest : goal.returns-clause-rest
returns-clause-rest g c =
    let moved = c.compact.new.self in
    let kept = kept_of c.args.self.now in
    let same = c.read_behind.ensures.front ∙ ap (take moved.to) c.deref_mut.ensures.value in
    let whole : length c.read_behind.new.buffer ≡ moved.buffer.len = c.read_behind.ensures.size ∙ c.deref_mut.ensures.len in
    ap (λ ys. before (part ys moved.from (moved.to + c.in_ok-count.count)) (g.S.Source.left c.read_behind.new.source)) (with_items_is moved.buffer c.read_behind.new.buffer whole)
    ∙ rest_behind kept moved.buffer.items c.read_behind.new.buffer (g.S.Source.left moved.source) (g.S.Source.left c.read_behind.new.source) moved.from moved.to c.in_ok-count.count c.compact.ensures.front c.compact.ensures.kept same c.in_ok-count.ensures.bytes.0
    ∙ ap (λ s. before kept (g.S.Source.left s)) c.compact.ensures.source
