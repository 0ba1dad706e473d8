use Rattle.std.proofs.Common.{◌≡◌, ◌∙◌, ℕ, Bor, ap, map}
use Rattle.stream_log.specs.declared.entry.Entry.{Entry}
use Rattle.stream_log.specs.Log.{line_of}
use Rattle.threaded_replay.specs.Files.{file_parts}
use Rattle.stream_merge.specs.Gathered.{events_gathered, replies_gathered}
use Rattle.log_merge.specs.Numbered.{numbered}
use Rattle.stream_run.specs.Gathering.{lines_of}
use Rattle.stream_run.proofs.Holding.{lines_numbered}
use Rattle.stream_run.proofs.merged.gather.Goals as goal

pub returns : goal.returns
returns c =
    let streams = (file_parts c.args.file.now).streams in
    let lines : map (λ (e : Bor Entry). line_of e.now) c.in_ok-entries.entries.items ≡ lines_of (map numbered c.in_ok-numbered.numbered.items) =
    c.in_ok-entries.ensures ∙ (ap (map (λ (x : ℕ × Bor Entry). line_of x.1.now)) c.deref.ensures.value ∙ lines_numbered c.in_ok-numbered.numbered.items) in
    record {
      merged = map numbered c.in_ok-numbered.numbered.items;
      one = c.in_ok-numbered.ensures;
      events_are = c.in_ok-events.ensures ∙ ap (events_gathered streams) (ap (map (λ (e : Bor Entry). line_of e.now)) c.deref-2.ensures.value ∙ lines);
      replies_are = c.in_ok-replies.ensures ∙ ap (replies_gathered streams (map (λ s. s.items) c.args.sent.now)) (ap (map (λ (e : Bor Entry). line_of e.now)) c.deref-3.ensures.value ∙ lines);
    }
