use Rattle.std.proofs.Common.{◌≡◌, ◌∙◌, false, List, ap, map, refl, reverse, subst, sym}
use Rattle.std.specs.List.{AllByRecursion, list_any}
use Rattle.std.specs.Option.{option_map}
use Rattle.command_tables.specs.Calls.{ReplyContent}
use Rattle.trace_format.specs.Content.{TraceEvent, content}
use Rattle.model_driver.specs.Driver.{reply_shown}
use Rattle.model_driver.specs.Seats.{IsPolicy}
use Rattle.replay_model.specs.Stop.{exceeds_layers}
use Rattle.chain_build.specs.Setup.{setup_content}
use Rattle.report_text.specs.Setups.{trace_setup}
use Rattle.chain_session.proofs.Guarded.{gives_guarded}
use Rattle.threaded_replay.specs.Files.{file_parts}
use Rattle.log_merge.specs.Numbered.{closed_lines}
use Rattle.stream_run.specs.Running.{marks_of}
use Rattle.event_replay.specs.Through.{CanGoOn, GoesThrough, Passage}
use Rattle.event_replay.proofs.Starting.{can_start, went_through}
use Rattle.stream_replay.specs.Playing.{Follows}
use Rattle.stream_replay.specs.Replayed.{HasReplayed, SectionReplies}
use Rattle.stream_replay.proofs.Answering.{policies_kept}
use Rattle.stream_replay.proofs.Composed.{can_merge, can_teardown, has_replayed, merge_stands, ready, tell_streams}
use Rattle.stream_replay.proofs.replaying.replay_streams.Goals as goal

-- setup comes first
pub replay_section-requires-clause-can : goal.replay_section-requires-clause-can
replay_section-requires-clause-can g c κs within =
    let file = file_parts c.args.file.now in
    let own = ap (map content) c.deref.ensures.value in
    subst (λ (es : List TraceEvent). CanGoOn (trace_setup (setup_content c.args.setup.now)) (option_map (λ x. x.value.kept) c.new-session.result.started) es) (sym own)
    (can_start (trace_setup (setup_content c.args.setup.now)) (option_map (λ x. x.value.kept) c.new-session.result.started) file.setup c.new-session.ensures (c.sections_follow_each_other.ensures.setup file c.requires.whole)
    (c.sections_follow_each_other.ensures.short file c.requires.whole))

-- the session stands for it
pub run_streams-requires-clause-ready : goal.run_streams-requires-clause-ready
run_streams-requires-clause-ready g c κs within =
    let file = file_parts c.args.file.now in
    let s = trace_setup (setup_content c.args.setup.now) in
    let x = option_map (λ x. x.value.kept) c.new-session.result.started in
    let k0 = option_map (λ x. x.value.kept) c.replay_section.new.session.started in
    let p0 : Passage = record { old_log = g.D.SharedDriver.log c.in_ok-unused.unused; log = g.D.SharedDriver.log c.in_ok-before.before; old_lines = c.new-lines.result.items; lines = c.replay_section.new.lines.items } in
    let goes = subst (λ (es : List TraceEvent). GoesThrough s x k0 es p0) (ap (map content) c.deref.ensures.value) c.in_ok-before.ensures.goes in
    let went = went_through s x k0 file.setup p0 c.new-session.ensures (c.sections_follow_each_other.ensures.setup file c.requires.whole) goes in
    ready s k0 file went.replies (gives_guarded (setup_content c.args.setup.now)) c.requires.whole went.stands

-- a merge comes behind it
pub follow-requires-clause-can : goal.follow-requires-clause-can
follow-requires-clause-can g c =
    let file = file_parts c.args.file.now in
    let s = trace_setup (setup_content c.args.setup.now) in
    let x = option_map (λ x. x.value.kept) c.new-session.result.started in
    let k0 = option_map (λ x. x.value.kept) c.replay_section.new.session.started in
    let p0 : Passage = record { old_log = g.D.SharedDriver.log c.in_ok-unused.unused; log = g.D.SharedDriver.log c.in_ok-before.before; old_lines = c.new-lines.result.items; lines = c.replay_section.new.lines.items } in
    let goes = subst (λ (es : List TraceEvent). GoesThrough s x k0 es p0) (ap (map content) c.deref.ensures.value) c.in_ok-before.ensures.goes in
    let went = went_through s x k0 file.setup p0 c.new-session.ensures (c.sections_follow_each_other.ensures.setup file c.requires.whole) goes in
    let merge = map content c.in_ok-merged.merged.events.items in
    let whole = c.sections_follow_each_other.ensures.whole file merge c.requires.whole c.in_ok-merged.ensures.ran.merge in
    let few = c.sections_follow_each_other.ensures.few file merge c.requires.whole c.in_ok-merged.ensures.ran.merge in
    subst (λ (es : List TraceEvent). CanGoOn s k0 es) (sym (ap (map content) c.deref-2.ensures.value)) (can_merge s file merge whole few k0 went.replies went.stands)

-- which makes no chain
pub follow-requires-clause-within : goal.follow-requires-clause-within
follow-requires-clause-within g c =
    let file = file_parts c.args.file.now in
    let s = trace_setup (setup_content c.args.setup.now) in
    let merge = map content c.in_ok-merged.merged.events.items in
    subst (λ (es : List TraceEvent). list_any (exceeds_layers s) es ≡ false) (sym (ap (map content) c.deref-2.ensures.value)) (c.sections_follow_each_other.ensures.within s file merge c.requires.whole c.in_ok-merged.ensures.ran.merge)

-- and then teardown
pub replay_section-requires-2-clause-can : goal.replay_section-requires-2-clause-can
replay_section-requires-2-clause-can g c κs within =
    let file = file_parts c.args.file.now in
    let s = trace_setup (setup_content c.args.setup.now) in
    let x = option_map (λ x. x.value.kept) c.new-session.result.started in
    let k0 = option_map (λ x. x.value.kept) c.replay_section.new.session.started in
    let k1 = option_map (λ x. x.value.kept) c.follow.new.session.started in
    let p0 : Passage = record { old_log = g.D.SharedDriver.log c.in_ok-unused.unused; log = g.D.SharedDriver.log c.in_ok-before.before; old_lines = c.new-lines.result.items; lines = c.replay_section.new.lines.items } in
    let goes = subst (λ (es : List TraceEvent). GoesThrough s x k0 es p0) (ap (map content) c.deref.ensures.value) c.in_ok-before.ensures.goes in
    let went = went_through s x k0 file.setup p0 c.new-session.ensures (c.sections_follow_each_other.ensures.setup file c.requires.whole) goes in
    let merge = map content c.in_ok-merged.merged.events.items in
    let replies = map reply_shown c.in_ok-merged.merged.replies.items in
    let whole = c.sections_follow_each_other.ensures.whole file merge c.requires.whole c.in_ok-merged.ensures.ran.merge in
    let few = c.sections_follow_each_other.ensures.few file merge c.requires.whole c.in_ok-merged.ensures.ran.merge in
    let half = subst (λ (es : List TraceEvent). Follows s k0 k1 es (map reply_shown c.deref-3.result.now) c.replay_section.new.lines.items c.follow.new.lines.items) (ap (map content) c.deref-2.ensures.value) c.in_ok-follow.ensures in
    let follows = subst (λ (rs : List ReplyContent). Follows s k0 k1 merge rs c.replay_section.new.lines.items c.follow.new.lines.items) (ap (map reply_shown) c.deref-3.ensures.value) half in
    subst (λ (es : List TraceEvent). CanGoOn s k1 es) (sym (ap (map content) c.deref-4.ensures.value))
    (can_teardown s file merge whole few k1 _ (merge_stands s file merge whole few k0 k1 went.replies replies c.replay_section.new.lines.items c.follow.new.lines.items went.stands follows))

pub returns-clause-replayed : goal.returns-clause-replayed
returns-clause-replayed g c =
    let file = file_parts c.args.file.now in
    let s = trace_setup (setup_content c.args.setup.now) in
    let log = g.D.SharedDriver.log in
    let x = option_map (λ x. x.value.kept) c.new-session.result.started in
    let k0 = option_map (λ x. x.value.kept) c.replay_section.new.session.started in
    let k1 = option_map (λ x. x.value.kept) c.follow.new.session.started in
    let k2 = option_map (λ x. x.value.kept) c.replay_section-2.new.session.started in
    let p0 : Passage = record { old_log = log c.in_ok-unused.unused; log = log c.in_ok-before.before; old_lines = c.new-lines.result.items; lines = c.replay_section.new.lines.items } in
    let p2 : Passage = record { old_log = log c.in_ok-before.before; log = log c.in_ok-after.after; old_lines = c.follow.new.lines.items; lines = c.replay_section-2.new.lines.items } in
    let goes = subst (λ (es : List TraceEvent). GoesThrough s x k0 es p0) (ap (map content) c.deref.ensures.value) c.in_ok-before.ensures.goes in
    let went = went_through s x k0 file.setup p0 c.new-session.ensures (c.sections_follow_each_other.ensures.setup file c.requires.whole) goes in
    let ran = c.in_ok-merged.ensures.ran in
    let merge = map content c.in_ok-merged.merged.events.items in
    let replies = map reply_shown c.in_ok-merged.merged.replies.items in
    let whole = c.sections_follow_each_other.ensures.whole file merge c.requires.whole ran.merge in
    let few = c.sections_follow_each_other.ensures.few file merge c.requires.whole ran.merge in
    let half = subst (λ (es : List TraceEvent). Follows s k0 k1 es (map reply_shown c.deref-3.result.now) c.replay_section.new.lines.items c.follow.new.lines.items) (ap (map content) c.deref-2.ensures.value) c.in_ok-follow.ensures in
    let follows = subst (λ (rs : List ReplyContent). Follows s k0 k1 merge rs c.replay_section.new.lines.items c.follow.new.lines.items) (ap (map reply_shown) c.deref-3.ensures.value) half in
    let ended = subst (λ (es : List TraceEvent). GoesThrough s k1 k2 es p2) (ap (map content) c.deref-4.ensures.value) c.in_ok-after.ensures.goes in
    let guarded = gives_guarded (setup_content c.args.setup.now) in
    let begun = ready s k0 file went.replies guarded c.requires.whole went.stands in
    let logs = map closed_lines c.in_ok-merged.merged.logs.items in
    let r : SectionReplies = record { setup = went.replies; merge = reverse replies; teardown = ended.replies } in
    let same = c.seats_are_told_what_the_trace_says.ensures.told s k0 file logs ran.made merge replies went.replies begun ran.all ran.gathered guarded went.stands in
    let streams = tell_streams log s file merge r file.streams ran.made c.in_ok-seats.seats.items c.in_ok-merged.told.items c.in_ok-seats.ensures.fresh ran.told same in
    subst (λ seats. HasReplayed log s file merge c.replay_section-2.new.lines.items k2 seats) (sym c.in_ok-all.ensures)
    (has_replayed s file merge whole few log k0 k1 k2 p0 p2 replies c.follow.new.lines.items went follows ended c.in_ok-after.after c.in_ok-merged.told.items ran.merge c.in_ok-unused.ensures.log refl refl c.new-lines.ensures.items refl streams)

-- what the logs say
pub returns-clause-logs : goal.returns-clause-logs
returns-clause-logs g c =
    let ran = c.in_ok-merged.ensures.ran in
    record { devices = ran.devices; marks = marks_of ran.made; answers = map reply_shown c.in_ok-merged.merged.replies.items; gathered = ran.gathered; each = ran.each }

-- the policy of each seat
pub returns-clause-policy : goal.returns-clause-policy
returns-clause-policy g c =
    let answers_by = g.D.SharedDriver.answers_by in
    let policy = c.args.policy in
    let first = subst (λ told. IsPolicy told policy) (sym (c.in_ok-after.ensures.policy ∙ c.in_ok-before.ensures.policy)) c.in_ok-unused.ensures.policy in
    let others = policies_kept answers_by policy c.in_ok-seats.seats.items c.in_ok-merged.told.items c.in_ok-merged.ensures.policy c.in_ok-seats.ensures.policy in
    subst (AllByRecursion (λ seat. IsPolicy (answers_by seat) policy)) (sym c.in_ok-all.ensures) (first, others)
