use Rattle.std.proofs.Common.{◌==◌, sym, ◌∙◌, ap, subst}
use Rattle.std.specs.Prelude.{IsSome, position}
use Rattle.device_shard.proofs.Streams.{is_planned, planned_place}
use Rattle.device_shard.proofs.place.place_in.Goals as goal

pub unwrap-requires : goal.unwrap-requires
unwrap-requires c =
    subst IsSome (sym (c.first_place.ensures ∙ ap (position (λ s. s.0 == c.args.thread)) c.deref.ensures.value)) (planned_place c.args.thread c.args.plan.now.streams.items c.requires)

pub returns : goal.returns
returns c = is_planned c.args.thread c.unwrap.result c.args.plan.now.streams.items (sym (ap (position (λ s. s.0 == c.args.thread)) c.deref.ensures.value) ∙ (sym c.first_place.ensures ∙ c.unwrap.ensures))
