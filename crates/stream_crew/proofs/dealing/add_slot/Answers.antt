use Rattle.std.proofs.Common.{Some}
use Rattle.stream_crew.proofs.Dealt.{slot_added}
use Rattle.stream_crew.proofs.dealing.add_slot.Goals as goal

pub returns : goal.returns
returns c = slot_added c.args.slots.now.items c.args.number c.index_mut.result.now c.push.new.self (Some c.args.token) c.requires c.index_mut.ensures.value c.in_ok-push.ensures.items
