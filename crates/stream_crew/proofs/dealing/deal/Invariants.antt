use Rattle.stream_crew.specs.Dealing.{items_of}
use Rattle.stream_crew.proofs.Dealt.{IsDealt}
use Rattle.stream_crew.proofs.dealing.deal.Given as goal

abbrev pub invariant-loop-plan : goal.invariant-loop-plan
invariant-loop-plan l = IsDealt l.fn.tokens.items l.plans l.streams l._plan (items_of l.slots.items) l.tokens.items
