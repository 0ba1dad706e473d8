use Rattle.std.proofs.Common.{◌≡◌, ◌∙◌, ◌≤◌, ◌<◌, ◌^◌, true, false, arith, length, refl, rules, map, subst, sym}
use Rattle.command_tables.specs.Calls.{call_content}
use Rattle.model_driver.specs.Driver.{reply_shown}
use Rattle.session_parts.specs.Leaving.{ComesUp, made_of, opened_again}
use Rattle.session_parts.specs.Opening.{begin_content}
use Rattle.object_model.specs.History.{born_in}
use Rattle.session_parts.proofs.Fewer.{made_few}
use Rattle.session_parts.proofs.Lent.{lost_takes, takes_none}
use Rattle.session_parts.proofs.Departing.{can_come_up, leaves_sent}
use Rattle.session_parts.proofs.parts.SessionParts.leave_with.Goals as goal

pub leave_sent-requires-clause-may : goal.leave_sent-requires-clause-may
leave_sent-requires-clause-may g c =
    can_come_up c.args.self.now (begin_content c.args.begin) (call_content c.args.call.now) c.args.held.now c.args.skipped (map reply_shown c.args.replies.now) c.requires.can c.if-skipped.false

pub returns-in_ok-count-clause-ok : goal.returns-in_ok-count-clause-ok
returns-in_ok-count-clause-ok g c =
    let x = c.args.self.now in
    let e = begin_content c.args.begin in
    let call = call_content c.args.call.now in
    let replies = map reply_shown c.args.replies.now in
    let same : c.in_ok-count.count ≡ c.in_ok-born.born = search rules in
    leaves_sent x c.leave_sent.new.parts e call c.args.held.now c.args.skipped replies c.in_ok-count.count c.if-skipped.false
    (subst (λ n. ComesUp x e call c.args.held.now replies c.leave_sent.new.parts n) (sym same) c.in_ok-born.ensures.ok)

pub returns-in_err-count-clause-succeeds : goal.returns-in_err-count-clause-succeeds
returns-in_err-count-clause-succeeds g c = λ room.
    let x = c.args.self.now in
    let o = opened_again x (begin_content c.args.begin) (call_content c.args.call.now) in
    let few : length (made_of x o) ≤ length o.results = made_few x.terminator.drivers x.names.kept.births (born_in x.names.kept.births) x.names.kept.retrieved o in
    let small : c.in_ok-born.born < 2 ^ 32 = omega (arith, c.in_ok-born.ensures.ok.counted, few, room.few) in
    grind (arith, small)

pub returns-in_ok-raise_lost-clause-takes : goal.returns-in_ok-raise_lost-clause-takes
returns-in_ok-raise_lost-clause-takes g c = (
  lost_takes c.args.self.now (opened_again c.args.self.now (begin_content c.args.begin) (call_content c.args.call.now)) (call_content c.args.call.now) c.raise_lost.new.states c.in_ok-raise_lost.ensures.births c.in_ok-raise_lost.ensures.uses,
  (λ skipped. record { names = takes_none 0 0 c.args.self.now.names.room; terminator = refl }),
)

pub returns-in_ok-count-clause-takes : goal.returns-in_ok-count-clause-takes
returns-in_ok-count-clause-takes g c = (
  c.in_ok-born.ensures.room,
  (λ skipped. let wrong : true ≡ false = sym skipped ∙ c.if-skipped.false in cc wrong),
)
