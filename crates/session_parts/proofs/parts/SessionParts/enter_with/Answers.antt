use Rattle.std.proofs.Common.{◌≡◌, ◌∙◌, None, List, Vec, Global, ap, length, subst, sym, take, vec_capacity}
use Rattle.command_tables.specs.Calls.{call_content}
use Rattle.object_model.specs.declared.Argument.{Argument}
use Rattle.replay_model.specs.Past.{arguments_in}
use Rattle.session_tables.specs.Shown.{args_shown}
use Rattle.session_parts.specs.Judging.{FitsCall}
use Rattle.session_parts.specs.Names.{NamesKept}
use Rattle.session_parts.specs.Opening.{begin_content, opened_read}
use Rattle.session_parts.specs.Scratch.{ScratchRoom}
use Rattle.session_parts.proofs.Begins.{fits_first}
use Rattle.session_parts.proofs.Entered.{entered_so}
use Rattle.session_parts.proofs.Lent.{down_lent, room_lent}
use Rattle.session_parts.proofs.parts.SessionParts.enter_with.Goals as goal

pub come_down-requires-clause-fits : goal.come_down-requires-clause-fits
come_down-requires-clause-fits g c =
    let x = c.args.self.now in
    let e = begin_content c.args.begin in
    let read : args_shown (take (length c.args.begin.args.now) c.deref.result.now) ≡ arguments_in x.names.kept.names e.args
    = ap (λ (vs : List (Vec Argument Global)). args_shown (take (length c.args.begin.args.now) vs)) c.deref.ensures.value
    ∙ (c.in_ok-put_first.ensures.args ∙ ap (λ ns. arguments_in ns e.args) (c.named.ensures.names ∙ ap (λ (k : NamesKept). k.names) c.take_scratch-scratch.ensures.kept)) in
    subst (λ args. FitsCall (opened_read c.args.number e args)) (sym read) (fits_first c.args.number x.names.kept.names e None c.requires.can.begins)

pub returns-in_err-come_down-clause-succeeds : goal.returns-in_err-come_down-clause-succeeds
returns-in_err-come_down-clause-succeeds g c = λ room.
    let x = c.args.self.now in
    let e = begin_content c.args.begin in
    let n = c.take_scratch-scratch.new.self in
    let args = args_shown (take (length c.args.begin.args.now) c.deref.result.now) in
    let read : args ≡ arguments_in x.names.kept.names e.args
    = ap (λ (vs : List (Vec Argument Global)). args_shown (take (length c.args.begin.args.now) vs)) c.deref.ensures.value
    ∙ (c.in_ok-put_first.ensures.args ∙ ap (λ ns. arguments_in ns e.args) (c.named.ensures.names ∙ ap (λ (k : NamesKept). k.names) c.take_scratch-scratch.ensures.kept)) in
    let wrong = c.in_err-come_down.ensures.succeeds
    (room_lent x x n n (opened_read c.args.number e args) c.take_scratch-scratch.ensures.kept (opened_read c.args.number e (arguments_in x.names.kept.names e.args)) x.names.room.scratch.handles (vec_capacity c.take_scratch-scratch.result.handles) c.args.call.now c.args.held.now
    (vec_capacity c.args.verdict.now.findings) (ap (λ read_as. opened_read c.args.number e read_as) read) (ap (λ (s : ScratchRoom). s.handles) c.take_scratch-scratch.ensures.scratch) room.down) in
    cc wrong

pub returns-clause-ok : goal.returns-clause-ok
returns-clause-ok g c =
    let x = c.args.self.now in
    let e = begin_content c.args.begin in
    let y = c.come_down.new.self in
    let form = call_content c.come_down.new.form in
    let last = c.keep_scratch.new.self in
    let args = args_shown (take (length c.args.begin.args.now) c.deref.result.now) in
    let read : args ≡ arguments_in x.names.kept.names e.args
    = ap (λ (vs : List (Vec Argument Global)). args_shown (take (length c.args.begin.args.now) vs)) c.deref.ensures.value
    ∙ (c.in_ok-put_first.ensures.args ∙ ap (λ ns. arguments_in ns e.args) (c.named.ensures.names ∙ ap (λ (k : NamesKept). k.names) c.take_scratch-scratch.ensures.kept)) in
    entered_so x (record y { names = last }) c.args.number e args form c.come_down.new.held c.come_down.new.verdict read
    (down_lent x y c.take_scratch-scratch.new.self last (opened_read c.args.number e args) c.take_scratch-scratch.ensures.kept form c.come_down.new.held c.come_down.new.verdict c.keep_scratch.ensures.kept c.in_ok-come_down.ensures.down)
