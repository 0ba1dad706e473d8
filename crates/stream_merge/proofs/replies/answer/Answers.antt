use Rattle.std.proofs.Common.{◌≤◌, ◌∙◌, length, get_or, map, refl, sym, ap, arith}
use Rattle.std.proofs.lemmas.List.{length-map, map-set}
use Rattle.model_driver.specs.Driver.{reply_shown}
use Rattle.stream_merge.specs.Passing.{answered}
use Rattle.stream_merge.proofs.Passed.{with_past, with_set}
use Rattle.stream_merge.proofs.replies.answer.Goals as goal

pub returns-in_ok-replies : goal.returns-in_ok-replies
returns-in_ok-replies c =
    map-set reply_shown c.args.replies.now c.in-Some.place (record { code = (get_or c.args.replies.now c.in-Some.place c.index-replies-place.result).code; handles = c.in_ok-replies.field-0 })
    ∙ (with_set c.in-Some.place c.args.replies.now (record { code = (get_or c.args.replies.now c.in-Some.place c.index-replies-place.result).code; handles = c.in_ok-replies.field-0 }) c.index-replies-place.result c.args.handles.now c.if-place-replies.true refl c.in_ok-replies.ensures
    ∙ sym (ap (λ o. answered o c.args.handles.now (map reply_shown c.args.replies.now)) c.in-Some.is))

pub returns-else-place-replies : goal.returns-else-place-replies
returns-else-place-replies c =
    let past : length (map reply_shown c.args.replies.now) ≤ c.in-Some.place = omega (arith, length-map c.args.replies.now reply_shown, c.if-place-replies.false) in
    sym (ap (λ o. answered o c.args.handles.now (map reply_shown c.args.replies.now)) c.in-Some.is ∙ with_past c.in-Some.place c.args.handles.now (map reply_shown c.args.replies.now) past)
