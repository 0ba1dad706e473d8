use Rattle.std.proofs.Common.{◌≡◌, ◌∙◌, ◌++◌, Some, ap, refl, sym}
use Rattle.std.specs.List.{find}
use Rattle.replay_model.specs.Past.{is_of}
use Rattle.replay_model.specs.Text.{return_text}
use Rattle.chain_session.specs.declared.call.OpenCall.{OpenCall}
use Rattle.chain_session.specs.Opened.{opened_of}
use Rattle.chain_session.specs.Raising.{ComesBack, made_at}
use Rattle.chain_session.proofs.Closing.{can_raise, finishes_so, none_finishes}
use Rattle.chain_session.proofs.finishing.finish_call.Goals as goal

pub come_back-requires-clause-may : goal.come_back-requires-clause-may
come_back-requires-clause-may g c =
    let x = c.args.kept.now in
    let p = c.in-Some.call.now in
    let opens : Some p ≡ find (λ (y : OpenCall). is_of c.args.thread (opened_of y)) x.open_calls = c.in-Some.ensures in
    can_raise x c.args.thread p (made_at x.parts p) c.requires.can opens refl

pub returns-in-None-clause-ok : goal.returns-in-None-clause-ok
returns-in-None-clause-ok g c = none_finishes c.args.kept.now _ c.args.thread _ _ c.in-None.ensures

pub returns-in-Some-close-clause-ok : goal.returns-in-Some-close-clause-ok
returns-in-Some-close-clause-ok g c =
    let x = c.args.kept.now in
    let p = c.in-Some.call.now in
    let opens : Some p ≡ find (λ (y : OpenCall). is_of c.args.thread (opened_of y)) x.open_calls = c.in-Some.ensures in
    let back : ComesBack x.parts p _ _ = c.in_ok-born-in-Some.ensures.ok in
    finishes_so x _ c.args.thread p (made_at x.parts p) _ _ opens refl refl refl refl back.names back.names_count back.births back.retrieved c.close.ensures back.chain back.drivers
    (λ s refusal drivers. c.in_ok-put_line-in-Some.ensures s refusal (drivers ∙ sym c.requires.drivers) ∙ ap (λ m. c.args.lines.now.items ++ return_text s (opened_of p) m) back.counted)

pub returns-in_default-clause-ok : goal.returns-in_default-clause-ok
returns-in_default-clause-ok g c =
    let x = c.args.kept.now in
    let p = c.in-Some.call.now in
    let opens : Some p ≡ find (λ (y : OpenCall). is_of c.args.thread (opened_of y)) x.open_calls = c.in-Some.ensures in
    let back : ComesBack x.parts p _ _ = c.in_ok-born-in-Some.ensures.ok in
    finishes_so x _ c.args.thread p (made_at x.parts p) _ _ opens refl refl refl refl back.names back.names_count back.births back.retrieved c.close.ensures back.chain back.drivers
    (λ s refusal drivers. c.in_ok-put_line-in-Some.ensures s refusal (drivers ∙ sym c.requires.drivers) ∙ ap (λ m. c.args.lines.now.items ++ return_text s (opened_of p) m) back.counted)
