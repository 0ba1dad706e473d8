use Rattle.std.proofs.Common.{◌≡◌, ◌∙◌, ◌++◌, OnOk, ap, length, rules, subst, sym}
use Rattle.replay_model.specs.Past.{is_skipped}
use Rattle.replay_model.specs.Text.{return_text}
use Rattle.chain_session.specs.Opened.{opened_of}
use Rattle.chain_session.proofs.Closing.{line_so}
use Rattle.chain_session.proofs.finishing.put_line.Goals as goal

pub returns : goal.returns
returns c = λ s refusal drivers.
    let p = c.args.call.now in
    let count : c.in_ok-count.count ≡ c.args.born = search rules in
    let same : c.line_of.result ≡ record { number = p.number; cmd = p.cmd; code = p.code; refusal = p.refusal; skipped = is_skipped (opened_of p); results = length p.results.items; drivers = s.drivers }
    = c.line_of.ensures ∙ ap (λ n. record { number = p.number; cmd = p.cmd; code = p.code; refusal = p.refusal; skipped = is_skipped (opened_of p); results = length p.results.items; drivers = n }) (sym drivers) in
    subst (λ n. OnOk c.put_return.result (c.put_return.new.lines.items ≡ c.args.lines.now.items ++ return_text s (opened_of p) n)) count (c.put_return.ensures s (opened_of p) (line_so s p c.line_of.result refusal same))
