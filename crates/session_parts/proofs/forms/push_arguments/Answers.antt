use Rattle.std.proofs.Common.{◌≡◌, ℕ, length, sym, ◌∙◌, ap, List, map, set, replicate, false, Bool}
use Rattle.std.proofs.lemmas.List.{length-map}
use Rattle.chain_model.specs.Chained.{is_unborn}
use Rattle.session_parts.proofs.Marks.{last_marks}
use Rattle.session_parts.proofs.forms.push_arguments.Goals as goal

pub returns-clause-marks : goal.returns-clause-marks
returns-clause-marks c =
    let last : c.len-p.result ≡ length c.args.all.now.marks =
    c.len-p.ensures.count ∙ (sym (length-map c.args.all.now.lists (λ (xs : List ℕ). length xs)) ∙ (ap (λ (ns : List ℕ). length ns) (sym c.len-p.ensures.marks) ∙ length-map c.args.all.now.marks (λ (bs : List Bool). length bs))) in
    last_marks c.mark_places.new.all.marks c.args.all.now.marks c.len-p.result (replicate (length c.deref.result.now) false) (map is_unborn c.args.at.now) last
    (c.mark_places.ensures.marks ∙ ap (λ (ms : List (List Bool)). set ms c.len-p.result (map is_unborn c.args.at.now)) c.in_ok-push_param.ensures.marks)
