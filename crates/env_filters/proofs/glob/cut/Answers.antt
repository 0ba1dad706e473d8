use Rattle.std.proofs.Common.{lit<, sym, None, Some}
use Rattle.std.proofs.lemmas.Str.Pattern.{strip_prefix_char, strip_suffix_char}
use Rattle.env_filters.proofs.StarLemmas.{whole_form, whole_part, prefix_form}
use Rattle.env_filters.proofs.glob.cut.Goals as goal

pub returns-in-Some-strip_suffix-2-clause-form : goal.returns-in-Some-strip_suffix-2-clause-form
returns-in-Some-strip_suffix-2-clause-form c =
    let text = c.args.text.now in
    sym (prefix_form text _ (strip_prefix_char 42 text None c.in-None.ensures.cases (lit< tt)) (strip_suffix_char 42 text (Some c.in-Some-strip_suffix-2.front) c.in-Some-strip_suffix-2.ensures.cases (lit< tt))).0

pub returns-in-Some-strip_suffix-2-clause-part : goal.returns-in-Some-strip_suffix-2-clause-part
returns-in-Some-strip_suffix-2-clause-part c =
    let text = c.args.text.now in
    (prefix_form text _ (strip_prefix_char 42 text None c.in-None.ensures.cases (lit< tt)) (strip_suffix_char 42 text (Some c.in-Some-strip_suffix-2.front) c.in-Some-strip_suffix-2.ensures.cases (lit< tt))).1

pub returns-in-None-strip_suffix-2-clause-form : goal.returns-in-None-strip_suffix-2-clause-form
returns-in-None-strip_suffix-2-clause-form c =
    let text = c.args.text.now in
    sym (whole_form text (strip_prefix_char 42 text None c.in-None.ensures.cases (lit< tt)) (strip_suffix_char 42 text None c.in-None-strip_suffix-2.ensures.cases (lit< tt)))

pub returns-in-None-strip_suffix-2-clause-part : goal.returns-in-None-strip_suffix-2-clause-part
returns-in-None-strip_suffix-2-clause-part c =
    let text = c.args.text.now in
    whole_part text (strip_prefix_char 42 text None c.in-None.ensures.cases (lit< tt)) (strip_suffix_char 42 text None c.in-None-strip_suffix-2.ensures.cases (lit< tt))
