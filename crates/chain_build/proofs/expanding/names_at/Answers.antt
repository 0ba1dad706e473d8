use Rattle.std.proofs.Common.{◌≡◌, ◌∙◌, ap, sym, refl, Some, None, map, option_and_then, slice_get, string_bytes, arith}
use Rattle.std.proofs.lemmas.Option.{slice_get_read}
use Rattle.chain_build.specs.Expanding.{expansion}
use Rattle.chain_build.specs.Holding.{listed_layer, texts_of, names_content}
use Rattle.chain_build.proofs.Names.{row_read}
use Rattle.chain_build.proofs.expanding.names_at.Goals as goal

pub returns-in-Some-row : goal.returns-in-Some-row
returns-in-Some-row c = λ levels row.
    let layers = map listed_layer c.args.known.now.layers.items in
    let place = c.place_of.ensures.place ∙ ap (option_and_then (slice_get layers)) c.in-Some.is in
    ap (λ names. Some (texts_of names)) c.as_slice.ensures.value ∙ (sym (ap names_content c.in-Some-row.is)
    ∙ row_read names_content (λ l. expansion layers levels l.layer) c.args.row.now layers c.in-Some.place c.index-row-place.result _ row (slice_get_read c.args.row.now _ c.in-Some.place _ refl (omega (arith, c.in-Some.ensures.within)) c.index-row-place.is) place)

pub returns-in-None-row : goal.returns-in-None-row
returns-in-None-row c = λ levels row.
    let layers = map listed_layer c.args.known.now.layers.items in
    let place = c.place_of.ensures.place ∙ ap (option_and_then (slice_get layers)) c.in-Some.is in
    sym (ap names_content c.in-None-row.is)
    ∙ row_read names_content (λ l. expansion layers levels l.layer) c.args.row.now layers c.in-Some.place c.index-row-place.result _ row (slice_get_read c.args.row.now _ c.in-Some.place _ refl (omega (arith, c.in-Some.ensures.within)) c.index-row-place.is) place
