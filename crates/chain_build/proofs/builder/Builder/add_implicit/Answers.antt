use Rattle.std.proofs.Common.{◌≡◌, ◌∙◌, ◌-◌, ◌++◌, ap, sym, subst, map, List, Some, None, Option, string_bytes, append-nil, false}
use Rattle.layer_search.specs.Contents.{found_layer}
use Rattle.chain_build.specs.Chain.{kept_layers, layers_of, implicit_as}
use Rattle.chain_build.specs.Expanding.{ListedLayer, is_plain}
use Rattle.chain_build.specs.Holding.{listed_layer, texts_of, names_content, IsRow}
use Rattle.chain_build.specs.Setup.{setup_content}
use Rattle.chain_build.specs.declared.listed.TheConstants.{MOST_LEVELS}
use Rattle.chain_build.proofs.Gathering.{implicit_named, mapped_some}
use Rattle.chain_build.proofs.builder.Builder.add_implicit.Goals as goal

pub returns-in_ok-new-in-Some : goal.returns-in_ok-new-in-Some
returns-in_ok-new-in-Some c = λ met h.
    let s = setup_content c.args.self.now.setup.now in
    let own = map listed_layer c.args.self.now.names.known.layers.items in
    let layer = found_layer c.args.layer.now in
    let meta : is_plain layer ≡ false = mapped_some string_bytes c.args.layer.now.entry.library ∙ (sym c.is_some.ensures ∙ c.if-is_some.false) in
    let P : List ListedLayer → Type 0 = λ ls. IsRow (MOST_LEVELS - 1) ls c.args.self.now.names.row.items in
    let row = rw (← c.deref.ensures.value) at (subst P (sym c.requires.names.known) c.requires.names.row) in
    c.in_ok-new-in-Some.ensures met h
    ∙ ap (λ xs. kept_layers s (met ++ xs)) (ap (λ v. layers_of s (texts_of v)) c.deref-in-Some.ensures.value
    ∙ implicit_named s own layer (Some (texts_of c.in-Some.plain.items)) c.requires.names.known meta (sym (ap names_content c.in-Some.is) ∙ c.in_ok-plain.ensures (MOST_LEVELS - 1) row))

pub returns-in-None : goal.returns-in-None
returns-in-None c = λ met h.
    let s = setup_content c.args.self.now.setup.now in
    let own = map listed_layer c.args.self.now.names.known.layers.items in
    let layer = found_layer c.args.layer.now in
    let meta : is_plain layer ≡ false = mapped_some string_bytes c.args.layer.now.entry.library ∙ (sym c.is_some.ensures ∙ c.if-is_some.false) in
    let P : List ListedLayer → Type 0 = λ ls. IsRow (MOST_LEVELS - 1) ls c.args.self.now.names.row.items in
    let row = rw (← c.deref.ensures.value) at (subst P (sym c.requires.names.known) c.requires.names.row) in
    h ∙ (ap (kept_layers s) (sym (append-nil met))
    ∙ ap (λ xs. kept_layers s (met ++ xs)) (implicit_named s own layer None c.requires.names.known meta (sym (ap names_content c.in-None.is) ∙ c.in_ok-plain.ensures (MOST_LEVELS - 1) row)))
