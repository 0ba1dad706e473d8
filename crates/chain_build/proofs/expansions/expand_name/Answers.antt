use Rattle.std.proofs.Common.{◌≡◌, ◌∙◌, ◌-◌, ap, refl, sym, subst, map, List, Option, option_map, Bor, ℕ, Vec, arith}
use Rattle.std.specs.Global.{Global}
use Rattle.std.proofs.lemmas.Option.{slice_get-map, slice_get_read}
use Rattle.chain_build.specs.Expanding.{ListedLayer}
use Rattle.chain_build.specs.Holding.{listed_layer, IsRow}
use Rattle.chain_build.specs.declared.listed.TheConstants.{MOST_LEVELS}
use Rattle.chain_build.proofs.Names.{expanded_at}
use Rattle.chain_build.proofs.expansions.expand_name.Goals as goal

pub returns-in_ok-plain-in-Some : goal.returns-in_ok-plain-in-Some
returns-in_ok-plain-in-Some c = λ layers k.
    let items = c.args.names.now.known.layers.items in
    let own = map listed_layer items in
    let P : List ListedLayer → Type 0 = λ ls. IsRow (MOST_LEVELS - 1) ls c.args.names.now.row.items in
    let there = slice_get-map listed_layer items c.in-Some.place ∙ ap (option_map listed_layer) (slice_get_read items _ c.in-Some.place _ refl (omega (arith, c.in-Some.ensures.within)) c.index.ensures) in
    let row = rw (← c.deref.ensures.value) at (subst P (sym k.known) k.row) in
    expanded_at own layers c.args.name.now c.place_of.result c.in-Some.place _ _ k.known c.place_of.ensures.place c.in-Some.is there (c.in_ok-plain-in-Some.ensures (MOST_LEVELS - 1) row)
