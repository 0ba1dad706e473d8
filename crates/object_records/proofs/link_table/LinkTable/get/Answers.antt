use Rattle.std.proofs.Common.{◌<◌, ◌∙◌, List, length, get_or, ap, sym, subst, arith}
use Rattle.object_records.specs.declared.link_table.Owned.{Owned}
use Rattle.object_records.specs.Owning.{LinkState, no_owned}
use Rattle.object_records.proofs.Owning.{links_length, links_there}
use Rattle.object_records.proofs.link_table.LinkTable.get.Goals as goal

pub returns : goal.returns
returns c =
    let ps = c.self.inside.previous.items in
    let os = c.self.inside.owned.items in
    let low : c.args.place < length ps = omega (arith, subst (λ (s : LinkState). c.args.place < length s.links) (sym c.self.view_is) c.requires, links_length ps os) in
    rw (← c.self.view_is) (links_there ps os c.args.place c.index.result.now c.owned_at-owned.result _ low c.index.ensures (c.owned_at-owned.ensures ∙ ap (λ (xs : List Owned). get_or xs c.args.place no_owned) c.deref.ensures.value))
