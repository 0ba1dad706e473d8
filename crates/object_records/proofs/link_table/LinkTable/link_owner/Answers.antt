use Rattle.std.proofs.Common.{◌≤◌, ◌<◌, ◌+◌, ◌∙◌, List, length, ap, sym, subst, arith}
use Rattle.std.specs.Prelude.{slice_get}
use Rattle.std.specs.Option.{option_map_or}
use Rattle.object_records.specs.declared.kept_owner.KeptOwner.{KeptOwner}
use Rattle.object_records.specs.declared.links.Links.{Links}
use Rattle.object_records.specs.Links.{AreFew, last_of, linked, linked_at}
use Rattle.object_records.specs.Owning.{LinkState}
use Rattle.object_records.specs.Table.{before_owned}
use Rattle.object_records.proofs.Owning.{few_owned, is_filled, last_read, links_length, one_at_most, set_length, written_linked}
use Rattle.object_records.proofs.link_table.LinkTable.link_owner.Goals as goal

pub overflow_add-place : goal.overflow_add-place
overflow_add-place c =
    let low : c.in-At.place < length c.self.inside.previous.items = omega (arith, subst (λ (s : LinkState). before_owned c.args.owner ≤ length s.links) (sym c.self.view_is) c.requires.within, ap before_owned c.in-At.is, links_length c.self.inside.previous.items c.self.inside.owned.items) in
    omega (arith, low, subst (λ (s : LinkState). 1 ≤ s.spare) (sym c.self.view_is) c.requires.room)

pub fill_up-requires : goal.fill_up-requires
fill_up-requires c =
    let low : c.in-At.place < length c.self.inside.previous.items = omega (arith, subst (λ (s : LinkState). before_owned c.args.owner ≤ length s.links) (sym c.self.view_is) c.requires.within, ap before_owned c.in-At.is, links_length c.self.inside.previous.items c.self.inside.owned.items) in
    record { room = omega (arith, low, subst (λ (s : LinkState). 1 ≤ s.spare) (sym c.self.view_is) c.requires.room) }

pub overflow_add-above : goal.overflow_add-above
overflow_add-above c =
    let ps = c.self.inside.previous.items in
    let low : c.in-At.place < length ps = omega (arith, subst (λ (s : LinkState). before_owned c.args.owner ≤ length s.links) (sym c.self.view_is) c.requires.within, ap before_owned c.in-At.is, links_length ps c.self.inside.owned.items) in
    let is = is_filled ps c.self.inside.owned.items c.fill_up.new.owned.items c.in-At.place c.fill_up.ensures.items c.self.invariant low in
    let few = subst (λ (ls : List Links). AreFew ls) (sym is.same) (subst (λ (s : LinkState). AreFew s.links) (sym c.self.view_is) c.requires.few) in
    omega (arith, few_owned ps c.fill_up.new.owned.items c.in-At.place c.index-above.result.now few is.within is.there c.index-above.ensures, c.one_if.ensures, one_at_most c.args.is_child, subst (λ (s : LinkState). 1 ≤ s.spare) (sym c.self.view_is) c.requires.room)

pub invariant_of-self : goal.invariant_of-self
invariant_of-self c =
    let ps = c.self.inside.previous.items in
    let low : c.in-At.place < length ps = omega (arith, subst (λ (s : LinkState). before_owned c.args.owner ≤ length s.links) (sym c.self.view_is) c.requires.within, ap before_owned c.in-At.is, links_length ps c.self.inside.owned.items) in
    let is = is_filled ps c.self.inside.owned.items c.fill_up.new.owned.items c.in-At.place c.fill_up.ensures.items c.self.invariant low in
    omega (arith, is.within, set_length c.fill_up.new.owned.items c.in-At.place (record { last = c.args.link; children = c.index-above.result.now.children + c.one_if.result }))

pub returns-in-At-clause-links : goal.returns-in-At-clause-links
returns-in-At-clause-links c =
    let ps = c.self.inside.previous.items in
    let low : c.in-At.place < length ps = omega (arith, subst (λ (s : LinkState). before_owned c.args.owner ≤ length s.links) (sym c.self.view_is) c.requires.within, ap before_owned c.in-At.is, links_length ps c.self.inside.owned.items) in
    let is = is_filled ps c.self.inside.owned.items c.fill_up.new.owned.items c.in-At.place c.fill_up.ensures.items c.self.invariant low in
    written_linked ps c.fill_up.new.owned.items c.in-At.place c.args.link c.one_if.result c.args.is_child c.index-above.result.now is.there is.within c.index-above.ensures c.one_if.ensures
    ∙ (ap (λ (ls : List Links). linked_at ls c.in-At.place c.args.link c.args.is_child) (is.same ∙ ap (λ (s : LinkState). s.links) c.self.view_is)
    ∙ ap (λ (w : KeptOwner). linked c.args.self.now.links w c.args.link c.args.is_child) (sym c.in-At.is))

pub returns-in-At-clause-previous : goal.returns-in-At-clause-previous
returns-in-At-clause-previous c =
    let ps = c.self.inside.previous.items in
    let low : c.in-At.place < length ps = omega (arith, subst (λ (s : LinkState). before_owned c.args.owner ≤ length s.links) (sym c.self.view_is) c.requires.within, ap before_owned c.in-At.is, links_length ps c.self.inside.owned.items) in
    let is = is_filled ps c.self.inside.owned.items c.fill_up.new.owned.items c.in-At.place c.fill_up.ensures.items c.self.invariant low in
    last_read ps c.fill_up.new.owned.items c.in-At.place c.index-above.result.now is.there is.within c.index-above.ensures
    ∙ (ap (λ (ls : List Links). option_map_or (λ (l : Links). l.last_owned) (slice_get ls c.in-At.place) 0) (is.same ∙ ap (λ (s : LinkState). s.links) c.self.view_is)
    ∙ ap (λ (w : KeptOwner). last_of c.args.self.now.links w) (sym c.in-At.is))
