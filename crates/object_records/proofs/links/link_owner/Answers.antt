use Rattle.std.proofs.Common.{◌∙◌, sym, ap}
use Rattle.object_records.specs.Links.{last_of, linked}
use Rattle.object_records.proofs.Linking.{owner_low, read_last, written_linked}
use Rattle.object_records.proofs.links.link_owner.Goals as goal

pub returns-in-At-clause-links : goal.returns-in-At-clause-links
returns-in-At-clause-links c =
    written_linked c.args.links.now.items c.in-At.place c.args.link c.args.is_child c.index-above.result.now c.one_if.result c.index-above.ensures c.one_if.ensures
    ∙ ap (λ w. linked c.args.links.now.items w c.args.link c.args.is_child) (sym c.in-At.is)

pub returns-in-At-clause-previous : goal.returns-in-At-clause-previous
returns-in-At-clause-previous c =
    read_last c.args.links.now.items c.in-At.place c.index-above.result.now (owner_low c.args.owner c.in-At.place c.args.links.now.items c.in-At.is c.requires.within) c.index-above.ensures
    ∙ ap (λ w. last_of c.args.links.now.items w) (sym c.in-At.is)
