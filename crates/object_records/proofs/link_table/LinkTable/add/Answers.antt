use Rattle.std.proofs.Common.{◌≡◌, ◌∙◌, ◌++◌, ◌∷◌, [], ℕ, List, suc, length, ap, arith}
use Rattle.object_records.specs.declared.links.Links.{Links}
use Rattle.object_records.specs.Links.{linked}
use Rattle.object_records.specs.Owning.{LinkState, link_read, links_read, no_owned}
use Rattle.object_records.proofs.Owning.{links_length, read_snoc}
use Rattle.object_records.proofs.link_table.LinkTable.add.Goals as goal

pub returns-clause-links : goal.returns-clause-links
returns-clause-links c =
    let ps = c.self-2.inside.previous.items in
    let os = c.self-2.inside.owned.items in
    let links = c.args.self.now.links in
    let link_is : c.link_behind-link.result ≡ suc (length links) = omega (arith, c.link_behind-link.ensures, c.len.ensures, links_length c.self.inside.previous.items c.self.inside.owned.items, ap (λ (s : LinkState). length s.links) c.self.view_is) in
    ap (λ (xs : List ℕ). links_read xs os) (rw c.unwrap.ensures at c.push.ensures.items)
    ∙ (read_snoc ps os c.link_owner-previous.result c.self-2.invariant
    ∙ (ap (λ (ls : List Links). ls ++ link_read c.link_owner-previous.result no_owned ∷ [])
    (ap (λ (s : LinkState). s.links) c.self-2.view_is ∙ (c.link_owner-previous.ensures.links ∙ ap (λ (n : ℕ). linked links c.args.owner n c.args.is_child) link_is))
    ∙ ap (λ (n : ℕ). linked links c.args.owner (suc (length links)) c.args.is_child ++ link_read n no_owned ∷ []) c.link_owner-previous.ensures.previous))
