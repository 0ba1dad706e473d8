use Rattle.std.proofs.Common.{◌≡◌, ◌<◌, ◌+◌, ◌++◌, ◌∷◌, ◌∙◌, [], ap, arith, cond, length, vec_capacity}
use Rattle.session_tables.specs.declared.owned_lists.OwnedNode.{OwnedNode}
use Rattle.session_tables.specs.Filing.{kept}
use Rattle.session_tables.proofs.Relisting.{relinked, relinked_has}
use Rattle.session_tables.proofs.owned_lists.relist_owned.Goals as goal

pub returns-in-Some-clause-listed : goal.returns-in-Some-clause-listed
returns-in-Some-clause-listed c =
    let lists = c.args.lists.now in
    let nodes = lists.nodes.items in
    let e : OwnedNode = record { object = c.args.object; before = c.index.result.now.value } in
    let less : length nodes < vec_capacity lists.nodes = omega (arith, c.requires.place) in
    let is = c.push.ensures.items ∙ ap (λ t. cond t (nodes ++ e ∷ []) nodes) (c.push.ensures.succeeds (omega (arith, less, lists.nodes.ok.0))) in
    let link : c.len.result + 1 ≡ length nodes + 1 = omega (arith, c.len.ensures, lists.nodes.ok.0) in
    λ has.
    (relinked lists.heads nodes c.push.new.self.items c.args.owner c.args.object c.in-Some.at (c.len.result + 1) c.index.result.now c.index_mut.result.now c.requires.chained c.in-Some.ensures.within c.in-Some.ensures.entry c.index.ensures
    c.index_mut.ensures.value link is).2

pub returns-in-Some-clause-stays : goal.returns-in-Some-clause-stays
returns-in-Some-clause-stays c =
    let lists = c.args.lists.now in
    let nodes = lists.nodes.items in
    let e : OwnedNode = record { object = c.args.object; before = c.index.result.now.value } in
    let less : length nodes < vec_capacity lists.nodes = omega (arith, c.requires.place) in
    let is = c.push.ensures.items ∙ ap (λ t. cond t (nodes ++ e ∷ []) nodes) (c.push.ensures.succeeds (omega (arith, less, lists.nodes.ok.0))) in
    let link : c.len.result + 1 ≡ length nodes + 1 = omega (arith, c.len.ensures, lists.nodes.ok.0) in
    (relinked lists.heads nodes c.push.new.self.items c.args.owner c.args.object c.in-Some.at (c.len.result + 1) c.index.result.now c.index_mut.result.now c.requires.chained c.in-Some.ensures.within c.in-Some.ensures.entry c.index.ensures
    c.index_mut.ensures.value link is).1

pub returns-in-Some-clause-heads : goal.returns-in-Some-clause-heads
returns-in-Some-clause-heads c =
    let heads = c.args.lists.now.heads in
    relinked_has (kept heads.places) heads.entries.items c.args.owner c.in-Some.at c.index_mut.result.now c.requires.chained.placed c.in-Some.ensures.within c.index_mut.ensures.value c.in-Some.ensures.entry (c.len.result + 1)

pub returns-in-Some-clause-chained : goal.returns-in-Some-clause-chained
returns-in-Some-clause-chained c =
    let lists = c.args.lists.now in
    let nodes = lists.nodes.items in
    let e : OwnedNode = record { object = c.args.object; before = c.index.result.now.value } in
    let less : length nodes < vec_capacity lists.nodes = omega (arith, c.requires.place) in
    let is = c.push.ensures.items ∙ ap (λ t. cond t (nodes ++ e ∷ []) nodes) (c.push.ensures.succeeds (omega (arith, less, lists.nodes.ok.0))) in
    let link : c.len.result + 1 ≡ length nodes + 1 = omega (arith, c.len.ensures, lists.nodes.ok.0) in
    (relinked lists.heads nodes c.push.new.self.items c.args.owner c.args.object c.in-Some.at (c.len.result + 1) c.index.result.now c.index_mut.result.now c.requires.chained c.in-Some.ensures.within c.in-Some.ensures.entry c.index.ensures
    c.index_mut.ensures.value link is).0
