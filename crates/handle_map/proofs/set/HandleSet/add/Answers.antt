use Rattle.std.proofs.Common.{◌≡◌, ◌<◌, ◌+◌, ◌++◌, [], ◌∷◌, false, get_or, set, length, ap, sym, subst, arith, ◌∙◌}
use Rattle.handle_map.specs.declared.bounds.Bounds.{Bounds}
use Rattle.handle_map.specs.declared.entry.Entry.{Entry}
use Rattle.handle_map.specs.Chains.{chain_of, chains_made, pairs_of}
use Rattle.handle_map.specs.Pairs.{SetState, has_pair}
use Rattle.handle_map.proofs.Bounding.{bounded_more, bounded_same}
use Rattle.handle_map.proofs.Adding.{Adds, added_table, kept_table, made_all, more_pairs, read_at}
use Rattle.handle_map.proofs.set.HandleSet.add.Goals as goal

pub invariant_of-self-in_err-make_room : goal.invariant_of-self-in_err-make_room
invariant_of-self-in_err-make_room g c = (
  kept_table g.row.S c.self.inside.entries.items c.make_room.new.entries.items c.self.inside.firsts.items c.make_chains.new.firsts.items c.self.inside.bounds.greatest c.self.invariant.0 c.make_room.ensures.items c.in_ok-make_chains.ensures.ok,
  bounded_same c.self.inside.entries.items c.make_room.new.entries.items c.self.inside.bounds c.make_room.ensures.items c.self.invariant.1,
)

pub invariant_of-self-2 : goal.invariant_of-self-2
invariant_of-self-2 g c =
    let e : Entry = record { id = c.args.id; next = c.index-next.result.now; ty = c.args.ty } in
    let entries_are : c.push.new.self.items ≡ c.self.inside.entries.items ++ e ∷ [] = (rw c.unwrap.ensures at c.push.ensures.items) ∙ ap (λ xs. xs ++ e ∷ []) c.make_room.ensures.items in
    let chain_is : c.chain_of-chain.result ≡ chain_of g.row.S c.args.ty c.args.id = c.chain_of-chain.ensures.value in
    let chain : chain_of g.row.S c.args.ty c.args.id < g.row.S = subst (λ n. n < g.row.S) chain_is c.chain_of-chain.ensures.within in
    let made : c.make_chains.new.firsts.items ≡ chains_made g.row.S c.self.inside.firsts.items = c.in_ok-make_chains.ensures.ok in
    let all : length (chains_made g.row.S c.self.inside.firsts.items) ≡ g.row.S = made_all g.row.S c.self.inside.entries.items c.self.inside.firsts.items c.self.invariant.0.first in
    let count : c.len-place.result + 1 ≡ length c.self.inside.entries.items + 1 = omega (arith, c.len-place.ensures, ap length c.make_room.ensures.items) in
    let within : c.chain_of-chain.result < length c.make_chains.new.firsts.items = omega (arith, c.chain_of-chain.ensures.within, ap length made, all) in
    let next : c.index-next.result.now ≡ get_or (chains_made g.row.S c.self.inside.firsts.items) (chain_of g.row.S c.args.ty c.args.id) 0
    = read_at c.make_chains.new.firsts.items c.chain_of-chain.result c.index-next.result.now within c.index-next.ensures ∙ (ap (λ fs. get_or fs c.chain_of-chain.result 0) made ∙ ap (λ n. get_or (chains_made g.row.S c.self.inside.firsts.items) n 0) chain_is) in
    let links_are : set c.make_chains.new.firsts.items c.chain_of-chain.result (c.len-place.result + 1) ≡ set (chains_made g.row.S c.self.inside.firsts.items) (chain_of g.row.S c.args.ty c.args.id) (length c.self.inside.entries.items + 1)
    = ap (λ fs. set fs c.chain_of-chain.result (c.len-place.result + 1)) made ∙ (ap (λ n. set (chains_made g.row.S c.self.inside.firsts.items) n (c.len-place.result + 1)) chain_is ∙ ap (set (chains_made g.row.S c.self.inside.firsts.items) (chain_of g.row.S c.args.ty c.args.id)) count) in
    let adds : Adds g.row.S c.self.inside.entries.items c.push.new.self.items c.self.inside.firsts.items (set c.make_chains.new.firsts.items c.chain_of-chain.result (c.len-place.result + 1)) c.self.inside.bounds.greatest c.bounds_with-self-inside.result.greatest e
    = record { entries_are = entries_are; links_are = links_are; most_is = ap (λ (b : Bounds). b.greatest) c.bounds_with-self-inside.ensures; next = next; chain = chain } in (
      added_table g.row.S c.self.inside.entries.items c.push.new.self.items c.self.inside.firsts.items (set c.make_chains.new.firsts.items c.chain_of-chain.result (c.len-place.result + 1)) c.self.inside.bounds.greatest c.bounds_with-self-inside.result.greatest e c.self.invariant.0 adds
          (subst (λ (s : SetState). has_pair s.pairs c.args.ty c.args.id ≡ false) (sym c.self.view_is) c.requires),
      bounded_more c.self.inside.entries.items c.push.new.self.items e c.self.inside.bounds c.bounds_with-self-inside.result entries_are c.bounds_with-self-inside.ensures c.self.invariant.1,
    )

pub returns-clause-ok : goal.returns-clause-ok
returns-clause-ok g c =
    let e : Entry = record { id = c.args.id; next = c.index-next.result.now; ty = c.args.ty } in
    let entries_are : c.push.new.self.items ≡ c.self.inside.entries.items ++ e ∷ [] = (rw c.unwrap.ensures at c.push.ensures.items) ∙ ap (λ xs. xs ++ e ∷ []) c.make_room.ensures.items in
    rw (← c.self.view_is) (ap pairs_of entries_are ∙ more_pairs c.self.inside.entries.items e)
