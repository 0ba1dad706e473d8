use Rattle.std.proofs.Common.{◌≡◌, ◌∷◌, ◌++◌, [], ℕ, length, set, sym, vec_capacity}
use Rattle.std.proofs.Math.ListN.{length-set}
use Rattle.std.proofs.lemmas.Result.{on_ok_weaker}
use Rattle.session_tables.specs.declared.placed_table.Placed.{Placed}
use Rattle.session_tables.specs.Filing.{kept, places_room}
use Rattle.session_tables.proofs.Listing.{head_opened, head_put, set_room}
use Rattle.session_tables.proofs.owned_lists.set_head.Goals as goal

pub returns-in-Some-clause-ok : goal.returns-in-Some-clause-ok
returns-in-Some-clause-ok c =
    let heads = c.args.heads.now in
    (head_put (kept heads.places) heads.entries.items c.args.owner c.in-Some.at c.index_mut.result.now c.args.link c.requires c.in-Some.ensures.within c.index_mut.ensures.value c.in-Some.ensures.entry).1

pub returns-in-Some-clause-placed : goal.returns-in-Some-clause-placed
returns-in-Some-clause-placed c =
    let heads = c.args.heads.now in
    (head_put (kept heads.places) heads.entries.items c.args.owner c.in-Some.at c.index_mut.result.now c.args.link c.requires c.in-Some.ensures.within c.index_mut.ensures.value c.in-Some.ensures.entry).0

pub returns-in-None-clause-ok : goal.returns-in-None-clause-ok
returns-in-None-clause-ok c =
    let heads = c.args.heads.now in
    let e : Placed ℕ = record { object = c.args.owner; value = c.args.link } in
    on_ok_weaker c.push.result (λ (is : c.push.new.self.entries.items ≡ heads.entries.items ++ e ∷ []). λ w. head_opened heads.entries.items c.push.new.self.entries.items e w (sym c.in-None.ensures.entry) is) c.push.ensures.ok

pub returns-in-Some-clause-room : goal.returns-in-Some-clause-room
returns-in-Some-clause-room c =
    let heads = c.args.heads.now in
    let e : Placed ℕ = record { object = c.index_mut.result.now.object; value = c.args.link } in
    set_room (vec_capacity heads.entries) (length heads.entries.items) (length (set heads.entries.items c.in-Some.at e)) (places_room heads.places) (length-set heads.entries.items c.in-Some.at e)
