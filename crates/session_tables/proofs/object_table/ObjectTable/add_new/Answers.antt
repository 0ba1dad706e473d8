use Rattle.std.proofs.Common.{◌≡◌, ◌≤◌, ◌+◌, ◌++◌, ◌∷◌, [], List, length, sym, subst}
use Rattle.object_model.specs.History.{Birth}
use Rattle.session_tables.specs.Lined.{ObjectsState}
use Rattle.session_tables.specs.Owned.{AreListed, listed_in, lists_room}
use Rattle.session_tables.proofs.Listing.{listed_new, listed_still, never}
use Rattle.session_tables.proofs.object_table.ObjectTable.add_new.Goals as goal

pub invariant_of-self : goal.invariant_of-self
invariant_of-self c = (c.list_at_each.ensures.chained, listed_still c.self.inside.births.births (listed_in c.self.inside.lists) (listed_in c.list_at_each.new.lists) c.self.invariant.1 c.list_at_each.ensures.stays)

pub invariant_of-self-in_err-push : goal.invariant_of-self-in_err-push
invariant_of-self-in_err-push c = (
  c.list_at_each.ensures.chained,
  subst (λ (bs : List Birth). AreListed bs (listed_in c.list_at_each.new.lists)) (sym c.in_err-push.ensures.err)
      (listed_still c.self.inside.births.births (listed_in c.self.inside.lists) (listed_in c.list_at_each.new.lists) c.self.invariant.1 c.list_at_each.ensures.stays),
)

pub invariant_of-self-2 : goal.invariant_of-self-2
invariant_of-self-2 c =
    let b : Birth = record { object = c.args.object; created = c.args.created; owners = c.args.owners.now } in (
      c.list_at_each.ensures.chained,
      subst (λ (bs : List Birth). AreListed bs (listed_in c.list_at_each.new.lists)) (sym c.in_ok-push.ensures.ok)
          (listed_new c.self.inside.births.births (listed_in c.self.inside.lists) (listed_in c.list_at_each.new.lists) b c.self.invariant.1 c.list_at_each.ensures.stays c.in_ok-list_at_each.ensures.ok),
    )

pub returns-in_err-list_at_each-clause-succeeds : goal.returns-in_err-list_at_each-clause-succeeds
returns-in_err-list_at_each-clause-succeeds c = λ few spare links. never (c.in_err-list_at_each.ensures.succeeds (subst (λ (s : ObjectsState). length c.args.owners.now ≤ s.links) (sym c.self.view_is) links))

pub returns-in_err-list_at_each-clause-links : goal.returns-in_err-list_at_each-clause-links
returns-in_err-list_at_each-clause-links c = subst (λ (s : ObjectsState). s.links ≤ lists_room c.list_at_each.new.lists + length c.args.owners.now) c.self.view_is c.list_at_each.ensures.room

pub returns-in_err-push-clause-succeeds : goal.returns-in_err-push-clause-succeeds
returns-in_err-push-clause-succeeds c = λ few spare links. never (c.in_err-push.ensures.succeeds few (subst (λ (s : ObjectsState). 1 ≤ s.spare) (sym c.self.view_is) spare))

pub returns-in_err-push-clause-spare : goal.returns-in_err-push-clause-spare
returns-in_err-push-clause-spare c = subst (λ (s : ObjectsState). s.spare ≤ c.push.new.self.spare + 1) c.self.view_is c.push.ensures.spare

pub returns-in_err-push-clause-links : goal.returns-in_err-push-clause-links
returns-in_err-push-clause-links c = subst (λ (s : ObjectsState). s.links ≤ lists_room c.list_at_each.new.lists + length c.args.owners.now) c.self.view_is c.list_at_each.ensures.room

pub returns-clause-ok : goal.returns-clause-ok
returns-clause-ok c =
    let b : Birth = record { object = c.args.object; created = c.args.created; owners = c.args.owners.now } in
    subst (λ (s : ObjectsState). c.push.new.self.births ≡ s.births ++ b ∷ []) c.self.view_is c.in_ok-push.ensures.ok

pub returns-clause-spare : goal.returns-clause-spare
returns-clause-spare c = subst (λ (s : ObjectsState). s.spare ≤ c.push.new.self.spare + 1) c.self.view_is c.push.ensures.spare

pub returns-clause-links : goal.returns-clause-links
returns-clause-links c = subst (λ (s : ObjectsState). s.links ≤ lists_room c.list_at_each.new.lists + length c.args.owners.now) c.self.view_is c.list_at_each.ensures.room
