use Rattle.std.proofs.Common.{◌≡◌, ◌∙◌, ℕ, List, ap, arith, get_or, length, map, subst, sym}
use Rattle.std.specs.Prelude.{is_some}
use Rattle.std.specs.Vec.{with_items}
use Rattle.std.proofs.lemmas.List.{get_or_default, with_items_is}
use Rattle.std.proofs.lemmas.List.Edits.{map_over_more}
use Rattle.command_tables.specs.declared.types.ObjectType.TheVariants as ty
use Rattle.session_tables.specs.declared.placed_table.Placed.{Placed}
use Rattle.session_tables.specs.Filing.{kept}
use Rattle.session_tables.specs.Placed.{AreTheirPlaces, entry_of}
use Rattle.session_tables.proofs.Relisting.{all_unlinked, unlinked, unlinked_has, unlinked_placed, unlinked_value, value_or}
use Rattle.session_tables.proofs.owned_lists.unlink.Goals as goal

pub loop-entry-preserved : goal.loop-entry-preserved
loop-entry-preserved c =
    let none : Placed ℕ = record { object = record { ty = ty.Instance; number = 0 }; value = 0 } in
    let xs = c.deref_mut-entry-items.result.now in
    let ys = c.loop-entry.entry-items in
    let i = c.loop-entry.entry-index in
    let long : length ys ≡ length xs = c.loop-entry.auto.entry-items in
    map_over_more unlinked xs ys i (get_or ys i none) (omega arith) c.loop-entry.invariant (get_or_default ys i none (get_or ys i none) (omega arith))

pub returns-clause-none : goal.returns-clause-none
returns-clause-none c =
    let heads = c.args.heads.now in
    let ys = c.loop-entry.entry-items in
    let long : length ys ≡ length c.deref_mut-entry-items.result.now = c.loop-entry.auto.entry-items in
    let is : ys ≡ map unlinked heads.entries.items = all_unlinked c.deref_mut-entry-items.result.now ys c.loop-entry.entry-index c.loop-entry.invariant (omega arith) ∙ ap (map unlinked) c.deref_mut-entry-items.ensures.value in
    let after : (with_items heads.entries ys).items ≡ map unlinked heads.entries.items = with_items_is heads.entries ys (omega (arith, long, c.deref_mut-entry-items.ensures.len)) ∙ is in
    λ w. ap (λ (es : List (Placed ℕ)). value_or (entry_of es w)) after ∙ unlinked_value heads.entries.items w

pub returns-clause-heads : goal.returns-clause-heads
returns-clause-heads c =
    let heads = c.args.heads.now in
    let ys = c.loop-entry.entry-items in
    let long : length ys ≡ length c.deref_mut-entry-items.result.now = c.loop-entry.auto.entry-items in
    let is : ys ≡ map unlinked heads.entries.items = all_unlinked c.deref_mut-entry-items.result.now ys c.loop-entry.entry-index c.loop-entry.invariant (omega arith) ∙ ap (map unlinked) c.deref_mut-entry-items.ensures.value in
    let after : (with_items heads.entries ys).items ≡ map unlinked heads.entries.items = with_items_is heads.entries ys (omega (arith, long, c.deref_mut-entry-items.ensures.len)) ∙ is in
    λ w. ap (λ (es : List (Placed ℕ)). is_some (entry_of es w)) after ∙ unlinked_has heads.entries.items w

pub returns-clause-placed : goal.returns-clause-placed
returns-clause-placed c =
    let heads = c.args.heads.now in
    let ys = c.loop-entry.entry-items in
    let long : length ys ≡ length c.deref_mut-entry-items.result.now = c.loop-entry.auto.entry-items in
    let is : ys ≡ map unlinked heads.entries.items = all_unlinked c.deref_mut-entry-items.result.now ys c.loop-entry.entry-index c.loop-entry.invariant (omega arith) ∙ ap (map unlinked) c.deref_mut-entry-items.ensures.value in
    let after : (with_items heads.entries ys).items ≡ map unlinked heads.entries.items = with_items_is heads.entries ys (omega (arith, long, c.deref_mut-entry-items.ensures.len)) ∙ is in
    subst (AreTheirPlaces (kept heads.places)) (sym after) (unlinked_placed (kept heads.places) heads.entries.items c.requires)
