use Rattle.std.proofs.Common.{◌∙◌, ◌+◌, ◌||◌, ap, arith, sym, take, take_all, get_or}
use Rattle.std.specs.List.{list_any, filter_map}
use Rattle.std.proofs.lemmas.List.Folds.{list_any_more}
use Rattle.object_model.specs.declared.Argument.{Argument}
use Rattle.object_model.specs.declared.Argument.TheVariants.{Null}
use Rattle.object_model.specs.Objects.{object_of}
use Rattle.object_model.specs.History.{ends_with}
use Rattle.session_tables.proofs.Ends.{left_none}
use Rattle.session_tables.proofs.Listing.{any_mapped, ended_more, goes_with, left_test, lined_after}
use Rattle.session_tables.proofs.object_table.ObjectTable.end_named.Goals as goal

pub loop-argument-init : goal.loop-argument-init
loop-argument-init c = record { left = left_none c.args.self.now.births; spare = omega arith; links = omega arith; owners = omega arith }

pub end_at-requires : goal.end_at-requires
end_at-requires c = lined_after c.args.self.now.births c.loop-argument.self.births (take c.loop-argument.argument-index c.args.at.now) c.requires c.loop-argument.invariant.left

pub loop-argument-preserved : goal.loop-argument-preserved
loop-argument-preserved c =
    let before = c.args.self.now.births in
    let i = c.loop-argument.argument-index in
    let xs = c.args.at.now in
    record {
      left = left_test before c.end_at.new.self.births (λ o. list_any (λ a. goes_with before a o) (take i xs) || goes_with before (get_or xs i Null) o) (λ o. list_any (λ a. goes_with before a o) (take (i + 1) xs))
          (λ o. sym (list_any_more (λ (a : Argument). goes_with before a o) xs i Null c.loop-argument-test.true)) (ended_more before c.loop-argument.self.births c.end_at.new.self.births (take i xs) (get_or xs i Null) c.requires c.loop-argument.invariant.left c.end_at.ensures.left);
      spare = omega (arith, c.end_at.ensures.spare, c.loop-argument.invariant.spare);
      links = omega (arith, c.end_at.ensures.links, c.loop-argument.invariant.links);
      owners = omega (arith, c.end_at.ensures.owners, c.loop-argument.invariant.owners);
    }

pub returns-clause-left : goal.returns-clause-left
returns-clause-left c =
    let before = c.args.self.now.births in
    let i = c.loop-argument.argument-index in
    let xs = c.args.at.now in
    left_test before c.loop-argument.self.births (λ o. list_any (λ a. goes_with before a o) (take i xs)) (λ o. list_any (ends_with before o) (filter_map object_of xs))
    (λ o. ap (list_any (λ (a : Argument). goes_with before a o)) (take_all i xs c.loop-argument-test.false) ∙ any_mapped (ends_with before o) object_of xs) c.loop-argument.invariant.left
