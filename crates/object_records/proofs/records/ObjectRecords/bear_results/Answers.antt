use Rattle.std.proofs.Common.{◌≡◌, ◌∙◌, ◌++◌, List, map, length, ap, arith}
use Rattle.object_model.specs.declared.Object.{Object}
use Rattle.object_model.specs.History.{Birth, births_of, owners_given}
use Rattle.layer_model.specs.Reading.{read_results}
use Rattle.object_records.specs.declared.record.ObjectRecord.{ObjectRecord}
use Rattle.object_records.specs.Records.{KeptObjects, births_kept, living_kept}
use Rattle.object_records.specs.Shape.{arguments_of}
use Rattle.object_records.proofs.Added.{added_longer, births_more, living_count, living_few, living_more}
use Rattle.object_records.proofs.records.ObjectRecords.bear_results.Goals as goal

pub overflow_add-self : goal.overflow_add-self
overflow_add-self c =
    omega (
      arith,
      c.len.type_inv,
      c.self.invariant,
      c.len.ensures,
      c.len-before.ensures,
      living_count c.args.is_created c.owner_for-owner.result c.args.ty c.args.results.now c.reserve.new.self.records c.add_births.new.table.records c.add_births.ensures.records,
      living_few c.add_births.new.table.records,
      ap (λ (xs : List ObjectRecord). length (living_kept xs)) c.in_ok-reserve.ensures.records,
      added_longer c.reserve.new.self.records c.add_births.new.table.records _ (length c.reserve.new.self.records) c.add_births.ensures.records (omega arith),
    )

pub invariant_of-self-2 : goal.invariant_of-self-2
invariant_of-self-2 c =
    omega (
      arith,
      c.self.invariant,
      c.len.ensures,
      c.len-before.ensures,
      living_count c.args.is_created c.owner_for-owner.result c.args.ty c.args.results.now c.reserve.new.self.records c.add_births.new.table.records c.add_births.ensures.records,
      ap (λ (xs : List ObjectRecord). length (living_kept xs)) c.in_ok-reserve.ensures.records,
      added_longer c.reserve.new.self.records c.add_births.new.table.records _ (length c.reserve.new.self.records) c.add_births.ensures.records (omega arith),
    )

pub returns-clause-births : goal.returns-clause-births
returns-clause-births c =
    let were : births_kept c.reserve.new.self.records ≡ c.args.self.now.kept.births = ap (λ (xs : List ObjectRecord). births_kept xs) c.in_ok-reserve.ensures.records ∙ ap (λ (m : KeptObjects). m.kept.births) c.self.view_is in
    births_more c.args.is_created c.owner_for-owner.result c.args.ty c.args.results.now c.reserve.new.self.records c.add_births.new.table.records (owners_given (births_kept c.reserve.new.self.records) (arguments_of c.args.call.now) c.args.owner)
    c.owner_for-owner.ensures.within c.owner_for-owner.ensures.line c.add_births.ensures.records
    ∙ ap (λ (bs : List Birth). bs ++ births_of bs c.args.is_created (owners_given bs (arguments_of c.args.call.now) c.args.owner) (read_results c.args.ty c.args.results.now)) were

pub returns-clause-living : goal.returns-clause-living
returns-clause-living c =
    let were : births_kept c.reserve.new.self.records ≡ c.args.self.now.kept.births = ap (λ (xs : List ObjectRecord). births_kept xs) c.in_ok-reserve.ensures.records ∙ ap (λ (m : KeptObjects). m.kept.births) c.self.view_is in
    let lived : living_kept c.reserve.new.self.records ≡ c.args.self.now.kept.living = ap (λ (xs : List ObjectRecord). living_kept xs) c.in_ok-reserve.ensures.records ∙ ap (λ (m : KeptObjects). m.kept.living) c.self.view_is in
    living_more c.args.is_created c.owner_for-owner.result c.args.ty c.args.results.now c.reserve.new.self.records c.add_births.new.table.records (owners_given (births_kept c.reserve.new.self.records) (arguments_of c.args.call.now) c.args.owner)
    c.add_births.ensures.records
    ∙ (ap (λ (os : List Object). os ++ map (λ (b : Birth). b.object) (births_of (births_kept c.reserve.new.self.records) c.args.is_created (owners_given (births_kept c.reserve.new.self.records) (arguments_of c.args.call.now) c.args.owner) (read_results c.args.ty c.args.results.now))) lived
    ∙ ap (λ (bs : List Birth). c.args.self.now.kept.living ++ map (λ (b : Birth). b.object) (births_of bs c.args.is_created (owners_given bs (arguments_of c.args.call.now) c.args.owner) (read_results c.args.ty c.args.results.now))) were)
