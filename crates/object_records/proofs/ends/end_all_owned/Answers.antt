use Rattle.std.proofs.Common.{◌<◌, ◌+◌, ◌∙◌, Bool, false, List, length, ap, arith, refl}
use Rattle.std.specs.Option.{option_map_or}
use Rattle.command_tables.specs.Handles.{list_at}
use Rattle.object_model.specs.declared.Argument.{Argument}
use Rattle.object_model.specs.declared.Object.{Object}
use Rattle.object_model.specs.Objects.{is_in, object_of}
use Rattle.object_model.specs.History.{Birth, owners_in}
use Rattle.object_records.specs.declared.record.ObjectRecord.{ObjectRecord}
use Rattle.object_records.specs.Records.{births_kept, living_kept, swept}
use Rattle.object_records.specs.Shape.{arguments_of}
use Rattle.object_records.proofs.Sweeping.{ending_begins, ending_ends, ending_goes, ending_strays, ends_fit}
use Rattle.object_records.proofs.ends.end_all_owned.Goals as goal

pub loop-k-init : goal.loop-k-init
loop-k-init c = record { ended = ending_begins (λ births o. is_in (owners_in births o)) c.args.table.now.records (list_at (arguments_of c.args.call.now) c.args.p); count = omega arith; spare = refl }

pub end_owned_by_argument-ended-requires : goal.end_owned_by_argument-ended-requires
end_owned_by_argument-ended-requires c = ending_strays (λ births o. is_in (owners_in births o)) c.args.table.now.records c.loop-k.table.records (list_at (arguments_of c.args.call.now) c.args.p) c.loop-k.k c.loop-k.invariant.ended ∙ c.requires.born

pub overflow_add-ended : goal.overflow_add-ended
overflow_add-ended c =
    omega (
      arith,
      ends_fit c.args.table.now.records (c.loop-k.ended + c.end_owned_by_argument-ended.result) (length (living_kept c.end_owned_by_argument-ended.new.table.records)) c.len-count.result c.len-count.type_inv c.len-count.ensures
          (omega (arith, c.loop-k.invariant.count, c.end_owned_by_argument-ended.ensures.count)),
    )

pub loop-k-preserved : goal.loop-k-preserved
loop-k-preserved c =
    let places : List Argument = list_at (arguments_of c.args.call.now) c.args.p in
    let less : c.loop-k.k < length places = omega (arith, c.loop-k-test.true, c.count_places-k-end.ensures) in
    let goes : List Birth → Object → Object → Bool = λ births o. is_in (owners_in births o) in
    let rs : List ObjectRecord = c.loop-k.table.records in record {
      ended = ending_goes goes c.args.table.now.records rs c.end_owned_by_argument-ended.new.table.records places c.loop-k.k c.loop-k.invariant.ended less
          (c.end_owned_by_argument-ended.ensures.records ∙ ap (λ a. swept (λ o. option_map_or (goes (births_kept rs) o) (object_of a) false) (length rs) rs) c.argument_at.ensures);
      count = omega (arith, c.loop-k.invariant.count, c.end_owned_by_argument-ended.ensures.count);
      spare = c.end_owned_by_argument-ended.ensures.spare ∙ c.loop-k.invariant.spare;
    }

pub returns-clause-records : goal.returns-clause-records
returns-clause-records c =
    ending_ends (λ births o. is_in (owners_in births o)) c.args.table.now.records c.loop-k.table.records (arguments_of c.args.call.now) c.args.p c.loop-k.k c.loop-k.invariant.ended
    (omega (arith, c.loop-k-test.false, c.count_places-k-end.ensures))
