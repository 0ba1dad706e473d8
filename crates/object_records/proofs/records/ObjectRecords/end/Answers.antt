use Rattle.std.proofs.Common.{◌≡◌, ◌∙◌, false, not, List, length, sym, ap}
use Rattle.std.specs.Prelude.{Bool, filter}
use Rattle.command_tables.specs.Table.{row_of}
use Rattle.command_tables.specs.declared.types.Effect.{Effect}
use Rattle.object_model.specs.declared.Object.{Object}
use Rattle.object_model.specs.History.{Birth, ends_by}
use Rattle.layer_model.specs.Parts.{LifeModel, life_passed}
use Rattle.object_records.specs.declared.record.ObjectRecord.{ObjectRecord}
use Rattle.object_records.specs.Records.{KeptObjects, births_kept, living_kept}
use Rattle.object_records.specs.Shape.{arguments_of}
use Rattle.object_records.proofs.Swept.{all_live_on, births_swept, living_swept}
use Rattle.object_records.proofs.records.ObjectRecords.end.Goals as goal

pub returns-then-not-may_end-clause-kept : goal.returns-then-not-may_end-clause-kept
returns-then-not-may_end-clause-kept c =
    let effect_is : c.row.result.now.effect ≡ (row_of c.args.call.now.cmd).effect = ap (λ s. s.effect) c.row.ensures in
    let ends : Object → Bool = ends_by c.args.self.now.kept.births (arguments_of c.args.call.now) (row_of c.args.call.now.cmd).effect in
    let none : (o : Object) → ends o ≡ false
    = λ o. ap (λ (e : Effect). ends_by c.args.self.now.kept.births (arguments_of c.args.call.now) e o) (sym effect_is) ∙ c.may_end.ensures c.if-not-may_end.true c.args.self.now.kept.births (arguments_of c.args.call.now) o in
    let same : LifeModel → List Object → LifeModel = λ m os. record { births = m.births; living = os } in ap (same c.args.self.now.kept) (sym (all_live_on ends c.args.self.now.kept.living none))

pub returns-clause-kept : goal.returns-clause-kept
returns-clause-kept c =
    let effect_is : c.row.result.now.effect ≡ (row_of c.args.call.now.cmd).effect = ap (λ s. s.effect) c.row.ensures in
    let rs : List ObjectRecord = c.self.inside.table.records in
    let ends : Object → Bool = ends_by (births_kept rs) (arguments_of c.args.call.now) c.row.result.now.effect in
    let births : births_kept c.end_objects.new.table.records ≡ births_kept rs = ap (λ (xs : List ObjectRecord). births_kept xs) c.end_objects.ensures.records ∙ births_swept ends (length rs) rs in
    let living : living_kept c.end_objects.new.table.records ≡ filter (λ o. not (ends o)) (living_kept rs) = living_swept ends rs c.end_objects.new.table.records c.end_objects.ensures.records in
    let with_births : List Birth → LifeModel = λ bs. record { births = bs; living = living_kept c.end_objects.new.table.records } in
    let with_living : List Object → LifeModel = λ os. record { births = births_kept rs; living = os } in
    let by_effect : Effect → LifeModel = λ e. record { births = births_kept rs; living = filter (λ o. not (ends_by (births_kept rs) (arguments_of c.args.call.now) e o)) (living_kept rs) } in
    ap with_births births ∙ (ap with_living living ∙ (ap by_effect effect_is ∙ ap (λ (m : KeptObjects). life_passed m.kept c.args.call.now.cmd (arguments_of c.args.call.now)) c.self.view_is))
