use Rattle.std.proofs.Common.{◌≡◌, ◌∙◌, ◌+◌, ◌∷◌, [], ◌++◌, List, ap, arith, length, sym, subst, take, get_or}
use Rattle.std.proofs.lemmas.List.{map-append, take_more}
use Rattle.command_tables.specs.declared.types.ObjectType.TheVariants as ty
use Rattle.object_model.specs.declared.Object.{Object}
use Rattle.object_model.specs.History.{births_of}
use Rattle.replay_model.specs.declared.Born.{Born}
use Rattle.replay_model.specs.Past.{objects_of}
use Rattle.session_tables.specs.Lined.{AreAdded}
use Rattle.session_tables.proofs.Listing.{added_none, added_one, enough_left, never, no_more_links, three_more}
use Rattle.session_tables.proofs.object_table.ObjectTable.add_all.Goals as goal

pub loop-born-init : goal.loop-born-init
loop-born-init c = record { added = added_none c.args.self.now.births; spare = omega arith; links = λ few. omega arith; owners = omega arith }

pub loop-born-preserved : goal.loop-born-preserved
loop-born-preserved c =
    let none : Born = record { place = 0; name = record { thread = 0; number = 0 }; object = record { ty = ty.Instance; number = 0 } } in
    let before = c.args.self.now.births in
    let i = c.loop-born.born-index in
    let xs = c.args.made.now in
    let more : objects_of (take (i + 1) xs) ≡ objects_of (take i xs) ++ (get_or xs i none).object ∷ [] = ap objects_of (take_more xs i none c.loop-born-test.true) ∙ map-append (λ (b : Born). b.object) (take i xs) (get_or xs i none ∷ []) in
    record {
      added = subst (λ (os : List Object). AreAdded before (births_of before c.args.created c.args.owners.now os) c.add.new.self.births) (sym more)
          (added_one before c.loop-born.self.births c.add.new.self.births c.args.created c.args.owners.now (objects_of (take i xs)) (get_or xs i none).object c.loop-born.invariant.added c.in_ok-add.ensures.ok);
      spare = omega (arith, c.add.ensures.spare, c.loop-born.invariant.spare);
      links = λ few. three_more c.args.self.now.links c.loop-born.self.links c.add.new.self.links (length c.args.owners.now) i few (c.loop-born.invariant.links few) c.add.ensures.links;
      owners = omega (arith, c.add.ensures.owners, c.loop-born.invariant.owners);
    }

pub returns-in_err-add-clause-succeeds : goal.returns-in_err-add-clause-succeeds
returns-in_err-add-clause-succeeds c = λ few spare links.
    let i = c.loop-born.born-index in
    let count = length c.args.made.now in
    never (c.in_err-add.ensures.succeeds few (enough_left c.args.self.now.spare c.loop-born.self.spare i count c.loop-born-test.true spare c.loop-born.invariant.spare)
    (no_more_links c.args.self.now.links c.loop-born.self.links (length c.args.owners.now) i count few c.loop-born-test.true links (c.loop-born.invariant.links few)))

pub returns-in_err-add-clause-spare : goal.returns-in_err-add-clause-spare
returns-in_err-add-clause-spare c = omega (arith, c.add.ensures.spare, c.loop-born.invariant.spare, c.loop-born-test.true)

pub returns-in_err-add-clause-links : goal.returns-in_err-add-clause-links
returns-in_err-add-clause-links c = λ few.
    let all = three_more c.args.self.now.links c.loop-born.self.links c.add.new.self.links (length c.args.owners.now) c.loop-born.born-index few (c.loop-born.invariant.links few) c.add.ensures.links in
    omega (arith, all, c.loop-born-test.true)
