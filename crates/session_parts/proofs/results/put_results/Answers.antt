use Rattle.std.proofs.Common.{◌≡◌, List, OnOk, subst}
use Rattle.command_tables.specs.declared.types.Effect.TheVariants as eff
use Rattle.command_tables.specs.Table.{row_of}
use Rattle.replay_model.specs.declared.Born.{Born}
use Rattle.replay_model.specs.Past.{owner_by}
use Rattle.session_parts.specs.Opened.{returning_shown}
use Rattle.session_parts.proofs.Retrieving.{retrieved_all}
use Rattle.session_parts.proofs.results.put_results.Goals as goal

pub returns-in-Retrieve-clause-made : goal.returns-in-Retrieve-clause-made
returns-in-Retrieve-clause-made c =
    let o = returning_shown c.args.call in
    let is : (row_of c.args.call.cmd).effect ≡ eff.Retrieve c.in-Retrieve.ty c.in-Retrieve.owner c.in-Retrieve.many = cc in
    let who : c.owner-owner.result ≡ owner_by c.args.births.now.births o.args (eff.Retrieve c.in-Retrieve.ty c.in-Retrieve.owner c.in-Retrieve.many) = cc in
    subst (λ (xs : List Born). OnOk c.put_retrieved.result (c.put_retrieved.new.all.items ≡ xs))
    (retrieved_all c.args.drivers c.args.births.now.births c.args.table.now.kept o c.in-Retrieve.ty c.in-Retrieve.owner c.in-Retrieve.many c.owner-owner.result c.bearable_results-names.result.now is who
    c.bearable_results-names.ensures) c.put_retrieved.ensures.made
