-- A call that came down.
use Rattle.std.proofs.Common.{◌≡◌, ◌∙◌, ℕ, Bool, true, false, ◌||◌, Option, List, [], ◌∷◌, ◌++◌, refl, ap, sym, subst}
use Rattle.std.specs.Prelude.{is_some}
use Rattle.command_tables.specs.Calls.{CallContent}
use Rattle.command_tables.specs.Table.{ParamSpec, row_of}
use Rattle.object_model.specs.declared.Argument.{Argument}
use Rattle.object_model.specs.declared.Object.{Object}
use Rattle.object_model.specs.Findings.{at_place, is_failing}
use Rattle.object_model.specs.History.{Birth, born_in}
use Rattle.object_model.specs.Rules.{Failure, failure, loader_failures, parameter_holds, unless}
use Rattle.command_tables.specs.declared.types.Rule.TheVariants as rule
use Rattle.object_model.specs.declared.PartKind.{PartKind}
use Rattle.layer_model.specs.Walks.{PartState}
use Rattle.lifetime_layer.specs.declared.verdict.Verdict.{Verdict}
use Rattle.lifetime_layer.specs.Reports.{reports_of}
use Rattle.chain_model.specs.Chained.{form_by}
use Rattle.chain_model.specs.Handed.{Handed, handle_in}
use Rattle.chain_model.specs.Simulated.{base_of}
use Rattle.dispatch_chain.specs.Holding.{HeldCalls, IsHeldOf}
use Rattle.dispatch_chain.specs.Rows.{picked}
use Rattle.dispatch_chain.specs.Seats.{kinds_of}
use Rattle.dispatch_chain.specs.Room.{ChainState}
use Rattle.replay_model.specs.Past.{Opened, is_skipped}
use Rattle.session_model.specs.Living.{ArePast}
use Rattle.session_parts.specs.declared.parts.SessionParts.{SessionParts}
use Rattle.session_parts.specs.Names.{NameTableState}
use Rattle.session_parts.specs.Judging.{ComesDown, IsFound, found_at, loader_report, stopped_by, walk_at}
use Rattle.session_parts.proofs.Stopping.{stop_last}

-- ---- the loader

one_or_none : (t : Bool) (f : Failure) → is_failing (unless t f) ≡ true → unless t f ≡ f ∷ []
one_or_none true f h = cc
one_or_none false f h = refl

-- where the loader finds something, it is that the first argument doesn't hold
failures_are : (living : Object → Bool) (params : List ParamSpec) (args : List (List Argument)) → is_failing (loader_failures living params args) ≡ true
    → loader_failures living params args ≡ failure 0 0 rule.Parameter 0 ∷ []
failures_are living [] args h = cc
failures_are living (p ∷ params) [] h = cc
failures_are living (p ∷ params) ([] ∷ args) h = cc
failures_are living (p ∷ params) ((a ∷ at) ∷ args) h = one_or_none (parameter_holds living p a) (failure 0 0 rule.Parameter 0) h

-- ---- what is held

pub none_picked : (held : HeldCalls) (kinds : List PartKind) → held.forms ≡ [] → IsHeldOf held kinds []
none_picked held kinds is = record { picked = is ∙ sym (none kinds); one = tt }
  where
    none : (kinds : List PartKind) → picked held.cmd kinds [] ≡ []
    none [] = refl
    none (q ∷ kinds) = refl

-- ---- what is found

-- the loader reports a call
pub loader_found : (births : List Birth) (handed : List Handed) (states : List PartState) (o : Opened) (form : CallContent) (held : HeldCalls) (before verdict : Verdict)
    → o.refused ≡ false → is_failing (loader_failures (born_in births) (row_of o.cmd).params o.args) ≡ true → before.findings.items ≡ [] → held.forms ≡ [] → verdict.skip ≡ true
    → reports_of verdict.findings.items ≡ reports_of before.findings.items ++ loader_report ∷ [] → IsFound births handed states o form held verdict states
loader_found births handed states o form held before verdict refused failing none unheld skip reports =
    let one : reports_of verdict.findings.items ≡ loader_report ∷ [] = reports ∙ ap (λ xs. reports_of xs ++ loader_report ∷ []) none in
    record {
      reports = rw (refused, failing) (one ∙ sym (ap (at_place 0) (failures_are (born_in births) (row_of o.cmd).params o.args failing)));
      skip = rw (refused, failing) skip;
      stop = rw (refused, failing) (ap (λ b. stopped_by b (reports_of verdict.findings.items)) skip ∙ ap (stopped_by true) one);
      states = rw (refused, failing) refl;
      bottom = rw (refused, failing) (λ down. cc);
      forms = rw (refused, failing) (none_picked held (kinds_of states) unheld);
    }

-- it comes to the parts
pub walked_found : (births : List Birth) (handed : List Handed) (states after : List PartState) (o : Opened) (form : CallContent) (held : HeldCalls) (verdict : Verdict)
    → o.refused ≡ false → is_failing (loader_failures (born_in births) (row_of o.cmd).params o.args) ≡ false
    → reports_of verdict.findings.items ≡ (walk_at states handed o).found.reports → verdict.skip ≡ is_some (walk_at states handed o).found.stop
    → after ≡ (walk_at states handed o).states → form ≡ (walk_at states handed o).bottom → IsHeldOf held (kinds_of states) (walk_at states handed o).forms → IsFound births handed states o form held verdict after
walked_found births handed states after o form held verdict refused failing reports skip is bottom holds =
    record {
      reports = rw (refused, failing) reports;
      skip = rw (refused, failing) skip;
      stop = rw (refused, failing) (ap (λ b. stopped_by b (reports_of verdict.findings.items)) skip
          ∙ (ap (stopped_by (is_some (walk_at states handed o).found.stop)) reports ∙ sym (stop_last o.thread o.number 1 states (form_by (handle_in handed) (base_of o) o.args))));
      states = rw (refused, failing) is;
      bottom = rw (refused, failing) (λ down. bottom);
      forms = rw (refused, failing) holds;
    }

-- ---- the steps of a call that comes down

pub came_down : (x : SessionParts) (births : List Birth) (handed : List Handed) (o : Opened) (form : CallContent) (held : HeldCalls) (verdict : Verdict) (states : ChainState) (names : NameTableState)
    → births ≡ x.names.kept.births → handed ≡ x.names.kept.handed → o.refused ≡ false → IsFound births handed x.states.kept o form held verdict states.kept
    → ((p : Opened) → p.cmd ≡ o.cmd → p.args ≡ o.args → is_skipped p ≡ verdict.skip → ArePast x.names.kept.births p names.kept.births) → names.kept ≡ record x.names.kept { births = names.kept.births }
    → ComesDown x o form held verdict (record { states = states; terminator = x.terminator; names = names })
came_down x births handed o form held verdict states names is_births is_handed refused look ends rest =
    let found : IsFound x.names.kept.births x.names.kept.handed x.states.kept o form held verdict states.kept =
    subst (λ hs. IsFound x.names.kept.births hs x.states.kept o form held verdict states.kept) is_handed (subst (λ bs. IsFound bs handed x.states.kept o form held verdict states.kept) is_births look) in
    let stop : Option ℕ = (found_at x.names.kept.births x.states.kept x.names.kept.handed o).stop in
    record {
      found = found;
      passes = record {
        past = ends (record o { stop = stop }) refl refl (ap (λ b. b || is_some stop) refused ∙ sym found.skip);
        names = rest;
        terminator = refl;
      };
    }
