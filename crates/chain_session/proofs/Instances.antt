-- The creation of the instance, which begins last before its return.
use Rattle.std.proofs.Common.{◌≡◌, Bool, true, false, cond, ◌&&◌, ◌∙◌, ℕ, Some, None, List, [], ◌∷◌, ◌++◌, map, refl, ap, sym, subst}
use Rattle.std.specs.Prelude.{find}
use Rattle.std.specs.List.{AllByRecursion, list_any}
use Rattle.command_tables.specs.Effects.{succeeds}
use Rattle.command_tables.specs.Tests.{same_command}
use Rattle.command_tables.specs.declared.types.CommandId.TheVariants as cmd
use Rattle.trace_format.specs.Accepting.{breaks_in, makes_instance}
use Rattle.trace_format.specs.Content.{BeginEvent, TraceEvent, Begin, Return}
use Rattle.replay_model.specs.ChainPlaces.{parts_in_force}
use Rattle.replay_model.specs.Setup.{Setup}
use Rattle.replay_model.specs.Past.{Opened, is_of, open_calls}
use Rattle.replay_model.specs.Judged.{begun_of, judged}
use Rattle.layer_model.specs.Walks.{PartState, kind_of}
use Rattle.layer_model.proofs.Same.{and_true}
use Rattle.chain_model.specs.Gaps.{IsGapped, may_all_come, may_come}
use Rattle.chain_model.specs.Traces.{starts_chain}
use Rattle.chain_model.proofs.Eventing.{all_found}
use Rattle.chain_model.proofs.Grammar.{whole}
use Rattle.chain_model.proofs.Quieting.{creation_fails, quiet_judged}
use Rattle.chain_model.proofs.Coming.{no_break}
use Rattle.chain_model.proofs.Starting.{after_no_begin, no_earlier, or_left, others_judged}
use Rattle.chain_model.proofs.Tracing.{LastBegun}

not_both : {u : Bool} → u ≡ true → u ≡ false → ⊥
not_both a b = cc

creation_last : (s : Setup) (events : List TraceEvent) (thread : ℕ) (o : Opened) → may_all_come events ≡ true → find (is_of thread) (open_calls (judged s events)) ≡ Some o → same_command o.cmd cmd.CreateInstance ≡ true → LastBegun s events o
creation_last s [] thread o ok is creates = cc is
creation_last s (Return t ∷ before) thread o ok is creates =
    absurd (not_both creates (all_found (λ x. same_command x.cmd cmd.CreateInstance ≡ false) (is_of thread) (open_calls (judged s (Return t ∷ before))) o (others_judged s (Return t ∷ before) ok refl) is))
creation_last s (Begin b ∷ before) thread o ok is creates =
    let a = and_true (may_all_come before) (may_come before (Begin b)) ok in
    go (open_calls (judged s before)) (others_judged s before a.0 (after_no_begin before b a.1)) is
  where
    last : (find (is_of thread) ((begun_of s (judged s before) b).opened ∷ []) ≡ Some o) → LastBegun s (Begin b ∷ before) o
    last e = one (is_of thread (begun_of s (judged s before) b).opened) e
      where
        one : (u : Bool) → cond u (Some (begun_of s (judged s before) b).opened) None ≡ Some o → LastBegun s (Begin b ∷ before) o
        one true h = record { begin = b; before = before; events_are = refl; opened = cc }
        one false h = cc h

    go : (os : List Opened) → AllByRecursion (λ x. same_command x.cmd cmd.CreateInstance ≡ false) os → find (is_of thread) (os ++ (begun_of s (judged s before) b).opened ∷ []) ≡ Some o → LastBegun s (Begin b ∷ before) o
    go [] others e = last e
    go (x ∷ os) others e = at (is_of thread x) (go os others.1) e
      where
        at : (u : Bool) → (find (is_of thread) (os ++ (begun_of s (judged s before) b).opened ∷ []) ≡ Some o → LastBegun s (Begin b ∷ before) o)
            → cond u (Some x) (find (is_of thread) (os ++ (begun_of s (judged s before) b).opened ∷ [])) ≡ Some o → LastBegun s (Begin b ∷ before) o
        at true ih h = let one : x ≡ o = cc in absurd (not_both creates (ap (λ (y : Opened). same_command y.cmd cmd.CreateInstance) (sym one) ∙ others.0))
        at false ih h = ih h

-- no part is in force where a call is open that starts a chain
none_before : (s : Setup) (b : BeginEvent) (before : List TraceEvent) → IsGapped (Begin b ∷ before) → starts_chain (begun_of s (judged s before) b).opened ≡ true → parts_in_force s (judged s (Begin b ∷ before)) ≡ []
none_before s b before trace starts =
    let a = and_true (may_all_come before) (may_come before (Begin b)) trace.each in
    let parts = and_true (same_command b.cmd cmd.CreateInstance) (succeeds b.cmd b.code) starts in
    let all = whole (Begin b ∷ before) trace.grammar in
    let makes : makes_instance (Begin b) ≡ true = made (makes_instance (Begin b)) refl parts.0 parts.1 in
    let none : list_any makes_instance before ≡ false = no_earlier (makes_instance (Begin b)) (list_any makes_instance before) makes (or_left (makes_instance (Begin b) && list_any makes_instance before) (breaks_in before (Begin b)) (no_break before b a.1)) in
    (quiet_judged s before none all.1).parts
  where
    made : (u : Bool) → makes_instance (Begin b) ≡ u → same_command b.cmd cmd.CreateInstance ≡ true → succeeds b.cmd b.code ≡ true → makes_instance (Begin b) ≡ true
    made true e c y = e
    made false e c y = absurd (not_both y (creation_fails b.cmd b.code c (whole (Begin b ∷ before) trace.grammar).0.code e))

-- so no part keeps anything there
pub none_in_force : (s : Setup) (events : List TraceEvent) (thread : ℕ) (o : Opened) → IsGapped events → find (is_of thread) (open_calls (judged s events)) ≡ Some o → starts_chain o ≡ true → parts_in_force s (judged s events) ≡ []
none_in_force s events thread o trace is starts =
    let l = creation_last s events thread o trace.each is (and_true (same_command o.cmd cmd.CreateInstance) (succeeds o.cmd o.code) starts).0 in
    ap (λ es. parts_in_force s (judged s es)) l.events_are ∙ none_before s l.begin l.before (subst IsGapped l.events_are trace) (ap starts_chain l.opened ∙ starts)

pub no_states : (states : List PartState) → map kind_of states ≡ [] → states ≡ []
no_states [] e = refl
no_states (x ∷ states) e = cc e
