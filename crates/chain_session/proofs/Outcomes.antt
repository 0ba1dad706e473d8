-- What comes of building a chain, as traces are judged by it.
use Rattle.std.proofs.Common.{◌≡◌, ℕ, Bool, true, false, None, if◌then◌else◌, refl, subst}
use Rattle.chain_build.specs.Chain.{Outcome, LayerNotPresent, NoDriver, TooLong, Unguarded, Built}
use Rattle.replay_model.specs.Setup as trace
use Rattle.replay_model.specs.Setup.{outcome_text, parts_of, refusal_of}
use Rattle.report_text.specs.Chains.{answer_text}
use Rattle.report_text.specs.Setups.{outcome_of}
use Rattle.chain_session.specs.Creation.{IsCreated, IsCreation, IsStart, refusal_in}
use Rattle.chain_session.specs.declared.creation.Creation.{Creation}
use Rattle.chain_session.specs.declared.creation.Creation.TheVariants as creation

-- the lines of an outcome are those by which traces are judged
pub same_text : (o : Outcome) (call : ℕ) → outcome_text (outcome_of o) call ≡ answer_text call o
unfolding answer_text
same_text (LayerNotPresent name) call = refl
same_text NoDriver call = refl
same_text (TooLong layers) call = refl
same_text (Unguarded layer) call = refl
same_text (Built chain) call = refl

-- what comes of an outcome answers its refusal
pub refused_so : (o : trace.Outcome) (c : Creation) → IsCreation o c → refusal_in c ≡ refusal_of o
refused_so (trace.Chain parts text) creation.None h = absurd h
refused_so (trace.Chain parts text) (creation.Refused code) h = absurd h
refused_so (trace.Chain parts text) (creation.Starts chain) h = refl
refused_so (trace.Refused code text) c h = h
refused_so (trace.TooLong layers) c h = absurd h

-- a chain that isn't refused is what the call passes down
pub started_so : (o : trace.Outcome) (c : Creation) → IsCreation o c → refusal_of o ≡ None → IsStart (parts_of o) c
started_so (trace.Chain parts text) c h none = h
started_so (trace.Refused code text) c h none = cc
started_so (trace.TooLong layers) c h none = absurd h

-- nothing comes of a chain of too many layers
pub too_long_so : (layers : ℕ) (o : trace.Outcome) (c : Creation) → IsCreation o c → o ≡ trace.TooLong layers → ⊥
too_long_so layers o c h is = subst (λ (p : trace.Outcome). IsCreation p c) is h

-- what comes of a begin refuses it exactly where its chain is refused
pub refused_at : (b : Bool) (o : trace.Outcome) (c : Creation) → IsCreated b o c → refusal_in c ≡ (if b then refusal_of o else None)
refused_at true o c h = refused_so o c h
refused_at false o creation.None h = refl
refused_at false o (creation.Refused code) h = absurd h
refused_at false o (creation.Starts chain) h = absurd h
