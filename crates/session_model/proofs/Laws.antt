-- Of an accepted trace: the owners of what lives live, what is made anew lives, and the births and the retrievals of what lives are enough.
use Rattle.std.proofs.Common.{◌≡◌, ◌⊎◌, inl, inr, ℕ, Bool, true, false, ◌&&◌, Some, List, [], ◌∷◌, refl, sym, ◌∙◌, ap, subst}
use Rattle.std.specs.Prelude.{find}
use Rattle.std.specs.List.{AllByRecursion}
use Rattle.command_tables.specs.Table.{row_of}
use Rattle.trace_format.specs.Content.{TraceEvent}
use Rattle.object_model.specs.declared.Object.{Object}
use Rattle.object_model.specs.Objects.{is_in}
use Rattle.object_model.specs.History.{Birth, History, alive, births, births_given, born_in, ends_by, owners_in}
use Rattle.object_model.specs.Rules.{loader_failures}
use Rattle.replay_model.specs.declared.Born.{Born}
use Rattle.replay_model.specs.Setup.{Setup}
use Rattle.replay_model.specs.Past.{Opened, Past, history, is_of, objects_of, open_calls, retrievals, retrieved_by}
use Rattle.replay_model.specs.Births.{bears, made_by}
use Rattle.replay_model.specs.Judged.{judged, made_of}
use Rattle.chain_model.specs.Gaps.{IsGapped}
use Rattle.chain_model.proofs.Accepted.{accepted_judged}
use Rattle.chain_model.proofs.Grammar.{shaped}
use Rattle.session_model.specs.Living.{AreOfLiving}
use Rattle.session_model.proofs.Enough.{ends_alike, given_alike, made_alike, results_alike, retrieved_alike}
use Rattle.session_model.proofs.Listed.{left, left_born, left_created, left_owners}
use Rattle.session_model.proofs.Owning.{IsOwning, MakesWell, alive_born, bears_owned, makes_well, owning_judged}

-- there are such births: those of all that live, in their order
pub living_births : (h : History) → AreOfLiving (left (alive h) (births h)) h
living_births h = record {
  lives = λ x. left_born (alive h) (births h) x ∙ go x (alive h x) refl;
  created = λ x lives. left_created (alive h) (births h) x lives;
  owners = λ x lives. left_owners (alive h) (births h) x lives;
}
  where
    none : (b : Bool) → (b && false) ≡ false
    none true = refl
    none false = refl

    go : (x : Object) (t : Bool) → alive h x ≡ t → (born_in (births h) x && t) ≡ t
    go x true lives = ap (λ t. t && true) (alive_born h x lives)
    go x false dead = none (born_in (births h) x)

module _ (s : Setup) (events : List TraceEvent) (trace : IsGapped events) where
  abbrev past : Past
  past = judged s events

  abbrev h : History
  h = history (judged s events)

  own : IsOwning h (retrievals past)
  own = owning_judged s events trace.each (shaped events trace.grammar)

  -- the owners of what lives live
  pub owners_live : (x y : Object) → alive (history (judged s events)) x ≡ true → is_in (owners_in (births (history (judged s events))) x) y ≡ true → alive (history (judged s events)) y ≡ true
  owners_live = own.owned

  -- of what lives, a call ends the same by the births of what lives as by all births
  pub ends_enough : (ls : List Birth) → AreOfLiving ls (history (judged s events)) → (o : Opened) (x : Object) → alive (history (judged s events)) x ≡ true
      → ends_by ls o.args (row_of o.cmd).effect x ≡ ends_by (births (history (judged s events))) o.args (row_of o.cmd).effect x
  ends_enough ls of_living o x lives = ends_alike h (retrievals past) own ls of_living o.args (row_of o.cmd).effect x lives

  -- the loader finds the same
  pub loader_enough : (ls : List Birth) → AreOfLiving ls (history (judged s events)) → (o : Opened)
      → loader_failures (born_in ls) (row_of o.cmd).params o.args ≡ loader_failures (alive (history (judged s events))) (row_of o.cmd).params o.args
  loader_enough ls of_living o = ap (λ (f : Object → Bool). loader_failures f (row_of o.cmd).params o.args) (λ i x. of_living.lives x i)

  module _ (thread : ℕ) (o : Opened) (is : find (is_of thread) (open_calls (judged s events)) ≡ Some o) where
    makes : MakesWell past o (made_of s past o)
    makes = makes_well s events past thread o (accepted_judged s events trace.each (shaped events trace.grammar)) is

    -- what an open call makes that was born before lives, so that by what lives the same is new
    pub made_lives : AllByRecursion (λ (b : Born). alive (history (judged s events)) b.object ≡ born_in (births (history (judged s events))) b.object) (made_of s (judged s events) o)
    made_lives = go makes.bearing
      where
        each : (ms : List Born) → AllByRecursion (λ (b : Born). born_in (left (alive h) (births h)) b.object ≡ born_in (births h) b.object) ms → AllByRecursion (λ (b : Born). alive h b.object ≡ born_in (births h) b.object) ms
        each [] all = tt
        each (b ∷ ms) all = (sym ((living_births h).lives b.object) ∙ all.0, each ms all.1)

        go : (bears (births h) (alive h) o ≡ true) ⊎ (made_of s past o ≡ []) → AllByRecursion (λ (b : Born). alive h b.object ≡ born_in (births h) b.object) (made_of s past o)
        go (inl bearing) =
            each (made_of s past o)
            (results_alike h (retrievals past) own (left (alive h) (births h)) (living_births h) o makes.known makes.typed (made_of s past o) makes.bearing makes.have (bears_owned h o bearing))
        go (inr none) = subst (λ (ms : List Born). AllByRecursion (λ (b : Born). alive h b.object ≡ born_in (births h) b.object) ms) (sym none) tt

    -- by the births of what lives an open call makes the same
    pub made_enough : (ls : List Birth) → AreOfLiving ls (history (judged s events)) → made_by s.drivers ls (born_in ls) (retrievals (judged s events)) o ≡ made_of s (judged s events) o
    made_enough ls of_living = made_alike h (retrievals past) own ls of_living o makes.known makes.typed s.drivers (retrievals past)

    -- and gives the same births
    pub given_enough : (ls : List Birth) → AreOfLiving ls (history (judged s events))
        → births_given ls o.args (row_of o.cmd).effect (objects_of (made_of s (judged s events) o)) ≡ births_given (births (history (judged s events))) o.args (row_of o.cmd).effect (objects_of (made_of s (judged s events) o))
    given_enough ls of_living = given_alike h (retrievals past) own ls of_living o makes.known makes.typed (made_of s past o) makes.bearing makes.have

    -- and retrieves the same first
    pub retrieved_enough : (ls : List Birth) → AreOfLiving ls (history (judged s events)) → retrieved_by ls o (made_of s (judged s events) o) ≡ retrieved_by (births (history (judged s events))) o (made_of s (judged s events) o)
    retrieved_enough ls of_living = retrieved_alike h (retrievals past) own ls of_living o makes.known makes.typed (made_of s past o) makes.bearing makes.have
