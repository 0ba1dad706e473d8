-- Names by look-up: the arguments of a call are the same by names that say the same.
use Rattle.std.proofs.Common.{◌≡◌, Bool, true, false, cond, Option, Some, None, List, [], ◌∷◌, ◌++◌, map, refl, sym, ◌∙◌, ap}
use Rattle.std.specs.Prelude.{find}
use Rattle.std.specs.Option.{option_map, option_map_or}
use Rattle.trace_format.specs.declared.event.Name.{Name}
use Rattle.trace_format.specs.Accepting.{same_name}
use Rattle.trace_format.specs.Content.{Arg}
use Rattle.object_model.specs.declared.Object.{Object}
use Rattle.object_model.specs.declared.Argument.{Argument}
use Rattle.object_model.specs.declared.Argument.TheVariants.{Unborn, The}
use Rattle.replay_model.specs.declared.Named.{Named}
use Rattle.replay_model.specs.Past.{argument_in, arguments_in, object_in}

pub argument_alike : (a b : List Named) → ((n : Name) → object_in a n ≡ object_in b n) → (n : Option Name) → argument_in a n ≡ argument_in b n
argument_alike a b alike None = refl
argument_alike a b alike (Some n) = ap (λ (o : Option Object). option_map_or The o Unborn) (alike n)

pub arguments_alike : (a b : List Named) → ((n : Name) → object_in a n ≡ object_in b n) → (args : List Arg) → arguments_in a args ≡ arguments_in b args
arguments_alike a b alike args = ap (λ (f : Option Name → Argument). map (λ (x : Arg). map f x.names) args) (λ i n. argument_alike a b alike n i)

-- behind other names, names stand for objects only where those stand for none
pub object_behind : (names more : List Named) (n : Name) → object_in (names ++ more) n ≡ option_map_or (λ o. Some o) (object_in names n) (object_in more n)
object_behind [] more n = refl
object_behind (x ∷ names) more n = go (same_name x.name n) (object_behind names more n)
  where
    go : (u : Bool) → object_in (names ++ more) n ≡ option_map_or (λ o. Some o) (object_in names n) (object_in more n)
        → option_map (λ (y : Named). y.object) (cond u (Some x) (find (λ y. same_name y.name n) (names ++ more)))
        ≡ option_map_or (λ o. Some o) (option_map (λ (y : Named). y.object) (cond u (Some x) (find (λ y. same_name y.name n) names))) (object_in more n)
    go true ih = refl
    go false ih = ih

-- names that say the same say the same with more behind them
pub objects_behind : (a b : List Named) → ((n : Name) → object_in a n ≡ object_in b n) → (more : List Named) (n : Name) → object_in (a ++ more) n ≡ object_in (b ++ more) n
objects_behind a b alike more n =
    object_behind a more n ∙ (ap (λ (f : Option Object). option_map_or (λ o. Some o) f (object_in more n)) (alike n) ∙ sym (object_behind b more n))
