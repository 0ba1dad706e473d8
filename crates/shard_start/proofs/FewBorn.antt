-- To a threads part no more objects are born than there are names.
use Rattle.std.proofs.Common.{◌≡◌, ◌≤◌, ◌+◌, ℕ, suc, Bool, true, false, cond, not, Some, List, [], ◌∷◌, ◌++◌, length, map, refl, sym, ap, ◌∙◌, subst, arith}
use Rattle.std.specs.Prelude.{filter}
use Rattle.std.proofs.lemmas.List.{length-append, length-map}
use Rattle.command_tables.specs.Calls.{ReplyContent}
use Rattle.command_tables.specs.Table.{row_of}
use Rattle.command_tables.specs.declared.types.Effect.{Effect}
use Rattle.command_tables.specs.declared.types.Effect.TheVariants as eff
use Rattle.trace_format.specs.Content.{TraceEvent}
use Rattle.object_model.specs.declared.Argument.{Argument}
use Rattle.object_model.specs.declared.Object.{Object}
use Rattle.object_model.specs.History.{Begins, Birth, History, Returns, births, births_given, births_of, born_in, owners_given}
use Rattle.object_model.specs.Renaming.{renamed, renamed_args}
use Rattle.replay_model.specs.declared.Born.{Born}
use Rattle.replay_model.specs.declared.Named.{Named}
use Rattle.replay_model.specs.ChainPlaces.{reaches, seen_past, stops_at}
use Rattle.replay_model.specs.Direct.{valued}
use Rattle.replay_model.specs.Judged.{judged}
use Rattle.replay_model.specs.Past.{Began, Past, Retrieval, Returned, call_of, history, named, named_of, objects_of, retrievals}
use Rattle.replay_model.specs.Setup.{Setup}
use Rattle.layer_model.specs.Walks.{Lifetimes, PartState, Threads, Unique}
use Rattle.chain_model.specs.Chained.{StatesMirror}
use Rattle.chain_model.specs.Simulated.{first_of}
use Rattle.chain_model.specs.Tokens.{token_in}
use Rattle.chain_session.specs.declared.kept.Kept.{Kept}
use Rattle.chain_session.specs.Shown.{Shows}
use Rattle.chain_session.specs.Standing.{StandsFor}
use Rattle.walk_bounds.specs.Bounds.{HaveBorn}

-- ---- at a return

filtered : {X : Type 0} (p : X → Bool) (xs : List X) → length (filter p xs) ≤ length xs
filtered p [] = omega arith
filtered p (x ∷ xs) = go (p x) refl (filtered p xs)
  where
    go : (b : Bool) → p x ≡ b → length (filter p xs) ≤ length xs → length (filter p (x ∷ xs)) ≤ suc (length xs)
    go true e ih = rw e (omega (arith, ih))
    go false e ih = rw e (omega (arith, ih))

births_few : (before : List Birth) (created : Bool) (owners made : List Object) → length (births_of before created owners made) ≤ length made
births_few before created owners made =
    let chosen = filtered (λ (o : Object). not (born_in before o)) made in
    let long = length-map {B = Birth} (filter (λ (o : Object). not (born_in before o)) made) (λ o. record { object = o; created = created; owners = owners }) in
    omega (arith, chosen, long)

given_few : (before : List Birth) (args : List (List Argument)) (e : Effect) (made : List Object) → length (births_given before args e made) ≤ length made
given_few before args eff.None made = omega arith
given_few before args (eff.Create t owner many) made = births_few before true (owners_given before args owner) made
given_few before args (eff.Retrieve t owner many) made = births_few before false (owners_given before args owner) made
given_few before args (eff.Destroy p) made = omega arith
given_few before args (eff.Free p) made = omega arith
given_few before args (eff.Reset p) made = omega arith

-- a name more for each object
as_many : (f : Object → Object) (made : List Born) → length (map f (objects_of made)) ≡ length (map named_of made)
as_many f [] = refl
as_many f (b ∷ made) = ap suc (as_many f made)

more_named : (bs : List Birth) (args : List (List Argument)) (e : Effect) (made : List Object) (names more : List Named) → length bs ≤ length names → length made ≡ length more
    → length (bs ++ births_given bs args e made) ≤ length (names ++ more)
more_named bs args e made names more few same =
    let given = given_few bs args e made in
    let born = length-append bs (births_given bs args e made) in
    let both = length-append names more in
    omega (arith, few, same, given, born, both)

-- ---- in a part

-- what a place has seen bears no more than there are names, however its objects are renamed
few_seen : (f : Object → Object) (past : Past) (k : ℕ) → length (births (renamed f (seen_past past k))) ≤ length (named past)
few_seen f [] k = omega arith
few_seen f (Began e o reports ∷ past) k = go (reaches o k) (few_seen f past k)
  where
    go : (u : Bool) → length (births (renamed f (seen_past past k))) ≤ length (named past)
        → length (births (renamed f (cond u (Begins (call_of o) (stops_at o k) ∷ seen_past past k) (seen_past past k)))) ≤ length (named past)
    go true ih = ih
    go false ih = ih
few_seen f (Returned o made ∷ past) k = go (reaches o k) (few_seen f past k)
  where
    go : (u : Bool) → length (births (renamed f (seen_past past k))) ≤ length (named past)
        → length (births (renamed f (cond u (Returns (call_of o) (objects_of made) ∷ seen_past past k) (seen_past past k)))) ≤ length (named past ++ map named_of made)
    go true ih = more_named (births (renamed f (seen_past past k))) (renamed_args f o.args) (row_of o.cmd).effect (map f (objects_of made)) (named past) (map named_of made) ih (as_many f made)
    go false ih =
        let both = length-append (named past) (map named_of made) in
        omega (arith, ih, both)

few_in_parts : (n : ℕ) (bs : List Birth) (rs : List Retrieval) (f : Object → ℕ) (seen : ℕ → History) (k : ℕ) (states : List PartState) → ((g : Object → Object) (j : ℕ) → length (births (renamed g (seen j))) ≤ n)
    → StatesMirror bs rs f seen k states → HaveBorn n states
few_in_parts n bs rs f seen k [] few mirror = tt
few_in_parts n bs rs f seen k (Threads m ∷ states) few mirror =
    (subst (λ l. l ≤ n) (sym (ap length mirror.0.born)) (few (token_in bs) k), few_in_parts n bs rs f seen (k + 1) states few mirror.1)
few_in_parts n bs rs f seen k (Lifetimes m ∷ states) few mirror = few_in_parts n bs rs f seen (k + 1) states few mirror.1
few_in_parts n bs rs f seen k (Unique m ∷ states) few mirror = few_in_parts n bs rs f seen (k + 1) states few mirror.1

-- ---- where a session stands

pub few_born : (s : Setup) (k : Kept) (events : List TraceEvent) (replies : List ReplyContent) → StandsFor s (Some k) events replies → HaveBorn k.parts.names.kept.count k.parts.states.kept
few_born s k events replies st =
    let shows : Shows s k st.kept = st.shows in
    let past : Past = judged s events in
    let born : HaveBorn (length (named past)) st.kept.chain.states =
    few_in_parts (length (named past)) (births (history past)) (retrievals past) (first_of (valued past replies)) (seen_past past) 1 st.kept.chain.states (λ g j. few_seen g past j) st.stands.simulates.chain.mirror in
    let names : k.parts.names.kept.count ≡ length (named past) = shows.parts.count ∙ st.stands.count in
    subst (λ (ss : List PartState). HaveBorn k.parts.names.kept.count ss) (sym shows.parts.states) (subst (λ n. HaveBorn n st.kept.chain.states) (sym names) born)
