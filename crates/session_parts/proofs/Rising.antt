-- Results come up.
use Rattle.std.proofs.Common.{◌≡◌, ◌∙◌, ◌<◌, ◌++◌, ℕ, suc, ◌+◌, Bool, true, false, cond, Option, Some, None, List, [], ◌∷◌, length, map, take, refl, ap, sym, subst, append_assoc, get_or, arith}
use Rattle.std.proofs.lemmas.List.{length-map, map-append, take_more}
use Rattle.std.specs.Option.{option_map_or}
use Rattle.command_tables.specs.Calls.{CallContent}
use Rattle.command_tables.specs.Effects.{type_made}
use Rattle.command_tables.specs.Table.{row_of}
use Rattle.command_tables.specs.declared.types.CommandId.{CommandId}
use Rattle.command_tables.specs.declared.types.ObjectType.{ObjectType}
use Rattle.trace_format.specs.declared.event.Name.{Name}
use Rattle.object_model.specs.declared.PartKind.{PartKind}
use Rattle.replay_model.specs.declared.Born.{Born}
use Rattle.layer_model.specs.Ids.{IdMap, Key, is_wrapped, issue_all}
use Rattle.layer_model.specs.Parts.{key_read, there, unique_results}
use Rattle.layer_model.specs.Reading.{read_call, read_made}
use Rattle.layer_model.specs.Walks.{PartState, Threads, Lifetimes, Unique, intercepts, kind_of, leave_parts}
use Rattle.chain_model.specs.Simulated.{born_flags}
use Rattle.terminator.specs.Calls.{born_where}
use Rattle.dispatch_chain.specs.Holding.{AllOf, HeldCalls}
use Rattle.dispatch_chain.specs.Kept.{AllBareOnce, AllLost, makes_wrapped}
use Rattle.dispatch_chain.specs.Rows.{entries_from, entries_of, picked}
use Rattle.dispatch_chain.specs.Seats.{kinds_of}
use Rattle.object_records.specs.Shape.{AreNewOnce}
use Rattle.session_model.specs.Steps.{ComeUpApart}
use Rattle.session_parts.specs.Leaving.{MayRise}

-- ---- flags

-- one flag more
pub flags_more : {X : Type 0} (n : ℕ) (xs : List X) (i : ℕ) (old now new : List ℕ) → i < length xs → now ≡ old ++ map (λ _. n) (take i xs) → new ≡ now ++ n ∷ [] → new ≡ old ++ map (λ _. n) (take (i + 1) xs)
flags_more n [] i old now new less so_far grown = absurd (omega (arith, less))
flags_more n (x ∷ xs) i old now new less so_far grown =
    grown
    ∙ (ap (λ ys. ys ++ n ∷ []) so_far
    ∙ (append_assoc old (map (λ _. n) (take i (x ∷ xs))) (n ∷ [])
    ∙ ap (λ ys. old ++ ys) (sym (map-append (λ _. n) (take i (x ∷ xs)) (get_or (x ∷ xs) i x ∷ [])) ∙ ap (map (λ _. n)) (sym (take_more (x ∷ xs) i x less)))))

flags_are : (made : List Born) (lost : List Name) → born_where (map (λ _. 1) made ++ map (λ _. 0) lost) ≡ born_flags made lost
flags_are [] [] = refl
flags_are [] (n ∷ lost) = ap (λ bs. false ∷ bs) (flags_are [] lost)
flags_are (b ∷ made) lost = ap (λ bs. true ∷ bs) (flags_are made lost)

-- what is flagged is what is born
pub flags_so : (made : List Born) (lost : List Name) (none some all : List ℕ) → none ≡ [] → some ≡ none ++ map (λ _. 1) made → all ≡ some ++ map (λ _. 0) lost → born_where all ≡ born_flags made lost
flags_so made lost none some all e0 e1 e2 =
    ap (λ xs. born_where xs) (e2 ∙ ap (λ xs. xs ++ map (λ _. 0) lost) (e1 ∙ ap (λ xs. xs ++ map (λ _. 1) made) e0)) ∙ flags_are made lost

-- ---- the parts

bare_left : (m : IdMap ℕ) (k : Option Key) (t : Option ObjectType) (hs : List ℕ) → option_map_or is_wrapped t false ≡ false → (unique_results m k t hs).results ≡ hs
bare_left m k None hs e = refl
bare_left m k (Some t) hs e = go (is_wrapped t) e
  where
    go : (b : Bool) → b ≡ false → (cond b (issue_all m k t 0 (map there hs)) (record { results = hs; ids = m })).results ≡ hs
    go true e = cc
    go false e = refl

-- results for which unique parts issue no ids stay as they come up
bare_stay : (thread : ℕ) (cmd : CommandId) (states : List PartState) (forms : List CallContent) (hs : List ℕ) → AllOf cmd forms → makes_wrapped cmd ≡ false → (leave_parts thread states forms hs).results ≡ hs
bare_stay thread cmd [] forms hs one bare = refl
bare_stay thread cmd (s ∷ states) [] hs one bare = refl
bare_stay thread cmd (Threads m ∷ states) (c ∷ forms) hs one bare = bare_stay thread cmd states forms hs one.1 bare
bare_stay thread cmd (Lifetimes m ∷ states) (c ∷ forms) hs one bare = bare_stay thread cmd states forms hs one.1 bare
bare_stay thread cmd (Unique m ∷ states) (c ∷ forms) hs one bare =
    bare_left m (key_read c.cmd c.payload (read_call c) (row_of c.cmd).effect) (type_made (row_of c.cmd).effect) (leave_parts thread states forms hs).results (ap makes_wrapped one.0 ∙ bare)
    ∙ bare_stay thread cmd states forms hs one.1 bare

-- so where no two are the same that come to a checking part, none were below
apart_below : (thread : ℕ) (cmd : CommandId) (states : List PartState) (forms : List CallContent) (hs : List ℕ) → length forms ≡ length states → AllOf cmd forms → ComeUpApart thread states forms hs → AllBareOnce cmd hs states
apart_below thread cmd [] forms hs e one apart = tt
apart_below thread cmd (s ∷ states) [] hs e one apart = cc
apart_below thread cmd (Threads m ∷ states) (c ∷ forms) hs e one apart = (
  λ bare. subst (λ (x : CommandId). AreNewOnce m.births (read_made (type_made (row_of x).effect) hs)) one.0
      (subst (λ rs. AreNewOnce m.births (read_made (type_made (row_of c.cmd).effect) rs)) (bare_stay thread cmd states forms hs one.1 bare) apart.0),
  apart_below thread cmd states forms hs (cc e) one.1 apart.1,
)
apart_below thread cmd (Lifetimes m ∷ states) (c ∷ forms) hs e one apart = (
  λ bare. subst (λ (x : CommandId). AreNewOnce m.births (read_made (type_made (row_of x).effect) hs)) one.0
      (subst (λ rs. AreNewOnce m.births (read_made (type_made (row_of c.cmd).effect) rs)) (bare_stay thread cmd states forms hs one.1 bare) apart.0),
  apart_below thread cmd states forms hs (cc e) one.1 apart.1,
)
apart_below thread cmd (Unique m ∷ states) (c ∷ forms) hs e one apart = (tt, apart_below thread cmd states forms hs (cc e) one.1 apart)

pub once_of : (thread : ℕ) (states : List PartState) (held : HeldCalls) (results rs : List ℕ) → MayRise thread states held rs → results ≡ rs → AllBareOnce held.cmd results states
once_of thread states held results rs may e = subst (λ xs. AllBareOnce held.cmd xs states) (sym e) (apart_below thread held.cmd states may.forms rs may.whole may.holds.one may.apart)

-- where a call came to all parts, each that intercepts it holds it
all_picked : (cmd : CommandId) (place : ℕ) (kinds : List PartKind) (forms : List CallContent) → length forms ≡ length kinds → length (picked cmd kinds forms) ≡ length (entries_from cmd place kinds)
all_picked cmd place [] forms e = refl
all_picked cmd place (k ∷ kinds) [] e = cc
all_picked cmd place (k ∷ kinds) (c ∷ forms) e = go (intercepts k cmd) (all_picked cmd (suc place) kinds forms (cc e)) (all_picked cmd (place + 1) kinds forms (cc e))
  where
    go : (b : Bool) → length (picked cmd kinds forms) ≡ length (entries_from cmd (suc place) kinds) → length (picked cmd kinds forms) ≡ length (entries_from cmd (place + 1) kinds)
        → length (cond b (c ∷ picked cmd kinds forms) (picked cmd kinds forms)) ≡ length (cond b (record { place = place; kind = k } ∷ entries_from cmd (place + 1) kinds) (entries_from cmd (place + 1) kinds))
    go true x y = ap suc y
    go false x y = y

pub none_stopped : (thread : ℕ) (states : List PartState) (held : HeldCalls) (results rs : List ℕ) → MayRise thread states held rs → length held.forms < length (entries_of held.cmd (kinds_of states)) → AllLost results
none_stopped thread states held results rs may less =
    let n : length held.forms ≡ length (entries_of held.cmd (kinds_of states)) =
    ap (λ (fs : List CallContent). length fs) may.holds.picked ∙ all_picked held.cmd 1 (kinds_of states) may.forms (may.whole ∙ sym (length-map states kind_of)) in
    absurd (omega (arith, n, less))

-- ---- a skipped call

pub lost_all : {X : Type 0} (lost : List X) → AllLost (map (λ _. 0) lost)
lost_all [] = tt
lost_all (x ∷ lost) = (refl, lost_all lost)
