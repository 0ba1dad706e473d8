-- Results that come up are new once to each checking part.
use Rattle.std.proofs.Common.{◌≡◌, ℕ, ◌+◌, Bool, true, false, not, List, [], ◌∷◌, ◌++◌, map, sym, ◌∙◌, subst}
use Rattle.std.specs.List.{filter, AllByRecursion, IsDistinct}
use Rattle.command_tables.specs.Calls.{CallContent}
use Rattle.command_tables.specs.Effects.{type_made}
use Rattle.command_tables.specs.Table.{row_of}
use Rattle.command_tables.specs.declared.types.Effect.{Effect}
use Rattle.command_tables.specs.declared.types.Effect.TheVariants as eff
use Rattle.object_model.specs.declared.Object.{Object}
use Rattle.object_model.specs.declared.Argument.{Argument}
use Rattle.object_model.specs.History.{Birth, History, born_in, births, births_given, owners_given}
use Rattle.object_model.specs.Objects.{same}
use Rattle.object_model.specs.Renaming.{IsOneToOne, renamed}
use Rattle.object_model.proofs.Renaming.{KnowsBirths, born_in-renamed, births-known, births-renamed, renamed_birth}
use Rattle.replay_model.specs.Past.{Past, Retrieval, history}
use Rattle.replay_model.specs.ChainPlaces.{seen_past}
use Rattle.layer_model.specs.Reading.{read_call, read_made}
use Rattle.layer_model.specs.Walks.{PartState, Threads, Lifetimes, Unique, leave_parts}
use Rattle.chain_model.specs.Chained.{StatesMirror}
use Rattle.chain_model.specs.Tokens.{token_in}
use Rattle.layer_model.proofs.Same.{same_sym}
use Rattle.chain_model.proofs.Answering.{or_parts}
use Rattle.chain_model.proofs.OneByOne.{AreOnce}
use Rattle.chain_model.proofs.OneToOne.{one_to_one}
use Rattle.chain_model.proofs.Sound.{Sound}
use Rattle.session_model.specs.Steps.{ComeUpApart}

-- ---- births that are apart

-- the later births of a list in which no object is born twice
once_behind : (xs ys : List Birth) → AreOnce (xs ++ ys) → AreOnce ys
once_behind [] ys once = once
once_behind (x ∷ xs) ys once = once_behind xs ys once.1

-- objects that are born once each are distinct
others_once : (o : Object) (created : Bool) (owners os : List Object) → born_in (map (λ x. record { object = x; created = created; owners = owners }) os) o ≡ false → AllByRecursion (λ y. same o y ≡ false) os
others_once o created owners [] none = tt
others_once o created owners (x ∷ os) none =
    let parts = or_parts (same x o) (born_in (map (λ y. record { object = y; created = created; owners = owners }) os) o) none in (same_sym o x ∙ parts.0, others_once o created owners os parts.1)

distinct_once : (created : Bool) (owners os : List Object) → AreOnce (map (λ x. record { object = x; created = created; owners = owners }) os) → IsDistinct same os
unfolding IsDistinct
distinct_once created owners [] once = tt
distinct_once created owners (x ∷ os) once = (others_once x created owners os once.0, distinct_once created owners os once.1)

none_distinct : IsDistinct same []
unfolding IsDistinct
none_distinct = tt

-- what a call has made that is new is apart, where no object is born twice then
new_apart : (bs : List Birth) (args : List (List Argument)) (e : Effect) (hs : List ℕ) → AreOnce (bs ++ births_given bs args e (read_made (type_made e) hs)) → IsDistinct same (filter (λ o. not (born_in bs o)) (read_made (type_made e) hs))
new_apart bs args (eff.Create t owner many) hs once = distinct_once true (owners_given bs args owner) _ (once_behind bs _ once)
new_apart bs args (eff.Retrieve t owner many) hs once = distinct_once false (owners_given bs args owner) _ (once_behind bs _ once)
new_apart bs args eff.None hs once = none_distinct
new_apart bs args (eff.Destroy p) hs once = none_distinct
new_apart bs args (eff.Free p) hs once = none_distinct
new_apart bs args (eff.Reset p) hs once = none_distinct

-- ---- in tokens

once_renamed : (known : Object → Bool) (f : Object → Object) → IsOneToOne known f → (bs : List Birth) → KnowsBirths known bs → AreOnce bs → AreOnce (map (renamed_birth f) bs)
once_renamed known f apart [] ks once = tt
once_renamed known f apart (b ∷ bs) ks once = (born_in-renamed known f apart b.object ks.0.0 bs ks.1 ∙ once.0, once_renamed known f apart bs ks.1 once.1)

-- no part of a sound past has seen an object born twice
pub seen_once : (past : Past) (states : List PartState) → Sound past states → (j : ℕ) → AreOnce (births (renamed (token_in (births (history past))) (seen_past past j)))
seen_once past states so j =
    let known : Object → Bool = born_in (births (history past)) in
    let f : Object → Object = token_in (births (history past)) in
    subst AreOnce (sym (births-renamed known f (one_to_one (births (history past))) (seen_past past j) (so.known j)))
    (once_renamed known f (one_to_one (births (history past))) (births (seen_past past j)) (births-known known f (one_to_one (births (history past))) (seen_past past j) (so.known j)) (subst AreOnce (sym (so.born j)) so.once))

-- ---- all parts

pub come_apart : (bs : List Birth) (rs : List Retrieval) (f : Object → ℕ) (seen : ℕ → History) (thread : ℕ) → ((j : ℕ) → AreOnce (births (renamed (token_in bs) (seen j)))) → (k : ℕ) (states : List PartState) (forms : List CallContent) (hs : List ℕ)
    → StatesMirror bs rs f seen k (leave_parts thread states forms hs).states → ComeUpApart thread states forms hs
come_apart bs rs f seen thread once k [] forms hs s = tt
come_apart bs rs f seen thread once k (Threads m ∷ states) [] hs s = tt
come_apart bs rs f seen thread once k (Lifetimes m ∷ states) [] hs s = tt
come_apart bs rs f seen thread once k (Unique m ∷ states) [] hs s = tt
come_apart bs rs f seen thread once k (Threads m ∷ states) (c ∷ forms) hs s = (
  new_apart m.births (read_call c) (row_of c.cmd).effect (leave_parts thread states forms hs).results (subst AreOnce (sym s.0.born) (once k)),
  come_apart bs rs f seen thread once (k + 1) states forms hs s.1,
)
come_apart bs rs f seen thread once k (Lifetimes m ∷ states) (c ∷ forms) hs s = (
  new_apart m.births (read_call c) (row_of c.cmd).effect (leave_parts thread states forms hs).results (subst AreOnce (sym s.0.born) (once k)),
  come_apart bs rs f seen thread once (k + 1) states forms hs s.1,
)
come_apart bs rs f seen thread once k (Unique m ∷ states) (c ∷ forms) hs s = come_apart bs rs f seen thread once (k + 1) states forms hs s.1
