-- Parts keep their kinds and their number, and with these their room for uses.
use Rattle.std.proofs.Common.{◌≡◌, ◌≤◌, ◌+◌, ℕ, suc, Bool, true, false, Some, List, [], ◌∷◌, length, map, get_or, option_map, slice_get, refl, ap, sym, ◌∙◌, arith}
use Rattle.std.proofs.lemmas.List.{length-map}
use Rattle.std.proofs.lemmas.Option.{same_Some, slice_get-get_or, slice_get-map, slice_get_within}
use Rattle.command_tables.specs.Calls.{CallContent}
use Rattle.command_tables.specs.declared.types.CommandId.{CommandId}
use Rattle.object_model.specs.declared.PartKind.{PartKind}
use Rattle.object_model.specs.declared.PartKind.TheVariants as part
use Rattle.object_model.specs.Findings.{is_failing}
use Rattle.layer_model.specs.Parts.{life_failures, unique_enter}
use Rattle.layer_model.specs.Reading.{read_call}
use Rattle.layer_model.specs.Walks.{PartState, Threads, Lifetimes, Unique, enter_parts, intercepts, kind_of}
use Rattle.dispatch_chain.specs.Room.{AllHaveBirths, KeepRooms, PartRoom}
use Rattle.dispatch_chain.specs.Rows.{entries_from, entries_of}
use Rattle.walk_bounds.specs.Bounds.{AllHaveUses, HasUses}

-- ---- lists of one length

-- where something stands in one of them, something stands in the other
same_place : {X : Type 0} (old new : List X) (i : ℕ) (x : X) → length new ≡ length old → slice_get new i ≡ Some x → slice_get old i ≡ Some (get_or old i x)
same_place old new i x long at =
    let within = slice_get_within new i x at in
    slice_get-get_or old i x (omega (arith, within, long))

-- ---- kinds

pub kinds_long : (old new : List PartState) → map kind_of new ≡ map kind_of old → length new ≡ length old
kinds_long old new kinds = sym (length-map new kind_of) ∙ (ap (λ (ks : List PartKind). length ks) kinds ∙ length-map old kind_of)

-- a walk down changes none
pub walk_kinds : (thread number k : ℕ) (states : List PartState) (c : CallContent) → map kind_of (enter_parts thread number k states c).states ≡ map kind_of states
walk_kinds thread number k [] c = refl
walk_kinds thread number k (Threads m ∷ states) c = ap (λ (ks : List PartKind). part.Threads ∷ ks) (walk_kinds thread number (k + 1) states c)
walk_kinds thread number k (Lifetimes m ∷ states) c = go (is_failing (life_failures m c.cmd (read_call c))) refl (walk_kinds thread number (k + 1) states c)
  where
    go : (b : Bool) → is_failing (life_failures m c.cmd (read_call c)) ≡ b → map kind_of (enter_parts thread number (k + 1) states c).states ≡ map kind_of states
        → map kind_of (enter_parts thread number k (Lifetimes m ∷ states) c).states ≡ map kind_of (Lifetimes m ∷ states)
    go true fails ih = rw fails refl
    go false fails ih = rw fails (ap (λ (ks : List PartKind). part.Lifetimes ∷ ks) ih)
walk_kinds thread number k (Unique m ∷ states) c = ap (λ (ks : List PartKind). part.Unique ∷ ks) (walk_kinds thread number (k + 1) states (unique_enter m c))

-- no row has more entries than there are parts
entries_within : (cmd : CommandId) (place : ℕ) (kinds : List PartKind) → length (entries_from cmd place kinds) ≤ length kinds
entries_within cmd place [] = omega arith
entries_within cmd place (k ∷ kinds) = go (intercepts k cmd) refl (entries_within cmd (place + 1) kinds)
  where
    go : (b : Bool) → intercepts k cmd ≡ b → length (entries_from cmd (place + 1) kinds) ≤ length kinds → length (entries_from cmd place (k ∷ kinds)) ≤ suc (length kinds)
    go true e ih = rw e (omega (arith, ih))
    go false e ih = rw e (omega (arith, ih))

pub entries_few : (cmd : CommandId) (states : List PartState) → length (entries_of cmd (map kind_of states)) ≤ length states
entries_few cmd states =
    let few = entries_within cmd 1 (map kind_of states) in
    let long = length-map states kind_of in
    omega (arith, few, long)

-- ---- room for uses

kind_uses : (u : ℕ) (s t : PartState) (r : PartRoom) → kind_of s ≡ kind_of t → HasUses u t r → HasUses u s r
kind_uses u (Threads m) (Threads q) r same has = has
kind_uses u (Threads m) (Lifetimes q) r same has = cc same
kind_uses u (Threads m) (Unique q) r same has = cc same
kind_uses u (Lifetimes m) t r same has = tt
kind_uses u (Unique m) t r same has = tt

more_uses : (u : ℕ) (s : PartState) (q r : PartRoom) → q.uses ≤ r.uses → HasUses u s q → HasUses u s r
more_uses u (Threads m) q r more has = omega (arith, more, has)
more_uses u (Lifetimes m) q r more has = tt
more_uses u (Unique m) q r more has = tt

-- parts of the same kinds have it
pub uses_kinds : (u : ℕ) (old new : List PartState) (rooms : List PartRoom) → map kind_of new ≡ map kind_of old → AllHaveUses u old rooms → AllHaveUses u new rooms
uses_kinds u old new rooms kinds have i s r here room =
    let was : slice_get old i ≡ Some (get_or old i s) = same_place old new i s (kinds_long old new kinds) here in
    let alike : kind_of s ≡ kind_of (get_or old i s) =
    same_Some (kind_of s) (kind_of (get_or old i s))
    (sym (ap (option_map kind_of) here)
    ∙ (sym (slice_get-map kind_of new i) ∙ (ap (λ (ks : List PartKind). slice_get ks i) kinds ∙ (slice_get-map kind_of old i ∙ ap (option_map kind_of) was)))) in
    kind_uses u s (get_or old i s) r alike (have i (get_or old i s) r was room)

-- and where none loses any
pub uses_rooms : (u : ℕ) (states : List PartState) (old new : List PartRoom) → length new ≡ length old → ((i : ℕ) (q r : PartRoom) → slice_get old i ≡ Some q → slice_get new i ≡ Some r → q.uses ≤ r.uses)
    → AllHaveUses u states old → AllHaveUses u states new
uses_rooms u states old new count keep have i s r here room =
    let was : slice_get old i ≡ Some (get_or old i r) = same_place old new i r count room in
    more_uses u s (get_or old i r) r (keep i (get_or old i r) r was room) (have i s (get_or old i r) here was)

-- ---- room for births

pub births_stay : (due : ℕ) (old new : List PartRoom) → KeepRooms old new → AllHaveBirths due old → AllHaveBirths due new
births_stay due old new keep have i r at =
    let was : slice_get old i ≡ Some (get_or old i r) = same_place old new i r keep.count at in
    let more = (keep.each i (get_or old i r) r was at).births in
    let had = have i (get_or old i r) was in
    omega (arith, more, had)

pub births_fewer : (less due : ℕ) (rooms : List PartRoom) → less ≤ due → AllHaveBirths due rooms → AllHaveBirths less rooms
births_fewer less due rooms fewer have i r at = let had = have i r at in omega (arith, had, fewer)
