-- The arguments of a begin fit in lists with room for them, and such lists stay so.
use Rattle.std.proofs.Common.{◌≡◌, ◌≤◌, ◌<◌, ℕ, zero, suc, Some, List, [], ◌∷◌, length, get_or, slice_get, refl, arith}
use Rattle.std.proofs.lemmas.Option.{slice_get-get_or}
use Rattle.session_parts.specs.Scratch.{AreWithin, FitLists, KeepLists, KeepsScratch, ScratchRoom}
use Rattle.shard_room.specs.Room.{HasLists}

-- lists no longer than n fit in the first rooms, each of n or more
fit_lists : {X : Type 0} (n most : ℕ) (rooms : List ℕ) (xss : List (List X)) → AreWithin n xss → length xss ≤ most → most ≤ length rooms → ((i m : ℕ) → i < most → slice_get rooms i ≡ Some m → n ≤ m) → FitLists rooms xss
fit_lists n most rooms [] within short long wide = tt
fit_lists n most [] (xs ∷ xss) within short long wide = absurd (omega (arith, short, long))
fit_lists n zero (m ∷ rooms) (xs ∷ xss) within short long wide = absurd (omega (arith, short))
fit_lists n (suc most) (m ∷ rooms) (xs ∷ xss) within short long wide =
    let first : n ≤ m = wide zero m (omega arith) refl in
    let few = within.0 in
    (omega (arith, first, few), fit_lists n most rooms xss within.1 (omega (arith, short)) (omega (arith, long)) (λ i k less at. wide (suc i) k (omega (arith, less)) at))

-- a call of at most six parameters, none with more arguments
pub fit_call : {X : Type 0} (wide many : ℕ) (room : ScratchRoom) (xss : List (List X)) → HasLists wide many room → length xss ≤ 6 → AreWithin wide xss → FitLists room.lists xss
fit_call wide many room xss has six within = fit_lists wide 6 room.lists xss within six has.count has.each

-- ---- lists that lose no room

keeps_long : (old new : List ℕ) → KeepLists old new → length old ≤ length new
keeps_long [] new keeps = omega arith
keeps_long (n ∷ old) [] keeps = absurd keeps
keeps_long (n ∷ old) (m ∷ new) keeps = let rest = keeps_long old new keeps.1 in omega (arith, rest)

keeps_at : (old new : List ℕ) (i n m : ℕ) → KeepLists old new → slice_get old i ≡ Some n → slice_get new i ≡ Some m → n ≤ m
keeps_at [] new i n m keeps was is = cc was
keeps_at (a ∷ old) [] i n m keeps was is = absurd keeps
keeps_at (a ∷ old) (b ∷ new) zero n m keeps was is =
    let first : a ≡ n = cc was in
    let second : b ≡ m = cc is in
    let more = keeps.0 in
    omega (arith, first, second, more)
keeps_at (a ∷ old) (b ∷ new) (suc i) n m keeps was is = keeps_at old new i n m keeps.1 was is

pub lists_stay : (wide many : ℕ) (old new : ScratchRoom) → KeepsScratch old new → HasLists wide many old → HasLists wide many new
lists_stay wide many old new keeps has =
    let long = keeps_long old.lists new.lists keeps.lists in
    record {
      count = omega (arith, long, has.count);
      each = λ i m less at.
          let was : slice_get old.lists i ≡ Some (get_or old.lists i m) = slice_get-get_or old.lists i m (omega (arith, less, has.count)) in
          let fits = has.each i (get_or old.lists i m) less was in
          let more = keeps_at old.lists new.lists i (get_or old.lists i m) m keeps.lists was at in
          omega (arith, fits, more);
      handles = omega (arith, has.handles, keeps.handles);
      results = omega (arith, has.results, keeps.results);
    }
