-- What an adapter tells, by what the reader or writer in it tells.
use Rattle.std.proofs.Common.{◌≡◌, ℕ, Bool, true, false, cond, Option, Some, None, List, [], ◌++◌, take, refl, sym, ap, ◌∙◌, append-nil}
use Rattle.std.specs.Io.KnownBytes.{Appends, Consumes, IsAtEnd, Keeps}
use Rattle.replay_base.specs.Adapters.{IsKnownWhere}
use Rattle.replay_base.specs.Bytes.{IsSpent, before, grown}

-- known bytes stay known
pub known_kept : (tells : Bool) (old new : Option (List ℕ)) → IsKnownWhere tells old → Keeps old new → IsKnownWhere tells new
known_kept false old new known keeps = refl
known_kept true None new known keeps = cc
known_kept true (Some xs) None known keeps = absurd keeps
known_kept true (Some xs) (Some ys) known keeps = refl

pub known_consumed : (tells : Bool) (old new : Option (List ℕ)) (bs : List ℕ) → IsKnownWhere tells old → Consumes old new bs → IsKnownWhere tells new
known_consumed false old new bs known consumes = refl
known_consumed true None new bs known consumes = cc
known_consumed true (Some xs) None bs known consumes = absurd consumes
known_consumed true (Some xs) (Some ys) bs known consumes = refl

pub known_appended : (tells : Bool) (old new : Option (List ℕ)) (bs : List ℕ) → IsKnownWhere tells old → Appends old new bs → IsKnownWhere tells new
known_appended false old new bs known appends = refl
known_appended true None new bs known appends = cc
known_appended true (Some xs) None bs known appends = absurd appends
known_appended true (Some xs) (Some ys) bs known appends = refl

-- what is told of a read
pub told_given : (tells : Bool) (old new : Option (List ℕ)) (bs : List ℕ) → IsKnownWhere tells old → Consumes old new bs → cond tells old None ≡ before bs (cond tells new None)
told_given false old new bs known consumes = refl
told_given true None new bs known consumes = cc
told_given true (Some xs) None bs known consumes = absurd consumes
told_given true (Some xs) (Some ys) bs known consumes = ap Some consumes

pub told_spent : (tells : Bool) (new : Option (List ℕ)) → IsAtEnd new → IsSpent (cond tells new None)
told_spent false new ends = tt
told_spent true None ends = tt
told_spent true (Some ys) ends = ends

-- and of what changed nothing
pub told_kept : (tells : Bool) (old new : Option (List ℕ)) → IsKnownWhere tells old → Keeps old new → cond tells new None ≡ cond tells old None
told_kept false old new known keeps = refl
told_kept true None new known keeps = cc
told_kept true (Some xs) None known keeps = absurd keeps
told_kept true (Some xs) (Some ys) known keeps = ap Some keeps

-- what is told of a write
pub told_grown : (tells : Bool) (old new : Option (List ℕ)) (bs : List ℕ) → IsKnownWhere tells old → Appends old new bs → cond tells new None ≡ grown (cond tells old None) bs
told_grown false old new bs known appends = refl
told_grown true None new bs known appends = cc
told_grown true (Some xs) None bs known appends = absurd appends
told_grown true (Some xs) (Some ys) bs known appends = ap Some appends

-- and of one that took nothing
pub told_same : (tells : Bool) (old new : Option (List ℕ)) (bs : List ℕ) → IsKnownWhere tells old → Appends old new (take 0 bs) → cond tells new None ≡ cond tells old None
told_same false old new bs known appends = refl
told_same true None new bs known appends = cc
told_same true (Some xs) None bs known appends = absurd appends
told_same true (Some xs) (Some ys) bs known appends = ap Some (appends ∙ append-nil xs)
