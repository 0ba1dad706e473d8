-- Lanes beside their streams, as one of them changes.
use Rattle.std.proofs.Common.{◌≡◌, ◌+◌, ◌==◌, ℕ, zero, suc, false, nat_eq, Some, List, [], ◌∷◌, refl, sym, ◌∙◌, ap, subst, arith, ne_eqb}
use Rattle.std.specs.Prelude.{slice_get, slice_set}
use Rattle.std.specs.List.{AllByRecursion, IsDistinct}
use Rattle.std.proofs.lemmas.Bool.{eqb-false}
use Rattle.std.proofs.lemmas.Map.Keys.{IsDistinct-head, IsDistinct-tail}
use Rattle.stream_model.specs.FileParts.{StreamPart}
use Rattle.device_shard.specs.declared.lane.Lane.{Lane}
use Rattle.device_shard.specs.Shards.{AllLanes, sum_lanes, threads_of}
use Rattle.device_shard.proofs.Lists.{one}

-- a stream's lane, and what holds of both
pub record LaneAt (P : StreamPart → Lane → Type 0) (lanes : List Lane) (i : ℕ) (s : StreamPart) : Type 0 where
  pub lane : Lane
  pub at : slice_get lanes i ≡ Some lane
  pub holds : P s lane

pub lane_at : (P : StreamPart → Lane → Type 0) (streams : List StreamPart) (lanes : List Lane) (i : ℕ) (s : StreamPart) → AllLanes P streams lanes → slice_get streams i ≡ Some s → LaneAt P lanes i s
lane_at P [] lanes i s all here = cc here
lane_at P (u ∷ streams) [] i s all here = absurd all
lane_at P (u ∷ streams) (l ∷ lanes) zero s all here = record { lane = l; at = refl; holds = subst (λ (v : StreamPart). P v l) (one u s here) all.0 }
lane_at P (u ∷ streams) (l ∷ lanes) (suc i) s all here = let rest = lane_at P streams lanes i s all.1 here in record { lane = rest.lane; at = rest.at; holds = rest.holds }

other_way : (a b : ℕ) → nat_eq a b ≡ false → (b == a) ≡ false
other_way a b e = ne_eqb b a (λ same. eqb-false a b e (sym same))

-- those of other threads
others_all : (P Q : StreamPart → Lane → Type 0) (thread : ℕ) (streams : List StreamPart) (lanes : List Lane) → AllLanes P streams lanes → AllByRecursion (λ t. nat_eq thread t ≡ false) (threads_of streams)
    → ((u : StreamPart) (l : Lane) → (u.thread == thread) ≡ false → P u l → Q u l) → AllLanes Q streams lanes
others_all P Q thread [] [] all apart f = tt
others_all P Q thread [] (l ∷ lanes) all apart f = absurd all
others_all P Q thread (u ∷ streams) [] all apart f = absurd all
others_all P Q thread (u ∷ streams) (l ∷ lanes) all apart f = (f u l (other_way thread u.thread apart.0) all.0, others_all P Q thread streams lanes all.1 apart.1 f)

thread_at : (t : ℕ) (streams : List StreamPart) (i : ℕ) (s : StreamPart) → AllByRecursion (λ y. nat_eq t y ≡ false) (threads_of streams) → slice_get streams i ≡ Some s → (t == s.thread) ≡ false
thread_at t [] i s apart here = cc here
thread_at t (u ∷ streams) zero s apart here = subst (λ (v : StreamPart). (t == v.thread) ≡ false) (one u s here) apart.0
thread_at t (u ∷ streams) (suc i) s apart here = thread_at t streams i s apart.1 here

pub lanes_set : (P Q : StreamPart → Lane → Type 0) (streams : List StreamPart) (lanes : List Lane) (i : ℕ) (s : StreamPart) (new : Lane) → AllLanes P streams lanes → slice_get streams i ≡ Some s → IsDistinct nat_eq (threads_of streams)
    → ((u : StreamPart) (l : Lane) → (u.thread == s.thread) ≡ false → P u l → Q u l) → Q s new → AllLanes Q streams (slice_set lanes i new)
lanes_set P Q [] lanes i s new all here apart f done = cc here
lanes_set P Q (u ∷ streams) [] i s new all here apart f done = absurd all
lanes_set P Q (u ∷ streams) (l ∷ lanes) zero s new all here apart f done =
    let same : s ≡ u = sym (one u s here) in
    (subst (λ (v : StreamPart). Q v new) same done, others_all P Q u.thread streams lanes all.1 (IsDistinct-head nat_eq u.thread (threads_of streams) apart) (λ v m off. f v m (ap (λ (w : StreamPart). v.thread == w.thread) same ∙ off)))
lanes_set P Q (u ∷ streams) (l ∷ lanes) (suc i) s new all here apart f done =
    (f u l (thread_at u.thread streams i s (IsDistinct-head nat_eq u.thread (threads_of streams) apart) here) all.0, lanes_set P Q streams lanes i s new all.1 here (IsDistinct-tail nat_eq u.thread (threads_of streams) apart) f done)

pub sum_set : (f : StreamPart → Lane → ℕ) (streams : List StreamPart) (lanes : List Lane) (i : ℕ) (s : StreamPart) (l new : Lane) → slice_get streams i ≡ Some s → slice_get lanes i ≡ Some l
    → sum_lanes f streams (slice_set lanes i new) + f s l ≡ sum_lanes f streams lanes + f s new
sum_set f [] lanes i s l new here at = cc here
sum_set f (u ∷ streams) [] i s l new here at = cc at
sum_set f (u ∷ streams) (m ∷ lanes) zero s l new here at =
    let old : f u m ≡ f s l = ap (λ v. f v m) (one u s here) ∙ ap (f s) (one m l at) in
    let now : f u new ≡ f s new = ap (λ v. f v new) (one u s here) in
    omega (arith, old, now)
sum_set f (u ∷ streams) (m ∷ lanes) (suc i) s l new here at = let rest = sum_set f streams lanes i s l new here at in omega (arith, rest)
