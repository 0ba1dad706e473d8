-- New logs beside their plans.
use Rattle.std.proofs.Common.{◌≡◌, ◌≤◌, ℕ, List, [], ◌∷◌, ◌++◌, map, sym, ◌∙◌, ap, subst}
use Rattle.std.specs.List.{AllZip}
use Rattle.atomic_table.specs.Seated.{TableId}
use Rattle.stream_log.specs.Log.{OwnerView}
use Rattle.stream_model.specs.Plans.{DevicePlan}
use Rattle.shard_start.specs.Starting.{events_in}
use Rattle.device_shard.specs.Making.{AreLogs, IsLogFor, results_planned}
use Rattle.device_shard.specs.Sets.{logs_of}
use Rattle.device_shard.specs.Shards.{ShardName, threads_of}
use Rattle.stream_crew.specs.Crews.{HaveThreads, IsNewLog}

zip_pushed : {X Y : Type 0} (R : X → Y → Type 0) (xs : List X) (ys : List Y) (x : X) (y : Y) → AllZip R xs ys → R x y → AllZip R (xs ++ x ∷ []) (ys ++ y ∷ [])
zip_pushed R [] [] x y all here = (here, tt)
zip_pushed R [] (z ∷ ys) x y all here = absurd all
zip_pushed R (z ∷ xs) [] x y all here = absurd all
zip_pushed R (z ∷ xs) (w ∷ ys) x y all here = (all.0, zip_pushed R xs ys x y all.1 here)

pub zip_is : {X Y : Type 0} (R : X → Y → Type 0) (xs zs : List X) (ys ws : List Y) (x : X) (y : Y) → zs ≡ xs ++ x ∷ [] → ws ≡ ys ++ y ∷ [] → AllZip R xs ys → R x y → AllZip R zs ws
zip_is R xs zs ys ws x y more longer all here = subst (λ us. AllZip R us ws) (sym more) (subst (λ us. AllZip R (xs ++ x ∷ []) us) (sym longer) (zip_pushed R xs ys x y all here))

is_log : (threads : List ℕ) (p : DevicePlan) (n : ShardName) (l : TableId × OwnerView) → threads_of p.streams ≡ threads → n.plan ≡ p → n.log ≡ l.0 → IsNewLog threads p l → IsLogFor n l
is_log threads p n l have plan own new = record {
  log = sym own;
  owner = record {
    log = new.log ∙ sym own;
    list = new.list;
    entries = subst (λ (q : DevicePlan). events_in q.streams ≤ l.1.entries) (sym plan) new.entries;
    results = subst (λ (q : DevicePlan). results_planned q.streams ≤ l.1.results) (sym plan) new.results;
  };
  held = new.held ∙ (sym have ∙ ap (λ (q : DevicePlan). threads_of q.streams) (sym plan));
}

-- so they are the logs of any names that have these plans and these logs
pub are_logs : (threads : List ℕ) (plans : List DevicePlan) (names : List ShardName) (logs : List (TableId × OwnerView)) → HaveThreads threads plans → map (λ (n : ShardName). n.plan) names ≡ plans → logs_of names ≡ map (λ (l : TableId × OwnerView). l.0) logs
    → AllZip (IsNewLog threads) plans logs → AreLogs names logs
are_logs threads [] [] [] have plan own all = tt
are_logs threads [] [] (l ∷ logs) have plan own all = absurd all
are_logs threads [] (n ∷ names) logs have plan own all = cc plan
are_logs threads (p ∷ plans) [] logs have plan own all = cc plan
are_logs threads (p ∷ plans) (n ∷ names) [] have plan own all = absurd all
are_logs threads (p ∷ plans) (n ∷ names) (l ∷ logs) have plan own all =
    let here : n.plan ≡ p = cc plan in
    let later : map (λ (m : ShardName). m.plan) names ≡ plans = cc plan in
    let log : n.log ≡ l.0 = cc own in
    let logs_later : logs_of names ≡ map (λ (m : TableId × OwnerView). m.0) logs = cc own in
    (is_log threads p n l have.0 here log all.0, are_logs threads plans names logs have.1 later logs_later all.1)
