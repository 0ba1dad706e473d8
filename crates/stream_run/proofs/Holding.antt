-- The tokens in slots, each with the device of its plan.
use Rattle.std.proofs.Common.{◌≡◌, ◌∙◌, ℕ, Option, Some, None, List, [], ◌∷◌, ◌++◌, map, refl, sym, ap, append_assoc}
use Rattle.std.specs.List.{flat_map, zip}
use Rattle.std.proofs.lemmas.Grind.{flat_map-append}
use Rattle.std.proofs.lemmas.List.{map-append}
use Rattle.std.specs.Borrow.{Bor}
use Rattle.stream_log.specs.declared.entry.Entry.{Entry}
use Rattle.stream_log.specs.declared.line.Line.{Line}
use Rattle.stream_log.specs.Log.{SeenView, line_of}
use Rattle.log_merge.specs.Numbered.{numbered}
use Rattle.trace_format.specs.declared.event.Name.{Name}
use Rattle.stream_model.specs.Plans.{DevicePlan}
use Rattle.device_shard.specs.declared.plan.Plan.{Plan}
use Rattle.device_shard.specs.Plans.{plan_content}
use Rattle.stream_run.specs.Gathering.{lines_of}
use Rattle.stream_run.specs.Spending.{held_at, tokens_held}

abbrev pub held_by : Bor Plan × Option SeenView → List (Name × SeenView)
held_by x = held_at x.0.now.device x.1

-- those of plans and slots side by side
pub held_beside : (plans : List Plan) (slots : List (Option SeenView)) → tokens_held (map (λ (p : DevicePlan). p.device) (map plan_content plans)) slots ≡ flat_map (λ (x : Plan × Option SeenView). held_at x.0.device x.1) (zip plans slots)
held_beside [] slots = refl
held_beside (p ∷ plans) [] = refl
held_beside (p ∷ plans) (None ∷ slots) = held_beside plans slots
held_beside (p ∷ plans) (Some t ∷ slots) = ap (λ (ts : List (Name × SeenView)). (p.device, t) ∷ ts) (held_beside plans slots)

-- one slot more
pub held_more : (was new old : List (Name × SeenView)) (xs : List (Bor Plan × Option SeenView)) (x : Bor Plan × Option SeenView) → was ≡ old ++ flat_map held_by xs → new ≡ was ++ held_by x → new ≡ old ++ flat_map held_by (xs ++ x ∷ [])
held_more was new old xs x so_far is =
    is
    ∙ (ap (λ (ts : List (Name × SeenView)). ts ++ held_by x) so_far
    ∙ (append_assoc old (flat_map held_by xs) (held_by x) ∙ ap (λ (ts : List (Name × SeenView)). old ++ ts) (sym (flat_map-append held_by xs (x ∷ []) ∙ ap (λ (ts : List (Name × SeenView)). flat_map held_by xs ++ ts) (one_only (held_by x))))))
  where
    one_only : (ts : List (Name × SeenView)) → ts ++ [] ≡ ts
    one_only [] = refl
    one_only (t ∷ ts) = ap (λ (us : List (Name × SeenView)). t ∷ us) (one_only ts)

-- what is held of pairs whose plans are borrowed
pub held_seen : (xs : List (Bor Plan × Option SeenView)) → flat_map held_by xs ≡ flat_map (λ (x : Plan × Option SeenView). held_at x.0.device x.1) (map (λ (x : Bor Plan × Option SeenView). (x.0.now, x.1)) xs)
held_seen [] = refl
held_seen (x ∷ xs) = ap (λ (ts : List (Name × SeenView)). held_by x ++ ts) (held_seen xs)

pub held_all : (new old : List (Name × SeenView)) (xs : List (Bor Plan × Option SeenView)) (plans : List Plan) (slots : List (Option SeenView)) → new ≡ old ++ flat_map held_by xs → map (λ (x : Bor Plan × Option SeenView). (x.0.now, x.1)) xs ≡ zip plans slots
    → new ≡ old ++ tokens_held (map (λ (p : DevicePlan). p.device) (map plan_content plans)) slots
held_all new old xs plans slots is all =
    is
    ∙ ap (λ (ts : List (Name × SeenView)). old ++ ts)
    (held_seen xs ∙ (ap (λ (ys : List (Plan × Option SeenView)). flat_map (λ (x : Plan × Option SeenView). held_at x.0.device x.1) ys) all ∙ sym (held_beside plans slots)))

-- ---- what is seen of one item more

pub flat_pushed : {X Y : Type 0} (f : X → List Y) (xs : List X) (x : X) (was new : List Y) → was ≡ flat_map f xs → new ≡ was ++ f x → new ≡ flat_map f (xs ++ x ∷ [])
flat_pushed {X} {Y} f xs x was new so_far is =
    is ∙ (ap (λ (ys : List Y). ys ++ f x) so_far ∙ sym (flat_map-append f xs (x ∷ []) ∙ ap (λ (ys : List Y). flat_map f xs ++ ys) (alone (f x))))
  where
    alone : (ys : List Y) → ys ++ [] ≡ ys
    alone [] = refl
    alone (y ∷ ys) = ap (λ (zs : List Y). y ∷ zs) (alone ys)

pub map_pushed : {X Y : Type 0} (f : X → Y) (xs : List X) (x : X) (was new : List Y) (y : Y) → was ≡ map f xs → new ≡ was ++ y ∷ [] → y ≡ f x → new ≡ map f (xs ++ x ∷ [])
map_pushed {X} {Y} f xs x was new y so_far is own =
    is ∙ (ap (λ (ys : List Y). ys ++ y ∷ []) so_far ∙ (ap (λ (z : Y). map f xs ++ z ∷ []) own ∙ sym (map-append f xs (x ∷ []))))

pub both_pushed : {X Y Z : Type 0} (f : X → Z) (g : Y → Z) (xs : List X) (was new : List Y) (x : X) (y : Y) → map g was ≡ map f xs → new ≡ was ++ y ∷ [] → g y ≡ f x → map g new ≡ map f (xs ++ x ∷ [])
both_pushed {X} {Y} {Z} f g xs was new x y so_far is own =
    ap (map g) is ∙ (map-append g was (y ∷ []) ∙ (ap (λ (zs : List Z). zs ++ g y ∷ []) so_far ∙ (ap (λ (z : Z). map f xs ++ z ∷ []) own ∙ sym (map-append f xs (x ∷ [])))))

-- ---- entries with their logs' numbers

pub lines_numbered : (xs : List (ℕ × Bor Entry)) → map (λ (x : ℕ × Bor Entry). line_of x.1.now) xs ≡ lines_of (map numbered xs)
lines_numbered [] = refl
lines_numbered (x ∷ xs) = ap (λ (es : List Line). line_of x.1.now ∷ es) (lines_numbered xs)
