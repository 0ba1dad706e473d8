-- Lists replaced place by place.
use Rattle.std.proofs.Common.{◌≡◌, ◌<◌, ◌≤◌, ℕ, zero, suc, ◌+◌, List, [], ◌∷◌, length, map, get_or, refl, sym, ap, ◌∙◌, arith, add-one, slice_set}
use Rattle.command_tables.specs.Handles.{Handles, HasRoom, list_at, put}
use Rattle.command_tables.specs.declared.types.ObjectType.{ObjectType}
use Rattle.command_tables.specs.Table.{ParamSpec, seen_param}
use Rattle.command_tables.specs.declared.types.Param.{Param}
use Rattle.std.proofs.lemmas.List.{get_or-set_same, length-map, set-get_or, set-set, take-append-drop}
use Rattle.layer_model.specs.Ids.{IdMap}
use Rattle.layer_model.specs.Parts.{below_handles, below_params}
use Rattle.unique_layer.specs.Shown.{mapped, entered}

-- no room is lost in two steps
pub room_on : (a b c : Handles) → HasRoom b a.slots a.room → HasRoom c b.slots b.room → HasRoom c a.slots a.room
room_on a b c first then = record { slots = omega (arith, first.slots, then.slots); room = omega (arith, first.room, then.room) }

-- writing what stands there changes nothing
pub ruleset own = set-get_or

-- a place that isn't there
pub set_beyond : {A : Type 0} (xs : List A) (p : ℕ) (y : A) → length xs ≤ p → slice_set xs p y ≡ xs
set_beyond [] p y low = refl
set_beyond (x ∷ xs) zero y low = absurd (omega (arith, low))
set_beyond (x ∷ xs) (suc p) y low = ap (λ ys. x ∷ ys) (set_beyond xs p y (omega (arith, low)))

-- one handle more is replaced
set_mapped : (f : ℕ → ℕ) (xs : List ℕ) (k : ℕ) → k < length xs → slice_set (mapped f k xs) k (f (get_or xs k 0)) ≡ mapped f (suc k) xs
set_mapped f [] k less = absurd (omega (arith, less))
set_mapped f (x ∷ xs) zero less = refl
set_mapped f (x ∷ xs) (suc k) less = ap (λ ys. f x ∷ ys) (set_mapped f xs k (omega (arith, less)))

-- the next is as it was
at_mapped : (f : ℕ → ℕ) (xs : List ℕ) (k d : ℕ) → k < length xs → get_or (mapped f k xs) k d ≡ get_or xs k 0
at_mapped f [] k d less = absurd (omega (arith, less))
at_mapped f (x ∷ xs) zero d less = refl
at_mapped f (x ∷ xs) (suc k) d less = at_mapped f xs k d (omega (arith, less))

-- one place more of a parameter is replaced
pub replaced_more : (f : ℕ → ℕ) (before lists : List (List ℕ)) (p k v : ℕ) → p < length before → lists ≡ slice_set before p (mapped f k (list_at before p)) → k < length (list_at before p)
    → v ≡ f (get_or (list_at lists p) k 0) → put lists p k v ≡ slice_set before p (mapped f (k + 1) (list_at before p))
replaced_more f before lists p k v there is less value =
    let xs : List ℕ = list_at before p in
    let at : list_at lists p ≡ mapped f k xs = ap (λ ls. list_at ls p) is ∙ get_or-set_same before p (mapped f k xs) [] there in
    let v_is : v ≡ f (get_or xs k 0) = value ∙ ap f (ap (λ ys. get_or ys k 0) at ∙ at_mapped f xs k 0 less) in
    ap (λ ls. slice_set lists p (slice_set ls k v)) at
    ∙ (ap (λ w. slice_set lists p (slice_set (mapped f k xs) k w)) v_is
    ∙ (ap (slice_set lists p) (set_mapped f xs k less)
    ∙ (ap (λ ls. slice_set ls p (mapped f (suc k) xs)) is ∙ (set-set before p (mapped f k xs) (mapped f (suc k) xs) ∙ ap (λ n. slice_set before p (mapped f n xs)) (sym (add-one k))))))

-- ---- parameter by parameter

-- the list of a parameter that isn't replaced yet
at_entered : (m : IdMap ℕ) (params : List ParamSpec) (lists : List (List ℕ)) (p : ℕ) → p < length params → get_or (entered m p params lists) p [] ≡ get_or lists p []
at_entered m [] lists p less = absurd (omega (arith, less))
at_entered m (x ∷ params) [] zero less = refl
at_entered m (x ∷ params) [] (suc p) less = refl
at_entered m (x ∷ params) (hs ∷ lists) zero less = refl
at_entered m (x ∷ params) (hs ∷ lists) (suc p) less = at_entered m params lists p (omega (arith, less))

-- one parameter more
entered_more : (m : IdMap ℕ) (params : List ParamSpec) (lists : List (List ℕ)) (p : ℕ) (d : ParamSpec) → p < length params
    → slice_set (entered m p params lists) p (below_handles m (get_or params p d).ty (get_or lists p [])) ≡ entered m (suc p) params lists
entered_more m [] lists p d less = absurd (omega (arith, less))
entered_more m (x ∷ params) [] zero d less = refl
entered_more m (x ∷ params) [] (suc p) d less = refl
entered_more m (x ∷ params) (hs ∷ lists) zero d less = refl
entered_more m (x ∷ params) (hs ∷ lists) (suc p) d less = ap (λ ys. below_handles m x.ty hs ∷ ys) (entered_more m params lists p d (omega (arith, less)))

-- all of them
entered_all : (m : IdMap ℕ) (params : List ParamSpec) (lists : List (List ℕ)) (p : ℕ) → length params ≤ p → entered m p params lists ≡ below_params m params lists
entered_all m [] lists zero less = refl
entered_all m [] lists (suc p) less = take-append-drop (suc p) lists
entered_all m (x ∷ params) lists zero less = absurd (omega (arith, less))
entered_all m (x ∷ params) [] (suc p) less = refl
entered_all m (x ∷ params) (hs ∷ lists) (suc p) less = ap (λ ys. below_handles m x.ty hs ∷ ys) (entered_all m params lists p (omega (arith, less)))

-- the same, for the program's rows
pub entered_rows : (m : IdMap ℕ) (params : List Param) (lists : List (List ℕ)) (p : ℕ) → length params ≤ p → entered m p (map seen_param params) lists ≡ below_params m (map seen_param params) lists
entered_rows m params lists p less = let count = length-map params seen_param in entered_all m (map seen_param params) lists p (omega (arith, less, count))

-- one parameter more, as the code has it
pub entered_step : (m : IdMap ℕ) (ps : List Param) (lists now new : List (List ℕ)) (p : ℕ) (d : Param) → p < length ps → now ≡ entered m p (map seen_param ps) lists
    → new ≡ slice_set now p (below_handles m (get_or ps p d).ty (list_at now p)) → new ≡ entered m (p + 1) (map seen_param ps) lists
entered_step m ps lists now new p d less is step =
    let count : length (map seen_param ps) ≡ length ps = length-map ps seen_param in
    let low : p < length (map seen_param ps) = omega (arith, less, count) in
    let ty : (get_or ps p d).ty ≡ (get_or (map seen_param ps) p (seen_param d)).ty = mapped_ty ps p in
    step
    ∙ (ap (λ (ls : List (List ℕ)). slice_set ls p (below_handles m (get_or ps p d).ty (list_at ls p))) is
    ∙ (ap (λ (hs : List ℕ). slice_set (entered m p (map seen_param ps) lists) p (below_handles m (get_or ps p d).ty hs)) (at_entered m (map seen_param ps) lists p low)
    ∙ (ap (λ (t : ObjectType). slice_set (entered m p (map seen_param ps) lists) p (below_handles m t (get_or lists p []))) ty
    ∙ (entered_more m (map seen_param ps) lists p (seen_param d) low ∙ ap (λ n. entered m n (map seen_param ps) lists) (sym (add-one p))))))
  where
    mapped_ty : (xs : List Param) (n : ℕ) → (get_or xs n d).ty ≡ (get_or (map seen_param xs) n (seen_param d)).ty
    mapped_ty [] n = refl
    mapped_ty (x ∷ xs) zero = refl
    mapped_ty (x ∷ xs) (suc n) = mapped_ty xs n
