-- Lists replaced place by place.
use Rattle.std.proofs.Common.{◌≡◌, ◌<◌, ◌≤◌, ℕ, zero, suc, ◌+◌, List, [], ◌∷◌, length, map, get_or, refl, sym, ap, ◌∙◌, arith, add-one, slice_set}
use Rattle.command_tables.specs.Handles.{Handles, HasRoom, list_at, put}
use Rattle.command_tables.specs.declared.types.ObjectType.{ObjectType}
use Rattle.command_tables.specs.Table.{ParamSpec, seen_param}
use Rattle.command_tables.specs.declared.types.Param.{Param}
use Rattle.std.proofs.lemmas.List.{get_or-set_same, length-map, set-get_or, set-set, take-append-drop}
use Rattle.layer_model.specs.Ids.{IdMap}
use Rattle.layer_model.specs.Terminator.{told_handles, told_params}
use Rattle.object_model.specs.Values.{Value}
use Rattle.terminator.specs.Shown.{told_so_far, params_so_far}

-- writing what stands there changes nothing
pub ruleset own = set-get_or

-- a place that isn't there
pub set_beyond : {A : Type 0} (xs : List A) (p : ℕ) (y : A) → length xs ≤ p → slice_set xs p y ≡ xs
set_beyond [] p y low = refl
set_beyond (x ∷ xs) zero y low = absurd (omega (arith, low))
set_beyond (x ∷ xs) (suc p) y low = ap (λ ys. x ∷ ys) (set_beyond xs p y (omega (arith, low)))

-- one handle more is replaced
set_mapped : (f : ℕ → ℕ) (xs : List ℕ) (k : ℕ) → k < length xs → slice_set (told_so_far f k xs) k (f (get_or xs k 0)) ≡ told_so_far f (suc k) xs
set_mapped f [] k less = absurd (omega (arith, less))
set_mapped f (x ∷ xs) zero less = refl
set_mapped f (x ∷ xs) (suc k) less = ap (λ ys. f x ∷ ys) (set_mapped f xs k (omega (arith, less)))

-- the next is as it was
at_mapped : (f : ℕ → ℕ) (xs : List ℕ) (k d : ℕ) → k < length xs → get_or (told_so_far f k xs) k d ≡ get_or xs k 0
at_mapped f [] k d less = absurd (omega (arith, less))
at_mapped f (x ∷ xs) zero d less = refl
at_mapped f (x ∷ xs) (suc k) d less = at_mapped f xs k d (omega (arith, less))

-- one place more of a parameter is replaced
pub replaced_more : (f : ℕ → ℕ) (before lists : List (List ℕ)) (p k v : ℕ) → p < length before → lists ≡ slice_set before p (told_so_far f k (list_at before p)) → k < length (list_at before p)
    → v ≡ f (get_or (list_at lists p) k 0) → put lists p k v ≡ slice_set before p (told_so_far f (k + 1) (list_at before p))
replaced_more f before lists p k v there is less value =
    let xs : List ℕ = list_at before p in
    let at : list_at lists p ≡ told_so_far f k xs = ap (λ ls. list_at ls p) is ∙ get_or-set_same before p (told_so_far f k xs) [] there in
    let v_is : v ≡ f (get_or xs k 0) = value ∙ ap f (ap (λ ys. get_or ys k 0) at ∙ at_mapped f xs k 0 less) in
    ap (λ ls. slice_set lists p (slice_set ls k v)) at
    ∙ (ap (λ w. slice_set lists p (slice_set (told_so_far f k xs) k w)) v_is
    ∙ (ap (slice_set lists p) (set_mapped f xs k less)
    ∙ (ap (λ ls. slice_set ls p (told_so_far f (suc k) xs)) is ∙ (set-set before p (told_so_far f k xs) (told_so_far f (suc k) xs) ∙ ap (λ n. slice_set before p (told_so_far f n xs)) (sym (add-one k))))))

-- ---- parameter by parameter

-- the list of a parameter that isn't replaced yet
at_entered : (m : IdMap (List Value)) (driver : ℕ) (params : List ParamSpec) (lists : List (List ℕ)) (p : ℕ) → p < length params → get_or (params_so_far m driver p params lists) p [] ≡ get_or lists p []
at_entered m driver [] lists p less = absurd (omega (arith, less))
at_entered m driver (x ∷ params) [] zero less = refl
at_entered m driver (x ∷ params) [] (suc p) less = refl
at_entered m driver (x ∷ params) (hs ∷ lists) zero less = refl
at_entered m driver (x ∷ params) (hs ∷ lists) (suc p) less = at_entered m driver params lists p (omega (arith, less))

-- one parameter more
entered_more : (m : IdMap (List Value)) (driver : ℕ) (params : List ParamSpec) (lists : List (List ℕ)) (p : ℕ) (d : ParamSpec) → p < length params
    → slice_set (params_so_far m driver p params lists) p (told_handles m driver (get_or params p d).ty (get_or lists p [])) ≡ params_so_far m driver (suc p) params lists
entered_more m driver [] lists p d less = absurd (omega (arith, less))
entered_more m driver (x ∷ params) [] zero d less = refl
entered_more m driver (x ∷ params) [] (suc p) d less = refl
entered_more m driver (x ∷ params) (hs ∷ lists) zero d less = refl
entered_more m driver (x ∷ params) (hs ∷ lists) (suc p) d less = ap (λ ys. told_handles m driver x.ty hs ∷ ys) (entered_more m driver params lists p d (omega (arith, less)))

-- all of them
entered_all : (m : IdMap (List Value)) (driver : ℕ) (params : List ParamSpec) (lists : List (List ℕ)) (p : ℕ) → length params ≤ p → params_so_far m driver p params lists ≡ told_params m driver params lists
entered_all m driver [] lists zero less = refl
entered_all m driver [] lists (suc p) less = take-append-drop (suc p) lists
entered_all m driver (x ∷ params) lists zero less = absurd (omega (arith, less))
entered_all m driver (x ∷ params) [] (suc p) less = refl
entered_all m driver (x ∷ params) (hs ∷ lists) (suc p) less = ap (λ ys. told_handles m driver x.ty hs ∷ ys) (entered_all m driver params lists p (omega (arith, less)))

-- the same, for the program's rows
pub entered_rows : (m : IdMap (List Value)) (driver : ℕ) (params : List Param) (lists : List (List ℕ)) (p : ℕ) → length params ≤ p → params_so_far m driver p (map seen_param params) lists ≡ told_params m driver (map seen_param params) lists
entered_rows m driver params lists p less = let count = length-map params seen_param in entered_all m driver (map seen_param params) lists p (omega (arith, less, count))

-- one parameter more, as the code has it
pub entered_step : (m : IdMap (List Value)) (driver : ℕ) (ps : List Param) (lists now new : List (List ℕ)) (p : ℕ) (d : Param) → p < length ps → now ≡ params_so_far m driver p (map seen_param ps) lists
    → new ≡ slice_set now p (told_handles m driver (get_or ps p d).ty (list_at now p)) → new ≡ params_so_far m driver (p + 1) (map seen_param ps) lists
entered_step m driver ps lists now new p d less is step =
    let count : length (map seen_param ps) ≡ length ps = length-map ps seen_param in
    let low : p < length (map seen_param ps) = omega (arith, less, count) in
    let ty : (get_or ps p d).ty ≡ (get_or (map seen_param ps) p (seen_param d)).ty = mapped_ty ps p in
    step
    ∙ (ap (λ (ls : List (List ℕ)). slice_set ls p (told_handles m driver (get_or ps p d).ty (list_at ls p))) is
    ∙ (ap (λ (hs : List ℕ). slice_set (params_so_far m driver p (map seen_param ps) lists) p (told_handles m driver (get_or ps p d).ty hs)) (at_entered m driver (map seen_param ps) lists p low)
    ∙ (ap (λ (t : ObjectType). slice_set (params_so_far m driver p (map seen_param ps) lists) p (told_handles m driver t (get_or lists p []))) ty
    ∙ (entered_more m driver (map seen_param ps) lists p (seen_param d) low ∙ ap (λ n. params_so_far m driver n (map seen_param ps) lists) (sym (add-one p))))))
  where
    mapped_ty : (xs : List Param) (n : ℕ) → (get_or xs n d).ty ≡ (get_or (map seen_param xs) n (seen_param d)).ty
    mapped_ty [] n = refl
    mapped_ty (x ∷ xs) zero = refl
    mapped_ty (x ∷ xs) (suc n) = mapped_ty xs n

-- room that stayed twice has stayed
pub kept_on : {a b : Handles} {slots room : ℕ} → HasRoom b a.slots a.room → HasRoom a slots room → HasRoom b slots room
kept_on h g = record { slots = omega (arith, h.slots, g.slots); room = omega (arith, h.room, g.room) }
