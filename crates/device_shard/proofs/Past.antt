-- The last entry of a thread in a log.
use Rattle.std.proofs.Common.{◌≡◌, ◌==◌, ℕ, suc, Bool, true, false, cond, List, [], ◌∷◌, ◌++◌, length, refl, sym, ◌∙◌, ap, arith}
use Rattle.std.proofs.lemmas.Bool.{eq-eqb}
use Rattle.std.specs.Prelude.{filter}
use Rattle.stream_log.specs.declared.line.Line.{Line}
use Rattle.shard_model.specs.Followed.{turns_in}
use Rattle.device_shard.proofs.Steps.{steps_append, steps_of}

-- one step more
pub step_more : (t : ℕ) (list : List Line) (e : Line) → (e.thread == t) ≡ true → steps_of t (list ++ e ∷ []) ≡ suc (steps_of t list)
step_more t list e own = let all = steps_append t list (e ∷ []) in let here : steps_of t (e ∷ []) ≡ 1 = ap (λ (b : Bool). length (cond b (e.thread ∷ []) [])) own in omega (arith, all, here)

-- a step of another thread
pub step_other : (t : ℕ) (list : List Line) (e : Line) → (e.thread == t) ≡ false → steps_of t (list ++ e ∷ []) ≡ steps_of t list
step_other t list e off = let all = steps_append t list (e ∷ []) in let here : steps_of t (e ∷ []) ≡ 0 = ap (λ (b : Bool). length (cond b (e.thread ∷ []) [])) off in omega (arith, all, here)

tail_of : List Line → List Line
tail_of [] = []
tail_of (x ∷ xs) = xs

own_here : (t : ℕ) (e : Line) (list : List Line) → e.thread ≡ t → steps_of t (e ∷ list) ≡ suc (steps_of t list)
own_here t e list own = ap (λ (b : Bool). length (cond b (e.thread ∷ filter (λ u. u == t) (turns_in list)) (filter (λ u. u == t) (turns_in list)))) (eq-eqb e.thread t own)

-- there is a step where an entry of the thread stands
some_step : (t : ℕ) (before : List Line) (e : Line) (later : List Line) → e.thread ≡ t → steps_of t ((before ++ e ∷ []) ++ later) ≡ 0 → ⊥
some_step t [] e later own none = let here = own_here t e later own in absurd (omega (arith, here, none))
some_step t (x ∷ before) e later own none =
    let all = steps_append t (x ∷ []) ((before ++ e ∷ []) ++ later) in some_step t before e later own (omega (arith, all, none))

-- of two lists of which the other is a beginning, each ending in an entry of the thread behind which there is none
pub last_alike : (t : ℕ) (before front : List Line) (e f : Line) (later rest : List Line) → e.thread ≡ t → f.thread ≡ t → steps_of t later ≡ 0 → steps_of t rest ≡ 0 → (before ++ e ∷ []) ++ later ≡ (front ++ f ∷ []) ++ rest → before ≡ front
unfolding tail_of
last_alike t [] [] e f later rest mine his none gone same = refl
last_alike t [] (x ∷ front) e f later rest mine his none gone same = absurd (some_step t front f rest his (ap (steps_of t) (sym (ap tail_of same)) ∙ none))
last_alike t (x ∷ before) [] e f later rest mine his none gone same = absurd (some_step t before e later mine (ap (steps_of t) (ap tail_of same) ∙ gone))
last_alike t (x ∷ before) (y ∷ front) e f later rest mine his none gone same =
    let head : x ≡ y = cc same in ap (λ (z : Line). z ∷ before) head ∙ ap (λ (zs : List Line). y ∷ zs) (last_alike t before front e f later rest mine his none gone (ap tail_of same))
