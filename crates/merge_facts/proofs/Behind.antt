-- Entries of which the newest comes first, and the turns that they are.
use Rattle.std.proofs.Common.{◌≡◌, ◌∙◌, ◌==◌, ℕ, suc, Bool, true, false, cond, List, [], ◌∷◌, ◌++◌, length, refl, sym, ap}
use Rattle.std.specs.Prelude.{filter, map, reverse}
use Rattle.std.proofs.lemmas.List.{length-reverse, map-append, reverse-append}
use Rattle.std.proofs.lemmas.Simd.{map-map}
use Rattle.stream_log.specs.declared.line.Line.{Line}
use Rattle.stream_model.specs.Plans.{turns_of}
use Rattle.merge_model.proofs.Parting.{filter_reverse}
use Rattle.log_merge.specs.Merged.{NumberedLine, lines_of_log}
use Rattle.merge_facts.specs.Logged.{lines_between, turns_behind}

-- the threads of entries
abbrev pub threads_in : List NumberedLine → List ℕ
threads_in back = map (λ (x : NumberedLine). x.line.thread) back

-- those of a log
abbrev pub own_of : ℕ → List NumberedLine → List NumberedLine
own_of k back = filter (λ (x : NumberedLine). x.log == k) back

map_turned : {X Y : Type 0} (f : X → Y) (xs : List X) → reverse (map f xs) ≡ map f (reverse xs)
map_turned f [] = refl
map_turned f (x ∷ xs) =
    reverse-append (f x ∷ []) (map f xs) ∙ (ap (λ ys. ys ++ f x ∷ []) (map_turned f xs) ∙ (sym (map-append f (reverse xs) (x ∷ [])) ∙ sym (ap (map f) (reverse-append (x ∷ []) xs))))

pub turns_turned : (front : List NumberedLine) → turns_behind front ≡ threads_in (reverse front)
turns_turned front = map_turned (λ (x : NumberedLine). x.line.thread) front

pub own_turned : (k : ℕ) (front : List NumberedLine) → threads_in (own_of k (reverse front)) ≡ reverse (map (λ (e : Line). e.thread) (lines_of_log k front))
own_turned k front =
    ap threads_in (filter_reverse (λ (x : NumberedLine). x.log == k) front)
    ∙ (sym (map_turned (λ (x : NumberedLine). x.line.thread) (own_of k front)) ∙ ap reverse (sym (map-map (λ (e : Line). e.thread) (λ (x : NumberedLine). x.line) (own_of k front))))

-- a thread has as many turns as entries
turns_own : (t : ℕ) (back : List NumberedLine) → turns_of t (threads_in back) ≡ length (lines_between t back)
turns_own t [] = refl
turns_own t (x ∷ back) = go (x.line.thread == t) (turns_own t back)
  where
    go : (u : Bool) → turns_of t (threads_in back) ≡ length (lines_between t back)
        → length (cond u (x.line.thread ∷ filter (λ v. v == t) (threads_in back)) (filter (λ v. v == t) (threads_in back))) ≡ length (cond u (x ∷ lines_between t back) (lines_between t back))
    go true rest = ap suc rest
    go false rest = rest

pub turns_counted : (t : ℕ) (back : List NumberedLine) → turns_of t (threads_in back) ≡ length (lines_between t (reverse back))
turns_counted t back =
    turns_own t back ∙ sym (ap length (filter_reverse (λ (x : NumberedLine). x.line.thread == t) back) ∙ length-reverse (lines_between t back))
