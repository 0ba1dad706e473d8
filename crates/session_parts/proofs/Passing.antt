-- What is kept of results, one by one.
use Rattle.std.proofs.Common.{◌≡◌, ◌∙◌, ◌≤◌, ◌<◌, ◌+◌, ◌*◌, ◌++◌, ◌∷◌, [], ℕ, Bool, List, add-one, append_assoc, ap, arith, filter, get_or, length, map, sym, take}
use Rattle.std.proofs.lemmas.List.{map-append, take_more}
use Rattle.std.proofs.lemmas.List.Elements.{filter-append}
use Rattle.std.proofs.Math.Nat.{mul-le-mul_right, suc-mul}
use Rattle.trace_format.specs.declared.event.Name.{Name}
use Rattle.replay_model.specs.Past.{named_of, object_in}
use Rattle.replay_model.specs.declared.Born.{Born}
use Rattle.replay_model.specs.declared.Named.{Named}
use Rattle.session_model.proofs.Named.{objects_behind}

-- what passes of one more
pub passed_more : {X Y : Type 0} (f : X → Y) (p : X → Bool) (xs : List X) (i : ℕ) (d : X) (old now new : List Y) → i < length xs → now ≡ old ++ map f (filter p (take i xs)) → new ≡ now ++ map f (filter p (get_or xs i d ∷ []))
    → new ≡ old ++ map f (filter p (take (i + 1) xs))
passed_more f p xs i d old now new less so_far grown =
    grown
    ∙ (ap (λ ys. ys ++ map f (filter p (get_or xs i d ∷ []))) so_far
    ∙ (append_assoc old (map f (filter p (take i xs))) (map f (filter p (get_or xs i d ∷ [])))
    ∙ ap (λ ys. old ++ ys)
    (sym (map-append f (filter p (take i xs)) (filter p (get_or xs i d ∷ [])))
    ∙ ap (map f) (sym (filter-append p (take i xs) (get_or xs i d ∷ [])) ∙ ap (filter p) (sym (take_more xs i d less))))))

-- one name more
pub names_more : (made : List Born) (i : ℕ) (d : Born) (old now new : List Named) → i < length made → ((q : Name) → object_in now q ≡ object_in (old ++ map named_of (take i made)) q)
    → ((q : Name) → object_in new q ≡ object_in (now ++ named_of (get_or made i d) ∷ []) q) → (q : Name) → object_in new q ≡ object_in (old ++ map named_of (take (i + 1) made)) q
names_more made i d old now new less so_far grown q =
    let x : Named = named_of (get_or made i d) in
    grown q
    ∙ (objects_behind now (old ++ map named_of (take i made)) so_far (x ∷ []) q
    ∙ ap (λ (ns : List Named). object_in ns q) (append_assoc old (map named_of (take i made)) (x ∷ []) ∙ ap (λ (ns : List Named). old ++ ns) (sym (map-append named_of (take i made) (get_or made i d ∷ [])) ∙ ap (map named_of) (sym (take_more made i d less)))))

-- ---- how much room is taken

times_more : (k d : ℕ) → (k + 1) * d ≡ k * d + d
times_more k d = ap (λ m. m * d) (add-one k) ∙ suc-mul k d

-- one more takes as much
pub bytes_more : (first before now k d : ℕ) → first ≤ before + k * d → before ≤ now + d → first ≤ now + (k + 1) * d
bytes_more first before now k d so_far one = let e : (k + 1) * d ≡ k * d + d = times_more k d in omega (arith, so_far, one, e)

-- more take no less
pub times_within : (n m d : ℕ) → n ≤ m → n * d ≤ m * d
times_within n m d less = mul-le-mul_right d less

-- so many take no more than all
pub bytes_all : (first last k n d : ℕ) → first ≤ last + k * d → k ≤ n → first ≤ last + n * d
bytes_all first last k n d so_far within = let e : k * d ≤ n * d = times_within k n d within in omega (arith, so_far, e)

-- there is room for one more
pub bytes_left : (first now k n d : ℕ) → first ≤ now + k * d → k < n → n * d ≤ first → d ≤ now
bytes_left first now k n d so_far less fits =
    let e : (k + 1) * d ≡ k * d + d = times_more k d in
    let f : (k + 1) * d ≤ n * d = times_within (k + 1) n d (omega (arith, less)) in
    omega (arith, so_far, fits, e, f)
