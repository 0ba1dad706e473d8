-- Results get ids one by one.
use Rattle.std.proofs.Common.{◌≡◌, ◌==◌, ◌<◌, ◌≤◌, ℕ, suc, ◌+◌, Bool, false, cond, Option, Some, None, List, [], ◌∷◌, ◌++◌, map, length, take, drop, set, get_or, ap, sym, ◌∙◌, arith, add-one, append_assoc}
use Rattle.std.proofs.Math.ListN.{drop_of_length-le}
use Rattle.std.proofs.Math.Seq.{drop-cons, take-suc-set}
use Rattle.std.proofs.lemmas.List.{append-nil, drop-set-lt, take_all, take_more}
use Rattle.command_tables.specs.declared.types.ObjectType.{ObjectType}
use Rattle.layer_model.specs.Ids.{Key, IdMap, Issued, IssuedAll, at_key, issue, issue_all, result_first}
use Rattle.layer_model.specs.Parts.{there}
use Rattle.unique_layer.specs.Shown.{issued_onto}

-- what is issued from a place on, behind the results so far
abbrev pub from_place : IdMap ℕ → Option Key → ObjectType → ℕ → List ℕ → IssuedAll ℕ
from_place m key t k results = issued_onto (take k results) (issue_all m key t k (map there (drop k results)))

onto_first : (front : List ℕ) (id : ℕ) (rest : IssuedAll ℕ) → issued_onto front (result_first id rest) ≡ issued_onto (front ++ id ∷ []) rest
onto_first front id rest = ap (λ (xs : List ℕ). record { results = xs; ids = rest.ids }) (sym (append_assoc front (id ∷ []) rest.results))

-- behind all results nothing is issued
pub all_issued : (m : IdMap ℕ) (key : Option Key) (t : ObjectType) (k : ℕ) (results : List ℕ) → length results ≤ k → from_place m key t k results ≡ record { results = results; ids = m }
all_issued m key t k results low =
    ap (λ (xs : List ℕ). issued_onto (take k results) (issue_all m key t k (map there xs))) (drop_of_length-le results low) ∙ ap (λ (xs : List ℕ). record { results = xs; ids = m }) (append-nil (take k results) ∙ take_all k results low)

-- a result that is 0
pub lost_step : (m : IdMap ℕ) (key : Option Key) (t : ObjectType) (results : List ℕ) (k : ℕ) → k < length results → get_or results k 0 ≡ 0 → from_place m key t k results ≡ from_place m key t (k + 1) results
lost_step m key t results k less none =
    let cut : drop k results ≡ get_or results k 0 ∷ drop (suc k) results = drop-cons results k 0 less in
    ap (λ (xs : List ℕ). issued_onto (take k results) (issue_all m key t k (map there xs))) (cut ∙ ap (λ (v : ℕ). v ∷ drop (suc k) results) none)
    ∙ (onto_first (take k results) 0 (issue_all m key t (k + 1) (map there (drop (suc k) results)))
    ∙ (ap (λ (v : ℕ). issued_onto (take k results ++ v ∷ []) (issue_all m key t (k + 1) (map there (drop (suc k) results)))) (sym none)
    ∙ (ap (λ (xs : List ℕ). issued_onto xs (issue_all m key t (k + 1) (map there (drop (suc k) results)))) (sym (take_more results k 0 less))
    ∙ ap (λ (n : ℕ). issued_onto (take (k + 1) results) (issue_all m key t (k + 1) (map there (drop n results)))) (sym (add-one k)))))

-- a result that gets an id
pub issued_step : (m m2 : IdMap ℕ) (key : Option Key) (t : ObjectType) (results : List ℕ) (k id : ℕ) → k < length results → (get_or results k 0 == 0) ≡ false → record { id = id; ids = m2 } ≡ issue m (at_key key k) t (get_or results k 0)
    → from_place m key t k results ≡ from_place m2 key t (k + 1) (set results k id)
issued_step m m2 key t results k id less some is =
    let v : ℕ = get_or results k 0 in
    let rest : List ℕ = drop (suc k) results in
    let cut : drop k results ≡ v ∷ rest = drop-cons results k 0 less in
    ap (λ (xs : List ℕ). issued_onto (take k results) (issue_all m key t k (map there xs))) cut
    ∙ (ap (λ (u : Bool). issued_onto (take k results) (issue_all m key t k (cond u None (Some v) ∷ map there rest))) some
    ∙ (ap (λ (one : Issued ℕ). issued_onto (take k results) (result_first one.id (issue_all one.ids key t (k + 1) (map there rest)))) (sym is)
    ∙ (onto_first (take k results) id (issue_all m2 key t (k + 1) (map there rest))
    ∙ (ap (λ (xs : List ℕ). issued_onto xs (issue_all m2 key t (k + 1) (map there rest))) (sym (ap (λ n. take n (set results k id)) (add-one k) ∙ take-suc-set results k id less))
    ∙ ap (λ (xs : List ℕ). issued_onto (take (k + 1) (set results k id)) (issue_all m2 key t (k + 1) (map there xs))) (sym (ap (λ n. drop n (set results k id)) (add-one k) ∙ drop-set-lt (suc k) results k id (omega arith)))))))
