-- The handles that the model drivers answer: as many as are due, and none of them 0.
use Rattle.std.proofs.Common.{◌≡◌, ℕ, zero, suc, ◌-◌, ◌∙◌, Bool, true, false, List, [], ◌∷◌, ◌++◌, length, take, drop, refl, ap, arith, length-append}
use Rattle.std.specs.Prelude.{replicate, ◌&&◌, nat_le}
use Rattle.std.proofs.lemmas.List.{length-replicate, length-take}
use Rattle.std.proofs.lemmas.List.Folds.{list_all-append}
use Rattle.model_driver.specs.Driver.{IsAnsweredBy, are_handles, handles_due}
use Rattle.command_tables.specs.Calls.{DriverCallContent, ReplyContent}
use Rattle.model_driver.specs.declared.driver.Policy.{Policy}
use Rattle.model_driver.specs.declared.driver.Policy.TheVariants as policy
use Rattle.model_driver.specs.Policies.{given_from, least_not_out, next_value, values_ended, values_given, with_all_back, with_given}
use Rattle.model_driver.specs.GivenValues.{ModelState, back_of, handles_for}

pub given_count : (values : List ℕ) (n : ℕ) → length (given_from values n) ≡ n
given_count values n = simp (length-append, length-replicate, length-take) (omega arith)

both : (a b : Bool) → a ≡ true → b ≡ true → (a && b) ≡ true
both true true p q = refl
both true false p q = q
both false b p q = p

left_of : (a b : Bool) → (a && b) ≡ true → a ≡ true
left_of true b p = refl
left_of false b p = p

right_of : (a b : Bool) → (a && b) ≡ true → b ≡ true
right_of true b p = p
right_of false true p = refl
right_of false false p = p

pub handles_take : (n : ℕ) (values : List ℕ) → are_handles values ≡ true → are_handles (take n values) ≡ true
handles_take zero values p = refl
handles_take (suc n) [] p = refl
handles_take (suc n) (v ∷ values) p = both _ _ (left_of _ _ p) (handles_take n values (right_of (nat_le 1 v) _ p))

pub handles_drop : (n : ℕ) (values : List ℕ) → are_handles values ≡ true → are_handles (drop n values) ≡ true
handles_drop zero values p = p
handles_drop (suc n) [] p = refl
handles_drop (suc n) (v ∷ values) p = handles_drop n values (right_of (nat_le 1 v) _ p)

handles_ones : (n : ℕ) → are_handles (replicate n 1) ≡ true
handles_ones zero = refl
handles_ones (suc n) = handles_ones n

handles_append : (xs ys : List ℕ) → are_handles xs ≡ true → are_handles ys ≡ true → are_handles (xs ++ ys) ≡ true
handles_append xs ys p q = list_all-append (λ h. nat_le 1 h) xs ys ∙ both _ _ p q

pub given_handles : (values : List ℕ) (n : ℕ) → are_handles values ≡ true → are_handles (given_from values n) ≡ true
given_handles values n p = handles_append (take n values) (replicate (n - length values) 1) (handles_take n values p) (handles_ones (n - length values))

-- the same of what was given from a place on
pub count_given : (out values : List ℕ) (n : ℕ) → out ≡ given_from values n → length out ≡ n
count_given out values n given = ap length given ∙ given_count values n

-- a slice from a place on is read as `take (length values - at) (drop at values)`
pub handles_given : (out values : List ℕ) (at n : ℕ) → are_handles values ≡ true → out ≡ given_from (take (length values - at) (drop at values)) n → are_handles out ≡ true
handles_given out values at n positive given =
    ap are_handles given ∙ given_handles (take (length values - at) (drop at values)) n (handles_take (length values - at) (drop at values) (handles_drop at values positive))

-- ---- values by a policy

least_positive : (back : List Bool) → nat_le 1 (least_not_out back) ≡ true
least_positive [] = refl
least_positive (true ∷ back) = refl
least_positive (false ∷ back) = grind arith

next_positive : (p : Policy) (back : List Bool) → nat_le 1 (next_value p back) ≡ true
next_positive policy.Fresh back = grind arith
next_positive policy.Reuse back = least_positive back
next_positive policy.Share back = refl

pub values_count : (p : Policy) (back : List Bool) (n : ℕ) → length (values_given p back n) ≡ n
values_count p back zero = refl
values_count p back (suc n) = ap suc (values_count p (with_given back (next_value p back)) n)

pub values_positive : (p : Policy) (back : List Bool) (n : ℕ) → are_handles (values_given p back n) ≡ true
values_positive p back zero = refl
values_positive p back (suc n) = both _ _ (next_positive p back) (values_positive p (with_given back (next_value p back)) n)

-- so many values by a policy are an answer, where so many are due
pub answers_due : (p : Policy) (back : List Bool) (n : ℕ) (c : DriverCallContent) (before handles : List ℕ) → before ≡ [] → handles ≡ before ++ values_given p back n → n ≡ handles_due c → IsAnsweredBy c (record { code = c.code; handles = handles })
answers_due p back n c before handles none given due =
    let is : handles ≡ values_given p back n = given ∙ ap (λ xs. xs ++ values_given p back n) none in
    record { code = refl; count = ap length is ∙ (values_count p back n ∙ due); handles = ap are_handles is ∙ values_positive p back n }

-- the handles that a model driver answers are an answer
pub answers_so : (m : ModelState) (c : DriverCallContent) (r : ReplyContent) → r.code ≡ c.code → r.handles ≡ handles_for m c → IsAnsweredBy c r
answers_so m c r code handles = record {
  code = code;
  count = ap length handles ∙ values_count m.policy (with_all_back (back_of m.given c.driver) (values_ended c)) (handles_due c);
  handles = ap are_handles handles ∙ values_positive m.policy (with_all_back (back_of m.given c.driver) (values_ended c)) (handles_due c);
}
