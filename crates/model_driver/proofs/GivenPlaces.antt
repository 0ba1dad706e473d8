-- What drivers have given, by their places in the list.
use Rattle.std.proofs.Common.{◌≡◌, ◌≤◌, ◌+◌, ◌-◌, ℕ, suc, ◌∙◌, Bool, true, false, cond, Some, None, List, [], ◌∷◌, ◌++◌, get_or, refl, ap, sym, arith}
use Rattle.std.specs.Prelude.{nat_eq, Result, Ok, Err, OnOk, position}
use Rattle.std.specs.List.{position_from}
use Rattle.std.proofs.Math.ListN.{set}
use Rattle.std.proofs.lemmas.Bool.{eqb-true}
use Rattle.std.proofs.lemmas.Iterator.Adapters.{position_from-zero}
use Rattle.command_tables.specs.Calls.{DriverCallContent}
use Rattle.model_driver.specs.declared.driver.Policy.{Policy}
use Rattle.model_driver.specs.Driver.{handles_due}
use Rattle.model_driver.specs.Policies.{after_giving, values_ended, values_given, with_all_back}
use Rattle.model_driver.specs.GivenValues.{GivenState, back_after, back_of, handles_for, with_back_of}

-- what the first place of a driver says of what it has given, in a list whose first place is this number
record IsAt (given : List GivenState) (d first i : ℕ) : Type 0 where
  pub later : first ≤ i
  pub number : (s : GivenState) → s ≡ get_or given (i - first) s → s.driver ≡ d
  pub back : (s : GivenState) → s ≡ get_or given (i - first) s → back_of given d ≡ s.back
  pub put : (b : List Bool) → with_back_of given d b ≡ set given (i - first) (record { driver = d; back = b })

found : (given : List GivenState) (d first i : ℕ) → position_from (λ s. nat_eq s.driver d) first given ≡ Some i → IsAt given d first i
found [] d first i is = cc is
found (t ∷ given) d first i is = go (nat_eq t.driver d) refl is (λ e. found given d (first + 1) i e)
  where
    go : (b : Bool) → nat_eq t.driver d ≡ b → cond b (Some first) (position_from (λ s. nat_eq s.driver d) (first + 1) given) ≡ Some i
        → (position_from (λ s. nat_eq s.driver d) (first + 1) given ≡ Some i → IsAt given d (first + 1) i) → IsAt (t ∷ given) d first i
    go true e at late =
        let here : first ≡ i = cc at in
        let none : i - first ≡ 0 = omega arith in
        record {
          later = omega arith;
          number = λ s read. ap (λ (u : GivenState). u.driver) (read ∙ ap (λ n. get_or (t ∷ given) n s) none) ∙ eqb-true t.driver d e;
          back = λ s read. ap (λ b. cond b t.back (back_of given d)) e ∙ ap (λ (u : GivenState). u.back) (sym (read ∙ ap (λ n. get_or (t ∷ given) n s) none));
          put = λ b. ap (λ u. cond u (record { driver = d; back = b } ∷ given) (t ∷ with_back_of given d b)) e ∙ ap (λ n. set (t ∷ given) n (record { driver = d; back = b })) (sym none);
        }
    go false e at late =
        let rest = late at in
        let past : i - first ≡ suc (i - (first + 1)) = omega (arith, rest.later) in
        record {
          later = omega (arith, rest.later);
          number = λ s read. rest.number s (read ∙ ap (λ n. get_or (t ∷ given) n s) past);
          back = λ s read. ap (λ b. cond b t.back (back_of given d)) e ∙ rest.back s (read ∙ ap (λ n. get_or (t ∷ given) n s) past);
          put = λ b. ap (λ u. cond u (record { driver = d; back = b } ∷ given) (t ∷ with_back_of given d b)) e ∙ (ap (λ xs. t ∷ xs) (rest.put b) ∙ ap (λ n. set (t ∷ given) n (record { driver = d; back = b })) (sym past));
        }

-- the same, counted from 0
record IsFound (given : List GivenState) (d i : ℕ) : Type 0 where
  pub number : (s : GivenState) → s ≡ get_or given i s → s.driver ≡ d
  pub back : (s : GivenState) → s ≡ get_or given i s → back_of given d ≡ s.back
  pub put : (b : List Bool) → with_back_of given d b ≡ set given i (record { driver = d; back = b })

found_first : (given : List GivenState) (d i : ℕ) → position (λ s. nat_eq s.driver d) given ≡ Some i → IsFound given d i
found_first given d i is =
    let at = found given d 0 i (sym (position_from-zero (λ (s : GivenState). nat_eq s.driver d) given) ∙ is) in
    let whole : i - 0 ≡ i = omega arith in
    record {
      number = λ s read. at.number s (read ∙ ap (λ n. get_or given n s) (sym whole));
      back = λ s read. at.back s (read ∙ ap (λ n. get_or given n s) (sym whole));
      put = λ b. at.put b ∙ ap (λ n. set given n (record { driver = d; back = b })) whole;
    }

-- a driver that was never called
record HasNone (given : List GivenState) (d : ℕ) : Type 0 where
  pub back : back_of given d ≡ []
  pub put : (b : List Bool) → with_back_of given d b ≡ given ++ record { driver = d; back = b } ∷ []

missing : (given : List GivenState) (d first : ℕ) → position_from (λ s. nat_eq s.driver d) first given ≡ None → HasNone given d
missing [] d first is = record { back = refl; put = λ b. refl }
missing (t ∷ given) d first is = go (nat_eq t.driver d) refl is (λ e. missing given d (first + 1) e)
  where
    go : (b : Bool) → nat_eq t.driver d ≡ b → cond b (Some first) (position_from (λ s. nat_eq s.driver d) (first + 1) given) ≡ None
        → (position_from (λ s. nat_eq s.driver d) (first + 1) given ≡ None → HasNone given d) → HasNone (t ∷ given) d
    go true e at late = cc at
    go false e at late =
        let rest = late at in
        record {
          back = ap (λ b. cond b t.back (back_of given d)) e ∙ rest.back;
          put = λ b. ap (λ u. cond u (record { driver = d; back = b } ∷ given) (t ∷ with_back_of given d b)) e ∙ ap (λ xs. t ∷ xs) (rest.put b);
        }

missing_first : (given : List GivenState) (d : ℕ) → position (λ s. nat_eq s.driver d) given ≡ None → HasNone given d
missing_first given d is = missing given d 0 (sym (position_from-zero (λ (s : GivenState). nat_eq s.driver d) given) ∙ is)

on_ok : {T E P Q : Type 0} (r : Result T E) → (P → Q) → OnOk r P → OnOk r Q
on_ok (Ok x) f p = f p
on_ok (Err e) f p = p

-- the handles of a call of a driver that was called before
pub handles_at : {T E : Type 0} (r : Result T E) (p : Policy) (given : List GivenState) (c : DriverCallContent) (place n : ℕ) (s : GivenState) (ended handles : List ℕ) → position (λ t. nat_eq t.driver c.driver) given ≡ Some place
    → s ≡ get_or given place s → ended ≡ values_ended c → n ≡ handles_due c → OnOk r (handles ≡ values_given p (with_all_back s.back ended) n) → OnOk r (handles ≡ handles_for (record { policy = p; given = given }) c)
handles_at r p given c place n s ended handles at read ends due =
    on_ok r (λ is. is
    ∙ (ap (λ b. values_given p (with_all_back b ended) n) (sym ((found_first given c.driver place at).back s read))
    ∙ (ap (λ e. values_given p (with_all_back (back_of given c.driver) e) n) ends ∙ ap (values_given p (with_all_back (back_of given c.driver) (values_ended c))) due)))

-- what the drivers have given behind it
pub given_at : {T E : Type 0} (r : Result T E) (p : Policy) (given : List GivenState) (c : DriverCallContent) (place n : ℕ) (s behind : GivenState) (ended : List ℕ) → position (λ t. nat_eq t.driver c.driver) given ≡ Some place
    → s ≡ get_or given place s → ended ≡ values_ended c → n ≡ handles_due c → OnOk r (behind ≡ record s { back = after_giving p (with_all_back s.back ended) n })
    → OnOk r (set given place behind ≡ with_back_of given c.driver (back_after p (back_of given c.driver) c))
given_at r p given c place n s behind ended at read ends due =
    on_ok r (λ is. ap (set given place) (is ∙ same) ∙ sym ((found_first given c.driver place at).put (back_after p (back_of given c.driver) c)))
  where
    back_is : after_giving p (with_all_back s.back ended) n ≡ back_after p (back_of given c.driver) c
    back_is =
        ap (λ b. after_giving p (with_all_back b ended) n) (sym ((found_first given c.driver place at).back s read))
        ∙ (ap (λ e. after_giving p (with_all_back (back_of given c.driver) e) n) ends ∙ ap (after_giving p (with_all_back (back_of given c.driver) (values_ended c))) due)

    same : record s { back = after_giving p (with_all_back s.back ended) n } ≡ record { driver = c.driver; back = back_after p (back_of given c.driver) c }
    same =
        let by_number : record s { back = after_giving p (with_all_back s.back ended) n } ≡ record { driver = c.driver; back = after_giving p (with_all_back s.back ended) n }
        = ap (λ d. let t : GivenState = record { driver = d; back = after_giving p (with_all_back s.back ended) n } in t) ((found_first given c.driver place at).number s read) in
        by_number ∙ ap (λ b. let t : GivenState = record { driver = c.driver; back = b } in t) back_is

-- the handles of a driver's first call
pub handles_first : (p : Policy) (given : List GivenState) (c : DriverCallContent) (n : ℕ) (ended handles : List ℕ) → position (λ t. nat_eq t.driver c.driver) given ≡ None → ended ≡ values_ended c → n ≡ handles_due c
    → handles ≡ values_given p (with_all_back [] ended) n → handles ≡ handles_for (record { policy = p; given = given }) c
handles_first p given c n ended handles none ends due is =
    is
    ∙ (ap (λ b. values_given p (with_all_back b ended) n) (sym (missing_first given c.driver none).back)
    ∙ (ap (λ e. values_given p (with_all_back (back_of given c.driver) e) n) ends ∙ ap (values_given p (with_all_back (back_of given c.driver) (values_ended c))) due))

-- what the drivers have given behind it
pub given_first : (p : Policy) (given behind : List GivenState) (s : GivenState) (c : DriverCallContent) (n : ℕ) (ended : List ℕ) → position (λ t. nat_eq t.driver c.driver) given ≡ None → ended ≡ values_ended c → n ≡ handles_due c
    → s ≡ record { driver = c.driver; back = after_giving p (with_all_back [] ended) n } → behind ≡ given ++ s ∷ [] → behind ≡ with_back_of given c.driver (back_after p (back_of given c.driver) c)
given_first p given behind s c n ended none ends due is pushed =
    pushed
    ∙ (ap (λ (t : GivenState). given ++ t ∷ []) (is ∙ ap (λ b. let t : GivenState = record { driver = c.driver; back = b } in t) back_is)
    ∙ sym ((missing_first given c.driver none).put (back_after p (back_of given c.driver) c)))
  where
    back_is : after_giving p (with_all_back [] ended) n ≡ back_after p (back_of given c.driver) c
    back_is =
        ap (λ b. after_giving p (with_all_back b ended) n) (sym (missing_first given c.driver none).back)
        ∙ (ap (λ e. after_giving p (with_all_back (back_of given c.driver) e) n) ends ∙ ap (after_giving p (with_all_back (back_of given c.driver) (values_ended c))) due)
