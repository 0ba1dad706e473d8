-- What drivers were told.
use Rattle.std.proofs.Common.{◌≡◌, ◌∙◌, ℕ, zero, suc, ◌+◌, ◌<◌, List, [], ◌∷◌, ◌++◌, length, map, take, get_or, Some, None, refl, ap, sym, subst, append_assoc, drop, add-one}
use Rattle.std.proofs.Math.Seq.{drop-cons}
use Rattle.std.proofs.lemmas.List.{map-append, take-append-drop, take_more}
use Rattle.std.specs.List.{zip}
use Rattle.command_tables.specs.Calls.{DriverCallContent, ReplyContent}
use Rattle.model_driver.specs.declared.driver.DriverCall.{DriverCall}
use Rattle.model_driver.specs.declared.driver.DriverReply.{DriverReply}
use Rattle.model_driver.specs.Driver.{IsAnsweredBy, call_shown, reply_shown}
use Rattle.model_driver.specs.Logs.{Log, logged}
use Rattle.model_driver.proofs.Telling.{logged_nothing, logged_twice}
use Rattle.session_model.specs.Stands.{AreRepliesTo}
use Rattle.chain_session.specs.Telling.{AreAsked, AskedOnce, FrontAsked}

replies_more : (calls : List DriverCallContent) (own : List ReplyContent) (c : DriverCallContent) (r : ReplyContent) → AreRepliesTo calls own → IsAnsweredBy c r → AreRepliesTo (calls ++ c ∷ []) (own ++ r ∷ [])
replies_more [] [] c r h a = (a, tt)
replies_more [] (x ∷ own) c r h a = absurd h
replies_more (d ∷ calls) [] c r h a = absurd h
replies_more (d ∷ calls) (x ∷ own) c r h a = (h.0, replies_more calls own c r h.1 a)

zip_more : (calls : List DriverCallContent) (own : List ReplyContent) (c : DriverCallContent) (r : ReplyContent) → AreRepliesTo calls own → zip (calls ++ c ∷ []) (own ++ r ∷ []) ≡ zip calls own ++ (c, r) ∷ []
zip_more [] [] c r h = refl
zip_more [] (x ∷ own) c r h = absurd h
zip_more (d ∷ calls) [] c r h = absurd h
zip_more (d ∷ calls) (x ∷ own) c r h = ap (λ ys. (d, x) ∷ ys) (zip_more calls own c r h.1)

-- nothing was told yet
pub none_told : (log : Log) → AreAsked [] [] log log
none_told log = record { answers = tt; told = logged_nothing log }

-- one call more was told
pub told_more : (calls : List DriverCallContent) (own : List ReplyContent) (c : DriverCallContent) (r : ReplyContent) (log0 log1 log2 : Log)
    → AreAsked calls own log0 log1 → IsAnsweredBy c r → log2 ≡ logged log1 ((c, r) ∷ []) → AreAsked (calls ++ c ∷ []) (own ++ r ∷ []) log0 log2
told_more calls own c r log0 log1 log2 h a is = record {
  answers = replies_more calls own c r h.answers a;
  told = is ∙ (ap (λ (l : Log). logged l ((c, r) ∷ [])) h.told ∙ (logged_twice log0 (zip calls own) ((c, r) ∷ []) ∙ ap (logged log0) (sym (zip_more calls own c r h.answers))));
}

-- ---- one call

pub shown_more : (rs : List DriverReply) (r : DriverReply) → map reply_shown (rs ++ r ∷ []) ≡ map reply_shown rs ++ reply_shown r ∷ []
shown_more rs r = map-append reply_shown rs (r ∷ [])

pub once : (c : DriverCallContent) (r : ReplyContent) (old new : List ReplyContent) (log0 log1 : Log) → IsAnsweredBy c r → new ≡ old ++ r ∷ [] → log1 ≡ logged log0 ((c, r) ∷ []) → AskedOnce c old new log0 log1
once c r old new log0 log1 a k t = record { reply = r; answers = a; kept = k; told = t }

pub none_asked : (calls : List DriverCallContent) (log0 log1 : Log) → log1 ≡ log0 → FrontAsked calls log0 log1
none_asked calls log0 log1 is = record { count = 0; own = []; asked = record { answers = tt; told = is ∙ logged_nothing log0 } }

pub one_asked : (c : DriverCallContent) (r : ReplyContent) (log0 log1 : Log) → IsAnsweredBy c r → log1 ≡ logged log0 ((c, r) ∷ []) → FrontAsked (c ∷ []) log0 log1
one_asked c r log0 log1 a is = record { count = 1; own = r ∷ []; asked = record { answers = (a, tt); told = is } }

-- ---- one call after another

-- the elements so far, with one more
pub one_more : {X : Type 0} (xs : List X) (i : ℕ) (x : X) → i < length xs → x ≡ get_or xs i x → take (i + 1) xs ≡ take i xs ++ x ∷ []
one_more xs i x l at = take_more xs i x l ∙ ap (λ y. take i xs ++ y ∷ []) (sym at)

-- the elements that are left
pub left_over : {X : Type 0} (xs : List X) (i : ℕ) (x : X) → i < length xs → x ≡ get_or xs i x → drop i xs ≡ x ∷ drop (i + 1) xs
left_over xs i x l at = rw add-one (drop-cons xs i x l ∙ ap (λ y. y ∷ drop (suc i) xs) (sym at))

pub around_one : {X : Type 0} (xs : List X) (i : ℕ) (x : X) → i < length xs → x ≡ get_or xs i x → xs ≡ take i xs ++ x ∷ drop (i + 1) xs
around_one xs i x l at = sym (take-append-drop i xs) ∙ ap (λ ys. take i xs ++ ys) (left_over xs i x l at)

-- one call more, by the program's values
pub told_next : (before after : List DriverCall) (item : DriverCall) (own own2 : List ReplyContent) (log0 log1 log2 : Log) → after ≡ before ++ item ∷ []
    → AreAsked (map call_shown before) own log0 log1 → AskedOnce (call_shown item) own own2 log1 log2 → AreAsked (map call_shown after) own2 log0 log2
told_next before after item own own2 log0 log1 log2 is h once =
    subst (λ (cs : List DriverCallContent). AreAsked cs own2 log0 log2) (sym (ap (map call_shown) is ∙ map-append call_shown before (item ∷ [])))
    (subst (λ rs. AreAsked (map call_shown before ++ call_shown item ∷ []) rs log0 log2) (sym once.kept)
    (told_more (map call_shown before) own (call_shown item) once.reply log0 log1 log2 h once.answers once.told))

take_front : (xs ys : List DriverCallContent) → take (length xs) (xs ++ ys) ≡ xs
take_front [] ys = refl
take_front (x ∷ xs) ys = ap (λ zs. x ∷ zs) (take_front xs ys)

take_one_more : (xs ys : List DriverCallContent) (c : DriverCallContent) → take (suc (length xs)) (xs ++ c ∷ ys) ≡ xs ++ c ∷ []
take_one_more [] ys c = refl
take_one_more (x ∷ xs) ys c = ap (λ zs. x ∷ zs) (take_one_more xs ys c)

-- the first so many were told, of which the last may be the next one
front_next : (before rest : List DriverCallContent) (c : DriverCallContent) (own : List ReplyContent) (log0 log1 log2 : Log)
    → AreAsked before own log0 log1 → FrontAsked (c ∷ []) log1 log2 → FrontAsked (before ++ c ∷ rest) log0 log2
front_next before rest c own log0 log1 log2 h f = go f.count f.own f.asked
  where
    go : (n : ℕ) (own2 : List ReplyContent) → AreAsked (take n (c ∷ [])) own2 log1 log2 → FrontAsked (before ++ c ∷ rest) log0 log2
    go zero [] a = record {
      count = length before;
      own = own;
      asked = subst (λ (cs : List DriverCallContent). AreAsked cs own log0 log2) (sym (take_front before (c ∷ rest)))
          (record { answers = h.answers; told = a.told ∙ (sym (logged_nothing log1) ∙ h.told) });
    }
    go zero (r ∷ own2) a = absurd a.answers
    go (suc n) [] a = absurd (none_left n a.answers)
      where
        none_left : (n : ℕ) → AreRepliesTo (take (suc n) (c ∷ [])) [] → ⊥
        none_left n x = x
    go (suc n) (r ∷ own2) a = single n own2 a
      where
        single : (n : ℕ) (own2 : List ReplyContent) → AreAsked (take (suc n) (c ∷ [])) (r ∷ own2) log1 log2 → FrontAsked (before ++ c ∷ rest) log0 log2
        single zero [] a = record {
          count = suc (length before);
          own = own ++ r ∷ [];
          asked = subst (λ (cs : List DriverCallContent). AreAsked cs (own ++ r ∷ []) log0 log2) (sym (take_one_more before rest c)) (told_more before own c r log0 log1 log2 h a.answers.0 a.told);
        }
        single zero (q ∷ own2) a = absurd a.answers.1
        single (suc n) [] a = record {
          count = suc (length before);
          own = own ++ r ∷ [];
          asked = subst (λ (cs : List DriverCallContent). AreAsked cs (own ++ r ∷ []) log0 log2) (sym (take_one_more before rest c)) (told_more before own c r log0 log1 log2 h a.answers.0 a.told);
        }
        single (suc n) (q ∷ own2) a = absurd a.answers.1

-- by the program's values
pub front_told : (all before rest : List DriverCall) (item : DriverCall) (own : List ReplyContent) (log0 log1 log2 : Log) → all ≡ before ++ item ∷ rest
    → AreAsked (map call_shown before) own log0 log1 → FrontAsked (call_shown item ∷ []) log1 log2 → FrontAsked (map call_shown all) log0 log2
front_told all before rest item own log0 log1 log2 is h f =
    subst (λ (cs : List DriverCallContent). FrontAsked cs log0 log2) (sym (ap (map call_shown) is ∙ map-append call_shown before (item ∷ rest)))
    (front_next (map call_shown before) (map call_shown rest) (call_shown item) own log0 log1 log2 h f)

whole_taken : (xs : List DriverCallContent) → take (length xs) xs ≡ xs
whole_taken [] = refl
whole_taken (x ∷ xs) = ap (λ ys. x ∷ ys) (whole_taken xs)

-- where all were told, the first so many were
pub all_asked : (calls : List DriverCallContent) (own : List ReplyContent) (log0 log1 : Log) → AreAsked calls own log0 log1 → FrontAsked calls log0 log1
all_asked calls own log0 log1 h = record { count = length calls; own = own; asked = subst (λ (cs : List DriverCallContent). AreAsked cs own log0 log1) (sym (whole_taken calls)) h }
