-- Places of a call, as they are read.
use Rattle.std.proofs.Common.{◌≡◌, ◌<◌, ◌≤◌, ℕ, zero, suc, Bool, false, None, List, [], ◌∷◌, map, length, get_or, refl, ap, arith}
use Rattle.command_tables.specs.declared.types.ObjectType.{ObjectType}
use Rattle.command_tables.specs.declared.types.Param.{Param}
use Rattle.command_tables.specs.Handles.{list_at, HasPlace}
use Rattle.command_tables.specs.Table.{ParamSpec, seen_param}
use Rattle.object_model.specs.Objects.{object_of, first_in}
use Rattle.object_model.specs.declared.Argument.{Argument}
use Rattle.object_model.specs.declared.Argument.TheVariants.{Null}
use Rattle.layer_model.specs.Reading.{read_handle, read_handles, read_params}

-- as many arguments are read as there are handles
pub length_handles : (t : ObjectType) (hs : List ℕ) (ms : List Bool) → length ms ≡ length hs → length (read_handles t hs ms) ≡ length hs
length_handles t [] ms e = refl
length_handles t (h ∷ hs) [] e = absurd (omega (arith, e))
length_handles t (h ∷ hs) (m ∷ ms) e = ap suc (length_handles t hs ms (omega (arith, e)))

-- each is read by its handle and its mark
pub handle_read : (t : ObjectType) (hs : List ℕ) (ms : List Bool) (k : ℕ) → k < length hs → length ms ≡ length hs → get_or (read_handles t hs ms) k Null ≡ read_handle t (get_or hs k 0) (get_or ms k false)
handle_read t [] ms k less e = absurd (omega (arith, less))
handle_read t (h ∷ hs) [] k less e = absurd (omega (arith, e))
handle_read t (h ∷ hs) (m ∷ ms) zero less e = refl
handle_read t (h ∷ hs) (m ∷ ms) (suc k) less e = handle_read t hs ms k (omega (arith, less)) (omega (arith, e))

-- each parameter has as many marks as handles
pub marks_same : (mss : List (List Bool)) (lists : List (List ℕ)) (p : ℕ) → map (λ ms. length ms) mss ≡ map (λ xs. length xs) lists → length (list_at mss p) ≡ length (list_at lists p)
marks_same [] [] p e = refl
marks_same [] (x ∷ lists) p e = cc e
marks_same (m ∷ mss) [] p e = cc e
marks_same (m ∷ mss) (x ∷ lists) zero e = cc e
marks_same (m ∷ mss) (x ∷ lists) (suc p) e = marks_same mss lists p (cc e)

-- as many parameters are read as the row has
pub length_params : (ps : List ParamSpec) (lists : List (List ℕ)) (mss : List (List Bool)) → length lists ≡ length ps → map (λ ms. length ms) mss ≡ map (λ xs. length xs) lists → length (read_params ps lists mss) ≡ length lists
length_params [] [] mss e f = refl
length_params [] (l ∷ lists) mss e f = absurd (omega (arith, e))
length_params (p ∷ ps) [] mss e f = refl
length_params (p ∷ ps) (l ∷ lists) [] e f = cc f
length_params (p ∷ ps) (l ∷ lists) (m ∷ mss) e f = ap suc (length_params ps lists mss (omega (arith, e)) (cc f))

-- as many places are read of a parameter as it has handles
pub length_places : (ps : List ParamSpec) (lists : List (List ℕ)) (mss : List (List Bool)) (p : ℕ) → length lists ≡ length ps → map (λ ms. length ms) mss ≡ map (λ xs. length xs) lists
    → length (list_at (read_params ps lists mss) p) ≡ length (list_at lists p)
length_places [] [] mss p e f = refl
length_places [] (l ∷ lists) mss p e f = absurd (omega (arith, e))
length_places (x ∷ ps) [] mss p e f = refl
length_places (x ∷ ps) (l ∷ lists) [] p e f = cc f
length_places (x ∷ ps) (l ∷ lists) (m ∷ mss) zero e f = length_handles x.ty l m (cc f)
length_places (x ∷ ps) (l ∷ lists) (m ∷ mss) (suc p) e f = length_places ps lists mss p (omega (arith, e)) (cc f)

-- past the parameters there is no place
pub no_places : (lists : List (List ℕ)) (p : ℕ) → length lists ≤ p → length (list_at lists p) ≡ 0
no_places [] p low = refl
no_places (l ∷ lists) zero low = absurd (omega (arith, low))
no_places (l ∷ lists) (suc p) low = no_places lists p (omega (arith, low))

-- a place that is read is one of the call
pub place_there : (ps : List ParamSpec) (lists : List (List ℕ)) (mss : List (List Bool)) (p k : ℕ) → length lists ≡ length ps → map (λ ms. length ms) mss ≡ map (λ xs. length xs) lists
    → k < length (list_at (read_params ps lists mss) p) → HasPlace lists p k
place_there ps lists mss p k e f less =
    let there : k < length (list_at lists p) = omega (arith, less, length_places ps lists mss p e f) in record { param = low lists p k there; place = there }
  where
    low : (xss : List (List ℕ)) (q n : ℕ) → n < length (list_at xss q) → q < length xss
    low [] q n l = absurd (omega (arith, l))
    low (xs ∷ xss) zero n l = omega arith
    low (xs ∷ xss) (suc q) n l = let i = low xss q n l in omega (arith, i)

-- what is read in a place
pub argument_read : (ps : List Param) (lists : List (List ℕ)) (mss : List (List Bool)) (p k : ℕ) (d : Param) → p < length ps → length lists ≡ length ps → map (λ ms. length ms) mss ≡ map (λ xs. length xs) lists → k < length (list_at lists p)
    → get_or (list_at (read_params (map seen_param ps) lists mss) p) k Null ≡ read_handle (get_or ps p d).ty (get_or (list_at lists p) k 0) (get_or (list_at mss p) k false)
argument_read [] lists mss p k d less e f there = absurd (omega (arith, less))
argument_read (x ∷ ps) [] mss p k d less e f there = absurd (omega (arith, e))
argument_read (x ∷ ps) (l ∷ lists) [] p k d less e f there = cc f
argument_read (x ∷ ps) (l ∷ lists) (m ∷ mss) zero k d less e f there = handle_read x.ty l m k there (cc f)
argument_read (x ∷ ps) (l ∷ lists) (m ∷ mss) (suc p) k d less e f there = argument_read ps lists mss p k d (omega (arith, less)) (omega (arith, e)) (cc f) there

-- the first argument of a parameter without places
pub none_first : (args : List (List Argument)) (p : ℕ) → length (list_at args p) ≡ 0 → first_in args p ≡ None
none_first [] p e = refl
none_first ([] ∷ args) zero e = refl
none_first ((a ∷ places) ∷ args) zero e = absurd (omega (arith, e))
none_first (places ∷ args) (suc p) e = none_first args p e

-- the first argument of a parameter with places
pub some_first : (args : List (List Argument)) (p : ℕ) → 0 < length (list_at args p) → first_in args p ≡ object_of (get_or (list_at args p) 0 Null)
some_first [] p less = absurd (omega (arith, less))
some_first ([] ∷ args) zero less = absurd (omega (arith, less))
some_first ((a ∷ places) ∷ args) zero less = refl
some_first (places ∷ args) (suc p) less = some_first args p less
