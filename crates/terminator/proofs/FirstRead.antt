-- Reading the first place of a parameter.
use Rattle.std.proofs.Common.{◌≡◌, ◌<◌, ◌≤◌, ◌⊎◌, ℕ, zero, suc, Bool, None, List, [], ◌∷◌, map, length, get_or, refl, arith, inl, inr}
use Rattle.std.specs.Prelude.{slice_get, option_and_then}
use Rattle.command_tables.specs.declared.types.ObjectType.{ObjectType}
use Rattle.command_tables.specs.declared.types.Param.{Param}
use Rattle.command_tables.specs.Handles.{list_at}
use Rattle.command_tables.specs.Table.{seen_param}
use Rattle.object_model.specs.Objects.{object_of, first_in}
use Rattle.layer_model.specs.Reading.{read_handle, read_handles, read_params}

-- nothing is read of no handle
pub none_read : (t : ObjectType) (hs : List ℕ) (ms : List Bool) → length hs ≡ 0 → option_and_then object_of (slice_get (read_handles t hs ms) 0) ≡ None
none_read t [] ms e = refl
none_read t (h ∷ hs) ms e = absurd (omega (arith, e))

-- the first handle is read with its mark
pub first_read : (t : ObjectType) (hs : List ℕ) (ms : List Bool) (d : Bool) → 0 < length hs → length ms ≡ length hs → option_and_then object_of (slice_get (read_handles t hs ms) 0) ≡ object_of (read_handle t (get_or hs 0 0) (get_or ms 0 d))
first_read t [] ms d less same = absurd (omega (arith, less))
first_read t (h ∷ hs) [] d less same = absurd (omega (arith, same))
first_read t (h ∷ hs) (m ∷ ms) d less same = refl

-- a parameter's places in what is read
pub first_in_read : (ps : List Param) (lists : List (List ℕ)) (mss : List (List Bool)) (p : ℕ) (d : Param) → p < length ps → p < length lists → map (λ ms. length ms) mss ≡ map (λ xs. length xs) lists
    → first_in (read_params (map seen_param ps) lists mss) p ≡ option_and_then object_of (slice_get (read_handles (get_or ps p d).ty (list_at lists p) (list_at mss p)) 0)
first_in_read [] lists mss p d less low e = absurd (omega (arith, less))
first_in_read (x ∷ ps) [] mss p d less low e = absurd (omega (arith, low))
first_in_read (x ∷ ps) (l ∷ lists) [] p d less low e = cc e
first_in_read (x ∷ ps) (l ∷ lists) (m ∷ mss) zero d less low e = refl
first_in_read (x ∷ ps) (l ∷ lists) (m ∷ mss) (suc p) d less low e = first_in_read ps lists mss p d (omega (arith, less)) (omega (arith, low)) (cc e)

-- past the parameters, or past the lists, nothing is read
pub none_beyond : (ps : List Param) (lists : List (List ℕ)) (mss : List (List Bool)) (p : ℕ) → (length ps ≤ p) ⊎ (length lists ≤ p) → first_in (read_params (map seen_param ps) lists mss) p ≡ None
none_beyond [] lists mss p low = refl
none_beyond (x ∷ ps) [] mss p low = refl
none_beyond (x ∷ ps) (l ∷ lists) [] p low = refl
none_beyond (x ∷ ps) (l ∷ lists) (m ∷ mss) zero (inl low) = absurd (omega (arith, low))
none_beyond (x ∷ ps) (l ∷ lists) (m ∷ mss) zero (inr low) = absurd (omega (arith, low))
none_beyond (x ∷ ps) (l ∷ lists) (m ∷ mss) (suc p) (inl low) = none_beyond ps lists mss p (inl (omega (arith, low)))
none_beyond (x ∷ ps) (l ∷ lists) (m ∷ mss) (suc p) (inr low) = none_beyond ps lists mss p (inr (omega (arith, low)))
