-- The room of buffers for calls.
use Rattle.std.proofs.Common.{◌≡◌, ◌<◌, ◌≤◌, ℕ, zero, suc, ◌+◌, List, [], ◌∷◌, ◌++◌, length, map, take, get_or, sym, subst, ◌∙◌, arith, length-append, length-take-le}
use Rattle.std.specs.Prelude.{Some, slice_get, slice_set, vec_capacity}
use Rattle.std.proofs.lemmas.List.{length-map, length-set}
use Rattle.std.proofs.lemmas.Option.{same_Some, slice_get-get_or}
use Rattle.command_tables.specs.Calls.{CallContent, HasRoomFor, call_content}
use Rattle.command_tables.specs.Handles.{HasRoom}
use Rattle.command_tables.specs.declared.call.LayerCall.{LayerCall}
use Rattle.dispatch_chain.specs.Forms.{AreForms, FitsForm, FormRoom, KeepsForm, KeepsForms, form_room}
use Rattle.dispatch_chain.proofs.Rows.{get_mapped}

low : {X : Type 0} (xs : List X) (i : ℕ) (x : X) → slice_get xs i ≡ Some x → i < length xs
low [] i x e = cc e
low (y ∷ xs) zero x e = omega arith
low (y ∷ xs) (suc i) x e = let l = low xs i x e in omega (arith, l)

-- ---- no room is lost

pub form_self : (r : FormRoom) → KeepsForm r r
form_self r = record { slots = omega arith; handles = omega arith; bytes = omega arith }

pub form_on : (q r s : FormRoom) → KeepsForm q r → KeepsForm r s → KeepsForm q s
form_on q r s a b = record { slots = omega (arith, a.slots, b.slots); handles = omega (arith, a.handles, b.handles); bytes = omega (arith, a.bytes, b.bytes) }

-- a buffer that was written
pub form_kept : (c d : LayerCall) → HasRoom d.args c.args.slots c.args.room → vec_capacity c.payload ≤ vec_capacity d.payload → KeepsForm (form_room c) (form_room d)
form_kept c d has more = record { slots = has.slots; handles = has.room; bytes = more }

keeps_self : (rs : List FormRoom) → KeepsForms rs rs
keeps_self rs = record { count = omega arith; each = λ i q r a b. subst (λ (x : FormRoom). KeepsForm q x) (same_Some q r (sym a ∙ b)) (form_self q) }

pub keeps_on : (ps qs rs : List FormRoom) → KeepsForms ps qs → KeepsForms qs rs → KeepsForms ps rs
keeps_on ps qs rs a b = record {
  count = omega (arith, a.count, b.count);
  each = λ i p r here there.
      let less : i < length qs = omega (arith, low ps i p here, a.count) in
      let mid : slice_get qs i ≡ Some (get_or qs i p) = slice_get-get_or qs i p less in form_on p (get_or qs i p) r (a.each i p (get_or qs i p) here mid) (b.each i (get_or qs i p) r mid there);
}

pub keeps_same : (xs ys : List LayerCall) → ys ≡ xs → KeepsForms (map form_room xs) (map form_room ys)
keeps_same xs ys is = subst (λ (zs : List LayerCall). KeepsForms (map form_room xs) (map form_room zs)) (sym is) (keeps_self (map form_room xs))

got_front : (xs : List LayerCall) (x : LayerCall) (i : ℕ) (q : FormRoom) → slice_get (map form_room xs) i ≡ Some q → slice_get (map form_room (xs ++ x ∷ [])) i ≡ Some q
got_front [] x i q e = cc e
got_front (y ∷ xs) x zero q e = e
got_front (y ∷ xs) x (suc i) q e = got_front xs x i q e

-- with a further buffer
pub keeps_more : (xs ys : List LayerCall) (x : LayerCall) → ys ≡ xs ++ x ∷ [] → KeepsForms (map form_room xs) (map form_room ys)
keeps_more xs ys x is = subst (λ (zs : List LayerCall). KeepsForms (map form_room xs) (map form_room zs)) (sym is) (record {
  count = omega (arith, length-map xs form_room, length-map (xs ++ x ∷ []) form_room, length-append xs (x ∷ []));
  each = λ i q r a b. subst (λ (z : FormRoom). KeepsForm q z) (same_Some q r (sym (got_front xs x i q a) ∙ b)) (form_self q);
})

set_each : (xs : List LayerCall) (i : ℕ) (x d : LayerCall) → KeepsForm (form_room (get_or xs i d)) (form_room x) → (j : ℕ) (q r : FormRoom) → slice_get (map form_room xs) j ≡ Some q → slice_get (map form_room (slice_set xs i x)) j ≡ Some r → KeepsForm q r
set_each [] i x d kept j q r a b = cc a
set_each (y ∷ xs) zero x d kept zero q r a b =
    subst (λ (z : FormRoom). KeepsForm z r) (same_Some (form_room y) q a) (subst (λ (z : FormRoom). KeepsForm (form_room y) z) (same_Some (form_room x) r b) kept)
set_each (y ∷ xs) zero x d kept (suc j) q r a b = subst (λ (z : FormRoom). KeepsForm q z) (same_Some q r (sym a ∙ b)) (form_self q)
set_each (y ∷ xs) (suc i) x d kept zero q r a b = subst (λ (z : FormRoom). KeepsForm q z) (same_Some q r (sym a ∙ b)) (form_self q)
set_each (y ∷ xs) (suc i) x d kept (suc j) q r a b = set_each xs i x d kept j q r a b

-- with one buffer that was written
pub keeps_set : (xs : List LayerCall) (i : ℕ) (x d : LayerCall) → HasRoom x.args (get_or xs i d).args.slots (get_or xs i d).args.room → vec_capacity (get_or xs i d).payload ≤ vec_capacity x.payload
    → KeepsForms (map form_room xs) (map form_room (slice_set xs i x))
keeps_set xs i x d has more = record {
  count = omega (arith, length-map xs form_room, length-map (slice_set xs i x) form_room, length-set xs i x);
  each = set_each xs i x d (form_kept (get_or xs i d) x has more);
}

-- ---- what fits

-- a call fits in the buffer at a place
pub fits_there : (xs : List LayerCall) (i : ℕ) (x : LayerCall) (c : CallContent) → i < length xs → x ≡ get_or xs i x → ((r : FormRoom) → slice_get (map form_room xs) i ≡ Some r → FitsForm r c) → HasRoomFor x c
fits_there xs i x c less here fits =
    let there : slice_get (map form_room xs) i ≡ Some (form_room (get_or xs i x)) = get_mapped form_room xs i (get_or xs i x) (slice_get-get_or xs i x less) in
    let fit : FitsForm (form_room x) c = subst (λ (y : LayerCall). FitsForm (form_room y) c) (sym here) (fits (form_room (get_or xs i x)) there) in
    record { handles = record { slots = fit.slots; room = fit.handles }; bytes = fit.bytes }

-- as many calls are held as stand at the front
pub held_count : (xs : List LayerCall) (n : ℕ) → n ≤ length xs → length (map call_content (take n xs)) ≡ n
held_count xs n within = length-map (take n xs) call_content ∙ length-take-le n xs within

-- ---- new buffers

-- so many, each with so much room
pub record AreMade (xs : List LayerCall) (made handles bytes : ℕ) : Type 0 where
  pub count : length xs ≡ made
  pub each : (i : ℕ) (r : FormRoom) → slice_get (map form_room xs) i ≡ Some r → (6 ≤ r.slots) × ((handles ≤ r.handles) × (bytes ≤ r.bytes))

pub no_buffers : (xs : List LayerCall) (handles bytes : ℕ) → xs ≡ [] → AreMade xs 0 handles bytes
no_buffers xs handles bytes is = subst (λ (ys : List LayerCall). AreMade ys 0 handles bytes) (sym is) (record { count = omega arith; each = λ i r e. cc e })

last_each : (xs : List LayerCall) (x : LayerCall) (handles bytes : ℕ) → ((i : ℕ) (r : FormRoom) → slice_get (map form_room xs) i ≡ Some r → (6 ≤ r.slots) × ((handles ≤ r.handles) × (bytes ≤ r.bytes))) → HasRoom x.args 6 handles → bytes ≤ vec_capacity x.payload
    → (i : ℕ) (r : FormRoom) → slice_get (map form_room (xs ++ x ∷ [])) i ≡ Some r → (6 ≤ r.slots) × ((handles ≤ r.handles) × (bytes ≤ r.bytes))
last_each [] x handles bytes all has more zero r e = subst (λ (z : FormRoom). (6 ≤ z.slots) × ((handles ≤ z.handles) × (bytes ≤ z.bytes))) (same_Some (form_room x) r e) (has.slots, (has.room, more))
last_each [] x handles bytes all has more (suc i) r e = cc e
last_each (y ∷ xs) x handles bytes all has more zero r e = all zero r e
last_each (y ∷ xs) x handles bytes all has more (suc i) r e = last_each xs x handles bytes (λ j q f. all (suc j) q f) has more i r e

pub buffer_more : (xs ys : List LayerCall) (x : LayerCall) (count handles bytes : ℕ) → AreMade xs count handles bytes → ys ≡ xs ++ x ∷ [] → HasRoom x.args 6 handles → bytes ≤ vec_capacity x.payload → AreMade ys (count + 1) handles bytes
buffer_more xs ys x count handles bytes made is has more = subst (λ (zs : List LayerCall). AreMade zs (count + 1) handles bytes) (sym is) (record {
  count = omega (arith, length-append xs (x ∷ []), made.count);
  each = last_each xs x handles bytes made.each has more;
})

pub buffers_made : (xs : List LayerCall) (count parts handles bytes : ℕ) → AreMade xs count handles bytes → parts ≤ count → AreForms (map form_room xs) parts handles bytes
buffers_made xs count parts handles bytes made all = record { count = omega (arith, length-map xs form_room, made.count, all); each = made.each }
