-- The copy of a list of parts, part by part.
use Rattle.std.proofs.Common.{◌≡◌, ◌<◌, ◌≤◌, ℕ, ◌+◌, List, [], ◌∷◌, ◌++◌, map, length, take, get_or, ap, sym, ◌∙◌}
use Rattle.std.proofs.lemmas.List.{map-append, take_all, take_more}
use Rattle.dispatch_chain.specs.declared.part.Part.{Part}
use Rattle.dispatch_chain.specs.Seats.{seat_of, state_of}

-- what is seen of one part more
part_more : {X : Type 0} (seen : Part → X) (parts copies next : List Part) (i : ℕ) (d copy : Part) → i < length parts → map seen copies ≡ map seen (take i parts) → seen copy ≡ seen (get_or parts i d) → next ≡ copies ++ copy ∷ []
    → map seen next ≡ map seen (take (i + 1) parts)
part_more seen parts copies next i d copy less so_far one is =
    ap (λ (ps : List Part). map seen ps) is
    ∙ (map-append seen copies (copy ∷ [])
    ∙ (ap (λ xs. xs ++ seen copy ∷ []) so_far
    ∙ (ap (λ x. map seen (take i parts) ++ x ∷ []) one
    ∙ (sym (map-append seen (take i parts) (get_or parts i d ∷ [])) ∙ ap (λ (ps : List Part). map seen ps) (sym (take_more parts i d less))))))

-- what it keeps
pub states_more : (parts copies next : List Part) (i : ℕ) (d copy : Part) → i < length parts → map state_of copies ≡ map state_of (take i parts) → state_of copy ≡ state_of (get_or parts i d) → next ≡ copies ++ copy ∷ []
    → map state_of next ≡ map state_of (take (i + 1) parts)
states_more parts copies next i d copy less so_far one is = part_more state_of parts copies next i d copy less so_far one is

-- its seat
pub seats_more : (parts copies next : List Part) (i : ℕ) (d copy : Part) → i < length parts → map seat_of copies ≡ map seat_of (take i parts) → seat_of copy ≡ seat_of (get_or parts i d) → next ≡ copies ++ copy ∷ []
    → map seat_of next ≡ map seat_of (take (i + 1) parts)
seats_more parts copies next i d copy less so_far one is = part_more seat_of parts copies next i d copy less so_far one is

-- past all parts
pub states_all : (parts copies : List Part) (i : ℕ) → length parts ≤ i → map state_of copies ≡ map state_of (take i parts) → map state_of copies ≡ map state_of parts
states_all parts copies i low is = is ∙ ap (λ (ps : List Part). map state_of ps) (take_all i parts low)

pub seats_all : (parts copies : List Part) (i : ℕ) → length parts ≤ i → map seat_of copies ≡ map seat_of (take i parts) → map seat_of copies ≡ map seat_of parts
seats_all parts copies i low is = is ∙ ap (λ (ps : List Part). map seat_of ps) (take_all i parts low)
