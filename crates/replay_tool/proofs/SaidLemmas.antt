-- A line that is written in pieces.
use Rattle.std.proofs.Common.{◌≡◌, ℕ, ◌+◌, ◌≤◌, min, List, ◌++◌, length, take, Option, ap, sym, ◌∙◌, arith, inl, inr}
use Rattle.std.proofs.Math.Seq.{take-append-add}
use Rattle.std.proofs.lemmas.List.{take-append-le, take_min}
use Rattle.replay_base.specs.Bytes.{grown, GrownByFront}
use Rattle.replay_base.specs.Changes.{changed}
use Rattle.replay_base.specs.Faults.{raised}
use Rattle.replay_base.proofs.Written.{grown_grown}
use Rattle.replay_tool.specs.Said.{Said}

-- two pieces, one behind the other
pub all_of_both : (h0 h1 h2 : Option (List ℕ)) (xs ys : List ℕ) → h1 ≡ grown h0 xs → h2 ≡ grown h1 ys → h2 ≡ grown h0 (xs ++ ys)
all_of_both h0 h1 h2 xs ys one two = two ∙ (ap (λ o. grown o ys) one ∙ grown_grown h0 xs ys)

-- a front of the first piece is a front of the whole
pub front_more : (old new : Option (List ℕ)) (xs ys : List ℕ) → GrownByFront old new xs → GrownByFront old new (xs ++ ys)
front_more old new xs ys front =
    let within : min front.count (length xs) ≤ length xs = omega arith in
    record { count = min front.count (length xs); front = front.front ∙ ap (grown old) (sym (take_min front.count xs) ∙ sym (take-append-le (min front.count (length xs)) xs ys within)) }

-- and so is the first piece with a front of the second
pub front_behind : (old mid new : Option (List ℕ)) (xs ys : List ℕ) → mid ≡ grown old xs → GrownByFront mid new ys → GrownByFront old new (xs ++ ys)
front_behind old mid new xs ys before front =
    record { count = length xs + front.count; front = front.front ∙ (ap (λ o. grown o (take front.count ys)) before ∙ (grown_grown _ _ _ ∙ ap (grown old) (sym (take-append-add xs ys front.count)))) }

-- the sink failed in the first piece
pub said_cut : (xs ys : List ℕ) (h0 h1 : Option (List ℕ)) (f0 f1 : ℕ) → f1 ≡ raised f0 → GrownByFront h0 h1 xs → Said (xs ++ ys) (changed h0 h1 f0 f1)
said_cut xs ys h0 h1 f0 f1 failed front = inr (record { failed = failed; front = front_more h0 h1 xs ys front })

-- the first piece stands, and the second was said
pub said_behind : (xs ys : List ℕ) (h0 h1 h2 : Option (List ℕ)) (f0 f1 f2 : ℕ) → h1 ≡ grown h0 xs → f1 ≡ f0 → Said ys (changed h1 h2 f1 f2) → Said (xs ++ ys) (changed h0 h2 f0 f2)
said_behind xs ys h0 h1 h2 f0 f1 f2 all stood (inl said) = inl (record { stood = said.stood ∙ stood; gained = all_of_both h0 h1 h2 xs ys all said.gained })
said_behind xs ys h0 h1 h2 f0 f1 f2 all stood (inr cut) = inr (record { failed = cut.failed ∙ ap raised stood; front = front_behind h0 h1 h2 xs ys all cut.front })
