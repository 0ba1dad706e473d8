-- A text that is written in pieces.
use Rattle.std.proofs.Common.{◌≡◌, ℕ, ◌+◌, ◌≤◌, min, List, [], ◌∷◌, ◌++◌, length, take, Option, ap, append_assoc, append-nil, refl, subst, sym, ◌∙◌, arith}
use Rattle.std.proofs.Math.Seq.{take-append-add}
use Rattle.std.proofs.lemmas.List.{take-append-le, take_min}
use Rattle.replay_base.specs.Bytes.{grown, GrownByFront}
use Rattle.replay_base.specs.Changes.{Change, changed}
use Rattle.replay_base.specs.Faults.{raised}
use Rattle.replay_base.proofs.Written.{grown_grown, grown_nil}
use Rattle.std.specs.Prelude.{Result, Ok, Err}
use Rattle.trace_gen.specs.declared.error.GenError.{GenError}
use Rattle.trace_gen.specs.declared.error.GenError.TheVariants.{Write, NoMemory}
use Rattle.trace_gen.specs.Writing.{Begun, Puts, Writes}
use Rattle.trace_gen.specs.declared.call.Call.{Call}
use Rattle.trace_gen.specs.Text.{call_text, calls_text}

-- two pieces, one behind the other
pub text_written : (h0 h1 h2 : Option (List ℕ)) (xs ys : List ℕ) → h1 ≡ grown h0 xs → h2 ≡ grown h1 ys → h2 ≡ grown h0 (xs ++ ys)
text_written h0 h1 h2 xs ys one two = two ∙ (ap (λ o. grown o ys) one ∙ grown_grown h0 xs ys)

-- a front of the first piece is a front of the whole
pub front_written : (old new : Option (List ℕ)) (xs ys : List ℕ) → GrownByFront old new xs → GrownByFront old new (xs ++ ys)
front_written old new xs ys front =
    let within : min front.count (length xs) ≤ length xs = omega arith in
    record { count = min front.count (length xs); front = front.front ∙ ap (grown old) (sym (take_min front.count xs) ∙ sym (take-append-le (min front.count (length xs)) xs ys within)) }

-- and so is the first piece with a front of the second
pub front_behind : (old mid new : Option (List ℕ)) (xs ys : List ℕ) → mid ≡ grown old xs → GrownByFront mid new ys → GrownByFront old new (xs ++ ys)
front_behind old mid new xs ys before front =
    record { count = length xs + front.count; front = front.front ∙ (ap (λ o. grown o (take front.count ys)) before ∙ (grown_grown _ _ _ ∙ ap (grown old) (sym (take-append-add xs ys front.count)))) }

-- a piece that was written, and then another
pub puts_both : (xs ys : List ℕ) (h0 h1 h2 : Option (List ℕ)) (f0 f1 f2 : ℕ) (result : Result (Unit {0}) GenError) → h1 ≡ grown h0 xs → f1 ≡ f0 → Puts ys (changed h1 h2 f1 f2) result → Puts (xs ++ ys) (changed h0 h2 f0 f2) result
puts_both xs ys h0 h1 h2 f0 f1 f2 (Ok done) gained stood puts = (text_written h0 h1 h2 xs ys gained puts.0, puts.1 ∙ stood)
puts_both xs ys h0 h1 h2 f0 f1 f2 (Err Write) gained stood puts = (front_behind h0 h1 h2 xs ys gained puts.0, puts.1 ∙ ap raised stood)
puts_both xs ys h0 h1 h2 f0 f1 f2 (Err NoMemory) gained stood puts = puts

-- a piece that failed, before another
pub puts_first : (xs ys : List ℕ) (c : Change) (e : GenError) → Puts xs c (Err e) → Puts (xs ++ ys) c (Err e)
puts_first xs ys c Write puts = (front_written c.old c.new xs ys puts.0, puts.1)
puts_first xs ys c NoMemory puts = puts

-- ---- calls, one behind the other

-- nothing was written
pub begun_with : (text : List ℕ) (held : Option (List ℕ)) (faults : ℕ) → Begun text text (changed held held faults faults)
begun_with text held faults = record { done = []; whole = refl; gained = sym (grown_nil held); stood = refl }

-- a call was written
pub begun_more : (text : List ℕ) (calls more : List Call) (call : Call) (h0 h1 h2 : Option (List ℕ)) (f0 f1 f2 : ℕ) → Begun text (calls_text calls) (changed h0 h1 f0 f1) → calls ≡ call ∷ more → h2 ≡ grown h1 (call_text call) → f2 ≡ f1 → Begun text (calls_text more) (changed h0 h2 f0 f2)
begun_more text calls more call h0 h1 h2 f0 f1 f2 begun is gained stood =
    record {
      done = begun.done ++ call_text call;
      whole = begun.whole ∙ (ap (λ cs. begun.done ++ calls_text cs) is ∙ sym (append_assoc begun.done (call_text call) (calls_text more)));
      gained = text_written h0 h1 h2 begun.done (call_text call) begun.gained gained;
      stood = stood ∙ begun.stood;
    }

-- a call failed
pub begun_cut : (text : List ℕ) (calls more : List Call) (call : Call) (h0 h1 h2 : Option (List ℕ)) (f0 f1 f2 : ℕ) (e : GenError) → Begun text (calls_text calls) (changed h0 h1 f0 f1) → calls ≡ call ∷ more → Puts (call_text call) (changed h1 h2 f1 f2) (Err e) → Puts text (changed h0 h2 f0 f2) (Err e)
begun_cut text calls more call h0 h1 h2 f0 f1 f2 e begun is puts =
    let rest = puts_first (call_text call) (calls_text more) (changed h1 h2 f1 f2) e puts in
    subst (λ (t : List ℕ). Puts t (changed h0 h2 f0 f2) (Err e)) (sym (begun.whole ∙ ap (λ cs. begun.done ++ calls_text cs) is))
    (puts_both begun.done (call_text call ++ calls_text more) h0 h1 h2 f0 f1 f2 (Err e) begun.gained begun.stood rest)

-- all calls were written
pub begun_all : (text : List ℕ) (calls : List Call) (c : Change) (done : Unit {0}) → Begun text (calls_text calls) c → calls ≡ [] → Puts text c (Ok done)
begun_all text calls c done begun is =
    let whole : text ≡ begun.done = begun.whole ∙ (ap (λ cs. begun.done ++ calls_text cs) is ∙ append-nil begun.done) in
    (begun.gained ∙ ap (grown c.old) (sym whole), begun.stood)

-- what was put was written
pub writes_puts : (text : List ℕ) (c : Change) (result : Result (Unit {0}) GenError) → Puts text c result → Writes text c result
writes_puts text c (Ok done) puts = puts
writes_puts text c (Err Write) puts = puts
writes_puts text c (Err NoMemory) puts = absurd puts
