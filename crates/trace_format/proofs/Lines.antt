-- A line is read just as its event is spelled.
use Rattle.std.proofs.Common.{◌≡◌, ◌<◌, ◌↔◌, ℕ, nat_le, not, zero, suc, Bool, true, false, cond, Option, Some, None, Result, Ok, Err, IsErr, is_some, Contains, get_or, arith, List, [], ◌∷◌, ◌++◌, map, length, refl, sym, ap, ◌∙◌, subst, codes, decimal, lit<}
use Rattle.std.proofs.lemmas.Bool.{and_parts, leb-true, ne_eqb}
use Rattle.std.specs.Option.{ok_or}
use Rattle.std.specs.List.{AllByRecursion, list_all}
use Rattle.command_tables.specs.declared.types.CommandId.{CommandId}
use Rattle.command_tables.specs.declared.types.Code.{Code}
use Rattle.command_tables.specs.Table.{ParamSpec, row_of}
use Rattle.trace_format.specs.declared.event.Name.{Name}
use Rattle.trace_format.specs.declared.fault.TraceFault.{TraceFault}
use Rattle.trace_format.specs.declared.fault.TraceFault.TheVariants as fault
use Rattle.trace_format.specs.Content.{Arg, BeginEvent, TraceEvent, Begin, Return}
use Rattle.trace_format.specs.Grammar.{FitParams, IsBegin, IsEvent, IsName, IsOne, Spells, arg_text, args_text, code_text, is_printable, name_text, one_text, payload_text, results_text, spelling, tail_text, takes}
use Rattle.trace_format.specs.Words.{after, command_of, from, thread_of, until}
use Rattle.trace_format.specs.Reading.{◌>>=◌, args_in, begin_at, by_letter, code_at, ending_at, payload_at, read_line, results_at, return_at, tail_at, words_at}
use Rattle.trace_format.proofs.Texts.{AtEnd, Each, after_is, each, each_all, each_append, each_right, each_weaker, from_append, is_not, until_append, until_from}
use Rattle.trace_format.proofs.Names.{digit_no_space, digit_prints, name_each, number_each, number_reader, one_each}
use Rattle.trace_format.proofs.Lists.{all_texts, arg_each, each_join}
use Rattle.trace_format.proofs.Parts.{args_in_complete, args_read, code_at_complete, code_is_no_result, code_prints, code_read, command_complete, command_lacks_space, command_prints, command_sound, payload_at_end, payload_complete, payload_sound, results_complete, results_read, words_complete}

-- a reading that had no fault and went on
pub record WentOn {A B : Type 0} (m : Option A) (f : A → Result B TraceFault) (y : B) : Type 0 where
  pub value : A
  pub read : m ≡ Some value
  pub gave : f value ≡ Ok y

-- a reading that had no fault went on from something
went_on : {A B : Type 0} (m : Option A) (e : TraceFault) (f : A → Result B TraceFault) (y : B) → (ok_or m e >>= f) ≡ Ok y → WentOn m f y
went_on None e f y h = cc
went_on (Some x) e f y h = record { value = x; read = refl; gave = h }

-- ---- reading what is spelled

-- what follows the arguments
abbrev ending_text : BeginEvent → List ℕ
ending_text b = results_text b.results ++ (codes " " ++ (code_text b.code ++ payload_text b.payload))

-- results, code and payload are read as they are spelled
ending_complete : (b : BeginEvent) → IsBegin b → ending_at b.thread b.cmd b.args (ending_text b) ≡ Ok (Begin b)
unfolding ending_at
ending_complete b v =
    rw (
      results_complete (row_of b.cmd).effect b.results (codes " " ++ (code_text b.code ++ payload_text b.payload)) v.results v.names refl (code_is_no_result b.code (payload_text b.payload)),
      code_at_complete (row_of b.cmd) b.code (payload_text b.payload) v.code (payload_at_end b.payload),
      payload_complete b.payload,
    ) refl

-- what follows the arguments begins with a space
ending_at_end : (ns : List Name) (rest : List ℕ) → AtEnd 32 (results_text ns ++ (codes " " ++ rest))
ending_at_end [] rest = refl
ending_at_end (n ∷ ns) rest = refl

-- so do the arguments, where there are any
args_end : (args : List Arg) (rest : List ℕ) → AtEnd 32 rest → AtEnd 32 (args_text args ++ rest)
args_end [] rest end = end
args_end (a ∷ args) rest end = refl

-- what follows a command is read as it is spelled
tail_complete : (b : BeginEvent) → IsBegin b → tail_at b.thread b.cmd (tail_text b) ≡ Ok (Begin b)
unfolding tail_at
tail_complete b v =
    rw (
      words_complete (row_of b.cmd).params b.args (ending_text b) v.args (ending_at_end b.results (code_text b.code ++ payload_text b.payload)),
      args_in_complete (row_of b.cmd).params b.args v.args v.first,
      ending_complete b v,
    ) refl

-- a begin is read as it is spelled
begin_complete : (b : BeginEvent) → IsBegin b → begin_at (decimal b.thread ++ (codes " " ++ ((row_of b.cmd).name ++ tail_text b))) ≡ Ok (Begin b)
unfolding begin_at
begin_complete b v =
    let thread = number_each (is_not 32) digit_no_space 1024 b.thread (lit< tt) v.thread in
    let rest : List ℕ = codes " " ++ ((row_of b.cmd).name ++ tail_text b) in
    let end : AtEnd 32 (tail_text b) = args_end b.args (ending_text b) (ending_at_end b.results (code_text b.code ++ payload_text b.payload)) in
    rw (
      until_append 32 (decimal b.thread) rest thread refl,
      from_append 32 (decimal b.thread) rest thread refl,
      (number_reader 1024 (lit< tt)).complete b.thread v.thread,
      until_append 32 (row_of b.cmd).name (tail_text b) (command_lacks_space b.cmd) end,
      from_append 32 (row_of b.cmd).name (tail_text b) (command_lacks_space b.cmd) end,
      command_complete b.cmd,
      tail_complete b v,
    ) refl

-- a return is read as it is spelled
return_complete : (thread : ℕ) → IsEvent (Return thread) → return_at (decimal thread) ≡ Ok (Return thread)
unfolding return_at
return_complete thread v = rw ((number_reader 1024 (lit< tt)).complete thread v) refl

-- ---- spellings can be printed

-- names can be printed
name_prints : (n : Name) → IsName n → Each is_printable (name_text n)
name_prints n v = name_each is_printable digit_prints refl refl n v

-- places can be printed
one_prints : (o : Option Name) → IsOne o → Each is_printable (one_text o)
one_prints o v = one_each is_printable name_prints (each is_printable (codes "null") refl) o v

-- arguments can be printed
args_print : (ps : List ParamSpec) (args : List Arg) → FitParams ps args → Each is_printable (args_text args)
args_print [] [] v = tt
args_print [] (a ∷ args) v = absurd v
args_print (p ∷ ps) [] v = absurd v
args_print (p ∷ ps) (a ∷ args) v = (refl, each_append is_printable (arg_text a) (args_text args) (arg_each is_printable one_prints refl refl refl p.many a v.0) (args_print ps args v.1))

-- results can be printed
results_print : (ns : List Name) → AllByRecursion IsName ns → Each is_printable (results_text ns)
results_print [] v = tt
results_print (n ∷ ns) v = (refl, (refl, (refl, each_join is_printable refl (map name_text (n ∷ ns)) (all_texts IsName name_text is_printable name_prints (n ∷ ns) v))))

-- payloads can be printed
payload_prints : (p : List ℕ) → AllByRecursion (λ c. is_printable c ≡ true) p → Each is_printable (payload_text p)
payload_prints [] v = tt
payload_prints (b ∷ bytes) v = (refl, (refl, (refl, v)))

-- what follows a command can be printed
tail_prints : (b : BeginEvent) → IsBegin b → Each is_printable (tail_text b)
tail_prints b v =
    each_append is_printable (args_text b.args) (ending_text b) (args_print (row_of b.cmd).params b.args v.args)
    (each_append is_printable (results_text b.results) (codes " " ++ (code_text b.code ++ payload_text b.payload)) (results_print b.results v.names)
    (refl, each_append is_printable (code_text b.code) (payload_text b.payload) (code_prints b.code) (payload_prints b.payload v.payload)))

-- threads can be printed
thread_prints : (thread : ℕ) → IsEvent (Return thread) → Each is_printable (decimal thread)
thread_prints thread v = number_each is_printable digit_prints 1024 thread (lit< tt) v

-- a spelling can be printed
pub spelling_prints : (e : TraceEvent) → IsEvent e → Each is_printable (spelling e)
spelling_prints (Return thread) v = (refl, (refl, thread_prints thread v))
spelling_prints (Begin b) v = (
  refl,
  (
    refl,
    each_append is_printable (decimal b.thread) (codes " " ++ ((row_of b.cmd).name ++ tail_text b)) (thread_prints b.thread v.thread)
        (refl, each_append is_printable (row_of b.cmd).name (tail_text b) (command_prints b.cmd) (tail_prints b v)),
  ),
)

-- a spelling is read by its first letter
by_letter_complete : (e : TraceEvent) → IsEvent e → by_letter (after (codes "b ") (spelling e)) (after (codes "r ") (spelling e)) ≡ Ok e
by_letter_complete (Return thread) v = return_complete thread v
by_letter_complete (Begin b) v = begin_complete b v

-- what is spelled is read
pub read_spelled : (line : List ℕ) (e : TraceEvent) → Spells line e → read_line line ≡ Ok e
unfolding read_line
read_spelled line e s =
    let prints : list_all is_printable (spelling e) ≡ true = each_all is_printable (spelling e) (spelling_prints e s.event) in
    rw (s.text, prints) (by_letter_complete e s.event)

-- ---- what is read is spelled so

-- results, code and payload that were read
record EndingRead (thread : ℕ) (cmd : CommandId) (args : List Arg) (bytes : List ℕ) (e : TraceEvent) : Type 0 where
  results : List Name
  code : Option Code
  payload : List ℕ
  is : Begin (record { thread = thread; cmd = cmd; args = args; results = results; code = code; payload = payload }) ≡ e
  taken : takes (row_of cmd).effect (length results) ≡ true
  names : AllByRecursion IsName results
  there : is_some code ≡ (row_of cmd).returns
  text : bytes ≡ results_text results ++ (codes " " ++ (code_text code ++ payload_text payload))

-- results, code and payload that were read are spelled so
ending_read : (thread : ℕ) (cmd : CommandId) (args : List Arg) (bytes : List ℕ) (e : TraceEvent) → ending_at thread cmd args bytes ≡ Ok e → EndingRead thread cmd args bytes e
unfolding ending_at
ending_read thread cmd args bytes e h =
    let r = went_on (results_at (row_of cmd).effect bytes) fault.Results
    (λ (results : List Name × List ℕ). ok_or (code_at (row_of cmd) results.1) fault.Code
    >>= (λ (code : Option Code × List ℕ). ok_or (payload_at code.1) fault.Code
    >>= (λ (payload : List ℕ). Ok (Begin (record { thread = thread; cmd = cmd; args = args; results = results.0; code = code.0; payload = payload })))))
    e h in
    let c = went_on (code_at (row_of cmd) r.value.1) fault.Code
    (λ (code : Option Code × List ℕ). ok_or (payload_at code.1) fault.Code
    >>= (λ (payload : List ℕ). Ok (Begin (record { thread = thread; cmd = cmd; args = args; results = r.value.0; code = code.0; payload = payload }))))
    e r.gave in
    let p = went_on (payload_at c.value.1) fault.Code (λ (payload : List ℕ). Ok (Begin (record { thread = thread; cmd = cmd; args = args; results = r.value.0; code = c.value.0; payload = payload }))) e c.gave in
    let results = results_read (row_of cmd).effect bytes r.value r.read in
    let code = code_read (row_of cmd) r.value.1 c.value c.read in
    let payload = payload_sound c.value.1 p.value p.read in
    record {
      results = r.value.0;
      code = c.value.0;
      payload = p.value;
      is = cc;
      taken = results.takes_them;
      names = results.names;
      there = code.there;
      text = results.text ∙ ap (λ w. results_text r.value.0 ++ w) (code.text ∙ ap (λ w. codes " " ++ (code_text c.value.0 ++ w)) payload);
    }

-- the begin that was read
record BeginRead (bytes : List ℕ) (e : TraceEvent) : Type 0 where
  begin : BeginEvent
  is : Begin begin ≡ e
  event : AllByRecursion (λ c. is_printable c ≡ true) begin.payload → IsBegin begin
  text : bytes ≡ decimal begin.thread ++ (codes " " ++ ((row_of begin.cmd).name ++ tail_text begin))

-- a begin that was read is spelled so
begin_read : (bytes : List ℕ) (e : TraceEvent) → begin_at bytes ≡ Ok e → BeginRead bytes e
unfolding begin_at tail_at
begin_read bytes e h =
    let t = went_on (thread_of (until 32 bytes)) fault.Thread
    (λ thread. ok_or (after (codes " ") (from 32 bytes)) fault.Thread >>= (λ rest. ok_or (command_of (until 32 rest)) fault.Command >>= (λ cmd. tail_at thread cmd (from 32 rest)))) e h in
    let s = went_on (after (codes " ") (from 32 bytes)) fault.Thread (λ rest. ok_or (command_of (until 32 rest)) fault.Command >>= (λ cmd. tail_at t.value cmd (from 32 rest))) e t.gave in
    let c = went_on (command_of (until 32 s.value)) fault.Command (λ cmd. tail_at t.value cmd (from 32 s.value)) e s.gave in
    let w = went_on (words_at (row_of c.value).params (from 32 s.value)) fault.Parameter
    (λ (words : List (List ℕ) × List ℕ). ok_or (args_in (row_of c.value).params words.0) fault.Argument >>= (λ args. ending_at t.value c.value args words.1)) e c.gave in
    let a = went_on (args_in (row_of c.value).params w.value.0) fault.Argument (λ args. ending_at t.value c.value args w.value.1) e w.gave in
    let thread = (number_reader 1024 (lit< tt)).sound (until 32 bytes) t.value t.read in
    let args = args_read (row_of c.value).params (from 32 s.value) w.value a.value w.read a.read in
    let end = ending_read t.value c.value a.value w.value.1 e a.gave in
    let tail : from 32 s.value ≡ args_text a.value ++ (results_text end.results ++ (codes " " ++ (code_text end.code ++ payload_text end.payload))) = args.text ∙ ap (λ r. args_text a.value ++ r) end.text in
    let rest : s.value ≡ (row_of c.value).name ++ (args_text a.value ++ (results_text end.results ++ (codes " " ++ (code_text end.code ++ payload_text end.payload)))) =
    until_from 32 s.value ∙ (ap (λ r. r ++ from 32 s.value) (command_sound (until 32 s.value) c.value c.read) ∙ ap (λ r. (row_of c.value).name ++ r) tail) in
    record {
      begin = record { thread = t.value; cmd = c.value; args = a.value; results = end.results; code = end.code; payload = end.payload };
      is = end.is;
      event = λ prints. record { thread = thread.0; args = args.fit; first = args.first; results = end.taken; names = end.names; code = end.there; payload = prints };
      text = until_from 32 bytes ∙ (ap (λ r. r ++ from 32 bytes) thread.1 ∙ ap (λ r. decimal t.value ++ r) (after_is (codes " ") (from 32 bytes) s.value s.read ∙ ap (λ r. codes " " ++ r) rest));
    }

-- the payload of a line of printable bytes is one of printable bytes
payload_of_text : (p : List ℕ) → Each is_printable (payload_text p) → AllByRecursion (λ c. is_printable c ≡ true) p
payload_of_text [] h = tt
payload_of_text (b ∷ bytes) h = h.1.1.1

-- the payload of a printable line is printable
payload_of_line : (b : BeginEvent) → Each is_printable (spelling (Begin b)) → AllByRecursion (λ c. is_printable c ≡ true) b.payload
payload_of_line b h =
    let thread = each_right is_printable (decimal b.thread) (codes " " ++ ((row_of b.cmd).name ++ tail_text b)) h.1.1 in
    let name = each_right is_printable (row_of b.cmd).name (tail_text b) thread.1 in
    let args = each_right is_printable (args_text b.args) (ending_text b) name in
    let results = each_right is_printable (results_text b.results) (codes " " ++ (code_text b.code ++ payload_text b.payload)) args in
    payload_of_text b.payload (each_right is_printable (code_text b.code) (payload_text b.payload) results.1)

-- a line that is read as a begin spells it
begin_spelled : (line rest : List ℕ) (e : TraceEvent) → Each is_printable line → after (codes "b ") line ≡ Some rest → begin_at rest ≡ Ok e → Spells line e
begin_spelled line rest e prints is h =
    let b = begin_read rest e h in
    let text : line ≡ spelling (Begin b.begin) = after_is (codes "b ") line rest is ∙ ap (λ r. codes "b " ++ r) b.text in
    let payload = payload_of_line b.begin (subst (λ l. Each is_printable l) text prints) in
    subst (λ f. Spells line f) b.is (record { event = b.event payload; text = text })

-- a line that is read as a return spells it
return_spelled : (line rest : List ℕ) (e : TraceEvent) → after (codes "r ") line ≡ Some rest → return_at rest ≡ Ok e → Spells line e
unfolding return_at
return_spelled line rest e is h =
    let t = went_on (thread_of rest) fault.Thread (λ thread. Ok (Return thread)) e h in
    let s = (number_reader 1024 (lit< tt)).sound rest t.value t.read in
    let e_is : Return t.value ≡ e = cc in
    subst (λ f. Spells line f) e_is (record { event = s.0; text = after_is (codes "r ") line rest is ∙ ap (λ r. codes "r " ++ r) s.1 })

-- what is read is spelled so
pub spelled_read : (line : List ℕ) (e : TraceEvent) → read_line line ≡ Ok e → Spells line e
unfolding read_line
spelled_read line e h = go (list_all is_printable line) (each is_printable line) h
  where
    letter : (b r : Option (List ℕ)) → Each is_printable line → after (codes "b ") line ≡ b → after (codes "r ") line ≡ r → by_letter b r ≡ Ok e → Spells line e
    letter (Some rest) r prints is other k = begin_spelled line rest e prints is k
    letter None (Some rest) prints other is k = return_spelled line rest e is k
    letter None None prints other none k = cc

    go : (t : Bool) → (t ≡ true → Each is_printable line) → cond t (by_letter (after (codes "b ") line) (after (codes "r ") line)) (Err fault.NotAscii) ≡ Ok e → Spells line e
    go true prints k = letter (after (codes "b ") line) (after (codes "r ") line) (prints refl) refl refl k
    go false prints k = cc

-- ---- laws

-- what is read is no fault
no_fault : (r : Result TraceEvent TraceFault) (e : TraceEvent) → r ≡ Ok e → IsErr r → ⊥
no_fault (Ok x) e h f = cc
no_fault (Err x) e h f = cc

-- a line that has a fault spells nothing
faultless : (line : List ℕ) → IsErr (read_line line) → (e : TraceEvent) → Spells line e → ⊥
faultless line h e s = no_fault (read_line line) e (read_spelled line e s) h

-- a line that spells nothing has a fault
faulty : (line : List ℕ) → ((e : TraceEvent) → Spells line e → ⊥) → IsErr (read_line line)
faulty line none = go (read_line line) (λ e h. none e (spelled_read line e h))
  where
    go : (r : Result TraceEvent TraceFault) → ((e : TraceEvent) → r ≡ Ok e → ⊥) → IsErr r
    go (Ok e) h = absurd (h e refl)
    go (Err e) h = refl

-- a line has a fault exactly where it spells nothing
pub faults_agree : (line : List ℕ) → IsErr (read_line line) ↔ ((e : TraceEvent) → Spells line e → ⊥)
faults_agree line = (faultless line, faulty line)

-- a line spells one event at most
pub one_event : (line : List ℕ) (e other : TraceEvent) → Spells line e → Spells line other → e ≡ other
one_event line e other s t = let a = read_spelled line e s in let b = read_spelled line other t in cc

-- a byte among others passes their test
each_at : (p : ℕ → Bool) (bytes : List ℕ) (k x : ℕ) → Each p bytes → k < length bytes → p (get_or bytes k x) ≡ true
each_at p [] k x h l = absurd (omega arith)
each_at p (b ∷ bytes) zero x h l = h.0
each_at p (b ∷ bytes) (suc k) x h l = let m : k < length bytes = omega arith in each_at p bytes k x h.1 m

-- no spelling holds a line feed
pub no_line_feed : (line : List ℕ) (e : TraceEvent) → Spells line e → Contains line 10 → ⊥
no_line_feed line e s has =
    let prints : Each is_printable line = subst (λ l. Each is_printable l) (sym s.text) (spelling_prints e s.event) in
    let at : is_printable (get_or line has.0 10) ≡ true = each_at is_printable line has.0 10 prints has.1 in
    let ten : is_printable 10 ≡ true = rw has.2 at at in
    cc

-- a printable byte is no line feed
prints_on : (b : ℕ) → is_printable b ≡ true → is_not 10 b ≡ true
prints_on b h = let low = leb-true 32 b (and_parts (nat_le 32 b) (nat_le b 126) h).0 in ap not (ne_eqb b 10 (λ e. omega arith))

-- a spelling ends before the line feed behind it
lacks_feed : (e : TraceEvent) → IsEvent e → Each (is_not 10) (spelling e)
lacks_feed e event = each_weaker is_printable (is_not 10) prints_on (spelling e) (spelling_prints e event)

-- so it is the line up to there
pub printed_line : (e : TraceEvent) (rest : List ℕ) → IsEvent e → until 10 (spelling e ++ 10 ∷ rest) ≡ spelling e
printed_line e rest event = until_append 10 (spelling e) (10 ∷ rest) (lacks_feed e event) refl

-- behind which the line feed and the rest stand
pub printed_rest : (e : TraceEvent) (rest : List ℕ) → IsEvent e → from 10 (spelling e ++ 10 ∷ rest) ≡ 10 ∷ rest
printed_rest e rest event = from_append 10 (spelling e) (10 ∷ rest) (lacks_feed e event) refl

-- and it is read again
pub printed_event : (e : TraceEvent) → IsEvent e → read_line (spelling e) ≡ Ok e
printed_event e event = read_spelled (spelling e) e (record { event = event; text = refl })
