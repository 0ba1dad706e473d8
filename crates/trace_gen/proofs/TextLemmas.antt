-- The lines of calls, by computation.
use Rattle.std.proofs.Common.{◌≡◌, ◌≤◌, ◌∙◌, ◌++◌, ◌∷◌, [], ℕ, List, length, drop, append_assoc, append-nil, codes, decimal, ap, sym, refl}
use Rattle.std.specs.Fmt.{digits}
use Rattle.std.proofs.lemmas.List.{drop_all}
use Rattle.command_tables.specs.Table.{row_of}
use Rattle.trace_format.specs.Content.{Return}
use Rattle.trace_gen.specs.declared.call.Call.{Call}
use Rattle.trace_gen.specs.declared.call.Call.TheVariants as call
use Rattle.trace_gen.specs.Text.{begin_of, call_text, calls_text, event_line}

pub creates_instance : event_line (begin_of call.CreateInstance) ≡ codes "b 1 vkCreateInstance = %1.1 VK_SUCCESS\n"
unfolding digits row_of
creates_instance = refl

pub enumerates : event_line (begin_of call.EnumeratePhysicalDevices) ≡ codes "b 1 vkEnumeratePhysicalDevices %1.1 = %1.2 VK_SUCCESS\n"
unfolding digits row_of
enumerates = refl

pub creates_device : event_line (begin_of call.CreateDevice) ≡ codes "b 1 vkCreateDevice %1.2 = %1.3 VK_SUCCESS\n"
unfolding digits row_of
creates_device = refl

pub creates_buffer : (n : ℕ) → event_line (begin_of (call.CreateBuffer n)) ≡ codes "b 1 vkCreateBuffer %1.3 = %1." ++ (decimal n ++ codes " VK_SUCCESS\n")
unfolding digits row_of
creates_buffer n = ap (λ t. codes "b 1 vkCreateBuffer %1.3 = %1." ++ t) (append_assoc (decimal n) (codes " VK_SUCCESS") (codes "\n"))

pub asks_buffer : (n : ℕ) → event_line (begin_of (call.GetBufferMemoryRequirements n)) ≡ codes "b 1 vkGetBufferMemoryRequirements %1.3 %1." ++ (decimal n ++ codes " void\n")
unfolding digits row_of
asks_buffer n = ap (λ t. codes "b 1 vkGetBufferMemoryRequirements %1.3 %1." ++ t) (ap (λ t. (t ++ codes " void") ++ codes "\n") (append-nil (decimal n)) ∙ append_assoc (decimal n) (codes " void") (codes "\n"))

pub destroys_buffer : (n : ℕ) → event_line (begin_of (call.DestroyBuffer n)) ≡ codes "b 1 vkDestroyBuffer %1.3 %1." ++ (decimal n ++ codes " void\n")
unfolding digits row_of
destroys_buffer n = ap (λ t. codes "b 1 vkDestroyBuffer %1.3 %1." ++ t) (ap (λ t. (t ++ codes " void") ++ codes "\n") (append-nil (decimal n)) ∙ append_assoc (decimal n) (codes " void") (codes "\n"))

pub destroys_device : event_line (begin_of call.DestroyDevice) ≡ codes "b 1 vkDestroyDevice %1.3 void\n"
unfolding digits row_of
destroys_device = refl

pub destroys_instance : event_line (begin_of call.DestroyInstance) ≡ codes "b 1 vkDestroyInstance %1.1 void\n"
unfolding digits row_of
destroys_instance = refl

pub returns : event_line (Return 1) ≡ codes "r 1\n"
unfolding digits
returns = refl

-- what was put is the line of a call
pub is_line_of : (old new text : List ℕ) (seen of : Call) → seen ≡ of → event_line (begin_of of) ≡ text → new ≡ old ++ text → new ≡ old ++ event_line (begin_of seen)
is_line_of old new text seen of is line put = put ∙ ap (λ t. old ++ t) (sym line ∙ ap (λ call. event_line (begin_of call)) (sym is))

-- the lines of a call were made
call_made : (cleared begun made : List ℕ) (call : Call) → cleared ≡ [] → begun ≡ cleared ++ event_line (begin_of call) → made ≡ begun ++ codes "r 1\n" → made ≡ call_text call
call_made cleared begun made call none first second =
    let begin : begun ≡ event_line (begin_of call) = first ∙ ap (λ t. t ++ event_line (begin_of call)) none in
    second ∙ (ap (λ t. t ++ codes "r 1\n") begin ∙ ap (λ t. event_line (begin_of call) ++ t) (sym returns))

-- so they stand before the lines of the calls to come
pub made_more : (given cleared begun made : List ℕ) (at : ℕ) (calls more : List Call) (call : Call) → length given ≤ at → cleared ≡ [] → begun ≡ cleared ++ event_line (begin_of call) → made ≡ begun ++ codes "r 1\n" → calls ≡ call ∷ more → made ++ calls_text more ≡ drop at given ++ calls_text calls
made_more given cleared begun made at calls more call whole none first second is =
    let rest : drop at given ≡ [] = drop_all at given whole in
    let text : made ≡ call_text call = call_made cleared begun made call none first second in
    ap (λ t. t ++ calls_text more) text ∙ (ap calls_text (sym is) ∙ ap (λ t. t ++ calls_text calls) (sym rest))
