-- Words that can't be read: no driver is prepared, and a tree is as it was.
use Rattle.std.proofs.Common.{◌≡◌, Option, refl, sym, subst, inr}
use Rattle.std.specs.Prelude.{Some, None}
use Rattle.model_driver.specs.declared.driver.Policy.{Policy}
use Rattle.program_words.specs.Asked.{Asked, AsksChain, AsksGen, AsksRun, AsksSoak}
use Rattle.program_words.specs.declared.read.WordsError.{WordsError}
use Rattle.program_words.specs.declared.read.WordsError.TheVariants as words
use Rattle.replay_core.specs.declared.status.Status.{Status}
use Rattle.replay_core.specs.declared.status.Status.TheVariants as status
use Rattle.replay_tool.specs.Outcome.{IsLeftBy, IsPrepared}
use Rattle.replay_tool.specs.Statuses.{words_status}

-- the driver answers as before
pub prepared_refused : (asked : Option Asked) (e : WordsError) (s : Status) (p : Option Policy) → (e ≡ words.Usage → asked ≡ None) → s ≡ words_status e → IsPrepared asked s p p
prepared_refused asked e s p usage is = subst (λ (t : Status). IsPrepared asked t p p) (sym is) (go e usage)
  where
    no_memory : (o : Option Asked) → IsPrepared o status.NoMemory p p
    no_memory None = refl
    no_memory (Some (AsksRun asked)) = inr (refl, refl)
    no_memory (Some (AsksChain asked)) = refl
    no_memory (Some (AsksGen made)) = refl
    no_memory (Some (AsksSoak asked)) = inr (refl, refl)

    go : (e : WordsError) → (e ≡ words.Usage → asked ≡ None) → IsPrepared asked (words_status e) p p
    go words.Usage usage = subst (λ (o : Option Asked). IsPrepared o status.Usage p p) (sym (usage refl)) refl
    go words.NoMemory usage = no_memory asked

-- the tree is as it was
pub left_refused : {T : Type 0} → (asked : Option Asked) → (t : T) → IsLeftBy asked t t
left_refused None t = refl
left_refused (Some (AsksRun asked)) t = tt
left_refused (Some (AsksChain asked)) t = tt
left_refused (Some (AsksGen made)) t = refl
left_refused (Some (AsksSoak asked)) t = tt
