-- Small generated traces as they are written. Source: this project.
use Rattle.std.specs.Prelude.{ℕ, true, List, [], ◌∷◌, ◌++◌, codes}
use Rattle.std.specs.List.{flat_map}
use Rattle.replay_base.specs.Lines.{line_text}

-- lines as a text, each with its LF
abbrev pub said : List (List ℕ) → List ℕ
said lines = flat_map (λ line. line_text line true) lines

-- calls, of which each returns at once
abbrev pub returned : List (List ℕ) → List (List ℕ)
returned calls = flat_map (λ call. call ∷ codes "r 1" ∷ []) calls

-- a trace that makes an instance and a device, with these calls behind them and then the ends of both
abbrev pub trace_of : List (List ℕ) → List ℕ
trace_of calls = said (codes "vktrace 1" ∷ returned (
    codes "b 1 vkCreateInstance = %1.1 VK_SUCCESS"
    ∷ codes "b 1 vkEnumeratePhysicalDevices %1.1 = %1.2 VK_SUCCESS"
    ∷ codes "b 1 vkCreateDevice %1.2 = %1.3 VK_SUCCESS"
    ∷ calls ++ codes "b 1 vkDestroyDevice %1.3 void" ∷ codes "b 1 vkDestroyInstance %1.1 void" ∷ []
    ))
