-- The setups of the small traces, and what a trace that makes a device prints first in them. Source: this project.
use Rattle.std.specs.Prelude.{ℕ, Bool, true, false, if◌then◌else◌, List, [], ◌∷◌, ◌++◌, codes, decimal}
use Rattle.command_tables.specs.declared.types.Code.TheVariants as code
use Rattle.object_model.specs.declared.PartKind.{PartKind}
use Rattle.object_model.specs.declared.PartKind.TheVariants as part
use Rattle.replay_model.specs.Setup.{Setup, Chain, Refused, TooLong}
use Rattle.replay_rows.specs.Traces.{said}

-- no bytes
abbrev pub is_empty : List ℕ → Bool
is_empty [] = true
is_empty (b ∷ bytes) = false

-- the first line of a chain
abbrev pub chain_line : ℕ → List ℕ → List ℕ
chain_line number rest = codes "chain " ++ decimal number ++ codes " " ++ rest

-- one driver and no layers
abbrev pub bare : Setup
bare = record {
  drivers = 1;
  notes = [];
  outcome = λ payload. Chain [] (λ number. said (chain_line number (codes "ok layers=0 parts=0 drivers=1") ∷ codes "driver 1 /etc/vulkan/icd.d/a.json libvulkan_a.so" ∷ []));
}

-- one driver below the Khronos validation layer
abbrev pub validation : Setup
validation = record {
  drivers = 1;
  notes = [];
  outcome = λ payload. Chain (part.Threads ∷ part.Lifetimes ∷ part.Unique ∷ []) (λ number. said (
      chain_line number (codes "ok layers=1 parts=3 drivers=1")
      ∷ codes "layer 1 VK_LAYER_KHRONOS_validation /usr/share/vulkan/explicit_layer.d/v.json"
      ∷ codes "part 1 threads VK_LAYER_KHRONOS_validation"
      ∷ codes "part 2 lifetimes VK_LAYER_KHRONOS_validation"
      ∷ codes "part 3 unique VK_LAYER_KHRONOS_validation"
      ∷ codes "driver 1 /etc/vulkan/icd.d/a.json libvulkan_a.so"
      ∷ []
      ));
}

-- no driver
abbrev pub no_driver : Setup
no_driver = record { drivers = 0; notes = []; outcome = λ payload. Refused code.ErrorIncompatibleDriver (λ number. said (chain_line number (codes "no-driver") ∷ [])) }

-- one driver, and a layer that checks lifetimes with no unique part nearer the driver
abbrev pub unguarded : Setup
unguarded = record { drivers = 1; notes = []; outcome = λ payload. Refused code.ErrorInitializationFailed (λ number. said (chain_line number (codes "unguarded " ++ payload) ∷ [])) }

-- one driver, and a chain of 65 layers whatever the application names
abbrev pub too_many_layers : Setup
too_many_layers = record { drivers = 1; notes = []; outcome = λ payload. TooLong 65 }

-- two drivers and no layers; a third driver's manifest has no version
abbrev pub two_drivers : Setup
two_drivers = record {
  drivers = 2;
  notes = said (codes "note NoVersion /etc/vulkan/icd.d/c.json" ∷ []);
  outcome = λ payload. Chain [] (λ number. said (
      chain_line number (codes "ok layers=0 parts=0 drivers=2")
      ∷ codes "driver 1 /etc/vulkan/icd.d/a.json libvulkan_a.so"
      ∷ codes "driver 2 /etc/vulkan/icd.d/b.json /etc/vulkan/icd.d/./libb.so"
      ∷ []
      ));
}

-- one driver below these parts; the chain's lines are left out
abbrev pub parts_alone : List PartKind → Setup
parts_alone parts = record { drivers = 1; notes = []; outcome = λ payload. Chain parts (λ number. []) }

-- a lifetimes part above a threads part
abbrev pub lifetimes_above_threads : Setup
lifetimes_above_threads = parts_alone (part.Lifetimes ∷ part.Threads ∷ part.Unique ∷ [])

-- two lifetimes parts
abbrev pub lifetimes_twice : Setup
lifetimes_twice = parts_alone (part.Lifetimes ∷ part.Lifetimes ∷ part.Unique ∷ [])

-- a threads part that checks alone
abbrev pub threads_alone : Setup
threads_alone = parts_alone (part.Threads ∷ part.Unique ∷ [])

-- one driver, below the parts of the validation layer where the application names any layer; the chain's lines are left out
abbrev pub layers_by_name : Setup
layers_by_name = record { drivers = 1; notes = []; outcome = λ payload. if is_empty payload then Chain [] (λ number. []) else Chain (part.Threads ∷ part.Lifetimes ∷ part.Unique ∷ []) (λ number. []) }

-- ---- the first lines of a trace that makes a device

-- where the chain's lines are left out
abbrev pub device_start : List (List ℕ)
device_start = codes "ret 1 vkCreateInstance VK_SUCCESS born=1" ∷ codes "ret 2 vkEnumeratePhysicalDevices VK_SUCCESS born=1" ∷ codes "ret 3 vkCreateDevice VK_SUCCESS born=1" ∷ []

-- without layers
abbrev pub bare_start : List (List ℕ)
bare_start = codes "chain 1 ok layers=0 parts=0 drivers=1" ∷ codes "driver 1 /etc/vulkan/icd.d/a.json libvulkan_a.so" ∷ device_start

-- below the validation layer
abbrev pub validation_start : List (List ℕ)
validation_start =
    codes "chain 1 ok layers=1 parts=3 drivers=1"
    ∷ codes "layer 1 VK_LAYER_KHRONOS_validation /usr/share/vulkan/explicit_layer.d/v.json"
    ∷ codes "part 1 threads VK_LAYER_KHRONOS_validation"
    ∷ codes "part 2 lifetimes VK_LAYER_KHRONOS_validation"
    ∷ codes "part 3 unique VK_LAYER_KHRONOS_validation"
    ∷ codes "driver 1 /etc/vulkan/icd.d/a.json libvulkan_a.so"
    ∷ device_start
