-- How pairs of a type and an id are found: entries in order of insertion, and chains through them. Source: this project.
use Rattle.std.specs.Prelude.{◌≡◌, ◌≢◌, ℕ, suc, ◌%◌, ◌≤◌, ◌<◌, ◌⊎◌, Bool, true, false, ◌&&◌, ◌==◌, List, [], ◌∷◌, length, map, slice_index, slice_index_or, bit_xor, replicate}
use Rattle.command_tables.specs.declared.types.ObjectType.{ObjectType}
use Rattle.command_tables.specs.declared.types.ObjectType.TheVariants as ty
use Rattle.command_tables.specs.Tests.{same_type}
use Rattle.handle_map.specs.Pairs.{AreDistinct, Pair, greatest_id, pair}
use Rattle.handle_map.specs.declared.entry.Entry.{Entry}

-- a type as a number, in the order of the types
abbrev pub type_number : ObjectType → ℕ
type_number ty.Instance = 0
type_number ty.PhysicalDevice = 1
type_number ty.Device = 2
type_number ty.Queue = 3
type_number ty.CommandBuffer = 4
type_number ty.Semaphore = 5
type_number ty.Fence = 6
type_number ty.DeviceMemory = 7
type_number ty.Buffer = 8
type_number ty.Image = 9
type_number ty.Event = 10
type_number ty.BufferView = 11
type_number ty.ImageView = 12
type_number ty.ShaderModule = 13
type_number ty.PipelineCache = 14
type_number ty.PipelineLayout = 15
type_number ty.RenderPass = 16
type_number ty.Pipeline = 17
type_number ty.DescriptorSetLayout = 18
type_number ty.Sampler = 19
type_number ty.DescriptorPool = 20
type_number ty.DescriptorSet = 21
type_number ty.Framebuffer = 22
type_number ty.CommandPool = 23
type_number ty.Surface = 24
type_number ty.Swapchain = 25

-- the chain of a pair, of so many chains
abbrev pub chain_of : ℕ → ObjectType → ℕ → ℕ
chain_of chains t id = bit_xor id (type_number t) % chains

-- the pair of an entry
abbrev pub pair_of : Entry → Pair
pair_of e = pair e.ty e.id

-- the pairs of all entries
abbrev pub pairs_of : List Entry → List Pair
pairs_of entries = map pair_of entries

-- a link into a chain, among the first so many entries: one more than the place of an entry of the chain, or 0. From it on no entry is
-- of the chain.
pub record IsLink (chains : ℕ) (entries : List Entry) (chain count link : ℕ) : Type 0 where
  pub within : link ≤ count
  pub here : (place : ℕ) (other : Entry) → link ≡ suc place → chain_of chains (slice_index_or entries place other).ty (slice_index_or entries place other).id ≡ chain
  pub none : (place : ℕ) (other : Entry) → link ≤ place → place < count → chain_of chains (slice_index_or entries place other).ty (slice_index_or entries place other).id ≢ chain

-- each entry links to those before it
abbrev pub AreLinked : ℕ → List Entry → Type 0
AreLinked chains entries = (place : ℕ) (other : Entry) → place < length entries
    → IsLink chains entries (chain_of chains (slice_index_or entries place other).ty (slice_index_or entries place other).id) place (slice_index_or entries place other).next

-- each chain's first link, where there are chains; with no entry there may be none
pub record AreFirst (chains : ℕ) (entries : List Entry) (firsts : List ℕ) : Type 0 where
  pub all : (length firsts ≡ chains) ⊎ ((firsts ≡ []) × (entries ≡ []))
  pub link : (chain : ℕ) → chain < length firsts → IsLink chains entries chain (length entries) (slice_index firsts chain)

-- the entries, their chains, of which there are some, and the greatest id fit together
pub record IsTable (chains : ℕ) (entries : List Entry) (firsts : List ℕ) (greatest : ℕ) : Type 0 where
  pub some : 1 ≤ chains
  pub linked : AreLinked chains entries
  pub first : AreFirst chains entries firsts
  pub distinct : AreDistinct (pairs_of entries)
  pub most : greatest ≡ greatest_id (pairs_of entries)

-- the entry is of this pair
abbrev pub is_at : ObjectType → ℕ → Entry → Bool
is_at t id e = same_type e.ty t && e.id == id

-- the entry at this place is of the pair
pub record IsPlace (entries : List Entry) (t : ObjectType) (id place : ℕ) : Type 0 where
  pub within : place < length entries
  pub pair : (other : Entry) → is_at t id (slice_index_or entries place other) ≡ true

-- no entry is of the pair
abbrev pub HasNoPlace : List Entry → ObjectType → ℕ → Type 0
HasNoPlace entries t id = (place : ℕ) (other : Entry) → place < length entries → is_at t id (slice_index_or entries place other) ≡ false

-- the chains' first links once there are chains: all empty where there were none
abbrev pub chains_made : ℕ → List ℕ → List ℕ
chains_made chains [] = replicate chains 0
chains_made chains (first ∷ firsts) = first ∷ firsts
