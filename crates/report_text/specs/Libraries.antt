-- Where a driver's library is. Source: Khronos Vulkan-Loader, LoaderDriverInterface.md, `library_path`: a name alone is searched
-- by the system, a path that begins with a slash is taken as it is, and any other is one from the manifest's folder.
use Rattle.std.specs.Prelude.{ℕ, ◌==◌, Bool, not, ◌&&◌, if◌then◌else◌, List, ◌++◌, codes, slice_index}
use Rattle.std.specs.List.{list_any, before_last}

-- a byte is a slash
abbrev pub is_slash : ℕ → Bool
is_slash b = b == 47

-- a path holds a slash
abbrev pub has_slash : List ℕ → Bool
has_slash path = list_any is_slash path

-- the folder of a file: what stands before the last slash of its path, and `.` where it has none
abbrev pub folder_of : List ℕ → List ℕ
folder_of path = if has_slash path then before_last is_slash path else codes "."

-- a path from a folder: it holds a slash, and doesn't begin with one
abbrev pub is_from_folder : List ℕ → Bool
is_from_folder path = has_slash path && not (is_slash (slice_index path 0))

-- where the library of a manifest at a path is
unfoldable pub library_text : List ℕ → List ℕ → List ℕ
library_text manifest library = if is_from_folder library then folder_of manifest ++ codes "/" ++ library else library
