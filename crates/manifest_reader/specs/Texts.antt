-- Which texts may stand in a manifest, byte by byte.
-- Source: RFC 8259 section 7 (control characters); Khronos Vulkan-Loader, LoaderDriverInterface.md and LoaderLayerInterface.md,
-- the tables of manifest fields (versions, names). That names are visible ASCII, and the bounds, are this project's choice.
use Rattle.std.specs.Prelude.{ℕ, Bool, ◌&&◌, ◌==◌, List, length, nat_le}
use Rattle.std.specs.List.{list_all, slice_split}
use Rattle.std.specs.Char.{is_ascii_digit}

-- the least byte that is no control character
abbrev pub least_plain : ℕ
least_plain = 0x20

-- the least byte of a visible character of ASCII
abbrev pub least_visible : ℕ
least_visible = 0x21

-- the greatest byte of a visible character of ASCII
abbrev pub most_visible : ℕ
most_visible = 0x7E

-- the most bytes of a layer's name
abbrev pub longest_name : ℕ
longest_name = 255

-- the most digits of a number
abbrev pub longest_number : ℕ
longest_number = 9

-- the most numbers of a version
abbrev pub most_numbers : ℕ
most_numbers = 4

-- what stands between two numbers
abbrev pub full_stop : ℕ
full_stop = 46

-- no byte is a control character
unfoldable pub is_plain : List ℕ → Bool
is_plain text = list_all (λ b. nat_le least_plain b) text

-- plain, with one byte at least
unfoldable pub is_filled : List ℕ → Bool
is_filled text = nat_le 1 (length text) && is_plain text

-- each byte is a visible character of ASCII
unfoldable pub is_visible : List ℕ → Bool
is_visible text = list_all (λ b. nat_le least_visible b && nat_le b most_visible) text

-- one visible character at least and 255 at most
unfoldable pub is_name : List ℕ → Bool
is_name text = nat_le 1 (length text) && nat_le (length text) longest_name && is_visible text

-- each byte is a digit
unfoldable pub is_digits : List ℕ → Bool
is_digits text = list_all is_ascii_digit text

-- one digit at least and 9 at most
unfoldable pub is_number : List ℕ → Bool
is_number text = nat_le 1 (length text) && nat_le (length text) longest_number && is_digits text

-- what stands between full stops
unfoldable pub parts_of : List ℕ → List (List ℕ)
parts_of text = slice_split (λ b. b == full_stop) text

-- one number or up to 4, with a full stop between any two
unfoldable pub is_version : List ℕ → Bool
is_version text = nat_le (length (parts_of text)) most_numbers && list_all is_number (parts_of text)
