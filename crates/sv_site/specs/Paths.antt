-- Which file a path names.
use Rattle.std.specs.Prelude.{ℕ, ◌==◌, ◌&&◌, ◌||◌, not, Bool, false, List, [], ◌∷◌, ◌++◌, length, slice_index, codes, Option, None, Some, if◌then◌else◌}
use Rattle.std.specs.List.{list_all}
use Rattle.std.specs.Str.{bytes_eq}
use Rattle.std.specs.Char.{is_ascii_alphanumeric}
use Rattle.sv_site.specs.Parts.{parts_of}

abbrev pub slash : ℕ
slash = 47

abbrev pub dot : ℕ
dot = 46

-- a letter or a digit, '-', '_' or '.'
abbrev pub is_plain_byte : ℕ → Bool
is_plain_byte b = is_ascii_alphanumeric b || (b == 45) || (b == 95) || (b == dot)

-- A part of a path that names something in its folder: it is not empty, does not begin with a dot, and has such bytes alone.
abbrev pub is_plain : List ℕ → Bool
is_plain part = not (length part == 0) && not (slice_index part 0 == dot) && list_all is_plain_byte part

-- a path begins with a slash, and each part behind it names something in its folder
abbrev pub is_path : List ℕ → Bool
is_path [] = false
is_path (b ∷ below) = (b == slash) && list_all is_plain (parts_of slash below)

abbrev pub whole_path : List ℕ → List ℕ
whole_path path = if bytes_eq path (codes "/") then codes "/index.html" else path

-- the file of a folder that a path names, if it names one that is in the folder
abbrev pub file_of : List ℕ → List ℕ → Option (List ℕ)
file_of folder path = if is_path (whole_path path) then Some (folder ++ whole_path path) else None
