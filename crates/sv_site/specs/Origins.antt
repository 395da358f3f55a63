-- From which pages an upgrade may come.
use Rattle.std.specs.Prelude.{ℕ, ◌||◌, Bool, false, List, [], ◌∷◌, drop, map, codes, Option, None, Some, if◌then◌else◌}
use Rattle.std.specs.List.{starts_with}
use Rattle.std.specs.Str.{bytes_eq}
use Rattle.std.specs.Char.{to_ascii_lowercase}
use Rattle.std.specs.Prelude.{◌==◌}

abbrev pub is_front : List ℕ → List ℕ → Bool
is_front front text = starts_with (λ a b. a == b) text front

-- what an origin has behind its scheme
abbrev pub place_of : List ℕ → Option (List ℕ)
place_of origin = if is_front (codes "http://") origin then Some (drop 7 origin)
    else (if is_front (codes "https://") origin then Some (drop 8 origin) else None)

abbrev pub is_named : List ℕ → List (List ℕ) → Bool
is_named origin [] = false
is_named origin (name ∷ names) = bytes_eq name origin || is_named origin names

-- a host and port, in small or capital letters
abbrev pub is_same_place : Option (List ℕ) → Option (List ℕ) → Bool
is_same_place None host = false
is_same_place (Some place) None = false
is_same_place (Some place) (Some host) = bytes_eq (map to_ascii_lowercase place) (map to_ascii_lowercase host)

-- a page of an origin is welcome whose host and port are those of the request, or which is named
abbrev pub is_welcome : List ℕ → Option (List ℕ) → List (List ℕ) → Bool
is_welcome origin host named = is_named origin named || is_same_place (place_of origin) host
