-- What words ask the program to tell of itself.
use Rattle.std.specs.Prelude.{◌≡◌, ℕ, List, [], ◌∷◌, ◌++◌, length, take, Bool, true, false, ◌||◌, Option, Some, None, codes, if◌then◌else◌}
use Rattle.std.specs.Str.{bytes_eq}
use Rattle.sv_main.specs.declared.help.Notice.{Notice}
use Rattle.sv_main.specs.declared.help.Notice.TheVariants as notices

abbrev pub notice_for : List ℕ → Option Notice
notice_for word = if bytes_eq word (codes "--help") then Some notices.Help
    else (if bytes_eq word (codes "--version") then Some notices.Version else None)

-- Only one word alone asks. `play --help` names a file.
abbrev pub notice_of : List (List ℕ) → Option Notice
notice_of [] = None
notice_of (word ∷ []) = notice_for word
notice_of (word ∷ next ∷ rest) = None

-- A part stands somewhere in a text.
abbrev pub stands_in : List ℕ → List ℕ → Bool
stands_in part [] = false
stands_in part (byte ∷ text) = bytes_eq (take (length part) (byte ∷ text)) part || stands_in part text

-- A line of the text shows a call of the program that begins with this word.
abbrev pub Shows : List ℕ → List ℕ → Type 0
Shows text word = stands_in (codes "\n  dimboetu " ++ word ++ codes " ") text ≡ true

-- The help shows a call of each kind, and the version is one line.
abbrev pub Tells : Notice → List ℕ → Type 0
Tells notices.Help text = Shows text (codes "replay") × Shows text (codes "play") × Shows text (codes "load") × Shows text (codes "looks")
    × Shows text (codes "witness") × Shows text (codes "serve") × Shows text (codes "host") × Shows text (codes "join") × Shows text (codes "check")
    × Shows text (codes "why") × Shows text (codes "world")
Tells notices.Version text = text ≡ codes "dimboetu 0.9.0\n"
