-- The type of a file, by its ending.
use Rattle.std.specs.Prelude.{◌≡◌, ◌≢◌, ℕ, List, ◌∷◌, ◌++◌, codes, if◌then◌else◌}
use Rattle.std.specs.List.{AllByRecursion}
use Rattle.std.specs.Str.{bytes_eq}
use Rattle.sv_site.specs.declared.kinds.KindOfFile.{KindOfFile}
use Rattle.sv_site.specs.declared.kinds.KindOfFile.TheVariants as kind
use Rattle.sv_site.specs.Paths.{dot}

abbrev pub kind_by : List ℕ → KindOfFile
kind_by ending = if bytes_eq ending (codes "html") then kind.Html
    else (if bytes_eq ending (codes "js") then kind.Js
    else (if bytes_eq ending (codes "css") then kind.Css
    else (if bytes_eq ending (codes "json") then kind.Json
    else (if bytes_eq ending (codes "svg") then kind.Svg
    else (if bytes_eq ending (codes "png") then kind.Png
    else (if bytes_eq ending (codes "jpg") then kind.Jpg
    else (if bytes_eq ending (codes "ico") then kind.Ico
    else (if bytes_eq ending (codes "txt") then kind.Txt
    else (if bytes_eq ending (codes "wasm") then kind.Wasm
    else kind.Other)))))))))

abbrev pub HasNoDot : List ℕ → Type 0
HasNoDot text = AllByRecursion (λ b. b ≢ dot) text

-- it is told by what a name has behind its last dot
pub record IsKindOf (name : List ℕ) (kind_is : KindOfFile) : Type 0 where
  pub ends : (front ending : List ℕ) → name ≡ front ++ dot ∷ ending → HasNoDot ending → kind_is ≡ kind_by ending
  pub plain : HasNoDot name → kind_is ≡ kind.Other
