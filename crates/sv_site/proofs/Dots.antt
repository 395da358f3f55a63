-- The last dot of a name.
use Rattle.std.proofs.Common.{◌≡◌, ◌≢◌, ◌==◌, ℕ, suc, ◌<◌, List, [], ◌∷◌, ◌++◌, length, get_or, take, drop, refl, sym, ap, subst, ◌∙◌, lit<, arith}
use Rattle.std.specs.Str.{NoCharPasses}
use Rattle.std.specs.Str.Pattern.{HasCharAt}
use Rattle.std.proofs.lemmas.List.{take-append-drop}
use Rattle.std.proofs.lemmas.Str.Pattern.{NoCharPasses-char, drop_at_char}
use Rattle.sv_site.specs.declared.kinds.KindOfFile.{KindOfFile}
use Rattle.sv_site.specs.declared.kinds.KindOfFile.TheVariants as kind
use Rattle.sv_site.specs.Paths.{dot}
use Rattle.sv_site.specs.Kinds.{HasNoDot, kind_by, IsKindOf}

pub no_dot_by_reads : (text : List ℕ) → ((i : ℕ) → i < length text → get_or text i 0 ≢ dot) → HasNoDot text
no_dot_by_reads [] none = tt
no_dot_by_reads (b ∷ text) none = (none 0 (omega arith), no_dot_by_reads text (λ i below. none (suc i) (omega arith)))

pub dot_within : (front ending : List ℕ) → HasNoDot (front ++ dot ∷ ending) → ⊥
dot_within [] ending none = none.0 refl
dot_within (b ∷ front) ending none = dot_within front ending none.1

-- what stands behind the last dot
pub last_dot : (front other ending behind : List ℕ) → front ++ dot ∷ ending ≡ other ++ dot ∷ behind → HasNoDot ending → HasNoDot behind → ending ≡ behind
last_dot [] [] ending behind is none also = cc is
last_dot [] (b ∷ other) ending behind is none also =
    let same : ending ≡ other ++ dot ∷ behind = cc is in absurd (dot_within other behind (subst HasNoDot same none))
last_dot (b ∷ front) [] ending behind is none also =
    let same : behind ≡ front ++ dot ∷ ending = cc is in absurd (dot_within front ending (subst HasNoDot same also))
last_dot (b ∷ front) (c ∷ other) ending behind is none also =
    let same : front ++ dot ∷ ending ≡ other ++ dot ∷ behind = cc is in last_dot front other ending behind same none also

-- the last dot was found, and the kind is told by what stands behind it
pub kind_told : (name ending : List ℕ) (i j : ℕ) (told : KindOfFile) → NoCharPasses (λ d. d == 46) (drop j name) → HasCharAt 46 name i j → ending ≡ drop j name → told ≡ kind_by ending → IsKindOf name told
kind_told name ending i j told free found behind by =
    let at : drop i name ≡ dot ∷ drop j name = drop_at_char 46 name i j found (lit< tt) in
    let whole : name ≡ take i name ++ dot ∷ drop j name = sym (take-append-drop i name) ∙ ap (λ l. take i name ++ l) at in
    let none : HasNoDot (drop j name) = no_dot_by_reads (drop j name) (λ k below. NoCharPasses-char 46 (drop j name) k free (lit< tt) below) in
    record {
      ends = λ front other is also. by ∙ ap kind_by (behind ∙ last_dot (take i name) front (drop j name) other (sym whole ∙ is) none also);
      plain = λ also. absurd (dot_within (take i name) (drop j name) (subst HasNoDot whole also));
    }

-- there was no dot
pub kind_other : (name : List ℕ) → NoCharPasses (λ d. d == 46) name → IsKindOf name kind.Other
kind_other name free =
    let none : HasNoDot name = no_dot_by_reads name (λ k below. NoCharPasses-char 46 name k free (lit< tt) below) in
    record {
      ends = λ front ending is also. absurd (dot_within front ending (subst HasNoDot is none));
      plain = λ also. refl;
    }
