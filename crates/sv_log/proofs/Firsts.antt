-- The first file of a kind that a folder lists.
use Rattle.std.proofs.Common.{◌≡◌, ◌≢◌, ◌⊎◌, inl, inr, ⊎_elim, ℕ, ◌+◌, ◌<◌, ◌≤◌, List, [], ◌∷◌, ◌++◌, length, take, get_or, map, Option, Some, None, Contains, String, refl, sym, ◌∙◌, ap, subst, arith}
use Rattle.std.specs.String.{string_bytes}
use Rattle.std.specs.declared.alloc.Global.{Global}
use Rattle.std.proofs.lemmas.List.{take_more, get_or-map, length-map, take_all}
use Rattle.std.proofs.lemmas.List.Elements.{Contains-append_left, Contains-push, Contains-push_cases}
use Rattle.sv_log.specs.Names.{IsNumber, IsWrongName, Tells, file_name, segment_name, state_name, segment_kind, state_kind}
use Rattle.sv_log.specs.declared.names.FileKind.{FileKind}
use Rattle.sv_log.specs.declared.names.FileKind.TheVariants as file
use Rattle.sv_log.specs.Readings.{IsFirstNumber, IsOther}
use Rattle.sv_log.proofs.Numbers.{segment_injective, state_injective, segment_state}

pub file_injective : (k : FileKind) (m n : ℕ) → IsNumber m → IsNumber n → file_name k m ≡ file_name k n → m ≡ n
file_injective file.Segment m n p q e = segment_injective m n p q e
file_injective file.State m n p q e = state_injective m n p q e

-- what a name that is told is for each kind of file
pub state_no_segment : (n : ℕ) (name : List ℕ) → name ≡ state_name n → IsOther file.Segment name
state_no_segment n name is m number e = segment_state m n (sym e ∙ is)

pub segment_no_state : (n : ℕ) (name : List ℕ) → name ≡ segment_name n → IsOther file.State name
segment_no_state n name is m number e = segment_state n m (sym is ∙ e)

pub other_no_segment : (name : List ℕ) → ((more : List ℕ) → name ≡ segment_kind ++ more → ⊥) → IsOther file.Segment name
other_no_segment name none m number e = none _ e

pub other_no_state : (name : List ℕ) → ((more : List ℕ) → name ≡ state_kind ++ more → ⊥) → IsOther file.State name
other_no_state name none m number e = none _ e

pub known_not_wrong : (k : FileKind) (n : ℕ) (name : List ℕ) → IsNumber n → name ≡ file_name k n → IsWrongName name → ⊥
known_not_wrong file.Segment n name number is wrong = (wrong.1 n number).0 is
known_not_wrong file.State n name number is wrong = (wrong.1 n number).1 is

module _ (k : FileKind) (names : List (List ℕ)) (name : List ℕ) (least : ℕ) where
  -- one that is of no such file changes nothing
  pub first_other : (o : Option ℕ) → IsOther k name → IsFirstNumber k names least o → IsFirstNumber k (names ++ name ∷ []) least o
  first_other None other h = λ m number le has. ⊎_elim (λ c. h m number le c) (λ e. other m number e) (Contains-push_cases names name (file_name k m) has)
  first_other (Some n) other h = (
    h.0,
    h.1,
    Contains-append_left names (name ∷ []) (file_name k n) h.2,
    (λ m number le less has. ⊎_elim (λ c. h.3 m number le less c) (λ e. other m number e) (Contains-push_cases names name (file_name k m) has)),
  )

  module _ (n : ℕ) (known : IsNumber n) (is : name ≡ file_name k n) where
    same_number : (m : ℕ) → IsNumber m → name ≡ file_name k m → n ≡ m
    same_number m number e = file_injective k n m known number (sym is ∙ e)

    -- nor one of a lower number
    pub first_low : (o : Option ℕ) → n < least → IsFirstNumber k names least o → IsFirstNumber k (names ++ name ∷ []) least o
    first_low None low h = λ m number le has.
        ⊎_elim (λ c. h m number le c) (λ e. let s = same_number m number e in absurd (omega (arith, s, le, low))) (Contains-push_cases names name (file_name k m) has)
    first_low (Some other) low h = (
      h.0,
      h.1,
      Contains-append_left names (name ∷ []) (file_name k other) h.2,
      (λ m number le less has.
          ⊎_elim (λ c. h.3 m number le less c) (λ e. let s = same_number m number e in absurd (omega (arith, s, le, low))) (Contains-push_cases names name (file_name k m) has)),
    )

    -- nor one that comes later than one that is listed
    pub first_late : (other : ℕ) → other ≤ n → IsFirstNumber k names least (Some other) → IsFirstNumber k (names ++ name ∷ []) least (Some other)
    first_late other late h = (
      h.0,
      h.1,
      Contains-append_left names (name ∷ []) (file_name k other) h.2,
      (λ m number le less has.
          ⊎_elim (λ c. h.3 m number le less c) (λ e. let s = same_number m number e in absurd (omega (arith, s, late, less))) (Contains-push_cases names name (file_name k m) has)),
    )

    listed : Contains (names ++ name ∷ []) (file_name k n)
    listed = subst (λ (x : List ℕ). Contains (names ++ name ∷ []) x) is (Contains-push names name)

    pub first_one : least ≤ n → IsFirstNumber k names least None → IsFirstNumber k (names ++ name ∷ []) least (Some n)
    first_one le h = (
      known,
      le,
      listed,
      (λ m number from less has. ⊎_elim (λ c. h m number from c) (λ e. let s = same_number m number e in absurd (omega (arith, s, less))) (Contains-push_cases names name (file_name k m) has)),
    )

    pub first_early : (other : ℕ) → least ≤ n → n < other → IsFirstNumber k names least (Some other) → IsFirstNumber k (names ++ name ∷ []) least (Some n)
    first_early other le early h = (
      known,
      le,
      listed,
      (λ m number from less has.
          let below : m < other = omega (arith, less, early) in
          ⊎_elim (λ c. h.3 m number from below c) (λ e. let s = same_number m number e in absurd (omega (arith, s, less))) (Contains-push_cases names name (file_name k m) has)),
    )

-- the names up to one, and this one
pub names_more : (names : List (String Global)) (i : ℕ) (d : String Global) → i < length names → take (i + 1) (map string_bytes names) ≡ take i (map string_bytes names) ++ string_bytes (get_or names i d) ∷ []
names_more names i d within =
    take_more (map string_bytes names) i (string_bytes d) (subst (λ (n : ℕ). i < n) (sym (length-map names string_bytes)) within)
    ∙ ap (λ (x : List ℕ). take i (map string_bytes names) ++ x ∷ []) (get_or-map string_bytes names i d (string_bytes d) within)

pub names_all : (names : List (String Global)) (n : ℕ) → length names ≤ n → take n (map string_bytes names) ≡ map string_bytes names
names_all names n le = take_all n (map string_bytes names) (subst (λ (m : ℕ). m ≤ n) (sym (length-map names string_bytes)) le)

pub name_has : (names : List (String Global)) (i : ℕ) (d : String Global) → i < length names → Contains (map string_bytes names) (string_bytes (get_or names i d))
name_has names i d within = (i, subst (λ (n : ℕ). i < n) (sym (length-map names string_bytes)) within, get_or-map string_bytes names i d (string_bytes (get_or names i d)) within)

-- ---- Steps of loops over names

pub contains_none : {X : Type 0} (x : X) → Contains [] x → ⊥
contains_none x h = absurd (omega (arith, h.1))

-- no name is wrong
abbrev pub NoneWrong : List (List ℕ) → Type 0
NoneWrong names = (name : List ℕ) → Contains names name → IsWrongName name → ⊥

pub none_wrong_nil : NoneWrong []
none_wrong_nil name has wrong = contains_none name has

pub none_wrong_more : (names : List (String Global)) (i : ℕ) (d : String Global) → i < length names → NoneWrong (take i (map string_bytes names)) → (IsWrongName (string_bytes (get_or names i d)) → ⊥)
    → NoneWrong (take (i + 1) (map string_bytes names))
none_wrong_more names i d within none right =
    subst NoneWrong (sym (names_more names i d within))
    (λ name has wrong. ⊎_elim (λ c. none name c wrong) (λ e. right (subst IsWrongName (sym e) wrong)) (Contains-push_cases (take i (map string_bytes names)) (string_bytes (get_or names i d)) name has))

pub none_wrong_all : (names : List (String Global)) (n : ℕ) → length names ≤ n → NoneWrong (take n (map string_bytes names)) → NoneWrong (map string_bytes names)
none_wrong_all names n le none = subst NoneWrong (names_all names n le) none

pub first_nil : (k : FileKind) (least : ℕ) → IsFirstNumber k [] least None
first_nil k least m number le has = contains_none (file_name k m) has

pub first_more : (k : FileKind) (names : List (String Global)) (i : ℕ) (d : String Global) (least : ℕ) (o : Option ℕ) → i < length names
    → IsFirstNumber k (take i (map string_bytes names) ++ string_bytes (get_or names i d) ∷ []) least o → IsFirstNumber k (take (i + 1) (map string_bytes names)) least o
first_more k names i d least o within first = subst (λ (ns : List (List ℕ)). IsFirstNumber k ns least o) (sym (names_more names i d within)) first

pub first_all : (k : FileKind) (names : List (String Global)) (n : ℕ) (least : ℕ) (o : Option ℕ) → length names ≤ n → IsFirstNumber k (take n (map string_bytes names)) least o → IsFirstNumber k (map string_bytes names) least o
first_all k names n least o le first = subst (λ (ns : List (List ℕ)). IsFirstNumber k ns least o) (names_all names n le) first

-- a name was not met
abbrev pub NotIn : List (List ℕ) → List ℕ → Type 0
NotIn names wanted = Contains names wanted → ⊥

pub not_in_more : (names : List (String Global)) (i : ℕ) (d : String Global) (wanted : List ℕ) → i < length names → NotIn (take i (map string_bytes names)) wanted → string_bytes (get_or names i d) ≢ wanted
    → NotIn (take (i + 1) (map string_bytes names)) wanted
not_in_more names i d wanted within none ne =
    subst (λ (ns : List (List ℕ)). NotIn ns wanted) (sym (names_more names i d within))
    (λ has. ⊎_elim none ne (Contains-push_cases (take i (map string_bytes names)) (string_bytes (get_or names i d)) wanted has))
