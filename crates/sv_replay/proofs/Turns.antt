-- Turns repeated until nothing changes, and turns of one element of a list after the other.
use Rattle.std.proofs.Common.{◌≡◌, ◌⊎◌, inl, inr, ℕ, zero, suc, ◌+◌, ◌<◌, ◌≤◌, List, [], ◌∷◌, map, length, set, Some, slice_get, refl, sym, ap, ◌∙◌, arith}
use Rattle.law_schedule.specs.Players.{Player, repeated, at_player}
use Rattle.law_schedule.proofs.DoneLists.{repeated-still}

-- ---- Repeated turns

pub repeated-outer : {A : Type 0} (n : ℕ) (f : A → A) (x : A) → repeated n f (f x) ≡ f (repeated n f x)
repeated-outer zero f x = refl
repeated-outer (suc n) f x = repeated-outer n f (f x)

-- With a measure of the work left, which each turn lessens unless it changes nothing, enough turns leave nothing to do.
pub repeated-settles : {A : Type 0} (work : A → ℕ) (f : A → A) → ((x : A) → (f x ≡ x) ⊎ (work (f x) < work x)) →
    (n : ℕ) (x : A) → work x ≤ n → f (repeated n f x) ≡ repeated n f x
repeated-settles work f falls zero x l = elim (falls x) [ inl e ↦ e | inr m ↦ absurd (omega arith) ]
repeated-settles work f falls (suc n) x l = elim (falls x) [
  | inl e ↦ (let s : repeated n f (f x) ≡ x = ap (repeated n f) e ∙ repeated-still n f x e in ap f s ∙ e ∙ sym s)
  | inr m ↦ repeated-settles work f falls n (f x) (omega arith)
]

-- More turns than are enough do nothing more.
pub repeated-more : {A : Type 0} (m n : ℕ) (f : A → A) (x : A) → f (repeated n f x) ≡ repeated n f x → n ≤ m → repeated m f x ≡ repeated n f x
repeated-more zero n f x e l = let same : n ≡ 0 = omega arith in rw same refl
repeated-more (suc m) zero f x e l = ap (repeated m f) e ∙ repeated-still m f x e
repeated-more (suc m) (suc n) f x e l = repeated-more m n f (f x) e (omega arith)

pub repeated-enough : {A : Type 0} (work : A → ℕ) (f : A → A) → ((x : A) → (f x ≡ x) ⊎ (work (f x) < work x)) →
    (m n : ℕ) (x : A) → work x ≤ n → work x ≤ m → repeated m f x ≡ repeated n f x
repeated-enough work f falls m n x l k =
    sym (repeated-more (m + n) m f x (repeated-settles work f falls m x k) (omega arith))
    ∙ repeated-more (m + n) n f x (repeated-settles work f falls n x l) (omega arith)

-- ---- One after the other

-- The elements from place k on, turned.
abbrev pub turned_from : {A : Type 0} → ℕ → (A → A) → List A → List A
turned_from zero f xs = map f xs
turned_from (suc k) f [] = []
turned_from (suc k) f (x ∷ xs) = x ∷ turned_from k f xs

pub turned-next : (f : Player → Player) (xs : List Player) (k : ℕ) → turned_from (suc k) f (at_player xs k f) ≡ turned_from k f xs
turned-next f [] zero = refl
turned-next f [] (suc k) = refl
turned-next f (x ∷ xs) zero = refl
turned-next f (x ∷ xs) (suc k) = ap (λ ys. x ∷ ys) (turned-next f xs k)

pub turned-all : (f : Player → Player) (xs : List Player) (k : ℕ) → length xs ≤ k → turned_from k f xs ≡ xs
turned-all f [] zero l = refl
turned-all f [] (suc k) l = refl
turned-all f (x ∷ xs) zero l = absurd (omega arith)
turned-all f (x ∷ xs) (suc k) l = ap (λ ys. x ∷ ys) (turned-all f xs k (omega arith))

pub place-length : (f : Player → Player) (xs : List Player) (k : ℕ) → length (at_player xs k f) ≡ length xs
place-length f [] k = refl
place-length f (x ∷ xs) zero = refl
place-length f (x ∷ xs) (suc k) = ap suc (place-length f xs k)

pub place-is : (f : Player → Player) (xs : List Player) (k : ℕ) (x : Player) → slice_get xs k ≡ Some x → at_player xs k f ≡ set xs k (f x)
place-is f [] k x e = refl
place-is f (y ∷ ys) zero x e = let same : y ≡ x = cc in ap (λ z. f z ∷ ys) same
place-is f (y ∷ ys) (suc k) x e = ap (λ zs. y ∷ zs) (place-is f ys k x e)

-- Turns of one element, again and again.
pub place-again : (n : ℕ) (f : Player → Player) (xs : List Player) (k : ℕ) → at_player (at_player xs k f) k (repeated n f) ≡ at_player xs k (repeated (suc n) f)
place-again n f [] k = refl
place-again n f (x ∷ xs) zero = refl
place-again n f (x ∷ xs) (suc k) = ap (λ ys. x ∷ ys) (place-again n f xs k)

pub place-none : (f : Player → Player) (xs : List Player) (k : ℕ) → at_player xs k (repeated zero f) ≡ xs
place-none f [] k = refl
place-none f (x ∷ xs) zero = refl
place-none f (x ∷ xs) (suc k) = ap (λ ys. x ∷ ys) (place-none f xs k)
