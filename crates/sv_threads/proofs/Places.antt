-- Lists by their places, and one thing for each client.
use Rattle.std.proofs.Common.{◌≡◌, ℕ, zero, suc, ◌+◌, List, [], ◌∷◌, ◌++◌, map, length, slice_get, Some, refl, sym, ap, subst, ◌∙◌, arith, append_assoc, length-append}
use Rattle.std.specs.List.{AllByRecursion, AllZip, flat_map}
use Rattle.std.proofs.lemmas.Option.{none-some, same_Some}
use Rattle.sv_client.specs.declared.trace.Trace.{Trace}
use Rattle.sv_scenario.specs.declared.scenario.Plan.{Plan}
use Rattle.sv_scenario.specs.Sessions.{sessions_of_plan, sessions_in}
use Rattle.law_system.specs.Records.{EachTrace}
use Rattle.law_system.specs.Places.{EachPlace}
use Rattle.sv_threads.specs.Places.{EachClient}

-- ---- Places

pub each_zip : {X Y : Type 0} (P : ℕ → X → Type 0) (R : X → Y → Type 0) (Q : ℕ → Y → Type 0) (xs : List X) (ys : List Y) → EachPlace P xs → AllZip R xs ys →
    ((k : ℕ) (x : X) (y : Y) → P k x → R x y → Q k y) → (k : ℕ) (y : Y) → slice_get ys k ≡ Some y → Q k y
each_zip P R Q [] [] all zip f k w e = absurd (none-some w e)
each_zip P R Q [] (y ∷ ys) all zip f k w e = absurd zip
each_zip P R Q (x ∷ xs) [] all zip f k w e = absurd zip
each_zip P R Q (x ∷ xs) (y ∷ ys) all zip f zero w e = subst (Q 0) (same_Some y w e) (f 0 x y (all 0 x refl) zip.0)
each_zip P R Q (x ∷ xs) (y ∷ ys) all zip f (suc k) w e = each_zip (λ n. P (suc n)) R (λ n. Q (suc n)) xs ys (λ n. all (suc n)) zip.1 (λ n. f (suc n)) k w e

pub zip_at : {X Y : Type 0} (R : X → Y → Type 0) (xs : List X) (ys : List Y) (k : ℕ) (x : X) (y : Y) → AllZip R xs ys → slice_get xs k ≡ Some x → slice_get ys k ≡ Some y → R x y
zip_at R [] ys k x y all ex ey = absurd (none-some x ex)
zip_at R (a ∷ xs) [] k x y all ex ey = absurd all
zip_at R (a ∷ xs) (b ∷ ys) zero x y all ex ey = subst (λ w. R w y) (same_Some a x ex) (subst (R a) (same_Some b y ey) all.0)
zip_at R (a ∷ xs) (b ∷ ys) (suc k) x y all ex ey = zip_at R xs ys k x y all.1 ex ey

pub zip_from : {X Y : Type 0} (R : X → Y → Type 0) (xs : List X) (ys : List Y) → length xs ≡ length ys →
    ((k : ℕ) (x : X) (y : Y) → slice_get xs k ≡ Some x → slice_get ys k ≡ Some y → R x y) → AllZip R xs ys
zip_from R [] [] same f = tt
zip_from R [] (y ∷ ys) same f = absurd (omega (arith, same))
zip_from R (x ∷ xs) [] same f = absurd (omega (arith, same))
zip_from R (x ∷ xs) (y ∷ ys) same f = (f 0 x y refl refl, zip_from R xs ys (omega (arith, same)) (λ n. f (suc n)))

-- ---- One behind the other

left_at : {X : Type 0} (xs ys : List X) (k : ℕ) (x : X) → slice_get xs k ≡ Some x → slice_get (xs ++ ys) k ≡ Some x
left_at [] ys k x e = absurd (none-some x e)
left_at (y ∷ xs) ys zero x e = e
left_at (y ∷ xs) ys (suc k) x e = left_at xs ys k x e

right_at : {X : Type 0} (xs ys : List X) (n k : ℕ) → n ≡ length xs + k → slice_get (xs ++ ys) n ≡ slice_get ys k
right_at [] ys n k e = ap (slice_get ys) (omega (arith, e))
right_at (x ∷ xs) ys zero k e = absurd (omega (arith, e))
right_at (x ∷ xs) ys (suc n) k e = right_at xs ys n k (omega (arith, e))

each_append : {X : Type 0} (P : ℕ → X → Type 0) (s t : ℕ) (xs ys : List X) → t ≡ s + length xs → EachPlace (λ j. P (s + j)) xs → EachPlace (λ j. P (t + j)) ys →
    (k : ℕ) (x : X) → slice_get (xs ++ ys) k ≡ Some x → P (s + k) x
each_append P s t [] ys e left right k x at = subst (λ n. P n x) (omega (arith, e)) (right k x at)
each_append P s t (y ∷ xs) ys e left right zero x at = left 0 x at
each_append P s t (y ∷ xs) ys e left right (suc k) x at =
    let onward = each_append P (suc s) t xs ys (omega (arith, e)) (λ j z h. subst (λ n. P n z) (omega arith) (left (suc j) z h)) right k x at in
    subst (λ n. P n x) (omega arith) onward

-- ---- Clients

pub each_client_map : {X : Type 0} (P Q : ℕ → ℕ → Plan → X → Type 0) (k s : ℕ) (plans : List Plan) (xs : List X) → EachClient P k s plans xs →
    ((k s : ℕ) (plan : Plan) (x : X) → P k s plan x → Q k s plan x) → EachClient Q k s plans xs
each_client_map P Q k s [] [] all f = tt
each_client_map P Q k s [] (x ∷ xs) all f = absurd all
each_client_map P Q k s (plan ∷ plans) [] all f = absurd all
each_client_map P Q k s (plan ∷ plans) (x ∷ xs) all f = (f k s plan x all.0, each_client_map P Q (suc k) (s + sessions_of_plan plan) plans xs all.1 f)

pub each_client_both : {X : Type 0} (P Q R : ℕ → ℕ → Plan → X → Type 0) (k s : ℕ) (plans : List Plan) (xs : List X) → EachClient P k s plans xs → EachClient Q k s plans xs →
    ((k s : ℕ) (plan : Plan) (x : X) → P k s plan x → Q k s plan x → R k s plan x) → EachClient R k s plans xs
each_client_both P Q R k s [] [] all also f = tt
each_client_both P Q R k s [] (x ∷ xs) all also f = absurd all
each_client_both P Q R k s (plan ∷ plans) [] all also f = absurd all
each_client_both P Q R k s (plan ∷ plans) (x ∷ xs) all also f =
    (f k s plan x all.0 also.0, each_client_both P Q R (suc k) (s + sessions_of_plan plan) plans xs all.1 also.1 f)

-- a fact of all is one of each client's
pub each_client_with : {X : Type 0} (P : ℕ → ℕ → Plan → X → Type 0) (Q : X → Type 0) (R : ℕ → ℕ → Plan → X → Type 0) (k s : ℕ) (plans : List Plan) (xs : List X) → EachClient P k s plans xs → AllByRecursion Q xs →
    ((k s : ℕ) (plan : Plan) (x : X) → P k s plan x → Q x → R k s plan x) → EachClient R k s plans xs
each_client_with P Q R k s [] [] all also f = tt
each_client_with P Q R k s [] (x ∷ xs) all also f = absurd all
each_client_with P Q R k s (plan ∷ plans) [] all also f = absurd all
each_client_with P Q R k s (plan ∷ plans) (x ∷ xs) all also f =
    (f k s plan x all.0 also.0, each_client_with P Q R (suc k) (s + sessions_of_plan plan) plans xs all.1 also.1 f)

pub each_client_zip : {X Y : Type 0} (P : ℕ → ℕ → Plan → X → Type 0) (R : X → Y → Type 0) (Q : ℕ → ℕ → Plan → Y → Type 0) (k s : ℕ) (plans : List Plan) (xs : List X) (ys : List Y) →
    EachClient P k s plans xs → AllZip R xs ys → ((k s : ℕ) (plan : Plan) (x : X) (y : Y) → P k s plan x → R x y → Q k s plan y) → EachClient Q k s plans ys
each_client_zip P R Q k s [] [] [] all zip f = tt
each_client_zip P R Q k s [] [] (y ∷ ys) all zip f = absurd zip
each_client_zip P R Q k s [] (x ∷ xs) ys all zip f = absurd all
each_client_zip P R Q k s (plan ∷ plans) [] ys all zip f = absurd all
each_client_zip P R Q k s (plan ∷ plans) (x ∷ xs) [] all zip f = absurd zip
each_client_zip P R Q k s (plan ∷ plans) (x ∷ xs) (y ∷ ys) all zip f =
    (f k s plan x y all.0 zip.0, each_client_zip P R Q (suc k) (s + sessions_of_plan plan) plans xs ys all.1 zip.1 f)

pub each_client_all : {X : Type 0} (P : ℕ → ℕ → Plan → X → Type 0) (Q : X → Type 0) (k s : ℕ) (plans : List Plan) (xs : List X) → EachClient P k s plans xs →
    ((k s : ℕ) (plan : Plan) (x : X) → P k s plan x → Q x) → AllByRecursion Q xs
each_client_all P Q k s [] [] all f = tt
each_client_all P Q k s [] (x ∷ xs) all f = absurd all
each_client_all P Q k s (plan ∷ plans) [] all f = absurd all
each_client_all P Q k s (plan ∷ plans) (x ∷ xs) all f = (f k s plan x all.0, each_client_all P Q (suc k) (s + sessions_of_plan plan) plans xs all.1 f)

pub each_client_trace : {X : Type 0} (P : ℕ → ℕ → Plan → X → Type 0) (R : Plan → Trace → Type 0) (g : X → Trace) (k s : ℕ) (plans : List Plan) (xs : List X) → EachClient P k s plans xs →
    ((k s : ℕ) (plan : Plan) (x : X) → P k s plan x → R plan (g x)) → EachTrace R plans (map g xs)
each_client_trace P R g k s [] [] all f = tt
each_client_trace P R g k s [] (x ∷ xs) all f = absurd all
each_client_trace P R g k s (plan ∷ plans) [] all f = absurd all
each_client_trace P R g k s (plan ∷ plans) (x ∷ xs) all f = (f k s plan x all.0, each_client_trace P R g (suc k) (s + sessions_of_plan plan) plans xs all.1 f)

pub clients_count : {X : Type 0} (P : ℕ → ℕ → Plan → X → Type 0) (k s : ℕ) (plans : List Plan) (xs : List X) → EachClient P k s plans xs → length xs ≡ length plans
clients_count P k s [] [] all = refl
clients_count P k s [] (x ∷ xs) all = absurd all
clients_count P k s (plan ∷ plans) [] all = absurd all
clients_count P k s (plan ∷ plans) (x ∷ xs) all = let same = clients_count P (suc k) (s + sessions_of_plan plan) plans xs all.1 in omega (arith, same)

-- ---- One list of what the clients have for their sessions

module _ {X Y : Type 0} (g : X → List Y) where
  abbrev pub HasAll : ℕ → ℕ → Plan → X → Type 0
  HasAll k s plan x = length (g x) ≡ sessions_of_plan plan

  pub flat_length : (k s : ℕ) (plans : List Plan) (xs : List X) → EachClient HasAll k s plans xs → length (flat_map g xs) ≡ sessions_in plans
  flat_length k s [] [] all = refl
  flat_length k s [] (x ∷ xs) all = absurd all
  flat_length k s (plan ∷ plans) [] all = absurd all
  flat_length k s (plan ∷ plans) (x ∷ xs) all =
      let rest = flat_length (suc k) (s + sessions_of_plan plan) plans xs all.1 in
      let own = all.0 in
      let both = length-append (g x) (flat_map g xs) in
      omega (arith, rest, own, both)

  pub flat_place : (whole : List Y) (k s : ℕ) (plans : List Plan) (xs : List X) (before : List Y) → length before ≡ s → whole ≡ before ++ flat_map g xs → EachClient HasAll k s plans xs →
      EachClient (λ k s plan x. (j : ℕ) (y : Y) → slice_get (g x) j ≡ Some y → slice_get whole (s + j) ≡ Some y) k s plans xs
  flat_place whole k s [] [] before long are all = tt
  flat_place whole k s [] (x ∷ xs) before long are all = absurd all
  flat_place whole k s (plan ∷ plans) [] before long are all = absurd all
  flat_place whole k s (plan ∷ plans) (x ∷ xs) before long are all = (
    λ j y e.
        ap (λ (l : List Y). slice_get l (s + j)) are
        ∙ (right_at before (g x ++ flat_map g xs) (s + j) j (omega (arith, long)) ∙ left_at (g x) (flat_map g xs) j y e),
    flat_place whole (suc k) (s + sessions_of_plan plan) plans xs (before ++ g x)
        (let own = all.0 in let both = length-append before (g x) in omega (arith, long, own, both))
        (are ∙ sym (append_assoc before (g x) (flat_map g xs))) all.1,
  )

  pub flat_each : (P : ℕ → Y → Type 0) (k s : ℕ) (plans : List Plan) (xs : List X) → EachClient HasAll k s plans xs → EachClient (λ k s plan x. EachPlace (λ j. P (s + j)) (g x)) k s plans xs →
      (j : ℕ) (y : Y) → slice_get (flat_map g xs) j ≡ Some y → P (s + j) y
  flat_each P k s [] [] all each j y e = absurd (none-some y e)
  flat_each P k s [] (x ∷ xs) all each j y e = absurd all
  flat_each P k s (plan ∷ plans) [] all each j y e = absurd all
  flat_each P k s (plan ∷ plans) (x ∷ xs) all each j y e =
      each_append P s (s + sessions_of_plan plan) (g x) (flat_map g xs) (ap (λ n. s + n) (sym all.0)) each.0
      (flat_each P (suc k) (s + sessions_of_plan plan) plans xs all.1 each.1) j y e
