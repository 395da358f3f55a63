-- Rows keep the last outcomes.
use Rattle.std.proofs.Common.{◌≡◌, ℕ, zero, suc, ◌+◌, ◌-◌, ◌<◌, ◌≤◌, Bool, true, false, ◌&&◌, nat_le, nat_lt, List, [], ◌∷◌, ◌++◌, length, map, drop, slice_get, Option, Some, None, refl, sym, ap, ◌∙◌, arith, length-append}
use Rattle.std.proofs.lemmas.Bool.{leb-true, le-leb, ltb-true, lt-ltb}
use Rattle.std.proofs.lemmas.List.{drop-drop, drop-append-le, length-drop, length-map, map-append}
use Rattle.std.proofs.lemmas.Option.{slice_get_past}
use Rattle.std.specs.Prelude.{if◌then◌else◌}
use Rattle.std.specs.List.{remove}
use Rattle.sv_journal.specs.History.{Outcome}
use Rattle.sv_journal.specs.Sessions.{outcome_at}
use Rattle.sv_clients.specs.declared.outcome.Outcome.{Outcome as OutcomeRow}
use Rattle.sv_clients.specs.Clients.{KeptClient, no_client, last_of, KeepsOutcomes, outcome_value, with_outcome, is_told, told, kept_among}

-- ---- The last ones go on being the last ones

pub last_step : {A : Type 0} (n : ℕ) (xs : List A) (x : A) → 1 ≤ n → last_of n (last_of n xs ++ x ∷ []) ≡ last_of n (xs ++ x ∷ [])
last_step n xs x some =
    let k = length xs - n in
    let one : drop k (xs ++ x ∷ []) ≡ drop k xs ++ x ∷ [] = drop-append-le k xs (x ∷ []) (omega arith) in
    let size : length (xs ++ x ∷ []) ≡ length xs + 1 = length-append xs (x ∷ []) in
    let left : length (drop k (xs ++ x ∷ [])) ≡ length (xs ++ x ∷ []) - k = length-drop k (xs ++ x ∷ []) in
    ap (last_of n) (sym one)
    ∙ drop-drop (length (drop k (xs ++ x ∷ [])) - n) k (xs ++ x ∷ [])
    ∙ ap (λ m. drop m (xs ++ x ∷ [])) (omega (arith, size, left, some))

pub keeps_none : KeepsOutcomes [] no_client
keeps_none = record { count = refl; kept = refl }

pub keeps_life : (outcomes : List Outcome) (row : KeptClient) (life : ℕ) → KeepsOutcomes outcomes row → KeepsOutcomes outcomes (record row { life = life })
keeps_life outcomes row life keeps = record { count = keeps.count; kept = keeps.kept }

pub keeps_with_outcome : (outcomes : List Outcome) (row : KeptClient) (outcome : Outcome) → KeepsOutcomes outcomes row
    → KeepsOutcomes (outcomes ++ outcome ∷ []) (with_outcome outcome row)
keeps_with_outcome outcomes row outcome keeps = record {
  count = (let size = length-append outcomes (outcome ∷ []) in omega (arith, size, keeps.count));
  kept = ap (λ (xs : List Outcome). last_of 8 (xs ++ outcome ∷ [])) keeps.kept ∙ last_step 8 outcomes outcome (omega arith);
}

pub keeps_few : (outcomes : List Outcome) (row : KeptClient) → KeepsOutcomes outcomes row → length row.kept ≤ 8
keeps_few outcomes row keeps =
    let size : length row.kept ≡ length outcomes - (length outcomes - 8) = ap length keeps.kept ∙ length-drop (length outcomes - 8) outcomes in
    omega (arith, size)

-- ---- One more in the room for them

pub kept_room : (items : List OutcomeRow) (o : OutcomeRow) → length items < 8
    → map outcome_value (items ++ o ∷ []) ≡ last_of 8 (map outcome_value items ++ outcome_value o ∷ [])
kept_room items o room =
    let size : length (map outcome_value items ++ outcome_value o ∷ []) ≡ length (map outcome_value items) + 1 = length-append (map outcome_value items) (outcome_value o ∷ []) in
    let same : length (map outcome_value items) ≡ length items = length-map items outcome_value in
    let none : length (map outcome_value items ++ outcome_value o ∷ []) - 8 ≡ 0 = omega (arith, size, same, room) in
    map-append outcome_value items (o ∷ [])
    ∙ sym (ap (λ m. drop m (map outcome_value items ++ outcome_value o ∷ [])) none)

pub kept_full : (items : List OutcomeRow) (o : OutcomeRow) → length items ≡ 8
    → map outcome_value (remove items 0 ++ o ∷ []) ≡ last_of 8 (map outcome_value items ++ outcome_value o ∷ [])
kept_full [] o full = absurd (omega (arith, full))
kept_full (x ∷ items) o full =
    let size : length (map outcome_value items ++ outcome_value o ∷ []) ≡ length (map outcome_value items) + 1 = length-append (map outcome_value items) (outcome_value o ∷ []) in
    let same : length (map outcome_value items) ≡ length items = length-map items outcome_value in
    let one : suc (length (map outcome_value items ++ outcome_value o ∷ [])) - 8 ≡ 1 = omega (arith, size, same, full) in
    map-append outcome_value items (o ∷ [])
    ∙ sym (ap (λ m. drop m (outcome_value x ∷ (map outcome_value items ++ outcome_value o ∷ []))) one)

-- ---- What is told is kept

pub get_drop : {A : Type 0} (k i : ℕ) (xs : List A) → slice_get (drop k xs) i ≡ slice_get xs (k + i)
get_drop zero i xs = ap (slice_get xs) (omega arith)
get_drop (suc k) i [] = refl
get_drop (suc k) i (x ∷ xs) = get_drop k i xs ∙ ap (slice_get (x ∷ xs)) (let e : suc (k + i) ≡ suc k + i = omega arith in e)

both : (a b : Bool) → (a && b) ≡ true → (a ≡ true) × (b ≡ true)
both true b e = (refl, e)
both false b e = cc

-- where it is told
told_yes : (outcomes : List Outcome) (row : KeptClient) (seq : ℕ) → KeepsOutcomes outcomes row → seq ≤ row.count → row.count < seq + length row.kept
    → slice_get row.kept (seq + length row.kept - row.count - 1) ≡ kept_among outcomes seq
told_yes outcomes row zero keeps low high =
    let size : length row.kept ≡ length outcomes - (length outcomes - 8) = ap length keeps.kept ∙ length-drop (length outcomes - 8) outcomes in
    absurd (omega (arith, size, high, keeps.count))
told_yes outcomes row (suc n) keeps low high =
    let k = length outcomes - 8 in
    let size : length row.kept ≡ length outcomes - k = ap length keeps.kept ∙ length-drop k outcomes in
    let at : ℕ = suc n + length row.kept - row.count - 1 in
    let place : k + at ≡ n = omega (arith, size, low, high, keeps.count) in
    ap (λ (xs : List Outcome). slice_get xs at) keeps.kept ∙ get_drop k at outcomes ∙ ap (slice_get outcomes) place
    ∙ sym (rw (le-leb (suc (length outcomes)) (suc n + 8) (omega (arith, size, high, keeps.count))) refl)

-- where it is not
told_no : (outcomes : List Outcome) (row : KeptClient) (seq : ℕ) → KeepsOutcomes outcomes row → is_told row seq ≡ false
    → None ≡ kept_among outcomes seq
told_no outcomes row zero keeps none = go (nat_le (suc (length outcomes)) 8)
  where
    go : (b : Bool) → ◌≡◌ {A = Option Outcome} None (if b then None else None)
    go true = refl
    go false = refl
told_no outcomes row (suc n) keeps none = go (nat_le (suc (length outcomes)) (suc n + 8)) refl
  where
    size : length row.kept ≡ length outcomes - (length outcomes - 8)
    size = ap length keeps.kept ∙ length-drop (length outcomes - 8) outcomes

    past : suc (length outcomes) ≤ suc n + 8 → length outcomes ≤ n
    past close = grind (arith, close, size, keeps.count, none)

    go : (b : Bool) → nat_le (suc (length outcomes)) (suc n + 8) ≡ b → None ≡ (if b then slice_get outcomes n else None)
    go true e = sym (slice_get_past outcomes n (past (leb-true (suc (length outcomes)) (suc n + 8) e)))
    go false e = refl

pub told_is : (outcomes : List Outcome) (row : KeptClient) (seq : ℕ) → KeepsOutcomes outcomes row → told row seq ≡ kept_among outcomes seq
told_is outcomes row seq keeps = go (is_told row seq) refl
  where
    go : (b : Bool) → is_told row seq ≡ b → (if b then slice_get row.kept (seq + length row.kept - row.count - 1) else None) ≡ kept_among outcomes seq
    go true e = let t = both (nat_le seq row.count) (nat_lt row.count (seq + length row.kept)) e in
        told_yes outcomes row seq keeps (leb-true seq row.count t.0) (ltb-true row.count (seq + length row.kept) t.1)
    go false e = told_no outcomes row seq keeps e

pub told_none : (seq : ℕ) → told no_client seq ≡ None
told_none seq = go (is_told no_client seq)
  where
    go : (b : Bool) → (if b then slice_get no_client.kept (seq + length no_client.kept - no_client.count - 1) else None) ≡ None
    go true = refl
    go false = refl
