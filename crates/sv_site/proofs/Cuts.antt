-- Where a text is cut.
use Rattle.std.proofs.Common.{◌≡◌, ℕ, suc, ◌+◌, ◌-◌, ◌<◌, ◌≤◌, ◌==◌, cond, Bool, true, false, List, [], ◌∷◌, length, take, drop, Option, None, Some, refl, ap, arith, length-drop}
use Rattle.std.specs.Prelude.{position, nat_lt}
use Rattle.std.specs.Borrow.{Bor}
use Rattle.std.specs.List.{position_or_len, slice_split, onto_first}
use Rattle.std.proofs.lemmas.Bool.{ltb-false}
use Rattle.std.proofs.lemmas.List.{take_all}
use Rattle.std.proofs.lemmas.List.Splits.{slice_split_first}
use Rattle.sv_site.specs.Parts.{parts_of}

found_at : (b : Bool) (n at : ℕ) → cond b (Some n) None ≡ Some at → (b ≡ true) × (n ≡ at)
found_at true n at is = (refl, cc is)
found_at false n at is = absurd (cc is)

found_none : (b : Bool) (n : ℕ) → ◌≡◌ {A = Option ℕ} (cond b (Some n) None) None → b ≡ false
found_none true n is = absurd (cc is)
found_none false n is = refl

pub cut_some : (byte : ℕ) (text : List ℕ) (at : ℕ) → position (λ b. b == byte) text ≡ Some at → parts_of byte text ≡ take at text ∷ parts_of byte (take (length text - (at + 1)) (drop (at + 1) text))
cut_some byte text at is =
    let found = found_at (nat_lt (position_or_len (λ b. b == byte) text) (length text)) (position_or_len (λ b. b == byte) text) at is in
    let within : position_or_len (λ b. b == byte) text < length text = grind (arith, found.0) in
    let whole : take (length text - (at + 1)) (drop (at + 1) text) ≡ drop (at + 1) text = take_all (length text - (at + 1)) (drop (at + 1) text) (omega (arith, length-drop (at + 1) text)) in
    rw (whole, ← found.1) (slice_split_first (λ b. b == byte) text 0 within)

none_here : (byte b : ℕ) (text : List ℕ) (hit : Bool) → (b == byte) ≡ hit → length (b ∷ text) ≤ position_or_len (λ b. b == byte) (b ∷ text)
    → (length text ≤ position_or_len (λ b. b == byte) text → slice_split (λ b. b == byte) text ≡ text ∷ []) → slice_split (λ b. b == byte) (b ∷ text) ≡ (b ∷ text) ∷ []
none_here byte b text true is long more = absurd (omega (arith, rw is at long))
none_here byte b text false is long more = rw is (ap (onto_first b) (more (omega (arith, rw is at long))))

none_split : (byte : ℕ) (text : List ℕ) → length text ≤ position_or_len (λ b. b == byte) text → slice_split (λ b. b == byte) text ≡ text ∷ []
none_split byte [] long = refl
none_split byte (b ∷ text) long = none_here byte b text _ refl long (none_split byte text)

pub cut_none : (byte : ℕ) (text : List ℕ) → position (λ b. b == byte) text ≡ None → parts_of byte text ≡ text ∷ []
cut_none byte text is =
    none_split byte text (ltb-false _ _ (found_none (nat_lt (position_or_len (λ b. b == byte) text) (length text)) _ is))

-- what is left of a loop over parts
abbrev pub left_size : Option (Bor (List ℕ)) → ℕ
left_size None = 0
left_size (Some text) = suc (length text.now)
